use Rattle.causal_audit.proofs.Common.{◌≡◌, ◌+◌, ◌-◌, ◌<◌, length, Some, refl, sym, ap, ◌∙◌, arith, slice_set, length-set, entry_at, entries_of, Recording}
use Rattle.causal_audit.specs.Inside.Index.Departures.{process_at, departure_at, with_delivered}
use Rattle.causal_audit.proofs.index.Reachable.{reached_begun, reached_next}
use Rattle.causal_audit.proofs.index.Receivers.{process_is, noted_length, spreads_begun, spreads_next}
use Rattle.causal_audit.proofs.Steps.{entry_read}
use Rattle.causal_trace.proofs.Lemmas.AtInstants.{how_many}
use Rattle.causal_audit.proofs.index.effects.effects_of.Goals as goal

pub loop-i-init : goal.loop-i-init
loop-i-init c = record {
  within = omega arith;
  count = omega (arith, c.in_ok-departures.ensures.len);
  lanes = refl;
  sets = omega (arith, c.in_ok-sets.ensures.len);
  departures = λ r formed read.
      let many = how_many r c.args.entries.now read in
      spreads_begun r.processes r.past formed.accepted (process_at r.past) _ c.in_ok-departures.departures.items _ many (omega (arith, c.in_ok-departures.ensures.len, many));
  reached = λ r formed read. grind (arith, how_many r c.args.entries.now read, reached_begun r.past);
}

pub loop-i-preserved : goal.loop-i-preserved
loop-i-preserved c =
    let i = c.loop-i.i - 1 in
    let e = c.index-entries-i.result in
    let back : i + 1 ≡ c.loop-i.i = omega (arith, c.loop-i-test.true) in
    let first = departure_at e i c.event_process.result c.loop-i.departures.items c.loop-i.outs in
    let written : c.note_departure.new.spreads.items ≡ slice_set (with_delivered e i c.loop-i.departures.items) i first = grind arith in
    let outs : c.note_departure.new.outs ≡ slice_set c.loop-i.outs c.event_process.result first = grind arith in
    let below : i < length c.args.entries.now = omega (arith, c.loop-i-test.true, c.loop-i.invariant.within) in
    let at : (r : Recording) → c.args.entries.now ≡ entries_of r → (i < length r.past) × (entry_at r.past i ≡ Some e) = λ r read.
    let here : i < length r.past = omega (arith, below, how_many r c.args.entries.now read) in
    (here, entry_read r c.args.entries.now read i e here c.index-entries-i.is) in
    record {
      within = omega (arith, below);
      count = omega (arith, ap length written, length-set (with_delivered e i c.loop-i.departures.items) i first, noted_length e i c.loop-i.departures.items, c.loop-i.invariant.count);
      lanes = omega (arith, ap length outs, length-set c.loop-i.outs c.event_process.result first, c.loop-i.invariant.lanes);
      sets = c.note_send.ensures.count;
      departures = λ r formed read.
          rw (written, outs)
          (spreads_next r.processes r.past formed.accepted (process_at r.past) i c.event_process.result e c.loop-i.departures.items c.loop-i.outs (at r read).1 (at r read).0 (process_is r.past i e (at r read).1 ∙ sym c.event_process.ensures) (omega (arith, c.loop-i.invariant.lanes, c.event_process.type_inv))
          (rw back (c.loop-i.invariant.departures r formed read)));
      reached = λ r formed read.
          rw c.note_send.ensures.reached
          (reached_next r.processes r.past formed.accepted i e (at r read).1 c.loop-i.sets.items (λ from to ssn is. omega (arith, c.note_send.ensures.bound from to ssn is, c.loop-i.invariant.sets)) (rw back (c.loop-i.invariant.reached r formed read)));
    }
