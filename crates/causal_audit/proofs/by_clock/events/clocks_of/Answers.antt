use Rattle.causal_audit.proofs.Common.{◌≡◌, ◌+◌, ◌≤◌, ◌∷◌, ◌++◌, length, take, drop, arith, subst, length-reverse, instant, AreLegalEntries, accepted_then, restarts}
use Rattle.causal_trace.proofs.Lemmas.AtInstants.{at_instant, next_state}
use Rattle.causal_trace.proofs.Lemmas.WellFormed.{restarts_before}
use Rattle.std.proofs.lemmas.Grind.{common_steps}
use Rattle.causal_audit.specs.Inside.ByClock.ClockOfRun.{IsClockWithLanes}
use Rattle.causal_audit.proofs.by_clock.events.clocks_of.Goals as goal

pub add_event-requires : goal.add_event-requires
add_event-requires c = let r = c.args.trace.now.recording in
    let i = c.loop-entry.entry-index in
    let next : instant r.past (i + 1) ≡ c.entry-item.result ∷ instant r.past i = grind (arith, next_state, length-reverse) in
    let formed = c.processes-n.ensures.formed in
    record {
      processes = r.processes;
      past = instant r.past i;
      few = formed.count.1;
      some = formed.count.0;
      accepted = subst (AreLegalEntries r.processes) next (accepted_then r.processes r.past (i + 1) formed.accepted);
      lanes = subst (λ p. restarts p ≤ 192) next (at_instant (λ p. restarts p ≤ 192) (λ e p few. restarts_before 192 p e few) r.past (i + 1) c.requires);
      mirrors = rw c.as_mut_slice.ensures.value c.loop-entry.invariant.mirrors;
    }

pub loop-entry-preserved : goal.loop-entry-preserved
loop-entry-preserved c = let r = c.args.trace.now.recording in
    let n = r.processes in
    let i = c.loop-entry.entry-index in
    let next : instant r.past (i + 1) ≡ c.entry-item.result ∷ instant r.past i = grind (arith, next_state, length-reverse) in
    let formed = c.processes-n.ensures.formed in
    let accepted : AreLegalEntries n (c.entry-item.result ∷ instant r.past i) = subst (AreLegalEntries n) next (accepted_then n r.past (i + 1) formed.accepted) in
    let noted : IsClockWithLanes n (c.entry-item.result ∷ instant r.past i) c.add_event.new.clocks c.add_event.new.present = grind arith in
    let same : take c.loop-entry.present.len (c.add_event.new.present ++ drop (length c.add_event.new.present) c.loop-entry.present.items) ≡ c.add_event.new.present = grind (arith, common_steps) in
    record {
      items = c.loop-entry.invariant.items;
      mirrors = rw (next, same) noted;
    }

pub returns : goal.returns
returns c = grind (arith, length-reverse)

pub new-requires-clause-some : goal.new-requires-clause-some
new-requires-clause-some c = omega (arith, c.processes-n.ensures.value, c.processes-n.ensures.formed.count.0)

pub new-requires-clause-few : goal.new-requires-clause-few
new-requires-clause-few c = omega (arith, c.processes-n.ensures.value, c.processes-n.ensures.formed.count.1)
