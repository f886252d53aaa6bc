use Rattle.std.proofs.Common.{◌≡◌, ◌+◌, ◌≤◌, ◌∷◌, true, None, Some, length, arith}
use Rattle.std.specs.Prelude.{◌||◌}
use Rattle.causal_name.specs.declared.Det.{Det}
use Rattle.causal_trace.specs.Past.{instant, list_has}
use Rattle.causal_trace.specs.Survivors.{survives, SlotsAreSingle}
use Rattle.causal_replays.specs.Inside.Copies.{IsCopyTable}
use Rattle.causal_replays.specs.Inside.Rivals.{AreNoted}
use Rattle.causal_replays.proofs.RivalLemmas.{noted_fewer}
use Rattle.causal_replays.proofs.RunLemmas.{named_numbered, tested, listed_copied, noted_kept, two_now, one_survivor, pair_now, single_first}
use Rattle.causal_replays.proofs.replays.stray_in.Goals as goal
use Rattle.causal_replays.proofs.replays.stray_in.Goals.{After-copied_by}
use Rattle.causal_trace.proofs.Lemmas.AtInstants.{how_many, next_state, up_to_next}

-- what holds once the entry at position t is applied
module _ (c : After-copied_by) where
  inside : c.loop-t.t + 1 ≤ length c.args.trace.now.recording.past
  inside = omega (arith, c.loop-t-test.true, how_many c.args.trace.now.recording c.entries-recorded.result.now c.entries-recorded.ensures.value)

  next : instant c.args.trace.now.recording.past (c.loop-t.t + 1) ≡ c.index-recorded-t.result ∷ instant c.args.trace.now.recording.past c.loop-t.t
  next = next_state c.args.trace.now.recording c.entries-recorded.result.now c.entries-recorded.ensures.value c.loop-t.t c.index-recorded-t.result (omega (arith, inside)) c.index-recorded-t.is

  copied : IsCopyTable c.args.trace.now.recording.past (instant c.args.trace.now.recording.past (c.loop-t.t + 1)) c.apply_entry.new.copies
  copied = rw next (c.in_ok-apply_entry.ensures.copies (instant c.args.trace.now.recording.past c.loop-t.t) c.loop-t.invariant.copied)

  -- the earlier survivors are in their slots
  kept : AreNoted c.args.trace.now.recording.past c.apply_entry.new.copies c.loop-t.slots.items None (survives c.args.trace.now.recording.processes (instant c.args.trace.now.recording.past c.loop-t.t))
  kept =
      noted_kept c.args.trace.now.recording c.entries-recorded.ensures.formed c.loop-t.t c.index-recorded-t.result inside next c.loop-t.copies c.apply_entry.new.copies c.loop-t.invariant.copied copied c.loop-t.slots.items c.loop-t.invariant.noted

  -- what survives the entry survived before it, or the entry makes a copy of it
  passed : (d : Det) → survives c.args.trace.now.recording.processes (instant c.args.trace.now.recording.past (c.loop-t.t + 1)) d ≡ true
      → (survives c.args.trace.now.recording.processes (instant c.args.trace.now.recording.past c.loop-t.t) d || list_has c.copied_by.result.now d) ≡ true
  passed = tested c.args.trace.now.recording c.entries-recorded.ensures.formed c.loop-t.t c.index-recorded-t.result inside next c.copied_by.result.now c.copied_by.ensures

pub loop-t-init : goal.loop-t-init
loop-t-init c = record {
  sized = c.requires.sized;
  count = c.requires.count;
  copied = c.requires.copied;
  noted = c.requires.noted;
  earlier = single_first c.args.trace.now.recording;
}

pub apply_entry-requires-clause-numbers : goal.apply_entry-requires-clause-numbers
apply_entry-requires-clause-numbers c =
    let r = c.args.trace.now.recording in
    let below : c.loop-t.t + 1 ≤ length r.past = omega (arith, c.loop-t-test.true, how_many r c.entries-recorded.result.now c.entries-recorded.ensures.value) in
    named_numbered r c.entries-recorded.ensures.formed c.loop-t.t c.index-recorded-t.result below
    (next_state r _ c.entries-recorded.ensures.value c.loop-t.t c.index-recorded-t.result (omega (arith, below)) c.index-recorded-t.is)

pub apply_entry-requires-clause-sized : goal.apply_entry-requires-clause-sized
apply_entry-requires-clause-sized c = c.loop-t.invariant.sized

pub note_dets-requires-clause-count : goal.note_dets-requires-clause-count
note_dets-requires-clause-count c = c.loop-t.invariant.count

pub note_dets-requires-clause-of_slots : goal.note_dets-requires-clause-of_slots
note_dets-requires-clause-of_slots c = c.loop-t.invariant.noted.of_slots

pub note_dets-requires-clause-sized : goal.note_dets-requires-clause-sized
note_dets-requires-clause-sized c = c.in_ok-apply_entry.ensures.sized

pub note_dets-requires-clause-copied : goal.note_dets-requires-clause-copied
note_dets-requires-clause-copied c =
    let b = (goal.at.note_dets-requires-clause-copied c).After-copied_by in
    listed_copied c.args.trace.now.recording c.entries-recorded.ensures.formed c.loop-t.t c.index-recorded-t.result (inside b) (next b) c.loop-t.copies c.apply_entry.new.copies c.loop-t.invariant.copied (copied b) c.copied_by.result.now c.copied_by.ensures

pub overflow_add-instant : goal.overflow_add-instant
overflow_add-instant c =
    omega (arith, c.loop-t-test.true, c.entries-recorded.ensures.few, how_many c.args.trace.now.recording c.entries-recorded.result.now c.entries-recorded.ensures.value)

pub first_two-first-requires-clause-two : goal.first_two-first-requires-clause-two
first_two-first-requires-clause-two c =
    let b = (goal.at.first_two-first-requires-clause-two c).After-copied_by in
    let noted = rw c.in-Some.is at (c.in_ok-slot.ensures.noted _ (kept b)) in
    two_now c.args.trace.now.recording c.entries-recorded.ensures.formed (c.loop-t.t + 1) (inside b) c.apply_entry.new.copies (copied b) c.in-Some.slot noted.rivals

pub first_two-first-requires-clause-sized : goal.first_two-first-requires-clause-sized
first_two-first-requires-clause-sized c = c.in_ok-apply_entry.ensures.sized

pub returns-in-Some : goal.returns-in-Some
returns-in-Some c =
    let r = c.args.trace.now.recording in
    let b = (goal.at.returns-in-Some c).After-copied_by in
    let noted = rw c.in-Some.is at (c.in_ok-slot.ensures.noted _ (kept b)) in
    record {
      within = inside b;
      earlier = λ u h. c.loop-t.invariant.earlier u (omega (arith, h));
      lower = one_survivor r c.entries-recorded.ensures.formed (c.loop-t.t + 1) (inside b) c.apply_entry.new.copies (copied b) c.note_dets.new.slots.items _ (passed b) (Some c.in-Some.slot) noted;
      pair = pair_now r c.entries-recorded.ensures.formed (c.loop-t.t + 1) (inside b) c.apply_entry.new.copies (copied b) c.in-Some.slot c.first_two-first.result.0 c.first_two-first.result.1 c.first_two-first.ensures;
    }

pub loop-t-preserved : goal.loop-t-preserved
loop-t-preserved c =
    let r = c.args.trace.now.recording in
    let b = (goal.at.loop-t-preserved c).After-copied_by in
    let noted = rw c.in_default.is at (c.in_ok-slot.ensures.noted _ (kept b)) in
    record {
      sized = c.in_ok-apply_entry.ensures.sized;
      count = c.note_dets.ensures.count;
      copied = copied b;
      noted = noted_fewer _ _ _ _ _ _ (passed b) noted;
      earlier = up_to_next (λ u. SlotsAreSingle r.processes (instant r.past u)) c.loop-t.t c.loop-t.invariant.earlier
          (λ x y hx hy dest rsn. one_survivor r c.entries-recorded.ensures.formed (c.loop-t.t + 1) (inside b) c.apply_entry.new.copies (copied b) c.note_dets.new.slots.items _ (passed b) None noted x y hx hy (cc) tt);
    }

pub returns : goal.returns
returns c t within =
    let r = c.args.trace.now.recording in
    c.loop-t.invariant.earlier t (omega (arith, within, c.loop-t-test.false, how_many r c.entries-recorded.result.now c.entries-recorded.ensures.value))
