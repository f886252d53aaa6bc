use Rattle.std.proofs.Common.{◌≤◌, ◌+◌, arith, length}
use Rattle.nixu.proofs.PlaceLemmas.{last_place, same_place}
use Rattle.nixu.proofs.places.recording_place.Goals as goal

pub returns : goal.returns
returns c =
    let at = c.loop-place.place in
    let few : length c.args.recordings.now ≤ at.recording + 1 = omega (arith, c.loop-place-test.false) in
    let last = last_place c.args.recordings.now at.recording at.line few in
    same_place _ _ (grind (arith, last, c.loop-place.invariant.recording)) (grind (arith, last, c.loop-place.invariant.line))
