use Rattle.std.proofs.Common.{length, ◌-◌, ◌+◌, ◌≡◌, ◌≤◌, drop}
use Rattle.nixu.specs.Places.{recording_place}
use Rattle.nixu.proofs.places.recording_place.Given as goal

-- the place among the recordings that are left
abbrev pub invariant-loop-place : goal.invariant-loop-place
invariant-loop-place l = record {
  within : l.place.recording ≤ length l.recordings;
  recording : (recording_place l.line l.recordings).recording ≡ l.place.recording + (recording_place l.place.line (drop l.place.recording l.recordings)).recording;
  line : (recording_place l.line l.recordings).line ≡ (recording_place l.place.line (drop l.place.recording l.recordings)).line;
}

abbrev pub decreases-loop-place : goal.decreases-loop-place
decreases-loop-place l = length l.recordings - l.place.recording
