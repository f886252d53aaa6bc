use Rattle.std.proofs.Common.{◌≡◌, ◌++◌, drop, flat_map}
use Rattle.nixu.specs.declared.c_recording.CRecording.{CRecording}
use Rattle.nixu.proofs.merging.joined_text.Given as goal

abbrev pub invariant-loop-recording : goal.invariant-loop-recording
invariant-loop-recording l =
    l.bytes.items ++ flat_map (λ (x : CRecording). x.text.now) (drop l.recording-index l.recordings) ≡ flat_map (λ (x : CRecording). x.text.now) l.recordings
