-- Places among recordings.
use Rattle.std.proofs.Common.{◌≡◌, ◌≤◌, ◌+◌, ◌∙◌, ℕ, zero, suc, List, [], ◌∷◌, drop, length, refl, ap, arith}
use Rattle.nixu.specs.declared.c_recording.CRecording.{CRecording}
use Rattle.nixu.specs.declared.places.RecordingPlace.{RecordingPlace}
use Rattle.nixu.specs.Places.{recording_place}

-- among the last recording, or none, a line has its own number
pub last_place : (all : List CRecording) (k line : ℕ) → length all ≤ k + 1 → recording_place line (drop k all) ≡ record { recording = 0; line = line }
last_place [] zero line few = refl
last_place [] (suc k) line few = refl
last_place (x ∷ []) zero line few = refl
last_place (x ∷ []) (suc k) line few = last_place [] k line (omega arith)
last_place (x ∷ y ∷ zs) zero line few = absurd (omega (arith, few))
last_place (x ∷ y ∷ zs) (suc k) line few = last_place (y ∷ zs) k line (omega (arith, few))

-- places with the same parts are the same
pub same_place : (p q : RecordingPlace) → p.recording ≡ q.recording → p.line ≡ q.line → p ≡ q
same_place p q recording line = ap (λ (n : ℕ). record { recording = n; line = p.line }) recording ∙ ap (λ (n : ℕ). record { recording = q.recording; line = n }) line
