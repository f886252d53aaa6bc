-- The recording in which a line begins, and its number there, by its number over all recordings.
use Rattle.std.specs.Prelude.{ℕ, ◌+◌, ◌-◌, ◌==◌, not, nat_le, if◌then◌else◌, Bool, false, List, [], ◌∷◌, length, count_by, slice_get}
use Rattle.std.specs.Option.{option_map_or}
use Rattle.nixu.specs.declared.c_recording.CRecording.{CRecording}
use Rattle.nixu.specs.declared.places.RecordingPlace.{RecordingPlace}

-- the number of line feeds
abbrev pub feeds : List ℕ → ℕ
feeds bytes = count_by (λ byte. byte == 10) bytes

-- whether the bytes end within a line: their last is not a line feed
abbrev pub ends_within_line : List ℕ → Bool
ends_within_line bytes = option_map_or (λ byte. not (byte == 10)) (slice_get bytes (length bytes - 1)) false

-- the number of lines that begin in the bytes
abbrev pub line_count : List ℕ → ℕ
line_count bytes = if ends_within_line bytes then feeds bytes + 1 else feeds bytes

-- the place among the recordings after the first, as one among all
abbrev pub next_place : RecordingPlace → RecordingPlace
next_place p = record { recording = p.recording + 1; line = p.line }

-- the place of a line, which counts from the first of these recordings: in the first, or without the lines that end
-- there in the others. A line that begins in none is of the last
abbrev pub recording_place : ℕ → List CRecording → RecordingPlace
recording_place line [] = record { recording = 0; line = line }
recording_place line (x ∷ []) = record { recording = 0; line = line }
recording_place line (x ∷ next ∷ later) = if nat_le line (line_count x.text.now) then record { recording = 0; line = line } else next_place (recording_place (line - feeds x.text.now) (next ∷ later))
