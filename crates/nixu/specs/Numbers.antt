-- The numbers of the kinds of errors, as in nixu.h.
use Rattle.std.specs.Prelude.{◌≡◌, ◌<◌, ◌⊎◌, ℕ, List}
use Rattle.causal_line.specs.declared.kind.TextKind.{TextKind}
use Rattle.causal_line.specs.declared.kind.TextKind.TheVariants as kind
use Rattle.causal_line.specs.Sentences.{kind_sentence}
use Rattle.nixu_boundary.specs.Buffers.{IsCopiedOut}

-- from 1 in the order in which errors are checked; 0 for `NoMemory`, which is not an error of a text
abbrev pub kind_number : TextKind → ℕ
kind_number kind.NoMemory = 0
kind_number kind.After = 1
kind_number kind.Big = 2
kind_number kind.Syntax = 3
kind_number kind.Form = 4
kind_number kind.Header = 5
kind_number kind.Version = 6
kind_number kind.Processes = 7
kind_number kind.TooLong = 8
kind_number kind.NoProcess = 9
kind_number kind.NotUp = 10
kind_number kind.NotDown = 11
kind_number kind.Lanes = 12
kind_number kind.WrongSsn = 13
kind_number kind.NoSend = 14
kind_number kind.WrongRsn = 15
kind_number kind.Doubled = 16
kind_number kind.Unsorted = 17
kind_number kind.NoDelivery = 18
kind_number kind.Count = 19
kind_number kind.Cut = 20

-- no kind of error has this number
abbrev pub IsNoFault : ℕ → Type 0
IsNoFault number = (number ≡ 0) ⊎ (20 < number)

-- a kind of error has this number, and its sentence is copied out
abbrev pub CopiesOutSentence : ℕ → List ℕ → List ℕ → ℕ → Type 0
CopiesOutSentence number old new needed = (0 < number) × ((kind : TextKind) × (kind_number kind ≡ number) × IsCopiedOut (kind_sentence kind) old new needed)
