-- The errors of a text whose trace was not audited.
use Rattle.std.specs.Prelude.{ℕ, List}
use Rattle.causal_text.specs.Spelling.{IsFirstFault}
use Rattle.nixu.specs.declared.judgement.TextError.{TextError}
use Rattle.nixu.specs.declared.judgement.TextError.TheVariants.{Fault, NoMemory}

-- if the error is one of the text, it is the text's first
abbrev pub IsTextErrorOf : List ℕ → TextError → Type 0
IsTextErrorOf text (Fault fault) = IsFirstFault text fault
IsTextErrorOf text NoMemory = Unit {0}
