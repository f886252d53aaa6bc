-- What is true of a refused text, before its error is diagnosed.
use Rattle.std.specs.Prelude.{ℕ, List, Option, IfSome}
use Rattle.causal_line.specs.declared.text_refusal.TextRefusal.{TextRefusal}
use Rattle.causal_text.specs.FaultContexts.{ExplainsReadErrorWithin, HasTrueContextWithin}
use Rattle.causal_text.specs.Spelling.{IsFirstFaultWithin}
use Rattle.causal_workers.specs.declared.streaming.VerdictError.{VerdictError}
use Rattle.causal_workers.specs.declared.streaming.VerdictError.TheVariants.{Input, Audit}

-- the error is the first of the text, and its context is that of its line
abbrev pub IsTrueRefusal : ℕ → List ℕ → TextRefusal → Type 0
IsTrueRefusal most text rejected = IsFirstFaultWithin most text rejected.fault × HasTrueContextWithin most text rejected

-- `IsTrueRefusal` for the bytes of a reader, if they are known
abbrev pub IsTrueRefusalFor : ℕ → Option (List ℕ) → Option TextRefusal → Type 0
IsTrueRefusalFor most given told = IfSome given (λ text. IfSome told (IsTrueRefusal most text))

-- why a text got no verdict: an error of the text is its first, or `NoMemory`; of other errors nothing is claimed
abbrev pub ExplainsRefusal : ℕ → List ℕ → VerdictError → Type 0
ExplainsRefusal most text (Input unread) = ExplainsReadErrorWithin most text unread
ExplainsRefusal most text (Audit fault) = Unit {0}
