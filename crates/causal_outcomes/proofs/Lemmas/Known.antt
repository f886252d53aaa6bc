-- Facts on bytes of a reader, which may be known.
use Rattle.std.proofs.Common.{List, ℕ, Option, Some, None}
use Rattle.std.specs.Prelude.{IfSome}

-- an implication for all bytes holds for known bytes
pub IfSome-weaker : (known : Option (List ℕ)) (P Q : List ℕ → Type 0) → ((bytes : List ℕ) → P bytes → Q bytes) → IfSome known P → IfSome known Q
IfSome-weaker None P Q weaker fact = tt
IfSome-weaker (Some bytes) P Q weaker fact = weaker bytes fact
