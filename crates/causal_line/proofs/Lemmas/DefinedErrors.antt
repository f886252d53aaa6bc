-- An error of a kind other than `NoMemory` is the defined one.
use Rattle.std.proofs.Common.{◌≡◌, ◌≢◌, Result, Err, refl}
use Rattle.causal_line.specs.declared.kind.TextKind.{TextKind}
use Rattle.causal_line.specs.declared.kind.TextKind.TheVariants as kind
use Rattle.causal_line.specs.Returns.{IsFaultOrNoMemory}

-- an error other than `NoMemory` is the defined error
pub error_is_defined : {A E : Type 0} (k : TextKind) (f : E) (read : Result A E) → IsFaultOrNoMemory k f read → k ≢ kind.NoMemory → read ≡ Err f
error_is_defined kind.NoMemory f read h other = absurd (other refl)
error_is_defined _ f read h other = h

-- an error is the defined one, or `NoMemory`
pub defined_or_no_memory : {A E : Type 0} (k : TextKind) (f : E) (read : Result A E) → (k ≢ kind.NoMemory → read ≡ Err f) → IsFaultOrNoMemory k f read
defined_or_no_memory kind.NoMemory f read h = tt
defined_or_no_memory _ f read h = h (λ e. cc)
