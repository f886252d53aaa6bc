-- A result equals the defined value, or is `NoMemory`.
use Rattle.std.specs.Prelude.{◌≡◌, List, ◌++◌, Result, Ok, Err}
use Rattle.causal_line.specs.declared.kind.TextKind.{TextKind}
use Rattle.causal_line.specs.declared.kind.TextKind.TheVariants as kind
use Rattle.causal_line.specs.declared.kind.TextFault.{TextFault}
use Rattle.causal_line.specs.Reading.{◌>>=◌}

-- an error of a kind other than `NoMemory` is the defined one
abbrev pub IsFaultOrNoMemory : {A E : Type 0} → TextKind → E → Result A E → Type 0
IsFaultOrNoMemory kind.NoMemory fault read = Unit {0}
IsFaultOrNoMemory k fault read = read ≡ Err fault

-- the result, seen through `view`, is the defined one, or `NoMemory`
abbrev pub ReturnsAs : {X A E : Type 0} → (X → A) → (E → TextKind) → Result X E → Result A E → Type 0
ReturnsAs view kind_of (Ok x) read = read ≡ Ok (view x)
ReturnsAs view kind_of (Err e) read = IsFaultOrNoMemory (kind_of e) e read

-- the result is the defined value of a line, or `NoMemory`; the error is a kind
abbrev pub Returns : {A : Type 0} → Result A TextKind → Result A TextKind → Type 0
Returns result read = ReturnsAs (λ x. x) (λ k. k) result read

-- the result, seen through `view`, is the defined value of a line, or `NoMemory`
abbrev pub ReturnsBy : {X A : Type 0} → (X → A) → Result X TextKind → Result A TextKind → Type 0
ReturnsBy view result read = ReturnsAs view (λ k. k) result read

-- the result is the defined value of a text, or `NoMemory`; the error contains its line
abbrev pub ReturnsText : {A : Type 0} → Result A TextFault → Result A TextFault → Type 0
ReturnsText result read = ReturnsAs (λ x. x) (λ fault. fault.kind) result read

-- a list in front of the list that was read, unless that is an error
abbrev pub with_front : {A : Type 0} → List A → Result (List A) TextKind → Result (List A) TextKind
with_front front read = read >>= λ xs. Ok (front ++ xs)
