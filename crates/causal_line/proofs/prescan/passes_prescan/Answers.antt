use Rattle.std.proofs.Common.{arith, ◌≡◌, ◌≢◌, ℕ, List, Bool, Result, Some, None}
use Rattle.std.specs.Prelude.{IfOk, IfErr, IsUtf8}
use Rattle.serde_json.specs.Data.{Data}
use Rattle.serde_json.specs.Read.{read}
use Rattle.causal_line.specs.declared.kind.TextKind.{TextKind}
use Rattle.causal_line.specs.declared.kind.TextKind.TheVariants as kind
use Rattle.causal_line.specs.Returns.{Returns}
use Rattle.causal_line.specs.Prescan.{levels, value_fits, prescan_of}
use Rattle.causal_line.proofs.Lemmas.DefinedErrors.{defined_or_no_memory}
use Rattle.causal_line.proofs.Lemmas.Values.{json_of-utf8, json_of-none}
use Rattle.causal_line.proofs.prescan.passes_prescan.Goals as goal

outlined : (bytes text : List ℕ) (r : Result Bool TextKind) → text ≡ bytes → IsUtf8 bytes → IfOk r (λ fit. (d : Data) × (read text ≡ Some d) × (value_fits levels d ≡ fit))
    → IfErr r (λ k. k ≢ kind.NoMemory → (k ≡ kind.Syntax) × (read text ≡ None)) → Returns r (prescan_of bytes)
outlined bytes text r same utf8 ok err = grind (arith, json_of-utf8, defined_or_no_memory, json_of-none)

pub returns-in-Ok : goal.returns-in-Ok
returns-in-Ok c = grind (arith, outlined)

pub returns-in-Err : goal.returns-in-Err
returns-in-Err c = grind (arith, json_of-none)
