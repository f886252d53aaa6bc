use Rattle.std.proofs.Common.{List, ℕ, Option, Some, None}
use Rattle.std.specs.Prelude.{IfSome}
use Rattle.std.proofs.lemmas.Option.{IfSome_then}
use Rattle.causal_trace.specs.Limits.{default_entries}
use Rattle.causal_text.specs.FaultContexts.{IsTrueRefusalWithin}
use Rattle.causal_text.proofs.stream.read_from.Goals as goal

-- what holds of all bytes holds of those of a source
if_any : (known : Option (List ℕ)) (P : List ℕ → Type 0) → ((bytes : List ℕ) → P bytes) → IfSome known P
if_any None P h = tt
if_any (Some bytes) P h = h bytes

pub returns-in-Ok : goal.returns-in-Ok
returns-in-Ok g c = record { ok = c.in-Ok.ensures.ok; err = tt; memory = tt }

pub returns-in-Err-Source : goal.returns-in-Err-Source
returns-in-Err-Source g c = record { ok = tt; err = if_any _ _ (λ bytes. tt); memory = if_any _ _ (λ bytes. tt) }

pub returns : goal.returns
returns g c =
    let e = (rw c.in-Err-Text.field-0-is at c.in-Err-Text.ensures.err) in
    rw c.into_fault.ensures (record {
      ok = tt;
      err = IfSome_then _ e (λ text (r : IsTrueRefusalWithin default_entries text c.in-Err-Text.rejected). r.first);
      memory = IfSome_then _ e (λ text (r : IsTrueRefusalWithin default_entries text c.in-Err-Text.rejected). r.memory);
    })
