use Rattle.std.proofs.Common.{◌≡◌, ◌∙◌, ℕ, Bool, true, Option, Some, None, Err, sym, ap₂, subst, cond}
use Rattle.std.specs.Prelude.{unwrap_or, Result}
use Rattle.causal_trace.specs.Rows.{Recording, fault_within}
use Rattle.causal_trace.specs.declared.entry.Entry.{Entry}
use Rattle.causal_trace.specs.declared.fault.TraceFault.{TraceFault}
use Rattle.causal_trace.specs.declared.fault.TraceFault.TheVariants.{NoMemory}
use Rattle.causal_line.specs.declared.kind.TextFault.{TextFault}
use Rattle.causal_line.specs.declared.kind.TextKind.{TextKind}
use Rattle.causal_line.specs.declared.kind.TextKind.TheVariants.{Form}
use Rattle.causal_line.specs.declared.stage.Stage.{Stage}
use Rattle.causal_line.specs.declared.version.Version.{Version}
use Rattle.causal_line.specs.Kinds.{text_kind_of}
use Rattle.causal_line.specs.Refusals.{◌at◌}
use Rattle.causal_line.specs.Returns.{IsFaultOrNoMemory}
use Rattle.causal_line.specs.Stages.{push_entry}
use Rattle.causal_line.proofs.Lemmas.DefinedErrors.{defined_or_no_memory}
use Rattle.causal_line.proofs.stage.push_entry.Goals as goal

same : (told : TextFault) (number : ℕ) (k : TextKind) → told.line ≡ number → told.kind ≡ k → ◌≡◌ {A = Result Stage TextFault} (Err (record { line = number; kind = k })) (Err told)
same told number k line kind = ap₂ (λ (n : ℕ) (m : TextKind). Err (record { line = n; kind = m })) (sym line) (sym kind)

-- the error of a refused entry that the version allows is the defined one, or `NoMemory`
refused : (version : Version) (r : Recording) (e : Entry) (f : Option TraceFault) (number : ℕ) (allowed : Bool) (fault : TraceFault) (told : TextFault) → allowed ≡ true → fault ≡ unwrap_or f NoMemory
    → told.kind ≡ text_kind_of fault → told.line ≡ number → IsFaultOrNoMemory told.kind told (cond allowed (push_entry version r e f) (Err Form) at number)
refused version r e None number allowed fault told legal is kind line =
    subst (λ (k : TextKind). IsFaultOrNoMemory k told (cond allowed (push_entry version r e None) (Err Form) at number)) (sym (rw is at kind)) tt
refused version r e (Some x) number allowed fault told legal is kind line = rw legal (defined_or_no_memory told.kind told _ (λ _. same told number (text_kind_of x) line (rw is at kind)))

pub returns-in-Some-clause-value : goal.returns-in-Some-clause-value
returns-in-Some-clause-value c =
    let told = c.refusal_with_context-in-Some in
    refused c.args.version c.args.trace c.args.entry (fault_within c.args.limits.entries c.args.trace c.args.entry) c.args.number _ c.in-Err.field-0.fault told.result.fault (sym c.allows.ensures ∙ c.if-not-allows.false) c.in-Err.ensures.refused
    (told.ensures.kind ∙ c.from-kind.ensures) told.ensures.line

pub returns-in-None-clause-value : goal.returns-in-None-clause-value
returns-in-None-clause-value c =
    let told = c.refusal_without_context in
    refused c.args.version c.args.trace c.args.entry (fault_within c.args.limits.entries c.args.trace c.args.entry) c.args.number _ c.in-Err.field-0.fault told.result.fault (sym c.allows.ensures ∙ c.if-not-allows.false) c.in-Err.ensures.refused
    (told.ensures.kind ∙ c.from-kind.ensures) told.ensures.line
