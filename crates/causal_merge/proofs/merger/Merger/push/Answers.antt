use Rattle.std.proofs.Common.{◌∙◌, ap}
use Rattle.causal_merge.proofs.SendLemmas.{entry_returned, fault_kept}
use Rattle.causal_merge.specs.declared.fault.MergeKind.TheVariants.{Line}
use Rattle.causal_merge.proofs.merger.Merger.push.Goals as goal

pub returns-in-Err-try_push-clause-detail : goal.returns-in-Err-try_push-clause-detail
returns-in-Err-try_push-clause-detail c = λ other.
    let r = c.in-Err-try_push in
    let found = entry_returned _ c.args.entry r.refused.fault r.refused.entry r.ensures.refused r.ensures.returned (λ same. other (c.entry_fault.ensures.kind ∙ same)) in
    cc (c.entry_fault.ensures.detail c.args.entry found, r.ensures.err)

pub returns-in-Err-try_push-clause-err : goal.returns-in-Err-try_push-clause-err
returns-in-Err-try_push-clause-err c = λ other. fault_kept _ _ _ c.in-Err-try_push.ensures.refused c.entry_fault.ensures.kind other

pub returns-in-Err : goal.returns-in-Err
returns-in-Err c =
    let no_memory = ap Line c.in-Err.ensures.err in
    record { legal = tt; ok = tt; sends = tt; err = λ other. absurd (other no_memory); detail = λ other. absurd (other no_memory) }

pub returns-in-Ok : goal.returns-in-Ok
returns-in-Ok c =
    let e = c.in-Ok.ensures in
    record { legal = e.legal; ok = e.ok; sends = λ h. rw e.ok (c.in_default.ensures.ok _ h c.len.ensures.length); err = tt; detail = tt }
