use Rattle.std.proofs.Common.{◌≡◌, ◌+◌, ◌∷◌, ◌++◌, [], List, ap, ◌∙◌, length, length-append}
use Rattle.std.proofs.lemmas.List.{take_more}
use Rattle.nixu.specs.declared.c_verdict.CVerdict.{CVerdict}
use Rattle.nixu.proofs.Each.{TellEach-more}
use Rattle.nixu.proofs.audit.verdicts_of.Goals as goal

pub loop-faults-preserved : goal.loop-faults-preserved
loop-faults-preserved c =
    let items = c.loop-faults.summaries.items in
    let one = c.in_ok-verdict_for.field-0 in
    let pushed : c.push.new.self.items ≡ items ++ one ∷ [] = c.in_ok-push.ensures.items in
    let counted : length c.push.new.self.items ≡ length items + 1 = ap (λ (l : List CVerdict). length l) pushed ∙ length-append items (one ∷ []) in
    record {
      verdict = rw (take_more c.args.faults.now c.loop-faults.faults-index 0 c.loop-faults-test.true, pushed) (TellEach-more _ _ _ _ _ c.loop-faults.invariant.verdict c.in_ok-verdict_for.ensures);
      count = counted ∙ ap (λ k. k + 1) c.loop-faults.invariant.count;
    }
