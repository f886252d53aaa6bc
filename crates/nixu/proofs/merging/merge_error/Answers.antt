use Rattle.std.proofs.Common.{◌≡◌, ◌∙◌, ap, arith}
use Rattle.nixu.specs.CMergeFaults.{merge_number}
use Rattle.nixu.proofs.merging.merge_error.Goals as goal

pub returns : goal.returns
returns c = λ most text first. first
    (λ kind.
    let zero : c.merge_number-number.result ≡ 0 = c.merge_number-number.ensures ∙ ap merge_number kind in
    absurd (omega (arith, zero)))
