use Rattle.std.proofs.Common.{refl}
use Rattle.std.proofs.lemmas.Result.{IfOk-weaker}
use Rattle.causal_report.proofs.drawing.selected_picture_with_verdict.Goals as goal

pub returns-in-Exceeded : goal.returns-in-Exceeded
returns-in-Exceeded c =
    rw c.in-Exceeded.is
    (IfOk-weaker c.picture_of.result _ _
    (λ text same. record { focus = _; at_instant = refl; crashed = refl; linked = refl; orphaned = refl; banded = refl; pictured = same })
    c.picture_of.ensures)
