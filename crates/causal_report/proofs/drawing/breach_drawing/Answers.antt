use Rattle.std.proofs.Common.{refl, sym, subst, ap, ◌∙◌}
use Rattle.std.specs.Prelude.{Some}
use Rattle.std.proofs.lemmas.Result.{IfOk-weaker}
use Rattle.causal_trace.specs.Past.{instant}
use Rattle.causal_explain.specs.Chains.{IsShortestChain}
use Rattle.causal_report.specs.Drawings.{bands_of, holders_of}
use Rattle.causal_report.proofs.drawing.breach_drawing.Goals as goal

pub returns : goal.returns
returns c =
    let b = c.args.breach.now in
    let past = c.args.trace.now.recording.past in
    let x = c.in_ok-explanation.explanation in
    let told = c.in_ok-explanation.ensures in
    let held = c.holders_of.ensures ∙ ap holders_of c.as_slice-4.ensures.value in
    IfOk-weaker c.picture_of.result _ _
    (λ text same. record {
      focus = _;
      at_instant = refl;
      crashed = refl;
      linked = subst (IsShortestChain (instant past b.instant) b.delivery b.orphan) (sym c.as_slice-3.ensures.value) told.chain;
      orphaned = (x.det, told.det, x.holders.items, record { held = told.holders; shows = ap (λ h. Some (record { process = b.orphan; delivery = b.delivery; holders = h })) held });
      banded = (
        x.det,
        told.det,
        (
          x.holders.items,
          x.losses.items,
          told.holders,
          told.losses,
          c.as_slice-5.ensures.value ∙ c.in_ok-bands.ensures ∙ ap (λ hs. bands_of hs c.as_slice-2.result.now) c.as_slice.ensures.value ∙ ap (bands_of x.holders.items) c.as_slice-2.ensures.value,
        ),
      );
      pictured = same;
    })
    c.picture_of.ensures
