use Rattle.std.proofs.Common.{◌≡◌, false, refl, ap, subst, sym, ◌∙◌, Some, None}
use Rattle.causal_trace.specs.Past.{instant, det_at, is_stable}
use Rattle.causal_trace.proofs.Lemmas.AtInstants.{delivered_in}
use Rattle.causal_explain.specs.Chains.{first_lacking}
use Rattle.causal_explain.proofs.breach_explanation.explain.Goals as goal

pub unreachable-requires : goal.unreachable-requires
unreachable-requires c =
    let b = c.args.breach.now in
    let o = c.requires.orphan in
    let delivered = delivered_in c.args.trace.now.recording.past b.instant b.delivery o.det c.requires.within o.delivered in
    let none : None ≡ Some o.det = sym c.in_default.is ∙ c.det_at.ensures ∙ delivered in
    cc

pub returns : goal.returns
returns c =
    let r = c.args.trace.now.recording in
    let b = c.args.breach.now in
    let o = c.requires.orphan in
    let d = c.in-Some.det in
    let at : det_at r.past b.delivery ≡ Some d = sym c.det_at.ensures ∙ c.in-Some.is in
    let delivered = delivered_in r.past b.instant b.delivery o.det c.requires.within o.delivered in
    let same : o.det ≡ d = let x : Some o.det ≡ Some d = sym delivered ∙ at in cc in
    record {
      delivery = refl;
      instant = refl;
      crash = refl;
      orphan = refl;
      det = at;
      unstable = subst (λ x. is_stable (instant r.past b.instant) x ≡ false) same o.unstable;
      holders = c.in_ok-held.ensures.holders;
      losses = c.in_ok-held.ensures.losses;
      down = c.in_ok-down.ensures;
      chain = c.in_ok-chain.ensures;
      unlisted = c.in_ok-unlisted.ensures ∙ ap (first_lacking (instant r.past b.instant) d) c.as_slice.ensures.value;
      underway = c.in_ok-underway.ensures;
    }
