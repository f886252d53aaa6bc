use Rattle.std.proofs.Common.{ℕ, ◌≡◌, ◌∙◌, List, Option, None, Some, refl, ap, subst, sym, reverse}
use Rattle.std.specs.Prelude.{MatchOption}
use Rattle.std.proofs.lemmas.List.{reverse-reverse}
use Rattle.std.proofs.lemmas.Result.{IfOk-weaker}
use Rattle.causal_name.specs.declared.Det.{Det}
use Rattle.causal_trace.specs.declared.entry.Entry.{Entry}
use Rattle.causal_explain.specs.Underway.{FirstLate, FirstUnderway, delivered_send}
use Rattle.causal_explain.proofs.underway.first_underway.Goals as goal

-- by the send that the delivery receives
by_send : (past : List Entry) (t : ℕ) (d : Det) (unlisted found send : Option ℕ) → send ≡ delivered_send past unlisted → MatchOption send (found ≡ None) (λ k. FirstLate past t k d found) → FirstUnderway past t d unlisted found
by_send past t d unlisted found send is told = subst (λ o. MatchOption o (found ≡ None) (λ k. FirstLate past t k d found)) is told

pub returns-in-Some : goal.returns-in-Some
returns-in-Some c =
    let past = c.args.trace.now.recording.past in
    let before = c.in-Some.before in
    let whole : reverse c.entries.result.now ≡ past = ap reverse c.entries.ensures.value ∙ reverse-reverse past in
    IfOk-weaker c.first_late.result _ _ (λ found first. by_send past c.args.end c.args.det c.args.unlisted found (Some before) (sym c.in-Some.is ∙ c.delivered_send.ensures)
    (subst (λ p. FirstLate p c.args.end before c.args.det found) whole first)) c.first_late.ensures

pub returns-in-None : goal.returns-in-None
returns-in-None c = by_send c.args.trace.now.recording.past c.args.end c.args.det c.args.unlisted None None (sym c.in-None.is ∙ c.delivered_send.ensures) refl
