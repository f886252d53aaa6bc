use Rattle.std.proofs.Common.{◌≡◌, ◌∙◌, [], refl, sym}
use Rattle.std.proofs.lemmas.Bool.{eqb-true}
use Rattle.std.proofs.lemmas.List.{nil_from_length}
use Rattle.causal_log.specs.Logs.{log_of}
use Rattle.causal_log.proofs.MergeLemmas.{recognized}
use Rattle.causal_log.proofs.log.Log.choose_after_delivery.Goals as goal

pub next_batch-requires-clause-kept : goal.next_batch-requires-clause-kept
next_batch-requires-clause-kept c =
    let now = c.in-Some.now in
    let none : now.changed.items ≡ [] = nil_from_length now.changed.items (sym now.changed.ok.0 ∙ eqb-true _ _ (sym c.is_empty.ensures ∙ c.if-is_empty.true)) in
    let right = rw (c.in-Some.is, c.if-now-f.true, none) at c.self.invariant.carries in
    recognized c.args.f (log_of c.self.inside.entries.entries) now.batch c.as_slice-items.ensures.ascending (λ q. right q refl)
