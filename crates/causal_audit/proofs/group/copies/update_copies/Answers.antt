use Rattle.causal_audit.proofs.Common.{◌≡◌, ◌∙◌, ◌<◌, length, sym, ap, subst, rules, set, nat_cmp, contains, remove, contains-empty, get_or_default}
use Rattle.causal_audit.specs.Inside.Group.Walk.{AreCopiesAfter, copies_at, no_copies}
use Rattle.causal_audit.proofs.group.GroupWalk.{renewed_more, HaveRenewed}
use Rattle.causal_audit.proofs.group.copies.update_copies.Goals as goal

pub loop-place-preserved : goal.loop-place-preserved
loop-place-preserved c =
    let p = c.in-Some.place in
    let mid = c.loop-place.copies.items in
    let i = c.loop-place.invariant in
    let inside : c.from-i.result < length mid = search rules in
    let after = subst (λ b. AreCopiesAfter c.args.entry.now b c.index.result.now c.copies_after.result) c.contains.ensures c.copies_after.ensures in
    let read : c.index.result.now ≡ copies_at mid p = c.index.ensures ∙ get_or_default mid c.from-i.result c.index.result.now no_copies inside ∙ ap (copies_at mid) c.from-i.ensures in
    rw c.remove.ensures (subst (λ x. HaveRenewed c.args.entry.now c.args.mentioned c.args.touched (remove c.loop-place.rest p) c.args.copies.now.items (set mid x c.copies_after.result)) (sym c.from-i.ensures)
    (renewed_more c.args.entry.now c.args.mentioned c.args.touched c.loop-place.rest c.args.copies.now.items mid p c.copies_after.result c.in-Some.ensures.0 (subst (λ x. x < length mid) c.from-i.ensures inside) i
    (subst (λ x. AreCopiesAfter c.args.entry.now (contains c.args.mentioned p) x c.copies_after.result) read after)))

pub returns-clause-renewed : goal.returns-clause-renewed
returns-clause-renewed c j h = c.loop-place.invariant.renewed j h (ap (λ s. contains s j) c.in_default.ensures ∙ contains-empty nat_cmp j)
