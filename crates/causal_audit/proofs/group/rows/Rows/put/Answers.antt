use Rattle.std.proofs.lemmas.Grind.{common_steps}
use Rattle.std.proofs.Common.{arith}
use Rattle.causal_audit.proofs.Common.{◌<◌, ◌∙◌, length, sym, ap, subst, insert, set}
use Rattle.causal_audit.specs.Inside.Group.Rows.{row, sets_of}
use Rattle.causal_audit.proofs.group.RowSlots.{placed_alone, placed_fresh, slot_within}
use Rattle.causal_audit.proofs.group.rows.Rows.put.Goals as goal

pub returns-then-slot-gt0 : goal.returns-then-slot-gt0
returns-then-slot-gt0 c = grind (arith, common_steps, placed_alone, slot_within)

pub returns : goal.returns
returns c =
    let slots = c.self.inside.slots.items in
    let sets = c.self.inside.sets.items in
    let s = c.index-slot.result.now in
    let low : c.args.i < length (sets_of slots sets) = subst (λ rows. c.args.i < length rows) (sym c.self.view_is) c.requires in
    placed_fresh slots sets c.add.new.sets.items c.self.inside.unshared c.args.i s c.args.place c.in_ok-fresh.fresh c.insert-2.new.self low c.index-slot.ensures c.self.invariant c.in_ok-fresh.ensures.added.slot_of
    (c.insert-2.ensures ∙ ap (λ x. insert x c.args.place) (c.set_at-places.ensures ∙ (λ i. row (c.deref.ensures.value i) s)))
    ∙ ap (λ rows. set rows c.args.i (insert (row rows c.args.i) c.args.place)) c.self.view_is
