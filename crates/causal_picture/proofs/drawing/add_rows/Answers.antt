use Rattle.std.proofs.Common.{◌++◌, [], ◌∷◌, ap, sym, ◌∙◌, map, append_assoc}
use Rattle.causal_holders.specs.Members.{ascending}
use Rattle.causal_picture.specs.declared.part.DrawnPart.TheVariants.{Row}
use Rattle.causal_picture.specs.Drawings.{row_part}
use Rattle.causal_picture.proofs.drawing.add_rows.Goals as goal

pub loop-process-init : goal.loop-process-init
loop-process-init c = rw (c.into_iter-process-iterator.ensures.into_iter_gives ∙ c.iter-process-items.ensures)

pub loop-process-preserved : goal.loop-process-preserved
loop-process-preserved c =
    let p = c.in-Some.process in
    let before = c.loop-process.parts.items in
    let left = map (row_part c.args.crash) (ascending c.next.new.self) in
    let added = c.in_ok-add.ensures ∙ ap (λ b. before ++ (Row p b ∷ [])) c.contains.ensures in
    c.loop-process.invariant ∙ ap (λ ps. before ++ map (row_part c.args.crash) ps) c.in-Some.ensures.steps
    ∙ sym (append_assoc before (row_part c.args.crash p ∷ []) left) ∙ ap (λ xs. xs ++ left) (sym added)
