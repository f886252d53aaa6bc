use Rattle.std.proofs.Common.{refl, append-nil, ◌∙◌}
use Rattle.std.proofs.lemmas.List.{drop_all}
use Rattle.causal_merge.proofs.MapLemmas.{next_line}
use Rattle.causal_merge.proofs.map_lines.map_text.Goals as goal

pub loop-position-init : goal.loop-position-init
loop-position-init c = λ ordered. rw c.new-text.ensures.items refl

pub loop-position-preserved : goal.loop-position-preserved
loop-position-preserved c = λ ordered.
    next_line c.args.input.now c.args.origins.now c.loop-position.position _ _ _ _ _ c.loop-position-test.true (c.loop-position.invariant ordered)
    c.in_ok-extend_from_slice.ensures.items (c.as_bytes.ensures.value ∙ c.in_ok-line.ensures ordered)

pub returns : goal.returns
returns c = λ ordered.
    rw (drop_all c.loop-position.position c.args.origins.now c.loop-position-test.false, append-nil) at (c.loop-position.invariant ordered)
