use Rattle.causal_audit.proofs.Common.{◌≡◌, ◌+◌, ◌++◌, ◌∷◌, [], ◌∙◌, arith, sym, subst, get_or, take, take_all, Contains, Contains-push, Contains-push_cases, Contains-append_left}
use Rattle.std.proofs.lemmas.List.{take_more}
use Rattle.causal_audit.proofs.group.marks.mark_rows.Goals as goal

pub loop-position-preserved : goal.loop-position-preserved
loop-position-preserved c = record {
  count = c.in_ok-put.ensures.count ∙ c.loop-position.invariant.count;
  marked = λ i j low.
      let so_far = take c.loop-position.position-index c.args.positions.now in
      let here = get_or c.args.positions.now c.loop-position.position-index 0 in
      let at = c.args.start + i in
      let put = c.in_ok-put.ensures.put i j (omega (arith, low, c.loop-position.invariant.count)) in
      let was = c.loop-position.invariant.marked i j low in
      let last : at ≡ here → Contains (so_far ++ here ∷ []) at = λ is. subst (Contains (so_far ++ here ∷ [])) (sym is) (Contains-push so_far here) in
      rw (take_more c.args.positions.now c.loop-position.position-index 0 c.loop-position-test.true)
      (grind (arith, put, was, last, Contains-append_left so_far (here ∷ []) at, Contains-push_cases so_far here at));
}

pub returns-clause-marked : goal.returns-clause-marked
returns-clause-marked c i j low =
    rw (take_all c.loop-position.position-index c.args.positions.now (omega (arith, c.loop-position-test.false))) at (c.loop-position.invariant.marked i j low)
