use Rattle.std.proofs.Common.{ℕ, ◌≡◌, ◌+◌, ◌-◌, ◌<◌, ◌≤◌, true, length, drop, get_or, List, [], ◌∷◌, refl, arith, sym, ap, ◌∙◌}
use Rattle.std.specs.Prelude.{◌&&◌}
use Rattle.causal_name.specs.declared.Det.{Det}
use Rattle.causal_name.specs.Names.{is_before, is_ascending}
use Rattle.std.proofs.lemmas.List.{drop_more, drop_all, length-drop}
use Rattle.causal_trace.proofs.scans.is_ascending.Goals as goal

-- the step, at the index before the counter
step : (ds : List Det) (i : ℕ) (d : Det) → 1 ≤ i → i < length ds → is_ascending (drop (i - 1) ds) ≡ (is_before (get_or ds (i - 1) d) (get_or ds i d) && is_ascending (drop i ds))
step ds i d low high = grind (arith, drop_more)

ascending_one : (ds : List Det) → length ds ≡ 1 → is_ascending ds ≡ true
ascending_one [] h = refl
ascending_one (d ∷ []) h = refl
ascending_one (d ∷ e ∷ ds) h = absurd (omega (arith, h))

-- the case of at most one remaining determinant
ascending_last : (ds : List Det) (j : ℕ) → length ds ≤ j + 1 → is_ascending (drop j ds) ≡ true
ascending_last ds j h = grind (arith, ascending_one, length-drop, drop_all)

pub loop-i-preserved : goal.loop-i-preserved
loop-i-preserved c =
    let ds = c.args.dets.now in
    let e : c.loop-i.i + 1 - 1 ≡ c.loop-i.i = omega arith in
    ap (λ k. is_ascending (drop k ds)) e
    ∙ ap (λ b. b && is_ascending (drop c.loop-i.i ds)) (sym c.if-not-comes_before.false ∙ c.comes_before.ensures)
    ∙ sym (step ds c.loop-i.i (record { source = record { 0 = 0 }; ssn = 0; dest = record { 0 = 0 }; rsn = 0 }) c.loop-i.auto.i c.loop-i-test.true)
    ∙ c.loop-i.invariant

pub returns : goal.returns
returns c = grind (arith, ascending_last)
