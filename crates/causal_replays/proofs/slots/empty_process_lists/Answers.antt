use Rattle.std.proofs.Common.{ℕ, ◌≡◌, ◌+◌, ◌∷◌, ◌++◌, ◌∙◌, [], List, ap, arith, subst}
use Rattle.std.specs.Prelude.{replicate}
use Rattle.std.specs.Global.{Vec}
use Rattle.std.proofs.lemmas.List.{map-append, replicate_more}
use Rattle.causal_replays.specs.Inside.Holdings.{lists_in}
use Rattle.causal_replays.proofs.slots.empty_process_lists.Goals as goal

-- one more empty list
one_more : {A : Type 0} (lists new : List (Vec A)) (list : Vec A) (n : ℕ) → new ≡ lists ++ list ∷ [] → list.items ≡ [] → lists_in lists ≡ replicate n [] → lists_in new ≡ replicate (n + 1) []
one_more {A} lists new list n is none empty =
    ap (λ (all : List (Vec A)). lists_in all) is ∙ map-append (λ (x : Vec A). x.items) lists (list ∷ []) ∙ ap (λ (all : List (List A)). all ++ list.items ∷ []) empty
    ∙ ap (λ (x : List A). replicate n [] ++ x ∷ []) none ∙ replicate_more n []

pub loop-init : goal.loop-init
loop-init g c = record { count = c.new-lists.ensures.len; empty = ap (λ (all : List (Vec g.row.T.Denot)). lists_in all) c.new-lists.ensures.items }

pub loop-preserved : goal.loop-preserved
loop-preserved g c = record {
  count = omega (arith, c.in_ok-push.ensures.len, c.loop.invariant.count);
  empty = one_more c.loop.lists.items c.push.new.self.items c.new.result c.loop.counter c.in_ok-push.ensures.items c.new.ensures.items c.loop.invariant.empty;
}

pub returns-clause-count : goal.returns-clause-count
returns-clause-count g c = omega (arith, c.loop.invariant.count, c.loop-test.false, c.loop.auto.counter-end)

pub returns-clause-empty : goal.returns-clause-empty
returns-clause-empty g c =
    let all : c.loop.counter ≡ 256 = omega (arith, c.loop-test.false, c.loop.auto.counter-end) in
    subst (λ n. lists_in c.loop.lists.items ≡ replicate n []) all c.loop.invariant.empty
