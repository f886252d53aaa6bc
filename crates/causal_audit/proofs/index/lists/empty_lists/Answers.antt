use Rattle.causal_audit.proofs.Common.{ℕ, ◌≡◌, [], arith, Vec, Global, All-nil, All-push}
use Rattle.causal_audit.proofs.index.lists.empty_lists.Goals as goal

pub loop-init : goal.loop-init
loop-init c = record {
  count = c.new-lists.ensures.len;
  empty = rw c.new-lists.ensures.items (All-nil (λ (list : Vec ℕ Global). list.items ≡ []));
}

pub loop-preserved : goal.loop-preserved
loop-preserved c = record {
  count = omega (arith, c.in_ok-push.ensures.len, c.loop.invariant.count);
  empty = rw c.in_ok-push.ensures.items (All-push (λ (list : Vec ℕ Global). list.items ≡ []) c.loop.lists.items c.new.result c.loop.invariant.empty c.new.ensures.items);
}

pub returns-clause-count : goal.returns-clause-count
returns-clause-count c = omega (arith, c.loop.invariant.count, c.loop-test.false, c.loop.auto.counter-end)

pub returns-clause-empty : goal.returns-clause-empty
returns-clause-empty c = c.loop.invariant.empty
