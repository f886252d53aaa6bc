use Rattle.std.proofs.Common.{arith, ap, sym, subst, refl, ◌∷◌, [], ◌++◌}
use Rattle.causal_workers.specs.Inside.Shares.{Follows, IsShare}
use Rattle.causal_workers.proofs.ShareLemmas.{follows_more}
use Rattle.causal_workers.proofs.parallel_audit.start_workers.Goals as goal

pub loop-worker-preserved : goal.loop-worker-preserved
loop-worker-preserved g c =
    let all = c.args.own.prepared.now in
    let was = c.loop-worker.invariant in
    let end = c.share_end-to.ensures in
    let w = c.in-Ok.handle in
    let h = c.in-Ok.ensures.ok in
    record {
      within = end.within.1;
      count = omega (arith, c.push_reserved.ensures.len, was.count);
      room = omega (arith, c.push_reserved.ensures.capacity, was.room);
      last = λ last. end.last (omega arith);
      shares = rw c.push_reserved.ensures.items (subst (Follows all c.args.own.to (c.loop-worker.started.items ++ w ∷ [])) (ap (λ share. share.to) h)
          (follows_more all c.args.own.to c.loop-worker.from c.loop-worker.started.items w was.shares
          (subst (IsShare all c.loop-worker.from) (sym h) (record { of = refl; begins = refl; ascends = end.within.0; inside = end.within.1 }))));
    }
