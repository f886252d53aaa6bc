use Rattle.std.proofs.Common.{true≢false, sym, arith}
use Rattle.causal_log.specs.Logs.{log_of, dets_of}
use Rattle.causal_log.proofs.MergeLemmas.{right_elsewhere, absorbed_elsewhere}
use Rattle.causal_log.proofs.log.Log.absorb.Goals as goal

pub invariant_of-self-2 : goal.invariant_of-self-2
invariant_of-self-2 c =
    let old = log_of c.self.inside.entries.entries in
    let new = log_of c.learn_items.new.entries.entries in
    let kept = c.self.inside.cached_batch in
    record {
      ascending = λ h. absurd (true≢false (sym h));
      carries = (rw c.as_slice-items.ensures.items at (c.note_items.ensures new))
          (right_elsewhere kept (dets_of c.args.batch.now) old _ new (grind arith) (absorbed_elsewhere c.args.batch.now c.args.from c.args.me old) c.self.invariant.carries);
    }
