use Rattle.std.proofs.Common.{[], ◌∷◌, true≢false, sym, arith}
use Rattle.causal_log.specs.Logs.{log_of}
use Rattle.causal_log.proofs.MergeLemmas.{right_elsewhere, learned_elsewhere}
use Rattle.causal_log.proofs.log.Log.learn.Goals as goal

pub invariant_of-self-2 : goal.invariant_of-self-2
invariant_of-self-2 c =
    let old = log_of c.self.inside.entries.entries in
    let new = log_of c.learn.new.entries.entries in
    record {
      ascending = λ h. absurd (true≢false (sym h));
      carries = c.note_change.ensures new [] (right_elsewhere c.self.inside.cached_batch (c.args.det ∷ []) old _ new (grind arith) (learned_elsewhere old c.args.det c.args.news) c.self.invariant.carries);
    }
