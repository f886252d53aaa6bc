use Rattle.std.proofs.Common.{true≢false, sym, arith}
use Rattle.std.specs.Map.{keys_of}
use Rattle.causal_log.specs.Logs.{log_of}
use Rattle.causal_log.proofs.MergeLemmas.{right_elsewhere, all_learned_elsewhere}
use Rattle.causal_log.proofs.log.Log.learn_all.Goals as goal

pub invariant_of-self-2 : goal.invariant_of-self-2
invariant_of-self-2 c =
    let old = log_of c.self.inside.entries.entries in
    let new = log_of c.learn_entries.new.entries.entries in
    record {
      ascending = λ h. absurd (true≢false (sym h));
      carries = c.note_entries.ensures new (right_elsewhere c.self.inside.cached_batch (keys_of c.args.entries.now) old _ new (grind arith) (all_learned_elsewhere c.args.entries.now old) c.self.invariant.carries);
    }
