use Rattle.std.proofs.Common.{arith, ◌∙◌, [], ◌∷◌, ap}
use Rattle.causal_name.specs.Names.{is_ascending}
use Rattle.causal_log.specs.Knowledge.{as_stable}
use Rattle.causal_log.specs.Logs.{log_of}
use Rattle.causal_log.proofs.KnownLemmas.{marked_then}
use Rattle.causal_log.proofs.MergeLemmas.{right_elsewhere, marked_elsewhere}
use Rattle.causal_log.proofs.log.Log.mark_stable.Goals as goal

pub invariant_of-self : goal.invariant_of-self
invariant_of-self c =
    let old = log_of c.self.inside.entries.entries in
    let det = c.args.det in
    let same = c.merge_at.ensures.put det _ c.in-Some.ensures.place ∙ marked_then old det _ c.as_stable.result (c.as_stable.ensures ∙ ap as_stable c.unknown.ensures) c.in-Some.ensures.known in
    record {
      ascending = λ h. ap is_ascending c.merge_at.ensures.keys ∙ c.self.invariant.ascending h;
      carries = c.note_change.ensures (log_of c.merge_at.new.self.entries) [] (right_elsewhere c.self.inside.cached_batch (det ∷ []) old _ _ same (marked_elsewhere old det) c.self.invariant.carries);
    }

pub returns-clause-marked : goal.returns-clause-marked
returns-clause-marked c = grind (arith, marked_then (log_of c.self.inside.entries.entries) c.args.det _ c.as_stable.result (c.as_stable.ensures ∙ ap as_stable c.unknown.ensures) c.in-Some.ensures.known)
