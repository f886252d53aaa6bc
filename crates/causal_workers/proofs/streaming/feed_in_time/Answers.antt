use Rattle.std.proofs.lemmas.Result.{IfOk-weaker}
use Rattle.causal_workers.specs.declared.looks.Looks.TheVariants.{Checkpoints}
use Rattle.causal_workers.proofs.EarlyLemmas.{at_checkpoint, looser_piece}
use Rattle.causal_workers.proofs.streaming.feed_in_time.Goals as goal

pub returns-in_default-clause-ok : goal.returns-in_default-clause-ok
returns-in_default-clause-ok g c =
    IfOk-weaker c.feed_and_audit.result _ _ (λ heard told most b fed none. looser_piece Checkpoints c.args.timer.now.looks most b c.args.piece.now c.args.f heard (at_checkpoint c.args.timer.now.looks) (told most b fed none)) c.feed_and_audit.ensures.ok
