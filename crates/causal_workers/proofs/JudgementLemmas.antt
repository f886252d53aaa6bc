-- A text has at most one judgement.
use Rattle.std.proofs.Common.{arith, ◌≡◌, ℕ, List}
use Rattle.causal_trace.specs.Limits.{default_entries}
use Rattle.causal_text.proofs.Lemmas.Exact.{one_recording}
use Rattle.causal_audit.proofs.Lemmas.OneVerdict.{one_verdict}
use Rattle.causal_workers.specs.Judgements.{IsJudgement}
use Rattle.causal_audit.specs.declared.judged.Judged.{Judged}

-- a text has at most one judgement for each bound f
pub one_judgement : (text : List ℕ) (f : ℕ) (a b : Judged) → IsJudgement text f a → IsJudgement text f b → b ≡ a
one_judgement text f a b first second =
    grind (arith, one_recording default_entries text second.recording first.recording second.spells first.spells, one_verdict)
