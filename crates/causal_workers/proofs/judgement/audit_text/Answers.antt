use Rattle.causal_workers.proofs.JudgementLemmas.{one_judgement}
use Rattle.causal_workers.proofs.judgement.audit_text.Goals as goal

pub returns-clause-only : goal.returns-clause-only
returns-clause-only g c = λ other is.
    let found = c.in_ok-judged.ensures in
    one_judgement c.args.bytes.now c.args.f c.in_ok-judged.judged other
    (record { recording = c.in_ok-trace.trace.recording; spells = c.in_ok-trace.ensures.ok; verdict = found.verdict; entries = found.entries; deliveries = found.deliveries })
    is
