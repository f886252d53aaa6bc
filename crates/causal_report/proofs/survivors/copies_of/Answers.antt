use Rattle.std.proofs.Common.{◌∙◌}
use Rattle.causal_trace.proofs.Lemmas.AtInstants.{delivered_in}
use Rattle.causal_report.proofs.survivors.copies_of.Goals as goal

pub unreachable-requires : goal.unreachable-requires
unreachable-requires c =
    c.in_default.not-Some c.requires.delivered.0 (c.det_at.ensures ∙ delivered_in c.args.trace.now.recording.past c.args.end c.args.delivery c.requires.delivered.0 c.requires.within c.requires.delivered.1)
