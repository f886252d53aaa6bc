use Rattle.std.proofs.Common.{sym, ap, ◌∙◌}
use Rattle.std.specs.Option.{is_some}
use Rattle.causal_replays.proofs.RunLemmas.{delivered_number}
use Rattle.causal_replays.proofs.search.copied_at.Goals as goal

pub number_of-number-requires : goal.number_of-number-requires
number_of-number-requires c = ap is_some (delivered_number c.args.trace.now.recording.past c.in_ok-det.det c.args.k (sym c.det_at.ensures ∙ c.in_ok-det.was)).1
