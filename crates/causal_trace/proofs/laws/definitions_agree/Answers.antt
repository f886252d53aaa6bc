use Rattle.causal_trace.proofs.Lemmas.AtInstants.{instants_stay, one_more_instant}
use Rattle.causal_trace.proofs.DefinitionsAgree.{sends_counted, deliveries_counted, delivered_at_position, stable_at_position, instants_prefixes, instants_keep_places, down_last, log_last, reaches_path}
use Rattle.causal_trace.proofs.laws.definitions_agree.Goals as goal

pub returns : goal.returns
returns c =
    assumption (instants_prefixes, instants_stay, one_more_instant, instants_keep_places, down_last, log_last, reaches_path, sends_counted, deliveries_counted, delivered_at_position, stable_at_position)
