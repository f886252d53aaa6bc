-- Lemmas that the tactic uses at the goals of a function, in addition to the library's.
use Rattle.std.proofs.lemmas.Bool.Decides.{nat_tests}
use Rattle.std.proofs.lemmas.List.{length-map, map-set}
use Rattle.causal_core.proofs.Cells.{down_there, none_told}
use Rattle.causal_core.proofs.LegalDelivery.{may_deliver, legal, sent_name, all_delivered, chosen_delivered, chosen_all}
use Rattle.causal_log.proofs.Lemmas.ChosenLemmas.{chosen_ascend}
use Rattle.causal_core.proofs.FlushSteps.{flush_steps, flush_refused, refusal_stores, store_fault_first}
use Rattle.causal_core.proofs.RuntimeRestart.{may_restart, restart_legal, restart_steps}
use Rattle.causal_protocol.proofs.Lemmas.KeptByType.{invariant_single, invariant_followed}
use Rattle.causal_core.proofs.ReplayDeliveries.{refuses_named, refuses_naming, replayed_none}
use Rattle.causal_holders.proofs.Lemmas.MemberCounts.{none_in, one_in, one_out}

pub ruleset of_maps = (map-set)

pub ruleset of_down = (none_in, down_there, none_told, one_in, one_out)

pub ruleset of_flushing = (flush_steps, flush_refused, refusal_stores, store_fault_first)

pub ruleset of_recording = (may_deliver, legal, sent_name, all_delivered, chosen_delivered, chosen_ascend, nat_tests)

pub ruleset of_restarting = (may_restart, restart_legal, chosen_ascend, restart_steps, length-map)

pub ruleset of_replaying = (refuses_named, refuses_naming, replayed_none)

pub ruleset of_safety = (invariant_single, invariant_followed)

pub ruleset of_choosing = (chosen_ascend, chosen_all)
