-- Lemmas: the processes of a script satisfy the laws of a process.
use Rattle.causal_process.specs.Kinds.{ring_reaction, echo_reaction, tally_reaction, adder_after}
use Rattle.causal_process.specs.Laws.{AnswersEach, AnswersInOrder}
use Rattle.causal_process.specs.ReactionLaws.{map_each, map_in_order, from_each, from_in_order}
use Rattle.causal_run.specs.declared.script_process.ScriptProcess.TheVariants.{Ring, Echo, Tally}
use Rattle.causal_run.specs.ScriptProcesses.{script_process_answers}

-- there is one list of sends for each input
pub members_each : AnswersEach script_process_answers
members_each (Ring ring) inputs = map_each (ring_reaction ring) inputs
members_each (Echo echo) inputs = map_each (echo_reaction echo) inputs
members_each (Tally tally) inputs = from_each tally_reaction adder_after tally inputs

-- the answers to a prefix of a list are a prefix of the answers to the list
pub members_in_order : AnswersInOrder script_process_answers
members_in_order (Ring ring) inputs later = map_in_order (ring_reaction ring) inputs later
members_in_order (Echo echo) inputs later = map_in_order (echo_reaction echo) inputs later
members_in_order (Tally tally) inputs later = from_in_order tally_reaction adder_after tally inputs later
