-- The processes of a script, their answers, and the initial state of its run.
use Rattle.std.specs.Prelude.{ℕ, List, map}
use Rattle.std.specs.List.{range_with_len}
use Rattle.causal_process.specs.declared.message.Input.{Input}
use Rattle.causal_process.specs.declared.message.Outgoing.{Outgoing}
use Rattle.causal_process.specs.Kinds.{ring_reaction, echo_reaction, tally_reaction, adder_after}
use Rattle.causal_process.specs.Reactions.{answers_from}
use Rattle.causal_script.specs.declared.script.Kind.{Kind}
use Rattle.causal_script.specs.declared.script.Kind.TheVariants as Of
use Rattle.causal_script.specs.declared.script.Script.{Script}
use Rattle.causal_protocol.specs.Run.{Run}
use Rattle.causal_run.specs.declared.script_process.ScriptProcess.{ScriptProcess}
use Rattle.causal_run.specs.declared.script_process.ScriptProcess.TheVariants.{Ring, Echo, Tally}
use Rattle.causal_run.specs.Runs.{IsStarted}

-- process `me` of n of a kind, with the script's count as its parameter
abbrev pub script_process_of : Kind → ℕ → ℕ → ℕ → ScriptProcess
script_process_of Of.Ring n param me = Ring (record { n = n; me = me; start = param })
script_process_of Of.Echo n param me = Echo (record { n = n; me = me; start = param })
script_process_of Of.Tally n param me = Tally (record { me = me; total = 0 })

-- a process answers as its kind does
abbrev pub script_process_answers : ScriptProcess → List Input → List (List Outgoing)
script_process_answers (Ring ring) inputs = map (ring_reaction ring) inputs
script_process_answers (Echo echo) inputs = map (echo_reaction echo) inputs
script_process_answers (Tally tally) inputs = answers_from tally_reaction adder_after tally inputs

-- the processes of a kind with the numbers below `count`, in order
abbrev pub script_processes_below : Kind → ℕ → ℕ → ℕ → List ScriptProcess
script_processes_below kind n param count = map (λ me. script_process_of kind n param me) (range_with_len 0 count)

-- the script's own processes have begun, from their initial states, and nothing else has happened
abbrev pub IsStartOf : Script → Run → Type 0
IsStartOf script = IsStarted script_process_answers script.f (script_processes_below script.kind script.n script.param script.n)
