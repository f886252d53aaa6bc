-- Boxes that answer as given values do start the same runs.
use Rattle.std.proofs.Common.{◌≡◌, ◌∙◌, ◌+◌, ℕ, List, [], ◌∷◌, ◌++◌, map, length, Option, Some, None, sym, ap, ap₂, refl, subst, arith}
use Rattle.std.specs.List.{range_with_len}
use Rattle.std.proofs.lemmas.List.{map_push, length-map}
use Rattle.std.proofs.lemmas.List.FromFn.{map-range_with_len_more, length-map-range_with_len}
use Rattle.causal_process.specs.declared.message.Input.{Input}
use Rattle.causal_process.specs.declared.message.Input.TheVariants.{Begin}
use Rattle.causal_process.specs.declared.message.Outgoing.{Outgoing}
use Rattle.causal_protocol.specs.Run.{Run}
use Rattle.causal_core.specs.Boxes.{BoxesBegan, box_answers, prepend_answer}
use Rattle.causal_core.specs.View.{sent_bodies}
use Rattle.causal_core.specs.Starts.{opening, with_beginnings}
use Rattle.causal_script.specs.declared.script.Command.{Command}
use Rattle.causal_script.specs.declared.script.Script.{Script}
use Rattle.causal_run.specs.declared.script_process.ScriptProcess.{ScriptProcess}
use Rattle.causal_run.specs.declared.fault.RunFault.{RunFault}
use Rattle.causal_run.specs.declared.fault.RunFault.TheVariants as Fault
use Rattle.causal_run.specs.Runs.{IsStarted, IsRunTo, ExplainsRunFault}
use Rattle.causal_run.specs.ScriptProcesses.{IsStartOf, script_process_answers, script_processes_below}

-- one more box, with the next process
pub more_members : {B C : Type 0} (of : B → C) (member : ℕ → C) (boxes more : List B) (b : B) (k : ℕ) → more ≡ boxes ++ b ∷ [] → map of boxes ≡ map member (range_with_len 0 k)
    → of b ≡ member k → map of more ≡ map member (range_with_len 0 (k + 1))
more_members of member boxes more b k is before one =
    ap (map of) is ∙ map_push of boxes b ∙ ap₂ (λ xs x. xs ++ x ∷ []) before one ∙ sym (map-range_with_len_more member 0 k k (omega arith))

-- there are as many boxes as processes
pub as_many : {B C : Type 0} (of : B → C) (member : ℕ → C) (boxes : List B) (k : ℕ) → map of boxes ≡ map member (range_with_len 0 k) → length boxes ≡ k
as_many of member boxes k is = sym (length-map boxes of) ∙ ap length is ∙ length-map-range_with_len member 0 k

slot_of : {B C : Type 0} → (B → C) → Option B → Option C
slot_of of None = None
slot_of of (Some b) = Some (of b)

module _ {B C : Type 0} (answers : B → List Input → List (List Outgoing)) (others : C → List Input → List (List Outgoing)) (of : B → C)
    (same : (b : B) (inputs : List Input) → answers b inputs ≡ others (of b) inputs) where
  slot_same : (slot : Option B) (inputs : List Input) → box_answers answers slot inputs ≡ box_answers others (slot_of of slot) inputs
  unfolding slot_of
  slot_same None inputs = refl
  slot_same (Some b) inputs = ap Some (same b inputs)

  began-as : (boxes : List B) (sends : List (List Outgoing)) (slots : List (Option B)) → BoxesBegan answers boxes sends slots → BoxesBegan others (map of boxes) sends (map (slot_of of) slots)
  began-as [] [] [] began = tt
  began-as (b ∷ boxes) (sent ∷ sends) (slot ∷ slots) began =
      (λ inputs. ap Some (sym (same b (Begin ∷ inputs))) ∙ began.0 inputs ∙ ap (prepend_answer sent) (slot_same slot inputs), began-as boxes sends slots began.1)
  began-as _ _ _ began = absurd began

  -- boxes start the runs of other boxes that answer equally
  pub started-as : (f : ℕ) (boxes : List B) (r : Run) → IsStarted answers f boxes r → IsStarted others f (map of boxes) r
  started-as f boxes r is = record {
    core = record { run = is.core.run; bodies = is.core.bodies; slots = map (slot_of of) is.core.slots };
    starts = record {
      sends = is.starts.sends;
      began = began-as boxes is.starts.sends is.core.slots is.starts.began;
      run = is.starts.run ∙ ap (λ n. opening n f (with_beginnings n 0 is.starts.sends [])) (sym (length-map boxes of));
      bodies = is.starts.bodies ∙ ap (λ n. map (sent_bodies n) is.starts.sends) (sym (length-map boxes of));
    };
    recording = is.recording;
    faults = is.faults;
  }

-- boxes that answer as the processes of a script start its runs
pub starts-members : {B : Type 0} (answers : B → List Input → List (List Outgoing)) (of : B → ScriptProcess) → ((b : B) (inputs : List Input) → answers b inputs ≡ script_process_answers (of b) inputs)
    → (script : Script) (boxes : List B) (count : ℕ) → map of boxes ≡ script_processes_below script.kind script.n script.param count → count ≡ script.n → (r : Run) → IsStarted answers script.f boxes r → IsStartOf script r
starts-members answers of same script boxes count is all r started =
    subst (λ (ms : List ScriptProcess). IsStarted script_process_answers script.f ms r) (is ∙ ap (script_processes_below script.kind script.n script.param) all) (started-as answers script_process_answers of same script.f boxes r started)

-- the same run, from another kind of start
pub run-as : (Is Other : Run → Type 0) → ((r : Run) → Is r → Other r) → (commands : List Command) (end : Run) → IsRunTo Is commands end → IsRunTo Other commands end
run-as Is Other turn commands end run = record { start = run.start; started = turn run.start run.started; performed = run.performed }

-- the same refusal, from another kind of start
pub told-as : (Is Other : Run → Type 0) → ((r : Run) → Is r → Other r) → (commands : List Command) (fault : RunFault) → ExplainsRunFault Is commands fault → ExplainsRunFault Other commands fault
told-as Is Other turn commands (Fault.Refused line fault) is = record {
  before = is.before;
  command = is.command;
  after = is.after;
  split = is.split;
  started = turn is.start is.started;
  here = is.here;
  start = is.start;
  end = is.end;
  performed = is.performed;
  refused = is.refused;
}
told-as Is Other turn commands fault is = tt
