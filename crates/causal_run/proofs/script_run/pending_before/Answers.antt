use Rattle.std.proofs.Common.{◌≡◌, ◌∙◌, List, take, refl, subst, arith}
use Rattle.std.specs.Prelude.{Option, None, Some, IfSome}
use Rattle.std.proofs.lemmas.Result.{IfOk-weaker}
use Rattle.causal_core.specs.CoreView.{core_run}
use Rattle.causal_run.specs.contracts.script_process.ScriptProcess.{the_row}
use Rattle.causal_script.specs.declared.script.Command.{Command}
use Rattle.causal_run.specs.Pending.{IsDeliverCommandAt}
use Rattle.causal_run.specs.Runs.{IsRunTo}
use Rattle.causal_run.specs.ScriptProcesses.{IsStartOf, script_process_of}
use Rattle.causal_run.proofs.Objects.{value_of, made_of, of_each}
use Rattle.causal_run.proofs.Starts.{starts-members, run-as, more_members, as_many}
use Rattle.causal_run.proofs.script_run.pending_before.Goals as goal

-- a property of each value in an option implies another
weaker : {A : Type 0} (found : Option A) (P Q : A → Type 0) → ((a : A) → P a → Q a) → IfSome found P → IfSome found Q
weaker None P Q from h = tt
weaker (Some a) P Q from h = from a h

pub loop-me-preserved : goal.loop-me-preserved
loop-me-preserved g c =
    let script = c.args.script.now in
    let value : value_of c.into_dyn_box.result ≡ c.in_ok-new.field-0.value = made_of c.into_dyn_box.result _ the_row.coded _ c.into_dyn_box.ensures.1 (λ x. refl) in
    let member : value_of c.into_dyn_box.result ≡ script_process_of script.kind script.n script.param c.loop-me.me = value ∙ (c.in_ok-new.ensures.ok ∙ c.new.ensures) in
    more_members _ (λ me. script_process_of script.kind script.n script.param me) c.loop-me.boxes.items c.push.new.self.items c.into_dyn_box.result c.loop-me.me c.in_ok-push.ensures.items c.loop-me.invariant member

pub core_after-requires-clause-boxes : goal.core_after-requires-clause-boxes
core_after-requires-clause-boxes g c =
    let script = c.args.script.now in
    as_many _ (λ me. script_process_of script.kind script.n script.param me) c.loop-me.boxes.items c.loop-me.me c.loop-me.invariant ∙ omega arith

pub returns : goal.returns
returns g c =
    let place = c.in-Some.place in
    let end = core_run c.in_ok-core.core in
    record {
      pending = IfOk-weaker c.pending_at_end.result _ _ (λ found. weaker found _ _ (λ names pending. record {
        place = place;
        receiver = c.in-Some.q;
        delivery = subst (λ (cs : List Command). IsDeliverCommandAt cs place c.args.line c.in-Some.q) c.as_slice.ensures c.in-Some.ensures;
        end = end;
        run = subst (λ (cs : List Command). IsRunTo (IsStartOf c.args.script.now) (take place cs) end) c.as_slice-2.ensures
            (run-as _ _ (starts-members _ (λ b. value_of b) (of_each _ (λ b w inputs. refl)) c.args.script.now c.loop-me.boxes.items c.loop-me.me c.loop-me.invariant (omega arith))
            _ end c.in_ok-core.ensures.run);
        pending = pending;
      })) c.pending_at_end.ensures;
    }
