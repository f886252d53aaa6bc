use Rattle.std.proofs.Common.{◌≡◌, ◌∙◌, refl, arith}
use Rattle.std.proofs.lemmas.Result.{IfErr-weaker, IfOk-weaker}
use Rattle.causal_run.specs.contracts.script_process.ScriptProcess.{the_row}
use Rattle.causal_run.specs.ScriptProcesses.{script_process_of}
use Rattle.causal_run.proofs.Objects.{value_of, made_of, of_each}
use Rattle.causal_run.proofs.Starts.{starts-members, run-as, told-as, more_members, as_many}
use Rattle.causal_run.proofs.script_run.run_script.Goals as goal

pub loop-me-preserved : goal.loop-me-preserved
loop-me-preserved g c =
    let script = c.args.script.now in
    let value : value_of c.into_dyn_box.result ≡ c.in_ok-new.field-0.value = made_of c.into_dyn_box.result _ the_row.coded _ c.into_dyn_box.ensures.1 (λ x. refl) in
    let member : value_of c.into_dyn_box.result ≡ script_process_of script.kind script.n script.param c.loop-me.me = value ∙ (c.in_ok-new.ensures.ok ∙ c.new.ensures) in
    more_members _ (λ me. script_process_of script.kind script.n script.param me) c.loop-me.boxes.items c.push.new.self.items c.into_dyn_box.result c.loop-me.me c.in_ok-push.ensures.items c.loop-me.invariant member

pub perform_and_explore-requires-clause-boxes : goal.perform_and_explore-requires-clause-boxes
perform_and_explore-requires-clause-boxes g c =
    let script = c.args.script.now in
    as_many _ (λ me. script_process_of script.kind script.n script.param me) c.loop-me.boxes.items c.loop-me.me c.loop-me.invariant ∙ omega arith

pub returns-clause-run : goal.returns-clause-run
returns-clause-run g c = IfOk-weaker c.perform_and_explore.result _ _ (λ trace run. record {
  mid = run.mid;
  end = run.end;
  run = run-as _ _ (starts-members _ (λ b. value_of b) (of_each _ (λ b w inputs. refl)) c.args.script.now c.loop-me.boxes.items c.loop-me.me c.loop-me.invariant (omega arith)) _ run.mid run.run;
  explored = run.explored;
  recorded = run.recorded;
}) c.perform_and_explore.ensures.run

pub returns-clause-refused : goal.returns-clause-refused
returns-clause-refused g c =
    IfErr-weaker c.perform_and_explore.result _ _ (told-as _ _ (starts-members _ (λ b. value_of b) (of_each _ (λ b w inputs. refl)) c.args.script.now c.loop-me.boxes.items c.loop-me.me c.loop-me.invariant (omega arith)) _)
    c.perform_and_explore.ensures.refused
