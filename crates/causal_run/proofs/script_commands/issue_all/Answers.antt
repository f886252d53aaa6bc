use Rattle.std.proofs.Common.{◌≡◌, ◌∙◌, sym, refl, ap, subst, List, [], length, take, length-drop, get_or, arith}
use Rattle.std.proofs.Math.Seq.{take-length}
use Rattle.std.specs.Vec.Iter.{into_iter_items}
use Rattle.causal_protocol.specs.declared.request.Request.TheVariants as Requests
use Rattle.causal_shared.specs.declared.item.Item.{Item}
use Rattle.causal_script.specs.declared.script.Command.{Command}
use Rattle.causal_run.specs.Runs.{spares_for}
use Rattle.causal_run.specs.Inside.IssuedRequests.{ArePerformed}
use Rattle.causal_run.proofs.Histories.{done_more, spares_left, stopped}
use Rattle.causal_run.proofs.script_commands.issue_all.Goals as goal

-- the result of an iterator that is read past its end
abbrev past_end : Command
past_end = record { line = 0; request = Requests.Deliver (record { 0 = 0 }) (record { 0 = 0 }) 0 }

pub loop-command-init : goal.loop-command-init
loop-command-init g c = record {
  done = subst (λ (items : List Item). ArePerformed [] items) (sym c.requires.fresh) tt;
  spares = ap length c.into_iter-spares.ensures.rest ∙ c.requires.spares;
}

pub issue-requires : goal.issue-requires
issue-requires g c =
    let left = spares_left c.args.commands.now c.loop-command.command-index past_end _ c.loop-command-test.true refl in
    omega (arith, left, c.loop-command.invariant.spares)

pub loop-command-preserved : goal.loop-command-preserved
loop-command-preserved g c =
    let i = c.loop-command.command-index in
    let commands = c.args.commands.now in
    let command = get_or commands i past_end in
    let before = into_iter_items c.loop-command.spares in record {
      done = done_more c.in_default.field-0 commands i past_end command c.loop-command.seat.view c.issue.new.seat.view c.loop-command-test.true refl c.in_default.ensures.item c.loop-command.invariant.done;
      spares = ap length c.issue.ensures.spares ∙ length-drop (spares_for command.request) before
          ∙ omega (arith, spares_left commands i past_end command c.loop-command-test.true refl, c.loop-command.invariant.spares);
    }

pub returns-in-Err-clause-err : goal.returns-in-Err-clause-err
returns-in-Err-clause-err g c =
    let i = c.loop-command.command-index in
    let commands = c.args.commands.now in
    rw c.run_fault_at.ensures (stopped commands i past_end (get_or commands i past_end) c.loop-command.seat.view c.issue.new.seat.view c.in-Err.fault c.loop-command-test.true refl c.loop-command.invariant.done c.in-Err.ensures.item)

pub returns-clause-ok : goal.returns-clause-ok
returns-clause-ok g c =
    let commands = c.args.commands.now in
    let at : c.loop-command.command-index ≡ length c.args.commands.now = omega arith in
    let all : take c.loop-command.command-index c.args.commands.now ≡ c.args.commands.now = ap (λ n. take n commands) at ∙ take-length commands in
    subst (λ (cs : List Command). ArePerformed cs c.loop-command.seat.view.items) all c.loop-command.invariant.done
