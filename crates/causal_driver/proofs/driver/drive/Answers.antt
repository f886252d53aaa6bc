use Rattle.std.proofs.Common.{subst}
use Rattle.causal_core.specs.CoreView.{core_run}
use Rattle.causal_driver.specs.Inside.Turns.{IsMade, IsTurn}
use Rattle.causal_driver.proofs.CallLemmas.{none_made, one_more}
use Rattle.causal_driver.proofs.driver.drive.Goals as goal

-- src/driver.rt:121:5
pub loop-made-init : goal.loop-made-init
loop-made-init g c = rw (c.new-calls.ensures.items, c.next_word-first.ensures) (none_made c.args.schedule (core_run c.args.core.now))

-- src/driver.rt:121:5
pub loop-made-preserved : goal.loop-made-preserved
loop-made-preserved g c =
    let s = c.args.schedule in
    let word = c.loop-made.word in
    let before = c.loop-made.calls.items in
    let after = c.turn.new.calls.items in
    let mid = core_run c.loop-made.core in
    let new = core_run c.turn.new.core in
    let turn : IsMade s word before after mid new = subst (λ outcome. IsTurn s word outcome before after mid new) c.in-Ok-Made.field-0-is c.in-Ok-Made.ensures.turn in
    rw c.next_word-word.ensures (one_more s word c.loop-made.made before after (core_run c.args.core.now) mid new c.loop-made.invariant turn)
