use Rattle.std.proofs.Common.{◌≡◌, All, List, false, take, subst}
use Rattle.std.proofs.lemmas.List.{take_all}
use Rattle.std.proofs.lemmas.List.Elements.{All-more, All-weaker}
use Rattle.causal_log.specs.declared.table.SlotKey.{SlotKey}
use Rattle.causal_log.specs.Inside.Tables.{is_later}
use Rattle.causal_log.proofs.table.last_slot.Goals as goal

pub loop-key-preserved : goal.loop-key-preserved
loop-key-preserved c =
    All-more (λ key. is_later c.last_with-last.result key.slot ≡ false) c.args.keys.now c.loop-key.key-index _ c.loop-key-test.true
    (All-weaker (λ key. is_later c.loop-key.last key.slot ≡ false) (λ key. is_later c.last_with-last.result key.slot ≡ false) (λ key so. c.last_with-last.ensures.kept key.slot so) (take c.loop-key.key-index c.args.keys.now) c.loop-key.invariant)
    c.last_with-last.ensures.new

pub returns : goal.returns
returns c = subst (λ (keys : List SlotKey). All (λ key. is_later c.loop-key.last key.slot ≡ false) keys) (take_all c.loop-key.key-index c.args.keys.now c.loop-key-test.false) c.loop-key.invariant
