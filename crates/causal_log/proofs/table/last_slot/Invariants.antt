use Rattle.std.proofs.Common.{◌≡◌, All, false, take}
use Rattle.causal_log.specs.Inside.Tables.{is_later}
use Rattle.causal_log.proofs.table.last_slot.Given as goal

abbrev pub invariant-loop-key : goal.invariant-loop-key
invariant-loop-key l = All (λ key. is_later l.last key.slot ≡ false) (take l.key-index l.keys)
