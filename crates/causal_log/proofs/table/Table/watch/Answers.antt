use Rattle.std.proofs.Common.{◌≡◌, All, false}
use Rattle.causal_log.specs.Inside.Tables.{IsNotLater, is_later}
use Rattle.causal_log.proofs.TableLemmas.{all_keys}
use Rattle.causal_log.proofs.table.Table.watch.Goals as goal

pub invariant_of-self : goal.invariant_of-self
invariant_of-self c =
    let ended : All (IsNotLater c.last_slot-self-inside.result) c.self.inside.entries.entries =
    all_keys (λ key. is_later c.last_slot-self-inside.result key.slot ≡ false) c.self.inside.entries.entries (rw (c.as_slice.ensures, c.keys.ensures.rest) at c.last_slot-self-inside.ensures) in
    assumption (c.self.invariant, ended)
