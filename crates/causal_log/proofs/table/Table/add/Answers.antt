use Rattle.std.proofs.Common.{ap, arith}
use Rattle.causal_log.proofs.TableLemmas.{pushed_keys, pushed_log, pushed_table}
use Rattle.causal_log.proofs.table.Table.add.Goals as goal

pub invariant_of-self : goal.invariant_of-self
invariant_of-self c =
    let room = ap (λ t. t.spare) c.self.view_is in
    pushed_table c.self.inside.entries.entries _ _ (c.args.det, c.args.known) c.insert_new.ensures.entries (rw (← c.self.view_is) at c.requires.new) _ _ _ _ c.self.invariant c.max-self-inside.result _ _ _
    (record { slot = c.slot-slot.ensures; number = omega (arith, c.max-self-inside.ensures) })
    (omega (arith, c.max-self-inside.ensures))
    (omega (arith, c.max-self-inside.ensures, c.unused_number-number.ensures.few, room, c.requires.room, c.self.invariant.few, c.self.invariant.numbers_fit))
    (omega (arith, room, c.requires.room))
    (omega (arith, room, c.requires.room, c.self.invariant.entries_fit, c.insert_new.ensures.room))
    c.last_with-self-inside.ensures.kept c.last_with-self-inside.ensures.new

pub returns-clause-put : goal.returns-clause-put
returns-clause-put c =
    rw (← c.self.view_is) (pushed_log c.self.inside.entries.entries _ _ (c.args.det, c.args.known) c.insert_new.ensures.entries (rw (← c.self.view_is) at c.requires.new))

pub returns-clause-keys : goal.returns-clause-keys
returns-clause-keys c = rw (← c.self.view_is) (pushed_keys c.self.inside.entries.entries _ _ (c.args.det, c.args.known) c.insert_new.ensures.entries)
