use Rattle.std.proofs.Common.{◌≤◌, arith}
use Rattle.causal_log.proofs.TableLemmas.{first_new, pushed_log, pushed_table}
use Rattle.causal_log.proofs.table.Table.add_first.Goals as goal

pub returns-clause-new : goal.returns-clause-new
returns-clause-new c =
    rw (← c.self.view_is) (first_new c.self.inside.entries.entries c.self.inside.numbers c.self.invariant.keyed c.in_ok-place.ensures.unique c.slot-slot.result c.args.det c.slot-slot.ensures (omega (arith, c.if-self-gt1.false)) c.in_ok-place.ensures.new)

pub invariant_of-self-2 : goal.invariant_of-self-2
invariant_of-self-2 c =
    let es = c.self.inside.entries.entries in
    let few : c.self.inside.numbers ≤ 1 = omega (arith, c.if-self-gt1.false) in
    pushed_table es _ _ (c.args.det, c.args.known.now) c.in_ok-place.ensures.entries
    (first_new es c.self.inside.numbers c.self.invariant.keyed c.in_ok-place.ensures.unique c.slot-slot.result c.args.det c.slot-slot.ensures few c.in_ok-place.ensures.new)
    _ _ _ _ c.self.invariant 1 _ _ _ (record { slot = c.slot-slot.ensures; number = omega arith }) few
    (omega (arith, c.if-self-eq0.false, c.self.invariant.few))
    (omega (arith, c.if-self-eq0.false))
    (omega (arith, c.if-self-eq0.false, c.self.invariant.entries_fit, c.in_ok-place.ensures.room))
    c.last_with-self-inside.ensures.kept c.last_with-self-inside.ensures.new

pub returns-clause-put : goal.returns-clause-put
returns-clause-put c =
    rw (← c.self.view_is) (pushed_log c.self.inside.entries.entries _ _ (c.args.det, c.args.known.now) c.in_ok-place.ensures.entries
    (first_new c.self.inside.entries.entries c.self.inside.numbers c.self.invariant.keyed c.in_ok-place.ensures.unique c.slot-slot.result c.args.det c.slot-slot.ensures (omega (arith, c.if-self-gt1.false)) c.in_ok-place.ensures.new))
