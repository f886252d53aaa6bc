use Rattle.causal_audit.proofs.Common.{ℕ, ◌≡◌, ◌∙◌, ◌<◌, List, Some, length, sym, ap, subst, arith, false≢true, det_at, det_within, get_or, get_or_default, len, logs, Det, Entry, HasOrphan}
use Rattle.causal_audit.specs.Laws.{IsExposed}
use Rattle.causal_audit.specs.Inside.Group.Walk.{copies_at, no_copies}
use Rattle.causal_audit.specs.Inside.DeliveryStates.{HasExactly}
use Rattle.causal_audit.specs.declared.group.copies.DetCopies.{DetCopies}
use Rattle.causal_audit.proofs.Lemmas.OrphansByCounts.{exposed}
use Rattle.causal_audit.proofs.safety_scan.CoverStays.{gone_many}
use Rattle.causal_audit.proofs.group.orphan_check.check_place.Goals as goal

-- the copies that are read are those at the place
read : (copies : List DetCopies) (place i : ℕ) (x : DetCopies) → i ≡ place → place < 256 → length copies ≡ 256 → x ≡ get_or copies i x → x ≡ copies_at copies place
read copies place i x at low long is = is ∙ get_or_default copies i x no_copies (omega (arith, at, low, long)) ∙ ap (copies_at copies) at

-- the delivery at k, which has an orphan, is exposed
seen : (n f : ℕ) (past : List Entry) (k t : ℕ) (d : Det) → length past ≡ t → (k < t → det_at past k ≡ Some d) → HasOrphan n f past k → IsExposed n f past k d
seen n f past k t d long at has = exposed n f past k d (at (omega (arith, long, det_within past k has.is_orphan.det has.is_orphan.delivered))) has

pub returns-then-copies : goal.returns-then-copies
returns-then-copies c n past d accepted long at told copied down has =
    false≢true (sym (seen n c.args.f past c.args.k c.args.t d long at has).unstable ∙ sym copied.stable ∙ ap (λ (x : DetCopies). x.stable) (sym (read c.args.buffers.now.copies.items c.args.place c.from.result c.index-copies.result.now c.from.ensures c.ranges.place.fits c.requires.copies c.index-copies.ensures)) ∙ c.if-copies.true)

pub returns-then-len-from : goal.returns-then-len-from
returns-then-len-from c n past d accepted long at told copied down has =
    let holders = c.index-copies.result.now.holders in
    let shown : HasExactly holders (λ p. logs past p d) = subst (λ (x : DetCopies). HasExactly x.holders (λ p. logs past p d)) (sym (read c.args.buffers.now.copies.items c.args.place c.from.result c.index-copies.result.now c.from.ensures c.ranges.place.fits c.requires.copies c.index-copies.ensures)) copied.holders in
    let few = (seen n c.args.f past c.args.k c.args.t d long at has).few in
    omega (arith, c.if-len-from.true, c.len.ensures.counted, c.from-2.ensures, ap len c.union-gone.ensures, gone_many n past d accepted c.args.buffers.now.down holders down shown, few)

pub dependents_of-requires : goal.dependents_of-requires
dependents_of-requires c = omega (arith, ap length c.deref.ensures.value, c.requires.present)

pub index-copies-requires : goal.index-copies-requires
index-copies-requires c = omega (arith, c.from.ensures, c.ranges.place.fits, c.requires.copies, c.args.buffers.now.copies.ok)
