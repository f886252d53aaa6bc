-- What a process knows of a determinant: its holders, and whether it is stable.
-- After `Log(e)` and `Stable(e)` of Elnozahy, Alvisi, Wang and Johnson 2002, as far as the process knows them.
use Rattle.std.specs.Prelude.{ℕ, Bool, true, false, not, ◌&&◌, ◌||◌, nat_le, refl}
use Rattle.std.specs.Ordering.{nat_cmp}
use Rattle.std.specs.FinSet as set
use Rattle.std.specs.Coded.{Coded, code_by, coded×, coded_ℕ, coded_bool}
use Rattle.causal_name.specs.declared.Det.{Det}
use Rattle.causal_name.specs.declared.Pid.{Pid}
use Rattle.causal_log.specs.declared.known.Known.{Known}
use Rattle.causal_log.specs.declared.batch.Item.{Item}

-- no holders, and not stable: what is known of a determinant that is not logged
abbrev pub unknown : Known
unknown = record { holders = set.empty; stable = false }

-- this process holds it
abbrev pub held_by : Pid → Known
held_by p = record { holders = set.insert set.empty p.0; stable = false }

-- this process holds it, and it is stable
abbrev pub stable_and_held_by : Pid → Known
stable_and_held_by p = record { holders = set.insert set.empty p.0; stable = true }

-- the union of two pieces of knowledge: the holders of both; stable if either is
abbrev pub union_with : Known → Known → Known
union_with one other = record { holders = set.union one.holders other.holders; stable = one.stable || other.stable }

-- the knowledge with the mark that the determinant is stable
abbrev pub as_stable : Known → Known
as_stable known = record known { stable = true }

-- what an item gives the receiver of its message: its holders, the sender and the receiver hold its determinant
abbrev pub knowledge_from_item : Pid → Pid → Item → Det × Known
knowledge_from_item from me item = (item.det, record { holders = set.insert (set.insert item.holders from.0) me.0; stable = false })

-- whether a message carries a determinant of which this is known: not known to be stable, at most f known holders
abbrev pub is_carried : ℕ → Known → Bool
is_carried f known = not known.stable && nat_le (set.len known.holders) f

-- encodings: a determinant as its four numbers, knowledge as a set and a bit, an item as both
abbrev pub coded_det : Coded Det
coded_det =
    code_by (ℕ × (ℕ × (ℕ × ℕ))) (coded× coded_ℕ (coded× coded_ℕ (coded× coded_ℕ coded_ℕ)))
    (λ d. (d.source.0, (d.ssn, (d.dest.0, d.rsn))))
    (λ p. record { source = record { 0 = p.0 }; ssn = p.1.0; dest = record { 0 = p.1.1.0 }; rsn = p.1.1.1 })
    (λ _. refl)

abbrev pub coded_known : Coded Known
coded_known =
    code_by (set.FinSet nat_cmp × Bool) (coded× (set.code coded_ℕ) coded_bool)
    (λ k. (k.holders, k.stable)) (λ p. record { holders = p.0; stable = p.1 }) (λ _. refl)

abbrev pub coded_item : Coded Item
coded_item =
    code_by (Det × set.FinSet nat_cmp) (coded× coded_det (set.code coded_ℕ))
    (λ item. (item.det, item.holders)) (λ p. record { det = p.0; holders = p.1 }) (λ _. refl)
