-- The logs of the theory that the logs of nodes represent, after each change.
use Rattle.std.proofs.Common.{ℕ, ◌≡◌, ◌==◌, Bool, false, ◌&&◌, ◌||◌, List, [], ◌∷◌, refl, arith}
use Rattle.std.specs.List.{list_any}
use Rattle.std.specs.Cmp.{nat_cmp_total}
use Rattle.std.specs.Ordering.{nat_cmp}
use Rattle.std.specs.FinSet as set
use Rattle.causal_name.specs.declared.Pid.{Pid}
use Rattle.causal_name.specs.declared.Det.{Det}
use Rattle.causal_name.specs.Names.{same_det}
use Rattle.causal_name.proofs.Lemmas.DetOrder.{nat_ties}
use Rattle.causal_trace.specs.Past.{list_has}
use Rattle.causal_log.specs.declared.known.Known.{Known}
use Rattle.causal_log.specs.declared.batch.Item.{Item}
use Rattle.causal_log.specs.Knowledge.{held_by}
use Rattle.causal_log.specs.Logs.{LogMap, dets_of, after_learn, after_absorb, after_mark}
use Rattle.causal_log.proofs.Lemmas.KnowledgeGrows.{logged_all, known_all, holds_either, stable_either, absorbed_logged, absorbed_holders, absorbed_stable}
use Rattle.causal_log.proofs.Lemmas.LogLists.{get_marked}
use Rattle.causal_protocol.specs.Memory.{log_after_delivery}
use Rattle.causal_protocol.specs.Gathering.{with_held}
use Rattle.causal_protocol.specs.Naming.{with_own}
use Rattle.causal_protocol.specs.MemoryQueries.{has_entry, log_knows_holder, log_knows_stable, has_item, item_holder, parcel_of}
use Rattle.causal_nodes.specs.Node.{NodeLog}
use Rattle.causal_nodes.specs.NodeSteps.{log_after_mark}
use Rattle.causal_nodes.specs.NodeSteps as theory
use Rattle.causal_calls.specs.Views.{log_view}
use Rattle.causal_protocol.proofs.Lemmas.LogMembers.{own_have, items_have}

-- logs that know the same are equal
pub same_log : (a b : NodeLog) → ((d : Det) → a.has d ≡ b.has d) → ((d : Det) (q : ℕ) → a.holder d q ≡ b.holder d q) → ((d : Det) → a.stable d ≡ b.stable d) → a ≡ b
same_log a b has holder stable = λ i. record { has = λ d. has d i; holder = λ d q. holder d q i; stable = λ d. stable d i }

-- after one determinant is learned
module _ (log : LogMap) (own : Det) (k : Known) (d : Det) where
  pub one_entry : has_entry d (after_learn log own k) ≡ (has_entry d log || (same_det d own || false))
  one_entry = logged_all ((own, k) ∷ []) log d

  pub one_holder : (q : ℕ) → log_knows_holder d q (after_learn log own k) ≡ (log_knows_holder d q log || ((same_det d own && set.contains k.holders q) || false))
  one_holder q = known_all (λ k. set.contains k.holders q) (holds_either q) ((own, k) ∷ []) log d

  pub one_stable : log_knows_stable d (after_learn log own k) ≡ (log_knows_stable d log || ((same_det d own && k.stable) || false))
  one_stable = known_all (λ k. k.stable) stable_either ((own, k) ∷ []) log d

-- the set of one process
pub one_holds : (p q : ℕ) → set.contains (set.insert (set.empty {R = nat_cmp}) p) q ≡ (q == p)
one_holds p q = grind (arith, set.contains-insert nat_cmp_total set.empty p q, nat_ties q p, set.contains-empty nat_cmp q)

-- a delivery
module _ (items : List Item) (own : Det) (log : LogMap) where
  abbrev absorbed : LogMap
  absorbed = after_absorb items own.source own.dest log

  abbrev listed : List Det
  listed = with_own own (dets_of items)

  pub delivered_has : (d : Det) → has_entry d (log_after_delivery items own log) ≡ (list_has listed d || has_entry d log)
  delivered_has d =
      grind (arith, one_entry absorbed own (held_by own.dest) d, absorbed_logged items own.source own.dest log d, own_have own (dets_of items) d, items_have items d)

  abbrev tells : Det → ℕ → Item → Bool
  tells d q item = same_det d item.det && (set.contains item.holders q || (q == own.source.0 || q == own.dest.0))

  tells_split : (d : Det) (q : ℕ) (xs : List Item) → list_any (tells d q) xs ≡ (item_holder d q xs || (has_item d xs && (q == own.source.0 || q == own.dest.0)))
  tells_split d q [] = refl
  tells_split d q (x ∷ xs) = grind (arith, tells_split d q xs)

  holder_has : (d : Det) (q : ℕ) (xs : List Item) → item_holder d q xs ≡ (has_item d xs && item_holder d q xs)
  holder_has d q [] = refl
  holder_has d q (x ∷ xs) = grind (arith, holder_has d q xs)

  pub delivered_holder : (d : Det) (q : ℕ) →
      log_knows_holder d q (log_after_delivery items own log)
      ≡ ((list_has listed d && ((item_holder d q items || (has_item d items && q == own.source.0)) || q == own.dest.0)) || log_knows_holder d q log)
  delivered_holder d q = grind (
    arith,
    one_holder absorbed own (held_by own.dest) d q,
    one_holds own.dest.0 q,
    absorbed_holders items own.source own.dest log d q,
    tells_split d q items,
    holder_has d q items,
    own_have own (dets_of items) d,
    items_have items d,
  )

  delivered_stable : (d : Det) → log_knows_stable d (log_after_delivery items own log) ≡ log_knows_stable d log
  delivered_stable d = grind (arith, one_stable absorbed own (held_by own.dest) d, absorbed_stable items own.source own.dest log d)

  -- the log after a delivery is the theory's
  pub delivered : (at : ℕ) → log_view (log_after_delivery items own log) ≡ theory.node_log_after_delivery own.dest.0 listed (parcel_of own.source.0 (record { to = own.dest; send = at; batch = items })) (log_view log)
  delivered at = same_log _ _ delivered_has delivered_holder delivered_stable

-- a mark
module _ (log : LogMap) (det : Det) where
  pub marked : log_view (after_mark log det) ≡ log_after_mark det (log_view log)
  marked = same_log _ _ (λ d. grind (arith, get_marked log det d)) (λ d q. grind (arith, get_marked log det d)) (λ d. grind (arith, get_marked log det d))

-- after a process is learned as a holder of these
module _ (p : Pid) (d : Det) where
  pub held_has : (ds : List Det) (log : LogMap) → has_entry d (with_held ds p log) ≡ (has_entry d log || list_has ds d)
  unfolding with_held
  held_has [] log = grind arith
  held_has (x ∷ ds) log = grind (arith, held_has ds (after_learn log x (held_by p)), one_entry log x (held_by p) d)

  pub held_holder : (q : ℕ) (ds : List Det) (log : LogMap) → log_knows_holder d q (with_held ds p log) ≡ (log_knows_holder d q log || (list_has ds d && q == p.0))
  unfolding with_held
  held_holder q [] log = grind arith
  held_holder q (x ∷ ds) log = grind (arith, held_holder q ds (after_learn log x (held_by p)), one_holder log x (held_by p) d q, one_holds p.0 q)

  pub held_stable : (ds : List Det) (log : LogMap) → log_knows_stable d (with_held ds p log) ≡ log_knows_stable d log
  unfolding with_held
  held_stable [] log = refl
  held_stable (x ∷ ds) log = grind (arith, held_stable ds (after_learn log x (held_by p)), one_stable log x (held_by p) d)
