-- What a log knows of each determinant after it has learned something.
use Rattle.std.proofs.Common.{ℕ, ◌≡◌, ◌∙◌, ◌==◌, ◌+◌, Bool, true, false, cond, ◌&&◌, ◌||◌, List, [], ◌∷◌, map, length, Option, Some, is_some, unwrap_or, refl, sym, ap, arith}
use Rattle.std.proofs.lemmas.Bool.{and_parts, or_right}
use Rattle.std.proofs.lemmas.Simd.{map-map}
use Rattle.std.proofs.Math.Bool.{or_assoc}
use Rattle.std.specs.List.{list_any}
use Rattle.std.specs.Cmp.{nat_cmp_total}
use Rattle.std.specs.FinMap as fin
use Rattle.std.specs.FinSet as set
use Rattle.causal_name.specs.declared.Det.{Det}
use Rattle.causal_name.specs.declared.Pid.{Pid}
use Rattle.std.specs.Map.{keys_of}
use Rattle.causal_name.specs.Names.{same_det, is_ascending}
use Rattle.causal_log.specs.declared.known.Known.{Known}
use Rattle.causal_log.specs.declared.batch.Item.{Item}
use Rattle.causal_log.specs.Knowledge.{unknown, union_with, knowledge_from_item}
use Rattle.causal_log.specs.Logs.{LogMap, known_of, after_learn, after_learn_all, not_logged_in, dets_of, after_absorb, after_union}
use Rattle.causal_log.proofs.Lemmas.Searches.{or_nothing, any_map, before_apart, same_turned, any_dets, any_logged, passes}
use Rattle.causal_log.proofs.Lemmas.Ascents.{ascending_tail, ascending_skip, map_ascends}
use Rattle.causal_name.proofs.Lemmas.DetOrder.{dets_total, det_ties, same_is, nat_ties}
use Rattle.std.specs.Ordering.{nat_cmp}

-- learning of one determinant changes only its entry
pub get_learned : (log : LogMap) (det : Det) (known : Known) (q : Det) → fin.get (after_learn log det known) q ≡ cond (same_det q det) (Some (union_with (known_of log det) known)) (fin.get log q)
get_learned log det known q = grind (arith, fin.get-insert, dets_total, det_ties)

logged_one : (log : LogMap) (det : Det) (known : Known) (q : Det) → is_some (fin.get (after_learn log det known) q) ≡ (is_some (fin.get log q) || same_det q det)
logged_one log det known q = grind (arith, get_learned, or_right, or_nothing)

-- for a property of knowledge that a union has if either operand has it
module _ (has : Known → Bool) (either : (one other : Known) → has (union_with one other) ≡ (has one || has other)) where
  known_one : (log : LogMap) (det : Det) (known : Known) (q : Det) → has (known_of (after_learn log det known) q) ≡ (has (known_of log q) || (same_det q det && has known))
  known_one log det known q = ap (λ o. has (unwrap_or o unknown)) (get_learned log det known q) ∙ by (same_det q det) refl
    where
      by : (b : Bool) → same_det q det ≡ b → has (unwrap_or (cond b (Some (union_with (known_of log det) known)) (fin.get log q)) unknown) ≡ (has (known_of log q) || (b && has known))
      by true same = either (known_of log det) known ∙ ap (λ d. has (known_of log d) || has known) (sym (same_is q det same))
      by false apart = or_nothing (has (known_of log q))

  -- after all entries are learned, q has the property if it had it before or a learned entry gives it
  pub known_all : (es : List (Det × Known)) (log : LogMap) (q : Det) → has (known_of (after_learn_all es log) q) ≡ (has (known_of log q) || list_any (λ e. same_det q e.0 && has e.1) es)
  known_all [] log q = or_nothing (has (known_of log q))
  known_all (e ∷ es) log q = grind (arith, known_all es, known_one, or_assoc)

-- after all entries are learned, a determinant is logged if it was logged before or is among them
pub logged_all : (es : List (Det × Known)) (log : LogMap) (q : Det) → is_some (fin.get (after_learn_all es log) q) ≡ (is_some (fin.get log q) || list_any (λ e. same_det q e.0) es)
logged_all [] log q = or_nothing (is_some (fin.get log q))
logged_all (e ∷ es) log q = grind (arith, logged_all es, logged_one, or_assoc)

-- the two properties: a known holder, and the mark
pub holds_either : (p : ℕ) (one other : Known) → set.contains (union_with one other).holders p ≡ (set.contains one.holders p || set.contains other.holders p)
holds_either p one other = set.contains-union nat_cmp_total one.holders other.holders p

-- a union is stable if either operand is
pub stable_either : (one other : Known) → (union_with one other).stable ≡ (one.stable || other.stable)
stable_either one other = refl

-- `knowledge_from_item` gives the determinants of the items
pub told_keys : (from me : Pid) (items : List Item) → keys_of (map (knowledge_from_item from me) items) ≡ dets_of items
told_keys from me items = map-map (λ e. e.0) (knowledge_from_item from me) items

module _ (from me : Pid) (q : Det) where
  -- a message marks no determinant as stable
  pub told_stable : (items : List Item) → list_any (λ e. same_det q e.0 && e.1.stable) (map (knowledge_from_item from me) items) ≡ false
  told_stable [] = refl
  told_stable (item ∷ items) = grind (arith, told_stable items)

  -- the holders that an item gives: its own, the sender and the receiver
  pub told_one : (p : ℕ) (item : Item) → set.contains (knowledge_from_item from me item).1.holders p ≡ (set.contains item.holders p || (p == from.0 || p == me.0))
  told_one p item = grind (arith, set.contains-insert, nat_cmp_total, nat_ties)

-- learning of one determinant adds one entry if it was not logged
pub size_one : (log : LogMap) (det : Det) (known : Known) → fin.len (after_learn log det known) ≡ fin.len log + cond (is_some (fin.get log det)) 0 1
size_one log det known = grind (arith, fin.len-insert, dets_total)

-- learning of one determinant does not log any determinant after it
unknown_after : (log : LogMap) (det : Det) (known : Known) (ds : List Det) → is_ascending (det ∷ ds) ≡ true → not_logged_in (after_learn log det known) ds ≡ not_logged_in log ds
unknown_after log det known [] h = refl
unknown_after log det known (d ∷ ds) h = grind (arith, unknown_after log det known ds, and_parts, get_learned, same_turned, before_apart, ascending_skip)

-- learning of ascending determinants adds as many entries as were not logged
pub size_all : (es : List (Det × Known)) (log : LogMap) → is_ascending (keys_of es) ≡ true → fin.len (after_learn_all es log) ≡ fin.len log + length (not_logged_in log (keys_of es))
size_all [] log h = omega (arith)
size_all (e ∷ es) log h = grind (arith, size_all es, ascending_tail, size_one, unknown_after)

module _ (items : List Item) (from me : Pid) (log : LogMap) where
  -- after `absorb` a log has what it had and what the items name
  pub absorbed_logged : (det : Det) → is_some (fin.get (after_absorb items from me log) det) ≡ (is_some (fin.get log det) || list_any (λ item. same_det det item.det) items)
  absorbed_logged det = grind (arith, logged_all (map (knowledge_from_item from me) items) log det, any_map)

  -- after `absorb` the known holders include the item's holders, the sender and the receiver
  pub absorbed_holders : (det : Det) (p : ℕ) →
      set.contains (known_of (after_absorb items from me log) det).holders p
      ≡ (set.contains (known_of log det).holders p || list_any (λ item. same_det det item.det && (set.contains item.holders p || (p == from.0 || p == me.0))) items)
  absorbed_holders det p = grind (arith, known_all (λ k. set.contains k.holders p) (holds_either p) (map (knowledge_from_item from me) items) log det, any_map, told_one from me det p)

  -- `absorb` changes no mark
  pub absorbed_stable : (det : Det) → (known_of (after_absorb items from me log) det).stable ≡ (known_of log det).stable
  absorbed_stable det = grind (arith, known_all (λ k. k.stable) stable_either (map (knowledge_from_item from me) items) log det, told_stable from me det items)

  -- a batch adds as many entries as it names determinants that were not logged
  pub absorbed_size : is_ascending (dets_of items) ≡ true → fin.len (after_absorb items from me log) ≡ fin.len log + length (not_logged_in log (dets_of items))
  absorbed_size ascend = grind (arith, size_all, told_keys)

-- a property that `unknown` lacks
pub known_passes : (P : Known → Bool) → P unknown ≡ false → (o : Option Known) → passes P o ≡ P (unwrap_or o unknown)
known_passes P lacks o = grind arith

module _ (log other : LogMap) where
  -- a union of logs has the determinants of both
  pub united_logged : (det : Det) → is_some (fin.get (after_union log other) det) ≡ (is_some (fin.get log det) || is_some (fin.get other det))
  united_logged det = logged_all (fin.entries other) log det ∙ ap (λ b. is_some (fin.get log det) || b) (any_dets det other)

  -- in a union a process is a known holder if it is one in either log
  pub united_holders : (det : Det) (p : ℕ) →
      set.contains (known_of (after_union log other) det).holders p ≡ (set.contains (known_of log det).holders p || set.contains (known_of other det).holders p)
  united_holders det p =
      grind (
        arith,
        known_all (λ k. set.contains k.holders p) (holds_either p) (fin.entries other) log det,
        any_logged (λ k. set.contains k.holders p) det other,
        known_passes (λ k. set.contains k.holders p) (set.contains-empty nat_cmp p) (fin.get other det),
      )

  -- in a union a determinant is known to be stable if it is so in either log
  pub united_stable : (det : Det) → (known_of (after_union log other) det).stable ≡ ((known_of log det).stable || (known_of other det).stable)
  united_stable det =
      known_all (λ k. k.stable) stable_either (fin.entries other) log det
      ∙ ap (λ b. (known_of log det).stable || b) (any_logged (λ k. k.stable) det other ∙ known_passes (λ k. k.stable) refl (fin.get other det))

  -- a union adds as many entries as the other log has determinants that were not logged
  pub united_size : fin.len (after_union log other) ≡ fin.len log + length (not_logged_in log (fin.keys other))
  united_size = size_all (fin.entries other) log (map_ascends other)
