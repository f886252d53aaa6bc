-- What logs have after a delivery, after a union, and after a restart.
use Rattle.std.proofs.Common.{ℕ, zero, suc, ◌≡◌, ◌<◌, inl, inr, Bool, true, false, ◌&&◌, ◌||◌, List, [], ◌∷◌, map, length, Some, None, refl, sym, ap, ◌∙◌, arith}
use Rattle.std.specs.Prelude.{◌==◌, ◌⊎◌}
use Rattle.std.specs.List.{list_any}
use Rattle.std.specs.Cmp.{nat_cmp_total}
use Rattle.std.specs.Ordering.{nat_cmp}
use Rattle.std.specs.FinMap as fin
use Rattle.std.specs.FinSet as set
use Rattle.std.proofs.lemmas.Bool.{false≢true, both_ways, or_cases, or_left, or_right, and_from, and_parts, eqb-true, eq-eqb}
use Rattle.causal_name.specs.declared.Pid.{Pid}
use Rattle.causal_name.specs.declared.Det.{Det}
use Rattle.causal_name.specs.Names.{same_det}
use Rattle.causal_name.proofs.Lemmas.DetOrder.{det_ties, same_is, same_itself, nat_ties}
use Rattle.causal_trace.specs.Past.{list_has}
use Rattle.causal_log.specs.declared.known.Known.{Known}
use Rattle.causal_log.specs.declared.batch.Item.{Item}
use Rattle.causal_log.specs.Knowledge.{held_by, stable_and_held_by, union_with}
use Rattle.causal_log.specs.Logs.{LogMap, known_of, after_learn, after_learn_all, after_absorb, after_union}
use Rattle.causal_log.specs.Stores.{DetSet, dets_in}
use Rattle.causal_log.specs.Stores as store
use Rattle.causal_log.proofs.Lemmas.KnowledgeGrows.{logged_all, known_all, holds_either, stable_either, absorbed_logged, absorbed_holders, absorbed_stable, united_logged, united_holders, united_stable}
use Rattle.causal_log.proofs.Lemmas.Searches.{any_map, any_dets}
use Rattle.causal_protocol.specs.Memory.{Memories, log_after_delivery}
use Rattle.causal_protocol.specs.Gathering.{with_logs_of, with_held, with_stored, union_of_logs, restart_log}
use Rattle.causal_protocol.specs.Contributions.{MessageImpliesHolder}
use Rattle.causal_protocol.specs.MemoryQueries.{log_at, has_entry, log_knows_holder, log_knows_stable, memory_logs, knows_holder, knows_stable, has_item, item_holder}
use Rattle.causal_protocol.proofs.Lemmas.LogMembers.{none_holds, none_stable, none_entry, entry_of_holder}

-- an item that names a holder is an item
pub item_of_holder : (d : Det) (q : ℕ) (items : List Item) → item_holder d q items ≡ true → has_item d items ≡ true
item_of_holder d q [] h = absurd (false≢true h)
item_of_holder d q (item ∷ items) h = grind (arith, item_of_holder d q items)

-- the set of one number
alone_has : (p q : ℕ) → set.contains (set.insert (set.empty {R = nat_cmp}) p) q ≡ (q == p)
alone_has p q = grind (arith, set.contains-insert nat_cmp_total set.empty p q, nat_ties q p, set.contains-empty nat_cmp q)

-- what a delivery adds to a log
module _ (batch : List Item) (own : Det) (log : LogMap) (d : Det) where
  abbrev absorbs : LogMap
  absorbs = after_absorb batch own.source own.dest log

  -- after a delivery the log also has its own determinant and what the message carries
  pub gained_entry : has_entry d (log_after_delivery batch own log) ≡ (has_entry d log || (same_det d own || has_item d batch))
  gained_entry = grind (arith, logged_all ((own, held_by own.dest) ∷ []) absorbs d, absorbed_logged batch own.source own.dest log d)

  -- whether an item makes q a holder of d: q is one of its holders, the sender or the receiver
  abbrev tells_item : ℕ → Item → Bool
  tells_item q item = same_det d item.det && (set.contains item.holders q || (q == own.source.0 || q == own.dest.0))

  -- the known holders after a delivery: those before it, those that an item tells, and the receiver
  pub gained_known : (q : ℕ) → log_knows_holder d q (log_after_delivery batch own log) ≡ ((log_knows_holder d q log || list_any (tells_item q) batch) || ((same_det d own && set.contains (held_by own.dest).holders q) || false))
  gained_known q = grind (arith, known_all (λ k. set.contains k.holders q) (holds_either q) ((own, held_by own.dest) ∷ []) absorbs d, absorbed_holders batch own.source own.dest log d q)

  -- an item makes q a holder of d if it names q, or if it is of d and q is an end of its message
  item_tells : (q : ℕ) (items : List Item) → list_any (tells_item q) items ≡ (item_holder d q items || (has_item d items && (q == own.source.0 || q == own.dest.0)))
  item_tells q [] = refl
  item_tells q (item ∷ items) = grind (arith, item_tells q items)

  -- a known holder after a delivery was known before, or the message names it, or it is the sender or receiver of an
  -- item's message, or the receiver of the delivery
  pub gained_holder : (q : ℕ) → log_knows_holder d q (log_after_delivery batch own log) ≡ true
      → (log_knows_holder d q log ≡ true) ⊎ ((item_holder d q batch ≡ true) ⊎ (((has_item d batch ≡ true) × ((q ≡ own.source.0) ⊎ (q ≡ own.dest.0))) ⊎ ((d ≡ own) × (q ≡ own.dest.0))))
  gained_holder q h = grind (arith, or_cases, gained_known q, item_tells q batch, and_parts, eqb-true, same_is, alone_has, false≢true)

  -- after a delivery the receiver is a known holder of what it brings
  pub gained_new : (same_det d own || has_item d batch) ≡ true → log_knows_holder d own.dest.0 (log_after_delivery batch own log) ≡ true
  gained_new h = grind (arith, gained_known own.dest.0, or_cases (same_det d own) (has_item d batch) h, alone_has own.dest.0 own.dest.0, item_tells own.dest.0 batch, eq-eqb)

  -- after a delivery each holder that the message names is known
  pub gained_told : (q : ℕ) → MessageImpliesHolder batch own d q → log_knows_holder d q (log_after_delivery batch own log) ≡ true
  gained_told q h = grind (arith, gained_known q, item_tells q batch, eq-eqb, alone_has own.dest.0 own.dest.0, same_itself d)

  -- a delivery changes no mark
  pub gained_mark : log_knows_stable d (log_after_delivery batch own log) ≡ log_knows_stable d log
  gained_mark = grind (arith, known_all (λ k. k.stable) stable_either ((own, held_by own.dest) ∷ []) absorbs d, absorbed_stable batch own.source own.dest log d)

-- a property of logs that a union has if either operand has it, and that the empty log lacks
module _ (tells : LogMap → Bool) (either : (log other : LogMap) → tells (after_union log other) ≡ (tells log || tells other)) (lacks : tells fin.empty ≡ false) where
  pub united_found : (ms : Memories) (log : LogMap) → tells (with_logs_of ms log) ≡ true → (tells log ≡ true) ⊎ ((r : ℕ) × (r < length ms) × (tells (log_at ms r) ≡ true))
  unfolding with_logs_of log_at
  united_found [] log h = inl h
  united_found (None ∷ ms) log h = elim (united_found ms log h) [ inl old ↦ inl old | inr some ↦ inr (suc some.0, omega (arith, some.1), some.2) ]
  united_found (Some m ∷ ms) log h =
      elim (united_found ms (after_union log m.log) h) [
        | inl old ↦ elim (or_cases (tells log) (tells m.log) (sym (either log m.log) ∙ old)) [ inl first ↦ inl first | inr here ↦ inr (zero, omega arith, here) ]
        | inr some ↦ inr (suc some.0, omega (arith, some.1), some.2)
      ]

  pub united_first : (ms : Memories) (log : LogMap) → tells log ≡ true → tells (with_logs_of ms log) ≡ true
  unfolding with_logs_of
  united_first [] log h = h
  united_first (m ∷ ms) log h = grind (arith, united_first ms, either)

  pub united_each : (ms : Memories) (log : LogMap) (r : ℕ) → tells (log_at ms r) ≡ true → tells (with_logs_of ms log) ≡ true
  unfolding with_logs_of log_at
  united_each [] log r h = absurd (both_ways _ lacks h)
  united_each (m ∷ ms) log zero h = grind (arith, both_ways, lacks, united_first ms, either)
  united_each (m ∷ ms) log (suc r) h = grind (arith, united_each ms)

-- a log in which p is a known holder of these
held_is : (ds : List Det) (p : Pid) (log : LogMap) → with_held ds p log ≡ after_learn_all (map (λ d. (d, held_by p)) ds) log
unfolding with_held
held_is [] p log = refl
held_is (d ∷ ds) p log = held_is ds p (after_learn log d (held_by p))

stable_is : (ds : List Det) (p : Pid) (log : LogMap) → with_stored ds p log ≡ after_learn_all (map (λ d. (d, stable_and_held_by p)) ds) log
unfolding with_stored
stable_is [] p log = refl
stable_is (d ∷ ds) p log = stable_is ds p (after_learn log d (stable_and_held_by p))

-- membership in the keys of a log and in the members of a store
pub keys_have : (m : LogMap) (d : Det) → list_has (fin.keys m) d ≡ has_entry d m
keys_have m d = any_map (λ e. e.0) (same_det d) (λ e. same_det d e.0) (λ x. refl) (fin.entries m) ∙ any_dets d m

-- a set and the list of its members have the same determinants
pub stored_have : (s : DetSet) (d : Det) → list_has (dets_in s) d ≡ store.set_has s d
stored_have s d = grind (arith, fin.contains_key-keys s d, det_ties)

-- after the same knowledge is learned of each determinant of a list
module _ (k : Known) (d : Det) where
  abbrev each : List Det → List (Det × Known)
  each ds = map (λ x. (x, k)) ds

  each_entry : (ds : List Det) (log : LogMap) → has_entry d (after_learn_all (each ds) log) ≡ (has_entry d log || list_has ds d)
  each_entry ds log = logged_all (each ds) log d ∙ ap (λ b. has_entry d log || b) (any_map (λ x. (x, k)) (λ e. same_det d e.0) (same_det d) (λ x. refl) ds)

  each_any : (tells : Known → Bool) (ds : List Det) → list_any (λ e. same_det d e.0 && tells e.1) (each ds) ≡ (list_has ds d && tells k)
  each_any tells [] = refl
  each_any tells (x ∷ ds) = grind (arith, each_any tells ds)

  each_known : (tells : Known → Bool) (either : (one other : Known) → tells (union_with one other) ≡ (tells one || tells other)) (ds : List Det) (log : LogMap)
      → tells (known_of (after_learn_all (each ds) log) d) ≡ (tells (known_of log d) || (list_has ds d && tells k))
  each_known tells either ds log = known_all tells either (each ds) log d ∙ ap (λ b. tells (known_of log d) || b) (each_any tells ds)

-- a restart's log, made of the logs of up processes and of stable storage
module _ (ms : Memories) (stored : DetSet) (p : Pid) (d : Det) where
  abbrev together : LogMap
  together = union_of_logs ms

  abbrev held : LogMap
  held = with_held (fin.keys together) p together

  abbrev gathered : LogMap
  gathered = restart_log ms stored p

  -- what the restart's log has: what is stored, and what the log of some process has
  pub gathered_entry : has_entry d gathered ≡ (has_entry d together || store.set_has stored d)
  gathered_entry =
      let held_entry = each_entry (held_by p) d (fin.keys together) together in
      let all_entry = each_entry (stable_and_held_by p) d (dets_in stored) held in
      grind (arith, held_is (fin.keys together) p together, stable_is (dets_in stored) p held, held_entry, all_entry, keys_have together d, stored_have stored d)

  gathered_tells : (tells : Known → Bool) (either : (one other : Known) → tells (union_with one other) ≡ (tells one || tells other))
      → tells (known_of gathered d) ≡ ((tells (known_of together d) || (has_entry d together && tells (held_by p))) || (store.set_has stored d && tells (stable_and_held_by p)))
  gathered_tells tells either =
      let held_known = each_known (held_by p) d tells either (fin.keys together) together in
      let all_known = each_known (stable_and_held_by p) d tells either (dets_in stored) held in
      grind (arith, held_is (fin.keys together) p together, stable_is (dets_in stored) p held, held_known, all_known, keys_have together d, stored_have stored d)

  pub together_entry : has_entry d together ≡ true → (r : ℕ) × (r < length ms) × (memory_logs ms r d ≡ true)
  together_entry h = grind (arith, united_found (has_entry d) (λ log other. united_logged log other d) (none_entry d) ms fin.empty h, none_entry d)

  pub together_each : (r : ℕ) → memory_logs ms r d ≡ true → has_entry d together ≡ true
  together_each r h = united_each (has_entry d) (λ log other. united_logged log other d) (none_entry d) ms fin.empty r h

  -- a known holder in the restart's log is p itself, or an up process knew it
  pub gathered_holder : (q : ℕ) → log_knows_holder d q gathered ≡ true → (q ≡ p.0) ⊎ ((r : ℕ) × (r < length ms) × (knows_holder ms r d q ≡ true))
  gathered_holder q h =
      let after_union = united_found (log_knows_holder d q) (λ log other. united_holders log other d q) (none_holds d q) ms fin.empty in
      grind (arith, gathered_tells (λ k. set.contains k.holders q) (holds_either q), after_union, none_holds d q, alone_has p.0 q, eqb-true)

  -- holders that an up process knew are known in the restart's log
  pub gathered_known : (r q : ℕ) → knows_holder ms r d q ≡ true → log_knows_holder d q gathered ≡ true
  gathered_known r q h =
      gathered_tells (λ k. set.contains k.holders q) (holds_either q)
      ∙ or_left _ _ (or_left _ _ (united_each (log_knows_holder d q) (λ log other. united_holders log other d q) (none_holds d q) ms fin.empty r h))

  -- what an up process knew to be stable is known so in the restart's log
  pub gathered_marks : (r : ℕ) → knows_stable ms r d ≡ true → log_knows_stable d gathered ≡ true
  gathered_marks r h =
      gathered_tells (λ k. k.stable) stable_either ∙ or_left _ _ (or_left _ _ (united_each (log_knows_stable d) (λ log other. united_stable log other d) (none_stable d) ms fin.empty r h))

  -- what is stored is known to be stable in the restart's log
  pub stored_marks : store.set_has stored d ≡ true → log_knows_stable d gathered ≡ true
  stored_marks h = gathered_tells (λ k. k.stable) stable_either ∙ or_right _ _ (and_from _ _ h refl)

  -- p is a known holder of all that the restart's log has
  pub gathered_itself : has_entry d gathered ≡ true → log_knows_holder d p.0 gathered ≡ true
  gathered_itself h = grind (arith, gathered_tells (λ k. set.contains k.holders p.0) (holds_either p.0), gathered_entry, alone_has p.0 p.0, eq-eqb p.0 p.0 refl)

  -- what the restart's log knows to be stable is stored, or an up process knew it
  pub gathered_mark : log_knows_stable d gathered ≡ true → (store.set_has stored d ≡ true) ⊎ ((r : ℕ) × (r < length ms) × (knows_stable ms r d ≡ true))
  gathered_mark h =
      let after_union = united_found (log_knows_stable d) (λ log other. united_stable log other d) (none_stable d) ms fin.empty in
      grind (arith, gathered_tells (λ k. k.stable) stable_either, after_union, none_stable d)

-- known holders and marks after a delivery and after a restart
pub ruleset told_holders_of = (gained_holder, gained_told, gained_known, gathered_holder, gathered_itself, gathered_known, keys_have, entry_of_holder)

pub ruleset told_marks_of = (gained_mark, gathered_mark, gathered_marks, stored_marks)
