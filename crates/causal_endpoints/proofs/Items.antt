-- What is read from a parcel that a process writes: its items, and its log.
use Rattle.std.proofs.Common.{ℕ, suc, ◌≡◌, ◌∙◌, ◌==◌, true, false, not, ◌&&◌, ◌||◌, List, [], ◌∷◌, map, Option, Some, None, is_some, unwrap_or, refl, sym, ap, arith}
use Rattle.std.specs.Prelude.{slice_get}
use Rattle.std.specs.List.{AllByRecursion}
use Rattle.std.specs.Cmp.{nat_cmp_total}
use Rattle.std.specs.Ordering.{nat_cmp}
use Rattle.std.specs.FinMap as fin
use Rattle.std.specs.FinSet as set
use Rattle.std.specs.FinSet.{nat_cmp-IsAntisymmetric}
use Rattle.std.proofs.lemmas.Bool.{and_parts, eq-eqb}
use Rattle.std.proofs.lemmas.Bool.Decides.{eqb_tells}
use Rattle.causal_name.specs.declared.Pid.{Pid}
use Rattle.causal_name.specs.declared.Det.{Det}
use Rattle.causal_name.specs.Names.{same_det}
use Rattle.causal_name.proofs.Lemmas.DetOrder.{nat_ties}
use Rattle.causal_log.specs.declared.batch.Item.{Item}
use Rattle.causal_log.specs.declared.known.Known.{Known}
use Rattle.causal_log.specs.Knowledge.{unknown}
use Rattle.causal_log.specs.Logs.{LogMap, known_of, item_of, after_learn_all}
use Rattle.causal_log.proofs.Lemmas.KnowledgeGrows.{united_logged, united_holders, united_stable}
use Rattle.causal_log.proofs.Lemmas.LogLists.{place_shown}
use Rattle.causal_protocol.specs.MemoryQueries.{has_entry, log_knows_holder, log_knows_stable, has_item, item_holder}
use Rattle.causal_calls.specs.Parcels.{message_with, items_of_logged, log_packet}
use Rattle.causal_endpoint.specs.Items.{wire_item, log_item, wire_entry, log_entry, log_from}
use Rattle.causal_endpoint.specs.Acknowledging.{acknowledged_item, acknowledged_items}
use Rattle.causal_protocol.proofs.Lemmas.LogMembers.{none_entry, none_holds, none_stable}

-- the process is not among the others
pub not_itself : (s : set.FinSet nat_cmp) (p : ℕ) → set.contains (set.remove s p) p ≡ false
not_itself s p = set.contains-remove nat_cmp_total s p p ∙ ap (λ b. not b && set.contains s p) (sym (nat_ties p p) ∙ eq-eqb p p refl)

pub only_others : (s : set.FinSet nat_cmp) (p q : ℕ) → set.contains (set.remove s p) q ≡ true → set.contains s q ≡ true
only_others s p q h = (and_parts _ _ (sym (set.contains-remove nat_cmp_total s p q) ∙ h)).1

-- a set without a process, with that process again
back : (s : set.FinSet nat_cmp) (p q : ℕ) → set.contains (set.insert (set.remove s p) p) q ≡ ((q == p) || set.contains s q)
back s p q = grind (arith, set.contains-insert nat_cmp_total (set.remove s p) p q, set.contains-remove nat_cmp_total s p q, nat_ties q p)

-- the same set, if it had the process
pub same_again : (s : set.FinSet nat_cmp) (p : ℕ) → set.contains s p ≡ true → set.insert (set.remove s p) p ≡ s
same_again s p has = set.same_set nat_cmp_total nat_cmp-IsAntisymmetric _ s (λ q. grind (arith, back s p q, eqb_tells q p))

-- items that are written and read
abbrev pub read_again : Pid → List Item → List Item
read_again source items = map (log_item source) (map (wire_item source) items)

module _ (source : Pid) where
  pub again_has : (d : Det) (items : List Item) → has_item d (read_again source items) ≡ has_item d items
  again_has d [] = refl
  again_has d (x ∷ xs) = ap (λ b. same_det d x.det || b) (again_has d xs)

  -- the source holds all that it writes
  again_holds : (d : Det) (q : ℕ) (items : List Item) → (item_holder d q (read_again source items) || (has_item d (read_again source items) && q == source.0)) ≡ (item_holder d q items || (has_item d items && q == source.0))
  again_holds d q [] = refl
  again_holds d q (x ∷ xs) = grind (arith, back x.holders source.0 q, again_has d xs, again_holds d q xs)

  -- so a message that is read is the one that was written
  pub message_again : (lane : ℕ) (to : Pid) (at ssn : ℕ) (items : List Item) → message_with lane to at (record { source = source; ssn = ssn }) (read_again source items) ≡ message_with lane to at (record { source = source; ssn = ssn }) items
  message_again lane to at ssn items = λ i. record {
    parcel = record {
      from = source.0;
      send = Some at;
      carries = λ d. again_has d items i;
      names_holder = λ d q. again_holds d q items i;
      names_stable = λ d. false;
    };
    lane = lane;
    to = to.0;
  }

-- an acknowledgement that is read
module _ (me : Pid) (log : LogMap) (own : (d : Det) → has_entry d log ≡ true → log_knows_holder d me.0 log ≡ true) where
  item_again : (d : Det) → has_entry d log ≡ true → log_item me (acknowledged_item me log d) ≡ item_of (d, known_of log d)
  item_again d has = λ i. record { det = d; holders = same_again (known_of log d).holders me.0 (own d has) i }

  pub acknowledged_again : (dets : List Det) → map (log_item me) (acknowledged_items me log dets) ≡ items_of_logged log dets
  acknowledged_again [] = refl
  acknowledged_again (d ∷ ds) = grind (arith, acknowledged_again ds, item_again d)

  -- the entries of a log, written and read
  entries_again : (es : List (Det × Known)) → AllByRecursion (λ (e : Det × Known). set.contains e.1.holders me.0 ≡ true) es → map (log_entry me) (map (wire_entry me) es) ≡ es
  entries_again [] each = refl
  entries_again (e ∷ es) each = λ i. (e.0, record { holders = same_again e.1.holders me.0 each.0 i; stable = e.1.stable }) ∷ entries_again es each.1 i

  each_own : (es : List (Det × Known)) → ((i : ℕ) (e : Det × Known) → slice_get es i ≡ Some e → fin.get log e.0 ≡ Some e.1) → AllByRecursion (λ (e : Det × Known). set.contains e.1.holders me.0 ≡ true) es
  each_own [] there = tt
  each_own (e ∷ es) there =
      (ap (λ (o : Option Known). set.contains (unwrap_or o unknown).holders me.0) (sym (there 0 e refl)) ∙ own e.0 (ap is_some (there 0 e refl)), each_own es (λ i x at. there (suc i) x at))

  abbrev again : LogMap
  again = log_from me (map (wire_entry me) (fin.entries log))

  same_entries : again ≡ after_learn_all (fin.entries log) fin.empty
  same_entries = ap (λ es. after_learn_all es fin.empty) (entries_again (fin.entries log) (each_own (fin.entries log) (λ i e at. place_shown log i e.0 e.1 at)))

  -- so a log that is read is the one that was written
  pub log_again : (lane to : ℕ) → log_packet me.0 lane to again ≡ log_packet me.0 lane to log
  log_again lane to = λ i. record {
    parcel = record {
      from = me.0;
      send = None;
      carries = λ d. (ap (has_entry d) same_entries ∙ united_logged fin.empty log d ∙ ap (λ b. b || has_entry d log) (none_entry d)) i;
      names_holder = λ d q. (ap (log_knows_holder d q) same_entries ∙ united_holders fin.empty log d q ∙ ap (λ b. b || log_knows_holder d q log) (none_holds d q)) i;
      names_stable = λ d. (ap (log_knows_stable d) same_entries ∙ united_stable fin.empty log d ∙ ap (λ b. b || log_knows_stable d log) (none_stable d)) i;
    };
    lane = lane;
    to = to;
  }
