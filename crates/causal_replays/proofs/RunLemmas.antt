-- What the copies and the slots say of a run.
use Rattle.std.proofs.Common.{ℕ, ◌≡◌, ◌+◌, ◌<◌, ◌≤◌, inl, inr, Bool, true, false, List, ◌∷◌, length, Option, Some, None, refl, sym, ap, subst, ◌∙◌, arith}
use Rattle.std.specs.Prelude.{◌||◌, All}
use Rattle.std.proofs.lemmas.List.Elements.{All-weaker}
use Rattle.std.specs.Global.{Vec}
use Rattle.std.specs.Option.{is_some}
use Rattle.std.proofs.lemmas.Bool.{false≢true, or_cases}
use Rattle.causal_name.specs.declared.Det.{Det}
use Rattle.causal_name.specs.declared.Slot.{Slot}
use Rattle.causal_name.specs.Names.{slot_of}
use Rattle.causal_name.specs.Sets.{any_below}
use Rattle.causal_holders.proofs.Lemmas.MemberCounts.{any_below-found}
use Rattle.causal_trace.specs.declared.entry.Entry.{Entry}
use Rattle.causal_trace.specs.Past.{instant, logs, is_stable, is_delivered, det_at, deliveries_in, list_has, mentioned_dets}
use Rattle.causal_trace.specs.Rows.{Recording, AreLegalEntries, IsWellFormed, first_fault}
use Rattle.causal_trace.specs.Survivors.{survives, SlotsAreSingle}
use Rattle.causal_trace.proofs.Lemmas.AtInstants.{accepted_then, instant_length, det_then, det_within, delivered_in, no_entry}
use Rattle.causal_trace.proofs.Lemmas.DeliveryNumbers.{delivered_numbered, listed_once}
use Rattle.causal_replays.specs.Strays.{FillsSlot, FirstTwo}
use Rattle.causal_replays.specs.declared.copies.CopyTable.{CopyTable}
use Rattle.causal_replays.specs.Inside.Copies.{number_in, is_stored, IsCopyTable, HasNumber, copied_by}
use Rattle.causal_replays.specs.Inside.Holdings.{holds}
use Rattle.causal_replays.specs.Inside.Rivals.{IsCopied, IsSlotBelow, HasRivals, AreNoted, IsCopiedAt, AreFirstTwo, HaveTwo}
use Rattle.causal_replays.specs.Inside.Slots.{slot_number}
use Rattle.causal_replays.proofs.NumberLemmas.{one_det}
use Rattle.causal_replays.proofs.SurvivorLemmas.{named_delivered, survivor_delivered, logged_survives, stable_survives, survives_step, copied_survives_entry, none_survive}
use Rattle.causal_trace.proofs.Lemmas.RunProcesses.{logs_inside}
use Rattle.causal_trace.proofs.Lemmas.DeliveredDets.{found_det, at_delivered}

-- ---- positions and numbers of survivors

some_value : (o : Option ℕ) → is_some o ≡ true → (i : ℕ) × (o ≡ Some i)
some_value None h = absurd (false≢true h)
some_value (Some i) h = (i, refl)

-- each delivered determinant has a number
pub delivered_number : (whole : List Entry) (d : Det) (k : ℕ) → det_at whole k ≡ Some d → (i : ℕ) × (number_in whole d ≡ Some i)
delivered_number whole d k at = some_value (number_in whole d) (sym (delivered_numbered (deliveries_in whole) whole d (listed_once whole)) ∙ at_delivered whole d k at)

module _ (r : Recording) (formed : IsWellFormed r) (t : ℕ) (within : t ≤ length r.past) (c : CopyTable) (are : IsCopyTable r.past (instant r.past t) c) where
  legal : AreLegalEntries r.processes (instant r.past t)
  legal = accepted_then r.processes r.past t formed.accepted

  -- a survivor's delivery
  survivor_at : (d : Det) → survives r.processes (instant r.past t) d ≡ true → (k : ℕ) × (k < t) × (det_at r.past k ≡ Some d)
  survivor_at d h =
      let found = found_det (instant r.past t) d (survivor_delivered r.processes (instant r.past t) d legal h) in
      let low : found.0 < t = omega (arith, det_within (instant r.past t) found.0 d found.1, instant_length r.past t within) in
      (found.0, low, delivered_in r.past t found.0 d within found.1)

  -- exactly the survivors have copies
  pub survivor_copied : (d : Det) → survives r.processes (instant r.past t) d ≡ true → IsCopied r.past c d
  survivor_copied d h =
      let at = survivor_at d h in
      let number = delivered_number r.past d at.0 at.2 in (
        number.0,
        number.1,
        elim (or_cases (is_stable (instant r.past t) d) (any_below r.processes (λ p. logs (instant r.past t) p d)) h) [
          | inl stable ↦ inl (are.stored d number.0 number.1 ∙ stable)
          | inr logged ↦ let found = any_below-found r.processes (λ p. logs (instant r.past t) p d) logged in inr (found.0, are.held d number.0 found.0 number.1 ∙ found.2)
        ],
      )

  pub copied_survives : (d : Det) → IsCopied r.past c d → survives r.processes (instant r.past t) d ≡ true
  copied_survives d copied = elim copied.2 [
    | inl stable ↦ stable_survives r.processes (instant r.past t) d (sym (are.stored d copied.0 copied.1) ∙ stable)
    | inr held ↦
        let logged : logs (instant r.past t) held.0 d ≡ true = sym (are.held d copied.0 held.0 copied.1) ∙ held.1 in
        logged_survives r.processes (instant r.past t) held.0 d (logs_inside r.processes (instant r.past t) held.0 d legal logged) logged
  ]

  -- two survivors in one slot, below the least one with rivals, are the same
  pub one_survivor : (slots : List (Vec (Option ℕ))) (test : Det → Bool) → ((d : Det) → survives r.processes (instant r.past t) d ≡ true → test d ≡ true) → (least : Option Slot) → AreNoted r.past c slots least test
      → (a b : Det) → survives r.processes (instant r.past t) a ≡ true → survives r.processes (instant r.past t) b ≡ true → slot_of a ≡ slot_of b → IsSlotBelow least (slot_of a) → a ≡ b
  one_survivor slots test tested least noted a b ha hb same below =
      let one = survivor_copied a ha in
      let other = survivor_copied b hb in
      let in_a = noted.in_slots a (tested a ha) one below one.0 one.1 in
      let in_b = noted.in_slots b (tested b hb) other (subst (IsSlotBelow least) same below) other.0 other.1 in
      one_det r.past a b other.0 (one.1 ∙ sym in_a ∙ ap (λ (x : Slot). slot_number slots x.dest.0 x.rsn) same ∙ in_b) other.1

  -- rivals have deliveries before the instant
  pub two_now : (s : Slot) → HasRivals r.past c s → HaveTwo r.past c s t
  two_now s (a, b, are_rivals) =
      let at_a = survivor_at a (copied_survives a are_rivals.one) in
      let at_b = survivor_at b (copied_survives b are_rivals.other) in
      record {
        one = a;
        two = b;
        at = at_a.0;
        also_at = at_b.0;
        early = at_a.1;
        also_early = at_b.1;
        first = record { delivered = at_a.2; copied = are_rivals.one; fills = are_rivals.one_fills };
        second = record { delivered = at_b.2; copied = are_rivals.other; fills = are_rivals.other_fills };
        differ = are_rivals.differ;
      }

  fills_of : (s : Slot) (k : ℕ) (d : Det) → k < t → IsCopiedAt r.past c s k d → FillsSlot r.processes (instant r.past t) s k d
  fills_of s k d low at = record { delivered = det_then r.past t k low within ∙ at.delivered; alive = copied_survives d at.copied; fills = at.fills }

  copied_of : (s : Slot) (k : ℕ) (d : Det) → FillsSlot r.processes (instant r.past t) s k d → IsCopiedAt r.past c s k d
  copied_of s k d fill = record { delivered = delivered_in r.past t k d within fill.delivered; copied = survivor_copied d fill.alive; fills = fill.fills }

  -- the first two deliveries with copies are those of survivors
  pub pair_now : (s : Slot) (k l : ℕ) → AreFirstTwo r.past c s t k l → FirstTwo r.processes (instant r.past t) s k l
  pair_now s k l two = record {
    one = two.one;
    other = two.two;
    first = first;
    second = second;
    differ = λ same. two.second.other (ap (λ x. Some x) same);
    order = grind (arith, none_before l two.two second, first.delivered, second.delivered, two.second.other);
    none_before = none_before;
    none_between = λ j d fill low. cc (two.second.first j d low (copied_of s j d fill));
  }
    where
      first : FillsSlot r.processes (instant r.past t) s k two.one
      first = fills_of s k two.one two.first.within two.first.here

      second : FillsSlot r.processes (instant r.past t) s l two.two
      second = fills_of s l two.two two.second.within two.second.here

      none_before : (j : ℕ) (d : Det) → FillsSlot r.processes (instant r.past t) s j d → k ≤ j
      none_before j d fill = grind (arith, two.first.first j d, copied_of s j d fill)

-- ---- the next entry

module _ (r : Recording) (formed : IsWellFormed r) (t : ℕ) (e : Entry) (inside : t + 1 ≤ length r.past) (next : instant r.past (t + 1) ≡ e ∷ instant r.past t) where
  legal_entry : first_fault r.processes (instant r.past t) e ≡ None
  legal_entry = (subst (AreLegalEntries r.processes) next (accepted_then r.processes r.past (t + 1) formed.accepted)).1

  -- what survives after the entry survived before, or the entry makes a copy of it
  pub tested : (dets : List Det) → dets ≡ copied_by e → (d : Det) → survives r.processes (instant r.past (t + 1)) d ≡ true → (survives r.processes (instant r.past t) d || list_has dets d) ≡ true
  tested dets are d h = rw are (survives_step r.processes (instant r.past t) d e (rw next at h))

  -- what the entry names has a number
  pub named_numbered : All (HasNumber r.past) (mentioned_dets e)
  named_numbered = All-weaker (λ d. is_delivered (e ∷ instant r.past t) d ≡ true) (HasNumber r.past) numbered (mentioned_dets e) (named_delivered r.processes (instant r.past t) e legal_entry)
    where
      numbered : (d : Det) → is_delivered (e ∷ instant r.past t) d ≡ true → HasNumber r.past d
      numbered d h =
          let at = found_det (instant r.past (t + 1)) d (rw next h) in
          ap is_some (delivered_number r.past d at.0 (delivered_in r.past (t + 1) at.0 d inside at.1)).1

  module _ (c now : CopyTable) (copied : IsCopyTable r.past (instant r.past t) c) (copied_now : IsCopyTable r.past (instant r.past (t + 1)) now) where
    -- what the entry makes a copy of has one
    pub listed_copied : (dets : List Det) → dets ≡ copied_by e → (d : Det) → list_has dets d ≡ true → IsCopied r.past now d
    listed_copied dets are d h =
        survivor_copied r formed (t + 1) inside now copied_now d (rw next (copied_survives_entry r.processes (instant r.past t) d e legal_entry (rw are at h)))

    -- the earlier survivors stay in their slots
    pub noted_kept : (slots : List (Vec (Option ℕ))) → AreNoted r.past c slots None (survives r.processes (instant r.past t)) → AreNoted r.past now slots None (survives r.processes (instant r.past t))
    noted_kept slots noted = record {
      of_slots = noted.of_slots;
      in_slots = λ d h has below. noted.in_slots d h (survivor_copied r formed t (omega (arith, inside)) c copied d h) tt;
      rivals = tt;
    }

-- ---- the first instant

module _ (r : Recording) where
  none_yet : (d : Det) → survives r.processes (instant r.past 0) d ≡ true → ⊥
  none_yet d h = none_survive r.processes d (subst (λ p. survives r.processes p d ≡ true) (no_entry r.past) h)

  pub copied_first : (c : CopyTable) → ((i p : ℕ) → holds c.holders.items i p ≡ false) → ((i : ℕ) → is_stored c.stable.items i ≡ false) → IsCopyTable r.past (instant r.past 0) c
  copied_first c unheld unstored = rw (no_entry r.past) (record { held = λ d i p at. unheld i p; stored = λ d i at. unstored i })

  pub noted_first : (c : CopyTable) (slots : List (Vec (Option ℕ))) → ((p s : ℕ) → slot_number slots p s ≡ None) → AreNoted r.past c slots None (survives r.processes (instant r.past 0))
  noted_first c slots none = record {
    of_slots = λ p s j h. absurd (let x : None ≡ Some j = sym (none p s) ∙ h in cc);
    in_slots = λ d h has below. absurd (none_yet d h);
    rivals = tt;
  }

  pub single_first : (u : ℕ) → u ≤ 0 → SlotsAreSingle r.processes (instant r.past u)
  single_first u h a b ha hb dest rsn = absurd (none_yet a (subst (λ x. survives r.processes (instant r.past x) a ≡ true) (let z : u ≡ 0 = omega (arith, h) in z) ha))
