-- One more determinant that is noted in its slot.
use Rattle.std.proofs.Common.{ℕ, ◌≡◌, inl, inr, Bool, true, cond, List, Option, Some, subst, arith}
use Rattle.std.specs.Prelude.{◌==◌, ◌&&◌, ◌||◌}
use Rattle.std.specs.Global.{Vec}
use Rattle.std.proofs.lemmas.Bool.{or_cases, cases_Bool}
use Rattle.std.proofs.lemmas.Bool.Decides.{eqb_tells}
use Rattle.causal_name.specs.declared.Det.{Det}
use Rattle.causal_name.specs.declared.Slot.{Slot}
use Rattle.causal_name.specs.Names.{slot_of, same_det}
use Rattle.causal_trace.specs.declared.entry.Entry.{Entry}
use Rattle.causal_replays.specs.declared.copies.CopyTable.{CopyTable}
use Rattle.causal_replays.specs.Inside.Copies.{number_in, HasCopy}
use Rattle.causal_replays.specs.Inside.Slots.{slot_number}
use Rattle.causal_replays.specs.Inside.Rivals.{IsCopied, IsInSlot, AreOfSlots, IsSlotBelow, AreNoted}
use Rattle.causal_name.proofs.Lemmas.DetOrder.{same_is}

-- fewer determinants are noted too
pub noted_fewer : (whole : List Entry) (c : CopyTable) (slots : List (Vec (Option ℕ))) (least : Option Slot) (more fewer : Det → Bool) → ((d : Det) → fewer d ≡ true → more d ≡ true) → AreNoted whole c slots least more → AreNoted whole c slots least fewer
noted_fewer whole c slots least more fewer within are = record {
  of_slots = are.of_slots;
  in_slots = λ d t copied below. are.in_slots d (within d t) copied below;
  rivals = are.rivals;
}

module _ (whole : List Entry) (c : CopyTable) (slots : List (Vec (Option ℕ))) (least : Option Slot) (test : Det → Bool) (det : Det) (number : ℕ) (own : number_in whole det ≡ Some number) where
  -- a determinant is written into its slot, where no other one has a copy
  pub noted_set : (new : List (Vec (Option ℕ))) → ((j : ℕ) → slot_number slots det.dest.0 det.rsn ≡ Some j → HasCopy c j → j ≡ number)
      → ((p r : ℕ) → slot_number new p r ≡ cond (det.dest.0 == p && r == det.rsn) (Some number) (slot_number slots p r))
      → AreNoted whole c slots least test → AreNoted whole c new least (λ d. test d || same_det d det)
  noted_set new alone wrote are = record { of_slots = of_slots; in_slots = in_slots; rivals = are.rivals }
    where
      of_slots : AreOfSlots whole new
      of_slots p r j h = elim (cases_Bool (det.dest.0 == p && r == det.rsn)) [
        | inl here ↦ (det, grind (arith, wrote p r), grind (arith, eqb_tells det.dest.0 p), grind (arith, eqb_tells r det.rsn))
        | inr away ↦ are.of_slots p r j (grind (arith, wrote p r))
      ]

      in_slots : (d : Det) → (test d || same_det d det) ≡ true → IsCopied whole c d → IsSlotBelow least (slot_of d) → IsInSlot whole new d
      in_slots d t copied below i at = elim (or_cases (test d) (same_det d det) t) [
        | inr same ↦ grind (arith, wrote d.dest.0 d.rsn, same_is d det same, eqb_tells det.dest.0 d.dest.0, eqb_tells d.rsn det.rsn)
        | inl old ↦
            let has : HasCopy c i = subst (HasCopy c) (let e : copied.0 ≡ i = cc (copied.1, at) in e) copied.2 in
            let other : slot_number slots det.dest.0 det.rsn ≡ Some i → i ≡ number = λ is. alone i is has in
            grind (arith, wrote d.dest.0 d.rsn, are.in_slots d old copied below i at, other, eqb_tells det.dest.0 d.dest.0, eqb_tells d.rsn det.rsn)
      ]
