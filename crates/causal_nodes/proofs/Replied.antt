-- The round of a process after one more process has replied to it.
use Rattle.std.proofs.Common.{ℕ, ◌≡◌, inl, inr, Bool, true, false, List, ◌∷◌, ap, subst, ◌∙◌}
use Rattle.std.specs.Prelude.{◌⊎◌}
use Rattle.causal_name.specs.declared.Det.{Det}
use Rattle.causal_rounds.specs.Rounds.{Round, with_reply}
use Rattle.causal_rounds.proofs.Lemmas.RoundSteps.{still_true}
use Rattle.causal_world.specs.World.{Packet, World}
use Rattle.causal_nodes.specs.Node.{NodeRound}
use Rattle.causal_nodes.specs.Packets.{Sent, answer_packet}
use Rattle.causal_nodes.proofs.Represents.{ReplyFits, IsToldBy, Told, GatheringFits}
use Rattle.causal_nodes.proofs.Kept.{reply_kept, IsLater, or_stable_later}

module _ (n : ℕ) (w x : World) (later : IsLater w x) (sent : List Sent) (new : Sent) (s : ℕ) (nr : NodeRound) (r : Round) (y : ℕ) (up : Bool) (g : GatheringFits n w sent s nr r)
    (keep_answered : (z : ℕ) → r.answered z ≡ true → (with_reply r y up).answered z ≡ true) (keep_silent : (z : ℕ) → r.replied z ≡ true → r.answered z ≡ false → (with_reply r y up).answered z ≡ false)
    (no_second : (p : Packet) → new ≡ answer_packet nr.name p → r.answered p.parcel.from ≡ true → ⊥)
    (new_gathered : (d : Det) → x.gathered s d ≡ true → (w.gathered s d ≡ true) ⊎ Told n x (new ∷ sent) s nr (with_reply r y up) d)
    (none_after_read : r.replied n ≡ true → (d : Det) → x.gathered s d ≡ true → w.gathered s d ≡ true) (new_fits : ReplyFits n x s nr (with_reply r y up) new) where
  abbrev after : Round
  after = with_reply r y up

  more : (z : ℕ) → r.replied z ≡ true → after.replied z ≡ true
  more z h = still_true r.replied y z h

  reply_after : (k : Sent) → ReplyFits n w s nr r k → ReplyFits n x s nr after k
  reply_after = reply_kept n w x s nr nr r after.replied after.answered more keep_answered keep_silent (λ q h. h) (λ d h. h) none_after_read

  told_by : (d : Det) (z : ℕ) → IsToldBy w sent s nr r d z → IsToldBy x (new ∷ sent) s nr after d z
  told_by d z b = record {
    answered = keep_answered z b.answered;
    packet = let p = b.packet in (p.0, p.1, later.packets p.0 p.1 p.2, p.3, p.4, p.5);
    answers = λ p was to from. elim was [ inl is ↦ absurd (no_second p is (ap r.answered from ∙ b.answered)) | inr old ↦ or_stable_later n w x later d (b.answers p old to from) ];
    taken = λ heard. or_stable_later n w x later d (b.taken heard);
  }

  still_told : (d : Det) → Told n w sent s nr r d → Told n x (new ∷ sent) s nr after d
  still_told d (inl b) = inl (b.0, b.1, told_by d b.0 b.2)
  still_told d (inr stored) = inr (more n stored.0, later.stored d stored.1)

  pub gathering_replied : GatheringFits n x (new ∷ sent) s nr after
  gathering_replied = record {
    view = g.view;
    heard = λ q low h. more q (g.heard q low h);
    gathered = λ d has. elim (g.gathered d has) [
      | inl from ↦ inl (from.0, from.1, later.packets from.0 from.1 from.2, from.3, from.4, more from.1.parcel.from from.5, from.6)
      | inr stable ↦ inr (later.stable d stable)
    ];
    holders = λ d q has. let h = g.holders d q has in let o = h.1 in (h.0, (o.0, o.1, later.packets o.0 o.1 o.2, o.3, more o.1.parcel.from o.4, o.5, o.6));
    stable = λ d has. later.stable d (g.stable d has);
    storage = λ heard. let o = g.storage heard in (more n o.0, λ d has. o.1 d (none_after_read o.0 d has));
    told = λ d has. elim (new_gathered d has) [ inl old ↦ still_told d (g.told d old) | inr now ↦ now ];
    replies = λ k was of. elim was [ inl is ↦ subst (λ z. ReplyFits n x s nr after z) is new_fits | inr old ↦ reply_after k (g.replies k old of) ];
  }
