-- A process that is down takes replies to its round.
use Rattle.std.proofs.Common.{ℕ, ◌≡◌, ◌<◌, ◌≤◌, inl, inr, Bool, true, false, List, refl, sym, ap, subst, ◌∙◌, arith}
use Rattle.std.specs.Prelude.{◌⊎◌, ◌==◌}
use Rattle.std.proofs.lemmas.Bool.{both_ways, or_cases, or_left, or_right, and_from, eq-eqb}
use Rattle.causal_name.specs.declared.Det.{Det}
use Rattle.causal_name.specs.Names.{same_det}
use Rattle.causal_trace.specs.Past.{is_stable}
use Rattle.causal_rounds.specs.Rounds.{Round}
use Rattle.causal_rounds.proofs.Lemmas.RoundSteps.{set_at_cases, still_true}
use Rattle.causal_world.specs.World.{Packet, World}
use Rattle.causal_nodes.specs.Node.{NodeLog, NodeRound}
use Rattle.causal_nodes.specs.Packets.{Sent, answer_packet, not_up_packet, stored_packet, WasSent}
use Rattle.causal_nodes.specs.NodeSteps.{after_answer, with_heard, round_with_stored}
use Rattle.causal_nodes.proofs.Kept.{reply_kept}
use Rattle.causal_nodes.proofs.Represents.{Told, IsPacket, ReplyFits, IsToldBy, GatheringFits}

first_to : {A B C : Type 0} → (A → B) → A ⊎ C → B ⊎ C
first_to f x = elim x [ inl a ↦ inl (f a) | inr c ↦ inr c ]

module _ (n : ℕ) (w : World) (sent : List Sent) (s : ℕ) (nr : NodeRound) (r : Round) (g : GatheringFits n w sent s nr r) where
  -- what was told is told still, if what is taken now follows
  told_more : (heard : ℕ → Bool) (log : NodeLog) → ((d : Det) (x : ℕ) → x < n → IsToldBy w sent s nr r d x → heard x ≡ true → (log.has d ≡ true) ⊎ (is_stable w.past d ≡ true))
      → (d : Det) → w.gathered s d ≡ true → Told n w sent s (record nr { heard = heard; gathered = log }) r d
  told_more heard log taken d has = elim (g.told d has) [
    | inl b ↦ let old = b.2 in inl (b.0, b.1, record { answered = old.answered; packet = old.packet; answers = old.answers; taken = taken d b.0 b.1 old })
    | inr stored ↦ inr stored
  ]

  module _ (more : NodeRound) (heard : (q : ℕ) → nr.heard q ≡ true → more.heard q ≡ true) (has : (d : Det) → nr.gathered.has d ≡ true → more.gathered.has d ≡ true) where
    reply_more : (k : Sent) → ReplyFits n w s nr r k → ReplyFits n w s more r k
    reply_more = reply_kept n w w s nr more r r.replied r.answered (λ z h. h) (λ z h. h) (λ z h silent. silent) heard has (λ h d now. now)

  -- an answer
  module _ (p : Packet) (was : WasSent sent (answer_packet nr.name p)) (to : p.to ≡ s) (packet : IsPacket n w p) (stable : (d : Det) → p.parcel.names_stable d ≡ true → is_stable w.past d ≡ true)
      (named : (d : Det) (q : ℕ) → p.parcel.names_holder d q ≡ true → p.parcel.carries d ≡ true) where
    abbrev y : ℕ
    y = p.parcel.from

    abbrev answered_round : NodeRound
    answered_round = after_answer y p.parcel nr

    reply : (r.replied y ≡ true) × (r.answered y ≡ true) × (r.view y ≤ p.lane)
    reply = g.replies (answer_packet nr.name p) was (and_from (p.to == s) (nr.name == nr.name) (eq-eqb p.to s to) (eq-eqb nr.name nr.name refl))

    more_has : (d : Det) → nr.gathered.has d ≡ true → answered_round.gathered.has d ≡ true
    more_has d h = or_left (nr.gathered.has d) (p.parcel.carries d) h

    pub answer_taken : GatheringFits n w sent s answered_round r
    answer_taken = record {
      view = g.view;
      heard = λ q low h. elim (set_at_cases nr.heard y true q) [ inl is ↦ subst (λ x. r.replied x ≡ true) (sym is.0) reply.0 | inr other ↦ g.heard q low (sym other.1 ∙ h) ];
      gathered = λ d has. elim (or_cases (nr.gathered.has d) (p.parcel.carries d) has) [ inl old ↦ g.gathered d old | inr carried ↦ inl (packet.0, p, packet.1, to, carried, reply.0, reply.2) ];
      holders = λ d q has. elim (or_cases (nr.gathered.holder d q) (p.parcel.names_holder d q) has) [
        | inl old ↦ let h = g.holders d q old in (more_has d h.0, h.1)
        | inr name ↦ (or_right (nr.gathered.has d) (p.parcel.carries d) (named d q name), (packet.0, p, packet.1, to, reply.0, reply.2, name))
      ];
      stable = λ d has. elim (or_cases (nr.gathered.stable d) (p.parcel.names_stable d) has) [ inl old ↦ g.stable d old | inr name ↦ stable d name ];
      storage = λ heard. elim (set_at_cases nr.heard y true n) [
        | inl is ↦ absurd (let low = packet.2 in let e = is.0 in omega (arith, low, e))
        | inr other ↦ let old = g.storage (sym other.1 ∙ heard) in (old.0, λ d has. more_has d (old.1 d has))
      ];
      told = told_more answered_round.heard answered_round.gathered (λ d x low b heard. elim (set_at_cases nr.heard y true x) [
        | inl is ↦ first_to (λ h. or_right (nr.gathered.has d) (p.parcel.carries d) h) (b.answers p was to (sym is.0))
        | inr other ↦ first_to (λ h. more_has d h) (b.taken (sym other.1 ∙ heard))
      ]);
      replies = λ k sent_k of. reply_more answered_round (still_true nr.heard y) more_has k (g.replies k sent_k of);
    }

  -- a reply of a process that is down
  module _ (q : ℕ) (low_q : q < n) (was : WasSent sent (not_up_packet q s nr.name)) where
    abbrev heard_round : NodeRound
    heard_round = with_heard q nr

    silence : (r.replied q ≡ true) × (r.answered q ≡ false)
    silence = g.replies (not_up_packet q s nr.name) was (and_from (s == s) (nr.name == nr.name) (eq-eqb s s refl) (eq-eqb nr.name nr.name refl))

    pub not_up_taken : GatheringFits n w sent s heard_round r
    not_up_taken = record {
      view = g.view;
      heard = λ x low h. elim (set_at_cases nr.heard q true x) [ inl is ↦ subst (λ z. r.replied z ≡ true) (sym is.0) silence.0 | inr other ↦ g.heard x low (sym other.1 ∙ h) ];
      gathered = g.gathered;
      holders = g.holders;
      stable = g.stable;
      storage = λ heard. elim (set_at_cases nr.heard q true n) [ inl is ↦ absurd (let e = is.0 in omega (arith, low_q, e)) | inr other ↦ g.storage (sym other.1 ∙ heard) ];
      told = told_more heard_round.heard nr.gathered (λ d x low b heard. elim (set_at_cases nr.heard q true x) [
        | inl is ↦ absurd (both_ways (r.answered q) silence.1 (ap r.answered (sym is.0) ∙ b.answered))
        | inr other ↦ b.taken (sym other.1 ∙ heard)
      ]);
      replies = λ k sent_k of. reply_more heard_round (still_true nr.heard q) (λ d h. h) k (g.replies k sent_k of);
    }

  -- a determinant that stable storage has, and whose entry is recorded
  module _ (det : Det) (stable : (d : Det) → same_det d det ≡ true → is_stable w.past d ≡ true) where
    abbrev fuller_round : NodeRound
    fuller_round = round_with_stored det nr

    fuller_has : (d : Det) → nr.gathered.has d ≡ true → fuller_round.gathered.has d ≡ true
    fuller_has d h = or_left (nr.gathered.has d) (same_det d det) h

    pub det_taken : GatheringFits n w sent s fuller_round r
    det_taken = record {
      view = g.view;
      heard = g.heard;
      gathered = λ d has. elim (or_cases (nr.gathered.has d) (same_det d det) has) [ inl old ↦ g.gathered d old | inr same ↦ inr (stable d same) ];
      holders = λ d q has. let h = g.holders d q has in (fuller_has d h.0, h.1);
      stable = λ d has. elim (or_cases (nr.gathered.stable d) (same_det d det) has) [ inl old ↦ g.stable d old | inr same ↦ stable d same ];
      storage = λ heard. let old = g.storage heard in (old.0, λ d has. fuller_has d (old.1 d has));
      told = told_more nr.heard fuller_round.gathered (λ d x low b heard. first_to (λ h. fuller_has d h) (b.taken heard));
      replies = λ k sent_k of. reply_more fuller_round (λ q h. h) fuller_has k (g.replies k sent_k of);
    }

  -- the reply of stable storage, once all of it was taken
  module _ (dets : Det → Bool) (was : WasSent sent (stored_packet s nr.name dets)) (all : (d : Det) → dets d ≡ true → nr.gathered.has d ≡ true) where
    abbrev read_round : NodeRound
    read_round = with_heard n nr

    storage_reply : (r.replied n ≡ true) × ((d : Det) → w.gathered s d ≡ true → (nr.gathered.has d ≡ true) ⊎ (dets d ≡ true))
    storage_reply = g.replies (stored_packet s nr.name dets) was (and_from (s == s) (nr.name == nr.name) (eq-eqb s s refl) (eq-eqb nr.name nr.name refl))

    pub stored_taken : GatheringFits n w sent s read_round r
    stored_taken = record {
      view = g.view;
      heard = λ x low h. elim (set_at_cases nr.heard n true x) [ inl is ↦ absurd (let e = is.0 in omega (arith, low, e)) | inr other ↦ g.heard x low (sym other.1 ∙ h) ];
      gathered = g.gathered;
      holders = g.holders;
      stable = g.stable;
      storage = λ heard. (storage_reply.0, λ d has. elim (storage_reply.1 d has) [ inl old ↦ old | inr told ↦ all d told ]);
      told = told_more read_round.heard nr.gathered (λ d x low b heard. elim (set_at_cases nr.heard n true x) [ inl is ↦ absurd (let e = is.0 in omega (arith, low, e)) | inr other ↦ b.taken (sym other.1 ∙ heard) ]);
      replies = λ k sent_k of. reply_more read_round (still_true nr.heard n) (λ d h. h) k (g.replies k sent_k of);
    }
