-- Stable storage takes a write, or sends what it has.
use Rattle.std.proofs.Common.{ℕ, ◌≡◌, ◌<◌, ◌≤◌, inl, inr, Bool, true, false, cond, ◌||◌, nat_lt, ◌∷◌, Some, refl, sym, ap, subst, ◌∙◌, arith}
use Rattle.std.specs.Prelude.{◌⊎◌, ◌==◌, max}
use Rattle.std.proofs.Math.Nat.{le-max_left, le-max_right, max-le}
use Rattle.std.proofs.lemmas.Bool.{both_ways, or_cases, or_left, or_right, and_from, eq-eqb, cases_lt, cases_eq, cases_Bool, cond-true, cond-false, lt-ltb, le-ltb}
use Rattle.causal_name.specs.declared.Det.{Det}
use Rattle.causal_trace.specs.Past.{is_stable}
use Rattle.causal_rounds.specs.Rounds.{with_value_at, Round, number, with_reply}
use Rattle.causal_rounds.proofs.Lemmas.RoundSteps.{set_at_cases, set_at_here, set_at_away, still_true}
use Rattle.causal_world.specs.World.{Packet, World}
use Rattle.causal_world.specs.Steps as world
use Rattle.causal_world.specs.Reachable.{IsReachableWorld, next_world}
use Rattle.causal_nodes.specs.Node.{NodeRound, DownNode, down_node}
use Rattle.causal_nodes.specs.Packets.{Sent, write_packet, written_packet, read_packet, answer_packet, stored_packet, WasSent}
use Rattle.causal_nodes.specs.NodeSteps.{raised}
use Rattle.causal_nodes.specs.Network.{Network}
use Rattle.causal_nodes.proofs.Represents.{IsPacket, IsTold, Told, GatheringFits, NodeFits, IsOutOf, is_in_round, Represents}
use Rattle.causal_nodes.proofs.Kept.{IsLater, IsUntouched, packets_and_one, gathering_later, node_kept, node_and_one, node_out_and_one, out_of_rest, out_of_each, round_in}
use Rattle.causal_nodes.proofs.Context.{IsWorldOf, invariant}
use Rattle.causal_nodes.proofs.Quiet.{gathering_of, gathers_still, gathering_and_reply}
use Rattle.causal_nodes.proofs.Rounds.{le_self}
use Rattle.causal_nodes.proofs.Replied.{gathering_replied}

-- a view, below n alone
abbrev pub bounded : ℕ → (ℕ → ℕ) → ℕ → ℕ
bounded n view z = cond (nat_lt z n) (view z) 0

pub bounded_is : (n : ℕ) (view : ℕ → ℕ) (z : ℕ) → z < n → bounded n view z ≡ view z
bounded_is n view z low = cond-true (nat_lt z n) (view z) 0 (lt-ltb z n low)

pub bounded_told : (n : ℕ) (w : World) (view : ℕ → ℕ) → IsTold n w view → (z : ℕ) → bounded n view z ≤ number w.rounds z
bounded_told n w view told z = grind (arith, cases_lt z n, told z, bounded_is n view z, le-ltb z n, cond-false (nat_lt z n) (view z) 0)

module _ (n f : ℕ) (net : Network) (w : World) (reach : IsReachableWorld n f w) (rep : Represents n net w) where
  module _ (p : Packet) (was : WasSent net.sent (write_packet p)) (floor : net.floors p.parcel.from ≤ p.lane) where
    written : IsPacket n w p × (p.to ≡ n)
    written = rep.packets (write_packet p) was

    abbrev after : World
    after = record w { stored = λ d. w.stored d || p.parcel.carries d; landed = with_value_at w.landed written.0.0 true }

    later : IsLater w after
    later = record { numbers = λ q. omega arith; packets = λ i t at. at; stable = λ d h. h; stored = λ d h. or_left (w.stored d) (p.parcel.carries d) h; messages = λ send m h. h }

    pub stores : IsWorldOf n f (record { past = net.past; nodes = net.nodes; sent = written_packet p.parcel.carries ∷ net.sent; stored = λ d. net.stored d || p.parcel.carries d; floors = net.floors })
    stores = (
      after,
      next_world w after reach (world.land written.0.0 p written.0.1 written.1 (subst (λ m. m ≤ p.lane) (sym (rep.floors p.parcel.from written.0.2)) floor)),
      record {
        past = rep.past;
        nodes = λ q low_q. node_and_one n after net.sent (written_packet p.parcel.carries) q (λ round. refl) (net.nodes q)
            (node_kept n w after later q (assumption) net.sent (net.nodes q) (rep.nodes q low_q));
        packets = packets_and_one n w after later net.sent (written_packet p.parcel.carries) rep.packets (λ d h. or_right (w.stored d) (p.parcel.carries d) h);
        stored = λ d. ap (λ b. b || p.parcel.carries d) (rep.stored d);
        floors = rep.floors;
        free = rep.free;
      },
    )

  module _ (s name : ℕ) (view : ℕ → ℕ) (was : WasSent net.sent (read_packet s name view)) where
    question : (s < n) × IsTold n w view
    question = rep.packets (read_packet s name view) was

    abbrev new : Sent
    new = stored_packet s name net.stored

    abbrev after_read : Network
    after_read = record { past = net.past; nodes = net.nodes; sent = new ∷ net.sent; stored = net.stored; floors = raised net.floors view }

    not_of : (q : ℕ) → (q ≡ s → ⊥) → IsOutOf new q (net.nodes q)
    not_of = out_of_rest new s name net.nodes (λ q round h. h)

    -- storage refuses more, and no round counts it
    abbrev fence : ℕ → ℕ
    fence = raised (w.rounds.floors n) (bounded n view)

    abbrev fenced : World
    fenced = record w { rounds = record w.rounds { floors = with_value_at w.rounds.floors n fence } }

    later_fenced : IsLater w fenced
    later_fenced = record { numbers = λ q. le_self (number w.rounds q); packets = λ i t at. at; stable = λ d h. h; stored = λ d h. h; messages = λ send m h. h }

    kept : (q : ℕ) → q < n → NodeFits n fenced net.sent q (net.nodes q)
    kept q low_q = node_kept n w fenced later_fenced q (assumption (set_at_away w.rounds.floors n fence q (λ e. omega (arith, low_q, e)))) net.sent (net.nodes q) (rep.nodes q low_q)

    only_fences : ((q : ℕ) → q < n → NodeFits n fenced (new ∷ net.sent) q (net.nodes q)) → IsWorldOf n f after_read
    only_fences nodes = (
      fenced,
      next_world w fenced reach (world.refuse n fence (invariant n f net w reach rep).storage.up (λ z. le-max_left (w.rounds.floors n z) (bounded n view z)) (λ z. max-le ((invariant n f net w reach rep).rounds.floors_told n z) (bounded_told n w view question.1 z))),
      let floors : (z : ℕ) → z < n → fenced.rounds.floors n z ≡ raised net.floors view z = λ z low_z. (λ j. set_at_here w.rounds.floors n fence j z) ∙ (λ j. max (rep.floors z low_z j) (bounded_is n view z low_z j)) in
          assumption (packets_and_one n w fenced later_fenced net.sent new rep.packets (λ d h. rep.stored d ∙ h)),
    )

    unread : is_in_round name (net.nodes s) ≡ false → IsWorldOf n f after_read
    unread out = only_fences (λ q low_q. node_out_and_one n fenced net.sent new q (net.nodes q) (out_of_each new s name net.nodes (λ z round h. h) out q) (kept q low_q))

    -- s is in that round
    module _ (y : DownNode) (nr : NodeRound) (at_s : net.nodes s ≡ down_node y) (has_round : y.round ≡ Some nr) (same_name : name ≡ nr.name) where
      abbrev found : (r : Round) × (w.rounds.rounds s ≡ Some r) × GatheringFits n w net.sent s nr r
      found = gathering_of n f net w reach rep s question.0 y at_s nr has_round

      abbrev r : Round
      r = found.0

      its_read : ((z : ℕ) → z < n → view z ≡ r.view z) × ((q : ℕ) → q < n → (q ≡ s → ⊥) → nr.heard q ≡ true)
      its_read = found.2.replies (read_packet s name view) was (and_from (s == s) (name == nr.name) (eq-eqb s s refl) (eq-eqb name nr.name same_name))

      -- s has what its round has gathered, or storage has it
      covered : (d : Det) → w.gathered s d ≡ true → (nr.gathered.has d ≡ true) ⊎ (net.stored d ≡ true)
      covered d h = by (found.2.told d h)
        where
          stored_if_stable : is_stable w.past d ≡ true → net.stored d ≡ true
          stored_if_stable stable = sym (rep.stored d) ∙ (invariant n f net w reach rep).stores.stable_stored d stable

          by : Told n w net.sent s nr r d → (nr.gathered.has d ≡ true) ⊎ (net.stored d ≡ true)
          by (inl b) =
              let told = b.2 in
              let k = (invariant n f net w reach rep).rounds in
              let other : b.0 ≡ s → ⊥ = λ e. both_ways (r.replied s) (k.own_view s r found.1).0 (k.answers_are_replies s s r found.1 (ap r.answered (sym e) ∙ told.answered)) in
              elim (told.taken (its_read.1 b.0 b.1 other)) [ inl has ↦ inl has | inr stable ↦ inr (stored_if_stable stable) ]
          by (inr stored) = inr (sym (rep.stored d) ∙ stored.1)

      -- it has replied to it before
      read_again : r.replied n ≡ true → IsWorldOf n f after_read
      read_again replied = only_fences (λ q low_q. elim (cases_eq q s) [
        | inl here ↦ subst (λ z. NodeFits n fenced (new ∷ net.sent) z (net.nodes z)) (sym here) (gathers_still n f net w reach rep s question.0 y at_s nr has_round fenced (new ∷ net.sent) r later_fenced refl refl found.1
            (gathering_and_reply n fenced net.sent s nr r new (λ nm p e. absurd (let c : stored_packet s name net.stored ≡ answer_packet nm p = e in cc)) (replied, covered) (gathering_later n w fenced later_fenced s (λ d. refl) net.sent nr r found.2)))
        | inr other ↦ node_out_and_one n fenced net.sent new q (net.nodes q) (not_of q other) (kept q low_q)
      ])

      module _ (silent : r.replied n ≡ false) where
        abbrev raised_fence : ℕ → ℕ
        raised_fence = raised (w.rounds.floors n) r.view

        abbrev after_reply : World
        after_reply = record w {
          rounds = record w.rounds { floors = with_value_at w.rounds.floors n raised_fence; rounds = with_value_at w.rounds.rounds s (Some (with_reply r n true)) };
          gathered = with_value_at w.gathered s (λ d. w.gathered s d || w.stored d);
        }

        later_reply : IsLater w after_reply
        later_reply = record { numbers = λ q. le_self (number w.rounds q); packets = λ i t at. at; stable = λ d h. h; stored = λ d h. h; messages = λ send m h. h }

        in_either : (d : Det) → after_reply.gathered s d ≡ true → (w.gathered s d ≡ true) ⊎ (w.stored d ≡ true)
        in_either d h = or_cases (w.gathered s d) (w.stored d) (sym (ap (λ (g : Det → Bool). g d) (set_at_here w.gathered s (λ e. w.gathered s e || w.stored e))) ∙ h)

        never : {X : Type 0} → r.replied n ≡ true → X
        never h = absurd (both_ways (r.replied n) silent h)

        replied : GatheringFits n after_reply (new ∷ net.sent) s nr (with_reply r n true)
        replied = gathering_replied n w after_reply later_reply net.sent new s nr r n true found.2
            (λ z h. still_true r.answered n z h)
            (λ z h quiet. elim (set_at_cases r.answered n true z) [ inl here ↦ never (ap r.replied (sym here.0) ∙ h) | inr other ↦ other.1 ∙ quiet ])
            (λ p e h. absurd (let c : stored_packet s name net.stored ≡ answer_packet nr.name p = e in cc))
            (λ d h. elim (in_either d h) [ inl old ↦ inl old | inr stored ↦ inr (inr (set_at_here r.replied n true, stored)) ])
            (λ h d has. never h)
            (set_at_here r.replied n true, λ d h. elim (in_either d h) [ inl old ↦ covered d old | inr stored ↦ inr (sym (rep.stored d) ∙ stored) ])

        same : (q : ℕ) → q < n → (q ≡ s → ⊥) → IsUntouched w after_reply q
        same q low_q other = assumption (
          set_at_away w.rounds.floors n raised_fence q (λ e. omega (arith, low_q, e)),
          set_at_away w.rounds.rounds s (Some (with_reply r n true)) q other,
          set_at_away w.gathered s (λ e. w.gathered s e || w.stored e) q other,
        )

        nodes : (q : ℕ) → q < n → NodeFits n after_reply (new ∷ net.sent) q (net.nodes q)
        nodes q low_q = elim (cases_eq q s) [
          | inl here ↦ subst (λ z. NodeFits n after_reply (new ∷ net.sent) z (net.nodes z)) (sym here) (gathers_still n f net w reach rep s question.0 y at_s nr has_round after_reply (new ∷ net.sent) (with_reply r n true) later_reply refl refl (set_at_here w.rounds.rounds s (Some (with_reply r n true))) replied)
          | inr other ↦ node_out_and_one n after_reply net.sent new q (net.nodes q) (not_of q other) (node_kept n w after_reply later_reply q (same q low_q other) net.sent (net.nodes q) (rep.nodes q low_q))
        ]

        read_first : IsWorldOf n f after_read
        read_first = (
          after_reply,
          next_world w after_reply reach (world.read s r raised_fence found.1 (λ q low_q other. found.2.heard q low_q (its_read.1 q low_q other)) (λ z. le-max_left (w.rounds.floors n z) (r.view z)) (λ z. le-max_right (w.rounds.floors n z) (r.view z))
              (λ z. max-le ((invariant n f net w reach rep).rounds.floors_told n z) ((invariant n f net w reach rep).rounds.views_told s z r found.1))),
          let floors : (z : ℕ) → z < n → after_reply.rounds.floors n z ≡ raised net.floors view z = λ z low_z. (λ j. set_at_here w.rounds.floors n raised_fence j z) ∙ (λ j. max (rep.floors z low_z j) (sym (its_read.0 z low_z) j)) in
              assumption (nodes, packets_and_one n w after_reply later_reply net.sent new rep.packets (λ d h. rep.stored d ∙ h)),
        )

      read_in_round : IsWorldOf n f after_read
      read_in_round = elim (cases_Bool (r.replied n)) [ inl h ↦ read_again h | inr h ↦ read_first h ]

    pub tells_stored : IsWorldOf n f after_read
    tells_stored = elim (cases_Bool (is_in_round name (net.nodes s))) [ inl h ↦ let i = round_in name (net.nodes s) h in read_in_round i.0 i.1 i.2 i.3 i.4 | inr out ↦ unread out ]
