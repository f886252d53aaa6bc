-- The processes that the events of each process reach, from the last entry to the first.
use Rattle.causal_audit.proofs.Common.{ℕ, ◌≡◌, ◌+◌, ◌<◌, ◌≤◌, inl, inr, true, List, length, get_or, Some, refl, sym, subst, ◌∙◌, arith, ◌⊎◌, ◌==◌, ◌||◌, or_left, or_right, eq-eqb, get_or-set_same, get_or-set_other, Pid, Entry, Send, entry_at, AreLegalEntries, DirectlyPrecedes, in_order, by_message, Reaches, itself, onward, reaches_begins, accepted_forward, nat_cmp, nat_cmp_total, FinSet, contains, insert, empty, union, contains-union}
use Rattle.causal_audit.specs.Inside.Index.Reachability.{reachable_from, with_reached}
use Rattle.causal_audit.specs.Inside.Index.Departures.{process_at}
use Rattle.causal_audit.proofs.Legal.{receiver_event}
use Rattle.causal_holders.proofs.Lemmas.Sets.{inserted}
use Rattle.causal_audit.proofs.index.Receivers.{delivered, det_process, process_is, process_of_event}

-- an event reaches only itself, and the events reached by one that it directly precedes
first_step : (past : List Entry) (i j : ℕ) → Reaches past i j → (i ≡ j) ⊎ ((m : ℕ) × DirectlyPrecedes past i m × Reaches past m j)
first_step past i j (itself p l at) = inl refl
first_step past i k (onward {j} r direct) =
    elim (first_step past i j r) [
      | inl same ↦ inr (k, subst (λ x. DirectlyPrecedes past x k) (sym same) direct, last direct)
      | inr next ↦ inr (next.0, next.1, onward next.2 direct)
    ]
  where
    last : DirectlyPrecedes past j k → Reaches past k k
    last (in_order p l less a b) = itself p l b
    last (by_message h) = let at = receiver_event past k j h in itself at.0 at.1 at.2

-- ---- one more delivery

with_more : (set : FinSet nat_cmp) (p q : ℕ) → contains set q ≡ true → contains (insert set p) q ≡ true
with_more set p q has = inserted set p q ∙ or_right (p == q) (contains set q) has

itself_in : (sets : List (FinSet nat_cmp)) (p : ℕ) → contains (reachable_from sets p) p ≡ true
itself_in sets p = inserted (get_or sets p empty) p p ∙ or_left (p == p) (contains (get_or sets p empty) p) (eq-eqb p p refl)

module _ (sets : List (FinSet nat_cmp)) (from to : Pid) (ssn : ℕ) (inside : from.0 < length sets) where
  abbrev sent : List (FinSet nat_cmp)
  sent = with_reached sets (Send from to ssn)

  -- the sender reaches the processes that it reached, and those that the receiver reaches
  joined : (q : ℕ) → (contains (reachable_from sets from.0) q || contains (reachable_from sets to.0) q) ≡ true → contains (reachable_from sent from.0) q ≡ true
  joined q has =
      grind (
        arith,
        with_more,
        get_or-set_same sets from.0 (union (reachable_from sets from.0) (reachable_from sets to.0)) empty inside,
        contains-union nat_cmp_total (reachable_from sets from.0) (reachable_from sets to.0) q,
      )

  grown_one : (p q : ℕ) → contains (reachable_from sets p) q ≡ true → contains (reachable_from sent p) q ≡ true
  grown_one p q has = grind (arith, joined, get_or-set_other)

-- there is a set for the sender of an entry
abbrev HasSender : List (FinSet nat_cmp) → Entry → Type 0
HasSender sets e = (from to : Pid) (ssn : ℕ) → e ≡ Send from to ssn → from.0 < length sets

grown : (sets : List (FinSet nat_cmp)) (e : Entry) → HasSender sets e → (p q : ℕ) → contains (reachable_from sets p) q ≡ true → contains (reachable_from (with_reached sets e) p) q ≡ true
grown sets (Send from to ssn) bound p q has = grown_one sets from to ssn (bound from to ssn refl) p q has
grown sets _ bound p q has = has

-- ---- from the last entry to the first

-- the sets are correct for the entries from position t on
abbrev pub AreReachedFrom : List Entry → ℕ → List (FinSet nat_cmp) → Type 0
AreReachedFrom past t sets = (i j : ℕ) → t ≤ i → Reaches past i j → contains (reachable_from sets (process_at past i)) (process_at past j) ≡ true

-- at the end
pub reached_begun : (past : List Entry) (t : ℕ) (sets : List (FinSet nat_cmp)) → t ≡ length past → AreReachedFrom past t sets
reached_begun past t sets end i j up r = absurd (omega (arith, end, up, reaches_begins past i j r))

module _ (n : ℕ) (past : List Entry) (formed : AreLegalEntries n past) (t : ℕ) (e : Entry) (at : entry_at past t ≡ Some e) (sets : List (FinSet nat_cmp)) (bound : HasSender sets e) (before : AreReachedFrom past (t + 1) sets) where
  abbrev Knows : ℕ → ℕ → Type 0
  Knows p j = contains (reachable_from (with_reached sets e) p) (process_at past j) ≡ true

  by_next : (m j : ℕ) → DirectlyPrecedes past t m → Reaches past m j → Knows (process_at past t) j
  by_next m j (in_order p l less a b) r =
      grown sets e bound (process_at past t) (process_at past j)
      (subst (λ x. contains (reachable_from sets x) (process_at past j) ≡ true) (process_of_event past m p l b ∙ sym (process_of_event past t p l a)) (before m j (omega (arith, less)) r))
  by_next m j (by_message h) r =
      let message = delivered n past formed m t h in
      let d = message.0 in
      let to = message.1 in
      let is : e ≡ Send d.source to d.ssn = let both : Some e ≡ Some (Send d.source to d.ssn) = sym at ∙ message.3 in cc both in
      let into : process_at past m ≡ to.0 = det_process past m d message.2 ∙ sym message.4 in
      let has : contains (reachable_from sets to.0) (process_at past j) ≡ true =
      subst (λ x. contains (reachable_from sets x) (process_at past j) ≡ true) into (before m j (omega (arith, accepted_forward n past formed m t h)) r) in
      grind (arith, process_is past t (Send d.source to d.ssn) message.3, is, joined sets d.source to d.ssn (bound d.source to d.ssn is), or_right)

  reaches_now : (j : ℕ) → Reaches past t j → Knows (process_at past t) j
  reaches_now j r =
      elim (first_step past t j r) [
        | inl same ↦ subst (Knows (process_at past t)) same (itself_in (with_reached sets e) (process_at past t))
        | inr next ↦ by_next next.0 j next.1 next.2
      ]

  -- and with the entry before
  pub reached_next : AreReachedFrom past t (with_reached sets e)
  reached_next i j up r = grind (arith, reaches_now, grown)
