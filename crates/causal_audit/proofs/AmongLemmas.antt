-- The earliest breach of the deliveries at given positions.
use Rattle.causal_audit.proofs.Common.{ℕ, ◌≡◌, ◌+◌, ◌<◌, ◌≤◌, inl, inr, Bool, true, false, List, [], ◌∷◌, ◌++◌, Option, Some, None, length, refl, arith, ◌⊎◌, Contains, if◌then◌else◌, cases_lt, Contains-append_cases, Contains-append_left, Contains-append_right, Contains-push, Contains-push_cases, Det, instant, deliveries_in, det_at, Recording, AreLegalEntries, HasOrphan}
use Rattle.causal_audit.specs.declared.breach.Breach.{Breach}
use Rattle.causal_audit.specs.BreachOrder.{comes_before, earlier_breach}
use Rattle.causal_audit.specs.Numbers.{IsNumbered}
use Rattle.causal_audit.specs.Breaches.{IsFirstBreach, EarliestBreachBy}
use Rattle.causal_audit.specs.Inside.Among.{FirstBreachBy, HasNoOrphanBy, IsEarliestAmong, EarliestAmongBy, last_relevant_instant}
use Rattle.causal_audit.proofs.Lemmas.NumberLemmas.{has_number}
use Rattle.causal_audit.proofs.DeliveryNumbers.{numbered_later, numbered_below, numbered_one, numbered_some}

-- what is at or after a is at or after what comes before a
before_least : (a b : Breach) (k t : ℕ) → comes_before b a ≡ true → (a.instant ≤ t) × (a.instant ≡ t → a.delivery ≤ k) → (b.instant ≤ t) × (b.instant ≡ t → b.delivery ≤ k)
before_least a b k t h later = grind arith

-- what is at or after b is at or after a, if b does not come before a
not_before_least : (a b : Breach) (k t : ℕ) → comes_before b a ≡ false → (b.instant ≤ t) × (b.instant ≡ t → b.delivery ≤ k) → (a.instant ≤ t) × (a.instant ≡ t → a.delivery ≤ k)
not_before_least a b k t h later = grind arith

module _ (r : Recording) (f : ℕ) where
  -- the first breach of a delivery is at or before each of its orphans
  first_least : (k : ℕ) (b : Breach) → IsFirstBreach r f k b → (t : ℕ) → HasOrphan r.processes f (instant r.past t) k → (b.instant ≤ t) × (b.instant ≡ t → b.delivery ≤ k)
  first_least k b first t has = grind arith

  -- a breach by a bound is at or before each orphan after it
  by_bound : (b : Breach) (end t k : ℕ) → b.instant ≤ end → end < t → (b.instant ≤ t) × (b.instant ≡ t → b.delivery ≤ k)
  by_bound b end t k low late = (omega (arith, low, late), λ same. absurd (omega (arith, low, late, same)))

  -- the empty list contains no number
  nothing : (k : ℕ) → Contains {X = ℕ} [] k → ⊥
  nothing k listed = omega (arith, listed.1)

  chosen : (positions more : List ℕ) (end : ℕ) (a b : Breach) → a.instant ≤ end → b.instant ≤ end → IsEarliestAmong r f positions a → IsEarliestAmong r f more b → (x : Bool) → comes_before b a ≡ x
      → EarliestAmongBy r f end (positions ++ more) (if x then Some b else Some a)
  chosen positions more end a b low short one other true before = (
    short,
    record {
      among = Contains-append_right positions more b.delivery other.among;
      first = other.first;
      least = λ j t listed in_time has. elim (Contains-append_cases positions more j listed) [
        | inl old ↦ before_least a b j t before (one.least j t old in_time has)
        | inr new ↦ other.least j t new in_time has
      ];
    },
  )
  chosen positions more end a b low short one other false before = (
    low,
    record {
      among = Contains-append_left positions more a.delivery one.among;
      first = one.first;
      least = λ j t listed in_time has. elim (Contains-append_cases positions more j listed) [
        | inl old ↦ one.least j t old in_time has
        | inr new ↦ not_before_least a b j t before (other.least j t new in_time has)
      ];
    },
  )

  -- the deliveries at no positions have no breach
  pub among_none : (end : ℕ) → EarliestAmongBy r f end [] None
  among_none end k t listed = absurd (nothing k listed)

  -- for one position the earliest breach is the first breach of its delivery
  among_one : (end k : ℕ) (found : Option Breach) → FirstBreachBy r f end k found → EarliestAmongBy r f end (k ∷ []) found
  among_one end k None none = λ j t listed low has. grind (arith, Contains-push_cases [] k j listed, nothing)
  among_one end k (Some b) one = grind (arith, Contains-push [] k, Contains-push_cases, nothing, first_least)

  -- Further positions need a search only up to the instant of the breach so far.
  pub among_joined : (end until : ℕ) (positions more : List ℕ) (one other : Option Breach) → until ≡ last_relevant_instant end one → EarliestAmongBy r f end positions one → EarliestAmongBy r f until more other
      → EarliestAmongBy r f end (positions ++ more) (earlier_breach one other)
  among_joined end until positions more None None reach so_far next = λ j t listed low has. elim (Contains-append_cases positions more j listed) [
    | inl old ↦ so_far j t old low has
    | inr new ↦ next j t new (omega (arith, low, reach)) has
  ]
  among_joined end until positions more None (Some b) reach so_far next = (
    omega (arith, next.0, reach),
    record {
      among = Contains-append_right positions more b.delivery next.1.among;
      first = next.1.first;
      least = λ j t listed in_time has. elim (Contains-append_cases positions more j listed) [
        | inl old ↦ elim (cases_lt end t) [
          | inl late ↦ by_bound b end t j (omega (arith, next.0, reach)) late
          | inr early ↦ absurd (so_far j t old early has)
        ]
        | inr new ↦ next.1.least j t new in_time has
      ];
    },
  )
  among_joined end until positions more (Some a) None reach so_far next = (
    so_far.0,
    record {
      among = Contains-append_left positions more a.delivery so_far.1.among;
      first = so_far.1.first;
      least = λ j t listed in_time has. elim (Contains-append_cases positions more j listed) [
        | inl old ↦ so_far.1.least j t old in_time has
        | inr new ↦ elim (cases_lt a.instant t) [
          | inl late ↦ by_bound a a.instant t j (omega arith) late
          | inr early ↦ absurd (next j t new (omega (arith, early, reach)) has)
        ]
      ];
    },
  )
  among_joined end until positions more (Some a) (Some b) reach so_far next = grind (arith, chosen)

  -- The earlier of two earliest breaches is that of both lists.
  pub among_both : (end : ℕ) (positions more : List ℕ) (one other : Option Breach) → EarliestAmongBy r f end positions one → EarliestAmongBy r f end more other → EarliestAmongBy r f end (positions ++ more) (earlier_breach one other)
  among_both end positions more None other so_far next = among_joined end end positions more None other refl so_far next
  among_both end positions more (Some a) None so_far next = among_joined end a.instant positions more (Some a) None refl so_far (λ j t listed low. next j t listed (omega (arith, low, so_far.0)))
  among_both end positions more (Some a) (Some b) so_far next = chosen positions more end a b so_far.0 next.0 so_far.1 next.1 (comes_before b a) refl

  -- one position more
  pub among_push : (end : ℕ) (positions : List ℕ) (k : ℕ) (one other : Option Breach) → EarliestAmongBy r f end positions one → FirstBreachBy r f end k other → EarliestAmongBy r f end (positions ++ k ∷ []) (earlier_breach one other)
  among_push end positions k one other so_far next = among_both end positions (k ∷ []) one other so_far (among_one end k other next)

  -- more positions, if the added ones have no orphan by then
  pub among_wider : (end : ℕ) (positions more : List ℕ) (found : Option Breach) → ((k : ℕ) → Contains positions k → Contains more k) → ((k : ℕ) → Contains more k → Contains positions k ⊎ HasNoOrphanBy r f k end)
      → EarliestAmongBy r f end positions found → EarliestAmongBy r f end more found
  among_wider end positions more None inside others none = λ k t listed low has. elim (others k listed) [ inl old ↦ none k t old low has | inr never ↦ never t low has ]
  among_wider end positions more (Some b) inside others one = (
    one.0,
    record {
      among = inside b.delivery one.1.among;
      first = one.1.first;
      least = λ k t listed in_time has. elim (others k listed) [
        | inl old ↦ one.1.least k t old in_time has
        | inr never ↦ elim (cases_lt end t) [
          | inl late ↦ by_bound b end t k one.0 late
          | inr early ↦ absurd (never t early has)
        ]
      ];
    },
  )

  -- if none has an orphan after an instant, the earliest breach by that instant is also that by a later one
  pub among_later : (last end : ℕ) (positions : List ℕ) (found : Option Breach) → last ≤ end → ((k u : ℕ) → Contains positions k → last < u → u ≤ end → HasOrphan r.processes f (instant r.past u) k → ⊥)
      → EarliestAmongBy r f last positions found → EarliestAmongBy r f end positions found
  among_later last end positions None up later none = λ k t listed low has. elim (cases_lt last t) [
    | inl late ↦ later k t listed late low has
    | inr early ↦ none k t listed early has
  ]
  among_later last end positions (Some b) up later one = (omega (arith, one.0, up), one.1)

  -- a breach that was found comes by the bound
  pub horizon_within : (end : ℕ) (positions : List ℕ) (found : Option Breach) → EarliestAmongBy r f end positions found → last_relevant_instant end found ≤ end
  horizon_within end positions None none = omega arith
  horizon_within end positions (Some b) one = one.0

  -- If all other deliveries have no orphan by then, it is the earliest breach of the run.
  pub among_all : (end : ℕ) (positions : List ℕ) (found : Option Breach) → AreLegalEntries r.processes r.past → end ≤ length r.past
      → ((k : ℕ) (d : Det) → det_at r.past k ≡ Some d → Contains positions k ⊎ HasNoOrphanBy r f k end)
      → EarliestAmongBy r f end positions found → EarliestBreachBy r f end 0 (deliveries_in r.past) found
  among_all end positions None formed within others none = λ i k t low high numbered in_time has.
      let some = numbered_some r.processes r.past i k formed numbered in
      elim (others k some.0 some.1) [
        | inl listed ↦ none k t listed in_time has
        | inr never ↦ never t in_time has
      ]
  among_all end positions (Some b) formed within others one =
      let orphan = one.1.first.least.is_orphan in
      let numbered_then = has_number (instant r.past b.instant) b.delivery orphan.det orphan.delivered in
      let numbered : IsNumbered r.past numbered_then.0 b.delivery = numbered_later r.past b.instant numbered_then.0 b.delivery one.1.first.within numbered_then.2 in (
        one.0,
        record {
          number = numbered_then.0;
          least_from = omega arith;
          below_to = numbered_below r.past numbered_then.0 b.delivery numbered;
          numbered = numbered;
          first = one.1.first;
          least = λ i k t low high is in_time has.
              let some = numbered_some r.processes r.past i k formed is in
              elim (others k some.0 some.1) [
                | inl listed ↦ one.1.least k t listed in_time has
                | inr never ↦ elim (cases_lt end t) [
                  | inl late ↦ by_bound b end t k one.0 late
                  | inr early ↦ absurd (never t early has)
                ]
              ];
        },
      )

-- ---- delivery by delivery

-- the earliest breach of the deliveries numbered below i
pub record IsLeastBelow (r : Recording) (f end i : ℕ) (found : Option Breach) : Type 0 where
  pub positions : List ℕ
  pub each : (j k : ℕ) → j < i → IsNumbered r.past j k → Contains positions k
  pub least : EarliestAmongBy r f end positions found

-- the earlier of it and the first breach of delivery number i is the earliest below i + 1
pub below_more : (r : Recording) (f end i k : ℕ) (one other : Option Breach) → IsNumbered r.past i k → IsLeastBelow r f end i one → FirstBreachBy r f end k other → IsLeastBelow r f end (i + 1) (earlier_breach one other)
below_more r f end i k one other here so_far next =
    grind (
      arith,
      Contains-append_left,
      numbered_one,
      Contains-push so_far.positions k,
      among_push r f end so_far.positions k one other so_far.least next,
    )

-- that of all numbers is the earliest breach by the bound
pub below_all : (r : Recording) (f end : ℕ) (found : Option Breach) → AreLegalEntries r.processes r.past → end ≤ length r.past → IsLeastBelow r f end (deliveries_in r.past) found → EarliestBreachBy r f end 0 (deliveries_in r.past) found
below_all r f end found formed within all = grind (arith, among_all, has_number)
