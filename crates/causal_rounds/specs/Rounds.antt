-- Who has replied to whom, while several processes gather at once and the others go on.
use Rattle.std.specs.Prelude.{◌≡◌, ℕ, ◌+◌, ◌≤◌, Bool, true, false, ◌==◌, if◌then◌else◌, Option, None, Some}

-- a function with another value at one number
abbrev pub with_value_at : {X : Type 0} → (ℕ → X) → ℕ → X → ℕ → X
with_value_at f p x q = if q == p then x else f q

-- a round: a number for each process, who has replied, and which of these were up, and answered with their logs
pub record Round : Type 0 where
  pub view : ℕ → ℕ
  pub replied : ℕ → Bool
  pub answered : ℕ → Bool

-- how many restarts each process has completed (its lane), who is down, from which lane on each accepts messages of
-- another one (its floor), and the rounds. Stable storage is one of the processes: it is never down, and what it
-- refuses to write is below its floors
pub record RecoveryState : Type 0 where
  pub lane : ℕ → ℕ
  pub down : ℕ → Bool
  pub floors : ℕ → ℕ → ℕ
  pub rounds : ℕ → Option Round

-- a process's lane, or its next one while it is down
abbrev pub number : RecoveryState → ℕ → ℕ
number w q = if w.down q then w.lane q + 1 else w.lane q

-- a round to which nobody has replied; numbers of no process count as those of processes that are down and have
-- replied
abbrev pub new_round : (ℕ → ℕ) → (ℕ → Bool) → Round
new_round view absent = record { view = view; replied = absent; answered = λ q. false }

-- one process more has replied, and answered if it was up
abbrev pub with_reply : Round → ℕ → Bool → Round
with_reply r q up = record { view = r.view; replied = with_value_at r.replied q true; answered = with_value_at r.answered q up }

-- what a recovery does to the rounds
pub data RoundStep (w : RecoveryState) : RecoveryState → Type 0 where
  crash : (p : ℕ) → w.down p ≡ false → RoundStep w (record w { down = with_value_at w.down p true })
  begin : (s : ℕ) (view : ℕ → ℕ) (absent : ℕ → Bool) → w.down s ≡ true → view s ≡ w.lane s + 1 → ((q : ℕ) → view q ≤ number w q) → absent s ≡ false
      → ((q : ℕ) → absent q ≡ true → (w.down q ≡ true) × (w.rounds q ≡ None) × (view q ≡ w.lane q + 1))
      → RoundStep w (record w { rounds = with_value_at w.rounds s (Some (new_round view absent)) })
  give_up : (s : ℕ) → RoundStep w (record w { rounds = with_value_at w.rounds s None })
  -- y, which is up, answers s, and refuses from now on what is below the view
  answer : (y s : ℕ) (r : Round) (floors : ℕ → ℕ) → w.down y ≡ false → w.rounds s ≡ Some r → r.view y ≡ w.lane y
      → ((z : ℕ) → w.floors y z ≤ floors z) → ((z : ℕ) → r.view z ≤ floors z) → ((z : ℕ) → floors z ≤ number w z)
      → RoundStep w (record w { floors = with_value_at w.floors y floors; rounds = with_value_at w.rounds s (Some (with_reply r y true)) })
  -- y, which is up, refuses more: it answers a question of a round that was given up
  refuse : (y : ℕ) (floors : ℕ → ℕ) → w.down y ≡ false → ((z : ℕ) → w.floors y z ≤ floors z) → ((z : ℕ) → floors z ≤ number w z)
      → RoundStep w (record w { floors = with_value_at w.floors y floors })
  -- q, which is not up, says so to s, and gives up its own round
  not_up : (q s : ℕ) (r : Round) → w.down q ≡ true → (q ≡ s → ⊥) → w.rounds s ≡ Some r → r.view q ≡ w.lane q + 1
      → RoundStep w (record w { rounds = with_value_at (with_value_at w.rounds s (Some (with_reply r q false))) q None })
  -- all others have replied to s, and it comes up
  restart : (s : ℕ) (r : Round) → w.rounds s ≡ Some r → ((q : ℕ) → (q ≡ s → ⊥) → r.replied q ≡ true)
      → RoundStep w (record { lane = with_value_at w.lane s (w.lane s + 1); down = with_value_at w.down s false; floors = with_value_at w.floors s r.view; rounds = with_value_at w.rounds s None })

-- the invariant of the rounds
pub record RoundInvariant (w : RecoveryState) : Type 0 where
  -- a process with a round is down
  pub gathering_are_down : (s : ℕ) (r : Round) → w.rounds s ≡ Some r → w.down s ≡ true
  -- its view of itself is its next lane
  pub own_view : (s : ℕ) (r : Round) → w.rounds s ≡ Some r → (r.replied s ≡ false) × (r.view s ≡ w.lane s + 1)
  -- a view and a floor are numbers that their processes have told
  pub views_told : (s q : ℕ) (r : Round) → w.rounds s ≡ Some r → r.view q ≤ number w q
  pub floors_told : (y q : ℕ) → w.floors y q ≤ number w q
  -- of two that gather not both have a reply of the other
  pub one_way : (s q : ℕ) (r o : Round) → w.rounds s ≡ Some r → w.rounds q ≡ Some o → r.replied q ≡ true → o.replied s ≡ false
  -- a process that has replied has completed no restart since
  pub same_lane : (s q : ℕ) (r : Round) → w.rounds s ≡ Some r → r.replied q ≡ true → r.answered q ≡ true → w.lane q ≡ r.view q
  pub still_down : (s q : ℕ) (r : Round) → w.rounds s ≡ Some r → r.replied q ≡ true → r.answered q ≡ false → (w.down q ≡ true) × (w.lane q + 1 ≡ r.view q)
  pub answers_are_replies : (s q : ℕ) (r : Round) → w.rounds s ≡ Some r → r.answered q ≡ true → r.replied q ≡ true
  -- a process that has answered refuses what is below the view
  pub refuses : (s y z : ℕ) (r : Round) → w.rounds s ≡ Some r → r.answered y ≡ true → w.down y ≡ false → r.view z ≤ w.floors y z
  -- if s has replied to z, the view of z is not above that of s for those that have answered s
  pub ordered : (s z y : ℕ) (r o : Round) → w.rounds s ≡ Some r → w.rounds z ≡ Some o → o.replied s ≡ true → r.answered y ≡ true → o.view y ≤ r.view y

-- each step preserves the invariant of the rounds
abbrev pub RoundStepsPreserve : Type 0
RoundStepsPreserve = (w x : RecoveryState) → RoundStep w x → RoundInvariant w → RoundInvariant x
