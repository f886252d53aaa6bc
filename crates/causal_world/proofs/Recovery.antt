-- A recovery, step by step: of two processes the second one crashes, is answered by the first one and by stable
-- storage, and comes up.
use Rattle.std.proofs.Common.{ℕ, suc, ◌≡◌, ◌<◌, ◌≤◌, inl, Bool, true, false, not, ◌&&◌, ◌||◌, nat_lt, [], ◌∷◌, Some, None, refl, arith}
use Rattle.std.specs.Prelude.{◌==◌}
use Rattle.std.proofs.lemmas.Bool.{false≢true}
use Rattle.causal_name.specs.declared.Pid.{Pid}
use Rattle.causal_trace.specs.declared.entry.Entry.TheVariants.{Crash}
use Rattle.causal_trace.specs.Past.{logs}
use Rattle.causal_rounds.specs.Rounds.{with_value_at, Round, number, new_round, with_reply}
use Rattle.causal_world.specs.World.{Packet, World}
use Rattle.causal_world.specs.Steps.{crash, begin, answer, read, restart}
use Rattle.causal_world.specs.Reachable.{IsReachableWorld, opening, next_world, RecoveriesAreReachable}

abbrev second : Pid
second = record { 0 = 1 }

abbrev absent : ℕ → Bool
absent q = not (nat_lt q 3)

abbrev first_world : World
first_world = record {
  past = [];
  rounds = record { lane = λ p. 0; down = absent; floors = λ p q. 0; rounds = λ p. None };
  knows_holder = λ p d q. false;
  knows_stable = λ p d. false;
  packets = λ i. None;
  gathered = λ s d. false;
  stored = λ d. false;
  landed = λ i. false;
}

abbrev crashed : World
crashed = record first_world {
  past = Crash second ∷ [];
  rounds = record first_world.rounds { down = with_value_at absent 1 true };
  knows_holder = λ p d q. not (1 == p) && false;
  knows_stable = λ p d. not (1 == p) && false;
}

abbrev view : ℕ → ℕ
view q = number crashed.rounds q

abbrev begun : World
begun = record crashed {
  rounds = record crashed.rounds { rounds = with_value_at crashed.rounds.rounds 1 (Some (new_round view absent)) };
  gathered = with_value_at crashed.gathered 1 (λ d. false);
}

abbrev round : Round
round = new_round view absent

abbrev empty_answer : Packet
empty_answer = record { parcel = record { from = 0; send = None; carries = λ d. false; names_holder = λ d q. false; names_stable = λ d. false }; lane = 0; to = 1 }

abbrev answered : World
answered = record begun {
  rounds = record begun.rounds { floors = with_value_at begun.rounds.floors 0 view; rounds = with_value_at begun.rounds.rounds 1 (Some (with_reply round 0 true)) };
  packets = with_value_at begun.packets 0 (Some empty_answer);
  gathered = with_value_at begun.gathered 1 (λ d. begun.gathered 1 d || logs begun.past 0 d);
}

abbrev was_read : World
was_read = record answered {
  rounds = record answered.rounds { floors = with_value_at answered.rounds.floors 2 view; rounds = with_value_at answered.rounds.rounds 1 (Some (with_reply (with_reply round 0 true) 2 true)) };
  gathered = with_value_at answered.gathered 1 (λ d. answered.gathered 1 d || answered.stored d);
}

starts : IsReachableWorld 2 1 first_world
starts =
    let up : (p : ℕ) → p < 2 → absent p ≡ false = λ p low. grind (arith, low) in
    let gone : (p : ℕ) → suc 2 ≤ p → absent p ≡ true = λ p high. grind (arith, high) in
    opening first_world assumption

crashes : IsReachableWorld 2 1 crashed
crashes = next_world first_world crashed starts (crash second (omega arith) refl (omega arith))

gone : (q : ℕ) → suc 2 ≤ q → (absent q ≡ true) × (view q ≡ 1)
gone q high = (grind (arith, high), grind (arith, high))

here : (q : ℕ) → q < suc 2 → absent q ≡ false
here q low = grind (arith, low)

begins : IsReachableWorld 2 1 begun
begins = next_world crashed begun crashes (begin 1 view absent (omega arith) refl refl (λ q. omega arith) here gone)

answers : IsReachableWorld 2 1 answered
answers = next_world begun answered begins (answer 0 1 0 round view empty_answer (omega arith) refl refl refl (λ z. omega arith) (λ z. omega arith) (λ z. omega arith)
    (record { free = refl; lane = refl; of_log = record { process = omega arith; up = refl; from = refl; logged = λ d h. absurd (false≢true h); known_holders = λ d q h. absurd (false≢true h); known_stable = λ d h. absurd (false≢true h); names_sender = λ d h. absurd (false≢true h) } })
    refl refl (λ d. refl))

reads : IsReachableWorld 2 1 was_read
reads = next_world answered was_read answers (read 1 (with_reply round 0 true) view refl all (λ z. omega arith) (λ z. omega arith) (λ z. omega arith))
  where
    all : (q : ℕ) → q < 2 → (q ≡ 1 → ⊥) → (with_reply round 0 true).replied q ≡ true
    all q low other = grind (arith, low, other)

pub recoveries_are_reachable : RecoveriesAreReachable
recoveries_are_reachable = (
  _,
  next_world was_read _ reads (restart second [] (with_reply (with_reply round 0 true) 2 true) was_read.knows_holder was_read.knows_stable (omega arith) refl all
      (λ d h. absurd (false≢true h)) (λ d h dest. absurd (false≢true h)) (λ d h. absurd (false≢true h)) (λ x d q h. inl h) (λ d h. absurd (false≢true h)) (λ x d q h. h) (λ x d h. inl h)),
  refl,
)
  where
    all : (q : ℕ) → q < suc 2 → (q ≡ 1 → ⊥) → (with_reply (with_reply round 0 true) 2 true).replied q ≡ true
    all q low other = grind (arith, low, other)
