-- What one process, or stable storage, may do on what it has and on what it takes. The premises are what a process
-- checks, and what is assumed of the surroundings: fewer than f processes are down at a crash; a packet that is taken
-- was sent; a number is that of one lane; storage keeps what it stored, and refuses what is below its floors. A reply
-- counts when it is sent; a round is named by its process, so replies to others never count.
use Rattle.std.specs.Prelude.{◌≡◌, ℕ, suc, ◌+◌, ◌<◌, ◌≤◌, Bool, true, false, not, ◌&&◌, ◌||◌, ◌==◌, List, ◌∷◌, length, None, Some, ◌⊎◌}
use Rattle.causal_name.specs.declared.Pid.{Pid}
use Rattle.causal_name.specs.declared.MsgName.{MsgName}
use Rattle.causal_name.specs.declared.Det.{Det}
use Rattle.causal_name.specs.Names.{same_det, message_of}
use Rattle.causal_name.specs.Sets.{count_below}
use Rattle.causal_trace.specs.declared.entry.Entry.TheVariants.{Send, Deliver, Stable, Crash, Restart, Forget}
use Rattle.causal_trace.specs.Past.{list_has, is_down, logs, is_stable, deliveries, message_at, det_from}
use Rattle.causal_steps.specs.Steps.{IsOfLog}
use Rattle.causal_rounds.specs.Rounds.{with_value_at, Round, RecoveryState, number, new_round, with_reply}
use Rattle.causal_world.specs.World.{Packet, World, GatheredFrom, volatile_of}

-- the world with other rounds
abbrev pub with_rounds : World → RecoveryState → World
with_rounds w rounds = record w { rounds = rounds }

-- p sends a packet from its present lane, as the packet i; it says nothing but what p has in its log
pub record IsSentBy (n : ℕ) (w : World) (p i : ℕ) (new : Packet) : Type 0 where
  pub free : w.packets i ≡ None
  pub lane : new.lane ≡ w.rounds.lane p
  pub of_log : IsOfLog n w.past p (volatile_of n w) new.parcel

pub data WorldStep (n f : ℕ) (w : World) : World → Type 0 where
  -- a message is sent; what it leaves out of the log has more than f known holders
  send : (from to : Pid) (ssn i : ℕ) (new : Packet) → IsSentBy n w from.0 i new → new.parcel.send ≡ Some (length w.past)
      → ((d : Det) → logs w.past from.0 d ≡ true → (new.parcel.carries d ≡ true) ⊎ ((w.knows_stable from.0 d ≡ true) ⊎ (f < count_below n (w.knows_holder from.0 d))))
      → WorldStep n f w (record w { past = Send from to ssn ∷ w.past; packets = with_value_at w.packets i (Some new) })
  crash : (who : Pid) → who.0 < n → is_down w.past who.0 ≡ false → count_below n (is_down w.past) < f
      → WorldStep n f w (record w {
        past = Crash who ∷ w.past;
        rounds = record w.rounds { down = with_value_at w.rounds.down who.0 true };
        knows_holder = λ p d q. not (who.0 == p) && w.knows_holder p d q;
        knows_stable = λ p d. not (who.0 == p) && w.knows_stable p d;
      })
  -- a round begins, with numbers that their processes have told
  begin : (s : ℕ) (view : ℕ → ℕ) (absent : ℕ → Bool) → s < n → w.rounds.down s ≡ true → view s ≡ w.rounds.lane s + 1 → ((q : ℕ) → view q ≤ number w.rounds q)
      → ((q : ℕ) → q < suc n → absent q ≡ false) → ((q : ℕ) → suc n ≤ q → (absent q ≡ true) × (view q ≡ w.rounds.lane q + 1))
      → WorldStep n f w (record w {
        rounds = record w.rounds { rounds = with_value_at w.rounds.rounds s (Some (new_round view absent)) };
        gathered = with_value_at w.gathered s (λ d. false);
      })
  -- a process that gathers dies
  give_up : (s : ℕ) → WorldStep n f w (with_rounds w (record w.rounds { rounds = with_value_at w.rounds.rounds s None }))
  -- y, which is up, answers the round of s with its whole log, and refuses from now on what is below its view
  answer : (y s i : ℕ) (r : Round) (floors : ℕ → ℕ) (new : Packet) → y < n → w.rounds.down y ≡ false → w.rounds.rounds s ≡ Some r → r.view y ≡ w.rounds.lane y
      → ((z : ℕ) → w.rounds.floors y z ≤ floors z) → ((z : ℕ) → r.view z ≤ floors z) → ((z : ℕ) → floors z ≤ number w.rounds z)
      → IsSentBy n w y i new → new.to ≡ s → new.parcel.send ≡ None → ((d : Det) → new.parcel.carries d ≡ logs w.past y d)
      → WorldStep n f w (record w {
        rounds = record w.rounds { floors = with_value_at w.rounds.floors y floors; rounds = with_value_at w.rounds.rounds s (Some (with_reply r y true)) };
        packets = with_value_at w.packets i (Some new);
        gathered = with_value_at w.gathered s (λ d. w.gathered s d || logs w.past y d);
      })
  -- y, which is up or stable storage, refuses more: it takes a question of a round that was given up
  refuse : (y : ℕ) (floors : ℕ → ℕ) → w.rounds.down y ≡ false → ((z : ℕ) → w.rounds.floors y z ≤ floors z) → ((z : ℕ) → floors z ≤ number w.rounds z)
      → WorldStep n f w (with_rounds w (record w.rounds { floors = with_value_at w.rounds.floors y floors }))
  -- q, which is not up, says so to the round of s, and gives up its own
  not_up : (q s : ℕ) (r : Round) → q < n → w.rounds.down q ≡ true → (q ≡ s → ⊥) → w.rounds.rounds s ≡ Some r → r.view q ≡ w.rounds.lane q + 1
      → WorldStep n f w (with_rounds w (record w.rounds { rounds = with_value_at (with_value_at w.rounds.rounds s (Some (with_reply r q false))) q None }))
  -- a message is delivered that comes from no refused lane
  deliver : (to : Pid) (send rsn : ℕ) (listed : List Det) (i : ℕ) (p : Packet) (message : MsgName) (known : ℕ → Det → ℕ → Bool) → to.0 < n → w.rounds.down to.0 ≡ false
      → w.packets i ≡ Some p → p.to ≡ to.0 → w.rounds.floors to.0 p.parcel.from ≤ p.lane → p.parcel.send ≡ Some send → message_at w.past send ≡ Some message
      → rsn ≡ deliveries w.past to.0 → ((d : Det) → logs w.past to.0 d ≡ true → d.dest ≡ to → d.rsn ≡ rsn → message_of d ≡ message)
      → ((d : Det) → list_has listed d ≡ (same_det d (det_from to rsn message) || p.parcel.carries d))
      → ((x : ℕ) (d : Det) (q : ℕ) → known x d q ≡ true → (w.knows_holder x d q ≡ true) ⊎ ((to.0 ≡ x) × (list_has listed d ≡ true) × ((p.parcel.names_holder d q ≡ true) ⊎ (q ≡ to.0))))
      → ((d : Det) → list_has listed d ≡ true → known to.0 d to.0 ≡ true)
      → ((x : ℕ) (d : Det) (q : ℕ) → w.knows_holder x d q ≡ true → known x d q ≡ true)
      → WorldStep n f w (record w { past = Deliver to send rsn listed ∷ w.past; knows_holder = known })
  -- a process to which all others have replied comes up with what its round has gathered; of that it may lack what is
  -- stable and no determinant of its own; more may have come from processes that replied, or from stable storage
  restart : (who : Pid) (listed : List Det) (r : Round) (known : ℕ → Det → ℕ → Bool) (marked : ℕ → Det → Bool) → who.0 < n → w.rounds.rounds who.0 ≡ Some r → ((q : ℕ) → q < suc n → (q ≡ who.0 → ⊥) → r.replied q ≡ true)
      → ((d : Det) → w.gathered who.0 d ≡ true → (list_has listed d ≡ true) ⊎ (is_stable w.past d ≡ true))
      → ((d : Det) → w.gathered who.0 d ≡ true → d.dest.0 ≡ who.0 → list_has listed d ≡ true)
      → ((d : Det) → list_has listed d ≡ true → (w.gathered who.0 d ≡ true) ⊎ (GatheredFrom w who.0 r d ⊎ (is_stable w.past d ≡ true)))
      → ((x : ℕ) (d : Det) (q : ℕ) → known x d q ≡ true
      → (w.knows_holder x d q ≡ true)
      ⊎ ((who.0 ≡ x) × (list_has listed d ≡ true) × ((q ≡ who.0) ⊎ ((i : ℕ) × (p : Packet) × (w.packets i ≡ Some p) × (p.to ≡ who.0) × (r.replied p.parcel.from ≡ true) × (r.view p.parcel.from ≤ p.lane) × (p.parcel.names_holder d q ≡ true)))))
      → ((d : Det) → list_has listed d ≡ true → known who.0 d who.0 ≡ true)
      → ((x : ℕ) (d : Det) (q : ℕ) → w.knows_holder x d q ≡ true → known x d q ≡ true)
      → ((x : ℕ) (d : Det) → marked x d ≡ true → (w.knows_stable x d ≡ true) ⊎ (is_stable w.past d ≡ true))
      → WorldStep n f w (record w {
        past = Restart who listed ∷ w.past;
        rounds = record { lane = with_value_at w.rounds.lane who.0 (w.rounds.lane who.0 + 1); down = with_value_at w.rounds.down who.0 false; floors = with_value_at w.rounds.floors who.0 r.view; rounds = with_value_at w.rounds.rounds who.0 None };
        knows_holder = known;
        knows_stable = marked;
      })
  -- a process says what it logs, or writes it to stable storage
  acknowledge : (p i : ℕ) (new : Packet) → IsSentBy n w p i new → new.parcel.send ≡ None
      → WorldStep n f w (record w { packets = with_value_at w.packets i (Some new) })
  -- p, which is up, learns from a packet of no refused lane who holds what it logs
  learn : (p i : ℕ) (t : Packet) (known : ℕ → Det → ℕ → Bool) → w.rounds.down p ≡ false → w.packets i ≡ Some t → t.to ≡ p → w.rounds.floors p t.parcel.from ≤ t.lane
      → ((x : ℕ) (d : Det) (q : ℕ) → known x d q ≡ true → (w.knows_holder x d q ≡ true) ⊎ ((x ≡ p) × (logs w.past p d ≡ true) × (t.parcel.names_holder d q ≡ true)))
      → ((x : ℕ) (d : Det) (q : ℕ) → w.knows_holder x d q ≡ true → known x d q ≡ true)
      → WorldStep n f w (record w { knows_holder = known })
  -- stable storage takes a write of a lane that it does not refuse
  land : (i : ℕ) (p : Packet) → w.packets i ≡ Some p → p.to ≡ n → w.rounds.floors n p.parcel.from ≤ p.lane
      → WorldStep n f w (record w { stored = λ d. w.stored d || p.parcel.carries d; landed = with_value_at w.landed i true })
  -- stable storage answers the round of s, to which all others have replied, and refuses from now on what is below
  -- its view
  read : (s : ℕ) (r : Round) (floors : ℕ → ℕ) → w.rounds.rounds s ≡ Some r → ((q : ℕ) → q < n → (q ≡ s → ⊥) → r.replied q ≡ true)
      → ((z : ℕ) → w.rounds.floors n z ≤ floors z) → ((z : ℕ) → r.view z ≤ floors z) → ((z : ℕ) → floors z ≤ number w.rounds z)
      → WorldStep n f w (record w {
        rounds = record w.rounds { floors = with_value_at w.rounds.floors n floors; rounds = with_value_at w.rounds.rounds s (Some (with_reply r n true)) };
        gathered = with_value_at w.gathered s (λ d. w.gathered s d || w.stored d);
      })
  -- it is recorded that a determinant in stable storage is stable
  write_entry : (det : Det) (marked : ℕ → Det → Bool) → w.stored det ≡ true → ((x : ℕ) (d : Det) → marked x d ≡ true → (w.knows_stable x d ≡ true) ⊎ (same_det d det ≡ true))
      → WorldStep n f w (record w { past = Stable det ∷ w.past; knows_stable = marked })
  -- a process learns that something is stable
  confirm : (marked : ℕ → Det → Bool) → ((x : ℕ) (d : Det) → marked x d ≡ true → (w.knows_stable x d ≡ true) ⊎ (is_stable w.past d ≡ true))
      → WorldStep n f w (record w { knows_stable = marked })
  -- a process forgets what it knows to be stable, but nothing of its own that is still to be repeated
  forget : (who : Pid) (listed : List Det) → who.0 < n → w.rounds.down who.0 ≡ false → ((d : Det) → list_has listed d ≡ true → w.knows_stable who.0 d ≡ true)
      → ((d : Det) → list_has listed d ≡ true → d.dest.0 ≡ who.0 → d.rsn < deliveries w.past who.0)
      → WorldStep n f w (record w {
        past = Forget who listed ∷ w.past;
        knows_holder = λ p d q. not (who.0 == p && list_has listed d) && w.knows_holder p d q;
        knows_stable = λ p d. not (who.0 == p && list_has listed d) && w.knows_stable p d;
      })
