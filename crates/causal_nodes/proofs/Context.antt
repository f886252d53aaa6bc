-- What each proof about an event uses: a reachable world that represents the network.
use Rattle.std.proofs.Common.{ℕ, ◌≡◌, ◌<◌, Bool, true, false, not, ◌&&◌, ◌||◌, List, ◌∷◌, length, Some, refl, sym, ap, subst, ◌∙◌, arith}
use Rattle.std.specs.Prelude.{◌==◌}
use Rattle.std.specs.Option.{option_and_then}
use Rattle.std.proofs.lemmas.Bool.{eq-eqb, ne_eqb}
use Rattle.causal_name.specs.declared.MsgName.{MsgName}
use Rattle.causal_trace.specs.declared.entry.Entry.{Entry}
use Rattle.causal_trace.specs.Past.{is_down, entry_at, message_sent, message_at}
use Rattle.causal_steps.proofs.Lemmas.Positions.{at_newest, at_older, message_below}
use Rattle.causal_world.specs.World.{World}
use Rattle.causal_world.specs.Invariant.{WorldInvariant}
use Rattle.causal_world.specs.Reachable.{IsReachableWorld}
use Rattle.causal_world.proofs.Lemmas.ReachableWorlds.{world_invariant}
use Rattle.causal_nodes.specs.Node.{UpNode, DownNode, up_node, down_node}
use Rattle.causal_nodes.specs.Network.{Network}
use Rattle.causal_nodes.proofs.Represents.{UpFits, DownFits, NodeFits, Represents}
use Rattle.causal_nodes.proofs.Kept.{IsLater}

-- a reachable world represents the network
abbrev pub IsWorldOf : ℕ → ℕ → Network → Type 0
IsWorldOf n f net = (w : World) × IsReachableWorld n f w × Represents n net w

-- a message that was sent is still at its position
pub message_older : (e : Entry) (past : List Entry) (send : ℕ) (m : MsgName) → message_at past send ≡ Some m → message_at (e ∷ past) send ≡ Some m
message_older e past send m h = ap (λ o. option_and_then message_sent o) (at_older send (length past) (Some e) (entry_at past send) (message_below past send m h)) ∙ h

pub message_newest : (e : Entry) (past : List Entry) → message_at (e ∷ past) (length past) ≡ message_sent e
message_newest e past = ap (λ o. option_and_then message_sent o) (at_newest (length past) (length past) (Some e) (entry_at past (length past)) refl)

pub later_same : (w : World) → IsLater w w
later_same w = record { numbers = λ q. omega arith; packets = λ i p at. at; stable = λ d h. h; stored = λ d h. h; messages = λ send m h. h }

-- a test with a premise that holds, or does not
pub own_or : (b l x y : Bool) → b ≡ true → x ≡ y → (l || x) ≡ ((b && l) || y)
own_or b l x y hb hx = grind (arith, hb, hx)

pub away_or : {A : Type 0} (b : Bool) (l y : A → Bool) → b ≡ false → (d : A) → ((b && l d) || y d) ≡ y d
away_or b l y hb d = grind (arith, hb)

pub not_away : (b y : Bool) → b ≡ false → (not b && y) ≡ y
not_away b y hb = grind (arith, hb)

pub same_is : (p : ℕ) → (p == p) ≡ true
same_is p = eq-eqb p p refl

pub other_is : (p q : ℕ) → (q ≡ p → ⊥) → (p == q) ≡ false
other_is p q other = ne_eqb p q (λ e. other (sym e))

module _ (n f : ℕ) (net : Network) (w : World) (reach : IsReachableWorld n f w) (rep : Represents n net w) where
  pub invariant : WorldInvariant n f w
  invariant = world_invariant n f w reach

  pub up_of : (p : ℕ) (a : UpNode) → p < n → net.nodes p ≡ up_node a → UpFits n w p a
  up_of p a low is = subst (λ y. NodeFits n w net.sent p y) is (rep.nodes p low)

  pub down_of : (p : ℕ) (x : DownNode) → p < n → net.nodes p ≡ down_node x → DownFits n w net.sent p x
  down_of p x low is = subst (λ y. NodeFits n w net.sent p y) is (rep.nodes p low)

  pub floors_kept : (x : ℕ → ℕ → ℕ) → x n ≡ w.rounds.floors n → (z : ℕ) → z < n → x n z ≡ net.floors z
  floors_kept x same z low = (λ j. same j z) ∙ rep.floors z low

  pub up_in_past : (p : ℕ) → p < n → w.rounds.down p ≡ false → is_down w.past p ≡ false
  up_in_past p low up = sym (invariant.down p low) ∙ up
