-- The protocol invariant, which implies that no allowed crash leaves an orphan.
-- After causal message logging of Alvisi and Marzullo 1998; here at most f processes are down together, and a process
-- may remove from its log what is stable.
use Rattle.std.specs.Prelude.{◌≡◌, ℕ, ◌<◌, ◌≤◌, Bool, true, false, ◌||◌, List, Some, ◌⊎◌}
use Rattle.causal_name.specs.declared.Det.{Det}
use Rattle.causal_name.specs.Sets.{count_below}
use Rattle.causal_trace.specs.declared.entry.Entry.{Entry}
use Rattle.causal_trace.specs.Past.{is_down, logs, is_stable, det_at, is_delivered}
use Rattle.causal_trace.specs.Dependence.{Reaches, Depends}
use Rattle.causal_protocol.specs.Memory.{SentMessage, Memories}
use Rattle.causal_protocol.specs.MemoryQueries.{knows_holder, knows_stable, HasSent, has_item, item_holder}
-- whether d survives, and that no two survivors fill one slot: so at most one message is named for a delivery
pub use Rattle.causal_trace.specs.Survivors.{survives, SlotsAreSingle}

-- whether p has d in its log or d is in stable storage
abbrev pub logs_or_stable : List Entry → ℕ → Det → Bool
logs_or_stable past p d = logs past p d || is_stable past d

-- whether a process is down or logs d
abbrev pub down_or_holding : List Entry → Det → ℕ → Bool
down_or_holding past d p = is_down past p || logs past p d

-- d is safe: it is stable, or more than f processes are down or log it
abbrev pub IsSafeDet : ℕ → ℕ → List Entry → Det → Type 0
IsSafeDet n f past d = (is_stable past d ≡ true) ⊎ (f < count_below n (down_or_holding past d))

-- q logs d or is down, or d is stable
abbrev pub HoldsOrIsDown : List Entry → Det → ℕ → Type 0
HoldsOrIsDown past d q = (is_stable past d ≡ true) ⊎ (down_or_holding past d q ≡ true)

-- at most f processes are down
abbrev pub FewAreDown : ℕ → ℕ → List Entry → Memories → Type 0
FewAreDown n f past ms = count_below n (is_down past) ≤ f

-- each holder that a process knows logs the determinant or is down, or the determinant is stable
abbrev pub KnownHoldersAreTrue : ℕ → ℕ → List Entry → Memories → Type 0
KnownHoldersAreTrue n f past ms = (p : ℕ) (d : Det) (q : ℕ) → p < n → knows_holder ms p d q ≡ true → HoldsOrIsDown past d q

-- each holder that a message names logs the determinant or is down, or the determinant is stable
abbrev pub CarriedHoldersAreTrue : ℕ → ℕ → List Entry → Memories → Type 0
CarriedHoldersAreTrue n f past ms = (p : ℕ) (k : SentMessage) (d : Det) (q : ℕ) → p < n → HasSent ms p k → item_holder d q k.batch ≡ true → HoldsOrIsDown past d q

-- what a process knows to be stable is stable
abbrev pub MarksAreTrue : ℕ → ℕ → List Entry → Memories → Type 0
MarksAreTrue n f past ms = (p : ℕ) (d : Det) → p < n → knows_stable ms p d ≡ true → is_stable past d ≡ true

-- a process that depends on a delivery logs its determinant, or the determinant is safe
abbrev pub DependentsLog : ℕ → ℕ → List Entry → Memories → Type 0
DependentsLog n f past ms = (i p : ℕ) (d : Det) → p < n → det_at past i ≡ Some d → Depends past i p → (logs past p d ≡ true) ⊎ IsSafeDet n f past d

-- a message carries the determinant of each delivery on which its send depends, or the determinant is safe
abbrev pub MessagesCarry : ℕ → ℕ → List Entry → Memories → Type 0
MessagesCarry n f past ms = (i p : ℕ) (k : SentMessage) (d : Det) → p < n → det_at past i ≡ Some d → HasSent ms p k → Reaches past i k.send → (has_item d k.batch ≡ true) ⊎ IsSafeDet n f past d

-- if a receiver is up, each surviving determinant of it is in its log or stable
abbrev pub ReceiversHaveSurvivors : ℕ → ℕ → List Entry → Memories → Type 0
ReceiversHaveSurvivors n f past ms = (d : Det) → d.dest.0 < n → is_down past d.dest.0 ≡ false → survives n past d ≡ true → logs_or_stable past d.dest.0 d ≡ true

-- what a message carries is in its sender's log or stable
abbrev pub SendersHaveCarried : ℕ → ℕ → List Entry → Memories → Type 0
SendersHaveCarried n f past ms = (p : ℕ) (k : SentMessage) (d : Det) → p < n → HasSent ms p k → has_item d k.batch ≡ true → logs_or_stable past p d ≡ true

-- each surviving determinant is that of a delivery so far
abbrev pub SurvivorsAreDelivered : ℕ → List Entry → Type 0
SurvivorsAreDelivered n past = (d : Det) → survives n past d ≡ true → is_delivered past d ≡ true
