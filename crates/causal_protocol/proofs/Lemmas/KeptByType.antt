-- Lemmas for a type that carries the invariant of its run, without a proof term.
use Rattle.std.proofs.Common.{◌≡◌, []}
use Rattle.std.proofs.Props.{props}
use Rattle.std.proofs.Math.Logic.{∥∥₁_map, ∥∥₁_elim}
use Rattle.causal_trace.specs.Judgement.{IsSafeTrace}
use Rattle.causal_trace.specs.Survivors.{IsFollowed}
use Rattle.causal_protocol.specs.declared.request.Request.{Request}
use Rattle.causal_protocol.specs.declared.request.Reply.{Reply}
use Rattle.causal_protocol.specs.Run.{Run}
use Rattle.causal_protocol.specs.Steps.{Steps}
use Rattle.causal_protocol.specs.Invariant.{SlotsAreSingle}
use Rattle.causal_protocol.specs.Runs.{HaveBegunBelow, SatisfiesInvariant}
use Rattle.causal_protocol.proofs.Facts.{safe, single_slots, followed}
use Rattle.causal_protocol.proofs.StepKeeps.{openings_are_runs, steps_keep_runs}

-- the initial state satisfies the invariant
pub start_satisfies : (r : Run) → HaveBegunBelow r.recording.processes r.recording.processes r.recording.past → r.writers ≡ [] → ∥ SatisfiesInvariant r ∥₁
start_satisfies r h none = ∣ openings_are_runs r h none ∣₁

-- a legal step preserves the invariant
pub step_preserves : (old new : Run) (request : Request) (reply : Reply) → Steps old request reply new → ∥ SatisfiesInvariant old ∥₁ → ∥ SatisfiesInvariant new ∥₁
step_preserves old new request reply step kept = ∥∥₁_map kept (steps_keep_runs old new request reply step)

-- the invariant implies that the run is safe
pub invariant_safe : (r : Run) → ∥ SatisfiesInvariant r ∥₁ → IsSafeTrace r.recording r.faults
invariant_safe r kept = ∥∥₁_elim kept (Prim.hlevel props) (λ s. safe _ _ _ _ s)

-- the invariant implies that no two survivors share a slot
pub invariant_single : (r : Run) → ∥ SatisfiesInvariant r ∥₁ → SlotsAreSingle r.recording.processes r.recording.past
invariant_single r kept = ∥∥₁_elim kept (Prim.hlevel props) (λ s. single_slots _ _ _ _ s)

-- the invariant implies that the run follows what survives
pub invariant_followed : (r : Run) → ∥ SatisfiesInvariant r ∥₁ → IsFollowed r.recording
invariant_followed r kept = ∥∥₁_elim kept (Prim.hlevel props) (λ s. followed _ _ _ _ s)
