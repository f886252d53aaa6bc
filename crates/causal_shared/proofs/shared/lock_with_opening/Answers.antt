use Rattle.std.proofs.Common.{◌≡◌, ◌∙◌, ap, sym}
use Rattle.causal_shared.specs.History.{LockedState}
use Rattle.causal_core.specs.CoreView.{core_run}
use Rattle.causal_shared.specs.Locked.{locked_state, new_locked_state}
use Rattle.causal_shared.proofs.Answered.{holds, both_hold}
use Rattle.causal_shared.proofs.shared.lock_with_opening.Goals as goal

pub returns-clause-locked : goal.returns-clause-locked
returns-clause-locked g c =
    both_hold c.both_ok.result _ _ (λ r. locked_state r.0 ≡ new_locked_state (core_run c.args.core) c.args.k)
    (λ r locked copy. holds c.new-locked.result r.0 (λ l. locked_state l ≡ new_locked_state (core_run c.args.core) c.args.k) locked c.new-locked.ensures.state)
    c.both_ok.ensures.first c.both_ok.ensures.second

pub returns-clause-opening : goal.returns-clause-opening
returns-clause-opening g c =
    both_hold c.both_ok.result _ _ (λ r. r.1.recording ≡ (locked_state r.0).run.recording)
    (λ r locked copy.
    let is = holds c.new-locked.result r.0 (λ l. locked_state l ≡ new_locked_state (core_run c.args.core) c.args.k) locked c.new-locked.ensures.state in
    let copied = holds c.try_clone-opening.result r.1 (λ t. t.recording ≡ c.trace.result.now.recording) copy c.try_clone-opening.ensures in
    copied ∙ c.trace.ensures.recording ∙ ap (λ (l : LockedState). l.run.recording) (sym is))
    c.both_ok.ensures.first c.both_ok.ensures.second
