use Rattle.causal_audit.proofs.Common.{◌≤◌, length, ◌∙◌, arith, instant, logs}
use Rattle.causal_audit.specs.Inside.DeliveryStates.{HasExactly}
use Rattle.causal_audit.proofs.by_clock.Begun.{unheard_before}
use Rattle.causal_audit.proofs.Steps.{entry_then}
use Rattle.causal_audit.proofs.Shown.{shows_none}
use Rattle.causal_audit.proofs.index.DownAfterTurns.{passed_down}
use Rattle.causal_audit.proofs.safety_scan.SafetyScan.start.Goals as goal

pub returns-clause-scan_position : goal.returns-clause-scan_position
returns-clause-scan_position c =
    let look = c.args.self.now in
    let past = look.run.trace.now.recording.past in
    let t = c.first_or_end-t.result in
    let within : t ≤ length past = omega (arith, c.first_or_end-t.ensures.before, c.requires, look.within) in
    let inside : t ≤ look.end = omega (arith, c.first_or_end-t.ensures.before, c.requires) in
    let unheard =
    unheard_before past t look.det t
    (λ v e above below at. look.mentioned v e (entry_then past look.end v (omega (arith, below, inside)) look.within ∙ at) (c.first_or_end-t.ensures.none v above below)) (omega arith) within in
    let walk = passed_down past look.run.transitions.now t c.cursor_at-transitions.result look.run.turned c.cursor_at-transitions.ensures in
    let holders : HasExactly c.none.result (λ p. logs (instant past t) p look.det) = rw c.none.ensures (shows_none (λ p. logs (instant past t) p look.det) unheard.unlogged) in
    assumption (inside, holders, c.down.ensures past t within walk.0 walk.1)
