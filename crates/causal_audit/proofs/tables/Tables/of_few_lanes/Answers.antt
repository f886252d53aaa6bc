use Rattle.causal_audit.proofs.Common.{ap, reverse, reverse-reverse, subst, sym, ◌∙◌, instant, last_instant, past_whole, Recording}
use Rattle.causal_audit.specs.Numbers.{ArePositions}
use Rattle.causal_audit.specs.Inside.ByClock.TablesOfRun.{AreTables}
use Rattle.causal_audit.specs.Inside.Index.RunIndexes.{IsMentionIndex}
use Rattle.causal_audit.proofs.tables.Tables.of_few_lanes.Goals as goal

pub invariant_of-result : goal.invariant_of-result
invariant_of-result c =
    let past = c.args.trace.now.recording.past in
    let entries = c.entries-entries in
    let mentions = c.in_ok-mentions.mentions in
    subst (λ (r : Recording). AreTables r c.in_ok-positions.positions.items c.in_ok-clocks.clocks.events mentions) (sym c.in_ok-trace.ensures) (record {
      formed = entries.ensures.formed;
      short = entries.ensures.few;
      numbered = subst (λ p. ArePositions p c.in_ok-positions.positions.items) (past_whole entries.result.now ∙ ap reverse entries.ensures.value ∙ reverse-reverse past) c.in_ok-positions.ensures;
      stands = c.in_ok-clocks.ensures;
      mentioned = subst (λ p. IsMentionIndex past p mentions) (ap (instant past) c.len.ensures.length ∙ last_instant past) c.in_ok-mentions.ensures;
    })
