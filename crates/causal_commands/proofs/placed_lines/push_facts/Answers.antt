use Rattle.std.proofs.Common.{map}
use Rattle.causal_commands.specs.PlacedLines.{IsPlacedLine}
use Rattle.causal_commands.proofs.PlaceLemmas.{later_fault, next_fault}
use Rattle.causal_answers.proofs.Lemmas.LineLists.{line_added}
use Rattle.causal_commands.proofs.placed_lines.push_facts.Goals as goal

pub loop-fact-preserved : goal.loop-fact-preserved
loop-fact-preserved c = record {
  faultless = later_fault (map (λ line. line.now) c.args.map_lines.now) _ _ _ c.loop-fact-test.true c.loop-fact.invariant.faultless c.in-Ok.ensures.0;
  placed = line_added (IsPlacedLine (map (λ line. line.now) c.args.map_lines.now)) _ _ _ _ _ _ c.loop-fact-test.true c.loop-fact.invariant.placed c.in-Ok.ensures.1;
}

pub returns-in-Err : goal.returns-in-Err
returns-in-Err c = next_fault (map (λ line. line.now) c.args.map_lines.now) _ _ _ c.loop-fact-test.true c.loop-fact.invariant.faultless c.in-Err.error c.in-Err.ensures
