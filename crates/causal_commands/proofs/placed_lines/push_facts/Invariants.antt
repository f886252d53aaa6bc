use Rattle.std.proofs.Common.{◌≡◌, ◌++◌, ℕ, List, drop, map, take}
use Rattle.causal_commands.specs.PlacedLines.{ArePlacedLines, first_place_fault}
use Rattle.causal_commands.proofs.placed_lines.push_facts.Given as goal

-- the lines of the facts so far were appended, and none of their places has an error
abbrev pub invariant-loop-fact : goal.invariant-loop-fact
invariant-loop-fact l = record {
  faultless : first_place_fault (map (λ line. line.now) l.map_lines) l.facts ≡ first_place_fault (map (λ line. line.now) l.map_lines) (drop l.fact-index l.facts);
  placed : (written : List ℕ) × ArePlacedLines (map (λ line. line.now) l.map_lines) (take l.fact-index l.facts) written × (l.out.items ≡ l.fn.out.items ++ written);
}
