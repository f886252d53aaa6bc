use Rattle.std.proofs.Common.{List, ℕ, length}
use Rattle.causal_script.specs.Inside.Place.{IsBigLine, IsAfter, AreCommands, AreOnLines}
use Rattle.causal_script.proofs.parse.parse_commands.Given as goal

abbrev pub invariant-loop-text : goal.invariant-loop-text
invariant-loop-text l =
    AreCommands l.rest l.commands.items l.left
    × ((text : List ℕ) → IsAfter text 1 l.rest → IsBigLine text l.big → AreOnLines text l.commands.items l.line l.left)

abbrev pub decreases-loop-text : goal.decreases-loop-text
decreases-loop-text l = length l.left
