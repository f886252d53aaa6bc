use Rattle.std.proofs.Common.{◌≡◌, ◌++◌, drop}
use Rattle.causal_merge.specs.InputFiles.{AreFilesInOrder}
use Rattle.causal_merge.specs.Maps.{map_from, map_text}
use Rattle.causal_merge.proofs.map_lines.map_text.Given as goal

abbrev pub invariant-loop-position : goal.invariant-loop-position
invariant-loop-position l =
    AreFilesInOrder l.input → l.text.items ++ map_from l.input l.position (drop l.position l.origins) ≡ map_text l.input l.origins
