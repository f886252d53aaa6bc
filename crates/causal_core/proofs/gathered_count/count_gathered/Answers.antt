use Rattle.std.proofs.Common.{arith, take}
use Rattle.std.specs.Option.{option_map}
use Rattle.std.proofs.lemmas.List.{map_more, take_all}
use Rattle.causal_memory.specs.ProcessMemories.{memory_of}
use Rattle.causal_core.specs.Inside.Memories.{memories_in}
use Rattle.causal_core.proofs.RestartCounts.{every_down, count_more, count_gathered}
use Rattle.causal_core.proofs.gathered_count.count_gathered.Goals as goal

pub loop-i-preserved : goal.loop-i-preserved
loop-i-preserved g c =
    grind (
      arith,
      map_more (option_map memory_of) c.args.process_memories.now c.loop-i.i,
      count_more,
      every_down (memories_in (take c.loop-i.i c.args.process_memories.now)) (g.S.Stable.contents c.args.store.now),
    )

pub returns : goal.returns
returns g c = grind (arith, take_all, count_gathered)
