use Rattle.std.proofs.Common.{◌≡◌, ◌+◌, ◌≤◌, length, map, take, is_some, true}
use Rattle.std.specs.FinMap as fin
use Rattle.std.specs.List.{list_all}
use Rattle.causal_protocol.specs.Memory.{present_at}
use Rattle.causal_protocol.specs.Run.{memories_of}
use Rattle.causal_core.specs.Inside.Memories.{log_at}
use Rattle.causal_core.specs.Inside.Stables.{IsStored, run_after_flush}
use Rattle.causal_core.proofs.flush.flush_all.Given as goal

abbrev pub invariant-loop-det : goal.invariant-loop-det
invariant-loop-det g l = record {
  run : l.run_data.run ≡ run_after_flush l.fn.run_data.run l.p (take l.det-index l.dets);
  done : l.done ≡ l.det-index;
  up : is_some (present_at (memories_of l.run_data.run) l.p.0) ≡ true;
  logged : list_all (λ d. is_some (fin.get (log_at (memories_of l.run_data.run) l.p.0) d)) l.dets ≡ true;
  filled : map is_some (memories_of l.run_data.run) ≡ map is_some (memories_of l.fn.run_data.run);
  long : length l.run_data.run.recording.past ≡ length l.fn.run_data.run.recording.past + l.det-index;
  room : length l.dets ≤ l.run_data.stable_capacity + l.det-index;
  stored : IsStored (g.S.Stable.contents l.store) l.run_data.run.recording.past;
  faults : g.S.Stable.faults l.fn.store ≤ g.S.Stable.faults l.store;
  bodies : l.run_data.bodies ≡ l.fn.run_data.bodies;
}
