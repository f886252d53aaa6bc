use Rattle.std.proofs.Common.{◌≡◌, ◌≤◌, ◌+◌, ◌++◌, drop, length}
use Rattle.std.specs.Prelude.{vec_len, vec_capacity}
use Rattle.causal_log.specs.Logs.{dets_of}
use Rattle.causal_memory.proofs.delivery_list.append_dets.Given as goal

abbrev pub invariant-loop-item : goal.invariant-loop-item
invariant-loop-item l = record {
  bound : l.item-index ≤ length l.items;
  items : l.listed.items ++ dets_of (drop l.item-index l.items) ≡ l.fn.listed.items ++ dets_of l.items;
  len : vec_len l.listed ≡ vec_len l.fn.listed + l.item-index;
  capacity : vec_capacity l.listed ≡ vec_capacity l.fn.listed;
}
