-- Re-exports the names that the definitions of this folder use; declares nothing.
pub use Rattle.std.specs.Option.{option_map_or}
pub use Rattle.std.specs.List.{All, AllWithin}
pub use Rattle.std.specs.List.Sorted.{IsNonDecreasing, IsStrictlyIncreasing, IsPartitionPoint, IsNonDecreasingBy}
pub use Rattle.std.specs.Ordering.{nat_cmp}
pub use Rattle.std.specs.FinSet.{FinSet, contains, empty, len, union}
pub use Rattle.causal_name.specs.declared.Pid.{Pid}
pub use Rattle.causal_name.specs.declared.Det.{Det}
pub use Rattle.causal_name.specs.Names.{message_of, same_det, same_message}
pub use Rattle.causal_trace.specs.declared.entry.Entry.{Entry}
pub use Rattle.causal_trace.specs.declared.entry.Entry.TheVariants.{Deliver, Restart, Forget, Crash, Send}
pub use Rattle.causal_trace.specs.Past.{instant, entry_at, message_sent, list_has, lane, restarts, det_at, logs, is_stable, is_down}
pub use Rattle.causal_trace.specs.State.{entries_of, past_at}
pub use Rattle.causal_trace.specs.Rows.{Recording, AreLegalEntries, IsWellFormed}
pub use Rattle.causal_trace.specs.Limits.{max_processes, max_entries, max_restarts}
pub use Rattle.causal_trace.specs.Dependence.{actor, IsEventOf, Reaches, Delivers, Depends}
pub use Rattle.causal_trace.specs.Judgement.{HasOrphan}
