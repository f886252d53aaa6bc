-- Re-exports the names that most proofs use; declares nothing.
pub use Rattle.std.proofs.Common.{ℕ, ◌≡◌, ◌+◌, ◌<◌, ◌≤◌, inl, inr, Bool, true, false, List, [], ◌∷◌, ◌++◌, Option, Some, None, length, refl, sym, subst, arith, min, zero, suc, get_or, ap, ◌∙◌, ◌≢◌, cond, ◌-◌, ◌==◌, drop, take, reverse, length-append, Result, Ok, Err, ◌/◌, Vec, Global, map, vec_len, append_assoc, append-nil, rules}
pub use Rattle.std.specs.Prelude.{◌⊎◌, Contains, if◌then◌else◌, ◌↔◌, ◌&&◌, ◌||◌, not, nat_le, nat_lt, slice_index, slice_set, OnOk, vec_capacity}
pub use Rattle.std.specs.Option.{option_map_or, option_map, option_and_then, is_some}
pub use Rattle.std.specs.List.{All, take-map, drop-map}
pub use Rattle.std.specs.List.Sorted.{IsPermutation, IsNonDecreasing, IsPartitionPoint, IsPartitionedBy, IsStrictlyIncreasing}
pub use Rattle.std.specs.Ordering.{nat_cmp}
pub use Rattle.std.specs.Cmp.{nat_cmp_total, unsigned_tied}
pub use Rattle.std.specs.FinSet.{FinSet, contains, insert, remove, empty, union, difference, len, contains-empty, contains-difference, same_set, nat_cmp-IsAntisymmetric, contains-insert, contains-remove, contains-union, len-insert}
pub use Rattle.std.proofs.Math.ListN.{replicate, get_or-eq_default, get_or-append, set}
pub use Rattle.std.proofs.Math.Seq.{take-add, get_or-append_seam, take-length}
pub use Rattle.std.proofs.lemmas.Bool.{cases_lt, false≢true, eq-eqb, ne_eqb, cond-true, cond-false, or_cases, cases_Bool, eqb-true, both_ways, or_from, or_left, or_parts, false_from_ne_true, true_from_ne_false, le-ltb, and_parts, and_right, or_right, and_from, ltb-true, ltb-false, leb-true, leb-false}
pub use Rattle.std.proofs.lemmas.Bool.Decides.{nat_tests, eqb_tells}
pub use Rattle.std.proofs.lemmas.List.{drop-drop, take_all, length-reverse, get_or_default, get_or-set_same, get_or-set_other, length-set, length-map, get_or-map, take_min, take_more, map-append, nil_from_length, get_or_past, reverse-append, reverse-reverse, get_or_append_left, length-replicate, map-set}
pub use Rattle.std.proofs.lemmas.List.Elements.{Contains-append_cases, Contains-append_left, Contains-append_right, Contains-push, Contains-push_cases, All-cons, All-head, All-nil, All-tail, Contains-get_or, All-map, All-push, All-set, All-get_or, All-weaker, All-drop, All-take}
pub use Rattle.std.proofs.lemmas.List.Sorted.{Contains-permutation, IsNonDecreasingBy-from_sort, IsPermutation-sym, IsNonDecreasingBy-push, IsPartitionPoint-from_clause, IsPartitionedBy-ltb, IsPartitionedBy-leb, All-permutation, IsPermutation-map}
pub use Rattle.causal_name.specs.declared.Pid.{Pid}
pub use Rattle.causal_name.specs.declared.Det.{Det}
pub use Rattle.causal_name.specs.Names.{same_det}
pub use Rattle.causal_name.specs.Sets.{count_below, IsSubsetBelow}
pub use Rattle.causal_holders.proofs.Lemmas.MemberCounts.{count_below-within, count_below-le, members_counted, count_below-none}
pub use Rattle.causal_trace.specs.declared.entry.Entry.{Entry}
pub use Rattle.causal_trace.specs.declared.entry.Entry.TheVariants.{Send, Deliver, Stable, Crash, Restart, Forget}
pub use Rattle.causal_trace.specs.Past.{instant, deliveries_in, det_at, is_down, lane, entry_at, is_stable, logs, list_has, restarts, listed_in, listed_by, is_send_to, is_sent_to, det_of, det_from, message_sent, message_at}
pub use Rattle.causal_trace.specs.State.{past_at, entries_of}
pub use Rattle.causal_trace.specs.Rows.{Recording, AreLegalEntries, first_fault, IsWellFormed}
pub use Rattle.causal_trace.specs.Limits.{max_entries}
pub use Rattle.causal_trace.specs.Dependence.{actor, IsEventOf, DirectlyPrecedes, in_order, by_message, Reaches, itself, onward, Depends, is_delivery_of, Delivers}
pub use Rattle.causal_trace.specs.Judgement.{HasOrphan, IsCrashSet, IsOrphan, IsSafe}
pub use Rattle.causal_trace.proofs.Lemmas.EntryFacts.{accepted_forward, delivers_up, row_fails, delivers_sent, sent_within}
pub use Rattle.causal_trace.proofs.Lemmas.Instants.{det_beyond, past_more, past_length, entry_beyond, past_whole}
pub use Rattle.causal_trace.proofs.Lemmas.AtInstants.{instants_stay, one_more_instant, last_instant, accepted_then, det_then, det_within, instant_length, read_instant}
pub use Rattle.causal_trace.proofs.Lemmas.DependenceSteps.{event_below, reaches_old, depends_restarted, reaches_begins, reaches_newest, ReachesNewest, is_newest, in_lane, through_message, event_lane}
