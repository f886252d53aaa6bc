-- Rule sets: the lemmas that the tactic of each source file uses, besides the library's.
use Rattle.std.proofs.lemmas.Bool.{ltb-false}
use Rattle.causal_log.proofs.Lemmas.Slots.{first_least, none_fits}
use Rattle.std.proofs.lemmas.List.{append_assoc, drop_more, length_push}
use Rattle.std.proofs.lemmas.Map.Entries.{length-keys_of}
use Rattle.std.proofs.lemmas.Option.{slice_get_within}
use Rattle.std.proofs.lemmas.Result.{IfOk-weaker}
use Rattle.std.specs.FinMap as fin
use Rattle.causal_log.proofs.EntryLemmas.{own_entries}
use Rattle.causal_log.proofs.PlaceLemmas.{least_first, same_counted, same_learned, same_length, same_members}
use Rattle.causal_log.proofs.KnownLemmas.{joined_nothing, told_both, told_out}
use Rattle.causal_log.proofs.Lemmas.KnowledgeGrows.{absorbed_logged, absorbed_holders, absorbed_stable, absorbed_size, get_learned, size_one, united_logged, united_holders, united_stable, united_size}
use Rattle.causal_log.proofs.Lemmas.Ascents.{map_ascends}
use Rattle.causal_log.proofs.Lemmas.ChosenLemmas.{chosen_ascend}
use Rattle.causal_log.proofs.Lemmas.LogLists.{keys_logged, stable_ascends, stable_listed, unstable_ascends, unstable_listed, stable_and_unstable, unmarked_keys, get_marked, get_unmarked, place_shown, place_found}
use Rattle.causal_log.proofs.Lemmas.MessageItems.{carried_dets, carried_holders, left_out}
use Rattle.causal_log.proofs.Lemmas.StoreSets.{count_list, listed, none_stored, set_push, sorted_list, stored, with_member, has_there, some_of}
use Rattle.causal_log.proofs.MergeLemmas.{apart_carried, before_later, drop_ascends, named_at, next_after, part_and_rest, part_passed}
use Rattle.causal_log.proofs.TableLemmas.{none_distinct}

pub ruleset of_batch = (named_at, next_after, drop_ascends)

pub ruleset of_laws = (absorbed_logged, absorbed_holders, absorbed_stable, absorbed_size, get_learned, size_one, united_logged, united_holders, united_stable, united_size, get_marked, get_unmarked, chosen_ascend, carried_dets, carried_holders, left_out, first_least, none_fits)

pub ruleset of_lists = (keys_logged, stable_ascends, stable_listed, unstable_ascends, unstable_listed, stable_and_unstable, unmarked_keys, map_ascends, place_shown, place_found, listed, stored, none_stored)

pub ruleset of_log = (own_entries, chosen_ascend, least_first, map_ascends, same_members, same_counted, same_length, fin.len-entries, same_learned)

pub ruleset of_changes = (append_assoc, drop_more)

pub ruleset of_merging = (chosen_ascend, append_assoc, part_and_rest, part_passed, told_out, ltb-false, before_later, slice_get_within, apart_carried)

pub ruleset of_store = (sorted_list, count_list, some_of, has_there, with_member, set_push, length-keys_of)

pub ruleset of_table = (IfOk-weaker, own_entries, joined_nothing, drop_more, told_both, length_push, length-keys_of, none_distinct)
