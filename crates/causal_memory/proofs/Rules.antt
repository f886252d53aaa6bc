-- Lemmas that the tactic uses at the goals of a function, in addition to the library's.
use Rattle.std.proofs.Common.{append_assoc, append-nil}
use Rattle.std.proofs.lemmas.List.{take_all, drop_more, drop_all, length-drop}
use Rattle.causal_memory.proofs.Lemmas.ListInsert.{own_alone, own_kept, own_put}

pub ruleset of_listing = (drop_more, append_assoc, drop_all, append-nil)

pub ruleset of_listed = (own_alone, own_kept, length-drop, take_all, append_assoc, own_put)
