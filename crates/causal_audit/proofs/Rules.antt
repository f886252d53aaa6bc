-- Named lists of lemmas for goals that need no other answer.
use Rattle.causal_audit.proofs.Common.{get_or-eq_default, length-replicate, contains-empty}
use Rattle.std.proofs.lemmas.List.{get_or-replicate}
use Rattle.std.proofs.lemmas.List.Sorted.{IsPermutation-trans, length_permutation}
use Rattle.std.proofs.lemmas.Result.{IfOk-weaker}
use Rattle.causal_audit.proofs.Commas.{join_by-decimal}
use Rattle.causal_audit.proofs.group.GroupReach.{none_in}

pub ruleset of_results = (IfOk-weaker)

pub ruleset of_texts = (IfOk-weaker, join_by-decimal)

pub ruleset of_orders = (IsPermutation-trans, length_permutation)

pub ruleset of_rows = (none_in, get_or-eq_default, get_or-replicate, length-replicate, contains-empty)
