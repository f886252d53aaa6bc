use Rattle.causal_holders.proofs.Lemmas.MemberCounts.{members_counted, union_members, is_subset_members}
use Rattle.causal_holders.proofs.laws.counting_law.Goals as goal

pub returns : goal.returns
returns c = record { counted = members_counted; united = union_members; within = is_subset_members }
