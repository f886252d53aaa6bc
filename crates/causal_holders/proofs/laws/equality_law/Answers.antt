use Rattle.std.proofs.Common.{◌≡◌, true, subst}
use Rattle.causal_holders.specs.SameMembers.{have_same_members, have_same_members-itself, same_members_equal}
use Rattle.causal_holders.proofs.laws.equality_law.Goals as goal

pub returns : goal.returns
returns c s t = (same_members_equal s t, λ same. subst (λ x. have_same_members s x ≡ true) same (have_same_members-itself s))
