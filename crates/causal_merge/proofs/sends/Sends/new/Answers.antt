use Rattle.std.proofs.Common.{refl}
use Rattle.std.proofs.lemmas.List.{get_or-replicate}
use Rattle.causal_merge.proofs.sends.Sends.new.Goals as goal

pub returns : goal.returns
returns c = record {
  positions = λ name. rw c.new.ensures.empty refl;
  lanes = λ p below. get_or-replicate 256 p 0 0 below;
}
