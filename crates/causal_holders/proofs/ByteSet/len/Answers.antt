use Rattle.std.proofs.Common.{ap, subst, ◌∙◌}
use Rattle.std.specs.FinSet as set
use Rattle.causal_holders.specs.Members.{AreProcesses}
use Rattle.causal_holders.proofs.Words.{len-shown, shown_below}
use Rattle.causal_holders.proofs.ByteSet.len.Goals as goal

pub returns : goal.returns
returns c = record {
  counted = len-shown c.self.inside.words c.self.invariant ∙ ap (λ s. set.len s) c.self.view_is;
  members = subst AreProcesses c.self.view_is (shown_below c.self.inside.words);
}
