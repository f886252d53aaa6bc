use Rattle.std.proofs.Common.{◌≡◌, reverse, sym, ◌∙◌, arith}
use Rattle.std.proofs.lemmas.Bool.{cases_lt}
use Rattle.std.proofs.lemmas.Bool.Decides.{eqb_tells}
use Rattle.std.proofs.lemmas.List.{length-reverse}
use Rattle.causal_trace.specs.State.{past_at}
use Rattle.causal_explain.specs.Underway.{is_late}
use Rattle.causal_trace.proofs.Lemmas.Instants.{entry_beyond}
use Rattle.causal_explain.proofs.MarkLemmas.{late_at}
use Rattle.causal_explain.proofs.underway.first_late.Goals as goal
use Rattle.causal_explain.proofs.underway.first_late.Goals.{After-arrives_late}

-- whether the entry at position j arrives late
here : (c : After-arrives_late) → c.arrives_late.result ≡ is_late (reverse c.args.entries.now) c.args.end c.args.before c.args.det c.loop-j.j
here c =
    let told = c.arrives_late.ensures (past_at c.args.entries.now c.args.end) (rw c.as_slice.ensures.value c.in_ok-in_transit.ensures) c.holder_validity-standings.ensures in
    late_at c.args.entries.now c.args.end c.args.before c.args.det c.loop-j.j c.index-entries-j.result c.arrives_late.result c.requires.within (omega (arith, c.loop-j-test.true)) c.index-entries-j.is told

pub loop-j-preserved : goal.loop-j-preserved
loop-j-preserved c i after below = grind (arith, eqb_tells i c.loop-j.j, here (goal.at.loop-j-preserved c).After-arrives_late, c.loop-j.invariant i after)

pub returns-then-arrives_late : goal.returns-then-arrives_late
returns-then-arrives_late c = record { after = omega arith; late = sym (here (goal.at.returns-then-arrives_late c).After-arrives_late) ∙ c.if-arrives_late.true; first = c.loop-j.invariant }

pub returns : goal.returns
returns c j after = grind (arith, cases_lt j c.loop-j.j, c.loop-j.invariant j after, entry_beyond (reverse c.args.entries.now) j, length-reverse c.args.entries.now)
