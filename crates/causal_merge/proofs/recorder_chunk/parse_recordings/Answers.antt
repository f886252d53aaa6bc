use Rattle.std.proofs.Common.{sym}
use Rattle.causal_merge.proofs.ReadLemmas.{one_more, AreParsedLines-append}
use Rattle.causal_merge.proofs.recorder_chunk.parse_recordings.Goals as goal

pub loop-line-preserved : goal.loop-line-preserved
loop-line-preserved c =
    let i = c.loop-line.invariant in
    let content = c.parse_recorder_line-content.ensures in
    rw c.in_ok-push.ensures.items (one_more _ _ _ _ _ i.0 c.in-Some.ensures.line, AreParsedLines-append _ _ i.1 (c.in-Some.ensures.some, content.value, content.sound))

pub returns-then-not-goes_on : goal.returns-then-not-goes_on
returns-then-not-goes_on c = rw c.in_ok-push.ensures.items (sym (one_more _ _ _ _ _ c.loop-line.invariant.0 c.in-Some.ensures.line))

pub invariant_of-result : goal.invariant_of-result
invariant_of-result c =
    let content = c.parse_recorder_line-content.ensures in
    rw c.in_ok-push.ensures.items (AreParsedLines-append _ _ c.loop-line.invariant.1 (c.in-Some.ensures.some, content.value, content.sound))
