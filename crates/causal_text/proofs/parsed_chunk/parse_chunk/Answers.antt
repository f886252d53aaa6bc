use Rattle.std.proofs.Common.{arith, refl, sym}
use Rattle.causal_text.specs.declared.parsed_chunk.ChunkLine.{ChunkLine}
use Rattle.causal_text.proofs.ChunkLemmas.{one_more, AreParsed-append}
use Rattle.causal_text.proofs.parsed_chunk.parse_chunk.Goals as goal

pub loop-line-preserved : goal.loop-line-preserved
loop-line-preserved c =
    let l : ChunkLine = record { bytes = c.in-Some.line; parsed = c.parse_line-parsed.result } in
    let i = c.loop-line.invariant in
    let some = c.in-Some.ensures.some in
    rw c.in_ok-push.ensures.items (
      one_more c.args.bytes.now c.in-Some.line.now c.in-Some.after.now c.loop-line.rest.now c.loop-line.lines.items l i.0 some.1 refl,
      AreParsed-append c.loop-line.lines.items l i.1 (some.0, c.parse_line-parsed.ensures),
    )

pub returns-then-not-goes_on : goal.returns-then-not-goes_on
returns-then-not-goes_on c =
    let l : ChunkLine = record { bytes = c.in-Some.line; parsed = c.parse_line-parsed.result } in
    let i = c.loop-line.invariant in
    let some = c.in-Some.ensures.some in
    rw c.in_ok-push.ensures.items (sym (one_more c.args.bytes.now c.in-Some.line.now c.in-Some.after.now c.loop-line.rest.now c.loop-line.lines.items l i.0 some.1 refl))

pub invariant_of-result : goal.invariant_of-result
invariant_of-result c = grind (arith, AreParsed-append)
