use Rattle.std.proofs.Common.{◌≡◌, ◌+◌, take, sym, arith}
use Rattle.std.proofs.lemmas.Grind.{common_steps}
use Rattle.causal_merge.specs.TornLines.{byte_count}
use Rattle.causal_merge.proofs.TornLemmas.{closes_at}
use Rattle.causal_merge.proofs.torn_lines.closes.Goals as goal

pub returns-then-opening-closing : goal.returns-then-opening-closing
returns-then-opening-closing c =
    let opening : c.if-byte-eq91.opening ≡ byte_count 91 (take (c.loop-byte.byte-index + 1) c.args.bytes.now) = grind (arith, common_steps) in
    let closing : c.if-byte-eq93.closing ≡ byte_count 93 (take (c.loop-byte.byte-index + 1) c.args.bytes.now) = grind (arith, common_steps) in
    sym (closes_at c.loop-byte.byte-index c.if-byte-eq91.opening c.if-byte-eq93.closing c.args.bytes.now opening closing c.if-opening-closing.true c.loop-byte-test.true)
