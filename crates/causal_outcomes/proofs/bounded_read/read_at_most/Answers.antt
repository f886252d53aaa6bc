use Rattle.std.proofs.Common.{arith, ◌≡◌, ◌≤◌, ◌<◌, ◌++◌, length, take, length-append}
use Rattle.std.proofs.KnownBytes.{Consumes-trans}
use Rattle.std.proofs.lemmas.Grind.{common_steps}
use Rattle.causal_outcomes.proofs.ReadLemmas.{read_whole, read_first, read_nothing}
use Rattle.causal_outcomes.proofs.bounded_read.read_at_most.Goals as goal

pub returns-then-count-eq0-clause-text : goal.returns-then-count-eq0-clause-text
returns-then-count-eq0-clause-text g c =
    let i = c.loop-piece.invariant in
    let known = g.I.Read.remaining in
    let some : 0 < length c.read.new.buf = grind (arith, common_steps) in
    read_whole (known c.args.input.now) (known c.read.new.self) c.args.most c.loop-piece.bytes.items
    (read_nothing (known c.args.input.now) (known c.loop-piece.input) (known c.read.new.self) c.loop-piece.bytes.items c.read.new.buf c.in-Ok.count i.0 c.if-count-eq0.true c.in-Ok.ensures.bytes.0)
    (c.in-Ok.ensures.bytes.1 c.if-count-eq0.true some) i.1

pub returns-then-is_err-clause-most : goal.returns-then-is_err-clause-most
returns-then-is_err-clause-most g c =
    let i = c.loop-piece.invariant in
    let piece = take c.in-Ok.count c.read.new.buf in
    let few : length (c.loop-piece.bytes.items ++ piece) ≤ c.args.most = grind (arith, common_steps, length-append) in (
      c.loop-piece.bytes.items ++ piece,
      Consumes-trans (g.I.Read.remaining c.args.input.now) (g.I.Read.remaining c.loop-piece.input) (g.I.Read.remaining c.read.new.self) c.loop-piece.bytes.items piece i.0 c.in-Ok.ensures.bytes.0,
      few,
    )

pub returns-clause-text : goal.returns-clause-text
returns-clause-text g c =
    let i = c.loop-piece.invariant in
    let full : length c.loop-piece.bytes.items ≡ c.args.most = omega (arith, i.1, c.loop-piece-test.false, c.len.ensures) in
    read_first (g.I.Read.remaining c.args.input.now) _ c.args.most c.loop-piece.bytes.items i.0 full
