use Rattle.std.proofs.Common.{◌≡◌, ◌<◌, ◌≤◌, ◌++◌, List, ℕ, Option, length, take, arith, refl, sym, ap, ◌∙◌}
use Rattle.std.specs.Io.KnownBytes.{IsAtEnd}
use Rattle.causal_text.specs.declared.stream.State.TheVariants as state
use Rattle.causal_text.specs.Streams.{HasRead, PieceEndsAt}
use Rattle.causal_text.proofs.stream.TraceReader.read_piece.Goals as goal
use Rattle.causal_text.proofs.stream.TraceReader.read_piece.Goals.{then-n-eq0, else-n-eq0}

-- a piece is empty only at the end
piece_ends : (n : ℕ) (buffer : List ℕ) (left : Option (List ℕ)) → n ≤ length buffer → (n ≡ 0 → 0 < length buffer → IsAtEnd left) → 0 < length buffer → PieceEndsAt (take n buffer) left
piece_ends n buffer left few ends some = grind arith

pub returns-after-n-eq0-clause-ok : goal.returns-after-n-eq0-clause-ok
returns-after-n-eq0-clause-ok g c =
    let piece = take c.in-Ok.n c.read.new.buf in
    let bound = c.in-Ok.ensures.bound in
    let ok : (b : List ℕ) → HasRead (state.Reading c.args.pieces) b → HasRead c.in-Ok-push_piece.state (b ++ piece) = c.in-Ok-push_piece.ensures.ok in
    elim c.if-n-eq0.branch [
      | then-n-eq0 w ↦ rw (← c.self.view_is, w.result-is) (piece, c.in-Ok.ensures.bytes.0, rw w.if-n-eq0.true refl, ok)
      | else-n-eq0 w ↦
          let some = w.if-n-eq0.false in
          rw (← c.self.view_is, w.result-is) (piece, c.in-Ok.ensures.bytes.0, (omega (arith, bound.1, some), omega (arith, bound.0, bound.1)), ok)
    ]

pub returns-after-n-eq0-clause-follows : goal.returns-after-n-eq0-clause-follows
returns-after-n-eq0-clause-follows g c =
    let long = c.in-Ok.ensures.bound.1 in
    elim c.if-n-eq0.branch [
      | then-n-eq0 w ↦ rw w.result-is (c.in-Ok-push_piece.ensures.ended (sym long ∙ w.if-n-eq0.true))
      | else-n-eq0 w ↦ rw w.result-is (c.in-Ok-push_piece.ensures.more (let some = w.if-n-eq0.false in omega (arith, long, some)))
    ]

pub returns-after-n-eq0-clause-end : goal.returns-after-n-eq0-clause-end
returns-after-n-eq0-clause-end g c =
    elim c.if-n-eq0.branch [
      | then-n-eq0 w ↦ rw w.result-is (c.in-Ok.ensures.bytes.1 w.if-n-eq0.true (omega arith))
      | else-n-eq0 w ↦ rw w.result-is tt
    ]

pub returns-in_default : goal.returns-in_default
returns-in_default g c = record { ok = tt; follows = tt; end = tt; text = tt; memory = tt; failed = ap (λ r. r.state) c.self.view_is ∙ c.requires }

pub returns-in-Err-clause-text : goal.returns-in-Err-clause-text
returns-in-Err-clause-text g c = rw c.into_fault.ensures (λ other. (
  take c.in-Ok.n c.read.new.buf,
  rw (← c.self.view_is) c.in-Ok.ensures.bytes.0,
  piece_ends c.in-Ok.n c.read.new.buf _ c.in-Ok.ensures.bound.0 c.in-Ok.ensures.bytes.1 (omega arith),
  c.in-Err.ensures.err other,
))

pub returns-in-Err-clause-memory : goal.returns-in-Err-clause-memory
returns-in-Err-clause-memory g c =
    rw c.into_fault.ensures (λ wants. (take c.in-Ok.n c.read.new.buf, rw (← c.self.view_is) c.in-Ok.ensures.bytes.0, c.in-Err.ensures.memory wants))
