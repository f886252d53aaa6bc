use Rattle.std.proofs.Common.{◌≡◌, ◌++◌, ◌∙◌, sym, List, [], ◌∷◌, ℕ, Bool, true, false, length, Err, append-nil}
use Rattle.std.specs.Prelude.{◌==◌}
use Rattle.std.proofs.lemmas.Bool.{eqb-true, false≢true}
use Rattle.std.proofs.lemmas.List.{nil_from_length}
use Rattle.std.proofs.lemmas.Result.{err_from_is_err_and}
use Rattle.causal_line.specs.declared.kind.TextFault.{TextFault}
use Rattle.causal_line.specs.declared.text_refusal.TextRefusal.{TextRefusal}
use Rattle.causal_text.specs.FaultContexts.{HasTrueContextWithin}
use Rattle.causal_text.specs.Inside.Contexts.{HasTrueContextAfter, HasTrueContextAlways}
use Rattle.causal_text.specs.Inside.PartialLines.{IsFaultOfAll}
use Rattle.causal_text.specs.Streams.{IsFaultAfter}
use Rattle.causal_text.specs.Inside.LineByLine.{read_text}
use Rattle.causal_text.proofs.Feeds.{reading-ending, IsReadAt-stands, IsReadAt-more, read_more}
use Rattle.causal_line.proofs.Lemmas.DefinedErrors.{error_is_defined}
use Rattle.causal_text.proofs.Spellings.{Spells-reading, IsFirstFault-reading}
use Rattle.causal_text.proofs.stream.push_piece.Goals as goal

is_nil : (xs : List ℕ) (b : Bool) → b ≡ (length xs == 0) → b ≡ true → xs ≡ []
is_nil xs b e t = nil_from_length xs (eqb-true (length xs) 0 (sym e ∙ t))

fault_after : (most : ℕ) (piece bytes : List ℕ) (f : TextFault) (b : Bool) → b ≡ (length piece == 0) → b ≡ false → IsFaultOfAll most bytes f → IsFaultAfter most piece bytes f
fault_after most [] bytes f b e some h = absurd (false≢true (sym some ∙ e))
fault_after most (x ∷ xs) bytes f b e some h = λ more. IsFirstFault-reading most (bytes ++ more) f (h more)

fault_at_end : (most : ℕ) (piece b : List ℕ) (f : TextFault) → piece ≡ [] → read_text most b ≡ Err f → IsFaultAfter most piece (b ++ piece) f
fault_at_end most piece b f e h = rw (e, append-nil) (IsFirstFault-reading most b f h)

-- the context of an error is true whatever follows a piece that is not empty
context_after : (most : ℕ) (piece bytes : List ℕ) (rejected : TextRefusal) (b : Bool) → b ≡ (length piece == 0) → b ≡ false → HasTrueContextAlways most bytes rejected → HasTrueContextAfter most piece bytes rejected
context_after most [] bytes rejected b e some h = absurd (false≢true (sym some ∙ e))
context_after most (x ∷ xs) bytes rejected b e some h = h

context_at_end : (most : ℕ) (piece b : List ℕ) (rejected : TextRefusal) → piece ≡ [] → HasTrueContextWithin most b rejected → HasTrueContextAfter most piece (b ++ piece) rejected
context_at_end most piece b rejected e h = rw (e, append-nil) h

pub returns-in_err-end-clause-err : goal.returns-in_err-end-clause-err
returns-in_err-end-clause-err c =
    let p = err_from_is_err_and c.from_residual.result c.from_residual.ensures.1 in
    let empty = is_nil c.args.piece.now c.is_empty.result c.is_empty.ensures c.if-is_empty.true in
    rw (p.1, p.2) (λ other b s. fault_at_end c.args.limits.entries c.args.piece.now b _ empty (reading-ending c.args.limits.entries c.args.pieces b s.0 ∙ error_is_defined _ _ _ c.in_err-end.ensures.value other))

pub returns-in_err-feed-clause-err : goal.returns-in_err-feed-clause-err
returns-in_err-feed-clause-err c =
    let p = err_from_is_err_and c.from_residual-in_err-feed.result c.from_residual-in_err-feed.ensures.1 in
    rw (p.1, p.2) (λ other b s. fault_after c.args.limits.entries c.args.piece.now _ _ c.is_empty.result c.is_empty.ensures c.if-is_empty.false (c.in_err-feed.ensures.err other b s.0))

pub returns-in_ok-end-clause-ok : goal.returns-in_ok-end-clause-ok
returns-in_ok-end-clause-ok c = λ b s.
    rw (is_nil c.args.piece.now c.is_empty.result c.is_empty.ensures c.if-is_empty.true, append-nil)
    (Spells-reading c.args.limits.entries b _ (reading-ending c.args.limits.entries c.args.pieces b s.0 ∙ c.in_ok-end.ensures.value))

pub returns-in_ok-feed-clause-ok : goal.returns-in_ok-feed-clause-ok
returns-in_ok-feed-clause-ok c = λ b s. read_more c.args.limits.entries _ (b ++ c.args.piece.now) (c.in_ok-feed.ensures.ok b s.0) c.in_ok-feed.ensures.room

pub returns-in_err-end-clause-memory : goal.returns-in_err-end-clause-memory
returns-in_err-end-clause-memory c =
    let p = err_from_is_err_and c.from_residual.result c.from_residual.ensures.1 in
    rw (p.1, p.2) (λ wants b s. IsReadAt-more c.args.limits.entries b c.args.piece.now _ (IsReadAt-stands c.args.limits.entries c.args.pieces b _ s.0 (c.in_err-end.ensures.memory wants)))

pub returns-in_err-end-clause-before : goal.returns-in_err-end-clause-before
returns-in_err-end-clause-before c =
    let p = err_from_is_err_and c.from_residual.result c.from_residual.ensures.1 in
    let empty = is_nil c.args.piece.now c.is_empty.result c.is_empty.ensures c.if-is_empty.true in
    rw (p.1, p.2) (λ b s. context_at_end c.args.limits.entries c.args.piece.now b _ empty (c.in_err-end.ensures.before b s.0))

pub returns-in_err-feed-clause-before : goal.returns-in_err-feed-clause-before
returns-in_err-feed-clause-before c =
    let p = err_from_is_err_and c.from_residual-in_err-feed.result c.from_residual-in_err-feed.ensures.1 in
    rw (p.1, p.2) (λ b s. context_after c.args.limits.entries c.args.piece.now _ _ c.is_empty.result c.is_empty.ensures c.if-is_empty.false (c.in_err-feed.ensures.before b s.0))
