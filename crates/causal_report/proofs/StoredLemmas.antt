-- Whether a determinant is stable, by the entries in their order; and deliveries of an instant.
use Rattle.std.proofs.Common.{◌≡◌, ◌≤◌, ◌∷◌, [], List, ℕ, Bool, true, false, length, take, reverse, refl, sym, ap, ◌∙◌}
use Rattle.std.specs.Prelude.{◌||◌}
use Rattle.std.specs.List.{list_any}
use Rattle.std.proofs.lemmas.List.{reverse-append}
use Rattle.std.proofs.lemmas.List.Folds.{list_any-append}
use Rattle.causal_name.specs.declared.Det.{Det}
use Rattle.causal_trace.specs.declared.entry.Entry.{Entry}
use Rattle.causal_trace.specs.declared.entry.Entry.TheVariants.{Send, Deliver, Stable, Crash, Restart, Forget}
use Rattle.causal_trace.specs.Past.{instant, is_stable}
use Rattle.causal_trace.proofs.Lemmas.AtInstants.{read_instant}
use Rattle.causal_report.specs.Inside.Storing.{stores}

or_turned : (a b : Bool) → (b || (a || false)) ≡ (a || b)
or_turned true true = refl
or_turned true false = refl
or_turned false true = refl
or_turned false false = refl

-- a test of a list in the other order
any_turned : (p : Entry → Bool) (xs : List Entry) → list_any p (reverse xs) ≡ list_any p xs
any_turned p [] = refl
any_turned p (x ∷ xs) =
    ap (list_any p) (reverse-append (x ∷ []) xs) ∙ list_any-append p (reverse xs) (x ∷ []) ∙ ap (λ b. b || (p x || false)) (any_turned p xs) ∙ or_turned (p x) (list_any p xs)

-- a determinant is stable if an entry stores it
stable_by : (past : List Entry) (d : Det) → is_stable past d ≡ list_any (stores d) past
stable_by [] d = refl
stable_by (Send from to ssn ∷ past) d = stable_by past d
stable_by (Deliver to send rsn listed ∷ past) d = stable_by past d
stable_by (Stable det ∷ past) d = ap (λ b. stores d (Stable det) || b) (stable_by past d)
stable_by (Crash who ∷ past) d = stable_by past d
stable_by (Restart who listed ∷ past) d = stable_by past d
stable_by (Forget who listed ∷ past) d = stable_by past d

-- at an instant, if one of the first entries stores it
pub stored_in : (past : List Entry) (t : ℕ) (d : Det) → t ≤ length past → list_any (stores d) (take t (reverse past)) ≡ is_stable (instant past t) d
stored_in past t d within =
    sym (any_turned (stores d) (take t (reverse past))) ∙ sym (stable_by (reverse (take t (reverse past))) d) ∙ ap (λ x. is_stable x d) (read_instant past t within)
