-- The marks of the events of a kind, with one more entry.
use Rattle.std.proofs.Common.{ℕ, ◌≡◌, ◌<◌, ◌≤◌, Bool, false, List, [], ◌∷◌, ◌++◌, length, Option, arith, reverse, get_or, Some, refl, ◌∙◌}
use Rattle.std.specs.Prelude.{MatchOption}
use Rattle.std.specs.List.{find}
use Rattle.std.specs.Option.{is_some}
use Rattle.std.proofs.lemmas.Bool.{cases_lt}
use Rattle.std.proofs.lemmas.Bool.Decides.{eqb_tells}
use Rattle.std.proofs.lemmas.List.{length-append, get_or_past}
use Rattle.std.proofs.Math.ListN.{get_or-append}
use Rattle.std.proofs.Math.Seq.{get_or-append_seam}
use Rattle.causal_name.specs.declared.Det.{Det}
use Rattle.causal_trace.specs.declared.entry.Entry.{Entry}
use Rattle.causal_trace.proofs.Lemmas.AtInstants.{instants_stay, one_more_instant, last_instant}
use Rattle.causal_trace.proofs.Lemmas.Instants.{entry_beyond, entry_of, instant_past}
use Rattle.causal_explain.specs.declared.marks.EventKind.{EventKind}
use Rattle.causal_explain.specs.declared.marks.EventKind.TheVariants.{DeliveryWithoutDet}
use Rattle.causal_explain.specs.Chains.{first_lacking}
use Rattle.causal_explain.specs.Underway.{is_sent_by_holder, arrives_late, is_late}
use Rattle.causal_explain.specs.Inside.Marks.{AreMarks, first_in, is_of_kind, is_of_kind_at}
use Rattle.causal_explain.specs.ProcessFacts.{HoldsSince}
use Rattle.causal_explain.proofs.StandingLemmas.{holds_now}
use Rattle.std.proofs.lemmas.Option.{slice_get_read}
use Rattle.causal_trace.specs.Past.{entry_at}
use Rattle.causal_trace.specs.State.{past_at}

-- a send changes no log
sent_after : (past : List Entry) (d : Det) (e : Entry) → is_sent_by_holder past d e ≡ is_sent_by_holder (e ∷ past) d e
sent_after past d e = grind arith

module _ (e : Entry) (past : List Entry) (d : Det) where
  -- the newest position depends on the newest state
  newest : (kind : EventKind) → is_of_kind_at kind (e ∷ past) d (length past) ≡ is_of_kind kind (e ∷ past) d e
  newest kind = grind (arith, one_more_instant e past, instants_stay e past (length past), last_instant past, sent_after past d e)

  -- an earlier position is unchanged
  still : (kind : EventKind) (k : ℕ) → k < length past → is_of_kind_at kind (e ∷ past) d k ≡ is_of_kind_at kind past d k
  still kind k below = grind (arith, instants_stay e past, eqb_tells k (length past))

  beyond : (kind : EventKind) (k : ℕ) → length (e ∷ past) ≤ k → is_of_kind_at kind (e ∷ past) d k ≡ false
  beyond kind k above = grind (arith, entry_beyond (e ∷ past) k above)

  -- the marks with one more
  pub marks_more : (kind : EventKind) (marks : List Bool) (b : Bool) → AreMarks kind past d marks → b ≡ is_of_kind kind (e ∷ past) d e → AreMarks kind (e ∷ past) d (marks ++ b ∷ [])
  marks_more kind marks b h is =
      grind (
        arith,
        length-append marks (b ∷ []),
        eqb_tells,
        get_or-append_seam marks b [] false,
        newest kind,
        cases_lt,
        get_or-append,
        still kind,
        get_or_past,
        beyond kind,
      )

-- no marks before the first entry
pub marks_none : (kind : EventKind) (d : Det) → AreMarks kind [] d []
marks_none kind d = grind arith

-- the first marked position is the first with a delivery after which the log lacks the determinant
pub first_marked : (past : List Entry) (d : Det) (marks : List Bool) (chain : List ℕ) → AreMarks DeliveryWithoutDet past d marks → first_in marks chain ≡ first_lacking past d chain
first_marked past d marks chain h = λ i. find (λ k. h.each k i) chain

-- a test that may hold since a position holds exactly if a position is given
pub holds_told : (past : List Entry) (test : List Entry → Bool) (found : Option ℕ) (some : Bool) → MatchOption found (test past ≡ false) (HoldsSince past test)
    → is_some found ≡ some → some ≡ test past
holds_told past test found some h is = grind (arith, holds_now)

-- ---- deliveries that arrive late

-- whether the entry at a position arrives late, by the entries before the instant
pub late_at : (entries : List Entry) (t k : ℕ) (d : Det) (j : ℕ) (e : Entry) (b : Bool) → t ≤ length entries → j < length entries → e ≡ get_or entries j e
    → b ≡ arrives_late (past_at entries t) k d e → b ≡ is_late (reverse entries) t k d j
late_at entries t k d j e b within below is told =
    let there : entry_at (reverse entries) j ≡ Some e = entry_of entries j ∙ slice_get_read entries (length entries) j e refl below is in
    rw (instant_past entries t within, there) told
