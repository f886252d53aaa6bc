-- The picture of a recording with its verdict.
use Rattle.std.specs.Prelude.{◌≡◌, ◌++◌, ℕ, List, [], fold, map, Option, Some, None}
use Rattle.std.specs.Ordering.{nat_cmp}
use Rattle.std.specs.FinSet.{FinSet, empty, insert}
use Rattle.causal_name.specs.declared.Det.{Det}
use Rattle.causal_trace.specs.declared.entry.Entry.{Entry}
use Rattle.causal_trace.specs.Past.{det_at, instant}
use Rattle.causal_trace.specs.Rows.{Recording}
use Rattle.causal_audit.specs.declared.verdict.Verdict.{Verdict}
use Rattle.causal_audit.specs.declared.verdict.Verdict.TheVariants.{Accept, Exceeded, Orphan}
use Rattle.causal_facts.specs.declared.process_fact.Holding.{Holding}
use Rattle.causal_facts.specs.declared.process_fact.Loss.{Loss}
use Rattle.causal_explain.specs.Chains.{IsShortestChain}
use Rattle.causal_explain.specs.ProcessFacts.{AreHoldings, AreLosses}
use Rattle.causal_picture.specs.declared.focus.Band.{Band}
use Rattle.causal_picture.specs.declared.focus.Focus.{Focus}
use Rattle.causal_picture.specs.declared.focus.Orphan as focus_words
use Rattle.causal_picture.specs.declared.selection.Selection.{Selection}
use Rattle.causal_picture.specs.Pictures.{IsPicture}
use Rattle.causal_picture.specs.Selections.{whole}

-- the set of the processes in a list of holdings
abbrev pub holders_of : List Holding → FinSet nat_cmp
holders_of holdings = fold (λ members (x : Holding). insert members x.process) empty holdings

-- the band of a holder: from the entry since which it holds the determinant, to the instant
abbrev pub band_of : Holding → Band
band_of h = record { process = h.process; from = h.since; to = None }

-- the band of a process that lost the determinant: from the entry since which it last held it, to the loss
abbrev pub lost_band : Loss → Band
lost_band l = record { process = l.process; from = l.since; to = Some l.lost }

-- the bands of lists of holdings and losses
abbrev pub bands_of : List Holding → List Loss → List Band
bands_of holdings losses = map band_of holdings ++ map lost_band losses

-- the selected part of the picture of the recording for f with this instant and crash set, and a chain, an orphan and bands
-- that satisfy the predicates
pub record IsPictureOf (r : Recording) (f : ℕ) (s : Selection) (t : ℕ) (crash : FinSet nat_cmp) (IsChain : List ℕ → Type 0) (IsOrphan : Option focus_words.Orphan → Type 0) (AreBands : List Band → Type 0) (text : List ℕ) : Type 0 where
  pub focus : Focus
  pub at_instant : focus.instant ≡ t
  pub crashed : focus.crash ≡ crash
  pub linked : IsChain focus.chain.now
  pub orphaned : IsOrphan focus.orphan
  pub banded : AreBands focus.bands.now
  pub pictured : IsPicture r f (Some focus) s text

-- the picture's orphan of the delivery at position k, with the processes whose log contains the determinant at an
-- instant
pub record ShowsOrphan (n : ℕ) (past : List Entry) (k orphan : ℕ) (d : Det) (holdings : List Holding) (shown : Option focus_words.Orphan) : Type 0 where
  pub held : AreHoldings n past d holdings
  pub shows : shown ≡ Some (record { process = orphan; delivery = k; holders = holders_of holdings })

-- the picture's orphan, with the holders of the determinant at instant t
abbrev pub IsShownOrphan : Recording → ℕ → ℕ → ℕ → Option focus_words.Orphan → Type 0
IsShownOrphan r t k orphan shown =
    (d : Det) × (det_at r.past k ≡ Some d) × (holdings : List Holding) × ShowsOrphan r.processes (instant r.past t) k orphan d holdings shown

-- the bands are those of the processes that hold determinant d at a state, and of those that lost it
abbrev pub AreBandsOf : ℕ → List Entry → Det → List Band → Type 0
AreBandsOf n past d bands = (holdings : List Holding) × (losses : List Loss) × AreHoldings n past d holdings × AreLosses n past d losses × (bands ≡ bands_of holdings losses)

-- the bands of the processes that hold or lost the determinant of delivery k at instant t
abbrev pub AreShownBands : Recording → ℕ → ℕ → List Band → Type 0
AreShownBands r t k bands = (d : Det) × (det_at r.past k ≡ Some d) × AreBandsOf r.processes (instant r.past t) d bands

-- the selected part of the drawing. Accept: the run alone. Exceeded: the down processes. Orphan: the crash set, a shortest
-- chain to the orphan, the orphan, and the processes that hold or lost the determinant, with how long they held it.
abbrev pub IsSelectedDrawing : Recording → ℕ → Selection → Verdict → List ℕ → Type 0
IsSelectedDrawing r f s Accept text = IsPicture r f None s text
IsSelectedDrawing r f s (Exceeded t down) text = IsPictureOf r f s t down (λ chain. chain ≡ []) (λ orphan. orphan ≡ None) (λ bands. bands ≡ []) text
IsSelectedDrawing r f s (Orphan t k crash orphan) text =
    IsPictureOf r f s t crash (IsShortestChain (instant r.past t) k orphan) (IsShownOrphan r t k orphan) (AreShownBands r t k) text

-- the whole drawing
abbrev pub IsDrawing : Recording → ℕ → Verdict → List ℕ → Type 0
IsDrawing r f verdict text = IsSelectedDrawing r f whole verdict text
