-- One step of a determinant's scan.
use Rattle.causal_audit.proofs.Common.{ℕ, ◌≡◌, ◌+◌, ◌<◌, ◌≤◌, inl, true, List, ◌∷◌, length, get_or, Some, sym, ap, subst, ◌∙◌, arith, ◌==◌, Contains, nat_cmp, FinSet, difference, union, Entry, instant, entry_at, list_has, is_down, is_stable, logs, AreLegalEntries, entries_of}
use Rattle.causal_audit.specs.declared.safety_scan.down_and_holders.DownAndHolders.{DownAndHolders}
use Rattle.causal_audit.specs.declared.index.cursor.Cursor.{Cursor}
use Rattle.causal_audit.specs.declared.safety_scan.SafetyScan.{SafetyScan}
use Rattle.causal_audit.specs.declared.safety_scan.ScanPosition.{ScanPosition}
use Rattle.causal_audit.specs.declared.safety_scan.det_safety.DetSafety.TheVariants.{Safe}
use Rattle.causal_audit.specs.declared.safety_scan.det_safety.SafetyInterval.{SafetyInterval}
use Rattle.causal_audit.specs.declared.index.transitions.TransitionCursor.{TransitionCursor}
use Rattle.causal_audit.specs.Inside.PositionLists.{HasNoneUntil, IsCursor}
use Rattle.causal_audit.specs.Inside.Index.RunIndexes.{IsTransitionIndex}
use Rattle.causal_audit.specs.Inside.SafetyScan.Scans.{IsIntervalPassed, IsKeptUnmentioned, IsKeptUntil, IsScanPosition, IsAtRiskAt, IsSafetyOf}
use Rattle.causal_audit.specs.Inside.Index.TransitionCursors.{IsCursorAt}
use Rattle.causal_audit.specs.Inside.DeliveryStates.{HasExactly, ShowsDownAfter, ShowsHoldersAfter}
use Rattle.causal_audit.specs.Inside.SafetyScan.Persistence.{MentionsNone}
use Rattle.causal_trace.specs.Past.{mentioned_dets}
use Rattle.causal_audit.proofs.safety_scan.CoverStays.{gone_lasts, holds_until, kept_still, mentioned_next, none_later, over_then}
use Rattle.causal_audit.proofs.index.Cursors.{cursor_later}
use Rattle.causal_audit.proofs.Steps.{entry_read, entry_then}
use Rattle.causal_audit.proofs.index.DownAfterTurns.{passed_down}
use Rattle.causal_trace.proofs.Lemmas.AtInstants.{next_state}

-- up to the next change, which is the next mention or a transition before it, no entry mentions the determinant and the
-- scan's position is kept
module _ (look : SafetyScan) (scan_position : ScanPosition) (mention change : ℕ)
    (formed : AreLegalEntries look.run.trace.now.recording.processes look.run.trace.now.recording.past) (at : IsScanPosition look scan_position) (early : (scan_position.t ≤ mention) × (mention ≤ look.end)) (bounds : (scan_position.t ≤ change) × (change ≤ mention))
    (none_before : (list : List ℕ) → IsCursor list scan_position.t scan_position.ahead → HasNoneUntil list scan_position.t mention) (kept : IsKeptUnmentioned look scan_position change) where
  abbrev pub past : List Entry
  past = look.run.trace.now.recording.past

  abbrev pub n : ℕ
  n = look.run.trace.now.recording.processes

  none : HasNoneUntil look.mentions.now scan_position.t mention
  none = none_before look.mentions.now at.mentions

  within : change ≤ length past
  within = omega (arith, bounds.1, early.1, look.within)

  unmentioned : MentionsNone past look.det scan_position.t change
  unmentioned v e above below there =
      look.mentioned v e (entry_then past look.end v (omega (arith, below, bounds.1, early.1)) look.within ∙ there) (none v above (omega (arith, below, bounds.1)))

  kept_until : IsKeptUntil look scan_position change
  kept_until = kept formed unmentioned

  -- the interval up to the next change is passed
  pub passed_to : (s : SafetyInterval) (next : ℕ) → s.first ≡ scan_position.t → s.last ≡ change → s.safety ≡ scan_position.safety → change < next → next ≤ look.end + 1
      → ((u : ℕ) → change < u → u < next → IsAtRiskAt n look.limit past look.det u → ⊥) → IsIntervalPassed look scan_position.t next s
  passed_to s next first last same ahead bound after = grind (arith, kept_until)

  -- ---- the entry of the change

  module _ (es : List Entry) (read : es ≡ entries_of look.run.trace.now.recording) (e : Entry) (value : e ≡ get_or es change e) (apart : change ≡ look.end → ⊥) where
    below : change < look.end
    below = omega (arith, bounds.1, early.1, apart)

    there : entry_at past change ≡ Some e
    there = entry_read look.run.trace.now.recording es read change e (omega (arith, below, look.within)) value

    next : instant past (change + 1) ≡ e ∷ instant past change
    next = next_state look.run.trace.now.recording es read change e (omega (arith, below, look.within)) value

    -- if the entry writes the determinant to stable storage, the determinant is not at risk any more
    pub written : ((p : List Entry) → is_stable (e ∷ p) look.det ≡ true) → (u : ℕ) → change < u → u < look.end + 1 → IsAtRiskAt n look.limit past look.det u → ⊥
    written writes u above under =
        λ thin.
        over_then n look.limit past look.det (change + 1) u (inl (ap (λ x. is_stable x look.det) next ∙ writes (instant past change))) (omega (arith, above)) (omega (arith, under, look.within)) thin.unstable thin.few

    module _ (ahead : Cursor) (cursor : (list : List ℕ) → IsCursor list scan_position.t scan_position.ahead → IsCursor list scan_position.t ahead) (found : (list : List ℕ) → IsCursor list scan_position.t scan_position.ahead → mention < look.end → Contains list mention)
        (transitions : TransitionCursor) (passed : IsCursorAt look.run.transitions.now change transitions) (fell : FinSet nat_cmp)
        (falls : (entries : List Entry) (t : ℕ) → t ≤ length entries → IsTransitionIndex entries transitions.transitions.now → IsCursorAt transitions.transitions.now t transitions → HasExactly fell (λ p. is_down (instant entries t) p)) (down_and_holders : DownAndHolders) (down_after : ShowsDownAfter e fell down_and_holders.down)
        (holders_after : ShowsHoldersAfter ((mention == change) ≡ list_has (mentioned_dets e) look.det) e look.det (difference scan_position.down_and_holders.holders fell) down_and_holders.holders) where
      fallen : HasExactly fell (λ p. is_down (instant past change) p)
      fallen = let walk = passed_down past look.run.transitions.now change transitions look.run.turned passed in falls past change within walk.0 walk.1

      down_then : HasExactly down_and_holders.down (λ p. is_down (instant past (change + 1)) p)
      down_then = subst (λ x. HasExactly down_and_holders.down (λ p. is_down x p)) (sym next) (down_after (instant past change) fallen)

      told : (mention == change) ≡ list_has (mentioned_dets e) look.det
      told =
          mentioned_next (instant past look.end) look.det look.mentions.now look.mentioned look.only scan_position.t mention none change bounds.0 bounds.1
          (λ same. subst (Contains look.mentions.now) same (found look.mentions.now at.mentions (omega (arith, same, below)))) e (entry_then past look.end change below look.within ∙ there)

      holders_then : HasExactly down_and_holders.holders (λ p. logs (instant past (change + 1)) p look.det)
      holders_then =
          subst (λ x. HasExactly down_and_holders.holders (λ p. logs x p look.det)) (sym next)
          (holders_after (instant past change) told
          (holds_until n past formed look.det scan_position.t change within unmentioned scan_position.down_and_holders.holders at.holders kept_until.unrestarted change bounds.0 (omega arith) fell fallen))

      -- the scan continues after it
      pub onward_stop : (new : ScanPosition) → new.t ≡ change + 1 → new.ahead ≡ ahead → new.transitions ≡ transitions → new.down_and_holders ≡ down_and_holders → IsSafetyOf new.safety look.limit look.det.dest.0 look.reached (union down_and_holders.down down_and_holders.holders) → IsScanPosition look new
      onward_stop new t_is ahead_is turns_is cover_is stands = grind (arith, within, below, cursor_later, down_then, holders_then)

      -- it ends if enough processes are down or hold the determinant and none is released later
      pub over : look.run.transitions.now.no_release_from ≤ change + 1 → IsSafetyOf Safe look.limit look.det.dest.0 look.reached (union down_and_holders.down down_and_holders.holders) → (u : ℕ) → change < u → u < look.end + 1 → IsAtRiskAt n look.limit past look.det u → ⊥
      over lasting keep u above under =
          kept_still n look.limit past formed look.det (change + 1) u look.reached down_and_holders.down down_and_holders.holders look.reaching down_then holders_then keep
          (gone_lasts past look.det (change + 1) u (none_later past look.run.transitions.now.no_release_from (change + 1) lasting look.run.turned.lasting) (omega (arith, above)) (omega (arith, under, look.within)))
