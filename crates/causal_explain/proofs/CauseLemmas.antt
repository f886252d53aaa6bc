-- What the entry does by which an instant fails.
use Rattle.std.proofs.Common.{ℕ, ◌≡◌, ◌-◌, ◌<◌, ◌≤◌, inl, inr, ⊎_elim, Bool, true, false, List, [], ◌∷◌, length, Option, Some, None, refl, sym, subst, ◌∙◌, arith}
use Rattle.std.specs.Prelude.{◌==◌, not, MatchOption}
use Rattle.std.proofs.lemmas.Bool.{false≢true, or_from, or_parts, and_parts, false_from_ne_true, true_from_ne_false, cond-true, cond-false, eq-eqb}
use Rattle.std.proofs.lemmas.List.{drop-drop}
use Rattle.std.proofs.lemmas.Bool.Decides.{eqb_tells}
use Rattle.causal_name.specs.declared.Pid.{Pid}
use Rattle.causal_name.specs.declared.Det.{Det}
use Rattle.causal_name.specs.Sets.{any_below, count_below}
use Rattle.causal_holders.proofs.Lemmas.MemberCounts.{any_below-from, count_below-none, count_below-within}
use Rattle.causal_trace.specs.declared.entry.Entry.{Entry}
use Rattle.causal_trace.specs.declared.entry.Entry.TheVariants.{Deliver, Crash, Restart, Forget}
use Rattle.causal_trace.specs.Dependence.{AreForward, actor, Depends}
use Rattle.causal_trace.specs.Judgement.{IsCrashSet, IsOrphan, HasOrphan, IsSafe}
use Rattle.causal_trace.specs.Past.{instant, is_down, is_stable, lane, logs}
use Rattle.causal_trace.specs.Rows.{AreLegalEntries, Recording}
use Rattle.causal_trace.proofs.Lemmas.EntryFacts.{accepted_forward}
use Rattle.causal_trace.proofs.Lemmas.AtInstants.{accepted_then, instant_length, delivered_in}
use Rattle.causal_trace.proofs.Lemmas.Instants.{det_more}
use Rattle.causal_trace.proofs.Lemmas.DependenceSteps.{depends_old, depends_restarted, reaches_begins}
use Rattle.causal_audit.specs.Laws.{down_or_holding}
use Rattle.causal_audit.specs.NewOrphans.{MayGetOrphan, NewOrphansLaw, OneNewOrphan}
use Rattle.causal_audit.specs.Verdicts.{IsVerdict}
use Rattle.causal_audit.specs.declared.verdict.Verdict.TheVariants.{Exceeded, Orphan}
use Rattle.causal_explain.specs.Causes.{MakesExcess, MakesOrphan, IsCauseOf}
use Rattle.causal_explain.specs.Inside.EntryCauses.{newest_cause}

-- ---- the state before the newest entry

previous : (past : List Entry) (t : ℕ) (e : Entry) (older : List Entry) → t ≤ length past → instant past t ≡ e ∷ older → (length older < t) × (instant past (length older) ≡ older)
previous past t e older within is = grind (arith, instant_length past t within, drop-drop 1 (length past - t) past)

-- ---- what holds before an entry

-- an orphan is also one under the crash set of the down processes and the holders
gone_orphan : (n : ℕ) (s : List Entry) (k p : ℕ) (crash : ℕ → Bool) → (o : IsOrphan n s k crash p) → IsOrphan n s k (down_or_holding s o.det) p
gone_orphan n s k p crash o = grind (arith, or_from (is_down s p) (logs s p o.det) o.depends.up (o.lost p o.process o.survives), or_parts)

module _ (n f : ℕ) (past : List Entry) (k p : ℕ) (crash : ℕ → Bool) (safe : IsSafe n f past) where
  -- an entry that is no event leaves no orphan whose determinant each process outside a crash set lacked before
  no_older : (e : Entry) → AreForward (e ∷ past) → actor e ≡ None → is_down past p ≡ false → lane (e ∷ past) p ≡ lane past p → (o : IsOrphan n (e ∷ past) k crash p) → is_stable past o.det ≡ false
      → (now : ℕ → Bool) → IsCrashSet n f past now → now p ≡ false → ((q : ℕ) → q < n → now q ≡ false → logs past q o.det ≡ false) → ⊥
  no_older e forward none up same o unstable now may survives lost =
      let depends : Depends past k p =
      elim (depends_old e past k p forward up same o.depends) [ inl old ↦ old | inr new ↦ absurd (let x : None ≡ Some p = sym none ∙ new.0 in cc) ] in
      let delivered = sym (det_more e past k (reaches_begins past k depends.event depends.reached)) ∙ o.delivered in
      safe.no_orphan k (record {
        crash = now;
        orphan = p;
        may_crash = may;
        is_orphan = record { process = o.process; depends = depends; survives = survives; det = o.det; delivered = delivered; unstable = unstable; lost = lost };
      })

  -- some process holds the determinant that a restart does not list
  gathers : (who : Pid) (listed : List Det) → AreLegalEntries n (Restart who listed ∷ past) → (o : IsOrphan n (Restart who listed ∷ past) k crash p) → any_below n (λ q. logs past q o.det) ≡ true
  gathers who listed formed o = true_from_ne_false _ (λ none.
      let e = Restart who listed in
      let other : (who.0 == p) ≡ false = false_from_ne_true (who.0 == p) (λ same. depends_restarted e past k p (cond-true _ _ _ same) refl o.depends) in
      let up : is_down past p ≡ false = rw other at o.depends.up in
      no_older e (accepted_forward n (e ∷ past) formed) refl up (cond-false _ _ _ other) o o.unstable (is_down past) (record { down = λ q low h. h; few = safe.few_down }) up
      (λ q low out. false_from_ne_true _ (λ held. false≢true (sym none ∙ any_below-from n (λ q. logs past q o.det) q low held))))

  -- the process held the determinant that it forgets
  forgets : (who : Pid) (listed : List Det) → AreLegalEntries n (Forget who listed ∷ past) → IsCrashSet n f (Forget who listed ∷ past) crash → (o : IsOrphan n (Forget who listed ∷ past) k crash p) → logs past who.0 o.det ≡ true
  forgets who listed formed may o = true_from_ne_false _ (λ none.
      no_older (Forget who listed) (accepted_forward n (Forget who listed ∷ past) formed) refl o.depends.up refl o o.unstable crash (record { down = may.down; few = may.few }) o.survives
      (λ q low out. grind (arith, eqb_tells who.0 q, none, o.lost q low out)))

module _ (n f k p : ℕ) (crash : ℕ → Bool) (sweep : NewOrphansLaw) (only : OneNewOrphan) where
  newly : (e : Entry) (past : List Entry) → AreLegalEntries n (e ∷ past) → IsCrashSet n f (e ∷ past) crash → (o : IsOrphan n (e ∷ past) k crash p) → IsSafe n f past → MayGetOrphan past e k o.det
  newly e past formed may o safe =
      ⊎_elim (λ old. absurd (safe.no_orphan k old)) (λ new. new) (sweep n f e past k o.det formed o.delivered (record { crash = crash; orphan = p; may_crash = may; is_orphan = o }))

  -- if the state before the newest entry is safe, that entry makes the orphan
  pub makes_orphan : (s : List Entry) → AreLegalEntries n s → IsCrashSet n f s crash → (o : IsOrphan n s k crash p) → ((e : Entry) (past : List Entry) → s ≡ e ∷ past → IsSafe n f past)
      → MatchOption (newest_cause s) ⊥ (MakesOrphan n s k o.det p)
  makes_orphan [] formed may o before = absurd (let x : None ≡ Some o.det = o.delivered in cc)
  makes_orphan (Deliver to send rsn listed ∷ past) formed may o before =
      let e = Deliver to send rsn listed in
      let safe = before e past refl in
      let new = newly e past formed may o safe in
      let orphaned : HasOrphan n f (e ∷ past) k = record { crash = crash; orphan = p; may_crash = may; is_orphan = o } in
      let same : p ≡ to.0 = only n f past k o.det to send rsn listed p formed o.delivered orphaned (safe.no_orphan k) (gone_orphan n (e ∷ past) k p crash o) in
      (refl, same, record { before = subst (λ q. Depends past k q → ⊥) (sym same) new.1; after = o.depends; lacks = o.lost p o.process o.survives })
  makes_orphan (Restart who listed ∷ past) formed may o before =
      let safe = before (Restart who listed) past refl in
      (refl, record { unlisted = newly (Restart who listed) past formed may o safe; held = gathers n f past k p crash safe who listed formed o })
  makes_orphan (Forget who listed ∷ past) formed may o before =
      grind (
        arith,
        newly (Forget who listed) past formed may o (before (Forget who listed) past refl),
        forgets n f past k p crash (before (Forget who listed) past refl) who listed formed may o,
        eq-eqb who.0 who.0 refl,
      )
  makes_orphan (e ∷ past) formed may o before = absurd (newly e past formed may o (before e past refl))

-- ---- too many that are down

module _ (n f : ℕ) where
  no_fewer : (e : Entry) (past : List Entry) → ((q : ℕ) → is_down (e ∷ past) q ≡ true → is_down past q ≡ true) → count_below n (is_down past) ≤ f → f < count_below n (is_down (e ∷ past)) → ⊥
  no_fewer e past same few many = omega (arith, few, many, count_below-within n (is_down (e ∷ past)) (is_down past) (λ q low h. same q h))

  -- if at most f processes were down before the newest entry, and more are after it, that entry is a crash
  pub makes_excess : (s : List Entry) → f < count_below n (is_down s) → ((e : Entry) (past : List Entry) → s ≡ e ∷ past → count_below n (is_down past) ≤ f) → MatchOption (newest_cause s) ⊥ (MakesExcess n f s)
  makes_excess [] many before = absurd (omega (arith, many, count_below-none n (is_down []) (λ q low. refl)))
  makes_excess (Crash who ∷ past) many before = (refl, record { before = before (Crash who) past refl; after = many })
  makes_excess (Restart who listed ∷ past) many before = absurd (no_fewer (Restart who listed) past (λ q h. (and_parts (not (who.0 == q)) (is_down past q) h).1) (before _ past refl) many)
  makes_excess (e ∷ past) many before = absurd (no_fewer e past (λ q h. h) (before _ past refl) many)

-- ---- verdicts

more_told : {X : Type 0} (found : Option X) (P Q : X → Type 0) → ((x : X) → P x → Q x) → MatchOption found ⊥ P → MatchOption found ⊥ Q
more_told found P Q more h = grind arith

module _ (r : Recording) (f t : ℕ) where
  -- if the verdict is `Exceeded`, the newest entry of its instant is the cause
  pub excess_told : (down : _) → IsVerdict r f (Exceeded t down) → IsCauseOf r f (Exceeded t down) (newest_cause (instant r.past t))
  excess_told down v = grind (arith, makes_excess, previous)

  -- if the verdict is `Orphan`, the newest entry of its instant is the cause
  pub orphan_told : (k : ℕ) (crash : _) (p : ℕ) → AreLegalEntries r.processes r.past → NewOrphansLaw → OneNewOrphan → IsVerdict r f (Orphan t k crash p) → IsCauseOf r f (Orphan t k crash p) (newest_cause (instant r.past t))
  orphan_told k crash p formed sweep only v =
      let s = instant r.past t in
      let o = v.1.least.is_orphan in
      more_told (newest_cause s) (MakesOrphan r.processes s k o.det p) _ (λ c made. (o.det, delivered_in r.past t k o.det v.0.within o.delivered, made))
      (makes_orphan r.processes f k p _ sweep only s (accepted_then r.processes r.past t formed) v.1.least.may_crash o (λ e past is.
      let old = previous r.past t e past v.0.within is in
      subst (IsSafe r.processes f) old.1 (v.0.before (length past) old.0)))
