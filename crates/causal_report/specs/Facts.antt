-- The facts that explain a verdict on a recording, and say whether its recoveries strayed.
use Rattle.std.specs.Prelude.{◌≡◌, ◌⊎◌, ◌==◌, if◌then◌else◌, ℕ, Bool, true, false, List, [], ◌∷◌, ◌++◌, length, map, Option, Some, None}
use Rattle.causal_holders.specs.Members.{ascending}
use Rattle.causal_trace.specs.Past.{instant}
use Rattle.causal_trace.specs.Rows.{Recording}
use Rattle.causal_trace.specs.Survivors.{IsFollowed}
use Rattle.causal_audit.specs.declared.verdict.Verdict.{Verdict}
use Rattle.causal_audit.specs.declared.verdict.Verdict.TheVariants.{Accept, Exceeded, Orphan}
use Rattle.causal_facts.specs.declared.cause.Cause.{Cause}
use Rattle.causal_explain.specs.declared.closest.Closest.{Closest}
use Rattle.causal_explain.specs.declared.closest.Closest.TheVariants.{Never, At}
use Rattle.causal_facts.specs.declared.process_fact.DownProcess.{DownProcess}
use Rattle.causal_explain.specs.declared.explanation.Explanation.{Explanation}
use Rattle.causal_facts.specs.declared.process_fact.Holding.{Holding}
use Rattle.causal_explain.specs.Causes.{IsCauseOf}
use Rattle.causal_explain.specs.Closest.{IsClosest}
use Rattle.causal_explain.specs.Explanations.{IsExplanation}
use Rattle.causal_explain.specs.ProcessFacts.{AreDown}
use Rattle.causal_facts.specs.declared.stray.Stray.{Stray}
use Rattle.causal_replays.specs.Strays.{IsFirstStray}
use Rattle.causal_facts.specs.declared.event.ChainEvent.{ChainEvent}
use Rattle.causal_facts.specs.declared.event.ChainEvent.TheVariants.{Delivery}
use Rattle.causal_facts.specs.declared.fact.Fact.{Fact}
use Rattle.causal_facts.specs.declared.fact.Fact.TheVariants as fact
use Rattle.causal_report.specs.Events.{event_at}
use Rattle.causal_report.specs.Survivors.{AreSurvivorCopies}

-- ---- lists of facts

-- the delivery that comes closest to having an orphan, or that none ever has one
abbrev pub closest_fact : Closest → Fact
closest_fact Never = fact.Never
closest_fact (At faults breach) = fact.Closest (record { faults = faults; delivery = breach.delivery; instant = breach.instant; orphan = breach.orphan })

-- the crash that exceeded f, and the down processes
abbrev pub excess_facts : ℕ → Cause → List DownProcess → List Fact
excess_facts t cause downs = fact.Cause t cause ∷ map fact.Down downs

-- the delivery that has an orphan, the cause, and that the determinant is not stable
abbrev pub breach_facts : Explanation → Cause → List Fact
breach_facts e cause = fact.Delivery e.delivery e.det ∷ fact.Cause e.instant cause ∷ fact.Unstable e.instant ∷ []

-- each holder, or that there is none
abbrev pub holder_facts : List Holding → List Fact
holder_facts holders = if length holders == 0 then fact.NoHolder ∷ [] else map fact.Holder holders

-- the event of the chain at a position
abbrev pub chain_fact : Recording → ℕ → Fact
chain_fact r k = fact.Chain k (event_at r k)

-- the first delivery of a chain after which its receiver's log lacks the determinant of `delivery`, or that there is none
abbrev pub unlisted_fact : Recording → ℕ → Option ℕ → Fact
unlisted_fact r delivery None = fact.Listed
unlisted_fact r delivery (Some k) = fact.Unlisted k (event_at r k) (k == delivery)

-- the event at a position by which a determinant arrives, if it is a delivery
abbrev pub arrival_facts : ℕ → ChainEvent → List Fact
arrival_facts k (Delivery to send) = fact.Underway k send to ∷ []
arrival_facts k _ = []

-- the delivery by which a determinant arrives that was in transit, if there is one
abbrev pub underway_facts : Recording → Option ℕ → List Fact
underway_facts r None = []
underway_facts r (Some k) = arrival_facts k (event_at r k)

-- the chain, its first delivery without the determinant, the determinant's late arrival, and the orphan
abbrev pub path_facts : Recording → Explanation → List Fact
path_facts r e =
    map (chain_fact r) e.chain.items ++ (unlisted_fact r e.delivery e.unlisted ∷ underway_facts r e.underway ++ fact.Orphan e.orphan ∷ [])

-- the delivery with its determinant, the cause, the holders, the losses, the down processes, the crash set, and the path
-- from the delivery to the orphan
abbrev pub explanation_facts : Recording → Explanation → Cause → List Fact
explanation_facts r e cause =
    breach_facts e cause ++ (holder_facts e.holders.items ++ (map fact.Loss e.losses.items
    ++ (map fact.Down e.down.items ++ (map fact.Crash (ascending e.crash) ++ path_facts r e))))

-- that the determinant of delivery k is stable, if it is
abbrev pub stable_facts : ℕ → Bool → List Fact
stable_facts k true = fact.Stable k ∷ []
stable_facts k false = []

-- ---- which facts explain

-- accept: the delivery that comes closest to having an orphan. Exceeded: the crash that exceeded f, and each down
-- process with its crash. Orphan: the entry that caused it, and the explanation of the orphan.
abbrev pub AreVerdictFacts : Recording → ℕ → Verdict → List Fact → Type 0
AreVerdictFacts r f Accept facts = (closest : Closest) × IsClosest r closest × (facts ≡ closest_fact closest ∷ [])
AreVerdictFacts r f (Exceeded t down) facts =
    (cause : Cause) × IsCauseOf r f (Exceeded t down) (Some cause)
    × ((downs : List DownProcess) × AreDown r.processes (instant r.past t) downs × (facts ≡ excess_facts t cause downs))
AreVerdictFacts r f (Orphan t k crash orphan) facts =
    (cause : Cause) × IsCauseOf r f (Orphan t k crash orphan) (Some cause)
    × ((explanation : Explanation) × IsExplanation r (record { instant = t; delivery = k; crash = crash; orphan = orphan }) explanation
    × (facts ≡ explanation_facts r explanation cause))

-- who has the determinant of the delivery at position k at instant t: the processes with it in their logs, ascending, then
-- stable storage
pub record AreCopyFacts (r : Recording) (t k : ℕ) (facts : List Fact) : Type 0 where
  pub holdings : List Holding
  pub stored : Bool
  pub copies : AreSurvivorCopies r t k holdings stored
  pub listed : facts ≡ map (fact.Logged k) holdings ++ stable_facts k stored

-- who has which of the two determinants of a stray
pub record AreSurvivorFacts (r : Recording) (stray : Stray) (facts : List Fact) : Type 0 where
  pub first : List Fact
  pub second : List Fact
  pub of_first : AreCopyFacts r stray.instant stray.first first
  pub of_second : AreCopyFacts r stray.instant stray.second second
  pub listed : facts ≡ first ++ second

-- a stray, and who has which of its two determinants
abbrev pub AreStrayFacts : Recording → Stray → List Fact → Type 0
AreStrayFacts r stray facts = (survivors : List Fact) × AreSurvivorFacts r stray survivors × (facts ≡ fact.Strayed stray ∷ survivors)

-- the facts of the first stray; none if the recoveries follow what survives
abbrev pub AreFactsOfStrays : Recording → List Fact → Type 0
AreFactsOfStrays r facts = (IsFollowed r × (facts ≡ [])) ⊎ ((stray : Stray) × IsFirstStray r stray × AreStrayFacts r stray facts)

-- the facts that explain the verdict, and then those of the first stray, if there is one
abbrev pub AreFacts : Recording → ℕ → Verdict → List Fact → Type 0
AreFacts r f verdict facts = (reason : List Fact) × (stray : List Fact) × AreVerdictFacts r f verdict reason × AreFactsOfStrays r stray × (facts ≡ reason ++ stray)
