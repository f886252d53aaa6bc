-- The shares of the workers, and the earliest breach of all of them.
use Rattle.std.proofs.Common.{arith, ℕ, List, [], ◌∷◌, ◌++◌, refl, subst, sym}
use Rattle.std.specs.Prelude.{◌≤◌, Ok, Err}
use Rattle.causal_audit.specs.Parts.{FollowedDeliveries}
use Rattle.causal_audit.proofs.Lemmas.Parts.{least_of_both}
use Rattle.causal_workers.specs.Inside.Shares.{ShareResult, Covers, Follows, IsEarlierOf, IsShare, RunningShare, IsResultOf}

-- one more worker at the end
pub follows_more : (followed : FollowedDeliveries) (from mid : ℕ) (ws : List RunningShare) (w : RunningShare) → Follows followed from ws mid → IsShare followed mid w.promise → Follows followed from (ws ++ w ∷ []) w.promise.to
follows_more followed from mid [] w all one = (subst (λ n. IsShare followed n w.promise) (sym all) one, refl)
follows_more followed from mid (v ∷ ws) w all one = (all.0, follows_more followed v.promise.to mid ws w all.1 one)

-- the earlier of two results
tells_both : (followed : FollowedDeliveries) (mid to : ℕ) (one other found : ShareResult) → mid ≤ to → IsEarlierOf one other found → IsResultOf followed 0 mid one → IsResultOf followed mid to other → IsResultOf followed 0 to found
tells_both followed mid to one other (Err refused) up first before after = tt
tells_both followed mid to one other (Ok least) up first before after = rw first.4 (least_of_both followed 0 mid to first.0 first.1 (omega arith) up (rw first.2 at before) (rw first.3 at after))

-- with the next worker's result
pub covers_next : (followed : FollowedDeliveries) (first : ShareResult) (w : RunningShare) (ws : List RunningShare) (to : ℕ) (answer found : ShareResult) → IsEarlierOf first answer found
    → IsResultOf w.promise.prepared.now w.promise.from w.promise.to answer → Covers followed first (w ∷ ws) to → Covers followed found ws to
covers_next followed first w ws to answer found is kept all =
    grind (
      arith,
      tells_both followed all.0 w.promise.to first answer found all.2.0.ascends is all.1 (subst (λ s. IsResultOf s all.0 w.promise.to answer) all.2.0.of (subst (λ n. IsResultOf w.promise.prepared.now n w.promise.to answer) all.2.0.begins kept)),
    )

-- if no worker is left, the first result is that of all
pub covers_all : (followed : FollowedDeliveries) (first : ShareResult) (to : ℕ) → Covers followed first [] to → IsResultOf followed 0 to first
covers_all followed first to all = subst (λ n. IsResultOf followed 0 n first) all.2 all.1
