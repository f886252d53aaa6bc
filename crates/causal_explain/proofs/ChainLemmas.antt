-- A shortest chain, by the shortest paths.
use Rattle.std.proofs.Common.{ℕ, ◌≡◌, List, length, Some, None, refl, ap, arith, [], ◌∷◌, ◌++◌, sym, subst}
use Rattle.std.specs.Prelude.{Option, IfSome}
use Rattle.causal_trace.specs.declared.entry.Entry.{Entry}
use Rattle.causal_trace.specs.Past.{lane}
use Rattle.causal_trace.specs.Dependence.{IsEventOf, DirectlyPrecedes, Reaches, itself, onward as reached_onward, Depends}
use Rattle.causal_explain.specs.declared.paths.ReachedEvent.{ReachedEvent}
use Rattle.causal_explain.specs.Chains.{IsChain, ShortestChain}
use Rattle.causal_explain.specs.Inside.ShortestPaths.{HasPath, at_once, onward, IsLeastDistance, Nearest, IsPathToNearest}
use Rattle.causal_explain.proofs.WayLemmas.{comes_along}
use Rattle.causal_trace.specs.Laws.{IsPath}

module _ (past : List Entry) (i p : ℕ) where
  -- a path leads to the end of a chain, by one step less than the chain has events
  led : (chain : List ℕ) → (h : IsChain past i p chain) → HasPath past i h.last (length h.rest)
  led chain h = comes_along past i i h.last 0 (length h.rest) h.rest (at_once h.event.0 h.event.1 h.event.2 refl refl) h.path (omega arith)

  event_of : (k n : ℕ) → HasPath past i k n → (q : ℕ) × (l : ℕ) × IsEventOf past i q l
  event_of k n (at_once q l at is none) = (q, l, at)
  event_of k n (onward j m c d is) = event_of j m c

  -- the nearest event of the lane, if there is one, is reached by the fewest steps
  pub all_least : (nearest : Option ReachedEvent) → Nearest past i (λ k. IsEventOf past k p (lane past p)) nearest → IfSome nearest (λ x. IsLeastDistance past i x.position x.steps)
  all_least nearest h = grind arith

  -- the result is a shortest chain, or None if no event is reached
  pub chain_told : (nearest : Option ReachedEvent) (found : Option (List ℕ)) → Nearest past i (λ k. IsEventOf past k p (lane past p)) nearest → IsPathToNearest past i nearest found → ShortestChain past i p found
  chain_told None None h walk = λ chain leads. h leads.last (length leads.rest) leads.present (led chain leads)
  chain_told None (Some chain) h walk = absurd (let no : Some chain ≡ None = walk in cc)
  chain_told (Some x) None h walk = absurd walk
  chain_told (Some x) (Some chain) h walk = record {
    leads = record { event = event_of x.position x.steps h.1; rest = walk.rest; begins = walk.begins; last = x.position; path = walk.path; present = h.0 };
    shortest = λ other leads.
        let few = h.2 leads.last (length leads.rest) leads.present (led other leads) in
        omega (arith, few, ap length leads.begins, ap length walk.begins, walk.steps);
  }

-- ---- what an orphan at an instant implies for the run

-- a path with one more step
path_more : (past : List Entry) (i j k : ℕ) (over : List ℕ) → IsPath past i over j → DirectlyPrecedes past j k → IsPath past i (over ++ k ∷ []) k
path_more past i j k [] path d = (subst (λ x. DirectlyPrecedes past x k) (sym path) d, refl)
path_more past i j k (v ∷ over) path d = (path.0, path_more past v j k over path.1 d)

-- an event is reached by a path, from an event
path_of : (past : List Entry) (i j : ℕ) → Reaches past i j → (over : List ℕ) × IsPath past i over j × ((q : ℕ) × (l : ℕ) × IsEventOf past i q l)
path_of past i j (itself q l at) = ([], refl, (q, l, at))
path_of past i k (reached_onward {j = j} r d) = let so_far = path_of past i j r in (so_far.0 ++ k ∷ [], path_more past i j k so_far.0 so_far.1 d, so_far.2)

-- if a process depends on a delivery, a chain leads from the delivery to the process
pub depends_led : (past : List Entry) (k p : ℕ) → Depends past k p → (chain : List ℕ) × IsChain past k p chain
depends_led past k p d =
    let path = path_of past k d.event d.reached in
    (k ∷ path.0, record { event = path.2; rest = path.0; begins = refl; last = d.event; path = path.1; present = d.present })
