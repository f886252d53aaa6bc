-- The result of a whole search, in the scope of the search, suffices.
use Rattle.causal_audit.proofs.Common.{◌≡◌, List, ap, subst, sym, ◌∙◌, IsWellFormed}
use Rattle.causal_audit.specs.Parts.{FollowedDeliveries, AreSufficient}
use Rattle.causal_audit.specs.Searches.{SearchScope, IncludeUnsafe, IsSearched, delivery_count, scope_of}
use Rattle.causal_audit.specs.declared.group.walk_input.OpenDelivery.{OpenDelivery}
use Rattle.causal_audit.specs.Inside.Group.OpenDeliveries.{AreAllOpen, AreFollowed, open_lengths_of, positions_of}
use Rattle.causal_audit.proofs.AmongLemmas.{among_all}
use Rattle.causal_audit.proofs.safety_scan.SurveyAsks.{all_told, any_other}

-- these deliveries, followed in a scope
abbrev pub followed_in : SearchScope → List OpenDelivery → FollowedDeliveries
followed_in scope candidates = record { run = scope.run; f = scope.f; end = scope.end; positions = positions_of candidates; open_lengths = open_lengths_of candidates }

-- the deliveries found by a whole search are open, and include each that may have an orphan
pub all_found : (scope own : SearchScope) (candidates : List OpenDelivery) (found : FollowedDeliveries) → followed_in own candidates ≡ found → IsSearched scope 0 (delivery_count scope) found → AreFollowed own candidates → IsWellFormed scope.run → AreAllOpen scope candidates
all_found scope own candidates found view searched followed formed =
    all_told scope candidates formed.accepted (subst (λ a. AreFollowed a candidates) (ap scope_of view ∙ searched.of) followed)
    (subst (IncludeUnsafe scope 0 (delivery_count scope)) (sym (ap (λ (x : FollowedDeliveries). x.positions) view)) searched.all)

-- so they suffice
pub sufficient : (scope : SearchScope) (candidates : List OpenDelivery) → IsWellFormed scope.run → AreAllOpen scope candidates → AreSufficient scope.run scope.f scope.end (followed_in scope candidates)
sufficient scope candidates formed all least is = among_all scope.run scope.f scope.end (positions_of candidates) least formed.accepted all.followed.within (any_other scope candidates all) is
