use Rattle.causal_audit.proofs.Common.{◌≡◌, ◌<◌, ◌≤◌, cases_lt, None, Some, length, instant, det_then, sym, subst, ◌∙◌, arith, AreLegalEntries}
use Rattle.causal_trace.specs.Numbers.{delivered_dets, number_of}
use Rattle.causal_trace.proofs.Lemmas.DeliveryNumbers.{number_among, found_below}
use Rattle.causal_audit.specs.Searches.{SearchScope, delivery_count}
use Rattle.causal_audit.proofs.index.Filings.{number_of_found}
use Rattle.causal_audit.proofs.DeliveryNumbers.{numbered_later}
use Rattle.causal_audit.proofs.Lemmas.NumberLemmas.{has_number}
use Rattle.causal_audit.proofs.safety_scan.SurveyAsks.{none_newer, none_older}
use Rattle.causal_audit.proofs.safety_scan.open_delivery_search.OpenDeliverySearch.check_sharers.Goals as goal
use Rattle.causal_audit.proofs.safety_scan.open_delivery_search.OpenDeliverySearch.check_sharers.Goals.{In-Some}

-- the number of the next older delivery
older_is : (c : In-Some) → number_of c.loop-older.number (delivered_dets c.args.self.now.run.past) c.args.det ≡ Some c.in-Some.older
older_is c = subst (λ (a : SearchScope). number_of c.loop-older.number (delivered_dets a.run.past) c.args.det ≡ Some c.in-Some.older) c.self.view_is (sym c.older_delivery.ensures.value ∙ c.in-Some.is)

pub check_delivery-requires-clause-few : goal.check_delivery-requires-clause-few
check_delivery-requires-clause-few c =
    found_below _ _ c.args.newest (number_among (delivery_count c.args.self.now) (delivered_dets c.args.self.now.run.past) c.args.det) c.requires.newest

pub loop-older-init : goal.loop-older-init
loop-older-init c =
    let scope = c.args.self.now in
    let count = delivery_count scope in
    let dets = delivered_dets scope.run.past in
    let newest = c.args.newest in
    let formed : AreLegalEntries scope.run.processes scope.run.past = subst (λ (a : SearchScope). AreLegalEntries a.run.processes a.run.past) c.self.view_is c.self.invariant.formed.accepted in
    record {
      few = found_below (number_of count dets c.args.det) count newest (number_among count dets c.args.det) c.requires.newest;
      own = number_of_found count dets c.args.det newest c.requires.newest;
      more = c.in_ok-check_delivery.ensures.more;
      told = λ i k from below numbered at.
          grind (arith, numbered, none_newer scope formed i k c.args.det numbered at count newest below c.requires.newest, c.in_ok-check_delivery.ensures.listed k);
    }

pub loop-older-preserved : goal.loop-older-preserved
loop-older-preserved c =
    let scope = c.args.self.now in
    let dets = delivered_dets scope.run.past in
    let was = c.loop-older.invariant in
    let number = c.loop-older.number in
    let older = c.in-Some.older in
    let next = c.in_ok-check_delivery-2.ensures.more in
    let is = older_is (goal.at.loop-older-preserved c).In-Some in
    let low : older < number = found_below (number_of number dets c.args.det) number older (number_among number dets c.args.det) is in
    let formed : AreLegalEntries scope.run.processes scope.run.past = subst (λ (a : SearchScope). AreLegalEntries a.run.processes a.run.past) c.self.view_is c.self.invariant.formed.accepted in
    record {
      few = omega (arith, low, was.few);
      own = number_of_found number dets c.args.det older is;
      more = record { followed = λ so_far. next.followed (was.more.followed so_far); listed = λ k told. next.listed k (was.more.listed k told) };
      told = λ i k from below numbered at.
          grind (arith, numbered, cases_lt i number, none_newer scope formed i k c.args.det numbered at number older, is, c.in_ok-check_delivery-2.ensures.listed k, next.listed k, was.told i k);
    }

pub returns-clause-listed : goal.returns-clause-listed
returns-clause-listed c k early at =
    let scope = c.args.self.now in
    let number = c.loop-older.number in
    let formed : AreLegalEntries scope.run.processes scope.run.past = subst (λ (a : SearchScope). AreLegalEntries a.run.processes a.run.past) c.self.view_is c.self.invariant.formed.accepted in
    let within : scope.end ≤ length scope.run.past = subst (λ (a : SearchScope). a.end ≤ length a.run.past) c.self.view_is c.self.invariant.within in
    let own = has_number (instant scope.run.past scope.end) k c.args.det (det_then scope.run.past scope.end k early within ∙ at) in
    let numbered = numbered_later scope.run.past scope.end own.0 k within own.2 in
    let none : number_of number (delivered_dets scope.run.past) c.args.det ≡ None =
    subst (λ (a : SearchScope). number_of number (delivered_dets a.run.past) c.args.det ≡ None) c.self.view_is (sym c.older_delivery.ensures.value ∙ c.in_default.is) in
    c.loop-older.invariant.told own.0 k (none_older scope formed own.0 k c.args.det numbered at number none) own.1 numbered at

pub check_delivery-requires-clause-own : goal.check_delivery-requires-clause-own
check_delivery-requires-clause-own c = number_of_found (delivery_count c.args.self.now) (delivered_dets c.args.self.now.run.past) c.args.det c.args.newest c.requires.newest

pub check_delivery-requires-in-Some-clause-few : goal.check_delivery-requires-in-Some-clause-few
check_delivery-requires-in-Some-clause-few c =
    let dets = delivered_dets c.args.self.now.run.past in
    let low = found_below (number_of c.loop-older.number dets c.args.det) c.loop-older.number c.in-Some.older (number_among c.loop-older.number dets c.args.det) (older_is (goal.at.check_delivery-requires-in-Some-clause-few c).In-Some) in
    omega (arith, low, c.loop-older.invariant.few)

pub check_delivery-requires-in-Some-clause-own : goal.check_delivery-requires-in-Some-clause-own
check_delivery-requires-in-Some-clause-own c = number_of_found c.loop-older.number (delivered_dets c.args.self.now.run.past) c.args.det c.in-Some.older (older_is (goal.at.check_delivery-requires-in-Some-clause-own c).In-Some)

pub returns-clause-more : goal.returns-clause-more
returns-clause-more c = c.loop-older.invariant.more
