-- The numbers of determinants.
use Rattle.std.proofs.Common.{ℕ, ◌≡◌, ◌<◌, List, Some, arith}
use Rattle.std.specs.Prelude.{◌==◌}
use Rattle.std.proofs.lemmas.Bool.Decides.{eqb_tells}
use Rattle.causal_name.specs.declared.Det.{Det}
use Rattle.causal_name.specs.Names.{same_det}
use Rattle.causal_trace.specs.declared.entry.Entry.{Entry}
use Rattle.causal_trace.specs.Past.{deliveries_in}
use Rattle.causal_trace.specs.Numbers.{delivered_dets}
use Rattle.causal_trace.proofs.Lemmas.DeliveryNumbers.{number_among, found_below, numbers_apart}
use Rattle.causal_replays.specs.Inside.Copies.{number_in}
use Rattle.causal_name.proofs.Lemmas.DetOrder.{same_is, same_itself}

pub one_det : (whole : List Entry) (c d : Det) (m : ℕ) → number_in whole c ≡ Some m → number_in whole d ≡ Some m → c ≡ d
one_det whole c d m at to = same_is c d (numbers_apart (deliveries_in whole) (delivered_dets whole) c d m at to)

-- two numbers are equal exactly if the determinants are
pub numbers_match : (whole : List Entry) (d det : Det) (i j : ℕ) → number_in whole d ≡ Some i → number_in whole det ≡ Some j → (i == j) ≡ same_det d det
numbers_match whole d det i j at to = grind (arith, eqb_tells i j, one_det whole d det j, same_is d det, same_itself)

-- a number is below the number of deliveries
pub number_within : (whole : List Entry) (d : Det) (i : ℕ) → number_in whole d ≡ Some i → i < deliveries_in whole
number_within whole d i at = found_below (number_in whole d) (deliveries_in whole) i (number_among (deliveries_in whole) (delivered_dets whole) d) at
