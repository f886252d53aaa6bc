-- The items of a log that a message carries.
use Rattle.std.proofs.Common.{◌≡◌, ◌<◌, ◌⊎◌, ℕ, ◌&&◌, Bool, true, false, Option, Some, unwrap_or, arith}
use Rattle.std.proofs.Math.Bool.{and_comm}
use Rattle.std.proofs.lemmas.Bool.Decides.{nat_tests}
use Rattle.std.specs.FinMap as fin
use Rattle.std.specs.FinSet as set
use Rattle.std.specs.List.{list_any}
use Rattle.causal_name.specs.declared.Det.{Det}
use Rattle.causal_name.specs.Names.{same_det}
use Rattle.causal_log.specs.declared.known.Known.{Known}
use Rattle.causal_log.specs.Knowledge.{unknown, is_carried}
use Rattle.causal_log.specs.Logs.{LogMap, known_of, is_in_batch, batch_items}
use Rattle.causal_log.proofs.Lemmas.Searches.{any_kept, any_logged, passes}

-- the second of three conditions can be checked first
pub swap_first : (a b d : Bool) → (a && (b && d)) ≡ (b && (a && d))
swap_first a b d = grind arith

-- `is_carried` of what is known of a determinant is `is_in_batch`
pub carried : (f : ℕ) (o : Option Known) → passes (is_carried f) o ≡ is_in_batch f o
carried f o = grind arith

held : (f p : ℕ) (o : Option Known) → passes (λ k. is_carried f k && set.contains k.holders p) o ≡ (is_in_batch f o && set.contains (unwrap_or o unknown).holders p)
held f p o = grind arith

-- a determinant is carried if and only if what is known of it passes `is_carried`
pub carried_dets : (f : ℕ) (log : LogMap) (det : Det) → list_any (λ item. same_det det item.det) (batch_items f log) ≡ is_in_batch f (fin.get log det)
carried_dets f log det = grind (arith, any_kept, and_comm, any_logged (is_carried f) det log, carried f (fin.get log det))

-- a carried determinant is sent with its known holders
pub carried_holders : (f : ℕ) (log : LogMap) (det : Det) (p : ℕ) →
    list_any (λ item. same_det det item.det && set.contains item.holders p) (batch_items f log) ≡ (is_in_batch f (fin.get log det) && set.contains (known_of log det).holders p)
carried_holders f log det p = grind (arith, any_kept, swap_first, any_logged (λ k. is_carried f k && set.contains k.holders p) det log, held f p (fin.get log det))

-- a logged determinant that is not carried is known to be stable or has more than f known holders
pub left_out : (f : ℕ) (log : LogMap) (det : Det) (known : Known) → fin.get log det ≡ Some known →
    list_any (λ item. same_det det item.det) (batch_items f log) ≡ false → (known.stable ≡ true) ⊎ (f < set.len known.holders)
left_out f log det known there out = grind (arith, nat_tests, carried_dets f log det)
