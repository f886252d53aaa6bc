-- A table of one number for each slot.
use Rattle.std.proofs.Common.{ℕ, ◌≡◌, ◌<◌, cond, List, [], length, get_or, set, Option, Some, None, arith}
use Rattle.std.specs.Prelude.{◌==◌, ◌&&◌}
use Rattle.std.specs.Global.{Vec}
use Rattle.std.proofs.lemmas.Bool.Decides.{eqb_tells}
use Rattle.std.proofs.Math.ListN.{replicate}
use Rattle.causal_replays.specs.Inside.Holdings.{lists_in}
use Rattle.causal_replays.specs.Inside.Slots.{slot_number}
use Rattle.causal_replays.proofs.HolderLemmas.{all_default}
use Rattle.causal_replays.proofs.LogLemmas.{list_set, list_read}

-- the table after one number is written
pub written : (slots : List (Vec (Option ℕ))) (q : ℕ) (v w : Vec (Option ℕ)) (index number : ℕ) → q < length slots → v ≡ get_or slots q v
    → ((r : ℕ) → get_or w.items r None ≡ cond (r == index) (Some number) (get_or v.items r None))
    → (p r : ℕ) → slot_number (set slots q w) p r ≡ cond (q == p && r == index) (Some number) (slot_number slots p r)
written slots q v w index number there read wrote p r = grind (arith, wrote r, list_set slots q w there p, list_read slots q v there read, eqb_tells q p, eqb_tells p q)

-- empty lists have no numbers
pub no_number : (slots : List (Vec (Option ℕ))) (n p r : ℕ) → lists_in slots ≡ replicate n [] → slot_number slots p r ≡ None
no_number slots n p r are = rw (are, all_default {A = List (Option ℕ)} n p [])
