use Rattle.std.proofs.Common.{◌≡◌, ℕ, drop}
use Rattle.std.specs.Prelude.{◌||◌}
use Rattle.std.specs.List.{list_any}
use Rattle.std.specs.FinSet.{contains}
use Rattle.causal_picture.specs.Rows.{is_band_of}
use Rattle.causal_picture.proofs.rows.add_bands.Given as goal

-- the set so far with the processes of the remaining bands has all members
abbrev pub invariant-loop-band : goal.invariant-loop-band
invariant-loop-band l =
    (p : ℕ) → (contains l.fn.members p || list_any (is_band_of p) l.bands) ≡ (contains l.all p || list_any (is_band_of p) (drop l.band-index l.bands))
