-- The walks of a share.
use Rattle.std.proofs.Common.{ℕ, ◌≡◌, ◌+◌, List, zero-add}
use Rattle.std.proofs.lemmas.List.FromFn.{sum_by-map-range_with_len_more}
use Rattle.causal_audit.specs.Shares.{walk_length, walked}

-- one more walk
pub walked_more : (open_lengths : List ℕ) (walks : ℕ) → walked open_lengths (walks + 1) ≡ walked open_lengths walks + walk_length open_lengths walks
walked_more open_lengths walks = sum_by-map-range_with_len_more (λ x. x) (walk_length open_lengths) 0 walks walks (zero-add walks)
