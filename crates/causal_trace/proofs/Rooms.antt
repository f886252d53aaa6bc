-- The least spare capacity of several lists.
use Rattle.std.proofs.Common.{ℕ, zero, suc, ◌+◌, ◌-◌, ◌<◌, ◌≤◌, Vec, Global, List, [], ◌∷◌, length, get_or, set, Option, arith}
use Rattle.std.specs.Prelude.{vec_len, vec_capacity}
use Rattle.std.proofs.lemmas.List.{get_or-set_same, get_or-set_other}
use Rattle.std.proofs.Math.Nat.{min-le_left, min-le_right, le-min}
use Rattle.causal_trace.specs.Inside.Chains.{least_room}

abbrev pub room : Vec (Option ℕ) Global → ℕ
room list = vec_capacity list - vec_len list

-- no list has less spare capacity than the least
pub least_at : (lists : List (Vec (Option ℕ) Global)) (other p : ℕ) (d : Vec (Option ℕ) Global) → p < length lists → least_room lists other ≤ room (get_or lists p d)
least_at [] other p d h = absurd (omega (arith, h))
least_at (list ∷ lists) other p d h = grind (arith, least_at lists other)

-- the least spare capacity is at most that of the node array
pub least_other : (lists : List (Vec (Option ℕ) Global)) (other : ℕ) → least_room lists other ≤ other
least_other [] other = omega arith
least_other (list ∷ lists) other = omega (arith, min-le_right (room list) (least_room lists other), least_other lists other)

-- one less for the node array lowers the least by at most one
pub least_falls : (lists : List (Vec (Option ℕ) Global)) (other now : ℕ) → other ≤ now + 1 → least_room lists other ≤ least_room lists now + 1
least_falls [] other now h = h
least_falls (list ∷ lists) other now h = omega (arith, least_falls lists other now h)

-- one less for a list and for the node array lowers the least by at most one
pub least_set : (lists : List (Vec (Option ℕ) Global)) (p other now : ℕ) (list d : Vec (Option ℕ) Global) → p < length lists → room (get_or lists p d) ≤ room list + 1 → other ≤ now + 1 → least_room lists other ≤ least_room (set lists p list) now + 1
least_set [] p other now list d h k l = absurd (omega (arith, h))
least_set (first ∷ lists) zero other now list d h k l = omega (arith, k, least_falls lists other now l)
least_set (first ∷ lists) (suc p) other now list d h k l = omega (arith, least_set lists p other now list d (omega (arith, h)) k l)

-- replacing a list by one with at least its spare capacity does not lower the least
pub least_grown : (lists : List (Vec (Option ℕ) Global)) (p other : ℕ) (list d : Vec (Option ℕ) Global) → p < length lists → room (get_or lists p d) ≤ room list → least_room lists other ≤ least_room (set lists p list) other
least_grown [] p other list d h k = absurd (omega (arith, h))
least_grown (first ∷ lists) zero other list d h k = omega (arith, k)
least_grown (first ∷ lists) (suc p) other list d h k = omega (arith, least_grown lists p other list d (omega (arith, h)) k)

-- the least is at least n if the spare capacity of each list is
pub least_each : (lists : List (Vec (Option ℕ) Global)) (n other : ℕ) → n ≤ other → ((k : ℕ) (d : Vec (Option ℕ) Global) → k < length lists → n ≤ room (get_or lists k d)) → n ≤ least_room lists other
least_each [] n other h each = h
least_each (list ∷ lists) n other h each = le-min (each 0 list (omega arith)) (least_each lists n other h (λ k d below. each (suc k) d (omega (arith, below))))

-- more spare capacity of the node array does not lower the least
pub least_more : (lists : List (Vec (Option ℕ) Global)) (other now : ℕ) → other ≤ now → least_room lists other ≤ least_room lists now
least_more [] other now h = h
least_more (list ∷ lists) other now h = le-min (min-le_left (room list) (least_room lists other)) (omega (arith, min-le_right (room list) (least_room lists other), least_more lists other now h))

-- the first i + 1 lists have capacity n if the first i have it and the replaced list has
pub room_set : (lists : List (Vec (Option ℕ) Global)) (i n : ℕ) (list : Vec (Option ℕ) Global) → i < length lists → n ≤ room list → ((k : ℕ) (d : Vec (Option ℕ) Global) → k < i → n ≤ room (get_or lists k d)) → (k : ℕ) (d : Vec (Option ℕ) Global) → k < i + 1 → n ≤ room (get_or (set lists i list) k d)
room_set lists i n list inside here before k d h = grind (arith, get_or-set_same, get_or-set_other)
