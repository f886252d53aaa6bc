use Rattle.std.proofs.Common.{◌≡◌, ℕ, ◌+◌, ◌*◌, ◌≤◌, length}
use Rattle.json.specs.Json.{items, members, value, parse_map}
use Rattle.serde_json.specs.Data.{Members, no_members}
use Rattle.serde_json.specs.Read.{of_items, of_members, converted}
use Rattle.causal_line.specs.Prescan.{items_fit}
use Rattle.causal_line.proofs.GrammarLoops.{AllFit}
use Rattle.causal_line.proofs.prescan.+value_fits.Given as goal

abbrev pub decreases-value_fits : goal.decreases-value_fits
decreases-value_fits l = 2 * l.depth

abbrev pub decreases-items_fit : goal.decreases-items_fit
decreases-items_fit l = 2 * l.depth + 1

abbrev pub decreases-skip_members : goal.decreases-skip_members
decreases-skip_members l = 2 * l.depth + 1

abbrev pub invariant-items_fit-items : goal.invariant-items_fit-items
invariant-items_fit-items l =
    (n : ℕ) × (length l.reader ≤ n)
    × (parse_map (items_fit l.left 0) (converted of_items (items (value l.depth) (length l.initial.reader) l.initial.reader)) ≡ parse_map (AllFit l.left l.fit l.count) (converted of_items (items (value l.depth) n l.reader)))
    × (length l.reader ≤ length l.initial.reader)

abbrev pub decreases-items_fit-items : goal.decreases-items_fit-items
decreases-items_fit-items l = length l.reader

abbrev pub invariant-skip_members-members : goal.invariant-skip_members-members
invariant-skip_members-members l =
    (n : ℕ) × (length l.reader ≤ n) × (old : Members)
    × (converted (λ ms. of_members ms no_members) (members (value l.depth) (length l.initial.reader) l.initial.reader) ≡ converted (λ ms. of_members ms old) (members (value l.depth) n l.reader))
    × (length l.reader ≤ length l.initial.reader)

abbrev pub decreases-skip_members-members : goal.decreases-skip_members-members
decreases-skip_members-members l = length l.reader
