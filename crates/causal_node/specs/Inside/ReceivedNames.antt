-- The names of received messages in blocks of 64 numbers of one sender, with a bit for each.
use Rattle.std.specs.Prelude.{ℕ, zero, suc, ◌+◌, ◌*◌, ◌/◌, ◌==◌, List, [], ◌∷◌, if◌then◌else◌}
use Rattle.std.specs.Int.{bit_at}
use Rattle.std.specs.BTreeSet.{insert_key}
use Rattle.std.specs.Ordering.{nat_cmp, ordering_then}
use Rattle.std.specs.declared.cmp.Ordering.{Ordering}
use Rattle.causal_name.specs.declared.MsgName.{MsgName}
use Rattle.causal_name.specs.Names.{pid_cmp, message_cmp}
use Rattle.causal_node.specs.declared.received_names.Block.{Block}

-- the order of blocks, by sender, then number
abbrev pub block_cmp : Block → Block → Ordering
block_cmp a b = ordering_then (pid_cmp a.source b.source) (nat_cmp a.number b.number)

-- the block of a name
abbrev pub block_of : MsgName → Block
block_of m = record { source = m.source; number = m.ssn / 64 }

-- the name with this number of a block
abbrev pub name_at : Block → ℕ → MsgName
name_at b i = record { source = b.source; ssn = 64 * b.number + i }

-- these names, and those of the first n numbers of a block that have a bit, ascending
unfoldable pub with_block : Block → ℕ → List MsgName → ℕ → List MsgName
with_block b bits names zero = names
with_block b bits names (suc n) = if bit_at bits n == 1 then insert_key message_cmp (with_block b bits names n) (name_at b n) else with_block b bits names n

-- the names in blocks with these bits, ascending
abbrev pub names_in : List (Block × ℕ) → List MsgName
names_in [] = []
names_in (e ∷ es) = with_block e.0 e.1 (names_in es) 64
