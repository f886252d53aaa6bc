-- The deliveries of each message, as linked chains of receipts.
-- Each process has a list of heads, indexed by send sequence number. A head links to the message's newest receipt,
-- each node to the next older one. The node list is newest first, and a node's index is the number of older nodes.
use Rattle.std.specs.Prelude.{ℕ, ◌-◌, ◌<◌, Bool, false, ◌==◌, nat_lt, ◌&&◌, if◌then◌else◌, min, List, [], ◌∷◌, ◌++◌, length, slice_index_or, slice_set, Option, Some, None, IfSome, vec_len, vec_capacity}
use Rattle.std.specs.Option.{option_map_or}
use Rattle.std.proofs.Common.{Vec, Global}
use Rattle.causal_name.specs.declared.Pid.{Pid}
use Rattle.causal_name.specs.declared.MsgName.{MsgName}
use Rattle.causal_name.specs.declared.Det.{Det}
use Rattle.causal_name.specs.Names.{same_pid, message_of}
use Rattle.causal_trace.specs.declared.entry.Entry.{Entry}
use Rattle.causal_trace.specs.declared.entry.Entry.TheVariants.{Deliver}
use Rattle.causal_trace.specs.declared.chains.MessageReceipt.{MessageReceipt}
use Rattle.causal_trace.specs.declared.chains.ReceiptNode.{ReceiptNode}
use Rattle.causal_trace.specs.declared.chains.Search.{Search}
use Rattle.causal_trace.specs.declared.chains.Search.TheVariants.{Finished, Unfinished}
use Rattle.causal_trace.specs.Past.{is_message, lane, message_at}

-- the heads of each process, indexed by send sequence number
abbrev pub Heads : Type 0
Heads = List (List (Option ℕ))

-- the heads of a process
abbrev pub heads_of : Heads → ℕ → List (Option ℕ)
heads_of heads p = slice_index_or heads p []

-- the head of a message: the index of its newest node
abbrev pub head_of : Heads → MsgName → Option ℕ
head_of heads m = slice_index_or (heads_of heads m.source.0) m.ssn None

-- the message has a head, which may be empty
pub record HasHead (heads : Heads) (m : MsgName) : Type 0 where
  pub source : m.source.0 < length heads
  pub ssn : m.ssn < length (heads_of heads m.source.0)

-- an optional index is below a bound
abbrev pub IsPlaceBelow : Option ℕ → ℕ → Type 0
IsPlaceBelow at bound = IfSome at (λ k. k < bound)

-- each node links to an older one
abbrev pub LeadDown : List ReceiptNode → Type 0
LeadDown [] = Unit {0}
LeadDown (node ∷ older) = IsPlaceBelow node.next (length older) × LeadDown older

-- the receipts from an index on, newest first
abbrev pub chain : List ReceiptNode → Option ℕ → List MessageReceipt
chain [] at = []
chain (node ∷ older) at = if option_map_or (λ k. k == length older) at false then node.receipt ∷ chain older node.next else chain older at

-- the chains as a contract sees them
pub record ChainsState : Type 0 where
  pub heads : Heads
  pub nodes : List ReceiptNode
  pub spare : ℕ

-- the receipts of a message
abbrev pub chain_of : ChainsState → MsgName → List MessageReceipt
chain_of c m = chain c.nodes (head_of c.heads m)

-- heads and nodes link to existing nodes
pub record AreLinked (heads : Heads) (nodes : List ReceiptNode) : Type 0 where
  pub heads_lead : (m : MsgName) → IsPlaceBelow (head_of heads m) (length nodes)
  pub nodes_lead : LeadDown nodes

-- a list of heads with an empty head added for this number, if it is the next one
abbrev pub with_next_head : List (Option ℕ) → ℕ → List (Option ℕ)
with_next_head list ssn = if length list == ssn then list ++ None ∷ [] else list

-- the heads with one added for a message
abbrev pub with_message : Heads → MsgName → Heads
with_message heads m = slice_set heads m.source.0 (with_next_head (heads_of heads m.source.0) m.ssn)

-- the heads with the head of a message replaced
abbrev pub with_head : Heads → MsgName → Option ℕ → Heads
with_head heads m at = slice_set heads m.source.0 (slice_set (heads_of heads m.source.0) m.ssn at)

-- the nodes with one more receipt of a message
abbrev pub with_receipt : ChainsState → MsgName → MessageReceipt → List ReceiptNode
with_receipt c m receipt = record { receipt = receipt; next = head_of c.heads m } ∷ c.nodes

-- whether the newest receipt of a process belongs to this lane (incarnation)
abbrev pub is_newest_in : Pid → ℕ → List MessageReceipt → Bool
is_newest_in dest l [] = false
is_newest_in dest l (receipt ∷ older) = if same_pid receipt.dest dest then receipt.lane == l else is_newest_in dest l older

-- whether a receipt of the determinant's message is a delivery with it
abbrev pub is_receipt_of : Det → MessageReceipt → Bool
is_receipt_of d receipt = same_pid receipt.dest d.dest && receipt.rsn == d.rsn

-- the index of the newest receipt with this determinant among the first m nodes, from an index on
abbrev pub receipt_index : ℕ → Det → List ReceiptNode → Option ℕ → Option ℕ
receipt_index m d [] at = None
receipt_index m d (node ∷ older) at =
    if option_map_or (λ k. k == length older) at false
    then (if nat_lt (length older) m && is_receipt_of d node.receipt then Some (length older) else receipt_index m d older node.next)
    else receipt_index m d older at

-- what a search found, if it finished, has this property
abbrev pub IfFinished : Search → (Option ℕ → Type 0) → Type 0
IfFinished (Finished found) P = P found
IfFinished Unfinished P = Unit {0}

-- the least spare capacity of the lists of heads and of the node array
abbrev pub least_room : List (Vec (Option ℕ) Global) → ℕ → ℕ
least_room [] room = room
least_room (list ∷ lists) room = min (vec_capacity list - vec_len list) (least_room lists room)

-- the receipts of a message in a run, newest first
abbrev pub receipts : List Entry → MsgName → List MessageReceipt
receipts [] m = []
receipts (Deliver to send rsn listed ∷ past) m = if is_message (message_at past send) m then record { dest = to; lane = lane past to.0; rsn = rsn } ∷ receipts past m else receipts past m
receipts (_ ∷ past) m = receipts past m

-- the heads after an entry that sends this message, or has this determinant
abbrev pub heads_after : Option MsgName → Option Det → ChainsState → Heads
heads_after (Some m) own c = with_message c.heads m
heads_after None (Some d) c = with_head c.heads (message_of d) (Some (length c.nodes))
heads_after None None c = c.heads

-- the nodes after an entry that sends this message, or has this determinant, delivered in this lane
abbrev pub nodes_after : Option MsgName → Option Det → ℕ → ChainsState → List ReceiptNode
nodes_after (Some m) own l c = c.nodes
nodes_after None (Some d) l c = with_receipt c (message_of d) (record { dest = d.dest; lane = l; rsn = d.rsn })
nodes_after None None l c = c.nodes
