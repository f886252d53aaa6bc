-- Chains of receipts, after one more message or receipt.
use Rattle.std.proofs.Common.{ℕ, ◌≡◌, ◌<◌, ◌≤◌, cond, ◌==◌, List, [], ◌∷◌, length, get_or, set, reverse, Option, Some, None, refl, arith}
use Rattle.std.proofs.lemmas.Bool.{eq-eqb, cond-true, cond-false}
use Rattle.std.proofs.lemmas.Bool.Decides.{eqb_tells}
use Rattle.std.proofs.lemmas.List.{get_or-set_same, get_or-set_other, length-set, reverse-append, length-reverse, length-append, get_or_append_left, get_or_past}
use Rattle.std.proofs.Math.Seq.{get_or-append_seam}
use Rattle.causal_name.specs.declared.MsgName.{MsgName}
use Rattle.causal_name.specs.Names.{same_message}
use Rattle.causal_trace.specs.declared.chains.MessageReceipt.{MessageReceipt}
use Rattle.causal_trace.specs.declared.chains.ReceiptNode.{ReceiptNode}
use Rattle.causal_trace.specs.Inside.Chains.{Heads, heads_of, head_of, HasHead, IsPlaceBelow, LeadDown, chain, AreLinked, with_next_head, with_message, with_head}

-- the links of a node
pub record Leads (nodes : List ReceiptNode) (node : ReceiptNode) (k : ℕ) : Type 0 where
  -- the receipts from k on are the node's own and those of the linked node
  pub onward : chain nodes (Some k) ≡ node.receipt ∷ chain nodes node.next
  -- the node links to a lower index, or to none
  pub down : IsPlaceBelow node.next k

-- the index of the newest node is the number of older nodes
pub node_newest : (node : ReceiptNode) (older : List ReceiptNode) (k : ℕ) (d : ReceiptNode) → k ≡ length older → get_or (reverse (node ∷ older)) k d ≡ node
node_newest node older k d is = grind (arith, reverse-append (node ∷ []) older, length-reverse older, get_or-append_seam)

-- older nodes keep their indices
pub node_older : (node : ReceiptNode) (older : List ReceiptNode) (k : ℕ) (d : ReceiptNode) → k < length older → get_or (reverse (node ∷ older)) k d ≡ get_or (reverse older) k d
node_older node older k d h = grind (arith, reverse-append (node ∷ []) older, get_or_append_left, length-reverse)

-- each node links to an older one, and its chain continues there
pub leads_on : (nodes : List ReceiptNode) (k : ℕ) (d : ReceiptNode) → LeadDown nodes → k < length nodes → Leads nodes (get_or (reverse nodes) k d) k
leads_on [] k d down h = absurd (omega (arith, h))
leads_on (node ∷ older) k d down h = grind (arith, eqb_tells, node_newest, node_older, leads_on older k d down.1)

-- the heads of a process, after those of one process were replaced
heads_replaced : (heads : Heads) (p q : ℕ) (list : List (Option ℕ)) → p < length heads → heads_of (set heads p list) q ≡ cond (p == q) list (heads_of heads q)
heads_replaced heads p q list h = grind (arith, eqb_tells, get_or-set_same, cond-true, get_or-set_other)

opened_same : (list : List (Option ℕ)) (ssn i : ℕ) → get_or (with_next_head list ssn) i None ≡ get_or list i None
opened_same list ssn i = grind (arith, get_or_append_left, get_or-append_seam list None [] None, get_or_past, length-append)

-- one more message leaves all chains unchanged
pub message_leads : (heads : Heads) (m q : MsgName) → m.source.0 < length heads → head_of (with_message heads m) q ≡ head_of heads q
message_leads heads m q h = grind (arith, heads_replaced, opened_same)

-- the lists of heads never shrink
pub message_longer : (heads : Heads) (m : MsgName) (q : ℕ) → m.source.0 < length heads → length (heads_of heads q) ≤ length (heads_of (with_message heads m) q)
message_longer heads m q h = grind (arith, heads_replaced, length-append)

-- the next message of its source has a head
pub message_there : (heads : Heads) (m : MsgName) → m.source.0 < length heads → m.ssn ≤ length (heads_of heads m.source.0) → HasHead (with_message heads m) m
message_there heads m h next = grind (arith, length-set, heads_replaced, cond-true, eq-eqb, length-append)

-- replacing the head of one message changes no other head
pub head_leads : (heads : Heads) (m q : MsgName) (at : Option ℕ) → HasHead heads m → head_of (with_head heads m at) q ≡ cond (same_message m q) at (head_of heads q)
head_leads heads m q at has = grind (arith, eqb_tells, get_or-set_same, cond-true, get_or-set_other, cond-false)

-- replacing a head keeps the length of each list
pub head_lengths : (heads : Heads) (m : MsgName) (q : ℕ) (at : Option ℕ) → m.source.0 < length heads → length (heads_of (with_head heads m at) q) ≡ length (heads_of heads q)
head_lengths heads m q at h = grind (arith, heads_replaced, length-set)

-- the chain of each message, after one more receipt
pub receipt_leads : (heads : Heads) (nodes : List ReceiptNode) (m q : MsgName) (receipt : MessageReceipt) → HasHead heads m → AreLinked heads nodes → chain (record { receipt = receipt; next = head_of heads m } ∷ nodes) (head_of (with_head heads m (Some (length nodes))) q) ≡ cond (same_message m q) (receipt ∷ chain nodes (head_of heads q)) (chain nodes (head_of heads q))
receipt_leads heads nodes m q receipt has linked = grind (arith, head_leads, eqb_tells)

-- an empty head has no receipts
pub chain_ends : (nodes : List ReceiptNode) (at : Option ℕ) → ((k : ℕ) → at ≡ Some k → ⊥) → chain nodes at ≡ []
chain_ends [] at h = refl
chain_ends (node ∷ older) at h = grind (arith, chain_ends older at h)
