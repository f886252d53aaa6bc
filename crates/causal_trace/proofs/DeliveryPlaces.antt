-- The index of the newest receipt of a determinant, in the chain of its message.
use Rattle.std.proofs.lemmas.Grind.{common_steps}
use Rattle.std.proofs.Common.{ℕ, ◌≡◌, ◌+◌, ◌<◌, cond, List, [], ◌∷◌, length, get_or, reverse, Option, Some, None, refl, arith}
use Rattle.std.specs.Prelude.{nat_lt, ◌&&◌, IfSome}
use Rattle.std.proofs.lemmas.Bool.{eqb-true, cond-true, cond-false, cases_Bool}
use Rattle.std.proofs.lemmas.Bool.Decides.{eqb_tells}
use Rattle.causal_name.specs.declared.MsgName.{MsgName}
use Rattle.causal_name.specs.declared.Det.{Det}
use Rattle.causal_name.specs.Names.{same_message, message_of}
use Rattle.causal_trace.specs.declared.chains.MessageReceipt.{MessageReceipt}
use Rattle.causal_trace.specs.declared.chains.ReceiptNode.{ReceiptNode}
use Rattle.causal_trace.specs.Inside.Chains.{Heads, HasHead, LeadDown, AreLinked, head_of, is_receipt_of, receipt_index, with_head}
use Rattle.causal_trace.proofs.ReceiptChains.{head_leads, leads_on, node_newest, node_older}

-- a search from a node finds the node's own index, or continues at the linked node
abbrev pub GoesOn : ℕ → Det → List ReceiptNode → ReceiptNode → ℕ → Type 0
GoesOn n d nodes node k = receipt_index n d nodes (Some k) ≡ cond (nat_lt k n && is_receipt_of d node.receipt) (Some k) (receipt_index n d nodes node.next)

pub place_on : (n : ℕ) (d : Det) (nodes : List ReceiptNode) (k : ℕ) (x : ReceiptNode) → LeadDown nodes → k < length nodes → GoesOn n d nodes (get_or (reverse nodes) k x) k
place_on n d [] k x down h = absurd (omega (arith, h))
place_on n d (node ∷ older) k x down h =
    grind (arith, eqb_tells, node_newest, node_older, place_on n d older k x down.1, leads_on)

-- an empty chain has no such receipt
pub place_none : (n : ℕ) (d : Det) (nodes : List ReceiptNode) (at : Option ℕ) → ((k : ℕ) → at ≡ Some k → ⊥) → receipt_index n d nodes at ≡ None
place_none n d [] at h = refl
place_none n d (node ∷ older) at h = grind (arith, place_none n d older at h)

-- after one more receipt, a search finds it if it matches, and otherwise what it found before
pub receipt_placed : (heads : Heads) (nodes : List ReceiptNode) (m : MsgName) (n : ℕ) (d : Det) (receipt : MessageReceipt) → HasHead heads m → AreLinked heads nodes
    → receipt_index n d (record { receipt = receipt; next = head_of heads m } ∷ nodes) (head_of (with_head heads m (Some (length nodes))) (message_of d)) ≡ cond (same_message m (message_of d) && (nat_lt (length nodes) n && is_receipt_of d receipt)) (Some (length nodes)) (receipt_index n d nodes (head_of heads (message_of d)))
receipt_placed heads nodes m n d receipt has linked =
    grind (arith, common_steps, head_leads heads m (message_of d) (Some (length nodes)) has, eqb_tells, linked.heads_lead (message_of d))

-- ---- an older receipt with the same determinant

-- an index that is found is that of a node
pub place_within : (n : ℕ) (d : Det) (nodes : List ReceiptNode) (at : Option ℕ) (m : ℕ) → receipt_index n d nodes at ≡ Some m → m < length nodes
place_within n d [] at m is = absurd (let x : None ≡ Some m = is in cc)
place_within n d (node ∷ older) at m is = grind (arith, cond-true, place_within n d older node.next m, cond-false, place_within n d older at m)

-- it is among those searched for
pub place_among : (n : ℕ) (d : Det) (nodes : List ReceiptNode) (at : Option ℕ) → IfSome (receipt_index n d nodes at) (λ i. i < n)
place_among n d [] at = tt
place_among n d (node ∷ older) at = grind (arith, place_among n d older node.next, place_among n d older at)

-- if the newest receipt among the first m + 1 has index m, the search from there finds the newest among the first m
pub place_before : (d : Det) (nodes : List ReceiptNode) (at : Option ℕ) (m : ℕ) → receipt_index (m + 1) d nodes at ≡ Some m → receipt_index m d nodes at ≡ receipt_index m d nodes (Some m)
place_before d [] at m is = refl
place_before d (node ∷ older) at m is =
    grind (arith, cases_Bool, cond-true, eqb-true, cond-false, place_within, place_before d older node.next m, place_before d older at m)
