-- The names that a node has received, and the message that its log names for the next delivery.
use Rattle.std.proofs.Common.{◌≡◌, ◌∙◌, ◌==◌, Bool, true, ◌&&◌, ◌||◌, List, [], ◌∷◌, length, Option, Some, None, refl, sym, ap, arith}
use Rattle.std.specs.List.{list_any}
use Rattle.std.specs.Option.{option_map}
use Rattle.std.specs.BTreeMap.{is_at}
use Rattle.std.specs.BTreeSet.{insert_key}
use Rattle.std.specs.Ordering.{nat_cmp, is_eq, ordering_then, match_ordering}
use Rattle.std.specs.FinMap as fin
use Rattle.std.specs.declared.cmp.Ordering.{Ordering}
use Rattle.std.specs.declared.cmp.Ordering.TheVariants.{Less, Equal, Greater}
use Rattle.std.proofs.Math.Bool.{or_comm}
use Rattle.std.proofs.lemmas.Bool.{and_parts, eqb-true, eq-eqb, both_ways, not-false}
use Rattle.causal_name.specs.declared.Pid.{Pid}
use Rattle.causal_name.specs.declared.MsgName.{MsgName}
use Rattle.causal_name.specs.declared.Det.{Det}
use Rattle.causal_name.specs.Names.{same_message, message_cmp, pid_cmp, message_of}
use Rattle.causal_name.proofs.Lemmas.DetOrder.{nat_ties}
use Rattle.causal_log.specs.Slots.{first_of_slot, is_of_slot}
use Rattle.causal_log.proofs.Lemmas.LogLists.{keys_logged}
use Rattle.causal_log.proofs.Lemmas.Slots.{first_fits, none_fits}
use Rattle.causal_protocol.specs.Naming.{min_det}
use Rattle.causal_protocol.specs.Memory.{Memory}
use Rattle.causal_protocol.specs.MemoryQueries.{has_entry}
use Rattle.causal_memory.specs.Namings.{named_message_by}
use Rattle.causal_node.specs.declared.node_fault.NodeFault.{NodeFault}
use Rattle.causal_node.specs.NodeStates.{has_name}
use Rattle.causal_node.specs.NodeRefusals.{naming_fault}
use Rattle.causal_calls.specs.StepLaws.{HasLogSingleSlots}
use Rattle.causal_calls.proofs.Lemmas.Refusals.{or_else_none}

-- names
pub message_is : (a b : MsgName) → same_message a b ≡ true → a ≡ b
message_is a b h =
    let both = and_parts (a.source.0 == b.source.0) (a.ssn == b.ssn) h in
    λ i. record { source = record { 0 = eqb-true a.source.0 b.source.0 both.0 i }; ssn = eqb-true a.ssn b.ssn both.1 i }

then_eq : (a b : Ordering) → is_eq (ordering_then a b) ≡ (is_eq a && is_eq b)
then_eq Less b = refl
then_eq _ b = refl

pub message_ties : (a b : MsgName) → is_at (message_cmp a) b ≡ same_message a b
message_ties a b = then_eq (pid_cmp a.source b.source) (nat_cmp a.ssn b.ssn) ∙ (λ i. sym (nat_ties a.source.0 b.source.0) i && sym (nat_ties a.ssn b.ssn) i)

pub has_names : (names : List MsgName) (m : MsgName) → has_name names m ≡ list_any (same_message m) names
has_names [] m = refl
has_names (x ∷ xs) m = λ i. message_ties m x i || has_names xs m i

-- the names after one more is inserted
pub inserted_name : (names : List MsgName) (name m : MsgName) → list_any (same_message m) (insert_key message_cmp names name) ≡ (list_any (same_message m) names || same_message m name)
inserted_name [] name m = grind arith
inserted_name (x ∷ xs) name m = by (message_cmp name x) refl (inserted_name xs name m)
  where
    by : (o : Ordering) → message_cmp name x ≡ o → list_any (same_message m) (insert_key message_cmp xs name) ≡ (list_any (same_message m) xs || same_message m name)
        → list_any (same_message m) (match_ordering o (name ∷ x ∷ xs) (x ∷ xs) (x ∷ insert_key message_cmp xs name)) ≡ ((same_message m x || list_any (same_message m) xs) || same_message m name)
    by Less is rest = or_comm (same_message m name) _
    by Equal is rest = grind (arith, ap (same_message m) (message_is name x (sym (message_ties name x) ∙ ap is_eq is)))
    by Greater is rest = grind (arith, rest)

-- the message that is named for the next delivery is the one that is delivered
module _ (me : Pid) (m : Memory) (name : MsgName) (single : HasLogSingleSlots m.log) (d : Det) (has : has_entry d m.log ≡ true) (mine : d.dest ≡ me) (next : d.rsn ≡ length m.received) where
  fits : is_of_slot me (length m.received) d ≡ true
  fits = (λ i. ((mine i).0 == me.0) && next i == length m.received) ∙ (λ i. eq-eqb me.0 me.0 refl i && eq-eqb (length m.received) (length m.received) refl i)

  by_first : (o : Option Det) → first_of_slot me (length m.received) (fin.keys m.log) ≡ o → (reserved : Bool) (rest : Option NodeFault) → naming_fault (option_map message_of (min_det o None)) reserved name rest ≡ None → message_of d ≡ name
  by_first None is reserved rest h = absurd (both_ways _ (none_fits (is_of_slot me (length m.received)) (fin.keys m.log) d is (keys_logged m.log d ∙ has)) fits)
  by_first (Some least) is reserved rest h =
      let found = first_fits (is_of_slot me (length m.received)) (fin.keys m.log) least is in
      let slot = and_parts (least.dest.0 == me.0) (least.rsn == length m.received) found.0 in
      let there : has_entry least m.log ≡ true = sym (keys_logged m.log least) ∙ found.1 in
      let dest : least.dest ≡ d.dest = (λ i. record { 0 = eqb-true least.dest.0 me.0 slot.0 i }) ∙ sym mine in
      let same : least ≡ d = single least d there has dest (eqb-true least.rsn (length m.received) slot.1 ∙ sym next) in
      ap message_of (sym same) ∙ message_is (message_of least) name (not-false _ (or_else_none _ _ rest h).0)

  pub named_only : (reserved : Bool) (rest : Option NodeFault) → naming_fault (named_message_by me m None) reserved name rest ≡ None → message_of d ≡ name
  named_only = by_first (first_of_slot me (length m.received) (fin.keys m.log)) refl
