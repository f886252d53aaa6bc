-- Pending messages are listed in ascending order.
use Rattle.std.proofs.Common.{ℕ, zero, suc, ◌≡◌, ◌<◌, ◌+◌, true, List, [], ◌∷◌, ◌++◌, map, get_or, length, refl, sym, ap, ap₂, arith}
use Rattle.std.specs.Prelude.{All, AllPairs}
use Rattle.std.specs.List.{range_with_len}
use Rattle.std.specs.Option.{option_map_or}
use Rattle.std.specs.Cmp.{nat_cmp_is}
use Rattle.std.specs.Ordering.{nat_cmp, ordering_then, is_lt}
use Rattle.std.specs.declared.cmp.Ordering.TheVariants.{Less, Equal}
use Rattle.std.proofs.lemmas.List.Elements.{All-nil, All-cons, All-append}
use Rattle.std.proofs.lemmas.List.Kept.{AllPairs-cons, AllPairs-filter}
use Rattle.causal_name.specs.declared.Pid.{Pid}
use Rattle.causal_name.specs.declared.MsgName.{MsgName}
use Rattle.causal_name.specs.Names.{message_cmp}
use Rattle.causal_protocol.specs.Memory.{Memories}
use Rattle.causal_protocol.specs.Naming.{message_name}
use Rattle.causal_core.specs.Pendings.{is_pending, names_from, pending_in}
use Rattle.causal_shared.specs.Pending.{AreAscending}

abbrev Precedes : MsgName → MsgName → Type 0
Precedes a b = is_lt (message_cmp a b) ≡ true

abbrev numbered : ℕ → ℕ → MsgName
numbered p ssn = message_name (record { 0 = p }) ssn

abbrev IsLater : ℕ → MsgName → Type 0
IsLater p b = p < b.source.0

of_sender : (p a c : ℕ) → a < c → Precedes (numbered p a) (numbered p c)
of_sender p a c lt = ap₂ (λ x y. is_lt (ordering_then x y)) (sym (nat_cmp_is p p Equal refl)) (sym (nat_cmp_is a c Less lt))

of_senders : (p a : ℕ) (b : MsgName) → p < b.source.0 → Precedes (numbered p a) b
of_senders p a b lt = ap (λ x. is_lt (ordering_then x (nat_cmp a b.ssn))) (sym (nat_cmp_is p b.source.0 Less lt))

sent_after : (p a c k : ℕ) → a < c → All (Precedes (numbered p a)) (map (numbered p) (range_with_len c k))
sent_after p a c zero lt = All-nil (Precedes (numbered p a))
sent_after p a c (suc k) lt = All-cons (Precedes (numbered p a)) (numbered p c) (map (numbered p) (range_with_len (c + 1) k)) (of_sender p a c lt) (sent_after p a (c + 1) k (omega (arith, lt)))

sent_later : (p q c k : ℕ) → p < q → All (IsLater p) (map (numbered q) (range_with_len c k))
sent_later p q c zero lt = All-nil (IsLater p)
sent_later p q c (suc k) lt = All-cons (IsLater p) (numbered q c) (map (numbered q) (range_with_len (c + 1) k)) lt (sent_later p q (c + 1) k lt)

later : (p q : ℕ) (ms : Memories) → p < q → All (IsLater p) (names_from q ms)
later p q [] lt = All-nil (IsLater p)
later p q (m ∷ ms) lt = All-append (IsLater p) (map (numbered q) (range_with_len 0 (option_map_or (λ m. length m.sent) m 0))) (names_from (q + 1) ms) (sent_later p q 0 _ lt) (later p (q + 1) ms (omega (arith, lt)))

all_after : (p a : ℕ) (xs : List MsgName) → All (IsLater p) xs → All (Precedes (numbered p a)) xs
all_after p a xs h k d lt = of_senders p a (get_or xs k d) (h k d lt)

before : (p a k : ℕ) (rest : List MsgName) → All (IsLater p) rest → AllPairs Precedes rest → AllPairs Precedes (map (numbered p) (range_with_len a k) ++ rest)
before p a zero rest above ascends = ascends
before p a (suc k) rest above ascends =
    AllPairs-cons Precedes (numbered p a) (map (numbered p) (range_with_len (a + 1) k) ++ rest)
    (All-append (Precedes (numbered p a)) (map (numbered p) (range_with_len (a + 1) k)) rest (sent_after p a (a + 1) k (omega arith)) (all_after p a rest above))
    (before p (a + 1) k rest above ascends)

from_ascends : (p : ℕ) (ms : Memories) → AllPairs Precedes (names_from p ms)
from_ascends p [] = λ i j d lt within. absurd (omega (arith, within))
from_ascends p (m ∷ ms) = before p 0 (option_map_or (λ m. length m.sent) m 0) (names_from (p + 1) ms) (later p (p + 1) ms (omega arith)) (from_ascends (p + 1) ms)

-- the pending messages of a process ascend by source and send sequence number
pub pending_ascends : (ms : Memories) (q : Pid) → AreAscending (pending_in ms q)
pending_ascends ms q = AllPairs-filter Precedes (is_pending ms q) (names_from 0 ms) (from_ascends 0 ms)
