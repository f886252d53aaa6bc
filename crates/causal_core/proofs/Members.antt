-- Which messages are in the list of pending messages.
use Rattle.std.proofs.Common.{ℕ, zero, suc, ◌≡◌, ◌+◌, ◌<◌, ◌∙◌, true, [], ◌∷◌, map, length, Some, None, sym, ap, arith}
use Rattle.std.specs.List.{list_any, range_with_len}
use Rattle.std.proofs.lemmas.List.Folds.{list_any-append, list_any_at}
use Rattle.std.proofs.lemmas.List.FromFn.{length-map-range_with_len, get_or-map-range_with_len}
use Rattle.std.proofs.lemmas.Map.Views.{any-filter_same}
use Rattle.std.proofs.lemmas.Option.{slice_get_within}
use Rattle.causal_name.specs.declared.Pid.{Pid}
use Rattle.causal_name.specs.declared.MsgName.{MsgName}
use Rattle.causal_name.specs.Names.{same_message}
use Rattle.causal_protocol.specs.Memory.{Memory, Memories, present_at, sent_message_of}
use Rattle.causal_protocol.specs.Naming.{message_name}
use Rattle.causal_core.specs.Pendings.{is_pending, names_sent, names_from, PendingIsExact}
use Rattle.causal_core.proofs.MemoriesFit.{there, kept_by}

same_is : (a b : MsgName) → same_message a b ≡ true → a ≡ b
same_is a b h = grind arith

same_itself : (m : MsgName) → same_message m m ≡ true
same_itself m = grind arith

-- each message that a process has sent is among its names
sent_named : (source ssn : ℕ) (m : Memory) → ssn < length m.sent → list_any (same_message (message_name (record { 0 = source }) ssn)) (names_sent source (Some m)) ≡ true
sent_named source ssn m h =
    list_any_at (same_message asked) (map named (range_with_len 0 (length m.sent))) ssn asked (omega (arith, h, length-map-range_with_len named 0 (length m.sent)))
    (ap (same_message asked) (get_or-map-range_with_len named 0 (length m.sent) ssn ssn asked h (let e : 0 + ssn ≡ ssn = omega arith in e)) ∙ same_itself asked)
  where
    named : ℕ → MsgName
    named = message_name (record { 0 = source })

    asked : MsgName
    asked = named ssn

-- each message that a process has sent is among the names of all processes
all_named : (p i source ssn : ℕ) (ms : Memories) (m : Memory) → source ≡ p + i → present_at ms i ≡ Some m → ssn < length m.sent → list_any (same_message (message_name (record { 0 = source }) ssn)) (names_from p ms) ≡ true
all_named p i source ssn [] m is there h = absurd (let e : None ≡ Some m = there in cc)
all_named p zero source ssn (o ∷ ms) m is there h = grind (arith, list_any-append, sent_named source ssn m h)
all_named p (suc i) source ssn (o ∷ ms) m is there h = grind (arith, list_any-append, all_named (p + 1) i source ssn ms m)

-- a pending message was sent, so it is among the names
pending_named : (ms : Memories) (q : Pid) (m : MsgName) → is_pending ms q m ≡ true → list_any (same_message m) (names_from 0 ms) ≡ true
pending_named ms q m h =
    let kept = there (sent_message_of ms m) (grind (arith, h)) in
    let sender = kept_by m.ssn (present_at ms m.source.0) kept.0 kept.1 in
    grind (arith, all_named 0 m.source.0 m.source.0 m.ssn ms sender.0, slice_get_within sender.0.sent m.ssn kept.0 sender.2)

pub pending_are_these : PendingIsExact
pending_are_these ms q m =
    any-filter_same (same_message m) (is_pending ms q) (is_pending ms q m) (λ k same. ap (is_pending ms q) (sym (same_is m k same))) (names_from 0 ms)
    ∙ grind (arith, pending_named ms q m)
