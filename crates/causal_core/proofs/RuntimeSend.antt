-- A send of the runtime.
use Rattle.std.proofs.Common.{ℕ, suc, ◌≡◌, ◌+◌, ◌<◌, ◌≤◌, ◌⊎◌, true, cond, List, [], ◌∷◌, ◌++◌, length, Option, Some, None, refl, ap, arith, slice_get, slice_set, set-set, length-append}
use Rattle.std.specs.Prelude.{nat_lt}
use Rattle.std.specs.List.{list_all, filter_map}
use Rattle.std.proofs.lemmas.List.{length-map}
use Rattle.causal_name.specs.declared.Pid.{Pid}
use Rattle.causal_name.specs.Names.{is_ascending}
use Rattle.causal_process.specs.declared.message.Outgoing.{Outgoing}
use Rattle.causal_log.specs.declared.batch.Item.{Item}
use Rattle.causal_log.specs.Logs.{batch_items, dets_of}
use Rattle.causal_trace.specs.declared.entry.Entry.{Entry}
use Rattle.causal_trace.specs.declared.entry.Entry.TheVariants.{Send}
use Rattle.causal_trace.specs.Past.{listed_in}
use Rattle.causal_trace.specs.Rows as Rows
use Rattle.causal_trace.specs.Rows.{are_delivered}
use Rattle.causal_protocol.specs.Memory.{Memory, Memories, present_at, with_sent_message}
use Rattle.causal_protocol.specs.Run.{memories}
use Rattle.causal_protocol.specs.Steps.{append_all, sends_of, receiver_of, AreSends}
use Rattle.causal_core.specs.Inside.MemoryInvariant.{MatchesEntries}
use Rattle.causal_core.specs.View.{sends_to_processes, receivers}
use Rattle.causal_core.specs.Inside.Memories.{keep_all}
use Rattle.causal_core.proofs.Lemmas.Slices.{slice_get-set_same}
use Rattle.causal_core.proofs.MemoriesFit.{placed_more}

-- if the trace has capacity, the next send of an up process is a legal entry
pub send_legal : (n : ℕ) (past : List Entry) (q to : Pid) (m : Memory) → q.0 < n → to.0 < n → MatchesEntries past q.0 m → length past < 16777216 → listed_in past ≤ 268435456 → Rows.first_fault n past (Send q to (length m.sent)) ≡ None
unfolding Rows.rows_within
send_legal n past q to m from process fit short within = grind arith

-- the last element of a list with one more
get_last : {X : Type 0} (xs : List X) (x y : X) (i : ℕ) → slice_get (xs ++ x ∷ []) i ≡ Some y → (slice_get xs i ≡ Some y) ⊎ ((i ≡ length xs) × (x ≡ y))
get_last [] x y i h = grind arith
get_last (each ∷ others) x y i h = grind (arith, get_last others)

-- q's memory matches the entries after a send that it keeps
pub send_fits : (past : List Entry) (q to : Pid) (batch : List Item) (m : Memory) → MatchesEntries past q.0 m → is_ascending (dets_of batch) ≡ true → are_delivered past (dets_of batch) ≡ true → MatchesEntries (Send q to (length m.sent) ∷ past) q.0 (with_sent_message to (length past) batch m)
send_fits past q to batch m fit ascending delivered = grind (arith, length-append, get_last, placed_more)

-- writing the present element changes nothing
pub set_same : {X : Type 0} (xs : List (Option X)) (p : ℕ) (x : Option X) → present_at xs p ≡ x → slice_set xs p x ≡ xs
set_same [] p x h = grind arith
set_same (each ∷ others) p x h = grind (arith, set_same others)

-- the memories after the sends of a step, if q's memory before them is m
pub memories_sends : (n f : ℕ) (writers : List Pid) (past : List Entry) (q : Pid) (ssn : ℕ) (tos : List Pid) (ms : Memories) (m : Memory) → slice_set ms q.0 (Some m) ≡ memories n f writers past → q.0 < length ms
    → slice_set ms q.0 (Some (keep_all (length past) (batch_items f m.log) tos m)) ≡ memories n f writers (append_all (sends_of q ssn tos) past)
unfolding memories keep_all sends_of
memories_sends n f writers past q ssn [] ms m same inside = same
memories_sends n f writers past q ssn (to ∷ tos) ms m same inside =
    grind (
      arith,
      memories_sends n f writers (Send q to ssn ∷ past) q (ssn + 1) tos ms (with_sent_message to (length past) (batch_items f m.log) m),
      set-set,
      slice_get-set_same,
    )

-- one more entry comes last
pub pushed_last : (es : List Entry) (e : Entry) (past : List Entry) → append_all (es ++ e ∷ []) past ≡ e ∷ append_all es past
pushed_last [] e past = refl
pushed_last (x ∷ es) e past = pushed_last es e (x ∷ past)

-- one more send of a step
pub addressed_more : (n : ℕ) (sends : List Outgoing) (s : Outgoing) → sends_to_processes n (sends ++ s ∷ []) ≡ sends_to_processes n sends ++ cond (nat_lt s.to.0 n) (s ∷ []) []
addressed_more n [] s = refl
addressed_more n (t ∷ ts) s = grind (arith, addressed_more n ts s)

-- no more sends go to processes than a step makes
pub addressed_few : (n : ℕ) (sends : List Outgoing) → length (sends_to_processes n sends) ≤ length sends
addressed_few n [] = omega arith
addressed_few n (s ∷ ss) = grind (arith, addressed_few n ss)

-- each send to a process has one receiver
pub receivers_long : (n : ℕ) (sends : List Outgoing) → length (receivers n sends) ≡ length (sends_to_processes n sends)
receivers_long n sends = length-map (sends_to_processes n sends) (λ s. s.to)

-- the receivers are processes
pub receivers_below : (n : ℕ) (sends : List Outgoing) → list_all (λ to. nat_lt to.0 n) (receivers n sends) ≡ true
receivers_below n [] = refl
receivers_below n (s ∷ ss) = grind (arith, receivers_below n ss)

-- the message of one more send is kept last, with the position after those of the others
pub keep_more : (send : ℕ) (batch : List Item) (tos : List Pid) (to : Pid) (m : Memory) → keep_all send batch (tos ++ to ∷ []) m ≡ with_sent_message to (send + length tos) batch (keep_all send batch tos m)
unfolding keep_all
keep_more send batch [] to m = grind arith
keep_more send batch (x ∷ xs) to m = grind (arith, keep_more (send + 1) batch xs to (with_sent_message x send batch m))

-- one more send comes last, with the number after those of the others
pub sends_more : (q : Pid) (ssn : ℕ) (tos : List Pid) (to : Pid) → sends_of q ssn (tos ++ to ∷ []) ≡ sends_of q ssn tos ++ Send q to (ssn + length tos) ∷ []
unfolding sends_of
sends_more q ssn [] to = grind arith
sends_more q ssn (x ∷ xs) to = grind (arith, sends_more q (ssn + 1) xs to)

-- a process then keeps one more message for each receiver
pub kept_length : (send : ℕ) (batch : List Item) (tos : List Pid) (m : Memory) → length (keep_all send batch tos m).sent ≡ length m.sent + length tos
unfolding keep_all
kept_length send batch [] m = omega arith
kept_length send batch (x ∷ xs) m = grind (arith, kept_length (send + 1) batch xs (with_sent_message x send batch m), length-append)

-- there is one send for each receiver
pub sends_length : (q : Pid) (ssn : ℕ) (tos : List Pid) → length (sends_of q ssn tos) ≡ length tos
unfolding sends_of
sends_length q ssn [] = refl
sends_length q ssn (x ∷ xs) = ap suc (sends_length q (ssn + 1) xs)

receivers_of_sends : (q : Pid) (ssn : ℕ) (tos : List Pid) → filter_map receiver_of (sends_of q ssn tos) ≡ tos
unfolding sends_of
receivers_of_sends q ssn [] = refl
receivers_of_sends q ssn (x ∷ xs) = ap (λ ys. x ∷ ys) (receivers_of_sends q (ssn + 1) xs)

-- the entries of sends to processes are sends of the step
pub are_sends : (n : ℕ) (q : Pid) (ssn number : ℕ) (sends : List Outgoing) → number ≡ length (receivers n sends) → length sends ≤ 8 → AreSends n q ssn number (sends_of q ssn (receivers n sends))
are_sends n q ssn number sends count few = grind (arith, receivers_of_sends, sends_length, receivers_below, receivers_long, addressed_few)
