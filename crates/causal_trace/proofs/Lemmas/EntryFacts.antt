-- Facts about a legal entry.
use Rattle.std.proofs.Common.{ℕ, zero, suc, ◌≡◌, ◌<◌, inl, inr, Bool, true, false, List, [], ◌∷◌, length, Some, None, refl, sym, arith}
use Rattle.std.specs.Prelude.{not, slice_get}
use Rattle.std.proofs.lemmas.Bool.{false≢true, cases_lt, eqb-true}
use Rattle.causal_name.specs.declared.Pid.{Pid}
use Rattle.causal_name.specs.declared.Det.{Det}
use Rattle.causal_trace.specs.declared.entry.Entry.{Entry}
use Rattle.causal_trace.specs.declared.entry.Entry.TheVariants.{Deliver, Restart}
use Rattle.causal_trace.specs.declared.fault.TraceFault.{TraceFault}
use Rattle.causal_trace.specs.declared.fault.TraceFault.TheVariants.{NotUp, NotDown, NoSend}
use Rattle.causal_trace.specs.Past.{is_down, is_sent_to}
use Rattle.causal_trace.specs.Rows.{rows_within, refusal_rows, first_refusal, first_fault, AreLegalEntries}
use Rattle.causal_trace.specs.Dependence.{is_delivery_of}
use Rattle.causal_trace.proofs.Lemmas.Instants.{entry_beyond}
use Rattle.causal_trace.specs.Dependence.{AreForward}

-- a test whose negation is false holds
pub not_false : (b : Bool) → not b ≡ false → b ≡ true
not_false true h = refl
not_false false h = sym h

-- if a list of rows returns no error, none of its rows holds
pub row_fails : (told : List (Bool × TraceFault)) → first_refusal told ≡ None → (k : ℕ) (row : Bool × TraceFault) → slice_get told k ≡ Some row → row.0 ≡ false
row_fails [] h k row at = absurd (let e : None ≡ Some row = at in cc)
row_fails (first ∷ rest) h zero row at = grind arith
row_fails (first ∷ rest) h (suc k) row at = row_fails rest (grind arith) k row at

-- the receiver of a legal delivery is up
pub delivers_up : (n : ℕ) (past : List Entry) (to : Pid) (send rsn : ℕ) (listed : List Det) → first_fault n past (Deliver to send rsn listed) ≡ None → is_down past to.0 ≡ false
unfolding rows_within
delivers_up n past to send rsn listed h = row_fails (refusal_rows n past (Deliver to send rsn listed)) h 2 (is_down past to.0, NotUp) refl

-- the process of a legal restart is down
pub restarts_down : (n : ℕ) (past : List Entry) (who : Pid) (listed : List Det) → first_fault n past (Restart who listed) ≡ None → is_down past who.0 ≡ true
unfolding rows_within
restarts_down n past who listed h = not_false (is_down past who.0) (row_fails (refusal_rows n past (Restart who listed)) h 2 (not (is_down past who.0), NotDown) refl)

-- a legal delivery names an earlier send to its receiver
pub delivers_sent : (n : ℕ) (past : List Entry) (to : Pid) (send rsn : ℕ) (listed : List Det) → first_fault n past (Deliver to send rsn listed) ≡ None → is_sent_to past send to.0 ≡ true
unfolding rows_within
delivers_sent n past to send rsn listed h = not_false (is_sent_to past send to.0) (row_fails (refusal_rows n past (Deliver to send rsn listed)) h 3 (not (is_sent_to past send to.0), NoSend) refl)

-- the position of a send to a process is below the length of the past
pub sent_within : (past : List Entry) (send p : ℕ) → is_sent_to past send p ≡ true → send < length past
sent_within past send p h = grind (arith, cases_lt, entry_beyond)

-- a delivered message was sent to some process
pub delivery_sent : (n : ℕ) (past : List Entry) (e : Entry) (i : ℕ) → first_fault n past e ≡ None → is_delivery_of i e ≡ true → (p : ℕ) × (is_sent_to past i p ≡ true)
delivery_sent n past (Deliver to send rsn listed) i h is = (to.0, grind (arith, eqb-true, delivers_sent))
delivery_sent n past e i h is = absurd (false≢true is)

-- in a well-formed trace, deliveries name earlier sends
pub accepted_forward : (n : ℕ) (past : List Entry) → AreLegalEntries n past → AreForward past
accepted_forward n [] h j i d = absurd d
accepted_forward n (e ∷ past) h j i (inl d) = accepted_forward n past h.0 j i d
accepted_forward n (e ∷ past) h j i (inr d) = let sent = delivery_sent n past e i h.1 d.1 in omega (arith, d.0, sent_within past i sent.0 sent.1)
