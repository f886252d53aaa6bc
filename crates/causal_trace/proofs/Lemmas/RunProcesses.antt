-- Only processes of the run act, are down or log determinants.
use Rattle.std.proofs.Common.{ℕ, ◌≡◌, ◌<◌, true, List, [], ◌∷◌, None, arith}
use Rattle.std.proofs.lemmas.Bool.{false≢true, eqb-true}
use Rattle.causal_name.specs.declared.Pid.{Pid}
use Rattle.causal_name.specs.declared.Det.{Det}
use Rattle.causal_trace.specs.declared.entry.Entry.{Entry}
use Rattle.causal_trace.specs.declared.entry.Entry.TheVariants.{Send, Deliver, Crash, Restart}
use Rattle.causal_trace.specs.Past.{is_down, logs}
use Rattle.causal_trace.specs.Rows.{AreLegalEntries, first_fault, rows_within}

-- a process that crashes, restarts, delivers or sends is a process of the run
pub crash_inside : (n : ℕ) (past : List Entry) (who : Pid) → first_fault n past (Crash who) ≡ None → who.0 < n
unfolding rows_within
crash_inside n past who legal = grind arith

pub restart_inside : (n : ℕ) (past : List Entry) (who : Pid) (listed : List Det) → first_fault n past (Restart who listed) ≡ None → who.0 < n
unfolding rows_within
restart_inside n past who listed legal = grind arith

pub deliver_inside : (n : ℕ) (past : List Entry) (to : Pid) (send rsn : ℕ) (listed : List Det) → first_fault n past (Deliver to send rsn listed) ≡ None → to.0 < n
unfolding rows_within
deliver_inside n past to send rsn listed legal = grind arith

pub send_inside : (n : ℕ) (past : List Entry) (from to : Pid) (ssn : ℕ) → first_fault n past (Send from to ssn) ≡ None → from.0 < n
unfolding rows_within
send_inside n past from to ssn legal = grind arith

-- only processes of the run are down
pub down_inside : (n : ℕ) (past : List Entry) (p : ℕ) → AreLegalEntries n past → is_down past p ≡ true → p < n
down_inside n [] p a h = absurd (false≢true h)
down_inside n (e ∷ past) p a h = grind (arith, down_inside n past p a.0, eqb-true, crash_inside)

-- only processes of the run log determinants
pub logs_inside : (n : ℕ) (past : List Entry) (p : ℕ) (d : Det) → AreLegalEntries n past → logs past p d ≡ true → p < n
logs_inside n [] p d a h = absurd (false≢true h)
logs_inside n (e ∷ past) p d a h = grind (arith, logs_inside n past p d a.0, eqb-true, deliver_inside, restart_inside)
