-- How many entries a step appended, from its reply.
use Rattle.std.specs.Prelude.{ℕ, zero, suc, ◌+◌, Bool, true, false}
use Rattle.causal_trace.specs.declared.entry.Entry.{Entry}
use Rattle.causal_trace.specs.declared.entry.Entry.TheVariants.{Stable}
use Rattle.causal_protocol.specs.declared.request.Reply.{Reply}
use Rattle.causal_protocol.specs.declared.request.Reply.TheVariants.{Delivered, Crashed, Restarted, Flushed, Forgotten, Refused, FlushRefused}

-- whether an entry says that a determinant became stable
abbrev pub is_stable_entry : Entry → Bool
is_stable_entry (Stable det) = true
is_stable_entry _ = false

-- one entry lists all that is forgotten; no entry if nothing is
abbrev pub forget_entry_count : ℕ → ℕ
forget_entry_count zero = 0
forget_entry_count (suc n) = 1

-- the number of entries that a step with this reply appended
abbrev pub reply_entries : Reply → ℕ
reply_entries (Delivered d) = 1 + d.sends
reply_entries (Crashed first) = 1
reply_entries (Restarted d) = 1 + d.sends
reply_entries (Flushed count) = count
reply_entries (Forgotten count) = forget_entry_count count
reply_entries (Refused fault) = 0
reply_entries (FlushRefused f) = f.done
