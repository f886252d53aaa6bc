use Rattle.std.proofs.Common.{◌≡◌, ◌≤◌, length}
use Rattle.std.specs.Prelude.{vec_len, vec_capacity}
use Rattle.causal_trace.specs.Past.{logs}
use Rattle.causal_trace.specs.State.{past_at}
use Rattle.causal_explain.specs.Inside.Marks.{AreMarks}
use Rattle.causal_explain.specs.Inside.Validities.{AreValidities}
use Rattle.causal_explain.proofs.marks.events_of_kind.Given as goal

-- holds after the entries so far
abbrev pub invariant-loop-i : goal.invariant-loop-i
invariant-loop-i l = record {
  count : length l.standings ≡ 256;
  stand : AreValidities (past_at l.entries l.i) (λ p past. logs past p l.fn.det) l.standings;
  marked : AreMarks l.fn.kind (past_at l.entries l.i) l.fn.det l.marks.items;
  len : vec_len l.marks ≡ l.i;
  room : length l.entries ≤ vec_capacity l.marks;
}
