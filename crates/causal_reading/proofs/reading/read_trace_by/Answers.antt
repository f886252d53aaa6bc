use Rattle.std.proofs.Common.{rules, ◌≡◌, ◌++◌, append-nil, length}
use Rattle.std.proofs.lemmas.List.{nil_from_length}
use Rattle.causal_trace.specs.Limits.{default_entries}
use Rattle.causal_reading.proofs.FeedLemmas.{cut_more}
use Rattle.causal_reading.proofs.reading.read_trace_by.Goals as goal

pub loop-left-preserved : goal.loop-left-preserved
loop-left-preserved g c =
    let i = c.loop-left.invariant in (
      i.0 ++ c.split_at.result.0.now,
      cut_more c.args.bytes.now i.0 c.loop-left.left.now c.split_at.result.0.now c.split_at.result.1.now _ i.1 c.split_at.ensures.front c.split_at.ensures.back,
      c.in-Ok.ensures default_entries i.0 i.2,
    )

pub returns-in-Err-clause-err : goal.returns-in-Err-clause-err
returns-in-Err-clause-err g c =
    let i = c.loop-left.invariant in
    let whole = cut_more c.args.bytes.now i.0 c.loop-left.left.now c.split_at.result.0.now c.split_at.result.1.now _ i.1 c.split_at.ensures.front c.split_at.ensures.back in
    rw (c.into_fault.ensures, whole) (λ other. (c.in-Err.ensures default_entries i.0 i.2 c.split_at.result.1.now).first other)

pub returns-in-Err-clause-memory : goal.returns-in-Err-clause-memory
returns-in-Err-clause-memory g c =
    let i = c.loop-left.invariant in
    let whole = cut_more c.args.bytes.now i.0 c.loop-left.left.now c.split_at.result.0.now c.split_at.result.1.now _ i.1 c.split_at.ensures.front c.split_at.ensures.back in
    rw (c.into_fault.ensures, whole) (λ wants. (c.in-Err.ensures default_entries i.0 i.2 c.split_at.result.1.now).memory wants)

pub returns-in-Err-finish-clause-err : goal.returns-in-Err-finish-clause-err
returns-in-Err-finish-clause-err g c =
    let i = c.loop-left.invariant in
    let none : length c.loop-left.left.now ≡ 0 = search rules in
    rw (c.into_fault-in-Err-finish.ensures, i.1, nil_from_length _ none, append-nil i.0) (λ other. (c.in-Err-finish.ensures.err default_entries i.0 i.2).first other)

pub returns-in-Err-finish-clause-memory : goal.returns-in-Err-finish-clause-memory
returns-in-Err-finish-clause-memory g c =
    let i = c.loop-left.invariant in
    let none : length c.loop-left.left.now ≡ 0 = search rules in
    rw (c.into_fault-in-Err-finish.ensures, i.1, nil_from_length _ none, append-nil i.0) (λ wants. (c.in-Err-finish.ensures.err default_entries i.0 i.2).memory wants)

pub returns-in-Ok-finish : goal.returns-in-Ok-finish
returns-in-Ok-finish g c =
    let i = c.loop-left.invariant in
    let none : length c.loop-left.left.now ≡ 0 = search rules in
    record { ok = rw (i.1, nil_from_length _ none, append-nil i.0) (c.in-Ok-finish.ensures.ok default_entries i.0 i.2); err = tt; memory = tt }
