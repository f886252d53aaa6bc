use Rattle.causal_audit.proofs.Common.{◌≡◌, ◌+◌, ◌∙◌, List, Det, drop, length, sym, ap, subst, arith, past_at, past_more, past_length}
use Rattle.std.specs.List.{flat_map}
use Rattle.causal_trace.specs.Past.{mentioned_dets}
use Rattle.causal_audit.specs.Inside.Index.Lists.{AreMentions, AreNumbersOf}
use Rattle.causal_audit.proofs.index.Capacities.{spare_front}
use Rattle.causal_audit.proofs.index.Filings.{mentions_of_none}
use Rattle.causal_audit.proofs.index.Numbered.{next_numbers, numbers_low}
use Rattle.causal_audit.proofs.index.mentions.build_mentions.Goals as goal
use Rattle.causal_audit.proofs.index.mentions.build_mentions.Goals.{After-split_at}

pub allocate_lists-requires-clause-low : goal.allocate_lists-requires-clause-low
allocate_lists-requires-clause-low c =
    numbers_low c.args.among c.requires.numbered.0 (flat_map mentioned_dets c.args.entries.now) c.args.numbers.now c.requires.numbered.1

pub loop-i-init : goal.loop-i-init
loop-i-init c = record {
  many = c.in_ok-builder.ensures.count;
  spare = c.in_ok-builder.ensures.capacity;
  kept = λ delivered numbered. mentions_of_none delivered c.in_ok-builder.builder.lists c.in_ok-builder.ensures.empty;
  left = λ delivered numbered. numbered;
}

pub note-requires-clause-capacity : goal.note-requires-clause-capacity
note-requires-clause-capacity c = spare_front c.loop-i.builder c.split_at.result.0.now c.split_at.result.1.now (rw c.split_at.ensures.by_index.0 at c.loop-i.invariant.spare)

pub split_at-requires : goal.split_at-requires
split_at-requires c =
    omega (arith, (next_numbers c.args.among c.requires.numbered.0 _ _ _ _ c.loop-i-test.true c.index-entries-i.is (c.loop-i.invariant.left _ c.requires.numbered.1)).0, ap length c.mentioned_dets.ensures)

-- the numbers of the entry, and those of the later entries
parts : (c : After-split_at) (delivered : List Det) → AreNumbersOf c.args.among delivered (flat_map mentioned_dets c.args.entries.now) c.args.numbers.now
    → AreNumbersOf c.args.among delivered (mentioned_dets c.index-entries-i.result) c.split_at.result.0.now × AreNumbersOf c.args.among delivered (flat_map mentioned_dets (drop (c.loop-i.i + 1) c.args.entries.now)) c.split_at.result.1.now
parts c delivered numbered =
    (next_numbers c.args.among delivered _ _ _ _ c.loop-i-test.true c.index-entries-i.is (c.loop-i.invariant.left delivered numbered)).1 _ _ c.split_at.ensures.by_index.0 (c.split_at.ensures.front_len ∙ ap length c.mentioned_dets.ensures)

pub note-requires-clause-low : goal.note-requires-clause-low
note-requires-clause-low c =
    rw c.loop-i.invariant.many (numbers_low c.args.among c.requires.numbered.0 _ _ (parts (goal.at.note-requires-clause-low c).After-split_at c.requires.numbered.0 c.requires.numbered.1).0)

pub loop-i-preserved : goal.loop-i-preserved
loop-i-preserved c =
    let own = parts (goal.at.loop-i-preserved c).After-split_at in
    record {
      many = c.note.ensures.count ∙ c.loop-i.invariant.many;
      spare = c.note.ensures.spare c.split_at.result.1.now (rw c.split_at.ensures.by_index.0 at c.loop-i.invariant.spare);
      kept = λ delivered numbered.
          rw (past_more c.args.entries.now c.loop-i.i c.index-entries-i.result c.loop-i-test.true c.index-entries-i.is)
          (c.note.ensures.noted (past_at c.args.entries.now c.loop-i.i) delivered c.index-entries-i.result (past_length c.args.entries.now c.loop-i.i (omega (arith, c.loop-i-test.true)))
          (rw c.loop-i.invariant.many (own delivered numbered).0) (c.loop-i.invariant.kept delivered numbered));
      left = λ delivered numbered. (own delivered numbered).1;
    }

pub returns : goal.returns
returns c delivered numbered =
    let all : c.loop-i.i ≡ length c.args.entries.now = omega (arith, c.loop-i-test.false, c.loop-i.auto.i-end) in
    subst (λ lists. AreMentions (past_at c.args.entries.now (length c.args.entries.now)) delivered lists) (sym c.finish-lists.ensures)
    (subst (λ past. AreMentions past delivered c.loop-i.builder.lists) (ap (past_at c.args.entries.now) all) (c.loop-i.invariant.kept delivered numbered))
