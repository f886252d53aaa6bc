use Rattle.causal_audit.proofs.Common.{◌≡◌, ◌+◌, ◌<◌, ◌∷◌, ◌++◌, [], get_or, length, refl, take, drop, ap, ◌∙◌, arith, take_all, append-nil, nil_from_length}
use Rattle.std.proofs.lemmas.List.{drop_more, length-drop, length-set}
use Rattle.causal_trace.specs.Past.{mentioned_dets}
use Rattle.causal_audit.specs.Inside.Index.Lists.{list_at}
use Rattle.causal_audit.specs.Inside.Index.Packed.{HaveCapacityFor}
use Rattle.causal_audit.proofs.index.Capacities.{spare_next, spare_added}
use Rattle.causal_audit.proofs.index.Filings.{mentions_begun, mentions_done, mentions_more}
use Rattle.causal_audit.proofs.index.Numbered.{as_many, next_numbered}
use Rattle.causal_audit.proofs.index.mentions.note.Goals as goal

pub loop-number-init : goal.loop-number-init
loop-number-init c = record {
  count = refl;
  spare = λ rest fits. fits;
  noted = λ past delivered dets long numbered are. mentions_begun past delivered c.args.builder.now.lists are;
}

pub add-requires : goal.add-requires
add-requires c =
    let numbers = c.args.numbers.now in
    let i = c.loop-number.number-index in
    let v = get_or numbers i 0 in
    let all : HaveCapacityFor c.loop-number.builder (v ∷ drop (i + 1) numbers) = rw (append-nil, drop_more numbers i 0 c.loop-number-test.true) at (c.loop-number.invariant.spare [] (rw append-nil c.requires.capacity)) in
    spare_next c.loop-number.builder v (drop (i + 1) numbers) all (omega (arith, c.requires.low i 0 c.loop-number-test.true, c.loop-number.invariant.count))

pub loop-number-preserved : goal.loop-number-preserved
loop-number-preserved c =
    let so_far = c.loop-number.invariant in
    let builder = c.loop-number.builder in
    let numbers = c.args.numbers.now in
    let i = c.loop-number.number-index in
    let v = get_or numbers i 0 in
    let there : v < length builder.lists = omega (arith, c.requires.low i 0 c.loop-number-test.true, so_far.count) in
    record {
      count = ap length c.add.ensures.added ∙ length-set builder.lists v (list_at builder.lists v ++ c.args.i ∷ []) ∙ so_far.count;
      spare = λ rest fits.
          spare_added builder c.add.new.self v c.args.i (drop (i + 1) numbers ++ rest) (rw (drop_more numbers i 0 c.loop-number-test.true) at (so_far.spare rest fits)) there c.add.ensures.added c.add.ensures.capacities;
      noted = λ past delivered dets long numbered are.
          let next = next_numbered (length c.args.builder.now.lists) delivered dets numbers i numbered c.loop-number-test.true in
          rw (next.1, c.add.ensures.added, ← long)
          (mentions_more past (take i dets) delivered builder.lists next.0 v (rw so_far.count next.2) there (so_far.noted past delivered dets long numbered are));
    }

pub returns-clause-noted : goal.returns-clause-noted
returns-clause-noted c past delivered entry long numbered are =
    let dets = mentioned_dets entry in
    let i = c.loop-number.number-index in
    let all : take i dets ≡ dets = take_all i dets (omega (arith, c.loop-number-test.false, as_many (length c.args.builder.now.lists) delivered dets c.args.numbers.now numbered)) in
    mentions_done entry past delivered c.loop-number.builder.lists (rw all at (c.loop-number.invariant.noted past delivered dets long numbered are))

pub returns-clause-spare : goal.returns-clause-spare
returns-clause-spare c rest fits =
    let numbers = c.args.numbers.now in
    let i = c.loop-number.number-index in
    let none : drop i numbers ≡ [] = nil_from_length (drop i numbers) (omega (arith, length-drop i numbers, c.loop-number-test.false)) in
    rw none at (c.loop-number.invariant.spare rest fits)
