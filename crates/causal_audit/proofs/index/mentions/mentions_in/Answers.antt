use Rattle.causal_audit.proofs.Common.{◌≡◌, ◌+◌, ◌≤◌, List, [], ◌∷◌, length, reverse, reverse-append, reverse-reverse, ◌∙◌, length-append, ap, arith, sym, subst, take, instant, accepted_then, listed_by, listed_in, Entry}
use Rattle.std.proofs.lemmas.Grind.{flat_map-append}
use Rattle.std.proofs.lemmas.List.Concat.{length-flat_map}
use Rattle.causal_trace.proofs.Lemmas.WellFormed.{accepted_short}
use Rattle.std.specs.List.{flat_map}
use Rattle.std.proofs.lemmas.Result.{IfOk-weaker}
use Rattle.causal_trace.specs.Numbers.{delivered_dets}
use Rattle.causal_trace.specs.Past.{mentioned_dets}
use Rattle.causal_audit.specs.Inside.Index.RunIndexes.{IsMentionIndex}
use Rattle.causal_audit.proofs.Steps.{begins}
use Rattle.causal_audit.proofs.index.Numbered.{as_many}
use Rattle.causal_audit.proofs.index.MentionedDeliveries.{mentioned_numbered}
use Rattle.causal_trace.proofs.Lemmas.AtInstants.{state_at}
use Rattle.causal_audit.proofs.index.mentions.mentions_in.Goals as goal

pub numbers_of-requires : goal.numbers_of-requires
numbers_of-requires c =
    mentioned_numbered c.args.trace.now.recording c.entries.result.now c.entries.ensures.value c.entries.ensures.formed.accepted c.args.end c.lists_needed-among.result c.requires c.lists_needed-among.ensures

-- an entry mentions what it lists, and a stable entry one determinant
all_few : (past : List Entry) → length (flat_map mentioned_dets (reverse past)) ≤ listed_in past + length past
all_few [] = omega arith
all_few (e ∷ past) =
    let few : length (mentioned_dets e) ≤ length (listed_by e) + 1 = grind arith in
    omega (arith, all_few past, few, ap (λ es. length (flat_map mentioned_dets es)) (reverse-append (e ∷ []) past), ap length (flat_map-append mentioned_dets (reverse past) (e ∷ [])), length-append (flat_map mentioned_dets (reverse past)) (flat_map mentioned_dets (e ∷ [])), length-flat_map mentioned_dets (e ∷ []))

pub build_mentions-requires-clause-countable : goal.build_mentions-requires-clause-countable
build_mentions-requires-clause-countable c =
    let r = c.args.trace.now.recording in
    let entries = take c.args.end c.entries.result.now in
    let before = instant r.past c.args.end in
    let delivered = delivered_dets r.past in
    let read : entries ≡ reverse before = sym (reverse-reverse entries) ∙ ap reverse (state_at r c.entries.result.now c.entries.ensures.value c.args.end c.requires) in
    let short = accepted_short r.processes before (accepted_then r.processes r.past c.args.end c.entries.ensures.formed.accepted) in
    omega (arith, as_many c.lists_needed-among.result delivered (flat_map mentioned_dets entries) c.in_ok-numbers.numbers.items c.in_ok-numbers.ensures, ap (λ es. length (flat_map mentioned_dets es)) read, all_few before, short.entries, short.listed, ap length c.as_slice.ensures.value)

pub build_mentions-requires-clause-numbered : goal.build_mentions-requires-clause-numbered
build_mentions-requires-clause-numbered c = (delivered_dets c.args.trace.now.recording.past, rw c.as_slice.ensures.value c.in_ok-numbers.ensures)

pub returns : goal.returns
returns c =
    let r = c.args.trace.now.recording in
    IfOk-weaker c.build_mentions.result _ (IsMentionIndex r.past (instant r.past c.args.end)) (λ mentions kept.
    subst (λ past. IsMentionIndex r.past past mentions) (begins r c.entries.result.now c.entries.ensures.value c.args.end c.requires) (kept (delivered_dets r.past) (rw c.as_slice.ensures.value c.in_ok-numbers.ensures)))
    c.build_mentions.ensures
