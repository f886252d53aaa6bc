use Rattle.std.proofs.Common.{◌≡◌, ◌∙◌, ◌+◌, ◌<◌, ◌++◌, ◌∷◌, [], List, ap, sym, arith, length, map, append-nil, length-append, Vec, vec_len, Global}
use Rattle.std.proofs.lemmas.Bool.Decides.{nat_tests}
use Rattle.std.specs.Vec.Iter.{into_iter_items, into_iter_len, into_iter_steps}
use Rattle.std.specs.declared.vec.IntoIter.{IntoIter}
use Rattle.std.proofs.lemmas.Grind.{common_steps}
use Rattle.std.proofs.lemmas.Iterator.{YieldsList}
use Rattle.std.proofs.lemmas.Iterator.Adapters.{YieldsList-from_vec}
use Rattle.std.proofs.lemmas.Iterator.Consumers.{YieldsList-end, YieldsList-turn}
use Rattle.std.proofs.lemmas.List.{map-append, map-id, append_assoc}
use Rattle.causal_name.specs.declared.Pid.{Pid}
use Rattle.causal_process.specs.declared.message.Outgoing.{Outgoing}
use Rattle.causal_log.specs.Logs.{dets_of}
use Rattle.causal_protocol.specs.Steps.{sends_of}
use Rattle.causal_protocol.proofs.Lemmas.StepAppends.{length-pushed}
use Rattle.causal_core.specs.Inside.DeliveryRecords.{keep_sends, with_sends}
use Rattle.causal_core.specs.View.{sends_to_processes, receivers, sent_bodies}
use Rattle.causal_memory.specs.ProcessMemories.{memory_of, bodies_of}
use Rattle.causal_core.specs.Inside.Memories.{keep_all}
use Rattle.causal_core.proofs.RuntimeSend.{addressed_more, keep_more, sends_more, kept_length, sends_length, pushed_last}
use Rattle.causal_core.proofs.sends.append_sends.Goals as goal
use Rattle.causal_core.proofs.sends.append_sends.Goals.{After-record_send-arg-then-from-n-1}

pub loop-outgoing-init : goal.loop-outgoing-init
unfolding sends_of keep_all
loop-outgoing-init c = grind (arith, append-nil)

abbrev tos : After-record_send-arg-then-from-n-1 → List Pid
tos c = receivers c.args.trace.now.recording.processes c.loop-outgoing.yielded

one : (c : After-record_send-arg-then-from-n-1) → sends_to_processes c.args.trace.now.recording.processes (c.loop-outgoing.yielded ++ c.in-Some.outgoing ∷ []) ≡ sends_to_processes c.args.trace.now.recording.processes c.loop-outgoing.yielded ++ c.in-Some.outgoing ∷ []
one c = grind (arith, nat_tests, addressed_more)

more : (c : After-record_send-arg-then-from-n-1) → receivers c.args.trace.now.recording.processes (c.loop-outgoing.yielded ++ c.in-Some.outgoing ∷ []) ≡ tos c ++ c.in-Some.outgoing.to ∷ []
more c = ap (map (λ (s : Outgoing). s.to)) (one c) ∙ map-append (λ (s : Outgoing). s.to) (sends_to_processes c.args.trace.now.recording.processes c.loop-outgoing.yielded) (c.in-Some.outgoing ∷ [])

more_bodies : (c : After-record_send-arg-then-from-n-1) → sent_bodies c.args.trace.now.recording.processes (c.loop-outgoing.yielded ++ c.in-Some.outgoing ∷ []) ≡ sent_bodies c.args.trace.now.recording.processes c.loop-outgoing.yielded ++ c.in-Some.outgoing.body ∷ []
more_bodies c = ap (map (λ (s : Outgoing). s.body)) (one c) ∙ map-append (λ (s : Outgoing). s.body) (sends_to_processes c.args.trace.now.recording.processes c.loop-outgoing.yielded) (c.in-Some.outgoing ∷ [])

ssn : (c : After-record_send-arg-then-from-n-1) → length (memory_of c.loop-outgoing.process_memory).sent ≡ length (memory_of c.args.process_memory.now).sent + length (tos c)
ssn c = ap (λ m. length m.sent) c.loop-outgoing.invariant.memory ∙ kept_length _ _ (tos c) (memory_of c.args.process_memory.now)

position : (c : After-record_send-arg-then-from-n-1) → length c.loop-outgoing.trace.recording.past ≡ length c.args.trace.now.recording.past + length (tos c)
position c = grind (arith, length-pushed, sends_length)

pub loop-outgoing-preserved-then-from-n : goal.loop-outgoing-preserved-then-from-n
loop-outgoing-preserved-then-from-n c = let at = (goal.at.loop-outgoing-preserved-then-from-n c).After-record_send-arg-then-from-n-1 in
    let inv = c.loop-outgoing.invariant in
    let past = c.args.trace.now.recording.past in
    let k0 = length (memory_of c.args.process_memory.now).sent in
    let to = c.in-Some.outgoing.to in
    let q = c.args.q in
    let longer = length-append c.loop-outgoing.yielded (c.in-Some.outgoing ∷ []) in
    let one_to = length-append (tos at) (to ∷ []) in
    record {
      number = rw (more at) (omega (arith, one_to, inv.number));
      recording = grind (arith, ssn, pushed_last, sends_more, more);
      memory = grind (arith, position, keep_more, more at);
      formed = c.record_send.ensures.formed;
      fit = c.record_send.ensures.fit;
      others = λ p m apart was. c.record_send.ensures.others p m apart (inv.others p m apart was);
      delivered = λ ds was. c.record_send.ensures.delivered ds (inv.delivered ds was);
      bodies = grind (arith, append_assoc, more_bodies);
      batch = c.record_send.ensures.batch ∙ inv.batch;
      few = rw (more at) (omega (arith, one_to, longer, inv.few));
      spare = omega (arith, c.record_send.ensures.spare, inv.spare, longer);
      room = omega (arith, c.record_send.ensures.room, inv.room, longer);
      short = let grown = ap (λ r. length r.past) c.record_send.ensures.recording in omega (arith, grown, inv.short, longer);
    }

pub loop-outgoing-preserved : goal.loop-outgoing-preserved
loop-outgoing-preserved c = grind (arith, length-append, nat_tests, addressed_more, append-nil)

-- the loop visits all of them
all : (sends : Vec Outgoing Global) (s : IntoIter Outgoing Global) → into_iter_items s ≡ sends.items → into_iter_len s ≡ vec_len sends → YieldsList (into_iter_steps {X = Outgoing} {Z = Global}) (λ y. y) s sends.items
all sends s items count = YieldsList-from_vec sends.items items (grind (arith, common_steps))

-- sends are left
left : (c : After-record_send-arg-then-from-n-1) → length c.loop-outgoing.yielded < length c.args.sends.items
left c = (YieldsList-turn (all c.args.sends c.into_iter-outgoing-iterator.result c.into_iter-outgoing-iterator.ensures.into_iter_gives.0 c.into_iter-outgoing-iterator.ensures.into_iter_gives.1) c.loop-outgoing.yielded c.loop-outgoing.outgoing-iterator c.loop-outgoing.yielded_by c.next.result c.next.new.self c.in-Some.outgoing c.in-Some.is c.next.ensures.steps).0

pub record_send-requires : goal.record_send-requires
record_send-requires c = grind (arith, left, c.loop-outgoing.invariant.delivered (dets_of c.args.process_memory.now.sent.batch) c.requires.delivered)

-- no sends are left
done : (c : goal.After-drop-outgoing-iterator) → c.loop-outgoing.yielded ≡ c.args.sends.items
done c =
    sym (map-id c.loop-outgoing.yielded)
    ∙ (YieldsList-end (all c.args.sends c.into_iter-outgoing-iterator.result c.into_iter-outgoing-iterator.ensures.into_iter_gives.0 c.into_iter-outgoing-iterator.ensures.into_iter_gives.1) c.loop-outgoing.yielded c.loop-outgoing.outgoing-iterator c.loop-outgoing.yielded_by c.next.result c.next.new.self c.in-None.is c.next.ensures.steps).0

pub returns-clause-number : goal.returns-clause-number
returns-clause-number c = c.loop-outgoing.invariant.number ∙ ap (λ xs. length (receivers c.args.trace.now.recording.processes xs)) (done c)

pub returns-clause-recording : goal.returns-clause-recording
returns-clause-recording c = c.loop-outgoing.invariant.recording ∙ ap (λ xs. with_sends c.args.trace.now.recording c.args.q xs (memory_of c.args.process_memory.now)) (done c)

pub returns-clause-memory : goal.returns-clause-memory
returns-clause-memory c = c.loop-outgoing.invariant.memory ∙ ap (λ xs. keep_sends c.args.trace.now.recording c.args.process_memory.now.sent.batch xs (memory_of c.args.process_memory.now)) (done c)

pub returns-clause-bodies : goal.returns-clause-bodies
returns-clause-bodies c = c.loop-outgoing.invariant.bodies ∙ ap (λ xs. bodies_of c.args.process_memory.now ++ sent_bodies c.args.trace.now.recording.processes xs) (done c)
