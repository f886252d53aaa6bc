use Rattle.std.proofs.Common.{◌≡◌, ◌∙◌, ◌-◌, ◌<◌, ℕ, List, ap, arith, get_or, length, refl, slice_get, slice_set, subst, sym, []}
use Rattle.std.specs.Prelude.{unwrap_or, vec_capacity, vec_len}
use Rattle.std.specs.Option.{option_map}
use Rattle.std.proofs.lemmas.List.{length-map}
use Rattle.std.proofs.lemmas.Option.{slice_get_read, slice_get-map}
use Rattle.causal_memory.specs.declared.outbox.Message.{Message}
use Rattle.causal_memory.specs.Outboxes.{CarryTheFirst, kept_among, outbox_from}
use Rattle.causal_core.specs.View.{body_in}
use Rattle.causal_core.proofs.Cells.{read_back}
use Rattle.causal_core.proofs.message_step.step_with_sent.Goals as goal

-- a message whose body is lent and comes back leaves the list as it was
same : (messages : List Message) (ssn : ℕ) (m : Message) (body : List ℕ) → body ≡ m.body → m ≡ get_or messages ssn m → slice_set messages ssn (record { to = m.to; send = m.send; step = m.step; body = body }) ≡ messages
same messages ssn m body back value = (λ i. slice_set messages ssn (record { to = m.to; send = m.send; step = m.step; body = back i })) ∙ read_back messages ssn m value

pub returns-clause-given : goal.returns-clause-given
returns-clause-given g c =
    let messages = c.sent.inside.messages.items in
    let m = c.index_mut.result.now in
    let within : c.args.ssn < length messages = omega (arith, c.requires.kept, ap (λ s. length s.kept) c.sent.view_is, length-map messages (kept_among c.sent.inside.batches.items)) in
    let there : unwrap_or (option_map (λ (x : Message). x.body) (slice_get messages c.args.ssn)) [] ≡ m.body = ap (λ o. unwrap_or (option_map (λ (x : Message). x.body) o) []) (slice_get_read messages (length messages) c.args.ssn m refl within c.index_mut.ensures.value) in
    let body : body_in c.args.sent.now.bodies c.args.ssn ≡ m.body = ap (λ s. body_in s.bodies c.args.ssn) (sym c.sent.view_is) ∙ ap (λ o. unwrap_or o []) (slice_get-map (λ (x : Message). x.body) messages c.args.ssn) ∙ there in
    rw body c.step_with_body.ensures.given

pub returns-clause-sent : goal.returns-clause-sent
returns-clause-sent g c =
    let v = c.sent.inside in
    let kept = same v.messages.items c.args.ssn c.index_mut.result.now c.step_with_body.new.body c.step_with_body.ensures.body c.index_mut.ensures.value in
    ap (λ xs. outbox_from xs v.batches.items (vec_capacity v.messages - vec_len v.messages) (vec_capacity v.batches - vec_len v.batches)) kept ∙ c.sent.view_is

pub invariant_of-sent : goal.invariant_of-sent
invariant_of-sent g c =
    let kept = same c.sent.inside.messages.items c.args.ssn c.index_mut.result.now c.step_with_body.new.body c.step_with_body.ensures.body c.index_mut.ensures.value in
    subst (CarryTheFirst c.sent.inside.used_batches c.sent.inside.batches.items) (sym kept) c.sent.invariant
