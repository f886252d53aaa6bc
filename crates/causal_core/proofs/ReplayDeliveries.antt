-- The deliveries of a replay, one after the other.
use Rattle.std.proofs.lemmas.Grind.{common_steps}
use Rattle.std.proofs.Common.{ℕ, ◌≡◌, ◌+◌, ◌∙◌, List, [], ◌∷◌, Option, Some, None, refl, sym, ap, subst, arith}
use Rattle.std.specs.Prelude.{Ok, Err}
use Rattle.causal_name.specs.declared.Pid.{Pid}
use Rattle.causal_name.specs.declared.MsgName.{MsgName}
use Rattle.causal_name.specs.Names.{message_of}
use Rattle.causal_process.specs.declared.message.Input.{Input}
use Rattle.causal_process.specs.declared.message.Outgoing.{Outgoing}
use Rattle.causal_protocol.specs.declared.request.Request.TheVariants as Requests
use Rattle.causal_protocol.specs.declared.request.Reply.TheVariants as Replies
use Rattle.causal_protocol.specs.declared.request.CoreFault.{CoreFault}
use Rattle.causal_protocol.specs.declared.request.Delivered.{Delivered}
use Rattle.causal_protocol.specs.Run.{Run}
use Rattle.causal_protocol.specs.Steps.{LegalStep, Steps}
use Rattle.causal_core.specs.Boxes.{answers_at, prepend_answer}
use Rattle.causal_core.specs.View.{body_at, named_message_of}
use Rattle.causal_core.specs.CoreView.{CoreState, IsUnchanged, Delivers}
use Rattle.causal_core.specs.Replays.{Redelivery, inputs_of, sends_in, IsRefused, RefusesNamed, Redelivers, Replays, IsReplay, IsReplayStep}
use Rattle.causal_process.specs.declared.message.Input.TheVariants.{Message as Given}
use Rattle.causal_core.proofs.BoxLemmas.{told_more}

-- if m is named, the refusal of its delivery is that of q's next delivery
pub refuses_named : (r next : Run) (q : Pid) (m : MsgName) (fault : CoreFault) → named_message_of r q ≡ Ok (Some m) → Steps r (Requests.Deliver q m.source m.ssn) (Replies.Refused fault) next → RefusesNamed r q fault
unfolding LegalStep
refuses_named r next q m fault named step = subst (IsRefused r q fault) (sym named) step.legal.0

-- if naming is refused, q's next delivery is refused with the same fault
pub refuses_naming : (r : Run) (q : Pid) (fault : CoreFault) → named_message_of r q ≡ Err fault → RefusesNamed r q fault
refuses_naming r q fault named = subst (IsRefused r q fault) (sym named) refl

module _ {B : Type 0} (answers : B → List Input → List (List Outgoing)) (p : Pid) where
  -- a delivery of the named message is one of a replay
  pub redelivered : (m : MsgName) (d : Delivered) (old new : CoreState B) → named_message_of old.run p ≡ Ok (Some m) → Steps old.run (Requests.Deliver p m.source m.ssn) (Replies.Delivered d) new.run → Delivers answers p m.source m.ssn old new → IsReplayStep answers p (Some d) old new
  unfolding LegalStep
  redelivered m d old new named step delivers =
      let here : m ≡ message_of d.det = sym (ap message_of step.legal.2) in
      let moved : Delivers answers p (message_of d.det).source (message_of d.det).ssn old new = subst (λ x. Delivers answers p x.source x.ssn old new) here delivers in (
        record { delivered = d; input = Given d.det.source (body_at old.bodies (message_of d.det)); sends = moved.sends },
        record {
          named = subst (λ x. named_message_of old.run p ≡ Ok (Some x)) here named;
          step = subst (λ (x : MsgName). Steps old.run (Requests.Deliver p x.source x.ssn) (Replies.Delivered d) new.run) here step;
          given = refl;
          delivers = moved;
          sent = refl;
        },
      )

  redelivered_on : (old mid new : CoreState B) (x : Redelivery) → Redelivers answers p x old mid → IsUnchanged answers mid new → Redelivers answers p x old new
  redelivered_on old mid new x r u = record {
    named = r.named;
    step = subst (λ run. Steps old.run (Requests.Deliver p x.delivered.det.source x.delivered.det.ssn) (Replies.Delivered x.delivered) run) (sym u.run) r.step;
    given = r.given;
    delivers = record {
      sends = r.delivers.sends;
      box = λ inputs. r.delivers.box inputs ∙ ap (prepend_answer r.delivers.sends) (sym (u.boxes p.0 inputs));
      others = λ q inputs apart. u.boxes q inputs ∙ r.delivers.others q inputs apart;
      run = u.run ∙ r.delivers.run;
      bodies = u.bodies ∙ r.delivers.bodies;
    };
    sent = r.sent;
  }

  replays_on : (xs : List Redelivery) (old mid new : CoreState B) → Replays answers p xs old mid → IsUnchanged answers mid new → Replays answers p xs old new
  replays_on [] old mid new r u = record { run = u.run ∙ r.run; bodies = u.bodies ∙ r.bodies; boxes = λ q inputs. u.boxes q inputs ∙ r.boxes q inputs }
  replays_on (x ∷ xs) old mid new r u = (r.0, r.1, redelivered_on r.0 mid new x r.2 u)

  -- a replay of no deliveries
  pub replayed_none : (s : CoreState B) → IsReplay answers p 0 s s
  replayed_none s = grind arith

  -- one more delivery
  pub replayed_more : (count : ℕ) (delivered : Option Delivered) (d : Delivered) (old mid new : CoreState B) → IsReplay answers p count old mid → delivered ≡ Some d → IsReplayStep answers p delivered mid new → IsReplay answers p (count + 1) old new
  replayed_more count delivered d old mid new r is named =
      let one = subst (λ o. IsReplayStep answers p o mid new) is named in
      let x = one.0 in
      let step : (inputs : List Input) → answers_at answers mid.slots p.0 (x.input ∷ inputs) ≡ prepend_answer x.sends (answers_at answers new.slots p.0 inputs) = λ inputs. ap (λ input. answers_at answers mid.slots p.0 (input ∷ inputs)) one.1.given ∙ one.1.delivers.box inputs ∙ ap (λ sends. prepend_answer sends (answers_at answers new.slots p.0 inputs)) one.1.sent in
      record {
        deliveries = x ∷ r.deliveries;
        number = omega (arith, r.number);
        made = (mid, r.made, one.1);
        box = told_more answers p.0 old.slots mid.slots new.slots (inputs_of r.deliveries) (sends_in r.deliveries) x.input x.sends r.box step;
        others = λ q inputs apart. one.1.delivers.others q inputs apart ∙ r.others q inputs apart;
      }

  -- a replay followed by no change is the same replay
  pub replayed_on : (count : ℕ) (old mid new : CoreState B) → IsReplay answers p count old mid → IsUnchanged answers mid new → IsReplay answers p count old new
  replayed_on count old mid new r u = grind (arith, replays_on)

  -- a replay ends if no message is named
  pub replayed_unnamed : (count : ℕ) (delivered : Option Delivered) (old mid new : CoreState B) → IsReplay answers p count old mid → delivered ≡ None → IsReplayStep answers p delivered mid new → IsReplay answers p count old new
  replayed_unnamed count delivered old mid new r is none = replayed_on count old mid new r (subst (λ o. IsReplayStep answers p o mid new) is none).1

  -- a replay of no deliveries changes nothing
  pub replayed_nothing : (count : ℕ) (old new : CoreState B) → IsReplay answers p count old new → count ≡ 0 → IsUnchanged answers old new
  replayed_nothing count old new r none = grind (arith, common_steps)
