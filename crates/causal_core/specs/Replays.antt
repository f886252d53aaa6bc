-- A replay: its deliveries, its end, and its effect on a core.
use Rattle.std.specs.Prelude.{◌≡◌, ◌⊎◌, ℕ, ◌<◌, List, [], ◌∷◌, ◌++◌, length, Option, None, Some, Result, Ok, Err}
use Rattle.causal_name.specs.declared.Pid.{Pid}
use Rattle.causal_name.specs.declared.MsgName.{MsgName}
use Rattle.causal_name.specs.Names.{message_of}
use Rattle.causal_process.specs.declared.message.Input.{Input}
use Rattle.causal_process.specs.declared.message.Input.TheVariants.{Message as Given}
use Rattle.causal_process.specs.declared.message.Outgoing.{Outgoing}
use Rattle.causal_protocol.specs.declared.request.Request.TheVariants as Requests
use Rattle.causal_protocol.specs.declared.request.Reply.TheVariants as Replies
use Rattle.causal_protocol.specs.declared.request.CoreFault.{CoreFault}
use Rattle.causal_protocol.specs.declared.request.Delivered.{Delivered}
use Rattle.causal_protocol.specs.Run.{Run}
use Rattle.causal_protocol.specs.Steps.{Steps}
use Rattle.causal_core.specs.Boxes.{answers_at, prepend_answers, SameElsewhere}
use Rattle.causal_core.specs.View.{body_at, named_message_of, IsFirstRefusal}
use Rattle.causal_core.specs.CoreView.{CoreState, IsUnchanged, Delivers}

-- one delivery of a replay: its `Delivered` value, the input of the box, and what the box sent
pub record Redelivery : Type 0 where
  pub delivered : Delivered
  pub input : Input
  pub sends : List Outgoing

-- the inputs of the box, oldest first; the list of deliveries is newest first
abbrev pub inputs_of : List Redelivery → List Input
inputs_of [] = []
inputs_of (x ∷ xs) = inputs_of xs ++ x.input ∷ []

-- the sends of the box for each input, oldest first
abbrev pub sends_in : List Redelivery → List (List Outgoing)
sends_in [] = []
sends_in (x ∷ xs) = sends_in xs ++ x.sends ∷ []

-- if this is the result of `named_message_of`, p's next delivery is refused with this fault
abbrev pub IsRefused : Run → Pid → CoreFault → Result (Option MsgName) CoreFault → Type 0
IsRefused r p fault (Err delivered) = fault ≡ delivered
IsRefused r p fault (Ok None) = ⊥
IsRefused r p fault (Ok (Some m)) = IsFirstRefusal r (Requests.Deliver p m.source m.ssn) fault

-- the delivery of the message that is named for p's next one is refused with this fault
abbrev pub RefusesNamed : Run → Pid → CoreFault → Type 0
RefusesNamed r p fault = IsRefused r p fault (named_message_of r p)

-- why a replay ended after `count` deliveries that led to this run: without a refusal, its limit is reached or no message
-- is named for the next delivery; with a refusal, that delivery is refused so
abbrev pub ReplayEnds : Pid → ℕ → ℕ → Option CoreFault → Run → Type 0
ReplayEnds p limit count None r = (count ≡ limit) ⊎ (named_message_of r p ≡ Ok None)
ReplayEnds p limit count (Some fault) r = (count < limit) × RefusesNamed r p fault

module _ {B : Type 0} (answers : B → List Input → List (List Outgoing)) where
  -- the message that is named for p's next delivery is delivered, with this `Delivered` value, input and sends
  pub record Redelivers (p : Pid) (x : Redelivery) (old new : CoreState B) : Type 0 where
    pub named : named_message_of old.run p ≡ Ok (Some (message_of x.delivered.det))
    pub step : Steps old.run (Requests.Deliver p x.delivered.det.source x.delivered.det.ssn) (Replies.Delivered x.delivered) new.run
    pub given : x.input ≡ Given x.delivered.det.source (body_at old.bodies (message_of x.delivered.det))
    pub delivers : Delivers answers p x.delivered.det.source x.delivered.det.ssn old new
    pub sent : delivers.sends ≡ x.sends

  -- these deliveries to p, one after the other
  abbrev pub Replays : Pid → List Redelivery → CoreState B → CoreState B → Type 0
  Replays p [] old new = IsUnchanged answers old new
  Replays p (x ∷ xs) old new = (mid : CoreState B) × Replays p xs old mid × Redelivers p x mid new

  -- `count` deliveries to p, each of the message that is named for its next one; p's later answers are those that would
  -- have followed these inputs, and the other boxes answer as before
  pub record IsReplay (p : Pid) (count : ℕ) (old new : CoreState B) : Type 0 where
    pub deliveries : List Redelivery
    pub number : length deliveries ≡ count
    pub made : Replays p deliveries old new
    pub box : (inputs : List Input) → answers_at answers old.slots p.0 (inputs_of deliveries ++ inputs) ≡ prepend_answers (sends_in deliveries) (answers_at answers new.slots p.0 inputs)
    pub others : SameElsewhere answers p.0 old.slots new.slots

  -- the result of a single step: no message was named and nothing changed, or the named message was delivered
  abbrev pub IsReplayStep : Pid → Option Delivered → CoreState B → CoreState B → Type 0
  IsReplayStep p None old new = (named_message_of old.run p ≡ Ok None) × IsUnchanged answers old new
  IsReplayStep p (Some d) old new = (x : Redelivery) × Redelivers p x old new
