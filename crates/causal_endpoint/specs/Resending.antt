-- A kept message that is sent again, with what it carried.
use Rattle.std.specs.Prelude.{ℕ, ◌^◌, ◌||◌, nat_le, List, [], length, map, Option, None, Some, unwrap_or, slice_get}
use Rattle.causal_protocol.specs.Memory.{SentMessage}
use Rattle.causal_wire.specs.Parcels.{message}
use Rattle.causal_wire.specs.Bytes.{parcel_bytes}
use Rattle.causal_endpoint.specs.declared.fault.EndpointFault.{EndpointFault}
use Rattle.causal_endpoint.specs.declared.fault.EndpointFault.TheVariants as Faults
use Rattle.causal_endpoint.specs.Endpoints.{EndpointState, run_of, head_to}
use Rattle.causal_endpoint.specs.Items.{wire_item}
use Rattle.causal_endpoint.specs.Refusals.{or_else}

-- the body of the message of this number
abbrev pub kept_body : EndpointState → ℕ → List ℕ
kept_body e ssn = unwrap_or (slice_get e.node.bodies ssn) []

-- the bytes of the kept message of this number, if there is one, at the last clock
abbrev pub resent_bytes : EndpointState → ℕ → Option SentMessage → Option (List ℕ)
resent_bytes e ssn None = None
resent_bytes e ssn (Some kept) = Some (parcel_bytes (run_of e) (head_to e kept.to e.clock, message ssn (map (wire_item e.node.identity.me) kept.batch) (kept_body e ssn)))

-- the first refusal that applies to sending it again: its counts cannot be written
abbrev pub resend_fault : EndpointState → ℕ → Option SentMessage → Option EndpointFault
resend_fault e ssn None = None
resend_fault e ssn (Some kept) = or_else (nat_le (2 ^ 32) (length kept.batch) || nat_le (2 ^ 32) (length (kept_body e ssn))) Faults.Long None
