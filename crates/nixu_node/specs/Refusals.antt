-- The numbers and the sentences of a node's refusals, as in nixu.h.
use Rattle.std.specs.Prelude.{◌≡◌, ◌<◌, ◌⊎◌, ℕ, List, Option, Some, codes}
use Rattle.causal_wire.specs.declared.fault.WireFault.{WireFault}
use Rattle.causal_wire.specs.declared.fault.WireFault.TheVariants as W
use Rattle.causal_node.specs.declared.node_fault.NodeFault.{NodeFault}
use Rattle.causal_node.specs.declared.node_fault.NodeFault.TheVariants as N
use Rattle.causal_endpoint.specs.declared.fault.EndpointFault.{EndpointFault}
use Rattle.causal_endpoint.specs.declared.fault.EndpointFault.TheVariants as E
use Rattle.nixu_boundary.specs.Buffers.{IsCopiedOut}

-- an error of bytes
abbrev pub wire_number : WireFault → ℕ
wire_number W.Short = 32
wire_number W.Version = 33
wire_number W.Kind = 34
wire_number W.Run = 35
wire_number W.Process = 36
wire_number W.Clock = 37
wire_number W.Unsorted = 38
wire_number W.Holder = 39
wire_number W.Flag = 40
wire_number W.Trailing = 41

-- a refusal of the node; 0 for `NoMemory`, which has a status of its own
abbrev pub node_number : NodeFault → ℕ
node_number N.NoProcess = 68
node_number N.NotUp = 69
node_number N.Up = 70
node_number N.NoRound = 71
node_number N.Unasked = 72
node_number N.OldLane = 73
node_number N.Duplicate = 74
node_number (N.MustReplay m) = 75
node_number N.Reserved = 76
node_number N.View = 77
node_number N.NotYet = 78
node_number N.Waiting = 79
node_number N.Full = 80
node_number N.NoMemory = 0

abbrev pub refusal_number : EndpointFault → ℕ
refusal_number (E.Wire fault) = wire_number fault
refusal_number E.NotMine = 64
refusal_number E.OwnParcel = 65
refusal_number E.Long = 66
refusal_number E.Clock = 67
refusal_number (E.Node fault) = node_number fault

-- the number is that of the first refusal, and there is one
abbrev pub IsNumberOf : Option EndpointFault → ℕ → Type 0
IsNumberOf first number = (fault : EndpointFault) × (first ≡ Some fault) × (number ≡ refusal_number fault)

-- no refusal has this number
abbrev pub IsNoRefusal : ℕ → Type 0
IsNoRefusal number = (number < 32) ⊎ (((41 < number) × (number < 64)) ⊎ (80 < number))

-- the sentence for an error of bytes, for a refusal of the node, and for a refusal
abbrev pub wire_sentence : WireFault → List ℕ
wire_sentence W.Short = codes "the bytes end too early"
wire_sentence W.Version = codes "another version of the format"
wire_sentence W.Kind = codes "no such kind of parcel"
wire_sentence W.Run = codes "a parcel of another run"
wire_sentence W.Process = codes "no such process"
wire_sentence W.Clock = codes "the clock is too great"
wire_sentence W.Unsorted = codes "the determinants are not in ascending order"
wire_sentence W.Holder = codes "the holders are not in ascending order, or the source is among them"
wire_sentence W.Flag = codes "a flag is neither 0 nor 1"
wire_sentence W.Trailing = codes "bytes after the end"

abbrev pub node_sentence : NodeFault → List ℕ
node_sentence N.NoProcess = codes "there is no such process"
node_sentence N.NotUp = codes "the process is not up"
node_sentence N.Up = codes "the process is up"
node_sentence N.NoRound = codes "no round has begun"
node_sentence N.Unasked = codes "the reply was not awaited"
node_sentence N.OldLane = codes "the lane is refused"
node_sentence N.Duplicate = codes "the message has been delivered"
node_sentence (N.MustReplay m) = codes "another message has to be delivered first"
node_sentence N.Reserved = codes "the message has to be delivered later"
node_sentence N.View = codes "the view has another number of processes"
node_sentence N.NotYet = codes "the process gathers first"
node_sentence N.Waiting = codes "a process or stable storage has still to reply"
node_sentence N.Full = codes "a limit would be exceeded"
node_sentence N.NoMemory = codes "no memory"

abbrev pub refusal_sentence : EndpointFault → List ℕ
refusal_sentence (E.Wire fault) = wire_sentence fault
refusal_sentence E.NotMine = codes "a parcel for another process"
refusal_sentence E.OwnParcel = codes "a parcel from this process itself"
refusal_sentence E.Long = codes "the body is too long"
refusal_sentence E.Clock = codes "the clock is too great"
refusal_sentence (E.Node fault) = node_sentence fault

-- a refusal has this number, and its sentence is copied out
abbrev pub CopiesOutRefusalSentence : ℕ → List ℕ → List ℕ → ℕ → Type 0
CopiesOutRefusalSentence number old new needed = (0 < number) × ((fault : EndpointFault) × (refusal_number fault ≡ number) × IsCopiedOut (refusal_sentence fault) old new needed)
