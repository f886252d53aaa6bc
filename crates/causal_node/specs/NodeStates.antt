-- One process of a run, as contracts see it: its numbers, its memory, and its recovery.
use Rattle.std.specs.Prelude.{◌≡◌, ◌≤◌, ℕ, Bool, List, length, Option, Some, None, unwrap_or, slice_get}
use Rattle.std.specs.List.{list_any}
use Rattle.std.specs.BTreeMap.{is_at}
use Rattle.std.specs.Option.{IfSome}
use Rattle.std.specs.Ordering.{nat_cmp}
use Rattle.std.specs.Coded.{Coded, code_by, coded×, coded_list, coded_option, coded_ℕ, coded_bool}
use Rattle.std.specs.FinMap as fin
use Rattle.std.specs.FinSet as set
use Rattle.std.proofs.Common.{refl}
use Rattle.causal_name.specs.declared.Pid.{Pid}
use Rattle.causal_name.specs.declared.MsgName.{MsgName}
use Rattle.causal_name.specs.Names.{message_cmp}
use Rattle.causal_log.specs.declared.batch.Item.{Item}
use Rattle.causal_log.specs.Knowledge.{coded_det, coded_known}
use Rattle.causal_log.specs.Logs.{LogMap, batch_items}
use Rattle.causal_memory.specs.Outboxes.{coded_kept}
use Rattle.causal_protocol.specs.Limits.{max_run_entries}
use Rattle.causal_protocol.specs.Memory.{Memory, SentMessage}
use Rattle.causal_trace.specs.Limits.{max_processes}
use Rattle.causal_node.specs.MessageNames.{coded_name}
use Rattle.causal_node.specs.declared.node.Identity.{Identity}
use Rattle.causal_node.specs.declared.node.Round.{Round}
use Rattle.causal_node.specs.declared.node.NodeStage.{NodeStage}
use Rattle.causal_node.specs.declared.node.NodeStage.TheVariants as Stages

-- a round of a recovery: its name, the processes that have still to reply, the log gathered so far, and whether stable
-- storage has been read
pub record RoundState : Type 0 where
  pub name : ℕ
  pub awaited : set.FinSet nat_cmp
  pub log : LogMap
  pub read : Bool

-- none if a process is up; if it is not, its round, if it has begun one
abbrev pub Recovery : Type 0
Recovery = Option (Option RoundState)

-- a node: its lane, or its next one while it is not up; the least lane of each process that it accepts; its memory, with
-- the bodies of the messages that it keeps; the names of the messages that its lane has received, and of those that the
-- log of its restart names for its deliveries, both ascending
pub record NodeState : Type 0 where
  pub identity : Identity
  pub lane : ℕ
  pub floors : List ℕ
  pub memory : Memory
  pub bodies : List (List ℕ)
  pub received_names : List MsgName
  pub reserved_names : List MsgName
  pub recovery : Recovery

abbrev pub round_of : Round → RoundState
round_of r = record { name = r.name; awaited = r.awaited; log = r.log.map; read = r.read }

abbrev pub recovery_of : NodeStage → Recovery
recovery_of Stages.Up = None
recovery_of Stages.Down = Some None
recovery_of (Stages.Gathering r) = Some (Some (round_of r))

-- encodings: a memory, a round and a node as their parts
abbrev pub coded_memory : Coded Memory
coded_memory =
    code_by (LogMap × (List SentMessage × List MsgName)) (coded× (fin.code coded_det coded_known) (coded× (coded_list coded_kept) (coded_list coded_name)))
    (λ m. (m.log, (m.sent, m.received))) (λ p. record { log = p.0; sent = p.1.0; received = p.1.1 }) (λ _. refl)

abbrev pub coded_round : Coded RoundState
coded_round =
    code_by (ℕ × (set.FinSet nat_cmp × (LogMap × Bool))) (coded× coded_ℕ (coded× (set.code coded_ℕ) (coded× (fin.code coded_det coded_known) coded_bool)))
    (λ r. (r.name, (r.awaited, (r.log, r.read)))) (λ p. record { name = p.0; awaited = p.1.0; log = p.1.1.0; read = p.1.1.1 }) (λ _. refl)

abbrev pub coded_identity : Coded Identity
coded_identity =
    code_by (ℕ × (ℕ × ℕ)) (coded× coded_ℕ (coded× coded_ℕ coded_ℕ))
    (λ i. (i.processes, (i.me.0, i.faults))) (λ p. record { processes = p.0; me = record { 0 = p.1.0 }; faults = p.1.1 }) (λ _. refl)

abbrev pub coded_node : Coded NodeState
coded_node =
    code_by (Identity × (ℕ × (List ℕ × (Memory × (List (List ℕ) × (List MsgName × (List MsgName × Recovery)))))))
    (coded× coded_identity (coded× coded_ℕ (coded× (coded_list coded_ℕ) (coded× coded_memory (coded× (coded_list (coded_list coded_ℕ)) (coded× (coded_list coded_name) (coded× (coded_list coded_name) (coded_option (coded_option coded_round)))))))))
    (λ n. (n.identity, (n.lane, (n.floors, (n.memory, (n.bodies, (n.received_names, (n.reserved_names, n.recovery))))))))
    (λ p. record { identity = p.0; lane = p.1.0; floors = p.1.1.0; memory = p.1.1.1.0; bodies = p.1.1.1.1.0; received_names = p.1.1.1.1.1.0; reserved_names = p.1.1.1.1.1.1.0; recovery = p.1.1.1.1.1.1.1 })
    (λ _. refl)

-- whether a name is in an ascending list
abbrev pub has_name : List MsgName → MsgName → Bool
has_name names m = list_any (is_at (message_cmp m)) names

-- the least lane of a process that is accepted
abbrev pub floor_of : List ℕ → Pid → ℕ
floor_of floors p = unwrap_or (slice_get floors p.0) 0

-- the node with another memory, which keeps these bodies
abbrev pub with_memory : NodeState → Memory → List (List ℕ) → NodeState
with_memory n m bodies = record n { memory = m; bodies = bodies }

-- the cached batch is what messages carry; the numbers of processes, and of messages sent and received, are within limits
pub record IsNode (who : Identity) (next_batch : Option (List Item)) (m : Memory) : Type 0 where
  pub few : who.processes ≤ max_processes
  pub batch : IfSome next_batch (λ b. b ≡ batch_items who.faults m.log)
  pub received : length m.received ≤ max_run_entries
  pub sent : length m.sent ≤ max_run_entries
