-- A network of the theory represents each system that calls of nodes reach, and so the system is safe.
use Rattle.std.proofs.Common.{ℕ, ◌≡◌, ◌∙◌, ◌==◌, ◌<◌, ◌+◌, Bool, true, false, List, [], ◌∷◌, ◌++◌, length, Option, Some, None, is_some, inl, inr, replicate, refl, sym, ap, subst}
use Rattle.std.specs.Prelude.{◌⊎◌, if◌then◌else◌}
use Rattle.std.proofs.lemmas.Bool.Decides.{eqb_tells}
use Rattle.causal_name.specs.declared.Pid.{Pid}
use Rattle.causal_name.specs.declared.Det.{Det}
use Rattle.causal_holders.proofs.Lemmas.MemberCounts.{count_below-same}
use Rattle.causal_trace.specs.declared.entry.Entry.{Entry}
use Rattle.causal_rounds.specs.Rounds.{with_value_at}
use Rattle.causal_protocol.specs.MemoryQueries.{has_entry}
use Rattle.causal_node.specs.declared.node.Identity.{Identity}
use Rattle.causal_node.specs.NodeStates.{NodeState, Recovery}
use Rattle.causal_node.specs.NodeRecovery.{opened_node}
use Rattle.causal_nodes.specs.Node.{Node, up_node, down_node, is_node_down}
use Rattle.causal_nodes.specs.Packets.{Sent, WasSent, WasTaken}
use Rattle.causal_nodes.specs.NodeSteps.{NodeStep, fallen_node}
use Rattle.causal_nodes.specs.Network.{Network, HasFreshName, step_event, crash_event, store_event, read_event, IsNewNode, IsReachableNetwork, new_network, next_network, in_log, NodesAreSafe, NodesShareNoSlot}
use Rattle.causal_calls.specs.Views.{up_view, numbers, RepresentsAt, Represents, IsNodeState}
use Rattle.causal_calls.specs.Calls.{NodeCall}
use Rattle.causal_calls.specs.StepLaws.{NamesProcesses, TakesOfProcesses, IsStepOf, IsNoStep}
use Rattle.causal_calls.specs.Systems.{System, identity_of, is_recovering, SystemEvent, IsNewSystem, IsReachableSystem, new_system, next_system, SystemsAreSafe, SystemsShareNoSlot}
use Rattle.causal_calls.specs.Systems as system
use Rattle.causal_protocol.proofs.Lemmas.LogMembers.{none_entry, none_holds, none_stable}
use Rattle.causal_calls.proofs.Lemmas.Numbers.{set_other, zeros}
use Rattle.causal_calls.proofs.Lemmas.Openings.{opening}
use Rattle.causal_calls.proofs.DownCalls.{reopened}
use Rattle.causal_calls.proofs.Steps.{calls_are_steps, calls_keep}

abbrev network_of : System → (ℕ → Node) → Network
network_of w nodes = record { past = w.past; nodes = nodes; sent = w.sent; stored = w.stored; floors = w.floors }

-- a network with the same entries and packets whose processes the nodes' states represent
record IsNetworkOf (n f : ℕ) (w : System) : Type 0 where
  pub nodes : ℕ → Node
  pub reached : IsReachableNetwork n f (network_of w nodes)
  pub represents : (p : ℕ) → p < n → Represents (w.nodes p) (nodes p)
  pub states : (p : ℕ) → p < n → IsNodeState (w.nodes p)
  pub identities : (p : ℕ) → p < n → (w.nodes p).identity ≡ identity_of n f p
  pub names : (k : Sent) → WasSent w.sent k → NamesProcesses n k

-- what was sent before or is sent now
sent_parts : (new old : List Sent) (k : Sent) → WasSent (new ++ old) k → WasSent new k ⊎ WasSent old k
sent_parts [] old k was = inr was
sent_parts (x ∷ new) old k (inl is) = inl (inl is)
sent_parts (x ∷ new) old k (inr was) = elim (sent_parts new old k was) [ inl here ↦ inl (inr here) | inr there ↦ inr there ]

-- what holds at one number, and at the others, holds after a change there
at_each : {X : Type 0} (P : ℕ → X → Type 0) (xs : ℕ → X) (here : ℕ) (x : X) → P here x → (p : ℕ) → P p (xs p) → P p (with_value_at xs here x p)
at_each P xs here x is p other = elim (eqb_tells p here) [
  | inl same ↦ subst (λ (b : Bool). P p (if b then x else xs p)) (sym same.0) (subst (λ q. P q x) (sym same.1) is)
  | inr apart ↦ subst (λ (b : Bool). P p (if b then x else xs p)) (sym apart.0) other
]

-- what relates the values at each number, relates them after a change of both
at_both : {X Y : Type 0} (P : X → Y → Type 0) (xs : ℕ → X) (ys : ℕ → Y) (here : ℕ) (x : X) (y : Y) → P x y → (p : ℕ) → P (xs p) (ys p) → P (with_value_at xs here x p) (with_value_at ys here y p)
at_both P xs ys here x y is p other = elim (p == here) as (λ b. P (if b then x else xs p) (if b then y else ys p)) [ true ↦ is | false ↦ other ]

-- who recovers, is down
down_is : (s : NodeState) (node : Node) (o : Recovery) → RepresentsAt s o node → is_some o ≡ is_node_down node
down_is s node None rep = ap is_node_down (sym rep)
down_is s node (Some round) rep = ap is_node_down (sym rep.1)

module _ (safe : NodesAreSafe) (single : NodesShareNoSlot) (n f : ℕ) where
  begins : (w : System) → IsNewSystem n f w → IsNetworkOf n f w
  begins w new = record {
    nodes = λ p. up_node (up_view (w.nodes p));
    reached = new_network (network_of w (λ p. up_node (up_view (w.nodes p)))) (record {
      past = new.past;
      nodes = λ p low. (up_view (w.nodes p), refl, subst (λ t. IsNewNode (up_view t)) (sym (new.nodes p low)) (fresh p low));
      sent = new.sent;
      stored = new.stored;
      floors = new.floors;
    });
    represents = λ p low. subst (λ (o : Recovery). RepresentsAt (w.nodes p) o (up_node (up_view (w.nodes p)))) (ap (λ (s : NodeState). s.recovery) (sym (new.nodes p low))) refl;
    states = λ p low. subst (λ s. IsNodeState s) (sym (new.nodes p low)) (opening (identity_of n f p) 0 low);
    identities = λ p low. ap (λ (s : NodeState). s.identity) (new.nodes p low);
    names = λ k was. absurd (subst (λ t. WasSent t k) new.sent was);
  }
    where
      nothing : (p : ℕ) → p < n → (q : ℕ) → numbers (opened_node (identity_of n f p) 0).floors q ≡ 0
      nothing p low q = elim (eqb_tells q p) [
        | inl same ↦ ap (numbers (opened_node (identity_of n f p) 0).floors) same.1 ∙ (opening (identity_of n f p) 0 low).own_floor
        | inr other ↦ set_other (replicate n 0) p 0 q other.1 ∙ zeros n q
      ]

      fresh : (p : ℕ) → p < n → IsNewNode (up_view (opened_node (identity_of n f p) 0))
      fresh p low = record { lane = refl; empty = none_entry; no_holders = none_holds; no_stable = none_stable; floors = nothing p low; sent = refl; received = refl }

  module _ (w : System) (net : IsNetworkOf n f w) where
    -- a node that is up represents a process that is up
    is_up : (p : ℕ) → p < n → (w.nodes p).recovery ≡ None → net.nodes p ≡ up_node (up_view (w.nodes p))
    is_up p low up = subst (λ (o : Recovery). RepresentsAt (w.nodes p) o (net.nodes p)) up (net.represents p low)

    -- no two determinants of logs of nodes that are up share a slot
    share_none : (p q : ℕ) → p < n → q < n → (w.nodes p).recovery ≡ None → (w.nodes q).recovery ≡ None
        → (a b : Det) → has_entry a (w.nodes p).memory.log ≡ true → has_entry b (w.nodes q).memory.log ≡ true → a.dest ≡ b.dest → a.rsn ≡ b.rsn → a ≡ b
    share_none p q low_p low_q up_p up_q a b has_a has_b =
        single n f (network_of w net.nodes) net.reached a b (in_log p (up_view (w.nodes p)) low_p (is_up p low_p up_p) has_a) (in_log q (up_view (w.nodes q)) low_q (is_up q low_q up_q) has_b)

    takes : (taken : Option Sent) → WasTaken w.sent taken → TakesOfProcesses n taken
    takes None was = tt
    takes (Some k) was = net.names k was

    module _ (me : Pid) (taken : Option Sent) (new : NodeState) (emitted : List Sent) (entries : List Entry) (low : me.0 < n) (was : WasTaken w.sent taken) (call : NodeCall (length w.past) (w.nodes me.0) taken new emitted entries)
        (fresh : (k : Sent) → WasSent emitted k → HasFreshName w.sent k) where
      abbrev old : NodeState
      old = w.nodes me.0

      abbrev after : System
      after = record { past = entries ++ w.past; nodes = with_value_at w.nodes me.0 new; sent = emitted ++ w.sent; stored = w.stored; floors = w.floors }

      processes_is : old.identity.processes ≡ n
      processes_is = ap (λ (i : Identity). i.processes) (net.identities me.0 low)

      kept : IsNodeState new × (new.identity ≡ old.identity) × ((k : Sent) → WasSent emitted k → NamesProcesses old.identity.processes k)
      kept = calls_keep (length w.past) old new taken emitted entries call (net.states me.0 low) (subst (λ m. TakesOfProcesses m taken) (sym processes_is) (takes taken was))

      after_call : (nodes : ℕ → Node) → IsReachableNetwork n f (network_of after nodes) → ((p : ℕ) → p < n → Represents (with_value_at w.nodes me.0 new p) (nodes p)) → IsNetworkOf n f after
      after_call nodes reached represents = record {
        nodes = nodes;
        reached = reached;
        represents = represents;
        states = λ p low_p. at_each (λ p s. IsNodeState s) w.nodes me.0 new kept.0 p (net.states p low_p);
        identities = λ p low_p. at_each (λ p s. s.identity ≡ identity_of n f p) w.nodes me.0 new (kept.1 ∙ net.identities me.0 low) p (net.identities p low_p);
        names = λ k sent. elim (sent_parts emitted w.sent k sent) [ inl here ↦ subst (λ m. NamesProcesses m k) processes_is (kept.2 k here) | inr there ↦ net.names k there ];
      }

      by_step : IsStepOf (length w.past) old (net.nodes me.0) taken new emitted entries → IsNetworkOf n f after
      by_step step = after_call (with_value_at net.nodes me.0 step.next)
          (next_network (network_of w net.nodes) (network_of after (with_value_at net.nodes me.0 step.next)) net.reached
          (step_event me taken step.next emitted entries low was (subst (λ (i : Identity). NodeStep i.processes i.faults i.me (length w.past) (net.nodes me.0) taken step.next emitted entries) (net.identities me.0 low) step.step) fresh))
          (λ p low_p. at_both Represents w.nodes net.nodes me.0 new step.next step.represents p (net.represents p low_p))

      by_none : IsNoStep (net.nodes me.0) new emitted entries → IsNetworkOf n f after
      by_none none = after_call net.nodes
          (subst (λ (t : Network). IsReachableNetwork n f t) (λ i. record { past = sym none.unrecorded i ++ w.past; nodes = net.nodes; sent = sym none.silent i ++ w.sent; stored = w.stored; floors = w.floors }) net.reached)
          (λ p low_p. at_each (λ p s. Represents s (net.nodes p)) w.nodes me.0 new none.represents p (net.represents p low_p))

    -- stable storage has sent one packet more
    one_more : (k : Sent) (stored : Det → Bool) (floors : ℕ → ℕ) → NamesProcesses n k → IsReachableNetwork n f (network_of (record w { sent = k ∷ w.sent; stored = stored; floors = floors }) net.nodes)
        → IsNetworkOf n f (record w { sent = k ∷ w.sent; stored = stored; floors = floors })
    one_more k stored floors named reached = record {
      nodes = net.nodes;
      reached = reached;
      represents = net.represents;
      states = net.states;
      identities = net.identities;
      names = λ j sent. elim sent [ inl is ↦ subst (λ x. NamesProcesses n x) is named | inr was ↦ net.names j was ];
    }

    after_event : (next : System) → SystemEvent n f w next → IsNetworkOf n f next
    after_event next (system.call_event me taken node emitted entries low was call fresh) =
        elim (calls_are_steps (length w.past) (w.nodes me.0) node taken emitted entries (net.nodes me.0) call (net.states me.0 low) (λ up. share_none me.0 me.0 low low up up) (net.represents me.0 low)) [
          | inl step ↦ by_step me taken node emitted entries low was call fresh step
          | inr none ↦ by_none me taken node emitted entries low was call fresh none
        ]
    after_event next (system.crash_event who low up few) =
        let s = w.nodes who.0 in
        let is = is_up who.0 low up in
        let same = count_below-same n (λ q. is_recovering (w.nodes q)) (λ q. is_node_down (net.nodes q)) (λ q low_q. down_is (w.nodes q) (net.nodes q) (w.nodes q).recovery (net.represents q low_q)) in
        record {
          nodes = with_value_at net.nodes who.0 (down_node (fallen_node s.lane));
          reached = next_network (network_of w net.nodes) _ net.reached (crash_event who (up_view s) low is (subst (λ m. m < f) same few));
          represents = λ p low_p. at_both Represents w.nodes net.nodes who.0 _ _ (reopened s.identity s.lane) p (net.represents p low_p);
          states = λ p low_p. at_each (λ p s. IsNodeState s) w.nodes who.0 _ (opening s.identity (s.lane + 1) (net.states who.0 low).process) p (net.states p low_p);
          identities = λ p low_p. at_each (λ p s. s.identity ≡ identity_of n f p) w.nodes who.0 (opened_node s.identity (s.lane + 1)) (net.identities who.0 low) p (net.identities p low_p);
          names = net.names;
        }
    after_event next (system.store_event p was floor) = one_more _ _ _ (λ t is. absurd is) (next_network (network_of w net.nodes) _ net.reached (store_event p was floor))
    after_event next (system.read_event s name view was) = one_more _ _ _ (λ t is. absurd is) (next_network (network_of w net.nodes) _ net.reached (read_event s name view was))

  network : (w : System) → IsReachableSystem n f w → IsNetworkOf n f w
  network w (new_system same new) = begins w new
  network w (next_system before same reach event) = after_event before (network before reach) w event

-- the law of the theory, for systems
pub systems_are_safe : NodesAreSafe → NodesShareNoSlot → SystemsAreSafe
systems_are_safe safe single n f w reach = let net = network safe single n f w reach in safe n f (network_of w net.nodes) net.reached

pub systems_share_no_slot : NodesAreSafe → NodesShareNoSlot → SystemsShareNoSlot
systems_share_no_slot safe single n f w reach = share_none safe single n f w (network safe single n f w reach)
