-- The line of the recording that a call has kept.
use Rattle.std.specs.Prelude.{ℕ, List, [], ◌∷◌}
use Rattle.causal_name.specs.declared.Pid.{Pid}
use Rattle.causal_name.specs.declared.Det.{Det}
use Rattle.causal_endpoint.specs.declared.forgetting.Forgotten.{Forgotten}
use Rattle.causal_endpoint.specs.declared.receiving.Received.TheVariants as Receiveds
use Rattle.causal_endpoint.specs.Endpoints.{EndpointState}
use Rattle.causal_endpoint.specs.Lines.{header_line, send_line, deliver_line, stable_line, restart_line, forget_line}
use Rattle.nixu_node.specs.declared.open_node.Kept.{Kept}
use Rattle.nixu_node.specs.declared.open_node.Kept.TheVariants as Kepts

-- a forgetting that lists no determinant has no line
abbrev pub forget_line_unless_empty : Pid → Forgotten → List Det → List ℕ
forget_line_unless_empty me f [] = []
forget_line_unless_empty me f (d ∷ ds) = forget_line me f

-- the line; empty if there is none
abbrev pub kept_line : Pid → Kept → List ℕ
kept_line me (Kepts.Sent to sent) = send_line me to sent
kept_line me (Kepts.Received (Receiveds.Message d)) = deliver_line me d
kept_line me (Kepts.Stored clock det) = stable_line me clock det
kept_line me (Kepts.Restarted r) = restart_line me r
kept_line me (Kepts.Forgotten f) = forget_line_unless_empty me f f.listed.items
kept_line me other = []

-- the header of the recording of an endpoint's process
abbrev pub header_of : EndpointState → List ℕ
header_of e = header_line e.node.identity.me e.node.identity.processes e.run
