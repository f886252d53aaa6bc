-- What a call has kept: a parcel, a body, a list of determinants; what it has not kept is empty.
use Rattle.std.specs.Prelude.{ℕ, List, []}
use Rattle.causal_name.specs.declared.Det.{Det}
use Rattle.causal_endpoint.specs.declared.receiving.Received.TheVariants as Receiveds
use Rattle.nixu_node.specs.declared.open_node.Kept.{Kept}
use Rattle.nixu_node.specs.declared.open_node.Kept.TheVariants as Kepts

-- the bytes for another process
abbrev pub kept_parcel : Kept → List ℕ
kept_parcel (Kepts.Sent to sent) = sent.bytes.items
kept_parcel (Kepts.Received (Receiveds.Question asker reply)) = reply.items
kept_parcel (Kepts.Parcel parcel) = parcel.items
kept_parcel other = []

-- the body of a message that was delivered
abbrev pub body_of : Kept → List ℕ
body_of (Kepts.Received (Receiveds.Message d)) = d.body.items
body_of other = []

-- the determinants that an entry of the recording lists
abbrev pub listed_of : Kept → List Det
listed_of (Kepts.Received (Receiveds.Message d)) = d.listed
listed_of (Kepts.Restarted r) = r.listed.items
listed_of (Kepts.Forgotten f) = f.listed.items
listed_of other = []
