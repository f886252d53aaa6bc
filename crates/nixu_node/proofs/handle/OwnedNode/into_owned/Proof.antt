-- `into_owned` moves the fields with what they own.
use mathlib.Core.Path.{◌≡◌, refl}
use denote.Struct.Owning.{Owning}
use Rattle.std_heap.specs.contracts.Global.{the_row as Heap}
use Rattle.std_heap.specs.contracts.GlobalAllocator.TheImpl.{ghosts}
use Rattle.nixu_boundary.specs.contracts.owned.Owned as Owned
use Rattle.nixu_boundary.proofs.Lemmas.Moves.{moves}
use Rattle.nixu_node.specs.contracts.open_node.OpenNode.{the_row}
use Rattle.nixu_node.specs.contracts.handle.OwnedNode as Held
use Rattle.nixu_node.specs.contracts.handle.OwnedNode.into_owned.Key.{name as #self}
use Rattle.nixu_node.proofs.handle.OwnedNode.into_owned.Statement.{statement}
use Rattle.nixu_node.proofs.handle.OwnedNode.into_owned.Code.{unfolded}

abbrev Generic : Owning
Generic = Owned.the_type the_row Heap ghosts

pub into_owned_spec : {M : Type 1} → statement M
into_owned_spec 𝓤 𝓛 𝓜 𝓡 wired =
    moves Held.the_type Generic (λ x. x.at) (λ x. x.alloc) (λ x. record { at = x.at; alloc = x.alloc; value = x.value }) (λ x y. y.value ≡ x.value) 𝓤 𝓛 𝓜 𝓡
    (λ x vs. refl) (λ x vs. refl) (λ κs x f. refl) (λ x. refl) #self (unfolded 𝓤 𝓛.H 𝓜 𝓡 wired)
