use Rattle.causal_wire.proofs.ParcelLaws.{parcel_again}
use Rattle.causal_wire.proofs.laws.reading_law.Goals as goal

pub returns : goal.returns
returns c = parcel_again
