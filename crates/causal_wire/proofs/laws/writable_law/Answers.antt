use Rattle.causal_wire.proofs.ParcelLaws.{is_writable}
use Rattle.causal_wire.proofs.laws.writable_law.Goals as goal

pub returns : goal.returns
returns c = λ run parcel fits. is_writable run.processes parcel.0.source.0 parcel.1 fits.contents
