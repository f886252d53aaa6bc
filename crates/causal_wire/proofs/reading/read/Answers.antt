use Rattle.std.proofs.Common.{ap, subst, ◌∙◌, arith}
use Rattle.causal_wire.specs.Parcels.{parcel_value}
use Rattle.causal_wire.specs.Reading.{ReturnsRead, read_parcel}
use Rattle.causal_wire.proofs.ParcelLaws.{is_found, parcel_again}
use Rattle.causal_wire.proofs.reading.read.Goals as goal

pub returns-clause-canonical : goal.returns-clause-canonical
returns-clause-canonical c = is_found c.args.run c.args.bytes.now c.read_parcel.result (λ i. omega (arith, c.type_inv.bytes i)) c.read_parcel.ensures

pub returns-clause-written : goal.returns-clause-written
returns-clause-written c = λ p is_run fits e. subst (λ f. ReturnsRead parcel_value c.read_parcel.result f) (ap (read_parcel c.args.run) e ∙ parcel_again c.args.run p is_run fits) c.read_parcel.ensures
