-- The order of two breaches.
use Rattle.std.specs.Prelude.{◌==◌, ◌||◌, ◌&&◌, Bool, Option, Some, None, nat_lt, if◌then◌else◌}
use Rattle.causal_audit.specs.declared.breach.Breach.{Breach}

-- whether a precedes b: by instant, then by the delivery's position
abbrev pub comes_before : Breach → Breach → Bool
comes_before a b = nat_lt a.instant b.instant || (a.instant == b.instant && nat_lt a.delivery b.delivery)

-- the earlier of two optional breaches; if only one is present, that one
abbrev pub earlier_breach : Option Breach → Option Breach → Option Breach
earlier_breach None other = other
earlier_breach (Some a) None = Some a
earlier_breach (Some a) (Some b) = if comes_before b a then Some b else Some a
