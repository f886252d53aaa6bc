-- The roles of the processes at the instant.
use Rattle.std.specs.Prelude.{ℕ, ◌==◌, if◌then◌else◌, Option, Some, None}
use Rattle.std.specs.FinSet.{contains}
use Rattle.causal_picture.specs.declared.focus.Orphan.{Orphan}
use Rattle.causal_picture.specs.declared.roles.Role.{Role}
use Rattle.causal_picture.specs.declared.roles.Role.TheVariants as role

-- the role of a process for an orphan: the orphan, a holder of the determinant, or neither
abbrev pub role_beside : Orphan → ℕ → Role
role_beside o p = if o.process == p then role.Orphan else (if contains o.holders p then role.Holder else role.Other)

-- the role of a process, if there is an orphan
abbrev pub role_of : Option Orphan → ℕ → Role
role_of (Some o) p = role_beside o p
role_of None p = role.Other
