-- The names of messages as data, for the codes of what has them.
use Rattle.std.specs.Prelude.{ℕ}
use Rattle.std.specs.Coded.{Coded, code_by, coded×, coded_ℕ}
use Rattle.std.proofs.Common.{refl}
use Rattle.causal_name.specs.declared.MsgName.{MsgName}

abbrev pub coded_name : Coded MsgName
coded_name = code_by (ℕ × ℕ) (coded× coded_ℕ coded_ℕ) (λ m. (m.source.0, m.ssn)) (λ p. record { source = record { 0 = p.0 }; ssn = p.1 }) (λ _. refl)
