use Rattle.causal_audit.proofs.Common.{◌≡◌, Bool, true, false, arith, ◌&&◌, ◌⊎◌, not, nat_cmp_total, contains-difference, nat_tests, Entry, Pid, Crash, refl}
use Rattle.causal_trace.specs.Laws.{is_crash}
use Rattle.causal_audit.proofs.group.copies.changed_places.Goals as goal

and_missing : (a b : Bool) → (a && not b) ≡ false → (a ≡ false) ⊎ (b ≡ true)
and_missing a b h = grind (arith, nat_tests)

no_crash : (e : Entry) → ((who : Pid) → e ≡ Crash who → ⊥) → is_crash e ≡ false
no_crash (Crash who) none = absurd (none who refl)
no_crash e none = refl

pub returns-in_default : goal.returns-in_default
returns-in_default c = record {
  quiet = λ j h out. (no_crash c.args.entry.now c.in_default.not-Crash, grind (arith, and_missing, contains-difference nat_cmp_total c.args.mentioned c.args.held j));
}
