use Rattle.causal_audit.proofs.Common.{◌≡◌, [], ℕ, true, false, Bool, Vec, Global, List, refl, arith, is_down, All, All-map}
use Rattle.causal_audit.specs.Inside.Index.Lists.{AreTransitionsOf, lists_in}
use Rattle.causal_audit.proofs.Shown.{shows_none}
use Rattle.causal_audit.proofs.index.DownCounts.{falls_of_none}
use Rattle.causal_audit.proofs.index.Filings.{turns_of_none}
use Rattle.causal_audit.proofs.index.transitions.TransitionsBuilder.new.Goals as goal

-- empty lists are correct for no entries
none_yet : (restarts : Bool) (lists : List (Vec ℕ Global)) → All (λ list. list.items ≡ []) lists → AreTransitionsOf restarts [] (lists_in lists)
none_yet restarts lists empty = turns_of_none restarts (lists_in lists) (All-map (λ list. list ≡ []) (λ (list : Vec ℕ Global). list.items) lists empty)

pub returns : goal.returns
returns c = record {
  down = rw c.none.ensures (shows_none (λ p. is_down [] p) (λ p. refl));
  turned = rw (c.new.ensures.items, c.new-2.ensures.items) (grind arith);
  crashed = none_yet false c.in_ok-crashes.crashes.items c.in_ok-crashes.ensures.empty;
  crashes = c.in_ok-crashes.ensures.count;
  restarted = none_yet true c.in_ok-restarts.restarts.items c.in_ok-restarts.ensures.empty;
  restarts = c.in_ok-restarts.ensures.count;
  fallen = falls_of_none (lists_in c.in_ok-falls.falls.items) (All-map (λ list. list ≡ []) (λ (list : Vec ℕ Global). list.items) c.in_ok-falls.falls.items c.in_ok-falls.ensures.empty);
  falls = c.in_ok-falls.ensures.count;
  lasting = tt;
}
