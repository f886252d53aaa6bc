use Rattle.causal_audit.proofs.Common.{◌≡◌, true, sym, subst, ◌∙◌, contains, difference, union}
use Rattle.std.specs.FinSet.{is_subset}
use Rattle.causal_audit.proofs.safety_scan.Watched.{watched_reached, watched_receiver}
use Rattle.causal_audit.proofs.safety_scan.down_and_holders.DownAndHolders.watched.Goals as goal

pub returns-in-AtRisk : goal.returns-in-AtRisk
returns-in-AtRisk c =
    let down = c.args.self.now.down in
    let holders = c.args.self.now.holders in
    let there : contains (union down holders) c.args.receiver ≡ true = rw c.in-AtRisk.is at c.requires in
    rw (c.in-AtRisk.is, c.insert.ensures) (watched_receiver c.args.most c.args.receiver c.args.reached down holders there)

pub returns-then-is_subset : goal.returns-then-is_subset
returns-then-is_subset c =
    let down = c.args.self.now.down in
    let holders = c.args.self.now.holders in
    let reached = c.args.reached in
    let all : is_subset reached (union down holders) ≡ true = subst (λ s. is_subset reached s ≡ true) c.down_or_holding.ensures (sym c.is_subset.ensures ∙ c.if-is_subset.true) in
    let same : c.union.result ≡ union holders (difference down (difference down reached)) = cc (c.minus.ensures, c.minus-then-is_subset.ensures, c.union.ensures) in
    rw (c.in-Safe.is, same) (watched_reached c.args.most c.args.receiver reached down holders all)
