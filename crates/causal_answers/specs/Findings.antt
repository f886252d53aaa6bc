-- What an answer finds, as a line and as members of a JSON object.
use Rattle.std.specs.Prelude.{ℕ, List, [], ◌∷◌, ◌++◌, codes, decimal, flat_map}
use Rattle.std.specs.Ordering.{nat_cmp}
use Rattle.std.specs.FinSet.{FinSet}
use Rattle.causal_holders.specs.Members.{ascending}
use Rattle.causal_line.specs.FaultLine.{fault_line, kind_name}
use Rattle.causal_line.specs.Values.{without_line_feed}
use Rattle.causal_audit.specs.declared.judged.Judged.{Judged}
use Rattle.causal_audit.specs.declared.verdict.Verdict.{Verdict}
use Rattle.causal_audit.specs.declared.verdict.Verdict.TheVariants.{Accept, Exceeded, Orphan}
use Rattle.causal_audit.specs.VerdictLines.{verdict_line}
use Rattle.causal_facts.specs.declared.stray.Stray.{Stray}
use Rattle.causal_answers.specs.declared.finding.Finding.{Finding}
use Rattle.causal_answers.specs.declared.finding.Finding.TheVariants as finding
use Rattle.causal_facts.specs.declared.form.Form.{Form}
use Rattle.causal_facts.specs.declared.form.Form.TheVariants.{Lines, Json}
use Rattle.causal_answers.specs.Fields.{json_number, word, line, stray_fields}

-- ---- words

-- the word for a verdict
abbrev pub verdict_word : Verdict → List ℕ
verdict_word Accept = codes "accept"
verdict_word (Exceeded instant down) = codes "exceeded"
verdict_word (Orphan instant delivery crash orphan) = codes "orphan"

-- the word for a finding
abbrev pub finding_word : Finding → List ℕ
finding_word (finding.Verdict f judged) = verdict_word judged.verdict
finding_word (finding.EarlyBreach f judged) = verdict_word judged.verdict
finding_word (finding.Fault fault) = codes "fault"
finding_word (finding.Followed entries deliveries) = codes "followed"
finding_word (finding.Strayed stray) = codes "strayed"

-- ---- members

-- the numbers of entries and deliveries
abbrev pub counts : Form → ℕ → ℕ → List ℕ
counts form entries deliveries = json_number form (codes "entries") entries ++ json_number form (codes "deliveries") deliveries

-- a comma, and a process
unfoldable pub next_process : ℕ → List ℕ
next_process p = codes "," ++ decimal p

-- processes with commas between them
abbrev pub processes : List ℕ → List ℕ
processes [] = []
processes (p ∷ ps) = decimal p ++ flat_map next_process ps

-- the member of a set of processes: an array, ascending
abbrev pub set_member : List ℕ → FinSet nat_cmp → List ℕ
set_member name set = codes ",\"" ++ (name ++ (codes "\":[" ++ (processes (ascending set) ++ codes "]")))

-- the members of an excess
abbrev pub excess_members : ℕ → FinSet nat_cmp → List ℕ
excess_members instant down = json_number Json (codes "instant") instant ++ set_member (codes "down") down

-- the members of an orphan
abbrev pub orphan_members : ℕ → ℕ → FinSet nat_cmp → ℕ → List ℕ
orphan_members instant delivery crash orphan =
    json_number Json (codes "instant") instant ++ (json_number Json (codes "delivery") delivery ++ (set_member (codes "crash") crash ++ json_number Json (codes "orphan") orphan))

-- the members of a verdict on a trace with these numbers of entries and deliveries
abbrev pub verdict_members : ℕ → ℕ → Verdict → List ℕ
verdict_members entries deliveries Accept = counts Json entries deliveries
verdict_members entries deliveries (Exceeded instant down) = excess_members instant down
verdict_members entries deliveries (Orphan instant delivery crash orphan) = orphan_members instant delivery crash orphan

-- the bound f and the members of a verdict
abbrev pub judged_members : ℕ → Judged → List ℕ
judged_members f judged = json_number Json (codes "f") f ++ verdict_members judged.entries judged.deliveries judged.verdict

-- the members of a finding
abbrev pub finding_members : Finding → List ℕ
finding_members (finding.Verdict f judged) = judged_members f judged
finding_members (finding.EarlyBreach f judged) = judged_members f judged ++ json_number Json (codes "read") judged.entries
finding_members (finding.Fault fault) = line Json fault.line ++ word Json (codes "kind") (kind_name fault.kind)
finding_members (finding.Followed entries deliveries) = counts Json entries deliveries
finding_members (finding.Strayed stray) = stray_fields Json stray

-- ---- lines

-- the line of a breach that an early audit found, with the number of entries read
abbrev pub early_line : ℕ → Judged → List ℕ
early_line f judged = without_line_feed (verdict_line f judged) ++ (json_number Lines (codes "read") judged.entries ++ codes "\n")

-- the line of a run whose recoveries follow what survives, with its numbers of entries and deliveries
abbrev pub followed_line : ℕ → ℕ → List ℕ
followed_line entries deliveries = codes "followed" ++ (counts Lines entries deliveries ++ codes "\n")

-- the line of a stray
abbrev pub strayed_line : Stray → List ℕ
strayed_line stray = codes "strayed" ++ (stray_fields Lines stray ++ codes "\n")

-- the line of a finding
abbrev pub finding_line : Finding → List ℕ
finding_line (finding.Verdict f judged) = verdict_line f judged
finding_line (finding.EarlyBreach f judged) = early_line f judged
finding_line (finding.Fault fault) = fault_line fault
finding_line (finding.Followed entries deliveries) = followed_line entries deliveries
finding_line (finding.Strayed stray) = strayed_line stray
