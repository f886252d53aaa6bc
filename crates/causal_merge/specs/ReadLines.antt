-- The content of the lines read so far.
-- Lists have the newest line first. Lines are numbered from 1, in the order of the input.
use Rattle.std.specs.Prelude.{◌≡◌, ℕ, ◌+◌, ◌<◌, ◌==◌, ◌||◌, ◌⊎◌, not, Bool, true, false, List, [], ◌∷◌, ◌++◌, length, Option, Some, None}
use Rattle.std.specs.Ordering.{nat_cmp}
use Rattle.std.specs.FinSet.{FinSet, empty}
use Rattle.causal_holders.specs.Members.{HasMembers}
use Rattle.causal_merge.specs.declared.event.RunHeader.{RunHeader}
use Rattle.causal_merge.specs.declared.fault.MergeKind.TheVariants.{NoHeader}
use Rattle.causal_merge.specs.declared.fault.MergeFault.{MergeFault}
use Rattle.causal_merge.specs.declared.event.EventAtLine.{EventAtLine}
use Rattle.causal_merge.specs.declared.event.RecorderLine.{RecorderLine}
use Rattle.causal_merge.specs.declared.event.RecorderLine.TheVariants as says

-- the earlier run, if there is one, else the later
abbrev pub first_run : Option RunHeader → RunHeader → Option RunHeader
first_run None run = Some run
first_run (Some first) run = Some first

-- the run of the first header
abbrev pub run_in : List RecorderLine → Option RunHeader
run_in [] = None
run_in (says.Header process run ∷ said) = first_run (run_in said) run
run_in (_ ∷ said) = run_in said

-- whether a process has a header
abbrev pub has_header : List RecorderLine → ℕ → Bool
has_header [] p = false
has_header (says.Header process run ∷ said) p = process.0 == p || has_header said p
has_header (_ ∷ said) p = has_header said p

-- the events in the order of the input
abbrev pub events_in : List RecorderLine → List EventAtLine
events_in [] = []
events_in (says.Event event ∷ said) = events_in said ++ record { line = length said + 1; event = event } ∷ []
events_in (_ ∷ said) = events_in said

-- the numbers of the torn lines, ascending
abbrev pub torn_in : List RecorderLine → List ℕ
torn_in [] = []
torn_in (says.Torn ∷ said) = torn_in said ++ (length said + 1) ∷ []
torn_in (_ ∷ said) = torn_in said

-- there is a header, and each process of its run has one
pub record HasAllHeaders (said : List RecorderLine) (run : RunHeader) : Type 0 where
  pub first : run_in said ≡ Some run
  pub headers_seen : (p : ℕ) → p < run.processes → has_header said p ≡ true

-- a process of the run has no header; these are all that have none
pub record LacksHeaderOf (said : List RecorderLine) (missing : FinSet nat_cmp) : Type 0 where
  pub run : RunHeader
  pub first : run_in said ≡ Some run
  pub process : ℕ
  pub within : process < run.processes
  pub lacks : has_header said process ≡ false
  pub all : HasMembers run.processes missing (λ p. not (has_header said p))

-- there is no header, so that the processes of the run are not known
pub record LacksRun (said : List RecorderLine) (missing : FinSet nat_cmp) : Type 0 where
  pub none : run_in said ≡ None
  pub unknown : missing ≡ empty

-- a header is missing: there is none, or a process of the run has none
abbrev pub LacksHeader : List RecorderLine → FinSet nat_cmp → Type 0
LacksHeader said missing = LacksRun said missing ⊎ LacksHeaderOf said missing

-- the error that these processes have no header
abbrev pub header_fault : ℕ → FinSet nat_cmp → MergeFault
header_fault line missing = record { line = line; kind = NoHeader missing; detail = None }
