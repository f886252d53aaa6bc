-- The error message with values.
use Rattle.std.specs.Prelude.{ℕ, List, ◌++◌, Option, Some, None, codes, decimal}
use Rattle.causal_name.specs.declared.Det.{Det}
use Rattle.causal_name.specs.declared.MsgName.{MsgName}
use Rattle.causal_line.specs.declared.kind.TextFault.{TextFault}
use Rattle.causal_line.specs.Sentences.{kind_sentence}
use Rattle.causal_line.specs.declared.fault_details.FaultDetail.{FaultDetail}
use Rattle.causal_trace.specs.Past.{line_at}
use Rattle.causal_line.specs.declared.fault_details.FaultDetail.TheVariants as detail

-- a message that begins with its line number
abbrev pub line_prefix : ℕ → List ℕ → List ℕ
line_prefix line rest = codes "line " ++ (decimal line ++ rest)

-- `line 4: process 1 sends with the number 3, and its next is 1`, also for deliveries
abbrev pub number_text : ℕ → ℕ → List ℕ → ℕ → ℕ → List ℕ
number_text line process does given next =
    line_prefix line (codes ": process " ++ (decimal process ++ (codes " " ++ (does ++ (codes " with the number " ++ (decimal given
    ++ (codes ", and its next is " ++ decimal next)))))))

-- `line 4: there is no earlier send to process 1 at position 7, which is line 9`
abbrev pub no_send_text : ℕ → ℕ → ℕ → List ℕ
no_send_text line position process =
    line_prefix line (codes ": there is no earlier send to process " ++ (decimal process ++ (codes " at position " ++ (decimal position
    ++ (codes ", which is line " ++ decimal (line_at position))))))

-- `line 4: process 1 has deliveries message 0 of process 2 already, at line 3`
abbrev pub duplicate_text : ℕ → ℕ → MsgName → ℕ → List ℕ
duplicate_text line process message position =
    line_prefix line (codes ": process " ++ (decimal process ++ (codes " has delivered message " ++ (decimal message.ssn
    ++ (codes " of process " ++ (decimal message.source.0 ++ (codes " already, at line " ++ decimal (line_at position))))))))

-- `line 4: there is no delivery of the determinant [0,0,1,1]`
abbrev pub undelivered_text : ℕ → Det → List ℕ
undelivered_text line d =
    line_prefix line (codes ": there is no delivery of the determinant [" ++ (decimal d.source.0 ++ (codes "," ++ (decimal d.ssn
    ++ (codes "," ++ (decimal d.dest.0 ++ (codes "," ++ (decimal d.rsn ++ codes "]"))))))))

-- `line 4: the end line counts 1 entries, and there are 2`
abbrev pub count_text : ℕ → ℕ → ℕ → List ℕ
count_text line given entries =
    line_prefix line (codes ": the end line counts " ++ (decimal given ++ (codes " entries, and there are " ++ decimal entries)))

-- the message of these values
abbrev pub detail_text : ℕ → FaultDetail → List ℕ
detail_text line (detail.Ssn process given next) = number_text line process.0 (codes "sends") given next
detail_text line (detail.Send position process) = no_send_text line position process.0
detail_text line (detail.Rsn process given next) = number_text line process.0 (codes "delivers") given next
detail_text line (detail.Again process message position) = duplicate_text line process.0 message position
detail_text line (detail.Undelivered det) = undelivered_text line det
detail_text line (detail.Entries given entries) = count_text line given entries

-- the message of an error's kind: `line 4: the text ends without an end line`
abbrev pub kind_text : TextFault → List ℕ
kind_text fault = line_prefix fault.line (codes ": " ++ kind_sentence fault.kind)

-- the message of an error, with values if there are any
abbrev pub sentence : TextFault → Option FaultDetail → List ℕ
sentence fault (Some wrong) = detail_text fault.line wrong
sentence fault None = kind_text fault
