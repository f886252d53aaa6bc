-- The error message with values.
use Rattle.std.specs.Prelude.{ℕ, List, ◌++◌, codes, decimal}
use Rattle.std.specs.Option.{option_map_or}
use Rattle.causal_name.specs.declared.MsgName.{MsgName}
use Rattle.causal_line.specs.DetailTexts as text
use Rattle.causal_line.specs.DetailTexts.{line_prefix}
use Rattle.causal_line.specs.declared.fault_details.FaultDetail.TheVariants as text_detail
use Rattle.causal_merge.specs.declared.fault.MergeKind.{MergeKind}
use Rattle.causal_merge.specs.declared.fault.MergeFault.{MergeFault}
use Rattle.causal_merge.specs.declared.fault_details.MergeDetail.{MergeDetail}
use Rattle.causal_merge.specs.declared.fault_details.MergeDetail.TheVariants as detail
use Rattle.causal_merge.specs.declared.sends.SendName.{SendName}
use Rattle.causal_merge.specs.Sentences.{sentence_of}

-- `line 4: there is no earlier send to process 1 of message 7 of incarnation 0 of process 2`
abbrev pub merge_no_send_text : ℕ → ℕ → SendName → List ℕ
merge_no_send_text line process name =
    line_prefix line (codes ": there is no earlier send to process " ++ (decimal process ++ (codes " of message " ++ (decimal name.ssn
    ++ (codes " of incarnation " ++ (decimal name.lane ++ (codes " of process " ++ decimal name.source.0)))))))

-- `line 4: process 1 has delivered message 0 of process 2 already`
abbrev pub merge_duplicate_text : ℕ → ℕ → MsgName → List ℕ
merge_duplicate_text line process message =
    line_prefix line (codes ": process " ++ (decimal process ++ (codes " has delivered message " ++ (decimal message.ssn
    ++ (codes " of process " ++ (decimal message.source.0 ++ codes " already"))))))

-- the message of these values
abbrev pub merge_detail_text : ℕ → MergeDetail → List ℕ
merge_detail_text line (detail.Ssn process given next) = text.detail_text line (text_detail.Ssn process given next)
merge_detail_text line (detail.Send process name) = merge_no_send_text line process.0 name
merge_detail_text line (detail.Rsn process given next) = text.detail_text line (text_detail.Rsn process given next)
merge_detail_text line (detail.Again process message) = merge_duplicate_text line process.0 message
merge_detail_text line (detail.Undelivered det) = text.detail_text line (text_detail.Undelivered det)

-- the message of a kind: `line 4: some process has no header`
abbrev pub merge_kind_text : ℕ → MergeKind → List ℕ
merge_kind_text line k = line_prefix line (codes ": " ++ sentence_of k)

-- the message of an error, with its values if there are any
abbrev pub merge_sentence : MergeFault → List ℕ
merge_sentence fault = option_map_or (merge_detail_text fault.line) fault.detail (merge_kind_text fault.line fault.kind)
