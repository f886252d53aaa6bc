-- The canonical text of a recording: tokens without spaces, a line feed after each line.
use Rattle.std.specs.Prelude.{ℕ, ◌&&◌, nat_le, if◌then◌else◌, List, ◌++◌, codes, decimal, flat_map}
use Rattle.std.specs.List.{list_all}
use Rattle.causal_spelling.specs.Spelling.{det_text, dets_text}
use Rattle.causal_trace.specs.declared.entry.Entry.{Entry}
use Rattle.causal_trace.specs.declared.entry.Entry.TheVariants.{Send, Deliver, Stable, Crash, Restart, Forget}
use Rattle.causal_trace.specs.Rows.{Recording}
use Rattle.causal_trace.specs.State.{entries_of}
use Rattle.causal_line.specs.declared.parsed_line.ParsedLine.{ParsedLine}
use Rattle.causal_line.specs.declared.parsed_line.ParsedLine.TheVariants as parsed
use Rattle.causal_line.specs.declared.stage.Stage.TheVariants.{Ended}
use Rattle.causal_line.specs.declared.version.Version.{Version}
use Rattle.causal_line.specs.declared.version.Version.TheVariants.{One, Two}
use Rattle.causal_line.specs.Stages.{lines_up_to}
use Rattle.causal_line.specs.Versions.{max_processes_in, allows}

-- the first version that can express the recording
abbrev pub canonical_version : Recording → Version
canonical_version r = if nat_le r.processes (max_processes_in One) && list_all (allows One) (entries_of r) then One else Two

-- the text of an entry
abbrev pub entry_text : Entry → List ℕ
entry_text (Send from to ssn) = codes "[\"send\"," ++ (decimal from.0 ++ (codes "," ++ (decimal to.0 ++ (codes "," ++ (decimal ssn ++ codes "]")))))
entry_text (Deliver to send rsn listed) = codes "[\"deliver\"," ++ (decimal to.0 ++ (codes "," ++ (decimal send ++ (codes "," ++ (decimal rsn ++ (codes "," ++ (dets_text listed ++ codes "]")))))))
entry_text (Stable det) = codes "[\"stable\"," ++ (det_text det ++ codes "]")
entry_text (Crash who) = codes "[\"crash\"," ++ (decimal who.0 ++ codes "]")
entry_text (Restart who listed) = codes "[\"restart\"," ++ (decimal who.0 ++ (codes "," ++ (dets_text listed ++ codes "]")))
entry_text (Forget who listed) = codes "[\"forget\"," ++ (decimal who.0 ++ (codes "," ++ (dets_text listed ++ codes "]")))

-- the text of a parsed line
abbrev pub parsed_line_text : ParsedLine → List ℕ
parsed_line_text (parsed.Header version processes) = codes "[\"trace\"," ++ (decimal version ++ (codes "," ++ (decimal processes ++ codes "]")))
parsed_line_text (parsed.Entry e) = entry_text e
parsed_line_text (parsed.End entries) = codes "[\"end\"," ++ (decimal entries ++ codes "]")

-- the text of a parsed line, and a line feed
abbrev pub line_text : ParsedLine → List ℕ
line_text s = parsed_line_text s ++ codes "\n"

-- the lines of the entries
abbrev pub entries_text : List Entry → List ℕ
entries_text es = flat_map (λ e. entry_text e ++ codes "\n") es

-- the canonical text: the header, a line for each entry, and the end line
abbrev pub canonical_text : Recording → List ℕ
canonical_text r = flat_map line_text (lines_up_to (Ended (canonical_version r) r))
