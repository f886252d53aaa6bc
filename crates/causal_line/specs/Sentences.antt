-- The error message of each kind.
use Rattle.std.specs.Prelude.{ℕ, List, codes}
use Rattle.causal_line.specs.declared.kind.TextKind.{TextKind}
use Rattle.causal_line.specs.declared.kind.TextKind.TheVariants as kind

-- the error message of a kind
abbrev pub kind_sentence : TextKind → List ℕ
kind_sentence kind.After = codes "a line follows the end line"
kind_sentence kind.Big = codes "the text is too long"
kind_sentence kind.Syntax = codes "the line is not a JSON value"
kind_sentence kind.Form = codes "the line has none of the shapes"
kind_sentence kind.Header = codes "the header is not the first line alone"
kind_sentence kind.Version = codes "there is no such version"
kind_sentence kind.Processes = codes "the number of processes is not one that the version allows"
kind_sentence kind.TooLong = codes "the trace would be too long"
kind_sentence kind.NoProcess = codes "there is no such process"
kind_sentence kind.NotUp = codes "the process is not up"
kind_sentence kind.NotDown = codes "the process is not down"
kind_sentence kind.Lanes = codes "too many lanes have been opened"
kind_sentence kind.WrongSsn = codes "the send sequence number is not the next one"
kind_sentence kind.NoSend = codes "there is no such send"
kind_sentence kind.WrongRsn = codes "the receive sequence number is not the next one"
kind_sentence kind.Doubled = codes "the message has been delivered"
kind_sentence kind.Unsorted = codes "the determinants are not in order"
kind_sentence kind.NoDelivery = codes "there is no delivery of this determinant"
kind_sentence kind.Count = codes "the number of entries is another"
kind_sentence kind.Cut = codes "the text ends without an end line"
kind_sentence kind.NoMemory = codes "no memory"
