use Rattle.std.proofs.Common.{◌≡◌, ◌≤◌, take}
use Rattle.causal_script.specs.Lines.{count_line_feeds}
use Rattle.causal_script.proofs.parse.count_line_feeds.Given as goal

abbrev pub invariant-loop-byte : goal.invariant-loop-byte
invariant-loop-byte l = (l.feeds ≡ count_line_feeds (take l.byte-index l.bytes)) × (l.feeds ≤ l.byte-index)
