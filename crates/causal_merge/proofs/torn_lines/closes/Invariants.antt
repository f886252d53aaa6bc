use Rattle.std.proofs.Common.{◌≡◌, ◌≤◌, take, false}
use Rattle.causal_merge.specs.TornLines.{byte_count, closes_within}
use Rattle.causal_merge.proofs.torn_lines.closes.Given as goal

-- the brackets so far are counted, and some bracket was open after each byte
abbrev pub invariant-loop-byte : goal.invariant-loop-byte
invariant-loop-byte l = record {
  opening : l.opening ≡ byte_count 91 (take l.byte-index l.bytes);
  closing : l.closing ≡ byte_count 93 (take l.byte-index l.bytes);
  few_opening : l.opening ≤ l.byte-index;
  few_closing : l.closing ≤ l.byte-index;
  open_so_far : closes_within l.byte-index l.bytes ≡ false;
}
