use Rattle.causal_reading.proofs.FeedLemmas.{fed_none}
use Rattle.causal_reading.proofs.shared_chunks.SharedChunks.read_ready.Goals as goal

pub returns : goal.returns
returns c = c.read_from.ensures.fed c.args.reader (fed_none c.args.reader)
