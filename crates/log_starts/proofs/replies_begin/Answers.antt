use Rattle.log_starts.proofs.replies_begin.Goals as goal
use Rattle.log_starts.specs.Starts.{GrownBeginsIn}
use Rattle.log_starts.proofs.Starts.{grown_in}
use Rattle.log_starts.proofs.Replies.{asks_within, replies_begin}

pub returns : goal.returns
returns c =
    let grown : GrownBeginsIn = grown_in c.reading_laws.ensures.found c.whole_laws.ensures.first c.whole_laws.ensures.none c.whole_laws.ensures.size c.whole_laws.ensures.front in
    record {
      grown = grown;
      replies = λ log r x told s begins.
          replies_begin c.whole_laws.ensures.front c.whole_laws.ensures.goes c.whole_laws.ensures.ends c.whole_laws.ensures.bad c.whole_laws.ensures.empty
          c.search_laws.ensures.step c.search_laws.ensures.told c.search_laws.ensures.filled c.search_laws.ensures.before grown log r x told s begins;
      within = asks_within c.search_laws.ensures.before;
    }
