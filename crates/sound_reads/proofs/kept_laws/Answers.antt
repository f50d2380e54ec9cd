use Rattle.sound_reads.proofs.Kept.{ReadingLaws, nothing_is_kept, length_is_kept, grown_is_kept, last_is_read}
use Rattle.sound_reads.proofs.Asking.{read_asks, added_asks}
use Rattle.sound_reads.proofs.kept_laws.Goals as goal

pub returns : goal.returns
returns c =
    let k : ReadingLaws = record {
      found = c.reading_laws.ensures.found;
      again = c.reading_laws.ensures.again;
      first = c.whole_laws.ensures.first;
      none = c.whole_laws.ensures.none;
      goes = c.whole_laws.ensures.goes;
      ends = c.whole_laws.ensures.ends;
      bad = c.whole_laws.ensures.bad;
      size = c.whole_laws.ensures.size;
    } in
    record {
      nothing = nothing_is_kept;
      length = length_is_kept;
      grown = grown_is_kept k;
      last = last_is_read k c.log_laws.ensures.read c.reader_laws.ensures.last;
      asks = read_asks c.log_laws.ensures.read c.reader_laws.ensures.last c.reader_laws.ensures.old_noted (last_is_read k c.log_laws.ensures.read c.reader_laws.ensures.last);
      added = added_asks;
    }
