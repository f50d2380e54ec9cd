use Rattle.restart_reads.proofs.Going.{ReadingLaws, reading_begins, reading_goes}
use Rattle.restart_reads.proofs.restart_laws.Goals as goal

pub returns : goal.returns
returns c =
    let laws : ReadingLaws = record {
      again = c.reading_laws.ensures.again;
      goes_on = c.whole_laws.ensures.goes;
      parts = c.log_laws.ensures.read;
      nothing = c.reader_laws.ensures.nothing;
      keeping = c.reader_laws.ensures.keeping;
      grown = c.reader_laws.ensures.grown;
      nothing_noted = c.reader_laws.ensures.nothing_noted;
      keeping_noted = c.reader_laws.ensures.keeping_noted;
      grown_noted = c.reader_laws.ensures.grown_noted;
      nothing_kept = c.kept_laws.ensures.nothing;
      length_kept = c.kept_laws.ensures.length;
      grown_kept = c.kept_laws.ensures.grown;
      last = c.kept_laws.ensures.last;
      asks = c.kept_laws.ensures.asks;
      added = c.kept_laws.ensures.added;
      undamaged = c.read_laws.ensures.damage;
    } in
    record { begins = reading_begins laws; goes = reading_goes laws }
