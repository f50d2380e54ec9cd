-- What a reading holds of what is known of a run.
use Rattle.run_spans.specs.declared.reading.Reading.{Reading}
use Rattle.run_spans.specs.Holders.{holder_in}
use Rattle.run_spans.specs.LatestEvents.{by_others}
use Rattle.run_spans.specs.Places.{place_in}
use Rattle.run_spans.specs.Runs.{Known}

unfoldable pub known_of : Reading → Known
known_of r = record {
  spans = r.spans.items;
  commits = r.commits.items;
  waits = r.waits.items;
  pages = r.pages.items;
  holder = holder_in r.seats;
  rung = by_others r.rung;
  written = by_others r.written;
  appended = place_in r.appended;
  reached = place_in r.reached;
}
