-- What follows from the logs of a group that has stopped.
use Rattle.std.specs.Prelude.{List}
use Rattle.std.specs.FinMap as finite
use Rattle.log_record.specs.declared.log.Log.{Log}
use Rattle.log_merge.specs.Merging.{all_records, in_order}
use Rattle.page_records.specs.Places.{by_page}
use Rattle.restart_plan.specs.declared.opened.Opened.{Opened}
use Rattle.restart_plan.specs.declared.plan.Plan.{Plan}
use Rattle.restart_plan.specs.Greatest.{no_number, greatest_among}
use Rattle.restart_plan.specs.Tails.{tails_of}
use Rattle.restart_plan.specs.Ends.{ends_of}
use Rattle.restart_plan.specs.Values.{falling}
use Rattle.restart_plan.specs.Opened.{nothing_open, with_logs}
use Rattle.restart_plan.specs.Renewal.{must_renew}

abbrev pub opened_of : List Log → Opened
opened_of logs = with_logs nothing_open logs

-- the changes of all open transactions are undone in falling order of their numbers
unfoldable pub plan_of : List Log → Plan
plan_of logs = record {
  tails = tails_of logs;
  ends = ends_of logs;
  merged = in_order (all_records logs);
  pages = by_page (in_order (all_records logs));
  closings = (opened_of logs).closings;
  undo = falling (finite.entries (opened_of logs).undo);
  endings = (opened_of logs).endings;
  renews = must_renew logs;
  greatest = greatest_among no_number logs;
}
