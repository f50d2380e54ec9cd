use Rattle.std.proofs.Common.{◌≡◌, drop, length, true}
use Rattle.ds_disk.specs.Contents.{put_logs}
use Rattle.ds_disk.specs.Logs.{logs_have_bytes}
use Rattle.ds_disk.proofs.log_set.LogSet.put_all.Given as goal

abbrev pub invariant-loop-member : goal.invariant-loop-member
invariant-loop-member l =
    record {
      put : put_logs l.self (drop l.member-index l.logs) ≡ put_logs l.fn.self l.logs;
      count : length l.self ≡ length l.fn.self;
      logged : logs_have_bytes l.fn.self ≡ true → logs_have_bytes l.self ≡ true;
    }
