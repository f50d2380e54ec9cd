use Rattle.std.proofs.Common.{◌≡◌, Err, ap}
use Rattle.opening_rows.specs.declared.fault.LogsFault.TheVariants.{Damaged}
use Rattle.opening_rows.proofs.Told.{told_of, told_same, damaged_as}
use Rattle.opening_rows.proofs.logs.read_log.Goals as goal

pub returns-in-Err-Damaged : goal.returns-in-Err-Damaged
returns-in-Err-Damaged g c =
    let found = c.in-Err-Damaged.ensures.answers.damaged c.in-Err-Damaged.at (ap Err c.in-Err-Damaged.field-0-is) in
    record {
      ok = tt;
      damaged = λ m a e. let same : Damaged c.args.member c.in-Err-Damaged.at ≡ Damaged m a = cc in damaged_as _ c.args.member c.in-Err-Damaged.at m a same (told_of _ _ _ found.2);
      failed = λ e. cc;
      same = told_same _ _ _ found.2;
      later = c.in-Err-Damaged.ensures.cause.later;
    }
