use Rattle.disk_heads.proofs.Ending.{end_told, read_failed, then_failed}
use Rattle.disk_heads.proofs.ends.find_end.Goals as goal

pub returns-in_err-length : goal.returns-in_err-length
returns-in_err-length g c = read_failed _ _ _ _ _ _ _ c.in_err-length.field-0.0 c.from_residual-in_err-length.result c.from_residual-in_err-length.ensures.1 c.in_err-length.ensures

pub returns-in_err-read_up : goal.returns-in_err-read_up
returns-in_err-read_up g c =
    then_failed _ _ _ _ _ _ _ _ c.in_ok-length.length _ _ _ c.in_err-read_up.field-0.0 c.from_residual-in_err-read_up.result c.from_residual-in_err-read_up.ensures.1 c.in_ok-length.ensures c.in_err-read_up.ensures.kept

pub returns : goal.returns
returns g c =
    end_told _ _ _ _ _ _ c.args.member c.in_ok-length.length c.read_up.new.end.head c.new-end.result _ c.told.result c.in_ok-length.ensures c.in_ok-read_up.ensures.kept c.new-end.ensures
    c.told.ensures.ends c.told.ensures.damaged c.told.ensures.never
