-- One more record may stand in a log.
use Rattle.std.proofs.Common.{List, [], ◌∷◌, ◌++◌}
use Rattle.std.specs.List.{AllByRecursion}
use Rattle.ds_model.specs.RecordBytes.{IsAllowed}
use Rattle.ds_model.specs.declared.log.LogRecord.{LogRecord}

pub one_more : (records : List LogRecord) (more : LogRecord) → AllByRecursion IsAllowed records → IsAllowed more → AllByRecursion IsAllowed (records ++ more ∷ [])
one_more [] more each last = (last, tt)
one_more (first ∷ rest) more each last = (each.0, one_more rest more each.1 last)
