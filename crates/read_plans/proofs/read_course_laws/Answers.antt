use Rattle.std.specs.Prelude.{[], ◌++◌, length}
use Rattle.ds_model.specs.RecordBytes.{record_bytes}
use Rattle.read_plans.proofs.Told.{courses_are_read}
use Rattle.read_plans.proofs.read_course_laws.Goals as goal

pub returns : goal.returns
returns c = courses_are_read (λ r h. (c.whole_laws.ensures.size (record_bytes r ++ []) r (length (record_bytes r)) (c.reading_laws.ensures.again r [] h)).0) c.settled_laws.ensures
