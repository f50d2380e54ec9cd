use Rattle.table_image_text.proofs.Written.{written_is_read}
use Rattle.table_image_text.proofs.laws.image_laws.Goals as goal

pub returns : goal.returns
returns c = written_is_read
