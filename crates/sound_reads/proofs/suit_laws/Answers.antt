use Rattle.std.specs.Prelude.{[], ◌++◌, length}
use Rattle.ds_model.specs.RecordBytes.{record_bytes}
use Rattle.sound_reads.proofs.Suiting.{reads_bring, plan_read_suits}
use Rattle.sound_reads.proofs.suit_laws.Goals as goal

pub returns : goal.returns
returns c =
    let brings = reads_bring c.merging_laws.ensures.rises c.forward_laws.ensures.own (λ r h. (c.whole_laws.ensures.size (record_bytes r ++ []) r (length (record_bytes r)) (c.reading_laws.ensures.again r [] h)).0) c.redo_laws.ensures.brings in
    record { brings = brings; suits = plan_read_suits brings c.read_laws.ensures.greatest }
