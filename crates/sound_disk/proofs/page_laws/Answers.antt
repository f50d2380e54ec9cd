use Rattle.std.specs.Prelude.{map}
use Rattle.std.proofs.Common.{refl}
use Rattle.ds_disk.specs.Pages.{page_at}
use Rattle.sound_disk.specs.Versions.{merged, current}
use Rattle.sound_disk.specs.Index_views.{index_of}
use Rattle.sound_disk.specs.Laws.{records_of}
use Rattle.sound_disk.proofs.Merged.{merged_are}
use Rattle.sound_disk.proofs.Pages.{redo_last, are_logs}
use Rattle.sound_disk.proofs.page_laws.Goals as goal

pub returns-clause-merged : goal.returns-clause-merged
returns-clause-merged c = λ bytes logs h t. merged_are c.merging_laws.ensures.rises bytes logs h t

pub returns-clause-redo : goal.returns-clause-redo
returns-clause-redo c = λ d logs id h.
    redo_last c.redo_laws.ensures.redo (merged logs) (merged_are c.merging_laws.ensures.rises d.logs logs h.whole_logs h.transactions) id (current (page_at d.pages id)) (h.versions id).version

pub returns-clause-rows : goal.returns-clause-rows
returns-clause-rows c = λ d logs h. record { records = records_of logs; are = are_logs 1 d.logs logs h.whole_logs; rows_are = refl }

pub returns-clause-index : goal.returns-clause-index
returns-clause-index c = λ at records table h. c.opens_on_sound_disk.ensures.opens (index_of at records table h.home) h.opens
