-- A disk on which nothing was written, and one that a restart of the group has closed.
use Rattle.std.proofs.Common.{◌≡◌, ℕ, true, List, [], ◌∷◌, refl, arith}
use Rattle.std.specs.FinMap as map
use Rattle.ds_base.specs.declared.names.PageId.{PageId}
use Rattle.ds_disk.specs.Pages.{page_at}
use Rattle.ds_disk.specs.Memory.{nothing}
use Rattle.ds_model.specs.RecordBytes.{record_bytes, spelling}
use Rattle.sound_disk.specs.Checkpoints.{IsCheckpointed}
use Rattle.ds_model.specs.declared.log.Body.TheVariants as body
use Rattle.sound_disk.specs.Examples.{first_log, disk_of, record_of, closed_log}
use Rattle.sound_disk.specs.Sound.{IsSoundDisk}
use Rattle.sound_disk.proofs.Allowed.{commit_allowed, checkpoint_allowed, end_allowed}
use Rattle.sound_disk.proofs.Blank.{IsBlank, never_written, zeros_stand, blank_tables}
use Rattle.sound_disk.proofs.Ones.{IsSoundLog, first_is_sound}

none_checkpointed : IsCheckpointed (page_at map.empty) []
none_checkpointed = record { offsets = refl; before = refl }

empty_log : IsBlank → IsSoundLog map.empty []
empty_log b = record {
  allowed = tt;
  rising = tt;
  numbers = refl;
  follow = tt;
  stand = λ id. zeros_stand b (first_log []) id (page_at map.empty id) (never_written id);
  tables = blank_tables b [] (λ id. refl) tt;
  turns = refl;
  left = omega arith;
  checkpointed = none_checkpointed;
}

pub empty_is_sound : IsBlank → IsSoundDisk nothing
empty_is_sound b = record { logs = first_log []; sound = first_is_sound map.empty [] (empty_log b) none_checkpointed }

closed_checkpointed : IsCheckpointed (page_at map.empty) closed_log
unfolding record_bytes spelling
closed_checkpointed = record { offsets = refl; before = refl }

closed_is : IsBlank → IsSoundLog map.empty closed_log
closed_is b = record {
  allowed = (commit_allowed 1 1 (omega arith) (λ e. omega arith) (omega arith), (checkpoint_allowed 1 30 (omega arith) (omega arith), (end_allowed 1 (omega arith), tt)));
  rising = (omega arith, (omega arith, (omega arith, tt)));
  numbers = refl;
  follow = (record { named = refl; fits = refl; takes_back = tt }, (record { named = refl; fits = refl; takes_back = tt }, (record { named = refl; fits = refl; takes_back = tt }, tt)));
  stand = λ id. zeros_stand b (first_log closed_log) id (page_at map.empty id) (never_written id);
  tables = blank_tables b (record_of 1 1 body.Commit ∷ []) (λ id. refl) (tt, tt);
  turns = refl;
  left = omega arith;
  checkpointed = closed_checkpointed;
}

pub closed_is_sound : IsBlank → IsSoundDisk (disk_of map.empty closed_log)
closed_is_sound b = record { logs = first_log closed_log; sound = first_is_sound map.empty closed_log (closed_is b) none_checkpointed }
