use Rattle.restart_soundness.proofs.Numbered.{bytes_are_numbered, renewed_are_numbered, sound_disks_begin, unasked_disks_begin, new_disks_begin, left_disks_are_sound, writes_stay_numbered}
use Rattle.restart_soundness.proofs.disk_laws.Goals as goal

pub returns : goal.returns
returns c = record {
  bytes = bytes_are_numbered;
  renewed = renewed_are_numbered;
  begin = sound_disks_begin;
  unasked = unasked_disks_begin;
  new = new_disks_begin;
  left = left_disks_are_sound;
  written = writes_stay_numbered;
}
