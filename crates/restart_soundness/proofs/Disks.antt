-- A disk of any kind has the logs of all members and pages of bytes, so a whole run over a sound one leaves it sound.
use Rattle.std.proofs.Common.{◌≡◌, Bool, length, Option, Some, None, Result, refl}
use Rattle.ds_base.specs.declared.fault.NoMemory.{NoMemory}
use Rattle.ds_disk.specs.Contents.{Contents, Becomes}
use Rattle.ds_disk.specs.Pages.{PagesAreBytes}
use Rattle.group_restart.specs.declared.calls.State.{State}
use Rattle.sound_disk.specs.Sound.{IsSoundDisk}
use Rattle.sound_steps.specs.Given.{IsLeftSound}
use Rattle.restart_soundness.specs.Runs.{IsLeft, RunsLeaveSound, RestartsLeaveSound, RunsLeaveDisksSound, RestartsLeaveDisksSound, SoundDisksBegin, drive_of}

-- with each sound disk a restart may begin, since its pages are bytes
from_sound : SoundDisksBegin → (result : Result State NoMemory) (a b : Option Contents) → ((c : Contents) → a ≡ Some c → PagesAreBytes c.pages) → Becomes a b (λ c d. IsLeftSound c → IsLeft result c d)
    → Becomes a b (λ c d. IsSoundDisk c → IsLeft result c d)
from_sound begins result None b bytes h = tt
from_sound begins result (Some c) None bytes h = absurd h
from_sound begins result (Some c) (Some d) bytes h = λ sound. h (begins c (bytes c refl) sound)

module _ {D : Type 0} (alive : D → Bool) (contents : D → Option Contents) (logs : (disk : D) (c : Contents) → contents disk ≡ Some c → length c.logs ≡ 32) (bytes : (disk : D) (c : Contents) → contents disk ≡ Some c → PagesAreBytes c.pages) where
  pub runs_leave_disks : SoundDisksBegin → RunsLeaveSound → RunsLeaveDisksSound alive contents
  runs_leave_disks begins leaves old new h k result begun run =
      from_sound begins result (contents old) (contents new) (bytes old) (leaves (drive_of alive contents old) (drive_of alive contents new) h k result (logs old) (logs new) begun run)

  pub restarts_leave_disks : SoundDisksBegin → RestartsLeaveSound → RestartsLeaveDisksSound alive contents
  restarts_leave_disks begins leaves old new result restarts =
      from_sound begins result (contents old) (contents new) (bytes old) (leaves (drive_of alive contents old) (drive_of alive contents new) result (logs old) (logs new) restarts)
