-- What a member does itself while its restart is in hand, whatever its policy.
use Rattle.std.specs.Prelude.{◌≡◌, ℕ, Bool, true, false, length, is_some}
use Rattle.ds_base.specs.declared.names.Sizes.{Sizes}
use Rattle.page_index.specs.Places.{AreApart}
use Rattle.member_pool.specs.declared.frame.Frame.{Frame}
use Rattle.member_pool.specs.Frames.{page_of}
use Rattle.member_log.specs.Buffers.{empty_buffer}
use Rattle.member_marks.specs.Frames.{frame_in}
use Rattle.member_marks.specs.State.{log_size}
use Rattle.member_intents.specs.declared.intent.Intent.{Intent}
use Rattle.member_intents.specs.declared.intent.Intent.TheVariants as intent
use Rattle.member_intents.specs.declared.outcome.Answered.{Answered}
use Rattle.member_intents.specs.declared.outcome.Sent.{Sent}
use Rattle.member_resources.specs.Held.{Held}
use Rattle.member_resources.specs.Events as event
use Rattle.page_world.specs.Holdings.{KeepsPages}
use Rattle.group_member.specs.declared.stepped.Stepped.{Stepped}
use Rattle.group_member.specs.Happening.{Acts, Steps}
use Rattle.group_member.specs.Members.{IsDown, Member}
use Rattle.script_fates.specs.Fated.{FatesState}

-- it reads a page to be cast out, writes it, or ends its castout
abbrev pub casts_out : Intent → Bool
casts_out (intent.CastoutRead page) = true
casts_out intent.CastoutWrite = true
casts_out intent.CastoutDone = true
casts_out _ = false

-- no other event of its own changes anything that pages know of the facility, nor the disk
abbrev pub RestsLeave : Type 0
RestsLeave = (m n : Member) (u v : event.World) (place : ℕ) (s : Sent) (a : Answered) → is_some m.restart ≡ true → (acts : Acts m u place s a v n) → casts_out acts.intent ≡ false → KeepsPages u.facility v.facility × (v.drive ≡ u.drive)

-- ---- what is in its frames: nothing. A page may be placed in one by its policy, in no two, but isn't read

pub record IsEmpty (x : Frame) : Type 0 where
  pub unfilled : x.filled ≡ false
  pub unregistered : x.registered ≡ false
  pub unchanged : x.changed ≡ false

-- each frame has its bytes, whatever they are; and no record was put into its log buffer
pub record IsBare (h : Held) : Type 0 where
  pub frames : (at : ℕ) → IsEmpty (frame_in h.marks.heads at)
  pub apart : AreApart page_of h.marks.heads.frames
  pub each : length h.pages ≡ length h.marks.heads.frames
  pub log : h.marks.log ≡ empty_buffer log_size

-- so it is behind its failure, and behind each event of it while its restart is in hand, up to the one in which it is up
abbrev pub DownIsBare : Type 0
DownIsBare = (sizes : Sizes) (m : Member) → IsDown sizes m → IsBare m.holds

abbrev pub RestsBare : Type 0
RestsBare = (m n : Member) (u v : event.World) (f g : FatesState) (place : ℕ) (stepped : Stepped) → is_some m.restart ≡ true → Steps m u f place stepped n v g → IsBare m.holds → IsBare n.holds
