-- The page that a command reads or fills.
use Rattle.std.specs.Prelude.{ℕ, ◌≡◌, ◌<◌, nat_lt, if◌then◌else◌, List, [], length, slice_index_or, slice_set}
use Rattle.facility.specs.declared.command.Command.{Command}
use Rattle.facility.specs.declared.command.Command.TheVariants as command
use Rattle.facility.specs.declared.command.Reply.{Reply}
use Rattle.facility.specs.States as facility
use Rattle.facility.specs.Commands.{CanExecute, Executes}
use Rattle.member_marks.specs.Frames.{frame_in}
use Rattle.member_resources.specs.declared.lending.Lent.{Lent}
use Rattle.member_resources.specs.declared.lending.Lent.TheVariants as lent
use Rattle.member_resources.specs.Held.{Held}

abbrev pub framed : Held → ℕ → Lent
framed h at = if nat_lt at (length h.pages) then lent.Frame at else lent.Spare

-- a changed frame keeps its bytes
abbrev pub lent_of : Held → Command → Lent
lent_of h (command.Read page index) = if (frame_in h.marks.heads index).changed then lent.Spare else framed h index
lent_of h (command.Write page index) = framed h index
lent_of h (command.CastoutRead page) = lent.Buffer
lent_of h _ = lent.Spare

abbrev pub page_at : Held → ℕ → List ℕ
page_at h at = slice_index_or h.pages at []

abbrev pub with_page : Held → ℕ → List ℕ → Held
with_page h at page = record h { pages = slice_set h.pages at page }

abbrev pub lent_bytes : Held → Lent → List ℕ
lent_bytes h (lent.Frame at) = page_at h at
lent_bytes h lent.Buffer = h.buffer
lent_bytes h lent.Spare = h.spare

abbrev pub with_bytes : Held → Lent → List ℕ → Held
with_bytes h (lent.Frame at) page = with_page h at page
with_bytes h lent.Buffer page = record h { buffer = page }
with_bytes h lent.Spare page = record h { spare = page }

-- a frame that is lent is there
abbrev pub IsThere : Held → Lent → Type 0
IsThere h (lent.Frame at) = at < length h.pages
IsThere h lent.Buffer = Unit {0}
IsThere h lent.Spare = Unit {0}

-- the command was executed over the page that is lent, and nothing but that page is changed
pub record Executed (h : Held) (w : facility.Held) (c : Command) (lent : Lent) (answer : Reply) (k : Held) (v : facility.Held) : Type 0 where
  pub executes : Executes w h.marks.member c (lent_bytes h lent) answer v (lent_bytes k lent)
  pub back : k ≡ with_bytes h lent (lent_bytes k lent)

-- the member has given the command
pub record Gives (h : Held) (w : facility.Held) (c : Command) (answer : Reply) (k : Held) (v : facility.Held) : Type 0 where
  pub can : CanExecute w h.marks.member c
  pub executed : Executed h w c (lent_of h c) answer k v
