-- Any event of a member's restart, as moves in the world of pages.
use Rattle.std.specs.Prelude.{◌≡◌, ◌≢◌, ◌⊎◌, ℕ, ◌==◌, ◌&&◌, Bool, true, false, List, Option, Some, None, is_some}
use Rattle.ds_base.specs.declared.names.PageId.{PageId}
use Rattle.ds_model.specs.declared.lock.Name.TheVariants as name
use Rattle.facility.specs.declared.command.Command.{Command}
use Rattle.facility.specs.declared.command.Command.TheVariants as command
use Rattle.facility.specs.declared.command.Reply.{Reply}
use Rattle.facility.specs.declared.command.Reply.TheVariants as reply
use Rattle.member_intents.specs.declared.outcome.Answered.{Answered}
use Rattle.member_intents.specs.declared.outcome.Answered.TheVariants as answered
use Rattle.member_resources.specs.Events.{World as Outside}
use Rattle.restart_records.specs.Trans.{page_undone}
use Rattle.restart_marks.specs.declared.intent.RestartIntent.{RestartIntent}
use Rattle.restart_marks.specs.declared.intent.RestartIntent.TheVariants as intent
use Rattle.restart_marks.specs.declared.intent.RestartSent.{RestartSent}
use Rattle.restart_marks.specs.declared.intent.RestartSent.TheVariants as sent
use Rattle.restart_marks.specs.Moves.{is_recovered}
use Rattle.restart_resources.specs.Events.{Happens, RunsCommand}
use Rattle.restart_resources.specs.Held.{Held}
use Rattle.restart_resources.specs.Settled.{read_in, settle_undo_after, tested_in}
use Rattle.page_protocol.specs.Moves.{World, IsWritten}
use Rattle.page_world.specs.Holdings.{Holdings, no_copy, with_facility}
use Rattle.page_world.specs.Numbers.{page_number}
use Rattle.page_members.specs.Members.{GroupGoes, Shows}
use Rattle.page_restarts.specs.Beside.{Beside, Leads, as_restarting}
use Rattle.page_restarts.specs.Bringing.{Forwards}
use Rattle.page_restarts.specs.Undoes.{IsUndone}

-- ---- what an event takes from elsewhere

-- the own log makes of the page in hand what it should
abbrev pub IsRaised : World → Holdings → (ℕ → ℕ → List ℕ) → Held → Held → Type 0
IsRaised w g content h e = (p : PageId) → h.marks.hand.page ≡ Some p → Forwards w g content e p

-- where a page that is given up is the member's, all of its changes of it are in the group's copy
abbrev pub MayGiveUp : World → Holdings → ℕ → PageId → Type 0
MayGiveUp w g m p = g.owner (page_number p) ≡ Some m → IsWritten w.group (w.pages (page_number p)) m

-- the lock of a page is granted that nobody has, or the member itself
abbrev pub MayTake : Holdings → ℕ → Option PageId → Type 0
MayTake g m None = Unit {0}
MayTake g m (Some p) = (g.owner (page_number p) ≡ None) ⊎ (g.owner (page_number p) ≡ Some m)

abbrev pub is_granted : Reply → Bool
is_granted (reply.Granted version) = true
is_granted _ = false

-- a change is taken back on a page that the member has, with all of its own changes, and its record is put
pub record MayUndo (w : World) (g : Holdings) (h k : Held) (p : PageId) (number : ℕ) : Type 0 where
  pub own : g.owner (page_number p) ≡ Some h.marks.member
  pub newest : (h.marks.hand.changed ≡ true) ⊎ IsWritten w.group (w.pages (page_number p)) h.marks.member
  pub undone : IsUndone g h k p number

-- by what was wanted: of what the command has left, and what it has answered
abbrev pub IsGiven : World → Holdings → (ℕ → ℕ → List ℕ) → Held → Held → RestartIntent → Reply → Type 0
IsGiven w g content h e intent.Read answer = IsRaised w g content h (read_in e answer)
IsGiven w g content h e intent.Test answer = IsRaised w g content h (tested_in e answer)
IsGiven w g content h e intent.PurgePage answer = (p : PageId) → h.marks.hand.page ≡ Some p → MayGiveUp w g h.marks.member p
IsGiven w g content h e (intent.Obtain id) answer = is_granted answer ≡ true → MayTake g h.marks.member (page_undone h.marks.trans id)
IsGiven w g content h e (intent.Grant id) answer = is_granted answer ≡ true → MayTake g h.marks.member (page_undone h.marks.trans id)
IsGiven w g content h e (intent.Undo id) answer = (number : ℕ) (p : PageId) → answer ≡ reply.Drawn number → h.marks.hand.page ≡ Some p → MayUndo w g h (settle_undo_after e id answer) p number
IsGiven w g content h e intent.ReleasePage answer = (p : PageId) → h.marks.claim ≡ Some p → MayGiveUp w g h.marks.member p
IsGiven w g content h e _ answer = Unit {0}

-- a page in hand that was changed, and whose record is still retained, may be put aside: not all retained pages are recovered then, and all records
-- that the member has drawn are on disk
pub record IsQuiet (g : Holdings) (h after : Held) : Type 0 where
  pub unrecovered : after.marks.hand.changed ≡ true → is_some after.marks.hand.key ≡ true → is_recovered h.marks ≡ false
  pub level : after.marks.hand.changed ≡ true → is_some after.marks.hand.key ≡ true → g.stable h.marks.member ≡ g.written h.marks.member

pub record Supplied (w : World) (u v : Outside) (g : Holdings) (content : ℕ → ℕ → List ℕ) (h k : Held) (s : RestartSent) (a : Answered) (happens : Happens (as_restarting u) h s a (as_restarting v) k) : Type 0 where
  pub given : (c : Command) → s ≡ sent.Command c → (r : RunsCommand u.facility h happens.intent c a happens.said v.facility happens.after) → IsGiven w g content h r.after happens.intent r.answer
  pub quiet : IsQuiet g h happens.after
  -- the disk does what it is asked
  pub works : a ≢ answered.Failed

-- ---- what an event does to page locks

-- the lock of the page is asked for
abbrev pub asks_page : Command → ℕ → Bool
asks_page (command.Obtain (name.Page p) mode) n = n == page_number p
asks_page (command.Grant slot (name.Page p) mode) n = n == page_number p
asks_page _ n = false

-- it is given up, or the retained record of it is freed
abbrev pub frees_page : Command → ℕ → Bool
frees_page (command.Release (name.Page p) keeps) n = n == page_number p
frees_page (command.Purge (name.Page p)) n = n == page_number p
frees_page _ n = false

abbrev pub takes_page : RestartSent → Answered → ℕ → Bool
takes_page (sent.Command c) (answered.Reply answer) n = asks_page c n && is_granted answer
takes_page _ _ n = false

abbrev pub gives_page : RestartSent → ℕ → Bool
gives_page (sent.Command c) n = frees_page c n
gives_page _ n = false

-- by page, who has had its lock and who has it: the member has those that it had and has not given up, and the one that it was granted
pub record Owns (before left : ℕ → Option ℕ) (m : ℕ) (s : RestartSent) (a : Answered) : Type 0 where
  pub takes : (n : ℕ) → takes_page s a n ≡ true → left n ≡ Some m
  pub keeps : (n : ℕ) → gives_page s n ≡ false → before n ≡ Some m → left n ≡ Some m
  pub only : (n : ℕ) → left n ≡ Some m → (takes_page s a n ≡ true) ⊎ ((gives_page s n ≡ false) × (before n ≡ Some m))

-- ---- any event, but for the end of the restart: whatever was wanted, it was lawful, went out and was settled, and then the policy made local
-- moves

pub record EventLeads (w : World) (v : Outside) (g : Holdings) (content : ℕ → ℕ → List ℕ) (forced : ℕ → ℕ) (h k : Held) (s : RestartSent) (a : Answered) : Type 0 where
  pub leads : Leads w v g content forced h k
  pub owns : Owns g.owner leads.left.owner h.marks.member s a

abbrev pub EventsGo : Type 0
EventsGo = (w : World) (u v : Outside) (g : Holdings) (content : ℕ → ℕ → List ℕ) (forced : ℕ → ℕ) (h k : Held) (s : RestartSent) (a : Answered)
    → Beside w u g content forced h → (happens : Happens (as_restarting u) h s a (as_restarting v) k) → happens.intent ≢ intent.Up → Supplied w u v g content h k s a happens → EventLeads w v g content forced h k s a

-- ---- its end, with no page lock left: the member is up, and has no copy of a page

pub record IsOver (w : World) (v : Outside) (g : Holdings) (content : ℕ → ℕ → List ℕ) (forced : ℕ → ℕ) (m : ℕ) : Type 0 where
  pub goes : GroupGoes w g (with_facility g v.facility) content forced m
  pub drive : Shows v.drive g.disk
  pub copies : (n : ℕ) → g.copies m n ≡ no_copy

abbrev pub EndGoes : Type 0
EndGoes = (w : World) (u v : Outside) (g : Holdings) (content : ℕ → ℕ → List ℕ) (forced : ℕ → ℕ) (h k : Held) (s : RestartSent) (a : Answered)
    → Beside w u g content forced h → (happens : Happens (as_restarting u) h s a (as_restarting v) k) → happens.intent ≡ intent.Up → ((n : ℕ) → g.owner n ≢ Some h.marks.member) → IsOver w v g content forced h.marks.member
