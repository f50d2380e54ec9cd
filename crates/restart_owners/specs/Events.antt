-- Any event of a restart that has read its log, beside both worlds.
use Rattle.std.specs.Prelude.{◌≡◌, ◌≢◌, ◌⊎◌, ℕ, true, List, Some}
use Rattle.ds_base.specs.declared.names.PageId.{PageId}
use Rattle.facility.specs.declared.command.Command.{Command}
use Rattle.facility.specs.declared.command.Reply.{Reply}
use Rattle.facility.specs.declared.command.Reply.TheVariants as reply
use Rattle.member_intents.specs.declared.outcome.Answered.{Answered}
use Rattle.member_intents.specs.declared.outcome.Answered.TheVariants as answered
use Rattle.member_resources.specs.Events.{World as Outside}
use Rattle.restart_marks.specs.declared.intent.RestartIntent.{RestartIntent}
use Rattle.restart_marks.specs.declared.intent.RestartIntent.TheVariants as intent
use Rattle.restart_marks.specs.declared.intent.RestartSent.{RestartSent}
use Rattle.restart_marks.specs.declared.intent.RestartSent.TheVariants as sent
use Rattle.restart_resources.specs.Events.{Happens, RunsCommand}
use Rattle.restart_resources.specs.Held.{Held}
use Rattle.restart_resources.specs.Settled.{read_in, settle_undo_after, tested_in}
use Rattle.lock_protocol.specs.Machine.{World as LockWorld}
use Rattle.lock_protocol.specs.Sound.{Sound}
use Rattle.lock_world.specs.Tied.{Claims, Tied}
use Rattle.lock_world.specs.Views.{entry_in}
use Rattle.lock_restarts.specs.Changes.{gone_by}
use Rattle.lock_restarts.specs.Events.{FreesSent}
use Rattle.lock_restarts.specs.Stands.{Goes, IsRestarting, Knows, Leads, OwnClaims}
use Rattle.page_protocol.specs.Moves.{World, IsWritten}
use Rattle.page_world.specs.Holdings.{Holdings}
use Rattle.page_world.specs.Numbers.{page_number}
use Rattle.page_restarts.specs.Beside.{Beside, as_restarting}
use Rattle.page_restarts.specs.Events.{EventLeads, IsQuiet, IsRaised, MayGiveUp, Supplied}
use Rattle.page_restarts.specs.Undoes.{IsUndone}
use Rattle.restart_owners.specs.Owners.{OwnersStand, OwnsRestarting}

-- a member whose restart has read its log stands beside its good world of pages and its sound world of locks
pub record BothRestart (w : World) (l : LockWorld) (u : Outside) (g : Holdings) (content : ℕ → ℕ → List ℕ) (forced : ℕ → ℕ) (held : Claims) (own : OwnClaims) (h : Held) : Type 0 where
  pub pages : Beside w u g content forced h
  pub sound : Sound (entry_in u.facility.locks) l
  pub tied : Tied l u.facility.locks u.facility.lists held
  pub restarts : IsRestarting u.facility own h.marks
  pub knows : Knows held own h.marks
  pub owners : OwnersStand l u.facility g.owner
  pub owns : OwnsRestarting u.facility g.owner h.marks

-- ---- what the worlds don't say of an event

-- a change is taken back on a page with all of the member's own changes, and its record is put
pub record IsTakenBack (w : World) (g : Holdings) (h k : Held) (p : PageId) (number : ℕ) : Type 0 where
  pub newest : (h.marks.hand.changed ≡ true) ⊎ IsWritten w.group (w.pages (page_number p)) h.marks.member
  pub undone : IsUndone g h k p number

-- the own log makes of the page in hand what it should; a page that is given up has all of the member's changes in the group's copy
abbrev pub IsTold : World → Holdings → (ℕ → ℕ → List ℕ) → Held → Held → RestartIntent → Reply → Type 0
IsTold w g content h e intent.Read answer = IsRaised w g content h (read_in e answer)
IsTold w g content h e intent.Test answer = IsRaised w g content h (tested_in e answer)
IsTold w g content h e intent.PurgePage answer = (p : PageId) → h.marks.hand.page ≡ Some p → MayGiveUp w g h.marks.member p
IsTold w g content h e (intent.Undo id) answer = (number : ℕ) (p : PageId) → answer ≡ reply.Drawn number → h.marks.hand.page ≡ Some p → IsTakenBack w g h (settle_undo_after e id answer) p number
IsTold w g content h e intent.ReleasePage answer = (p : PageId) → h.marks.claim ≡ Some p → MayGiveUp w g h.marks.member p
IsTold w g content h e _ answer = Unit {0}

pub record LogTells (w : World) (u v : Outside) (g : Holdings) (content : ℕ → ℕ → List ℕ) (h k : Held) (s : RestartSent) (a : Answered) (happens : Happens (as_restarting u) h s a (as_restarting v) k) : Type 0 where
  pub told : (c : Command) → s ≡ sent.Command c → (r : RunsCommand u.facility h happens.intent c a happens.said v.facility happens.after) → IsTold w g content h r.after happens.intent r.answer
  pub quiet : IsQuiet g h happens.after
  -- the disk does what it is asked
  pub works : a ≢ answered.Failed

-- ---- all that an event takes from elsewhere, but for that: a page's lock is granted where the member has it, or nobody, and a change is taken
-- back on a page that the member has
abbrev pub BothSupply : Type 0
BothSupply = (w : World) (l : LockWorld) (u v : Outside) (g : Holdings) (content : ℕ → ℕ → List ℕ) (forced : ℕ → ℕ) (held : Claims) (own : OwnClaims) (h k : Held) (s : RestartSent) (a : Answered)
    → BothRestart w l u g content forced held own h → (happens : Happens (as_restarting u) h s a (as_restarting v) k) → LogTells w u v g content h k s a happens → Supplied w u v g content h k s a happens

-- ---- so any event, but for the end of the restart, is moves of both worlds, behind which owners stand as before

pub record BothGo (w : World) (l : LockWorld) (u v : Outside) (g : Holdings) (content : ℕ → ℕ → List ℕ) (forced : ℕ → ℕ) (left : Claims) (h k : Held) (s : RestartSent) (a : Answered) : Type 0 where
  pub pages : EventLeads w v g content forced h k s a
  pub locks : Goes l u.facility v.facility left h.marks.member (gone_by s)
  pub sound : Sound (entry_in v.facility.locks) locks.moved.world
  pub owners : OwnersStand locks.moved.world v.facility pages.leads.left.owner
  pub owns : OwnsRestarting v.facility pages.leads.left.owner k.marks

abbrev pub EventsGo : Type 0
EventsGo = (w : World) (l : LockWorld) (u v : Outside) (g : Holdings) (content : ℕ → ℕ → List ℕ) (forced : ℕ → ℕ) (held left : Claims) (own : OwnClaims) (h k : Held) (s : RestartSent) (a : Answered)
    → BothRestart w l u g content forced held own h → (happens : Happens (as_restarting u) h s a (as_restarting v) k) → happens.intent ≢ intent.Up → LogTells w u v g content h k s a happens
    → FreesSent own s → Leads held left own h.marks k.marks → BothGo w l u v g content forced left h k s a
