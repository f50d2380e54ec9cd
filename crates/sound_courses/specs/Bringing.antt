-- The course of a group restart over a sound disk before its undo, call by call: it cuts tails of logs, and brings pages forward.
use Rattle.std.specs.Prelude.{◌≡◌, ◌⊎◌, ℕ, ◌+◌, ◌<◌, ◌^◌, true, List, ◌∷◌, length, take}
use Rattle.std.specs.List.{AllByRecursion}
use Rattle.ds_base.specs.declared.names.PageId.{PageId}
use Rattle.ds_disk.specs.Contents.{Contents, log_of, with_log}
use Rattle.ds_disk.specs.Pages.{page_at}
use Rattle.log_record.specs.declared.log.Log.{Log}
use Rattle.log_trans.specs.Numbers.{greatest}
use Rattle.log_merge.specs.Merging.{all_records}
use Rattle.restart_plan.specs.declared.plan.Plan.{Plan}
use Rattle.restart_plan.specs.declared.tails.Tail.{Tail}
use Rattle.restart_plan.specs.Ends.{ends_of}
use Rattle.restart_plan.specs.Plans.{plan_of}
use Rattle.restart_plan.specs.Renewal.{must_renew}
use Rattle.restart_plan.specs.Tails.{tails_of}
use Rattle.group_restart.specs.declared.calls.State.TheVariants as state
use Rattle.group_restart.specs.declared.stage.Stage.{Stage}
use Rattle.group_restart.specs.declared.stage.Stage.TheVariants as stage
use Rattle.group_restart.specs.Machine.{Restart}
use Rattle.group_restart.specs.Disk.{with_page as with_hand}
use Rattle.group_restart.specs.Course.{Next, begin_undo, next_tail, take_done, take_logs}
use Rattle.sound_appends.specs.Laws.{HaveNoTails}
use Rattle.sound_disk.specs.Sound.{IsSoundWith}
use Rattle.sound_plans.specs.Ends.{ToEnd, EndAll}
use Rattle.sound_plans.specs.Queues.{has_log, ClosingsFit, QueueFits}
use Rattle.sound_restarts.specs.Redo.{IsSoundNow, with_page, PlanSuits, HasRestOf, RedoIn}
use Rattle.sound_courses.specs.Standing.{IsLeftSound}
use Rattle.sound_courses.specs.Undoing.{BeginsUndo}

-- What the plan closes and undoes fits the logs, there are numbers for it, and it knows where they end; those that it ends are there; and each of these
-- transactions has an Ended, or the plan takes it.
pub record PlanFits (ts : ToEnd) (p : Plan) (logs : List Log) : Type 0 where
  pub closings : ClosingsFit logs p.closings
  pub queue : QueueFits logs p.undo
  pub numbers : greatest (all_records logs) + length p.undo < 2 ^ 80
  pub ends : p.ends ≡ ends_of logs
  pub endings : AllByRecursion (λ (m : ℕ). has_log logs m ≡ true) p.endings
  pub takes : EndAll ts p.closings p.undo logs

-- ---- before a call

-- a sound disk whose logs have these tails still, with a plan that suits it and fits its logs
pub record Cuts (ts : ToEnd) (tails : List Tail) (p : Plan) (h : Restart) (c : Contents) (logs : List Log) : Type 0 where
  pub now : IsSoundNow c logs
  pub tails_are : tails ≡ tails_of logs
  pub suits : PlanSuits p c logs
  pub fits : PlanFits ts p logs
  pub rest : HasRestOf p h.plan
  pub merged_is : h.plan.merged ≡ p.merged
  pub pages_are : h.plan.pages ≡ p.pages
  pub asks : h.renews ≡ must_renew logs

-- no log has a tail, and the plan fits them
pub record Cut (ts : ToEnd) (p : Plan) (logs : List Log) : Type 0 where
  pub tails : HaveNoTails logs
  pub fits : PlanFits ts p logs

-- before the call of this stage
abbrev pub BringIn : ToEnd → Stage → Plan → Restart → Contents → List Log → Type 0
BringIn ts stage.ReadLog p h c logs = ⊥
BringIn ts (stage.CutTail tail) p h c logs = Cuts ts (tail ∷ h.plan.tails) p h c logs
BringIn ts (stage.RedoRead page) p h c logs = RedoIn (stage.RedoRead page) p h c logs × Cut ts p logs
BringIn ts (stage.RedoWrite page) p h c logs = RedoIn (stage.RedoWrite page) p h c logs × Cut ts p logs
BringIn ts (stage.CloseAppend member) p h c logs = ⊥
BringIn ts (stage.UndoRead page) p h c logs = ⊥
BringIn ts (stage.UndoAppend member page) p h c logs = ⊥
BringIn ts (stage.UndoWrite page) p h c logs = ⊥
BringIn ts (stage.RenewRead page) p h c logs = ⊥
BringIn ts (stage.RenewWrite page) p h c logs = ⊥
BringIn ts (stage.EndAppend member) p h c logs = ⊥
BringIn ts stage.End p h c logs = ⊥

-- all pages are brought forward, and what is open is undone next
pub record HasBrought (ts : ToEnd) (n : Next) (c : Contents) (logs : List Log) : Type 0 where
  pub behind : Restart
  pub goes : n ≡ begin_undo behind
  pub begins : BeginsUndo ts behind c logs

-- the next tail is cut or the next page brought forward, or all are
abbrev pub BringLeads : ToEnd → Next → Plan → Contents → List Log → Type 0
BringLeads ts n p c logs = ((n.1 ≡ state.Going) × BringIn ts n.0.stage p n.0 c logs) ⊎ HasBrought ts n c logs

-- ---- its calls

abbrev pub CutsBegin : Type 0
CutsBegin = (ts : ToEnd) (p : Plan) (h : Restart) (c : Contents) (logs : List Log) → Cuts ts h.plan.tails p h c logs → BringLeads ts (next_tail h) p c logs

abbrev pub with_cut : Tail → Contents → Contents
with_cut tail c = with_log c tail.member (take tail.length (log_of c.logs tail.member))

-- a tail is cut: the disk is sound behind it
abbrev pub CutGoes : Type 0
CutGoes = (ts : ToEnd) (p : Plan) (h : Restart) (tail : Tail) (c : Contents) (logs : List Log) → BringIn ts (stage.CutTail tail) p h c logs
    → IsLeftSound (with_cut tail c) × ((after : List Log) × BringLeads ts (take_done h (stage.CutTail tail)) p (with_cut tail c) after)

-- a page is read
abbrev pub RedoReadsOn : Type 0
RedoReadsOn = (ts : ToEnd) (p : Plan) (h : Restart) (page : PageId) (c : Contents) (logs : List Log) → BringIn ts (stage.RedoRead page) p h c logs
    → BringLeads ts (take_done (with_hand h (page_at c.pages page)) (stage.RedoRead page)) p c logs

-- a page is written: the disk is sound behind it
abbrev pub RedoWritesOn : Type 0
RedoWritesOn = (ts : ToEnd) (p : Plan) (h : Restart) (page : PageId) (c : Contents) (logs : List Log) → BringIn ts (stage.RedoWrite page) p h c logs
    → IsSoundNow (with_page c page h.page) logs × BringLeads ts (take_done h (stage.RedoWrite page)) p (with_page c page h.page) logs

-- ---- the begin

-- the plan of all records of the logs fits them
abbrev pub PlanOfAllFits : Type 0
PlanOfAllFits = (ts : ToEnd) (c : Contents) (logs : List Log) → IsSoundWith c logs → EndAll ts (plan_of logs).closings (plan_of logs).undo logs → PlanFits ts (plan_of logs) logs

-- so the restart begins where all logs were read whole, and a record of version 1 was noted
abbrev pub ReadsBegin : Type 0
ReadsBegin = (ts : ToEnd) (c : Contents) (h : Restart) → IsSoundNow c h.logs → h.renews ≡ must_renew h.logs → EndAll ts (plan_of h.logs).closings (plan_of h.logs).undo h.logs → BringLeads ts (take_logs h) (plan_of h.logs) c h.logs
