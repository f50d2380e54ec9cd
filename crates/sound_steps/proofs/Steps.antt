-- A call of a group restart over a sound disk.
use Rattle.std.proofs.Common.{◌≡◌, ℕ, List, ◌++◌, length, take, Some, Result, Ok, inl, inr, refl, sym, ap, subst, ◌∙◌, arith}
use Rattle.std.proofs.lemmas.List.{take_all}
use Rattle.ds_base.specs.declared.names.PageId.{PageId}
use Rattle.ds_disk.specs.Contents.{Contents, Becomes, log_of, with_log}
use Rattle.ds_disk.specs.Pages.{page_at}
use Rattle.ds_disk.specs.declared.disk.DiskError.{DiskError}
use Rattle.ds_model.specs.RecordBytes.{log_bytes}
use Rattle.disk_restart.proofs.Told.{answered, left_by}
use Rattle.log_record.specs.declared.log.Log.{Log}
use Rattle.restart_plan.specs.declared.plan.Plan.{Plan}
use Rattle.restart_plan.specs.declared.tails.Tail.{Tail}
use Rattle.group_restart.specs.declared.calls.State.{State}
use Rattle.group_restart.specs.declared.reply.Reply.{Reply}
use Rattle.group_restart.specs.declared.reply.Reply.TheVariants as reply
use Rattle.group_restart.specs.declared.stage.Stage.{Stage}
use Rattle.group_restart.specs.declared.stage.Stage.TheVariants as stage
use Rattle.group_restart.specs.Machine.{Restart}
use Rattle.group_restart.specs.Calls.{call_in}
use Rattle.group_restart.specs.Disk.{Drive, Calls, Cuts as CutsLog, Appends, ReadsPage, WritesPage, with_page as with_hand}
use Rattle.group_restart.specs.Course.{Next, TakesReply, take_done}
use Rattle.sound_plans.specs.Ends.{ToEnd}
use Rattle.sound_restarts.specs.Redo.{IsSoundNow, with_page}
use Rattle.sound_courses.specs.Standing.{with_appended, IsLeftSound, StopsSound}
use Rattle.sound_courses.specs.Undoing.{ClosingGoes, UndoReads, UndoAppends, UndoWrites}
use Rattle.sound_courses.specs.Ending.{EndingGoes}
use Rattle.sound_courses.specs.Bringing.{with_cut, CutGoes, RedoReadsOn, RedoWritesOn}
use Rattle.sound_steps.specs.Whole.{SoundIn, SoundLeads, GoesOnWith, CallLeavesSound, AnswerGoesOn}
use Rattle.sound_steps.proofs.Joined.{PartLaws, end_joins, undo_joins, bring_joins, renewal_reads, renewal_writes}

-- what is proved of each call
pub record StepLaws : Type 0 where
  pub parts : PartLaws
  pub cut : CutGoes
  pub redo_read : RedoReadsOn
  pub redo_write : RedoWritesOn
  pub closing : ClosingGoes
  pub undo_read : UndoReads
  pub undo_append : UndoAppends
  pub undo_write : UndoWrites
  pub ending : EndingGoes

-- ---- what each call leaves, whether it was answered or not

module _ (w v : Drive) (made : Result Reply DiskError) (c : Contents) (is : w.contents ≡ Some c) (here : IsLeftSound c) where
  abbrev Left : Type 0
  Left = Becomes (Some c) v.contents (λ _ d. IsLeftSound d)

  page_left : (id : PageId) (page : List ℕ) → ReadsPage id page w made v → Left
  page_left id page a = left_by c made IsLeftSound is a here (λ r d e. subst IsLeftSound (sym e.1) here) (λ d e. subst IsLeftSound (sym e) here)

  written_left : (id : PageId) (page : List ℕ) → WritesPage id page w made v → IsLeftSound (with_page c id page) → Left
  written_left id page a wrote = left_by c made IsLeftSound is a here (λ r d e. subst IsLeftSound (sym e.1) wrote) (λ d e. elim e [ inl same ↦ subst IsLeftSound (sym same) here | inr done ↦ subst IsLeftSound (sym done) wrote ])

  cut_left : (tail : Tail) → CutsLog tail.member tail.length w made v → IsLeftSound (with_cut tail c) → Left
  cut_left tail a cut = left_by c made IsLeftSound is a here (λ r d e. subst IsLeftSound (sym e.1) cut) (λ d e. elim e [ inl same ↦ subst IsLeftSound (sym same) here | inr done ↦ subst IsLeftSound (sym done) cut ])

  append_left : (h : Restart) (member : ℕ) → Appends member (log_bytes h.added) w made v → StopsSound h member c → Left
  append_left h member a stops =
      let all : take (length (log_bytes h.added)) (log_bytes h.added) ≡ log_bytes h.added = take_all (length (log_bytes h.added)) (log_bytes h.added) (omega arith) in
      let whole : IsLeftSound (with_appended h member c) = subst (λ (bs : List ℕ). IsLeftSound (with_log c member (log_of c.logs member ++ bs))) all (stops (length (log_bytes h.added))) in
      left_by c made IsLeftSound is a here (λ r d e. subst IsLeftSound (sym e.1) whole) (λ d e. subst IsLeftSound (sym e.2) (stops e.0))

-- no page that is written changes the logs
page_sound : (c : Contents) (logs : List Log) (id : PageId) (page : List ℕ) → IsSoundNow (with_page c id page) logs → IsLeftSound (with_page c id page)
page_sound c logs id page now = record { logs = logs; now = now }

sound_here : (c : Contents) (logs : List Log) → IsSoundNow c logs → IsLeftSound c
sound_here c logs now = record { logs = logs; now = now }

left_in : StepLaws → (ts : ToEnd) (w v : Drive) (h x : Restart) (made : Result Reply DiskError) (p : Plan) (c : Contents) (logs : List Log) → w.contents ≡ Some c → (st : Stage) → SoundIn ts st p h c logs → Calls h (call_in st h) w made v x → Becomes (Some c) v.contents (λ _ d. IsLeftSound d)
left_in l ts w v h x made p c logs is stage.ReadLog i calls = absurd i
left_in l ts w v h x made p c logs is (stage.CutTail tail) i calls =
    cut_left w v made c is (sound_here c logs i.now) tail calls.0 (l.cut ts p h tail c logs i).0
left_in l ts w v h x made p c logs is (stage.RedoRead page) i calls =
    page_left w v made c is (sound_here c logs i.0.brought.now) page x.page calls.0
left_in l ts w v h x made p c logs is (stage.RedoWrite page) i calls =
    written_left w v made c is (sound_here c logs i.0.0.brought.now) page h.page calls.0 (page_sound c logs page h.page (l.redo_write ts p h page c logs i).0)
left_in l ts w v h x made p c logs is (stage.CloseAppend member) i calls =
    append_left w v made c is (sound_here c logs i.rests.stands.sound.now) h member calls.0 (l.closing ts h member c logs i).0
left_in l ts w v h x made p c logs is (stage.UndoRead page) i calls =
    page_left w v made c is (sound_here c logs i.rests.stands.sound.now) page x.page calls.0
left_in l ts w v h x made p c logs is (stage.UndoAppend member page) i calls =
    append_left w v made c is (sound_here c logs i.rests.stands.sound.now) h member calls.0 (l.undo_append ts h member page c logs i).0
left_in l ts w v h x made p c logs is (stage.UndoWrite page) i calls =
    written_left w v made c is (sound_here c logs i.stands.sound.now) page h.page calls.0 (page_sound c logs page h.page (l.undo_write ts h page c logs i).0)
left_in l ts w v h x made p c logs is (stage.RenewRead page) i calls =
    page_left w v made c is (sound_here c logs i.rests.stands.sound.now) page x.page calls.0
left_in l ts w v h x made p c logs is (stage.RenewWrite page) i calls =
    written_left w v made c is (sound_here c logs i.rests.stands.sound.now) page h.page calls.0
    (page_sound c logs page h.page (renewal_writes l.parts ts h page p c logs i).0)
left_in l ts w v h x made p c logs is (stage.EndAppend member) i calls =
    append_left w v made c is (sound_here c logs i.rests.stands.sound.now) h member calls.0 (l.ending ts h member c logs i calls.2).0
left_in l ts w v h x made p c logs is stage.End i calls = absurd i

pub call_leaves_sound : StepLaws → CallLeavesSound
call_leaves_sound l ts w v h x made p c logs is i calls = left_in l ts w v h x made p c logs is h.stage i calls

-- ---- what was done is taken

taken : (st : Stage) (y x k : Restart) (r : Reply) (s : State) → x ≡ y → y.stage ≡ st → TakesReply x r s k → r ≡ reply.Done → take_done y st ≡ (k, s)
unfolding TakesReply
taken st y x k r s same is takes done =
    let a : TakesReply y r s k = subst (λ (z : Restart). TakesReply z r s k) same takes in
    let t : TakesReply y reply.Done s k = subst (λ (q : Reply). TakesReply y q s k) done a in
    subst (λ (z : Stage). take_done y z ≡ (k, s)) is t

module _ (ts : ToEnd) (w v : Drive) (h k x : Restart) (r : Reply) (s : State) (p : Plan) (c : Contents) (is : w.contents ≡ Some c) (takes : TakesReply x r s k) where
  abbrev Goes : Type 0
  Goes = Becomes (Some c) v.contents (λ _ d. GoesOnWith ts (k, s) p d)

  with_logs : (n : Next) (d e : Contents) (logs : List Log) → n ≡ (k, s) → e ≡ d → SoundLeads ts n p d logs → GoesOnWith ts (k, s) p e
  with_logs n d e logs same at leads = record { logs = logs; leads = subst (λ (z : Contents). SoundLeads ts (k, s) p z logs) (sym at) (subst (λ (m : Next). SoundLeads ts m p d logs) same leads) }

  page_goes : (st : Stage) (id : PageId) (logs : List Log) → h.stage ≡ st → ReadsPage id x.page w (Ok r) v → x ≡ with_hand h x.page → SoundLeads ts (take_done (with_hand h (page_at c.pages id)) st) p c logs → Goes
  page_goes st id logs at a same leads = answered c r (λ d. GoesOnWith ts (k, s) p d) is a (λ d e.
      let hand : with_hand h x.page ≡ with_hand h (page_at c.pages id) = ap (with_hand h) e.2 in
      with_logs (take_done (with_hand h (page_at c.pages id)) st) c d logs (taken st (with_hand h (page_at c.pages id)) x k r s (same ∙ hand) at takes e.0) e.1 leads)

  written_goes : (st : Stage) (id : PageId) (logs : List Log) → h.stage ≡ st → WritesPage id h.page w (Ok r) v → x ≡ h → SoundLeads ts (take_done h st) p (with_page c id h.page) logs → Goes
  written_goes st id logs at a same leads = answered c r (λ d. GoesOnWith ts (k, s) p d) is a (λ d e.
      with_logs (take_done h st) (with_page c id h.page) d logs (taken st h x k r s same at takes e.0) e.1 leads)

  cut_goes : (st : Stage) (tail : Tail) (logs : List Log) → h.stage ≡ st → CutsLog tail.member tail.length w (Ok r) v → x ≡ h → SoundLeads ts (take_done h st) p (with_cut tail c) logs → Goes
  cut_goes st tail logs at a same leads = answered c r (λ d. GoesOnWith ts (k, s) p d) is a (λ d e.
      with_logs (take_done h st) (with_cut tail c) d logs (taken st h x k r s same at takes e.0) e.1 leads)

  append_goes : (st : Stage) (member : ℕ) (logs : List Log) → h.stage ≡ st → Appends member (log_bytes h.added) w (Ok r) v → x ≡ h → SoundLeads ts (take_done h st) p (with_appended h member c) logs → Goes
  append_goes st member logs at a same leads = answered c r (λ d. GoesOnWith ts (k, s) p d) is a (λ d e.
      with_logs (take_done h st) (with_appended h member c) d logs (taken st h x k r s same at takes e.0) e.1 leads)

  goes : StepLaws → (logs : List Log) (st : Stage) → h.stage ≡ st → SoundIn ts st p h c logs → Calls h (call_in st h) w (Ok r) v x → Goes
  goes l logs stage.ReadLog at i calls = absurd i
  goes l logs (stage.CutTail tail) at i calls =
      let g = (l.cut ts p h tail c logs i).1 in
      cut_goes (stage.CutTail tail) tail g.0 at calls.0 calls.1 (bring_joins l.parts ts (take_done h (stage.CutTail tail)) p (with_cut tail c) g.0 g.1)
  goes l logs (stage.RedoRead page) at i calls =
      page_goes (stage.RedoRead page) page logs at calls.0 calls.1 (bring_joins l.parts ts (take_done (with_hand h (page_at c.pages page)) (stage.RedoRead page)) p c logs (l.redo_read ts p h page c logs i))
  goes l logs (stage.RedoWrite page) at i calls =
      written_goes (stage.RedoWrite page) page logs at calls.0 calls.1 (bring_joins l.parts ts (take_done h (stage.RedoWrite page)) p (with_page c page h.page) logs (l.redo_write ts p h page c logs i).1)
  goes l logs (stage.CloseAppend member) at i calls =
      let g = (l.closing ts h member c logs i).1 in
      append_goes (stage.CloseAppend member) member g.0 at calls.0 calls.3 (undo_joins l.parts ts (take_done h (stage.CloseAppend member)) p (with_appended h member c) g.0 g.1)
  goes l logs (stage.UndoRead page) at i calls =
      page_goes (stage.UndoRead page) page logs at calls.0 calls.1 (undo_joins l.parts ts (take_done (with_hand h (page_at c.pages page)) (stage.UndoRead page)) p c logs (l.undo_read ts h page c logs i))
  goes l logs (stage.UndoAppend member page) at i calls =
      let g = (l.undo_append ts h member page c logs i).1 in
      append_goes (stage.UndoAppend member page) member g.0 at calls.0 calls.3 (undo_joins l.parts ts (take_done h (stage.UndoAppend member page)) p (with_appended h member c) g.0 g.1)
  goes l logs (stage.UndoWrite page) at i calls =
      written_goes (stage.UndoWrite page) page logs at calls.0 calls.1 (undo_joins l.parts ts (take_done h (stage.UndoWrite page)) p (with_page c page h.page) logs (l.undo_write ts h page c logs i).1)
  goes l logs (stage.RenewRead page) at i calls =
      page_goes (stage.RenewRead page) page logs at calls.0 calls.1 (renewal_reads l.parts ts h page p c logs i)
  goes l logs (stage.RenewWrite page) at i calls =
      written_goes (stage.RenewWrite page) page logs at calls.0 calls.1 (renewal_writes l.parts ts h page p c logs i).1
  goes l logs (stage.EndAppend member) at i calls =
      let g = (l.ending ts h member c logs i calls.2).1 in
      append_goes (stage.EndAppend member) member g.0 at calls.0 calls.3 (end_joins ts (take_done h (stage.EndAppend member)) p (with_appended h member c) g.0 g.1)
  goes l logs stage.End at i calls = absurd i

pub answer_goes_on : StepLaws → AnswerGoesOn
answer_goes_on l ts w v h x k r s p c logs is i calls takes = goes ts w v h k x r s p c is takes l logs h.stage refl i calls
