-- A step of a restart.
use Rattle.std.proofs.Common.{◌≡◌, ◌≢◌, ℕ, ◌+◌, ◌-◌, List, ◌∷◌, ◌++◌, length, Option, Some, None, Result, Ok, Err, refl, sym, ap, subst, ◌∙◌}
use Rattle.std.specs.Prelude.{IfOk, take, slice_set}
use Rattle.std.specs.List.{AllByRecursion}
use Rattle.std.proofs.lemmas.List.{length-set}
use Rattle.ds_base.specs.declared.fault.NoMemory.{NoMemory}
use Rattle.ds_base.specs.declared.names.PageId.{PageId}
use Rattle.ds_model.specs.RecordBytes.{IsAllowed, log_bytes}
use Rattle.ds_disk.specs.Contents.{Contents, Becomes, log_of}
use Rattle.ds_disk.specs.declared.disk.DiskError.TheVariants as failures
use Rattle.log_record.specs.declared.log.Log.{Log}
use Rattle.log_reader.specs.declared.calls.LogReply.TheVariants as told
use Rattle.restart_plan.specs.declared.tails.Tail.{Tail}
use Rattle.restart_plan.specs.Ends.{end_of}
use Rattle.group_restart.specs.declared.calls.State.{State}
use Rattle.group_restart.specs.declared.calls.State.TheVariants as state
use Rattle.group_restart.specs.declared.reply.Reply.{Reply}
use Rattle.group_restart.specs.declared.reply.Reply.TheVariants as reply
use Rattle.group_restart.specs.declared.stage.Stage.{Stage}
use Rattle.group_restart.specs.declared.stage.Stage.TheVariants as stage
use Rattle.group_restart.specs.Calls.{call_in, call_of}
use Rattle.group_restart.specs.Disk.{Drive, Calls, TellsLength, Cuts as CutsLog, Appends, ReadsPage, WritesPage, with_page}
use Rattle.group_restart.specs.Machine.{Restart}
use Rattle.group_restart.specs.Course.{IsBegun, TakesTold, TakesReply, appended, take_done, done}
use Rattle.group_restart.specs.Steps.{WantsMemory, Takes, Steps}
use Rattle.disk_restart.specs.Ends.{EndsBehind}
use Rattle.disk_restart.specs.Keeping.{KeepsRecords}
use Rattle.disk_restart.proofs.Told.{told_on, told_as, answered}
use Rattle.disk_restart.proofs.Whole.{ReadsSound, IsWhole, append_kept, append_whole}
use Rattle.disk_restart.proofs.Cutting.{Logs, Keeps, set_kept, set_whole, cut}
use Rattle.disk_restart.proofs.Reading.{ReaderLaws, Reads, first_reads}
use Rattle.disk_restart.proofs.Stages.{Cuts, Stands, Adds, InStage, AfterCall, IsGood, Runs, Good}
use Rattle.disk_restart.proofs.Going.{done_good}
use Rattle.disk_restart.proofs.Calls.{Made, itself, kept}
use Rattle.disk_restart.proofs.Logs.{reading_goes}

-- ---- what was done is taken

taken : (st : Stage) (o d : Logs) (h k : Restart) (r : Reply) (s : State) → h.stage ≡ st → AfterCall st o h d → TakesReply h r s k → r ≡ reply.Done → IsGood s o k d
unfolding TakesReply
taken st o d h k r s is after takes done =
    let t : TakesReply h reply.Done s k = subst (λ (q : Reply). TakesReply h q s k) done takes in
    let u : take_done h st ≡ (k, s) = subst (λ (z : Stage). take_done h z ≡ (k, s)) is t in
    subst (Good o d) u (done_good st o d h after)

-- behind the end the logs stay as they are
stays_done : (o d : Logs) (h k : Restart) (r : Reply) (n : ℕ) (s : State) → h.stage ≡ stage.End → TakesReply h r s k → r ≡ reply.Log (told.Length n) → Stands o d h.plan.ends → IsGood s o k d
unfolding TakesReply TakesTold
stays_done o d h k r n s is takes long stands =
    let t : TakesReply h (reply.Log (told.Length n)) s k = subst (λ (q : Reply). TakesReply h q s k) long takes in
    let u : done h ≡ (k, s) = subst (λ (z : Stage). TakesTold z h (told.Length n) s k) is t in
    subst (Good o d) u stands

module _ (sound : ReadsSound) (laws : ReaderLaws) (o : Logs) (h k x : Restart) (w v : Drive) (r : Reply) (s : State) (c : Contents) (is : w.contents ≡ Some c) (takes : TakesReply x r s k) where
  abbrev Goes : Type 0
  Goes = Becomes (Some c) v.contents (λ _ d. IsGood s o k d.logs)

  takes_as : (y : Restart) → x ≡ y → TakesReply y r s k
  takes_as y e = subst (λ (z : Restart). TakesReply z r s k) e takes

  page_goes : (st : Stage) (id : PageId) → h.stage ≡ st → AfterCall st o (with_page h x.page) c.logs → ReadsPage id x.page w (Ok r) v → x ≡ with_page h x.page → Goes
  page_goes st id at after a same = answered c r (λ d. IsGood s o k d.logs) is a (λ d e.
      let logs = sym (ap (λ (z : Contents). z.logs) e.1) in
      taken st o d.logs (with_page h x.page) k r s at (subst (AfterCall st o (with_page h x.page)) logs after) (takes_as (with_page h x.page) same) e.0)

  written_goes : (st : Stage) (id : PageId) → h.stage ≡ st → AfterCall st o h c.logs → WritesPage id h.page w (Ok r) v → x ≡ h → Goes
  written_goes st id at after a same = answered c r (λ d. IsGood s o k d.logs) is a (λ d e.
      let logs = sym (ap (λ (z : Contents). z.logs) e.1) in
      taken st o d.logs h k r s at (subst (AfterCall st o h) logs after) (takes_as h same) e.0)

  cut_goes : (st : Stage) (member n : ℕ) → h.stage ≡ st → AfterCall st o h (slice_set c.logs (member - 1) (take n (log_of c.logs member))) → CutsLog member n w (Ok r) v → x ≡ h → Goes
  cut_goes st member n at after a same = answered c r (λ d. IsGood s o k d.logs) is a (λ d e.
      let logs = sym (ap (λ (z : Contents). z.logs) e.1) in
      taken st o d.logs h k r s at (subst (AfterCall st o h) logs after) (takes_as h same) e.0)

  append_goes : (st : Stage) (member : ℕ) → h.stage ≡ st → AfterCall st o h (slice_set c.logs (member - 1) (log_of c.logs member ++ log_bytes h.added)) → Appends member (log_bytes h.added) w (Ok r) v → x ≡ h → Goes
  append_goes st member at after a same = answered c r (λ d. IsGood s o k d.logs) is a (λ d e.
      let logs = sym (ap (λ (z : Contents). z.logs) e.1) in
      taken st o d.logs h k r s at (subst (AfterCall st o h) logs after) (takes_as h same) e.0)

  end_goes : h.stage ≡ stage.End → Stands o c.logs h.plan.ends → TellsLength h.reader.member w (Ok r) v → x ≡ h → Goes
  end_goes at stands a same = answered c r (λ d. IsGood s o k d.logs) is a (λ d e.
      let logs = sym (ap (λ (z : Contents). z.logs) e.0) in
      stays_done o d.logs h k r (length (log_of c.logs h.reader.member)) s at (takes_as h same) e.1 (subst (λ (ls : Logs). Stands o ls h.plan.ends) logs stands))

  after_append : (member : ℕ) → Adds o c.logs h.plan.ends member h.added → AllByRecursion IsAllowed h.added → Stands o (slice_set c.logs (member - 1) (log_of c.logs member ++ log_bytes h.added)) (appended h member).plan.ends
  after_append member i allowed =
      let log : List ℕ = log_of c.logs member in
      let added : List ℕ = log_bytes h.added in
      let size : ℕ = end_of h.plan.ends member in
      let whole : IsWhole size log = i.stands.whole (member - 1) in
      let same : length (slice_set h.plan.ends (member - 1) (size + length added)) ≡ length (slice_set c.logs (member - 1) (log ++ added)) =
      length-set h.plan.ends (member - 1) (size + length added) ∙ i.stands.count ∙ sym (length-set c.logs (member - 1) (log ++ added)) in
      record {
        keeps = set_kept o c.logs (member - 1) (log ++ added) i.stands.keeps (append_kept sound size log h.added whole allowed i.added);
        count = same;
        whole = set_whole h.plan.ends c.logs (member - 1) (size + length added) (log ++ added) i.stands.count i.stands.whole (append_whole size log h.added whole allowed);
      }

  after_cut : (tail : Tail) → Cuts o c.logs h.plan.ends (tail ∷ h.plan.tails) → Cuts o (cut c.logs tail) h.plan.ends h.plan.tails
  after_cut tail i =
      let front : List ℕ = take tail.length (log_of c.logs tail.member) in
      record { keeps = set_kept o c.logs (tail.member - 1) front i.keeps i.due.0; count = i.count ∙ sym (length-set c.logs (tail.member - 1) front); due = i.due.1 }

  pub goes : (st : Stage) → h.stage ≡ st → InStage st o h c.logs → Calls h (call_in st h) w (Ok r) v x → Goes
  goes stage.ReadLog at i calls = reading_goes sound laws o h k x w v r s c is at i calls takes
  goes (stage.CutTail tail) at i calls = cut_goes (stage.CutTail tail) tail.member tail.length at (after_cut tail i) calls.0 calls.1
  goes (stage.RedoRead page) at i calls = page_goes (stage.RedoRead page) page at i calls.0 calls.1
  goes (stage.RedoWrite page) at i calls = written_goes (stage.RedoWrite page) page at i calls.0 calls.1
  goes (stage.CloseAppend member) at i calls = append_goes (stage.CloseAppend member) member at (after_append member i calls.2) calls.0 calls.3
  goes (stage.UndoRead page) at i calls = page_goes (stage.UndoRead page) page at i calls.0 calls.1
  goes (stage.UndoAppend member page) at i calls = append_goes (stage.UndoAppend member page) member at (after_append member i calls.2) calls.0 calls.3
  goes (stage.UndoWrite page) at i calls = written_goes (stage.UndoWrite page) page at i calls.0 calls.1
  goes (stage.RenewRead page) at i calls = page_goes (stage.RenewRead page) page at i calls.0 calls.1
  goes (stage.RenewWrite page) at i calls = written_goes (stage.RenewWrite page) page at i calls.0 calls.1
  goes (stage.EndAppend member) at i calls = append_goes (stage.EndAppend member) member at (after_append member i calls.2) calls.0 calls.3
  goes stage.End at i calls = end_goes at i calls.0 calls.1

-- ---- a step

made_goes : ReadsSound → ReaderLaws → (o : Logs) (h k x : Restart) (w v : Drive) (made : Made) (result : Result State NoMemory) (c : Contents) → w.contents ≡ Some c → Runs o h c.logs → Calls h (call_of h) w made v x → Takes x made result k
    → (s : State) → result ≡ Ok s → s ≢ state.Failed → Becomes (Some c) v.contents (λ _ d. IsGood s o k d.logs)
made_goes sound laws o h k x w v (Ok r) result c is runs calls takes s told unfailed =
    let t : TakesReply x r s k = subst (λ (z : Result State NoMemory). IfOk z (λ (q : State). TakesReply x r q k)) told takes in
    goes sound laws o h k x w v r s c is t h.stage refl runs calls
made_goes sound laws o h k x w v (Err failures.Failed) result c is runs calls takes s told unfailed =
    let same : Ok s ≡ Ok state.Failed = sym told ∙ takes.0 in
    absurd (unfailed cc)
made_goes sound laws o h k x w v (Err failures.NoMemory) result c is runs calls takes s told unfailed =
    absurd (subst WantsMemory told takes.0)

abbrev pub RunsOn : Contents → Restart → Contents → Type 0
RunsOn o h c = Runs o.logs h c.logs

abbrev pub Alive : Option Contents → Restart → Option Contents → Type 0
Alive before h now = Becomes before now (λ o c. RunsOn o h c)

pub begun : ReaderLaws → (before : Option Contents) (h : Restart) → ((c : Contents) → before ≡ Some c → length c.logs ≡ 32) → IsBegun h → Alive before h before
begun laws None h law is = tt
begun laws (Some c) h law is =
    let reads : Reads c.logs h.reader h.logs = subst (λ (logs : List Log). Reads c.logs h.reader logs) (sym is.no_logs) (first_reads laws c.logs h.reader is.reader_is) in
    subst (λ (st : Stage). InStage st c.logs h c.logs) (sym is.stage_is) (record { same = refl; all = law c refl; reads = reads })

pub step_goes : ReadsSound → ReaderLaws → (before : Option Contents) (w v : Drive) (h k : Restart) (result : Result State NoMemory) → Alive before h w.contents → Steps w h result v k → result ≡ Ok state.Going → Alive before k v.contents
step_goes sound laws before w v h k result runs step going =
    told_on (λ o c. RunsOn o h c) (λ o c. RunsOn o k c) before w.contents v.contents runs (λ o c is now. made_goes sound laws o.logs h k step.after w v step.made result c is now step.calls step.takes state.Going going (λ e. cc))

-- where it is done, each log ends where it says
ends_there : (o : Logs) (k : Restart) (d : Contents) → Stands o d.logs k.plan.ends → EndsBehind k d
ends_there o k d stands = λ member. let whole = stands.whole (member - 1) in
    record { long = sym whole.size_is; whole = record { records = whole.records; spelled = whole.spelled; allowed = whole.allowed } }

pub step_ends : ReadsSound → ReaderLaws → (before : Option Contents) (w v : Drive) (h k : Restart) (result : Result State NoMemory) (counter : ℕ) → Alive before h w.contents → Steps w h result v k → result ≡ Ok (state.Done counter)
    → Becomes before v.contents (λ _ d. EndsBehind k d)
step_ends sound laws before w v h k result counter runs step done =
    told_on (λ o c. RunsOn o h c) (λ _ d. EndsBehind k d) before w.contents v.contents runs
    (λ o c is now. told_as c v.contents (λ d. Stands o.logs d.logs k.plan.ends) (EndsBehind k) (ends_there o.logs k)
    (made_goes sound laws o.logs h k step.after w v step.made result c is now step.calls step.takes (state.Done counter) done (λ e. cc)))

keeps_of : (o : Contents) (d : Contents) → Keeps o.logs d.logs → KeepsRecords o d
keeps_of o d keeps = λ member. keeps (member - 1)

pub step_keeps : ReadsSound → (before : Option Contents) (w v : Drive) (h k : Restart) (result : Result State NoMemory) → Alive before h w.contents → Steps w h result v k → Becomes before v.contents KeepsRecords
step_keeps sound before w v h k result runs step =
    told_on (λ o c. RunsOn o h c) KeepsRecords before w.contents v.contents runs
    (λ o c is now. told_as c v.contents (λ d. Keeps o.logs d.logs) (KeepsRecords o) (keeps_of o) (kept sound o.logs h step.after w v step.made c is h.stage now step.calls))

stage_keeps : (st : Stage) (o : Logs) (h : Restart) (c : Logs) → InStage st o h c → Keeps o c
stage_keeps stage.ReadLog o h c i = itself o c i.same
stage_keeps (stage.CutTail tail) o h c i = i.keeps
stage_keeps (stage.RedoRead page) o h c i = i.keeps
stage_keeps (stage.RedoWrite page) o h c i = i.keeps
stage_keeps (stage.CloseAppend member) o h c i = i.stands.keeps
stage_keeps (stage.UndoRead page) o h c i = i.keeps
stage_keeps (stage.UndoAppend member page) o h c i = i.stands.keeps
stage_keeps (stage.UndoWrite page) o h c i = i.keeps
stage_keeps (stage.RenewRead page) o h c i = i.keeps
stage_keeps (stage.RenewWrite page) o h c i = i.keeps
stage_keeps (stage.EndAppend member) o h c i = i.stands.keeps
stage_keeps stage.End o h c i = i.keeps

pub alive_keeps : (before now : Option Contents) (h : Restart) → Alive before h now → Becomes before now KeepsRecords
alive_keeps None now h runs = tt
alive_keeps (Some o) None h runs = absurd runs
alive_keeps (Some o) (Some c) h runs = keeps_of o c (stage_keeps h.stage o.logs h c.logs runs)
