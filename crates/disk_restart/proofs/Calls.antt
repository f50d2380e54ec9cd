-- Whatever a call of a restart comes to, the logs keep their lasting records.
use Rattle.std.proofs.Common.{◌≡◌, ℕ, ◌-◌, List, ◌++◌, take, Some, Result, sym, ap, subst, inl, inr}
use Rattle.std.specs.List.{AllByRecursion}
use Rattle.std.specs.FinMap as map
use Rattle.ds_base.specs.declared.names.PageId.{PageId}
use Rattle.ds_model.specs.RecordBytes.{IsAllowed, log_bytes}
use Rattle.ds_disk.specs.Contents.{Contents, Becomes, log_of, with_log}
use Rattle.ds_disk.specs.declared.disk.DiskError.{DiskError}
use Rattle.log_reader.specs.declared.calls.LogCall.{LogCall}
use Rattle.log_reader.specs.declared.calls.LogCall.TheVariants as asked
use Rattle.log_reader.specs.Readers.{next_call}
use Rattle.restart_plan.specs.Ends.{end_of}
use Rattle.group_restart.specs.declared.reply.Reply.{Reply}
use Rattle.group_restart.specs.declared.stage.Stage.{Stage}
use Rattle.group_restart.specs.declared.stage.Stage.TheVariants as stage
use Rattle.group_restart.specs.Calls.{log_call, call_in}
use Rattle.group_restart.specs.Disk.{Drive, Calls, TellsLength, TellsBlock, Cuts, Appends, ReadsPage, WritesPage}
use Rattle.group_restart.specs.Machine.{Restart}
use Rattle.disk_restart.specs.Keeping.{lasting}
use Rattle.disk_restart.proofs.Told.{left_by}
use Rattle.disk_restart.proofs.Whole.{ReadsSound, IsWhole, front_kept, append_kept}
use Rattle.disk_restart.proofs.Cutting.{Logs, log_at, Keeps, set_kept}
use Rattle.disk_restart.proofs.Stages.{Adds, InStage}

abbrev pub Made : Type 0
Made = Result Reply DiskError

-- ---- what each call leaves

module _ (w v : Drive) (made : Made) (c : Contents) (Q : Contents → Type 0) where
  length_left : (member : ℕ) → w.contents ≡ Some c → TellsLength member w made v → Q c → Becomes (Some c) v.contents (λ _ d. Q d)
  length_left member is a q = left_by c made Q is a q (λ r d e. subst Q (sym e.0) q) (λ d e. subst Q (sym e) q)

  block_left : (member from count : ℕ) (block : List ℕ) → w.contents ≡ Some c → TellsBlock member from count block w made v → Q c → Becomes (Some c) v.contents (λ _ d. Q d)
  block_left member from count block is a q = left_by c made Q is a q (λ r d e. subst Q (sym e.0) q) (λ d e. subst Q (sym e) q)

  page_left : (id : PageId) (page : List ℕ) → w.contents ≡ Some c → ReadsPage id page w made v → Q c → Becomes (Some c) v.contents (λ _ d. Q d)
  page_left id page is a q = left_by c made Q is a q (λ r d e. subst Q (sym e.1) q) (λ d e. subst Q (sym e) q)

  written_left : (id : PageId) (page : List ℕ) → w.contents ≡ Some c → WritesPage id page w made v → Q c → Q (record c { pages = map.insert c.pages id page }) → Becomes (Some c) v.contents (λ _ d. Q d)
  written_left id page is a q wrote = left_by c made Q is a q (λ r d e. subst Q (sym e.1) wrote) (λ d e. elim e [ inl same ↦ subst Q (sym same) q | inr done ↦ subst Q (sym done) wrote ])

  cut_left : (member n : ℕ) → w.contents ≡ Some c → Cuts member n w made v → Q c → Q (with_log c member (take n (log_of c.logs member))) → Becomes (Some c) v.contents (λ _ d. Q d)
  cut_left member n is a q cut = left_by c made Q is a q (λ r d e. subst Q (sym e.1) cut) (λ d e. elim e [ inl same ↦ subst Q (sym same) q | inr done ↦ subst Q (sym done) cut ])

  append_left : (member : ℕ) (bytes : List ℕ) → w.contents ≡ Some c → Appends member bytes w made v → Q c → Q (with_log c member (log_of c.logs member ++ bytes)) → ((n : ℕ) → Q (with_log c member (log_of c.logs member ++ take n bytes)))
      → Becomes (Some c) v.contents (λ _ d. Q d)
  append_left member bytes is a q whole torn = left_by c made Q is a q (λ r d e. subst Q (sym e.1) whole) (λ d e. subst Q (sym e.2) (torn e.0))

-- ---- that the logs are kept

abbrev KeepsLogs : Logs → Contents → Type 0
KeepsLogs o d = Keeps o d.logs

pub itself : (o c : Logs) → c ≡ o → Keeps o c
itself o c same = λ i. ap (λ (ls : Logs). lasting (log_at ls i)) same

module _ (sound : ReadsSound) (o : Logs) (h k : Restart) (w v : Drive) (made : Made) (c : Contents) (is : w.contents ≡ Some c) where
  asks_kept : (member : ℕ) (q : LogCall) → Keeps o c.logs → Calls h (log_call member q) w made v k → Becomes (Some c) v.contents (λ _ d. Keeps o d.logs)
  asks_kept member asked.Length keeps calls = length_left w v made c (KeepsLogs o) member is calls.0 keeps
  asks_kept member (asked.Read from count) keeps calls = block_left w v made c (KeepsLogs o) member from count k.reader.block is calls.0 keeps

  adds_kept : (member : ℕ) → Adds o c.logs h.plan.ends member h.added → Appends member (log_bytes h.added) w made v → AllByRecursion IsAllowed h.added → Becomes (Some c) v.contents (λ _ d. Keeps o d.logs)
  adds_kept member i a allowed =
      let log : List ℕ = log_of c.logs member in
      let size : ℕ = end_of h.plan.ends member in
      let whole : IsWhole size log = i.stands.whole (member - 1) in
      append_left w v made c (KeepsLogs o) member (log_bytes h.added) is a i.stands.keeps
      (set_kept o c.logs (member - 1) (log ++ log_bytes h.added) i.stands.keeps (append_kept sound size log h.added whole allowed i.added))
      (λ n. set_kept o c.logs (member - 1) (log ++ take n (log_bytes h.added)) i.stands.keeps (front_kept sound size log h.added n whole allowed i.added))

  pub kept : (st : Stage) → InStage st o h c.logs → Calls h (call_in st h) w made v k → Becomes (Some c) v.contents (λ _ d. Keeps o d.logs)
  kept stage.ReadLog i calls = asks_kept h.reader.member (next_call h.reader) (itself o c.logs i.same) calls
  kept (stage.CutTail tail) i calls =
      cut_left w v made c (KeepsLogs o) tail.member tail.length is calls.0 i.keeps (set_kept o c.logs (tail.member - 1) (take tail.length (log_of c.logs tail.member)) i.keeps i.due.0)
  kept (stage.RedoRead page) i calls = page_left w v made c (KeepsLogs o) page k.page is calls.0 i.keeps
  kept (stage.RedoWrite page) i calls = written_left w v made c (KeepsLogs o) page h.page is calls.0 i.keeps i.keeps
  kept (stage.CloseAppend member) i calls = adds_kept member i calls.0 calls.2
  kept (stage.UndoRead page) i calls = page_left w v made c (KeepsLogs o) page k.page is calls.0 i.keeps
  kept (stage.UndoAppend member page) i calls = adds_kept member i calls.0 calls.2
  kept (stage.UndoWrite page) i calls = written_left w v made c (KeepsLogs o) page h.page is calls.0 i.keeps i.keeps
  kept (stage.RenewRead page) i calls = page_left w v made c (KeepsLogs o) page k.page is calls.0 i.keeps
  kept (stage.RenewWrite page) i calls = written_left w v made c (KeepsLogs o) page h.page is calls.0 i.keeps i.keeps
  kept (stage.EndAppend member) i calls = adds_kept member i calls.0 calls.2
  kept stage.End i calls = length_left w v made c (KeepsLogs o) h.reader.member is calls.0 i.keeps
