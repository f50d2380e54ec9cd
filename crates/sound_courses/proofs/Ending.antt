-- How a group restart ends the logs of a sound disk leads, call by call, to a sound disk.
use Rattle.std.proofs.Common.{◌≡◌, ℕ, ◌≤◌, true, List, [], ◌∷◌, ◌++◌, drop, Option, Some, None, inl, inr, refl, sym, ap, subst, ◌∙◌, arith}
use Rattle.std.specs.Prelude.{slice_get}
use Rattle.std.specs.List.{list_all, AllByRecursion}
use Rattle.ds_base.specs.declared.names.PageId.{PageId}
use Rattle.ds_disk.specs.Contents.{Contents, log_of}
use Rattle.ds_disk.specs.Pages.{page_at}
use Rattle.ds_model.specs.RecordBytes.{log_bytes}
use Rattle.ds_model.specs.declared.log.LogRecord.{LogRecord}
use Rattle.log_record.specs.declared.log.Log.{Log}
use Rattle.page_chain.specs.Chains.{AreRecords}
use Rattle.page_format.specs.Fields.{lrsn_of}
use Rattle.restart_plan.specs.Ends.{end_of}
use Rattle.group_restart.specs.declared.stage.Stage.TheVariants as stage
use Rattle.group_restart.specs.Machine.{Restart}
use Rattle.group_restart.specs.Records.{checkpoint, ending}
use Rattle.group_restart.specs.Course.{go, with_plan, with_added, rest_endings, ending_or, next_ending, appended}
use Rattle.sound_appends.specs.Appends.{Appends, AppendsAll}
use Rattle.sound_disk.specs.Checkpoints.{is_done}
use Rattle.sound_disk.specs.Laws.{AreMerged}
use Rattle.sound_disk.specs.Versions.{merged, last_images}
use Rattle.sound_disk.specs.Whole_logs.{AreWholeLogs}
use Rattle.sound_plans.specs.Courses.{OwesNothing, EndsNext, IsDue, writes_of, EndingGoes as EndingFits}
use Rattle.sound_plans.specs.Ends.{ToEnd}
use Rattle.sound_plans.specs.Queues.{has_log, records_for, length_for, IsSettled, EmptyQueueSettles, SettledIsDone, QueueFits}
use Rattle.sound_plans.proofs.Members.{IsHome, each_home}
use Rattle.sound_restarts.specs.Undo.{OthersLeavePages}
use Rattle.sound_restarts.proofs.Brought.{current_new}
use Rattle.sound_restarts.proofs.Versions.{VersionLaws}
use Rattle.sound_tables.specs.Keeping.{AreSettledBefore}
use Rattle.sound_courses.specs.Standing.{NoneIsOld, Rests, with_appended}
use Rattle.sound_courses.specs.Ending.{EndLeads, BeginsEnding, EndingBegins, EndingGoes}
use Rattle.sound_courses.proofs.Appending.{end_is}
use Rattle.sound_courses.proofs.Had.{OrdersKept, all_in_pages}
use Rattle.sound_courses.proofs.Standing.{AppendLaws, all_appended, rests_as, stands_behind, LeavePages, all_leave, last_still}

-- what is proved of the ends of logs
pub record EndLaws : Type 0 where
  pub appends : AppendLaws
  pub unmerged : OthersLeavePages
  pub fits : EndingFits
  pub empty : EmptyQueueSettles
  pub done : SettledIsDone
  pub versions : VersionLaws
  pub orders : OrdersKept
  pub merged : AreMerged

-- ---- the next log, or the end

all_rest : (P : ℕ → Type 0) (ms : List ℕ) → AllByRecursion P ms → AllByRecursion P (drop 1 ms)
all_rest P [] h = tt
all_rest P (m ∷ ms) h = h.1

first_has : (P : ℕ → Type 0) (ms : List ℕ) (m : ℕ) → AllByRecursion P ms → slice_get ms 0 ≡ Some m → P m
first_has P [] m h e = absurd cc
first_has P (x ∷ ms) m h e = let same : x ≡ m = cc in subst P same h.0

ending_leads : (ts : ToEnd) (c : Contents) (logs : List Log) (h : Restart) (next : Option ℕ) → ((m : ℕ) → next ≡ Some m → has_log logs m ≡ true) → BeginsEnding ts h c logs → EndLeads ts (ending_or h next) c logs
ending_leads ts c logs h None first b = inr (record { tells = refl; stage_is = refl; rests = rests_as h (record h { stage = stage.End }) c logs refl refl refl b.rests; nothing = b.nothing; new = b.new })
ending_leads ts c logs h (Some m) first b = inl (
  refl,
  record {
    rests = rests_as h (go (with_added h (ending h.counter (end_of h.plan.ends m))) (stage.EndAppend m)).0 c logs refl refl refl b.rests;
    due = record { added_is = refl; rest = b.nothing };
    has = first m refl;
    new = b.new;
  },
)

-- with the logs that are still to be ended but the first
without_first : (h : Restart) (c : Contents) (logs : List Log) → Rests h c logs → Rests (with_plan h (rest_endings h.plan)) c logs
without_first h c logs r = record {
  stands = record {
    sound = r.stands.sound;
    ends = r.stands.ends;
    endings = all_rest (λ (m : ℕ). has_log logs m ≡ true) h.plan.endings r.stands.endings;
    renews = r.stands.renews;
  };
  last = r.last;
}

pub ending_begins : EndingBegins
unfolding next_ending
ending_begins ts h c logs b =
    ending_leads ts c logs (with_plan h (rest_endings h.plan)) (slice_get h.plan.endings 0) (λ m e. first_has (λ (n : ℕ). has_log logs n ≡ true) h.plan.endings m b.rests.stands.endings e)
    (record { rests = without_first h c logs b.rests; nothing = b.nothing; new = b.new })

-- ---- what stands before a Checkpoint

home_at : (all front : List Log) (log : Log) (back : List Log) → AllByRecursion (λ (l : Log). IsHome all l) (front ++ log ∷ back) → IsHome all log
home_at all [] log back h = h.0
home_at all (x ∷ xs) log back h = home_at all xs log back h.1

own_records : (bytes : List (List ℕ)) (logs after : List Log) (r : LogRecord) (a : Appends logs r after) → AreWholeLogs 1 bytes logs → records_for logs a.log.member ≡ a.log.records
own_records bytes logs after r a w = (home_at logs a.front a.log a.back (subst (λ (ls : List Log). AllByRecursion (λ (l : Log). IsHome logs l) ls) a.logs_are (each_home bytes logs w))).records_are

no_lower : (h : Restart) (c : Contents) (logs : List Log) → Rests h c logs → NoneIsOld c → (id : PageId) → lrsn_of (last_images logs id) ≤ lrsn_of (page_at c.pages id)
no_lower h c logs r new id =
    let same : lrsn_of (page_at c.pages id) ≡ lrsn_of (last_images logs id) = ap lrsn_of (sym (current_new (page_at c.pages id) (new id)) ∙ r.last id) in
    omega (arith, same)

-- all that stands in the log is in the pages of the disk, and no transaction of it is open
done_at : EndLaws → (ts : ToEnd) (h : Restart) (c : Contents) (logs after : List Log) (r : LogRecord) (a : Appends logs r after) → Rests h c logs → OwesNothing ts h.plan.undo h.counter logs → NoneIsOld c
    → list_all (is_done (page_at c.pages) a.log.records) a.log.records ≡ true
done_at l ts h c logs after r a rests none new =
    let sound = rests.stands.sound.now.sound in
    let are : AreRecords (merged logs) = l.merged c.logs logs sound.whole_logs sound.transactions in
    let pages = all_in_pages l.versions l.orders (page_at c.pages) c.logs logs a.log.member sound.whole_logs are (no_lower h c logs rests new) in
    let settled : (tran : ℕ) → IsSettled logs a.log.member tran = λ tran. l.empty logs (subst (QueueFits logs) none.none none.owes.queue) a.log.member tran in
    subst (λ (rs : List LogRecord). list_all (is_done (page_at c.pages) rs) rs ≡ true) (own_records c.logs logs after r a sound.whole_logs) (l.done (page_at c.pages) logs a.log.member settled pages)

both_settled : EndLaws → (ts : ToEnd) (h : Restart) (c : Contents) (logs after : List Log) (member lrsn at : ℕ) → Rests h c logs → OwesNothing ts h.plan.undo h.counter logs → NoneIsOld c
    → (all : AppendsAll logs (writes_of member (ending lrsn at)) after) → AreSettledBefore (page_at c.pages) logs (writes_of member (ending lrsn at)) after all
both_settled l ts h c logs after member lrsn at rests none new all = ((done_at l ts h c logs all.0 (checkpoint lrsn at) all.1 rests none new, tt), ((tt, new), tt))

-- ---- the records are appended

-- what the course of a plan with one more log to be ended says
nothing_of : (ts : ToEnd) (k : Restart) (m : ℕ) (logs : List Log) → slice_get k.plan.endings 0 ≡ Some m → IsDue ts (next_ending k) logs → OwesNothing ts k.plan.undo k.counter logs
unfolding next_ending
nothing_of ts k m logs e due =
    let d : IsDue ts (ending_or (with_plan k (rest_endings k.plan)) (Some m)) logs = subst (λ (o : Option ℕ). IsDue ts (ending_or (with_plan k (rest_endings k.plan)) o) logs) e due in
    (d refl).rest

abbrev with_one : Restart → Restart
with_one h = record h { plan = record h.plan { endings = 0 ∷ [] } }

pub ending_goes : EndLaws → EndingGoes
ending_goes l ts h member c logs d allowed =
    let whole = d.rests.stands.sound.now.sound.whole_logs in
    let end : end_of h.plan.ends member ≡ length_for logs member = ap (λ (es : List ℕ). end_of es member) d.rests.stands.ends ∙ end_is c.logs logs member whole d.has in
    let due : EndsNext ts (with_one h) member logs = record { added_is = d.due.added_is; rest = d.due.rest } in
    let goes = l.fits ts (with_one h) member logs due d.has end allowed in
    let after = goes.0 in
    let all : AppendsAll logs (writes_of member h.added) after = goes.1 in
    let nothing : OwesNothing ts h.plan.undo h.counter after = nothing_of ts (appended (with_one h) member) 0 after refl goes.2 in
    let added : ending h.counter (end_of h.plan.ends member) ≡ h.added = sym d.due.added_is in
    let settled = subst (λ (rs : List LogRecord). (every : AppendsAll logs (writes_of member rs) after) → AreSettledBefore (page_at c.pages) logs (writes_of member rs) after every) added
    (both_settled l ts h c logs after member h.counter (end_of h.plan.ends member) d.rests d.due.rest d.new) in
    let leave : LeavePages h.added = subst LeavePages added (refl, (refl, tt)) in
    let a = all_appended l.appends c logs after member h.added all (settled all) d.rests.stands.sound in (
      a.stops,
      (
        after,
        ending_begins ts (appended h member) (with_appended h member c) after
            (record {
              rests = record {
                stands = stands_behind h member c logs after d.rests.stands a;
                last = last_still c member (log_of c.logs member ++ log_bytes h.added) logs after (λ id. all_leave l.unmerged h.added logs after member id all leave) d.rests.last;
              };
              nothing = nothing;
              new = d.new;
            }),
      ),
    )
