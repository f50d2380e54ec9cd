-- The undo of a group restart over a sound disk leads, call by call, to a sound disk.
use Rattle.std.proofs.Common.{◌≡◌, ℕ, suc, ◌+◌, ◌<◌, ◌^◌, Bool, false, cond, List, [], ◌∷◌, ◌++◌, length, drop, Option, Some, None, inl, inr, refl, sym, ap, subst, ◌∙◌, arith}
use Rattle.std.specs.Prelude.{slice_get, filter}
use Rattle.std.proofs.lemmas.Bool.{cond_both, lt-ltb}
use Rattle.ds_base.specs.Pages.{same_page}
use Rattle.ds_base.specs.declared.names.PageId.{PageId}
use Rattle.ds_disk.specs.Contents.{Contents, log_of}
use Rattle.ds_disk.specs.Pages.{page_at}
use Rattle.ds_model.specs.declared.log.LogRecord.{LogRecord}
use Rattle.ds_model.specs.declared.log.RowChange.{RowChange}
use Rattle.ds_model.specs.RecordBytes.{ChangeIsAllowed, log_bytes}
use Rattle.log_record.specs.declared.log.Log.{Log}
use Rattle.log_record.specs.Changes.{inverse}
use Rattle.log_trans.specs.Numbers.{greatest}
use Rattle.log_merge.specs.Merging.{all_records}
use Rattle.restart_plan.specs.declared.opened.Closing.{Closing}
use Rattle.restart_plan.specs.declared.opened.Undo.{Undo}
use Rattle.group_restart.specs.declared.stage.Stage.TheVariants as stage
use Rattle.group_restart.specs.Machine.{Restart}
use Rattle.group_restart.specs.Disk.{with_page as with_hand}
use Rattle.group_restart.specs.Records.{ended, compensation}
use Rattle.group_restart.specs.Undo.{undone_page, undoing}
use Rattle.group_restart.specs.Course.{Next, go, with_plan, with_added, rest_closings, rest_undo, undo_or, next_undo, closing_or, next_closing, too_few_numbers, numbered, counted, begin_undo, undone, undo_at, appended, take_done}
use Rattle.sound_appends.specs.Appends.{Appends, AppendsAll}
use Rattle.sound_disk.specs.Rows_there.{Stood}
use Rattle.sound_disk.specs.Versions.{merged, last_images}
use Rattle.sound_plans.specs.Courses.{Owes, writes_of, UndoGoes as UndoFits}
use Rattle.sound_plans.specs.Ends.{ToEnd, EndAll}
use Rattle.sound_plans.specs.Opens.{course_of}
use Rattle.sound_plans.specs.Queues.{records_for, CanClose, ClosingsFit, is_of, QueueFits}
use Rattle.sound_plans.proofs.Logs.{put_record, PutIs}
use Rattle.sound_plans.proofs.Closings.{closes, all_close_still}
use Rattle.sound_plans.proofs.Courses.{none_to_close, some_to_close, owes_behind}
use Rattle.sound_plans.proofs.Queues.{head_of, first_queue, undoes}
use Rattle.sound_restarts.specs.Redo.{IsSoundNow, with_page, IsLast, LastKeeps}
use Rattle.sound_restarts.specs.Undo.{page_of, page_for, AreLast, CanUndo, UndoMakesLast, UndoLeavesOthers, OthersLeavePages, UndoReads as UndoMeetsNothing}
use Rattle.sound_tables.specs.Keeping.{AreTableLogs, MeetsItsRow}
use Rattle.sound_courses.specs.Standing.{IsSoundBehind, Rests, HasNumbers, with_appended}
use Rattle.sound_courses.specs.Undoing.{ReadsNext, UndoLeads, UndoBegins, ClosingGoes, UndoReads, UndoAppends, UndoWrites}
use Rattle.sound_courses.proofs.Standing.{AppendLaws, all_appended, rests_as, stands_behind, AskNothing, all_settled, LeavePages, all_leave, last_still}
use Rattle.sound_courses.proofs.Written.{written_rests}

-- what is proved of the undo of one change
pub record UndoLaws : Type 0 where
  pub appends : AppendLaws
  pub meets : MeetsItsRow
  pub keeps : LastKeeps
  pub makes : UndoMakesLast
  pub others : UndoLeavesOthers
  pub unmerged : OthersLeavePages
  pub reads : UndoMeetsNothing
  pub fits : UndoFits

-- ---- the next change, or the end of the undo

none_first : (us : List Undo) → slice_get us 0 ≡ None → us ≡ []
none_first [] e = refl
none_first (x ∷ us) e = absurd cc

some_undos : (us : List Undo) (u : Undo) → slice_get us 0 ≡ Some u → us ≡ u ∷ drop 1 us
some_undos [] u e = absurd cc
some_undos (x ∷ us) u e = let same : x ≡ u = cc in ap (λ (v : Undo). v ∷ us) same

undo_leads : (ts : ToEnd) (c : Contents) (logs : List Log) (h : Restart) (next : Option Undo) → slice_get h.plan.undo 0 ≡ next → Rests h c logs → Owes ts [] h.plan.undo h.counter logs → HasNumbers h → UndoLeads ts (undo_or h next) c logs
undo_leads ts c logs h None e r o n = inr (record { behind = h; goes = refl; rests = r; nothing = record { owes = o; none = none_first h.plan.undo e } })
undo_leads ts c logs h (Some u) e r o n = inl (
  refl,
  record {
    rests = rests_as h (go h (stage.UndoRead (page_of u))).0 c logs refl refl refl r;
    owes = o;
    numbers = n;
    first = u;
    rest = drop 1 h.plan.undo;
    undo_is = some_undos h.plan.undo u e;
    page_is = refl;
  },
)

pub next_undo_leads : (ts : ToEnd) (c : Contents) (logs : List Log) (h : Restart) → Rests h c logs → Owes ts [] h.plan.undo h.counter logs → HasNumbers h → UndoLeads ts (next_undo h) c logs
unfolding next_undo
next_undo_leads ts c logs h r o n = undo_leads ts c logs h (slice_get h.plan.undo 0) refl r o n

-- ---- closings

first_closing : (logs : List Log) (cs : List Closing) (cl : Closing) → ClosingsFit logs cs → slice_get cs 0 ≡ Some cl → CanClose logs cl
first_closing logs [] cl h e = absurd cc
first_closing logs (x ∷ cs) cl h e = let same : x ≡ cl = cc in subst (CanClose logs) same h.0

rest_close : (logs : List Log) (cs : List Closing) → ClosingsFit logs cs → ClosingsFit logs (drop 1 cs)
rest_close logs [] h = tt
rest_close logs (x ∷ cs) h = h.1

-- the first of these is taken out of the list
closing_leads : (ts : ToEnd) (c : Contents) (logs : List Log) (h : Restart) (all : List Closing) (next : Option Closing) → slice_get all 0 ≡ next → h.plan.closings ≡ drop 1 all → ((cl : Closing) → next ≡ Some cl → CanClose logs cl) → ClosingsFit logs h.plan.closings → Rests h c logs → Owes ts all h.plan.undo h.counter logs → HasNumbers h
    → UndoLeads ts (closing_or h next) c logs
closing_leads ts c logs h all None is left first rest r o n = next_undo_leads ts c logs h r (subst (λ (cs : List Closing). Owes ts cs h.plan.undo h.counter logs) (none_to_close all is) o) n
closing_leads ts c logs h all (Some cl) is left first rest r o n = inl (
  refl,
  record {
    rests = rests_as h (go (with_added h (ended cl.lrsn cl.tran ∷ [])) (stage.CloseAppend cl.member)).0 c logs refl refl refl r;
    due = record { closing = cl; member_is = refl; added_is = refl; can = first cl refl; rest = rest; owes = subst (λ (cs : List Closing). Owes ts cs h.plan.undo h.counter logs) (some_to_close all cl is ∙ ap (λ (cs : List Closing). cl ∷ cs) (sym left)) o };
    numbers = n;
  },
)

next_closing_leads : (ts : ToEnd) (c : Contents) (logs : List Log) (h : Restart) → ClosingsFit logs h.plan.closings → Rests h c logs → Owes ts h.plan.closings h.plan.undo h.counter logs → HasNumbers h → UndoLeads ts (next_closing h) c logs
unfolding next_closing
next_closing_leads ts c logs h fits r o n =
    closing_leads ts c logs (with_plan h (rest_closings h.plan)) h.plan.closings (slice_get h.plan.closings 0) refl refl (λ cl e. first_closing logs h.plan.closings cl fits e) (rest_close logs h.plan.closings fits)
    (rests_as h (with_plan h (rest_closings h.plan)) c logs refl refl refl r) o n

numbered_leads : (ts : ToEnd) (c : Contents) (logs : List Log) (h : Restart) → HasNumbers h → UndoLeads ts (next_closing h) c logs → UndoLeads ts (numbered h) c logs
numbered_leads ts c logs h few next = subst (λ (b : Bool). UndoLeads ts (cond b (next_closing h) (too_few_numbers h)) c logs) (sym (lt-ltb (h.counter + length h.plan.undo) (2 ^ 80) few)) next

pub undo_begins : UndoBegins
unfolding begin_undo
undo_begins ts h c logs b =
    let few : HasNumbers (counted h) = subst (λ (n : ℕ). n + length h.plan.undo < 2 ^ 80) (sym b.number) b.numbers in
    numbered_leads ts c logs (counted h) few
    (next_closing_leads ts c logs (counted h) b.closings (rests_as h (counted h) c logs refl refl refl b.rests) (record { queue = b.queue; number = b.number; ends = b.ends }) few)

pub closing_goes : UndoLaws → ClosingGoes
closing_goes l ts h member c logs d =
    let cl = d.due.closing in
    let can : CanClose logs cl = d.due.can in
    let after = put_record logs cl.member (ended cl.lrsn cl.tran) in
    let p = closes logs cl can in
    let writes : (cl.member, ended cl.lrsn cl.tran) ∷ [] ≡ writes_of member h.added = ap (λ (m : ℕ). writes_of m (ended cl.lrsn cl.tran ∷ [])) (sym d.due.member_is) ∙ ap (writes_of member) (sym d.due.added_is) in
    let all : AppendsAll logs (writes_of member h.added) after = subst (λ (ws : List (ℕ × LogRecord)). AppendsAll logs ws after) writes (after, p.appends, p.member_is, refl) in
    let asks : AskNothing h.added = subst AskNothing (sym d.due.added_is) (refl, tt) in
    let leave : LeavePages h.added = subst LeavePages (sym d.due.added_is) (refl, tt) in
    let a = all_appended l.appends c logs after member h.added all (all_settled (page_at c.pages) h.added logs after member all asks) d.rests.stands.sound in (
      a.stops,
      (
        after,
        next_closing_leads ts (with_appended h member c) after (appended h member) (all_close_still logs cl h.plan.closings can d.due.rest)
            (record {
              stands = stands_behind h member c logs after d.rests.stands a;
              last = last_still c member (log_of c.logs member ++ log_bytes h.added) logs after (λ id. all_leave l.unmerged h.added logs after member id all leave) d.rests.last;
            })
            (owes_behind ts logs cl h.plan.closings h.plan.undo h.counter can d.due.owes) d.numbers,
      ),
    )

-- ---- the page of the change is read

record First (logs : List Log) (u : Undo) (n : ℕ) : Type 0 where
  mid : List Log
  appends : Appends logs (compensation u n) mid

-- the compensation of the first change can be appended
first_appends : (logs : List Log) (u : Undo) (us : List Undo) (n : ℕ) → QueueFits logs (u ∷ us) → n ≡ greatest (all_records logs) + 1 → n < 2 ^ 80 → First logs u n
first_appends logs u us n fits e small =
    let q = first_queue logs u us fits in
    let rest = filter (is_of u.member u.tran) us in
    let h = head_of u.member u.tran u rest (course_of (records_for logs u.member) u.tran) q.own q.is in
    let p : PutIs logs u.member (compensation u n) = subst (λ (k : ℕ). PutIs logs u.member (compensation u k)) (sym e) (undoes logs u rest q h (subst (λ (k : ℕ). k < 2 ^ 80) e small)) in
    record { mid = put_record logs u.member (compensation u n); appends = p.appends }

turned_back : (c : RowChange) → ChangeIsAllowed (inverse c) → ChangeIsAllowed c
turned_back c h = record { table_in = h.table_in; key_in = h.key_in; page_some = h.page_some; page_in = h.page_in; slot_in = h.slot_in; before_is = h.after_is; after_is = h.before_is }

can_undo : MeetsItsRow → (c : Contents) (logs mid : List Log) (u : Undo) (n : ℕ) → IsSoundBehind c logs → AreLast c logs → Appends logs (compensation u n) mid → CanUndo c logs u
can_undo meets c logs mid u n s last a =
    let all : AreTableLogs c.logs logs = record { whole = s.now.sound.whole_logs; transactions = s.now.sound.transactions; turns = s.now.sound.turns; tables = s.now.sound.tables } in
    let stood : Stood (merged logs) (inverse u.change) = meets c.logs logs mid (compensation u n) a all in
    record { now = s.now; last = last (page_of u); slot = stood.slot; allowed = turned_back u.change a.allowed.body_is.0 }

-- the restart that has read the page
abbrev hand_of : Restart → Contents → Undo → Restart
hand_of h c u = with_plan (with_hand h (page_for c u)) (rest_undo h.plan)

done_leads : (ts : ToEnd) (h : Restart) (c : Contents) (logs : List Log) (u : Undo) (us : List Undo) (n : ℕ) → n ≡ h.counter + 1 → h.plan.undo ≡ u ∷ us → Rests h c logs → QueueFits logs (u ∷ us) → n ≡ greatest (all_records logs) + 1 → HasNumbers h → CanUndo c logs u → EndAll ts [] (u ∷ us) logs
    → UndoLeads ts (undone (hand_of h c u) u n) c logs
unfolding undone
done_leads ts h c logs u us n next is r fits number few can ends =
    let left : drop 1 h.plan.undo ≡ us = ap (drop 1) is in
    let count : length h.plan.undo ≡ suc (length us) = ap (λ (l : List Undo). length l) is in
    let fewer : n + length us < 2 ^ 80 = omega (arith, next, count, few) in
    let k : Restart = record (hand_of h c u) { page = undone_page u.change n (page_for c u); counter = n; added = undoing u n; stage = stage.UndoAppend u.member (page_of u) } in
    inl (
      refl,
      record {
        rests = rests_as h k c logs refl refl refl r;
        due = record { first = u; member_is = refl; added_is = refl; queue = subst (λ (l : List Undo). QueueFits logs (u ∷ l)) (sym left) fits; number = number; small = omega (arith, fewer); ends = subst (λ (l : List Undo). EndAll ts [] (u ∷ l) logs) (sym left) ends };
        can = can;
        page_is = refl;
        hand_is = refl;
        numbers = subst (λ (l : List Undo). n + length l < 2 ^ 80) (sym left) fewer;
      },
    )

reads_at : UndoLaws → (ts : ToEnd) (h : Restart) (page : PageId) (c : Contents) (logs : List Log) (n : ℕ) → n ≡ h.counter + 1 → (d : ReadsNext ts page h c logs) → UndoLeads ts (undo_at (hand_of h c d.first) d.first n) c logs × CanUndo c logs d.first
reads_at l ts h page c logs n next d =
    let u = d.first in
    let us = d.rest in
    let fits : QueueFits logs (u ∷ us) = subst (QueueFits logs) d.undo_is d.owes.queue in
    let number : n ≡ greatest (all_records logs) + 1 = next ∙ ap (λ (k : ℕ). k + 1) d.owes.number in
    let count : length h.plan.undo ≡ suc (length us) = ap (λ (l : List Undo). length l) d.undo_is in
    let few : h.counter + length h.plan.undo < 2 ^ 80 = d.numbers in
    let small : n < 2 ^ 80 = omega (arith, next, count, few) in
    let f = first_appends logs u us n fits number small in
    let can = can_undo l.meets c logs f.mid u n d.rests.stands.sound d.rests.last f.appends in (
      subst (λ (b : Bool). UndoLeads ts (cond b (undone (hand_of h c u) u n) (too_few_numbers (hand_of h c u))) c logs) (sym (lt-ltb n (2 ^ 80) small))
          (done_leads ts h c logs u us n next d.undo_is d.rests fits number d.numbers can (subst (λ (l : List Undo). EndAll ts [] l logs) d.undo_is d.owes.ends)),
      can,
    )

pub undo_reads : UndoLaws → UndoReads
undo_reads l ts h page c logs d =
    let u = d.first in
    let r = reads_at l ts h page c logs (h.counter + 1) refl d in
    subst (λ (id : PageId). UndoLeads ts (take_done (with_hand h (page_at c.pages id)) (stage.UndoRead id)) c logs) (sym d.page_is)
    (subst (λ (x : Next). UndoLeads ts x c logs) (sym (l.reads h c logs u d.rest r.1 d.undo_is)) r.0)

-- ---- the compensation is appended

-- the Ended behind it leaves all pages
rest_leaves : (u : Undo) (n : ℕ) → LeavePages (cond u.is_last (ended n u.tran ∷ []) [])
rest_leaves u n = cond_both u.is_last (ended n u.tran ∷ []) [] LeavePages (λ _. (refl, tt)) (λ _. tt)

undoing_asks : (u : Undo) (n : ℕ) → AskNothing (undoing u n)
undoing_asks u n = (refl, cond_both u.is_last (ended n u.tran ∷ []) [] AskNothing (λ _. (refl, tt)) (λ _. tt))

-- what all records leave behind them
record Compensated (c : Contents) (logs after : List Log) (u : Undo) (n : ℕ) : Type 0 where
  own : undone_page u.change n (page_for c u) ≡ last_images after (page_of u)
  others : (id : PageId) → same_page (page_of u) id ≡ false → last_images after id ≡ last_images logs id

compensated : UndoLaws → (c : Contents) (logs after : List Log) (member : ℕ) (u : Undo) (n : ℕ) → CanUndo c logs u → AppendsAll logs (writes_of member (undoing u n)) after → Compensated c logs after u n
compensated l c logs after member u n can h =
    let rest = cond u.is_last (ended n u.tran ∷ []) [] in
    record {
      own = l.makes c logs h.0 u n can h.1 ∙ sym (all_leave l.unmerged rest h.0 after member (page_of u) h.3 (rest_leaves u n));
      others = λ id other. all_leave l.unmerged rest h.0 after member id h.3 (rest_leaves u n) ∙ l.others logs h.0 u n id h.1 other;
    }

pub undo_appends : UndoLaws → UndoAppends
undo_appends l ts h member page c logs d =
    let u = d.due.first in
    let goes = l.fits ts h member page logs d.due in
    let after = goes.0 in
    let all : AppendsAll logs (writes_of member h.added) after = goes.1 in
    let added : h.added ≡ undoing u h.counter = d.due.added_is in
    let asks : AskNothing h.added = subst AskNothing (sym added) (undoing_asks u h.counter) in
    let a = all_appended l.appends c logs after member h.added all (all_settled (page_at c.pages) h.added logs after member all asks) d.rests.stands.sound in
    let k = compensated l c logs after member u h.counter d.can (subst (λ (rs : List LogRecord). AppendsAll logs (writes_of member rs) after) added all) in
    let others : (id : PageId) → same_page page id ≡ false → IsLast (with_appended h member c) after id =
    λ id other. d.rests.last id ∙ sym (k.others id (subst (λ (p : PageId). same_page p id ≡ false) d.page_is other)) in (
      a.stops,
      (
        after,
        inl (
          refl,
          record {
            stands = record { sound = a.sound; ends = (stands_behind h member c logs after d.rests.stands a).ends; endings = (stands_behind h member c logs after d.rests.stands a).endings; renews = d.rests.stands.renews };
            others = others;
            hand_is = d.hand_is ∙ k.own ∙ ap (last_images after) (sym d.page_is);
            owes = goes.2 refl;
            numbers = d.numbers;
          },
        ),
      ),
    )

-- ---- the page is written

pub undo_writes : UndoLaws → UndoWrites
undo_writes l ts h page c logs d =
    subst (λ (p : List ℕ). IsSoundNow (with_page c page p) logs × UndoLeads ts (take_done h (stage.UndoWrite page)) (with_page c page p) logs) (sym d.hand_is) (
      (l.keeps c logs page d.stands.sound.now).0,
      next_undo_leads ts (with_page c page (last_images logs page)) logs h (written_rests l.keeps h c logs page d.stands d.others) d.owes d.numbers,
    )
