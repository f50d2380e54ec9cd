-- Call by call the course appends what fits the logs.
use Rattle.std.specs.List.{AllByRecursion}
use Rattle.std.proofs.Common.{◌≡◌, ℕ, ◌+◌, ◌<◌, ◌^◌, true, List, [], ◌∷◌, drop, Option, Some, None, Result, Ok, Err, inl, inr, refl, sym, ap, subst, ◌∙◌, arith}
use Rattle.std.specs.Prelude.{nat_lt, slice_get, filter}
use Rattle.std.proofs.lemmas.Bool.{cond_both, ltb-true}
use Rattle.ds_base.specs.declared.names.PageId.{PageId}
use Rattle.ds_model.specs.declared.log.LogRecord.{LogRecord}
use Rattle.ds_model.specs.RecordBytes.{IsAllowed}
use Rattle.page_format.specs.Fields.{is_old, renewed}
use Rattle.page_format.specs.declared.header.NotAPage.{NotAPage}
use Rattle.log_record.specs.declared.log.Log.{Log}
use Rattle.log_trans.specs.Numbers.{greatest}
use Rattle.log_merge.specs.Merging.{all_records}
use Rattle.restart_plan.specs.declared.opened.Closing.{Closing}
use Rattle.restart_plan.specs.declared.opened.Undo.{Undo}
use Rattle.restart_plan.specs.Ends.{end_of}
use Rattle.group_restart.specs.declared.stage.Stage.TheVariants as stage
use Rattle.group_restart.specs.Machine.{Restart}
use Rattle.group_restart.specs.Records.{ended, checkpoint, restart_end, compensation, ending}
use Rattle.group_restart.specs.Undo.{undo_fault, undoing}
use Rattle.group_restart.specs.Renewal.{first_page, last_behind, page_behind}
use Rattle.group_restart.specs.Course.{Next, go, with_plan, rest_closings, rest_undo, rest_endings, ending_or, next_ending, renewal_or, next_renewal, begin_renewal, undo_or, next_undo, closing_or, next_closing, too_few_numbers, has_numbers, numbered, counted, begin_undo, undone, undo_at, undo_unless, undo_one, undo_first, take_undone, renew_page, looked_at, take_old, appended}
use Rattle.sound_disk.specs.Laws.{last_number}
use Rattle.sound_appends.specs.Appends.{AppendsAll}
use Rattle.sound_plans.specs.Queues.{has_log, records_for, CanClose, ClosingsFit, is_of, QueueFits}
use Rattle.sound_plans.specs.Courses.{Owes, OwesNothing, EndingGoes, IsDue, writes_of, UndoBegins, ClosingGoes, UndoGoes, PagesGo}
use Rattle.sound_plans.specs.Ends.{ToEnd, EndAll}
use Rattle.sound_plans.specs.Opens.{course_of}
use Rattle.sound_plans.proofs.Logs.{put_record, has_still, records_own, greatest_put, PutIs, put_is_at}
use Rattle.sound_plans.proofs.Closings.{last_of_member, last_with, closes, all_close_still, same_undo}
use Rattle.sound_plans.proofs.Ends_put.{all_stay, closed_put, undone_put, last_put}
use Rattle.sound_plans.proofs.Queues.{head_of, first_queue, undoes, ends, fits_behind, fits_ended, fits_put}

-- ---- the stages from the last one to the first

ending_due : (ts : ToEnd) (logs : List Log) (h : Restart) (next : Option ℕ) → OwesNothing ts h.plan.undo h.counter logs → IsDue ts (ending_or h next) logs
ending_due ts logs h None o = λ e. absurd cc
ending_due ts logs h (Some member) o = λ e. record { added_is = refl; rest = o }

next_ending_due : (ts : ToEnd) (logs : List Log) (h : Restart) → OwesNothing ts h.plan.undo h.counter logs → IsDue ts (next_ending h) logs
unfolding next_ending
next_ending_due ts logs h o = ending_due ts logs (with_plan h (rest_endings h.plan)) (slice_get h.plan.endings 0) o

renewal_due : (ts : ToEnd) (logs : List Log) (h : Restart) (next : Option PageId) → OwesNothing ts h.plan.undo h.counter logs → IsDue ts (renewal_or h next) logs
renewal_due ts logs h None o = next_ending_due ts logs h o
renewal_due ts logs h (Some page) o = λ e. o

next_renewal_due : (ts : ToEnd) (logs : List Log) (h : Restart) (page : PageId) → OwesNothing ts h.plan.undo h.counter logs → IsDue ts (next_renewal h page) logs
unfolding next_renewal
next_renewal_due ts logs h page o = renewal_due ts logs h (page_behind h.last page) o

begin_renewal_due : (ts : ToEnd) (logs : List Log) (h : Restart) → OwesNothing ts h.plan.undo h.counter logs → IsDue ts (begin_renewal h) logs
unfolding begin_renewal
begin_renewal_due ts logs h o = cond_both h.renews (go h (stage.RenewRead first_page)) (next_ending h) (λ (n : Next). IsDue ts n logs) (λ e. λ is. o) (λ e. next_ending_due ts logs h o)

none_first : (us : List Undo) → slice_get us 0 ≡ None → us ≡ []
none_first [] e = refl
none_first (x ∷ us) e = absurd cc

undo_due : (ts : ToEnd) (logs : List Log) (h : Restart) (next : Option Undo) → slice_get h.plan.undo 0 ≡ next → Owes ts [] h.plan.undo h.counter logs → IsDue ts (undo_or h next) logs
undo_due ts logs h None is o = begin_renewal_due ts logs h (record { owes = o; none = none_first h.plan.undo is })
undo_due ts logs h (Some u) is o = λ e. o

next_undo_due : (ts : ToEnd) (logs : List Log) (h : Restart) → Owes ts [] h.plan.undo h.counter logs → IsDue ts (next_undo h) logs
unfolding next_undo
next_undo_due ts logs h o = undo_due ts logs h (slice_get h.plan.undo 0) refl o

-- ---- closings

first_closing : (logs : List Log) (cs : List Closing) (c : Closing) → ClosingsFit logs cs → slice_get cs 0 ≡ Some c → CanClose logs c
first_closing logs [] c h e = absurd cc
first_closing logs (x ∷ cs) c h e = let same : x ≡ c = cc in subst (CanClose logs) same h.0

rest_close : (logs : List Log) (cs : List Closing) → ClosingsFit logs cs → ClosingsFit logs (drop 1 cs)
rest_close logs [] h = tt
rest_close logs (x ∷ cs) h = h.1

pub none_to_close : (cs : List Closing) → slice_get cs 0 ≡ None → cs ≡ []
none_to_close [] e = refl
none_to_close (x ∷ cs) e = absurd cc

pub some_to_close : (cs : List Closing) (c : Closing) → slice_get cs 0 ≡ Some c → cs ≡ c ∷ drop 1 cs
some_to_close [] c e = absurd cc
some_to_close (x ∷ cs) c e = let same : x ≡ c = cc in ap (λ (d : Closing). d ∷ cs) same

-- the first of these is taken out of the list
closing_due : (ts : ToEnd) (logs : List Log) (h : Restart) (all : List Closing) (next : Option Closing) → slice_get all 0 ≡ next → h.plan.closings ≡ drop 1 all → ((c : Closing) → next ≡ Some c → CanClose logs c) → ClosingsFit logs h.plan.closings
    → Owes ts all h.plan.undo h.counter logs → IsDue ts (closing_or h next) logs
closing_due ts logs h all None is left first rest o = next_undo_due ts logs h (subst (λ (cs : List Closing). Owes ts cs h.plan.undo h.counter logs) (none_to_close all is) o)
closing_due ts logs h all (Some c) is left first rest o =
    let owes : Owes ts (c ∷ h.plan.closings) h.plan.undo h.counter logs = subst (λ (cs : List Closing). Owes ts cs h.plan.undo h.counter logs) (some_to_close all c is ∙ ap (λ (cs : List Closing). c ∷ cs) (sym left)) o in
    λ e. record { closing = c; member_is = refl; added_is = refl; can = first c refl; rest = rest; owes = owes }

next_closing_due : (ts : ToEnd) (logs : List Log) (h : Restart) → ClosingsFit logs h.plan.closings → Owes ts h.plan.closings h.plan.undo h.counter logs → IsDue ts (next_closing h) logs
unfolding next_closing
next_closing_due ts logs h fits o =
    closing_due ts logs (with_plan h (rest_closings h.plan)) h.plan.closings (slice_get h.plan.closings 0) refl refl (λ c e. first_closing logs h.plan.closings c fits e) (rest_close logs h.plan.closings fits) o

numbered_due : (ts : ToEnd) (logs : List Log) (h : Restart) → ClosingsFit logs h.plan.closings → Owes ts h.plan.closings h.plan.undo h.counter logs → IsDue ts (numbered h) logs
numbered_due ts logs h fits o = cond_both (has_numbers h) (next_closing h) (too_few_numbers h) (λ (n : Next). IsDue ts n logs) (λ e. next_closing_due ts logs h fits o) (λ e. λ is. absurd cc)

pub undo_begins : UndoBegins
unfolding begin_undo
undo_begins ts h logs fits queue number ends = numbered_due ts logs (counted h) fits (record { queue = queue; number = number; ends = ends })

-- ---- undo

undone_due : (ts : ToEnd) (logs : List Log) (h : Restart) (u : Undo) (lrsn : ℕ) → QueueFits logs (u ∷ h.plan.undo) → lrsn ≡ greatest (all_records logs) + 1 → lrsn < 2 ^ 80 → EndAll ts [] (u ∷ h.plan.undo) logs → IsDue ts (undone h u lrsn) logs
unfolding undone
undone_due ts logs h u lrsn queue number small ends = λ e. record { first = u; member_is = refl; added_is = refl; queue = queue; number = number; small = small; ends = ends }

undo_at_due : (ts : ToEnd) (logs : List Log) (h : Restart) (u : Undo) (lrsn : ℕ) → QueueFits logs (u ∷ h.plan.undo) → lrsn ≡ greatest (all_records logs) + 1 → EndAll ts [] (u ∷ h.plan.undo) logs → IsDue ts (undo_at h u lrsn) logs
undo_at_due ts logs h u lrsn queue number ends =
    cond_both (nat_lt lrsn (2 ^ 80)) (undone h u lrsn) (too_few_numbers h) (λ (n : Next). IsDue ts n logs) (λ e. undone_due ts logs h u lrsn queue number (ltb-true lrsn (2 ^ 80) e) ends) (λ e. λ is. absurd cc)

undo_unless_due : (ts : ToEnd) (logs : List Log) (h : Restart) (u : Undo) (fault : Option ℕ) → QueueFits logs (u ∷ h.plan.undo) → h.counter ≡ greatest (all_records logs) → EndAll ts [] (u ∷ h.plan.undo) logs → IsDue ts (undo_unless h u fault) logs
undo_unless_due ts logs h u (Some at) queue number ends = λ e. absurd cc
undo_unless_due ts logs h u None queue number ends = undo_at_due ts logs h u (h.counter + 1) queue (ap (λ (n : ℕ). n + 1) number) ends

undo_one_due : (ts : ToEnd) (logs : List Log) (h : Restart) (u : Undo) → QueueFits logs (u ∷ h.plan.undo) → h.counter ≡ greatest (all_records logs) → EndAll ts [] (u ∷ h.plan.undo) logs → IsDue ts (undo_one h u) logs
unfolding undo_one
undo_one_due ts logs h u queue number ends = undo_unless_due ts logs h u (undo_fault u.change h.page) queue number ends

none_rest : (us : List Undo) → slice_get us 0 ≡ None → drop 1 us ≡ []
none_rest [] e = refl
none_rest (x ∷ us) e = absurd cc

some_undos : (us : List Undo) (u : Undo) → slice_get us 0 ≡ Some u → us ≡ u ∷ drop 1 us
some_undos [] u e = absurd cc
some_undos (x ∷ us) u e = let same : x ≡ u = cc in ap (λ (v : Undo). v ∷ us) same

undo_first_due : (ts : ToEnd) (logs : List Log) (h : Restart) (all : List Undo) (next : Option Undo) → slice_get all 0 ≡ next → h.plan.undo ≡ drop 1 all → Owes ts [] all h.counter logs → IsDue ts (undo_first h next) logs
undo_first_due ts logs h all None e rest o =
    let empty : all ≡ [] = none_first all e in
    let left : h.plan.undo ≡ [] = rest ∙ none_rest all e in
    begin_renewal_due ts logs h (record { owes = subst (λ (us : List Undo). Owes ts [] us h.counter logs) (empty ∙ sym left) o; none = left })
undo_first_due ts logs h all (Some u) e rest o =
    let owes : Owes ts [] (u ∷ h.plan.undo) h.counter logs = subst (λ (us : List Undo). Owes ts [] us h.counter logs) (some_undos all u e ∙ ap (λ (us : List Undo). u ∷ us) (sym rest)) o in
    undo_one_due ts logs h u owes.queue owes.number owes.ends

take_undone_due : (ts : ToEnd) (logs : List Log) (h : Restart) → Owes ts [] h.plan.undo h.counter logs → IsDue ts (take_undone h) logs
unfolding take_undone
take_undone_due ts logs h o = undo_first_due ts logs (with_plan h (rest_undo h.plan)) h.plan.undo (slice_get h.plan.undo 0) refl refl o

renew_page_due : (ts : ToEnd) (logs : List Log) (h : Restart) (page : PageId) → OwesNothing ts h.plan.undo h.counter logs → IsDue ts (renew_page h page) logs
unfolding renew_page
renew_page_due ts logs h page o = cond_both (is_old h.page) (go (record h { page = renewed h.page }) (stage.RenewWrite page)) (next_renewal h page) (λ (n : Next). IsDue ts n logs) (λ e. λ is. o) (λ e. next_renewal_due ts logs h page o)

looked_at_due : (ts : ToEnd) (logs : List Log) (h : Restart) (page : PageId) (last : Result ℕ NotAPage) → OwesNothing ts h.plan.undo h.counter logs → IsDue ts (looked_at h page last) logs
looked_at_due ts logs h page (Err fault) o = λ e. absurd cc
looked_at_due ts logs h page (Ok last) o = renew_page_due ts logs (record h { last = last }) page o

take_old_due : (ts : ToEnd) (logs : List Log) (h : Restart) (page : PageId) → OwesNothing ts h.plan.undo h.counter logs → IsDue ts (take_old h page) logs
unfolding take_old
take_old_due ts logs h page o = looked_at_due ts logs h page (last_behind h.last page h.page) o

pub pages_go : PagesGo
pages_go = record {
  undo_read = λ ts h page logs o. take_undone_due ts logs h o;
  undo_write = λ ts h page logs o. next_undo_due ts logs h o;
  renew_read = λ ts h page logs o. take_old_due ts logs h page o;
  renew_write = λ ts h page logs o. next_renewal_due ts logs h page o;
}

-- ---- appends

pub owes_behind : (ts : ToEnd) (logs : List Log) (c : Closing) (cs : List Closing) (us : List Undo) (counter : ℕ) → CanClose logs c → Owes ts (c ∷ cs) us counter logs → Owes ts cs us counter (put_record logs c.member (ended c.lrsn c.tran))
owes_behind ts logs c cs us counter can o =
    let last = last_of_member logs c.member (ended c.lrsn c.tran) can.has in
    let top = greatest_put logs c.member (ended c.lrsn c.tran) can.has in
    let number = can.number in
    let same = o.number in
    record { queue = fits_ended logs c.member c.lrsn c.tran us can.has o.queue; number = omega (arith, last, top, number, same); ends = closed_put ts c cs us logs can.has o.ends }

pub closing_goes : ClosingGoes
closing_goes ts h member logs d =
    let c = d.closing in
    let after = put_record logs c.member (ended c.lrsn c.tran) in
    let p = closes logs c d.can in
    let writes : (c.member, ended c.lrsn c.tran) ∷ [] ≡ writes_of member h.added = ap (λ (m : ℕ). writes_of m (ended c.lrsn c.tran ∷ [])) (sym d.member_is) ∙ ap (writes_of member) (sym d.added_is) in (
      after,
      subst (λ (ws : List (ℕ × LogRecord)). AppendsAll logs ws after) writes (after, p.appends, p.member_is, refl),
      next_closing_due ts after (appended h member) (all_close_still logs c h.plan.closings d.can d.rest) (owes_behind ts logs c h.plan.closings h.plan.undo h.counter d.can d.owes),
    )

-- behind the compensation, and the Ended where it is the last
record Undone (ts : ToEnd) (logs : List Log) (u : Undo) (us : List Undo) (n : ℕ) (records : List LogRecord) : Type 0 where
  after : List Log
  appends : AppendsAll logs (writes_of u.member records) after
  owes : Owes ts [] us n after

undo_done : (ts : ToEnd) (logs : List Log) (u : Undo) (us : List Undo) (n : ℕ) → QueueFits logs (u ∷ us) → n ≡ greatest (all_records logs) + 1 → n < 2 ^ 80 → EndAll ts [] (u ∷ us) logs → Undone ts logs u us n (undoing u n)
undo_done ts logs u us n fits e small left =
    let q = first_queue logs u us fits in
    let rest = filter (is_of u.member u.tran) us in
    let h = head_of u.member u.tran u rest (course_of (records_for logs u.member) u.tran) q.own q.is in
    let p : PutIs logs u.member (compensation u n) = subst (λ (k : ℕ). PutIs logs u.member (compensation u k)) (sym e) (undoes logs u rest q h (subst (λ (k : ℕ). k < 2 ^ 80) e small)) in
    let mid = put_record logs u.member (compensation u n) in
    let top = greatest_put logs u.member (compensation u n) q.has in
    let fits_mid = fits_behind logs u us n fits in
    let has_mid : has_log mid u.member ≡ true = has_still logs u.member (compensation u n) u.member ∙ q.has in
    cond_both u.is_last (ended n u.tran ∷ []) [] (λ (rs : List LogRecord). Undone ts logs u us n (compensation u n ∷ rs))
    (λ last.
    let behind = put_record mid u.member (ended n u.tran) in
    let r = ends logs u rest n q h last e small in
    let top_behind = greatest_put mid u.member (ended n u.tran) has_mid in
    record {
      after = behind;
      appends = (mid, p.appends, p.member_is, (behind, r.appends, r.member_is, refl));
      owes = record { queue = fits_ended mid u.member n u.tran us has_mid fits_mid; number = omega (arith, e, top, top_behind); ends = last_put ts u us n logs q.has left };
    })
    (λ more. record {
      after = mid;
      appends = (mid, p.appends, p.member_is, refl);
      owes = record { queue = fits_mid; number = omega (arith, e, top); ends = undone_put ts u us n logs q.has fits more left };
    })

pub undo_goes : UndoGoes
undo_goes ts h member page logs d =
    let done = undo_done ts logs d.first h.plan.undo h.counter d.queue d.number d.small d.ends in
    let writes : writes_of d.first.member (undoing d.first h.counter) ≡ writes_of member h.added = ap (λ (m : ℕ). writes_of m (undoing d.first h.counter)) (sym d.member_is) ∙ ap (writes_of member) (sym d.added_is) in (
      done.after,
      subst (λ (ws : List (ℕ × LogRecord)). AppendsAll logs ws done.after) writes done.appends,
      λ e. done.owes,
    )

-- ---- the ends of logs

pub ending_goes : EndingGoes
ending_goes ts h member logs d has end allowed =
    let counter = h.counter in
    let at = end_of h.plan.ends member in
    let e = d.rest.owes.number in
    let both : AllByRecursion IsAllowed (ending counter at) = subst (AllByRecursion IsAllowed) d.added_is allowed in
    let first = checkpoint counter at in
    let second = restart_end counter in
    let last = last_of_member logs member first has in
    let begun = put_record logs member first in
    let top = greatest_put logs member first has in
    let begins : PutIs logs member first = put_is_at logs member first has both.0 (λ log is size. (
      record {
        low = let k : last_number 0 log.records ≡ last_number 0 (records_for logs member) = ap (last_number 0) is in omega (arith, k, last, e);
        high = omega (arith, e);
      },
      end ∙ sym size,
    )) in
    let has_begun : has_log begun member ≡ true = has_still logs member first member ∙ has in
    let low : last_number 0 (records_for begun member) ≡ counter = ap (last_number 0) (records_own logs member first has) ∙ last_with 0 (records_for logs member) first in
    let closes_it : PutIs begun member second = put_is_at begun member second has_begun both.1.0 (λ log is size. record {
      low = let k : last_number 0 log.records ≡ counter = ap (last_number 0) is ∙ low in omega (arith, k);
      high = omega (arith, e, top);
    }) in
    let top_behind = greatest_put begun member second has_begun in
    let after = put_record begun member second in
    let fits : QueueFits begun h.plan.undo = fits_put logs member first h.plan.undo has (λ c. same_undo c) d.rest.owes.queue in
    let ended_all : EndAll ts [] h.plan.undo after = all_stay ts [] h.plan.undo begun member second has_begun (inl refl) (all_stay ts [] h.plan.undo logs member first has (inr (refl, d.rest.none)) d.rest.owes.ends) in
    let fits_behind_all : QueueFits after h.plan.undo = fits_put begun member second h.plan.undo has_begun (λ c. same_undo c) fits in (
      after,
      subst (λ (rs : List LogRecord). AppendsAll logs (writes_of member rs) after) (sym d.added_is) (begun, begins.appends, begins.member_is, (after, closes_it.appends, closes_it.member_is, refl)),
      next_ending_due ts after (appended h member) (record { owes = record { queue = fits_behind_all; number = omega (arith, e, top, top_behind); ends = ended_all }; none = d.rest.none }),
    )
