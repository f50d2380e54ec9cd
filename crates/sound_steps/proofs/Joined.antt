-- The parts of the course follow one another: cuts, redo, undo, the renewal of pages, and the ends of logs.
use Rattle.std.proofs.Common.{◌≡◌, ℕ, true, false, List, Option, Some, None, Result, Ok, Err, inl, inr, refl, sym, ap, subst, ◌∙◌}
use Rattle.std.specs.Prelude.{◌⊎◌, slice_get}
use Rattle.std.proofs.lemmas.Bool.{both_ways, cases_Bool, cond_both}
use Rattle.ds_base.specs.declared.names.PageId.{PageId}
use Rattle.ds_base.specs.declared.names.Volume.{Volume}
use Rattle.ds_base.specs.declared.names.Volume.TheVariants as volume
use Rattle.ds_disk.specs.Contents.{Contents}
use Rattle.ds_disk.specs.Pages.{page_at}
use Rattle.log_record.specs.declared.log.Log.{Log}
use Rattle.page_format.specs.Fields.{is_old, renewed}
use Rattle.page_format.specs.declared.header.NotAPage.{NotAPage}
use Rattle.restart_plan.specs.declared.plan.Plan.{Plan}
use Rattle.group_restart.specs.declared.calls.State.TheVariants as state
use Rattle.group_restart.specs.declared.stage.Stage.{Stage}
use Rattle.group_restart.specs.declared.stage.Stage.TheVariants as stage
use Rattle.group_restart.specs.Machine.{Restart}
use Rattle.group_restart.specs.Disk.{with_page as with_hand}
use Rattle.group_restart.specs.Renewal.{first_page, last_behind, page_behind}
use Rattle.group_restart.specs.Course.{Next, go, with_plan, rest_endings, ending_or, next_ending, renewal_or, next_renewal, begin_renewal, next_tail, renew_page, looked_at, take_old, take_done}
use Rattle.sound_plans.specs.Courses.{OwesNothing}
use Rattle.sound_plans.specs.Ends.{ToEnd}
use Rattle.sound_disk.specs.Versions.{current, last_images}
use Rattle.sound_restarts.specs.Redo.{IsSoundNow, with_page}
use Rattle.sound_restarts.specs.Renewal.{RenewIn, RenewLeads, RenewalBegins, RenewalReads, RenewalWrites}
use Rattle.sound_courses.specs.Standing.{NoneIsOld, Rests}
use Rattle.sound_courses.specs.Undoing.{UndoIn, UndoLeads, UndoBegins}
use Rattle.sound_courses.specs.Ending.{EndIn, EndLeads, EndingBegins}
use Rattle.sound_courses.specs.Bringing.{BringIn, BringLeads, CutsBegin}
use Rattle.sound_restarts.proofs.Brought.{current_new, current_old}
use Rattle.sound_restarts.proofs.Page_writes.{put_has}
use Rattle.sound_courses.proofs.Standing.{rests_as}
use Rattle.sound_courses.proofs.Written.{renewed_new}
use Rattle.sound_steps.specs.Whole.{Renewing, SoundIn, SoundLeads, CourseBegins}

-- what is proved of the parts
pub record PartLaws : Type 0 where
  pub cuts : CutsBegin
  pub undo : UndoBegins
  pub renewal : RenewalBegins
  pub reads : RenewalReads
  pub writes : RenewalWrites
  pub ending : EndingBegins

-- ---- the ends of logs

ends_in : (ts : ToEnd) (st : Stage) (p : Plan) (h : Restart) (c : Contents) (logs : List Log) → EndIn ts st h c logs → SoundIn ts st p h c logs
ends_in ts stage.ReadLog p h c logs i = absurd i
ends_in ts (stage.CutTail tail) p h c logs i = absurd i
ends_in ts (stage.RedoRead page) p h c logs i = absurd i
ends_in ts (stage.RedoWrite page) p h c logs i = absurd i
ends_in ts (stage.CloseAppend member) p h c logs i = absurd i
ends_in ts (stage.UndoRead page) p h c logs i = absurd i
ends_in ts (stage.UndoAppend member page) p h c logs i = absurd i
ends_in ts (stage.UndoWrite page) p h c logs i = absurd i
ends_in ts (stage.RenewRead page) p h c logs i = absurd i
ends_in ts (stage.RenewWrite page) p h c logs i = absurd i
ends_in ts (stage.EndAppend member) p h c logs i = i
ends_in ts stage.End p h c logs i = absurd i

pub end_joins : (ts : ToEnd) (n : Next) (p : Plan) (c : Contents) (logs : List Log) → EndLeads ts n c logs → SoundLeads ts n p c logs
end_joins ts n p c logs (inl g) = inl (g.0, ends_in ts n.0.stage p n.0 c logs g.1)
end_joins ts n p c logs (inr e) = inr e

-- ---- the renewal leaves the plan and the counter

pub record IsSameBut (h k : Restart) : Type 0 where
  pub plan : h.plan ≡ k.plan
  pub counter : h.counter ≡ k.counter
  pub renews : h.renews ≡ k.renews

-- a page is looked at or written
abbrev IsRenewal : Stage → Type 0
IsRenewal stage.ReadLog = ⊥
IsRenewal (stage.CutTail tail) = ⊥
IsRenewal (stage.RedoRead page) = ⊥
IsRenewal (stage.RedoWrite page) = ⊥
IsRenewal (stage.CloseAppend member) = ⊥
IsRenewal (stage.UndoRead page) = ⊥
IsRenewal (stage.UndoAppend member page) = ⊥
IsRenewal (stage.UndoWrite page) = ⊥
IsRenewal (stage.RenewRead page) = Unit {0}
IsRenewal (stage.RenewWrite page) = Unit {0}
IsRenewal (stage.EndAppend member) = ⊥
IsRenewal stage.End = ⊥

-- such is the next stage
record GoesSame (h : Restart) (n : Next) : Type 0 where
  renewal : IsRenewal n.0.stage
  same : IsSameBut h n.0

-- or logs are ended
record EndsSame (h : Restart) (n : Next) : Type 0 where
  behind : Restart
  goes : n ≡ next_ending behind
  same : IsSameBut h behind

-- or damage is named
record IsDamaged (n : Next) : Type 0 where
  on : Volume
  byte : ℕ
  tells : n.1 ≡ state.Damaged on byte

abbrev Turns : Restart → Next → Type 0
Turns h n = GoesSame h n ⊎ (EndsSame h n ⊎ IsDamaged n)

same_self : (h : Restart) → IsSameBut h h
same_self h = record { plan = refl; counter = refl; renews = refl }

renewal_turns : (h k : Restart) (next : Option PageId) → IsSameBut h k → Turns h (renewal_or k next)
renewal_turns h k None s = inr (inl (record { behind = k; goes = refl; same = s }))
renewal_turns h k (Some page) s = inl (record { renewal = tt; same = record { plan = s.plan; counter = s.counter; renews = s.renews } })

next_turns : (h k : Restart) (page : PageId) → IsSameBut h k → Turns h (next_renewal k page)
unfolding next_renewal
next_turns h k page s = renewal_turns h k (page_behind k.last page) s

begin_turns : (h : Restart) → Turns h (begin_renewal h)
unfolding begin_renewal
begin_turns h =
    cond_both h.renews (go h (stage.RenewRead first_page)) (next_ending h) (Turns h)
    (λ _. inl (record { renewal = tt; same = record { plan = refl; counter = refl; renews = refl } }))
    (λ _. inr (inl (record { behind = h; goes = refl; same = same_self h })))

page_turns : (h k : Restart) (page : PageId) → IsSameBut h k → Turns h (renew_page k page)
unfolding renew_page
page_turns h k page s =
    cond_both (is_old k.page) (go (record k { page = renewed k.page }) (stage.RenewWrite page)) (next_renewal k page) (Turns h)
    (λ _. inl (record { renewal = tt; same = record { plan = s.plan; counter = s.counter; renews = s.renews } }))
    (λ _. next_turns h k page s)

looked_turns : (h k : Restart) (page : PageId) (last : Result ℕ NotAPage) → IsSameBut h k → Turns h (looked_at k page last)
looked_turns h k page (Err fault) s = inr (inr (record { on = volume.Page page; byte = fault.at; tells = refl }))
looked_turns h k page (Ok last) s = page_turns h (record k { last = last }) page (record { plan = s.plan; counter = s.counter; renews = s.renews })

old_turns : (h k : Restart) (page : PageId) → IsSameBut h k → Turns h (take_old k page)
unfolding take_old
old_turns h k page s = looked_turns h k page (last_behind k.last page k.page) s

-- ---- the ends of logs are no renewal, and name no damage

abbrev EndsOnly : Next → Type 0
EndsOnly n = (IsRenewal n.0.stage → ⊥) × ((on : Volume) (byte : ℕ) → n.1 ≡ state.Damaged on byte → ⊥)

ending_only : (k : Restart) (next : Option ℕ) → EndsOnly (ending_or k next)
ending_only k None = (λ i. i, λ on byte e. cc)
ending_only k (Some m) = (λ i. i, λ on byte e. cc)

next_only : (k : Restart) → EndsOnly (next_ending k)
unfolding next_ending
next_only k = ending_only (with_plan k (rest_endings k.plan)) (slice_get k.plan.endings 0)

is_renewal : (st : Stage) (h : Restart) (c : Contents) (logs : List Log) → RenewIn st h c logs → IsRenewal st
is_renewal stage.ReadLog h c logs i = absurd i
is_renewal (stage.CutTail tail) h c logs i = absurd i
is_renewal (stage.RedoRead page) h c logs i = absurd i
is_renewal (stage.RedoWrite page) h c logs i = absurd i
is_renewal (stage.CloseAppend member) h c logs i = absurd i
is_renewal (stage.UndoRead page) h c logs i = absurd i
is_renewal (stage.UndoAppend member page) h c logs i = absurd i
is_renewal (stage.UndoWrite page) h c logs i = absurd i
is_renewal (stage.RenewRead page) h c logs i = tt
is_renewal (stage.RenewWrite page) h c logs i = tt
is_renewal (stage.EndAppend member) h c logs i = absurd i
is_renewal stage.End h c logs i = absurd i

renews_in : (ts : ToEnd) (st : Stage) (p : Plan) (h : Restart) (c : Contents) (logs : List Log) → RenewIn st h c logs → Rests h c logs → OwesNothing ts h.plan.undo h.counter logs → SoundIn ts st p h c logs
renews_in ts stage.ReadLog p h c logs i r o = absurd i
renews_in ts (stage.CutTail tail) p h c logs i r o = absurd i
renews_in ts (stage.RedoRead page) p h c logs i r o = absurd i
renews_in ts (stage.RedoWrite page) p h c logs i r o = absurd i
renews_in ts (stage.CloseAppend member) p h c logs i r o = absurd i
renews_in ts (stage.UndoRead page) p h c logs i r o = absurd i
renews_in ts (stage.UndoAppend member page) p h c logs i r o = absurd i
renews_in ts (stage.UndoWrite page) p h c logs i r o = absurd i
renews_in ts (stage.RenewRead page) p h c logs i r o = record { renews = i; rests = r; nothing = o }
renews_in ts (stage.RenewWrite page) p h c logs i r o = record { renews = i; rests = r; nothing = o }
renews_in ts (stage.EndAppend member) p h c logs i r o = absurd i
renews_in ts stage.End p h c logs i r o = absurd i

-- ---- the renewal

nothing_as : (ts : ToEnd) (h k : Restart) (logs : List Log) → IsSameBut h k → OwesNothing ts h.plan.undo h.counter logs → OwesNothing ts k.plan.undo k.counter logs
nothing_as ts h k logs s o = subst (λ (n : ℕ). OwesNothing ts k.plan.undo n logs) s.counter (subst (λ (p : Plan). OwesNothing ts p.undo h.counter logs) s.plan o)

same_rests : (h k : Restart) (c : Contents) (logs : List Log) → IsSameBut h k → Rests h c logs → Rests k c logs
same_rests h k c logs s r = rests_as h k c logs (ap (λ (p : Plan). p.ends) s.plan) (ap (λ (p : Plan). p.endings) s.plan) s.renews r

-- its calls leave the rest of the restart as it was
renew_joins : PartLaws → (ts : ToEnd) (h : Restart) (n : Next) (p : Plan) (c : Contents) (logs : List Log) → Turns h n → RenewLeads n c logs → Rests h c logs → OwesNothing ts h.plan.undo h.counter logs → SoundLeads ts n p c logs
renew_joins l ts h n p c logs (inl t) (inl g) r o = inl (g.0, renews_in ts n.0.stage p n.0 c logs g.1 (same_rests h n.0 c logs t.same r) (nothing_as ts h n.0 logs t.same o))
renew_joins l ts h n p c logs (inl t) (inr e) r o = absurd ((subst EndsOnly (sym e.goes) (next_only e.behind)).0 t.renewal)
renew_joins l ts h n p c logs (inr (inl t)) (inl g) r o = absurd ((subst EndsOnly (sym t.goes) (next_only t.behind)).0 (is_renewal n.0.stage n.0 c logs g.1))
renew_joins l ts h n p c logs (inr (inl t)) (inr e) r o =
    end_joins ts n p c logs (subst (λ (m : Next). EndLeads ts m c logs) (sym t.goes) (l.ending ts t.behind c logs (record { rests = same_rests h t.behind c logs t.same r; nothing = nothing_as ts h t.behind logs t.same o; new = e.new })))
renew_joins l ts h n p c logs (inr (inr t)) (inl g) r o = absurd (let e : state.Going ≡ state.Damaged t.on t.byte = sym g.0 ∙ t.tells in let no : ⊥ = cc in no)
renew_joins l ts h n p c logs (inr (inr t)) (inr e) r o = absurd ((subst EndsOnly (sym e.goes) (next_only e.behind)).1 t.on t.byte t.tells)

-- ---- the undo

undo_in : (ts : ToEnd) (st : Stage) (p : Plan) (h : Restart) (c : Contents) (logs : List Log) → UndoIn ts st h c logs → SoundIn ts st p h c logs
undo_in ts stage.ReadLog p h c logs i = absurd i
undo_in ts (stage.CutTail tail) p h c logs i = absurd i
undo_in ts (stage.RedoRead page) p h c logs i = absurd i
undo_in ts (stage.RedoWrite page) p h c logs i = absurd i
undo_in ts (stage.CloseAppend member) p h c logs i = i
undo_in ts (stage.UndoRead page) p h c logs i = i
undo_in ts (stage.UndoAppend member page) p h c logs i = i
undo_in ts (stage.UndoWrite page) p h c logs i = i
undo_in ts (stage.RenewRead page) p h c logs i = absurd i
undo_in ts (stage.RenewWrite page) p h c logs i = absurd i
undo_in ts (stage.EndAppend member) p h c logs i = absurd i
undo_in ts stage.End p h c logs i = absurd i

-- a page of version 1 is there only where they are looked for
asked : (h : Restart) (c : Contents) → (h.renews ≡ false → NoneIsOld c) → (id : PageId) → is_old (page_at c.pages id) ≡ true → h.renews ≡ true
asked h c none id old = elim (cases_Bool h.renews) as (λ _. h.renews ≡ true) [
  | inl looks ↦ looks
  | inr idle ↦ absurd (both_ways (is_old (page_at c.pages id)) (none idle id) old)
]

pub undo_joins : PartLaws → (ts : ToEnd) (n : Next) (p : Plan) (c : Contents) (logs : List Log) → UndoLeads ts n c logs → SoundLeads ts n p c logs
undo_joins l ts n p c logs (inl g) = inl (g.0, undo_in ts n.0.stage p n.0 c logs g.1)
undo_joins l ts n p c logs (inr u) =
    subst (λ (m : Next). SoundLeads ts m p c logs) (sym u.goes)
    (renew_joins l ts u.behind (begin_renewal u.behind) p c logs (begin_turns u.behind)
    (l.renewal u.behind c logs u.rests.stands.sound.now u.rests.last (asked u.behind c u.rests.stands.renews)) u.rests u.nothing)

-- ---- cuts and redo

bring_in : (ts : ToEnd) (st : Stage) (p : Plan) (h : Restart) (c : Contents) (logs : List Log) → BringIn ts st p h c logs → SoundIn ts st p h c logs
bring_in ts stage.ReadLog p h c logs i = absurd i
bring_in ts (stage.CutTail tail) p h c logs i = i
bring_in ts (stage.RedoRead page) p h c logs i = i
bring_in ts (stage.RedoWrite page) p h c logs i = i
bring_in ts (stage.CloseAppend member) p h c logs i = absurd i
bring_in ts (stage.UndoRead page) p h c logs i = absurd i
bring_in ts (stage.UndoAppend member page) p h c logs i = absurd i
bring_in ts (stage.UndoWrite page) p h c logs i = absurd i
bring_in ts (stage.RenewRead page) p h c logs i = absurd i
bring_in ts (stage.RenewWrite page) p h c logs i = absurd i
bring_in ts (stage.EndAppend member) p h c logs i = absurd i
bring_in ts stage.End p h c logs i = absurd i

pub bring_joins : PartLaws → (ts : ToEnd) (n : Next) (p : Plan) (c : Contents) (logs : List Log) → BringLeads ts n p c logs → SoundLeads ts n p c logs
bring_joins l ts n p c logs (inl g) = inl (g.0, bring_in ts n.0.stage p n.0 c logs g.1)
bring_joins l ts n p c logs (inr b) = undo_joins l ts n p c logs (subst (λ (m : Next). UndoLeads ts m c logs) (sym b.goes) (l.undo ts b.behind c logs b.begins))

pub course_begins : PartLaws → CourseBegins
course_begins l ts p h c logs d = bring_joins l ts (next_tail h) p c logs (l.cuts ts p h c logs d)

-- ---- the calls of the renewal

pub renewal_reads : PartLaws → (ts : ToEnd) (h : Restart) (page : PageId) (p : Plan) (c : Contents) (logs : List Log) → Renewing ts (stage.RenewRead page) h c logs → SoundLeads ts (take_done (with_hand h (page_at c.pages page)) (stage.RenewRead page)) p c logs
renewal_reads l ts h page p c logs d =
    let k = with_hand h (page_at c.pages page) in
    renew_joins l ts h (take_done k (stage.RenewRead page)) p c logs (old_turns h k page (record { plan = refl; counter = refl; renews = refl })) (l.reads h page c logs d.renews) d.rests d.nothing

-- a page of version 1 is written as it was, in the version that is written
written_rests : (ts : ToEnd) (h : Restart) (page : PageId) (c : Contents) (logs : List Log) → Renewing ts (stage.RenewWrite page) h c logs → IsSoundNow (with_page c page h.page) logs → Rests h (with_page c page h.page) logs
written_rests ts h page c logs d now =
    let old = d.renews.old in
    let was = page_at c.pages page in
    let here : current h.page ≡ last_images logs page =
    ap current d.renews.hand_is ∙ current_new (renewed was) (renewed_new was old) ∙ sym (current_old was old) ∙ d.rests.last page in
    record {
      stands = record {
        sound = record { now = now; tails = d.rests.stands.sound.tails };
        ends = d.rests.stands.ends;
        endings = d.rests.stands.endings;
        renews = λ none. absurd (both_ways (is_old was) (d.rests.stands.renews none page) old);
      };
      last = λ id. put_has (λ (n : PageId) (q : List ℕ). current q ≡ last_images logs n) c page id h.page here (λ _. d.rests.last id);
    }

pub renewal_writes : PartLaws → (ts : ToEnd) (h : Restart) (page : PageId) (p : Plan) (c : Contents) (logs : List Log) → Renewing ts (stage.RenewWrite page) h c logs
    → IsSoundNow (with_page c page h.page) logs × SoundLeads ts (take_done h (stage.RenewWrite page)) p (with_page c page h.page) logs
renewal_writes l ts h page p c logs d =
    let w = l.writes h page c logs d.renews in
    (w.0, renew_joins l ts h (take_done h (stage.RenewWrite page)) p (with_page c page h.page) logs (next_turns h h page (same_self h)) w.1 (written_rests ts h page c logs d w.0) d.nothing)
