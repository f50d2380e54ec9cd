-- A page's lock that a member is granted: the member claims it in X, and the facility has retained it for nobody else.
use Rattle.std.proofs.Common.{◌≡◌, ℕ, refl, sym, ◌∙◌, ap, subst, Bool, true, false, Option, Some, None}
use Rattle.std.specs.Prelude.{is_some}
use Rattle.std.proofs.lemmas.Option.{same_Some}
use Rattle.ds_base.specs.declared.names.PageId.{PageId}
use Rattle.ds_model.specs.declared.lock.Name.{Name}
use Rattle.ds_model.specs.declared.lock.Name.TheVariants as name
use Rattle.lock_names.specs.declared.mode.Mode.{Mode}
use Rattle.lock_names.specs.declared.mode.Mode.TheVariants.{X}
use Rattle.lock_manager.specs.Claims.{joined}
use Rattle.lock_manager.specs.Managers.{held_by}
use Rattle.facility.specs.declared.command.Command.TheVariants as command
use Rattle.facility.specs.declared.command.Reply.{Reply}
use Rattle.facility.specs.declared.command.Reply.TheVariants as reply
use Rattle.facility.specs.LockCommands.{GrantsLock, ObtainsLock}
use Rattle.facility.specs.States.{Held as Facility}
use Rattle.member_intents.specs.declared.intent.Intent.{Intent}
use Rattle.member_intents.specs.declared.intent.Intent.TheVariants as intent
use Rattle.member_intents.specs.declared.outcome.Answered.{Answered}
use Rattle.member_intents.specs.declared.outcome.Answered.TheVariants as answered
use Rattle.member_intents.specs.declared.outcome.Sent.{Sent}
use Rattle.member_intents.specs.declared.outcome.Sent.TheVariants as sent
use Rattle.member_intents.specs.Cells.{cell_slot}
use Rattle.member_trans.specs.declared.fate.Owner.{Owner}
use Rattle.member_marks.specs.State.{MarksState}
use Rattle.member_marks.specs.Claims.{PageEntered, has_page, may_enter_page}
use Rattle.page_owners.specs.Given.{Happens, HasSpare, Held, Lawful, MayClaim, Plan, Reserves, Resources, Runs, SendsLawfully, Setting, SettlesClaims, Told, begun, holder_in, page_named, page_taken, setting_of}
use Rattle.page_owners.proofs.InX.{is_lawful, ran}
use Rattle.retained_pages.specs.Retained.{GrantsNone, ObtainsNone, Retains}

pub record Granted (f : Facility) (h k : Held) (p : PageId) : Type 0 where
  pub claimed : held_by k.marks.locks 0 (name.Page p) ≡ Some X
  pub alone : (q : ℕ) → Retains f q p → q ≡ h.marks.member

-- ---- it is entered in X
none_held : (o : Option Mode) → is_some o ≡ false → o ≡ None
none_held None e = refl
none_held (Some m) e = absurd (cc e)

entered_page : (b : Bool) (s t : MarksState) (p : PageId) → b ≡ true → PageEntered b s p t → has_page s p ≡ false → held_by t.locks 0 (name.Page p) ≡ Some X
entered_page true s t p so e none = e.0.mode ∙ ap (λ (o : Option Mode). Some (joined o X)) (none_held (held_by s.locks 0 (name.Page p)) none)
entered_page false s t p never e none = absurd (cc never)

named_page : (n : Name) (p : PageId) → page_named n ≡ Some p → n ≡ name.Page p
named_page (name.Space table) p e = absurd (cc e)
named_page (name.Row table key) p e = absurd (cc e)
named_page (name.Set set) p e = absurd (cc e)
named_page (name.Page q) p e = ap name.Page (same_Some q p e)

answered_same : (x y : Reply) → answered.Reply x ≡ answered.Reply y → x ≡ y
answered_same x y f = cc f

module _ (obtain : ObtainsNone) (grant : GrantsNone) (h ready k : Held) (u v : Resources) (s : Sent) (plan : Plan) (place version : ℕ) (a : Answered) (told : Told) (p : PageId) (is : a ≡ answered.Reply (reply.Granted version)) (none : has_page h.marks p ≡ false) where
  abbrev now : Held
  now = begun ready place

  claimed : (n : Name) (m : Mode) (o : Owner) (after : Held) (answer : Reply)
      → n ≡ name.Page p → MayClaim h.marks o n m → HasSpare h ready → a ≡ answered.Reply answer → after.marks ≡ now.marks → SettlesClaims after.marks o n m answer place k.marks → held_by k.marks.locks 0 (name.Page p) ≡ Some X
  claimed n m o after answer e may spare given back claims =
      let granted : answer ≡ reply.Granted version = answered_same answer (reply.Granted version) (sym given ∙ is) in
      let page : MayClaim h.marks o (name.Page p) m = subst (λ z. MayClaim h.marks o z m) e may in
      let settled : PageEntered (may_enter_page now.marks p) now.marks p k.marks =
      subst (λ (z : MarksState). SettlesClaims z o (name.Page p) m (reply.Granted version) place k.marks) back
      (subst (λ z. SettlesClaims after.marks o (name.Page p) m z place k.marks) granted (subst (λ z. SettlesClaims after.marks o z m answer place k.marks) e claims)) in
      let room : may_enter_page now.marks p ≡ true = subst (λ (z : Held). may_enter_page (begun z place).marks p ≡ true) (sym spare.2) page.room in
      let unclaimed : has_page now.marks p ≡ false = subst (λ (z : Held). has_page (begun z place).marks p ≡ false) (sym spare.2) none in
      entered_page (may_enter_page now.marks p) now.marks k.marks p room settled unclaimed

  same_member : HasSpare h ready → ready.marks.member ≡ h.marks.member
  same_member spare = ap (λ (z : Held). z.marks.member) spare.2

  taken : (c : Setting) (i : Intent) → page_taken i ≡ Some p → Lawful h.marks h.pages c i s → Reserves i h ready → Runs u now i s plan place a told v k → Granted u.facility h k p
  taken c intent.Step e lawful spare r = absurd (cc e)
  taken c (intent.Obtain o n m) e lawful spare r =
      let q = (ran u v now k (intent.Obtain o n m) s (sent.Command (command.Obtain n m)) plan place a told lawful.is r).0 in
      let named = named_page n p e in
      let granted : q.answer ≡ reply.Granted version = answered_same q.answer (reply.Granted version) (sym q.is ∙ is) in
      let done : ObtainsLock u.facility ready.marks.member (name.Page p) m (reply.Granted version) v.facility =
      subst (λ z. ObtainsLock u.facility ready.marks.member (name.Page p) m z v.facility) granted (subst (λ z. ObtainsLock u.facility ready.marks.member z m q.answer v.facility) named q.gives.executed.executes.0) in
      record {
        claimed = claimed n m o q.after q.answer named lawful.lawful spare q.is (ap (λ (z : Held). z.marks) q.gives.executed.back) q.settles.1.0;
        alone = λ j x. obtain u.facility v.facility ready.marks.member j version m p done x ∙ same_member spare;
      }
  taken c (intent.Grant o n m) e lawful spare r =
      let q = (ran u v now k (intent.Grant o n m) s (sent.Command (command.Grant (cell_slot o n) n m)) plan place a told lawful.is r).0 in
      let named = named_page n p e in
      let granted : q.answer ≡ reply.Granted version = answered_same q.answer (reply.Granted version) (sym q.is ∙ is) in
      let done : GrantsLock u.facility ready.marks.member (cell_slot o n) (name.Page p) m (reply.Granted version) v.facility =
      subst (λ z. GrantsLock u.facility ready.marks.member (cell_slot o n) (name.Page p) m z v.facility) granted (subst (λ z. GrantsLock u.facility ready.marks.member (cell_slot o n) z m q.answer v.facility) named q.gives.executed.executes.0) in
      record {
        claimed = claimed n m o q.after q.answer named lawful.lawful spare q.is (ap (λ (z : Held). z.marks) q.gives.executed.back) q.settles.1.0;
        alone = λ j x. grant u.facility v.facility ready.marks.member j (cell_slot o n) version m p done x ∙ same_member spare;
      }
  taken c (intent.Ask o to n m) e lawful spare r = absurd (cc e)
  taken c (intent.Answers o n m asked) e lawful spare r = absurd (cc e)
  taken c (intent.Status member) e lawful spare r = absurd (cc e)
  taken c (intent.Take past) e lawful spare r = absurd (cc e)
  taken c (intent.Answer asker n m) e lawful spare r = absurd (cc e)
  taken c (intent.ReleaseLock o) e lawful spare r = absurd (cc e)
  taken c (intent.ReleasePage page) e lawful spare r = absurd (cc e)
  taken c (intent.Purge n) e lawful spare r = absurd (cc e)
  taken c (intent.End o) e lawful spare r = absurd (cc e)
  taken c (intent.Wait slot holder flag) e lawful spare r = absurd (cc e)
  taken c (intent.Unwait slot) e lawful spare r = absurd (cc e)
  taken c (intent.Waits slots) e lawful spare r = absurd (cc e)
  taken c (intent.Flag flag) e lawful spare r = absurd (cc e)
  taken c (intent.Raise flag) e lawful spare r = absurd (cc e)
  taken c intent.LoseCache e lawful spare r = absurd (cc e)
  taken c (intent.Read at) e lawful spare r = absurd (cc e)
  taken c (intent.ReadPage at) e lawful spare r = absurd (cc e)
  taken c (intent.Test at slot gives) e lawful spare r = absurd (cc e)
  taken c (intent.WritePage at) e lawful spare r = absurd (cc e)
  taken c (intent.Unregister at) e lawful spare r = absurd (cc e)
  taken c (intent.Change slot action frames) e lawful spare r = absurd (cc e)
  taken c (intent.Undo o at) e lawful spare r = absurd (cc e)
  taken c (intent.Commit slot) e lawful spare r = absurd (cc e)
  taken c intent.Append e lawful spare r = absurd (cc e)
  taken c (intent.NextChanged past) e lawful spare r = absurd (cc e)
  taken c (intent.CastoutRead page) e lawful spare r = absurd (cc e)
  taken c intent.CastoutWrite e lawful spare r = absurd (cc e)
  taken c intent.CastoutDone e lawful spare r = absurd (cc e)
  taken c intent.PhaseDone e lawful spare r = absurd (cc e)

pub granted_alone : SendsLawfully → ObtainsNone → GrantsNone → (u v : Resources) (h k : Held) (i : Intent) (place version : ℕ) (s : Sent) (a : Answered) (p : PageId) (x : Happens u h i place s a v k)
    → page_taken i ≡ Some p → a ≡ answered.Reply (reply.Granted version) → has_page h.marks p ≡ false → Granted u.facility h x.after p
granted_alone lawful obtain grant u v h k i place version s a p x e is none =
    taken obtain grant h x.ready x.after u v s x.plan place version a x.said p is none (setting_of h (holder_in u.facility h.cast) place) i e (is_lawful lawful u h i place s x.plan x.lawful) x.reserves x.runs
