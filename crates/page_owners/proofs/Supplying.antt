-- A page's lock is granted where the member has it, or nobody.
use Rattle.std.proofs.Common.{◌≡◌, ◌≢◌, ℕ, refl, sym, ◌∙◌, ap, subst, arith, Bool, true, false, inl, inr, Option, Some, None}
use Rattle.std.specs.Prelude.{◌==◌, if◌then◌else◌, is_some}
use Rattle.std.proofs.lemmas.Bool.{cases_eq, cond-false, cond-true, eq-eqb, ne_eqb}
use Rattle.std.proofs.lemmas.Option.{none-some, same_Some}
use Rattle.ds_base.specs.declared.names.PageId.{PageId}
use Rattle.ds_model.specs.declared.lock.Name.{Name}
use Rattle.ds_model.specs.declared.lock.Name.TheVariants as name
use Rattle.lock_names.specs.declared.mode.Mode.{Mode}
use Rattle.lock_names.specs.declared.mode.Mode.TheVariants.{X}
use Rattle.list_structure.specs.Standings.{is_live}
use Rattle.lock_manager.specs.Claims.{joined}
use Rattle.lock_manager.specs.Managers.{held_by}
use Rattle.facility.specs.declared.command.Command.TheVariants as command
use Rattle.facility.specs.declared.command.Reply.{Reply}
use Rattle.facility.specs.declared.command.Reply.TheVariants as reply
use Rattle.facility.specs.States.{Held as Facility}
use Rattle.lock_protocol.specs.Machine.{World as LockWorld}
use Rattle.lock_protocol.specs.Own.{OthersKeep}
use Rattle.lock_protocol.specs.Sound.{RunKeepsSound, Sound}
use Rattle.lock_protocol.specs.Words.{SoundGives}
use Rattle.lock_world.specs.Books.{SlotHas}
use Rattle.lock_world.specs.Numbers.{number}
use Rattle.lock_world.specs.Tied.{Claims, ClaimTied, Tied}
use Rattle.lock_world.specs.Views.{claim_in, entry_in}
use Rattle.lock_intents.specs.Stands.{Goes, IsUp, Leads}
use Rattle.lock_events.specs.Events.{EventGoes}
use Rattle.member_intents.specs.declared.intent.Intent.{Intent}
use Rattle.member_intents.specs.declared.intent.Intent.TheVariants as intent
use Rattle.member_intents.specs.declared.outcome.Answered.{Answered}
use Rattle.member_intents.specs.declared.outcome.Answered.TheVariants as answered
use Rattle.member_intents.specs.declared.outcome.Sent.{Sent}
use Rattle.member_intents.specs.declared.outcome.Sent.TheVariants as sent
use Rattle.member_intents.specs.Cells.{cell_slot}
use Rattle.member_trans.specs.declared.fate.Owner.{Owner}
use Rattle.member_marks.specs.State.{MarksState}
use Rattle.member_marks.specs.Claims.{PageEntered, has_page, may_enter_page}
use Rattle.member_marks.specs.Local.{stays}
use Rattle.member_needs.specs.declared.needs.Setting.{Setting}
use Rattle.member_needs.specs.declared.plans.Plan.{Plan}
use Rattle.member_effects.specs.declared.told.Told.{Told}
use Rattle.member_effects.specs.Claims.{Claims as SettlesClaims}
use Rattle.needs_law.specs.Lawful.{Lawful, MayClaim, SendsLawfully}
use Rattle.member_resources.specs.Held.{Held, begun}
use Rattle.member_resources.specs.Events as event
use Rattle.member_resources.specs.Events.{Happens, Runs, holder_in}
use Rattle.member_resources.specs.Prepared.{HasSpare, Reserves, setting_of}
use Rattle.page_world.specs.Numbers.{page_number, AreNumbered}
use Rattle.page_world.specs.Holdings.{Holdings}
use Rattle.page_groups.specs.Groups.{page_named, page_taken}
use Rattle.page_owners.specs.Owners.{LocksStand, OwnersClaim}
use Rattle.page_owners.specs.Groups.{LocksSupply}
use Rattle.page_owners.proofs.InX.{is_lawful, ran}

pub record Facts : Type 0 where
  pub lawful : SendsLawfully
  pub pages : AreNumbered
  pub has : SlotHas
  pub gives : SoundGives
  pub run : RunKeepsSound
  pub others : OthersKeep
  pub event : EventGoes

-- ---- what a member that is up claims, the world has
pub claim_tied : (l : LockWorld) (f : Facility) (held : Claims) (s : MarksState) (c : ℕ) (x : Mode) → Tied l f.locks f.lists held → IsUp f s → held s.member 0 c ≡ Some x → l.claims s.member 0 c ≡ Some x
claim_tied l f held s c x tied up e =
    let live : l.live s.member ≡ true = tied.live s.member up.member.0 up.among ∙ ap is_live up.up in
    subst (λ z. ClaimTied (l.claims s.member 0 c) z (l.records s.member c)) e (tied.claims s.member 0 c live)

pub slot_claim : SlotHas → (f : Facility) (s : MarksState) (p : PageId) → IsUp f s → claim_in s.locks 0 (number (name.Page p)) ≡ held_by s.locks 0 (name.Page p)
slot_claim has f s p up = has s.locks 0 (name.Page p) up.book (omega arith)

-- ---- the page that is granted is claimed in X
none_held : (o : Option Mode) → is_some o ≡ false → o ≡ None
none_held None e = refl
none_held (Some m) e = absurd (cc e)

entered_page : (b : Bool) (s t : MarksState) (p : PageId) → b ≡ true → PageEntered b s p t → has_page s p ≡ false → held_by t.locks 0 (name.Page p) ≡ Some X
entered_page true s t p so e none = e.0.mode ∙ ap (λ (o : Option Mode). Some (joined o X)) (none_held (held_by s.locks 0 (name.Page p)) none)
entered_page false s t p never e none = absurd (cc never)

module _ (h ready k : Held) (u v : event.World) (s : Sent) (plan : Plan) (place version : ℕ) (a : Answered) (told : Told) (p : PageId) (is : a ≡ answered.Reply (reply.Granted version)) (none : has_page h.marks p ≡ false) where
  claimed : (o : Owner) (n : Name) (m : Mode) (after : Held) (answer : Reply)
      → page_named n ≡ Some p → MayClaim h.marks o n m → HasSpare h ready → a ≡ answered.Reply answer → after.marks ≡ (begun ready place).marks → SettlesClaims after.marks o n m answer place k.marks → held_by k.marks.locks 0 (name.Page p) ≡ Some X
  claimed o (name.Space table) m after answer e may spare given back claims = absurd (cc e)
  claimed o (name.Row table key) m after answer e may spare given back claims = absurd (cc e)
  claimed o (name.Set set) m after answer e may spare given back claims = absurd (cc e)
  claimed o (name.Page q) m after answer e may spare given back claims =
      let same : q ≡ p = same_Some q p e in
      let granted : answer ≡ reply.Granted version = answered_same answer (reply.Granted version) (sym given ∙ is) in
      let now = (begun ready place).marks in
      let settled : PageEntered (may_enter_page now q) now q k.marks =
      subst (λ (z : MarksState). SettlesClaims z o (name.Page q) m (reply.Granted version) place k.marks) back (subst (λ z. SettlesClaims after.marks o (name.Page q) m z place k.marks) granted claims) in
      let room : may_enter_page now q ≡ true = subst (λ (z : Held). may_enter_page (begun z place).marks q ≡ true) (sym spare.2) may.room in
      let unclaimed : has_page now q ≡ false = subst (λ (z : Held). has_page (begun z place).marks q ≡ false) (sym spare.2) (ap (has_page h.marks) same ∙ none) in
      subst (λ z. held_by k.marks.locks 0 (name.Page z) ≡ Some X) same (entered_page (may_enter_page now q) now k.marks q room settled unclaimed)
    where
      answered_same : (x y : Reply) → answered.Reply x ≡ answered.Reply y → x ≡ y
      answered_same x y f = cc f

  taken : (c : Setting) (i : Intent) → page_taken i ≡ Some p → Lawful h.marks h.pages c i s → Reserves i h ready → Runs u (begun ready place) i s plan place a told v k → held_by k.marks.locks 0 (name.Page p) ≡ Some X
  taken c intent.Step e lawful spare r = absurd (cc e)
  taken c (intent.Obtain o n m) e lawful spare r =
      let q = (ran u v (begun ready place) k (intent.Obtain o n m) s (sent.Command (command.Obtain n m)) plan place a told lawful.is r).0 in
      claimed o n m q.after q.answer e lawful.lawful spare q.is (ap (λ (z : Held). z.marks) q.gives.executed.back) q.settles.1.0
  taken c (intent.Grant o n m) e lawful spare r =
      let q = (ran u v (begun ready place) k (intent.Grant o n m) s (sent.Command (command.Grant (cell_slot o n) n m)) plan place a told lawful.is r).0 in
      claimed o n m q.after q.answer e lawful.lawful spare q.is (ap (λ (z : Held). z.marks) q.gives.executed.back) q.settles.1.0
  taken c (intent.Ask o to n m) e lawful spare r = absurd (cc e)
  taken c (intent.Answers o n m asked) e lawful spare r = absurd (cc e)
  taken c (intent.Status member) e lawful spare r = absurd (cc e)
  taken c (intent.Take past) e lawful spare r = absurd (cc e)
  taken c (intent.Answer asker n m) e lawful spare r = absurd (cc e)
  taken c (intent.ReleaseLock o) e lawful spare r = absurd (cc e)
  taken c (intent.ReleasePage page) e lawful spare r = absurd (cc e)
  taken c (intent.Purge n) e lawful spare r = absurd (cc e)
  taken c (intent.End o) e lawful spare r = absurd (cc e)
  taken c (intent.Wait slot holder flag) e lawful spare r = absurd (cc e)
  taken c (intent.Unwait slot) e lawful spare r = absurd (cc e)
  taken c (intent.Waits slots) e lawful spare r = absurd (cc e)
  taken c (intent.Flag flag) e lawful spare r = absurd (cc e)
  taken c (intent.Raise flag) e lawful spare r = absurd (cc e)
  taken c intent.LoseCache e lawful spare r = absurd (cc e)
  taken c (intent.Read at) e lawful spare r = absurd (cc e)
  taken c (intent.ReadPage at) e lawful spare r = absurd (cc e)
  taken c (intent.Test at slot gives) e lawful spare r = absurd (cc e)
  taken c (intent.WritePage at) e lawful spare r = absurd (cc e)
  taken c (intent.Unregister at) e lawful spare r = absurd (cc e)
  taken c (intent.Change slot action frames) e lawful spare r = absurd (cc e)
  taken c (intent.Undo o at) e lawful spare r = absurd (cc e)
  taken c (intent.Commit slot) e lawful spare r = absurd (cc e)
  taken c intent.Append e lawful spare r = absurd (cc e)
  taken c (intent.NextChanged past) e lawful spare r = absurd (cc e)
  taken c (intent.CastoutRead page) e lawful spare r = absurd (cc e)
  taken c intent.CastoutWrite e lawful spare r = absurd (cc e)
  taken c intent.CastoutDone e lawful spare r = absurd (cc e)
  taken c intent.PhaseDone e lawful spare r = absurd (cc e)

-- ---- nobody else has it
module _ (facts : Facts) (l : LockWorld) (u v : event.World) (g : Holdings) (held : Claims) (h k : Held) (i : Intent) (place : ℕ) (s : Sent) (a : Answered) (sound : Sound (entry_in u.facility.locks) l) (tied : Tied l u.facility.locks u.facility.lists held) (stands : LocksStand u.facility held h.marks) (owners : OwnersClaim l g) (happens : Happens u h i place s a v k) where
  abbrev after : Held
  after = happens.after

  -- what is claimed before the policy's local moves
  abbrev left : Claims
  left q o c = if q == h.marks.member then claim_in after.marks.locks o c else held q o c

  leads : Leads held left h.marks after.marks
  leads = record {
    others = λ q o c ne. cond-false (q == h.marks.member) (claim_in after.marks.locks o c) (held q o c) (ne_eqb q h.marks.member ne);
    own = λ o c. cond-true (h.marks.member == h.marks.member) (claim_in after.marks.locks o c) (held h.marks.member o c) (eq-eqb h.marks.member h.marks.member refl);
  }

  settled : Happens u h i place s a v after
  settled = record { plan = happens.plan; ready = happens.ready; said = happens.said; after = after; lawful = happens.lawful; reserves = happens.reserves; runs = happens.runs; ends = (stays after.marks, refl); allowed = happens.allowed }

  goes : Goes l u.facility v.facility left h.marks after.marks
  goes = facts.event l u v held left h after i place s a sound tied stands.up stands.slots stands.knows settled leads

  -- a page that was granted is claimed in X, and so nobody else claims it
  alone : (p : PageId) (version q : ℕ) → page_taken i ≡ Some p → a ≡ answered.Reply (reply.Granted version) → has_page h.marks p ≡ false → q ≢ h.marks.member → g.owner (page_number p) ≢ Some q
  alone p version q taken_is granted none ne owned =
      let c = number (name.Page p) in
      let m = h.marks.member in
      let new = goes.moved.world in
      let own : held_by after.marks.locks 0 (name.Page p) ≡ Some X =
      taken h happens.ready after u v s happens.plan place version a happens.said p granted none (setting_of h (holder_in u.facility h.cast) place) i taken_is (is_lawful facts.lawful u h i place s happens.plan happens.lawful) happens.reserves happens.runs in
      let known : left after.marks.member 0 c ≡ Some X = ap (λ z. left z 0 c) goes.same ∙ leads.own 0 c ∙ slot_claim facts.has v.facility after.marks p goes.stands ∙ own in
      let here : new.claims m 0 c ≡ Some X = ap (λ z. new.claims z 0 c) (sym goes.same) ∙ claim_tied new v.facility left after.marks c X goes.moved.tied goes.stands known in
      let there : new.claims q 0 c ≡ Some X =
      facts.others (entry_in u.facility.locks) m goes.moves l new goes.own goes.moved.run q 0 c ne ∙ subst (λ z. l.claims q 0 (number (name.Page z)) ≡ Some X) (facts.pages.named p) (owners (page_number p) q owned) in
      let kept : Sound (entry_in u.facility.locks) new = facts.run (entry_in u.facility.locks) goes.moves l new sound goes.moved.run in
      let gone : new.claims m 0 c ≡ None = (facts.gives (entry_in u.facility.locks) new kept).alone q m 0 0 c (λ e. absurd (ne e)) there in
      none-some X (sym gone ∙ here)

pub locks_supply : Facts → LocksSupply
locks_supply facts w l u v g content forced held up hs m k i place s a b e happens given =
    let stands = b.each m e in
    record {
      distinct = stands.up.book.once 0;
      free = λ page version taken_is granted none. free page version taken_is granted none (g.owner (page_number page)) refl;
      recorded = given.recorded;
      works = given.works;
    }
  where
    free : (page : PageId) (version : ℕ) → page_taken i ≡ Some page → a ≡ answered.Reply (reply.Granted version) → has_page (hs m).marks page ≡ false → (o : Option ℕ) → g.owner (page_number page) ≡ o → g.owner (page_number page) ≡ None
    free page version taken_is granted none None is = is
    free page version taken_is granted none (Some q) is = elim (cases_eq q (hs m).marks.member) [
      | inl same ↦ absurd ((b.pages.each m e).no_more (page_number page) (ap (has_page (hs m).marks) (facts.pages.named page) ∙ none) (is ∙ ap Some same))
      | inr ne ↦ absurd (alone facts l u v g held (hs m) k i place s a b.sound b.tied (b.each m e) b.owners happens page version q taken_is granted none ne is)
    ]
