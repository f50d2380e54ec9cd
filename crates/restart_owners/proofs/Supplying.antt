-- What an event of a restart takes from elsewhere, and the worlds say: a page's lock is granted where its member has it, or nobody.
use Rattle.std.proofs.Common.{◌≡◌, ◌≢◌, ℕ, ◌≤◌, refl, sym, ◌∙◌, ap, subst, true, false, inl, inr, List, Option, Some, None, Ok}
use Rattle.std.specs.Prelude.{◌==◌, if◌then◌else◌}
use Rattle.std.proofs.lemmas.Bool.{both_ways, cases_eq, cond-false, cond-true, eq-eqb, ne_eqb}
use Rattle.std.proofs.lemmas.Option.{none-some, same_Some}
use Rattle.ds_base.specs.declared.names.PageId.{PageId}
use Rattle.lock_names.specs.Given.name_variants as name
use Rattle.lock_names.specs.Entries.{entry_number}
use Rattle.lock_names.specs.declared.mode.Mode.TheVariants.{X}
use Rattle.lock_structure.specs.Locks.{Locks}
use Rattle.list_structure.specs.Standings.{is_live, status_of}
use Rattle.list_structure.specs.States.{ListsState}
use Rattle.facility.specs.declared.command.Command.{Command}
use Rattle.facility.specs.declared.command.Command.TheVariants as command
use Rattle.facility.specs.declared.command.Reply.{Reply}
use Rattle.facility.specs.declared.command.Reply.TheVariants as reply
use Rattle.facility.specs.LockCommands.{GrantsLock, ObtainsLock}
use Rattle.facility.specs.States.{Held as Facility}
use Rattle.member_intents.specs.declared.outcome.Answered.{Answered}
use Rattle.member_resources.specs.Events.{World as Outside}
use Rattle.restart_records.specs.Trans.{newest, page_undone}
use Rattle.restart_marks.specs.declared.intent.RestartIntent.{RestartIntent}
use Rattle.restart_marks.specs.declared.intent.RestartIntent.TheVariants as intent
use Rattle.restart_marks.specs.declared.intent.RestartSent.{RestartSent}
use Rattle.restart_marks.specs.declared.intent.RestartSent.TheVariants as sent
use Rattle.restart_marks.specs.Moves.{stays}
use Rattle.restart_marks.specs.Needs.{need_of}
use Rattle.restart_marks.specs.State.{RestartState}
use Rattle.restart_resources.specs.Events.{Happens, RunsCommand}
use Rattle.restart_resources.specs.Held.{Held, with_marks}
use Rattle.restart_resources.specs.Lending.{is_hand, lent_bytes}
use Rattle.restart_resources.specs.Settled.{settled}
use Rattle.restart_marks.specs.Locks.{claim_after}
use Rattle.lock_protocol.specs.Machine.{World as LockWorld}
use Rattle.lock_protocol.specs.Moves.{Move as LockMove}
use Rattle.lock_protocol.specs.Own.{OthersKeep}
use Rattle.lock_protocol.specs.Sound.{RunKeepsSound, Sound}
use Rattle.lock_protocol.specs.Words.{SoundGives}
use Rattle.lock_world.specs.Numbers.{AreNumbered, name_at, number}
use Rattle.lock_world.specs.Tied.{Claims, ClaimTied, Moved, Tied}
use Rattle.lock_world.specs.Views.{entry_in}
use Rattle.lock_restarts.specs.Changes.{gone_by}
use Rattle.lock_restarts.specs.Events.{EventsGo, FreesSent}
use Rattle.lock_restarts.specs.Sent.{SendsLawfully}
use Rattle.lock_restarts.specs.Stands.{Goes, Leads, OwnClaims, known_with, or_else, page_claim}
use Rattle.page_protocol.specs.Moves.{World}
use Rattle.page_world.specs.Holdings.{Holdings}
use Rattle.page_world.specs.Numbers.{page_number}
use Rattle.page_world.specs.Numbers as pages
use Rattle.page_restarts.specs.Beside.{as_restarting}
use Rattle.page_restarts.specs.Events.{IsGiven, MayTake, is_granted}
use Rattle.page_restarts.proofs.Events.{answered_same}
use Rattle.page_restarts.proofs.Needs.{undoes_hand}
use Rattle.retained_pages.specs.Retained.{GrantsNone, ObtainsNone, Retains}
use Rattle.restart_owners.specs.Events.{BothRestart, BothSupply, IsTold}
use Rattle.restart_owners.proofs.Courses.{same_marks}

pub record Facts : Type 0 where
  pub pages : pages.AreNumbered
  pub names : AreNumbered
  pub gives : SoundGives
  pub run : RunKeepsSound
  pub others : OthersKeep
  pub lawful : SendsLawfully
  pub event : EventsGo
  pub obtain : ObtainsNone
  pub grant : GrantsNone

-- ---- a lock that is granted
granted_is : (answer : Reply) → is_granted answer ≡ true → (version : ℕ) × (answer ≡ reply.Granted version)
granted_is (reply.Granted version) e = (version, refl)
granted_is (reply.Retained by) e = absurd (both_ways false refl e)
granted_is (reply.RecordsFull limit) e = absurd (both_ways false refl e)
granted_is (reply.Contention share exclusive version) e = absurd (both_ways false refl e)
granted_is (reply.Moved version) e = absurd (both_ways false refl e)
granted_is (reply.RetainedLock n mode) e = absurd (both_ways false refl e)
granted_is reply.Done e = absurd (both_ways false refl e)
granted_is reply.Nothing e = absurd (both_ways false refl e)
granted_is reply.Found e = absurd (both_ways false refl e)
granted_is reply.NoData e = absurd (both_ways false refl e)
granted_is reply.CacheFull e = absurd (both_ways false refl e)
granted_is reply.Lost e = absurd (both_ways false refl e)
granted_is reply.Written e = absurd (both_ways false refl e)
granted_is reply.Valid e = absurd (both_ways false refl e)
granted_is reply.Invalid e = absurd (both_ways false refl e)
granted_is reply.Taken e = absurd (both_ways false refl e)
granted_is reply.NotChanged e = absurd (both_ways false refl e)
granted_is (reply.Locked by) e = absurd (both_ways false refl e)
granted_is reply.NotHeld e = absurd (both_ways false refl e)
granted_is (reply.ChangedPage other) e = absurd (both_ways false refl e)
granted_is (reply.Query query) e = absurd (both_ways false refl e)
granted_is reply.Gone e = absurd (both_ways false refl e)
granted_is reply.Cells e = absurd (both_ways false refl e)
granted_is reply.Waits e = absurd (both_ways false refl e)
granted_is reply.Raised e = absurd (both_ways false refl e)
granted_is reply.NotRaised e = absurd (both_ways false refl e)
granted_is (reply.Status status) e = absurd (both_ways false refl e)
granted_is reply.NotLost e = absurd (both_ways false refl e)
granted_is (reply.ClaimTaken by) e = absurd (both_ways false refl e)
granted_is reply.Claimed e = absurd (both_ways false refl e)
granted_is (reply.Drawn lrsn) e = absurd (both_ways false refl e)
granted_is (reply.Stale index) e = absurd (both_ways false refl e)
granted_is (reply.LrsnEnd at) e = absurd (both_ways false refl e)

same_command : (c d : Command) → sent.Command c ≡ sent.Command d → c ≡ d
same_command c d e = cc

-- ---- the world that moves lead to is sound, by the lock table that is left
pub still_sound : RunKeepsSound → (l : LockWorld) (moves : List LockMove) (before locks : Locks) (lists : ListsState) (held : Claims) → Sound (entry_in before) l → (m : Moved l moves before locks lists held) → Sound (entry_in locks) m.world
still_sound law l moves before locks lists held sound m = subst (λ (z : ℕ). Sound (λ c. entry_number (name_at c) z) m.world) (sym m.same) (law (entry_in before) moves l m.world sound m.run)

-- ---- the page that a restart claims, the world has
pub claimed_there : (l : LockWorld) (f : Facility) (held : Claims) (own : OwnClaims) (m : ℕ) (claim : Option PageId) (p : PageId) → Tied l f.locks f.lists held → l.live m ≡ true → ((c : ℕ) → own 0 c ≡ None) → ((o c : ℕ) → held m o c ≡ known_with own claim o c) → claim ≡ Some p
    → l.claims m 0 (number (name.Page p)) ≡ Some X
claimed_there l f held own m claim p tied live none knows is =
    let c = number (name.Page p) in
    let known : held m 0 c ≡ Some X = knows 0 c ∙ ap (λ o. known_with own o 0 c) is ∙ ap (λ z. or_else z (page_claim (Some p) c)) (none c) ∙ cond-true (c == c) (Some X) None (eq-eqb c c refl) in
    subst (λ z. ClaimTied (l.claims m 0 c) z (l.records m c)) known (tied.claims m 0 c live)

-- ---- nobody else has a page that is granted
module _ (facts : Facts) (w : World) (l : LockWorld) (u v : Outside) (g : Holdings) (content : ℕ → ℕ → List ℕ) (forced : ℕ → ℕ) (held : Claims) (own : OwnClaims) (h k : Held) (s : RestartSent) (a : Answered)
    (b : BothRestart w l u g content forced held own h) (happens : Happens (as_restarting u) h s a (as_restarting v) k) where
  abbrev m : ℕ
  m = h.marks.member

  abbrev mid : Held
  mid = happens.after

  -- what is claimed before the policy's local moves
  abbrev left : Claims
  left q o c = if q == m then known_with own mid.marks.claim o c else held q o c

  leads : Leads held left own h.marks mid.marks
  leads = record {
    others = λ q o c ne. cond-false (q == m) (known_with own mid.marks.claim o c) (held q o c) (ne_eqb q m ne);
    knows = λ o c. cond-true (m == m) (known_with own mid.marks.claim o c) (held m o c) (eq-eqb m m refl);
  }

  unmoved : Happens (as_restarting u) h s a (as_restarting v) mid
  unmoved = record { intent = happens.intent; said = happens.said; after = mid; lawful = happens.lawful; runs = happens.runs; ends = (stays mid.marks, refl) }

  goes : FreesSent own s → Goes l u.facility v.facility left m (gone_by s)
  goes frees = facts.event l (as_restarting u) (as_restarting v) held left own h mid s a b.tied b.restarts b.knows frees unmoved leads

  taken : (p : PageId) (q : ℕ) → FreesSent own s → mid.marks.claim ≡ Some p → v.facility.lists.members ≡ u.facility.lists.members → v.facility.lists.statuses ≡ u.facility.lists.statuses → ((r : ℕ) → Retains u.facility r p → r ≡ m) → q ≢ m → g.owner (page_number p) ≢ Some q
  taken p q frees claimed members statuses keeps ne owned = elim (b.owners (page_number p) q owned) [
    | inl there ↦
        (let x = goes frees in
        let c = number (name.Page p) in
        let new = x.moved.world in
        let live : new.live m ≡ true = x.moved.tied.live m b.restarts.member.0 (subst (λ z. m ≤ z) (sym members) b.restarts.among) ∙ ap (λ z. is_live (status_of z m)) statuses ∙ ap is_live b.restarts.restarts in
        let here : new.claims m 0 c ≡ Some X = claimed_there new v.facility left own m mid.marks.claim p x.moved.tied live b.restarts.pages leads.knows claimed in
        let kept : new.claims q 0 c ≡ Some X =
        facts.others (entry_in u.facility.locks) m x.moves l new x.own x.moved.run q 0 c ne ∙ subst (λ (z : PageId). l.claims q 0 (number (name.Page z)) ≡ Some X) (facts.pages.named p) there in
        let gone : new.claims m 0 c ≡ None = (facts.gives (entry_in u.facility.locks) new (facts.run (entry_in u.facility.locks) x.moves l new b.sound x.moved.run)).alone q m 0 0 c (λ e. absurd (ne e)) kept in
        none-some X (sym gone ∙ here))
    | inr retained ↦ ne (keeps q (subst (λ (z : PageId). Retains u.facility q z) (facts.pages.named p) retained))
  ]

  free : (p : PageId) → ((q : ℕ) → q ≢ m → g.owner (page_number p) ≢ Some q) → MayTake g m (Some p)
  free p alone = by (g.owner (page_number p)) refl
    where
      by : (o : Option ℕ) → g.owner (page_number p) ≡ o → MayTake g m (Some p)
      by None e = inl e
      by (Some q) e = elim (cases_eq q m) [
        | inl same ↦ inr (e ∙ ap Some same)
        | inr ne ↦ absurd (alone q ne e)
      ]

  -- ---- whatever was wanted
  as_sent : (i : RestartIntent) (c d : Command) → s ≡ sent.Command c → s ≡ sent.Command d → RunsCommand u.facility h i c a happens.said v.facility mid → RunsCommand u.facility h i d a happens.said v.facility mid
  as_sent i c d is e r = subst (λ (z : Command). RunsCommand u.facility h i z a happens.said v.facility mid) (same_command c d (sym is ∙ e)) r

  -- its reply is that of the event
  granted_as : (i : RestartIntent) (c d : Command) (is : s ≡ sent.Command c) (e : s ≡ sent.Command d) (r : RunsCommand u.facility h i c a happens.said v.facility mid) → is_granted r.answer ≡ true → is_granted (as_sent i c d is e r).answer ≡ true
  granted_as i c d is e r granted = ap is_granted (answered_same (as_sent i c d is e r).answer r.answer (sym (as_sent i c d is e r).is ∙ r.is)) ∙ granted

  frees : (c : Command) → s ≡ sent.Command c → FreesSent own (sent.Command c) → FreesSent own s
  frees c e none = subst (λ z. FreesSent own z) (sym e) none

  claims : (i : RestartIntent) (c : Command) (id version : ℕ) (p : PageId) (r : RunsCommand u.facility h i c a happens.said v.facility mid)
      → settled r.after i r.answer ≡ with_marks r.after (claim_after r.after.marks id r.answer) → r.answer ≡ reply.Granted version → page_undone h.marks.trans id ≡ Some p → mid.marks.claim ≡ Some p
  claims i c id version p r is granted undone =
      let same = same_marks h r.after (is_hand h c) (lent_bytes r.after (is_hand h c)) r.gives.executed.back in
      ap (λ (z : Held). z.marks.claim) (r.settles ∙ is) ∙ ap (λ z. (claim_after r.after.marks id z).claim) granted ∙ ap (λ (z : RestartState). page_undone z.trans id) same ∙ undone

  obtains : (id : ℕ) (p : PageId) → s ≡ sent.Command (command.Obtain (name.Page p) X) → page_undone h.marks.trans id ≡ Some p → (r : RunsCommand u.facility h (intent.Obtain id) (command.Obtain (name.Page p) X) a happens.said v.facility mid) → is_granted r.answer ≡ true → MayTake g m (Some p)
  obtains id p is undone r granted =
      let c = command.Obtain (name.Page p) X in
      let done = r.gives.executed.executes.0 in
      let version = granted_is r.answer granted in
      let given = subst (λ z. ObtainsLock u.facility m (name.Page p) X z v.facility) version.1 done in
      free p (λ q ne. taken p q (frees c is tt) (claims (intent.Obtain id) c id version.0 p r refl version.1 undone) (ap (λ (z : Facility). z.lists.members) done.1) (ap (λ (z : Facility). z.lists.statuses) done.1)
      (λ j retained. facts.obtain u.facility v.facility m j version.0 X p given retained) ne)

  grants : (id : ℕ) (p : PageId) → s ≡ sent.Command (command.Grant 0 (name.Page p) X) → page_undone h.marks.trans id ≡ Some p → (r : RunsCommand u.facility h (intent.Grant id) (command.Grant 0 (name.Page p) X) a happens.said v.facility mid) → is_granted r.answer ≡ true → MayTake g m (Some p)
  grants id p is undone r granted =
      let c = command.Grant 0 (name.Page p) X in
      let done = r.gives.executed.executes.0 in
      let version = granted_is r.answer granted in
      let given = subst (λ z. GrantsLock u.facility m 0 (name.Page p) X z v.facility) version.1 done in
      free p (λ q ne. taken p q (frees c is tt) (claims (intent.Grant id) c id version.0 p r refl version.1 undone) (ap (λ (z : Facility). z.lists.members) done.2) (ap (λ (z : Facility). z.lists.statuses) done.2)
      (λ j retained. facts.grant u.facility v.facility m j 0 version.0 X p given retained) ne)

  takes_back : (id : ℕ) → need_of h.marks (intent.Undo id) ≡ Ok s → (p : PageId) → h.marks.hand.page ≡ Some p → g.owner (page_number p) ≡ Some m
  takes_back id e p placed =
      let y = undoes_hand h.marks s (newest h.marks.trans id) e in
      b.owns.claimed p (y.claimed ∙ ap Some (same_Some y.page p (sym y.placed ∙ placed)))

  given : (i : RestartIntent) → need_of h.marks i ≡ Ok s → (c : Command) → s ≡ sent.Command c → (r : RunsCommand u.facility h i c a happens.said v.facility mid) → IsTold w g content h r.after i r.answer → IsGiven w g content h r.after i r.answer
  given intent.Step e c is r told = tt
  given intent.ReadLog e c is r told = tt
  given intent.CutTail e c is r told = tt
  given intent.RetainedAt e c is r told = tt
  given intent.Read e c is r told = told
  given intent.ReadPage e c is r told = tt
  given intent.Test e c is r told = told
  given intent.WritePage e c is r told = tt
  given intent.PurgePage e c is r told = told
  given (intent.Purge n) e c is r told = tt
  given intent.Append e c is r told = tt
  given (intent.Obtain id) e c is r told = λ granted. (let y = facts.lawful h.marks (intent.Obtain id) s e in
      subst (λ o. MayTake g m o) (sym y.2) (obtains id y.0 y.1 y.2 (as_sent (intent.Obtain id) c (command.Obtain (name.Page y.0) X) is y.1 r) (granted_as (intent.Obtain id) c (command.Obtain (name.Page y.0) X) is y.1 r granted)))
  given (intent.Ask id to) e c is r told = tt
  given (intent.Answers id asked) e c is r told = tt
  given (intent.Grant id) e c is r told = λ granted. (let y = facts.lawful h.marks (intent.Grant id) s e in
      subst (λ o. MayTake g m o) (sym y.2) (grants id y.0 y.1 y.2 (as_sent (intent.Grant id) c (command.Grant 0 (name.Page y.0) X) is y.1 r) (granted_as (intent.Grant id) c (command.Grant 0 (name.Page y.0) X) is y.1 r granted)))
  given (intent.Status k) e c is r told = tt
  given (intent.Undo id) e c is r told = λ number p drawn placed. (let t = told number p drawn placed in record { own = takes_back id e p placed; newest = t.newest; undone = t.undone })
  given intent.ReleasePage e c is r told = told
  given intent.Unregister e c is r told = tt
  given intent.Up e c is r told = tt

pub worlds_supply : Facts → BothSupply
worlds_supply facts w l u v g content forced held own h k s a b happens tells = record {
  given = λ c is r. given facts w l u v g content forced held own h k s a b happens happens.intent happens.lawful c is r (tells.told c is r);
  quiet = tells.quiet;
  works = tells.works;
}
