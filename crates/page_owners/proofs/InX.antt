-- A member claims its pages in X, through all of its events.
use Rattle.std.proofs.Common.{◌≡◌, ℕ, zero, suc, ◌+◌, refl, sym, ◌∙◌, ap, subst, Bool, true, false, inl, inr, List, [], ◌∷◌, Option, Some, None, Result, Ok, Err, replicate}
use Rattle.std.specs.Prelude.{◌==◌, if◌then◌else◌, is_some, slice_index_or, slice_set}
use Rattle.std.proofs.lemmas.Bool.{cases_Bool, cond_both, cond-false, cond-true}
use Rattle.std.proofs.lemmas.Option.{same_Some}
use Rattle.ds_base.specs.declared.names.PageId.{PageId}
use Rattle.ds_model.specs.declared.lock.Name.{Name}
use Rattle.ds_model.specs.declared.lock.Name.TheVariants as name
use Rattle.lock_names.specs.Modes.{join_of}
use Rattle.lock_names.specs.Names.{same_name}
use Rattle.lock_names.specs.declared.mode.Mode.{Mode}
use Rattle.lock_names.specs.declared.mode.Mode.TheVariants.{IS, IX, S, U, SIX, X}
use Rattle.lock_manager.specs.declared.claim.Claim.{Claim}
use Rattle.lock_manager.specs.Claims.{joined, mode_in, without}
use Rattle.lock_manager.specs.Managers.{Book, after_page_release, claims_of, held_by}
use Rattle.facility.specs.declared.command.Command.TheVariants as command
use Rattle.facility.specs.declared.command.Reply.{Reply}
use Rattle.facility.specs.declared.command.Reply.TheVariants as reply
use Rattle.member_intents.specs.declared.intent.Intent.{Intent}
use Rattle.member_intents.specs.declared.intent.Intent.TheVariants as intent
use Rattle.member_intents.specs.declared.outcome.Answered.{Answered}
use Rattle.member_intents.specs.declared.outcome.Sent.{Sent}
use Rattle.member_intents.specs.declared.outcome.Sent.TheVariants as sent
use Rattle.member_intents.specs.declared.test.Test.{Test}
use Rattle.member_intents.specs.Cells.{cell_slot}
use Rattle.member_trans.specs.declared.fate.Owner.{Owner}
use Rattle.member_trans.specs.declared.fate.Owner.TheVariants as owner
use Rattle.member_marks.specs.State.{MarksState, id_of, with_locks}
use Rattle.member_marks.specs.Claims.{PageEntered, after_end_of, after_release_of, after_release_page, has_page, is_for_agents, may_enter_page}
use Rattle.member_needs.specs.declared.needs.Setting.{Setting}
use Rattle.member_needs.specs.declared.plans.Plan.{Plan}
use Rattle.member_needs.specs.Needs.{need_of}
use Rattle.member_needs.specs.Plans.{intent_plan}
use Rattle.member_effects.specs.declared.told.Told.{Told}
use Rattle.member_effects.specs.Claims.{Claims as SettlesClaims, Enters, EntersPage}
use Rattle.member_effects.specs.Closing.{ended_after, page_released_after, released_after}
use Rattle.needs_law.specs.Lawful.{EndsTran, Lawful, SendsLawfully}
use Rattle.member_resources.specs.declared.prepared.Prepared.{Prepared}
use Rattle.member_resources.specs.Held.{Held, begun, with_marks}
use Rattle.member_resources.specs.Events as event
use Rattle.member_resources.specs.Events.{Runs, asked_for, holder_in}
use Rattle.member_resources.specs.Prepared.{Reserves, needed, setting_of}
use Rattle.marks_law.specs.Claims.{ClaimsStay, changes_claims}
use Rattle.page_policies.specs.Locals.{OwnClaimsStay}
use Rattle.page_owners.specs.Owners.{AreInX, BeginInX, OwnInX, StayInX, ToldInX}

-- ---- lists of claims
in_without : (cs : List Claim) (n : Name) → AreInX cs → AreInX (without cs n)
in_without [] n x = tt
in_without (c ∷ cs) n x = by (same_name c.name n) (in_without cs n x.1)
  where
    by : (b : Bool) → AreInX (without cs n) → AreInX (if b then cs else c ∷ without cs n)
    by true rest = x.1
    by false rest = (x.0, rest)

in_with : (cs : List Claim) (n : Name) → AreInX (without cs n) → mode_in cs n ≡ Some X → AreInX cs
in_with [] n x e = tt
in_with (c ∷ cs) n x e = by (same_name c.name n) (in_with cs n) x e
  where
    by : (b : Bool) → (AreInX (without cs n) → mode_in cs n ≡ Some X → AreInX cs) → AreInX (if b then cs else c ∷ without cs n) → (if b then Some c.mode else mode_in cs n) ≡ Some X → (c.mode ≡ X) × AreInX cs
    by true rest y f = (same_Some c.mode X f, y)
    by false rest y f = (y.0, rest y.1 f)

pub held_x : (cs : List Claim) (n : Name) → AreInX cs → is_some (mode_in cs n) ≡ true → mode_in cs n ≡ Some X
held_x [] n x e = absurd (cc e)
held_x (c ∷ cs) n x e = by (same_name c.name n) (held_x cs n x.1) e
  where
    by : (b : Bool) → (is_some (mode_in cs n) ≡ true → mode_in cs n ≡ Some X) → is_some (if b then Some c.mode else mode_in cs n) ≡ true → (if b then Some c.mode else mode_in cs n) ≡ Some X
    by true rest f = ap Some x.0
    by false rest f = rest f

join_x : (m : Mode) → join_of m X ≡ X
unfolding join_of
join_x IS = refl
join_x IX = refl
join_x S = refl
join_x U = refl
join_x SIX = refl
join_x X = refl

joined_x : (o : Option Mode) → joined o X ≡ X
joined_x None = refl
joined_x (Some m) = join_x m

pub same_x : (s t : MarksState) → claims_of t.locks 0 ≡ claims_of s.locks 0 → OwnInX s → OwnInX t
same_x s t e x = subst AreInX (sym e) x

as_x : (s t u : MarksState) → claims_of u.locks 0 ≡ claims_of s.locks 0 → t ≡ u → OwnInX s → OwnInX t
as_x s t u own e x = same_x s t (ap (λ (z : MarksState). claims_of z.locks 0) e ∙ own) x

-- ---- a claim that is entered
entered_x : (b : Bool) (s t : MarksState) (p : PageId) → PageEntered b s p t → OwnInX s → OwnInX t
entered_x true s t p e x =
    in_with (claims_of t.locks 0) (name.Page p) (subst AreInX (sym e.0.others) (in_without (claims_of s.locks 0) (name.Page p) x)) (e.0.mode ∙ ap Some (joined_x (held_by s.locks 0 (name.Page p))))
entered_x false s t p e x = as_x s t s refl e x

page_x : (s t : MarksState) (n : Name) → EntersPage s n t → OwnInX s → OwnInX t
page_x s t (name.Page p) e x = entered_x (may_enter_page s p) s t p e x
page_x s t (name.Space table) e x = as_x s t s refl e x
page_x s t (name.Row table key) e x = as_x s t s refl e x
page_x s t (name.Set set) e x = as_x s t s refl e x

enters_x : OwnClaimsStay → (b : Bool) (s t : MarksState) (o : Owner) (n : Name) (m : Mode) (place : ℕ) → Enters b s o n m place t → OwnInX s → OwnInX t
enters_x own true s t (owner.Slot slot) n m place e x = as_x s t _ (own.enters s slot n m place) e x
enters_x own true s t (owner.Rollback id) n m place e x = as_x s t s refl e x
enters_x own false s t o n m place e x = page_x s t n e x

claims_x : OwnClaimsStay → (s t : MarksState) (o : Owner) (n : Name) (m : Mode) (place : ℕ) (answer : Reply) → SettlesClaims s o n m answer place t → OwnInX s → OwnInX t
claims_x own s t o n m place (reply.Granted version) e x = enters_x own (is_for_agents n) s t o n m place e x
claims_x own s t o n m place (reply.Retained by) e x = same_x s t (ap (λ (z : MarksState). claims_of z.locks 0) e) x
claims_x own s t o n m place (reply.RecordsFull limit) e x = same_x s t (ap (λ (z : MarksState). claims_of z.locks 0) e) x
claims_x own s t o n m place (reply.Contention share exclusive version) e x = same_x s t (ap (λ (z : MarksState). claims_of z.locks 0) e) x
claims_x own s t o n m place (reply.Moved version) e x = same_x s t (ap (λ (z : MarksState). claims_of z.locks 0) e) x
claims_x own s t o n m place (reply.RetainedLock named mode) e x = same_x s t (ap (λ (z : MarksState). claims_of z.locks 0) e) x
claims_x own s t o n m place reply.Done e x = same_x s t (ap (λ (z : MarksState). claims_of z.locks 0) e) x
claims_x own s t o n m place reply.Nothing e x = same_x s t (ap (λ (z : MarksState). claims_of z.locks 0) e) x
claims_x own s t o n m place reply.Found e x = same_x s t (ap (λ (z : MarksState). claims_of z.locks 0) e) x
claims_x own s t o n m place reply.NoData e x = same_x s t (ap (λ (z : MarksState). claims_of z.locks 0) e) x
claims_x own s t o n m place reply.CacheFull e x = same_x s t (ap (λ (z : MarksState). claims_of z.locks 0) e) x
claims_x own s t o n m place reply.Lost e x = same_x s t (ap (λ (z : MarksState). claims_of z.locks 0) e) x
claims_x own s t o n m place reply.Written e x = same_x s t (ap (λ (z : MarksState). claims_of z.locks 0) e) x
claims_x own s t o n m place reply.Valid e x = same_x s t (ap (λ (z : MarksState). claims_of z.locks 0) e) x
claims_x own s t o n m place reply.Invalid e x = same_x s t (ap (λ (z : MarksState). claims_of z.locks 0) e) x
claims_x own s t o n m place reply.Taken e x = same_x s t (ap (λ (z : MarksState). claims_of z.locks 0) e) x
claims_x own s t o n m place reply.NotChanged e x = same_x s t (ap (λ (z : MarksState). claims_of z.locks 0) e) x
claims_x own s t o n m place (reply.Locked by) e x = same_x s t (ap (λ (z : MarksState). claims_of z.locks 0) e) x
claims_x own s t o n m place reply.NotHeld e x = same_x s t (ap (λ (z : MarksState). claims_of z.locks 0) e) x
claims_x own s t o n m place (reply.ChangedPage page) e x = same_x s t (ap (λ (z : MarksState). claims_of z.locks 0) e) x
claims_x own s t o n m place (reply.Query query) e x = same_x s t (ap (λ (z : MarksState). claims_of z.locks 0) e) x
claims_x own s t o n m place reply.Gone e x = same_x s t (ap (λ (z : MarksState). claims_of z.locks 0) e) x
claims_x own s t o n m place reply.Cells e x = same_x s t (ap (λ (z : MarksState). claims_of z.locks 0) e) x
claims_x own s t o n m place reply.Waits e x = same_x s t (ap (λ (z : MarksState). claims_of z.locks 0) e) x
claims_x own s t o n m place reply.Raised e x = same_x s t (ap (λ (z : MarksState). claims_of z.locks 0) e) x
claims_x own s t o n m place reply.NotRaised e x = same_x s t (ap (λ (z : MarksState). claims_of z.locks 0) e) x
claims_x own s t o n m place (reply.Status status) e x = same_x s t (ap (λ (z : MarksState). claims_of z.locks 0) e) x
claims_x own s t o n m place reply.NotLost e x = same_x s t (ap (λ (z : MarksState). claims_of z.locks 0) e) x
claims_x own s t o n m place (reply.ClaimTaken by) e x = same_x s t (ap (λ (z : MarksState). claims_of z.locks 0) e) x
claims_x own s t o n m place reply.Claimed e x = same_x s t (ap (λ (z : MarksState). claims_of z.locks 0) e) x
claims_x own s t o n m place (reply.Drawn lrsn) e x = same_x s t (ap (λ (z : MarksState). claims_of z.locks 0) e) x
claims_x own s t o n m place (reply.Stale index) e x = same_x s t (ap (λ (z : MarksState). claims_of z.locks 0) e) x
claims_x own s t o n m place (reply.LrsnEnd at) e x = same_x s t (ap (λ (z : MarksState). claims_of z.locks 0) e) x

-- ---- what is taken before
ready_own : (h ready : Held) (i : Intent) → Reserves i h ready → claims_of ready.marks.locks 0 ≡ claims_of h.marks.locks 0
ready_own h ready intent.Step e = ap (λ (z : Held). claims_of z.marks.locks 0) e
ready_own h ready (intent.Obtain o n m) e = ap (λ (z : Held). claims_of z.marks.locks 0) e.2
ready_own h ready (intent.Grant o n m) e = ap (λ (z : Held). claims_of z.marks.locks 0) e.2
ready_own h ready (intent.Ask o to n m) e = ap (λ (z : Held). claims_of z.marks.locks 0) e
ready_own h ready (intent.Answers o n m asked) e = ap (λ (z : Held). claims_of z.marks.locks 0) e
ready_own h ready (intent.Status member) e = ap (λ (z : Held). claims_of z.marks.locks 0) e
ready_own h ready (intent.Take past) e = ap (λ (z : Held). claims_of z.marks.locks 0) e
ready_own h ready (intent.Answer asker n m) e = ap (λ (z : Held). claims_of z.marks.locks 0) e
ready_own h ready (intent.ReleaseLock o) e = ap (λ (z : Held). claims_of z.marks.locks 0) e
ready_own h ready (intent.ReleasePage page) e = ap (λ (z : Held). claims_of z.marks.locks 0) e
ready_own h ready (intent.Purge n) e = ap (λ (z : Held). claims_of z.marks.locks 0) e
ready_own h ready (intent.End o) e = ap (λ (z : Held). claims_of z.marks.locks 0) e
ready_own h ready (intent.Wait slot holder flag) e = ap (λ (z : Held). claims_of z.marks.locks 0) e
ready_own h ready (intent.Unwait slot) e = ap (λ (z : Held). claims_of z.marks.locks 0) e
ready_own h ready (intent.Waits slots) e = ap (λ (z : Held). claims_of z.marks.locks 0) e
ready_own h ready (intent.Flag flag) e = ap (λ (z : Held). claims_of z.marks.locks 0) e
ready_own h ready (intent.Raise flag) e = ap (λ (z : Held). claims_of z.marks.locks 0) e
ready_own h ready intent.LoseCache e = ap (λ (z : Held). claims_of z.marks.locks 0) e
ready_own h ready (intent.Read at) e = ap (λ (z : Held). claims_of z.marks.locks 0) e
ready_own h ready (intent.ReadPage at) e = ap (λ (z : Held). claims_of z.marks.locks 0) e
ready_own h ready (intent.Test at slot gives) e = ap (λ (z : Held). claims_of z.marks.locks 0) e
ready_own h ready (intent.WritePage at) e = ap (λ (z : Held). claims_of z.marks.locks 0) e
ready_own h ready (intent.Unregister at) e = ap (λ (z : Held). claims_of z.marks.locks 0) e
ready_own h ready (intent.Change slot action frames) e = ap (λ (z : Held). claims_of z.marks.locks 0) e
ready_own h ready (intent.Undo o at) e = ap (λ (z : Held). claims_of z.marks.locks 0) e
ready_own h ready (intent.Commit slot) e = ap (λ (z : Held). claims_of z.marks.locks 0) e
ready_own h ready intent.Append e = ap (λ (z : Held). claims_of z.marks.locks 0) e
ready_own h ready (intent.NextChanged past) e = ap (λ (z : Held). claims_of z.marks.locks 0) e
ready_own h ready (intent.CastoutRead page) e = ap (λ (z : Held). claims_of z.marks.locks 0) e
ready_own h ready intent.CastoutWrite e = ap (λ (z : Held). claims_of z.marks.locks 0) e
ready_own h ready intent.CastoutDone e = ap (λ (z : Held). claims_of z.marks.locks 0) e
ready_own h ready intent.PhaseDone e = ap (λ (z : Held). claims_of z.marks.locks 0) e

released_first : (hs : List (List Claim)) (n : Name) → AreInX (slice_index_or hs 0 []) → AreInX (slice_index_or (slice_set hs 0 (without (slice_index_or hs 0 []) n)) 0 [])
released_first [] n x = tt
released_first (cs ∷ hs) n x = in_without cs n x

page_released_x : (s : MarksState) (page : PageId) → OwnInX s → OwnInX (after_release_page s page)
page_released_x s page x = cond_both (has_page s page) (with_locks s (after_page_release s.locks (name.Page page))) s (λ (z : MarksState). OwnInX z) (λ e. released_first s.locks.holders (name.Page page) x) (λ e. x)

-- ---- the events that change claims: what is run of the member that has what it needs
pub ran : (u v : event.World) (h k : Held) (i : Intent) (s t : Sent) (p : Plan) (place : ℕ) (a : Answered) (told : Told) → s ≡ t → Runs u h i s p place a told v k → Runs u h i t p place a told v k
ran u v h k i s t p place a told is r = subst (λ z. Runs u h i z p place a told v k) is r

module _ (own : OwnClaimsStay) (h now k : Held) (u v : event.World) (s : Sent) (p : Plan) (place : ℕ) (a : Answered) (told : Told) (x : OwnInX now.marks) where
  claimed : (o : Owner) (n : Name) (m : Mode) (after : Held) (answer : Reply) → after.marks ≡ now.marks → SettlesClaims after.marks o n m answer place k.marks → OwnInX k.marks
  claimed o n m after answer e claims = claims_x own now.marks k.marks o n m place answer (subst (λ (z : MarksState). SettlesClaims z o n m answer place k.marks) e claims) x

  end_x : (o : Owner) → EndsTran h.marks o s → Runs u now (intent.End o) s p place a told v k → OwnInX k.marks
  end_x o lawful r = by ((id_of h.marks o).number == 0) refl
    where
      by : (z : Bool) → ((id_of h.marks o).number == 0) ≡ z → OwnInX k.marks
      by true y =
          let q = ran u v now k (intent.End o) s sent.None p place a told (lawful.is ∙ cond-true ((id_of h.marks o).number == 0) sent.None (sent.Command (command.End (id_of h.marks o))) y) r in
          as_x now.marks k.marks (after_end_of now.marks o) (own.ends now.marks o) (ap (λ (z : Held). z.marks) q.held) x
      by false y =
          let q = ran u v now k (intent.End o) s (sent.Command (command.End (id_of h.marks o))) p place a told (lawful.is ∙ cond-false ((id_of h.marks o).number == 0) sent.None (sent.Command (command.End (id_of h.marks o))) y) r in
          let c = q.0 in
          as_x now.marks k.marks (after_end_of now.marks o) (own.ends now.marks o)
          (ap (λ (z : Held). z.marks) (c.settles.1 ∙ ap (λ z. with_marks c.after (ended_after c.after.marks o z)) c.gives.executed.executes.0.0 ∙ ap (λ (z : Held). with_marks z (after_end_of z.marks o)) c.gives.executed.back)) x

  changes_x : (c : Setting) (i : Intent) → changes_claims i ≡ true → Lawful h.marks h.pages c i s → Runs u now i s p place a told v k → OwnInX k.marks
  changes_x c intent.Step never lawful r = absurd (cc never)
  changes_x c (intent.Obtain o n m) so lawful r =
      let q = (ran u v now k (intent.Obtain o n m) s (sent.Command (command.Obtain n m)) p place a told lawful.is r).0 in
      claimed o n m q.after q.answer (ap (λ (z : Held). z.marks) q.gives.executed.back) q.settles.1.0
  changes_x c (intent.Grant o n m) so lawful r =
      let q = (ran u v now k (intent.Grant o n m) s (sent.Command (command.Grant (cell_slot o n) n m)) p place a told lawful.is r).0 in
      claimed o n m q.after q.answer (ap (λ (z : Held). z.marks) q.gives.executed.back) q.settles.1.0
  changes_x c (intent.Ask o to n m) never lawful r = absurd (cc never)
  changes_x c (intent.Answers o n m asked) never lawful r = absurd (cc never)
  changes_x c (intent.Status member) never lawful r = absurd (cc never)
  changes_x c (intent.Take past) never lawful r = absurd (cc never)
  changes_x c (intent.Answer asker n m) never lawful r = absurd (cc never)
  changes_x c (intent.ReleaseLock o) so lawful r =
      let q = (ran u v now k (intent.ReleaseLock o) s (sent.Command (command.Release lawful.told.0 lawful.told.1)) p place a told lawful.is r).0 in
      as_x now.marks k.marks (after_release_of now.marks o) (own.releases now.marks o)
      (ap (λ (z : Held). z.marks) (q.settles.1 ∙ ap (λ z. with_marks q.after (released_after q.after.marks o z)) q.gives.executed.executes.0.0 ∙ ap (λ (z : Held). with_marks z (after_release_of z.marks o)) q.gives.executed.back)) x
  changes_x c (intent.ReleasePage page) so lawful r =
      let q = (ran u v now k (intent.ReleasePage page) s (sent.Command (command.Release lawful.told.0 lawful.told.1)) p place a told lawful.is r).0 in
      let is = ap (λ (z : Held). z.marks) (q.settles.1 ∙ ap (λ z. with_marks q.after (page_released_after q.after.marks page z)) q.gives.executed.executes.0.0 ∙ ap (λ (z : Held). with_marks z (after_release_page z.marks page)) q.gives.executed.back) in
      subst (λ (z : MarksState). OwnInX z) (sym is) (page_released_x now.marks page x)
  changes_x c (intent.Purge n) never lawful r = absurd (cc never)
  changes_x c (intent.End o) so lawful r = end_x o lawful r
  changes_x c (intent.Wait slot holder flag) never lawful r = absurd (cc never)
  changes_x c (intent.Unwait slot) never lawful r = absurd (cc never)
  changes_x c (intent.Waits slots) never lawful r = absurd (cc never)
  changes_x c (intent.Flag flag) never lawful r = absurd (cc never)
  changes_x c (intent.Raise flag) never lawful r = absurd (cc never)
  changes_x c intent.LoseCache never lawful r = absurd (cc never)
  changes_x c (intent.Read at) never lawful r = absurd (cc never)
  changes_x c (intent.ReadPage at) never lawful r = absurd (cc never)
  changes_x c (intent.Test at slot gives) never lawful r = absurd (cc never)
  changes_x c (intent.WritePage at) never lawful r = absurd (cc never)
  changes_x c (intent.Unregister at) never lawful r = absurd (cc never)
  changes_x c (intent.Change slot action frames) never lawful r = absurd (cc never)
  changes_x c (intent.Undo o at) never lawful r = absurd (cc never)
  changes_x c (intent.Commit slot) never lawful r = absurd (cc never)
  changes_x c intent.Append never lawful r = absurd (cc never)
  changes_x c (intent.NextChanged past) never lawful r = absurd (cc never)
  changes_x c (intent.CastoutRead page) never lawful r = absurd (cc never)
  changes_x c intent.CastoutWrite never lawful r = absurd (cc never)
  changes_x c intent.CastoutDone never lawful r = absurd (cc never)
  changes_x c intent.PhaseDone never lawful r = absurd (cc never)

-- ---- any event
abbrev sent_in : Result Prepared Test → Result Sent Test
sent_in (Ok x) = Ok x.sent
sent_in (Err test) = Err test

needs_sent : (x : Result Sent Test) (y : Result Plan Test) (s : Sent) (p : Plan) → needed x y ≡ Ok (record { sent = s; plan = p }) → x ≡ Ok s
needs_sent (Err test) y s p e = absurd cc
needs_sent (Ok t) (Err test) s p e = absurd cc
needs_sent (Ok t) (Ok q) s p e = ap sent_in e

pub is_lawful : SendsLawfully → (u : event.World) (h : Held) (i : Intent) (place : ℕ) (s : Sent) (p : Plan) → asked_for u h place i ≡ Ok (record { sent = s; plan = p }) → Lawful h.marks h.pages (setting_of h (holder_in u.facility h.cast) place) i s
is_lawful law u h i place s p e =
    let c = setting_of h (holder_in u.facility h.cast) place in
    law h.marks h.pages c i s (needs_sent (need_of h.marks h.pages c i) (intent_plan h.marks h.pages h.limit i) s p e)

ran_in_x : ClaimsStay → OwnClaimsStay → (h now k : Held) (u v : event.World) (c : Setting) (i : Intent) (s : Sent) (p : Plan) (place : ℕ) (a : Answered) (told : Told)
    → Lawful h.marks h.pages c i s → Runs u now i s p place a told v k → OwnInX now.marks → OwnInX k.marks
ran_in_x quiet own h now k u v c i s p place a told lawful r x = elim (cases_Bool (changes_claims i)) [
  | inl so ↦ changes_x own h now k u v s p place a told x c i so lawful r
  | inr still ↦ same_x now.marks k.marks (ap (λ (z : Book). claims_of z 0) (quiet u v now k i s p place a told still r).locks) x
]

pub stay_in_x : ClaimsStay → OwnClaimsStay → SendsLawfully → StayInX
stay_in_x quiet own law u v h k i place s a happens x =
    let now = begun happens.ready place in
    let begins : OwnInX now.marks = same_x h.marks now.marks (ready_own h happens.ready i happens.reserves) x in
    same_x happens.after.marks k.marks (own.reaches happens.after.marks k.marks happens.ends.0)
    (ran_in_x quiet own h now happens.after u v (setting_of h (holder_in u.facility h.cast) place) i s happens.plan place a happens.said (is_lawful law u h i place s happens.plan happens.lawful) happens.runs begins)

pub told_in_x : OwnClaimsStay → ToldInX
told_in_x own h k place ends x = same_x (begun h place).marks k.marks (own.reaches (begun h place).marks k.marks ends.0) x

-- ---- the begin
none_first : (n : ℕ) (none : List Claim) → none ≡ [] → AreInX (slice_index_or (replicate n none) 0 [])
none_first zero none e = tt
none_first (suc n) none e = subst AreInX (sym e) tt

pub begin_in_x : BeginInX
begin_in_x member sizes h new = subst (λ (z : List (List Claim)). AreInX (slice_index_or z 0 [])) (sym new.marks.holders) (none_first (sizes.agents + 1) [] refl)
