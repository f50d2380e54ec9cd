-- What the events of a restart leave of the standings of members.
use Rattle.std.proofs.Common.{◌≡◌, ℕ, refl, ◌∙◌, ap, subst, true, inl, inr, None, Ok}
use Rattle.std.specs.Prelude.{◌⊎◌, ◌-◌, slice_set}
use Rattle.ds_base.specs.declared.names.PageId.{PageId}
use Rattle.ds_model.specs.declared.lock.Name.{Name}
use Rattle.ds_model.specs.declared.lock.Name.TheVariants as name
use Rattle.lock_names.specs.declared.mode.Mode.TheVariants.{X}
use Rattle.list_structure.specs.declared.standing.MemberStatus.TheVariants.{Up}
use Rattle.list_structure.specs.States.{ListsState}
use Rattle.facility.specs.declared.command.Command.{Command}
use Rattle.facility.specs.declared.command.Command.TheVariants as command
use Rattle.facility.specs.declared.command.Reply.{Reply}
use Rattle.facility.specs.declared.command.Reply.TheVariants as reply
use Rattle.facility.specs.States.{Held as Facility}
use Rattle.member_intents.specs.declared.outcome.Answered.{Answered}
use Rattle.restart_marks.specs.declared.intent.RestartIntent.{RestartIntent}
use Rattle.restart_marks.specs.declared.intent.RestartIntent.TheVariants as intent
use Rattle.restart_marks.specs.declared.intent.RestartSent.{RestartSent}
use Rattle.restart_marks.specs.declared.intent.RestartSent.TheVariants as sent
use Rattle.restart_marks.specs.declared.told.RestartTold.{RestartTold}
use Rattle.restart_marks.specs.Locks.{claim_after, released_after, up_after}
use Rattle.restart_marks.specs.Needs.{need_of}
use Rattle.restart_marks.specs.State.{RestartState}
use Rattle.restart_resources.specs.Events as event
use Rattle.restart_resources.specs.Events.{Runs}
use Rattle.restart_resources.specs.Held.{Held}
use Rattle.restart_resources.specs.Lending.{is_hand, lent_bytes}
use Rattle.restart_resources.specs.Settled.{settled}
use Rattle.lock_protocol.specs.Machine.{no_interest}
use Rattle.lock_restarts.specs.Courses.{Sets, StandingsFollow}
use Rattle.lock_restarts.specs.Sent.{IsStill, Sends, SendsLawfully, is_still}
use Rattle.lock_restarts.specs.Stands.{LocalsStay, SameClaim}
use Rattle.lock_restarts.proofs.Courses.{name_purged, page_purged}
use Rattle.lock_restarts.proofs.Stands.{same_marks}
use Rattle.lock_restarts.proofs.Stills.{mild_runs, mild_still, still_mild, still_runs}

-- ---- the restart isn't over by them
claim_up : (s : RestartState) (id : ℕ) (answer : Reply) → (claim_after s id answer).is_up ≡ s.is_up
claim_up s id (reply.Granted version) = refl
claim_up s id (reply.Retained by) = refl
claim_up s id (reply.RecordsFull limit) = refl
claim_up s id (reply.Contention share exclusive version) = refl
claim_up s id (reply.Moved version) = refl
claim_up s id (reply.RetainedLock n mode) = refl
claim_up s id reply.Done = refl
claim_up s id reply.Nothing = refl
claim_up s id reply.Found = refl
claim_up s id reply.NoData = refl
claim_up s id reply.CacheFull = refl
claim_up s id reply.Lost = refl
claim_up s id reply.Written = refl
claim_up s id reply.Valid = refl
claim_up s id reply.Invalid = refl
claim_up s id reply.Taken = refl
claim_up s id reply.NotChanged = refl
claim_up s id (reply.Locked by) = refl
claim_up s id reply.NotHeld = refl
claim_up s id (reply.ChangedPage other) = refl
claim_up s id (reply.Query query) = refl
claim_up s id reply.Gone = refl
claim_up s id reply.Cells = refl
claim_up s id reply.Waits = refl
claim_up s id reply.Raised = refl
claim_up s id reply.NotRaised = refl
claim_up s id (reply.Status status) = refl
claim_up s id reply.NotLost = refl
claim_up s id (reply.ClaimTaken by) = refl
claim_up s id reply.Claimed = refl
claim_up s id (reply.Drawn lrsn) = refl
claim_up s id (reply.Stale index) = refl
claim_up s id (reply.LrsnEnd at) = refl

release_up : (s : RestartState) (answer : Reply) → (released_after s answer).is_up ≡ s.is_up
release_up s (reply.Granted version) = refl
release_up s (reply.Retained by) = refl
release_up s (reply.RecordsFull limit) = refl
release_up s (reply.Contention share exclusive version) = refl
release_up s (reply.Moved version) = refl
release_up s (reply.RetainedLock n mode) = refl
release_up s reply.Done = refl
release_up s reply.Nothing = refl
release_up s reply.Found = refl
release_up s reply.NoData = refl
release_up s reply.CacheFull = refl
release_up s reply.Lost = refl
release_up s reply.Written = refl
release_up s reply.Valid = refl
release_up s reply.Invalid = refl
release_up s reply.Taken = refl
release_up s reply.NotChanged = refl
release_up s (reply.Locked by) = refl
release_up s reply.NotHeld = refl
release_up s (reply.ChangedPage other) = refl
release_up s (reply.Query query) = refl
release_up s reply.Gone = refl
release_up s reply.Cells = refl
release_up s reply.Waits = refl
release_up s reply.Raised = refl
release_up s reply.NotRaised = refl
release_up s (reply.Status status) = refl
release_up s reply.NotLost = refl
release_up s (reply.ClaimTaken by) = refl
release_up s reply.Claimed = refl
release_up s (reply.Drawn lrsn) = refl
release_up s (reply.Stale index) = refl
release_up s (reply.LrsnEnd at) = refl

-- ---- what is left of the lists
kept : (f g : Facility) (h k : Held) → g.lists.members ≡ f.lists.members → g.lists.statuses ≡ f.lists.statuses → k.marks.is_up ≡ h.marks.is_up → Sets f.lists g.lists h.marks k.marks
kept f g h k members statuses up = record { members = members; statuses = inl (up, statuses) }

module _ (u v : event.World) (h k : Held) (a : Answered) (said : RestartTold) where
  settled_up : (i : RestartIntent) (c : Command) → (r : Runs u h i (sent.Command c) a said v k) → ((s : Held) → (settled s i r.0.answer).marks.is_up ≡ s.marks.is_up) → k.marks.is_up ≡ h.marks.is_up
  settled_up i c r same =
      ap (λ (z : Held). z.marks.is_up) r.0.settles ∙ same r.0.after
      ∙ ap (λ (z : RestartState). z.is_up) (same_marks h r.0.after (is_hand h c) (lent_bytes r.0.after (is_hand h c)) r.0.gives.executed.back)

  obtains : (id : ℕ) (page : PageId) → Runs u h (intent.Obtain id) (sent.Command (command.Obtain (name.Page page) X)) a said v k → Sets u.facility.lists v.facility.lists h.marks k.marks
  obtains id page r =
      let lists : v.facility.lists ≡ u.facility.lists = ap (λ (z : Facility). z.lists) r.0.gives.executed.executes.0.1 in
      kept u.facility v.facility h k (ap (λ (z : ListsState). z.members) lists) (ap (λ (z : ListsState). z.statuses) lists)
      (settled_up (intent.Obtain id) (command.Obtain (name.Page page) X) r (λ s. claim_up s.marks id r.0.answer))

  grants : (id : ℕ) (page : PageId) → Runs u h (intent.Grant id) (sent.Command (command.Grant 0 (name.Page page) X)) a said v k → Sets u.facility.lists v.facility.lists h.marks k.marks
  grants id page r =
      let only = r.0.gives.executed.executes.0.2 in
      kept u.facility v.facility h k (ap (λ (z : Facility). z.lists.members) only) (ap (λ (z : Facility). z.lists.statuses) only)
      (settled_up (intent.Grant id) (command.Grant 0 (name.Page page) X) r (λ s. claim_up s.marks id r.0.answer))

  asks : (id to : ℕ) (page : PageId) → Runs u h (intent.Ask id to) (sent.Command (command.Ask 0 to (name.Page page) X)) a said v k → Sets u.facility.lists v.facility.lists h.marks k.marks
  asks id to page r =
      let only = r.0.gives.executed.executes.0.1.1 in
      kept u.facility v.facility h k (ap (λ (z : Facility). z.lists.members) only) (ap (λ (z : Facility). z.lists.statuses) only)
      (settled_up (intent.Ask id to) (command.Ask 0 to (name.Page page) X) r (λ s. refl))

  releases : (page : PageId) → Runs u h intent.ReleasePage (sent.Command (command.Release (name.Page page) no_interest)) a said v k → Sets u.facility.lists v.facility.lists h.marks k.marks
  releases page r =
      let only = r.0.gives.executed.executes.0.2 in
      kept u.facility v.facility h k (ap (λ (z : Facility). z.lists.members) only) (ap (λ (z : Facility). z.lists.statuses) only)
      (settled_up intent.ReleasePage (command.Release (name.Page page) no_interest) r (λ s. release_up s.marks r.0.answer))

  purges_page : (page : PageId) → Runs u h intent.PurgePage (sent.Command (command.Purge (name.Page page))) a said v k → Sets u.facility.lists v.facility.lists h.marks k.marks
  purges_page page r =
      let only = r.0.gives.executed.executes.0.2 in
      kept u.facility v.facility h k (ap (λ (z : Facility). z.lists.members) only) (ap (λ (z : Facility). z.lists.statuses) only)
      (settled_up intent.PurgePage (command.Purge (name.Page page)) r (λ s. (page_purged s.marks r.0.answer).up))

  purges : (n : Name) → Runs u h (intent.Purge n) (sent.Command (command.Purge n)) a said v k → Sets u.facility.lists v.facility.lists h.marks k.marks
  purges n r =
      let only = r.0.gives.executed.executes.0.2 in
      kept u.facility v.facility h k (ap (λ (z : Facility). z.lists.members) only) (ap (λ (z : Facility). z.lists.statuses) only)
      (settled_up (intent.Purge n) (command.Purge n) r (λ s. (name_purged s.marks n r.0.answer).up))

  rises : h.marks.claim ≡ None → Runs u h intent.Up (sent.Command (command.SetStatus Up)) a said v k → Sets u.facility.lists v.facility.lists h.marks k.marks
  rises unclaimed r =
      let does = r.0.gives.executed.executes.0 in
      let marks = same_marks h r.0.after (is_hand h (command.SetStatus Up)) (lent_bytes r.0.after (is_hand h (command.SetStatus Up))) r.0.gives.executed.back in
      record {
        members = ap (λ (z : Facility). z.lists.members) does.1;
        statuses = inr (
          ap (λ (z : Held). z.marks.is_up) r.0.settles ∙ ap (λ (z : Reply). (up_after r.0.after.marks z).is_up) does.0,
          ap (λ (z : Held). z.marks.claim) r.0.settles ∙ ap (λ (z : Reply). (up_after r.0.after.marks z).claim) does.0 ∙ ap (λ (z : RestartState). z.claim) marks ∙ unclaimed,
          ap (λ (z : Facility). z.lists.statuses) does.1,
        );
      }

  stills : SendsLawfully → (i : RestartIntent) (x : RestartSent) → IsStill x → need_of h.marks i ≡ Ok x → Runs u h i x a said v k → Sets u.facility.lists v.facility.lists h.marks k.marks
  stills law i x still lawful r =
      let q = still_runs u v h k i x a said still r in
      kept u.facility v.facility h k q.members q.statuses (mild_runs is_still still_mild law u v h k i x a said (mild_still x still) lawful r).up

  sets : SendsLawfully → (i : RestartIntent) (x : RestartSent) → need_of h.marks i ≡ Ok x → Sends h.marks i x → Runs u h i x a said v k → Sets u.facility.lists v.facility.lists h.marks k.marks
  sets law (intent.Obtain id) x lawful sends r = obtains id sends.0 (subst (λ (z : RestartSent). Runs u h (intent.Obtain id) z a said v k) sends.1 r)
  sets law (intent.Grant id) x lawful sends r = grants id sends.0 (subst (λ (z : RestartSent). Runs u h (intent.Grant id) z a said v k) sends.1 r)
  sets law (intent.Ask id to) x lawful sends r = asks id to sends.0 (subst (λ (z : RestartSent). Runs u h (intent.Ask id to) z a said v k) sends.1 r)
  sets law intent.ReleasePage x lawful sends r = releases sends.0 (subst (λ (z : RestartSent). Runs u h intent.ReleasePage z a said v k) sends.1 r)
  sets law intent.PurgePage x lawful sends r = purges_page sends.0 (subst (λ (z : RestartSent). Runs u h intent.PurgePage z a said v k) sends.1 r)
  sets law (intent.Purge n) x lawful sends r = purges n (subst (λ (z : RestartSent). Runs u h (intent.Purge n) z a said v k) sends.0 r)
  sets law intent.Up x lawful sends r = rises sends.1 (subst (λ (z : RestartSent). Runs u h intent.Up z a said v k) sends.0 r)
  sets law intent.Step x lawful sends r = stills law intent.Step x sends lawful r
  sets law intent.ReadLog x lawful sends r = stills law intent.ReadLog x sends lawful r
  sets law intent.CutTail x lawful sends r = stills law intent.CutTail x sends lawful r
  sets law intent.RetainedAt x lawful sends r = stills law intent.RetainedAt x sends lawful r
  sets law intent.Read x lawful sends r = stills law intent.Read x sends lawful r
  sets law intent.ReadPage x lawful sends r = stills law intent.ReadPage x sends lawful r
  sets law intent.Test x lawful sends r = stills law intent.Test x sends lawful r
  sets law intent.WritePage x lawful sends r = stills law intent.WritePage x sends lawful r
  sets law intent.Append x lawful sends r = stills law intent.Append x sends lawful r
  sets law (intent.Answers id asked) x lawful sends r = stills law (intent.Answers id asked) x sends lawful r
  sets law (intent.Status who) x lawful sends r = stills law (intent.Status who) x sends lawful r
  sets law (intent.Undo id) x lawful sends r = stills law (intent.Undo id) x sends lawful r
  sets law intent.Unregister x lawful sends r = stills law intent.Unregister x sends lawful r

pub record Facts : Type 0 where
  pub lawful : SendsLawfully
  pub local : LocalsStay

ends_as : (f g : ListsState) (s t z : RestartState) → Sets f g s t → SameClaim t z → Sets f g s z
ends_as f g s t z e same = record { members = e.members; statuses = by e.statuses }
  where
    by : ((t.is_up ≡ s.is_up) × (g.statuses ≡ f.statuses)) ⊎ ((t.is_up ≡ true) × (t.claim ≡ None) × (g.statuses ≡ slice_set f.statuses (s.member - 1) Up))
        → ((z.is_up ≡ s.is_up) × (g.statuses ≡ f.statuses)) ⊎ ((z.is_up ≡ true) × (z.claim ≡ None) × (g.statuses ≡ slice_set f.statuses (s.member - 1) Up))
    by (inl x) = inl (same.up ∙ x.0, x.1)
    by (inr x) = inr (same.up ∙ x.0, same.claim ∙ x.1, x.2)

pub standings_follow : Facts → StandingsFollow
standings_follow facts u v h k x a e =
    ends_as u.facility.lists v.facility.lists h.marks e.after.marks k.marks
    (sets u v h e.after a e.said facts.lawful e.intent x e.lawful (facts.lawful h.marks e.intent x e.lawful) e.runs)
    (facts.local e.after.marks k.marks e.ends.0)
