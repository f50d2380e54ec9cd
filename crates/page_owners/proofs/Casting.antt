-- A member casts pages out while its restart is in hand.
use Rattle.std.proofs.Common.{◌≡◌, ◌≢◌, ℕ, refl, sym, ◌∙◌, ap, subst, Bool, true, false, inl, inr, List, Option, Some, None, Result, Ok, Err, arith}
use Rattle.std.specs.Prelude.{◌⊎◌, ◌||◌, ◌==◌, not}
use Rattle.std.specs.FinMap.{insert}
use Rattle.std.proofs.lemmas.Bool.{both_ways, cond-false, cond-true, eq-eqb, eqb-true, ne_eqb, or_cases}
use Rattle.ds_base.specs.declared.names.PageId.{PageId}
use Rattle.ds_disk.specs.Contents.{Becomes, Contents}
use Rattle.ds_disk.specs.declared.disk.DiskError.{DiskError}
use Rattle.ds_disk.specs.declared.disk.DiskError.TheVariants.{Failed, NoMemory}
use Rattle.cache_structure.specs.Directory.{Directory, after_castout_done, after_castout_read, castout_of}
use Rattle.cache_structure.specs.Replies.{cast_reply, done_reply}
use Rattle.cache_structure.specs.Sound.{IsSound}
use Rattle.cache_structure.specs.declared.face.CastReply.{CastReply}
use Rattle.cache_structure.specs.declared.face.CastReply.TheVariants as cast
use Rattle.cache_structure.specs.declared.face.DoneReply.{DoneReply}
use Rattle.cache_structure.specs.declared.face.DoneReply.TheVariants as done
use Rattle.list_structure.specs.Standings.{status_of}
use Rattle.facility.specs.declared.command.Command.TheVariants as command
use Rattle.facility.specs.CacheCommands.{lists_after_done, reply_to_cast}
use Rattle.facility.specs.States.{Held as Facility, castout_member}
use Rattle.member_intents.specs.declared.intent.Intent.{Intent}
use Rattle.member_intents.specs.declared.intent.Intent.TheVariants as intent
use Rattle.member_intents.specs.declared.outcome.Answered.{Answered}
use Rattle.member_intents.specs.declared.outcome.Answered.TheVariants as answered
use Rattle.member_intents.specs.declared.outcome.Sent.{Sent}
use Rattle.member_intents.specs.declared.outcome.Sent.TheVariants as sent
use Rattle.member_needs.specs.declared.castout.Cast.{Cast}
use Rattle.member_needs.specs.declared.plans.Plan.{Plan}
use Rattle.member_needs.specs.Castout.{done as done_sent}
use Rattle.needs_law.specs.Lawful.{EndsCast, Lawful, SendsLawfully, WritesCast}
use Rattle.member_effects.specs.declared.told.Told.{Told}
use Rattle.member_resources.specs.Held.{Held, begun, with_cast}
use Rattle.member_resources.specs.Prepared.{Reserves, is_holder, setting_of}
use Rattle.member_resources.specs.Settled.{cast_read, stored, written_cast}
use Rattle.member_resources.specs.Events as event
use Rattle.member_resources.specs.Events.{Drive, Ends, Runs, RunsCall, RunsCommand, Stores, WritesPage, holder_in}
use Rattle.page_protocol.specs.Page.{put}
use Rattle.page_protocol.specs.Moves.{World}
use Rattle.page_protocol.specs.Always.{AlwaysGood}
use Rattle.page_world.specs.Numbers.{page_number, set_of}
use Rattle.page_world.specs.Holdings.{Holdings}
use Rattle.page_intents.specs.Castouts.{AnyDoneGoes, AnyReadGoes, AnyWriteGoes, CastGoes, HasCast, LeavesMember, cast_behind, cast_of, taken_cast}
use Rattle.page_members.specs.Members.{Group, SameOthers, Shows, WritesShow}
use Rattle.group_member.specs.Members.{Member}
use Rattle.page_owners.specs.Casting.{CastLeads, CastsGo}
use Rattle.page_owners.specs.Resting.{casts_out}
use Rattle.page_owners.proofs.InX.{is_lawful}

pub record Facts : Type 0 where
  pub good : AlwaysGood
  pub read_sound : (d : Directory) (member : ℕ) (id : PageId) → IsSound d → IsSound (after_castout_read d member id)
  pub done_sound : (d : Directory) (member : ℕ) (id : PageId) → IsSound d → IsSound (after_castout_done d member id)
  pub any_read : AnyReadGoes
  pub any_write : AnyWriteGoes
  pub any_done : AnyDoneGoes
  pub show : WritesShow
  pub lawful : SendsLawfully

-- ---- what stays of the others, and of the member
record KeepsLists (f after : Facility) : Type 0 where
  members : after.lists.members ≡ f.lists.members
  statuses : after.lists.statuses ≡ f.lists.statuses
  counter : after.counter ≡ f.counter

read_lists : (f v : Facility) (x : Directory) → v ≡ record f { directory = x } → KeepsLists f v
read_lists f v x e = subst (λ z. KeepsLists f z) (sym e) (record { members = refl; statuses = refl; counter = refl })

rung_lists : (f : Facility) (x : Directory) (r : DoneReply) → KeepsLists f (record f { directory = x; lists = lists_after_done r f.lists })
rung_lists f x done.Done = record { members = refl; statuses = refl; counter = refl }
rung_lists f x done.NotHeld = record { members = refl; statuses = refl; counter = refl }
rung_lists f x done.Lost = record { members = refl; statuses = refl; counter = refl }

others : (g : Holdings) (f : Facility) (forced : ℕ → ℕ) (m : ℕ) (x : Option Cast) (buffer : List ℕ) (disk : ℕ → List ℕ) → KeepsLists g.facility f → SameOthers g (record (cast_behind g f m x buffer) { disk = disk }) forced forced m
others g f forced m x buffer disk s = record {
  members = s.members;
  statuses = λ k l ne. ap (λ z. status_of z k) s.statuses;
  counter = (let e = s.counter in omega (arith, e));
  log = λ k ne. refl;
  stable = λ k ne. refl;
  written = λ k ne. refl;
  copies = λ k n ne. refl;
  casts = λ k n ne. cond-false (k == m) (cast_of x buffer n) (g.casts k n) (ne_eqb k m ne);
  keeps = λ k n ne e. e;
  takes = λ k n ne e. e;
}

own : (g : Holdings) (f : Facility) (m : ℕ) (x : Option Cast) (buffer : List ℕ) (disk : ℕ → List ℕ) → KeepsLists g.facility f → LeavesMember g (record (cast_behind g f m x buffer) { disk = disk }) m
own g f m x buffer disk s = record { standing = ap (λ z. status_of z m) s.statuses; stable = refl; written = refl; copies = λ n. refl; owner = refl }

in_hand : (g : Holdings) (f : Facility) (m : ℕ) (x : Option Cast) (buffer : List ℕ) (disk : ℕ → List ℕ) → HasCast (record (cast_behind g f m x buffer) { disk = disk }) m x buffer
in_hand g f m x buffer disk n = cond-true (m == m) (cast_of x buffer n) (g.casts m n) (eq-eqb m m refl)

-- what it has in hand, by another name
same_hand : (g : Holdings) (m : ℕ) (x y : Option Cast) (buffer : List ℕ) → y ≡ x → HasCast g m x buffer → HasCast g m y buffer
same_hand g m x y buffer e has = subst (λ z. HasCast g m z buffer) (sym e) has

-- ---- a disk call that was done
was_done : (after k : Held) (i : Intent) (x : Result (Unit {0}) DiskError) (a : Answered) (told : Told) → a ≢ answered.Failed → Stores after i x a told k → (x ≡ Ok tt) × (k ≡ stored after i)
was_done after k i (Ok y) a told works e = (refl, e.2)
was_done after k i (Err Failed) a told works e = absurd (works e.0)
was_done after k i (Err NoMemory) a told works e = absurd e

went_on : (d e : Drive) (pages : ℕ → List ℕ) (s : Shows d pages) (P : Contents → Contents → Type 0) → Becomes d.contents e.contents P → (x : Contents) × (e.contents ≡ Some x) × P s.contents x
went_on d e pages s P b = by e.contents refl (subst (λ z. Becomes z e.contents P) s.told b)
  where
    by : (o : Option Contents) → e.contents ≡ o → Becomes (Some s.contents) e.contents P → (x : Contents) × (e.contents ≡ Some x) × P s.contents x
    by None is b = absurd (subst (λ z. Becomes (Some s.contents) z P) is b)
    by (Some x) is b = (x, is, subst (λ z. Becomes (Some s.contents) z P) is b)

-- ---- what a group comes to behind moves that leave it so
module _ (facts : Facts) (w : World) (g : Holdings) (content : ℕ → ℕ → List ℕ) (forced : ℕ → ℕ) (h : Held) (d : Drive) (v : event.World) (b : Group w g content forced) (shows : Shows d g.disk) (has : HasCast g h.marks.member h.cast h.buffer) where
  abbrev Leads : Held → Type 0
  Leads k = CastLeads w v g content forced h k

  leads : (k : Held) (f : Facility) (disk : ℕ → List ℕ) → CastGoes w content forced (record (cast_behind g f h.marks.member k.cast k.buffer) { disk = disk }) → KeepsLists g.facility f → IsSound f.directory → f ≡ v.facility → Shows v.drive disk → Leads k
  leads k f disk c s sound facility drive = record {
    left = record (cast_behind g f h.marks.member k.cast k.buffer) { disk = disk };
    goes = record {
      moves = c.moves;
      world = c.moved.world;
      run = c.moved.run;
      stands = record { good = facts.good set_of c.moves w c.moved.world b.good c.moved.run; tied = c.moved.tied; numbered = c.numbered; sound = sound };
      others = others g f forced h.marks.member k.cast k.buffer disk s;
    };
    facility = facility;
    drive = drive;
    cast = in_hand g f h.marks.member k.cast k.buffer disk;
    own = own g f h.marks.member k.cast k.buffer disk s;
  }

  drive_on : v.drive ≡ d → Shows v.drive g.disk
  drive_on same = subst (λ z. Shows z g.disk) (sym same) shows

  -- ---- the page is read
  taken_by : (k : Held) (page : PageId) (x : CastReply) → cast_read k page (reply_to_cast x) ≡ with_cast k (taken_cast k.cast page (reply_to_cast x))
  taken_by k page cast.Taken = refl
  taken_by k page cast.NotChanged = refl
  taken_by k page (cast.Locked by) = refl
  taken_by k page cast.Lost = refl

  reads : (k : Held) (page : PageId) (p : Plan) (place : ℕ) (a : Answered) (told : Told) → v.drive ≡ d → RunsCommand g.facility h (intent.CastoutRead page) (command.CastoutRead page) p place a told v.facility k → Leads k
  reads k page p place a told drive r =
      let m = h.marks.member in
      let it = r.gives.executed in
      let x = after_castout_read g.facility.directory m page in
      let end = with_cast (record h { buffer = r.after.buffer }) (taken_cast h.cast page r.answer) in
      let taken : cast_read r.after page r.answer ≡ with_cast r.after (taken_cast r.after.cast page r.answer) =
      subst (λ z. cast_read r.after page z ≡ with_cast r.after (taken_cast r.after.cast page z)) (sym it.executes.0) (taken_by r.after page (cast_reply g.facility.directory m page)) in
      let is : k ≡ end = r.settles.1 ∙ taken ∙ ap (λ (z : Held). with_cast z (taken_cast z.cast page r.answer)) it.back in
      subst (λ z. Leads z) (sym is)
      (leads end v.facility g.disk (facts.any_read w g content forced m h.cast h.buffer r.after.buffer page r.answer v.facility b.tied b.numbered has it.executes)
      (read_lists g.facility v.facility x it.executes.1) (subst (λ (z : Facility). IsSound z.directory) (sym it.executes.1) (facts.read_sound g.facility.directory m page b.sound)) refl (drive_on drive))

  -- ---- the castout ends, by an intent that leaves none in hand
  over : (k : Held) (hand : Cast) (i : Intent) (p : Plan) (place : ℕ) (a : Answered) (told : Told) → h.cast ≡ Some hand → (hand.is_written ≡ true) ⊎ (castout_member g.facility hand.page ≢ Some h.marks.member) → v.drive ≡ d
      → (r : RunsCommand g.facility h i (command.CastoutDone hand.page) p place a told v.facility k) → k ≡ with_cast r.after None → Leads k
  over k hand i p place a told taken may drive r left =
      let m = h.marks.member in
      let it = r.gives.executed in
      let x = after_castout_done g.facility.directory m hand.page in
      let end = with_cast (record h { spare = r.after.spare }) None in
      let is : k ≡ end = left ∙ ap (λ (z : Held). with_cast z None) it.back in
      subst (λ z. Leads z) (sym is)
      (leads end v.facility g.disk (facts.any_done w g content forced m hand h.buffer r.answer v.facility b.good b.tied b.numbered (same_hand g m h.cast (Some hand) h.buffer (sym taken) has) may it.executes.0)
      (subst (λ z. KeepsLists g.facility z) (sym it.executes.0.1) (rung_lists g.facility x (done_reply g.facility.directory m hand.page)))
      (subst (λ (z : Facility). IsSound z.directory) (sym it.executes.0.1) (facts.done_sound g.facility.directory m hand.page b.sound)) refl (drive_on drive))

  -- ---- who has the castout lock
  held_by : (hand : Cast) → h.cast ≡ Some hand → is_holder h (holder_in g.facility h.cast) ≡ true → castout_member g.facility hand.page ≡ Some h.marks.member
  held_by hand taken e = by (castout_of g.facility.directory hand.page) refl (subst (λ z. is_holder h (holder_in g.facility z) ≡ true) taken e)
    where
      by : (o : Option ℕ) → castout_of g.facility.directory hand.page ≡ o → is_holder h o ≡ true → castout_member g.facility hand.page ≡ Some h.marks.member
      by None is x = absurd (cc x)
      by (Some q) is x = is ∙ ap Some (eqb-true q h.marks.member x)

  not_held : (hand : Cast) → h.cast ≡ Some hand → is_holder h (holder_in g.facility h.cast) ≡ false → castout_member g.facility hand.page ≢ Some h.marks.member
  not_held hand taken e mine =
      both_ways (is_holder h (holder_in g.facility h.cast)) e (ap (λ z. is_holder h (holder_in g.facility z)) taken ∙ ap (is_holder h) mine ∙ eq-eqb h.marks.member h.marks.member refl)

  turned : (x : Bool) → not x ≡ true → x ≡ false
  turned true e = absurd (cc e)
  turned false e = refl

  may_end : (hand : Cast) → h.cast ≡ Some hand → (hand.is_written || not (is_holder h (holder_in g.facility h.cast))) ≡ true → (hand.is_written ≡ true) ⊎ (castout_member g.facility hand.page ≢ Some h.marks.member)
  may_end hand taken e = elim (or_cases hand.is_written (not (is_holder h (holder_in g.facility h.cast))) e) [
    | inl written ↦ inl written
    | inr other ↦ inr (not_held hand taken (turned (is_holder h (holder_in g.facility h.cast)) other))
  ]

  -- ---- the page is written
  writes : (k : Held) (hand : Cast) (a : Answered) (told : Told) → h.cast ≡ Some hand → is_holder h (holder_in g.facility h.cast) ≡ true → a ≢ answered.Failed → v.facility ≡ g.facility
      → RunsCall d h intent.CastoutWrite (sent.WritePage hand.page) a told v.drive k → Leads k
  writes k hand a told taken holds works same r =
      let m = h.marks.member in
      let n = page_number hand.page in
      let finished = was_done r.after k intent.CastoutWrite r.done a told works r.stores in
      let calls = subst (λ z. WritesPage d h hand.page z v.drive r.after) finished.0 r.calls in
      let next = went_on d v.drive g.disk shows (λ x y. y ≡ record x { pages = insert x.pages hand.page h.buffer }) calls.0.ok.2 in
      let end = with_cast h (Some (record hand { is_written = true })) in
      let is : k ≡ end = finished.1 ∙ ap (λ (z : Held). with_cast z (written_cast z.cast)) calls.1 ∙ ap (λ z. with_cast h (written_cast z)) taken in
      subst (λ z. Leads z) (sym is)
      (leads end g.facility (put g.disk n h.buffer) (facts.any_write w g content forced m hand h.buffer b.tied b.numbered (same_hand g m h.cast (Some hand) h.buffer (sym taken) has) (held_by hand taken holds))
      (record { members = refl; statuses = refl; counter = refl }) b.sound (sym same) (facts.show d v.drive g.disk shows next.0 hand.page h.buffer next.1 (ap (λ (z : Contents). z.pages) next.2)))

-- ---- by intent

-- what runs, with the member ready, and what it sends
ran : (u v : event.World) (h ready k : Held) (i : Intent) (s t : Sent) (p : Plan) (place : ℕ) (a : Answered) (told : Told) → ready ≡ h → s ≡ t → Runs u (begun ready place) i s p place a told v k → Runs u (begun h place) i t p place a told v k
ran u v h ready k i s t p place a told e is r = subst (λ z. Runs u (begun h place) i z p place a told v k) is (subst (λ z. Runs u (begun z place) i s p place a told v k) e r)

module _ (facts : Facts) (w : World) (g : Holdings) (content : ℕ → ℕ → List ℕ) (forced : ℕ → ℕ) (h ready k : Held) (d : Drive) (v : event.World) (s : Sent) (p : Plan) (place : ℕ) (a : Answered) (told : Told) (b : Group w g content forced) (shows : Shows d g.disk)
    (has : HasCast g h.marks.member h.cast h.buffer) (works : a ≢ answered.Failed) where
  abbrev now : Held
  now = begun h place

  abbrev there : event.World
  there = record { facility = g.facility; drive = d }

  abbrev Goes : Type 0
  Goes = CastLeads w v g content forced h k

  -- the member as it was before the event
  back : CastLeads w v g content forced now k → Goes
  back c = record { left = c.left; goes = c.goes; facility = c.facility; drive = c.drive; cast = c.cast; own = c.own }

  never : {A : Type 0} → false ≡ true → A
  never e = absurd (cc e)

  wrote : WritesCast (setting_of h (holder_in g.facility h.cast) place) s → ready ≡ h → Runs there (begun ready place) intent.CastoutWrite s p place a told v k → Goes
  wrote lawful e r = by (is_holder h (holder_in g.facility h.cast)) refl
    where
      by : (z : Bool) → is_holder h (holder_in g.facility h.cast) ≡ z → Goes
      by true y =
          let q = ran there v h ready k intent.CastoutWrite s (sent.WritePage lawful.cast.page) p place a told e (lawful.is ∙ cond-true (is_holder h (holder_in g.facility h.cast)) (sent.WritePage lawful.cast.page) (done_sent lawful.cast.page) y) r in
          back (writes facts w g content forced now d v b shows has k lawful.cast a told lawful.taken y works q.1 q.0)
      by false y =
          let q = ran there v h ready k intent.CastoutWrite s (sent.Command (command.CastoutDone lawful.cast.page)) p place a told e (lawful.is ∙ cond-false (is_holder h (holder_in g.facility h.cast)) (sent.WritePage lawful.cast.page) (done_sent lawful.cast.page) y) r in
          back (over facts w g content forced now d v b shows has k lawful.cast intent.CastoutWrite p place a told lawful.taken (inr (not_held facts w g content forced now d v b shows has lawful.cast lawful.taken y)) q.1 q.0 q.0.settles.1)

  ended : EndsCast (setting_of h (holder_in g.facility h.cast) place) s → ready ≡ h → Runs there (begun ready place) intent.CastoutDone s p place a told v k → Goes
  ended lawful e r =
      let q = ran there v h ready k intent.CastoutDone s (sent.Command (command.CastoutDone lawful.cast.page)) p place a told e lawful.is r in
      back (over facts w g content forced now d v b shows has k lawful.cast intent.CastoutDone p place a told lawful.taken (may_end facts w g content forced now d v b shows has lawful.cast lawful.taken lawful.ends) q.1 q.0 q.0.settles.1)

  by_intent : (i : Intent) → casts_out i ≡ true → Lawful h.marks h.pages (setting_of h (holder_in g.facility h.cast) place) i s → Reserves i h ready → Runs there (begun ready place) i s p place a told v k → Goes
  by_intent (intent.CastoutRead page) so lawful e r =
      let q = ran there v h ready k (intent.CastoutRead page) s (sent.Command (command.CastoutRead page)) p place a told e lawful r in
      back (reads facts w g content forced now d v b shows has k page p place a told q.1 q.0)
  by_intent intent.CastoutWrite so lawful e r = wrote lawful e r
  by_intent intent.CastoutDone so lawful e r = ended lawful e r
  by_intent intent.Step so lawful e r = never so
  by_intent (intent.Obtain o n m) so lawful e r = never so
  by_intent (intent.Grant o n m) so lawful e r = never so
  by_intent (intent.Ask o to n m) so lawful e r = never so
  by_intent (intent.Answers o n m asked) so lawful e r = never so
  by_intent (intent.Status member) so lawful e r = never so
  by_intent (intent.Take past) so lawful e r = never so
  by_intent (intent.Answer asker n m) so lawful e r = never so
  by_intent (intent.ReleaseLock o) so lawful e r = never so
  by_intent (intent.ReleasePage page) so lawful e r = never so
  by_intent (intent.Purge n) so lawful e r = never so
  by_intent (intent.End o) so lawful e r = never so
  by_intent (intent.Wait slot by flag) so lawful e r = never so
  by_intent (intent.Unwait slot) so lawful e r = never so
  by_intent (intent.Waits slots) so lawful e r = never so
  by_intent (intent.Flag flag) so lawful e r = never so
  by_intent (intent.Raise flag) so lawful e r = never so
  by_intent intent.LoseCache so lawful e r = never so
  by_intent (intent.Read at) so lawful e r = never so
  by_intent (intent.ReadPage at) so lawful e r = never so
  by_intent (intent.Test at slot gives) so lawful e r = never so
  by_intent (intent.WritePage at) so lawful e r = never so
  by_intent (intent.Unregister at) so lawful e r = never so
  by_intent (intent.Change slot action frames) so lawful e r = never so
  by_intent (intent.Undo o at) so lawful e r = never so
  by_intent (intent.Commit slot) so lawful e r = never so
  by_intent intent.Append so lawful e r = never so
  by_intent (intent.NextChanged past) so lawful e r = never so
  by_intent intent.PhaseDone so lawful e r = never so

-- ---- and then the policy's local moves
settled_on : (w : World) (v : event.World) (g : Holdings) (content : ℕ → ℕ → List ℕ) (forced : ℕ → ℕ) (h k : Held) (n : Held) → Ends k n → CastLeads w v g content forced h k → CastLeads w v g content forced h n
settled_on w v g content forced h k n ends c = subst (λ z. CastLeads w v g content forced h z) (sym ends.1) (record { left = c.left; goes = c.goes; facility = c.facility; drive = c.drive; cast = c.cast; own = c.own })

pub casts_go : Facts → CastsGo
casts_go facts w g content forced m n u v place s a b facility drive has acts so works =
    let h = m.holds in
    let e = acts.happens in
    let there : event.World = record { facility = g.facility; drive = u.drive } in
    let same : there ≡ u = (λ i. record { facility = facility i; drive = u.drive }) in
    let lawful = subst (λ (z : event.World). Lawful h.marks h.pages (setting_of h (holder_in z.facility h.cast) place) acts.intent s) (sym same) (is_lawful facts.lawful u h acts.intent place s e.plan e.lawful) in
    let runs = subst (λ z. Runs z (begun e.ready place) acts.intent s e.plan place a e.said v e.after) (sym same) e.runs in
    let ran = by_intent facts w g content forced h e.ready e.after u.drive v s e.plan place a e.said b drive has works acts.intent so lawful e.reserves runs in
    subst (λ (z : Member). CastLeads w v g content forced m.holds z.holds) (sym acts.member) (settled_on w v g content forced h e.after acts.after e.ends ran)
