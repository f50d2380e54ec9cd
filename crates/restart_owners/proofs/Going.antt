-- Any event of a restart, in both worlds.
use Rattle.std.proofs.Common.{◌≡◌, ◌≢◌, ◌⊎◌, ℕ, ◌≤◌, refl, sym, ◌∙◌, ap, subst, true, false, inl, inr, List, Option, Some}
use Rattle.std.specs.Prelude.{◌==◌, ◌&&◌}
use Rattle.std.proofs.lemmas.Bool.{and_parts, both_ways, cases_eq, eq-eqb, eqb-true, false_from_ne_true}
use Rattle.std.proofs.lemmas.Option.{none-some, same_Some}
use Rattle.ds_base.specs.Ids.{IsMember}
use Rattle.ds_base.specs.declared.names.PageId.{PageId}
use Rattle.lock_names.specs.Given.{Name}
use Rattle.lock_names.specs.Given.name_variants as name
use Rattle.lock_names.specs.declared.mode.Mode.TheVariants.{X}
use Rattle.lock_names.specs.Names.{same_name}
use Rattle.list_structure.specs.Standings.{is_live, status_of}
use Rattle.facility.specs.declared.command.Command.{Command}
use Rattle.facility.specs.declared.command.Command.TheVariants as command
use Rattle.facility.specs.States.{Held as Facility}
use Rattle.member_intents.specs.declared.outcome.Answered.{Answered}
use Rattle.member_resources.specs.Events.{World as Outside}
use Rattle.restart_marks.specs.declared.intent.RestartIntent.{RestartIntent}
use Rattle.restart_marks.specs.declared.told.RestartTold.{RestartTold}
use Rattle.restart_marks.specs.declared.intent.RestartSent.{RestartSent}
use Rattle.restart_marks.specs.declared.intent.RestartSent.TheVariants as sent
use Rattle.restart_marks.specs.State.{RestartState}
use Rattle.restart_resources.specs.Events as event
use Rattle.restart_resources.specs.Events.{Happens, Runs}
use Rattle.restart_resources.specs.Held.{Held}
use Rattle.restart_resources.specs.Lending.{is_hand, lent_bytes}
use Rattle.lock_protocol.specs.Machine.{World as LockWorld}
use Rattle.lock_protocol.specs.Own.{OthersKeep}
use Rattle.lock_protocol.specs.Sound.{RunKeepsSound, Sound}
use Rattle.lock_world.specs.Numbers.{number}
use Rattle.lock_world.specs.Tied.{Claims}
use Rattle.lock_world.specs.Views.{entry_in}
use Rattle.lock_restarts.specs.Changes.{gone_by}
use Rattle.lock_restarts.specs.Events.{EventsGo as LocksGo}
use Rattle.lock_restarts.specs.Sent.{SendsLawfully}
use Rattle.lock_restarts.specs.Stands.{Goes, IsRestarting, Knows, Leads, OwnClaims, known_with}
use Rattle.page_protocol.specs.Moves.{World}
use Rattle.page_world.specs.Holdings.{Holdings}
use Rattle.page_world.specs.Numbers.{page_at, page_number}
use Rattle.page_world.specs.Numbers as pages
use Rattle.page_restarts.specs.Beside.{as_restarting}
use Rattle.page_restarts.specs.Events.{EventLeads, EventsGo as PagesGo, frees_page, gives_page, takes_page}
use Rattle.page_restarts.specs.Stands.{Begins}
use Rattle.retained_pages.specs.Retained.{CommandsRetain, CommandsSpare, Retains, purges}
use Rattle.restart_owners.specs.Events.{BothRestart, BothSupply, EventsGo}
use Rattle.restart_owners.specs.Listing.{ListingGoes, RestartsRetain, purges_by}
use Rattle.restart_owners.specs.Owners.{OwnersStand, OwnsRestarting}
use Rattle.restart_owners.specs.Stages.{HasLeft, InBoth, InPages, StageGoes, StageLeads}
use Rattle.restart_owners.proofs.Courses.{ClaimGoes, Gives, Stays, Step, Takes, by_intent}
use Rattle.restart_owners.proofs.Following.{knows_both, knows_on, reaches}
use Rattle.restart_owners.proofs.Listing.{goes_near, spares_same}
use Rattle.restart_owners.proofs.Supplying.{claimed_there, still_sound}

-- ---- the page lock, behind the policy's local moves too
claim_on : (s t k : RestartState) (x : RestartSent) (a : Answered) → k.claim ≡ t.claim → ClaimGoes s t x a → ClaimGoes s k x a
claim_on s t k x a e (Stays same takes gives) = Stays (e ∙ same) takes gives
claim_on s t k x a e (Takes p now free takes gives) = Takes p (e ∙ now) free takes gives
claim_on s t k x a e (Gives p was now takes gives) = Gives p was (e ∙ now) takes gives

pub stepped : ((p : PageId) → page_at (page_number p) ≡ p) → CommandsSpare → SendsLawfully → (u v : event.World) (h k : Held) (x : RestartSent) (a : Answered) → Happens u h x a v k → Step u.facility v.facility h.marks k.marks x a
stepped named spare lawful u v h k x a happens =
    let mid = happens.after in
    let step = by_intent named spare lawful u v h mid a happens.said happens.intent x happens.lawful happens.runs in
    let on = reaches mid.marks k.marks happens.ends.0 in
    record {
      listing = λ l. goes_near v.facility v.facility mid.marks k.marks mid.marks.claim (spares_same v.facility v.facility mid.marks.member refl) on (step.listing l);
      claim = claim_on h.marks mid.marks k.marks x a on.claimed step.claim;
      member = on.member ∙ step.member;
      knows = knows_both h.marks mid.marks k.marks step.knows (knows_on mid.marks k.marks mid.marks.claim on);
    }

pub listing_goes : ((p : PageId) → page_at (page_number p) ≡ p) → CommandsSpare → SendsLawfully → ListingGoes
listing_goes named spare lawful u v h k x a happens l = (stepped named spare lawful u v h k x a happens).listing l

-- ---- retained page locks
ran_retains : CommandsRetain → (u v : event.World) (h k : Held) (i : RestartIntent) (x : RestartSent) (a : Answered) (said : RestartTold) (m : ℕ) (p : PageId)
    → Runs u h i x a said v k → (m ≡ h.marks.member → purges_by x p ≡ false) → Retains u.facility m p → Retains v.facility m p
ran_retains law u v h k i sent.None a said m p r none has = subst (λ (f : Facility). Retains f m p) (sym (ap (λ (z : event.World). z.facility) r.world)) has
ran_retains law u v h k i (sent.Command c) a said m p r none has = law u.facility v.facility h.marks.member c (lent_bytes h (is_hand h c)) (lent_bytes r.0.after (is_hand h c)) r.0.answer m p r.0.gives.executed.executes none has
ran_retains law u v h k i sent.LogLength a said m p r none has = subst (λ (f : Facility). Retains f m p) (sym r.1) has
ran_retains law u v h k i (sent.ReadLog at count) a said m p r none has = subst (λ (f : Facility). Retains f m p) (sym r.1) has
ran_retains law u v h k i (sent.CutLog long) a said m p r none has = subst (λ (f : Facility). Retains f m p) (sym r.1) has
ran_retains law u v h k i sent.AppendLog a said m p r none has = subst (λ (f : Facility). Retains f m p) (sym r.1) has
ran_retains law u v h k i (sent.ReadPage page) a said m p r none has = subst (λ (f : Facility). Retains f m p) (sym r.1) has

pub restarts_retain : CommandsRetain → RestartsRetain
restarts_retain law u v h k x a m p happens none has = ran_retains law u v h happens.after happens.intent x a happens.said m p happens.runs none has

-- ---- a page that isn't given up isn't freed
names_apart : (n : Name) (p : PageId) → ((q : PageId) → n ≡ name.Page q → p ≢ q) → same_name n (name.Page p) ≡ false
unfolding same_name
names_apart (name.Space t) p other = refl
names_apart (name.Row t k) p other = refl
names_apart (name.Page q) p other = false_from_ne_true ((q.set == p.set) && (q.number == p.number)) (λ e. (let both = and_parts (q.set == p.set) (q.number == p.number) e in
    let sets : p.set ≡ q.set = sym (eqb-true q.set p.set both.0) in
    let numbers : p.number ≡ q.number = sym (eqb-true q.number p.number both.1) in
    other q refl (λ i. record { set = sets i; number = numbers i })))
names_apart (name.Set s) p other = refl

unfreed : ((n : ℕ) → page_number (page_at n) ≡ n) → (c : Command) (n : ℕ) → frees_page c n ≡ false → purges c (page_at n) ≡ false
unfreed numbered (command.Purge m) n e = names_apart m (page_at n) (λ q is same. both_ways (n == page_number q) (ap (λ (z : Name). frees_page (command.Purge z) n) (sym is) ∙ e) (eq-eqb n (page_number q) (sym (numbered n) ∙ ap (λ z. page_number z) same)))
unfreed numbered (command.Obtain m mode) n e = refl
unfreed numbered (command.Grant slot m mode) n e = refl
unfreed numbered (command.Release m keeps) n e = refl
unfreed numbered (command.RetainedAt at) n e = refl
unfreed numbered (command.Read id index) n e = refl
unfreed numbered (command.Write id index) n e = refl
unfreed numbered (command.Unregister index) n e = refl
unfreed numbered (command.Test index) n e = refl
unfreed numbered (command.CastoutRead id) n e = refl
unfreed numbered (command.CastoutDone id) n e = refl
unfreed numbered (command.NextChanged past) n e = refl
unfreed numbered command.Lose n e = refl
unfreed numbered command.Rebuilt n e = refl
unfreed numbered (command.Ask slot to m mode) n e = refl
unfreed numbered (command.Take past) n e = refl
unfreed numbered (command.Answer asker m mode said event) n e = refl
unfreed numbered (command.Answers slot) n e = refl
unfreed numbered (command.Wait tran holder flag) n e = refl
unfreed numbered (command.Unwait tran) n e = refl
unfreed numbered command.Waits n e = refl
unfreed numbered (command.End tran) n e = refl
unfreed numbered (command.Raise flag) n e = refl
unfreed numbered (command.Flag flag) n e = refl
unfreed numbered (command.SetStatus status) n e = refl
unfreed numbered (command.Status member) n e = refl
unfreed numbered command.Claim n e = refl
unfreed numbered command.Unclaim n e = refl
unfreed numbered command.PhaseDone n e = refl
unfreed numbered (command.Draw indexes) n e = refl
unfreed numbered (command.DrawUndo indexes) n e = refl

unfreed_by : ((n : ℕ) → page_number (page_at n) ≡ n) → (x : RestartSent) (n : ℕ) → gives_page x n ≡ false → purges_by x (page_at n) ≡ false
unfreed_by numbered sent.None n e = refl
unfreed_by numbered (sent.Command c) n e = unfreed numbered c n e
unfreed_by numbered sent.LogLength n e = refl
unfreed_by numbered (sent.ReadLog at count) n e = refl
unfreed_by numbered (sent.CutLog long) n e = refl
unfreed_by numbered sent.AppendLog n e = refl
unfreed_by numbered (sent.ReadPage page) n e = refl

-- ---- where it stands in its world of pages
begins_in : (w : World) (u : Outside) (g : Holdings) (content : ℕ → ℕ → List ℕ) (forced : ℕ → ℕ) (h : Held) → InPages w u g content forced h → Begins w g content forced h
begins_in w u g content forced h (inl reading) = reading.begins
begins_in w u g content forced h (inr read) = read.begins

facility_in : (w : World) (u : Outside) (g : Holdings) (content : ℕ → ℕ → List ℕ) (forced : ℕ → ℕ) (h : Held) → InPages w u g content forced h → g.facility ≡ u.facility
facility_in w u g content forced h (inl reading) = reading.facility
facility_in w u g content forced h (inr read) = read.facility

in_both : (w : World) (l : LockWorld) (u : Outside) (g : Holdings) (content : ℕ → ℕ → List ℕ) (forced : ℕ → ℕ) (held : Claims) (own : OwnClaims) (h : Held) → BothRestart w l u g content forced held own h → InBoth w l u g content forced held own h
in_both w l u g content forced held own h b = record { pages = inr b.pages; sound = b.sound; tied = b.tied; restarts = b.restarts; knows = b.knows; owners = b.owners; owns = b.owns }

pub staged : (w : World) (v : Outside) (g : Holdings) (content : ℕ → ℕ → List ℕ) (forced : ℕ → ℕ) (h k : Held) (s : RestartSent) (a : Answered) → EventLeads w v g content forced h k s a → StageLeads w v g content forced h k s a
staged w v g content forced h k s a e = record {
  moves = e.leads.moves;
  world = e.leads.world;
  run = e.leads.run;
  left = e.leads.left;
  versions = e.leads.versions;
  force = e.leads.force;
  pages = inr e.leads.beside;
  same = e.leads.same;
  others = e.leads.others;
  owns = e.owns;
  kept = e.leads.kept;
  casts = e.leads.casts;
  level = e.leads.level;
}

-- ---- where page locks and claims go
pub record Known : Type 0 where
  pub pages : pages.AreNumbered
  pub lawful : SendsLawfully
  pub spare : CommandsSpare
  pub retain : RestartsRetain
  pub run : RunKeepsSound
  pub others : OthersKeep
  pub locks : LocksGo

module _ (facts : Known) (w : World) (l : LockWorld) (u v : Outside) (g : Holdings) (content : ℕ → ℕ → List ℕ) (forced : ℕ → ℕ) (held left : Claims) (own : OwnClaims) (h k : Held) (s : RestartSent) (a : Answered)
    (b : InBoth w l u g content forced held own h) (happens : Happens (as_restarting u) h s a (as_restarting v) k) (leads : Leads held left own h.marks k.marks) (paged : StageLeads w v g content forced h k s a) (locked : Goes l u.facility v.facility left h.marks.member (gone_by s)) where
  abbrev after : ℕ → Option ℕ
  after = paged.left.owner

  same : k.marks.member ≡ h.marks.member
  same = paged.same

  claim : ClaimGoes h.marks k.marks s a
  claim = (stepped facts.pages.named facts.spare facts.lawful (as_restarting u) (as_restarting v) h k s a happens).claim

  -- the page whose lock it has is its member's
  has : ClaimGoes h.marks k.marks s a → (p : PageId) → k.marks.claim ≡ Some p → after (page_number p) ≡ Some h.marks.member
  has (Stays kept takes gives) p e = let was : h.marks.claim ≡ Some p = sym kept ∙ e in paged.owns.keeps (page_number p) (gives p was) (b.owns.claimed p was)
  has (Takes q now free takes gives) p e = let is : q ≡ p = same_Some q p (sym now ∙ e) in paged.owns.takes (page_number p) (takes (page_number p) ∙ eq-eqb (page_number p) (page_number q) (ap (λ z. page_number z) (sym is)))
  has (Gives q was now takes gives) p e = absurd (none-some p (sym now ∙ e))

  -- and of all others the locks are retained
  keeps : ClaimGoes h.marks k.marks s a → (n : ℕ) → after n ≡ Some h.marks.member → (k.marks.claim ≡ Some (page_at n)) ⊎ Retains v.facility h.marks.member (page_at n)
  keeps goes n owned = elim (paged.owns.only n owned) [
    | inl takes ↦ taken goes takes
    | inr kept ↦ elim (b.owns.retained n kept.1) [
      | inl was ↦ inl (still goes was kept.0)
      | inr retained ↦ inr (facts.retain (as_restarting u) (as_restarting v) h k s a h.marks.member (page_at n) happens (λ _. unfreed_by facts.pages.numbered s n kept.0) retained)
    ]
  ]
    where
      taken : ClaimGoes h.marks k.marks s a → takes_page s a n ≡ true → (k.marks.claim ≡ Some (page_at n)) ⊎ Retains v.facility h.marks.member (page_at n)
      taken (Stays kept takes gives) e = absurd (both_ways (takes_page s a n) (takes n) e)
      taken (Takes q now free takes gives) e = inl (now ∙ ap Some (sym (facts.pages.named q) ∙ ap (λ z. page_at z) (sym (eqb-true n (page_number q) (sym (takes n) ∙ e)))))
      taken (Gives q was now takes gives) e = absurd (both_ways (takes_page s a n) (takes n) e)

      still : ClaimGoes h.marks k.marks s a → h.marks.claim ≡ Some (page_at n) → gives_page s n ≡ false → k.marks.claim ≡ Some (page_at n)
      still (Stays kept takes gives) was e = kept ∙ was
      still (Takes q now (inl none) takes gives) was e = absurd (none-some (page_at n) (sym none ∙ was))
      still (Takes q now (inr own) takes gives) was e = now ∙ sym own ∙ was
      still (Gives q own now takes gives) was e = absurd (both_ways (gives_page s n) e (ap (gives_page s) (sym (facts.pages.numbered n) ∙ ap (λ z. page_number z) (same_Some (page_at n) q (sym was ∙ own))) ∙ gives))

  owns : OwnsRestarting v.facility after k.marks
  owns = record {
    claimed = λ p e. has claim p e ∙ ap Some (sym same);
    retained = λ n e. elim (keeps claim n (e ∙ ap Some same)) [
      | inl claimed ↦ inl claimed
      | inr retained ↦ inr (subst (λ z. Retains v.facility z (page_at n)) (sym same) retained)
    ];
  }

  -- ---- in the world of locks
  live : locked.moved.world.live h.marks.member ≡ true
  live =
      let r = (begins_in paged.world v paged.left paged.versions paged.force k paged.pages).restarts in
      let there : paged.left.facility ≡ v.facility = facility_in paged.world v paged.left paged.versions paged.force k paged.pages in
      let among = subst (λ z. z ≤ paged.left.facility.lists.members) same r.among in
      locked.moved.tied.live h.marks.member b.restarts.member.0 (subst (λ (f : Facility). h.marks.member ≤ f.lists.members) there among)
      ∙ ap is_live (ap (λ (f : Facility). status_of f.lists.statuses h.marks.member) (sym there) ∙ ap (status_of paged.left.facility.lists.statuses) (sym same) ∙ r.restarts)

  owners : OwnersStand locked.moved.world v.facility after
  owners n q owned = elim (cases_eq q h.marks.member) [
    | inl is ↦ elim (keeps claim n (owned ∙ ap Some is)) [
      | inl claimed ↦ inl (subst (λ z. locked.moved.world.claims z 0 (number (name.Page (page_at n))) ≡ Some X) (sym is)
          (claimed_there locked.moved.world v.facility left own h.marks.member k.marks.claim (page_at n) locked.moved.tied live b.restarts.pages leads.knows claimed))
      | inr retained ↦ inr (subst (λ z. Retains v.facility z (page_at n)) (sym is) retained)
    ]
    | inr ne ↦ elim (b.owners n q (paged.others.takes q n ne owned)) [
      | inl there ↦ inl (facts.others (entry_in u.facility.locks) h.marks.member locked.moves l locked.moved.world locked.own locked.moved.run q 0 (number (name.Page (page_at n))) ne ∙ there)
      | inr retained ↦ inr (facts.retain (as_restarting u) (as_restarting v) h k s a q (page_at n) happens (λ e. absurd (ne e)) retained)
    ]
  ]

  sound : Sound (entry_in v.facility.locks) locked.moved.world
  sound = still_sound facts.run l locked.moves u.facility.locks v.facility.locks v.facility.lists left b.sound locked.moved

  knows : Knows left own k.marks
  knows o c = subst (λ z. left z o c ≡ known_with own k.marks.claim o c) (sym same) (leads.knows o c)

  restarts : HasLeft own k.marks → IsRestarting v.facility own k.marks
  restarts handed =
      let r = (begins_in paged.world v paged.left paged.versions paged.force k paged.pages).restarts in
      let there : paged.left.facility ≡ v.facility = facility_in paged.world v paged.left paged.versions paged.force k paged.pages in
      let was : g.facility ≡ u.facility = facility_in w u g content forced h b.pages in
      record {
        member = subst (λ z. IsMember z) (sym same) b.restarts.member;
        among = subst (λ (f : Facility). k.marks.member ≤ f.lists.members) there r.among;
        few = subst (λ (z : ℕ). z ≤ 32) (sym (ap (λ (f : Facility). f.lists.members) (sym there) ∙ paged.others.members ∙ ap (λ (f : Facility). f.lists.members) was)) b.restarts.few;
        restarts = ap (λ (f : Facility). status_of f.lists.statuses k.marks.member) (sym there) ∙ r.restarts;
        pages = b.restarts.pages;
        left = handed;
      }

  pub stage_goes : StageGoes w l u v g content forced left own h k s a
  stage_goes = record {
    pages = paged;
    locks = locked;
    owners = owners;
    again = λ handed. record { pages = paged.pages; sound = sound; tied = locked.moved.tied; restarts = restarts handed; knows = knows; owners = owners; owns = owns };
  }

-- ---- one that has read its log
pub record Facts : Type 0 where
  pub known : Known
  pub page : PagesGo
  pub supply : BothSupply

pub events_go : Facts → EventsGo
unfolding staged
events_go facts w l u v g content forced held left own h k s a b happens up tells frees leads =
    let paged = facts.page w u v g content forced h k s a b.pages happens up (facts.supply w l u v g content forced held own h k s a b happens tells) in
    let locked = facts.known.locks l (as_restarting u) (as_restarting v) held left own h k s a b.tied b.restarts b.knows frees happens leads in
    let both = in_both w l u g content forced held own h b in
    let led = staged w v g content forced h k s a paged in
    record {
      pages = paged;
      locks = locked;
      sound = sound facts.known w l u v g content forced held left own h k s a both happens leads led locked;
      owners = owners facts.known w l u v g content forced held left own h k s a both happens leads led locked;
      owns = owns facts.known w l u v g content forced held left own h k s a both happens leads led locked;
    }
