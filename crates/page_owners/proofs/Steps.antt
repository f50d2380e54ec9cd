-- An event of one member, in both worlds, and all others as they were.
use Rattle.std.proofs.Common.{◌≡◌, ◌≢◌, ℕ, ◌≤◌, refl, sym, ◌∙◌, ap, subst, Bool, true, false, inl, inr, List, [], ◌∷◌, length, Option, Some, None}
use Rattle.std.specs.Prelude.{◌==◌, if◌then◌else◌}
use Rattle.std.proofs.lemmas.Bool.{both_ways, cases_Bool, cases_eq, cond-false, cond-true, eq-eqb, ne_eqb}
use Rattle.ds_model.specs.declared.lock.Name.TheVariants as name
use Rattle.lock_names.specs.Entries.{entry_number}
use Rattle.lock_names.specs.Modes.{is_recorded}
use Rattle.lock_names.specs.declared.mode.Mode.{Mode}
use Rattle.lock_names.specs.declared.mode.Mode.TheVariants.{X}
use Rattle.list_structure.specs.Standings.{status_of}
use Rattle.lock_structure.specs.Locks.{Locks}
use Rattle.list_structure.specs.States.{ListsState}
use Rattle.lock_manager.specs.Managers.{claims_of}
use Rattle.facility.specs.States.{Held as Facility, MemberFailed}
use Rattle.lock_protocol.specs.Machine.{World as LockWorld, failed, retained_claim}
use Rattle.lock_protocol.specs.Moves.{Move as LockMove, Fail}
use Rattle.lock_protocol.specs.Own.{OthersKeep}
use Rattle.lock_protocol.specs.Sound.{RunKeepsSound, Sound}
use Rattle.lock_world.specs.Books.{SlotHas}
use Rattle.lock_world.specs.Failing.{FailsMoves}
use Rattle.lock_world.specs.Numbers.{number, name_at}
use Rattle.lock_world.specs.Tied.{Claims, Moved}
use Rattle.lock_world.specs.Views.{entry_in}
use Rattle.lock_intents.specs.Stands.{Goes, Leads as ClaimsLead}
use Rattle.lock_events.specs.Events.{EventGoes, ToldGoes}
use Rattle.marks_law.specs.Slots.{SlotsReach, SlotsStand, SlotsStay}
use Rattle.member_marks.specs.Claims.{has_page}
use Rattle.member_resources.specs.Held.{Held, begun}
use Rattle.member_resources.specs.Events as event
use Rattle.page_protocol.specs.Page.{put}
use Rattle.page_protocol.specs.Moves.{World}
use Rattle.page_world.specs.Numbers.{page_at}
use Rattle.page_world.specs.Holdings.{Holdings, with_facility}
use Rattle.page_world.specs.Failing.{without}
use Rattle.page_groups.specs.Groups.{EachIsBeside, FailsStand, LeadsStand, Leads, SameOthers, EventGoes as PagesGo, ToldGoes as PagesTold, FailuresGo as PagesFail}
use Rattle.page_owners.specs.Owners.{LocksStand, OwnersClaim, OwnInX, StayInX, ToldInX}
use Rattle.page_owners.specs.Groups.{BothLead, BothStand, EventsGo, FailuresGo, LocksSupply, ToldGo}
use Rattle.page_owners.proofs.InX.{held_x}
use Rattle.page_owners.proofs.Supplying.{claim_tied, slot_claim}

pub record Facts : Type 0 where
  pub has : SlotHas
  pub run : RunKeepsSound
  pub others : OthersKeep
  pub slots : SlotsStay
  pub reach : SlotsReach
  pub event : EventGoes
  pub told : ToldGoes
  pub page_event : PagesGo
  pub page_told : PagesTold
  pub beside : EachIsBeside
  pub stand : LeadsStand
  pub in_x : StayInX
  pub told_x : ToldInX
  pub supply : LocksSupply

-- ---- the world that moves lead to is sound, by the lock table that is left
still_sound : RunKeepsSound → (l : LockWorld) (moves : List LockMove) (before locks : Locks) (lists : ListsState) (held : Claims) → Sound (entry_in before) l → (m : Moved l moves before locks lists held) → Sound (entry_in locks) m.world
still_sound law l moves before locks lists held sound m = subst (λ (z : ℕ). Sound (λ c. entry_number (name_at c) z) m.world) (sym m.same) (law (entry_in before) moves l m.world sound m.run)

-- ---- another member that is up still is
record StillUp (f v : Facility) (m : ℕ) : Type 0 where
  pub size : length v.locks.entries ≡ length f.locks.entries
  pub members : v.lists.members ≡ f.lists.members
  pub statuses : (k : ℕ) → 1 ≤ k → k ≢ m → status_of v.lists.statuses k ≡ status_of f.lists.statuses k

still_up : (g left : Holdings) (f v : Facility) (forced force : ℕ → ℕ) (m : ℕ) → g.facility ≡ f → left.facility ≡ v → length v.locks.entries ≡ length f.locks.entries → SameOthers g left forced force m → StillUp f v m
still_up g left f v forced force m was is size same =
    subst (λ (z : Facility). StillUp f z m) is
    (subst (λ (z : Facility). StillUp z left.facility m) was
    (record { size = ap (λ (z : Facility). length z.locks.entries) is ∙ size ∙ ap (λ (z : Facility). length z.locks.entries) (sym was); members = same.members; statuses = same.statuses }))

other_stands : (f v : Facility) (held left : Claims) (m p : ℕ) (h : Held) → StillUp f v m → h.marks.member ≡ p → p ≢ m → ((k o c : ℕ) → k ≢ m → left k o c ≡ held k o c) → LocksStand f held h.marks → LocksStand v left h.marks
other_stands f v held left m p h same named ne others s =
    let away : h.marks.member ≢ m = λ e. ne (sym named ∙ e) in
    record {
      up = record {
        member = s.up.member;
        among = subst (λ z. h.marks.member ≤ z) (sym same.members) s.up.among;
        few = subst (λ z. z ≤ 32) (sym same.members) s.up.few;
        up = same.statuses h.marks.member s.up.member.0 away ∙ s.up.up;
        size = s.up.size ∙ sym same.size;
        book = s.up.book;
      };
      slots = s.slots;
      knows = λ o c. others h.marks.member o c away ∙ s.knows o c;
      in_x = s.in_x;
    }

-- ---- owners claim their pages behind an event of one member
module _ (facts : Facts) (w : World) (l : LockWorld) (u v : event.World) (g : Holdings) (content : ℕ → ℕ → List ℕ) (forced : ℕ → ℕ) (held left : Claims) (up : ℕ → Bool) (hs : ℕ → Held) (m : ℕ) (k : Held)
    (b : BothStand w l u g content forced held up hs) (e : up m ≡ true) (leads : ClaimsLead held left (hs m).marks k.marks) (paged : Leads w v g content forced (hs m) k) (locked : Goes l u.facility v.facility left (hs m).marks k.marks) (slots : SlotsStand k.marks) (in_x : OwnInX k.marks) where
  named : (hs m).marks.member ≡ m
  named = b.pages.named m e

  own_claim : (n : ℕ) → paged.left.owner n ≡ Some k.marks.member → locked.moved.world.claims k.marks.member 0 (number (name.Page (page_at n))) ≡ Some X
  own_claim n owned = elim (cases_Bool (has_page k.marks (page_at n))) [
    | inl has ↦ claim_tied locked.moved.world v.facility left k.marks (number (name.Page (page_at n))) X locked.moved.tied locked.stands
        (ap (λ z. left z 0 (number (name.Page (page_at n)))) locked.same ∙ leads.own 0 (number (name.Page (page_at n))) ∙ slot_claim facts.has v.facility k.marks (page_at n) locked.stands
        ∙ held_x (claims_of k.marks.locks 0) (name.Page (page_at n)) in_x has)
    | inr none ↦ absurd (paged.beside.begins.up.no_more n none owned)
  ]

  owners : OwnersClaim locked.moved.world paged.left
  owners n q owned = elim (cases_eq q (hs m).marks.member) [
    | inl same ↦
        (let who : q ≡ k.marks.member = same ∙ sym locked.same in
        subst (λ z. locked.moved.world.claims z 0 (number (name.Page (page_at n))) ≡ Some X) (sym who) (own_claim n (owned ∙ ap Some who)))
    | inr ne ↦ facts.others (entry_in u.facility.locks) (hs m).marks.member locked.moves l locked.moved.world locked.own locked.moved.run q 0 (number (name.Page (page_at n))) ne ∙ b.owners n q (paged.others.takes q n ne owned)
  ]

  here : LocksStand v.facility left k.marks
  here = record {
    up = locked.stands;
    slots = slots;
    knows = λ o c. ap (λ z. left z o c) locked.same ∙ leads.own o c;
    in_x = in_x;
  }

  still : StillUp u.facility v.facility (hs m).marks.member
  still = still_up g paged.left u.facility v.facility forced paged.force (hs m).marks.member b.pages.facility paged.beside.facility locked.moved.same paged.others

  each : (p : ℕ) → up p ≡ true → LocksStand v.facility left (put hs m k p).marks
  each p x = elim (cases_eq p m) [
    | inl is ↦ subst (λ (z : Held). LocksStand v.facility left z.marks) (sym (cond-true (p == m) k (hs p) (eq-eqb p m is))) here
    | inr ne ↦ subst (λ (z : Held). LocksStand v.facility left z.marks) (sym (cond-false (p == m) k (hs p) (ne_eqb p m ne)))
        (other_stands u.facility v.facility held left (hs m).marks.member p (hs p) still (b.pages.named p x) (λ z. ne (z ∙ named)) leads.others (b.each p x))
  ]

  both_lead : BothLead w l u v left up (put hs m k)
  both_lead = record {
    moves = paged.moves;
    world = paged.world;
    run = paged.run;
    lock_moves = locked.moves;
    locked = locked.moved;
    holdings = paged.left;
    versions = paged.versions;
    force = paged.force;
    stands = record {
      pages = facts.stand w u v g content forced up hs m k b.pages e paged;
      sound = still_sound facts.run l locked.moves u.facility.locks v.facility.locks v.facility.lists left b.sound locked.moved;
      tied = locked.moved.tied;
      owners = owners;
      each = each;
    };
  }

pub events_go : Facts → EventsGo
events_go facts w l u v g content forced held left up hs m k i place s a b e leads happens given =
    let stands = b.each m e in
    let beside = facts.beside w u g content forced up hs m b.pages e in
    let supplied = facts.supply w l u v g content forced held up hs m k i place s a b e happens given in
    both_lead facts w l u v g content forced held left up hs m k b e leads
    (facts.page_event w u v g content forced (hs m) k i place s a beside happens supplied)
    (facts.event l u v held left (hs m) k i place s a b.sound b.tied stands.up stands.slots stands.knows happens leads)
    (facts.slots u v (hs m) k i place s a happens stands.slots) (facts.in_x u v (hs m) k i place s a happens stands.in_x)

pub told_go : Facts → ToldGo
told_go facts w l u g content forced held left up hs m k place b e leads ends =
    let stands = b.each m e in
    let beside = facts.beside w u g content forced up hs m b.pages e in
    both_lead facts w l u u g content forced held left up hs m k b e leads
    (facts.page_told w u g content forced (hs m) k place beside ends)
    (facts.told l u held left (hs m) k place b.sound b.tied stands.up stands.knows ends leads)
    (facts.reach (begun (hs m) place).marks k.marks ends.0 (record { count = stands.slots.count; own = stands.slots.own; commits = stands.slots.commits })) (facts.told_x (hs m) k place ends stands.in_x)

-- ---- a member fails: its claims in X stay
recorded_x : ◌≡◌ {A = Option Mode} (if is_recorded X then Some X else None) (Some X)
unfolding is_recorded
recorded_x = refl

kept_claim : (b : Bool) (o : Option Mode) → o ≡ Some X → (if b then retained_claim o else o) ≡ Some X
kept_claim true o e = ap retained_claim e ∙ recorded_x
kept_claim false o e = e

pub members_fail : RunKeepsSound → FailsMoves → PagesFail → FailsStand → FailuresGo
members_fail run fails pages stand w l u v g content forced held left up hs m b member few failed drive forgets =
    let locked = fails l u.facility.locks v.facility.locks u.facility.lists v.facility.lists held left m b.tied member few failed.locks failed.lists forgets in
    let paged = pages w g content forced m v.facility b.pages.group member.0 (subst (λ (f : Facility). MemberFailed f m v.facility) (sym b.pages.facility) failed) in
    let still = still_up g (with_facility (without g m) v.facility) u.facility v.facility forced forced m b.pages.facility refl locked.same paged.others in
    record {
      moves = paged.moves;
      world = paged.world;
      run = paged.run;
      lock_moves = Fail m ∷ [];
      locked = locked;
      holdings = with_facility (without g m) v.facility;
      versions = content;
      force = forced;
      stands = record {
        pages = stand w u v g content forced up hs m b.pages drive paged;
        sound = still_sound run l (Fail m ∷ []) u.facility.locks v.facility.locks v.facility.lists left b.sound locked;
        tied = locked.tied;
        owners = λ n q owned. ap (λ (z : LockWorld). z.claims q 0 (number (name.Page (page_at n)))) (locked.run.2 ∙ locked.run.1)
            ∙ kept_claim (q == m) (l.claims q 0 (number (name.Page (page_at n)))) (b.owners n q owned);
        each = each still;
      };
    }
  where
    each : StillUp u.facility v.facility m → (p : ℕ) → put up m false p ≡ true → LocksStand v.facility left (hs p).marks
    each still p x = elim (cases_eq p m) [
      | inl is ↦ absurd (both_ways (put up m false p) (cond-true (p == m) false (up p) (eq-eqb p m is)) x)
      | inr ne ↦
          (let on : up p ≡ true = sym (cond-false (p == m) false (up p) (ne_eqb p m ne)) ∙ x in
          other_stands u.facility v.facility held left m p (hs p) still (b.pages.named p on) ne forgets.others (b.each p on))
    ]
