-- The members that an event leaves as they were.
use Rattle.std.proofs.Common.{◌≡◌, ◌≢◌, ℕ, ◌+◌, ◌≤◌, refl, sym, ◌∙◌, ap, subst, arith, true, inl, inr, List, Option, Some, None}
use Rattle.std.specs.Prelude.{◌⊎◌, IfSome, slice_get}
use Rattle.std.proofs.lemmas.Bool.{cases_eq}
use Rattle.ds_base.specs.declared.names.PageId.{PageId}
use Rattle.lock_names.specs.Given.name_variants as name
use Rattle.list_structure.specs.declared.standing.MemberStatus.TheVariants.{Up}
use Rattle.list_structure.specs.Standings.{is_live, status_of}
use Rattle.facility.specs.States.{Held as Facility}
use Rattle.page_owners.specs.Given.{Drive, Group, HasCast, Member, OthersStayUp, RestartHeld, SameOthers, Shows}
use Rattle.restart_owners.specs.Given.{OthersRestart, RestartHolds}
use Rattle.group_locks.specs.Stands.{MemberStands, RestartInHand}
use Rattle.page_protocol.specs.Moves.{World}
use Rattle.page_world.specs.Holdings.{Holdings}
use Rattle.page_world.specs.Numbers.{page_at}
use Rattle.page_owners.specs.Resting.{IsBare}
use Rattle.retained_pages.specs.Retained.{Retains, SparesOthers}
use Rattle.restart_owners.specs.Listing.{ListingStays}
use Rattle.restart_owners.specs.Owners.{OthersOwn}
use Rattle.restart_owners.specs.Undrawn.{UndrawnStays}
use Rattle.group_pages.specs.Stands.{CrewPages, DownPages, IsUnread, MemberPages, RestartPages, UpPages}

pub record Facts : Type 0 where
  pub stay : OthersStayUp
  pub restart : OthersRestart
  pub own : OthersOwn
  pub list : ListingStays
  pub undrawn : UndrawnStays

-- ---- retained locks
pub retained_on : (f v : Facility) (m k : ℕ) (p : PageId) → SparesOthers f v m → k ≢ m → Retains f k p → Retains v k p
retained_on f v m k p spares ne r = record { member = r.member; has = spares.records k (name.Page p) ne ∙ r.has }

pub spares_itself : (f v : Facility) (m : ℕ) → v ≡ f → SparesOthers f v m
spares_itself f v m e = subst (λ (z : Facility). SparesOthers f z m) (sym e) (record { records = λ k n ne. refl; names = λ k ne. refl })

-- ---- members by their numbers
pub record IsNamed (k : ℕ) (x : Member) : Type 0 where
  pub id : x.id ≡ k
  pub member : x.holds.marks.member ≡ k
  pub restart : IfSome x.restart (λ (q : RestartHeld). q.resources.marks.member ≡ k)

pub named_by : (f : Facility) (k : ℕ) (x : Member) → MemberStands f k x → IsNamed k x
named_by f k x s = record { id = s.id; member = s.member; restart = by x.restart s.restart }
  where
    by : (o : Option RestartHeld) → RestartInHand k x o → IfSome o (λ (q : RestartHeld). q.resources.marks.member ≡ k)
    by None hand = tt
    by (Some q) hand = hand.member

pub all_named : (f : Facility) (ms : List Member) → ((k : ℕ) → IfSome (slice_get ms k) (MemberStands f (k + 1))) → (k : ℕ) → IfSome (slice_get ms k) (IsNamed (k + 1))
all_named f ms stands k = by (slice_get ms k) (stands k)
  where
    by : (o : Option Member) → IfSome o (MemberStands f (k + 1)) → IfSome o (IsNamed (k + 1))
    by None s = tt
    by (Some x) s = named_by f (k + 1) x s

-- ---- a restart
restart_on : Facts → (g left : Holdings) (forced force : ℕ → ℕ) (m : ℕ) (h : RestartHolds) → SameOthers g left forced force m → SparesOthers g.facility left.facility m → h.marks.member ≢ m → RestartPages g forced h → RestartPages left force h
restart_on facts g left forced force m h same spares away r = record {
  restarts = facts.restart g left forced force m h same away r.restarts;
  stage = stage r.stage;
  owns = facts.own g left forced force g.facility left.facility m h.marks same away (λ p x. retained_on g.facility left.facility m h.marks.member p spares away x) r.owns;
  lists = facts.list g.facility left.facility m h.marks spares away r.lists;
  undrawn = facts.undrawn g left forced force m h.marks same away r.undrawn;
}
  where
    stage : IsUnread g h.marks ⊎ (h.marks.own.is_read ≡ true) → IsUnread left h.marks ⊎ (h.marks.own.is_read ≡ true)
    stage (inl u) = inl (record { level = same.written h.marks.member away ∙ u.level ∙ sym (same.stable h.marks.member away); unread = u.unread; rest = u.rest })
    stage (inr e) = inr e

-- ---- a member that isn't the one whose event it is
pub carried : Facts → (g left : Holdings) (forced force : ℕ → ℕ) (m k : ℕ) (x : Member)
    → SameOthers g left forced force m → SparesOthers g.facility left.facility m → 1 ≤ k → k ≢ m → IsNamed k x → MemberPages g forced k x → MemberPages left force k x
carried facts g left forced force m k x same spares least ne stands p = record {
  up = λ e. up (sym status ∙ e);
  restarts = λ e. restarting (p.restarts (sym status ∙ e));
  down = λ e. fallen (p.down (ap is_live (sym status) ∙ e));
}
  where
    status : status_of left.facility.lists.statuses k ≡ status_of g.facility.lists.statuses k
    status = same.statuses k least ne

    cast : HasCast g k x.holds.cast x.holds.buffer → HasCast left k x.holds.cast x.holds.buffer
    cast c n = same.casts k n ne ∙ c n

    up : status_of g.facility.lists.statuses k ≡ Up → UpPages left force x.holds
    up e =
        let y = p.up e in
        let both = facts.stay g left forced force m x.holds same (λ z. ne (sym stands.member ∙ z)) y.up y.cast in
        record { up = both.0; cast = both.1; in_x = y.in_x }

    in_hand : (o : Option RestartHeld) → IfSome o (λ (q : RestartHeld). q.resources.marks.member ≡ k) → IfSome o (λ (q : RestartHeld). RestartPages g forced q.resources) → IfSome o (λ (q : RestartHeld). RestartPages left force q.resources)
    in_hand None hand r = tt
    in_hand (Some q) hand r = restart_on facts g left forced force m q.resources same spares (λ z. ne (sym hand ∙ z)) r

    restarting : IfSome x.restart (λ (q : RestartHeld). RestartPages g forced q.resources) × IsBare x.holds × HasCast g k x.holds.cast x.holds.buffer → IfSome x.restart (λ (q : RestartHeld). RestartPages left force q.resources) × IsBare x.holds × HasCast left k x.holds.cast x.holds.buffer
    restarting r = (in_hand x.restart stands.restart r.0, r.1, cast r.2)

    fallen : DownPages g k × IsBare x.holds × HasCast g k x.holds.cast x.holds.buffer → DownPages left k × IsBare x.holds × HasCast left k x.holds.cast x.holds.buffer
    fallen y = (
      record {
        level = same.written k ne ∙ y.0.level ∙ sym (same.stable k ne);
        copies = λ n. same.copies k n ne ∙ y.0.copies n;
        owns = λ n e. retained_on g.facility left.facility m k (page_at n) spares ne (y.0.owns n (same.takes k n ne e));
      },
      y.1,
      cast y.2,
    )

-- ---- the group behind an event of the member at a place, and of nobody else
pub assembled : Facts → (d e : Drive) (f v : Facility) (ms ns : List Member) (at m : ℕ) (n : Member) (w world : World) (g left : Holdings) (content versions : ℕ → ℕ → List ℕ) (forced force : ℕ → ℕ)
    → ((k : ℕ) → IfSome (slice_get ms k) (IsNamed (k + 1))) → CrewPages d f ms w g content forced
    → Group world left versions force → left.facility ≡ v → Shows e left.disk → SameOthers g left forced force m → SparesOthers g.facility left.facility m
    → ((k : ℕ) → k ≢ at → k + 1 ≢ m) → slice_get ns at ≡ Some n → ((k : ℕ) → k ≢ at → slice_get ns k ≡ slice_get ms k)
    → ((j k : ℕ) → left.owner j ≡ Some k → (1 ≤ k) × (k ≤ left.facility.lists.members)) → MemberPages left force (at + 1) n → CrewPages e v ns world left versions force
assembled facts d e f v ms ns at m n w world g left content versions forced force stands p group facility drive same spares apart has others owned here = record {
  group = group;
  facility = facility;
  drive = drive;
  owned = owned;
  members = each;
}
  where
    on : (k : ℕ) (x : Option Member) → k ≢ at → IfSome x (IsNamed (k + 1)) → IfSome x (MemberPages g forced (k + 1)) → IfSome x (MemberPages left force (k + 1))
    on k None ne stood y = tt
    on k (Some x) ne stood y = carried facts g left forced force m (k + 1) x same spares (omega arith) (apart k ne) stood y

    each : (k : ℕ) → IfSome (slice_get ns k) (MemberPages left force (k + 1))
    each k = elim (cases_eq k at) [
      | inl is ↦ subst (λ z. IfSome (slice_get ns z) (MemberPages left force (z + 1))) (sym is) (subst (λ (z : Option Member). IfSome z (MemberPages left force (at + 1))) (sym has) here)
      | inr ne ↦ subst (λ (z : Option Member). IfSome z (MemberPages left force (k + 1))) (sym (others k ne)) (on k (slice_get ms k) ne (stands k) (p.members k))
    ]

-- all members, where the event is of none
pub all_carried : Facts → (d e : Drive) (f v : Facility) (ms : List Member) (w world : World) (g left : Holdings) (content versions : ℕ → ℕ → List ℕ) (forced force : ℕ → ℕ)
    → ((k : ℕ) → IfSome (slice_get ms k) (IsNamed (k + 1))) → CrewPages d f ms w g content forced
    → Group world left versions force → left.facility ≡ v → Shows e left.disk → SameOthers g left forced force 0 → SparesOthers g.facility left.facility 0
    → ((j k : ℕ) → left.owner j ≡ Some k → (1 ≤ k) × (k ≤ left.facility.lists.members)) → CrewPages e v ms world left versions force
all_carried facts d e f v ms w world g left content versions forced force stands p group facility drive same spares owned = record {
  group = group;
  facility = facility;
  drive = drive;
  owned = owned;
  members = λ k. on k (slice_get ms k) (stands k) (p.members k);
}
  where
    no_zero : (k : ℕ) → k + 1 ≢ 0
    no_zero k e = omega (arith, e)

    on : (k : ℕ) (x : Option Member) → IfSome x (IsNamed (k + 1)) → IfSome x (MemberPages g forced (k + 1)) → IfSome x (MemberPages left force (k + 1))
    on k None stood y = tt
    on k (Some x) stood y = carried facts g left forced force 0 (k + 1) x same spares (omega arith) (no_zero k) stood y

-- one member has changed, and the world hasn't
pub placed : (e : Drive) (v : Facility) (ms ns : List Member) (at : ℕ) (n : Member) (w : World) (g : Holdings) (content : ℕ → ℕ → List ℕ) (forced : ℕ → ℕ)
    → CrewPages e v ms w g content forced → slice_get ns at ≡ Some n → ((k : ℕ) → k ≢ at → slice_get ns k ≡ slice_get ms k) → MemberPages g forced (at + 1) n → CrewPages e v ns w g content forced
placed e v ms ns at n w g content forced p has others here = record { group = p.group; facility = p.facility; drive = p.drive; owned = p.owned; members = each }
  where
    each : (k : ℕ) → IfSome (slice_get ns k) (MemberPages g forced (k + 1))
    each k = elim (cases_eq k at) [
      | inl is ↦ subst (λ z. IfSome (slice_get ns z) (MemberPages g forced (z + 1))) (sym is) (subst (λ (z : Option Member). IfSome z (MemberPages g forced (at + 1))) (sym has) here)
      | inr ne ↦ subst (λ (z : Option Member). IfSome z (MemberPages g forced (k + 1))) (sym (others k ne)) (p.members k)
    ]

-- who owns a page is a member of the group, behind an event of one
pub owned_on : (g left : Holdings) (forced force : ℕ → ℕ) (m : ℕ) → SameOthers g left forced force m → 1 ≤ m → m ≤ left.facility.lists.members
    → ((j k : ℕ) → g.owner j ≡ Some k → (1 ≤ k) × (k ≤ g.facility.lists.members)) → (j k : ℕ) → left.owner j ≡ Some k → (1 ≤ k) × (k ≤ left.facility.lists.members)
owned_on g left forced force m same least most owned j k e = elim (cases_eq k m) [
  | inl is ↦ (subst (λ z. 1 ≤ z) (sym is) least, subst (λ z. z ≤ left.facility.lists.members) (sym is) most)
  | inr ne ↦ (let y = owned j k (same.takes k j ne e) in (y.0, subst (λ z. k ≤ z) (sym same.members) y.1))
]
