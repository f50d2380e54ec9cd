-- A phase begins, and with it the restarts of members that have failed.
use Rattle.std.proofs.Common.{◌≡◌, ◌≢◌, ℕ, zero, suc, ◌+◌, ◌≤◌, refl, sym, ◌∙◌, ap, subst, arith, Bool, true, false, inl, inr, List, [], ◌∷◌, ◌++◌, length, Option, Some, None}
use Rattle.std.specs.Prelude.{◌-◌, ◌==◌, if◌then◌else◌, IfSome, IsSomeAnd, slice_get, slice_index_or, slice_set}
use Rattle.std.proofs.lemmas.Bool.{and_parts, cases_eq, cond-false, ne_eqb}
use Rattle.ds_model.specs.declared.script.Phase.{Phase}
use Rattle.cache_structure.specs.Sound.{IsSound}
use Rattle.list_structure.specs.declared.standing.MemberStatus.{MemberStatus}
use Rattle.list_structure.specs.declared.standing.MemberStatus.TheVariants.{Down, Failed, Restarting, Up}
use Rattle.list_structure.specs.Standings.{is_live, status_of}
use Rattle.list_structure.specs.States.{ListsState}
use Rattle.facility.specs.States.{Held as Facility}
use Rattle.group_pages.specs.Given.{Drive, Group, GroupGoes, HasCast, IsBare, IsNew, IsReading, ListingBegins, Member, OwnsFailed, ReadingBegins, Resources, RestartHeld, RestartState, RestartsBegin, RestartsGo, SameOthers, UndrawnBegins}
use Rattle.script_phases.specs.Phases.{is_failed, restarts_in}
use Rattle.group_core.specs.Given.{AllRestart, Restarts, begins_restart, restarting}
use Rattle.page_protocol.specs.Page.{put}
use Rattle.page_protocol.specs.Moves.{Move, Run, World}
use Rattle.page_world.specs.Holdings.{Holdings, KeepsPages, StandsAs, with_facility}
use Rattle.page_world.specs.Losses.{StaysTied}
use Rattle.page_world.specs.Numbers.{page_at, set_of}
use Rattle.page_world.specs.Tied.{Moved, Tied}
use Rattle.group_pages.proofs.Given.{others_facility, standings_of}
use Rattle.retained_pages.specs.Retained.{Retains}
use Rattle.group_pages.specs.Stands.{CrewPages, DownPages, HoldsPages, MemberPages}
use Rattle.group_pages.proofs.Carry.{IsNamed, all_carried, all_named, assembled, owned_on}
use Rattle.group_pages.proofs.Carry as carrying
use Rattle.group_pages.proofs.Going.{run_on}
use Rattle.group_pages.proofs.Rebuilds.{spares_locks}
use Rattle.group_pages.proofs.Up.{apart_at, pages_at}
use Rattle.page_recoveries.specs.Phases.{PhasesGo}
use Rattle.page_recoveries.proofs.Resting.{StandsApart, holds_restarting, parts_of}

pub record Facts : Type 0 where
  pub carry : carrying.Facts
  pub restarts : RestartsGo
  pub reads : ReadingBegins
  pub owns : RestartsBegin
  pub lists : ListingBegins
  pub undrawn : UndrawnBegins
  pub stays : StaysTied

-- ---- standings
failed_is : (s : MemberStatus) → is_failed s ≡ true → s ≡ Failed
failed_is Down e = absurd (cc e)
failed_is Up e = absurd (cc e)
failed_is Failed e = refl
failed_is Restarting e = absurd (cc e)

set_there : (xs : List MemberStatus) (i : ℕ) (a : MemberStatus) → slice_index_or xs i Down ≡ Failed → slice_index_or (slice_set xs i a) i Down ≡ a
set_there [] i a e = absurd (cc e)
set_there (x ∷ xs) zero a e = refl
set_there (x ∷ xs) (suc i) a e = set_there xs i a e

set_apart : (xs : List MemberStatus) (i j : ℕ) (a : MemberStatus) → j ≢ i → slice_index_or (slice_set xs i a) j Down ≡ slice_index_or xs j Down
set_apart [] i j a ne = refl
set_apart (x ∷ xs) zero zero a ne = absurd (ne refl)
set_apart (x ∷ xs) zero (suc j) a ne = refl
set_apart (x ∷ xs) (suc i) zero a ne = refl
set_apart (x ∷ xs) (suc i) (suc j) a ne = set_apart xs i j a (λ e. ne (ap suc e))

less_one : (j k : ℕ) → 1 ≤ j → 1 ≤ k → j ≢ k → j - 1 ≢ k - 1
less_one j k a b ne e = ne (omega (arith, a, b, e))

-- ---- lists of members, where one is at the end of those that are done
there : {A : Type 0} → (xs ys : List A) (a : A) → slice_get (xs ++ a ∷ ys) (length xs) ≡ Some a
there [] ys a = refl
there (x ∷ xs) ys a = there xs ys a

elsewhere : {A : Type 0} → (xs ys : List A) (a b : A) (k : ℕ) → k ≢ length xs → slice_get (xs ++ b ∷ ys) k ≡ slice_get (xs ++ a ∷ ys) k
elsewhere [] ys a b zero ne = absurd (ne refl)
elsewhere [] ys a b (suc k) ne = refl
elsewhere (x ∷ xs) ys a b zero ne = refl
elsewhere (x ∷ xs) ys a b (suc k) ne = elsewhere xs ys a b k (λ e. ne (ap suc e))

one_more : {A : Type 0} → (xs ys : List A) (a : A) → (xs ++ a ∷ []) ++ ys ≡ xs ++ a ∷ ys
one_more [] ys a = refl
one_more (x ∷ xs) ys a = ap (λ z. x ∷ z) (one_more xs ys a)

long : {A : Type 0} → (xs ys : List A) (a : A) → length xs + 1 ≤ length (xs ++ a ∷ ys)
long [] ys a = omega arith
long (x ∷ xs) ys a = let more = long xs ys a in omega (arith, more)

-- ---- one member restarts
record BeginsAt (d : Drive) (f : Facility) (ms : List Member) (w : World) (content : ℕ → ℕ → List ℕ) : Type 0 where
  moves : List Move
  world : World
  run : Run set_of w moves world
  left : Holdings
  force : ℕ → ℕ
  pages : CrewPages d f ms world left content force
  names : (k : ℕ) → IfSome (slice_get ms k) (IsNamed (k + 1))

abbrev with_lists : Facility → ListsState → Facility
with_lists f lists = record f { lists = lists }

module _ (facts : Facts) (d : Drive) (f : Facility) (lists : ListsState) (xs ys : List Member) (m n : Member) (w : World) (g : Holdings) (content : ℕ → ℕ → List ℕ) (forced : ℕ → ℕ)
    (names : (k : ℕ) → IfSome (slice_get (xs ++ m ∷ ys) k) (IsNamed (k + 1))) (p : CrewPages d (with_lists f lists) (xs ++ m ∷ ys) w g content forced) (most : length (xs ++ m ∷ ys) ≤ lists.members)
    (fails : is_failed (status_of lists.statuses m.id) ≡ true) (q : RestartHeld) (has : n.restart ≡ Some q) (fresh : IsNew m.id q.resources) (is : n ≡ record m { restart = n.restart }) where
  abbrev at : ℕ
  at = length xs

  abbrev k : ℕ
  k = at + 1

  named : IsNamed k m
  named = subst (λ (z : Option Member). IfSome z (IsNamed k)) (there xs ys m) (names at)

  held : MemberPages g forced k m
  held = pages_at g forced (xs ++ m ∷ ys) at m p.members (there xs ys m)

  abbrev v : Facility
  v = with_lists f (restarting lists m.id)

  failed : status_of g.facility.lists.statuses k ≡ Failed
  failed = ap (λ (z : Facility). status_of z.lists.statuses k) p.facility ∙ ap (λ z. status_of lists.statuses z) (sym named.id) ∙ failed_is (status_of lists.statuses m.id) fails

  down : DownPages g k × IsBare m.holds × HasCast g k m.holds.cast m.holds.buffer
  down = held.down (ap is_live failed)

  among : k ≤ g.facility.lists.members
  among = subst (λ (z : Facility). k ≤ z.lists.members) (sym p.facility) (let more = long xs ys m in omega (arith, more, most))

  own : status_of v.lists.statuses k ≡ Restarting
  own = subst (λ z. slice_index_or (slice_set lists.statuses (z - 1) Restarting) (k - 1) Down ≡ Restarting) (sym named.id)
      (set_there lists.statuses (k - 1) Restarting (subst (λ (z : Facility). status_of z.lists.statuses k ≡ Failed) p.facility failed))

  stands_as : StandsAs g.facility v k Restarting
  stands_as = subst (λ (z : Facility). StandsAs z v k Restarting) (sym p.facility) (record {
    directory = refl;
    counter = refl;
    members = refl;
    own = own;
    others = λ j least ne. subst (λ z. slice_index_or (slice_set lists.statuses (z - 1) Restarting) (j - 1) Down ≡ slice_index_or lists.statuses (j - 1) Down) (sym named.id)
        (set_apart lists.statuses (k - 1) (j - 1) Restarting (less_one j k least (omega arith) ne));
  })

  goes : GroupGoes w g (with_facility g v) content forced k
  goes = facts.restarts w g content forced k v p.group (omega arith) among failed stands_as

  abbrev left : Holdings
  left = with_facility g v

  abbrev u : Resources
  u = record { facility = v; drive = d }

  reading : IsReading goes.world u left content (put forced k 0) q.resources
  reading = facts.reads goes.world u left content forced k q.resources goes.stands
      (record { least = omega arith; among = subst (λ z. k ≤ z) (sym (ap (λ (z : Facility). z.lists.members) (sym p.facility))) among; restarts = own; level = down.0.level; copies = down.0.copies }) refl p.drive
      (subst (λ z. IsNew z q.resources) named.id fresh)

  after : StandsApart goes.world u left content (put forced k 0) q.resources
  after = parts_of goes.world u left content (put forced k 0) q.resources (inl reading)

  retained : OwnsFailed v g.owner k
  retained j e = let r = subst (λ (z : Facility). Retains z k (page_at j)) p.facility (down.0.owns j e) in record { member = r.member; has = r.has }

  same : SameOthers g left forced (put forced k 0) k
  same = record {
    members = goes.others.members;
    statuses = goes.others.statuses;
    counter = goes.others.counter;
    log = λ j ne. cond-false (j == k) 0 (forced j) (ne_eqb j k ne);
    stable = goes.others.stable;
    written = goes.others.written;
    copies = goes.others.copies;
    casts = goes.others.casts;
    keeps = goes.others.keeps;
    takes = goes.others.takes;
  }

  here : MemberPages left (put forced k 0) k n
  here = subst (λ (z : Member). MemberPages left (put forced k 0) k z) (sym is)
      (subst (λ (z : Option RestartHeld). HoldsPages left (put forced k 0) k m.holds z) (sym has)
      (holds_restarting left (put forced k 0) k m.holds (Some q) own (record {
        restarts = after.restarts;
        stage = after.stage;
        owns = facts.owns v g.owner k q.resources.marks (subst (λ z. IsNew z q.resources) named.id fresh).marks retained;
        lists = facts.lists v k q.resources.marks (subst (λ z. IsNew z q.resources) named.id fresh).marks;
        undrawn = facts.undrawn left k q.resources.marks (subst (λ z. IsNew z q.resources) named.id fresh).marks down.0.level;
      }) down.1 down.2))

  names_now : (j : ℕ) → IfSome (slice_get (xs ++ n ∷ ys) j) (IsNamed (j + 1))
  names_now j = elim (cases_eq j at) [
    | inl same_place ↦ subst (λ z. IfSome (slice_get (xs ++ n ∷ ys) z) (IsNamed (z + 1))) (sym same_place) (subst (λ (z : Option Member). IfSome z (IsNamed k)) (sym (there xs ys n)) name)
    | inr ne ↦ subst (λ (z : Option Member). IfSome z (IsNamed (j + 1))) (sym (elsewhere xs ys m n j ne)) (names j)
  ]
    where
      name : IsNamed k n
      name = subst (λ (z : Member). IsNamed k z) (sym is) (record {
        id = named.id;
        member = named.member;
        restart = subst (λ (z : Option RestartHeld). IfSome z (λ (x : RestartHeld). x.resources.marks.member ≡ k)) (sym has) (ap (λ (z : RestartState). z.member) fresh.marks.rest ∙ named.id);
      })

  restarted : BeginsAt d v (xs ++ n ∷ ys) w content
  restarted = record {
    moves = goes.moves;
    world = goes.world;
    run = goes.run;
    left = left;
    force = put forced k 0;
    pages = assembled facts.carry d d (with_lists f lists) v (xs ++ m ∷ ys) (xs ++ n ∷ ys) at k n w goes.world g left content content forced (put forced k 0) names p
        after.group refl p.drive same (spares_locks g.facility v k (ap (λ (z : Facility). z.locks) (sym p.facility))) (λ j ne. apart_at j at ne) (there xs ys n) (elsewhere xs ys m n)
        (owned_on g left forced (put forced k 0) k same (omega arith) (subst (λ (z : Facility). k ≤ z.lists.members) p.facility among) p.owned) here;
    names = names_now;
  }

-- ---- all of them, one behind the other
no_move : (d : Drive) (f : Facility) (ms : List Member) (w : World) (g : Holdings) (content : ℕ → ℕ → List ℕ) (forced : ℕ → ℕ) → CrewPages d f ms w g content forced → ((k : ℕ) → IfSome (slice_get ms k) (IsNamed (k + 1))) → BeginsAt d f ms w content
no_move d f ms w g content forced p names = record { moves = []; world = w; run = refl; left = g; force = forced; pages = p; names = names }

behind : (d : Drive) (f v : Facility) (ms ns : List Member) (w : World) (content : ℕ → ℕ → List ℕ) (a : BeginsAt d f ms w content) → BeginsAt d v ns a.world content → BeginsAt d v ns w content
behind d f v ms ns w content a b = record { moves = a.moves ++ b.moves; world = b.world; run = run_on w a.world b.world a.moves b.moves a.run b.run; left = b.left; force = b.force; pages = b.pages; names = b.names }

-- where members are at the end of those that are done
abbrev Onward : Drive → Phase → Facility → (ℕ → ℕ → List ℕ) → List Member → List Member → List Member → ListsState → Type 0
Onward d phase f content xs ms ns now = (lists : ListsState) (w : World) (g : Holdings) (forced : ℕ → ℕ) → length (xs ++ ms) ≤ lists.members → AllRestart phase lists ms ns now
    → ((k : ℕ) → IfSome (slice_get (xs ++ ms) k) (IsNamed (k + 1))) → CrewPages d (with_lists f lists) (xs ++ ms) w g content forced → BeginsAt d (with_lists f now) (xs ++ ns) w content

as_long : {A : Type 0} → (xs ys : List A) (a b : A) → length (xs ++ b ∷ ys) ≡ length (xs ++ a ∷ ys)
as_long [] ys a b = refl
as_long (x ∷ xs) ys a b = ap suc (as_long xs ys a b)

-- one of them, and then the rest
one_restarts : Facts → (d : Drive) (phase : Phase) (f : Facility) (content : ℕ → ℕ → List ℕ) (xs ms ns : List Member) (m n : Member) (now : ListsState) → Onward d phase f content (xs ++ n ∷ []) ms ns now → Onward d phase f content xs (m ∷ ms) (n ∷ ns) now
one_restarts facts d phase f content xs ms ns m n now go lists w g forced most all names p = by (begins_restart phase lists.statuses m.id) refl all.0 all.1
  where
    next : (after : ListsState) (v : World) (h : Holdings) (force : ℕ → ℕ) → after.members ≡ lists.members → AllRestart phase after ms ns now → ((k : ℕ) → IfSome (slice_get (xs ++ n ∷ ms) k) (IsNamed (k + 1))) → CrewPages d (with_lists f after) (xs ++ n ∷ ms) v h content force → BeginsAt d (with_lists f now) (xs ++ n ∷ ns) v content
    next after v h force members rest named q = subst (λ (z : List Member). BeginsAt d (with_lists f now) z v content) (one_more xs ns n)
        (go after v h force (subst (λ (z : List Member). length z ≤ after.members) (sym (one_more xs ms n)) (let same = as_long xs ms m n in omega (arith, same, members, most))) rest
        (subst (λ (z : List Member). (k : ℕ) → IfSome (slice_get z k) (IsNamed (k + 1))) (sym (one_more xs ms n)) named) (subst (λ (z : List Member). CrewPages d (with_lists f after) z v h content force) (sym (one_more xs ms n)) q))

    begun : (x : Option RestartHeld) → n.restart ≡ x → IsSomeAnd x (λ (q : RestartHeld). IsNew m.id q.resources) → n ≡ record m { restart = n.restart } → begins_restart phase lists.statuses m.id ≡ true → BeginsAt d (with_lists f (restarting lists m.id)) (xs ++ n ∷ ms) w content
    begun None has fresh is e = absurd fresh
    begun (Some q) has fresh is e = restarted facts d f lists xs ms m n w g content forced names p most (and_parts (is_failed (status_of lists.statuses m.id)) (restarts_in phase m.id) e).0 q has fresh is

    by : (b : Bool) → begins_restart phase lists.statuses m.id ≡ b → Restarts b m n → AllRestart phase (if b then restarting lists m.id else lists) ms ns now → BeginsAt d (with_lists f now) (xs ++ n ∷ ns) w content
    by false e same rest = next lists w g forced refl rest (subst (λ (z : Member). (k : ℕ) → IfSome (slice_get (xs ++ z ∷ ms) k) (IsNamed (k + 1))) (sym same) names)
        (subst (λ (z : Member). CrewPages d (with_lists f lists) (xs ++ z ∷ ms) w g content forced) (sym same) p)
    by true e first rest =
        let one = begun n.restart refl first.0 first.1 e in
        behind d (with_lists f (restarting lists m.id)) (with_lists f now) (xs ++ n ∷ ms) (xs ++ n ∷ ns) w content one (next (restarting lists m.id) one.world one.left one.force refl rest one.names one.pages)

all_restart : Facts → (d : Drive) (phase : Phase) (f : Facility) (content : ℕ → ℕ → List ℕ) (xs ms ns : List Member) (now : ListsState) → Onward d phase f content xs ms ns now
all_restart facts d phase f content xs [] [] now lists w g forced most all names p = subst (λ (z : ListsState). BeginsAt d (with_lists f z) (xs ++ []) w content) (sym all) (no_move d (with_lists f lists) (xs ++ []) w g content forced p names)
all_restart facts d phase f content xs [] (n ∷ ns) now lists w g forced most all names p = absurd all
all_restart facts d phase f content xs (m ∷ ms) [] now lists w g forced most all names p = absurd all
all_restart facts d phase f content xs (m ∷ ms) (n ∷ ns) now lists w g forced most all names p =
    one_restarts facts d phase f content xs ms ns m n now (λ a b c e i j o q. all_restart facts d phase f content (xs ++ n ∷ []) ms ns now a b c e i j o q) lists w g forced most all names p

-- ---- a group beside a facility that keeps what pages know of
kept_group : StaysTied → (w : World) (g : Holdings) (content : ℕ → ℕ → List ℕ) (forced : ℕ → ℕ) (v : Facility) → Group w g content forced → KeepsPages g.facility v → Group w (with_facility g v) content forced
kept_group law w g content forced v b keeps = record {
  good = b.good;
  tied = subst (λ (z : World). Tied z (with_facility g v) content) moved.run moved.tied;
  numbered = b.numbered;
  sound = subst IsSound (sym keeps.directory) b.sound;
}
  where
    moved : Moved w [] (with_facility g v) content
    moved = law w g content v b.tied keeps

-- ---- the group
pub phases_go : Facts → PhasesGo
phases_go facts d phase old new l w locks b t = record {
  moves = done.moves;
  world = done.world;
  run = done.run;
  tied = record { holdings = with_facility done.left new.facility; versions = t.versions; forced = done.force; pages = pages };
}
  where
    done : BeginsAt d (with_lists old.facility b.lists) new.members w t.versions
    done = all_restart facts d phase old.facility t.versions [] old.members new.members b.lists old.facility.lists w t.holdings t.forced (let count = locks.count in omega (arith, count)) b.restarts
        (all_named old.facility old.members locks.stands) t.pages

    mid : Facility
    mid = with_lists old.facility b.lists

    pages : CrewPages d new.facility new.members done.world (with_facility done.left new.facility) t.versions done.force
    pages = all_carried facts.carry d d mid new.facility new.members done.world done.world done.left (with_facility done.left new.facility) t.versions t.versions done.force done.force done.names done.pages
        group refl done.pages.drive others (spares_locks done.left.facility new.facility 0 (ap (λ (z : Facility). z.locks) b.facility.others ∙ ap (λ (z : Facility). z.locks) (sym done.pages.facility)))
        (λ j k e. let y = done.pages.owned j k e in (y.0, subst (λ z. k ≤ z) (sym same_members) y.1))
      where
        same_members : new.facility.lists.members ≡ done.left.facility.lists.members
        same_members = ap (λ (z : Facility). z.lists.members) b.facility.others ∙ ap (λ (z : Facility). z.lists.members) (sym done.pages.facility)

        keeps : KeepsPages done.left.facility new.facility
        keeps = subst (λ (z : Facility). KeepsPages z new.facility) (sym done.pages.facility)
            (subst (λ (z : Facility). KeepsPages mid z) (sym b.facility.others) (record { directory = refl; counter = refl; members = refl; statuses = refl }))

        group : Group done.world (with_facility done.left new.facility) t.versions done.force
        group = kept_group facts.stays done.world done.left t.versions done.force new.facility done.pages.group keeps

        others : SameOthers done.left (with_facility done.left new.facility) done.force done.force 0
        others = others_facility done.left new.facility done.force 0 (standings_of done.left.facility new.facility keeps)
