-- A phase begins, and with it the restarts of members that have failed.
use Rattle.std.proofs.Common.{◌≡◌, ℕ, zero, suc, ◌+◌, ◌≤◌, ◌<◌, refl, sym, ◌∙◌, ap, subst, arith, Bool, true, false, inl, List, [], ◌∷◌, length, Option, Some, None}
use Rattle.std.specs.Prelude.{◌≢◌, ◌-◌, ◌==◌, if◌then◌else◌, IfSome, IsSomeAnd, is_some, slice_get, slice_index_or, slice_set}
use Rattle.std.proofs.lemmas.Bool.{and_parts}
use Rattle.ds_base.specs.Ids.{IsMember}
use Rattle.ds_base.specs.declared.names.Sizes.{Sizes}
use Rattle.ds_model.specs.declared.script.Phase.{Phase}
use Rattle.lock_names.specs.declared.mode.Mode.{Mode}
use Rattle.lock_structure.specs.Locks.{Locks}
use Rattle.list_structure.specs.declared.standing.MemberStatus.{MemberStatus}
use Rattle.list_structure.specs.declared.standing.MemberStatus.TheVariants.{Down, Failed, Restarting, Up}
use Rattle.list_structure.specs.Standings.{is_live, status_of}
use Rattle.list_structure.specs.States.{ListsState}
use Rattle.facility.specs.States.{Held as Facility}
use Rattle.restart_marks.specs.State.{RestartState}
use Rattle.restart_records.specs.Own.{OwnState}
use Rattle.restart_resources.specs.Held.{IsNew}
use Rattle.script_phases.specs.Phases.{is_failed, restarts_in}
use Rattle.group_member.specs.declared.restarting.Restarting.{Restarting as RestartHeld}
use Rattle.group_member.specs.Members.{Member}
use Rattle.group_core.specs.Given.{AllRestart, Restarts, begins_restart, restarting}
use Rattle.group_core.specs.Given.{CrewState}
use Rattle.lock_protocol.specs.Machine.{World}
use Rattle.lock_protocol.specs.Moves.{Move, Restart}
use Rattle.lock_protocol.specs.Sound.{RunKeepsSound, Sound}
use Rattle.lock_world.specs.Claims.{Restarts as WorldRestarts, RestartsMoves}
use Rattle.lock_world.specs.Standing.{StaysTied}
use Rattle.lock_world.specs.Tied.{Claims, Moved, Tied}
use Rattle.lock_world.specs.Views.{entry_in}
use Rattle.lock_members.specs.Known.{known_of, or_else, page_claim, restart_claim}
use Rattle.lock_restarts.specs.Courses.{IsInOrder}
use Rattle.group_locks.specs.Events.{AreRestarts}
use Rattle.group_locks.specs.Phases.{PhasesMove}
use Rattle.group_locks.specs.Stands.{ClaimsNothing, MemberStands, known, known_by}
use Rattle.group_locks.proofs.Moved.{run_on, stands_on, still_sound}

pub record Facts : Type 0 where
  pub run : RunKeepsSound
  pub restarts : RestartsMoves
  pub stay : StaysTied

-- ---- statuses
set_there : (xs : List MemberStatus) (i : ℕ) (a : MemberStatus) → is_failed (slice_index_or xs i Down) ≡ true → slice_index_or (slice_set xs i a) i Down ≡ a
set_there [] i a e = absurd (no_failure e)
  where
    no_failure : false ≡ true → ⊥
    no_failure e = cc
set_there (x ∷ xs) zero a e = refl
set_there (x ∷ xs) (suc i) a e = set_there xs i a e

set_apart : (xs : List MemberStatus) (i j : ℕ) (a : MemberStatus) → j ≢ i → slice_index_or (slice_set xs i a) j Down ≡ slice_index_or xs j Down
set_apart [] i j a ne = refl
set_apart (x ∷ xs) zero zero a ne = absurd (ne refl)
set_apart (x ∷ xs) zero (suc j) a ne = refl
set_apart (x ∷ xs) (suc i) zero a ne = refl
set_apart (x ∷ xs) (suc i) (suc j) a ne = set_apart xs i j a (λ e. ne (ap suc e))

less_one : (j k : ℕ) → 1 ≤ j → 1 ≤ k → j ≢ k → j - 1 ≢ k - 1
less_one j k a b ne e = ne (omega (arith, a, b, e))

failed_dead : (s : MemberStatus) → is_failed s ≡ true → is_live s ≡ false
failed_dead Down e = refl
failed_dead Up e = absurd cc
failed_dead Failed e = refl
failed_dead Restarting e = absurd cc

-- ---- all members, from the one with this number on
abbrev StandAll : Facility → ℕ → List Member → Type 0
StandAll f k [] = Unit {0}
StandAll f k (m ∷ ms) = MemberStands f k m × StandAll f (suc k) ms

abbrev KnowAll : Claims → ℕ → List Member → Type 0
KnowAll held k [] = Unit {0}
KnowAll held k (m ∷ ms) = ((o c : ℕ) → held k o c ≡ known_of m o c) × KnowAll held (suc k) ms

abbrev SameAll : List Member → List Member → Type 0
SameAll [] [] = Unit {0}
SameAll [] (n ∷ ns) = ⊥
SameAll (m ∷ ms) [] = ⊥
SameAll (m ∷ ms) (n ∷ ns) = ((o c : ℕ) → known_of n o c ≡ known_of m o c) × SameAll ms ns

plus_one : (at : ℕ) → 1 + at ≡ at + 1
plus_one at = omega arith

next_number : (k at : ℕ) → k + suc at ≡ suc k + at
next_number k at = omega arith

stand_from : (f : Facility) (k : ℕ) (ms : List Member) → ((at : ℕ) → IfSome (slice_get ms at) (MemberStands f (k + at))) → StandAll f k ms
stand_from f k [] each = tt
stand_from f k (m ∷ ms) each = (
  subst (λ z. MemberStands f z m) (first k) (each 0),
  stand_from f (suc k) ms (λ at. subst (λ z. IfSome (slice_get ms at) (MemberStands f z)) (next_number k at) (each (suc at))),
)
  where
    first : (k : ℕ) → k + 0 ≡ k
    first k = omega arith

stand_at : (f : Facility) (k : ℕ) (ms : List Member) → StandAll f k ms → (at : ℕ) → IfSome (slice_get ms at) (MemberStands f (k + at))
stand_at f k [] all at = tt
stand_at f k (m ∷ ms) all zero = subst (λ z. MemberStands f z m) (first k) all.0
  where
    first : (k : ℕ) → k ≡ k + 0
    first k = omega arith
stand_at f k (m ∷ ms) all (suc at) = subst (λ z. IfSome (slice_get ms at) (MemberStands f z)) (sym (next_number k at)) (stand_at f (suc k) ms all.1 at)

same_at : (ms ns : List Member) → SameAll ms ns → (at o c : ℕ) → known_by (slice_get ns at) o c ≡ known_by (slice_get ms at) o c
same_at [] [] same at o c = refl
same_at [] (n ∷ ns) same at o c = absurd same
same_at (m ∷ ms) [] same at o c = absurd same
same_at (m ∷ ms) (n ∷ ns) same zero o c = same.0 o c
same_at (m ∷ ms) (n ∷ ns) same (suc at) o c = same_at ms ns same.1 at o c

same_count : (ms ns : List Member) → SameAll ms ns → length ns ≡ length ms
same_count [] [] same = refl
same_count [] (n ∷ ns) same = absurd same
same_count (m ∷ ms) [] same = absurd same
same_count (m ∷ ms) (n ∷ ns) same = ap suc (same_count ms ns same.1)

know_from : (held : Claims) (k : ℕ) (ms : List Member) → ((at o c : ℕ) → held (k + at) o c ≡ known_by (slice_get ms at) o c) → KnowAll held k ms
know_from held k [] each = tt
know_from held k (m ∷ ms) each = (
  λ o c. ap (λ z. held z o c) (first k) ∙ each 0 o c,
  know_from held (suc k) ms (λ at o c. ap (λ z. held z o c) (sym (next_number k at)) ∙ each (suc at) o c),
)
  where
    first : (k : ℕ) → k ≡ k + 0
    first k = omega arith

-- ---- a member whose restart begins
fresh_read : (member : ℕ) (q : RestartHeld) → IsNew member q.resources → q.resources.marks.own.is_read ≡ false
fresh_read member q fresh = ap (λ (z : OwnState). z.is_read) fresh.marks.own.rest

fresh_order : (member : ℕ) (q : RestartHeld) → IsNew member q.resources → IsInOrder q.resources.marks
fresh_order member q fresh = record {
  reader = λ e. absurd (never (sym e ∙ fresh_read member q fresh));
  listed = λ e. absurd (never (sym e ∙ ap (λ (z : RestartState). z.is_listed) fresh.marks.rest));
  kept = λ e. absurd (never (sym e ∙ ap (λ (z : RestartState). is_some z.kept) fresh.marks.rest));
}
  where
    never : true ≡ false → ⊥
    never e = cc

both_restarting : (s : MemberStatus) → s ≡ Restarting → s ≡ Up → ⊥
both_restarting s a b = cc

live_restarting : (s : MemberStatus) → s ≡ Restarting → is_live s ≡ false → ⊥
live_restarting s a b = let live : is_live s ≡ true = ap is_live a in let never : true ≡ false = sym live ∙ b in cc

begun_as : (f g : Facility) (k : ℕ) (m : Member) (x : Option RestartHeld) → MemberStands f k m → is_live (status_of f.lists.statuses k) ≡ false → length g.locks.entries ≡ length f.locks.entries → status_of g.lists.statuses k ≡ Restarting
    → IsSomeAnd x (λ q. IsNew m.id q.resources) → MemberStands g k (record m { restart = x })
begun_as f g k m None s dead entries status fresh = absurd fresh
begun_as f g k m (Some q) s dead entries status fresh = record {
  id = s.id;
  member = s.member;
  size = s.size ∙ sym entries;
  book = s.book;
  slots = s.slots;
  free = s.free;
  up = λ e. absurd (both_restarting (status_of g.lists.statuses k) status e);
  restarts = λ _. refl;
  rests = λ _. (s.down dead).2;
  restart = record {
    member = ap (λ (z : RestartState). z.member) fresh.marks.rest ∙ s.id;
    on = ap (λ (z : RestartState). z.is_up) fresh.marks.rest;
    order = fresh_order m.id q fresh;
    own = λ c. (s.down dead).1 0 c;
    left = inl (s.down dead).1;
    idle = (s.down dead).3;
  };
  down = λ e. absurd (live_restarting (status_of g.lists.statuses k) status e);
}

fresh_claim : (m : Member) (x : Option RestartHeld) → IsSomeAnd x (λ q. IsNew m.id q.resources) → (o c : ℕ) → restart_claim x o c ≡ None
fresh_claim m None fresh o c = refl
fresh_claim m (Some q) fresh o c = ap (λ (z : RestartState). if o == 0 then page_claim z.claim c else None) fresh.marks.rest ∙ by (o == 0)
  where
    by : (b : Bool) → (if b then page_claim None c else None) ≡ None
    by true = refl
    by false = refl

none_before : (m : Member) → m.restart ≡ None → ClaimsNothing m.holds.marks.locks → (o c : ℕ) → known_of m o c ≡ None
none_before m rests none o c = ap (λ (z : Option Mode). or_else z (restart_claim m.restart o c)) (none o c) ∙ ap (λ (z : Option RestartHeld). restart_claim z o c) rests

none_behind : (m n : Member) → n ≡ record m { restart = n.restart } → IsSomeAnd n.restart (λ q. IsNew m.id q.resources) → ClaimsNothing m.holds.marks.locks → (o c : ℕ) → known_of n o c ≡ None
none_behind m n is fresh none o c =
    ap (λ (z : Member). known_of z o c) is ∙ ap (λ (z : Option Mode). or_else z (restart_claim n.restart o c)) (none o c) ∙ fresh_claim m n.restart fresh o c

-- ---- from one member on
record Begun (w : World) (f : Facility) (held : Claims) (lists now : ListsState) (k : ℕ) (ms ns : List Member) : Type 0 where
  pub moves : List Move
  pub are : AreRestarts moves
  pub moved : Moved w moves f.locks f.locks now held
  pub cells : now.cells ≡ lists.cells
  pub members : now.members ≡ lists.members
  pub before : (j : ℕ) → 1 ≤ j → j < k → status_of now.statuses j ≡ status_of lists.statuses j
  pub same : SameAll ms ns
  pub stand : StandAll (record f { lists = now }) k ns

within : (k n members : ℕ) → k + suc n ≤ members + 1 → (k ≤ members) × (suc k + n ≤ members + 1)
within k n members le = (omega (arith, le), omega (arith, le))

abbrev Begins : Phase → Facility → Claims → ListsState → ℕ → List Member → List Member → Type 0
Begins phase f held now k ms ns = (w : World) (lists : ListsState) → Sound (entry_in f.locks) w → Tied w f.locks lists held → lists.members ≡ f.lists.members → 1 ≤ k → k + length ms ≤ f.lists.members + 1
    → ((j : ℕ) → k ≤ j → status_of lists.statuses j ≡ status_of f.lists.statuses j) → StandAll f k ms → KnowAll held k ms → AllRestart phase lists ms ns now → Begun w f held lists now k ms ns

module _ (facts : Facts) (phase : Phase) (f : Facility) (held : Claims) (few : f.lists.members ≤ 32) where
  begins : (w : World) (lists now : ListsState) (k : ℕ) (ms ns : List Member) → Sound (entry_in f.locks) w → Tied w f.locks lists held → lists.members ≡ f.lists.members → 1 ≤ k → k + length ms ≤ f.lists.members + 1
      → ((j : ℕ) → k ≤ j → status_of lists.statuses j ≡ status_of f.lists.statuses j) → StandAll f k ms → KnowAll held k ms → AllRestart phase lists ms ns now → Begun w f held lists now k ms ns
  begins w lists now k [] [] sound tied members one most same stand know all = record {
    moves = [];
    are = tt;
    moved = facts.stay w f.locks lists now held held tied (record { cells = ap (λ (z : ListsState). z.cells) all; statuses = ap (λ (z : ListsState). z.statuses) all; members = ap (λ (z : ListsState). z.members) all; claims = λ k o c. refl });
    cells = ap (λ (z : ListsState). z.cells) all;
    members = ap (λ (z : ListsState). z.members) all;
    before = λ j _ _. ap (λ (z : ListsState). status_of z.statuses j) all;
    same = tt;
    stand = tt;
  }
  begins w lists now k [] (n ∷ ns) sound tied members one most same stand know all = absurd all
  begins w lists now k (m ∷ ms) [] sound tied members one most same stand know all = absurd all
  begins w lists now k (m ∷ ms) (n ∷ ns) sound tied members one most same stand know all =
      by (begins_restart phase lists.statuses m.id) refl all.0 all.1 (λ v next a b c d p g i j z. begins v next now (suc k) ms ns a b c d p g i j z)
    where
      fits : (k ≤ f.lists.members) × (suc k + length ms ≤ f.lists.members + 1)
      fits = within k (length ms) f.lists.members most

      is_member : IsMember k
      is_member = let le = fits.0 in (one, omega (arith, le, few))

      by : (b : Bool) → begins_restart phase lists.statuses m.id ≡ b → Restarts b m n → AllRestart phase (if b then restarting lists m.id else lists) ms ns now → Begins phase f held now (suc k) ms ns → Begun w f held lists now k (m ∷ ms) (n ∷ ns)
      by false e first rest go = record {
        moves = next.moves;
        are = next.are;
        moved = next.moved;
        cells = next.cells;
        members = next.members;
        before = λ j a b. next.before j a (omega (arith, b));
        same = (λ o c. ap (λ (z : Member). known_of z o c) first, next.same);
        stand = (
          subst (λ (z : Member). MemberStands (record f { lists = now }) k z) (sym first) (stands_on f (record f { lists = now }) k m stand.0 refl (next.before k one (omega arith) ∙ same k (omega arith))),
          next.stand,
        );
      }
        where
          next : Begun w f held lists now (suc k) ms ns
          next = go w lists sound tied members (omega (arith, one)) fits.1 (λ j le. same j (omega (arith, le))) stand.1 know.1 rest
      by true e first rest go = record {
        moves = Restart k ∷ next.moves;
        are = next.are;
        moved = record { same = next.moved.same; world = next.moved.world; run = run_on (entry_in f.locks) w moved.world next.moved.world (Restart k ∷ []) next.moves moved.run next.moved.run; tied = next.moved.tied };
        cells = next.cells;
        members = next.members;
        before = λ j a b. next.before j a (omega (arith, b)) ∙ apart j a (λ z. omega (arith, b, z));
        same = (λ o c. none_behind m n first.1 first.0 (stand.0.down dead).1 o c ∙ sym (none_before m (stand.0.down dead).0 (stand.0.down dead).1 o c), next.same);
        stand = (
          subst (λ (z : Member). MemberStands (record f { lists = now }) k z) (sym first.1) (begun_as f (record f { lists = now }) k m n.restart stand.0 dead refl (next.before k one (omega arith) ∙ set) first.0),
          next.stand,
        );
      }
        where
          fails : is_failed (status_of lists.statuses k) ≡ true
          fails = subst (λ z. is_failed (status_of lists.statuses z) ≡ true) stand.0.id (and_parts (is_failed (status_of lists.statuses m.id)) (restarts_in phase m.id) e).0

          dead_now : is_live (status_of lists.statuses k) ≡ false
          dead_now = failed_dead (status_of lists.statuses k) fails

          dead : is_live (status_of f.lists.statuses k) ≡ false
          dead = ap is_live (sym (same k (omega arith))) ∙ dead_now

          after : ListsState
          after = restarting lists m.id

          set : status_of after.statuses k ≡ Restarting
          set = subst (λ z. slice_index_or (slice_set lists.statuses (z - 1) Restarting) (k - 1) Down ≡ Restarting) (sym stand.0.id) (set_there lists.statuses (k - 1) Restarting fails)

          apart : (j : ℕ) → 1 ≤ j → j ≢ k → status_of after.statuses j ≡ status_of lists.statuses j
          apart j a ne = subst (λ z. slice_index_or (slice_set lists.statuses (z - 1) Restarting) (j - 1) Down ≡ slice_index_or lists.statuses (j - 1) Down) (sym stand.0.id) (set_apart lists.statuses (k - 1) (j - 1) Restarting (less_one j k a one ne))

          begun : WorldRestarts lists after held held k
          begun = record {
            empty = λ o c. know.0 o c ∙ none_before m (stand.0.down dead).0 (stand.0.down dead).1 o c;
            others = λ j o c ne. refl;
            cells = refl;
            members = refl;
            status = set;
            most = subst (λ z. z ≤ 32) (sym members) few;
            statuses = λ j ne is. apart j is.0 ne;
          }

          moved : Moved w (Restart k ∷ []) f.locks f.locks after held
          moved = facts.restarts w f.locks lists after held held k sound tied is_member (subst (λ z. k ≤ z) (sym members) fits.0) dead_now begun

          next : Begun moved.world f held after now (suc k) ms ns
          next = go moved.world after (still_sound facts.run w (Restart k ∷ []) f.locks f.locks after held sound moved) moved.tied members (omega (arith, one)) fits.1
              (λ j le. apart j (omega (arith, one, le)) (λ z. omega (arith, le, z)) ∙ same j (omega (arith, le))) stand.1 know.1 rest

-- ---- the group
pub phases_move : Facts → PhasesMove
phases_move facts phase old new w t p = record {
  entries = moved.same;
  moves = begun.moves;
  are = begun.are;
  world = moved.world;
  run = moved.run;
  tied = record {
    sound = still_sound facts.run w begun.moves old.facility.locks new.facility.locks new.facility.lists (known new.members) t.sound moved;
    tied = moved.tied;
    count = same_count old.members new.members begun.same ∙ t.count ∙ sym members;
    few = subst (λ z. z ≤ 32) (sym members) t.few;
    agents = subst (λ (z : Sizes). z.agents ≤ 16) (sym sizes) t.agents;
    entries = ap (λ (z : Locks). length z.entries) locks ∙ t.entries ∙ ap (λ (z : Sizes). z.locks) (sym sizes);
    stands = λ at. subst (λ z. IfSome (slice_get new.members at) (MemberStands new.facility z)) (plus_one at)
        (on at (slice_get new.members at) (stand_at (record old.facility { lists = p.lists }) 1 new.members begun.stand at));
  };
}
  where
    begun : Begun w old.facility (known old.members) old.facility.lists p.lists 1 old.members new.members
    begun = begins facts phase old.facility (known old.members) t.few w old.facility.lists p.lists 1 old.members new.members t.sound t.tied refl (omega arith)
        (subst (λ z. 1 + z ≤ old.facility.lists.members + 1) (sym t.count) (omega arith)) (λ j _. refl)
        (stand_from old.facility 1 old.members (λ at. subst (λ z. IfSome (slice_get old.members at) (MemberStands old.facility z)) (sym (plus_one at)) (t.stands at))) (know_from (known old.members) 1 old.members knows) p.restarts
      where
        knows : (at o c : ℕ) → known old.members (1 + at) o c ≡ known_by (slice_get old.members at) o c
        knows at o c = ap (λ z. known old.members z o c) (first at)
          where
            first : (at : ℕ) → 1 + at ≡ suc at
            first at = omega arith

    locks : new.facility.locks ≡ old.facility.locks
    locks = ap (λ (z : Facility). z.locks) p.facility.others

    cells : new.facility.lists.cells ≡ p.lists.cells
    cells = ap (λ (z : Facility). z.lists.cells) p.facility.others

    statuses : new.facility.lists.statuses ≡ p.lists.statuses
    statuses = ap (λ (z : Facility). z.lists.statuses) p.facility.others

    members : new.facility.lists.members ≡ old.facility.lists.members
    members = ap (λ (z : Facility). z.lists.members) p.facility.others ∙ begun.members

    sizes : new.sizes ≡ old.sizes
    sizes = ap (λ (z : CrewState). z.sizes) p.rest

    claims : (k o c : ℕ) → known new.members k o c ≡ known old.members k o c
    claims zero o c = refl
    claims (suc at) o c = same_at old.members new.members begun.same at o c

    still : Moved begun.moved.world [] old.facility.locks old.facility.locks new.facility.lists (known new.members)
    still = facts.stay begun.moved.world old.facility.locks p.lists new.facility.lists (known old.members) (known new.members) begun.moved.tied
        (record { cells = cells; statuses = statuses; members = ap (λ (z : Facility). z.lists.members) p.facility.others; claims = claims })

    moved : Moved w begun.moves old.facility.locks new.facility.locks new.facility.lists (known new.members)
    moved = subst (λ (z : Locks). Moved w begun.moves old.facility.locks z new.facility.lists (known new.members)) (sym locks) (record {
      same = refl;
      world = begun.moved.world;
      run = begun.moved.run;
      tied = subst (λ (z : World). Tied z old.facility.locks new.facility.lists (known new.members)) still.run still.tied;
    })

    on : (at : ℕ) (x : Option Member) → IfSome x (MemberStands (record old.facility { lists = p.lists }) (1 + at)) → IfSome x (MemberStands new.facility (1 + at))
    on at None h = tt
    on at (Some x) h = stands_on (record old.facility { lists = p.lists }) new.facility (1 + at) x h (ap (λ (z : Locks). length z.entries) locks) (ap (λ (z : List MemberStatus). status_of z (1 + at)) statuses)
