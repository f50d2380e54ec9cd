-- The group begins anew behind its restart, and it starts.
use Rattle.std.proofs.Common.{◌≡◌, ℕ, zero, suc, ◌+◌, ◌<◌, ◌≤◌, refl, sym, ◌∙◌, ap, subst, arith, true, false, List, [], ◌∷◌, ◌++◌, length, Option, Some, None}
use Rattle.std.specs.Prelude.{IfSome, map, nat_le, slice_get, slice_index_or}
use Rattle.std.specs.Option.{option_map}
use Rattle.std.proofs.lemmas.Bool.{and_from, cond-true, le-leb}
use Rattle.std.proofs.lemmas.Option.{none-some, slice_get-map, slice_get_within}
use Rattle.ds_base.specs.declared.names.Sizes.{Sizes}
use Rattle.page_format.specs.Fields.{lrsn_of}
use Rattle.cache_structure.specs.Directory.{empty_directory}
use Rattle.cache_structure.specs.Sound.{IsSound}
use Rattle.lock_structure.specs.Locks.{empty_locks}
use Rattle.list_structure.specs.declared.standing.MemberStatus.{MemberStatus}
use Rattle.list_structure.specs.declared.standing.MemberStatus.TheVariants as status
use Rattle.list_structure.specs.Standings.{is_live, status_of}
use Rattle.list_structure.specs.States.{IsNew as AreNewLists}
use Rattle.facility.specs.States.{Held as Facility, IsMade}
use Rattle.group_restart.specs.declared.stage.Stage.{Stage}
use Rattle.member_resources.specs.Held.{IsNew}
use Rattle.group_member.specs.Members.{IsDown}
use Rattle.group_core.specs.Given.{CrewState, id_of}
use Rattle.page_protocol.specs.Page.{all_fail, risen}
use Rattle.page_protocol.specs.Moves.{GroupFail, Move, Rise, Run, World, all_failed, all_up, start}
use Rattle.page_protocol.specs.Always.{AlwaysGood, Good, StartsGood}
use Rattle.page_world.specs.Groups.{IsMade as IsMadeGroup, RisesMoves}
use Rattle.page_world.specs.Numbers.{set_of}
use Rattle.page_world.specs.Tied.{Moved}
use Rattle.page_groups.specs.Groups.{MembersBegin, among, made_over}
use Rattle.page_recoveries.specs.Given.{Drive, Fallen, HasCast, Held, HoldsPages, IsUp, Member, MemberPages, MemberStands, OwnInX, PageMoves, PagesNumbered, Shows, kept_of}
use Rattle.fallen_pages.specs.Anew.{BeginsAnewGo, StartsGo}
use Rattle.fallen_pages.specs.Stands.{CounterIs, OthersLast, is_left}
use Rattle.fallen_pages.proofs.Worlds.{run_on}

pub record Laws : Type 0 where
  pub always : AlwaysGood
  pub starts : StartsGood
  pub rises : RisesMoves
  pub begin : MembersBegin
  pub in_x : (member : ℕ) (sizes : Sizes) (h : Held) → IsNew member sizes h → OwnInX h.marks
  pub empty : (size frames : ℕ) → IsSound (empty_directory size frames)

not_up : {A : Type 0} → (s : MemberStatus) → s ≡ status.Up → s ≡ status.Restarting → A
not_up s e f = (let both : status.Up ≡ status.Restarting = sym e ∙ f in cc both)

not_live : {A : Type 0} → (s : MemberStatus) → s ≡ status.Up → is_live s ≡ false → A
not_live s e f = (let both : true ≡ false = sym (ap is_live e) ∙ f in cc both)

-- ---- a facility whose lists are as they are made
module _ (laws : Laws) (f : Facility) (size frames members agents : ℕ) (directory : f.directory ≡ empty_directory size frames) (lists : AreNewLists f.lists members agents) (few : members ≤ 32) (pages : ℕ → List ℕ) (stable : ℕ → ℕ) where
  made_group : IsMadeGroup (made_over f pages stable)
  made_group = record {
    size = size;
    frames = frames;
    agents = agents;
    few = subst (λ z. z ≤ 32) (sym lists.members_kept) few;
    directory = directory;
    lists = subst (λ z. AreNewLists f.lists z agents) (sym lists.members_kept) lists;
    written = λ m. refl;
    copies = λ m n. refl;
    casts = λ m n. refl;
    owner = λ n. refl;
  }

  -- a member that holds nothing: what a member is made of is looked at alone
  module _ (sizes : Sizes) (k : ℕ) (h : Held) (least : 1 ≤ k) (most : k ≤ members) (new : IsNew k sizes h) where
    abbrev as_made : Sizes
    as_made = record sizes { members = members }

    abbrev own : Facility
    own = record {
      locks = empty_locks sizes.locks sizes.records (sizes.pool + 128);
      directory = empty_directory sizes.cache sizes.pool;
      lists = record f.lists { agents = sizes.agents };
      counter = f.counter;
    }

    own_made : IsMade as_made f.counter own
    own_made = record {
      locks_empty = refl;
      directory_empty = refl;
      lists_new = record {
        members_kept = lists.members_kept;
        agents_kept = refl;
        cells = lists.cells;
        waits = lists.waits;
        flags = lists.flags;
        all_flags = lists.all_flags;
        statuses = lists.statuses;
        done = lists.done;
        bells = lists.bells;
        all_bells = lists.all_bells;
        rebuilder = lists.rebuilder;
      };
      counter_at = refl;
    }

    among_them : among members k ≡ true
    among_them = and_from (nat_le 1 k) (nat_le k members) (le-leb 1 k least) (le-leb k members most)

    both : IsUp (made_over own pages stable) (λ m. 0) (kept_of h) × HasCast (made_over own pages stable) h.marks.member h.cast h.buffer
    both = laws.begin own pages stable f.counter as_made k h own_made few among_them (record { marks = new.marks; pages = new.pages; cast = new.cast; buffer = new.buffer; spare = new.spare; limit = new.limit })

    stands_up : IsUp (made_over f pages stable) (λ m. 0) (kept_of h)
    stands_up =
        let up = both.0 in
        record {
          least = up.least;
          among = up.among;
          up = up.up;
          log = up.log;
          last = last;
          pending = up.pending;
          apart = up.apart;
          each = up.each;
          copies = up.copies;
          owns = up.owns;
          no_more = up.no_more;
        }
      where
        last : (kept_of h).marks.log.last ≤ f.counter
        last = both.0.last

    status_up : status_of f.lists.statuses k ≡ status.Up
    status_up = lists.statuses.each k (least, omega (arith, most, few)) ∙ cond-true (nat_le k members) status.Up status.Down (le-leb k members most)

    stands : (m : Member) → m.holds ≡ h → HoldsPages (made_over f pages stable) (λ z. 0) k m.holds m.restart
    stands m is = subst (λ (z : Held). HoldsPages (made_over f pages stable) (λ q. 0) k z m.restart) (sym is) (record {
      up = λ e. record { up = stands_up; cast = both.1; in_x = laws.in_x k sizes h new };
      restarts = λ e. not_up (status_of f.lists.statuses k) status_up e;
      down = λ e. not_live (status_of f.lists.statuses k) status_up e;
    })

  -- ---- the whole crew, behind the last move
  module _ (d : Drive) (s : CrewState) (sizes : Sizes) (facility : s.facility ≡ f) (count : length s.members ≡ members)
      (down : (at : ℕ) (m : Member) → slice_get s.members at ≡ Some m → IsDown sizes m) (ids : (at : ℕ) (m : Member) → slice_get s.members at ≡ Some m → m.id ≡ at + 1)
      (w : World) (counter : ℕ) (content : ℕ → ℕ → List ℕ) (b : Fallen w (record { disk = pages; stable = stable; counter = counter }) content) (all : OthersLast w (λ n. false)) (counted : f.counter ≡ counter) (shows : Shows d pages) where
    moved : Moved w (Rise ∷ []) (made_over f pages stable) content
    moved = laws.rises w (record { disk = pages; stable = stable; counter = counter }) (made_over f pages stable) content b.good b.tied (λ n. all n refl) made_group (λ n. refl) (λ m. refl) counted

    good : Good moved.world
    good = laws.always set_of (Rise ∷ []) w moved.world b.good moved.run

    world_is : moved.world ≡ record { down = false; group = all_up w.group; pages = λ n. risen (w.pages n) }
    world_is = moved.run.2 ∙ moved.run.1.2

    -- no log is known yet
    numbered : PagesNumbered moved.world content (λ m. 0)
    numbered = record {
      shown = subst (λ (z : World). (n i : ℕ) → i < (z.pages n).last → lrsn_of (content n (i + 1)) ≡ (z.pages n).lrsn i) (sym world_is) b.shown;
      stable = λ n i l le. (let some = (good.numbered n).positive i l in absurd (omega (arith, some, le)));
      drawn = λ m. omega arith;
    }

    member_at : (at : ℕ) (o : Option Member) → slice_get s.members at ≡ o → IfSome o (MemberPages (made_over f pages stable) (λ z. 0) (at + 1))
    member_at at None e = tt
    member_at at (Some m) e =
        let place : at < length s.members = slice_get_within s.members at m e in
        let new : IsNew (at + 1) sizes m.holds = subst (λ z. IsNew z sizes m.holds) (ids at m e) (down at m e).holds in
        stands sizes (at + 1) m.holds (omega arith) (omega (arith, place, count)) new m refl

    pub crew_moves : PageMoves d s w
    crew_moves = record {
      moves = Rise ∷ [];
      world = moved.world;
      run = moved.run;
      tied = record {
        holdings = made_over f pages stable;
        versions = content;
        forced = λ m. 0;
        pages = record {
          group = record { good = good; tied = moved.tied; numbered = numbered; sound = subst IsSound (sym directory) (laws.empty size frames) };
          facility = sym facility;
          drive = shows;
          owned = λ n k e. absurd (none-some k e);
          members = λ at. member_at at (slice_get s.members at) refl;
        };
      };
    }

-- ---- members by their places
there : (ms : List Member) (at : ℕ) (d m : Member) → slice_get ms at ≡ Some m → slice_index_or ms at d ≡ m
there [] at d m e = cc
there (x ∷ xs) zero d m e = cc
there (x ∷ xs) (suc at) d m e = there xs at d m e

long_map : (ms : List Member) → length (map id_of ms) ≡ length ms
long_map [] = refl
long_map (m ∷ ms) = ap suc (long_map ms)

id_among : (o : Option Member) (at : ℕ) (n : Member) → Some n.id ≡ option_map id_of o → IfSome o (λ m. m.id ≡ at + 1) → n.id ≡ at + 1
id_among None at n e h = (let never : Some n.id ≡ None = e in cc)
id_among (Some m) at n e h = (let same : n.id ≡ m.id = cc in same ∙ h)

id_stands : (f : Facility) (at : ℕ) (o : Option Member) → IfSome o (MemberStands f (at + 1)) → IfSome o (λ m. m.id ≡ at + 1)
id_stands f at None h = tt
id_stands f at (Some m) h = h.id

-- ---- behind a restart
pub begins_anew : Laws → BeginsAnewGo
begins_anew laws d old new k l w locks b f ended =
    crew_moves laws new.facility old.facility.directory.size old.facility.directory.frames old.facility.lists.members old.facility.lists.agents b.facility.directory_empty b.facility.lists_new locks.few f.remains.disk f.remains.stable
    d new old.sizes refl (sym (long_map new.members) ∙ ap (λ (z : List ℕ). length z) b.same ∙ long_map old.members ∙ locks.count) down ids
    w f.remains.counter f.versions f.fallen all (b.facility.counter_at ∙ number) f.drive
  where
    all : OthersLast w (λ n. false)
    all n e = f.at.last n (ap (λ (z : Stage). is_left z k.plan.pages n) ended)

    number : k.counter ≡ f.remains.counter
    number = subst (λ (z : Stage). CounterIs z k.counter f.remains.counter) ended f.at.counter

    down : (at : ℕ) (m : Member) → slice_get new.members at ≡ Some m → IsDown old.sizes m
    down at m e = subst (λ (z : Member). IsDown old.sizes z) (there new.members at m m e) (b.members at m (slice_get_within new.members at m e))

    ids : (at : ℕ) (m : Member) → slice_get new.members at ≡ Some m → m.id ≡ at + 1
    ids at m e =
        let same : option_map id_of (slice_get new.members at) ≡ option_map id_of (slice_get old.members at) =
        sym (slice_get-map id_of new.members at) ∙ ap (λ (z : List ℕ). slice_get z at) b.same ∙ slice_get-map id_of old.members at in
        id_among (slice_get old.members at) at m (ap (λ (z : Option Member). option_map id_of z) (sym e) ∙ same) (id_stands old.facility at (slice_get old.members at) (locks.stands at))

-- ---- at the start
abbrev opening : ℕ → World
opening counter = record { down = true; group = all_failed start.group counter; pages = λ n. all_fail (start.pages n) 0 }

abbrev opening_moves : ℕ → List Move
opening_moves counter = GroupFail (λ n. 0) counter ∷ []

opening_run : (counter : ℕ) → Run set_of start (opening_moves counter) (opening counter)
opening_run counter = (opening counter, ((λ n. record { short = omega arith; kept = λ i lt. absurd (never i lt); gone = λ i le lt. absurd (never i lt) }), (λ n i lt. absurd (never i lt)), refl), refl)
  where
    never : (i : ℕ) → i < 0 → ⊥
    never i lt = omega (arith, lt)

opening_fallen : Laws → (counter : ℕ) (pages : ℕ → List ℕ) → Fallen (opening counter) (record { disk = pages; stable = λ m. 0; counter = counter }) (λ n v. pages n)
opening_fallen laws counter pages = record {
  good = laws.always set_of (opening_moves counter) start (opening counter) laws.starts (opening_run counter);
  tied = record { down = refl; counter = refl; stable = λ m. refl; written = λ m. refl; disk = λ n. refl; clean = λ n. refl };
  shown = λ n i lt. absurd (omega (arith, lt));
}

pub starts_go : Laws → StartsGo
starts_go laws d s l pages locks made shows downs = record { moves = opening_moves s.facility.counter ++ rest.moves; world = rest.world; run = run_on start (opening s.facility.counter) rest.world (opening_moves s.facility.counter) rest.moves (opening_run s.facility.counter) rest.run; tied = rest.tied }
  where
    down : (at : ℕ) (m : Member) (o : Option Member) → o ≡ Some m → IfSome o (IsDown s.sizes) → IsDown s.sizes m
    down at m o e h = subst (λ (z : Option Member). IfSome z (IsDown s.sizes)) e h

    id_at : (at : ℕ) (m : Member) (o : Option Member) → o ≡ Some m → IfSome o (MemberStands s.facility (at + 1)) → m.id ≡ at + 1
    id_at at m o e h = (let stood : MemberStands s.facility (at + 1) m = subst (λ (z : Option Member). IfSome z (MemberStands s.facility (at + 1))) e h in stood.id)

    few : s.sizes.members ≤ 32
    few = subst (λ z. z ≤ 32) made.lists_new.members_kept locks.few

    rest : PageMoves d s (opening s.facility.counter)
    rest =
        crew_moves laws s.facility s.sizes.cache s.sizes.pool s.sizes.members s.sizes.agents made.directory_empty made.lists_new few pages (λ m. 0) d s s.sizes refl (locks.count ∙ made.lists_new.members_kept)
        (λ at m e. down at m (slice_get s.members at) e (downs at)) (λ at m e. id_at at m (slice_get s.members at) e (locks.stands at))
        (opening s.facility.counter) s.facility.counter (λ n v. pages n) (opening_fallen laws s.facility.counter pages) (λ n e. refl) refl shows
