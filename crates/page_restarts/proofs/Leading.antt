-- What an event of a restart leads to, from its moves.
use Rattle.std.proofs.Common.{◌≡◌, ◌≢◌, ℕ, ◌≤◌, refl, sym, ap, subst, ◌∙◌, arith, Bool, true, false, inl, inr, List, [], ◌∷◌, ◌++◌, Option, Some, None}
use Rattle.std.specs.Prelude.{◌+◌, ◌==◌, ◌&&◌, is_some}
use Rattle.std.proofs.lemmas.Bool.{both_ways, cases_eq, cond-false, cond-true, eq-eqb, ne_eqb}
use Rattle.std.proofs.lemmas.Option.{none-some, same_Some}
use Rattle.ds_base.specs.declared.names.PageId.{PageId}
use Rattle.ds_disk.specs.Contents.{Becomes, Contents}
use Rattle.cache_structure.specs.Directory.{Directory, after_read, after_unregister, after_write}
use Rattle.cache_structure.specs.Sound.{IsSound}
use Rattle.list_structure.specs.Standings.{status_of}
use Rattle.facility.specs.declared.command.Reply.{Reply}
use Rattle.facility.specs.CacheCommands.{UnregistersFrame}
use Rattle.facility.specs.States.{Held as Facility}
use Rattle.member_resources.specs.Events.{Drive, World as Outside}
use Rattle.restart_marks.specs.Moves.{is_recovered}
use Rattle.restart_resources.specs.Events.{Ends}
use Rattle.restart_resources.specs.Held.{Held}
use Rattle.page_protocol.specs.Page.{put}
use Rattle.page_protocol.specs.Moves.{World, Move, At, DropFrame, Run}
use Rattle.page_protocol.specs.Always.{AlwaysGood}
use Rattle.page_world.specs.Frames.{PlacesStays, UnregistersMoves, placed_copy}
use Rattle.page_world.specs.Holdings.{Copy, no_copy, Holdings, KeepsPages, with_copy, with_facility}
use Rattle.page_world.specs.Numbers.{page_at, page_number, set_of}
use Rattle.page_world.specs.Tied.{Moved, Tied}
use Rattle.page_intents.specs.Logs.{all_forced}
use Rattle.page_intents.specs.Owners.{owned_by}
use Rattle.page_intents.specs.Stands.{AreBehind}
use Rattle.page_members.specs.Members.{CommandsLeave, SameOthers, Shows}
use Rattle.page_restarts.specs.Beside.{Beside, Leads, OthersRestart, OwnRestarts}
use Rattle.page_restarts.specs.Bringing.{ReadsOn, TestsOn}
use Rattle.page_restarts.specs.Hands.{FillGoes, WriteGoes}
use Rattle.page_restarts.specs.Locals.{MayPark, ReachesGo}
use Rattle.page_restarts.specs.Locks.{AppendGoes, GiveUpGoes, LockGoes, StayGoes}
use Rattle.page_restarts.specs.Stands.{Begins, Goes, IsRestarting, SameHand, behind, copy_of}
use Rattle.page_restarts.specs.Undoes.{UndoGoes, undone_behind}
use Rattle.page_restarts.proofs.Chains.{at_one, numbered_on, pages_stay}
use Rattle.page_restarts.proofs.Standing.{copy_none}

-- what the directory of a cache keeps
pub record KeepsSound : Type 0 where
  pub read : (d : Directory) (member : ℕ) (id : PageId) (index : ℕ) → IsSound d → IsSound (after_read d member id index)
  pub write : (d : Directory) (member : ℕ) (id : PageId) (index : ℕ) (bytes : List ℕ) → IsSound d → IsSound (after_write d member id index bytes)
  pub unregister : (d : Directory) (member index : ℕ) → IsSound d → IsSound (after_unregister d member index)

pub record Facts : Type 0 where
  pub good : AlwaysGood
  pub sound : KeepsSound
  pub leave : CommandsLeave
  pub places : PlacesStays
  pub unregisters : UnregistersMoves
  pub reads : ReadsOn
  pub fill : FillGoes
  pub tests : TestsOn
  pub write : WriteGoes
  pub lock : LockGoes
  pub give_up : GiveUpGoes
  pub append : AppendGoes
  pub stay : StayGoes
  pub undo : UndoGoes
  pub reaches : ReachesGo
  pub named : (p : PageId) → page_at (page_number p) ≡ p

-- ---- all else of the group
pub record KeepsStandings (f after : Facility) : Type 0 where
  pub members : after.lists.members ≡ f.lists.members
  pub statuses : after.lists.statuses ≡ f.lists.statuses
  pub counter : f.counter ≤ after.counter

pub standings_of : (f after : Facility) → KeepsPages f after → KeepsStandings f after
standings_of f after k = record { members = k.members; statuses = k.statuses; counter = (let e = k.counter in omega (arith, e)) }

pub standings_same : (f : Facility) → KeepsStandings f f
standings_same f = record { members = refl; statuses = refl; counter = omega arith }

pub directory_standings : (f v : Facility) (x : Directory) → v ≡ record f { directory = x } → KeepsStandings f v
directory_standings f v x e = subst (λ z. KeepsStandings f z) (sym e) (record { members = refl; statuses = refl; counter = omega arith })

pub others_facility : (g : Holdings) (f : Facility) (forced : ℕ → ℕ) (m : ℕ) → KeepsStandings g.facility f → SameOthers g (with_facility g f) forced forced m
others_facility g f forced m s = record {
  members = s.members;
  statuses = λ k l ne. ap (λ z. status_of z k) s.statuses;
  counter = s.counter;
  log = λ k ne. refl;
  stable = λ k ne. refl;
  written = λ k ne. refl;
  copies = λ k n ne. refl;
  casts = λ k n ne. refl;
  keeps = λ k n ne e. e;
  takes = λ k n ne e. e;
}

pub others_behind : (g : Holdings) (f : Facility) (forced : ℕ → ℕ) (m : ℕ) (t : Held) → KeepsStandings g.facility f → SameOthers g (behind g f m t) forced forced m
others_behind g f forced m t s = record {
  members = s.members;
  statuses = λ k l ne. ap (λ z. status_of z k) s.statuses;
  counter = s.counter;
  log = λ k ne. refl;
  stable = λ k ne. refl;
  written = λ k ne. refl;
  copies = λ k n ne. cond-false (k == m) (copy_of t n) (g.copies k n) (ne_eqb k m ne);
  casts = λ k n ne. refl;
  keeps = λ k n ne e. e;
  takes = λ k n ne e. e;
}

pub put_other : {A : Type 0} → (f : ℕ → A) (m k : ℕ) (x : A) → k ≢ m → put f m x k ≡ f k
put_other f m k x ne = cond-false (k == m) x (f k) (ne_eqb k m ne)

pub others_undone : (g : Holdings) (f : Facility) (forced : ℕ → ℕ) (m : ℕ) (t : Held) → KeepsStandings g.facility f → SameOthers g (undone_behind g f m t) forced forced m
others_undone g f forced m t s = record {
  members = s.members;
  statuses = λ k l ne. ap (λ z. status_of z k) s.statuses;
  counter = s.counter;
  log = λ k ne. refl;
  stable = λ k ne. refl;
  written = λ k ne. put_other g.written m k (g.written m + 1) ne;
  copies = λ k n ne. cond-false (k == m) (copy_of t n) (g.copies k n) (ne_eqb k m ne);
  casts = λ k n ne. refl;
  keeps = λ k n ne e. e;
  takes = λ k n ne e. e;
}

pub others_forced : (g : Holdings) (forced : ℕ → ℕ) (m last : ℕ) → SameOthers g (all_forced g m) forced (put forced m last) m
others_forced g forced m last = record {
  members = refl;
  statuses = λ k l ne. refl;
  counter = omega arith;
  log = λ k ne. put_other forced m k last ne;
  stable = λ k ne. put_other g.stable m k (g.written m) ne;
  written = λ k ne. refl;
  copies = λ k n ne. refl;
  casts = λ k n ne. refl;
  keeps = λ k n ne e. e;
  takes = λ k n ne e. e;
}

-- a page's owner is the member, or nobody, before and after
pub others_owned : (g : Holdings) (f : Facility) (forced : ℕ → ℕ) (m p : ℕ) (now : Option ℕ) → KeepsStandings g.facility f → ((k : ℕ) → k ≢ m → g.owner p ≢ Some k) → ((k : ℕ) → k ≢ m → now ≢ Some k) → SameOthers g (owned_by g f p now) forced forced m
others_owned g f forced m p now s was is = record {
  members = s.members;
  statuses = λ k l ne. ap (λ z. status_of z k) s.statuses;
  counter = s.counter;
  log = λ k ne. refl;
  stable = λ k ne. refl;
  written = λ k ne. refl;
  copies = λ k n ne. refl;
  casts = λ k n ne. refl;
  keeps = λ k n ne e. elim (cases_eq n p) [
    | inl same ↦ absurd (was k ne (sym (ap g.owner same) ∙ e))
    | inr away ↦ cond-false (n == p) now (g.owner n) (ne_eqb n p away) ∙ e
  ];
  takes = λ k n ne e. elim (cases_eq n p) [
    | inl same ↦ absurd (is k ne (sym (cond-true (n == p) now (g.owner n) (eq-eqb n p same)) ∙ e))
    | inr away ↦ sym (cond-false (n == p) now (g.owner n) (ne_eqb n p away)) ∙ e
  ];
}

-- ---- the restarts of others are still in hand
pub others_restart : OthersRestart
others_restart g left forced force m h same ne r =
    let k = h.marks.member in
    let counter = same.counter in
    let last = r.last in
    record {
      least = r.least;
      among = subst (λ z. k ≤ z) (sym same.members) r.among;
      restarts = same.statuses k r.least ne ∙ r.restarts;
      log = same.log k ne ∙ r.log;
      last = omega (arith, counter, last);
      pending = subst (λ z. AreBehind z (left.written k) h.marks.log.pending) (sym (same.stable k ne)) (subst (λ z. AreBehind (g.stable k) z h.marks.log.pending) (sym (same.written k ne)) r.pending);
      full = r.full;
      shows = r.shows;
      copies = λ n. same.copies k n ne ∙ r.copies n;
    }

-- ---- and so is one whose own member casts a page out
pub own_restarts : OwnRestarts
own_restarts g left forced h same own r =
    let m = h.marks.member in
    let counter = same.counter in
    let last = r.last in
    record {
      least = r.least;
      among = subst (λ z. m ≤ z) (sym same.members) r.among;
      restarts = own.standing ∙ r.restarts;
      log = r.log;
      last = omega (arith, counter, last);
      pending = subst (λ z. AreBehind z (left.written m) h.marks.log.pending) (sym own.stable) (subst (λ z. AreBehind (g.stable m) z h.marks.log.pending) (sym own.written) r.pending);
      full = r.full;
      shows = r.shows;
      copies = λ n. own.copies n ∙ r.copies n;
    }

-- ---- what is left, with what it takes to put the page aside that is in hand then
abbrev pub Level : Holdings → ℕ → Held → Type 0
Level g m k = k.marks.hand.changed ≡ true → is_some k.marks.hand.key ≡ true → g.stable m ≡ g.written m

-- and all records that the member has drawn are on disk, as long as a retained page isn't recovered
abbrev pub Stays : Holdings → Holdings → Held → Type 0
Stays g left h = is_recovered h.marks ≡ false → g.stable h.marks.member ≡ g.written h.marks.member → left.stable h.marks.member ≡ left.written h.marks.member

pub record Led (w : World) (v : Outside) (g : Holdings) (content : ℕ → ℕ → List ℕ) (forced : ℕ → ℕ) (h k : Held) (owned : ℕ → Option ℕ) : Type 0 where
  pub leads : Leads w v g content forced h k
  pub level : Level leads.left h.marks.member k
  pub owner : leads.left.owner ≡ owned

pub made : AlwaysGood → (w : World) (u v : Outside) (g left : Holdings) (content versions : ℕ → ℕ → List ℕ) (forced force : ℕ → ℕ) (h k : Held)
    → Beside w u g content forced h → Goes w versions force left h k → left.facility ≡ v.facility → Shows v.drive left.disk → IsSound left.facility.directory → k.marks.own.is_read ≡ true
    → SameOthers g left forced force h.marks.member → ((n i : ℕ) → i ≤ (w.pages n).last → versions n i ≡ content n i) → left.casts ≡ g.casts → Stays g left h → Level left h.marks.member k → Led w v g content forced h k left.owner
made law w u v g left content versions forced force h k b goes facility drive sound read others kept casts stays level = record {
  leads = record {
    moves = goes.moves;
    world = goes.moved.world;
    run = goes.moved.run;
    left = left;
    versions = versions;
    force = force;
    beside = record {
      begins = record { good = law set_of goes.moves w goes.moved.world b.begins.good goes.moved.run; tied = goes.moved.tied; numbered = goes.numbered; sound = sound; restarts = goes.stands };
      facility = facility;
      drive = drive;
      read = read;
    };
    same = goes.same;
    others = others;
    kept = kept;
    casts = casts;
    level = stays;
  };
  level = level;
  owner = refl;
}

-- ---- an event that leaves the page in hand
pub stay_leads : Facts → (w : World) (u v : Outside) (g : Holdings) (content : ℕ → ℕ → List ℕ) (forced : ℕ → ℕ) (h k : Held)
    → Beside w u g content forced h → KeepsPages g.facility v.facility → Shows v.drive g.disk → SameHand h k → k.marks.own.is_read ≡ true → Level g h.marks.member k → Led w v g content forced h k g.owner
stay_leads facts w u v g content forced h k b keeps drive s read level =
    made facts.good w u v g (with_facility g v.facility) content content forced forced h k b (facts.stay w g content forced h k v.facility b.begins keeps s)
    refl drive (subst IsSound (sym keeps.directory) b.begins.sound) read (others_facility g v.facility forced h.marks.member (standings_of g.facility v.facility keeps)) (λ n i l. refl) refl (λ no e. e) level

-- ---- one that changes it
pub behind_leads : Facts → (w : World) (u v : Outside) (g : Holdings) (content : ℕ → ℕ → List ℕ) (forced : ℕ → ℕ) (h k : Held)
    → Beside w u g content forced h → Goes w content forced (behind g v.facility h.marks.member k) h k → KeepsStandings g.facility v.facility → IsSound v.facility.directory → Shows v.drive g.disk → k.marks.own.is_read ≡ true → Level g h.marks.member k → Led w v g content forced h k g.owner
behind_leads facts w u v g content forced h k b goes keeps sound drive read level =
    made facts.good w u v g (behind g v.facility h.marks.member k) content content forced forced h k b goes refl drive sound read (others_behind g v.facility forced h.marks.member k keeps) (λ n i l. refl) refl (λ no e. e) level

-- ---- the registration of index 0 is dropped, while no page is in hand
away : (g : Holdings) (forced : ℕ → ℕ) (h : Held) → IsRestarting g forced h → h.marks.hand.page ≡ None → (j : ℕ) → g.copies h.marks.member j ≡ no_copy
away g forced h r none j = r.copies j ∙ copy_none h j none

pub unregister_goes : PlacesStays → UnregistersMoves → (w : World) (g : Holdings) (content : ℕ → ℕ → List ℕ) (forced : ℕ → ℕ) (h : Held) (answer : Reply) (v : Facility)
    → Begins w g content forced h → h.marks.hand.page ≡ None → UnregistersFrame g.facility h.marks.member 0 answer v → Goes w content forced (with_facility g v) h h
unregister_goes places law w g content forced h answer v b none r = record {
  moves = At 0 (DropFrame m) ∷ [];
  moved = moved;
  numbered = numbered_on w moved.world (At 0 (DropFrame m) ∷ []) content forced (at_one 0 (DropFrame m) refl) moved.run b.numbered;
  casts = λ n. (pages_stay w moved.world (At 0 (DropFrame m) ∷ []) (at_one 0 (DropFrame m) refl) moved.run n).castout;
  same = refl;
  stands = record {
    least = b.restarts.least;
    among = subst (λ (z : Facility). m ≤ z.lists.members) (sym r.1) b.restarts.among;
    restarts = ap (λ (z : Facility). status_of z.lists.statuses m) r.1 ∙ b.restarts.restarts;
    log = b.restarts.log;
    last = subst (λ (z : Facility). h.marks.log.last ≤ z.counter) (sym r.1) b.restarts.last;
    pending = b.restarts.pending;
    full = b.restarts.full;
    shows = b.restarts.shows;
    copies = b.restarts.copies;
  };
}
  where
    m : ℕ
    m = h.marks.member

    far : (j : ℕ) → g.copies h.marks.member j ≡ no_copy
    far = away g forced h b.restarts none

    taken : Holdings
    taken = with_copy g h.marks.member 0 (placed_copy 0)

    here : taken.copies h.marks.member 0 ≡ placed_copy 0
    here = cond-true ((h.marks.member == h.marks.member) && (0 == 0)) (placed_copy 0) (g.copies h.marks.member 0) (ap (λ z. z && (0 == 0)) (eq-eqb h.marks.member h.marks.member refl))

    placed : Moved w [] taken content
    placed = places w g content h.marks.member 0 0 b.tied (far 0) (λ j e. absurd (both_ways (g.copies h.marks.member j).placed (ap (λ (c : Copy). c.placed) (far j)) e))

    still : Tied w taken content
    still = subst (λ z. Tied z taken content) placed.run placed.tied

    whole : with_facility (with_copy taken h.marks.member 0 no_copy) v ≡ with_facility g v
    whole = λ i. record g { facility = v; copies = λ p j. each p j i }
      where
        each : (p j : ℕ) → (with_copy taken h.marks.member 0 no_copy).copies p j ≡ g.copies p j
        each p j = elim (cases_eq p h.marks.member) [
          | inl e ↦ elim (cases_eq j 0) [
            | inl f ↦ cond-true ((p == h.marks.member) && (j == 0)) no_copy (taken.copies p j) (both (p == h.marks.member) (j == 0) (eq-eqb p h.marks.member e) (eq-eqb j 0 f)) ∙ sym (ap (λ z. g.copies z j) e ∙ far j)
            | inr ne ↦ cond-false ((p == h.marks.member) && (j == 0)) no_copy (taken.copies p j) (second (p == h.marks.member) (j == 0) (ne_eqb j 0 ne)) ∙ cond-false ((p == h.marks.member) && (j == 0)) (placed_copy 0) (g.copies p j) (second (p == h.marks.member) (j == 0) (ne_eqb j 0 ne))
          ]
          | inr ne ↦ cond-false ((p == h.marks.member) && (j == 0)) no_copy (taken.copies p j) (first (p == h.marks.member) (j == 0) (ne_eqb p h.marks.member ne)) ∙ cond-false ((p == h.marks.member) && (j == 0)) (placed_copy 0) (g.copies p j) (first (p == h.marks.member) (j == 0) (ne_eqb p h.marks.member ne))
        ]
          where
            both : (x y : Bool) → x ≡ true → y ≡ true → (x && y) ≡ true
            both true y a c = c
            both false y a c = a

            second : (x y : Bool) → y ≡ false → (x && y) ≡ false
            second true y c = c
            second false y c = refl

            first : (x y : Bool) → x ≡ false → (x && y) ≡ false
            first true y c = absurd (cc c)
            first false y c = refl

    moved : Moved w (At 0 (DropFrame h.marks.member) ∷ []) (with_facility g v) content
    moved = subst (λ z. Moved w (At 0 (DropFrame h.marks.member) ∷ []) z content) whole
        (law w taken content h.marks.member 0 0 answer v still (record { placed = ap (λ (c : Copy). c.placed) here; at = ap (λ (c : Copy). c.index) here }) (ap (λ (c : Copy). c.marked) here) r)

pub unregister_leads : Facts → (w : World) (u v : Outside) (g : Holdings) (content : ℕ → ℕ → List ℕ) (forced : ℕ → ℕ) (h k : Held) (answer : Reply)
    → Beside w u g content forced h → h.marks.hand.page ≡ None → UnregistersFrame g.facility h.marks.member 0 answer v.facility → Shows v.drive g.disk → k ≡ h → Level g h.marks.member h → Led w v g content forced h k g.owner
unregister_leads facts w u v g content forced h k answer b none r drive is level = subst (λ (z : Held). Led w v g content forced h z g.owner) (sym is) (
    made facts.good w u v g (with_facility g v.facility) content content forced forced h h b (unregister_goes facts.places facts.unregisters w g content forced h answer v.facility b.begins none r)
    refl drive (subst (λ (z : Facility). IsSound z.directory) (sym r.1) (facts.sound.unregister g.facility.directory h.marks.member 0 b.begins.sound)) b.read
    (others_facility g v.facility forced h.marks.member (directory_standings g.facility v.facility (after_unregister g.facility.directory h.marks.member 0) r.1)) (λ n i l. refl) refl (λ no e. e) level)

-- ---- page locks
pub lock_leads : Facts → (w : World) (u v : Outside) (g : Holdings) (content : ℕ → ℕ → List ℕ) (forced : ℕ → ℕ) (h k : Held) (p : PageId)
    → Beside w u g content forced h → g.owner (page_number p) ≡ None → KeepsPages g.facility v.facility → Shows v.drive g.disk → SameHand h k → k.marks.own.is_read ≡ true → Level g h.marks.member k → Led w v g content forced h k (put g.owner (page_number p) (Some h.marks.member))
lock_leads facts w u v g content forced h k p b free keeps drive s read level =
    made facts.good w u v g (owned_by g v.facility (page_number p) (Some h.marks.member)) content content forced forced h k b (facts.lock w g content forced h k p v.facility b.begins free keeps s)
    refl drive (subst IsSound (sym keeps.directory) b.begins.sound) read
    (others_owned g v.facility forced h.marks.member (page_number p) (Some h.marks.member) (standings_of g.facility v.facility keeps) (λ j ne e. none-some j (sym free ∙ e)) (λ j ne e. ne (sym (same_Some h.marks.member j e)))) (λ n i l. refl) refl (λ no e. e) level

pub give_up_leads : Facts → (w : World) (u v : Outside) (g : Holdings) (content : ℕ → ℕ → List ℕ) (forced : ℕ → ℕ) (h k : Held) (p : PageId)
    → Beside w u g content forced h → Goes w content forced (owned_by g v.facility (page_number p) None) h k → g.owner (page_number p) ≡ Some h.marks.member → KeepsPages g.facility v.facility → Shows v.drive g.disk → k.marks.own.is_read ≡ true → Level g h.marks.member k → Led w v g content forced h k (put g.owner (page_number p) None)
give_up_leads facts w u v g content forced h k p b goes own keeps drive read level =
    made facts.good w u v g (owned_by g v.facility (page_number p) None) content content forced forced h k b goes refl drive (subst IsSound (sym keeps.directory) b.begins.sound) read
    (others_owned g v.facility forced h.marks.member (page_number p) None (standings_of g.facility v.facility keeps) (λ j ne e. ne (sym (same_Some h.marks.member j (sym own ∙ e)))) (λ j ne e. none-some j e)) (λ n i l. refl) refl (λ no e. e) level

-- ---- and then the policy's local moves
others_on : (g mid left : Holdings) (forced between force : ℕ → ℕ) (m p : ℕ) → p ≡ m → SameOthers g mid forced between m → SameOthers mid left between force p → SameOthers g left forced force m
others_on g mid left forced between force m p same a b = record {
  members = b.members ∙ a.members;
  statuses = λ k l ne. b.statuses k l (off k ne) ∙ a.statuses k l ne;
  counter = (let x = a.counter in let y = b.counter in omega (arith, x, y));
  log = λ k ne. b.log k (off k ne) ∙ a.log k ne;
  stable = λ k ne. b.stable k (off k ne) ∙ a.stable k ne;
  written = λ k ne. b.written k (off k ne) ∙ a.written k ne;
  copies = λ k n ne. b.copies k n (off k ne) ∙ a.copies k n ne;
  casts = λ k n ne. b.casts k n (off k ne) ∙ a.casts k n ne;
  keeps = λ k n ne e. b.keeps k n (off k ne) (a.keeps k n ne e);
  takes = λ k n ne e. a.takes k n ne (b.takes k n (off k ne) e);
}
  where
    off : (k : ℕ) → k ≢ m → k ≢ p
    off k ne e = ne (e ∙ same)

run_on : (w mid v : World) (xs ys : List Move) → Run set_of w xs mid → Run set_of mid ys v → Run set_of w (xs ++ ys) v
run_on w mid v [] ys r q = subst (λ x. Run set_of x ys v) r q
run_on w mid v (e ∷ es) ys r q = (r.0, r.1, run_on r.0 mid v es ys r.2 q)

pub record LedOn (w : World) (v : Outside) (g : Holdings) (content : ℕ → ℕ → List ℕ) (forced : ℕ → ℕ) (h k : Held) (owned : ℕ → Option ℕ) : Type 0 where
  pub leads : Leads w v g content forced h k
  pub owner : leads.left.owner ≡ owned

pub ended : Facts → (w : World) (v : Outside) (g : Holdings) (content : ℕ → ℕ → List ℕ) (forced : ℕ → ℕ) (h mid k : Held)
    → (a : Leads w v g content forced h mid) → MayPark a.left mid → Ends mid k → k.marks.own.is_read ≡ true → LedOn w v g content forced h k a.left.owner
ended facts w v g content forced h mid k a park ends read =
    let b = a.beside in
    let f = a.left.facility in
    let m = mid.marks.member in
    let left = behind a.left f m k in
    let goes : Goes a.world a.versions a.force left mid k = facts.reaches a.world a.left a.versions a.force mid k b.begins park ends in
    record {
      leads = record {
        moves = a.moves ++ goes.moves;
        world = goes.moved.world;
        run = run_on w a.world goes.moved.world a.moves goes.moves a.run goes.moved.run;
        left = left;
        versions = a.versions;
        force = a.force;
        beside = record {
          begins = record { good = facts.good set_of goes.moves a.world goes.moved.world b.begins.good goes.moved.run; tied = goes.moved.tied; numbered = goes.numbered; sound = b.begins.sound; restarts = goes.stands };
          facility = b.facility;
          drive = b.drive;
          read = read;
        };
        same = goes.same ∙ a.same;
        others = others_on g a.left left forced a.force a.force h.marks.member m a.same a.others (others_behind a.left f a.force m k (standings_same f));
        kept = a.kept;
        casts = a.casts;
        level = a.level;
      };
      owner = refl;
    }

-- ---- what the disk tells goes on
pub went_on : (d : Drive) (now : Option Contents) (pages : ℕ → List ℕ) (s : Shows d pages) (P : Contents → Contents → Type 0) → Becomes d.contents now P → (x : Contents) × (now ≡ Some x) × P s.contents x
went_on d now pages s P b = by now refl (subst (λ z. Becomes z now P) s.told b)
  where
    by : (o : Option Contents) → now ≡ o → Becomes (Some s.contents) now P → (x : Contents) × (now ≡ Some x) × P s.contents x
    by None is b = absurd (subst (λ z. Becomes (Some s.contents) z P) is b)
    by (Some x) is b = (x, is, subst (λ z. Becomes (Some s.contents) z P) is b)
