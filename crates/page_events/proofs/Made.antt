-- What an event leads to, from its moves: all else of the group, and events one after the other.
use Rattle.std.proofs.Common.{◌≡◌, ◌≢◌, ℕ, ◌≤◌, refl, sym, ◌∙◌, ap, subst, List, [], ◌∷◌, ◌++◌, Option, arith}
use Rattle.std.specs.Prelude.{Bool, ◌==◌}
use Rattle.std.proofs.lemmas.Bool.{cond-true, cond-false, eq-eqb, ne_eqb}
use Rattle.cache_structure.specs.Sound.{IsSound}
use Rattle.list_structure.specs.Standings.{status_of}
use Rattle.facility.specs.States.{Held as Facility}
use Rattle.member_log.specs.Buffers.{LogBuffer}
use Rattle.member_needs.specs.declared.castout.Cast.{Cast as InHand}
use Rattle.member_marks.specs.Local.{Reaches}
use Rattle.member_effects.specs.Kept.{Kept}
use Rattle.member_effects.specs.Changes.{with_marks as kept_with}
use Rattle.member_resources.specs.Held.{Held, with_marks}
use Rattle.member_resources.specs.Settled.{kept_of}
use Rattle.member_resources.specs.Events as event
use Rattle.member_resources.specs.Events.{Drive}
use Rattle.page_protocol.specs.Moves.{World, Move, Run}
use Rattle.page_protocol.specs.Page.{put}
use Rattle.page_protocol.specs.Always.{AlwaysGood}
use Rattle.page_world.specs.Numbers.{set_of}
use Rattle.page_world.specs.Holdings.{Holdings, KeepsPages, with_facility}
use Rattle.page_intents.specs.Stands.{AreBehind, copy_of, behind, Goes}
use Rattle.page_intents.specs.Frames.{Begins}
use Rattle.page_intents.specs.Castouts.{cast_of, cast_behind, HasCast}
use Rattle.page_intents.specs.Owners.{LeavesPages}
use Rattle.page_intents.specs.Plain.{ArePlain, none_waits}
use Rattle.page_events.specs.Beside.{Shows, SameOthers, OthersStayUp, Leads}
use Rattle.page_events.proofs.Facts.{Facts}

-- where the facility is what the group holds of it
pub record Now (w : World) (g : Holdings) (content : ℕ → ℕ → List ℕ) (forced : ℕ → ℕ) (h : Held) (d : Drive) : Type 0 where
  pub begins : Begins w g content forced (kept_of h)
  pub drive : Shows d g.disk
  pub cast : HasCast g h.marks.member h.cast h.buffer

pub made : AlwaysGood → (w : World) (v : event.World) (g left : Holdings) (content versions : ℕ → ℕ → List ℕ) (forced force : ℕ → ℕ) (h k : Held)
    → Begins w g content forced (kept_of h) → Goes w versions force left h.marks (kept_of k) → left.facility ≡ v.facility → Shows v.drive left.disk → HasCast left h.marks.member k.cast k.buffer → IsSound left.facility.directory
    → SameOthers g left forced force h.marks.member → ((n i : ℕ) → i ≤ (w.pages n).last → versions n i ≡ content n i) → Leads w v g content forced h k
made law w v g left content versions forced force h k b goes facility drive cast sound others kept = record {
  moves = goes.moves;
  world = goes.moved.world;
  run = goes.moved.run;
  plain = goes.plain;
  left = left;
  versions = versions;
  force = force;
  beside = record {
    begins = record { good = law set_of goes.moves w goes.moved.world b.good goes.moved.run; tied = goes.moved.tied; numbered = goes.numbered; sound = sound; up = goes.stands };
    facility = facility;
    drive = drive;
    cast = subst (λ m. HasCast left m k.cast k.buffer) (sym goes.same) cast;
  };
  same = goes.same;
  others = others;
  kept = kept;
}

-- ---- what stays of the others

-- nobody's standing changes, and the counter doesn't fall
pub record KeepsStandings (f after : Facility) : Type 0 where
  pub members : after.lists.members ≡ f.lists.members
  pub statuses : after.lists.statuses ≡ f.lists.statuses
  pub counter : f.counter ≤ after.counter

pub standings_of : (f after : Facility) → KeepsPages f after → KeepsStandings f after
standings_of f after k = record { members = k.members; statuses = k.statuses; counter = (let e = k.counter in omega (arith, e)) }

pub others_facility : (g : Holdings) (f : Facility) (forced : ℕ → ℕ) (m : ℕ) → KeepsStandings g.facility f → SameOthers g (with_facility g f) forced forced m
others_facility g f forced m s = record {
  members = s.members;
  statuses = λ k l ne. ap (λ z. status_of z k) s.statuses;
  counter = s.counter;
  log = λ k ne. refl;
  stable = λ k ne. refl;
  written = λ k ne. refl;
  copies = λ k n ne. refl;
  casts = λ k n ne. refl;
  keeps = λ k n ne e. e;
  takes = λ k n ne e. e;
}

pub put_other : {A : Type 0} → (f : ℕ → A) (m k : ℕ) (x : A) → k ≢ m → put f m x k ≡ f k
put_other f m k x ne = cond-false (k == m) x (f k) (ne_eqb k m ne)

pub others_behind : (g : Holdings) (f : Facility) (forced : ℕ → ℕ) (m : ℕ) (t : Kept) → KeepsStandings g.facility f → SameOthers g (behind g f m t) forced forced m
others_behind g f forced m t s = record {
  members = s.members;
  statuses = λ k l ne. ap (λ z. status_of z k) s.statuses;
  counter = s.counter;
  log = λ k ne. refl;
  stable = λ k ne. refl;
  written = λ k ne. refl;
  copies = λ k n ne. cond-false (k == m) (copy_of t.marks.heads t.pages n) (g.copies k n) (ne_eqb k m ne);
  casts = λ k n ne. refl;
  keeps = λ k n ne e. e;
  takes = λ k n ne e. e;
}

pub others_cast : (g : Holdings) (f : Facility) (forced : ℕ → ℕ) (m : ℕ) (cast : Option InHand) (buffer : List ℕ) (disk : ℕ → List ℕ) → KeepsStandings g.facility f → SameOthers g (record (cast_behind g f m cast buffer) { disk = disk }) forced forced m
others_cast g f forced m cast buffer disk s = record {
  members = s.members;
  statuses = λ k l ne. ap (λ z. status_of z k) s.statuses;
  counter = s.counter;
  log = λ k ne. refl;
  stable = λ k ne. refl;
  written = λ k ne. refl;
  copies = λ k n ne. refl;
  casts = λ k n ne. cond-false (k == m) (cast_of cast buffer n) (g.casts k n) (ne_eqb k m ne);
  keeps = λ k n ne e. e;
  takes = λ k n ne e. e;
}

others_on : (g mid left : Holdings) (forced between force : ℕ → ℕ) (m p : ℕ) → p ≡ m → SameOthers g mid forced between m → SameOthers mid left between force p → SameOthers g left forced force m
others_on g mid left forced between force m p same a b = record {
  members = b.members ∙ a.members;
  statuses = λ k l ne. b.statuses k l (away k ne) ∙ a.statuses k l ne;
  counter = (let x = a.counter in let y = b.counter in omega (arith, x, y));
  log = λ k ne. b.log k (away k ne) ∙ a.log k ne;
  stable = λ k ne. b.stable k (away k ne) ∙ a.stable k ne;
  written = λ k ne. b.written k (away k ne) ∙ a.written k ne;
  copies = λ k n ne. b.copies k n (away k ne) ∙ a.copies k n ne;
  casts = λ k n ne. b.casts k n (away k ne) ∙ a.casts k n ne;
  keeps = λ k n ne e. b.keeps k n (away k ne) (a.keeps k n ne e);
  takes = λ k n ne e. a.takes k n ne (b.takes k n (away k ne) e);
}
  where
    away : (k : ℕ) → k ≢ m → k ≢ p
    away k ne e = ne (e ∙ same)

-- ---- they are still up
pub others_stay_up : OthersStayUp
others_stay_up g left forced force m h same ne up cast =
    let k = h.marks.member in
    let counter = same.counter in
    let last = up.last in (
      record {
        least = up.least;
        among = subst (λ z. k ≤ z) (sym same.members) up.among;
        up = same.statuses k up.least ne ∙ up.up;
        log = same.log k ne ∙ up.log;
        last = omega (arith, counter, last);
        pending = subst (λ z. AreBehind z (left.written k) h.marks.log.pending) (sym (same.stable k ne)) (subst (λ z. AreBehind (g.stable k) z h.marks.log.pending) (sym (same.written k ne)) up.pending);
        apart = up.apart;
        each = up.each;
        copies = λ n. same.copies k n ne ∙ up.copies n;
        owns = λ n e. same.keeps k n ne (up.owns n e);
        no_more = λ n e x. up.no_more n e (same.takes k n ne x);
      },
      λ n. same.casts k n ne ∙ cast n,
    )

-- ---- the castout in hand

pub cast_stays : (g : Holdings) (m : ℕ) (x y : Option InHand) (a b : List ℕ) → y ≡ x → b ≡ a → HasCast g m x a → HasCast g m y b
cast_stays g m x y a b e f has n = has n ∙ sym (ap (λ z. cast_of z a n) e) ∙ sym (ap (λ z. cast_of y z n) f)

-- the one that is left
pub cast_left : (g : Holdings) (f : Facility) (m : ℕ) (x : Option InHand) (a : List ℕ) → HasCast (cast_behind g f m x a) m x a
cast_left g f m x a n = cond-true (m == m) (cast_of x a n) (g.casts m n) (eq-eqb m m refl)

-- ---- an event that leaves the pages

pub record Stays (h k : Held) : Type 0 where
  pub leaves : LeavesPages h.marks k.marks
  pub pages : k.pages ≡ h.pages
  pub cast : k.cast ≡ h.cast
  pub buffer : k.buffer ≡ h.buffer

pub stay_leads : Facts → (w : World) (g : Holdings) (content : ℕ → ℕ → List ℕ) (forced : ℕ → ℕ) (h k : Held) (d : Drive) (v : event.World)
    → Now w g content forced h d → KeepsPages g.facility v.facility → v.drive ≡ d → Stays h k → Leads w v g content forced h k
stay_leads facts w g content forced h k d v b keeps drive s =
    made facts.good w v g (with_facility g v.facility) content content forced forced h k b.begins
    (subst (λ z. Goes w content forced (with_facility g v.facility) h.marks (record { marks = k.marks; pages = z })) (sym s.pages) (facts.stay w g content forced (kept_of h) k.marks v.facility b.begins s.leaves keeps))
    refl (subst (λ z. Shows z g.disk) (sym drive) b.drive) (cast_stays g h.marks.member h.cast k.cast h.buffer k.buffer s.cast s.buffer b.cast) (subst IsSound (sym keeps.directory) b.begins.sound)
    (others_facility g v.facility forced h.marks.member (standings_of g.facility v.facility keeps)) (λ n i l. refl)

-- ---- an event that changes the frames

pub behind_leads : Facts → (w : World) (g : Holdings) (content : ℕ → ℕ → List ℕ) (forced : ℕ → ℕ) (h k : Held) (d : Drive) (v : event.World)
    → Now w g content forced h d → Goes w content forced (behind g v.facility h.marks.member (kept_of k)) h.marks (kept_of k) → KeepsStandings g.facility v.facility → IsSound v.facility.directory → Shows v.drive g.disk
    → k.cast ≡ h.cast → k.buffer ≡ h.buffer → Leads w v g content forced h k
behind_leads facts w g content forced h k d v b goes keeps sound drive cast buffer =
    made facts.good w v g (behind g v.facility h.marks.member (kept_of k)) content content forced forced h k b.begins goes
    refl drive (cast_stays g h.marks.member h.cast k.cast h.buffer k.buffer cast buffer b.cast) sound
    (others_behind g v.facility forced h.marks.member (kept_of k) keeps) (λ n i l. refl)

-- ---- and then the policy's local moves

run_on : (w mid v : World) (xs ys : List Move) → Run set_of w xs mid → Run set_of mid ys v → Run set_of w (xs ++ ys) v
run_on w mid v [] ys r q = subst (λ x. Run set_of x ys v) r q
run_on w mid v (e ∷ es) ys r q = (r.0, r.1, run_on r.0 mid v es ys r.2 q)

plain_on : (appends : Bool) (xs ys : List Move) → ArePlain appends xs → ArePlain appends ys → ArePlain appends (xs ++ ys)
plain_on appends [] ys a b = b
plain_on appends (x ∷ xs) ys a b = (a.0, plain_on appends xs ys a.1 b)

pub standings_same : (f : Facility) → KeepsStandings f f
standings_same f = record { members = refl; statuses = refl; counter = omega arith }

pub ended : Facts → (w : World) (v : event.World) (g : Holdings) (content : ℕ → ℕ → List ℕ) (forced : ℕ → ℕ) (h mid k : Held)
    → Leads w v g content forced h mid → Reaches mid.marks k.marks → k ≡ with_marks mid k.marks → Leads w v g content forced h k
ended facts w v g content forced h mid k a reaches is =
    let m = mid.marks.member in
    let f = a.left.facility in
    let b = a.beside in
    let kept : kept_of k ≡ kept_with (kept_of mid) k.marks = ap (λ (z : Held). kept_of z) is in
    let left = behind a.left f m (kept_of k) in
    let goes : Goes a.world a.versions a.force left mid.marks (kept_of k) =
    subst (λ (z : Kept). Goes a.world a.versions a.force (behind a.left f m z) mid.marks z) (sym kept) (facts.reaches a.world a.left a.versions a.force (kept_of mid) k.marks b.begins reaches) in
    record {
      moves = a.moves ++ goes.moves;
      world = goes.moved.world;
      run = run_on w a.world goes.moved.world a.moves goes.moves a.run goes.moved.run;
      plain = plain_on (none_waits k.marks.log.pending) a.moves goes.moves (subst (λ (z : LogBuffer). ArePlain (none_waits z.pending) a.moves) (sym (facts.log mid.marks k.marks reaches)) a.plain) goes.plain;
      left = left;
      versions = a.versions;
      force = a.force;
      beside = record {
        begins = record { good = facts.good set_of goes.moves a.world goes.moved.world b.begins.good goes.moved.run; tied = goes.moved.tied; numbered = goes.numbered; sound = b.begins.sound; up = goes.stands };
        facility = b.facility;
        drive = b.drive;
        cast = subst (λ z. HasCast a.left z k.cast k.buffer) (sym goes.same)
            (cast_stays a.left m mid.cast k.cast mid.buffer k.buffer (ap (λ (z : Held). z.cast) is) (ap (λ (z : Held). z.buffer) is) b.cast);
      };
      same = goes.same ∙ a.same;
      others = others_on g a.left left forced a.force a.force h.marks.member m a.same a.others (others_behind a.left f a.force m (kept_of k) (standings_same f));
      kept = a.kept;
    }
