-- One event of one member, as one of the whole group.
use Rattle.std.proofs.Common.{◌≡◌, ◌≢◌, ℕ, zero, suc, ◌-◌, ◌/◌, ◌%◌, ◌≤◌, Bool, true, false, not, ◌&&◌, List, [], ◌∷◌, ◌++◌, length, map, Option, Some, None, is_some, slice_get, slice_set, option_map, refl, sym, ap, subst, ◌∙◌, arith}
use Rattle.std.specs.Prelude.{vec_len}
use Rattle.std.specs.Global.{Vec}
use Rattle.std.specs.Vec.{with_items}
use Rattle.std.proofs.lemmas.List.{with_items_is}
use lib.ListN.{length-set, length-map}
use Rattle.ds_base.specs.Causes.{Rose}
use Rattle.ds_disk.specs.Contents.{Contents}
use Rattle.cache_structure.specs.Directory.{Directory}
use Rattle.group_member.specs.declared.part.MemberPart.{MemberPart}
use Rattle.group_member.specs.declared.stepped.Stepped.{Stepped}
use Rattle.group_member.specs.Happening.{Comes}
use Rattle.group_member.specs.Members.{Member, member_of}
use Rattle.group_core.specs.Given.{Keeps, known_by, unlooked}
use Rattle.group_core.specs.Given.{ComesAt, IsRefusedAt, member_at}
use Rattle.script_phases.specs.Progresses.{own_choice}
use Rattle.group_core.specs.Given.{ready_at, ready_for}
use Rattle.group_core.specs.declared.fault.RunFault.{RunFault}
use Rattle.group_core.specs.declared.fault.RunFault.TheVariants as fault
use Rattle.group_core.specs.declared.group.Group.{Group}
use Rattle.group_core.specs.Events.{takes}
use Rattle.group_core.specs.Goes.{noted}
use Rattle.group_core.specs.Takes.{IsMade, StepsAt, Takes, TakesMember, world_of}
use Rattle.group_core.proofs.Taking.{member_moves}
use Rattle.turn_story.specs.Chains.{part_of, with_part}
use Rattle.group_threads.specs.declared.hand.Hand.{Hand}
use Rattle.group_threads.specs.declared.shared.Shared.{Shared}
use Rattle.group_threads.specs.Happening.{ByFault, MadeAlone, takes_alone}
use Rattle.group_core.specs.Fresh.{IsLooked, TakesFresh}
use Rattle.group_threads.specs.Wholes.{parts_in, whole, StepsHand}

-- ---- lists

module _ {X Y : Type 0} where
  pub get_map : (f : X → Y) (xs : List X) (k : ℕ) → slice_get (map f xs) k ≡ option_map f (slice_get xs k)
  get_map f [] k = refl
  get_map f (x ∷ xs) zero = refl
  get_map f (x ∷ xs) (suc k) = get_map f xs k

  pub map_set : (f : X → Y) (xs : List X) (k : ℕ) (x : X) → map f (slice_set xs k x) ≡ slice_set (map f xs) k (f x)
  map_set f [] k x = refl
  map_set f (y ∷ xs) zero x = refl
  map_set f (y ∷ xs) (suc k) x = λ i. f y ∷ map_set f xs k x i

module _ {X : Type 0} where
  -- what is there already may be set again
  pub set_same : (xs : List X) (k : ℕ) (x : X) → slice_get xs k ≡ Some x → slice_set xs k x ≡ xs
  set_same [] k x is = refl
  set_same (y ∷ xs) zero x is = let same : x ≡ y = cc in λ i. same i ∷ xs
  set_same (y ∷ xs) (suc k) x is = λ i. y ∷ set_same xs k x is i

  pub get_set : (xs : List X) (k : ℕ) (x y : X) → slice_get xs k ≡ Some y → slice_get (slice_set xs k x) k ≡ Some x
  get_set [] k x y is = cc
  get_set (z ∷ xs) zero x y is = refl
  get_set (z ∷ xs) (suc k) x y is = get_set xs k x y is

  pub get_set_else : (xs : List X) (j k : ℕ) (x : X) → k ≢ j → slice_get (slice_set xs j x) k ≡ slice_get xs k
  get_set_else [] j k x other = refl
  get_set_else (y ∷ xs) zero zero x other = absurd (other refl)
  get_set_else (y ∷ xs) zero (suc k) x other = refl
  get_set_else (y ∷ xs) (suc j) zero x other = refl
  get_set_else (y ∷ xs) (suc j) (suc k) x other = get_set_else xs j k x (λ h. other (ap suc h))

-- ---- members

module _ {P : Type 0} where
  -- the hand of the member with this number
  pub hand_at : (hands : List (Hand P)) (n : ℕ) (p : Hand P) → part_of hands n ≡ Some p → (at : ℕ) × ((n ≡ suc at) × (slice_get hands at ≡ Some p))
  hand_at hands zero p is = cc
  hand_at hands (suc at) p is = (at, (refl, is))

  pub member_is : (hands : List (Hand P)) (at : ℕ) (p : Hand P) → slice_get hands at ≡ Some p → member_at (parts_in hands) at ≡ Some (member_of p.part)
  member_is hands at p is = ap (option_map member_of) (get_map (λ (h : Hand P). h.part) hands at ∙ ap (option_map (λ (h : Hand P). h.part)) is)

  pub member_else : (hands : List (Hand P)) (at k : ℕ) (x : Hand P) → k ≢ at → member_at (parts_in (slice_set hands at x)) k ≡ member_at (parts_in hands) k
  member_else hands at k x other =
      let part : Hand P → MemberPart P = λ h. h.part in
      ap (option_map member_of) (get_map part (slice_set hands at x) k ∙ (ap (option_map part) (get_set_else hands at k x other) ∙ sym (get_map part hands k)))

  -- a member that was looked at is the same but for what is ready
  pub looked_at : (hands : List (Hand P)) (at : ℕ) (p : Hand P) (fresh : MemberPart P) → slice_get hands at ≡ Some p → unlooked fresh ≡ unlooked p.part
      → map unlooked (parts_in (slice_set hands at (record p { part = fresh }))) ≡ map unlooked (parts_in hands)
  looked_at hands at p fresh is looked =
      let part : Hand P → MemberPart P = λ h. h.part in
      let bare = map unlooked (parts_in hands) in
      let there : slice_get bare at ≡ Some (unlooked p.part) = get_map unlooked (parts_in hands) at ∙ ap (option_map unlooked) (get_map part hands at ∙ ap (option_map part) is) in
      ap (map unlooked) (map_set part hands at (record p { part = fresh }))
      ∙ (map_set unlooked (parts_in hands) at fresh ∙ (ap (slice_set bare at) looked ∙ set_same bare at (unlooked p.part) there))

-- ---- the whole group

module _ {C D P : Type 0} (directory : C → Directory) (alive : D → Bool) (contents : D → Option Contents) (count : D → ℕ) (old new : Shared D C P) (p q : Hand P) (event : ℕ) (fresh : MemberPart P) (failed : Bool) where
  abbrev pub place : ℕ
  place = length new.group.journal.items

  -- what the event leaves of all that is shared
  abbrev pub Rest : Type 0
  Rest = new.group ≡ record old.group { disk = new.group.disk; crew = record old.group.crew { facility = new.group.crew.facility; fates = new.group.crew.fates; was_half = new.group.crew.was_half; progress = record old.group.crew.progress { is_idle = new.group.crew.progress.is_idle } }; journal = new.group.journal; lines = new.group.lines; faults = new.group.faults; fault = new.group.fault }

  abbrev pub Left : Type 0
  Left = takes_alone old fresh event ≡ false → (new.group ≡ record old.group { journal = new.group.journal; lines = new.group.lines; faults = new.group.faults }) × (q.part ≡ fresh)

  abbrev pub Made : Type 0
  Made = takes_alone old fresh event ≡ true → ByFault directory alive contents new.group.fault old fresh (event / 64) place new q.part failed

  module _ (base : Vec (MemberPart P)) (hands : List (Hand P)) (at : ℕ) (long : length hands ≡ vec_len base) (here : slice_get hands at ≡ Some p) (rest : Rest) where
    abbrev looked_hands : List (Hand P)
    looked_hands = slice_set hands at (record p { part = fresh })

    abbrev left_hands : List (Hand P)
    left_hands = slice_set hands at q

    abbrev mid : Group D C P
    mid = whole base old looked_hands

    abbrev last : Group D C P
    last = whole base new left_hands

    items_of : (at : ℕ) (x : Hand P) → (with_items base (parts_in (slice_set hands at x))).items ≡ parts_in (slice_set hands at x)
    items_of at x = with_items_is base (parts_in (slice_set hands at x)) (length-map (slice_set hands at x) (λ (h : Hand P). h.part) ∙ (length-set hands at x ∙ long))

    items_before : (with_items base (parts_in hands)).items ≡ parts_in hands
    items_before = with_items_is base (parts_in hands) (length-map hands (λ (h : Hand P). h.part) ∙ long)

    had : member_at mid.crew.parts.items at ≡ Some (member_of fresh)
    had = ap (λ l. member_at l at) (items_of at (record p { part = fresh })) ∙ member_is looked_hands at (record p { part = fresh }) (get_set hands at (record p { part = fresh }) p here)

    has : member_at last.crew.parts.items at ≡ Some (member_of q.part)
    has = ap (λ l. member_at l at) (items_of at q) ∙ member_is left_hands at q (get_set hands at q p here)

    others : (k : ℕ) → k ≢ at → member_at last.crew.parts.items k ≡ member_at mid.crew.parts.items k
    others k other =
        ap (λ l. member_at l k) (items_of at q)
        ∙ (member_else hands at k q other ∙ sym (ap (λ l. member_at l k) (items_of at (record p { part = fresh })) ∙ member_else hands at k (record p { part = fresh }) other))

    keeps : Keeps mid.crew last.crew
    keeps = record {
      script = ap (λ (g : Group D C P). g.crew.script) rest;
      begun = ap (λ (g : Group D C P). g.crew.progress.begun) rest;
      restart = ap (λ (g : Group D C P). g.crew.restart) rest;
    }

    known_at : (x : Hand P) → map known_by (with_items base (parts_in (slice_set hands at x))).items ≡ slice_set (map known_by (parts_in hands)) at x.part.known
    known_at x = ap (map known_by) (items_of at x) ∙ (ap (map known_by) (map_set (λ (h : Hand P). h.part) hands at x) ∙ map_set known_by (parts_in hands) at x.part)

    known : q.part.known ≡ fresh.known → map known_by last.crew.parts.items ≡ map known_by mid.crew.parts.items
    known same = known_at q ∙ (ap (slice_set (map known_by (parts_in hands)) at) same ∙ sym (known_at (record p { part = fresh })))

    -- the look before it
    pub looks : unlooked fresh ≡ unlooked p.part → IsLooked (whole base old hands) mid
    looks same = record {
      rest = refl;
      crew = record {
        rest = refl;
        parts = ap (map unlooked) (items_of at (record p { part = fresh })) ∙ (looked_at hands at p fresh here same ∙ ap (map unlooked) (sym items_before));
      };
    }

    -- it is taken by the whole group where it is taken by the member
    taken_alone : (n : ℕ) → event % 64 ≡ n → n ≡ suc at → takes mid event ≡ takes_alone old fresh event
    taken_alone n number is =
        let ready = map (λ (m : MemberPart P). m.ready) mid.crew.parts.items in
        let own = own_choice (is_some old.group.crew.restart) old.group.crew.progress old.group.crew.script in
        let there : slice_get ready at ≡ Some fresh.ready =
        ap (λ l. slice_get (map (λ (m : MemberPart P). m.ready) l) at) (items_of at (record p { part = fresh }))
        ∙ (get_map (λ (m : MemberPart P). m.ready) (parts_in looked_hands) at
        ∙ ap (option_map (λ (m : MemberPart P). m.ready)) (get_map (λ (h : Hand P). h.part) looked_hands at ∙ ap (option_map (λ (h : Hand P). h.part)) (get_set hands at (record p { part = fresh }) p here))) in
        ap (λ k. not (is_some old.group.fault) && ready_for (is_some old.group.crew.restart) own ready k (event / 64)) (number ∙ is)
        ∙ ap (λ o. not (is_some old.group.fault) && (not (is_some old.group.crew.restart) && ready_at o (event / 64))) there

    steps : (stepped : Stepped) → Comes old.group.crew.script old.group.crew.progress.begun old.group.crew.sizes.sizes (event / 64) (member_of fresh) (world_of directory alive contents old.group.crew.facility old.group.disk) old.group.crew.fates place stepped (member_of q.part) (world_of directory alive contents new.group.crew.facility new.group.disk) new.group.crew.fates → q.part.known ≡ fresh.known
        → StepsAt directory alive contents mid.crew mid.disk at (event / 64) place stepped last.crew last.disk
    steps stepped comes same = record {
      comes = subst (λ (o : Option Member × Option Member). ComesAt old.group.crew.script old.group.crew.progress.begun old.group.crew.sizes.sizes (event / 64) o.0 (world_of directory alive contents old.group.crew.facility old.group.disk) old.group.crew.fates place stepped o.1 (world_of directory alive contents new.group.crew.facility new.group.disk) new.group.crew.fates)
          (λ i. (sym had i, sym has i)) comes;
      others = others;
      keeps = keeps;
      known = known same;
      groupfails = ap (λ (g : Group D C P). g.crew.progress.groupfails) rest;
      sizes = ap (λ (g : Group D C P). g.crew.sizes) rest;
    }

    made_by : MadeAlone directory alive contents old fresh (event / 64) place new q.part failed → IsMade directory alive contents mid.crew mid.disk at (event / 64) place failed last.crew last.disk
    made_by it = record { stepped = it.stepped; failure = it.failure; steps = steps it.stepped it.comes it.known }

    by_fault : (why : Option RunFault) → ByFault directory alive contents why old fresh (event / 64) place new q.part failed → TakesMember directory alive contents why mid.crew mid.disk at (event / 64) place failed last.crew last.disk
    by_fault None it = made_by it
    by_fault (Some (fault.Damaged volume offset)) it = made_by it
    by_fault (Some (fault.Unlawful refused)) it = record {
      there = it.there;
      unfailed = it.unfailed;
      cause = subst (λ (m : Option Member). IsRefusedAt m (world_of directory alive contents old.group.crew.facility old.group.disk) place (world_of directory alive contents new.group.crew.facility new.group.disk)) (sym had) it.cause;
    }
    by_fault (Some fault.Failed) it = absurd it
    by_fault (Some fault.NoMemory) it = absurd it

    left_as : (new.group ≡ record old.group { journal = new.group.journal; lines = new.group.lines; faults = new.group.faults }) → q.part ≡ fresh
        → last ≡ record mid { journal = last.journal; lines = last.lines; faults = last.faults }
    left_as same part =
        let parts : parts_in left_hands ≡ parts_in looked_hands =
        map_set (λ (h : Hand P). h.part) hands at q ∙ (ap (slice_set (parts_in hands) at) part ∙ sym (map_set (λ (h : Hand P). h.part) hands at (record p { part = fresh }))) in
        λ i. record (same i) { crew = record (same i).crew { parts = with_items base (parts i) } }

    -- the event is one of the whole group
    pub takes_whole : event % 64 ≡ suc at → new.group.journal.items ≡ old.group.journal.items ++ event ∷ [] → new.group.faults.items ≡ noted old.group.faults.items place failed
        → (failed ≡ true → Rose (count old.group.disk) (count new.group.disk)) → Left → (takes_alone old fresh event ≡ false → failed ≡ false) → Made → Takes directory alive contents count mid event last
    takes_whole number journal faults rose left missed made =
        let same = taken_alone (suc at) number refl in
        let there : at ≡ event % 64 - 1 = omega (arith, number) in
        let other : event % 64 ≢ 0 = λ zero_is. (let never : suc at ≡ 0 = sym number ∙ zero_is in cc) in
        record {
          failed = failed;
          journal = journal;
          faults = faults;
          rose = rose;
          left = λ not_taken. (let l = left (sym same ∙ not_taken) in left_as l.0 l.1);
          missed = λ not_taken. missed (sym same ∙ not_taken);
          moves = λ is_taken. member_moves directory event mid.crew last.crew last.fault other keeps;
          own = λ is_taken zero_is. absurd (other zero_is);
          member = λ is_taken is_other. subst (λ k. TakesMember directory alive contents new.group.fault mid.crew mid.disk k (event / 64) place failed last.crew last.disk) there (by_fault new.group.fault (made (sym same ∙ is_taken)));
        }

-- whatever the others are
pub steps_hand : {C D P : Type 0} (directory : C → Directory) (alive : D → Bool) (contents : D → Option Contents) (count : D → ℕ) (old new : Shared D C P) (p q : Hand P) (event : ℕ) (fresh : MemberPart P) (failed : Bool)
    → Rest directory alive contents count old new p q event fresh failed → unlooked fresh ≡ unlooked p.part
    → new.group.journal.items ≡ old.group.journal.items ++ event ∷ [] → new.group.faults.items ≡ noted old.group.faults.items (length new.group.journal.items) failed
    → (failed ≡ true → Rose (count old.group.disk) (count new.group.disk)) → Left directory alive contents count old new p q event fresh failed
    → (takes_alone old fresh event ≡ false → failed ≡ false) → Made directory alive contents count old new p q event fresh failed → count old.group.disk ≤ count new.group.disk
    → StepsHand directory alive contents count old p event new q
steps_hand {C} {D} {P} directory alive contents count old new p q event fresh failed rest same journal faults rose left missed made later = record {
  later = later;
  takes = λ base hands long mine.
      let h = hand_at hands (event % 64) p mine in
      subst (λ k. TakesFresh directory alive contents count (whole base old hands) event (whole base new (with_part hands k q))) (sym h.1.0) (record {
        mid = whole base old (slice_set hands h.0 (record p { part = fresh }));
        looked = looks directory alive contents count old new p q event fresh failed base hands h.0 long h.1.1 rest same;
        takes = takes_whole directory alive contents count old new p q event fresh failed base hands h.0 long h.1.1 rest h.1.0 journal faults rose left missed made;
      });
}
