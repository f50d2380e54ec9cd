-- What an event leaves of the members of a group, of its fault, and of its group restart.
use Rattle.std.proofs.Common.{◌≡◌, ℕ, zero, suc, ◌+◌, ◌-◌, ◌*◌, ◌≤◌, refl, sym, ◌∙◌, ap, subst, arith, Bool, true, false, inl, inr, List, [], ◌∷◌, ◌++◌, length, Option, Some, None}
use Rattle.std.specs.Prelude.{◌≢◌, ◌⊎◌, ◌/◌, ◌%◌, ◌&&◌, ◌==◌, not, if◌then◌else◌, IfSome, IsSomeAnd, is_some, map, slice_get}
use Rattle.std.proofs.lemmas.Bool.{and_parts, cases_Bool, cases_eq, eqb-true}
use Rattle.std.proofs.lemmas.Nat.{div-add-mod'}
use Rattle.std.proofs.lemmas.Option.{slice_get-map}
use Rattle.ds_disk.specs.Contents.{Contents}
use Rattle.ds_model.specs.declared.script.Phase.{Phase}
use Rattle.ds_model.specs.declared.script.Script.{Script}
use Rattle.cache_structure.specs.Directory.{Directory}
use Rattle.list_structure.specs.States.{ListsState}
use Rattle.claimed_logs.specs.Given.{AllRestart, BeginsOrNot, ComesAt, Crew, CrewState, Group, GroupFails, IsLooked, IsMade, Member, MemberPart, PhaseBegins, Progress, RunFault, RunsFresh, Takes, TakesMember, TakesOwn, crew_state, fail_counted, has_groupfail, has_phase, is_own, is_ready_in, lists_begun, member_at, member_of, own_choice, ready_for, takes, unlooked, world_of}
use Rattle.claimed_logs.specs.Given.fault_variants as fault

never : false ≡ true → ⊥
never e = cc

pub both_ways : (b : Bool) → b ≡ true → b ≡ false → ⊥
both_ways b p q = cc

-- ---- which event may be taken
own_is : (own choice : ℕ) → is_own (Some own) choice ≡ true → choice ≡ own
own_is own choice e = sym (eqb-true own choice e)

member_unready : (own : Option ℕ) (ready : List ℕ) (n choice : ℕ) → n ≢ 0 → ready_for true own ready n choice ≡ true → ⊥
member_unready own ready zero choice some e = some refl
member_unready own ready (suc n) choice some e = never e

own_choices : (p : Progress) (script : Script) (choice : ℕ) → is_own (own_choice false p script) choice ≡ true → (choice ≡ 0) ⊎ (choice ≡ 1)
own_choices p script choice e = by p.is_idle (has_groupfail p script) (has_phase p script) e
  where
    by : (a b c : Bool) → is_own (if a then (if b then Some 1 else (if c then Some 0 else None)) else None) choice ≡ true → (choice ≡ 0) ⊎ (choice ≡ 1)
    by true true c e = inr (own_is 1 choice e)
    by true false true e = inl (own_is 0 choice e)
    by true false false e = absurd (never e)
    by false b c e = absurd (never e)

own_number : (event choice : ℕ) → event % 64 ≡ 0 → event / 64 ≡ choice → event ≡ choice * 64
own_number event choice rest is =
    let whole : event / 64 * 64 + event % 64 ≡ event = div-add-mod' event 64 in
    let same : event / 64 * 64 ≡ choice * 64 = ap (λ z. z * 64) is in
    omega (arith, whole, same, rest)

-- ---- what is ready
from_unlooked : {P : Type 0} → (parts : List (MemberPart P)) → map member_of (map unlooked parts) ≡ map member_of parts
from_unlooked [] = refl
from_unlooked (p ∷ parts) = ap (λ (ms : List Member). member_of p ∷ ms) (from_unlooked parts)

known_unlooked : {P : Type 0} → (parts : List (MemberPart P)) → map (λ (p : MemberPart P). p.known) (map unlooked parts) ≡ map (λ (p : MemberPart P). p.known) parts
known_unlooked [] = refl
known_unlooked (p ∷ parts) = ap (λ (ks : List (List ℕ)). p.known ∷ ks) (known_unlooked parts)

-- ---- members by their places
none_some : {A : Type 0} → (x : Option A) (a : A) → x ≡ Some a → x ≡ None → ⊥
none_some x a some none = cc

-- those that aren't there behind a phase weren't before it
all_there : (phase : Phase) (lists : ListsState) (olds news : List Member) (now : ListsState) → AllRestart phase lists olds news now → (at : ℕ) → slice_get news at ≡ None → slice_get olds at ≡ None
all_there phase lists [] [] now all at none = none
all_there phase lists [] (n ∷ ns) now all at none = absurd all
all_there phase lists (o ∷ os) [] now all at none = absurd all
all_there phase lists (o ∷ os) (n ∷ ns) now all zero none = absurd (none_some (Some n) n refl none)
all_there phase lists (o ∷ os) (n ∷ ns) now all (suc at) none = all_there phase (lists_begun phase lists o.id) os ns now all.1 at none

-- Which members are there stays; and a group restart comes in hand as the whole group fails alone.
pub record StaysOrFails (event : ℕ) (old new : CrewState) : Type 0 where
  pub there : (at : ℕ) → slice_get new.members at ≡ None → slice_get old.members at ≡ None
  pub restart : (is_some new.restart ≡ false) ⊎ ((event ≡ 64) × GroupFails (fail_counted old) new)

module _ {C D P : Type 0} (directory : C → Directory) (alive : D → Bool) (contents : D → Option Contents) (count : D → ℕ) where
  -- it may have been found again, and nothing else has changed
  pub looked_state : (old new : Group D C P) → IsLooked old new → crew_state directory new.crew ≡ crew_state directory old.crew
  looked_state old new l =
      let members : map member_of new.crew.parts.items ≡ map member_of old.crew.parts.items =
      sym (from_unlooked new.crew.parts.items) ∙ ap (λ (ps : List (MemberPart P)). map member_of ps) l.crew.parts ∙ from_unlooked old.crew.parts.items in
      let known : map (λ (p : MemberPart P). p.known) new.crew.parts.items ≡ map (λ (p : MemberPart P). p.known) old.crew.parts.items =
      sym (known_unlooked new.crew.parts.items) ∙ ap (λ (ps : List (MemberPart P)). map (λ (p : MemberPart P). p.known) ps) l.crew.parts ∙ known_unlooked old.crew.parts.items in
      ap (λ (z : Crew C P). crew_state directory z) l.crew.rest ∙ (λ i. record (crew_state directory old.crew) { members = members i; known = known i })

  -- ---- a fault is left from then on
  still_faulty : (old new : Group D C P) (event : ℕ) (why : RunFault) → Takes directory alive contents count old event new → old.fault ≡ Some why → new.fault ≡ Some why
  still_faulty old new event why taken is =
      let isnt : takes old event ≡ false = ap (λ (z : Option RunFault). not (is_some z) && is_ready_in old.crew event) is in
      ap (λ (z : Group D C P). z.fault) (taken.left isnt) ∙ is

  faulty_on : (events : List ℕ) (old new : Group D C P) (why : RunFault) → RunsFresh directory alive contents count old events new → old.fault ≡ Some why → new.fault ≡ Some why
  faulty_on [] old new why runs is = ap (λ (z : Group D C P). z.fault) runs.rest ∙ is
  faulty_on (event ∷ events) old new why runs is =
      let first = runs.1 in
      faulty_on events runs.0 new why runs.2 (still_faulty first.mid runs.0 event why first.takes (ap (λ (z : Group D C P). z.fault) first.looked.rest ∙ is))

  -- nothing was refused
  abbrev pub IsLawful : Group D C P → Type 0
  IsLawful group = (at : ℕ) → group.fault ≢ Some (fault.Unlawful at)

  pub lawful_before : (events : List ℕ) (old new : Group D C P) → RunsFresh directory alive contents count old events new → IsLawful new → IsLawful old
  lawful_before events old new runs lawful at e = lawful at (faulty_on events old new (fault.Unlawful at) runs e)

  -- where there is a fault no event is taken
  pub faulty_unmoved : (group : Group D C P) (event : ℕ) → is_some group.fault ≡ true → takes group event ≡ false
  faulty_unmoved group event is = ap (λ (b : Bool). not b && is_ready_in group.crew event) is

  -- ---- the event that is taken
  module _ (old new : Group D C P) (event : ℕ) (taken : Takes directory alive contents count old event new) (is : takes old event ≡ true) where
    abbrev before : CrewState
    before = crew_state directory old.crew

    abbrev after : CrewState
    after = crew_state directory new.crew

    ready : (b : Bool) → is_some old.crew.restart ≡ b → ready_for b (own_choice b old.crew.progress old.crew.script) (map (λ (p : MemberPart P). p.ready) old.crew.parts.items) (event % 64) (event / 64) ≡ true
    ready b hand = subst (λ (z : Bool). ready_for z (own_choice z old.crew.progress old.crew.script) (map (λ (p : MemberPart P). p.ready) old.crew.parts.items) (event % 64) (event / 64) ≡ true) hand
        (and_parts (not (is_some old.fault)) (is_ready_in old.crew event) is).1

    own_ready : (b : Bool) → is_some old.crew.restart ≡ b → event % 64 ≡ 0 → is_own (own_choice b old.crew.progress old.crew.script) (event / 64) ≡ true
    own_ready b hand own = subst (λ (z : ℕ). ready_for b (own_choice b old.crew.progress old.crew.script) (map (λ (p : MemberPart P). p.ready) old.crew.parts.items) z (event / 64) ≡ true) own (ready b hand)

    -- while a group restart is in hand it is the next call of that
    pub is_call : is_some old.crew.restart ≡ true → (event ≡ 128) × (event % 64 ≡ 0)
    is_call hand = elim (cases_eq (event % 64) 0) [
      | inl own ↦ (own_number event 2 own (own_is 2 (event / 64) (own_ready true hand own)), own)
      | inr member ↦ absurd (member_unready (own_choice true old.crew.progress old.crew.script) (map (λ (p : MemberPart P). p.ready) old.crew.parts.items) (event % 64) (event / 64) member (ready true hand))
    ]

    module _ (lawful : IsLawful new) (free : is_some old.crew.restart ≡ false) where
      choices : event % 64 ≡ 0 → (event / 64 ≡ 0) ⊎ (event / 64 ≡ 1)
      choices own = own_choices old.crew.progress old.crew.script (event / 64) (own_ready false free own)

      -- ---- the group's own
      begun : (x : Option Phase) → IsSomeAnd x (λ phase. PhaseBegins phase before after) → StaysOrFails event before after
      begun None h = absurd h
      begun (Some phase) h = record {
        there = all_there phase before.facility.lists before.members after.members h.lists h.restarts;
        restart = inl (ap (λ (z : CrewState). is_some z.restart) h.rest ∙ free);
      }

      begins : (why : Option RunFault) → new.fault ≡ why → BeginsOrNot directory why old.crew event (length new.journal.items) new.crew → StaysOrFails event before after
      begins None same e = begun (slice_get before.script.phases before.begun) e
      begins (Some (fault.Unlawful place)) same e = absurd (lawful place same)
      begins (Some fault.Failed) same e = absurd e
      begins (Some (fault.Damaged volume offset)) same e = absurd e
      begins (Some fault.NoMemory) same e = absurd e

      own_goes : TakesOwn directory alive contents new.fault old.crew old.disk event (length new.journal.items) taken.failed new.crew new.disk → (event / 64 ≡ 0) ⊎ (event / 64 ≡ 1) → event % 64 ≡ 0 → StaysOrFails event before after
      own_goes e (inl first) own = begins new.fault refl (e.begins (own_number event 0 own first))
      own_goes e (inr second) own =
          let fails : GroupFails (fail_counted before) after = (e.fails (own_number event 1 own second)).1 in
          record {
            there = λ at none. subst (λ (z : List Member). slice_get z at ≡ None) (ap (λ (z : CrewState). z.members) fails.rest) none;
            restart = inr (own_number event 1 own second, fails);
          }

      -- ---- a member's
      abbrev at : ℕ
      at = event % 64 - 1

      old_at : (k : ℕ) → slice_get before.members k ≡ member_at old.crew.parts.items k
      old_at k = slice_get-map member_of old.crew.parts.items k

      new_at : (k : ℕ) → slice_get after.members k ≡ member_at new.crew.parts.items k
      new_at k = slice_get-map member_of new.crew.parts.items k

      made : IsMade directory alive contents old.crew old.disk at (event / 64) (length new.journal.items) taken.failed new.crew new.disk → StaysOrFails event before after
      made e = record { there = there; restart = inl (ap (λ z. is_some z) e.steps.keeps.restart ∙ free) }
        where
          has : (x y : Option Member) → ComesAt old.crew.script old.crew.progress.begun old.crew.sizes.sizes (event / 64) x (world_of directory alive contents old.crew.facility old.disk) before.fates (length new.journal.items) e.stepped y (world_of directory alive contents new.crew.facility new.disk) after.fates
              → y ≡ None → ⊥
          has None y c none = c
          has (Some m) None c none = c
          has (Some m) (Some n) c none = none_some (Some n) n refl none

          there : (k : ℕ) → slice_get after.members k ≡ None → slice_get before.members k ≡ None
          there k none = elim (cases_eq k at) [
            | inl same ↦ absurd (has (member_at old.crew.parts.items at) (member_at new.crew.parts.items at) e.steps.comes (subst (λ (z : ℕ). member_at new.crew.parts.items z ≡ None) same (sym (new_at k) ∙ none)))
            | inr other ↦ old_at k ∙ sym (e.steps.others k other) ∙ sym (new_at k) ∙ none
          ]

      member_goes : (why : Option RunFault) → new.fault ≡ why → TakesMember directory alive contents why old.crew old.disk at (event / 64) (length new.journal.items) taken.failed new.crew new.disk → StaysOrFails event before after
      member_goes None same e = made e
      member_goes (Some (fault.Damaged volume offset)) same e = made e
      member_goes (Some (fault.Unlawful refused)) same e = absurd (lawful refused same)
      member_goes (Some fault.Failed) same e = absurd e
      member_goes (Some fault.NoMemory) same e = absurd e

      -- so it is of each event while no group restart is in hand
      pub free_goes : StaysOrFails event before after
      free_goes = elim (cases_eq (event % 64) 0) [
        | inl own ↦ own_goes (taken.own is own) (choices own) own
        | inr member ↦ member_goes new.fault refl (taken.member is member)
      ]

      -- which is no call of one
      pub no_call : event ≢ 128
      no_call same = let rest : event % 64 ≡ 0 = ap (λ (z : ℕ). z % 64) same in by rest (choices rest)
        where
          by : event % 64 ≡ 0 → (event / 64 ≡ 0) ⊎ (event / 64 ≡ 1) → ⊥
          by rest (inl first) = let number = own_number event 0 rest first in omega (arith, number, same)
          by rest (inr second) = let number = own_number event 1 rest second in omega (arith, number, same)

      -- and where the whole group fails, the disk stays as it was
      pub disk_stays : event ≡ 64 → new.disk ≡ old.disk
      disk_stays same = (taken.own is (ap (λ (z : ℕ). z % 64) same)).still no_call
