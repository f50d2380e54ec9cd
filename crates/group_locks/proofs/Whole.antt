-- The group fails and begins anew, or one of its members fails.
use Rattle.std.proofs.Common.{◌≡◌, ℕ, zero, suc, ◌+◌, ◌≤◌, ◌<◌, refl, sym, ◌∙◌, ap, subst, arith, Bool, true, false, inl, inr, List, [], ◌∷◌, length, Option, Some, None}
use Rattle.std.specs.Prelude.{◌≢◌, ◌⊎◌, ◌-◌, if◌then◌else◌, IfSome, map, nat_le, slice_get, slice_index_or, slice_set}
use Rattle.std.specs.Option.{option_map}
use Rattle.std.proofs.lemmas.Bool.{cases_eq}
use Rattle.std.proofs.lemmas.Option.{slice_get-map, slice_get_within}
use Rattle.ds_base.specs.Ids.{IsMember}
use Rattle.ds_base.specs.declared.names.Sizes.{Sizes}
use Rattle.lock_structure.specs.Locks.{Locks}
use Rattle.list_structure.specs.declared.standing.MemberStatus.{MemberStatus}
use Rattle.list_structure.specs.declared.standing.MemberStatus.TheVariants.{Down, Failed, Restarting, Up}
use Rattle.list_structure.specs.Standings.{status_of}
use Rattle.list_structure.specs.States.{IsNew, ListsState}
use Rattle.group_member.specs.Members.{IsDown, Member}
use Rattle.group_core.specs.Given.{id_of}
use Rattle.group_core.specs.Given.{CrewState}
use Rattle.lock_protocol.specs.Machine.{World}
use Rattle.lock_protocol.specs.Moves.{Fail, GroupFail}
use Rattle.lock_protocol.specs.Sound.{RunKeepsSound}
use Rattle.lock_world.specs.Failing.{BeginsAnew, KnowsNone}
use Rattle.lock_world.specs.Tied.{Moved}
use Rattle.lock_members.specs.Known.{LeadsTo}
use Rattle.lock_members.specs.Members.{FailuresGo}
use Rattle.marks_law.specs.Free.{FreeBegin}
use Rattle.marks_law.specs.Slots.{SlotsBegin}
use Rattle.group_locks.specs.Stands.{LocksTied, MemberStands, known, known_by}
use Rattle.group_locks.specs.Whole.{AnewMoves, GroupFailsTied, MemberFailsMoves}
use Rattle.group_locks.proofs.Down.{down_stands, none_known}
use Rattle.group_locks.proofs.Moved.{stands_on, still_sound}

pub group_fails : GroupFailsTied
group_fails old new w fails t = subst (λ (z : CrewState). LocksTied z w) (sym fails.rest) (record {
  sound = t.sound;
  tied = t.tied;
  count = t.count;
  few = t.few;
  agents = t.agents;
  entries = t.entries;
  stands = t.stands;
})

-- ---- members by their places
long_map : (ms : List Member) → length (map id_of ms) ≡ length ms
long_map [] = refl
long_map (m ∷ ms) = ap suc (long_map ms)

there : (ms : List Member) (at : ℕ) (d m : Member) → slice_get ms at ≡ Some m → slice_index_or ms at d ≡ m
there [] at d m e = cc
there (x ∷ xs) zero d m e = cc
there (x ∷ xs) (suc at) d m e = there xs at d m e

numbered : (old : List Member) (at : ℕ) (n : Member) (o : Option Member) → Some n.id ≡ option_map id_of o → IfSome o (λ m. m.id ≡ at + 1) → n.id ≡ at + 1
numbered old at n None e h = (let never : Some n.id ≡ None = e in cc)
numbered old at n (Some m) e h = let same : n.id ≡ m.id = cc in same ∙ h

ids : (old : CrewState) (w : World) (at : ℕ) (o : Option Member) → IfSome o (MemberStands old.facility (at + 1)) → IfSome o (λ m. m.id ≡ at + 1)
ids old w at None h = tt
ids old w at (Some m) h = h.id

pub within : (ms : List Member) (at : ℕ) (m : Member) (most : ℕ) → slice_get ms at ≡ Some m → length ms ≡ most → most ≤ 32 → IsMember (at + 1)
within ms at m most e count few = let a : at < length ms = slice_get_within ms at m e in (omega arith, omega (arith, a, count, few))

pub up_or_down : (b : Bool) (s : MemberStatus) → s ≡ (if b then Up else Down) → s ≢ Restarting
up_or_down true s e r = cc
up_or_down false s e r = cc

-- ---- the group begins anew
pub record AnewFacts : Type 0 where
  pub run : RunKeepsSound
  pub begin : SlotsBegin
  pub free : FreeBegin
  pub anew : BeginsAnew

pub anew : AnewFacts → AnewMoves
anew facts old new counter w t b = record {
  entries = moved.same;
  moves = GroupFail ∷ [];
  are = tt;
  world = moved.world;
  run = moved.run;
  tied = record {
    sound = still_sound facts.run w (GroupFail ∷ []) old.facility.locks new.facility.locks new.facility.lists (known new.members) t.sound moved;
    tied = moved.tied;
    count = long ∙ t.count ∙ sym members;
    few = few;
    agents = subst (λ (z : Sizes). z.agents ≤ 16) (sym sizes) t.agents;
    entries = moved.same ∙ t.entries ∙ ap (λ (z : Sizes). z.locks) (sym sizes);
    stands = λ at. stands_at at (slice_get new.members at) refl;
  };
}
  where
    sizes : new.sizes ≡ old.sizes
    sizes = ap (λ (z : CrewState). z.sizes) b.rest

    members : new.facility.lists.members ≡ old.facility.lists.members
    members = b.facility.lists_new.members_kept

    few : new.facility.lists.members ≤ 32
    few = subst (λ z. z ≤ 32) (sym members) t.few

    long : length new.members ≡ length old.members
    long = sym (long_map new.members) ∙ ap (λ (z : List ℕ). length z) b.same ∙ long_map old.members

    is_down : (at : ℕ) (m : Member) → slice_get new.members at ≡ Some m → IsDown old.sizes m
    is_down at m e = subst (λ (z : Member). IsDown old.sizes z) (there new.members at m m e) (b.members at m (slice_get_within new.members at m e))

    knows : (o c : ℕ) (at : ℕ) (x : Option Member) → slice_get new.members at ≡ x → known_by x o c ≡ None
    knows o c at None e = refl
    knows o c at (Some m) e = none_known m old.sizes (is_down at m e) o c

    none : KnowsNone (known new.members)
    none zero o c = refl
    none (suc at) o c = knows o c at (slice_get new.members at) refl

    moved : Moved w (GroupFail ∷ []) old.facility.locks new.facility.locks new.facility.lists (known new.members)
    moved = subst (λ (z : Locks). Moved w (GroupFail ∷ []) old.facility.locks z new.facility.lists (known new.members)) (sym b.facility.locks_empty)
        (facts.anew w old.facility.locks old.facility.locks.book.records old.facility.locks.book.pages old.facility.lists.agents new.facility.lists (known new.members) few
        (subst (λ z. IsNew new.facility.lists z old.facility.lists.agents) (sym members) b.facility.lists_new) none)

    id_at : (at : ℕ) (m : Member) → slice_get new.members at ≡ Some m → m.id ≡ at + 1
    id_at at m e =
        let same : option_map id_of (slice_get new.members at) ≡ option_map id_of (slice_get old.members at) =
        sym (slice_get-map id_of new.members at) ∙ ap (λ (z : List ℕ). slice_get z at) b.same ∙ slice_get-map id_of old.members at in
        numbered old.members at m (slice_get old.members at) (ap (λ (z : Option Member). option_map id_of z) (sym e) ∙ same) (ids old w at (slice_get old.members at) (t.stands at))

    stands_at : (at : ℕ) (x : Option Member) → slice_get new.members at ≡ x → IfSome x (MemberStands new.facility (at + 1))
    stands_at at None e = tt
    stands_at at (Some m) e = down_stands facts.begin facts.free new.facility (at + 1) m old.sizes (is_down at m e) (id_at at m e) t.agents (moved.same ∙ t.entries)
        (up_or_down (nat_le (at + 1) new.facility.lists.members) (status_of new.facility.lists.statuses (at + 1))
        (subst (λ z. status_of new.facility.lists.statuses (at + 1) ≡ (if nat_le (at + 1) z then Up else Down)) (sym members) (b.facility.lists_new.statuses.each (at + 1) (within new.members at m new.facility.lists.members e (long ∙ t.count ∙ sym members) few))))

-- ---- a member fails
at_set : {A : Type 0} → (xs : List A) (i : ℕ) (a d : A) → (slice_index_or (slice_set xs i a) i d ≡ a) ⊎ (slice_index_or (slice_set xs i a) i d ≡ d)
at_set [] i a d = inr refl
at_set (x ∷ xs) zero a d = inl refl
at_set (x ∷ xs) (suc i) a d = at_set xs i a d

set_apart : {A : Type 0} → (xs : List A) (i j : ℕ) (a d : A) → j ≢ i → slice_index_or (slice_set xs i a) j d ≡ slice_index_or xs j d
set_apart [] i j a d ne = refl
set_apart (x ∷ xs) zero zero a d ne = absurd (ne refl)
set_apart (x ∷ xs) zero (suc j) a d ne = refl
set_apart (x ∷ xs) (suc i) zero a d ne = refl
set_apart (x ∷ xs) (suc i) (suc j) a d ne = set_apart xs i j a d (λ e. ne (ap suc e))

failed_only : (s : MemberStatus) → (s ≡ Failed) ⊎ (s ≡ Down) → s ≢ Restarting
failed_only s (inl e) r = cc
failed_only s (inr e) r = cc

less_one : (at id : ℕ) → id ≡ at + 1 → id - 1 ≡ at
less_one at id e = omega (arith, e)

pub record FailFacts : Type 0 where
  pub run : RunKeepsSound
  pub begin : SlotsBegin
  pub free : FreeBegin
  pub fails : FailuresGo

pub member_fails : FailFacts → MemberFailsMoves
member_fails facts old new at m n w t f = record {
  entries = moved.same;
  moves = Fail m.id ∷ [];
  are = (refl, tt);
  world = moved.world;
  run = moved.run;
  tied = record {
    sound = still_sound facts.run w (Fail m.id ∷ []) old.facility.locks new.facility.locks new.facility.lists (known new.members) t.sound moved;
    tied = moved.tied;
    count = f.count ∙ t.count ∙ sym members;
    few = subst (λ z. z ≤ 32) (sym members) t.few;
    agents = subst (λ (z : Sizes). z.agents ≤ 16) (sym f.sizes) t.agents;
    entries = f.failed.locks.same ∙ t.entries ∙ ap (λ (z : Sizes). z.locks) (sym f.sizes);
    stands = stands_at;
  };
}
  where
    members : new.facility.lists.members ≡ old.facility.lists.members
    members = ap (λ (z : ListsState). z.members) f.failed.lists.others

    statuses : new.facility.lists.statuses ≡ slice_set old.facility.lists.statuses (m.id - 1) Failed
    statuses = ap (λ (z : ListsState). z.statuses) f.failed.lists.others

    stood : MemberStands old.facility (at + 1) m
    stood = subst (λ (z : Option Member). IfSome z (MemberStands old.facility (at + 1))) f.had (t.stands at)

    is_member : IsMember m.id
    is_member = subst IsMember (sym stood.id) (within old.members at m old.facility.lists.members f.had t.count t.few)

    next : (k : ℕ) → k ≡ at → suc k ≡ m.id
    next k e = let id = stood.id in omega (arith, e, id)

    others : (k o c : ℕ) → k ≢ m.id → known new.members k o c ≡ known old.members k o c
    others zero o c ne = refl
    others (suc k) o c ne = ap (λ (z : Option Member). known_by z o c) (f.others k (λ e. ne (next k e)))

    leads : LeadsTo (known old.members) (known new.members) m n
    leads = record {
      others = others;
      own = λ o c. ap (λ z. known new.members z o c) (sym (next at refl)) ∙ ap (λ (z : Option Member). known_by z o c) f.has;
    }

    moved : Moved w (Fail m.id ∷ []) old.facility.locks new.facility.locks new.facility.lists (known new.members)
    moved = facts.fails w old.facility new.facility (known old.members) (known new.members) m n old.sizes t.tied is_member t.few f.failed f.down leads

    status_there : status_of new.facility.lists.statuses (at + 1) ≢ Restarting
    status_there = failed_only (status_of new.facility.lists.statuses (at + 1))
        (subst (λ z. (status_of new.facility.lists.statuses z ≡ Failed) ⊎ (status_of new.facility.lists.statuses z ≡ Down)) stood.id
        (subst (λ (z : List MemberStatus). (status_of z m.id ≡ Failed) ⊎ (status_of z m.id ≡ Down)) (sym statuses) (at_set old.facility.lists.statuses (m.id - 1) Failed Down)))

    index : (k : ℕ) → k + 1 - 1 ≡ k
    index k = omega arith

    status_apart : (k : ℕ) → k ≢ at → status_of new.facility.lists.statuses (k + 1) ≡ status_of old.facility.lists.statuses (k + 1)
    status_apart k ne =
        ap (λ (z : List MemberStatus). status_of z (k + 1)) statuses
        ∙ set_apart old.facility.lists.statuses (m.id - 1) (k + 1 - 1) Failed Down (λ e. ne (sym (index k) ∙ e ∙ less_one at m.id stood.id))

    on : (k : ℕ) (x : Option Member) → k ≢ at → IfSome x (MemberStands old.facility (k + 1)) → IfSome x (MemberStands new.facility (k + 1))
    on k None ne h = tt
    on k (Some x) ne h = stands_on old.facility new.facility (k + 1) x h f.failed.locks.same (status_apart k ne)

    here : MemberStands new.facility (at + 1) n
    here = down_stands facts.begin facts.free new.facility (at + 1) n old.sizes f.down (f.same ∙ stood.id) t.agents (f.failed.locks.same ∙ t.entries) status_there

    stands_at : (k : ℕ) → IfSome (slice_get new.members k) (MemberStands new.facility (k + 1))
    stands_at k = elim (cases_eq k at) [
      | inl e ↦ subst (λ z. IfSome (slice_get new.members z) (MemberStands new.facility (z + 1))) (sym e) (subst (λ (z : Option Member). IfSome z (MemberStands new.facility (at + 1))) (sym f.has) here)
      | inr ne ↦ subst (λ (z : Option Member). IfSome z (MemberStands new.facility (k + 1))) (sym (f.others k ne)) (on k (slice_get old.members k) ne (t.stands k))
    ]
