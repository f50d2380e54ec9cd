-- A group that begins.
use Rattle.std.proofs.Common.{◌≡◌, ℕ, zero, suc, ◌+◌, refl, sym, ◌∙◌, ap, subst, length, Option, Some, None}
use Rattle.std.specs.Prelude.{if◌then◌else◌, IfSome, nat_le, replicate, slice_get}
use Rattle.lock_structure.specs.Locks.{Locks}
use Rattle.list_structure.specs.declared.standing.MemberStatus.TheVariants.{Down, Up}
use Rattle.list_structure.specs.Standings.{status_of}
use Rattle.list_structure.specs.States.{IsNew}
use Rattle.group_member.specs.Members.{IsDown, Member}
use Rattle.lock_protocol.specs.Machine.{start}
use Rattle.lock_protocol.specs.Sound.{StartsSound}
use Rattle.lock_world.specs.Failing.{KnowsNone, StartsTied as WorldStarts}
use Rattle.lock_world.specs.Tied.{Tied}
use Rattle.lock_world.specs.Views.{entry_in}
use Rattle.marks_law.specs.Free.{FreeBegin}
use Rattle.marks_law.specs.Slots.{SlotsBegin}
use Rattle.group_locks.specs.Beginning.{StartsTied}
use Rattle.group_locks.specs.Stands.{MemberStands, known, known_by}
use Rattle.group_locks.proofs.Down.{down_stands, none_known}
use Rattle.group_locks.proofs.Whole.{up_or_down, within}

pub record Facts : Type 0 where
  pub start : StartsSound
  pub begin : SlotsBegin
  pub free : FreeBegin
  pub starts : WorldStarts

so_many : {A : Type 0} → (n : ℕ) (a : A) → length (replicate n a) ≡ n
so_many zero a = refl
so_many (suc n) a = ap suc (so_many n a)

pub begins : Facts → StartsTied
begins facts s b = record {
  sound = facts.start (entry_in s.facility.locks);
  tied = subst (λ (z : Locks). Tied start z s.facility.lists (known s.members)) (sym b.facility.locks_empty)
      (facts.starts s.sizes.locks s.sizes.records (s.sizes.pool + 128) s.sizes.agents s.facility.lists (known s.members) b.few (subst (λ z. IsNew s.facility.lists z s.sizes.agents) (sym members) b.facility.lists_new) none);
  count = b.count;
  few = b.few;
  agents = b.agents;
  entries = entries;
  stands = λ at. stands_at at (slice_get s.members at) refl (b.members at) (b.numbered at);
}
  where
    members : s.facility.lists.members ≡ s.sizes.members
    members = b.facility.lists_new.members_kept

    entries : length s.facility.locks.entries ≡ s.sizes.locks
    entries = ap (λ (z : Locks). length z.entries) b.facility.locks_empty ∙ so_many s.sizes.locks _

    knows : (o c : ℕ) (x : Option Member) → IfSome x (IsDown s.sizes) → known_by x o c ≡ None
    knows o c None h = refl
    knows o c (Some m) h = none_known m s.sizes h o c

    none : KnowsNone (known s.members)
    none zero o c = refl
    none (suc at) o c = knows o c (slice_get s.members at) (b.members at)

    stands_at : (at : ℕ) (x : Option Member) → slice_get s.members at ≡ x → IfSome x (IsDown s.sizes) → IfSome x (λ m. m.id ≡ at + 1) → IfSome x (MemberStands s.facility (at + 1))
    stands_at at None e down id = tt
    stands_at at (Some m) e down id = down_stands facts.begin facts.free s.facility (at + 1) m s.sizes down id b.agents entries
        (up_or_down (nat_le (at + 1) s.facility.lists.members) (status_of s.facility.lists.statuses (at + 1))
        (subst (λ z. status_of s.facility.lists.statuses (at + 1) ≡ (if nat_le (at + 1) z then Up else Down)) (sym members) (b.facility.lists_new.statuses.each (at + 1) (within s.members at m s.facility.lists.members e b.count b.few))))
