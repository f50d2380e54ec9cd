-- What a move leaves sound, and members that an event leaves as they were.
use Rattle.std.proofs.Common.{◌≡◌, ℕ, sym, ◌∙◌, ap, subst, List, [], ◌∷◌, ◌++◌, length}
use Rattle.list_structure.specs.Standings.{is_live, status_of}
use Rattle.lock_names.specs.Entries.{entry_number}
use Rattle.lock_structure.specs.Locks.{Locks}
use Rattle.list_structure.specs.States.{ListsState}
use Rattle.facility.specs.States.{Held as Facility}
use Rattle.group_member.specs.Members.{Member}
use Rattle.lock_protocol.specs.Machine.{World}
use Rattle.lock_protocol.specs.Moves.{Move, Run}
use Rattle.lock_protocol.specs.Sound.{RunKeepsSound, Sound}
use Rattle.lock_world.specs.Numbers.{name_at}
use Rattle.lock_world.specs.Tied.{Claims, Moved}
use Rattle.lock_world.specs.Views.{entry_in}
use Rattle.group_locks.specs.Stands.{MemberStands}

-- ---- moves
pub run_on : (entry : ℕ → ℕ) (w mid v : World) (xs ys : List Move) → Run entry w xs mid → Run entry mid ys v → Run entry w (xs ++ ys) v
run_on entry w mid v [] ys a b = subst (λ z. Run entry z ys v) a b
run_on entry w mid v (x ∷ xs) ys a b = (a.0, a.1, run_on entry a.0 mid v xs ys a.2 b)

pub same_entries : (f g : Locks) → length g.entries ≡ length f.entries → entry_in g ≡ entry_in f
same_entries f g e =
    let entries : ℕ → ℕ → ℕ = λ n c. entry_number (name_at c) n in ap entries e

-- the world that moves lead to is sound, by the lock table that is left
pub still_sound : RunKeepsSound → (w : World) (moves : List Move) (before locks : Locks) (lists : ListsState) (held : Claims) → Sound (entry_in before) w → (m : Moved w moves before locks lists held) → Sound (entry_in locks) m.world
still_sound law w moves before locks lists held sound m =
    subst (λ (z : ℕ). Sound (λ c. entry_number (name_at c) z) m.world) (sym m.same) (law (entry_in before) moves w m.world sound m.run)

-- ---- members
-- nothing that the member's standing depends on has changed
pub stands_on : (f g : Facility) (k : ℕ) (m : Member) → MemberStands f k m → length g.locks.entries ≡ length f.locks.entries → status_of g.lists.statuses k ≡ status_of f.lists.statuses k → MemberStands g k m
stands_on f g k m s entries status = record {
  id = s.id;
  member = s.member;
  size = s.size ∙ sym entries;
  book = s.book;
  slots = s.slots;
  free = s.free;
  up = λ e. s.up (sym status ∙ e);
  restarts = λ e. s.restarts (sym status ∙ e);
  rests = s.rests;
  restart = s.restart;
  down = λ e. s.down (ap is_live (sym status) ∙ e);
}
