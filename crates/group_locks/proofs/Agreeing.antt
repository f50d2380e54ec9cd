-- What a sound world beside a group says of the claims that members know of.
use Rattle.std.proofs.Common.{◌≡◌, ℕ, refl, subst, Bool, true, false, inl, inr, Option, Some, None}
use Rattle.std.specs.Prelude.{◌⊎◌}
use Rattle.lock_names.specs.declared.mode.Mode.{Mode}
use Rattle.lock_names.specs.declared.mode.Interest.{Interest}
use Rattle.lock_names.specs.Modes.{class_of}
use Rattle.lock_structure.specs.Locks.{Locks}
use Rattle.list_structure.specs.States.{ListsState}
use Rattle.lock_protocol.specs.Machine.{Record, RetainedCovers, World, backs}
use Rattle.lock_protocol.specs.Words.{Gives, HasCover, SoundGives}
use Rattle.lock_world.specs.Tied.{ClaimTied, Claims, Tied}
use Rattle.lock_world.specs.Views.{entry_in, interest_in, record_in}
use Rattle.group_locks.specs.Agreeing.{TiedAgree}
use Rattle.group_locks.specs.Stands.{known}

none_some : (x : Option Mode) (a : Mode) → x ≡ None → x ≡ Some a → ⊥
none_some x a none some = cc

-- what a member knows of is in the world
in_world : (w : World) (locks : Locks) (lists : ListsState) (held : Claims) → Tied w locks lists held → (k o c : ℕ) (a : Mode) → held k o c ≡ Some a → w.claims k o c ≡ Some a
in_world w locks lists held t k o c a e = by (w.live k) refl
  where
    by : (b : Bool) → w.live k ≡ b → w.claims k o c ≡ Some a
    by true live = subst (λ (z : Option Mode). ClaimTied (w.claims k o c) z (w.records k c)) e (t.claims k o c live)
    by false dead = absurd (none_some (held k o c) a (t.down k o c dead) e)

pub tied_agree : SoundGives → TiedAgree
tied_agree law s w t = record {
  compatible = λ k l o q c a b others first second. gives.compatible k l o q c a b others (there k o c a first) (there l q c b second);
  backed = λ k o c a e. behind k c a (gives.covered k o c a (there k o c a e));
}
  where
    gives : Gives (entry_in s.facility.locks) w
    gives = law (entry_in s.facility.locks) w t.sound

    there : (k o c : ℕ) (a : Mode) → known s.members k o c ≡ Some a → w.claims k o c ≡ Some a
    there k o c a e = in_world w s.facility.locks s.facility.lists (known s.members) t.tied k o c a e

    behind : (k c : ℕ) (a : Mode) → HasCover (entry_in s.facility.locks) w k c a
        → (backs (class_of a) (interest_in s.facility.locks k (entry_in s.facility.locks c)) ≡ true) ⊎ RetainedCovers (record_in s.facility.locks k c) a
    behind k c a (inl h) = inl (subst (λ (z : Interest). backs (class_of a) z ≡ true) (t.tied.interest k (entry_in s.facility.locks c)) h.1)
    behind k c a (inr h) = inr (subst (λ (z : Option Record). RetainedCovers z a) (t.tied.records k c) h)
