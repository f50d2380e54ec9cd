-- The laws of the tables.
use Rattle.std.proofs.Common.{◌≡◌, arith, true, false}
use Rattle.lock_names.specs.declared.mode.Mode.{Mode}
use Rattle.lock_names.specs.declared.mode.Class.{Class}
use Rattle.lock_names.specs.declared.mode.Interest.{Interest}
use Rattle.lock_names.specs.Modes.{are_compatible, join_of, class_of, is_recorded}
use Rattle.lock_protocol.specs.Machine.{blocks, backs, with_class}

pub compatible-sym : (a b : Mode) → are_compatible a b ≡ are_compatible b a
unfolding are_compatible
compatible-sym a b = grind arith

pub compatible-below : (r c x : Mode) → join_of r c ≡ r → are_compatible r x ≡ true → are_compatible c x ≡ true
unfolding are_compatible join_of
compatible-below r c x e h = grind arith

pub unblocked : (c x : Mode) (i : Interest) → backs (class_of c) i ≡ true → blocks (class_of x) i ≡ false → are_compatible c x ≡ true
unfolding are_compatible class_of backs blocks
unblocked c x i b n = grind arith

pub join-covers : (r m : Mode) → join_of (join_of r m) m ≡ join_of r m
unfolding join_of
join-covers r m = grind arith

pub join-self : (m : Mode) → join_of m m ≡ m
unfolding join_of
join-self m = grind arith

pub join-keeps : (r c m : Mode) → join_of r c ≡ r → join_of (join_of r m) c ≡ join_of r m
unfolding join_of
join-keeps r c m e = grind arith

pub backs-with_class : (x y : Class) (i : Interest) → backs x i ≡ true → backs x (with_class y i) ≡ true
unfolding backs
backs-with_class x y i h = grind arith

pub backs_own : (x : Class) (i : Interest) → backs x (with_class x i) ≡ true
unfolding backs
backs_own x i = grind arith

pub backs-below : (d c : Mode) (i : Interest) → join_of d c ≡ d → backs (class_of d) i ≡ true → backs (class_of c) i ≡ true
unfolding join_of class_of backs
backs-below d c i e b = grind arith

pub recorded-below : (d c : Mode) → join_of d c ≡ d → is_recorded c ≡ true → is_recorded d ≡ true
unfolding join_of is_recorded
recorded-below d c e h = grind arith

pub join-through : (r d c : Mode) → join_of r d ≡ r → join_of d c ≡ d → join_of r c ≡ r
unfolding join_of
join-through r d c e f = grind arith
