-- What the same names have in common.
use Rattle.std.proofs.Common.{◌≡◌, ℕ, true, ap, subst, arith}
use Rattle.std.proofs.lemmas.Grind.{common_steps}
use Rattle.ds_model.specs.declared.lock.Name.{Name}
use Rattle.ds_model.specs.declared.lock.Name.TheVariants as name
use Rattle.lock_names.specs.Names.{same_name}
use Rattle.lock_names.specs.Entries.{entry_number}

pub same_itself : (a : Name) → same_name a a ≡ true
unfolding same_name
same_itself (name.Space t) = grind arith
same_itself (name.Row t k) = grind arith
same_itself (name.Page p) = grind arith
same_itself (name.Set s) = grind arith

pub same_equal : (a b : Name) → same_name a b ≡ true → a ≡ b
unfolding same_name
same_equal (name.Space t) (name.Space u) e = grind (arith, common_steps)
same_equal (name.Row t k) (name.Row u l) e = grind (arith, common_steps)
same_equal (name.Page p) (name.Page q) e = grind (arith, common_steps)
same_equal (name.Set p) (name.Set q) e = grind (arith, common_steps)
same_equal (name.Space t) (name.Row u k) e = cc
same_equal (name.Space t) (name.Page q) e = cc
same_equal (name.Space t) (name.Set q) e = cc
same_equal (name.Row t k) (name.Space u) e = cc
same_equal (name.Row t k) (name.Page q) e = cc
same_equal (name.Row t k) (name.Set q) e = cc
same_equal (name.Page p) (name.Space u) e = cc
same_equal (name.Page p) (name.Row u k) e = cc
same_equal (name.Page p) (name.Set q) e = cc
same_equal (name.Set p) (name.Space u) e = cc
same_equal (name.Set p) (name.Row u k) e = cc
same_equal (name.Set p) (name.Page q) e = cc

turned : (a b : Name) → same_name a b ≡ true → same_name b a ≡ true
turned a b e = subst (λ (z : Name). same_name z a ≡ true) (same_equal a b e) (same_itself a)

pub same_turn : (a b : Name) → same_name a b ≡ same_name b a
same_turn a b = let there = turned a b in let back = turned b a in grind (arith, there, back)

-- what is the same as one of them is the same as the other
pub same_left : (a n p : Name) → same_name a n ≡ true → same_name a p ≡ same_name n p
same_left a n p e = ap (λ z. same_name z p) (same_equal a n e)

pub same_right : (a n p : Name) → same_name n p ≡ true → same_name a n ≡ same_name a p
same_right a n p e = ap (λ z. same_name a z) (same_equal n p e)

-- one name falls on one entry
pub same_entry : (a b : Name) (entries : ℕ) → same_name a b ≡ true → entry_number a entries ≡ entry_number b entries
same_entry a b entries e = ap (λ z. entry_number z entries) (same_equal a b e)
