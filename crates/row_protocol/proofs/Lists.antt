-- Laws of a row's records.
use Rattle.std.proofs.Common.{◌≡◌, ℕ, ◌≤◌, refl, arith, Bool, true, false, List, [], ◌∷◌, Option, Some, None}
use Rattle.std.specs.Prelude.{◌≢◌, leb, if◌then◌else◌}
use Rattle.row_protocol.specs.Log.{Change, value, logged, has, is_top, all_stand, drawn_by, undone_by, all_undone_by, compensated, kept_mark, without}

-- the value of the newest record of a committed transaction, on disk or not
abbrev pub plain : List Change → (ℕ → Bool) → Option ℕ → Option ℕ
plain [] f v = v
plain (c ∷ cs) f v = if f c.tran then c.after else plain cs f v

-- ---- all records of a committed transaction are on disk
pub whole : (cs : List Change) (b : ℕ → ℕ) (f : ℕ → Bool) (v : Option ℕ) → ((t : ℕ) → f t ≡ true → drawn_by cs t (b t) ≡ true) → logged cs (λ t l. leb l (b t)) f v ≡ plain cs f v
whole [] b f v h = refl
whole (c ∷ cs) b f v h = let ih = whole cs b f v (λ t e. let k = h t e in grind (arith, k)) in let k = h c.tran in grind (arith, ih, k)

pub plain_agree : (cs : List Change) (f g : ℕ → Bool) (v : Option ℕ) → ((t : ℕ) → has cs t ≡ true → f t ≡ g t) → plain cs f v ≡ plain cs g v
plain_agree [] f g v h = refl
plain_agree (c ∷ cs) f g v h = let ih = plain_agree cs f g v (λ t e. h t (grind arith)) in let k = h c.tran in grind (arith, ih, k)

pub plain_compensated : (cs : List Change) (t l : ℕ) (f : ℕ → Bool) (v : Option ℕ) → plain (compensated cs t l) f v ≡ plain cs f v
plain_compensated [] t l f v = refl
plain_compensated (c ∷ cs) t l f v = let ih = plain_compensated cs t l f v in grind (arith, ih)

pub plain_without : (cs : List Change) (lost : ℕ → ℕ → Bool) (b : ℕ → ℕ) (f : ℕ → Bool) (v : Option ℕ) → ((t : ℕ) → f t ≡ true → drawn_by cs t (b t) ≡ true) → ((t l : ℕ) → l ≤ b t → lost t l ≡ false) → plain (without cs lost) f v ≡ plain cs f v
plain_without [] lost b f v h k = refl
plain_without (c ∷ cs) lost b f v h k = let ih = plain_without cs lost b f v (λ t e. let d = h t e in grind (arith, d)) k in let d = h c.tran in let e = k c.tran c.lrsn in grind (arith, ih, d, e)

-- ---- where all have committed or are undone
pub settled : (cs : List Change) (b : ℕ → ℕ) (f : ℕ → Bool) (v : Option ℕ) → ((t : ℕ) → has cs t ≡ true → f t ≡ true → all_stand cs t ≡ true) → ((t : ℕ) → has cs t ≡ true → f t ≡ false → all_undone_by cs t (b t) ≡ true) → value cs v ≡ plain cs f v
settled [] b f v h k = refl
settled (c ∷ cs) b f v h k = let ih = settled cs b f v (λ t e n. let d = h t in grind (arith, d)) (λ t e n. let d = k t in grind (arith, d)) in let d = h c.tran in let e = k c.tran in grind (arith, ih, d, e)

-- ---- the last change of the row, which stands
pub top_plain : (cs : List Change) (t : ℕ) (f : ℕ → Bool) (v : Option ℕ) → is_top cs t ≡ true → all_stand cs t ≡ true → f t ≡ true → plain cs f v ≡ value cs v
top_plain [] t f v h k e = cc
top_plain (c ∷ cs) t f v h k e = grind arith

pub top_has : (cs : List Change) (t : ℕ) → is_top cs t ≡ true → has cs t ≡ true
top_has [] t h = cc
top_has (c ∷ cs) t h = grind arith

pub top_compensated : (cs : List Change) (t u l : ℕ) → u ≢ t → is_top cs u ≡ true → is_top (compensated cs t l) u ≡ true
top_compensated [] t u l ne h = cc
top_compensated (c ∷ cs) t u l ne h = grind arith

pub value_compensated : (cs : List Change) (t u l : ℕ) (v : Option ℕ) → u ≢ t → is_top cs u ≡ true → all_stand cs u ≡ true → value (compensated cs t l) v ≡ value cs v
value_compensated [] t u l v ne h k = cc
value_compensated (c ∷ cs) t u l v ne h k = grind arith

pub top_without : (cs : List Change) (lost : ℕ → ℕ → Bool) (u : ℕ) → ((l : ℕ) → lost u l ≡ false) → is_top cs u ≡ true → is_top (without cs lost) u ≡ true
top_without [] lost u n h = cc
top_without (c ∷ cs) lost u n h = let d = n c.lrsn in grind (arith, d)

pub value_without : (cs : List Change) (lost : ℕ → ℕ → Bool) (u : ℕ) (v : Option ℕ) → ((l : ℕ) → lost u l ≡ false) → is_top cs u ≡ true → all_stand cs u ≡ true → value (without cs lost) v ≡ value cs v
value_without [] lost u v n h k = cc
value_without (c ∷ cs) lost u v n h k = let d = n c.lrsn in grind (arith, d)

-- ---- the records of one transaction
pub has_compensated : (cs : List Change) (t u l : ℕ) → has (compensated cs t l) u ≡ has cs u
has_compensated [] t u l = refl
has_compensated (c ∷ cs) t u l = let ih = has_compensated cs t u l in grind (arith, ih)

pub has_without : (cs : List Change) (lost : ℕ → ℕ → Bool) (u : ℕ) → has (without cs lost) u ≡ true → has cs u ≡ true
has_without [] lost u h = h
has_without (c ∷ cs) lost u h = let ih = has_without cs lost u in grind (arith, ih)

pub stand_compensated : (cs : List Change) (t u l : ℕ) → u ≢ t → all_stand cs u ≡ true → all_stand (compensated cs t l) u ≡ true
stand_compensated [] t u l ne h = h
stand_compensated (c ∷ cs) t u l ne h = let ih = stand_compensated cs t u l ne in grind (arith, ih)

pub stand_without : (cs : List Change) (lost : ℕ → ℕ → Bool) (u : ℕ) → all_stand cs u ≡ true → all_stand (without cs lost) u ≡ true
stand_without [] lost u h = h
stand_without (c ∷ cs) lost u h = let ih = stand_without cs lost u in grind (arith, ih)

pub drawn_more : (cs : List Change) (u l k : ℕ) → l ≤ k → drawn_by cs u l ≡ true → drawn_by cs u k ≡ true
drawn_more [] u l k le h = h
drawn_more (c ∷ cs) u l k le h = let ih = drawn_more cs u l k le in grind (arith, ih)

pub drawn_compensated : (cs : List Change) (t u l k : ℕ) → drawn_by (compensated cs t l) u k ≡ drawn_by cs u k
drawn_compensated [] t u l k = refl
drawn_compensated (c ∷ cs) t u l k = let ih = drawn_compensated cs t u l k in grind (arith, ih)

pub drawn_without : (cs : List Change) (lost : ℕ → ℕ → Bool) (u k : ℕ) → drawn_by cs u k ≡ true → drawn_by (without cs lost) u k ≡ true
drawn_without [] lost u k h = h
drawn_without (c ∷ cs) lost u k h = let ih = drawn_without cs lost u k in grind (arith, ih)

pub drawn_left : (cs : List Change) (lost : ℕ → ℕ → Bool) (u k : ℕ) → ((l : ℕ) → lost u l ≡ false → l ≤ k) → drawn_by (without cs lost) u k ≡ true
drawn_left [] lost u k n = refl
drawn_left (c ∷ cs) lost u k n = let ih = drawn_left cs lost u k n in let d = n c.lrsn in grind (arith, ih, d)

pub undone_more : (cs : List Change) (u l k : ℕ) → l ≤ k → all_undone_by cs u l ≡ true → all_undone_by cs u k ≡ true
undone_more [] u l k le h = h
undone_more (c ∷ cs) u l k le h = let ih = undone_more cs u l k le in grind (arith, ih)

pub undone_compensated : (cs : List Change) (t u l k : ℕ) → u ≢ t → all_undone_by cs u k ≡ true → all_undone_by (compensated cs t l) u k ≡ true
undone_compensated [] t u l k ne h = h
undone_compensated (c ∷ cs) t u l k ne h = let ih = undone_compensated cs t u l k ne in grind (arith, ih)

mark_kept : (m : Option ℕ) (lost : ℕ → Bool) (k : ℕ) → ((l : ℕ) → l ≤ k → lost l ≡ false) → undone_by m k ≡ true → undone_by (kept_mark m lost) k ≡ true
mark_kept None lost k n h = h
mark_kept (Some l) lost k n h = let d = n l in grind (arith, d)

pub undone_without : (cs : List Change) (lost : ℕ → ℕ → Bool) (u k : ℕ) → ((l : ℕ) → l ≤ k → lost u l ≡ false) → all_undone_by cs u k ≡ true → all_undone_by (without cs lost) u k ≡ true
undone_without [] lost u k n h = h
undone_without (c ∷ cs) lost u k n h = let ih = undone_without cs lost u k n in let m = mark_kept c.undone (lost u) k n in grind (arith, ih, m)

pub none_stand : (cs : List Change) (u : ℕ) → has cs u ≡ false → all_stand cs u ≡ true
none_stand [] u h = refl
none_stand (c ∷ cs) u h = let ih = none_stand cs u in grind (arith, ih)
