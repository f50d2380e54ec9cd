-- Laws of the order of a row's records.
use Rattle.std.proofs.Common.{◌≡◌, ℕ, ◌≤◌, ◌<◌, refl, arith, Bool, true, false, List, [], ◌∷◌, Option, Some, None, inl, inr}
use Rattle.std.specs.Prelude.{◌≢◌, not, ◌||◌, ◌&&◌, ◌==◌}
use Rattle.std.proofs.lemmas.Bool.{cases_eq}
use Rattle.row_protocol.specs.Functions.{put}
use Rattle.row_protocol.specs.Log.{Change, stands, value, has, all_stand, drawn_by, undone_by, all_undone_by, compensated, kept_mark, without}
use Rattle.row_protocol.specs.Ordered.{value_at, IsChained, mark_by, marks_by, marks_nest, fits_below, all_below, is_ordered, next_undo, is_before, follows_commits, is_after_commits}

abbrev pub Drawn : List Change → ℕ → Type 0
Drawn cs n = (u : ℕ) → drawn_by cs u n ≡ true

drawn_tail : (c : Change) (cs : List Change) (n : ℕ) → Drawn (c ∷ cs) n → Drawn cs n
drawn_tail c cs n h u = let k = h u in grind (arith, k)

drawn_head : (c : Change) (cs : List Change) (n : ℕ) → Drawn (c ∷ cs) n → c.lrsn ≤ n
drawn_head c cs n h = let k = h c.tran in grind (arith, k)

-- ---- a new change
pub below_new : (cs : List Change) (c : Change) (f : ℕ → Bool) (n : ℕ) → n < c.lrsn → c.undone ≡ None → Drawn cs n → marks_by cs n ≡ true → ((u : ℕ) → has cs u ≡ true → u ≢ c.tran → f u ≡ true) → all_below cs c f ≡ true
below_new [] c f n lt bare h m k = refl
below_new (d ∷ ds) c f n lt bare h m k = let ih = below_new ds c f n lt bare (drawn_tail d ds n h) (grind (arith, m)) (λ u e ne. k u (grind arith) ne) in let a = drawn_head d ds n h in let b = k d.tran in grind (arith, ih, a, b, m)

pub value_now : (cs : List Change) (n l : ℕ) (v : Option ℕ) → marks_by cs n ≡ true → n ≤ l → value cs v ≡ value_at cs l v
value_now [] n l v m le = refl
value_now (c ∷ cs) n l v m le = let ih = value_now cs n l v in grind (arith, ih)

-- ---- more transactions are done
below_more : (cs : List Change) (c : Change) (f g : ℕ → Bool) → ((u : ℕ) → f u ≡ true → g u ≡ true) → all_below cs c f ≡ true → all_below cs c g ≡ true
below_more [] c f g k h = refl
below_more (d ∷ ds) c f g k h = let ih = below_more ds c f g k in let a = k d.tran in grind (arith, ih, a)

pub ordered_more : (cs : List Change) (f g : ℕ → Bool) → ((u : ℕ) → f u ≡ true → g u ≡ true) → is_ordered cs f ≡ true → is_ordered cs g ≡ true
ordered_more [] f g k h = refl
ordered_more (c ∷ cs) f g k h = let ih = ordered_more cs f g k in let a = below_more cs c f g k in grind (arith, ih, a)

-- ---- what stands below a change
below_has : (cs : List Change) (c : Change) (f : ℕ → Bool) (t : ℕ) → all_below cs c f ≡ true → has cs t ≡ true → t ≢ c.tran → f t ≡ true
below_has [] c f t h e ne = cc
below_has (d ∷ ds) c f t h e ne = let ih = below_has ds c f t in grind (arith, ih)

pub one_open : (cs : List Change) (f : ℕ → Bool) (t u : ℕ) → is_ordered cs f ≡ true → t ≢ u → has cs t ≡ true → has cs u ≡ true → f t ≡ false → f u ≡ true
one_open [] f t u h ne a b n = cc
one_open (c ∷ cs) f t u h ne a b n = let ih = one_open cs f t u in let x = below_has cs c f t in let y = below_has cs c f u in grind (arith, ih, x, y)

below_value : (cs : List Change) (c : Change) (f : ℕ → Bool) (v : Option ℕ) → all_below cs c f ≡ true → stands c.undone ≡ true → value cs v ≡ value_at cs c.lrsn v
below_value [] c f v h e = refl
below_value (d ∷ ds) c f v h e = let ih = below_value ds c f v in grind (arith, ih)

-- ---- undo
below_marked : (cs : List Change) (c : Change) (f : ℕ → Bool) (l : ℕ) → all_below cs c f ≡ true → stands c.undone ≡ true → all_below cs (record c { undone = Some l }) f ≡ true
below_marked [] c f l h e = refl
below_marked (d ∷ ds) c f l h e = let ih = below_marked ds c f l in grind (arith, ih)

below_compensated : (cs : List Change) (c : Change) (f : ℕ → Bool) (t l n : ℕ) → f t ≡ false → mark_by c.undone n ≡ true → n < l → ((c.tran == t) && stands c.undone) ≡ false → all_below cs c f ≡ true → all_below (compensated cs t l) c f ≡ true
below_compensated [] c f t l n bad m lt skip h = refl
below_compensated (d ∷ ds) c f t l n bad m lt skip h = let ih = below_compensated ds c f t l n bad m lt skip in grind (arith, ih)

pub ordered_compensated : (cs : List Change) (f : ℕ → Bool) (t l n : ℕ) → f t ≡ false → marks_by cs n ≡ true → n < l → is_ordered cs f ≡ true → is_ordered (compensated cs t l) f ≡ true
ordered_compensated [] f t l n bad m lt h = refl
ordered_compensated (c ∷ cs) f t l n bad m lt h = let ih = ordered_compensated cs f t l n bad in let a = below_marked cs c f l in let b = below_compensated cs c f t l n bad in grind (arith, ih, a, b)

pub marks_more : (cs : List Change) (n l : ℕ) → n ≤ l → marks_by cs n ≡ true → marks_by cs l ≡ true
marks_more [] n l le m = refl
marks_more (c ∷ cs) n l le m = let ih = marks_more cs n l le in grind (arith, ih)

pub marks_compensated : (cs : List Change) (t l : ℕ) → marks_by cs l ≡ true → marks_by (compensated cs t l) l ≡ true
marks_compensated [] t l m = refl
marks_compensated (c ∷ cs) t l m = let ih = marks_compensated cs t l in grind (arith, ih)

at_compensated : (cs : List Change) (t l k : ℕ) (v : Option ℕ) → k < l → value_at (compensated cs t l) k v ≡ value_at cs k v
at_compensated [] t l k v lt = refl
at_compensated (c ∷ cs) t l k v lt = let ih = at_compensated cs t l k v lt in grind (arith, ih)

pub chained_compensated : (cs : List Change) (t l n : ℕ) (v : Option ℕ) → n < l → Drawn cs n → IsChained cs v → IsChained (compensated cs t l) v
chained_compensated [] t l n v lt d h = tt
chained_compensated (c ∷ cs) t l n v lt d h = let ih = chained_compensated cs t l n v lt (drawn_tail c cs n d) h.1 in let k = drawn_head c cs n d in let a = at_compensated cs t l c.lrsn v in grind (arith, ih, k, a, h)

next_has : (cs : List Change) (t : ℕ) (c : Change) → next_undo cs t ≡ Some c → has cs t ≡ true
next_has [] t c e = cc
next_has (d ∷ ds) t c e = let ih = next_has ds t c in grind (arith, ih)

pub undo_leaves : (cs : List Change) (f : ℕ → Bool) (t l : ℕ) (v : Option ℕ) (c : Change) → is_ordered cs f ≡ true → IsChained cs v → f t ≡ false → next_undo cs t ≡ Some c → value (compensated cs t l) v ≡ c.before
undo_leaves [] f t l v c o h n e = cc
undo_leaves (d ∷ ds) f t l v c o h n e = let ih = undo_leaves ds f t l v c in let a = below_value ds d f v in let b = below_has ds d f t in let k = next_has ds t c in grind (arith, ih, a, b, k)

pub undo_finds : (cs : List Change) (f : ℕ → Bool) (t : ℕ) (v : Option ℕ) (c : Change) → is_ordered cs f ≡ true → f t ≡ false → next_undo cs t ≡ Some c → value cs v ≡ c.after
undo_finds [] f t v c o n e = cc
undo_finds (d ∷ ds) f t v c o n e = let ih = undo_finds ds f t v c in let b = below_has ds d f t in let k = next_has ds t c in grind (arith, ih, b, k)

-- ---- records that are lost
abbrev pub Rises : (ℕ → ℕ → Bool) → Type 0
Rises lost = (t k l : ℕ) → k ≤ l → lost t l ≡ false → lost t k ≡ false

abbrev pub marks_kept : Option ℕ → (ℕ → Bool) → Bool
marks_kept None lost = true
marks_kept (Some l) lost = not (lost l)

-- no record of the transaction is lost
abbrev pub is_whole : List Change → ℕ → (ℕ → ℕ → Bool) → Bool
is_whole [] u lost = true
is_whole (c ∷ cs) u lost = (not (c.tran == u) || (not (lost u c.lrsn) && marks_kept c.undone (lost u))) && is_whole cs u lost

nest_kept : (d c : Option ℕ) (l : ℕ) (lost : ℕ → Bool) → ((k u : ℕ) → k ≤ u → lost u ≡ false → lost k ≡ false) → marks_nest d l c ≡ true → marks_nest (kept_mark d lost) l (kept_mark c lost) ≡ true
nest_kept None c l lost r h = refl
nest_kept (Some k) None l lost r h = grind arith
nest_kept (Some k) (Some u) l lost r h = let a = r u k in grind (arith, a)

by_kept : (d : Option ℕ) (l : ℕ) (lost : ℕ → Bool) → mark_by d l ≡ true → mark_by (kept_mark d lost) l ≡ true
by_kept None l lost h = refl
by_kept (Some k) l lost h = grind arith

below_without : (cs : List Change) (c : Change) (f : ℕ → Bool) (lost : ℕ → ℕ → Bool) → Rises lost → all_below cs c f ≡ true → all_below (without cs lost) (record c { undone = kept_mark c.undone (lost c.tran) }) f ≡ true
below_without [] c f lost r h = refl
below_without (d ∷ ds) c f lost r h = let ih = below_without ds c f lost r in let a = nest_kept d.undone c.undone c.lrsn (lost c.tran) (r c.tran) in let b = by_kept d.undone c.lrsn (lost d.tran) in grind (arith, ih, a, b)

pub ordered_without : (cs : List Change) (f : ℕ → Bool) (lost : ℕ → ℕ → Bool) → Rises lost → is_ordered cs f ≡ true → is_ordered (without cs lost) f ≡ true
ordered_without [] f lost r h = refl
ordered_without (c ∷ cs) f lost r h = let ih = ordered_without cs f lost r in let a = below_without cs c f lost r in grind (arith, ih, a)

pub marks_without : (cs : List Change) (lost : ℕ → ℕ → Bool) (n : ℕ) → marks_by cs n ≡ true → marks_by (without cs lost) n ≡ true
marks_without [] lost n m = refl
marks_without (c ∷ cs) lost n m = let ih = marks_without cs lost n in let b = by_kept c.undone n (lost c.tran) in grind (arith, ih, b)

left_by : (d : Option ℕ) (lost : ℕ → Bool) (n : ℕ) → ((l : ℕ) → lost l ≡ false → l ≤ n) → mark_by (kept_mark d lost) n ≡ true
left_by None lost n h = refl
left_by (Some l) lost n h = let k = h l in grind (arith, k)

pub marks_left : (cs : List Change) (lost : ℕ → ℕ → Bool) (n : ℕ) → ((t l : ℕ) → lost t l ≡ false → l ≤ n) → marks_by (without cs lost) n ≡ true
marks_left [] lost n h = refl
marks_left (c ∷ cs) lost n h = let ih = marks_left cs lost n h in let b = left_by c.undone (lost c.tran) n (h c.tran) in grind (arith, ih, b)

undone_kept : (d : Option ℕ) (l : ℕ) (lost : ℕ → Bool) → ((k : ℕ) → k ≤ l → lost k ≡ false) → undone_by (kept_mark d lost) l ≡ undone_by d l
undone_kept None l lost r = refl
undone_kept (Some k) l lost r = let a = r k in grind (arith, a)

mark_whole : (d : Option ℕ) (lost : ℕ → Bool) → marks_kept d lost ≡ true → kept_mark d lost ≡ d
mark_whole None lost h = refl
mark_whole (Some k) lost h = grind arith

abbrev HeadWhole : Change → (ℕ → ℕ → Bool) → Type 0
HeadWhole d lost = (lost d.tran d.lrsn ≡ false) × (marks_kept d.undone (lost d.tran) ≡ true)

head_kept : (d c : Change) (f : ℕ → Bool) (lost : ℕ → ℕ → Bool) → Rises lost → lost c.tran c.lrsn ≡ false → fits_below d c f ≡ true → (f d.tran ≡ true → HeadWhole d lost) → lost d.tran d.lrsn ≡ false
head_kept d c f lost r n h w = elim (cases_eq d.tran c.tran) [
  | inl e ↦ let k = r c.tran d.lrsn c.lrsn in grind (arith, e, k, n, h)
  | inr ne ↦ (w (grind (arith, ne, h))).0
]

head_mark : (d c : Change) (f : ℕ → Bool) (lost : ℕ → ℕ → Bool) → Rises lost → lost c.tran c.lrsn ≡ false → fits_below d c f ≡ true → (f d.tran ≡ true → HeadWhole d lost) → undone_by (kept_mark d.undone (lost d.tran)) c.lrsn ≡ undone_by d.undone c.lrsn
head_mark d c f lost r n h w = elim (cases_eq d.tran c.tran) [
  | inl e ↦ undone_kept d.undone c.lrsn (lost d.tran) (λ k le. let a = r c.tran k c.lrsn le n in grind (arith, e, a))
  | inr ne ↦ let a = mark_whole d.undone (lost d.tran) (w (grind (arith, ne, h))).1 in grind (arith, a)
]

at_step : (d : Change) (ds : List Change) (lost : ℕ → ℕ → Bool) (l : ℕ) (v : Option ℕ) → lost d.tran d.lrsn ≡ false → undone_by (kept_mark d.undone (lost d.tran)) l ≡ undone_by d.undone l → value_at (without ds lost) l v ≡ value_at ds l v
    → value_at (without (d ∷ ds) lost) l v ≡ value_at (d ∷ ds) l v
at_step d ds lost l v a b c = grind arith

head_whole : (d : Change) (ds : List Change) (lost : ℕ → ℕ → Bool) → is_whole (d ∷ ds) d.tran lost ≡ true → HeadWhole d lost
head_whole d ds lost h = (grind (arith, h), grind (arith, h))

at_without : (cs : List Change) (c : Change) (f : ℕ → Bool) (lost : ℕ → ℕ → Bool) (v : Option ℕ) → Rises lost → lost c.tran c.lrsn ≡ false → all_below cs c f ≡ true → ((u : ℕ) → f u ≡ true → is_whole cs u lost ≡ true) → value_at (without cs lost) c.lrsn v ≡ value_at cs c.lrsn v
at_without [] c f lost v r n h w = refl
at_without (d ∷ ds) c f lost v r n h w =
    let fits : fits_below d c f ≡ true = grind (arith, h) in
    at_step d ds lost c.lrsn v
    (head_kept d c f lost r n fits (λ e. head_whole d ds lost (w d.tran e)))
    (head_mark d c f lost r n fits (λ e. head_whole d ds lost (w d.tran e)))
    (at_without ds c f lost v r n (grind (arith, h)) (λ u e. let k = w u e in grind (arith, k)))

pub chained_without : (cs : List Change) (f : ℕ → Bool) (lost : ℕ → ℕ → Bool) (v : Option ℕ) → Rises lost → is_ordered cs f ≡ true → ((u : ℕ) → f u ≡ true → is_whole cs u lost ≡ true) → IsChained cs v → IsChained (without cs lost) v
chained_without [] f lost v r o w h = tt
chained_without (c ∷ cs) f lost v r o w h =
    let ih = chained_without cs f lost v r in
    let tail : (u : ℕ) → f u ≡ true → is_whole cs u lost ≡ true = λ u e. let k = w u e in grind (arith, k) in
    let a = at_without cs c f lost v r in
    grind (arith, ih, tail, a, h)

pub whole_stand : (cs : List Change) (u b : ℕ) (lost : ℕ → ℕ → Bool) → ((l : ℕ) → l ≤ b → lost u l ≡ false) → drawn_by cs u b ≡ true → all_stand cs u ≡ true → is_whole cs u lost ≡ true
whole_stand [] u b lost k h s = refl
whole_stand (c ∷ cs) u b lost k h s = let ih = whole_stand cs u b lost k in let a = k c.lrsn in grind (arith, ih, a)

mark_undone : (d : Option ℕ) (b : ℕ) (lost : ℕ → Bool) → ((l : ℕ) → l ≤ b → lost l ≡ false) → undone_by d b ≡ true → marks_kept d lost ≡ true
mark_undone None b lost k h = refl
mark_undone (Some l) b lost k h = let a = k l in grind (arith, a)

pub whole_undone : (cs : List Change) (u b : ℕ) (lost : ℕ → ℕ → Bool) → ((l : ℕ) → l ≤ b → lost u l ≡ false) → all_undone_by cs u b ≡ true → is_whole cs u lost ≡ true
whole_undone [] u b lost k h = refl
whole_undone (c ∷ cs) u b lost k h = let ih = whole_undone cs u b lost k in let a = k c.lrsn in let m = mark_undone c.undone b (lost u) k in grind (arith, ih, a, m)

-- ---- commits
before_later : (m : Option ℕ) (n l : ℕ) → n < l → ((k : ℕ) → m ≡ Some k → k ≤ n) → is_before m l ≡ true
before_later None n l lt h = refl
before_later (Some k) n l lt h = let a = h k refl in grind (arith, a)

pub follows_new : (cs : List Change) (c : Change) (commit : ℕ → Option ℕ) (n : ℕ) → n < c.lrsn → ((u k : ℕ) → commit u ≡ Some k → k ≤ n) → follows_commits cs c commit ≡ true
follows_new [] c commit n lt h = refl
follows_new (d ∷ ds) c commit n lt h = let ih = follows_new ds c commit n lt h in let a = before_later (commit d.tran) n c.lrsn lt (h d.tran) in grind (arith, ih, a)

follows_decided : (cs : List Change) (c : Change) (f : ℕ → Bool) (commit : ℕ → Option ℕ) (t l : ℕ) → f t ≡ false → all_below cs c f ≡ true → follows_commits cs c commit ≡ true → follows_commits cs c (put commit t (Some l)) ≡ true
follows_decided [] c f commit t l bad h k = refl
follows_decided (d ∷ ds) c f commit t l bad h k = let ih = follows_decided ds c f commit t l bad in grind (arith, ih)

pub after_decided : (cs : List Change) (f : ℕ → Bool) (commit : ℕ → Option ℕ) (t l : ℕ) → f t ≡ false → is_ordered cs f ≡ true → is_after_commits cs commit ≡ true → is_after_commits cs (put commit t (Some l)) ≡ true
after_decided [] f commit t l bad h k = refl
after_decided (c ∷ cs) f commit t l bad h k = let ih = after_decided cs f commit t l bad in let a = follows_decided cs c f commit t l bad in grind (arith, ih, a)

follows_compensated : (cs : List Change) (c : Change) (commit : ℕ → Option ℕ) (t l : ℕ) → follows_commits (compensated cs t l) c commit ≡ follows_commits cs c commit
follows_compensated [] c commit t l = refl
follows_compensated (d ∷ ds) c commit t l = let ih = follows_compensated ds c commit t l in grind (arith, ih)

follows_marked : (cs : List Change) (c : Change) (commit : ℕ → Option ℕ) (m : Option ℕ) → follows_commits cs (record c { undone = m }) commit ≡ follows_commits cs c commit
follows_marked [] c commit m = refl
follows_marked (d ∷ ds) c commit m = let ih = follows_marked ds c commit m in grind (arith, ih)

pub after_compensated : (cs : List Change) (commit : ℕ → Option ℕ) (t l : ℕ) → is_after_commits cs commit ≡ true → is_after_commits (compensated cs t l) commit ≡ true
after_compensated [] commit t l h = refl
after_compensated (c ∷ cs) commit t l h = let ih = after_compensated cs commit t l in let a = follows_compensated cs c commit t l in let b = follows_marked cs c commit (Some l) in grind (arith, ih, a, b)

before_less : (a b : Option ℕ) (n : ℕ) → ((l : ℕ) → a ≡ Some l → b ≡ Some l) → is_before b n ≡ true → is_before a n ≡ true
before_less None b n h k = refl
before_less (Some l) b n h k = let e = h l refl in grind (arith, e, k)

follows_without : (cs : List Change) (c : Change) (lost : ℕ → ℕ → Bool) (commit left : ℕ → Option ℕ) → ((u l : ℕ) → left u ≡ Some l → commit u ≡ Some l) → follows_commits cs c commit ≡ true → follows_commits (without cs lost) c left ≡ true
follows_without [] c lost commit left h k = refl
follows_without (d ∷ ds) c lost commit left h k = let ih = follows_without ds c lost commit left h in let a = before_less (left d.tran) (commit d.tran) c.lrsn (h d.tran) in grind (arith, ih, a)

pub after_without : (cs : List Change) (lost : ℕ → ℕ → Bool) (commit left : ℕ → Option ℕ) → ((u l : ℕ) → left u ≡ Some l → commit u ≡ Some l) → is_after_commits cs commit ≡ true → is_after_commits (without cs lost) left ≡ true
after_without [] lost commit left h k = refl
after_without (c ∷ cs) lost commit left h k = let ih = after_without cs lost commit left h in let a = follows_without cs c lost commit left h in let b = follows_marked (without cs lost) c left (kept_mark c.undone (lost c.tran)) in grind (arith, ih, a, b)

follows_none : (cs : List Change) (c : Change) → follows_commits cs c (λ t. None) ≡ true
follows_none [] c = refl
follows_none (d ∷ ds) c = let ih = follows_none ds c in grind (arith, ih)

pub after_none : (cs : List Change) → is_after_commits cs (λ t. None) ≡ true
after_none [] = refl
after_none (c ∷ cs) = let ih = after_none cs in let a = follows_none cs c in grind (arith, ih, a)
