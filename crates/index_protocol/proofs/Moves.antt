-- Each move, over the links and the entries of branches of one page.
use Rattle.std.proofs.Common.{◌≡◌, ℕ, ◌+◌, ◌<◌, ◌≤◌, subst, arith, true, false, Bool, Some, inl, inr}
use Rattle.std.specs.Prelude.{◌≢◌}
use Rattle.std.proofs.lemmas.Bool.{cases_eq}
use Rattle.index_protocol.specs.Index.{Rest, Page, Link, Unmade, Leaf, Branch, beyond, with_place, split_left, split_right, given_rest, split_rest, entered_rest, written_rest, ended_rest, restarted_rest, failed_rest, failed_page, IsOpen, MayChange, MaySplit, MayEnterBranch, MayWrite, MayFail}
use Rattle.index_protocol.specs.Whole.{Shape}
use Rattle.index_protocol.proofs.Laws.{below_high, beyond_some, apart}

-- a member changes a page that is not wholly shown only where it made the last change itself
abbrev Same : Rest → ℕ → ℕ → Page → Type 0
Same g m n p = g.shown n < p.last → g.writer n ≡ m

same : (g : Rest) (m n : ℕ) (p : Page) → MayChange g m n p → Same g m n p
same g m n p alone = grind (arith, alone)

-- the page's version that gave up a leaf's keys is there
abbrev pub PartedBy : Rest → ℕ → Page → Type 0
PartedBy g n p = (c : ℕ) → g.kind c ≡ Leaf → g.parted_at c n ≤ p.last

give_plain : (g : Rest) (m n : ℕ) (p : Page) (k x : ℕ) → Shape g n p → g.kind n ≡ Leaf → Same g m n p → Shape (given_rest g m n p k x) n (with_place p k x)
give_plain g m n p k x s leaf alone = record {
  unmade = grind arith;
  made = grind arith;
  seen = grind arith;
  above = grind arith;
  right_low = grind arith;
  right_kind = grind arith;
  right_own = grind arith;
  right_other = grind arith;
  right_shown = grind arith;
  right_writer = grind arith;
  falls = grind arith;
  child = grind arith;
  child_low = grind arith;
  child_shown = grind arith;
  child_writer = grind arith;
  child_open = grind arith;
  child_opener = grind arith;
  first = grind arith;
}

pub shape_give : (g : Rest) (m n : ℕ) (p : Page) (k x : ℕ) → Shape g n p → g.kind n ≡ Leaf → MayChange g m n p → Shape (given_rest g m n p k x) n (with_place p k x)
shape_give g m n p k x s leaf alone = give_plain g m n p k x s leaf (same g m n p alone)

enter_other_plain : (g : Rest) (m n q : ℕ) (p r : Page) → Shape g q r → g.shown n ≤ p.last → 1 ≤ p.last → Same g m n p → PartedBy g n p → q ≢ n → Shape (entered_rest g m n) q r
enter_other_plain g m n q p r s seen made alone path ne = record {
  unmade = grind arith;
  made = grind arith;
  seen = grind arith;
  above = grind arith;
  right_low = grind arith;
  right_kind = grind arith;
  right_own = grind arith;
  right_other = grind arith;
  right_shown = grind arith;
  right_writer = grind arith;
  falls = grind arith;
  child = grind arith;
  child_low = grind arith;
  child_shown = grind arith;
  child_writer = grind arith;
  child_open = grind arith;
  child_opener = grind arith;
  first = grind arith;
}

pub shape_enter_other : (g : Rest) (m n q : ℕ) (p r : Page) → Shape g q r → g.shown n ≤ p.last → 1 ≤ p.last → MayChange g m n p → PartedBy g n p → q ≢ n → Shape (entered_rest g m n) q r
shape_enter_other g m n q p r s seen made alone path ne = enter_other_plain g m n q p r s seen made (same g m n p alone) path ne

pub shape_give_other : (g : Rest) (m n q : ℕ) (p r : Page) (k x : ℕ) → Shape g q r → g.shown n ≤ p.last → 1 ≤ p.last → MayChange g m n p → PartedBy g n p → q ≢ n → Shape (given_rest g m n p k x) q r
shape_give_other g m n q p r k x s seen made alone path ne = let t = shape_enter_other g m n q p r s seen made alone path ne in record {
  unmade = t.unmade;
  made = t.made;
  seen = t.seen;
  above = t.above;
  right_low = t.right_low;
  right_kind = t.right_kind;
  right_own = t.right_own;
  right_other = t.right_other;
  right_shown = t.right_shown;
  right_writer = t.right_writer;
  falls = t.falls;
  child = t.child;
  child_low = t.child_low;
  child_shown = t.child_shown;
  child_writer = t.child_writer;
  child_open = t.child_open;
  child_opener = t.child_opener;
  first = t.first;
}

enter_writer : (g : Rest) (m n : ℕ) (p : Page) (k c v j r : ℕ) → Same g m n p → 1 ≤ p.last → (g.shown c ≡ 0 → g.writer c ≡ m)
    → ((u : ℕ) → 1 ≤ u → u ≤ p.last → p.entry u j ≡ Some r → g.shown r ≡ 0 → g.shown n < u) → ((u : ℕ) → 1 ≤ u → u ≤ p.last → p.entry u j ≡ Some r → g.shown r ≡ 0 → g.writer r ≡ g.writer n)
    → 1 ≤ v → v ≤ p.last + 1 → (with_place p k c).entry v j ≡ Some r → g.shown r ≡ 0 → (entered_rest g m n).writer r ≡ (entered_rest g m n).writer n
enter_writer g m n p k c v j r alone made there hid old a b is none = grind arith

enter_opener : (g : Rest) (m n : ℕ) (p : Page) (k c v j r q : ℕ) → Same g m n p → 1 ≤ p.last → (g.shown q < g.parted_at c q → g.writer q ≡ m)
    → ((u : ℕ) → 1 ≤ u → u ≤ p.last → p.entry u j ≡ Some r → g.shown n < u) → ((u : ℕ) → 1 ≤ u → u ≤ p.last → p.entry u j ≡ Some r → g.writer q ≡ g.writer n)
    → 1 ≤ v → v ≤ p.last + 1 → (with_place p k c).entry v j ≡ Some r → g.shown q < g.parted_at r q → (entered_rest g m n).writer q ≡ (entered_rest g m n).writer n
enter_opener g m n p k c v j r q alone made there hid old a b is none = grind arith

enter_plain : (g : Rest) (m n : ℕ) (p : Page) (k c : ℕ) → Shape g n p → MayEnterBranch g m n p k c → Same g m n p → IsOpen g m c → Shape (entered_rest g m n) n (with_place p k c)
enter_plain g m n p k c s may alone open' = let there = may.there in let branch = may.branch in let made : 1 ≤ p.last = s.made (λ e. cc) in record {
  unmade = grind arith;
  made = grind arith;
  seen = grind arith;
  above = grind arith;
  right_low = grind arith;
  right_kind = grind arith;
  right_own = grind arith;
  right_other = grind arith;
  right_shown = grind arith;
  right_writer = grind arith;
  falls = grind arith;
  child = grind arith;
  child_low = grind arith;
  child_shown = grind arith;
  child_writer = λ v j r kind a b is none. enter_writer g m n p k c v j r alone made there (λ u. s.child_shown u j r kind) (λ u. s.child_writer u j r kind) a b is none;
  child_open = grind arith;
  child_opener = λ v j r q kind a b is less. enter_opener g m n p k c v j r q alone made (open' q) (λ u x y z. s.child_open u j r q kind x y z less) (λ u x y z. s.child_opener u j r q kind x y z less) a b is less;
  first = grind arith;
}

pub shape_enter : (g : Rest) (m n : ℕ) (p : Page) (k c : ℕ) → Shape g n p → MayEnterBranch g m n p k c → MayChange g m n p → IsOpen g m c → Shape (entered_rest g m n) n (with_place p k c)
shape_enter g m n p k c s may alone open' = enter_plain g m n p k c s may (same g m n p alone) open'

pub shape_write : (g : Rest) (n : ℕ) (p : Page) (v : ℕ) → Shape g n p → MayWrite g n p v → Shape (written_rest g n v) n p
shape_write g n p v s may = record {
  unmade = grind arith;
  made = grind arith;
  seen = grind arith;
  above = grind arith;
  right_low = grind arith;
  right_kind = grind arith;
  right_own = grind arith;
  right_other = grind arith;
  right_shown = grind arith;
  right_writer = grind arith;
  falls = grind arith;
  child = grind arith;
  child_low = grind arith;
  child_shown = grind arith;
  child_writer = grind arith;
  child_open = grind arith;
  child_opener = grind arith;
  first = grind arith;
}

pub shape_write_other : (g : Rest) (n q : ℕ) (r : Page) (v : ℕ) → Shape g q r → g.shown n ≤ v → q ≢ n → Shape (written_rest g n v) q r
shape_write_other g n q r v s le ne = record {
  unmade = grind arith;
  made = grind arith;
  seen = grind arith;
  above = grind arith;
  right_low = grind arith;
  right_kind = grind arith;
  right_own = grind arith;
  right_other = grind arith;
  right_shown = grind arith;
  right_writer = grind arith;
  falls = grind arith;
  child = grind arith;
  child_low = grind arith;
  child_shown = grind arith;
  child_writer = grind arith;
  child_open = grind arith;
  child_opener = grind arith;
  first = grind arith;
}

falls_left : (g : Rest) (n : ℕ) (p : Page) (new low : ℕ) → Shape g n p → beyond (p.link p.last) low ≡ false → (v w k : ℕ) → 1 ≤ v → v ≤ w → w ≤ (split_left p new low).last → beyond ((split_left p new low).link v) k ≡ true → beyond ((split_left p new low).link w) k ≡ true
falls_left g n p new low s covered v w k = let a = s.falls v p.last k in let c = s.falls v w k in let b = apart (p.link p.last) low k covered in grind (arith, a, b, c, beyond_some)

-- an entry of the left page was there before
record Was (p : Page) (v j r : ℕ) : Type 0 where
  version : ℕ
  some : 1 ≤ version
  old : version ≤ p.last
  entry : p.entry version j ≡ Some r

left_was : (p : Page) (new low v j r : ℕ) → 1 ≤ p.last → 1 ≤ v → v ≤ p.last + 1 → (split_left p new low).entry v j ≡ Some r → Was p v j r
left_was p new low v j r made a b is = elim (cases_eq v (p.last + 1)) [
  | inl e ↦ record { version = p.last; some = made; old = omega arith; entry = grind arith }
  | inr ne ↦ record { version = v; some = a; old = omega (arith, b, ne); entry = grind arith }
]

writer_plain : (g : Rest) (m n : ℕ) (p : Page) (new low r : ℕ) → g.writer r ≡ g.writer n → g.writer n ≡ m → (split_rest g m n p new low).writer r ≡ (split_rest g m n p new low).writer n
writer_plain g m n p new low r a b = grind arith

left_child : (g : Rest) (m n : ℕ) (p : Page) (new low v j r : ℕ) → Shape g n p → Same g m n p → g.kind n ≡ Branch → Was p v j r → g.shown r ≡ 0 → (split_rest g m n p new low).writer r ≡ (split_rest g m n p new low).writer n
left_child g m n p new low v j r s alone kind o none =
    let lt = s.child_shown o.version j r kind o.some o.old o.entry none in
    let old = o.old in
    writer_plain g m n p new low r (s.child_writer o.version j r kind o.some o.old o.entry none) (alone (omega (arith, lt, old)))

left_opener : (g : Rest) (m n : ℕ) (p : Page) (new low v j r q : ℕ) → Shape g n p → Same g m n p → g.kind n ≡ Branch → g.kind new ≡ Unmade → Was p v j r → g.shown q < (split_rest g m n p new low).parted_at r q → (split_rest g m n p new low).writer q ≡ (split_rest g m n p new low).writer n
left_opener g m n p new low v j r q s alone kind fresh o less =
    let leaf = s.child o.version j r kind o.some o.old o.entry in
    let ne : r ≢ new = λ e. (let y = subst (λ z. g.kind z ≡ Leaf) e leaf in cc) in
    let less' : g.shown q < g.parted_at r q = grind (arith, ne, less) in
    let lt = s.child_open o.version j r q kind o.some o.old o.entry less' in
    let old = o.old in
    writer_plain g m n p new low q (s.child_opener o.version j r q kind o.some o.old o.entry less') (alone (omega (arith, lt, old)))

kind_was : (g : Rest) (m n : ℕ) (p : Page) (new low : ℕ) → n ≢ new → (split_rest g m n p new low).kind n ≡ Branch → g.kind n ≡ Branch
kind_was g m n p new low ne is = grind (arith, ne, is)

left_plain : (g : Rest) (m n : ℕ) (p : Page) (new low : ℕ) → Shape g n p → MaySplit g n p new low → Same g m n p → g.shown new ≡ 0 → n ≢ new → Shape (split_rest g m n p new low) n (split_left p new low)
left_plain g m n p new low s may alone hid ne = let made : 1 ≤ p.last = s.made may.made in let was = kind_was g m n p new low ne in record {
  unmade = grind arith;
  made = grind arith;
  seen = grind arith;
  above = grind arith;
  right_low = grind arith;
  right_kind = grind arith;
  right_own = grind arith;
  right_other = grind arith;
  right_shown = grind arith;
  right_writer = grind arith;
  falls = falls_left g n p new low s may.covered;
  child = grind arith;
  child_low = grind arith;
  child_shown = grind arith;
  child_writer = λ v j r kind a b is none. left_child g m n p new low v j r s alone (was kind) (left_was p new low v j r made a b is) none;
  child_open = grind arith;
  child_opener = λ v j r q kind a b is less. left_opener g m n p new low v j r q s alone (was kind) may.fresh (left_was p new low v j r made a b is) less;
  first = grind arith;
}

pub shape_left : (g : Rest) (m n : ℕ) (p : Page) (new low : ℕ) → Shape g n p → MaySplit g n p new low → MayChange g m n p → g.shown new ≡ 0 → n ≢ new → Shape (split_rest g m n p new low) n (split_left p new low)
shape_left g m n p new low s may alone hid ne = left_plain g m n p new low s may (same g m n p alone) hid ne

right_plain : (g : Rest) (m n : ℕ) (p : Page) (new low : ℕ) → Shape g n p → MaySplit g n p new low → Same g m n p → g.shown new ≡ 0 → n ≢ new → ((r : ℕ) → g.kind r ≢ Unmade → g.parted_at r new ≡ 0) → Shape (split_rest g m n p new low) new (split_right p low)
right_plain g m n p new low s may alone hid ne path = record {
  unmade = grind arith;
  made = grind arith;
  seen = grind arith;
  above = λ v l a b e. let h = below_high l low (subst (λ o. beyond o low ≡ false) e may.covered) in grind (arith, h);
  right_low = grind arith;
  right_kind = grind arith;
  right_own = grind arith;
  right_other = grind arith;
  right_shown = grind arith;
  right_writer = grind arith;
  falls = grind arith;
  child = grind arith;
  child_low = grind arith;
  child_shown = grind arith;
  child_writer = grind arith;
  child_open = grind arith;
  child_opener = grind arith;
  first = grind arith;
}

pub shape_right : (g : Rest) (m n : ℕ) (p : Page) (new low : ℕ) → Shape g n p → MaySplit g n p new low → MayChange g m n p → g.shown new ≡ 0 → n ≢ new → ((r : ℕ) → g.kind r ≢ Unmade → g.parted_at r new ≡ 0) → Shape (split_rest g m n p new low) new (split_right p low)
shape_right g m n p new low s may alone hid ne path = right_plain g m n p new low s may (same g m n p alone) hid ne path

other_plain : (g : Rest) (m n q : ℕ) (p r : Page) (new low : ℕ) → Shape g q r → g.kind new ≡ Unmade → g.shown n ≤ p.last → 1 ≤ p.last → Same g m n p → PartedBy g n p → PartedBy g new (record p { last = 0 }) → q ≢ n → q ≢ new → Shape (split_rest g m n p new low) q r
other_plain g m n q p r new low s fresh seen made alone path path' ne ne' = record {
  unmade = grind arith;
  made = grind arith;
  seen = grind arith;
  above = grind arith;
  right_low = grind arith;
  right_kind = grind arith;
  right_own = grind arith;
  right_other = grind arith;
  right_shown = grind arith;
  right_writer = grind arith;
  falls = grind arith;
  child = grind arith;
  child_low = grind arith;
  child_shown = grind arith;
  child_writer = grind arith;
  child_open = grind arith;
  child_opener = grind arith;
  first = grind arith;
}

pub shape_other : (g : Rest) (m n q : ℕ) (p r : Page) (new low : ℕ) → Shape g q r → g.kind new ≡ Unmade → g.shown n ≤ p.last → 1 ≤ p.last → MayChange g m n p → PartedBy g n p → PartedBy g new (record p { last = 0 }) → q ≢ n → q ≢ new → Shape (split_rest g m n p new low) q r
shape_other g m n q p r new low s fresh seen made alone path path' ne ne' = other_plain g m n q p r new low s fresh seen made (same g m n p alone) path path' ne ne'

pub shape_fail : (g : Rest) (m : ℕ) (c : ℕ → ℕ) (n : ℕ) (p : Page) → Shape g n p → MayFail g m c n p → ((v : ℕ) (l : Link) → 1 ≤ v → v ≤ c n → p.link v ≡ Some l → 1 ≤ c l.right) → Shape (failed_rest g c) n (failed_page p (c n))
shape_fail g m c n p s may right = record {
  unmade = grind arith;
  made = grind arith;
  seen = grind arith;
  above = grind arith;
  right_low = grind arith;
  right_kind = grind arith;
  right_own = grind arith;
  right_other = grind arith;
  right_shown = grind arith;
  right_writer = grind arith;
  falls = grind arith;
  child = grind arith;
  child_low = grind arith;
  child_shown = grind arith;
  child_writer = grind arith;
  child_open = grind arith;
  child_opener = grind arith;
  first = grind arith;
}

pub shape_end : (g : Rest) (n : ℕ) (p : Page) (keys : ℕ → Bool) → Shape g n p → Shape (ended_rest g keys) n p
shape_end g n p keys s = record {
  unmade = s.unmade;
  made = s.made;
  seen = s.seen;
  above = s.above;
  right_low = s.right_low;
  right_kind = s.right_kind;
  right_own = s.right_own;
  right_other = s.right_other;
  right_shown = s.right_shown;
  right_writer = s.right_writer;
  falls = s.falls;
  child = s.child;
  child_low = s.child_low;
  child_shown = s.child_shown;
  child_writer = s.child_writer;
  child_open = s.child_open;
  child_opener = s.child_opener;
  first = s.first;
}

pub shape_restart : (g : Rest) (last : ℕ → ℕ) (n : ℕ) (p : Page) → Shape g n p → last n ≡ p.last → ((q : ℕ) → g.kind q ≢ Unmade → 1 ≤ last q) → ((c q : ℕ) → g.kind c ≡ Leaf → g.parted_at c q ≤ last q) → Shape (restarted_rest g last) n p
shape_restart g last n p s is some path = record {
  unmade = grind arith;
  made = grind arith;
  seen = grind arith;
  above = grind arith;
  right_low = grind arith;
  right_kind = grind arith;
  right_own = grind arith;
  right_other = grind arith;
  right_shown = grind arith;
  right_writer = grind arith;
  falls = grind arith;
  child = grind arith;
  child_low = grind arith;
  child_shown = grind arith;
  child_writer = grind arith;
  child_open = grind arith;
  child_opener = grind arith;
  first = grind arith;
}
