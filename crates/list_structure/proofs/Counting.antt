-- One cell is set: what the others are, and how the counts change.
use Rattle.std.proofs.Common.{◌≡◌, ◌≢◌, refl, sym, ap, ◌∙◌, subst, ℕ, zero, suc, ◌+◌, ◌*◌, ◌<◌, ◌≤◌, ◌==◌, ◌&&◌, Bool, true, false, List, length, take, drop, slice_index_or, slice_set, slice_index, if◌then◌else◌, arith, get_or-set_same, get_or-set_other, length-set, ◌⊎◌, inl, inr}
use Rattle.std.proofs.lemmas.List.{get_or_read}
use Rattle.std.proofs.lemmas.Bool.{cases_eq}
use Rattle.std.proofs.lemmas.Bool.Decides.{nat_tests}
use Rattle.list_structure.specs.declared.query.Cell.{Cell}
use Rattle.list_structure.specs.declared.query.Cell.TheVariants.{Empty}
use Rattle.list_structure.specs.Cells.{cell_at, cells_at, is_asked}
use Rattle.list_structure.specs.Counts.{one_if, asked_count, IsCounted}

-- two places are one only where asker and member are
pub same_asker_place : (i t j u : ℕ) → t < 32 → u < 32 → j * 32 + u ≡ i * 32 + t → j ≡ i
same_asker_place i t j u a b e = omega arith

pub same_asked_place : (i t j u : ℕ) → t < 32 → u < 32 → j * 32 + u ≡ i * 32 + t → u ≡ t
same_asked_place i t j u a b e = omega arith

pub cell_at-set_same : (cells : List Cell) (i t : ℕ) (c : Cell) → i * 32 + t < length cells → cell_at (slice_set cells (i * 32 + t) c) i t ≡ c
cell_at-set_same cells i t c l = get_or-set_same cells (i * 32 + t) c Empty l

pub cell_at-set_other : (cells : List Cell) (i t j u : ℕ) (c : Cell) → j * 32 + u ≢ i * 32 + t → cell_at (slice_set cells (i * 32 + t) c) j u ≡ cell_at cells j u
cell_at-set_other cells i t j u c n = get_or-set_other cells (i * 32 + t) (j * 32 + u) c Empty n

pub cell_at-set : (cells : List Cell) (i t j u : ℕ) (c : Cell) → i * 32 + t < length cells → t < 32 → u < 32
    → cell_at (slice_set cells (i * 32 + t) c) j u ≡ (if (j == i) && (u == t) then c else cell_at cells j u)
cell_at-set cells i t j u c l a b =
    elim (cases_eq (j * 32 + u) (i * 32 + t)) [
      | inl e ↦
          let p : j ≡ i = same_asker_place i t j u a b e in
          let q : u ≡ t = same_asked_place i t j u a b e in
          let s = cell_at-set_same cells i t c l in
          grind (arith, nat_tests)
      | inr n ↦
          let o = cell_at-set_other cells i t j u c n in
          grind (arith, nat_tests)
    ]

one_if-most : (b : Bool) → one_if b ≤ 1
one_if-most true = omega arith
one_if-most false = omega arith

pub asked_count-most : (cells : List Cell) (t n : ℕ) → asked_count cells t n ≤ n
unfolding asked_count
asked_count-most cells t zero = omega arith
asked_count-most cells t (suc n) = omega (arith, asked_count-most cells t n, one_if-most (is_asked (cell_at cells n t)))

pub asked_count-least : (cells : List Cell) (t n i : ℕ) → i < n → one_if (is_asked (cell_at cells i t)) ≤ asked_count cells t n
unfolding asked_count
asked_count-least cells t zero i l = omega arith
asked_count-least cells t (suc n) i l =
    elim (cases_eq i n) [
      | inl e ↦ subst (λ (k : ℕ). one_if (is_asked (cell_at cells k t)) ≤ asked_count cells t n + one_if (is_asked (cell_at cells n t))) (sym e) (omega arith)
      | inr d ↦ omega (arith, asked_count-least cells t n i (omega arith))
    ]

-- what the counts of other members are
pub asked_count-other : (cells : List Cell) (i t u : ℕ) (c : Cell) → t < 32 → u < 32 → u ≢ t → (n : ℕ) → asked_count (slice_set cells (i * 32 + t) c) u n ≡ asked_count cells u n
unfolding asked_count
asked_count-other cells i t u c a b d zero = refl
asked_count-other cells i t u c a b d (suc n) =
    let o : cell_at (slice_set cells (i * 32 + t) c) n u ≡ cell_at cells n u = cell_at-set_other cells i t n u c (λ e. d (same_asked_place i t n u a b e)) in
    let r = asked_count-other cells i t u c a b d n in
    cc (ap (λ x. one_if (is_asked x)) o, r)

asked_count-before : (cells : List Cell) (i t : ℕ) (c : Cell) → t < 32 → (n : ℕ) → n ≤ i → asked_count (slice_set cells (i * 32 + t) c) t n ≡ asked_count cells t n
unfolding asked_count
asked_count-before cells i t c a zero l = refl
asked_count-before cells i t c a (suc n) l =
    let o : cell_at (slice_set cells (i * 32 + t) c) n t ≡ cell_at cells n t = cell_at-set_other cells i t n t c (λ e. omega arith) in
    let r = asked_count-before cells i t c a n (omega arith) in
    cc (ap (λ x. one_if (is_asked x)) o, r)

pub asked_count-set : (cells : List Cell) (i t : ℕ) (c : Cell) → t < 32 → i * 32 + t < length cells → (n : ℕ) → i < n
    → asked_count (slice_set cells (i * 32 + t) c) t n + one_if (is_asked (cell_at cells i t)) ≡ asked_count cells t n + one_if (is_asked c)
unfolding asked_count
asked_count-set cells i t c a s zero l = omega arith
asked_count-set cells i t c a s (suc n) l =
    elim (cases_eq i n) [
      | inl e ↦
          let o : one_if (is_asked (cell_at (slice_set cells (i * 32 + t) c) n t)) ≡ one_if (is_asked c) =
          ap (λ x. one_if (is_asked x)) (subst (λ (k : ℕ). cell_at (slice_set cells (i * 32 + t) c) k t ≡ c) e (cell_at-set_same cells i t c s)) in
          let w : one_if (is_asked (cell_at cells i t)) ≡ one_if (is_asked (cell_at cells n t)) = ap (λ (k : ℕ). one_if (is_asked (cell_at cells k t))) e in
          let r = asked_count-before cells i t c a n (omega arith) in
          omega (arith, o, w, r)
      | inr d ↦
          let o : one_if (is_asked (cell_at (slice_set cells (i * 32 + t) c) n t)) ≡ one_if (is_asked (cell_at cells n t)) =
          ap (λ x. one_if (is_asked x)) (cell_at-set_other cells i t n t c (λ e. omega arith)) in
          let r = asked_count-set cells i t c a s n (omega arith) in
          omega (arith, o, r)
    ]

one_if-zero : (b : Bool) → one_if b ≤ 0 → b ≡ false
one_if-zero true l = absurd (omega arith)
one_if-zero false l = refl

pub none_from_count : (cells : List Cell) (t n i : ℕ) → i < n → asked_count cells t n ≡ 0 → is_asked (cell_at cells i t) ≡ false
none_from_count cells t n i l e = one_if-zero _ (omega (arith, asked_count-least cells t n i l))

pub count_from_none : (cells : List Cell) (t n : ℕ) → ((i : ℕ) → i < n → is_asked (cell_at cells i t) ≡ false) → asked_count cells t n ≡ 0
unfolding asked_count
count_from_none cells t zero h = refl
count_from_none cells t (suc n) h =
    let o : one_if (is_asked (cell_at cells n t)) ≡ 0 = ap one_if (h n (omega arith)) in
    let r = count_from_none cells t n (λ i l. h i (omega arith)) in
    omega (arith, o, r)

-- the counts after one cell was set
pub IsCounted-set : (cells : List Cell) (counts : List ℕ) (i t : ℕ) (c : Cell) (k : ℕ) → IsCounted cells counts → i < 544 → t < 32
    → k + one_if (is_asked (cell_at cells i t)) ≡ slice_index counts t + one_if (is_asked c)
    → IsCounted (slice_set cells (i * 32 + t) c) (slice_set counts t k)
IsCounted-set cells counts i t c k s a b e = record {
  cells_length = length-set cells (i * 32 + t) c ∙ s.cells_length;
  counts_length = length-set counts t k ∙ s.counts_length;
  counted = λ u l. elim (cases_eq u t) [
    | inl q ↦
        let r = asked_count-set cells i t c b (omega (arith, s.cells_length)) 544 a in
        let w : slice_index (slice_set counts t k) t ≡ k = get_or-set_same counts t k 0 (omega (arith, s.counts_length)) in
        let g = s.counted t b in
        subst (λ (v : ℕ). slice_index (slice_set counts t k) v ≡ asked_count (slice_set cells (i * 32 + t) c) v 544) (sym q) (omega (arith, r, w, g, e))
    | inr d ↦ get_or-set_other counts t u k 0 d ∙ s.counted u l ∙ sym (asked_count-other cells i t u c b l d 544)
  ];
}

-- what was read in a kept count or cell
pub counted_at : (cells : List Cell) (counts : List ℕ) (t k : ℕ) → IsCounted cells counts → t < 32 → k ≡ slice_index_or counts t k → k ≡ asked_count cells t 544
counted_at cells counts t k s l e = get_or_read counts t k (omega (arith, s.counts_length)) e 0 ∙ s.counted t l

pub read_cell : (cells : List Cell) (counts : List ℕ) (i t : ℕ) (c : Cell) → IsCounted cells counts → i < 544 → t < 32 → c ≡ slice_index_or cells (i * 32 + t) c → c ≡ cell_at cells i t
read_cell cells counts i t c s a b e = get_or_read cells (i * 32 + t) c (omega (arith, s.cells_length)) e Empty

pub IsCounted-empty : (cells : List Cell) (counts : List ℕ) → length cells ≡ 17408 → ((k : ℕ) → slice_index_or cells k Empty ≡ Empty) → length counts ≡ 32 → ((k : ℕ) → slice_index counts k ≡ 0) → IsCounted cells counts
IsCounted-empty cells counts e all f zeros = record {
  cells_length = e;
  counts_length = f;
  counted = λ t l. zeros t ∙ sym (count_from_none cells t 544 (λ i k. ap is_asked (all (i * 32 + t))));
}

-- a slice of the cells is that of one asker
pub cells_between : (cells found : List Cell) (i n : ℕ) → n ≡ 32 → found ≡ cells → take n (drop (i * 32) found) ≡ cells_at cells i
unfolding cells_at
cells_between cells found i n e f = rw (e, f) refl
