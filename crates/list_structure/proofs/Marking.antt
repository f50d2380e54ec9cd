-- The marks of the cells that are asked.
use Rattle.std.proofs.Common.{◌≡◌, ◌≢◌, sym, ap, ◌∙◌, subst, ℕ, ◌+◌, ◌*◌, ◌<◌, Bool, false, List, length, slice_index_or, slice_set, arith, get_or-set_same, get_or-set_other, length-set, inl, inr}
use Rattle.std.proofs.lemmas.List.{get_or_read}
use Rattle.std.proofs.lemmas.Bool.{cases_eq}
use Rattle.list_structure.specs.declared.query.Cell.{Cell}
use Rattle.list_structure.specs.declared.query.Cell.TheVariants.{Empty}
use Rattle.list_structure.specs.Cells.{cell_at, is_asked}
use Rattle.list_structure.specs.Counts.{IsMarked}
use Rattle.list_structure.proofs.Counting.{same_asker_place, same_asked_place, cell_at-set_same, cell_at-set_other}

same_asker : (i t j u : ℕ) → i < 544 → j < 544 → u * 544 + j ≡ t * 544 + i → j ≡ i
same_asker i t j u a b e = omega arith

same_member : (i t j u : ℕ) → i < 544 → j < 544 → u * 544 + j ≡ t * 544 + i → u ≡ t
same_member i t j u a b e = omega arith

within : (i t n : ℕ) → i < 544 → t < 32 → n ≡ 17408 → t * 544 + i < n
within i t n a b e = omega arith

place_within : (i t n : ℕ) → i < 544 → t < 32 → n ≡ 17408 → i * 32 + t < n
place_within i t n a b e = omega arith

set_mark : (cells : List Cell) (marks : List Bool) (i t : ℕ) (c : Cell) (b : Bool) → IsMarked cells marks → i < 544 → t < 32 → length cells ≡ 17408 → b ≡ is_asked c
    → (u j : ℕ) → u < 32 → j < 544 → slice_index_or (slice_set marks (t * 544 + i) b) (u * 544 + j) false ≡ is_asked (cell_at (slice_set cells (i * 32 + t) c) j u)
set_mark cells marks i t c b s a l e q u j v w = elim (cases_eq (u * 544 + j) (t * 544 + i)) [
  | inl p ↦
      let here : slice_index_or (slice_set marks (t * 544 + i) b) (t * 544 + i) false ≡ b = get_or-set_same marks (t * 544 + i) b false (within i t (length marks) a l s.marks_length) in
      let there : cell_at (slice_set cells (i * 32 + t) c) i t ≡ c = cell_at-set_same cells i t c (place_within i t (length cells) a l e) in
      subst (λ (x : ℕ). slice_index_or (slice_set marks (t * 544 + i) b) x false ≡ is_asked (cell_at (slice_set cells (i * 32 + t) c) j u)) (sym p)
      (subst (λ (x : ℕ). slice_index_or (slice_set marks (t * 544 + i) b) (t * 544 + i) false ≡ is_asked (cell_at (slice_set cells (i * 32 + t) c) x u)) (sym (same_asker i t j u a w p))
      (subst (λ (x : ℕ). slice_index_or (slice_set marks (t * 544 + i) b) (t * 544 + i) false ≡ is_asked (cell_at (slice_set cells (i * 32 + t) c) i x)) (sym (same_member i t j u a w p))
      (here ∙ q ∙ ap is_asked (sym there))))
  | inr d ↦
      let o : j * 32 + u ≢ i * 32 + t = λ z. d (let x = same_asker_place i t j u l v z in let y = same_asked_place i t j u l v z in omega (arith, x, y)) in
      get_or-set_other marks (t * 544 + i) (u * 544 + j) b false d ∙ s.marked u j v w ∙ ap is_asked (sym (cell_at-set_other cells i t j u c o))
]

pub IsMarked-set : (cells : List Cell) (marks : List Bool) (i t : ℕ) (c : Cell) (b : Bool) → IsMarked cells marks → i < 544 → t < 32 → length cells ≡ 17408 → b ≡ is_asked c
    → IsMarked (slice_set cells (i * 32 + t) c) (slice_set marks (t * 544 + i) b)
IsMarked-set cells marks i t c b s a l e q = record { marks_length = length-set marks (t * 544 + i) b ∙ s.marks_length; marked = λ u j v w. set_mark cells marks i t c b s a l e q u j v w }

pub IsMarked-empty : (cells : List Cell) (marks : List Bool) → ((k : ℕ) → slice_index_or cells k Empty ≡ Empty) → length marks ≡ 17408 → ((k : ℕ) → slice_index_or marks k false ≡ false) → IsMarked cells marks
IsMarked-empty cells marks all e none = record { marks_length = e; marked = λ t i a b. none (t * 544 + i) ∙ sym (ap is_asked (all (i * 32 + t))) }

-- a mark that was read
pub read_mark : (cells : List Cell) (marks : List Bool) (i t : ℕ) (b : Bool) → IsMarked cells marks → i < 544 → t < 32 → b ≡ slice_index_or marks (t * 544 + i) b → b ≡ is_asked (cell_at cells i t)
read_mark cells marks i t b s a l e = get_or_read marks (t * 544 + i) b (within i t (length marks) a l s.marks_length) e false ∙ s.marked t i l a
