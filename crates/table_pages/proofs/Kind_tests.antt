-- The kind of a page, and what its header lets its count be.
use Rattle.std.proofs.Common.{◌≡◌, ℕ, ◌≤◌, Bool, true, false, List, [], ◌∷◌, take, slice_index, not, Option, Some, None, Result, Ok, Err, refl, sym, ap, subst, ◌∙◌, arith}
use Rattle.std.specs.Prelude.{◌==◌, nat_le, if◌then◌else◌}
use Rattle.ds_base.specs.declared.names.PageId.{PageId}
use Rattle.std.specs.Str.{bytes_eq}
use Rattle.page_format.specs.Fields.{number_in}
use Rattle.page_format.specs.Header.{kind_of, may_have, is_version, mark, most, is_zeros, first_fault, fields, header_in, empty_header, judged, header_of}
use Rattle.page_format.specs.declared.header.Header.{Header}
use Rattle.page_format.specs.declared.header.NotAPage.{NotAPage}
use Rattle.page_format.specs.declared.header.PageKind.{PageKind}
use Rattle.page_format.specs.declared.header.PageKind.TheVariants as kind
use Rattle.sound_disk.specs.Layouts.{IsOfKind, count_in}
use Rattle.table_pages.specs.Kinds.{rank, has_kind}
use Rattle.table_pages.proofs.Booleans.{equal, itself, le_of}

back : (k : PageKind) → kind_of (rank k) ≡ k
back kind.Empty = refl
back kind.HeapHeader = refl
back kind.Heap = refl
back kind.IndexHeader = refl
back kind.Branch = refl
back kind.Leaf = refl

same_kind : (a b : PageKind) → (rank a == rank b) ≡ true → a ≡ b
same_kind a b h = sym (back a) ∙ ap kind_of (equal (rank a) (rank b) h) ∙ back b

pub kind_is : (k : PageKind) (r : Result Header NotAPage) → has_kind k r ≡ true → IsOfKind k r
kind_is k (Ok header) h = same_kind header.kind k h
kind_is k (Err e) h = absurd cc

pub kind_has : (k : PageKind) (r : Result Header NotAPage) → IsOfKind k r → has_kind k r ≡ true
kind_has k (Ok header) h = ap (λ (j : PageKind). rank j == rank k) h ∙ itself (rank k)
kind_has k (Err e) h = absurd h

pub not_both : (r : Result Header NotAPage) → has_kind kind.Branch r ≡ true → has_kind kind.Leaf r ≡ true → ⊥
not_both (Ok header) h k =
    let b : rank header.kind ≡ 4 = equal (rank header.kind) 4 h in
    let l : rank header.kind ≡ 5 = equal (rank header.kind) 5 k in
    absurd (omega (arith, b, l))
not_both (Err e) h k = absurd cc

-- ---- the count

none_first : (b : Bool) (at : ℕ) (rest : Option ℕ) → (if b then rest else Some at) ≡ None → b ≡ true
none_first true at rest h = refl
none_first false at rest h = absurd cc

none_rest : (b : Bool) (at : ℕ) (rest : Option ℕ) → (if b then rest else Some at) ≡ None → rest ≡ None
none_rest true at rest h = h
none_rest false at rest h = absurd cc

passed : (f : ℕ × Bool) (fs : List (ℕ × Bool)) → first_fault (f ∷ fs) ≡ None → first_fault fs ≡ None
passed f fs h = none_rest f.1 f.0 (first_fault fs) h

passes : (f : ℕ × Bool) (fs : List (ℕ × Bool)) → first_fault (f ∷ fs) ≡ None → f.1 ≡ true
passes f fs h = none_first f.1 f.0 (first_fault fs) h

seventh : (a b c d e f g : ℕ × Bool) → first_fault (a ∷ b ∷ c ∷ d ∷ e ∷ f ∷ g ∷ []) ≡ None → g.1 ≡ true
seventh a b c d e f g h =
    passes g [] (passed f (g ∷ []) (passed e (f ∷ g ∷ []) (passed d (e ∷ f ∷ g ∷ []) (passed c (d ∷ e ∷ f ∷ g ∷ []) (passed b (c ∷ d ∷ e ∷ f ∷ g ∷ []) (passed a (b ∷ c ∷ d ∷ e ∷ f ∷ g ∷ []) h))))))

count_fits : (page : List ℕ) (id : PageId) → first_fault (fields page id) ≡ None → nat_le (header_in page).count (most (header_in page).kind) ≡ true
count_fits page id h =
    seventh (0, bytes_eq (take 4 page) mark) (4, may_have id (header_in page).kind) (5, is_version (slice_index page 5)) (6, number_in page 6 2 == id.set) (8, number_in page 8 4 == id.number)
    (16, not ((header_in page).lrsn == 0)) (26, nat_le (header_in page).count (most (header_in page).kind)) h

count_when : (z : Bool) (fault : Option ℕ) (h : Header) (k : PageKind) → (most k ≡ 0 → ⊥) → (fault ≡ None → nat_le h.count (most h.kind) ≡ true) → IsOfKind k (if z then Ok empty_header else judged fault h) → h.count ≤ most k
count_when true fault h k some fits is = absurd (some (ap most (sym is)))
count_when false None h k some fits is = le_of h.count (most k) (subst (λ (j : PageKind). nat_le h.count (most j) ≡ true) is (fits refl))
count_when false (Some at) h k some fits is = absurd is

-- a page of a kind with slots or entries has no more than its kind lets it
pub count_within : (k : PageKind) (page : List ℕ) (id : PageId) → (most k ≡ 0 → ⊥) → IsOfKind k (header_of page id) → count_in page ≤ most k
unfolding header_of
count_within k page id some is = count_when (is_zeros page) (first_fault (fields page id)) (header_in page) k some (count_fits page id) is
