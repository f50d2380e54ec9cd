-- Of which kind the pages of an index are.
use Rattle.std.proofs.Common.{◌≡◌, ◌≢◌, ◌⊎◌, inl, inr, ℕ, zero, suc, ◌<◌, ◌≤◌, Bool, true, false, List, [], ◌∷◌, Option, Some, None, Ok, refl, sym, ap, ◌∙◌, arith}
use Rattle.std.specs.Prelude.{◌==◌, if◌then◌else◌, slice_index}
use Rattle.std.proofs.lemmas.Bool.{cases_lt}
use Rattle.ds_base.specs.Pages.{index_page}
use Rattle.ds_base.specs.declared.names.PageId.{PageId}
use Rattle.page_format.specs.Header.{is_zeros, first_fault, fields, header_in, empty_header, judged, header_of}
use Rattle.page_format.specs.declared.header.Header.{Header}
use Rattle.page_format.specs.declared.header.PageKind.{PageKind}
use Rattle.page_format.specs.declared.header.PageKind.TheVariants as kind
use Rattle.index_leaf.specs.Search.{is_branch}
use Rattle.index_protocol.specs.Index.{Kind, Unmade, Leaf, Branch}
use Rattle.page_images.specs.Images.{Images}
use Rattle.sound_disk.specs.Layouts.{IsOfKind}
use Rattle.sound_disk.specs.Indexes.{IsBranchPage, IsLeafPage, index_next, AreIndexPages}
use Rattle.sound_disk.specs.Index_views.{kind_in}
use Rattle.table_pages.proofs.Booleans.{and_left, and_right, equal}

-- ---- the byte of the kind

pick : Bool → Bool → Bool → Bool → Bool → PageKind
pick a b c d e =
    if a then kind.HeapHeader
    else if b then kind.Heap
    else if c then kind.IndexHeader
    else if d then kind.Branch
    else if e then kind.Leaf
    else kind.Empty

picks_header : (a b c d e : Bool) → pick a b c d e ≡ kind.IndexHeader → c ≡ true
unfolding pick
picks_header true b c d e h = absurd cc
picks_header false true c d e h = absurd cc
picks_header false false true d e h = refl
picks_header false false false true e h = absurd cc
picks_header false false false false true h = absurd cc
picks_header false false false false false h = absurd cc

picks_branch : (a b c d e : Bool) → pick a b c d e ≡ kind.Branch → d ≡ true
unfolding pick
picks_branch true b c d e h = absurd cc
picks_branch false true c d e h = absurd cc
picks_branch false false true d e h = absurd cc
picks_branch false false false true e h = refl
picks_branch false false false false true h = absurd cc
picks_branch false false false false false h = absurd cc

picks_leaf : (a b c d e : Bool) → pick a b c d e ≡ kind.Leaf → e ≡ true
unfolding pick
picks_leaf true b c d e h = absurd cc
picks_leaf false true c d e h = absurd cc
picks_leaf false false true d e h = absurd cc
picks_leaf false false false true e h = absurd cc
picks_leaf false false false false true h = refl
picks_leaf false false false false false h = absurd cc

of_kind : (k : PageKind) (z : Bool) (fault : Option ℕ) (h : Header) → (k ≡ kind.Empty → ⊥) → IsOfKind k (if z then Ok empty_header else judged fault h) → h.kind ≡ k
of_kind k true fault h some is = absurd (some (sym is))
of_kind k false None h some is = is
of_kind k false (Some at) h some is = absurd is

kind_read : (k : PageKind) (page : List ℕ) (id : PageId) → (k ≡ kind.Empty → ⊥) → IsOfKind k (header_of page id) → (header_in page).kind ≡ k
unfolding header_of
kind_read k page id some is = of_kind k (is_zeros page) (first_fault (fields page id)) (header_in page) some is

header_byte : (page : List ℕ) (id : PageId) → IsOfKind kind.IndexHeader (header_of page id) → slice_index page 4 ≡ 3
unfolding pick
header_byte page id is =
    let b : ℕ = slice_index page 4 in
    equal b 3 (picks_header (b == 1) (b == 2) (b == 3) (b == 4) (b == 5) (kind_read kind.IndexHeader page id (λ e. cc) is))

branch_byte : (page : List ℕ) (id : PageId) → IsOfKind kind.Branch (header_of page id) → slice_index page 4 ≡ 4
unfolding pick
branch_byte page id is =
    let b : ℕ = slice_index page 4 in
    equal b 4 (picks_branch (b == 1) (b == 2) (b == 3) (b == 4) (b == 5) (kind_read kind.Branch page id (λ e. cc) is))

leaf_byte : (page : List ℕ) (id : PageId) → IsOfKind kind.Leaf (header_of page id) → slice_index page 4 ≡ 5
unfolding pick
leaf_byte page id is =
    let b : ℕ = slice_index page 4 in
    equal b 5 (picks_leaf (b == 1) (b == 2) (b == 3) (b == 4) (b == 5) (kind_read kind.Leaf page id (λ e. cc) is))

blank_byte : (page : List ℕ) (k : ℕ) → is_zeros page ≡ true → slice_index page k ≡ 0
blank_byte [] zero h = refl
blank_byte [] (suc k) h = refl
blank_byte (x ∷ xs) zero h = equal x 0 (and_left (x == 0) (is_zeros xs) h)
blank_byte (x ∷ xs) (suc k) h = blank_byte xs k (and_right (x == 0) (is_zeros xs) h)

-- ---- kinds

abbrev by_byte : ℕ → Kind
by_byte b = if b == 4 then Branch else if b == 5 then Leaf else Unmade

-- the kind of a branch or a leaf
abbrev pub named : Bool → Kind
named true = Branch
named false = Leaf

pub is_named : (a b : Bool) → named a ≡ named b → a ≡ b
is_named true true h = refl
is_named true false h = absurd cc
is_named false true h = absurd cc
is_named false false h = refl

pub named_made : (b : Bool) (kind : Kind) → kind ≡ named b → kind ≢ Unmade
named_made true kind is un = absurd cc
named_made false kind is un = absurd cc

picked_branch : (b c : Bool) → (if b then Branch else if c then Leaf else Unmade) ≡ Branch → b ≡ true
picked_branch true c h = refl
picked_branch false true h = absurd cc
picked_branch false false h = absurd cc

picked_leaf : (b c : Bool) → (if b then Branch else if c then Leaf else Unmade) ≡ Leaf → b ≡ false
picked_leaf true c h = absurd cc
picked_leaf false c h = refl

pub branch_is : (page : List ℕ) → kind_in page ≡ Branch → is_branch page ≡ true
branch_is page h = picked_branch (slice_index page 4 == 4) (slice_index page 4 == 5) h

pub leaf_is : (page : List ℕ) → kind_in page ≡ Leaf → is_branch page ≡ false
leaf_is page h = picked_leaf (slice_index page 4 == 4) (slice_index page 4 == 5) h

pub named_is : (page : List ℕ) (b : Bool) → kind_in page ≡ named b → is_branch page ≡ b
named_is page true h = branch_is page h
named_is page false h = leaf_is page h

pub byte_kind : (page : List ℕ) → slice_index page 4 ≡ 0 → kind_in page ≡ Unmade
byte_kind page e = ap by_byte e

-- ---- the pages of an index

pub record InIndex (at : Images) (table n : ℕ) : Type 0 where
  pub from : 1 ≤ n
  pub to : n < index_next at table

kind_head : (at : Images) (table : ℕ) → AreIndexPages at table → kind_in (at (index_page table 0)) ≡ Unmade
kind_head at table p = ap by_byte (header_byte (at (index_page table 0)) (index_page table 0) p.header.kind_is)

kind_rest : (at : Images) (table n : ℕ) → AreIndexPages at table → index_next at table ≤ n → kind_in (at (index_page table n)) ≡ Unmade
kind_rest at table n p le = byte_kind (at (index_page table n)) (blank_byte (at (index_page table n)) 4 (p.rest n le))

pub made_inside : (at : Images) (table n : ℕ) → AreIndexPages at table → kind_in (at (index_page table n)) ≢ Unmade → InIndex at table n
made_inside at table n p made =
    elim (cases_lt n 1) as (λ _. InIndex at table n) [
      | inl lt ↦ let z : n ≡ 0 = omega (arith, lt) in absurd (made (ap (λ (m : ℕ). kind_in (at (index_page table m))) z ∙ kind_head at table p))
      | inr from ↦ elim (cases_lt n (index_next at table)) as (λ _. InIndex at table n) [
        | inl to ↦ record { from = from; to = to }
        | inr le ↦ absurd (made (kind_rest at table n p le))
      ]
    ]

named_by : (page : List ℕ) (id : PageId) → (IsBranchPage id page) ⊎ (IsLeafPage id page) → kind_in page ≡ named (is_branch page)
named_by page id (inl b) = let e = branch_byte page id b.0 in ap by_byte e ∙ sym (ap (λ (x : ℕ). named (x == 4)) e)
named_by page id (inr l) = let e = leaf_byte page id l in ap by_byte e ∙ sym (ap (λ (x : ℕ). named (x == 4)) e)

pub inside_named : (at : Images) (table n : ℕ) → AreIndexPages at table → InIndex at table n → kind_in (at (index_page table n)) ≡ named (is_branch (at (index_page table n)))
inside_named at table n p i = named_by (at (index_page table n)) (index_page table n) (p.pages n i.from i.to).kind_is

pub inside_made : (at : Images) (table n : ℕ) → AreIndexPages at table → InIndex at table n → kind_in (at (index_page table n)) ≢ Unmade
inside_made at table n p i = named_made (is_branch (at (index_page table n))) (kind_in (at (index_page table n))) (inside_named at table n p i)
