-- One page more of a page set.
use Rattle.std.proofs.Common.{◌≡◌, ◌↔◌, ℕ, zero, suc, ◌+◌, ◌<◌, ◌≤◌, Bool, true, false, not, List, [], ◌∷◌, length, replicate, Option, Some, None, refl, sym, ap, subst, ◌∙◌, arith, add-one}
use Rattle.std.specs.Prelude.{nat_lt, ◌==◌, ◌&&◌, IsTrue}
use Rattle.std.proofs.lemmas.Bool.Decides.{nat_tests}
use Rattle.ds_base.specs.declared.names.PageId.{PageId}
use Rattle.ds_disk.specs.Contents.{Contents, WhenTold, Becomes, Same}
use Rattle.ds_disk.specs.Pages.{page_at}
use Rattle.ds_model.specs.declared.log.LogRecord.{LogRecord}
use Rattle.page_format.specs.Header.{is_zeros, header_of}
use Rattle.page_format.specs.Fields.{page_size}
use Rattle.index_leaf.specs.Changes.{zeros as zero_bytes}
use Rattle.page_images.specs.Images.{Images, zeros}
use Rattle.page_versions.specs.Fronts.{IsPlaced}
use Rattle.disk_versions.specs.Ends.{page_of, last_by_header, last_in_records, end_of, pages_read}
use Rattle.disk_versions.specs.Placing.{IsJudged, count_with, written_in, AreUpTo, AreInSet, IsFirstInSet, IsSetTold}
use Rattle.disk_versions.specs.declared.page.Judged.{Judged}
use Rattle.disk_versions.specs.declared.set.Placing.{Placing}
use Rattle.disk_versions.proofs.Reading.{told_before, told_by_both}

pub decide : (b : Bool) (P : Type 0) → (b ≡ true → P) → (b ≡ false → P) → P
decide true P f g = f refl
decide false P f g = g refl

and_left : (a b : Bool) → (a && b) ≡ true → a ≡ true
and_left true b h = refl
and_left false b h = h

and_right : (a b : Bool) → (a && b) ≡ true → b ≡ true
and_right true b h = h
and_right false b h = absurd cc

below : (k n : ℕ) → nat_lt k n ≡ true → k < n
below k n h = grind (arith, nat_tests)

last_of : (k n : ℕ) → k < n + 1 → nat_lt k n ≡ false → k ≡ n
last_of k n lt h = grind (arith, nat_tests)

up_to_more : (at : Images) (records : List LogRecord) (renews : Bool) (set n : ℕ) → AreUpTo at records renews set n → IsPlaced (page_of set n) records renews (at (page_of set n)) → AreUpTo at records renews set (n + 1)
up_to_more at records renews set n h p = λ k lt.
    decide (nat_lt k n) (IsPlaced (page_of set k) records renews (at (page_of set k)))
    (λ e. h k (below k n e))
    (λ e. subst (λ (m : ℕ). IsPlaced (page_of set m) records renews (at (page_of set m))) (sym (last_of k n lt e)) p)

pub page_more : (at : Images) (records : List LogRecord) (renews : Bool) (set n pages more : ℕ) (j : Judged) → IsJudged (page_of set n) records renews (at (page_of set n)) j → j.is_placed ≡ true
    → more ≡ count_with pages j.is_written → AreInSet at records renews set n pages → AreInSet at records renews set (n + 1) more
page_more at records renews set n pages more j is placed m h = record {
  each = up_to_more at records renews set n h.each (is.placed.0 placed);
  count =
      m
      ∙ ap (λ (k : ℕ). count_with k j.is_written) h.count
      ∙ ap (λ (b : Bool). count_with (written_in at set n) b) is.written
      ∙ ap (λ (k : ℕ). written_in at set k) (sym (add-one n));
}

pub page_wrong : (at : Images) (records : List LogRecord) (renews : Bool) (set n end pages : ℕ) (j : Judged) → n < end → IsJudged (page_of set n) records renews (at (page_of set n)) j → j.is_placed ≡ false
    → AreInSet at records renews set n pages → IsFirstInSet at records renews set end (page_of set n)
page_wrong at records renews set n end pages j lt is wrong h = record {
  set_is = refl;
  number_in = lt;
  wrong = λ p. absurd (cc (wrong, is.placed.1 p));
  before = h.each;
}

pub not_false : (b : Bool) → not b ≡ false → b ≡ true
not_false true h = refl
not_false false h = absurd cc

count_if : (n pages : ℕ) (w : Bool) → pages ≤ n → count_with pages w ≤ n + 1
count_if n pages true le = omega (arith, le)
count_if n pages false le = omega (arith, le)

pub count_up : (n pages more : ℕ) (w : Bool) → more ≡ count_with pages w → pages ≤ n → more ≤ n + 1
count_up n pages more w e le = let up = count_if n pages w le in omega (arith, e, up)

-- ---- a page that was never written

equal : (m n : ℕ) → (m == n) ≡ true → m ≡ n
equal m n h = grind (arith, nat_tests)

all_zero : (page : List ℕ) → is_zeros page ≡ true → page ≡ replicate (length page) 0
all_zero [] h = refl
all_zero (x ∷ xs) h = ap (λ (y : ℕ). y ∷ xs) (equal x 0 (and_left (x == 0) (is_zeros xs) h)) ∙ ap (λ (ys : List ℕ). 0 ∷ ys) (all_zero xs (and_right (x == 0) (is_zeros xs) h))

zeros_all : (n : ℕ) → is_zeros (replicate n 0) ≡ true
zeros_all zero = refl
zeros_all (suc n) = zeros_all n

blank : replicate page_size 0 ≡ zeros
unfolding zero_bytes
blank = refl

pub blank_is : (page : List ℕ) (b : Bool) → b ≡ is_zeros page → length page ≡ page_size → IsTrue b ↔ (page ≡ zeros)
blank_is page b is long = (
  (λ t. all_zero page (sym is ∙ t) ∙ ap (λ (n : ℕ). replicate n 0) long ∙ blank),
  (λ e. is ∙ ap is_zeros (e ∙ sym blank) ∙ zeros_all page_size),
)

-- ---- a page as it was read

abbrev Loaded : PageId → List ℕ → Contents → Contents → Type 0
Loaded id page c d = (d ≡ c) × (page ≡ page_at c.pages id)

pub same_after : (before after : Option Contents) (id : PageId) (page : List ℕ) → Becomes before after (Loaded id page) → Becomes before after Same
same_after None after id page b = tt
same_after (Some c) None id page b = absurd b
same_after (Some c) (Some d) id page b = b.0

pub judged_of : (before after : Option Contents) (id : PageId) (records : List LogRecord) (renews : Bool) (page : List ℕ) (j : Judged) → Becomes before after (Loaded id page)
    → IsTrue j.is_placed ↔ IsPlaced id records renews page → j.is_written ≡ not (is_zeros page) → WhenTold before (λ (c : Contents). IsJudged id records renews (page_at c.pages id) j)
judged_of None after id records renews page j b p w = tt
judged_of (Some c) None id records renews page j b p w = absurd b
judged_of (Some c) (Some d) id records renews page j b p w = record {
  placed = subst (λ (q : List ℕ). IsTrue j.is_placed ↔ IsPlaced id records renews q) b.1 p;
  written = w ∙ ap (λ (q : List ℕ). not (is_zeros q)) b.1;
}

pub end_told : (before after : Option Contents) (records : List LogRecord) (set behind end : ℕ) (page : List ℕ) → Becomes before after (Loaded (page_of set 0) page)
    → end ≡ end_of (last_by_header (header_of page (page_of set 0)) page) (last_in_records set 0 records) behind → WhenTold before (λ (c : Contents). end ≡ pages_read (page_at c.pages) records behind set)
end_told None after records set behind end page b e = tt
end_told (Some c) None records set behind end page b e = absurd b
end_told (Some c) (Some d) records set behind end page b e = e ∙ ap (λ (q : List ℕ). end_of (last_by_header (header_of q (page_of set 0)) q) (last_in_records set 0 records) behind) b.1
