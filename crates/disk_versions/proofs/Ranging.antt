-- Pages and page sets of some tables, one more at a time.
use Rattle.std.proofs.Common.{◌≡◌, ℕ, ◌+◌, ◌*◌, ◌^◌, ◌<◌, ◌≤◌, Bool, true, false, List, Option, Some, None, refl, sym, ap, subst, ◌∙◌, arith}
use Rattle.ds_base.specs.Pages.{heap_set, index_set}
use Rattle.ds_base.specs.declared.names.PageId.{PageId}
use Rattle.ds_disk.specs.Contents.{Contents, WhenTold, Becomes, Same}
use Rattle.ds_disk.specs.Pages.{page_at}
use Rattle.ds_model.specs.declared.log.LogRecord.{LogRecord}
use Rattle.page_images.specs.Images.{Images}
use Rattle.redone_pages.specs.declared.range.TableRange.{TableRange}
use Rattle.disk_versions.specs.Ends.{page_of, pages_read}
use Rattle.disk_versions.specs.Placing.{IsJudged, count_with, AreInSet, IsFirstInSet, IsSetTold, AreInSets, IsFirstInSets}
use Rattle.disk_versions.specs.Told.{page_sets}
use Rattle.disk_versions.specs.Met.{AreMet}
use Rattle.disk_versions.specs.Ranged.{sets_before, sets_up_to, IsRangeTold}
use Rattle.disk_versions.specs.declared.met.MetPages.{MetPages}
use Rattle.disk_versions.specs.declared.page.Judged.{Judged}
use Rattle.disk_versions.specs.declared.set.Placing.{Placing}
use Rattle.disk_versions.specs.declared.set.Placing.TheVariants as placing
use Rattle.disk_versions.proofs.Reading.{told_all, told_before, told_by, told_by_both}
use Rattle.disk_versions.proofs.Pages.{page_more, page_wrong}
use Rattle.disk_versions.proofs.Set_steps.{set_more, set_wrong}

-- ---- a page more

abbrev JudgedAt : MetPages → ℕ → ℕ → Bool → Judged → Contents → Type 0
JudgedAt met set n renews j c = AreMet (page_at c.pages) met → IsJudged (page_of set n) met.made.records renews (page_at c.pages (page_of set n)) j

abbrev InSetAt : MetPages → Bool → ℕ → ℕ → ℕ → Contents → Type 0
InSetAt met renews set n pages c = AreMet (page_at c.pages) met → AreInSet (page_at c.pages) met.made.records renews set n pages

abbrev ToldAt : MetPages → Bool → ℕ → ℕ → Placing → Contents → Type 0
ToldAt met renews set end found c = AreMet (page_at c.pages) met → IsSetTold (page_at c.pages) met.made.records renews set end found

pub pages_start : (a : Option Contents) (met : MetPages) (renews : Bool) (set : ℕ) → WhenTold a (InSetAt met renews set 0 0)
pages_start a met renews set = told_all a (InSetAt met renews set 0 0) (λ c known. record { each = λ n lt. absurd (omega (arith, lt)); count = refl })

pub page_added : (a b : Option Contents) (met : MetPages) (renews : Bool) (set n pages more : ℕ) (j : Judged) → Becomes a b Same → j.is_placed ≡ true → more ≡ count_with pages j.is_written → WhenTold a (InSetAt met renews set n pages)
    → WhenTold b (JudgedAt met set n renews j) → WhenTold a (InSetAt met renews set (n + 1) more)
page_added a b met renews set n pages more j same placed m h k =
    told_by_both a (JudgedAt met set n renews j) (InSetAt met renews set n pages) (InSetAt met renews set (n + 1) more)
    (λ c is all known. page_more (page_at c.pages) met.made.records renews set n pages more j (is known) placed m (all known))
    (told_before a b (JudgedAt met set n renews j) same k) h

pub page_wrong_in : (a b : Option Contents) (met : MetPages) (renews : Bool) (set n end pages : ℕ) (j : Judged) → Becomes a b Same → n < end → j.is_placed ≡ false → WhenTold a (InSetAt met renews set n pages) → WhenTold b (JudgedAt met set n renews j)
    → WhenTold a (ToldAt met renews set end (placing.Unplaced (page_of set n)))
page_wrong_in a b met renews set n end pages j same lt wrong h k =
    told_by_both a (JudgedAt met set n renews j) (InSetAt met renews set n pages) (ToldAt met renews set end (placing.Unplaced (page_of set n)))
    (λ c is all known. page_wrong (page_at c.pages) met.made.records renews set n end pages j lt (is known) wrong (all known))
    (told_before a b (JudgedAt met set n renews j) same k) h

-- ---- a page set more

-- of those before the tables so many pages aren't all zeros, and of those up to this one so many more
abbrev pub AddsTo : MetPages → Bool → ℕ → ℕ → ℕ → Contents → Type 0
AddsTo met renews behind n pages c =
    AreMet (page_at c.pages) met → (first : ℕ) → AreInSets (page_at c.pages) met.made.records renews behind (sets_before met.made.range) first → AreInSets (page_at c.pages) met.made.records renews behind n (first + pages)

abbrev SetAt : MetPages → Bool → ℕ → ℕ → Placing → Contents → Type 0
SetAt met renews behind set found c = AreMet (page_at c.pages) met → IsSetTold (page_at c.pages) met.made.records renews set (pages_read (page_at c.pages) met.made.records behind set) found

abbrev RangeAt : MetPages → Bool → ℕ → Placing → Contents → Type 0
RangeAt met renews behind found c = AreMet (page_at c.pages) met → IsRangeTold (page_at c.pages) met.made renews behind found

pub sets_start : (a : Option Contents) (met : MetPages) (renews : Bool) (behind n : ℕ) → n ≡ sets_before met.made.range → WhenTold a (AddsTo met renews behind n 0)
sets_start a met renews behind n is =
    told_all a (AddsTo met renews behind n 0)
    (λ c known first h. subst (λ (m : ℕ). AreInSets (page_at c.pages) met.made.records renews behind m (first + 0)) (sym is) (subst (λ (m : ℕ). AreInSets (page_at c.pages) met.made.records renews behind (sets_before met.made.range) m) (plus_none first) h))
  where
    plus_none : (m : ℕ) → m ≡ m + 0
    plus_none m = omega arith

pub set_added : (a b : Option Contents) (met : MetPages) (renews : Bool) (behind n pages more : ℕ) (found : Placing) → found ≡ placing.All more → Becomes a b Same → WhenTold a (AddsTo met renews behind n pages) → WhenTold b (SetAt met renews behind (n + 1) found)
    → WhenTold a (AddsTo met renews behind (n + 1) (pages + more))
set_added a b met renews behind n pages more found is same h k =
    told_by_both a (AddsTo met renews behind n pages) (SetAt met renews behind (n + 1) found) (AddsTo met renews behind (n + 1) (pages + more))
    (λ c all one known first before.
    subst (λ (m : ℕ). AreInSets (page_at c.pages) met.made.records renews behind (n + 1) m) (plus first pages more)
    (set_more (page_at c.pages) met.made.records renews behind n (first + pages) more (all known first before)
    (subst (λ (f : Placing). IsSetTold (page_at c.pages) met.made.records renews (n + 1) (pages_read (page_at c.pages) met.made.records behind (n + 1)) f) is (one known))))
    h (told_before a b (SetAt met renews behind (n + 1) found) same k)
  where
    plus : (x y z : ℕ) → (x + y) + z ≡ x + (y + z)
    plus x y z = omega arith

pub set_wrong_in : (a b : Option Contents) (met : MetPages) (renews : Bool) (behind n pages : ℕ) (id : PageId) (found : Placing) → found ≡ placing.Unplaced id → n < page_sets → Becomes a b Same → WhenTold a (AddsTo met renews behind n pages)
    → WhenTold b (SetAt met renews behind (n + 1) found) → WhenTold a (RangeAt met renews behind (placing.Unplaced id))
set_wrong_in a b met renews behind n pages id found is lt same h k =
    told_by_both a (AddsTo met renews behind n pages) (SetAt met renews behind (n + 1) found) (RangeAt met renews behind (placing.Unplaced id))
    (λ c all one known first before.
    set_wrong (page_at c.pages) met.made.records renews behind n page_sets (first + pages) id lt (all known first before)
    (subst (λ (f : Placing). IsSetTold (page_at c.pages) met.made.records renews (n + 1) (pages_read (page_at c.pages) met.made.records behind (n + 1)) f) is (one known)))
    h (told_before a b (SetAt met renews behind (n + 1) found) same k)

pub sets_end : (a : Option Contents) (met : MetPages) (renews : Bool) (behind n pages : ℕ) → n ≡ sets_up_to met.made.range → WhenTold a (AddsTo met renews behind n pages) → WhenTold a (RangeAt met renews behind (placing.All pages))
sets_end a met renews behind n pages is h =
    told_by a (AddsTo met renews behind n pages) (RangeAt met renews behind (placing.All pages))
    (λ c all known first before. subst (λ (m : ℕ). AreInSets (page_at c.pages) met.made.records renews behind m (first + pages)) is (all known first before)) h
