-- From the pages that are read to all pages of the disk.
use Rattle.std.proofs.Common.{◌≡◌, ℕ, ◌<◌, ◌≤◌, Bool, true, false, cond, List, [], Option, Result, Ok, Err, refl, sym, ap, subst, arith, inl, inr, slice_index}
use Rattle.std.specs.Prelude.{nat_le, nat_lt, ◌==◌, IfOk}
use Rattle.std.proofs.lemmas.Bool.Decides.{nat_tests}
use Rattle.ds_base.specs.declared.names.PageId.{PageId}
use Rattle.ds_disk.specs.Contents.{Contents, WhenTold}
use Rattle.ds_disk.specs.Pages.{page_at}
use Rattle.ds_model.specs.declared.log.LogRecord.{LogRecord}
use Rattle.page_format.specs.Fields.{version_at, is_old, renewed}
use Rattle.page_format.specs.Header.{header_of, empty_header}
use Rattle.log_record.specs.declared.log.Log.{Log}
use Rattle.page_images.specs.Images.{Images, zeros}
use Rattle.restart_plan.specs.Renewal.{must_renew}
use Rattle.sound_disk.specs.Versions.{merged, is_page, current, MayStand}
use Rattle.page_versions.specs.Fronts.{IsPlaced, PlacedMayStand}
use Rattle.disk_versions.specs.Ends.{page_of, pages_read, IsRead}
use Rattle.disk_versions.specs.Placing.{AreInSets, IsFirstInSets, AreSetsTold}
use Rattle.disk_versions.specs.Told.{page_sets, IsReadOf, IsBefore, AreAllPlaced, IsFirstUnplaced, IsTold}
use Rattle.disk_versions.specs.Ranged.{NoneUnplaced}
use Rattle.disk_versions.specs.declared.set.Placing.{Placing}
use Rattle.disk_versions.specs.declared.set.Placing.TheVariants as placing
use Rattle.disk_versions.proofs.Reading.{told_by}
use Rattle.disk_versions.proofs.Pages.{decide}

-- what is known of pages of zeros, and of pages that may stand
pub record IsKnown : Type 0 where
  pub header : (id : PageId) → header_of zeros id ≡ Ok empty_header
  pub bytes : (k : ℕ) → slice_index zeros k ≡ 0
  pub stand : PlacedMayStand

not_old : IsKnown → is_old zeros ≡ false
not_old k = ap (λ (n : ℕ). n == 1) (k.bytes version_at)

zeros_are_current : IsKnown → current zeros ≡ zeros
zeros_are_current k = ap (λ (o : Bool). cond o (renewed zeros) zeros) (not_old k)

zeros_stand : IsKnown → (logs : List Log) (id : PageId) → MayStand logs id zeros
zeros_stand k logs id = record {
  header = ap is_page (k.header id);
  version = record { first = []; rest = merged logs; whole = refl; bytes = zeros_are_current k };
  renewing = λ old. absurd (cc (not_old k, old));
}

-- ---- each page is read or isn't

le_of : (m n : ℕ) → nat_le m n ≡ true → m ≤ n
le_of m n h = grind (arith, nat_tests)

not_le : (m n : ℕ) → nat_le m n ≡ false → m ≤ n → ⊥
not_le m n h le = grind (arith, nat_tests)

lt_of : (m n : ℕ) → nat_lt m n ≡ true → m < n
lt_of m n h = grind (arith, nat_tests)

not_lt : (m n : ℕ) → nat_lt m n ≡ false → m < n → ⊥
not_lt m n h lt = grind (arith, nat_tests)

by_reading : (at : Images) (records : List LogRecord) (behind sets : ℕ) (id : PageId) (P : Type 0) → (IsRead at records behind sets id → P) → ((IsRead at records behind sets id → ⊥) → P) → P
by_reading at records behind sets id P f g =
    decide (nat_le 1 id.set) P
    (λ a. decide (nat_le id.set sets) P
    (λ b. decide (nat_lt id.number (pages_read at records behind id.set)) P
    (λ c. f (record { set_from = le_of 1 id.set a; set_to = le_of id.set sets b; number_in = lt_of id.number (pages_read at records behind id.set) c }))
    (λ c. g (λ r. not_lt id.number (pages_read at records behind id.set) c r.number_in)))
    (λ b. g (λ r. not_le id.set sets b r.set_to)))
    (λ a. g (λ r. not_le 1 id.set a r.set_from))

nothing_read : (set : ℕ) → 1 ≤ set → set ≤ 0 → ⊥
nothing_read set from to = omega (arith, from, to)

-- ---- what is told

pub all_told : IsKnown → (at : Images) (logs : List Log) (behind pages : ℕ) → AreInSets at (merged logs) (must_renew logs) behind page_sets pages → AreAllPlaced at logs behind pages
all_told k at logs behind pages h = record {
  versions = λ rest id.
      by_reading at (merged logs) behind page_sets id (MayStand logs id (at id))
      (λ r. (k.stand logs id (at id)).0 (h.each id r))
      (λ n. subst (λ (p : List ℕ). MayStand logs id p) (sym (rest id n)) (zeros_stand k logs id));
  read = λ id r. (k.stand logs id (at id)).0 (h.each id r);
  count = h.count;
}

abbrev IsPlacedAt : List Log → PageId → List ℕ → Type 0
IsPlacedAt logs id page = IsPlaced id (merged logs) (must_renew logs) page

before_in : (at : Images) (logs : List Log) (behind : ℕ) (id other : PageId) → IsFirstInSets at (merged logs) (must_renew logs) behind page_sets id → IsBefore other id → IsReadOf at logs behind other
    → IsPlacedAt logs other (at other)
before_in at logs behind id other h (inl less) r = h.sets_before other less r
before_in at logs behind id other h (inr same) r =
    subst (λ (s : ℕ). IsPlacedAt logs (page_of s other.number) (at (page_of s other.number))) (sym same.0) (h.before other.number same.1)

first_told : IsKnown → (at : Images) (logs : List Log) (behind : ℕ) (id : PageId) → IsFirstInSets at (merged logs) (must_renew logs) behind page_sets id → IsFirstUnplaced at logs behind id
first_told k at logs behind id h = record {
  wrong = λ m. h.wrong ((k.stand logs id (at id)).1 m);
  is_read = h.read;
  first = λ other less r. (k.stand logs other (at other)).0 (before_in at logs behind id other h less r);
}

pub is_told : IsKnown → (at : Images) (logs : List Log) (behind : ℕ) (found : Placing) → AreSetsTold at (merged logs) (must_renew logs) behind page_sets found → IsTold at logs behind found
is_told k at logs behind (placing.All pages) h = all_told k at logs behind pages h
is_told k at logs behind (placing.Unplaced id) h = first_told k at logs behind id h

pub none_unplaced : NoneUnplaced
none_unplaced at records renews behind = record { each = λ id r. absurd (nothing_read id.set r.set_from r.set_to); count = refl }
