-- Pages of a sound disk that are brought forward or renewed, and written.
use Rattle.std.proofs.Common.{◌≡◌, ℕ, ◌≤◌, Bool, true, false, List, [], ◌∷◌, ◌++◌, length, Result, Ok, refl, sym, ap, subst, ◌∙◌, inl, inr, arith}
use Rattle.std.specs.Prelude.{◌||◌, slice_index}
use Rattle.std.specs.List.{list_any, AllByRecursion}
use Rattle.std.proofs.lemmas.Bool.{both_ways, cases_Bool}
use Rattle.std.proofs.lemmas.List.{append-nil}
use Rattle.ds_base.specs.declared.names.PageId.{PageId}
use Rattle.ds_disk.specs.Contents.{Contents}
use Rattle.ds_disk.specs.Pages.{page_at}
use Rattle.ds_model.specs.RecordBytes.{IsAllowed}
use Rattle.ds_model.specs.declared.log.LogRecord.{LogRecord}
use Rattle.log_record.specs.declared.log.Log.{Log}
use Rattle.log_trans.specs.Numbers.{greatest}
use Rattle.log_merge.specs.Merging.{all_records}
use Rattle.page_chain.specs.Chains.{touches, version_of, IsVersion, AreRecords}
use Rattle.page_format.specs.Fields.{lrsn_of, is_old, renewed}
use Rattle.page_format.specs.Header.{header_of, empty_header}
use Rattle.page_format.specs.declared.header.Header.{Header}
use Rattle.page_format.specs.declared.header.NotAPage.{NotAPage}
use Rattle.page_images.specs.Images.{zeros}
use Rattle.page_redo.specs.Forward.{NeedsItsOwn}
use Rattle.sound_disk.specs.Laws.{AreMerged}
use Rattle.sound_disk.specs.Sound.{IsSoundWith}
use Rattle.sound_disk.specs.Versions.{is_page, merged, current, last_images, MayStand}
use Rattle.sound_restarts.specs.Redo.{IsSoundNow, IsLast, LastKeeps, RenewalKeeps, BringsForward}
use Rattle.sound_restarts.proofs.Stamped.{version_renewed}
use Rattle.sound_restarts.proofs.Versions.{last_bounded, version_rises, version_new}
use Rattle.sound_restarts.proofs.Renewed.{IsOldPage, renewed_number, renewed_new, whole_before}
use Rattle.sound_restarts.proofs.Brought.{BringingLaws, current_new, current_old, page_is_brought}
use Rattle.sound_restarts.proofs.Headers.{untouched, last_header}
use Rattle.sound_restarts.proofs.Numbers.{last_merged}
use Rattle.sound_restarts.proofs.Page_writes.{put_here, write_keeps}

-- what is proved of pages
pub record DiskLaws : Type 0 where
  pub bringing : BringingLaws
  pub merged : AreMerged
  pub own : NeedsItsOwn
  pub empty : (id : PageId) → header_of zeros id ≡ Ok empty_header
  pub zero_bytes : (k : ℕ) → slice_index zeros k ≡ 0

-- ---- the pages of a sound disk

pub records_are : DiskLaws → (c : Contents) (logs : List Log) → IsSoundWith c logs → AreRecords (merged logs)
records_are k c logs h = k.merged c.logs logs h.whole_logs h.transactions

each_front : (xs ys : List LogRecord) → AllByRecursion IsAllowed (xs ++ ys) → AllByRecursion IsAllowed xs
each_front [] ys h = tt
each_front (x ∷ xs) ys h = (h.0, each_front xs ys h.1)

-- in the version that is written it is as long as a page
current_whole : DiskLaws → (c : Contents) (logs : List Log) (id : PageId) → IsSoundWith c logs → length (current (page_at c.pages id)) ≡ 4096
current_whole k c logs id h =
    let v = (h.versions id).version in
    let are : AreRecords (v.first ++ v.rest) = subst AreRecords v.whole (records_are k c logs h) in
    ap (λ (p : List ℕ). length p) v.bytes ∙ (version_new k.bringing.versions v.first id (each_front v.first v.rest are.0)).whole

pub old_page : DiskLaws → (c : Contents) (logs : List Log) (id : PageId) → IsSoundNow c logs → is_old (page_at c.pages id) ≡ true → IsOldPage (page_at c.pages id)
old_page k c logs id h e = record {
  whole = whole_before (page_at c.pages id) e (ap (λ (p : List ℕ). length p) (sym (current_old (page_at c.pages id) e)) ∙ current_whole k c logs id h.sound);
  old = e;
  number = h.numbered id e;
}

-- and has the same number
same_number : DiskLaws → (c : Contents) (logs : List Log) (id : PageId) → IsSoundNow c logs → lrsn_of (page_at c.pages id) ≡ lrsn_of (current (page_at c.pages id))
same_number k c logs id h =
    elim (cases_Bool (is_old (page_at c.pages id))) as (λ _. lrsn_of (page_at c.pages id) ≡ lrsn_of (current (page_at c.pages id))) [
      | inl e ↦ sym (ap lrsn_of (current_old (page_at c.pages id) e) ∙ renewed_number k.bringing.renewal (page_at c.pages id) (old_page k c logs id h e))
      | inr e ↦ sym (ap lrsn_of (current_new (page_at c.pages id) e))
    ]

number_rises : DiskLaws → (c : Contents) (logs : List Log) (id : PageId) → IsSoundNow c logs → lrsn_of (page_at c.pages id) ≤ lrsn_of (last_images logs id)
number_rises k c logs id h =
    let v = (h.sound.versions id).version in
    let are : AreRecords (v.first ++ v.rest) = subst AreRecords v.whole (records_are k c logs h.sound) in
    let up = version_rises k.bringing.versions id v.first v.rest are in
    let one : lrsn_of (page_at c.pages id) ≡ lrsn_of (version_of id v.first) = same_number k c logs id h ∙ ap lrsn_of v.bytes in
    let two : lrsn_of (version_of id (v.first ++ v.rest)) ≡ lrsn_of (last_images logs id) = ap (λ (rs : List LogRecord). lrsn_of (version_of id rs)) (sym v.whole) in
    omega (arith, up, one, two)

-- no page has a greater number than the logs
pub last_within : DiskLaws → (c : Contents) (logs : List Log) (id : PageId) → IsSoundWith c logs → lrsn_of (last_images logs id) ≤ greatest (all_records logs)
last_within k c logs id h =
    let one = last_bounded k.bringing.versions id (merged logs) (records_are k c logs h) in
    let two = last_merged logs in
    omega (arith, one, two)

pub page_within : DiskLaws → (c : Contents) (logs : List Log) (id : PageId) → IsSoundNow c logs → lrsn_of (page_at c.pages id) ≤ greatest (all_records logs)
page_within k c logs id h =
    let one = number_rises k c logs id h in
    let two = last_within k c logs id h.sound in
    omega (arith, one, two)

pub last_new : DiskLaws → (c : Contents) (logs : List Log) (id : PageId) → IsSoundWith c logs → is_old (last_images logs id) ≡ false
last_new k c logs id h = (version_new k.bringing.versions (merged logs) id (records_are k c logs h).0).new

-- ---- bringing forward

pub brings_forward : DiskLaws → BringsForward
brings_forward k c logs id h =
    page_is_brought k.bringing id (page_at c.pages id) (merged logs) (records_are k c logs h.sound) h.sound.tables.befores (h.sound.versions id).header (h.sound.versions id).version (h.numbered id)

-- ---- writing

last_stands : DiskLaws → (c : Contents) (logs : List Log) (id : PageId) → IsSoundWith c logs → MayStand logs id (last_images logs id)
last_stands k c logs id h =
    let new = last_new k c logs id h in
    record {
      header = last_header k.bringing.versions.others k.empty (merged logs) id (records_are k c logs h).0 h.tables;
      version = record { first = merged logs; rest = []; whole = sym (append-nil (merged logs)); bytes = current_new (last_images logs id) new };
      renewing = λ old. absurd (both_ways (is_old (last_images logs id)) new old);
    }

pub last_keeps : DiskLaws → LastKeeps
last_keeps k c logs id h =
    let new = last_new k c logs id h.sound in (
      write_keeps c logs id (last_images logs id) h (last_stands k c logs id h.sound) new (number_rises k c logs id h),
      ap current (put_here c id (last_images logs id)) ∙ current_new (last_images logs id) new,
    )

pub renewal_keeps : DiskLaws → RenewalKeeps
renewal_keeps k c logs id h e =
    let page = page_at c.pages id in
    let old = old_page k c logs id h e in
    let new : is_old (renewed (page_at c.pages id)) ≡ false = renewed_new (page_at c.pages id) old.whole in
    let same : current (renewed (page_at c.pages id)) ≡ current (page_at c.pages id) = current_new (renewed (page_at c.pages id)) new ∙ sym (current_old (page_at c.pages id) e) in
    let number = renewed_number k.bringing.renewal (page_at c.pages id) old in
    write_keeps c logs id (renewed (page_at c.pages id)) h
    (record {
      header = ap (λ (x : Result Header NotAPage). is_page x) (k.bringing.renewal.header (page_at c.pages id) id old.whole old.old old.number) ∙ (h.sound.versions id).header;
      version = subst (IsVersion id (merged logs)) (sym same) (h.sound.versions id).version;
      renewing = λ o. absurd (both_ways (is_old (renewed (page_at c.pages id))) new o);
    })
    new (omega (arith, number))

-- ---- pages that no record changes

or_both : (a b d : Bool) → (a || d) ≡ false → (d ≡ false → b ≡ false) → (a || b) ≡ false
or_both true b d e f = e
or_both false b d e f = f e

none_first : (xs ys : List LogRecord) (id : PageId) → list_any (touches id) (xs ++ ys) ≡ false → list_any (touches id) xs ≡ false
none_first [] ys id e = refl
none_first (x ∷ xs) ys id e = or_both (touches id x) (list_any (touches id) xs) (list_any (touches id) (xs ++ ys)) e (none_first xs ys id)

new_if : DiskLaws → (c : Contents) (logs : List Log) (id : PageId) → IsSoundNow c logs → (b : Bool) → is_old (page_at c.pages id) ≡ b → current (page_at c.pages id) ≡ zeros → b ≡ false
new_if k c logs id h false e is = refl
new_if k c logs id h true e is =
    let old = old_page k c logs id h e in
    let two : 2 ≡ 0 = sym (version_renewed (page_at c.pages id) old.whole) ∙ ap (λ (p : List ℕ). slice_index p 5) (sym (current_old (page_at c.pages id) e) ∙ is) ∙ k.zero_bytes 5 in
    absurd (let none : ⊥ = omega (arith, two) in none)

-- such a page was never written
pub never_written : DiskLaws → (c : Contents) (logs : List Log) (id : PageId) → IsSoundNow c logs → list_any (touches id) (merged logs) ≡ false → IsLast c logs id × (is_old (page_at c.pages id) ≡ false)
never_written k c logs id h none =
    let v = (h.sound.versions id).version in
    let blank : version_of id v.first ≡ zeros = untouched k.bringing.versions.others v.first id zeros (none_first v.first v.rest id (ap (λ (rs : List LogRecord). list_any (touches id) rs) (sym v.whole) ∙ none)) in
    let is : current (page_at c.pages id) ≡ zeros = v.bytes ∙ blank in
    (is ∙ sym (untouched k.bringing.versions.others (merged logs) id zeros none), new_if k c logs id h (is_old (page_at c.pages id)) refl is)
