-- A page that is written leaves a sound disk where it may stand there, with no lower number than the page before.
use Rattle.std.proofs.Common.{◌≡◌, ℕ, ◌≤◌, Bool, true, false, cond, List, [], ◌∷◌, replicate, Option, Some, refl, sym, ap, subst, ◌∙◌, arith}
use Rattle.std.specs.Prelude.{◌||◌, ◌&&◌, ◌==◌, nat_lt, nat_le, not, unwrap_or}
use Rattle.std.specs.FinMap as finite
use Rattle.std.specs.FinMap.{get-insert}
use Rattle.std.specs.List.{list_all}
use Rattle.std.specs.Ordering.{nat_cmp, is_eq, eq_by_cmp, ordering_then}
use Rattle.std.specs.declared.cmp.Ordering.{Ordering}
use Rattle.std.specs.declared.cmp.Ordering.TheVariants.{Less, Equal, Greater}
use Rattle.std.proofs.lemmas.Bool.{and_parts, and_from, both_ways, leb-true, le-leb}
use Rattle.std.proofs.lemmas.Bool.Decides.{nat_tests}
use Rattle.ds_base.specs.Ids.{IsLrsn}
use Rattle.ds_base.specs.Pages.{same_page}
use Rattle.ds_base.specs.declared.names.PageId.{PageId}
use Rattle.ds_disk.specs.Contents.{Contents}
use Rattle.ds_disk.specs.Pages.{page_cmp, page_cmp_total, page_at}
use Rattle.ds_model.specs.declared.log.LogRecord.{LogRecord}
use Rattle.log_record.specs.declared.log.Log.{Log}
use Rattle.page_chain.specs.Chains.{changes_of}
use Rattle.page_format.specs.Fields.{lrsn_of, is_old}
use Rattle.page_format.specs.declared.patch.Patch.{Patch}
use Rattle.page_images.specs.Images.{Images}
use Rattle.sound_disk.specs.Checkpoints.{next_place, start_of, records_before, is_in_pages, changes_pages, is_done, AreCheckpointed}
use Rattle.sound_disk.specs.Settled.{has_ended}
use Rattle.sound_disk.specs.Sound.{IsSoundWith}
use Rattle.sound_disk.specs.Versions.{MayStand}
use Rattle.sound_restarts.specs.Redo.{with_page, WriteKeeps}

-- ---- the pages of the disk behind the write

tie : (m n : ℕ) → is_eq (nat_cmp m n) ≡ (n == m)
tie m n = grind (arith, nat_tests)

tie_then : (r s : Ordering) → is_eq (ordering_then r s) ≡ (is_eq r && is_eq s)
tie_then Less s = refl
tie_then Equal s = refl
tie_then Greater s = refl

same_by_order : (a b : PageId) → eq_by_cmp page_cmp a b ≡ same_page b a
same_by_order a b =
    tie_then (nat_cmp a.set b.set) (nat_cmp a.number b.number)
    ∙ ap (λ (x : Bool). x && is_eq (nat_cmp a.number b.number)) (tie a.set b.set)
    ∙ ap (λ (x : Bool). (b.set == a.set) && x) (tie a.number b.number)

pick : (b : Bool) (page rest : List ℕ) (o : Option (List ℕ)) → unwrap_or (cond b (Some page) o) rest ≡ cond b page (unwrap_or o rest)
pick true page rest o = refl
pick false page rest o = refl

pub put_at : (c : Contents) (id q : PageId) (page : List ℕ) → page_at (with_page c id page).pages q ≡ cond (same_page id q) page (page_at c.pages q)
put_at c id q page =
    ap (λ (o : Option (List ℕ)). unwrap_or o (replicate 4096 0)) (get-insert page_cmp_total c.pages id page q)
    ∙ pick (eq_by_cmp page_cmp q id) page (replicate 4096 0) (finite.get c.pages q)
    ∙ ap (λ (b : Bool). cond b page (page_at c.pages q)) (same_by_order q id)

pub same_name : (a b : PageId) → same_page a b ≡ true → a ≡ b
same_name a b h =
    let p : a.set ≡ b.set = grind arith in
    let q : a.number ≡ b.number = grind arith in
    λ i. record { set = p i; number = q i }

pub same_self : (id : PageId) → same_page id id ≡ true
same_self id = grind (arith, nat_tests)

pub put_here : (c : Contents) (id : PageId) (page : List ℕ) → page_at (with_page c id page).pages id ≡ page
put_here c id page = put_at c id id page ∙ ap (λ (b : Bool). cond b page (page_at c.pages id)) (same_self id)

-- by its name, what holds of the page that is written, and of all others
when_named : (P : PageId → List ℕ → Type 0) (c : Contents) (id q : PageId) (page : List ℕ) (b : Bool) → same_page id q ≡ b → P id page → (same_page id q ≡ false → P q (page_at c.pages q)) → P q (cond b page (page_at c.pages q))
when_named P c id q page true e here other = subst (λ (n : PageId). P n page) (same_name id q e) here
when_named P c id q page false e here other = other e

pub put_has : (P : PageId → List ℕ → Type 0) (c : Contents) (id q : PageId) (page : List ℕ) → P id page → (same_page id q ≡ false → P q (page_at c.pages q)) → P q (page_at (with_page c id page).pages q)
put_has P c id q page here other = subst (P q) (sym (put_at c id q page)) (when_named P c id q page (same_page id q) refl here other)

-- ---- what stands before a checkpoint

-- no page has a lower number than before
abbrev Rises : Images → Images → Type 0
Rises at new = (id : PageId) → lrsn_of (at id) ≤ lrsn_of (new id)

no_lower : (lrsn was is : ℕ) → was ≤ is → nat_le lrsn was ≡ true → nat_le lrsn is ≡ true
no_lower lrsn was is le h = let low = leb-true lrsn was h in le-leb lrsn is (omega (arith, low, le))

in_pages : (at new : Images) (lrsn : ℕ) (ps : List Patch) → Rises at new → list_all (λ (p : Patch). nat_le lrsn (lrsn_of (at p.page))) ps ≡ true → list_all (λ (p : Patch). nat_le lrsn (lrsn_of (new p.page))) ps ≡ true
in_pages at new lrsn [] rises h = refl
in_pages at new lrsn (p ∷ ps) rises h =
    let both = and_parts (nat_le lrsn (lrsn_of (at p.page))) (list_all (λ (q : Patch). nat_le lrsn (lrsn_of (at q.page))) ps) h in
    and_from (nat_le lrsn (lrsn_of (new p.page))) (list_all (λ (q : Patch). nat_le lrsn (lrsn_of (new q.page))) ps)
    (no_lower lrsn (lrsn_of (at p.page)) (lrsn_of (new p.page)) (rises p.page) both.0) (in_pages at new lrsn ps rises both.1)

or_on : (a b c : Bool) → (a || b) ≡ true → (b ≡ true → c ≡ true) → (a || c) ≡ true
or_on true b c h f = refl
or_on false b c h f = f h

still_done : (at new : Images) (records : List LogRecord) (r : LogRecord) → Rises at new → is_done at records r ≡ true → is_done new records r ≡ true
still_done at new records r rises h =
    let ended = (r.tran == 0) || has_ended records r.tran in
    or_on (not (changes_pages r)) (is_in_pages at r && ended) (is_in_pages new r && ended) h
    (λ both.
    let p = and_parts (is_in_pages at r) ended both in
    and_from (is_in_pages new r) ended (in_pages at new r.lrsn (changes_of r.body) rises p.0) p.1)

if_all : (f g : LogRecord → Bool) (b : Bool) (r : LogRecord) (rs : List LogRecord) → (f r ≡ true → g r ≡ true) → (list_all f rs ≡ true → list_all g rs ≡ true)
    → list_all f (cond b (r ∷ rs) []) ≡ true → list_all g (cond b (r ∷ rs) []) ≡ true
if_all f g true r rs one more h = let p = and_parts (f r) (list_all f rs) h in and_from (g r) (list_all g rs) (one p.0) (more p.1)
if_all f g false r rs one more h = refl

all_before : (f g : LogRecord → Bool) (upto place : ℕ) (rs : List LogRecord) → ((r : LogRecord) → f r ≡ true → g r ≡ true)
    → list_all f (records_before upto place rs) ≡ true → list_all g (records_before upto place rs) ≡ true
all_before f g upto place [] each h = refl
all_before f g upto place (r ∷ rs) each h = if_all f g (nat_lt place upto) r (records_before upto (next_place place r) rs) (each r) (all_before f g upto (next_place place r) rs each) h

still_checkpointed : (at new : Images) (logs : List Log) → Rises at new → AreCheckpointed at logs → AreCheckpointed new logs
still_checkpointed at new [] rises h = tt
still_checkpointed at new (l ∷ logs) rises h = (
  record {
    offsets = h.0.offsets;
    before = all_before (is_done at l.records) (is_done new l.records) (start_of l.records) 0 l.records (λ r. still_done at new l.records r rises) h.0.before;
  },
  still_checkpointed at new logs rises h.1,
)

-- ---- the disk

keeps_sound : (c : Contents) (logs : List Log) (id : PageId) (page : List ℕ) → IsSoundWith c logs → MayStand logs id page → lrsn_of (page_at c.pages id) ≤ lrsn_of page → IsSoundWith (with_page c id page) logs
keeps_sound c logs id page h may low = record {
  whole_logs = h.whole_logs;
  transactions = h.transactions;
  versions = λ q. put_has (MayStand logs) c id q page may (λ _. h.versions q);
  tables = h.tables;
  turns = h.turns;
  numbers = h.numbers;
  checkpoints =
      still_checkpointed (page_at c.pages) (page_at (with_page c id page).pages) logs
      (λ q. put_has (λ (n : PageId) (p : List ℕ). lrsn_of (page_at c.pages n) ≤ lrsn_of p) c id q page low (λ _. omega arith)) h.checkpoints;
}

abbrev IsNumbered : PageId → List ℕ → Type 0
IsNumbered id page = is_old page ≡ true → IsLrsn (lrsn_of page)

pub write_keeps : WriteKeeps
write_keeps c logs id page h may new low = record {
  sound = keeps_sound c logs id page h.sound may low;
  numbered = λ q. put_has IsNumbered c id q page (λ old. absurd (both_ways (is_old page) new old)) (λ _. h.numbered q);
}
