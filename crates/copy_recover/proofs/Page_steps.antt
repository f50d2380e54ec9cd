-- Pages that are written one after the other.
use Rattle.std.proofs.Common.{◌≡◌, ℕ, ◌+◌, ◌≤◌, Bool, true, false, cond, List, [], ◌∷◌, ◌++◌, Option, Some, Result, Ok, Err, refl, sym, ap, subst, ◌∙◌, inl, inr, arith}
use Rattle.std.specs.Prelude.{◌⊎◌, ◌||◌, ◌&&◌, ◌==◌, not, unwrap_or, replicate}
use Rattle.std.specs.List.{count_by}
use Rattle.std.specs.FinMap as map
use Rattle.std.specs.FinMap.{get-insert}
use Rattle.std.specs.Ordering.{nat_cmp, is_eq, eq_by_cmp, ordering_then}
use Rattle.std.specs.declared.cmp.Ordering.{Ordering}
use Rattle.std.specs.declared.cmp.Ordering.TheVariants.{Less, Equal, Greater}
use Rattle.std.proofs.lemmas.Bool.Decides.{nat_tests}
use Rattle.std.proofs.lemmas.List.Sums.{sum_by-append}
use Rattle.ds_base.specs.Pages.{same_page}
use Rattle.ds_base.specs.declared.names.PageId.{PageId}
use Rattle.ds_base.specs.declared.names.Volume.TheVariants as volume
use Rattle.ds_base.specs.Causes.{Rose}
use Rattle.ds_disk.specs.Contents.{Contents, Becomes, Same}
use Rattle.ds_disk.specs.Pages.{page_at, page_cmp, page_cmp_total}
use Rattle.ds_model.specs.declared.log.LogRecord.{LogRecord}
use Rattle.page_format.specs.Header.{is_zeros}
use Rattle.page_images.specs.Images.{Images}
use Rattle.page_redo.specs.Forward.{Forward}
use Rattle.page_redo.specs.Pages.{has_page}
use Rattle.page_redo.specs.declared.fault.FieldFault.{FieldFault}
use Rattle.table_copy.specs.declared.fault.CopyFault.{CopyFault}
use Rattle.table_copy.specs.declared.fault.CopyFault.TheVariants as fault
use Rattle.table_copy.proofs.Told.{as_err}
use Rattle.copy_recover.specs.Recovered.{recovered, with_written, is_some_page, count_of, IsOk}
use Rattle.copy_recover.specs.Writing.{with_page, IsPut, MayBePut, Puts, WritesPage, AreWritten, AreBegun, AreOk, Writes}
use Rattle.copy_recover.proofs.Told.{rose_from, goes_self, goes_by, goes_on}
use Rattle.copy_recover.proofs.Name_lists.{decide, either, second_of_both, same_name, has_both, has_first, has_one, has_itself, is_itself}

-- ---- a page that is put

tie : (m n : ℕ) → is_eq (nat_cmp m n) ≡ (n == m)
tie m n = grind (arith, nat_tests)

tie_then : (r s : Ordering) → is_eq (ordering_then r s) ≡ (is_eq r && is_eq s)
tie_then Less s = refl
tie_then Equal s = refl
tie_then Greater s = refl

same_by_order : (a b : PageId) → eq_by_cmp page_cmp a b ≡ same_page b a
same_by_order a b =
    tie_then (nat_cmp a.set b.set) (nat_cmp a.number b.number)
    ∙ ap (λ (x : Bool). x && is_eq (nat_cmp a.number b.number)) (tie a.set b.set)
    ∙ ap (λ (x : Bool). (b.set == a.set) && x) (tie a.number b.number)

pick : (b : Bool) (page rest : List ℕ) (o : Option (List ℕ)) → unwrap_or (cond b (Some page) o) rest ≡ cond b page (unwrap_or o rest)
pick true page rest o = refl
pick false page rest o = refl

put_at : (id q : PageId) (page : List ℕ) (c : Contents) → page_at (with_page id page c).pages q ≡ cond (same_page id q) page (page_at c.pages q)
put_at id q page c =
    ap (λ (o : Option (List ℕ)). unwrap_or o (replicate 4096 0)) (get-insert page_cmp_total c.pages id page q)
    ∙ pick (eq_by_cmp page_cmp q id) page (replicate 4096 0) (map.get c.pages q)
    ∙ ap (λ (b : Bool). cond b page (page_at c.pages q)) (same_by_order q id)

-- ---- pages that are written, as functions

written_at : (image : List ℕ) (table : ℕ) (records : List LogRecord) (names : List PageId) (at : Images) (q : PageId)
    → with_written image table records names at q ≡ cond (has_page names q) (recovered image table records q).page (at q)
unfolding with_written
written_at image table records names at q = refl

written_none : (image : List ℕ) (table : ℕ) (records : List LogRecord) (c : Contents) → AreWritten image table records [] c c
written_none image table records c = record { logs_stay = refl; pages_are = λ q. sym (written_at image table records [] (page_at c.pages) q) }

chosen : (a b : Bool) (x y : List ℕ) → cond b x (cond a x y) ≡ cond (a || b) x y
chosen true true x y = refl
chosen true false x y = refl
chosen false true x y = refl
chosen false false x y = refl

written_both : (image : List ℕ) (table : ℕ) (records : List LogRecord) (a b : List PageId) (c d e : Contents) → AreWritten image table records a c d → AreWritten image table records b d e
    → AreWritten image table records (a ++ b) c e
written_both image table records a b c d e h k = record {
  logs_stay = k.logs_stay ∙ h.logs_stay;
  pages_are = λ q.
      k.pages_are q
      ∙ written_at image table records b (page_at d.pages) q
      ∙ ap (λ (l : List ℕ). cond (has_page b q) (recovered image table records q).page l) (h.pages_are q ∙ written_at image table records a (page_at c.pages) q)
      ∙ chosen (has_page a q) (has_page b q) (recovered image table records q).page (page_at c.pages q)
      ∙ ap (λ (x : Bool). cond x (recovered image table records q).page (page_at c.pages q)) (sym (has_both a b q))
      ∙ sym (written_at image table records (a ++ b) (page_at c.pages) q);
}

written_one : (image : List ℕ) (table : ℕ) (records : List LogRecord) (id : PageId) (c d : Contents) → IsPut id (recovered image table records id).page c d → AreWritten image table records (id ∷ []) c d
written_one image table records id c d h = record {
  logs_stay = ap (λ (x : Contents). x.logs) h;
  pages_are = λ q.
      ap (λ (x : Contents). page_at x.pages q) h
      ∙ put_at id q (recovered image table records id).page c
      ∙ decide (same_page id q) (cond (same_page id q) (recovered image table records id).page (page_at c.pages q) ≡ cond (same_page id q) (recovered image table records q).page (page_at c.pages q))
      (λ s. ap (λ (p : PageId). cond (same_page id q) (recovered image table records p).page (page_at c.pages q)) (same_name id q s))
      (λ s. ap (λ (b : Bool). cond b (recovered image table records id).page (page_at c.pages q)) s ∙ sym (ap (λ (b : Bool). cond b (recovered image table records q).page (page_at c.pages q)) s))
      ∙ ap (λ (b : Bool). cond b (recovered image table records q).page (page_at c.pages q)) (sym (has_one id q))
      ∙ sym (written_at image table records (id ∷ []) (page_at c.pages) q);
}

-- ---- pages that may be written

begun_of : (image : List ℕ) (table : ℕ) (records : List LogRecord) (names : List PageId) (c d : Contents) → AreWritten image table records names c d → AreBegun image table records names c d
begun_of image table records names c d h = record {
  logs_stay = h.logs_stay;
  each = λ q.
      let is = h.pages_are q ∙ written_at image table records names (page_at c.pages) q in
      decide (has_page names q) _
      (λ s. inr (s, is ∙ ap (λ (b : Bool). cond b (recovered image table records q).page (page_at c.pages q)) s))
      (λ s. inl (is ∙ ap (λ (b : Bool). cond b (recovered image table records q).page (page_at c.pages q)) s));
}

pub begun_none : (image : List ℕ) (table : ℕ) (records : List LogRecord) (names : List PageId) (c : Contents) → AreBegun image table records names c c
begun_none image table records names c = record { logs_stay = refl; each = λ q. inl refl }

begun_both : (image : List ℕ) (table : ℕ) (records : List LogRecord) (a b : List PageId) (c d e : Contents) → AreWritten image table records a c d → AreBegun image table records b d e
    → AreBegun image table records (a ++ b) c e
begun_both image table records a b c d e h k = record {
  logs_stay = k.logs_stay ∙ h.logs_stay;
  each = λ q.
      elim (k.each q) [
        | inl same ↦
            elim ((begun_of image table records a c d h).each q) [
              | inl was ↦ inl (same ∙ was)
              | inr new ↦ inr (has_first a b q new.0, same ∙ new.1)
            ]
        | inr new ↦ inr (has_both a b q ∙ second_of_both (has_page a q) (has_page b q) new.0, new.1)
      ];
}

begun_one : (image : List ℕ) (table : ℕ) (records : List LogRecord) (id : PageId) (c d : Contents) → MayBePut id (recovered image table records id).page c d → AreBegun image table records (id ∷ []) c d
begun_one image table records id c d (inl same) = record { logs_stay = ap (λ (x : Contents). x.logs) same; each = λ q. inl (ap (λ (x : Contents). page_at x.pages q) same) }
begun_one image table records id c d (inr put) = begun_of image table records (id ∷ []) c d (written_one image table records id c d put)

begun_wider : (image : List ℕ) (table : ℕ) (records : List LogRecord) (a b : List PageId) (c d : Contents) → ((q : PageId) → has_page a q ≡ true → has_page b q ≡ true)
    → AreBegun image table records a c d → AreBegun image table records b c d
begun_wider image table records a b c d f h = record {
  logs_stay = h.logs_stay;
  each = λ q. elim (h.each q) [ inl was ↦ inl was | inr new ↦ inr (f q new.0, new.1) ];
}

-- ---- calls

-- so many of the pages that were written, and of all their fields none is in the way
pub record Done (image : List ℕ) (table : ℕ) (records : List LogRecord) (names : List PageId) (count : ℕ) (before after : Option Contents) (faults faults_now : ℕ) : Type 0 where
  pub written : Becomes before after (AreWritten image table records names)
  pub ok : AreOk image table records names
  pub counted : count ≡ count_of image table records names
  pub later : faults ≤ faults_now

count_none : (image : List ℕ) (table : ℕ) (records : List LogRecord) → count_of image table records [] ≡ 0
unfolding count_of
count_none image table records = refl

counts_both : (p : PageId → Bool) (a b : List PageId) → count_by p (a ++ b) ≡ count_by p a + count_by p b
counts_both p a b = sum_by-append (λ (x : PageId). cond (p x) 1 0) a b

count_both : (image : List ℕ) (table : ℕ) (records : List LogRecord) (a b : List PageId) → count_of image table records (a ++ b) ≡ count_of image table records a + count_of image table records b
unfolding count_of
count_both image table records a b = counts_both (is_some_page image table records) a b

count_one : (image : List ℕ) (table : ℕ) (records : List LogRecord) (id : PageId) (b : Bool) → b ≡ not (is_zeros (recovered image table records id).page) → cond b 1 0 ≡ count_of image table records (id ∷ [])
unfolding count_of
count_one image table records id b h =
    ap (λ (x : Bool). cond x 1 0) h ∙ (let e : cond (is_some_page image table records id) 1 0 ≡ 0 + cond (is_some_page image table records id) 1 0 = omega arith in e)

pub done_none : (image : List ℕ) (table : ℕ) (records : List LogRecord) (d : Option Contents) (f : ℕ) → Done image table records [] 0 d d f f
done_none image table records d f = record {
  written = goes_self d (AreWritten image table records []) (λ c. written_none image table records c);
  ok = λ q h. absurd cc;
  counted = sym (count_none image table records);
  later = omega arith;
}

pub done_both : (image : List ℕ) (table : ℕ) (records : List LogRecord) (a b : List PageId) (m n : ℕ) (d0 d1 d2 : Option Contents) (f0 f1 f2 : ℕ)
    → Done image table records a m d0 d1 f0 f1 → Done image table records b n d1 d2 f1 f2 → Done image table records (a ++ b) (m + n) d0 d2 f0 f2
done_both image table records a b m n d0 d1 d2 f0 f1 f2 h k = record {
  written = goes_on d0 d1 d2 (AreWritten image table records a) (AreWritten image table records b) (AreWritten image table records (a ++ b))
      (λ x y z p q. written_both image table records a b x y z p q) h.written k.written;
  ok = λ q t. either (has_page a q) (has_page b q) (IsOk (recovered image table records q).outcome) (sym (has_both a b q) ∙ t) (λ s. h.ok q s) (λ s. k.ok q s);
  counted = ap (λ (x : ℕ). x + n) h.counted ∙ ap (λ (x : ℕ). count_of image table records a + x) k.counted ∙ sym (count_both image table records a b);
  later = omega (arith, h.later, k.later);
}

pub done_one : (image : List ℕ) (table : ℕ) (records : List LogRecord) (id : PageId) (b : Bool) (d0 d1 : Option Contents) (f0 f1 : ℕ)
    → WritesPage d0 d1 f0 f1 id (recovered image table records id) (Ok b) → Done image table records (id ∷ []) (cond b 1 0) d0 d1 f0 f1
done_one image table records id b d0 d1 f0 f1 h = record {
  written = goes_by d0 d1 (IsPut id (recovered image table records id).page) (AreWritten image table records (id ∷ [])) (λ x y p. written_one image table records id x y p) h.ok.0;
  ok = λ q s. subst (λ (p : PageId). IsOk (recovered image table records p).outcome) (sym (is_itself id q s)) h.ok.1;
  counted = count_one image table records id b h.ok.2;
  later = h.later;
}

-- all were written
pub all_done : (image : List ℕ) (table : ℕ) (records : List LogRecord) (names : List PageId) (count : ℕ) (d0 d1 : Option Contents) (f0 f1 : ℕ)
    → Done image table records names count d0 d1 f0 f1 → Writes d0 d1 f0 f1 image table records names (Ok count)
all_done image table records names count d0 d1 f0 f1 h = record {
  ok = (h.written, h.ok, h.counted);
  damaged = λ v at e. absurd cc;
  failed = λ e. absurd cc;
  no_source = λ e. cc;
  no_sink = λ e. cc;
  no_image = λ at e. cc;
  begun = tt;
  later = h.later;
}

-- memory was wanting behind some of them
pub wanting : (image : List ℕ) (table : ℕ) (records : List LogRecord) (a names : List PageId) (count : ℕ) (d0 d1 : Option Contents) (f0 f1 : ℕ)
    → ((q : PageId) → has_page a q ≡ true → has_page names q ≡ true)
    → Done image table records a count d0 d1 f0 f1 → Writes d0 d1 f0 f1 image table records names (Err fault.NoMemory)
wanting image table records a names count d0 d1 f0 f1 f h = record {
  ok = tt;
  damaged = λ v at e. absurd cc;
  failed = λ e. absurd cc;
  no_source = λ e. cc;
  no_sink = λ e. cc;
  no_image = λ at e. cc;
  begun = goes_by d0 d1 (AreWritten image table records a) (AreBegun image table records names) (λ x y p. begun_wider image table records a names x y f (begun_of image table records a x y p)) h.written;
  later = h.later;
}

-- a page wasn't written
pub one_missed : (image : List ℕ) (table : ℕ) (records : List LogRecord) (id : PageId) (e : CopyFault) (d0 d1 : Option Contents) (f0 f1 : ℕ)
    → WritesPage d0 d1 f0 f1 id (recovered image table records id) (Err e) → Writes d0 d1 f0 f1 image table records (id ∷ []) (Err e)
one_missed image table records id e d0 d1 f0 f1 h = record {
  ok = tt;
  damaged = λ v at is. let found = h.damaged v at (as_err e (fault.Damaged v at) is) in record { page = id; names_it = found.0; written = has_itself id; meets = found.1 };
  failed = λ is. h.failed (as_err e fault.Disk is);
  no_source = λ is. h.no_source (as_err e fault.Source is);
  no_sink = λ is. h.no_sink (as_err e fault.Sink is);
  no_image = λ at is. h.no_image at (as_err e (fault.Image at) is);
  begun = goes_by d0 d1 (MayBePut id (recovered image table records id).page) (AreBegun image table records (id ∷ [])) (λ x y p. begun_one image table records id x y p) h.begun;
  later = h.later;
}

-- others were written before, and these are among more
pub missed_behind : (image : List ℕ) (table : ℕ) (records : List LogRecord) (a b names : List PageId) (count : ℕ) (e : CopyFault) (d0 d1 d2 : Option Contents) (f0 f1 f2 : ℕ)
    → ((q : PageId) → has_page (a ++ b) q ≡ true → has_page names q ≡ true)
    → Done image table records a count d0 d1 f0 f1 → Writes d1 d2 f1 f2 image table records b (Err e) → Writes d0 d2 f0 f2 image table records names (Err e)
missed_behind image table records a b names count e d0 d1 d2 f0 f1 f2 f h k = record {
  ok = tt;
  damaged = λ v at is.
      let found = k.damaged v at is in
      record { page = found.page; names_it = found.names_it; written = f found.page (has_both a b found.page ∙ second_of_both (has_page a found.page) (has_page b found.page) found.written); meets = found.meets };
  failed = λ is. rose_from f0 f1 f2 h.later (k.failed is);
  no_source = k.no_source;
  no_sink = k.no_sink;
  no_image = k.no_image;
  begun = goes_on d0 d1 d2 (AreWritten image table records a) (AreBegun image table records b) (AreBegun image table records names)
      (λ x y z p q. begun_wider image table records (a ++ b) names x z f (begun_both image table records a b x y z p q)) h.written k.begun;
  later = omega (arith, h.later, k.later);
}

-- ---- one page

pub put_failed : (d0 d1 : Option Contents) (was now : Bool) (id : PageId) (page : List ℕ)
    → ((now ≡ was) × Becomes d0 d1 Same) ⊎ ((now ≡ false) × Becomes d0 d1 (MayBePut id page)) → Becomes d0 d1 (MayBePut id page)
put_failed d0 d1 was now id page (inl h) = goes_by d0 d1 Same (MayBePut id page) (λ x y p. inl p) h.1
put_failed d0 d1 was now id page (inr h) = h.1

pub put_wanting : (d0 d1 : Option Contents) (id : PageId) (page : List ℕ) → Becomes d0 d1 Same → Becomes d0 d1 (MayBePut id page)
put_wanting d0 d1 id page h = goes_by d0 d1 Same (MayBePut id page) (λ x y p. inl p) h

abbrev at_byte : ℕ → FieldFault
at_byte k = record { at = k }

-- a field is in the way
pub page_damaged : (id : PageId) (forward : Forward) (field : FieldFault) (d : Option Contents) (f : ℕ) → forward.outcome ≡ Err field → WritesPage d d f f id forward (Err (fault.Damaged (volume.Page id) field.at))
page_damaged id forward field d f h = record {
  ok = tt;
  damaged = λ v at is.
      let same_volume : volume.Page id ≡ v = cc in
      let same_place : field.at ≡ at = cc in
      (sym same_volume, h ∙ ap (λ (k : ℕ). Err (at_byte k)) same_place);
  failed = λ is. absurd cc;
  no_source = λ is. cc;
  no_sink = λ is. cc;
  no_image = λ k is. cc;
  begun = goes_self d (MayBePut id forward.page) (λ c. inl refl);
  later = omega arith;
}

outcome_ok : (o : Result Bool FieldFault) (raised : Bool) → o ≡ Ok raised → IsOk o
outcome_ok (Ok b) raised h = tt
outcome_ok (Err f) raised h = absurd cc

-- the page was written
pub page_put : (id : PageId) (forward : Forward) (page : List ℕ) (raised is_some : Bool) (d0 d1 : Option Contents) (f0 f1 : ℕ) → forward.outcome ≡ Ok raised → page ≡ forward.page → is_some ≡ not (is_zeros page)
    → Puts d0 d1 f0 f1 id page (Ok tt) → WritesPage d0 d1 f0 f1 id forward (Ok is_some)
page_put id forward page raised is_some d0 d1 f0 f1 ok is some h = record {
  ok = (
    subst (λ (p : List ℕ). Becomes d0 d1 (IsPut id p)) is h.ok,
    outcome_ok forward.outcome raised ok,
    some ∙ ap (λ (p : List ℕ). not (is_zeros p)) is,
  );
  damaged = λ v at e. absurd cc;
  failed = λ e. absurd cc;
  no_source = λ e. cc;
  no_sink = λ e. cc;
  no_image = λ at e. cc;
  begun = tt;
  later = h.later;
}

by_disk : (f0 f1 : ℕ) (f : CopyFault) → ((f ≡ fault.Disk) × Rose f0 f1) ⊎ (f ≡ fault.NoMemory) → f ≡ fault.Disk → Rose f0 f1
by_disk f0 f1 f (inl h) is = h.1
by_disk f0 f1 f (inr h) is = absurd cc

-- or it may have been
pub page_not_put : (id : PageId) (forward : Forward) (page : List ℕ) (d0 d1 : Option Contents) (f0 f1 : ℕ) (e : CopyFault) → page ≡ forward.page → Puts d0 d1 f0 f1 id page (Err e) → WritesPage d0 d1 f0 f1 id forward (Err e)
page_not_put id forward page d0 d1 f0 f1 e is h = record {
  ok = tt;
  damaged = λ v at x. absurd (elim (h.only (fault.Damaged v at) (as_err e (fault.Damaged v at) x)) [ inl p ↦ (let q = p.0 in cc) | inr q ↦ cc ]);
  failed = λ x. by_disk f0 f1 fault.Disk (h.only fault.Disk (as_err e fault.Disk x)) refl;
  no_source = λ x. elim (h.only fault.Source (as_err e fault.Source x)) [ inl p ↦ (let q = p.0 in cc) | inr q ↦ cc ];
  no_sink = λ x. elim (h.only fault.Sink (as_err e fault.Sink x)) [ inl p ↦ (let q = p.0 in cc) | inr q ↦ cc ];
  no_image = λ at x. elim (h.only (fault.Image at) (as_err e (fault.Image at) x)) [ inl p ↦ (let q = p.0 in cc) | inr q ↦ cc ];
  begun = subst (λ (p : List ℕ). Becomes d0 d1 (MayBePut id p)) is h.begun;
  later = h.later;
}

-- memory was wanting before anything was done
pub page_wanting : (id : PageId) (forward : Forward) (d : Option Contents) (f : ℕ) → WritesPage d d f f id forward (Err fault.NoMemory)
page_wanting id forward d f = record {
  ok = tt;
  damaged = λ v at e. absurd cc;
  failed = λ e. absurd cc;
  no_source = λ e. cc;
  no_sink = λ e. cc;
  no_image = λ at e. cc;
  begun = goes_self d (MayBePut id forward.page) (λ c. inl refl);
  later = omega arith;
}
