-- One call after another in a copy.
use Rattle.std.proofs.Common.{◌≡◌, ℕ, ◌+◌, ◌<◌, ◌≤◌, List, Option, None, Result, Ok, Err, sym, ap, subst, ◌∙◌, inl, inr, arith}
use Rattle.std.specs.Io.KnownBytes.{Appends}
use borrow.Author.Count.{below_more}
use Rattle.ds_base.specs.Pages.{heap_page, index_page}
use Rattle.ds_base.specs.declared.names.PageId.{PageId}
use Rattle.ds_base.specs.declared.names.Volume.{Volume}
use Rattle.ds_disk.specs.Contents.{Contents, WhenTold, Becomes, Same}
use Rattle.ds_disk.specs.Pages.{page_at}
use Rattle.table_image_text.specs.Pages.{page_fault, count_or_none}
use Rattle.table_image_text.specs.Image.{page_name, pages_bytes, head_bytes, heap_count, index_count, image_with, image_of}
use Rattle.table_copy.specs.Looking.{Looks, TakesFront, Gives}
use Rattle.table_copy.specs.Copying.{Around, Copies, IsPageFault, MayBeCopied, AreCopied, HasPageFault, CountsTo, IsCopied, IsWrong, CopiesTable}
use Rattle.table_copy.specs.declared.fault.CopyFault.{CopyFault}
use Rattle.table_copy.specs.declared.fault.CopyFault.TheVariants as fault
use Rattle.table_copy.proofs.Told.{same_self, same_on, told_before, told_always, told_by, told_by_both, rose_from, as_err}
use Rattle.table_copy.proofs.Fronts.{appends_none, appends_on, no_front, front_behind, no_pages, pages_more, front_of_pages}

abbrev pub around : Option Contents → ℕ → Option (List ℕ) → ℕ → Around
around contents disk_faults taken sink_faults = record { contents = contents; disk_faults = disk_faults; taken = taken; sink_faults = sink_faults }

-- ---- calls that end early

-- memory was wanting before anything was done
pub at_once : {T : Type 0} (a : Around) (text : Contents → List ℕ) (Is : T → Contents → Type 0) (Wrong : Volume → ℕ → Contents → Type 0) → Copies {T = T} a a text Is Wrong (Err fault.NoMemory)
at_once a text Is Wrong = record {
  ok = tt;
  front = told_always a.contents (λ (c : Contents). TakesFront a.taken a.taken (text c)) (λ c. no_front a.taken (text c));
  damaged = λ v at e. absurd cc;
  disk_failed = λ e. absurd cc;
  sink_failed = λ e. absurd cc;
  no_source = λ e. cc;
  no_image = λ at e. cc;
  same = same_self a.contents;
  disk_later = omega arith;
  sink_later = omega arith;
}

-- the disk was not read
pub not_read : {T U : Type 0} (d0 d1 : Option Contents) (f0 f1 : ℕ) (t : Option (List ℕ)) (s : ℕ) (text : Contents → List ℕ) (Is : T → Contents → Type 0) (Was : U → Contents → Type 0)
    (Bad Wrong : Volume → ℕ → Contents → Type 0) (e : CopyFault)
    → ((v : Volume) (at : ℕ) (c : Contents) → Bad v at c → Wrong v at c)
    → Looks {T = U} d0 d1 f0 f1 Was Bad (Err e) → Copies {T = T} (around d0 f0 t s) (around d1 f1 t s) text Is Wrong (Err e)
not_read d0 d1 f0 f1 t s text Is Was Bad Wrong e turns h = record {
  ok = tt;
  front = told_always d0 (λ (c : Contents). TakesFront t t (text c)) (λ c. no_front t (text c));
  damaged = λ v at is. told_by d0 (Bad v at) (Wrong v at) (turns v at) (h.damaged v at (as_err e (fault.Damaged v at) is));
  disk_failed = λ is. h.failed (as_err e fault.Disk is);
  sink_failed = λ is. absurd (h.no_sink (as_err e fault.Sink is));
  no_source = λ is. h.no_source (as_err e fault.Source is);
  no_image = λ at is. h.no_image at (as_err e (fault.Image at) is);
  same = h.same;
  disk_later = h.later;
  sink_later = omega arith;
}

-- the sink has not taken all
pub not_given : {T : Type 0} (d : Option Contents) (f : ℕ) (t0 t1 : Option (List ℕ)) (s0 s1 : ℕ) (piece : List ℕ) (text : Contents → List ℕ) (Is : T → Contents → Type 0)
    (Wrong : Volume → ℕ → Contents → Type 0) (e : CopyFault)
    → WhenTold d (λ c. TakesFront t0 t1 piece → TakesFront t0 t1 (text c))
    → Gives t0 t1 s0 s1 piece (Err e) → Copies {T = T} (around d f t0 s0) (around d f t1 s1) text Is Wrong (Err e)
not_given d f t0 t1 s0 s1 piece text Is Wrong e turns h = record {
  ok = tt;
  front = told_by d (λ (c : Contents). TakesFront t0 t1 piece → TakesFront t0 t1 (text c)) (λ (c : Contents). TakesFront t0 t1 (text c)) (λ c on. on h.front) turns;
  damaged = λ v at is. absurd (elim (h.only (fault.Damaged v at) (as_err e (fault.Damaged v at) is)) [ inl x ↦ cc | inr y ↦ cc ]);
  disk_failed = λ is. absurd (elim (h.only fault.Disk (as_err e fault.Disk is)) [ inl x ↦ cc | inr y ↦ cc ]);
  sink_failed = λ is. h.failed (as_err e fault.Sink is);
  no_source = λ is. elim (h.only fault.Source (as_err e fault.Source is)) [ inl x ↦ cc | inr y ↦ cc ];
  no_image = λ at is. elim (h.only (fault.Image at) (as_err e (fault.Image at) is)) [ inl x ↦ cc | inr y ↦ cc ];
  same = same_self d;
  disk_later = omega arith;
  sink_later = h.later;
}

-- ---- calls behind others

-- the disk was read before, and stayed as it was
pub read_before : {T : Type 0} (d0 d1 d2 : Option Contents) (f0 f1 f2 : ℕ) (Is : T → Contents → Type 0) (Wrong : Volume → ℕ → Contents → Type 0) (r : Result T CopyFault)
    → Becomes d0 d1 Same → f0 ≤ f1 → Looks d1 d2 f1 f2 Is Wrong r → Looks d0 d2 f0 f2 Is Wrong r
read_before d0 d1 d2 f0 f1 f2 Is Wrong (Ok x) same le h = record {
  ok = told_before d0 d1 (Is x) same h.ok;
  damaged = λ v at is. told_before d0 d1 (Wrong v at) same (h.damaged v at is);
  failed = λ is. rose_from f0 f1 f2 le (h.failed is);
  no_source = h.no_source;
  no_sink = h.no_sink;
  no_image = h.no_image;
  same = same_on d0 d1 d2 same h.same;
  later = omega (arith, le, h.later);
}
read_before d0 d1 d2 f0 f1 f2 Is Wrong (Err e) same le h = record {
  ok = tt;
  damaged = λ v at is. told_before d0 d1 (Wrong v at) same (h.damaged v at is);
  failed = λ is. rose_from f0 f1 f2 le (h.failed is);
  no_source = h.no_source;
  no_sink = h.no_sink;
  no_image = h.no_image;
  same = same_on d0 d1 d2 same h.same;
  later = omega (arith, le, h.later);
}

-- one thing of the disk and then one behind all that the sink had taken, where what was known of the disk says how the texts go together
pub copied_behind : {T U : Type 0} (d0 d1 d2 : Option Contents) (f0 f1 f2 : ℕ) (t0 t1 t2 : Option (List ℕ)) (s0 s1 s2 : ℕ) (Known : Contents → Type 0)
    (piece text : Contents → List ℕ) (Was : U → Contents → Type 0) (Is : T → Contents → Type 0) (Bad Wrong : Volume → ℕ → Contents → Type 0) (e : CopyFault)
    → Becomes d0 d1 Same → f0 ≤ f1 → s0 ≤ s1 → WhenTold d0 Known
    → ((c : Contents) → Known c → TakesFront t1 t2 (piece c) → TakesFront t0 t2 (text c))
    → ((v : Volume) (at : ℕ) (c : Contents) → Known c → Bad v at c → Wrong v at c)
    → Copies {T = U} (around d1 f1 t1 s1) (around d2 f2 t2 s2) piece Was Bad (Err e) → Copies {T = T} (around d0 f0 t0 s0) (around d2 f2 t2 s2) text Is Wrong (Err e)
copied_behind d0 d1 d2 f0 f1 f2 t0 t1 t2 s0 s1 s2 Known piece text Was Is Bad Wrong e same disk_le sink_le known on turns h = record {
  ok = tt;
  front = told_by_both d0 Known (λ (c : Contents). TakesFront t1 t2 (piece c)) (λ (c : Contents). TakesFront t0 t2 (text c)) on known (told_before d0 d1 (λ (c : Contents). TakesFront t1 t2 (piece c)) same h.front);
  damaged = λ v at is. told_by_both d0 Known (Bad v at) (Wrong v at) (turns v at) known (told_before d0 d1 (Bad v at) same (h.damaged v at (as_err e (fault.Damaged v at) is)));
  disk_failed = λ is. rose_from f0 f1 f2 disk_le (h.disk_failed (as_err e fault.Disk is));
  sink_failed = λ is. rose_from s0 s1 s2 sink_le (h.sink_failed (as_err e fault.Sink is));
  no_source = λ is. h.no_source (as_err e fault.Source is);
  no_image = λ at is. h.no_image at (as_err e (fault.Image at) is);
  same = same_on d0 d1 d2 same h.same;
  disk_later = omega (arith, disk_le, h.disk_later);
  sink_later = omega (arith, sink_le, h.sink_later);
}

-- ---- a page

pub page_given : (d0 d1 : Option Contents) (f0 f1 : ℕ) (t0 t1 : Option (List ℕ)) (s0 s1 : ℕ) (id : PageId) (page : List ℕ)
    → Looks {T = Unit {0}} d0 d1 f0 f1 (λ _ c. (page ≡ page_at c.pages id) × (page_fault id page ≡ None)) (λ v at c. IsPageFault (page_at c.pages) id v at) (Ok tt)
    → (r : Result (Unit {0}) CopyFault) → Gives t0 t1 s0 s1 page r
    → Copies (around d0 f0 t0 s0) (around d1 f1 t1 s1) (λ c. page_at c.pages id) (λ _ c. MayBeCopied (page_at c.pages) id) (λ v at c. IsPageFault (page_at c.pages) id v at) r
page_given d0 d1 f0 f1 t0 t1 s0 s1 id page h (Ok u) k = record {
  ok = told_by d0 (λ (c : Contents). (page ≡ page_at c.pages id) × (page_fault id page ≡ None)) (λ (c : Contents). MayBeCopied (page_at c.pages) id × Appends t0 t1 (page_at c.pages id))
      (λ c p. (subst (λ (b : List ℕ). page_fault id b ≡ None) p.0 p.1, subst (λ (b : List ℕ). Appends t0 t1 b) p.0 k.ok)) h.ok;
  front = tt;
  damaged = λ v at is. absurd cc;
  disk_failed = λ is. absurd cc;
  sink_failed = λ is. absurd cc;
  no_source = λ is. cc;
  no_image = λ at is. cc;
  same = h.same;
  disk_later = h.later;
  sink_later = k.later;
}
page_given d0 d1 f0 f1 t0 t1 s0 s1 id page h (Err e) k = record {
  ok = tt;
  front = told_by d0 (λ (c : Contents). (page ≡ page_at c.pages id) × (page_fault id page ≡ None)) (λ (c : Contents). TakesFront t0 t1 (page_at c.pages id))
      (λ c p. subst (λ (b : List ℕ). TakesFront t0 t1 b) p.0 k.front) h.ok;
  damaged = λ v at is. absurd (elim (k.only (fault.Damaged v at) is) [ inl x ↦ cc | inr y ↦ cc ]);
  disk_failed = λ is. absurd (elim (k.only fault.Disk is) [ inl x ↦ cc | inr y ↦ cc ]);
  sink_failed = k.failed;
  no_source = λ is. elim (k.only fault.Source is) [ inl x ↦ cc | inr y ↦ cc ];
  no_image = λ at is. elim (k.only (fault.Image at) is) [ inl x ↦ cc | inr y ↦ cc ];
  same = h.same;
  disk_later = h.later;
  sink_later = k.later;
}

-- ---- pages

-- the first so many pages were copied
abbrev pub AreGiven : Option (List ℕ) → Option (List ℕ) → ℕ → ℕ → ℕ → Contents → Type 0
AreGiven t0 t1 table heap n c = AreCopied (page_at c.pages) table heap n × Appends t0 t1 (pages_bytes (page_at c.pages) table heap n)

pub none_given : (d : Option Contents) (t : Option (List ℕ)) (table heap : ℕ) → WhenTold d (AreGiven t t table heap 0)
none_given d t table heap =
    told_always d (AreGiven t t table heap 0)
    (λ c. (λ n less. absurd (omega (arith, less)), subst (λ (l : List ℕ). Appends t t l) (sym (no_pages (page_at c.pages) table heap)) (appends_none t)))

pub one_given : (d0 d1 d2 : Option Contents) (f1 f2 : ℕ) (t0 t1 t2 : Option (List ℕ)) (s1 s2 table heap n : ℕ) (id : PageId) → Becomes d0 d1 Same → id ≡ page_name table heap n
    → WhenTold d0 (AreGiven t0 t1 table heap n)
    → Copies {T = Unit {0}} (around d1 f1 t1 s1) (around d2 f2 t2 s2) (λ c. page_at c.pages id) (λ _ c. MayBeCopied (page_at c.pages) id) (λ v at c. IsPageFault (page_at c.pages) id v at) (Ok tt)
    → WhenTold d0 (AreGiven t0 t2 table heap (n + 1))
one_given d0 d1 d2 f1 f2 t0 t1 t2 s1 s2 table heap n id same is h k =
    told_by_both d0 (AreGiven t0 t1 table heap n) (λ (c : Contents). MayBeCopied (page_at c.pages) id × Appends t1 t2 (page_at c.pages id)) (AreGiven t0 t2 table heap (n + 1))
    (λ c a b. (
      below_more (λ (m : ℕ). MayBeCopied (page_at c.pages) (page_name table heap m)) n a.0 (subst (λ (p : PageId). MayBeCopied (page_at c.pages) p) is b.0),
      subst (λ (l : List ℕ). Appends t0 t2 l) (sym (pages_more (page_at c.pages) table heap n))
          (appends_on t0 t1 t2 (pages_bytes (page_at c.pages) table heap n) (page_at c.pages (page_name table heap n)) a.1 (subst (λ (p : PageId). Appends t1 t2 (page_at c.pages p)) is b.1)),
    ))
    h (told_before d0 d1 (λ (c : Contents). MayBeCopied (page_at c.pages) id × Appends t1 t2 (page_at c.pages id)) same k.ok)

pub page_missed : (d0 d1 d2 : Option Contents) (f0 f1 f2 : ℕ) (t0 t1 t2 : Option (List ℕ)) (s0 s1 s2 table heap n count : ℕ) (id : PageId) (e : CopyFault)
    → Becomes d0 d1 Same → f0 ≤ f1 → s0 ≤ s1 → n < count → id ≡ page_name table heap n
    → WhenTold d0 (AreGiven t0 t1 table heap n)
    → Copies {T = Unit {0}} (around d1 f1 t1 s1) (around d2 f2 t2 s2) (λ c. page_at c.pages id) (λ _ c. MayBeCopied (page_at c.pages) id) (λ v at c. IsPageFault (page_at c.pages) id v at) (Err e)
    → Copies {T = Unit {0}} (around d0 f0 t0 s0) (around d2 f2 t2 s2) (λ c. pages_bytes (page_at c.pages) table heap count) (λ _ c. AreCopied (page_at c.pages) table heap count)
    (λ v at c. HasPageFault (page_at c.pages) table heap count v at) (Err e)
page_missed d0 d1 d2 f0 f1 f2 t0 t1 t2 s0 s1 s2 table heap n count id e same disk_le sink_le less is h k =
    copied_behind {T = Unit {0}} {U = Unit {0}} d0 d1 d2 f0 f1 f2 t0 t1 t2 s0 s1 s2 (AreGiven t0 t1 table heap n) (λ (c : Contents). page_at c.pages id) (λ (c : Contents). pages_bytes (page_at c.pages) table heap count)
    (λ (u : Unit {0}) (c : Contents). MayBeCopied (page_at c.pages) id) (λ (u : Unit {0}) (c : Contents). AreCopied (page_at c.pages) table heap count)
    (λ (v : Volume) (at : ℕ) (c : Contents). IsPageFault (page_at c.pages) id v at) (λ (v : Volume) (at : ℕ) (c : Contents). HasPageFault (page_at c.pages) table heap count v at) e same disk_le sink_le h
    (λ c a b. front_of_pages t0 t1 t2 (page_at c.pages) table heap n count less a.1 (subst (λ (p : PageId). TakesFront t1 t2 (page_at c.pages p)) is b))
    (λ v at c a b. record { n = n; below = less; is = subst (λ (p : PageId). IsPageFault (page_at c.pages) p v at) is b })
    k

pub all_given : (d0 d1 : Option Contents) (f0 f1 : ℕ) (t0 t1 : Option (List ℕ)) (s0 s1 table heap n count : ℕ) → n ≡ count → Becomes d0 d1 Same → f0 ≤ f1 → s0 ≤ s1
    → WhenTold d0 (AreGiven t0 t1 table heap n)
    → Copies {T = Unit {0}} (around d0 f0 t0 s0) (around d1 f1 t1 s1) (λ c. pages_bytes (page_at c.pages) table heap count) (λ _ c. AreCopied (page_at c.pages) table heap count)
    (λ v at c. HasPageFault (page_at c.pages) table heap count v at) (Ok tt)
all_given d0 d1 f0 f1 t0 t1 s0 s1 table heap n count is same disk_le sink_le h = record {
  ok = subst (λ (m : ℕ). WhenTold d0 (AreGiven t0 t1 table heap m)) is h;
  front = tt;
  damaged = λ v at e. absurd cc;
  disk_failed = λ e. absurd cc;
  sink_failed = λ e. absurd cc;
  no_source = λ e. cc;
  no_image = λ at e. cc;
  same = same;
  disk_later = disk_le;
  sink_later = sink_le;
}

-- ---- an image

pub head_given : (d0 d1 : Option Contents) (f0 f1 : ℕ) (t0 t1 t2 : Option (List ℕ)) (s0 s1 s2 table lrsn heap index count : ℕ) → count ≡ heap + index → s0 ≤ s1
    → Appends t0 t1 (head_bytes table lrsn heap index)
    → Copies {T = Unit {0}} (around d0 f0 t1 s1) (around d1 f1 t2 s2) (λ c. pages_bytes (page_at c.pages) table heap count) (λ _ c. AreCopied (page_at c.pages) table heap count)
    (λ v at c. HasPageFault (page_at c.pages) table heap count v at) (Ok tt)
    → Copies {T = ℕ} (around d0 f0 t0 s0) (around d1 f1 t2 s2) (λ c. image_with (page_at c.pages) table lrsn heap index)
    (λ n c. (n ≡ heap + index) × AreCopied (page_at c.pages) table heap n) (λ v at c. HasPageFault (page_at c.pages) table heap (heap + index) v at) (Ok count)
head_given d0 d1 f0 f1 t0 t1 t2 s0 s1 s2 table lrsn heap index count is sink_le h k = record {
  ok = told_by d0 (λ (c : Contents). AreCopied (page_at c.pages) table heap count × Appends t1 t2 (pages_bytes (page_at c.pages) table heap count))
      (λ (c : Contents). ((count ≡ heap + index) × AreCopied (page_at c.pages) table heap count) × Appends t0 t2 (image_with (page_at c.pages) table lrsn heap index))
      (λ c b. (
        (is, b.0),
        appends_on t0 t1 t2 (head_bytes table lrsn heap index) (pages_bytes (page_at c.pages) table heap (heap + index)) h
            (subst (λ (m : ℕ). Appends t1 t2 (pages_bytes (page_at c.pages) table heap m)) is b.1),
      ))
      k.ok;
  front = tt;
  damaged = λ v at e. absurd cc;
  disk_failed = λ e. absurd cc;
  sink_failed = λ e. absurd cc;
  no_source = λ e. cc;
  no_image = λ at e. cc;
  same = k.same;
  disk_later = k.disk_later;
  sink_later = omega (arith, sink_le, k.sink_later);
}

pub pages_missed : (d0 d1 : Option Contents) (f0 f1 : ℕ) (t0 t1 t2 : Option (List ℕ)) (s0 s1 s2 table lrsn heap index count : ℕ) (e : CopyFault) → count ≡ heap + index → s0 ≤ s1
    → Appends t0 t1 (head_bytes table lrsn heap index)
    → Copies {T = Unit {0}} (around d0 f0 t1 s1) (around d1 f1 t2 s2) (λ c. pages_bytes (page_at c.pages) table heap count) (λ _ c. AreCopied (page_at c.pages) table heap count)
    (λ v at c. HasPageFault (page_at c.pages) table heap count v at) (Err e)
    → Copies {T = ℕ} (around d0 f0 t0 s0) (around d1 f1 t2 s2) (λ c. image_with (page_at c.pages) table lrsn heap index)
    (λ n c. (n ≡ heap + index) × AreCopied (page_at c.pages) table heap n) (λ v at c. HasPageFault (page_at c.pages) table heap (heap + index) v at) (Err e)
pages_missed d0 d1 f0 f1 t0 t1 t2 s0 s1 s2 table lrsn heap index count e is sink_le h k =
    copied_behind {T = ℕ} {U = Unit {0}} d0 d0 d1 f0 f0 f1 t0 t1 t2 s0 s1 s2 (λ (c : Contents). Unit {0}) (λ (c : Contents). pages_bytes (page_at c.pages) table heap count) (λ (c : Contents). image_with (page_at c.pages) table lrsn heap index)
    (λ (u : Unit {0}) (c : Contents). AreCopied (page_at c.pages) table heap count) (λ (n : ℕ) (c : Contents). (n ≡ heap + index) × AreCopied (page_at c.pages) table heap n)
    (λ (v : Volume) (at : ℕ) (c : Contents). HasPageFault (page_at c.pages) table heap count v at) (λ (v : Volume) (at : ℕ) (c : Contents). HasPageFault (page_at c.pages) table heap (heap + index) v at) e
    (same_self d0) (omega arith) sink_le (told_always d0 (λ (c : Contents). Unit {0}) (λ c. tt))
    (λ c u b. front_behind t0 t1 t2 (head_bytes table lrsn heap index) (pages_bytes (page_at c.pages) table heap (heap + index)) h (subst (λ (m : ℕ). TakesFront t1 t2 (pages_bytes (page_at c.pages) table heap m)) is b))
    (λ v at c u b. subst (λ (m : ℕ). HasPageFault (page_at c.pages) table heap m v at) is b)
    k

-- ---- a table

-- the header pages count these
abbrev pub Counts : ℕ → ℕ → ℕ → Contents → Type 0
Counts table heap index c = CountsTo (page_at c.pages) (heap_page table 0) heap × CountsTo (page_at c.pages) (index_page table 0) index

pub both_counted : (d0 d1 : Option Contents) (table heap index : ℕ) → Becomes d0 d1 Same → WhenTold d0 (λ c. CountsTo (page_at c.pages) (heap_page table 0) heap)
    → WhenTold d1 (λ c. CountsTo (page_at c.pages) (index_page table 0) index) → WhenTold d0 (Counts table heap index)
both_counted d0 d1 table heap index same h k =
    told_by_both d0 (λ (c : Contents). CountsTo (page_at c.pages) (heap_page table 0) heap) (λ (c : Contents). CountsTo (page_at c.pages) (index_page table 0) index) (Counts table heap index)
    (λ c a b. (a, b)) h (told_before d0 d1 (λ (c : Contents). CountsTo (page_at c.pages) (index_page table 0) index) same k)

counted_heap : (table heap index : ℕ) (c : Contents) → Counts table heap index c → heap ≡ heap_count (page_at c.pages) table
counted_heap table heap index c h = sym (ap count_or_none h.0)

counted_index : (table heap index : ℕ) (c : Contents) → Counts table heap index c → index ≡ index_count (page_at c.pages) table
counted_index table heap index c h = sym (ap count_or_none h.1)

same_image : (table lrsn heap index : ℕ) (c : Contents) → Counts table heap index c → image_with (page_at c.pages) table lrsn heap index ≡ image_of (page_at c.pages) table lrsn
same_image table lrsn heap index c h =
    ap (λ (m : ℕ). image_with (page_at c.pages) table lrsn m index) (counted_heap table heap index c h)
    ∙ ap (λ (m : ℕ). image_with (page_at c.pages) table lrsn (heap_count (page_at c.pages) table) m) (counted_index table heap index c h)

same_wrong : (table heap index : ℕ) (v : Volume) (at : ℕ) (c : Contents) → Counts table heap index c → HasPageFault (page_at c.pages) table heap (heap + index) v at → IsWrong (page_at c.pages) table v at
same_wrong table heap index v at c h k =
    inr (subst (λ (m : ℕ). HasPageFault (page_at c.pages) table m (m + index_count (page_at c.pages) table) v at) (counted_heap table heap index c h)
    (subst (λ (m : ℕ). HasPageFault (page_at c.pages) table heap (heap + m) v at) (counted_index table heap index c h) k))

same_copied : (table heap index count : ℕ) (c : Contents) → Counts table heap index c → (count ≡ heap + index) × AreCopied (page_at c.pages) table heap count → IsCopied (page_at c.pages) table count
same_copied table heap index count c h k = record {
  heap = subst (λ (m : ℕ). CountsTo (page_at c.pages) (heap_page table 0) m) (counted_heap table heap index c h) h.0;
  index = subst (λ (m : ℕ). CountsTo (page_at c.pages) (index_page table 0) m) (counted_index table heap index c h) h.1;
  each = subst (λ (m : ℕ). AreCopied (page_at c.pages) table m count) (counted_heap table heap index c h) k.1;
  count_is = k.0 ∙ ap (λ (m : ℕ). m + index) (counted_heap table heap index c h) ∙ ap (λ (m : ℕ). heap_count (page_at c.pages) table + m) (counted_index table heap index c h);
}

pub table_given : (d0 d1 d2 : Option Contents) (f0 f1 f2 : ℕ) (t0 t1 : Option (List ℕ)) (s0 s1 table lrsn heap index : ℕ) (r : Result ℕ CopyFault)
    → Becomes d0 d1 Same → f0 ≤ f1 → WhenTold d0 (Counts table heap index)
    → Copies {T = ℕ} (around d1 f1 t0 s0) (around d2 f2 t1 s1) (λ c. image_with (page_at c.pages) table lrsn heap index)
    (λ n c. (n ≡ heap + index) × AreCopied (page_at c.pages) table heap n) (λ v at c. HasPageFault (page_at c.pages) table heap (heap + index) v at) r
    → CopiesTable table lrsn (around d0 f0 t0 s0) (around d2 f2 t1 s1) r
table_given d0 d1 d2 f0 f1 f2 t0 t1 s0 s1 table lrsn heap index (Ok count) same le known k = record {
  ok = told_by_both d0 (Counts table heap index)
      (λ (c : Contents). ((count ≡ heap + index) × AreCopied (page_at c.pages) table heap count) × Appends t0 t1 (image_with (page_at c.pages) table lrsn heap index))
      (λ (c : Contents). IsCopied (page_at c.pages) table count × Appends t0 t1 (image_of (page_at c.pages) table lrsn))
      (λ c a b. (same_copied table heap index count c a b.0, subst (λ (l : List ℕ). Appends t0 t1 l) (same_image table lrsn heap index c a) b.1))
      known
      (told_before d0 d1 (λ (c : Contents). ((count ≡ heap + index) × AreCopied (page_at c.pages) table heap count) × Appends t0 t1 (image_with (page_at c.pages) table lrsn heap index)) same k.ok);
  front = tt;
  damaged = λ v at e. absurd cc;
  disk_failed = λ e. absurd cc;
  sink_failed = λ e. absurd cc;
  no_source = λ e. cc;
  no_image = λ at e. cc;
  same = same_on d0 d1 d2 same k.same;
  disk_later = omega (arith, le, k.disk_later);
  sink_later = k.sink_later;
}
table_given d0 d1 d2 f0 f1 f2 t0 t1 s0 s1 table lrsn heap index (Err e) same le known k =
    copied_behind {T = ℕ} {U = ℕ} d0 d1 d2 f0 f1 f2 t0 t0 t1 s0 s0 s1 (Counts table heap index) (λ (c : Contents). image_with (page_at c.pages) table lrsn heap index) (λ (c : Contents). image_of (page_at c.pages) table lrsn)
    (λ (n : ℕ) (c : Contents). (n ≡ heap + index) × AreCopied (page_at c.pages) table heap n) (λ (n : ℕ) (c : Contents). IsCopied (page_at c.pages) table n)
    (λ (v : Volume) (at : ℕ) (c : Contents). HasPageFault (page_at c.pages) table heap (heap + index) v at) (λ (v : Volume) (at : ℕ) (c : Contents). IsWrong (page_at c.pages) table v at) e
    same le (omega arith) known
    (λ c a b. subst (λ (l : List ℕ). TakesFront t0 t1 l) (same_image table lrsn heap index c a) b)
    (λ v at c a b. same_wrong table heap index v at c a b)
    k

pub counted_at : (d : Option Contents) (id other : PageId) (count : ℕ) → id ≡ other → WhenTold d (λ c. CountsTo (page_at c.pages) id count) → WhenTold d (λ c. CountsTo (page_at c.pages) other count)
counted_at d id other count is h = subst (λ (p : PageId). WhenTold d (λ (c : Contents). CountsTo (page_at c.pages) p count)) is h
