-- The test of fronts is that of versions.
use Rattle.std.proofs.Common.{◌≡◌, ℕ, Bool, true, false, List, [], ◌∷◌, ◌++◌, Result, Ok, Err, IfOk, IsTrue, replicate, refl, sym, ap, ◌∙◌}
use Rattle.std.specs.Prelude.{◌↔◌, not, ◌||◌, ◌&&◌}
use Rattle.std.specs.Str.{bytes_eq}
use Rattle.std.proofs.lemmas.Slice.Eq.{bytes_eq-Decides}
use Rattle.ds_base.specs.declared.names.PageId.{PageId}
use Rattle.ds_model.specs.declared.log.LogRecord.{LogRecord}
use Rattle.log_record.specs.declared.log.Log.{Log}
use Rattle.index_leaf.specs.Changes.{zeros as zero_bytes}
use Rattle.page_format.specs.Fields.{page_size, is_old}
use Rattle.page_format.specs.Header.{header_of}
use Rattle.page_images.specs.Images.{zeros}
use Rattle.page_chain.specs.Chains.{after_record, version_from, version_of, IsVersion, touches, LeavesOthers}
use Rattle.sound_disk.specs.Given.{must_renew}
use Rattle.sound_disk.specs.Versions.{merged, is_page, current, MayStand}
use Rattle.page_versions.specs.Fronts.{is_later, is_from, has_header, IsPlaced}

decide : (b : Bool) (P : Type 0) → (b ≡ true → P) → (b ≡ false → P) → P
decide true P f g = f refl
decide false P f g = g refl

or_rest : (a b : Bool) → (a || b) ≡ true → a ≡ false → b ≡ true
or_rest true b h k = absurd cc
or_rest false b h k = h

or_first : (a b : Bool) → a ≡ true → (a || b) ≡ true
or_first true b h = refl
or_first false b h = absurd cc

or_second : (a b : Bool) → b ≡ true → (a || b) ≡ true
or_second true b h = refl
or_second false b h = h

same_bytes : (xs ys : List ℕ) → bytes_eq xs ys ≡ true → xs ≡ ys
same_bytes xs ys h = (bytes_eq-Decides xs ys).0 h

are_same : (xs ys : List ℕ) → xs ≡ ys → bytes_eq xs ys ≡ true
are_same xs ys h = (bytes_eq-Decides xs ys).1 h

-- ---- a record that doesn't change the page

pub passes : (id : PageId) (page image : List ℕ) (r : LogRecord) (rs : List LogRecord) → LeavesOthers → touches id r ≡ false → bytes_eq image page ≡ false
    → is_later id page image (r ∷ rs) ≡ is_later id page image rs
passes id page image r rs others e f =
    ap (λ (i : List ℕ). bytes_eq i page || is_later id page i rs) (others r id image e)
    ∙ ap (λ (b : Bool). b || is_later id page image rs) f

-- ---- a page that is found is a version

record IsLater (id : PageId) (page image : List ℕ) (records : List LogRecord) : Type 0 where
  first : List LogRecord
  rest : List LogRecord
  whole : records ≡ first ++ rest
  bytes : page ≡ version_from id image first

found_later : (id : PageId) (page image : List ℕ) (rs : List LogRecord) → is_later id page image rs ≡ true → IsLater id page image rs
found_later id page image [] h = absurd cc
found_later id page image (r ∷ rs) h =
    decide (bytes_eq (after_record id image r) page) _
    (λ e. record { first = r ∷ []; rest = rs; whole = refl; bytes = sym (same_bytes (after_record id image r) page e) })
    (λ e. let later = found_later id page (after_record id image r) rs (or_rest (bytes_eq (after_record id image r) page) _ h e) in
    record { first = r ∷ later.first; rest = later.rest; whole = ap (λ (l : List LogRecord). r ∷ l) later.whole; bytes = later.bytes })

found_version : (id : PageId) (page : List ℕ) (rs : List LogRecord) → is_from id page zeros rs ≡ true → IsVersion id rs page
found_version id page rs h =
    decide (bytes_eq zeros page) _
    (λ e. record { first = []; rest = rs; whole = refl; bytes = sym (same_bytes zeros page e) })
    (λ e. let later = found_later id page zeros rs (or_rest (bytes_eq zeros page) _ h e) in
    record { first = later.first; rest = later.rest; whole = later.whole; bytes = later.bytes })

-- ---- and each version is found

is_reached : (id : PageId) (page image : List ℕ) (r : LogRecord) (first rest : List LogRecord) → page ≡ version_from id image (r ∷ first) → is_later id page image ((r ∷ first) ++ rest) ≡ true
is_reached id page image r [] rest h = or_first (bytes_eq (after_record id image r) page) _ (are_same (after_record id image r) page (sym h))
is_reached id page image r (s ∷ first) rest h = or_second (bytes_eq (after_record id image r) page) _ (is_reached id page (after_record id image r) s first rest h)

front_of : (id : PageId) (page : List ℕ) (first rest : List LogRecord) → page ≡ version_of id first → is_from id page zeros (first ++ rest) ≡ true
front_of id page [] rest h = or_first (bytes_eq zeros page) _ (are_same zeros page (sym h))
front_of id page (r ∷ first) rest h = or_second (bytes_eq zeros page) _ (is_reached id page zeros r first rest h)

version_is : (id : PageId) (page : List ℕ) (rs : List LogRecord) → IsVersion id rs page → is_from id page zeros rs ≡ true
version_is id page rs v = ap (λ (l : List LogRecord). is_from id page zeros l) v.whole ∙ front_of id page v.first v.rest v.bytes

pub blank : (image : List ℕ) → image ≡ replicate page_size 0 → image ≡ zeros
unfolding zero_bytes
blank image h = h

pub told : (id : PageId) (page image : List ℕ) (rs : List LogRecord) (b : Bool) → image ≡ replicate page_size 0 → b ≡ is_from id page image rs → IsTrue b ↔ IsVersion id rs page
told id page image rs b z h =
    let e = h ∙ ap (λ (i : List ℕ). is_from id page i rs) (blank image z) in
    (λ t. found_version id page rs (sym e ∙ t), λ v. e ∙ version_is id page rs v)

-- ---- a page of the disk

and_left : (a b : Bool) → (a && b) ≡ true → a ≡ true
and_left true b h = refl
and_left false b h = h

and_right : (a b : Bool) → (a && b) ≡ true → b ≡ true
and_right true b h = h
and_right false b h = absurd cc

old_renews : (old renews : Bool) → (not old || renews) ≡ true → old ≡ true → renews ≡ true
old_renews true renews h k = h
old_renews false renews h k = absurd cc

may_be_old : (a old renews : Bool) → a ≡ true → (old ≡ true → renews ≡ true) → (a && (not old || renews)) ≡ true
may_be_old true true renews h k = k refl
may_be_old true false renews h k = refl
may_be_old false old renews h k = absurd cc

pub may_stand : (logs : List Log) (id : PageId) (page : List ℕ) → IsPlaced id (merged logs) (must_renew logs) page ↔ MayStand logs id page
may_stand logs id page = (
  (λ p. record {
    header = and_left (is_page (header_of page id)) (not (is_old page) || must_renew logs) p.header;
    version = p.version;
    renewing = old_renews (is_old page) (must_renew logs) (and_right (is_page (header_of page id)) (not (is_old page) || must_renew logs) p.header);
  }),
  (λ m. record { header = may_be_old (is_page (header_of page id)) (is_old page) (must_renew logs) m.header m.renewing; version = m.version }),
)

pub told_placed : {E : Type 0} (id : PageId) (page : List ℕ) (rs : List LogRecord) (renews : Bool) (result : Result Bool E) → has_header id renews page ≡ true
    → IfOk result (λ b. IsTrue b ↔ IsVersion id rs (current page)) → IfOk result (λ b. IsTrue b ↔ IsPlaced id rs renews page)
told_placed id page rs renews (Ok b) e h = (λ k. record { header = e; version = h.0 k }, λ p. h.1 p.version)
told_placed id page rs renews (Err x) e h = tt
