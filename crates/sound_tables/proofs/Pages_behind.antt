-- The pages behind a compensation.
use Rattle.std.proofs.Common.{◌≡◌, ℕ, ◌^◌, ◌<◌, ◌≤◌, Bool, true, false, cond, List, [], ◌∷◌, ◌++◌, length, refl, ap, ◌∙◌, arith}
use Rattle.std.specs.Prelude.{◌==◌}
use Rattle.std.specs.List.{list_any, AllByRecursion}
use Rattle.std.proofs.lemmas.Bool.{eq-eqb, both_ways, or_from}
use Rattle.ds_base.specs.Pages.{same_page, heap_page, index_page}
use Rattle.ds_base.specs.declared.names.PageId.{PageId}
use Rattle.ds_model.specs.declared.log.LogRecord.{LogRecord}
use Rattle.ds_model.specs.declared.log.RowChange.{RowChange}
use Rattle.ds_model.specs.declared.log.Body.{Body}
use Rattle.ds_model.specs.declared.log.Body.TheVariants as body
use Rattle.ds_model.specs.declared.log.Version.{Version}
use Rattle.ds_model.specs.declared.log.Version.TheVariants as version
use Rattle.ds_model.specs.RecordBytes.{IsAllowed, IsNumber, PatchIsAllowed, ChangeIsAllowed, BodyIsAllowed}
use Rattle.page_images.specs.Images.{zeros, after_change}
use Rattle.page_format.specs.declared.patch.Patch.{Patch}
use Rattle.heap_space.specs.Written.{after_patch, written}
use Rattle.page_images.specs.Parts.{Lies}
use Rattle.page_chain.specs.Chains.{row_patch, changes_of, touches, after_record, version_from, images_of, GrowsByRecords}
use Rattle.sound_disk.specs.Laws.{AreMerged}
use Rattle.sound_appends.specs.Laws.{StandsBehind}
use Rattle.sound_tables.proofs.Patched.{image_length, PageLaws, IsPatched, behind}
use Rattle.sound_tables.proofs.Kept_tables.{IsBehind}

-- what is known of page names, of patches and of images of slots
pub record Known : Type 0 where
  pub merged : AreMerged
  pub behind : StandsBehind
  pub grows : GrowsByRecords
  pub page : PageLaws
  pub blank : length zeros ≡ 4096
  pub heaps : (t u m n : ℕ) → 1 ≤ t → 1 ≤ u → (t ≡ u → ⊥) → same_page (heap_page t m) (heap_page u n) ≡ false
  pub numbers : (t m n : ℕ) → same_page (heap_page t m) (heap_page t n) ≡ (m == n)
  pub indexes : (t u m n : ℕ) → 1 ≤ t → same_page (heap_page t m) (index_page u n) ≡ false

-- ---- pages are whole

row_lies : (page : List ℕ) (c : RowChange) → ChangeIsAllowed c → length page ≡ 4096 → Lies page (row_patch c)
row_lies page c allowed whole = record { whole = whole; within = omega (arith, image_length c.key c.after allowed.after_is, allowed.slot_in) }

-- each patch lies in a page
abbrev AreIn : List Patch → Type 0
AreIn ps = (page : List ℕ) → length page ≡ 4096 → AllByRecursion (λ (p : Patch). Lies page p) ps

all_in : (ps : List Patch) → AllByRecursion PatchIsAllowed ps → AreIn ps
all_in [] h = λ page whole. tt
all_in (p ∷ ps) h = λ page whole. (record { whole = whole; within = h.0.within }, all_in ps h.1 page whole)

body_in : (v : Version) (b : Body) → BodyIsAllowed v b → AreIn (changes_of b)
body_in v (body.RowChange c) h = λ page whole. (row_lies page c h whole, tt)
body_in v (body.Compensation c n) h = λ page whole. (row_lies page c h.0 whole, tt)
body_in v (body.System patches) h = all_in patches h.each
body_in v body.Commit h = λ page whole. tt
body_in v body.Ended h = λ page whole. tt
body_in v (body.Checkpoint offset) h = λ page whole. tt
body_in v body.RestartEnd h = λ page whole. tt

rest_in : (p : Patch) (ps : List Patch) → AreIn (p ∷ ps) → AreIn ps
rest_in p ps h = λ page whole. (h page whole).1

whole_if : PageLaws → (b : Bool) (lrsn : ℕ) (page : List ℕ) (p : Patch) → Lies page p → length page ≡ 4096 → length (cond b (after_patch lrsn page p) page) ≡ 4096
whole_if l true lrsn page p h whole = l.whole lrsn page p h
whole_if l false lrsn page p h whole = whole

written_whole : PageLaws → (id : PageId) (lrsn : ℕ) (ps : List Patch) (page : List ℕ) → AreIn ps → length page ≡ 4096 → length (written id lrsn ps page) ≡ 4096
written_whole l id lrsn [] page h whole = whole
written_whole l id lrsn (p ∷ ps) page h whole =
    written_whole l id lrsn ps (cond (same_page p.page id) (after_patch lrsn page p) page) (rest_in p ps h) (whole_if l (same_page p.page id) lrsn page p (h page whole).0 whole)

versions_whole : PageLaws → (id : PageId) (rs : List LogRecord) (page : List ℕ) → AllByRecursion IsAllowed rs → length page ≡ 4096 → length (version_from id page rs) ≡ 4096
versions_whole l id [] page allowed whole = whole
versions_whole l id (r ∷ rs) page allowed whole =
    versions_whole l id rs (after_record id page r) allowed.1 (written_whole l id r.lrsn (changes_of r.body) page (body_in r.version r.body allowed.0.body_is) whole)

number_in : (v : Version) (n : ℕ) → IsNumber v n → n < 2 ^ 80
number_in version.One n h = omega (arith, h)
number_in version.Two n h = h

-- ---- the pages behind a compensation

image_is : Known → (rs : List LogRecord) (r : LogRecord) (c : RowChange) (id : PageId) → changes_of r.body ≡ row_patch c ∷ []
    → images_of (rs ++ r ∷ []) id ≡ cond (same_page (heap_page c.table c.place.page) id) (behind (images_of rs id) c r.lrsn) (images_of rs id)
image_is k rs r c id is = k.grows rs r id ∙ ap (λ (ps : List Patch). after_change r.lrsn ps (images_of rs) id) is

stays_if : (b : Bool) (x y : List ℕ) → b ≡ false → cond b x y ≡ y
stays_if true x y h = absurd cc
stays_if false x y h = refl

-- the page has a number, and its bytes are those of a page
patched_is : Known → (rs : List LogRecord) (r : LogRecord) (c : RowChange) (id : PageId) → AllByRecursion IsAllowed rs → IsAllowed r → ChangeIsAllowed c → 1 ≤ r.lrsn → IsPatched (images_of rs id) c r.lrsn
patched_is k rs r c id all allowed change low = record {
  whole = versions_whole k.page id rs zeros all k.blank;
  allowed = change;
  low = low;
  high = number_in r.version r.lrsn allowed.lrsn_in;
}

pub is_behind : Known → (rs : List LogRecord) (r : LogRecord) (c : RowChange) → changes_of r.body ≡ row_patch c ∷ [] → AllByRecursion IsAllowed rs → IsAllowed r → ChangeIsAllowed c → 1 ≤ r.lrsn
    → IsBehind (images_of rs) (images_of (rs ++ r ∷ [])) c r.lrsn
is_behind k rs r c is all allowed change low =
    let own = heap_page c.table c.place.page in
    let image = λ (id : PageId). image_is k rs r c id is in
    record {
      here = image own ∙ ap (λ (b : Bool). cond b (behind (images_of rs own) c r.lrsn) (images_of rs own)) (k.numbers c.table c.place.page c.place.page ∙ eq-eqb c.place.page c.place.page refl);
      patched = patched_is k rs r c own all allowed change low;
      pages = λ q other. image (heap_page c.table q) ∙ stays_if (same_page own (heap_page c.table q)) (behind (images_of rs (heap_page c.table q)) c r.lrsn) (images_of rs (heap_page c.table q)) (k.numbers c.table c.place.page q ∙ other);
      tables = λ t some other q.
          image (heap_page t q)
          ∙ stays_if (same_page own (heap_page t q)) (behind (images_of rs (heap_page t q)) c r.lrsn) (images_of rs (heap_page t q))
          (k.heaps c.table t c.place.page q change.table_in.0 some (λ e. both_ways (c.table == t) other (eq-eqb c.table t e)));
      indexes = λ t m.
          image (index_page t m)
          ∙ stays_if (same_page own (index_page t m)) (behind (images_of rs (index_page t m)) c r.lrsn) (images_of rs (index_page t m)) (k.indexes c.table t c.place.page m change.table_in.0);
    }

pub no_index : Known → (r : LogRecord) (c : RowChange) (n t m : ℕ) → r.body ≡ body.Compensation c n → ChangeIsAllowed c → touches (index_page t m) r ≡ false
no_index k r c n t m is change =
    ap (λ (b : Body). list_any (λ (p : Patch). same_page p.page (index_page t m)) (changes_of b)) is
    ∙ or_from (same_page (heap_page c.table c.place.page) (index_page t m)) false (k.indexes c.table t c.place.page m change.table_in.0) refl
