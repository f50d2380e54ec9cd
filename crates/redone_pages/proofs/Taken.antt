-- One record more.
use Rattle.std.proofs.Common.{◌≡◌, ℕ, zero, suc, List, [], ◌∷◌, ◌++◌, get_or, replicate, refl, sym, ap, subst, ◌∙◌}
use Rattle.ds_base.specs.declared.names.PageId.{PageId}
use Rattle.ds_model.specs.declared.log.LogRecord.{LogRecord}
use Rattle.page_images.specs.Images.{zeros}
use Rattle.page_chain.specs.Chains.{changes_of, after_record, version_from}
use Rattle.redone_pages.specs.declared.range.TableRange.{TableRange}
use Rattle.redone_pages.specs.Lasts.{last_in_patches, last_in_records, AreRaised}
use Rattle.redone_pages.specs.Held.{images_in, AreAfter}
use Rattle.redone_pages.specs.Redone.{AreRedone}

abbrev Entries : Type 0
Entries = List (PageId × List ℕ)

version_push : (id : PageId) (page : List ℕ) (rs : List LogRecord) (r : LogRecord) → after_record id (version_from id page rs) r ≡ version_from id page (rs ++ r ∷ [])
version_push id page [] r = refl
version_push id page (x ∷ rs) r = version_push id (after_record id page x) rs r

last_push : (s last : ℕ) (rs : List LogRecord) (r : LogRecord) → last_in_patches s (last_in_records s last rs) (changes_of r.body) ≡ last_in_records s last (rs ++ r ∷ [])
last_push s last [] r = refl
last_push s last (x ∷ rs) r = last_push s (last_in_patches s last (changes_of x.body)) rs r

pub redone_more : (range : TableRange) (es fs : Entries) (ls ms : List ℕ) (rs all : List LogRecord) (r : LogRecord) → AreRedone range es ls rs → AreAfter range r.lrsn (changes_of r.body) es fs → AreRaised (changes_of r.body) ls ms → all ≡ rs ++ r ∷ [] → AreRedone range fs ms all
redone_more range es fs ls ms rs all r so after raised is =
    subst (AreRedone range fs ms) (sym is) (record {
      images = λ id has. after id has ∙ ap (λ (page : List ℕ). after_record id page r) (so.images id has) ∙ version_push id zeros rs r;
      lasts_are = λ s. raised s ∙ ap (λ (n : ℕ). last_in_patches s n (changes_of r.body)) (so.lasts_are s) ∙ last_push s 0 rs r;
    })

none_in : (n s : ℕ) → get_or {A = ℕ} (replicate n 0) s 0 ≡ 0
none_in zero s = refl
none_in (suc n) zero = refl
none_in (suc n) (suc s) = none_in n s

pub none_redone : (range : TableRange) (es : Entries) (n : ℕ) (rs : List LogRecord) → es ≡ [] → rs ≡ [] → AreRedone range es (replicate n 0) rs
none_redone range es n rs none start =
    subst (AreRedone range es (replicate n 0)) (sym start) (record {
      images = λ id has. ap (λ (l : Entries). images_in l id) none;
      lasts_are = λ s. none_in n s;
    })
