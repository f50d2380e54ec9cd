-- How the number of a page rises with the records that change it.
use Rattle.std.proofs.Common.{◌≡◌, ℕ, ◌<◌, ◌≤◌, Bool, true, false, List, [], ◌∷◌, ◌++◌, length, refl, ap, arith}
use Rattle.std.specs.List.{AllByRecursion, list_any}
use Rattle.ds_base.specs.declared.names.PageId.{PageId}
use Rattle.ds_model.specs.declared.log.LogRecord.{LogRecord}
use Rattle.ds_model.specs.RecordBytes.{IsAllowed}
use Rattle.page_images.specs.Given.{lrsn_of}
use Rattle.page_images.specs.Given.{Patch}
use Rattle.ds_base.specs.Pages.{same_page}
use Rattle.page_chain.specs.Chains.{changes_of, touches, after_record, version_from, Follows, AreInOrder}
use Rattle.page_chain.proofs.Others.{Stamping, others_stay, record_whole, record_stamps}

pub no_less : (low : ℕ) (r : LogRecord) (ps : List Patch) → Follows low r ps → low ≤ r.lrsn
no_less low r [] h = h
no_less low r (p ∷ ps) h = omega (arith, h)

pub greater : (low : ℕ) (r : LogRecord) (ps : List Patch) (id : PageId) → Follows low r ps → list_any (λ (p : Patch). same_page p.page id) ps ≡ true → low < r.lrsn
greater low r [] id h e = cc
greater low r (p ∷ ps) id h e = h

number_when : Stamping → (b : Bool) (low : ℕ) (r : LogRecord) (id : PageId) (page : List ℕ) → touches id r ≡ b → IsAllowed r → length page ≡ 4096 → Follows low r (changes_of r.body) → lrsn_of page ≤ low
    → (lrsn_of page ≤ lrsn_of (after_record id page r)) × (lrsn_of (after_record id page r) ≤ r.lrsn)
number_when s true low r id page e allowed whole follows le =
    let is = record_stamps s r id page allowed whole e in
    let lt = greater low r (changes_of r.body) id follows e in
    (omega (arith, is, lt, le), omega (arith, is))
number_when s false low r id page e allowed whole follows le =
    let is : lrsn_of (after_record id page r) ≡ lrsn_of page = ap lrsn_of (others_stay s.free r id page e) in
    let lt = no_less low r (changes_of r.body) follows in
    (omega (arith, is), omega (arith, is, lt, le))

-- the number of the page after a record is no less than before, and no greater than the record's
pub number_after : Stamping → (low : ℕ) (r : LogRecord) (id : PageId) (page : List ℕ) → IsAllowed r → length page ≡ 4096 → Follows low r (changes_of r.body) → lrsn_of page ≤ low
    → (lrsn_of page ≤ lrsn_of (after_record id page r)) × (lrsn_of (after_record id page r) ≤ r.lrsn)
number_after s low r id page = number_when s (touches id r) low r id page refl

-- it never falls
pub number_rises : Stamping → (low : ℕ) (rs : List LogRecord) (id : PageId) (page : List ℕ) → AllByRecursion IsAllowed rs → AreInOrder low rs → length page ≡ 4096 → lrsn_of page ≤ low
    → lrsn_of page ≤ lrsn_of (version_from id page rs)
number_rises s low [] id page allowed order whole le = omega arith
number_rises s low (r ∷ rs) id page allowed order whole le =
    let both = number_after s low r id page allowed.0 whole order.0 le in
    let rest = number_rises s r.lrsn rs id (after_record id page r) allowed.1 order.1 (record_whole s r id page allowed.0 whole) both.1 in
    omega (arith, both.0, rest)

pub version_whole : Stamping → (rs : List LogRecord) (id : PageId) (page : List ℕ) → AllByRecursion IsAllowed rs → length page ≡ 4096 → length (version_from id page rs) ≡ 4096
version_whole s [] id page allowed whole = whole
version_whole s (r ∷ rs) id page allowed whole = version_whole s rs id (after_record id page r) allowed.1 (record_whole s r id page allowed.0 whole)

pub version-append : (first rest : List LogRecord) (id : PageId) (page : List ℕ) → version_from id page (first ++ rest) ≡ version_from id (version_from id page first) rest
version-append [] rest id page = refl
version-append (r ∷ rs) rest id page = version-append rs rest id (after_record id page r)

-- a record above the page's number at the end doesn't change the page
pub above_is_other : Stamping → (b : Bool) (low number : ℕ) (r : LogRecord) (rs : List LogRecord) (id : PageId) (page : List ℕ) → touches id r ≡ b → IsAllowed r → AllByRecursion IsAllowed rs → AreInOrder r.lrsn rs → length page ≡ 4096
    → lrsn_of (version_from id (after_record id page r) rs) ≤ number → number < r.lrsn → touches id r ≡ false
above_is_other s false low number r rs id page e allowed all order whole le lt = e
above_is_other s true low number r rs id page e allowed all order whole le lt =
    let is = record_stamps s r id page allowed whole e in
    let rest = number_rises s r.lrsn rs id (after_record id page r) all order (record_whole s r id page allowed whole) (omega (arith, is)) in
    absurd (omega (arith, is, rest, le, lt))
