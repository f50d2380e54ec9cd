-- Redo of records by the numbers of pages, and the records that a version needs.
use Rattle.std.proofs.Common.{◌≡◌, ℕ, ◌<◌, ◌≤◌, Bool, true, false, cond, nat_lt, nat_le, List, [], ◌∷◌, ◌++◌, length, refl, sym, ap, ◌∙◌, arith}
use Rattle.std.proofs.lemmas.Bool.Decides.{nat_tests}
use Rattle.std.specs.List.{AllByRecursion}
use Rattle.ds_base.specs.declared.names.PageId.{PageId}
use Rattle.ds_model.specs.declared.log.LogRecord.{LogRecord}
use Rattle.ds_model.specs.RecordBytes.{IsAllowed}
use Rattle.page_images.specs.Given.{lrsn_of}
use Rattle.page_images.specs.Images.{zeros}
use Rattle.page_chain.specs.Chains.{changes_of, touches, after_record, version_from, version_of, redo, AreInOrder, AreRecords, up_to}
use Rattle.page_chain.proofs.Others.{Stamping, others_stay, record_whole, record_stamps}
use Rattle.page_chain.proofs.Order.{greater, number_after, version_whole, version-append, above_is_other}

below : (m n : ℕ) → nat_lt m n ≡ true → m < n
below m n e = grind (arith, nat_tests)

not_below : (m n : ℕ) → nat_lt m n ≡ false → n ≤ m
not_below m n e = grind (arith, nat_tests)

within : (m n : ℕ) → nat_le m n ≡ true → m ≤ n
within m n e = grind (arith, nat_tests)

not_within : (m n : ℕ) → nat_le m n ≡ false → n < m
not_within m n e = grind (arith, nat_tests)

-- ---- records that the page hasn't had

-- one that isn't above the page's number doesn't change the page
not_above_is_other : (b : Bool) (low : ℕ) (r : LogRecord) (id : PageId) (page : List ℕ) → touches id r ≡ b → AreInOrder low (r ∷ []) → lrsn_of page ≤ low → r.lrsn ≤ lrsn_of page → touches id r ≡ false
not_above_is_other false low r id page e order le not = e
not_above_is_other true low r id page e order le not = let lt = greater low r (changes_of r.body) id order.0 e in absurd (omega (arith, lt, le, not))

redo_step : Stamping → (b : Bool) (low : ℕ) (r : LogRecord) (id : PageId) (page : List ℕ) → nat_lt (lrsn_of page) r.lrsn ≡ b → AreInOrder low (r ∷ []) → lrsn_of page ≤ low
    → cond b (after_record id page r) page ≡ after_record id page r
redo_step s true low r id page e order le = refl
redo_step s false low r id page e order le = sym (others_stay s.free r id page (not_above_is_other (touches id r) low r id page refl order le (not_below (lrsn_of page) r.lrsn e)))

redo_all : Stamping → (low : ℕ) (rs : List LogRecord) (id : PageId) (page : List ℕ) → AllByRecursion IsAllowed rs → AreInOrder low rs → length page ≡ 4096 → lrsn_of page ≤ low → redo id page rs ≡ version_from id page rs
redo_all s low [] id page allowed order whole le = refl
redo_all s low (r ∷ rs) id page allowed order whole le =
    ap (λ (p : List ℕ). redo id p rs) (redo_step s (nat_lt (lrsn_of page) r.lrsn) low r id page refl (order.0, tt) le)
    ∙ redo_all s r.lrsn rs id (after_record id page r) allowed.1 order.1 (record_whole s r id page allowed.0 whole) (number_after s low r id page allowed.0 whole order.0 le).1

-- ---- and records that it has had

allowed_first : (xs ys : List LogRecord) → AllByRecursion IsAllowed (xs ++ ys) → AllByRecursion IsAllowed xs
allowed_first [] ys h = tt
allowed_first (x ∷ xs) ys h = (h.0, allowed_first xs ys h.1)

order_first : (low : ℕ) (xs ys : List LogRecord) → AreInOrder low (xs ++ ys) → AreInOrder low xs
order_first low [] ys h = tt
order_first low (x ∷ xs) ys h = (h.0, order_first x.lrsn xs ys h.1)

passed : Stamping → (b : Bool) (low : ℕ) (r : LogRecord) (rs : List LogRecord) (id : PageId) (page last : List ℕ) → nat_lt (lrsn_of last) r.lrsn ≡ b → last ≡ version_from id (after_record id page r) rs
    → IsAllowed r → AllByRecursion IsAllowed rs → AreInOrder r.lrsn rs → length page ≡ 4096
    → cond b (after_record id last r) last ≡ last
passed s false low r rs id page last e is allowed all order whole = refl
passed s true low r rs id page last e is allowed all order whole =
    others_stay s.free r id last
    (above_is_other s (touches id r) low (lrsn_of last) r rs id page refl allowed all order whole (let same : lrsn_of (version_from id (after_record id page r) rs) ≡ lrsn_of last = ap lrsn_of (sym is) in omega (arith, same)) (below (lrsn_of last) r.lrsn e))

redo_past : Stamping → (low : ℕ) (first rest : List LogRecord) (id : PageId) (page : List ℕ) → AllByRecursion IsAllowed (first ++ rest) → AreInOrder low (first ++ rest) → length page ≡ 4096 → lrsn_of page ≤ low
    → redo id (version_from id page first) (first ++ rest) ≡ version_from id page (first ++ rest)
redo_past s low [] rest id page allowed order whole le = redo_all s low rest id page allowed order whole le
redo_past s low (r ∷ rs) rest id page allowed order whole le =
    let last = version_from id (after_record id page r) rs in
    ap (λ (p : List ℕ). redo id p (rs ++ rest))
    (passed s (nat_lt (lrsn_of last) r.lrsn) low r rs id page last refl refl allowed.0 (allowed_first rs rest allowed.1) (order_first r.lrsn rs rest order.1) whole)
    ∙ redo_past s r.lrsn rs rest id (after_record id page r) allowed.1 order.1 (record_whole s r id page allowed.0 whole) (number_after s low r id page allowed.0 whole order.0 le).1

zero_low : Stamping → lrsn_of zeros ≤ 0
zero_low s = let e = s.zero.1 in omega (arith, e)

pub redo_reaches : Stamping → (first rest : List LogRecord) (id : PageId) → AreRecords (first ++ rest) → redo id (version_of id first) (first ++ rest) ≡ version_of id (first ++ rest)
redo_reaches s first rest id are = redo_past s 0 first rest id zeros are.0 are.1 s.zero.0 (zero_low s)

-- ---- the number of a version

pub bears_its_number : Stamping → (records : List LogRecord) (r : LogRecord) (id : PageId) → AreRecords (records ++ r ∷ []) → touches id r ≡ true → lrsn_of (version_of id (records ++ r ∷ [])) ≡ r.lrsn
bears_its_number s records r id are e =
    ap lrsn_of (version-append records (r ∷ []) id zeros)
    ∙ record_stamps s r id (version_of id records) (allowed_last records are.0) (version_whole s records id zeros (allowed_first records (r ∷ []) are.0) s.zero.0) e
  where
    allowed_last : (xs : List LogRecord) → AllByRecursion IsAllowed (xs ++ r ∷ []) → IsAllowed r
    allowed_last [] h = h.0
    allowed_last (x ∷ xs) h = allowed_last xs h.1

-- ---- the records that a version needs

kept_or_other : Stamping → (b : Bool) (number : ℕ) (r : LogRecord) (rs kept : List LogRecord) (id : PageId) (page : List ℕ) → nat_le r.lrsn number ≡ b → IsAllowed r → AllByRecursion IsAllowed rs → AreInOrder r.lrsn rs → length page ≡ 4096
    → lrsn_of (version_from id (after_record id page r) rs) ≤ number
    → version_from id page (cond b (r ∷ kept) kept) ≡ version_from id (after_record id page r) kept
kept_or_other s true number r rs kept id page e allowed all order whole le = refl
kept_or_other s false number r rs kept id page e allowed all order whole le =
    ap (λ (p : List ℕ). version_from id p kept)
    (sym (others_stay s.free r id page (above_is_other s (touches id r) 0 number r rs id page refl allowed all order whole le (not_within r.lrsn number e))))

needed : Stamping → (low number : ℕ) (rs : List LogRecord) (id : PageId) (page : List ℕ) → AllByRecursion IsAllowed rs → AreInOrder low rs → length page ≡ 4096 → lrsn_of page ≤ low → lrsn_of (version_from id page rs) ≤ number
    → version_from id page (up_to number rs) ≡ version_from id page rs
needed s low number [] id page allowed order whole le top = refl
needed s low number (r ∷ rs) id page allowed order whole le top =
    kept_or_other s (nat_le r.lrsn number) number r rs (up_to number rs) id page refl allowed.0 allowed.1 order.1 whole top
    ∙ needed s r.lrsn number rs id (after_record id page r) allowed.1 order.1 (record_whole s r id page allowed.0 whole) (number_after s low r id page allowed.0 whole order.0 le).1 top

pub number_tells : Stamping → (records : List LogRecord) (id : PageId) (number : ℕ) → AreRecords records → lrsn_of (version_of id records) ≤ number → version_of id (up_to number records) ≡ version_of id records
number_tells s records id number are le = needed s 0 number records id zeros are.0 are.1 s.zero.0 (zero_low s) le
