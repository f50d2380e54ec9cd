-- What a slot says, and a page that has the row of a key in it.
use Rattle.std.proofs.Common.{◌≡◌, ◌↔◌, ℕ, Bool, true, false, List, Option, Some, None, Result, Ok, Err, refl, sym, ap, subst, ◌∙◌, arith, if◌then◌else◌}
use Rattle.std.specs.Prelude.{◌==◌, ◌&&◌, nat_lt, IsTrue, is_none}
use Rattle.std.specs.Str.{bytes_eq}
use Rattle.std.proofs.lemmas.Bool.Decides.{nat_tests}
use Rattle.std.proofs.lemmas.Slice.Eq.{bytes_eq-Decides}
use Rattle.ds_base.specs.Pages.{heap_page}
use Rattle.ds_base.specs.declared.names.PageId.{PageId}
use Rattle.ds_model.specs.declared.log.LogRecord.{LogRecord}
use Rattle.ds_model.specs.declared.log.RowChange.{RowChange}
use Rattle.page_format.specs.Header.{header_of}
use Rattle.page_format.specs.declared.header.Header.{Header}
use Rattle.page_format.specs.declared.header.NotAPage.{NotAPage}
use Rattle.heap_space.specs.Slots.{Content, fault_in, content, slot_in}
use Rattle.page_redo.specs.Rows.{or_fault, slot_fault, headed_fault, row_fault, change_fault, kind_fault}
use Rattle.page_chain.specs.Chains.{version_of}
use Rattle.sound_disk.specs.Rows_there.{row_after, Stood}
use Rattle.stood_rows.specs.Standing.{same_value, says, StandsIn}

-- ---- a page that has the row

or_first : (a b : Option ℕ) → or_fault a b ≡ None → a ≡ None
or_first None b e = refl
or_first (Some at) b e = absurd cc

or_second : (a b : Option ℕ) → or_fault a b ≡ None → b ≡ None
or_second None b e = e
or_second (Some at) b e = absurd cc

in_slot : (b : Bool) (a k : Option ℕ) (at : ℕ) → (if b then or_fault a k else Some at) ≡ None → a ≡ None
in_slot true a k at e = or_first a k e
in_slot false a k at e = absurd cc

headed : (slot key : ℕ) (page : List ℕ) (h : Result Header NotAPage) → headed_fault slot key page h ≡ None → fault_in page slot ≡ None
headed slot key page (Err e) is = absurd cc
headed slot key page (Ok h) is = in_slot (nat_lt slot h.count) (fault_in page slot) _ _ (or_second (kind_fault h.kind) (slot_fault slot key page h) is)

pub slot_allowed : (id : PageId) (slot key : ℕ) (page : List ℕ) → row_fault id slot key page ≡ None → fault_in page slot ≡ None
slot_allowed id slot key page is = headed slot key page (header_of page id) is

-- ---- what a slot says

abbrev Row : Type 0
Row = Option (List ℕ)

equal : (a b : ℕ) → (a == b) ≡ true → a ≡ b
equal a b e = grind (arith, nat_tests)

equal_self : (a : ℕ) → (a == a) ≡ true
equal_self a = grind (arith, nat_tests)

left : (a b : Bool) → (a && b) ≡ true → a ≡ true
left true b e = refl
left false b e = absurd cc

right : (a b : Bool) → (a && b) ≡ true → b ≡ true
right true b e = e
right false b e = absurd cc

both : (a b : Bool) → a ≡ true → b ≡ true → (a && b) ≡ true
both true b e f = f
both false b e f = absurd cc

none_is : (row : Row) → is_none row ≡ true → row ≡ None
none_is None e = refl
none_is (Some value) e = absurd cc

value_is : (row : Row) (value : List ℕ) → same_value row value ≡ true → row ≡ Some value
value_is None value e = absurd cc
value_is (Some found) value e = ap (λ (v : List ℕ). Some v) ((bytes_eq-Decides found value).0 e)

said_when : (c : Content) (key : ℕ) (row : Row) → says c key row ≡ true → c ≡ Some (key, row)
said_when None key row e = absurd cc
said_when (Some (its, None)) key row e =
    let k : its ≡ key = equal its key (left (its == key) (is_none row) e) in
    let r : row ≡ None = none_is row (right (its == key) (is_none row) e) in
    cc
said_when (Some (its, Some value)) key row e =
    let k : its ≡ key = equal its key (left (its == key) (same_value row value) e) in
    let r : row ≡ Some value = value_is row value (right (its == key) (same_value row value) e) in
    cc

says_it : (key : ℕ) (row : Row) → says (Some (key, row)) key row ≡ true
says_it key None = both (key == key) true (equal_self key) refl
says_it key (Some value) = both (key == key) (bytes_eq value value) (equal_self key) ((bytes_eq-Decides value value).1 refl)

pub stands_if : (page : List ℕ) (c : RowChange) (b : Bool) → change_fault (heap_page c.table c.place.page) c page ≡ None → b ≡ says (content (slot_in page c.place.slot)) c.key c.before → IsTrue b ↔ StandsIn page c
stands_if page c b fault is = (
  λ t. record { slot = fault; there = said_when _ _ _ (sym is ∙ t) },
  λ s. is ∙ (subst (λ (x : Content). says x c.key c.before ≡ true) (sym s.there) (says_it c.key c.before)),
)

pub stands_not : (page : List ℕ) (c : RowChange) (fault : Option ℕ) → fault ≡ change_fault (heap_page c.table c.place.page) c page → (fault ≡ None → ⊥) → IsTrue false ↔ StandsIn page c
stands_not page c fault is some = (λ t. absurd cc, λ s. absurd (some (is ∙ s.slot)))

-- ---- a change in its page

pub stood : (earlier : List LogRecord) (c : RowChange) (id : PageId) (page : List ℕ) → page ≡ version_of id earlier → id ≡ heap_page c.table c.place.page → row_after earlier c.table c.key ≡ c.before → StandsIn page c → Stood earlier c
stood earlier c id page is name tells s =
    let same : page ≡ version_of (heap_page c.table c.place.page) earlier = is ∙ ap (λ (i : PageId). version_of i earlier) name in
    let there : StandsIn (version_of (heap_page c.table c.place.page) earlier) c = subst (λ (p : List ℕ). StandsIn p c) same s in
    record { slot = there.slot; there = there.there; before = tells }

-- a test of the fact that is false
pub fails : (b : Bool) (P : Type 0) → IsTrue b ↔ P → b ≡ false → P → ⊥
fails b P h is p = let yes : b ≡ true = h.1 p in absurd cc
