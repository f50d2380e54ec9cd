-- Rows of a sound slot, and where they lie.
use Rattle.std.proofs.Common.{◌≡◌, ℕ, ◌≤◌, ◌<◌, ◌≢◌, refl, sym, ap, ◌∙◌, subst, arith, Bool, true, false, List, [], ◌∷◌, length-take, lit<, All, Option, Some, None, Ok, if◌then◌else◌}
use Rattle.std.proofs.lemmas.List.Elements.{All-nil, All-cons}
use Rattle.std.specs.Prelude.{◌==◌, slice_index, unwrap_or, is_some}
use Rattle.std.specs.List.{list_all}
use Rattle.ds_base.specs.Values.{IsValue, IsValueByte}
use Rattle.ds_base.specs.declared.names.PageId.{PageId}
use Rattle.ds_base.specs.declared.names.Place.{Place}
use Rattle.page_format.specs.Header.{header_of, header_in, fields, first_fault, is_zeros, may_have, judged, empty_header}
use Rattle.std.proofs.lemmas.Bool.Decides.{nat_tests}
use Rattle.page_format.specs.Fields.{number_in}
use Rattle.page_format.specs.declared.header.Header.{Header}
use Rattle.page_format.specs.declared.header.PageKind.{PageKind}
use Rattle.ds_base.specs.Pages.{heap_page}
use Rattle.heap_space.specs.Layout.{slot_at}
use Rattle.heap_space.specs.Slots.{Content, fault_in, content, slot_in, value_in, is_value_byte, may_be_length}
use Rattle.heap_space.specs.Slots as slots
use Rattle.page_redo.specs.Rows.{or_fault, kind_fault, slot_fault, headed_fault, row_fault}
use Rattle.page_plans.proofs.Nodes.{passed_at}

value_bytes : (xs : List ℕ) → list_all is_value_byte xs ≡ true → All IsValueByte xs
value_bytes [] h = All-nil IsValueByte
value_bytes (x ∷ xs) h =
    let first : IsValueByte x = grind arith in
    let rest : list_all is_value_byte xs ≡ true = grind arith in
    All-cons IsValueByte x xs first (value_bytes xs rest)

short_of : (state n : ℕ) → may_be_length state n ≡ true → n ≤ 100
short_of state n h = grind arith

abbrev the_value : Content → List ℕ
the_value None = []
the_value (Some c) = unwrap_or c.1 []

abbrev has_value : Content → Bool
has_value None = false
has_value (Some c) = is_some c.1

present_value : (a b : Bool) (n key : ℕ) (v value : List ℕ) → ◌≡◌ {A = Content} (Some (key, Some value)) (if a then None else if b then Some (n, None) else Some (n, Some v)) → value ≡ v
present_value true b n key v value is = absurd (cc)
present_value false true n key v value is = let same : true ≡ false = ap has_value is in absurd (cc)
present_value false false n key v value is = ap the_value is

-- the value of a row that is present
pub value_at : (page : List ℕ) (slot key : ℕ) (value : List ℕ) → fault_in page slot ≡ None → ◌≡◌ {A = Content} (Some (key, Some value)) (content (slot_in page slot)) → IsValue value
unfolding fault_in
value_at page slot key value sound is =
    let short = short_of (slice_index (slot_in page slot) 0) (slice_index (slot_in page slot) 1) (passed_at (slots.fields (slot_at slot) (slot_in page slot)) 1 (0, true) sound (lit< tt)) in
    let graphic : list_all is_value_byte (value_in (slot_in page slot)) ≡ true = passed_at (slots.fields (slot_at slot) (slot_in page slot)) 3 (0, true) sound (lit< tt) in
    let same : value ≡ value_in (slot_in page slot) = present_value (slice_index (slot_in page slot) 0 == 0) (slice_index (slot_in page slot) 0 == 1) (number_in (slot_in page slot) 8 8) key (value_in (slot_in page slot)) value is in
    subst IsValue (sym same) (omega (arith, short, length-take {A = ℕ}), value_bytes (value_in (slot_in page slot)) graphic)

first_none : (o other : Option ℕ) → or_fault o other ≡ None → o ≡ None
first_none None other h = refl
first_none (Some at) other h = absurd (cc)

row_kept : (z : Bool) (o : Option ℕ) (g : Header) (slot key : ℕ) (page : List ℕ) → headed_fault slot key page (if z then Ok empty_header else judged o g) ≡ None → (o ≡ None) × (kind_fault g.kind ≡ None)
row_kept true o g slot key page fits = absurd (cc)
row_kept false None g slot key page fits = (refl, first_none (kind_fault g.kind) (slot_fault slot key page g) fits)
row_kept false (Some at) g slot key page fits = absurd (cc)

later_page : (id : PageId) (k : PageKind) → kind_fault k ≡ None → may_have id k ≡ true → id.number ≡ 0 → ⊥
later_page id k fits may is = grind (arith, nat_tests)

-- page 0 of a heap has no rows
pub row_page : (page : List ℕ) (id : PageId) (slot key : ℕ) → row_fault id slot key page ≡ None → id.number ≡ 0 → ⊥
unfolding header_of
row_page page id slot key fits is =
    let kept = row_kept (is_zeros page) (first_fault (fields page id)) (header_in page) slot key page fits in
    let may : may_have id (header_in page).kind ≡ true = passed_at (fields page id) 1 (0, true) kept.0 (lit< tt) in
    later_page id (header_in page).kind kept.1 may is

-- a row lies in no page before the first, and in no slot past the last
pub row_fits : (found : Option ℕ) (id : PageId) (table key : ℕ) (place : Place) (page : List ℕ) → found ≡ None → found ≡ row_fault id place.slot key page → (found ≡ None → place.slot < 31) → id ≡ heap_page table place.page
    → (place.page ≢ 0) × (place.slot < 31)
row_fits found id table key place page none is slot named =
    (λ first. row_page page id place.slot key (sym is ∙ none) (ap (λ (i : PageId). i.number) named ∙ first), slot none)
