-- Rows of a sound slot, and the entries that a scan follows.
use Rattle.std.proofs.Common.{◌≡◌, ℕ, suc, zero, ◌+◌, ◌≤◌, refl, sym, ap, ◌∙◌, subst, arith, Bool, true, false, List, [], ◌∷◌, ◌++◌, length-take, drop, filter, lit<, All, Option, Some, None, Ok, if◌then◌else◌}
use Rattle.std.proofs.lemmas.List.{append-nil, append_assoc}
use Rattle.std.proofs.lemmas.List.Elements.{All-nil, All-cons}
use Rattle.std.specs.Prelude.{nat_le, ◌==◌, slice_get, slice_index, unwrap_or, is_some}
use Rattle.std.specs.List.{list_all}
use Rattle.ds_base.specs.Values.{IsValue, IsValueByte}
use Rattle.ds_base.specs.declared.names.PageId.{PageId}
use Rattle.ds_base.specs.declared.names.Place.{Place}
use Rattle.page_format.specs.Header.{header_of, header_in, fields, first_fault, is_zeros, most, judged, empty_header}
use Rattle.page_format.specs.Fields.{number_in}
use Rattle.page_format.specs.declared.header.Header.{Header}
use Rattle.page_format.specs.declared.header.PageKind.{PageKind}
use Rattle.heap_space.specs.Layout.{slot_at}
use Rattle.heap_space.specs.Slots.{Content, fault_in, content, slot_in, value_in, is_value_byte, may_be_length}
use Rattle.heap_space.specs.Slots as slots
use Rattle.index_leaf.specs.declared.layout.Entry.{Entry}
use Rattle.index_leaf.specs.Entries.{count_of, entries_of}
use Rattle.index_leaf.specs.Search.{pair_of}
use Rattle.tran_core.specs.Looks.{is_between, kept, between, is_heap, kind_fault}
use Rattle.rising_keys.proofs.Falls.{drop_past, drop_nil, length_entries}
use Rattle.tran_core.proofs.Looks.{passed_at, le_of}

value_bytes : (xs : List ℕ) → list_all is_value_byte xs ≡ true → All IsValueByte xs
value_bytes [] h = All-nil IsValueByte
value_bytes (x ∷ xs) h =
    let first : IsValueByte x = grind arith in
    let rest : list_all is_value_byte xs ≡ true = grind arith in
    All-cons IsValueByte x xs first (value_bytes xs rest)

short_of : (state n : ℕ) → may_be_length state n ≡ true → n ≤ 100
short_of state n h = grind arith

abbrev the_value : Content → List ℕ
the_value None = []
the_value (Some c) = unwrap_or c.1 []

abbrev has_value : Content → Bool
has_value None = false
has_value (Some c) = is_some c.1

present_value : (a b : Bool) (n key : ℕ) (v value : List ℕ) → ◌≡◌ {A = Content} (Some (key, Some value)) (if a then None else if b then Some (n, None) else Some (n, Some v)) → value ≡ v
present_value true b n key v value is = absurd (cc)
present_value false true n key v value is = let same : true ≡ false = ap has_value is in absurd (cc)
present_value false false n key v value is = ap the_value is

-- the value of a row that is present
pub value_at : (page : List ℕ) (slot key : ℕ) (value : List ℕ) → fault_in page slot ≡ None → ◌≡◌ {A = Content} (Some (key, Some value)) (content (slot_in page slot)) → IsValue value
unfolding fault_in
value_at page slot key value sound is =
    let short = short_of (slice_index (slot_in page slot) 0) (slice_index (slot_in page slot) 1) (passed_at (slots.fields (slot_at slot) (slot_in page slot)) 1 (0, true) sound (lit< tt)) in
    let graphic : list_all is_value_byte (value_in (slot_in page slot)) ≡ true = passed_at (slots.fields (slot_at slot) (slot_in page slot)) 3 (0, true) sound (lit< tt) in
    let same : value ≡ value_in (slot_in page slot) = present_value (slice_index (slot_in page slot) 0 == 0) (slice_index (slot_in page slot) 0 == 1) (number_in (slot_in page slot) 8 8) key (value_in (slot_in page slot)) value is in
    subst IsValue (sym same) (omega (arith, short, length-take {A = ℕ}), value_bytes (value_in (slot_in page slot)) graphic)

heap_kept : (z : Bool) (o : Option ℕ) (g h : Header) → (if z then Ok empty_header else judged o g) ≡ Ok h → is_heap h.kind ≡ true → (o ≡ None) × (g ≡ h)
heap_kept true o g h is fits = grind arith
heap_kept false None g h is fits = grind arith
heap_kept false (Some at) g h is fits = absurd (cc)

most_slots : (k : PageKind) → is_heap k ≡ true → most k ≡ 31
most_slots k h = grind arith

pub fits_of : (b : Bool) (k : PageKind) → kind_fault b k ≡ None → b ≡ true
fits_of true k h = refl
fits_of false k h = absurd (cc)

-- a page of rows has no more slots than fit
pub slots_of : (bytes : List ℕ) (id : PageId) (h : Header) → header_of bytes id ≡ Ok h → is_heap h.kind ≡ true → h.count ≤ 31
unfolding header_of
slots_of bytes id h is fits =
    let kept = heap_kept (is_zeros bytes) (first_fault (fields bytes id)) (header_in bytes) h is fits in
    let last : nat_le (header_in bytes).count (most (header_in bytes).kind) ≡ true = passed_at (fields bytes id) 6 (0, true) kept.0 (lit< tt) in
    let le : (header_in bytes).count ≤ most (header_in bytes).kind = le_of _ _ last in
    let limit : most (header_in bytes).kind ≡ 31 = ap (λ (g : Header). most g.kind) kept.1 ∙ most_slots h.kind fits in
    omega (arith, le, limit, ap (λ (g : Header). g.count) kept.1)

between_suc : (es : List Entry) (low high at key : ℕ) (place : Place) → pair_of (slice_get es at) ≡ Some (key, place) → filter (is_between low high) (drop at es) ≡ kept low high (record { key = key; place = place }) ++ filter (is_between low high) (drop (suc at) es)
unfolding is_between
between_suc [] low high at key place h = absurd (cc)
between_suc (e ∷ es) low high zero key place h = grind arith
between_suc (e ∷ es) low high (suc at) key place h = between_suc es low high at key place h

between_last : (es : List Entry) (low high at : ℕ) → pair_of (slice_get es at) ≡ None → filter (is_between low high) (drop at es) ≡ []
between_last [] low high at h = ap (λ (es : List Entry). filter (is_between low high) es) (drop_nil at)
between_last (e ∷ es) low high zero h = absurd (cc)
between_last (e ∷ es) low high (suc at) h = between_last es low high at h

-- what is left to walk over
abbrev pub left : ℕ → ℕ → ℕ → List Entry → List Entry
left low high at es = filter (is_between low high) (drop at es)

no_more : (front all rest : List Entry) → front ++ rest ≡ all → rest ≡ [] → front ≡ all
no_more front all rest whole none = sym (append-nil front) ∙ ap (λ (es : List Entry). front ++ es) (sym none) ∙ whole

pub walk_end : (page : List ℕ) (low high at : ℕ) (front : List Entry) → front ++ left low high at (entries_of page) ≡ between low high page → None ≡ pair_of (slice_get (entries_of page) at) → front ≡ between low high page
walk_end page low high at front whole none = no_more front (between low high page) (left low high at (entries_of page)) whole (between_last (entries_of page) low high at (sym none))

pub walk_past : (page : List ℕ) (low high n : ℕ) (front : List Entry) → front ++ left low high n (entries_of page) ≡ between low high page → count_of page ≤ n → front ≡ between low high page
walk_past page low high n front whole h =
    let past = drop_past (entries_of page) n (omega (arith, length_entries page 64 (count_of page), h)) in
    no_more front (between low high page) (left low high n (entries_of page)) whole (ap (λ (es : List Entry). filter (is_between low high) es) past)

pub walk_next : (page : List ℕ) (low high at key : ℕ) (place : Place) (front : List Entry) → front ++ left low high at (entries_of page) ≡ between low high page → Some (key, place) ≡ pair_of (slice_get (entries_of page) at) → (front ++ kept low high (record { key = key; place = place })) ++ left low high (at + 1) (entries_of page) ≡ between low high page
walk_next page low high at key place front whole is =
    let next : at + 1 ≡ suc at = omega arith in
    let it : List Entry = kept low high (record { key = key; place = place }) in
    append_assoc front it (left low high (at + 1) (entries_of page))
    ∙ ap (λ (n : ℕ). front ++ (it ++ left low high n (entries_of page))) next
    ∙ ap (λ (es : List Entry). front ++ es) (sym (between_suc (entries_of page) low high at key place (sym is)))
    ∙ whole
