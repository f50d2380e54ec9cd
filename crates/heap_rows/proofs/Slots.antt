-- The tests of slots, and how many a page can have.
use Rattle.std.proofs.Common.{◌≡◌, ◌↔◌, ℕ, Bool, true, List, Option, Some, None, refl, sym, ap, subst, ◌∙◌}
use Rattle.std.specs.Prelude.{IsTrue, is_none}
use Rattle.std.proofs.lemmas.Slice.Eq.{bytes_eq-Decides}
use Rattle.heap_space.specs.Slots.{Content, content, slot_in}
use Rattle.sound_disk.specs.Rows_there.{key_in}
use Rattle.heap_rows.specs.Maps.{is_value, agrees}
use Rattle.heap_rows.specs.Rows_left.{SlotHas}

abbrev Row : Type 0
Row = Option (List ℕ)

abbrev filled : ℕ → Row → Content
filled k row = Some (k, row)

-- what the content of a slot is to be
abbrev Has : (ℕ → Row) → Content → Type 0
Has row c = (key : ℕ) → key_in c ≡ Some key → c ≡ Some (key, row key)

none_is : (o : Row) → is_none o ≡ true → o ≡ None
none_is None h = refl
none_is (Some v) h = absurd cc

value_is : (o : Row) (value : List ℕ) → is_value o value ≡ true → o ≡ Some value
value_is None value h = absurd cc
value_is (Some v) value h = ap (λ (l : List ℕ). Some l) ((bytes_eq-Decides v value).0 h)

is_itself : (value : List ℕ) → is_value (Some value) value ≡ true
is_itself value = (bytes_eq-Decides value value).1 refl

same_key : (k key : ℕ) → Some k ≡ Some key → k ≡ key
same_key k key e = cc

abbrev row_in : Content → Row
row_in None = None
row_in (Some row) = row.1

same_row : (k j : ℕ) (a b : Row) → filled k a ≡ filled j b → a ≡ b
same_row k j a b e = ap row_in e

has : (row : ℕ → Row) (c : Content) → agrees row c ≡ true → Has row c
has row None h key e = absurd cc
has row (Some (k, None)) h key e =
    subst (λ (j : ℕ). filled k None ≡ filled j (row j)) (same_key k key e)
    (ap (filled k) (sym (none_is (row k) h)))
has row (Some (k, Some v)) h key e =
    subst (λ (j : ℕ). filled k (Some v) ≡ filled j (row j)) (same_key k key e)
    (ap (filled k) (sym (value_is (row k) v h)))

had : (row : ℕ → Row) (c : Content) → Has row c → agrees row c ≡ true
had row None h = refl
had row (Some (k, None)) h = ap is_none (sym (same_row k k None (row k) (h k refl)))
had row (Some (k, Some v)) h = ap (λ (o : Row). is_value o v) (sym (same_row k k (Some v) (row k) (h k refl))) ∙ is_itself v

pub slot_told : (row : ℕ → Row) (page : List ℕ) (slot : ℕ) (c : Content) (b : Bool) → b ≡ agrees row c → c ≡ content (slot_in page slot) → IsTrue b ↔ SlotHas row page slot
slot_told row page slot c b e i =
    let told : b ≡ agrees row (content (slot_in page slot)) = e ∙ ap (agrees row) i in
    (λ t. has row (content (slot_in page slot)) (sym told ∙ t), λ h. told ∙ had row (content (slot_in page slot)) h)
