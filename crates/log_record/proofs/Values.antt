-- The test of a value's bytes, and what a value is.
use Rattle.std.proofs.Common.{◌≡◌, ℕ, ◌≤◌, true, false, List, length, refl}
use Rattle.std.specs.Prelude.{nat_le}
use Rattle.std.specs.Bool.{Decides}
use Rattle.std.specs.List.{list_all}
use Rattle.std.proofs.lemmas.Bool.{leb-true, le-leb, false_from_ne_true}
use Rattle.std.proofs.lemmas.Bool.Decides.{Decides-and, Decides-by_and}
use Rattle.ds_base.specs.Values.{IsValue, IsValueByte}
use Rattle.log_record.specs.Fields.{is_value, is_value_byte}

at_most : (a b : ℕ) → Decides (nat_le a b) (a ≤ b)
at_most a b = (leb-true a b, le-leb a b)

byte_decides : (b : ℕ) → Decides (is_value_byte b) (IsValueByte b)
byte_decides b = Decides-and (nat_le 0x21 b) (nat_le b 0x7e) (at_most 0x21 b) (at_most b 0x7e)

pub value_decides : (bytes : List ℕ) → Decides (is_value bytes) (IsValue bytes)
value_decides bytes =
    Decides-and (nat_le (length bytes) 100) (list_all is_value_byte bytes) (at_most (length bytes) 100)
    (Decides-by_and is_value_byte IsValueByte (list_all is_value_byte) byte_decides refl (λ _ _. refl) bytes)

pub value_true : (bytes : List ℕ) → IsValue bytes → is_value bytes ≡ true
value_true bytes h = (value_decides bytes).1 h

pub value_false : (bytes : List ℕ) → (IsValue bytes → ⊥) → is_value bytes ≡ false
value_false bytes h = false_from_ne_true (is_value bytes) (λ e. h ((value_decides bytes).0 e))
