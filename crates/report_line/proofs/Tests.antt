-- The test of a value is what a value is.
use Rattle.std.proofs.Common.{◌≡◌, ℕ, Bool, true, false, ◌&&◌, nat_le, List, length, get_or, Option, Some, None, refl, arith, sym, subst}
use Rattle.std.proofs.lemmas.Bool.Decides.{nat_tests}
use Rattle.std.proofs.lemmas.List.Sums.{AllPass-from_list_all, list_all-from_AllPass}
use Rattle.std.specs.Option.{SomeIff}
use Rattle.std.specs.List.{list_all}
use Rattle.ds_base.specs.Values.{IsValue, IsValueByte}
use Rattle.report_line.specs.Lines.{is_between, is_value}
use Rattle.report_line.specs.Reading.{kept}

pub and_left : (a b : Bool) → (a && b) ≡ true → a ≡ true
and_left true b h = refl
and_left false b h = h

pub and_right : (a b : Bool) → (a && b) ≡ true → b ≡ true
and_right true b h = h
and_right false b h = absurd (cc)

pub and_true : (a b : Bool) → a ≡ true → b ≡ true → (a && b) ≡ true
and_true true b h k = k
and_true false b h k = h

byte_in : (b : ℕ) → is_between 0x21 0x7e b ≡ true → IsValueByte b
byte_in b h =
    let low = and_left (nat_le 0x21 b) (nat_le b 0x7e) h in
    let high = and_right (nat_le 0x21 b) (nat_le b 0x7e) h in
    (grind (arith, nat_tests), grind (arith, nat_tests))

byte_out : (b : ℕ) → IsValueByte b → is_between 0x21 0x7e b ≡ true
byte_out b h =
    let low = h.0 in
    let high = h.1 in
    and_true (nat_le 0x21 b) (nat_le b 0x7e) (grind (arith, nat_tests)) (grind (arith, nat_tests))

pub value_in : (bytes : List ℕ) → is_value bytes ≡ true → IsValue bytes
unfolding is_value
value_in bytes h =
    let short = and_left (nat_le (length bytes) 100) (list_all (is_between 0x21 0x7e) bytes) h in
    let each = AllPass-from_list_all (is_between 0x21 0x7e) bytes (and_right (nat_le (length bytes) 100) (list_all (is_between 0x21 0x7e) bytes) h) in
    (grind (arith, nat_tests), λ k d lt. byte_in (get_or bytes k d) (each k d lt))

pub value_out : (bytes : List ℕ) → IsValue bytes → is_value bytes ≡ true
unfolding is_value
value_out bytes h =
    let short = h.0 in
    and_true (nat_le (length bytes) 100) (list_all (is_between 0x21 0x7e) bytes) (grind (arith, nat_tests))
    (list_all-from_AllPass (is_between 0x21 0x7e) bytes (λ k d lt. byte_out (get_or bytes k d) (h.1 k d lt)))

kept_some : (b : Bool) (v : List ℕ) → b ≡ true → Some v ≡ kept b v
kept_some true v h = refl
kept_some false v h = cc

kept_none : (b : Bool) (v : List ℕ) → (b ≡ true → ⊥) → None ≡ kept b v
kept_none true v h = absurd (h refl)
kept_none false v h = refl

pub value_kept : (found : Option (List ℕ)) (bytes : List ℕ) → SomeIff found (IsValue bytes) bytes → found ≡ kept (is_value bytes) bytes
value_kept None bytes h = kept_none (is_value bytes) bytes (λ yes. h (value_in bytes yes))
value_kept (Some v) bytes h = subst (λ (w : List ℕ). Some w ≡ kept (is_value bytes) bytes) (sym h.1) (kept_some (is_value bytes) bytes (value_out bytes h.0))
