-- The order of keys, one number after the other.
use Rattle.std.proofs.Common.{◌≡◌, ℕ, Bool, true, false, arith}
use Rattle.std.specs.Prelude.{nat_lt}
use Rattle.ds_base.specs.declared.names.PageId.{PageId}
use Rattle.write_order.specs.declared.key.WriteKey.{WriteKey}
use Rattle.write_order.specs.Ranks.{turn_of, low_key_of, then_by}
use Rattle.write_order.specs.Keys.{table_of, is_before}

transitive_then : (a b c : ℕ) (p q r : Bool) → (p ≡ true → q ≡ true → r ≡ true) → then_by a b p ≡ true → then_by b c q ≡ true → then_by a c r ≡ true
transitive_then a b c p q r rest h k = grind arith

equal_then : (a b : ℕ) (p q : Bool) → then_by a b p ≡ false → then_by b a q ≡ false → (a ≡ b) × (p ≡ false) × (q ≡ false)
equal_then a b p q h k = (grind arith, grind arith, grind arith)

abbrev numbers : WriteKey → WriteKey → Bool
numbers a b = nat_lt a.page.number b.page.number

abbrev names : WriteKey → WriteKey → Bool
names a b = then_by a.page.set b.page.set (numbers a b)

abbrev lows : WriteKey → WriteKey → Bool
lows a b = then_by (low_key_of b.rank) (low_key_of a.rank) (names a b)

abbrev turns : WriteKey → WriteKey → Bool
turns a b = then_by (turn_of a.rank) (turn_of b.rank) (lows a b)

less : (a b c : ℕ) → nat_lt a b ≡ true → nat_lt b c ≡ true → nat_lt a c ≡ true
less a b c h k = grind arith

same : (a b : ℕ) → nat_lt a b ≡ false → nat_lt b a ≡ false → a ≡ b
same a b h k = grind arith

by_names : (a b c : WriteKey) → names a b ≡ true → names b c ≡ true → names a c ≡ true
by_names a b c = transitive_then a.page.set b.page.set c.page.set (numbers a b) (numbers b c) (numbers a c) (less a.page.number b.page.number c.page.number)

by_lows : (a b c : WriteKey) → lows a b ≡ true → lows b c ≡ true → lows a c ≡ true
by_lows a b c h k =
    transitive_then (low_key_of c.rank) (low_key_of b.rank) (low_key_of a.rank) (names b c) (names a b) (names a c) (λ s t. by_names a b c t s) k h

by_turns : (a b c : WriteKey) → turns a b ≡ true → turns b c ≡ true → turns a c ≡ true
by_turns a b c = transitive_then (turn_of a.rank) (turn_of b.rank) (turn_of c.rank) (lows a b) (lows b c) (lows a c) (by_lows a b c)

pub transitive : (a b c : WriteKey) → is_before a b ≡ true → is_before b c ≡ true → is_before a c ≡ true
transitive a b c = transitive_then (table_of a) (table_of b) (table_of c) (turns a b) (turns b c) (turns a c) (by_turns a b c)

pub total : (a b : WriteKey) → is_before a b ≡ false → is_before b a ≡ false → a.page ≡ b.page
total a b h k =
    let t = equal_then (table_of a) (table_of b) (turns a b) (turns b a) h k in
    let u = equal_then (turn_of a.rank) (turn_of b.rank) (lows a b) (lows b a) t.1 t.2 in
    let v = equal_then (low_key_of b.rank) (low_key_of a.rank) (names a b) (names b a) u.1 u.2 in
    let w = equal_then a.page.set b.page.set (numbers a b) (numbers b a) v.1 v.2 in
    let n = same a.page.number b.page.number w.1 w.2 in
    λ i. record { set = w.0 i; number = n i }
