-- Keys that rise, and a walk over the entries of a page.
use Rattle.std.proofs.Common.{◌≡◌, ℕ, suc, zero, ◌+◌, ◌<◌, ◌≤◌, refl, ap, arith, Bool, true, false, List, [], ◌∷◌, length, drop, Option, Some, None, if◌then◌else◌}
use Rattle.std.specs.Prelude.{nat_lt, slice_get}
use Rattle.ds_base.specs.declared.names.Place.{Place}
use Rattle.index_leaf.specs.declared.layout.Entry.{Entry}
use Rattle.index_leaf.specs.Entries.{count_of, entries_of, entries_from, AllAbove, IsRising}
use Rattle.index_leaf.specs.Search.{pair_of}
use Rattle.rising_keys.specs.Falls.{fall_from, fall_of}

-- ---- rising keys

above_all : (es : List Entry) (low key : ℕ) → low < key → AllAbove key es → AllAbove low es
above_all [] low key lt h = tt
above_all (e ∷ es) low key lt h = (omega (arith, h.0), above_all es low key lt h.1)

test_passed : (b : Bool) (o : Option ℕ) (at : ℕ) → (if b then o else Some at) ≡ None → (b ≡ true) × (o ≡ None)
test_passed true o at h = (refl, h)
test_passed false o at h = absurd (cc)

lt_of : (a b : ℕ) → nat_lt a b ≡ true → a < b
lt_of a b h = grind arith

rising_from : (es : List Entry) (offset key : ℕ) → fall_from offset key es ≡ None → AllAbove key es × IsRising es
rising_from [] offset key h = (tt, tt)
rising_from (e ∷ es) offset key h =
    let c = test_passed (nat_lt key e.key) (fall_from (offset + 16) e.key es) offset h in
    let lt = lt_of key e.key c.0 in
    let ih = rising_from es (offset + 16) e.key c.1 in
    ((lt, above_all es key e.key lt ih.0), (ih.0, ih.1))

pub rising_of : (es : List Entry) → fall_of es ≡ None → IsRising es
rising_of [] h = tt
rising_of (e ∷ es) h = rising_from es 80 e.key h

-- ---- a walk over the entries

pub drop_nil : (n : ℕ) → drop n (let none : List Entry = [] in none) ≡ []
drop_nil zero = refl
drop_nil (suc n) = refl

pub fall_none : (es : List Entry) → pair_of (slice_get es 0) ≡ None → fall_of es ≡ None
fall_none [] h = refl
fall_none (e ∷ es) h = absurd (cc)

pub fall_some : (es : List Entry) (key : ℕ) (place : Place) → pair_of (slice_get es 0) ≡ Some (key, place) → fall_of es ≡ fall_from 80 key (drop 1 es)
fall_some [] key place h = absurd (cc)
fall_some (e ∷ es) key place h = grind arith

pub fall_last : (es : List Entry) (at offset last : ℕ) → pair_of (slice_get es at) ≡ None → fall_from offset last (drop at es) ≡ None
fall_last [] at offset last h = ap (λ (es : List Entry). fall_from offset last es) (drop_nil at)
fall_last (e ∷ es) zero offset last h = absurd (cc)
fall_last (e ∷ es) (suc at) offset last h = fall_last es at offset last h

fall_suc : (es : List Entry) (at offset last key : ℕ) (place : Place) → pair_of (slice_get es at) ≡ Some (key, place) → fall_from offset last (drop at es) ≡ (if nat_lt last key then fall_from (offset + 16) key (drop (suc at) es) else Some offset)
fall_suc [] at offset last key place h = absurd (cc)
fall_suc (e ∷ es) zero offset last key place h = grind arith
fall_suc (e ∷ es) (suc at) offset last key place h = fall_suc es at offset last key place h

pub fall_next : (es : List Entry) (at offset last key : ℕ) (place : Place) → pair_of (slice_get es at) ≡ Some (key, place) → fall_from offset last (drop at es) ≡ (if nat_lt last key then fall_from (offset + 16) key (drop (at + 1) es) else Some offset)
fall_next es at offset last key place h = let next : at + 1 ≡ suc at = omega arith in rw next (fall_suc es at offset last key place h)

pub length_entries : (page : List ℕ) (offset n : ℕ) → length (entries_from page offset n) ≡ n
length_entries page offset zero = refl
length_entries page offset (suc n) = ap suc (length_entries page (offset + 16) n)

pub drop_past : (es : List Entry) (n : ℕ) → length es ≤ n → drop n es ≡ []
drop_past [] n h = drop_nil n
drop_past (e ∷ es) zero h = absurd (omega arith)
drop_past (e ∷ es) (suc n) h = drop_past es n (omega arith)

pub fall_past : (page : List ℕ) (n offset last : ℕ) → count_of page ≤ n → fall_from offset last (drop n (entries_of page)) ≡ None
fall_past page n offset last h =
    let past = drop_past (entries_of page) n (omega (arith, length_entries page 64 (count_of page), h)) in
    ap (λ (es : List Entry). fall_from offset last es) past
