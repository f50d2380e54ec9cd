-- What is read of a page after patches.
use Rattle.std.proofs.Common.{◌≡◌, ℕ, zero, suc, ◌+◌, ◌-◌, ◌*◌, ◌^◌, ◌<◌, ◌≤◌, refl, sym, ap, ◌∙◌, arith, List, [], ◌∷◌, ◌++◌, length, get_or, take, drop, append_assoc}
use Rattle.std.proofs.lemmas.List.{append-nil, drop_at, get_or_append_left, get_or-append_right, get_or-take, get_or-drop, length-append, length-take-le, length-drop}
use Rattle.byteorder.specs.Endian.{big_from, big_number}
use Rattle.byteorder.specs.Numbers.{big_number-reads_back, length-bytes_high_first}
use Rattle.page_format.specs.Fields.{number_in, patched}
use Rattle.index_leaf.specs.declared.layout.Entry.{Entry}
use Rattle.index_leaf.specs.Entries.{entry_width, count_of, entry_in, entries_from}
use Rattle.index_leaf.specs.Changes.{spelt, entry_bytes}

-- ---- single bytes

pub length_patched : (page bytes : List ℕ) (at : ℕ) → at + length bytes ≤ length page → length (patched page at bytes) ≡ length page
unfolding patched
length_patched page bytes at h =
    let a = length-append (take at page ++ bytes) (drop (at + length bytes) page) in
    let b = length-append (take at page) bytes in
    let t = length-take-le at page (omega arith) in
    let d = length-drop (at + length bytes) page in
    omega (arith, a, b, t, d)

pub byte_before : (page bytes : List ℕ) (at k : ℕ) → at ≤ length page → k < at → get_or (patched page at bytes) k 0 ≡ get_or page k 0
unfolding patched
byte_before page bytes at k h lt =
    let t = length-take-le at page h in
    let b = length-append (take at page) bytes in
    get_or_append_left (take at page ++ bytes) (drop (at + length bytes) page) 0 k (omega (arith, t, b))
    ∙ get_or_append_left (take at page) bytes 0 k (omega (arith, t))
    ∙ get_or-take at page k 0 lt

pub byte_inside : (page bytes : List ℕ) (at k : ℕ) → at ≤ length page → k < length bytes → get_or (patched page at bytes) (at + k) 0 ≡ get_or bytes k 0
unfolding patched
byte_inside page bytes at k h lt =
    let t = length-take-le at page h in
    let b = length-append (take at page) bytes in
    let there : at + k - at ≡ k = omega arith in
    get_or_append_left (take at page ++ bytes) (drop (at + length bytes) page) 0 (at + k) (omega (arith, t, b))
    ∙ get_or-append_right (take at page) bytes at (at + k) 0 t (omega arith)
    ∙ ap (λ (n : ℕ). get_or bytes n 0) there

pub byte_behind : (page bytes : List ℕ) (at k : ℕ) → at ≤ length page → at + length bytes ≤ k → get_or (patched page at bytes) k 0 ≡ get_or page k 0
unfolding patched
byte_behind page bytes at k h le =
    let t = length-take-le at page h in
    let b = length-append (take at page) bytes in
    let there : at + length bytes + (k - (at + length bytes)) ≡ k = omega arith in
    get_or-append_right (take at page ++ bytes) (drop (at + length bytes) page) (at + length bytes) k 0 (omega (arith, t, b)) le
    ∙ get_or-drop (at + length bytes) page (k - (at + length bytes)) 0
    ∙ ap (λ (n : ℕ). get_or page n 0) there

-- ---- numbers

-- the same bytes are the same number
same_from : (n i j : ℕ) (xs ys : List ℕ) → ((k : ℕ) → k < n → get_or xs (i + k) 0 ≡ get_or ys (j + k) 0) → big_from i n xs ≡ big_from j n ys
same_from zero i j xs ys h = refl
same_from (suc n) i j xs ys h =
    let here_x : i ≡ i + 0 = omega arith in
    let here_y : j + 0 ≡ j = omega arith in
    let first : get_or xs i 0 ≡ get_or ys j 0 =
    ap (λ (k : ℕ). get_or xs k 0) here_x ∙ h 0 (omega arith) ∙ ap (λ (k : ℕ). get_or ys k 0) here_y in
    let rest = same_from n (suc i) (suc j) xs ys (λ k lt.
    let next_x : suc i + k ≡ i + suc k = omega arith in
    let next_y : j + suc k ≡ suc j + k = omega arith in
    ap (λ (m : ℕ). get_or xs m 0) next_x ∙ h (suc k) (omega arith) ∙ ap (λ (m : ℕ). get_or ys m 0) next_y) in
    rw (first, rest) refl

pub same_number : (xs ys : List ℕ) (i j width : ℕ) → ((k : ℕ) → k < width → get_or xs (i + k) 0 ≡ get_or ys (j + k) 0) → number_in xs i width ≡ number_in ys j width
same_number xs ys i j width h =
    same_from width 0 0 (drop i xs) (drop j ys) (λ k lt.
    let x : 0 + k ≡ k = omega arith in
    ap (λ (m : ℕ). get_or (drop i xs) m 0) x ∙ get_or-drop i xs k 0 ∙ h k lt ∙ sym (get_or-drop j ys k 0) ∙ ap (λ (m : ℕ). get_or (drop j ys) m 0) (sym x))

-- a number that was spelt, at the front of some bytes
pub read_spelt : (width number : ℕ) (rest : List ℕ) → number < 256 ^ width → number_in (spelt width number ++ rest) 0 width ≡ number
unfolding spelt
read_spelt width number rest h = big_number-reads_back width number rest h

pub length_spelt : (width number : ℕ) → length (spelt width number) ≡ width
unfolding spelt
length_spelt width number = length-bytes_high_first width number

-- the same, with the offset in two parts
moved_on : (xs ys : List ℕ) (i j m k : ℕ) → get_or xs (i + (m + k)) 0 ≡ get_or ys (j + (m + k)) 0 → get_or xs (i + m + k) 0 ≡ get_or ys (j + m + k) 0
moved_on xs ys i j m k h =
    let x : i + m + k ≡ i + (m + k) = omega arith in
    let y : j + (m + k) ≡ j + m + k = omega arith in
    ap (λ (o : ℕ). get_or xs o 0) x ∙ h ∙ ap (λ (o : ℕ). get_or ys o 0) y

-- ---- entries

pub same_entry : (xs ys : List ℕ) (i j : ℕ) → ((k : ℕ) → k < entry_width → get_or xs (i + k) 0 ≡ get_or ys (j + k) 0) → entry_in xs i ≡ entry_in ys j
unfolding entry_in
same_entry xs ys i j h =
    let key = same_number xs ys i j 8 (λ k lt. h k (omega arith)) in
    let page = same_number xs ys (i + 8) (j + 8) 4 (λ k lt. moved_on xs ys i j 8 k (h (8 + k) (omega arith))) in
    let slot = same_number xs ys (i + 12) (j + 12) 2 (λ k lt. moved_on xs ys i j 12 k (h (12 + k) (omega arith))) in
    rw (key, page, slot) refl

pub same_entries : (n : ℕ) (xs ys : List ℕ) (i j : ℕ) → ((k : ℕ) → k < entry_width * n → get_or xs (i + k) 0 ≡ get_or ys (j + k) 0) → entries_from xs i n ≡ entries_from ys j n
same_entries zero xs ys i j h = refl
same_entries (suc n) xs ys i j h =
    let first = same_entry xs ys i j (λ k lt. h k (omega arith)) in
    let rest = same_entries n xs ys (i + entry_width) (j + entry_width) (λ k lt. moved_on xs ys i j entry_width k (h (entry_width + k) (omega arith))) in
    rw (first, rest) refl

pub entries_add : (m n : ℕ) (page : List ℕ) (offset : ℕ) → entries_from page offset (m + n) ≡ entries_from page offset m ++ entries_from page (offset + entry_width * m) n
entries_add zero n page offset =
    let none : 0 + n ≡ n = omega arith in
    let there : offset ≡ offset + entry_width * 0 = omega arith in
    ap (entries_from page offset) none ∙ ap (λ (o : ℕ). entries_from page o n) there
entries_add (suc m) n page offset =
    let more : suc m + n ≡ suc (m + n) = omega arith in
    let there : offset + entry_width + entry_width * m ≡ offset + entry_width * suc m = omega arith in
    ap (entries_from page offset) more
    ∙ ap (λ (es : List Entry). entry_in page offset ∷ es) (entries_add m n page (offset + entry_width) ∙ ap (λ (o : ℕ). entries_from page (offset + entry_width) m ++ entries_from page o n) there)

-- ---- what was patched is read back

pub read_at : (front rest : List ℕ) (offset width number : ℕ) → length front ≡ offset → number < 256 ^ width → number_in (front ++ (spelt width number ++ rest)) offset width ≡ number
read_at front rest offset width number l h =
    ap (λ (ys : List ℕ). big_number width ys) (drop_at front (spelt width number ++ rest) offset l) ∙ read_spelt width number rest h

-- a number of the patched page lies in the patch
pub number_inside : (page bytes : List ℕ) (at offset width : ℕ) → at ≤ length page → offset + width ≤ length bytes → number_in (patched page at bytes) (at + offset) width ≡ number_in bytes offset width
number_inside page bytes at offset width h le =
    same_number (patched page at bytes) bytes (at + offset) offset width (λ k lt.
    let x : at + offset + k ≡ at + (offset + k) = omega arith in
    ap (λ (o : ℕ). get_or (patched page at bytes) o 0) x ∙ byte_inside page bytes at (offset + k) h (omega arith))

-- a number before the patch
pub number_before : (page bytes : List ℕ) (at offset width : ℕ) → at ≤ length page → offset + width ≤ at → number_in (patched page at bytes) offset width ≡ number_in page offset width
number_before page bytes at offset width h le =
    same_number (patched page at bytes) page offset offset width (λ k lt. byte_before page bytes at (offset + k) h (omega arith))

-- a number behind the patch
pub number_behind : (page bytes : List ℕ) (at offset width : ℕ) → at ≤ length page → at + length bytes ≤ offset → number_in (patched page at bytes) offset width ≡ number_in page offset width
number_behind page bytes at offset width h le =
    same_number (patched page at bytes) page offset offset width (λ k lt. byte_behind page bytes at (offset + k) h (omega arith))

-- a count that was patched
pub count_read : (page : List ℕ) (count : ℕ) → 28 ≤ length page → count < 256 ^ 2 → count_of (patched page 26 (spelt 2 count)) ≡ count
unfolding count_of
count_read page count le h =
    let l = length_spelt 2 count in
    number_inside page (spelt 2 count) 26 0 2 (omega arith) (omega (arith, l))
    ∙ ap (λ (ys : List ℕ). number_in ys 0 2) (sym (append-nil (spelt 2 count)))
    ∙ read_spelt 2 count [] h

pub count_kept : (page bytes : List ℕ) (at : ℕ) → at ≤ length page → 28 ≤ at → count_of (patched page at bytes) ≡ count_of page
unfolding count_of
count_kept page bytes at h le = number_before page bytes at 26 2 h le

made_entry : (all : List ℕ) (e : Entry) → number_in all 0 8 ≡ e.key → number_in all 8 4 ≡ e.place.page → number_in all 12 2 ≡ e.place.slot → entry_in all 0 ≡ e
unfolding entry_in
made_entry all e key page slot =
    let make : ℕ → ℕ → ℕ → Entry = λ k p s. record { key = k; place = record { page = p; slot = s } } in
    ap (λ (k : ℕ). make k (number_in all 8 4) (number_in all 12 2)) key
    ∙ ap (λ (p : ℕ). make e.key p (number_in all 12 2)) page
    ∙ ap (λ (s : ℕ). make e.key e.place.page s) slot

pub entry_read : (e : Entry) (rest : List ℕ) → e.key < 256 ^ 8 → e.place.page < 256 ^ 4 → e.place.slot < 256 ^ 2 → entry_in (entry_bytes e ++ rest) 0 ≡ e
unfolding entry_in entry_bytes
entry_read e rest hk hp hs =
    let k = spelt 8 e.key in
    let p = spelt 4 e.place.page in
    let s = spelt 2 e.place.slot in
    let z : List ℕ = 0 ∷ 0 ∷ [] in
    let all : List ℕ = k ++ p ++ s ++ z ++ rest in
    let lk = length_spelt 8 e.key in
    let lp = length_spelt 4 e.place.page in
    let lkp = length-append k p in
    let as_key : all ≡ [] ++ (k ++ (p ++ (s ++ (z ++ rest)))) = simp append_assoc in
    let as_page : all ≡ k ++ (p ++ (s ++ (z ++ rest))) = simp append_assoc in
    let as_slot : all ≡ (k ++ p) ++ (s ++ (z ++ rest)) = simp append_assoc in
    let key : number_in all 0 8 ≡ e.key = ap (λ (ys : List ℕ). number_in ys 0 8) as_key ∙ read_at [] (p ++ (s ++ (z ++ rest))) 0 8 e.key refl hk in
    let page : number_in all 8 4 ≡ e.place.page = ap (λ (ys : List ℕ). number_in ys 8 4) as_page ∙ read_at k (s ++ (z ++ rest)) 8 4 e.place.page lk hp in
    let slot : number_in all 12 2 ≡ e.place.slot = ap (λ (ys : List ℕ). number_in ys 12 2) as_slot ∙ read_at (k ++ p) (z ++ rest) 12 2 e.place.slot (omega (arith, lk, lp, lkp)) hs in
    made_entry all e key page slot

pub length_entry : (e : Entry) → length (entry_bytes e) ≡ entry_width
unfolding entry_bytes
length_entry e =
    let k = length_spelt 8 e.key in
    let p = length_spelt 4 e.place.page in
    let s = length_spelt 2 e.place.slot in
    simp length-append (omega (arith, k, p, s))
