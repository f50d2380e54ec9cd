-- The entries of pages after an insertion and after a split.
use Rattle.std.proofs.Common.{◌≡◌, ℕ, suc, ◌+◌, ◌-◌, ◌*◌, ◌^◌, ◌<◌, ◌≤◌, refl, sym, ap, ◌∙◌, subst, inl, inr, arith, if◌then◌else◌, Bool, true, false, List, [], ◌∷◌, ◌++◌, length, get_or, take, drop}
use Rattle.std.specs.Prelude.{leb, ◌==◌, slice_range, Result, Ok, Err, IfOk}
use Rattle.std.proofs.lemmas.List.{take_at, drop_at, get_or-append_right, length-append}
use Rattle.std.proofs.lemmas.List.Edits.{length-between, get_or-between}
use Rattle.page_format.specs.Fields.{patched}
use Rattle.index_leaf.specs.declared.layout.Entry.{Entry}
use Rattle.index_leaf.specs.Entries.{entry_width, count_of, entry_in, entries_from, entries_of}
use Rattle.index_leaf.specs.Search.{how_many}
use Rattle.index_leaf.specs.Changes.{spelt, entry_bytes, entered, moved_patch, insert_patches, all_patched, inserted, Enters}
use Rattle.index_leaf.specs.declared.growth.Inserted.{Inserted}
use Rattle.index_leaf.specs.declared.growth.Inserted.TheVariants.{MustSplit, Done}
use Rattle.std.proofs.lemmas.Bool.{eqb-false, cases_eq}
use Rattle.index_leaf.proofs.Places.{length_entries, page_end}
use Rattle.index_leaf.proofs.Writes.{length_patched, byte_before, byte_inside, byte_behind, length_spelt, length_entry, same_entry, same_entries, entries_add, count_read, count_kept, entry_read}

-- ---- parts of the entries

pub take_entries : (page : List ℕ) (offset m n : ℕ) → take m (entries_from page offset (m + n)) ≡ entries_from page offset m
take_entries page offset m n =
    ap (take m) (entries_add m n page offset) ∙ take_at (entries_from page offset m) (entries_from page (offset + entry_width * m) n) m (length_entries page offset m)

pub drop_entries : (page : List ℕ) (offset m n : ℕ) → drop m (entries_from page offset (m + n)) ≡ entries_from page (offset + entry_width * m) n
drop_entries page offset m n =
    ap (drop m) (entries_add m n page offset) ∙ drop_at (entries_from page offset m) (entries_from page (offset + entry_width * m) n) m (length_entries page offset m)

entered_step : (x : Entry) (xs : List Entry) (e : Entry) (b : Bool) → leb x.key e.key ≡ b → entered xs e ≡ take (how_many xs e.key) xs ++ e ∷ drop (how_many xs e.key) xs → entered (x ∷ xs) e ≡ take (how_many (x ∷ xs) e.key) (x ∷ xs) ++ e ∷ drop (how_many (x ∷ xs) e.key) (x ∷ xs)
entered_step x xs e true is ih = rw (is, ih) refl
entered_step x xs e false is ih = rw is refl

pub entered_is : (es : List Entry) (e : Entry) → entered es e ≡ take (how_many es e.key) es ++ e ∷ drop (how_many es e.key) es
entered_is [] e = refl
entered_is (x ∷ xs) e = entered_step x xs e (leb x.key e.key) refl (entered_is xs e)

-- ---- an insertion

-- the bytes of the entries that were moved
moved_byte : (page front : List ℕ) (from to k : ℕ) → length front ≡ 16 → from + k < to → get_or (front ++ slice_range page from to) (16 + k) 0 ≡ get_or page (from + k) 0
moved_byte page front from to k l lt =
    let there : 16 + k - 16 ≡ k = omega arith in
    get_or-append_right front (slice_range page from to) 16 (16 + k) 0 l (omega arith)
    ∙ ap (λ (o : ℕ). get_or (slice_range page from to) o 0) there
    ∙ get_or-between page from to k 0 lt

-- the entries of a page with one written over those from a place on
written : (page counted : List ℕ) (e : Entry) (p m : ℕ) → 64 + 16 * (p + m) + 16 ≤ length counted → 64 + 16 * (p + m) ≤ length page → length counted ≡ length page
    → ((k : ℕ) → 28 ≤ k → get_or counted k 0 ≡ get_or page k 0)
    → e.key < 256 ^ 8 → e.place.page < 256 ^ 4 → e.place.slot < 256 ^ 2
    → entries_from (patched counted (64 + 16 * p) (entry_bytes e ++ slice_range page (64 + 16 * p) (64 + 16 * (p + m)))) 64 (p + (1 + m))
    ≡ entries_from page 64 p ++ e ∷ entries_from page (64 + 16 * p) m
written page counted e p m room le same kept hk hp hs =
    let from = 64 + 16 * p in
    let to = 64 + 16 * (p + m) in
    let bytes = entry_bytes e ++ slice_range page from to in
    let new = patched counted from bytes in
    let le_entry = length_entry e in
    let lr = length-between page from to (omega arith) in
    let la = length-append (entry_bytes e) (slice_range page from to) in
    let lb : length bytes ≡ 16 + 16 * m = omega (arith, le_entry, lr, la) in
    let front = same_entries p new page 64 64 (λ k lt. byte_before counted bytes from (64 + k) (omega arith) (omega arith) ∙ kept (64 + k) (omega arith)) in
    let here : entry_in new from ≡ e =
    same_entry new bytes from 0 (λ k lt.
    let z : k ≡ 0 + k = omega arith in
    byte_inside counted bytes from k (omega arith) (omega (arith, lb)) ∙ ap (λ (o : ℕ). get_or bytes o 0) z)
    ∙ entry_read e (slice_range page from to) hk hp hs in
    let rest = same_entries m new page (from + 16) from (λ k lt.
    let x : from + 16 + k ≡ from + (16 + k) = omega arith in
    ap (λ (o : ℕ). get_or new o 0) x ∙ byte_inside counted bytes from (16 + k) (omega arith) (omega (arith, lb)) ∙ moved_byte page (entry_bytes e) from to k le_entry (omega arith)) in
    let one : 1 + m ≡ suc m = omega arith in
    entries_add p (1 + m) new 64
    ∙ ap (λ (n : ℕ). entries_from new 64 p ++ entries_from new from n) one
    ∙ ap (λ (es : List Entry). es ++ entry_in new from ∷ entries_from new (from + 16) m) front
    ∙ ap (λ (x : Entry). entries_from page 64 p ++ x ∷ entries_from new (from + 16) m) here
    ∙ ap (λ (es : List Entry). entries_from page 64 p ++ e ∷ es) rest

-- the page after an entry of this place among so many was written
abbrev pub placed : List ℕ → Entry → ℕ → ℕ → List ℕ
placed page e p n = patched (patched page 26 (spelt 2 (n + 1))) (64 + 16 * p) (entry_bytes e ++ slice_range page (64 + 16 * p) (64 + 16 * n))

placed_entries : (page : List ℕ) (e : Entry) (p m : ℕ) → length page ≡ 4096 → p + m < 252
    → e.key < 256 ^ 8 → e.place.page < 256 ^ 4 → e.place.slot < 256 ^ 2
    → entries_of (placed page e p (p + m)) ≡ entries_from page 64 p ++ e ∷ entries_from page (64 + 16 * p) m
placed_entries page e p m l lt hk hp hs =
    let c = spelt 2 (p + m + 1) in
    let counted = patched page 26 c in
    let bytes = entry_bytes e ++ slice_range page (64 + 16 * p) (64 + 16 * (p + m)) in
    let lc = length_spelt 2 (p + m + 1) in
    let same : length counted ≡ length page = length_patched page c 26 (omega (arith, lc)) in
    let count : count_of (patched counted (64 + 16 * p) bytes) ≡ p + m + 1 =
    count_kept counted bytes (64 + 16 * p) (omega (arith, same)) (omega arith) ∙ count_read page (p + m + 1) (omega arith) (omega arith) in
    let more : p + m + 1 ≡ p + (1 + m) = omega arith in
    ap (entries_from (patched counted (64 + 16 * p) bytes) 64) (count ∙ more)
    ∙ written page counted e p m (omega (arith, same)) (omega arith) same (λ k le. byte_behind page c 26 k (omega arith) (omega (arith, lc))) hk hp hs

entered_entries : (page : List ℕ) (e : Entry) (p m : ℕ) → p ≡ how_many (entries_of page) e.key → count_of page ≡ p + m
    → entered (entries_of page) e ≡ entries_from page 64 p ++ e ∷ entries_from page (64 + 16 * p) m
entered_entries page e p m many count =
    let F : List Entry → List Entry → List Entry = λ front back. front ++ e ∷ back in
    entered_is (entries_of page) e
    ∙ ap (λ (q : ℕ). F (take q (entries_of page)) (drop q (entries_of page))) (sym many)
    ∙ ap (λ (n : ℕ). F (take p (entries_from page 64 n)) (drop p (entries_from page 64 n))) count
    ∙ ap (λ (front : List Entry). F front (drop p (entries_from page 64 (p + m)))) (take_entries page 64 p m)
    ∙ ap (λ (back : List Entry). F (entries_from page 64 p) back) (drop_entries page 64 p m)

pub enters : (page : List ℕ) (e : Entry) (p m : ℕ) → length page ≡ 4096 → p ≡ how_many (entries_of page) e.key → count_of page ≡ p + m → p + m < 252
    → e.key < 256 ^ 8 → e.place.page < 256 ^ 4 → e.place.slot < 256 ^ 2
    → entries_of (all_patched page (insert_patches page e)) ≡ entered (entries_of page) e
unfolding moved_patch
enters page e p m l many count lt hk hp hs =
    ap (λ (q : ℕ). entries_of (placed page e q (count_of page))) (sym many)
    ∙ ap (λ (n : ℕ). entries_of (placed page e p n)) count
    ∙ placed_entries page e p m l lt hk hp hs
    ∙ sym (entered_entries page e p m many count)

enters_by : (page : List ℕ) (e : Entry) (b : Bool) → (count_of page == 252) ≡ b → length page ≡ 4096 → count_of page ≤ 252
    → e.key < 256 ^ 8 → e.place.page < 256 ^ 4 → e.place.slot < 256 ^ 2
    → Enters page e (if b then MustSplit else Done (insert_patches page e))
enters_by page e true is l le hk hp hs = tt
enters_by page e false is l le hk hp hs =
    let ne = eqb-false (count_of page) 252 is in
    let p = how_many (entries_of page) e.key in
    let up : p ≤ count_of page = page_end page 64 (count_of page) e.key in
    let count : count_of page ≡ p + (count_of page - p) = omega arith in
    let lt : count_of page < 252 = elim (cases_eq (count_of page) 252) as (λ _. count_of page < 252) [ inl y ↦ absurd (ne y) | inr n ↦ omega arith ] in
    enters page e p (count_of page - p) l refl count (omega arith) hk hp hs

pub enters_if : {E : Type 0} (page : List ℕ) (e : Entry) (r : Result Inserted E) → length page ≡ 4096 → count_of page ≤ 252
    → e.key < 256 ^ 8 → e.place.page < 256 ^ 4 → e.place.slot < 256 ^ 2
    → IfOk r (λ i. i ≡ inserted page e) → IfOk r (λ i. Enters page e i)
enters_if page e (Ok i) l le hk hp hs is = subst (λ (j : Inserted). Enters page e j) (sym is) (enters_by page e (count_of page == 252) refl l le hk hp hs)
enters_if page e (Err x) l le hk hp hs is = tt
