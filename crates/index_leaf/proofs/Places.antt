-- The entries of a page by their places, and how a search by halves finds them.
use Rattle.std.proofs.Common.{◌≡◌, ℕ, zero, suc, ◌+◌, ◌-◌, ◌*◌, ◌<◌, ◌≤◌, refl, sym, ap, ◌∙◌, subst, inl, inr, arith, Bool, true, false, List, [], ◌∷◌, length, get_or, Option, Some, None, if◌then◌else◌}
use Rattle.std.proofs.lemmas.Bool.{leb-false, cases_lt}
use Rattle.std.specs.Prelude.{leb, ◌==◌, slice_get}
use Rattle.index_leaf.specs.declared.layout.Entry.{Entry}
use Rattle.index_leaf.specs.Entries.{entry_width, entry_in, entries_from, AllAbove, IsRising}
use Rattle.index_leaf.specs.Search.{floor, find, how_many}

-- ---- entries by their places

pub length_entries : (page : List ℕ) (offset n : ℕ) → length (entries_from page offset n) ≡ n
length_entries page offset zero = refl
length_entries page offset (suc n) = ap suc (length_entries page (offset + entry_width) n)

pub entry_is : (page : List ℕ) (offset n i : ℕ) (d : Entry) → i < n → get_or (entries_from page offset n) i d ≡ entry_in page (offset + entry_width * i)
entry_is page offset zero i d h = absurd (omega arith)
entry_is page offset (suc n) zero d h = ap (entry_in page) (omega arith)
entry_is page offset (suc n) (suc i) d h =
    let there : offset + entry_width + entry_width * i ≡ offset + entry_width * suc i = omega arith in
    entry_is page (offset + entry_width) n i d (omega arith) ∙ ap (entry_in page) there

pub entry_get : (page : List ℕ) (offset n i : ℕ) → i < n → slice_get (entries_from page offset n) i ≡ Some (entry_in page (offset + entry_width * i))
entry_get page offset zero i h = absurd (omega arith)
entry_get page offset (suc n) zero h = ap (λ (o : ℕ). Some (entry_in page o)) (omega arith)
entry_get page offset (suc n) (suc i) h =
    let there : offset + entry_width + entry_width * i ≡ offset + entry_width * suc i = omega arith in
    entry_get page (offset + entry_width) n i (omega arith) ∙ ap (λ (o : ℕ). Some (entry_in page o)) there

pub entry_past : (page : List ℕ) (offset n i : ℕ) → n ≤ i → slice_get (entries_from page offset n) i ≡ None
entry_past page offset zero i h = refl
entry_past page offset (suc n) zero h = absurd (omega arith)
entry_past page offset (suc n) (suc i) h = entry_past page (offset + entry_width) n i (omega arith)

-- ---- searches

pub above_at : (es : List Entry) (b i : ℕ) (d : Entry) → AllAbove b es → i < length es → b < (get_or es i d).key
above_at [] b i d h lt = absurd (omega arith)
above_at (e ∷ es) b zero d h lt = h.0
above_at (e ∷ es) b (suc i) d h lt = above_at es b i d h.1 (omega arith)

pub many_end : (es : List Entry) (key : ℕ) → how_many es key ≤ length es
many_end [] key = omega arith
many_end (e ∷ es) key = let ih = many_end es key in grind (arith, ih)

pub many_below : (es : List Entry) (key i : ℕ) (d : Entry) → i < length es → key < (get_or es i d).key → how_many es key ≤ i
many_below [] key i d h lt = absurd (omega arith)
many_below (e ∷ es) key zero d h lt = grind arith
many_below (e ∷ es) key (suc i) d h lt = let ih = many_below es key i d (omega arith) lt in grind (arith, ih)

pub many_upto : (es : List Entry) (key i : ℕ) (d : Entry) → IsRising es → i < length es → (get_or es i d).key ≤ key → suc i ≤ how_many es key
many_upto [] key i d s h le = absurd (omega arith)
many_upto (e ∷ es) key zero d s h le = grind arith
many_upto (e ∷ es) key (suc i) d s h le =
    let ih = many_upto es key i d s.1 (omega arith) le in
    let a = above_at es e.key i d s.0 (omega arith) in
    grind (arith, ih, a)

pub floor_above : (es : List Entry) (b key : ℕ) → AllAbove b es → key ≤ b → floor es key ≡ None
floor_above [] b key h le = refl
floor_above (e ∷ es) b key h le =
    let ih = floor_above es b key h.1 le in
    let a = h.0 in
    grind (arith, ih, a)

-- the entry before this place
abbrev pub last_before : ℕ → List Entry → Entry → Option Entry
last_before zero es d = None
last_before (suc n) es d = Some (get_or es n d)

floor_step : (e : Entry) (es : List Entry) (key n : ℕ) (b : Bool) (d : Entry) → leb e.key key ≡ b → AllAbove e.key es → how_many es key ≡ n → floor es key ≡ last_before n es d → floor (e ∷ es) key ≡ last_before (how_many (e ∷ es) key) (e ∷ es) d
floor_step e es key zero true d is above many up = rw (is, many, up) refl
floor_step e es key (suc n) true d is above many up = rw (is, many, up) refl
floor_step e es key n false d is above many up =
    let lt = leb-false e.key key is in
    let none = floor_above es e.key key above (omega arith) in
    rw (is, none) refl

pub floor_is : (es : List Entry) (key : ℕ) (d : Entry) → IsRising es → floor es key ≡ last_before (how_many es key) es d
floor_is [] key d s = refl
floor_is (e ∷ es) key d s = floor_step e es key (how_many es key) (leb e.key key) d refl s.0 refl (floor_is es key d s.1)

pub floor_some_above : (es : List Entry) (b key : ℕ) (x : Entry) → AllAbove b es → floor es key ≡ Some x → b < key
floor_some_above es b key x h is =
    elim (cases_lt b key) as (λ _. b < key) [
      | inl lt ↦ lt
      | inr le ↦ let none = floor_above es b key h le in absurd (cc)
    ]

pub find_above : (es : List Entry) (b key : ℕ) → AllAbove b es → key ≤ b → find es key ≡ None
find_above [] b key h le = refl
find_above (e ∷ es) b key h le =
    let ih = find_above es b key h.1 le in
    let a = h.0 in
    grind (arith, ih, a)

-- the entry, where it is that of the key
abbrev pub exact : Option Entry → ℕ → Option Entry
exact None key = None
exact (Some e) key = if e.key == key then Some e else None

find_step : (e : Entry) (es : List Entry) (key : ℕ) (o : Option Entry) → AllAbove e.key es → floor es key ≡ o → find es key ≡ exact o key → find (e ∷ es) key ≡ exact (floor (e ∷ es) key) key
find_step e es key (Some x) above is up =
    let some = floor_some_above es e.key key x above is in
    rw (is, up) (grind (arith, some))
find_step e es key None above is up = rw (is, up) (grind arith)

pub find_is : (es : List Entry) (key : ℕ) → IsRising es → find es key ≡ exact (floor es key) key
find_is [] key s = refl
find_is (e ∷ es) key s = find_step e es key (floor es key) s.0 refl (find_is es key s.1)

-- ---- the same over the bytes of a page

pub page_end : (page : List ℕ) (offset n key : ℕ) → how_many (entries_from page offset n) key ≤ n
page_end page offset n key =
    let e = many_end (entries_from page offset n) key in
    let l = length_entries page offset n in
    omega (arith, e, l)

pub page_below : (page : List ℕ) (offset n key i : ℕ) → i < n → key < (entry_in page (offset + entry_width * i)).key → how_many (entries_from page offset n) key ≤ i
page_below page offset n key i h lt =
    let d = entry_in page offset in
    let l = length_entries page offset n in
    let is = entry_is page offset n i d h in
    many_below (entries_from page offset n) key i d (omega (arith, l)) (rw is lt)

pub page_upto : (page : List ℕ) (offset n key i : ℕ) → IsRising (entries_from page offset n) → i < n → (entry_in page (offset + entry_width * i)).key ≤ key → i + 1 ≤ how_many (entries_from page offset n) key
page_upto page offset n key i s h le =
    let d = entry_in page offset in
    let l = length_entries page offset n in
    let is = entry_is page offset n i d h in
    let up = many_upto (entries_from page offset n) key i d s (omega (arith, l)) (rw is le) in
    omega (arith, up)

pub floor_none : (es : List Entry) (key : ℕ) → IsRising es → how_many es key ≡ 0 → floor es key ≡ None
floor_none [] key s z = refl
floor_none (e ∷ es) key s z =
    floor_is (e ∷ es) key e s ∙ ap (λ (n : ℕ). last_before n (e ∷ es) e) z

pub floor_some : (page : List ℕ) (offset n key m : ℕ) → IsRising (entries_from page offset n) → m ≡ how_many (entries_from page offset n) key → 0 < m → floor (entries_from page offset n) key ≡ Some (entry_in page (offset + entry_width * (m - 1)))
floor_some page offset n key zero s is lt = absurd (omega arith)
floor_some page offset n key (suc m) s is lt =
    let d = entry_in page offset in
    let le = page_end page offset n key in
    let there : offset + entry_width * m ≡ offset + entry_width * (suc m - 1) = omega arith in
    floor_is (entries_from page offset n) key d s
    ∙ ap (λ (k : ℕ). last_before k (entries_from page offset n) d) (sym is)
    ∙ ap Some (entry_is page offset n m d (omega (arith, le)))
    ∙ ap (λ (o : ℕ). Some (entry_in page o)) there

-- ---- whether the keys rise

pub above_more : (es : List Entry) (a b : ℕ) → a < b → AllAbove b es → AllAbove a es
above_more [] a b lt h = tt
above_more (e ∷ es) a b lt h = let here = h.0 in (omega arith, above_more es a b lt h.1)

above_head : (page : List ℕ) (offset n a : ℕ) → (0 < n → a < (entry_in page offset).key) → IsRising (entries_from page offset n) → AllAbove a (entries_from page offset n)
above_head page offset zero a h s = tt
above_head page offset (suc n) a h s = (h (omega arith), above_more (entries_from page (offset + entry_width) n) a (entry_in page offset).key (h (omega arith)) s.0)

pub rising_from : (page : List ℕ) (offset n : ℕ) → ((k : ℕ) → k + 1 < n → (entry_in page (offset + entry_width * k)).key < (entry_in page (offset + entry_width * (k + 1))).key) → IsRising (entries_from page offset n)
rising_from page offset zero h = tt
rising_from page offset (suc n) h =
    let rest = rising_from page (offset + entry_width) n (λ k lt.
    let x : offset + entry_width * (k + 1) ≡ offset + entry_width + entry_width * k = omega arith in
    let y : offset + entry_width * (k + 1 + 1) ≡ offset + entry_width + entry_width * (k + 1) = omega arith in
    let P : ℕ → Type 0 = λ o. (entry_in page o).key < (entry_in page (offset + entry_width * (k + 1 + 1))).key in
    let Q : ℕ → Type 0 = λ o. (entry_in page (offset + entry_width + entry_width * k)).key < (entry_in page o).key in
    subst Q y (subst P x (h (k + 1) (omega arith)))) in (
      above_head page (offset + entry_width) n (entry_in page offset).key (λ lt.
          let x : offset + entry_width * 0 ≡ offset = omega arith in
          let y : offset + entry_width * (0 + 1) ≡ offset + entry_width = omega arith in
          let P : ℕ → Type 0 = λ o. (entry_in page o).key < (entry_in page (offset + entry_width * (0 + 1))).key in
          let Q : ℕ → Type 0 = λ o. (entry_in page offset).key < (entry_in page o).key in
          subst Q y (subst P x (h 0 (omega arith)))) rest,
      rest,
    )

pub rising_at : (page : List ℕ) (offset n k : ℕ) → IsRising (entries_from page offset n) → k + 1 < n → (entry_in page (offset + entry_width * k)).key < (entry_in page (offset + entry_width * (k + 1))).key
rising_at page offset zero k s h = absurd (omega arith)
rising_at page offset (suc zero) k s h = absurd (omega arith)
rising_at page offset (suc (suc n)) zero s h =
    let x : offset ≡ offset + entry_width * 0 = omega arith in
    let y : offset + entry_width ≡ offset + entry_width * (0 + 1) = omega arith in
    let P : ℕ → Type 0 = λ o. (entry_in page o).key < (entry_in page (offset + entry_width)).key in
    let Q : ℕ → Type 0 = λ o. (entry_in page (offset + entry_width * 0)).key < (entry_in page o).key in
    subst Q y (subst P x s.0.0)
rising_at page offset (suc (suc n)) (suc k) s h =
    let x : offset + entry_width + entry_width * k ≡ offset + entry_width * suc k = omega arith in
    let y : offset + entry_width + entry_width * (k + 1) ≡ offset + entry_width * (suc k + 1) = omega arith in
    let P : ℕ → Type 0 = λ o. (entry_in page o).key < (entry_in page (offset + entry_width + entry_width * (k + 1))).key in
    let Q : ℕ → Type 0 = λ o. (entry_in page (offset + entry_width * suc k)).key < (entry_in page o).key in
    subst Q y (subst P x (rising_at page (offset + entry_width) (suc n) k s.1 (omega arith)))
