-- The entries of a page by their keys.
use Rattle.std.proofs.Common.{◌≡◌, ◌≢◌, ℕ, zero, suc, ◌+◌, ◌<◌, ◌≤◌, Bool, true, false, List, [], ◌∷◌, ◌++◌, length, take, Option, Some, None, refl, sym, ap, subst, ◌∙◌, arith}
use Rattle.std.specs.Prelude.{◌==◌, if◌then◌else◌, slice_get, Contains, unwrap_or}
use Rattle.std.proofs.lemmas.Bool.Decides.{nat_tests}
use Rattle.std.proofs.lemmas.List.{take_more, take_all}
use Rattle.std.proofs.lemmas.Option.{slice_get_within, get_or_from_slice_get, slice_get-get_or}
use Rattle.ds_base.specs.declared.names.Place.{Place}
use Rattle.index_leaf.specs.declared.layout.Entry.{Entry}
use Rattle.index_leaf.specs.Entries.{entry_width, first_entry_at, count_of, entries_from, entries_of, AllAbove, IsRising}
use Rattle.index_leaf.specs.Search.{find, pair_of}
use Rattle.index_protocol.specs.Index.{Kind, Branch}
use Rattle.sound_disk.specs.Index_views.{leads}
use Rattle.table_pages.proofs.Booleans.{equal, itself}
use Rattle.index_links.specs.Links.{starts}

-- ---- reading

pair_is : (o : Option Entry) (key : ℕ) (place : Place) → Some (key, place) ≡ pair_of o → o ≡ Some (record { key = key; place = place })
pair_is None key place h = absurd cc
pair_is (Some e) key place h =
    let k : key ≡ e.key = ap (λ (o : Option (ℕ × Place)). (unwrap_or o (key, place)).0) h in
    let p : place ≡ e.place = ap (λ (o : Option (ℕ × Place)). (unwrap_or o (key, place)).1) h in
    ap (λ (x : ℕ). Some (record { key = x; place = e.place })) (sym k) ∙ ap (λ (x : Place). Some (record { key = key; place = x })) (sym p)

length_from : (page : List ℕ) (offset n : ℕ) → length (entries_from page offset n) ≡ n
length_from page offset zero = refl
length_from page offset (suc n) = let ih = length_from page (offset + entry_width) n in omega (arith, ih)

pub read_more : (page : List ℕ) (es : List Entry) (n key : ℕ) (place : Place) → es ≡ take n (entries_of page) → Some (key, place) ≡ pair_of (slice_get (entries_of page) n)
    → es ++ record { key = key; place = place } ∷ [] ≡ take (n + 1) (entries_of page)
read_more page es n key place h at =
    let e : Entry = record { key = key; place = place } in
    let there = pair_is (slice_get (entries_of page) n) key place at in
    ap (λ (xs : List Entry). xs ++ e ∷ []) h
    ∙ sym (take_more (entries_of page) n e (slice_get_within (entries_of page) n e there) ∙ ap (λ (x : Entry). take n (entries_of page) ++ x ∷ []) (get_or_from_slice_get (entries_of page) n e e there))

pub read_all : (page : List ℕ) (es : List Entry) (n : ℕ) → es ≡ take n (entries_of page) → count_of page ≤ n → es ≡ entries_of page
read_all page es n h le = let len = length_from page first_entry_at (count_of page) in h ∙ take_all n (entries_of page) (omega (arith, len, le))

none_at : (es : List Entry) (n : ℕ) → None ≡ pair_of (slice_get es n) → n < length es → ⊥
none_at [] n h lt = omega (arith, lt)
none_at (x ∷ xs) n h lt = absurd (cc (h, slice_get-get_or (x ∷ xs) n x lt))

pub read_none : (page : List ℕ) (n : ℕ) → None ≡ pair_of (slice_get (entries_of page) n) → n < count_of page → ⊥
read_none page n h lt = let len = length_from page first_entry_at (count_of page) in none_at (entries_of page) n h (omega (arith, len, lt))

-- ---- finding

later : (x : Entry) (xs : List Entry) (e : Entry) → Contains xs e → Contains (x ∷ xs) e
later x xs e (k, lt, same) = (suc k, omega arith, same)

pub record IsFound (es : List Entry) (key : ℕ) (e : Entry) : Type 0 where
  pub among : Contains es e
  pub key_is : e.key ≡ key

find_cons : (x : Entry) (xs : List Entry) (key : ℕ) (e : Entry) (b : Bool) → (x.key == key) ≡ b → (find xs key ≡ Some e → IsFound xs key e) → (if b then Some x else find xs key) ≡ Some e → IsFound (x ∷ xs) key e
find_cons x xs key e true is ih h =
    let same : x ≡ e = some_same x e h in
    record { among = (zero, omega arith, same); key_is = ap (λ (y : Entry). y.key) (sym same) ∙ equal x.key key is }
  where
    some_same : (a b : Entry) → Some a ≡ Some b → a ≡ b
    some_same a b q = cc
find_cons x xs key e false is ih h = let f = ih h in record { among = later x xs e f.among; key_is = f.key_is }

pub found : (es : List Entry) (key : ℕ) (e : Entry) → find es key ≡ Some e → IsFound es key e
found [] key e h = absurd cc
found (x ∷ xs) key e h = find_cons x xs key e (x.key == key) refl (found xs key e) h

above_in : (key : ℕ) (es : List Entry) (e : Entry) → AllAbove key es → Contains es e → key < e.key
above_in key [] e h (k, lt, same) = absurd (omega arith)
above_in key (x ∷ xs) e h (zero, lt, same) = subst (λ (y : Entry). key < y.key) same h.0
above_in key (x ∷ xs) e h (suc k, lt, same) = above_in key xs e h.1 (k, omega arith, same)

apart : (a b : ℕ) → a < b → (a == b) ≡ false
apart a b lt = grind (arith, nat_tests)

pub find_it : (es : List Entry) (e : Entry) → IsRising es → Contains es e → find es e.key ≡ Some e
find_it [] e r (k, lt, same) = absurd (omega arith)
find_it (x ∷ xs) e r (zero, lt, same) =
    ap (λ (b : Bool). if b then Some x else find xs e.key) (ap (λ (y : Entry). y.key == e.key) same ∙ itself e.key) ∙ ap (λ (y : Entry). Some y) same
find_it (x ∷ xs) e r (suc k, lt, same) =
    let there : Contains xs e = (k, omega arith, same) in
    ap (λ (b : Bool). if b then Some x else find xs e.key) (apart x.key e.key (above_in x.key xs e r.0 there)) ∙ find_it xs e r.1 there

-- ---- the first entry

pub starts_found : (low : ℕ) (es : List Entry) → starts low es ≡ true → find es low ≢ None
starts_found low [] h none = absurd cc
starts_found low (x ∷ xs) h none = absurd (cc (ap (λ (b : Bool). if b then Some x else find xs low) h, none))

some_of : (o : Option Entry) → o ≢ None → (e : Entry) × (o ≡ Some e)
some_of None h = absurd (h refl)
some_of (Some e) h = (e, refl)

starts_by : (low : ℕ) (x : Entry) (xs : List Entry) (b : Bool) → (x.key == low) ≡ b → IsRising (x ∷ xs) → low ≤ x.key → (if b then Some x else find xs low) ≢ None → b ≡ true
starts_by low x xs true is r le h = refl
starts_by low x xs false is r le h =
    let some = some_of (find xs low) h in
    let f = found xs low some.0 some.1 in
    let up = above_in x.key xs some.0 r.0 f.among in
    let k = f.key_is in
    absurd (omega (arith, up, k, le))

pub found_starts : (low : ℕ) (es : List Entry) → IsRising es → ((e : Entry) → Contains es e → low ≤ e.key) → find es low ≢ None → starts low es ≡ true
found_starts low [] r from h = absurd (h refl)
found_starts low (x ∷ xs) r from h = starts_by low x xs (x.key == low) refl r (from x (zero, omega arith, refl)) h

-- ---- where they lead

pub record LedBy (es : List Entry) (key c : ℕ) : Type 0 where
  pub entry : Entry
  pub finds : find es key ≡ Some entry
  pub page_is : entry.place.page ≡ c

led_branch : (es : List Entry) (key c : ℕ) (o : Option Entry) → find es key ≡ o → leads Branch o ≡ Some c → LedBy es key c
led_branch es key c None is h = absurd cc
led_branch es key c (Some e) is h = record { entry = e; finds = is; page_is = same e.place.page c h }
  where
    same : (a b : ℕ) → Some a ≡ Some b → a ≡ b
    same a b q = cc

pub led : (es : List Entry) (kind : Kind) (key c : ℕ) → kind ≡ Branch → leads kind (find es key) ≡ Some c → LedBy es key c
led es kind key c is h = led_branch es key c (find es key) refl (ap (λ (k : Kind). leads k (find es key)) (sym is) ∙ h)

some_led : (kind : Kind) (o : Option Entry) (x : ℕ) → leads kind o ≡ Some x → (e : Entry) × (o ≡ Some e)
some_led kind None x h = absurd cc
some_led kind (Some e) x h = (e, refl)

pub led_any : (es : List Entry) (kind : Kind) (key x : ℕ) → leads kind (find es key) ≡ Some x → (e : Entry) × (find es key ≡ Some e)
led_any es kind key x h = some_led kind (find es key) x h

pub none_led : (kind : Kind) (o : Option Entry) → leads kind o ≡ None → o ≡ None
none_led kind None h = refl
none_led kind (Some e) h = absurd cc

pub no_lead : (kind : Kind) (o : Option Entry) → o ≡ None → leads kind o ≡ None
no_lead kind o e = ap (leads kind) e
