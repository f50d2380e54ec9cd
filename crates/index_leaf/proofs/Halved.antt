-- What the two nodes answer after a split.
use Rattle.std.proofs.Common.{◌≡◌, ℕ, zero, suc, ◌+◌, ◌*◌, ◌^◌, ◌<◌, ◌≤◌, refl, sym, ap, ◌∙◌, subst, inl, inr, arith, true, false, List, [], ◌∷◌, length, get_or, take, drop, Option, Some, None}
use Rattle.std.proofs.lemmas.Bool.{leb-true, leb-false, le-leb, lt-leb}
use Rattle.std.proofs.lemmas.List.{get_or-drop, length-drop, length-take-le}
use Rattle.std.proofs.Math.Nat.{mul-le-mul_right, pow-succ'}
use Rattle.byteorder.specs.Endian.{big_from}
use Rattle.std.specs.Prelude.{leb, ◌==◌, slice_index, Contains}
use Rattle.page_format.specs.Fields.{set_lrsn}
use Rattle.page_format.specs.declared.patch.Patch.{Patch}
use Rattle.index_leaf.specs.declared.layout.Entry.{Entry}
use Rattle.index_leaf.specs.declared.step.Look.TheVariants.{Right}
use Rattle.index_leaf.specs.Entries.{count_of, low_of, high_of, right_field, entry_in, entries_from, entries_of, IsRising}
use Rattle.index_leaf.specs.Search.{is_branch, is_beyond, floor, find, look_of}
use Rattle.index_leaf.specs.Changes.{all_patched, id_of, half, low_of_split, zeros, link_bytes, fields_bytes, half_bytes, front_of, front_patch, count_patch, patch_of, right_id, left_patches, right_patches, IsLeftOf, IsRightOf}
use Rattle.index_leaf.specs.Nodes.{IsNode, ReadsAs, CanSplit, AllLieInPage, all_stamped}
use Rattle.index_leaf.proofs.Writes.{length_spelt}
use Rattle.index_leaf.proofs.Enlarged.{drop_entries}
use Rattle.index_leaf.proofs.Parts.{length_link, length_zeros, length_half, length_fields, length_front, left_is, right_is, front_kind}
use Rattle.index_leaf.proofs.Stamps.{length_stamp, stamp_reads, stamped_once}
use Rattle.index_leaf.proofs.Steps.{by_parts}
use Rattle.index_leaf.proofs.Taken.{count_is}
use Rattle.index_leaf.proofs.Divided.{find_first, floor_first, find_last, floor_last, rising_first, rising_last, contains_first, contains_last, first_below, last_from, contains_mid}

-- ---- whether a page can be split

-- a number of bytes fits so many bytes
fits_from : (n i : ℕ) (xs : List ℕ) → ((k : ℕ) → get_or xs k 0 < 256) → big_from i n xs < 256 ^ n
fits_from zero i xs h = omega arith
fits_from (suc n) i xs h =
    let rest = fits_from n (suc i) xs h in
    let here : get_or xs i 0 ≤ 255 = let lt = h i in omega (arith, lt) in
    let most : get_or xs i 0 * 256 ^ n ≤ 255 * 256 ^ n = mul-le-mul_right (256 ^ n) here in
    let all : 256 ^ suc n ≡ 256 * 256 ^ n = pow-succ' 256 n in
    omega (arith, rest, most, all)

low_fits : (left : List ℕ) → ((i : ℕ) → slice_index left i < 256) → low_of_split left < 256 ^ 8
unfolding entry_in
low_fits left fits = fits_from 8 0 (drop 2080 left) (λ k. subst (λ (b : ℕ). b < 256) (sym (get_or-drop 2080 left k 0)) (fits (2080 + k)))

pub can_split : (left : List ℕ) → length left ≡ 4096 → count_of left ≡ 252 → ((i : ℕ) → slice_index left i < 256) → CanSplit left
can_split left l full fits = record { whole = l; full = full; low = low_fits left fits }

-- ---- the fields after a split

pub left_halved : (left : List ℕ) (number : ℕ) → CanSplit left → number < 2 ^ 32 → IsLeftOf left (all_patched left (left_patches left number)) (low_of_split left) number
left_halved left number h lt = left_is left number h.whole h.full h.low lt

pub right_halved : (left fresh : List ℕ) (number : ℕ) → CanSplit left → length fresh ≡ 4096 → IsRightOf left (all_patched fresh (right_patches left number)) (low_of_split left)
right_halved left fresh number h f =
    right_is left fresh (front_of (slice_index left 4) (right_id left number)) h.whole f (length_front (slice_index left 4) (right_id left number)) (front_kind (slice_index left 4) (right_id left number)) h.full h.low

left_clear : (left : List ℕ) (number : ℕ) → AllLieInPage (left_patches left number)
left_clear left number =
    let c = length_spelt 2 126 in
    let k = length_link (low_of_split left) number in
    let z = length_zeros 2016 in
    (omega (arith, c), (omega (arith, k), (omega (arith, z), tt)))

right_clear : (left : List ℕ) (number : ℕ) → length left ≡ 4096 → AllLieInPage (right_patches left number)
right_clear left number l =
    let n = length_front (slice_index left 4) (right_id left number) in
    let c = length_spelt 2 126 in
    let k = length_fields left l in
    let z = length_half left l in
    (omega (arith, n), (omega (arith, c), (omega (arith, k), (omega (arith, z), tt))))

left_reads : (left new last : List ℕ) (low number : ℕ) → IsLeftOf left new low number → length last ≡ 4096 → ReadsAs new last → IsLeftOf left last low number
left_reads left new last low number h l r = record {
  whole = l;
  kind = r.kind ∙ h.kind;
  entries = r.entries ∙ h.entries;
  low_key = r.low_key ∙ h.low_key;
  high_key = r.high_key ∙ h.high_key;
  right_page = r.right_page ∙ h.right_page;
}

right_reads : (left new last : List ℕ) (low : ℕ) → IsRightOf left new low → length last ≡ 4096 → ReadsAs new last → IsRightOf left last low
right_reads left new last low h l r = record {
  whole = l;
  kind = r.kind ∙ h.kind;
  entries = r.entries ∙ h.entries;
  low_key = r.low_key ∙ h.low_key;
  high_key = r.high_key ∙ h.high_key;
  right_page = r.right_page ∙ h.right_page;
}

left_once : (left : List ℕ) (number lrsn : ℕ) → length left ≡ 4096 → all_stamped lrsn left (left_patches left number) ≡ set_lrsn (all_patched left (left_patches left number)) lrsn
left_once left number lrsn l =
    let link : Patch = patch_of (id_of left) 40 (link_bytes (low_of_split left) number) in
    let rest : Patch = patch_of (id_of left) 2080 (zeros 2016) in
    stamped_once lrsn left (count_patch (id_of left) 126) (link ∷ rest ∷ []) l (left_clear left number)

pub left_stamped : (left : List ℕ) (number lrsn : ℕ) → CanSplit left → number < 2 ^ 32 → IsLeftOf left (all_stamped lrsn left (left_patches left number)) (low_of_split left) number
left_stamped left number lrsn h lt =
    let t = left_halved left number h lt in
    let new = all_patched left (left_patches left number) in
    subst (λ (last : List ℕ). IsLeftOf left last (low_of_split left) number) (sym (left_once left number lrsn h.whole))
    (left_reads left new (set_lrsn new lrsn) (low_of_split left) number t (length_stamp new lrsn t.whole) (stamp_reads new lrsn t.whole))

right_once : (left fresh : List ℕ) (number lrsn : ℕ) → length left ≡ 4096 → length fresh ≡ 4096 → all_stamped lrsn fresh (right_patches left number) ≡ set_lrsn (all_patched fresh (right_patches left number)) lrsn
right_once left fresh number lrsn l f =
    let id = right_id left number in
    let fields : Patch = patch_of (right_id left number) 32 (fields_bytes left) in
    let entries : Patch = patch_of (right_id left number) 64 (half_bytes left) in
    stamped_once lrsn fresh (front_patch (slice_index left 4) id) (count_patch id 126 ∷ fields ∷ entries ∷ []) f (right_clear left number l)

pub right_stamped : (left fresh : List ℕ) (number lrsn : ℕ) → CanSplit left → length fresh ≡ 4096 → IsRightOf left (all_stamped lrsn fresh (right_patches left number)) (low_of_split left)
right_stamped left fresh number lrsn h f =
    let t = right_halved left fresh number h f in
    let new = all_patched fresh (right_patches left number) in
    subst (λ (last : List ℕ). IsRightOf left last (low_of_split left)) (sym (right_once left fresh number lrsn h.whole f))
    (right_reads left new (set_lrsn new lrsn) (low_of_split left) t (length_stamp new lrsn t.whole) (stamp_reads new lrsn t.whole))

-- ---- the entry at which the page is divided

divided : (page : List ℕ) (h n : ℕ) → count_of page ≡ h + suc n → (ys : List Entry) × (drop h (entries_of page) ≡ entry_in page (64 + 16 * h) ∷ ys)
divided page h n count = (entries_from page (64 + 16 * h + 16) n, ap (λ (m : ℕ). drop h (entries_from page 64 m)) count ∙ drop_entries page 64 h (suc n))

halved : (left : List ℕ) → count_of left ≡ 252 → (ys : List Entry) × (drop 126 (entries_of left) ≡ entry_in left 2080 ∷ ys)
halved left full = divided left 126 125 full

inside_below : (o : Option ℕ) (low key : ℕ) → is_beyond o low ≡ false → key < low → is_beyond o key ≡ false
inside_below None low key inside lt = refl
inside_below (Some high) low key inside lt = let up = leb-false high low inside in lt-leb high key (omega arith)

pub low_inside : (left : List ℕ) → IsNode left → count_of left ≡ 252 → is_beyond (high_of left) (low_of_split left) ≡ false
low_inside left n full = let p = halved left full in n.below_high (entry_in left 2080) (contains_mid (entries_of left) 126 (entry_in left 2080) p.0 p.1)

-- ---- the answers of the left page

left_look : (left new : List ℕ) (low number key : ℕ) → IsLeftOf left new low number
    → look_of new key ≡ by_parts (leb low key) (is_branch left) number (floor (take half (entries_of left)) key) (find (take half (entries_of left)) key)
left_look left new low number key h =
    ap (λ (kind : ℕ). by_parts (is_beyond (high_of new) key) (kind == 4) (right_field new) (floor (entries_of new) key) (find (entries_of new) key)) h.kind
    ∙ ap (λ (es : List Entry). by_parts (is_beyond (high_of new) key) (is_branch left) (right_field new) (floor es key) (find es key)) h.entries
    ∙ ap (λ (high : Option ℕ). by_parts (is_beyond high key) (is_branch left) (right_field new) (floor (take half (entries_of left)) key) (find (take half (entries_of left)) key)) h.high_key
    ∙ ap (λ (right : ℕ). by_parts (leb low key) (is_branch left) right (floor (take half (entries_of left)) key) (find (take half (entries_of left)) key)) h.right_page

pub left_above : (left new : List ℕ) (low number key : ℕ) → IsLeftOf left new low number → low ≤ key → look_of new key ≡ Right number
left_above left new low number key h le = let beyond = le-leb low key le in left_look left new low number key h ∙ rw beyond refl

pub left_below : (left new : List ℕ) (number key : ℕ) → IsNode left → count_of left ≡ 252 → IsLeftOf left new (low_of_split left) number → key < low_of_split left → look_of new key ≡ look_of left key
left_below left new number key n full h lt =
    let p = halved left full in
    let here = lt-leb (low_of_split left) key lt in
    let before = inside_below (high_of left) (low_of_split left) key (low_inside left n full) lt in
    let find_is = find_first (entries_of left) 126 (entry_in left 2080) p.0 key p.1 n.rising lt in
    let floor_is = floor_first (entries_of left) 126 (entry_in left 2080) p.0 key p.1 n.rising lt in
    left_look left new (low_of_split left) number key h
    ∙ rw (here, before, find_is, floor_is) refl

-- ---- the answers of the right page

right_look : (left new : List ℕ) (low key : ℕ) → IsRightOf left new low
    → look_of new key ≡ by_parts (is_beyond (high_of left) key) (is_branch left) (right_field left) (floor (drop half (entries_of left)) key) (find (drop half (entries_of left)) key)
right_look left new low key h =
    ap (λ (kind : ℕ). by_parts (is_beyond (high_of new) key) (kind == 4) (right_field new) (floor (entries_of new) key) (find (entries_of new) key)) h.kind
    ∙ ap (λ (es : List Entry). by_parts (is_beyond (high_of new) key) (is_branch left) (right_field new) (floor es key) (find es key)) h.entries
    ∙ ap (λ (high : Option ℕ). by_parts (is_beyond high key) (is_branch left) (right_field new) (floor (drop half (entries_of left)) key) (find (drop half (entries_of left)) key)) h.high_key
    ∙ ap (λ (right : ℕ). by_parts (is_beyond (high_of left) key) (is_branch left) right (floor (drop half (entries_of left)) key) (find (drop half (entries_of left)) key)) h.right_page

pub right_from : (left new : List ℕ) (key : ℕ) → IsRising (entries_of left) → count_of left ≡ 252 → IsRightOf left new (low_of_split left) → low_of_split left ≤ key → look_of new key ≡ look_of left key
right_from left new key s full h le =
    let p = halved left full in
    let find_is = find_last (entries_of left) 126 (entry_in left 2080) p.0 key p.1 s le in
    let floor_is = floor_last (entries_of left) 126 (entry_in left 2080) p.0 key p.1 s le in
    right_look left new (low_of_split left) key h
    ∙ rw (find_is, floor_is) refl

-- ---- both are nodes

half_count : (page new : List ℕ) (es : List Entry) (h : ℕ) → entries_of new ≡ es → length es ≡ h → count_of new ≡ h
half_count page new es h is n = count_is new ∙ ap length is ∙ n

pub left_node : (left new : List ℕ) (number : ℕ) → IsNode left → count_of left ≡ 252 → IsLeftOf left new (low_of_split left) number → IsNode new
left_node left new number n full h =
    let p = halved left full in
    let all : length (entries_of left) ≡ 252 = sym (count_is left) ∙ full in
    let count = half_count left new (take 126 (entries_of left)) 126 h.entries (length-take-le 126 (entries_of left) (omega (arith, all))) in
    record {
      whole = h.whole;
      room = omega (arith, count);
      rising = subst IsRising (sym h.entries) (rising_first (entries_of left) 126 n.rising);
      from_low = λ e c. subst (λ (b : ℕ). b ≤ e.key) (sym h.low_key) (n.from_low e (contains_first (entries_of left) 126 e (subst (λ (es : List Entry). Contains es e) h.entries c)));
      below_high = λ e c.
          let lt = first_below (entries_of left) 126 (entry_in left 2080) p.0 e p.1 n.rising (subst (λ (es : List Entry). Contains es e) h.entries c) in
          subst (λ (o : Option ℕ). is_beyond o e.key ≡ false) (sym h.high_key) (lt-leb (low_of_split left) e.key lt);
    }

pub right_node : (left new : List ℕ) → IsNode left → count_of left ≡ 252 → IsRightOf left new (low_of_split left) → IsNode new
right_node left new n full h =
    let p = halved left full in
    let all : length (entries_of left) ≡ 252 = sym (count_is left) ∙ full in
    let rest = length-drop 126 (entries_of left) in
    let count = half_count left new (drop 126 (entries_of left)) 126 h.entries (omega (arith, all, rest)) in
    record {
      whole = h.whole;
      room = omega (arith, count);
      rising = subst IsRising (sym h.entries) (rising_last (entries_of left) 126 n.rising);
      from_low = λ e c. subst (λ (b : ℕ). b ≤ e.key) (sym h.low_key) (last_from (entries_of left) 126 (entry_in left 2080) p.0 e p.1 n.rising (subst (λ (es : List Entry). Contains es e) h.entries c));
      below_high = λ e c. subst (λ (o : Option ℕ). is_beyond o e.key ≡ false) (sym h.high_key) (n.below_high e (contains_last (entries_of left) 126 e (subst (λ (es : List Entry). Contains es e) h.entries c)));
    }

pub never_above : (left first second : List ℕ) (low number key : ℕ) → IsLeftOf left first low number → IsRightOf left second low → is_beyond (high_of first) key ≡ true → low_of second ≤ key
never_above left first second low number key h g beyond =
    let le = leb-true low key (ap (λ (o : Option ℕ). is_beyond o key) (sym h.high_key) ∙ beyond) in
    subst (λ (b : ℕ). b ≤ key) (sym g.low_key) le
