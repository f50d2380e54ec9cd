-- Patches of the sizes that are read from a front of patches.
use Rattle.std.proofs.Common.{lit<, lit≤, ◌≡◌, ◌≢◌, ℕ, zero, suc, ◌+◌, ◌-◌, ◌*◌, ◌/◌, ◌%◌, ◌<◌, ◌≤◌, max, min, false, List, [], ◌∷◌, ◌++◌, length, replicate, take, drop, get_or, inl, inr, refl, sym, ap, ◌∙◌, append_assoc, arith}
use Rattle.std.specs.Prelude.{nat_le}
use Rattle.std.specs.Int.{w16, w32, to_be_bytes}
use Rattle.std.specs.List.{flat_map, AllByRecursion}
use Rattle.std.proofs.lemmas.Bool.{cases_lt, le-leb}
use Rattle.std.proofs.lemmas.List.{append-nil, length-replicate, length-append, length-take, take_all, get_or-take, get_or_past, drop_all, drop_at, take_rest, drop_min}
use Rattle.page_format.specs.declared.patch.Patch.{Patch}
use Rattle.ds_model.specs.RecordBytes.{patch_bytes, PatchIsAllowed}
use Rattle.torn_records.specs.Templates.{patch_text, patches_text, next_size, sizes_from, sizes_of}
use Rattle.torn_records.proofs.Patches.{patch_long}

-- ---- fronts of lists

pub take_append : (n : ℕ) (a b : List ℕ) → take n (a ++ b) ≡ take n a ++ take (n - length a) b
take_append zero [] b = refl
take_append zero (x ∷ a) b = let z : zero ≡ zero - suc (length a) = omega arith in ap (λ (k : ℕ). take k b) z
take_append (suc n) [] b = let z : suc n ≡ suc n - zero = omega arith in ap (λ (k : ℕ). take k b) z
take_append (suc n) (x ∷ a) b =
    let z : n - length a ≡ suc n - suc (length a) = omega arith in
    ap (λ (l : List ℕ). x ∷ l) (take_append n a b ∙ ap (λ (k : ℕ). take n a ++ take k b) z)

pub drop_front : (n k : ℕ) (xs : List ℕ) → drop n (take k xs) ≡ take (k - n) (drop n xs)
drop_front zero k xs = let z : k ≡ k - zero = omega arith in ap (λ (j : ℕ). take j xs) z
drop_front (suc n) zero xs = let z : zero ≡ zero - suc n = omega arith in ap (λ (j : ℕ). take j (drop (suc n) xs)) z
drop_front (suc n) (suc k) [] = let none : take (suc k - suc n) [] ≡ [] = take_all (suc k - suc n) [] (omega arith) in sym none
drop_front (suc n) (suc k) (x ∷ xs) =
    let z : k - n ≡ suc k - suc n = omega arith in
    drop_front n k xs ∙ ap (λ (j : ℕ). take j (drop n xs)) z

-- ---- the next size

pub seen_size : (here : List ℕ) (more left : ℕ) → 10 ≤ length here → next_size here more left ≡ 256 * get_or here 8 0 + get_or here 9 0
seen_size here more left le = rw (le-leb 10 (length here) le) refl

not_seen : (n m : ℕ) → m < n → nat_le n m ≡ false
not_seen n m lt = grind arith

pub least_size : (here : List ℕ) (more left : ℕ) → length here < 10 → next_size here more left ≡ max (max (256 * get_or here 8 0) 1) (left - (10 + 4074 * more))
least_size here more left lt = rw (not_seen 10 (length here) lt) refl

-- ---- patches of the least sizes

record Made (sizes : List ℕ) (left count : ℕ) : Type 0 where
  patches : List Patch
  each : AllByRecursion PatchIsAllowed patches
  sizes_are : sizes_of patches ≡ sizes
  long : length (flat_map patch_bytes patches) ≡ left
  count_is : length patches ≡ count

abbrev least_patch : ℕ → Patch
least_patch size = record { page = record { set = 1; number = 0 }; offset = 0; bytes = replicate size 0 }

least_allowed : (size : ℕ) → 1 ≤ size → size ≤ 4064 → PatchIsAllowed (least_patch size)
least_allowed size from to =
    let long = length-replicate {A = ℕ} size 0 in
    record { set_from = lit≤ tt; set_to = lit≤ tt; page_in = lit< tt; some = omega (arith, long, from); few = omega (arith, long, to); within = omega (arith, long, to) }

sizes_as : (more left : ℕ) (here : List ℕ) (z : ℕ) → next_size here more left ≡ z → sizes_from (suc more) here left ≡ z ∷ sizes_from more (drop (10 + z) here) (left - (10 + z))
unfolding sizes_from
sizes_as more left here z is = ap (λ (k : ℕ). k ∷ sizes_from more (drop (10 + k) here) (left - (10 + k))) is

abbrev nothing : List ℕ
nothing = []

nothing_left : (n : ℕ) → drop n nothing ≡ nothing
nothing_left n = drop_all n nothing (omega arith)

spread : (count left : ℕ) → 11 * count ≤ left → left ≤ 4074 * count → Made (sizes_from count [] left) left count
unfolding sizes_from
spread zero left from to = record { patches = []; each = tt; sizes_are = refl; long = omega arith; count_is = refl }
spread (suc more) left from to =
    let z : ℕ = max (max (256 * 0) 1) (left - (10 + 4074 * more)) in
    let size : next_size [] more left ≡ z = least_size [] more left (lit< tt) in
    let rest = spread more (left - (10 + z)) (omega arith) (omega arith) in
    let few : z ≤ 4064 = omega arith in
    let some : 1 ≤ z = omega arith in
    let zeros = length-replicate {A = ℕ} z 0 in
    record {
      patches = least_patch z ∷ rest.patches;
      each = (least_allowed z some few, rest.each);
      sizes_are = ap (λ (k : ℕ). k ∷ sizes_of rest.patches) zeros ∙ ap (λ (l : List ℕ). z ∷ l) (rest.sizes_are ∙ ap (λ (l : List ℕ). sizes_from more l (left - (10 + z))) (sym (nothing_left (10 + z)))) ∙ sym (sizes_as more left [] z size);
      long = omega (arith, rest.long, zeros, patch_long (least_patch z), length-append (patch_bytes (least_patch z)) (flat_map patch_bytes rest.patches));
      count_is = omega (arith, rest.count_is);
    }

-- ---- patches that begin so

pub record Begins (ps : List Patch) (n : ℕ) (sizes : List ℕ) : Type 0 where
  pub patches : List Patch
  pub each : AllByRecursion PatchIsAllowed patches
  pub sizes_are : sizes_of patches ≡ sizes
  pub long : length (flat_map patch_bytes patches) ≡ length (flat_map patch_bytes ps)
  pub count_is : length patches ≡ length ps
  pub front : take n (flat_map patch_bytes patches) ≡ take n (flat_map patch_bytes ps)

all_long : (ps : List Patch) → AllByRecursion PatchIsAllowed ps → (11 * length ps ≤ length (flat_map patch_bytes ps)) × (length (flat_map patch_bytes ps) ≤ 4074 * length ps)
all_long [] h = (omega arith, omega arith)
all_long (p ∷ ps) h =
    let rest = all_long ps h.1 in
    let own = patch_long p in
    let both = length-append (patch_bytes p) (flat_map patch_bytes ps) in
    (omega (arith, rest, own, both, h.0.some), omega (arith, rest, own, both, h.0.few))

same_tail : (k : ℕ) (x y : ℕ) (xs ys : List ℕ) → k < 2 → (0 < k → x ≡ y) → take k (x ∷ xs) ≡ take k (y ∷ ys)
same_tail zero x y xs ys lt same = refl
same_tail (suc zero) x y xs ys lt same = ap (λ (b : ℕ). b ∷ []) (same (omega arith))
same_tail (suc (suc k)) x y xs ys lt same = absurd (omega arith)

-- eight bytes, and a ninth that is the same where it is seen
same_header : (n : ℕ) (pre : List ℕ) (x y : ℕ) (xs ys : List ℕ) → length pre ≡ 8 → n < 10 → (8 < n → x ≡ y) → take n (pre ++ x ∷ xs) ≡ take n (pre ++ y ∷ ys)
same_header n pre x y xs ys long lt same =
    let tail : take (n - 8) (x ∷ xs) ≡ take (n - 8) (y ∷ ys) = same_tail (n - 8) x y xs ys (omega arith) (λ some. same (omega arith)) in
    let split_x = take_append n pre (x ∷ xs) in
    let split_y = take_append n pre (y ∷ ys) in
    let at : n - length pre ≡ n - 8 = omega arith in
    split_x ∙ ap (λ (k : ℕ). take n pre ++ take k (x ∷ xs)) at ∙ ap (λ (l : List ℕ). take n pre ++ l) tail ∙ ap (λ (k : ℕ). take n pre ++ take k (y ∷ ys)) (sym at) ∙ sym split_y

-- where all of the first patch's header is seen
begins_more : (p : Patch) (ps : List Patch) (E : List ℕ) (n : ℕ) → PatchIsAllowed p → 10 ≤ n
    → Begins ps (n - (10 + length p.bytes)) (sizes_from (length ps) (take (n - (10 + length p.bytes)) (flat_map patch_bytes ps ++ E)) (length (flat_map patch_bytes ps)))
    → Begins (p ∷ ps) n (sizes_from (suc (length ps)) (take n (flat_map patch_bytes (p ∷ ps) ++ E)) (length (flat_map patch_bytes (p ∷ ps))))
begins_more p ps E n h le ih =
    let z : ℕ = length p.bytes in
    let m : ℕ = length ps in
    let P : List ℕ = patch_bytes p in
    let F : List ℕ = flat_map patch_bytes ps in
    let X : List ℕ = P ++ F in
    let here : List ℕ = take n (X ++ E) in
    let own = patch_long p in
    let long = length-append P F in
    let seen : 10 ≤ length here = omega (arith, length-take n (X ++ E), length-append X E, long, own, le) in
    let high : get_or here 8 0 ≡ z / 256 % 256 = get_or-take n (X ++ E) 8 0 (omega arith) in
    let low : get_or here 9 0 ≡ z % 256 = get_or-take n (X ++ E) 9 0 (omega arith) in
    let few = h.few in
    let size : next_size here m (length X) ≡ z = seen_size here m (length X) seen ∙ omega (arith, high, low, few) in
    let behind : drop (10 + z) (X ++ E) ≡ F ++ E = ap (drop (10 + z)) (append_assoc P F E) ∙ drop_at P (F ++ E) (10 + z) own in
    let rest : drop (10 + z) here ≡ take (n - (10 + z)) (F ++ E) = drop_front (10 + z) n (X ++ E) ∙ ap (take (n - (10 + z))) behind in
    let left : length X - (10 + z) ≡ length F = omega (arith, long, own) in
    let sizes = sizes_as m (length X) here z size ∙ ap (λ (l : List ℕ). z ∷ sizes_from m l (length X - (10 + z))) rest ∙ ap (λ (k : ℕ). z ∷ sizes_from m (take (n - (10 + z)) (F ++ E)) k) left in
    let G : List ℕ = flat_map patch_bytes ih.patches in
    let at : n - length P ≡ n - (10 + z) = omega (arith, own) in
    record {
      patches = p ∷ ih.patches;
      each = (h, ih.each);
      sizes_are = ap (λ (l : List ℕ). z ∷ l) ih.sizes_are ∙ sym sizes;
      long = omega (arith, ih.long, long, length-append P G);
      count_is = omega (arith, ih.count_is);
      front = take_append n P G ∙ ap (λ (k : ℕ). take n P ++ take k G) at ∙ ap (λ (l : List ℕ). take n P ++ l) ih.front ∙ ap (λ (k : ℕ). take n P ++ take k F) (sym at) ∙ sym (take_append n P F);
    }

-- where no more than its first nine bytes are seen
begins_few : (p : Patch) (ps : List Patch) (E : List ℕ) (n : ℕ) → PatchIsAllowed p → AllByRecursion PatchIsAllowed ps → n < 10
    → Begins (p ∷ ps) n (sizes_from (suc (length ps)) (take n (flat_map patch_bytes (p ∷ ps) ++ E)) (length (flat_map patch_bytes (p ∷ ps))))
begins_few p ps E n h hs lt =
    let z : ℕ = length p.bytes in
    let m : ℕ = length ps in
    let P : List ℕ = patch_bytes p in
    let F : List ℕ = flat_map patch_bytes ps in
    let X : List ℕ = P ++ F in
    let here : List ℕ = take n (X ++ E) in
    let own = patch_long p in
    let long = length-append P F in
    let whole : length X ≡ 10 + z + length F = omega (arith, long, own) in
    let others = all_long ps hs in
    let short : length here ≤ n = omega (arith, length-take n (X ++ E)) in
    let g : ℕ = get_or here 8 0 in
    let same : 8 < n → g ≡ z / 256 % 256 = λ some. get_or-take n (X ++ E) 8 0 some in
    let high : 256 * g ≤ z = elim (cases_lt 8 n) as (λ _. 256 * g ≤ z) [
      | inl some ↦ omega (arith, same some, h.few)
      | inr none ↦ let past : g ≡ 0 = get_or_past here 8 0 (omega (arith, short, none)) in omega (arith, past)
    ] in
    let y : ℕ = max (max (256 * g) 1) (length X - (10 + 4074 * m)) in
    let size : next_size here m (length X) ≡ y = least_size here m (length X) (omega (arith, short, lt)) in
    let fewer : y ≤ z = omega (arith, high, h.some, whole, others.1) in
    let some : 1 ≤ y = omega arith in
    let rest = spread m (length X - (10 + y)) (omega (arith, fewer, whole, others.0)) (omega arith) in
    let gone : drop (10 + y) here ≡ [] = drop_all (10 + y) here (omega (arith, short, lt)) in
    let sizes = sizes_as m (length X) here y size ∙ ap (λ (l : List ℕ). y ∷ sizes_from m l (length X - (10 + y))) gone in
    let zeros = length-replicate {A = ℕ} y 0 in
    let q : Patch = record { page = p.page; offset = p.offset; bytes = replicate y 0 } in
    let G : List ℕ = flat_map patch_bytes rest.patches in
    let pre : List ℕ = to_be_bytes w16 p.page.set ++ to_be_bytes w32 p.page.number ++ to_be_bytes w16 p.offset in
    let byte : 8 < n → length q.bytes / 256 % 256 ≡ z / 256 % 256 = λ more. omega (arith, same more, zeros, fewer, h.few) in
    record {
      patches = q ∷ rest.patches;
      each = (
        record { set_from = h.set_from; set_to = h.set_to; page_in = h.page_in; some = omega (arith, zeros, some); few = omega (arith, zeros, fewer, h.few); within = omega (arith, zeros, fewer, h.within) },
        rest.each,
      );
      sizes_are = ap (λ (k : ℕ). k ∷ sizes_of rest.patches) zeros ∙ ap (λ (l : List ℕ). y ∷ l) rest.sizes_are ∙ sym sizes;
      long = omega (arith, rest.long, zeros, patch_long q, length-append (patch_bytes q) G, whole, fewer);
      count_is = omega (arith, rest.count_is);
      front = same_header n pre (length q.bytes / 256 % 256) (z / 256 % 256) (length q.bytes % 256 ∷ (q.bytes ++ G)) (z % 256 ∷ (p.bytes ++ F)) refl lt byte;
    }

pub begins : (ps : List Patch) (E : List ℕ) (n : ℕ) → AllByRecursion PatchIsAllowed ps → Begins ps n (sizes_from (length ps) (take n (flat_map patch_bytes ps ++ E)) (length (flat_map patch_bytes ps)))
unfolding sizes_from
begins [] E n h = record { patches = []; each = tt; sizes_are = refl; long = refl; count_is = refl; front = refl }
begins (p ∷ ps) E n h =
    let rest = begins ps E (n - (10 + length p.bytes)) h.1 in
    elim (cases_lt n 10) [
      | inl few ↦ begins_few p ps E n h.0 h.1 few
      | inr more ↦ begins_more p ps E n h.0 more rest
    ]

-- ---- what the code puts

pub none_put : (old here : List ℕ) (count left : ℕ) → count ≡ 0 → old ≡ old ++ patches_text (sizes_from count here left)
unfolding sizes_from
none_put old here zero left none = sym (append-nil old)
none_put old here (suc more) left none = absurd (omega arith)

-- one patch of the size that is read, and then the others
pub patches_put : (old mid new here rest : List ℕ) (count left z behind : ℕ) → count ≢ 0 → z ≡ next_size here (count - 1) left → mid ≡ old ++ patch_text z
    → new ≡ mid ++ patches_text (sizes_from (count - 1) rest behind) → rest ≡ drop (10 + z) here → behind ≡ left - (10 + z) → new ≡ old ++ patches_text (sizes_from count here left)
patches_put old mid new here rest zero left z behind some size first others rest-is behind-is = absurd (some refl)
patches_put old mid new here rest (suc more) left z behind some size first others rest-is behind-is =
    let less : suc more - 1 ≡ more = omega arith in
    let size-is : next_size here more left ≡ z = sym (size ∙ ap (λ (k : ℕ). next_size here k left) less) in
    let sizes : sizes_from (suc more) here left ≡ z ∷ sizes_from (suc more - 1) rest behind =
    sizes_as more left here z size-is
    ∙ ap (λ (l : List ℕ). z ∷ sizes_from more l (left - (10 + z))) (sym rest-is)
    ∙ ap (λ (k : ℕ). z ∷ sizes_from more rest k) (sym behind-is)
    ∙ ap (λ (k : ℕ). z ∷ sizes_from k rest behind) (sym less) in
    others ∙ ap (λ (l : List ℕ). l ++ patches_text (sizes_from (suc more - 1) rest behind)) first
    ∙ append_assoc old (patch_text z) (patches_text (sizes_from (suc more - 1) rest behind))
    ∙ ap (λ (l : List ℕ). old ++ patches_text l) (sym sizes)

-- what a slice from there on has
pub rest_from : (here : List ℕ) (n at : ℕ) → at ≡ min n (length here) → take (length here - at) (drop at here) ≡ drop n here
rest_from here n at is = take_rest here at ∙ ap (λ (k : ℕ). drop k here) is ∙ drop_min n here
