-- Patches of which the first bytes are given.
use Rattle.std.proofs.Common.{◌≡◌, ℕ, ◌+◌, ◌-◌, List, [], ◌∷◌, ◌++◌, length, replicate, refl, sym, ap, ◌∙◌, arith}
use Rattle.std.specs.Int.{w16, w32, to_be_bytes}
use Rattle.std.specs.List.{flat_map, AllByRecursion}
use Rattle.std.proofs.lemmas.List.{length-replicate, length-append}
use Rattle.page_format.specs.declared.patch.Patch.{Patch}
use Rattle.ds_model.specs.declared.log.Body.TheVariants as body
use Rattle.ds_model.specs.declared.log.Version.{Version}
use Rattle.ds_model.specs.RecordBytes.{patch_bytes, PatchIsAllowed, ArePatches}
use Rattle.torn_records.specs.Mixes.{mix, Fills}
use Rattle.torn_records.specs.Templates.{patch_text, patches_text, sizes_of}
use Rattle.torn_records.proofs.Mixing.{mix_same, mix_length, join}
use Rattle.torn_records.proofs.Numbers.{number_mixed, low_mixed, set_mixed}

-- ---- one patch

-- these are the bytes of a patch of this size
record Spelled (size : ℕ) (bytes : List ℕ) : Type 0 where
  patch : Patch
  allowed : PatchIsAllowed patch
  size_is : length patch.bytes ≡ size
  is : patch_bytes patch ≡ bytes

patch_mixed : (n : ℕ) (p : Patch) → PatchIsAllowed p → Spelled (length p.bytes) (mix n (patch_bytes p) (patch_text (length p.bytes)))
patch_mixed n p h =
    let size : ℕ = length p.bytes in
    let S : List ℕ = to_be_bytes w16 p.page.set in
    let N : List ℕ = to_be_bytes w32 p.page.number in
    let O : List ℕ = to_be_bytes w16 p.offset in
    let Z : List ℕ = to_be_bytes w16 size in
    let S0 : List ℕ = to_be_bytes w16 1 in
    let N0 : List ℕ = to_be_bytes w32 0 in
    let O0 : List ℕ = to_be_bytes w16 0 in
    let C0 : List ℕ = replicate size 0 in
    let same : length p.bytes ≡ length C0 = sym (length-replicate {A = ℕ} size 0) in
    let s = set_mixed n p.page.set h.set_from h.set_to in
    let m = number_mixed 4 p.page.number 0 (n - 2) in
    let o = low_mixed (n - 6) p.offset (omega (arith, h.within)) in
    let content : List ℕ = mix (n - 10) p.bytes C0 in
    let long : length content ≡ size = mix_length (n - 10) p.bytes C0 same ∙ sym same in
    let S1 : List ℕ = to_be_bytes w16 s.0 in
    let N1 : List ℕ = to_be_bytes w32 m.value in
    let O1 : List ℕ = to_be_bytes w16 o.0 in
    let one = join n S S0 N N0 S1 N1 refl s.3 m.is in
    let two = join n (S ++ N) (S0 ++ N0) O O0 (S1 ++ N1) O1 refl one o.2 in
    let three = join n (S ++ N ++ O) (S0 ++ N0 ++ O0) Z Z (S1 ++ N1 ++ O1) Z refl two (sym (mix_same (n - 8) Z)) in
    let four = join n (S ++ N ++ O ++ Z) (S0 ++ N0 ++ O0 ++ Z) p.bytes C0 (S1 ++ N1 ++ O1 ++ Z) content refl three refl in
    record {
      patch = record { page = record { set = s.0; number = m.value }; offset = o.0; bytes = content };
      allowed = record {
        set_from = s.1;
        set_to = s.2;
        page_in = m.below;
        some = omega (arith, long, h.some);
        few = omega (arith, long, h.few);
        within = omega (arith, long, h.within, o.1);
      };
      size_is = long;
      is = ap (λ (k : ℕ). S1 ++ N1 ++ O1 ++ to_be_bytes w16 k ++ content) long ∙ four;
    }

pub patch_long : (p : Patch) → length (patch_bytes p) ≡ 10 + length p.bytes
patch_long p = omega arith

pub text_long : (size : ℕ) → length (patch_text size) ≡ 10 + size
text_long size = omega (arith, length-replicate {A = ℕ} size 0)

-- ---- all of them

-- these are the bytes of patches of these sizes
record AllSpelled (sizes bytes : List ℕ) : Type 0 where
  patches : List Patch
  each : AllByRecursion PatchIsAllowed patches
  sizes_are : sizes_of patches ≡ sizes
  is : flat_map patch_bytes patches ≡ bytes

same_long : (ps : List Patch) → length (flat_map patch_bytes ps) ≡ length (patches_text (sizes_of ps))
same_long [] = refl
same_long (p ∷ ps) =
    omega (arith, same_long ps, patch_long p, text_long (length p.bytes), length-append (patch_bytes p) (flat_map patch_bytes ps), length-append (patch_text (length p.bytes)) (patches_text (sizes_of ps)))

pub sizes_count : (ps : List Patch) → length (sizes_of ps) ≡ length ps
sizes_count [] = refl
sizes_count (p ∷ ps) = omega (arith, sizes_count ps)

patches_mixed : (n : ℕ) (ps : List Patch) → AllByRecursion PatchIsAllowed ps → AllSpelled (sizes_of ps) (mix n (flat_map patch_bytes ps) (patches_text (sizes_of ps)))
patches_mixed n [] h = record { patches = []; each = tt; sizes_are = refl; is = sym (mix_same n []) }
patches_mixed n (p ∷ ps) h =
    let first = patch_mixed n p h.0 in
    let rest = patches_mixed (n - length (patch_bytes p)) ps h.1 in
    let same : length (patch_bytes p) ≡ length (patch_text (length p.bytes)) = patch_long p ∙ sym (text_long (length p.bytes)) in
    record {
      patches = first.patch ∷ rest.patches;
      each = (first.allowed, rest.each);
      sizes_are = ap (λ (k : ℕ). k ∷ sizes_of rest.patches) first.size_is ∙ ap (λ (l : List ℕ). length p.bytes ∷ l) rest.sizes_are;
      is = join n (patch_bytes p) (patch_text (length p.bytes)) (flat_map patch_bytes ps) (patches_text (sizes_of ps)) (patch_bytes first.patch) (flat_map patch_bytes rest.patches) same first.is rest.is;
    }

count_front : (n count : ℕ) → count ∷ [] ≡ mix n (count ∷ []) (count ∷ [])
count_front n count = sym (mix_same n (count ∷ []))

pub system_fills : (v : Version) (ps : List Patch) → ArePatches v ps → Fills v (body.System ps) (length ps ∷ patches_text (sizes_of ps))
system_fills v ps h = record {
  long = omega (arith, same_long ps);
  fills = λ n.
      let m = patches_mixed (n - 1) ps h.each in
      let count : length m.patches ≡ length ps = sym (sizes_count m.patches) ∙ ap length m.sizes_are ∙ sizes_count ps in
      let as_long : length (flat_map patch_bytes m.patches) ≡ length (flat_map patch_bytes ps) = ap length m.is ∙ mix_length (n - 1) (flat_map patch_bytes ps) (patches_text (sizes_of ps)) (same_long ps) ∙ sym (same_long ps) in
      record {
        body = body.System m.patches;
        kind_is = refl;
        tran_is = refl;
        allowed = record { some = omega (arith, count, h.some); few = omega (arith, count, h.few); each = m.each; short = omega (arith, as_long, h.short) };
        is = ap (λ (k : ℕ). k ∷ flat_map patch_bytes m.patches) count
            ∙ join n (length ps ∷ []) (length ps ∷ []) (flat_map patch_bytes ps) (patches_text (sizes_of ps)) (length ps ∷ []) (flat_map patch_bytes m.patches) refl (count_front n (length ps)) m.is;
      };
}
