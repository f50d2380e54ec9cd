-- What may stand in a row.
use Rattle.std.specs.Prelude.{◌≡◌, ℕ, ◌-◌, ◌≤◌, List, ◌++◌, length, take, drop, replicate, All}
use Rattle.std.proofs.Common.{arith, sym, ap, ◌∙◌, length-take}
use Rattle.std.proofs.lemmas.List.{take-append-drop}

abbrev pub IsValueByte : ℕ → Type 0
IsValueByte b = (0x21 ≤ b) × (b ≤ 0x7e)

abbrev pub IsValue : List ℕ → Type 0
IsValue bytes = (length bytes ≤ 100) × All IsValueByte bytes

-- a value in 100 bytes: its own, and then zeros
abbrev pub image : List ℕ → List ℕ
image bytes = bytes ++ replicate (100 - length bytes) 0

pub record IsValueImage (bytes : List ℕ) (count : ℕ) : Type 0 where
  pub whole : length bytes ≡ 100
  pub short : count ≤ 100
  pub value : All IsValueByte (take count bytes)
  pub rest : drop count bytes ≡ replicate (100 - count) 0

pub count_back : (bytes : List ℕ) (count : ℕ) → IsValueImage bytes count → length (take count bytes) ≡ count
count_back bytes count h = omega (arith, length-take {A = ℕ}, h.whole, h.short)

pub image_back : (bytes : List ℕ) (count : ℕ) → IsValueImage bytes count → image (take count bytes) ≡ bytes
image_back bytes count h =
    ap (λ n. take count bytes ++ replicate (100 - n) 0) (count_back bytes count h)
    ∙ ap (λ (r : List ℕ). take count bytes ++ r) (sym h.rest) ∙ take-append-drop count bytes
