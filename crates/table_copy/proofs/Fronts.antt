-- What a sink takes, one piece after another.
use Rattle.std.proofs.Common.{◌≡◌, ℕ, zero, suc, ◌+◌, ◌-◌, ◌<◌, List, [], ◌∷◌, ◌++◌, take, drop, Option, Some, None, refl, sym, ap, subst, ◌∙◌, append_assoc, arith, add-one}
use Rattle.std.proofs.lemmas.List.{take-append-drop}
use Rattle.std.specs.Io.KnownBytes.{Appends}
use Rattle.ds_base.specs.declared.names.PageId.{PageId}
use Rattle.table_image_text.specs.Image.{page_name, pages_bytes}
use Rattle.table_copy.specs.Looking.{TakesFront}

append_none : (xs : List ℕ) → xs ++ [] ≡ xs
append_none [] = refl
append_none (x ∷ xs) = ap (λ (ys : List ℕ). x ∷ ys) (append_none xs)

pub appends_none : (t : Option (List ℕ)) → Appends t t []
appends_none None = tt
appends_none (Some xs) = sym (append_none xs)

pub appends_on : (t0 t1 t2 : Option (List ℕ)) (a b : List ℕ) → Appends t0 t1 a → Appends t1 t2 b → Appends t0 t2 (a ++ b)
appends_on None t1 t2 a b h k = tt
appends_on (Some x) None t2 a b h k = absurd h
appends_on (Some x) (Some y) None a b h k = absurd k
appends_on (Some x) (Some y) (Some z) a b h k = k ∙ ap (λ (l : List ℕ). l ++ b) h ∙ append_assoc x a b

-- nothing was taken
pub no_front : (t : Option (List ℕ)) (text : List ℕ) → TakesFront t t text
no_front t text = record { front = []; rest = text; split = refl; bytes = appends_none t }

pub some_front : (t0 t1 : Option (List ℕ)) (n : ℕ) (text : List ℕ) → Appends t0 t1 (take n text) → TakesFront t0 t1 text
some_front t0 t1 n text h = record { front = take n text; rest = drop n text; split = sym (take-append-drop n text); bytes = h }

pub wider : (t0 t1 : Option (List ℕ)) (text more : List ℕ) → TakesFront t0 t1 text → TakesFront t0 t1 (text ++ more)
wider t0 t1 text more h = record {
  front = h.front;
  rest = h.rest ++ more;
  split = ap (λ (l : List ℕ). l ++ more) h.split ∙ append_assoc h.front h.rest more;
  bytes = h.bytes;
}

-- a front behind all of a text
pub front_behind : (t0 t1 t2 : Option (List ℕ)) (a b : List ℕ) → Appends t0 t1 a → TakesFront t1 t2 b → TakesFront t0 t2 (a ++ b)
front_behind t0 t1 t2 a b h k = record {
  front = a ++ k.front;
  rest = k.rest;
  split = ap (λ (l : List ℕ). a ++ l) k.split ∙ sym (append_assoc a k.front k.rest);
  bytes = appends_on t0 t1 t2 a k.front h k.bytes;
}

-- ---- pages

pub no_pages : (at : PageId → List ℕ) (table heap : ℕ) → pages_bytes at table heap 0 ≡ []
unfolding pages_bytes
no_pages at table heap = refl

pub pages_more : (at : PageId → List ℕ) (table heap n : ℕ) → pages_bytes at table heap (n + 1) ≡ pages_bytes at table heap n ++ at (page_name table heap n)
unfolding pages_bytes
pages_more at table heap n = ap (λ (m : ℕ). pages_bytes at table heap m) (add-one n)

pages_behind : (at : PageId → List ℕ) (table heap n more : ℕ) → (rest : List ℕ) × (pages_bytes at table heap (n + more) ≡ pages_bytes at table heap n ++ rest)
pages_behind at table heap n zero =
    let e : n + zero ≡ n = omega arith in
    ([], ap (λ (m : ℕ). pages_bytes at table heap m) e ∙ sym (append_none (pages_bytes at table heap n)))
pages_behind at table heap n (suc more) =
    let h = pages_behind at table heap n more in
    let e : n + suc more ≡ n + more + 1 = omega arith in (
      h.0 ++ at (page_name table heap (n + more)),
      ap (λ (m : ℕ). pages_bytes at table heap m) e ∙ pages_more at table heap (n + more) ∙ ap (λ (l : List ℕ). l ++ at (page_name table heap (n + more))) h.1 ∙ append_assoc (pages_bytes at table heap n) h.0 (at (page_name table heap (n + more))),
    )

-- a front of one page more is a front of all
pub front_of_pages : (t0 t1 t2 : Option (List ℕ)) (at : PageId → List ℕ) (table heap n count : ℕ) → n < count → Appends t0 t1 (pages_bytes at table heap n)
    → TakesFront t1 t2 (at (page_name table heap n)) → TakesFront t0 t2 (pages_bytes at table heap count)
front_of_pages t0 t1 t2 at table heap n count less h k =
    let back = pages_behind at table heap (n + 1) (count - (n + 1)) in
    let e : n + 1 + (count - (n + 1)) ≡ count = omega arith in
    let one : TakesFront t0 t2 (pages_bytes at table heap (n + 1)) =
    subst (λ (l : List ℕ). TakesFront t0 t2 l) (sym (pages_more at table heap n)) (front_behind t0 t1 t2 (pages_bytes at table heap n) (at (page_name table heap n)) h k) in
    subst (λ (l : List ℕ). TakesFront t0 t2 l) (sym back.1 ∙ ap (λ (m : ℕ). pages_bytes at table heap m) e) (wider t0 t2 (pages_bytes at table heap (n + 1)) back.0 one)
