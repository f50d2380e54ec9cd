-- The pages of a set, one after the other.
use Rattle.std.proofs.Common.{◌≡◌, ◌↔◌, ℕ, ◌+◌, ◌<◌, Bool, true, false, List, refl, sym, ap, subst, ◌∙◌, arith, inl, inr}
use Rattle.std.specs.Prelude.{IsTrue}
use Rattle.std.proofs.lemmas.Bool.{cases_lt}
use Rattle.ds_base.specs.declared.names.PageId.{PageId}
use Rattle.page_images.specs.Images.{Images}
use Rattle.index_places.specs.Whole.{IsFirstWrong}

-- ---- tests

pub fails : (P Q : Type 0) (b : Bool) → IsTrue b ↔ P → b ≡ false → IsTrue false ↔ (P × Q)
fails P Q b t e = (λ h. absurd (cc h), λ pq. let is : b ≡ true = t.1 pq.0 in absurd (cc (is, e)))

pub passes : (P Q : Type 0) (b : Bool) → IsTrue b ↔ P → b ≡ true → Q → IsTrue true ↔ (P × Q)
passes P Q b t e q = (λ h. (t.0 e, q), λ pq. refl)

pub both : (P Q : Type 0) (b c : Bool) → IsTrue b ↔ P → b ≡ true → IsTrue c ↔ Q → IsTrue c ↔ (P × Q)
both P Q b c t e u = (λ h. (t.0 e, u.0 h), λ pq. u.1 pq.1)

-- ---- page by page

abbrev pub Of : (PageId → List ℕ → Type 0) → (ℕ → PageId) → Images → ℕ → Type 0
Of P page_of at n = P (page_of n) (at (page_of n))

there : (P : PageId → List ℕ → Type 0) (page_of : ℕ → PageId) (at : Images) (n : ℕ) (id : PageId) (page : List ℕ) → id ≡ page_of n → page ≡ at id → P id page → Of P page_of at n
there P page_of at n id page i e h = subst (λ (q : PageId). P q (at q)) i (subst (λ (l : List ℕ). P id l) e h)

back : (P : PageId → List ℕ → Type 0) (page_of : ℕ → PageId) (at : Images) (n : ℕ) (id : PageId) (page : List ℕ) → id ≡ page_of n → page ≡ at id → Of P page_of at n → P id page
back P page_of at n id page i e h = subst (λ (l : List ℕ). P id l) (sym e) (subst (λ (q : PageId). P q (at q)) (sym i) h)

pub one_more : (P : PageId → List ℕ → Type 0) (page_of : ℕ → PageId) (at : Images) (n : ℕ) (id : PageId) (page : List ℕ) (b : Bool) → id ≡ page_of n → page ≡ at id → IsTrue b ↔ P id page → b ≡ true
    → ((k : ℕ) → k < n → Of P page_of at k) → (k : ℕ) → k < n + 1 → Of P page_of at k
one_more P page_of at n id page b i e t h so_far k lt =
    elim (cases_lt k n) as (λ _. Of P page_of at k) [
      | inl less ↦ so_far k less
      | inr up ↦ let same : n ≡ k = omega (arith, lt, up) in subst (λ (m : ℕ). Of P page_of at m) same (there P page_of at n id page i e (t.0 h))
    ]

pub one_wrong : (P : PageId → List ℕ → Type 0) (page_of : ℕ → PageId) (at : Images) (n : ℕ) (id : PageId) (page : List ℕ) (b : Bool) → id.number ≡ n → id ≡ page_of n → page ≡ at id → IsTrue b ↔ P id page → b ≡ false
    → ((k : ℕ) → k < n → Of P page_of at k) → IsFirstWrong page_of (Of P page_of at) id
one_wrong P page_of at n id page b number i e t h so_far = record {
  id_is = i ∙ ap page_of (sym number);
  wrong = λ p. let is : b ≡ true = t.1 (back P page_of at n id page i e (subst (λ (m : ℕ). Of P page_of at m) number p)) in absurd (cc (is, h));
  before = λ k less. so_far k (omega (arith, less, number));
}

-- the first that isn't right, said in other words
pub first_by : (page_of : ℕ → PageId) (A B : ℕ → Type 0) (id : PageId) → ((n : ℕ) → A n → B n) → ((n : ℕ) → B n → A n) → IsFirstWrong page_of A id → IsFirstWrong page_of B id
first_by page_of A B id to from f = record {
  id_is = f.id_is;
  wrong = λ b. f.wrong (from id.number b);
  before = λ n less. to n (f.before n less);
}
