-- Each step of a search leads to a page whose low key is not above the key, and a leaf has what is known.
use Rattle.std.proofs.Common.{◌≡◌, ℕ, zero, suc, ◌<◌, ◌≤◌, refl, sym, ◌∙◌, subst, arith, true, false, Option, Some, None, inl, inr}
use Rattle.std.proofs.lemmas.Bool.{cond_both, cases_eq}
use Rattle.index_protocol.specs.Index.{Rest, Page, Link, World, Kind, Unmade, Leaf, Branch, beyond}
use Rattle.index_protocol.specs.Whole.{Shape, WholeIndex}
use Rattle.index_protocol.specs.Search.{greatest, or_else, down, inside, past, Reached, IsCopy, IsKnown, Leads, KnownBegins, SearchBegins, SearchLeads, CopyAnswers}
use Rattle.index_protocol.proofs.Paths.{has_last}

-- the greatest entry is one, if there is any
abbrev pub IsUpTo : (ℕ → Option ℕ) → ℕ → Option ℕ → Type 0
IsUpTo e k None = (j : ℕ) → j ≤ k → e j ≡ None
IsUpTo e k (Some c) = (j : ℕ) × (j ≤ k) × (e j ≡ Some c)

upto_step : (e : ℕ → Option ℕ) (k : ℕ) (o r : Option ℕ) → e (suc k) ≡ o → IsUpTo e k r → IsUpTo e (suc k) (or_else o r)
upto_step e k (Some c) r is up = (suc k, omega arith, is)
upto_step e k None None is up = λ j le. let a = up j in grind (arith, a)
upto_step e k None (Some c) is up = (up.0, omega (arith, up.1), up.2)

pub upto : (e : ℕ → Option ℕ) (k : ℕ) → IsUpTo e k (greatest e k)
unfolding greatest
upto e zero = upto_zero (e zero) refl
  where
    upto_zero : (o : Option ℕ) → e zero ≡ o → IsUpTo e zero o
    upto_zero None is = λ j le. let q : j ≡ zero = omega (arith, le) in subst (λ z. e z ≡ None) (sym q) is
    upto_zero (Some c) is = (zero, omega arith, is)
upto e (suc k) = upto_step e k (e (suc k)) (greatest e k) refl (upto e k)

-- a copy of a page that is there is a version of it
copy_some : (g : Rest) (m k n v : ℕ) (p : Page) → Shape g n p → Reached g m k n → IsCopy g m n p v → 1 ≤ v
copy_some g m k n v p s r c = let made = s.made r.made in plain made r.there c.from c.own
  where
    plain : 1 ≤ p.last → (g.shown n ≡ 0 → g.writer n ≡ m) → g.shown n ≤ v → (g.writer n ≡ m → v ≡ p.last) → 1 ≤ v
    plain made there from own = grind arith

leads_down : (g : Rest) (p : Page) (m k n v : ℕ) (o : Option ℕ) → Shape g n p → Reached g m k n → IsCopy g m n p v → 1 ≤ v → g.kind n ≡ Branch → IsUpTo (p.entry v) k o → Leads g p m k n v (down o)
leads_down g p m k n v None s r c a is up = absurd (s.first v is a c.within (up (g.low n) r.low))
leads_down g p m k n v (Some d) s r c a is up =
    let kind = s.child v up.0 d is a c.within up.2 in
    let low = s.child_low v up.0 d is a c.within up.2 in (
      record {
        made = λ e. cc;
        low = omega (arith, low, up.1);
        there = λ none. s.child_writer v up.0 d is a c.within up.2 none ∙ c.later (s.child_shown v up.0 d is a c.within up.2 none);
        opens = λ q less. s.child_opener v up.0 d q is a c.within up.2 less ∙ c.later (s.child_open v up.0 d q is a c.within up.2 less);
      },
      is,
      kind,
    )

leads_inside : (g : Rest) (p : Page) (m k n v : ℕ) (kind : Kind) → g.kind n ≡ kind → Shape g n p → Reached g m k n → IsCopy g m n p v → 1 ≤ v → beyond (p.link v) k ≡ false → Leads g p m k n v (inside kind (p.entry v) k)
leads_inside g p m k n v Unmade is s r c a in' = absurd (r.made is)
leads_inside g p m k n v Branch is s r c a in' = leads_down g p m k n v (greatest (p.entry v) k) s r c a is (upto (p.entry v) k)
leads_inside g p m k n v Leaf is s r c a in' = (is, a, in')

leads_past : (g : Rest) (p : Page) (m k n v : ℕ) (o : Option Link) → p.link v ≡ o → Shape g n p → Reached g m k n → IsCopy g m n p v → 1 ≤ v → beyond o k ≡ true → Leads g p m k n v (past o)
unfolding beyond
leads_past g p m k n v None is s r c a out = cc
leads_past g p m k n v (Some l) is s r c a out =
    let low = s.right_low v l a c.within is in
    let kind = s.right_kind v l a c.within is in
    let up = s.above v l a c.within is in
    let made = r.made in (
      record {
        made = λ e. made (sym kind ∙ e);
        low = grind (arith, low, out);
        there = λ none. s.right_writer v l a c.within is none ∙ c.later (s.right_shown v l a c.within is none);
        opens = λ q less. elim (cases_eq q n) [
          | inl e ↦ (let own = s.right_own v l a c.within is in let less' = subst (λ z. g.shown z < g.parted_at l.right z) e less in subst (λ z. g.writer z ≡ m) (sym e) (c.later (omega (arith, own, less'))))
          | inr ne ↦ (let other = s.right_other v q l a c.within is ne in r.opens q (omega (arith, other, less)))
        ];
      },
      kind,
      omega (arith, low, up),
    )

pub leads : SearchLeads
leads w m k n v s r c =
    let a = copy_some w.rest m k n v (w.pages n) (s.shape n) r c in
    cond_both (beyond ((w.pages n).link v) k) _ _ (Leads w.rest (w.pages n) m k n v)
    (λ e. leads_past w.rest (w.pages n) m k n v ((w.pages n).link v) refl (s.shape n) r c a e)
    (λ e. leads_inside w.rest (w.pages n) m k n v (w.rest.kind n) refl (s.shape n) r c a e)

pub begins : SearchBegins
begins w m k s there = let t = s.roots in record {
  made = λ e. let q = t.root_kind in cc;
  low = omega (arith, t.root_low);
  there = there;
  opens = λ q less. let e = t.root_open q in omega (arith, e, less);
}

-- ---- a leaf that covers the key
finds_at : (w : World) (m k n v x : ℕ) → WholeIndex w → w.rest.kind n ≡ Leaf → w.rest.low n ≤ k → 1 ≤ v → IsCopy w.rest m n (w.pages n) v → beyond ((w.pages n).link v) k ≡ false → IsKnown w.rest m k x → (w.pages n).entry v k ≡ Some x
finds_at w m k n v x s leaf low a c in' known = elim (cases_eq (w.rest.writer n) m) [
  | inl e ↦ (let is = c.own e in subst (λ z. (w.pages n).entry z k ≡ Some x) (sym is) (has_last w n k x s leaf known.given low (subst (λ z. beyond ((w.pages n).link z) k ≡ false) is in')))
  | inr ne ↦ (s.leaves n).finds v k x leaf a c.from c.within known.given low in' (λ e. ne (known.free (w.rest.writer n) e))
]

pub answers : CopyAnswers
answers w m k n v s leaf low a c in' = record {
  place = λ x e. (s.leaves n).place v k x leaf a c.within e;
  finds = λ x known. finds_at w m k n v x s leaf low a c in' known;
}

pub known_begins : KnownBegins
known_begins w m k x s known none = known.free (w.rest.writer 1) (s.roots.formed k x known.given none)
