-- Redo by records of a chain.
use Rattle.std.proofs.Common.{◌≡◌, ℕ, zero, suc, ◌+◌, ◌<◌, ◌≤◌, Bool, true, false, cond, List, [], ◌∷◌, ◌++◌, length, take, refl, sym, ap, ◌∙◌, subst, arith, inl, inr}
use Rattle.std.specs.Prelude.{filter, nat_lt}
use Rattle.std.proofs.lemmas.Bool.{cases_Bool, cases_lt, cond-true, cond-false, lt-ltb, le-ltb}
use Rattle.ds_base.specs.declared.names.PageId.{PageId}
use Rattle.ds_model.specs.declared.log.LogRecord.{LogRecord}
use Rattle.page_format.specs.Fields.{lrsn_of}
use Rattle.page_images.specs.Images.{zeros}
use Rattle.page_chain.specs.Chains.{touches, after_record, version_from, redo, BearsItsNumber, LeavesOthers}
use Rattle.page_protocol.specs.Page.{Page, Group}
use Rattle.page_protocol.specs.Moves.{World}
use Rattle.page_protocol.specs.Always.{Good, Numbered}
use Rattle.log_tells.specs.Told.{Told, IsTold, AreChanges, chain_of, records_of}
use Rattle.log_tells.specs.Leads.{AreThose, RedoLeads, is_used}
use Rattle.log_tells.proofs.Chains.{chain_length, changes_none, changes_up}
use Rattle.log_tells.proofs.Numbers.{number_above, number_at, number_below, number_shown}

-- ---- records of other pages may be left out

same-cond : {A : Type 0} (b : Bool) (x : A) → cond b x x ≡ x
same-cond true x = refl
same-cond false x = refl

pub redo_own : LeavesOthers → (id : PageId) (page : List ℕ) (rs : List LogRecord) → redo id page rs ≡ redo id page (filter (touches id) rs)
redo_own leaves id page [] = refl
redo_own leaves id page (r ∷ rs) = elim (cases_Bool (touches id r)) [
  | inl e ↦
      redo_own leaves id (cond (nat_lt (lrsn_of page) r.lrsn) (after_record id page r) page) rs
      ∙ sym (ap (redo id page) (cond-true (touches id r) (r ∷ filter (touches id) rs) (filter (touches id) rs) e))
  | inr e ↦
      ap (λ x. redo id x rs) (ap (λ x. cond (nat_lt (lrsn_of page) r.lrsn) x page) (leaves r id page e) ∙ same-cond (nat_lt (lrsn_of page) r.lrsn) page)
      ∙ redo_own leaves id page rs
      ∙ sym (ap (redo id page) (cond-false (touches id r) (r ∷ filter (touches id) rs) (filter (touches id) rs) e))
]

-- ---- what each change of a chain makes of the version before it

abbrev pub Makes : PageId → (ℕ → List ℕ) → ℕ → List Told → Type 0
Makes id content i [] = Unit {0}
Makes id content i (t ∷ ts) = (after_record id (content i) t.it ≡ content (i + 1)) × Makes id content (i + 1) ts

pub makes : (id : PageId) (content : ℕ → List ℕ) (page : List ℕ) (i : ℕ) (ts : List Told) → ((k : ℕ) → k ≤ length ts → content (i + k) ≡ version_from id page (records_of (take k ts))) → Makes id content i ts
makes id content page i [] h = tt
makes id content page i (t ∷ ts) h = (
  ap (λ x. after_record id x t.it) (ap content (omega arith) ∙ h 0 (omega arith)) ∙ sym (h 1 (omega arith)),
  makes id content (after_record id page t.it) (i + 1) ts (λ k le. ap content (omega arith) ∙ h (suc k) (omega (arith, le))),
)

-- ---- the redo

pub record Redoing (id : PageId) (g : Group) (p : Page) (content : ℕ → List ℕ) (used : ℕ → ℕ → Bool) (d v : ℕ) : Type 0 where
  pub shown : (j : ℕ) → j ≤ p.last → lrsn_of (content j) ≡ number_at p j
  pub order : Numbered g p
  pub those : AreThose p used d v

pub use_of : (used : ℕ → ℕ → Bool) (p : Page) (i : ℕ) (t : Told) (b : Bool) → t.member ≡ p.author i → t.place ≡ p.place i → used (p.author i) (p.place i) ≡ b → is_used used t ≡ b
use_of used p i t b a q h = ap (λ x. used x t.place) a ∙ ap (used (p.author i)) q ∙ h

-- from the version that the page has, each is applied
applies : (id : PageId) (g : Group) (p : Page) (content : ℕ → List ℕ) (used : ℕ → ℕ → Bool) (d v i : ℕ) (ts : List Told) → Redoing id g p content used d v → AreChanges p i ts → Makes id content i ts → d ≤ i → i ≤ v
    → redo id (content i) (records_of (filter (is_used used) ts)) ≡ content v
applies id g p content used d v i [] a h s low high = let le = a.those.there in ap content (omega (arith, h, high, le))
applies id g p content used d v i (t ∷ ts) a h s low high = elim (cases_lt i v) [
  | inl lt ↦
      ap (λ us. redo id (content i) (records_of us)) (cond-true (is_used used t) (t ∷ filter (is_used used) ts) (filter (is_used used) ts) (use_of used p i t true h.0 h.1 (a.those.has i low lt)))
      ∙ ap (λ x. redo id x (records_of (filter (is_used used) ts)))
      (cond-true (nat_lt (lrsn_of (content i)) t.it.lrsn) (after_record id (content i) t.it) (content i) (lt-ltb (lrsn_of (content i)) t.it.lrsn (above lt)) ∙ s.0)
      ∙ applies id g p content used d v (i + 1) ts a h.3 s.1 (omega (arith, low)) (omega (arith, lt))
  | inr ge ↦
      ap (λ us. redo id (content i) (records_of us)) (changes_none used p i (t ∷ ts) h (λ j x y. a.those.no_more j (omega (arith, x, ge)) y))
      ∙ ap content (omega (arith, high, ge))
]
  where
    above : i < v → lrsn_of (content i) < t.it.lrsn
    above lt =
        let le = a.those.there in
        let e = a.shown i (omega (arith, lt, le)) in
        let n = number_above g p i i a.order (omega arith) (omega (arith, lt, le)) in
        let is = h.2 in
        omega (arith, e, n, is)

-- and those before are passed over
passes : (id : PageId) (g : Group) (p : Page) (content : ℕ → List ℕ) (used : ℕ → ℕ → Bool) (d v i : ℕ) (ts : List Told) → Redoing id g p content used d v → AreChanges p i ts → Makes id content i ts → i ≤ d
    → redo id (content d) (records_of (filter (is_used used) ts)) ≡ content v
passes id g p content used d v i [] a h s le = let low = a.those.older in let high = a.those.there in ap content (omega (arith, h, low, high, le))
passes id g p content used d v i (t ∷ ts) a h s le = elim (cases_lt i d) [
  | inl lt ↦ skip (is_used used t) lt ∙ passes id g p content used d v (i + 1) ts a h.3 s.1 (omega (arith, lt))
  | inr ge ↦
      let e : d ≡ i = omega (arith, le, ge) in
      let low = a.those.older in
      ap (λ x. redo id (content x) (records_of (filter (is_used used) (t ∷ ts)))) e ∙ applies id g p content used d v i (t ∷ ts) a h s ge (omega (arith, low, le, ge))
]
  where
    below : i < d → t.it.lrsn ≤ lrsn_of (content d)
    below lt =
        let low = a.those.older in
        let high = a.those.there in
        let e = a.shown d (omega (arith, low, high)) in
        let n = number_below g p d i a.order lt (omega (arith, low, high)) in
        let is = h.2 in
        omega (arith, e, n, is)

    skip : (b : Bool) → i < d → redo id (content d) (records_of (cond b (t ∷ filter (is_used used) ts) (filter (is_used used) ts))) ≡ redo id (content d) (records_of (filter (is_used used) ts))
    skip true lt = ap (λ x. redo id x (records_of (filter (is_used used) ts))) (cond-false (nat_lt (lrsn_of (content d)) t.it.lrsn) (after_record id (content d) t.it) (content d) (le-ltb (lrsn_of (content d)) t.it.lrsn (below lt)))
    skip false lt = refl

pub leads : BearsItsNumber → lrsn_of zeros ≡ 0 → RedoLeads
leads bears none name w content told used n d v good t those =
    passes (name n) w.group (w.pages n) (content n) used d v 0 (chain_of (name n) told)
    (record { shown = λ j le. number_shown bears none name w content told n j t le; order = good.numbered n; those = those })
    (t.chains n)
    (makes (name n) (content n) zeros 0 (chain_of (name n) told) (λ k le. ap (content n) (omega arith) ∙ t.versions n k (subst (λ x. k ≤ x) (chain_length (w.pages n) (chain_of (name n) told) (t.chains n)) le)))
    (omega arith)
