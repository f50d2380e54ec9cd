-- The chain of a page among what was drawn, and its versions.
use Rattle.std.proofs.Common.{◌≡◌, ℕ, zero, suc, ◌+◌, ◌-◌, ◌<◌, ◌≤◌, Bool, true, false, cond, List, [], ◌∷◌, ◌++◌, length, take, refl, sym, ap, ◌∙◌, subst, arith, inl, inr}
use Rattle.std.specs.Prelude.{filter, map, nat_lt}
use Rattle.std.specs.List.{AllByRecursion}
use Rattle.std.proofs.lemmas.Bool.{cases_lt, cond-true, cond-false}
use Rattle.std.proofs.lemmas.List.{take_all, take-take, take-append-le, map-append, append-nil}
use Rattle.std.proofs.lemmas.List.Elements.{filter-append}
use Rattle.ds_base.specs.declared.names.PageId.{PageId}
use Rattle.ds_model.specs.declared.log.LogRecord.{LogRecord}
use Rattle.page_chain.specs.Chains.{touches, after_record, version_from, version_of}
use Rattle.page_protocol.specs.Page.{Page}
use Rattle.log_tells.specs.Told.{Told, records_of, chain_of, version_at, AreChanges, Rise}

-- ---- a page's changes, and those of the same page later

-- the same change in both
pub record SameAt (p q : Page) (j : ℕ) : Type 0 where
  pub author : q.author j ≡ p.author j
  pub place : q.place j ≡ p.place j
  pub lrsn : q.lrsn j ≡ p.lrsn j

pub changes_up : (p : Page) (i : ℕ) (ts : List Told) → AreChanges p i ts → i + length ts ≡ p.last
changes_up p i [] h = omega (arith, h)
changes_up p i (t ∷ ts) h = let ih = changes_up p (i + 1) ts h.3 in omega (arith, ih)

pub chain_length : (p : Page) (ts : List Told) → AreChanges p 0 ts → length ts ≡ p.last
chain_length p ts h = let up = changes_up p 0 ts h in omega (arith, up)

-- as far as both have the same changes
pub changes_take : (p q : Page) (i k : ℕ) (ts : List Told) → AreChanges p i ts → i + k ≡ q.last → q.last ≤ p.last → ((j : ℕ) → j < q.last → SameAt p q j) → AreChanges q i (take k ts)
changes_take p q i zero [] h e le same = omega (arith, e)
changes_take p q i (suc k) [] h e le same = absurd (omega (arith, h, e, le))
changes_take p q i zero (t ∷ ts) h e le same = omega (arith, e)
changes_take p q i (suc k) (t ∷ ts) h e le same =
    let s = same i (omega (arith, e)) in
    (h.0 ∙ sym s.author, h.1 ∙ sym s.place, h.2 ∙ sym s.lrsn, changes_take p q (i + 1) k ts h.3 (omega (arith, e)) le same)

pub changes_same : (p q : Page) (i : ℕ) (ts : List Told) → AreChanges p i ts → q.last ≡ p.last → ((j : ℕ) → SameAt p q j) → AreChanges q i ts
changes_same p q i [] h e same = h ∙ sym e
changes_same p q i (t ∷ ts) h e same = let s = same i in (h.0 ∙ sym s.author, h.1 ∙ sym s.place, h.2 ∙ sym s.lrsn, changes_same p q (i + 1) ts h.3 e same)

-- and one change more
pub record OneMore (p q : Page) (t : Told) : Type 0 where
  pub last : q.last ≡ p.last + 1
  pub old : (j : ℕ) → j < p.last → SameAt p q j
  pub author : t.member ≡ q.author p.last
  pub place : t.place ≡ q.place p.last
  pub lrsn : t.it.lrsn ≡ q.lrsn p.last

pub changes_more : (p q : Page) (i : ℕ) (ts : List Told) (t : Told) → AreChanges p i ts → OneMore p q t → AreChanges q i (ts ++ t ∷ [])
changes_more p q i [] t h o = subst (λ (j : ℕ). AreChanges q j (t ∷ [])) (sym h) (o.author, o.place, o.lrsn, sym o.last)
changes_more p q i (u ∷ us) t h o =
    let up = changes_up p (i + 1) us h.3 in
    let s = o.old i (omega (arith, up)) in
    (h.0 ∙ sym s.author, h.1 ∙ sym s.place, h.2 ∙ sym s.lrsn, changes_more p q (i + 1) us t h.3 o)

-- ---- a test that the first changes pass, and no others

abbrev pub Passes : (ℕ → ℕ → Bool) → Page → ℕ → Bool → Type 0
Passes test p j b = test (p.author j) (p.place j) ≡ b

tests : (test : ℕ → ℕ → Bool) (p : Page) (i : ℕ) (t : Told) (b : Bool) → t.member ≡ p.author i → t.place ≡ p.place i → Passes test p i b → test t.member t.place ≡ b
tests test p i t b a q h = ap (λ x. test x t.place) a ∙ ap (test (p.author i)) q ∙ h

pub changes_none : (test : ℕ → ℕ → Bool) (p : Page) (i : ℕ) (ts : List Told) → AreChanges p i ts → ((j : ℕ) → i ≤ j → j < p.last → Passes test p j false) → filter (λ (t : Told). test t.member t.place) ts ≡ []
changes_none test p i [] h out = refl
changes_none test p i (t ∷ ts) h out =
    let up = changes_up p (i + 1) ts h.3 in
    cond-false (test t.member t.place) _ _ (tests test p i t false h.0 h.1 (out i (omega arith) (omega (arith, up))))
    ∙ changes_none test p (i + 1) ts h.3 (λ j low high. out j (omega (arith, low)) high)

pub changes_cut : (test : ℕ → ℕ → Bool) (p : Page) (i k : ℕ) (ts : List Told) → AreChanges p i ts → i + k ≤ p.last → ((j : ℕ) → i ≤ j → j < i + k → Passes test p j true) → ((j : ℕ) → i + k ≤ j → j < p.last → Passes test p j false)
    → filter (λ (t : Told). test t.member t.place) ts ≡ take k ts
changes_cut test p i zero [] h le it out = refl
changes_cut test p i (suc k) [] h le it out = refl
changes_cut test p i zero (t ∷ ts) h le it out = changes_none test p i (t ∷ ts) h (λ j low high. out j (omega (arith, low)) high)
changes_cut test p i (suc k) (t ∷ ts) h le it out =
    cond-true (test t.member t.place) _ _ (tests test p i t true h.0 h.1 (it i (omega arith) (omega arith)))
    ∙ ap (λ (us : List Told). t ∷ us) (changes_cut test p (i + 1) k ts h.3 (omega (arith, le)) (λ j low high. it j (omega (arith, low)) (omega (arith, high))) (λ j low high. out j (omega (arith, low)) high))

-- of the whole chain
pub changes_front : (test : ℕ → ℕ → Bool) (p : Page) (k : ℕ) (ts : List Told) → AreChanges p 0 ts → k ≤ p.last → ((j : ℕ) → j < k → Passes test p j true) → ((j : ℕ) → k ≤ j → j < p.last → Passes test p j false)
    → filter (λ (t : Told). test t.member t.place) ts ≡ take k ts
changes_front test p k ts h le it out = changes_cut test p 0 k ts h (omega (arith, le)) (λ j low high. it j (omega (arith, high))) (λ j low high. out j (omega (arith, low)) high)

-- ---- numbers

pub rise_lower : (low n : ℕ) (ts : List Told) → low ≤ n → Rise n ts → Rise low ts
rise_lower low n [] le h = tt
rise_lower low n (t ∷ ts) le h = (omega (arith, le, h.0), h.1)

rise_when : (b : Bool) (low : ℕ) (t : Told) (us : List Told) → low < t.it.lrsn → Rise t.it.lrsn us → Rise low (cond b (t ∷ us) us)
rise_when true low t us lt h = (lt, h)
rise_when false low t us lt h = rise_lower low t.it.lrsn us (omega (arith, lt)) h

pub rise_filter : (low : ℕ) (p : Told → Bool) (ts : List Told) → Rise low ts → Rise low (filter p ts)
rise_filter low p [] h = tt
rise_filter low p (t ∷ ts) h = rise_when (p t) low t (filter p ts) h.0 (rise_filter t.it.lrsn p ts h.1)

pub rise_more : (low top : ℕ) (ts : List Told) (t : Told) → Rise low ts → AllByRecursion (λ (u : Told). u.it.lrsn ≤ top) ts → low ≤ top → top < t.it.lrsn → Rise low (ts ++ t ∷ [])
rise_more low top [] t h below le lt = (omega (arith, le, lt), tt)
rise_more low top (u ∷ us) t h below le lt = (h.0, rise_more u.it.lrsn top us t h.1 below.1 below.0 lt)

-- ---- versions

version_more : (id : PageId) (page : List ℕ) (rs : List LogRecord) (r : LogRecord) → version_from id page (rs ++ r ∷ []) ≡ after_record id (version_from id page rs) r
version_more id page [] r = refl
version_more id page (x ∷ xs) r = version_more id (after_record id page x) xs r

-- the whole chain's version
pub version_whole : (id : PageId) (told : List Told) (v : ℕ) → length (chain_of id told) ≤ v → version_at id told v ≡ version_of id (records_of (chain_of id told))
version_whole id told v le = ap (λ ts. version_of id (records_of ts)) (take_all v (chain_of id told) le)

pub chain_more : (id : PageId) (told : List Told) (t : Told) → touches id t.it ≡ true → chain_of id (told ++ t ∷ []) ≡ chain_of id told ++ t ∷ []
chain_more id told t e =
    filter-append (λ (u : Told). touches id u.it) told (t ∷ []) ∙ ap (λ us. chain_of id told ++ us) (cond-true (touches id t.it) (t ∷ []) [] e)

pub chain_other : (id : PageId) (told : List Told) (t : Told) → touches id t.it ≡ false → chain_of id (told ++ t ∷ []) ≡ chain_of id told
chain_other id told t e =
    filter-append (λ (u : Told). touches id u.it) told (t ∷ []) ∙ ap (λ us. chain_of id told ++ us) (cond-false (touches id t.it) (t ∷ []) [] e) ∙ append-nil (chain_of id told)

-- with a record of the page behind it, and with one of other pages
pub version_last : (id : PageId) (told : List Told) (t : Told) → touches id t.it ≡ true
    → version_at id (told ++ t ∷ []) (length (chain_of id told) + 1) ≡ after_record id (version_at id told (length (chain_of id told))) t.it
version_last id told t e =
    ap (λ ts. version_of id (records_of (take (length (chain_of id told) + 1) ts))) (chain_more id told t e)
    ∙ ap (λ ts. version_of id (records_of ts)) (take_all (length (chain_of id told) + 1) (chain_of id told ++ t ∷ []) (long (chain_of id told)))
    ∙ ap (version_of id) (map-append (λ (u : Told). u.it) (chain_of id told) (t ∷ []))
    ∙ version_more id _ (records_of (chain_of id told)) t.it
    ∙ ap (λ page. after_record id page t.it) (sym (version_whole id told (length (chain_of id told)) (omega arith)))
  where
    long : (us : List Told) → length (us ++ t ∷ []) ≤ length us + 1
    long [] = omega arith
    long (u ∷ us) = let ih = long us in omega (arith, ih)

pub version_old : (id : PageId) (told more : List Told) (v : ℕ) → chain_of id more ≡ take (length (chain_of id more)) (chain_of id told) → v ≤ length (chain_of id more) → version_at id more v ≡ version_at id told v
version_old id told more v e le =
    ap (λ ts. version_of id (records_of (take v ts))) e ∙ ap (λ ts. version_of id (records_of ts)) (take-take v (length (chain_of id more)) (chain_of id told) le)

pub version_stays : (id : PageId) (told : List Told) (t : Told) (v : ℕ) → v ≤ length (chain_of id told) → version_at id (told ++ t ∷ []) v ≡ version_at id told v
version_stays id told t v le =
    ap (λ ts. version_of id (records_of (take v ts))) (filter-append (λ (u : Told). touches id u.it) told (t ∷ []))
    ∙ ap (λ ts. version_of id (records_of ts)) (take-append-le v (chain_of id told) (filter (λ (u : Told). touches id u.it) (t ∷ [])) le)
