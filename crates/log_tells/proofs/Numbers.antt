-- Versions and the numbers that they show.
use Rattle.std.proofs.Common.{◌≡◌, ℕ, zero, suc, ◌+◌, ◌<◌, ◌≤◌, Bool, true, false, List, [], ◌∷◌, ◌++◌, length, take, refl, sym, ap, ◌∙◌, subst, arith, inl, inr}
use Rattle.std.specs.Prelude.{filter}
use Rattle.std.specs.List.{AllByRecursion}
use Rattle.std.proofs.lemmas.Bool.{cases_Bool, cases_order}
use Rattle.std.proofs.lemmas.List.{map-append}
use Rattle.ds_base.specs.declared.names.PageId.{PageId}
use Rattle.ds_model.specs.declared.log.LogRecord.{LogRecord}
use Rattle.ds_model.specs.RecordBytes.{IsAllowed}
use Rattle.page_format.specs.Fields.{lrsn_of}
use Rattle.page_format.specs.declared.patch.Patch.{Patch}
use Rattle.page_images.specs.Images.{zeros}
use Rattle.page_chain.specs.Chains.{changes_of, touches, version_of, Follows, AreInOrder, AreRecords, BearsItsNumber}
use Rattle.page_protocol.specs.Page.{Page, Group}
use Rattle.page_protocol.specs.Moves.{World}
use Rattle.page_protocol.specs.Always.{Good, Numbered}
use Rattle.log_tells.specs.Told.{Told, IsDrawn, IsTold, Rise, AreChanges, chain_of, records_of, version_at}
use Rattle.log_tells.specs.Leads.{VersionsShow, VersionsDiffer}
use Rattle.log_tells.proofs.Lists.{all_filter, all_records, all_weaker}
use Rattle.log_tells.proofs.Chains.{rise_filter}

-- ---- one change of a chain

-- the change k places behind the i-th, of which this is known
pub record Picked (p : Page) (at k : ℕ) (ts : List Told) (P : Told → Type 0) : Type 0 where
  pub t : Told
  pub take_is : take (suc k) ts ≡ take k ts ++ t ∷ []
  pub member : t.member ≡ p.author at
  pub place : t.place ≡ p.place at
  pub lrsn : t.it.lrsn ≡ p.lrsn at
  pub holds : P t

pub pick : (p : Page) (i k at : ℕ) (ts : List Told) (P : Told → Type 0) → AreChanges p i ts → at ≡ i + k → at < p.last → AllByRecursion P ts → Picked p at k ts P
pick p i k at [] P h e lt all = absurd (omega (arith, h, e, lt))
pick p i zero at (t ∷ ts) P h e lt all =
    let is : i ≡ at = omega (arith, e) in
    record { t = t; take_is = refl; member = h.0 ∙ ap p.author is; place = h.1 ∙ ap p.place is; lrsn = h.2 ∙ ap p.lrsn is; holds = all.0 }
pick p i (suc k) at (t ∷ ts) P h e lt all =
    let s = pick p (i + 1) k at ts P h.3 (omega (arith, e)) lt all.1 in
    record { t = s.t; take_is = ap (λ (us : List Told). t ∷ us) s.take_is; member = s.member; place = s.place; lrsn = s.lrsn; holds = s.holds }

-- ---- records in the order of their numbers

follows : (low : ℕ) (r : LogRecord) (ps : List Patch) → low < r.lrsn → Follows low r ps
follows low r [] lt = omega (arith, lt)
follows low r (p ∷ ps) lt = lt

pub in_order_of : (low : ℕ) (ts : List Told) → Rise low ts → AreInOrder low (records_of ts)
in_order_of low [] h = tt
in_order_of low (t ∷ ts) h = (follows low t.it (changes_of t.it.body) h.0, in_order_of t.it.lrsn ts h.1)

rise_take : (low k : ℕ) (ts : List Told) → Rise low ts → Rise low (take k ts)
rise_take low zero [] h = tt
rise_take low (suc k) [] h = tt
rise_take low zero (t ∷ ts) h = tt
rise_take low (suc k) (t ∷ ts) h = (h.0, rise_take t.it.lrsn k ts h.1)

all_take : (P : Told → Type 0) (k : ℕ) (ts : List Told) → AllByRecursion P ts → AllByRecursion P (take k ts)
all_take P zero [] h = tt
all_take P (suc k) [] h = tt
all_take P zero (t ∷ ts) h = tt
all_take P (suc k) (t ∷ ts) h = (h.0, all_take P k ts h.1)

pub all_passes : (p : Told → Bool) (ts : List Told) → AllByRecursion (λ t. p t ≡ true) (filter p ts)
all_passes p [] = tt
all_passes p (t ∷ ts) = elim (cases_Bool (p t)) [ inl e ↦ rw e (e, all_passes p ts) | inr e ↦ rw e (all_passes p ts) ]

pub are_allowed : (counter : ℕ) (ts : List Told) → AllByRecursion (IsDrawn counter) ts → AllByRecursion IsAllowed (records_of ts)
are_allowed counter ts h = all_records IsAllowed ts (all_weaker (IsDrawn counter) (λ (t : Told). IsAllowed t.it) ts (λ t d. d.allowed) h)

-- ---- numbers

-- the number of the last change of a version
abbrev pub number_at : Page → ℕ → ℕ
number_at p zero = 0
number_at p (suc i) = p.lrsn i

pub shows : BearsItsNumber → VersionsShow
shows bears name w content told n i t lt =
    let s = pick (w.pages n) 0 i i chain (λ (u : Told). touches (name n) u.it ≡ true) (t.chains n) (omega arith) lt (all_passes (λ (u : Told). touches (name n) u.it) told) in
    ap lrsn_of (t.versions n (i + 1) (omega (arith, lt)) ∙ ap (version_of (name n)) (is s))
    ∙ bears (records_of (take i chain)) s.t.it (name n) (are s) s.holds
    ∙ s.lrsn
  where
    chain : List Told
    chain = chain_of (name n) told

    One : Type 0
    One = Picked (w.pages n) i i chain (λ (u : Told). touches (name n) u.it ≡ true)

    is : (s : One) → records_of (take (i + 1) chain) ≡ records_of (take i chain) ++ s.t.it ∷ []
    is s = let e : i + 1 ≡ suc i = omega arith in ap (λ k. records_of (take k chain)) e ∙ ap records_of s.take_is ∙ map-append (λ (u : Told). u.it) (take i chain) (s.t ∷ [])

    are : (s : One) → AreRecords (records_of (take i chain) ++ s.t.it ∷ [])
    are s = subst AreRecords (is s) (
      are_allowed w.group.counter (take (i + 1) chain) (all_take (IsDrawn w.group.counter) (i + 1) chain (all_filter (IsDrawn w.group.counter) (λ (u : Told). touches (name n) u.it) told t.each)),
      in_order_of 0 (take (i + 1) chain) (rise_take 0 (i + 1) chain (rise_filter 0 (λ (u : Told). touches (name n) u.it) told t.rise)),
    )

-- the first version shows none
pub number_shown : BearsItsNumber → lrsn_of zeros ≡ 0 → (name : ℕ → PageId) (w : World) (content : ℕ → ℕ → List ℕ) (told : List Told) (n d : ℕ) → IsTold name w content told → d ≤ (w.pages n).last → lrsn_of (content n d) ≡ number_at (w.pages n) d
number_shown bears none name w content told n zero t le = ap lrsn_of (t.versions n 0 (omega arith)) ∙ none
number_shown bears none name w content told n (suc i) t le =
    let e : suc i ≡ i + 1 = omega arith in
    ap (λ k. lrsn_of (content n k)) e ∙ shows bears name w content told n i t (omega (arith, le))

-- they rise
pub number_above : (g : Group) (p : Page) (d i : ℕ) → Numbered g p → d ≤ i → i < p.last → number_at p d < p.lrsn i
number_above g p zero i o le lt = o.positive i lt
number_above g p (suc d) i o le lt = o.rise d i (omega (arith, le)) lt

pub number_below : (g : Group) (p : Page) (d i : ℕ) → Numbered g p → i < d → d ≤ p.last → p.lrsn i ≤ number_at p d
number_below g p zero i o lt le = absurd (omega (arith, lt))
number_below g p (suc d) i o lt le = elim (cases_order i d) [
  | inl e ↦ subst (λ x. p.lrsn x ≤ p.lrsn d) (sym e) (omega arith)
  | inr x ↦ elim x [ inl less ↦ let h = o.rise i d less (omega (arith, le)) in omega (arith, h) | inr more ↦ absurd (omega (arith, lt, more)) ]
]

number_less : (g : Group) (p : Page) (a b : ℕ) → Numbered g p → a < b → b ≤ p.last → number_at p a < number_at p b
number_less g p a zero o lt le = absurd (omega (arith, lt))
number_less g p a (suc b) o lt le = number_above g p a b o (omega (arith, lt)) (omega (arith, le))

pub differ : BearsItsNumber → lrsn_of zeros ≡ 0 → VersionsDiffer
differ bears none name w content told n a b good t a_in b_in e = elim (cases_order a b) [
  | inl is ↦ is
  | inr x ↦ elim x [ inl less ↦ absurd (never a b less b_in same) | inr more ↦ absurd (never b a more a_in (sym same)) ]
]
  where
    same : number_at (w.pages n) a ≡ number_at (w.pages n) b
    same = sym (number_shown bears none name w content told n a t a_in) ∙ ap lrsn_of e ∙ number_shown bears none name w content told n b t b_in

    never : (x y : ℕ) → x < y → y ≤ (w.pages n).last → number_at (w.pages n) x ≡ number_at (w.pages n) y → ⊥
    never x y lt le is = let h = number_less w.group (w.pages n) x y (good.numbered n) lt le in omega (arith, h, is)
