-- Each page of a sound disk is brought forward to its last version.
use Rattle.std.proofs.Common.{◌≡◌, ℕ, Bool, true, false, cond, List, [], ◌∷◌, ◌++◌, length, Option, Some, None, Result, Ok, Err, inl, inr, refl, sym, ap, subst, ◌∙◌}
use Rattle.std.specs.Prelude.{◌⊎◌, ◌||◌, ◌&&◌, nat_lt, ◌^◌, ◌<◌}
use Rattle.std.specs.List.{AllByRecursion}
use Rattle.ds_model.specs.RecordBytes.{IsAllowed}
use Rattle.ds_base.specs.declared.names.PageId.{PageId}
use Rattle.ds_model.specs.declared.log.LogRecord.{LogRecord}
use Rattle.page_format.specs.Fields.{lrsn_of, is_old, renewed}
use Rattle.page_format.specs.Header.{header_of}
use Rattle.page_format.specs.declared.header.Header.{Header}
use Rattle.page_format.specs.declared.header.NotAPage.{NotAPage}
use Rattle.page_chain.specs.Chains.{version_of, IsVersion, AreRecords}
use Rattle.page_redo.specs.declared.fault.FieldFault.{FieldFault}
use Rattle.page_redo.specs.Forward.{patches_of, has_patch, body_fault, Forward, unless, after_one, go_on, forward_from, brought_forward, ReachesLast}
use Rattle.sound_disk.specs.Rows_there.{BeforesAgree}
use Rattle.sound_disk.specs.Versions.{is_page, current}
use Rattle.sound_redo.specs.Laws.{FindsNothing}
use Rattle.sound_redo.proofs.Forwards.{IsKnown, redo_finds_nothing}
use Rattle.sound_restarts.specs.Redo.{IsBrought}
use Rattle.sound_restarts.proofs.Versions.{VersionLaws, version_new}
use Rattle.sound_restarts.proofs.Renewed.{RenewalLaws, IsOldPage, renewed_new, whole_before, left, IsFault, brought_is, brought_alike}

-- what is proved of pages that are brought forward
pub record BringingLaws : Type 0 where
  pub versions : VersionLaws
  pub renewal : RenewalLaws
  pub last : ReachesLast

-- ---- a page to which no record was applied

-- it is as it was, or a record was applied, or a field is in the way
abbrev HasShape : Bool → List ℕ → Forward → Type 0
HasShape b page f = (f ≡ left page b) ⊎ ((f.outcome ≡ Ok true) ⊎ IsFault f.outcome)

shape_when : (c : Bool) (o : Option ℕ) (id : PageId) (r : LogRecord) (page : List ℕ) → HasShape false page (cond c (unless o id page r) (left page false))
shape_when true None id r page = inr (inl refl)
shape_when true (Some at) id r page = inr (inr tt)
shape_when false o id r page = inl refl

or_none : (b : Bool) → (b || false) ≡ b
or_none true = refl
or_none false = refl

or_some : (b : Bool) → (b || true) ≡ true
or_some true = refl
or_some false = refl

abbrev more_of : PageId → List LogRecord → Bool → List ℕ → Result Bool FieldFault → Forward
more_of id rs b page o = go_on (λ p a. forward_from id p a rs) b page o

fault_stays : (id : PageId) (rs : List LogRecord) (b : Bool) (page : List ℕ) (o : Result Bool FieldFault) → IsFault o → IsFault (more_of id rs b page o).outcome
fault_stays id rs b page (Ok a) h = absurd h
fault_stays id rs b page (Err e) h = tt

-- a record was applied before
raised_stays : (page : List ℕ) (was : List ℕ) (b : Bool) (f : Forward) → HasShape (b || true) page f → HasShape b was f
raised_stays page was b f (inl e) = inr (inl (ap (λ (g : Forward). g.outcome) e ∙ ap (λ (a : Bool). Ok a) (or_some b)))
raised_stays page was b f (inr some) = inr some

shape_all : (id : PageId) (page : List ℕ) (b : Bool) (rs : List LogRecord) → HasShape b page (forward_from id page b rs)
shape_all id page b [] = inl refl
shape_all id page b (r ∷ rs) =
    let one : HasShape false page (after_one id page r) = shape_when (nat_lt (lrsn_of page) r.lrsn && has_patch id (patches_of r.body)) (body_fault id page r.body) id r page in
    elim one as (λ _. HasShape b page (forward_from id page b (r ∷ rs))) [
      | inl same ↦
          let on : forward_from id page b (r ∷ rs) ≡ forward_from id page b rs = ap (λ (f : Forward). more_of id rs b f.page f.outcome) same ∙ ap (λ (a : Bool). forward_from id page a rs) (or_none b) in
          subst (HasShape b page) (sym on) (shape_all id page b rs)
      | inr some ↦ elim some as (λ _. HasShape b page (forward_from id page b (r ∷ rs))) [
        | inl raised ↦
            let w : List ℕ = (after_one id page r).page in
            let on : forward_from id page b (r ∷ rs) ≡ forward_from id (after_one id page r).page (b || true) rs = ap (more_of id rs b (after_one id page r).page) raised in
            subst (HasShape b page) (sym on) (raised_stays (after_one id page r).page page b (forward_from id (after_one id page r).page (b || true) rs) (shape_all id (after_one id page r).page (b || true) rs))
        | inr fault ↦ inr (inr (fault_stays id rs b (after_one id page r).page (after_one id page r).outcome fault))
      ]
    ]

-- ---- the last version

at_front : ReachesLast → (id : PageId) (page : List ℕ) (records : List LogRecord) (applied : Bool) → AreRecords records → IsVersion id records page
    → (brought_forward id page records).outcome ≡ Ok applied → (brought_forward id page records).page ≡ version_of id records
at_front last id page records applied are v ok =
    let both = v.first ++ v.rest in
    let there : (brought_forward id page both).outcome ≡ Ok applied → (brought_forward id page both).page ≡ version_of id both =
    subst (λ (p : List ℕ). (brought_forward id p both).outcome ≡ Ok applied → (brought_forward id p both).page ≡ version_of id both) (sym v.bytes)
    (last id v.first v.rest applied (subst (λ (rs : List LogRecord). AreRecords rs) v.whole are))
    in
    subst (λ (rs : List LogRecord). (brought_forward id page rs).outcome ≡ Ok applied → (brought_forward id page rs).page ≡ version_of id rs) (sym v.whole) there ok

pub current_new : (page : List ℕ) → is_old page ≡ false → current page ≡ page
current_new page e = ap (λ (b : Bool). cond b (renewed page) page) e

pub current_old : (page : List ℕ) → is_old page ≡ true → current page ≡ renewed page
current_old page e = ap (λ (b : Bool). cond b (renewed page) page) e

ok_of : (o : Result Bool FieldFault) → FindsNothing o → (b : Bool) × (o ≡ Ok b)
ok_of (Ok b) h = (b, refl)
ok_of (Err e) h = absurd h

not_fault : (o : Result Bool FieldFault) → FindsNothing o → IsFault o → ⊥
not_fault (Ok b) h f = f
not_fault (Err e) h f = h

fault_not : (o : Result Bool FieldFault) (b : Bool) → o ≡ Ok b → IsFault o → ⊥
fault_not (Ok a) b e f = f
fault_not (Err x) b e f = absurd cc

-- no field is in the way, and the page is the last version
record Reaches (id : PageId) (page : List ℕ) (records : List LogRecord) : Type 0 where
  finds : FindsNothing (brought_forward id page records).outcome
  is_raised : Bool
  outcome_is : (brought_forward id page records).outcome ≡ Ok is_raised
  page_is : (brought_forward id page records).page ≡ version_of id records

abbrev known_of : VersionLaws → IsKnown
known_of k = record { grows = k.grows; others = k.others; number = k.number; zero = k.zero }

new_reaches : BringingLaws → (id : PageId) (page : List ℕ) (records : List LogRecord) → AreRecords records → BeforesAgree [] records → is_page (header_of page id) ≡ true → IsVersion id records page → is_old page ≡ false
    → Reaches id page records
new_reaches k id page records are befores header v new =
    let finds = redo_finds_nothing (known_of k.versions) id page records are befores header (subst (IsVersion id records) (sym (current_new page new)) v) new in
    let ok = ok_of (brought_forward id page records).outcome finds in
    record { finds = finds; is_raised = ok.0; outcome_is = ok.1; page_is = at_front k.last id page records ok.0 are v ok.1 }

unraised : (id : PageId) (page : List ℕ) (records : List LogRecord) → is_page (header_of page id) ≡ true → (brought_forward id page records).outcome ≡ Ok false → (brought_forward id page records).page ≡ page
unraised id page records header e =
    let shape : HasShape false page (brought_forward id page records) = subst (HasShape false page) (sym (brought_is id page records header)) (shape_all id page false records) in
    elim shape as (λ _. (brought_forward id page records).page ≡ page) [
      | inl same ↦ ap (λ (f : Forward). f.page) same
      | inr some ↦ elim some as (λ _. (brought_forward id page records).page ≡ page) [
        | inl raised ↦ absurd (let none : Ok true ≡ Ok false = sym raised ∙ e in cc)
        | inr fault ↦ absurd (fault_not (brought_forward id page records).outcome false e fault)
      ]
    ]

by_raised : (id : PageId) (page : List ℕ) (records : List LogRecord) (b : Bool) → is_page (header_of page id) ≡ true → (brought_forward id page records).outcome ≡ Ok b → (brought_forward id page records).page ≡ version_of id records
    → (brought_forward id page records).page ≡ cond b (version_of id records) page
by_raised id page records true header e is = is
by_raised id page records false header e is = unraised id page records header e

new_brought : BringingLaws → (id : PageId) (page : List ℕ) (records : List LogRecord) → AreRecords records → is_page (header_of page id) ≡ true → (b : Bool) → (brought_forward id page records).outcome ≡ Ok b
    → (brought_forward id page records).page ≡ version_of id records → IsBrought page (version_of id records) (brought_forward id page records)
new_brought k id page records are header b e is = record {
  is_raised = b;
  outcome_is = e;
  page_is = by_raised id page records b header e is;
  is_last = ap current is ∙ current_new (version_of id records) (version_new k.versions records id are.0).new;
}

-- ---- a page of either version

old_brought : BringingLaws → (id : PageId) (page : List ℕ) (records : List LogRecord) → AreRecords records → BeforesAgree [] records → is_page (header_of page id) ≡ true → IsVersion id records (renewed page) → IsOldPage page
    → IsBrought page (version_of id records) (brought_forward id page records)
old_brought k id page records are befores header v old =
    let headed : is_page (header_of (renewed page) id) ≡ true = ap (λ (h : Result Header NotAPage). is_page h) (k.renewal.header page id old.whole old.old old.number) ∙ header in
    let new = new_reaches k id (renewed page) records are befores headed v (renewed_new page old.whole) in
    elim (brought_alike k.renewal id page records are.0 old header) as (λ _. IsBrought page (version_of id records) (brought_forward id page records)) [
      | inl same ↦
          new_brought k id page records are header new.is_raised (ap (λ (f : Forward). f.outcome) same ∙ new.outcome_is) (ap (λ (f : Forward). f.page) same ∙ new.page_is)
      | inr some ↦ elim some as (λ _. IsBrought page (version_of id records) (brought_forward id page records)) [
        | inl both ↦ record {
          is_raised = false;
          outcome_is = ap (λ (f : Forward). f.outcome) both.0;
          page_is = ap (λ (f : Forward). f.page) both.0;
          is_last = ap (λ (f : Forward). current f.page) both.0 ∙ current_old page old.old ∙ sym (ap (λ (f : Forward). f.page) both.1) ∙ new.page_is;
        }
        | inr fault ↦ absurd (not_fault (brought_forward id (renewed page) records).outcome new.finds fault)
      ]
    ]

each_front : (xs ys : List LogRecord) → AllByRecursion IsAllowed (xs ++ ys) → AllByRecursion IsAllowed xs
each_front [] ys h = tt
each_front (x ∷ xs) ys h = (h.0, each_front xs ys h.1)

front_allowed : (xs ys : List LogRecord) → AreRecords (xs ++ ys) → AllByRecursion IsAllowed xs
front_allowed xs ys h = each_front xs ys h.0

page_when : BringingLaws → (b : Bool) (id : PageId) (page : List ℕ) (records : List LogRecord) → is_old page ≡ b → AreRecords records → BeforesAgree [] records → is_page (header_of page id) ≡ true → IsVersion id records (current page)
    → (is_old page ≡ true → lrsn_of page < 2 ^ 80) → IsBrought page (version_of id records) (brought_forward id page records)
page_when k true id page records e are befores header v number =
    let w : IsVersion id records (renewed page) = subst (IsVersion id records) (current_old page e) v in
    let long : length (renewed page) ≡ 4096 = ap (λ (p : List ℕ). length p) w.bytes ∙ (version_new k.versions w.first id (front_allowed w.first w.rest (subst AreRecords w.whole are))).whole in
    old_brought k id page records are befores header w (record { whole = whole_before page e long; old = e; number = number e })
page_when k false id page records e are befores header v number =
    let w : IsVersion id records page = subst (IsVersion id records) (current_new page e) v in
    let new = new_reaches k id page records are befores header w e in
    new_brought k id page records are header new.is_raised new.outcome_is new.page_is

pub page_is_brought : BringingLaws → (id : PageId) (page : List ℕ) (records : List LogRecord) → AreRecords records → BeforesAgree [] records → is_page (header_of page id) ≡ true → IsVersion id records (current page)
    → (is_old page ≡ true → lrsn_of page < 2 ^ 80) → IsBrought page (version_of id records) (brought_forward id page records)
page_is_brought k id page records are befores header v number = page_when k (is_old page) id page records refl are befores header v number
