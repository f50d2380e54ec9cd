-- Every record is of one of three sorts.
use Rattle.std.proofs.Common.{lit<, ◌≡◌, ◌≢◌, ◌↔◌, ◌⊎◌, inl, inr, ℕ, ◌<◌, Bool, true, false, List, [], length, Option, None, Some, Result, Ok, Err, refl, sym, ap, subst, ◌∙◌, arith}
use Rattle.std.specs.Prelude.{IfOk, IsTrue}
use Rattle.std.proofs.lemmas.List.{nil_from_length}
use Rattle.std.specs.Int.{w64, to_be_bytes}
use Rattle.ds_base.specs.declared.fault.NoMemory.{NoMemory}
use Rattle.ds_model.specs.declared.log.LogRecord.{LogRecord}
use Rattle.ds_model.specs.declared.log.Body.{Body}
use Rattle.ds_model.specs.declared.log.Body.TheVariants as body
use Rattle.ds_model.specs.declared.log.Version.{Version}
use Rattle.ds_model.specs.declared.log.Version.TheVariants as version
use Rattle.ds_model.specs.RecordBytes.{length_in, record_bytes, StateIsAllowed, ChangeIsAllowed, ArePatches, IsNumber, BodyIsAllowed, IsAllowed}
use Rattle.ds_model.specs.Logs.{IsTorn}
use Rattle.torn_records.specs.Templates.{shape_of}
use Rattle.torn_records.specs.Fronts.{IsFrontOf, Tells, HasText, ChangesRow, HasPatches, IsPlain, IsPlainIn, IsIn}
use Rattle.torn_records.proofs.Telling.{NoFront}
use Rattle.torn_records.proofs.Texts.{commit_text, ended_text, restart_text, checkpoint_text}
use Rattle.torn_records.proofs.Systems.{whole_long}

-- ---- records with neither a row's change nor patches

abbrev PlainText : Version → LogRecord → Type 0
PlainText v r = (HasText v 4 true [] r ⊎ HasText v 5 true [] r) ⊎ (HasText v 7 false [] r ⊎ HasText v 6 false (to_be_bytes w64 0) r)

plain_text : (r : LogRecord) (b : Body) → r.body ≡ b → IsPlain b → PlainText r.version r
plain_text r (body.RowChange c) is p = absurd p
plain_text r (body.Compensation c undone) is p = absurd p
plain_text r (body.System patches) is p = absurd p
plain_text r body.Commit is p = inl (inl (commit_text r is))
plain_text r body.Ended is p = inl (inr (ended_text r is))
plain_text r (body.Checkpoint offset) is p = inr (inr (checkpoint_text r offset is))
plain_text r body.RestartEnd is p = inr (inl (restart_text r is))

pub plain_told : (v : Version) (bytes : List ℕ) (result : Result Bool NoMemory) → NoFront bytes (HasText v 4 true []) → NoFront bytes (HasText v 5 true []) → NoFront bytes (HasText v 7 false [])
    → Tells bytes (HasText v 6 false (to_be_bytes w64 0)) result → Tells bytes (IsPlainIn v) result
plain_told v bytes result commit ended restart checkpoint = record {
  torn = checkpoint.torn;
  none = λ e r h p f.
      elim (subst (λ (x : Version). PlainText x r) p.0 (plain_text r r.body refl p.1)) as (λ _. ⊥) [
        | inl first ↦ elim first as (λ _. ⊥) [ inl t ↦ commit r h t f | inr t ↦ ended r h t f ]
        | inr other ↦ elim other as (λ _. ⊥) [ inl t ↦ restart r h t f | inr t ↦ checkpoint.none e r h t f ]
      ];
}

-- ---- all records of a version

shape_in : (o : Option (List ℕ)) → StateIsAllowed o → shape_of o < 102
shape_in None h = lit< tt
shape_in (Some value) h = omega (arith, h.0)

abbrev Sorted : Version → LogRecord → Type 0
Sorted v r = IsPlainIn v r ⊎ (ChangesRow v r ⊎ HasPatches v r)

sorted : (r : LogRecord) → IsAllowed r → (b : Body) → r.body ≡ b → Sorted r.version r
sorted r h (body.RowChange c) is =
    let a : ChangeIsAllowed c = subst (λ (b : Body). BodyIsAllowed r.version b) is h.body_is in
    inr (inl (shape_of c.before, shape_in c.before a.before_is, (shape_of c.after, shape_in c.after a.after_is, inl (record { version_is = refl; change = c; is = is; before_is = refl; after_is = refl }))))
sorted r h (body.Compensation c undone) is =
    let both : ChangeIsAllowed c × IsNumber r.version undone = subst (λ (b : Body). BodyIsAllowed r.version b) is h.body_is in
    let a = both.0 in
    inr (inl (shape_of c.before, shape_in c.before a.before_is, (shape_of c.after, shape_in c.after a.after_is, inr (record { version_is = refl; change = c; undone = undone; is = is; before_is = refl; after_is = refl }))))
sorted r h (body.System patches) is =
    let a : ArePatches r.version patches = subst (λ (b : Body). BodyIsAllowed r.version b) is h.body_is in
    let long : length (record_bytes r) ≡ length_in r.version (body.System patches) = whole_long r ∙ ap (length_in r.version) is in
    inr (inr (length (record_bytes r), omega (arith, long, a.short), (length patches, omega (arith, a.few), record { version_is = refl; patches = patches; is = is; count_is = refl; size_is = refl })))
sorted r h body.Commit is = inl (refl, subst IsPlain (sym is) tt)
sorted r h body.Ended is = inl (refl, subst IsPlain (sym is) tt)
sorted r h (body.Checkpoint offset) is = inl (refl, subst IsPlain (sym is) tt)
sorted r h body.RestartEnd is = inl (refl, subst IsPlain (sym is) tt)

pub told_in : (v : Version) (bytes : List ℕ) (result : Result Bool NoMemory) → NoFront bytes (IsPlainIn v) → NoFront bytes (ChangesRow v) → Tells bytes (HasPatches v) result → Tells bytes (IsIn v) result
told_in v bytes result plain change system = record {
  torn = system.torn;
  none = λ e r h i f.
      elim (subst (λ (x : Version). Sorted x r) i (sorted r h r.body refl)) as (λ _. ⊥) [
        | inl p ↦ plain r h p f
        | inr other ↦ elim other as (λ _. ⊥) [ inl c ↦ change r h c f | inr s ↦ system.none e r h s f ]
      ];
}

-- ---- all records

version_of : (v : Version) → (v ≡ version.One) ⊎ (v ≡ version.Two)
version_of version.One = inl refl
version_of version.Two = inr refl

not_torn : (bytes : List ℕ) → (bytes ≡ [] → ⊥) → NoFront bytes (IsIn version.One) → NoFront bytes (IsIn version.Two) → IsTorn bytes → ⊥
not_torn bytes some one two (inl none) = some none
not_torn bytes some one two (inr t) =
    let f : IsFrontOf bytes t.0 = record { count = t.2; short = t.3; is = t.4 } in
    elim (version_of t.0.version) as (λ _. ⊥) [ inl v ↦ one t.0 t.1 v f | inr v ↦ two t.0 t.1 v f ]

pub nil_torn : (bytes : List ℕ) → length bytes ≡ 0 → IsTorn bytes
nil_torn bytes none = inl (nil_from_length bytes none)

-- what is told at last
pub first_told : (bytes : List ℕ) (A : LogRecord → Type 0) (result : Result Bool NoMemory) (b : Bool) → result ≡ Ok b → b ≡ true → Tells bytes A result → IsTorn bytes
first_told bytes A result b was is t = t.torn (was ∙ ap (λ (x : Bool). let it : Result Bool NoMemory = Ok x in it) is)

pub last_told : (bytes : List ℕ) (result : Result Bool NoMemory) → length bytes ≢ 0 → NoFront bytes (IsIn version.One) → Tells bytes (IsIn version.Two) result → IfOk result (λ torn. IsTrue torn ↔ IsTorn bytes)
last_told bytes (Ok true) some one t = (λ e. t.torn refl, λ torn. refl)
last_told bytes (Ok false) some one t = (λ e. absurd cc, λ torn. absurd (not_torn bytes (λ none. some (ap length none)) one (t.none refl) torn))
last_told bytes (Err e) some one t = tt
