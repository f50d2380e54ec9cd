-- How what was told of some records is told of others.
use Rattle.std.proofs.Common.{◌≡◌, ◌⊎◌, inl, inr, ℕ, ◌+◌, ◌<◌, Bool, true, false, List, Result, Ok, refl, subst, arith}
use Rattle.std.proofs.lemmas.Bool.{cases_lt}
use Rattle.ds_base.specs.declared.fault.NoMemory.{NoMemory}
use Rattle.ds_model.specs.declared.log.LogRecord.{LogRecord}
use Rattle.ds_model.specs.RecordBytes.{IsAllowed}
use Rattle.torn_records.specs.Fronts.{IsFrontOf, Tells}

-- the bytes are no front of such a record
abbrev pub NoFront : List ℕ → (LogRecord → Type 0) → Type 0
NoFront bytes Among = (r : LogRecord) → IsAllowed r → Among r → IsFrontOf bytes r → ⊥

abbrev pub Means : (LogRecord → Type 0) → (LogRecord → Type 0) → Type 0
Means A B = (r : LogRecord) → IsAllowed r → A r → B r

pub none_told : (bytes : List ℕ) (A : LogRecord → Type 0) → Tells bytes A (Ok false) → NoFront bytes A
none_told bytes A t = t.none refl

pub torn_told : (bytes : List ℕ) (A B : LogRecord → Type 0) → Tells bytes A (Ok true) → Tells bytes B (Ok true)
torn_told bytes A B t = record { torn = λ e. t.torn refl; none = λ e. absurd cc }

pub told_none : (bytes : List ℕ) (A : LogRecord → Type 0) → NoFront bytes A → Tells bytes A (Ok false)
told_none bytes A none = record { torn = λ e. absurd cc; none = λ e. none }

pub told_as : (bytes : List ℕ) (A B : LogRecord → Type 0) (result : Result Bool NoMemory) → Means B A → Tells bytes A result → Tells bytes B result
told_as bytes A B result means t = record { torn = t.torn; none = λ e r h b f. t.none e r h (means r h b) f }

pub told_or : (bytes : List ℕ) (A B : LogRecord → Type 0) (result : Result Bool NoMemory) → NoFront bytes A → Tells bytes B result → Tells bytes (λ r. A r ⊎ B r) result
told_or bytes A B result none t = record {
  torn = t.torn;
  none = λ e r h either f. elim either as (λ _. ⊥) [ inl a ↦ none r h a f | inr b ↦ t.none e r h b f ];
}

-- one more of those with a number below
pub none_more : (bytes : List ℕ) (A : ℕ → LogRecord → Type 0) (n : ℕ) → ((k : ℕ) → k < n → NoFront bytes (A k)) → NoFront bytes (A n) → (k : ℕ) → k < n + 1 → NoFront bytes (A k)
none_more bytes A n below here k lt =
    elim (cases_lt k n) [
      | inl less ↦ below k less
      | inr last ↦ let same : n ≡ k = omega arith in subst (λ (m : ℕ). NoFront bytes (A m)) same here
    ]

-- ---- by a test

pub torn_from : (bytes : List ℕ) (A B : LogRecord → Type 0) (b : Bool) → b ≡ true → Tells bytes A (Ok b) → Tells bytes B (Ok true)
torn_from bytes A B b is t = torn_told bytes A B (subst (λ (x : Bool). Tells bytes A (Ok x)) is t)

pub none_from : (bytes : List ℕ) (A : LogRecord → Type 0) (b : Bool) → b ≡ false → Tells bytes A (Ok b) → NoFront bytes A
none_from bytes A b is t = none_told bytes A (subst (λ (x : Bool). Tells bytes A (Ok x)) is t)

-- one of those with a number below
pub told_all : (bytes : List ℕ) (A : ℕ → LogRecord → Type 0) (n : ℕ) → ((k : ℕ) → k < n → NoFront bytes (A k)) → Tells bytes (λ r. (k : ℕ) × (k < n) × A k r) (Ok false)
told_all bytes A n below = told_none bytes (λ r. (k : ℕ) × (k < n) × A k r) (λ r h some f. below some.0 some.1 r h some.2 f)

-- of a call that gave this
pub none_was : (bytes : List ℕ) (A : LogRecord → Type 0) (result : Result Bool NoMemory) (b : Bool) → result ≡ Ok b → b ≡ false → Tells bytes A result → NoFront bytes A
none_was bytes A result b was is t = none_from bytes A b is (subst (Tells bytes A) was t)
