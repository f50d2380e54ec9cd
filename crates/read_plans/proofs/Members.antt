-- Members of logs and of what was read of them.
use Rattle.std.proofs.Common.{◌≡◌, ℕ, ◌-◌, Bool, true, false, cond, List, [], ◌∷◌, ◌++◌, length, inl, inr, refl, sym, ap, ◌∙◌, append_assoc}
use Rattle.std.specs.Prelude.{◌==◌, ◌||◌, slice_get}
use Rattle.ds_model.specs.declared.log.LogRecord.{LogRecord}
use Rattle.ds_model.specs.RecordBytes.{log_bytes}
use Rattle.log_record.specs.declared.log.Log.{Log}
use Rattle.sound_disk.specs.Laws.{last_number}
use Rattle.sound_plans.specs.Queues.{has_log, records_for}
use Rattle.sound_plans.proofs.Queues.{snoc_view, got_last}
use Rattle.sound_reads.specs.Reads.{MayBeginAt, IsReadOf, AreReadOf}

pub reads_have : (logs reads : List Log) (m : ℕ) → AreReadOf logs reads → has_log reads m ≡ has_log logs m
reads_have [] [] m h = refl
reads_have [] (r ∷ rs) m h = absurd h
reads_have (l ∷ ls) [] m h = absurd h
reads_have (l ∷ ls) (r ∷ rs) m h = ap (λ (n : ℕ). (n == m) || has_log rs m) h.0.member_is ∙ ap (λ (b : Bool). (l.member == m) || b) (reads_have ls rs m h.1)

-- ---- what the last record of a log tells

-- it is told of records by the last of them, whatever stands before them
abbrev pub TellsLast : {X : Type 0} → (List LogRecord → X) → Type 0
TellsLast f = (front : List LogRecord) (r : LogRecord) (rs : List LogRecord) → f (front ++ r ∷ rs) ≡ f (r ∷ rs)

module _ {X : Type 0} (f : List LogRecord → X) (last : TellsLast f) where
  begins_last : (place : ℕ) (front rest : List LogRecord) → MayBeginAt place rest → f rest ≡ f (front ++ rest)
  begins_last place front [] h = absurd h
  begins_last place front (r ∷ rs) h = sym (last front r rs)

  one_last : (log read : Log) → IsReadOf log read → f read.records ≡ f log.records
  one_last log read h = elim h.begins as (λ _. f read.records ≡ f log.records) [
    | inl e ↦ sym (ap f (h.records_are ∙ ap (λ (xs : List LogRecord). xs ++ read.records) e))
    | inr may ↦ begins_last (length (log_bytes h.front)) h.front read.records may ∙ sym (ap f h.records_are)
  ]

  last_if : (b : Bool) (xs ys us vs : List LogRecord) → f xs ≡ f ys → f us ≡ f vs → f (cond b xs us) ≡ f (cond b ys vs)
  last_if true xs ys us vs h k = h
  last_if false xs ys us vs h k = k

  pub same_last : (logs reads : List Log) (m : ℕ) → AreReadOf logs reads → f (records_for reads m) ≡ f (records_for logs m)
  same_last [] [] m h = refl
  same_last [] (r ∷ rs) m h = absurd h
  same_last (l ∷ ls) [] m h = absurd h
  same_last (l ∷ ls) (r ∷ rs) m h =
      ap (λ (n : ℕ). f (cond (n == m) r.records (records_for rs m))) h.0.member_is
      ∙ last_if (l.member == m) r.records l.records (records_for rs m) (records_for ls m) (one_last l r h.0) (same_last ls rs m h.1)

-- ---- its number, and itself

number_behind : (low : ℕ) (front : List LogRecord) (r : LogRecord) (rs : List LogRecord) → last_number low (front ++ r ∷ rs) ≡ last_number r.lrsn rs
number_behind low [] r rs = refl
number_behind low (x ∷ xs) r rs = number_behind x.lrsn xs r rs

pub tells_number : TellsLast (last_number 0)
tells_number front r rs = number_behind 0 front r rs

no_more : (x : LogRecord) (xs : List LogRecord) → x ∷ xs ≡ [] → ⊥
no_more x xs e = cc

pub tells_itself : TellsLast (λ (rs : List LogRecord). slice_get rs (length rs - 1))
tells_itself front r rs = elim (snoc_view (r ∷ rs)) [
  | inl e ↦ absurd (no_more r rs e)
  | inr s ↦ got_last (front ++ r ∷ rs) (front ++ s.init) s.last (ap (λ (l : List LogRecord). front ++ l) s.split ∙ sym (append_assoc front s.init (s.last ∷ []))) ∙ sym (got_last (r ∷ rs) s.init s.last s.split)
]
