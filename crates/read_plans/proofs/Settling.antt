-- A transaction no row change of which is open is settled.
use Rattle.std.proofs.Common.{◌≡◌, ℕ, Bool, true, false, List, [], ◌∷◌, inl, inr, refl, sym, ap, ◌∙◌}
use Rattle.std.specs.Prelude.{◌==◌, not, ◌||◌, ◌&&◌}
use Rattle.std.specs.List.{list_all}
use Rattle.std.proofs.lemmas.Bool.{cases_Bool, or_cases, or_left, and_parts, eq-eqb}
use Rattle.ds_model.specs.declared.log.LogRecord.{LogRecord}
use Rattle.ds_model.specs.Logs.{has_commit}
use Rattle.sound_disk.specs.Settled.{is_row_change, is_open, has_ended}
use Rattle.sound_disk.specs.Transactions.{is_among}
use Rattle.sound_appends.proofs.Left.{is_change, has_change, change_parts, is_taken, numbers, itself, undo_of, AreLeft, are_left, commits}
use Rattle.sound_plans.specs.Opens.{course_of}
use Rattle.read_plans.specs.Courses.{Settles, EndedIsSettled}

open_of : (row commit taken : Bool) → row ≡ true → commit ≡ false → taken ≡ false → (row && not (commit || taken)) ≡ true
open_of true true taken h k l = absurd cc
open_of true false true h k l = absurd cc
open_of true false false h k l = refl
open_of false commit taken h k l = absurd cc

not_both : (a b : Bool) → a ≡ true → b ≡ true → not (a && b) ≡ true → ⊥
not_both true true h k l = cc
not_both true false h k l = cc
not_both false b h k l = cc

-- a row change that no record takes back is open, where its transaction has no Commit
none_open : (rs xs : List LogRecord) (t k : ℕ) → list_all (λ (s : LogRecord). not ((s.tran == t) && is_open rs s)) xs ≡ true → has_change t k xs ≡ true → has_commit rs t ≡ false → is_taken k rs ≡ false → ⊥
none_open rs [] t k all made none kept = cc
none_open rs (x ∷ xs) t k all made none kept =
    let p = and_parts (not ((x.tran == t) && is_open rs x)) (list_all (λ (s : LogRecord). not ((s.tran == t) && is_open rs s)) xs) all in
    elim (or_cases (is_change t k x) (has_change t k xs) made) [
      | inl e ↦ (
          let is = change_parts t k x e in
          let stays : is_open rs x ≡ true = open_of (is_row_change x.body) (has_commit rs x.tran) (is_taken x.lrsn rs) is.row (ap (has_commit rs) is.tran ∙ none) (ap (λ (n : ℕ). is_taken n rs) is.number ∙ kept) in
          not_both (x.tran == t) (is_open rs x) (eq-eqb x.tran t is.tran) stays p.0)
      | inr e ↦ none_open rs xs t k p.1 e none kept
    ]

nothing_left : (rs : List LogRecord) (t : ℕ) (us : List LogRecord) → undo_of rs t ≡ us → AreLeft rs → has_commit rs t ≡ false → has_ended rs t ≡ true → us ≡ []
nothing_left rs t [] e left none ended = refl
nothing_left rs t (u ∷ us) e left none ended =
    let is : is_among u.lrsn (numbers (undo_of rs t)) ≡ true = ap (λ (l : List LogRecord). is_among u.lrsn (numbers l)) e ∙ or_left (u.lrsn == u.lrsn) (is_among u.lrsn (numbers us)) (itself u.lrsn) in
    absurd (none_open rs rs t u.lrsn ended ((left.left t).made u.lrsn is) none ((left.left t).kept u.lrsn is))

pub ended_is_settled : EndedIsSettled
ended_is_settled rs t follow differ ended = elim (cases_Bool (course_of rs t).is_committed) as (λ _. Settles rs t) [
  | inl e ↦ inl e
  | inr e ↦ inr (nothing_left rs t (undo_of rs t) refl (are_left rs follow differ) (sym (commits t rs) ∙ e) ended)
]
