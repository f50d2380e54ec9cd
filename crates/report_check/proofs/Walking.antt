-- Entries and commits, one after the other.
use Rattle.std.proofs.Common.{◌≡◌, ℕ, ◌+◌, ◌<◌, ◌≤◌, List, [], ◌∷◌, length, get_or, take, drop, sym, ap, subst}
use Rattle.std.proofs.lemmas.List.{drop_more, drop_all}
use Rattle.ds_model.specs.declared.history.Entry.{Entry}
use Rattle.ds_model.specs.declared.log.LogRecord.{LogRecord}
use Rattle.ds_model.specs.Rows.{Rows}
use Rattle.ds_model.specs.History.{after_fate}
use Rattle.ds_model.specs.Logs.{after_records}
use Rattle.report_check.specs.Commits.{of_tran, FirstMakes, at_member, FateIsLogged, left_behind, AreLogged}

-- with these commits, rows and entries left it goes on to the answer
pub record Walks (logs : List (List LogRecord)) (first commits : List (List ℕ)) (start rows : Rows) (all left : List Entry) : Type 0 where
  pub whole : AreLogged logs commits rows left → AreLogged logs first start all
  pub needed : AreLogged logs first start all → AreLogged logs commits rows left

module _ (logs : List (List LogRecord)) (first commits : List (List ℕ)) (start rows : Rows) (all : List Entry) where
  pub begins : Walks logs first first start start all all
  begins = record { whole = λ h. h; needed = λ h. h }

  module _ (i : ℕ) (d : Entry) (w : Walks logs first commits start rows all (drop i all)) (below : i < length all) where
    here : Walks logs first commits start rows all (get_or all i d ∷ drop (i + 1) all)
    here = subst (Walks logs first commits start rows all) (drop_more all i d below) w

    pub one_more : (later : List (List ℕ)) (after : Rows) → FateIsLogged (at_member logs (get_or all i d).member) (at_member commits (get_or all i d).member) rows (get_or all i d).tran.ops (get_or all i d).fate
        → later ≡ left_behind commits (get_or all i d).member (get_or all i d).fate → after ≡ after_fate rows (get_or all i d).tran.ops (get_or all i d).fate
        → Walks logs first later start after all (drop (i + 1) all)
    one_more later after is left_is after_is =
        subst (λ (m : Rows). Walks logs first later start m all (drop (i + 1) all)) (sym after_is)
        (subst (λ (l : List (List ℕ)). Walks logs first l start (after_fate rows (get_or all i d).tran.ops (get_or all i d).fate) all (drop (i + 1) all)) (sym left_is)
        (record { whole = λ h. here.whole (is, h); needed = λ h. (here.needed h).1 }))

    pub stops : (FateIsLogged (at_member logs (get_or all i d).member) (at_member commits (get_or all i d).member) rows (get_or all i d).tran.ops (get_or all i d).fate → ⊥) → AreLogged logs first start all → ⊥
    stops wrong h = wrong (here.needed h).0

  pub ends : (i : ℕ) → Walks logs first commits start rows all (drop i all) → length all ≤ i → Walks logs first commits start rows all []
  ends i w past = subst (Walks logs first commits start rows all) (drop_all i all past) w

-- ---- the first commit of a queue

head_of : List ℕ → ℕ
head_of [] = 0
head_of (x ∷ xs) = x

module _ (log : List LogRecord) (rows wanted : Rows) where
  pub none_makes : (commits : List ℕ) → [] ≡ take 1 commits → FirstMakes log commits rows wanted → ⊥
  none_makes [] e h = h
  none_makes (t ∷ ts) e h = cc

  pub first_makes : (commits : List ℕ) (tran : ℕ) → tran ∷ [] ≡ take 1 commits → after_records rows (of_tran tran log) ≡ wanted → FirstMakes log commits rows wanted
  unfolding head_of
  first_makes [] tran e h = cc
  first_makes (t ∷ ts) tran e h = subst (λ x. after_records rows (of_tran x log) ≡ wanted) (ap head_of e) h

  pub first_must : (commits : List ℕ) (tran : ℕ) → tran ∷ [] ≡ take 1 commits → FirstMakes log commits rows wanted → after_records rows (of_tran tran log) ≡ wanted
  unfolding head_of
  first_must [] tran e h = absurd h
  first_must (t ∷ ts) tran e h = subst (λ x. after_records rows (of_tran x log) ≡ wanted) (sym (ap head_of e)) h
