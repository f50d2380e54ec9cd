-- The records of one transaction among merged ones, in the order in which they stand in its log.
use Rattle.std.proofs.Common.{◌≡◌, ℕ, ◌<◌, ◌≤◌, Bool, true, false, cond, leb, List, [], ◌∷◌, refl, sym, ap, ◌∙◌, arith}
use Rattle.std.specs.Prelude.{◌==◌, filter}
use Rattle.std.proofs.lemmas.Bool.{le-leb, lt-leb}
use Rattle.ds_model.specs.declared.log.LogRecord.{LogRecord}
use Rattle.ds_model.specs.Logs.{put_by_lrsn, by_lrsn}
use Rattle.log_merge.specs.Merging.{is_merged, kept, in_order, RisesFrom}
use Rattle.log_merge.proofs.Order.{above-leb, rises_lower, sorted_is, rises_by, kept_rises}

-- those of this transaction
abbrev pub own_of : ℕ → List LogRecord → List LogRecord
own_of t rs = filter (λ (r : LogRecord). r.tran == t) rs

-- ---- what a filter keeps of sorted records

within-leb : (m n : ℕ) → leb m n ≡ true → m ≤ n
within-leb m n e = grind arith

put_first : (r : LogRecord) (l : List LogRecord) → RisesFrom r.lrsn l → put_by_lrsn r l ≡ r ∷ l
put_first r [] h = refl
put_first r (s ∷ ss) h = ap (λ b. cond b (r ∷ s ∷ ss) (s ∷ put_by_lrsn r ss)) (le-leb r.lrsn s.lrsn h.0)

put_behind : (r s : LogRecord) (ss : List LogRecord) → s.lrsn < r.lrsn → put_by_lrsn r (s ∷ ss) ≡ s ∷ put_by_lrsn r ss
put_behind r s ss lt = ap (λ b. cond b (r ∷ s ∷ ss) (s ∷ put_by_lrsn r ss)) (lt-leb r.lrsn s.lrsn lt)

rises_if : (b : Bool) (low : ℕ) (r : LogRecord) (us : List LogRecord) → low ≤ r.lrsn → RisesFrom r.lrsn us → RisesFrom low (cond b (r ∷ us) us)
rises_if true low r us le h = (le, h)
rises_if false low r us le h = rises_lower low r.lrsn us le h

pub filter_rises : (p : LogRecord → Bool) (low : ℕ) (l : List LogRecord) → RisesFrom low l → RisesFrom low (filter p l)
filter_rises p low [] h = tt
filter_rises p low (r ∷ rs) h = rises_if (p r) low r (filter p rs) h.0 (filter_rises p r.lrsn rs h.1)

-- the record goes first, as it does among all
first_if : (b : Bool) (r : LogRecord) (us : List LogRecord) → RisesFrom r.lrsn us → cond b (r ∷ us) us ≡ cond b (put_by_lrsn r us) us
first_if true r us h = sym (put_first r us h)
first_if false r us h = refl

-- or behind the next one
behind_if : (a b : Bool) (r s : LogRecord) (us vs : List LogRecord) → s.lrsn < r.lrsn → vs ≡ cond a (put_by_lrsn r us) us
    → cond b (s ∷ vs) vs ≡ cond a (put_by_lrsn r (cond b (s ∷ us) us)) (cond b (s ∷ us) us)
behind_if true true r s us vs lt e = ap (λ (l : List LogRecord). s ∷ l) e ∙ sym (put_behind r s us lt)
behind_if true false r s us vs lt e = e
behind_if false true r s us vs lt e = ap (λ (l : List LogRecord). s ∷ l) e
behind_if false false r s us vs lt e = e

put_when : (p : LogRecord → Bool) (c : Bool) (r s : LogRecord) (ss : List LogRecord) → leb r.lrsn s.lrsn ≡ c → RisesFrom s.lrsn ss
    → filter p (put_by_lrsn r ss) ≡ cond (p r) (put_by_lrsn r (filter p ss)) (filter p ss)
    → filter p (cond c (r ∷ s ∷ ss) (s ∷ put_by_lrsn r ss)) ≡ cond (p r) (put_by_lrsn r (filter p (s ∷ ss))) (filter p (s ∷ ss))
put_when p true r s ss e h ih = first_if (p r) r (filter p (s ∷ ss)) (filter_rises p r.lrsn (s ∷ ss) (within-leb r.lrsn s.lrsn e, h))
put_when p false r s ss e h ih = behind_if (p r) (p s) r s (filter p ss) (filter p (put_by_lrsn r ss)) (above-leb r.lrsn s.lrsn e) ih

filter_put : (p : LogRecord → Bool) (low : ℕ) (r : LogRecord) (ss : List LogRecord) → RisesFrom low ss → filter p (put_by_lrsn r ss) ≡ cond (p r) (put_by_lrsn r (filter p ss)) (filter p ss)
filter_put p low r [] h = refl
filter_put p low r (s ∷ ss) h = put_when p (leb r.lrsn s.lrsn) r s ss refl h.1 (filter_put p s.lrsn r ss h.1)

sorted_if : (b : Bool) (r : LogRecord) (us : List LogRecord) → cond b (put_by_lrsn r (by_lrsn us)) (by_lrsn us) ≡ by_lrsn (cond b (r ∷ us) us)
sorted_if true r us = refl
sorted_if false r us = refl

filter_sorted : (p : LogRecord → Bool) (rs : List LogRecord) → filter p (by_lrsn rs) ≡ by_lrsn (filter p rs)
filter_sorted p [] = refl
filter_sorted p (r ∷ rs) =
    filter_put p 0 r (by_lrsn rs) (rises_by rs)
    ∙ ap (λ (us : List LogRecord). cond (p r) (put_by_lrsn r us) us) (filter_sorted p rs)
    ∙ sorted_if (p r) r (filter p rs)

-- ---- two filters

swap_if : (p q : LogRecord → Bool) (a b : Bool) (r : LogRecord) (us vs : List LogRecord) → p r ≡ a → q r ≡ b → filter p us ≡ filter q vs → filter p (cond b (r ∷ us) us) ≡ filter q (cond a (r ∷ vs) vs)
swap_if p q true true r us vs i j e =
    ap (λ (c : Bool). cond c (r ∷ filter p us) (filter p us)) i ∙ ap (λ (l : List LogRecord). r ∷ l) e ∙ sym (ap (λ (c : Bool). cond c (r ∷ filter q vs) (filter q vs)) j)
swap_if p q true false r us vs i j e = e ∙ sym (ap (λ (c : Bool). cond c (r ∷ filter q vs) (filter q vs)) j)
swap_if p q false true r us vs i j e = ap (λ (c : Bool). cond c (r ∷ filter p us) (filter p us)) i ∙ e
swap_if p q false false r us vs i j e = e

filter_swap : (p q : LogRecord → Bool) (rs : List LogRecord) → filter p (filter q rs) ≡ filter q (filter p rs)
filter_swap p q [] = refl
filter_swap p q (r ∷ rs) = swap_if p q (p r) (q r) r (filter q rs) (filter p rs) refl refl (filter_swap p q rs)

-- ---- one transaction's

-- where its records rise among all, they stand so among the merged ones
pub own_merged : (t : ℕ) (rs : List LogRecord) → RisesFrom 0 (own_of t rs) → own_of t (in_order rs) ≡ kept (own_of t rs)
own_merged t rs h =
    filter_sorted (λ (r : LogRecord). r.tran == t) (kept rs)
    ∙ ap by_lrsn (filter_swap (λ (r : LogRecord). r.tran == t) (λ (r : LogRecord). is_merged r.body) rs)
    ∙ sorted_is 0 (kept (own_of t rs)) (kept_rises 0 (own_of t rs) h)
