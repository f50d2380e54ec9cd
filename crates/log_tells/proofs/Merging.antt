-- Parts of logs, merged by their numbers.
use Rattle.std.proofs.Common.{◌≡◌, ℕ, zero, suc, ◌+◌, ◌<◌, ◌≤◌, Bool, true, false, cond, List, [], ◌∷◌, ◌++◌, leb, refl, sym, ap, ◌∙◌, subst, arith, inl, inr}
use Rattle.std.specs.Prelude.{filter, nat_le, nat_lt, ◌==◌, ◌&&◌}
use Rattle.std.specs.List.{AllByRecursion}
use Rattle.std.proofs.lemmas.Bool.{cases_Bool, cases_eq, cases_lt, cond-true, cond-false, eqb-true, eq-eqb, ne_eqb, le-leb, lt-leb, leb-true, and_from, and_left, and_right, and_parts, both_ways}
use Rattle.std.proofs.lemmas.List.Elements.{filter-append, filter_agree}
use Rattle.ds_base.specs.declared.names.PageId.{PageId}
use Rattle.ds_model.specs.declared.log.LogRecord.{LogRecord}
use Rattle.ds_model.specs.declared.log.Body.{Body}
use Rattle.ds_model.specs.declared.log.Body.TheVariants as body
use Rattle.ds_model.specs.Logs.{by_lrsn, put_by_lrsn}
use Rattle.log_record.specs.declared.log.Log.{Log}
use Rattle.log_record.specs.Changes.{is_drawn}
use Rattle.log_merge.specs.Merging.{all_records, in_order, is_merged, kept}
use Rattle.page_protocol.specs.Moves.{World}
use Rattle.log_tells.specs.Told.{Told, IsTold, HaveParts, Rise, drawn_in, is_between, is_of, part_of, records_of}
use Rattle.log_tells.specs.Leads.{MergedAre, is_in, records_by, records_from}
use Rattle.log_tells.proofs.Chains.{rise_lower}

-- ---- a record in its place

-- above this number, all of them
abbrev Above : ℕ → List LogRecord → Type 0
Above n rs = AllByRecursion (λ (r : LogRecord). n < r.lrsn) rs

abbrev put_all : List LogRecord → List LogRecord → List LogRecord
put_all [] ys = ys
put_all (x ∷ xs) ys = put_by_lrsn x (put_all xs ys)

by_all : (xs ys : List LogRecord) → by_lrsn (xs ++ ys) ≡ put_all xs (by_lrsn ys)
by_all [] ys = refl
by_all (x ∷ xs) ys = ap (put_by_lrsn x) (by_all xs ys)

put_first : (r : LogRecord) (ys : List LogRecord) → Above r.lrsn ys → put_by_lrsn r ys ≡ r ∷ ys
put_first r [] h = refl
put_first r (y ∷ ys) h = let lt = h.0 in cond-true (nat_le r.lrsn y.lrsn) (r ∷ y ∷ ys) (y ∷ put_by_lrsn r ys) (le-leb r.lrsn y.lrsn (omega (arith, lt)))

put_behind : (r y : LogRecord) (ys : List LogRecord) → y.lrsn < r.lrsn → put_by_lrsn r (y ∷ ys) ≡ y ∷ put_by_lrsn r ys
put_behind r y ys lt = cond-false (nat_le r.lrsn y.lrsn) (r ∷ y ∷ ys) (y ∷ put_by_lrsn r ys) (lt-leb r.lrsn y.lrsn lt)

all_behind : (xs ys : List LogRecord) (y : LogRecord) → Above y.lrsn xs → put_all xs (y ∷ ys) ≡ y ∷ put_all xs ys
all_behind [] ys y h = refl
all_behind (x ∷ xs) ys y h = ap (put_by_lrsn x) (all_behind xs ys y h.1) ∙ put_behind x y (put_all xs ys) h.0

-- ---- two parts of a list whose numbers rise

above_of : (low : ℕ) (p : Told → Bool) (ts : List Told) → Rise low ts → Above low (records_of (filter p ts))
above_of low p [] h = tt
above_of low p (t ∷ ts) h = kept_when (p t) (above_of low p ts (rise_lower low t.it.lrsn ts (less h.0) h.1))
  where
    less : low < t.it.lrsn → low ≤ t.it.lrsn
    less lt = omega (arith, lt)

    kept_when : (b : Bool) → Above low (records_of (filter p ts)) → Above low (records_of (cond b (t ∷ filter p ts) (filter p ts)))
    kept_when true rest = (h.0, rest)
    kept_when false rest = rest

-- a test that passes what one of these two passes; none passes both
pub record AreHalves (p q b : Told → Bool) : Type 0 where
  pub first : (t : Told) → p t ≡ true → b t ≡ true
  pub second : (t : Told) → q t ≡ true → b t ≡ true
  pub other : (t : Told) → p t ≡ false → q t ≡ false → b t ≡ false
  pub apart : (t : Told) → p t ≡ true → q t ≡ false

merge_halves : (p q b : Told → Bool) (low : ℕ) (ts : List Told) → AreHalves p q b → Rise low ts → put_all (records_of (filter p ts)) (records_of (filter q ts)) ≡ records_of (filter b ts)
merge_halves p q b low [] h r = refl
merge_halves p q b low (t ∷ ts) h r = step (p t) (q t) refl refl (merge_halves p q b t.it.lrsn ts h r.1)
  where
    Rest : Type 0
    Rest = put_all (records_of (filter p ts)) (records_of (filter q ts)) ≡ records_of (filter b ts)

    both : (x y z : Bool) → p t ≡ x → q t ≡ y → b t ≡ z
        → put_all (records_of (cond x (t ∷ filter p ts) (filter p ts))) (records_of (cond y (t ∷ filter q ts) (filter q ts))) ≡ records_of (cond z (t ∷ filter b ts) (filter b ts))
        → put_all (records_of (filter p (t ∷ ts))) (records_of (filter q (t ∷ ts))) ≡ records_of (filter b (t ∷ ts))
    both x y z e f g k = rw (e, f, g) k

    step : (x y : Bool) → p t ≡ x → q t ≡ y → Rest → put_all (records_of (filter p (t ∷ ts))) (records_of (filter q (t ∷ ts))) ≡ records_of (filter b (t ∷ ts))
    step true y e f rest = both true false true e (h.apart t e) (h.first t e)
        (ap (put_by_lrsn t.it) rest ∙ put_first t.it (records_of (filter b ts)) (above_of t.it.lrsn b ts r.1))
    step false true e f rest = both false true true e f (h.second t f)
        (all_behind (records_of (filter p ts)) (records_of (filter q ts)) t.it (above_of t.it.lrsn p ts r.1) ∙ ap (λ (rs : List LogRecord). t.it ∷ rs) rest)
    step false false e f rest = both false false false e f (h.other t e f) rest

-- ---- the logs of several members

-- those of this member and those behind it
abbrev from_on : (ℕ → ℕ) → (ℕ → ℕ) → ℕ → Told → Bool
from_on from to k t = is_in from to t && nat_le k t.member

abbrev in_part : (ℕ → ℕ) → (ℕ → ℕ) → ℕ → Told → Bool
in_part from to k t = is_of k t && is_between (from k) (to k) t

halves : (from to : ℕ → ℕ) (k : ℕ) → AreHalves (in_part from to k) (from_on from to (k + 1)) (from_on from to k)
halves from to k = record {
  first = λ t e. let both = and_parts (is_of k t) (is_between (from k) (to k) t) e in
      and_from (is_in from to t) (nat_le k t.member) (ours t both.0 both.1) (le-leb k t.member (let is = eqb-true t.member k both.0 in omega (arith, is)));
  second = λ t e. let both = and_parts (is_in from to t) (nat_le (k + 1) t.member) e in
      and_from (is_in from to t) (nat_le k t.member) both.0 (le-leb k t.member (let le = leb-true (k + 1) t.member both.1 in omega (arith, le)));
  other = λ t e f. elim (cases_Bool (is_in from to t)) [ inl x ↦ and_right (is_in from to t) (nat_le k t.member) (below t e f x) | inr x ↦ and_left (is_in from to t) (nat_le k t.member) x ];
  apart = λ t e. let both = and_parts (is_of k t) (is_between (from k) (to k) t) e in
      and_right (is_in from to t) (nat_le (k + 1) t.member) (lt-leb (k + 1) t.member (let is = eqb-true t.member k both.0 in omega (arith, is)));
}
  where
    ours : (t : Told) → is_of k t ≡ true → is_between (from k) (to k) t ≡ true → is_in from to t ≡ true
    ours t e f = subst (λ m. is_between (from m) (to m) t ≡ true) (sym (eqb-true t.member k e)) f

    theirs : (t : Told) → t.member ≡ k → is_in from to t ≡ true → in_part from to k t ≡ true
    theirs t e f = and_from (is_of k t) (is_between (from k) (to k) t) (eq-eqb t.member k e) (subst (λ m. is_between (from m) (to m) t ≡ true) e f)

    less : (m : ℕ) → m < k + 1 → (m ≡ k → ⊥) → m < k
    less m lt ne = elim (cases_lt m k) [ inl x ↦ x | inr ge ↦ absurd (ne (omega (arith, lt, ge))) ]

    below : (t : Told) → in_part from to k t ≡ false → from_on from to (k + 1) t ≡ false → is_in from to t ≡ true → nat_le k t.member ≡ false
    below t e f x = elim (cases_lt t.member (k + 1)) [
      | inl lt ↦ lt-leb k t.member (less t.member lt (λ is. both_ways (in_part from to k t) e (theirs t is x)))
      | inr ge ↦ absurd (both_ways (from_on from to (k + 1) t) f (and_from (is_in from to t) (nat_le (k + 1) t.member) x (le-leb (k + 1) t.member ge)))
    ]

drawn_is : (b : Body) → is_merged b ≡ is_drawn b
drawn_is (body.RowChange change) = refl
drawn_is (body.Compensation change undone) = refl
drawn_is (body.System patches) = refl
drawn_is body.Commit = refl
drawn_is body.Ended = refl
drawn_is (body.Checkpoint offset) = refl
drawn_is body.RestartEnd = refl

kept_is : (rs : List LogRecord) → kept rs ≡ drawn_in rs
kept_is rs = filter_agree (λ (r : LogRecord). is_merged r.body) (λ (r : LogRecord). is_drawn r.body) (λ r. drawn_is r.body) rs

-- where no part has a record, none is left
parts_none : (from to : ℕ → ℕ) (k : ℕ) (ts : List Told) → ((m : ℕ) → k ≤ m → part_of m (from m) (to m) ts ≡ []) → filter (from_on from to k) ts ≡ []
parts_none from to k [] h = refl
parts_none from to k (t ∷ ts) h = elim (cases_Bool (from_on from to k t)) [
  | inl e ↦ absurd (some e)
  | inr e ↦ cond-false (from_on from to k t) (t ∷ filter (from_on from to k) ts) (filter (from_on from to k) ts) e ∙ parts_none from to k ts rest
]
  where
    empty : (m : ℕ) (b : Bool) → records_of (cond b (t ∷ filter (in_part from to m) ts) (filter (in_part from to m) ts)) ≡ [] → (b ≡ true → ⊥) × (records_of (filter (in_part from to m) ts) ≡ [])
    empty m true e = cc
    empty m false e = ((λ x. cc), e)

    rest : (m : ℕ) → k ≤ m → part_of m (from m) (to m) ts ≡ []
    rest m le = (empty m (in_part from to m t) (h m le)).1

    some : from_on from to k t ≡ true → ⊥
    some e = let both = and_parts (is_in from to t) (nat_le k t.member) e in
        (empty t.member (in_part from to t.member t) (h t.member (leb-true k t.member both.1))).0 (and_from (is_of t.member t) (is_in from to t) (eq-eqb t.member t.member refl) both.0)

merged_from : (told : List Told) (from to : ℕ → ℕ) (k : ℕ) (logs : List Log) → Rise 0 told → ((m : ℕ) → k ≤ m → drawn_in (records_from k logs m) ≡ part_of m (from m) (to m) told)
    → by_lrsn (kept (all_records logs)) ≡ records_of (filter (from_on from to k) told)
merged_from told from to k [] r h = sym (ap records_of (parts_none from to k told (λ m le. sym (h m le))))
merged_from told from to k (l ∷ ls) r h =
    ap by_lrsn (filter-append (λ (x : LogRecord). is_merged x.body) l.records (all_records ls))
    ∙ by_all (kept l.records) (kept (all_records ls))
    ∙ ap (λ xs. put_all xs (by_lrsn (kept (all_records ls)))) (kept_is l.records ∙ own)
    ∙ ap (put_all (part_of k (from k) (to k) told)) (merged_from told from to (k + 1) ls r others)
    ∙ merge_halves (in_part from to k) (from_on from to (k + 1)) (from_on from to k) 0 told (halves from to k) r
  where
    own : drawn_in l.records ≡ part_of k (from k) (to k) told
    own = ap drawn_in (sym (cond-true (k == k) l.records (records_from (k + 1) ls k) (eq-eqb k k refl))) ∙ h k (omega arith)

    past : (m : ℕ) → k + 1 ≤ m → m ≡ k → ⊥
    past m le e = omega (arith, le, e)

    others : (m : ℕ) → k + 1 ≤ m → drawn_in (records_from (k + 1) ls m) ≡ part_of m (from m) (to m) told
    others m le = ap drawn_in (sym (cond-false (m == k) l.records (records_from (k + 1) ls m) (ne_eqb m k (past m le)))) ∙ h m (omega (arith, le))

and-true : (b c : Bool) → c ≡ true → (b && c) ≡ b
and-true true c e = e
and-true false c e = refl

-- no log is that of a member 0
abbrev nobody : Log
nobody = record { member = 0; records = []; length = 0; tail = 0 }

pub merged_are : MergedAre
merged_are name w content told from to logs t h =
    merged_from told from to 0 (nobody ∷ logs) t.rise (λ m le. elim (cases_eq m 0) [ inl e ↦ zero_at m e | inr ne ↦ ap drawn_in (cond-false (m == 0) [] (records_from 1 logs m) (ne_eqb m 0 ne)) ∙ h m ])
    ∙ ap records_of (filter_agree (from_on from to 0) (is_in from to) (λ u. and-true (is_in from to u) (nat_le 0 u.member) (le-leb 0 u.member (omega arith))) told)
  where
    none : (ls : List Log) (k : ℕ) → 1 ≤ k → records_from k ls 0 ≡ []
    none [] k le = refl
    none (l ∷ ls) k le = cond-false (0 == k) l.records (records_from (k + 1) ls 0) (ne_eqb 0 k (differs k le)) ∙ none ls (k + 1) (omega (arith, le))
      where
        differs : (k : ℕ) → 1 ≤ k → 0 ≡ k → ⊥
        differs k le e = omega (arith, le, e)

    zero_at : (m : ℕ) → m ≡ 0 → drawn_in (records_from 0 (nobody ∷ logs) m) ≡ part_of m (from m) (to m) told
    zero_at m e = subst (λ j. drawn_in (records_from 0 (nobody ∷ logs) j) ≡ part_of j (from j) (to j) told) (sym e) (sym (ap drawn_in (none logs 1 (omega arith))) ∙ h 0)
