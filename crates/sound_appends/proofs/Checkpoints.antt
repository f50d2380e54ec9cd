-- Checkpoints still name places before which nothing needs to be read again.
use Rattle.std.proofs.Common.{◌≡◌, ℕ, ◌+◌, ◌≤◌, Bool, true, false, cond, List, [], ◌∷◌, ◌++◌, length, inl, inr, refl, sym, ap, subst, ◌∙◌, arith, length-append}
use Rattle.std.specs.Prelude.{◌==◌, nat_lt, not, ◌||◌, ◌&&◌}
use Rattle.std.specs.List.{list_any, list_all, AllByRecursion}
use Rattle.std.proofs.lemmas.Bool.{cond_both, or_cases, or_left, or_right, and_from, and_parts, eqb-true, eq-eqb, le-ltb}
use Rattle.std.proofs.lemmas.List.{append-nil}
use Rattle.std.proofs.lemmas.List.Folds.{list_any-append, list_all-append}
use Rattle.ds_model.specs.declared.log.LogRecord.{LogRecord}
use Rattle.ds_model.specs.declared.log.Body.{Body}
use Rattle.ds_model.specs.declared.log.Body.TheVariants as body
use Rattle.ds_model.specs.Logs.{is_commit}
use Rattle.ds_model.specs.RecordBytes.{record_bytes, log_bytes}
use Rattle.log_record.specs.declared.log.Log.{Log}
use Rattle.page_images.specs.Images.{Images}
use Rattle.sound_disk.specs.Settled.{is_row_change, takes_back, is_open, has_ended}
use Rattle.sound_disk.specs.Checkpoints.{next_place, offset_fits, offsets_fit, offset_or, start_from, start_of, records_before, is_in_pages, changes_pages, is_done, IsCheckpointed, AreCheckpointed}
use Rattle.sound_disk.specs.Laws.{with_record}
use Rattle.sound_appends.specs.Appends.{IsNext, Appends}
use Rattle.sound_appends.specs.Laws.{IsDoneBefore}
use Rattle.sound_appends.proofs.Numbers.{no_row_change, no_commit}
use Rattle.sound_appends.proofs.Open.{open_between, no_row_open}

-- ---- offsets

-- a Checkpoint names this byte
abbrev NamesPlace : ℕ → Body → Type 0
NamesPlace end (body.RowChange change) = Unit {0}
NamesPlace end (body.Compensation change undone) = Unit {0}
NamesPlace end (body.System patches) = Unit {0}
NamesPlace end body.Commit = Unit {0}
NamesPlace end body.Ended = Unit {0}
NamesPlace end (body.Checkpoint offset) = offset ≡ end
NamesPlace end body.RestartEnd = Unit {0}

names_own : (logs : List Log) (log : Log) (r : LogRecord) (b : Body) → IsNext logs log r b → NamesPlace log.length b
names_own logs log r (body.RowChange change) h = tt
names_own logs log r (body.Compensation change undone) h = tt
names_own logs log r (body.System patches) h = tt
names_own logs log r body.Commit h = tt
names_own logs log r body.Ended h = tt
names_own logs log r (body.Checkpoint offset) h = h.1
names_own logs log r body.RestartEnd h = tt

own_fits : (places : List ℕ) (end : ℕ) (b : Body) → NamesPlace end b → offset_fits (places ++ end ∷ []) b ≡ true
own_fits places end (body.RowChange change) h = refl
own_fits places end (body.Compensation change undone) h = refl
own_fits places end (body.System patches) h = refl
own_fits places end body.Commit h = refl
own_fits places end body.Ended h = refl
own_fits places end (body.Checkpoint offset) h =
    list_any-append (λ (at : ℕ). at == offset) places (end ∷ [])
    ∙ or_right (list_any (λ (at : ℕ). at == offset) places) ((end == offset) || false) (or_left (end == offset) false (eq-eqb end offset (sym h)))
own_fits places end body.RestartEnd h = refl

size_of : (r : LogRecord) (rs : List LogRecord) → length (log_bytes (r ∷ rs)) ≡ length (record_bytes r) + length (log_bytes rs)
size_of r rs = length-append (record_bytes r) (log_bytes rs)

offsets_with : (places : List ℕ) (at : ℕ) (rs : List LogRecord) (r : LogRecord) (end : ℕ) → at + length (log_bytes rs) ≡ end → NamesPlace end r.body → offsets_fit places at rs ≡ true → offsets_fit places at (rs ++ r ∷ []) ≡ true
offsets_with places at [] r end e own h =
    let here : end ≡ at = omega (arith, e) in
    and_from (offset_fits (places ++ at ∷ []) r.body) true (subst (λ (k : ℕ). offset_fits (places ++ k ∷ []) r.body ≡ true) here (own_fits places end r.body own)) refl
offsets_with places at (x ∷ rs) r end e own h =
    let p = and_parts (offset_fits (places ++ at ∷ []) x.body) (offsets_fit (places ++ at ∷ []) (next_place at x) rs) h in
    let size = size_of x rs in
    and_from (offset_fits (places ++ at ∷ []) x.body) (offsets_fit (places ++ at ∷ []) (next_place at x) (rs ++ r ∷ [])) p.0
    (offsets_with (places ++ at ∷ []) (next_place at x) rs r end (omega (arith, e, size)) own p.1)

-- ---- the place from which the log is read on

start_with : (start : ℕ) (rs : List LogRecord) (r : LogRecord) → start_from start (rs ++ r ∷ []) ≡ offset_or (start_from start rs) r.body
start_with start [] r = refl
start_with start (x ∷ rs) r = start_with (offset_or start x.body) rs r

abbrev AreUpTo : List ℕ → ℕ → Type 0
AreUpTo places at = (k : ℕ) → list_any (λ (p : ℕ). p == k) places ≡ true → k ≤ at

offset_up_to : (places : List ℕ) (start at : ℕ) (b : Body) → AreUpTo places at → start ≤ at → offset_fits places b ≡ true → offset_or start b ≤ at
offset_up_to places start at (body.RowChange change) up low h = low
offset_up_to places start at (body.Compensation change undone) up low h = low
offset_up_to places start at (body.System patches) up low h = low
offset_up_to places start at body.Commit up low h = low
offset_up_to places start at body.Ended up low h = low
offset_up_to places start at (body.Checkpoint offset) up low h = up offset h
offset_up_to places start at body.RestartEnd up low h = low

up_to_more : (places : List ℕ) (at : ℕ) → AreUpTo places at → AreUpTo (places ++ at ∷ []) at
up_to_more places at up = λ k is.
    elim (or_cases (list_any (λ (p : ℕ). p == k) places) ((at == k) || false) (sym (list_any-append (λ (p : ℕ). p == k) places (at ∷ [])) ∙ is)) [
      | inl e ↦ up k e
      | inr e ↦ elim (or_cases (at == k) false e) [
        | inl f ↦ (let same : at ≡ k = eqb-true at k f in omega (arith, same))
        | inr f ↦ absurd cc
      ]
    ]

start_up_to : (places : List ℕ) (at start : ℕ) (rs : List LogRecord) → AreUpTo places at → start ≤ at → offsets_fit places at rs ≡ true → start_from start rs ≤ at + length (log_bytes rs)
start_up_to places at start [] up low h = omega (arith, low)
start_up_to places at start (x ∷ rs) up low h =
    let p = and_parts (offset_fits (places ++ at ∷ []) x.body) (offsets_fit (places ++ at ∷ []) (next_place at x) rs) h in
    let more = up_to_more places at up in
    let next : offset_or start x.body ≤ at = offset_up_to (places ++ at ∷ []) start at x.body more low p.0 in
    let wide : AreUpTo (places ++ at ∷ []) (next_place at x) = λ k is. let l = more k is in omega (arith, l) in
    let ih = start_up_to (places ++ at ∷ []) (next_place at x) (offset_or start x.body) rs wide (omega (arith, next)) p.1 in
    let size = size_of x rs in
    omega (arith, ih, size)

-- ---- what stands before it

none_before : (p : LogRecord → Bool) (upto at : ℕ) (r : LogRecord) → upto ≤ at → list_all p (cond (nat_lt at upto) (r ∷ []) []) ≡ true
none_before p upto at r low = ap (λ (b : Bool). list_all p (cond b (r ∷ []) [])) (le-ltb at upto low)

all_if : (p : LogRecord → Bool) (b : Bool) (x : LogRecord) (xs ys : List LogRecord) → (list_all p xs ≡ true → list_all p ys ≡ true) → list_all p (cond b (x ∷ xs) []) ≡ true → list_all p (cond b (x ∷ ys) []) ≡ true
all_if p true x xs ys more h = let q = and_parts (p x) (list_all p xs) h in and_from (p x) (list_all p ys) q.0 (more q.1)
all_if p false x xs ys more h = refl

before_with : (p : LogRecord → Bool) (upto at : ℕ) (rs : List LogRecord) (r : LogRecord) → upto ≤ at + length (log_bytes rs) → list_all p (records_before upto at rs) ≡ true → list_all p (records_before upto at (rs ++ r ∷ [])) ≡ true
before_with p upto at [] r low h = none_before p upto at r (omega (arith, low))
before_with p upto at (x ∷ rs) r low h =
    let size = size_of x rs in
    all_if p (nat_lt at upto) x (records_before upto (next_place at x) rs) (records_before upto (next_place at x) (rs ++ r ∷ []))
    (λ k. before_with p upto (next_place at x) rs r (omega (arith, low, size)) k) h

front_all : (p : LogRecord → Bool) (upto at : ℕ) (rs : List LogRecord) → list_all p rs ≡ true → list_all p (records_before upto at rs) ≡ true
front_all p upto at [] h = refl
front_all p upto at (x ∷ rs) h =
    let q = and_parts (p x) (list_all p rs) h in
    cond_both (nat_lt at upto) (x ∷ records_before upto (next_place at x) rs) [] (λ (l : List LogRecord). list_all p l ≡ true)
    (λ is. and_from (p x) (list_all p (records_before upto (next_place at x) rs)) q.0 (front_all p upto (next_place at x) rs q.1)) (λ is. refl)

all_weaker : (p q : LogRecord → Bool) (rs : List LogRecord) → ((s : LogRecord) → p s ≡ true → q s ≡ true) → list_all p rs ≡ true → list_all q rs ≡ true
all_weaker p q [] w h = refl
all_weaker p q (r ∷ rs) w h = let k = and_parts (p r) (list_all p rs) h in and_from (q r) (list_all q rs) (w r k.0) (all_weaker p q rs w k.1)

-- ---- transactions that have ended

not_more : (m o n : Bool) → not (m && o) ≡ true → not (m && (o && n)) ≡ true
not_more false o n h = refl
not_more true false n h = refl
not_more true true n h = absurd cc

not_own : (m o : Bool) → o ≡ false → not (m && o) ≡ true
not_own true o h = ap not h
not_own false o h = refl

open_with : (rs : List LogRecord) (r s : LogRecord) → is_commit r.body ≡ false → is_open (rs ++ r ∷ []) s ≡ (is_open rs s && not (takes_back s.lrsn r.body))
open_with rs r s none = open_between rs [] r s none ∙ ap (λ (l : List LogRecord). is_open l s && not (takes_back s.lrsn r.body)) (append-nil rs)

ended_stays : (rs : List LogRecord) (r : LogRecord) (t : ℕ) → is_row_change r.body ≡ false → is_commit r.body ≡ false → has_ended rs t ≡ true → has_ended (rs ++ r ∷ []) t ≡ true
ended_stays rs r t row commit h =
    let passes : LogRecord → Bool = λ s. not ((s.tran == t) && is_open (rs ++ r ∷ []) s) in
    let before : list_all passes rs ≡ true = all_weaker (λ (s : LogRecord). not ((s.tran == t) && is_open rs s)) passes rs
    (λ s k. subst (λ (b : Bool). not ((s.tran == t) && b) ≡ true) (sym (open_with rs r s commit)) (not_more (s.tran == t) (is_open rs s) (not (takes_back s.lrsn r.body)) k)) h in
    let last : passes r ≡ true = not_own (r.tran == t) (is_open (rs ++ r ∷ []) r) (no_row_open (rs ++ r ∷ []) r row) in
    list_all-append passes rs (r ∷ []) ∙ and_from (list_all passes rs) (passes r && true) before (and_from (passes r) true last refl)

done_if : (c i z e f : Bool) → (e ≡ true → f ≡ true) → (c || (i && (z || e))) ≡ true → (c || (i && (z || f))) ≡ true
done_if true i z e f more h = refl
done_if false false z e f more h = absurd cc
done_if false true true e f more h = refl
done_if false true false e f more h = more h

done_stays : (at : Images) (rs : List LogRecord) (r s : LogRecord) → is_row_change r.body ≡ false → is_commit r.body ≡ false → is_done at rs s ≡ true → is_done at (rs ++ r ∷ []) s ≡ true
done_stays at rs r s row commit h =
    done_if (not (changes_pages s)) (is_in_pages at s) (s.tran == 0) (has_ended rs s.tran) (has_ended (rs ++ r ∷ []) s.tran) (λ k. ended_stays rs r s.tran row commit k) h

-- ---- one log

-- up to where nothing needs to be read again
record ReadFrom (at : Images) (rs : List LogRecord) (start : ℕ) : Type 0 where
  within : start ≤ length (log_bytes rs)
  before : list_all (is_done at rs) (records_before start 0 rs) ≡ true

none_up_to : AreUpTo [] 0
none_up_to = λ k is. absurd cc

read_as_before : (at : Images) (rs : List LogRecord) → IsCheckpointed at rs → ReadFrom at rs (start_of rs)
read_as_before at rs h = let up = start_up_to [] 0 0 rs none_up_to (omega arith) h.offsets in record { within = omega (arith, up); before = h.before }

read_from : (at : Images) (logs : List Log) (log : Log) (r : LogRecord) (b : Body) → IsNext logs log r b → log.length ≡ length (log_bytes log.records) → IsDoneBefore at log b → IsCheckpointed at log.records
    → ReadFrom at log.records (offset_or (start_of log.records) b)
read_from at logs log r (body.RowChange change) n size d h = read_as_before at log.records h
read_from at logs log r (body.Compensation change undone) n size d h = read_as_before at log.records h
read_from at logs log r (body.System patches) n size d h = read_as_before at log.records h
read_from at logs log r body.Commit n size d h = read_as_before at log.records h
read_from at logs log r body.Ended n size d h = read_as_before at log.records h
read_from at logs log r (body.Checkpoint offset) n size d h = let own = n.1 in record { within = omega (arith, own, size); before = front_all (is_done at log.records) offset 0 log.records d }
read_from at logs log r body.RestartEnd n size d h = read_as_before at log.records h

checkpointed_with : (at : Images) (logs : List Log) (log : Log) (r : LogRecord) → IsNext logs log r r.body → log.length ≡ length (log_bytes log.records) → IsDoneBefore at log r.body → IsCheckpointed at log.records
    → IsCheckpointed at (log.records ++ r ∷ [])
checkpointed_with at logs log r n size d h =
    let rs = log.records in
    let start = offset_or (start_of rs) r.body in
    let from : ReadFrom at rs start = read_from at logs log r r.body n size d h in
    let all : list_all (is_done at rs) (records_before start 0 (rs ++ r ∷ [])) ≡ true = before_with (is_done at rs) start 0 rs r (let w = from.within in omega (arith, w)) from.before in
    let still : list_all (is_done at (rs ++ r ∷ [])) (records_before start 0 (rs ++ r ∷ [])) ≡ true =
    all_weaker (is_done at rs) (is_done at (rs ++ r ∷ [])) (records_before start 0 (rs ++ r ∷ [])) (λ s k. done_stays at rs r s (no_row_change logs log r r.body n) (no_commit logs log r r.body n) k) all in
    record {
      offsets = offsets_with [] 0 rs r log.length (omega (arith, size)) (names_own logs log r r.body n) h.offsets;
      before = subst (λ (k : ℕ). list_all (is_done at (rs ++ r ∷ [])) (records_before k 0 (rs ++ r ∷ [])) ≡ true) (sym (start_with 0 rs r)) still;
    }

-- ---- all logs

each_with : (P : List LogRecord → Type 0) (front : List Log) (log : Log) (back : List Log) (r : LogRecord) → (P log.records → P (log.records ++ r ∷ [])) → AllByRecursion (λ (l : Log). P l.records) (front ++ log ∷ back)
    → AllByRecursion (λ (l : Log). P l.records) (front ++ with_record log r ∷ back)
each_with P [] log back r more h = (more h.0, h.1)
each_with P (x ∷ xs) log back r more h = (h.0, each_with P xs log back r more h.1)

pub keeps_checkpoints : (at : Images) (logs after : List Log) (r : LogRecord) (h : Appends logs r after) → h.log.length ≡ length (log_bytes h.log.records) → IsDoneBefore at h.log r.body → AreCheckpointed at logs → AreCheckpointed at after
keeps_checkpoints at logs after r h size d a =
    subst (AreCheckpointed at) (sym h.after_are)
    (each_with (IsCheckpointed at) h.front h.log h.back r (λ is. checkpointed_with at logs h.log r h.next size d is) (subst (AreCheckpointed at) h.logs_are a))
