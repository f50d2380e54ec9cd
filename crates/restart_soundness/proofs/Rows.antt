-- The rows of records follow from their row changes and commits, so logs with the same lasting records stand for the same rows.
use Rattle.std.proofs.Common.{◌≡◌, ℕ, ◌+◌, ◌-◌, ◌<◌, ◌≤◌, suc, Bool, true, false, cond, leb, List, [], ◌∷◌, ◌++◌, length, get_or, Ok, refl, sym, ap, subst, ◌∙◌, arith}
use Rattle.std.specs.Prelude.{◌&&◌, ◌||◌, ◌==◌, filter}
use Rattle.std.specs.List.{flat_map}
use Rattle.std.specs.FinMap as finite
use Rattle.std.proofs.lemmas.Bool.{le-leb, lt-leb}
use Rattle.std.proofs.lemmas.List.Elements.{filter-append}
use Rattle.ds_model.specs.declared.log.LogRecord.{LogRecord}
use Rattle.ds_model.specs.declared.log.Body.{Body}
use Rattle.ds_model.specs.declared.log.Body.TheVariants as body
use Rattle.ds_model.specs.RecordBytes.{record_bytes}
use Rattle.ds_model.specs.Rows.{Rows}
use Rattle.ds_model.specs.Logs.{IsLog, AreLogs, StandFor, is_commit, has_commit, put_by_lrsn, by_lrsn, after_body, after_records, rows_of_records}
use Rattle.ds_disk.specs.Contents.{Contents}
use Rattle.log_merge.specs.Merging.{RisesFrom}
use Rattle.log_merge.proofs.Order.{above-leb, rises_lower, rises_by}
use Rattle.disk_restart.specs.Keeping.{is_lasting, kept_if, lasting_from, lasting_among, lasting_in, lasting, KeepsRecords}
use Rattle.disk_restart.proofs.Whole.{ReadsSound}

-- ---- what tells of rows

abbrev pub tells_body : Body → Bool
tells_body (body.RowChange change) = true
tells_body (body.Compensation change undone) = false
tells_body (body.System patches) = false
tells_body body.Commit = true
tells_body body.Ended = false
tells_body (body.Checkpoint offset) = false
tells_body body.RestartEnd = false

abbrev tells : LogRecord → Bool
tells r = tells_body r.body

abbrev pub telling : List LogRecord → List LogRecord
telling rs = filter tells rs

pub no_commit : (b : Body) → tells_body b ≡ false → is_commit b ≡ false
no_commit (body.RowChange change) e = refl
no_commit (body.Compensation change undone) e = refl
no_commit (body.System patches) e = refl
no_commit body.Commit e = absurd cc
no_commit body.Ended e = refl
no_commit (body.Checkpoint offset) e = refl
no_commit body.RestartEnd e = refl

no_row : (b : Body) (rows : Rows) → tells_body b ≡ false → after_body rows b ≡ rows
no_row (body.RowChange change) rows e = absurd cc
no_row (body.Compensation change undone) rows e = refl
no_row (body.System patches) rows e = refl
no_row body.Commit rows e = refl
no_row body.Ended rows e = refl
no_row (body.Checkpoint offset) rows e = refl
no_row body.RestartEnd rows e = refl

-- all that tells of rows lasts
lasts : (b : Body) (at : ℕ) → tells_body b ≡ true → is_lasting at b ≡ true
lasts (body.RowChange change) at e = refl
lasts (body.Compensation change undone) at e = absurd cc
lasts (body.System patches) at e = absurd cc
lasts body.Commit at e = refl
lasts body.Ended at e = absurd cc
lasts (body.Checkpoint offset) at e = absurd cc
lasts body.RestartEnd at e = absurd cc

-- ---- what a filter keeps of records in order

within-leb : (m n : ℕ) → leb m n ≡ true → m ≤ n
within-leb m n e = grind arith

put_first : (r : LogRecord) (l : List LogRecord) → RisesFrom r.lrsn l → put_by_lrsn r l ≡ r ∷ l
put_first r [] h = refl
put_first r (s ∷ ss) h = ap (λ (b : Bool). cond b (r ∷ s ∷ ss) (s ∷ put_by_lrsn r ss)) (le-leb r.lrsn s.lrsn h.0)

put_behind : (r s : LogRecord) (ss : List LogRecord) → s.lrsn < r.lrsn → put_by_lrsn r (s ∷ ss) ≡ s ∷ put_by_lrsn r ss
put_behind r s ss lt = ap (λ (b : Bool). cond b (r ∷ s ∷ ss) (s ∷ put_by_lrsn r ss)) (lt-leb r.lrsn s.lrsn lt)

rises_if : (b : Bool) (low : ℕ) (r : LogRecord) (us : List LogRecord) → low ≤ r.lrsn → RisesFrom r.lrsn us → RisesFrom low (cond b (r ∷ us) us)
rises_if true low r us le h = (le, h)
rises_if false low r us le h = rises_lower low r.lrsn us le h

filter_rises : (p : LogRecord → Bool) (low : ℕ) (l : List LogRecord) → RisesFrom low l → RisesFrom low (filter p l)
filter_rises p low [] h = tt
filter_rises p low (r ∷ rs) h = rises_if (p r) low r (filter p rs) h.0 (filter_rises p r.lrsn rs h.1)

first_if : (b : Bool) (r : LogRecord) (us : List LogRecord) → RisesFrom r.lrsn us → cond b (r ∷ us) us ≡ cond b (put_by_lrsn r us) us
first_if true r us h = sym (put_first r us h)
first_if false r us h = refl

behind_if : (a b : Bool) (r s : LogRecord) (us vs : List LogRecord) → s.lrsn < r.lrsn → vs ≡ cond a (put_by_lrsn r us) us
    → cond b (s ∷ vs) vs ≡ cond a (put_by_lrsn r (cond b (s ∷ us) us)) (cond b (s ∷ us) us)
behind_if true true r s us vs lt e = ap (λ (l : List LogRecord). s ∷ l) e ∙ sym (put_behind r s us lt)
behind_if true false r s us vs lt e = e
behind_if false true r s us vs lt e = ap (λ (l : List LogRecord). s ∷ l) e
behind_if false false r s us vs lt e = e

put_when : (p : LogRecord → Bool) (c : Bool) (r s : LogRecord) (ss : List LogRecord) → leb r.lrsn s.lrsn ≡ c → RisesFrom s.lrsn ss
    → filter p (put_by_lrsn r ss) ≡ cond (p r) (put_by_lrsn r (filter p ss)) (filter p ss)
    → filter p (cond c (r ∷ s ∷ ss) (s ∷ put_by_lrsn r ss)) ≡ cond (p r) (put_by_lrsn r (filter p (s ∷ ss))) (filter p (s ∷ ss))
put_when p true r s ss e h ih = first_if (p r) r (filter p (s ∷ ss)) (filter_rises p r.lrsn (s ∷ ss) (within-leb r.lrsn s.lrsn e, h))
put_when p false r s ss e h ih = behind_if (p r) (p s) r s (filter p ss) (filter p (put_by_lrsn r ss)) (above-leb r.lrsn s.lrsn e) ih

filter_put : (p : LogRecord → Bool) (low : ℕ) (r : LogRecord) (ss : List LogRecord) → RisesFrom low ss → filter p (put_by_lrsn r ss) ≡ cond (p r) (put_by_lrsn r (filter p ss)) (filter p ss)
filter_put p low r [] h = refl
filter_put p low r (s ∷ ss) h = put_when p (leb r.lrsn s.lrsn) r s ss refl h.1 (filter_put p s.lrsn r ss h.1)

sorted_if : (b : Bool) (r : LogRecord) (us : List LogRecord) → cond b (put_by_lrsn r (by_lrsn us)) (by_lrsn us) ≡ by_lrsn (cond b (r ∷ us) us)
sorted_if true r us = refl
sorted_if false r us = refl

filter_sorted : (p : LogRecord → Bool) (rs : List LogRecord) → filter p (by_lrsn rs) ≡ by_lrsn (filter p rs)
filter_sorted p [] = refl
filter_sorted p (r ∷ rs) =
    filter_put p 0 r (by_lrsn rs) (rises_by rs)
    ∙ ap (λ (us : List LogRecord). cond (p r) (put_by_lrsn r us) us) (filter_sorted p rs)
    ∙ sorted_if (p r) r (filter p rs)

-- ---- two filters

swap_if : (p q : LogRecord → Bool) (a b : Bool) (r : LogRecord) (us vs : List LogRecord) → p r ≡ a → q r ≡ b → filter p us ≡ filter q vs → filter p (cond b (r ∷ us) us) ≡ filter q (cond a (r ∷ vs) vs)
swap_if p q true true r us vs i j e =
    ap (λ (c : Bool). cond c (r ∷ filter p us) (filter p us)) i ∙ ap (λ (l : List LogRecord). r ∷ l) e ∙ sym (ap (λ (c : Bool). cond c (r ∷ filter q vs) (filter q vs)) j)
swap_if p q true false r us vs i j e = e ∙ sym (ap (λ (c : Bool). cond c (r ∷ filter q vs) (filter q vs)) j)
swap_if p q false true r us vs i j e = ap (λ (c : Bool). cond c (r ∷ filter p us) (filter p us)) i ∙ e
swap_if p q false false r us vs i j e = e

filter_swap : (p q : LogRecord → Bool) (rs : List LogRecord) → filter p (filter q rs) ≡ filter q (filter p rs)
filter_swap p q [] = refl
filter_swap p q (r ∷ rs) = swap_if p q (p r) (q r) r (filter q rs) (filter p rs) refl refl (filter_swap p q rs)

filter_same : (p q : LogRecord → Bool) → ((r : LogRecord) → p r ≡ q r) → (rs : List LogRecord) → filter p rs ≡ filter q rs
filter_same p q same [] = refl
filter_same p q same (r ∷ rs) = ap (λ (b : Bool). cond b (r ∷ filter p rs) (filter p rs)) (same r) ∙ ap (λ (l : List LogRecord). cond (q r) (r ∷ l) l) (filter_same p q same rs)

-- ---- rows by what tells of them

commit_if : (b : Bool) (r : LogRecord) (us : List LogRecord) (tran : ℕ) → tells_body r.body ≡ b → has_commit (cond b (r ∷ us) us) tran ≡ has_commit (r ∷ us) tran
commit_if true r us tran e = refl
commit_if false r us tran e = ap (λ (c : Bool). (c && (r.tran == tran)) || has_commit us tran) (sym (no_commit r.body e))

pub commits_told : (rs : List LogRecord) (tran : ℕ) → has_commit (telling rs) tran ≡ has_commit rs tran
commits_told [] tran = refl
commits_told (r ∷ rs) tran = commit_if (tells_body r.body) r (telling rs) tran refl ∙ ap (λ (b : Bool). (is_commit r.body && (r.tran == tran)) || b) (commits_told rs tran)

row_if : (b : Bool) (r : LogRecord) (us : List LogRecord) (rows : Rows) → tells_body r.body ≡ b → after_records rows (cond b (r ∷ us) us) ≡ after_records rows (r ∷ us)
row_if true r us rows e = refl
row_if false r us rows e = ap (λ (m : Rows). after_records m us) (sym (no_row r.body rows e))

after_told : (rs : List LogRecord) (rows : Rows) → after_records rows (telling rs) ≡ after_records rows rs
after_told [] rows = refl
after_told (r ∷ rs) rows = row_if (tells_body r.body) r (telling rs) rows refl ∙ after_told rs (after_body rows r.body)

rows_told : (rs : List LogRecord) → rows_of_records (telling rs) ≡ rows_of_records rs
rows_told rs =
    let p : LogRecord → Bool = λ r. has_commit (telling rs) r.tran in
    let q : LogRecord → Bool = λ r. has_commit rs r.tran in
    ap (λ (l : List LogRecord). after_records finite.empty (by_lrsn l)) (filter_same p q (λ r. commits_told rs r.tran) (telling rs) ∙ filter_swap q tells rs)
    ∙ ap (after_records finite.empty) (sym (filter_sorted tells (filter q rs)))
    ∙ after_told (by_lrsn (filter q rs)) finite.empty

-- ---- lasting records tell as much

last_if : (a b : Bool) (r : LogRecord) (us : List LogRecord) → tells_body r.body ≡ a → (a ≡ true → b ≡ true) → telling (kept_if b r us) ≡ cond a (r ∷ telling us) (telling us)
last_if true true r us e h = ap (λ (c : Bool). cond c (r ∷ telling us) (telling us)) e
last_if true false r us e h = absurd (let no : false ≡ true = h refl in cc)
last_if false true r us e h = ap (λ (c : Bool). cond c (r ∷ telling us) (telling us)) e
last_if false false r us e h = refl

lasting_tells : (at : ℕ) (rs : List LogRecord) → telling (lasting_from at rs) ≡ telling rs
lasting_tells at [] = refl
lasting_tells at (r ∷ rs) =
    last_if (tells_body r.body) (is_lasting at r.body) r (lasting_from (at + length (record_bytes r)) rs) refl (lasts r.body at)
    ∙ ap (λ (l : List LogRecord). cond (tells_body r.body) (r ∷ l) l) (lasting_tells (at + length (record_bytes r)) rs)

same_told : (rs ss : List LogRecord) → lasting_among rs ≡ lasting_among ss → telling rs ≡ telling ss
same_told rs ss e = sym (lasting_tells 0 rs) ∙ ap telling e ∙ lasting_tells 0 ss

-- ---- of all logs

abbrev together : List (List LogRecord) → List LogRecord
together lists = flat_map (λ (l : List LogRecord). l) lists

abbrev pub Keep : List (List ℕ) → List (List ℕ) → Type 0
Keep before after = (i : ℕ) → lasting (get_or after i []) ≡ lasting (get_or before i [])

pub told_first : ReadsSound → (b d : List ℕ) (r s : List LogRecord) → IsLog b r → IsLog d s → lasting d ≡ lasting b → telling s ≡ telling r
told_first sound b d r s is now same =
    let one : lasting d ≡ Ok (lasting_among s) = ap lasting_in (sound d s now) in
    let two : lasting b ≡ Ok (lasting_among r) = ap lasting_in (sound b r is) in
    let three : lasting_among s ≡ lasting_among r = cc in
    same_told s r three

told_all : ReadsSound → (bs ds : List (List ℕ)) (rss sss : List (List LogRecord)) → AreLogs bs rss → AreLogs ds sss → length bs ≡ length ds → Keep bs ds → telling (together sss) ≡ telling (together rss)
told_all sound [] [] [] [] are now as_many keep = refl
told_all sound [] [] [] (s ∷ ss) are now as_many keep = absurd now
told_all sound [] [] (r ∷ rs) sss are now as_many keep = absurd are
told_all sound [] (d ∷ ds) rss sss are now as_many keep = absurd (omega arith)
told_all sound (b ∷ bs) [] rss sss are now as_many keep = absurd (omega arith)
told_all sound (b ∷ bs) (d ∷ ds) [] sss are now as_many keep = absurd are
told_all sound (b ∷ bs) (d ∷ ds) (r ∷ rs) [] are now as_many keep = absurd now
told_all sound (b ∷ bs) (d ∷ ds) (r ∷ rs) (s ∷ ss) are now as_many keep =
    let less : length bs ≡ length ds = omega arith in
    filter-append tells s (together ss)
    ∙ ap (λ (l : List LogRecord). l ++ telling (together ss)) (told_first sound b d r s are.0 now.0 (keep 0))
    ∙ ap (λ (l : List LogRecord). telling r ++ l) (told_all sound bs ds rs ss are.1 now.1 less (λ i. keep (suc i)))
    ∙ sym (filter-append tells r (together rs))

pub by_place : (c d : Contents) → KeepsRecords c d → Keep c.logs d.logs
by_place c d keeps i =
    let there : suc i - 1 ≡ i = omega arith in
    subst (λ (k : ℕ). lasting (get_or d.logs k []) ≡ lasting (get_or c.logs k [])) there (keeps (suc i))

-- logs that stand for rows at all stand for those for which they stood
pub rows_stay : ReadsSound → (c d : Contents) (rows now : Rows) → length c.logs ≡ length d.logs → KeepsRecords c d → StandFor c.logs rows → StandFor d.logs now → StandFor d.logs rows
rows_stay sound c d rows now as_many keeps were are =
    let same = told_all sound c.logs d.logs were.records are.records were.are are.are as_many (by_place c d keeps) in
    record {
      records = are.records;
      are = are.are;
      rows_are = sym (rows_told (together are.records)) ∙ ap rows_of_records same ∙ rows_told (together were.records) ∙ were.rows_are;
    }
