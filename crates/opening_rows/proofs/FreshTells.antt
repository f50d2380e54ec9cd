-- The records of transactions tell all that logs tell, where none had a record at the opening.
use Rattle.std.proofs.Common.{◌≡◌, ℕ, eqb, Bool, true, false, true≢false, cond, ◌||◌, List, [], ◌∷◌, ◌++◌, map, drop, get_or, zero, suc, Option, Some, None, refl, sym, ap, subst, ◌∙◌, arith}
use Rattle.std.specs.Prelude.{◌≢◌, ◌&&◌, ◌==◌, not}
use Rattle.std.specs.List.{filter, AllByRecursion}
use Rattle.std.specs.FinMap as finite
use Rattle.std.proofs.lemmas.List.Elements.{filter-append}
use Rattle.ds_base.specs.declared.row.Row.{Row}
use Rattle.ds_model.specs.declared.log.LogRecord.{LogRecord}
use Rattle.ds_model.specs.declared.log.Body.{Body}
use Rattle.ds_model.specs.declared.log.Body.TheVariants as body
use Rattle.ds_model.specs.declared.history.Entry.{Entry}
use Rattle.ds_model.specs.declared.script.Script.{Script}
use Rattle.ds_model.specs.RecordBytes.{IsAllowed, TranFits, is_of_tran}
use Rattle.ds_model.specs.Rows.{Rows, map_of, listed}
use Rattle.ds_model.specs.Logs.{is_commit, has_commit, by_lrsn, after_records, rows_of_records, rows_of_logs}
use Rattle.log_record.specs.declared.log.Log.{Log}
use Rattle.log_heads.specs.Logs.{together}
use Rattle.report_check.specs.Records.{records_of}
use Rattle.report_check.specs.Commits.{commits_of, new_commits, AreLogged}
use Rattle.opening_rows.specs.declared.opening.Opening.{Opening}
use Rattle.opening_rows.specs.declared.keeps.Keeps.TheVariants as which
use Rattle.opening_rows.specs.Reading.{AreLogsOf}
use Rattle.opening_rows.specs.Opening.{stood_for}
use Rattle.opening_rows.specs.Kept.{keeps_of, kept_by, AreWhole}
use Rattle.opening_rows.specs.Fresh.{of_trans, tails_of, AreOfTrans}
use Rattle.opening_rows.specs.Judging.{BearOut, Judges}
use Rattle.opening_rows.proofs.Committing.{is_change}
use Rattle.opening_rows.proofs.Order as sorted
use Rattle.opening_rows.proofs.Order.{changes_of, changes_only}
use Rattle.opening_rows.proofs.Enough.{AllKept, commits_kept, all_weaker, Same, of_kept, Covers, logged_from, turned}

-- whether a transaction has this number
abbrev Is : ℕ → Bool
Is tran = keeps_of which.Each tran

same_number : (a b : ℕ) → eqb a b ≡ true → a ≡ b
same_number a b e = grind arith

is_when : (b : Bool) (n : ℕ) → eqb n 0 ≡ b → n ≢ 0 → not b ≡ true
is_when true n e h = absurd (h (same_number n 0 e))
is_when false n e h = refl

is_some : (n : ℕ) → n ≢ 0 → Is n ≡ true
is_some n h = is_when (eqb n 0) n refl h

abbrev AllAllowed : List LogRecord → Type 0
AllAllowed rs = AllByRecursion IsAllowed rs

-- ---- records that change rows or commit have a transaction

change_is : (b : Body) (tran : ℕ) → TranFits (is_of_tran b) tran → is_change b ≡ true → Is tran ≡ true
change_is body.Commit tran fits e = absurd (true≢false (sym e))
change_is (body.RowChange change) tran fits e = is_some tran fits
change_is (body.Compensation change undone) tran fits e = absurd (true≢false (sym e))
change_is (body.System patches) tran fits e = absurd (true≢false (sym e))
change_is body.Ended tran fits e = absurd (true≢false (sym e))
change_is (body.Checkpoint offset) tran fits e = absurd (true≢false (sym e))
change_is body.RestartEnd tran fits e = absurd (true≢false (sym e))

commit_is : (b : Body) (tran : ℕ) → TranFits (is_of_tran b) tran → is_commit b ≡ true → Is tran ≡ true
commit_is body.Commit tran fits e = is_some tran fits
commit_is (body.RowChange change) tran fits e = absurd (true≢false (sym e))
commit_is (body.Compensation change undone) tran fits e = absurd (true≢false (sym e))
commit_is (body.System patches) tran fits e = absurd (true≢false (sym e))
commit_is body.Ended tran fits e = absurd (true≢false (sym e))
commit_is (body.Checkpoint offset) tran fits e = absurd (true≢false (sym e))
commit_is body.RestartEnd tran fits e = absurd (true≢false (sym e))

-- ---- rows

-- a transaction has the same commits
commit_when : (b e c m : Bool) → (e ≡ true → b ≡ true) → cond b ((c && e) || m) m ≡ ((c && e) || m)
commit_when true e c m h = refl
commit_when false true c m h = absurd (true≢false (sym (h refl)))
commit_when false false true m h = refl
commit_when false false false m h = refl

commit_pushed : (b : Bool) (r : LogRecord) (rs : List LogRecord) (tran : ℕ) → has_commit (cond b (r ∷ rs) rs) tran ≡ cond b ((is_commit r.body && eqb r.tran tran) || has_commit rs tran) (has_commit rs tran)
commit_pushed true r rs tran = refl
commit_pushed false r rs tran = refl

commits_same : (tran : ℕ) → Is tran ≡ true → (rs : List LogRecord) → has_commit (of_trans rs) tran ≡ has_commit rs tran
commits_same tran is [] = refl
commits_same tran is (r ∷ rs) =
    commit_pushed (Is r.tran) r (of_trans rs) tran
    ∙ ap (λ (m : Bool). cond (Is r.tran) ((is_commit r.body && eqb r.tran tran) || m) m) (commits_same tran is rs)
    ∙ commit_when (Is r.tran) (eqb r.tran tran) (is_commit r.body) (has_commit rs tran) (λ same. ap Is (same_number r.tran tran same) ∙ is)

-- what passes two tests
both_when : (a b : Bool) (r : LogRecord) (xs : List LogRecord) (q : LogRecord → Bool) (ys : List LogRecord) → q r ≡ b → filter q xs ≡ ys → filter q (cond a (r ∷ xs) xs) ≡ cond (a && b) (r ∷ ys) ys
both_when true b r xs q ys e h = ap (λ (x : Bool). cond x (r ∷ filter q xs) (filter q xs)) e ∙ ap (λ (l : List LogRecord). cond b (r ∷ l) l) h
both_when false b r xs q ys e h = h

both : (p q : LogRecord → Bool) (rs : List LogRecord) → filter q (filter p rs) ≡ filter (λ (r : LogRecord). p r && q r) rs
both p q [] = refl
both p q (r ∷ rs) = both_when (p r) (q r) r (filter p rs) q (filter (λ (x : LogRecord). p x && q x) rs) refl (both p q rs)

-- tests that agree on these records
abbrev Agree : (LogRecord → Bool) → (LogRecord → Bool) → List LogRecord → Type 0
Agree p q rs = AllByRecursion (λ (r : LogRecord). p r ≡ q r) rs

agree : (p q : LogRecord → Bool) (rs : List LogRecord) → Agree p q rs → filter p rs ≡ filter q rs
agree p q [] h = refl
agree p q (r ∷ rs) h = ap (λ (b : Bool). cond b (r ∷ filter p rs) (filter p rs)) h.0 ∙ ap (λ (l : List LogRecord). cond (q r) (r ∷ l) l) (agree p q rs h.1)

change_when : (c p a b : Bool) → (c ≡ true → p ≡ true) → (p ≡ true → a ≡ b) → (c && (p && a)) ≡ (c && b)
change_when true true a b h e = e refl
change_when true false a b h e = absurd (true≢false (sym (h refl)))
change_when false p a b h e = refl

changes_agree : (f g : ℕ → Bool) → ((tran : ℕ) → Is tran ≡ true → f tran ≡ g tran) → (rs : List LogRecord) → AllAllowed rs
    → Agree (changes_of (λ (r : LogRecord). Is r.tran && f r.tran)) (changes_of (λ (r : LogRecord). g r.tran)) rs
changes_agree f g e [] h = tt
changes_agree f g e (r ∷ rs) h = (change_when (is_change r.body) (Is r.tran) (f r.tran) (g r.tran) (λ c. change_is r.body r.tran h.0.tran_fits c) (λ is. e r.tran is), changes_agree f g e rs h.1)

rows_same : (rs : List LogRecord) → AllAllowed rs → rows_of_records (of_trans rs) ≡ rows_of_records rs
rows_same rs allowed =
    let f : LogRecord → Bool = λ r. Is r.tran && has_commit (of_trans rs) r.tran in
    let g : LogRecord → Bool = λ r. has_commit rs r.tran in
    ap (λ (l : List LogRecord). after_records finite.empty (by_lrsn l)) (both (λ (r : LogRecord). Is r.tran) (λ (r : LogRecord). has_commit (of_trans rs) r.tran) rs)
    ∙ ap (after_records finite.empty) (sym (sorted.kept_by f rs))
    ∙ changes_only f (by_lrsn rs) finite.empty
    ∙ ap (after_records finite.empty) (sorted.kept_by (changes_of f) rs ∙ ap by_lrsn (agree (changes_of f) (changes_of g) rs (changes_agree (has_commit (of_trans rs)) (has_commit rs) (λ tran is. commits_same tran is rs) rs allowed)) ∙ sym (sorted.kept_by (changes_of g) rs))
    ∙ sym (changes_only g (by_lrsn rs) finite.empty)
    ∙ ap (after_records finite.empty) (sorted.kept_by g rs)

-- of several logs
abbrev EachAllowed : List (List LogRecord) → Type 0
EachAllowed lists = AllByRecursion AllAllowed lists

together_of : (lists : List (List LogRecord)) → together (map of_trans lists) ≡ of_trans (together lists)
together_of [] = refl
together_of (l ∷ ls) = ap (λ (x : List LogRecord). of_trans l ++ x) (together_of ls) ∙ sym (filter-append (λ (r : LogRecord). Is r.tran) l (together ls))

allowed_append : (rs ss : List LogRecord) → AllAllowed rs → AllAllowed ss → AllAllowed (rs ++ ss)
allowed_append [] ss h k = k
allowed_append (r ∷ rs) ss h k = (h.0, allowed_append rs ss h.1 k)

allowed_together : (lists : List (List LogRecord)) → EachAllowed lists → AllAllowed (together lists)
allowed_together [] h = tt
allowed_together (l ∷ ls) h = allowed_append l (together ls) h.0 (allowed_together ls h.1)

logs_same : (lists : List (List LogRecord)) → EachAllowed lists → rows_of_logs (map of_trans lists) ≡ rows_of_logs lists
logs_same lists h = ap rows_of_records (together_of lists) ∙ rows_same (together lists) (allowed_together lists h)

-- ---- commits

-- the transactions of commits
commits_have : (rs : List LogRecord) → AllAllowed rs → AllKept Is rs
commits_have [] h = tt
commits_have (r ∷ rs) h = (commit_is r.body r.tran h.0.tran_fits, commits_have rs h.1)

abbrev pub HadNone : List ℕ → Type 0
HadNone had = AllByRecursion (λ (n : ℕ). n ≡ 0) had

commits_new : (had : List ℕ) (lists : List (List LogRecord)) → HadNone had → EachAllowed lists → new_commits had (map of_trans lists) ≡ new_commits had lists
commits_new [] [] none h = refl
commits_new (n ∷ had) [] none h = refl
commits_new [] (l ∷ ls) none h = ap (λ (cs : List ℕ). cs ∷ new_commits [] (map of_trans ls)) (commits_kept Is l (commits_have l h.0)) ∙ ap (λ (css : List (List ℕ)). commits_of l ∷ css) (commits_new [] ls tt h.1)
commits_new (n ∷ had) (l ∷ ls) none h =
    subst (λ (k : ℕ). new_commits (k ∷ had) (map of_trans (l ∷ ls)) ≡ new_commits (k ∷ had) (l ∷ ls)) (sym none.0)
    (ap (λ (cs : List ℕ). cs ∷ new_commits had (map of_trans ls)) (commits_kept Is l (commits_have l h.0)) ∙ ap (λ (css : List (List ℕ)). commits_of l ∷ css) (commits_new had ls none.1 h.1))

has_when : (b : Bool) (t : ℕ) (ts : List ℕ) → (b ≡ true → Is t ≡ true) → AllByRecursion (λ (x : ℕ). Is x ≡ true) ts → AllByRecursion (λ (x : ℕ). Is x ≡ true) (cond b (t ∷ ts) ts)
has_when true t ts h all = (h refl, all)
has_when false t ts h all = all

all_have : (rs : List LogRecord) → AllKept Is rs → AllByRecursion (λ (tran : ℕ). Is tran ≡ true) (commits_of rs)
all_have [] h = tt
all_have (r ∷ rs) h = has_when (is_commit r.body) r.tran (commits_of rs) h.0 (all_have rs h.1)

one_covered : (rs : List LogRecord) → AllAllowed rs → AllByRecursion (Same (of_trans rs) rs) (commits_of rs)
one_covered rs h = all_weaker (λ (tran : ℕ). Is tran ≡ true) (Same (of_trans rs) rs) (commits_of rs) (λ t is. of_kept Is t rs is) (all_have rs (commits_have rs h))

covered_at : (had : List ℕ) (lists : List (List LogRecord)) → HadNone had → EachAllowed lists → (i : ℕ) → AllByRecursion (Same (get_or (map of_trans lists) i []) (get_or lists i [])) (get_or (new_commits had lists) i [])
covered_at [] [] none h i = tt
covered_at (n ∷ had) [] none h i = tt
covered_at [] (l ∷ ls) none h zero = one_covered l h.0
covered_at [] (l ∷ ls) none h (suc i) = covered_at [] ls tt h.1 i
covered_at (n ∷ had) (l ∷ ls) none h zero = subst (λ (k : ℕ). AllByRecursion (Same (of_trans l) l) (commits_of (drop k l))) (sym none.0) (one_covered l h.0)
covered_at (n ∷ had) (l ∷ ls) none h (suc i) = covered_at had ls none.1 h.1 i

covered : (had : List ℕ) (lists : List (List LogRecord)) → HadNone had → EachAllowed lists → Covers (map of_trans lists) lists (new_commits had lists)
covered had lists none h = covered_at had lists none h

module _ (had : List ℕ) (lists : List (List LogRecord)) (rows : Rows) (es : List Entry) (none : HadNone had) (h : EachAllowed lists) where
  logged_out : AreLogged (map of_trans lists) (new_commits had (map of_trans lists)) rows es → AreLogged lists (new_commits had lists) rows es
  logged_out l =
      logged_from (map of_trans lists) lists (new_commits had lists) rows es (covered had lists none h)
      (subst (λ (cs : List (List ℕ)). AreLogged (map of_trans lists) cs rows es) (commits_new had lists none h) l)

  logged_in : AreLogged lists (new_commits had lists) rows es → AreLogged (map of_trans lists) (new_commits had (map of_trans lists)) rows es
  logged_in l =
      subst (λ (cs : List (List ℕ)). AreLogged (map of_trans lists) cs rows es) (sym (commits_new had lists none h))
      (logged_from lists (map of_trans lists) (new_commits had lists) rows es (turned (map of_trans lists) lists (new_commits had lists) (covered had lists none h)) l)

-- ---- the judgement

first_tail : (a b : ℕ) (ms ns : List ℕ) → a ∷ ms ≡ b ∷ ns → a ≡ b
first_tail a b ms ns e = cc

other_tails : (a b : ℕ) (ms ns : List ℕ) → a ∷ ms ≡ b ∷ ns → ms ≡ ns
other_tails a b ms ns e = cc

whole_alike : (ls ks : List Log) → tails_of ls ≡ tails_of ks → AreWhole ls → AreWhole ks
whole_alike ls [] e h = tt
whole_alike [] (k ∷ ks) e h = absurd cc
whole_alike (l ∷ ls) (k ∷ ks) e h = (sym (first_tail l.tail k.tail (tails_of ls) (tails_of ks) e) ∙ h.0, whole_alike ls ks (other_tails l.tail k.tail (tails_of ls) (tails_of ks) e) h.1)

each_allowed : (bytes : List (List ℕ)) (logs : List Log) → AreLogsOf bytes logs → EachAllowed (records_of logs)
each_allowed [] [] h = tt
each_allowed [] (l ∷ ls) h = absurd h
each_allowed (b ∷ bs) [] h = absurd h
each_allowed (b ∷ bs) (l ∷ ls) h = (h.0.allowed, each_allowed bs ls h.1)

module _ (script : Script) (opening : Opening) (entries : List Entry) (bytes : List (List ℕ)) (whole logs : List Log) (none : HadNone opening.had.items) (are : AreLogsOf bytes whole) (so : AreOfTrans whole logs) where
  allowed : EachAllowed (records_of whole)
  allowed = each_allowed bytes whole are

  rows_alike : rows_of_logs (records_of logs) ≡ rows_of_logs (records_of whole)
  rows_alike = ap rows_of_logs so.records_are ∙ logs_same (records_of whole) allowed

  abbrev LoggedBy : List (List LogRecord) → Type 0
  LoggedBy lists = AreLogged lists (new_commits opening.had.items lists) (map_of opening.rows) entries

  out : BearOut script opening entries logs → BearOut script opening entries whole
  out b = record {
    whole = whole_alike logs whole so.tails_are b.whole;
    sound = record {
      each_once = b.sound.each_once;
      order = b.sound.order;
      logged = logged_out opening.had.items (records_of whole) (map_of opening.rows) entries none allowed (subst LoggedBy so.records_are b.sound.logged);
      aborts_fit = b.sound.aborts_fit;
      ends = record { legal = b.sound.ends.legal; rows = b.sound.ends.rows ∙ rows_alike };
    };
  }

  back : BearOut script opening entries whole → BearOut script opening entries logs
  back b = record {
    whole = whole_alike whole logs (sym so.tails_are) b.whole;
    sound = record {
      each_once = b.sound.each_once;
      order = b.sound.order;
      logged = subst LoggedBy (sym so.records_are) (logged_in opening.had.items (records_of whole) (map_of opening.rows) entries none allowed b.sound.logged);
      aborts_fit = b.sound.aborts_fit;
      ends = record { legal = b.sound.ends.legal; rows = b.sound.ends.rows ∙ sym rows_alike };
    };
  }

  pub judges_alike : (rows : Option (List Row)) → Judges script opening entries logs rows → Judges script opening entries whole rows
  judges_alike None h = λ b. h (back b)
  judges_alike (Some rows) h = (out h.0, h.1 ∙ ap listed rows_alike)
