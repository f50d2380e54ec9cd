-- What is kept of logs is enough to tell of the transactions that have committed since the opening.
use Rattle.std.proofs.Common.{◌≡◌, ℕ, zero, suc, ◌-◌, Bool, true, false, true≢false, cond, eqb, ◌&&◌, ◌||◌, List, [], ◌∷◌, ◌++◌, length, get_or, set, take, drop, refl, sym, ap, subst, ◌∙◌, append_assoc, arith}
use Rattle.std.specs.List.{AllByRecursion, list_any}
use Rattle.std.proofs.lemmas.List.{take-append-drop, drop_at}
use Rattle.std.proofs.lemmas.List.Elements.{filter-append}
use Rattle.std.proofs.lemmas.List.Folds.{list_any-append}
use Rattle.ds_model.specs.declared.script.Op.{Op}
use Rattle.ds_model.specs.declared.fate.Fate.{Fate}
use Rattle.ds_model.specs.declared.fate.Fate.TheVariants as fate
use Rattle.ds_model.specs.declared.history.Entry.{Entry}
use Rattle.ds_model.specs.declared.log.LogRecord.{LogRecord}
use Rattle.ds_model.specs.Rows.{Rows}
use Rattle.ds_model.specs.Effect.{after_tran}
use Rattle.ds_model.specs.History.{after_fate}
use Rattle.ds_model.specs.Logs.{is_commit, has_commit, after_records}
use Rattle.report_check.specs.Commits.{commits_of, new_commits, at_member, of_tran, FirstMakes, FateIsLogged, left_behind, AreLogged}
use Rattle.opening_rows.specs.Kept.{kept_by, is_new, told_of, told_before, all_told, all_before}
use Rattle.opening_rows.specs.Judging.{KeptIsEnough}

-- ---- a commit among records is one of theirs

eqb_self : (n : ℕ) → eqb n n ≡ true
eqb_self n = grind arith

eqb_same : (a b : ℕ) → eqb a b ≡ true → a ≡ b
eqb_same a b e = grind arith

or_true : (a : Bool) → (a || true) ≡ true
or_true true = refl
or_true false = refl

commit_here : (rs : List LogRecord) (r : LogRecord) (c e : Bool) (x : Bool) → c ≡ true → e ≡ true → ((c && e) || x) ≡ true
commit_here rs r true true x p q = refl
commit_here rs r true false x p q = absurd (true≢false (sym q))
commit_here rs r false e x p q = absurd (true≢false (sym p))

commit_at : (pre rs : List LogRecord) (r : LogRecord) → is_commit r.body ≡ true → has_commit (pre ++ r ∷ rs) r.tran ≡ true
commit_at pre rs r is =
    let test : LogRecord → Bool = λ (x : LogRecord). is_commit x.body && eqb x.tran r.tran in
    list_any-append test pre (r ∷ rs) ∙ ap (λ (b : Bool). list_any test pre || b) (commit_here rs r (is_commit r.body) (eqb r.tran r.tran) (list_any test rs) is (eqb_self r.tran)) ∙ or_true (list_any test pre)

behind : (pre rs : List LogRecord) (r : LogRecord) → (pre ++ r ∷ []) ++ rs ≡ pre ++ r ∷ rs
behind pre rs r = append_assoc pre (r ∷ []) rs

-- ---- the commits of records that are kept

abbrev pub AllKept : (ℕ → Bool) → List LogRecord → Type 0
AllKept keeps rs = AllByRecursion (λ (r : LogRecord). is_commit r.body ≡ true → keeps r.tran ≡ true) rs

all_commits : (pre rs : List LogRecord) → AllKept (has_commit (pre ++ rs)) rs
all_commits pre [] = tt
all_commits pre (r ∷ rs) = (commit_at pre rs r, subst (λ (l : List LogRecord). AllKept (has_commit l) rs) (behind pre rs r) (all_commits (pre ++ r ∷ []) rs))

commits_pushed : (b : Bool) (r : LogRecord) (rs : List LogRecord) → commits_of (cond b (r ∷ rs) rs) ≡ cond b (cond (is_commit r.body) (r.tran ∷ commits_of rs) (commits_of rs)) (commits_of rs)
commits_pushed true r rs = refl
commits_pushed false r rs = refl

commits_when : (b c : Bool) (tran : ℕ) (xs ys : List ℕ) → (c ≡ true → b ≡ true) → xs ≡ ys → cond b (cond c (tran ∷ xs) xs) xs ≡ cond c (tran ∷ ys) ys
commits_when true true tran xs ys h e = ap (λ (l : List ℕ). tran ∷ l) e
commits_when true false tran xs ys h e = e
commits_when false true tran xs ys h e = absurd (true≢false (sym (h refl)))
commits_when false false tran xs ys h e = e

pub commits_kept : (keeps : ℕ → Bool) (rs : List LogRecord) → AllKept keeps rs → commits_of (kept_by keeps rs) ≡ commits_of rs
commits_kept keeps [] h = refl
commits_kept keeps (r ∷ rs) h =
    commits_pushed (keeps r.tran) r (kept_by keeps rs) ∙ commits_when (keeps r.tran) (is_commit r.body) r.tran (commits_of (kept_by keeps rs)) (commits_of rs) h.0 (commits_kept keeps rs h.1)

-- what is kept behind the records at the opening
kept_behind : (had : ℕ) (log : List LogRecord) → drop (told_before had log) (told_of had log) ≡ kept_by (is_new had log) (drop had log)
kept_behind had log =
    let keeps : ℕ → Bool = is_new had log in
    let front : List LogRecord = kept_by keeps (take had log) in
    let back : List LogRecord = kept_by keeps (drop had log) in
    let split : kept_by keeps log ≡ front ++ back =
    ap (kept_by keeps) (sym (take-append-drop had log)) ∙ filter-append (λ (r : LogRecord). keeps r.tran) (take had log) (drop had log) in
    ap (drop (length front)) split ∙ drop_at front back (length front) refl

commits_one : (had : ℕ) (log : List LogRecord) → commits_of (drop (told_before had log) (told_of had log)) ≡ commits_of (drop had log)
commits_one had log = ap commits_of (kept_behind had log) ∙ commits_kept (is_new had log) (drop had log) (all_commits [] (drop had log))

commits_all : (had : List ℕ) (logs : List (List LogRecord)) → new_commits (all_before had logs) (all_told had logs) ≡ new_commits had logs
commits_all [] [] = refl
commits_all (n ∷ had) [] = refl
commits_all [] (log ∷ logs) =
    ap (λ (l : List ℕ). l ∷ new_commits (all_before [] logs) (all_told [] logs)) (commits_one 0 log) ∙ ap (λ (l : List (List ℕ)). commits_of log ∷ l) (commits_all [] logs)
commits_all (n ∷ had) (log ∷ logs) =
    ap (λ (l : List ℕ). l ∷ new_commits (all_before had logs) (all_told had logs)) (commits_one n log) ∙ ap (λ (l : List (List ℕ)). commits_of (drop n log) ∷ l) (commits_all had logs)

-- ---- the records of their transactions

of_when : (b c : Bool) (tran : ℕ) (r : LogRecord) (xs rs : List LogRecord) → (c ≡ true → b ≡ true) → eqb r.tran tran ≡ c → of_tran tran xs ≡ of_tran tran rs → of_tran tran (cond b (r ∷ xs) xs) ≡ of_tran tran (r ∷ rs)
of_when true c tran r xs rs h e same = ap (λ (l : List LogRecord). cond (eqb r.tran tran) (r ∷ l) l) same
of_when false true tran r xs rs h e same = absurd (true≢false (sym (h refl)))
of_when false false tran r xs rs h e same = same ∙ ap (λ (b : Bool). cond b (r ∷ of_tran tran rs) (of_tran tran rs)) (sym e)

pub of_kept : (keeps : ℕ → Bool) (tran : ℕ) (rs : List LogRecord) → keeps tran ≡ true → of_tran tran (kept_by keeps rs) ≡ of_tran tran rs
of_kept keeps tran [] e = refl
of_kept keeps tran (r ∷ rs) e =
    of_when (keeps r.tran) (eqb r.tran tran) tran r (kept_by keeps rs) rs (λ is. ap keeps (eqb_same r.tran tran is) ∙ e) refl (of_kept keeps tran rs e)

pub all_weaker : (P Q : ℕ → Type 0) (ts : List ℕ) → ((t : ℕ) → P t → Q t) → AllByRecursion P ts → AllByRecursion Q ts
all_weaker P Q [] f all = tt
all_weaker P Q (t ∷ ts) f all = (f t all.0, all_weaker P Q ts f all.1)

new_when : (b : Bool) (P : ℕ → Type 0) (t : ℕ) (ts : List ℕ) → (b ≡ true → P t) → AllByRecursion P ts → AllByRecursion P (cond b (t ∷ ts) ts)
new_when true P t ts h all = (h refl, all)
new_when false P t ts h all = all

new_are : (pre rs : List LogRecord) → AllByRecursion (λ (tran : ℕ). has_commit (pre ++ rs) tran ≡ true) (commits_of rs)
new_are pre [] = tt
new_are pre (r ∷ rs) =
    new_when (is_commit r.body) (λ (tran : ℕ). has_commit (pre ++ r ∷ rs) tran ≡ true) r.tran (commits_of rs) (commit_at pre rs r)
    (subst (λ (l : List LogRecord). AllByRecursion (λ (tran : ℕ). has_commit l tran ≡ true) (commits_of rs)) (behind pre rs r) (new_are (pre ++ r ∷ []) rs))

abbrev pub Same : List LogRecord → List LogRecord → ℕ → Type 0
Same kept log tran = of_tran tran kept ≡ of_tran tran log

one_covered : (had : ℕ) (log : List LogRecord) → AllByRecursion (Same (told_of had log) log) (commits_of (drop had log))
one_covered had log =
    all_weaker (λ (tran : ℕ). has_commit (drop had log) tran ≡ true) (Same (told_of had log) log) (commits_of (drop had log)) (λ t e. of_kept (is_new had log) t log e) (new_are [] (drop had log))

covered_at : (had : List ℕ) (logs : List (List LogRecord)) (i : ℕ) → AllByRecursion (Same (get_or (all_told had logs) i []) (get_or logs i [])) (get_or (new_commits had logs) i [])
covered_at [] [] i = tt
covered_at (n ∷ had) [] i = tt
covered_at [] (log ∷ logs) zero = one_covered 0 log
covered_at [] (log ∷ logs) (suc i) = covered_at [] logs i
covered_at (n ∷ had) (log ∷ logs) zero = one_covered n log
covered_at (n ∷ had) (log ∷ logs) (suc i) = covered_at had logs i

-- ---- entry by entry

-- the transactions of the commits that are left have the same records in both
abbrev pub Covers : List (List LogRecord) → List (List LogRecord) → List (List ℕ) → Type 0
Covers kept logs commits = (i : ℕ) → AllByRecursion (Same (get_or kept i []) (get_or logs i [])) (get_or commits i [])

rest_of : (P : ℕ → Type 0) (ts : List ℕ) → AllByRecursion P ts → AllByRecursion P (drop 1 ts)
rest_of P [] all = tt
rest_of P (t ∷ ts) all = all.1

one_less : (P : ℕ → Type 0) (cs : List (List ℕ)) (i j : ℕ) → AllByRecursion P (get_or cs j []) → AllByRecursion P (get_or (set cs i (drop 1 (get_or cs i []))) j [])
one_less P [] i j all = all
one_less P (c ∷ cs) zero zero all = rest_of P c all
one_less P (c ∷ cs) zero (suc j) all = all
one_less P (c ∷ cs) (suc i) zero all = all
one_less P (c ∷ cs) (suc i) (suc j) all = one_less P cs i j all

covers_on : (kept logs : List (List LogRecord)) (commits : List (List ℕ)) (member : ℕ) (f : Fate) → Covers kept logs commits → Covers kept logs (left_behind commits member f)
covers_on kept logs commits member (fate.Committed answered reads) h = λ i. one_less (Same (get_or kept i []) (get_or logs i [])) commits (member - 1) i (h i)
covers_on kept logs commits member (fate.Refused refusal) h = h
covers_on kept logs commits member fate.Stopped h = h

first_from : (kept log : List LogRecord) (commits : List ℕ) (rows wanted : Rows) → AllByRecursion (Same kept log) commits → FirstMakes kept commits rows wanted → FirstMakes log commits rows wanted
first_from kept log [] rows wanted all h = h
first_from kept log (t ∷ ts) rows wanted all h = subst (λ (l : List LogRecord). after_records rows l ≡ wanted) all.0 h

fate_from : (kept log : List LogRecord) (commits : List ℕ) (rows : Rows) (ops : List Op) (f : Fate) → AllByRecursion (Same kept log) commits → FateIsLogged kept commits rows ops f → FateIsLogged log commits rows ops f
fate_from kept log commits rows ops (fate.Committed answered reads) all h = first_from kept log commits rows (after_tran rows ops) all h
fate_from kept log commits rows ops (fate.Refused refusal) all h = h
fate_from kept log commits rows ops fate.Stopped all h = h

pub logged_from : (kept logs : List (List LogRecord)) (commits : List (List ℕ)) (rows : Rows) (es : List Entry) → Covers kept logs commits → AreLogged kept commits rows es → AreLogged logs commits rows es
logged_from kept logs commits rows [] covers h = h
logged_from kept logs commits rows (e ∷ es) covers h = (
  fate_from (at_member kept e.member) (at_member logs e.member) (at_member commits e.member) rows e.tran.ops e.fate (covers (e.member - 1)) h.0,
  logged_from kept logs (left_behind commits e.member e.fate) (after_fate rows e.tran.ops e.fate) es (covers_on kept logs commits e.member e.fate covers) h.1,
)

pub turned : (kept logs : List (List LogRecord)) (commits : List (List ℕ)) → Covers kept logs commits → Covers logs kept commits
turned kept logs commits h = λ i. all_weaker (Same (get_or kept i []) (get_or logs i [])) (Same (get_or logs i []) (get_or kept i [])) (get_or commits i []) (λ t e. sym e) (h i)

pub enough : KeptIsEnough
enough had logs rows entries = record {
  commits = commits_all had logs;
  whole = logged_from (all_told had logs) logs (new_commits had logs) rows entries (covered_at had logs);
  needed = logged_from logs (all_told had logs) (new_commits had logs) rows entries (turned (all_told had logs) logs (new_commits had logs) (covered_at had logs));
}
