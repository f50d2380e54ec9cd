-- Records by their log and transaction, and the commits of logs.
use Rattle.std.proofs.Common.{◌≡◌, ℕ, zero, suc, ◌+◌, ◌-◌, ◌<◌, Bool, true, false, cond, eqb, ◌&&◌, List, [], ◌∷◌, ◌++◌, length, get_or, set, take, drop, map, refl, sym, ap, ◌∙◌, arith}
use Rattle.std.proofs.lemmas.Bool.Decides.{nat_tests}
use Rattle.std.proofs.lemmas.List.{append-nil, append_assoc, map_more, take_more, map-set, get_or-map}
use Rattle.std.proofs.lemmas.List.Elements.{filter-append}
use Rattle.std.specs.List.{AllByRecursion}
use Rattle.std.specs.Ordering.{is_eq}
use Rattle.std.specs.declared.collections.VecDeque.{VecDeque}
use Rattle.ds_model.specs.declared.log.LogRecord.{LogRecord}
use Rattle.log_record.specs.declared.log.Log.{Log}
use Rattle.report_check.specs.Records.{records_of}
use Rattle.report_check.specs.Commits.{of_tran, commits_of, new_commits}
use Rattle.report_check.specs.Ledgers.{pair_cmp}

-- ---- two keys

pub apart : (a b p t : ℕ) → (eqb a p && eqb b t) ≡ false → is_eq (pair_cmp (a, b) (p, t)) ≡ false
apart a b p t h = grind (arith, nat_tests)

pub alike : (a b : ℕ) → is_eq (pair_cmp (a, b) (a, b)) ≡ true
alike a b = grind (arith, nat_tests)

-- ---- one record more

eqb_same : (a b : ℕ) → eqb a b ≡ true → a ≡ b
eqb_same a b e = grind arith

one_of : (r : LogRecord) (t : ℕ) → eqb r.tran t ≡ true → of_tran t (r ∷ []) ≡ r ∷ []
one_of r t e = ap (λ b. cond b (r ∷ []) []) e

none_of : (r : LogRecord) (t : ℕ) → eqb r.tran t ≡ false → of_tran t (r ∷ []) ≡ []
none_of r t e = ap (λ b. cond b (r ∷ []) []) e

module _ (before after : ℕ → ℕ → List LogRecord) (place : ℕ) (r : LogRecord) where
  pub noted : after place r.tran ≡ before place r.tran ++ r ∷ [] → ((p t : ℕ) → (eqb place p && eqb r.tran t) ≡ false → after p t ≡ before p t)
      → (p t : ℕ) → after p t ≡ before p t ++ cond (eqb place p) (of_tran t (r ∷ [])) []
  noted here others p t =
      elim (eqb place p) as (λ (b : Bool). eqb place p ≡ b → after p t ≡ before p t ++ cond b (of_tran t (r ∷ [])) []) [
        | false ↦ λ e. others p t (ap (λ b. b && eqb r.tran t) e) ∙ sym (append-nil (before p t))
        | true ↦ λ e.
            elim (eqb r.tran t) as (λ (b : Bool). eqb r.tran t ≡ b → after p t ≡ before p t ++ of_tran t (r ∷ [])) [
              | false ↦ λ f. others p t (ap (λ b. b && eqb r.tran t) e ∙ f) ∙ sym (append-nil (before p t)) ∙ ap (λ (l : List LogRecord). before p t ++ l) (sym (none_of r t f))
              | true ↦ λ f.
                  ap (λ n. after n t) (sym (eqb_same place p e)) ∙ ap (after place) (sym (eqb_same r.tran t f)) ∙ here
                  ∙ ap (λ n. before n r.tran ++ r ∷ []) (eqb_same place p e) ∙ ap (λ n. before p n ++ r ∷ []) (eqb_same r.tran t f)
                  ∙ ap (λ (l : List LogRecord). before p t ++ l) (sym (one_of r t f))
            ] refl
      ] refl

more_when : (b : Bool) (xs ys zs : List LogRecord) → (xs ++ cond b ys []) ++ cond b zs [] ≡ xs ++ cond b (ys ++ zs) []
more_when true xs ys zs = append_assoc xs ys zs
more_when false xs ys zs = append-nil (xs ++ [])

-- one record of a log more
pub log_more : (b : Bool) (t : ℕ) (start now later : List LogRecord) (rs : List LogRecord) (i : ℕ) (d : LogRecord) → i < length rs
    → now ≡ start ++ cond b (of_tran t (take i rs)) [] → later ≡ now ++ cond b (of_tran t (get_or rs i d ∷ [])) [] → later ≡ start ++ cond b (of_tran t (take (i + 1) rs)) []
log_more b t start now later rs i d below is step =
    step ∙ ap (λ (l : List LogRecord). l ++ cond b (of_tran t (get_or rs i d ∷ [])) []) is
    ∙ more_when b start (of_tran t (take i rs)) (of_tran t (get_or rs i d ∷ []))
    ∙ ap (λ (l : List LogRecord). start ++ cond b l []) (sym (filter-append (λ (r : LogRecord). eqb r.tran t) (take i rs) (get_or rs i d ∷ [])) ∙ ap (of_tran t) (sym (take_more rs i d below)))

-- ---- one log more

zero_apart : (p n : ℕ) → 0 ≡ n → eqb n (suc p) ≡ false
zero_apart p n e = grind arith

suc_apart : (n : ℕ) → eqb (suc n) zero ≡ false
suc_apart n = grind arith

both_more : (n p : ℕ) → eqb (suc n) (suc p) ≡ eqb n p
both_more n p = grind arith

at_last : (t : ℕ) (xs : List (List LogRecord)) (y : List LogRecord) (p n : ℕ) → length xs ≡ n → of_tran t (get_or (xs ++ y ∷ []) p []) ≡ of_tran t (get_or xs p []) ++ cond (eqb n p) (of_tran t y) []
at_last t [] y zero n e = ap (λ m. cond (eqb m zero) (of_tran t y) []) e
at_last t [] y (suc p) n e = ap (λ b. cond b (of_tran t y) []) (sym (zero_apart p n e))
at_last t (x ∷ xs) y zero zero e = absurd (omega arith)
at_last t (x ∷ xs) y zero (suc n) e = sym (append-nil (of_tran t x)) ∙ ap (λ b. of_tran t x ++ cond b (of_tran t y) []) (sym (suc_apart n))
at_last t (x ∷ xs) y (suc p) zero e = absurd (omega arith)
at_last t (x ∷ xs) y (suc p) (suc n) e = at_last t xs y p n (omega (arith, e)) ∙ ap (λ b. of_tran t (get_or xs p []) ++ cond b (of_tran t y) []) (sym (both_more n p))

length_of : (logs : List Log) → length (records_of logs) ≡ length logs
length_of [] = refl
length_of (l ∷ ls) = grind (arith, length_of ls)

pub logs_more : (t p : ℕ) (logs : List Log) (i : ℕ) (d : Log) → i < length logs → length (take i logs) ≡ i
    → of_tran t (get_or (records_of (take i logs)) p []) ++ cond (eqb i p) (of_tran t (get_or logs i d).records) [] ≡ of_tran t (get_or (records_of (take (i + 1) logs)) p [])
logs_more t p logs i d below whole =
    sym (ap (λ (l : List (List LogRecord)). of_tran t (get_or l p [])) (map_more (λ (l : Log). l.records) logs i d below)
    ∙ at_last t (records_of (take i logs)) (get_or logs i d).records p i (length_of (take i logs) ∙ whole))

-- ---- queues of commits

abbrev pub queues : {Z : Type 0} → List (VecDeque ℕ Z) → List (List ℕ)
queues {Z} commits = map (λ (q : VecDeque ℕ Z). q.items) commits

new_commits-push : (had : List ℕ) (logs : List (List LogRecord)) (log : List LogRecord) → new_commits had (logs ++ log ∷ []) ≡ new_commits had logs ++ commits_of (drop (get_or had (length logs) 0) log) ∷ []
new_commits-push [] [] log = refl
new_commits-push (n ∷ had) [] log = refl
new_commits-push [] (l ∷ logs) log = ap (λ (x : List (List ℕ)). commits_of l ∷ x) (new_commits-push [] logs log)
new_commits-push (n ∷ had) (l ∷ logs) log = ap (λ (x : List (List ℕ)). commits_of (drop n l) ∷ x) (new_commits-push had logs log)

pub commits_more : (had : List ℕ) (logs : List Log) (i : ℕ) (d : Log) (n : ℕ) → i < length logs → length (take i logs) ≡ i → n ≡ get_or had i 0
    → new_commits had (records_of (take i logs)) ++ commits_of (drop n (get_or logs i d).records) ∷ [] ≡ new_commits had (records_of (take (i + 1) logs))
commits_more had logs i d n below whole count =
    sym (ap (new_commits had) (map_more (λ (l : Log). l.records) logs i d below)
    ∙ new_commits-push had (records_of (take i logs)) (get_or logs i d).records
    ∙ ap (λ m. new_commits had (records_of (take i logs)) ++ commits_of (drop m (get_or logs i d).records) ∷ []) (ap (λ k. get_or had k 0) (length_of (take i logs) ∙ whole) ∙ sym count))

-- the first commit of a queue is taken
pub queue_taken : {Z : Type 0} (commits : List (VecDeque ℕ Z)) (n m : ℕ) (d q : VecDeque ℕ Z) → n ≡ m → n - 1 < length commits → q.items ≡ drop 1 (get_or commits (n - 1) d).items
    → queues (set commits (n - 1) q) ≡ set (queues commits) (m - 1) (drop 1 (get_or (queues commits) (m - 1) []))
queue_taken {Z} commits n m d q same below rest =
    map-set (λ (x : VecDeque ℕ Z). x.items) commits (n - 1) q
    ∙ ap (λ (l : List ℕ). set (queues commits) (n - 1) l) (rest ∙ ap (drop 1) (sym (get_or-map (λ (x : VecDeque ℕ Z). x.items) commits (n - 1) d [] below)))
    ∙ ap (λ k. set (queues commits) (k - 1) (drop 1 (get_or (queues commits) (k - 1) []))) same

-- no queue has a commit left
pub none_queued : {Z : Type 0} (commits : List (VecDeque ℕ Z)) → AllByRecursion (λ (q : VecDeque ℕ Z). q.items ≡ []) commits → AllByRecursion (λ (trans : List ℕ). trans ≡ []) (queues commits)
none_queued [] h = tt
none_queued (q ∷ qs) h = (h.0, none_queued qs h.1)

pub none_queued_back : {Z : Type 0} (commits : List (VecDeque ℕ Z)) → AllByRecursion (λ (trans : List ℕ). trans ≡ []) (queues commits) → AllByRecursion (λ (q : VecDeque ℕ Z). q.items ≡ []) commits
none_queued_back [] h = tt
none_queued_back (q ∷ qs) h = (h.0, none_queued_back qs h.1)
