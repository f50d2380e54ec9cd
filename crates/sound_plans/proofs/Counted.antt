-- For all that a plan undoes there are numbers where numbers are left for the open row changes.
use Rattle.std.proofs.Common.{◌≡◌, ℕ, ◌+◌, ◌^◌, ◌<◌, ◌≤◌, Bool, true, false, cond, List, [], ◌∷◌, ◌++◌, length, reverse, inl, inr, refl, sym, ap, subst, ◌∙◌, arith, append_assoc}
use Rattle.std.specs.Prelude.{◌==◌, ◌||◌, ◌&&◌, filter}
use Rattle.std.specs.List.{list_any, AllByRecursion}
use Rattle.std.specs.Ordering.{nat_cmp}
use Rattle.std.specs.Cmp.{nat_cmp_total}
use Rattle.std.specs.FinMap.{entries, empty, insert, len, contains_key, len-entries, len-empty, len-insert}
use Rattle.std.proofs.lemmas.Bool.{cond_both, cases_Bool, or_cases, or_left, or_right, and_parts, both_ways, eqb-true, eq-eqb, ne_eqb, false_from_ne_true}
use Rattle.std.proofs.lemmas.List.{length-map, length-reverse, map-append}
use Rattle.ds_model.specs.declared.log.LogRecord.{LogRecord}
use Rattle.log_record.specs.declared.log.Log.{Log}
use Rattle.log_trans.specs.Numbers.{greatest}
use Rattle.log_merge.specs.Merging.{all_records}
use Rattle.restart_plan.specs.declared.opened.Undo.{Undo}
use Rattle.restart_plan.specs.Opened.{Changes, nothing_open, with_logs}
use Rattle.restart_plan.specs.Plans.{plan_of}
use Rattle.restart_plan.specs.Values.{falling}
use Rattle.sound_disk.specs.Numbers_left.{open_changes}
use Rattle.sound_disk.specs.Settled.{is_open}
use Rattle.sound_disk.specs.Transactions.{is_among, all_differ, AreTransactions}
use Rattle.sound_appends.proofs.Numbers.{until, all_split}
use Rattle.sound_appends.proofs.Left.{numbers, among_more, differ_tail}
use Rattle.sound_appends.proofs.Open.{open_among}
use Rattle.sound_plans.specs.Opens.{OpensTell}
use Rattle.sound_plans.specs.Plans.{NumbersSuffice}
use Rattle.sound_plans.proofs.Inserted.{Entries, numbers_of, put_all}
use Rattle.sound_plans.proofs.Members.{IsSoundLog, each_sound, all_numbers}
use Rattle.sound_plans.proofs.Planned_queue.{put_log, put_logs, logs_put, logs_differ, log_owner}

-- ---- how many are put

few_if : (b : Bool) (n k : ℕ) → cond b n (n + 1) + k ≤ n + (k + 1)
few_if true n k = omega arith
few_if false n k = omega arith

put_few : (m : Changes) (us : List Undo) → len (put_all m us) ≤ len m + length us
put_few m [] = omega arith
put_few m (u ∷ us) =
    let ih = put_few (insert m u.lrsn u) us in
    let one : len (insert m u.lrsn u) ≡ cond (contains_key m u.lrsn) (len m) (len m + 1) = len-insert nat_cmp_total m u.lrsn u in
    let few = few_if (contains_key m u.lrsn) (len m) (length us) in
    omega (arith, ih, one, few)

falling_length : (es : Entries) → length (falling es) ≡ length es
falling_length es = length-map (reverse es) (λ (e : ℕ × Undo). e.1) ∙ length-reverse es

-- ---- different numbers that stand among others are no more than these

without : ℕ → List ℕ → List ℕ
without k [] = []
without k (n ∷ ns) = cond (n == k) ns (n ∷ without k ns)

one_less : (k : ℕ) (ns : List ℕ) → is_among k ns ≡ true → length (without k ns) + 1 ≡ length ns
unfolding without
one_less k [] h = absurd cc
one_less k (n ∷ ns) h = elim (cases_Bool (n == k)) [
  | inl e ↦ (let same : length (without k (n ∷ ns)) ≡ length ns = ap (λ (b : Bool). length (cond b ns (n ∷ without k ns))) e in omega (arith, same))
  | inr e ↦ elim (or_cases (n == k) (is_among k ns) h) [
    | inl f ↦ absurd (both_ways (n == k) e f)
    | inr f ↦ (
        let ih = one_less k ns f in
        let same : length (without k (n ∷ ns)) ≡ length (n ∷ without k ns) = ap (λ (b : Bool). length (cond b ns (n ∷ without k ns))) e in
        omega (arith, same, ih))
  ]
]

still_among : (k j : ℕ) (ns : List ℕ) → (k == j) ≡ false → is_among j ns ≡ true → is_among j (without k ns) ≡ true
unfolding without
still_among k j [] other h = h
still_among k j (n ∷ ns) other h = elim (cases_Bool (n == k)) [
  | inl e ↦ elim (or_cases (n == j) (is_among j ns) h) [
    | inl f ↦ (
        let same : n ≡ k = eqb-true n k e in
        absurd (both_ways (k == j) other (subst (λ (x : ℕ). (x == j) ≡ true) same f)))
    | inr f ↦ ap (λ (b : Bool). is_among j (cond b ns (n ∷ without k ns))) e ∙ f
  ]
  | inr e ↦ (
      let rest : ((n == j) || is_among j (without k ns)) ≡ true = elim (or_cases (n == j) (is_among j ns) h) [
        | inl f ↦ or_left (n == j) (is_among j (without k ns)) f
        | inr f ↦ or_right (n == j) (is_among j (without k ns)) (still_among k j ns other f)
      ] in
      ap (λ (b : Bool). is_among j (cond b ns (n ∷ without k ns))) e ∙ rest)
]

no_more : (xs ys : List ℕ) → all_differ xs ≡ true → ((k : ℕ) → is_among k xs ≡ true → is_among k ys ≡ true) → length xs ≤ length ys
no_more [] ys differ h = omega arith
no_more (x ∷ xs) ys differ h =
    let d = differ_tail x xs differ in
    let here : is_among x ys ≡ true = h x (or_left (x == x) (is_among x xs) (eq-eqb x x refl)) in
    let less = one_less x ys here in
    let ih = no_more xs (without x ys) d.1 (λ k is.
    let other : (x == k) ≡ false = false_from_ne_true (x == k) (λ e. both_ways (is_among x xs) d.0 (subst (λ (n : ℕ). is_among n xs ≡ true) (sym (eqb-true x k e)) is)) in
    still_among x k ys other (h k (or_right (x == k) (is_among k xs) is))) in
    omega (arith, less, ih)

-- ---- each is the number of an open row change

any_filter : (p : LogRecord → Bool) (k : ℕ) (rs : List LogRecord) → list_any (λ s. p s && (k == s.lrsn)) rs ≡ true → is_among k (numbers (filter p rs)) ≡ true
any_filter p k [] h = absurd cc
any_filter p k (r ∷ rs) h = elim (or_cases (p r && (k == r.lrsn)) (list_any (λ s. p s && (k == s.lrsn)) rs) h) [
  | inl e ↦ (
      let q = and_parts (p r) (k == r.lrsn) e in
      ap (λ (b : Bool). is_among k (numbers (cond b (r ∷ filter p rs) (filter p rs)))) q.0 ∙ or_left (r.lrsn == k) (is_among k (numbers (filter p rs))) (eq-eqb r.lrsn k (sym (eqb-true k r.lrsn q.1))))
  | inr e ↦ cond_both (p r) (r ∷ filter p rs) (filter p rs) (λ (l : List LogRecord). is_among k (numbers l) ≡ true) (λ is. or_right (r.lrsn == k) (is_among k (numbers (filter p rs))) (any_filter p k rs e)) (λ is. any_filter p k rs e)
]

count_numbers : (rs : List LogRecord) → length (numbers rs) ≡ length rs
count_numbers [] = refl
count_numbers (r ∷ rs) = let ih = count_numbers rs in omega (arith, ih)

log_open : OpensTell → (front : List Log) (log : Log) (back : List Log) (k : ℕ) → AreTransactions (front ++ log ∷ back) → IsSoundLog log → is_among k (numbers_of (put_log log)) ≡ true
    → is_among k (numbers (open_changes (all_records (front ++ log ∷ back)))) ≡ true
log_open tell front log back k t s h =
    let w = log_owner tell log k s h in
    let all = until front log ++ all_records back in
    subst (λ (rs : List LogRecord). is_among k (numbers (open_changes rs)) ≡ true) (sym (all_split front log back))
    (any_filter (is_open all) k all (open_among front log back w.id k t (ne_eqb w.id 0 w.some) w.among w.uncommitted))

logs_open : OpensTell → (front logs : List Log) (k : ℕ) → AreTransactions (front ++ logs) → AllByRecursion IsSoundLog logs → is_among k (numbers_of (put_logs logs)) ≡ true → is_among k (numbers (open_changes (all_records (front ++ logs)))) ≡ true
logs_open tell front [] k t s h = absurd cc
logs_open tell front (log ∷ logs) k t s h =
    let parts : (is_among k (numbers_of (put_log log)) || is_among k (numbers_of (put_logs logs))) ≡ true =
    sym (among_more k (numbers_of (put_log log)) (numbers_of (put_logs logs))) ∙ sym (ap (is_among k) (map-append (λ (u : Undo). u.lrsn) (put_log log) (put_logs logs))) ∙ h in
    elim (or_cases (is_among k (numbers_of (put_log log))) (is_among k (numbers_of (put_logs logs))) parts) [
      | inl e ↦ log_open tell front log logs k t s.0 e
      | inr e ↦ (
          let same : (front ++ log ∷ []) ++ logs ≡ front ++ log ∷ logs = append_assoc front (log ∷ []) logs in
          subst (λ (ls : List Log). is_among k (numbers (open_changes (all_records ls))) ≡ true) same (logs_open tell (front ++ log ∷ []) logs k (subst AreTransactions (sym same) t) s.1 e))
    ]

below : (a b n : ℕ) → a ≤ b → b < n → a < n
below a b n h k = omega arith

pub numbers_suffice : OpensTell → NumbersSuffice
unfolding plan_of
numbers_suffice tell bytes logs w t left =
    let s = each_sound bytes logs w t in
    let us = put_logs logs in
    let changes = (with_logs nothing_open logs).undo in
    let put : changes ≡ put_all empty us = logs_put nothing_open logs in
    let few = put_few empty us in
    let none : len (empty {X = Undo} {R = nat_cmp}) ≡ 0 = len-empty nat_cmp Undo in
    let size : length (plan_of logs).undo ≡ len (put_all empty us) = falling_length (entries changes) ∙ sym (len-entries changes) ∙ ap (λ (c : Changes). len c) put in
    let open_numbers : length (numbers_of us) ≤ length (numbers (open_changes (all_records logs))) =
    no_more (numbers_of us) (numbers (open_changes (all_records logs))) (logs_differ tell logs s (all_numbers logs t)) (λ k is. logs_open tell [] logs k t s is) in
    let first : length (numbers_of us) ≡ length us = length-map us (λ (u : Undo). u.lrsn) in
    let second = count_numbers (open_changes (all_records logs)) in
    let le : greatest (all_records logs) + length (plan_of logs).undo ≤ greatest (all_records logs) + length (open_changes (all_records logs)) = omega (arith, few, none, size, open_numbers, first, second) in
    below (greatest (all_records logs) + length (plan_of logs).undo) (greatest (all_records logs) + length (open_changes (all_records logs))) (2 ^ 80) le left
