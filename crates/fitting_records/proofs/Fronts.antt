-- When the second clause holds of logs that are cut off: in a log, record by record.
use Rattle.std.proofs.Common.{◌≡◌, ℕ, Bool, true, false, cond, List, [], ◌∷◌, ◌++◌, refl, sym, ap, subst, ◌∙◌, arith, append_assoc}
use Rattle.std.specs.Prelude.{◌==◌, not, ◌||◌, ◌&&◌}
use Rattle.std.specs.List.{AllByRecursion}
use Rattle.std.proofs.lemmas.Bool.Decides.{nat_tests}
use Rattle.std.proofs.lemmas.Grind.{flat_map-append}
use Rattle.std.proofs.lemmas.List.{append-nil}
use Rattle.std.proofs.lemmas.List.Folds.{list_any-append, list_all-append}
use Rattle.ds_model.specs.declared.log.LogRecord.{LogRecord}
use Rattle.log_record.specs.declared.log.Log.{Log}
use Rattle.log_record.specs.Changes.{is_drawn}
use Rattle.log_merge.specs.Merging.{all_records}
use Rattle.sound_disk.specs.Transactions.{drawn_numbers, is_among, all_differ, speak_of, stands_apart, stand_apart, MayFollow, EachFollows, AreTransactions}
use Rattle.fitting_records.proofs.Taking.{and_left, and_right, and_both}
use Rattle.fitting_records.proofs.Knowing.{drawn_more, speak_more, has_new_number, has_home, MayStand}

-- ---- tests

eq_turn : (m n : ℕ) → (m == n) ≡ (n == m)
eq_turn m n = grind (arith, nat_tests)

and_true : (a : Bool) → (a && true) ≡ a
and_true true = refl
and_true false = refl

and_swap : (a b c d : Bool) → ((a && b) && (c && d)) ≡ ((a && c) && (b && d))
and_swap true true c d = refl
and_swap true false true d = refl
and_swap true false false d = refl
and_swap false b c d = refl

or_true : (b : Bool) → (b || true) ≡ true
or_true true = refl
or_true false = refl

-- ---- numbers that differ

differ_if : (a b c d e : Bool) → (not (a || (c || false)) && (d && not e)) ≡ ((not a && d) && not (c || e))
differ_if true b c d e = refl
differ_if false b true true e = refl
differ_if false b true false e = refl
differ_if false b false d e = refl

differ_one : (ns : List ℕ) (n : ℕ) → all_differ (ns ++ n ∷ []) ≡ (all_differ ns && not (is_among n ns))
differ_one [] n = refl
differ_one (m ∷ ms) n =
    ap (λ (b : Bool). not b && all_differ (ms ++ n ∷ [])) (list_any-append (λ (k : ℕ). k == m) ms (n ∷ []))
    ∙ ap (λ (b : Bool). not (is_among m ms || ((n == m) || false)) && b) (differ_one ms n)
    ∙ differ_if (is_among m ms) true (n == m) (all_differ ms) (is_among n ms)
    ∙ ap (λ (b : Bool). (not (is_among m ms) && all_differ ms) && not (b || is_among n ms)) (eq_turn n m)

differ_when : (d : Bool) (ns : List ℕ) (n : ℕ) → all_differ (ns ++ cond d (n ∷ []) []) ≡ (all_differ ns && not (d && is_among n ns))
differ_when true ns n = differ_one ns n
differ_when false ns n = ap (λ (l : List ℕ). all_differ l) (append-nil ns) ∙ sym (and_true (all_differ ns))

differ_more : (others before : List LogRecord) (r : LogRecord)
    → all_differ (0 ∷ drawn_numbers (others ++ (before ++ r ∷ []))) ≡ (all_differ (0 ∷ drawn_numbers (others ++ before)) && has_new_number (others ++ before) r)
differ_more others before r =
    ap (λ (l : List LogRecord). all_differ (0 ∷ drawn_numbers l)) (sym (append_assoc others before (r ∷ [])))
    ∙ ap (λ (l : List ℕ). all_differ (0 ∷ l)) (drawn_more (others ++ before) (r ∷ []))
    ∙ differ_when (is_drawn r.body) (0 ∷ drawn_numbers (others ++ before)) r.lrsn

among_front : (a b : Bool) → not (a || b) ≡ true → not a ≡ true
among_front true b h = h
among_front false b h = refl

differ_front : (xs ys : List ℕ) → all_differ (xs ++ ys) ≡ true → all_differ xs ≡ true
differ_front [] ys h = refl
differ_front (x ∷ xs) ys h =
    and_both (not (is_among x xs)) (all_differ xs)
    (among_front (is_among x xs) (is_among x ys) (ap (λ (b : Bool). not b) (sym (list_any-append (λ (k : ℕ). k == x) xs ys)) ∙ and_left (not (is_among x (xs ++ ys))) (all_differ (xs ++ ys)) h))
    (differ_front xs ys (and_right (not (is_among x (xs ++ ys))) (all_differ (xs ++ ys)) h))

-- ---- logs that stand apart

apart_if : (z a b c d : Bool) → ((z || not (a || b)) && (c && d)) ≡ (((z || not a) && c) && ((z || not b) && d))
apart_if true a b c d = refl
apart_if false true b c d = refl
apart_if false false true true d = refl
apart_if false false true false d = refl
apart_if false false false c d = refl

apart_split : (others xs ys : List LogRecord) → stands_apart others (xs ++ ys) ≡ (stands_apart others xs && stands_apart others ys)
apart_split [] xs ys = refl
apart_split (o ∷ os) xs ys =
    ap (λ (b : Bool). ((o.tran == 0) || not b) && stands_apart os (xs ++ ys)) (speak_more o.tran xs ys)
    ∙ ap (λ (b : Bool). ((o.tran == 0) || not (speak_of o.tran xs || speak_of o.tran ys)) && b) (apart_split os xs ys)
    ∙ apart_if (o.tran == 0) (speak_of o.tran xs) (speak_of o.tran ys) (stands_apart os xs) (stands_apart os ys)

pub apart_none : (others : List LogRecord) → stands_apart others [] ≡ true
apart_none [] = refl
apart_none (o ∷ os) = ap (λ (b : Bool). b && stands_apart os []) (or_true (o.tran == 0)) ∙ apart_none os

home_if : (t o : ℕ) (s : Bool) → (((o == 0) || not ((t == o) || false)) && ((t == 0) || not s)) ≡ ((t == 0) || not ((o == t) || s))
home_if t o s = grind (arith, nat_tests)

apart_one : (others : List LogRecord) (r : LogRecord) → stands_apart others (r ∷ []) ≡ has_home others r
apart_one [] r = sym (or_true (r.tran == 0))
apart_one (o ∷ os) r =
    ap (λ (b : Bool). ((o.tran == 0) || not ((r.tran == o.tran) || false)) && b) (apart_one os r) ∙ home_if r.tran o.tran (speak_of r.tran os)

apart_more : (others before : List LogRecord) (r : LogRecord) → stands_apart others (before ++ r ∷ []) ≡ (stands_apart others before && has_home others r)
apart_more others before r = apart_split others before (r ∷ []) ∙ ap (λ (b : Bool). stands_apart others before && b) (apart_one others r)

pub records_with : (front : List Log) (l : Log) → all_records (front ++ l ∷ []) ≡ all_records front ++ l.records
records_with front l =
    flat_map-append (λ (x : Log). x.records) front (l ∷ []) ∙ ap (λ (rs : List LogRecord). all_records front ++ rs) (append-nil l.records)

apart_with : (front : List Log) (l : Log) → stand_apart (front ++ l ∷ []) ≡ (stand_apart front && stands_apart (all_records front) l.records)
apart_with [] l = ap (λ (b : Bool). b && true) (apart_none l.records)
apart_with (f ∷ fs) l =
    ap (λ (rs : List LogRecord). stands_apart f.records rs && stand_apart (fs ++ l ∷ [])) (records_with fs l)
    ∙ ap (λ (b : Bool). b && stand_apart (fs ++ l ∷ [])) (apart_split f.records (all_records fs) l.records)
    ∙ ap (λ (b : Bool). (stands_apart f.records (all_records fs) && stands_apart f.records l.records) && b) (apart_with fs l)
    ∙ and_swap (stands_apart f.records (all_records fs)) (stands_apart f.records l.records) (stand_apart fs) (stands_apart (all_records fs) l.records)
    ∙ ap (λ (b : Bool). (stands_apart f.records (all_records fs) && stand_apart fs) && b)
    (sym (list_all-append (λ (r : LogRecord). (r.tran == 0) || not (speak_of r.tran l.records)) f.records (all_records fs)))

-- ---- records that follow

each_with : {A : Type 0} (P : A → Type 0) (xs : List A) (x : A) → AllByRecursion P xs → P x → AllByRecursion P (xs ++ x ∷ [])
each_with P [] x h p = (p, tt)
each_with P (y ∷ ys) x h p = (h.0, each_with P ys x h.1 p)

each_front : {A : Type 0} (P : A → Type 0) (xs ys : List A) → AllByRecursion P (xs ++ ys) → AllByRecursion P xs
each_front P [] ys h = tt
each_front P (x ∷ xs) ys h = (h.0, each_front P xs ys h.1)

each_at : {A : Type 0} (P : A → Type 0) (xs : List A) (x : A) (ys : List A) → AllByRecursion P (xs ++ x ∷ ys) → P x
each_at P [] x ys h = h.0
each_at P (y ∷ xs) x ys h = each_at P xs x ys h.1

pub follow_more : (earlier rs : List LogRecord) (r : LogRecord) → EachFollows earlier rs → MayFollow (earlier ++ rs) r → EachFollows earlier (rs ++ r ∷ [])
follow_more earlier [] r h m = (subst (λ (l : List LogRecord). MayFollow l r) (append-nil earlier) m, tt)
follow_more earlier (x ∷ xs) r h m =
    (h.0, follow_more (earlier ++ x ∷ []) xs r h.1 (subst (λ (l : List LogRecord). MayFollow l r) (sym (append_assoc earlier (x ∷ []) xs)) m))

follow_front : (earlier xs ys : List LogRecord) → EachFollows earlier (xs ++ ys) → EachFollows earlier xs
follow_front earlier [] ys h = tt
follow_front earlier (x ∷ xs) ys h = (h.0, follow_front (earlier ++ x ∷ []) xs ys h.1)

follow_last : (earlier xs : List LogRecord) (r : LogRecord) → EachFollows earlier (xs ++ r ∷ []) → MayFollow (earlier ++ xs) r
follow_last earlier [] r h = subst (λ (l : List LogRecord). MayFollow l r) (sym (append-nil earlier)) h.0
follow_last earlier (x ∷ xs) r h = subst (λ (l : List LogRecord). MayFollow l r) (append_assoc earlier (x ∷ []) xs) (follow_last (earlier ++ x ∷ []) xs r h.1)

-- ---- the clause, of logs and the first records of the next

abbrev pub FollowsInLog : Log → Type 0
FollowsInLog l = EachFollows [] l.records

pub record Fits (front : List Log) (before : List LogRecord) : Type 0 where
  pub numbers : all_differ (0 ∷ drawn_numbers (all_records front ++ before)) ≡ true
  pub apart : stand_apart front ≡ true
  pub homes : stands_apart (all_records front) before ≡ true
  pub each : AllByRecursion FollowsInLog front
  pub follow : EachFollows [] before

pub fits_begin : (front : List Log) → AreTransactions front → Fits front []
fits_begin front h = record {
  numbers = ap (λ (l : List LogRecord). all_differ (0 ∷ drawn_numbers l)) (append-nil (all_records front)) ∙ h.numbers;
  apart = h.homes;
  homes = apart_none (all_records front);
  each = h.follow;
  follow = tt;
}

pub fits_whole : (front : List Log) (l : Log) → Fits front l.records → AreTransactions (front ++ l ∷ [])
fits_whole front l h = record {
  numbers = ap (λ (rs : List LogRecord). all_differ (0 ∷ drawn_numbers rs)) (records_with front l) ∙ h.numbers;
  homes = apart_with front l ∙ and_both (stand_apart front) (stands_apart (all_records front) l.records) h.apart h.homes;
  follow = each_with FollowsInLog front l h.each h.follow;
}

pub whole_fits : (front : List Log) (l : Log) → AreTransactions (front ++ l ∷ []) → Fits front l.records
whole_fits front l h =
    let both = sym (apart_with front l) ∙ h.homes in
    record {
      numbers = ap (λ (rs : List LogRecord). all_differ (0 ∷ drawn_numbers rs)) (sym (records_with front l)) ∙ h.numbers;
      apart = and_left (stand_apart front) (stands_apart (all_records front) l.records) both;
      homes = and_right (stand_apart front) (stands_apart (all_records front) l.records) both;
      each = each_front FollowsInLog front (l ∷ []) h.follow;
      follow = each_at FollowsInLog front l [] h.follow;
    }

pub fits_more : (front : List Log) (before : List LogRecord) (r : LogRecord) → Fits front before → MayStand (all_records front) before r → Fits front (before ++ r ∷ [])
fits_more front before r h m = record {
  numbers = differ_more (all_records front) before r ∙ and_both (all_differ (0 ∷ drawn_numbers (all_records front ++ before))) (has_new_number (all_records front ++ before) r) h.numbers m.number;
  apart = h.apart;
  homes = apart_more (all_records front) before r ∙ and_both (stands_apart (all_records front) before) (has_home (all_records front) r) h.homes m.home;
  each = h.each;
  follow = follow_more [] before r h.follow m.follow;
}

pub last_may_stand : (front : List Log) (before : List LogRecord) (r : LogRecord) → Fits front (before ++ r ∷ []) → MayStand (all_records front) before r
last_may_stand front before r h = record {
  number = and_right (all_differ (0 ∷ drawn_numbers (all_records front ++ before))) (has_new_number (all_records front ++ before) r) (sym (differ_more (all_records front) before r) ∙ h.numbers);
  home = and_right (stands_apart (all_records front) before) (has_home (all_records front) r) (sym (apart_more (all_records front) before r) ∙ h.homes);
  follow = follow_last [] before r h.follow;
}

-- ---- each front of what fits

pub fits_less : (front : List Log) (before rest : List LogRecord) → Fits front (before ++ rest) → Fits front before
fits_less front before rest h = record {
  numbers = differ_front (0 ∷ drawn_numbers (all_records front ++ before)) (drawn_numbers rest)
      (ap (λ (l : List ℕ). all_differ (0 ∷ l)) (sym (drawn_more (all_records front ++ before) rest))
      ∙ ap (λ (l : List LogRecord). all_differ (0 ∷ drawn_numbers l)) (append_assoc (all_records front) before rest) ∙ h.numbers);
  apart = h.apart;
  homes = and_left (stands_apart (all_records front) before) (stands_apart (all_records front) rest) (sym (apart_split (all_records front) before rest) ∙ h.homes);
  each = h.each;
  follow = follow_front [] before rest h.follow;
}

apart_front : (front back : List Log) → stand_apart (front ++ back) ≡ true → stand_apart front ≡ true
apart_front [] back h = refl
apart_front (f ∷ fs) back h =
    let rest : (stands_apart f.records (all_records fs) && stands_apart f.records (all_records back)) ≡ true =
    sym (apart_split f.records (all_records fs) (all_records back))
    ∙ ap (λ (rs : List LogRecord). stands_apart f.records rs) (sym (flat_map-append (λ (x : Log). x.records) fs back))
    ∙ and_left (stands_apart f.records (all_records (fs ++ back))) (stand_apart (fs ++ back)) h in
    and_both (stands_apart f.records (all_records fs)) (stand_apart fs) (and_left (stands_apart f.records (all_records fs)) (stands_apart f.records (all_records back)) rest)
    (apart_front fs back (and_right (stands_apart f.records (all_records (fs ++ back))) (stand_apart (fs ++ back)) h))

pub front_holds : (front back : List Log) → AreTransactions (front ++ back) → AreTransactions front
front_holds front back h = record {
  numbers = differ_front (0 ∷ drawn_numbers (all_records front)) (drawn_numbers (all_records back))
      (ap (λ (l : List ℕ). all_differ (0 ∷ l)) (sym (drawn_more (all_records front) (all_records back)))
      ∙ ap (λ (l : List LogRecord). all_differ (0 ∷ drawn_numbers l)) (sym (flat_map-append (λ (x : Log). x.records) front back)) ∙ h.numbers);
  homes = apart_front front back h.homes;
  follow = each_front FollowsInLog front back h.follow;
}
