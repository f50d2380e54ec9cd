-- Each row change of a log is settled, or held as one of its transaction that isn't.
use Rattle.std.proofs.Common.{◌≡◌, ℕ, ◌+◌, ◌-◌, Bool, true, false, cond, List, [], ◌∷◌, ◌++◌, length, take, Option, Some, None, is_some, refl, sym, ap, subst, ◌∙◌, arith}
use Rattle.std.specs.Prelude.{◌==◌, not, ◌||◌, ◌&&◌, slice_get}
use Rattle.std.specs.List.{list_any, list_all}
use Rattle.std.specs.Ordering.{nat_cmp, eq_by_cmp}
use Rattle.std.specs.Cmp.{nat_cmp_total}
use Rattle.std.specs.FinMap.{get, remove, get-insert, get-remove}
use Rattle.std.proofs.lemmas.Bool.Decides.{nat_tests}
use Rattle.std.proofs.lemmas.List.Folds.{list_any-append, list_all-append}
use Rattle.ds_model.specs.declared.log.LogRecord.{LogRecord}
use Rattle.ds_model.specs.declared.log.Body.{Body}
use Rattle.ds_model.specs.declared.log.Body.TheVariants as body
use Rattle.ds_model.specs.Logs.{is_commit, has_commit}
use Rattle.sound_disk.specs.Settled.{is_row_change, takes_back, is_settled, is_open, has_ended}
use Rattle.sound_disk.specs.Checkpoints.{next_place}
use Rattle.kept_checkpoints.specs.declared.scan.LogScan.{LogScan}
use Rattle.kept_checkpoints.specs.Scan.{Open, numbers_of, is_number, is_last, taken_back, with_numbers, with_body, nothing_scanned, scanned, scan_from}

-- ---- tests

or_left : (a b : Bool) → a ≡ true → (a || b) ≡ true
or_left true b h = refl
or_left false b h = absurd cc

or_right : (a b : Bool) → b ≡ true → (a || b) ≡ true
or_right true b h = refl
or_right false b h = h

or_rest : (a b c d : Bool) → (b ≡ true → (c || d) ≡ true) → (a || b) ≡ true → ((a || c) || d) ≡ true
or_rest true b c d h k = refl
or_rest false b c d h k = h k

or_rest_of : (a b : Bool) → a ≡ false → (a || b) ≡ true → b ≡ true
or_rest_of true b e h = absurd cc
or_rest_of false b e h = h

middle : (a b c : Bool) → (a || c) ≡ true → (a || (b || c)) ≡ true
middle true b c h = refl
middle false true c h = refl
middle false false c h = h

or_turned : (b : Bool) → (b || true) ≡ true
or_turned true = refl
or_turned false = refl

one_of : (a b c t m : Bool) → (t ≡ true → b ≡ true) → (m ≡ true → b ≡ true) → ((c || t) || m) ≡ true → (a || (b || c)) ≡ true
one_of true b c t m h k l = refl
one_of false b true t m h k l = or_turned b
one_of false b false true m h k l = ap (λ (x : Bool). x || false) (h refl)
one_of false b false false m h k l = ap (λ (x : Bool). x || false) (k l)

none_if : (a row settled among : Bool) → (not row || (settled || among)) ≡ true → among ≡ false → not (a && (row && not settled)) ≡ true
none_if false row settled among h e = refl
none_if true false settled among h e = refl
none_if true true true among h e = refl
none_if true true false among h e = absurd cc

other_if : (a b : Bool) → a ≡ false → not (a && b) ≡ true
other_if true b e = absurd cc
other_if false b e = refl

-- one of three holds: so does one of three others
three : (a b c d e f : Bool) → (a ≡ true → d ≡ true) → (b ≡ true → (d || (e || f)) ≡ true) → (c ≡ true → (d || (e || f)) ≡ true) → (a || (b || c)) ≡ true → (d || (e || f)) ≡ true
three true b c d e f h k l is = or_left d (e || f) (h refl)
three false true c d e f h k l is = k refl
three false false c d e f h k l is = l is

second : (d e f : Bool) → e ≡ true → (d || (e || f)) ≡ true
second d e f h = or_right d (e || f) (or_left e f h)

and_left : (a b : Bool) → (a && b) ≡ true → a ≡ true
and_left true b h = refl
and_left false b h = h

and_right : (a b : Bool) → (a && b) ≡ true → b ≡ true
and_right true b h = h
and_right false b h = absurd cc

and_both : (a b : Bool) → a ≡ true → b ≡ true → (a && b) ≡ true
and_both true b h k = k
and_both false b h k = h

pub decide : (b : Bool) (P : Type 0) → (b ≡ true → P) → (b ≡ false → P) → P
decide true P f g = f refl
decide false P f g = g refl

pub same : (m n : ℕ) → (m == n) ≡ true → m ≡ n
same m n h = grind (arith, nat_tests)

itself : (n : ℕ) → (n == n) ≡ true
itself n = grind (arith, nat_tests)

same_number : (q k : ℕ) → eq_by_cmp nat_cmp q k ≡ (q == k)
same_number q k = grind (arith, nat_tests)

-- ---- numbers that are held

abbrev pub is_among : ℕ → List ℕ → Bool
is_among n ns = list_any (λ (m : ℕ). m == n) ns

one_less : (ns : List ℕ) (m : ℕ) → length (m ∷ ns) - 1 ≡ length ns
one_less ns m = omega arith

last_or : (q n m : ℕ) (ns : List ℕ) → is_number n (slice_get (m ∷ ns) (length ns)) ≡ true → is_among q (m ∷ ns) ≡ true → (is_among q (take (length ns) (m ∷ ns)) || (n == q)) ≡ true
last_or q n m [] h k = grind (arith, nat_tests)
last_or q n m (l ∷ ns) h k = or_rest (m == q) (is_among q (l ∷ ns)) (is_among q (take (length ns) (l ∷ ns))) (n == q) (last_or q n l ns h) k

taken_or : (q n : ℕ) (ns : List ℕ) → is_among q ns ≡ true → (is_among q (taken_back n ns) || (n == q)) ≡ true
taken_or q n [] k = absurd cc
taken_or q n (m ∷ ns) k =
    decide (is_last n (m ∷ ns)) _
    (λ h. ap (λ (b : Bool). is_among q (cond b (take (length (m ∷ ns) - 1) (m ∷ ns)) (m ∷ ns)) || (n == q)) h
    ∙ ap (λ (j : ℕ). is_among q (take j (m ∷ ns)) || (n == q)) (one_less ns m)
    ∙ last_or q n m ns (ap (λ (j : ℕ). is_number n (slice_get (m ∷ ns) j)) (sym (one_less ns m)) ∙ h) k)
    (λ h. ap (λ (b : Bool). is_among q (cond b (take (length (m ∷ ns) - 1) (m ∷ ns)) (m ∷ ns)) || (n == q)) h ∙ or_left (is_among q (m ∷ ns)) (n == q) k)

-- ---- the numbers of a transaction

abbrev pub held : Open → ℕ → List ℕ
held changes tran = numbers_of (get changes tran)

put_if : (b : Bool) (ns : List ℕ) (o : Option (List ℕ)) → numbers_of (cond b (Some ns) o) ≡ cond b ns (numbers_of o)
put_if true ns o = refl
put_if false ns o = refl

gone_if : (b : Bool) (o : Option (List ℕ)) → numbers_of (cond b None o) ≡ cond b [] (numbers_of o)
gone_if true o = refl
gone_if false o = refl

pub held_removed : (changes : Open) (tran t : ℕ) → held (remove changes tran) t ≡ cond (t == tran) [] (held changes t)
held_removed changes tran t =
    ap (λ (o : Option (List ℕ)). numbers_of o) (get-remove nat_cmp_total changes tran t)
    ∙ gone_if (eq_by_cmp nat_cmp t tran) (get changes t)
    ∙ ap (λ (b : Bool). cond b [] (held changes t)) (same_number t tran)

twice : (b : Bool) (ns : List ℕ) (o : Open) (tran t : ℕ) → cond b ns (cond b [] (held o t)) ≡ cond b ns (held o t)
twice true ns o tran t = refl
twice false ns o tran t = refl

pub held_with : (changes : Open) (tran : ℕ) (ns : List ℕ) (t : ℕ) → held (with_numbers (remove changes tran) tran ns) t ≡ cond (t == tran) ns (held changes t)
held_with changes tran [] t = held_removed changes tran t
held_with changes tran (n ∷ ns) t =
    ap (λ (o : Option (List ℕ)). numbers_of o) (get-insert nat_cmp_total (remove changes tran) tran (n ∷ ns) t)
    ∙ put_if (eq_by_cmp nat_cmp t tran) (n ∷ ns) (get (remove changes tran) t)
    ∙ ap (λ (b : Bool). cond b (n ∷ ns) (held (remove changes tran) t)) (same_number t tran)
    ∙ ap (λ (l : List ℕ). cond (t == tran) (n ∷ ns) l) (held_removed changes tran t)
    ∙ twice (t == tran) (n ∷ ns) changes tran t

-- ---- one record more

-- the record of this number and transaction is no row change, or is settled among these, or is held
abbrev pub is_told : List LogRecord → Open → LogRecord → Bool
is_told done changes r = not (is_row_change r.body) || (is_settled done r || is_among r.lrsn (held changes r.tran))

settled_on : (done : List LogRecord) (x r : LogRecord) → is_settled done r ≡ true → is_settled (done ++ x ∷ []) r ≡ true
settled_on done x r h =
    decide (has_commit done r.tran) _
    (λ k. or_left (has_commit (done ++ x ∷ []) r.tran) _ (list_any-append (λ (s : LogRecord). is_commit s.body && (s.tran == r.tran)) done (x ∷ []) ∙ or_left (has_commit done r.tran) _ k))
    (λ k. or_right (has_commit (done ++ x ∷ []) r.tran) _
    (list_any-append (λ (s : LogRecord). takes_back r.lrsn s.body) done (x ∷ []) ∙ or_left (list_any (λ (s : LogRecord). takes_back r.lrsn s.body) done) _ (or_rest_of (has_commit done r.tran) _ k h)))

by_commit : (done : List LogRecord) (x r : LogRecord) → (is_commit x.body && (x.tran == r.tran)) ≡ true → is_settled (done ++ x ∷ []) r ≡ true
by_commit done x r h =
    or_left (has_commit (done ++ x ∷ []) r.tran) _
    (list_any-append (λ (s : LogRecord). is_commit s.body && (s.tran == r.tran)) done (x ∷ []) ∙ or_right (has_commit done r.tran) _ (or_left (is_commit x.body && (x.tran == r.tran)) false h))

by_undo : (done : List LogRecord) (x r : LogRecord) → takes_back r.lrsn x.body ≡ true → is_settled (done ++ x ∷ []) r ≡ true
by_undo done x r h =
    or_right (has_commit (done ++ x ∷ []) r.tran) _
    (list_any-append (λ (s : LogRecord). takes_back r.lrsn s.body) done (x ∷ []) ∙ or_right (list_any (λ (s : LogRecord). takes_back r.lrsn s.body) done) _ (or_left (takes_back r.lrsn x.body) false h))

-- what was held is held still, or the record settles it
abbrev StaysOr : Open → ℕ → ℕ → Body → LogRecord → Type 0
StaysOr changes tran lrsn b r = ((is_among r.lrsn (held (with_body changes tran lrsn b) r.tran) || takes_back r.lrsn b) || (is_commit b && (tran == r.tran))) ≡ true

stays : (changes next : Open) (lrsn tran : ℕ) (x y : Bool) → held next tran ≡ held changes tran → is_among lrsn (held changes tran) ≡ true → ((is_among lrsn (held next tran) || x) || y) ≡ true
stays changes next lrsn tran x y e h = or_left _ y (or_left (is_among lrsn (held next tran)) x (ap (λ (l : List ℕ). is_among lrsn l) e ∙ h))

changed_on : (changes : Open) (tran lrsn : ℕ) (r : LogRecord) (b : Bool) → (r.tran == tran) ≡ b → is_among r.lrsn (held changes r.tran) ≡ true
    → is_among r.lrsn (cond b (held changes tran ++ lrsn ∷ []) (held changes r.tran)) ≡ true
changed_on changes tran lrsn r true e h =
    list_any-append (λ (m : ℕ). m == r.lrsn) (held changes tran) (lrsn ∷ [])
    ∙ or_left (is_among r.lrsn (held changes tran)) _ (ap (λ (n : ℕ). is_among r.lrsn (held changes n)) (sym (same r.tran tran e)) ∙ h)
changed_on changes tran lrsn r false e h = h

undone_on : (changes : Open) (tran undone : ℕ) (r : LogRecord) (b : Bool) → (r.tran == tran) ≡ b → is_among r.lrsn (held changes r.tran) ≡ true
    → (is_among r.lrsn (cond b (taken_back undone (held changes tran)) (held changes r.tran)) || (undone == r.lrsn)) ≡ true
undone_on changes tran undone r true e h = taken_or r.lrsn undone (held changes tran) (ap (λ (n : ℕ). is_among r.lrsn (held changes n)) (sym (same r.tran tran e)) ∙ h)
undone_on changes tran undone r false e h = or_left (is_among r.lrsn (held changes r.tran)) _ h

gone_on : (changes : Open) (tran : ℕ) (r : LogRecord) (b : Bool) → (r.tran == tran) ≡ b → is_among r.lrsn (held changes r.tran) ≡ true
    → ((is_among r.lrsn (cond b [] (held changes r.tran)) || false) || (tran == r.tran)) ≡ true
gone_on changes tran r true e h = ap (λ (n : ℕ). n == r.tran) (sym (same r.tran tran e)) ∙ itself r.tran
gone_on changes tran r false e h = or_left _ (tran == r.tran) (or_left (is_among r.lrsn (held changes r.tran)) false h)

held_on : (changes : Open) (tran lrsn : ℕ) (b : Body) (r : LogRecord) → is_among r.lrsn (held changes r.tran) ≡ true → StaysOr changes tran lrsn b r
held_on changes tran lrsn (body.RowChange c) r h =
    or_left _ false (or_left _ false (ap (λ (l : List ℕ). is_among r.lrsn l) (held_with changes tran (held changes tran ++ lrsn ∷ []) r.tran) ∙ changed_on changes tran lrsn r (r.tran == tran) refl h))
held_on changes tran lrsn (body.Compensation c undone) r h =
    or_left _ false (ap (λ (l : List ℕ). is_among r.lrsn l || (undone == r.lrsn)) (held_with changes tran (taken_back undone (held changes tran)) r.tran) ∙ undone_on changes tran undone r (r.tran == tran) refl h)
held_on changes tran lrsn (body.System patches) r h = stays changes changes r.lrsn r.tran false false refl h
held_on changes tran lrsn body.Commit r h =
    ap (λ (l : List ℕ). (is_among r.lrsn l || false) || (tran == r.tran)) (held_removed changes tran r.tran) ∙ gone_on changes tran r (r.tran == tran) refl h
held_on changes tran lrsn body.Ended r h = stays changes changes r.lrsn r.tran false false refl h
held_on changes tran lrsn (body.Checkpoint offset) r h = stays changes changes r.lrsn r.tran false false refl h
held_on changes tran lrsn body.RestartEnd r h = stays changes changes r.lrsn r.tran false false refl h

told_on : (done : List LogRecord) (changes : Open) (x r : LogRecord) → is_told done changes r ≡ true → is_told (done ++ x ∷ []) (with_body changes x.tran x.lrsn x.body) r ≡ true
told_on done changes x r h =
    three (not (is_row_change r.body)) (is_settled done r) (is_among r.lrsn (held changes r.tran)) (not (is_row_change r.body)) (is_settled (done ++ x ∷ []) r) (is_among r.lrsn (held (with_body changes x.tran x.lrsn x.body) r.tran))
    (λ k. k)
    (λ k. second _ (is_settled (done ++ x ∷ []) r) _ (settled_on done x r k))
    (λ k. one_of (not (is_row_change r.body)) (is_settled (done ++ x ∷ []) r) (is_among r.lrsn (held (with_body changes x.tran x.lrsn x.body) r.tran)) (takes_back r.lrsn x.body) (is_commit x.body && (x.tran == r.tran))
    (by_undo done x r) (by_commit done x r) (held_on changes x.tran x.lrsn x.body r k))
    h

-- the record itself
itself_held : (changes : Open) (tran lrsn : ℕ) (b : Body) → (not (is_row_change b) || is_among lrsn (held (with_body changes tran lrsn b) tran)) ≡ true
itself_held changes tran lrsn (body.RowChange c) =
    ap (λ (l : List ℕ). is_among lrsn l) (held_with changes tran (held changes tran ++ lrsn ∷ []) tran ∙ ap (λ (b : Bool). cond b (held changes tran ++ lrsn ∷ []) (held changes tran)) (itself tran))
    ∙ list_any-append (λ (m : ℕ). m == lrsn) (held changes tran) (lrsn ∷ [])
    ∙ or_right (is_among lrsn (held changes tran)) _ (or_left (lrsn == lrsn) false (itself lrsn))
itself_held changes tran lrsn (body.Compensation c undone) = refl
itself_held changes tran lrsn (body.System patches) = refl
itself_held changes tran lrsn body.Commit = refl
itself_held changes tran lrsn body.Ended = refl
itself_held changes tran lrsn (body.Checkpoint offset) = refl
itself_held changes tran lrsn body.RestartEnd = refl

last_told : (done : List LogRecord) (changes : Open) (x : LogRecord) → is_told (done ++ x ∷ []) (with_body changes x.tran x.lrsn x.body) x ≡ true
last_told done changes x = middle (not (is_row_change x.body)) (is_settled (done ++ x ∷ []) x) _ (itself_held changes x.tran x.lrsn x.body)

all_on : (p q : LogRecord → Bool) → ((r : LogRecord) → p r ≡ true → q r ≡ true) → (rs : List LogRecord) → list_all p rs ≡ true → list_all q rs ≡ true
all_on p q h [] k = refl
all_on p q h (r ∷ rs) k = and_both (q r) _ (h r (and_left (p r) _ k)) (all_on p q h rs (and_right (p r) _ k))

-- ---- all records

told_more : (done : List LogRecord) (changes : Open) (x : LogRecord) → list_all (is_told done changes) done ≡ true
    → list_all (is_told (done ++ x ∷ []) (with_body changes x.tran x.lrsn x.body)) (done ++ x ∷ []) ≡ true
told_more done changes x h =
    list_all-append (is_told (done ++ x ∷ []) (with_body changes x.tran x.lrsn x.body)) done (x ∷ [])
    ∙ and_both (list_all (is_told (done ++ x ∷ []) (with_body changes x.tran x.lrsn x.body)) done) _
    (all_on (is_told done changes) (is_told (done ++ x ∷ []) (with_body changes x.tran x.lrsn x.body)) (told_on done changes x) done h)
    (and_both (is_told (done ++ x ∷ []) (with_body changes x.tran x.lrsn x.body) x) true (last_told done changes x) refl)

no_more : (xs : List LogRecord) → xs ≡ xs ++ []
no_more [] = refl
no_more (x ∷ xs) = ap (λ (l : List LogRecord). x ∷ l) (no_more xs)

joined : (e : List LogRecord) (r : LogRecord) (rs : List LogRecord) → (e ++ r ∷ []) ++ rs ≡ e ++ r ∷ rs
joined [] r rs = refl
joined (x ∷ e) r rs = ap (λ (l : List LogRecord). x ∷ l) (joined e r rs)

told_all : (s : LogScan) (at : ℕ) (done rs : List LogRecord) → list_all (is_told done s.changes) done ≡ true → list_all (is_told (done ++ rs) (scan_from s at rs).changes) (done ++ rs) ≡ true
told_all s at done [] h = subst (λ (l : List LogRecord). list_all (is_told l s.changes) l ≡ true) (no_more done) h
told_all s at done (r ∷ rs) h =
    subst (λ (l : List LogRecord). list_all (is_told l (scan_from (scanned s at r) (next_place at r) rs).changes) l ≡ true) (joined done r rs)
    (told_all (scanned s at r) (next_place at r) (done ++ r ∷ []) rs (told_more done s.changes r h))

nothing : (o : Option (List ℕ)) → is_some o ≡ false → numbers_of o ≡ []
nothing None h = refl
nothing (Some ns) h = absurd cc

nothing_held : (changes : Open) (tran : ℕ) → is_some (get changes tran) ≡ false → (r : LogRecord) → (r.tran == tran) ≡ true → is_among r.lrsn (held changes r.tran) ≡ false
nothing_held changes tran none r e =
    ap (λ (n : ℕ). is_among r.lrsn (held changes n)) (same r.tran tran e) ∙ ap (λ (l : List ℕ). is_among r.lrsn l) (nothing (get changes tran) none)

-- no row change of a transaction is open of which none is held
none_open : (records : List LogRecord) (changes : Open) (tran : ℕ) → is_some (get changes tran) ≡ false → (r : LogRecord) → is_told records changes r ≡ true → not ((r.tran == tran) && is_open records r) ≡ true
none_open records changes tran none r h = decide (r.tran == tran) _ (λ e. none_if (r.tran == tran) (is_row_change r.body) (is_settled records r) (is_among r.lrsn (held changes r.tran)) h (nothing_held changes tran none r e)) (λ e. other_if (r.tran == tran) (is_open records r) e)

pub ended : (records : List LogRecord) (tran : ℕ) → is_some (get (scan_from nothing_scanned 0 records).changes tran) ≡ false → has_ended records tran ≡ true
ended records tran none =
    all_on (is_told records (scan_from nothing_scanned 0 records).changes) (λ (r : LogRecord). not ((r.tran == tran) && is_open records r))
    (none_open records (scan_from nothing_scanned 0 records).changes tran none) records (told_all nothing_scanned 0 [] records refl)
