-- What is appended stands behind all merged records, and rows are changed in turn as before.
use Rattle.std.proofs.Common.{◌≡◌, ℕ, ◌<◌, max, Bool, true, false, cond, leb, List, [], ◌∷◌, ◌++◌, refl, sym, ap, subst, ◌∙◌, arith, append_assoc}
use Rattle.std.specs.Prelude.{nat_le, ◌&&◌}
use Rattle.std.proofs.lemmas.Bool.{le-leb, lt-leb, cond-true, cond-false}
use Rattle.std.proofs.lemmas.List.{append-nil}
use Rattle.std.proofs.lemmas.List.Elements.{filter-append}
use Rattle.ds_model.specs.declared.log.LogRecord.{LogRecord}
use Rattle.ds_model.specs.declared.log.Body.{Body}
use Rattle.ds_model.specs.declared.log.Body.TheVariants as body
use Rattle.ds_model.specs.Logs.{put_by_lrsn, by_lrsn}
use Rattle.log_record.specs.declared.log.Log.{Log}
use Rattle.log_trans.specs.Numbers.{greatest}
use Rattle.log_merge.specs.Merging.{is_merged, kept, all_records, in_order}
use Rattle.sound_disk.specs.Turns.{is_in_turn, are_in_turn, ChangeInTurn}
use Rattle.sound_disk.specs.Versions.{merged}
use Rattle.sound_appends.specs.Appends.{IsNext, Appends}
use Rattle.sound_appends.proofs.Numbers.{until, all_split, all_with, greatest_more, above_all, same_table}

-- ---- numbers of sorted records

greatest_if : (b : Bool) (xs ys : List LogRecord) (n : ℕ) → greatest xs ≡ n → greatest ys ≡ n → greatest (cond b xs ys) ≡ n
greatest_if true xs ys n h k = h
greatest_if false xs ys n h k = k

greatest_put : (r : LogRecord) (ss : List LogRecord) → greatest (put_by_lrsn r ss) ≡ max r.lrsn (greatest ss)
greatest_put r [] = refl
greatest_put r (s ∷ ss) =
    let ih = greatest_put r ss in
    let turned : max s.lrsn (greatest (put_by_lrsn r ss)) ≡ max r.lrsn (max s.lrsn (greatest ss)) = omega (arith, ih) in
    greatest_if (nat_le r.lrsn s.lrsn) (r ∷ s ∷ ss) (s ∷ put_by_lrsn r ss) (max r.lrsn (max s.lrsn (greatest ss))) refl turned

greatest_sorted : (rs : List LogRecord) → greatest (by_lrsn rs) ≡ greatest rs
greatest_sorted [] = refl
greatest_sorted (r ∷ rs) = greatest_put r (by_lrsn rs) ∙ ap (max r.lrsn) (greatest_sorted rs)

kept_if : (n : ℕ) (b : Bool) (r : LogRecord) (rs : List LogRecord) → r.lrsn < n → greatest rs < n → greatest (cond b (r ∷ rs) rs) < n
kept_if n true r rs h k = omega arith
kept_if n false r rs h k = k

kept_below : (n : ℕ) (rs : List LogRecord) → greatest rs < n → greatest (kept rs) < n
kept_below n [] h = h
kept_below n (r ∷ rs) h = kept_if n (is_merged r.body) r (kept rs) (omega arith) (kept_below n rs (omega arith))

-- ---- a record with a number above all

put_last : (r : LogRecord) (ss : List LogRecord) → greatest ss < r.lrsn → put_by_lrsn r ss ≡ ss ++ r ∷ []
put_last r [] h = refl
put_last r (s ∷ ss) h =
    cond-false (leb r.lrsn s.lrsn) (r ∷ s ∷ ss) (s ∷ put_by_lrsn r ss) (lt-leb r.lrsn s.lrsn (omega arith))
    ∙ ap (λ (rs : List LogRecord). s ∷ rs) (put_last r ss (omega arith))

more_if : (b : Bool) (xs ys zs ws : List LogRecord) (r : LogRecord) → xs ≡ zs ++ r ∷ [] → ys ≡ ws ++ r ∷ [] → cond b xs ys ≡ cond b zs ws ++ r ∷ []
more_if true xs ys zs ws r h k = h
more_if false xs ys zs ws r h k = k

put_before : (x r : LogRecord) (ss : List LogRecord) → x.lrsn < r.lrsn → put_by_lrsn x (ss ++ r ∷ []) ≡ put_by_lrsn x ss ++ r ∷ []
put_before x r [] h = cond-true (leb x.lrsn r.lrsn) (x ∷ r ∷ []) (r ∷ x ∷ []) (le-leb x.lrsn r.lrsn (omega arith))
put_before x r (s ∷ ss) h =
    more_if (nat_le x.lrsn s.lrsn) (x ∷ s ∷ (ss ++ r ∷ [])) (s ∷ put_by_lrsn x (ss ++ r ∷ [])) (x ∷ s ∷ ss) (s ∷ put_by_lrsn x ss) r refl
    (ap (λ (rs : List LogRecord). s ∷ rs) (put_before x r ss h))

sorted_last : (xs ys : List LogRecord) (r : LogRecord) → greatest xs < r.lrsn → greatest ys < r.lrsn → by_lrsn (xs ++ r ∷ ys) ≡ by_lrsn (xs ++ ys) ++ r ∷ []
sorted_last [] ys r h k = put_last r (by_lrsn ys) (subst (λ (n : ℕ). n < r.lrsn) (sym (greatest_sorted ys)) k)
sorted_last (x ∷ xs) ys r h k =
    ap (put_by_lrsn x) (sorted_last xs ys r (omega arith) k) ∙ put_before x r (by_lrsn (xs ++ ys)) (omega arith)

-- ---- merged records

sorted_if : (b : Bool) (xs ys : List LogRecord) (r : LogRecord) → (b ≡ true → greatest xs < r.lrsn) → (b ≡ true → greatest ys < r.lrsn)
    → by_lrsn (xs ++ cond b (r ∷ ys) ys) ≡ by_lrsn (xs ++ ys) ++ cond b (r ∷ []) []
sorted_if true xs ys r h k = sorted_last xs ys r (h refl) (k refl)
sorted_if false xs ys r h k = sym (append-nil (by_lrsn (xs ++ ys)))

in_order_last : (xs ys : List LogRecord) (r : LogRecord) → (is_merged r.body ≡ true → greatest (xs ++ ys) < r.lrsn) → in_order (xs ++ r ∷ ys) ≡ in_order (xs ++ ys) ++ kept (r ∷ [])
in_order_last xs ys r h =
    let split : greatest (xs ++ ys) ≡ max (greatest xs) (greatest ys) = greatest_more xs ys in
    ap by_lrsn (filter-append (λ (s : LogRecord). is_merged s.body) xs (r ∷ ys))
    ∙ sorted_if (is_merged r.body) (kept xs) (kept ys) r
    (λ is. let low = h is in kept_below r.lrsn xs (omega (arith, split, low)))
    (λ is. let low = h is in kept_below r.lrsn ys (omega (arith, split, low)))
    ∙ ap (λ (rs : List LogRecord). by_lrsn rs ++ kept (r ∷ [])) (sym (filter-append (λ (s : LogRecord). is_merged s.body) xs ys))

merged_above : (logs : List Log) (log : Log) (r : LogRecord) → IsNext logs log r r.body → is_merged r.body ≡ true → greatest (all_records logs) < r.lrsn
merged_above logs log r h is = let e = above_all logs log r r.body h (sym (same_table r.body) ∙ is) in omega (arith, e)

pub stands_behind : (logs after : List Log) (r : LogRecord) → Appends logs r after → merged after ≡ merged logs ++ kept (r ∷ [])
stands_behind logs after r h =
    let before : all_records logs ≡ until h.front h.log ++ all_records h.back = ap all_records h.logs_are ∙ all_split h.front h.log h.back in
    ap (λ (ls : List Log). in_order (all_records ls)) h.after_are
    ∙ ap in_order (all_with h.front h.log h.back r)
    ∙ in_order_last (until h.front h.log) (all_records h.back) r
    (λ is. subst (λ (rs : List LogRecord). greatest rs < r.lrsn) before (merged_above logs h.log r h.next is))
    ∙ ap (λ (rs : List LogRecord). in_order rs ++ kept (r ∷ [])) (sym before)

-- ---- turns

and_turned : (a b c : Bool) → (a && (b && c)) ≡ ((a && b) && c)
and_turned true b c = refl
and_turned false b c = refl

in_turn_more : (earlier rs ss : List LogRecord) → are_in_turn earlier (rs ++ ss) ≡ (are_in_turn earlier rs && are_in_turn (earlier ++ rs) ss)
in_turn_more earlier [] ss = ap (λ (l : List LogRecord). are_in_turn l ss) (sym (append-nil earlier))
in_turn_more earlier (r ∷ rs) ss =
    ap (λ (b : Bool). is_in_turn earlier r.tran r.body && b)
    (in_turn_more (earlier ++ r ∷ []) rs ss ∙ ap (λ (l : List LogRecord). are_in_turn (earlier ++ r ∷ []) rs && are_in_turn l ss) (append_assoc earlier (r ∷ []) rs))
    ∙ and_turned (is_in_turn earlier r.tran r.body) (are_in_turn (earlier ++ r ∷ []) rs) (are_in_turn (earlier ++ r ∷ rs) ss)

turn_is : (logs : List Log) (log : Log) (r : LogRecord) (earlier : List LogRecord) (b : Body) → IsNext logs log r b → is_in_turn earlier r.tran b ≡ true
turn_is logs log r earlier (body.RowChange change) h = absurd h
turn_is logs log r earlier (body.Compensation change undone) h = refl
turn_is logs log r earlier (body.System patches) h = absurd h
turn_is logs log r earlier body.Commit h = absurd h
turn_is logs log r earlier body.Ended h = refl
turn_is logs log r earlier (body.Checkpoint offset) h = refl
turn_is logs log r earlier body.RestartEnd h = refl

turn_if : (b : Bool) (earlier : List LogRecord) (r : LogRecord) → is_in_turn earlier r.tran r.body ≡ true → are_in_turn earlier (cond b (r ∷ []) []) ≡ true
turn_if true earlier r h = ap (λ (b : Bool). b && true) h
turn_if false earlier r h = refl

both : (a b : Bool) → a ≡ true → b ≡ true → (a && b) ≡ true
both true b h k = k
both false b h k = absurd cc

pub keeps_turns : (logs after : List Log) (r : LogRecord) → Appends logs r after → ChangeInTurn logs → ChangeInTurn after
keeps_turns logs after r h t =
    ap (are_in_turn []) (stands_behind logs after r h)
    ∙ in_turn_more [] (merged logs) (kept (r ∷ []))
    ∙ both (are_in_turn [] (merged logs)) (are_in_turn (merged logs) (kept (r ∷ []))) t
    (turn_if (is_merged r.body) (merged logs) r (turn_is logs h.log r (merged logs) r.body h.next))
