-- The numbers that were drawn for the merged records differ.
use Rattle.std.proofs.Common.{◌≡◌, ℕ, Bool, true, false, cond, List, [], ◌∷◌, refl, sym, ap, ◌∙◌}
use Rattle.std.specs.Prelude.{◌==◌, nat_le, not, ◌||◌, ◌&&◌}
use Rattle.std.proofs.lemmas.Bool.{cond_both, and_parts}
use Rattle.ds_model.specs.declared.log.LogRecord.{LogRecord}
use Rattle.ds_model.specs.declared.log.Body.{Body}
use Rattle.ds_model.specs.declared.log.Body.TheVariants as body
use Rattle.ds_model.specs.Logs.{put_by_lrsn, by_lrsn}
use Rattle.log_record.specs.declared.log.Log.{Log}
use Rattle.log_record.specs.Changes.{is_drawn}
use Rattle.log_merge.specs.Merging.{is_merged, kept, all_records}
use Rattle.sound_disk.specs.Transactions.{drawn_numbers, is_among, all_differ, AreTransactions}
use Rattle.sound_disk.specs.Versions.{merged}
use Rattle.row_turns.proofs.Behind.{turned_round}

same_table : (b : Body) → is_merged b ≡ is_drawn b
same_table (body.RowChange change) = refl
same_table (body.Compensation change undone) = refl
same_table (body.System patches) = refl
same_table body.Commit = refl
same_table body.Ended = refl
same_table (body.Checkpoint offset) = refl
same_table body.RestartEnd = refl

among_if : (n m : ℕ) (b : Bool) (ns : List ℕ) → is_among n (cond b (m ∷ ns) ns) ≡ ((b && (m == n)) || is_among n ns)
among_if n m true ns = refl
among_if n m false ns = refl

differ_if : (m : ℕ) (b : Bool) (ns : List ℕ) → all_differ (cond b (m ∷ ns) ns) ≡ (not (b && is_among m ns) && all_differ ns)
differ_if m true ns = refl
differ_if m false ns = refl

or_swap : (a b c : Bool) → (a || (b || c)) ≡ (b || (a || c))
or_swap true true c = refl
or_swap true false c = refl
or_swap false b c = refl

differ_swap : (s r e a b d : Bool) → (not (s && ((r && e) || a)) && (not (r && b) && d)) ≡ (not (r && ((s && e) || b)) && (not (s && a) && d))
differ_swap false r e a b d = refl
differ_swap true false e a b d = refl
differ_swap true true true a b d = refl
differ_swap true true false true true d = refl
differ_swap true true false true false d = refl
differ_swap true true false false true d = refl
differ_swap true true false false false d = refl

-- ---- a record that is put in its place

among_first : (n : ℕ) (r : LogRecord) (rs : List LogRecord) → is_among n (drawn_numbers (r ∷ rs)) ≡ ((is_drawn r.body && (r.lrsn == n)) || is_among n (drawn_numbers rs))
among_first n r rs = among_if n r.lrsn (is_drawn r.body) (drawn_numbers rs)

differ_first : (r : LogRecord) (rs : List LogRecord) → all_differ (drawn_numbers (r ∷ rs)) ≡ (not (is_drawn r.body && is_among r.lrsn (drawn_numbers rs)) && all_differ (drawn_numbers rs))
differ_first r rs = differ_if r.lrsn (is_drawn r.body) (drawn_numbers rs)

among_put : (n : ℕ) (r : LogRecord) (ss : List LogRecord) → is_among n (drawn_numbers (put_by_lrsn r ss)) ≡ ((is_drawn r.body && (r.lrsn == n)) || is_among n (drawn_numbers ss))
among_put n r [] = among_first n r []
among_put n r (s ∷ ss) =
    let own = is_drawn r.body && (r.lrsn == n) in
    let other = is_drawn s.body && (s.lrsn == n) in
    cond_both (nat_le r.lrsn s.lrsn) (r ∷ s ∷ ss) (s ∷ put_by_lrsn r ss) (λ (l : List LogRecord). is_among n (drawn_numbers l) ≡ (own || is_among n (drawn_numbers (s ∷ ss))))
    (λ is. among_first n r (s ∷ ss))
    (λ is. among_first n s (put_by_lrsn r ss) ∙ ap (λ (b : Bool). other || b) (among_put n r ss) ∙ or_swap other own (is_among n (drawn_numbers ss))
    ∙ ap (λ (b : Bool). own || b) (sym (among_first n s ss)))

abbrev differs : LogRecord → List LogRecord → Bool
differs r ss = not (is_drawn r.body && is_among r.lrsn (drawn_numbers ss)) && all_differ (drawn_numbers ss)

differ_behind : (r s : LogRecord) (ss : List LogRecord) → all_differ (drawn_numbers (put_by_lrsn r ss)) ≡ differs r ss → all_differ (drawn_numbers (s ∷ put_by_lrsn r ss)) ≡ differs r (s ∷ ss)
differ_behind r s ss ih =
    differ_first s (put_by_lrsn r ss)
    ∙ ap (λ (b : Bool). not (is_drawn s.body && b) && all_differ (drawn_numbers (put_by_lrsn r ss))) (among_put s.lrsn r ss)
    ∙ ap (λ (b : Bool). not (is_drawn s.body && ((is_drawn r.body && (r.lrsn == s.lrsn)) || is_among s.lrsn (drawn_numbers ss))) && b) ih
    ∙ differ_swap (is_drawn s.body) (is_drawn r.body) (r.lrsn == s.lrsn) (is_among s.lrsn (drawn_numbers ss)) (is_among r.lrsn (drawn_numbers ss)) (all_differ (drawn_numbers ss))
    ∙ ap (λ (b : Bool). not (is_drawn r.body && ((is_drawn s.body && b) || is_among r.lrsn (drawn_numbers ss))) && (not (is_drawn s.body && is_among s.lrsn (drawn_numbers ss)) && all_differ (drawn_numbers ss))) (turned_round r.lrsn s.lrsn)
    ∙ ap (λ (b : Bool). not (is_drawn r.body && b) && (not (is_drawn s.body && is_among s.lrsn (drawn_numbers ss)) && all_differ (drawn_numbers ss))) (sym (among_first r.lrsn s ss))
    ∙ ap (λ (b : Bool). not (is_drawn r.body && is_among r.lrsn (drawn_numbers (s ∷ ss))) && b) (sym (differ_first s ss))

differ_put : (r : LogRecord) (ss : List LogRecord) → all_differ (drawn_numbers (put_by_lrsn r ss)) ≡ differs r ss
differ_put r [] = differ_first r []
differ_put r (s ∷ ss) =
    cond_both (nat_le r.lrsn s.lrsn) (r ∷ s ∷ ss) (s ∷ put_by_lrsn r ss) (λ (l : List LogRecord). all_differ (drawn_numbers l) ≡ differs r (s ∷ ss))
    (λ is. differ_first r (s ∷ ss))
    (λ is. differ_behind r s ss (differ_put r ss))

-- ---- all of them

among_sorted : (n : ℕ) (rs : List LogRecord) → is_among n (drawn_numbers (by_lrsn rs)) ≡ is_among n (drawn_numbers rs)
among_sorted n [] = refl
among_sorted n (r ∷ rs) = among_put n r (by_lrsn rs) ∙ ap (λ (b : Bool). (is_drawn r.body && (r.lrsn == n)) || b) (among_sorted n rs) ∙ sym (among_first n r rs)

differ_sorted : (rs : List LogRecord) → all_differ (drawn_numbers (by_lrsn rs)) ≡ all_differ (drawn_numbers rs)
differ_sorted [] = refl
differ_sorted (r ∷ rs) =
    differ_put r (by_lrsn rs)
    ∙ ap (λ (b : Bool). not (is_drawn r.body && b) && all_differ (drawn_numbers (by_lrsn rs))) (among_sorted r.lrsn rs)
    ∙ ap (λ (b : Bool). not (is_drawn r.body && is_among r.lrsn (drawn_numbers rs)) && b) (differ_sorted rs)
    ∙ sym (differ_first r rs)

kept_drawn : (rs : List LogRecord) → drawn_numbers (kept rs) ≡ drawn_numbers rs
kept_drawn [] = refl
kept_drawn (r ∷ rs) =
    cond_both (is_merged r.body) (r ∷ kept rs) (kept rs) (λ (l : List LogRecord). drawn_numbers l ≡ cond (is_drawn r.body) (r.lrsn ∷ drawn_numbers rs) (drawn_numbers rs))
    (λ is. ap (λ (ns : List ℕ). cond (is_drawn r.body) (r.lrsn ∷ ns) ns) (kept_drawn rs))
    (λ other. kept_drawn rs ∙ sym (ap (λ (b : Bool). cond b (r.lrsn ∷ drawn_numbers rs) (drawn_numbers rs)) (sym (same_table r.body) ∙ other)))

pub merged_drawn : (logs : List Log) → AreTransactions logs → all_differ (drawn_numbers (merged logs)) ≡ true
merged_drawn logs h =
    differ_sorted (kept (all_records logs)) ∙ ap (λ (ns : List ℕ). all_differ ns) (kept_drawn (all_records logs))
    ∙ (and_parts (not (is_among 0 (drawn_numbers (all_records logs)))) (all_differ (drawn_numbers (all_records logs))) h.numbers).1
