-- A log that breaks off isn't whole.
use Rattle.std.proofs.Common.{◌≡◌, ℕ, ◌+◌, ◌<◌, ◌≤◌, inl, inr, List, [], ◌∷◌, ◌++◌, length, take, drop, Result, Ok, Err, refl, sym, ap, subst, ◌∙◌, append_assoc}
use Rattle.std.specs.List.{AllByRecursion}
use Rattle.std.proofs.lemmas.List.{drop_at}
use Rattle.ds_model.specs.declared.log.LogRecord.{LogRecord}
use Rattle.ds_model.specs.RecordBytes.{IsAllowed, record_bytes, log_bytes}
use Rattle.ds_model.specs.Logs.{IsTorn}
use Rattle.log_record.specs.declared.log.Log.{Log}
use Rattle.log_record.specs.declared.fault.RecordFault.{RecordFault}
use Rattle.log_record.specs.declared.fault.RecordFault.TheVariants.{NotWhole}
use Rattle.log_record.specs.Reading.{record_in}
use Rattle.log_merge.specs.Merging.{RisesFrom}
use Rattle.sound_disk.specs.Whole_logs.{IsWholeLog, AreWholeLogs}
use Rattle.whole_logs.specs.Breaks.{BreaksOff}
use Rattle.disk_logs.specs.Broken.{IsFirstBroken}

-- a spelling is read, whatever follows it
abbrev pub Again : Type 0
Again = (r : LogRecord) (rest : List ℕ) → IsAllowed r → record_in (record_bytes r ++ rest) ≡ Ok (r, length (record_bytes r))

-- a front of a spelling is not whole
abbrev pub Cut : Type 0
Cut = (r : LogRecord) (n : ℕ) → IsAllowed r → n < length (record_bytes r) → record_in (take n (record_bytes r)) ≡ Err NotWhole

nothing_read : record_in [] ≡ Err NotWhole
unfolding record_in
nothing_read = refl

torn_read : Cut → (rest : List ℕ) → IsTorn rest → record_in rest ≡ Err NotWhole
torn_read cut rest (inl none) = ap record_in none ∙ nothing_read
torn_read cut rest (inr t) = ap record_in t.4 ∙ cut t.0 t.2 t.1 t.3

abbrev Read : Type 0
Read = Result (LogRecord × ℕ) RecordFault

same_pair : (a b : LogRecord) (m n : ℕ) (x y : Read) → x ≡ y → x ≡ Ok (a, m) → y ≡ Ok (b, n) → a ≡ b
same_pair a b m n x y e h k =
    let pair : (a, m) ≡ (b, n) = cc in
    ap (λ (z : LogRecord × ℕ). z.0) pair

-- the bytes behind the first record of a log
behind : (r : LogRecord) (rs : List LogRecord) (rest : List ℕ) → log_bytes (r ∷ rs) ++ rest ≡ record_bytes r ++ (log_bytes rs ++ rest)
behind r rs rest = append_assoc (record_bytes r) (log_bytes rs) rest

rest_same : (xs ys zs : List ℕ) → xs ++ ys ≡ xs ++ zs → ys ≡ zs
rest_same xs ys zs e = sym (drop_at xs ys (length xs) refl) ∙ ap (λ (t : List ℕ). drop (length xs) t) e ∙ drop_at xs zs (length xs) refl

-- the bytes are not these records with nothing that may follow them, and also whole records with a torn tail
not_both : Again → Cut → (low : ℕ) (rs ss : List LogRecord) (rest tail : List ℕ) → log_bytes rs ++ rest ≡ log_bytes ss ++ tail → AllByRecursion IsAllowed rs → AllByRecursion IsAllowed ss → IsTorn tail
    → (IsTorn rest → ⊥) → ((r : LogRecord) (more : List ℕ) → IsAllowed r → rest ≡ record_bytes r ++ more → RisesFrom low (rs ++ r ∷ []) → ⊥) → RisesFrom low ss → ⊥
not_both again cut low [] [] rest tail e ha hb torn untorn none rises = untorn (subst IsTorn (sym e) torn)
not_both again cut low [] (s ∷ ss) rest tail e ha hb torn untorn none rises = none s (log_bytes ss ++ tail) hb.0 (e ∙ behind s ss tail) (rises.0, tt)
not_both again cut low (r ∷ rs) [] rest tail e ha hb torn untorn none rises =
    let read = again r (log_bytes rs ++ rest) ha.0 in
    let here : record_in tail ≡ Ok (r, length (record_bytes r)) = ap record_in (sym e ∙ behind r rs rest) ∙ read in
    let cut_short = torn_read cut tail torn in
    cc
not_both again cut low (r ∷ rs) (s ∷ ss) rest tail e ha hb torn untorn none rises =
    let front = sym (behind r rs rest) ∙ e ∙ behind s ss tail in
    let same : r ≡ s = same_pair r s (length (record_bytes r)) (length (record_bytes s)) _ _ (ap record_in front) (again r (log_bytes rs ++ rest) ha.0) (again s (log_bytes ss ++ tail) hb.0) in
    let one : record_bytes r ++ (log_bytes rs ++ rest) ≡ record_bytes r ++ (log_bytes ss ++ tail) = front ∙ ap (λ (q : LogRecord). record_bytes q ++ (log_bytes ss ++ tail)) (sym same) in
    not_both again cut r.lrsn rs ss rest tail (rest_same (record_bytes r) (log_bytes rs ++ rest) (log_bytes ss ++ tail) one) ha.1 hb.1 torn untorn
    (λ q more is at up. none q more is at (subst (λ (n : ℕ). low ≤ n) (ap (λ (q : LogRecord). q.lrsn) (sym same)) rises.0, up))
    (subst (λ (n : ℕ). RisesFrom n ss) (ap (λ (q : LogRecord). q.lrsn) (sym same)) rises.1)

not_whole : Again → Cut → (member : ℕ) (bytes : List ℕ) (at : ℕ) (log : Log) → BreaksOff bytes at → IsWholeLog member bytes log → ⊥
not_whole again cut member bytes at log off h =
    let are = h.records_are in
    not_both again cut 0 off.records log.records off.rest are.tail (sym off.split ∙ are.whole) off.allowed are.allowed are.torn off.not_torn off.no_record h.rising

none_whole : (m : ℕ) (front : List (List ℕ)) (bytes : List ℕ) (back : List (List ℕ)) (whole : List Log) → ((n : ℕ) (log : Log) → IsWholeLog n bytes log → ⊥) → AreWholeLogs m (front ++ bytes ∷ back) whole → ⊥
none_whole m [] bytes back [] apart h = h
none_whole m [] bytes back (l ∷ ls) apart h = apart m l h.0
none_whole m (b ∷ front) bytes back [] apart h = h
none_whole m (b ∷ front) bytes back (l ∷ ls) apart h = none_whole (m + 1) front bytes back ls apart h.1

pub broken_apart : Again → Cut → (logs : List (List ℕ)) (member at : ℕ) (whole : List Log) → IsFirstBroken logs member at → AreWholeLogs 1 logs whole → ⊥
broken_apart again cut logs member at whole b h =
    none_whole 1 b.front b.bytes b.back whole (λ n log is. not_whole again cut n b.bytes at log b.off is) (subst (λ (l : List (List ℕ)). AreWholeLogs 1 l whole) b.split h)
