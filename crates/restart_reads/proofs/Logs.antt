-- The logs of a disk by their places, and what is read of them in turn.
use Rattle.std.proofs.Common.{◌≡◌, ℕ, ◌+◌, ◌-◌, List, [], ◌∷◌, ◌++◌, length, get_or, refl, sym, ap, subst, arith}
use Rattle.ds_disk.specs.Contents.{log_of}
use Rattle.log_record.specs.declared.log.Log.{Log}
use Rattle.sound_disk.specs.Whole_logs.{IsWholeLog, AreWholeLogs}
use Rattle.sound_reads.specs.Reads.{IsReadOf, AreReadOf}

pub as_many : (k : ℕ) (bytes : List (List ℕ)) (logs : List Log) → AreWholeLogs k bytes logs → length bytes ≡ length logs
as_many k [] [] w = refl
as_many k [] (l ∷ ls) w = absurd w
as_many k (b ∷ bs) [] w = absurd w
as_many k (b ∷ bs) (l ∷ ls) w = let more = as_many (k + 1) bs ls w.1 in omega (arith, more)

-- the log behind so many
whole_at : (k : ℕ) (bytes : List (List ℕ)) (front : List Log) (log : Log) (back : List Log) → AreWholeLogs k bytes (front ++ log ∷ back) → IsWholeLog (k + length front) (get_or bytes (length front) []) log
whole_at k [] [] log back w = absurd w
whole_at k (b ∷ bs) [] log back w = let place : k ≡ k + 0 = omega arith in subst (λ (n : ℕ). IsWholeLog n b log) place w.0
whole_at k [] (x ∷ xs) log back w = absurd w
whole_at k (b ∷ bs) (x ∷ xs) log back w =
    let place : (k + 1) + length xs ≡ k + length (x ∷ xs) = omega arith in
    subst (λ (n : ℕ). IsWholeLog n (get_or bs (length xs) []) log) place (whole_at (k + 1) bs xs log back w.1)

-- it is its member's
pub record IsAt (bytes : List (List ℕ)) (front : List Log) (log : Log) : Type 0 where
  pub member_is : log.member ≡ length front + 1
  pub whole : IsWholeLog log.member (log_of bytes log.member) log

pub log_at : (bytes : List (List ℕ)) (front : List Log) (log : Log) (back : List Log) → AreWholeLogs 1 bytes (front ++ log ∷ back) → IsAt bytes front log
log_at bytes front log back w =
    let its : IsWholeLog (1 + length front) (get_or bytes (length front) []) log = whole_at 1 bytes front log back w in
    let number = its.member_is in
    let place : length front ≡ log.member - 1 = omega (arith, number) in
    let bytes_are : get_or bytes (length front) [] ≡ log_of bytes log.member = ap (λ (i : ℕ). get_or bytes i []) place in
    record {
      member_is = omega (arith, number);
      whole = subst (λ (bs : List ℕ). IsWholeLog log.member bs log) bytes_are (subst (λ (n : ℕ). IsWholeLog n (get_or bytes (length front) []) log) (sym number) its);
    }

-- one log more is read
pub one_more : (logs reads : List Log) (log read : Log) → AreReadOf logs reads → IsReadOf log read → AreReadOf (logs ++ log ∷ []) (reads ++ read ∷ [])
one_more [] [] log read h is = (is, tt)
one_more [] (r ∷ rs) log read h is = absurd h
one_more (l ∷ ls) [] log read h is = absurd h
one_more (l ∷ ls) (r ∷ rs) log read h is = (h.0, one_more ls rs log read h.1 is)
