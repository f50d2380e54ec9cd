-- What holds of each log of whole logs whose records fit each other, and the log of a member.
use Rattle.std.proofs.Common.{◌≡◌, ℕ, ◌+◌, ◌<◌, Bool, true, false, cond, List, [], ◌∷◌, ◌++◌, refl, ap, subst, ◌∙◌, arith}
use Rattle.std.specs.Prelude.{◌==◌}
use Rattle.std.specs.List.{AllByRecursion}
use Rattle.std.proofs.lemmas.Bool.{or_left, or_right, eq-eqb, ne_eqb}
use Rattle.ds_model.specs.RecordBytes.{IsAllowed}
use Rattle.log_record.specs.declared.log.Log.{Log}
use Rattle.log_merge.specs.Merging.{all_records}
use Rattle.sound_disk.specs.Transactions.{drawn_numbers, all_differ, EachFollows, AreTransactions}
use Rattle.sound_disk.specs.Whole_logs.{AreWholeLogs}
use Rattle.sound_appends.proofs.Left.{drawn_more, differ_tail, differ_front, differ_back, AreLeft, are_left}
use Rattle.sound_plans.specs.Queues.{has_log, records_for}
use Rattle.sound_plans.proofs.Neat.{AreNeat, are_neat}

-- ---- each log

pub record IsSoundLog (log : Log) : Type 0 where
  pub allowed : AllByRecursion IsAllowed log.records
  pub follow : EachFollows [] log.records
  pub differ : all_differ (drawn_numbers log.records) ≡ true
  pub left : AreLeft log.records
  pub neat : AreNeat log.records

sound_from : (m : ℕ) (bytes : List (List ℕ)) (logs : List Log) → AreWholeLogs m bytes logs → AllByRecursion (λ (l : Log). EachFollows [] l.records) logs → all_differ (drawn_numbers (all_records logs)) ≡ true → AllByRecursion IsSoundLog logs
sound_from m [] [] w f differ = tt
sound_from m [] (log ∷ logs) w f differ = absurd w
sound_from m (b ∷ bytes) [] w f differ = absurd w
sound_from m (b ∷ bytes) (log ∷ logs) w f differ =
    let parts : all_differ (drawn_numbers log.records ++ drawn_numbers (all_records logs)) ≡ true = subst (λ (ns : List ℕ). all_differ ns ≡ true) (drawn_more log.records (all_records logs)) differ in
    let own : all_differ (drawn_numbers log.records) ≡ true = differ_front (drawn_numbers log.records) (drawn_numbers (all_records logs)) parts in (
      record {
        allowed = w.0.records_are.allowed;
        follow = f.0;
        differ = own;
        left = are_left log.records f.0 own;
        neat = are_neat log.records w.0.records_are.allowed f.0 w.0.rising own;
      },
      sound_from (m + 1) bytes logs w.1 f.1 (differ_back (drawn_numbers log.records) (drawn_numbers (all_records logs)) parts),
    )

pub all_numbers : (logs : List Log) → AreTransactions logs → all_differ (drawn_numbers (all_records logs)) ≡ true
all_numbers logs t = (differ_tail 0 (drawn_numbers (all_records logs)) t.numbers).1

pub each_sound : (bytes : List (List ℕ)) (logs : List Log) → AreWholeLogs 1 bytes logs → AreTransactions logs → AllByRecursion IsSoundLog logs
each_sound bytes logs w t = sound_from 1 bytes logs w t.follow (all_numbers logs t)

-- ---- members

-- the records of the log are those of its member
pub record IsHome (logs : List Log) (log : Log) : Type 0 where
  pub has : has_log logs log.member ≡ true
  pub records_are : records_for logs log.member ≡ log.records

home_first : (log : Log) (logs : List Log) → IsHome (log ∷ logs) log
home_first log logs = record {
  has = or_left (log.member == log.member) (has_log logs log.member) (eq-eqb log.member log.member refl);
  records_are = ap (λ (b : Bool). cond b log.records (records_for logs log.member)) (eq-eqb log.member log.member refl);
}

home_later : (x : Log) (logs : List Log) (log : Log) → (x.member == log.member) ≡ false → IsHome logs log → IsHome (x ∷ logs) log
home_later x logs log other h = record {
  has = or_right (x.member == log.member) (has_log logs log.member) h.has;
  records_are = ap (λ (b : Bool). cond b x.records (records_for logs log.member)) other ∙ h.records_are;
}

-- of each of these logs
Homes : List Log → List Log → Type 0
Homes all logs = AllByRecursion (λ (l : Log). IsHome all l) logs

homes_later : (x : Log) (all : List Log) (m : ℕ) (bytes : List (List ℕ)) (logs : List Log) → AreWholeLogs m bytes logs → x.member < m → Homes all logs → Homes (x ∷ all) logs
unfolding Homes
homes_later x all m [] [] w low h = tt
homes_later x all m [] (log ∷ logs) w low h = absurd w
homes_later x all m (b ∷ bytes) [] w low h = absurd w
homes_later x all m (b ∷ bytes) (log ∷ logs) w low h =
    let is = w.0.member_is in
    (home_later x all log (ne_eqb x.member log.member (λ e. omega (arith, is, low, e))) h.0, homes_later x all (m + 1) bytes logs w.1 (omega (arith, low)) h.1)

homes_from : (m : ℕ) (bytes : List (List ℕ)) (logs : List Log) → AreWholeLogs m bytes logs → Homes logs logs
unfolding Homes
homes_from m [] [] w = tt
homes_from m [] (log ∷ logs) w = absurd w
homes_from m (b ∷ bytes) [] w = absurd w
homes_from m (b ∷ bytes) (log ∷ logs) w = let is = w.0.member_is in (home_first log logs, homes_later log logs (m + 1) bytes logs w.1 (omega (arith, is)) (homes_from (m + 1) bytes logs w.1))

pub each_home : (bytes : List (List ℕ)) (logs : List Log) → AreWholeLogs 1 bytes logs → AllByRecursion (λ (l : Log). IsHome logs l) logs
unfolding Homes
each_home bytes logs w = homes_from 1 bytes logs w
