-- The clauses that speak of records alone hold of all logs with the same records.
use Rattle.std.proofs.Common.{◌≡◌, ◌+◌, ◌*◌, ◌^◌, ◌<◌, Bool, true, List, [], ◌∷◌, ◌++◌, length, refl, sym, ap, subst, ◌∙◌}
use Rattle.std.specs.Prelude.{◌&&◌}
use Rattle.std.specs.List.{AllByRecursion}
use Rattle.ds_base.specs.Ids.{lrsn_width}
use Rattle.ds_model.specs.declared.log.LogRecord.{LogRecord}
use Rattle.log_record.specs.declared.log.Log.{Log}
use Rattle.log_trans.specs.Numbers.{greatest}
use Rattle.log_merge.specs.Merging.{all_records, in_order}
use Rattle.sound_disk.specs.Transactions.{drawn_numbers, all_differ, stands_apart, stand_apart, EachFollows}
use Rattle.sound_disk.specs.Turns.{are_in_turn}
use Rattle.sound_disk.specs.Numbers_left.{open_changes}
use Rattle.sound_disk.specs.Laws.{records_of}
use Rattle.sound_appends.specs.Laws.{AreSoundLogs}

abbrev first_of_lists : List (List LogRecord) → List LogRecord
first_of_lists [] = []
first_of_lists (x ∷ xs) = x

abbrev rest_of_lists : List (List LogRecord) → List (List LogRecord)
rest_of_lists [] = []
rest_of_lists (x ∷ xs) = xs

same_all : (logs others : List Log) → records_of logs ≡ records_of others → all_records logs ≡ all_records others
same_all [] [] e = refl
same_all [] (y ∷ ys) e = absurd cc
same_all (x ∷ xs) [] e = absurd cc
same_all (x ∷ xs) (y ∷ ys) e =
    ap (λ (rs : List LogRecord). rs ++ all_records xs) (ap first_of_lists e) ∙ ap (λ (rs : List LogRecord). y.records ++ rs) (same_all xs ys (ap rest_of_lists e))

same_apart : (logs others : List Log) → records_of logs ≡ records_of others → stand_apart logs ≡ stand_apart others
same_apart [] [] e = refl
same_apart [] (y ∷ ys) e = absurd cc
same_apart (x ∷ xs) [] e = absurd cc
same_apart (x ∷ xs) (y ∷ ys) e =
    ap (λ (rs : List LogRecord). stands_apart rs (all_records xs) && stand_apart xs) (ap first_of_lists e)
    ∙ ap (λ (rs : List LogRecord). stands_apart y.records rs && stand_apart xs) (same_all xs ys (ap rest_of_lists e))
    ∙ ap (λ (b : Bool). stands_apart y.records (all_records ys) && b) (same_apart xs ys (ap rest_of_lists e))

same_follow : (logs others : List Log) → records_of logs ≡ records_of others → AllByRecursion (λ (l : Log). EachFollows [] l.records) logs → AllByRecursion (λ (l : Log). EachFollows [] l.records) others
same_follow [] [] e h = tt
same_follow [] (y ∷ ys) e h = absurd cc
same_follow (x ∷ xs) [] e h = absurd cc
same_follow (x ∷ xs) (y ∷ ys) e h = (subst (EachFollows []) (ap first_of_lists e) h.0, same_follow xs ys (ap rest_of_lists e) h.1)

abbrev numbers_left : List LogRecord → Type 0
numbers_left rs = greatest rs + length (open_changes rs) < 2 ^ (8 * lrsn_width)

pub same_keep : (logs others : List Log) → records_of logs ≡ records_of others → AreSoundLogs logs → AreSoundLogs others
same_keep logs others e h =
    let all = same_all logs others e in
    record {
      transactions = record {
        numbers = subst (λ (rs : List LogRecord). all_differ (0 ∷ drawn_numbers rs) ≡ true) all h.transactions.numbers;
        homes = sym (same_apart logs others e) ∙ h.transactions.homes;
        follow = same_follow logs others e h.transactions.follow;
      };
      turns = subst (λ (rs : List LogRecord). are_in_turn [] (in_order rs) ≡ true) all h.turns;
      numbers = subst numbers_left all h.numbers;
    }
