-- No damage is found in what was read of the logs of a sound disk.
use Rattle.std.proofs.Common.{◌≡◌, ℕ, ◌+◌, ◌≤◌, Bool, true, List, [], ◌∷◌, ◌++◌, length, map, Option, None, inl, inr, refl, sym, ap, subst, ◌∙◌, arith}
use Rattle.std.specs.Prelude.{◌&&◌, max}
use Rattle.std.specs.List.{AllByRecursion}
use Rattle.std.specs.FinMap.{empty}
use Rattle.std.proofs.lemmas.List.{length-append, append-nil}
use Rattle.std.proofs.lemmas.Grind.{flat_map-append}
use Rattle.ds_disk.specs.Pages.{page_at}
use Rattle.ds_model.specs.declared.log.LogRecord.{LogRecord}
use Rattle.ds_model.specs.RecordBytes.{record_bytes, log_bytes}
use Rattle.log_record.specs.declared.log.Log.{Log}
use Rattle.log_merge.specs.Merging.{all_records, RisesFrom}
use Rattle.log_reader.specs.Begin.{begin_of}
use Rattle.log_trans.specs.declared.known.Known.{Known}
use Rattle.log_trans.specs.declared.damage.Damaged.{Damaged}
use Rattle.log_trans.specs.Damage.{damage_in, damage_among, goes_on, nothing_known, log_damage}
use Rattle.log_trans.specs.Numbers.{greatest}
use Rattle.checkpoint_offsets.specs.Offsets.{fault_from, fault_in, all_own, or_later, offset_damage, earlier}
use Rattle.checkpoint_offsets.proofs.Own.{none_of_own}
use Rattle.group_restart.specs.Course.{placed, found_damage}
use Rattle.page_images.specs.Images.{Images}
use Rattle.sound_disk.specs.Checkpoints.{AreCheckpointed}
use Rattle.sound_disk.specs.Laws.{HaveNoDamage}
use Rattle.sound_disk.specs.Transactions.{drawn_numbers, all_differ, stands_apart, stand_apart, EachFollows, AreTransactions}
use Rattle.sound_disk.specs.Whole_logs.{AreWholeLogs}
use Rattle.sound_restarts.proofs.Undamaged.{behind_is, no_fault, no_places}
use Rattle.sound_reads.specs.Reads.{MayBeginAt, IsReadOf, AreReadOf}
use Rattle.sound_reads.specs.Laws.{ReadsStandApart, FindsNoDamage, HaveGreatest}
use Rattle.sound_reads.proofs.Apart.{all_low}
use Rattle.sound_reads.proofs.Fewer.{AreSoundReads, all_sound, are_transactions}

-- ---- numbers

-- a log that has just the records that were read
abbrev alone : Log → Log
alone read = record { member = read.member; records = read.records; length = length (log_bytes read.records); tail = 0 }

abbrev bytes_alone : Log → List ℕ
bytes_alone read = log_bytes read.records

same_damage : (known : Known) (reads : List Log) → damage_among known (map alone reads) ≡ damage_among known reads
same_damage known [] = refl
same_damage known (r ∷ rs) = ap (λ (f : Known → Option Damaged). goes_on f r.member (damage_in known r)) (λ i k. same_damage k rs i)

are_alone : (member : ℕ) (bytes : List (List ℕ)) (logs reads : List Log) → AreWholeLogs member bytes logs → AreSoundReads logs reads → AreWholeLogs member (map bytes_alone reads) (map alone reads)
are_alone member [] [] [] whole h = tt
are_alone member [] [] (r ∷ rs) whole h = absurd h
are_alone member [] (l ∷ ls) reads whole h = absurd whole
are_alone member (b ∷ bs) [] reads whole h = absurd whole
are_alone member (b ∷ bs) (l ∷ ls) [] whole h = absurd h
are_alone member (b ∷ bs) (l ∷ ls) (r ∷ rs) whole h = (
  record {
    member_is = h.0.is.member_is ∙ whole.0.member_is;
    records_are = record { tail = []; whole = sym (append-nil (log_bytes r.records)); allowed = h.0.allowed; torn = inl refl };
    length_is = refl;
    tail_is = omega arith;
    rising = h.0.rises;
  },
  are_alone (member + 1) bs ls rs whole.1 h.1,
)

alone_all : (reads : List Log) → all_records (map alone reads) ≡ all_records reads
alone_all [] = refl
alone_all (r ∷ rs) = ap (λ (xs : List LogRecord). r.records ++ xs) (alone_all rs)

alone_apart : (reads : List Log) → stand_apart (map alone reads) ≡ stand_apart reads
alone_apart [] = refl
alone_apart (r ∷ rs) = ap (λ (xs : List LogRecord). stands_apart r.records xs && stand_apart (map alone rs)) (alone_all rs) ∙ ap (λ (b : Bool). stands_apart r.records (all_records rs) && b) (alone_apart rs)

alone_follow : (reads : List Log) → AllByRecursion (λ (l : Log). EachFollows [] l.records) reads → AllByRecursion (λ (l : Log). EachFollows [] l.records) (map alone reads)
alone_follow [] h = tt
alone_follow (r ∷ rs) h = (h.0, alone_follow rs h.1)

same_transactions : (reads : List Log) → AreTransactions reads → AreTransactions (map alone reads)
same_transactions reads h = record {
  numbers = ap (λ (xs : List LogRecord). all_differ (0 ∷ drawn_numbers xs)) (alone_all reads) ∙ h.numbers;
  homes = alone_apart reads ∙ h.homes;
  follow = alone_follow reads h.follow;
}

no_number : HaveNoDamage → (bytes : List (List ℕ)) (logs reads : List Log) → AreWholeLogs 1 bytes logs → AreSoundReads logs reads → AreTransactions reads → log_damage reads ≡ None
no_number none bytes logs reads whole h t = sym (same_damage nothing_known reads) ∙ none (map bytes_alone reads) (map alone reads) (are_alone 1 bytes logs reads whole h) (same_transactions reads t)

-- ---- offsets

begins_behind : (log read : Log) (front : List LogRecord) → read.length ≡ log.length → log.length ≡ length (log_bytes log.records) → log.records ≡ front ++ read.records → begin_of read ≡ length (log_bytes front)
begins_behind log read front same size are =
    let b = behind_is 0 read.records in
    let all : length (log_bytes log.records) ≡ length (log_bytes front) + length (log_bytes read.records) =
    ap (λ (rs : List LogRecord). length (log_bytes rs)) are ∙ ap (λ (bs : List ℕ). length bs) (flat_map-append record_bytes front read.records) ∙ length-append (log_bytes front) (log_bytes read.records) in
    omega (arith, b, same, size, all)

own_if : (place : ℕ) (rs : List LogRecord) → MayBeginAt place rs → all_own place rs ≡ true
own_if place [] h = absurd h
own_if place (r ∷ rs) h = h.own

no_offset : (at : Images) (member : ℕ) (bytes : List (List ℕ)) (logs reads : List Log) → AreWholeLogs member bytes logs → AreReadOf logs reads → AreCheckpointed at logs → offset_damage reads ≡ None
no_offset at member [] [] [] whole h c = refl
no_offset at member [] [] (r ∷ rs) whole h c = absurd h
no_offset at member [] (l ∷ ls) reads whole h c = absurd whole
no_offset at member (b ∷ bs) [] reads whole h c = absurd whole
no_offset at member (b ∷ bs) (l ∷ ls) [] whole h c = absurd h
no_offset at member (b ∷ bs) (l ∷ ls) (r ∷ rs) whole h c =
    let begin : begin_of r ≡ length (log_bytes h.0.front) = begins_behind l r h.0.front h.0.length_is whole.0.length_is h.0.records_are in
    let none : fault_in r ≡ None = elim h.0.begins as (λ _. fault_in r ≡ None) [
      | inl e ↦
          let zero : begin_of r ≡ 0 = begin ∙ ap (λ (xs : List LogRecord). length (log_bytes xs)) e in
          let all : l.records ≡ r.records = h.0.records_are ∙ ap (λ (xs : List LogRecord). xs ++ r.records) e in
          ap (λ (n : ℕ). fault_from empty n r.records) zero ∙ ap (fault_from empty 0) (sym all) ∙ no_fault empty [] 0 l.records no_places c.0.offsets
      | inr may ↦ none_of_own r (ap (λ (n : ℕ). all_own n r.records) begin ∙ own_if (length (log_bytes h.0.front)) r.records may)
    ] in
    ap (or_later (offset_damage rs) r.member) none ∙ no_offset at (member + 1) bs ls rs whole.1 h.1 c.1

pub reads_stand_apart : ReadsStandApart
reads_stand_apart c logs h reads are = are_transactions logs reads are (all_sound 1 c.logs logs reads h.whole_logs h.transactions.follow are) h.transactions

pub finds_no_damage : HaveNoDamage → FindsNoDamage
unfolding found_damage
finds_no_damage none c logs reads h are =
    let sound = all_sound 1 c.logs logs reads h.whole_logs h.transactions.follow are in
    ap (λ (o : Option Damaged). earlier (placed reads o) (offset_damage reads)) (no_number none c.logs logs reads h.whole_logs sound (are_transactions logs reads are sound h.transactions))
    ∙ no_offset (page_at c.pages) 1 c.logs logs reads h.whole_logs are h.checkpoints

-- ---- the greatest number

greatest_append : (xs ys : List LogRecord) → greatest (xs ++ ys) ≡ max (greatest xs) (greatest ys)
greatest_append [] ys = omega arith
greatest_append (x ∷ xs) ys = let ih = greatest_append xs ys in omega (arith, ih)

greatest_within : (n : ℕ) (xs : List LogRecord) → AllByRecursion (λ (x : LogRecord). x.lrsn ≤ n) xs → greatest xs ≤ n
greatest_within n [] h = omega arith
greatest_within n (x ∷ xs) h = let one = h.0 in let more = greatest_within n xs h.1 in omega (arith, one, more)

begins_greatest : (place : ℕ) (front rest : List LogRecord) → RisesFrom 0 (front ++ rest) → MayBeginAt place rest → greatest (front ++ rest) ≡ greatest rest
begins_greatest place front [] rises h = absurd h
begins_greatest place front (r ∷ rs) rises h =
    let low = greatest_within r.lrsn front (all_low 0 r.lrsn front r rs rises refl).1 in
    let both = greatest_append front (r ∷ rs) in
    omega (arith, low, both)

one_greatest : (log read : Log) → RisesFrom 0 log.records → IsReadOf log read → greatest log.records ≡ greatest read.records
one_greatest log read rises h =
    let up : RisesFrom 0 (h.front ++ read.records) = subst (RisesFrom 0) h.records_are rises in
    elim h.begins as (λ _. greatest log.records ≡ greatest read.records) [
      | inl e ↦ ap greatest (h.records_are ∙ ap (λ (xs : List LogRecord). xs ++ read.records) e)
      | inr may ↦ ap greatest h.records_are ∙ begins_greatest (length (log_bytes h.front)) h.front read.records up may
    ]

all_greatest : (member : ℕ) (bytes : List (List ℕ)) (logs reads : List Log) → AreWholeLogs member bytes logs → AreReadOf logs reads → greatest (all_records reads) ≡ greatest (all_records logs)
all_greatest member [] [] [] whole h = refl
all_greatest member [] [] (r ∷ rs) whole h = absurd h
all_greatest member [] (l ∷ ls) reads whole h = absurd whole
all_greatest member (b ∷ bs) [] reads whole h = absurd whole
all_greatest member (b ∷ bs) (l ∷ ls) [] whole h = absurd h
all_greatest member (b ∷ bs) (l ∷ ls) (r ∷ rs) whole h =
    let one = one_greatest l r whole.0.rising h.0 in
    let more = all_greatest (member + 1) bs ls rs whole.1 h.1 in
    let here = greatest_append r.records (all_records rs) in
    let there = greatest_append l.records (all_records ls) in
    omega (arith, one, more, here, there)

pub have_greatest : HaveGreatest
have_greatest c logs reads h are = all_greatest 1 c.logs logs reads h.whole_logs are
