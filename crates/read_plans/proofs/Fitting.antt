-- The closings and the queue of the plan of what was read fit the logs whole.
use Rattle.std.proofs.Common.{◌≡◌, ℕ, ◌+◌, Bool, true, false, cond, List, [], ◌∷◌, ◌++◌, length, map, reverse, inl, inr, refl, sym, ap, subst, ◌∙◌, arith}
use Rattle.std.specs.Prelude.{◌⊎◌, ◌==◌, ◌||◌, ◌&&◌, filter}
use Rattle.std.specs.List.{list_any, AllByRecursion}
use Rattle.std.specs.FinMap.{entries}
use Rattle.std.proofs.lemmas.List.{append-nil}
use Rattle.ds_disk.specs.Contents.{Contents}
use Rattle.ds_model.specs.declared.log.LogRecord.{LogRecord}
use Rattle.ds_model.specs.RecordBytes.{log_bytes}
use Rattle.log_record.specs.declared.log.Log.{Log}
use Rattle.log_trans.specs.declared.course.Course.{Course}
use Rattle.log_merge.specs.Merging.{all_records}
use Rattle.restart_plan.specs.declared.opened.Closing.{Closing}
use Rattle.restart_plan.specs.declared.opened.Opened.{Opened}
use Rattle.restart_plan.specs.declared.opened.Undo.{Undo}
use Rattle.restart_plan.specs.Opened.{nothing_open, with_log, with_logs}
use Rattle.restart_plan.specs.Plans.{plan_of}
use Rattle.restart_plan.specs.Values.{falling}
use Rattle.sound_disk.specs.Laws.{last_number, records_of}
use Rattle.sound_disk.specs.Sound.{IsSoundWith}
use Rattle.sound_disk.specs.Transactions.{drawn_numbers, all_differ, stands_apart, stand_apart, EachFollows, AreTransactions}
use Rattle.sound_disk.specs.Whole_logs.{AreWholeLogs}
use Rattle.sound_plans.specs.Opens.{course_of}
use Rattle.sound_plans.specs.Plans.{ClosingsOfPlanFit, QueueOfPlanFits}
use Rattle.sound_plans.specs.Queues.{has_log, records_for, undos, CanClose, ClosingsFit, IsOwnChange, IsQueueOf, is_of, QueueFits}
use Rattle.sound_reads.specs.Reads.{AreReadOf}
use Rattle.sound_reads.specs.Laws.{ReadsStandApart}
use Rattle.sound_reads.proofs.Fewer.{AreSoundReads, all_sound}
use Rattle.read_plans.specs.Courses.{Settles, Tells, CoursesAreRead}
use Rattle.read_plans.specs.Fits.{ClosingsReadFit, QueueReadFits, members_of, HaveSameRecords, FitsGoOn}
use Rattle.read_plans.proofs.Members.{reads_have, same_last, tells_number}

-- ---- from logs to others that tell the same

-- of the transactions of a member these logs tell what the others do, or nothing where nothing is to be done
record IsTurned (logs others : List Log) (member tran : ℕ) : Type 0 where
  has : has_log logs member ≡ has_log others member
  tells : Tells (records_for others member) (records_for logs member) tran

none_undone : (c : Course) → c.undone ≡ [] → (length c.undone == 0) ≡ false → ⊥
none_undone c e h = let k : true ≡ false = ap (λ (us : List LogRecord). length us == 0) (sym e) ∙ h in cc

turn_closing : (logs others : List Log) (c : Closing) → IsTurned logs others c.member c.tran → last_number 0 (records_for logs c.member) ≡ last_number 0 (records_for others c.member) → CanClose logs c → CanClose others c
turn_closing logs others c t last h = elim t.tells as (λ _. CanClose others c) [
  | inl same ↦ record {
    has = sym t.has ∙ h.has;
    number = h.number ∙ last;
    undone = ap (λ (d : Course). length d.undo) (sym same) ∙ h.undone;
    some = ap (λ (d : Course). length d.undone == 0) (sym same) ∙ h.some;
    allowed = h.allowed;
  }
  | inr none ↦ absurd (none_undone (course_of (records_for logs c.member) c.tran) (ap (λ (d : Course). d.undone) none.0) h.some)
]

turn_closings : (logs others : List Log) → ((member tran : ℕ) → IsTurned logs others member tran) → ((member : ℕ) → last_number 0 (records_for logs member) ≡ last_number 0 (records_for others member)) → (cs : List Closing) → ClosingsFit logs cs → ClosingsFit others cs
turn_closings logs others t last [] h = tt
turn_closings logs others t last (c ∷ cs) h = (turn_closing logs others c (t c.member c.tran) (last c.member) h.0, turn_closings logs others t last cs h.1)

-- the changes of one transaction
abbrev FitsOne : List Log → ℕ → ℕ → List Undo → Type 0
FitsOne logs m t us = ((us ≡ []) × Settles (records_for logs m) t) ⊎ IsQueueOf logs m t us

abbrev SettlesBy : Course → Type 0
SettlesBy c = (c.is_committed ≡ true) ⊎ (c.undo ≡ [])

turn_queue : (logs others : List Log) (m t : ℕ) (us : List Undo) → has_log logs m ≡ has_log others m → Tells (records_for others m) (records_for logs m) t → FitsOne logs m t us → FitsOne others m t us
turn_queue logs others m t us has (inl same) (inl q) = inl (q.0, subst SettlesBy same q.1)
turn_queue logs others m t us has (inr none) (inl q) = inl (q.0, none.1)
turn_queue logs others m t us has (inl same) (inr q) = inr (record {
  has = sym has ∙ q.has;
  uncommitted = ap (λ (d : Course). d.is_committed) (sym same) ∙ q.uncommitted;
  own = subst (λ (d : Course). AllByRecursion (IsOwnChange t) d.undo) same q.own;
  is = q.is ∙ ap (λ (d : Course). reverse (undos m t true d.undo)) same;
})
turn_queue logs others m t us has (inr none) (inr q) = inl (q.is ∙ ap (λ (d : Course). reverse (undos m t true d.undo)) none.0, none.1)

turn_queues : (logs others : List Log) → ((member tran : ℕ) → IsTurned logs others member tran) → (us : List Undo) → QueueFits logs us → QueueFits others us
turn_queues logs others turned us h = λ m t. turn_queue logs others m t (filter (is_of m t) us) (turned m t).has (turned m t).tells (h m t)

-- ---- logs that have just the records that were read

abbrev pub alone : Log → Log
alone read = record { member = read.member; records = read.records; length = length (log_bytes read.records); tail = 0 }

abbrev pub bytes_alone : Log → List ℕ
bytes_alone read = log_bytes read.records

are_alone : (member : ℕ) (bytes : List (List ℕ)) (logs reads : List Log) → AreWholeLogs member bytes logs → AreSoundReads logs reads → AreWholeLogs member (map bytes_alone reads) (map alone reads)
are_alone member [] [] [] whole h = tt
are_alone member [] [] (r ∷ rs) whole h = absurd h
are_alone member [] (l ∷ ls) reads whole h = absurd whole
are_alone member (b ∷ bs) [] reads whole h = absurd whole
are_alone member (b ∷ bs) (l ∷ ls) [] whole h = absurd h
are_alone member (b ∷ bs) (l ∷ ls) (r ∷ rs) whole h = (
  record {
    member_is = h.0.is.member_is ∙ whole.0.member_is;
    records_are = record { tail = []; whole = sym (append-nil (log_bytes r.records)); allowed = h.0.allowed; torn = inl refl };
    length_is = refl;
    tail_is = omega arith;
    rising = h.0.rises;
  },
  are_alone (member + 1) bs ls rs whole.1 h.1,
)

alone_all : (reads : List Log) → all_records (map alone reads) ≡ all_records reads
alone_all [] = refl
alone_all (r ∷ rs) = ap (λ (xs : List LogRecord). r.records ++ xs) (alone_all rs)

alone_apart : (reads : List Log) → stand_apart (map alone reads) ≡ stand_apart reads
alone_apart [] = refl
alone_apart (r ∷ rs) = ap (λ (xs : List LogRecord). stands_apart r.records xs && stand_apart (map alone rs)) (alone_all rs) ∙ ap (λ (b : Bool). stands_apart r.records (all_records rs) && b) (alone_apart rs)

alone_follow : (reads : List Log) → AllByRecursion (λ (l : Log). EachFollows [] l.records) reads → AllByRecursion (λ (l : Log). EachFollows [] l.records) (map alone reads)
alone_follow [] h = tt
alone_follow (r ∷ rs) h = (h.0, alone_follow rs h.1)

alone_transactions : (reads : List Log) → AreTransactions reads → AreTransactions (map alone reads)
alone_transactions reads h = record {
  numbers = ap (λ (xs : List LogRecord). all_differ (0 ∷ drawn_numbers xs)) (alone_all reads) ∙ h.numbers;
  homes = alone_apart reads ∙ h.homes;
  follow = alone_follow reads h.follow;
}

pub alone_opened : (o : Opened) (reads : List Log) → with_logs o (map alone reads) ≡ with_logs o reads
alone_opened o [] = refl
alone_opened o (r ∷ rs) = alone_opened (with_log o r) rs

alone_have : (reads : List Log) (m : ℕ) → has_log (map alone reads) m ≡ has_log reads m
alone_have [] m = refl
alone_have (r ∷ rs) m = ap (λ (b : Bool). (r.member == m) || b) (alone_have rs m)

pub alone_records : (reads : List Log) (m : ℕ) → records_for (map alone reads) m ≡ records_for reads m
alone_records [] m = refl
alone_records (r ∷ rs) m = ap (λ (xs : List LogRecord). cond (r.member == m) r.records xs) (alone_records rs m)

-- ---- the plan of what was read

module _ (told : CoursesAreRead) (apart : ReadsStandApart) (c : Contents) (logs reads : List Log) (h : IsSoundWith c logs) (are : AreReadOf logs reads) where
  pub whole_alone : AreWholeLogs 1 (map bytes_alone reads) (map alone reads)
  whole_alone = are_alone 1 c.logs logs reads h.whole_logs (all_sound 1 c.logs logs reads h.whole_logs h.transactions.follow are)

  pub fit_alone : AreTransactions (map alone reads)
  fit_alone = alone_transactions reads (apart c logs h reads are)

  alone_turned : (m t : ℕ) → IsTurned (map alone reads) logs m t
  alone_turned m t = record {
    has = alone_have reads m ∙ reads_have logs reads m are;
    tells = subst (λ (rs : List LogRecord). Tells (records_for logs m) rs t) (sym (alone_records reads m)) (told c logs reads m t h are);
  }

  alone_last : (m : ℕ) → last_number 0 (records_for (map alone reads) m) ≡ last_number 0 (records_for logs m)
  alone_last m = ap (last_number 0) (alone_records reads m) ∙ same_last {X = ℕ} (last_number 0) tells_number logs reads m are

pub closings_read_fit : CoursesAreRead → ReadsStandApart → ClosingsOfPlanFit → ClosingsReadFit
unfolding plan_of
closings_read_fit told apart law c logs reads h are =
    turn_closings (map alone reads) logs (alone_turned told apart c logs reads h are) (alone_last told apart c logs reads h are) (with_logs nothing_open reads).closings
    (subst (ClosingsFit (map alone reads)) (ap (λ (o : Opened). o.closings) (alone_opened nothing_open reads))
    (law (map bytes_alone reads) (map alone reads) (whole_alone told apart c logs reads h are) (fit_alone told apart c logs reads h are)))

pub queue_read_fits : CoursesAreRead → ReadsStandApart → QueueOfPlanFits → QueueReadFits
unfolding plan_of
queue_read_fits told apart law c logs reads h are =
    turn_queues (map alone reads) logs (alone_turned told apart c logs reads h are) (falling (entries (with_logs nothing_open reads).undo))
    (subst (QueueFits (map alone reads)) (ap (λ (o : Opened). falling (entries o.undo)) (alone_opened nothing_open reads))
    (law (map bytes_alone reads) (map alone reads) (whole_alone told apart c logs reads h are) (fit_alone told apart c logs reads h are)))

-- ---- logs with the same records

any_member : (logs : List Log) (m : ℕ) → has_log logs m ≡ list_any (λ (n : ℕ). n == m) (members_of logs)
any_member [] m = refl
any_member (l ∷ ls) m = ap (λ (b : Bool). (l.member == m) || b) (any_member ls m)

records_among : List ℕ → List (List LogRecord) → ℕ → List LogRecord
records_among [] rss m = []
records_among (n ∷ ns) [] m = []
records_among (n ∷ ns) (rs ∷ rss) m = cond (n == m) rs (records_among ns rss m)

are_among : (logs : List Log) (m : ℕ) → records_for logs m ≡ records_among (members_of logs) (records_of logs) m
unfolding records_among
are_among [] m = refl
are_among (l ∷ ls) m = ap (λ (xs : List LogRecord). cond (l.member == m) l.records xs) (are_among ls m)

same_records : (logs others : List Log) (m : ℕ) → HaveSameRecords logs others → records_for logs m ≡ records_for others m
same_records logs others m h =
    are_among logs m
    ∙ ap (λ (ns : List ℕ). records_among ns (records_of logs) m) h.members
    ∙ ap (λ (rss : List (List LogRecord)). records_among (members_of others) rss m) h.records
    ∙ sym (are_among others m)

same_turned : (logs others : List Log) → HaveSameRecords logs others → (m t : ℕ) → IsTurned logs others m t
same_turned logs others h m t = record {
  has = any_member logs m ∙ ap (λ (ns : List ℕ). list_any (λ (n : ℕ). n == m) ns) h.members ∙ sym (any_member others m);
  tells = inl (ap (λ (rs : List LogRecord). course_of rs t) (same_records logs others m h));
}

pub fits_go_on : FitsGoOn
fits_go_on = record {
  closings = λ logs others cs h fit. turn_closings logs others (same_turned logs others h) (λ m. ap (last_number 0) (same_records logs others m h)) cs fit;
  queue = λ logs others us h fit. turn_queues logs others (same_turned logs others h) us fit;
}
