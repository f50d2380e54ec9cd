-- Several records that are appended to one member's log, whole or cut short, keep what each of them keeps.
use Rattle.std.proofs.Common.{◌≡◌, ℕ, zero, suc, ◌+◌, ◌-◌, ◌<◌, List, [], ◌∷◌, ◌++◌, length, take, map, get_or, set, inl, inr, refl, sym, ap, subst, ◌∙◌, arith, append_assoc}
use Rattle.std.specs.List.{flat_map}
use Rattle.std.proofs.lemmas.Bool.{cases_lt}
use Rattle.std.proofs.lemmas.List.{append-nil, take-append-le, set-set, set-get_or, get_or-set_same}
use Rattle.ds_disk.specs.Contents.{Contents, log_of, with_log}
use Rattle.ds_model.specs.declared.log.LogRecord.{LogRecord}
use Rattle.ds_model.specs.RecordBytes.{record_bytes, log_bytes}
use Rattle.log_record.specs.declared.log.Log.{Log}
use Rattle.log_merge.specs.Merging.{all_records, in_order}
use Rattle.page_images.specs.Images.{Images}
use Rattle.sound_disk.specs.Whole_logs.{AreWholeLogs}
use Rattle.sound_disk.specs.Laws.{records_of, with_record, with_tail}
use Rattle.sound_appends.specs.Appends.{Appends, AppendsAll}
use Rattle.sound_appends.specs.Laws.{KeepsWhole, TornKeepsWhole, HaveNoTails}
use Rattle.sound_tables.specs.Keeping.{IsSettledBefore, AreSettledBefore}

-- ---- bytes

nothing_more : (n : ℕ) → 0 + n ≡ n
nothing_more n = omega arith

one_more : (a n : ℕ) → suc a + n ≡ suc (a + n)
one_more a n = omega arith

none_taken : (n : ℕ) → take {A = ℕ} n [] ≡ []
none_taken zero = refl
none_taken (suc n) = refl

take_front : (n : ℕ) (xs ys : List ℕ) → take (length xs + n) (xs ++ ys) ≡ xs ++ take n ys
take_front n [] ys = ap (λ (k : ℕ). take k ys) (nothing_more n)
take_front n (x ∷ xs) ys =
    ap (λ (k : ℕ). take k (x ∷ (xs ++ ys))) (one_more (length xs) n) ∙ ap (λ (l : List ℕ). x ∷ l) (take_front n xs ys)

-- ---- tails

no_tail_at : (front : List Log) (log : Log) (back : List Log) → HaveNoTails (front ++ log ∷ back) → log.tail ≡ 0
no_tail_at [] log back h = h.0
no_tail_at (x ∷ xs) log back h = no_tail_at xs log back h.1

no_tails_with : (front : List Log) (log : Log) (back : List Log) (r : LogRecord) → HaveNoTails (front ++ log ∷ back) → HaveNoTails (front ++ with_record log r ∷ back)
no_tails_with [] log back r h = h
no_tails_with (x ∷ xs) log back r h = (h.0, no_tails_with xs log back r h.1)

no_tails_after : (logs after : List Log) (r : LogRecord) → Appends logs r after → HaveNoTails logs → HaveNoTails after
no_tails_after logs after r h t = subst HaveNoTails (sym h.after_are) (no_tails_with h.front h.log h.back r (subst HaveNoTails h.logs_are t))

no_tail_of : (logs after : List Log) (r : LogRecord) (h : Appends logs r after) → HaveNoTails logs → h.log.tail ≡ 0
no_tail_of logs after r h t = no_tail_at h.front h.log h.back (subst HaveNoTails h.logs_are t)

same_records : (front : List Log) (log : Log) (back : List Log) (n : ℕ) → records_of (front ++ log ∷ back) ≡ records_of (front ++ with_tail log n ∷ back)
same_records [] log back n = refl
same_records (x ∷ xs) log back n = ap (λ (l : List (List LogRecord)). x.records ∷ l) (same_records xs log back n)

-- ---- the log of a member of whole logs

placed_in : (m : ℕ) (bytes : List (List ℕ)) (front : List Log) (log : Log) (back : List Log) → AreWholeLogs m bytes (front ++ log ∷ back) → (log.member ≡ m + length front) × (length front < length bytes)
placed_in m [] [] log back h = absurd h
placed_in m [] (x ∷ xs) log back h = absurd h
placed_in m (b ∷ bs) [] log back h = let is = h.0.member_is in (omega (arith, is), omega arith)
placed_in m (b ∷ bs) (x ∷ xs) log back h = let p = placed_in (m + 1) bs xs log back h.1 in let first = p.0 in let second = p.1 in (omega (arith, first), omega (arith, second))

-- what was put in the place of a log is put in its place again
put_twice : (bytes : List (List ℕ)) (i : ℕ) (xs ys : List ℕ) → i < length bytes → set (set bytes i (get_or bytes i [] ++ xs)) i (get_or (set bytes i (get_or bytes i [] ++ xs)) i [] ++ ys) ≡ set bytes i (get_or bytes i [] ++ (xs ++ ys))
put_twice bytes i xs ys within =
    ap (λ (l : List ℕ). set (set bytes i (get_or bytes i [] ++ xs)) i (l ++ ys)) (get_or-set_same bytes i (get_or bytes i [] ++ xs) [] within)
    ∙ set-set bytes i (get_or bytes i [] ++ xs) ((get_or bytes i [] ++ xs) ++ ys)
    ∙ ap (λ (l : List ℕ). set bytes i l) (append_assoc (get_or bytes i []) xs ys)

-- ---- what each record keeps

-- a property that each appended record keeps that is settled before, and in which tails don't matter
pub record IsKept (at : Images) (Q : List Log → Type 0) : Type 0 where
  pub whole : KeepsWhole
  pub torn : TornKeepsWhole
  pub appends : (bytes : List (List ℕ)) (logs after : List Log) (r : LogRecord) (h : Appends logs r after) → IsSettledBefore at h.log r.body → AreWholeLogs 1 bytes logs → Q logs → Q after
  pub same : (logs others : List Log) → records_of logs ≡ records_of others → Q logs → Q others

-- behind one record the disk has whole logs, which have the property
record Behind (Q : List Log → Type 0) (c : Contents) (member : ℕ) (r : LogRecord) (mid : List Log) : Type 0 where
  whole : AreWholeLogs 1 (with_log c member (log_of c.logs member ++ record_bytes r)).logs mid
  tails : HaveNoTails mid
  has : Q mid
  within : member - 1 < length c.logs

one_behind : (at : Images) (Q : List Log → Type 0) → IsKept at Q → (c : Contents) (logs mid : List Log) (r : LogRecord) (member : ℕ) (h : Appends logs r mid) → h.log.member ≡ member → IsSettledBefore at h.log r.body → AreWholeLogs 1 c.logs logs → HaveNoTails logs → Q logs → Behind Q c member r mid
one_behind at Q k c logs mid r member h own d w t s =
    let placed = placed_in 1 c.logs h.front h.log h.back (subst (AreWholeLogs 1 c.logs) h.logs_are w) in
    let first = placed.0 in let second = placed.1 in
    record {
      whole = subst (λ (m : ℕ). AreWholeLogs 1 (with_log c m (log_of c.logs m ++ record_bytes r)).logs mid) own (k.whole c logs mid r h w (no_tail_of logs mid r h t));
      tails = no_tails_after logs mid r h t;
      has = k.appends c.logs logs mid r h d w s;
      within = omega (arith, first, second, own);
    }

-- ---- all records

pub all_keep : (at : Images) (Q : List Log → Type 0) → IsKept at Q → (records : List LogRecord) (c : Contents) (logs after : List Log) (member : ℕ) (h : AppendsAll logs (map (λ (r : LogRecord). (member, r)) records) after)
    → AreSettledBefore at logs (map (λ (r : LogRecord). (member, r)) records) after h → AreWholeLogs 1 c.logs logs → HaveNoTails logs
    → Q logs → Q after
all_keep at Q k [] c logs after member h d w t s = subst Q (sym h) s
all_keep at Q k (r ∷ rs) c logs after member h d w t s =
    let g = one_behind at Q k c logs h.0 r member h.1 h.2 d.0 w t s in
    all_keep at Q k rs (with_log c member (log_of c.logs member ++ record_bytes r)) h.0 after member h.3 d.1 g.whole g.tails g.has

-- ---- some of their bytes

Left : (List Log → Type 0) → Contents → ℕ → List ℕ → Type 0
Left Q c member bytes = (left : List Log) × AreWholeLogs 1 (with_log c member (log_of c.logs member ++ bytes)).logs left × Q left

-- nothing was appended
none_left : (Q : List Log → Type 0) (c : Contents) (logs : List Log) (member : ℕ) → AreWholeLogs 1 c.logs logs → Q logs → Left Q c member []
unfolding Left
none_left Q c logs member w s =
    let same : set c.logs (member - 1) (get_or c.logs (member - 1) [] ++ []) ≡ c.logs = ap (set c.logs (member - 1)) (append-nil (get_or c.logs (member - 1) [])) ∙ set-get_or c.logs (member - 1) [] in
    (logs, subst (λ (bs : List (List ℕ)). AreWholeLogs 1 bs logs) (sym same) w, s)

-- the first record wasn't appended whole
torn_left : (at : Images) (Q : List Log → Type 0) → IsKept at Q → (c : Contents) (logs mid : List Log) (r : LogRecord) (n : ℕ) (h : Appends logs r mid) → AreWholeLogs 1 c.logs logs → HaveNoTails logs → Q logs → n < length (record_bytes r)
    → Left Q c h.log.member (take n (record_bytes r))
unfolding Left
torn_left at Q k c logs mid r n h w t s few = (
  h.front ++ with_tail h.log n ∷ h.back,
  k.torn c logs mid r n h w (no_tail_of logs mid r h t) few,
  k.same (h.front ++ h.log ∷ h.back) (h.front ++ with_tail h.log n ∷ h.back) (same_records h.front h.log h.back n) (subst Q h.logs_are s),
)

-- behind the first record
both_left : (Q : List Log → Type 0) (c : Contents) (member : ℕ) (xs ys : List ℕ) → member - 1 < length c.logs → Left Q (with_log c member (log_of c.logs member ++ xs)) member ys → Left Q c member (xs ++ ys)
unfolding Left
both_left Q c member xs ys within rest = (rest.0, subst (λ (bs : List (List ℕ)). AreWholeLogs 1 bs rest.0) (put_twice c.logs (member - 1) xs ys within) rest.1, rest.2)

stops : (at : Images) (Q : List Log → Type 0) → IsKept at Q → (records : List LogRecord) (c : Contents) (logs after : List Log) (member n : ℕ) (h : AppendsAll logs (map (λ (r : LogRecord). (member, r)) records) after)
    → AreSettledBefore at logs (map (λ (r : LogRecord). (member, r)) records) after h → AreWholeLogs 1 c.logs logs → HaveNoTails logs
    → Q logs → Left Q c member (take n (log_bytes records))
stops at Q k [] c logs after member n h d w t s = subst (Left Q c member) (sym (none_taken n)) (none_left Q c logs member w s)
stops at Q k (r ∷ rs) c logs after member n h d w t s = elim (cases_lt n (length (record_bytes r))) [
  | inl few ↦ (
      let cut : take n (record_bytes r ++ log_bytes rs) ≡ take n (record_bytes r) = take-append-le n (record_bytes r) (log_bytes rs) (omega (arith, few)) in
      subst (Left Q c member) (sym cut) (subst (λ (m : ℕ). Left Q c m (take n (record_bytes r))) h.2 (torn_left at Q k c logs h.0 r n h.1 w t s few)))
  | inr many ↦ (
      let m = n - length (record_bytes r) in
      let count : length (record_bytes r) + m ≡ n = omega (arith, many) in
      let cut : take n (record_bytes r ++ log_bytes rs) ≡ record_bytes r ++ take m (log_bytes rs) = ap (λ (x : ℕ). take x (record_bytes r ++ log_bytes rs)) (sym count) ∙ take_front m (record_bytes r) (log_bytes rs) in
      let e = with_log c member (log_of c.logs member ++ record_bytes r) in
      let g = one_behind at Q k c logs h.0 r member h.1 h.2 d.0 w t s in
      let rest : Left Q e member (take m (log_bytes rs)) = stops at Q k rs e h.0 after member m h.3 d.1 g.whole g.tails g.has in
      subst (Left Q c member) (sym cut) (both_left Q c member (record_bytes r) (take m (log_bytes rs)) g.within rest))
]

pub stop_keeps : (at : Images) (Q : List Log → Type 0) → IsKept at Q → (c : Contents) (logs after : List Log) (member : ℕ) (records : List LogRecord) (n : ℕ) (h : AppendsAll logs (map (λ (r : LogRecord). (member, r)) records) after)
    → AreSettledBefore at logs (map (λ (r : LogRecord). (member, r)) records) after h → AreWholeLogs 1 c.logs logs → HaveNoTails logs
    → Q logs → (left : List Log) × AreWholeLogs 1 (with_log c member (log_of c.logs member ++ take n (log_bytes records))).logs left × Q left
unfolding Left
stop_keeps at Q k c logs after member records n h d w t s = stops at Q k records c logs after member n h d w t s

-- ---- logs with the same records

abbrev pub first_of_lists : List (List LogRecord) → List LogRecord
first_of_lists [] = []
first_of_lists (x ∷ xs) = x

abbrev pub rest_of_lists : List (List LogRecord) → List (List LogRecord)
rest_of_lists [] = []
rest_of_lists (x ∷ xs) = xs

flat_all : (logs : List Log) → all_records logs ≡ flat_map (λ (l : List LogRecord). l) (records_of logs)
flat_all [] = refl
flat_all (l ∷ ls) = ap (λ (rs : List LogRecord). l.records ++ rs) (flat_all ls)

pub same_merged : (logs others : List Log) → records_of logs ≡ records_of others → in_order (all_records logs) ≡ in_order (all_records others)
same_merged logs others e = ap in_order (flat_all logs ∙ ap (λ (rss : List (List LogRecord)). flat_map (λ (l : List LogRecord). l) rss) e ∙ sym (flat_all others))
