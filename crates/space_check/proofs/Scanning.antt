-- All records, as they go by in the order of their numbers.
use Rattle.std.proofs.Common.{◌≡◌, ℕ, ◌+◌, ◌≤◌, Bool, true, false, cond, List, [], ◌∷◌, ◌++◌, length, take, Option, Result, Ok, Err, refl, sym, ap, subst, ◌∙◌, append_assoc, arith}
use Rattle.std.specs.Prelude.{map, OnOk}
use Rattle.std.specs.List.{AllByRecursion}
use Rattle.std.proofs.lemmas.List.{append-nil, take_at}
use Rattle.std.proofs.lemmas.List.Elements.{filter-append}
use Rattle.ds_disk.specs.Contents.{Contents, WhenTold, Becomes, Same}
use Rattle.ds_disk.specs.Pages.{page_at}
use Rattle.ds_model.specs.declared.log.LogRecord.{LogRecord}
use Rattle.ds_model.specs.Logs.{by_lrsn}
use Rattle.ds_model.specs.RecordBytes.{log_bytes, IsAllowed}
use Rattle.log_record.specs.declared.log.Log.{Log}
use Rattle.log_merge.specs.Merging.{all_records, is_merged, kept}
use Rattle.log_head.specs.Heads.{HeadState}
use Rattle.log_heads.specs.Logs.{left, together, NoneFalls, IsTaken}
use Rattle.page_images.specs.Images.{Images}
use Rattle.sound_disk.specs.Laws.{records_of}
use Rattle.sound_disk.specs.Whole_logs.{IsWholeLog, AreWholeLogs}
use Rattle.sound_disk.specs.Versions.{merged}
use Rattle.ds_disk.specs.declared.disk.DiskError.{DiskError}
use Rattle.disk_walk.specs.Reading.{Reads}
use Rattle.disk_versions.specs.Reading as versions
use Rattle.disk_walk.specs.declared.walk.Next.{Next}
use Rattle.disk_walk.specs.declared.walk.Next.TheVariants as next
use Rattle.disk_walk.specs.Walks.{IsUpTo, AreUpTo, Begins, Stand, AreRead, IsNextOfAll}
use Rattle.disk_walk.proofs.Reading.{told_before, told_all, told_by, told_by_both}
use Rattle.disk_walk.specs.Whole.{OfWholeLogs}
use Rattle.redone_pages.specs.declared.range.TableRange.{TableRange}
use Rattle.disk_versions.specs.Met.{AreMet}
use Rattle.stood_rows.specs.Found.{IsStanding}
use Rattle.row_turns.specs.Scans.{IsTurning}
use Rattle.row_turns.specs.Ranges.{MergedIsKept}
use Rattle.space_check.specs.declared.scan.TableScan.{TableScan}
use Rattle.space_check.specs.Scans.{IsScan, IsScanned, ScansAlso, ScansKept, ScansLeft, IsScanOf}

-- ---- one record more

kept_also : (records : List LogRecord) (r : LogRecord) → kept (records ++ r ∷ []) ≡ kept records ++ kept (r ∷ [])
kept_also records r = filter-append (λ (x : LogRecord). is_merged x.body) records (r ∷ [])

kept_is : (records : List LogRecord) (r : LogRecord) → is_merged r.body ≡ true → kept (records ++ r ∷ []) ≡ kept records ++ r ∷ []
kept_is records r h = kept_also records r ∙ ap (λ (b : Bool). kept records ++ cond b (r ∷ []) []) h

kept_not : (records : List LogRecord) (r : LogRecord) → is_merged r.body ≡ false → kept (records ++ r ∷ []) ≡ kept records
kept_not records r h = kept_also records r ∙ ap (λ (b : Bool). kept records ++ cond b (r ∷ []) []) h ∙ append-nil (kept records)

pub scans_kept : (at : Images) (r : LogRecord) (old new : TableScan) → is_merged r.body ≡ true → ScansAlso at r old new → ScansKept at r old new
scans_kept at r old new h also = λ records is. subst (λ (rs : List LogRecord). IsScanned at rs new) (sym (kept_is records r h)) (also (kept records) is)

pub scans_over : (at : Images) (r : LogRecord) (s : TableScan) → is_merged r.body ≡ false → ScansKept at r s s
scans_over at r s h = λ records is. subst (λ (rs : List LogRecord). IsScanned at rs s) (sym (kept_not records r h)) is

-- ---- so many records are behind, and the others are left

pub record IsBehind (logs : List (List ℕ)) (start now : List HeadState) (all : List LogRecord) : Type 0 where
  pub stand : Stand logs now
  pub none : NoneFalls (left logs now)
  pub rest : by_lrsn (together (left logs start)) ≡ all ++ by_lrsn (together (left logs now))

abbrev pub GoesTo : List HeadState → List HeadState → List LogRecord → TableScan → TableScan → Contents → Type 0
GoesTo start now all old new c =
    Stand c.logs start → NoneFalls (left c.logs start) → IsScanned (page_at c.pages) [] old → IsBehind c.logs start now all × IsScanned (page_at c.pages) (kept all) new

-- these were scanned
pub record HasScanned (a : Option Contents) (start now : List HeadState) (old new : TableScan) : Type 0 where
  pub all : List LogRecord
  pub goes : WhenTold a (GoesTo start now all old new)

pub none_scanned : (a : Option Contents) (start : List HeadState) (s : TableScan) → HasScanned a start start s s
none_scanned a start s = record {
  all = [];
  goes = told_all a (GoesTo start start [] s s) (λ c stand none is. (record { stand = stand; none = none; rest = refl }, is));
}

abbrev pub NextOf : List HeadState → List HeadState → Next → Contents → Type 0
NextOf old now n c = Stand c.logs old → Stand c.logs now × IsNextOfAll (left c.logs old) n (left c.logs now)

behind_more : (logs : List (List ℕ)) (start old now : List HeadState) (all : List LogRecord) (member : ℕ) (r : LogRecord) → IsBehind logs start old all → Stand logs now → IsTaken member r (left logs old) (left logs now) → IsBehind logs start now (all ++ r ∷ [])
behind_more logs start old now all member r far stand taken = record {
  stand = stand;
  none = taken.rises far.none;
  rest = far.rest ∙ ap (λ (l : List LogRecord). all ++ l) (taken.lowest far.none) ∙ sym (append_assoc all (r ∷ []) (by_lrsn (together (left logs now))));
}

-- a record is next, and is scanned
pub more_scanned : (a b d : Option Contents) (start old now : List HeadState) (s t u : TableScan) (n : Next) (member : ℕ) (r : LogRecord) → HasScanned a start old s t → Becomes a b Same → WhenTold b (NextOf old now n) → n ≡ next.Record member r
    → Becomes a d Same → WhenTold d (λ (c : Contents). ScansKept (page_at c.pages) r t u) → HasScanned a start now s u
more_scanned a b d start old now s t u n member r far ab came is ad scanned = record {
  all = far.all ++ r ∷ [];
  goes = told_by_both a (GoesTo start old far.all s t) (λ (c : Contents). NextOf old now n c × ScansKept (page_at c.pages) r t u) (GoesTo start now (far.all ++ r ∷ []) s u)
      (λ c goes both stand none first.
      let so_far = goes stand none first in
      let next_is = both.0 so_far.0.stand in
      (behind_more c.logs start old now far.all member r so_far.0 next_is.0 (subst (λ (m : Next). IsNextOfAll (left c.logs old) m (left c.logs now)) is next_is.1), both.1 far.all so_far.1))
      far.goes
      (told_by_both a (NextOf old now n) (λ (c : Contents). ScansKept (page_at c.pages) r t u) (λ (c : Contents). NextOf old now n c × ScansKept (page_at c.pages) r t u) (λ c x y. (x, y))
      (told_before a b (NextOf old now n) ab came) (told_before a d (λ (c : Contents). ScansKept (page_at c.pages) r t u) ad scanned));
}

none_left : (lists : List (List LogRecord)) → AreRead lists → together lists ≡ []
none_left [] h = refl
none_left (l ∷ ls) h = ap (λ (x : List LogRecord). x ++ together ls) h.0 ∙ none_left ls h.1

behind_all : (logs : List (List ℕ)) (start old : List HeadState) (all : List LogRecord) → IsBehind logs start old all → AreRead (left logs old) → by_lrsn (together (left logs start)) ≡ all
behind_all logs start old all far read = far.rest ∙ ap (λ (l : List LogRecord). all ++ by_lrsn l) (none_left (left logs old) read) ∙ append-nil all

-- none is left
pub all_scanned : (a b : Option Contents) (start old now : List HeadState) (s t : TableScan) (n : Next) → HasScanned a start old s t → Becomes a b Same → WhenTold b (NextOf old now n) → n ≡ next.End → WhenTold a (λ (c : Contents). ScansLeft c start s t)
all_scanned a b start old now s t n far same came is =
    told_by_both a (GoesTo start old far.all s t) (NextOf old now n) (λ (c : Contents). ScansLeft c start s t)
    (λ c goes follows stand none first.
    let so_far = goes stand none first in
    let next_is = follows so_far.0.stand in
    let all = behind_all c.logs start old far.all so_far.0 (subst (λ (m : Next). IsNextOfAll (left c.logs old) m (left c.logs now)) is next_is.1) in
    subst (λ (rs : List LogRecord). IsScanned (page_at c.pages) (kept rs) t) (sym all) so_far.1)
    far.goes (told_before a b (NextOf old now n) same came)

-- ---- whole logs

up_to : (member : ℕ) (bytes : List (List ℕ)) (logs : List Log) → AreWholeLogs member bytes logs → AreUpTo bytes (map (λ (l : Log). l.length) logs) (records_of logs)
up_to member [] [] h = tt
up_to member [] (l ∷ ls) h = absurd h
up_to member (b ∷ bs) [] h = absurd h
up_to member (b ∷ bs) (l ∷ ls) h = (one h.0, up_to (member + 1) bs ls h.1)
  where
    one : IsWholeLog member b l → IsUpTo b l.length l.records
    one is =
        let tail = is.tail_is in
        record {
          within = omega (arith, tail);
          spelled = ap (λ (n : ℕ). take n b) is.length_is ∙ ap (take (length (log_bytes l.records))) is.records_are.whole ∙ take_at (log_bytes l.records) is.records_are.tail (length (log_bytes l.records)) refl;
          allowed = is.records_are.allowed;
        }

rising : (member : ℕ) (bytes : List (List ℕ)) (logs : List Log) → AreWholeLogs member bytes logs → NoneFalls (records_of logs)
rising member [] [] h = tt
rising member [] (l ∷ ls) h = absurd h
rising member (b ∷ bs) [] h = absurd h
rising member (b ∷ bs) (l ∷ ls) h = (h.0.rising, rising (member + 1) bs ls h.1)

together_is : (logs : List Log) → together (records_of logs) ≡ all_records logs
together_is [] = refl
together_is (l ∷ ls) = ap (λ (x : List LogRecord). l.records ++ x) (together_is ls)

pub scan_of : MergedIsKept → (c : Contents) (ends : List ℕ) (start : List HeadState) (old new : TableScan) → ((logs : List (List ℕ)) (lists : List (List LogRecord)) → AreUpTo logs ends lists → Begins logs start lists) → IsScanned (page_at c.pages) [] old → ScansLeft c start old new
    → IsScanOf ends new c
scan_of law c ends start old new begin first left_is = λ logs whole ends_are.
    let lists : List (List LogRecord) = records_of logs in
    let b = begin c.logs lists (subst (λ (es : List ℕ). AreUpTo c.logs es lists) (sym ends_are) (up_to 1 c.logs logs whole)) in
    let all : by_lrsn (together (left c.logs start)) ≡ by_lrsn (all_records logs) = ap (λ (ls : List (List LogRecord)). by_lrsn (together ls)) b.left_is ∙ ap by_lrsn (together_is logs) in
    subst (λ (rs : List LogRecord). IsScanned (page_at c.pages) rs new) (ap kept all ∙ sym (law (all_records logs)))
    (left_is b.stand (subst NoneFalls (sym b.left_is) (rising 1 c.logs logs whole)) first)

-- ---- one record more for the tables of a range

pub scan_more : (range : TableRange) (early : Bool) (old new : TableScan) (r : LogRecord) → new.met.made.records ≡ old.met.made.records ++ r ∷ [] → new.met.made.range ≡ old.met.made.range → new.standing.rows.range ≡ old.standing.rows.range → new.turns.range ≡ old.turns.range
    → new.turns.is_early ≡ old.turns.is_early → (IsStanding old.met.made.records old.standing → IsStanding (old.met.made.records ++ r ∷ []) new.standing) → ((records : List LogRecord) → IsTurning records old.turns → IsTurning (records ++ r ∷ []) new.turns)
    → IsScan range early old → IsScan range early new
scan_more range early old new r records met rows turns is_early stands turn is = record {
  range_is = met ∙ is.range_is;
  rows_of = rows ∙ is.rows_of;
  standing = subst (λ (rs : List LogRecord). IsStanding rs new.standing) (sym records) (stands is.standing);
  turns_of = turns ∙ is.turns_of;
  early_is = is_early ∙ is.early_is;
  turns = subst (λ (rs : List LogRecord). IsTurning rs new.turns) (sym records) (turn old.met.made.records is.turns);
}

pub scanned_more : (at : Images) (old new : TableScan) (r : LogRecord) → new.met.made.records ≡ old.met.made.records ++ r ∷ [] → (AreMet at old.met → AreMet at new.met) → ScansAlso at r old new
scanned_more at old new r also met = λ records is. record { records_are = also ∙ ap (λ (rs : List LogRecord). rs ++ r ∷ []) is.records_are; met = met is.met }

-- the same of what a call answered
pub scans_by : {U : Type 0} (start end : Option Contents) (f0 f1 : ℕ) (r : LogRecord) (old new : TableScan) (result : Result U DiskError) → versions.Reads start end f0 f1 (λ _ c. AreMet (page_at c.pages) old.met → AreMet (page_at c.pages) new.met) result
    → OnOk result (new.met.made.records ≡ old.met.made.records ++ r ∷ []) → Reads start end f0 f1 (λ _ c. ScansAlso (page_at c.pages) r old new) result
scans_by start end f0 f1 r old new (Ok u) k also = record {
  ok = told_by start (λ (c : Contents). AreMet (page_at c.pages) old.met → AreMet (page_at c.pages) new.met) (λ (c : Contents). ScansAlso (page_at c.pages) r old new) (λ c met. scanned_more (page_at c.pages) old new r also met) k.ok;
  failed = k.failed;
  same = k.same;
  later = k.later;
}
scans_by start end f0 f1 r old new (Err e) k also = record { ok = tt; failed = k.failed; same = k.same; later = k.later }
