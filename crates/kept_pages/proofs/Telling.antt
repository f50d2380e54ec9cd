-- What is told of logs that are read one after the other, and of the pages that their records need.
use Rattle.std.proofs.Common.{◌≡◌, ℕ, zero, suc, ◌+◌, ◌-◌, ◌<◌, ◌≤◌, Bool, true, false, cond, List, [], ◌∷◌, ◌++◌, length, map, take, drop, Option, Some, None, Result, Ok, Err, inl, inr, refl, sym, ap, subst, ◌∙◌, arith, append_assoc}
use Rattle.std.specs.Prelude.{not, ◌&&◌, ◌||◌, slice_index, slice_index_or}
use Rattle.std.specs.List.{list_all, flat_map, AllByRecursion}
use Rattle.std.proofs.lemmas.List.{append-nil, take_all, take_more, drop_all}
use Rattle.std.proofs.lemmas.List.Concat.{flat_map-append}
use Rattle.ds_base.specs.declared.names.PageId.{PageId}
use Rattle.ds_disk.specs.Contents.{Contents, log_of, WhenTold, Becomes, Same}
use Rattle.ds_disk.specs.Pages.{page_at}
use Rattle.ds_model.specs.declared.log.LogRecord.{LogRecord}
use Rattle.ds_model.specs.RecordBytes.{record_bytes}
use Rattle.log_record.specs.declared.log.Log.{Log}
use Rattle.log_head.specs.Heads.{HeadState, IsOf, left_of}
use Rattle.log_head.specs.Laws.{PartsAreWhole}
use Rattle.disk_spots.specs.declared.spot.Spot.{Spot}
use Rattle.disk_spots.specs.declared.spot.Spot.TheVariants as spot
use Rattle.disk_spots.specs.Spots.{or_behind}
use Rattle.page_images.specs.Images.{Images}
use Rattle.restart_plan.specs.Given.{all_records}
use Rattle.sound_disk.specs.Laws.{AreRead}
use Rattle.sound_disk.specs.Transactions.{drawn_numbers, all_differ, EachFollows, AreTransactions}
use Rattle.sound_disk.specs.Whole_logs.{AreWholeLogs}
use Rattle.sound_appends.proofs.Left.{drawn_more, differ_tail, differ_front, differ_back}
use Rattle.disk_walk.specs.Reading.{Reads}
use Rattle.disk_walk.specs.One.{records_to, IsNextOf, IsFollowed, OfRecords}
use Rattle.disk_walk.proofs.One.{reads_on, reads_to, reads_none, head_from, ComesIs, WalksOn, ComeTo, walk_starts}
use Rattle.disk_walk.proofs.Whole.{log_here, counted}
use Rattle.kept_checkpoints.specs.declared.needs.Need.{Need}
use Rattle.kept_checkpoints.specs.declared.scan.LogScan.{LogScan}
use Rattle.kept_checkpoints.specs.declared.recheck.Recheck.{Recheck}
use Rattle.kept_checkpoints.specs.Needs.{is_met, needs_in, needs_of, NeedsAreMet, NeedsTell}
use Rattle.kept_checkpoints.specs.Offsets.{bad_offset, bad_spot, OffsetsFit}
use Rattle.kept_checkpoints.specs.Scan.{Open, nothing_scanned, scanned, scan_from}
use Rattle.kept_checkpoints.specs.Recheck.{begun, rechecked, fits_now, Rechecked, recheck_from, needs_left, needs_from, recheck_of, RecheckTells, NeedsAreLeft}
use Rattle.kept_checkpoints.proofs.Places.{no_spot, one_spot}
use Rattle.kept_pages.specs.declared.kept.LogTold.{LogTold}
use Rattle.kept_pages.specs.declared.kept.LogTold.TheVariants as told
use Rattle.kept_pages.specs.Exact.{Judges, IsScan, IsRechecked, AreNeedsJudged, IsLogTold}
use Rattle.kept_pages.specs.Unmet.{AreJudged, judged_with, IsSeen}
use Rattle.kept_pages.specs.Unkept.{page_spot, AreKept, IsKeptTold}
use Rattle.kept_pages.proofs.Judged.{judged_more}
use Rattle.kept_pages.proofs.Deciding.{are_kept, bad_kept}

-- ---- needs

told_all : (a : Option Contents) (P : Contents → Type 0) → ((c : Contents) → P c) → WhenTold a P
told_all None P h = tt
told_all (Some c) P h = h c

told_by : (a : Option Contents) (P Q : Contents → Type 0) → ((c : Contents) → P c → Q c) → WhenTold a P → WhenTold a Q
told_by None P Q f h = tt
told_by (Some c) P Q f h = f c h

told_two : (a : Option Contents) (P Q R : Contents → Type 0) → ((c : Contents) → P c → Q c → R c) → WhenTold a P → WhenTold a Q → WhenTold a R
told_two None P Q R f h k = tt
told_two (Some c) P Q R f h k = f c h k

none_more : (at : Images) (first : Option PageId) → Judges at first first []
none_more at first front h = subst (λ (ns : List Need). AreJudged at ns first) (sym (append-nil front)) h

pub judges_none : (a : Option Contents) (first : Option PageId) → WhenTold a (λ (c : Contents). Judges (page_at c.pages) first first [])
judges_none a first = told_all a (λ (c : Contents). Judges (page_at c.pages) first first []) (λ c. none_more (page_at c.pages) first)

pub seen_none : (a : Option Contents) (page : List ℕ) → WhenTold a (λ (c : Contents). IsSeen (page_at c.pages) None page)
seen_none a page = told_all a (λ (c : Contents). IsSeen (page_at c.pages) None page) (λ c. tt)

judges_with : (at : Images) (old new next : Option PageId) (xs ys : List Need) → Judges at old new xs → Judges at new next ys → Judges at old next (xs ++ ys)
judges_with at old new next xs ys h k front j = subst (λ (ns : List Need). AreJudged at ns next) (append_assoc front xs ys) (k (front ++ xs) (h front j))

judges_one : (at : Images) (n : Need) (first out : Option PageId) (met : Bool) → out ≡ judged_with met first n.page → met ≡ is_met at n → Judges at first out (n ∷ [])
judges_one at n first out met is m front h = subst (λ (o : Option PageId). AreJudged at (front ++ n ∷ []) o) (sym is) (judged_more at front n first met m h)

pub judges_on : (a : Option Contents) (first : Option PageId) (needs more : List Need) (n : Need) (found out : Option PageId) (met : Bool) (page : List ℕ) → more ≡ needs ++ n ∷ [] → out ≡ judged_with met found n.page
    → WhenTold a (λ (c : Contents). Judges (page_at c.pages) first found needs) → WhenTold a (λ (c : Contents). (met ≡ is_met (page_at c.pages) n) × (page ≡ page_at c.pages n.page)) → WhenTold a (λ (c : Contents). Judges (page_at c.pages) first out more)
judges_on a first needs more n found out met page more_is out_is h k =
    told_two a (λ (c : Contents). Judges (page_at c.pages) first found needs) (λ (c : Contents). (met ≡ is_met (page_at c.pages) n) × (page ≡ page_at c.pages n.page)) (λ (c : Contents). Judges (page_at c.pages) first out more)
    (λ c j m. subst (Judges (page_at c.pages) first out) (sym more_is) (judges_with (page_at c.pages) first found out needs (n ∷ []) j (judges_one (page_at c.pages) n found out met out_is m.0))) h k

pub judges_all : (a : Option Contents) (first found : Option PageId) (needs : List Need) (k : ℕ) → length needs ≤ k → WhenTold a (λ (c : Contents). Judges (page_at c.pages) first found (take k needs)) → WhenTold a (λ (c : Contents). Judges (page_at c.pages) first found needs)
judges_all a first found needs k le h =
    told_by a (λ (c : Contents). Judges (page_at c.pages) first found (take k needs)) (λ (c : Contents). Judges (page_at c.pages) first found needs) (λ c j. subst (Judges (page_at c.pages) first found) (take_all k needs le) j) h

-- ---- the first reading

abbrev pub scans : LogScan → ℕ → List LogRecord → LogScan
scans s at rs = scan_from s at rs

pub scan_step : (s t : LogScan) (at place : ℕ) (r : LogRecord) (rest : List LogRecord) → place ≡ at → t ≡ scanned s place r → scan_from s at (r ∷ rest) ≡ scan_from t (at + length (record_bytes r)) rest
scan_step s t at place r rest is step = sym (ap (λ (x : LogScan). scan_from x (at + length (record_bytes r)) rest) (step ∙ ap (λ (n : ℕ). scanned s n r) is))

pub scan_told : {a b : Option Contents} {n k : ℕ} (member end : ℕ) (start s : LogScan) → start ≡ nothing_scanned → Reads a b n k (ComeTo scans member end start) (Ok s) → Reads a b n k (λ (x : LogScan) c. OfRecords member end (IsScan x) c) (Ok s)
scan_told {a = a} {b = b} {n = n} {k = k} member end start s is p =
    reads_to a b n k (ComeTo scans member end start) s (λ (x : LogScan) c. OfRecords member end (IsScan x) c) s p (λ c h le. h le ∙ ap (λ (x : LogScan). scan_from x 0 (records_to end (log_of c.logs member))) is)

-- ---- the second

abbrev pub rechecks : Recheck → ℕ → List LogRecord → Rechecked
rechecks s at rs = recheck_from s at rs

recheck_if : (s t : Recheck) (at place : ℕ) (r : LogRecord) → place ≡ at → t ≡ rechecked s place r → rechecked s at r ≡ t
recheck_if s t at place r is step = sym (step ∙ ap (λ (n : ℕ). rechecked s n r) is)

abbrev stands : Recheck → ℕ → ℕ → LogRecord → List LogRecord → Rechecked
stands x at next r rest = cond (fits_now x r) (recheck_from x next rest) (record { bad = Some at; left = x })

pub recheck_step : (s t : Recheck) (at place : ℕ) (r : LogRecord) (rest : List LogRecord) (fits : Bool) → place ≡ at → t ≡ rechecked s place r → fits ≡ fits_now t r → fits ≡ true → recheck_from s at (r ∷ rest) ≡ recheck_from t (at + length (record_bytes r)) rest
recheck_step s t at place r rest fits is step fit holds_it =
    ap (λ (x : Recheck). stands x at (at + length (record_bytes r)) r rest) (recheck_if s t at place r is step)
    ∙ ap (λ (b : Bool). cond b (recheck_from t (at + length (record_bytes r)) rest) (record { bad = Some at; left = t })) (sym fit ∙ holds_it)

pub recheck_stop : (s t : Recheck) (at place : ℕ) (r : LogRecord) (rest : List LogRecord) (fits : Bool) → place ≡ at → t ≡ rechecked s place r → fits ≡ fits_now t r → fits ≡ false → recheck_from s at (r ∷ rest) ≡ record { bad = Some place; left = t }
recheck_stop s t at place r rest fits is step fit fails_it =
    ap (λ (x : Recheck). stands x at (at + length (record_bytes r)) r rest) (recheck_if s t at place r is step)
    ∙ ap (λ (b : Bool). cond b (recheck_from t (at + length (record_bytes r)) rest) (record { bad = Some at; left = t })) (sym fit ∙ fails_it)
    ∙ ap (λ (n : ℕ). record { bad = Some n; left = t }) (sym is)

pub recheck_told : {a b : Option Contents} {n k : ℕ} (member end : ℕ) (start s : Recheck) (bad : Option ℕ) → Reads a b n k (ComeTo rechecks member end start) (Ok (record { bad = bad; left = s }))
    → Reads a b n k (λ (x : Option ℕ) c. OfRecords member end (IsRechecked start s x) c) (Ok bad)
recheck_told {a = a} {b = b} {n = n} {k = k} member end start s bad p =
    reads_to a b n k (ComeTo rechecks member end start) (record { bad = bad; left = s }) (λ (x : Option ℕ) c. OfRecords member end (IsRechecked start s x) c) bad p (λ c h. h)

-- ---- the third

-- these needs were looked at, and the others are those of the records that are left
pub record JudgedTo (images : Images) (again : Recheck) (first found : Option PageId) (at : ℕ) (left all : List LogRecord) : Type 0 where
  pub done : List Need
  pub judged : Judges images first found done
  pub whole : done ++ needs_from again.changes again.start at left ≡ needs_from again.changes again.start 0 all

abbrev pub JudgesOn : ℕ → ℕ → Recheck → Option PageId → HeadState → Option PageId → ℕ → Contents → Type 0
JudgesOn member end again first head found n c =
    end ≤ length (log_of c.logs member) → IsOf (log_of c.logs member) head × JudgedTo (page_at c.pages) again first found head.at (left_of (log_of c.logs member) head) (records_to end (log_of c.logs member))

nothing_judged : (member end : ℕ) (again : Recheck) (first : Option PageId) (head : HeadState) (c : Contents) → WalksOn (λ (s : ℕ) at rs. needs_from again.changes again.start at rs) member end 0 head 0 0 c → JudgesOn member end again first head first 0 c
nothing_judged member end again first head c walk le = (let w = walk le in (w.0, record { done = []; judged = none_more (page_at c.pages) first; whole = w.1 }))

pub judge_starts : (a : Option Contents) (k member end : ℕ) (again : Recheck) (first : Option PageId) (head : HeadState) → head ≡ head_from end → Reads a a k k (JudgesOn member end again first head first) (Ok 0)
judge_starts a k member end again first head e =
    reads_to a a k k (WalksOn (λ (s : ℕ) at rs. needs_from again.changes again.start at rs) member end 0 head 0) 0 (JudgesOn member end again first head first) 0
    (walk_starts (λ (s : ℕ) at rs. needs_from again.changes again.start at rs) a k member end head 0 e) (λ c walk. nothing_judged member end again first head c walk)

abbrev JudgedIs : Option PageId → List Need → Option PageId → Contents → Type 0
JudgedIs found needs now c = Judges (page_at c.pages) found now needs

judges_next : (member end : ℕ) (again : Recheck) (first : Option PageId) (old new : HeadState) (found now : Option PageId) (at : ℕ) (r : LogRecord) (needs : List Need) (c : Contents) → at ≡ old.at → needs ≡ needs_left again.changes again.start at r
    → JudgesOn member end again first old found 0 c → ComesIs member old new (Some r) c → JudgedIs found needs now c → JudgesOn member end again first new now 0 c
judges_next member end again first old new found now at r needs c is needs_are on comes judged le =
    let held = on le in
    let next = comes held.0 in
    let j = held.1 in
    let here : needs_left again.changes again.start old.at r ≡ needs = ap (λ (n : ℕ). needs_left again.changes again.start n r) (sym is) ∙ sym needs_are in (
      next.of,
      record {
        done = j.done ++ needs;
        judged = judges_with (page_at c.pages) first found now j.done needs j.judged judged;
        whole =
            append_assoc j.done needs (needs_from again.changes again.start new.at (left_of (log_of c.logs member) new))
            ∙ ap (λ (n : ℕ). j.done ++ (needs ++ needs_from again.changes again.start n (left_of (log_of c.logs member) new))) next.at_is
            ∙ ap (λ (ns : List Need). j.done ++ (ns ++ needs_from again.changes again.start (old.at + length (record_bytes r)) (left_of (log_of c.logs member) new))) (sym here)
            ∙ ap (λ (rs : List LogRecord). j.done ++ needs_from again.changes again.start old.at rs) (sym next.left_is)
            ∙ j.whole;
      },
    )

pub judge_goes : (a b e f : Option Contents) (n k j i member end : ℕ) (again : Recheck) (first : Option PageId) (old new : HeadState) (found now : Option PageId) (at : ℕ) (next : Option LogRecord) (r : LogRecord) (needs : List Need) → next ≡ Some r → at ≡ old.at
    → needs ≡ needs_left again.changes again.start at r → Reads a b n k (JudgesOn member end again first old found) (Ok 0) → Reads b e k j (ComesIs member old new) (Ok next) → Reads e f j i (JudgedIs found needs) (Ok now)
    → Reads a f n i (JudgesOn member end again first new now) (Ok 0)
judge_goes a b e f n k j i member end again first old new found now at next r needs some is needs_are p q w =
    let both : Reads a e n j (λ (m : ℕ) c. JudgesOn member end again first old found 0 c × ComesIs member old new (Some r) c) (Ok 0) =
    reads_on a b e n k j (JudgesOn member end again first old found) 0 (ComesIs member old new) next (λ (m : ℕ) c. JudgesOn member end again first old found 0 c × ComesIs member old new (Some r) c) 0 p q
    (λ c on comes. (on, λ of. subst (λ (o : Option LogRecord). IsNextOf (log_of c.logs member) old new o) some (comes of))) in
    reads_on a e f n j i (λ (m : ℕ) c. JudgesOn member end again first old found 0 c × ComesIs member old new (Some r) c) 0 (JudgedIs found needs) now (JudgesOn member end again first new now) 0 both w
    (λ c on judged. judges_next member end again first old new found now at r needs c is needs_are on.0 on.1 judged)

judges_last : (member end : ℕ) (again : Recheck) (first : Option PageId) (old new : HeadState) (found : Option PageId) (c : Contents) → JudgesOn member end again first old found 0 c → ComesIs member old new None c
    → OfRecords member end (AreNeedsJudged (page_at c.pages) again first found) c
judges_last member end again first old new found c on comes le =
    let held = on le in
    let j = held.1 in
    let all : j.done ≡ needs_from again.changes again.start 0 (records_to end (log_of c.logs member)) =
    sym (append-nil j.done) ∙ sym (ap (λ (rs : List LogRecord). j.done ++ needs_from again.changes again.start old.at rs) (comes held.0)) ∙ j.whole in
    subst (Judges (page_at c.pages) first found) all j.judged

pub judge_ends : (a b e : Option Contents) (n k j member end : ℕ) (again : Recheck) (first : Option PageId) (old new : HeadState) (found : Option PageId) (next : Option LogRecord) → next ≡ None → Reads a b n k (JudgesOn member end again first old found) (Ok 0)
    → Reads b e k j (ComesIs member old new) (Ok next) → Reads a e n j (λ (x : Option PageId) c. OfRecords member end (AreNeedsJudged (page_at c.pages) again first x) c) (Ok found)
judge_ends a b e n k j member end again first old new found next none p q =
    reads_on a b e n k j (JudgesOn member end again first old found) 0 (ComesIs member old new) next (λ (x : Option PageId) c. OfRecords member end (AreNeedsJudged (page_at c.pages) again first x) c) found p q
    (λ c on comes. judges_last member end again first old new found c on (λ of. subst (λ (o : Option LogRecord). IsNextOf (log_of c.logs member) old new o) none (comes of)))

-- ---- one log

abbrev pub ScanIs : ℕ → ℕ → LogScan → Contents → Type 0
ScanIs member end s c = OfRecords member end (IsScan s) c

abbrev pub RecheckIs : ℕ → ℕ → Recheck → Recheck → Option ℕ → Contents → Type 0
RecheckIs member end old new bad c = OfRecords member end (IsRechecked old new bad) c

abbrev pub NeedsJudged : ℕ → ℕ → Recheck → Option PageId → Option PageId → Contents → Type 0
NeedsJudged member end again first found c = OfRecords member end (AreNeedsJudged (page_at c.pages) again first found) c

abbrev pub LogIs : ℕ → ℕ → Option PageId → LogTold → Contents → Type 0
LogIs member end first it c = OfRecords member end (IsLogTold (page_at c.pages) first it) c

-- what both readings make of the records
both_are : (s : LogScan) (old new : Recheck) (bad : Option ℕ) (records : List LogRecord) → IsScan s records → old ≡ begun s → IsRechecked old new bad records → (let it : Rechecked = record { bad = bad; left = new } in it) ≡ recheck_of records
both_are s old new bad records scan is again = again ∙ ap (λ (x : Recheck). recheck_from x 0 records) (is ∙ ap begun scan)

bad_log : RecheckTells → (s : LogScan) (old new : Recheck) (bad : Option ℕ) (at : ℕ) (records : List LogRecord) → bad ≡ Some at → IsScan s records → old ≡ begun s → IsRechecked old new bad records → bad_offset records ≡ Some at
bad_log tells s old new bad at records some scan is again = sym (tells records) ∙ sym (ap (λ (x : Rechecked). x.bad) (both_are s old new bad records scan is again)) ∙ some

pub log_bad : RecheckTells → (a b e : Option Contents) (n k j member end : ℕ) (first : Option PageId) (s : LogScan) (old new : Recheck) (bad : Option ℕ) (at : ℕ) → bad ≡ Some at → old ≡ begun s → Reads a b n k (ScanIs member end) (Ok s)
    → Reads b e k j (RecheckIs member end old new) (Ok bad) → Reads a e n j (LogIs member end first) (Ok (told.Bad at))
log_bad tells a b e n k j member end first s old new bad at some is p q =
    reads_on a b e n k j (ScanIs member end) s (RecheckIs member end old new) bad (LogIs member end first) (told.Bad at) p q
    (λ c scan again le. bad_log tells s old new bad at (records_to end (log_of c.logs member)) some (scan le) is (again le))

fit_log : RecheckTells → NeedsAreLeft → (images : Images) (first found : Option PageId) (s : LogScan) (old new : Recheck) (bad : Option ℕ) (records : List LogRecord) → bad ≡ None → old ≡ begun s → IsScan s records → IsRechecked old new bad records
    → AreNeedsJudged images new first found records → IsLogTold images first (told.Fits found) records
fit_log tells left images first found s old new bad records none is scan again judged =
    let both = both_are s old new bad records scan is again in
    let no_bad : (recheck_of records).bad ≡ None = sym (ap (λ (x : Rechecked). x.bad) both) ∙ none in (
      sym (tells records) ∙ no_bad,
      λ f differ.
          subst (Judges images first found) (left records no_bad f differ)
          (subst (λ (x : Recheck). Judges images first found (needs_from x.changes x.start 0 records)) (ap (λ (x : Rechecked). x.left) both) judged),
    )

pub log_fits : RecheckTells → NeedsAreLeft → (a b e f : Option Contents) (n k j i member end : ℕ) (first found : Option PageId) (s : LogScan) (old new : Recheck) (bad : Option ℕ) → bad ≡ None → old ≡ begun s → Reads a b n k (ScanIs member end) (Ok s)
    → Reads b e k j (RecheckIs member end old new) (Ok bad) → Reads e f j i (NeedsJudged member end new first) (Ok found) → Reads a f n i (LogIs member end first) (Ok (told.Fits found))
log_fits tells left a b e f n k j i member end first found s old new bad none is p q w =
    let both : Reads a e n j (λ (m : ℕ) c. ScanIs member end s c × RecheckIs member end old new bad c) (Ok 0) =
    reads_on a b e n k j (ScanIs member end) s (RecheckIs member end old new) bad (λ (m : ℕ) c. ScanIs member end s c × RecheckIs member end old new bad c) 0 p q (λ c scan again. (scan, again)) in
    reads_on a e f n j i (λ (m : ℕ) c. ScanIs member end s c × RecheckIs member end old new bad c) 0 (NeedsJudged member end new first) found (LogIs member end first) (told.Fits found) both w
    (λ c on judged le. fit_log tells left (page_at c.pages) first found s old new bad (records_to end (log_of c.logs member)) none is (on.0 le) (on.1 le) (judged le))

-- ---- all logs

-- the first logs, so many, have no bad offset, and this is the first page that doesn't meet their needs
pub record KeptSo (images : Images) (logs : List Log) (k : ℕ) (first : Option PageId) : Type 0 where
  pub bad : bad_spot (drop k logs) ≡ bad_spot logs
  pub judged : AreJudged images (needs_of (take k logs)) first

abbrev pub KeepsTo : List ℕ → ℕ → Option PageId → ℕ → Contents → Type 0
KeepsTo ends k first n c = (logs : List Log) → AreWholeLogs 1 c.logs logs → ends ≡ map (λ (l : Log). l.length) logs → AreTransactions logs → KeptSo (page_at c.pages) logs k first

pub keep_starts : (a : Option Contents) (n : ℕ) (ends : List ℕ) → Reads a a n n (KeepsTo ends 0 None) (Ok 0)
keep_starts a n ends = reads_none a n (KeepsTo ends 0 None) 0 (λ c logs whole is t. record { bad = refl; judged = refl })

-- the drawn numbers of one log differ
part_differs : (logs : List Log) (log : Log) (k : ℕ) (back : List Log) → drop k logs ≡ log ∷ back → all_differ (drawn_numbers (all_records logs)) ≡ true → all_differ (drawn_numbers log.records) ≡ true
part_differs [] log zero back e h = absurd cc
part_differs [] log (suc k) back e h = absurd cc
part_differs (l ∷ ls) log zero back e h =
    let same : l ≡ log = cc in
    subst (λ (x : Log). all_differ (drawn_numbers x.records) ≡ true) same
    (differ_front (drawn_numbers l.records) (drawn_numbers (all_records ls)) (subst (λ (ns : List ℕ). all_differ ns ≡ true) (drawn_more l.records (all_records ls)) h))
part_differs (l ∷ ls) log (suc k) back e h =
    part_differs ls log k back e (differ_back (drawn_numbers l.records) (drawn_numbers (all_records ls)) (subst (λ (ns : List ℕ). all_differ ns ≡ true) (drawn_more l.records (all_records ls)) h))

part_follows : (logs : List Log) (log : Log) (k : ℕ) (back : List Log) → drop k logs ≡ log ∷ back → AllByRecursion (λ (l : Log). EachFollows [] l.records) logs → EachFollows [] log.records
part_follows [] log zero back e h = absurd cc
part_follows [] log (suc k) back e h = absurd cc
part_follows (l ∷ ls) log zero back e h = (let same : l ≡ log = cc in subst (λ (x : Log). EachFollows [] x.records) same h.0)
part_follows (l ∷ ls) log (suc k) back e h = part_follows ls log k back e h.1

taken_one : (logs : List Log) (log : Log) (k : ℕ) (back : List Log) → drop k logs ≡ log ∷ back → take (k + 1) logs ≡ take k logs ++ log ∷ []
taken_one [] log zero back e = absurd cc
taken_one [] log (suc k) back e = absurd cc
taken_one (l ∷ ls) log zero back e = (let same : l ≡ log = cc in ap (λ (x : Log). x ∷ []) same)
taken_one (l ∷ ls) log (suc k) back e =
    let next : suc k + 1 ≡ suc (k + 1) = omega arith in
    ap (λ (n : ℕ). take n (l ∷ ls)) next ∙ ap (λ (xs : List Log). l ∷ xs) (taken_one ls log k back e)

needs_one : (logs : List Log) (log : Log) → needs_of (logs ++ log ∷ []) ≡ needs_of logs ++ needs_in log.records
needs_one logs log = flat_map-append (λ (l : Log). needs_in l.records) logs (log ∷ []) ∙ ap (λ (ns : List Need). needs_of logs ++ ns) (append-nil (needs_in log.records))

kept_more : (images : Images) (logs : List Log) (log : Log) (k : ℕ) (first found : Option PageId) → drop k logs ≡ log ∷ drop (k + 1) logs → AreTransactions logs → IsLogTold images first (told.Fits found) log.records → KeptSo images logs k first → KeptSo images logs (k + 1) found
kept_more images logs log k first found split t is so = record {
  bad = sym (ap (or_behind (bad_spot (drop (k + 1) logs)) log.member) is.0) ∙ sym (ap bad_spot split) ∙ so.bad;
  judged =
      subst (λ (ns : List Need). AreJudged images ns found) (sym (ap needs_of (taken_one logs log k (drop (k + 1) logs) split) ∙ needs_one (take k logs) log))
      (is.1 (part_follows logs log k (drop (k + 1) logs) split t.follow) (part_differs logs log k (drop (k + 1) logs) split (differ_tail 0 (drawn_numbers (all_records logs)) t.numbers).1) (needs_of (take k logs)) so.judged);
}

pub keep_goes : PartsAreWhole → AreRead → (a b e : Option Contents) (n m j : ℕ) (ends : List ℕ) (k member end : ℕ) (first found : Option PageId) (it : LogTold) → length ends ≡ 32 → k < 32 → member ≡ k + 1 → end ≡ slice_index ends k → it ≡ told.Fits found
    → Reads a b n m (KeepsTo ends k first) (Ok 0) → Reads b e m j (LogIs member end first) (Ok it) → Reads a e n j (KeepsTo ends (k + 1) found) (Ok 0)
keep_goes parts read a b e n m j ends k member end first found it long lt its end_is is p q =
    reads_on a b e n m j (KeepsTo ends k first) 0 (LogIs member end first) it (KeepsTo ends (k + 1) found) 0 p q
    (λ c on log_is logs whole are t.
    let here = log_here parts read ends logs c k member end (IsLogTold (page_at c.pages) first it) whole are long lt its end_is log_is in
    kept_more (page_at c.pages) logs here.0 k first found here.1 t (subst (λ (x : LogTold). IsLogTold (page_at c.pages) first x here.0.records) is here.3) (on logs whole are t))

bad_is : (images : Images) (logs : List Log) (log : Log) (k member at : ℕ) (first : Option PageId) → drop k logs ≡ log ∷ drop (k + 1) logs → log.member ≡ member → bad_offset log.records ≡ Some at → KeptSo images logs k first → AreKept images logs (Some (spot.Log member at))
bad_is images logs log k member at first split is bad so =
    let found : bad_spot logs ≡ Some (spot.Log member at) =
    sym so.bad ∙ ap bad_spot split ∙ ap (or_behind (bad_spot (drop (k + 1) logs)) log.member) bad ∙ ap (λ (m : ℕ). Some (spot.Log m at)) is in
    bad_kept images logs (spot.Log member at) found (one_spot logs (spot.Log member at) found)

pub keep_stops : PartsAreWhole → AreRead → (a b e : Option Contents) (n m j : ℕ) (ends : List ℕ) (k member end at : ℕ) (first : Option PageId) (it : LogTold) → length ends ≡ 32 → k < 32 → member ≡ k + 1 → end ≡ slice_index ends k → it ≡ told.Bad at
    → Reads a b n m (KeepsTo ends k first) (Ok 0) → Reads b e m j (LogIs member end first) (Ok it) → Reads a e n j (IsKeptTold ends) (Ok (Some (spot.Log member at)))
keep_stops parts read a b e n m j ends k member end at first it long lt its end_is is p q =
    reads_on a b e n m j (KeepsTo ends k first) 0 (LogIs member end first) it (IsKeptTold ends) (Some (spot.Log member at)) p q
    (λ c on log_is logs whole are t.
    let here = log_here parts read ends logs c k member end (IsLogTold (page_at c.pages) first it) whole are long lt its end_is log_is in
    bad_is (page_at c.pages) logs here.0 k member at first here.1 here.2 (subst (λ (x : LogTold). IsLogTold (page_at c.pages) first x here.0.records) is here.3) (on logs whole are t))

kept_last : NeedsAreMet → NeedsTell → (images : Images) (logs : List Log) (k : ℕ) (first : Option PageId) → length logs ≤ k → KeptSo images logs k first → AreKept images logs (page_spot first)
kept_last met tell images logs k first le so =
    let none : bad_spot logs ≡ None = sym so.bad ∙ ap bad_spot (drop_all k logs le) in
    are_kept met tell images logs first (no_spot logs none) (subst (λ (ls : List Log). AreJudged images (needs_of ls) first) (take_all k logs le) so.judged)

pub keep_ends : NeedsAreMet → NeedsTell → (a b : Option Contents) (n m : ℕ) (ends : List ℕ) (k : ℕ) (first : Option PageId) (found : Option Spot) → length ends ≡ 32 → 32 ≤ k → found ≡ page_spot first → Reads a b n m (KeepsTo ends k first) (Ok 0)
    → Reads a b n m (IsKeptTold ends) (Ok found)
keep_ends met tell a b n m ends k first found long le is p =
    reads_to a b n m (KeepsTo ends k first) 0 (IsKeptTold ends) found p
    (λ c on logs whole are t.
    let count : length logs ≡ 32 = sym (counted (λ (l : Log). l.length) logs) ∙ ap length (sym are) ∙ long in
    subst (AreKept (page_at c.pages) logs) (sym is) (kept_last met tell (page_at c.pages) logs k first (omega (arith, count, le)) (on logs whole are t)))

pub scan_first : (a : Option Contents) (k member end : ℕ) (head : HeadState) (s : LogScan) → head ≡ head_from end → s ≡ nothing_scanned → Reads a a k k (WalksOn scans member end nothing_scanned head s) (Ok 0)
scan_first a k member end head s e is = subst (λ (x : LogScan). Reads a a k k (WalksOn scans member end nothing_scanned head x) (Ok 0)) (sym is) (walk_starts scans a k member end head nothing_scanned e)
