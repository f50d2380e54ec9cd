-- Whole logs, and what they say to the entries of a report.
use Rattle.std.proofs.Common.{◌≡◌, ℕ, ◌≤◌, Bool, true, false, true≢false, List, Option, Result, Ok, Err, sym, ap, subst, ◌∙◌, arith}
use Rattle.std.specs.Prelude.{Vec, IsErrOf, IsErrAnd, Decides}
use Rattle.std.specs.declared.alloc.Global.{Global}
use Rattle.std.proofs.lemmas.Result.{IfOk-weaker}
use Rattle.ds_base.specs.Causes.{Rose}
use Rattle.ds_base.specs.declared.row.Row.{Row}
use Rattle.ds_disk.specs.Contents.{Contents, WhenTold}
use Rattle.ds_model.specs.declared.script.Script.{Script}
use Rattle.ds_model.specs.declared.history.Entry.{Entry}
use Rattle.ds_model.specs.Rows.{map_of, listed}
use Rattle.ds_model.specs.History.{replay}
use Rattle.ds_model.specs.Logs.{rows_of_logs}
use Rattle.log_record.specs.declared.log.Log.{Log}
use Rattle.report_check.specs.Records.{records_of}
use Rattle.report_check.specs.Commits.{new_commits, AreLogged}
use Rattle.report_check.specs.Reports.{IsSoundAlone}
use Rattle.opening_rows.specs.declared.fault.LogsFault.{LogsFault}
use Rattle.opening_rows.specs.declared.fault.LogsFault.TheVariants.{Failed, Damaged, NoMemory}
use Rattle.opening_rows.specs.declared.opening.Opening.{Opening}
use Rattle.opening_rows.specs.Reading.{AreLogsOf, HasDamage, BreaksAt, Reads, ReadsBy}
use Rattle.opening_rows.specs.Opening.{stood_for}
use Rattle.opening_rows.specs.Kept.{AreWhole}
use Rattle.opening_rows.specs.Fresh.{AreReadSo}
use Rattle.opening_rows.specs.Judging.{BearOut, Judges, IsJudged}
use Rattle.opening_rows.proofs.Told.{held_before, same_on, same_fault, reads_to, err_to}
use Rattle.opening_rows.proofs.Judged.{same_listed}
use Rattle.opening_rows.proofs.FreshTells.{HadNone, judges_alike}

-- ---- the judgement

-- whole logs tell of the commits of entries, where they had so many records
abbrev LoggedIn : Opening → List Entry → List Log → List ℕ → Type 0
LoggedIn opening entries logs had = AreLogged (records_of logs) (new_commits had (records_of logs)) (map_of opening.rows) entries

pub borne_by : (opening : Opening) (entries : List Entry) (logs : List Log) (same : Bool) (left : List Row) (had : List ℕ) → had ≡ opening.had.items → left ≡ stood_for logs → Decides same (LoggedIn opening entries logs had)
    → Decides same ((left ≡ stood_for logs) × LoggedIn opening entries logs opening.had.items)
borne_by opening entries logs same left had had_is is d =
    (λ y. (is, subst (λ (ns : List ℕ). LoggedIn opening entries logs ns) had_is (d.0 y)), λ h. d.1 (subst (λ (ns : List ℕ). LoggedIn opening entries logs ns) (sym had_is) h.1))

module _ (script : Script) (opening : Opening) (entries : List Entry) (logs : List Log) where
  pub not_whole : (whole : Bool) → Decides whole (AreWhole logs) → whole ≡ false → BearOut script opening entries logs → ⊥
  not_whole whole d none b = true≢false (sym (d.1 b.whole) ∙ none)

  pub whole_bears : (left : List Row) → left ≡ listed (replay (map_of opening.rows) entries) → AreWhole logs → IsSoundAlone script (map_of opening.rows) entries → (left ≡ stood_for logs) × LoggedIn opening entries logs opening.had.items → BearOut script opening entries logs × (left ≡ stood_for logs)
  whole_bears left left_is whole alone h =
      let same : replay (map_of opening.rows) entries ≡ rows_of_logs (records_of logs) = same_listed (replay (map_of opening.rows) entries) (rows_of_logs (records_of logs)) (sym left_is ∙ h.0) in (
        record { whole = whole; sound = record { each_once = alone.each_once; order = alone.order; logged = h.1; aborts_fit = alone.aborts_fit; ends = record { legal = alone.legal; rows = same } } },
        h.0,
      )

  pub whole_lacks : (left : List Row) → left ≡ listed (replay (map_of opening.rows) entries) → ((left ≡ stood_for logs) × LoggedIn opening entries logs opening.had.items → ⊥) → BearOut script opening entries logs → ⊥
  whole_lacks left left_is wrong b = wrong (left_is ∙ ap listed b.sound.ends.rows, b.sound.logged)

-- ---- of a disk

pub by_reads : {X : Type 0} (a b : Option Contents) (n k : ℕ) (Is : X → Contents → Type 0) (r : Result X LogsFault) → Reads a b n k Is r → ReadsBy a b n k Is HasDamage r
by_reads a b n k Is r p = record { ok = p.ok; damaged = p.damaged; failed = p.failed; same = p.same; later = p.later }

abbrev LogsOf : Vec Log Global → Contents → Type 0
LogsOf logs c = AreLogsOf c.logs logs.items

abbrev JudgedBy : Script → Opening → List Entry → Option (List Row) → Contents → Type 0
JudgedBy script opening entries rows c = IsJudged script opening entries c rows

pub judged_whole : (a b : Option Contents) (n k : ℕ) (script : Script) (opening : Opening) (entries : List Entry) (logs : Vec Log Global) (given : List Log) (rows : Option (List Row)) → Reads a b n k LogsOf (Ok logs) → given ≡ logs.items → Judges script opening entries given rows
    → ReadsBy a b n k (JudgedBy script opening entries) HasDamage (Ok rows)
judged_whole a b n k script opening entries logs given rows p same judges =
    reads_to a b n k LogsOf HasDamage logs (JudgedBy script opening entries) HasDamage (Ok rows) (by_reads a b n k LogsOf (Ok logs) p) (λ c are. record { logs = logs.items; are = are; judges = subst (λ (ls : List Log). Judges script opening entries ls rows) same judges })
    (λ i l h. absurd (no_error i l h)) (λ h. no_failure h)
  where
    no_error : (i l : ℕ) → IsErrOf {T = Option (List Row)} {E = LogsFault} (Ok rows) (Damaged i l) → ⊥
    no_error i l h = cc

    no_failure : IsErrOf {T = Option (List Row)} {E = LogsFault} (Ok rows) Failed → ⊥
    no_failure h = cc

-- memory was wanting
pub whole_wanting : {Y : Type 0} (a b : Option Contents) (n k : ℕ) (logs : Vec Log Global) (IsR : Y → Contents → Type 0) (r : Result Y LogsFault) → Reads a b n k LogsOf (Ok logs) → IsErrAnd r (λ (z : LogsFault). z ≡ NoMemory) → ReadsBy a b n k IsR HasDamage r
whole_wanting a b n k logs IsR r p is =
    err_to a b n k LogsOf HasDamage logs IsR HasDamage NoMemory r is (by_reads a b n k LogsOf (Ok logs) p) (λ i l h. absurd (no_damage i l h)) (λ h. no_failure h)
  where
    no_damage : (i l : ℕ) → NoMemory ≡ Damaged i l → ⊥
    no_damage i l h = cc

    no_failure : NoMemory ≡ Failed → ⊥
    no_failure h = cc

-- ---- of a disk whose logs had no record

abbrev FreshOf : Vec Log Global → Contents → Type 0
FreshOf logs c = AreReadSo c.logs logs.items

pub judged_fresh : (a b : Option Contents) (n k : ℕ) (script : Script) (opening : Opening) (entries : List Entry) (logs : Vec Log Global) (given : List Log) (rows : Option (List Row)) → HadNone opening.had.items → ReadsBy a b n k FreshOf HasDamage (Ok logs) → given ≡ logs.items
    → Judges script opening entries given rows → ReadsBy a b n k (JudgedBy script opening entries) HasDamage (Ok rows)
judged_fresh a b n k script opening entries logs given rows none p same judges =
    reads_to a b n k FreshOf HasDamage logs (JudgedBy script opening entries) HasDamage (Ok rows) p
    (λ c read. record { logs = read.whole; are = read.are; judges = judges_alike script opening entries c.logs read.whole logs.items none read.are read.so rows (subst (λ (ls : List Log). Judges script opening entries ls rows) same judges) })
    (λ i l h. absurd (no_error i l h)) (λ h. no_failure h)
  where
    no_error : (i l : ℕ) → IsErrOf {T = Option (List Row)} {E = LogsFault} (Ok rows) (Damaged i l) → ⊥
    no_error i l h = cc

    no_failure : IsErrOf {T = Option (List Row)} {E = LogsFault} (Ok rows) Failed → ⊥
    no_failure h = cc

-- memory was wanting
pub fresh_wanting : {Y : Type 0} (a b : Option Contents) (n k : ℕ) (logs : Vec Log Global) (IsR : Y → Contents → Type 0) (r : Result Y LogsFault) → ReadsBy a b n k FreshOf HasDamage (Ok logs) → IsErrAnd r (λ (z : LogsFault). z ≡ NoMemory) → ReadsBy a b n k IsR HasDamage r
fresh_wanting a b n k logs IsR r p is = err_to a b n k FreshOf HasDamage logs IsR HasDamage NoMemory r is p (λ i l h. absurd (no_damage i l h)) (λ h. no_failure h)
  where
    no_damage : (i l : ℕ) → NoMemory ≡ Damaged i l → ⊥
    no_damage i l h = cc

    no_failure : NoMemory ≡ Failed → ⊥
    no_failure h = cc

-- ---- by blocks, and else whole

undamaged : {X : Type 0} (a b : Option Contents) (n k : ℕ) (Is : X → Contents → Type 0) (r : Result X LogsFault) → ((member at : ℕ) → IsErrOf r (Damaged member at) → ⊥) → ReadsBy a b n k Is BreaksAt r → ReadsBy a b n k Is HasDamage r
undamaged a b n k Is r none p = record { ok = p.ok; damaged = λ member at is. absurd (none member at is); failed = p.failed; same = p.same; later = p.later }

read_well : {X : Type 0} (x : X) (member at : ℕ) → IsErrOf {T = X} {E = LogsFault} (Ok x) (Damaged member at) → ⊥
read_well x member at is = cc

other_fault : {X : Type 0} (f : LogsFault) → ((member at : ℕ) → f ≡ Damaged member at → ⊥) → (member at : ℕ) → IsErrOf {T = X} {E = LogsFault} (Err f) (Damaged member at) → ⊥
other_fault {X = X} f other member at is = other member at (same_fault {Y = X} f (Damaged member at) is)

pub blocks_read : {X : Type 0} (a b : Option Contents) (n k : ℕ) (Is : X → Contents → Type 0) (first : Result X LogsFault) (x : X) → first ≡ Ok x → ReadsBy a b n k Is BreaksAt first → ReadsBy a b n k Is HasDamage (Ok x)
blocks_read {X = X} a b n k Is first x is p = undamaged a b n k Is (Ok x) (read_well x) (subst (λ (r : Result X LogsFault). ReadsBy a b n k Is BreaksAt r) is p)

pub blocks_unread : {X : Type 0} (a b : Option Contents) (n k : ℕ) (Is : X → Contents → Type 0) (first : Result X LogsFault) (x f : LogsFault) → first ≡ Err x → x ≡ f → ((member at : ℕ) → f ≡ Damaged member at → ⊥) → ReadsBy a b n k Is BreaksAt first → ReadsBy a b n k Is HasDamage (Err f)
blocks_unread {X = X} a b n k Is first x f is its other p =
    undamaged a b n k Is (Err f) (other_fault {X = X} f other) (subst (λ (z : LogsFault). ReadsBy {T = X} a b n k Is BreaksAt (Err z)) its (subst (λ (r : Result X LogsFault). ReadsBy a b n k Is BreaksAt r) is p))

pub failed_is : (member at : ℕ) → Failed ≡ Damaged member at → ⊥
failed_is member at e = cc

pub wanting_is : (member at : ℕ) → NoMemory ≡ Damaged member at → ⊥
wanting_is member at e = cc

later_rose : (n k m : ℕ) → n ≤ k → Rose k m → Rose n m
later_rose n k m le rose = omega arith

pub whole_behind : {X : Type 0} (a b e : Option Contents) (n k m : ℕ) (Is : X → Contents → Type 0) (first r : Result X LogsFault) → ReadsBy a b n k Is BreaksAt first → ReadsBy b e k m Is HasDamage r → ReadsBy a e n m Is HasDamage r
whole_behind a b e n k m Is first r p q = record {
  ok = IfOk-weaker r (λ x. WhenTold b (Is x)) (λ x. WhenTold a (Is x)) (λ x w. held_before a b (Is x) p.same w) q.ok;
  damaged = λ member at is. held_before a b (HasDamage member at) p.same (q.damaged member at is);
  failed = λ is. later_rose n k m p.later (q.failed is);
  same = same_on a b e p.same q.same;
  later = omega (arith, p.later, q.later);
}
