-- The survey of all logs, and what the rows stand for.
use Rattle.std.proofs.Common.{◌≡◌, ℕ, ◌+◌, ◌-◌, ◌<◌, Bool, false, List, [], ◌∷◌, ◌++◌, length, take, get_or, Option, Some, None, Ok, refl, sym, ap, subst, ◌∙◌, arith}
use Rattle.std.specs.Prelude.{IsErrOf}
use Rattle.std.proofs.lemmas.List.{append-nil, map-append, take_all, take_more}
use Rattle.std.proofs.lemmas.List.Concat.{flat_map-append}
use Rattle.ds_disk.specs.Contents.{Contents, log_of, WhenTold}
use Rattle.ds_model.specs.declared.log.LogRecord.{LogRecord}
use Rattle.log_record.specs.declared.log.Log.{Log}
use Rattle.log_record.specs.Logs.{IsLogOf}
use Rattle.log_merge.specs.Merging.{RisesFrom, all_records, NoneFalls}
use Rattle.ds_base.specs.declared.row.Row.{Row}
use Rattle.opening_rows.specs.declared.fault.LogsFault.{LogsFault}
use Rattle.opening_rows.specs.declared.fault.LogsFault.TheVariants.{Failed, Damaged}
use Rattle.opening_rows.specs.declared.opening.Opening.{Opening}
use Rattle.opening_rows.specs.Reading.{AreLogsOf, ReadsBy}
use Rattle.opening_rows.specs.Opening.{record_counts, stood_for, OpensAs}
use Rattle.opening_rows.specs.Pending.{is_pending}
use Rattle.opening_rows.specs.Survey.{IsSurveyed}
use Rattle.opening_rows.specs.Surveyed.{lengths_of, AreSurveyed}
use Rattle.opening_rows.specs.Rows.{AreSurveyedAs}
use Rattle.opening_rows.proofs.Told.{reads_on, reads_to}
use Rattle.opening_rows.proofs.Committing.{pending_more}

-- ---- one log more

pushed : (bss : List (List ℕ)) (logs : List Log) (bs : List ℕ) (log : Log) → AreLogsOf bss logs → IsLogOf bs log → AreLogsOf (bss ++ bs ∷ []) (logs ++ log ∷ [])
pushed [] [] bs log are is = (is, tt)
pushed [] (l ∷ logs) bs log are is = absurd are
pushed (b ∷ bss) [] bs log are is = absurd are
pushed (b ∷ bss) (l ∷ logs) bs log are is = (are.0, pushed bss logs bs log are.1 is)

none_more : (logs : List Log) (log : Log) → NoneFalls logs → RisesFrom 0 log.records → NoneFalls (logs ++ log ∷ [])
none_more [] log h is = (is, tt)
none_more (l ∷ ls) log h is = (h.0, none_more ls log h.1 is)

records_more : (logs : List Log) (log : Log) → all_records (logs ++ log ∷ []) ≡ all_records logs ++ log.records
records_more logs log = flat_map-append (λ (l : Log). l.records) logs (log ∷ []) ∙ ap (λ (t : List LogRecord). all_records logs ++ t) (append-nil log.records)

pending_on : (logs : List Log) (log : Log) (tran : ℕ) → is_pending tran false (all_records (logs ++ log ∷ [])) ≡ is_pending tran (is_pending tran false (all_records logs)) log.records
pending_on logs log tran = ap (λ (l : List LogRecord). is_pending tran false l) (records_more logs log) ∙ pending_more tran false (all_records logs) log.records

at_place : (n : ℕ) → n + 1 - 1 ≡ n
at_place n = omega arith

pub more_surveyed : (bss : List (List ℕ)) (n member end count : ℕ) (ends had ends_now had_now : List ℕ) (before now : ℕ → Bool) → n < 32 → member ≡ n + 1 → length bss ≡ 32 → AreSurveyed (take n bss) ends had before
    → IsSurveyed (log_of bss member) end count before now → ends_now ≡ ends ++ end ∷ [] → had_now ≡ had ++ count ∷ [] → AreSurveyed (take (n + 1) bss) ends_now had_now now
more_surveyed bss n member end count ends had ends_now had_now before now lt its long s one ends_is had_is =
    let log : Log = one.log in
    let bytes : List ℕ = get_or bss n [] in
    let at : member - 1 ≡ n = ap (λ (k : ℕ). k - 1) its ∙ at_place n in
    let is : IsLogOf bytes log = subst (λ (i : ℕ). IsLogOf (get_or bss i []) log) at one.is_log in
    let more : take (n + 1) bss ≡ take n bss ++ bytes ∷ [] = take_more bss n [] (omega (arith, lt, long)) in
    record {
      logs = s.logs ++ log ∷ [];
      are = subst (λ (t : List (List ℕ)). AreLogsOf t (s.logs ++ log ∷ [])) (sym more) (pushed (take n bss) s.logs bytes log s.are is);
      rise = none_more s.logs log s.rise one.rises;
      ends_are = ends_is ∙ ap (λ (l : List ℕ). l ++ end ∷ []) s.ends_are ∙ ap (λ (k : ℕ). lengths_of s.logs ++ k ∷ []) one.end_is ∙ sym (map-append (λ (l : Log). l.length) s.logs (log ∷ []));
      had_are = had_is ∙ ap (λ (l : List ℕ). l ++ count ∷ []) s.had_are ∙ ap (λ (k : ℕ). record_counts s.logs ++ k ∷ []) one.count_is ∙ sym (map-append (λ (l : Log). length l.records) s.logs (log ∷ []));
      pending_are = λ tran. one.pending_are tran ∙ ap (λ (b : Bool). is_pending tran b log.records) (s.pending_are tran) ∙ sym (pending_on s.logs log tran);
    }

pub none_surveyed : (bss : List (List ℕ)) (now : ℕ → Bool) → ((tran : ℕ) → now tran ≡ false) → AreSurveyed (take 0 bss) [] [] now
none_surveyed bss now none = record { logs = []; are = tt; rise = tt; ends_are = refl; had_are = refl; pending_are = none }

pub all_surveyed : (a : Option Contents) (n : ℕ) (ends had : List ℕ) (now : ℕ → Bool) → n ≡ 32 → ((c : Contents) → a ≡ Some c → length c.logs ≡ 32)
    → WhenTold a (λ c. length c.logs ≡ 32 → AreSurveyed (take n c.logs) ends had now) → WhenTold a (λ c. AreSurveyed c.logs ends had now)
all_surveyed None n ends had now is law s = tt
all_surveyed (Some c) n ends had now is law s =
    let long : length c.logs ≡ 32 = law c refl in
    subst (λ (bss : List (List ℕ)). AreSurveyed bss ends had now) (take_all n c.logs (omega (arith, is, long))) (s long)

-- ---- what they tell

pub opens : (c : Contents) (ends : List ℕ) (now : ℕ → Bool) (opening : Opening) → AreSurveyed c.logs ends opening.had.items now
    → ((logs : List Log) → AreSurveyedAs c.logs ends now logs → opening.rows ≡ stood_for logs) → OpensAs c opening
opens c ends now opening s rows = record {
  logs = s.logs;
  are = s.are;
  rise = s.rise;
  is = record { rows_are = rows s.logs (record { are = s.are; rise = s.rise; ends_are = s.ends_are; pending_are = s.pending_are }); had_is = s.had_are };
}

pub surveyed_as : (bytes : List (List ℕ)) (ends had : List ℕ) (now : ℕ → Bool) (s : AreSurveyed bytes ends had now) → AreSurveyedAs bytes ends now s.logs
surveyed_as bytes ends had now s = record { are = s.are; rise = s.rise; ends_are = s.ends_are; pending_are = s.pending_are }

pub opened : {X : Type 0} (a b e : Option Contents) (n k m : ℕ) (IsP : X → Contents → Type 0) (x : X) (ends had : List ℕ) (now : ℕ → Bool) (rows : List Row) (opening : Opening) (BadP BadQ BadR : ℕ → ℕ → Contents → Type 0)
    → ReadsBy a b n k IsP BadP (Ok x) → ((c : Contents) → IsP x c → AreSurveyed c.logs ends had now) → ReadsBy b e k m (λ (r : List Row) (c : Contents). (logs : List Log) → AreSurveyedAs c.logs ends now logs → r ≡ stood_for logs) BadQ (Ok rows)
    → opening.rows ≡ rows → opening.had.items ≡ had → ReadsBy a e n m (λ (o : Opening) c. OpensAs c o) BadR (Ok opening)
opened a b e n k m IsP x ends had now rows opening BadP BadQ BadR p f q rows_is had_is =
    let on : ReadsBy a e n m (λ (r : List Row) c. r ≡ rows → OpensAs c opening) BadQ (Ok rows) =
    reads_on a b e n k m IsP BadP x (λ (r : List Row) c. (logs : List Log) → AreSurveyedAs c.logs ends now logs → r ≡ stood_for logs) (λ (r : List Row) c. r ≡ rows → OpensAs c opening) BadQ BadQ (Ok rows) p q
    (λ r c s told is. opens c ends now opening (subst (λ (l : List ℕ). AreSurveyed c.logs ends l now) (sym had_is) (f c s)) (λ logs at. rows_is ∙ sym is ∙ told logs at)) (λ i l c s bad. bad) in
    reads_to a e n m (λ (r : List Row) c. r ≡ rows → OpensAs c opening) BadQ rows (λ (o : Opening) c. OpensAs c o) BadR (Ok opening) on (λ c is. is refl) (λ i l h. absurd (no_error i l h)) (λ h. no_failure h)
  where
    no_error : (i l : ℕ) → IsErrOf {T = Opening} {E = LogsFault} (Ok opening) (Damaged i l) → ⊥
    no_error i l h = cc

    no_failure : IsErrOf {T = Opening} {E = LogsFault} (Ok opening) Failed → ⊥
    no_failure h = cc
