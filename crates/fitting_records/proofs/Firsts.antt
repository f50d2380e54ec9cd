-- The first record that doesn't fit by what is seen is the first that breaks the clause.
use Rattle.std.proofs.Common.{◌≡◌, ℕ, ◌+◌, Bool, true, false, cond, List, [], ◌∷◌, ◌++◌, length, Option, Some, None, Result, Ok, Err, refl, sym, ap, subst, ◌∙◌, arith, append_assoc, length-append}
use Rattle.std.proofs.lemmas.Grind.{flat_map-append}
use Rattle.std.proofs.lemmas.List.{append-nil}
use Rattle.ds_model.specs.declared.log.LogRecord.{LogRecord}
use Rattle.ds_model.specs.RecordBytes.{record_bytes, log_bytes}
use Rattle.log_record.specs.declared.log.Log.{Log}
use Rattle.log_merge.specs.Merging.{all_records}
use Rattle.disk_spots.specs.declared.spot.Spot.{Spot}
use Rattle.disk_spots.specs.declared.spot.Spot.TheVariants as spot
use Rattle.sound_disk.specs.Transactions.{AreTransactions}
use Rattle.fitting_records.specs.Breaches.{cut_to, IsFirstBreach, IsRecordOf}
use Rattle.fitting_records.specs.Fitting.{Seen, nothing_seen, fits, seen_with, behind_log, fitted_from, goes_on, unfit_among}
use Rattle.fitting_records.proofs.Knowing.{Knows, knows_none, knows_more, knows_behind, stands_where_it_fits, fits_where_it_stands}
use Rattle.fitting_records.specs.Telling.{AreFitTold}
use Rattle.fitting_records.proofs.Fronts.{records_with, Fits, fits_begin, fits_whole, whole_fits, fits_more, last_may_stand, fits_less, front_holds}

-- ---- one log

-- of these records of a log, behind those that fit
record Misfit (front : List Log) (before rs : List LogRecord) (at : ℕ) : Type 0 where
  middle : List LogRecord
  it : LogRecord
  behind : List LogRecord
  rest_is : rs ≡ middle ++ it ∷ behind
  holds : Fits front (before ++ middle)
  breaks : Fits front ((before ++ middle) ++ it ∷ []) → ⊥
  place : at ≡ length (log_bytes (before ++ middle))

-- what it comes to that the records were passed, or that one of them doesn't fit
abbrev Passed : List Log → List LogRecord → List LogRecord → Result Seen ℕ → Type 0
Passed front before rs (Ok seen) = Knows (all_records front) (before ++ rs) seen × Fits front (before ++ rs)
Passed front before rs (Err at) = Misfit front before rs at

further : (front : List Log) (before : List LogRecord) (r : LogRecord) (rs : List LogRecord) (result : Result Seen ℕ) → Passed front (before ++ r ∷ []) rs result → Passed front before (r ∷ rs) result
further front before r rs (Ok seen) h =
    subst (λ (l : List LogRecord). Knows (all_records front) l seen × Fits front l) (append_assoc before (r ∷ []) rs) h
further front before r rs (Err at) h = record {
  middle = r ∷ h.middle;
  it = h.it;
  behind = h.behind;
  rest_is = ap (λ (l : List LogRecord). r ∷ l) h.rest_is;
  holds = subst (λ (l : List LogRecord). Fits front l) (append_assoc before (r ∷ []) h.middle) h.holds;
  breaks = subst (λ (l : List LogRecord). Fits front (l ++ h.it ∷ []) → ⊥) (append_assoc before (r ∷ []) h.middle) h.breaks;
  place = h.place ∙ ap (λ (l : List LogRecord). length (log_bytes l)) (append_assoc before (r ∷ []) h.middle);
}

place_behind : (before : List LogRecord) (r : LogRecord) (at : ℕ) → at ≡ length (log_bytes before) → at + length (record_bytes r) ≡ length (log_bytes (before ++ r ∷ []))
place_behind before r at h =
    let e : length (log_bytes (before ++ r ∷ [])) ≡ length (log_bytes before ++ (record_bytes r ++ [])) = ap (λ (l : List ℕ). length l) (flat_map-append record_bytes before (r ∷ [])) in
    let f : length (log_bytes before ++ (record_bytes r ++ [])) ≡ length (log_bytes before) + length (record_bytes r ++ []) = length-append (log_bytes before) (record_bytes r ++ []) in
    let g : length (record_bytes r ++ []) ≡ length (record_bytes r) = ap (λ (l : List ℕ). length l) (append-nil (record_bytes r)) in
    omega (arith, e, f, g, h)

not_both : (b : Bool) → b ≡ false → b ≡ true → ⊥
not_both true h k = absurd cc
not_both false h k = absurd cc

one_more : (front : List Log) (before : List LogRecord) (r : LogRecord) (rs : List LogRecord) (seen : Seen) (at : ℕ) (b : Bool) (more : Result Seen ℕ) → fits seen r ≡ b
    → Knows (all_records front) before seen → Fits front before → at ≡ length (log_bytes before)
    → (fits seen r ≡ true → Passed front (before ++ r ∷ []) rs more) → Passed front before (r ∷ rs) (cond b more (Err at))
one_more front before r rs seen at true more e k f p go = further front before r rs more (go e)
one_more front before r rs seen at false more e k f p go = record {
  middle = [];
  it = r;
  behind = rs;
  rest_is = refl;
  holds = subst (λ (l : List LogRecord). Fits front l) (sym (append-nil before)) f;
  breaks = λ h. not_both (fits seen r) e (fits_where_it_stands (all_records front) before seen r k
      (last_may_stand front before r (subst (λ (l : List LogRecord). Fits front (l ++ r ∷ [])) (append-nil before) h)));
  place = p ∙ ap (λ (l : List LogRecord). length (log_bytes l)) (sym (append-nil before));
}

passes : (front : List Log) (before rs : List LogRecord) (seen : Seen) (at : ℕ) → Knows (all_records front) before seen → Fits front before → at ≡ length (log_bytes before)
    → Passed front before rs (fitted_from seen at rs)
passes front before [] seen at k f p =
    subst (λ (l : List LogRecord). Knows (all_records front) l seen × Fits front l) (sym (append-nil before)) (k, f)
passes front before (r ∷ rs) seen at k f p =
    one_more front before r rs seen at (fits seen r) (fitted_from (seen_with seen r) (at + length (record_bytes r)) rs) refl k f p
    (λ e. passes front (before ++ r ∷ []) rs (seen_with seen r) (at + length (record_bytes r)) (knows_more (all_records front) before seen r e k)
    (fits_more front before r f (stands_where_it_fits (all_records front) before seen r k e)) (place_behind before r at p))

-- ---- all logs

-- no record is found where the clause holds; else it is the first breach
abbrev Told : List Log → Option Spot → Type 0
Told logs None = AreTransactions logs
Told logs (Some s) = IsRecordOf (IsFirstBreach AreTransactions logs) s

told_same : (ls ms : List Log) (o : Option Spot) → ls ≡ ms → Told ls o → Told ms o
told_same ls ms o e h = subst (λ (l : List Log). Told l o) e h

breach : (front : List Log) (log : Log) (back : List Log) (at : ℕ) → Misfit front [] log.records at → IsFirstBreach AreTransactions (front ++ log ∷ back) log.member at
breach front log back at m = record {
  front = front;
  log = log;
  back = back;
  split = refl;
  before = m.middle;
  it = m.it;
  behind = m.behind;
  records_are = m.rest_is;
  holds = fits_whole front (cut_to log m.middle) m.holds;
  breaks = λ h. m.breaks (whole_fits front (cut_to log (m.middle ++ m.it ∷ [])) h);
  member_is = refl;
  place = m.place;
}

log_told : (front : List Log) (log : Log) (back : List Log) (result : Result Seen ℕ) → Passed front [] log.records result
    → ((seen : Seen) → Knows (all_records (front ++ log ∷ [])) [] (behind_log seen log.records) → AreTransactions (front ++ log ∷ []) → Told (front ++ log ∷ back) (unfit_among (behind_log seen log.records) back))
    → Told (front ++ log ∷ back) (goes_on (λ s. unfit_among (behind_log s log.records) back) log.member result)
log_told front log back (Ok seen) h go =
    go seen (subst (λ (l : List LogRecord). Knows l [] (behind_log seen log.records)) (sym (records_with front log)) (knows_behind (all_records front) log.records seen h.0))
    (fits_whole front log h.1)
log_told front log back (Err at) h go = breach front log back at h

all_told : (front logs : List Log) (seen : Seen) → Knows (all_records front) [] seen → AreTransactions front → Told (front ++ logs) (unfit_among seen logs)
all_told front [] seen k h = subst (λ (l : List Log). AreTransactions l) (sym (append-nil front)) h
all_told front (log ∷ logs) seen k h =
    log_told front log logs (fitted_from seen 0 log.records) (passes front [] log.records seen 0 k (fits_begin front h) refl)
    (λ s ks hs. told_same ((front ++ log ∷ []) ++ logs) (front ++ log ∷ logs) (unfit_among (behind_log s log.records) logs) (append_assoc front (log ∷ []) logs)
    (all_told (front ++ log ∷ []) logs (behind_log s log.records) ks hs))

none_hold : AreTransactions []
none_hold = record { numbers = refl; homes = refl; follow = tt }

logs_told : (logs : List Log) → Told logs (unfit_among nothing_seen logs)
logs_told logs = all_told [] logs nothing_seen knows_none none_hold

-- ---- what is told

one_told : (logs : List Log) (o : Option Spot) → o ≡ unfit_among nothing_seen logs → Told logs o
one_told logs o e = subst (λ (x : Option Spot). Told logs x) (sym e) (logs_told logs)

-- ---- logs with a breach

whole_breach : (logs : List Log) (member at : ℕ) → IsFirstBreach AreTransactions logs member at → AreTransactions logs → ⊥
whole_breach logs member at b h =
    let whole : AreTransactions (b.front ++ b.log ∷ b.back) = subst (λ (l : List Log). AreTransactions l) b.split h in
    let some : AreTransactions ((b.front ++ b.log ∷ []) ++ b.back) = subst (λ (l : List Log). AreTransactions l) (sym (append_assoc b.front (b.log ∷ []) b.back)) whole in
    let log : Fits b.front b.log.records = whole_fits b.front b.log (front_holds (b.front ++ b.log ∷ []) b.back some) in
    let split : Fits b.front ((b.before ++ b.it ∷ []) ++ b.behind) =
    subst (λ (l : List LogRecord). Fits b.front l) (b.records_are ∙ sym (append_assoc b.before (b.it ∷ []) b.behind)) log in
    b.breaks (fits_whole b.front (cut_to b.log (b.before ++ b.it ∷ [])) (fits_less b.front (b.before ++ b.it ∷ []) b.behind split))

record_breach : (logs : List Log) (s : Spot) → IsRecordOf (IsFirstBreach AreTransactions logs) s → AreTransactions logs → ⊥
record_breach logs (spot.Page id) h k = absurd h
record_breach logs (spot.Log member at) h k = whole_breach logs member at h k

-- what is told of the first record that doesn't fit
pub fit_told : (logs : List Log) (o : Option Spot) → o ≡ unfit_among nothing_seen logs → AreFitTold o logs
fit_told logs None e = one_told logs None e
fit_told logs (Some s) e = (record_breach logs s (one_told logs (Some s) e), one_told logs (Some s) e)
