-- A number that is sought in all logs.
use Rattle.std.proofs.Common.{◌≡◌, ℕ, ◌+◌, Bool, true, false, cond, List, [], ◌∷◌, length, Option, Some, None, Result, refl, sym, ap, ◌∙◌}
use Rattle.std.specs.Prelude.{◌==◌}
use Rattle.ds_disk.specs.Contents.{Contents}
use Rattle.ds_disk.specs.declared.disk.DiskError.{DiskError}
use Rattle.ds_model.specs.declared.log.LogRecord.{LogRecord}
use Rattle.ds_model.specs.RecordBytes.{record_bytes}
use Rattle.log_record.specs.declared.log.Log.{Log}
use Rattle.disk_spots.specs.declared.spot.Spot.{Spot}
use Rattle.disk_spots.specs.declared.spot.Spot.TheVariants as spot
use Rattle.disk_spots.specs.Spots.{place_from, spot_of, has_drawn, drawn_place_from, drawn_spot_of, or_behind}
use Rattle.disk_walk.specs.Reading.{Reads}
use Rattle.disk_walk.specs.Whole.{OfWholeLogs}
use Rattle.disk_walk.proofs.Reading.{reads_as}
use Rattle.fitting_records.specs.Sought.{is_sought, place_of, spot_in, IsSpotIn}
use Rattle.fitting_records.specs.Telling.{IsSpotOf, IsDrawnSpotOf}

-- ---- what is sought

place_is : (number at : ℕ) (rs : List LogRecord) → place_of false number at rs ≡ place_from number at rs
place_is number at [] = refl
place_is number at (r ∷ rs) = ap (cond (r.lrsn == number) (Some at)) (place_is number (at + length (record_bytes r)) rs)

drawn_is : (number at : ℕ) (rs : List LogRecord) → place_of true number at rs ≡ drawn_place_from number at rs
drawn_is number at [] = refl
drawn_is number at (r ∷ rs) = ap (cond (has_drawn number r) (Some at)) (drawn_is number (at + length (record_bytes r)) rs)

spot_is : (number : ℕ) (logs : List Log) → spot_in false number logs ≡ spot_of number logs
spot_is number [] = refl
spot_is number (l ∷ ls) = ap (λ (o : Option Spot). or_behind o l.member (place_of false number 0 l.records)) (spot_is number ls) ∙ ap (or_behind (spot_of number ls) l.member) (place_is number 0 l.records)

drawn_spot_is : (number : ℕ) (logs : List Log) → spot_in true number logs ≡ drawn_spot_of number logs
drawn_spot_is number [] = refl
drawn_spot_is number (l ∷ ls) = ap (λ (o : Option Spot). or_behind o l.member (place_of true number 0 l.records)) (drawn_spot_is number ls) ∙ ap (or_behind (drawn_spot_of number ls) l.member) (drawn_is number 0 l.records)

pub number_told : (a b : Option Contents) (n k : ℕ) (ends : List ℕ) (number : ℕ) (result : Result (Option Spot) DiskError) → Reads a b n k (λ (found : Option Spot) c. OfWholeLogs ends (IsSpotIn false number found) c) result
    → Reads a b n k (λ (found : Option Spot) c. OfWholeLogs ends (IsSpotOf number found) c) result
number_told a b n k ends number result h =
    reads_as a b n k (λ (found : Option Spot) c. OfWholeLogs ends (IsSpotIn false number found) c) (λ (found : Option Spot) c. OfWholeLogs ends (IsSpotOf number found) c) result h
    (λ c found its logs whole is. its logs whole is ∙ spot_is number logs)

pub drawn_told : (a b : Option Contents) (n k : ℕ) (ends : List ℕ) (number : ℕ) (result : Result (Option Spot) DiskError) → Reads a b n k (λ (found : Option Spot) c. OfWholeLogs ends (IsSpotIn true number found) c) result
    → Reads a b n k (λ (found : Option Spot) c. OfWholeLogs ends (IsDrawnSpotOf number found) c) result
drawn_told a b n k ends number result h =
    reads_as a b n k (λ (found : Option Spot) c. OfWholeLogs ends (IsSpotIn true number found) c) (λ (found : Option Spot) c. OfWholeLogs ends (IsDrawnSpotOf number found) c) result h
    (λ c found its logs whole is. its logs whole is ∙ drawn_spot_is number logs)

-- ---- one record, and one log

-- nothing is kept of the records before
abbrev pub places : Bool → ℕ → ℕ → ℕ → List LogRecord → Option ℕ
places drawn number state at rs = place_of drawn number at rs

pub passes_by : (drawn : Bool) (number at : ℕ) (r : LogRecord) (rest : List LogRecord) (b : Bool) → b ≡ is_sought drawn number r → b ≡ false → place_of drawn number at (r ∷ rest) ≡ place_of drawn number (at + length (record_bytes r)) rest
passes_by drawn number at r rest b is fails_it = ap (λ (x : Bool). cond x (Some at) (place_of drawn number (at + length (record_bytes r)) rest)) (sym is ∙ fails_it)

pub stops_at : (drawn : Bool) (number at place : ℕ) (r : LogRecord) (rest : List LogRecord) (b : Bool) → b ≡ is_sought drawn number r → b ≡ true → place ≡ at → place_of drawn number at (r ∷ rest) ≡ Some place
stops_at drawn number at place r rest b is holds_it here = ap (λ (x : Bool). cond x (Some at) (place_of drawn number (at + length (record_bytes r)) rest)) (sym is ∙ holds_it) ∙ ap Some (sym here)

abbrev pub spots : Bool → ℕ → ℕ → List Log → Option Spot
spots drawn number state logs = spot_in drawn number logs

pub log_by : (drawn : Bool) (number member : ℕ) (found : Option ℕ) (log : Log) (rest : List Log) → found ≡ None → log.member ≡ member → found ≡ place_of drawn number 0 log.records → spot_in drawn number (log ∷ rest) ≡ spot_in drawn number rest
log_by drawn number member found log rest none is e = ap (or_behind (spot_in drawn number rest) log.member) (sym e ∙ none)

pub log_stops : (drawn : Bool) (number member at : ℕ) (found : Option ℕ) (log : Log) (rest : List Log) → found ≡ Some at → log.member ≡ member → found ≡ place_of drawn number 0 log.records → spot_in drawn number (log ∷ rest) ≡ Some (spot.Log member at)
log_stops drawn number member at found log rest some is e = ap (or_behind (spot_in drawn number rest) log.member) (sym e ∙ some) ∙ ap (λ (m : ℕ). Some (spot.Log m at)) is
