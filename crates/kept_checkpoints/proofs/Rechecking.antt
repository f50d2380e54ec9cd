-- A second reading finds the first Checkpoint whose offset may not stand there, and tells what the records need.
use Rattle.std.proofs.Common.{◌≡◌, ℕ, ◌+◌, ◌<◌, ◌≤◌, Bool, true, false, cond, List, [], ◌∷◌, ◌++◌, length, map, Option, Some, None, is_some, refl, sym, ap, subst, ◌∙◌, arith}
use Rattle.std.specs.Prelude.{◌==◌, nat_lt, not, ◌||◌, ◌&&◌}
use Rattle.std.specs.List.{list_all, flat_map}
use Rattle.std.specs.Ordering.{nat_cmp}
use Rattle.std.specs.FinMap.{get, insert, empty, get-empty}
use Rattle.std.proofs.lemmas.Bool.Decides.{nat_tests}
use Rattle.ds_model.specs.declared.log.LogRecord.{LogRecord}
use Rattle.ds_model.specs.declared.log.Body.{Body}
use Rattle.ds_model.specs.declared.log.Body.TheVariants as body
use Rattle.ds_model.specs.RecordBytes.{record_bytes}
use Rattle.page_redo.specs.Pages.{pages_of}
use Rattle.sound_disk.specs.Settled.{has_ended}
use Rattle.sound_disk.specs.Checkpoints.{next_place, offset_or, start_from, start_of, records_before}
use Rattle.sound_disk.specs.Transactions.{drawn_numbers, all_differ, EachFollows}
use Rattle.kept_checkpoints.specs.declared.needs.Need.{Need}
use Rattle.kept_checkpoints.specs.declared.scan.LogScan.{LogScan}
use Rattle.kept_checkpoints.specs.declared.recheck.Recheck.{Recheck}
use Rattle.kept_checkpoints.specs.Offsets.{Places, fits_among, with_place, bad_among, bad_offset}
use Rattle.kept_checkpoints.specs.Needs.{need_of, is_unended, needs_by, needs_in}
use Rattle.kept_checkpoints.specs.Scan.{Open, with_offset, nothing_scanned, scanned, scan_from}
use Rattle.kept_checkpoints.specs.Recheck.{met_with, begun, rechecked, fits_now, Rechecked, recheck_from, is_unended_in, needs_left, needs_from, recheck_of, RecheckTells, NeedsAreLeft}
use Rattle.kept_checkpoints.proofs.Places.{has_put, bad_is}
use Rattle.kept_checkpoints.proofs.Exactly.{settled_from, open_of, exact}

-- ---- the offsets of a log are known

and_both : (a b : Bool) → a ≡ true → b ≡ true → (a && b) ≡ true
and_both true b h k = k
and_both false b h k = h

and_left : (a b : Bool) → (a && b) ≡ true → a ≡ true
and_left true b h = refl
and_left false b h = h

and_right : (a b : Bool) → (a && b) ≡ true → b ≡ true
and_right true b h = h
and_right false b h = absurd cc

or_right : (a b : Bool) → b ≡ true → (a || b) ≡ true
or_right true b h = refl
or_right false b h = h

itself : (n : ℕ) → (n == n) ≡ true
itself n = grind (arith, nat_tests)

equal : (m n : ℕ) → (m == n) ≡ true → m ≡ n
equal m n e = grind (arith, nat_tests)

-- a Checkpoint's offset is one of these
abbrev there : Places → Body → Bool
there offsets (body.Checkpoint offset) = is_some (get offsets offset)
there offsets (body.RowChange change) = true
there offsets (body.Compensation change undone) = true
there offsets (body.System patches) = true
there offsets body.Commit = true
there offsets body.Ended = true
there offsets body.RestartEnd = true

with_keeps : (offsets : Places) (b : Body) (q : ℕ) → is_some (get offsets q) ≡ true → is_some (get (with_offset offsets b) q) ≡ true
with_keeps offsets (body.Checkpoint offset) q h = has_put offsets offset q ∙ or_right (offset == q) (is_some (get offsets q)) h
with_keeps offsets (body.RowChange change) q h = h
with_keeps offsets (body.Compensation change undone) q h = h
with_keeps offsets (body.System patches) q h = h
with_keeps offsets body.Commit q h = h
with_keeps offsets body.Ended q h = h
with_keeps offsets body.RestartEnd q h = h

keeps : (s : LogScan) (at : ℕ) (rs : List LogRecord) (q : ℕ) → is_some (get s.offsets q) ≡ true → is_some (get (scan_from s at rs).offsets q) ≡ true
keeps s at [] q h = h
keeps s at (r ∷ rs) q h = keeps (scanned s at r) (next_place at r) rs q (with_keeps s.offsets r.body q h)

there_then : (offsets all : Places) (b : Body) → ((q : ℕ) → is_some (get (with_offset offsets b) q) ≡ true → is_some (get all q) ≡ true) → there all b ≡ true
there_then offsets all (body.Checkpoint offset) h = h offset (has_put offsets offset offset ∙ ap (λ (b : Bool). b || is_some (get offsets offset)) (itself offset))
there_then offsets all (body.RowChange change) h = refl
there_then offsets all (body.Compensation change undone) h = refl
there_then offsets all (body.System patches) h = refl
there_then offsets all body.Commit h = refl
there_then offsets all body.Ended h = refl
there_then offsets all body.RestartEnd h = refl

all_there : (s : LogScan) (at : ℕ) (rs : List LogRecord) → list_all (λ (r : LogRecord). there (scan_from s at rs).offsets r.body) rs ≡ true
all_there s at [] = refl
all_there s at (r ∷ rs) =
    and_both (there (scan_from (scanned s at r) (next_place at r) rs).offsets r.body) (list_all (λ (x : LogRecord). there (scan_from (scanned s at r) (next_place at r) rs).offsets x.body) rs)
    (there_then s.offsets (scan_from (scanned s at r) (next_place at r) rs).offsets r.body (λ q h. keeps (scanned s at r) (next_place at r) rs q h)) (all_there (scanned s at r) (next_place at r) rs)

-- ---- the places that are offsets

-- of the offsets those are met that are places
abbrev AreMet : Places → Places → Places → Type 0
AreMet offsets met places = (q : ℕ) → is_some (get offsets q) ≡ true → is_some (get met q) ≡ is_some (get places q)

apart : (x : Bool) → x ≡ true → x ≡ false → ⊥
apart true a b = absurd cc
apart false a b = absurd cc

met_when : (b : Bool) (offsets met places : Places) (at q : ℕ) → is_some (get offsets at) ≡ b → is_some (get offsets q) ≡ true → is_some (get met q) ≡ is_some (get places q)
    → is_some (get (cond b (insert met at true) met) q) ≡ ((at == q) || is_some (get places q))
met_when true offsets met places at q is h same = has_put met at q ∙ ap (λ (b : Bool). (at == q) || b) same
met_when false offsets met places at q is h same = by_test (at == q) refl
  where
    by_test : (c : Bool) → (at == q) ≡ c → is_some (get met q) ≡ (c || is_some (get places q))
    by_test true e = absurd (apart (is_some (get offsets q)) h (ap (λ (n : ℕ). is_some (get offsets n)) (sym (equal at q e)) ∙ is))
    by_test false e = same

met_more : (offsets met places : Places) (at : ℕ) → AreMet offsets met places → AreMet offsets (met_with offsets met at) (with_place places at)
met_more offsets met places at h q some = met_when (is_some (get offsets at)) offsets met places at q refl some (h q some) ∙ sym (has_put places at q)

fits_same : (offsets met places : Places) (b : Body) → there offsets b ≡ true → AreMet offsets met places → fits_among met b ≡ fits_among places b
fits_same offsets met places (body.Checkpoint offset) t h = h offset t
fits_same offsets met places (body.RowChange change) t h = refl
fits_same offsets met places (body.Compensation change undone) t h = refl
fits_same offsets met places (body.System patches) t h = refl
fits_same offsets met places body.Commit t h = refl
fits_same offsets met places body.Ended t h = refl
fits_same offsets met places body.RestartEnd t h = refl

bad_if : (a b : Bool) (x y : Rechecked) (o : Option ℕ) → a ≡ b → x.bad ≡ o → (cond a x y).bad ≡ cond b o y.bad
bad_if true true x y o e h = h
bad_if true false x y o e h = absurd cc
bad_if false true x y o e h = absurd cc
bad_if false false x y o e h = refl

bad_same : (s : Recheck) (places : Places) (at : ℕ) (rs : List LogRecord) → list_all (λ (r : LogRecord). there s.offsets r.body) rs ≡ true → AreMet s.offsets s.met places → (recheck_from s at rs).bad ≡ bad_among places at rs
bad_same s places at [] t h = refl
bad_same s places at (r ∷ rs) t h =
    let more = met_more s.offsets s.met places at h in
    bad_if (fits_now (rechecked s at r) r) (fits_among (with_place places at) r.body) (recheck_from (rechecked s at r) (next_place at r) rs) (record { bad = Some at; left = rechecked s at r }) (bad_among (with_place places at) (next_place at r) rs)
    (fits_same s.offsets (met_with s.offsets s.met at) (with_place places at) r.body (and_left (there s.offsets r.body) (list_all (λ (x : LogRecord). there s.offsets x.body) rs) t) more)
    (bad_same (rechecked s at r) (with_place places at) (next_place at r) rs (and_right (there s.offsets r.body) (list_all (λ (x : LogRecord). there s.offsets x.body) rs) t) more)

pub recheck_tells : RecheckTells
recheck_tells records =
    bad_same (begun (scan_from nothing_scanned 0 records)) empty 0 records (all_there nothing_scanned 0 records) (λ q h. refl) ∙ bad_is records

-- ---- where none is bad

record IsLeft (s t : Recheck) (rs : List LogRecord) : Type 0 where
  start_is : t.start ≡ s.start
  open_is : t.changes ≡ settled_from s.changes rs

left_if : (b : Bool) (s : Recheck) (at : ℕ) (r : LogRecord) (rs : List LogRecord) (x : Rechecked) → (cond b x (record { bad = Some at; left = rechecked s at r })).bad ≡ None → (x.bad ≡ None → IsLeft (rechecked s at r) x.left rs)
    → IsLeft s (cond b x (record { bad = Some at; left = rechecked s at r })).left (r ∷ rs)
left_if true s at r rs x none h = (let l = h none in record { start_is = l.start_is; open_is = l.open_is })
left_if false s at r rs x none h = absurd cc

left_all : (s : Recheck) (at : ℕ) (rs : List LogRecord) → (recheck_from s at rs).bad ≡ None → IsLeft s (recheck_from s at rs).left rs
left_all s at [] none = record { start_is = refl; open_is = refl }
left_all s at (r ∷ rs) none = left_if (fits_now (rechecked s at r) r) s at r rs (recheck_from (rechecked s at r) (next_place at r) rs) none (λ h. left_all (rechecked s at r) (next_place at r) rs h)

start_is : (s : LogScan) (at : ℕ) (rs : List LogRecord) → (scan_from s at rs).start ≡ start_from s.start rs
start_is s at [] = refl
start_is s at (r ∷ rs) = start_is (scanned s at r) (next_place at r) rs

-- ---- what records need

not_or : (a b : Bool) → (not a && not b) ≡ not (a || b)
not_or true b = refl
not_or false b = refl

unended_same : (records : List LogRecord) (r : LogRecord) → EachFollows [] records → all_differ (drawn_numbers records) ≡ true → is_unended_in (open_of records) r ≡ is_unended records r
unended_same records r f differ = ap (λ (b : Bool). not (r.tran == 0) && b) (exact records r.tran f differ) ∙ not_or (r.tran == 0) (has_ended records r.tran)

farther : (at start : ℕ) (r : LogRecord) → nat_lt at start ≡ false → nat_lt (next_place at r) start ≡ false
farther at start r h = behind (length (record_bytes r))
  where
    behind : (n : ℕ) → nat_lt (at + n) start ≡ false
    behind n = grind (arith, nat_tests)

needs_past : (changes : Open) (start at : ℕ) (rs : List LogRecord) → nat_lt at start ≡ false → needs_from changes start at rs ≡ []
needs_past changes start at [] h = refl
needs_past changes start at (r ∷ rs) h =
    ap (λ (b : Bool). cond b (map (need_of (is_unended_in changes r) r.lrsn) (pages_of r)) [] ++ needs_from changes start (next_place at r) rs) h ∙ needs_past changes start (next_place at r) rs (farther at start r h)

needs_if : (b : Bool) (changes : Open) (records : List LogRecord) (start at : ℕ) (r : LogRecord) (rs : List LogRecord) → nat_lt at start ≡ b → is_unended_in changes r ≡ is_unended records r
    → needs_from changes start (next_place at r) rs ≡ flat_map (needs_by records) (records_before start (next_place at r) rs)
    → (cond b (map (need_of (is_unended_in changes r) r.lrsn) (pages_of r)) [] ++ needs_from changes start (next_place at r) rs) ≡ flat_map (needs_by records) (cond b (r ∷ records_before start (next_place at r) rs) [])
needs_if true changes records start at r rs e same more =
    ap (λ (b : Bool). map (need_of b r.lrsn) (pages_of r) ++ needs_from changes start (next_place at r) rs) same ∙ ap (λ (ns : List Need). needs_by records r ++ ns) more
needs_if false changes records start at r rs e same more = needs_past changes start (next_place at r) rs (farther at start r e)

needs_same : (changes : Open) (records : List LogRecord) (start at : ℕ) (rs : List LogRecord) → ((r : LogRecord) → is_unended_in changes r ≡ is_unended records r)
    → needs_from changes start at rs ≡ flat_map (needs_by records) (records_before start at rs)
needs_same changes records start at [] h = refl
needs_same changes records start at (r ∷ rs) h = needs_if (nat_lt at start) changes records start at r rs refl (h r) (needs_same changes records start (next_place at r) rs h)

pub needs_are_left : NeedsAreLeft
needs_are_left records none f differ =
    let left = left_all (begun (scan_from nothing_scanned 0 records)) 0 records none in
    ap (λ (c : Open). needs_from c (recheck_of records).left.start 0 records) left.open_is
    ∙ ap (λ (n : ℕ). needs_from (open_of records) n 0 records) (left.start_is ∙ start_is nothing_scanned 0 records)
    ∙ needs_same (open_of records) records (start_of records) 0 records (λ r. unended_same records r f differ)
