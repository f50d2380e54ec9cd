-- Whether pages of version 1 are looked for, by what was read of the logs and was noted while they were.
use Rattle.std.proofs.Common.{◌≡◌, ℕ, suc, ◌-◌, Bool, true, false, List, [], ◌∷◌, ◌++◌, length, Option, inl, inr, refl, sym, ap, ◌∙◌, arith}
use Rattle.std.specs.Prelude.{◌⊎◌, ◌||◌, ◌&&◌, not, slice_get}
use Rattle.std.proofs.lemmas.List.{length-append}
use Rattle.ds_model.specs.RecordBytes.{log_bytes}
use Rattle.ds_model.specs.declared.log.LogRecord.{LogRecord}
use Rattle.log_record.specs.declared.log.Log.{Log}
use Rattle.log_record.specs.Logs.{Parts, parts_of}
use Rattle.log_reader.specs.Keeping.{HasLastOf, ReadIsLast, any_old, OldIsNoted}
use Rattle.restart_plan.specs.Renewal.{is_ended, asks_behind, asks_renewal, must_renew}
use Rattle.sound_disk.specs.Laws.{AreRead}
use Rattle.sound_reads.specs.Reads.{MayBeginAt, IsReadOf}
use Rattle.sound_reads.specs.Laws.{LastIsRead, ReadAsks, AddedAsks}
use Rattle.sound_reads.proofs.Kept.{same_parts}

-- ---- the last record

abbrev last_of : List LogRecord → Option LogRecord
last_of records = slice_get records (length records - 1)

last_behind : (front : List LogRecord) (r : LogRecord) (rs : List LogRecord) → last_of (front ++ r ∷ rs) ≡ last_of (r ∷ rs)
last_behind [] r rs = refl
last_behind (x ∷ xs) r rs =
    let both = length-append xs (r ∷ rs) in
    let place : length (x ∷ (xs ++ r ∷ rs)) - 1 ≡ suc (length (xs ++ r ∷ rs) - 1) = omega (arith, both) in
    ap (slice_get (x ∷ (xs ++ r ∷ rs))) place ∙ last_behind xs r rs

same_last : (place : ℕ) (front records : List LogRecord) → (front ≡ []) ⊎ MayBeginAt place records → last_of (front ++ records) ≡ last_of records
same_last place front records (inl none) = ap (λ (xs : List LogRecord). last_of (xs ++ records)) none
same_last place front [] (inr b) = absurd b
same_last place front (r ∷ rs) (inr b) = last_behind front r rs

-- ---- one log

pub read_asks : AreRead → ReadIsLast → OldIsNoted → LastIsRead → ReadAsks
read_asks reads last old is_read member bytes log r read whole is kept noted all h m =
    let l : HasLastOf bytes read = last bytes r read is all h in
    let with_front : Log = record { member = read.member; records = l.front ++ read.records; length = read.length; tail = read.tail } in
    let same : parts_of log ≡ parts_of with_front = same_parts bytes (parts_of log) (parts_of with_front) (reads member bytes log whole) l.is.is_read in
    let records : log.records ≡ l.front ++ read.records = ap (λ (p : Parts). p.records) same in
    let any : any_old log.records ≡ (r.held.has_old || any_old read.records) = ap (λ (rs : List LogRecord). any_old rs) records ∙ old bytes r read is noted all h l in
    let its : IsReadOf log read = is_read member bytes log r read whole is kept all h m in
    let ends : last_of log.records ≡ last_of read.records = ap last_of its.records_are ∙ same_last (length (log_bytes its.front)) its.front read.records its.begins in
    ap (λ (b : Bool). b && not (is_ended (last_of read.records))) (sym any) ∙ ap (λ (o : Option LogRecord). any_old log.records && not (is_ended o)) (sym ends)

-- ---- one log more

or_none : (b : Bool) → (b || false) ≡ b
or_none true = refl
or_none false = refl

or_more : (a b d : Bool) → (a || (b || d)) ≡ ((a || b) || d)
or_more true b d = refl
or_more false b d = refl

any_more : (logs : List Log) (log : Log) → must_renew (logs ++ log ∷ []) ≡ (must_renew logs || asks_renewal log)
any_more [] log = or_none (asks_renewal log)
any_more (l ∷ ls) log = ap (λ (b : Bool). asks_renewal l || b) (any_more ls log) ∙ or_more (asks_renewal l) (must_renew ls) (asks_renewal log)

pub added_asks : AddedAsks
added_asks h logs log read asks same =
    ap (λ (b : Bool). b || asks_behind h.reader.held.has_old read) asks ∙ ap (λ (b : Bool). must_renew logs || b) same ∙ sym (any_more logs log)
