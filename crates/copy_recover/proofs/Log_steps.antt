-- Logs that are read one after the other.
use Rattle.std.proofs.Common.{◌≡◌, ℕ, zero, suc, ◌+◌, ◌-◌, ◌<◌, ◌≤◌, List, [], ◌∷◌, ◌++◌, length, take, get_or, Option, Some, None, Ok, Err, refl, sym, ap, subst, ◌∙◌, arith}
use Rattle.std.proofs.lemmas.List.{take_more, take_all, length-take-le}
use Rattle.ds_base.specs.declared.names.Volume.TheVariants as volume
use Rattle.ds_disk.specs.Contents.{Contents, log_of, WhenTold, Becomes, Same}
use Rattle.log_record.specs.declared.log.Log.{Log}
use Rattle.log_record.specs.Logs.{parts_in, IsLogOf}
use Rattle.log_trans.specs.Damage.{log_damage}
use Rattle.log_trans.specs.declared.damage.Damaged.{Damaged}
use Rattle.restart_plan.specs.Plans.{plan_of}
use Rattle.restart_plan.specs.declared.plan.Plan.{Plan}
use Rattle.table_copy.specs.Looking.{Looks}
use Rattle.table_copy.specs.declared.fault.CopyFault.{CopyFault}
use Rattle.table_copy.specs.declared.fault.CopyFault.TheVariants as fault
use Rattle.table_copy.proofs.Told.{same_on, told_before, told_always, told_by, as_err}
use Rattle.copy_recover.specs.Recovering.{AreLogsOf}
use Rattle.copy_recover.specs.Reading.{IsUnread, PlansBy}
use Rattle.copy_recover.proofs.Told.{rose_from}

-- ---- one log more

log_at : (logs : List (List ℕ)) (i : ℕ) → log_of logs (i + 1) ≡ get_or logs i []
log_at logs i = let less : i + 1 - 1 ≡ i = omega arith in ap (λ (k : ℕ). get_or logs k []) less

logs_more : (m : ℕ) (front : List (List ℕ)) (read : List Log) (bytes : List ℕ) (log : Log) → AreLogsOf m front read → log.member ≡ m + length front → IsLogOf bytes log
    → AreLogsOf m (front ++ bytes ∷ []) (read ++ log ∷ [])
logs_more m [] [] bytes log h is k = (is ∙ (let e : m + zero ≡ m = omega arith in e), k, tt)
logs_more m [] (l ∷ read) bytes log h is k = absurd h
logs_more m (b ∷ front) [] bytes log h is k = absurd h
logs_more m (b ∷ front) (l ∷ read) bytes log h is k =
    let e : m + suc (length front) ≡ m + 1 + length front = omega arith in
    (h.0, h.1, logs_more (m + 1) front read bytes log h.2 (is ∙ e) k)

more_in : (logs : List (List ℕ)) (i : ℕ) (read : List Log) (log : Log) → length logs ≡ 32 → i < 32 → AreLogsOf 1 (take i logs) read → log.member ≡ i + 1 → IsLogOf (log_of logs (i + 1)) log
    → AreLogsOf 1 (take (i + 1) logs) (read ++ log ∷ [])
more_in logs i read log long lt h is k =
    let count : length (take i logs) ≡ i = length-take-le i logs (omega (arith, long, lt)) in
    let place : log.member ≡ 1 + length (take i logs) = omega (arith, is, count) in
    subst (λ (l : List (List ℕ)). AreLogsOf 1 l (read ++ log ∷ [])) (sym (take_more logs i [] (omega (arith, long, lt))))
    (logs_more 1 (take i logs) read (get_or logs i []) log h place (subst (λ (b : List ℕ). IsLogOf b log) (log_at logs i) k))

abbrev pub Has32 : Option Contents → Type 0
Has32 start = (c : Contents) → start ≡ Some c → length c.logs ≡ 32

-- the logs of so many members
abbrev pub AreFirst : ℕ → List Log → Contents → Type 0
AreFirst n read c = AreLogsOf 1 (take n c.logs) read

pub none_read : (start : Option Contents) (read : List Log) → read ≡ [] → WhenTold start (AreFirst 0 read)
none_read start read e = told_always start (AreFirst 0 read) (λ c. subst (λ (l : List Log). AreLogsOf 1 [] l) (sym e) tt)

more_told : (start : Option Contents) (i : ℕ) (read : List Log) (log : Log) → Has32 start → i < 32 → WhenTold start (AreFirst i read)
    → WhenTold start (λ (c : Contents). (log.member ≡ i + 1) × IsLogOf (log_of c.logs (i + 1)) log) → WhenTold start (AreFirst (i + 1) (read ++ log ∷ []))
more_told None i read log has lt h k = tt
more_told (Some c) i read log has lt h k = more_in c.logs i read log (has c refl) lt h k.0 k.1

pub one_read : (start now : Option Contents) (i member : ℕ) (read more : List Log) (log : Log) → Has32 start → i < 32 → member ≡ i + 1 → Becomes start now Same → WhenTold start (AreFirst i read)
    → WhenTold now (λ (c : Contents). (log.member ≡ member) × IsLogOf (log_of c.logs member) log) → more ≡ read ++ log ∷ [] → WhenTold start (AreFirst (i + 1) more)
one_read start now i member read more log has lt is same h k put =
    let here : WhenTold start (λ (c : Contents). (log.member ≡ i + 1) × IsLogOf (log_of c.logs (i + 1)) log) =
    subst (λ (m : ℕ). WhenTold start (λ (c : Contents). (log.member ≡ m) × IsLogOf (log_of c.logs m) log)) is
    (told_before start now (λ (c : Contents). (log.member ≡ member) × IsLogOf (log_of c.logs member) log) same k)
    in
    subst (λ (l : List Log). WhenTold start (AreFirst (i + 1) l)) (sym put) (more_told start i read log has lt h here)

all_told : (start : Option Contents) (i : ℕ) (read : List Log) → Has32 start → 32 ≤ i → WhenTold start (AreFirst i read) → WhenTold start (λ (c : Contents). AreLogsOf 1 c.logs read)
all_told None i read has le h = tt
all_told (Some c) i read has le h = subst (λ (l : List (List ℕ)). AreLogsOf 1 l read) (take_all i c.logs (let long = has c refl in omega (arith, long, le))) h

-- ---- how the reading ends

pub all_read : (start now : Option Contents) (f0 f1 i : ℕ) (read : List Log) → Has32 start → 32 ≤ i → Becomes start now Same → f0 ≤ f1 → WhenTold start (AreFirst i read)
    → Looks {T = List Log} start now f0 f1 (λ logs c. AreLogsOf 1 c.logs logs) (λ v at c. (member : ℕ) × IsUnread c member v at) (Ok read)
all_read start now f0 f1 i read has le same later h = record {
  ok = all_told start i read has le h;
  damaged = λ v at e. absurd cc;
  failed = λ e. absurd cc;
  no_source = λ e. cc;
  no_sink = λ e. cc;
  no_image = λ at e. cc;
  same = same;
  later = later;
}

pub not_read_on : (start now end : Option Contents) (f0 f1 f2 member : ℕ) (e : CopyFault) → Becomes start now Same → f0 ≤ f1
    → Looks {T = Log} now end f1 f2 (λ log c. (log.member ≡ member) × IsLogOf (log_of c.logs member) log) (λ v at c. IsUnread c member v at) (Err e)
    → Looks {T = List Log} start end f0 f2 (λ logs c. AreLogsOf 1 c.logs logs) (λ v at c. (m : ℕ) × IsUnread c m v at) (Err e)
not_read_on start now end f0 f1 f2 member e same le h = record {
  ok = tt;
  damaged = λ v at is.
      told_by start (λ (c : Contents). IsUnread c member v at) (λ (c : Contents). (m : ℕ) × IsUnread c m v at) (λ c u. (member, u))
      (told_before start now (λ (c : Contents). IsUnread c member v at) same (h.damaged v at (as_err e (fault.Damaged v at) is)));
  failed = λ is. rose_from f0 f1 f2 le (h.failed (as_err e fault.Disk is));
  no_source = λ is. h.no_source (as_err e fault.Source is);
  no_sink = λ is. h.no_sink (as_err e fault.Sink is);
  no_image = λ at is. h.no_image at (as_err e (fault.Image at) is);
  same = same_on start now end same h.same;
  later = omega (arith, le, h.later);
}

pub wanting_logs : (start now : Option Contents) (f0 f1 : ℕ) → Becomes start now Same → f0 ≤ f1
    → Looks {T = List Log} start now f0 f1 (λ logs c. AreLogsOf 1 c.logs logs) (λ v at c. (m : ℕ) × IsUnread c m v at) (Err fault.NoMemory)
wanting_logs start now f0 f1 same le = record {
  ok = tt;
  damaged = λ v at e. absurd cc;
  failed = λ e. absurd cc;
  no_source = λ e. cc;
  no_sink = λ e. cc;
  no_image = λ at e. cc;
  same = same;
  later = le;
}

-- ---- one log

told_of : (a b : Option Contents) (P : Contents → Type 0) → Becomes a b (λ c d. (d ≡ c) × P c) → WhenTold a P
told_of None b P h = tt
told_of (Some c) None P h = absurd h
told_of (Some c) (Some d) P h = h.1

told_same : (a b : Option Contents) (P : Contents → Type 0) → Becomes a b (λ c d. (d ≡ c) × P c) → Becomes a b Same
told_same None b P h = tt
told_same (Some c) None P h = absurd h
told_same (Some c) (Some d) P h = h.0

pub log_read : (d0 d1 : Option Contents) (f0 f1 member : ℕ) (log : Log) → log.member ≡ member → Becomes d0 d1 (λ c d. (d ≡ c) × IsLogOf (log_of c.logs member) log) → f0 ≤ f1
    → Looks {T = Log} d0 d1 f0 f1 (λ l c. (l.member ≡ member) × IsLogOf (log_of c.logs member) l) (λ v at c. IsUnread c member v at) (Ok log)
log_read d0 d1 f0 f1 member log is h le = record {
  ok = told_by d0 (λ (c : Contents). IsLogOf (log_of c.logs member) log) (λ (c : Contents). (log.member ≡ member) × IsLogOf (log_of c.logs member) log) (λ c p. (is, p))
      (told_of d0 d1 (λ (c : Contents). IsLogOf (log_of c.logs member) log) h);
  damaged = λ v at e. absurd cc;
  failed = λ e. absurd cc;
  no_source = λ e. cc;
  no_sink = λ e. cc;
  no_image = λ at e. cc;
  same = told_same d0 d1 (λ (c : Contents). IsLogOf (log_of c.logs member) log) h;
  later = le;
}

pub log_damaged : (d0 d1 : Option Contents) (f0 f1 member at : ℕ) (e : CopyFault) → Becomes d0 d1 (λ c d. (d ≡ c) × (parts_in (log_of c.logs member) ≡ Err at)) → f0 ≤ f1 → e ≡ fault.Damaged (volume.Log member) at
    → Looks {T = Log} d0 d1 f0 f1 (λ l c. (l.member ≡ member) × IsLogOf (log_of c.logs member) l) (λ v k c. IsUnread c member v k) (Err e)
log_damaged d0 d1 f0 f1 member at e h le named =
    let found : Looks {T = Log} d0 d1 f0 f1 (λ l c. (l.member ≡ member) × IsLogOf (log_of c.logs member) l) (λ v k c. IsUnread c member v k) (Err (fault.Damaged (volume.Log member) at)) = record {
      ok = tt;
      damaged = λ v place is.
          let same_volume : volume.Log member ≡ v = cc in
          let same_place : at ≡ place = cc in
          told_by d0 (λ (c : Contents). parts_in (log_of c.logs member) ≡ Err at) (λ (c : Contents). IsUnread c member v place)
          (λ c p. (sym same_volume, p ∙ ap (λ (k : ℕ). Err k) same_place)) (told_of d0 d1 (λ (c : Contents). parts_in (log_of c.logs member) ≡ Err at) h);
      failed = λ is. absurd cc;
      no_source = λ is. cc;
      no_sink = λ is. cc;
      no_image = λ k is. cc;
      same = told_same d0 d1 (λ (c : Contents). parts_in (log_of c.logs member) ≡ Err at) h;
      later = le;
    }
    in
    subst (λ (x : CopyFault). Looks {T = Log} d0 d1 f0 f1 (λ l c. (l.member ≡ member) × IsLogOf (log_of c.logs member) l) (λ v k c. IsUnread c member v k) (Err x)) (sym named) found

-- ---- what the logs ask for

pub not_planned : (logs : List Log) → PlansBy logs (Err fault.NoMemory)
not_planned logs = record {
  ok = tt;
  damaged = λ v at e. absurd cc;
  no_source = λ e. cc;
  no_sink = λ e. cc;
  no_disk = λ e. cc;
  no_image = λ at e. cc;
}

abbrev at_place : ℕ → ℕ → Damaged
at_place member k = record { member = member; at = k }

pub plan_damaged : (logs : List Log) (found : Damaged) (e : CopyFault) → log_damage logs ≡ Some found → e ≡ fault.Damaged (volume.Log found.member) found.at → PlansBy logs (Err e)
plan_damaged logs found e h named =
    let wrong : PlansBy logs (Err (fault.Damaged (volume.Log found.member) found.at)) = record {
      ok = tt;
      damaged = λ v at is.
          let same_volume : volume.Log found.member ≡ v = cc in
          let same_place : found.at ≡ at = cc in
          record { member = found.member; names_it = sym same_volume; damage = h ∙ ap (λ (k : ℕ). Some (at_place found.member k)) same_place };
      no_source = λ is. cc;
      no_sink = λ is. cc;
      no_disk = λ is. cc;
      no_image = λ k is. cc;
    }
    in
    subst (λ (x : CopyFault). PlansBy logs (Err x)) (sym named) wrong

pub planned : (logs : List Log) (plan : Plan) → plan ≡ plan_of logs → log_damage logs ≡ None → PlansBy logs (Ok plan)
planned logs plan h sound = record {
  ok = (h, sound);
  damaged = λ v at e. absurd cc;
  no_source = λ e. cc;
  no_sink = λ e. cc;
  no_disk = λ e. cc;
  no_image = λ at e. cc;
}
