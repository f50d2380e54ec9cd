-- The condition of a disk in memory, and how its next call goes.
use Rattle.std.specs.Prelude.{◌≡◌, ℕ, ◌+◌, ◌-◌, ◌^◌, nat_lt, if◌then◌else◌, Bool, true, false, ◌&&◌, eqb, cond, List, [], ◌∷◌, Option, Some, None, Result, Err, IsOkAnd}
use Rattle.std.proofs.Common.{refl}
use Rattle.std.specs.Coded.{Coded, code_by, coded×, coded_ℕ, coded_bool, coded_list}
use Rattle.ds_disk.specs.declared.disk.DiskError.{DiskError}
use Rattle.ds_disk.specs.declared.disk.DiskError.TheVariants.{Failed}
use Rattle.ds_disk.specs.declared.disk.DiskOp.{DiskOp}
use Rattle.ds_disk.specs.declared.disk.DiskOp.TheVariants.{ReadPage, WritePage, AppendLog, LogLength, ReadLog, CutLog}
use Rattle.ds_disk.specs.declared.disk.DiskFailure.{DiskFailure}
use Rattle.ds_disk.specs.declared.plan.Calls.{Calls}
use Rattle.ds_disk.specs.declared.plan.Course.{Course}
use Rattle.ds_disk.specs.declared.plan.Course.TheVariants.{Runs, Fails, Dies}

-- whether it answers, how often it failed, how many calls of each kind there were, and which calls are to fail
pub record Condition : Type 0 where
  pub alive : Bool
  pub faults : ℕ
  pub calls : Calls
  pub failures : List DiskFailure

abbrev pub no_calls : Calls
no_calls = record { read_page = 0; write_page = 0; append_log = 0; log_length = 0; read_log = 0; cut_log = 0 }

-- alive, with no fault and no call yet
abbrev pub healthy : List DiskFailure → Condition
healthy failures = record { alive = true; faults = 0; calls = no_calls; failures = failures }

-- counts end at 2^64 - 1
abbrev pub one_more : ℕ → ℕ
one_more n = if nat_lt n (2 ^ 64 - 1) then n + 1 else n

abbrev pub calls_of : DiskOp → Calls → ℕ
calls_of ReadPage c = c.read_page
calls_of WritePage c = c.write_page
calls_of AppendLog c = c.append_log
calls_of LogLength c = c.log_length
calls_of ReadLog c = c.read_log
calls_of CutLog c = c.cut_log

abbrev pub one_more_call : DiskOp → Calls → Calls
one_more_call ReadPage c = record c { read_page = one_more c.read_page }
one_more_call WritePage c = record c { write_page = one_more c.write_page }
one_more_call AppendLog c = record c { append_log = one_more c.append_log }
one_more_call LogLength c = record c { log_length = one_more c.log_length }
one_more_call ReadLog c = record c { read_log = one_more c.read_log }
one_more_call CutLog c = record c { cut_log = one_more c.cut_log }

abbrev pub rank : DiskOp → ℕ
rank ReadPage = 0
rank WritePage = 1
rank AppendLog = 2
rank LogLength = 3
rank ReadLog = 4
rank CutLog = 5

-- whether the failure is for the call of this kind with this number
abbrev pub is_for : DiskOp → ℕ → DiskFailure → Bool
is_for op number failure = eqb (rank failure.call) (rank op) && eqb failure.number number

-- the first failure that is planned for a call
abbrev pub planned : DiskOp → ℕ → List DiskFailure → Option DiskFailure
planned op number [] = None
planned op number (f ∷ fs) = cond (is_for op number f) (Some f) (planned op number fs)

abbrev pub blow : Option ℕ → Course
blow None = Fails
blow (Some k) = Dies k

abbrev pub struck : Option DiskFailure → Course
struck None = Runs
struck (Some f) = blow f.dies

-- how the next call of this kind goes: it fails exactly where the disk is dead or a failure is planned for its number
abbrev pub course : DiskOp → Condition → Course
course op h = cond h.alive (struck (planned op (one_more (calls_of op h.calls)) h.failures)) Fails

-- each call is counted
abbrev pub counted : DiskOp → Condition → Condition
counted op h = record h { calls = one_more_call op h.calls }

-- a call that fails raises the count of faults, and the disk may die in it
abbrev pub after : Course → Condition → Condition
after Runs h = h
after Fails h = record h { faults = one_more h.faults }
after (Dies k) h = record h { faults = one_more h.faults; alive = false }

-- an answer is given exactly where the call runs
abbrev pub Answered : {T : Type 0} → Course → Result T DiskError → (T → Type 0) → Type 0
Answered Runs result Told = IsOkAnd result Told
Answered Fails result Told = result ≡ Err Failed
Answered (Dies k) result Told = result ≡ Err Failed

abbrev pub condition_code : Coded Calls → Coded DiskFailure → Coded Condition
condition_code calls failure = code_by (Bool × (ℕ × (Calls × List DiskFailure))) (coded× coded_bool (coded× coded_ℕ (coded× calls (coded_list failure)))) (λ h. (h.alive, (h.faults, (h.calls, h.failures)))) (λ q. record { alive = q.0; faults = q.1.0; calls = q.1.1.0; failures = q.1.1.1 }) (λ _. refl)
