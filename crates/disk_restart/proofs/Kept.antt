-- The lasting records of logs from one moment to a later one.
use Rattle.std.proofs.Common.{◌≡◌, ℕ, List, Option, None, Some, Ok, refl, sym, subst, ap, ◌∙◌}
use Rattle.ds_disk.specs.Contents.{Contents, Becomes, Same}
use Rattle.log_record.specs.declared.log.Log.{Log}
use Rattle.log_record.specs.Logs.{IsLogOf}
use Rattle.disk_restart.specs.Keeping.{lasting, lasting_among, lasting_in, KeepsRecords}

-- of a log that was read
pub lasting_read : (bytes : List ℕ) (log : Log) → IsLogOf bytes log → lasting bytes ≡ Ok (lasting_among log.records)
lasting_read bytes log is = ap lasting_in is.is_read

-- ---- from one moment to a later one

pub keeps_itself : (c : Contents) → KeepsRecords c c
keeps_itself c = λ member. refl

pub keeps_on : (c d e : Contents) → KeepsRecords c d → KeepsRecords d e → KeepsRecords c e
keeps_on c d e first second = λ member. second member ∙ first member

-- the same of disks that tell what they hold, or don't
pub stays_kept : (a : Option Contents) → Becomes a a KeepsRecords
stays_kept None = tt
stays_kept (Some c) = keeps_itself c

pub goes_on_kept : (a b e : Option Contents) → Becomes a b KeepsRecords → Becomes b e KeepsRecords → Becomes a e KeepsRecords
goes_on_kept None b e first second = tt
goes_on_kept (Some c) None e first second = absurd first
goes_on_kept (Some c) (Some d) None first second = absurd second
goes_on_kept (Some c) (Some d) (Some x) first second = keeps_on c d x first second

pub same_kept : (a b : Option Contents) → Becomes a b Same → Becomes a b KeepsRecords
same_kept None b same = tt
same_kept (Some c) None same = absurd same
same_kept (Some c) (Some d) same = subst (KeepsRecords c) (sym same) (keeps_itself c)
