-- What an append leaves on a disk in memory that dies in it.
use Rattle.std.specs.Prelude.{◌≡◌, ℕ, ◌-◌, min, List, [], ◌++◌, length, take}
use Rattle.std.proofs.Common.{zero, suc, sym, ap, ◌∙◌, arith, append-nil}
use Rattle.std.proofs.lemmas.List.{set-get_or, take_min}
use Rattle.ds_disk.specs.Answers.{Appended}
use Rattle.ds_disk.specs.Contents.{Contents, log_of, with_log}
use Rattle.ds_disk.specs.Memory.{append_left}
use Rattle.ds_disk.specs.declared.plan.Course.TheVariants.{Dies}

nothing_kept : (c : Contents) (member : ℕ) (bytes : List ℕ) → with_log c member (log_of c.logs member ++ take 0 bytes) ≡ c
nothing_kept c member bytes =
    ap (λ (log : List ℕ). with_log c member log) (append-nil (log_of c.logs member))
    ∙ ap (λ (logs : List (List ℕ)). record c { logs = logs }) (set-get_or c.logs (member - 1) [])

pub torn : (k : ℕ) (c : Contents) (member : ℕ) (bytes : List ℕ) → Appended member bytes c (append_left (Dies k) c member bytes)
torn zero c member bytes = (0, omega arith, sym (nothing_kept c member bytes))
torn (suc k) c member bytes =
    (min (suc k) (length bytes), omega arith, grind (arith, take_min))
