-- A disk in memory, as contracts see it, and how its calls end.
use Rattle.std.specs.Prelude.{◌≡◌, ◌⊎◌, ℕ, Bool, true, false, ◌&&◌, cond, eqb, nat_lt, List, [], ◌++◌, length, take, replicate, Option, Some, None, Result, Err}
use Rattle.std.proofs.Common.{refl, ap, ◌∙◌}
use Rattle.std.proofs.lemmas.Bool.{and_parts, eqb-true}
use Rattle.std.specs.Coded.{Coded, code_by, coded×, coded_ℕ, coded_list}
use Rattle.std.specs.FinMap as map
use Rattle.ds_base.specs.declared.names.PageId.{PageId}
use Rattle.ds_disk.specs.Pages.{Pages, PagesAreBytes, coded_page, put_pages}
use Rattle.ds_disk.specs.Written.{have_bytes, pages_are}
use Rattle.ds_disk.specs.Contents.{Contents, log_of, with_log, put_logs}
use Rattle.ds_disk.specs.Logs.{LogsAreBytes, logs_have_bytes, logs_are}
use Rattle.ds_disk.specs.Conditions.{Condition, course, counted, after, Answered}
use Rattle.ds_disk.specs.declared.disk.DiskError.{DiskError}
use Rattle.ds_disk.specs.declared.disk.DiskError.TheVariants.{NoMemory}
use Rattle.ds_disk.specs.declared.disk.DiskOp.{DiskOp}
use Rattle.ds_disk.specs.declared.plan.Course.{Course}
use Rattle.ds_disk.specs.declared.plan.Course.TheVariants.{Runs, Fails, Dies}

-- what it holds, and in which condition it is
pub record Memory : Type 0 where
  pub contents : Contents
  pub condition : Condition

-- no pages, and empty logs
abbrev pub nothing : Contents
nothing = record { pages = map.empty; logs = replicate 32 [] }

-- these pages and logs, the last of those with one name
abbrev pub holding : List (PageId × List ℕ) → List (ℕ × List ℕ) → Contents
holding pages logs = record { pages = put_pages map.empty pages; logs = put_logs (replicate 32 []) logs }

abbrev pub contents_code : Coded Contents
contents_code = code_by (Pages × List (List ℕ)) (coded× (map.code coded_page (coded_list coded_ℕ)) (coded_list (coded_list coded_ℕ))) (λ c. (c.pages, c.logs)) (λ q. record { pages = q.0; logs = q.1 }) (λ _. refl)

abbrev pub memory_code : Coded Condition → Coded Memory
memory_code condition = code_by (Contents × Condition) (coded× contents_code condition) (λ m. (m.contents, m.condition)) (λ q. record { contents = q.0; condition = q.1 }) (λ _. refl)

-- each disk in memory has the 32 logs, and pages and logs of bytes
abbrev pub is_whole : Contents → Bool
is_whole c = eqb (length c.logs) 32 && (have_bytes c.pages && logs_have_bytes c.logs)

-- so it tells what it holds
abbrev pub told : Memory → Option Contents
told m = cond (is_whole m.contents) (Some m.contents) None

whole_when : (b : Bool) (held c : Contents) → is_whole held ≡ b → cond b (Some held) None ≡ Some c → is_whole c ≡ true
whole_when true held c is e = ap is_whole (let same : c ≡ held = cc in same) ∙ is
whole_when false held c is e = absurd cc

told_whole : (m : Memory) (c : Contents) → told m ≡ Some c → (eqb (length c.logs) 32 ≡ true) × (have_bytes c.pages && logs_have_bytes c.logs ≡ true)
told_whole m c e = and_parts (eqb (length c.logs) 32) (have_bytes c.pages && logs_have_bytes c.logs) (whole_when (is_whole m.contents) m.contents c refl e)

told_bytes : (m : Memory) (c : Contents) → told m ≡ Some c → (have_bytes c.pages ≡ true) × (logs_have_bytes c.logs ≡ true)
told_bytes m c e = and_parts (have_bytes c.pages) (logs_have_bytes c.logs) (told_whole m c e).1

pub told_logs : (m : Memory) (c : Contents) → told m ≡ Some c → length c.logs ≡ 32
told_logs m c e = eqb-true (length c.logs) 32 (told_whole m c e).0

pub told_pages : (m : Memory) (c : Contents) → told m ≡ Some c → PagesAreBytes c.pages
told_pages m c e = pages_are c.pages (told_bytes m c e).0

pub told_log_bytes : (m : Memory) (c : Contents) → told m ≡ Some c → LogsAreBytes c.logs
told_log_bytes m c e = logs_are c.logs (told_bytes m c e).1

-- whether a page write or a cut is done, and whether an append keeps anything
abbrev pub is_done : Course → Bool
is_done Runs = true
is_done Fails = false
is_done (Dies k) = nat_lt 0 k

-- a disk that dies in an append keeps its first k bytes, or all if it has fewer
abbrev pub kept : Course → List ℕ → List ℕ
kept Runs bytes = bytes
kept Fails bytes = []
kept (Dies k) bytes = take k bytes

abbrev pub page_left : Course → Contents → PageId → List ℕ → Contents
page_left way c id page = cond (is_done way) (record c { pages = map.insert c.pages id page }) c

abbrev pub append_left : Course → Contents → ℕ → List ℕ → Contents
append_left way c member bytes = cond (is_done way) (with_log c member (log_of c.logs member ++ kept way bytes)) c

abbrev pub cut_left : Course → Contents → ℕ → ℕ → Contents
cut_left way c member n = cond (is_done way) (with_log c member (take n (log_of c.logs member))) c

-- how a call ends: Told is what Ok tells, and left what the disk holds afterwards
pub record Ends {T : Type 0} (op : DiskOp) (old new : Memory) (result : Result T DiskError) (Told : T → Type 0) (left : Contents) : Type 0 where
  pub answer : Answered (course op old.condition) result Told
  pub contents : new.contents ≡ left
  pub condition : new.condition ≡ after (course op old.condition) (counted op old.condition)

-- a call that has something to keep and no memory for it is counted, and nothing else changes
pub record Wants (op : DiskOp) (old new : Memory) (result : Result (Unit {0}) DiskError) : Type 0 where
  pub answer : result ≡ Err NoMemory
  pub keeps : is_done (course op old.condition) ≡ true
  pub contents : new.contents ≡ old.contents
  pub condition : new.condition ≡ counted op old.condition

abbrev pub EndsOrWants : DiskOp → Memory → Memory → Result (Unit {0}) DiskError → (Course → Contents) → Type 0
EndsOrWants op old new result left = Ends op old new result (λ _. Unit {0}) (left (course op old.condition)) ⊎ Wants op old new result
