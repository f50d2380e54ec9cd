-- What logs tell of the transactions that have committed since the opening.
use Rattle.std.specs.Prelude.{◌≡◌, ℕ, ◌-◌, ◌==◌, List, [], ◌∷◌, drop, filter, slice_index_or, slice_set, if◌then◌else◌}
use Rattle.std.specs.List.{AllByRecursion}
use Rattle.ds_model.specs.declared.script.Op.{Op}
use Rattle.ds_model.specs.declared.fate.Fate.{Fate}
use Rattle.ds_model.specs.declared.fate.Fate.TheVariants as fate
use Rattle.ds_model.specs.declared.history.Entry.{Entry}
use Rattle.ds_model.specs.declared.log.LogRecord.{LogRecord}
use Rattle.ds_model.specs.Rows.{Rows}
use Rattle.ds_model.specs.Effect.{after_tran}
use Rattle.ds_model.specs.History.{after_fate}
use Rattle.ds_model.specs.Logs.{is_commit, after_records}

-- the transactions whose Commit records these are, in the order of the records
abbrev pub commits_of : List LogRecord → List ℕ
commits_of [] = []
commits_of (r ∷ rs) = if is_commit r.body then r.tran ∷ commits_of rs else commits_of rs

-- those of each log behind the records that it had at the opening, which are so many
abbrev pub new_commits : List ℕ → List (List LogRecord) → List (List ℕ)
new_commits had [] = []
new_commits [] (log ∷ logs) = commits_of log ∷ new_commits [] logs
new_commits (n ∷ had) (log ∷ logs) = commits_of (drop n log) ∷ new_commits had logs

-- what stands for a member: member 1 has the first place
abbrev pub at_member : {X : Type 0} → List (List X) → ℕ → List X
at_member {X} lists member = slice_index_or lists (member - 1) []

-- the records of a transaction
abbrev pub of_tran : ℕ → List LogRecord → List LogRecord
of_tran tran log = filter (λ (r : LogRecord). r.tran == tran) log

-- the first of these commits is there, and in this log its transaction makes of the rows what is wanted
abbrev pub FirstMakes : List LogRecord → List ℕ → Rows → Rows → Type 0
FirstMakes log [] rows wanted = ⊥
FirstMakes log (tran ∷ trans) rows wanted = after_records rows (of_tran tran log) ≡ wanted

-- a committed transaction has the first commit, and its records make of the rows what its operations make
abbrev pub FateIsLogged : List LogRecord → List ℕ → Rows → List Op → Fate → Type 0
FateIsLogged log commits rows ops (fate.Committed answered reads) = FirstMakes log commits rows (after_tran rows ops)
FateIsLogged log commits rows ops (fate.Refused refusal) = Unit {0}
FateIsLogged log commits rows ops fate.Stopped = Unit {0}

-- the commits of the members that are left behind an entry
abbrev pub left_behind : List (List ℕ) → ℕ → Fate → List (List ℕ)
left_behind commits member (fate.Committed answered reads) = slice_set commits (member - 1) (drop 1 (at_member commits member))
left_behind commits member (fate.Refused refusal) = commits
left_behind commits member fate.Stopped = commits

-- The committed entries have the commits of their members' logs, in order, one each and with the same effect on the rows that one
-- thread has reached; and no commit is left.
abbrev pub AreLogged : List (List LogRecord) → List (List ℕ) → Rows → List Entry → Type 0
AreLogged logs commits rows [] = AllByRecursion (λ (trans : List ℕ). trans ≡ []) commits
AreLogged logs commits rows (e ∷ es) =
    FateIsLogged (at_member logs e.member) (at_member commits e.member) rows e.tran.ops e.fate
    × AreLogged logs (left_behind commits e.member e.fate) (after_fate rows e.tran.ops e.fate) es
