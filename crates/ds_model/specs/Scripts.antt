-- What makes phases a script: the names, the ranges and the limits, and where flags, failures and restarts may stand.
use Rattle.std.specs.Prelude.{◌≡◌, ◌⊎◌, ℕ, zero, suc, ◌+◌, ◌<◌, ◌≤◌, ◌^◌, true, List, [], ◌∷◌, ◌++◌, length, map, drop, Option, None, Some, Contains, All}
use Rattle.std.specs.List.{flat_map, AllByRecursion}
use Rattle.ds_base.specs.Ids.{IsTable}
use Rattle.ds_base.specs.Values.{IsValue}
use Rattle.ds_model.specs.declared.script.Op.{Op}
use Rattle.ds_model.specs.declared.script.Op.TheVariants as op
use Rattle.ds_model.specs.declared.script.FailAt.{FailAt}
use Rattle.ds_model.specs.declared.script.FailAt.TheVariants as fail_at
use Rattle.ds_model.specs.declared.script.Tran.{Tran}
use Rattle.ds_model.specs.declared.script.Part.{Part}
use Rattle.ds_model.specs.declared.script.Phase.{Phase}
use Rattle.ds_model.specs.declared.script.Script.{Script}
use Rattle.ds_model.specs.Transactions.{Placed, placed}

-- ---- names and numbers

-- a letter, a digit, - or _
abbrev pub IsNameByte : ℕ → Type 0
IsNameByte b = ((0x30 ≤ b) × (b ≤ 0x39)) ⊎ ((0x41 ≤ b) × (b ≤ 0x5a)) ⊎ ((0x61 ≤ b) × (b ≤ 0x7a)) ⊎ (b ≡ 0x2d) ⊎ (b ≡ 0x5f)

-- 1 to 16 of them
abbrev pub IsName : List ℕ → Type 0
IsName name = (1 ≤ length name) × (length name ≤ 16) × All IsNameByte name

-- no two are equal
abbrev pub Differ : List (List ℕ) → Type 0
Differ [] = Unit {0}
Differ (x ∷ xs) = (Contains xs x → ⊥) × Differ xs

-- so many numbers from this one on
abbrev pub counted : ℕ → ℕ → List ℕ
counted from zero = []
counted from (suc n) = from ∷ counted (from + 1) n

-- ---- a transaction

abbrev pub IsFlag : ℕ → Type 0
IsFlag flag = (1 ≤ flag) × (flag ≤ 64)

abbrev pub IsKey : ℕ → Type 0
IsKey key = key < 2 ^ 64

abbrev pub IsOp : Op → Type 0
IsOp (op.Get table key) = IsTable table × IsKey key
IsOp (op.Getu table key) = IsTable table × IsKey key
IsOp (op.Put table key value) = IsTable table × IsKey key × IsValue value
IsOp (op.Del table key) = IsTable table × IsKey key
IsOp (op.Scan table low high) = IsTable table × IsKey low × IsKey high
IsOp (op.Raise flag) = IsFlag flag
IsOp (op.Await flag) = IsFlag flag
IsOp op.LoseCache = Unit {0}
IsOp op.Abort = Unit {0}

pub record IsTran (t : Tran) : Type 0 where
  pub named : IsName t.name
  pub short : length t.ops ≤ 64
  pub ops_are : AllByRecursion IsOp t.ops

-- ---- the flags of a phase

-- the operation neither raises nor awaits a flag
abbrev pub LeavesFlags : Op → Type 0
LeavesFlags (op.Get table key) = Unit {0}
LeavesFlags (op.Getu table key) = Unit {0}
LeavesFlags (op.Put table key value) = Unit {0}
LeavesFlags (op.Del table key) = Unit {0}
LeavesFlags (op.Scan table low high) = Unit {0}
LeavesFlags (op.Raise flag) = ⊥
LeavesFlags (op.Await flag) = ⊥
LeavesFlags op.LoseCache = Unit {0}
LeavesFlags op.Abort = Unit {0}

abbrev pub TranLeavesFlags : Tran → Type 0
TranLeavesFlags t = AllByRecursion LeavesFlags t.ops

abbrev pub flag_raised : Op → List ℕ
flag_raised (op.Get table key) = []
flag_raised (op.Getu table key) = []
flag_raised (op.Put table key value) = []
flag_raised (op.Del table key) = []
flag_raised (op.Scan table low high) = []
flag_raised (op.Raise flag) = flag ∷ []
flag_raised (op.Await flag) = []
flag_raised op.LoseCache = []
flag_raised op.Abort = []

abbrev pub flags_raised : List Op → List ℕ
flags_raised ops = flat_map flag_raised ops

-- the flags that a part raises
abbrev pub part_raises : Part → List ℕ
part_raises p = flat_map (λ (t : Tran). flags_raised t.ops) p.trans

abbrev pub Lacks : List ℕ → ℕ → Type 0
Lacks xs x = Contains xs x → ⊥

-- ---- failures and restarts

abbrev pub IsCount : ℕ → Type 0
IsCount n = (1 ≤ n) × (n < 2 ^ 32)

abbrev pub FailIsAllowed : Option FailAt → Type 0
FailIsAllowed None = Unit {0}
FailIsAllowed (Some (fail_at.Command n)) = IsCount n
FailIsAllowed (Some (fail_at.Commit n)) = IsCount n
FailIsAllowed (Some (fail_at.Committed n)) = IsCount n
FailIsAllowed (Some (fail_at.Raise flag)) = IsFlag flag

abbrev pub failing_as : ℕ → Option FailAt → List ℕ
failing_as member None = []
failing_as member (Some at) = member ∷ []

-- the members that a phase lets fail
abbrev pub phase_fails : Phase → List ℕ
phase_fails p = flat_map (λ (part : Part). failing_as part.member part.fail) p.parts

-- ---- parts, phases, scripts

-- a part of a group of so many members, behind phases that let these members fail, and behind parts of its own
-- phase that raise these flags: it uses flags in its first transaction alone, and raises none of theirs
pub record IsPart (members : ℕ) (failed raised : List ℕ) (p : Part) : Type 0 where
  pub member_in : (1 ≤ p.member) × (p.member ≤ members)
  pub restarts : p.restart ≡ true → Contains failed p.member
  pub fail_in : FailIsAllowed p.fail
  pub trans_are : AllByRecursion IsTran p.trans
  pub first_alone : AllByRecursion TranLeavesFlags (drop 1 p.trans)
  pub raises_its_own : AllByRecursion (Lacks raised) (part_raises p)

-- parts behind those of these members; each member has one at most
abbrev pub AreParts : ℕ → List ℕ → List ℕ → List ℕ → List Part → Type 0
AreParts members failed raised had [] = Unit {0}
AreParts members failed raised had (p ∷ ps) = Lacks had p.member × IsPart members failed raised p × AreParts members failed (raised ++ part_raises p) (had ++ p.member ∷ []) ps

-- phases behind those that let these members fail
abbrev pub ArePhases : ℕ → List ℕ → List Phase → Type 0
ArePhases members failed [] = Unit {0}
ArePhases members failed (p ∷ ps) = AreParts members failed [] [] p.parts × ArePhases members (failed ++ phase_fails p) ps

-- a script for a group of so many members
pub record IsScript (members : ℕ) (s : Script) : Type 0 where
  pub phases_short : length s.phases ≤ 1024
  pub phases_are : ArePhases members [] s.phases
  pub trans_short : length (placed s) ≤ 65536
  pub numbers : map (λ (p : Placed). p.1.number) (placed s) ≡ counted 1 (length (placed s))
  pub names : Differ (map (λ (p : Placed). p.1.name) (placed s))
