-- The scripts that one thread can play transaction by transaction: nothing waits for a flag, fails, restarts or is lost.
use Rattle.std.specs.Prelude.{◌≡◌, ◌≤◌, false, length, map, None}
use Rattle.std.specs.List.{AllByRecursion}
use Rattle.ds_model.specs.declared.script.Op.{Op}
use Rattle.ds_model.specs.declared.script.Op.TheVariants as op
use Rattle.ds_model.specs.declared.script.Tran.{Tran}
use Rattle.ds_model.specs.declared.script.Part.{Part}
use Rattle.ds_model.specs.declared.script.Phase.{Phase}
use Rattle.ds_model.specs.declared.script.Script.{Script}
use Rattle.ds_model.specs.Transactions.{Placed, placed}
use Rattle.ds_model.specs.Scripts.{counted}

abbrev pub IsSerialOp : Op → Type 0
IsSerialOp (op.Get table key) = Unit {0}
IsSerialOp (op.Getu table key) = Unit {0}
IsSerialOp (op.Put table key value) = Unit {0}
IsSerialOp (op.Del table key) = Unit {0}
IsSerialOp (op.Scan table low high) = Unit {0}
IsSerialOp (op.Raise flag) = ⊥
IsSerialOp (op.Await flag) = ⊥
IsSerialOp op.LoseCache = ⊥
IsSerialOp op.Abort = Unit {0}

abbrev pub IsSerialTran : Tran → Type 0
IsSerialTran t = AllByRecursion IsSerialOp t.ops

pub record IsSerialPart (p : Part) : Type 0 where
  pub no_restart : p.restart ≡ false
  pub no_fail : p.fail ≡ None
  pub trans_are : AllByRecursion IsSerialTran p.trans

pub record IsSerialPhase (p : Phase) : Type 0 where
  pub no_groupfail : p.groupfails ≡ 0
  pub parts_are : AllByRecursion IsSerialPart p.parts

pub record IsSerial (s : Script) : Type 0 where
  pub no_groupfail : s.groupfails ≡ 0
  pub phases_are : AllByRecursion IsSerialPhase s.phases

-- ---- the limits and numbers of a script that a run needs, whatever else holds of the script

abbrev pub IsShortTran : Placed → Type 0
IsShortTran p = length p.1.ops ≤ 64

pub record IsCounted (s : Script) : Type 0 where
  pub trans_short : length (placed s) ≤ 65536
  pub ops_short : AllByRecursion IsShortTran (placed s)
  pub numbers : map (λ (p : Placed). p.1.number) (placed s) ≡ counted 1 (length (placed s))
