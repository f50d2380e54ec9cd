-- The one canonical text of a script.
use Rattle.std.specs.Prelude.{ℕ, Bool, true, false, List, [], ◌∷◌, ◌++◌, Option, Some, None, codes, decimal, replicate}
use Rattle.std.specs.List.{flat_map}
use Rattle.ds_model.specs.declared.script.Op.{Op}
use Rattle.ds_model.specs.declared.script.Op.TheVariants as op
use Rattle.ds_model.specs.declared.script.FailAt.{FailAt}
use Rattle.ds_model.specs.declared.script.FailAt.TheVariants as fail_at
use Rattle.ds_model.specs.declared.script.Tran.{Tran}
use Rattle.ds_model.specs.declared.script.Part.{Part}
use Rattle.ds_model.specs.declared.script.Phase.{Phase}
use Rattle.ds_model.specs.declared.script.Script.{Script}

abbrev pub line : List ℕ → List ℕ
line text = text ++ 10 ∷ []

-- a word, a table and a key
abbrev pub spot_text : List ℕ → ℕ → ℕ → List ℕ
spot_text word table key = word ++ codes " " ++ decimal table ++ codes " " ++ decimal key

abbrev pub op_text : Op → List ℕ
op_text (op.Get table key) = line (spot_text (codes "get") table key)
op_text (op.Getu table key) = line (spot_text (codes "getu") table key)
op_text (op.Put table key value) = line (spot_text (codes "put") table key ++ codes " =" ++ value)
op_text (op.Del table key) = line (spot_text (codes "del") table key)
op_text (op.Scan table low high) = line (spot_text (codes "scan") table low ++ codes " " ++ decimal high)
op_text (op.Raise flag) = line (codes "raise " ++ decimal flag)
op_text (op.Await flag) = line (codes "await " ++ decimal flag)
op_text op.LoseCache = line (codes "losecache")
op_text op.Abort = line (codes "abort")

abbrev pub wait_text : Bool → List ℕ
wait_text true = []
wait_text false = codes " nowait"

abbrev pub tran_text : Tran → List ℕ
tran_text t = line (codes "tran " ++ t.name ++ wait_text t.wait) ++ flat_map op_text t.ops ++ line (codes "end")

abbrev pub restart_text : Bool → List ℕ
restart_text true = line (codes "restart")
restart_text false = []

abbrev pub fail_text : Option FailAt → List ℕ
fail_text None = []
fail_text (Some (fail_at.Command n)) = line (codes "fail command " ++ decimal n)
fail_text (Some (fail_at.Commit n)) = line (codes "fail commit " ++ decimal n)
fail_text (Some (fail_at.Committed n)) = line (codes "fail committed " ++ decimal n)
fail_text (Some (fail_at.Raise flag)) = line (codes "fail raise " ++ decimal flag)

abbrev pub part_text : Part → List ℕ
part_text p = line (codes "member " ++ decimal p.member) ++ restart_text p.restart ++ fail_text p.fail ++ flat_map tran_text p.trans

abbrev pub groupfail_text : ℕ → List ℕ
groupfail_text n = flat_map (λ (l : List ℕ). l) (replicate n (line (codes "groupfail")))

abbrev pub phase_text : Phase → List ℕ
phase_text p = groupfail_text p.groupfails ++ line (codes "phase") ++ flat_map part_text p.parts

abbrev pub script_text : Script → List ℕ
script_text s = flat_map phase_text s.phases ++ groupfail_text s.groupfails
