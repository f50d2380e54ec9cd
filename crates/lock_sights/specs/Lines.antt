-- The lines that tell sights.
use Rattle.std.specs.Prelude.{ℕ, List, ◌++◌, Option, Some, None, codes, decimal}
use Rattle.std.specs.List.{flat_map}
use Rattle.ds_base.specs.declared.names.TranId.{TranId}
use Rattle.ds_model.specs.ReportText.{lock_text}
use Rattle.ds_model.specs.ScriptText.{line}
use Rattle.ds_model.specs.declared.script.Tran.{Tran}
use Rattle.ds_model.specs.declared.lock.Name.{Name}
use Rattle.lock_names.specs.declared.mode.Mode.{Mode}
use Rattle.lock_names.specs.declared.mode.Mode.TheVariants as mode
use Rattle.lock_sights.specs.Rosters.{tran_at}
use Rattle.lock_sights.specs.declared.sight.Grip.{Grip}
use Rattle.lock_sights.specs.declared.sight.Matter.{Matter}
use Rattle.lock_sights.specs.declared.sight.Matter.TheVariants as matter
use Rattle.lock_sights.specs.declared.sight.Sight.{Sight}

abbrev pub counted : List ℕ → ℕ → List ℕ
counted text n = text ++ decimal n

abbrev pub mode_word : Mode → List ℕ
mode_word mode.IS = codes "IS"
mode_word mode.IX = codes "IX"
mode_word mode.S = codes "S"
mode_word mode.U = codes "U"
mode_word mode.SIX = codes "SIX"
mode_word mode.X = codes "X"

abbrev pub name_in : Option Tran → List ℕ
name_in (Some t) = t.name
name_in None = codes "a rollback"

-- the name of a transaction; a rollback that a restart left has no number
abbrev pub tran_text : List Tran → TranId → List ℕ
tran_text all t = name_in (tran_at all t.number)

unfoldable pub of_member : List Tran → TranId → List ℕ
of_member all t = tran_text all t ++ counted (codes " of member ") t.member

unfoldable pub in_mode : Mode → List ℕ
in_mode m = codes " in " ++ mode_word m

unfoldable pub since_text : Grip → List ℕ
since_text g = in_mode g.mode ++ counted (codes " since event ") g.since

unfoldable pub wanted_text : Name → Mode → List ℕ
wanted_text name m = codes " wanted " ++ lock_text name ++ in_mode m

unfoldable pub nobody_text : List ℕ
nobody_text = codes ", and no live transaction held it in a mode that conflicts"

unfoldable pub held_text : List Tran → Grip → List ℕ
held_text all g = codes ", and " ++ of_member all g.tran ++ codes " held it" ++ since_text g

abbrev pub holder_text : List Tran → Option Grip → List ℕ
holder_text all None = nobody_text
holder_text all (Some g) = held_text all g

unfoldable pub raiser_text : List Tran → TranId → List ℕ
raiser_text all raiser = codes ", which " ++ of_member all raiser ++ codes " was to raise"

unfoldable pub awaited_text : ℕ → List ℕ
awaited_text flag = counted (codes " awaited flag ") flag

unfoldable pub flag_text : List Tran → ℕ → TranId → List ℕ
flag_text all flag raiser = awaited_text flag ++ raiser_text all raiser

unfoldable pub failed_text : ℕ → List ℕ
failed_text member = counted (codes " member ") member ++ codes " failed"

unfoldable pub had_text : List Tran → Name → Grip → List ℕ
had_text all name g = codes ", and its " ++ tran_text all g.tran ++ codes " held " ++ lock_text name ++ since_text g

abbrev pub had_by : List Tran → Name → Option Grip → List ℕ
had_by all name None = codes ""
had_by all name (Some g) = had_text all name g

unfoldable pub lock_matter : List Tran → TranId → Name → Mode → Option Grip → List ℕ
lock_matter all t name m grip = codes " " ++ tran_text all t ++ wanted_text name m ++ holder_text all grip

unfoldable pub flag_matter : List Tran → TranId → ℕ → TranId → List ℕ
flag_matter all t flag raiser = codes " " ++ tran_text all t ++ flag_text all flag raiser

unfoldable pub failure_matter : List Tran → ℕ → Name → Option Grip → List ℕ
failure_matter all member name grip = failed_text member ++ had_by all name grip

abbrev pub matter_text : List Tran → TranId → Matter → Option Grip → List ℕ
matter_text all t (matter.Lock name m) grip = lock_matter all t name m grip
matter_text all t (matter.Flag flag raiser) grip = flag_matter all t flag raiser
matter_text all t (matter.Failure member name) grip = failure_matter all member name grip

unfoldable pub sight_text : List Tran → Sight → List ℕ
sight_text all s = line (counted (codes "at event ") s.place ++ matter_text all s.tran s.matter s.grip)

-- a line for each sight
abbrev pub sights_text : List Tran → List Sight → List ℕ
sights_text all sights = flat_map (sight_text all) sights
