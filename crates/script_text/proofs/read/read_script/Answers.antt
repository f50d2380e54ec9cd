use Rattle.std.proofs.Common.{◌≡◌, Result, Ok, Err, IfOk, sym, ap, ◌∙◌, subst}
use Rattle.ds_model.specs.declared.script.Script.{Script}
use Rattle.ds_model.specs.declared.script.ScriptFault.{ScriptFault}
use Rattle.script_text.specs.declared.read.ScriptError.{ScriptError}
use Rattle.script_text.specs.declared.read.ScriptError.TheVariants as error
use Rattle.script_text.specs.Reading.{IsReadAs, Reads, script_of}
use Rattle.script_text.proofs.read.read_script.Goals as goal

holds : (said : Result Script ScriptFault) (r : Result Script ScriptError) (P : Script → Type 0) → ((s : Script) → said ≡ Ok s → P s) → Reads said r → IfOk r P
holds said (Ok s) P h k = h s k
holds said (Err e) P h k = tt

read_as : (said : Result Script ScriptFault) (r : Result Script ScriptError) (s : Script) → said ≡ Ok s → Reads said r → IsReadAs s r
read_as said (Ok t) s h k = cc
read_as said (Err (error.Fault f)) s h k = cc
read_as said (Err error.NoMemory) s h k = tt

pub returns-clause-script : goal.returns-clause-script
returns-clause-script c =
    let law = c.reading_script_laws.ensures in
    holds (script_of c.args.members c.args.bytes.now) c.read_text.result _ (λ s h. c.reading_script_laws.ensures c.args.members c.args.bytes.now s h) c.read_text.ensures

pub returns-clause-canonical : goal.returns-clause-canonical
returns-clause-canonical c = λ s h short e.
    read_as (script_of c.args.members c.args.bytes.now) c.read_text.result s
    (ap (script_of c.args.members) e ∙ c.canonical_script_laws.ensures c.args.members s c.requires.1 h short)
    c.read_text.ensures
