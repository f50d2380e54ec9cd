-- What it is that a script was read.
use Rattle.std.specs.Prelude.{◌≡◌, ℕ, ◌≤◌, List, Option, length, Ok}
use Rattle.std.specs.Io.KnownBytes.{Consumes, IsAtEnd}
use Rattle.ds_model.specs.declared.script.Script.{Script}
use Rattle.ds_model.specs.Scripts.{IsScript}
use Rattle.script_text.specs.Reading.{script_of}

-- the bytes of the longest script
abbrev pub script_limit : ℕ
script_limit = 4194304

-- the bytes are this script for so many members
pub record Spells (members : ℕ) (bytes : List ℕ) (script : Script) : Type 0 where
  pub is : script_of members bytes ≡ Ok script
  pub has_rules : IsScript members script
  pub short : length bytes ≤ script_limit

-- the source was read to its end, and spelled this script
pub record IsRead (members : ℕ) (left left_now : Option (List ℕ)) (script : Script) : Type 0 where
  pub bytes : List ℕ
  pub consumed : Consumes left left_now bytes
  pub at_end : IsAtEnd left_now
  pub spelled : Spells members bytes script
