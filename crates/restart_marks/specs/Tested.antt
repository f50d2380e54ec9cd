-- Tests in their order, of which the first that fails is told.
use Rattle.std.specs.Prelude.{Bool, if◌then◌else◌, Result, Ok, Err}
use Rattle.restart_marks.specs.declared.intent.RestartTest.{RestartTest}
use Rattle.restart_marks.specs.declared.intent.RestartSent.{RestartSent}

abbrev pub Tested : Type 0
Tested = Result (Unit {0}) RestartTest

abbrev pub passed : Tested
passed = Ok tt

-- this must hold, and then the rest counts
abbrev pub when : Bool → RestartTest → Tested → Tested
when holds test rest = if holds then rest else Err test

-- the rest counts where the tests are passed
abbrev pub after : {T : Type 0} → Tested → Result T RestartTest → Result T RestartTest
after (Ok x) rest = rest
after (Err test) rest = Err test

-- what is sent where the tests are passed
abbrev pub sends : Tested → RestartSent → Result RestartSent RestartTest
sends tested sent = after tested (Ok sent)
