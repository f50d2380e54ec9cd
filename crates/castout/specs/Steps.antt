-- The steps of a castout.
use Rattle.std.specs.Prelude.{Bool, true, false}
use Rattle.ds_base.specs.declared.names.PageId.{PageId}
use Rattle.cache_structure.specs.declared.face.CastReply.{CastReply}
use Rattle.cache_structure.specs.declared.face.CastReply.TheVariants.{Taken, NotChanged, Locked, Lost}
use Rattle.castout.specs.declared.machine.CastStep.{CastStep}
use Rattle.castout.specs.declared.machine.CastStep.TheVariants as step
use Rattle.castout.specs.declared.machine.CastAnswer.{CastAnswer}
use Rattle.castout.specs.declared.machine.CastAnswer.TheVariants as answer

abbrev pub page_of : CastStep → PageId
page_of (step.Read id) = id
page_of (step.Write id) = id
page_of (step.Done id) = id

-- whether the castout lock was taken
abbrev pub is_taken : CastReply → Bool
is_taken Taken = true
is_taken NotChanged = false
is_taken (Locked by) = false
is_taken Lost = false

-- whether a castout goes on after the answer: the lock was taken, or the disk has the page
abbrev pub goes_on : CastAnswer → Bool
goes_on (answer.Cast reply) = is_taken reply
goes_on answer.Written = true
goes_on (answer.Done reply) = false

-- the next step of the page
abbrev pub next_of : PageId → CastStep → CastReply → CastStep
next_of id now Taken = step.Write id
next_of id now NotChanged = now
next_of id now (Locked by) = now
next_of id now Lost = now

-- once the lock is taken the page is written to disk, and then the lock is freed; at its end the castout stays as it is
abbrev pub step_after : CastStep → CastAnswer → CastStep
step_after now (answer.Cast reply) = next_of (page_of now) now reply
step_after now answer.Written = step.Done (page_of now)
step_after now (answer.Done reply) = now
