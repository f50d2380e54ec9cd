-- What an event of a member was.
use Rattle.std.specs.Prelude.{ℕ, ◌==◌, ◌&&◌, Bool, true, false, ◌||◌, if◌then◌else◌}
use Rattle.member_intents.specs.declared.outcome.Answered.{Answered}
use Rattle.member_intents.specs.declared.outcome.Answered.TheVariants as answers
use Rattle.group_member.specs.declared.stepped.Stepped.{Stepped}
use Rattle.group_member.specs.declared.stepped.Stepped.TheVariants as steps

abbrev pub is_failure : Answered → Bool
is_failure answers.None = false
is_failure (answers.Reply reply) = false
is_failure answers.Done = false
is_failure answers.Failed = true

-- whether a call of the disk has failed
abbrev pub has_failed : Stepped → Bool
has_failed (steps.Sent sent answered) = is_failure answered
has_failed (steps.Restart sent answered) = is_failure answered
has_failed (steps.Rebuild sent answered) = is_failure answered
has_failed steps.Failed = false

-- the member was to fail, and has
abbrev pub is_fail : Stepped → Bool
is_fail (steps.Sent sent answered) = false
is_fail (steps.Restart sent answered) = false
is_fail (steps.Rebuild sent answered) = false
is_fail steps.Failed = true

-- the member has failed, as it was to, or since a call of the disk has
abbrev pub is_over : Stepped → Bool
is_over stepped = has_failed stepped || is_fail stepped

-- ---- whose event it is

pub data Kind : Type 0 where
  Own : Kind
  OfRestart : Kind
  OfRebuild : Kind

-- choice 20 is the rebuild's, and choice 0 the restart's while the member restarts
abbrev pub kind_for : ℕ → Bool → Kind
kind_for choice restarts = if (choice == 0) && restarts then OfRestart else (if choice == 20 then OfRebuild else Own)

-- the event was of this kind
abbrev pub is_of : Kind → Stepped → Bool
is_of Own (steps.Sent sent answered) = true
is_of Own (steps.Restart sent answered) = false
is_of Own (steps.Rebuild sent answered) = false
is_of Own steps.Failed = false
is_of OfRestart (steps.Sent sent answered) = false
is_of OfRestart (steps.Restart sent answered) = true
is_of OfRestart (steps.Rebuild sent answered) = false
is_of OfRestart steps.Failed = false
is_of OfRebuild (steps.Sent sent answered) = false
is_of OfRebuild (steps.Restart sent answered) = false
is_of OfRebuild (steps.Rebuild sent answered) = true
is_of OfRebuild steps.Failed = false
