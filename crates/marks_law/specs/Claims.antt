-- Events that leave the claims of a member as they are.
use Rattle.std.specs.Prelude.{◌≡◌, ℕ, Bool, true, false}
use Rattle.member_intents.specs.declared.intent.Intent.{Intent}
use Rattle.member_intents.specs.declared.intent.Intent.TheVariants as intent
use Rattle.member_intents.specs.declared.outcome.Answered.{Answered}
use Rattle.member_intents.specs.declared.outcome.Sent.{Sent}
use Rattle.member_effects.specs.Given.{Plan}
use Rattle.member_effects.specs.declared.told.Told.{Told}
use Rattle.member_marks.specs.State.{MarksState}
use Rattle.member_resources.specs.Held.{Held}
use Rattle.member_resources.specs.Events.{World, Runs}

-- a lock is taken by the intent, or given up
abbrev pub changes_claims : Intent → Bool
changes_claims (intent.Obtain o n m) = true
changes_claims (intent.Grant o n m) = true
changes_claims (intent.ReleaseLock o) = true
changes_claims (intent.ReleasePage page) = true
changes_claims (intent.End o) = true
changes_claims _ = false

-- the same claims of the same member
pub record SameClaims (s t : MarksState) : Type 0 where
  pub locks : t.locks ≡ s.locks
  pub member : t.member ≡ s.member

-- all else that is run and settled leaves the claims, but for the local moves of the policy
abbrev pub ClaimsStay : Type 0
ClaimsStay = (w v : World) (h k : Held) (i : Intent) (sent : Sent) (p : Plan) (place : ℕ) (a : Answered) (said : Told)
    → changes_claims i ≡ false → Runs w h i sent p place a said v k → SameClaims h.marks k.marks
