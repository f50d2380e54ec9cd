-- An event of the restart in hand that changes locks, asks another member or ends the restart.
use Rattle.std.specs.Prelude.{◌≡◌, ◌==◌, ℕ, Bool, true, false, None}
use Rattle.ds_base.specs.Ids.{IsMember}
use Rattle.facility.specs.declared.command.Command.{Command}
use Rattle.facility.specs.declared.command.Command.TheVariants as command
use Rattle.member_intents.specs.declared.outcome.Answered.{Answered}
use Rattle.restart_marks.specs.declared.intent.RestartSent.{RestartSent}
use Rattle.restart_marks.specs.declared.intent.RestartSent.TheVariants as sent
use Rattle.restart_resources.specs.Events as event
use Rattle.restart_resources.specs.Events.{Happens}
use Rattle.restart_resources.specs.Held.{Held}
use Rattle.lock_protocol.specs.Machine.{World}
use Rattle.lock_world.specs.Numbers.{number}
use Rattle.lock_world.specs.Tied.{Claims, Tied}
use Rattle.lock_restarts.specs.Sent.{IsStill}
use Rattle.lock_restarts.specs.Stands.{OwnClaims, Knows, Leads, IsRestarting, Goes}

-- a record that is freed is of a name that no rollback of the member claims, and who is asked is a member
abbrev pub Allows : OwnClaims → Command → Type 0
Allows own (command.Purge n) = (o : ℕ) → own o (number n) ≡ None
Allows own (command.Ask slot to n m) = IsMember to
Allows own _ = Unit {0}

abbrev pub AllowsSent : OwnClaims → RestartSent → Type 0
AllowsSent own (sent.Command c) = Allows own c
AllowsSent own _ = Unit {0}

-- the names whose claims go: those whose record is freed, and all at the end
abbrev pub gone_in : Command → ℕ → Bool
gone_in (command.Purge n) c = c == number n
gone_in (command.SetStatus status) c = true
gone_in _ c = false

abbrev pub gone_by : RestartSent → ℕ → Bool
gone_by (sent.Command k) c = gone_in k c
gone_by _ c = false

-- whatever was wanted, it was lawful, went out and was settled, and then the policy made local moves
abbrev pub ChangesGo : Type 0
ChangesGo = (w : World) (u v : event.World) (held left : Claims) (own : OwnClaims) (h k : Held) (x : RestartSent) (a : Answered)
    → Tied w u.facility.locks u.facility.lists held → IsRestarting u.facility own h.marks → Knows held own h.marks → AllowsSent own x → (IsStill x → ⊥)
    → Happens u h x a v k → Leads held left own h.marks k.marks → Goes w u.facility v.facility left h.marks.member (gone_by x)
