-- Any event of the restart in hand.
use Rattle.std.specs.Prelude.{◌≡◌, ℕ, None}
use Rattle.facility.specs.declared.command.Command.{Command}
use Rattle.facility.specs.declared.command.Command.TheVariants as command
use Rattle.member_intents.specs.declared.outcome.Answered.{Answered}
use Rattle.restart_marks.specs.declared.intent.RestartSent.{RestartSent}
use Rattle.restart_marks.specs.declared.intent.RestartSent.TheVariants as sent
use Rattle.restart_resources.specs.Events as event
use Rattle.restart_resources.specs.Events.{Happens}
use Rattle.restart_resources.specs.Held.{Held}
use Rattle.lock_protocol.specs.Machine.{World}
use Rattle.lock_world.specs.Numbers.{number}
use Rattle.lock_world.specs.Tied.{Claims, Tied}
use Rattle.lock_restarts.specs.Changes.{gone_by}
use Rattle.lock_restarts.specs.Sent.{IsStill}
use Rattle.lock_restarts.specs.Stands.{OwnClaims, Knows, Leads, IsRestarting, Goes}

-- it changes no locks, asks nobody and sets no standing: no move
abbrev pub StillsStay : Type 0
StillsStay = (w : World) (u v : event.World) (held left : Claims) (own : OwnClaims) (h k : Held) (x : RestartSent) (a : Answered)
    → Tied w u.facility.locks u.facility.lists held → Knows held own h.marks → IsStill x
    → Happens u h x a v k → Leads held left own h.marks k.marks → Goes w u.facility v.facility left h.marks.member (gone_by x)

-- ---- whatever was wanted

-- a record that is freed is of a name that no rollback of the member claims
abbrev pub Frees : OwnClaims → Command → Type 0
Frees own (command.Purge n) = (o : ℕ) → own o (number n) ≡ None
Frees own _ = Unit {0}

abbrev pub FreesSent : OwnClaims → RestartSent → Type 0
FreesSent own (sent.Command c) = Frees own c
FreesSent own _ = Unit {0}

abbrev pub EventsGo : Type 0
EventsGo = (w : World) (u v : event.World) (held left : Claims) (own : OwnClaims) (h k : Held) (x : RestartSent) (a : Answered)
    → Tied w u.facility.locks u.facility.lists held → IsRestarting u.facility own h.marks → Knows held own h.marks → FreesSent own x
    → Happens u h x a v k → Leads held left own h.marks k.marks → Goes w u.facility v.facility left h.marks.member (gone_by x)
