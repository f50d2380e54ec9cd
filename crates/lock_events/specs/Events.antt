-- Any event of a member that is up, as moves in the world of locks.
use Rattle.std.specs.Prelude.{◌≡◌, ℕ}
use Rattle.member_intents.specs.declared.intent.Intent.{Intent}
use Rattle.member_intents.specs.declared.outcome.Answered.{Answered}
use Rattle.member_intents.specs.declared.outcome.Sent.{Sent}
use Rattle.member_resources.specs.Held.{Held, begun}
use Rattle.member_resources.specs.Events as event
use Rattle.member_resources.specs.Events.{Ends, Happens}
use Rattle.lock_protocol.specs.Machine.{World}
use Rattle.lock_protocol.specs.Sound.{Sound}
use Rattle.lock_world.specs.Tied.{Claims, Tied}
use Rattle.lock_world.specs.Views.{entry_in}
use Rattle.lock_intents.specs.Stands.{Knows, Leads, IsUp, Goes}
use Rattle.marks_law.specs.Slots.{SlotsStand}

-- whatever was wanted, it was lawful, went out and was settled, and then the policy made local moves
abbrev pub EventGoes : Type 0
EventGoes = (w : World) (u v : event.World) (held left : Claims) (h k : Held) (i : Intent) (place : ℕ) (sent : Sent) (a : Answered)
    → Sound (entry_in u.facility.locks) w → Tied w u.facility.locks u.facility.lists held → IsUp u.facility h.marks → SlotsStand h.marks → Knows held h.marks
    → Happens u h i place sent a v k → Leads held left h.marks k.marks → Goes w u.facility v.facility left h.marks k.marks

-- the member is told of its restart or its rebuild
abbrev pub ToldGoes : Type 0
ToldGoes = (w : World) (u : event.World) (held left : Claims) (h k : Held) (place : ℕ)
    → Sound (entry_in u.facility.locks) w → Tied w u.facility.locks u.facility.lists held → IsUp u.facility h.marks → Knows held h.marks
    → Ends (begun h place) k → Leads held left h.marks k.marks → Goes w u.facility u.facility left h.marks k.marks
