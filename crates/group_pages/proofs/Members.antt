-- An event of a member that is up, by what it was.
use Rattle.std.proofs.Common.{◌≡◌, ◌+◌, sym, ◌∙◌, ap, Bool, true, false, Option, Some, None}
use Rattle.std.specs.Prelude.{◌||◌, is_some}
use Rattle.list_structure.specs.Standings.{status_of}
use Rattle.page_owners.specs.Given.{CommandsStay, Resources, RestartHeld, Stepped, Steps, is_failure, is_over}
use Rattle.page_owners.specs.Given.stepped_variants as steps
use Rattle.group_locks.specs.Stands.{MemberStands}
use Rattle.page_rebuilds.specs.Rebuilds.{EventsGo as RebuildsGo}
use Rattle.group_pages.specs.Events.{PageMoves}
use Rattle.group_pages.specs.Members.{MemberStepsGo, StepTells}
use Rattle.group_pages.proofs.Up.{Facts, own_steps, rebuild_steps, stood_at}

pub unfailed : (b : Bool) → (b || false) ≡ false → b ≡ false
unfailed true e = e
unfailed false e = e

none_some : (x : Option RestartHeld) (q : RestartHeld) → x ≡ None → x ≡ Some q → ⊥
none_some x q a b = let never : is_some x ≡ false = ap is_some a in let some : is_some x ≡ true = ap is_some b in let both : false ≡ true = sym never ∙ some in cc

pub member_steps : Facts → RebuildsGo → CommandsStay → MemberStepsGo
member_steps facts rebuild stay old new at m n l w locks e over t tells = by e.stepped e.steps over tells
  where
    u : Resources
    u = record { facility = old.facility; drive = e.drive }

    v : Resources
    v = record { facility = new.facility; drive = e.left }

    stood : MemberStands old.facility (at + 1) m
    stood = stood_at old l at m locks e.had

    by : (stepped : Stepped) (made : Steps m u old.fates e.place stepped n v new.fates) → is_over stepped ≡ false → StepTells w t.holdings t.versions m u e.place stepped v made.mid made.makes → PageMoves e.left new w
    by (steps.Sent s a) made over tells = own_steps facts old new at m n l w locks e t made.mid s a made.makes made.enters (unfailed (is_failure a) over) tells
    by (steps.Restart s a) made over tells = absurd (none_some m.restart made.makes.makes.before (stood.up (ap (λ z. status_of old.facility.lists.statuses z) (sym stood.id) ∙ e.up)) made.makes.makes.had)
    by (steps.Rebuild s a) made over tells = rebuild_steps facts rebuild stay old new at m n l w locks e t made.mid s a made.makes made.enters (unfailed (is_failure a) over) tells
    by steps.Failed made over tells = absurd made.makes
