-- Whole runs: what holds behind an event holds before the next one, as long as each event takes from elsewhere what it takes.
use Rattle.std.proofs.Common.{◌≡◌, ℕ, refl, sym, ◌∙◌, ap, subst, Bool, false, List, [], ◌∷◌, ◌++◌, Option, Some}
use Rattle.std.specs.Prelude.{◌≢◌, ◌&&◌, IfSome, is_some, map, not, slice_get}
use Rattle.std.proofs.lemmas.Option.{slice_get-map}
use Rattle.ds_disk.specs.Contents.{Contents}
use Rattle.ds_disk.specs.Pages as disk
use Rattle.cache_structure.specs.Directory.{Directory}
use Rattle.group_member.specs.Members.{IsDown, Member, member_of}
use Rattle.group_core.specs.declared.fault.RunFault.{RunFault}
use Rattle.group_core.specs.declared.fault.RunFault.TheVariants as fault
use Rattle.group_core.specs.declared.group.Group.{Group}
use Rattle.group_core.specs.Events.{takes}
use Rattle.group_core.specs.Fresh.{IsLooked, RunsFresh}
use Rattle.group_core.specs.Given.{CrewState, crew_state, is_ready_in}
use Rattle.group_core.specs.Takes.{Takes}
use Rattle.page_protocol.specs.Moves.{World, start}
use Rattle.page_world.specs.Numbers.{page_at}
use Rattle.page_recoveries.specs.Given.{Drive, PageMoves}
use Rattle.fallen_pages.specs.Anew.{StartsGo}
use Rattle.fallen_pages.specs.Steps.{PagesAt, PagesHold, PagesMove, drive_of}
use Rattle.fallen_pages.specs.Whole.{RunsHold, RunsStart}
use Rattle.fallen_pages.proofs.Looked.{looked_state}
use Rattle.fallen_pages.proofs.Worlds.{run_on}

module _ {C D : Type 0} (P : Type 0) (directory : C → Directory) (alive : D → Bool) (contents : D → Option Contents) (count : D → ℕ) where
  looked_holds : (old new : Group D C P) (w : World) → IsLooked old new → PagesHold (drive_of alive contents old.disk) (crew_state directory old.crew) w → PagesHold (drive_of alive contents new.disk) (crew_state directory new.crew) w
  looked_holds old new w l h =
      subst (λ (z : D). PagesHold (drive_of alive contents z) (crew_state directory new.crew) w) (sym (ap (λ (z : Group D C P). z.disk) l.rest))
      (subst (λ (z : CrewState). PagesHold (drive_of alive contents old.disk) z w) (sym (looked_state directory old new l)) h)

  -- ---- a fault is left from then on
  still_faulty : (old new : Group D C P) (event : ℕ) (why : RunFault) → Takes directory alive contents count old event new → old.fault ≡ Some why → new.fault ≡ Some why
  still_faulty old new event why taken is =
      let isnt : takes old event ≡ false = ap (λ (z : Option RunFault). not (is_some z) && is_ready_in old.crew event) is in
      ap (λ (z : Group D C P). z.fault) (taken.left isnt) ∙ is

  faulty_on : (events : List ℕ) (old new : Group D C P) (why : RunFault) → RunsFresh directory alive contents count old events new → old.fault ≡ Some why → new.fault ≡ Some why
  faulty_on [] old new why runs is = ap (λ (z : Group D C P). z.fault) runs.rest ∙ is
  faulty_on (event ∷ events) old new why runs is =
      let first = runs.1 in
      faulty_on events runs.0 new why runs.2 (still_faulty first.mid runs.0 event why first.takes (ap (λ (z : Group D C P). z.fault) first.looked.rest ∙ is))

  -- nothing was refused
  abbrev IsLawful : Group D C P → Type 0
  IsLawful group = (at : ℕ) → group.fault ≢ Some (fault.Unlawful at)

  lawful_before : (events : List ℕ) (old new : Group D C P) → RunsFresh directory alive contents count old events new → IsLawful new → IsLawful old
  lawful_before events old new runs lawful at e = lawful at (faulty_on events old new (fault.Unlawful at) runs e)

  -- ---- the run
  behind : (e : Drive) (s : CrewState) (f : Drive) (t : CrewState) (w : World) → (a : PagesMove e s w) → PagesMove f t a.world → PagesMove f t w
  behind e s f t w a b = record { moves = a.moves ++ b.moves; world = b.world; run = run_on w a.world b.world a.moves b.moves a.run b.run; stands = b.stands }

  pub runs_hold : RunsHold P directory alive contents count
  runs_hold law first [] last w holds runs told lawful = record { moves = []; world = w; run = refl; stands = looked_holds first last w runs holds }
  runs_hold law first (event ∷ events) last w holds runs told lawful =
      let here : IsLawful runs.0 = lawful_before events runs.0 last runs.2 lawful in
      let this = told here in
      let a : PagesMove (drive_of alive contents runs.0.disk) (crew_state directory runs.0.crew) w = law first runs.0 event this.0.locks w runs.1 here this.0.tied holds this.0.tells in
      behind (drive_of alive contents runs.0.disk) (crew_state directory runs.0.crew) (drive_of alive contents last.disk) (crew_state directory last.crew) w a (runs_hold law runs.0 events last a.world a.stands runs.2 this.1 lawful)

  -- ---- the start
  pub runs_start : StartsGo → RunsStart P directory alive contents
  runs_start law first c l fresh told locks =
      let a : PageMoves (drive_of alive contents first.disk) (crew_state directory first.crew) start =
      law (drive_of alive contents first.disk) (crew_state directory first.crew) l (λ n. disk.page_at c.pages (page_at n)) locks fresh.facility (record { contents = c; told = told; each = λ n. refl }) down in
      record { moves = a.moves; world = a.world; run = a.run; stands = subst (λ z. PagesAt z (drive_of alive contents first.disk) (crew_state directory first.crew) a.world) (sym fresh.unfailed) a.tied }
    where
      down : (at : ℕ) → IfSome (slice_get (crew_state directory first.crew).members at) (IsDown first.crew.sizes.sizes)
      down at = subst (λ (z : Option Member). IfSome z (IsDown first.crew.sizes.sizes)) (sym (slice_get-map member_of first.crew.parts.items at)) (fresh.members at)
