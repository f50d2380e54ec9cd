-- Of which pages the patches of a plan are, and to which page a look leads.
use Rattle.std.specs.Prelude.{◌≡◌, ℕ, ◌+◌, Bool, true, false, ◌||◌, List, Option, None, Some}
use Rattle.std.specs.List.{AllByRecursion}
use Rattle.ds_base.specs.declared.names.PageId.{PageId}
use Rattle.ds_base.specs.declared.names.Place.{Place}
use Rattle.page_format.specs.declared.patch.Patch.{Patch}
use Rattle.ds_base.specs.Pages.{same_page}
use Rattle.page_plans.specs.declared.action.Action.{Action}
use Rattle.page_plans.specs.declared.action.Look.TheVariants as look
use Rattle.page_plans.specs.Names.{action_page}
use Rattle.page_plans.specs.Looks.{look_of, place_in}
use Rattle.page_plans.specs.Plans.{plan_of}

abbrev pub is_the : PageId → Option PageId → Bool
is_the id None = false
is_the id (Some page) = same_page page id

-- one of the pages of the action
abbrev pub is_page_of : Action → Option Place → PageId → Bool
is_page_of a place id = is_the id (action_page a 0 place) || (is_the id (action_page a 1 place) || is_the id (action_page a 2 place))

abbrev pub IsOf : Action → Option Place → Patch → Type 0
IsOf a place p = is_page_of a place p.page ≡ true

-- what the first page leads to, if it is there
abbrev pub place_at : Action → ℕ → Option (List ℕ) → Option Place
place_at a limit None = None
place_at a limit (Some page) = place_in (look_of a limit 0 None page)

-- each patch of a plan is one of a page of the action
abbrev pub PatchesAreOfPages : Type 0
PatchesAreOfPages = (a : Action) (limit : ℕ) (x y z : Option (List ℕ)) (ps : List Patch) → plan_of a limit x y z ≡ Some ps → AllByRecursion (IsOf a (place_at a limit x)) ps

-- a look leads to the next page of the action
abbrev pub LooksLeadOn : Type 0
LooksLeadOn = (a : Action) (limit nth : ℕ) (place to : Option Place) (page : List ℕ) (next : PageId) → look_of a limit nth place page ≡ look.Next next to → action_page a (nth + 1) to ≡ Some next
