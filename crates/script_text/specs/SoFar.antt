-- What a script holds up to a line.
use Rattle.std.specs.Prelude.{ℕ, ◌==◌, Bool, List, [], ◌∷◌, ◌++◌, map, bytes_eq}
use Rattle.std.specs.List.{flat_map, list_any}
use Rattle.ds_model.specs.declared.script.Part.{Part}
use Rattle.ds_model.specs.declared.script.Phase.{Phase}
use Rattle.ds_model.specs.Transactions.{Placed, placed_phase}
use Rattle.ds_model.specs.Scripts.{flags_raised, part_raises, failing_as, phase_fails}
use Rattle.script_text.specs.declared.draft.Place.{Place}
use Rattle.script_text.specs.declared.draft.Place.TheVariants as place
use Rattle.script_text.specs.declared.draft.Draft.{Draft}

abbrev pub has_number : List ℕ → ℕ → Bool
has_number xs n = list_any (λ x. x == n) xs

abbrev pub has_name : List (List ℕ) → List ℕ → Bool
has_name names name = list_any (λ x. bytes_eq name x) names

-- the parts of the open phase, with the open one, but without its open transaction
abbrev pub parts_of : Place → List Part
parts_of place.Outside = []
parts_of (place.Phase parts) = parts
parts_of (place.Part parts part) = parts ++ part ∷ []
parts_of (place.Tran parts part name wait ops) = parts ++ part ∷ []

abbrev pub phase_with : ℕ → List Part → Phase
phase_with groupfails parts = record { groupfails = groupfails; parts = parts }

abbrev pub open_phase : ℕ → Place → List Phase
open_phase groupfails place.Outside = []
open_phase groupfails (place.Phase parts) = phase_with groupfails parts ∷ []
open_phase groupfails (place.Part parts part) = phase_with groupfails (parts ++ part ∷ []) ∷ []
open_phase groupfails (place.Tran parts part name wait ops) = phase_with groupfails (parts ++ part ∷ []) ∷ []

-- the phases that have begun
abbrev pub phases_so_far : Draft → List Phase
phases_so_far d = d.phases ++ open_phase d.groupfails d.place

abbrev pub open_name : Place → List (List ℕ)
open_name place.Outside = []
open_name (place.Phase parts) = []
open_name (place.Part parts part) = []
open_name (place.Tran parts part name wait ops) = name ∷ []

-- the names of the transactions that have begun
abbrev pub names_so_far : Draft → List (List ℕ)
names_so_far d = map (λ (p : Placed). p.1.name) (flat_map placed_phase (phases_so_far d)) ++ open_name d.place

-- the members that earlier phases let fail
abbrev pub members_failed : Draft → List ℕ
members_failed d = flat_map phase_fails d.phases

-- the members that the open phase lets fail so far
abbrev pub members_failing : Draft → List ℕ
members_failing d = flat_map (λ (p : Part). failing_as p.member p.fail) (parts_of d.place)

-- the members with a part in the open phase
abbrev pub members_playing : Draft → List ℕ
members_playing d = map (λ (p : Part). p.member) (parts_of d.place)

-- the flags that the ended transactions of the open phase raise
abbrev pub flags_raised_by_others : Draft → List ℕ
flags_raised_by_others d = flat_map part_raises (parts_of d.place)

abbrev pub flags_at : Place → List ℕ
flags_at place.Outside = []
flags_at (place.Phase parts) = []
flags_at (place.Part parts part) = []
flags_at (place.Tran parts part name wait ops) = flags_raised ops

-- the flags that the open transaction raises so far
abbrev pub flags_raised_now : Draft → List ℕ
flags_raised_now d = flags_at d.place
