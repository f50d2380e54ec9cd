-- What the indexes of a reader hold of the script so far.
use Rattle.std.specs.Prelude.{◌≡◌, ℕ, Bool, false, List, get_or, Result, Ok, Err}
use Rattle.std.specs.List.{flat_map, list_any}
use Rattle.std.specs.Ordering.{nat_cmp}
use Rattle.std.specs.Cmp.Lexicographic.{slice_cmp}
use Rattle.std.specs.BTreeSet.{contains_by}
use Rattle.ds_model.specs.declared.script.FaultKind.{FaultKind}
use Rattle.script_line.specs.declared.line.LineError.{LineError}
use Rattle.script_line.specs.declared.line.LineError.TheVariants as error
use Rattle.script_text.specs.declared.draft.Draft.{Draft}
use Rattle.script_text.specs.declared.reader.Reader.{Reader}
use Rattle.script_text.specs.SoFar.{has_number, has_name, names_so_far, members_failed, members_failing, members_playing, flags_raised_by_others, flags_raised_now}
use Rattle.script_text.specs.declared.marks.Marks.{Marks}
use Rattle.script_text.specs.declared.names.Names.{Names}

abbrev pub is_marked : Marks → ℕ → Bool
is_marked m n = get_or m.marks n false

abbrev pub is_kept : Names → List ℕ → Bool
is_kept names name = contains_by (λ k. slice_cmp nat_cmp name k.items) names.kept

-- exactly these numbers are marked
abbrev pub Marked : Marks → List ℕ → Type 0
Marked m xs = (n : ℕ) → is_marked m n ≡ has_number xs n

-- the indexes hold what the draft says
pub record IsIndexed (r : Reader) : Type 0 where
  pub names_are : (name : List ℕ) → is_kept r.names name ≡ has_name (names_so_far r.draft) name
  pub failed_are : Marked r.failed (members_failed r.draft)
  pub failing_are : Marked r.failing (members_failing r.draft)
  pub playing_are : Marked r.playing (members_playing r.draft)
  pub raised_are : Marked r.raised (flags_raised_by_others r.draft)
  pub raising_are : Marked r.raising (flags_raised_now r.draft)

-- what a step gave: the draft now, or its fault; or memory was wanting
abbrev pub IsStep : Result Draft FaultKind → Draft → Result (Unit {0}) LineError → Type 0
IsStep next now (Ok done) = next ≡ Ok now
IsStep next now (Err (error.Fault kind)) = next ≡ Err kind
IsStep next now (Err error.NoMemory) = Unit {0}
