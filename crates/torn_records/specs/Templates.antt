-- The least bytes of records, from which what is missing of a record is taken.
use Rattle.std.specs.Prelude.{◌≡◌, ℕ, zero, suc, ◌+◌, ◌-◌, ◌*◌, Bool, true, false, List, [], ◌∷◌, ◌++◌, length, replicate, drop, max, slice_index, nat_le, if◌then◌else◌, Option, None, Some}
use Rattle.std.specs.Int.{w16, w32, w64, to_be_bytes}
use Rattle.std.specs.List.{flat_map}
use Rattle.page_format.specs.declared.patch.Patch.{Patch}
use Rattle.ds_model.specs.declared.log.RowChange.{RowChange}
use Rattle.ds_model.specs.declared.log.Version.{Version}
use Rattle.ds_model.specs.RecordBytes.{frame_of, version_byte, lrsn_bytes}

-- ---- the frame

-- a transaction's number, where there is one
abbrev pub tran_text : Bool → ℕ
tran_text true = 1
tran_text false = 0

-- a record with this body
unfoldable pub frame_text : Version → ℕ → Bool → List ℕ → List ℕ
frame_text v kind has_tran text = to_be_bytes w32 (frame_of v + length text) ++ kind ∷ version_byte v ∷ lrsn_bytes v 0 ++ lrsn_bytes v (tran_text has_tran) ++ text ++ to_be_bytes w32 (frame_of v + length text)

-- ---- a row's change

-- 0 where there is no row, and else one more than its value's bytes
abbrev pub shape_of : Option (List ℕ) → ℕ
shape_of None = 0
shape_of (Some value) = suc (length value)

abbrev pub state_text : ℕ → List ℕ
state_text zero = 1 ∷ 0 ∷ []
state_text (suc n) = 2 ∷ n ∷ replicate n 0x21

abbrev pub row_text : List ℕ
row_text = 1 ∷ to_be_bytes w64 0 ++ to_be_bytes w32 1 ++ to_be_bytes w16 0

abbrev pub change_text : ℕ → ℕ → List ℕ
change_text before after = row_text ++ state_text before ++ state_text after

abbrev pub HasShapes : ℕ → ℕ → RowChange → Type 0
HasShapes before after c = (shape_of c.before ≡ before) × (shape_of c.after ≡ after)

-- ---- patches

abbrev pub patch_text : ℕ → List ℕ
patch_text size = to_be_bytes w16 1 ++ to_be_bytes w32 0 ++ to_be_bytes w16 0 ++ to_be_bytes w16 size ++ replicate size 0

abbrev pub patches_text : List ℕ → List ℕ
patches_text sizes = flat_map patch_text sizes

-- how many bytes the next patch has, behind which so many more stand: what is told of it, or as few as leave no more to the others than they hold
abbrev pub next_size : List ℕ → ℕ → ℕ → ℕ
next_size here more left =
    if nat_le 10 (length here) then 256 * slice_index here 8 + slice_index here 9
    else max (max (256 * slice_index here 8) 1) (left - (10 + 4074 * more))

-- how many bytes each of so many patches has, whose first bytes are these and which have so many bytes together
unfoldable pub sizes_from : ℕ → List ℕ → ℕ → List ℕ
sizes_from zero here left = []
sizes_from (suc more) here left =
    next_size here more left ∷ sizes_from more (drop (10 + next_size here more left) here) (left - (10 + next_size here more left))

abbrev pub sizes_of : List Patch → List ℕ
sizes_of [] = []
sizes_of (p ∷ ps) = length p.bytes ∷ sizes_of ps
