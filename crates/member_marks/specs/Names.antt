-- Names of table spaces and rows.
use Rattle.std.specs.Prelude.{Bool, true, false, List, [], ◌∷◌, replicate, slice_set, slice_index_or}
use Rattle.std.specs.List.{list_any}
use Rattle.std.specs.BTreeMap.{is_at}
use Rattle.std.specs.BTreeSet.{insert_key}
use Rattle.std.specs.Set.{remove_key}
use Rattle.ds_model.specs.declared.lock.Name.{Name}
use Rattle.ds_model.specs.declared.lock.Name.TheVariants as name
use Rattle.ds_model.specs.Rows.{Spot, spot_cmp}

pub record NameSet : Type 0 where
  pub spaces : List Bool  -- by table, whether the table space is among them
  pub rows : List Spot  -- in the order of tables and then of keys

abbrev pub no_names : NameSet
no_names = record { spaces = replicate 65 false; rows = [] }

abbrev pub has_name : NameSet → Name → Bool
has_name k (name.Space t) = slice_index_or k.spaces t false
has_name k (name.Row t key) = list_any (is_at (spot_cmp (t, key))) k.rows
has_name k (name.Page p) = false
has_name k (name.Set n) = false

-- pages and page sets are never among them
abbrev pub with_name : NameSet → Name → NameSet
with_name k (name.Space t) = record k { spaces = slice_set k.spaces t true }
with_name k (name.Row t key) = record k { rows = insert_key spot_cmp k.rows (t, key) }
with_name k (name.Page p) = k
with_name k (name.Set n) = k

abbrev pub without_name : NameSet → Name → NameSet
without_name k (name.Space t) = record k { spaces = slice_set k.spaces t false }
without_name k (name.Row t key) = record k { rows = remove_key (is_at (spot_cmp (t, key))) k.rows }
without_name k (name.Page p) = k
without_name k (name.Set n) = k

-- the row and its table space
abbrev pub with_spot : NameSet → Spot → NameSet
with_spot k s = with_name (with_name k (name.Space s.0)) (name.Row s.0 s.1)

abbrev pub with_spots : NameSet → List Spot → NameSet
with_spots k [] = k
with_spots k (s ∷ ss) = with_spots (with_spot k s) ss
