-- The locks that operations take, and the first of them that a transaction lacks.
use Rattle.std.specs.Prelude.{ℕ, Bool, true, false, List, [], ◌∷◌, Option, Some, None, if◌then◌else◌}
use Rattle.ds_model.specs.declared.lock.Name.{Name}
use Rattle.ds_model.specs.declared.lock.Name.TheVariants as name
use Rattle.ds_model.specs.declared.script.Op.{Op}
use Rattle.ds_model.specs.declared.script.Op.TheVariants as op
use Rattle.lock_names.specs.declared.mode.Mode.{Mode}
use Rattle.lock_names.specs.declared.mode.Mode.TheVariants as mode
use Rattle.lock_names.specs.Modes.{is_covering}
use Rattle.lock_sights.specs.declared.locks.Lock.{Lock}

abbrev pub on_space : ℕ → Mode → Option Lock
on_space table m = Some (record { name = name.Space table; mode = m })

abbrev pub on_row : ℕ → ℕ → Mode → Option Lock
on_row table key m = Some (record { name = name.Row table key; mode = m })

-- the lock of its table space that an operation takes first
abbrev pub space_lock : Op → Option Lock
space_lock (op.Get table key) = on_space table mode.IS
space_lock (op.Getu table key) = on_space table mode.IX
space_lock (op.Put table key value) = on_space table mode.IX
space_lock (op.Del table key) = on_space table mode.IX
space_lock (op.Scan table low high) = on_space table mode.S
space_lock (op.Raise flag) = None
space_lock (op.Await flag) = None
space_lock op.LoseCache = None
space_lock op.Abort = None

-- the lock of its row that it takes then
abbrev pub row_lock : Op → Option Lock
row_lock (op.Get table key) = on_row table key mode.S
row_lock (op.Getu table key) = on_row table key mode.U
row_lock (op.Put table key value) = on_row table key mode.X
row_lock (op.Del table key) = on_row table key mode.X
row_lock (op.Scan table low high) = None
row_lock (op.Raise flag) = None
row_lock (op.Await flag) = None
row_lock op.LoseCache = None
row_lock op.Abort = None

-- ---- what a transaction lacks that holds names in these modes

abbrev pub is_had : Option Mode → Mode → Bool
is_had None m = false
is_had (Some held) m = is_covering held m

-- the lock, unless it is had
abbrev pub lacking : (Name → Option Mode) → Option Lock → Option Lock
lacking held None = None
lacking held (Some lock) = if is_had (held lock.name) lock.mode then None else Some lock

abbrev pub first_of : Option Lock → Option Lock → Option Lock
first_of (Some lock) other = Some lock
first_of None other = other

-- the first lock of an operation that is lacking
abbrev pub lacking_for : (Name → Option Mode) → Op → Option Lock
lacking_for held o = first_of (lacking held (space_lock o)) (lacking held (row_lock o))

-- the first lock of these operations that is lacking
abbrev pub wanted : (Name → Option Mode) → List Op → Option Lock
wanted held [] = None
wanted held (o ∷ ops) = first_of (lacking_for held o) (wanted held ops)
