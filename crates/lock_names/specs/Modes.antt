-- The tables of the lock modes.
use Rattle.std.specs.Prelude.{Bool, true, false}
use Rattle.lock_names.specs.declared.mode.Mode.{Mode}
use Rattle.lock_names.specs.declared.mode.Mode.TheVariants.{IS, IX, S, U, SIX, X}
use Rattle.lock_names.specs.declared.mode.Class.{Class}
use Rattle.lock_names.specs.declared.mode.Class.TheVariants.{Share, Exclusive}

-- whether one owner may be given the second mode of a name while another holds the first
unfoldable pub are_compatible : Mode → Mode → Bool
are_compatible IS IS = true
are_compatible IS IX = true
are_compatible IS S = true
are_compatible IS U = true
are_compatible IS SIX = true
are_compatible IS X = false
are_compatible IX IS = true
are_compatible IX IX = true
are_compatible IX S = false
are_compatible IX U = false
are_compatible IX SIX = false
are_compatible IX X = false
are_compatible S IS = true
are_compatible S IX = false
are_compatible S S = true
are_compatible S U = true
are_compatible S SIX = false
are_compatible S X = false
are_compatible U IS = true
are_compatible U IX = false
are_compatible U S = true
are_compatible U U = false
are_compatible U SIX = false
are_compatible U X = false
are_compatible SIX IS = true
are_compatible SIX IX = false
are_compatible SIX S = false
are_compatible SIX U = false
are_compatible SIX SIX = false
are_compatible SIX X = false
are_compatible X IS = false
are_compatible X IX = false
are_compatible X S = false
are_compatible X U = false
are_compatible X SIX = false
are_compatible X X = false

-- the least mode that covers both
unfoldable pub join_of : Mode → Mode → Mode
join_of IS asked = asked
join_of IX IS = IX
join_of IX IX = IX
join_of IX S = SIX
join_of IX U = SIX
join_of IX SIX = SIX
join_of IX X = X
join_of S IS = S
join_of S IX = SIX
join_of S S = S
join_of S U = U
join_of S SIX = SIX
join_of S X = X
join_of U IS = U
join_of U IX = SIX
join_of U S = U
join_of U U = U
join_of U SIX = SIX
join_of U X = X
join_of SIX IS = SIX
join_of SIX IX = SIX
join_of SIX S = SIX
join_of SIX U = SIX
join_of SIX SIX = SIX
join_of SIX X = X
join_of X asked = X

-- the interest of a member in an entry that a mode stands for
unfoldable pub class_of : Mode → Class
class_of IS = Share
class_of IX = Exclusive
class_of S = Share
class_of U = Exclusive
class_of SIX = Exclusive
class_of X = Exclusive

-- whether a lock in this mode is recorded, so that it outlives a failure of its member
unfoldable pub is_recorded : Mode → Bool
is_recorded IS = false
is_recorded IX = true
is_recorded S = false
is_recorded U = false
is_recorded SIX = true
is_recorded X = true

unfoldable pub is_same : Mode → Mode → Bool
is_same IS IS = true
is_same IX IX = true
is_same S S = true
is_same U U = true
is_same SIX SIX = true
is_same X X = true
is_same a b = false

-- whether who holds the first mode needs nothing more for the second
abbrev pub is_covering : Mode → Mode → Bool
is_covering held asked = is_same (join_of held asked) held
