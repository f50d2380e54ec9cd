-- Moves that cut nothing of what was drawn, and bring nothing of it to disk.
use Rattle.std.specs.Prelude.{◌≡◌, ℕ, Bool, true, false, List, [], ◌∷◌}
use Rattle.std.specs.List.{AllByRecursion}
use Rattle.page_protocol.specs.Moves.{Move, At, Draw, Force, TakeSet, YieldSet, PurgeSet, Lose, ReadLog, Rebuilt, Fail, Restart, Open, GroupFail, Forward, Compensate, Append, Rise}

-- it is no failure and no move of a group restart, and an append only where one may be
abbrev pub is_plain : Bool → Move → Bool
is_plain appends (At n e) = true
is_plain appends (Draw m touched) = true
is_plain appends (Force m k) = appends
is_plain appends (TakeSet s m) = true
is_plain appends (YieldSet s m) = true
is_plain appends (PurgeSet s m) = true
is_plain appends Lose = true
is_plain appends (ReadLog m) = true
is_plain appends Rebuilt = true
is_plain appends (Fail m cut) = false
is_plain appends (Restart m) = true
is_plain appends (Open m) = true
is_plain appends (GroupFail cut counter) = false
is_plain appends (Forward n k) = false
is_plain appends (Compensate n m) = false
is_plain appends (Append m) = false
is_plain appends Rise = false

abbrev pub ArePlain : Bool → List Move → Type 0
ArePlain appends moves = AllByRecursion (λ (e : Move). is_plain appends e ≡ true) moves

-- these are the bytes of a log buffer in which nothing waits
abbrev pub none_waits : List ℕ → Bool
none_waits [] = true
none_waits (x ∷ xs) = false
