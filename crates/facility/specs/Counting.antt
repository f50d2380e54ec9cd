-- The counter that numbers the log records of all members.
use Rattle.std.specs.Prelude.{ℕ, ◌≡◌, ◌+◌, ◌-◌, ◌^◌, ◌≤◌, ◌<◌, Bool, not, nat_lt, List, length, take, find, Option, Some, None, slice_index_or, if◌then◌else◌}
use Rattle.cache_structure.specs.Directory.{Directory, bit}
use Rattle.facility.specs.declared.command.Indexes.{Indexes}
use Rattle.facility.specs.declared.command.Reply.{Reply}
use Rattle.facility.specs.declared.command.Reply.TheVariants as reply
use Rattle.facility.specs.States.{Held}

-- the last number that new work draws
abbrev pub limit : ℕ
limit = 2 ^ 80 - 2 ^ 24

-- the frames of the indexes
abbrev pub given : Indexes → List ℕ
given indexes = take indexes.count indexes.at

-- the first of these frames of the member whose copy isn't valid
abbrev pub first_stale : Directory → ℕ → List ℕ → Option ℕ
first_stale d m frames = find (λ index. not (bit d m index)) frames

-- The number after the counter, unless a copy isn't valid.
abbrev pub drawn : Option ℕ → ℕ → Reply
drawn None counter = reply.Drawn (counter + 1)
drawn (Some index) counter = reply.Stale index

abbrev pub counter_after : Option ℕ → ℕ → ℕ
counter_after None counter = counter + 1
counter_after (Some index) counter = counter

-- A draw: stale copies come first, and then the limit.
abbrev pub draw_reply : Option ℕ → ℕ → Reply
draw_reply None counter = if nat_lt counter limit then reply.Drawn (counter + 1) else reply.LrsnEnd counter
draw_reply (Some index) counter = reply.Stale index

abbrev pub drawn_to : Option ℕ → ℕ → ℕ
drawn_to None counter = if nat_lt counter limit then counter + 1 else counter
drawn_to (Some index) counter = counter

abbrev pub DrawsNumber : Held → ℕ → Indexes → Reply → Held → Type 0
DrawsNumber w m indexes answer v =
    (answer ≡ draw_reply (first_stale w.directory m (given indexes)) w.counter)
    × (v ≡ record w { counter = drawn_to (first_stale w.directory m (given indexes)) w.counter })

-- the same for a compensation, for which there is no limit
abbrev pub DrawsUndo : Held → ℕ → Indexes → Reply → Held → Type 0
DrawsUndo w m indexes answer v =
    (answer ≡ drawn (first_stale w.directory m (given indexes)) w.counter)
    × (v ≡ record w { counter = counter_after (first_stale w.directory m (given indexes)) w.counter })

-- at most three indexes, each of one of the member's frames
pub record AreFrames (d : Directory) (indexes : Indexes) : Type 0 where
  pub few : indexes.count ≤ 3
  pub frames : (k : ℕ) → k < indexes.count → slice_index_or indexes.at k 0 < d.frames
