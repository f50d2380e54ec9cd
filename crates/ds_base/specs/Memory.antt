-- A source and a sink in memory, as their callers see them.
use Rattle.std.specs.Prelude.{ℕ, ◌+◌, ◌-◌, ◌^◌, min, List, ◌++◌, take, drop, Result, Ok, Err}

-- the next number of a count that ends with its type
abbrev pub one_more : ℕ → ℕ
one_more n = min (n + 1) (2 ^ 64 - 1)

-- the bytes that are left, the most that a call gives, the numbers of the calls that fail, the calls and the faults so far
pub record SourceState : Type 0 where
  pub left : List ℕ
  pub piece : ℕ
  pub fails : List ℕ
  pub calls : ℕ
  pub faults : ℕ

-- the source after a call
abbrev pub source_after : {E : Type 0} → SourceState → Result ℕ E → SourceState
source_after s (Ok n) = record s { left = drop n s.left; calls = one_more s.calls }
source_after s (Err _) = record s { calls = one_more s.calls; faults = one_more s.faults }

-- the bytes taken, the most that there is room for, the numbers of the calls that fail, the calls and the faults so far
pub record SinkState : Type 0 where
  pub taken : List ℕ
  pub room : ℕ
  pub fails : List ℕ
  pub calls : ℕ
  pub faults : ℕ

-- the sink after a call with these bytes
abbrev pub sink_after : {E : Type 0} → SinkState → List ℕ → Result ℕ E → SinkState
sink_after s piece (Ok n) = record s { taken = s.taken ++ take n piece; calls = one_more s.calls }
sink_after s piece (Err _) = record s { calls = one_more s.calls; faults = one_more s.faults }
