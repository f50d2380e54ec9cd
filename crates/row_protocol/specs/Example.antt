-- A run, to see that the moves lead somewhere: a member fails with an open change on disk, its restart undoes it, and
-- another transaction reads and changes the row and commits; then its member fails too, and nothing is lost.
use Rattle.std.specs.Prelude.{◌≡◌, List, [], ◌∷◌, Some, None}
use Rattle.row_protocol.specs.Rows.{Read, Wrote}
use Rattle.row_protocol.specs.Machine.{World, X, row_now, rows_of_logs, begun, changed, got, decided, forced, committed, undone, ended, failed, start}
use Rattle.row_protocol.specs.Moves.{Move, Begin, Get, Put, Decide, Force, Commit, Undo, End, Claims, Fail, Run}
use Rattle.row_protocol.specs.Needed.{at_home, empty_rows, only_claim}

abbrev pub open_change : World
open_change = forced (changed empty_rows (record (begun start 1) { claim = only_claim 1 X }) 1 7 (Some 5)) 1 1

abbrev pub rolled_back : World
rolled_back = ended (forced (undone (failed at_home open_change 1) 1 7) 1 2) 1

abbrev pub changed_again : World
changed_again = changed empty_rows (got empty_rows (record (begun rolled_back 2) { claim = only_claim 2 X }) 2 7) 2 7 (Some 6)

abbrev pub closed : World
closed = failed at_home (committed at_home (decided changed_again 2) 2 4) 2

abbrev pub first_moves : List Move
first_moves = Begin 1 ∷ Claims (only_claim 1 X) ∷ Put 1 7 (Some 5) ∷ Force 1 1 ∷ []

abbrev pub restart_moves : List Move
restart_moves = Fail 1 ∷ Undo 1 7 ∷ Force 1 2 ∷ End 1 ∷ []

abbrev pub last_moves : List Move
last_moves = Begin 2 ∷ Claims (only_claim 2 X) ∷ Get 2 7 ∷ Put 2 7 (Some 6) ∷ Decide 2 ∷ Commit 2 4 ∷ Fail 2 ∷ []

pub record RunsThrough : Type 0 where
  pub changes : Run at_home empty_rows start first_moves open_change
  pub changed : row_now empty_rows open_change 7 ≡ Some 5
  pub restarts : Run at_home empty_rows open_change restart_moves rolled_back
  pub restarted : row_now empty_rows rolled_back 7 ≡ None
  pub commits : Run at_home empty_rows rolled_back last_moves closed
  pub history : closed.history ≡ record { tran = 2; ops = Wrote 7 (Some 6) ∷ Read 7 None ∷ [] } ∷ []
  pub logs : rows_of_logs at_home empty_rows closed 7 ≡ Some 6
