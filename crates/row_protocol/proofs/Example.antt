-- The run of the example.
use Rattle.std.proofs.Common.{◌≡◌, ℕ, refl, arith, true, Some, None}
use Rattle.row_protocol.specs.Log.{all_undone_by}
use Rattle.row_protocol.specs.Machine.{World, X, begun, changed, got, decided, forced, committed, undone, failed, start}
use Rattle.row_protocol.specs.Moves.{IsAlone, KeepsClaims, Run}
use Rattle.row_protocol.specs.Needed.{at_home, empty_rows, only_claim}
use Rattle.row_protocol.specs.Example.{open_change, rolled_back, changed_again, closed, first_moves, restart_moves, last_moves, RunsThrough}

none_alone : IsAlone (λ t r. None)
none_alone t u r ne h = refl

alone_1 : IsAlone (only_claim 1 X)
alone_1 t u r ne h = grind arith

alone_2 : IsAlone (only_claim 2 X)
alone_2 t u r ne h = grind arith

abbrev claimed : World
claimed = record (begun start 1) { claim = only_claim 1 X }

first_run : Run at_home empty_rows start first_moves open_change
first_run = (
  begun start 1,
  (refl, refl, refl),
  none_alone,
  (
    claimed,
    (refl, ((λ t r h. cc), (λ t r h d. cc)), refl),
    alone_1,
    (
      changed empty_rows claimed 1 7 (Some 5),
      (refl, refl, refl, refl, refl),
      alone_1,
      (open_change, (omega arith, omega arith, (λ u k e c. cc), refl), alone_1, refl),
    ),
  ),
)

abbrev fallen : World
fallen = failed at_home open_change 1

abbrev undone_once : World
undone_once = undone fallen 1 7

ended_ok : (r : ℕ) → all_undone_by ((forced undone_once 1 2).changes r) 1 2 ≡ true
ended_ok r = grind arith

restart_run : Run at_home empty_rows open_change restart_moves rolled_back
restart_run = (
  fallen,
  refl,
  alone_1,
  (
    undone_once,
    (refl, refl),
    alone_1,
    (
      forced undone_once 1 2,
      (omega arith, omega arith, (λ u k e c. grind (arith, c)), refl),
      alone_1,
      (rolled_back, (refl, ended_ok, refl), alone_1, refl),
    ),
  ),
)

abbrev second : World
second = record (begun rolled_back 2) { claim = only_claim 2 X }

abbrev looked : World
looked = got empty_rows second 2 7

kept_claims : KeepsClaims at_home (begun rolled_back 2) (only_claim 2 X)
kept_claims = ((λ t r h. grind (arith, h)), (λ t r h d. grind (arith, h, d)))

last_run : Run at_home empty_rows rolled_back last_moves closed
last_run = (
  begun rolled_back 2,
  (refl, refl, refl),
  alone_1,
  (
    second,
    (refl, kept_claims, refl),
    alone_2,
    (
      looked,
      (refl, refl, refl, (λ e. cc), refl),
      alone_2,
      (
        changed_again,
        (refl, refl, refl, refl, refl),
        alone_2,
        (
          decided changed_again 2,
          (refl, refl, refl),
          alone_2,
          (
            committed at_home (decided changed_again 2) 2 4,
            (refl, omega arith, (λ u k ne h e c. grind (arith, ne, h, e, c)), refl),
            alone_2,
            (closed, refl, alone_2, refl),
          ),
        ),
      ),
    ),
  ),
)

pub runs_through : RunsThrough
runs_through = record { changes = first_run; changed = refl; restarts = restart_run; restarted = refl; commits = last_run; history = refl; logs = refl }
