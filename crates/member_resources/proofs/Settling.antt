-- What is settled over marks and pages at once, and tests that fail.
use Rattle.std.proofs.Common.{◌≡◌, ℕ, List, Result, Err, ap}
use Rattle.member_intents.specs.declared.outcome.Sent.{Sent}
use Rattle.member_intents.specs.declared.test.Test.{Test}
use Rattle.member_marks.specs.State.{MarksState}
use Rattle.member_effects.specs.Given.{Plan}
use Rattle.member_effects.specs.Kept.{Kept}
use Rattle.member_resources.specs.Held.{Held}
use Rattle.member_resources.specs.Prepared.{needed}
use Rattle.member_resources.specs.Settled.{with_kept}

pub kept_back : (h : Held) (m : MarksState) (p : List (List ℕ)) (k : Kept) → record { marks = m; pages = p } ≡ k → record h { marks = m; pages = p } ≡ with_kept h k
kept_back h m p k e = ap (with_kept h) e

pub needed_err : (need : Result Sent Test) (plan : Result Plan Test) (test : Test) → need ≡ Err test → needed need plan ≡ Err test
needed_err need plan test e = ap (λ r. needed r plan) e
