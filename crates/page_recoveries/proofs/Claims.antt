-- What an event of a restart takes of the world of locks.
use Rattle.std.proofs.Common.{◌≡◌, ◌≢◌, ℕ, refl, ◌∙◌, ap, false, Option, Some, None}
use Rattle.std.specs.Prelude.{◌==◌, if◌then◌else◌}
use Rattle.std.proofs.lemmas.Bool.{cond-false, cond-true, eq-eqb, ne_eqb}
use Rattle.ds_base.specs.declared.names.PageId.{PageId}
use Rattle.lock_names.specs.declared.mode.Mode.{Mode}
use Rattle.facility.specs.declared.command.Command.TheVariants as command
use Rattle.member_marks.specs.State.{MarksState}
use Rattle.group_pages.specs.Given.{FreesSent, Member, RestartHeld, RestartSent, frees_claimed, known_of, known_with, or_else, restart_claim}
use Rattle.group_pages.specs.Given.restart_sent as sent
use Rattle.lock_world.specs.Books.{NobodyHolds}
use Rattle.lock_world.specs.Tied.{Claims}
use Rattle.lock_world.specs.Views.{claim_in}
use Rattle.group_pages.specs.Given.lock_stands as restart

-- ---- what the event has freed
pub frees_as : NobodyHolds → (s : MarksState) (x : RestartSent) → frees_claimed s x ≡ false → FreesSent (λ o c. claim_in s.locks o c) x
frees_as law s (sent.Command (command.Obtain n mode)) keeps = tt
frees_as law s (sent.Command (command.Grant slot n mode)) keeps = tt
frees_as law s (sent.Command (command.Release n interest)) keeps = tt
frees_as law s (sent.Command (command.Purge n)) keeps = law s.locks n keeps
frees_as law s (sent.Command (command.RetainedAt n)) keeps = tt
frees_as law s (sent.Command (command.Read page index)) keeps = tt
frees_as law s (sent.Command (command.Write page index)) keeps = tt
frees_as law s (sent.Command (command.Unregister index)) keeps = tt
frees_as law s (sent.Command (command.Test index)) keeps = tt
frees_as law s (sent.Command (command.CastoutRead page)) keeps = tt
frees_as law s (sent.Command (command.CastoutDone page)) keeps = tt
frees_as law s (sent.Command (command.NextChanged past)) keeps = tt
frees_as law s (sent.Command command.Lose) keeps = tt
frees_as law s (sent.Command command.Rebuilt) keeps = tt
frees_as law s (sent.Command (command.Ask slot to n mode)) keeps = tt
frees_as law s (sent.Command (command.Take past)) keeps = tt
frees_as law s (sent.Command (command.Answer asker n mode said event)) keeps = tt
frees_as law s (sent.Command (command.Answers slot)) keeps = tt
frees_as law s (sent.Command (command.Wait tran holder flag)) keeps = tt
frees_as law s (sent.Command (command.Unwait tran)) keeps = tt
frees_as law s (sent.Command command.Waits) keeps = tt
frees_as law s (sent.Command (command.End tran)) keeps = tt
frees_as law s (sent.Command (command.Raise flag)) keeps = tt
frees_as law s (sent.Command (command.Flag flag)) keeps = tt
frees_as law s (sent.Command (command.SetStatus status)) keeps = tt
frees_as law s (sent.Command (command.Status member)) keeps = tt
frees_as law s (sent.Command command.Claim) keeps = tt
frees_as law s (sent.Command command.Unclaim) keeps = tt
frees_as law s (sent.Command command.PhaseDone) keeps = tt
frees_as law s (sent.Command (command.Draw indexes)) keeps = tt
frees_as law s (sent.Command (command.DrawUndo indexes)) keeps = tt
frees_as law s sent.None keeps = tt
frees_as law s sent.LogLength keeps = tt
frees_as law s (sent.ReadLog at count) keeps = tt
frees_as law s (sent.CutLog long) keeps = tt
frees_as law s sent.AppendLog keeps = tt
frees_as law s (sent.ReadPage page) keeps = tt

-- ---- the claims of a member with a restart in hand
abbrev with_claim : RestartHeld → Option PageId → RestartHeld
with_claim q claim = record q { resources = record q.resources { marks = record q.resources.marks { claim = claim } } }

same_claim : (q : RestartHeld) (x : Option PageId) (o c : ℕ) → restart_claim (Some (with_claim q x)) o c ≡ (if o == 0 then restart.page_claim x c else None)
same_claim q None o c = refl
same_claim q (Some p) o c = refl

same_else : (x y : Option Mode) → or_else x y ≡ restart.or_else x y
same_else None y = refl
same_else (Some m) y = refl

pub known_as : (m : Member) (q : RestartHeld) → m.restart ≡ Some q → (o c : ℕ) → known_of m o c ≡ known_with (λ o c. claim_in m.holds.marks.locks o c) q.resources.marks.claim o c
known_as m q had o c =
    ap (λ (z : Option RestartHeld). or_else (claim_in m.holds.marks.locks o c) (restart_claim z o c)) had
    ∙ same_else (claim_in m.holds.marks.locks o c) (restart_claim (Some q) o c)
    ∙ ap (λ (z : Option Mode). restart.or_else (claim_in m.holds.marks.locks o c) z) (same_claim q q.resources.marks.claim o c)

-- the claims once the member's are these
abbrev pub with_own : Claims → ℕ → (ℕ → ℕ → Option Mode) → Claims
with_own held m own k o c = if k == m then own o c else held k o c

pub own_there : (held : Claims) (m : ℕ) (own : ℕ → ℕ → Option Mode) (o c : ℕ) → with_own held m own m o c ≡ own o c
own_there held m own o c = cond-true (m == m) (own o c) (held m o c) (eq-eqb m m refl)

pub own_apart : (held : Claims) (m : ℕ) (own : ℕ → ℕ → Option Mode) (k o c : ℕ) → k ≢ m → with_own held m own k o c ≡ held k o c
own_apart held m own k o c ne = cond-false (k == m) (own o c) (held k o c) (ne_eqb k m ne)
