use Rattle.std.proofs.Common.{◌≡◌, ◌∙◌, ◌<◌, arith, ap, sym, subst, length}
use Rattle.std.proofs.lemmas.Bool.Decides.{nat_tests}
use Rattle.list_structure.specs.Kept.{PairsState}
use Rattle.list_structure.specs.Waits.{FitsWaits, with_wait}
use Rattle.list_structure.specs.Waiters.{waiters_beside}
use Rattle.list_structure.proofs.Waiting.{room_needed, room_there}
use Rattle.list_structure.proofs.pairs.Pairs.fits.Goals as goal

pub returns : goal.returns
returns c =
    let w = c.args.wait.now in
    let ws = c.self.inside.waits.items in
    let n : c.others_waiting.result ≡ length (waiters_beside w.waiter ws) = c.others_waiting.ensures ∙ ap (λ z. length (waiters_beside w.waiter z)) c.as_slice.ensures.value in (
      λ t. let l : length (waiters_beside w.waiter ws) < c.self.inside.agents = grind (arith, nat_tests, t, n) in
          subst (λ (s : PairsState). FitsWaits (with_wait s.waits w) w.waiter.member s.agents) c.self.view_is (room_there ws w c.self.inside.agents l),
      λ f. let l = room_needed ws w c.self.inside.agents (subst (λ (s : PairsState). FitsWaits (with_wait s.waits w) w.waiter.member s.agents) (sym c.self.view_is) f) in
          grind (arith, nat_tests, l, n),
    )
