use Rattle.std.proofs.Common.{rules, ◌≡◌, ◌<◌, ◌≤◌, [], ◌++◌, length, option_to_list, sym, ap, ◌∙◌, subst, arith}
use Rattle.turn_gate.specs.Seated.{first_seats, AreOf}
use Rattle.turn_gate.proofs.Seating.{length-first_seats}
use Rattle.turn_trial.specs.Recorded.{caller_of}
use Rattle.turn_trial.proofs.Seats.{written}
use Rattle.turn_trial.proofs.trial.run.Goals as goal

pub work_all-requires-clause-range : goal.work_all-requires-clause-range
work_all-requires-clause-range g c κs within =
    let parts : length c.as_slice.result.now ≡ c.args.seats = search rules in
    let made = c.as_mut_slice.ensures.value ∙ c.in-Ok.ensures.seats in
    let count : length c.as_mut_slice.result.now ≡ c.args.seats = ap length made ∙ (length-first_seats caller_of 0 _ c.in-Ok.turn.id 1 (length c.as_slice.result.now) ∙ parts) in
    let least : 1 ≤ c.args.seats = c.requires.0 in
    let most : c.args.seats < 64 = c.requires.1 in
    (omega arith, omega arith, c.requires.2)

pub work_all-requires-clause-fresh : goal.work_all-requires-clause-fresh
work_all-requires-clause-fresh g c κs within =
    let made = c.as_mut_slice.ensures.value ∙ c.in-Ok.ensures.seats in
    let r = c.new-recorder.result in
    let none : r.events.items ++ option_to_list r.lost ≡ [] = (λ i. c.new-recorder.ensures.0 i ++ option_to_list (c.new-recorder.ensures.1 i)) in
    let count : length c.as_slice.result.now ≡ length c.as_mut_slice.result.now = sym (ap length made ∙ length-first_seats caller_of 0 _ c.in-Ok.turn.id 1 (length c.as_slice.result.now)) in
    made ∙ (λ i. first_seats caller_of c.in-Ok.turn.id 0 (none i) (count i))

pub close-recorder-requires : goal.close-recorder-requires
close-recorder-requires g c =
    let done = c.work_all.ensures in
    let made = c.in-Ok.ensures.seats in
    let parts : length c.in-Ok.seats.items ≡ length c.as_slice.result.now = ap length made ∙ length-first_seats caller_of 0 _ c.in-Ok.turn.id 1 (length c.as_slice.result.now) in
    let same : length c.work_all.new.seats ≡ length c.in-Ok.seats.items = done.1 ∙ ap length c.as_mut_slice.ensures.value in
    let len : c.in-Ok.seats.len ≡ length c.in-Ok.seats.items = search rules in
    let whole = written c.in-Ok.seats.len c.work_all.new.seats c.in-Ok.seats.items same len in
    (ap length whole ∙ (same ∙ (parts ∙ sym c.in-Ok.ensures.turn.0)), subst (AreOf c.in-Ok.turn.id) (sym whole) done.0)
