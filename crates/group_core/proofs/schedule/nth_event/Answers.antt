use Rattle.std.proofs.Common.{◌≡◌, ◌+◌, ◌*◌, ◌<◌, ◌≤◌, ℕ, length, slice_get, slice_index_or, option_map, ap, ◌∙◌, arith}
use Rattle.group_crew.specs.Happening.{MemberPart}
use Rattle.choice_bits.specs.Choices.{choices_of}
use Rattle.group_core.proofs.Listed.{finds_here, finds_later, finds_none}
use Rattle.group_core.proofs.schedule.nth_event.Goals as goal

pub returns-then-left-count : goal.returns-then-left-count
returns-then-left-count g c =
    let within : c.loop-at.at < length c.args.parts.now = omega arith in
    let item : MemberPart g.row.P.Denot = slice_index_or c.args.parts.now c.loop-at.at c.index-parts-at.result in
    let count : c.count_choices-count.result ≡ length (choices_of item.ready) = c.count_choices-count.ensures.number ∙ ap (λ (part : MemberPart g.row.P.Denot). length (choices_of part.ready)) c.index-parts-at.is in
    let few : c.loop-at.left < length (choices_of item.ready) = omega (arith, count) in
    finds_here c.args.parts.now c.loop-at.at c.loop-at.left c.index-parts-at.result c.event_of.result within few
    (c.event_of.ensures
    ∙ ap (option_map (λ (choice : ℕ). choice * 64 + (c.loop-at.at + 1)))
    (c.nth_choice.ensures.nth ∙ ap (λ (part : MemberPart g.row.P.Denot). slice_get (choices_of part.ready) c.loop-at.left) c.index-parts-at.is))
    ∙ c.loop-at.invariant

pub loop-at-preserved : goal.loop-at-preserved
loop-at-preserved g c =
    let within : c.loop-at.at < length c.args.parts.now = omega arith in
    let item : MemberPart g.row.P.Denot = slice_index_or c.args.parts.now c.loop-at.at c.index-parts-at.result in
    let count : c.count_choices-count.result ≡ length (choices_of item.ready) = c.count_choices-count.ensures.number ∙ ap (λ (part : MemberPart g.row.P.Denot). length (choices_of part.ready)) c.index-parts-at.is in
    let many : c.count_choices-count.result ≤ c.loop-at.left = omega arith in
    finds_later c.args.parts.now c.loop-at.at c.loop-at.left c.count_choices-count.result c.index-parts-at.result within count many ∙ c.loop-at.invariant

pub returns : goal.returns
returns g c = finds_none c.args.parts.now c.loop-at.at c.loop-at.left (omega arith) ∙ c.loop-at.invariant
