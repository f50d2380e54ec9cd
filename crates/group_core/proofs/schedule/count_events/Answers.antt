use Rattle.std.proofs.Common.{◌≡◌, ◌<◌, length, slice_index_or, ap, ◌∙◌, arith}
use Rattle.group_crew.specs.Happening.{MemberPart}
use Rattle.choice_bits.specs.Choices.{choices_of}
use Rattle.group_core.specs.Events.{events_from}
use Rattle.group_core.proofs.Listed.{counts_all, counts_more, left_ready}
use Rattle.group_core.proofs.schedule.count_events.Goals as goal

pub loop-part-preserved : goal.loop-part-preserved
loop-part-preserved g c =
    let within : c.loop-part.part-index < length c.args.parts.now = omega arith in
    let item : MemberPart g.row.P.Denot = slice_index_or c.args.parts.now c.loop-part.part-index c.part-item.result in
    let chosen : c.count_choices-count.result ≡ length (choices_of item.ready) = c.count_choices-count.ensures.number ∙ ap (λ (part : MemberPart g.row.P.Denot). length (choices_of part.ready)) c.part-item.is in (
      counts_more c.args.parts.now c.loop-part.part-index c.loop-part.count c.count_choices-count.result (length (events_from 1 (left_ready c.args.parts.now))) c.part-item.result within chosen c.loop-part.invariant.0,
      omega (arith, c.count_choices-count.ensures.few, c.loop-part.invariant.1),
    )

pub returns-clause-number : goal.returns-clause-number
returns-clause-number g c = counts_all c.args.parts.now c.loop-part.part-index c.loop-part.count (length (events_from 1 (left_ready c.args.parts.now))) (omega arith) c.loop-part.invariant.0
