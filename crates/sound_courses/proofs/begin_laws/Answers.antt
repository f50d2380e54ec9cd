use Rattle.sound_courses.proofs.Planned.{PlanLaws, plan_fits, reads_begin}
use Rattle.sound_courses.proofs.begin_laws.Goals as goal

pub returns : goal.returns
returns c =
    let l : PlanLaws = record { closings = c.plan_laws.ensures.closings; queue = c.plan_laws.ensures.queue; numbers = c.plan_laws.ensures.numbers } in
    record { fits = plan_fits l; begins = reads_begin l c.damage_laws.ensures.tails c.redo_laws.ensures.suits c.bring_laws.ensures.begins }
