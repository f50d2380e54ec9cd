use Rattle.std.proofs.Common.{◌≡◌, Option, Some, None, sym, ap, subst}
use Rattle.member_resources.specs.Held.{Held}
use Rattle.restart_marks.specs.declared.adopt.Adopted.{Adopted}
use Rattle.group_member.specs.declared.restarting.Restarting.{Restarting}
use Rattle.group_member.specs.Adopting.{AdoptsAll}
use Rattle.group_member.specs.Restarting.{HandsOverFrom, TakesFrom}
use Rattle.group_member.proofs.Restarts.{hands_over, where_ok}
use Rattle.group_member.proofs.restart_step.hand_over.Goals as goal

pub returns-in-Some-clause-hands : goal.returns-in-Some-clause-hands
returns-in-Some-clause-hands g c =
    let holds : c.take_left.new.part.resources ≡ c.args.part.now.resources = ap (λ part. part.resources) c.take_left.ensures.rest in
    let restart : c.take_left.new.part.restart ≡ c.adopt_all.new.part.restart = sym (ap (λ part. part.restart) c.adopt_all.ensures.rest) in
    let first : TakesFrom c.args.part.now.restart (Some c.in-Some.left) c.take_left.new.part.restart =
    subst (λ (l : Option Adopted). TakesFrom c.args.part.now.restart l c.take_left.new.part.restart) c.in-Some.is c.in_ok-left.ensures.takes in
    let takes : TakesFrom c.args.part.now.restart (Some c.in-Some.left) c.adopt_all.new.part.restart =
    subst (λ (r : Option Restarting). TakesFrom c.args.part.now.restart (Some c.in-Some.left) r) restart first in
    where_ok c.adopt_all.result (AdoptsAll c.take_left.new.part.resources c.in-Some.left.by c.in-Some.left.trans c.adopt_all.new.part.resources)
    (HandsOverFrom c.args.part.now.restart c.args.part.now.resources c.adopt_all.new.part.restart c.adopt_all.new.part.resources) c.adopt_all.ensures.adopts
    (λ adopts. hands_over c.args.part.now.restart (Some c.in-Some.left) c.adopt_all.new.part.restart c.args.part.now.resources c.adopt_all.new.part.resources takes
    (subst (λ (h : Held). AdoptsAll h c.in-Some.left.by c.in-Some.left.trans c.adopt_all.new.part.resources) holds adopts))

pub returns-in-None-clause-hands : goal.returns-in-None-clause-hands
returns-in-None-clause-hands g c =
    let holds : c.take_left.new.part.resources ≡ c.args.part.now.resources = ap (λ part. part.resources) c.take_left.ensures.rest in
    let takes : TakesFrom c.args.part.now.restart None c.take_left.new.part.restart =
    subst (λ (l : Option Adopted). TakesFrom c.args.part.now.restart l c.take_left.new.part.restart) c.in-None.is c.in_ok-left.ensures.takes in
    hands_over c.args.part.now.restart None c.take_left.new.part.restart c.args.part.now.resources c.take_left.new.part.resources takes holds
