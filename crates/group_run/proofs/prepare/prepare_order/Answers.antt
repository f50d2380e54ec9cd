use Rattle.std.proofs.Common.{Some, refl, sym, ap, subst}
use Rattle.group_words.specs.Orders.{HasSizes, AreSizes}
use Rattle.group_run.specs.Prepares.{IsPrepared, IsAllowed}
use Rattle.group_run.specs.declared.prepare.Setting.{Setting}
use Rattle.group_run.specs.declared.prepare.Prepared.TheVariants as prepared
use Rattle.group_run.proofs.prepare.prepare_order.Goals as goal

pub prepare_to_play-requires : goal.prepare_to_play-requires
prepare_to_play-requires g c = subst (λ (s : Setting). AreSizes s.sizes) (sym c.setting_of.ensures) (subst HasSizes c.in-Play.is c.requires)

pub returns-in-Work-clause-prepared : goal.returns-in-Work-clause-prepared
returns-in-Work-clause-prepared g c =
    let n = c.in-Work.n in
    let sizes = c.in-Work.sizes in
    let left = g.S.Source.left c.args.source.now in
    let faults = g.S.Source.faults c.args.source.now in
    let sound : AreSizes sizes = subst HasSizes c.in-Work.is c.requires in
    subst (λ o. IsPrepared (Some o) (prepared.Work n c.setting_of-in-Work.result) left left faults faults) (sym c.in-Work.is) (ap (λ (s : Setting). prepared.Work n s) c.setting_of-in-Work.ensures, sound)

pub returns-in-Work-clause-allowed : goal.returns-in-Work-clause-allowed
returns-in-Work-clause-allowed g c =
    let n = c.in-Work.n in
    let sound : AreSizes c.in-Work.sizes = subst HasSizes c.in-Work.is c.requires in
    subst (λ (s : Setting). IsAllowed (prepared.Work n s)) (sym c.setting_of-in-Work.ensures) (sound, refl, refl)

pub returns-in-Play-clause-unmoved : goal.returns-in-Play-clause-unmoved
returns-in-Play-clause-unmoved g c = λ table e. cc
