use Rattle.std.proofs.Common.{◌≡◌, inl, inr, ℕ, List, Ok, IfOk, OnOk, sym, ap, subst, ◌∙◌, arith}
use Rattle.std.specs.Prelude.{Vec}
use Rattle.std.specs.declared.alloc.Global.{Global}
use Rattle.cache_structure.specs.State.{directory_of}
use Rattle.group_core.specs.declared.schedule.RunEnd.{RunEnd}
use Rattle.group_core.specs.declared.schedule.RunEnd.TheVariants as ends
use Rattle.group_core.specs.Ends.{Ends}
use Rattle.group_core.specs.Goes.{HasFailed}
use Rattle.checked_run.specs.Leading.{LeadsFrom, RunsBy}
use Rattle.checked_run.specs.Settled.{Settles}
use Rattle.checked_run.specs.Told.{TellsAlways}
use Rattle.checked_run.proofs.Going.{risen}
use Rattle.checked_run.proofs.Led.{led, answered}
use Rattle.checked_run.proofs.Sound.{once, still}
use Rattle.checked_run.proofs.run.finish.Goals as goal

abbrev items : Vec ℕ Global → List ℕ
items v = v.items

pub settle-account-requires-clause-unspent : goal.settle-account-requires-clause-unspent
settle-account-requires-clause-unspent g c spent = c.play_to_end-group.ensures.unspent spent

pub returns-clause-comes : goal.returns-clause-comes
returns-clause-comes g c =
    let tells = TellsAlways g.D.Disk.contents in
    let begun = g.D.Disk.faults c.args.group.disk in
    let now = g.D.Disk.faults c.settle-account.new.disk in
    let after = g.D.Disk.contents c.settle-account.new.disk in
    let begins = c.requires.begins in
    let last = c.play_to_end-group.result.0 in
    let closed = c.close-disk.ensures in
    let played = c.close-disk.result.1 in
    let account = c.settle-account.result.0 in
    answered c.play_to_end-group.result.1
    (LeadsFrom directory_of g.D.Disk.alive g.D.Disk.contents g.D.Disk.faults c.args.group c.args.seed account)
    (Settles tells c.args.script.now c.args.is_traced c.args.opening.now begun now after account) c.settle-account.result.1
    (λ (e : RunEnd) is.
    let ran = subst (λ r. OnOk r (RunsBy directory_of g.D.Disk.alive g.D.Disk.contents g.D.Disk.faults c.args.group c.args.seed last)) is c.play_to_end-group.ensures.runs in
    let goes = ran.from.goes in
    let rose = risen _ _ _ _ _ _ begins.faults begins.fault goes in
    record {
      end = e;
      why = played.fault;
      entries = played.entries.items;
      leads = led directory_of g.D.Disk.alive g.D.Disk.contents g.D.Disk.faults c.args.script.now c.args.group last c.args.seed e account played begins ran
          (subst (λ r. IfOk r (λ end. Ends end last)) is c.play_to_end-group.ensures.ends)
          c.settle-account.ensures.account (ap items closed.journal) (ap items closed.faults) closed.causes closed.entries closed.fault c.causes_held.ensures c.answers_given.ensures;
      settles = c.settle-account.ensures.settles begun e (omega (arith, goes.later, closed.later)) (λ why. elim why [
        | inl failed ↦ still _ _ _ (rose (inl (subst (λ (v : Vec ℕ Global). HasFailed v.items) closed.faults failed))) closed.later
        | inr other ↦ elim other [
          | inl stopped ↦ still _ _ _ (rose (inr (sym closed.fault ∙ stopped))) closed.later
          | inr failed ↦ once _ _ _ goes.later (closed.failed failed)
        ]
      ]) is;
    })
    c.settle-account.ensures.wanting

pub returns-clause-later : goal.returns-clause-later
returns-clause-later g c = omega (arith, c.play_to_end-group.ensures.later, c.close-disk.ensures.later, c.settle-account.ensures.later)
