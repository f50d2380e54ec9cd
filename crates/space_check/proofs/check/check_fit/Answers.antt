use Rattle.std.proofs.Common.{ℕ, Bool, List, sym, subst, ◌∙◌}
use Rattle.ds_disk.specs.Contents.{Contents, WhenTold}
use Rattle.ds_disk.specs.Pages.{page_at}
use Rattle.sound_disk.specs.Versions.{merged}
use Rattle.space_check.specs.declared.verdict.Verdict.{Verdict}
use Rattle.space_check.specs.Tables.{IsAllTold, TellsAll}
use Rattle.space_check.specs.Telling.{TellsAsked, TellsFit}
use Rattle.space_check.proofs.Reading.{then_read}
use Rattle.space_check.proofs.Steps.{early_of}
use Rattle.space_check.proofs.check.check_fit.Goals as goal

pub returns : goal.returns
returns g c =
    let read = c.in_ok-found.ensures in
    let s = c.args.summary.now in
    then_read _ _ _ _ _ _ (λ (d : Contents). TellsAll s.fits c.args.ends.now s.renews c.args.behind c.in_ok-found.found d) (λ (v : Verdict) (d : Contents). (behind : ℕ) → TellsAsked c.args.ends.now s.greatest behind c.in_ok-found.found v d)
    (λ (v : Verdict) (d : Contents). TellsFit c.args.ends.now s c.args.behind v d) c.check_found.result read.ok read.same read.later c.check_found.ensures
    (λ (d : Contents) (v : Verdict) all asked logs fit summed.
    asked c.args.behind logs (record {
      fit = fit;
      told = subst (λ (b : Bool). IsAllTold (page_at d.pages) (merged logs) b c.args.behind c.in_ok-found.found) summed.renews_is
          (all logs fit.ended.whole fit.ended.ends_are (c.order_laws.ensures logs d.logs s.fits fit.ended.whole fit.transactions (λ e. early_of logs (summed.early e))));
    }))
