use Rattle.std.proofs.Common.{◌≡◌, List, length, sym, subst, arith}
use Rattle.lock_sights.specs.declared.sight.Sight.{Sight}
use Rattle.run_replay.specs.Beginning.{AreDated}
use Rattle.run_replay.proofs.Following.{kept_whole}
use Rattle.run_replay.proofs.top.dated_sights.Goals as goal

pub returns-clause-ok : goal.returns-clause-ok
returns-clause-ok c =
    let sights = c.in_ok-sights.sights.items in
    let found = c.date_all.new.sights in
    let lent : c.deref_mut.result.now ≡ c.in_ok-sights.sights.items = c.deref_mut.ensures.value in
    let same : length c.date_all.new.sights ≡ length c.in_ok-sights.sights.items = omega (arith, c.date_all.auto.sights, lent) in
    let whole : c.in_ok-sights.sights.len ≡ length c.in_ok-sights.sights.items = omega (arith, c.in_ok-sights.sights.ok.0) in
    record {
      sights = sights;
      seen = c.in_ok-sights.ensures.ok;
      dated = subst (λ (left : List Sight). AreDated c.args.script.now c.args.events.now sights left) (sym (kept_whole found sights c.in_ok-sights.sights.len same whole))
          (subst (λ (from : List Sight). AreDated c.args.script.now c.args.events.now from found) lent c.in_ok-date_all.ensures.ok);
    }
