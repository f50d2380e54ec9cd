use Rattle.std.proofs.Common.{◌≡◌, ◌+◌, [], ◌∷◌, ◌++◌, take, sym, ap, ◌∙◌, arith}
use Rattle.std.proofs.lemmas.List.{take_more}
use Rattle.kept_checkpoints.specs.declared.needs.Need.{Need}
use Rattle.kept_pages.proofs.Told.{met_on, same_on, seen_next}
use Rattle.disk_walk.proofs.Reading.{same_self}
use Rattle.kept_pages.proofs.Telling.{judges_none, judges_on, judges_all, seen_none}
use Rattle.kept_pages.proofs.unmet.judge_more.Goals as goal

pub loop-need-init : goal.loop-need-init
loop-need-init g c = (judges_none (g.D.Disk.contents c.args.disk.now) c.args.first, same_self (g.D.Disk.contents c.args.disk.now), omega arith, seen_none (g.D.Disk.contents c.args.disk.now) c.args.page.now)

pub loop-need-preserved : goal.loop-need-preserved
loop-need-preserved g c =
    let needs = c.args.needs.now in
    let at = c.loop-need.need-index in
    let need = c.need-item.result in
    let read = c.in_ok-met.ensures in
    let held = c.loop-need.invariant in
    let start = g.D.Disk.contents c.args.disk.now in
    let more : take (at + 1) needs ≡ take at needs ++ need ∷ [] = take_more needs at need (omega arith) ∙ ap (λ (n : Need). take at needs ++ n ∷ []) (sym c.need-item.is) in
    let told = met_on start (g.D.Disk.contents c.loop-need.disk) c.loop-need.seen need _ _ c.in_ok-met.met held.1 held.3 read.ok in (
      judges_on start c.args.first (take at needs) (take (at + 1) needs) need c.loop-need.found c.judged_with-found.result c.in_ok-met.met _ more c.judged_with-found.ensures held.0 told,
      same_on _ _ _ held.1 read.same,
      omega (arith, held.2, read.later),
      seen_next start need _ c.in_ok-met.met told,
    )

pub returns : goal.returns
returns g c =
    let held = c.loop-need.invariant in
    record {
      ok = judges_all (g.D.Disk.contents c.args.disk.now) c.args.first c.loop-need.found c.args.needs.now c.loop-need.need-index (omega arith) held.0;
      failed = λ e. absurd cc;
      same = held.1;
      later = held.2;
    }
