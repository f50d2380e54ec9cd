use Rattle.std.proofs.Common.{◌<◌, ◌++◌, List, [], ◌∷◌, length, ap, ◌∙◌, arith}
use Rattle.run_picture.specs.Seen.{Seen, bars_seen}
use Rattle.run_picture.proofs.Zips.{joined_more, listed_more}
use Rattle.run_picture.proofs.bars.bars_of.Goals as goal

pub loop-at-preserved : goal.loop-at-preserved
loop-at-preserved c =
    let low : c.loop-at.at < length c.args.entries.now = omega arith in
    record {
      names = λ whole. c.in_ok-put_bar.ensures.names whole ∙ ap (λ l. l ++ c.index-entries-at.result.name ∷ []) (c.loop-at.invariant.names whole) ∙ listed_more (λ e. e.name) c.args.entries.now c.loop-at.at c.index-entries-at.result low c.index-entries-at.is;
      seen = c.in_ok-put_bar.ensures.seen
          ∙ ap (λ (l : List Seen). l ++ bars_seen c.args.scale.now (c.index-entries-at.result, c.reach_at.result)) c.loop-at.invariant.seen
          ∙ joined_more (bars_seen c.args.scale.now) c.args.entries.now c.args.reaches.now c.loop-at.at c.index-entries-at.result c.reach_at.result low c.requires c.index-entries-at.is c.reach_at.ensures;
    }
