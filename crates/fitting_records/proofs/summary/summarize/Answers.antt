use Rattle.fitting_records.proofs.Summing.{summary_told}
use Rattle.fitting_records.proofs.summary.summarize.Goals as goal

pub returns-clause-tells : goal.returns-clause-tells
returns-clause-tells g c =
    let read = c.in_ok-sums.ensures.sums in
    record {
      ok =
          summary_told c.passing_laws.ensures.all (g.D.Disk.contents c.args.disk.now) c.args.ends.now c.in_ok-heads.heads.heads c.in_ok-sums.sums c.summary_of.result c.requires.ends c.in_ok-heads.ensures.begin c.summary_of.ensures read.ok;
      failed = λ e. absurd cc;
      same = read.same;
      later = read.later;
    }
