use Rattle.std.specs.Prelude.{ℕ, ◌==◌}
use Rattle.std.proofs.Common.{ap}
use Rattle.page_format.specs.Fields.{lrsn_at, version_at, width_in}
use Rattle.page_images.specs.Images.{zeros}
use Rattle.sound_restarts.proofs.Bringing.{DiskLaws}
use Rattle.sound_restarts.proofs.Counted.{old_is_counted}
use Rattle.sound_restarts.proofs.Renewing.{renewal_begins, renewal_reads, renewal_writes}
use Rattle.sound_restarts.proofs.renewal_laws.Goals as goal

pub returns : goal.returns
returns c =
    let k : DiskLaws = record {
      bringing = record {
        versions = record {
          grows = c.chain_laws.ensures.grows;
          others = c.chain_laws.ensures.others;
          number = c.redo_laws.ensures.number;
          zero = c.header_laws.ensures.zeros.3 lrsn_at (width_in zeros);
          whole = c.front_laws.ensures.all_whole;
          zeros_whole = c.header_laws.ensures.zeros.1;
          zeros_new = ap (λ (n : ℕ). n == 1) (c.header_laws.ensures.zeros.2 version_at);
        };
        renewal = record { header = c.renewal_laws.ensures.header; kept = c.renewal_laws.ensures.kept; stamp = λ page lrsn. c.part_laws.ensures.stamp lrsn page };
        last = c.forward_laws.ensures.last;
      };
      merged = c.page_laws.ensures.merged;
      own = c.forward_laws.ensures.own;
      empty = c.header_laws.ensures.empty;
      zero_bytes = c.header_laws.ensures.zeros.2;
    } in
    record {
      counted = old_is_counted k;
      begins = renewal_begins k;
      reads = renewal_reads k c.part_laws.ensures.number;
      writes = renewal_writes k;
    }
