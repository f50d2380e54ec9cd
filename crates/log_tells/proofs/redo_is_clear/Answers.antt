use Rattle.std.specs.Prelude.{◌≡◌}
use Rattle.page_format.specs.Fields.{lrsn_of, width_in}
use Rattle.page_images.specs.Images.{zeros}
use Rattle.log_tells.proofs.redo_is_clear.Goals as goal
use Rattle.log_tells.proofs.Clearing.{group_restart_is_clear, rebuild_is_clear, restart_is_clear, stays_clear}

pub returns : goal.returns
returns c =
    let none : lrsn_of zeros ≡ 0 = c.header_laws.ensures.zeros.3 16 (width_in zeros) in
    record {
      stays = stays_clear;
      rebuild = rebuild_is_clear c.forward_laws.ensures.own c.redo_laws.ensures.number none c.rebuilds_follow.ensures.merged;
      restart = restart_is_clear c.forward_laws.ensures.own c.redo_laws.ensures.number none;
      group_restart = group_restart_is_clear c.forward_laws.ensures.own c.redo_laws.ensures.number none c.rebuilds_follow.ensures.merged;
    }
