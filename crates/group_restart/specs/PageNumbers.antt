-- The number of a page that is brought forward.
use Rattle.std.specs.Prelude.{ℕ, nat_lt, if◌then◌else◌, List}
use Rattle.ds_base.specs.declared.names.PageId.{PageId}
use Rattle.ds_base.specs.declared.names.Volume.TheVariants as volume
use Rattle.page_format.specs.Fields.{lrsn_of, lrsn_at}
use Rattle.restart_plan.specs.declared.greatest.Greatest.{Greatest}

-- it may be above the greatest so far
unfoldable pub with_page_number : Greatest → PageId → List ℕ → Greatest
with_page_number g id page = if nat_lt g.lrsn (lrsn_of page) then record { lrsn = lrsn_of page; volume = volume.Page id; at = lrsn_at } else g
