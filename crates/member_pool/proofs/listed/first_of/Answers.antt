use Rattle.std.proofs.Common.{sym, ◌∙◌, get_or, refl}
use Rattle.member_pool.specs.Listed.{entry_in}
use Rattle.member_pool.proofs.Listing.{changed_at}
use Rattle.member_pool.proofs.Firsts.{first_here, none_here, none_past}
use Rattle.member_pool.proofs.listed.first_of.Goals as goal

pub returns-then-listed-at : goal.returns-then-listed-at
returns-then-listed-at c = sym (none_past c.args.frames.now c.args.listed.now c.requires c.args.table c.count_below-at.result c.count_below-at.ensures.point c.if-listed-at.true)

pub returns-then-table_at-table : goal.returns-then-table_at-table
returns-then-table_at-table c =
    let xs = c.args.listed.now in
    let i = c.count_below-at.result in
    sym (first_here c.args.frames.now xs c.requires c.args.table i c.count_below-at.ensures.point c.orders_pages.ensures.strict (get_or xs i 0) c.if-listed-at.false refl
    (changed_at (entry_in c.args.frames.now) xs c.requires 0 i 0 c.if-listed-at.false) (sym c.table_at.ensures ∙ c.if-table_at-table.true))

pub returns-else-table_at-table : goal.returns-else-table_at-table
returns-else-table_at-table c =
    sym (none_here c.args.frames.now c.args.listed.now c.requires c.args.table c.count_below-at.result c.count_below-at.ensures.point c.if-listed-at.false (λ e. c.if-table_at-table.false (c.table_at.ensures ∙ e)))
