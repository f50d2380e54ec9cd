use Rattle.page_chain.specs.Chains.{row_patch}
use Rattle.redone_pages.proofs.Kept.{after_one, left_out}
use Rattle.redone_pages.proofs.apply.apply_change.Goals as goal

pub returns-then-not-has_page : goal.returns-then-not-has_page
returns-then-not-has_page c =
    left_out c.args.range.now c.args.pages.now.entries (row_patch c.args.change.now) c.page_changed-id.result c.args.lrsn c.has_page.result c.page_changed-id.ensures c.has_page.ensures.fact (cc)

pub returns : goal.returns
returns c =
    after_one c.args.range.now c.args.pages.now.entries c.take_page.new.pages.entries c.insert.new.self.entries (row_patch c.args.change.now) c.page_changed-id.result c.args.lrsn c.in_ok-page.page c.put_row.new.page
    c.page_changed-id.ensures c.in_ok-page.ensures.page (cc) c.take_page.ensures.taken c.in_ok-insert.ensures.updates.0
