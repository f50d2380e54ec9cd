use Rattle.std.proofs.Common.{◌≡◌, true, false, sym, subst, Some, List, ℕ, ◌≤◌, length}
use Rattle.std.specs.List.Sorted.{IsPartitionPoint}
use Rattle.member_pool.specs.Listed.{entry_in, with_entry, precedes, IsListed}
use Rattle.member_pool.proofs.Listing.{listed_in}
use Rattle.member_pool.proofs.listed.list.Goals as goal

pub returns-clause-listed : goal.returns-clause-listed
returns-clause-listed c =
    let xs = c.args.listed.now.items in
    let e = entry_in c.args.frames.now in
    let i = c.count_before-at.result in
    let point : IsPartitionPoint (λ g. precedes (e g) c.args.key ≡ true) (λ g. precedes (e g) c.args.key ≡ false) xs i =
    subst (λ (ys : List ℕ). IsPartitionPoint (λ g. precedes (e g) c.args.key ≡ true) (λ g. precedes (e g) c.args.key ≡ false) ys i) c.as_slice.ensures.value c.count_before-at.ensures.point in
    let le : i ≤ length xs = subst (λ (ys : List ℕ). i ≤ length ys) c.as_slice.ensures.value c.count_before-at.ensures.bound in
    subst (IsListed (with_entry e c.args.frame (Some c.args.key))) (sym c.in-Ok.ensures.items)
    (listed_in e xs c.requires.listed c.args.frame c.orders_pages.ensures.strict c.orders_pages.ensures.total c.args.key c.requires.unlisted c.requires.apart i le point)
