use Rattle.std.proofs.Common.{◌≡◌, true, false, sym, subst, None, List, ℕ, ◌≤◌, length, arith}
use Rattle.std.specs.List.Sorted.{IsPartitionPoint}
use Rattle.member_pool.specs.Listed.{entry_in, with_entry, precedes, IsListed}
use Rattle.member_pool.proofs.Listing.{place_of, taken_out}
use Rattle.member_pool.proofs.listed.unlist.Goals as goal

pub remove-requires : goal.remove-requires
remove-requires c =
    let xs = c.args.listed.now.items in
    let e = entry_in c.args.frames.now in
    let i = c.count_before-at.result in
    let point : IsPartitionPoint (λ g. precedes (e g) c.args.key ≡ true) (λ g. precedes (e g) c.args.key ≡ false) xs i =
    subst (λ (ys : List ℕ). IsPartitionPoint (λ g. precedes (e g) c.args.key ≡ true) (λ g. precedes (e g) c.args.key ≡ false) ys i) c.as_slice.ensures.value c.count_before-at.ensures.point in
    let le : i ≤ length xs = subst (λ (ys : List ℕ). i ≤ length ys) c.as_slice.ensures.value c.count_before-at.ensures.bound in
    let p = place_of e xs c.requires.listed c.args.frame c.orders_pages.ensures.strict c.args.key c.requires.entered i le point in
    omega (arith, p.0, c.args.listed.now.ok.0)

pub returns-clause-listed : goal.returns-clause-listed
returns-clause-listed c =
    let xs = c.args.listed.now.items in
    let e = entry_in c.args.frames.now in
    let i = c.count_before-at.result in
    let point : IsPartitionPoint (λ g. precedes (e g) c.args.key ≡ true) (λ g. precedes (e g) c.args.key ≡ false) xs i =
    subst (λ (ys : List ℕ). IsPartitionPoint (λ g. precedes (e g) c.args.key ≡ true) (λ g. precedes (e g) c.args.key ≡ false) ys i) c.as_slice.ensures.value c.count_before-at.ensures.point in
    let le : i ≤ length xs = subst (λ (ys : List ℕ). i ≤ length ys) c.as_slice.ensures.value c.count_before-at.ensures.bound in
    let p = place_of e xs c.requires.listed c.args.frame c.orders_pages.ensures.strict c.args.key c.requires.entered i le point in
    subst (IsListed (with_entry e c.args.frame None)) (sym c.remove.ensures.items)
    (taken_out e xs c.requires.listed c.args.frame c.orders_pages.ensures.strict i p.0 p.1)
