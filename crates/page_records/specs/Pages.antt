-- Pages in the order of their names.
use Rattle.std.specs.Prelude.{ℕ}
use Rattle.std.proofs.Common.{refl}
use Rattle.std.specs.Ordering.{nat_cmp, on, then_cmp}
use Rattle.std.specs.declared.cmp.Ordering.{Ordering}
use Rattle.std.specs.Cmp.{IsTotalOrder, nat_cmp_total, on_total, then_total}
use Rattle.std.specs.Coded.{Coded, code_by, coded×, coded_ℕ}
use Rattle.ds_base.specs.declared.names.PageId.{PageId}

-- by page set, and then by number
abbrev pub page_cmp : PageId → PageId → Ordering
page_cmp = then_cmp (on (λ (p : PageId). p.set) nat_cmp) (on (λ (p : PageId). p.number) nat_cmp)

pub page_cmp_total : IsTotalOrder page_cmp
page_cmp_total = then_total (on_total (λ (p : PageId). p.set) nat_cmp_total) (on_total (λ (p : PageId). p.number) nat_cmp_total)

-- as a pair of numbers
abbrev pub coded_page : Coded PageId
coded_page = code_by (ℕ × ℕ) (coded× coded_ℕ coded_ℕ) (λ p. (p.set, p.number)) (λ q. record { set = q.0; number = q.1 }) (λ _. refl)
