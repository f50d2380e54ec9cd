-- The pages that a disk has, by their names.
use Rattle.std.specs.Prelude.{ℕ, ◌<◌, List, [], ◌∷◌, unwrap_or, replicate, slice_index}
use Rattle.std.proofs.Common.{refl}
use Rattle.std.specs.Ordering.{nat_cmp, on, then_cmp}
use Rattle.std.specs.declared.cmp.Ordering.{Ordering}
use Rattle.std.specs.Cmp.{IsTotalOrder, nat_cmp_total, on_total, then_total}
use Rattle.std.specs.FinMap as map
use Rattle.std.specs.Coded.{Coded, code_by, coded×, coded_ℕ}
use Rattle.ds_base.specs.declared.names.PageId.{PageId}

-- by page set, and then by number
abbrev pub page_cmp : PageId → PageId → Ordering
page_cmp = then_cmp (on (λ (p : PageId). p.set) nat_cmp) (on (λ (p : PageId). p.number) nat_cmp)

pub page_cmp_total : IsTotalOrder page_cmp
page_cmp_total = then_total (on_total (λ (p : PageId). p.set) nat_cmp_total) (on_total (λ (p : PageId). p.number) nat_cmp_total)

-- the pages that were written
abbrev pub Pages : Type 0
Pages = map.FinMap page_cmp (List ℕ)

-- a page that was never written reads as zeros
abbrev pub page_at : Pages → PageId → List ℕ
page_at pages id = unwrap_or (map.get pages id) (replicate 4096 0)

-- each is a byte
abbrev pub AreBytes : List ℕ → Type 0
AreBytes bytes = (i : ℕ) → slice_index bytes i < 256

-- each page is of bytes, as one that was never written is
abbrev pub PagesAreBytes : Pages → Type 0
PagesAreBytes pages = (id : PageId) → AreBytes (page_at pages id)

-- these pages are written in turn, so that the last with a name stands
abbrev pub put_pages : Pages → List (PageId × List ℕ) → Pages
put_pages pages [] = pages
put_pages pages (e ∷ es) = put_pages (map.insert pages e.0 e.1) es

-- as a pair of numbers
abbrev pub coded_page : Coded PageId
coded_page = code_by (ℕ × ℕ) (coded× coded_ℕ coded_ℕ) (λ p. (p.set, p.number)) (λ q. record { set = q.0; number = q.1 }) (λ _. refl)
