-- Pages as numbers: each page has one, and each number is a page's.
use Rattle.std.specs.Prelude.{◌≡◌, ℕ, zero, suc, ◌+◌}
use Rattle.ds_base.specs.declared.names.PageId.{PageId}

-- pages stand in rows by the sum of page set and number, from (s, 0) to (0, s)
abbrev pub row_start : ℕ → ℕ
row_start zero = zero
row_start (suc s) = row_start s + suc s

abbrev pub number_of : ℕ → ℕ → ℕ
number_of set number = row_start (set + number) + number

unfoldable pub page_number : PageId → ℕ
page_number id = number_of id.set id.number

abbrev pub next_page : ℕ → ℕ → PageId
next_page zero number = record { set = suc number; number = zero }
next_page (suc set) number = record { set = set; number = suc number }

abbrev pub counted_page : ℕ → PageId
counted_page zero = record { set = zero; number = zero }
counted_page (suc n) = next_page (counted_page n).set (counted_page n).number

unfoldable pub page_at : ℕ → PageId
page_at n = counted_page n

-- the page set of the page with this number
abbrev pub set_of : ℕ → ℕ
set_of n = (page_at n).set

pub record AreNumbered : Type 0 where
  pub named : (id : PageId) → page_at (page_number id) ≡ id
  pub numbered : (n : ℕ) → page_number (page_at n) ≡ n
