-- The group over any sound disk, before group restart has brought its pages forward.
use Rattle.std.specs.Prelude.{◌≡◌, ℕ, ◌<◌, ◌≤◌, true}
use Rattle.page_protocol.specs.Page.{Failed}
use Rattle.page_protocol.specs.Moves.{World, blank}
use Rattle.page_protocol.specs.Always.{Good}

-- the pages and logs that a disk has, and the greatest number in them
pub record Disk : Type 0 where
  pub lengths : ℕ → ℕ  -- by member: the records of its log
  pub counter : ℕ
  pub last : ℕ → ℕ  -- by page: the changes of its chain
  pub author : ℕ → ℕ → ℕ  -- by page and change
  pub place : ℕ → ℕ → ℕ
  pub lrsn : ℕ → ℕ → ℕ
  pub version : ℕ → ℕ  -- by page

pub record IsSound (d : Disk) : Type 0 where
  -- each page is a version of its chain, which stands in the logs
  pub versions : (n : ℕ) → d.version n ≤ d.last n
  pub logs : (n i : ℕ) → i < d.last n → d.place n i < d.lengths (d.author n i)
  pub order : (n i j : ℕ) → i < j → j < d.last n → d.author n i ≡ d.author n j → d.place n i < d.place n j
  -- the numbers rise along each chain
  pub rise : (n i j : ℕ) → i < j → j < d.last n → d.lrsn n i < d.lrsn n j
  pub drawn : (n i : ℕ) → i < d.last n → d.lrsn n i ≤ d.counter
  pub positive : (n i : ℕ) → i < d.last n → 0 < d.lrsn n i

abbrev pub opening : Disk → World
opening d = record {
  down = true;
  group = record { stable = d.lengths; written = d.lengths; read = d.lengths; status = λ m. Failed; counter = d.counter; lost = true };
  pages = λ n. record blank { last = d.last n; author = d.author n; place = d.place n; lrsn = d.lrsn n; disk = d.version n; shared = d.version n };
}

abbrev pub OpensGood : Type 0
OpensGood = (d : Disk) → IsSound d → Good (opening d)
