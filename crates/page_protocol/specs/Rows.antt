-- Rows in a page: what a transaction reads in a frame that its member may use.
use Rattle.std.specs.Prelude.{◌≡◌, ◌≢◌, ◌⊎◌, ℕ, zero, suc, ◌<◌, ◌≤◌, true, false, Option, Some, None, if◌then◌else◌, ◌==◌}
use Rattle.page_protocol.specs.Page.{Page, Group, Up, put, change, write, write_direct, rebuild, fail, given_up}
use Rattle.page_protocol.specs.Moves.{IsCut}
use Rattle.page_protocol.specs.Coherent.{Coherent}
use Rattle.page_protocol.specs.Words.{IsUsable}

-- by change: the row that it sets, the value that it gives (none: no row), and the transaction that makes it
pub record Tags : Type 0 where
  pub row : ℕ → ℕ
  pub value : ℕ → Option ℕ
  pub tran : ℕ → ℕ

-- the row after so many changes
abbrev pub value_at : Tags → ℕ → ℕ → Option ℕ
value_at t zero r = None
value_at t (suc i) r = if t.row i == r then t.value i else value_at t i r

pub data Claim : Type 0 where
  Reads : Claim
  Changes : Claim

-- by transaction and row
abbrev pub Claims : Type 0
Claims = ℕ → ℕ → Option Claim

-- a row that a transaction claims for changes is claimed by no other (lock world)
abbrev pub AreSound : Claims → Type 0
AreSound claims = (t u r : ℕ) → t ≢ u → claims t r ≡ Some Changes → claims u r ≡ None

-- changes that aren't shared belong to transactions of their author's member, which still claim the rows, but where a
-- sole user alone reaches the page: it keeps what it committed in its frames
pub record AreClaimed (p : Page) (tags : Tags) (home : ℕ → ℕ) (claims : Claims) : Type 0 where
  pub claimed : (i : ℕ) → p.sole ≡ false → p.shared ≤ i → i < p.last → claims (tags.tran i) (tags.row i) ≡ Some Changes
  pub at_home : (i : ℕ) → p.shared ≤ i → i < p.last → home (tags.tran i) ≡ p.author i

-- a transaction that claims a row finds its last value in any frame that its member may use
abbrev pub ReadsLastValue : Type 0
ReadsLastValue = (g : Group) (p : Page) (tags : Tags) (home : ℕ → ℕ) (claims : Claims) (t r m : ℕ) → Coherent g p → AreClaimed p tags home claims → AreSound claims
    → home t ≡ m → g.status m ≡ Up → IsUsable g p m → claims t r ≢ None
    → value_at tags (p.frame m).version r ≡ value_at tags p.last r

abbrev pub tagged : Tags → ℕ → ℕ → Option ℕ → ℕ → Tags
tagged t i r v u = record { row = put t.row i r; value = put t.value i v; tran = put t.tran i u }

-- what keeps unshared changes claimed: a change under a claim, a write to the cache or to disk, a rebuild, a failure, and
-- the release of a transaction's claims when its member has no marked frame of the pages that it changed and that aren't its
-- by their set; and the giving up of a page that is wholly shared
pub record KeepsClaimed : Type 0 where
  pub by_change : (g : Group) (p : Page) (tags : Tags) (home : ℕ → ℕ) (claims : Claims) (t r m at number : ℕ) (v : Option ℕ) → Coherent g p → AreClaimed p tags home claims → home t ≡ m → claims t r ≡ Some Changes → AreClaimed (change p m at number) (tagged tags p.last r v t) home claims
  pub by_write : (g : Group) (p : Page) (tags : Tags) (home : ℕ → ℕ) (claims : Claims) (m : ℕ) → Coherent g p → (p.frame m).marked ≡ true → AreClaimed (write p m) tags home claims
  pub by_direct_write : (g : Group) (p : Page) (tags : Tags) (home : ℕ → ℕ) (claims : Claims) (m : ℕ) → Coherent g p → (p.frame m).marked ≡ true → AreClaimed (write_direct p m) tags home claims
  pub by_rebuild : (p : Page) (tags : Tags) (home : ℕ → ℕ) (claims : Claims) (n : ℕ) → p.shared ≤ n → AreClaimed p tags home claims → AreClaimed (rebuild p n) tags home claims
  pub by_fail : (g : Group) (p : Page) (tags : Tags) (home : ℕ → ℕ) (claims : Claims) (m n : ℕ) → IsCut g m p n → AreClaimed p tags home claims → AreClaimed (fail p m n) tags home claims
  pub by_release : (g : Group) (p : Page) (tags : Tags) (home : ℕ → ℕ) (claims after : Claims) (t m : ℕ) → Coherent g p → AreClaimed p tags home claims → home t ≡ m → g.status m ≡ Up
      → ((i : ℕ) → i < p.last → tags.tran i ≡ t → ((p.frame m).marked ≡ false) ⊎ (p.sole ≡ true)) → ((u r : ℕ) → u ≢ t → after u r ≡ claims u r) → AreClaimed p tags home after
  pub by_giving_up : (p : Page) (tags : Tags) (home : ℕ → ℕ) (claims : Claims) → p.shared ≡ p.last → AreClaimed (given_up p) tags home claims
