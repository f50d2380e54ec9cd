-- What a member does and what its log holds, and that these give the guards of its moves and of its failure.
use Rattle.std.specs.Prelude.{◌≡◌, ◌≢◌, ◌⊎◌, ℕ, suc, ◌<◌, ◌≤◌, false, None, Some}
use Rattle.index_protocol.specs.Index.{Page, World, Unmade, Leaf, Branch, beyond, IsOpen, IsThere, MayGive, MayEnterBranch, MayWrite, MayFail}
use Rattle.index_protocol.specs.Whole.{WholeIndex}
use Rattle.index_protocol.specs.Search.{Reached}

-- ---- what a member's search gives: a leaf that it reached, and that it has locked and read in the last version
abbrev pub SearchMayGive : Type 0
SearchMayGive = (w : World) (m k n : ℕ) → WholeIndex w → Reached w.rest m k 1 → Reached w.rest m k n → w.rest.kind n ≡ Leaf → beyond ((w.pages n).link (w.pages n).last) k ≡ false → (w.pages n).entry (w.pages n).last k ≡ None
    → MayGive w.rest n (w.pages n) k × IsOpen w.rest m n × IsThere w.rest m 1

-- a leaf that it reached is entered in a branch that covers the leaf's low key
abbrev pub SearchMayEnter : Type 0
SearchMayEnter = (w : World) (m k n c : ℕ) → WholeIndex w → Reached w.rest m k c → w.rest.kind c ≡ Leaf → w.rest.kind n ≡ Branch → w.rest.low n ≤ w.rest.low c → beyond ((w.pages n).link (w.pages n).last) (w.rest.low c) ≡ false
    → MayEnterBranch w.rest m n (w.pages n) (w.rest.low c) c × IsOpen w.rest m c

-- ---- the order in which a member writes its changed pages: leaves by falling low key, then branches by falling low key
pub record InOrder (w : World) (n : ℕ) : Type 0 where
  pub right : (q : ℕ) → w.rest.writer q ≡ w.rest.writer n → w.rest.kind q ≡ w.rest.kind n → w.rest.low n < w.rest.low q → w.rest.shown q ≡ (w.pages q).last
  pub leaves : (q : ℕ) → w.rest.kind n ≡ Branch → w.rest.writer q ≡ w.rest.writer n → w.rest.kind q ≡ Leaf → w.rest.shown q ≡ (w.pages q).last

abbrev pub OrderGives : Type 0
OrderGives = (w : World) (n : ℕ) → WholeIndex w → InOrder w n → MayWrite w.rest n (w.pages n) (w.pages n).last

-- ---- what a failure leaves: of each change of a page, numbered from 0, the member whose log has it, and where it stands there
pub record Logs : Type 0 where
  pub author : ℕ → ℕ → ℕ
  pub place : ℕ → ℕ → ℕ

-- the page keeps what the failed member had on disk, and what others changed
pub record IsCut (logs : Logs) (m stable n : ℕ) (p : Page) (d : ℕ) : Type 0 where
  pub short : d ≤ p.last
  pub kept : (i : ℕ) → i < d → logs.author n i ≡ m → logs.place n i < stable
  pub gone_author : (i : ℕ) → d ≤ i → i < p.last → logs.author n i ≡ m
  pub gone_place : (i : ℕ) → d ≤ i → i < p.last → stable ≤ logs.place n i

pub record InLogs (w : World) (logs : Logs) : Type 0 where
  -- changes that are not shown are of the page's one writer
  pub writer : (n i : ℕ) → w.rest.shown n ≤ i → i < (w.pages n).last → logs.author n i ≡ w.rest.writer n
  -- a split that is not shown on both of its pages is one record of both
  pub split_author : (r i : ℕ) → w.rest.kind r ≢ Unmade → w.rest.parted_at r (w.rest.split_of r) ≡ suc i → (w.rest.shown r ≡ 0) ⊎ (w.rest.shown (w.rest.split_of r) ≤ i) → logs.author (w.rest.split_of r) i ≡ logs.author r 0
  pub split_place : (r i : ℕ) → w.rest.kind r ≢ Unmade → w.rest.parted_at r (w.rest.split_of r) ≡ suc i → (w.rest.shown r ≡ 0) ⊎ (w.rest.shown (w.rest.split_of r) ≤ i) → logs.place (w.rest.split_of r) i ≡ logs.place r 0
  -- a branch has the entry of a child that is not shown in changes that stand behind the child's split in the same log
  pub child_author : (n i k r : ℕ) → w.rest.kind n ≡ Branch → i < (w.pages n).last → (w.pages n).entry (suc i) k ≡ Some r → w.rest.shown r ≡ 0 → logs.author n i ≡ logs.author r 0
  pub child_place : (n i k r : ℕ) → w.rest.kind n ≡ Branch → i < (w.pages n).last → (w.pages n).entry (suc i) k ≡ Some r → w.rest.shown r ≡ 0 → logs.place r 0 < logs.place n i

abbrev pub FailureIsCut : Type 0
FailureIsCut = (w : World) (logs : Logs) (m stable : ℕ) (c : ℕ → ℕ) → WholeIndex w → InLogs w logs
    → ((n : ℕ) → IsCut logs m stable n (w.pages n) (c n)) → ((n : ℕ) → w.rest.shown n ≤ c n) → 1 ≤ c 1 → 1 ≤ c 2 → (n : ℕ) → MayFail w.rest m c n (w.pages n)
