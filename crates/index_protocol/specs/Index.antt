-- The pages of a table's index, each with all its versions, and the moves that change them.
use Rattle.std.specs.Prelude.{◌≡◌, ◌≢◌, ℕ, ◌+◌, ◌<◌, ◌≤◌, Bool, true, false, ◌||◌, leb, Option, Some, None, if◌then◌else◌, ◌==◌}

-- a function with the value at one number altered
abbrev pub alter : {A : Type 0} → (ℕ → A) → ℕ → (A → A) → ℕ → A
alter f k g q = if q == k then g (f q) else f q

-- one version more, by key
abbrev pub newer : {A : Type 0} → (ℕ → ℕ → A) → ℕ → (ℕ → A) → ℕ → ℕ → A
newer e n f v k = if v == n then f k else e v k

pub data Kind : Type 0 where
  Unmade : Kind
  Leaf : Kind
  Branch : Kind

-- the first key that a page does not cover, and the page that covers it
pub record Link : Type 0 where
  pub high : ℕ
  pub right : ℕ

pub record Page : Type 0 where
  pub last : ℕ  -- the number of its changes; 0 while it is not made
  pub link : ℕ → Option Link  -- by version
  pub entry : ℕ → ℕ → Option ℕ  -- by version and key: the place, or the child's page number

pub record Rest : Type 0 where
  pub kind : ℕ → Kind  -- by page
  pub low : ℕ → ℕ  -- by page: the first key that it covers
  pub shown : ℕ → ℕ  -- by page: the version that is the group's copy
  pub writer : ℕ → ℕ  -- by page: the member that made its last change
  pub split_of : ℕ → ℕ  -- by page: the left page of the split that made it
  pub parted_at : ℕ → ℕ → ℕ  -- by page and page: the version in which the second gave up the keys of the first; 0 where it never had them
  pub given : ℕ → Option ℕ  -- by key: its place
  pub given_in : ℕ → ℕ  -- by key: the leaf that took it
  pub given_at : ℕ → ℕ  -- by key: the version of that leaf
  pub giver : ℕ → Option ℕ  -- by key: the member that gave it, while what keeps others from the key is not released

pub record World : Type 0 where
  pub rest : Rest
  pub pages : ℕ → Page

unfoldable pub beyond : Option Link → ℕ → Bool
beyond None k = false
beyond (Some l) k = leb l.high k

-- ---- what a move leaves of a page
abbrev pub with_place : Page → ℕ → ℕ → Page
with_place p k x = record {
  last = p.last + 1;
  link = alter p.link (p.last + 1) (λ _. p.link p.last);
  entry = newer p.entry (p.last + 1) (alter (p.entry p.last) k (λ _. Some x));
}

abbrev pub split_left : Page → ℕ → ℕ → Page
split_left p new low = record {
  last = p.last + 1;
  link = alter p.link (p.last + 1) (λ _. Some (record { high = low; right = new }));
  entry = newer p.entry (p.last + 1) (λ k. if leb low k then None else p.entry p.last k);
}

abbrev pub split_right : Page → ℕ → Page
split_right p low = record {
  last = 1;
  link = λ v. p.link p.last;
  entry = λ v k. if leb low k then p.entry p.last k else None;
}

-- ---- what a move leaves of the rest
abbrev pub given_rest : Rest → ℕ → ℕ → Page → ℕ → ℕ → Rest
given_rest g m n p k x = record g {
  given = alter g.given k (λ _. Some x);
  given_in = alter g.given_in k (λ _. n);
  given_at = alter g.given_at k (λ _. p.last + 1);
  giver = alter g.giver k (λ _. Some m);
  writer = alter g.writer n (λ _. m);
}

abbrev pub split_rest : Rest → ℕ → ℕ → Page → ℕ → ℕ → Rest
split_rest g m n p new low = record g {
  kind = alter g.kind new (λ _. g.kind n);
  low = alter g.low new (λ _. low);
  split_of = alter g.split_of new (λ _. n);
  parted_at = λ r q. if r == new then (if q == n then p.last + 1 else g.parted_at n q) else g.parted_at r q;
  writer = λ q. if (q == n) || (q == new) then m else g.writer q;
}

abbrev pub entered_rest : Rest → ℕ → ℕ → Rest
entered_rest g m n = record g { writer = alter g.writer n (λ _. m) }

abbrev pub written_rest : Rest → ℕ → ℕ → Rest
written_rest g n v = record g { shown = alter g.shown n (λ _. v) }

abbrev pub ended_rest : Rest → (ℕ → Bool) → Rest
ended_rest g keys = record g { giver = λ k. if keys k then None else g.giver k }

-- every page is brought to its last version, and no lock is left
abbrev pub restarted_rest : Rest → (ℕ → ℕ) → Rest
restarted_rest g last = record g { shown = last; giver = λ k. None }

-- a failure leaves each page its first changes
abbrev pub failed_rest : Rest → (ℕ → ℕ) → Rest
failed_rest g c = record g {
  kind = λ n. if c n == 0 then Unmade else g.kind n;
  given = λ k. if leb (g.given_at k) (c (g.given_in k)) then g.given k else None;
}

abbrev pub failed_page : Page → ℕ → Page
failed_page p c = record p { last = c }

-- each split that leads to the page is shown, or waits to be written by this member
abbrev pub IsOpen : Rest → ℕ → ℕ → Type 0
IsOpen g m n = (q : ℕ) → g.shown q < g.parted_at n q → g.writer q ≡ m

-- the page is shown, or waits to be written by this member
abbrev pub IsThere : Rest → ℕ → ℕ → Type 0
IsThere g m n = g.shown n ≡ 0 → g.writer n ≡ m

-- ---- the guards, over the last version of one page

-- changes that are not shown are of one member, which has the page lock: the pages' protocol gives it
abbrev pub MayChange : Rest → ℕ → ℕ → Page → Type 0
MayChange g m n p = g.shown n ≢ p.last → g.writer n ≡ m

-- read under the page lock
pub record MayGive (g : Rest) (n : ℕ) (p : Page) (k : ℕ) : Type 0 where
  pub leaf : g.kind n ≡ Leaf
  pub from_low : g.low n ≤ k
  pub covered : beyond (p.link p.last) k ≡ false
  pub free : p.entry p.last k ≡ None

-- read under the page locks; the index header's lock gives the fresh page number
pub record MaySplit (g : Rest) (n : ℕ) (p : Page) (new low : ℕ) : Type 0 where
  pub made : g.kind n ≢ Unmade
  pub fresh : g.kind new ≡ Unmade
  pub above : g.low n < low
  pub covered : beyond (p.link p.last) low ≡ false
  pub at_entry : g.kind n ≡ Branch → p.entry p.last low ≢ None

-- the child came from a link that this member read, so it is shown or this member's own
pub record MayEnterBranch (g : Rest) (m n : ℕ) (p : Page) (k c : ℕ) : Type 0 where
  pub branch : g.kind n ≡ Branch
  pub child : g.kind c ≡ Leaf
  pub low : g.low c ≡ k
  pub from_low : g.low n ≤ k
  pub covered : beyond (p.link p.last) k ≡ false
  pub there : g.shown c ≡ 0 → g.writer c ≡ m

-- the member writes its changed pages in one order, leaves by falling low key and then branches: a right page goes before its
-- left page, and a branch after its new child and after each page that the child's keys left
pub record MayWrite (g : Rest) (n : ℕ) (p : Page) (v : ℕ) : Type 0 where
  pub grows : g.shown n ≤ v
  pub within : v ≤ p.last
  pub right : (u : ℕ) (l : Link) → g.shown n < u → u ≤ v → p.link u ≡ Some l → 1 ≤ g.shown l.right
  pub child : (u k c : ℕ) → g.kind n ≡ Branch → g.shown n < u → u ≤ v → p.entry u k ≡ Some c → 1 ≤ g.shown c
  pub parted : (u k c q : ℕ) → g.kind n ≡ Branch → g.shown n < u → u ≤ v → p.entry u k ≡ Some c → g.parted_at c q ≤ g.shown q

-- what is shown stays, and what other members changed; a split is one log record, so it stays on both sides or on none; a
-- branch entry stands in the log behind its child's split; a failure that loses the format loses all, and the index begins anew
pub record MayFail (g : Rest) (m : ℕ) (c : ℕ → ℕ) (n : ℕ) (p : Page) : Type 0 where
  pub short : c n ≤ p.last
  pub kept : g.shown n ≤ c n
  pub others : g.writer n ≢ m → c n ≡ p.last
  pub gone : g.kind n ≢ Unmade → c n ≡ 0 → c (g.split_of n) < g.parted_at n (g.split_of n)
  pub stays : g.kind n ≢ Unmade → 1 ≤ c n → g.parted_at n (g.split_of n) ≤ c (g.split_of n)
  pub child : (v k r : ℕ) → g.kind n ≡ Branch → 1 ≤ v → v ≤ c n → p.entry v k ≡ Some r → 1 ≤ c r

-- what keeps other members from the keys is released only when every page that the member changed is shown
pub record MayEnd (w : World) (m : ℕ) (keys : ℕ → Bool) : Type 0 where
  pub own : (k : ℕ) → keys k ≡ true → w.rest.giver k ≡ Some m
  pub all_shown : (n : ℕ) → w.rest.writer n ≡ m → w.rest.shown n ≡ (w.pages n).last

-- the first number of a change is the member that makes it
pub data Move : Type 0 where
  Give : ℕ → ℕ → ℕ → ℕ → Move  -- leaf, key, place
  Split : ℕ → ℕ → ℕ → ℕ → Move  -- left, new, low
  BranchEntry : ℕ → ℕ → ℕ → ℕ → Move  -- branch, low, child
  Write : ℕ → ℕ → Move  -- page, version
  End : ℕ → (ℕ → Bool) → Move  -- the keys whose locks are released, or the keys given under a sole use that ends
  Fail : ℕ → (ℕ → ℕ) → Move  -- by page: how many changes are left
  GroupRestart : Move  -- after a failure of each member, and before any member reads

abbrev pub given_world : World → ℕ → ℕ → ℕ → ℕ → World
given_world w m n k x = record { rest = given_rest w.rest m n (w.pages n) k x; pages = λ q. if q == n then with_place (w.pages n) k x else w.pages q }

abbrev pub split_world : World → ℕ → ℕ → ℕ → ℕ → World
split_world w m n new low = record { rest = split_rest w.rest m n (w.pages n) new low; pages = λ q. if q == n then split_left (w.pages n) new low else if q == new then split_right (w.pages n) low else w.pages q }

abbrev pub entered_world : World → ℕ → ℕ → ℕ → ℕ → World
entered_world w m n k c = record { rest = entered_rest w.rest m n; pages = λ q. if q == n then with_place (w.pages n) k c else w.pages q }

abbrev pub written_world : World → ℕ → ℕ → World
written_world w n v = record w { rest = written_rest w.rest n v }

abbrev pub ended_world : World → (ℕ → Bool) → World
ended_world w keys = record w { rest = ended_rest w.rest keys }

abbrev pub failed_world : World → (ℕ → ℕ) → World
failed_world w c = record { rest = failed_rest w.rest c; pages = λ n. failed_page (w.pages n) (c n) }

abbrev pub restarted_world : World → World
restarted_world w = record w { rest = restarted_rest w.rest (λ n. (w.pages n).last) }

abbrev pub Step : World → Move → World → Type 0
Step w (Give m n k x) v = MayGive w.rest n (w.pages n) k × MayChange w.rest m n (w.pages n) × IsOpen w.rest m n × IsThere w.rest m 1 × (v ≡ given_world w m n k x)
Step w (Split m n new low) v = MaySplit w.rest n (w.pages n) new low × MayChange w.rest m n (w.pages n) × (v ≡ split_world w m n new low)
Step w (BranchEntry m n k c) v = MayEnterBranch w.rest m n (w.pages n) k c × MayChange w.rest m n (w.pages n) × IsOpen w.rest m c × (v ≡ entered_world w m n k c)
Step w (Write n u) v = MayWrite w.rest n (w.pages n) u × (v ≡ written_world w n u)
Step w (End m keys) v = MayEnd w m keys × (v ≡ ended_world w keys)
Step w (Fail m c) v = ((n : ℕ) → MayFail w.rest m c n (w.pages n)) × (v ≡ failed_world w c)
Step w GroupRestart v = v ≡ restarted_world w

-- ---- the start, where a member has just formatted the index, and nothing is written: page 1 is the first branch, page 2 the first leaf
abbrev pub blank : Page
blank = record { last = 0; link = λ v. None; entry = λ v k. None }

abbrev pub first_branch : Page
first_branch = record { last = 1; link = λ v. None; entry = λ v k. if k == 0 then Some 2 else None }

abbrev pub first_leaf : Page
first_leaf = record { last = 1; link = λ v. None; entry = λ v k. None }

abbrev pub start_rest : ℕ → Rest
start_rest m = record {
  kind = λ n. if n == 1 then Branch else if n == 2 then Leaf else Unmade;
  low = λ n. 0;
  shown = λ n. 0;
  writer = λ n. m;
  split_of = λ n. 0;
  parted_at = λ n q. 0;
  given = λ k. None;
  given_in = λ k. 0;
  given_at = λ k. 0;
  giver = λ k. None;
}

abbrev pub start : ℕ → World
start m = record { rest = start_rest m; pages = λ n. if n == 1 then first_branch else if n == 2 then first_leaf else blank }
