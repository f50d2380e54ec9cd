-- Moves that change the group, at one page.
use Rattle.std.proofs.Common.{◌≡◌, ℕ, ◌+◌, ◌≤◌, ◌∙◌, arith, true, false, inl, inr, ◌⊎◌, Some}
use Rattle.std.proofs.lemmas.Bool.{cases_Bool, both_ways}
use Rattle.std.specs.Prelude.{◌≢◌}
use Rattle.page_protocol.specs.Page.{Page, Group, Up, Failed, Restarting, change, fail}
use Rattle.page_protocol.specs.Coherent.{Coherent}
use Rattle.page_protocol.specs.Moves.{IsCut, IsRead, IsWritten, MayChange, drawn, forced, log_read, with_cache, failed, restarting, opened, blank, start}

pub kept_force : (g : Group) (p : Page) (m k : ℕ) → Coherent g p → g.stable m ≤ k → k ≤ g.written m → Coherent (forced g m k) p
kept_force g p m k s low high = grind arith

pub kept_log_read : (g : Group) (p : Page) (m : ℕ) → Coherent g p → Coherent (log_read g m) p
kept_log_read g p m s = grind arith

pub all_read : (g : Group) (p : Page) → Coherent g p → g.lost ≡ true → IsRead g p p.disk → p.disk ≡ p.shared
all_read g p s lost has = let a = has.no_more p.disk in let b = s.read_shared p.disk lost in let c = s.within in let d = s.disk_old in grind (arith, a, b, c, d)

pub kept_rebuilt : (g : Group) (p : Page) → Coherent g p → g.lost ≡ true → p.disk ≡ p.shared → Coherent (with_cache g) p
kept_rebuilt g p s lost done = grind arith

pub kept_restart : (g : Group) (p : Page) (m : ℕ) → Coherent g p → g.status m ≡ Failed → Coherent (restarting g m) p
kept_restart g p m s down = grind arith

pub kept_open : (g : Group) (p : Page) (m : ℕ) → Coherent g p → g.status m ≡ Restarting → p.owner ≢ Some m → Coherent (opened g m) p
kept_open g p m s down done = grind arith

-- the frame that a member may change has the last version
version_of : (g : Group) (p : Page) (m : ℕ) → Coherent g p → p.owner ≡ Some m → (p.frame m).filled ≡ true → (p.bit m ≡ true) ⊎ ((p.sole ≡ true) × (g.status m ≡ Up)) → (p.frame m).marked ≡ false → (p.frame m).version ≡ p.shared
version_of g p m s own filled (inl bit) unmarked = s.valid m filled bit unmarked
version_of g p m s own filled (inr sole) unmarked = s.sole_valid m sole.0 own sole.1 filled unmarked

nothing_beyond : (g : Group) (p : Page) (m : ℕ) → Coherent g p → p.owner ≡ Some m → (g.status m ≡ Up) ⊎ ((p.frame m).marked ≡ true) ⊎ IsWritten g p m → (p.frame m).marked ≡ false → p.shared ≡ p.last
nothing_beyond g p m s own (inl up) unmarked = let n = s.newest m own in let w = s.within in grind (arith, n, w, up, unmarked)
nothing_beyond g p m s own (inr (inl marked)) unmarked = absurd (both_ways _ unmarked marked)
nothing_beyond g p m s own (inr (inr done)) unmarked = let n = s.own p.shared in let w = s.within in let d = done p.shared in let l = s.lost_copy in grind (arith, n, w, d, l, own)

pub has_last : (g : Group) (p : Page) (m : ℕ) → Coherent g p → MayChange g p m → (p.frame m).version ≡ p.last
has_last g p m s may = elim (cases_Bool (p.frame m).marked) [
  | inl h ↦ s.marked_last m h
  | inr h ↦ version_of g p m s may.own may.filled may.usable h ∙ nothing_beyond g p m s may.own may.newest h
]

changed : (g : Group) (p : Page) (m : ℕ) → Coherent g p → p.owner ≡ Some m → g.status m ≢ Failed → (p.frame m).filled ≡ true → (p.frame m).version ≡ p.last → Coherent (drawn g m) (change p m (g.written m) (g.counter + 1))
changed g p m s own live filled last = grind arith

pub kept_change : (g : Group) (p : Page) (m : ℕ) → Coherent g p → MayChange g p m → Coherent (drawn g m) (change p m (g.written m) (g.counter + 1))
kept_change g p m s may = changed g p m s may.own may.live may.filled (has_last g p m s may)

-- a log record that doesn't change the page
pub kept_drawn : (g : Group) (p : Page) (m : ℕ) → Coherent g p → Coherent (drawn g m) p
kept_drawn g p m s = grind arith

pub kept_fail : (g : Group) (p : Page) (m n : ℕ) → Coherent g p → IsCut g m p n → Coherent (failed g m) (fail p m n)
kept_fail g p m n s cut = grind arith

pub kept_start : Coherent start.group blank
kept_start = grind arith
