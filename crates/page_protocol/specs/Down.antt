-- What holds of each page after a failure of all members and of the cache, until group restart has ended.
use Rattle.std.specs.Prelude.{◌≡◌, ℕ, ◌<◌, ◌≤◌, false, None}
use Rattle.page_protocol.specs.Page.{Page, Group, AllStable}

pub record Grounded (g : Group) (p : Page) : Type 0 where
  pub all_stable : AllStable g p p.last
  pub written : (i : ℕ) → i < p.last → p.place i < g.written (p.author i)
  pub forced : (m : ℕ) → g.stable m ≤ g.written m
  pub within : p.disk ≤ p.last
  pub shared : p.shared ≤ p.last
  pub no_bytes : p.bytes ≡ None
  pub no_castout : p.castout ≡ None
  pub no_bits : (m : ℕ) → p.bit m ≡ false
  pub no_frames : (m : ℕ) → (p.frame m).filled ≡ false
  pub unmarked : (m : ℕ) → (p.frame m).marked ≡ false
  pub undirect : (m : ℕ) → (p.frame m).direct ≡ false
  pub no_owner : p.owner ≡ None
  pub no_sole : p.sole ≡ false
