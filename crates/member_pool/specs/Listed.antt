-- The list of changed frames in write order, and the counts of them by page set.
use Rattle.std.specs.Prelude.{ℕ, zero, suc, ◌≡◌, ◌<◌, ◌+◌, nat_eq, Bool, true, false, if◌then◌else◌, List, length, slice_index, AllPairs, Option, is_some}
use Rattle.std.specs.List.{list_all}
use Rattle.std.specs.Option.{option_map_or}
use Rattle.write_order.specs.declared.key.WriteKey.{WriteKey}
use Rattle.write_order.specs.Keys.{table_of, is_before}
use Rattle.member_pool.specs.declared.frame.Frame.{Frame}
use Rattle.member_pool.specs.Frames.{frame_at}
use Rattle.member_pool.specs.Marks.{entry_of, is_of_set}
use Rattle.page_index.specs.Uses.{is_in}

-- the place of each frame's page in the write order, None where it isn't changed
abbrev pub Entries : Type 0
Entries = ℕ → Option WriteKey

abbrev pub entry_in : List Frame → Entries
entry_in frames f = entry_of (frame_at frames f)

abbrev pub with_entry : Entries → ℕ → Option WriteKey → Entries
with_entry entries f entry = λ g. if nat_eq g f then entry else entries g

-- whether the entry comes before the key
abbrev pub precedes : Option WriteKey → WriteKey → Bool
precedes entry key = option_map_or (λ other. is_before other key) entry false

-- whether both are entries, and the first comes before the second
abbrev pub is_earlier : Option WriteKey → Option WriteKey → Bool
is_earlier a b = option_map_or (precedes a) b false

-- the table of a changed page
abbrev pub table_in : Option WriteKey → ℕ
table_in entry = option_map_or table_of entry 0

-- the list has each changed frame, in write order
pub record IsListed (entries : Entries) (listed : List ℕ) : Type 0 where
  pub changed : list_all (λ f. is_some (entries f)) listed ≡ true
  pub covers : (f : ℕ) → is_some (entries f) ≡ true → is_in f listed ≡ true
  pub rising : AllPairs (λ f g. is_earlier (entries f) (entries g) ≡ true) listed

-- how many of the numbers below n pass
abbrev pub tally : (ℕ → Bool) → ℕ → ℕ
tally p zero = 0
tally p (suc n) = (if p n then 1 else 0) + tally p n

pub record AreMarked (entries : Entries) (n : ℕ) (listed : List ℕ) (counts : List ℕ) : Type 0 where
  pub in_order : IsListed entries listed
  pub long : length listed ≡ tally (λ f. is_some (entries f)) n
  -- a count for each of the page sets 1 to 128
  pub all : length counts ≡ 129
  pub counted : (set : ℕ) → set < 129 → slice_index counts set ≡ tally (λ f. is_of_set set (entries f)) n
