-- Frames by index. A member has each page in one frame at most, and the cache structure registers frames: the bit of a
-- frame is set exactly while the frame is registered for a page. A frame that a page has left may stay registered for it,
-- so each member notes which of its frames it has registered for the page that they have.
use Rattle.std.specs.Prelude.{◌≡◌, ◌≢◌, ℕ, Bool, true, false, ◌&&◌, ◌==◌, if◌then◌else◌, Option, Some, None}

pub record Frames : Type 0 where
  pub at : ℕ → ℕ → Option ℕ  -- by member and page: the frame that has the page
  pub bound : ℕ → ℕ → Option ℕ  -- by member and frame: the page for which the frame is registered
  pub noted : ℕ → ℕ → Bool  -- by member and frame: it was registered for the page that it has, and wasn't found clear since

abbrev pub is_page : Option ℕ → ℕ → Bool
is_page None n = false
is_page (Some k) n = k == n

-- the bit of a frame, as a test finds it
abbrev pub is_set : Option ℕ → Bool
is_set None = false
is_set (Some k) = true

abbrev pub bit_at : (ℕ → Bool) → (ℕ → Option ℕ) → Option ℕ → ℕ → Bool
bit_at noted bound None n = false
bit_at noted bound (Some i) n = noted i && is_page (bound i) n

-- the bit by page and member, as the pages' moves speak of it
abbrev pub bit_of : Frames → ℕ → ℕ → Bool
bit_of f n m = bit_at (f.noted m) (f.bound m) (f.at m n) n

pub record ArePlaced (f : Frames) : Type 0 where
  pub once : (m n k i : ℕ) → f.at m n ≡ Some i → f.at m k ≡ Some i → n ≡ k
  pub placed : (m n i : ℕ) → f.noted m i ≡ true → f.bound m i ≡ Some n → f.at m n ≡ Some i

-- ---- what moves leave
abbrev pub put2 : {A : Type 0} → (ℕ → ℕ → A) → ℕ → ℕ → A → ℕ → ℕ → A
put2 f a b x p q = if (p == a) && (q == b) then x else f p q

abbrev pub placed_in : Frames → ℕ → ℕ → ℕ → Frames
placed_in f m n i = record f { at = put2 f.at m n (Some i); noted = put2 f.noted m i false }

-- a page leaves its frame, which may stay registered
abbrev pub taken_out : Frames → ℕ → ℕ → ℕ → Frames
taken_out f m n i = record f { at = put2 f.at m n None; noted = put2 f.noted m i false }

abbrev pub registered : Frames → ℕ → ℕ → ℕ → Frames
registered f m n i = record f { bound = put2 f.bound m i (Some n); noted = put2 f.noted m i true }

abbrev pub unregistered : Frames → ℕ → ℕ → Frames
unregistered f m i = record f { bound = put2 f.bound m i None; noted = put2 f.noted m i false }

-- the member no longer counts on the frame, as a test found it clear
abbrev pub found_clear : Frames → ℕ → ℕ → Frames
found_clear f m i = record f { noted = put2 f.noted m i false }

abbrev pub without : Bool → Option ℕ → ℕ → Option ℕ
without keep None n = None
without keep (Some k) n = if keep then Some k else if k == n then None else Some k

-- the registrations of a page are dropped, but for one member's (a write) or all (an entry is used for another page)
abbrev pub dropped : Frames → ℕ → (ℕ → Bool) → Frames
dropped f n keep = record f { bound = λ m i. without (keep m) (f.bound m i) n }

-- a failure of a member takes its frames and registrations
abbrev pub emptied : Frames → ℕ → Frames
emptied f m = record {
  at = λ k n. if k == m then None else f.at k n;
  bound = λ k i. if k == m then None else f.bound k i;
  noted = λ k i. if k == m then false else f.noted k i;
}

-- ---- a test of a frame that the member noted tells the bit of the page that it has
abbrev pub TestTells : Type 0
TestTells = (f : Frames) (m n i : ℕ) → ArePlaced f → f.at m n ≡ Some i → f.noted m i ≡ true → is_set (f.bound m i) ≡ bit_of f n m

-- a page is placed in a frame that has no page, whatever that is registered for; no bit changes
pub record Places : Type 0 where
  pub keeps : (f : Frames) (m n i : ℕ) → ArePlaced f → f.at m n ≡ None → ((k : ℕ) → f.at m k ≢ Some i) → ArePlaced (placed_in f m n i)
  pub bits : (f : Frames) (m n i k a : ℕ) → ArePlaced f → f.at m n ≡ None → ((k : ℕ) → f.at m k ≢ Some i) → bit_of (placed_in f m n i) k a ≡ bit_of f k a

-- a page leaves its frame; its bit is cleared
pub record TakesOut : Type 0 where
  pub keeps : (f : Frames) (m n i : ℕ) → ArePlaced f → f.at m n ≡ Some i → ArePlaced (taken_out f m n i)
  pub bits : (f : Frames) (m n i k a : ℕ) → ArePlaced f → f.at m n ≡ Some i → bit_of (taken_out f m n i) k a ≡ (if (k == n) && (a == m) then false else bit_of f k a)

-- the frame that has the page is registered for it, and no longer for another page; that bit is set
pub record Registers : Type 0 where
  pub keeps : (f : Frames) (m n i : ℕ) → ArePlaced f → f.at m n ≡ Some i → ArePlaced (registered f m n i)
  pub bits : (f : Frames) (m n i k a : ℕ) → ArePlaced f → f.at m n ≡ Some i → bit_of (registered f m n i) k a ≡ (if (k == n) && (a == m) then true else bit_of f k a)

-- the frame that has the page is unregistered; that bit is cleared
pub record Unregisters : Type 0 where
  pub keeps : (f : Frames) (m n i : ℕ) → ArePlaced f → f.at m n ≡ Some i → ArePlaced (unregistered f m i)
  pub bits : (f : Frames) (m n i k a : ℕ) → ArePlaced f → f.at m n ≡ Some i → bit_of (unregistered f m i) k a ≡ (if (k == n) && (a == m) then false else bit_of f k a)

-- a test found the frame clear, and so the page's bit was; no bit changes
pub record FindsClear : Type 0 where
  pub keeps : (f : Frames) (m i : ℕ) → ArePlaced f → ArePlaced (found_clear f m i)
  pub bits : (f : Frames) (m i k a : ℕ) → f.bound m i ≡ None → bit_of (found_clear f m i) k a ≡ bit_of f k a

-- the page's bits are cleared, but for those that are kept; no bit of another page changes
pub record Drops : Type 0 where
  pub keeps : (f : Frames) (n : ℕ) (keep : ℕ → Bool) → ArePlaced f → ArePlaced (dropped f n keep)
  pub bits : (f : Frames) (n : ℕ) (keep : ℕ → Bool) (k a : ℕ) → ArePlaced f → bit_of (dropped f n keep) k a ≡ (if k == n then keep a && bit_of f k a else bit_of f k a)

pub record Empties : Type 0 where
  pub keeps : (f : Frames) (m : ℕ) → ArePlaced f → ArePlaced (emptied f m)
  pub bits : (f : Frames) (m k a : ℕ) → bit_of (emptied f m) k a ≡ (if a == m then false else bit_of f k a)
