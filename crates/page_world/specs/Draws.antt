-- A number that a member draws for a log record, with the pages that the record changes, as a move.
use Rattle.std.specs.Prelude.{◌≡◌, ◌⊎◌, ℕ, ◌+◌, Bool, true, ◌&&◌, ◌==◌, if◌then◌else◌, List, [], ◌∷◌, Some}
use Rattle.std.specs.List.{list_any}
use Rattle.list_structure.specs.declared.standing.MemberStatus.TheVariants as standing
use Rattle.list_structure.specs.Standings.{status_of}
use Rattle.facility.specs.declared.command.Indexes.{Indexes}
use Rattle.facility.specs.declared.command.Reply.TheVariants as reply
use Rattle.facility.specs.States.{Held}
use Rattle.facility.specs.Counting.{given, DrawsNumber, DrawsUndo}
use Rattle.page_protocol.specs.Page.{put}
use Rattle.page_protocol.specs.Moves.{World, Draw, IsWritten}
use Rattle.page_protocol.specs.Always.{Good}
use Rattle.page_world.specs.Holdings.{Copy, Holdings, with_facility}
use Rattle.page_world.specs.Tied.{Tied, Moved}
use Rattle.page_world.specs.Cache.{IsLive}

-- the member has the page's lock, and the page filled in one of these frames, with all of its own changes: it is up, or the copy
-- is changed, or its changes are in the group's copy
pub record MayChange (w : World) (g : Holdings) (m n : ℕ) (frames : List ℕ) : Type 0 where
  pub own : g.owner n ≡ Some m
  pub placed : (g.copies m n).placed ≡ true
  pub noted : (g.copies m n).noted ≡ true
  pub filled : (g.copies m n).filled ≡ true
  pub tested : list_any (λ i. i == (g.copies m n).index) frames ≡ true
  pub newest : (status_of g.facility.lists.statuses m ≡ standing.Up) ⊎ ((g.copies m n).marked ≡ true) ⊎ IsWritten w.group (w.pages n) m

-- the copy with the bytes behind the change
abbrev pub changed_copy : Copy → List ℕ → Copy
changed_copy c bytes = record c { marked = true; bytes = bytes }

-- what the member has behind its record, whose changes leave these bytes in the pages that it touches
abbrev pub drawn : Holdings → ℕ → (ℕ → Bool) → (ℕ → List ℕ) → Holdings
drawn g m touched bytes = record g {
  written = put g.written m (g.written m + 1);
  copies = λ k n. if (k == m) && touched n then changed_copy (g.copies k n) (bytes n) else g.copies k n;
}

-- a touched page has one version more, with these bytes
abbrev pub content_behind : World → (ℕ → Bool) → (ℕ → List ℕ) → (ℕ → ℕ → List ℕ) → ℕ → ℕ → List ℕ
content_behind w touched bytes content n v = if touched n && (v == (w.pages n).last + 1) then bytes n else content n v

abbrev pub DrawsMoves : Type 0
DrawsMoves = (w : World) (g : Holdings) (content : ℕ → ℕ → List ℕ) (m number : ℕ) (touched : ℕ → Bool) (bytes : ℕ → List ℕ) (indexes : Indexes) (v : Held)
    → Good w → Tied w g content → IsLive g m → ((n : ℕ) → touched n ≡ true → MayChange w g m n (given indexes)) → DrawsNumber g.facility m indexes (reply.Drawn number) v
    → Moved w (Draw m touched ∷ []) (with_facility (drawn g m touched bytes) v) (content_behind w touched bytes content)

-- the same for a compensation
abbrev pub UndoesMoves : Type 0
UndoesMoves = (w : World) (g : Holdings) (content : ℕ → ℕ → List ℕ) (m number : ℕ) (touched : ℕ → Bool) (bytes : ℕ → List ℕ) (indexes : Indexes) (v : Held)
    → Good w → Tied w g content → IsLive g m → ((n : ℕ) → touched n ≡ true → MayChange w g m n (given indexes)) → DrawsUndo g.facility m indexes (reply.Drawn number) v
    → Moved w (Draw m touched ∷ []) (with_facility (drawn g m touched bytes) v) (content_behind w touched bytes content)
