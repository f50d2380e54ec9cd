-- The castout of a page, as moves: its bytes are read under its castout lock, written to disk, and the lock is freed.
use Rattle.std.specs.Prelude.{◌≡◌, ℕ, true, false, List, [], ◌∷◌, Some, unwrap_or}
use Rattle.facility.specs.declared.command.Reply.TheVariants as reply
use Rattle.facility.specs.States.{Held, castout_member}
use Rattle.facility.specs.CacheCommands.{BeginsCastout, EndsCastout}
use Rattle.page_protocol.specs.Moves.{World, At, CastoutRead, CastoutWrite, CastoutDone}
use Rattle.page_protocol.specs.Always.{Good}
use Rattle.page_world.specs.Numbers.{page_at}
use Rattle.page_protocol.specs.Page.{put}
use Rattle.page_world.specs.Holdings.{Cast, no_cast, Holdings, with_cast, with_facility}
use Rattle.page_world.specs.Tied.{Tied, Moved}

abbrev pub taken_cast : List ℕ → Cast
taken_cast bytes = record { taken = true; sent = false; bytes = bytes }

-- the version in the cache structure
abbrev pub cached : World → ℕ → ℕ
cached w n = unwrap_or (w.pages n).bytes 0

abbrev pub BeginsMoves : Type 0
BeginsMoves = (w : World) (g : Holdings) (content : ℕ → ℕ → List ℕ) (m n : ℕ) (page bytes : List ℕ) (v : Held)
    → Tied w g content → BeginsCastout g.facility m (page_at n) page reply.Taken v bytes
    → Moved w (At n (CastoutRead m (cached w n)) ∷ []) (with_facility (with_cast g m n (taken_cast bytes)) v) content

-- the page is written while the member holds the lock, as it looks in this event
abbrev pub sent_cast : Cast → Cast
sent_cast c = record c { sent = true }

abbrev pub CastsMoves : Type 0
CastsMoves = (w : World) (g : Holdings) (content : ℕ → ℕ → List ℕ) (m n : ℕ)
    → Tied w g content → castout_member g.facility (page_at n) ≡ Some m → (g.casts m n).taken ≡ true
    → Moved w (At n (CastoutWrite m) ∷ []) (record (with_cast g m n (sent_cast (g.casts m n))) { disk = put g.disk n (g.casts m n).bytes }) content

-- the member's castout has written the page under this lock
abbrev pub EndsMoves : Type 0
EndsMoves = (w : World) (g : Holdings) (content : ℕ → ℕ → List ℕ) (m n : ℕ) (v : Held)
    → Good w → Tied w g content → (g.casts m n).taken ≡ true → (g.casts m n).sent ≡ true → EndsCastout g.facility m (page_at n) reply.Done v
    → Moved w (At n (CastoutDone m) ∷ []) (with_facility (with_cast g m n no_cast) v) content
