-- Guards without which a coherent state is left: for each a state and a move that lacks it.
use Rattle.std.specs.Prelude.{◌≡◌, ◌≢◌, ℕ, ◌+◌, true, false, [], ◌∷◌, filter, Some, None, if◌then◌else◌, ◌==◌, ◌&&◌}
use Rattle.page_protocol.specs.Page.{Page, Group, Frame, Up, put, AllStable, unfilled, holding, write, write_direct, change, castout_write, drop_frame, given_up, owned_whole}
use Rattle.page_protocol.specs.Moves.{World, IsRead, with_cache, drawn, restarting, opened}
use Rattle.page_protocol.specs.Always.{Good}
use Rattle.page_protocol.specs.Links.{Links, Linked}
use Rattle.page_protocol.specs.Coherent.{Coherent}
use Rattle.page_protocol.specs.Redo.{Patch, Change, page_after, is_of, Rise, zeros}

-- all members are up, and so many records of each log are on disk and in hand
abbrev pub all_up_with : ℕ → ℕ → Group
all_up_with stable written = record { stable = λ m. stable; written = λ m. written; read = λ m. 0; status = λ m. Up; counter = 2; lost = false }

abbrev pub changed_frame : ℕ → Frame
changed_frame v = record { filled = true; marked = true; direct = false; version = v }

-- member 1 owns the page and has made its second change in its frame; member 2 has the group's copy, with the first
abbrev pub in_hand : Page
in_hand = record {
  last = 2;
  author = λ i. 1;
  place = λ i. i;
  lrsn = λ i. i + 1;
  disk = 0;
  bytes = Some 1;
  changed = true;
  written_since = true;
  castout = None;
  buffer = 0;
  sent = false;
  bit = put (put (λ k. false) 1 true) 2 true;
  frame = put (put (λ k. unfilled 0 false) 1 (changed_frame 2)) 2 (holding 1);
  owner = Some 1;
  sole = false;
  shared = 1;
  at_loss = 1;
}

-- ---- a write invalidates all other frames

abbrev pub write_without_invalidation : Page → ℕ → Page
write_without_invalidation p m = record (write p m) { bit = p.bit }

pub record InvalidationIsNeeded : Type 0 where
  pub coherent : Coherent (all_up_with 2 2) in_hand
  pub marked : (in_hand.frame 1).marked ≡ true
  pub stable : AllStable (all_up_with 2 2) in_hand (in_hand.frame 1).version
  pub breaks : Coherent (all_up_with 2 2) (write_without_invalidation in_hand 1) → ⊥

-- ---- a page is written only when its log records are stable

pub record StableIsNeeded : Type 0 where
  pub coherent : Coherent (all_up_with 1 2) in_hand
  pub marked : (in_hand.frame 1).marked ≡ true
  pub breaks : Coherent (all_up_with 1 2) (write in_hand 1) → ⊥

-- ---- a changed page is put aside only by a member that restarts, and only when its log records are stable

pub record RestingIsNeeded : Type 0 where
  pub coherent : Coherent (all_up_with 2 2) in_hand
  pub marked : (in_hand.frame 1).marked ≡ true
  pub stable : AllStable (all_up_with 2 2) in_hand in_hand.last
  pub breaks : Coherent (all_up_with 2 2) (drop_frame in_hand 1) → ⊥

pub record AsideIsStable : Type 0 where
  pub coherent : Coherent (restarting (all_up_with 1 2) 1) in_hand
  pub marked : (in_hand.frame 1).marked ≡ true
  pub breaks : Coherent (restarting (all_up_with 1 2) 1) (drop_frame in_hand 1) → ⊥

-- ---- a page is given up only when its changes were written

pub record WrittenIsNeeded : Type 0 where
  pub coherent : Coherent (all_up_with 2 2) in_hand
  pub own : in_hand.owner ≡ Some 1
  pub breaks : Coherent (all_up_with 2 2) (given_up in_hand) → ⊥

-- ---- a page is changed only where the frame's bit is set

-- member 1 has written the page and given it up; member 2 has taken it, and its frame was invalidated
abbrev pub taken_over : Page
taken_over = record in_hand {
  bytes = Some 2;
  bit = put (λ k. false) 1 true;
  frame = put (put (λ k. unfilled 0 false) 1 (holding 2)) 2 (holding 1);
  owner = Some 2;
  shared = 2;
}

pub record BitIsNeeded : Type 0 where
  pub coherent : Coherent (all_up_with 2 2) taken_over
  pub own : taken_over.owner ≡ Some 2
  pub filled : (taken_over.frame 2).filled ≡ true
  pub breaks : Coherent (drawn (all_up_with 2 2) 2) (change taken_over 2 2 3) → ⊥

-- ---- the castout lock is held at the castout's disk write

-- a castout took version 1 and lost its lock with the cache; the rebuild has brought the disk to version 2
abbrev pub after_rebuild : Page
after_rebuild = record in_hand {
  disk = 2;
  bytes = None;
  changed = false;
  written_since = false;
  buffer = 1;
  bit = λ k. false;
  frame = λ k. unfilled 0 false;
  owner = None;
  shared = 2;
}

pub record CastoutLockIsNeeded : Type 0 where
  pub coherent : Coherent (all_up_with 2 2) after_rebuild
  pub gone : after_rebuild.castout ≡ None
  pub breaks : Coherent (all_up_with 2 2) (castout_write after_rebuild) → ⊥

-- ---- a rebuild merges the logs of all members

-- the cache was lost with version 2, whose changes are in the log of member 1
abbrev pub lost_with_two : Page
lost_with_two = record after_rebuild { disk = 0; at_loss = 2 }

abbrev pub while_lost : Group
while_lost = record (all_up_with 2 2) { lost = true; read = λ m. 2 }

-- the rebuild's records without the log of one member
abbrev pub without_log : Group → ℕ → Group
without_log g m = record g { read = put g.read m 0 }

pub record AllLogsAreNeeded : Type 0 where
  pub coherent : Coherent while_lost lost_with_two
  pub read : IsRead (without_log while_lost 1) lost_with_two lost_with_two.disk
  pub breaks : Coherent (with_cache while_lost) lost_with_two → ⊥

-- ---- a sole user's frame isn't written to disk while the cache is lost

-- member 1 has the page by its set, and has changed it since the rebuild read its log
abbrev pub direct_while_lost : Page
direct_while_lost = record in_hand {
  disk = 1;
  bytes = None;
  changed = false;
  written_since = false;
  bit = λ k. false;
  frame = put (λ k. unfilled 0 false) 1 (record { filled = true; marked = true; direct = true; version = 2 });
  sole = true;
}

abbrev pub read_before : Group
read_before = record (all_up_with 2 2) { lost = true; read = λ m. 1 }

-- what the rebuild has read leads to a version before the one that was written
pub record CacheIsNeeded : Type 0 where
  pub coherent : Coherent read_before direct_while_lost
  pub direct : (direct_while_lost.frame 1).direct ≡ true
  pub stable : AllStable read_before direct_while_lost (direct_while_lost.frame 1).version
  pub read : IsRead read_before (write_direct direct_while_lost 1) 1
  pub breaks : Coherent read_before (write_direct direct_while_lost 1) → ⊥

-- ---- redo compares numbers

-- a change that replaces the bytes
abbrev pub replaced : Patch
replaced content c = c.bytes

abbrev pub first_change : Change
first_change = record { lrsn = 1; member = 1; bytes = 7 ∷ [] }

abbrev pub second_change : Change
second_change = record { lrsn = 2; member = 2; bytes = 8 ∷ [] }

-- the group's copy has a change of another member after the own one: redo of the own log without comparison would apply the own one again
pub record ComparisonIsNeeded : Type 0 where
  pub rise : Rise 0 (first_change ∷ second_change ∷ [])
  pub own_log : filter (is_of 1) (first_change ∷ second_change ∷ []) ≡ first_change ∷ []
  pub breaks : page_after replaced (page_after replaced zeros (first_change ∷ second_change ∷ [])) (first_change ∷ []) ≢ page_after replaced zeros (first_change ∷ second_change ∷ [])

-- ---- a page is written only after each page that it points to

-- member 1 has changed two pages, and the second change of page 0 points to the second change of page 1
abbrev pub both_in_hand : World
both_in_hand = record { down = false; group = all_up_with 2 2; pages = λ n. in_hand }

abbrev pub one_link : Links
one_link n i = if (n == 0) && (i == 1) then Some (record { page = 1; change = 1 }) else None

pub record OrderIsNeeded : Type 0 where
  pub good : Good both_in_hand
  pub linked : Linked one_link both_in_hand
  pub marked : ((both_in_hand.pages 0).frame 1).marked ≡ true
  pub stable : AllStable both_in_hand.group (both_in_hand.pages 0) ((both_in_hand.pages 0).frame 1).version
  pub breaks : Linked one_link (record both_in_hand { pages = put both_in_hand.pages 0 (write in_hand 1) }) → ⊥

-- ---- a page set is taken as sole user only where no other has frames of it

-- member 2 has the shared version in a registered frame; a sole user's write to disk would leave it as it is
abbrev pub valid_elsewhere : Page
valid_elsewhere = record in_hand {
  last = 1;
  disk = 1;
  bytes = None;
  changed = false;
  written_since = false;
  bit = put (λ k. false) 2 true;
  frame = put (λ k. unfilled 0 false) 2 (holding 1);
  owner = None;
}

pub record UnusedIsNeeded : Type 0 where
  pub coherent : Coherent (all_up_with 2 2) valid_elsewhere
  pub free : valid_elsewhere.owner ≡ None
  pub breaks : Coherent (all_up_with 2 2) (owned_whole valid_elsewhere 1) → ⊥

-- ---- a member opens only when its forward recovery has ended

-- member 1 failed with a change that isn't shared, and is restarting
abbrev pub to_recover : Page
to_recover = record in_hand {
  bit = put (λ k. false) 2 true;
  frame = put (λ k. unfilled 0 false) 2 (holding 1);
}

abbrev pub one_restarting : Group
one_restarting = restarting (all_up_with 2 2) 1

pub record RecoveryIsNeeded : Type 0 where
  pub coherent : Coherent one_restarting to_recover
  pub breaks : Coherent (opened one_restarting 1) to_recover → ⊥
