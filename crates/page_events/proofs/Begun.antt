-- A new event begins: what holds of the member, and of what is wanted.
use Rattle.std.proofs.Common.{◌≡◌, ℕ, zero, suc, refl, sym, ap, subst, ◌∙◌, List, [], ◌∷◌, slice_set, Option, Some, None}
use Rattle.std.specs.Prelude.{slice_index_or}
use Rattle.ds_base.specs.declared.names.PageId.{PageId}
use Rattle.ds_model.specs.declared.lock.Name.{Name}
use Rattle.ds_model.specs.declared.lock.Name.TheVariants as name
use Rattle.lock_names.specs.declared.mode.Mode.{Mode}
use Rattle.page_plans.specs.declared.action.Action.{Action}
use Rattle.page_plans.specs.declared.action.Action.TheVariants as action
use Rattle.page_plans.specs.Names.{action_page}
use Rattle.member_intents.specs.declared.intent.Frames.{Frames}
use Rattle.member_intents.specs.declared.outcome.Sent.{Sent}
use Rattle.member_trans.specs.declared.fate.Owner.{Owner}
use Rattle.member_trans.specs.declared.fate.Owner.TheVariants as owner
use Rattle.member_trans.specs.Trans.{TranState, free_tran, is_forward, with_room}
use Rattle.member_needs.specs.Records.{frame_of, place_by}
use Rattle.needs_law.specs.Lawful.{Appends, Changes, Commits, FillsFrame, FreesFrame, HoldsNth, HoldsPage, MayChange, MayClaim, MayGive, ReadsFrame, TestsFrame, Undoes, WritesFrame}
use Rattle.member_resources.specs.Events.{Drive}
use Rattle.member_resources.specs.Held.{Held, begun, with_spare}
use Rattle.member_resources.specs.Prepared.{with_change_room}
use Rattle.member_resources.specs.Settled.{kept_of}
use Rattle.page_protocol.specs.Moves.{World}
use Rattle.page_world.specs.Holdings.{Holdings}
use Rattle.page_intents.specs.Castouts.{HasCast}
use Rattle.page_intents.specs.Stands.{IsUp}
use Rattle.page_events.proofs.Made.{Now, cast_stays}

-- ---- the member
up_begun : (g : Holdings) (forced : ℕ → ℕ) (h : Held) (place : ℕ) → IsUp g forced (kept_of h) → IsUp g forced (kept_of (begun h place))
up_begun g forced h place up = record {
  least = up.least;
  among = up.among;
  up = up.up;
  log = up.log;
  last = up.last;
  pending = up.pending;
  apart = up.apart;
  each = up.each;
  copies = up.copies;
  owns = up.owns;
  no_more = up.no_more;
}

up_spare : (g : Holdings) (forced : ℕ → ℕ) (h : Held) (n : ℕ) → IsUp g forced (kept_of h) → IsUp g forced (kept_of (with_spare h n))
up_spare g forced h n up = record {
  least = up.least;
  among = up.among;
  up = up.up;
  log = up.log;
  last = up.last;
  pending = up.pending;
  apart = up.apart;
  each = up.each;
  copies = up.copies;
  owns = up.owns;
  no_more = up.no_more;
}

up_room : (g : Holdings) (forced : ℕ → ℕ) (h : Held) (slot : ℕ) → IsUp g forced (kept_of h) → IsUp g forced (kept_of (with_change_room h slot))
up_room g forced h slot up = record {
  least = up.least;
  among = up.among;
  up = up.up;
  log = up.log;
  last = up.last;
  pending = up.pending;
  apart = up.apart;
  each = up.each;
  copies = up.copies;
  owns = up.owns;
  no_more = up.no_more;
}

now_with : (w : World) (g : Holdings) (content : ℕ → ℕ → List ℕ) (forced : ℕ → ℕ) (h k : Held) (d : Drive) → Now w g content forced h d → IsUp g forced (kept_of k) → k.marks.member ≡ h.marks.member → k.cast ≡ h.cast → k.buffer ≡ h.buffer → Now w g content forced k d
now_with w g content forced h k d b up member cast buffer = record {
  begins = record { good = b.begins.good; tied = b.begins.tied; numbered = b.begins.numbered; sound = b.begins.sound; up = up };
  drive = b.drive;
  cast = subst (λ m. HasCast g m k.cast k.buffer) (sym member) (cast_stays g h.marks.member h.cast k.cast h.buffer k.buffer cast buffer b.cast);
}

pub now_begun : (w : World) (g : Holdings) (content : ℕ → ℕ → List ℕ) (forced : ℕ → ℕ) (h : Held) (place : ℕ) (d : Drive) → Now w g content forced h d → Now w g content forced (begun h place) d
now_begun w g content forced h place d b = now_with w g content forced h (begun h place) d b (up_begun g forced h place b.begins.up) refl refl refl

pub now_spare : (w : World) (g : Holdings) (content : ℕ → ℕ → List ℕ) (forced : ℕ → ℕ) (h : Held) (n : ℕ) (d : Drive) → Now w g content forced h d → Now w g content forced (with_spare h n) d
now_spare w g content forced h n d b = now_with w g content forced h (with_spare h n) d b (up_spare g forced h n b.begins.up) refl refl refl

pub now_room : (w : World) (g : Holdings) (content : ℕ → ℕ → List ℕ) (forced : ℕ → ℕ) (h : Held) (slot : ℕ) (d : Drive) → Now w g content forced h d → Now w g content forced (with_change_room h slot) d
now_room w g content forced h slot d b = now_with w g content forced h (with_change_room h slot) d b (up_room g forced h slot b.begins.up) refl refl refl

-- ---- what is wanted is lawful still
abbrev pub reads_on : (h : Held) (place at : ℕ) (out : Sent) (x : ReadsFrame h.marks at out) → ReadsFrame (begun h place).marks at out
reads_on h place at out x = record { page = x.page; placed = x.placed; is = x.is }

abbrev pub fills_on : (h : Held) (place at : ℕ) (out : Sent) (x : FillsFrame h.marks at out) → FillsFrame (begun h place).marks at out
fills_on h place at out x = record { page = x.page; placed = x.placed; registered = x.registered; unfilled = x.unfilled; is = x.is }

gives_on : (h : Held) (place : ℕ) (page : PageId) (slot : ℕ) (gives : Option ℕ) → MayGive h.marks page slot gives → MayGive (begun h place).marks page slot gives
gives_on h place page slot None x = tt
gives_on h place page slot (Some table) x = record { forward = x.forward; header = x.header; claimed = x.claimed }

pub tests_on : (h : Held) (place at slot : ℕ) (gives : Option ℕ) (out : Sent) → TestsFrame h.marks at slot gives out → TestsFrame (begun h place).marks at slot gives out
tests_on h place at slot gives out x = record { page = x.page; placed = x.placed; filled = x.filled; may = gives_on h place x.page slot gives x.may; is = x.is }

abbrev pub writes_on : (h : Held) (place at : ℕ) (out : Sent) (x : WritesFrame h.marks h.pages at out) → WritesFrame (begun h place).marks h.pages at out
writes_on h place at out x = record { page = x.page; placed = x.placed; changed = x.changed; stable = x.stable; first = x.first; is = x.is }

pub frees_on : (h : Held) (place at : ℕ) (out : Sent) → FreesFrame h.marks at out → FreesFrame (begun h place).marks at out
frees_on h place at out x = record { page = x.page; placed = x.placed; unchanged = x.unchanged; unpinned = x.unpinned; unclaimed = x.unclaimed; is = x.is }

pub appends_on : (h : Held) (place : ℕ) (out : Sent) → Appends h.marks out → Appends (begun h place).marks out
appends_on h place out x = record { pending = x.pending; is = x.is }

pub commits_on : (h : Held) (place slot : ℕ) (out : Sent) → Commits h.marks slot out → Commits (begun h place).marks slot out
commits_on h place slot out x = record { may = record { forward = x.may.forward; below = x.may.below }; room = x.room; is = x.is }

holds_on : (h : Held) (place at : ℕ) (page : PageId) → HoldsPage h.marks at page → HoldsPage (begun h place).marks at page
holds_on h place at page x = record { own = x.own; placed = x.placed; same = x.same; claimed = x.claimed; filled = x.filled }

pub undoes_on : (h : Held) (place : ℕ) (o : Owner) (at : ℕ) (out : Sent) → Undoes h.marks o at out → Undoes (begun h place).marks o at out
undoes_on h place (owner.Slot slot) at out x = record {
  newest = x.newest;
  undoing = x.undoing;
  stands = x.stands;
  holds = holds_on h place at _ x.holds;
  row = record { row = x.row.row; space = x.row.space };
  below = x.below;
  room = x.room;
  is = x.is;
}
undoes_on h place (owner.Rollback id) at out x = record {
  newest = x.newest;
  undoing = x.undoing;
  stands = x.stands;
  holds = holds_on h place at _ x.holds;
  row = record { row = x.row.row; space = x.row.space };
  below = x.below;
  room = x.room;
  is = x.is;
}

-- ---- of a change, with room for it
holds_nth : (h : Held) (slot place : ℕ) (o : Option ℕ) (page : Option PageId) → HoldsNth h.marks o page → HoldsNth (begun (with_change_room h slot) place).marks o page
holds_nth h slot place None None x = tt
holds_nth h slot place None (Some page) x = absurd x
holds_nth h slot place (Some at) None x = absurd x
holds_nth h slot place (Some at) (Some page) x = record { own = x.own; placed = x.placed; same = x.same; claimed = x.claimed; filled = x.filled }

may_on : (h : Held) (slot place : ℕ) (a : Action) → MayChange h.marks slot a → MayChange (begun (with_change_room h slot) place).marks slot a
may_on h slot place (action.RowChange table key at value) x = record { row = x.row; space = x.space }
may_on h slot place (action.GiveSlot table key leaf) x = record { row = x.row; space = x.space }
may_on h slot place (action.FormatIndex table) x = tt
may_on h slot place (action.FormatHeap table) x = tt
may_on h slot place (action.Split table left) x = tt
may_on h slot place (action.BranchEntry table branch low child) x = tt

same_stage : (xs : List TranState) (slot : ℕ) → (slice_index_or (slice_set xs slot (with_room (slice_index_or xs slot free_tran))) slot free_tran).stage ≡ (slice_index_or xs slot free_tran).stage
same_stage [] slot = refl
same_stage (x ∷ xs) zero = refl
same_stage (x ∷ xs) (suc slot) = same_stage xs slot

pub changes_on : (h : Held) (place most slot : ℕ) (a : Action) (frames : Frames) (out : Sent) → Changes h.marks h.pages most slot a frames out → Changes (begun (with_change_room h slot) place).marks h.pages most slot a frames out
changes_on h place most slot a frames out x = record {
  may = record { forward = ap is_forward (same_stage h.marks.trans.slots slot) ∙ x.may.forward; below = x.may.below };
  row = may_on h slot place a x.row;
  holds = record {
    some = x.holds.some;
    first = holds_nth h slot place (frame_of frames 0) (action_page a 0 (place_by h.pages most a frames)) x.holds.first;
    second = holds_nth h slot place (frame_of frames 1) (action_page a 1 (place_by h.pages most a frames)) x.holds.second;
    third = holds_nth h slot place (frame_of frames 2) (action_page a 2 (place_by h.pages most a frames)) x.holds.third;
  };
  is = x.is;
}

-- ---- of a lock, with room for its claim
pub claims_on : (h : Held) (spare place : ℕ) (o : Owner) (n : Name) (m : Mode) → MayClaim h.marks o n m → MayClaim (begun (with_spare h spare) place).marks o n m
claims_on h spare place (owner.Slot slot) (name.Space table) m x = record { forward = x.forward; joined = x.joined }
claims_on h spare place (owner.Rollback id) (name.Space table) m x = absurd x
claims_on h spare place (owner.Slot slot) (name.Row table key) m x = record { forward = x.forward; joined = x.joined }
claims_on h spare place (owner.Rollback id) (name.Row table key) m x = absurd x
claims_on h spare place o (name.Page page) m x = record { in_x = x.in_x; room = x.room }
claims_on h spare place o (name.Set number) m x = absurd x
