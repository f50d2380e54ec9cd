-- The intents that draw a number for a log record, of a member that is up.
use Rattle.std.specs.Prelude.{◌≡◌, ℕ, ◌+◌, ◌==◌, Bool, true, false, ◌&&◌, ◌||◌, List, [], ◌∷◌, Option, Some, None}
use Rattle.page_format.specs.Fields.{lrsn_of}
use Rattle.facility.specs.declared.command.Reply.TheVariants as reply
use Rattle.facility.specs.States.{Held}
use Rattle.facility.specs.Counting.{DrawsNumber, DrawsUndo}
use Rattle.page_plans.specs.declared.action.Action.{Action}
use Rattle.member_intents.specs.declared.intent.Frames.{Frames}
use Rattle.member_intents.specs.declared.outcome.Sent.{Sent}
use Rattle.member_trans.specs.declared.fate.Owner.{Owner}
use Rattle.member_trans.specs.Trans.{newest_of}
use Rattle.member_marks.specs.State.{MarksState, tran_of}
use Rattle.member_marks.specs.Records.{fits_in, may_change, may_undo_as, may_commit}
use Rattle.member_needs.specs.declared.plans.Plan.{Plan}
use Rattle.member_needs.specs.declared.plans.Plan.TheVariants as plan
use Rattle.member_needs.specs.Records.{frame_of, indexes_of}
use Rattle.member_effects.specs.Kept.{Kept}
use Rattle.member_effects.specs.Changes.{bytes_at, with_marks, system_record, drawn_after, undone_after, committed_after}
use Rattle.needs_law.specs.Lawful.{Changes, Undoes, Commits}
use Rattle.page_protocol.specs.Page.{put}
use Rattle.page_protocol.specs.Moves.{World}
use Rattle.page_world.specs.Holdings.{Holdings}
use Rattle.page_world.specs.Draws.{content_behind}
use Rattle.page_intents.specs.Stands.{copy_of, behind, Goes}
use Rattle.page_intents.specs.Frames.{Begins}

-- ---- the frames that a change is made in

abbrev pub is_frame : Option ℕ → ℕ → Bool
is_frame None q = false
is_frame (Some at) q = at == q

abbrev pub in_frames : Frames → ℕ → Bool
in_frames frames q = (is_frame (frame_of frames 0) q || is_frame (frame_of frames 1) q) || is_frame (frame_of frames 2) q

abbrev pub changes_in : Plan → Frames → ℕ → Bool
changes_in plan.None frames q = false
changes_in (plan.System patches) frames q = in_frames frames q
changes_in (plan.Row c) frames q = is_frame (frame_of frames 0) q
changes_in (plan.Back c) frames q = false
changes_in (plan.Fault page at) frames q = false

-- by page: whether it lies in one of these
abbrev pub touched_in : Holdings → ℕ → (ℕ → Bool) → ℕ → Bool
touched_in g m is n = (g.copies m n).placed && is (g.copies m n).index

-- ---- what is left

abbrev pub new_bytes : Kept → ℕ → List ℕ
new_bytes t n = (copy_of t.marks.heads t.pages n).bytes

abbrev pub drawn_behind : Holdings → Held → ℕ → Kept → Holdings
drawn_behind g v m t = record (behind g v m t) { written = put g.written m (g.written m + 1) }

-- ---- a change

-- the plan is a change, and its record is put
abbrev pub IsPut : MarksState → ℕ → Plan → ℕ → Type 0
IsPut s slot plan.None number = ⊥
IsPut s slot (plan.System patches) number = fits_in s.log (system_record patches number) ≡ true
IsPut s slot (plan.Row c) number = may_change s slot number c ≡ true
IsPut s slot (plan.Back c) number = ⊥
IsPut s slot (plan.Fault page at) number = ⊥

-- the pages that it leaves show its number
abbrev pub ShowNumber : Kept → (ℕ → Bool) → ℕ → Type 0
ShowNumber t is number = (q : ℕ) → is q ≡ true → lrsn_of (bytes_at t.pages q) ≡ number

-- where the number was drawn
abbrev pub ChangeGoes : Type 0
ChangeGoes = (w : World) (g : Holdings) (content : ℕ → ℕ → List ℕ) (forced : ℕ → ℕ) (k : Kept) (most slot : ℕ) (a : Action) (frames : Frames) (p : Plan) (number place : ℕ) (out : Sent) (v : Held)
    → Begins w g content forced k → Changes k.marks k.pages most slot a frames out → IsPut k.marks slot p number → ShowNumber (drawn_after k slot frames p (reply.Drawn number) place) (changes_in p frames) number
    → DrawsNumber g.facility k.marks.member (indexes_of frames) (reply.Drawn number) v
    → Goes w (content_behind w (touched_in g k.marks.member (changes_in p frames)) (new_bytes (drawn_after k slot frames p (reply.Drawn number) place)) content) forced
    (drawn_behind g v k.marks.member (drawn_after k slot frames p (reply.Drawn number) place)) k.marks (drawn_after k slot frames p (reply.Drawn number) place)

-- ---- a change is taken back

-- the plan is the inverse of the newest change, and its record is put, with one behind the last
abbrev pub IsPutBack : MarksState → Owner → Plan → ℕ → Type 0
IsPutBack s o plan.None number = ⊥
IsPutBack s o (plan.System patches) number = ⊥
IsPutBack s o (plan.Row c) number = ⊥
IsPutBack s o (plan.Back c) number = may_undo_as s o number (newest_of (tran_of s o)) ≡ true
IsPutBack s o (plan.Fault page at) number = ⊥

abbrev pub UndoGoes : Type 0
UndoGoes = (w : World) (g : Holdings) (content : ℕ → ℕ → List ℕ) (forced : ℕ → ℕ) (k : Kept) (o : Owner) (at : ℕ) (p : Plan) (number place : ℕ) (out : Sent) (v : Held)
    → Begins w g content forced k → Undoes k.marks o at out → IsPutBack k.marks o p number → ShowNumber (undone_after k o at p (reply.Drawn number) place) (is_frame (Some at)) number
    → DrawsUndo g.facility k.marks.member (record { count = 1; at = at ∷ 0 ∷ 0 ∷ [] }) (reply.Drawn number) v
    → Goes w (content_behind w (touched_in g k.marks.member (is_frame (Some at))) (new_bytes (undone_after k o at p (reply.Drawn number) place)) content) forced
    (drawn_behind g v k.marks.member (undone_after k o at p (reply.Drawn number) place)) k.marks (undone_after k o at p (reply.Drawn number) place)

-- ---- a commit

abbrev pub CommitGoes : Type 0
CommitGoes = (w : World) (g : Holdings) (content : ℕ → ℕ → List ℕ) (forced : ℕ → ℕ) (k : Kept) (slot number place : ℕ) (out : Sent) (v : Held)
    → Begins w g content forced k → Commits k.marks slot out → may_commit k.marks slot number ≡ true
    → DrawsNumber g.facility k.marks.member (record { count = 0; at = 0 ∷ 0 ∷ 0 ∷ [] }) (reply.Drawn number) v
    → Goes w content forced (drawn_behind g v k.marks.member (with_marks k (committed_after k.marks slot (reply.Drawn number) place))) k.marks (with_marks k (committed_after k.marks slot (reply.Drawn number) place))
