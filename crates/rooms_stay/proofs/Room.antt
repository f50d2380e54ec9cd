-- What a change of the marks leaves of the numbers of frames and slots.
use Rattle.std.proofs.Common.{◌≡◌, length, refl, sym, ◌∙◌, subst, Bool}
use Rattle.std.specs.Prelude.{if◌then◌else◌}
use Rattle.std.proofs.lemmas.Bool.{cond_both}
use Rattle.lock_manager.specs.Managers.{Book}
use Rattle.member_pool.specs.Heads.{HeadState}
use Rattle.member_log.specs.Buffers.{LogBuffer}
use Rattle.member_trans.specs.Trans.{TransState}
use Rattle.member_marks.specs.Names.{NameSet}
use Rattle.member_marks.specs.State.{MarksState, with_heads, with_kept, with_locks, with_trans}
use Rattle.rooms_stay.specs.Rooms.{SameRoom}

pub itself : (s : MarksState) → SameRoom s s
itself s = record { frames = refl; slots = refl }

pub moved_to : (s t u : MarksState) → t ≡ u → SameRoom s u → SameRoom s t
moved_to s t u e k = subst (λ z. SameRoom s z) (sym e) k

pub on : (s t u : MarksState) → SameRoom s t → SameRoom t u → SameRoom s u
on s t u a b = record { frames = b.frames ∙ a.frames; slots = b.slots ∙ a.slots }

pub if_so : (s x y : MarksState) (b : Bool) → SameRoom s x → SameRoom s y → SameRoom s (if b then x else y)
if_so s x y b p q = cond_both b x y (λ z. SameRoom s z) (λ e. p) (λ e. q)

-- ---- one part is changed
pub of_locks : (s : MarksState) (b : Book) → SameRoom s (with_locks s b)
of_locks s b = record { frames = refl; slots = refl }

pub of_names : (s : MarksState) (k : NameSet) → SameRoom s (with_kept s k)
of_names s k = record { frames = refl; slots = refl }

pub of_heads : (s : MarksState) (h : HeadState) → length h.frames ≡ length s.heads.frames → SameRoom s (with_heads s h)
of_heads s h e = record { frames = e; slots = refl }

pub of_trans : (s : MarksState) (t : TransState) → length t.slots ≡ length s.trans.slots → SameRoom s (with_trans s t)
of_trans s t e = record { frames = refl; slots = e }

pub of_log : (s : MarksState) (l : LogBuffer) (t : TransState) → length t.slots ≡ length s.trans.slots → SameRoom s (record s { log = l; trans = t })
of_log s l t e = record { frames = refl; slots = e }

-- where the claims are others, too
pub of_both : (s : MarksState) (b : Book) (t : TransState) → length t.slots ≡ length s.trans.slots → SameRoom s (record s { locks = b; trans = t })
of_both s b t e = record { frames = refl; slots = e }
