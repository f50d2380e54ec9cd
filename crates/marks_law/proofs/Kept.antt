-- What a change of the marks leaves: the claims, and which slots have transactions.
use Rattle.std.proofs.Common.{◌≡◌, ℕ, ◌+◌, length, refl, sym, ◌∙◌, ap, subst, Bool, true, false}
use Rattle.std.specs.Prelude.{if◌then◌else◌, slice_index_or}
use Rattle.std.proofs.lemmas.Bool.{cond_both}
use Rattle.lock_manager.specs.Managers.{Book}
use Rattle.member_pool.specs.Heads.{HeadState}
use Rattle.member_log.specs.Buffers.{LogBuffer}
use Rattle.member_trans.specs.Trans.{TransState, free_tran, is_free}
use Rattle.member_marks.specs.Names.{NameSet}
use Rattle.member_marks.specs.State.{MarksState, with_heads, with_kept, with_locks, with_trans}
use Rattle.marks_law.specs.Free.{FreeHoldNothing}
use Rattle.marks_law.specs.Slots.{AreSlots, has_own}
use Rattle.marks_law.specs.Transactions.{TransStay}
use Rattle.marks_law.proofs.Free.{FreesNone, LeavesNone, free_left, left_same}
use Rattle.marks_law.proofs.Staying.{stay_itself, stay_on}

pub record Kept (s t : MarksState) : Type 0 where
  pub locks : t.locks ≡ s.locks
  pub member : t.member ≡ s.member
  pub slots : AreSlots s.trans s.locks.agents → AreSlots t.trans s.locks.agents
  pub frees : FreesNone s.trans t.trans
  pub stays : TransStay s.trans t.trans

pub kept_itself : (s : MarksState) → Kept s s
kept_itself s = record { locks = refl; member = refl; slots = λ h. h; frees = λ slot f. f; stays = stay_itself s.trans }

pub kept_as : (s t u : MarksState) → t ≡ u → Kept s u → Kept s t
kept_as s t u e k = subst (λ z. Kept s z) (sym e) k

pub kept_on : (s t u : MarksState) → Kept s t → Kept t u → Kept s u
kept_on s t u a b = record {
  locks = b.locks ∙ a.locks;
  member = b.member ∙ a.member;
  slots = λ h. subst (λ (z : Book). AreSlots u.trans z.agents) a.locks (b.slots (subst (λ (z : Book). AreSlots t.trans z.agents) (sym a.locks) (a.slots h)));
  frees = λ slot f. a.frees slot (b.frees slot f);
  stays = stay_on s.trans t.trans u.trans a.stays b.stays;
}

pub kept_if : (s x y : MarksState) (b : Bool) → (b ≡ true → Kept s x) → (b ≡ false → Kept s y) → Kept s (if b then x else y)
kept_if s x y b p q = cond_both b x y (λ z. Kept s z) p q

-- ---- one part is changed
pub kept_heads : (s : MarksState) (h : HeadState) → Kept s (with_heads s h)
kept_heads s h = record { locks = refl; member = refl; slots = λ a. a; frees = λ slot f. f; stays = stay_itself s.trans }

pub kept_names : (s : MarksState) (k : NameSet) → Kept s (with_kept s k)
kept_names s k = record { locks = refl; member = refl; slots = λ a. a; frees = λ slot f. f; stays = stay_itself s.trans }

pub kept_trans : (s : MarksState) (t : TransState) → (AreSlots s.trans s.locks.agents → AreSlots t s.locks.agents) → FreesNone s.trans t → TransStay s.trans t → Kept s (with_trans s t)
kept_trans s t a frees stays = record { locks = refl; member = refl; slots = a; frees = frees; stays = stays }

pub kept_logged : (s : MarksState) (l : LogBuffer) (t : TransState) → (AreSlots s.trans s.locks.agents → AreSlots t s.locks.agents) → FreesNone s.trans t → TransStay s.trans t → Kept s (record s { log = l; trans = t })
kept_logged s l t a frees stays = record { locks = refl; member = refl; slots = a; frees = frees; stays = stays }

-- the transactions stay, but for what this event has made of them
pub same_slots : (t u : TransState) (agents : ℕ) → AreSlots t agents → u.slots ≡ t.slots → u.commits ≡ t.commits → AreSlots u agents
same_slots t u agents h slots commits = record {
  count = subst (λ z. length z ≡ agents + 1) (sym slots) h.count;
  own = subst (λ z. is_free (slice_index_or z 0 free_tran).stage ≡ true) (sym slots) h.own;
  commits = subst (λ z. has_own z ≡ false) (sym commits) h.commits;
}

-- ---- where claims may change, too
pub record Stands (s t : MarksState) : Type 0 where
  pub agents : t.locks.agents ≡ s.locks.agents
  pub slots : AreSlots s.trans s.locks.agents → AreSlots t.trans s.locks.agents
  pub free : FreeHoldNothing s → FreeHoldNothing t

pub stands_kept : (s t : MarksState) → Kept s t → Stands s t
stands_kept s t k = record { agents = ap (λ (b : Book). b.agents) k.locks; slots = k.slots; free = free_left s t (left_same s t.locks k.locks) k.frees }

pub stands_itself : (s : MarksState) → Stands s s
stands_itself s = record { agents = refl; slots = λ h. h; free = λ h. h }

pub stands_as : (s t u : MarksState) → t ≡ u → Stands s u → Stands s t
stands_as s t u e k = subst (λ z. Stands s z) (sym e) k

pub stands_if : (s x y : MarksState) (b : Bool) → (b ≡ true → Stands s x) → (b ≡ false → Stands s y) → Stands s (if b then x else y)
stands_if s x y b p q = cond_both b x y (λ z. Stands s z) p q

pub stands_locks : (s : MarksState) (b : Book) → LeavesNone s b → Stands s (with_locks s b)
stands_locks s b left = record { agents = left.agents; slots = λ h. h; free = free_left s (with_locks s b) left (λ slot f. f) }

pub stands_slots : (s t : MarksState) → Stands s t → AreSlots s.trans s.locks.agents → AreSlots t.trans t.locks.agents
stands_slots s t k h = subst (λ z. AreSlots t.trans z) (sym k.agents) (k.slots h)
