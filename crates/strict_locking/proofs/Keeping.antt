-- Rows that stay locked, where transactions stay and claims are still covered.
use Rattle.std.proofs.Common.{◌≡◌, ℕ, refl, sym, ◌∙◌, ap, subst, inl, inr, Bool, true, false}
use Rattle.std.specs.Prelude.{◌≢◌, ◌⊎◌, ◌&&◌, nat_le, nat_lt, if◌then◌else◌}
use Rattle.std.proofs.lemmas.Bool.{cond_both}
use Rattle.ds_model.specs.Rows.{Spot}
use Rattle.lock_names.specs.declared.mode.Mode.{Mode}
use Rattle.lock_names.specs.declared.mode.Mode.TheVariants.{IX, X}
use Rattle.lock_manager.specs.Managers.{Book}
use Rattle.member_trans.specs.declared.fate.Owner.{Owner}
use Rattle.member_trans.specs.declared.fate.Owner.TheVariants as owner
use Rattle.member_trans.specs.Trans.{TransState}
use Rattle.member_marks.specs.State.{MarksState, slot_tran, with_trans}
use Rattle.marks_law.specs.Transactions.{TransStay}
use Rattle.lock_protocol.specs.Machine.{Covers}
use Rattle.lock_world.specs.Books.{IsBook}
use Rattle.lock_world.specs.Rollbacks.{row_of, space_of}
use Rattle.lock_world.specs.Views.{claim_in, rollback_owner}
use Rattle.strict_locking.specs.Keeping.{KeepsAll, KeepsOpen}
use Rattle.strict_locking.specs.Rows.{HasLocked, IsTaken, name_of, number_of}

-- each claim stays, or is in a mode that needs nothing more for what it covered
abbrev pub CoversStay : Book → Book → Type 0
CoversStay a b = (o c : ℕ) (x : Mode) → Covers (claim_in a o c) x → Covers (claim_in b o c) x

pub record Stays (s t : MarksState) : Type 0 where
  pub book : IsBook t.locks
  pub agents : t.locks.agents ≡ s.locks.agents
  pub trans : TransStay s.trans t.trans
  pub covers : CoversStay s.locks t.locks

pub renamed : (old now id : ℕ) → (now ≡ old) ⊎ (old ≡ 0) → old ≡ id → id ≢ 0 → now ≡ id
renamed old now id how is ne = elim how [
  | inl same ↦ same ∙ is
  | inr none ↦ absurd (ne (sym is ∙ none))
]

locked_by : (s t : MarksState) → Stays s t → (id : ℕ) (spot : Spot) → id ≢ 0 → (o : Owner) → IsTaken s o → name_of s o ≡ id
    → Covers (claim_in s.locks (number_of o) (space_of spot)) IX → Covers (claim_in s.locks (number_of o) (row_of spot)) X → HasLocked t id spot
locked_by s t stays id spot ne (owner.Slot slot) taken named space row =
    let goes = stays.trans.slots slot taken.1 in record {
      by = owner.Slot slot;
      taken = (subst (λ (z : ℕ). (nat_lt 0 slot && nat_le slot z) ≡ true) (sym stays.agents) taken.0, goes.there);
      named = renamed (slot_tran s slot).first (slot_tran t slot).first id goes.named named ne;
      space = stays.covers slot (space_of spot) IX space;
      row = stays.covers slot (row_of spot) X row;
    }
locked_by s t stays id spot ne (owner.Rollback other) taken named space row = record {
  by = owner.Rollback other;
  taken = stays.trans.rollbacks other taken;
  named = named;
  space = stays.covers (rollback_owner other) (space_of spot) IX space;
  row = stays.covers (rollback_owner other) (row_of spot) X row;
}

pub keeps_all : (s t : MarksState) → Stays s t → KeepsAll s t
keeps_all s t stays = record { book = stays.book; rows = λ id spot ne l. locked_by s t stays id spot ne l.by l.taken l.named l.space l.row }

-- ---- one after the other
pub all_on : (s t u : MarksState) → KeepsAll s t → KeepsAll t u → KeepsAll s u
all_on s t u a b = record { book = b.book; rows = λ id spot ne l. b.rows id spot ne (a.rows id spot ne l) }

pub open_on : (s t u : MarksState) → KeepsOpen s t → KeepsAll t u → KeepsOpen s u
open_on s t u a b = record { book = b.book; rows = λ id spot ne l over. b.rows id spot ne (a.rows id spot ne l over) }

pub open_all : (s t : MarksState) → KeepsAll s t → KeepsOpen s t
open_all s t a = record { book = a.book; rows = λ id spot ne l over. a.rows id spot ne l }

pub all_as : (s t u : MarksState) → t ≡ u → KeepsAll s u → KeepsAll s t
all_as s t u e a = subst (λ z. KeepsAll s z) (sym e) a

pub open_as : (s t u : MarksState) → t ≡ u → KeepsOpen s u → KeepsOpen s t
open_as s t u e a = subst (λ z. KeepsOpen s z) (sym e) a

pub all_if : (s x y : MarksState) (b : Bool) → (b ≡ true → KeepsAll s x) → (b ≡ false → KeepsAll s y) → KeepsAll s (if b then x else y)
all_if s x y b p q = cond_both b x y (λ z. KeepsAll s z) p q

-- ---- claims or transactions stay
pub same_covers : (a b : Book) → b ≡ a → CoversStay a b
same_covers a b e o c x h = subst (λ (z : Book). Covers (claim_in z o c) x) (sym e) h

pub all_itself : (s : MarksState) → IsBook s.locks → KeepsAll s s
all_itself s book = record { book = book; rows = λ id spot ne l. l }

-- the lock manager is the same
pub all_locks : (s t : MarksState) → IsBook s.locks → t.locks ≡ s.locks → TransStay s.trans t.trans → KeepsAll s t
all_locks s t book same trans = keeps_all s t (record {
  book = subst (λ z. IsBook z) (sym same) book;
  agents = ap (λ (z : Book). z.agents) same;
  trans = trans;
  covers = same_covers s.locks t.locks same;
})

pub all_trans : (s : MarksState) (x : TransState) → IsBook s.locks → TransStay s.trans x → KeepsAll s (with_trans s x)
all_trans s x book trans = keeps_all s (with_trans s x) (record { book = book; agents = refl; trans = trans; covers = λ o c m h. h })
