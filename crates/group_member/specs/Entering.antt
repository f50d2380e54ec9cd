-- How the fates of a member's transactions are entered that its event has decided, refused or answered.
use Rattle.std.specs.Prelude.{◌≡◌, ◌⊎◌, ℕ, false, List, [], ◌∷◌, Option, Some, None}
use Rattle.ds_model.specs.declared.fate.Answer.{Answer}
use Rattle.ds_model.specs.declared.fate.Fate.TheVariants as fate
use Rattle.member_trans.specs.declared.fate.Owner.TheVariants as owner
use Rattle.member_trans.specs.declared.fate.Refused.{Refused}
use Rattle.member_marks.specs.State.{MarksState, id_of, with_trans}
use Rattle.member_resources.specs.Held.{Held, with_marks}
use Rattle.tran_history.specs.Histories.{after_answer}
use Rattle.script_fates.specs.Fated.{FatesState, Fixes, Refuses}
use Rattle.group_member.specs.Members.{Member}

-- the transaction of this number has committed, with what it has read
pub record CommitsOne (number : ℕ) (old new : FatesState) : Type 0 where
  pub reads : List Answer
  pub fixes : Fixes old number (fate.Committed false reads) new

-- so have those of these slots, in this order
abbrev pub Commits : MarksState → List ℕ → FatesState → FatesState → Type 0
Commits s [] old new = new ≡ old
Commits s (slot ∷ slots) old new = (mid : FatesState) × CommitsOne (id_of s (owner.Slot slot)).number old mid × Commits s slots mid new

abbrev pub RefusesOne : Option Refused → FatesState → FatesState → Type 0
RefusesOne None old new = new ≡ old
RefusesOne (Some r) old new = Refuses old r.number r.refusal r.place new

abbrev pub AnswersOne : Option ℕ → FatesState → FatesState → Type 0
AnswersOne None old new = new ≡ old
AnswersOne (Some n) old new = (new ≡ old) ⊎ (new ≡ record old { entries = after_answer old.entries n })

-- what is told of them is told once
abbrev pub told_once : Held → Held
told_once h = with_marks h (with_trans h.marks (record h.marks.trans { refused = None; answered = None }))

-- First those commit that the event has decided, in the order of the log; then the one that it has refused is refused, and the one
-- that has come to its end is answered.
pub record Enters (m : Member) (f : FatesState) (n : Member) (g : FatesState) : Type 0 where
  pub committed : FatesState
  pub refused : FatesState
  pub commits : Commits m.holds.marks m.holds.marks.trans.decided f committed
  pub refuses : RefusesOne m.holds.marks.trans.refused committed refused
  pub answers : AnswersOne m.holds.marks.trans.answered refused g
  pub member : n ≡ record m { holds = told_once m.holds }
