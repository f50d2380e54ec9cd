-- The numbers of a member that takes over what its restart hands over.
use Rattle.std.proofs.Common.{◌≡◌, ℕ, ◌≤◌, refl, sym, ◌∙◌, ap, subst, Bool, true, false, inl, inr, List, [], ◌∷◌, Option, Some, None}
use Rattle.std.specs.Prelude.{◌⊎◌, filter, if◌then◌else◌, map}
use Rattle.std.specs.List.{AllByRecursion}
use Rattle.std.proofs.lemmas.Bool.{cond_both}
use Rattle.log_numbers.specs.Numbers.{AreCounted, CountedAdopt, SlotsAreFree}
use Rattle.log_trans.specs.declared.opened.OpenTran.{OpenTran}
use Rattle.member_marks.specs.Rollbacks.{after_adopt, may_adopt, with_rollback, with_room_of}
use Rattle.member_marks.specs.State.{MarksState}
use Rattle.member_resources.specs.Held.{Held}
use Rattle.restart_records.specs.declared.trans.RestartTran.{RestartTran}
use Rattle.restart_records.specs.Trans.{is_open, open_of, opened_among}
use Rattle.restart_marks.specs.declared.adopt.Adopted.{Adopted}
use Rattle.restart_marks.specs.Adopt.{adopted_told}
use Rattle.restart_marks.specs.State.{RestartState}
use Rattle.restart_closing.specs.Closing.{ListedBelow}
use Rattle.failed_logs.specs.Given.{AdoptsAll, AdoptsLeft, GoesOn, Restarting, Takes, changes_left, rows_left}
use Rattle.claimed_logs.proofs.Courses.{adopted_are}

-- none of their numbers is above this one
abbrev pub OpenedBelow : ℕ → List OpenTran → Type 0
OpenedBelow c ts = AllByRecursion (λ (t : OpenTran). t.id ≤ c) ts

-- nor of those that are open
pub opened_below : (c : ℕ) (list : List RestartTran) → ListedBelow c list → OpenedBelow c (opened_among list)
opened_below c [] low = tt
opened_below c (x ∷ xs) low = by (is_open x) (opened_below c xs low.1)
  where
    by : (b : Bool) → OpenedBelow c (opened_among xs) → OpenedBelow c (map open_of (if b then x ∷ filter is_open xs else filter is_open xs))
    by true rest = (low.0, rest)
    by false rest = rest

-- what the member holds then is counted, and its slots are free as they were
record StillCounted (c : ℕ) (s : MarksState) : Type 0 where
  counted : AreCounted c s
  free : SlotsAreFree s

with_room_counted : (c : ℕ) (s t : MarksState) → StillCounted c s → StillCounted c (with_room_of s t)
with_room_counted c s t a = record {
  counted = record { last = a.counted.last; stable = a.counted.stable; below = a.counted.below; once = a.counted.once; free = a.counted.free };
  free = a.free;
}

module _ (law : CountedAdopt) (c : ℕ) where
  all_counted : (by : ℕ) (ts : List OpenTran) (h k : Held) → OpenedBelow c ts → AdoptsAll h by ts k → StillCounted c h.marks → StillCounted c k.marks
  all_counted by [] h k low adopts a = subst (λ (z : Held). StillCounted c z.marks) (sym adopts) a
  all_counted by (t ∷ ts) h k low adopts a =
      let mid : Held = adopts.0 in
      let before : StillCounted c mid.marks = all_counted by ts h mid low.1 adopts.1 a in
      subst (λ (z : Held). StillCounted c z.marks) (sym adopts.2.holds)
      (with_room_counted c (after_adopt mid.marks t.id by (changes_left t) (rows_left t)) k.marks (record {
        counted = law c mid.marks t.id by (changes_left t) (rows_left t) low.0 before.free before.counted;
        free = cond_both (may_adopt mid.marks t.id (changes_left t)) (with_rollback mid.marks t.id by (changes_left t) (rows_left t)) mid.marks (λ (z : MarksState). SlotsAreFree z) (λ e. before.free) (λ e. before.free);
      }))

  left_counted : (s : RestartState) (o : Option Adopted) (h k : Held) → adopted_told s ≡ o → ListedBelow c s.trans.list → AdoptsLeft o h k → StillCounted c h.marks → StillCounted c k.marks
  left_counted s None h k told low adopts a = subst (λ (z : Held). StillCounted c z.marks) (sym adopts) a
  left_counted s (Some adopted) h k told low adopts a =
      all_counted adopted.by adopted.trans h k (subst (OpenedBelow c) (sym (adopted_are s s.kept adopted told)) (opened_below c s.trans.list low)) adopts a

  taken_counted : (q rest : Restarting) (o : Option Adopted) (h k : Held) → Takes q o rest → ListedBelow c q.resources.marks.trans.list → AdoptsLeft o h k → StillCounted c h.marks → StillCounted c k.marks
  taken_counted q rest o h k (inl takes) low adopts a = subst (λ (z : Held). StillCounted c z.marks) (sym (subst (λ (z : Option Adopted). AdoptsLeft z h k) takes.0 adopts)) a
  taken_counted q rest o h k (inr takes) low adopts a = left_counted q.resources.marks (adopted_told q.resources.marks) h k refl low (subst (λ (z : Option Adopted). AdoptsLeft z h k) takes.0 adopts) a

  -- where no slot of it has a transaction, and no number of its restart is above the counter
  pub hands_counted : (b : Bool) (q : Restarting) (h k : Held) (r : Option Restarting) → GoesOn b q h r k → ListedBelow c q.resources.marks.trans.list → SlotsAreFree h.marks → AreCounted c h.marks → AreCounted c k.marks
  hands_counted true q h k r over low free counted = subst (λ (z : Held). AreCounted c z.marks) (sym over.1) counted
  hands_counted false q h k r over low free counted = (taken_counted q over.rest over.left h k over.takes low over.adopts (record { counted = counted; free = free })).counted
