-- The log and its buffer behind an event.
use Rattle.std.proofs.Common.{◌≡◌, ℕ, ◌≤◌, refl, sym, ◌∙◌, ap, subst, arith, Bool, true, false, inl, inr, List, [], ◌∷◌, ◌++◌, length, take, length-append}
use Rattle.std.specs.Prelude.{◌⊎◌, ◌&&◌}
use Rattle.std.specs.List.{AllByRecursion}
use Rattle.std.proofs.lemmas.List.{append-nil, take_all}
use Rattle.std.proofs.lemmas.List.Concat.{flat_map-append}
use Rattle.ds_model.specs.RecordBytes.{IsAllowed, log_bytes, record_bytes, spelling}
use Rattle.ds_model.specs.declared.log.LogRecord.{LogRecord}
use Rattle.log_appends.specs.Appends.{AllAreLast, AppendsAreWhole, AreBehind, AreLastFrom, LastAreBehind, LastSpell}
use Rattle.member_intents.specs.declared.intent.Intent.{Intent}
use Rattle.member_intents.specs.declared.outcome.Answered.{Answered}
use Rattle.member_intents.specs.declared.outcome.Sent.{Sent}
use Rattle.member_effects.specs.Puts.{event_records}
use Rattle.member_resources.specs.Events.{Happens, World}
use Rattle.member_resources.specs.Held.{Held, begun}
use Rattle.put_records.specs.Puts.{EventsPut, is_append, is_done, pending_after}
use Rattle.row_claims.specs.Given.{ArePlain, IsUnfailed, LogIs, is_checkpoint}
use Rattle.row_claims.specs.Rows.{PutsPlain, RowsLocked, RowsStay, StillLocked}
use Rattle.left_open.specs.Logs.{LockedStay, LogLocked, LogStays, TellsLog, log_after, pend_after}
use Rattle.left_open.proofs.Open.{none_names}

-- ---- records without bytes
some_record : (r : LogRecord) → record_bytes r ≡ [] → ⊥
unfolding record_bytes spelling
some_record r e =
    let n = ap (λ (z : List ℕ). length z) e in
    let m = simp length-append at n in
    absurd (omega (arith, m))

front_none : (a b : List ℕ) → a ++ b ≡ [] → a ≡ []
front_none [] b e = refl
front_none (x ∷ a) b e = absurd cc

none_spelled : (records : List LogRecord) → log_bytes records ≡ [] → records ≡ []
none_spelled [] e = refl
none_spelled (r ∷ rs) e = absurd (some_record r (front_none (record_bytes r) (log_bytes rs) e))

none_front : (xs ys : List LogRecord) → xs ++ ys ≡ [] → xs ≡ []
none_front [] ys e = refl
none_front (x ∷ xs) ys e = absurd cc

-- ---- what is on disk more, and what waits still
abbrev more_after : Bool → List LogRecord → List LogRecord
more_after true pend = pend
more_after false pend = []

-- the buffer had these records, and has those
record Buffers (b : Bool) (pend new more left : List LogRecord) : Type 0 where
  more_is : more ≡ more_after b pend
  left_is : left ≡ pend_after b pend new
  plain : ArePlain (pend_after b pend new)

both_all : (P : LogRecord → Type 0) (xs ys : List LogRecord) → AllByRecursion P xs → AllByRecursion P ys → AllByRecursion P (xs ++ ys)
both_all P [] ys h k = k
both_all P (x ∷ xs) ys h k = (h.0, both_all P xs ys h.1 k)

which : (b : Bool) (before after : List ℕ) (pend new more left : List LogRecord) → before ≡ log_bytes pend → after ≡ log_bytes left → after ≡ pending_after b before new → ArePlain pend
    → ((more ≡ []) × PutsPlain pend new left) ⊎ ((more ≡ pend) × (left ≡ [])) → Buffers b pend new more left
which true before after pend new more left had has e plain (inl puts) =
    let gone : left ≡ [] = none_spelled left (sym has ∙ e) in
    let none : pend ≡ [] = none_front pend new (sym puts.1.is ∙ gone) in
    record { more_is = puts.0 ∙ sym none; left_is = gone; plain = tt }
which true before after pend new more left had has e plain (inr force) = record { more_is = force.0; left_is = force.1; plain = tt }
which false before after pend new more left had has e plain (inl puts) = record { more_is = puts.0; left_is = puts.1.is; plain = both_all (λ (r : LogRecord). is_checkpoint r.body ≡ false) pend new plain puts.1.plain }
which false before after pend new more left had has e plain (inr force) =
    let empty : log_bytes (pend ++ new) ≡ [] = flat_map-append record_bytes pend new ∙ ap (λ (z : List ℕ). z ++ log_bytes new) (sym had) ∙ sym e ∙ has ∙ ap log_bytes force.1 in
    let none : pend ++ new ≡ [] = none_spelled (pend ++ new) empty in
    record { more_is = force.0 ∙ none_front pend new none; left_is = force.1 ∙ sym none; plain = subst (λ (z : List LogRecord). ArePlain z) (sym none) tt }

pub record Facts : Type 0 where
  pub puts : EventsPut
  pub stay : RowsStay
  pub all : AllAreLast
  pub spell : LastSpell
  pub whole : AppendsAreWhole
  pub last : LastAreBehind

module _ (facts : Facts) (log : List ℕ) (pend : List LogRecord) (w v : World) (h k : Held) (i : Intent) (place : ℕ) (sent : Sent) (a : Answered) (happens : Happens w h i place sent a v k)
    (unfailed : IsUnfailed a) (below : h.marks.log.stable ≤ w.facility.counter) (tells : TellsLog log w.drive h.marks.member)
    (l : LogLocked log pend h.marks) where
  abbrev appends : Bool
  appends = is_done a && is_append i

  abbrev new : List LogRecord
  new = event_records (begun happens.ready place).marks i happens.plan a

  after : k.marks.log.pending ≡ pending_after appends h.marks.log.pending new
  after = facts.puts w v h k i place sent a happens

  -- for each of its last records
  still : (start : ℕ) (back : List LogRecord) → AreLastFrom log start back → StillLocked (take start log) back pend new v.drive k.marks
  still start back last = facts.stay (take start log) back pend w v h k i place sent a happens unfailed below
      (record { contents = tells.contents; told = tells.told; there = tells.there; log = tells.bytes ∙ facts.spell log start back l.whole last }) (l.locked start back last)

  buffers : (start : ℕ) (back : List LogRecord) → (last : AreLastFrom log start back) → Buffers appends pend new (still start back last).more (still start back last).left
  buffers start back last = which appends h.marks.log.pending k.marks.log.pending pend new (still start back last).more (still start back last).left l.spelled (still start back last).locked.closes.spelled after l.plain (still start back last).goes

  rows : (start : ℕ) (back : List LogRecord) → AreLastFrom log start back → RowsLocked (back ++ more_after appends pend) (pend_after appends pend new) k.marks
  rows start back last = subst (λ (z : List LogRecord). RowsLocked (back ++ z) (pend_after appends pend new) k.marks) (buffers start back last).more_is
      (subst (λ (z : List LogRecord). RowsLocked (back ++ (still start back last).more) z k.marks) (buffers start back last).left_is (still start back last).locked)

  -- of all its records
  first : AreLastFrom log 0 l.whole.records
  first = facts.all log l.whole

  on_disk : LogIs (take 0 log) v.drive k.marks.member (l.whole.records ++ more_after appends pend)
  on_disk = subst (λ (z : List LogRecord). LogIs (take 0 log) v.drive k.marks.member (l.whole.records ++ z)) (buffers 0 l.whole.records first).more_is (still 0 l.whole.records first).log

  log_is : (b : Bool) → log_bytes (l.whole.records ++ more_after b pend) ≡ log_after b log pend
  log_is true = flat_map-append record_bytes l.whole.records pend ∙ ap (λ (z : List ℕ). z ++ log_bytes pend) (sym l.whole.spelled)
  log_is false = ap log_bytes (append-nil l.whole.records) ∙ sym l.whole.spelled

  told : TellsLog (log_after appends log pend) v.drive k.marks.member
  told = record { contents = on_disk.contents; told = on_disk.told; there = on_disk.there; bytes = on_disk.log ∙ log_is appends }

  -- ---- what is locked then
  locked : (b : Bool) → ((start : ℕ) (back : List LogRecord) → AreLastFrom log start back → RowsLocked (back ++ more_after b pend) (pend_after b pend new) k.marks)
      → k.marks.log.pending ≡ pending_after b h.marks.log.pending new → ArePlain (pend_after b pend new) → LogLocked (log_after b log pend) (pend_after b pend new) k.marks
  locked true rows e plain = record {
    whole = facts.whole log pend l.whole l.allowed;
    spelled = e;
    allowed = tt;
    plain = tt;
    locked = at;
  }
    where
      at : (start : ℕ) (back : List LogRecord) → AreLastFrom (log ++ log_bytes pend) start back → RowsLocked back [] k.marks
      at start back last = subst (λ (z : List LogRecord). RowsLocked z [] k.marks) (sym (are.are ∙ ap (λ (z : List LogRecord). are.back ++ z) (are.all (omega arith)))) (rows start are.back are.last)
        where
          are : AreBehind log pend (length (log_bytes pend)) start back
          are = facts.last log pend (length (log_bytes pend)) start back l.whole l.allowed (none_names pend l.plain)
              (subst (λ (z : List ℕ). AreLastFrom (log ++ z) start back) (sym (take_all (length (log_bytes pend)) (log_bytes pend) (omega arith))) last)
  locked false rows e plain = record {
    whole = l.whole;
    spelled = e ∙ ap (λ (z : List ℕ). z ++ log_bytes new) l.spelled ∙ sym (flat_map-append record_bytes pend new);
    allowed = both_all IsAllowed pend new l.allowed happens.allowed;
    plain = plain;
    locked = λ start back last. subst (λ (z : List LogRecord). RowsLocked z (pend ++ new) k.marks) (append-nil back) (rows start back last);
  }

  stays : LogStays appends log pend new v.drive k.marks
  stays = record { tells = told; locked = locked appends rows after (buffers 0 l.whole.records first).plain }

pub locked_stay : Facts → LockedStay
locked_stay facts log pend w v h k i place sent a happens unfailed below tells l = stays facts log pend w v h k i place sent a happens unfailed below tells l
