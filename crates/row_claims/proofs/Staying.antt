-- Rows stay locked as long as their transactions are open.
use Rattle.std.proofs.Common.{◌≡◌, ℕ, refl, sym, ◌∙◌, ap, subst, Bool, true, false, inl, inr, List, [], ◌∷◌, ◌++◌, append_assoc, Option, Some, None, Result, Ok, Err}
use Rattle.std.specs.Prelude.{◌≢◌, ◌⊎◌, ◌||◌, IfSome}
use Rattle.std.proofs.lemmas.Bool.{or_cases, or_left, or_right}
use Rattle.std.proofs.lemmas.List.{append-nil}
use Rattle.ds_model.specs.Rows.{Spot}
use Rattle.ds_model.specs.declared.log.LogRecord.{LogRecord}
use Rattle.log_rows.specs.Rows.{BothTell, IsOpenIn, has_changed, is_closed, touches}
use Rattle.log_trans.specs.declared.opened.OpenTran.{OpenTran}
use Rattle.member_trans.specs.declared.fate.Owner.{Owner}
use Rattle.member_marks.specs.State.{MarksState, tran_of}
use Rattle.member_intents.specs.declared.intent.Intent.{Intent}
use Rattle.member_intents.specs.declared.outcome.Answered.{Answered}
use Rattle.member_intents.specs.declared.outcome.Sent.{Sent}
use Rattle.member_effects.specs.Puts.{event_records}
use Rattle.member_resources.specs.Events.{Happens, World}
use Rattle.member_resources.specs.Held.{Held, begun}
use Rattle.strict_locking.specs.Given.{SlotsBegin, SlotsReach, SlotsStay}
use Rattle.strict_locking.specs.Keeping.{ChangesLock, EventsKeep, MovesKeep}
use Rattle.strict_locking.specs.Rows.{HasLocked, is_over}
use Rattle.closing_law.specs.Closing.{ChangedIn, Closes, ClosesBegin, ClosesReach, ClosesStay, ClosesTell, Puts, StillCloses}
use Rattle.row_claims.specs.Rows.{PutsPlain, RowsBegin, RowsLocked, RowsOpen, RowsReach, RowsStay, StillLocked}
use Rattle.row_claims.proofs.Changing.{new_locked}
use Rattle.row_claims.proofs.Named.{first_named}

-- ---- closed stays closed
pub closed_more : BothTell → (a b : List LogRecord) (id : ℕ) → is_closed a id ≡ true → is_closed (a ++ b) id ≡ true
closed_more law a b id h = law.closed a b id ∙ or_left (is_closed a id) (is_closed b id) h

pub changed_more : BothTell → (a b : List LogRecord) (id : ℕ) (s : Spot) → has_changed a id s ≡ true → has_changed (a ++ b) id s ≡ true
changed_more law a b id s h = law.changed a b id s ∙ or_left (has_changed a id s) (has_changed b id s) h

-- ---- what was locked, or closed
pub still : ClosesTell → (disk pend : List LogRecord) (s t : MarksState) (id : ℕ) (spot : Spot) → Closes disk pend s → id ≢ 0
    → ((l : HasLocked s id spot) → is_over s l.by ≡ false → HasLocked t id spot) → (is_closed disk id ≡ true) ⊎ HasLocked s id spot → (is_closed disk id ≡ true) ⊎ HasLocked t id spot
still tell disk pend s t id spot c some keeps (inl closed) = inl closed
still tell disk pend s t id spot c some keeps (inr l) = by (is_over s l.by) refl
  where
    named : (tran_of s l.by).first ≡ id
    named = first_named s l.by l.taken ∙ l.named

    by : (b : Bool) → is_over s l.by ≡ b → (is_closed disk id ≡ true) ⊎ HasLocked t id spot
    by true over = inl (subst (λ (z : ℕ). is_closed disk z ≡ true) named (tell disk pend s l.by c over (λ e. some (sym named ∙ e))))
    by false going = inr (keeps l going)

-- ---- an event
pub record Facts : Type 0 where
  pub both : BothTell
  pub closes : ClosesStay
  pub begins : ClosesBegin
  pub reach : ClosesReach
  pub tell : ClosesTell
  pub keep : EventsKeep
  pub moves : MovesKeep
  pub change : ChangesLock
  pub slots : SlotsStay
  pub slots_reach : SlotsReach
  pub slots_begin : SlotsBegin

none_more : (xs : List LogRecord) → xs ++ [] ≡ xs
none_more xs = append-nil xs

-- of the records that were there before
before : Facts → (disk pend more : List LogRecord) (w v : World) (h k : Held) (i : Intent) (place : ℕ) (sent : Sent) (a : Answered) → Happens w h i place sent a v k → RowsLocked disk pend h.marks
    → (id : ℕ) (spot : Spot) → id ≢ 0 → has_changed (disk ++ pend) id spot ≡ true → (is_closed (disk ++ more) id ≡ true) ⊎ HasLocked k.marks id spot
before f disk pend more w v h k i place sent a happens l id spot some changed =
    by (still f.tell disk pend h.marks k.marks id spot l.closes some (λ (x : HasLocked h.marks id spot) going. (f.keep w v h k i place sent a l.book happens).rows id spot some x going) (l.rows id spot some changed))
  where
    by : (is_closed disk id ≡ true) ⊎ HasLocked k.marks id spot → (is_closed (disk ++ more) id ≡ true) ⊎ HasLocked k.marks id spot
    by (inl closed) = inl (closed_more f.both disk more id closed)
    by (inr x) = inr x

rows_behind : Facts → (disk pend new more left : List LogRecord) (w v : World) (h k : Held) (i : Intent) (place : ℕ) (sent : Sent) (a : Answered) (happens : Happens w h i place sent a v k) → RowsLocked disk pend h.marks
    → ((more ≡ []) × Puts pend new left (ChangedIn i happens.plan happens.after.marks)) ⊎ ((more ≡ pend) × (left ≡ []))
    → (id : ℕ) (spot : Spot) → id ≢ 0 → has_changed ((disk ++ more) ++ left) id spot ≡ true → (is_closed (disk ++ more) id ≡ true) ⊎ HasLocked k.marks id spot
rows_behind f disk pend new more left w v h k i place sent a happens l (inl g) id spot some changed =
    by (or_cases (has_changed (disk ++ pend) id spot) (has_changed new id spot) (sym (f.both.changed (disk ++ pend) new id spot) ∙ there))
  where
    there : has_changed ((disk ++ pend) ++ new) id spot ≡ true
    there = ap (λ (z : List LogRecord). has_changed z id spot) (append_assoc disk pend new)
        ∙ (sym (ap (λ (z : List LogRecord). has_changed (disk ++ z) id spot) g.1.is)
        ∙ (sym (ap (λ (z : List LogRecord). has_changed (z ++ left) id spot) (ap (λ (z : List LogRecord). disk ++ z) g.0 ∙ none_more disk)) ∙ changed))

    by : (has_changed (disk ++ pend) id spot ≡ true) ⊎ (has_changed new id spot ≡ true) → (is_closed (disk ++ more) id ≡ true) ⊎ HasLocked k.marks id spot
    by (inl old) = before f disk pend more w v h k i place sent a happens l id spot some old
    by (inr e) = inr (new_locked f.change w v h k i place sent a happens l.book l.slots id spot some (g.1.rows id spot e))
rows_behind f disk pend new more left w v h k i place sent a happens l (inr g) id spot some changed =
    before f disk pend more w v h k i place sent a happens l id spot some
    (sym (ap (λ (z : List LogRecord). has_changed z id spot) (ap (λ (z : List LogRecord). (disk ++ more) ++ z) g.1 ∙ (none_more (disk ++ more) ∙ ap (λ (z : List LogRecord). disk ++ z) g.0))) ∙ changed)

plain_goes : (disk pend new more left : List LogRecord) (G : ℕ → Spot → Type 0) → ((more ≡ []) × Puts pend new left G) ⊎ ((more ≡ pend) × (left ≡ [])) → ((more ≡ []) × PutsPlain pend new left) ⊎ ((more ≡ pend) × (left ≡ []))
plain_goes disk pend new more left G (inl g) = inl (g.0, record { is = g.1.is; plain = g.1.plain })
plain_goes disk pend new more left G (inr g) = inr g

pub rows_stay : Facts → RowsStay
rows_stay f base disk pend w v h k i place sent a happens well low log l =
    let new : List LogRecord = event_records (begun happens.ready place).marks i happens.plan a in
    let behind : StillCloses base disk pend new (ChangedIn i happens.plan happens.after.marks) v.drive k.marks = f.closes base disk pend w v h k i place sent a happens well low log l.closes in
    record {
      more = behind.more;
      left = behind.left;
      goes = plain_goes disk pend new behind.more behind.left (ChangedIn i happens.plan happens.after.marks) behind.goes;
      log = behind.log;
      locked = record {
        closes = behind.closes;
        book = (f.keep w v h k i place sent a l.book happens).book;
        slots = f.slots w v h k i place sent a happens l.slots;
        rows = rows_behind f disk pend new behind.more behind.left w v h k i place sent a happens l behind.goes;
      };
    }

-- ---- local moves, and the begin
pub rows_reach : Facts → RowsReach
rows_reach f disk pend s t reaches l =
    let keeps = f.moves s t l.book reaches in
    record {
      closes = f.reach disk pend s t reaches l.closes;
      book = keeps.book;
      slots = f.slots_reach s t reaches l.slots;
      rows = λ id spot some changed. by id spot some (l.rows id spot some changed);
    }
  where
    by : (id : ℕ) (spot : Spot) → id ≢ 0 → (is_closed disk id ≡ true) ⊎ HasLocked s id spot → (is_closed disk id ≡ true) ⊎ HasLocked t id spot
    by id spot some (inl closed) = inl closed
    by id spot some (inr x) = inr ((f.moves s t l.book reaches).rows id spot some x)

pub rows_begin : Facts → RowsBegin
rows_begin f disk member sizes h closed book new = record {
  closes = f.begins disk member sizes h new;
  book = book;
  slots = f.slots_begin member sizes h new;
  rows = λ id spot some changed. inl (closed id spot some (sym (ap (λ (z : List LogRecord). has_changed z id spot) (none_more disk)) ∙ changed));
}

-- ---- what is open on disk has locked its rows
never : (b : Bool) → b ≡ false → b ≡ true → ⊥
never b p q = cc

pub rows_open : BothTell → RowsOpen
rows_open law disk front rest s t locked open_in spot touched = by (locked.rows t.id spot open_in.numbered there)
  where
    there : has_changed (disk ++ (front ++ rest)) t.id spot ≡ true
    there = subst (λ (z : List LogRecord). has_changed z t.id spot ≡ true) (append_assoc disk front rest) (changed_more law (disk ++ front) rest t.id spot (open_in.changed spot touched))

    by : (is_closed disk t.id ≡ true) ⊎ HasLocked s t.id spot → HasLocked s t.id spot
    by (inl closed) = absurd (never (is_closed (disk ++ front) t.id) open_in.unclosed (closed_more law disk front t.id closed))
    by (inr l) = l
