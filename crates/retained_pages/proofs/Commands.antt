-- What commands and failures leave of the records of locks.
use Rattle.std.proofs.Common.{◌≡◌, ◌≢◌, ℕ, refl, sym, ◌∙◌, ap, subst, Bool, true, false, inl, inr, List, [], ◌∷◌, map, Option, Some, None}
use Rattle.std.specs.Prelude.{◌==◌, ◌&&◌, not, if◌then◌else◌}
use Rattle.std.proofs.lemmas.Bool.{and_from, and_parts, both_ways, cases_Bool, cases_eq, cond-false, cond-true, eq-eqb, eqb-true, ne_eqb}
use Rattle.ds_base.specs.declared.names.PageId.{PageId}
use Rattle.ds_model.specs.declared.lock.Name.{Name}
use Rattle.ds_model.specs.declared.lock.Name.TheVariants as name
use Rattle.lock_names.specs.declared.mode.Mode.{Mode}
use Rattle.lock_names.specs.declared.mode.Mode.TheVariants.{IS, IX, S, U, SIX, X}
use Rattle.lock_names.specs.Modes.{are_compatible, is_recorded, join_of}
use Rattle.lock_names.specs.Names.{same_name}
use Rattle.lock_structure.specs.declared.chain.Held.{Held as HeldRecord}
use Rattle.lock_structure.specs.declared.chain.Record.{Record}
use Rattle.lock_structure.specs.Locks.{IsGranted, IsLowest, IsPurged, Locks, is_kept_out, keeps_out, record_of, retained_in}
use Rattle.lock_structure.specs.Records.{Alters, Book, joined, after_failure, after_grant, after_purge, after_release, is_retained, names_of, record_in, retained_by, retained_of, without_name}
use Rattle.facility.specs.declared.command.Command.{Command}
use Rattle.facility.specs.declared.command.Command.TheVariants as command
use Rattle.facility.specs.declared.command.Reply.{Reply}
use Rattle.facility.specs.declared.command.Reply.TheVariants as reply
use Rattle.facility.specs.Commands.{Executes}
use Rattle.facility.specs.ListCommands.{AnswersQuery}
use Rattle.facility.specs.LockCommands.{GrantAnswers, ObtainAnswers}
use Rattle.facility.specs.States.{Held}
use Rattle.list_structure.specs.declared.query.Asker.{Asker}
use Rattle.list_structure.specs.declared.query.CellAnswer.{CellAnswer}
use Rattle.retained_pages.specs.Retained.{CommandsRetain, CommandsSpare, FailuresRetain, FailuresSpare, GrantsNone, KeepsOwn, ObtainsNone, Retains, SparesOthers, in_x, purges}

-- ---- modes
pub joined_x : (m : Mode) → join_of X m ≡ X
unfolding join_of
joined_x m = refl

in_way : (m : Mode) → are_compatible X m ≡ false
unfolding are_compatible
in_way IS = refl
in_way IX = refl
in_way S = refl
in_way U = refl
in_way SIX = refl
in_way X = refl

-- ---- what becomes of a record
granted_x : (mode : Mode) → after_grant mode (Some in_x) ≡ Some in_x
granted_x mode = by (is_recorded mode)
  where
    by : (b : Bool) → (if b then Some (record { mode = join_of X mode; retained = true }) else Some in_x) ≡ Some in_x
    by true = ap (λ z. Some (record { mode = z; retained = true })) (joined_x mode)
    by false = refl

granted_kept : (mode : Mode) (r : Option Record) → is_retained (after_grant mode r) ≡ true → is_retained r ≡ true
granted_kept mode r = by (is_recorded mode) r
  where
    by : (b : Bool) (r : Option Record) → is_retained (if b then Some (joined r mode) else r) ≡ true → is_retained r ≡ true
    by true None e = e
    by true (Some x) e = e
    by false r e = e

released_kept : (r : Option Record) → is_retained (after_release r) ≡ true → is_retained r ≡ true
released_kept r e = by (is_retained r) refl
  where
    by : (b : Bool) → is_retained r ≡ b → is_retained r ≡ true
    by true is = is
    by false is = e2 (ap (λ z. is_retained (if z then r else None)) is)
      where
        e2 : is_retained (after_release r) ≡ false → is_retained r ≡ true
        e2 f = absurd (both_ways (is_retained (after_release r)) f e)

purged_none : (r : Option Record) → is_retained (after_purge r) ≡ false
purged_none r = by (is_retained r) refl
  where
    by : (b : Bool) → is_retained r ≡ b → is_retained (if b then None else r) ≡ false
    by true is = refl
    by false is = is

-- ---- one record becomes what is said
module _ (m : ℕ) (n : Name) (f : Option Record → Option Record) (b c : Book) (a : Alters m n f b c) where
  retains_still : (k : ℕ) (p : PageId) → (k ≡ m → same_name n (name.Page p) ≡ true → f (Some in_x) ≡ Some in_x) → record_in b.held k (name.Page p) ≡ Some in_x → record_in c.held k (name.Page p) ≡ Some in_x
  retains_still k p keeps has = elim (cases_Bool ((k == m) && same_name n (name.Page p))) [
    | inl e ↦
        (let both = and_parts (k == m) (same_name n (name.Page p)) e in
        a.now k (name.Page p) ∙ cond-true ((k == m) && same_name n (name.Page p)) (f (record_in b.held k (name.Page p))) (record_in b.held k (name.Page p)) e ∙ ap f has ∙ keeps (eqb-true k m both.0) both.1)
    | inr e ↦ a.now k (name.Page p) ∙ cond-false ((k == m) && same_name n (name.Page p)) (f (record_in b.held k (name.Page p))) (record_in b.held k (name.Page p)) e ∙ has
  ]

  others_same : (k : ℕ) (p : Name) → k ≢ m → record_in c.held k p ≡ record_in b.held k p
  others_same k p ne = a.now k p ∙ cond-false ((k == m) && same_name n p) (f (record_in b.held k p)) (record_in b.held k p) (ap (λ z. z && same_name n p) (ne_eqb k m ne))

  kept_before : ((r : Option Record) → is_retained (f r) ≡ true → is_retained r ≡ true) → (k : ℕ) (p : Name) → is_retained (record_in c.held k p) ≡ true → is_retained (record_in b.held k p) ≡ true
  kept_before back k p e = by ((k == m) && same_name n p) (ap is_retained (sym (a.now k p)) ∙ e)
    where
      by : (x : Bool) → is_retained (if x then f (record_in b.held k p) else record_in b.held k p) ≡ true → is_retained (record_in b.held k p) ≡ true
      by true g = back (record_in b.held k p) g
      by false g = g

-- ---- the facility
as_before : (f g : Held) (m : ℕ) (c : Command) → g.locks ≡ f.locks → ((n : Name) → c ≢ command.Purge n) → SparesOthers f g m × KeepsOwn f g m c
as_before f g m c e other = (
  record { records = λ k n ne. ap (λ (z : Locks). record_of z k n) e; names = λ k ne. ap (λ (z : Locks). names_of (retained_in z k)) e },
  record { names = λ _. ap (λ (z : Locks). names_of (retained_in z m)) e; retained = λ n r. ap (λ (z : Locks). is_retained (record_of z m n)) (sym e) ∙ r; freed = λ n is. absurd (other n is) },
)

still : (f g : Held) (k : ℕ) (p : PageId) → g.locks ≡ f.locks → Retains f k p → Retains g k p
still f g k p e r = record { member = r.member; has = ap (λ (z : Locks). record_of z k (name.Page p)) e ∙ r.has }

-- ---- a command by a grant
granted_spares : (f g : Held) (m : ℕ) (c : Command) (n : Name) (mode : Mode) → IsGranted f.locks m n mode g.locks → ((p : Name) → c ≢ command.Purge p) → SparesOthers f g m × KeepsOwn f g m c
granted_spares f g m c n mode r other = (
  record { records = others_same m n (after_grant mode) f.locks.book g.locks.book r.records; names = λ k ne. r.order k },
  record { names = λ _. r.order m; retained = λ p e. kept_before m n (after_grant mode) f.locks.book g.locks.book r.records (granted_kept mode) m p e; freed = λ p is. absurd (other p is) },
)

granted_retains : (f g : Held) (m k : ℕ) (n : Name) (mode : Mode) (p : PageId) → IsGranted f.locks m n mode g.locks → Retains f k p → Retains g k p
granted_retains f g m k n mode p r x = record { member = x.member; has = retains_still m n (after_grant mode) f.locks.book g.locks.book r.records k p (λ _ _. granted_x mode) x.has }

-- both laws of what a command leaves
record Leaves (f g : Held) (m : ℕ) (c : Command) : Type 0 where
  pub spares : SparesOthers f g m × KeepsOwn f g m c
  pub retains : (k : ℕ) (p : PageId) → (k ≡ m → purges c p ≡ false) → Retains f k p → Retains g k p

quiet : (f g : Held) (m : ℕ) (c : Command) → ((n : Name) → c ≢ command.Purge n) → g.locks ≡ f.locks → Leaves f g m c
quiet f g m c other e = record { spares = as_before f g m c e other; retains = λ k p _ r. still f g k p e r }

granted : (f g : Held) (m : ℕ) (c : Command) (n : Name) (mode : Mode) → ((p : Name) → c ≢ command.Purge p) → IsGranted f.locks m n mode g.locks → Leaves f g m c
granted f g m c n mode other r = record { spares = granted_spares f g m c n mode r other; retains = λ k p _ x. granted_retains f g m k n mode p r x }

obtained : (f g : Held) (m : ℕ) (n : Name) (mode : Mode) (answer : Reply) → ObtainAnswers f.locks m n mode answer g.locks → Leaves f g m (command.Obtain n mode)
obtained f g m n mode (reply.Granted version) e = granted f g m (command.Obtain n mode) n mode (λ p z. cc) e.4
obtained f g m n mode (reply.Retained by) e = quiet f g m (command.Obtain n mode) (λ p z. cc) e.1
obtained f g m n mode (reply.RecordsFull limit) e = quiet f g m (command.Obtain n mode) (λ p z. cc) e.3
obtained f g m n mode (reply.Contention share exclusive version) e = quiet f g m (command.Obtain n mode) (λ p z. cc) e.6
obtained f g m n mode (reply.Moved version) e = absurd e
obtained f g m n mode (reply.RetainedLock named x) e = absurd e
obtained f g m n mode reply.Done e = absurd e
obtained f g m n mode reply.Nothing e = absurd e
obtained f g m n mode reply.Found e = absurd e
obtained f g m n mode reply.NoData e = absurd e
obtained f g m n mode reply.CacheFull e = absurd e
obtained f g m n mode reply.Lost e = absurd e
obtained f g m n mode reply.Written e = absurd e
obtained f g m n mode reply.Valid e = absurd e
obtained f g m n mode reply.Invalid e = absurd e
obtained f g m n mode reply.Taken e = absurd e
obtained f g m n mode reply.NotChanged e = absurd e
obtained f g m n mode (reply.Locked by) e = absurd e
obtained f g m n mode reply.NotHeld e = absurd e
obtained f g m n mode (reply.ChangedPage page) e = absurd e
obtained f g m n mode (reply.Query query) e = absurd e
obtained f g m n mode reply.Gone e = absurd e
obtained f g m n mode reply.Cells e = absurd e
obtained f g m n mode reply.Waits e = absurd e
obtained f g m n mode reply.Raised e = absurd e
obtained f g m n mode reply.NotRaised e = absurd e
obtained f g m n mode (reply.Status status) e = absurd e
obtained f g m n mode reply.NotLost e = absurd e
obtained f g m n mode (reply.ClaimTaken by) e = absurd e
obtained f g m n mode reply.Claimed e = absurd e
obtained f g m n mode (reply.Drawn lrsn) e = absurd e
obtained f g m n mode (reply.Stale index) e = absurd e
obtained f g m n mode (reply.LrsnEnd at) e = absurd e

asked : (f g : Held) (m slot : ℕ) (n : Name) (mode : Mode) (clean : List (ℕ × ℕ)) (answer : Reply) → GrantAnswers f.locks m n mode clean answer g.locks → Leaves f g m (command.Grant slot n mode)
asked f g m slot n mode clean (reply.Granted version) e = granted f g m (command.Grant slot n mode) n mode (λ p z. cc) e.4
asked f g m slot n mode clean (reply.Retained by) e = quiet f g m (command.Grant slot n mode) (λ p z. cc) e.1
asked f g m slot n mode clean (reply.RecordsFull limit) e = quiet f g m (command.Grant slot n mode) (λ p z. cc) e.3
asked f g m slot n mode clean (reply.Contention share exclusive version) e = absurd e
asked f g m slot n mode clean (reply.Moved version) e = quiet f g m (command.Grant slot n mode) (λ p z. cc) e.4
asked f g m slot n mode clean (reply.RetainedLock named x) e = absurd e
asked f g m slot n mode clean reply.Done e = absurd e
asked f g m slot n mode clean reply.Nothing e = absurd e
asked f g m slot n mode clean reply.Found e = absurd e
asked f g m slot n mode clean reply.NoData e = absurd e
asked f g m slot n mode clean reply.CacheFull e = absurd e
asked f g m slot n mode clean reply.Lost e = absurd e
asked f g m slot n mode clean reply.Written e = absurd e
asked f g m slot n mode clean reply.Valid e = absurd e
asked f g m slot n mode clean reply.Invalid e = absurd e
asked f g m slot n mode clean reply.Taken e = absurd e
asked f g m slot n mode clean reply.NotChanged e = absurd e
asked f g m slot n mode clean (reply.Locked by) e = absurd e
asked f g m slot n mode clean reply.NotHeld e = absurd e
asked f g m slot n mode clean (reply.ChangedPage page) e = absurd e
asked f g m slot n mode clean (reply.Query query) e = absurd e
asked f g m slot n mode clean reply.Gone e = absurd e
asked f g m slot n mode clean reply.Cells e = absurd e
asked f g m slot n mode clean reply.Waits e = absurd e
asked f g m slot n mode clean reply.Raised e = absurd e
asked f g m slot n mode clean reply.NotRaised e = absurd e
asked f g m slot n mode clean (reply.Status status) e = absurd e
asked f g m slot n mode clean reply.NotLost e = absurd e
asked f g m slot n mode clean (reply.ClaimTaken by) e = absurd e
asked f g m slot n mode clean reply.Claimed e = absurd e
asked f g m slot n mode clean (reply.Drawn lrsn) e = absurd e
asked f g m slot n mode clean (reply.Stale index) e = absurd e
asked f g m slot n mode clean (reply.LrsnEnd at) e = absurd e

answered_locks : (f g : Held) (m : ℕ) (asker : Asker) (n : Name) (mode : Mode) (said : CellAnswer) (event : ℕ) (answer : Reply) → AnswersQuery f m asker n mode said event answer g → g.locks ≡ f.locks
answered_locks f g m asker n mode said event reply.Done e = ap (λ (z : Held). z.locks) e.1.1
answered_locks f g m asker n mode said event reply.Gone e = ap (λ (z : Held). z.locks) e.1
answered_locks f g m asker n mode said event (reply.Granted version) e = absurd e
answered_locks f g m asker n mode said event (reply.Retained by) e = absurd e
answered_locks f g m asker n mode said event (reply.RecordsFull limit) e = absurd e
answered_locks f g m asker n mode said event (reply.Contention share exclusive version) e = absurd e
answered_locks f g m asker n mode said event (reply.Moved version) e = absurd e
answered_locks f g m asker n mode said event (reply.RetainedLock named x) e = absurd e
answered_locks f g m asker n mode said event reply.Nothing e = absurd e
answered_locks f g m asker n mode said event reply.Found e = absurd e
answered_locks f g m asker n mode said event reply.NoData e = absurd e
answered_locks f g m asker n mode said event reply.CacheFull e = absurd e
answered_locks f g m asker n mode said event reply.Lost e = absurd e
answered_locks f g m asker n mode said event reply.Written e = absurd e
answered_locks f g m asker n mode said event reply.Valid e = absurd e
answered_locks f g m asker n mode said event reply.Invalid e = absurd e
answered_locks f g m asker n mode said event reply.Taken e = absurd e
answered_locks f g m asker n mode said event reply.NotChanged e = absurd e
answered_locks f g m asker n mode said event (reply.Locked by) e = absurd e
answered_locks f g m asker n mode said event reply.NotHeld e = absurd e
answered_locks f g m asker n mode said event (reply.ChangedPage page) e = absurd e
answered_locks f g m asker n mode said event (reply.Query query) e = absurd e
answered_locks f g m asker n mode said event reply.Cells e = absurd e
answered_locks f g m asker n mode said event reply.Waits e = absurd e
answered_locks f g m asker n mode said event reply.Raised e = absurd e
answered_locks f g m asker n mode said event reply.NotRaised e = absurd e
answered_locks f g m asker n mode said event (reply.Status status) e = absurd e
answered_locks f g m asker n mode said event reply.NotLost e = absurd e
answered_locks f g m asker n mode said event (reply.ClaimTaken by) e = absurd e
answered_locks f g m asker n mode said event reply.Claimed e = absurd e
answered_locks f g m asker n mode said event (reply.Drawn lrsn) e = absurd e
answered_locks f g m asker n mode said event (reply.Stale index) e = absurd e
answered_locks f g m asker n mode said event (reply.LrsnEnd at) e = absurd e

-- ---- a record is given up, or freed
released : (f g : Held) (m : ℕ) (n : Name) (c : Command) → ((p : Name) → c ≢ command.Purge p) → (a : Alters m n after_release f.locks.book g.locks.book) → ((k : ℕ) → retained_in g.locks k ≡ retained_in f.locks k) → Leaves f g m c
released f g m n c other a order = record {
  spares = (
    record { records = others_same m n after_release f.locks.book g.locks.book a; names = λ k ne. ap names_of (order k) },
    record { names = λ _. ap names_of (order m); retained = λ p e. kept_before m n after_release f.locks.book g.locks.book a released_kept m p e; freed = λ p is. absurd (other p is) },
  );
  retains = λ k p _ x. record { member = x.member; has = retains_still m n after_release f.locks.book g.locks.book a k p (λ _ _. refl) x.has };
}

same_command : (n p : Name) → command.Purge n ≡ command.Purge p → n ≡ p
same_command n p e = cc e

itself : (n : Name) → same_name n n ≡ true
unfolding same_name
itself (name.Space t) = eq-eqb t t refl
itself (name.Row t k) = and_from (t == t) (k == k) (eq-eqb t t refl) (eq-eqb k k refl)
itself (name.Page p) = and_from (p.set == p.set) (p.number == p.number) (eq-eqb p.set p.set refl) (eq-eqb p.number p.number refl)
itself (name.Set s) = eq-eqb s s refl

purged : (f g : Held) (m : ℕ) (n : Name) → IsPurged f.locks m n g.locks → Leaves f g m (command.Purge n)
purged f g m n r = record {
  spares = (
    record { records = others_same m n after_purge f.locks.book g.locks.book r.records; names = λ k ne. ap names_of (r.order k ∙ away k ne) },
    record {
      names = λ other. absurd (other n refl);
      retained = λ p e. kept_before m n after_purge f.locks.book g.locks.book r.records (λ x y. absurd (both_ways (is_retained (after_purge x)) (purged_none x) y)) m p e;
      freed = λ p is. freed p (same_command n p is);
    },
  );
  retains = λ k p none x. record {
    member = x.member;
    has = retains_still m n after_purge f.locks.book g.locks.book r.records k p (λ same named. absurd (both_ways (same_name n (name.Page p)) (none same) named)) x.has;
  };
}
  where
    away : (k : ℕ) → k ≢ m → (if (k == m) && is_retained (record_of f.locks m n) then without_name n (retained_in f.locks k) else retained_in f.locks k) ≡ retained_in f.locks k
    away k ne = cond-false ((k == m) && is_retained (record_of f.locks m n)) (without_name n (retained_in f.locks k)) (retained_in f.locks k) (ap (λ z. z && is_retained (record_of f.locks m n)) (ne_eqb k m ne))

    freed : (p : Name) → n ≡ p → is_retained (record_of g.locks m p) ≡ false
    freed p e = subst (λ z. is_retained (record_of g.locks m z) ≡ false) e
        (ap is_retained (r.records.now m n ∙ cond-true ((m == m) && same_name n n) (after_purge (record_in f.locks.book.held m n)) (record_in f.locks.book.held m n) (and_from (m == m) (same_name n n) (eq-eqb m m refl) (itself n)))
        ∙ purged_none (record_in f.locks.book.held m n))

-- ---- all commands
leaves : (f g : Held) (m : ℕ) (c : Command) (page after : List ℕ) (answer : Reply) → Executes f m c page answer g after → Leaves f g m c
leaves f g m (command.Obtain n mode) page after answer e = obtained f g m n mode answer e.0.0
leaves f g m (command.Grant slot n mode) page after answer e = asked f g m slot n mode _ answer e.0.0
leaves f g m (command.Release n keeps) page after answer e = released f g m n (command.Release n keeps) (λ p z. cc) e.0.1.records e.0.1.order
leaves f g m (command.Purge n) page after answer e = purged f g m n e.0.1
leaves f g m (command.RetainedAt n) page after answer e = quiet f g m (command.RetainedAt n) (λ p z. cc) (ap (λ (z : Held). z.locks) e.0.1)
leaves f g m (command.Read id index) page after answer e = quiet f g m (command.Read id index) (λ p z. cc) (ap (λ (z : Held). z.locks) e.1)
leaves f g m (command.Write id index) page after answer e = quiet f g m (command.Write id index) (λ p z. cc) (ap (λ (z : Held). z.locks) e.0.1)
leaves f g m (command.Unregister index) page after answer e = quiet f g m (command.Unregister index) (λ p z. cc) (ap (λ (z : Held). z.locks) e.0.1)
leaves f g m (command.Test index) page after answer e = quiet f g m (command.Test index) (λ p z. cc) (ap (λ (z : Held). z.locks) e.0.1)
leaves f g m (command.CastoutRead id) page after answer e = quiet f g m (command.CastoutRead id) (λ p z. cc) (ap (λ (z : Held). z.locks) e.1)
leaves f g m (command.CastoutDone id) page after answer e = quiet f g m (command.CastoutDone id) (λ p z. cc) (ap (λ (z : Held). z.locks) e.0.1)
leaves f g m (command.NextChanged past) page after answer e = quiet f g m (command.NextChanged past) (λ p z. cc) (ap (λ (z : Held). z.locks) e.0.1)
leaves f g m command.Lose page after answer e = quiet f g m command.Lose (λ p z. cc) (ap (λ (z : Held). z.locks) e.0.1)
leaves f g m command.Rebuilt page after answer e = quiet f g m command.Rebuilt (λ p z. cc) (ap (λ (z : Held). z.locks) e.0.1)
leaves f g m (command.Ask slot to n mode) page after answer e = quiet f g m (command.Ask slot to n mode) (λ p z. cc) (ap (λ (z : Held). z.locks) e.0.1.1)
leaves f g m (command.Take past) page after answer e = quiet f g m (command.Take past) (λ p z. cc) (ap (λ (z : Held). z.locks) e.0.1)
leaves f g m (command.Answer asker n mode said event) page after answer e = quiet f g m (command.Answer asker n mode said event) (λ p z. cc) (answered_locks f g m asker n mode said event answer e.0)
leaves f g m (command.Answers slot) page after answer e = quiet f g m (command.Answers slot) (λ p z. cc) (ap (λ (z : Held). z.locks) e.0.1)
leaves f g m (command.Wait tran holder flag) page after answer e = quiet f g m (command.Wait tran holder flag) (λ p z. cc) (ap (λ (z : Held). z.locks) e.0.1)
leaves f g m (command.Unwait tran) page after answer e = quiet f g m (command.Unwait tran) (λ p z. cc) (ap (λ (z : Held). z.locks) e.0.1)
leaves f g m command.Waits page after answer e = quiet f g m command.Waits (λ p z. cc) (ap (λ (z : Held). z.locks) e.0.1)
leaves f g m (command.End tran) page after answer e = quiet f g m (command.End tran) (λ p z. cc) (ap (λ (z : Held). z.locks) e.0.1)
leaves f g m (command.Raise flag) page after answer e = quiet f g m (command.Raise flag) (λ p z. cc) (ap (λ (z : Held). z.locks) e.0.1)
leaves f g m (command.Flag flag) page after answer e = quiet f g m (command.Flag flag) (λ p z. cc) (ap (λ (z : Held). z.locks) e.0.1)
leaves f g m (command.SetStatus status) page after answer e = quiet f g m (command.SetStatus status) (λ p z. cc) (ap (λ (z : Held). z.locks) e.0.1)
leaves f g m (command.Status member) page after answer e = quiet f g m (command.Status member) (λ p z. cc) (ap (λ (z : Held). z.locks) e.0.1)
leaves f g m command.Claim page after answer e = quiet f g m command.Claim (λ p z. cc) (ap (λ (z : Held). z.locks) e.0.1)
leaves f g m command.Unclaim page after answer e = quiet f g m command.Unclaim (λ p z. cc) (ap (λ (z : Held). z.locks) e.0.1)
leaves f g m command.PhaseDone page after answer e = quiet f g m command.PhaseDone (λ p z. cc) (ap (λ (z : Held). z.locks) e.0.1)
leaves f g m (command.Draw indexes) page after answer e = quiet f g m (command.Draw indexes) (λ p z. cc) (ap (λ (z : Held). z.locks) e.0.1)
leaves f g m (command.DrawUndo indexes) page after answer e = quiet f g m (command.DrawUndo indexes) (λ p z. cc) (ap (λ (z : Held). z.locks) e.0.1)

pub commands_retain : CommandsRetain
commands_retain f g m c page after answer k p e none r = (leaves f g m c page after answer e).retains k p none r

pub commands_spare : CommandsSpare
commands_spare f g m c page after answer e = (leaves f g m c page after answer e).spares

-- ---- failures
pub failures_retain : FailuresRetain
failures_retain f g m k p e r = record { member = r.member; has = e.locks.records.now k (name.Page p) ∙ by (k == m) }
  where
    by : (b : Bool) → (if b then after_failure (record_in f.locks.book.held k (name.Page p)) else record_in f.locks.book.held k (name.Page p)) ≡ Some in_x
    by true = ap after_failure r.has
    by false = r.has

skipped : (k : ℕ) (x : HeldRecord) (xs : List HeldRecord) → (x.member == k) ≡ false → retained_of k (x ∷ xs) ≡ retained_of k xs
skipped k x xs e = cond-false ((x.member == k) && x.lock.retained) ((x.name, x.lock.mode) ∷ retained_of k xs) (retained_of k xs) (ap (λ z. z && x.lock.retained) e)

retained_next : (m k : ℕ) (h : HeldRecord) (hs : List HeldRecord) → k ≢ m → retained_of k (map (retained_by m) hs) ≡ retained_of k hs → retained_of k (retained_by m h ∷ map (retained_by m) hs) ≡ retained_of k (h ∷ hs)
retained_next m k h hs ne rest = elim (cases_Bool (h.member == m)) [
  | inl e ↦
      (let away : (h.member == k) ≡ false = ne_eqb h.member k (λ z. ne (sym z ∙ eqb-true h.member m e)) in
      let there : ((retained_by m h).member == k) ≡ false = ap (λ (z : HeldRecord). z.member == k) (cond-true (h.member == m) (record h { lock = record { mode = h.lock.mode; retained = true } }) h e) ∙ away in
      skipped k (retained_by m h) (map (retained_by m) hs) there ∙ rest ∙ sym (skipped k h hs away))
  | inr e ↦
      ap (λ (z : HeldRecord). retained_of k (z ∷ map (retained_by m) hs)) (cond-false (h.member == m) (record h { lock = record { mode = h.lock.mode; retained = true } }) h e)
      ∙ ap (λ (z : List (Name × Mode)). if (h.member == k) && h.lock.retained then (h.name, h.lock.mode) ∷ z else z) rest
]

retained_else : (m k : ℕ) (hs : List HeldRecord) → k ≢ m → retained_of k (map (retained_by m) hs) ≡ retained_of k hs
retained_else m k [] ne = refl
retained_else m k (h ∷ hs) ne = retained_next m k h hs ne (retained_else m k hs ne)

pub failures_spare : FailuresSpare
failures_spare f g m e = record {
  records = λ k n ne. e.locks.records.now k n ∙ cond-false (k == m) (after_failure (record_in f.locks.book.held k n)) (record_in f.locks.book.held k n) (ne_eqb k m ne);
  names = λ k ne. ap names_of (ap (retained_of k) e.locks.order ∙ retained_else m k f.locks.book.held ne);
}

-- ---- nobody else is granted the page
kept_out : (f : Held) (m k : ℕ) (mode : Mode) (p : PageId) → IsLowest (keeps_out f.locks m (name.Page p) mode) None → Retains f k p → k ≡ m
kept_out f m k mode p none r = elim (cases_eq k m) [
  | inl e ↦ e
  | inr ne ↦ absurd (both_ways (keeps_out f.locks m (name.Page p) mode k) (none k r.member) (in_the_way ne))
]
  where
    out : is_kept_out (record_of f.locks k (name.Page p)) mode ≡ true
    out = ap (λ z. is_kept_out z mode) r.has ∙ ap not (in_way mode)

    in_the_way : k ≢ m → keeps_out f.locks m (name.Page p) mode k ≡ true
    in_the_way ne = and_from (not (k == m)) (is_kept_out (record_of f.locks k (name.Page p)) mode) (ap not (ne_eqb k m ne)) out

pub obtains_none : ObtainsNone
obtains_none f g m k version mode p e r = kept_out f m k mode p e.0.0 r

pub grants_none : GrantsNone
grants_none f g m k slot version mode p e r = kept_out f m k mode p e.0.0 r
