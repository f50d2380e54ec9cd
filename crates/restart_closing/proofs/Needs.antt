-- What the intents of a restart send, and of which numbers their replies tell.
use Rattle.std.proofs.Common.{◌≡◌, ℕ, refl, sym, ◌∙◌, ap, subst, arith, Bool, true, false, List, [], ◌∷◌, Option, Some, None, Result, Ok, Err}
use Rattle.std.specs.Prelude.{◌+◌, ◌==◌, ◌&&◌, ◌≢◌, nat_le, not, is_none, is_some, length}
use Rattle.std.proofs.lemmas.Bool.{eq-eqb, eqb-true}
use Rattle.ds_base.specs.Ids.{IsLrsn}
use Rattle.ds_base.specs.declared.names.PageId.{PageId}
use Rattle.ds_model.specs.RecordBytes.{IsNumber}
use Rattle.ds_model.specs.declared.lock.Name.TheVariants as name
use Rattle.ds_model.specs.declared.log.Version.TheVariants as version
use Rattle.facility.specs.declared.command.Command.{Command}
use Rattle.facility.specs.declared.command.Command.TheVariants as command
use Rattle.facility.specs.declared.command.Indexes.{Indexes}
use Rattle.facility.specs.declared.command.Reply.{Reply}
use Rattle.facility.specs.declared.command.Reply.TheVariants as reply
use Rattle.facility.specs.Commands.{CanExecute, Executes}
use Rattle.facility.specs.Counting.{drawn, first_stale, given}
use Rattle.facility.specs.States as facility
use Rattle.list_structure.specs.declared.standing.MemberStatus.TheVariants.{Up}
use Rattle.lock_names.specs.declared.mode.Mode.TheVariants.{X}
use Rattle.log_reader.specs.declared.calls.LogCall.{LogCall}
use Rattle.log_reader.specs.declared.calls.LogCall.TheVariants as call
use Rattle.restart_records.specs.declared.trans.Newest.{Newest}
use Rattle.restart_records.specs.Names.{mark_of}
use Rattle.restart_records.specs.Own.{next_in}
use Rattle.restart_records.specs.Trans.{newest}
use Rattle.restart_marks.specs.declared.intent.RestartIntent.{RestartIntent}
use Rattle.restart_marks.specs.declared.intent.RestartIntent.TheVariants as intent
use Rattle.restart_marks.specs.declared.intent.RestartSent.{RestartSent}
use Rattle.restart_marks.specs.declared.intent.RestartSent.TheVariants as sent
use Rattle.restart_marks.specs.declared.intent.RestartTest.{RestartTest}
use Rattle.restart_marks.specs.declared.intent.RestartTest.TheVariants as test
use Rattle.restart_marks.specs.HandNeeds.{owner_test, purges_page, reads, reads_page, writes}
use Rattle.restart_marks.specs.LockNeeds.{commands, lock_test, page_asked, releases, undo_command, undo_test, undo_with, unchanged_test}
use Rattle.restart_marks.specs.Moves.{is_claimed}
use Rattle.restart_marks.specs.Needs.{need_of}
use Rattle.restart_marks.specs.OwnNeeds.{call_sent, is_end_listed, listed_test, over_test, recovered_test, rest_test}
use Rattle.restart_marks.specs.State.{RestartState}
use Rattle.restart_marks.specs.Tested.{Tested, after, passed, sends, when}
use Rattle.restart_resources.specs.Held.{Held}
use Rattle.restart_resources.specs.Lending.{Gives, is_hand, lent_bytes}
use Rattle.restart_closing.proofs.Replies.{IsWritten, IsWrittenFor}

-- ---- what the tests show
abbrev holds : Tested → Bool
holds (Ok x) = true
holds (Err t) = false

err_ok : {T : Type 0} → (t : RestartTest) (y : T) (x : Result T RestartTest) → x ≡ Err t → x ≡ Ok y → ⊥
err_ok t y x a b = cc

after_first : {T : Type 0} → (t : Tested) (r : Result T RestartTest) (y : T) → after t r ≡ Ok y → holds t ≡ true
after_first (Ok x) r y e = refl
after_first {T} (Err t) r y e = absurd (err_ok t y (Err t) refl e)

after_rest : {T : Type 0} → (t : Tested) (r : Result T RestartTest) (y : T) → after t r ≡ Ok y → r ≡ Ok y
after_rest (Ok x) r y e = e
after_rest {T} (Err t) r y e = absurd (err_ok t y (Err t) refl e)

never : false ≡ true → ⊥
never e = cc

when_first : (b : Bool) (t : RestartTest) (rest : Tested) → holds (when b t rest) ≡ true → b ≡ true
when_first true t rest h = refl
when_first false t rest h = absurd (never h)

when_rest : (b : Bool) (t : RestartTest) (rest : Tested) → holds (when b t rest) ≡ true → holds rest ≡ true
when_rest true t rest h = h
when_rest false t rest h = absurd (never h)

not_true : (b : Bool) → not b ≡ true → b ≡ false
not_true true e = absurd cc
not_true false e = refl

not_zero : (n : ℕ) → not (n == 0) ≡ true → n ≢ 0
not_zero n e is = never (sym (not_true (n == 0) e) ∙ eq-eqb n 0 is)

-- ---- what is sent
abbrev pub FitsSent : RestartState → RestartSent → Type 0
FitsSent s sent.None = Unit {0}
FitsSent s (sent.Command c) = Unit {0}
FitsSent s sent.LogLength = s.own.is_read ≡ false
FitsSent s (sent.ReadLog at count) = s.own.is_read ≡ false
FitsSent s (sent.CutLog long) = (s.own.is_read ≡ true) × (s.own.tail ≢ 0) × (long ≡ s.own.long)
FitsSent s sent.AppendLog = ((length s.log.pending == 0) ≡ false) × (s.own.tail ≡ 0)
FitsSent s (sent.ReadPage page) = Unit {0}

same_ok : {T : Type 0} → (x y : T) (a b : Result T RestartTest) → a ≡ Ok x → b ≡ Ok y → a ≡ b → x ≡ y
same_ok x y a b p q e = cc

abbrev just : RestartSent → Result RestartSent RestartTest
just x = Ok x

fits_ok : (s : RestartState) (x y : RestartSent) → FitsSent s x → just x ≡ just y → FitsSent s y
fits_ok s x y fits e = subst (λ z. FitsSent s z) (same_ok x y (just x) (just y) refl refl e) fits

fits_as : (s : RestartState) (t : Tested) (x y : RestartSent) → FitsSent s x → sends t x ≡ Ok y → FitsSent s y
fits_as s t x y fits e = fits_ok s x y fits (after_rest t (Ok x) y e)

fits_commanded : (s : RestartState) (f : PageId → Command) (r : Result PageId RestartTest) (x : RestartSent) → commands f r ≡ Ok x → FitsSent s x
fits_commanded s f (Ok page) x e = fits_ok s (sent.Command (f page)) x tt e
fits_commanded s f (Err t) x e = absurd (err_ok t x (Err t) refl e)

fits_log : (s : RestartState) (x : RestartSent) (p : Option LogCall) → s.own.is_read ≡ false → call_sent p ≡ Ok x → FitsSent s x
fits_log s x None unread e = absurd (err_ok test.AlreadyRead x (Err test.AlreadyRead) refl e)
fits_log s x (Some call.Length) unread e = fits_ok s sent.LogLength x unread e
fits_log s x (Some (call.Read at count)) unread e = fits_ok s (sent.ReadLog at count) x unread e

fits_hand : (s : RestartState) (x : RestartSent) (p : Option PageId) → reads p ≡ Ok x → FitsSent s x
fits_hand s x None e = absurd (err_ok test.NotPlaced x (Err test.NotPlaced) refl e)
fits_hand s x (Some page) e = fits_ok s (sent.Command (command.Read page 0)) x tt e

fits_filled : (s : RestartState) (x : RestartSent) (p : Option PageId) → reads_page s p ≡ Ok x → FitsSent s x
fits_filled s x None e = absurd (err_ok test.NotPlaced x (Err test.NotPlaced) refl e)
fits_filled s x (Some page) e = fits_as s (when s.hand.registered test.NotRegistered (when (not s.hand.filled) test.StillFilled passed)) (sent.ReadPage page) x tt e

fits_written : (s : RestartState) (x : RestartSent) (p : Option PageId) → writes s p ≡ Ok x → FitsSent s x
fits_written s x None e = absurd (err_ok test.NotPlaced x (Err test.NotPlaced) refl e)
fits_written s x (Some page) e = fits_as s (when s.hand.changed test.NotChanged (when s.hand.filled test.NotFilled (when (nat_le s.hand.last s.log.stable) test.NotStable (owner_test s page)))) (sent.Command (command.Write page 0)) x tt e

fits_purged : (s : RestartState) (x : RestartSent) (p : Option PageId) → purges_page s p ≡ Ok x → FitsSent s x
fits_purged s x None e = absurd (err_ok test.NotPlaced x (Err test.NotPlaced) refl e)
fits_purged s x (Some page) e =
    fits_as s (after (listed_test s) (when (is_some s.hand.key) test.NotRetained (when s.hand.brought test.NotBrought (when (not s.hand.changed) test.StillChanged (when (not (is_claimed s page)) test.StillClaimed passed))))) (sent.Command (command.Purge (name.Page page))) x tt e

fits_undone : (s : RestartState) (x : RestartSent) (p : Option Newest) → undo_with s p ≡ Ok x → FitsSent s x
fits_undone s x None e = absurd (err_ok test.NoneStands x (Err test.NoneStands) refl e)
fits_undone s x (Some it) e = fits_as s (undo_test s it.change) (sent.Command undo_command) x tt e

fits_released : (s : RestartState) (x : RestartSent) (p : Option PageId) → releases s p ≡ Ok x → FitsSent s x
fits_released s x None e = absurd (err_ok test.NotClaimed x (Err test.NotClaimed) refl e)
fits_released s x (Some page) e = fits_as s (unchanged_test s page) (sent.Command (command.Release (name.Page page) (record { share = false; exclusive = false }))) x tt e

fits_cut : (s : RestartState) (x : RestartSent) → need_of s intent.CutTail ≡ Ok x → FitsSent s x
fits_cut s x e =
    let some : Tested = when (not (s.own.tail == 0)) test.NoTail passed in
    let all : Tested = when s.own.is_read test.NotRead some in
    let shown : holds all ≡ true = after_first all (just (sent.CutLog s.own.long)) x e in
    let read : s.own.is_read ≡ true = when_first s.own.is_read test.NotRead some shown in
    let tail : s.own.tail ≢ 0 = not_zero s.own.tail (when_first (not (s.own.tail == 0)) test.NoTail passed (when_rest s.own.is_read test.NotRead some shown)) in
    fits_as s all (sent.CutLog s.own.long) x (read, tail, refl) e

fits_append : (s : RestartState) (x : RestartSent) → need_of s intent.Append ≡ Ok x → FitsSent s x
fits_append s x e =
    let none : Tested = when (s.own.tail == 0) test.HasTail passed in
    let all : Tested = when (not (length s.log.pending == 0)) test.NonePending none in
    let shown : holds all ≡ true = after_first all (just sent.AppendLog) x e in
    let waits : (length s.log.pending == 0) ≡ false = not_true (length s.log.pending == 0) (when_first (not (length s.log.pending == 0)) test.NonePending none shown) in
    let tail : s.own.tail ≡ 0 = eqb-true s.own.tail 0 (when_first (s.own.tail == 0) test.HasTail passed (when_rest (not (length s.log.pending == 0)) test.NonePending none shown)) in
    fits_as s all sent.AppendLog x (waits, tail) e

pub fits_sent : (s : RestartState) (i : RestartIntent) (x : RestartSent) → need_of s i ≡ Ok x → FitsSent s x
fits_sent s intent.Step x e = fits_ok s sent.None x tt e
fits_sent s intent.ReadLog x e =
    let first : Tested = when (not s.own.is_read) test.AlreadyRead passed in
    fits_log s x (next_in s.own.reader) (not_true s.own.is_read (when_first (not s.own.is_read) test.AlreadyRead passed (after_first first (call_sent (next_in s.own.reader)) x e))) (after_rest first (call_sent (next_in s.own.reader)) x e)
fits_sent s intent.CutTail x e = fits_cut s x e
fits_sent s intent.RetainedAt x e = fits_as s (when s.own.is_read test.NotRead (when (not (is_end_listed s)) test.AlreadyListed passed)) (sent.Command (command.RetainedAt s.listed)) x tt e
fits_sent s intent.Read x e = fits_hand s x s.hand.page e
fits_sent s intent.ReadPage x e = fits_filled s x s.hand.page e
fits_sent s intent.Test x e = fits_as s (when (is_some s.hand.page) test.NotPlaced (when s.hand.filled test.NotFilled passed)) (sent.Command (command.Test 0)) x tt e
fits_sent s intent.WritePage x e = fits_written s x s.hand.page e
fits_sent s intent.PurgePage x e = fits_purged s x s.hand.page e
fits_sent s (intent.Purge n) x e =
    fits_as s (after (when (mark_of s.names n).retained test.NotRetained (when ((mark_of s.names n).needed == 0) test.StillNeeded passed)) (after (recovered_test s) (when (not s.hand.changed) test.StillChanged (when (length s.log.pending == 0) test.StillPending passed)))) (sent.Command (command.Purge n)) x tt e
fits_sent s intent.Append x e = fits_append s x e
fits_sent s (intent.Obtain id) x e = fits_commanded s (λ page. command.Obtain (name.Page page) X) (lock_test s id) x e
fits_sent s (intent.Ask id to) x e = fits_commanded s (λ page. command.Ask 0 to (name.Page page) X) (page_asked s id) x e
fits_sent s (intent.Answers id asked) x e = fits_commanded s (λ page. command.Answers 0) (page_asked s id) x e
fits_sent s (intent.Grant id) x e = fits_commanded s (λ page. command.Grant 0 (name.Page page) X) (lock_test s id) x e
fits_sent s (intent.Status m) x e = fits_ok s (sent.Command (command.Status m)) x tt e
fits_sent s (intent.Undo id) x e = fits_undone s x (newest s.trans id) e
fits_sent s intent.ReleasePage x e = fits_released s x s.claim e
fits_sent s intent.Unregister x e = fits_as s (when (is_none s.hand.page) test.StillPlaced passed) (sent.Command (command.Unregister 0)) x tt e
fits_sent s intent.Up x e = fits_as s (after (recovered_test s) (after (over_test s) (rest_test s))) (sent.Command (command.SetStatus Up)) x tt e

-- ---- a number that is drawn for what is taken back is one of a record
same_command : (c d : Command) → just (sent.Command c) ≡ just (sent.Command d) → c ≡ d
same_command c d e = cc

undo_sends : (s : RestartState) (o : Option Newest) (c : Command) → undo_with s o ≡ Ok (sent.Command c) → c ≡ undo_command
undo_sends s None c e = absurd (err_ok test.NoneStands (sent.Command c) (Err test.NoneStands) refl e)
undo_sends s (Some it) c e = sym (same_command undo_command c (after_rest (undo_test s it.change) (just (sent.Command undo_command)) (sent.Command c) e))

drawn_is : (o : Option ℕ) (counter lrsn : ℕ) → drawn o counter ≡ reply.Drawn lrsn → lrsn ≡ counter + 1
drawn_is None counter lrsn e = let f : counter + 1 ≡ lrsn = cc in sym f
drawn_is (Some index) counter lrsn e = absurd cc

is_written : (n : ℕ) → IsLrsn n → IsNumber version.Two n
is_written n h = h

undo_draws : (w v : facility.Held) (m : ℕ) (page back : List ℕ) (answer : Reply) → CanExecute w m undo_command → Executes w m undo_command page answer v back → IsWritten answer
undo_draws w v m page back answer can does lrsn is =
    let e : lrsn ≡ w.counter + 1 = drawn_is (first_stale w.directory m (given undo_indexes)) w.counter lrsn (sym does.0.0 ∙ is) in
    subst (IsNumber version.Two) (sym e) (is_written (w.counter + 1) can.1)
  where
    undo_indexes : Indexes
    undo_indexes = record { count = 1; at = 0 ∷ 0 ∷ 0 ∷ [] }

pub draws_undo : (w v : facility.Held) (h k : Held) (i : RestartIntent) (c : Command) (answer : Reply) → need_of h.marks i ≡ Ok (sent.Command c) → Gives h w c answer k v → IsWrittenFor i answer
draws_undo w v h k intent.Step c answer e g = tt
draws_undo w v h k intent.ReadLog c answer e g = tt
draws_undo w v h k intent.CutTail c answer e g = tt
draws_undo w v h k intent.RetainedAt c answer e g = tt
draws_undo w v h k intent.Read c answer e g = tt
draws_undo w v h k intent.ReadPage c answer e g = tt
draws_undo w v h k intent.Test c answer e g = tt
draws_undo w v h k intent.WritePage c answer e g = tt
draws_undo w v h k intent.PurgePage c answer e g = tt
draws_undo w v h k (intent.Purge n) c answer e g = tt
draws_undo w v h k intent.Append c answer e g = tt
draws_undo w v h k (intent.Obtain id) c answer e g = tt
draws_undo w v h k (intent.Ask id to) c answer e g = tt
draws_undo w v h k (intent.Answers id asked) c answer e g = tt
draws_undo w v h k (intent.Grant id) c answer e g = tt
draws_undo w v h k (intent.Status m) c answer e g = tt
draws_undo w v h k (intent.Undo id) c answer e g =
    let is : c ≡ undo_command = undo_sends h.marks (newest h.marks.trans id) c e in
    undo_draws w v h.marks.member (lent_bytes h (is_hand h c)) (lent_bytes k (is_hand h c)) answer
    (subst (λ (z : Command). CanExecute w h.marks.member z) is g.can)
    (subst (λ (z : Command). Executes w h.marks.member z (lent_bytes h (is_hand h c)) answer v (lent_bytes k (is_hand h c))) is g.executed.executes)
draws_undo w v h k intent.ReleasePage c answer e g = tt
draws_undo w v h k intent.Unregister c answer e g = tt
draws_undo w v h k intent.Up c answer e g = tt
