-- What a lawful intent of a restart sends.
use Rattle.std.proofs.Common.{◌≡◌, ℕ, refl, sym, ◌∙◌, ap, subst, Bool, true, false, Option, Some, None, Result, Ok, Err}
use Rattle.std.specs.Prelude.{◌||◌, ◌==◌, not, is_none, is_some, length, nat_le}
use Rattle.ds_base.specs.declared.names.PageId.{PageId}
use Rattle.ds_model.specs.declared.lock.Name.{Name}
use Rattle.ds_model.specs.declared.lock.Name.TheVariants as name
use Rattle.lock_names.specs.declared.mode.Mode.TheVariants.{X}
use Rattle.list_structure.specs.declared.standing.MemberStatus.TheVariants.{Up}
use Rattle.log_reader.specs.declared.calls.LogCall.{LogCall}
use Rattle.log_reader.specs.declared.calls.LogCall.TheVariants as call
use Rattle.facility.specs.declared.command.Command.{Command}
use Rattle.facility.specs.declared.command.Command.TheVariants as command
use Rattle.restart_records.specs.declared.trans.Newest.{Newest}
use Rattle.restart_records.specs.Names.{mark_of}
use Rattle.restart_records.specs.Own.{next_in}
use Rattle.restart_records.specs.Trans.{newest, page_undone}
use Rattle.restart_marks.specs.declared.intent.RestartIntent.TheVariants as intent
use Rattle.restart_marks.specs.declared.intent.RestartSent.{RestartSent}
use Rattle.restart_marks.specs.declared.intent.RestartSent.TheVariants as sent
use Rattle.restart_marks.specs.declared.intent.RestartTest.{RestartTest}
use Rattle.restart_marks.specs.declared.intent.RestartTest.TheVariants as test
use Rattle.restart_marks.specs.HandNeeds.{owner_test, purges_page, reads, reads_page, writes}
use Rattle.restart_marks.specs.LockNeeds.{asked_in, commands, free_test, locks_in, releases, undo_command, undo_test, undo_with, unchanged_test}
use Rattle.restart_marks.specs.Moves.{is_claimed}
use Rattle.restart_marks.specs.OwnNeeds.{call_sent, is_end_listed, listed_test, over_test, purge_need, recovered_test, up_need}
use Rattle.restart_marks.specs.State.{RestartState}
use Rattle.restart_marks.specs.Tested.{Tested, after, passed, sends, when}
use Rattle.lock_world.specs.Tied.{is_own}
use Rattle.lock_restarts.specs.Sent.{IsStill, LocksPage, SendsLawfully}

abbrev pub holds : Tested → Bool
holds (Ok x) = true
holds (Err t) = false

pub err_ok : {T : Type 0} → (t : RestartTest) (y : T) (x : Result T RestartTest) → x ≡ Err t → x ≡ Ok y → ⊥
err_ok t y x a b = cc

pub same_ok : {T : Type 0} → (x y : T) (a b : Result T RestartTest) → a ≡ Ok x → b ≡ Ok y → a ≡ b → x ≡ y
same_ok x y a b p q e = cc

pub after_rest : {T : Type 0} → (t : Tested) (r : Result T RestartTest) (y : T) → after t r ≡ Ok y → r ≡ Ok y
after_rest (Ok x) r y e = e
after_rest {T} (Err t) r y e = absurd (err_ok t y (Err t) refl e)

pub after_first : {T : Type 0} → (t : Tested) (r : Result T RestartTest) (y : T) → after t r ≡ Ok y → holds t ≡ true
after_first (Ok x) r y e = refl
after_first {T} (Err t) r y e = absurd (err_ok t y (Err t) refl e)

never : false ≡ true → ⊥
never e = cc

pub when_first : (b : Bool) (t : RestartTest) (rest : Tested) → holds (when b t rest) ≡ true → b ≡ true
when_first true t rest h = refl
when_first false t rest h = absurd (never h)

pub when_rest : (b : Bool) (t : RestartTest) (rest : Tested) → holds (when b t rest) ≡ true → holds rest ≡ true
when_rest true t rest h = h
when_rest false t rest h = absurd (never h)

after_tests : (t rest : Tested) → holds (after t rest) ≡ true → holds rest ≡ true
after_tests (Ok x) rest h = h
after_tests (Err t) rest h = absurd (never h)

not_false : (b : Bool) → not b ≡ true → b ≡ false
not_false true e = absurd (never e)
not_false false e = refl

is_nothing : {T : Type 0} → (x : Option T) → is_none x ≡ true → x ≡ None
is_nothing None e = refl
is_nothing (Some x) e = absurd (never e)

sent_as : (t : Tested) (x y : RestartSent) → sends t x ≡ Ok y → y ≡ x
sent_as t x y e = let r : Ok x ≡ Ok y = after_rest t (Ok x) y e in sym (same_ok x y (Ok x) (Ok y) refl refl r)

still_as : (t : Tested) (x y : RestartSent) → IsStill x → sends t x ≡ Ok y → IsStill y
still_as t x y still e = subst (λ z. IsStill z) (sym (sent_as t x y e)) still

-- ---- the page's lock
commanded : (f : PageId → Command) (r : Result PageId RestartTest) (x : RestartSent) → commands f r ≡ Ok x → (page : PageId) × (r ≡ Ok page) × (x ≡ sent.Command (f page))
commanded f (Ok page) x e = (page, refl, sym (same_ok (sent.Command (f page)) x (Ok (sent.Command (f page))) (Ok x) refl refl e))
commanded f (Err t) x e = absurd (err_ok t x (Err t) refl e)

locks_page : (s : RestartState) (id : ℕ) (f : PageId → Command) (x : RestartSent) (p : Option PageId) → page_undone s.trans id ≡ p → commands f (locks_in s p) ≡ Ok x → LocksPage s id f x
locks_page s id f x None stands e = absurd (err_ok test.NoneStands x (Err test.NoneStands) refl e)
locks_page s id f x (Some page) stands e =
    let c = commanded f (locks_in s (Some page)) x e in
    let free : after (free_test s page) (Ok page) ≡ Ok c.0 = after_rest (recovered_test s) (after (free_test s page) (Ok page)) c.0 c.1 in
    let same : page ≡ c.0 = same_ok page c.0 (Ok page) (Ok c.0) refl refl (after_rest (free_test s page) (Ok page) c.0 free) in (
      page,
      c.2 ∙ ap (λ z. sent.Command (f z)) (sym same),
      stands,
      when_first (is_none s.claim || is_claimed s page) test.PagesFull passed (after_first (free_test s page) (Ok page) c.0 free),
    )

asks_page : (f : PageId → Command) (x : RestartSent) (p : Option PageId) → commands f (asked_in p) ≡ Ok x → (page : PageId) × (x ≡ sent.Command (f page))
asks_page f x p e = let c = commanded f (asked_in p) x e in (c.0, c.2)

-- ---- what is given up
released : (s : RestartState) (x : RestartSent) (p : Option PageId) → s.claim ≡ p → releases s p ≡ Ok x → (page : PageId) × (x ≡ sent.Command (command.Release (name.Page page) (record { share = false; exclusive = false }))) × (s.claim ≡ Some page)
released s x None claim e = absurd (err_ok test.NotClaimed x (Err test.NotClaimed) refl e)
released s x (Some page) claim e = (page, sent_as (unchanged_test s page) _ x e, claim)

purged_page : (s : RestartState) (x : RestartSent) (p : Option PageId) → purges_page s p ≡ Ok x → (page : PageId) × (x ≡ sent.Command (command.Purge (name.Page page))) × (is_claimed s page ≡ false)
purged_page s x None e = absurd (err_ok test.NotPlaced x (Err test.NotPlaced) refl e)
purged_page s x (Some page) e =
    let unclaimed : Tested = when (not (is_claimed s page)) test.StillClaimed passed in
    let unchanged : Tested = when (not s.hand.changed) test.StillChanged unclaimed in
    let brought : Tested = when s.hand.brought test.NotBrought unchanged in
    let retained : Tested = when (is_some s.hand.key) test.NotRetained brought in
    let tests : Tested = after (listed_test s) retained in
    let first : holds tests ≡ true = after_first tests (Ok (sent.Command (command.Purge (name.Page page)))) x e in
    let last : holds unclaimed ≡ true =
    when_rest (not s.hand.changed) test.StillChanged unclaimed
    (when_rest s.hand.brought test.NotBrought unchanged (when_rest (is_some s.hand.key) test.NotRetained brought (after_tests (listed_test s) retained first))) in
    (page, sent_as tests (sent.Command (command.Purge (name.Page page))) x e, not_false (is_claimed s page) (when_first (not (is_claimed s page)) test.StillClaimed passed last))

-- no page and no page set is known as retained by its name
named : (s : RestartState) (n : Name) → (mark_of s.names n).retained ≡ true → is_own n ≡ false
named s (name.Space t) e = refl
named s (name.Row t k) e = refl
named s (name.Page p) e = absurd (never e)
named s (name.Set k) e = absurd (never e)

purged : (s : RestartState) (n : Name) (x : RestartSent) → purge_need s n ≡ Ok x → (x ≡ sent.Command (command.Purge n)) × (is_own n ≡ false)
purged s n x e =
    let needed : Tested = when ((mark_of s.names n).needed == 0) test.StillNeeded passed in
    let marked : Tested = when (mark_of s.names n).retained test.NotRetained needed in
    let rest : Tested = after (recovered_test s) (when (not s.hand.changed) test.StillChanged (when (length s.log.pending == 0) test.StillPending passed)) in
    let tests : Tested = after marked rest in
    let first : holds tests ≡ true = after_first tests (Ok (sent.Command (command.Purge n))) x e in
    (sent_as tests (sent.Command (command.Purge n)) x e, named s n (when_first (mark_of s.names n).retained test.NotRetained needed (passes marked rest first)))
  where
    passes : (t rest : Tested) → holds (after t rest) ≡ true → holds t ≡ true
    passes (Ok y) rest h = refl
    passes (Err t) rest h = absurd (never h)

ups : (s : RestartState) (x : RestartSent) → up_need s ≡ Ok x → (x ≡ sent.Command (command.SetStatus Up)) × (s.claim ≡ None)
ups s x e =
    let ends : Tested = when (length s.log.pending == 0) test.StillPending (when (s.own.tail == 0) test.HasTail passed) in
    let claimed : Tested = when (is_none s.claim) test.StillClaimed ends in
    let rest : Tested = when (is_none s.hand.page) test.StillPlaced claimed in
    let over : Tested = after (over_test s) rest in
    let tests : Tested = after (recovered_test s) over in
    let first : holds tests ≡ true = after_first tests (Ok (sent.Command (command.SetStatus Up))) x e in
    let last : holds claimed ≡ true = when_rest (is_none s.hand.page) test.StillPlaced claimed (after_tests (over_test s) rest (after_tests (recovered_test s) over first)) in
    (sent_as tests (sent.Command (command.SetStatus Up)) x e, is_nothing s.claim (when_first (is_none s.claim) test.StillClaimed ends last))

-- ---- all else
abbrev just : RestartSent → Result RestartSent RestartTest
just x = Ok x

still_ok : (x y : RestartSent) → IsStill x → just x ≡ just y → IsStill y
still_ok x y still e = subst (λ z. IsStill z) (same_ok x y (just x) (just y) refl refl e) still

reads_log : (x : RestartSent) (p : Option LogCall) → call_sent p ≡ Ok x → IsStill x
reads_log x None e = absurd (err_ok test.AlreadyRead x (Err test.AlreadyRead) refl e)
reads_log x (Some call.Length) e = still_ok sent.LogLength x tt e
reads_log x (Some (call.Read at count)) e = still_ok (sent.ReadLog at count) x tt e

reads_hand : (x : RestartSent) (p : Option PageId) → reads p ≡ Ok x → IsStill x
reads_hand x None e = absurd (err_ok test.NotPlaced x (Err test.NotPlaced) refl e)
reads_hand x (Some page) e = still_ok (sent.Command (command.Read page 0)) x refl e

fills_hand : (s : RestartState) (x : RestartSent) (p : Option PageId) → reads_page s p ≡ Ok x → IsStill x
fills_hand s x None e = absurd (err_ok test.NotPlaced x (Err test.NotPlaced) refl e)
fills_hand s x (Some page) e = still_as (when s.hand.registered test.NotRegistered (when (not s.hand.filled) test.StillFilled passed)) (sent.ReadPage page) x tt e

writes_hand : (s : RestartState) (x : RestartSent) (p : Option PageId) → writes s p ≡ Ok x → IsStill x
writes_hand s x None e = absurd (err_ok test.NotPlaced x (Err test.NotPlaced) refl e)
writes_hand s x (Some page) e =
    still_as (when s.hand.changed test.NotChanged (when s.hand.filled test.NotFilled (when (nat_le s.hand.last s.log.stable) test.NotStable (owner_test s page)))) (sent.Command (command.Write page 0)) x refl e

undoes : (s : RestartState) (x : RestartSent) (p : Option Newest) → undo_with s p ≡ Ok x → IsStill x
undoes s x None e = absurd (err_ok test.NoneStands x (Err test.NoneStands) refl e)
undoes s x (Some it) e = still_as (undo_test s it.change) (sent.Command undo_command) x refl e

answers : (s : RestartState) (id : ℕ) (x : RestartSent) → commands (λ page. command.Answers 0) (asked_in (page_undone s.trans id)) ≡ Ok x → IsStill x
answers s id x e =
    let c = commanded (λ page. command.Answers 0) (asked_in (page_undone s.trans id)) x e in
    subst (λ z. IsStill z) (sym c.2) refl

pub sends_lawfully : SendsLawfully
sends_lawfully s intent.Step x e = still_ok sent.None x tt e
sends_lawfully s intent.ReadLog x e = reads_log x (next_in s.own.reader) (after_rest (when (not s.own.is_read) test.AlreadyRead passed) (call_sent (next_in s.own.reader)) x e)
sends_lawfully s intent.CutTail x e = still_as (when s.own.is_read test.NotRead (when (not (s.own.tail == 0)) test.NoTail passed)) (sent.CutLog s.own.long) x tt e
sends_lawfully s intent.RetainedAt x e = still_as (when s.own.is_read test.NotRead (when (not (is_end_listed s)) test.AlreadyListed passed)) (sent.Command (command.RetainedAt s.listed)) x refl e
sends_lawfully s intent.Read x e = reads_hand x s.hand.page e
sends_lawfully s intent.ReadPage x e = fills_hand s x s.hand.page e
sends_lawfully s intent.Test x e = still_as (when (is_some s.hand.page) test.NotPlaced (when s.hand.filled test.NotFilled passed)) (sent.Command (command.Test 0)) x refl e
sends_lawfully s intent.WritePage x e = writes_hand s x s.hand.page e
sends_lawfully s intent.PurgePage x e = purged_page s x s.hand.page e
sends_lawfully s (intent.Purge n) x e = purged s n x e
sends_lawfully s intent.Append x e = still_as (when (not (length s.log.pending == 0)) test.NonePending (when (s.own.tail == 0) test.HasTail passed)) sent.AppendLog x tt e
sends_lawfully s (intent.Obtain id) x e = locks_page s id (λ page. command.Obtain (name.Page page) X) x (page_undone s.trans id) refl e
sends_lawfully s (intent.Ask id to) x e = asks_page (λ page. command.Ask 0 to (name.Page page) X) x (page_undone s.trans id) e
sends_lawfully s (intent.Answers id asked) x e = answers s id x e
sends_lawfully s (intent.Grant id) x e = locks_page s id (λ page. command.Grant 0 (name.Page page) X) x (page_undone s.trans id) refl e
sends_lawfully s (intent.Status m) x e = still_ok (sent.Command (command.Status m)) x refl e
sends_lawfully s (intent.Undo id) x e = undoes s x (newest s.trans id) e
sends_lawfully s intent.ReleasePage x e = released s x s.claim refl e
sends_lawfully s intent.Unregister x e = still_as (when (is_none s.hand.page) test.StillPlaced passed) (sent.Command (command.Unregister 0)) x refl e
sends_lawfully s intent.Up x e = ups s x e
