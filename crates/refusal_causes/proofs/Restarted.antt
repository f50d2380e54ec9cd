-- No restart and no rebuild answers queries.
use Rattle.std.proofs.Common.{◌≡◌, ℕ, Bool, true, false, not, eqb, List, length, Option, Some, None, is_none, is_some, Result, Ok, Err, refl, sym, ap, subst}
use Rattle.std.specs.Prelude.{slice_get}
use Rattle.ds_base.specs.declared.names.PageId.{PageId}
use Rattle.ds_model.specs.declared.lock.Name.{Name}
use Rattle.list_structure.specs.declared.query.Asker.{Asker}
use Rattle.list_structure.specs.declared.query.CellAnswer.{CellAnswer}
use Rattle.lock_names.specs.declared.mode.Mode.{Mode}
use Rattle.facility.specs.declared.command.Command.{Command}
use Rattle.facility.specs.declared.command.Command.TheVariants as command
use Rattle.facility.specs.States as facility
use Rattle.log_reader.specs.declared.calls.LogCall.{LogCall}
use Rattle.log_reader.specs.declared.calls.LogCall.TheVariants as call
use Rattle.checkpoint_reader.specs.Readers.{next_call}
use Rattle.page_records.specs.declared.places.PageRecords.{PageRecords}
use Rattle.member_intents.specs.declared.outcome.Answered.{Answered}
use Rattle.rebuild_resources.specs.Events as rebuilding
use Rattle.rebuild_resources.specs.Needs as rebuild
use Rattle.rebuild_resources.specs.State.{RebuildState}
use Rattle.rebuild_resources.specs.declared.intent.RebuildIntent.{RebuildIntent}
use Rattle.rebuild_resources.specs.declared.intent.RebuildIntent.TheVariants as rebuild_intent
use Rattle.rebuild_resources.specs.declared.intent.RebuildSent.{RebuildSent}
use Rattle.rebuild_resources.specs.declared.intent.RebuildSent.TheVariants as rebuild_sent
use Rattle.rebuild_resources.specs.declared.intent.RebuildTest.{RebuildTest}
use Rattle.rebuild_resources.specs.declared.intent.RebuildTest.TheVariants as rebuild_test
use Rattle.rebuild_resources.specs.declared.told.RebuildTold.{RebuildTold}
use Rattle.restart_marks.specs.HandNeeds.{reads, reads_page, writes, purges_page}
use Rattle.restart_marks.specs.LockNeeds.{commands, lock_test, page_asked, releases, undo_with}
use Rattle.restart_marks.specs.Needs as restart
use Rattle.restart_marks.specs.OwnNeeds.{call_sent}
use Rattle.restart_marks.specs.State.{RestartState}
use Rattle.restart_marks.specs.Tested.{Tested, after, passed, sends, when}
use Rattle.restart_marks.specs.declared.intent.RestartIntent.{RestartIntent}
use Rattle.restart_marks.specs.declared.intent.RestartIntent.TheVariants as intent
use Rattle.restart_marks.specs.declared.intent.RestartSent.{RestartSent}
use Rattle.restart_marks.specs.declared.intent.RestartSent.TheVariants as sent
use Rattle.restart_marks.specs.declared.intent.RestartTest.{RestartTest}
use Rattle.restart_marks.specs.declared.intent.RestartTest.TheVariants as test
use Rattle.restart_records.specs.Own.{next_in}
use Rattle.restart_records.specs.declared.trans.Newest.{Newest}
use Rattle.restart_marks.specs.declared.told.RestartTold.{RestartTold}
use Rattle.restart_resources.specs.Events as restarting
use Rattle.restart_resources.specs.Held.{Held}
use Rattle.refusal_causes.specs.Answers.{AreGiven}
use Rattle.refusal_causes.proofs.Cells.{Knowledge, executed_given}
use Rattle.refusal_causes.proofs.Either.{either}

abbrev Asks : Command → Type 0
Asks (command.Answer asker n m said event) = ⊥
Asks _ = Unit {0}

-- no answer is known, since none is given
none_known : (K : Knowledge) (m : ℕ) (c : Command) → Asks c → (asker : Asker) (n : Name) (mode : Mode) (it : CellAnswer) (event : ℕ) → c ≡ command.Answer asker n mode it event → K m n mode it event
none_known K m c asks asker n mode it event e = absurd (subst Asks e asks)

abbrev Given : Knowledge → facility.Held → Type 0
Given K w = AreGiven K w.lists.cells

-- ---- a restart

abbrev NoAnswer : RestartSent → Type 0
NoAnswer (sent.Command c) = Asks c
NoAnswer _ = Unit {0}

abbrev NeedsNone : Result RestartSent RestartTest → Type 0
NeedsNone (Ok x) = NoAnswer x
NeedsNone (Err test) = Unit {0}

sends_none : (tested : Tested) (x : RestartSent) → NoAnswer x → NeedsNone (sends tested x)
sends_none (Ok u) x none = none
sends_none (Err test) x none = tt

after_none : (tested : Tested) (r : Result RestartSent RestartTest) → NeedsNone r → NeedsNone (after tested r)
after_none (Ok u) r none = none
after_none (Err test) r none = tt

commands_none : (f : PageId → Command) → ((page : PageId) → Asks (f page)) → (r : Result PageId RestartTest) → NeedsNone (commands f r)
commands_none f asks (Ok page) = asks page
commands_none f asks (Err test) = tt

calls_none : (o : Option LogCall) → NeedsNone (call_sent o)
calls_none None = tt
calls_none (Some call.Length) = tt
calls_none (Some (call.Read at count)) = tt

reads_none : (o : Option PageId) → NeedsNone (reads o)
reads_none None = tt
reads_none (Some page) = tt

reads_page_none : (s : RestartState) (o : Option PageId) → NeedsNone (reads_page s o)
reads_page_none s None = tt
reads_page_none s (Some page) = sends_none _ (sent.ReadPage page) tt

writes_none : (s : RestartState) (o : Option PageId) → NeedsNone (writes s o)
writes_none s None = tt
writes_none s (Some page) = sends_none _ (sent.Command (command.Write page 0)) tt

purges_none : (s : RestartState) (o : Option PageId) → NeedsNone (purges_page s o)
purges_none s None = tt
purges_none s (Some page) = sends_none _ _ tt

undo_none : (s : RestartState) (o : Option Newest) → NeedsNone (undo_with s o)
undo_none s None = tt
undo_none s (Some it) = sends_none _ _ tt

releases_none : (s : RestartState) (o : Option PageId) → NeedsNone (releases s o)
releases_none s None = tt
releases_none s (Some page) = sends_none _ _ tt

needs_none : (s : RestartState) (i : RestartIntent) → NeedsNone (restart.need_of s i)
needs_none s intent.Step = tt
needs_none s intent.ReadLog = after_none (when (not s.own.is_read) test.AlreadyRead passed) (call_sent (next_in s.own.reader)) (calls_none (next_in s.own.reader))
needs_none s intent.CutTail = sends_none _ _ tt
needs_none s intent.RetainedAt = sends_none _ _ tt
needs_none s intent.Read = reads_none s.hand.page
needs_none s intent.ReadPage = reads_page_none s s.hand.page
needs_none s intent.Test = sends_none _ _ tt
needs_none s intent.WritePage = writes_none s s.hand.page
needs_none s intent.PurgePage = purges_none s s.hand.page
needs_none s (intent.Purge n) = sends_none _ _ tt
needs_none s intent.Append = sends_none _ _ tt
needs_none s (intent.Obtain id) = commands_none _ (λ page. tt) (lock_test s id)
needs_none s (intent.Ask id to) = commands_none _ (λ page. tt) (page_asked s id)
needs_none s (intent.Answers id asked) = commands_none _ (λ page. tt) (page_asked s id)
needs_none s (intent.Grant id) = commands_none _ (λ page. tt) (lock_test s id)
needs_none s (intent.Status m) = tt
needs_none s (intent.Undo id) = undo_none s _
needs_none s intent.ReleasePage = releases_none s s.claim
needs_none s intent.Unregister = sends_none _ _ tt
needs_none s intent.Up = sends_none _ _ tt

restart_runs : (K : Knowledge) (w v : restarting.World) (h k : Held) (i : RestartIntent) (s : RestartSent) (a : Answered) (told : RestartTold) → NoAnswer s → restarting.Runs w h i s a told v k → Given K w.facility → Given K v.facility
restart_runs K w v h k i sent.None a told none r given = subst (Given K) (sym (ap (λ (x : restarting.World). x.facility) r.world)) given
restart_runs K w v h k i (sent.Command c) a told none r given =
    executed_given K w.facility v.facility h.marks.member c _ _ r.0.answer (none_known K h.marks.member c none) r.0.gives.executed.executes given
restart_runs K w v h k i sent.LogLength a told none r given = subst (Given K) (sym r.1) given
restart_runs K w v h k i (sent.ReadLog at count) a told none r given = subst (Given K) (sym r.1) given
restart_runs K w v h k i (sent.CutLog long) a told none r given = subst (Given K) (sym r.1) given
restart_runs K w v h k i sent.AppendLog a told none r given = subst (Given K) (sym r.1) given
restart_runs K w v h k i (sent.ReadPage page) a told none r given = subst (Given K) (sym r.1) given

pub restart_given : (K : Knowledge) (w v : restarting.World) (h k : Held) (s : RestartSent) (a : Answered) → restarting.Happens w h s a v k → Given K w.facility → Given K v.facility
restart_given K w v h k s a e given = restart_runs K w v h e.after e.intent s a e.said (subst NeedsNone e.lawful (needs_none h.marks e.intent)) e.runs given

-- ---- a rebuild

abbrev NoAnswerOf : RebuildSent → Type 0
NoAnswerOf (rebuild_sent.Command c) = Asks c
NoAnswerOf _ = Unit {0}

abbrev WantsNone : Result RebuildSent RebuildTest → Type 0
WantsNone (Ok x) = NoAnswerOf x
WantsNone (Err test) = Unit {0}

when_none : (b : Bool) (test : RebuildTest) (rest : rebuild.Need) → WantsNone rest → WantsNone (rebuild.when b test rest)
when_none true test rest none = none
when_none false test rest none = tt

log_none : (m : ℕ) (c : LogCall) → NoAnswerOf (rebuild.call_sent m c)
log_none m call.Length = tt
log_none m (call.Read at count) = tt

first_none : (o : Option PageRecords) → WantsNone (rebuild.first_sent o)
first_none None = tt
first_none (Some p) = tt

hand_none : (o : Option PageId) → WantsNone (rebuild.hand_sent o)
hand_none None = tt
hand_none (Some page) = tt

wants_none : (h : RebuildState) (i : RebuildIntent) → WantsNone (rebuild.need_of h i)
wants_none h rebuild_intent.Step = tt
wants_none h rebuild_intent.Claim = tt
wants_none h rebuild_intent.ReadLog =
    let call : rebuild.Need = Ok (rebuild.call_sent h.reader.member (next_call h.reader)) in
    when_none h.claimed rebuild_test.NotClaimed (rebuild.when (is_none h.merged) rebuild_test.AlreadyRead call)
    (when_none (is_none h.merged) rebuild_test.AlreadyRead call (log_none h.reader.member (next_call h.reader)))
wants_none h rebuild_intent.ReadPage =
    let first : rebuild.Need = rebuild.first_sent (slice_get h.pages 0) in
    let unwritten : rebuild.Need = rebuild.when (is_none h.hand) rebuild_test.NotWritten first in
    when_none h.claimed rebuild_test.NotClaimed (rebuild.when (is_some h.merged) rebuild_test.NotRead unwritten)
    (when_none (is_some h.merged) rebuild_test.NotRead unwritten (when_none (is_none h.hand) rebuild_test.NotWritten first (first_none (slice_get h.pages 0))))
wants_none h rebuild_intent.WritePage = when_none h.claimed rebuild_test.NotClaimed (rebuild.hand_sent h.hand) (hand_none h.hand)
wants_none h rebuild_intent.Rebuilt =
    let done : rebuild.Need = Ok (rebuild_sent.Command command.Rebuilt) in
    let unwritten : rebuild.Need = rebuild.when (is_none h.hand) rebuild_test.NotWritten done in
    let unbrought : rebuild.Need = rebuild.when (eqb (length h.pages) 0) rebuild_test.NotBrought unwritten in
    when_none h.claimed rebuild_test.NotClaimed (rebuild.when (is_some h.merged) rebuild_test.NotRead unbrought)
    (when_none (is_some h.merged) rebuild_test.NotRead unbrought
    (when_none (eqb (length h.pages) 0) rebuild_test.NotBrought unwritten (when_none (is_none h.hand) rebuild_test.NotWritten done tt)))
wants_none h rebuild_intent.Unclaim = tt

rebuild_runs : (K : Knowledge) (w v : rebuilding.World) (h k : RebuildState) (i : RebuildIntent) (s : RebuildSent) (a : Answered) (told : RebuildTold) → NoAnswerOf s → rebuilding.Runs w h i s a told v k → Given K w.facility → Given K v.facility
rebuild_runs K w v h k i rebuild_sent.None a told none r given = subst (Given K) (sym (ap (λ (x : rebuilding.World). x.facility) r.world)) given
rebuild_runs K w v h k i (rebuild_sent.Command c) a told none r given =
    executed_given K w.facility v.facility h.member c _ _ r.0.answer (none_known K h.member c none) r.0.gives.executes given
rebuild_runs K w v h k i (rebuild_sent.LogLength m) a told none r given = subst (Given K) (sym r.1) given
rebuild_runs K w v h k i (rebuild_sent.ReadLog m at count) a told none r given = subst (Given K) (sym r.1) given
rebuild_runs K w v h k i (rebuild_sent.ReadPage page) a told none r given = subst (Given K) (sym r.1) given
rebuild_runs K w v h k i (rebuild_sent.WritePage page) a told none r given = subst (Given K) (sym r.1) given

pub rebuild_given : (K : Knowledge) (w v : rebuilding.World) (h k : RebuildState) (s : RebuildSent) (a : Answered) → rebuilding.Happens w h s a v k → Given K w.facility → Given K v.facility
rebuild_given K w v h k s a e given = rebuild_runs K w v h k e.intent s a e.said (subst WantsNone e.lawful (wants_none h e.intent)) e.runs given
