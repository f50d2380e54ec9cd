-- A restart while it reads its log.
use Rattle.std.proofs.Common.{◌≡◌, ◌≢◌, ◌⊎◌, ℕ, ◌≤◌, refl, sym, ◌∙◌, ap, subst, arith, Bool, true, false, inl, inr, List, [], ◌∷◌, Option, Some, None, Result, Ok, Err}
use Rattle.std.specs.Prelude.{◌==◌, ◌&&◌, not, if◌then◌else◌}
use Rattle.std.proofs.lemmas.Bool.{both_ways, cond-false, cond-true, eq-eqb}
use Rattle.ds_base.specs.declared.names.PageId.{PageId}
use Rattle.ds_model.specs.declared.lock.Name.TheVariants as name
use Rattle.lock_names.specs.declared.mode.Mode.TheVariants.{X}
use Rattle.ds_disk.specs.Contents.{Contents}
use Rattle.ds_disk.specs.Pages as disk
use Rattle.cache_structure.specs.Directory.{Directory, after_unregister}
use Rattle.cache_structure.specs.Sound.{IsSound}
use Rattle.list_structure.specs.Standings.{status_of}
use Rattle.facility.specs.declared.command.Command.{Command}
use Rattle.facility.specs.declared.command.Command.TheVariants as command
use Rattle.facility.specs.declared.command.Reply.{Reply}
use Rattle.facility.specs.CacheCommands.{UnregistersFrame}
use Rattle.facility.specs.States.{Held as Facility}
use Rattle.member_intents.specs.declared.outcome.Answered.{Answered}
use Rattle.member_intents.specs.declared.outcome.Answered.TheVariants as answered
use Rattle.log_record.specs.declared.log.Log.{Log}
use Rattle.log_record.specs.Logs.{Parts}
use Rattle.log_reader.specs.declared.calls.LogCall.{LogCall}
use Rattle.log_reader.specs.declared.calls.LogCall.TheVariants as call
use Rattle.log_reader.specs.declared.calls.LogReply.{LogReply}
use Rattle.log_reader.specs.declared.calls.LogReply.TheVariants as logged
use Rattle.log_trans.specs.declared.damage.Damaged.{Damaged}
use Rattle.log_trans.specs.Damage.{log_damage}
use Rattle.checkpoint_reader.specs.Lending.{with_block}
use Rattle.checkpoint_reader.specs.Readers.{ReaderState, after_reply, is_whole, parts_read}
use Rattle.member_resources.specs.Events.{World as Outside}
use Rattle.restart_records.specs.declared.trans.Newest.{Newest}
use Rattle.restart_records.specs.Own.{OwnState, last_number, next_in, own_with}
use Rattle.restart_records.specs.Names.{mark_of, no_names}
use Rattle.restart_records.specs.Trans.{is_undone, is_undone_by, newest, no_trans, page_undone, tran_at}
use Rattle.restart_records.specs.Maps.{place_at}
use Rattle.restart_marks.specs.declared.hand.Hand.{Hand}
use Rattle.restart_marks.specs.declared.intent.RestartIntent.{RestartIntent}
use Rattle.restart_marks.specs.declared.intent.RestartIntent.TheVariants as intent
use Rattle.restart_marks.specs.declared.intent.RestartSent.{RestartSent}
use Rattle.restart_marks.specs.declared.intent.RestartSent.TheVariants as sent
use Rattle.restart_marks.specs.declared.intent.RestartTest.{RestartTest}
use Rattle.restart_marks.specs.declared.intent.RestartTest.TheVariants as test
use Rattle.restart_marks.specs.declared.told.RestartTold.{RestartTold}
use Rattle.restart_marks.specs.LockNeeds.{commands, locks_in, undo_with}
use Rattle.restart_marks.specs.Moves.{Local, TakeUpRetained, TakeUpUndone, PutDown, Close, Reaches, all_moved, closing_record, fits_in, may_close, moved}
use Rattle.restart_marks.specs.Needs.{need_of}
use Rattle.restart_marks.specs.OwnNeeds.{call_sent, is_end_listed}
use Rattle.restart_marks.specs.Reading.{entered, judged_after, log_from, read_on_after, reader_after, whole_after}
use Rattle.restart_marks.specs.State.{RestartState, with_own}
use Rattle.restart_marks.specs.Tested.{Tested, after, passed, when}
use Rattle.restart_resources.specs.declared.calls.Got.{Got}
use Rattle.restart_resources.specs.declared.calls.Got.TheVariants as got
use Rattle.restart_resources.specs.Calls as calls
use Rattle.restart_resources.specs.Calls.{Calls, ReadsBy, done_after, RunsCall, Stores, got_after}
use Rattle.restart_resources.specs.Events as restarting
use Rattle.restart_resources.specs.Events.{Ends, Runs, RunsCommand}
use Rattle.restart_resources.specs.Held.{Held, with_marks}
use Rattle.restart_resources.specs.Lending.{Executed, is_hand}
use Rattle.restart_resources.specs.Settled.{settled}
use Rattle.page_protocol.specs.Page.{put}
use Rattle.page_protocol.specs.Moves.{World}
use Rattle.page_protocol.specs.Always.{AlwaysGood}
use Rattle.page_intents.specs.Numbers.{AreNumbered}
use Rattle.page_world.specs.Frames.{PlacesStays, UnregistersMoves}
use Rattle.page_world.specs.Holdings.{Holdings, KeepsPages, with_facility}
use Rattle.page_world.specs.Numbers.{page_at, set_of}
use Rattle.page_members.specs.Members.{CommandsLeave, SameOthers, Shows, leaves_pages}
use Rattle.page_restarts.specs.Beside.{as_restarting}
use Rattle.page_restarts.specs.Events.{Owns, asks_page, frees_page}
use Rattle.page_restarts.specs.Locals.{ReachesGo}
use Rattle.page_restarts.specs.Locks.{StayGoes}
use Rattle.page_restarts.specs.Reading.{IsReading, LogIsWhole, ReadingBegins, ReadingGoes, ReadingLeads, ReadingOwns, reading}
use Rattle.page_restarts.specs.Stands.{Begins, Goes, IsRestarting, SameHand, behind, hand_copy}
use Rattle.page_restarts.proofs.Events.{own_reaches, owns_same, unasked, was_done}
use Rattle.page_restarts.proofs.Leading.{KeepsStandings, directory_standings, others_behind, others_facility, put_other, standings_of, standings_same, unregister_goes, went_on}
use Rattle.page_restarts.proofs.Needs.{asks_page as asks_page_of, err_ok, just_as, sent_as}
use Rattle.page_restarts.proofs.Owning.{still}
use Rattle.page_restarts.proofs.Standing.{copy_none}

-- ---- what the policy does then: nothing
untouched : (o : Option ℕ) → is_undone_by (tran_at no_trans o) ≡ false
untouched None = refl
untouched (Some at) = refl

never_closed : (a b c d : Bool) → c ≡ false → (a && (b && (c && d))) ≡ false
never_closed true true c d e = ap (λ z. z && d) e
never_closed true false c d e = refl
never_closed false b c d e = refl

one_still : (x : Local) (m : ℕ) (own : OwnState) → moved x (reading m own) ≡ reading m own
one_still TakeUpRetained m own = refl
one_still (TakeUpUndone id) m own = refl
one_still PutDown m own = refl
one_still (Close id) m own =
    let s = reading m own in
    cond-false (may_close s id) _ s (never_closed (not (id == 0)) true (is_undone no_trans id) (fits_in s.log (closing_record s id)) (untouched (place_at no_trans.places id)))

all_still : (xs : List Local) (m : ℕ) (own : OwnState) → all_moved xs (reading m own) ≡ reading m own
all_still [] m own = refl
all_still (x ∷ xs) m own = ap (all_moved xs) (one_still x m own) ∙ all_still xs m own

reaches_still : (m : ℕ) (own : OwnState) (s t : RestartState) → s ≡ reading m own → Reaches s t → t ≡ reading m own
unfolding Reaches
reaches_still m own s t is r = r.1 ∙ ap (all_moved r.0) is ∙ all_still r.0 m own

-- ---- what it reads
record ReadsStill (m : ℕ) (t : RestartState) : Type 0 where
  pub own : OwnState
  pub is : t ≡ reading m own
  pub unread : own.is_read ≡ false

record HasRead (m : ℕ) (t : RestartState) : Type 0 where
  pub own : OwnState
  pub log : Log
  pub is : t ≡ entered (reading m own) log

abbrev ReadsSo : ℕ → RestartState → Type 0
ReadsSo m t = ReadsStill m t ⊎ HasRead m t

judged : (m : ℕ) (own : OwnState) (log : Log) (d : Option Damaged) → own.is_read ≡ false → ReadsSo m (judged_after (reading m own) log d)
judged m own log None unread = inr (record { own = own; log = log; is = refl })
judged m own log (Some d) unread = inl (record { own = own; is = refl; unread = unread })

whole : (m k : ℕ) (own : OwnState) (p : Result Parts ℕ) → own.is_read ≡ false → ReadsSo m (whole_after (reading m own) k p)
whole m k own (Err at) unread = inl (record { own = own; is = refl; unread = unread })
whole m k own (Ok p) unread = judged m own (log_from k p) (log_damage (log_from k p ∷ [])) unread

read_by : (m : ℕ) (own : OwnState) (r : ReaderState) (b : Bool) → own.is_read ≡ false → ReadsSo m (if b then whole_after (reading m own) r.member (parts_read r) else with_own (reading m own) (own_with own (Some r)))
read_by m own r true unread = whole m r.member own (parts_read r) unread
read_by m own r false unread = inl (record { own = own_with own (Some r); is = refl; unread = unread })

reads_so : (m : ℕ) (own : OwnState) (o : Option ReaderState) (x : LogReply) → own.is_read ≡ false → ReadsSo m (reader_after (reading m own) o x)
reads_so m own None x unread = inl (record { own = own; is = refl; unread = unread })
reads_so m own (Some r) x unread = read_by m (own_with own None) (after_reply r x) (is_whole (after_reply r x)) unread

reads_on : (m : ℕ) (own : OwnState) (s : RestartState) (x : LogReply) → s ≡ reading m own → own.is_read ≡ false → ReadsSo m (read_on_after s x)
reads_on m own s x is unread = subst (λ (z : RestartState). ReadsSo m (read_on_after z x)) (sym is) (reads_so m own own.reader x unread)

-- ---- what is lawful
data Lawful (i : RestartIntent) (s : RestartSent) : Type 0 where
  Nothing : s ≡ sent.None → Lawful i s
  AsksLength : s ≡ sent.LogLength → Lawful i s
  AsksLog : (at count : ℕ) → s ≡ sent.ReadLog at count → Lawful i s
  Drops : ((x : Held) (answer : Reply) → settled x i answer ≡ x) → s ≡ sent.Command (command.Unregister 0) → Lawful i s
  Quietly : (c : Command) → leaves_pages c ≡ true → ((n : ℕ) → asks_page c n ≡ false) → ((n : ℕ) → frees_page c n ≡ false) → ((x : Held) → is_hand x c ≡ false) → ((x : Held) (answer : Reply) → settled x i answer ≡ x) → s ≡ sent.Command c → Lawful i s

never : {A : Type 0} → false ≡ true → A
never e = absurd (cc e)

called : (i : RestartIntent) (s : RestartSent) (o : Option LogCall) → call_sent o ≡ Ok s → Lawful i s
called i s None e = absurd (err_ok test.AlreadyRead s (Err test.AlreadyRead) refl e)
called i s (Some call.Length) e = AsksLength (just_as sent.LogLength s e)
called i s (Some (call.Read at count)) e = AsksLog at count (just_as (sent.ReadLog at count) s e)

-- no lock is asked for before all retained pages are recovered
locks_none : (m : ℕ) (own : OwnState) (f : PageId → Command) (s : RestartSent) (p : Option PageId) → commands f (locks_in (reading m own) p) ≡ Ok s → ⊥
locks_none m own f s None e = err_ok test.NoneStands s (Err test.NoneStands) refl e
locks_none m own f s (Some p) e = err_ok test.NotListed s (Err test.NotListed) refl e

undoes_none : (m : ℕ) (own : OwnState) (s : RestartSent) (o : Option Newest) → undo_with (reading m own) o ≡ Ok s → ⊥
undoes_none m own s None e = err_ok test.NoneStands s (Err test.NoneStands) refl e
undoes_none m own s (Some it) e = err_ok test.NotListed s (Err test.NotListed) refl e

is_read_first : (b : Bool) (rest : Tested) (x s : RestartSent) → b ≡ false → after (when b test.NotRead rest) (Ok x) ≡ Ok s → ⊥
is_read_first true rest x s never e = absurd (both_ways true never refl)
is_read_first false rest x s is e = err_ok test.NotRead s (Err test.NotRead) refl e

fails_then : (t rest : Tested) (test : RestartTest) (x s : RestartSent) → rest ≡ Err test → after (after t rest) (Ok x) ≡ Ok s → ⊥
fails_then (Ok y) rest test x s is e = err_ok test s (after rest (Ok x)) (ap (λ (z : Tested). after z (Ok x)) is) e
fails_then (Err other) rest test x s is e = err_ok other s (Err other) refl e

read_first : (b : Bool) (rest : Result RestartSent RestartTest) (s : RestartSent) → b ≡ false → after (when (not b) test.AlreadyRead passed) rest ≡ Ok s → rest ≡ Ok s
read_first true rest s never e = absurd (both_ways true never refl)
read_first false rest s is e = e

lawful : (m : ℕ) (own : OwnState) → own.is_read ≡ false → (i : RestartIntent) (s : RestartSent) → need_of (reading m own) i ≡ Ok s → Lawful i s
lawful m own unread intent.Step s e = Nothing (just_as sent.None s e)
lawful m own unread intent.ReadLog s e = called intent.ReadLog s (next_in own.reader) (read_first own.is_read (call_sent (next_in own.reader)) s unread e)
lawful m own unread intent.CutTail s e = absurd (is_read_first own.is_read (when (not (own.tail == 0)) test.NoTail passed) (sent.CutLog own.long) s unread e)
lawful m own unread intent.RetainedAt s e = absurd (is_read_first own.is_read (when (not (is_end_listed (reading m own))) test.AlreadyListed passed) (sent.Command (command.RetainedAt 0)) s unread e)
lawful m own unread intent.Read s e = absurd (err_ok test.NotPlaced s (Err test.NotPlaced) refl e)
lawful m own unread intent.ReadPage s e = absurd (err_ok test.NotPlaced s (Err test.NotPlaced) refl e)
lawful m own unread intent.Test s e = absurd (err_ok test.NotPlaced s (Err test.NotPlaced) refl e)
lawful m own unread intent.WritePage s e = absurd (err_ok test.NotPlaced s (Err test.NotPlaced) refl e)
lawful m own unread intent.PurgePage s e = absurd (err_ok test.NotPlaced s (Err test.NotPlaced) refl e)
lawful m own unread (intent.Purge n) s e =
    let marked : Tested = when (mark_of no_names n).retained test.NotRetained (when ((mark_of no_names n).needed == 0) test.StillNeeded passed) in
    absurd (fails_then marked (Err test.NotListed) test.NotListed (sent.Command (command.Purge n)) s refl e)
lawful m own unread intent.Append s e = absurd (err_ok test.NonePending s (Err test.NonePending) refl e)
lawful m own unread (intent.Obtain id) s e = absurd (locks_none m own (λ page. command.Obtain (name.Page page) X) s (page_undone no_trans id) e)
lawful m own unread (intent.Ask id to) s e = let x = asks_page_of (λ page. command.Ask 0 to (name.Page page) X) s (page_undone no_trans id) e in Quietly (command.Ask 0 to (name.Page x.0) X) refl (λ n. refl) (λ n. refl) (λ y. refl) (λ y answer. refl) x.1
lawful m own unread (intent.Answers id asked) s e = let x = asks_page_of (λ page. command.Answers 0) s (page_undone no_trans id) e in Quietly (command.Answers 0) refl (λ n. refl) (λ n. refl) (λ y. refl) (λ y answer. refl) x.1
lawful m own unread (intent.Grant id) s e = absurd (locks_none m own (λ page. command.Grant 0 (name.Page page) X) s (page_undone no_trans id) e)
lawful m own unread (intent.Status k) s e = Quietly (command.Status k) refl (λ n. refl) (λ n. refl) (λ y. refl) (λ y answer. refl) (just_as (sent.Command (command.Status k)) s e)
lawful m own unread (intent.Undo id) s e = absurd (undoes_none m own s (newest no_trans id) e)
lawful m own unread intent.ReleasePage s e = absurd (err_ok test.NotClaimed s (Err test.NotClaimed) refl e)
lawful m own unread intent.Unregister s e = Drops (λ y answer. refl) (sent_as passed (sent.Command (command.Unregister 0)) s e)
lawful m own unread intent.Up s e = absurd (err_ok test.NotListed s (Err test.NotListed) refl e)

-- ---- page locks
owns_by : (before : ℕ → Option ℕ) (m : ℕ) (a : Answered) (i : RestartIntent) (s : RestartSent) → Lawful i s → Owns before before m s a
owns_by before m a i s (Nothing e) = subst (λ z. Owns before before m z a) (sym e) (owns_same before m sent.None a (λ n. refl) (λ n. refl))
owns_by before m a i s (AsksLength e) = subst (λ z. Owns before before m z a) (sym e) (owns_same before m sent.LogLength a (λ n. refl) (λ n. refl))
owns_by before m a i s (AsksLog at count e) = subst (λ z. Owns before before m z a) (sym e) (owns_same before m (sent.ReadLog at count) a (λ n. refl) (λ n. refl))
owns_by before m a i s (Drops none e) = let c = command.Unregister 0 in subst (λ z. Owns before before m z a) (sym e) (owns_same before m (sent.Command c) a (λ n. unasked c a n refl) (λ n. refl))
owns_by before m a i s (Quietly c leaves asks frees unlent none e) = subst (λ z. Owns before before m z a) (sym e) (owns_same before m (sent.Command c) a (λ n. unasked c a n (asks n)) frees)

pub reading_owns : ReadingOwns
reading_owns u v h k s a before rest unread happens =
    let e : need_of (reading h.marks.member h.marks.own) happens.intent ≡ Ok s = subst (λ (z : RestartState). need_of z happens.intent ≡ Ok s) rest happens.lawful in
    owns_by before h.marks.member a happens.intent s (lawful h.marks.member h.marks.own unread happens.intent s e)

-- ---- the pages
pub record Facts : Type 0 where
  pub good : AlwaysGood
  pub leave : CommandsLeave
  pub sound : (d : Directory) (member index : ℕ) → IsSound d → IsSound (after_unregister d member index)
  pub places : PlacesStays
  pub unregisters : UnregistersMoves
  pub stay : StayGoes
  pub reaches : ReachesGo

-- it reads on
record GoesOn (h k : Held) : Type 0 where
  pub own : OwnState
  pub is : k.marks ≡ reading h.marks.member own
  pub unread : own.is_read ≡ false
  pub page : k.page ≡ h.page

same_copy : (a b : Hand) (p q : List ℕ) → a ≡ b → p ≡ q → hand_copy a p ≡ hand_copy b q
same_copy a b p q e f = ap (λ (z : Hand). hand_copy z p) e ∙ ap (hand_copy b) f

same_hand : (h k : Held) → h.marks ≡ reading h.marks.member h.marks.own → GoesOn h k → SameHand h k
same_hand h k was on = record {
  member = ap (λ (z : RestartState). z.member) on.is;
  log = ap (λ (z : RestartState). z.log) on.is ∙ sym (ap (λ (z : RestartState). z.log) was);
  page = ap (λ (z : RestartState). z.hand.page) on.is ∙ sym (ap (λ (z : RestartState). z.hand.page) was);
  copy = same_copy k.marks.hand h.marks.hand k.page h.page (ap (λ (z : RestartState). z.hand) on.is ∙ sym (ap (λ (z : RestartState). z.hand) was)) on.page;
  last = ap (λ (z : RestartState). z.hand.last) on.is ∙ sym (ap (λ (z : RestartState). z.hand.last) was);
}

put_same : (f : ℕ → ℕ) (m j x : ℕ) → j ≡ m → put f m x j ≡ x
put_same f m j x e = cond-true (j == m) x (f j) (eq-eqb j m e)

module _ (facts : Facts) (w : World) (u v : Outside) (g : Holdings) (content : ℕ → ℕ → List ℕ) (forced : ℕ → ℕ) (h k : Held) (b : IsReading w u g content forced h) where
  member : GoesOn h k → k.marks.member ≡ h.marks.member
  member on = ap (λ (z : RestartState). z.member) on.is

  rests : (on : GoesOn h k) → k.marks ≡ reading k.marks.member k.marks.own
  rests on =
      let m = member on in
      let own = ap (λ (z : RestartState). z.own) on.is in
      on.is ∙ (λ i. reading (sym m i) (sym own i))

  -- ---- it reads on, with what is left of the facility
  leads : (on : GoesOn h k) → Goes w content forced (with_facility g v.facility) h k → IsSound v.facility.directory → KeepsStandings g.facility v.facility → Shows v.drive g.disk → ReadingLeads w v g content forced h k
  leads on goes sound standings drive = record {
    moves = goes.moves;
    world = goes.moved.world;
    run = goes.moved.run;
    left = with_facility g v.facility;
    force = forced;
    stands = inl (record {
      begins = record { good = facts.good set_of goes.moves w goes.moved.world b.begins.good goes.moved.run; tied = goes.moved.tied; numbered = goes.numbered; sound = sound; restarts = goes.stands };
      facility = refl;
      drive = drive;
      level = subst (λ m. g.written m ≡ g.stable m) (sym (member on)) b.level;
      unread = ap (λ (z : RestartState). z.own.is_read) on.is ∙ on.unread;
      rest = rests on;
    });
    same = goes.same;
    others = others_facility g v.facility forced h.marks.member standings;
    owner = refl;
    casts = refl;
    level = b.level;
  }

  stays : GoesOn h k → KeepsPages g.facility v.facility → Shows v.drive g.disk → ReadingLeads w v g content forced h k
  stays on keeps drive =
      leads on (facts.stay w g content forced h k v.facility b.begins keeps (same_hand h k b.rest on)) (subst IsSound (sym keeps.directory) b.begins.sound) (standings_of g.facility v.facility keeps) drive

  drops : GoesOn h k → (answer : Reply) → UnregistersFrame u.facility h.marks.member 0 answer v.facility → Shows v.drive g.disk → ReadingLeads w v g content forced h k
  drops on answer done drive =
      let left = with_facility g v.facility in
      let does = subst (λ (f : Facility). UnregistersFrame f h.marks.member 0 answer v.facility) (sym b.facility) done in
      let goes = unregister_goes facts.places facts.unregisters w g content forced h answer v.facility b.begins (ap (λ (z : RestartState). z.hand.page) b.rest) does in
      let keeps : KeepsPages v.facility v.facility = record { directory = refl; counter = refl; members = refl; statuses = refl } in
      leads on (record { moves = goes.moves; moved = goes.moved; numbered = goes.numbered; casts = goes.casts; same = member on; stands = still left forced h k v.facility g.owner goes.stands keeps (same_hand h k b.rest on) })
      (subst (λ (z : Facility). IsSound z.directory) (sym does.1) (facts.sound g.facility.directory h.marks.member 0 b.begins.sound)) (directory_standings g.facility v.facility (after_unregister g.facility.directory h.marks.member 0) does.1) drive

-- ---- its log is whole
module _ (facts : Facts) (w : World) (u v : Outside) (g : Holdings) (content : ℕ → ℕ → List ℕ) (forced : ℕ → ℕ) (h mid k : Held) (own : OwnState) (log : Log)
    (b : IsReading w u g content forced h) (is : mid.marks ≡ entered (reading h.marks.member own) log) (tells : LogIsWhole w content forced mid) (ends : Ends mid k) (same : v.facility ≡ u.facility) (drive : Shows v.drive g.disk) where
  abbrev m : ℕ
  m = h.marks.member

  abbrev last : ℕ
  last = last_number log.records

  abbrev force : ℕ → ℕ
  force = put forced m last

  same_member : mid.marks.member ≡ m
  same_member = ap (λ (z : RestartState). z.member) is

  unchanged : mid.marks.hand.changed ≡ true → ⊥
  unchanged e = both_ways mid.marks.hand.changed (ap (λ (z : RestartState). z.hand.changed) is) e

  numbered : AreNumbered w content force
  numbered =
      subst (λ z. AreNumbered w content (put forced z last)) same_member
      (subst (λ z. AreNumbered w content (put forced mid.marks.member z)) (ap (λ (z : RestartState). z.log.stable) is) (tells (ap (λ (z : RestartState). z.own.is_read) is)))

  restarts : IsRestarting g force mid
  restarts =
      let r = b.begins.restarts in
      record {
        least = subst (λ z. 1 ≤ z) (sym same_member) r.least;
        among = subst (λ z. z ≤ g.facility.lists.members) (sym same_member) r.among;
        restarts = ap (status_of g.facility.lists.statuses) same_member ∙ r.restarts;
        log = put_same forced m mid.marks.member last same_member ∙ sym (ap (λ (z : RestartState). z.log.stable) is);
        last = below;
        pending = record { records = []; spelled = ap (λ (z : RestartState). z.log.pending) is; counted = (let e : g.written mid.marks.member ≡ g.stable mid.marks.member = subst (λ z. g.written z ≡ g.stable z) (sym same_member) b.level in omega (arith, e)) };
        full = λ e. absurd (unchanged e);
        shows = λ e. absurd (unchanged e);
        copies = λ n. ap (λ z. g.copies z n) same_member ∙ r.copies n ∙ copy_none h n (ap (λ (z : RestartState). z.hand.page) b.rest) ∙ sym (copy_none mid n (ap (λ (z : RestartState). z.hand.page) is));
      }
    where
      below : mid.marks.log.last ≤ g.facility.counter
      below =
          let drawn : force m ≤ w.group.counter = numbered.drawn m in
          let now : force m ≡ last = put_same forced m m last refl in
          let counter : w.group.counter ≡ g.facility.counter = b.begins.tied.counter in
          let there : mid.marks.log.last ≡ last = ap (λ (z : RestartState). z.log.last) is in
          omega (arith, drawn, now, counter, there)

  begins : Begins w g content force mid
  begins = record { good = b.begins.good; tied = b.begins.tied; numbered = numbered; sound = b.begins.sound; restarts = restarts }

  goes : Goes w content force (behind g g.facility mid.marks.member k) mid k
  goes = facts.reaches w g content force mid k begins (λ e _. absurd (unchanged e)) ends

  read_whole : ReadingLeads w v g content forced h k
  read_whole =
      let left = behind g g.facility mid.marks.member k in
      let o : SameOthers g left force force mid.marks.member = others_behind g g.facility force mid.marks.member k (standings_same g.facility) in
      record {
        moves = goes.moves;
        world = goes.moved.world;
        run = goes.moved.run;
        left = left;
        force = force;
        stands = inr (record {
          begins = record { good = facts.good set_of goes.moves w goes.moved.world b.begins.good goes.moved.run; tied = goes.moved.tied; numbered = goes.numbered; sound = b.begins.sound; restarts = goes.stands };
          facility = b.facility ∙ sym same;
          drive = drive;
          read = ap (λ (z : OwnState). z.is_read) (own_reaches mid.marks k.marks ends.0) ∙ ap (λ (z : RestartState). z.own.is_read) is;
        });
        same = goes.same ∙ same_member;
        others = record {
          members = o.members;
          statuses = λ j l ne. o.statuses j l (off j ne);
          counter = o.counter;
          log = λ j ne. put_other forced m j last ne;
          stable = λ j ne. o.stable j (off j ne);
          written = λ j ne. o.written j (off j ne);
          copies = λ j n ne. o.copies j n (off j ne);
          casts = λ j n ne. o.casts j n (off j ne);
          keeps = λ j n ne e. o.keeps j n (off j ne) e;
          takes = λ j n ne e. o.takes j n (off j ne) e;
        };
        owner = refl;
        casts = refl;
        level = b.level;
      }
    where
      off : (j : ℕ) → j ≢ m → j ≢ mid.marks.member
      off j ne e = ne (e ∙ same_member)

-- ---- any event
on_end : (h mid k : Held) → GoesOn h mid → Ends mid k → GoesOn h k
on_end h mid k on ends = record {
  own = on.own;
  is = reaches_still h.marks.member on.own mid.marks k.marks on.is ends.0;
  unread = on.unread;
  page = ap (λ (z : Held). z.page) ends.1 ∙ on.page;
}

as_it_was : (h mid : Held) → h.marks ≡ reading h.marks.member h.marks.own → h.marks.own.is_read ≡ false → mid.marks ≡ h.marks → mid.page ≡ h.page → GoesOn h mid
as_it_was h mid rest unread marks page = record { own = h.marks.own; is = marks ∙ rest; unread = unread; page = page }

module _ (facts : Facts) (w : World) (u v : Outside) (g : Holdings) (content : ℕ → ℕ → List ℕ) (forced : ℕ → ℕ) (h mid k : Held) (a : Answered) (said : RestartTold)
    (b : IsReading w u g content forced h) (works : a ≢ answered.Failed) (tells : LogIsWhole w content forced mid) (ends : Ends mid k) where
  drive_on : (as_restarting v).drive ≡ (as_restarting u).drive → Shows v.drive g.disk
  drive_on e = record { contents = b.drive.contents; told = ap (λ (z : calls.Drive). z.contents) e ∙ b.drive.told; each = b.drive.each }

  same_contents : (x : Contents) → v.drive.contents ≡ Some x → x ≡ b.drive.contents → Shows v.drive g.disk
  same_contents x told same = record { contents = x; told = told; each = λ n. ap (λ (z : Contents). disk.page_at z.pages (page_at n)) same ∙ b.drive.each n }

  keeps_itself : v.facility ≡ u.facility → KeepsPages g.facility v.facility
  keeps_itself e = subst (λ (f : Facility). KeepsPages g.facility f) (b.facility ∙ sym e) (record { directory = refl; counter = refl; members = refl; statuses = refl })

  itself : mid.marks ≡ h.marks → mid.page ≡ h.page → GoesOn h k
  itself marks page = on_end h mid k (as_it_was h mid b.rest b.unread marks page) ends

  -- ---- what was read is taken in
  taken : (own : OwnState) (x : LogReply) (t : Held) → t.marks ≡ reading h.marks.member own → own.is_read ≡ false → t.page ≡ h.page → mid ≡ with_marks t (read_on_after t.marks x) → v.facility ≡ u.facility → Shows v.drive g.disk → ReadingLeads w v g content forced h k
  taken own x t is unread page end same drive = by (reads_on h.marks.member own t.marks x is unread)
    where
      marks : mid.marks ≡ read_on_after t.marks x
      marks = ap (λ (z : Held). z.marks) end

      by : ReadsSo h.marks.member (read_on_after t.marks x) → ReadingLeads w v g content forced h k
      by (inl more) = stays facts w u v g content forced h k b (on_end h mid k (record { own = more.own; is = marks ∙ more.is; unread = more.unread; page = ap (λ (z : Held). z.page) end ∙ page }) ends) (keeps_itself same) drive
      by (inr read) = read_whole facts w u v g content forced h mid k read.own read.log b (marks ∙ read.is) tells ends same drive

  settle : (s : RestartSent) → ((y : Held) → done_after y s ≡ y) → (x : Got) (own : OwnState) (t : Held) → t.marks ≡ reading h.marks.member own → own.is_read ≡ false → t.page ≡ h.page → mid ≡ got_after t s x → v.facility ≡ u.facility → Shows v.drive g.disk → ReadingLeads w v g content forced h k
  settle s none got.Done own t is unread page end same drive =
      stays facts w u v g content forced h k b
      (on_end h mid k (record { own = own; is = ap (λ (z : Held). z.marks) (end ∙ none t) ∙ is; unread = unread; page = ap (λ (z : Held). z.page) (end ∙ none t) ∙ page }) ends) (keeps_itself same) drive
  settle s none (got.Length n) own t is unread page end same drive = taken own (logged.Length n) t is unread page end same drive
  settle s none (got.Count n) own t is unread page end same drive = taken own (logged.Count n) t is unread page end same drive

  asks_length : RunsCall (as_restarting u).drive h sent.LogLength a said (as_restarting v).drive mid → v.facility ≡ u.facility → ReadingLeads w v g content forced h k
  asks_length r same =
      let it = was_done r.after mid sent.LogLength r.done a said works r.stores in
      let told = subst (λ z. Calls (as_restarting u).drive h sent.LogLength z (as_restarting v).drive r.after) it.1 r.calls in
      let stored = subst (λ z. Stores r.after sent.LogLength z a said mid) it.1 r.stores in
      let on = went_on u.drive v.drive.contents g.disk b.drive _ told.0.ok.2 in
      settle sent.LogLength (λ y. refl) it.0 h.marks.own r.after (ap (λ (z : Held). z.marks) told.1 ∙ b.rest) b.unread (ap (λ (z : Held). z.page) told.1) stored.2 same (same_contents on.0 on.1 on.2.0)

  -- with a reader, or without
  reads_block : (at count : ℕ) (o : Option ReaderState) (t : Held) (x : Got) → ReadsBy o (as_restarting u).drive h at count (Ok x) (as_restarting v).drive t → mid ≡ got_after t (sent.ReadLog at count) x → v.facility ≡ u.facility → ReadingLeads w v g content forced h k
  reads_block at count None t x told end same =
      settle (sent.ReadLog at count) (λ y. refl) x h.marks.own t (ap (λ (z : Held). z.marks) told.2 ∙ b.rest) b.unread (ap (λ (z : Held). z.page) told.2) end same (drive_on told.1)
  reads_block at count (Some reader) t x told end same =
      let own : OwnState = own_with h.marks.own (Some (with_block reader told.block)) in
      let on = went_on u.drive v.drive.contents g.disk b.drive _ told.reads.ok.2 in
      settle (sent.ReadLog at count) (λ y. refl) x own t (ap (λ (z : Held). z.marks) told.held ∙ ap (λ (z : RestartState). with_own z own) b.rest) b.unread (ap (λ (z : Held). z.page) told.held) end same (same_contents on.0 on.1 on.2.0)

  asks_log : (at count : ℕ) → RunsCall (as_restarting u).drive h (sent.ReadLog at count) a said (as_restarting v).drive mid → v.facility ≡ u.facility → ReadingLeads w v g content forced h k
  asks_log at count r same =
      let it = was_done r.after mid (sent.ReadLog at count) r.done a said works r.stores in
      let told = subst (λ z. Calls (as_restarting u).drive h (sent.ReadLog at count) z (as_restarting v).drive r.after) it.1 r.calls in
      let stored = subst (λ z. Stores r.after (sent.ReadLog at count) z a said mid) it.1 r.stores in
      reads_block at count h.marks.own.reader r.after it.0 told stored.2 same

  -- ---- a command
  lent : (c : Command) (e : Held) (answer : Reply) → is_hand h c ≡ false → Executed h u.facility c (is_hand h c) answer e v.facility → Executed h u.facility c false answer e v.facility
  lent c e answer unlent x = subst (λ z. Executed h u.facility c z answer e v.facility) unlent x

  quietly : (i : RestartIntent) (c : Command) → leaves_pages c ≡ true → is_hand h c ≡ false → ((x : Held) (answer : Reply) → settled x i answer ≡ x) → RunsCommand u.facility h i c a said v.facility mid → (as_restarting v).drive ≡ (as_restarting u).drive → ReadingLeads w v g content forced h k
  quietly i c leaves unlent none r drive =
      let e = lent c r.after r.answer unlent r.gives.executed in
      let end : mid ≡ record h { spare = r.after.spare } = r.settles ∙ none r.after r.answer ∙ e.back in
      stays facts w u v g content forced h k b (itself (ap (λ (z : Held). z.marks) end) (ap (λ (z : Held). z.page) end))
      (subst (λ (f : Facility). KeepsPages f v.facility) (sym b.facility) (facts.leave u.facility v.facility h.marks.member c h.spare r.after.spare r.answer leaves e.executes)) (drive_on drive)

  dropped : (i : RestartIntent) → ((x : Held) (answer : Reply) → settled x i answer ≡ x) → RunsCommand u.facility h i (command.Unregister 0) a said v.facility mid → (as_restarting v).drive ≡ (as_restarting u).drive → ReadingLeads w v g content forced h k
  dropped i none r drive =
      let e = r.gives.executed in
      let end : mid ≡ record h { spare = r.after.spare } = r.settles ∙ none r.after r.answer ∙ e.back in
      drops facts w u v g content forced h k b (itself (ap (λ (z : Held). z.marks) end) (ap (λ (z : Held). z.page) end)) r.answer e.executes.0 (drive_on drive)

  -- ---- by what is lawful
  ran : (i : RestartIntent) (s t : RestartSent) → s ≡ t → Runs (as_restarting u) h i s a said (as_restarting v) mid → Runs (as_restarting u) h i t a said (as_restarting v) mid
  ran i s t e r = subst (λ z. Runs (as_restarting u) h i z a said (as_restarting v) mid) e r

  by_lawful : (i : RestartIntent) (s : RestartSent) → Lawful i s → Runs (as_restarting u) h i s a said (as_restarting v) mid → ReadingLeads w v g content forced h k
  by_lawful i s (Nothing e) r =
      let q = ran i s sent.None e r in
      stays facts w u v g content forced h k b (itself (ap (λ (z : Held). z.marks) q.held) (ap (λ (z : Held). z.page) q.held)) (keeps_itself (ap (λ (z : restarting.World). z.facility) q.world)) (drive_on (ap (λ (z : restarting.World). z.drive) q.world))
  by_lawful i s (AsksLength e) r = let q = ran i s sent.LogLength e r in asks_length q.0 q.1
  by_lawful i s (AsksLog at count e) r = let q = ran i s (sent.ReadLog at count) e r in asks_log at count q.0 q.1
  by_lawful i s (Drops none e) r = let q = ran i s (sent.Command (command.Unregister 0)) e r in dropped i none q.0 q.1
  by_lawful i s (Quietly c leaves asks frees unlent none e) r = let q = ran i s (sent.Command c) e r in quietly i c leaves (unlent h) none q.0 q.1

pub reading_goes : Facts → ReadingGoes
reading_goes facts w u v g content forced h k s a b happens works tells =
    let e : need_of (reading h.marks.member h.marks.own) happens.intent ≡ Ok s = subst (λ (z : RestartState). need_of z happens.intent ≡ Ok s) b.rest happens.lawful in
    by_lawful facts w u v g content forced h happens.after k a happens.said b works tells happens.ends happens.intent s (lawful h.marks.member h.marks.own b.unread happens.intent s e) happens.runs

-- ---- the begin
fewer : (w : World) (content : ℕ → ℕ → List ℕ) (forced : ℕ → ℕ) (m : ℕ) → AreNumbered w content forced → AreNumbered w content (put forced m 0)
fewer w content forced m t = record {
  shown = t.shown;
  stable = λ n i l le. t.stable n i l (below ((w.pages n).author i) ((w.pages n).lrsn i) le);
  drawn = λ j. (let d = t.drawn j in let e = less j in omega (arith, d, e));
}
  where
    less : (j : ℕ) → put forced m 0 j ≤ forced j
    less j = elim (j == m) as (λ z. (if z then 0 else forced j) ≤ forced j) [ true ↦ omega arith | false ↦ omega arith ]

    below : (j x : ℕ) → x ≤ put forced m 0 j → x ≤ forced j
    below j x le = let e = less j in omega (arith, le, e)

pub reading_begins : ReadingBegins
reading_begins w u g content forced m h group left facility drive new = record {
  begins = record { good = group.good; tied = group.tied; numbered = fewer w content forced m group.numbered; sound = group.sound; restarts = restarts };
  facility = facility;
  drive = drive;
  level = subst (λ z. g.written z ≡ g.stable z) (sym member) left.level;
  unread = ap (λ (z : OwnState). z.is_read) new.marks.own.rest;
  rest = fresh ∙ (λ i. reading (sym member i) h.marks.own);
}
  where
    fresh : h.marks ≡ reading m h.marks.own
    fresh = new.marks.rest

    member : h.marks.member ≡ m
    member = ap (λ (z : RestartState). z.member) fresh

    clean : h.marks.hand.changed ≡ true → ⊥
    clean e = both_ways h.marks.hand.changed (ap (λ (z : RestartState). z.hand.changed) fresh) e

    restarts : IsRestarting g (put forced m 0) h
    restarts = record {
      least = subst (λ z. 1 ≤ z) (sym member) left.least;
      among = subst (λ z. z ≤ g.facility.lists.members) (sym member) left.among;
      restarts = ap (status_of g.facility.lists.statuses) member ∙ left.restarts;
      log = put_same forced m h.marks.member 0 member ∙ sym (ap (λ (z : RestartState). z.log.stable) fresh);
      last = (let e : h.marks.log.last ≡ 0 = ap (λ (z : RestartState). z.log.last) fresh in omega (arith, e));
      pending = record { records = []; spelled = ap (λ (z : RestartState). z.log.pending) fresh; counted = (let e : g.written h.marks.member ≡ g.stable h.marks.member = subst (λ z. g.written z ≡ g.stable z) (sym member) left.level in omega (arith, e)) };
      full = λ e. absurd (clean e);
      shows = λ e. absurd (clean e);
      copies = λ n. ap (λ z. g.copies z n) member ∙ left.copies n ∙ sym (copy_none h n (ap (λ (z : RestartState). z.hand.page) fresh));
    }
