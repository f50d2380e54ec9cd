-- An event of a rebuild, by what it sends.
use Rattle.std.proofs.Common.{◌≡◌, ◌≢◌, ℕ, ◌+◌, ◌<◌, ◌≤◌, refl, sym, ◌∙◌, ap, subst, Bool, true, false, inl, inr, List, [], ◌∷◌, length, Option, Some, None, Result, Ok, Err, arith}
use Rattle.std.specs.Prelude.{◌⊎◌, ◌==◌, if◌then◌else◌, is_none, is_some, min, slice_get}
use Rattle.std.specs.FinMap.{insert}
use Rattle.std.proofs.lemmas.Bool.{cases_eq, cond-false, cond-true, eq-eqb, ne_eqb}
use Rattle.ds_base.specs.declared.names.PageId.{PageId}
use Rattle.ds_disk.specs.Contents.{Contents, Becomes}
use Rattle.ds_disk.specs.declared.disk.DiskError.{DiskError}
use Rattle.ds_disk.specs.declared.disk.DiskError.TheVariants.{Failed, NoMemory}
use Rattle.cache_structure.specs.Directory.{Directory, after_rebuilt}
use Rattle.cache_structure.specs.Sound.{IsSound}
use Rattle.page_format.specs.Fields.{lrsn_of}
use Rattle.list_structure.specs.Standings.{status_of}
use Rattle.facility.specs.declared.command.Command.{Command}
use Rattle.facility.specs.declared.command.Command.TheVariants as command
use Rattle.facility.specs.declared.command.Reply.{Reply}
use Rattle.facility.specs.CacheCommands.{HasRebuilt}
use Rattle.facility.specs.Commands.{Executes}
use Rattle.facility.specs.States.{Held as Facility}
use Rattle.log_reader.specs.declared.calls.LogCall.{LogCall}
use Rattle.log_reader.specs.declared.calls.LogCall.TheVariants as call
use Rattle.log_reader.specs.Readers.{block_size}
use Rattle.checkpoint_reader.specs.Readers.{next_call}
use Rattle.page_records.specs.declared.places.PageRecords.{PageRecords}
use Rattle.member_intents.specs.declared.outcome.Answered.{Answered}
use Rattle.member_intents.specs.declared.outcome.Answered.TheVariants as answered
use Rattle.member_resources.specs.Events.{World as Outside, Drive}
use Rattle.rebuild_resources.specs.declared.calls.Got.{Got}
use Rattle.rebuild_resources.specs.declared.intent.RebuildIntent.{RebuildIntent}
use Rattle.rebuild_resources.specs.declared.intent.RebuildIntent.TheVariants as intent
use Rattle.rebuild_resources.specs.declared.intent.RebuildSent.{RebuildSent}
use Rattle.rebuild_resources.specs.declared.intent.RebuildSent.TheVariants as sent
use Rattle.rebuild_resources.specs.declared.intent.RebuildTest.{RebuildTest}
use Rattle.rebuild_resources.specs.declared.told.RebuildTold.{RebuildTold}
use Rattle.rebuild_resources.specs.Calls.{Stores}
use Rattle.rebuild_resources.specs.Calls as calls
use Rattle.rebuild_resources.specs.Events as rebuilding
use Rattle.rebuild_resources.specs.Events.{Runs}
use Rattle.rebuild_resources.specs.Needs.{Need, call_sent, first_sent, hand_sent, need_of, when}
use Rattle.rebuild_resources.specs.State.{RebuildState}
use Rattle.page_protocol.specs.Page.{Page, put, rebuild}
use Rattle.page_protocol.specs.Moves.{World, At, ReadLog, Rebuild, Rebuilt, IsRead, Run, log_read, with_cache}
use Rattle.page_protocol.specs.Always.{AlwaysGood}
use Rattle.page_world.specs.Numbers.{page_number, set_of}
use Rattle.page_world.specs.Holdings.{Holdings, KeepsPages, with_facility}
use Rattle.page_world.specs.Losses.{ReadsLogMoves, RebuildsMoves, RebuiltMoves, StaysTied}
use Rattle.page_intents.specs.Numbers.{AreNumbered}
use Rattle.page_members.specs.Members.{CommandsLeave, Group, SameOthers, Shows, WritesShow, leaves_pages}
use Rattle.page_rebuilds.specs.Rebuilds.{EventsGo, FollowsLogs, IsLedTo, RebuildGoes, as_rebuilding}

pub record Facts : Type 0 where
  pub stays : StaysTied
  pub reads_log : ReadsLogMoves
  pub rebuilds : RebuildsMoves
  pub rebuilt : RebuiltMoves
  pub leave : CommandsLeave
  pub show : WritesShow
  pub sound : (d : Directory) → IsSound d → IsSound (after_rebuilt d)
  pub good : AlwaysGood

-- ---- the numbers that versions show, behind each of the moves
read_numbered : (w : World) (content : ℕ → ℕ → List ℕ) (forced : ℕ → ℕ) (m : ℕ) → AreNumbered w content forced → AreNumbered (record { down = false; group = log_read w.group m; pages = w.pages }) content forced
read_numbered w content forced m t = record { shown = t.shown; stable = t.stable; drawn = t.drawn }

cache_numbered : (w : World) (content : ℕ → ℕ → List ℕ) (forced : ℕ → ℕ) → AreNumbered w content forced → AreNumbered (record { down = false; group = with_cache w.group; pages = w.pages }) content forced
cache_numbered w content forced t = record { shown = t.shown; stable = t.stable; drawn = t.drawn }

page_numbered : (w : World) (content : ℕ → ℕ → List ℕ) (forced : ℕ → ℕ) (n version : ℕ) → AreNumbered w content forced → AreNumbered (record { down = false; group = w.group; pages = put w.pages n (rebuild (w.pages n) version) }) content forced
page_numbered w content forced n version t = record {
  shown = λ j. by j (cases_eq j n) (λ p. (i : ℕ) → i < p.last → lrsn_of (content j (i + 1)) ≡ p.lrsn i) (t.shown j) (λ e. subst (λ z. (i : ℕ) → i < (w.pages z).last → lrsn_of (content j (i + 1)) ≡ (w.pages z).lrsn i) e (t.shown j));
  stable = λ j. by j (cases_eq j n) (λ p. (i : ℕ) → i < p.last → p.lrsn i ≤ forced (p.author i) → p.place i < w.group.stable (p.author i)) (t.stable j) (λ e. subst (λ z. (i : ℕ) → i < (w.pages z).last → (w.pages z).lrsn i ≤ forced ((w.pages z).author i) → (w.pages z).place i < w.group.stable ((w.pages z).author i)) e (t.stable j));
  drawn = t.drawn;
}
  where
    by : (j : ℕ) → (j ≡ n) ⊎ (j ≢ n) → (P : Page → Type 0) → P (w.pages j) → (j ≡ n → P (rebuild (w.pages n) version)) → P (put w.pages n (rebuild (w.pages n) version) j)
    by j (inl e) P other here = subst P (sym (cond-true (j == n) (rebuild (w.pages n) version) (w.pages j) (eq-eqb j n e))) (here e)
    by j (inr ne) P other here = subst P (sym (cond-false (j == n) (rebuild (w.pages n) version) (w.pages j) (ne_eqb j n ne))) other

-- ---- what the group holds of its members stays
record SameFacility (f v : Facility) : Type 0 where
  pub members : v.lists.members ≡ f.lists.members
  pub statuses : v.lists.statuses ≡ f.lists.statuses
  pub counter : v.counter ≡ f.counter

same_others : (g : Holdings) (f : Facility) (disk : ℕ → List ℕ) (forced : ℕ → ℕ) → SameFacility g.facility f → SameOthers g (record g { facility = f; disk = disk }) forced forced 0
same_others g f disk forced s = record {
  members = s.members;
  statuses = λ k l ne. ap (λ z. status_of z k) s.statuses;
  counter = (let e = s.counter in omega (arith, e));
  log = λ k ne. refl;
  stable = λ k ne. refl;
  written = λ k ne. refl;
  copies = λ k n ne. refl;
  casts = λ k n ne. refl;
  keeps = λ k n ne e. e;
  takes = λ k n ne e. e;
}

-- ---- what is lawful
when_ok : (b : Bool) (test : RebuildTest) (rest : Need) (s : RebuildSent) → when b test rest ≡ Ok s → rest ≡ Ok s
when_ok true test rest s e = e
when_ok false test rest s e = absurd (cc e)

abbrev Commanded : Command → Type 0
Commanded c = (c ≡ command.Rebuilt) ⊎ (leaves_pages c ≡ true)

abbrev sent_in : Need → RebuildSent
sent_in (Ok s) = s
sent_in (Err test) = sent.None

is_command : (a b : Command) → ◌≡◌ {A = Need} (Ok (sent.Command a)) (Ok (sent.Command b)) → a ≡ b
is_command a b e = cc e

call_none : (m : ℕ) (x : LogCall) (c : Command) → call_sent m x ≡ sent.Command c → ⊥
call_none m call.Length c e = cc e
call_none m (call.Read at count) c e = cc e

first_none : (o : Option PageRecords) (c : Command) → first_sent o ≡ Ok (sent.Command c) → ⊥
first_none None c e = cc e
first_none (Some p) c e = cc e

hand_none : (o : Option PageId) (c : Command) → hand_sent o ≡ Ok (sent.Command c) → ⊥
hand_none None c e = cc e
hand_none (Some p) c e = cc e

commanded : (h : RebuildState) (i : RebuildIntent) (c : Command) → need_of h i ≡ Ok (sent.Command c) → Commanded c
commanded h intent.Step c e = absurd (cc e)
commanded h intent.Claim c e = inr (subst (λ z. leaves_pages z ≡ true) (is_command command.Claim c e) refl)
commanded h intent.ReadLog c e =
    let last = when_ok (is_none h.merged) _ (Ok (call_sent h.reader.member (next_call h.reader))) (sent.Command c) (when_ok h.claimed _ _ (sent.Command c) e) in
    absurd (call_none h.reader.member (next_call h.reader) c (ap sent_in last))
commanded h intent.ReadPage c e =
    absurd (first_none (slice_get h.pages 0) c (when_ok (is_none h.hand) _ _ (sent.Command c) (when_ok (is_some h.merged) _ _ (sent.Command c) (when_ok h.claimed _ _ (sent.Command c) e))))
commanded h intent.WritePage c e = absurd (hand_none h.hand c (when_ok h.claimed _ _ (sent.Command c) e))
commanded h intent.Rebuilt c e =
    let last = when_ok (is_none h.hand) _ (Ok (sent.Command command.Rebuilt)) (sent.Command c) (when_ok (length h.pages == 0) _ _ (sent.Command c) (when_ok (is_some h.merged) _ _ (sent.Command c) (when_ok h.claimed _ _ (sent.Command c) e))) in
    inl (sym (is_command command.Rebuilt c last))
commanded h intent.Unclaim c e = inr (subst (λ z. leaves_pages z ≡ true) (is_command command.Unclaim c e) refl)

-- ---- what the disk tells
was_done : (after k : RebuildState) (s : RebuildSent) (x : Result Got DiskError) (a : Answered) (told : RebuildTold) → a ≢ answered.Failed → Stores after s x a told k → (got : Got) × (x ≡ Ok got)
was_done after k s (Ok got) a told works e = (got, refl)
was_done after k s (Err Failed) a told works e = absurd (works e.0)
was_done after k s (Err NoMemory) a told works e = absurd e

went_on : (d : Drive) (now : Option Contents) (pages : ℕ → List ℕ) (s : Shows d pages) (P : Contents → Contents → Type 0) → Becomes d.contents now P → (x : Contents) × (now ≡ Some x) × P s.contents x
went_on d now pages s P b = by now refl (subst (λ z. Becomes z now P) s.told b)
  where
    by : (o : Option Contents) → now ≡ o → Becomes (Some s.contents) now P → (x : Contents) × (now ≡ Some x) × P s.contents x
    by None is b = absurd (subst (λ z. Becomes (Some s.contents) z P) is b)
    by (Some x) is b = (x, is, subst (λ z. Becomes (Some s.contents) z P) is b)

shows_on : (d e : Drive) (pages : ℕ → List ℕ) (s : Shows d pages) → e.contents ≡ d.contents → Shows e pages
shows_on d e pages s same = record { contents = s.contents; told = same ∙ s.told; each = s.each }

module _ (facts : Facts) (w : World) (u v : Outside) (g : Holdings) (content : ℕ → ℕ → List ℕ) (forced : ℕ → ℕ) (b : Group w g content forced) (there : g.facility ≡ u.facility) (shows : Shows u.drive g.disk) where
  stay : KeepsPages g.facility v.facility → Shows v.drive g.disk → RebuildGoes w v g content forced
  stay keeps drive =
      let moved = facts.stays w g content v.facility b.tied keeps in
      record {
        left = with_facility g v.facility;
        goes = record {
          moves = [];
          world = moved.world;
          run = moved.run;
          stands = record {
            good = facts.good set_of [] w moved.world b.good moved.run;
            tied = moved.tied;
            numbered = subst (λ z. AreNumbered z content forced) (sym moved.run) b.numbered;
            sound = subst IsSound (sym keeps.directory) b.sound;
          };
          others = same_others g v.facility g.disk forced (record { members = keeps.members; statuses = keeps.statuses; counter = keeps.counter });
        };
        facility = refl;
        drive = drive;
        owner = refl;
      }

  keeps_same : v.facility ≡ u.facility → KeepsPages g.facility v.facility
  keeps_same same = subst (λ (z : Facility). KeepsPages g.facility z) (there ∙ sym same) (record { directory = refl; counter = refl; members = refl; statuses = refl })

  -- the contents are as they were
  same_drive : (done : (x : Contents) × (v.drive.contents ≡ Some x) × (x ≡ shows.contents)) → Shows v.drive g.disk
  same_drive done = shows_on u.drive v.drive g.disk shows (done.1 ∙ ap Some done.2 ∙ sym shows.told)

  -- ---- a log is read from its length on
  reads : (m : ℕ) (lost : Bool) → g.facility.directory.lost ≡ lost → v.facility ≡ u.facility → Shows v.drive g.disk → RebuildGoes w v g content forced
  reads m false e same drive = stay (keeps_same same) drive
  reads m true e same drive =
      let moved = facts.reads_log w g content m b.tied e in
      record {
        left = g;
        goes = record {
          moves = ReadLog m ∷ [];
          world = moved.world;
          run = moved.run;
          stands = record {
            good = facts.good set_of (ReadLog m ∷ []) w moved.world b.good moved.run;
            tied = moved.tied;
            numbered = subst (λ z. AreNumbered z content forced) (sym (moved.run.2 ∙ moved.run.1.2)) (read_numbered w content forced m b.numbered);
            sound = b.sound;
          };
          others = same_others g g.facility g.disk forced (record { members = refl; statuses = refl; counter = refl });
        };
        facility = there ∙ sym same;
        drive = drive;
        owner = refl;
      }

  -- ---- a page is written
  writes : (page : PageId) (bytes : List ℕ) → IsLedTo w g content (page_number page) bytes → v.facility ≡ u.facility → (x : Contents) → v.drive.contents ≡ Some x → x ≡ record shows.contents { pages = insert shows.contents.pages page bytes } → RebuildGoes w v g content forced
  writes page bytes led same x told is =
      let n = page_number page in
      let moved = facts.rebuilds w g content n led.version b.tied led.lost led.read in
      let step = moved.run.1.1 in
      let world : moved.world ≡ record { down = false; group = w.group; pages = put w.pages n (rebuild (w.pages n) led.version) } =
      moved.run.2 ∙ step.2 ∙ ap (λ (q : Page). record { down = false; group = w.group; pages = put w.pages n q }) step.1.2 in
      record {
        left = record g { disk = put g.disk n (content n led.version) };
        goes = record {
          moves = At n (Rebuild led.version) ∷ [];
          world = moved.world;
          run = moved.run;
          stands = record {
            good = facts.good set_of (At n (Rebuild led.version) ∷ []) w moved.world b.good moved.run;
            tied = moved.tied;
            numbered = subst (λ z. AreNumbered z content forced) (sym world) (page_numbered w content forced n led.version b.numbered);
            sound = b.sound;
          };
          others = same_others g g.facility (put g.disk n (content n led.version)) forced (record { members = refl; statuses = refl; counter = refl });
        };
        facility = there ∙ sym same;
        drive = subst (λ z. Shows v.drive (put g.disk n z)) led.same (facts.show u.drive v.drive g.disk shows x page bytes told (ap (λ (z : Contents). z.pages) is));
        owner = refl;
      }

  -- ---- the cache is rebuilt
  ends : (answer : Reply) (lost : Bool) → g.facility.directory.lost ≡ lost → HasRebuilt g.facility answer v.facility → (g.facility.directory.lost ≡ true → (n : ℕ) → IsRead w.group (w.pages n) (w.pages n).disk) → Shows v.drive g.disk → RebuildGoes w v g content forced
  ends answer lost e r read drive =
      let moved = facts.rebuilt w g content answer v.facility b.tied read r in
      record {
        left = with_facility g v.facility;
        goes = record {
          moves = if g.facility.directory.lost then Rebuilt ∷ [] else [];
          world = moved.world;
          run = moved.run;
          stands = record {
            good = facts.good set_of (if g.facility.directory.lost then Rebuilt ∷ [] else []) w moved.world b.good moved.run;
            tied = moved.tied;
            numbered = numbered_by moved.world g.facility.directory.lost moved.run;
            sound = subst (λ (f : Facility). IsSound f.directory) (sym r.1) (facts.sound g.facility.directory b.sound);
          };
          others = same_others g v.facility g.disk forced (subst (λ (f : Facility). SameFacility g.facility f) (sym r.1) (record { members = refl; statuses = refl; counter = refl }));
        };
        facility = refl;
        drive = drive;
        owner = refl;
      }
    where
      numbered_by : (z : World) (x : Bool) → Run set_of w (if x then Rebuilt ∷ [] else []) z → AreNumbered z content forced
      numbered_by z true run = subst (λ y. AreNumbered y content forced) (sym (run.2 ∙ run.1.3)) (cache_numbered w content forced b.numbered)
      numbered_by z false run = subst (λ y. AreNumbered y content forced) (sym run) b.numbered

  -- ---- by what is sent
  by_sent : (h k : RebuildState) (i : RebuildIntent) (s : RebuildSent) (a : Answered) (told : RebuildTold) → need_of h i ≡ Ok s → Runs (as_rebuilding u) h i s a told (as_rebuilding v) k → FollowsLogs w g content h s a → RebuildGoes w v g content forced
  by_sent h k i sent.None a told lawful r follows =
      stay (keeps_same (ap (λ (z : rebuilding.World). z.facility) r.world)) (shows_on u.drive v.drive g.disk shows (ap (λ (z : rebuilding.World). z.drive.contents) r.world))
  by_sent h k i (sent.Command c) a told lawful r follows = elim (commanded h i c lawful) [
    | inl e ↦
        (let gives = subst (λ z. Executes u.facility h.member z h.page r.0.answer v.facility r.0.after.page) e r.0.gives.executes in
        ends r.0.answer g.facility.directory.lost refl (subst (λ (f : Facility). HasRebuilt f r.0.answer v.facility) (sym there) gives.0) (follows.rebuilt (ap sent.Command e)) (shows_on u.drive v.drive g.disk shows (ap (λ (z : calls.Drive). z.contents) r.1)))
    | inr quiet ↦ stay (subst (λ (f : Facility). KeepsPages f v.facility) (sym there) (facts.leave u.facility v.facility h.member c h.page r.0.after.page r.0.answer quiet r.0.gives.executes)) (shows_on u.drive v.drive g.disk shows (ap (λ (z : calls.Drive). z.contents) r.1))
  ]
  by_sent h k i (sent.LogLength m) a told lawful r follows =
      let x = r.0 in
      let done = was_done x.after k (sent.LogLength m) x.done a told follows.works x.stores in
      let told_on = subst (λ z. calls.TellsLength m (as_rebuilding u).drive z (as_rebuilding v).drive) done.1 x.calls.0 in
      let on = went_on u.drive v.drive.contents g.disk shows _ told_on.ok.2 in
      reads m g.facility.directory.lost refl r.1 (same_drive (on.0, on.1, on.2.0))
  by_sent h k i (sent.ReadLog m at count) a told lawful r follows =
      let x = r.0 in
      let done = was_done x.after k (sent.ReadLog m at count) x.done a told follows.works x.stores in
      let told_on = subst (λ z. calls.TellsBlock m at (min count block_size) x.after.reader.block (as_rebuilding u).drive z (as_rebuilding v).drive) done.1 x.calls.0 in
      let on = went_on u.drive v.drive.contents g.disk shows _ told_on.ok.2 in
      stay (keeps_same r.1) (same_drive (on.0, on.1, on.2.0))
  by_sent h k i (sent.ReadPage page) a told lawful r follows =
      let x = r.0 in
      let done = was_done x.after k (sent.ReadPage page) x.done a told follows.works x.stores in
      let told_on = subst (λ z. calls.ReadsPage page x.after.page (as_rebuilding u).drive z (as_rebuilding v).drive) done.1 x.calls.0 in
      let on = went_on u.drive v.drive.contents g.disk shows _ told_on.ok.2 in
      stay (keeps_same r.1) (same_drive (on.0, on.1, on.2.1))
  by_sent h k i (sent.WritePage page) a told lawful r follows =
      let x = r.0 in
      let done = was_done x.after k (sent.WritePage page) x.done a told follows.works x.stores in
      let told_on = subst (λ z. calls.WritesPage page h.page (as_rebuilding u).drive z (as_rebuilding v).drive) done.1 x.calls.0 in
      let on = went_on u.drive v.drive.contents g.disk shows _ told_on.ok.2 in
      writes page h.page (follows.written page refl) r.1 on.0 on.1 on.2.1

pub events_go : Facts → EventsGo
events_go facts w u v g content forced h k s a b there shows happens follows = by_sent facts w u v g content forced b there shows h k happens.intent s a happens.said happens.lawful happens.runs follows
