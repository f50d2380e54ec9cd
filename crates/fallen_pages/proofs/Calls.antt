-- The calls of a group restart, by where it stands.
use Rattle.std.proofs.Common.{◌≡◌, ◌≢◌, ◌⊎◌, ℕ, ◌+◌, refl, sym, ◌∙◌, ap, subst, Bool, true, false, inl, inr, List, [], ◌∷◌, ◌++◌, Some, Result, Ok, Err}
use Rattle.std.specs.Prelude.{◌==◌, ◌||◌}
use Rattle.std.specs.FinMap.{insert}
use Rattle.std.proofs.lemmas.Bool.{both_ways, eq-eqb, ne_eqb}
use Rattle.ds_base.specs.declared.fault.NoMemory.{NoMemory}
use Rattle.ds_base.specs.declared.names.PageId.{PageId}
use Rattle.ds_model.specs.RecordBytes.{log_bytes}
use Rattle.ds_disk.specs.Answers.{Appended}
use Rattle.ds_disk.specs.Contents.{Contents, log_of, with_log}
use Rattle.ds_disk.specs.Pages as disk
use Rattle.ds_disk.specs.declared.disk.DiskError.{DiskError}
use Rattle.ds_disk.specs.declared.disk.DiskError.TheVariants as failures
use Rattle.page_format.specs.Fields.{lrsn_of}
use Rattle.log_reader.specs.declared.calls.LogCall.{LogCall}
use Rattle.log_reader.specs.declared.calls.LogCall.TheVariants as asked
use Rattle.log_reader.specs.declared.calls.LogReply.{LogReply}
use Rattle.log_reader.specs.Readers.{after_reply, next_call}
use Rattle.page_redo.specs.declared.fault.FieldFault.{FieldFault}
use Rattle.page_redo.specs.Forward.{Forward}
use Rattle.places_redo.specs.Picked.{brought_at}
use Rattle.restart_plan.specs.declared.tails.Tail.{Tail}
use Rattle.group_restart.specs.declared.calls.State.{State}
use Rattle.group_restart.specs.declared.calls.State.TheVariants as state
use Rattle.group_restart.specs.declared.reply.Reply.{Reply}
use Rattle.group_restart.specs.declared.reply.Reply.TheVariants as reply
use Rattle.group_restart.specs.declared.stage.Stage.{Stage}
use Rattle.group_restart.specs.declared.stage.Stage.TheVariants as stage
use Rattle.group_restart.specs.Calls.{call_in, log_call}
use Rattle.group_restart.specs.Disk as calls
use Rattle.group_restart.specs.Disk.{Appends, Calls, Cuts, ReadsPage, TellsBlock, TellsLength, WritesPage, with_page, with_reader_block}
use Rattle.group_restart.specs.Machine.{Restart}
use Rattle.group_restart.specs.Steps.{Takes}
use Rattle.group_restart.specs.Course.{Next, TakesLog, TakesReply, TakesTold, appended, done, forwarded, go, next_closing, next_ending, next_redo, next_renewal, next_tail, next_undo, numbered_by, take_done, take_old, take_page, take_raised, take_undone, with_reader}
use Rattle.page_protocol.specs.Page.{Page, put}
use Rattle.page_protocol.specs.Moves.{Compensate, Forward as Forwards, Move, Run, World}
use Rattle.page_protocol.specs.Always.{AlwaysGood}
use Rattle.page_world.specs.Groups.{CompensatesMoves, Remains}
use Rattle.page_world.specs.Numbers.{AreNumbered, page_at, page_number, set_of}
use Rattle.page_groups.specs.Falls as falls
use Rattle.page_members.specs.Members.{WritesShow}
use Rattle.page_recoveries.specs.Given.{AreDrawnTo, Drive, Fallen, Shows}
use Rattle.fallen_pages.specs.Calls.{CallGoes, CallTells, CallsGo, EndsAs, shown}
use Rattle.fallen_pages.specs.Stands.{CounterIs, FallenPages, HandIs, IsLast, OthersLast, StandsAt, is_among, is_counted, is_left}
use Rattle.fallen_pages.proofs.Course.{Early, LeftAt, Plain, Reaches, Renewed, Undone, next_closing_plain, next_ending_plain, next_renewal_plain, next_undo_plain, plain_stands, read_reaches, redo_left, redo_reaches, tail_left, tail_reaches, take_old_renewed, take_undone_undone}
use Rattle.fallen_pages.proofs.Same.{brought_same}
use Rattle.fallen_pages.proofs.Told.{done_told, failed_told, shows_same}
use Rattle.fallen_pages.proofs.Worlds.{compensated, compensated_content, compensated_fallen, compensated_last, compensated_run, compensated_top, counted_fallen, counted_moves, counted_run, counted_world, forward, forward_drawn, forward_fallen, forward_last, forward_run, forward_top, put_here, put_there, renewed_content, renewed_fallen, run_on}

pub record Laws : Type 0 where
  pub always : AlwaysGood
  pub compensates : CompensatesMoves
  pub writes : WritesShow
  pub numbers : AreNumbered

abbrev Made : Type 0
Made = Result Reply DiskError

-- ---- moves behind moves
behind : (came : State) (k : Restart) (e : Drive) (w mid : World) (moves : List Move) → Run set_of w moves mid → CallGoes came k e mid → CallGoes came k e w
behind came k e w mid moves run a = record {
  goes = record { moves = moves ++ a.goes.moves; world = a.goes.world; run = run_on w mid a.goes.world moves a.goes.moves run a.goes.run; stands = a.goes.stands };
  ends = a.ends;
}

-- ---- where the restart stands behind a call, over what is left of the group
module _ (always : AlwaysGood) (e : Drive) (w : World) (r : Remains) (content : ℕ → ℕ → List ℕ) (b : Fallen w r content) (shows : Shows e r.disk) (k : Restart) (came : State) where
  stays : StandsAt k w r content → EndsAs came k → CallGoes came k e w
  stays at ends = record { goes = record { moves = []; world = w; run = refl; stands = record { remains = r; versions = content; fallen = b; drive = shows; at = at } }; ends = ends }

  plain : (counter : ℕ) → Plain counter (k, came) → counter ≡ r.counter → OthersLast w (λ p. false) → CallGoes came k e w
  plain counter p same all = stays (plain_stands w r content counter (k, came) p same all) p.ends

  -- the greatest number is known with it, or it isn't yet
  reaches : Reaches w r content (k, came) → OthersLast w (is_left k.stage k.plan.pages) → (is_counted k.stage ≡ true → AreDrawnTo w k.counter) → CallGoes came k e w
  reaches (inl x) last drawn = stays (record { last = last; counter = x.early.any k.counter r.counter; hand = x.early.hand }) x.ends
  reaches (inr p) last drawn =
      let top : AreDrawnTo w k.counter = drawn p.counted in
      let now : World = counted_world w k.counter in
      record {
        goes = record {
          moves = counted_moves always w r content b k.counter top;
          world = now;
          run = counted_run always w r content b k.counter top;
          stands = record {
            remains = record r { counter = k.counter };
            versions = content;
            fallen = counted_fallen always w r content b k.counter top;
            drive = shows;
            at = plain_stands now (record r { counter = k.counter }) content k.counter (k, came) p refl (λ n x. last n (p.none n));
          };
        };
        ends = p.ends;
      }

-- ---- one call
module _ (laws : Laws) (d e : calls.Drive) (h k : Restart) (came : State) (w : World) (f : FallenPages h (shown d) w) (tells : CallTells w f.remains f.versions h k) where
  abbrev r : Remains
  r = f.remains

  abbrev content : ℕ → ℕ → List ℕ
  content = f.versions

  abbrev c : Contents
  c = f.drive.contents

  abbrev Goal : Type 0
  Goal = CallGoes came k (shown e) w

  -- the pages on disk are as they were
  kept : (x : Contents) → e.contents ≡ Some x → x.pages ≡ c.pages → Shows (shown e) r.disk
  kept x at same = shows_same (shown d) (shown e) r.disk f.drive x at same

  abbrev HasFailed : Type 0
  HasFailed = ◌≡◌ {A = Result State NoMemory} (Ok came) (Ok state.Failed)

  same_state : HasFailed → came ≡ state.Failed
  same_state is = cc

  -- it has failed, and the restart stands where it stood
  fails_at : (z : Restart) (v : World) (left : Remains) (now : ℕ → ℕ → List ℕ) → Fallen v left now → Shows (shown e) left.disk → StandsAt z v left now → HasFailed → k ≡ z → CallGoes came k (shown e) v
  fails_at z v left now b shows at failed is =
      subst (λ (q : Restart). CallGoes came q (shown e) v) (sym is) (subst (λ (q : State). CallGoes q z (shown e) v) (sym (same_state failed)) (stays laws.always (shown e) v left now b shows z state.Failed at tt))

  fails : (z : Restart) (x : Contents) → e.contents ≡ Some x → x.pages ≡ c.pages → StandsAt z w r content → HasFailed → k ≡ z → Goal
  fails z x at same stands failed is = fails_at z w r content f.fallen (kept x at same) stands failed is

  -- what is known where it stands
  number_at : (s : Stage) → h.stage ≡ s → CounterIs s h.counter r.counter
  number_at s at = subst (λ (z : Stage). CounterIs z h.counter r.counter) at f.at.counter

  hand_at : (s : Stage) → h.stage ≡ s → HandIs s h.page w r content
  hand_at s at = subst (λ (z : Stage). HandIs z h.page w r content) at f.at.hand

  last_at : (s : Stage) → h.stage ≡ s → OthersLast w (is_left s h.plan.pages)
  last_at s at = subst (λ (z : Stage). OthersLast w (is_left z h.plan.pages)) at f.at.last

  -- another page is at hand
  with_hand : (bytes : List ℕ) → HandIs h.stage bytes w r content → StandsAt (with_page h bytes) w r content
  with_hand bytes hand = record { last = f.at.last; counter = f.at.counter; hand = hand }

  -- the answer that it was done is taken
  taken : (s : Stage) (z y : Restart) (a : Reply) → z.stage ≡ s → y ≡ z → a ≡ reply.Done → TakesReply y a came k → take_done z s ≡ (k, came)
  unfolding TakesReply
  taken s z y a at same is takes =
      let t : TakesReply z reply.Done came k = subst (λ (q : Reply). TakesReply z q came k) is (subst (λ (q : Restart). TakesReply q a came k) same takes) in
      let u : take_done z z.stage ≡ (k, came) = t in
      subst (λ (q : Stage). take_done z q ≡ (k, came)) at u

  -- ---- logs are read
  same_pages : (x : Contents) → (x ≡ c) ⊎ (x ≡ c) → x.pages ≡ c.pages
  same_pages x (inl is) = ap (λ (z : Contents). z.pages) is
  same_pages x (inr is) = ap (λ (z : Contents). z.pages) is

  told_reaches : (y : Restart) (it : LogReply) (a : Reply) → y.stage ≡ stage.ReadLog → a ≡ reply.Log it → TakesReply y a came k → Reaches w r content (k, came)
  unfolding TakesReply TakesTold
  told_reaches y it a at is takes =
      let t : TakesReply y (reply.Log it) came k = subst (λ (q : Reply). TakesReply y q came k) is takes in
      let u : TakesTold y.stage y it came k = t in
      let l : TakesLog y it came k = subst (λ (q : Stage). TakesTold q y it came k) at u in
      read_reaches w r content l.found (with_reader y (after_reply y.reader it)) k came at l.takes

  reads : (y : Restart) (x : Contents) (it : LogReply) (a : Reply) → h.stage ≡ stage.ReadLog → y.stage ≡ h.stage → e.contents ≡ Some x → x.pages ≡ c.pages → a ≡ reply.Log it → TakesReply y a came k → Goal
  reads y x it a at same there pages is takes = reaches laws.always (shown e) w r content f.fallen (kept x there pages) k came (told_reaches y it a (same ∙ at) is takes) (tells.read at) (tells.drawn (ap is_counted at))

  length_goes : h.stage ≡ stage.ReadLog → (made : Made) (y : Restart) → TellsLength h.reader.member d made e → y ≡ h → Takes y made (Ok came) k → Goal
  length_goes at (Ok a) y did same takes =
      let x = done_told c f.drive.told a did in
      reads y x.0 _ a at (ap (λ (z : Restart). z.stage) same) x.1 (ap (λ (z : Contents). z.pages) x.2.0) x.2.1 takes
  length_goes at (Err failures.Failed) y did same takes = (let x = failed_told c f.drive.told did in fails h x.0 x.1 (same_pages x.0 x.2) f.at takes.0 (takes.1 ∙ same))
  length_goes at (Err failures.NoMemory) y did same takes = absurd takes.0

  block_goes : h.stage ≡ stage.ReadLog → (from count : ℕ) (made : Made) (y : Restart) → TellsBlock h.reader.member from count y.reader.block d made e → y ≡ with_reader_block h y.reader.block → Takes y made (Ok came) k → Goal
  block_goes at from count (Ok a) y did same takes =
      let x = done_told c f.drive.told a did in
      reads y x.0 _ a at (ap (λ (z : Restart). z.stage) same) x.1 (ap (λ (z : Contents). z.pages) x.2.0) x.2.1.0 takes
  block_goes at from count (Err failures.Failed) y did same takes =
      let x = failed_told c f.drive.told did in
      fails (with_reader_block h y.reader.block) x.0 x.1 (same_pages x.0 x.2) (record { last = f.at.last; counter = f.at.counter; hand = f.at.hand }) takes.0 (takes.1 ∙ same)
  block_goes at from count (Err failures.NoMemory) y did same takes = absurd takes.0

  asks_go : h.stage ≡ stage.ReadLog → (q : LogCall) (made : Made) (y : Restart) → Calls h (log_call h.reader.member q) d made e y → Takes y made (Ok came) k → Goal
  asks_go at asked.Length made y did takes = length_goes at made y did.0 did.1 takes
  asks_go at (asked.Read from count) made y did takes = block_goes at from count made y did.0 did.1 takes

  -- ---- a tail is cut
  cut_pages : (x : Contents) (member : ℕ) (log : List ℕ) → (x ≡ c) ⊎ ((x ≡ c) ⊎ (x ≡ with_log c member log)) → x.pages ≡ c.pages
  cut_pages x member log (inl is) = ap (λ (z : Contents). z.pages) is
  cut_pages x member log (inr (inl is)) = ap (λ (z : Contents). z.pages) is
  cut_pages x member log (inr (inr is)) = ap (λ (z : Contents). z.pages) is

  tail_goes : (tail : Tail) → h.stage ≡ stage.CutTail tail → (made : Made) (y : Restart) → Cuts tail.member tail.length d made e → y ≡ h → Takes y made (Ok came) k → Goal
  tail_goes tail at (Ok a) y did same takes =
      let x = done_told c f.drive.told a did in
      let next : next_tail h ≡ (k, came) = taken (stage.CutTail tail) h y a at same x.2.0 takes in
      let early : Early w r content h.stage h.page = subst (λ (z : Stage). Early w r content z h.page) (sym at) (record { any = λ p q. tt; hand = tt }) in
      reaches laws.always (shown e) w r content f.fallen (kept x.0 x.1 (ap (λ (z : Contents). z.pages) x.2.1)) k came
      (subst (Reaches w r content) next (tail_reaches w r content h early)) (subst (LeftAt w) next (tail_left w h (last_at (stage.CutTail tail) at))) (tells.drawn (ap is_counted at))
  tail_goes tail at (Err failures.Failed) y did same takes = (let x = failed_told c f.drive.told did in fails h x.0 x.1 (cut_pages x.0 tail.member _ x.2) f.at takes.0 (takes.1 ∙ same))
  tail_goes tail at (Err failures.NoMemory) y did same takes = absurd takes.0

  -- ---- records are appended
  torn_pages : (x : Contents) (member : ℕ) (bytes : List ℕ) → (x ≡ c) ⊎ Appended member bytes c x → x.pages ≡ c.pages
  torn_pages x member bytes (inl is) = ap (λ (z : Contents). z.pages) is
  torn_pages x member bytes (inr t) = ap (λ (z : Contents). z.pages) t.2

  appends_fail : (member : ℕ) (y : Restart) → Appends member (log_bytes h.added) d (Err failures.Failed) e → y ≡ h → Takes y (Err failures.Failed) (Ok came) k → Goal
  appends_fail member y did same takes = (let x = failed_told c f.drive.told did in fails h x.0 x.1 (torn_pages x.0 member (log_bytes h.added) x.2) f.at takes.0 (takes.1 ∙ same))

  -- one that changes no page
  append_goes : (member : ℕ) (s : Stage) (next : Next) → h.stage ≡ s → take_done h s ≡ next → Plain h.counter next → ((p : ℕ) → is_left s h.plan.pages p ≡ false) → h.counter ≡ r.counter → (made : Made) (y : Restart) → Appends member (log_bytes h.added) d made e → y ≡ h → Takes y made (Ok came) k → Goal
  append_goes member s next at is p none number (Ok a) y did same takes =
      let x = done_told c f.drive.told a did in
      let goes : next ≡ (k, came) = sym is ∙ taken s h y a at same x.2.0 takes in
      plain laws.always (shown e) w r content f.fallen (kept x.0 x.1 (ap (λ (z : Contents). z.pages) x.2.1)) k came h.counter (subst (Plain h.counter) goes p) number (λ n z. last_at s at n (none n))
  append_goes member s next at is p none number (Err failures.Failed) y did same takes = appends_fail member y did same takes
  append_goes member s next at is p none number (Err failures.NoMemory) y did same takes = absurd takes.0

  -- a compensation
  compensation_goes : (member : ℕ) (page : PageId) → h.stage ≡ stage.UndoAppend member page → (made : Made) (y : Restart) → Appends member (log_bytes h.added) d made e → y ≡ h → Takes y made (Ok came) k → Goal
  compensation_goes member page at (Ok a) y did same takes =
      behind came k (shown e) w mid (Compensate n member ∷ []) (compensated_run laws.always laws.compensates w r content f.fallen n member h.page hand)
      (stays laws.always (shown e) mid (falls.appended r member) now (compensated_fallen laws.always laws.compensates w r content f.fallen n member h.page hand) (kept x.0 x.1 (ap (λ (z : Contents). z.pages) x.2.1)) k came
      (subst (λ (z : Next). StandsAt z.0 mid (falls.appended r member) now) next stands) (subst (λ (z : Next). EndsAs z.1 z.0) next tt))
    where
      x : (x : Contents) × (e.contents ≡ Some x) × ((a ≡ reply.Done) × (x ≡ with_log c member (log_of c.logs member ++ log_bytes h.added)))
      x = done_told c f.drive.told a did

      n : ℕ
      n = page_number page

      mid : World
      mid = compensated w n member

      hand : lrsn_of h.page ≡ r.counter + 1
      hand = hand_at (stage.UndoAppend member page) at

      now : ℕ → ℕ → List ℕ
      now = compensated_content laws.always laws.compensates w r content f.fallen n member h.page hand

      next : go (appended h member) (stage.UndoWrite page) ≡ (k, came)
      next = taken (stage.UndoAppend member page) h y a at same x.2.0 takes

      apart : (q : ℕ) → (n == q) ≡ false → q ≢ n
      apart q other is = both_ways (n == q) other (eq-eqb n q (sym is))

      stands : StandsAt (record (appended h member) { stage = stage.UndoWrite page }) mid (falls.appended r member) now
      stands = record {
        last = compensated_last laws.always laws.compensates w r content f.fallen n member h.page hand (λ p. n == p) (last_at (stage.UndoAppend member page) at) apart;
        counter = number_at (stage.UndoAppend member page) at;
        hand = sym (compensated_top laws.always laws.compensates w r content f.fallen n member h.page hand);
      }
  compensation_goes member page at (Err failures.Failed) y did same takes = appends_fail member y did same takes
  compensation_goes member page at (Err failures.NoMemory) y did same takes = absurd takes.0

  -- ---- a page is read
  read_is : (page : PageId) (bytes : List ℕ) → bytes ≡ disk.page_at c.pages page → bytes ≡ r.disk (page_number page)
  read_is page bytes is = is ∙ ap (disk.page_at c.pages) (sym (laws.numbers.named page)) ∙ f.drive.each (page_number page)

  reads_fail : (page : PageId) (y : Restart) → HandIs h.stage y.page w r content → ReadsPage page y.page d (Err failures.Failed) e → y ≡ with_page h y.page → Takes y (Err failures.Failed) (Ok came) k → Goal
  reads_fail page y hand did same takes = (let x = failed_told c f.drive.told did in fails (with_page h y.page) x.0 x.1 (same_pages x.0 x.2) (with_hand y.page hand) takes.0 (takes.1 ∙ same))

  -- one that the logs name
  abbrev brought : PageId → Forward
  brought page = brought_at page (r.disk (page_number page)) h.plan.merged h.places

  module _ (page : PageId) (at : h.stage ≡ stage.RedoRead page) (shows : Shows (shown e) r.disk) where
    abbrev n : ℕ
    n = page_number page

    abbrev it : Restart
    it = with_page h (brought page).page

    early : (v : World) (bytes : List ℕ) → Early v r content h.stage bytes
    early v bytes = subst (λ (z : Stage). Early v r content z bytes) (sym at) (record { any = λ p q. tt; hand = tt })

    fewer : (q : ℕ) → q ≢ n → is_among h.plan.pages q ≡ false → ((n == q) || is_among h.plan.pages q) ≡ false
    fewer q ne rest = ap (λ b. b || is_among h.plan.pages q) (ne_eqb n q (λ x. ne (sym x))) ∙ rest

    brought_goes : (o : Result Bool FieldFault) → (brought page).outcome ≡ o → forwarded it page o ≡ (k, came) → Goal
    unfolding take_raised
    brought_goes (Err fault) out next =
        reaches laws.always (shown e) w r content f.fallen shows k came (subst (Reaches w r content) next (inl (record { early = early w (brought page).page; ends = tt }))) (subst (LeftAt w) next f.at.last) (tells.drawn (ap is_counted at))
    brought_goes (Ok true) out next =
        stays laws.always (shown e) w r content f.fallen shows k came
        (subst (λ (z : Next). StandsAt z.0 w r content) next (record { last = last_at (stage.RedoRead page) at; counter = tt; hand = tells.brought page true at out })) (subst (λ (z : Next). EndsAs z.1 z.0) next tt)
    brought_goes (Ok false) out next =
        behind came k (shown e) w mid (Forwards n (w.pages n).last ∷ []) (forward_run laws.always w r content f.fallen n)
        (reaches laws.always (shown e) mid r content fallen shows k came (subst (Reaches mid r content) next (redo_reaches mid r content (numbered_by it page) (early mid (brought page).page)))
        (subst (LeftAt mid) next (redo_left mid (numbered_by it page) last)) (λ x. forward_drawn laws.always w r content f.fallen n k.counter (tells.drawn (ap is_counted at) x)))
      where
        mid : World
        mid = forward w n

        there : r.disk n ≡ content n (w.pages n).last
        there = sym (brought_same page (r.disk n) h.plan.merged h.places out) ∙ tells.brought page false at out

        fallen : Fallen mid r content
        fallen = forward_fallen laws.always w r content f.fallen n r.disk there (λ p ne. refl)

        last : OthersLast mid (is_among h.plan.pages)
        last = forward_last laws.always w r content f.fallen n (λ p. (n == p) || is_among h.plan.pages p) (is_among h.plan.pages) (last_at (stage.RedoRead page) at) fewer

  redo_goes : (page : PageId) → h.stage ≡ stage.RedoRead page → (made : Made) (y : Restart) → ReadsPage page y.page d made e → y ≡ with_page h y.page → Takes y made (Ok came) k → Goal
  unfolding take_page
  redo_goes page at (Ok a) y did same takes =
      let x = done_told c f.drive.told a did in
      let next : take_page (with_page h y.page) page ≡ (k, came) = taken (stage.RedoRead page) (with_page h y.page) y a at same x.2.0 takes in
      let now : take_page (with_page h (r.disk (page_number page))) page ≡ (k, came) = subst (λ (bytes : List ℕ). take_page (with_page h bytes) page ≡ (k, came)) (read_is page y.page x.2.2) next in
      brought_goes page at (kept x.0 x.1 (ap (λ (z : Contents). z.pages) x.2.1)) (brought page).outcome refl now
  redo_goes page at (Err failures.Failed) y did same takes = reads_fail page y (subst (λ (z : Stage). HandIs z y.page w r content) (sym at) tt) did same takes
  redo_goes page at (Err failures.NoMemory) y did same takes = absurd takes.0

  -- one on which a change is undone
  undo_goes : (page : PageId) → h.stage ≡ stage.UndoRead page → (made : Made) (y : Restart) → ReadsPage page y.page d made e → y ≡ with_page h y.page → Takes y made (Ok came) k → Goal
  undo_goes page at (Ok a) y did same takes =
      let x = done_told c f.drive.told a did in
      let next : take_undone (with_page h y.page) ≡ (k, came) = taken (stage.UndoRead page) (with_page h y.page) y a at same x.2.0 takes in
      by (kept x.0 x.1 (ap (λ (z : Contents). z.pages) x.2.1)) (subst (Undone h.counter) next (take_undone_undone (with_page h y.page) page at))
    where
      all : OthersLast w (λ p. false)
      all = last_at (stage.UndoRead page) at

      number : h.counter ≡ r.counter
      number = number_at (stage.UndoRead page) at

      by : Shows (shown e) r.disk → Undone h.counter (k, came) → Goal
      by shows (inl u) =
          let drawn : k.counter ≡ r.counter + 1 = u.number ∙ ap (λ z. z + 1) number in
          stays laws.always (shown e) w r content f.fallen shows k came (record {
            last = λ p z. all p refl;
            counter = subst (λ (q : Stage). CounterIs q k.counter r.counter) (sym u.stage_is) drawn;
            hand = subst (λ (q : Stage). HandIs q k.page w r content) (sym u.stage_is) (tells.stamped u.member u.page u.stage_is ∙ drawn);
          }) u.ends
      by shows (inr p) = plain laws.always (shown e) w r content f.fallen shows k came h.counter p number all
  undo_goes page at (Err failures.Failed) y did same takes = reads_fail page y (subst (λ (z : Stage). HandIs z y.page w r content) (sym at) tt) did same takes
  undo_goes page at (Err failures.NoMemory) y did same takes = absurd takes.0

  -- one that may be of an older format
  renew_goes : (page : PageId) → h.stage ≡ stage.RenewRead page → (made : Made) (y : Restart) → ReadsPage page y.page d made e → y ≡ with_page h y.page → Takes y made (Ok came) k → Goal
  renew_goes page at (Ok a) y did same takes =
      let x = done_told c f.drive.told a did in
      let next : take_old (with_page h y.page) page ≡ (k, came) = taken (stage.RenewRead page) (with_page h y.page) y a at same x.2.0 takes in
      by (kept x.0 x.1 (ap (λ (z : Contents). z.pages) x.2.1)) (subst (Renewed h.counter) next (take_old_renewed (with_page h y.page) page at))
    where
      all : OthersLast w (λ p. false)
      all = last_at (stage.RenewRead page) at

      number : h.counter ≡ r.counter
      number = number_at (stage.RenewRead page) at

      by : Shows (shown e) r.disk → Renewed h.counter (k, came) → Goal
      by shows (inl u) =
          stays laws.always (shown e) w r content f.fallen shows k came (record {
            last = λ p z. all p refl;
            counter = subst (λ (q : Stage). CounterIs q k.counter r.counter) (sym u.stage_is) (u.number ∙ number);
            hand = subst (λ (q : Stage). HandIs q k.page w r content) (sym u.stage_is) (tells.renewed u.page u.stage_is);
          }) u.ends
      by shows (inr p) = plain laws.always (shown e) w r content f.fallen shows k came h.counter p number all
  renew_goes page at (Err failures.Failed) y did same takes = reads_fail page y (subst (λ (z : Stage). HandIs z y.page w r content) (sym at) tt) did same takes
  renew_goes page at (Err failures.NoMemory) y did same takes = absurd takes.0

  -- ---- a page is written
  abbrev put_page : PageId → Remains
  put_page page = record r { disk = put r.disk (page_number page) h.page }

  abbrev page_put : PageId → Contents
  page_put page = record c { pages = insert c.pages page h.page }

  put_shows : (page : PageId) (x : Contents) → e.contents ≡ Some x → x ≡ page_put page → Shows (shown e) (put_page page).disk
  put_shows page x there is = laws.writes (shown d) (shown e) r.disk f.drive x page h.page there (ap (λ (z : Contents). z.pages) is)

  -- its last version
  module _ (page : PageId) (hand : IsLast w content (page_number page) h.page) where
    abbrev top : ℕ
    top = page_number page

    abbrev mid : World
    mid = forward w top

    put_fallen : Fallen mid (put_page page) content
    put_fallen = forward_fallen laws.always w r content f.fallen top (put r.disk top h.page) (put_here r.disk top h.page ∙ hand) (λ q ne. put_there r.disk top q h.page ne)

    put_last : IsLast mid content top h.page
    put_last = hand ∙ sym (ap (λ (z : Page). content top z.last) (forward_top laws.always w r content f.fallen top))

    put_goes : CallGoes came k (shown e) mid → Goal
    put_goes a = behind came k (shown e) w mid (Forwards top (w.pages top).last ∷ []) (forward_run laws.always w r content f.fallen top) a

    put_fails : (s : Stage) → h.stage ≡ s → HandIs s h.page mid (put_page page) content → (y : Restart) → WritesPage page h.page d (Err failures.Failed) e → y ≡ h → Takes y (Err failures.Failed) (Ok came) k → Goal
    put_fails s at last y did same takes = by x.2
      where
        x : (x : Contents) × (e.contents ≡ Some x) × ((x ≡ c) ⊎ ((x ≡ c) ⊎ (x ≡ page_put page)))
        x = failed_told c f.drive.told did

        stands : StandsAt h mid (put_page page) content
        stands = record {
          last = forward_last laws.always w r content f.fallen top (is_left h.stage h.plan.pages) (is_left h.stage h.plan.pages) f.at.last (λ q ne z. z);
          counter = f.at.counter;
          hand = subst (λ (z : Stage). HandIs z h.page mid (put_page page) content) (sym at) last;
        }

        by : (x.0 ≡ c) ⊎ ((x.0 ≡ c) ⊎ (x.0 ≡ page_put page)) → Goal
        by (inl is) = fails h x.0 x.1 (ap (λ (z : Contents). z.pages) is) f.at takes.0 (takes.1 ∙ same)
        by (inr (inl is)) = fails h x.0 x.1 (ap (λ (z : Contents). z.pages) is) f.at takes.0 (takes.1 ∙ same)
        by (inr (inr is)) = put_goes (fails_at h mid (put_page page) content put_fallen (put_shows page x.0 x.1 is) stands takes.0 (takes.1 ∙ same))

  redo_written : (page : PageId) → h.stage ≡ stage.RedoWrite page → (made : Made) (y : Restart) → WritesPage page h.page d made e → y ≡ h → Takes y made (Ok came) k → Goal
  redo_written page at (Ok a) y did same takes =
      let x = done_told c f.drive.told a did in
      let next : next_redo h ≡ (k, came) = taken (stage.RedoWrite page) h y a at same x.2.0 takes in
      put_goes page hand
      (reaches laws.always (shown e) now (put_page page) content (put_fallen page hand) (put_shows page x.0 x.1 x.2.1) k came (subst (Reaches now (put_page page) content) next (redo_reaches now (put_page page) content h early))
      (subst (LeftAt now) next (redo_left now h last)) (λ z. forward_drawn laws.always w r content f.fallen n k.counter (tells.drawn (ap is_counted at) z)))
    where
      n : ℕ
      n = page_number page

      now : World
      now = forward w n

      hand : IsLast w content n h.page
      hand = hand_at (stage.RedoWrite page) at

      early : Early now (put_page page) content h.stage h.page
      early = subst (λ (z : Stage). Early now (put_page page) content z h.page) (sym at) (record { any = λ p q. tt; hand = put_last page hand })

      fewer : (q : ℕ) → q ≢ n → is_among h.plan.pages q ≡ false → ((n == q) || is_among h.plan.pages q) ≡ false
      fewer q ne rest = ap (λ b. b || is_among h.plan.pages q) (ne_eqb n q (λ z. ne (sym z))) ∙ rest

      last : OthersLast now (is_among h.plan.pages)
      last = forward_last laws.always w r content f.fallen n (λ p. (n == p) || is_among h.plan.pages p) (is_among h.plan.pages) (last_at (stage.RedoWrite page) at) fewer
  redo_written page at (Err failures.Failed) y did same takes = (let hand : IsLast w content (page_number page) h.page = hand_at (stage.RedoWrite page) at in put_fails page hand (stage.RedoWrite page) at (put_last page hand) y did same takes)
  redo_written page at (Err failures.NoMemory) y did same takes = absurd takes.0

  undo_written : (page : PageId) → h.stage ≡ stage.UndoWrite page → (made : Made) (y : Restart) → WritesPage page h.page d made e → y ≡ h → Takes y made (Ok came) k → Goal
  undo_written page at (Ok a) y did same takes =
      let x = done_told c f.drive.told a did in
      let next : next_undo h ≡ (k, came) = taken (stage.UndoWrite page) h y a at same x.2.0 takes in
      put_goes page hand
      (plain laws.always (shown e) now (put_page page) content (put_fallen page hand) (put_shows page x.0 x.1 x.2.1) k came h.counter (subst (Plain h.counter) next (next_undo_plain h)) (number_at (stage.UndoWrite page) at)
      (forward_last laws.always w r content f.fallen n (λ p. n == p) (λ p. false) (last_at (stage.UndoWrite page) at) (λ p ne z. ne_eqb n p (λ q. ne (sym q)))))
    where
      n : ℕ
      n = page_number page

      now : World
      now = forward w n

      hand : IsLast w content n h.page
      hand = hand_at (stage.UndoWrite page) at
  undo_written page at (Err failures.Failed) y did same takes = (let hand : IsLast w content (page_number page) h.page = hand_at (stage.UndoWrite page) at in put_fails page hand (stage.UndoWrite page) at (put_last page hand) y did same takes)
  undo_written page at (Err failures.NoMemory) y did same takes = absurd takes.0

  -- the same version in the present format
  renew_written : (page : PageId) → h.stage ≡ stage.RenewWrite page → (made : Made) (y : Restart) → WritesPage page h.page d made e → y ≡ h → Takes y made (Ok came) k → Goal
  renew_written page at made y did same takes = by made did takes
    where
      n : ℕ
      n = page_number page

      hand : lrsn_of h.page ≡ lrsn_of (r.disk n)
      hand = hand_at (stage.RenewWrite page) at

      now : ℕ → ℕ → List ℕ
      now = renewed_content w r content f.fallen n h.page hand

      fallen : Fallen w (put_page page) now
      fallen = renewed_fallen w r content f.fallen n h.page hand

      stands : StandsAt h w (put_page page) now
      stands = record {
        last = f.at.last;
        counter = f.at.counter;
        hand = subst (λ (z : Stage). HandIs z h.page w (put_page page) now) (sym at) (sym (ap lrsn_of (put_here r.disk n h.page)));
      }

      torn : (x : Contents) → e.contents ≡ Some x → (x ≡ c) ⊎ ((x ≡ c) ⊎ (x ≡ page_put page)) → HasFailed → k ≡ h → Goal
      torn x there (inl is) failed stood = fails h x there (ap (λ (z : Contents). z.pages) is) f.at failed stood
      torn x there (inr (inl is)) failed stood = fails h x there (ap (λ (z : Contents). z.pages) is) f.at failed stood
      torn x there (inr (inr is)) failed stood = fails_at h w (put_page page) now fallen (put_shows page x there is) stands failed stood

      by : (made : Made) → WritesPage page h.page d made e → Takes y made (Ok came) k → Goal
      by (Ok a) did takes =
          let x = done_told c f.drive.told a did in
          let next : next_renewal h page ≡ (k, came) = taken (stage.RenewWrite page) h y a at same x.2.0 takes in
          plain laws.always (shown e) w (put_page page) now fallen (put_shows page x.0 x.1 x.2.1) k came h.counter (subst (Plain h.counter) next (next_renewal_plain h page)) (number_at (stage.RenewWrite page) at) (last_at (stage.RenewWrite page) at)
      by (Err failures.Failed) did takes = (let x = failed_told c f.drive.told did in torn x.0 x.1 x.2 takes.0 (takes.1 ∙ same))
      by (Err failures.NoMemory) did takes = absurd takes.0

  -- ---- all is done
  ended : (y : Restart) (it : LogReply) (a : Reply) → h.stage ≡ stage.End → y ≡ h → a ≡ reply.Log it → TakesReply y a came k → done h ≡ (k, came)
  unfolding TakesReply TakesTold
  ended y it a at same is takes =
      let t : TakesReply h (reply.Log it) came k = subst (λ (q : Reply). TakesReply h q came k) is (subst (λ (q : Restart). TakesReply q a came k) same takes) in
      let u : TakesTold h.stage h it came k = t in
      subst (λ (q : Stage). TakesTold q h it came k) at u

  end_goes : h.stage ≡ stage.End → (made : Made) (y : Restart) → TellsLength h.reader.member d made e → y ≡ h → Takes y made (Ok came) k → Goal
  end_goes at (Ok a) y did same takes =
      let x = done_told c f.drive.told a did in
      let next : done h ≡ (k, came) = ended y _ a at same x.2.1 takes in
      stays laws.always (shown e) w r content f.fallen (kept x.0 x.1 (ap (λ (z : Contents). z.pages) x.2.0)) k came (subst (λ (z : Next). StandsAt z.0 w r content) next f.at) (subst (λ (z : Next). EndsAs z.1 z.0) next (at, refl))
  end_goes at (Err failures.Failed) y did same takes = (let x = failed_told c f.drive.told did in fails h x.0 x.1 (same_pages x.0 x.2) f.at takes.0 (takes.1 ∙ same))
  end_goes at (Err failures.NoMemory) y did same takes = absurd takes.0

  -- ---- by where it stands
  by_stage : (s : Stage) → h.stage ≡ s → (made : Made) (y : Restart) → Calls h (call_in s h) d made e y → Takes y made (Ok came) k → Goal
  by_stage stage.ReadLog at made y did takes = asks_go at (next_call h.reader) made y did takes
  by_stage (stage.CutTail tail) at made y did takes = tail_goes tail at made y did.0 did.1 takes
  by_stage (stage.RedoRead page) at made y did takes = redo_goes page at made y did.0 did.1 takes
  by_stage (stage.RedoWrite page) at made y did takes = redo_written page at made y did.0 did.1 takes
  by_stage (stage.CloseAppend member) at made y did takes =
      append_goes member (stage.CloseAppend member) (next_closing (appended h member)) at refl (next_closing_plain (appended h member)) (λ p. refl) (number_at (stage.CloseAppend member) at) made y did.0 did.3 takes
  by_stage (stage.UndoRead page) at made y did takes = undo_goes page at made y did.0 did.1 takes
  by_stage (stage.UndoAppend member page) at made y did takes = compensation_goes member page at made y did.0 did.3 takes
  by_stage (stage.UndoWrite page) at made y did takes = undo_written page at made y did.0 did.1 takes
  by_stage (stage.RenewRead page) at made y did takes = renew_goes page at made y did.0 did.1 takes
  by_stage (stage.RenewWrite page) at made y did takes = renew_written page at made y did.0 did.1 takes
  by_stage (stage.EndAppend member) at made y did takes =
      append_goes member (stage.EndAppend member) (next_ending (appended h member)) at refl (next_ending_plain (appended h member)) (λ p. refl) (number_at (stage.EndAppend member) at) made y did.0 did.3 takes
  by_stage stage.End at made y did takes = end_goes at made y did.0 did.1 takes

pub calls_go : Laws → CallsGo
calls_go laws d e h k came w steps f tells = by_stage laws d e h k came w f tells h.stage refl steps.made steps.after steps.calls steps.takes
