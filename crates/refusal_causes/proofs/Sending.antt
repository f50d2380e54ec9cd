-- What an event of a member refuses.
use Rattle.std.proofs.Common.{◌≡◌, ◌∙◌, ℕ, Bool, true, false, ltb, List, [], ◌∷◌, length, Option, Some, None, Result, Ok, Err, refl, sym, ap, subst}
use Rattle.std.specs.Prelude.{slice_get}
use Rattle.ds_base.specs.declared.names.PageId.{PageId}
use Rattle.ds_disk.specs.declared.disk.DiskError.{DiskError}
use Rattle.ds_disk.specs.declared.disk.DiskError.TheVariants as error
use Rattle.ds_model.specs.declared.lock.Name.{Name}
use Rattle.lock_names.specs.declared.mode.Mode.{Mode}
use Rattle.cache_structure.specs.Directory.{bit}
use Rattle.list_structure.specs.declared.query.Cell.{Cell}
use Rattle.list_structure.specs.Askers.{slot_of}
use Rattle.list_structure.specs.Cells.{cells_by}
use Rattle.facility.specs.declared.command.Command.{Command}
use Rattle.facility.specs.declared.command.Command.TheVariants as command
use Rattle.facility.specs.declared.command.Reply.{Reply}
use Rattle.facility.specs.declared.command.Reply.TheVariants as reply
use Rattle.facility.specs.CacheCommands.{TestsFrame as Tested}
use Rattle.facility.specs.Commands.{Executes, cells_for}
use Rattle.facility.specs.States as facility
use Rattle.page_plans.specs.declared.action.Action.TheVariants as action
use Rattle.page_plans.specs.declared.action.Look.TheVariants as look
use Rattle.page_plans.specs.Looks.{look_of}
use Rattle.member_intents.specs.declared.intent.Intent.{Intent}
use Rattle.member_intents.specs.declared.intent.Intent.TheVariants as intent
use Rattle.member_intents.specs.declared.outcome.Answered.{Answered}
use Rattle.member_intents.specs.declared.outcome.Sent.{Sent}
use Rattle.member_intents.specs.declared.outcome.Sent.TheVariants as sent
use Rattle.member_intents.specs.declared.test.Test.{Test}
use Rattle.member_intents.specs.Cells.{cell_slot}
use Rattle.member_marks.specs.State.{MarksState}
use Rattle.member_marks.specs.Local.{stays}
use Rattle.member_needs.specs.declared.needs.Setting.{Setting}
use Rattle.member_needs.specs.declared.plans.Plan.{Plan}
use Rattle.member_needs.specs.Needs.{need_of}
use Rattle.member_needs.specs.Records.{indexes_of}
use Rattle.member_effects.specs.declared.told.Told.{Told}
use Rattle.member_resources.specs.declared.lending.Lent.{Lent}
use Rattle.member_resources.specs.declared.lending.Lent.TheVariants as lent
use Rattle.member_resources.specs.declared.prepared.Prepared.{Prepared}
use Rattle.member_resources.specs.Held.{Held, begun}
use Rattle.member_resources.specs.Lending.{Gives, lent_of, lent_bytes, with_bytes}
use Rattle.member_resources.specs.Prepared.{planned, needed, setting_of, Reserves}
use Rattle.member_resources.specs.Settled.{unsent}
use Rattle.member_resources.specs.Events.{Drive, World, RunsCommand, RunsCall, Runs, Calls, ReadsAs, ReadsFrame, Stores, Happens, frame_read, holder_in}
use Rattle.needs_law.specs.Lawful.{SendsLawfully, MayGive, IsHeader, TestsFrame}
use Rattle.refusal_causes.proofs.Answering.{EventKnown, obtain_known, grant_known, draw_known, draw_back_known, read_cells_known, read_waits_known, full_known, valid_bit}
use Rattle.refusal_causes.proofs.Known.{Claim, KnownIn, HomeKnown, QuietIn, quiet_known}
use Rattle.refusal_causes.proofs.Moving.{Between, reaches_known}
use Rattle.refusal_causes.proofs.Settling.{IsIntentKnown, IsTestKnown, settled_known, stored_quiet, unsent_quiet}
use Rattle.refusal_causes.proofs.Telling.{AreCellsKnown}

-- ---- what is sent

sent_of : Sent → Result Prepared Test → Sent
sent_of d (Ok x) = x.sent
sent_of d (Err t) = d

needs_plan : (out other : Sent) (p : Plan) (plan : Result Plan Test) → planned out plan ≡ Ok (record { sent = other; plan = p }) → out ≡ other
unfolding sent_of
needs_plan out other p (Ok q) e = ap (sent_of out) e
needs_plan out other p (Err t) e = cc

pub needs : (need : Result Sent Test) (plan : Result Plan Test) (out : Sent) (p : Plan) → needed need plan ≡ Ok (record { sent = out; plan = p }) → need ≡ Ok out
needs (Ok x) plan out p e = ap Ok (needs_plan x out p plan e)
needs (Err t) plan out p e = cc

command_in : Command → Sent → Command
command_in d (sent.Command c) = c
command_in d _ = d

-- the command is the one that is sent
is_command : (c d : Command) → sent.Command c ≡ sent.Command d → c ≡ d
unfolding command_in
is_command c d e = ap (command_in c) e

-- ---- what the member holds behind a command

lent_marks : (h : Held) (l : Lent) (page : List ℕ) → (with_bytes h l page).marks ≡ h.marks
lent_marks h (lent.Frame at) page = refl
lent_marks h lent.Buffer page = refl
lent_marks h lent.Spare page = refl

marks_after : (h : Held) (w : facility.Held) (c : Command) (answer : Reply) (k : Held) (v : facility.Held) → Gives h w c answer k v → k.marks ≡ h.marks
marks_after h w c answer k v g =
    let e : k.marks ≡ (with_bytes h (lent_of h c) (lent_bytes k (lent_of h c))).marks = ap (λ (x : Held). x.marks) g.executed.back in
    subst (λ (x : MarksState). k.marks ≡ x) (lent_marks h (lent_of h c) (lent_bytes k (lent_of h c))) e

-- nothing is refused yet, and nothing may be
begun_quiet : (place : ℕ) (h k : Held) → k.marks ≡ (begun h place).marks → QuietIn place k.marks
begun_quiet place h k e = subst (QuietIn place) (sym e) (refl, refl, refl)

-- ---- the facts of an event

-- the command was executed, as that of the intent
abbrev Executed : facility.Held → ℕ → Command → Reply → facility.Held → Type 0
Executed w m c answer v = (page : List ℕ) × ((after : List ℕ) × Executes w m c page answer v after)

executed : (h : Held) (w : facility.Held) (c d : Command) (answer : Reply) (k : Held) (v : facility.Held) → Gives h w c answer k v → c ≡ d → Executed w h.marks.member d answer v
executed h w c d answer k v g e =
    subst (λ (x : Command). Executed w h.marks.member x answer v) e (lent_bytes h (lent_of h c), (lent_bytes k (lent_of h c), g.executed.executes))

pub member_kept : (i : Intent) (h ready : Held) → Reserves i h ready → ready.marks.member ≡ h.marks.member
member_kept (intent.Obtain o n m) h ready r = ap (λ (k : Held). k.marks.member) r.2
member_kept (intent.Grant o n m) h ready r = ap (λ (k : Held). k.marks.member) r.2
member_kept (intent.Change slot action frames) h ready r = ap (λ (k : Held). k.marks.member) r
member_kept _ h ready r = ap (λ (k : Held). k.marks.member) r

-- the cells that a read of answers asks for
cells_as : (K : Claim) (n : Name) (m : Mode) (cells : List Cell) (member slot : ℕ) (c : Command) → c ≡ command.Answers slot → AreCellsKnown K n m (cells_by cells (slot_of member slot)) → AreCellsKnown K n m (cells_for cells member c)
unfolding cells_for
cells_as K n m cells member slot c e known = subst (λ (x : Command). AreCellsKnown K n m (cells_for cells member x)) (sym e) known

-- a test lends no page of a frame
record Tests (h k : Held) : Type 0 where
  pages : k.pages ≡ h.pages
  limit : k.limit ≡ h.limit

tests_kept : (h : Held) (w : facility.Held) (c : Command) (at : ℕ) (answer : Reply) (k : Held) (v : facility.Held) → Gives h w c answer k v → c ≡ command.Test at → Tests h k
tests_kept h w c at answer k v g e =
    let t : Gives h w (command.Test at) answer k v = subst (λ (x : Command). Gives h w x answer k v) e g in
    record { pages = ap (λ (x : Held). x.pages) t.executed.back; limit = ap (λ (x : Held). x.limit) t.executed.back }

test_known : (K : Claim) (w v : facility.Held) (h k : Held) (m place at slot : ℕ) (gives : Option ℕ) (out : Sent) (answer : Reply) → EventKnown K w h place → TestsFrame h.marks at slot gives out → m ≡ h.marks.member → k.pages ≡ h.pages → k.limit ≡ h.limit → Tested w m at answer v → IsTestKnown K k at gives answer place
test_known K w v h k m place at slot gives out reply.Valid known lawful is pages limit t =
    let valid : bit w.directory h.marks.member at ≡ true = subst (λ (x : ℕ). bit w.directory x at ≡ true) is (valid_bit w v m at t) in
    full_known K k at place gives (λ table gives_is bytes full bytes_are says.
    let may : IsHeader h.marks lawful.page slot table = subst (λ (x : Option ℕ). MayGive h.marks lawful.page slot x) gives_is lawful.may in
    known.space table full (record {
      at = at;
      page = lawful.page;
      bytes = bytes;
      placed = lawful.placed;
      header = may.header;
      claimed = may.claimed;
      filled = lawful.filled;
      valid = valid;
      bytes_are = subst (λ (x : List (List ℕ)). slice_get x at ≡ Some bytes) pages bytes_are;
      full = subst (λ (x : ℕ). look_of (action.GiveSlot table 0 0) x 0 None bytes ≡ look.Full full) limit says;
    }))
test_known K w v h k m place at slot gives out _ known lawful is pages limit t = tt

-- ---- a command

intent_known : SendsLawfully → (K : Claim) (w v : facility.Held) (h ready k : Held) (s : Setting) (i : Intent) (c : Command) (answer : Reply) (place : ℕ) → need_of h.marks h.pages s i ≡ Ok (sent.Command c) → Reserves i h ready → Gives (begun ready place) w c answer k v → EventKnown K w h place → IsIntentKnown K k i v.lists.waits (cells_for v.lists.cells k.marks.member c) answer place
intent_known law K w v h ready k s (intent.Obtain o n m) c answer place need reserves gives known =
    let l = law h.marks h.pages s (intent.Obtain o n m) (sent.Command c) need in
    let x = executed (begun ready place) w c (command.Obtain n m) answer k v gives (is_command c _ l.is) in
    obtain_known K w v h ready.marks.member place n m answer known (member_kept (intent.Obtain o n m) h ready reserves) x.1.1.0
intent_known law K w v h ready k s (intent.Grant o n m) c answer place need reserves gives known =
    let l = law h.marks h.pages s (intent.Grant o n m) (sent.Command c) need in
    let x = executed (begun ready place) w c (command.Grant (cell_slot o n) n m) answer k v gives (is_command c _ l.is) in
    grant_known K w v h ready.marks.member place (cell_slot o n) n m answer known (member_kept (intent.Grant o n m) h ready reserves) x.1.1.0
intent_known law K w v h ready k s (intent.Answers o n m asked) c answer place need reserves gives known =
    let e : c ≡ command.Answers (cell_slot o n) = is_command c _ (law h.marks h.pages s (intent.Answers o n m asked) (sent.Command c) need) in
    let x = executed (begun ready place) w c (command.Answers (cell_slot o n)) answer k v gives e in
    let is : k.marks.member ≡ h.marks.member = ap (λ (t : MarksState). t.member) (marks_after (begun ready place) w c answer k v gives) ∙ member_kept (intent.Answers o n m asked) h ready reserves in
    cells_as K n m v.lists.cells k.marks.member (cell_slot o n) c e (read_cells_known K w v h k.marks.member place (cell_slot o n) n m answer known is x.1.1.0)
intent_known law K w v h ready k s (intent.Waits slots) c answer place need reserves gives known =
    let e : c ≡ command.Waits = is_command c _ (law h.marks h.pages s (intent.Waits slots) (sent.Command c) need) in
    let x = executed (begun ready place) w c command.Waits answer k v gives e in
    read_waits_known K w v h place answer known x.1.1.0
intent_known law K w v h ready k s (intent.Test at slot gives) c answer place need reserves gives_command known =
    let l = law h.marks h.pages s (intent.Test at slot gives) (sent.Command c) need in
    let e : c ≡ command.Test at = is_command c _ l.is in
    let x = executed (begun ready place) w c (command.Test at) answer k v gives_command e in
    let kept = tests_kept (begun ready place) w c at answer k v gives_command e in
    let pages : k.pages ≡ h.pages = kept.pages ∙ ap (λ (t : Held). t.pages) reserves in
    let limit : k.limit ≡ h.limit = kept.limit ∙ ap (λ (t : Held). t.limit) reserves in
    test_known K w v h k ready.marks.member place at slot gives (sent.Command c) answer known l (member_kept (intent.Test at slot gives) h ready reserves) pages limit x.1.1.0
intent_known law K w v h ready k s (intent.Change slot action frames) c answer place need reserves gives known =
    let l = law h.marks h.pages s (intent.Change slot action frames) (sent.Command c) need in
    let x = executed (begun ready place) w c (command.Draw (indexes_of frames)) answer k v gives (is_command c _ l.is) in
    draw_known K w v h ready.marks.member place (indexes_of frames) answer known x.1.1.0
intent_known law K w v h ready k s (intent.Undo o at) c answer place need reserves gives known =
    let l = law h.marks h.pages s (intent.Undo o at) (sent.Command c) need in
    let x = executed (begun ready place) w c (command.DrawUndo (record { count = 1; at = at ∷ 0 ∷ 0 ∷ [] })) answer k v gives (is_command c _ l.is) in
    draw_back_known K w v ready.marks.member place (record { count = 1; at = at ∷ 0 ∷ 0 ∷ [] }) answer x.1.1.0
intent_known law K w v h ready k s (intent.Commit slot) c answer place need reserves gives known =
    let l = law h.marks h.pages s (intent.Commit slot) (sent.Command c) need in
    let x = executed (begun ready place) w c (command.Draw (record { count = 0; at = 0 ∷ 0 ∷ 0 ∷ [] })) answer k v gives (is_command c _ l.is) in
    draw_known K w v h ready.marks.member place (record { count = 0; at = 0 ∷ 0 ∷ 0 ∷ [] }) answer known x.1.1.0
intent_known law K w v h ready k s _ c answer place need reserves gives known = tt

command_known : SendsLawfully → (K : Claim) (w v : facility.Held) (h ready k : Held) (s : Setting) (i : Intent) (c : Command) (p : Plan) (place : ℕ) (a : Answered) (said : Told) → need_of h.marks h.pages s i ≡ Ok (sent.Command c) → Reserves i h ready → RunsCommand w (begun ready place) i c p place a said v k → EventKnown K w h place → HomeKnown K place k.marks → KnownIn K place k.marks
command_known law K w v h ready k s i c p place a said need reserves r known home =
    settled_known K r.after i p v.lists.waits (cells_for v.lists.cells r.after.marks.member c) r.answer place said k
    (intent_known law K w v h ready r.after s i c r.answer place need reserves r.gives known)
    home
    (begun_quiet place ready r.after (marks_after (begun ready place) w c r.answer r.after v r.gives))
    r.settles

-- ---- a call of the disk

frame_marks : (b : Bool) (w : Drive) (h : Held) (at : ℕ) (page : PageId) (done : Result (Unit {0}) DiskError) (v : Drive) (k : Held) → ReadsFrame b w h at page done v k → k.marks ≡ h.marks
frame_marks true w h at page done v k r = ap (λ (x : Held). x.marks) r.1
frame_marks false w h at page done v k r = ap (λ (x : Held). x.marks) r.2

reads_marks : (at : Option ℕ) (w : Drive) (h : Held) (page : PageId) (done : Result (Unit {0}) DiskError) (v : Drive) (k : Held) → ReadsAs at w h page done v k → k.marks ≡ h.marks
reads_marks None w h page done v k r = ap (λ (x : Held). x.marks) r.2
reads_marks (Some at) w h page done v k r = frame_marks (ltb at (length h.pages)) w h at page done v k r

calls_marks : (w : Drive) (h : Held) (i : Intent) (s : Sent) (done : Result (Unit {0}) DiskError) (v : Drive) (k : Held) → Calls w h i s done v k → k.marks ≡ h.marks
calls_marks w h i sent.AppendLog done v k r = ap (λ (x : Held). x.marks) r.1
calls_marks w h i (sent.ReadPage page) done v k r = reads_marks (frame_read i) w h page done v k r
calls_marks w h i (sent.WritePage page) done v k r = ap (λ (x : Held). x.marks) r.1
calls_marks w h i sent.None done v k r = ap (λ (x : Held). x.marks) r.2
calls_marks w h i (sent.Command c) done v k r = ap (λ (x : Held). x.marks) r.2

stores_quiet : (place : ℕ) (h : Held) (i : Intent) (done : Result (Unit {0}) DiskError) (a : Answered) (said : Told) (k : Held) → Stores h i done a said k → QuietIn place h.marks → QuietIn place k.marks
stores_quiet place h i (Ok x) a said k r quiet = subst (λ (x : Held). QuietIn place x.marks) (sym r.2) (stored_quiet place h i quiet)
stores_quiet place h i (Err error.Failed) a said k r quiet = subst (λ (x : Held). QuietIn place x.marks) (sym r.2) quiet
stores_quiet place h i (Err error.NoMemory) a said k r quiet = absurd r

call_known : (K : Claim) (place : ℕ) (w : Drive) (h : Held) (i : Intent) (s : Sent) (a : Answered) (said : Told) (v : Drive) (k : Held) → RunsCall w (begun h place) i s a said v k → KnownIn K place k.marks
call_known K place w h i s a said v k r =
    quiet_known K place k.marks.trans (stores_quiet place r.after i r.done a said k r.stores (begun_quiet place h r.after (calls_marks w (begun h place) i s r.done v r.after r.calls)))

-- ---- what goes out

runs_known : SendsLawfully → (K : Claim) (w v : World) (h ready k : Held) (c : Setting) (i : Intent) (s : Sent) (p : Plan) (place : ℕ) (a : Answered) (said : Told) → need_of h.marks h.pages c i ≡ Ok s → Reserves i h ready → Runs w (begun ready place) i s p place a said v k → EventKnown K w.facility h place → HomeKnown K place k.marks → KnownIn K place k.marks
runs_known law K w v h ready k c i sent.None p place a said need reserves r known home =
    subst (λ (x : Held). KnownIn K place x.marks) (sym r.held) (quiet_known K place (unsent (begun ready place) i).marks.trans (unsent_quiet place (begun ready place) i (refl, refl, refl)))
runs_known law K w v h ready k c i (sent.Command out) p place a said need reserves r known home =
    command_known law K w.facility v.facility h ready k c i out p place a said need reserves r.0 known home
runs_known law K w v h ready k c i sent.AppendLog p place a said need reserves r known home = call_known K place w.drive ready i sent.AppendLog a said v.drive k r.0
runs_known law K w v h ready k c i (sent.ReadPage page) p place a said need reserves r known home = call_known K place w.drive ready i (sent.ReadPage page) a said v.drive k r.0
runs_known law K w v h ready k c i (sent.WritePage page) p place a said need reserves r known home = call_known K place w.drive ready i (sent.WritePage page) a said v.drive k r.0

-- ---- an event of the member's own

-- where all that may be refused in an event is known, so is what it refuses
pub happens_known : SendsLawfully → (K : Claim) (w v : World) (h k : Held) (i : Intent) (place : ℕ) (s : Sent) (a : Answered) (e : Happens w h i place s a v k) → EventKnown K w.facility h place → ((u : MarksState) → Between e.after.marks k.marks u → HomeKnown K place u) → KnownIn K place k.marks
happens_known law K w v h k i place s a e known home =
    let need = needs (need_of h.marks h.pages (setting_of h (holder_in w.facility h.cast) place) i) _ s e.plan e.lawful in
    let after : KnownIn K place e.after.marks = runs_known law K w v h e.ready e.after (setting_of h (holder_in w.facility h.cast) place) i s e.plan place a e.said need e.reserves e.runs known (home e.after.marks (stays e.after.marks, e.ends.0)) in
    reaches_known K place e.after.marks k.marks e.ends.0 home after
