-- A member whose restart is in hand answers queries and asks.
use Rattle.std.proofs.Common.{◌≡◌, ℕ, ◌≤◌, refl, sym, ◌∙◌, ap, subst, Bool, true, false, inl, inr, List, [], ◌∷◌, Option, Some, None, Result, Ok, Err}
use Rattle.std.specs.Prelude.{◌≢◌, ◌⊎◌, ◌==◌, ◌&&◌, leb, if◌then◌else◌, is_some}
use Rattle.std.proofs.lemmas.Bool.{and_from, and_left, and_parts, and_right, both_ways, cases_Bool, cond-false, cond_both, eq-eqb, eqb-true, le-leb, leb-true, ne_eqb}
use Rattle.ds_base.specs.Ids.{IsMember}
use Rattle.ds_base.specs.declared.names.PageId.{PageId}
use Rattle.ds_model.specs.declared.lock.Name.{Name}
use Rattle.ds_model.specs.declared.lock.Name.TheVariants as name
use Rattle.lock_names.specs.declared.mode.Mode.{Mode}
use Rattle.lock_names.specs.declared.mode.Mode.TheVariants.{X}
use Rattle.lock_structure.specs.Locks.{Locks, entry_for}
use Rattle.lock_manager.specs.declared.claim.LockAnswer.{LockAnswer}
use Rattle.lock_manager.specs.declared.claim.LockAnswer.TheVariants as answer
use Rattle.lock_manager.specs.Claims.{is_in_way}
use Rattle.lock_manager.specs.Managers.{answer_of}
use Rattle.list_structure.specs.declared.query.Asker.{Asker}
use Rattle.list_structure.specs.declared.query.Cell.{Cell}
use Rattle.list_structure.specs.declared.query.Cell.TheVariants.{Asked}
use Rattle.list_structure.specs.declared.query.CellAnswer.{CellAnswer}
use Rattle.list_structure.specs.declared.query.CellAnswer.TheVariants as cell
use Rattle.list_structure.specs.Askers.{same_asker, slot_of}
use Rattle.list_structure.specs.Cells.{AreCells, cell_of, with_cell}
use Rattle.list_structure.specs.Standings.{is_live, status_of}
use Rattle.list_structure.specs.States.{ListsState}
use Rattle.facility.specs.declared.command.Command.TheVariants as command
use Rattle.facility.specs.declared.command.Reply.{Reply}
use Rattle.facility.specs.declared.command.Reply.TheVariants as reply
use Rattle.facility.specs.ListCommands.{AnswersQuery, answered_cell}
use Rattle.facility.specs.States.{Held as Facility}
use Rattle.member_trans.specs.declared.fate.Owner.{Owner}
use Rattle.member_intents.specs.declared.intent.Intent.{Intent}
use Rattle.member_intents.specs.declared.intent.Intent.TheVariants as intent
use Rattle.member_intents.specs.declared.outcome.Answered.{Answered}
use Rattle.member_intents.specs.declared.outcome.Sent.{Sent}
use Rattle.member_intents.specs.declared.outcome.Sent.TheVariants as sent
use Rattle.member_intents.specs.declared.test.Test.{Test}
use Rattle.member_intents.specs.Cells.{cell_slot}
use Rattle.member_marks.specs.Claims.{answer_to, cell_for}
use Rattle.member_marks.specs.State.{MarksState, slot_id}
use Rattle.member_needs.specs.Castout.{done}
use Rattle.member_needs.specs.Needs.{need_of}
use Rattle.member_needs.specs.Plans.{intent_plan}
use Rattle.member_needs.specs.declared.needs.Setting.{Setting}
use Rattle.member_needs.specs.declared.plans.Plan.{Plan}
use Rattle.member_effects.specs.declared.told.Told.{Told}
use Rattle.needs_law.specs.Lawful.{Lawful, SendsLawfully}
use Rattle.member_resources.specs.declared.prepared.Prepared.{Prepared}
use Rattle.member_resources.specs.Events.{Happens, Runs, World as Resources, holder_in}
use Rattle.member_resources.specs.Held.{Held, begun}
use Rattle.member_resources.specs.Prepared.{Reserves, needed, setting_of}
use Rattle.restart_marks.specs.Moves.{is_claimed_as, is_same}
use Rattle.group_member.specs.declared.restarting.Restarting.{Restarting as RestartHeld}
use Rattle.group_member.specs.Queries.{answers_held, is_held}
use Rattle.group_member.specs.Resting.{changes_locks}
use Rattle.marks_law.specs.Claims.{ClaimsStay, changes_claims}
use Rattle.lock_protocol.specs.Machine.{Empty, World}
use Rattle.lock_protocol.specs.Moves.{AnswerClean, AnswerConflict, Ask, Demote, Fail, GiveUp, Grant, GroupFail, Local, Move, Obtain, Postpone, Purge, Refuse, Release, Restart, Run, Step}
use Rattle.lock_protocol.specs.Own.{AreOf}
use Rattle.lock_world.specs.Answers.{AnswersClean, AnswersConflict}
use Rattle.lock_world.specs.Books.{AnswersTell}
use Rattle.lock_world.specs.Cells.{AsksMoves}
use Rattle.lock_world.specs.Numbers.{AreNumbered, name_at, number}
use Rattle.lock_world.specs.Standing.{StaysTied}
use Rattle.lock_world.specs.Tied.{Claims, Moved, Tied}
use Rattle.lock_world.specs.Views.{as_cell, cell_in, claim_in, entry_in, is_member, is_slot}
use Rattle.lock_members.specs.Given.{CommandsStay, Quiet, is_quiet}
use Rattle.lock_members.specs.Known.{or_else, page_claim, restart_claim}

pub record Facts : Type 0 where
  pub numbers : AreNumbered
  pub stay : StaysTied
  pub clean : AnswersClean
  pub conflict : AnswersConflict
  pub ask : AsksMoves
  pub tells : AnswersTell
  pub command : CommandsStay
  pub claims : ClaimsStay
  pub lawful : SendsLawfully

never : true ≡ false → ⊥
never e = cc

-- ---- moves behind which the claims are as they were
pub record FacilityGoes (m : ℕ) (w : World) (f g : Facility) (held : Claims) : Type 0 where
  pub moves : List Move
  pub by : AreOf m moves
  pub moved : Moved w moves f.locks g.locks g.lists held
  pub claims : (k o c : ℕ) → moved.world.claims k o c ≡ w.claims k o c
  pub statuses : g.lists.statuses ≡ f.lists.statuses
  pub members : g.lists.members ≡ f.lists.members

quiet_same : (f g : Facility) → g ≡ f → Quiet f g
quiet_same f g e = subst (λ z. Quiet f z) (sym e) (record { locks = refl; lists = record { cells = refl; statuses = refl; members = refl } })

pub by_quiet : Facts → (m : ℕ) (w : World) (f g : Facility) (held : Claims) → Tied w f.locks f.lists held → Quiet f g → FacilityGoes m w f g held
by_quiet facts m w f g held tied q = record {
  moves = [];
  by = tt;
  moved = moved;
  claims = λ k o c. ap (λ (z : World). z.claims k o c) moved.run;
  statuses = q.lists.statuses;
  members = q.lists.members;
}
  where
    moved : Moved w [] f.locks g.locks g.lists held
    moved = subst (λ (z : Locks). Moved w [] f.locks z g.lists held) (sym q.locks)
        (facts.stay w f.locks f.lists g.lists held held tied (record { cells = q.lists.cells; statuses = q.lists.statuses; members = q.lists.members; claims = λ k o c. refl }))

-- moves that ask and answer change no claim
abbrev OnlyTells : Move → Type 0
OnlyTells (Ask m owner to name mode) = Unit {0}
OnlyTells (AnswerClean k m owner name mode) = Unit {0}
OnlyTells (AnswerConflict k m owner name mode) = Unit {0}
OnlyTells _ = ⊥

abbrev OnlyTell : List Move → Type 0
OnlyTell [] = Unit {0}
OnlyTell (x ∷ xs) = OnlyTells x × OnlyTell xs

one_tells : (entry : ℕ → ℕ) (w v : World) (x : Move) → OnlyTells x → Step entry w x v → (k o c : ℕ) → v.claims k o c ≡ w.claims k o c
one_tells entry w v (Obtain m owner name need b) t e k o c = absurd t
one_tells entry w v (Grant m owner name need b) t e k o c = absurd t
one_tells entry w v (Refuse m owner) t e k o c = absurd t
one_tells entry w v (Local m owner name need) t e k o c = absurd t
one_tells entry w v (Ask m owner to name mode) t e k o c = ap (λ (z : World). z.claims k o c) e
one_tells entry w v (AnswerClean m asker owner name mode) t e k o c = ap (λ (z : World). z.claims k o c) e.1
one_tells entry w v (AnswerConflict m asker owner name mode) t e k o c = ap (λ (z : World). z.claims k o c) e
one_tells entry w v (Release m owner name keeps) t e k o c = absurd t
one_tells entry w v (GiveUp m which) t e k o c = absurd t
one_tells entry w v (Demote m owner name mode) t e k o c = absurd t
one_tells entry w v (Postpone m owner to) t e k o c = absurd t
one_tells entry w v (Fail m) t e k o c = absurd t
one_tells entry w v (Restart m) t e k o c = absurd t
one_tells entry w v (Purge m name) t e k o c = absurd t
one_tells entry w v GroupFail t e k o c = absurd t

all_tell : (entry : ℕ → ℕ) (w v : World) (xs : List Move) → OnlyTell xs → Run entry w xs v → (k o c : ℕ) → v.claims k o c ≡ w.claims k o c
all_tell entry w v [] t r k o c = ap (λ (z : World). z.claims k o c) r
all_tell entry w v (x ∷ xs) t r k o c = all_tell entry r.0 v xs t.1 r.2 k o c ∙ one_tells entry w r.0 x t.0 r.1 k o c

-- only cells change
by_cells : (m : ℕ) (w : World) (f g : Facility) (held : Claims) (moves : List Move) → AreOf m moves → OnlyTell moves → g ≡ record f { lists = record f.lists { cells = g.lists.cells } } → Moved w moves f.locks f.locks g.lists held → FacilityGoes m w f g held
by_cells m w f g held moves by tell same moved = record {
  moves = moves;
  by = by;
  moved = now;
  claims = all_tell (entry_in f.locks) w now.world moves tell now.run;
  statuses = ap (λ (z : Facility). z.lists.statuses) same;
  members = ap (λ (z : Facility). z.lists.members) same;
}
  where
    now : Moved w moves f.locks g.locks g.lists held
    now = subst (λ (z : Locks). Moved w moves f.locks z g.lists held) (sym (ap (λ (z : Facility). z.locks) same)) moved

-- ---- queries that aren't between members
is_within : (a o k : ℕ) → (is_member a && (is_slot o && is_member k)) ≡ true → IsMember a × ((o ≤ 16) × IsMember k)
is_within a o k e =
    let p = and_parts (is_member a) (is_slot o && is_member k) e in
    let q = and_parts (is_slot o) (is_member k) p.1 in
    let x = and_parts (leb 1 a) (leb a 32) p.0 in
    let y = and_parts (leb 1 k) (leb k 32) q.1 in
    ((leb-true 1 a x.0, leb-true a 32 x.1), (leb-true o 16 q.0, (leb-true 1 k y.0, leb-true k 32 y.1)))

same_cells : (w : World) (locks : Locks) (lists now : ListsState) (held : Claims) → Tied w locks lists held → ((a o k : ℕ) → cell_in now a o k ≡ cell_in lists a o k) → now.statuses ≡ lists.statuses → now.members ≡ lists.members → Tied w locks now held
same_cells w locks lists now held t cells statuses members = record {
  versions = t.versions;
  interest = t.interest;
  records = t.records;
  claims = t.claims;
  down = t.down;
  up = λ k o c m e. t.up k o c m (ap (λ z. status_of z k) (sym statuses) ∙ e);
  own = t.own;
  cells = λ a o k. t.cells a o k ∙ sym (cells a o k);
  live = λ k one most. t.live k one (subst (λ z. k ≤ z) members most) ∙ ap (λ z. is_live (status_of z k)) (sym statuses);
}

cells_as : (before now : ListsState) (f : Asker → ℕ → Cell) → AreCells now.cells f → ((a : Asker) (k : ℕ) → IsMember a.member → IsMember k → f a k ≡ cell_of before.cells a k) → (a o k : ℕ) → cell_in now a o k ≡ cell_in before a o k
cells_as before now f are same a o k = cases (is_member a && (is_slot o && is_member k)) refl
  where
    cases : (b : Bool) → (is_member a && (is_slot o && is_member k)) ≡ b → (if b then as_cell (cell_of now.cells (slot_of a o) k) else Empty) ≡ (if b then as_cell (cell_of before.cells (slot_of a o) k) else Empty)
    cases false e = refl
    cases true e =
        let within = is_within a o k e in
        ap (λ z. as_cell z) (are (slot_of a o) k (within.0, within.1.0) within.1.1 ∙ same (slot_of a o) k within.0 within.1.1)

member_or : (k : ℕ) → IsMember k ⊎ ((j : ℕ) → IsMember j → j ≢ k)
member_or k = elim (cases_Bool (is_member k)) [
  | inl is ↦ inl (let p = and_parts (leb 1 k) (leb k 32) is in (leb-true 1 k p.0, leb-true k 32 p.1))
  | inr isnt ↦ inr (λ j m e. both_ways (is_member k) isnt (subst (λ z. is_member z ≡ true) e (and_from (leb 1 j) (leb j 32) (le-leb 1 j m.0) (le-leb j 32 m.1))))
]

abbrev IsNone : Asker → ℕ → Type 0
IsNone asker to = ((a : Asker) (k : ℕ) → IsMember a.member → IsMember k → (same_asker a asker && (k == to)) ≡ false)

none_to : (asker : Asker) (to : ℕ) → ((j : ℕ) → IsMember j → j ≢ to) → IsNone asker to
none_to asker to other a k am km = and_right (same_asker a asker) (k == to) (ne_eqb k to (other k km))

none_of : (asker : Asker) (to : ℕ) → ((j : ℕ) → IsMember j → j ≢ asker.member) → IsNone asker to
none_of asker to other a k am km = and_left (same_asker a asker) (k == to) (and_left (a.member == asker.member) (a.slot == asker.slot) (ne_eqb a.member asker.member (other a.member am)))

strangers : Facts → (m : ℕ) (w : World) (f g : Facility) (held : Claims) (asker : Asker) (to : ℕ) (c : Cell) → Tied w f.locks f.lists held → IsNone asker to
    → AreCells g.lists.cells (with_cell f.lists.cells asker to c) → g ≡ record f { lists = record f.lists { cells = g.lists.cells } } → FacilityGoes m w f g held
strangers facts m w f g held asker to c tied none are same =
    let lists : g.lists ≡ record f.lists { cells = g.lists.cells } = ap (λ (z : Facility). z.lists) same in
    let cells : (a o k : ℕ) → cell_in g.lists a o k ≡ cell_in f.lists a o k = cells_as f.lists g.lists (with_cell f.lists.cells asker to c) are (λ a k am km. cond-false (same_asker a asker && (k == to)) c (cell_of f.lists.cells a k) (none a k am km)) in
    let now : Tied w f.locks g.lists held = same_cells w f.locks f.lists g.lists held tied cells (ap (λ (z : ListsState). z.statuses) lists) (ap (λ (z : ListsState). z.members) lists) in
    by_cells m w f g held [] tt tt same (facts.stay w f.locks g.lists g.lists held held now (record { cells = refl; statuses = refl; members = refl; claims = λ k o c. refl }))

-- ---- a page whose lock the restart has
is_itself : (p : PageId) → is_same p p ≡ true
is_itself p = ap (λ z. z && (p.number == p.number)) (eq-eqb p.set p.set refl) ∙ eq-eqb p.number p.number refl

same_page : AreNumbered → (claim : PageId) (n : Name) → (number n == number (name.Page claim)) ≡ true → n ≡ name.Page claim
same_page law claim n e = sym (law.named n) ∙ ap (λ z. name_at z) (eqb-true (number n) (number (name.Page claim)) e) ∙ law.named (name.Page claim)

held_itself : (q : RestartHeld) (page : PageId) (n : Name) → q.resources.marks.claim ≡ Some page → n ≡ name.Page page → is_held (Some q) n ≡ true
held_itself q page n claim e = ap (λ (z : Name). is_held (Some q) z) e ∙ ap (λ (z : Option PageId). is_claimed_as z page) claim ∙ is_itself page

no_claim : AreNumbered → (q : RestartHeld) (x : Option PageId) (n : Name) → q.resources.marks.claim ≡ x → is_held (Some q) n ≡ false → page_claim x (number n) ≡ None
no_claim law q None n claim free = refl
no_claim law q (Some page) n claim free = elim (cases_Bool (number n == number (name.Page page))) [
  | inl e ↦ absurd (never (sym (held_itself q page n claim (same_page law page n e)) ∙ free))
  | inr e ↦ ap (λ (b : Bool). if b then Some X else None) e
]

test_none : (b : Bool) (x : Option Mode) → x ≡ None → (if b then x else None) ≡ None
test_none true x e = e
test_none false x e = refl

restart_free : AreNumbered → (x : Option RestartHeld) (n : Name) → is_held x n ≡ false → (o : ℕ) → restart_claim x o (number n) ≡ None
restart_free law None n free o = refl
restart_free law (Some q) n free o = test_none (o == 0) (page_claim q.resources.marks.claim (number n)) (no_claim law q q.resources.marks.claim n refl free)

or_way : (x y : Option Mode) (m : Mode) → is_in_way x m ≡ false → y ≡ None → is_in_way (or_else x y) m ≡ false
or_way None y m free e = ap (λ (z : Option Mode). is_in_way z m) e
or_way (Some a) y m free e = free

-- ---- who answers, and what it knows
pub record Stands (w : World) (f : Facility) (held : Claims) (m : ℕ) (s : MarksState) (x : Option RestartHeld) : Type 0 where
  pub tied : Tied w f.locks f.lists held
  pub member : IsMember m
  pub among : m ≤ f.lists.members
  pub live : is_live (status_of f.lists.statuses m) ≡ true
  pub own : s.member ≡ m
  pub knows : (o c : ℕ) → held m o c ≡ or_else (claim_in s.locks o c) (restart_claim x o c)

module _ (facts : Facts) (w : World) (f g : Facility) (held : Claims) (m : ℕ) (s : MarksState) (x : Option RestartHeld) (asker : Asker) (n : Name) (mode : Mode) (event : ℕ) where
  conflicts : (said : CellAnswer) → Stands w f held m s x → said ≢ cell.Clean → IsMember asker.member → asker.slot ≤ 16
      → AreCells g.lists.cells (with_cell f.lists.cells asker m (answered_cell f n mode said event)) → g ≡ record f { lists = record f.lists { cells = g.lists.cells } } → FacilityGoes m w f g held
  conflicts said st other is few are same = by_cells m w f g held (AnswerConflict m asker.member asker.slot (number n) mode ∷ []) (refl, tt) (tt, tt) same
      (facts.conflict w f.locks f.lists g.lists held m asker.member asker.slot (entry_for f.locks n).version event n mode said st.tied is few st.member other are (ap (λ (z : Facility). z.lists) same))

  answered : Stands w f held m s x → is_held x n ≡ false → IsMember asker.member → asker.slot ≤ 16
      → AreCells g.lists.cells (with_cell f.lists.cells asker m (answered_cell f n mode (cell_for s (answer_of s.locks n mode)) event)) → g ≡ record f { lists = record f.lists { cells = g.lists.cells } }
      → (a : LockAnswer) → answer_of s.locks n mode ≡ a → FacilityGoes m w f g held
  answered st free is few are same answer.Clean e = by_cells m w f g held (AnswerClean m asker.member asker.slot (number n) mode ∷ []) (refl, tt) (tt, tt) same
      (facts.clean w f.locks f.lists g.lists held m asker.member asker.slot event n mode st.tied is few st.member st.live st.among
      (λ q. subst (λ (z : Option Mode). is_in_way z mode ≡ false) (sym (st.knows q (number n))) (or_way (claim_in s.locks q (number n)) (restart_claim x q (number n)) mode (facts.tells s.locks n mode e q) (restart_free facts.numbers x n free q)))
      (subst (λ z. AreCells g.lists.cells (with_cell f.lists.cells asker m (answered_cell f n mode (cell_for s z) event))) e are) (ap (λ (z : Facility). z.lists) same))
  answered st free is few are same (answer.Conflict by) e = conflicts (cell.Conflict (slot_id s by)) st (λ z. cc) is few
      (subst (λ z. AreCells g.lists.cells (with_cell f.lists.cells asker m (answered_cell f n mode (cell_for s z) event))) e are) same
  answered st free is few are same (answer.Postponed by) e = conflicts (cell.Postponed by) st (λ z. cc) is few
      (subst (λ z. AreCells g.lists.cells (with_cell f.lists.cells asker m (answered_cell f n mode (cell_for s z) event))) e are) same

  by_asker : Stands w f held m s x → is_held x n ≡ false → asker.slot ≤ 16
      → AreCells g.lists.cells (with_cell f.lists.cells asker m (answered_cell f n mode (answer_to s n mode) event)) → g ≡ record f { lists = record f.lists { cells = g.lists.cells } } → FacilityGoes m w f g held
  by_asker st free few are same = elim (member_or asker.member) [
    | inl is ↦ answered st free is few are same (answer_of s.locks n mode) refl
    | inr other ↦ strangers facts m w f g held asker m (answered_cell f n mode (answer_to s n mode) event) st.tied (none_of asker m other) are same
  ]

  by_reply : (a : Reply) → Stands w f held m s x → is_held x n ≡ false → asker.slot ≤ 16 → AnswersQuery f m asker n mode (answer_to s n mode) event a g → FacilityGoes m w f g held
  by_reply (reply.Granted version) st free few e = absurd e
  by_reply (reply.Retained by) st free few e = absurd e
  by_reply (reply.RecordsFull limit) st free few e = absurd e
  by_reply (reply.Contention share exclusive version) st free few e = absurd e
  by_reply (reply.Moved version) st free few e = absurd e
  by_reply (reply.RetainedLock other least) st free few e = absurd e
  by_reply reply.Done st free few e = by_asker st free few e.1.0 e.1.1
  by_reply reply.Nothing st free few e = absurd e
  by_reply reply.Found st free few e = absurd e
  by_reply reply.NoData st free few e = absurd e
  by_reply reply.CacheFull st free few e = absurd e
  by_reply reply.Lost st free few e = absurd e
  by_reply reply.Written st free few e = absurd e
  by_reply reply.Valid st free few e = absurd e
  by_reply reply.Invalid st free few e = absurd e
  by_reply reply.Taken st free few e = absurd e
  by_reply reply.NotChanged st free few e = absurd e
  by_reply (reply.Locked by) st free few e = absurd e
  by_reply reply.NotHeld st free few e = absurd e
  by_reply (reply.ChangedPage page) st free few e = absurd e
  by_reply (reply.Query query) st free few e = absurd e
  by_reply reply.Gone st free few e = by_quiet facts m w f g held st.tied (quiet_same f g e.1)
  by_reply reply.Cells st free few e = absurd e
  by_reply reply.Waits st free few e = absurd e
  by_reply reply.Raised st free few e = absurd e
  by_reply reply.NotRaised st free few e = absurd e
  by_reply (reply.Status status) st free few e = absurd e
  by_reply reply.NotLost st free few e = absurd e
  by_reply (reply.ClaimTaken by) st free few e = absurd e
  by_reply reply.Claimed st free few e = absurd e
  by_reply (reply.Drawn lrsn) st free few e = absurd e
  by_reply (reply.Stale index) st free few e = absurd e
  by_reply (reply.LrsnEnd last) st free few e = absurd e

-- ---- what is sent
abbrev QuietSent : Sent → Type 0
QuietSent sent.None = Unit {0}
QuietSent (sent.Command c) = is_quiet c ≡ true
QuietSent sent.AppendLog = Unit {0}
QuietSent (sent.ReadPage page) = Unit {0}
QuietSent (sent.WritePage page) = Unit {0}

quiet_as : (s t : Sent) → s ≡ t → QuietSent t → QuietSent s
quiet_as s t e q = subst (λ z. QuietSent z) (sym e) q

pub claims_of : (i : Intent) → changes_locks i ≡ false → changes_claims i ≡ false
claims_of intent.Step e = refl
claims_of (intent.Obtain o n m) e = absurd (never e)
claims_of (intent.Grant o n m) e = absurd (never e)
claims_of (intent.Ask o to n m) e = refl
claims_of (intent.Answers o n m asked) e = refl
claims_of (intent.Status who) e = refl
claims_of (intent.Take past) e = refl
claims_of (intent.Answer asker n m) e = refl
claims_of (intent.ReleaseLock o) e = absurd (never e)
claims_of (intent.ReleasePage page) e = absurd (never e)
claims_of (intent.Purge n) e = absurd (never e)
claims_of (intent.End o) e = absurd (never e)
claims_of (intent.Wait slot holder flag) e = refl
claims_of (intent.Unwait slot) e = refl
claims_of (intent.Waits bits) e = refl
claims_of (intent.Flag flag) e = refl
claims_of (intent.Raise flag) e = refl
claims_of intent.LoseCache e = refl
claims_of (intent.Read frame) e = refl
claims_of (intent.ReadPage frame) e = refl
claims_of (intent.Test frame slot gives) e = refl
claims_of (intent.WritePage frame) e = refl
claims_of (intent.Unregister frame) e = refl
claims_of (intent.Change slot action frames) e = refl
claims_of (intent.Undo o frame) e = refl
claims_of (intent.Commit slot) e = refl
claims_of intent.Append e = refl
claims_of (intent.NextChanged past) e = refl
claims_of (intent.CastoutRead page) e = refl
claims_of intent.CastoutWrite e = refl
claims_of intent.CastoutDone e = refl
claims_of intent.PhaseDone e = refl

ready_same : (i : Intent) (h k : Held) → changes_locks i ≡ false → Reserves i h k → (k.marks.locks ≡ h.marks.locks) × (k.marks.member ≡ h.marks.member)
ready_same intent.Step h k e r = (ap (λ (z : Held). z.marks.locks) r, ap (λ (z : Held). z.marks.member) r)
ready_same (intent.Obtain o n m) h k e r = absurd (never e)
ready_same (intent.Grant o n m) h k e r = absurd (never e)
ready_same (intent.Ask o to n m) h k e r = (ap (λ (z : Held). z.marks.locks) r, ap (λ (z : Held). z.marks.member) r)
ready_same (intent.Answers o n m asked) h k e r = (ap (λ (z : Held). z.marks.locks) r, ap (λ (z : Held). z.marks.member) r)
ready_same (intent.Status who) h k e r = (ap (λ (z : Held). z.marks.locks) r, ap (λ (z : Held). z.marks.member) r)
ready_same (intent.Take past) h k e r = (ap (λ (z : Held). z.marks.locks) r, ap (λ (z : Held). z.marks.member) r)
ready_same (intent.Answer asker n m) h k e r = (ap (λ (z : Held). z.marks.locks) r, ap (λ (z : Held). z.marks.member) r)
ready_same (intent.ReleaseLock o) h k e r = absurd (never e)
ready_same (intent.ReleasePage page) h k e r = absurd (never e)
ready_same (intent.Purge n) h k e r = absurd (never e)
ready_same (intent.End o) h k e r = absurd (never e)
ready_same (intent.Wait slot holder flag) h k e r = (ap (λ (z : Held). z.marks.locks) r, ap (λ (z : Held). z.marks.member) r)
ready_same (intent.Unwait slot) h k e r = (ap (λ (z : Held). z.marks.locks) r, ap (λ (z : Held). z.marks.member) r)
ready_same (intent.Waits bits) h k e r = (ap (λ (z : Held). z.marks.locks) r, ap (λ (z : Held). z.marks.member) r)
ready_same (intent.Flag flag) h k e r = (ap (λ (z : Held). z.marks.locks) r, ap (λ (z : Held). z.marks.member) r)
ready_same (intent.Raise flag) h k e r = (ap (λ (z : Held). z.marks.locks) r, ap (λ (z : Held). z.marks.member) r)
ready_same intent.LoseCache h k e r = (ap (λ (z : Held). z.marks.locks) r, ap (λ (z : Held). z.marks.member) r)
ready_same (intent.Read frame) h k e r = (ap (λ (z : Held). z.marks.locks) r, ap (λ (z : Held). z.marks.member) r)
ready_same (intent.ReadPage frame) h k e r = (ap (λ (z : Held). z.marks.locks) r, ap (λ (z : Held). z.marks.member) r)
ready_same (intent.Test frame slot gives) h k e r = (ap (λ (z : Held). z.marks.locks) r, ap (λ (z : Held). z.marks.member) r)
ready_same (intent.WritePage frame) h k e r = (ap (λ (z : Held). z.marks.locks) r, ap (λ (z : Held). z.marks.member) r)
ready_same (intent.Unregister frame) h k e r = (ap (λ (z : Held). z.marks.locks) r, ap (λ (z : Held). z.marks.member) r)
ready_same (intent.Change slot action frames) h k e r = (ap (λ (z : Held). z.marks.locks) r, ap (λ (z : Held). z.marks.member) r)
ready_same (intent.Undo o frame) h k e r = (ap (λ (z : Held). z.marks.locks) r, ap (λ (z : Held). z.marks.member) r)
ready_same (intent.Commit slot) h k e r = (ap (λ (z : Held). z.marks.locks) r, ap (λ (z : Held). z.marks.member) r)
ready_same intent.Append h k e r = (ap (λ (z : Held). z.marks.locks) r, ap (λ (z : Held). z.marks.member) r)
ready_same (intent.NextChanged past) h k e r = (ap (λ (z : Held). z.marks.locks) r, ap (λ (z : Held). z.marks.member) r)
ready_same (intent.CastoutRead page) h k e r = (ap (λ (z : Held). z.marks.locks) r, ap (λ (z : Held). z.marks.member) r)
ready_same intent.CastoutWrite h k e r = (ap (λ (z : Held). z.marks.locks) r, ap (λ (z : Held). z.marks.member) r)
ready_same intent.CastoutDone h k e r = (ap (λ (z : Held). z.marks.locks) r, ap (λ (z : Held). z.marks.member) r)
ready_same intent.PhaseDone h k e r = (ap (λ (z : Held). z.marks.locks) r, ap (λ (z : Held). z.marks.member) r)

-- the query is about no page whose lock the restart has
not_held : (x : Option RestartHeld) (asker : Asker) (n : Name) (m : Mode) → answers_held x (intent.Answer asker n m) ≡ false → is_held x n ≡ false
not_held x asker n m e = by (is_held x n) e
  where
    by : (b : Bool) → is_some (if b then Some asker else None) ≡ false → b ≡ false
    by true e = absurd (never e)
    by false e = refl

module _ (facts : Facts) (w : World) (u v : Resources) (held : Claims) (m : ℕ) (h ready k : Held) (x : Option RestartHeld) (c : Setting) (plan : Plan) (place : ℕ) (a : Answered) (said : Told) (st : Stands w u.facility held m h.marks x) (same : ready.marks.member ≡ h.marks.member) where
  quiet : (i : Intent) (s : Sent) → QuietSent s → Runs u ready i s plan place a said v k → FacilityGoes m w u.facility v.facility held
  quiet i s q r = by_quiet facts m w u.facility v.facility held st.tied (quiet_runs s q r)
    where
      quiet_runs : (s : Sent) → QuietSent s → Runs u ready i s plan place a said v k → Quiet u.facility v.facility
      quiet_runs sent.None q r = quiet_same u.facility v.facility (ap (λ (z : Resources). z.facility) r.world)
      quiet_runs (sent.Command c) q r = facts.command u.facility v.facility ready.marks.member c _ _ r.0.answer q r.0.gives.executed.executes
      quiet_runs sent.AppendLog q r = quiet_same u.facility v.facility r.1
      quiet_runs (sent.ReadPage page) q r = quiet_same u.facility v.facility r.1
      quiet_runs (sent.WritePage page) q r = quiet_same u.facility v.facility r.1

  own : ready.marks.member ≡ m
  own = same ∙ st.own

  asks : (o : Owner) (to : ℕ) (n : Name) (mode : Mode) → Runs u ready (intent.Ask o to n mode) (sent.Command (command.Ask (cell_slot o n) to n mode)) plan place a said v k → FacilityGoes m w u.facility v.facility held
  asks o to n mode r =
      let only = r.0.gives.executed.executes.0.1.1 in
      let are = subst (λ z. AreCells v.facility.lists.cells (with_cell u.facility.lists.cells (slot_of z (cell_slot o n)) to (Asked n mode))) own r.0.gives.executed.executes.0.1.0 in
      elim (member_or to) [
        | inl is ↦ by_cells m w u.facility v.facility held (Ask m (cell_slot o n) to (number n) mode ∷ []) (refl, tt) (tt, tt) only
            (facts.ask w u.facility.locks u.facility.lists v.facility.lists held m (cell_slot o n) to n mode st.tied st.member r.0.gives.can is are (ap (λ (z : Facility). z.lists) only))
        | inr other ↦ strangers facts m w u.facility v.facility held (slot_of m (cell_slot o n)) to (Asked n mode) st.tied (none_to (slot_of m (cell_slot o n)) to other) are only
      ]

  answers : (asker : Asker) (n : Name) (mode : Mode) → answers_held x (intent.Answer asker n mode) ≡ false → Runs u ready (intent.Answer asker n mode) (sent.Command (command.Answer asker n mode (answer_to h.marks n mode) c.place)) plan place a said v k → FacilityGoes m w u.facility v.facility held
  answers asker n mode keeps r =
      by_reply facts w u.facility v.facility held m h.marks x asker n mode c.place r.0.answer st (not_held x asker n mode keeps) r.0.gives.can
      (subst (λ z. AnswersQuery u.facility z asker n mode (answer_to h.marks n mode) c.place r.0.answer v.facility) own r.0.gives.executed.executes.0)

  by_intent : (i : Intent) (s : Sent) → changes_locks i ≡ false → answers_held x i ≡ false → Lawful h.marks h.pages c i s → Runs u ready i s plan place a said v k → FacilityGoes m w u.facility v.facility held
  by_intent intent.Step s changes keeps lawful r = quiet intent.Step s (quiet_as s _ lawful tt) r
  by_intent (intent.Obtain o n m) s changes keeps lawful r = absurd (never changes)
  by_intent (intent.Grant o n m) s changes keeps lawful r = absurd (never changes)
  by_intent (intent.Ask o to n m) s changes keeps lawful r = asks o to n m (subst (λ (z : Sent). Runs u ready (intent.Ask o to n m) z plan place a said v k) lawful r)
  by_intent (intent.Answers o n m asked) s changes keeps lawful r = quiet (intent.Answers o n m asked) s (quiet_as s _ lawful refl) r
  by_intent (intent.Status who) s changes keeps lawful r = quiet (intent.Status who) s (quiet_as s _ lawful refl) r
  by_intent (intent.Take past) s changes keeps lawful r = quiet (intent.Take past) s (quiet_as s _ lawful refl) r
  by_intent (intent.Answer asker n m) s changes keeps lawful r = answers asker n m keeps (subst (λ (z : Sent). Runs u ready (intent.Answer asker n m) z plan place a said v k) lawful.is r)
  by_intent (intent.ReleaseLock o) s changes keeps lawful r = absurd (never changes)
  by_intent (intent.ReleasePage page) s changes keeps lawful r = absurd (never changes)
  by_intent (intent.Purge n) s changes keeps lawful r = absurd (never changes)
  by_intent (intent.End o) s changes keeps lawful r = absurd (never changes)
  by_intent (intent.Wait slot holder flag) s changes keeps lawful r = quiet (intent.Wait slot holder flag) s (quiet_as s _ lawful.is refl) r
  by_intent (intent.Unwait slot) s changes keeps lawful r = quiet (intent.Unwait slot) s (quiet_as s _ lawful.is refl) r
  by_intent (intent.Waits bits) s changes keeps lawful r = quiet (intent.Waits bits) s (quiet_as s _ lawful refl) r
  by_intent (intent.Flag flag) s changes keeps lawful r = quiet (intent.Flag flag) s (quiet_as s _ lawful refl) r
  by_intent (intent.Raise flag) s changes keeps lawful r = quiet (intent.Raise flag) s (quiet_as s _ lawful refl) r
  by_intent intent.LoseCache s changes keeps lawful r = quiet intent.LoseCache s (quiet_as s _ lawful refl) r
  by_intent (intent.Read frame) s changes keeps lawful r = quiet (intent.Read frame) s (quiet_as s _ lawful.is refl) r
  by_intent (intent.ReadPage frame) s changes keeps lawful r = quiet (intent.ReadPage frame) s (quiet_as s _ lawful.is tt) r
  by_intent (intent.Test frame slot gives) s changes keeps lawful r = quiet (intent.Test frame slot gives) s (quiet_as s _ lawful.is refl) r
  by_intent (intent.WritePage frame) s changes keeps lawful r = quiet (intent.WritePage frame) s (quiet_as s _ lawful.is refl) r
  by_intent (intent.Unregister frame) s changes keeps lawful r = quiet (intent.Unregister frame) s (quiet_as s _ lawful.is refl) r
  by_intent (intent.Change slot action frames) s changes keeps lawful r = quiet (intent.Change slot action frames) s (quiet_as s _ lawful.is refl) r
  by_intent (intent.Undo o frame) s changes keeps lawful r = quiet (intent.Undo o frame) s (quiet_as s _ lawful.is refl) r
  by_intent (intent.Commit slot) s changes keeps lawful r = quiet (intent.Commit slot) s (quiet_as s _ lawful.is refl) r
  by_intent intent.Append s changes keeps lawful r = quiet intent.Append s (quiet_as s _ lawful.is tt) r
  by_intent (intent.NextChanged past) s changes keeps lawful r = quiet (intent.NextChanged past) s (quiet_as s _ lawful refl) r
  by_intent (intent.CastoutRead page) s changes keeps lawful r = quiet (intent.CastoutRead page) s (quiet_as s _ lawful refl) r
  by_intent intent.CastoutWrite s changes keeps lawful r = quiet intent.CastoutWrite s (quiet_as s _ lawful.is (cond_both c.is_holder (sent.WritePage lawful.cast.page) (done lawful.cast.page) (λ z. QuietSent z) (λ f. tt) (λ f. refl))) r
  by_intent intent.CastoutDone s changes keeps lawful r = quiet intent.CastoutDone s (quiet_as s _ lawful.is refl) r
  by_intent intent.PhaseDone s changes keeps lawful r = quiet intent.PhaseDone s (quiet_as s _ lawful refl) r

-- ---- what is sent passed its tests
abbrev sent_in : Result Prepared Test → Result Sent Test
sent_in (Ok x) = Ok x.sent
sent_in (Err test) = Err test

needs_sent : (x : Result Sent Test) (y : Result Plan Test) (s : Sent) (p : Plan) → needed x y ≡ Ok (record { sent = s; plan = p }) → x ≡ Ok s
needs_sent (Err test) y s p e = absurd cc
needs_sent (Ok t) (Err test) s p e = absurd cc
needs_sent (Ok t) (Ok q) s p e = ap sent_in e

-- the facility behind it, and the claims before the policy's local moves
pub record OwnGoes (m : ℕ) (w : World) (f g : Facility) (held : Claims) (s t : MarksState) : Type 0 where
  pub goes : FacilityGoes m w f g held
  pub locks : t.locks ≡ s.locks
  pub member : t.member ≡ s.member

pub own_goes : Facts → (w : World) (u v : Resources) (held : Claims) (m : ℕ) (h k : Held) (x : Option RestartHeld) (i : Intent) (place : ℕ) (s : Sent) (a : Answered)
    → Stands w u.facility held m h.marks x → changes_locks i ≡ false → answers_held x i ≡ false → (e : Happens u h i place s a v k) → OwnGoes m w u.facility v.facility held h.marks e.after.marks
own_goes facts w u v held m h k x i place s a st changes keeps e =
    let ready = ready_same i h e.ready changes e.reserves in
    let c : Setting = setting_of h (holder_in u.facility h.cast) place in
    let may : Lawful h.marks h.pages c i s = facts.lawful h.marks h.pages c i s (needs_sent (need_of h.marks h.pages c i) (intent_plan h.marks h.pages h.limit i) s e.plan e.lawful) in
    let same = facts.claims u v (begun e.ready place) e.after i s e.plan place a e.said (claims_of i changes) e.runs in
    record {
      goes = by_intent facts w u v held m h (begun e.ready place) e.after x c e.plan place a e.said st ready.1 i s changes keeps may e.runs;
      locks = same.locks ∙ ready.0;
      member = same.member ∙ ready.1;
    }
