-- Queries and their answers.
use Rattle.std.proofs.Common.{◌≡◌, ℕ, ◌≤◌, refl, sym, ap, subst, true, false, List, [], ◌∷◌, length}
use Rattle.std.specs.Prelude.{◌≢◌}
use Rattle.ds_base.specs.Ids.{IsMember}
use Rattle.ds_model.specs.declared.lock.Name.{Name}
use Rattle.lock_names.specs.declared.mode.Mode.{Mode}
use Rattle.lock_structure.specs.Locks.{Locks, entry_for}
use Rattle.list_structure.specs.declared.query.Asker.{Asker}
use Rattle.list_structure.specs.declared.query.Cell.TheVariants as cell
use Rattle.list_structure.specs.declared.query.CellAnswer.{CellAnswer}
use Rattle.list_structure.specs.declared.query.CellAnswer.TheVariants as said
use Rattle.list_structure.specs.declared.standing.MemberStatus.{MemberStatus}
use Rattle.list_structure.specs.declared.standing.MemberStatus.TheVariants.{Up}
use Rattle.list_structure.specs.Askers.{IsAsker, slot_of}
use Rattle.list_structure.specs.Cells.{AreCells, with_cell}
use Rattle.list_structure.specs.Standings.{status_of, is_live}
use Rattle.list_structure.specs.States.{ListsState}
use Rattle.lock_manager.specs.declared.claim.LockAnswer.{LockAnswer}
use Rattle.lock_manager.specs.declared.claim.LockAnswer.TheVariants as answer
use Rattle.lock_manager.specs.Claims.{is_in_way}
use Rattle.lock_manager.specs.Managers.{answer_of}
use Rattle.facility.specs.declared.command.Reply.{Reply}
use Rattle.facility.specs.declared.command.Reply.TheVariants as reply
use Rattle.facility.specs.States.{Held}
use Rattle.facility.specs.ListCommands.{AnswersQuery, answered_cell}
use Rattle.member_marks.specs.State.{MarksState, slot_id}
use Rattle.member_marks.specs.Claims.{cell_for}
use Rattle.lock_protocol.specs.Machine.{World}
use Rattle.lock_protocol.specs.Own.{AreOf}
use Rattle.lock_protocol.specs.Moves.{Move, Ask, AnswerClean, AnswerConflict}
use Rattle.lock_world.specs.Answers.{AnswersClean, AnswersConflict}
use Rattle.lock_world.specs.Books.{AnswersTell}
use Rattle.lock_world.specs.Cells.{AsksMoves}
use Rattle.lock_world.specs.Numbers.{number}
use Rattle.lock_world.specs.Standing.{StaysTied}
use Rattle.lock_world.specs.Tied.{Claims, Tied, Moved}
use Rattle.lock_world.specs.Views.{claim_in, is_live_in}
use Rattle.lock_intents.specs.Stands.{Knows, Leads, IsUp, Goes}
use Rattle.lock_intents.specs.Intents.{AskGoes, AnswerGoes}
use Rattle.lock_intents.proofs.Stands.{stay_claims, keeps_itself, still_up, quiet_same, quiet_goes, relabelled}

-- what the crates below say
pub record Facts : Type 0 where
  pub ask : AsksMoves
  pub clean : AnswersClean
  pub conflict : AnswersConflict
  pub tell : AnswersTell
  pub stay : StaysTied

-- only cells have changed, by these moves
cells_go : StaysTied → (w : World) (f g : Held) (held left : Claims) (s : MarksState) (moves : List Move) → AreOf s.member moves → IsUp f s → Knows held s → Leads held left s s → g ≡ record f { lists = record f.lists { cells = g.lists.cells } }
    → Moved w moves f.locks f.locks g.lists held → Goes w f g left s s
cells_go law w f g held left s moves own up knows leads same moved =
    let locks : g.locks ≡ f.locks = ap (λ (z : Held). z.locks) same in
    record {
      moves = moves;
      own = own;
      moved = subst (λ (z : Locks). Moved w moves f.locks z g.lists left) (sym locks) (relabelled law w moves f.locks f.locks g.lists g.lists held left moved refl refl refl (stay_claims held left s s knows leads (λ o c. refl)));
      same = refl;
      stands = still_up f g s s up (keeps_itself s up.book) (ap (λ (z : Held). z.lists.members) same) (ap (λ (z : Held). z.lists.statuses) same) (ap (λ (z : Locks). length z.entries) locks);
    }

pub ask_goes : Facts → AskGoes
ask_goes facts w f g held left s slot to n m answer tied up knows few member gives leads =
    cells_go facts.stay w f g held left s (Ask s.member slot to (number n) m ∷ []) (refl, tt) up knows leads gives.1.1 (facts.ask w f.locks f.lists g.lists held s.member slot to n m tied up.member few member gives.1.0 (ap (λ (z : Held). z.lists) gives.1.1))

-- ---- an answer
live_up : (s : MemberStatus) → s ≡ Up → is_live s ≡ true
live_up s e = subst (λ z. is_live z ≡ true) (sym e) refl

conflicts : Facts → (w : World) (f g : Held) (held left : Claims) (s : MarksState) (asker : Asker) (n : Name) (m : Mode) (event : ℕ) (x : CellAnswer) → Tied w f.locks f.lists held → IsUp f s → Knows held s → IsAsker asker → x ≢ said.Clean
    → AreCells g.lists.cells (with_cell f.lists.cells asker s.member (answered_cell f n m x event)) → g ≡ record f { lists = record f.lists { cells = g.lists.cells } } → Leads held left s s → Goes w f g left s s
conflicts facts w f g held left s asker n m event x tied up knows is_asker other are same leads =
    cells_go facts.stay w f g held left s (AnswerConflict s.member asker.member asker.slot (number n) m ∷ []) (refl, tt) up knows leads same
    (facts.conflict w f.locks f.lists g.lists held s.member asker.member asker.slot (entry_for f.locks n).version event n m x tied is_asker.0 is_asker.1 up.member other are (ap (λ (z : Held). z.lists) same))

answered : Facts → (w : World) (f g : Held) (held left : Claims) (s : MarksState) (asker : Asker) (n : Name) (m : Mode) (event : ℕ) → Tied w f.locks f.lists held → IsUp f s → Knows held s → IsAsker asker
    → AreCells g.lists.cells (with_cell f.lists.cells asker s.member (answered_cell f n m (cell_for s (answer_of s.locks n m)) event)) → g ≡ record f { lists = record f.lists { cells = g.lists.cells } } → Leads held left s s
    → (a : LockAnswer) → answer_of s.locks n m ≡ a → Goes w f g left s s
answered facts w f g held left s asker n m event tied up knows is_asker are same leads answer.Clean e =
    cells_go facts.stay w f g held left s (AnswerClean s.member asker.member asker.slot (number n) m ∷ []) (refl, tt) up knows leads same
    (facts.clean w f.locks f.lists g.lists held s.member asker.member asker.slot event n m tied is_asker.0 is_asker.1 up.member (live_up (status_of f.lists.statuses s.member) up.up) up.among
    (λ q. subst (λ z. is_in_way z m ≡ false) (sym (knows q (number n))) (facts.tell s.locks n m e q))
    (subst (λ z. AreCells g.lists.cells (with_cell f.lists.cells asker s.member (answered_cell f n m (cell_for s z) event))) e are) (ap (λ (z : Held). z.lists) same))
answered facts w f g held left s asker n m event tied up knows is_asker are same leads (answer.Conflict by) e = conflicts facts w f g held left s asker n m event (said.Conflict (slot_id s by)) tied up knows is_asker (λ x. cc)
    (subst (λ z. AreCells g.lists.cells (with_cell f.lists.cells asker s.member (answered_cell f n m (cell_for s z) event))) e are) same leads
answered facts w f g held left s asker n m event tied up knows is_asker are same leads (answer.Postponed by) e = conflicts facts w f g held left s asker n m event (said.Postponed by) tied up knows is_asker (λ x. cc)
    (subst (λ z. AreCells g.lists.cells (with_cell f.lists.cells asker s.member (answered_cell f n m (cell_for s z) event))) e are) same leads

answers_by : Facts → (w : World) (f g : Held) (held left : Claims) (s : MarksState) (asker : Asker) (n : Name) (m : Mode) (event : ℕ) (answer : Reply) → Tied w f.locks f.lists held → IsUp f s → Knows held s → IsAsker asker
    → AnswersQuery f s.member asker n m (cell_for s (answer_of s.locks n m)) event answer g → Leads held left s s → Goes w f g left s s
answers_by facts w f g held left s asker n m event (reply.Granted version) tied up knows is_asker gives leads = absurd gives
answers_by facts w f g held left s asker n m event (reply.Retained by) tied up knows is_asker gives leads = absurd gives
answers_by facts w f g held left s asker n m event (reply.RecordsFull limit) tied up knows is_asker gives leads = absurd gives
answers_by facts w f g held left s asker n m event (reply.Contention share exclusive version) tied up knows is_asker gives leads = absurd gives
answers_by facts w f g held left s asker n m event (reply.Moved version) tied up knows is_asker gives leads = absurd gives
answers_by facts w f g held left s asker n m event (reply.RetainedLock name mode) tied up knows is_asker gives leads = absurd gives
answers_by facts w f g held left s asker n m event reply.Done tied up knows is_asker gives leads = answered facts w f g held left s asker n m event tied up knows is_asker gives.1.0 gives.1.1 leads (answer_of s.locks n m) refl
answers_by facts w f g held left s asker n m event reply.Nothing tied up knows is_asker gives leads = absurd gives
answers_by facts w f g held left s asker n m event reply.Found tied up knows is_asker gives leads = absurd gives
answers_by facts w f g held left s asker n m event reply.NoData tied up knows is_asker gives leads = absurd gives
answers_by facts w f g held left s asker n m event reply.CacheFull tied up knows is_asker gives leads = absurd gives
answers_by facts w f g held left s asker n m event reply.Lost tied up knows is_asker gives leads = absurd gives
answers_by facts w f g held left s asker n m event reply.Written tied up knows is_asker gives leads = absurd gives
answers_by facts w f g held left s asker n m event reply.Valid tied up knows is_asker gives leads = absurd gives
answers_by facts w f g held left s asker n m event reply.Invalid tied up knows is_asker gives leads = absurd gives
answers_by facts w f g held left s asker n m event reply.Taken tied up knows is_asker gives leads = absurd gives
answers_by facts w f g held left s asker n m event reply.NotChanged tied up knows is_asker gives leads = absurd gives
answers_by facts w f g held left s asker n m event (reply.Locked by) tied up knows is_asker gives leads = absurd gives
answers_by facts w f g held left s asker n m event reply.NotHeld tied up knows is_asker gives leads = absurd gives
answers_by facts w f g held left s asker n m event (reply.ChangedPage page) tied up knows is_asker gives leads = absurd gives
answers_by facts w f g held left s asker n m event (reply.Query query) tied up knows is_asker gives leads = absurd gives
answers_by facts w f g held left s asker n m event reply.Gone tied up knows is_asker gives leads = quiet_goes facts.stay w f g held left s s tied up knows leads (quiet_same f g gives.1) (λ o c. refl) (keeps_itself s up.book)
answers_by facts w f g held left s asker n m event reply.Cells tied up knows is_asker gives leads = absurd gives
answers_by facts w f g held left s asker n m event reply.Waits tied up knows is_asker gives leads = absurd gives
answers_by facts w f g held left s asker n m event reply.Raised tied up knows is_asker gives leads = absurd gives
answers_by facts w f g held left s asker n m event reply.NotRaised tied up knows is_asker gives leads = absurd gives
answers_by facts w f g held left s asker n m event (reply.Status status) tied up knows is_asker gives leads = absurd gives
answers_by facts w f g held left s asker n m event reply.NotLost tied up knows is_asker gives leads = absurd gives
answers_by facts w f g held left s asker n m event (reply.ClaimTaken by) tied up knows is_asker gives leads = absurd gives
answers_by facts w f g held left s asker n m event reply.Claimed tied up knows is_asker gives leads = absurd gives
answers_by facts w f g held left s asker n m event (reply.Drawn lrsn) tied up knows is_asker gives leads = absurd gives
answers_by facts w f g held left s asker n m event (reply.Stale index) tied up knows is_asker gives leads = absurd gives
answers_by facts w f g held left s asker n m event (reply.LrsnEnd at) tied up knows is_asker gives leads = absurd gives

pub answer_goes : Facts → AnswerGoes
answer_goes facts w f g held left s asker n m event answer tied up knows is_asker gives leads = answers_by facts w f g held left s asker n m event answer tied up knows is_asker gives leads
