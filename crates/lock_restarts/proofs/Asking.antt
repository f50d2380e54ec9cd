-- The lock of the page that is to be undone, as it is asked for.
use Rattle.std.proofs.Common.{◌≡◌, ℕ, refl, sym, ◌∙◌, ap, arith, true, false, inr, [], ◌∷◌, Option, Some, None}
use Rattle.std.specs.Prelude.{◌&&◌, ◌||◌, ◌==◌, if◌then◌else◌, is_none}
use Rattle.ds_base.specs.declared.names.PageId.{PageId}
use Rattle.ds_model.specs.declared.lock.Name.TheVariants as name
use Rattle.lock_names.specs.declared.mode.Mode.{Mode}
use Rattle.lock_names.specs.declared.mode.Mode.TheVariants.{X}
use Rattle.lock_names.specs.Modes.{join_of}
use Rattle.lock_structure.specs.Locks.{Locks}
use Rattle.list_structure.specs.Askers.{slot_of}
use Rattle.list_structure.specs.Cells.{AreCells, emptied}
use Rattle.facility.specs.declared.command.Reply.{Reply}
use Rattle.facility.specs.declared.command.Reply.TheVariants as reply
use Rattle.facility.specs.States.{Held}
use Rattle.facility.specs.LockCommands.{GrantAnswers, ObtainAnswers, clean_answers}
use Rattle.restart_records.specs.Trans.{page_undone}
use Rattle.restart_marks.specs.Locks.{claim_after}
use Rattle.restart_marks.specs.Moves.{is_claimed}
use Rattle.restart_marks.specs.State.{RestartState}
use Rattle.lock_protocol.specs.Machine.{World, wanted}
use Rattle.lock_protocol.specs.Moves.{Ask, Grant, Obtain, Refuse}
use Rattle.lock_world.specs.Cells.{AsksMoves, RefusesMoves}
use Rattle.lock_world.specs.Grants.{EntersIf, GrantsMoves, MayEnter, ObtainsMoves}
use Rattle.lock_world.specs.Numbers.{number}
use Rattle.lock_world.specs.Standing.{StaysTied}
use Rattle.lock_world.specs.Tied.{Claims, Moved, Tied}
use Rattle.lock_world.specs.Views.{entry_in}
use Rattle.lock_restarts.specs.Intents.{AskGoes, GrantGoes, ObtainGoes}
use Rattle.lock_restarts.specs.Stands.{Goes, IsRestarting, Knows, Leads, OwnClaims, known_with, none_gone}
use Rattle.lock_restarts.proofs.Spares.{ask_spares, grant_spares, obtain_spares, refuse_spares}
use Rattle.lock_restarts.proofs.Stands.{claim_entered, ended, quiet_goes, stay_claims}

-- what the crates below say
pub record Facts : Type 0 where
  pub obtain : ObtainsMoves
  pub grant : GrantsMoves
  pub refuse : RefusesMoves
  pub ask : AsksMoves
  pub stay : StaysTied

join_x : (a : Mode) → join_of a X ≡ X
unfolding join_of
join_x a = grind arith

wanted_x : (x : Option Mode) → wanted x X ≡ X
wanted_x None = refl
wanted_x (Some a) = join_x a

never : true ≡ false → ⊥
never e = cc

may_enter : (f : Held) (held : Claims) (own : OwnClaims) (s : RestartState) (page : PageId) → IsRestarting f own s → MayEnter f.lists held s.member 0 (name.Page page) X
may_enter f held own s page r = record {
  member = r.member;
  among = r.among;
  stands = inr (r.restarts, refl, refl);
  owners = λ _. refl;
  joined = wanted_x (held s.member 0 (number (name.Page page)));
}

-- the page's lock is granted, and entered
enters : (f : Held) (held left : Claims) (own : OwnClaims) (s t : RestartState) (page : PageId) → IsRestarting f own s → Knows held own s → (is_none s.claim || is_claimed s page) ≡ true → t.claim ≡ Some page → Leads held left own s t
    → EntersIf held left s.member 0 (name.Page page) X true
enters f held left own s t page r knows free claimed leads = (
  (λ _ other. absurd (never other)),
  record {
    others = leads.others;
    own = λ o c.
        leads.knows o c ∙ ap (λ (z : Option PageId). known_with own z o c) claimed ∙ claim_entered own s.claim page r.pages free o c
        ∙ ap (λ (z : Option Mode). if true && ((o == 0) && (c == number (name.Page page))) then Some X else z) (sym (knows o c));
  },
)

-- ---- obtain
unchanged : (f g : Held) → g ≡ record f { locks = g.locks } → g.locks ≡ f.locks → g ≡ f
unchanged f g a b = a ∙ ap (λ (z : Locks). record f { locks = z }) b

not_granted : Facts → (w : World) (f g : Held) (held left : Claims) (own : OwnClaims) (s t : RestartState) → Tied w f.locks f.lists held → Knows held own s → Leads held left own s t → g ≡ record f { locks = g.locks } → g.locks ≡ f.locks → t.claim ≡ s.claim → Goes w f g left s.member none_gone
not_granted facts w f g held left own s t tied knows leads only same claim = quiet_goes facts.stay w f g held left s.member none_gone tied (unchanged f g only same) (stay_claims held left own s t knows leads claim)

obtained : Facts → (w : World) (f g : Held) (held left : Claims) (own : OwnClaims) (s t : RestartState) (id : ℕ) (page : PageId) (answer : Reply)
    → Tied w f.locks f.lists held → IsRestarting f own s → Knows held own s → page_undone s.trans id ≡ Some page → (is_none s.claim || is_claimed s page) ≡ true
    → ObtainAnswers f.locks s.member (name.Page page) X answer g.locks → g ≡ record f { locks = g.locks } → t ≡ claim_after s id answer → Leads held left own s t → Goes w f g left s.member none_gone
obtained facts w f g held left own s t id page (reply.Granted version) tied r knows undone free gives only is leads =
    let claimed : t.claim ≡ Some page = ap (λ (z : RestartState). z.claim) is ∙ undone in
    let moved : Moved w (Obtain s.member 0 (number (name.Page page)) X true ∷ []) f.locks g.locks g.lists left =
    ended facts.stay w (Obtain s.member 0 (number (name.Page page)) X true ∷ []) f.locks g.locks f.lists g left left
    (facts.obtain w f.locks g.locks f.lists held left s.member 0 (name.Page page) X true tied (may_enter f held own s page r) (enters f held left own s t page r knows free claimed leads) gives.0 gives.2 gives.4)
    refl (ap (λ (z : Held). z.lists.cells) only) (ap (λ (z : Held). z.lists.statuses) only) (ap (λ (z : Held). z.lists.members) only) (λ k o c. refl) in
    record {
      moves = Obtain s.member 0 (number (name.Page page)) X true ∷ [];
      own = (refl, tt);
      moved = moved;
      spares = obtain_spares (entry_in f.locks) w moved.world s.member (number (name.Page page)) X moved.run;
    }
obtained facts w f g held left own s t id page (reply.Retained by) tied r knows undone free gives only is leads = not_granted facts w f g held left own s t tied knows leads only gives.1 (ap (λ (z : RestartState). z.claim) is)
obtained facts w f g held left own s t id page (reply.RecordsFull limit) tied r knows undone free gives only is leads = not_granted facts w f g held left own s t tied knows leads only gives.3 (ap (λ (z : RestartState). z.claim) is)
obtained facts w f g held left own s t id page (reply.Contention share exclusive version) tied r knows undone free gives only is leads = not_granted facts w f g held left own s t tied knows leads only gives.6 (ap (λ (z : RestartState). z.claim) is)
obtained facts w f g held left own s t id page (reply.Moved version) tied r knows undone free gives only is leads = absurd gives
obtained facts w f g held left own s t id page (reply.RetainedLock other mode) tied r knows undone free gives only is leads = absurd gives
obtained facts w f g held left own s t id page reply.Done tied r knows undone free gives only is leads = absurd gives
obtained facts w f g held left own s t id page reply.Nothing tied r knows undone free gives only is leads = absurd gives
obtained facts w f g held left own s t id page reply.Found tied r knows undone free gives only is leads = absurd gives
obtained facts w f g held left own s t id page reply.NoData tied r knows undone free gives only is leads = absurd gives
obtained facts w f g held left own s t id page reply.CacheFull tied r knows undone free gives only is leads = absurd gives
obtained facts w f g held left own s t id page reply.Lost tied r knows undone free gives only is leads = absurd gives
obtained facts w f g held left own s t id page reply.Written tied r knows undone free gives only is leads = absurd gives
obtained facts w f g held left own s t id page reply.Valid tied r knows undone free gives only is leads = absurd gives
obtained facts w f g held left own s t id page reply.Invalid tied r knows undone free gives only is leads = absurd gives
obtained facts w f g held left own s t id page reply.Taken tied r knows undone free gives only is leads = absurd gives
obtained facts w f g held left own s t id page reply.NotChanged tied r knows undone free gives only is leads = absurd gives
obtained facts w f g held left own s t id page (reply.Locked by) tied r knows undone free gives only is leads = absurd gives
obtained facts w f g held left own s t id page reply.NotHeld tied r knows undone free gives only is leads = absurd gives
obtained facts w f g held left own s t id page (reply.ChangedPage other) tied r knows undone free gives only is leads = absurd gives
obtained facts w f g held left own s t id page (reply.Query query) tied r knows undone free gives only is leads = absurd gives
obtained facts w f g held left own s t id page reply.Gone tied r knows undone free gives only is leads = absurd gives
obtained facts w f g held left own s t id page reply.Cells tied r knows undone free gives only is leads = absurd gives
obtained facts w f g held left own s t id page reply.Waits tied r knows undone free gives only is leads = absurd gives
obtained facts w f g held left own s t id page reply.Raised tied r knows undone free gives only is leads = absurd gives
obtained facts w f g held left own s t id page reply.NotRaised tied r knows undone free gives only is leads = absurd gives
obtained facts w f g held left own s t id page (reply.Status status) tied r knows undone free gives only is leads = absurd gives
obtained facts w f g held left own s t id page reply.NotLost tied r knows undone free gives only is leads = absurd gives
obtained facts w f g held left own s t id page (reply.ClaimTaken by) tied r knows undone free gives only is leads = absurd gives
obtained facts w f g held left own s t id page reply.Claimed tied r knows undone free gives only is leads = absurd gives
obtained facts w f g held left own s t id page (reply.Drawn lrsn) tied r knows undone free gives only is leads = absurd gives
obtained facts w f g held left own s t id page (reply.Stale index) tied r knows undone free gives only is leads = absurd gives
obtained facts w f g held left own s t id page (reply.LrsnEnd at) tied r knows undone free gives only is leads = absurd gives

pub obtain_goes : Facts → ObtainGoes
obtain_goes facts w f g held left own s t id page answer tied r knows undone free gives is leads = obtained facts w f g held left own s t id page answer tied r knows undone free gives.0 gives.1 is leads

-- ---- grant
refused : Facts → (w : World) (f g : Held) (held left : Claims) (own : OwnClaims) (s t : RestartState) → Tied w f.locks f.lists held → IsRestarting f own s → Knows held own s → Leads held left own s t
    → AreCells g.lists.cells (emptied f.lists.cells (slot_of s.member 0)) → g ≡ record f { locks = g.locks; lists = record f.lists { cells = g.lists.cells } } → g.locks ≡ f.locks → t.claim ≡ s.claim → Goes w f g left s.member none_gone
refused facts w f g held left own s t tied r knows leads are only same claim =
    let moved : Moved w (Refuse s.member 0 ∷ []) f.locks g.locks g.lists left =
    ended facts.stay w (Refuse s.member 0 ∷ []) f.locks f.locks g.lists g held left (facts.refuse w f.locks f.lists g.lists held s.member 0 tied r.member (omega arith) are (ap (λ (z : Held). z.lists) only))
    same refl refl refl (stay_claims held left own s t knows leads claim) in
    record { moves = Refuse s.member 0 ∷ []; own = (refl, tt); moved = moved; spares = refuse_spares (entry_in f.locks) w moved.world s.member moved.run }

granted : Facts → (w : World) (f g : Held) (held left : Claims) (own : OwnClaims) (s t : RestartState) (id : ℕ) (page : PageId) (answer : Reply)
    → Tied w f.locks f.lists held → IsRestarting f own s → Knows held own s → page_undone s.trans id ≡ Some page → (is_none s.claim || is_claimed s page) ≡ true
    → GrantAnswers f.locks s.member (name.Page page) X (clean_answers f.lists.cells s.member 0 (name.Page page) X) answer g.locks → AreCells g.lists.cells (emptied f.lists.cells (slot_of s.member 0))
    → g ≡ record f { locks = g.locks; lists = record f.lists { cells = g.lists.cells } } → t ≡ claim_after s id answer → Leads held left own s t → Goes w f g left s.member none_gone
granted facts w f g held left own s t id page (reply.Granted version) tied r knows undone free gives are only is leads =
    let claimed : t.claim ≡ Some page = ap (λ (z : RestartState). z.claim) is ∙ undone in
    let moved : Moved w (Grant s.member 0 (number (name.Page page)) X true ∷ []) f.locks g.locks g.lists left =
    facts.grant w f.locks g.locks f.lists g.lists held left s.member 0 (name.Page page) X true tied (may_enter f held own s page r) (enters f held left own s t page r knows free claimed leads) (omega arith)
    gives.0 gives.2 gives.4 are (ap (λ (z : Held). z.lists) only) in
    record {
      moves = Grant s.member 0 (number (name.Page page)) X true ∷ [];
      own = (refl, tt);
      moved = moved;
      spares = grant_spares (entry_in f.locks) w moved.world s.member (number (name.Page page)) X moved.run;
    }
granted facts w f g held left own s t id page (reply.Retained by) tied r knows undone free gives are only is leads = refused facts w f g held left own s t tied r knows leads are only gives.1 (ap (λ (z : RestartState). z.claim) is)
granted facts w f g held left own s t id page (reply.RecordsFull limit) tied r knows undone free gives are only is leads = refused facts w f g held left own s t tied r knows leads are only gives.3 (ap (λ (z : RestartState). z.claim) is)
granted facts w f g held left own s t id page (reply.Contention share exclusive version) tied r knows undone free gives are only is leads = absurd gives
granted facts w f g held left own s t id page (reply.Moved version) tied r knows undone free gives are only is leads = refused facts w f g held left own s t tied r knows leads are only gives.4 (ap (λ (z : RestartState). z.claim) is)
granted facts w f g held left own s t id page (reply.RetainedLock other mode) tied r knows undone free gives are only is leads = absurd gives
granted facts w f g held left own s t id page reply.Done tied r knows undone free gives are only is leads = absurd gives
granted facts w f g held left own s t id page reply.Nothing tied r knows undone free gives are only is leads = absurd gives
granted facts w f g held left own s t id page reply.Found tied r knows undone free gives are only is leads = absurd gives
granted facts w f g held left own s t id page reply.NoData tied r knows undone free gives are only is leads = absurd gives
granted facts w f g held left own s t id page reply.CacheFull tied r knows undone free gives are only is leads = absurd gives
granted facts w f g held left own s t id page reply.Lost tied r knows undone free gives are only is leads = absurd gives
granted facts w f g held left own s t id page reply.Written tied r knows undone free gives are only is leads = absurd gives
granted facts w f g held left own s t id page reply.Valid tied r knows undone free gives are only is leads = absurd gives
granted facts w f g held left own s t id page reply.Invalid tied r knows undone free gives are only is leads = absurd gives
granted facts w f g held left own s t id page reply.Taken tied r knows undone free gives are only is leads = absurd gives
granted facts w f g held left own s t id page reply.NotChanged tied r knows undone free gives are only is leads = absurd gives
granted facts w f g held left own s t id page (reply.Locked by) tied r knows undone free gives are only is leads = absurd gives
granted facts w f g held left own s t id page reply.NotHeld tied r knows undone free gives are only is leads = absurd gives
granted facts w f g held left own s t id page (reply.ChangedPage other) tied r knows undone free gives are only is leads = absurd gives
granted facts w f g held left own s t id page (reply.Query query) tied r knows undone free gives are only is leads = absurd gives
granted facts w f g held left own s t id page reply.Gone tied r knows undone free gives are only is leads = absurd gives
granted facts w f g held left own s t id page reply.Cells tied r knows undone free gives are only is leads = absurd gives
granted facts w f g held left own s t id page reply.Waits tied r knows undone free gives are only is leads = absurd gives
granted facts w f g held left own s t id page reply.Raised tied r knows undone free gives are only is leads = absurd gives
granted facts w f g held left own s t id page reply.NotRaised tied r knows undone free gives are only is leads = absurd gives
granted facts w f g held left own s t id page (reply.Status status) tied r knows undone free gives are only is leads = absurd gives
granted facts w f g held left own s t id page reply.NotLost tied r knows undone free gives are only is leads = absurd gives
granted facts w f g held left own s t id page (reply.ClaimTaken by) tied r knows undone free gives are only is leads = absurd gives
granted facts w f g held left own s t id page reply.Claimed tied r knows undone free gives are only is leads = absurd gives
granted facts w f g held left own s t id page (reply.Drawn lrsn) tied r knows undone free gives are only is leads = absurd gives
granted facts w f g held left own s t id page (reply.Stale index) tied r knows undone free gives are only is leads = absurd gives
granted facts w f g held left own s t id page (reply.LrsnEnd at) tied r knows undone free gives are only is leads = absurd gives

pub grant_goes : Facts → GrantGoes
grant_goes facts w f g held left own s t id page answer tied r knows undone free gives is leads = granted facts w f g held left own s t id page answer tied r knows undone free gives.0 gives.1 gives.2 is leads

-- ---- a query
pub ask_goes : Facts → AskGoes
ask_goes facts w f g held left own s t to page answer tied r knows member gives claim leads =
    let moved : Moved w (Ask s.member 0 to (number (name.Page page)) X ∷ []) f.locks g.locks g.lists left =
    ended facts.stay w (Ask s.member 0 to (number (name.Page page)) X ∷ []) f.locks f.locks g.lists g held left
    (facts.ask w f.locks f.lists g.lists held s.member 0 to (name.Page page) X tied r.member (omega arith) member gives.1.0 (ap (λ (z : Held). z.lists) gives.1.1))
    (ap (λ (z : Held). z.locks) gives.1.1) refl refl refl (stay_claims held left own s t knows leads claim) in
    record {
      moves = Ask s.member 0 to (number (name.Page page)) X ∷ [];
      own = (refl, tt);
      moved = moved;
      spares = ask_spares (entry_in f.locks) w moved.world s.member to (number (name.Page page)) X moved.run;
    }
