-- Local moves of a restart, one behind the other.
use Rattle.std.proofs.Common.{◌≡◌, ℕ, ◌+◌, refl, sym, ap, subst, ◌∙◌, arith, Bool, true, false, inl, inr, List, [], ◌∷◌, ◌++◌, Option, Some, None}
use Rattle.std.specs.Prelude.{◌==◌, ◌&&◌, ◌||◌, not, if◌then◌else◌, is_none, is_some, slice_get}
use Rattle.std.specs.List.{count_by, flat_map}
use Rattle.std.proofs.lemmas.Bool.{and_parts, cases_eq, cond-false, cond-true, eq-eqb, ne_eqb}
use Rattle.std.proofs.lemmas.Grind.{flat_map-append}
use Rattle.std.proofs.lemmas.List.{append-nil}
use Rattle.std.proofs.lemmas.List.Sums.{sum_by-append}
use Rattle.ds_base.specs.declared.names.PageId.{PageId}
use Rattle.ds_model.specs.declared.log.LogRecord.{LogRecord}
use Rattle.ds_model.specs.RecordBytes.{record_bytes}
use Rattle.log_record.specs.Changes.{is_drawn}
use Rattle.member_log.specs.Buffers.{after_put}
use Rattle.restart_records.specs.declared.queue.TurnKey.{TurnKey}
use Rattle.restart_records.specs.Trans.{after_end, page_undone}
use Rattle.restart_marks.specs.Moves.{Local, TakeUpRetained, TakeUpUndone, PutDown, Close, Reaches, all_moved, claims_hand, closing_record, is_recovered, may_close, may_put_down, moved, retained_from, undone_from}
use Rattle.restart_marks.specs.State.{RestartState, no_hand, with_hand}
use Rattle.restart_resources.specs.Held.{Held, with_marks}
use Rattle.page_protocol.specs.Moves.{World}
use Rattle.page_protocol.specs.Always.{AlwaysGood}
use Rattle.page_world.specs.Holdings.{Holdings}
use Rattle.page_world.specs.Numbers.{set_of}
use Rattle.page_world.specs.Tied.{Tied}
use Rattle.page_intents.specs.Stands.{AreBehind}
use Rattle.page_restarts.specs.Hands.{PutsDown, TakesUp}
use Rattle.page_restarts.specs.Locals.{MayPark, PutsAside, ReachesGo}
use Rattle.page_restarts.specs.Stands.{Begins, Goes, IsRestarting, behind, copy_of}
use Rattle.page_restarts.proofs.Standing.{goes_on}

-- ---- the copies are as they were
behind_same : (g : Holdings) (forced : ℕ → ℕ) (h t : Held) → IsRestarting g forced h → ((j : ℕ) → copy_of t j ≡ copy_of h j) → behind g g.facility h.marks.member t ≡ g
behind_same g forced h t r same = λ i. record g { copies = λ k j. each k j i }
  where
    each : (k j : ℕ) → (if k == h.marks.member then copy_of t j else g.copies k j) ≡ g.copies k j
    each k j = elim (cases_eq k h.marks.member) [
      | inl e ↦ cond-true (k == h.marks.member) (copy_of t j) (g.copies k j) (eq-eqb k h.marks.member e) ∙ same j ∙ sym (r.copies j) ∙ sym (ap (λ z. g.copies z j) e)
      | inr ne ↦ cond-false (k == h.marks.member) (copy_of t j) (g.copies k j) (ne_eqb k h.marks.member ne)
    ]

-- ---- a record that draws no number
none_more : (stable count : ℕ) (bytes : List ℕ) (r : LogRecord) → is_drawn r.body ≡ false → AreBehind stable count bytes → AreBehind stable count (bytes ++ record_bytes r)
none_more stable count bytes r drawn b =
    let none : count_by (λ (x : LogRecord). is_drawn x.body) (r ∷ []) ≡ 0 = ap (λ z. 0 + (if z then 1 else 0)) drawn in
    let both : count_by (λ (x : LogRecord). is_drawn x.body) (b.records ++ r ∷ []) ≡ count_by (λ (x : LogRecord). is_drawn x.body) b.records + count_by (λ (x : LogRecord). is_drawn x.body) (r ∷ []) =
    sum_by-append (λ (x : LogRecord). if is_drawn x.body then 1 else 0) b.records (r ∷ []) in
    let before = b.counted in
    record {
      records = b.records ++ r ∷ [];
      spelled = ap (λ z. z ++ record_bytes r) b.spelled ∙ ap (λ z. flat_map record_bytes b.records ++ z) (sym (append-nil (record_bytes r))) ∙ sym (flat_map-append record_bytes b.records (r ∷ []));
      counted = omega (arith, none, both, before);
    }

-- ---- one local move
none_of : {A : Type 0} → (o : Option A) → is_none o ≡ true → o ≡ None
none_of None e = refl
none_of (Some x) e = absurd (cc e)

is_kept : (changed key : Bool) → changed ≡ true → (not changed || key) ≡ true → key ≡ true
is_kept true key e f = f
is_kept false key e f = absurd (cc e)

module _ (takes : TakesUp) (puts : PutsDown) (asides : PutsAside) (w : World) (g : Holdings) (content : ℕ → ℕ → List ℕ) (forced : ℕ → ℕ) (h : Held) (b : Begins w g content forced h) (park : MayPark g h) where
  abbrev s : RestartState
  s = h.marks

  abbrev Left : RestartState → Type 0
  Left t = Goes w content forced (behind g g.facility h.marks.member (with_marks h t)) h (with_marks h t)

  idle : Left s
  idle = record {
    moves = [];
    moved = record { world = w; run = refl; tied = subst (λ z. Tied w z content) (sym same) b.tied };
    numbered = b.numbered;
    casts = λ n. refl;
    same = refl;
    stands = subst (λ z. IsRestarting z forced h) (sym same) b.restarts;
  }
    where
      same : behind g g.facility h.marks.member h ≡ g
      same = behind_same g forced h h b.restarts (λ j. refl)

  branch : (x : Bool) (t : RestartState) → (x ≡ true → Left t) → Left (if x then t else s)
  branch true t f = f refl
  branch false t f = idle

  retained : (o : Option TurnKey) → s.hand.page ≡ None → Left (retained_from s o)
  retained None e = idle
  retained (Some key) e = (takes w g content forced h key.page (Some key) b e).goes

  undone : (o : Option PageId) → s.hand.page ≡ None → Left (undone_from s o)
  undone None e = idle
  undone (Some p) e = (takes w g content forced h p None b e).goes

  put_aside : (x : Bool) → s.hand.changed ≡ x → may_put_down s.hand s.claim ≡ true → Left (with_hand s no_hand)
  put_aside false e may = (puts w g content forced h b e).goes
  put_aside true e may =
      let level = park e (is_kept s.hand.changed (is_some s.hand.key) e (and_parts (not (claims_hand s.claim s.hand.page)) (not s.hand.changed || is_some s.hand.key) may).1) in
      (asides w g content forced h b e level).goes

  closes : (id : ℕ) → Left (record s { log = after_put s.log (closing_record s id); trans = after_end s.trans id })
  closes id = record {
    moves = [];
    moved = record { world = w; run = refl; tied = subst (λ z. Tied w z content) (sym same) b.tied };
    numbered = b.numbered;
    casts = λ n. refl;
    same = refl;
    stands = subst (λ z. IsRestarting z forced t) (sym same) (record {
      least = b.restarts.least;
      among = b.restarts.among;
      restarts = b.restarts.restarts;
      log = b.restarts.log;
      last = b.restarts.last;
      pending = none_more (g.stable s.member) (g.written s.member) s.log.pending (closing_record s id) refl b.restarts.pending;
      full = b.restarts.full;
      shows = b.restarts.shows;
      copies = b.restarts.copies;
    });
  }
    where
      t : Held
      t = with_marks h (record s { log = after_put s.log (closing_record s id); trans = after_end s.trans id })

      same : behind g g.facility h.marks.member t ≡ g
      same = behind_same g forced h t b.restarts (λ j. refl)

  one : (x : Local) → Left (moved x s)
  one TakeUpRetained = branch (is_none s.hand.page) (retained_from s (slice_get s.pages 0)) (λ e. retained (slice_get s.pages 0) (none_of s.hand.page e))
  one (TakeUpUndone id) = branch (is_none s.hand.page && is_recovered s) (undone_from s (page_undone s.trans id)) (λ e. undone (page_undone s.trans id) (none_of s.hand.page (and_parts (is_none s.hand.page) (is_recovered s) e).0))
  one PutDown = branch (may_put_down s.hand s.claim) (with_hand s no_hand) (λ e. put_aside s.hand.changed refl e)
  one (Close id) = branch (may_close s id) (record s { log = after_put s.log (closing_record s id); trans = after_end s.trans id }) (λ e. closes id)

-- a page in hand that may be put aside still may be
abbrev Parks : Holdings → ℕ → RestartState → Type 0
Parks g m t = t.hand.changed ≡ true → is_some t.hand.key ≡ true → g.stable m ≡ g.written m

park_if : (g : Holdings) (m : ℕ) (x : Bool) (s t : RestartState) → Parks g m s → Parks g m t → Parks g m (if x then t else s)
park_if g m true s t a b = b
park_if g m false s t a b = a

park_retained : (g : Holdings) (m : ℕ) (s : RestartState) (o : Option TurnKey) → Parks g m s → Parks g m (retained_from s o)
park_retained g m s None a = a
park_retained g m s (Some key) a = λ e _. absurd (cc e)

park_undone : (g : Holdings) (m : ℕ) (s : RestartState) (o : Option PageId) → Parks g m s → Parks g m (undone_from s o)
park_undone g m s None a = a
park_undone g m s (Some p) a = λ e _. absurd (cc e)

park_one : (g : Holdings) (m : ℕ) (x : Local) (s : RestartState) → Parks g m s → Parks g m (moved x s)
park_one g m TakeUpRetained s a = park_if g m (is_none s.hand.page) s (retained_from s (slice_get s.pages 0)) a (park_retained g m s (slice_get s.pages 0) a)
park_one g m (TakeUpUndone id) s a = park_if g m (is_none s.hand.page && is_recovered s) s (undone_from s (page_undone s.trans id)) a (park_undone g m s (page_undone s.trans id) a)
park_one g m PutDown s a = park_if g m (may_put_down s.hand s.claim) s (with_hand s no_hand) a (λ e _. absurd (cc e))
park_one g m (Close id) s a = park_if g m (may_close s id) s (record s { log = after_put s.log (closing_record s id); trans = after_end s.trans id }) a a

-- ---- several
all_go : AlwaysGood → TakesUp → PutsDown → PutsAside → (xs : List Local) (w : World) (g : Holdings) (content : ℕ → ℕ → List ℕ) (forced : ℕ → ℕ) (h : Held) → Begins w g content forced h → MayPark g h
    → Goes w content forced (behind g g.facility h.marks.member (with_marks h (all_moved xs h.marks))) h (with_marks h (all_moved xs h.marks))
all_go good takes puts asides [] w g content forced h b park = idle takes puts asides w g content forced h b park
all_go good takes puts asides (x ∷ xs) w g content forced h b park =
    let t = with_marks h (moved x h.marks) in
    let a = one takes puts asides w g content forced h b park x in
    let left = behind g g.facility h.marks.member t in
    goes_on w g content forced g.facility h t (with_marks h (all_moved xs (moved x h.marks))) a
    (all_go good takes puts asides xs a.moved.world left content forced t
    (record { good = good set_of a.moves w a.moved.world b.good a.moved.run; tied = a.moved.tied; numbered = a.numbered; sound = b.sound; restarts = a.stands })
    (subst (λ z. Parks g z (moved x h.marks)) (sym a.same) (park_one g h.marks.member x h.marks park)))

pub reaches_go : AlwaysGood → TakesUp → PutsDown → PutsAside → ReachesGo
unfolding Reaches
reaches_go good takes puts asides w g content forced h k b park ends =
    let is : k ≡ with_marks h (all_moved ends.0.0 h.marks) = ends.1 ∙ ap (with_marks h) ends.0.1 in
    subst (λ (z : Held). Goes w content forced (behind g g.facility h.marks.member z) h z) (sym is) (all_go good takes puts asides ends.0.0 w g content forced h b park)
