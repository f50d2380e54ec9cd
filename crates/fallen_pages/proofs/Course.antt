-- Where a group restart comes to behind an answer.
use Rattle.std.proofs.Common.{◌≡◌, ◌⊎◌, ℕ, ◌+◌, ◌^◌, refl, sym, ◌∙◌, ap, subst, Bool, true, false, inl, inr, List, [], ◌∷◌, drop, Option, Some, None, Result, Ok, Err}
use Rattle.std.specs.Prelude.{nat_lt, slice_get}
use Rattle.std.proofs.lemmas.Bool.{cond_both}
use Rattle.ds_base.specs.declared.names.PageId.{PageId}
use Rattle.page_format.specs.Fields.{is_old, renewed}
use Rattle.page_format.specs.declared.header.NotAPage.{NotAPage}
use Rattle.log_reader.specs.declared.calls.LogRead.{LogRead}
use Rattle.log_reader.specs.declared.calls.LogRead.TheVariants as read
use Rattle.log_trans.specs.declared.damage.Damaged.{Damaged}
use Rattle.restart_plan.specs.Given.{PageRecords}
use Rattle.restart_plan.specs.declared.opened.Closing.{Closing}
use Rattle.restart_plan.specs.declared.opened.Undo.{Undo}
use Rattle.restart_plan.specs.declared.tails.Tail.{Tail}
use Rattle.group_restart.specs.declared.calls.State.{State}
use Rattle.group_restart.specs.declared.calls.State.TheVariants as state
use Rattle.group_restart.specs.declared.stage.Stage.{Stage}
use Rattle.group_restart.specs.declared.stage.Stage.TheVariants as stage
use Rattle.group_restart.specs.Machine.{Restart}
use Rattle.group_restart.specs.Renewal.{first_page, last_behind, page_behind}
use Rattle.group_restart.specs.Undo.{undo_fault}
use Rattle.group_restart.specs.Course.{Next, GoesToNext, TakesRead, TakesWhole, begin_renewal, begin_undo, closing_or, counted, ending_or, found_damage, go, has_numbers, looked_at, next_closing, next_ending, next_redo, next_renewal, next_tail, next_undo, numbered, page_or, plan_read, planned, renew_page, renewal_or, rest_closings, rest_endings, rest_pages, rest_tails, rest_undo, tail_or, take_logs, take_old, take_undone, too_few_numbers, undo_at, undo_first, undo_one, undo_or, undo_unless, undone, with_log, with_plan}
use Rattle.page_protocol.specs.Moves.{World}
use Rattle.page_world.specs.Groups.{Remains}
use Rattle.fallen_pages.specs.Calls.{EndsAs}
use Rattle.fallen_pages.specs.Stands.{CounterIs, HandIs, OthersLast, StandsAt, is_among, is_counted, is_left}

-- ---- behind the count, where no page is at hand: the counter is this one
pub record Plain (counter : ℕ) (n : Next) : Type 0 where
  pub counted : is_counted n.0.stage ≡ true
  pub none : (p : ℕ) → is_left n.0.stage n.0.plan.pages p ≡ false
  pub number : n.0.counter ≡ counter
  pub fits : (drawn : ℕ) → n.0.counter ≡ drawn → CounterIs n.0.stage n.0.counter drawn
  pub hand : (w : World) (r : Remains) (content : ℕ → ℕ → List ℕ) → HandIs n.0.stage n.0.page w r content
  pub ends : EndsAs n.1 n.0

-- so it stands where each page is its last version
pub plain_stands : (w : World) (r : Remains) (content : ℕ → ℕ → List ℕ) (counter : ℕ) (n : Next) → Plain counter n → counter ≡ r.counter → OthersLast w (λ p. false) → StandsAt n.0 w r content
plain_stands w r content counter n p same all = record { last = λ k e. all k refl; counter = p.fits r.counter (p.number ∙ same); hand = p.hand w r content }

-- a restart that stays at such a stage
pub plain_at : (k : Restart) (why : State) (s : Stage) → k.stage ≡ s → is_counted s ≡ true → ((p : ℕ) → is_left s k.plan.pages p ≡ false) → ((a b : ℕ) → a ≡ b → CounterIs s a b) → ((w : World) (r : Remains) (content : ℕ → ℕ → List ℕ) → HandIs s k.page w r content) → EndsAs why k → Plain k.counter (k, why)
plain_at k why s at counted none fits hand ends = record {
  counted = ap is_counted at ∙ counted;
  none = λ p. ap (λ (z : Stage). is_left z k.plan.pages p) at ∙ none p;
  number = refl;
  fits = λ drawn e. subst (λ (z : Stage). CounterIs z k.counter drawn) (sym at) (fits k.counter drawn e);
  hand = λ w r content. subst (λ (z : Stage). HandIs z k.page w r content) (sym at) (hand w r content);
  ends = ends;
}

ending_plain : (h : Restart) (o : Option ℕ) → Plain h.counter (ending_or h o)
ending_plain h None = record { counted = refl; none = λ p. refl; number = refl; fits = λ drawn e. e; hand = λ w r content. tt; ends = (refl, refl) }
ending_plain h (Some member) = record { counted = refl; none = λ p. refl; number = refl; fits = λ drawn e. e; hand = λ w r content. tt; ends = tt }

pub next_ending_plain : (h : Restart) → Plain h.counter (next_ending h)
unfolding next_ending
next_ending_plain h = ending_plain (with_plan h (rest_endings h.plan)) (slice_get h.plan.endings 0)

renewal_plain : (h : Restart) (o : Option PageId) → Plain h.counter (renewal_or h o)
renewal_plain h None = next_ending_plain h
renewal_plain h (Some page) = record { counted = refl; none = λ p. refl; number = refl; fits = λ drawn e. e; hand = λ w r content. tt; ends = tt }

pub next_renewal_plain : (h : Restart) (id : PageId) → Plain h.counter (next_renewal h id)
unfolding next_renewal
next_renewal_plain h id = renewal_plain h (page_behind h.last id)

pub begin_renewal_plain : (h : Restart) → Plain h.counter (begin_renewal h)
unfolding begin_renewal
begin_renewal_plain h = cond_both h.renews (go h (stage.RenewRead first_page)) (next_ending h) (Plain h.counter) (λ _. record { counted = refl; none = λ p. refl; number = refl; fits = λ drawn e. e; hand = λ w r content. tt; ends = tt }) (λ _. next_ending_plain h)

undo_plain : (h : Restart) (o : Option Undo) → Plain h.counter (undo_or h o)
undo_plain h None = begin_renewal_plain h
undo_plain h (Some u) = record { counted = refl; none = λ p. refl; number = refl; fits = λ drawn e. e; hand = λ w r content. tt; ends = tt }

pub next_undo_plain : (h : Restart) → Plain h.counter (next_undo h)
unfolding next_undo
next_undo_plain h = undo_plain h (slice_get h.plan.undo 0)

closing_plain : (h : Restart) (o : Option Closing) → Plain h.counter (closing_or h o)
closing_plain h None = next_undo_plain h
closing_plain h (Some c) = record { counted = refl; none = λ p. refl; number = refl; fits = λ drawn e. e; hand = λ w r content. tt; ends = tt }

pub next_closing_plain : (h : Restart) → Plain h.counter (next_closing h)
unfolding next_closing
next_closing_plain h = closing_plain (with_plan h (rest_closings h.plan)) (slice_get h.plan.closings 0)

-- ---- before the count
pub record Early (w : World) (r : Remains) (content : ℕ → ℕ → List ℕ) (s : Stage) (bytes : List ℕ) : Type 0 where
  pub any : (counter drawn : ℕ) → CounterIs s counter drawn
  pub hand : HandIs s bytes w r content

pub record IsEarly (w : World) (r : Remains) (content : ℕ → ℕ → List ℕ) (n : Next) : Type 0 where
  pub early : Early w r content n.0.stage n.0.page
  pub ends : EndsAs n.1 n.0

-- it stands there still, or the pages are counted
abbrev pub Reaches : World → Remains → (ℕ → ℕ → List ℕ) → Next → Type 0
Reaches w r content n = IsEarly w r content n ⊎ Plain n.0.counter n

module _ (w : World) (r : Remains) (content : ℕ → ℕ → List ℕ) where
  as_own : (counter : ℕ) (n : Next) → Plain counter n → Plain n.0.counter n
  as_own counter n p = record { counted = p.counted; none = p.none; number = refl; fits = p.fits; hand = p.hand; ends = p.ends }

  numbered_reaches : (h : Restart) → Early w r content h.stage h.page → Reaches w r content (numbered h)
  numbered_reaches h early = cond_both (has_numbers h) (next_closing h) (too_few_numbers h) (Reaches w r content) (λ _. inr (as_own h.counter (next_closing h) (next_closing_plain h))) (λ _. inl (record { early = early; ends = tt }))

  begin_reaches : (h : Restart) → Early w r content h.stage h.page → Reaches w r content (begin_undo h)
  unfolding begin_undo
  begin_reaches h early = numbered_reaches (counted h) early

  page_reaches : (h : Restart) (o : Option PageRecords) → Early w r content h.stage h.page → Reaches w r content (page_or h o)
  page_reaches h None early = begin_reaches h early
  page_reaches h (Some p) early = inl (record { early = record { any = λ a b. tt; hand = tt }; ends = tt })

  pub redo_reaches : (h : Restart) → Early w r content h.stage h.page → Reaches w r content (next_redo h)
  unfolding next_redo
  redo_reaches h early = page_reaches (with_plan h (rest_pages h.plan)) (slice_get h.plan.pages 0) early

  tails_reach : (h : Restart) (o : Option Tail) → Early w r content h.stage h.page → Reaches w r content (tail_or h o)
  tails_reach h None early = redo_reaches h early
  tails_reach h (Some tail) early = inl (record { early = record { any = λ a b. tt; hand = tt }; ends = tt })

  pub tail_reaches : (h : Restart) → Early w r content h.stage h.page → Reaches w r content (next_tail h)
  unfolding next_tail
  tail_reaches h early = tails_reach (with_plan h (rest_tails h.plan)) (slice_get h.plan.tails 0) early

  -- ---- the logs are read
  reading : (h : Restart) → h.stage ≡ stage.ReadLog → Early w r content h.stage h.page
  reading h at = subst (λ (z : Stage). Early w r content z h.page) (sym at) (record { any = λ a b. tt; hand = tt })

  planned_reaches : (h : Restart) (o : Option Damaged) → h.stage ≡ stage.ReadLog → Reaches w r content (planned h o)
  planned_reaches h (Some d) at = inl (record { early = reading h at; ends = tt })
  planned_reaches h None at = tail_reaches (record h { plan = plan_read h.logs; logs = [] }) (reading h at)

  logs_reach : (h : Restart) → h.stage ≡ stage.ReadLog → Reaches w r content (take_logs h)
  unfolding take_logs
  logs_reach h at = planned_reaches h (found_damage h.logs) at

  next_reaches : (more : Bool) (h k : Restart) (s : State) → h.stage ≡ stage.ReadLog → GoesToNext more h s k → Reaches w r content (k, s)
  next_reaches true h k s at goes = subst (λ (z : State). Reaches w r content (k, z)) (sym goes.0) (subst (λ (z : Restart). Reaches w r content (z, state.Going)) (sym goes.2) (inl (record { early = reading h at; ends = tt })))
  next_reaches false h k s at goes = subst (Reaches w r content) goes (logs_reach h at)

  pub read_reaches : (found : LogRead) (h k : Restart) (s : State) → h.stage ≡ stage.ReadLog → TakesRead h found s k → Reaches w r content (k, s)
  unfolding TakesWhole
  read_reaches read.More h k s at takes = subst (Reaches w r content) takes (inl (record { early = reading h at; ends = tt }))
  read_reaches (read.Bad place) h k s at takes = subst (Reaches w r content) takes (inl (record { early = reading h at; ends = tt }))
  read_reaches (read.Whole log) h k s at takes = next_reaches (nat_lt h.reader.member 32) (with_log h log) k s at takes

-- ---- which pages are left
abbrev pub LeftAt : World → Next → Type 0
LeftAt w n = OthersLast w (is_left n.0.stage n.0.plan.pages)

module _ (w : World) where
  pages_left : (h : Restart) (pages : List PageRecords) → OthersLast w (is_among pages) → LeftAt w (page_or (with_plan h (record h.plan { pages = drop 1 pages })) (slice_get pages 0))
  pages_left h [] last = λ k e. last k refl
  pages_left h (p ∷ pages) last = last

  pub redo_left : (h : Restart) → OthersLast w (is_among h.plan.pages) → LeftAt w (next_redo h)
  unfolding next_redo
  redo_left h last = pages_left h h.plan.pages last

  tails_left : (h : Restart) (o : Option Tail) → OthersLast w (is_among h.plan.pages) → LeftAt w (tail_or h o)
  tails_left h None last = redo_left h last
  tails_left h (Some tail) last = last

  pub tail_left : (h : Restart) → OthersLast w (is_among h.plan.pages) → LeftAt w (next_tail h)
  unfolding next_tail
  tail_left h last = tails_left (with_plan h (rest_tails h.plan)) (slice_get h.plan.tails 0) last

-- ---- undo: a compensation is appended next, or nothing is at hand
pub record Undoes (counter : ℕ) (n : Next) : Type 0 where
  pub member : ℕ
  pub page : PageId
  pub stage_is : n.0.stage ≡ stage.UndoAppend member page
  pub number : n.0.counter ≡ counter + 1
  pub ends : EndsAs n.1 n.0

abbrev pub Undone : ℕ → Next → Type 0
Undone counter n = Undoes counter n ⊎ Plain counter n

undoing_plain : (h : Restart) (why : State) (page : PageId) → h.stage ≡ stage.UndoRead page → EndsAs why h → Plain h.counter (h, why)
undoing_plain h why page at ends = plain_at h why (stage.UndoRead page) at refl (λ p. refl) (λ a b e. e) (λ w r content. tt) ends

undo_at_undone : (h : Restart) (u : Undo) (page : PageId) (lrsn : ℕ) → h.stage ≡ stage.UndoRead page → lrsn ≡ h.counter + 1 → Undone h.counter (undo_at h u lrsn)
unfolding undone
undo_at_undone h u page lrsn at is = cond_both (nat_lt lrsn (2 ^ 80)) (undone h u lrsn) (too_few_numbers h) (Undone h.counter) (λ _. inl (record { member = _; page = _; stage_is = refl; number = is; ends = tt })) (λ _. inr (undoing_plain h _ page at tt))

undo_unless_undone : (h : Restart) (u : Undo) (page : PageId) (o : Option ℕ) → h.stage ≡ stage.UndoRead page → Undone h.counter (undo_unless h u o)
undo_unless_undone h u page (Some place) at = inr (undoing_plain h _ page at tt)
undo_unless_undone h u page None at = undo_at_undone h u page (h.counter + 1) at refl

undo_one_undone : (h : Restart) (u : Undo) (page : PageId) → h.stage ≡ stage.UndoRead page → Undone h.counter (undo_one h u)
unfolding undo_one
undo_one_undone h u page at = undo_unless_undone h u page (undo_fault u.change h.page) at

undo_first_undone : (h : Restart) (o : Option Undo) (page : PageId) → h.stage ≡ stage.UndoRead page → Undone h.counter (undo_first h o)
undo_first_undone h None page at = inr (begin_renewal_plain h)
undo_first_undone h (Some u) page at = undo_one_undone h u page at

pub take_undone_undone : (h : Restart) (page : PageId) → h.stage ≡ stage.UndoRead page → Undone h.counter (take_undone h)
unfolding take_undone
take_undone_undone h page at = undo_first_undone (with_plan h (rest_undo h.plan)) (slice_get h.plan.undo 0) page at

-- ---- renewal: a page is written anew next, or nothing is at hand
pub record Renews (counter : ℕ) (n : Next) : Type 0 where
  pub page : PageId
  pub stage_is : n.0.stage ≡ stage.RenewWrite page
  pub number : n.0.counter ≡ counter
  pub ends : EndsAs n.1 n.0

abbrev pub Renewed : ℕ → Next → Type 0
Renewed counter n = Renews counter n ⊎ Plain counter n

renew_page_renewed : (h : Restart) (id : PageId) → Renewed h.counter (renew_page h id)
unfolding renew_page
renew_page_renewed h id = cond_both (is_old h.page) (go (record h { page = renewed h.page }) (stage.RenewWrite id)) (next_renewal h id) (Renewed h.counter) (λ _. inl (record { page = id; stage_is = refl; number = refl; ends = tt })) (λ _. inr (next_renewal_plain h id))

looked_at_renewed : (h : Restart) (id : PageId) (last : Result ℕ NotAPage) → h.stage ≡ stage.RenewRead id → Renewed h.counter (looked_at h id last)
looked_at_renewed h id (Err fault) at = inr (plain_at h _ (stage.RenewRead id) at refl (λ p. refl) (λ a b e. e) (λ w r content. tt) tt)
looked_at_renewed h id (Ok last) at = renew_page_renewed (record h { last = last }) id

pub take_old_renewed : (h : Restart) (id : PageId) → h.stage ≡ stage.RenewRead id → Renewed h.counter (take_old h id)
unfolding take_old
take_old_renewed h id at = looked_at_renewed h id (last_behind h.last id h.page) at
