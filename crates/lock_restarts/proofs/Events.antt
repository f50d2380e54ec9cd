-- Any event of a restart.
use Rattle.std.proofs.Common.{◌≡◌, ℕ, ◌≤◌, refl, sym, ◌∙◌, ap, subst, Bool, true, false, inl, inr, []}
use Rattle.std.specs.Prelude.{◌≢◌, ◌⊎◌, ◌==◌, ◌&&◌, leb, if◌then◌else◌}
use Rattle.std.proofs.lemmas.Bool.{and_from, and_parts, and_right, both_ways, cases_Bool, cond-false, le-leb, leb-true, ne_eqb}
use Rattle.ds_base.specs.Ids.{IsMember}
use Rattle.lock_structure.specs.Locks.{Locks}
use Rattle.list_structure.specs.declared.query.Asker.{Asker}
use Rattle.list_structure.specs.declared.query.Cell.{Cell}
use Rattle.list_structure.specs.declared.query.Cell.TheVariants.{Asked}
use Rattle.list_structure.specs.Askers.{same_asker, slot_of}
use Rattle.list_structure.specs.Cells.{AreCells, cell_of, with_cell}
use Rattle.list_structure.specs.Standings.{status_of, is_live}
use Rattle.list_structure.specs.States.{ListsState}
use Rattle.facility.specs.declared.command.Command.{Command}
use Rattle.facility.specs.declared.command.Command.TheVariants as command
use Rattle.facility.specs.ListCommands.{AsksMember}
use Rattle.facility.specs.States.{Held as Facility}
use Rattle.member_intents.specs.declared.outcome.Answered.{Answered}
use Rattle.restart_marks.specs.declared.intent.RestartSent.{RestartSent}
use Rattle.restart_marks.specs.declared.intent.RestartSent.TheVariants as sent
use Rattle.restart_resources.specs.Events as event
use Rattle.restart_resources.specs.Events.{Happens, Runs}
use Rattle.restart_resources.specs.Held.{Held}
use Rattle.lock_protocol.specs.Machine.{World, Empty}
use Rattle.lock_world.specs.Standing.{StaysTied}
use Rattle.lock_world.specs.Tied.{Claims, Moved, Tied}
use Rattle.lock_world.specs.Views.{as_cell, cell_in, entry_in, is_member, is_slot}
use Rattle.lock_restarts.specs.Changes.{AllowsSent, ChangesGo, gone_by}
use Rattle.lock_restarts.specs.Events.{EventsGo, FreesSent, StillsStay}
use Rattle.lock_restarts.specs.Sent.{IsStill, SendsLawfully, is_still}
use Rattle.lock_restarts.specs.Stands.{Goes, IsRestarting, Knows, Leads, LocalsStay, OwnClaims}
use Rattle.lock_restarts.proofs.Spares.{no_move}
use Rattle.lock_restarts.proofs.Stands.{stay_claims}
use Rattle.lock_restarts.proofs.Stills.{Mild, mild_runs}

pub record Facts : Type 0 where
  pub lawful : SendsLawfully
  pub local : LocalsStay
  pub stay : StaysTied
  pub still : StillsStay
  pub changes : ChangesGo

-- ---- a query that isn't to a member
is_within : (a o k : ℕ) → (is_member a && (is_slot o && is_member k)) ≡ true → IsMember a × ((o ≤ 16) × IsMember k)
is_within a o k e =
    let p = and_parts (is_member a) (is_slot o && is_member k) e in
    let q = and_parts (is_slot o) (is_member k) p.1 in
    let x = and_parts (leb 1 a) (leb a 32) p.0 in
    let y = and_parts (leb 1 k) (leb k 32) q.1 in
    ((leb-true 1 a x.0, leb-true a 32 x.1), (leb-true o 16 q.0, (leb-true 1 k y.0, leb-true k 32 y.1)))

same_cells : (w : World) (locks : Locks) (lists now : ListsState) (held : Claims) → Tied w locks lists held → ((a o k : ℕ) → cell_in now a o k ≡ cell_in lists a o k) → now.statuses ≡ lists.statuses → now.members ≡ lists.members → Tied w locks now held
same_cells w locks lists now held t cells statuses members = record {
  versions = t.versions;
  interest = t.interest;
  records = t.records;
  claims = t.claims;
  down = t.down;
  up = λ k o c m e. t.up k o c m (ap (λ z. status_of z k) (sym statuses) ∙ e);
  own = t.own;
  cells = λ a o k. t.cells a o k ∙ sym (cells a o k);
  live = λ k one most. t.live k one (subst (λ z. k ≤ z) members most) ∙ ap (λ z. is_live (status_of z k)) (sym statuses);
}

cells_as : (before now : ListsState) (f : Asker → ℕ → Cell) → AreCells now.cells f → ((a : Asker) (k : ℕ) → IsMember a.member → IsMember k → f a k ≡ cell_of before.cells a k) → (a o k : ℕ) → cell_in now a o k ≡ cell_in before a o k
cells_as before now f are same a o k = cases (is_member a && (is_slot o && is_member k)) refl
  where
    cases : (b : Bool) → (is_member a && (is_slot o && is_member k)) ≡ b → (if b then as_cell (cell_of now.cells (slot_of a o) k) else Empty) ≡ (if b then as_cell (cell_of before.cells (slot_of a o) k) else Empty)
    cases false e = refl
    cases true e =
        let within = is_within a o k e in
        ap (λ z. as_cell z) (are (slot_of a o) k (within.0, within.1.0) within.1.1 ∙ same (slot_of a o) k within.0 within.1.1)

member_or : (k : ℕ) → IsMember k ⊎ ((j : ℕ) → IsMember j → j ≢ k)
member_or k = elim (cases_Bool (is_member k)) [
  | inl is ↦ inl (let p = and_parts (leb 1 k) (leb k 32) is in (leb-true 1 k p.0, leb-true k 32 p.1))
  | inr isnt ↦ inr (λ j m e. both_ways (is_member k) isnt (subst (λ z. is_member z ≡ true) e (and_from (leb 1 j) (leb j 32) (le-leb 1 j m.0) (le-leb j 32 m.1))))
]

none_to : (asker : Asker) (to : ℕ) → ((j : ℕ) → IsMember j → j ≢ to) → (a : Asker) (k : ℕ) → IsMember a.member → IsMember k → (same_asker a asker && (k == to)) ≡ false
none_to asker to other a k am km = and_right (same_asker a asker) (k == to) (ne_eqb k to (other k km))

strangers : StaysTied → (w : World) (f g : Facility) (held left : Claims) (m : ℕ) (gone : ℕ → Bool) (asker : Asker) (to : ℕ) (c : Cell) → Tied w f.locks f.lists held → ((k o c : ℕ) → left k o c ≡ held k o c) → ((j : ℕ) → IsMember j → j ≢ to)
    → AreCells g.lists.cells (with_cell f.lists.cells asker to c) → g ≡ record f { lists = record f.lists { cells = g.lists.cells } } → Goes w f g left m gone
strangers law w f g held left m gone asker to c tied claims other are same =
    let lists : g.lists ≡ record f.lists { cells = g.lists.cells } = ap (λ (z : Facility). z.lists) same in
    let locks : g.locks ≡ f.locks = ap (λ (z : Facility). z.locks) same in
    let cells : (a o k : ℕ) → cell_in g.lists a o k ≡ cell_in f.lists a o k = cells_as f.lists g.lists (with_cell f.lists.cells asker to c) are (λ a k am km. cond-false (same_asker a asker && (k == to)) c (cell_of f.lists.cells a k) (none_to asker to other a k am km)) in
    let now : Tied w f.locks g.lists held = same_cells w f.locks f.lists g.lists held tied cells (ap (λ (z : ListsState). z.statuses) lists) (ap (λ (z : ListsState). z.members) lists) in
    let moved : Moved w [] f.locks g.locks g.lists left =
    subst (λ (z : Locks). Moved w [] f.locks z g.lists left) (sym locks) (law w f.locks g.lists g.lists held left now (record { cells = refl; statuses = refl; members = refl; claims = claims })) in
    record { moves = []; own = tt; moved = moved; spares = no_move (entry_in f.locks) w moved.world m gone moved.run }

-- ---- what it sends
abbrev is_ask : Command → Bool
is_ask (command.Ask slot to n mode) = true
is_ask _ = false

ask_mild : Mild is_ask
ask_mild = record { obtain = λ n mode. refl; grant = λ slot n mode. refl; release = λ n keeps. refl; status = λ status. refl }

-- a query to a number that isn't a member's
abbrev AsksNobody : RestartSent → Type 0
AsksNobody (sent.Command (command.Ask slot to n mode)) = (j : ℕ) → IsMember j → j ≢ to
AsksNobody _ = ⊥

allows : (own : OwnClaims) (x : RestartSent) → FreesSent own x → AllowsSent own x ⊎ AsksNobody x
allows own (sent.Command (command.Obtain n mode)) frees = inl tt
allows own (sent.Command (command.Grant slot n mode)) frees = inl tt
allows own (sent.Command (command.Release n keeps)) frees = inl tt
allows own (sent.Command (command.Purge n)) frees = inl frees
allows own (sent.Command (command.RetainedAt n)) frees = inl tt
allows own (sent.Command (command.Read id index)) frees = inl tt
allows own (sent.Command (command.Write id index)) frees = inl tt
allows own (sent.Command (command.Unregister index)) frees = inl tt
allows own (sent.Command (command.Test index)) frees = inl tt
allows own (sent.Command (command.CastoutRead id)) frees = inl tt
allows own (sent.Command (command.CastoutDone id)) frees = inl tt
allows own (sent.Command (command.NextChanged past)) frees = inl tt
allows own (sent.Command command.Lose) frees = inl tt
allows own (sent.Command command.Rebuilt) frees = inl tt
allows own (sent.Command (command.Ask slot to n mode)) frees = elim (member_or to) [
  | inl is ↦ inl is
  | inr other ↦ inr other
]
allows own (sent.Command (command.Take past)) frees = inl tt
allows own (sent.Command (command.Answer asker n mode said event)) frees = inl tt
allows own (sent.Command (command.Answers slot)) frees = inl tt
allows own (sent.Command (command.Wait tran holder flag)) frees = inl tt
allows own (sent.Command (command.Unwait tran)) frees = inl tt
allows own (sent.Command command.Waits) frees = inl tt
allows own (sent.Command (command.End tran)) frees = inl tt
allows own (sent.Command (command.Raise flag)) frees = inl tt
allows own (sent.Command (command.Flag flag)) frees = inl tt
allows own (sent.Command (command.SetStatus status)) frees = inl tt
allows own (sent.Command (command.Status member)) frees = inl tt
allows own (sent.Command command.Claim) frees = inl tt
allows own (sent.Command command.Unclaim) frees = inl tt
allows own (sent.Command command.PhaseDone) frees = inl tt
allows own (sent.Command (command.Draw indexes)) frees = inl tt
allows own (sent.Command (command.DrawUndo indexes)) frees = inl tt
allows own sent.None frees = inl tt
allows own sent.LogLength frees = inl tt
allows own (sent.ReadLog at count) frees = inl tt
allows own (sent.CutLog long) frees = inl tt
allows own sent.AppendLog frees = inl tt
allows own (sent.ReadPage page) frees = inl tt

still_or : (x : RestartSent) → IsStill x ⊎ (IsStill x → ⊥)
still_or sent.None = inl tt
still_or (sent.Command c) = elim (cases_Bool (is_still c)) [
  | inl e ↦ inl e
  | inr e ↦ inr (λ is. both_ways (is_still c) e is)
]
still_or sent.LogLength = inl tt
still_or (sent.ReadLog at count) = inl tt
still_or (sent.CutLog long) = inl tt
still_or sent.AppendLog = inl tt
still_or (sent.ReadPage page) = inl tt

-- ---- the event
asks_nobody : Facts → (w : World) (u v : event.World) (held left : Claims) (own : OwnClaims) (h k : Held) (x : RestartSent) (a : Answered)
    → Tied w u.facility.locks u.facility.lists held → Knows held own h.marks → AsksNobody x → Happens u h x a v k → Leads held left own h.marks k.marks → Goes w u.facility v.facility left h.marks.member (gone_by x)
asks_nobody facts w u v held left own h k (sent.Command (command.Obtain n mode)) a tied knows nobody e leads = absurd nobody
asks_nobody facts w u v held left own h k (sent.Command (command.Grant slot n mode)) a tied knows nobody e leads = absurd nobody
asks_nobody facts w u v held left own h k (sent.Command (command.Release n keeps)) a tied knows nobody e leads = absurd nobody
asks_nobody facts w u v held left own h k (sent.Command (command.Purge n)) a tied knows nobody e leads = absurd nobody
asks_nobody facts w u v held left own h k (sent.Command (command.RetainedAt n)) a tied knows nobody e leads = absurd nobody
asks_nobody facts w u v held left own h k (sent.Command (command.Read id index)) a tied knows nobody e leads = absurd nobody
asks_nobody facts w u v held left own h k (sent.Command (command.Write id index)) a tied knows nobody e leads = absurd nobody
asks_nobody facts w u v held left own h k (sent.Command (command.Unregister index)) a tied knows nobody e leads = absurd nobody
asks_nobody facts w u v held left own h k (sent.Command (command.Test index)) a tied knows nobody e leads = absurd nobody
asks_nobody facts w u v held left own h k (sent.Command (command.CastoutRead id)) a tied knows nobody e leads = absurd nobody
asks_nobody facts w u v held left own h k (sent.Command (command.CastoutDone id)) a tied knows nobody e leads = absurd nobody
asks_nobody facts w u v held left own h k (sent.Command (command.NextChanged past)) a tied knows nobody e leads = absurd nobody
asks_nobody facts w u v held left own h k (sent.Command command.Lose) a tied knows nobody e leads = absurd nobody
asks_nobody facts w u v held left own h k (sent.Command command.Rebuilt) a tied knows nobody e leads = absurd nobody
asks_nobody facts w u v held left own h k (sent.Command (command.Ask slot to n mode)) a tied knows nobody e leads =
    let runs = mild_runs is_ask ask_mild facts.lawful u v h e.after e.intent (sent.Command (command.Ask slot to n mode)) a e.said refl e.lawful e.runs in
    let ends = facts.local e.after.marks k.marks e.ends.0 in
    let asks : AsksMember u.facility h.marks.member slot to n mode e.runs.0.answer v.facility = e.runs.0.gives.executed.executes.0 in
    strangers facts.stay w u.facility v.facility held left h.marks.member (gone_by (sent.Command (command.Ask slot to n mode))) (slot_of h.marks.member slot) to (Asked n mode) tied (stay_claims held left own h.marks k.marks knows leads (ends.claim ∙ runs.claim)) nobody asks.1.0 asks.1.1
asks_nobody facts w u v held left own h k (sent.Command (command.Take past)) a tied knows nobody e leads = absurd nobody
asks_nobody facts w u v held left own h k (sent.Command (command.Answer asker n mode said event)) a tied knows nobody e leads = absurd nobody
asks_nobody facts w u v held left own h k (sent.Command (command.Answers slot)) a tied knows nobody e leads = absurd nobody
asks_nobody facts w u v held left own h k (sent.Command (command.Wait tran holder flag)) a tied knows nobody e leads = absurd nobody
asks_nobody facts w u v held left own h k (sent.Command (command.Unwait tran)) a tied knows nobody e leads = absurd nobody
asks_nobody facts w u v held left own h k (sent.Command command.Waits) a tied knows nobody e leads = absurd nobody
asks_nobody facts w u v held left own h k (sent.Command (command.End tran)) a tied knows nobody e leads = absurd nobody
asks_nobody facts w u v held left own h k (sent.Command (command.Raise flag)) a tied knows nobody e leads = absurd nobody
asks_nobody facts w u v held left own h k (sent.Command (command.Flag flag)) a tied knows nobody e leads = absurd nobody
asks_nobody facts w u v held left own h k (sent.Command (command.SetStatus status)) a tied knows nobody e leads = absurd nobody
asks_nobody facts w u v held left own h k (sent.Command (command.Status member)) a tied knows nobody e leads = absurd nobody
asks_nobody facts w u v held left own h k (sent.Command command.Claim) a tied knows nobody e leads = absurd nobody
asks_nobody facts w u v held left own h k (sent.Command command.Unclaim) a tied knows nobody e leads = absurd nobody
asks_nobody facts w u v held left own h k (sent.Command command.PhaseDone) a tied knows nobody e leads = absurd nobody
asks_nobody facts w u v held left own h k (sent.Command (command.Draw indexes)) a tied knows nobody e leads = absurd nobody
asks_nobody facts w u v held left own h k (sent.Command (command.DrawUndo indexes)) a tied knows nobody e leads = absurd nobody
asks_nobody facts w u v held left own h k sent.None a tied knows nobody e leads = absurd nobody
asks_nobody facts w u v held left own h k sent.LogLength a tied knows nobody e leads = absurd nobody
asks_nobody facts w u v held left own h k (sent.ReadLog at count) a tied knows nobody e leads = absurd nobody
asks_nobody facts w u v held left own h k (sent.CutLog long) a tied knows nobody e leads = absurd nobody
asks_nobody facts w u v held left own h k sent.AppendLog a tied knows nobody e leads = absurd nobody
asks_nobody facts w u v held left own h k (sent.ReadPage page) a tied knows nobody e leads = absurd nobody

changes : Facts → (w : World) (u v : event.World) (held left : Claims) (own : OwnClaims) (h k : Held) (x : RestartSent) (a : Answered)
    → Tied w u.facility.locks u.facility.lists held → IsRestarting u.facility own h.marks → Knows held own h.marks → AllowsSent own x ⊎ AsksNobody x → (IsStill x → ⊥)
    → Happens u h x a v k → Leads held left own h.marks k.marks → Goes w u.facility v.facility left h.marks.member (gone_by x)
changes facts w u v held left own h k x a tied r knows (inl allows) moves e leads = facts.changes w u v held left own h k x a tied r knows allows moves e leads
changes facts w u v held left own h k x a tied r knows (inr nobody) moves e leads = asks_nobody facts w u v held left own h k x a tied knows nobody e leads

pub events_go : Facts → EventsGo
events_go facts w u v held left own h k x a tied r knows frees e leads = elim (still_or x) [
  | inl still ↦ facts.still w u v held left own h k x a tied knows still e leads
  | inr moves ↦ changes facts w u v held left own h k x a tied r knows (allows own x frees) moves e leads
]
