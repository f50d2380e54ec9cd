-- The transactions that the records of an event name.
use Rattle.std.proofs.Common.{◌≡◌, ℕ, ◌+◌, ◌<◌, ◌≤◌, refl, sym, ◌∙◌, ap, subst, arith, Bool, true, false, inl, inr, List, [], ◌∷◌, length, Option, Some, None}
use Rattle.std.specs.Prelude.{◌≢◌, ◌⊎◌, ◌==◌, ◌&&◌, ◌||◌, not, nat_le, nat_lt, if◌then◌else◌, slice_set}
use Rattle.std.specs.List.{AllByRecursion}
use Rattle.std.proofs.lemmas.Bool.{and_parts, cond_both, eq-eqb, eqb-true, leb-false, leb-true, or_cases}
use Rattle.ds_model.specs.declared.log.LogRecord.{LogRecord}
use Rattle.ds_model.specs.Rows.{Spot}
use Rattle.facility.specs.Commands.{Executes, cells_for}
use Rattle.facility.specs.Counting.{counter_after, draw_reply, drawn as drawn_reply, drawn_to, first_stale, given, limit}
use Rattle.facility.specs.States.{Held as Facility}
use Rattle.facility.specs.declared.command.Command.{Command}
use Rattle.facility.specs.declared.command.Command.TheVariants as command
use Rattle.facility.specs.declared.command.Indexes.{Indexes}
use Rattle.facility.specs.declared.command.Reply.{Reply}
use Rattle.facility.specs.declared.command.Reply.TheVariants as reply
use Rattle.log_rows.specs.Rows.{has_changed, is_change_of, is_closed, is_end}
use Rattle.page_plans.specs.declared.action.Action.{Action}
use Rattle.member_intents.specs.declared.intent.Frames.{Frames}
use Rattle.member_intents.specs.declared.intent.Intent.{Intent}
use Rattle.member_intents.specs.declared.intent.Intent.TheVariants as intent
use Rattle.member_intents.specs.declared.outcome.Answered.{Answered}
use Rattle.member_intents.specs.declared.outcome.Answered.TheVariants as answered
use Rattle.member_intents.specs.declared.outcome.Sent.{Sent}
use Rattle.member_intents.specs.declared.outcome.Sent.TheVariants as sent
use Rattle.member_log.specs.Buffers.{LogBuffer, after_put}
use Rattle.member_trans.specs.declared.fate.Change.{Change}
use Rattle.member_trans.specs.declared.fate.Owner.{Owner}
use Rattle.member_trans.specs.declared.fate.Owner.TheVariants as owner
use Rattle.member_trans.specs.declared.fate.Stage.{Stage}
use Rattle.member_trans.specs.declared.fate.Stage.TheVariants as stage
use Rattle.member_trans.specs.Lists.{pushed}
use Rattle.member_trans.specs.Trans.{TransState, TranState, after_draw, drawn, first_with, is_forward, is_undoing, newest_of, tran_at, tran_of as tran_in}
use Rattle.member_marks.specs.Records.{back_record, both_fit, commit_record, ended_record, fits_in, is_at_row, may_back, may_commit, row_record}
use Rattle.member_marks.specs.State.{MarksState, slot_tran, tran_of}
use Rattle.member_needs.specs.declared.plans.Plan.{Plan}
use Rattle.member_needs.specs.declared.plans.Plan.TheVariants as plan
use Rattle.member_needs.specs.declared.needs.Setting.{Setting}
use Rattle.member_needs.specs.Records.{indexes_of}
use Rattle.member_effects.specs.Changes.{committed_after, system_record}
use Rattle.member_effects.specs.Puts.{back_records, both_if, change_records, event_records, one_if as records_if, reply_records, undo_records}
use Rattle.member_effects.specs.declared.told.Told.{Told}
use Rattle.ds_disk.specs.declared.disk.DiskError.{DiskError}
use Rattle.ds_disk.specs.declared.disk.DiskError.TheVariants as disk_error
use Rattle.std.proofs.Common.{Result, Ok, Err}
use Rattle.member_resources.specs.Events.{Runs, RunsCommand, Stores, World}
use Rattle.member_resources.specs.Held.{Held, begun}
use Rattle.member_resources.specs.Lending.{lent_of}
use Rattle.member_resources.specs.Prepared.{Reserves}
use Rattle.needs_law.specs.Lawful.{Lawful, SendsLawfully}
use Rattle.log_numbers.specs.Numbers.{AreCounted, RecordsAreNamed, RecordsName, forward_among, forward_in, named_in, one_if}
use Rattle.log_numbers.proofs.Apart.{rollback_named, slot_named}
use Rattle.log_numbers.proofs.Effects.{DrawsBy}
use Rattle.log_numbers.proofs.Events.{change_goes, lent_same, same_command, sent_lawfully, setting, settled_go, stays_local, stays_ready}
use Rattle.log_numbers.proofs.Lists.{apart_named, at_forward, forward_named, set_forward}
use Rattle.log_numbers.proofs.Records.{draw_fewer}
use Rattle.log_numbers.proofs.Stays.{Stays}

never : false ≡ true → ⊥
never e = cc

-- ---- what records of a change, of what is taken back and of a commit say

-- none of them changes a row, or closes a transaction
no_and : (a : Bool) → ((a && false) || false) ≡ true → ⊥
no_and true e = cc
no_and false e = cc

one_changed : (b : Bool) (r : LogRecord) (id : ℕ) (x : Spot) → has_changed (records_if b r) id x ≡ true → r.tran ≡ id
one_changed false r id x e = absurd (never e)
one_changed true r id x e = by (or_cases ((r.tran == id) && is_change_of x r.body) false e)
  where
    by : (((r.tran == id) && is_change_of x r.body) ≡ true) ⊎ (false ≡ true) → r.tran ≡ id
    by (inl q) = eqb-true r.tran id (and_parts (r.tran == id) (is_change_of x r.body) q).0
    by (inr q) = absurd (never q)

one_closed : (b : Bool) (r : LogRecord) (id : ℕ) → is_closed (records_if b r) id ≡ true → (b ≡ true) × (r.tran ≡ id)
one_closed false r id e = absurd (never e)
one_closed true r id e = (refl, by (or_cases ((r.tran == id) && is_end r.body) false e))
  where
    by : (((r.tran == id) && is_end r.body) ≡ true) ⊎ (false ≡ true) → r.tran ≡ id
    by (inl q) = eqb-true r.tran id (and_parts (r.tran == id) (is_end r.body) q).0
    by (inr q) = absurd (never q)

one_unchanged : (b : Bool) (r : LogRecord) (id : ℕ) (x : Spot) → is_change_of x r.body ≡ false → has_changed (records_if b r) id x ≡ true → ⊥
one_unchanged false r id x none e = never e
one_unchanged true r id x none e = no_and (r.tran == id) (sym (ap (λ (z : Bool). ((r.tran == id) && z) || false) none) ∙ e)

one_open : (b : Bool) (r : LogRecord) (id : ℕ) → is_end r.body ≡ false → is_closed (records_if b r) id ≡ true → ⊥
one_open false r id none e = never e
one_open true r id none e = no_and (r.tran == id) (sym (ap (λ (z : Bool). ((r.tran == id) && z) || false) none) ∙ e)

one_below : (b : Bool) (r : LogRecord) (c : ℕ) → r.tran ≤ c → AllByRecursion (λ (x : LogRecord). x.tran ≤ c) (records_if b r)
one_below false r c low = tt
one_below true r c low = (low, tt)

-- ---- a change
change_changed : (b : LogBuffer) (t : TranState) (p : Plan) (n id : ℕ) (x : Spot) → has_changed (change_records b t p n) id x ≡ true → first_with t.first n ≡ id
change_changed b t plan.None n id x e = absurd (never e)
change_changed b t (plan.System patches) n id x e = absurd (one_unchanged (fits_in b (system_record patches n)) (system_record patches n) id x refl e)
change_changed b t (plan.Row c) n id x e = one_changed (not (n == 0) && (is_at_row c && (t.has_room && fits_in b (row_record t n c)))) (row_record t n c) id x e
change_changed b t (plan.Back c) n id x e = absurd (never e)
change_changed b t (plan.Fault page at) n id x e = absurd (never e)

change_closed : (b : LogBuffer) (t : TranState) (p : Plan) (n id : ℕ) → is_closed (change_records b t p n) id ≡ true → ⊥
change_closed b t plan.None n id e = never e
change_closed b t (plan.System patches) n id e = one_open (fits_in b (system_record patches n)) (system_record patches n) id refl e
change_closed b t (plan.Row c) n id e = one_open (not (n == 0) && (is_at_row c && (t.has_room && fits_in b (row_record t n c)))) (row_record t n c) id refl e
change_closed b t (plan.Back c) n id e = never e
change_closed b t (plan.Fault page at) n id e = never e

zero_below : (c : ℕ) → 0 ≤ c
zero_below c = omega arith

change_below : (b : LogBuffer) (t : TranState) (p : Plan) (n c : ℕ) → first_with t.first n ≤ c → AllByRecursion (λ (x : LogRecord). x.tran ≤ c) (change_records b t p n)
change_below b t plan.None n c low = tt
change_below b t (plan.System patches) n c low = one_below (fits_in b (system_record patches n)) (system_record patches n) c (zero_below c)
change_below b t (plan.Row r) n c low = one_below (not (n == 0) && (is_at_row r && (t.has_room && fits_in b (row_record t n r)))) (row_record t n r) c low
change_below b t (plan.Back r) n c low = tt
change_below b t (plan.Fault page at) n c low = tt

-- ---- what is taken back
both_closed : (fit is_last : Bool) (r q : LogRecord) (id : ℕ) → q.tran ≡ r.tran → is_closed (both_if fit is_last r q) id ≡ true → r.tran ≡ id
both_closed false is_last r q id same e = absurd (never e)
both_closed true false r q id same e = (one_closed true r id e).1
both_closed true true r q id same e = by (or_cases ((r.tran == id) && is_end r.body) (((q.tran == id) && is_end q.body) || false) e)
  where
    by : (((r.tran == id) && is_end r.body) ≡ true) ⊎ ((((q.tran == id) && is_end q.body) || false) ≡ true) → r.tran ≡ id
    by (inl p) = eqb-true r.tran id (and_parts (r.tran == id) (is_end r.body) p).0
    by (inr p) = sym same ∙ (one_closed true q id p).1

both_unchanged : (fit is_last : Bool) (r q : LogRecord) (id : ℕ) (x : Spot) → is_change_of x r.body ≡ false → is_change_of x q.body ≡ false → has_changed (both_if fit is_last r q) id x ≡ true → ⊥
both_unchanged false is_last r q id x none last e = never e
both_unchanged true false r q id x none last e = one_unchanged true r id x none e
both_unchanged true true r q id x none last e = by (or_cases ((r.tran == id) && is_change_of x r.body) (((q.tran == id) && is_change_of x q.body) || false) e)
  where
    no_change : (a b : Bool) → b ≡ false → (a && b) ≡ true → ⊥
    no_change true b p q = cc
    no_change false b p q = cc

    by : (((r.tran == id) && is_change_of x r.body) ≡ true) ⊎ ((((q.tran == id) && is_change_of x q.body) || false) ≡ true) → ⊥
    by (inl p) = no_change (r.tran == id) (is_change_of x r.body) none p
    by (inr p) = one_unchanged true q id x last p

both_below : (fit is_last : Bool) (r q : LogRecord) (c : ℕ) → r.tran ≤ c → q.tran ≤ c → AllByRecursion (λ (x : LogRecord). x.tran ≤ c) (both_if fit is_last r q)
both_below false is_last r q c low last = tt
both_below true false r q c low last = (low, tt)
both_below true true r q c low last = (low, (last, tt))

back_closed : (b : LogBuffer) (t : TranState) (n id : ℕ) (o : Option Change) → is_closed (back_records b t n o) id ≡ true → t.first ≡ id
back_closed b t n id None e = absurd (never e)
back_closed b t n id (Some it) e = both_closed (may_back t it && both_fit b (back_record t n it) (ended_record t n)) (length t.changes == 1) (back_record t n it) (ended_record t n) id refl e

back_changed : (b : LogBuffer) (t : TranState) (n id : ℕ) (x : Spot) (o : Option Change) → has_changed (back_records b t n o) id x ≡ true → ⊥
back_changed b t n id x None e = never e
back_changed b t n id x (Some it) e = both_unchanged (may_back t it && both_fit b (back_record t n it) (ended_record t n)) (length t.changes == 1) (back_record t n it) (ended_record t n) id x refl refl e

back_below : (b : LogBuffer) (t : TranState) (n c : ℕ) (o : Option Change) → t.first ≤ c → AllByRecursion (λ (x : LogRecord). x.tran ≤ c) (back_records b t n o)
back_below b t n c None low = tt
back_below b t n c (Some it) low = both_below (may_back t it && both_fit b (back_record t n it) (ended_record t n)) (length t.changes == 1) (back_record t n it) (ended_record t n) c low low

undo_closed : (b : LogBuffer) (t : TranState) (p : Plan) (n id : ℕ) → is_closed (undo_records b t p n) id ≡ true → t.first ≡ id
undo_closed b t plan.None n id e = absurd (never e)
undo_closed b t (plan.System patches) n id e = absurd (never e)
undo_closed b t (plan.Row c) n id e = absurd (never e)
undo_closed b t (plan.Back c) n id e = back_closed b t n id (newest_of t) e
undo_closed b t (plan.Fault page at) n id e = absurd (never e)

undo_changed : (b : LogBuffer) (t : TranState) (p : Plan) (n id : ℕ) (x : Spot) → has_changed (undo_records b t p n) id x ≡ true → ⊥
undo_changed b t plan.None n id x e = never e
undo_changed b t (plan.System patches) n id x e = never e
undo_changed b t (plan.Row c) n id x e = never e
undo_changed b t (plan.Back c) n id x e = back_changed b t n id x (newest_of t) e
undo_changed b t (plan.Fault page at) n id x e = never e

undo_below : (b : LogBuffer) (t : TranState) (p : Plan) (n c : ℕ) → t.first ≤ c → AllByRecursion (λ (x : LogRecord). x.tran ≤ c) (undo_records b t p n)
undo_below b t plan.None n c low = tt
undo_below b t (plan.System patches) n c low = tt
undo_below b t (plan.Row r) n c low = tt
undo_below b t (plan.Back r) n c low = back_below b t n c (newest_of t) low
undo_below b t (plan.Fault page at) n c low = tt

-- ---- the number that is drawn is the next one
next_drawn : (n c : ℕ) → reply.Drawn n ≡ reply.Drawn (c + 1) → n ≡ c + 1
next_drawn n c e = cc

not_drawn : (n c : ℕ) → reply.Drawn n ≡ reply.LrsnEnd c → ⊥
not_drawn n c e = cc

not_stale : (n index : ℕ) → reply.Drawn n ≡ reply.Stale index → ⊥
not_stale n index e = cc

-- from the one counter to the other
record IsNext (c d n : ℕ) : Type 0 where
  next : n ≡ c + 1
  there : n ≡ d

next_draw : (o : Option ℕ) (c n : ℕ) → reply.Drawn n ≡ draw_reply o c → IsNext c (drawn_to o c) n
next_draw None c n e = by (nat_lt c limit) e
  where
    by : (b : Bool) → reply.Drawn n ≡ (if b then reply.Drawn (c + 1) else reply.LrsnEnd c) → IsNext c (if b then c + 1 else c) n
    by true q = record { next = next_drawn n c q; there = next_drawn n c q }
    by false q = absurd (not_drawn n c q)
next_draw (Some index) c n e = absurd (not_stale n index e)

next_undo : (o : Option ℕ) (c n : ℕ) → reply.Drawn n ≡ drawn_reply o c → IsNext c (counter_after o c) n
next_undo None c n e = record { next = next_drawn n c e; there = next_drawn n c e }
next_undo (Some index) c n e = absurd (not_stale n index e)

draw_next : (w v : Facility) (m : ℕ) (c : Command) (indexes : Indexes) (lent left : List ℕ) (n : ℕ) → sent.Command c ≡ sent.Command (command.Draw indexes) → Executes w m c lent (reply.Drawn n) v left → IsNext w.counter v.counter n
draw_next w v m c indexes lent left n is e =
    let draws = subst (λ (z : Command). Executes w m z lent (reply.Drawn n) v left) (same_command c (command.Draw indexes) is) e in
    subst (λ (z : Facility). IsNext w.counter z.counter n) (sym draws.0.1) (next_draw (first_stale w.directory m (given indexes)) w.counter n draws.0.0)

undo_next : (w v : Facility) (m : ℕ) (c : Command) (indexes : Indexes) (lent left : List ℕ) (n : ℕ) → sent.Command c ≡ sent.Command (command.DrawUndo indexes) → Executes w m c lent (reply.Drawn n) v left → IsNext w.counter v.counter n
undo_next w v m c indexes lent left n is e =
    let draws = subst (λ (z : Command). Executes w m z lent (reply.Drawn n) v left) (same_command c (command.DrawUndo indexes) is) e in
    subst (λ (z : Facility). IsNext w.counter z.counter n) (sym draws.0.1) (next_undo (first_stale w.directory m (given indexes)) w.counter n draws.0.0)

-- whatever the answer is
draw_of : (w v : Facility) (m : ℕ) (c : Command) (indexes : Indexes) (lent left : List ℕ) (answer : Reply) → sent.Command c ≡ sent.Command (command.Draw indexes) → Executes w m c lent answer v left → (n : ℕ) → answer ≡ reply.Drawn n → IsNext w.counter v.counter n
draw_of w v m c indexes lent left answer is e n drawn = draw_next w v m c indexes lent left n is (subst (λ (z : Reply). Executes w m c lent z v left) drawn e)

undo_of : (w v : Facility) (m : ℕ) (c : Command) (indexes : Indexes) (lent left : List ℕ) (answer : Reply) → sent.Command c ≡ sent.Command (command.DrawUndo indexes) → Executes w m c lent answer v left → (n : ℕ) → answer ≡ reply.Drawn n → IsNext w.counter v.counter n
undo_of w v m c indexes lent left answer is e n drawn = undo_next w v m c indexes lent left n is (subst (λ (z : Reply). Executes w m c lent z v left) drawn e)

-- ---- names of owners
owner_named : (t : TransState) (o : Owner) (x : ℕ) → x ≢ 0 → (tran_in t o).first ≡ x → 1 ≤ named_in t x
owner_named t (owner.Slot slot) x some e = (let p = slot_named t slot x some e in omega (arith, p))
owner_named t (owner.Rollback id) x some e = (let p = rollback_named t id x some e in omega (arith, p))

above_named : (c : ℕ) (s : MarksState) (x : ℕ) → AreCounted c s → c < x → 1 ≤ named_in s.trans x → ⊥
above_named c s x k above one = absurd (let none = k.below x above in omega (arith, none, one))

first_below : (c : ℕ) (s : MarksState) (o : Owner) → AreCounted c s → (tran_of s o).first ≤ c
first_below c s o k = by (nat_le (tran_of s o).first c) refl
  where
    some : c < (tran_of s o).first → (tran_of s o).first ≢ 0
    some above e = absurd (let q = e in omega (arith, above, q))

    by : (b : Bool) → nat_le (tran_of s o).first c ≡ b → (tran_of s o).first ≤ c
    by true e = leb-true (tran_of s o).first c e
    by false e =
        let above : c < (tran_of s o).first = leb-false (tran_of s o).first c e in
        absurd (above_named c s (tran_of s o).first k above (owner_named s.trans o (tran_of s o).first (some above) refl))

with_below : (first n c d : ℕ) → first ≤ c → n ≡ c + 1 → n ≡ d → first_with first n ≤ d
with_below first n c d low next there = cond_both (first == 0) n first (λ (z : ℕ). z ≤ d) (λ e. omega (arith, there)) (λ e. omega (arith, low, next, there))

-- an owner that doesn't go forward is the only one of its name
rests_alone : (c : ℕ) (s : MarksState) (o : Owner) (id : ℕ) → AreCounted c s → id ≢ 0 → (tran_of s o).first ≡ id → is_forward (tran_of s o).stage ≡ false → forward_in s.trans id ≡ 0
rests_alone c s (owner.Slot slot) id k some named rests =
    let apart = apart_named s.trans.slots slot id some rests in
    let one : one_if ((tran_at s.trans slot).first == id) ≡ 1 = ap one_if (eq-eqb (tran_at s.trans slot).first id named) in
    let once = k.once id some in
    omega (arith, apart, one, once)
rests_alone c s (owner.Rollback r) id k some named rests =
    let there = rollback_named s.trans r id some named in
    let less = forward_named s.trans.slots id in
    let once = k.once id some in
    omega (arith, there, less, once)

undoing_rests : (x : Stage) → is_undoing x ≡ true → is_forward x ≡ false
undoing_rests stage.Free e = absurd (never e)
undoing_rests stage.Forward e = absurd (never e)
undoing_rests stage.Drawn e = absurd (never e)
undoing_rests stage.Decided e = absurd (never e)
undoing_rests stage.Undoing e = refl
undoing_rests stage.Postponed e = absurd (never e)

-- ---- a commit closes what goes forward no more
drawn_alone : (c : ℕ) (s : MarksState) (slot n id : ℕ) → AreCounted c s → n ≡ c + 1 → is_forward (tran_at s.trans slot).stage ≡ true → first_with (tran_at s.trans slot).first n ≡ id → id ≢ 0 → forward_in (after_draw s.trans slot) id ≡ 0
drawn_alone c s slot n id k next goes is some = by ((tran_at s.trans slot).first == 0) refl is
  where
    new : n ≡ id → forward_in (after_draw s.trans slot) id ≡ 0
    new e =
        let few = (draw_fewer s.trans slot).forward id some in
        let less = forward_named s.trans.slots id in
        let none = k.below id (omega (arith, next, e)) in
        omega (arith, few, less, none)

    set : forward_among (slice_set s.trans.slots slot (drawn (tran_at s.trans slot))) id + one_if (is_forward (tran_at s.trans slot).stage && ((tran_at s.trans slot).first == id)) ≤ forward_among s.trans.slots id
    set = (let h = set_forward s.trans.slots slot (drawn (tran_at s.trans slot)) id in omega (arith, h))

    old : (tran_at s.trans slot).first ≡ id → forward_in (after_draw s.trans slot) id ≡ 0
    old e =
        let one : one_if (is_forward (tran_at s.trans slot).stage && ((tran_at s.trans slot).first == id)) ≡ 1 = ap (λ (b : Bool). one_if (b && ((tran_at s.trans slot).first == id))) goes ∙ ap one_if (eq-eqb (tran_at s.trans slot).first id e) in
        let less = forward_named s.trans.slots id in
        let once = k.once id some in
        let none : forward_among (slice_set s.trans.slots slot (drawn (tran_at s.trans slot))) id ≡ 0 = (let h = set in omega (arith, h, one, less, once)) in
        ap (λ (b : Bool). forward_in (if b then record s.trans { slots = slice_set s.trans.slots slot (drawn (tran_at s.trans slot)); commits = pushed s.trans.commits slot } else s.trans) id) goes ∙ none

    by : (b : Bool) → ((tran_at s.trans slot).first == 0) ≡ b → (if b then n else (tran_at s.trans slot).first) ≡ id → forward_in (after_draw s.trans slot) id ≡ 0
    by true e q = new q
    by false e q = old q

-- ---- by what an intent is answered
names_none : (c d : ℕ) (s t : MarksState) → RecordsName c d s t []
names_none c d s t = record { below = tt; changed = λ id x some e. absurd (never e); closed = λ id some e. absurd (never e) }

change_names : (c d : ℕ) (s t : MarksState) (slot : ℕ) (action : Action) (frames : Frames) (p : Plan) (answer : Reply) → AreCounted c s → ((n : ℕ) → answer ≡ reply.Drawn n → IsNext c d n) → is_forward (slot_tran s slot).stage ≡ true
    → RecordsName c d s t (reply_records s (intent.Change slot action frames) p answer)
change_names c d s t slot action frames p (reply.Drawn n) k next goes = record {
  below = change_below s.log (slot_tran s slot) p n d (with_below (slot_tran s slot).first n c d (first_below c s (owner.Slot slot) k) (next n refl).next (next n refl).there);
  changed = λ id x some e. by id some ((slot_tran s slot).first == 0) (change_changed s.log (slot_tran s slot) p n id x e);
  closed = λ id some e. absurd (change_closed s.log (slot_tran s slot) p n id e);
}
  where
    by : (id : ℕ) → id ≢ 0 → (b : Bool) → (if b then n else (slot_tran s slot).first) ≡ id → (c < id) ⊎ (1 ≤ forward_in s.trans id)
    by id some true e = (let m = (next n refl).next in inl (omega (arith, e, m)))
    by id some false e = inr (at_forward s.trans.slots slot id goes e)
change_names c d s t slot action frames p _ k next goes = names_none c d s t

undo_names : (c d : ℕ) (s t : MarksState) (o : Owner) (at : ℕ) (p : Plan) (answer : Reply) → AreCounted c s → ((n : ℕ) → answer ≡ reply.Drawn n → IsNext c d n) → is_undoing (tran_of s o).stage ≡ true → DrawsBy answer s t
    → RecordsName c d s t (reply_records s (intent.Undo o at) p answer)
undo_names c d s t o at p (reply.Drawn n) k next undoing draws = record {
  below = undo_below s.log (tran_of s o) p n d (let low = first_below c s o k in let m = (next n refl).next in let q = (next n refl).there in omega (arith, low, m, q));
  changed = λ id x some e. absurd (undo_changed s.log (tran_of s o) p n id x e);
  closed = λ id some e.
      let named = undo_closed s.log (tran_of s o) p n id e in
      let none = rests_alone c s o id k some named (undoing_rests (tran_of s o).stage undoing) in
      let low = first_below c s o k in
      let m = (next n refl).next in
      let less = draws.forward id some (λ same. absurd (let q = same in omega (arith, q, named, low, m))) in
      omega (arith, less, none);
}
undo_names c d s t o at p _ k next undoing draws = names_none c d s t

commit_names : (c d : ℕ) (s t : MarksState) (slot : ℕ) (p : Plan) (answer : Reply) (place : ℕ) → AreCounted c s → ((n : ℕ) → answer ≡ reply.Drawn n → IsNext c d n) → is_forward (slot_tran s slot).stage ≡ true
    → t ≡ committed_after s slot answer place → RecordsName c d s t (reply_records s (intent.Commit slot) p answer)
commit_names c d s t slot p (reply.Drawn n) place k next goes e = record {
  below = one_below (may_commit s slot n) (commit_record (slot_tran s slot) n) d (with_below (slot_tran s slot).first n c d (first_below c s (owner.Slot slot) k) (next n refl).next (next n refl).there);
  changed = λ id x some q. absurd (one_unchanged (may_commit s slot n) (commit_record (slot_tran s slot) n) id x refl q);
  closed = λ id some q.
      let w = one_closed (may_commit s slot n) (commit_record (slot_tran s slot) n) id q in
      ap (λ (z : MarksState). forward_in z.trans id) e
      ∙ (ap (λ (b : Bool). forward_in (if b then record s { log = after_put s.log (commit_record (slot_tran s slot) n); trans = after_draw s.trans slot } else s).trans id) w.0
      ∙ drawn_alone c s slot n id k (next n refl).next goes w.1 some);
}
commit_names c d s t slot p _ place k next goes e = names_none c d s t

-- ---- a command
command_names : (pages : List (List ℕ)) (set : Setting) (w v : Facility) (h ready k : Held) (i : Intent) (c : Command) (p : Plan) (place : ℕ) (a : Answered) (said : Told)
    → Lawful h.marks pages set i (sent.Command c) → Reserves i h ready → (r : RunsCommand w (begun ready place) i c p place a said v k) → AreCounted w.counter (begun ready place).marks
    → RecordsName w.counter v.counter (begun ready place).marks k.marks (reply_records (begun ready place).marks i p r.answer)
command_names pages set w v h ready k (intent.Change slot action frames) c p place a said lawful e r counted =
    change_names w.counter v.counter (begun ready place).marks k.marks slot action frames p r.answer counted
    (draw_of w v (begun ready place).marks.member c (indexes_of frames) _ _ r.answer lawful.is r.gives.executed.executes)
    (change_goes h ready slot place e lawful.may.forward)
command_names pages set w v h ready k (intent.Undo o at) c p place a said lawful e r counted =
    undo_names w.counter v.counter (begun ready place).marks k.marks o at p r.answer counted
    (undo_of w v (begun ready place).marks.member c (record { count = 1; at = at ∷ 0 ∷ 0 ∷ [] }) _ _ r.answer lawful.is r.gives.executed.executes)
    (ap (λ (z : Held). is_undoing (tran_of z.marks o).stage) e ∙ lawful.undoing)
    (subst (λ (z : MarksState). DrawsBy r.answer z k.marks) (lent_same (begun ready place) r.after (lent_of (begun ready place) c) _ r.gives.executed.back)
    (settled_go r.after k (intent.Undo o at) p v.lists.waits r.answer (cells_for v.lists.cells r.after.marks.member c) place said tt r.settles))
command_names pages set w v h ready k (intent.Commit slot) c p place a said lawful e r counted =
    commit_names w.counter v.counter (begun ready place).marks k.marks slot p r.answer place counted
    (draw_of w v (begun ready place).marks.member c (record { count = 0; at = 0 ∷ 0 ∷ 0 ∷ [] }) _ _ r.answer lawful.is r.gives.executed.executes)
    (ap (λ (z : Held). is_forward (slot_tran z.marks slot).stage) e ∙ lawful.may.forward)
    (ap (λ (z : Held). z.marks) r.settles.1 ∙ ap (λ (z : MarksState). committed_after z slot r.answer place) (lent_same (begun ready place) r.after (lent_of (begun ready place) c) _ r.gives.executed.back))
command_names pages set w v h ready k _ c p place a said lawful e r counted = names_none w.counter v.counter (begun ready place).marks k.marks

-- ---- the event
call_answers : (h k : Held) (i : Intent) (done : Result (Unit {0}) DiskError) (a : Answered) (said : Told) → Stores h i done a said k → (a ≡ answered.Done) ⊎ (a ≡ answered.Failed)
call_answers h k i (Ok x) a said e = inl e.0
call_answers h k i (Err disk_error.Failed) a said e = inr e.0
call_answers h k i (Err disk_error.NoMemory) a said e = absurd e

module _ (c d : ℕ) (b s t : MarksState) (i : Intent) (p : Plan) (a : Answered) where
  unsent_names : a ≡ answered.None → RecordsName c d s t (event_records b i p a)
  unsent_names e = subst (λ (z : Answered). RecordsName c d s t (event_records b i p z)) (sym e) (names_none c d s t)

  called_names : (a ≡ answered.Done) ⊎ (a ≡ answered.Failed) → RecordsName c d s t (event_records b i p a)
  called_names (inl e) = subst (λ (z : Answered). RecordsName c d s t (event_records b i p z)) (sym e) (names_none c d s t)
  called_names (inr e) = subst (λ (z : Answered). RecordsName c d s t (event_records b i p z)) (sym e) (names_none c d s t)

sent_names : (pages : List (List ℕ)) (set : Setting) (w v : World) (h ready k : Held) (i : Intent) (s : Sent) (p : Plan) (place : ℕ) (a : Answered) (said : Told)
    → Lawful h.marks pages set i s → Reserves i h ready → Runs w (begun ready place) i s p place a said v k → AreCounted w.facility.counter (begun ready place).marks
    → RecordsName w.facility.counter v.facility.counter (begun ready place).marks k.marks (event_records (begun ready place).marks i p a)
sent_names pages set w v h ready k i sent.None p place a said lawful e r counted = unsent_names w.facility.counter v.facility.counter (begun ready place).marks (begun ready place).marks k.marks i p a r.is
sent_names pages set w v h ready k i (sent.Command c) p place a said lawful e r counted =
    subst (λ (z : Answered). RecordsName w.facility.counter v.facility.counter (begun ready place).marks k.marks (event_records (begun ready place).marks i p z)) (sym r.0.is)
    (command_names pages set w.facility v.facility h ready k i c p place a said lawful e r.0 counted)
sent_names pages set w v h ready k i sent.AppendLog p place a said lawful e r counted = called_names w.facility.counter v.facility.counter (begun ready place).marks (begun ready place).marks k.marks i p a (call_answers r.0.after k i r.0.done a said r.0.stores)
sent_names pages set w v h ready k i (sent.ReadPage page) p place a said lawful e r counted = called_names w.facility.counter v.facility.counter (begun ready place).marks (begun ready place).marks k.marks i p a (call_answers r.0.after k i r.0.done a said r.0.stores)
sent_names pages set w v h ready k i (sent.WritePage page) p place a said lawful e r counted = called_names w.facility.counter v.facility.counter (begun ready place).marks (begun ready place).marks k.marks i p a (call_answers r.0.after k i r.0.done a said r.0.stores)

-- from what the member held before, to what it holds behind its local moves
names_on : (c d : ℕ) (s b t u : MarksState) (records : List LogRecord) → Stays s b → Stays t u → RecordsName c d b t records → RecordsName c d s u records
names_on c d s b t u records first last names = record {
  below = names.below;
  changed = λ id x some e. more id some (names.changed id x some e);
  closed = λ id some e. (let less = last.forward id some in let none = names.closed id some e in omega (arith, less, none));
}
  where
    more : (id : ℕ) → id ≢ 0 → (c < id) ⊎ (1 ≤ forward_in b.trans id) → (c < id) ⊎ (1 ≤ forward_in s.trans id)
    more id some (inl above) = inl above
    more id some (inr one) = (let less = first.forward id some in inr (omega (arith, less, one)))

pub records_are_named : SendsLawfully → RecordsAreNamed
records_are_named sends w v h k i place s a happens counted =
    let before = stays_ready sends w v h k i place s a happens in
    names_on w.facility.counter v.facility.counter h.marks (begun happens.ready place).marks happens.after.marks k.marks (event_records (begun happens.ready place).marks i happens.plan a) before (stays_local sends w v h k i place s a happens)
    (sent_names h.pages (setting sends w v h k i place s a happens) w v h happens.ready happens.after i s happens.plan place a happens.said (sent_lawfully sends w v h k i place s a happens) happens.reserves happens.runs (before.counted w.facility.counter counted))
