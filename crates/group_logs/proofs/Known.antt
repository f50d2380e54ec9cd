-- Up to where the members of a group know their logs to be whole records.
use Rattle.std.proofs.Common.{◌≡◌, ℕ, zero, suc, ◌+◌, ◌<◌, ◌≤◌, refl, sym, ◌∙◌, ap, subst, arith, Bool, true, false, inl, inr, List, [], ◌∷◌, ◌++◌, append_assoc, length, length-append, take, drop, All, map, Option, Some, None, Result, Ok, Err}
use Rattle.std.specs.Prelude.{◌≢◌, ◌⊎◌, ◌-◌, ◌&&◌, min, IfSome, IsSomeAnd, nat_lt, replicate, slice_get, slice_index_or}
use Rattle.std.specs.List.{AllByRecursion}
use Rattle.std.proofs.lemmas.Bool.{and_parts, cases_Bool, cases_eq, ltb-false}
use Rattle.std.proofs.lemmas.List.{append_cancel_left, length-take, length-take-le, take-append-drop, take-append-le, take-take, take_all}
use Rattle.std.proofs.lemmas.Option.{slice_get_within}
use Rattle.cache_structure.specs.Directory.{Directory}
use Rattle.checkpoint_reader.specs.Ends.{end_of, nothing_known}
use Rattle.checkpoint_reader.specs.Readers.{ReaderState}
use Rattle.disk_restart.specs.Ends.{EndsAt, EndsBehind}
use Rattle.ds_disk.specs.Contents.{Contents, log_of}
use Rattle.ds_model.specs.RecordBytes.{IsAllowed, log_bytes, record_bytes}
use Rattle.ds_model.specs.declared.log.LogRecord.{LogRecord}
use Rattle.ds_model.specs.declared.script.Phase.{Phase}
use Rattle.group_core.specs.Given.{AllRestart, Crew, CrewState, PhaseBegins, Restarts, begins_restart, crew_state, lists_begun}
use Rattle.group_core.specs.Starts.{AllKnowDisk}
use Rattle.group_member.specs.declared.part.MemberPart.{MemberPart}
use Rattle.group_member.specs.declared.restarting.Restarting.{Restarting as RestartHeld}
use Rattle.group_member.specs.declared.stepped.Stepped.{Stepped}
use Rattle.group_member.specs.declared.stepped.Stepped.TheVariants as steps
use Rattle.group_member.specs.Happening.{RestartSent}
use Rattle.group_member.specs.Happening.restart_sent as restarting
use Rattle.group_member.specs.Members.{Member}
use Rattle.group_member.specs.Restarting.{KnowsTo}
use Rattle.group_restart.specs.Ends.{log_end}
use Rattle.group_restart.specs.Machine.{Restart}
use Rattle.list_structure.specs.States.{ListsState}
use Rattle.list_structure.specs.Standings.{is_live, status_of}
use Rattle.list_structure.specs.declared.standing.MemberStatus.{MemberStatus}
use Rattle.list_structure.specs.declared.standing.MemberStatus.TheVariants.{Down, Failed, Restarting, Up}
use Rattle.log_reader.specs.Keeping.{AreWhole}
use Rattle.log_record.specs.Reading.{record_in}
use Rattle.log_record.specs.declared.fault.RecordFault.{RecordFault}
use Rattle.log_record.specs.declared.fault.RecordFault.TheVariants.{NotWhole}
use Rattle.member_intents.specs.declared.outcome.Sent.{Sent}
use Rattle.member_intents.specs.declared.outcome.Sent.TheVariants as sent
use Rattle.script_phases.specs.Phases.{is_failed, restarts_in}
use Rattle.group_logs.specs.Known.{AnewKnow, BeginsKnow, DeadRest, EndHolds, EndsHold, IsSpared, IsSparedBy, MembersKnow, PhasesKnow, ReadsKnown, RestsAreUnknown, StartsKnow, end_at}
use Rattle.group_logs.specs.Logs.{Appends, IsCut, LogGoes, OneGoes, OwnGoes, RestartGoes, buffer_of}
use Rattle.group_member.specs.Stepping.{is_failure}

never : true ≡ false → ⊥
never e = cc

-- ---- numbers
zero_within : (n : ℕ) → 0 ≤ n
zero_within n = omega arith

all_within : (n end : ℕ) → n ≡ end → end ≤ n
all_within n end e = omega (arith, e)

all_taken : (n end : ℕ) → n ≡ end → n ≤ end
all_taken n end e = omega (arith, e)

within_more : (n k all end : ℕ) → all ≡ n + k → end ≤ n → end ≤ all
within_more n k all end e le = omega (arith, e, le)

within_least : (n k all end : ℕ) → all ≡ min k n → end ≤ n → end ≤ k → end ≤ all
within_least n k all end e le less = omega (arith, e, le, less)

one_within : (k : ℕ) → 1 ≤ k + 1
one_within k = omega arith

next_apart : (k at : ℕ) → k ≢ at → k + 1 ≢ at + 1
next_apart k at ne e = ne (omega (arith, e))

next_within : (at : ℕ) → at < 32 → at + 1 ≤ 32
next_within at less = omega (arith, less)

few_within : (at n : ℕ) → at < n → n ≤ 32 → at < 32
few_within at n less few = omega (arith, less, few)

first_within : (n : ℕ) → 0 < suc n
first_within n = omega arith

more_within : (k n : ℕ) → k < n → suc k < suc n
more_within k n less = omega (arith, less)

-- ---- one log
holds_as : (end : ℕ) (old new : List ℕ) → new ≡ old → EndHolds end old → EndHolds end new
holds_as end old new e h = subst (λ (z : List ℕ). EndHolds end z) (sym e) h

ends_as : (x y : ℕ) (bytes : List ℕ) → x ≡ y → EndHolds x bytes → EndHolds y bytes
ends_as x y bytes e h = subst (λ (z : ℕ). EndHolds z bytes) e h

nothing_holds : (bytes : List ℕ) → EndHolds 0 bytes
nothing_holds bytes = record { within = zero_within (length bytes); whole = record { records = []; spelled = refl; allowed = tt } }

all_holds : (end : ℕ) (bytes : List ℕ) → EndsAt end bytes → EndHolds end bytes
all_holds end bytes h = record {
  within = all_within (length bytes) end h.long;
  whole = subst (λ (z : List ℕ). AreWhole z) (sym (take_all end bytes (all_taken (length bytes) end h.long))) h.whole;
}

more_holds : (end : ℕ) (old more : List ℕ) → EndHolds end old → EndHolds end (old ++ more)
more_holds end old more h = record {
  within = within_more (length old) (length more) (length (old ++ more)) end (length-append old more) h.within;
  whole = subst (λ (z : List ℕ). AreWhole z) (sym (take-append-le end old more h.within)) h.whole;
}

cut_holds : (end long : ℕ) (old : List ℕ) → end ≤ long → EndHolds end old → EndHolds end (take long old)
cut_holds end long old spared h = record {
  within = within_least (length old) long (length (take long old)) end (length-take long old) h.within spared;
  whole = subst (λ (z : List ℕ). AreWhole z) (sym (take-take end long old spared)) h.whole;
}

-- ---- by what was sent
appends_hold : (end : ℕ) (more old new : List ℕ) (failed : Bool) → Appends more failed old new → EndHolds end old → EndHolds end new
appends_hold end more old new false a h = holds_as end (old ++ more) new a (more_holds end old more h)
appends_hold end more old new true a h = holds_as end (old ++ take a.0 more) new a.2 (more_holds end old (take a.0 more) h)

cuts_hold : (end long : ℕ) (old new : List ℕ) (failed : Bool) → end ≤ long → IsCut long failed old new → EndHolds end old → EndHolds end new
cuts_hold end long old new false spared a h = holds_as end (take long old) new a (cut_holds end long old spared h)
cuts_hold end long old new true spared (inl a) h = holds_as end old new a h
cuts_hold end long old new true spared (inr a) h = holds_as end (take long old) new a (cut_holds end long old spared h)

own_holds : (end : ℕ) (s : Sent) (pending old new : List ℕ) (failed : Bool) → OwnGoes s pending failed old new → EndHolds end old → EndHolds end new
own_holds end sent.None pending old new failed a h = holds_as end old new a h
own_holds end (sent.Command c) pending old new failed a h = holds_as end old new a h
own_holds end sent.AppendLog pending old new failed a h = appends_hold end pending old new failed a h
own_holds end (sent.ReadPage page) pending old new failed a h = holds_as end old new a h
own_holds end (sent.WritePage page) pending old new failed a h = holds_as end old new a h

restart_holds : (end : ℕ) (s : RestartSent) (pending old new : List ℕ) (failed : Bool) → IsSparedBy end s → RestartGoes s pending failed old new → EndHolds end old → EndHolds end new
restart_holds end restarting.None pending old new failed spared a h = holds_as end old new a h
restart_holds end (restarting.Command c) pending old new failed spared a h = holds_as end old new a h
restart_holds end restarting.LogLength pending old new failed spared a h = holds_as end old new a h
restart_holds end (restarting.ReadLog at count) pending old new failed spared a h = holds_as end old new a h
restart_holds end (restarting.CutLog long) pending old new failed spared a h = cuts_hold end long old new failed spared a h
restart_holds end restarting.AppendLog pending old new failed spared a h = appends_hold end pending old new failed a h
restart_holds end (restarting.ReadPage page) pending old new failed spared a h = holds_as end old new a h

goes_hold : (end : ℕ) (m : Member) (stepped : Stepped) (old new : List ℕ) → IsSpared end stepped → LogGoes m stepped old new → EndHolds end old → EndHolds end new
goes_hold end m (steps.Sent s answered) old new spared a h = own_holds end s m.holds.marks.log.pending old new (is_failure answered) a h
goes_hold end m (steps.Restart s answered) old new spared a h = restart_holds end s (buffer_of m.restart) old new (is_failure answered) spared a h
goes_hold end m (steps.Rebuild s answered) old new spared a h = holds_as end old new a h
goes_hold end m steps.Failed old new spared a h = holds_as end old new a h

-- ---- all logs
past_all : (logs : List (List ℕ)) (i : ℕ) → length logs ≤ i → slice_index_or logs i [] ≡ []
past_all [] i le = refl
past_all (x ∷ xs) zero le = let none : ⊥ = omega arith in absurd none
past_all (x ∷ xs) (suc i) le = past_all xs i (omega arith)

beyond : (logs : List (List ℕ)) (i : ℕ) → nat_lt i (length logs) ≡ false → slice_index_or logs i [] ≡ []
beyond logs i e = past_all logs i (ltb-false i (length logs) e)

same_end : (old new : CrewState) (at : ℕ) → new.known ≡ old.known → end_at old at ≡ end_at new at
same_end old new at e = ap (λ (z : List (List ℕ)). end_of (slice_index_or z at nothing_known) (at + 1)) (sym e)

pub members_know : MembersKnow
members_know c d old new at m stepped h same goes spared k within = elim (cases_eq k at) [
  | inl e ↦ subst (λ (z : ℕ). EndHolds (end_at new z) (log_of d.logs (z + 1))) (sym e) (own (subst (λ (z : ℕ). z < 32) e within))
  | inr ne ↦ ends_as (end_at old k) (end_at new k) (log_of d.logs (k + 1)) (same_end old new k same)
      (holds_as (end_at old k) (log_of c.logs (k + 1)) (log_of d.logs (k + 1)) (goes.others (k + 1) (one_within k) (next_apart k at ne)) (h k within))
]
  where
    by : (b : Bool) → nat_lt (at + 1 - 1) (length c.logs) ≡ b → EndHolds (end_at old at) (log_of c.logs (at + 1)) → EndHolds (end_at old at) (log_of d.logs (at + 1))
    by true e before = goes_hold (end_at old at) m stepped (log_of c.logs (at + 1)) (log_of d.logs (at + 1)) spared (goes.own e) before
    by false e before = holds_as (end_at old at) (log_of c.logs (at + 1)) (log_of d.logs (at + 1))
        (beyond d.logs (at + 1 - 1) (ap (λ (z : ℕ). nat_lt (at + 1 - 1) z) goes.count ∙ e) ∙ sym (beyond c.logs (at + 1 - 1) e)) before

    own : at < 32 → EndHolds (end_at new at) (log_of d.logs (at + 1))
    own less = ends_as (end_at old at) (end_at new at) (log_of d.logs (at + 1)) (same_end old new at same) (by (nat_lt (at + 1 - 1) (length c.logs)) refl (h at less))

pub phases_know : PhasesKnow
phases_know c phase old new p h at within = ends_as (end_at old at) (end_at new at) (log_of c.logs (at + 1)) (same_end old new at (ap (λ (z : CrewState). z.known) p.rest)) (h at within)

-- ---- where a group starts, and behind a group restart
same_at : (x n i : ℕ) → slice_index_or (replicate n x) i x ≡ x
same_at x zero i = refl
same_at x (suc n) zero = refl
same_at x (suc n) (suc i) = same_at x n i

none_holds : (member : ℕ) (bytes : List ℕ) → EndHolds (end_of nothing_known member) bytes
none_holds member bytes = ends_as 0 (end_of nothing_known member) bytes (sym (same_at 0 32 (member - 1))) (nothing_holds bytes)

in_all : (Q : List ℕ → Type 0) (xs : List (List ℕ)) (d : List ℕ) (i : ℕ) → All Q xs → Q d → Q (slice_index_or xs i d)
in_all Q [] d i all none = none
in_all Q (x ∷ xs) d zero all none = all 0 d (first_within (length xs))
in_all Q (x ∷ xs) d (suc i) all none = in_all Q xs d i (λ k z within. all (suc k) z (more_within k (length xs) within)) none

of_parts : {P : Type 0} (Q : List ℕ → Type 0) (parts : List (MemberPart P)) (d : List ℕ) (i : ℕ) → All (λ (p : MemberPart P). Q p.known) parts → Q d → Q (slice_index_or (map (λ (p : MemberPart P). p.known) parts) i d)
of_parts Q [] d i all none = none
of_parts Q (p ∷ ps) d zero all none = all 0 p (first_within (length ps))
of_parts Q (p ∷ ps) d (suc i) all none = of_parts Q ps d i (λ k z within. all (suc k) z (more_within k (length ps) within)) none

pub starts_know : {C : Type 0} → (P : Type 0) (directory : C → Directory) → StartsKnow P directory
starts_know {C} P directory crew b c all at within =
    of_parts (λ (known : List ℕ). EndHolds (end_of known (at + 1)) (log_of c.logs (at + 1))) crew.parts.items nothing_known at
    (λ i d less. all_holds (end_of (slice_index_or crew.parts.items i d).known (at + 1)) (log_of c.logs (at + 1)) (all i d less (at + 1) (one_within at) (next_within at within)))
    (none_holds (at + 1) (log_of c.logs (at + 1)))

abbrev Ends : Option Restart → List ℕ → Type 0
Ends None known = known ≡ nothing_known
Ends (Some restart) known = (member : ℕ) → 1 ≤ member → member ≤ 32 → end_of known member ≡ log_end restart member

pub anew_know : AnewKnow
anew_know c counter restart old new b is behind at within =
    let known : All (Ends (Some restart)) new.known = subst (λ (z : Option Restart). All (Ends z) new.known) is b.known in
    in_all (λ (known : List ℕ). EndHolds (end_of known (at + 1)) (log_of c.logs (at + 1))) new.known nothing_known at
    (λ i d less. ends_as (log_end restart (at + 1)) (end_of (slice_index_or new.known i d) (at + 1)) (log_of c.logs (at + 1)) (sym (known i d less (at + 1) (one_within at) (next_within at within)))
    (all_holds (log_end restart (at + 1)) (log_of c.logs (at + 1)) (behind (at + 1))))
    (none_holds (at + 1) (log_of c.logs (at + 1)))

-- ---- the begin of a phase
restart_id : (b : Bool) (m n : Member) → Restarts b m n → n.id ≡ m.id
restart_id true m n h = ap (λ (z : Member). z.id) h.1
restart_id false m n h = ap (λ (z : Member). z.id) h

abbrev SameId : Option Member → Option Member → Type 0
SameId None None = Unit {0}
SameId None (Some n) = ⊥
SameId (Some m) None = ⊥
SameId (Some m) (Some n) = n.id ≡ m.id

same_ids : (phase : Phase) (lists now : ListsState) (ms ns : List Member) → AllRestart phase lists ms ns now → (at : ℕ) → SameId (slice_get ms at) (slice_get ns at)
same_ids phase lists now [] [] all at = tt
same_ids phase lists now [] (n ∷ ns) all at = absurd all
same_ids phase lists now (m ∷ ms) [] all at = absurd all
same_ids phase lists now (m ∷ ms) (n ∷ ns) all zero = restart_id (begins_restart phase lists.statuses m.id) m n all.0
same_ids phase lists now (m ∷ ms) (n ∷ ns) all (suc at) = same_ids phase (lists_begun phase lists m.id) now ms ns all.1 at

dead_by : (s : MemberStatus) → is_failed s ≡ true → is_live s ≡ false
dead_by Down e = absurd (never (sym e))
dead_by Up e = absurd (never (sym e))
dead_by Failed e = refl
dead_by Restarting e = absurd (never (sym e))

abbrev Knows : ℕ → Option ReaderState → Type 0
Knows end None = ⊥
Knows end (Some r) = r.known ≡ end

told : (end : ℕ) (bytes : List ℕ) (q : RestartHeld) → KnowsTo end q.resources → EndHolds end bytes → ReadsKnown bytes q.resources.marks.own.reader
told end bytes q knows h = by q.resources.marks.own.reader knows
  where
    by : (x : Option ReaderState) → Knows end x → ReadsKnown bytes x
    by None none = absurd none
    by (Some r) is = subst (λ (z : ℕ). AreWhole (take z bytes)) (sym is) h.whole

begun : (end : ℕ) (bytes : List ℕ) (m n : Member) → m.restart ≡ None → (n ≡ m) ⊎ IsSomeAnd n.restart (λ r. KnowsTo end r.resources) → EndHolds end bytes → IfSome n.restart (λ q. ReadsKnown bytes q.resources.marks.own.reader)
begun end bytes m n none (inl same) h = subst (λ (x : Option RestartHeld). IfSome x (λ q. ReadsKnown bytes q.resources.marks.own.reader)) (sym (ap (λ (z : Member). z.restart) same ∙ none)) tt
begun end bytes m n none (inr knows) h = by n.restart knows
  where
    by : (x : Option RestartHeld) → IsSomeAnd x (λ r. KnowsTo end r.resources) → IfSome x (λ q. ReadsKnown bytes q.resources.marks.own.reader)
    by None k = absurd k
    by (Some q) k = told end bytes q k h

pub begins_know : BeginsKnow
begins_know c phase old new p h dead few at = on (slice_get old.members at) (slice_get new.members at) refl (same_ids phase old.facility.lists p.lists old.members new.members p.restarts at) (dead at) (p.knows at)
  where
    known : List ℕ
    known = slice_index_or old.known at nothing_known

    on : (x y : Option Member) → slice_get old.members at ≡ x → SameId x y → IfSome x (λ (m : Member). (m.id ≡ at + 1) × (is_live (status_of old.facility.lists.statuses (at + 1)) ≡ false → m.restart ≡ None))
        → IfSome x (λ (m : Member). IfSome y (λ (n : Member). (n ≡ m) ⊎ IsSomeAnd n.restart (λ r. KnowsTo (end_of known m.id) r.resources)))
        → IfSome y (λ n. begins_restart phase old.facility.lists.statuses n.id ≡ true → IfSome n.restart (λ q. ReadsKnown (log_of c.logs (at + 1)) q.resources.marks.own.reader))
    on None None is same rests knows = tt
    on None (Some n) is same rests knows = absurd same
    on (Some m) None is same rests knows = tt
    on (Some m) (Some n) is same rests knows = λ begins.
        let id : n.id ≡ at + 1 = same ∙ rests.0 in
        let failed : is_failed (status_of old.facility.lists.statuses (at + 1)) ≡ true =
        (and_parts (is_failed (status_of old.facility.lists.statuses (at + 1))) (restarts_in phase (at + 1)) (subst (λ (z : ℕ). begins_restart phase old.facility.lists.statuses z ≡ true) id begins)).0 in
        let there : at < length old.members = slice_get_within old.members at m is in
        begun (end_of known m.id) (log_of c.logs (at + 1)) m n (rests.1 (dead_by (status_of old.facility.lists.statuses (at + 1)) failed)) knows
        (ends_as (end_of known (at + 1)) (end_of known m.id) (log_of c.logs (at + 1)) (ap (λ (z : ℕ). end_of known z) (sym rests.0)) (h at (few_within at (length old.members) there few)))

-- ---- what stands behind whole records
abbrev pub ReadAgain : Type 0
ReadAgain = (r : LogRecord) (rest : List ℕ) → IsAllowed r → record_in (record_bytes r ++ rest) ≡ Ok (r, length (record_bytes r))

never_both : (x : LogRecord × ℕ) → Ok x ≡ Err NotWhole → ⊥
never_both x e = cc

same_read : (x y : LogRecord × ℕ) → (let a : Result (LogRecord × ℕ) RecordFault = Ok x in let b : Result (LogRecord × ℕ) RecordFault = Ok y in a ≡ b) → x.0 ≡ y.0
same_read x y e = let both : x ≡ y = cc in ap (λ (z : LogRecord × ℕ). z.0) both

-- whole records that are a front of these are among them
before : ReadAgain → (rs ws : List LogRecord) (more rest : List ℕ) → AllByRecursion IsAllowed rs → AllByRecursion IsAllowed ws → record_in rest ≡ Err NotWhole
    → log_bytes rs ++ more ≡ log_bytes ws ++ rest → length (log_bytes rs) ≤ length (log_bytes ws)
before again [] ws more rest a b none e = omega arith
before again (r ∷ rs) [] more rest a b none e =
    let is : record_bytes r ++ (log_bytes rs ++ more) ≡ rest = sym (append_assoc (record_bytes r) (log_bytes rs) more) ∙ e in
    absurd (never_both (r, length (record_bytes r)) (sym (again r (log_bytes rs ++ more) a.0) ∙ ap record_in is ∙ none))
before again (r ∷ rs) (w ∷ ws) more rest a b none e =
    let is : record_bytes r ++ (log_bytes rs ++ more) ≡ record_bytes w ++ (log_bytes ws ++ rest) = sym (append_assoc (record_bytes r) (log_bytes rs) more) ∙ e ∙ append_assoc (record_bytes w) (log_bytes ws) rest in
    let same : r ≡ w = same_read (r, length (record_bytes r)) (w, length (record_bytes w)) (sym (again r (log_bytes rs ++ more) a.0) ∙ ap record_in is ∙ again w (log_bytes ws ++ rest) b.0) in
    let left : log_bytes rs ++ more ≡ log_bytes ws ++ rest =
    append_cancel_left (record_bytes w) (log_bytes rs ++ more) (log_bytes ws ++ rest) (subst (λ (z : LogRecord). record_bytes z ++ (log_bytes rs ++ more) ≡ record_bytes w ++ (log_bytes ws ++ rest)) same is) in
    let fewer : length (log_bytes rs) ≤ length (log_bytes ws) = before again rs ws more rest a.1 b.1 none left in
    let first : length (record_bytes r) ≡ length (record_bytes w) = ap (λ (z : LogRecord). length (record_bytes z)) same in
    let long = length-append (record_bytes r) (log_bytes rs) in
    let also = length-append (record_bytes w) (log_bytes ws) in
    omega (arith, fewer, first, long, also)

pub rests_are_unknown : ReadAgain → RestsAreUnknown
rests_are_unknown again end log rest whole none h =
    let front : take end (log ++ rest) ≡ log_bytes h.whole.records = h.whole.spelled in
    let split : log_bytes h.whole.records ++ drop end (log ++ rest) ≡ log_bytes whole.records ++ rest =
    ap (λ (z : List ℕ). z ++ drop end (log ++ rest)) (sym front) ∙ (take-append-drop end (log ++ rest) ∙ ap (λ (z : List ℕ). z ++ rest) whole.spelled) in
    let fewer : length (log_bytes h.whole.records) ≤ length (log_bytes whole.records) = before again h.whole.records whole.records (drop end (log ++ rest)) rest h.whole.allowed whole.allowed none split in
    let long : length (take end (log ++ rest)) ≡ end = length-take-le end (log ++ rest) h.within in
    let same : length (take end (log ++ rest)) ≡ length (log_bytes h.whole.records) = ap length front in
    let all : length log ≡ length (log_bytes whole.records) = ap length whole.spelled in
    omega (arith, fewer, long, same, all)
