-- Any event of a member that is up, by what it puts in its log buffer or appends of it.
use Rattle.std.proofs.Common.{◌≡◌, ◌≢◌, ℕ, ◌+◌, ◌-◌, ◌<◌, ◌≤◌, refl, sym, ap, subst, ◌∙◌, Bool, true, false, inl, inr, List, [], ◌∷◌, ◌++◌, length, Some, Result, Ok, Err, slice_set, arith}
use Rattle.std.specs.Prelude.{◌==◌, ◌&&◌, nat_lt}
use Rattle.std.specs.List.{AllByRecursion, count_by}
use Rattle.std.proofs.lemmas.Bool.{cases_eq, and_right, false≢true, ltb-true}
use Rattle.std.proofs.lemmas.Grind.{flat_map-append}
use Rattle.std.proofs.lemmas.List.{append-nil, get_or-set_same, get_or-set_other, length-set}
use Rattle.ds_disk.specs.Contents.{Contents, log_of}
use Rattle.ds_model.specs.declared.log.LogRecord.{LogRecord}
use Rattle.ds_model.specs.RecordBytes.{IsAllowed, body_bytes, frame_of, log_bytes, record_bytes}
use Rattle.ds_model.specs.declared.log.Version.{Version}
use Rattle.ds_model.specs.declared.log.Version.TheVariants as version
use Rattle.log_record.proofs.Records.{whole_length}
use Rattle.page_format.specs.Fields.{lrsn_of}
use Rattle.page_images.specs.Images.{zeros}
use Rattle.log_record.specs.Changes.{is_drawn}
use Rattle.page_chain.specs.Chains.{touches}
use Rattle.member_intents.specs.declared.intent.Intent.{Intent}
use Rattle.member_intents.specs.declared.intent.Intent.TheVariants as intent
use Rattle.member_intents.specs.declared.outcome.Answered.{Answered}
use Rattle.member_intents.specs.declared.outcome.Answered.TheVariants as answered
use Rattle.member_intents.specs.declared.outcome.Sent.{Sent}
use Rattle.member_intents.specs.declared.test.Test.{Test}
use Rattle.facility.specs.States.{Held as Facility}
use Rattle.list_structure.specs.declared.standing.MemberStatus.TheVariants as standing
use Rattle.list_structure.specs.Standings.{status_of}
use Rattle.member_needs.specs.declared.needs.Setting.{Setting}
use Rattle.member_needs.specs.declared.plans.Plan.{Plan}
use Rattle.member_needs.specs.Needs.{need_of}
use Rattle.member_needs.specs.Plans.{intent_plan}
use Rattle.member_effects.specs.Puts.{event_records}
use Rattle.member_resources.specs.declared.prepared.Prepared.{Prepared}
use Rattle.member_resources.specs.Held.{Held, begun}
use Rattle.member_resources.specs.Prepared.{Reserves, needed, setting_of}
use Rattle.member_resources.specs.Events as event
use Rattle.member_resources.specs.Events.{Happens, Runs, holder_in}
use Rattle.needs_law.specs.Lawful.{Lawful, SendsLawfully}
use Rattle.put_records.specs.Puts.{EventsPut, is_append, is_done, pending_after}
use Rattle.put_records.specs.Resting.{LocalsLeave}
use Rattle.member_log.specs.Buffers.{LogBuffer}
use Rattle.page_protocol.specs.Page.{put}
use Rattle.page_protocol.specs.Moves.{World}
use Rattle.page_protocol.specs.Always.{AlwaysGood, Good, KeepsGood}
use Rattle.page_world.specs.Numbers.{page_at, set_of}
use Rattle.page_world.specs.Holdings.{Holdings}
use Rattle.page_intents.specs.Stands.{AreBehind}
use Rattle.page_events.specs.Given.{ArePlain, none_waits}
use Rattle.page_events.specs.Beside.{Beside, Leads}
use Rattle.page_events.specs.Events.{Supplied}
use Rattle.log_tells.specs.Told.{Told, drawn_in, part_of}
use Rattle.log_tells.specs.Keeps.{StaysTold, appended, told_at}
use Rattle.told_pages.specs.Runs.{AllTell, AppendRuns, DrawRuns, GoesPlainly, IsDrawnBy, QuietRuns}
use Rattle.told_pages.specs.Events.{BufferTells, EventTells, ShowsRecord, TellBeside, TellOn, ToldTells}
use Rattle.told_pages.proofs.Commands.{CountsAs, DrawsNext, SendsAs, draws_number, is_draw, is_log_sent, other_none, runs_count, sends_as, undrawn_none}
use Rattle.told_pages.proofs.Disk.{Behind, logs_behind, runs_done, runs_logs}
use Rattle.told_pages.proofs.Lasts.{last_shows, new_bytes}
use Rattle.told_pages.proofs.Moves.{Once, leaves, once}
use Rattle.told_pages.proofs.Puts.{HasRecord, has_record}
use Rattle.told_pages.proofs.Runs.{forced_of, put_here, put_there}

-- what the crates below say
pub record Laws : Type 0 where
  pub lawful : SendsLawfully
  pub puts : EventsPut
  pub stays : StaysTold
  pub keeps : KeepsGood
  pub always : AlwaysGood
  pub zero : lrsn_of zeros ≡ 0
  pub quiet : QuietRuns
  pub draws : DrawRuns
  pub appends : AppendRuns
  pub local : LocalsLeave

-- ---- what is sent passed its tests
abbrev sent_in : Result Prepared Test → Result Sent Test
sent_in (Ok x) = Ok x.sent
sent_in (Err test) = Err test

needs_sent : (x : Result Sent Test) (y : Result Plan Test) (s : Sent) (p : Plan) → needed x y ≡ Ok (record { sent = s; plan = p }) → x ≡ Ok s
needs_sent (Err test) y s p e = absurd cc
needs_sent (Ok t) (Err test) s p e = absurd cc
needs_sent (Ok t) (Ok q) s p e = ap sent_in e

abbrev plan_in : Result Prepared Test → Result Plan Test
plan_in (Ok x) = Ok x.plan
plan_in (Err test) = Err test

needs_plan : (x : Result Sent Test) (y : Result Plan Test) (s : Sent) (p : Plan) → needed x y ≡ Ok (record { sent = s; plan = p }) → y ≡ Ok p
needs_plan (Err test) y s p e = absurd cc
needs_plan (Ok t) (Err test) s p e = absurd cc
needs_plan (Ok t) (Ok q) s p e = ap plan_in e

-- ---- spellings
framed : (x : Version) (n : ℕ) → frame_of x + n ≡ 0 → ⊥
framed version.One n e = omega (arith, e)
framed version.Two n e = omega (arith, e)

record_some : (r : LogRecord) → record_bytes r ≡ [] → ⊥
record_some r e = framed r.version (length (body_bytes r.version r.body)) (sym (whole_length r) ∙ ap (λ (z : List ℕ). length z) e)

left_none : (x y : List ℕ) → x ++ y ≡ [] → x ≡ []
left_none [] y e = refl
left_none (a ∷ x) y e = absurd (let h : ⊥ = cc in h)

no_records : (rs : List LogRecord) → log_bytes rs ≡ [] → rs ≡ []
no_records [] e = refl
no_records (r ∷ rs) e = absurd (record_some r (left_none (record_bytes r) (log_bytes rs) e))

none_is : (x : List ℕ) → none_waits x ≡ true → x ≡ []
none_is [] e = refl
none_is (a ∷ x) e = absurd (false≢true e)

some_wait : (x y : List ℕ) → (y ≡ [] → ⊥) → none_waits (x ++ y) ≡ false
some_wait [] [] some = absurd (some refl)
some_wait [] (b ∷ y) some = refl
some_wait (a ∷ x) y some = refl

all_on : (xs ys : List LogRecord) → AllByRecursion IsAllowed xs → AllByRecursion IsAllowed ys → AllByRecursion IsAllowed (xs ++ ys)
all_on [] ys h k = k
all_on (x ∷ xs) ys h k = (h.0, all_on xs ys h.1 k)

append_is : (i : Intent) (h ready : Held) → is_append i ≡ true → Reserves i h ready → ready ≡ h
append_is intent.Append h ready e r = r
append_is _ h ready e r = absurd (false≢true e)

append_draws : (i : Intent) → is_append i ≡ true → draws_number i ≡ false
append_draws intent.Append e = refl
append_draws _ e = absurd (false≢true e)

place_apart : (j m : ℕ) → 1 ≤ j → 1 ≤ m → j ≢ m → j - 1 ≢ m - 1
place_apart j m a b ne e = ne (omega (arith, a, b, e))

-- ---- where an event leads to, by what waits behind it
module _ (laws : Laws) (w : World) (u v : event.World) (g : Holdings) (content : ℕ → ℕ → List ℕ) (forced : ℕ → ℕ) (h k : Held) (told : List Told) (logs buffers : ℕ → List LogRecord) (rests : ℕ → List ℕ) (b : Beside w u g content forced h)
    (l : Leads w v g content forced h k) (t : TellBeside w content u.drive told logs buffers rests) (own : BufferTells h t.drive.contents (buffers h.marks.member) (rests h.marks.member)) where
  abbrev m : ℕ
  m = h.marks.member

  abbrev c : Contents
  c = t.drive.contents

  least : 1 ≤ m
  least = b.begins.up.least

  from_counter : w.group.counter ≡ u.facility.counter
  from_counter = b.begins.tied.counter ∙ ap (λ (f : Facility). f.counter) b.facility

  to_counter : l.world.group.counter ≡ v.facility.counter
  to_counter = l.beside.begins.tied.counter ∙ ap (λ (f : Facility). f.counter) l.beside.facility

  goes : (x : Bool) → ArePlain x l.moves → GoesPlainly x w l.world content l.versions
  goes x plain = record { good = b.begins.good; running = b.begins.tied.running; set = set_of; moves = l.moves; run = l.run; plain = plain; kept = l.kept }

  -- ---- where these are the records then
  built : (next : List Told) (on_disk waiting : ℕ → List LogRecord) (d : Contents) → AllTell page_at l.world l.versions next on_disk waiting → v.drive.contents ≡ Some d → length d.logs ≡ length c.logs
      → ((j : ℕ) → 1 ≤ j → log_of d.logs j ≡ log_bytes (on_disk j) ++ rests j) → ((j : ℕ) → 1 ≤ j → AllByRecursion IsAllowed (on_disk j)) → k.marks.log.pending ≡ log_bytes (waiting m) → AllByRecursion IsAllowed (waiting m)
      → ((j : ℕ) → j ≢ m → on_disk j ≡ logs j) → ((j : ℕ) → j ≢ m → waiting j ≡ buffers j) → TellOn l.world l.versions c v.drive k m logs buffers rests
  built next on_disk waiting d all is count spelled allowed waits may_wait others elsewhere = record {
    told = next;
    on_disk = on_disk;
    waiting = waiting;
    beside = record { all = all; drive = record { contents = d; told = is; spelled = spelled; allowed = allowed; rest = t.drive.rest } };
    own = record {
      has = subst (λ z. nat_lt (z - 1) (length d.logs) ≡ true) (sym l.same) (subst (λ z. nat_lt (m - 1) z ≡ true) (sym count) own.has);
      spelled = waits;
      allowed = may_wait;
      whole = own.whole;
    };
    count = count;
    other_logs = others;
    other_buffers = elsewhere;
  }

  -- ---- nothing waits behind it: what waited is on disk
  all_stable : k.marks.log.pending ≡ [] → l.left.written m ≡ l.left.stable m
  all_stable e =
      let up = subst (λ j. AreBehind (l.left.stable j) (l.left.written j) k.marks.log.pending) l.same l.beside.begins.up.pending in
      let none = no_records up.records (sym up.spelled ∙ e) in
      up.counted ∙ ap (λ (rs : List LogRecord). l.left.stable m + count_by (λ (r : LogRecord). is_drawn r.body) rs) none ∙ plus_none (l.left.stable m)
    where
      plus_none : (n : ℕ) → n + 0 ≡ n
      plus_none n = omega arith

  emptied : ArePlain true l.moves → l.world.group.counter ≡ w.group.counter → k.marks.log.pending ≡ [] → AllTell page_at l.world l.versions told (appended logs m (buffers m)) (put buffers m [])
  emptied plain counter e =
      let left = leaves laws.stays laws.keeps true set_of w l.world l.moves b.begins.good b.begins.tied.running plain l.run counter in
      let tied = l.beside.begins.tied in
      let whole : l.world.group.stable m ≡ w.group.written m = tied.stable m ∙ sym (all_stable e) ∙ sym (tied.written m) ∙ left.written m in
      let low = forced_of w b.begins.good m in
      laws.appends page_at w l.world content l.versions told logs buffers m (buffers m) [] (goes true plain)
      (record {
        counter = counter;
        split = sym (append-nil (buffers m));
        rises = omega (arith, whole, low);
        part = t.all.pending m ∙ ap (λ z. part_of m (w.group.stable m) z told) (sym whole);
        others = λ j ne. tied.stable j ∙ l.others.stable j ne ∙ sym (b.begins.tied.stable j);
      }) t.all

  on_disk_then : (d : Contents) → log_of d.logs m ≡ log_of c.logs m ++ log_bytes (buffers m) → ((j : ℕ) → 1 ≤ j → j ≢ m → log_of d.logs j ≡ log_of c.logs j) → (j : ℕ) → 1 ≤ j → log_of d.logs j ≡ log_bytes (appended logs m (buffers m) j) ++ rests j
  on_disk_then d here there j low = elim (cases_eq j m) [
    | inl e ↦ subst (λ z. log_of d.logs z ≡ log_bytes (appended logs m (buffers m) z) ++ rests z) (sym e)
        (here ∙ ap (λ z. z ++ log_bytes (buffers m)) (t.drive.spelled m least ∙ ap (λ z. log_bytes (logs m) ++ z) own.whole ∙ append-nil (log_bytes (logs m)))
        ∙ sym (flat_map-append record_bytes (logs m) (buffers m)) ∙ ap log_bytes (sym (put_here logs m (logs m ++ buffers m)))
        ∙ sym (append-nil (log_bytes (appended logs m (buffers m) m))) ∙ ap (λ z. log_bytes (appended logs m (buffers m) m) ++ z) (sym own.whole))
    | inr ne ↦ there j low ne ∙ t.drive.spelled j low ∙ ap (λ z. log_bytes z ++ rests j) (sym (put_there logs m j (logs m ++ buffers m) ne))
  ]

  allowed_then : (j : ℕ) → 1 ≤ j → AllByRecursion IsAllowed (appended logs m (buffers m) j)
  allowed_then j low = elim (cases_eq j m) [
    | inl e ↦ subst (λ z. AllByRecursion IsAllowed (appended logs m (buffers m) z)) (sym e)
        (subst (AllByRecursion IsAllowed) (sym (put_here logs m (logs m ++ buffers m))) (all_on (logs m) (buffers m) (t.drive.allowed m least) own.allowed))
    | inr ne ↦ subst (AllByRecursion IsAllowed) (sym (put_there logs m j (logs m ++ buffers m) ne)) (t.drive.allowed j low)
  ]

  then_empty : (d : Contents) → ArePlain true l.moves → l.world.group.counter ≡ w.group.counter → k.marks.log.pending ≡ [] → v.drive.contents ≡ Some d → length d.logs ≡ length c.logs
      → log_of d.logs m ≡ log_of c.logs m ++ log_bytes (buffers m) → ((j : ℕ) → 1 ≤ j → j ≢ m → log_of d.logs j ≡ log_of c.logs j) → TellOn l.world l.versions c v.drive k m logs buffers rests
  then_empty d plain counter e is count here there =
      built told (appended logs m (buffers m)) (put buffers m []) d (emptied plain counter e) is count (on_disk_then d here there) allowed_then
      (e ∙ ap log_bytes (sym (put_here buffers m []))) (subst (AllByRecursion IsAllowed) (sym (put_here buffers m [])) tt)
      (λ j ne. put_there logs m j (logs m ++ buffers m) ne) (λ j ne. put_there buffers m j [] ne)

  same_logs : (d : Contents) → d.logs ≡ c.logs → (j : ℕ) → log_of d.logs j ≡ log_of c.logs j
  same_logs d e j = ap (λ z. log_of z j) e

  counter_as : v.facility.counter ≡ u.facility.counter → l.world.group.counter ≡ w.group.counter
  counter_as e = to_counter ∙ e ∙ sym from_counter

  plain_as : (x : Bool) → none_waits k.marks.log.pending ≡ x → ArePlain x l.moves
  plain_as x e = subst (λ z. ArePlain z l.moves) e l.plain

  -- ---- nothing is put, and nothing appended
  quiet_on : (d : Contents) → v.drive.contents ≡ Some d → d.logs ≡ c.logs → k.marks.log.pending ≡ h.marks.log.pending → l.world.group.counter ≡ w.group.counter → TellOn l.world l.versions c v.drive k m logs buffers rests
  quiet_on d is logs_same same counter = by (none_waits k.marks.log.pending) refl
    where
      by : (x : Bool) → none_waits k.marks.log.pending ≡ x → TellOn l.world l.versions c v.drive k m logs buffers rests
      by true e =
          let empty = none_is k.marks.log.pending e in
          let none = no_records (buffers m) (sym own.spelled ∙ sym same ∙ empty) in
          then_empty d (plain_as true e) counter empty is (ap (λ (z : List (List ℕ)). length z) logs_same)
          (same_logs d logs_same m ∙ sym (append-nil (log_of c.logs m)) ∙ ap (λ rs. log_of c.logs m ++ log_bytes rs) (sym none)) (λ j low ne. same_logs d logs_same j)
      by false e =
          built told logs buffers d (laws.quiet page_at w l.world content l.versions told logs buffers (goes false (plain_as false e)) counter t.all) is (ap (λ (z : List (List ℕ)). length z) logs_same)
          (λ j low. same_logs d logs_same j ∙ t.drive.spelled j low) t.drive.allowed (same ∙ own.spelled) own.allowed (λ j ne. refl) (λ j ne. refl)

-- ---- an event
module _ (laws : Laws) (w : World) (u v : event.World) (g : Holdings) (content : ℕ → ℕ → List ℕ) (forced : ℕ → ℕ) (h k : Held) (i : Intent) (place : ℕ) (s : Sent) (a : Answered) (told : List Told) (logs buffers : ℕ → List LogRecord) (rests : ℕ → List ℕ)
    (b : Beside w u g content forced h) (happens : Happens u h i place s a v k) (sup : Supplied g h happens.ready i happens.plan place a) (l : Leads w v g content forced h k)
    (t : TellBeside w content u.drive told logs buffers rests) (own : BufferTells h t.drive.contents (buffers h.marks.member) (rests h.marks.member))
    (shows : (r : LogRecord) → drawn_in (event_records (begun happens.ready place).marks i happens.plan a) ≡ r ∷ [] → ShowsRecord w l.left content h.marks.member r) where
  abbrev recs : List LogRecord
  recs = event_records (begun happens.ready place).marks i happens.plan a

  abbrev setting : Setting
  setting = setting_of h (holder_in u.facility h.cast) place

  may : Lawful h.marks h.pages setting i s
  may = laws.lawful h.marks h.pages setting i s (needs_sent (need_of h.marks h.pages setting i) (intent_plan h.marks h.pages h.limit i) s happens.plan happens.lawful)

  sends : SendsAs i s
  sends = sends_as h.marks h.pages setting i s may

  pending : k.marks.log.pending ≡ pending_after (is_done a && is_append i) h.marks.log.pending recs
  pending = laws.puts u v h k i place s a happens

  behind : Behind (is_log_sent s) (begun happens.ready place) t.drive.contents v.drive
  behind = runs_logs u v (begun happens.ready place) happens.after i s happens.plan place a happens.said t.drive.contents t.drive.told sup.works happens.runs

  counts : CountsAs (is_draw s) u.facility v.facility a
  counts = runs_count u v (begun happens.ready place) happens.after i s happens.plan place a happens.said happens.runs

  -- ---- the logs on disk stay
  kept_logs : is_log_sent s ≡ false → behind.contents.logs ≡ t.drive.contents.logs
  kept_logs e = behind.logs ∙ stays (is_log_sent s) e
    where
      stays : (x : Bool) → x ≡ false → logs_behind x (begun happens.ready place) t.drive.contents.logs ≡ t.drive.contents.logs
      stays true e = absurd (false≢true (sym e))
      stays false e = refl

  -- ---- nothing is put, and nothing appended
  quiet_case : is_log_sent s ≡ false → k.marks.log.pending ≡ h.marks.log.pending → l.world.group.counter ≡ w.group.counter → TellOn l.world l.versions t.drive.contents v.drive k h.marks.member logs buffers rests
  quiet_case sent same counter = quiet_on laws w u v g content forced h k told logs buffers rests b l t own behind.contents behind.told (kept_logs sent) same counter

  -- ---- a record is put
  draw_case : is_log_sent s ≡ false → is_append i ≡ false → draws_number i ≡ true → DrawsNext u.facility v.facility a → TellOn l.world l.versions t.drive.contents v.drive k h.marks.member logs buffers rests
  draw_case sent appends draws_it d =
      built laws w u v g content forced h k told logs buffers rests b l t own (told ++ told_at h.marks.member (w.group.written h.marks.member) it.it ∷ []) logs (appended buffers h.marks.member recs) behind.contents
      (laws.draws page_at w l.world content l.versions told logs buffers h.marks.member it.it recs (goes laws w u v g content forced h k told logs buffers rests b l t own false plain) is_drawn_by it.only t.all) behind.told (ap (λ (z : List (List ℕ)). length z) logs_same)
      (λ j low. same_logs laws w u v g content forced h k told logs buffers rests b l t own behind.contents logs_same j ∙ t.drive.spelled j low) t.drive.allowed
      (waits ∙ ap (λ z. z ++ log_bytes recs) own.spelled ∙ sym (flat_map-append record_bytes (buffers h.marks.member) recs) ∙ ap log_bytes (sym (put_here buffers h.marks.member (buffers h.marks.member ++ recs))))
      (subst (AllByRecursion IsAllowed) (sym (put_here buffers h.marks.member (buffers h.marks.member ++ recs))) (all_on (buffers h.marks.member) recs own.allowed happens.allowed))
      (λ j ne. refl) (λ j ne. put_there buffers h.marks.member j (buffers h.marks.member ++ recs) ne)
    where
      n : ℕ
      n = u.facility.counter + 1

      above : n ≢ 0
      above e = omega (arith, e)

      it : HasRecord recs n
      it = subst (λ z. HasRecord (event_records (begun happens.ready place).marks i happens.plan z) n) (sym d.answer)
          (has_record h happens.ready setting i s happens.plan place n draws_it above
          (needs_plan (need_of h.marks h.pages setting i) (intent_plan h.marks h.pages h.limit i) s happens.plan happens.lawful) may happens.reserves (sup.recorded n d.answer))

      logs_same : behind.contents.logs ≡ t.drive.contents.logs
      logs_same = kept_logs sent

      waits : k.marks.log.pending ≡ h.marks.log.pending ++ log_bytes recs
      waits = pending ∙ ap (λ z. pending_after z h.marks.log.pending recs) (and_right (is_done a) (is_append i) appends)

      some : log_bytes recs ≡ [] → ⊥
      some e = absurd (let h : [] ≡ it.it ∷ it.behind = sym (no_records recs e) ∙ it.first in cc)

      plain : ArePlain false l.moves
      plain = plain_as laws w u v g content forced h k told logs buffers rests b l t own false (ap none_waits waits ∙ some_wait h.marks.log.pending (log_bytes recs) some)

      counter : l.world.group.counter ≡ w.group.counter + 1
      counter = (to_counter laws w u v g content forced h k told logs buffers rests b l t own) ∙ d.counter ∙ ap (λ z. z + 1) (sym (from_counter laws w u v g content forced h k told logs buffers rests b l t own))

      o : Once false set_of w l.world
      o = once laws.stays laws.keeps false set_of w l.world l.moves b.begins.good b.begins.tied.running plain l.run counter

      written_by : l.world.group.written o.draws.member ≡ w.group.written o.draws.member + 1
      written_by = o.from.written o.draws.member ∙ ap (λ (z : World). z.group.written o.draws.member) o.draws.step.2 ∙ put_here o.before.group.written o.draws.member (o.before.group.written o.draws.member + 1) ∙ ap (λ z. z + 1) (o.up_to.written o.draws.member)

      member : h.marks.member ≡ o.draws.member
      member = elim (cases_eq o.draws.member h.marks.member) [
        | inl e ↦ sym e
        | inr ne ↦ absurd (let one = l.beside.begins.tied.written o.draws.member ∙ l.others.written o.draws.member ne ∙ sym (b.begins.tied.written o.draws.member) in let two = written_by in omega (arith, one, two))
      ]

      longer : w.group.written h.marks.member < l.world.group.written h.marks.member
      longer = let one = subst (λ j. l.world.group.written j ≡ w.group.written j + 1) (sym member) written_by in omega (arith, one)

      number : it.it.lrsn ≡ w.group.counter + 1
      number = it.number_is ∙ ap (λ z. z + 1) (sym (from_counter laws w u v g content forced h k told logs buffers rests b l t own))

      none : (p : ℕ) → lrsn_of (content p 0) ≡ 0
      none p = ap lrsn_of (t.all.disk.drawn.versions p 0 (omega arith)) ∙ laws.zero

      end : Good l.world
      end = l.beside.begins.good

      shown : ShowsRecord w l.left content h.marks.member it.it
      shown = shows it.it it.only

      up_member : status_of l.left.facility.lists.statuses h.marks.member ≡ standing.Up
      up_member = ap (status_of l.left.facility.lists.statuses) (sym l.same) ∙ l.beside.begins.up.up

      among : h.marks.member ≤ l.left.facility.lists.members
      among = subst (λ z. z ≤ l.left.facility.lists.members) l.same l.beside.begins.up.among

      seen : (p : ℕ) → touches (page_at p) it.it ≡ ((l.left.copies h.marks.member p).marked && (lrsn_of (l.left.copies h.marks.member p).bytes == w.group.counter + 1))
      seen p = shown.changes p ∙ ap (λ z. (l.left.copies h.marks.member p).marked && (lrsn_of (l.left.copies h.marks.member p).bytes == z)) number

      is_drawn_by : IsDrawnBy page_at w l.world content l.versions h.marks.member it.it
      is_drawn_by = record {
        counter = counter;
        longer = longer;
        allowed = (subst (AllByRecursion IsAllowed) it.first happens.allowed).0;
        own = it.own;
        number = number;
        changes = λ p. seen p
            ∙ sym (last_shows w l.world l.left content l.versions forced l.force h.marks.member set_of o b.begins.good end l.beside.begins.tied b.begins.numbered l.beside.begins.numbered l.kept none member (least laws w u v g content forced h k told logs buffers rests b l t own) among up_member p);
        behind = λ p e. sym (new_bytes w l.world l.left content l.versions forced l.force h.marks.member set_of o b.begins.good end l.beside.begins.tied b.begins.numbered l.beside.begins.numbered l.kept none member (least laws w u v g content forced h k told logs buffers rests b l t own) among up_member p (sym (seen p) ∙ e))
            ∙ shown.behind p e;
      }

  -- ---- the log buffer is appended
  append_case : is_append i ≡ true → TellOn l.world l.versions t.drive.contents v.drive k h.marks.member logs buffers rests
  append_case e =
      then_empty laws w u v g content forced h k told logs buffers rests b l t own behind.contents (plain_as laws w u v g content forced h k told logs buffers rests b l t own true (ap none_waits empty)) (counter_as laws w u v g content forced h k told logs buffers rests b l t own same) empty behind.told (ap (λ (z : List (List ℕ)). length z) set ∙ length-set t.drive.contents.logs (h.marks.member - 1) (log_of t.drive.contents.logs h.marks.member ++ h.marks.log.pending))
      (ap (λ z. log_of z h.marks.member) set ∙ get_or-set_same t.drive.contents.logs (h.marks.member - 1) (log_of t.drive.contents.logs h.marks.member ++ h.marks.log.pending) [] (ltb-true (h.marks.member - 1) (length t.drive.contents.logs) own.has) ∙ ap (λ z. log_of t.drive.contents.logs h.marks.member ++ z) own.spelled)
      (λ j low ne. ap (λ z. log_of z j) set ∙ get_or-set_other t.drive.contents.logs (h.marks.member - 1) (j - 1) (log_of t.drive.contents.logs h.marks.member ++ h.marks.log.pending) [] (place_apart j h.marks.member low (least laws w u v g content forced h k told logs buffers rests b l t own) ne))
    where
      sent : is_log_sent s ≡ true
      sent = sends.appends ∙ e

      done : a ≡ answered.Done
      done = runs_done u v (begun happens.ready place) happens.after i s happens.plan place a happens.said sup.works sent happens.runs

      empty : k.marks.log.pending ≡ []
      empty = pending ∙ ap (λ z. pending_after (is_done z && is_append i) h.marks.log.pending recs) done ∙ ap (λ z. pending_after z h.marks.log.pending recs) e

      same : v.facility.counter ≡ u.facility.counter
      same = subst (λ z. CountsAs z u.facility v.facility a) (sends.draws ∙ append_draws i e) counts

      set : behind.contents.logs ≡ slice_set t.drive.contents.logs (h.marks.member - 1) (log_of t.drive.contents.logs h.marks.member ++ h.marks.log.pending)
      set = behind.logs ∙ ap (λ z. logs_behind z (begun happens.ready place) t.drive.contents.logs) sent ∙ ap (λ (z : Held). logs_behind true (begun z place) t.drive.contents.logs) (append_is i h happens.ready e happens.reserves)

  -- ---- any event
  other_case : is_append i ≡ false → TellOn l.world l.versions t.drive.contents v.drive k h.marks.member logs buffers rests
  other_case e = by (draws_number i) refl
    where
      sent : is_log_sent s ≡ false
      sent = sends.appends ∙ e

      stays : recs ≡ [] → k.marks.log.pending ≡ h.marks.log.pending
      stays none = pending ∙ ap (λ z. pending_after z h.marks.log.pending recs) (and_right (is_done a) (is_append i) e) ∙ ap (λ z. h.marks.log.pending ++ log_bytes z) none ∙ append-nil h.marks.log.pending

      drawn : draws_number i ≡ true → CountsAs true u.facility v.facility a → TellOn l.world l.versions t.drive.contents v.drive k h.marks.member logs buffers rests
      drawn d (inl next) = draw_case sent e d next
      drawn d (inr none) = quiet_case sent (stays (undrawn_none (begun happens.ready place).marks i happens.plan a none.0)) (counter_as laws w u v g content forced h k told logs buffers rests b l t own none.1)

      by : (x : Bool) → draws_number i ≡ x → TellOn l.world l.versions t.drive.contents v.drive k h.marks.member logs buffers rests
      by true d = drawn d (subst (λ z. CountsAs z u.facility v.facility a) (sends.draws ∙ d) counts)
      by false d = quiet_case sent (stays (other_none (begun happens.ready place).marks i happens.plan a d)) (counter_as laws w u v g content forced h k told logs buffers rests b l t own (subst (λ z. CountsAs z u.facility v.facility a) (sends.draws ∙ d) counts))

  pub tells_on : TellOn l.world l.versions t.drive.contents v.drive k h.marks.member logs buffers rests
  tells_on = by (is_append i) refl
    where
      by : (x : Bool) → is_append i ≡ x → TellOn l.world l.versions t.drive.contents v.drive k h.marks.member logs buffers rests
      by true e = append_case e
      by false e = other_case e

-- what it is told of its restart or its rebuild
pub told_tells : Laws → ToldTells
told_tells laws w u g content forced h k place told logs buffers rests b ends l t own =
    quiet_on laws w u u g content forced h k told logs buffers rests b l t own t.drive.contents t.drive.told refl (ap (λ (z : LogBuffer). z.pending) (laws.local (begun h place).marks k.marks ends.0))
    (counter_as laws w u u g content forced h k told logs buffers rests b l t own refl)

pub event_tells : Laws → EventTells
event_tells laws w u v g content forced h k i place s a told logs buffers rests b happens sup l t own shows = tells_on laws w u v g content forced h k i place s a told logs buffers rests b happens sup l t own shows
