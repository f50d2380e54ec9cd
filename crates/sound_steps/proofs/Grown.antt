-- Behind each call of a group restart the logs of the disk have grown from those that it had first.
use Rattle.std.proofs.Common.{◌≡◌, ℕ, zero, suc, ◌+◌, ◌-◌, ◌<◌, ◌≤◌, Bool, true, false, cond, List, [], ◌∷◌, ◌++◌, length, take, get_or, Some, Result, Ok, Err, inl, inr, refl, sym, ap, subst, ◌∙◌, arith, append_assoc, length-append}
use Rattle.std.specs.Prelude.{◌⊎◌, ◌==◌}
use Rattle.std.specs.List.{AllByRecursion}
use Rattle.std.proofs.Math.ListN.{set, length-set}
use Rattle.std.proofs.lemmas.Bool.{cond_both, cases_Bool, cases_lt, or_cases, or_from, or_parts, eqb-true, eqb-false}
use Rattle.std.proofs.lemmas.Grind.{flat_map-append}
use Rattle.std.proofs.lemmas.List.{append-nil, nil_from_length, get_or-set_other, get_or-set_same, take-append-le, take_all}
use Rattle.std.proofs.lemmas.List.Folds.{list_any-append}
use Rattle.ds_base.specs.declared.names.PageId.{PageId}
use Rattle.ds_disk.specs.Contents.{Contents, Becomes, log_of, with_log}
use Rattle.ds_disk.specs.declared.disk.DiskError.{DiskError}
use Rattle.ds_model.specs.Logs.{IsLog, IsTorn}
use Rattle.ds_model.specs.RecordBytes.{IsAllowed, record_bytes, log_bytes}
use Rattle.ds_model.specs.declared.log.LogRecord.{LogRecord}
use Rattle.log_record.specs.Logs.{Parts}
use Rattle.log_record.specs.declared.log.Log.{Log}
use Rattle.log_trans.specs.declared.course.Course.{Course}
use Rattle.log_trans.specs.Courses.{new_course, after_body}
use Rattle.restart_plan.specs.declared.opened.Closing.{Closing}
use Rattle.restart_plan.specs.declared.opened.Undo.{Undo}
use Rattle.restart_plan.specs.declared.plan.Plan.{Plan}
use Rattle.restart_plan.specs.declared.tails.Tail.{Tail}
use Rattle.group_restart.specs.declared.reply.Reply.{Reply}
use Rattle.group_restart.specs.declared.stage.Stage.{Stage}
use Rattle.group_restart.specs.declared.stage.Stage.TheVariants as stage
use Rattle.group_restart.specs.Calls.{call_in}
use Rattle.group_restart.specs.Disk.{Drive, Calls, Cuts as CutsLog, Appends, ReadsPage, WritesPage}
use Rattle.group_restart.specs.Machine.{Restart}
use Rattle.group_restart.specs.Records.{ended}
use Rattle.group_restart.specs.Undo.{undoing}
use Rattle.disk_restart.proofs.Told.{left_by}
use Rattle.disk_restart.proofs.Whole.{ReadsSound}
use Rattle.sound_appends.specs.Laws.{CutKeepsWhole, HaveNoTails}
use Rattle.sound_courses.specs.Bringing.{Cuts, with_cut}
use Rattle.sound_courses.proofs.Cut_logs.{first_tail, cut_alike}
use Rattle.sound_disk.specs.Laws.{with_tail}
use Rattle.sound_disk.specs.Transactions.{course_in}
use Rattle.sound_disk.specs.Whole_logs.{IsWholeLog, AreWholeLogs}
use Rattle.sound_plans.specs.Ends.{takes, ToEnd, is_checkpoint, has_checkpoint, IsNothing, EndAll}
use Rattle.sound_plans.specs.Opens.{course_of}
use Rattle.sound_plans.specs.Queues.{has_log, records_for}
use Rattle.sound_plans.proofs.Ends_put.{body_ends}
use Rattle.sound_plans.proofs.Queues.{first_queue}
use Rattle.sound_restarts.specs.Redo.{with_page}
use Rattle.sound_courses.specs.Standing.{IsLeftSound}
use Rattle.sound_steps.specs.Whole.{SoundIn}
use Rattle.sound_steps.specs.Grown.{HaveEnded, GrowsTo, IsGrown, HasGrownBefore, CallGrows}

-- ---- a log and its records

pub all_join : (P : LogRecord → Type 0) (xs ys : List LogRecord) → AllByRecursion P xs → AllByRecursion P ys → AllByRecursion P (xs ++ ys)
all_join P [] ys h k = k
all_join P (x ∷ xs) ys h k = (h.0, all_join P xs ys h.1 k)

abbrev records_by : Result Parts ℕ → List LogRecord
records_by (Ok p) = p.records
records_by (Err at) = []

pub same_read : ReadsSound → (bytes : List ℕ) (xs ys : List LogRecord) → IsLog bytes xs → IsLog bytes ys → xs ≡ ys
same_read sound bytes xs ys p q = sym (ap records_by (sound bytes xs p)) ∙ ap records_by (sound bytes ys q)

pub no_tail : (member : ℕ) (bytes : List ℕ) (log : Log) → IsWholeLog member bytes log → log.tail ≡ 0 → bytes ≡ log_bytes log.records
no_tail member bytes log w none =
    let long = length-append (log_bytes log.records) w.records_are.tail in
    let all : length bytes ≡ length (log_bytes log.records ++ w.records_are.tail) = ap (λ (b : List ℕ). length b) w.records_are.whole in
    let size = w.length_is in
    let ends = w.tail_is in
    let rest : length w.records_are.tail ≡ 0 = omega (arith, long, all, size, ends, none) in
    w.records_are.whole ∙ ap (λ (b : List ℕ). log_bytes log.records ++ b) (nil_from_length w.records_are.tail rest) ∙ append-nil (log_bytes log.records)

-- ---- so many bytes of records are a front of them, and a torn one

nothing_more : (n : ℕ) → 0 + n ≡ n
nothing_more n = omega arith

one_more : (a n : ℕ) → suc a + n ≡ suc (a + n)
one_more a n = omega arith

none_taken : (n : ℕ) → take {A = ℕ} n [] ≡ []
none_taken zero = refl
none_taken (suc n) = refl

take_front : (n : ℕ) (xs ys : List ℕ) → take (length xs + n) (xs ++ ys) ≡ xs ++ take n ys
take_front n [] ys = ap (λ (k : ℕ). take k ys) (nothing_more n)
take_front n (x ∷ xs) ys = ap (λ (k : ℕ). take k (x ∷ (xs ++ ys))) (one_more (length xs) n) ∙ ap (λ (l : List ℕ). x ∷ l) (take_front n xs ys)

record LeavesTorn (added : List LogRecord) (n : ℕ) : Type 0 where
  front : List LogRecord
  left : List LogRecord
  rest : List ℕ
  split : added ≡ front ++ left
  allowed : AllByRecursion IsAllowed front
  bytes : take n (log_bytes added) ≡ log_bytes front ++ rest
  torn : IsTorn rest

torn_at : (added : List LogRecord) (n : ℕ) → AllByRecursion IsAllowed added → LeavesTorn added n
torn_at [] n a = record { front = []; left = []; rest = []; split = refl; allowed = tt; bytes = none_taken n; torn = inl refl }
torn_at (r ∷ rs) n a = elim (cases_lt n (length (record_bytes r))) [
  | inl lt ↦ record {
    front = [];
    left = r ∷ rs;
    rest = take n (record_bytes r);
    split = refl;
    allowed = tt;
    bytes = take-append-le n (record_bytes r) (log_bytes rs) (omega arith);
    torn = inr (r, a.0, n, lt, refl);
  }
  | inr le ↦ (
      let left = n - length (record_bytes r) in
      let t = torn_at rs left a.1 in
      let whole : length (record_bytes r) + left ≡ n = omega arith in
      record {
        front = r ∷ t.front;
        left = t.left;
        rest = t.rest;
        split = ap (λ (l : List LogRecord). r ∷ l) t.split;
        allowed = (a.0, t.allowed);
        bytes = ap (λ (k : ℕ). take k (log_bytes (r ∷ rs))) (sym whole) ∙ take_front left (record_bytes r) (log_bytes rs) ∙ ap (λ (b : List ℕ). record_bytes r ++ b) t.bytes ∙ sym (append_assoc (record_bytes r) (log_bytes t.front) t.rest);
        torn = t.torn;
      })
]

-- ---- the records of a log that has more bytes

record Follows (added : List LogRecord) (b d : List ℕ) : Type 0 where
  front : List LogRecord
  left : List LogRecord
  rest : List ℕ
  split : added ≡ front ++ left
  allowed : AllByRecursion IsAllowed front
  are : d ≡ b ++ (log_bytes front ++ rest)
  torn : IsTorn rest

record Longer (added xs ys : List LogRecord) : Type 0 where
  front : List LogRecord
  left : List LogRecord
  split : added ≡ front ++ left
  are : ys ≡ xs ++ front

longer_one : ReadsSound → (added : List LogRecord) (b d : List ℕ) (l x : Log) (m : ℕ) → IsWholeLog m b l → IsWholeLog m d x → l.tail ≡ 0 → Follows added b d → Longer added l.records x.records
longer_one sound added b d l x m w v none f =
    let whole : d ≡ log_bytes (l.records ++ f.front) ++ f.rest =
    f.are ∙ ap (λ (z : List ℕ). z ++ (log_bytes f.front ++ f.rest)) (no_tail m b l w none)
    ∙ sym (append_assoc (log_bytes l.records) (log_bytes f.front) f.rest) ∙ ap (λ (z : List ℕ). z ++ f.rest) (sym (flat_map-append record_bytes l.records f.front)) in
    let is : IsLog d (l.records ++ f.front) = record { tail = f.rest; whole = whole; allowed = all_join IsAllowed l.records f.front w.records_are.allowed f.allowed; torn = f.torn } in
    record { front = f.front; left = f.left; split = f.split; are = same_read sound d x.records (l.records ++ f.front) v.records_are is }

longer_if : (added : List LogRecord) (b : Bool) (xs ys us vs : List LogRecord) → Longer added xs ys → Longer added us vs → Longer added (cond b xs us) (cond b ys vs)
longer_if added true xs ys us vs h k = h
longer_if added false xs ys us vs h k = k

longer_members : ReadsSound → (added : List LogRecord) (k : ℕ) (bs ds : List (List ℕ)) (logs others : List Log) → AreWholeLogs k bs logs → AreWholeLogs k ds others → HaveNoTails logs → length bs ≡ length ds → ((i : ℕ) → Follows added (get_or bs i []) (get_or ds i []))
    → (m : ℕ) → Longer added (records_for logs m) (records_for others m)
longer_members sound added k [] [] [] [] w v none same f m = record { front = []; left = added; split = refl; are = refl }
longer_members sound added k [] [] [] (x ∷ xs) w v none same f m = absurd v
longer_members sound added k [] [] (l ∷ ls) others w v none same f m = absurd w
longer_members sound added k [] (d ∷ ds) logs others w v none same f m = absurd (omega arith)
longer_members sound added k (b ∷ bs) [] logs others w v none same f m = absurd (omega arith)
longer_members sound added k (b ∷ bs) (d ∷ ds) [] others w v none same f m = absurd w
longer_members sound added k (b ∷ bs) (d ∷ ds) (l ∷ ls) [] w v none same f m = absurd v
longer_members sound added k (b ∷ bs) (d ∷ ds) (l ∷ ls) (x ∷ xs) w v none same f m =
    let less : length bs ≡ length ds = omega arith in
    let member : x.member ≡ l.member = v.0.member_is ∙ sym w.0.member_is in
    subst (λ (n : ℕ). Longer added (cond (l.member == m) l.records (records_for ls m)) (cond (n == m) x.records (records_for xs m))) (sym member)
    (longer_if added (l.member == m) l.records x.records (records_for ls m) (records_for xs m) (longer_one sound added b d l x k w.0 v.0 none.0 (f 0)) (longer_members sound added (k + 1) bs ds ls xs w.1 v.1 none.1 less (λ i. f (suc i)) m))

-- ---- an append

has_within : (k m : ℕ) (bs : List (List ℕ)) (logs : List Log) → AreWholeLogs k bs logs → has_log logs m ≡ true → (k ≤ m) × (m < k + length bs)
has_within k m [] [] w h = absurd cc
has_within k m [] (l ∷ ls) w h = absurd w
has_within k m (b ∷ bs) [] w h = absurd w
has_within k m (b ∷ bs) (l ∷ ls) w h = elim (or_cases (l.member == m) (has_log ls m) h) [
  | inl e ↦ (let own = eqb-true l.member m e in let is = w.0.member_is in (omega (arith, own, is), omega (arith, own, is)))
  | inr e ↦ (let p = has_within (k + 1) m bs ls w.1 e in let low = p.0 in let high = p.1 in (omega (arith, low), omega (arith, high)))
]

stays_so : (added : List LogRecord) (b : List ℕ) → Follows added b b
stays_so added b = record { front = []; left = added; rest = []; split = refl; allowed = tt; are = sym (append-nil b); torn = inl refl }

follows_at : (added : List LogRecord) (n : ℕ) (logs : List (List ℕ)) (at : ℕ) → AllByRecursion IsAllowed added → at < length logs → (i : ℕ)
    → Follows added (get_or logs i []) (get_or (set logs at (get_or logs at [] ++ take n (log_bytes added))) i [])
follows_at added n logs at allowed within i = elim (cases_Bool (i == at)) [
  | inl e ↦ (
      let same : at ≡ i = sym (eqb-true i at e) in
      let t = torn_at added n allowed in
      subst (λ (k : ℕ). Follows added (get_or logs k []) (get_or (set logs at (get_or logs at [] ++ take n (log_bytes added))) k [])) same
      (record {
        front = t.front;
        left = t.left;
        rest = t.rest;
        split = t.split;
        allowed = t.allowed;
        are = get_or-set_same logs at (get_or logs at [] ++ take n (log_bytes added)) [] within ∙ ap (λ (b : List ℕ). get_or logs at [] ++ b) t.bytes;
        torn = t.torn;
      }))
  | inr e ↦ subst (Follows added (get_or logs i [])) (sym (get_or-set_other logs at i (get_or logs at [] ++ take n (log_bytes added)) [] (eqb-false i at e))) (stays_so added (get_or logs i []))
]

-- ---- what the logs have grown by

course_more : (c : Course) (t : ℕ) (xs ys : List LogRecord) → course_in c t (xs ++ ys) ≡ course_in (course_in c t xs) t ys
course_more c t [] ys = refl
course_more c t (x ∷ xs) ys = course_more (cond (x.tran == t) (after_body c x x.body) c) t xs ys

ended_more : (c : Course) (t : ℕ) (rs : List LogRecord) → c.is_ended ≡ true → (course_in c t rs).is_ended ≡ true
ended_more c t [] h = h
ended_more c t (r ∷ rs) h = ended_more (cond (r.tran == t) (after_body c r r.body) c) t rs (cond_both (r.tran == t) (after_body c r r.body) c (λ (d : Course). d.is_ended ≡ true) (λ own. body_ends c r r.body h) (λ other. h))

module _ (ts : ToEnd) (logs others : List Log) (added : List LogRecord) (longer : (m : ℕ) → Longer added (records_for logs m) (records_for others m)) where
  ended_on : HaveEnded ts logs → HaveEnded ts others
  ended_on h m t is =
      let x = longer m in
      let more : course_of (records_for others m) t ≡ course_in (course_of (records_for logs m) t) t x.front = ap (λ (rs : List LogRecord). course_of rs t) x.are ∙ course_more new_course t (records_for logs m) x.front in
      ap (λ (c : Course). c.is_ended) more ∙ ended_more (course_of (records_for logs m) t) t x.front (h m t is)

  until_on : (front left more : List LogRecord) → added ≡ front ++ left → (has_checkpoint added ≡ false) ⊎ HaveEnded ts logs → (has_checkpoint more ≡ false) ⊎ HaveEnded ts logs → (has_checkpoint (more ++ front) ≡ false) ⊎ HaveEnded ts others
  until_on front left more split plain (inr e) = inr (ended_on e)
  until_on front left more split (inr e) (inl none) = inr (ended_on e)
  until_on front left more split (inl p) (inl none) =
      let parts = or_parts (has_checkpoint front) (has_checkpoint left) (sym (ap has_checkpoint split ∙ list_any-append (λ (r : LogRecord). is_checkpoint r.body) front left) ∙ p) in
      inl (list_any-append (λ (r : LogRecord). is_checkpoint r.body) more front ∙ or_from (has_checkpoint more) (has_checkpoint front) none parts.0)

  grows_on : (has_checkpoint added ≡ false) ⊎ HaveEnded ts logs → ((m : ℕ) → GrowsTo ts logs m) → (m : ℕ) → GrowsTo ts others m
  grows_on plain each m =
      let g = each m in
      let x = longer m in
      record {
        more = g.more ++ x.front;
        are = x.are ∙ ap (λ (rs : List LogRecord). rs ++ x.front) g.are ∙ append_assoc (records_for ts.logs m) g.more x.front;
        until = until_on x.front x.left g.more x.split plain g.until;
      }

never : false ≡ true → ⊥
never e = cc

pub all_ended : (ts : ToEnd) (cs : List Closing) (us : List Undo) (logs : List Log) → EndAll ts cs us logs → IsNothing cs us → HaveEnded ts logs
all_ended ts cs us logs h none m t is = elim (h.each m t is) [
  | inl e ↦ e
  | inr e ↦ absurd (never (subst (λ (xs : List Undo). takes [] xs m t ≡ true) none.1 (subst (λ (xs : List Closing). takes xs us m t ≡ true) none.0 e)))
]

until_of : (ts : ToEnd) (cs : List Closing) (us : List Undo) (logs : List Log) (more : List LogRecord) → EndAll ts cs us logs → (has_checkpoint more ≡ false) ⊎ IsNothing cs us → (has_checkpoint more ≡ false) ⊎ HaveEnded ts logs
until_of ts cs us logs more h (inl e) = inl e
until_of ts cs us logs more h (inr n) = inr (all_ended ts cs us logs h n)

grows_of : (ts : ToEnd) (cs : List Closing) (us : List Undo) (logs : List Log) → EndAll ts cs us logs → (m : ℕ) → GrowsTo ts logs m
grows_of ts cs us logs h m = let g = h.grown m in record { more = g.more; are = g.are; until = until_of ts cs us logs g.more h g.until }

-- ---- the disk before a call

grown_as : (ts : ToEnd) (cs : List Closing) (us : List Undo) (c : Contents) (logs : List Log) → AreWholeLogs 1 c.logs logs → EndAll ts cs us logs → IsGrown ts c
grown_as ts cs us c logs whole h = record { logs = logs; whole = whole; each = grows_of ts cs us logs h }

pub grown_in : HasGrownBefore
grown_in ts stage.ReadLog p h c logs i = absurd i
grown_in ts (stage.CutTail tail) p h c logs i = grown_as ts p.closings p.undo c logs i.now.sound.whole_logs i.fits.takes
grown_in ts (stage.RedoRead page) p h c logs i = grown_as ts p.closings p.undo c logs i.0.brought.now.sound.whole_logs i.1.fits.takes
grown_in ts (stage.RedoWrite page) p h c logs i = grown_as ts p.closings p.undo c logs i.0.0.brought.now.sound.whole_logs i.1.fits.takes
grown_in ts (stage.CloseAppend member) p h c logs i = grown_as ts (i.due.closing ∷ h.plan.closings) h.plan.undo c logs i.rests.stands.sound.now.sound.whole_logs i.due.owes.ends
grown_in ts (stage.UndoRead page) p h c logs i = grown_as ts [] h.plan.undo c logs i.rests.stands.sound.now.sound.whole_logs i.owes.ends
grown_in ts (stage.UndoAppend member page) p h c logs i = grown_as ts [] (i.due.first ∷ h.plan.undo) c logs i.rests.stands.sound.now.sound.whole_logs i.due.ends
grown_in ts (stage.UndoWrite page) p h c logs i = grown_as ts [] h.plan.undo c logs i.stands.sound.now.sound.whole_logs i.owes.ends
grown_in ts (stage.RenewRead page) p h c logs i = grown_as ts [] h.plan.undo c logs i.rests.stands.sound.now.sound.whole_logs i.nothing.owes.ends
grown_in ts (stage.RenewWrite page) p h c logs i = grown_as ts [] h.plan.undo c logs i.rests.stands.sound.now.sound.whole_logs i.nothing.owes.ends
grown_in ts (stage.EndAppend member) p h c logs i = grown_as ts [] h.plan.undo c logs i.rests.stands.sound.now.sound.whole_logs i.due.rest.owes.ends
grown_in ts stage.End p h c logs i = absurd i

-- ---- behind it, whatever it came to

abbrev with_bytes : Restart → ℕ → Contents → ℕ → Contents
with_bytes h member c n = with_log c member (log_of c.logs member ++ take n (log_bytes h.added))

-- what is appended has no Checkpoint, or all have ended
grown_append : ReadsSound → (ts : ToEnd) (h : Restart) (member : ℕ) (c : Contents) (logs : List Log) (n : ℕ) → AreWholeLogs 1 c.logs logs → HaveNoTails logs → has_log logs member ≡ true → AllByRecursion IsAllowed h.added → ((m : ℕ) → GrowsTo ts logs m)
    → (has_checkpoint h.added ≡ false) ⊎ HaveEnded ts logs → IsLeftSound (with_bytes h member c n) → IsGrown ts (with_bytes h member c n)
grown_append sound ts h member c logs n whole none has allowed each plain left =
    let d = with_bytes h member c n in
    let at = member - 1 in
    let p = has_within 1 member c.logs logs whole has in
    let within : at < length c.logs = let low = p.0 in let high = p.1 in omega (arith, low, high) in
    let as_many : length c.logs ≡ length d.logs = sym (length-set c.logs at (log_of c.logs member ++ take n (log_bytes h.added))) in
    let longer : (m : ℕ) → Longer h.added (records_for logs m) (records_for left.logs m) =
    longer_members sound h.added 1 c.logs d.logs logs left.logs whole left.now.sound.whole_logs none as_many (follows_at h.added n c.logs at allowed within) in
    record { logs = left.logs; whole = left.now.sound.whole_logs; each = grows_on ts logs left.logs h.added longer plain each }

until_as : (ts : ToEnd) (logs others : List Log) (more : List LogRecord) → ((m : ℕ) → records_for logs m ≡ records_for others m) → (has_checkpoint more ≡ false) ⊎ HaveEnded ts logs → (has_checkpoint more ≡ false) ⊎ HaveEnded ts others
until_as ts logs others more own (inl e) = inl e
until_as ts logs others more own (inr h) = inr (λ m t is. ap (λ (rs : List LogRecord). (course_of rs t).is_ended) (sym (own m)) ∙ h m t is)

grown_cut : CutKeepsWhole → (ts : ToEnd) (tail : Tail) (p : Plan) (h : Restart) (c : Contents) (logs : List Log) → Cuts ts (tail ∷ h.plan.tails) p h c logs → IsGrown ts (with_cut tail c)
grown_cut cuts ts tail p h c logs i =
    let f = first_tail tail h.plan.tails logs i.tails_are in
    let others = f.front ++ with_tail f.log 0 ∷ f.back in
    let whole = cuts c f.front f.log f.back (subst (AreWholeLogs 1 c.logs) f.logs_are i.now.sound.whole_logs) in
    let own : (m : ℕ) → records_for logs m ≡ records_for others m = subst (λ (ls : List Log). (m : ℕ) → records_for ls m ≡ records_for others m) (sym f.logs_are) (cut_alike f.front f.log f.back).own in
    let each = grows_of ts p.closings p.undo logs i.fits.takes in
    subst (λ (t : Tail). IsGrown ts (with_cut t c)) (sym f.tail_is) (record {
      logs = others;
      whole = whole;
      each = λ m. record { more = (each m).more; are = sym (own m) ∙ (each m).are; until = until_as ts logs others (each m).more own (each m).until };
    })

module _ (w v : Drive) (made : Result Reply DiskError) (c : Contents) (is : w.contents ≡ Some c) (P : Contents → Type 0) (here : P c) where
  abbrev Left : Type 0
  Left = Becomes (Some c) v.contents (λ _ d. P d)

  page_left : (id : PageId) (page : List ℕ) → ReadsPage id page w made v → Left
  page_left id page a = left_by c made P is a here (λ r d e. subst P (sym e.1) here) (λ d e. subst P (sym e) here)

  written_left : (id : PageId) (page : List ℕ) → WritesPage id page w made v → P (with_page c id page) → Left
  written_left id page a wrote = left_by c made P is a here (λ r d e. subst P (sym e.1) wrote) (λ d e. elim e [ inl same ↦ subst P (sym same) here | inr done ↦ subst P (sym done) wrote ])

  cut_left : (tail : Tail) → CutsLog tail.member tail.length w made v → P (with_cut tail c) → Left
  cut_left tail a cut = left_by c made P is a here (λ r d e. subst P (sym e.1) cut) (λ d e. elim e [ inl same ↦ subst P (sym same) here | inr done ↦ subst P (sym done) cut ])

  append_left : (h : Restart) (member : ℕ) → Appends member (log_bytes h.added) w made v → ((n : ℕ) → P (with_bytes h member c n)) → Left
  append_left h member a stops =
      let all : take (length (log_bytes h.added)) (log_bytes h.added) ≡ log_bytes h.added = take_all (length (log_bytes h.added)) (log_bytes h.added) (omega arith) in
      let whole : P (with_log c member (log_of c.logs member ++ log_bytes h.added)) = subst (λ (bs : List ℕ). P (with_log c member (log_of c.logs member ++ bs))) all (stops (length (log_bytes h.added))) in
      left_by c made P is a here (λ r d e. subst P (sym e.1) whole) (λ d e. subst P (sym e.2) (stops e.0))

-- a page that is written leaves the logs
page_grown : (ts : ToEnd) (c : Contents) (id : PageId) (page : List ℕ) → IsGrown ts c → IsGrown ts (with_page c id page)
page_grown ts c id page g = record { logs = g.logs; whole = g.whole; each = g.each }

undoing_plain : (u : Undo) (n : ℕ) → has_checkpoint (undoing u n) ≡ false
undoing_plain u n = cond_both u.is_last (ended n u.tran ∷ []) [] (λ (rs : List LogRecord). has_checkpoint rs ≡ false) (λ _. refl) (λ _. refl)

-- what is proved of logs and of cuts
pub record GrowLaws : Type 0 where
  pub reads : ReadsSound
  pub cuts : CutKeepsWhole

grows_in : GrowLaws → (ts : ToEnd) (w v : Drive) (h x : Restart) (made : Result Reply DiskError) (p : Plan) (c : Contents) (logs : List Log) → w.contents ≡ Some c → (st : Stage) → SoundIn ts st p h c logs → Calls h (call_in st h) w made v x
    → Becomes (Some c) v.contents (λ _ d. IsLeftSound d → IsGrown ts d)
unfolding grown_in grown_as
grows_in l ts w v h x made p c logs is stage.ReadLog i calls = absurd i
grows_in l ts w v h x made p c logs is (stage.CutTail tail) i calls =
    cut_left w v made c is (λ d. IsLeftSound d → IsGrown ts d) (λ _. grown_in ts (stage.CutTail tail) p h c logs i) tail calls.0 (λ _. grown_cut l.cuts ts tail p h c logs i)
grows_in l ts w v h x made p c logs is (stage.RedoRead page) i calls =
    page_left w v made c is (λ d. IsLeftSound d → IsGrown ts d) (λ _. grown_in ts (stage.RedoRead page) p h c logs i) page x.page calls.0
grows_in l ts w v h x made p c logs is (stage.RedoWrite page) i calls =
    let here = grown_in ts (stage.RedoWrite page) p h c logs i in
    written_left w v made c is (λ d. IsLeftSound d → IsGrown ts d) (λ _. here) page h.page calls.0 (λ _. page_grown ts c page h.page here)
grows_in l ts w v h x made p c logs is (stage.CloseAppend member) i calls =
    let here = grown_in ts (stage.CloseAppend member) p h c logs i in
    let has : has_log logs member ≡ true = subst (λ (m : ℕ). has_log logs m ≡ true) (sym i.due.member_is) i.due.can.has in
    append_left w v made c is (λ d. IsLeftSound d → IsGrown ts d) (λ _. here) h member calls.0 (λ n.
    grown_append l.reads ts h member c logs n i.rests.stands.sound.now.sound.whole_logs i.rests.stands.sound.tails has calls.2 here.each (inl (ap has_checkpoint i.due.added_is)))
grows_in l ts w v h x made p c logs is (stage.UndoRead page) i calls =
    page_left w v made c is (λ d. IsLeftSound d → IsGrown ts d) (λ _. grown_in ts (stage.UndoRead page) p h c logs i) page x.page calls.0
grows_in l ts w v h x made p c logs is (stage.UndoAppend member page) i calls =
    let here = grown_in ts (stage.UndoAppend member page) p h c logs i in
    let has : has_log logs member ≡ true = subst (λ (m : ℕ). has_log logs m ≡ true) (sym i.due.member_is) (first_queue logs i.due.first h.plan.undo i.due.queue).has in
    append_left w v made c is (λ d. IsLeftSound d → IsGrown ts d) (λ _. here) h member calls.0 (λ n.
    grown_append l.reads ts h member c logs n i.rests.stands.sound.now.sound.whole_logs i.rests.stands.sound.tails has calls.2 here.each (inl (ap has_checkpoint i.due.added_is ∙ undoing_plain i.due.first h.counter)))
grows_in l ts w v h x made p c logs is (stage.UndoWrite page) i calls =
    let here = grown_in ts (stage.UndoWrite page) p h c logs i in
    written_left w v made c is (λ d. IsLeftSound d → IsGrown ts d) (λ _. here) page h.page calls.0 (λ _. page_grown ts c page h.page here)
grows_in l ts w v h x made p c logs is (stage.RenewRead page) i calls =
    page_left w v made c is (λ d. IsLeftSound d → IsGrown ts d) (λ _. grown_in ts (stage.RenewRead page) p h c logs i) page x.page calls.0
grows_in l ts w v h x made p c logs is (stage.RenewWrite page) i calls =
    let here = grown_in ts (stage.RenewWrite page) p h c logs i in
    written_left w v made c is (λ d. IsLeftSound d → IsGrown ts d) (λ _. here) page h.page calls.0 (λ _. page_grown ts c page h.page here)
grows_in l ts w v h x made p c logs is (stage.EndAppend member) i calls =
    let here = grown_in ts (stage.EndAppend member) p h c logs i in
    append_left w v made c is (λ d. IsLeftSound d → IsGrown ts d) (λ _. here) h member calls.0 (λ n.
    grown_append l.reads ts h member c logs n i.rests.stands.sound.now.sound.whole_logs i.rests.stands.sound.tails i.has calls.2 here.each
    (inr (all_ended ts [] h.plan.undo logs i.due.rest.owes.ends (refl, i.due.rest.none))))
grows_in l ts w v h x made p c logs is stage.End i calls = absurd i

pub call_grows : GrowLaws → CallGrows
call_grows l ts w v h x made p c logs is i calls = grows_in l ts w v h x made p c logs is h.stage i calls
