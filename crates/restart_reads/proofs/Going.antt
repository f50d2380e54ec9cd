-- The calls by which the logs of a sound disk are read, one after the other.
use Rattle.std.proofs.Common.{◌≡◌, ◌≢◌, ℕ, ◌+◌, ◌-◌, ◌<◌, ◌≤◌, Bool, true, false, List, [], ◌∷◌, ◌++◌, length, take, drop, Option, Some, None, Result, Ok, Err, inl, inr, refl, sym, ap, subst, ◌∙◌, append_assoc, arith, lit<}
use Rattle.std.specs.Prelude.{IfOk, min, nat_lt, nat_le, ◌==◌}
use Rattle.std.proofs.lemmas.Bool.{cond_both, ltb-true, ltb-false, leb-true, eqb-true}
use Rattle.std.proofs.lemmas.List.{length-append, length-drop}
use Rattle.ds_base.specs.declared.fault.NoMemory.{NoMemory}
use Rattle.ds_disk.specs.Contents.{Contents, Becomes, log_of}
use Rattle.ds_disk.specs.declared.disk.DiskError.{DiskError}
use Rattle.ds_disk.specs.declared.disk.DiskError.TheVariants as failures
use Rattle.log_record.specs.declared.log.Log.{Log}
use Rattle.log_head.specs.Laws.{PartsGoOn}
use Rattle.log_reader.specs.declared.calls.LogReply.{LogReply}
use Rattle.log_reader.specs.declared.calls.LogReply.TheVariants as told
use Rattle.log_reader.specs.declared.calls.LogRead.{LogRead}
use Rattle.log_reader.specs.declared.calls.LogRead.TheVariants as read
use Rattle.log_reader.specs.Held.{HeldState, grown}
use Rattle.log_reader.specs.Keeping.{AreBytes, IsOf, IsNoted, NothingIsOf, KeepingIsOf, GrownIsOf, NothingIsNoted, KeepingIsNoted, GrownIsNoted}
use Rattle.log_reader.specs.Readers.{ReaderState, IsNew, IsRead, block_size, call_by, after_length, after_count, after_reply, is_long, is_whole}
use Rattle.log_trans.specs.declared.damage.Damaged.{Damaged}
use Rattle.restart_plan.specs.Renewal.{asks_behind, asks_renewal, must_renew}
use Rattle.group_restart.specs.declared.calls.State.{State}
use Rattle.group_restart.specs.declared.calls.State.TheVariants as state
use Rattle.group_restart.specs.declared.reply.Reply.{Reply}
use Rattle.group_restart.specs.declared.reply.Reply.TheVariants as reply
use Rattle.group_restart.specs.declared.stage.Stage.{Stage}
use Rattle.group_restart.specs.declared.stage.Stage.TheVariants as stage
use Rattle.group_restart.specs.Calls.{log_call, call_in, call_of}
use Rattle.group_restart.specs.Disk.{Drive, Calls, HasBytes, TellsLength, TellsBlock, with_reader_block}
use Rattle.group_restart.specs.Machine.{Restart}
use Rattle.group_restart.specs.Course.{Next, IsBegun, stays, with_reader, with_log, planned, take_logs, GoesToNext, TakesWhole, TakesRead, TakesLog, TakesTold, TakesReply}
use Rattle.group_restart.specs.Steps.{WantsMemory, Takes}
use Rattle.disk_restart.proofs.Told.{answered}
use Rattle.sound_disk.specs.Laws.{AreRead}
use Rattle.sound_disk.specs.Sound.{IsSoundWith}
use Rattle.sound_disk.specs.Whole_logs.{AreWholeLogs}
use Rattle.sound_reads.specs.Reads.{IsReadOf, AreReadOf, IsKept}
use Rattle.sound_reads.specs.Laws.{FindsNoDamage, NothingIsKept, LengthIsKept, GrownIsKept, LastIsRead, ReadAsks, AddedAsks}
use Rattle.restart_reads.specs.Reading.{IsBeingRead, ReadsNext, ReadingLeads, ReadingBegins, ReadingGoes}
use Rattle.restart_reads.proofs.Logs.{as_many, IsAt, log_at, one_more}
use Rattle.restart_reads.proofs.Bad_fields.{ReadAgain, not_bad}

-- what is proved of reading
pub record ReadingLaws : Type 0 where
  pub again : ReadAgain
  pub goes_on : PartsGoOn
  pub parts : AreRead
  pub nothing : NothingIsOf
  pub keeping : KeepingIsOf
  pub grown : GrownIsOf
  pub nothing_noted : NothingIsNoted
  pub keeping_noted : KeepingIsNoted
  pub grown_noted : GrownIsNoted
  pub nothing_kept : NothingIsKept
  pub length_kept : LengthIsKept
  pub grown_kept : GrownIsKept
  pub last : LastIsRead
  pub asks : ReadAsks
  pub added : AddedAsks
  pub undamaged : FindsNoDamage

-- ---- one log

some_none : {X : Type 0} (x : X) → Some x ≡ None → ⊥
some_none x e = cc

same_some : (m n : ℕ) → Some m ≡ Some n → m ≡ n
same_some m n e = cc

new_read : ReadingLaws → (bytes : List ℕ) (member : ℕ) (r : ReaderState) → IsNew member r → IsBeingRead bytes r
new_read laws bytes member r is = record {
  of = subst (IsOf bytes) (sym is.nothing) (laws.nothing bytes false);
  kept = subst IsKept (sym is.nothing) (laws.nothing_kept false);
  noted = subst (IsNoted bytes) (sym is.nothing) (laws.nothing_noted bytes false);
  told = λ long e. absurd (some_none long (sym e ∙ is.length_unknown));
  fresh = λ e. is.nothing;
}

length_read : ReadingLaws → (bytes : List ℕ) (r : ReaderState) (long : ℕ) → IsBeingRead bytes r → r.length_told ≡ None → long ≡ length bytes → IsBeingRead bytes (after_length r long)
length_read laws bytes r long h none is = record {
  of = laws.keeping bytes r.held (nat_le long block_size) h.of;
  kept = laws.length_kept r.held (nat_le long block_size) h.kept (ap (λ (x : HeldState). x.start) (h.fresh none));
  noted = laws.keeping_noted bytes r.held (nat_le long block_size) h.noted;
  told = λ n e. sym (same_some long n e) ∙ is;
  fresh = λ e. absurd (some_none long e);
}

least : (n size : ℕ) → n ≤ size → min n size ≡ n
least n size few = omega arith

bounded : (n left size rest : ℕ) → n ≡ min (min left size) rest → (n ≤ size) × (n ≤ rest)
bounded n left size rest e = (omega arith, omega arith)

-- none where none is left
all_told : (k whole n size : ℕ) → k ≤ whole → 0 < size → n ≡ min (min (whole - k) size) (whole - k) → n ≡ 0 → k ≡ whole
all_told k whole n size le is count none = omega arith

count_read : ReadingLaws → (bytes : List ℕ) (r : ReaderState) (n : ℕ) → IsBeingRead bytes r → r.length_told ≡ Some (length bytes) → AreBytes r.block → n ≡ min (min (length bytes - r.held.end) block_size) (length (drop r.held.end bytes))
    → take n r.block ≡ take n (drop r.held.end bytes) → IsBeingRead bytes (after_count r n)
count_read laws bytes r n h long are count same =
    let le = h.of.within in
    let rest : length (drop r.held.end bytes) ≡ length bytes - r.held.end = length-drop r.held.end bytes in
    let few = bounded n (length bytes - r.held.end) block_size (length (drop r.held.end bytes)) count in
    let left = few.1 in
    let ended : ReaderState = record { member = r.member; length_told = Some r.held.end; held = r.held; block = r.block } in
    let more : ReaderState = record { member = r.member; length_told = r.length_told; held = grown r.held (take (min n block_size) r.block); block = r.block } in
    let size : n ≡ min n block_size = sym (least n block_size few.0) in
    let within : r.held.end + n ≤ length bytes = omega (arith, left, rest, le) in
    cond_both (n == 0) ended more (IsBeingRead bytes)
    (λ e. record {
      of = h.of;
      kept = h.kept;
      noted = h.noted;
      told = λ m is. sym (same_some r.held.end m is) ∙ all_told r.held.end (length bytes) n block_size le (lit< tt) (count ∙ ap (min (min (length bytes - r.held.end) block_size)) rest) (eqb-true n 0 e);
      fresh = λ is. absurd (some_none r.held.end is);
    })
    (λ e. record {
      of = subst (λ (k : ℕ). IsOf bytes (grown r.held (take k r.block))) size (laws.grown bytes r.held r.block n h.of are within same);
      kept = subst (λ (k : ℕ). IsKept (grown r.held (take k r.block))) size (laws.grown_kept bytes r.held r.block n h.of h.kept are within same);
      noted = subst (λ (k : ℕ). IsNoted bytes (grown r.held (take k r.block))) size (laws.grown_noted bytes r.held r.block n h.of h.noted are within same);
      told = h.told;
      fresh = λ is. absurd (some_none (length bytes) (sym long ∙ is));
    })

long_told : (o : Option ℕ) (n : ℕ) (bytes : List ℕ) → ((long : ℕ) → o ≡ Some long → long ≡ length bytes) → is_long n o ≡ true → length bytes ≤ n
long_told None n bytes is e = absurd cc
long_told (Some long) n bytes is e = let same = is long refl in let le = leb-true long n e in omega (arith, same, le)

whole_read : (bytes : List ℕ) (r : ReaderState) → IsBeingRead bytes r → is_whole r ≡ true → length bytes ≤ r.held.end
whole_read bytes r h e = long_told r.length_told r.held.end bytes h.told e

-- ---- all logs in turn

-- the next log behind the one that is being read
next_at : (bytes : List (List ℕ)) (logs front : List Log) (log : Log) (back : List Log) → AreWholeLogs 1 bytes logs → logs ≡ front ++ log ∷ back → IsAt bytes front log
next_at bytes logs front log back whole are = log_at bytes front log back (subst (AreWholeLogs 1 bytes) are whole)

none_left : (front : List Log) (log : Log) (back : List Log) (n : ℕ) → length (front ++ log ∷ back) ≡ 32 → n ≡ length front + 1 → 32 ≤ n → back ≡ []
none_left front log [] n all is high = refl
none_left front log (x ∷ xs) n all is high = absurd (let both = length-append front (log ∷ x ∷ xs) in let never : ⊥ = omega (arith, both, all, is, high) in never)

member_after : (r : ReaderState) (it : LogReply) → (after_reply r it).member ≡ r.member
member_after r (told.Length long) = refl
member_after r (told.Count n) =
    let ended : ReaderState = record { member = r.member; length_told = Some r.held.end; held = r.held; block = r.block } in
    let more : ReaderState = record { member = r.member; length_told = r.length_told; held = grown r.held (take (min n block_size) r.block); block = r.block } in
    cond_both (n == 0) ended more (λ (z : ReaderState). z.member ≡ r.member) (λ _. refl) (λ _. refl)

module _ (laws : ReadingLaws) (c : Contents) (logs : List Log) (sound : IsSoundWith c logs) (all : length c.logs ≡ 32) where
  count : (front : List Log) (log : Log) (back : List Log) → logs ≡ front ++ log ∷ back → length (front ++ log ∷ back) ≡ 32
  count front log back are = ap (λ (ls : List Log). length ls) (sym are) ∙ sym (as_many 1 c.logs logs sound.whole_logs) ∙ all

  -- the log of the next member is being read
  next_reads : (h k : Restart) (front : List Log) (log : Log) (back : List Log) (member : ℕ) → h.stage ≡ stage.ReadLog → logs ≡ front ++ log ∷ back → AreReadOf front h.logs → h.renews ≡ must_renew front → member ≡ length front + 1
      → IsNew member k.reader → k ≡ with_reader h k.reader → ReadsNext c logs k
  next_reads h k front log back member st are its asks is new same =
      let place = (next_at c.logs logs front log back sound.whole_logs are).member_is in
      let number = new.member_is in
      record {
        stage_is = ap (λ (x : Restart). x.stage) same ∙ st;
        front = front;
        log = log;
        back = back;
        logs_are = are;
        are_read = subst (AreReadOf front) (sym (ap (λ (x : Restart). x.logs) same)) its;
        renews = ap (λ (x : Restart). x.renews) same ∙ asks;
        member_is = omega (arith, number, is, place);
        reading = new_read laws (log_of c.logs log.member) member k.reader new;
      }

  -- there is one behind the log that was read
  goes_before : (h k : Restart) (front : List Log) (log : Log) (back : List Log) → h.stage ≡ stage.ReadLog → logs ≡ front ++ log ∷ back → AreReadOf (front ++ log ∷ []) h.logs → h.renews ≡ must_renew (front ++ log ∷ []) → h.reader.member ≡ length front + 1
      → nat_lt h.reader.member 32 ≡ true → IsNew (h.reader.member + 1) k.reader → k ≡ with_reader h k.reader → ReadsNext c logs k
  goes_before h k front log [] st are its asks is before new same =
      let lt = ltb-true h.reader.member 32 before in
      let size = length-append front (log ∷ []) in
      let full = count front log [] are in
      absurd (let never : ⊥ = omega (arith, lt, size, full, is) in never)
  goes_before h k front log (x ∷ xs) st are its asks is before new same =
      let split : logs ≡ (front ++ log ∷ []) ++ x ∷ xs = are ∙ sym (append_assoc front (log ∷ []) (x ∷ xs)) in
      let size = length-append front (log ∷ []) in
      next_reads h k (front ++ log ∷ []) x xs (h.reader.member + 1) st split its asks (omega (arith, size, is)) new same

  goes_behind : (h k : Restart) (front : List Log) (log : Log) (back : List Log) (s : State) → h.stage ≡ stage.ReadLog → logs ≡ front ++ log ∷ back → AreReadOf (front ++ log ∷ []) h.logs → h.renews ≡ must_renew (front ++ log ∷ []) → h.reader.member ≡ length front + 1
      → (is_before : Bool) → nat_lt h.reader.member 32 ≡ is_before → GoesToNext is_before h s k → ReadingLeads c logs s k
  unfolding take_logs
  goes_behind h k front log back s st are its asks is true before goes = inl (goes.0, goes_before h k front log back st are its asks is before goes.1 goes.2)
  goes_behind h k front log back s st are its asks is false last goes =
      let le = ltb-false h.reader.member 32 last in
      let none : back ≡ [] = none_left front log back h.reader.member (count front log back are) is le in
      let whole : front ++ log ∷ [] ≡ logs = sym (are ∙ ap (λ (ls : List Log). front ++ log ∷ ls) none) in
      let every : AreReadOf logs h.logs = subst (λ (ls : List Log). AreReadOf ls h.logs) whole its in
      inr (record {
        behind = h;
        are_read = every;
        renews = asks ∙ ap (λ (ls : List Log). must_renew ls) whole;
        goes = sym (ap (λ (o : Option Damaged). planned h o) (laws.undamaged c logs h.logs sound every)) ∙ goes;
      })

  -- what was found of the log
  found_leads : (h k : Restart) (s : State) (found : LogRead) → ReadsNext c logs h → IsRead h.reader found → TakesRead h found s k → ReadingLeads c logs s k
  unfolding TakesWhole
  found_leads h k s read.More reads its takes =
      let same : stays h ≡ (k, s) = takes in
      inl (sym (ap (λ (n : Next). n.1) same), subst (ReadsNext c logs) (ap (λ (n : Next). n.0) same) reads)
  found_leads h k s (read.Bad at) reads its takes =
      let place = next_at c.logs logs reads.front reads.log reads.back sound.whole_logs reads.logs_are in
      let bytes = log_of c.logs reads.log.member in
      absurd (not_bad laws.again laws.goes_on laws.parts reads.log.member bytes reads.log h.reader at place.whole reads.reading.of (whole_read bytes h.reader reads.reading its.0) its.1)
  found_leads h k s (read.Whole log) reads its takes =
      let place = next_at c.logs logs reads.front reads.log reads.back sound.whole_logs reads.logs_are in
      let bytes = log_of c.logs reads.log.member in
      let every : length bytes ≤ h.reader.held.end = whole_read bytes h.reader reads.reading its.0 in
      let named : log.member ≡ reads.log.member = its.1 ∙ reads.member_is in
      let one : IsReadOf reads.log log = laws.last reads.log.member bytes reads.log h.reader log place.whole reads.reading.of reads.reading.kept every its.2 named in
      let asks : asks_behind h.reader.held.has_old log ≡ asks_renewal reads.log =
      laws.asks reads.log.member bytes reads.log h.reader log place.whole reads.reading.of reads.reading.kept reads.reading.noted every its.2 named in
      let number = place.member_is in
      let member = reads.member_is in
      goes_behind (with_log h log) k reads.front reads.log reads.back s reads.stage_is reads.logs_are (one_more reads.front h.logs reads.log log reads.are_read one) (laws.added h reads.front reads.log log reads.renews asks) (omega (arith, number, member)) (nat_lt h.reader.member 32) refl takes

  -- an answer
  told_leads : (h k : Restart) (it : LogReply) (s : State) (reads : ReadsNext c logs h) → (AreBytes h.reader.block → IsBeingRead (log_of c.logs reads.log.member) (after_reply h.reader it)) → TakesReply h (reply.Log it) s k → ReadingLeads c logs s k
  unfolding TakesReply TakesTold
  told_leads h k it s reads reading takes =
      let t : TakesLog h it s k = subst (λ (st : Stage). TakesTold st h it s k) reads.stage_is takes in
      let next : ReadsNext c logs (with_reader h (after_reply h.reader it)) = record {
        stage_is = reads.stage_is;
        front = reads.front;
        log = reads.log;
        back = reads.back;
        logs_are = reads.logs_are;
        are_read = reads.are_read;
        renews = reads.renews;
        member_is = member_after h.reader it ∙ reads.member_is;
        reading = reading t.bytes;
      } in
      found_leads (with_reader h (after_reply h.reader it)) k s t.found next t.is_read t.takes

-- ---- the calls

module _ (laws : ReadingLaws) (c : Contents) (logs : List Log) (sound : IsSoundWith c logs) (all : length c.logs ≡ 32) (h k x : Restart) (w v : Drive) (r : Reply) (s : State) (is : w.contents ≡ Some c) (reads : ReadsNext c logs h) where
  abbrev Leads : Contents → Type 0
  Leads d = (d ≡ c) × ReadingLeads c logs s k

  its_log : log_of c.logs h.reader.member ≡ log_of c.logs reads.log.member
  its_log = ap (log_of c.logs) reads.member_is

  length_leads : h.reader.length_told ≡ None → TellsLength h.reader.member w (Ok r) v → x ≡ h → TakesReply x r s k → Becomes (Some c) v.contents (λ _ d. Leads d)
  length_leads none a same takes = answered c r Leads is a (λ d e.
      let long : ℕ = length (log_of c.logs h.reader.member) in
      let t : TakesReply h (reply.Log (told.Length long)) s k = subst (λ (z : Restart). TakesReply z (reply.Log (told.Length long)) s k) same (subst (λ (q : Reply). TakesReply x q s k) e.1 takes) in
      (e.0, told_leads laws c logs sound all h k (told.Length long) s reads (λ _. length_read laws (log_of c.logs reads.log.member) h.reader long reads.reading none (ap (λ (b : List ℕ). length b) its_log)) t))

  block_leads : (long : ℕ) → h.reader.length_told ≡ Some long → TellsBlock h.reader.member h.reader.held.end (min (long - h.reader.held.end) block_size) x.reader.block w (Ok r) v → x ≡ with_reader_block h x.reader.block → TakesReply x r s k
      → Becomes (Some c) v.contents (λ _ d. Leads d)
  block_leads long is_told a same takes = answered c r Leads is a (λ d e.
      let front : ℕ = h.reader.held.end in
      let bytes : List ℕ = log_of c.logs reads.log.member in
      let whole : long ≡ length bytes = reads.reading.told long is_told in
      let b : HasBytes (min (length bytes - front) block_size) (drop front bytes) x.reader.block r =
      subst (λ (n : ℕ). HasBytes (min (n - front) block_size) (drop front bytes) x.reader.block r) whole (subst (λ (z : List ℕ). HasBytes (min (long - front) block_size) (drop front z) x.reader.block r) its_log e.1) in
      let n : ℕ = min (min (length bytes - front) block_size) (length (drop front bytes)) in
      let now : Restart = with_reader_block h x.reader.block in
      let t : TakesReply now (reply.Log (told.Count n)) s k = subst (λ (z : Restart). TakesReply z (reply.Log (told.Count n)) s k) same (subst (λ (q : Reply). TakesReply x q s k) b.0 takes) in
      let before : IsBeingRead bytes now.reader = record { of = reads.reading.of; kept = reads.reading.kept; noted = reads.reading.noted; told = reads.reading.told; fresh = reads.reading.fresh } in
      let next : ReadsNext c logs now = record { stage_is = reads.stage_is; front = reads.front; log = reads.log; back = reads.back; logs_are = reads.logs_are; are_read = reads.are_read; renews = reads.renews; member_is = reads.member_is; reading = before } in
      (e.0, told_leads laws c logs sound all now k (told.Count n) s next (λ are. count_read laws bytes now.reader n before (is_told ∙ ap (λ (m : ℕ). Some m) whole) are refl b.1) t))

  asks_leads : (t : Option ℕ) → h.reader.length_told ≡ t → Calls h (log_call h.reader.member (call_by h.reader.held.end t)) w (Ok r) v x → TakesReply x r s k → Becomes (Some c) v.contents (λ _ d. Leads d)
  asks_leads None is_told calls takes = length_leads is_told calls.0 calls.1 takes
  asks_leads (Some long) is_told calls takes = block_leads long is_told calls.0 calls.1 takes

made_leads : ReadingLaws → (c : Contents) (logs : List Log) → IsSoundWith c logs → length c.logs ≡ 32 → (h k x : Restart) (w v : Drive) (made : Result Reply DiskError) (result : Result State NoMemory) (s : State) → w.contents ≡ Some c → ReadsNext c logs h → Calls h (call_of h) w made v x
    → Takes x made result k → result ≡ Ok s → s ≢ state.Failed → Becomes (Some c) v.contents (λ _ d. (d ≡ c) × ReadingLeads c logs s k)
made_leads laws c logs sound all h k x w v (Ok r) result s is reads calls takes told unfailed =
    let t : TakesReply x r s k = subst (λ (z : Result State NoMemory). IfOk z (λ (q : State). TakesReply x r q k)) told takes in
    let asked : Calls h (call_in stage.ReadLog h) w (Ok r) v x = subst (λ (st : Stage). Calls h (call_in st h) w (Ok r) v x) reads.stage_is calls in
    asks_leads laws c logs sound all h k x w v r s is reads h.reader.length_told refl asked t
made_leads laws c logs sound all h k x w v (Err failures.Failed) result s is reads calls takes told unfailed =
    let same : Ok s ≡ Ok state.Failed = sym told ∙ takes.0 in
    absurd (unfailed cc)
made_leads laws c logs sound all h k x w v (Err failures.NoMemory) result s is reads calls takes told unfailed =
    absurd (subst WantsMemory told takes.0)

-- ---- the laws

pub reading_goes : ReadingLaws → ReadingGoes
reading_goes laws w v h k result s c logs sound all is reads step told unfailed =
    made_leads laws c logs sound all h k step.after w v step.made result s is reads step.calls step.takes told unfailed

first_reads : ReadingLaws → (c : Contents) (logs whole : List Log) (h : Restart) → IsSoundWith c whole → length c.logs ≡ 32 → IsBegun h → whole ≡ logs → ReadsNext c whole h
first_reads laws c [] whole h sound all is same =
    absurd (let many = as_many 1 c.logs whole sound.whole_logs in let none = ap (λ (ls : List Log). length ls) same in let never : ⊥ = omega (arith, many, none, all) in never)
first_reads laws c (l ∷ ls) whole h sound all is same =
    let place = next_at c.logs whole [] l ls sound.whole_logs same in
    let number = place.member_is in
    let first = is.reader_is.member_is in
    record {
      stage_is = is.stage_is;
      front = [];
      log = l;
      back = ls;
      logs_are = same;
      are_read = subst (AreReadOf []) (sym is.no_logs) tt;
      renews = is.nothing_asked;
      member_is = omega (arith, number, first);
      reading = new_read laws (log_of c.logs l.member) 1 h.reader is.reader_is;
    }

pub reading_begins : ReadingLaws → ReadingBegins
reading_begins laws c logs h sound all is = first_reads laws c logs logs h sound all is refl
