-- The answers while logs are read.
use Rattle.std.proofs.Common.{◌≡◌, ℕ, ◌-◌, Bool, true, false, List, [], ◌∷◌, ◌++◌, length, take, drop, Option, Some, None, Ok, refl, sym, ap, subst, ◌∙◌, arith}
use Rattle.std.specs.Prelude.{min, nat_lt, ◌==◌, ◌||◌}
use Rattle.std.proofs.lemmas.Bool.{cond_both, ltb-true, ltb-false}
use Rattle.std.proofs.lemmas.List.{length_push}
use Rattle.ds_disk.specs.Contents.{Contents, Becomes, log_of}
use Rattle.log_record.specs.declared.log.Log.{Log}
use Rattle.log_reader.specs.declared.calls.LogReply.{LogReply}
use Rattle.log_reader.specs.declared.calls.LogReply.TheVariants as told
use Rattle.log_reader.specs.declared.calls.LogRead.{LogRead}
use Rattle.log_reader.specs.declared.calls.LogRead.TheVariants as read
use Rattle.log_reader.specs.Held.{grown}
use Rattle.log_reader.specs.Keeping.{AreBytes}
use Rattle.log_reader.specs.Readers.{ReaderState, IsRead, block_size, call_by, after_count, after_reply}
use Rattle.restart_plan.specs.Renewal.{asks_behind}
use Rattle.group_restart.specs.declared.calls.State.{State}
use Rattle.group_restart.specs.declared.reply.Reply.{Reply}
use Rattle.group_restart.specs.declared.reply.Reply.TheVariants as reply
use Rattle.group_restart.specs.declared.stage.Stage.{Stage}
use Rattle.group_restart.specs.declared.stage.Stage.TheVariants as stage
use Rattle.group_restart.specs.Calls.{log_call}
use Rattle.group_restart.specs.Disk.{Drive, Calls, HasBytes, TellsLength as TellsLong, TellsBlock, with_reader_block}
use Rattle.group_restart.specs.Machine.{Restart}
use Rattle.group_restart.specs.Course.{with_reader, GoesToNext, TakesWhole, TakesRead, TakesLog, TakesTold, TakesReply}
use Rattle.disk_restart.proofs.Told.{answered}
use Rattle.disk_restart.proofs.Whole.{ReadsSound}
use Rattle.disk_restart.proofs.Cutting.{Logs, log_at, AreFrom}
use Rattle.disk_restart.proofs.Reading.{TellsLength, ReaderLaws, IsReading, count_reading, length_reading, Reads, more_read, next_reads}
use Rattle.disk_restart.proofs.Stages.{IsReadingLogs, InStage, IsGood, Runs, Good}
use Rattle.disk_restart.proofs.Going.{take_logs_good}

reads_on : (o : Logs) (k : Restart) → k.stage ≡ stage.ReadLog → IsReadingLogs o o k.reader k.logs → Runs o k o
reads_on o k is reads = subst (λ (st : Stage). InStage st o k o) (sym is) reads

-- ---- the log of a member is read whole

abbrev with_logs : Restart → List Log → Bool → Restart
with_logs h logs renews = record h { logs = logs; renews = renews }

whole_goes : ReadsSound → ReaderLaws → (o : Logs) (h k : Restart) (logs : List Log) (log : Log) (renews : Bool) (s : State) → length o ≡ 32 → h.stage ≡ stage.ReadLog → Reads o h.reader logs → AreFrom 0 (logs ++ log ∷ []) o
    → (is_before : Bool) → nat_lt h.reader.member 32 ≡ is_before → GoesToNext is_before (with_logs h (logs ++ log ∷ []) renews) s k → IsGood s o k o
whole_goes sound laws o h k logs log renews s all is reads are true before goes =
    let next : IsReadingLogs o o k.reader (logs ++ log ∷ []) = record { same = refl; all = all; reads = next_reads laws o h.reader k.reader logs log reads are (ltb-true h.reader.member 32 before) goes.1 } in
    subst (λ (z : State). IsGood z o k o) (sym goes.0) (subst (λ (z : Restart). Runs o z o) (sym goes.2) (reads_on o (with_reader (with_logs h (logs ++ log ∷ []) renews) k.reader) is next))
whole_goes sound laws o h k logs log renews s all is reads are false last goes =
    let each : length o ≡ length (logs ++ log ∷ []) = omega (arith, all, reads.member_is, reads.few, ltb-false h.reader.member 32 last, length_push logs log) in
    subst (Good o o) goes (take_logs_good sound o (with_logs h (logs ++ log ∷ []) renews) are each)

found_goes : ReadsSound → ReaderLaws → (o : Logs) (h k : Restart) (s : State) (found : LogRead) → length o ≡ 32 → h.stage ≡ stage.ReadLog → Reads o h.reader h.logs → IsRead h.reader found → TakesRead h found s k → IsGood s o k o
unfolding TakesWhole
found_goes sound laws o h k s read.More all is reads its takes = subst (Good o o) takes (reads_on o h is (record { same = refl; all = all; reads = reads }))
found_goes sound laws o h k s (read.Bad at) all is reads its takes = subst (Good o o) takes tt
found_goes sound laws o h k s (read.Whole log) all is reads its takes =
    whole_goes sound laws o h k h.logs log (h.renews || asks_behind h.reader.held.has_old log) s all is reads (more_read laws o h.reader h.logs log reads its.0 its.1 its.2) (nat_lt h.reader.member 32) refl takes

-- ---- an answer

member_after : (r : ReaderState) (it : LogReply) → (after_reply r it).member ≡ r.member
member_after r (told.Length long) = refl
member_after r (told.Count n) =
    let ended : ReaderState = record { member = r.member; length_told = Some r.held.end; held = r.held; block = r.block } in
    let more : ReaderState = record { member = r.member; length_told = r.length_told; held = grown r.held (take (min n block_size) r.block); block = r.block } in
    cond_both (n == 0) ended more (λ (z : ReaderState). z.member ≡ r.member) (λ _. refl) (λ _. refl)

told_goes : ReadsSound → ReaderLaws → (o : Logs) (h k : Restart) (it : LogReply) (s : State) → length o ≡ 32 → h.stage ≡ stage.ReadLog → Reads o h.reader h.logs
    → (AreBytes h.reader.block → IsReading (log_at o (length h.logs)) (after_reply h.reader it)) → TakesReply h (reply.Log it) s k → IsGood s o k o
unfolding TakesReply TakesTold
told_goes sound laws o h k it s all is reads reading takes =
    let t : TakesLog h it s k = subst (λ (st : Stage). TakesTold st h it s k) is takes in
    let next : Reads o (after_reply h.reader it) h.logs = record { member_is = member_after h.reader it ∙ reads.member_is; few = reads.few; are = reads.are; reading = reading t.bytes } in
    found_goes sound laws o (with_reader h (after_reply h.reader it)) k s t.found all is next t.is_read t.takes

its_log : (c : Contents) (o : Logs) (r : ReaderState) (logs : List Log) → c.logs ≡ o → Reads o r logs → log_of c.logs r.member ≡ log_at o (length logs)
its_log c o r logs same reads =
    let place : r.member - 1 ≡ length logs = omega (arith, reads.member_is) in
    ap (λ (ls : Logs). log_of ls r.member) same ∙ ap (log_at o) place

module _ (sound : ReadsSound) (laws : ReaderLaws) (o : Logs) (h k x : Restart) (w v : Drive) (r : Reply) (s : State) (c : Contents) (is : w.contents ≡ Some c) (st : h.stage ≡ stage.ReadLog) (i : IsReadingLogs o c.logs h.reader h.logs) where
  stays : (d : Contents) → d ≡ c → IsGood s o k o → IsGood s o k d.logs
  stays d e runs = subst (IsGood s o k) (sym (ap (λ (z : Contents). z.logs) e ∙ i.same)) runs

  length_goes : TellsLong h.reader.member w (Ok r) v → x ≡ h → TakesReply x r s k → Becomes (Some c) v.contents (λ _ d. IsGood s o k d.logs)
  length_goes a same takes = answered c r (λ d. IsGood s o k d.logs) is a (λ d e.
      let long : Reply = reply.Log (told.Length (length (log_of c.logs h.reader.member))) in
      let its = its_log c o h.reader h.logs i.same i.reads in
      let t : TakesReply h long s k = subst (λ (z : Restart). TakesReply z long s k) same (subst (λ (q : Reply). TakesReply x q s k) e.1 takes) in
      stays d e.0 (told_goes sound laws o h k (told.Length (length (log_of c.logs h.reader.member))) s i.all st i.reads (λ _. length_reading laws (log_at o (length h.logs)) h.reader (length (log_of c.logs h.reader.member)) i.reads.reading (ap (λ (b : List ℕ). length b) its)) t))

  block_goes : (long : ℕ) → h.reader.length_told ≡ Some long → TellsBlock h.reader.member h.reader.held.end (min (long - h.reader.held.end) block_size) x.reader.block w (Ok r) v → x ≡ with_reader_block h x.reader.block → TakesReply x r s k
      → Becomes (Some c) v.contents (λ _ d. IsGood s o k d.logs)
  block_goes long is_long a same takes = answered c r (λ d. IsGood s o k d.logs) is a (λ d e.
      let front = h.reader.held.end in
      let its = its_log c o h.reader h.logs i.same i.reads in
      let bytes = log_at o (length h.logs) in
      let b : HasBytes (min (long - front) block_size) (drop front bytes) x.reader.block r = subst (λ (z : List ℕ). HasBytes (min (long - front) block_size) (drop front z) x.reader.block r) its e.1 in
      let n = min (min (long - front) block_size) (length (drop front bytes)) in
      let now : Restart = with_reader_block h x.reader.block in
      let t : TakesReply now (reply.Log (told.Count n)) s k = subst (λ (z : Restart). TakesReply z (reply.Log (told.Count n)) s k) same (subst (λ (q : Reply). TakesReply x q s k) b.0 takes) in
      let before : IsReading bytes now.reader = record { of = i.reads.reading.of; told = i.reads.reading.told } in
      let whole : long ≡ length bytes = subst (λ (z : Option ℕ). TellsLength z bytes) is_long i.reads.reading.told in
      let reading : AreBytes now.reader.block → IsReading bytes (after_count now.reader n) = λ are. count_reading laws bytes now.reader long n before are whole refl b.1 in
      let reads : Reads o now.reader now.logs = record { member_is = i.reads.member_is; few = i.reads.few; are = i.reads.are; reading = before } in
      stays d e.0 (told_goes sound laws o now k (told.Count n) s i.all st reads reading t))

  asks_goes : (t : Option ℕ) → h.reader.length_told ≡ t → Calls h (log_call h.reader.member (call_by h.reader.held.end t)) w (Ok r) v x → TakesReply x r s k → Becomes (Some c) v.contents (λ _ d. IsGood s o k d.logs)
  asks_goes None is_told calls takes = length_goes calls.0 calls.1 takes
  asks_goes (Some long) is_told calls takes = block_goes long is_told calls.0 calls.1 takes

  pub reading_goes : Calls h (log_call h.reader.member (call_by h.reader.held.end h.reader.length_told)) w (Ok r) v x → TakesReply x r s k → Becomes (Some c) v.contents (λ _ d. IsGood s o k d.logs)
  reading_goes calls takes = asks_goes h.reader.length_told refl calls takes
