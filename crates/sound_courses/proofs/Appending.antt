-- The logs of a disk behind several records that are appended to one member's log.
use Rattle.std.proofs.Common.{◌≡◌, ℕ, suc, ◌+◌, ◌-◌, ◌<◌, Bool, true, List, [], ◌∷◌, ◌++◌, length, get_or, set, refl, sym, ap, subst, ◌∙◌, arith, append_assoc}
use Rattle.std.specs.Prelude.{◌==◌, ◌||◌}
use Rattle.std.specs.List.{AllByRecursion}
use Rattle.std.proofs.lemmas.List.{append-nil, set-set, set-get_or, get_or-set_same, length-append, length-map}
use Rattle.ds_disk.specs.Contents.{Contents, log_of, with_log}
use Rattle.ds_model.specs.declared.log.LogRecord.{LogRecord}
use Rattle.ds_model.specs.RecordBytes.{record_bytes, log_bytes}
use Rattle.log_record.specs.declared.log.Log.{Log}
use Rattle.restart_plan.specs.Ends.{end_of, ends_of, raised}
use Rattle.group_restart.specs.Records.{checkpoint}
use Rattle.sound_appends.specs.Appends.{Appends, AppendsAll}
use Rattle.sound_appends.specs.Laws.{KeepsWhole, HaveNoTails}
use Rattle.sound_disk.specs.Laws.{with_record}
use Rattle.sound_disk.specs.Whole_logs.{AreWholeLogs}
use Rattle.sound_plans.specs.Courses.{writes_of}
use Rattle.sound_plans.specs.Queues.{has_log, length_for}
use Rattle.sound_plans.proofs.Logs.{at_member}

-- ---- one record

no_tail_at : (front : List Log) (log : Log) (back : List Log) → HaveNoTails (front ++ log ∷ back) → log.tail ≡ 0
no_tail_at [] log back h = h.0
no_tail_at (x ∷ xs) log back h = no_tail_at xs log back h.1

no_tails_with : (front : List Log) (log : Log) (back : List Log) (r : LogRecord) → HaveNoTails (front ++ log ∷ back) → HaveNoTails (front ++ with_record log r ∷ back)
no_tails_with [] log back r h = h
no_tails_with (x ∷ xs) log back r h = (h.0, no_tails_with xs log back r h.1)

-- where the member's log stands among whole logs
record IsPlaced (m : ℕ) (bytes : List (List ℕ)) (front : List Log) (log : Log) : Type 0 where
  member_is : log.member ≡ m + length front
  within : length front < length bytes

placed_in : (m : ℕ) (bytes : List (List ℕ)) (front : List Log) (log : Log) (back : List Log) → AreWholeLogs m bytes (front ++ log ∷ back) → IsPlaced m bytes front log
placed_in m [] [] log back h = absurd h
placed_in m [] (x ∷ xs) log back h = absurd h
placed_in m (b ∷ bs) [] log back h = let is = h.0.member_is in record { member_is = omega (arith, is); within = omega arith }
placed_in m (b ∷ bs) (x ∷ xs) log back h =
    let p = placed_in (m + 1) bs xs log back h.1 in
    let first = p.member_is in
    let second = p.within in
    record { member_is = omega (arith, first); within = omega (arith, second) }

-- ---- where the logs end

end_at : (front : List Log) (log : Log) (back : List Log) → get_or (ends_of (front ++ log ∷ back)) (length front) 0 ≡ log.length
end_at [] log back = refl
end_at (x ∷ xs) log back = end_at xs log back

end_put : (front : List Log) (log other : Log) (back : List Log) → set (ends_of (front ++ log ∷ back)) (length front) other.length ≡ ends_of (front ++ other ∷ back)
end_put [] log other back = refl
end_put (x ∷ xs) log other back = ap (λ (es : List ℕ). x.length ∷ es) (end_put xs log other back)

-- with one record
ends_with : (front : List Log) (log : Log) (back : List Log) (r : LogRecord) (member : ℕ) → member - 1 ≡ length front → raised (ends_of (front ++ log ∷ back)) member (length (record_bytes r)) ≡ ends_of (front ++ with_record log r ∷ back)
ends_with front log back r member is =
    ap (λ (i : ℕ). set (ends_of (front ++ log ∷ back)) i (get_or (ends_of (front ++ log ∷ back)) i 0 + length (record_bytes r))) is
    ∙ ap (λ (n : ℕ). set (ends_of (front ++ log ∷ back)) (length front) (n + length (record_bytes r))) (end_at front log back)
    ∙ end_put front log (with_record log r) back

nothing_more : (n : ℕ) → n + 0 ≡ n
nothing_more n = omega arith

raised_none : (ends : List ℕ) (member : ℕ) → raised ends member 0 ≡ ends
raised_none ends member = ap (set ends (member - 1)) (nothing_more (get_or ends (member - 1) 0)) ∙ set-get_or ends (member - 1) 0

more_bytes : (a b c : ℕ) → a + b + c ≡ a + (b + c)
more_bytes a b c = omega arith

raised_twice : (ends : List ℕ) (member a b : ℕ) → member - 1 < length ends → raised (raised ends member a) member b ≡ raised ends member (a + b)
raised_twice ends member a b within =
    let i = member - 1 in
    let end = get_or ends (member - 1) 0 in
    ap (λ (n : ℕ). set (set ends i (end + a)) i (n + b)) (get_or-set_same ends i (end + a) 0 within)
    ∙ set-set ends i (end + a) (end + a + b)
    ∙ ap (set ends i) (more_bytes end a b)

-- ---- members

member_still : (front : List Log) (log : Log) (back : List Log) (r : LogRecord) (m : ℕ) → has_log (front ++ with_record log r ∷ back) m ≡ has_log (front ++ log ∷ back) m
member_still [] log back r m = refl
member_still (x ∷ xs) log back r m = ap (λ (b : Bool). (x.member == m) || b) (member_still xs log back r m)

-- ---- several records

-- what was put in the place of a log is put in its place again
put_twice : (bytes : List (List ℕ)) (i : ℕ) (xs ys : List ℕ) → i < length bytes → set (set bytes i (get_or bytes i [] ++ xs)) i (get_or (set bytes i (get_or bytes i [] ++ xs)) i [] ++ ys) ≡ set bytes i (get_or bytes i [] ++ (xs ++ ys))
put_twice bytes i xs ys within =
    ap (λ (l : List ℕ). set (set bytes i (get_or bytes i [] ++ xs)) i (l ++ ys)) (get_or-set_same bytes i (get_or bytes i [] ++ xs) [] within)
    ∙ set-set bytes i (get_or bytes i [] ++ xs) ((get_or bytes i [] ++ xs) ++ ys)
    ∙ ap (λ (l : List ℕ). set bytes i l) (append_assoc (get_or bytes i []) xs ys)

put_none : (bytes : List (List ℕ)) (i : ℕ) → set bytes i (get_or bytes i [] ++ []) ≡ bytes
put_none bytes i = ap (set bytes i) (append-nil (get_or bytes i [])) ∙ set-get_or bytes i []

-- the disk has these logs behind the records
pub record Behind (c : Contents) (member : ℕ) (records : List LogRecord) (logs after : List Log) : Type 0 where
  pub whole : AreWholeLogs 1 (with_log c member (log_of c.logs member ++ log_bytes records)).logs after
  pub tails : HaveNoTails after
  pub ends : raised (ends_of logs) member (length (log_bytes records)) ≡ ends_of after
  pub members : (m : ℕ) → has_log after m ≡ has_log logs m

-- one record
record One (c : Contents) (member : ℕ) (r : LogRecord) (logs after : List Log) : Type 0 where
  whole : AreWholeLogs 1 (with_log c member (log_of c.logs member ++ record_bytes r)).logs after
  tails : HaveNoTails after
  ends : raised (ends_of logs) member (length (record_bytes r)) ≡ ends_of after
  members : (m : ℕ) → has_log after m ≡ has_log logs m
  within : member - 1 < length c.logs
  in_ends : member - 1 < length (ends_of logs)

many_logs : (front : List Log) (log : Log) (back : List Log) → length front < length (front ++ log ∷ back)
many_logs front log back = let all : length (front ++ log ∷ back) ≡ length front + suc (length back) = length-append front (log ∷ back) in omega (arith, all)

one_behind : KeepsWhole → (c : Contents) (logs after : List Log) (r : LogRecord) (member : ℕ) (h : Appends logs r after) → h.log.member ≡ member → AreWholeLogs 1 c.logs logs → HaveNoTails logs → One c member r logs after
one_behind law c logs after r member h own w t =
    let p = placed_in 1 c.logs h.front h.log h.back (subst (AreWholeLogs 1 c.logs) h.logs_are w) in
    let is = p.member_is in
    let low = p.within in
    let place : member - 1 ≡ length h.front = omega (arith, is, own) in
    let none : h.log.tail ≡ 0 = no_tail_at h.front h.log h.back (subst HaveNoTails h.logs_are t) in
    let many = many_logs h.front h.log h.back in
    let count : length (ends_of (h.front ++ h.log ∷ h.back)) ≡ length (h.front ++ h.log ∷ h.back) = length-map (h.front ++ h.log ∷ h.back) (λ (l : Log). l.length) in
    let inside : member - 1 < length (ends_of (h.front ++ h.log ∷ h.back)) = omega (arith, place, many, count) in
    record {
      whole = subst (λ (m : ℕ). AreWholeLogs 1 (with_log c m (log_of c.logs m ++ record_bytes r)).logs after) own (law c logs after r h w none);
      tails = subst HaveNoTails (sym h.after_are) (no_tails_with h.front h.log h.back r (subst HaveNoTails h.logs_are t));
      ends = ap (λ (ls : List Log). raised (ends_of ls) member (length (record_bytes r))) h.logs_are ∙ ends_with h.front h.log h.back r member place ∙ ap ends_of (sym h.after_are);
      members = λ m. ap (λ (ls : List Log). has_log ls m) h.after_are ∙ member_still h.front h.log h.back r m ∙ ap (λ (ls : List Log). has_log ls m) (sym h.logs_are);
      within = omega (arith, place, low);
      in_ends = subst (λ (ls : List Log). member - 1 < length (ends_of ls)) (sym h.logs_are) inside;
    }

pub all_behind : KeepsWhole → (records : List LogRecord) (c : Contents) (logs after : List Log) (member : ℕ) → AppendsAll logs (writes_of member records) after → AreWholeLogs 1 c.logs logs → HaveNoTails logs → Behind c member records logs after
all_behind law [] c logs after member h w t = record {
  whole = subst (AreWholeLogs 1 (with_log c member (log_of c.logs member ++ [])).logs) (sym h) (subst (λ (bs : List (List ℕ)). AreWholeLogs 1 bs logs) (sym (put_none c.logs (member - 1))) w);
  tails = subst HaveNoTails (sym h) t;
  ends = raised_none (ends_of logs) member ∙ ap ends_of (sym h);
  members = λ m. ap (λ (ls : List Log). has_log ls m) h;
}
all_behind law (r ∷ rs) c logs after member h w t =
    let o = one_behind law c logs h.0 r member h.1 h.2 w t in
    let d = with_log c member (log_of c.logs member ++ record_bytes r) in
    let more = all_behind law rs d h.0 after member h.3 o.whole o.tails in
    let size : length (record_bytes r) + length (log_bytes rs) ≡ length (record_bytes r ++ log_bytes rs) = sym (length-append (record_bytes r) (log_bytes rs)) in
    record {
      whole = subst (λ (bs : List (List ℕ)). AreWholeLogs 1 bs after) (put_twice c.logs (member - 1) (record_bytes r) (log_bytes rs) o.within) more.whole;
      tails = more.tails;
      ends = ap (raised (ends_of logs) member) (sym size)
          ∙ sym (raised_twice (ends_of logs) member (length (record_bytes r)) (length (log_bytes rs)) o.in_ends)
          ∙ ap (λ (es : List ℕ). raised es member (length (log_bytes rs))) o.ends
          ∙ more.ends;
      members = λ m. more.members m ∙ o.members m;
    }

pub all_have : (logs after : List Log) (ms : List ℕ) → ((m : ℕ) → has_log after m ≡ has_log logs m) → AllByRecursion (λ (m : ℕ). has_log logs m ≡ true) ms → AllByRecursion (λ (m : ℕ). has_log after m ≡ true) ms
all_have logs after [] same h = tt
all_have logs after (m ∷ ms) same h = (same m ∙ h.0, all_have logs after ms same h.1)

-- where the member's log ends
pub end_is : (bytes : List (List ℕ)) (logs : List Log) (member : ℕ) → AreWholeLogs 1 bytes logs → has_log logs member ≡ true → end_of (ends_of logs) member ≡ length_for logs member
end_is bytes logs member w has =
    let a = at_member logs member (checkpoint 0 0) has in
    let p = placed_in 1 bytes a.front a.log a.back (subst (AreWholeLogs 1 bytes) a.logs_are w) in
    let is = p.member_is in
    let own = a.member_is in
    let place : member - 1 ≡ length a.front = omega (arith, is, own) in
    ap (λ (ls : List Log). end_of (ends_of ls) member) a.logs_are ∙ ap (λ (i : ℕ). get_or (ends_of (a.front ++ a.log ∷ a.back)) i 0) place ∙ end_at a.front a.log a.back ∙ a.length_is
