-- One step back, and what is told.
use Rattle.std.proofs.Common.{◌≡◌, ℕ, ◌+◌, ◌-◌, ◌<◌, ◌≤◌, Bool, true, false, cond, List, ◌++◌, length, take, drop, Option, Some, None, Result, Ok, Err, refl, sym, ap, subst, ◌∙◌, arith, inl, inr}
use Rattle.std.specs.Prelude.{nat_lt, ◌==◌, min, IfSome}
use Rattle.std.proofs.lemmas.Bool.{ltb-false, ltb-true, le-ltb, lt-ltb, eqb-true, eqb-false, eq-eqb, cases_lt}
use Rattle.std.proofs.lemmas.List.{length-drop, length-append, length-take-le, take-take, take_at, drop_at, drop-drop, drop-take}
use Rattle.std.proofs.Math.Seq.{take-add}
use Rattle.byteorder.specs.Endian.{big_number}
use Rattle.ds_model.specs.declared.log.LogRecord.{LogRecord}
use Rattle.ds_model.specs.declared.log.Body.{Body}
use Rattle.ds_model.specs.declared.log.Body.TheVariants as body
use Rattle.ds_model.specs.RecordBytes.{record_limit}
use Rattle.log_record.specs.declared.fault.RecordFault.{RecordFault}
use Rattle.log_record.specs.declared.fault.RecordFault.TheVariants.{NotWhole}
use Rattle.log_record.specs.Reading.{record_in}
use Rattle.log_record.specs.Logs.{Parts, behind, parts_in}
use Rattle.log_head.specs.Laws.{RecordHasSize, RecordIsFramed, FrontDecides, RecordIsOwn, NothingIsShort, PartsGoOn, PartsEnd, PartsAreBad}
use Rattle.log_checkpoint.specs.declared.last.Last.{Last}
use Rattle.log_checkpoint.specs.declared.last.Last.TheVariants as last
use Rattle.log_checkpoint.specs.declared.found.Found.{Found}
use Rattle.log_checkpoint.specs.declared.found.Found.TheVariants as found
use Rattle.log_checkpoint.specs.Backwards.{last_by, last_sized, last_size, last_of, SearchState, place_of, told_short, told_body, told_by, told_of, before, passed_by, after_step, AreWanted, filled}
use Rattle.log_checkpoint.specs.Passed.{between, AreWhole, IsOther, ArePassed, IsLast, IsOf, AreBefore, IsTold}
use Rattle.log_checkpoint.proofs.Ends.{EndsWith, ends_with}

abbrev Read : Type 0
Read = Result (LogRecord × ℕ) RecordFault

-- ---- the record at the end of bytes

-- the bytes end with this record, of so many bytes
pub record IsLastOf (bytes : List ℕ) (r : LogRecord) (n : ℕ) : Type 0 where
  pub enough : 4 ≤ length bytes
  pub within : n ≤ length bytes
  pub told : last_size bytes ≡ n
  pub read : record_in (drop (length bytes - n) bytes) ≡ Ok (r, n)

last_is : (bytes : List ℕ) → last_of bytes ≡ cond (nat_lt (length bytes) 4) last.Short (last_sized bytes (last_size bytes))
unfolding last_of
last_is bytes = refl

abbrev last_record : LogRecord → ℕ → Last
last_record r n = last.Record r n

same_it : (r s : LogRecord) (m n : ℕ) → last_record r m ≡ last_record s n → r ≡ s
same_it r s m n e = cc

same_size : (r s : LogRecord) (m n : ℕ) → last_record r m ≡ last_record s n → m ≡ n
same_size r s m n e = cc

-- how a read record is told
by_when : (b : Bool) (r : LogRecord) (m size : ℕ) (s : LogRecord) (n : ℕ) → (m == size) ≡ b → cond b (last.Record r size) last.Broken ≡ last.Record s n → (size ≡ n) × (r ≡ s) × (m ≡ size)
by_when true r m size s n t e = (same_size r s size n e, same_it r s size n e, eqb-true m size t)
by_when false r m size s n t e = absurd cc

abbrev read_as : LogRecord → ℕ → Read
read_as r n = Ok (r, n)

pair_is : (r s : LogRecord) (m n : ℕ) → r ≡ s → m ≡ n → read_as r m ≡ read_as s n
pair_is r s m n p q = ap (λ (x : LogRecord). read_as x m) p ∙ ap (read_as s) q

by_read : (f : Read) (size : ℕ) (s : LogRecord) (n : ℕ) → last_by size f ≡ last.Record s n → (size ≡ n) × (f ≡ Ok (s, n))
by_read (Ok (r, m)) size s n e = let t = by_when (m == size) r m size s n refl e in (t.0, pair_is r s m n t.1 (t.2 ∙ t.0))
by_read (Err d) size s n e = absurd cc

sized_when : (large cut : Bool) (f : Read) (size : ℕ) (s : LogRecord) (n : ℕ) → cond large last.Broken (cond cut last.Short (last_by size f)) ≡ last.Record s n → (cut ≡ false) × (size ≡ n) × (f ≡ Ok (s, n))
sized_when true cut f size s n e = absurd cc
sized_when false true f size s n e = absurd cc
sized_when false false f size s n e = let t = by_read f size s n e in (refl, t.0, t.1)

few_when : (few : Bool) (l : Last) (s : LogRecord) (n : ℕ) → cond few last.Short l ≡ last.Record s n → (few ≡ false) × (l ≡ last.Record s n)
few_when true l s n e = absurd cc
few_when false l s n e = (refl, e)

pub is_last : (bytes : List ℕ) (r : LogRecord) (n : ℕ) → last_of bytes ≡ last.Record r n → IsLastOf bytes r n
is_last bytes r n e =
    let size : ℕ = last_size bytes in
    let f = few_when (nat_lt (length bytes) 4) (last_sized bytes size) r n (sym (last_is bytes) ∙ e) in
    let t = sized_when (nat_lt record_limit size) (nat_lt (length bytes) size) (record_in (drop (length bytes - size) bytes)) size r n f.1 in
    let within : size ≤ length bytes = ltb-false _ _ t.0 in
    record {
      enough = ltb-false _ _ f.0;
      within = omega (arith, within, t.1);
      told = t.1;
      read = subst (λ (k : ℕ). record_in (drop (length bytes - k) bytes) ≡ Ok (r, n)) t.1 t.2;
    }

-- ---- parts of a log

between_all : (from to : ℕ) (log : List ℕ) → to ≤ length log → from ≤ to → length (between from to log) ≡ to - from
between_all from to log p q = length-take-le (to - from) (drop from log) (omega (arith, length-drop from log, p, q))

between_both : (from mid to : ℕ) (log : List ℕ) → from ≤ mid → mid ≤ to → between from to log ≡ between from mid log ++ between mid to log
between_both from mid to log p q =
    let k : ℕ = mid - from in
    let m : ℕ = to - mid in
    ap (λ (n : ℕ). take n (drop from log)) (let split : to - from ≡ k + m = omega (arith, p, q) in split)
    ∙ take-add k m (drop from log)
    ∙ ap (λ (t : List ℕ). take k (drop from log) ++ take m t) (drop-drop k from log ∙ ap (λ (n : ℕ). drop n log) (let at : from + k ≡ mid = omega (arith, p) in at))

-- the last bytes in hand, as the log's
hand_back : (log : List ℕ) (end : ℕ) (s : SearchState) (n : ℕ) → IsOf log end s → n ≤ length s.hand → drop (length s.hand - n) s.hand ≡ between (place_of s - n) (place_of s) log
hand_back log end s n is le =
    let k : ℕ = length s.hand - n in
    let split : length s.hand ≡ k + n = omega (arith, le) in
    let at : s.low + k ≡ place_of s - n = omega (arith, le) in
    let size : n ≡ place_of s - (place_of s - n) = omega (arith, le) in
    ap (drop k) is.told ∙ ap (λ (j : ℕ). drop k (take j (drop s.low log))) split ∙ drop-take k n (drop s.low log)
    ∙ ap (take n) (drop-drop k s.low log) ∙ ap (λ (j : ℕ). take n (drop j log)) at ∙ ap (λ (j : ℕ). take j (drop (place_of s - n) log)) size

-- ---- what stands behind a record

passed_behind : (r : LogRecord) (n : ℕ) (q : Result Parts ℕ) → IsOther r.body → ArePassed q → ArePassed (behind r n q)
passed_behind r n (Ok p) other h = (h.0, (other, h.1))
passed_behind r n (Err at) other h = h

last_behind : (r : LogRecord) (n offset : ℕ) (q : Result Parts ℕ) → r.body ≡ body.Checkpoint offset → ArePassed q → IsLast offset (behind r n q)
last_behind r n offset (Ok p) is h = (h.0, (is, h.1))
last_behind r n offset (Err at) is h = h

module _ (size : RecordHasSize) (framed : RecordIsFramed) (front : FrontDecides) (own : RecordIsOwn) (empty : NothingIsShort) (goes : PartsGoOn) (ends : PartsEnd) (bad : PartsAreBad) where
  -- the parts from the last record in hand on
  parts_back : (log : List ℕ) (end : ℕ) (s : SearchState) (r : LogRecord) (n : ℕ) → IsOf log end s → IsLastOf s.hand r n
      → parts_in (between (place_of s - n) end log) ≡ behind r n (parts_in (between (place_of s) end log))
  parts_back log end s r n is it =
      let at : ℕ = place_of s - n in
      let mine : List ℕ = between at (place_of s) log in
      let rest : List ℕ = between (place_of s) end log in
      let long : length mine ≡ n = between_all at (place_of s) log (omega (arith, is.fits, is.within)) (omega arith) ∙ (let back : place_of s - at ≡ n = omega (arith, it.within) in back) in
      let both : between at end log ≡ mine ++ rest = between_both at (place_of s) end log (omega arith) is.fits in
      let read : record_in mine ≡ Ok (r, n) = ap record_in (sym (hand_back log end s n is it.within)) ∙ it.read in
      let begins : record_in (take n (mine ++ rest)) ≡ Ok (r, n) = ap record_in (take_at mine rest n long) ∙ read in
      let whole : record_in (mine ++ rest) ≡ Ok (r, n) = front (mine ++ rest) n (λ no. differ r n (sym begins ∙ no)) ∙ begins in
      ap parts_in both ∙ goes (mine ++ rest) r n whole ∙ ap (λ (t : List ℕ). behind r n (parts_in t)) (drop_at mine rest n long)
    where
      differ : (r : LogRecord) (n : ℕ) → read_as r n ≡ Err NotWhole → ⊥
      differ r n e = cc

  -- the last record of the log's bytes before the passed ones
  front_ends : (log : List ℕ) (end : ℕ) (s : SearchState) → IsOf log end s → 1 ≤ length s.hand → AreWhole (parts_in (take (place_of s) log)) → EndsWith (take (place_of s) log)
  front_ends log end s is some w =
      ends_with size framed own empty goes ends bad (take (place_of s) log) (omega (arith, length-take-le (place_of s) log (omega (arith, is.fits, is.within)), some)) w

  -- what is in hand is the end of it
  front_back : (log : List ℕ) (end : ℕ) (s : SearchState) (n : ℕ) → IsOf log end s → n ≤ length s.hand → drop (length s.hand - n) s.hand ≡ drop (place_of s - n) (take (place_of s) log)
  front_back log end s n is le =
      let at : ℕ = place_of s - n in
      let split : place_of s ≡ at + n = omega (arith, le) in
      let size_is : place_of s - at ≡ n = omega (arith, le) in
      hand_back log end s n is le ∙ ap (λ (j : ℕ). take j (drop at log)) size_is ∙ sym (ap (λ (j : ℕ). drop at (take j log)) split ∙ drop-take at n log)

  whole_before : (log : List ℕ) (end : ℕ) (s : SearchState) (r : LogRecord) (n : ℕ) → IsOf log end s → IsLastOf s.hand r n → AreWhole (parts_in (take (place_of s) log)) → AreWhole (parts_in (take (place_of s - n) log))
  whole_before log end s r n is it w =
      let bytes : List ℕ = take (place_of s) log in
      let long : length bytes ≡ place_of s = length-take-le (place_of s) log (omega (arith, is.fits, is.within)) in
      let e = front_ends log end s is (omega (arith, it.enough)) w in
      let four : drop (length s.hand - 4) s.hand ≡ drop (length bytes - 4) bytes = front_back log end s 4 is it.enough ∙ ap (λ (j : ℕ). drop (j - 4) bytes) (sym long) in
      let same : n ≡ e.size = sym it.told ∙ ap (big_number 4) four ∙ e.told in
      let cut : take (length bytes - e.size) bytes ≡ take (place_of s - n) log =
      ap (λ (j : ℕ). take (j - e.size) bytes) long ∙ ap (λ (j : ℕ). take (place_of s - j) bytes) (sym same) ∙ take-take (place_of s - n) (place_of s) log (omega arith) in
      subst (λ (t : List ℕ). AreWhole (parts_in t)) cut e.front

  -- ---- a record is passed

  passed_is : (log : List ℕ) (end : ℕ) (s : SearchState) (r : LogRecord) (n : ℕ) → IsOf log end s → IsLastOf s.hand r n → IsOther r.body → IsOf log end (before s n)
  passed_is log end s r n is it other =
      let k : ℕ = length s.hand - n in
      let long : length (take k s.hand) ≡ k = length-take-le k s.hand (omega arith) in
      let place : place_of (before s n) ≡ place_of s - n = omega (arith, long, it.within) in
      record {
        within = is.within;
        fits = omega (arith, place, is.fits);
        told = ap (take k) is.told ∙ take-take k (length s.hand) (drop s.low log) (omega arith) ∙ ap (λ (j : ℕ). take j (drop s.low log)) (sym long);
        passed = subst (λ (j : ℕ). ArePassed (parts_in (between j end log))) (sym place)
            (subst ArePassed (sym (parts_back log end s r n is it)) (passed_behind r n (parts_in (between (place_of s) end log)) other is.passed));
        whole = λ w. subst (λ (j : ℕ). AreWhole (parts_in (take j log))) (sym place) (whole_before log end s r n is it (is.whole w));
      }

  other_is : (at : ℕ) (b : Body) → told_body at b ≡ None → IsOther b
  other_is at (body.RowChange change) e = tt
  other_is at (body.Compensation change undone) e = tt
  other_is at (body.System patches) e = tt
  other_is at body.Commit e = tt
  other_is at body.Ended e = tt
  other_is at (body.Checkpoint offset) e = absurd cc
  other_is at body.RestartEnd e = tt

  step_when : (log : List ℕ) (end : ℕ) (s : SearchState) (l : Last) (told : Option Found) → IsOf log end s → last_of s.hand ≡ l → told_by s l ≡ told → IsOf log end (passed_by s l told)
  step_when log end s (last.Record r n) None is e t = passed_is log end s r n is (is_last s.hand r n e) (other_is (place_of s - n) r.body t)
  step_when log end s (last.Record r n) (Some found) is e t = is
  step_when log end s last.Short told is e t = is
  step_when log end s last.Broken told is e t = is

  pub step_is : (log : List ℕ) (end : ℕ) (s : SearchState) → IsOf log end s → IsOf log end (after_step s)
  step_is log end s is = step_when log end s (last_of s.hand) (told_of s) is refl refl

  -- ---- what is told

  -- where all before the end are whole records, the last of them is found in hand, if it is there
  not_short : (log : List ℕ) (end : ℕ) (s : SearchState) → IsOf log end s → 4 ≤ length s.hand → (e : EndsWith (take (place_of s) log)) → e.size ≤ length s.hand → last_of s.hand ≡ last.Record e.it e.size
  not_short log end s is enough e within =
      let bytes : List ℕ = take (place_of s) log in
      let long : length bytes ≡ place_of s = length-take-le (place_of s) log (omega (arith, is.fits, is.within)) in
      let four : drop (length s.hand - 4) s.hand ≡ drop (length bytes - 4) bytes = front_back log end s 4 is enough ∙ ap (λ (j : ℕ). drop (j - 4) bytes) (sym long) in
      let told : last_size s.hand ≡ e.size = ap (big_number 4) four ∙ e.told in
      let read : record_in (drop (length s.hand - e.size) s.hand) ≡ Ok (e.it, e.size) =
      ap record_in (front_back log end s e.size is within ∙ ap (λ (j : ℕ). drop (j - e.size) bytes) (sym long)) ∙ e.read in
      let many : nat_lt (length s.hand) 4 ≡ false = le-ltb _ _ enough in
      let few : nat_lt record_limit e.size ≡ false = le-ltb _ _ e.few in
      let uncut : nat_lt (length s.hand) e.size ≡ false = le-ltb _ _ within in
      last_is s.hand ∙ ap (λ (b : Bool). cond b last.Short (last_sized s.hand (last_size s.hand))) many
      ∙ ap (last_sized s.hand) told
      ∙ ap (λ (b : Bool). cond b last.Broken (cond (nat_lt (length s.hand) e.size) last.Short (last_by e.size (record_in (drop (length s.hand - e.size) s.hand))))) few
      ∙ ap (λ (b : Bool). cond b last.Short (last_by e.size (record_in (drop (length s.hand - e.size) s.hand)))) uncut
      ∙ ap (last_by e.size) read
      ∙ ap (λ (b : Bool). cond b (last.Record e.it e.size) last.Broken) (eq-eqb e.size e.size refl)

  cut_short : (log : List ℕ) (end : ℕ) (s : SearchState) → IsOf log end s → 4 ≤ length s.hand → (e : EndsWith (take (place_of s) log)) → length s.hand < e.size → last_of s.hand ≡ last.Short
  cut_short log end s is enough e lt =
      let bytes : List ℕ = take (place_of s) log in
      let long : length bytes ≡ place_of s = length-take-le (place_of s) log (omega (arith, is.fits, is.within)) in
      let four : drop (length s.hand - 4) s.hand ≡ drop (length bytes - 4) bytes = front_back log end s 4 is enough ∙ ap (λ (j : ℕ). drop (j - 4) bytes) (sym long) in
      let told : last_size s.hand ≡ e.size = ap (big_number 4) four ∙ e.told in
      let many : nat_lt (length s.hand) 4 ≡ false = le-ltb _ _ enough in
      let few : nat_lt record_limit e.size ≡ false = le-ltb _ _ e.few in
      let cut : nat_lt (length s.hand) e.size ≡ true = lt-ltb _ _ lt in
      last_is s.hand ∙ ap (λ (b : Bool). cond b last.Short (last_sized s.hand (last_size s.hand))) many
      ∙ ap (last_sized s.hand) told
      ∙ ap (λ (b : Bool). cond b last.Broken (cond (nat_lt (length s.hand) e.size) last.Short (last_by e.size (record_in (drop (length s.hand - e.size) s.hand))))) few
      ∙ ap (λ (b : Bool). cond b last.Short (last_by e.size (record_in (drop (length s.hand - e.size) s.hand)))) cut

  -- what is broken isn't whole records
  few_short : (bytes : List ℕ) → length bytes < 4 → last_of bytes ≡ last.Short
  few_short bytes lt = let few : nat_lt (length bytes) 4 ≡ true = lt-ltb _ _ lt in last_is bytes ∙ ap (λ (b : Bool). cond b last.Short (last_sized bytes (last_size bytes))) few

  not_broken : (log : List ℕ) (end : ℕ) (s : SearchState) → IsOf log end s → last_of s.hand ≡ last.Broken → AreWhole (parts_in (take end log)) → ⊥
  not_broken log end s is broken w =
      elim (cases_lt (length s.hand) 4) as (λ _. ⊥) [
        | inl few ↦ short_broken (sym (few_short s.hand few) ∙ broken)
        | inr enough ↦
            let e = front_ends log end s is (omega (arith, enough)) (is.whole w) in
            elim (cases_lt (length s.hand) e.size) as (λ _. ⊥) [
              | inl lt ↦ short_broken (sym (cut_short log end s is enough e lt) ∙ broken)
              | inr le ↦ record_broken e.it e.size (sym (not_short log end s is enough e le) ∙ broken)
            ]
      ]
    where
      short_broken : last.Short ≡ last.Broken → ⊥
      short_broken e = cc

      record_broken : (r : LogRecord) (n : ℕ) → last.Record r n ≡ last.Broken → ⊥
      record_broken r n e = cc

  all_short : (log : List ℕ) (end : ℕ) (s : SearchState) → IsOf log end s → last_of s.hand ≡ last.Short → s.low ≡ 0 → 1 ≤ length s.hand → AreWhole (parts_in (take end log)) → ⊥
  all_short log end s is short none some w =
      let e = front_ends log end s is some (is.whole w) in
      let long : length (take (place_of s) log) ≡ place_of s = length-take-le (place_of s) log (omega (arith, is.fits, is.within)) in
      let within : e.size ≤ length s.hand = omega (arith, e.within, long, none) in
      record_short e.it e.size (sym (not_short log end s is (omega (arith, e.many, within)) e within) ∙ short)
    where
      record_short : (r : LogRecord) (n : ℕ) → last.Record r n ≡ last.Short → ⊥
      record_short r n e = cc

  told_when : (log : List ℕ) (end : ℕ) (s : SearchState) (none_low none : Bool) → IsOf log end s → last_of s.hand ≡ last.Short → (s.low == 0) ≡ none_low → (length s.hand == 0) ≡ none
      → IsTold log end (cond none_low (cond none found.Missing found.Broken) (found.Wants (s.low - min s.low s.block) (min s.low s.block)))
  told_when log end s true true is short p q =
      let place : place_of s ≡ 0 = omega (arith, eqb-true _ _ p, eqb-true _ _ q) in
      let all : end - 0 ≡ end = omega arith in
      subst (λ (k : ℕ). ArePassed (parts_in (take k log))) all (subst (λ (k : ℕ). ArePassed (parts_in (between k end log))) place is.passed)
  told_when log end s true false is short p q =
      let some : 1 ≤ length s.hand = omega (arith, eqb-false _ _ q) in
      λ w. all_short log end s is short (eqb-true _ _ p) some w
  told_when log end s false none is short p q = omega (arith, is.fits)

  body_when : (log : List ℕ) (end : ℕ) (s : SearchState) (r : LogRecord) (n : ℕ) (b : Body) (f : Found) → IsOf log end s → IsLastOf s.hand r n → r.body ≡ b → told_body (place_of s - n) b ≡ Some f → IsTold log end f
  body_when log end s r n (body.RowChange change) f is it e t = absurd cc
  body_when log end s r n (body.Compensation change undone) f is it e t = absurd cc
  body_when log end s r n (body.System patches) f is it e t = absurd cc
  body_when log end s r n body.Commit f is it e t = absurd cc
  body_when log end s r n body.Ended f is it e t = absurd cc
  body_when log end s r n body.RestartEnd f is it e t = absurd cc
  body_when log end s r n (body.Checkpoint offset) f is it e t =
      subst (IsTold log end) (found_is (found.At (place_of s - n) offset) f t) (
        omega (arith, is.fits),
        subst (IsLast offset) (sym (parts_back log end s r n is it)) (last_behind r n offset (parts_in (between (place_of s) end log)) e is.passed),
        λ w. whole_before log end s r n is it (is.whole w),
      )
    where
      found_is : (a b : Found) → Some a ≡ Some b → a ≡ b
      found_is a b e = cc

  tells_when : (log : List ℕ) (end : ℕ) (s : SearchState) (l : Last) (f : Found) → IsOf log end s → last_of s.hand ≡ l → told_by s l ≡ Some f → IsTold log end f
  tells_when log end s (last.Record r n) f is e t = body_when log end s r n r.body f is (is_last s.hand r n e) refl t
  tells_when log end s last.Short f is e t = subst (IsTold log end) (found_is (told_short s) f t) (told_when log end s (s.low == 0) (length s.hand == 0) is e refl refl)
    where
      found_is : (a b : Found) → Some a ≡ Some b → a ≡ b
      found_is a b e = cc
  tells_when log end s last.Broken f is e t = subst (IsTold log end) (found_is found.Broken f t) (λ w. not_broken log end s is e w)
    where
      found_is : (a b : Found) → Some a ≡ Some b → a ≡ b
      found_is a b e = cc

  pub tells : (log : List ℕ) (end : ℕ) (s : SearchState) (f : Found) → IsOf log end s → told_of s ≡ Some f → IsTold log end f
  tells log end s f is t = tells_when log end s (last_of s.hand) f is refl t

-- ---- bytes before those in hand

wanted_body : (at : ℕ) (b : Body) (count : ℕ) → AreWanted (told_body at b) count → ⊥
wanted_body at (body.RowChange change) count w = w
wanted_body at (body.Compensation change undone) count w = w
wanted_body at (body.System patches) count w = w
wanted_body at body.Commit count w = w
wanted_body at body.Ended count w = w
wanted_body at (body.Checkpoint offset) count w = w
wanted_body at body.RestartEnd count w = w

wanted_short : (none_low none : Bool) (low block count : ℕ) → AreWanted (Some (cond none_low (cond none found.Missing found.Broken) (found.Wants (low - min low block) (min low block)))) count → min low block ≡ count
wanted_short true true low block count w = absurd w
wanted_short true false low block count w = absurd w
wanted_short false none low block count w = w

wanted_last : (s : SearchState) (l : Last) (count : ℕ) → AreWanted (told_by s l) count → min s.low s.block ≡ count
wanted_last s (last.Record r n) count w = absurd (wanted_body (place_of s - n) r.body count w)
wanted_last s last.Short count w = wanted_short (s.low == 0) (length s.hand == 0) s.low s.block count w
wanted_last s last.Broken count w = absurd w

pub wanted : (s : SearchState) (count : ℕ) → AreWanted (told_of s) count → count ≤ s.low
wanted s count w = let is = wanted_last s (last_of s.hand) count w in omega (arith, is)

-- the bytes that are wanted end where those in hand begin
before_short : (none_low none : Bool) (low block at count : ℕ) → cond none_low (cond none found.Missing found.Broken) (found.Wants (low - min low block) (min low block)) ≡ found.Wants at count → (at + count ≡ low) × (count ≤ block)
before_short true true low block at count e = absurd cc
before_short true false low block at count e = absurd cc
before_short false none low block at count e =
    let p : low - min low block ≡ at = cc in
    let q : min low block ≡ count = cc in
    (omega (arith, p, q), omega (arith, q))

before_body : (place : ℕ) (b : Body) (at count : ℕ) → told_body place b ≡ Some (found.Wants at count) → ⊥
before_body place (body.RowChange change) at count e = cc
before_body place (body.Compensation change undone) at count e = cc
before_body place (body.System patches) at count e = cc
before_body place body.Commit at count e = cc
before_body place body.Ended at count e = cc
before_body place (body.Checkpoint offset) at count e = cc
before_body place body.RestartEnd at count e = cc

before_by : (s : SearchState) (l : Last) (at count : ℕ) → told_by s l ≡ Some (found.Wants at count) → (at + count ≡ s.low) × (count ≤ s.block)
before_by s (last.Record r n) at count e = absurd (before_body (place_of s - n) r.body at count e)
before_by s last.Short at count e = before_short (s.low == 0) (length s.hand == 0) s.low s.block at count (of_some (told_short s) (found.Wants at count) e)
  where
    of_some : (f g : Found) → Some f ≡ Some g → f ≡ g
    of_some f g h = cc
before_by s last.Broken at count e = absurd cc

pub wanted_before : (s : SearchState) (at count : ℕ) → told_of s ≡ Some (found.Wants at count) → (at + count ≡ s.low) × (count ≤ s.block)
wanted_before s at count e = before_by s (last_of s.hand) at count e

pub filled_is : (log : List ℕ) (end : ℕ) (s : SearchState) (bytes : List ℕ) → IsOf log end s → AreWanted (told_of s) (length bytes) → AreBefore log s bytes → IsOf log end (filled s bytes)
filled_is log end s bytes is w next =
    let n : ℕ = length bytes in
    let le : n ≤ s.low = wanted s n w in
    let low : ℕ = s.low - n in
    let len : length (bytes ++ s.hand) ≡ n + length s.hand = length-append bytes s.hand in
    let back : low + n ≡ s.low = omega (arith, le) in
    let place : place_of (filled s bytes) ≡ place_of s = omega (arith, len, le) in
    record {
      within = is.within;
      fits = omega (arith, place, is.fits);
      told = ap (λ (t : List ℕ). t ++ s.hand) next
          ∙ ap (λ (t : List ℕ). take n (drop low log) ++ t) (is.told ∙ ap (λ (k : ℕ). take (length s.hand) (drop k log)) (sym back) ∙ ap (take (length s.hand)) (sym (drop-drop n low log)))
          ∙ sym (take-add n (length s.hand) (drop low log)) ∙ ap (λ (k : ℕ). take k (drop low log)) (sym len);
      passed = subst (λ (k : ℕ). ArePassed (parts_in (between k end log))) (sym place) is.passed;
      whole = λ whole. subst (λ (k : ℕ). AreWhole (parts_in (take k log))) (sym place) (is.whole whole);
    }

-- ---- what is in hand where bytes are wanted

-- a record's length was read, and it isn't there; or not even a length is
short_by_size : (bytes : List ℕ) (large cut : Bool) (f : Read) (size : ℕ) → nat_lt record_limit size ≡ large → nat_lt (length bytes) size ≡ cut → cond large last.Broken (cond cut last.Short (last_by size f)) ≡ last.Short → length bytes < record_limit
short_by_size bytes true cut f size p q e = absurd cc
short_by_size bytes false true f size p q e = let le = ltb-false _ _ p in let lt = ltb-true _ _ q in omega (arith, le, lt)
short_by_size bytes false false f size p q e = absurd (never f e)
  where
    kept : (b : Bool) (r : LogRecord) → cond b (last.Record r size) last.Broken ≡ last.Short → ⊥
    kept true r e = cc
    kept false r e = cc

    never : (f : Read) → last_by size f ≡ last.Short → ⊥
    never (Ok (r, m)) e = kept (m == size) r e
    never (Err d) e = cc

short_when : (bytes : List ℕ) (few : Bool) → nat_lt (length bytes) 4 ≡ few → cond few last.Short (last_sized bytes (last_size bytes)) ≡ last.Short → length bytes < record_limit
short_when bytes true p e = let lt = ltb-true _ _ p in omega (arith, lt)
short_when bytes false p e =
    let size : ℕ = last_size bytes in
    short_by_size bytes (nat_lt record_limit size) (nat_lt (length bytes) size) (record_in (drop (length bytes - size) bytes)) size refl refl e

few_by : (s : SearchState) (l : Last) (count : ℕ) → last_of s.hand ≡ l → AreWanted (told_by s l) count → length s.hand < record_limit
few_by s (last.Record r n) count e w = absurd (wanted_body (place_of s - n) r.body count w)
few_by s last.Short count e w = short_when s.hand (nat_lt (length s.hand) 4) refl (sym (last_is s.hand) ∙ e)
few_by s last.Broken count e w = absurd w

pub wanted_few : (s : SearchState) (count : ℕ) → AreWanted (told_of s) count → length s.hand < record_limit
wanted_few s count w = few_by s (last_of s.hand) count refl w

-- ---- what is told stays so

again_when : (s : SearchState) (l : Last) (told : Option Found) → last_of s.hand ≡ l → told_by s l ≡ told → IfSome told (λ found. told_of (passed_by s l told) ≡ Some found)
again_when s l None e t = tt
again_when s (last.Record r n) (Some found) e t = ap (told_by s) e ∙ t
again_when s last.Short (Some found) e t = ap (told_by s) e ∙ t
again_when s last.Broken (Some found) e t = ap (told_by s) e ∙ t

pub told_again : (s t : SearchState) (told : Option Found) → told ≡ told_of s → t ≡ after_step s → IfSome told (λ found. told_of t ≡ Some found)
told_again s t told is after =
    subst (λ (o : Option Found). IfSome o (λ found. told_of t ≡ Some found)) (sym is)
    (subst (λ (u : SearchState). IfSome (told_of s) (λ found. told_of u ≡ Some found)) (sym after) (again_when s (last_of s.hand) (told_of s) refl refl))
