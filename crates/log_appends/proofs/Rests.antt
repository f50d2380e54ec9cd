-- The last records of a log behind whose whole records a rest stands.
use Rattle.std.proofs.Common.{◌≡◌, ℕ, ◌+◌, ◌<◌, ◌≤◌, refl, sym, ◌∙◌, ap, subst, arith, inl, inr, List, [], ◌∷◌, ◌++◌, append_assoc, length, take, drop, Result, Ok, Err, length-append}
use Rattle.std.specs.Prelude.{◌⊎◌}
use Rattle.std.specs.List.{AllByRecursion}
use Rattle.std.proofs.lemmas.Bool.{cases_lt}
use Rattle.std.proofs.lemmas.List.{append-nil, drop_all, drop_at, length-take-le, take-append-drop, take-append-le, take_at}
use Rattle.ds_model.specs.RecordBytes.{IsAllowed, log_bytes, record_bytes}
use Rattle.ds_model.specs.declared.log.LogRecord.{LogRecord}
use Rattle.log_record.specs.Logs.{ArePartsOf, Parts, parts_in}
use Rattle.log_record.specs.Reading.{record_in}
use Rattle.log_record.specs.declared.fault.RecordFault.TheVariants.{NotWhole}
use Rattle.log_head.specs.Laws.{NothingIsShort}
use Rattle.log_reader.specs.Held.{names}
use Rattle.log_reader.specs.Keeping.{AreWhole}
use Rattle.log_starts.specs.Starts.{MayBegin, NamesOwn}
use Rattle.log_appends.specs.Appends.{AreLastFrom}
use Rattle.log_appends.specs.Rests.{AppendsLeave, IsRest, LastAreAllowed, LastWithRest, LastWithoutRest, LeavesRest, RestIsTold}
use Rattle.log_appends.proofs.Spelling.{Behind, Front, FrontIsCut, ReadAgain, back_all, begins_with, both_bytes, front_of, same_first, split_off, torn_short}

-- what the parts of bytes are is read of them
abbrev pub PartsAreRead : Type 0
PartsAreRead = (bytes : List ℕ) (p : Parts) → ArePartsOf bytes p → parts_in bytes ≡ Ok p

same_parts : (x : Result Parts ℕ) (a b : Parts) → x ≡ Ok a → x ≡ Ok b → a ≡ b
same_parts x a b e f = cc

never_both : (x : LogRecord × ℕ) → Ok x ≡ Err NotWhole → ⊥
never_both x e = cc

abbrev parts : List LogRecord → List ℕ → Parts
parts records rest = record { records = records; size = length (log_bytes records); tail = length rest }

are_parts : (bytes rest : List ℕ) (records : List LogRecord) → bytes ≡ log_bytes records ++ rest → AllByRecursion IsAllowed records → IsRest rest → ArePartsOf bytes (parts records rest)
are_parts bytes rest records split allowed short = record { rest = rest; split = split; allowed = allowed; not_whole = short; size_is = refl; tail_is = refl }

-- reading doesn't begin behind the end
begins_within : NothingIsShort → (bytes : List ℕ) (start : ℕ) → MayBegin start (drop start bytes) → start ≤ length bytes
begins_within none bytes start begins = elim (cases_lt (length bytes) start) [
  | inl past ↦ by begins past
  | inr le ↦ le
]
  where
    by : MayBegin start (drop start bytes) → length bytes < start → start ≤ length bytes
    by (inl e) past = absurd (omega (arith, e, past))
    by (inr own) past =
        let nothing : drop start bytes ≡ [] = drop_all start bytes (omega (arith, past)) in
        absurd (never_both (own.made, own.size) (sym own.read ∙ ap record_in nothing ∙ none))

-- the whole records of the log before the byte at which reading begins, and behind it
record Cut (log rest : List ℕ) (start : ℕ) (old : List LogRecord) : Type 0 where
  first : List LogRecord
  behind : List LogRecord
  are : old ≡ first ++ behind
  first_is : log_bytes first ≡ take start (log ++ rest)
  taken : take start log ≡ log_bytes first
  left : drop start log ≡ log_bytes behind
  both : drop start (log ++ rest) ≡ log_bytes behind ++ rest
  first_ok : AllByRecursion IsAllowed first
  behind_ok : AllByRecursion IsAllowed behind

module _ (again : ReadAgain) (cut : FrontIsCut) (none : NothingIsShort) (read : PartsAreRead) where
  cut_at : (log rest : List ℕ) (start : ℕ) (whole : AreWhole log) → IsRest rest → (before : AreWhole (take start (log ++ rest))) → start ≤ length (log ++ rest) → Cut log rest start whole.records
  cut_at log rest start whole short before within = record {
    first = before.records;
    behind = split.behind;
    are = split.split;
    first_is = sym before.spelled;
    taken = ap (λ (z : List ℕ). take start z) log_is ∙ take_at (log_bytes before.records) (log_bytes split.behind) start size;
    left = ap (λ (z : List ℕ). drop start z) log_is ∙ drop_at (log_bytes before.records) (log_bytes split.behind) start size;
    both = split.bytes;
    first_ok = before.allowed;
    behind_ok = back_all IsAllowed before.records split.behind (subst (AllByRecursion IsAllowed) split.split whole.allowed);
  }
    where
      split : Behind whole.records before.records rest (drop start (log ++ rest))
      split = split_off again cut none before.records whole.records rest (drop start (log ++ rest)) before.allowed whole.allowed short
          (ap (λ (z : List ℕ). z ++ rest) (sym whole.spelled) ∙ sym (take-append-drop start (log ++ rest)) ∙ ap (λ (z : List ℕ). z ++ drop start (log ++ rest)) before.spelled)

      size : length (log_bytes before.records) ≡ start
      size = ap (λ (z : List ℕ). length z) (sym before.spelled) ∙ length-take-le start (log ++ rest) within

      log_is : log ≡ log_bytes before.records ++ log_bytes split.behind
      log_is = whole.spelled ∙ ap log_bytes split.split ∙ both_bytes before.records split.behind

  -- a record that begins there is one of them
  own_without : (start : ℕ) (rest : List ℕ) (rs : List LogRecord) → AllByRecursion IsAllowed rs → IsRest rest → NamesOwn start (log_bytes rs ++ rest) → NamesOwn start (log_bytes rs)
  own_without start rest [] ok short own = absurd (never_both (own.made, own.size) (sym own.read ∙ short))
  own_without start rest (r ∷ rs) ok short own =
      let here = ap record_in (append_assoc (record_bytes r) (log_bytes rs) rest) ∙ again r (log_bytes rs ++ rest) ok.0 in
      let same : r ≡ own.made = same_first (record_in (log_bytes (r ∷ rs) ++ rest)) r own.made (length (record_bytes r)) own.size here own.read in
      record {
        made = r;
        size = length (record_bytes r);
        read = again r (log_bytes rs) ok.0;
        own = ap (λ (z : LogRecord). names start z.body) same ∙ own.own;
      }

  own_with : (start : ℕ) (rest : List ℕ) (rs : List LogRecord) → AllByRecursion IsAllowed rs → NamesOwn start (log_bytes rs) → NamesOwn start (log_bytes rs ++ rest)
  own_with start rest [] ok own = absurd (never_both (own.made, own.size) (sym own.read ∙ none))
  own_with start rest (r ∷ rs) ok own =
      let same : r ≡ own.made = same_first (record_in (log_bytes (r ∷ rs))) r own.made (length (record_bytes r)) own.size (again r (log_bytes rs) ok.0) own.read in
      record {
        made = r;
        size = length (record_bytes r);
        read = ap record_in (append_assoc (record_bytes r) (log_bytes rs) rest) ∙ again r (log_bytes rs ++ rest) ok.0;
        own = ap (λ (z : LogRecord). names start z.body) same ∙ own.own;
      }

  pub last_without : LastWithoutRest
  last_without log rest start records whole short last = record {
    whole = record { records = c.first; spelled = c.taken; allowed = c.first_ok };
    begins = begins last.begins;
    parts = parts c.behind [];
    told = read (drop start log) (parts c.behind []) (are_parts (drop start log) [] c.behind (c.left ∙ sym (append-nil (log_bytes c.behind))) c.behind_ok none);
    are = last.are ∙ ap (λ (p : Parts). p.records)
        (same_parts (parts_in (drop start (log ++ rest))) last.parts (parts c.behind rest) last.told
        (read (drop start (log ++ rest)) (parts c.behind rest) (are_parts (drop start (log ++ rest)) rest c.behind c.both c.behind_ok short)));
  }
    where
      c : Cut log rest start whole.records
      c = cut_at log rest start whole short last.whole (begins_within none (log ++ rest) start last.begins)

      begins : MayBegin start (drop start (log ++ rest)) → MayBegin start (drop start log)
      begins (inl e) = inl e
      begins (inr own) = inr (subst (NamesOwn start) (sym c.left) (own_without start rest c.behind c.behind_ok short (subst (NamesOwn start) c.both own)))

  pub last_with : LastWithRest
  last_with log rest start records whole short last = record {
    whole = record { records = last.whole.records; spelled = front ∙ last.whole.spelled; allowed = last.whole.allowed };
    begins = begins last.begins;
    parts = parts c.behind rest;
    told = read (drop start (log ++ rest)) (parts c.behind rest) (are_parts (drop start (log ++ rest)) rest c.behind c.both c.behind_ok short);
    are = last.are ∙ ap (λ (p : Parts). p.records)
        (same_parts (parts_in (drop start log)) last.parts (parts c.behind []) last.told
        (read (drop start log) (parts c.behind []) (are_parts (drop start log) [] c.behind (c.left ∙ sym (append-nil (log_bytes c.behind))) c.behind_ok none)));
  }
    where
      within : start ≤ length log
      within = begins_within none log start last.begins

      front : take start (log ++ rest) ≡ take start log
      front = take-append-le start log rest within

      c : Cut log rest start whole.records
      c = cut_at log rest start whole short (record { records = last.whole.records; spelled = front ∙ last.whole.spelled; allowed = last.whole.allowed })
          (let long = length-append log rest in omega (arith, within, long))

      begins : MayBegin start (drop start log) → MayBegin start (drop start (log ++ rest))
      begins (inl e) = inl e
      begins (inr own) = inr (subst (NamesOwn start) (sym c.both) (own_with start rest c.behind c.behind_ok (subst (NamesOwn start) c.left own)))

  pub rest_told : RestIsTold
  rest_told log rest start records whole short last = (subst (λ (p : Parts). start + p.size ≡ length log) (sym same) long, ap (λ (p : Parts). p.tail) same)
    where
      within : start ≤ length (log ++ rest)
      within = begins_within none (log ++ rest) start last.begins

      c : Cut log rest start whole.records
      c = cut_at log rest start whole short last.whole within

      same : last.parts ≡ parts c.behind rest
      same = same_parts (parts_in (drop start (log ++ rest))) last.parts (parts c.behind rest) last.told
          (read (drop start (log ++ rest)) (parts c.behind rest) (are_parts (drop start (log ++ rest)) rest c.behind c.both c.behind_ok short))

      -- the byte is one of the whole records, or their end
      size : length (log_bytes c.first) + length (log_bytes c.behind) ≡ length log
      size = sym (length-append (log_bytes c.first) (log_bytes c.behind)) ∙ ap (λ (z : List ℕ). length z) (sym (both_bytes c.first c.behind) ∙ sym (ap log_bytes c.are) ∙ sym whole.spelled)

      begin : length (log_bytes c.first) ≡ start
      begin = ap (λ (z : List ℕ). length z) (c.first_is) ∙ length-take-le start (log ++ rest) within

      long : start + length (log_bytes c.behind) ≡ length log
      long = omega (arith, size, begin)

  pub last_allowed : LastAreAllowed
  last_allowed log start records whole last = subst (AllByRecursion IsAllowed) (sym same) c.behind_ok
    where
      c : Cut log [] start whole.records
      c = cut_at log [] start whole none (record { records = last.whole.records; spelled = ap (λ (z : List ℕ). take start z) (append-nil log) ∙ last.whole.spelled; allowed = last.whole.allowed })
          (subst (λ (z : List ℕ). start ≤ length z) (sym (append-nil log)) (begins_within none log start last.begins))

      same : records ≡ c.behind
      same = last.are ∙ ap (λ (p : Parts). p.records)
          (same_parts (parts_in (drop start log)) last.parts (parts c.behind []) last.told
          (read (drop start log) (parts c.behind []) (are_parts (drop start log) [] c.behind (c.left ∙ sym (append-nil (log_bytes c.behind))) c.behind_ok none)))

  pub appends_leave : AppendsLeave
  appends_leave new n allowed =
      let f : Front new n = front_of new n allowed in
      record { front = f.front; left = f.rest; rest = f.tail; split = f.split; bytes = f.bytes; is_rest = torn_short cut none f.tail f.torn }
