-- A log that is passed record by record, up to where its whole records end.
use Rattle.std.proofs.Common.{◌≡◌, ℕ, ◌+◌, ◌-◌, ◌<◌, ◌≤◌, Bool, true, false, inl, inr, ◌⊎◌, List, [], ◌∷◌, ◌++◌, length, take, drop, Option, Some, None, Ok, refl, sym, ap, subst, ◌∙◌, append_assoc, arith}
use Rattle.std.specs.Prelude.{◌↔◌, nat_lt, IsTrue, map}
use Rattle.std.proofs.lemmas.Bool.{ltb-true}
use Rattle.std.specs.List.{AllByRecursion}
use Rattle.std.proofs.lemmas.List.{append-nil, length-append, length-drop, take_all, take_more, map_push, length-take-le}
use Rattle.std.proofs.lemmas.List.Concat.{flat_map-append}
use Rattle.ds_disk.specs.Contents.{Contents, log_of, WhenTold, Becomes, Same}
use Rattle.ds_model.specs.declared.log.LogRecord.{LogRecord}
use Rattle.ds_model.specs.Logs.{IsTorn}
use Rattle.ds_model.specs.RecordBytes.{record_bytes, log_bytes, IsAllowed}
use Rattle.log_record.specs.declared.log.Log.{Log}
use Rattle.log_merge.specs.Merging.{RisesFrom}
use Rattle.log_record.specs.Reading.{record_in}
use Rattle.log_record.specs.declared.fault.RecordFault.TheVariants.{Bad}
use Rattle.log_head.specs.Heads.{HeadState, IsShort, IsOf, left_bytes}
use Rattle.log_head.specs.Laws.{RecordIsFramed}
use Rattle.disk_heads.specs.Records.{IsSound, IsPast, IsNext, IsBadAt}
use Rattle.sound_disk.specs.Laws.{last_number}
use Rattle.sound_disk.specs.Whole_logs.{IsWholeLog, AreWholeLogs}
use Rattle.disk_logs.specs.declared.ends.Step.{Step}
use Rattle.disk_logs.specs.declared.ends.Step.TheVariants as step
use Rattle.disk_logs.specs.declared.ends.LogEnd.{LogEnd}
use Rattle.disk_logs.specs.declared.ends.LogEnd.TheVariants as end
use Rattle.whole_logs.specs.Breaks.{BreaksOff, NoneFollows}
use Rattle.whole_logs.proofs.Walking.{Again, Cut, none_lower, none_allowed}
use Rattle.disk_logs.specs.Broken.{IsFirstBroken}
use Rattle.disk_logs.specs.Ends.{IsPassed, IsOver, Passes, IsCounted, IsFurther, GoesOn, ArePassedTo, IsReached, IsWholeTo, IsEnd, ended_at, lengths_of, AreWholeTo}
use Rattle.disk_logs.proofs.Members.{Has32, more_in, broken_in, on_start}

-- ---- what is told

pub told_by : (start : Option Contents) (P Q : Contents → Type 0) → ((c : Contents) → P c → Q c) → WhenTold start P → WhenTold start Q
told_by None P Q f p = tt
told_by (Some c) P Q f p = f c p

pub told_by_both : (start : Option Contents) (P Q R : Contents → Type 0) → ((c : Contents) → P c → Q c → R c) → WhenTold start P → WhenTold start Q → WhenTold start R
told_by_both None P Q R f p q = tt
told_by_both (Some c) P Q R f p q = f c p q

-- ---- one record more

last_more : (low : ℕ) (rs : List LogRecord) (r : LogRecord) → last_number low (rs ++ r ∷ []) ≡ r.lrsn
last_more low [] r = refl
last_more low (s ∷ ss) r = last_more s.lrsn ss r

rises_more : (low : ℕ) (rs : List LogRecord) (r : LogRecord) → RisesFrom low rs → last_number low rs ≤ r.lrsn → RisesFrom low (rs ++ r ∷ [])
rises_more low [] r h le = (le, tt)
rises_more low (s ∷ ss) r h le = (h.0, rises_more s.lrsn ss r h.1 le)

allowed_more : (rs : List LogRecord) (r : LogRecord) → AllByRecursion IsAllowed rs → IsAllowed r → AllByRecursion IsAllowed (rs ++ r ∷ [])
allowed_more [] r h is = (is, tt)
allowed_more (s ∷ ss) r h is = (h.0, allowed_more ss r h.1 is)

bytes_more : (rs : List LogRecord) (r : LogRecord) → log_bytes (rs ++ r ∷ []) ≡ log_bytes rs ++ record_bytes r
bytes_more rs r = flat_map-append record_bytes rs (r ∷ []) ∙ ap (λ (t : List ℕ). log_bytes rs ++ t) (append-nil (record_bytes r))

one_more : (log : List ℕ) (h g : HeadState) (r : LogRecord) (low now : ℕ) → IsPassed log h low → IsNext log h g (Some r) → g.end ≡ h.end → low ≤ r.lrsn → now ≡ r.lrsn → IsPassed log g now
one_more log h g r low now p n end le is =
    let f = n.next_of in
    let rs : List LogRecord = p.records in
    let long = length-append (log_bytes rs) (record_bytes r) in
    let whole : length (log_bytes (rs ++ r ∷ [])) ≡ length (log_bytes rs ++ record_bytes r) = ap length (bytes_more rs r) in
    record {
      records = rs ++ r ∷ [];
      of = n.of;
      whole = end ∙ p.whole;
      spelled = p.spelled ∙ ap (λ (t : List ℕ). log_bytes rs ++ t) f.spelled ∙ sym (append_assoc (log_bytes rs) (record_bytes r) (left_bytes log g)) ∙ ap (λ (t : List ℕ). t ++ left_bytes log g) (sym (bytes_more rs r));
      allowed = allowed_more rs r p.allowed f.allowed;
      at_is = omega (arith, f.at_is, p.at_is, long, whole);
      rises = rises_more 0 rs r p.rises (subst (λ (k : ℕ). k ≤ r.lrsn) p.low_is le);
      low_is = is ∙ sym (last_more 0 rs r);
    }

none_more : (log : List ℕ) (h g : HeadState) (low : ℕ) → IsPassed log h low → IsNext log h g None → g.end ≡ h.end → g.at ≡ h.at → IsOver log g low
none_more log h g low p n end at =
    let same : left_bytes log g ≡ left_bytes log h = n.next_of.1 in
    record {
      passed = record {
        records = p.records;
        of = n.of;
        whole = end ∙ p.whole;
        spelled = p.spelled ∙ ap (λ (t : List ℕ). log_bytes p.records ++ t) (sym same);
        allowed = p.allowed;
        at_is = at ∙ p.at_is;
        rises = p.rises;
        low_is = p.low_is;
      };
      short = subst (λ (t : List ℕ). IsShort (record_in t)) (sym same) n.next_of.0;
    }

-- ---- where it breaks off

last_below : (low : ℕ) (rs : List LogRecord) (r : LogRecord) → RisesFrom low (rs ++ r ∷ []) → last_number low rs ≤ r.lrsn
last_below low [] r h = h.0
last_below low (s ∷ ss) r h = last_below s.lrsn ss r h.1

breaks_at : (log : List ℕ) (h : HeadState) (low at : ℕ) → IsPassed log h low → at ≡ h.at → NoneFollows low (left_bytes log h) → BreaksOff log at
breaks_at log h low at p is none = record {
  records = p.records;
  rest = left_bytes log h;
  split = p.spelled;
  allowed = p.allowed;
  rising = p.rises;
  not_torn = none.not_torn;
  no_record = λ r more ok e rises. none.no_record r more ok e (let last = last_below 0 p.records r rises in let low_is = p.low_is in omega (arith, low_is, last));
  place = is ∙ p.at_is;
}

damaged : Again → Cut → (log : List ℕ) (h : HeadState) (low at bad : ℕ) → IsPassed log h low → at ≡ h.at → IsBadAt log h bad → BreaksOff log at
damaged again cut log h low at bad p is b = breaks_at log h low at p is (none_allowed again cut low (left_bytes log h) b.field b.bad)

lower : Again → Cut → (log : List ℕ) (h g : HeadState) (r : LogRecord) (low at : ℕ) → IsPassed log h low → at ≡ h.at → IsNext log h g (Some r) → r.lrsn < low → BreaksOff log at
lower again cut log h g r low at p is n lt = breaks_at log h low at p is (none_lower again cut low (left_bytes log h) r (length (record_bytes r)) n.next_of.is_read lt)

-- what a step leaves
abbrev NextIs : ℕ → HeadState → HeadState → Option LogRecord → Contents → Type 0
NextIs member h g next c = IsOf (log_of c.logs member) h → IsNext (log_of c.logs member) h g next

abbrev PassesOn : ℕ → HeadState → HeadState → ℕ → ℕ → Step → Contents → Type 0
PassesOn member h g low now s c = IsPassed (log_of c.logs member) h low → Passes (log_of c.logs member) g now s

pub step_none : (a : Option Contents) (member : ℕ) (h g : HeadState) (low : ℕ) (next : Option LogRecord) → next ≡ None → IsPast h g next → WhenTold a (NextIs member h g next) → WhenTold a (PassesOn member h g low low step.Over)
step_none a member h g low next e past told =
    let ends : IsPast h g None = subst (IsPast h g) e past in
    told_by a (NextIs member h g next) (PassesOn member h g low low step.Over)
    (λ c next_is p. none_more (log_of c.logs member) h g low p (subst (IsNext (log_of c.logs member) h g) e (next_is p.of)) ends.end_is ends.behind) told

step_when : Again → Cut → (s : Step) (log : List ℕ) (h g : HeadState) (r : LogRecord) (low now at : ℕ) → IsCounted low now at r.lrsn s → at ≡ h.at → IsNext log h g (Some r) → g.end ≡ h.end → IsPassed log h low → Passes log g now s
step_when again cut step.On log h g r low now at is here n end p = one_more log h g r low now p n end is.0 is.1
step_when again cut step.Over log h g r low now at is here n end p = absurd is
step_when again cut (step.Broken place) log h g r low now at is here n end p = lower again cut log h g r low place p (is.1 ∙ here) n is.0

pub step_some : Again → Cut → (a : Option Contents) (member : ℕ) (h g : HeadState) (low now at : ℕ) (next : Option LogRecord) (r : LogRecord) (s : Step) → next ≡ Some r → IsCounted low now at r.lrsn s → at ≡ h.at → IsPast h g next
    → WhenTold a (NextIs member h g next) → WhenTold a (PassesOn member h g low now s)
step_some again cut a member h g low now at next r s e on here past told =
    told_by a (NextIs member h g next) (PassesOn member h g low now s)
    (λ c next_is p. step_when again cut s (log_of c.logs member) h g r low now at on here (subst (IsNext (log_of c.logs member) h g) e (next_is p.of)) past.end_is p) told

pub step_bad : Again → Cut → (a : Option Contents) (member : ℕ) (h g : HeadState) (low now at bad : ℕ) → at ≡ h.at → WhenTold a (λ (c : Contents). IsOf (log_of c.logs member) h → IsBadAt (log_of c.logs member) h bad)
    → WhenTold a (PassesOn member h g low now (step.Broken at))
step_bad again cut a member h g low now at bad here told =
    told_by a (λ (c : Contents). IsOf (log_of c.logs member) h → IsBadAt (log_of c.logs member) h bad) (PassesOn member h g low now (step.Broken at))
    (λ c bad_is p. damaged again cut (log_of c.logs member) h low at bad p here (bad_is p.of)) told

further : (h g : HeadState) (next : Option LogRecord) (r : LogRecord) → next ≡ Some r → IsPast h g next → IsFurther h g
further h g next r e past = let p : IsPast h g (Some r) = subst (IsPast h g) e past in record { behind = p.behind; within = p.within; end_is = p.end_is; sound = p.sound }

pub goes_when : (s : Step) (h g : HeadState) (next : Option LogRecord) (r : LogRecord) → next ≡ Some r → IsPast h g next → GoesOn h g s
goes_when step.On h g next r e past = further h g next r e past
goes_when step.Over h g next r e past = tt
goes_when (step.Broken at) h g next r e past = tt

-- ---- the whole log

-- what is in hand is sound as long as reading goes on
abbrev pub SoundWhile : Step → HeadState → Type 0
SoundWhile step.On h = IsSound h
SoundWhile step.Over h = Unit {0}
SoundWhile (step.Broken at) h = Unit {0}

pub sound_on : (s : Step) (h g : HeadState) → GoesOn h g s → SoundWhile s g
sound_on step.On h g f = f.sound
sound_on step.Over h g f = tt
sound_on (step.Broken at) h g f = tt

pub sound_start : (n : ℕ) (h : HeadState) → h ≡ record { at = 0; hand = []; end = n } → IsSound h
sound_start n h e = subst IsSound (sym e) (record { within = omega arith; bytes = λ i. omega arith })

abbrev pub rank : Step → ℕ → ℕ
rank step.On n = n + 1
rank step.Over n = 0
rank (step.Broken at) n = 0

pub falls : (s : Step) (h g : HeadState) → GoesOn h g s → rank s (g.end - g.at) < rank step.On (h.end - h.at)
falls step.On h g f = omega (arith, f.behind, f.within, f.end_is)
falls step.Over h g f = omega arith
falls (step.Broken at) h g f = omega arith

start_of : (log : List ℕ) (n : ℕ) → n ≡ length log → IsPassed log (record { at = 0; hand = []; end = n }) 0
start_of log n is =
    let h : HeadState = record { at = 0; hand = []; end = n } in
    let all : left_bytes log h ≡ log = take_all (n - 0) log (omega (arith, is)) in
    record {
      records = [];
      of = record { within = omega (arith, is); fits = omega arith; told = refl };
      whole = is;
      spelled = sym all;
      allowed = tt;
      at_is = refl;
      rises = tt;
      low_is = refl;
    }

pub starts : (a : Option Contents) (member n : ℕ) (h : HeadState) → h ≡ record { at = 0; hand = []; end = n } → WhenTold a (λ (c : Contents). n ≡ length (log_of c.logs member)) → WhenTold a (λ (c : Contents). Passes (log_of c.logs member) h 0 step.On)
starts a member n h e told =
    told_by a (λ (c : Contents). n ≡ length (log_of c.logs member)) (λ (c : Contents). Passes (log_of c.logs member) h 0 step.On)
    (λ c is. subst (λ (g : HeadState). IsPassed (log_of c.logs member) g 0) (sym e) (start_of (log_of c.logs member) n is)) told

passed_to : (log : List ℕ) (h : HeadState) (low : ℕ) → IsOver log h low → ArePassedTo log h.at
passed_to log h low o =
    let p = o.passed in
    let count = length-drop h.at log in
    let all : left_bytes log h ≡ drop h.at log = take_all (h.end - h.at) (drop h.at log) (let whole = p.whole in omega (arith, whole, count)) in
    record {
      records = p.records;
      spelled = p.spelled ∙ ap (λ (t : List ℕ). log_bytes p.records ++ t) all;
      allowed = p.allowed;
      at_is = p.at_is;
      rises = p.rises;
      short = subst (λ (t : List ℕ). IsShort (record_in t)) all o.short;
    }

pub ends : (a : Option Contents) (member : ℕ) (h : HeadState) (low at : ℕ) (s : Step) → s ≡ step.Over → at ≡ h.at → WhenTold a (λ (c : Contents). Passes (log_of c.logs member) h low s) → WhenTold a (λ (c : Contents). IsReached (log_of c.logs member) (end.Whole at))
ends a member h low at s e is told =
    told_by a (λ (c : Contents). Passes (log_of c.logs member) h low s) (λ (c : Contents). IsReached (log_of c.logs member) (end.Whole at))
    (λ c p. subst (ArePassedTo (log_of c.logs member)) (sym is) (passed_to (log_of c.logs member) h low (subst (Passes (log_of c.logs member) h low) e p))) told

pub ends_broken : (a : Option Contents) (member : ℕ) (h : HeadState) (low at : ℕ) (s : Step) → s ≡ step.Broken at → WhenTold a (λ (c : Contents). Passes (log_of c.logs member) h low s) → WhenTold a (λ (c : Contents). IsReached (log_of c.logs member) (end.Broken at))
ends_broken a member h low at s e told =
    told_by a (λ (c : Contents). Passes (log_of c.logs member) h low s) (λ (c : Contents). IsReached (log_of c.logs member) (end.Broken at)) (λ c p. subst (Passes (log_of c.logs member) h low) e p) told

-- ---- with its tail

abbrev whole_log : ℕ → List LogRecord → ℕ → ℕ → Log
whole_log member records size tail = record { member = member; records = records; length = size; tail = tail }

whole_to : (member : ℕ) (log : List ℕ) (at : ℕ) → ArePassedTo log at → IsTorn (drop at log) → IsWholeTo member log at
whole_to member log at p torn =
    let count = length-append (log_bytes p.records) (drop at log) in
    let long : length log ≡ length (log_bytes p.records ++ drop at log) = ap length p.spelled in
    let at_is = p.at_is in
    record {
      log = whole_log member p.records at (length (drop at log));
      is = record {
        member_is = refl;
        records_are = record { tail = drop at log; whole = p.spelled; allowed = p.allowed; torn = torn };
        length_is = p.at_is;
        tail_is = omega (arith, count, long, at_is);
        rising = p.rises;
      };
      end_is = refl;
    }

-- what is left is no whole record, nor a torn one
read_short : Again → (rest more : List ℕ) (r : LogRecord) → IsAllowed r → rest ≡ record_bytes r ++ more → IsShort (record_in rest) → ⊥
read_short again rest more r ok e short =
    let read : record_in rest ≡ Ok (r, length (record_bytes r)) = ap record_in e ∙ again r more ok in
    subst IsShort read short

broken_to : Again → (log : List ℕ) (at : ℕ) → ArePassedTo log at → (IsTorn (drop at log) → ⊥) → BreaksOff log at
broken_to again log at p untorn = record {
  records = p.records;
  rest = drop at log;
  split = p.spelled;
  allowed = p.allowed;
  rising = p.rises;
  not_torn = untorn;
  no_record = λ r more ok e rises. read_short again (drop at log) more r ok e p.short;
  place = p.at_is;
}

not_true : false ≡ true → ⊥
not_true e = cc

end_when : Again → (member : ℕ) (log : List ℕ) (at : ℕ) (torn : Bool) → ArePassedTo log at → (IsTrue torn ↔ IsTorn (drop at log)) → IsEnd member log (ended_at at torn)
end_when again member log at true p tells = whole_to member log at p (tells.0 refl)
end_when again member log at false p tells = broken_to again log at p (λ t. not_true (tells.1 t))

within : (log : List ℕ) (at : ℕ) → ArePassedTo log at → at ≤ length log
within log at p =
    let count = length-append (log_bytes p.records) (drop at log) in
    let long : length log ≡ length (log_bytes p.records ++ drop at log) = ap length p.spelled in
    let at_is = p.at_is in
    omega (arith, count, long, at_is)

-- ---- a torn tail isn't longer than a record

limit_of : Again → RecordIsFramed → (r : LogRecord) → IsAllowed r → length (record_bytes r) ≤ 16384
limit_of again framed r ok = let f = framed (record_bytes r ++ []) r (length (record_bytes r)) (again r [] ok) in f.1

torn_limit : Again → RecordIsFramed → (tail : List ℕ) → IsTorn tail → length tail ≤ 16384
torn_limit again framed tail (inl none) = let e : length tail ≡ 0 = ap length none in omega (arith, e)
torn_limit again framed tail (inr t) =
    let most = limit_of again framed t.0 t.1 in
    let e : length tail ≡ length (take t.2 (record_bytes t.0)) = ap length t.4 in
    let long = length-take-le t.2 (record_bytes t.0) (let lt = t.3 in omega (arith, lt)) in
    let lt = t.3 in
    omega (arith, e, long, most, lt)

untorn_when : Again → RecordIsFramed → (log : List ℕ) (at : ℕ) → at ≤ length log → 16384 < length log - at → IsTorn (drop at log) → ⊥
untorn_when again framed log at le more t =
    let few = torn_limit again framed (drop at log) t in
    let count = length-drop at log in
    omega (arith, few, count, le, more)

pub untorn_told : Again → RecordIsFramed → (a : Option Contents) (member at size tail : ℕ) (long : Bool) → tail ≡ size - at → long ≡ nat_lt 16384 tail → long ≡ true → WhenTold a (λ (c : Contents). size ≡ length (log_of c.logs member))
    → WhenTold a (λ (c : Contents). at ≤ length (log_of c.logs member) → (IsTrue false ↔ IsTorn (drop at (log_of c.logs member))))
untorn_told again framed a member at size tail long tail_is long_is holds_it told =
    told_by a (λ (c : Contents). size ≡ length (log_of c.logs member)) (λ (c : Contents). at ≤ length (log_of c.logs member) → (IsTrue false ↔ IsTorn (drop at (log_of c.logs member))))
    (λ c size_is le. (λ (fails_it : false ≡ true). absurd (not_true fails_it), λ t. absurd (untorn_when again framed (log_of c.logs member) at le (more (log_of c.logs member) size_is) t))) told
  where
    more : (log : List ℕ) → size ≡ length log → 16384 < length log - at
    more log size_is = (let lt : 16384 < tail = ltb-true 16384 tail (sym long_is ∙ holds_it) in omega (arith, lt, tail_is, size_is))

pub torn_told : (a b : Option Contents) (member at size tail : ℕ) (bytes : List ℕ) (torn : Bool) → tail ≡ size - at → (IsTrue torn ↔ IsTorn bytes) → WhenTold a (λ (c : Contents). size ≡ length (log_of c.logs member)) → Becomes a b Same
    → WhenTold b (λ (c : Contents). length (log_of c.logs member) ≤ at + tail → bytes ≡ drop at (log_of c.logs member)) → WhenTold a (λ (c : Contents). at ≤ length (log_of c.logs member) → (IsTrue torn ↔ IsTorn (drop at (log_of c.logs member))))
torn_told a b member at size tail bytes torn tail_is tells p same q =
    told_by_both a (λ (c : Contents). size ≡ length (log_of c.logs member)) (λ (c : Contents). length (log_of c.logs member) ≤ at + tail → bytes ≡ drop at (log_of c.logs member))
    (λ (c : Contents). at ≤ length (log_of c.logs member) → (IsTrue torn ↔ IsTorn (drop at (log_of c.logs member))))
    (λ c size_is read le. subst (λ (t : List ℕ). IsTrue torn ↔ IsTorn t) (read (omega (arith, size_is, tail_is, le))) tells) p
    (on_start a b (λ (c : Contents). length (log_of c.logs member) ≤ at + tail → bytes ≡ drop at (log_of c.logs member)) same q)

-- ---- one log more

-- the logs of the first members are whole
abbrev pub AreFirst : ℕ → List ℕ → Contents → Type 0
AreFirst i ends c = AreWholeTo (take i c.logs) ends

pub none_ended : (a : Option Contents) (ends : List ℕ) → ends ≡ [] → WhenTold a (AreFirst 0 ends)
none_ended None ends e = tt
none_ended (Some c) ends e = record { logs = []; are = tt; ends_are = e }

one_ended : (logs : List (List ℕ)) (i end : ℕ) (ends now : List ℕ) → length logs ≡ 32 → i < 32 → now ≡ ends ++ end ∷ [] → AreWholeTo (take i logs) ends → IsWholeTo (i + 1) (log_of logs (i + 1)) end → AreWholeTo (take (i + 1) logs) now
one_ended logs i end ends now long lt is h k = record {
  logs = h.logs ++ k.log ∷ [];
  are = more_in logs i h.logs k.log long lt h.are k.is;
  ends_are = is ∙ ap (λ (es : List ℕ). es ++ end ∷ []) h.ends_are ∙ ap (λ (e : ℕ). lengths_of h.logs ++ e ∷ []) k.end_is ∙ sym (map_push (λ (l : Log). l.length) h.logs k.log);
}

pub more_ended : (a : Option Contents) (i member end : ℕ) (ends now : List ℕ) → Has32 a → i < 32 → member ≡ i + 1 → now ≡ ends ++ end ∷ [] → WhenTold a (AreFirst i ends) → WhenTold a (λ (c : Contents). IsWholeTo member (log_of c.logs member) end)
    → WhenTold a (AreFirst (i + 1) now)
more_ended None i member end ends now has lt its is h k = tt
more_ended (Some c) i member end ends now has lt its is h k = one_ended c.logs i end ends now (has c refl) lt is h (subst (λ (m : ℕ). IsWholeTo m (log_of c.logs m) end) its k)

pub all_ended : (a : Option Contents) (i : ℕ) (ends : List ℕ) → Has32 a → 32 ≤ i → WhenTold a (AreFirst i ends) → WhenTold a (λ (c : Contents). AreWholeTo c.logs ends)
all_ended None i ends has le h = tt
all_ended (Some c) i ends has le h = subst (λ (l : List (List ℕ)). AreWholeTo l ends) (take_all i c.logs (let long = has c refl in omega (arith, long, le))) h

-- ---- from what was found

pub end_told : Again → (a b : Option Contents) (member at : ℕ) (found : LogEnd) (torn : Bool) → found ≡ end.Whole at → WhenTold a (λ (c : Contents). IsReached (log_of c.logs member) found) → Becomes a b Same
    → WhenTold b (λ (c : Contents). at ≤ length (log_of c.logs member) → (IsTrue torn ↔ IsTorn (drop at (log_of c.logs member)))) → WhenTold a (λ (c : Contents). IsEnd member (log_of c.logs member) (ended_at at torn))
end_told again a b member at found torn is p same q =
    told_by_both a (λ (c : Contents). IsReached (log_of c.logs member) found) (λ (c : Contents). at ≤ length (log_of c.logs member) → (IsTrue torn ↔ IsTorn (drop at (log_of c.logs member))))
    (λ (c : Contents). IsEnd member (log_of c.logs member) (ended_at at torn))
    (λ c reached tail. let passed : ArePassedTo (log_of c.logs member) at = subst (IsReached (log_of c.logs member)) is reached in end_when again member (log_of c.logs member) at torn passed (tail (within (log_of c.logs member) at passed))) p
    (on_start a b (λ (c : Contents). at ≤ length (log_of c.logs member) → (IsTrue torn ↔ IsTorn (drop at (log_of c.logs member)))) same q)

pub end_broken : (a : Option Contents) (member at : ℕ) (found : LogEnd) → found ≡ end.Broken at → WhenTold a (λ (c : Contents). IsReached (log_of c.logs member) found) → WhenTold a (λ (c : Contents). IsEnd member (log_of c.logs member) (end.Broken at))
end_broken a member at found is p = told_by a (λ (c : Contents). IsReached (log_of c.logs member) found) (λ (c : Contents). IsEnd member (log_of c.logs member) (end.Broken at)) (λ c reached. subst (IsReached (log_of c.logs member)) is reached) p

pub found_ended : (a b : Option Contents) (i member at : ℕ) (found : LogEnd) (ends now : List ℕ) → Has32 a → i < 32 → member ≡ i + 1 → found ≡ end.Whole at → now ≡ ends ++ at ∷ [] → WhenTold a (AreFirst i ends) → Becomes a b Same
    → WhenTold b (λ (c : Contents). IsEnd member (log_of c.logs member) found) → WhenTold a (AreFirst (i + 1) now)
found_ended a b i member at found ends now has lt its is put h same k =
    more_ended a i member at ends now has lt its put h
    (told_by a (λ (c : Contents). IsEnd member (log_of c.logs member) found) (λ (c : Contents). IsWholeTo member (log_of c.logs member) at) (λ c q. subst (IsEnd member (log_of c.logs member)) is q)
    (on_start a b (λ (c : Contents). IsEnd member (log_of c.logs member) found) same k))

broken_first : (a : Option Contents) (i member at : ℕ) (ends : List ℕ) → Has32 a → i < 32 → member ≡ i + 1 → WhenTold a (AreFirst i ends) → WhenTold a (λ (c : Contents). BreaksOff (log_of c.logs member) at) → WhenTold a (λ (c : Contents). IsFirstBroken c.logs member at)
broken_first None i member at ends has lt its h k = tt
broken_first (Some c) i member at ends has lt its h k =
    subst (λ (m : ℕ). IsFirstBroken c.logs m at) (sym its) (broken_in c.logs i at h.logs (has c refl) lt h.are (subst (λ (m : ℕ). BreaksOff (log_of c.logs m) at) its k))

pub found_broken : (a b : Option Contents) (i member at : ℕ) (found : LogEnd) (ends : List ℕ) → Has32 a → i < 32 → member ≡ i + 1 → found ≡ end.Broken at → WhenTold a (AreFirst i ends) → Becomes a b Same
    → WhenTold b (λ (c : Contents). IsEnd member (log_of c.logs member) found) → WhenTold a (λ (c : Contents). IsFirstBroken c.logs member at)
found_broken a b i member at found ends has lt its is h same k =
    broken_first a i member at ends has lt its h
    (told_by a (λ (c : Contents). IsEnd member (log_of c.logs member) found) (λ (c : Contents). BreaksOff (log_of c.logs member) at) (λ c q. subst (IsEnd member (log_of c.logs member)) is q)
    (on_start a b (λ (c : Contents). IsEnd member (log_of c.logs member) found) same k))

pub end_made : (a : Option Contents) (member at : ℕ) (made : LogEnd) (torn : Bool) → made ≡ ended_at at torn → WhenTold a (λ (c : Contents). IsEnd member (log_of c.logs member) (ended_at at torn)) → WhenTold a (λ (c : Contents). IsEnd member (log_of c.logs member) made)
end_made a member at made torn is p = told_by a (λ (c : Contents). IsEnd member (log_of c.logs member) (ended_at at torn)) (λ (c : Contents). IsEnd member (log_of c.logs member) made) (λ c e. subst (IsEnd member (log_of c.logs member)) (sym is) e) p
