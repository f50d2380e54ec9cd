-- Where reading logs begins.
use Rattle.std.proofs.Common.{◌≡◌, ℕ, ◌-◌, List, [], ◌∷◌, ◌++◌, length, take, drop, Result, Ok, Err, refl, sym, ap, subst, ◌∙◌, arith}
use Rattle.std.specs.Prelude.{IfOk}
use Rattle.std.specs.List.{AllByRecursion}
use Rattle.std.proofs.lemmas.List.{drop_at}
use Rattle.ds_model.specs.declared.log.LogRecord.{LogRecord}
use Rattle.ds_model.specs.RecordBytes.{record_bytes, log_bytes, IsAllowed}
use Rattle.log_record.specs.declared.fault.RecordFault.TheVariants.{NotWhole}
use Rattle.log_head.specs.Whole.{whole_records}
use Rattle.log_head.specs.Heads.{HeadState, IsOf, left_bytes, left_of}
use Rattle.log_head.specs.Laws.{NothingIsShort, NoneIsWhole, FirstIsWhole}
use Rattle.log_heads.specs.Heads.{HeadsState, heads_of, AreStarts}
use Rattle.log_heads.specs.Logs.{AreOf, left}
use Rattle.disk_walk.specs.Walks.{IsWhole, AreWhole, IsUpTo, AreUpTo, Begins}
use Rattle.disk_walk.proofs.Standing.{Again}

-- the whole records of spellings
spelled_whole : Again → NothingIsShort → NoneIsWhole → FirstIsWhole → (rs : List LogRecord) → AllByRecursion IsAllowed rs → whole_records (log_bytes rs) ≡ rs
spelled_whole again empty none first [] h = none [] NotWhole empty
spelled_whole again empty none first (r ∷ rs) h =
    first (record_bytes r ++ log_bytes rs) r (length (record_bytes r)) (again r (log_bytes rs) h.0)
    ∙ ap (λ (t : List ℕ). r ∷ whole_records t) (drop_at (record_bytes r) (log_bytes rs) (length (record_bytes r)) refl) ∙ ap (λ (l : List LogRecord). r ∷ l) (spelled_whole again empty none first rs h.1)

abbrev AreZeros : List ℕ → Type 0
AreZeros starts = AllByRecursion (λ (s : ℕ). s ≡ 0) starts

starts_within : (starts ends : List ℕ) → AreZeros starts → AreStarts starts ends
starts_within [] ends z = tt
starts_within (s ∷ ss) [] z = tt
starts_within (s ∷ ss) (l ∷ ls) z = (let none = z.0 in omega (arith, none), starts_within ss ls z.1)

record One (log : List ℕ) (h : HeadState) (records : List LogRecord) : Type 0 where
  of : IsOf log h
  whole : IsWhole log h
  left_is : left_of log h ≡ records

one_at : Again → NothingIsShort → NoneIsWhole → FirstIsWhole → (log : List ℕ) (end : ℕ) (records : List LogRecord) → IsUpTo log end records → One log (record { at = 0; hand = []; end = end }) records
one_at again empty none first log end records is =
    let h : HeadState = record { at = 0; hand = []; end = end } in
    let all : end - 0 ≡ end = omega arith in
    let bytes : left_bytes log h ≡ log_bytes records = ap (λ (n : ℕ). take n log) all ∙ is.spelled in
    let its : left_of log h ≡ records = ap whole_records bytes ∙ spelled_whole again empty none first records is.allowed in
    let within = is.within in
    record {
      of = record { within = is.within; fits = omega arith; told = refl };
      whole = (bytes ∙ ap log_bytes (sym its), subst (AllByRecursion IsAllowed) (sym its) is.allowed);
      left_is = its;
    }

record All (logs : List (List ℕ)) (hs : List HeadState) (lists : List (List LogRecord)) : Type 0 where
  of : AreOf logs hs
  whole : AreWhole logs hs
  left_is : left logs hs ≡ lists

all_at : Again → NothingIsShort → NoneIsWhole → FirstIsWhole → (logs : List (List ℕ)) (starts ends : List ℕ) (lists : List (List LogRecord)) → AreZeros starts → length starts ≡ length ends → AreUpTo logs ends lists → All logs (heads_of starts ends) lists
all_at again empty none first [] [] [] [] z long are = record { of = tt; whole = tt; left_is = refl }
all_at again empty none first [] (s ∷ ss) [] [] z long are = absurd (omega (arith, long))
all_at again empty none first [] starts [] (rs ∷ lists) z long are = absurd are
all_at again empty none first [] starts (e ∷ ends) lists z long are = absurd are
all_at again empty none first (log ∷ logs) starts [] lists z long are = absurd are
all_at again empty none first (log ∷ logs) starts (e ∷ ends) [] z long are = absurd are
all_at again empty none first (log ∷ logs) [] (e ∷ ends) (rs ∷ lists) z long are = absurd (omega (arith, long))
all_at again empty none first (log ∷ logs) (s ∷ ss) (e ∷ ends) (rs ∷ lists) z long are =
    let one = subst (λ (k : ℕ). One log (record { at = k; hand = []; end = e }) rs) (sym z.0) (one_at again empty none first log e rs are.0) in
    let more = all_at again empty none first logs ss ends lists z.1 (omega (arith, long)) are.1 in
    record {
      of = (one.of, more.of);
      whole = (one.whole, more.whole);
      left_is = ap (λ (l : List LogRecord). l ∷ left logs (heads_of ss ends)) one.left_is ∙ ap (λ (ls : List (List LogRecord)). rs ∷ ls) more.left_is;
    }

abbrev pub starts_32 : List ℕ
starts_32 = 0 ∷ 0 ∷ 0 ∷ 0 ∷ 0 ∷ 0 ∷ 0 ∷ 0 ∷ 0 ∷ 0 ∷ 0 ∷ 0 ∷ 0 ∷ 0 ∷ 0 ∷ 0 ∷ 0 ∷ 0 ∷ 0 ∷ 0 ∷ 0 ∷ 0 ∷ 0 ∷ 0 ∷ 0 ∷ 0 ∷ 0 ∷ 0 ∷ 0 ∷ 0 ∷ 0 ∷ 0 ∷ []

zeros_32 : AreZeros starts_32
zeros_32 = (refl, (refl, (refl, (refl, (refl, (refl, (refl, (refl, (refl, (refl, (refl, (refl, (refl, (refl, (refl, (refl, (refl, (refl, (refl, (refl, (refl, (refl, (refl, (refl, (refl, (refl, (refl, (refl, (refl, (refl, (refl, (refl, tt))))))))))))))))))))))))))))))))

count_32 : length starts_32 ≡ 32
count_32 = refl

pub within_32 : (ends : List ℕ) → AreStarts starts_32 ends
within_32 ends = starts_within starts_32 ends zeros_32

pub begin : Again → NothingIsShort → NoneIsWhole → FirstIsWhole → (logs : List (List ℕ)) (ends : List ℕ) (lists : List (List LogRecord)) (heads : List HeadState) → length ends ≡ 32 → heads ≡ heads_of starts_32 ends → AreUpTo logs ends lists
    → Begins logs heads lists
begin again empty none first logs ends lists heads long is are =
    let a = all_at again empty none first logs starts_32 ends lists zeros_32 (count_32 ∙ sym long) are in
    subst (λ (hs : List HeadState). Begins logs hs lists) (sym is) (record { stand = record { of = a.of; whole = a.whole }; left_is = a.left_is })

pub begin_if : {E : Type 0} → Again → NothingIsShort → NoneIsWhole → FirstIsWhole → (ends : List ℕ) (block : ℕ) (result : Result HeadsState E) → length ends ≡ 32 → IfOk result (λ h. h ≡ record { block = block; heads = heads_of starts_32 ends })
    → IfOk result (λ heads. (logs : List (List ℕ)) (lists : List (List LogRecord)) → AreUpTo logs ends lists → Begins logs heads.heads lists)
begin_if again empty none first ends block (Ok h) long e = λ logs lists are. begin again empty none first logs ends lists h.heads long (ap (λ (x : HeadsState). x.heads) e) are
begin_if again empty none first ends block (Err f) long e = tt
