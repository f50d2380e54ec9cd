-- A step of the survey of a log of a disk.
use Rattle.std.proofs.Common.{◌≡◌, inl, inr, ℕ, ◌+◌, ◌<◌, Bool, true, false, List, [], ◌∷◌, ◌++◌, length, take, Option, Some, None, Result, Ok, Err, sym, ap, subst, ◌∙◌, arith}
use Rattle.std.specs.Prelude.{IsErrAnd, IsErrOf}
use Rattle.ds_disk.specs.Contents.{Contents, log_of}
use Rattle.ds_model.specs.declared.log.LogRecord.{LogRecord}
use Rattle.log_record.specs.Reading.{record_in}
use Rattle.log_head.specs.Heads.{HeadState, IsShort, IsOf, left_bytes}
use Rattle.log_head.specs.Laws.{PartsGoOn, PartsEnd, PartsAreBad}
use Rattle.disk_heads.specs.Records.{IsSound, IsPast, IsNext, IsBadAt}
use Rattle.opening_rows.specs.declared.fault.LogsFault.{LogsFault}
use Rattle.opening_rows.specs.declared.fault.LogsFault.TheVariants.{Failed, Damaged}
use Rattle.opening_rows.specs.Reading.{number_at, HasDamage, FallsAt, BreaksAt, ReadsBy}
use Rattle.opening_rows.specs.Pending.{is_pending}
use Rattle.opening_rows.specs.Survey.{IsCounted, IsPassed, GoesOn, IsOver, Passes, IsSurveyed}
use Rattle.opening_rows.specs.Surveyed.{AreSurveyed}
use Rattle.opening_rows.specs.declared.survey.Found.{Found}
use Rattle.opening_rows.proofs.Told.{reads_to, reads_err, err_to}
use Rattle.opening_rows.proofs.Surveys.{falls, damaged, passes_on, passes_none, nothing_passed, surveyed}
use Rattle.opening_rows.proofs.Opens.{more_surveyed}

abbrev pub NextIn : ℕ → HeadState → HeadState → Option LogRecord → Contents → Type 0
NextIn member h g next c = IsOf (log_of c.logs member) h → IsNext (log_of c.logs member) h g next

abbrev pub BadIn : ℕ → HeadState → ℕ → ℕ → Contents → Type 0
BadIn member h m at c = (m ≡ member) × (IsOf (log_of c.logs member) h → IsBadAt (log_of c.logs member) h at)

abbrev PassedIn : ℕ → HeadState → ℕ → ℕ → (ℕ → Bool) → HeadState → ℕ → ℕ → (ℕ → Bool) → Bool → Contents → Type 0
PassedIn member h low count now g low_now count_now later more c = (before : ℕ → Bool) → IsPassed (log_of c.logs member) h low count before now → Passes (log_of c.logs member) g low_now count_now before later more

abbrev BreaksIn : ℕ → HeadState → ℕ → ℕ → (ℕ → Bool) → ℕ → ℕ → Contents → Type 0
BreaksIn member h low count now m at c = (before : ℕ → Bool) → IsPassed (log_of c.logs member) h low count before now → BreaksAt m at c

-- ---- none is left

pub stays : (next : Option LogRecord) (h g : HeadState) → next ≡ None → IsPast h g next → g.at ≡ h.at
stays None h g e p = p.behind
stays (Some r) h g e p = absurd cc

pub step_none : (a b : Option Contents) (n k member : ℕ) (h g : HeadState) (low count : ℕ) (now : ℕ → Bool) (next : Option LogRecord) → ReadsBy a b n k (NextIn member h g) (BadIn member h) (Ok next) → next ≡ None → IsPast h g next
    → ReadsBy a b n k (PassedIn member h low count now g low count now) (BreaksIn member h low count now) (Ok false)
step_none a b n k member h g low count now next p is past =
    reads_to a b n k (NextIn member h g) (BadIn member h) next (PassedIn member h low count now g low count now) (BreaksIn member h low count now) (Ok false) p
    (λ c told before passed. passes_none (log_of c.logs member) h g low count before now (λ of. subst (λ (o : Option LogRecord). IsNext (log_of c.logs member) h g o) is (told of)) past.end_is (stays next h g is past) passed)
    (λ m at e. absurd (no_error m at e)) (λ e. no_failure e)
  where
    no_error : (m at : ℕ) → IsErrOf {T = Bool} {E = LogsFault} (Ok false) (Damaged m at) → ⊥
    no_error m at e = cc

    no_failure : IsErrOf {T = Bool} {E = LogsFault} (Ok false) Failed → ⊥
    no_failure e = cc

pub goes_none : (h g : HeadState) (next : Option LogRecord) → IsPast h g next → GoesOn h g false
goes_none h g next p = record { behind = tt; within = p.within; end_is = p.end_is; sound = p.sound }

-- ---- one was taken

forward : (next : Option LogRecord) (r : LogRecord) (h g : HeadState) → next ≡ Some r → IsPast h g next → h.at < g.at
forward None r h g e p = absurd cc
forward (Some s) r h g e p = p.behind

pub goes_some : (h g : HeadState) (next : Option LogRecord) (r : LogRecord) → next ≡ Some r → IsPast h g next → GoesOn h g true
goes_some h g next r e p = record { behind = forward next r h g e p; within = p.within; end_is = p.end_is; sound = p.sound }

pub step_some : PartsGoOn → (a b : Option Contents) (n k member : ℕ) (h g late : HeadState) (low count low_now count_now : ℕ) (now later : ℕ → Bool) (next : Option LogRecord) (r : LogRecord)
    → ReadsBy a b n k (NextIn member h g) (BadIn member h) (Ok next) → next ≡ Some r → IsPast h g next → IsCounted low low_now count count_now r → ((tran : ℕ) → later tran ≡ is_pending tran (now tran) (r ∷ [])) → late ≡ g
    → ReadsBy a b n k (PassedIn member h low count now late low_now count_now later) (BreaksIn member h low count now) (Ok true)
step_some goes a b n k member h g late low count low_now count_now now later next r p is past counted noted same =
    subst (λ (j : HeadState). ReadsBy a b n k (PassedIn member h low count now j low_now count_now later) (BreaksIn member h low count now) (Ok true)) (sym same)
    (reads_to a b n k (NextIn member h g) (BadIn member h) next (PassedIn member h low count now g low_now count_now later) (BreaksIn member h low count now) (Ok true) p
    (λ c told before passed. passes_on goes (log_of c.logs member) h g r low low_now count count_now before now later
    (λ of. subst (λ (o : Option LogRecord). IsNext (log_of c.logs member) h g o) is (told of)) past.end_is counted noted passed)
    (λ m at e. absurd (no_error m at e)) (λ e. no_failure e))
  where
    no_error : (m at : ℕ) → IsErrOf {T = Bool} {E = LogsFault} (Ok true) (Damaged m at) → ⊥
    no_error m at e = cc

    no_failure : IsErrOf {T = Bool} {E = LogsFault} (Ok true) Failed → ⊥
    no_failure e = cc

-- ---- damage

-- a number that falls
pub step_falls : {Y : Type 0} (a b : Option Contents) (n k member at : ℕ) (h g : HeadState) (low count : ℕ) (now : ℕ → Bool) (IsR : Y → Contents → Type 0) (next : Option LogRecord) (r : LogRecord) (f : LogsFault) (res : Result Y LogsFault)
    → IsErrAnd res (λ (z : LogsFault). z ≡ f) → ReadsBy a b n k (NextIn member h g) (BadIn member h) (Ok next) → next ≡ Some r → at ≡ h.at
    → ((m i : ℕ) → f ≡ Damaged m i → (m ≡ member) × (i ≡ at + number_at) × (r.lrsn < low)) → (f ≡ Failed → ⊥) → ReadsBy a b n k IsR (BreaksIn member h low count now) res
step_falls a b n k member at h g low count now IsR next r f res is p some here bad never =
    err_to a b n k (NextIn member h g) (BadIn member h) next IsR (BreaksIn member h low count now) f res is p
    (λ m i e c told before passed.
    let d = bad m i e in
    let log : List ℕ = log_of c.logs member in
    let of : IsNext log h g (Some r) = subst (λ (o : Option LogRecord). IsNext log h g o) some (told passed.of) in
    let place : i ≡ h.at + number_at = d.1 ∙ ap (λ (j : ℕ). j + number_at) here in
    let found : FallsAt log i = falls log h g r low count i before now passed of d.2 place in
    inr (subst (λ (j : ℕ). FallsAt (log_of c.logs j) i) (sym d.0) found))
    never

-- a field that isn't allowed
pub step_bad : {Y : Type 0} → PartsAreBad → (a b : Option Contents) (n k member : ℕ) (h g : HeadState) (low count : ℕ) (now : ℕ → Bool) (IsR : Y → Contents → Type 0) (f : LogsFault) (res : Result Y LogsFault)
    → IsErrAnd res (λ (z : LogsFault). z ≡ f) → ReadsBy a b n k (NextIn member h g) (BadIn member h) (Err f) → ReadsBy a b n k IsR (BreaksIn member h low count now) res
step_bad law a b n k member h g low count now IsR f res is p =
    reads_err a b n k (NextIn member h g) (BadIn member h) IsR (BreaksIn member h low count now) f res is p
    (λ m at c bad before passed. inl (subst (λ (j : ℕ). HasDamage j at c) (sym bad.0) (damaged law (log_of c.logs member) h low count at before now passed (bad.1 passed.of))))

-- ---- the whole log

-- nothing is passed yet
pub survey_starts : (a b : Option Contents) (n k member len : ℕ) (h : HeadState) (now : ℕ → Bool) → ReadsBy a b n k (λ (x : ℕ) (c : Contents). x ≡ length (log_of c.logs member)) (λ m at c. ⊥) (Ok len) → h ≡ record { at = 0; hand = []; end = len }
    → ReadsBy a b n k (λ (more : Bool) c. Passes (log_of c.logs member) h 0 0 now now more) (λ m at c. ⊥) (Ok true) × IsSound h
survey_starts a b n k member len h now p is =
    let start : HeadState = record { at = 0; hand = []; end = len } in
    let sound : IsSound start = record { within = omega arith; bytes = λ i. omega arith } in
    subst (λ (j : HeadState). ReadsBy a b n k (λ (more : Bool) c. Passes (log_of c.logs member) j 0 0 now now more) (λ m at c. ⊥) (Ok true) × IsSound j) (sym is) (
      reads_to a b n k (λ (x : ℕ) c. x ≡ length (log_of c.logs member)) (λ m at c. ⊥) len (λ (more : Bool) c. Passes (log_of c.logs member) start 0 0 now now more) (λ m at c. ⊥) (Ok true) p
          (λ c long. record { passed = nothing_passed (log_of c.logs member) len now long; over = tt }) (λ m at e. absurd (no_error m at e)) (λ e. no_failure e),
      sound,
    )
  where
    no_error : (m at : ℕ) → IsErrOf {T = Bool} {E = LogsFault} (Ok true) (Damaged m at) → ⊥
    no_error m at e = cc

    no_failure : IsErrOf {T = Bool} {E = LogsFault} (Ok true) Failed → ⊥
    no_failure e = cc

pub is_over : (log : List ℕ) (h : HeadState) (more : Bool) → more ≡ false → IsOver log h more → IsShort (record_in (left_bytes log h))
is_over log h true e o = absurd cc
is_over log h false e o = o

-- none is left
pub survey_ends : PartsEnd → (a b : Option Contents) (n k member : ℕ) (h : HeadState) (low count : ℕ) (before now : ℕ → Bool) (more : Bool) (found : Found) → ReadsBy a b n k (λ (x : Bool) (c : Contents). Passes (log_of c.logs member) h low count before now x) (λ m at c. ⊥) (Ok more)
    → more ≡ false → found.end ≡ h.at → found.count ≡ count → ReadsBy a b n k (λ (x : Found) c. IsSurveyed (log_of c.logs member) x.end x.count before now) BreaksAt (Ok found)
survey_ends law a b n k member h low count before now more found p none end is =
    reads_to a b n k (λ (x : Bool) c. Passes (log_of c.logs member) h low count before now x) (λ m at c. ⊥) more (λ (x : Found) c. IsSurveyed (log_of c.logs member) x.end x.count before now) BreaksAt (Ok found) p
    (λ c passes. let log : List ℕ = log_of c.logs member in
    subst (λ (e : ℕ). IsSurveyed log e found.count before now) (sym end) (subst (λ (e : ℕ). IsSurveyed log h.at e before now) (sym is) (surveyed law log h low count before now passes.passed (is_over log h more none passes.over))))
    (λ m at e. absurd (no_error m at e)) (λ e. no_failure e)
  where
    no_error : (m at : ℕ) → IsErrOf {T = Found} {E = LogsFault} (Ok found) (Damaged m at) → ⊥
    no_error m at e = cc

    no_failure : IsErrOf {T = Found} {E = LogsFault} (Ok found) Failed → ⊥
    no_failure e = cc

-- ---- one log more

pub surveyed_on : {U : Type 0} (a b : Option Contents) (n k i member : ℕ) (before now : ℕ → Bool) (found : Found) (ends had ends_now had_now : List ℕ) (u : U) → i < 32 → member ≡ i + 1
    → ReadsBy a b n k (λ (x : Found) (c : Contents). IsSurveyed (log_of c.logs member) x.end x.count before now) BreaksAt (Ok found) → ends_now ≡ ends ++ found.end ∷ [] → had_now ≡ had ++ found.count ∷ []
    → ReadsBy a b n k (λ (x : U) c. length c.logs ≡ 32 → AreSurveyed (take i c.logs) ends had before → AreSurveyed (take (i + 1) c.logs) ends_now had_now now) BreaksAt (Ok u)
surveyed_on {U = U} a b n k i member before now found ends had ends_now had_now u lt its p ends_is had_is =
    reads_to a b n k (λ (x : Found) c. IsSurveyed (log_of c.logs member) x.end x.count before now) BreaksAt found (λ (x : U) c. length c.logs ≡ 32 → AreSurveyed (take i c.logs) ends had before → AreSurveyed (take (i + 1) c.logs) ends_now had_now now) BreaksAt (Ok u) p
    (λ c one long s. more_surveyed c.logs i member found.end found.count ends had ends_now had_now before now lt its long s one ends_is had_is)
    (λ m at e. absurd (no_error m at e)) (λ e. no_failure e)
  where
    no_error : (m at : ℕ) → IsErrOf {T = U} {E = LogsFault} (Ok u) (Damaged m at) → ⊥
    no_error m at e = cc

    no_failure : IsErrOf {T = U} {E = LogsFault} (Ok u) Failed → ⊥
    no_failure e = cc
