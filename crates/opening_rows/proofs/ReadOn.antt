-- A step of reading a log of a disk to its end.
use Rattle.std.proofs.Common.{◌≡◌, ℕ, ◌-◌, Bool, true, false, [], length, Option, Some, None, Result, Ok, Err, sym, subst, arith}
use Rattle.std.specs.Prelude.{IsErrAnd, IsErrOf}
use Rattle.ds_disk.specs.Contents.{Contents, log_of}
use Rattle.ds_model.specs.declared.log.LogRecord.{LogRecord}
use Rattle.log_head.specs.Heads.{HeadState}
use Rattle.log_head.specs.Laws.{PartsGoOn, PartsEnd, PartsAreBad}
use Rattle.disk_heads.specs.Records.{IsSound, IsPast, IsNext}
use Rattle.opening_rows.specs.declared.fault.LogsFault.{LogsFault}
use Rattle.opening_rows.specs.declared.fault.LogsFault.TheVariants.{Failed, Damaged}
use Rattle.opening_rows.specs.Reading.{HasDamage, ReadsBy}
use Rattle.opening_rows.specs.declared.taken.Taken.{Taken}
use Rattle.opening_rows.specs.declared.reading.LogRead.{LogRead}
use Rattle.opening_rows.specs.Kept.{HasTaken, Adds}
use Rattle.opening_rows.specs.LogReads.{IsReadTo, GoesTo, IsReadOf}
use Rattle.opening_rows.proofs.Told.{reads_on, reads_to, reads_err}
use Rattle.opening_rows.proofs.LogTaken.{goes_on, goes_none, damaged, nothing_read, log_found}
use Rattle.opening_rows.proofs.Steps.{NextIn, BadIn, stays, is_over}

abbrev ReadIn : ℕ → (ℕ → Bool) → ℕ → HeadState → Taken → HeadState → Taken → Bool → Contents → Type 0
ReadIn member keeps had h old g new more c = IsReadTo (log_of c.logs member) keeps had h old → GoesTo (log_of c.logs member) keeps had g new more

abbrev DamagedIn : ℕ → (ℕ → Bool) → ℕ → HeadState → Taken → ℕ → ℕ → Contents → Type 0
DamagedIn member keeps had h old m at c = IsReadTo (log_of c.logs member) keeps had h old → HasDamage m at c

no_error : (b : Bool) (m at : ℕ) → IsErrOf {T = Bool} {E = LogsFault} (Ok b) (Damaged m at) → ⊥
no_error b m at e = cc

no_failure : (b : Bool) → IsErrOf {T = Bool} {E = LogsFault} (Ok b) Failed → ⊥
no_failure b e = cc

pub take_none : (a b : Option Contents) (n k member : ℕ) (h g : HeadState) (keeps : ℕ → Bool) (had : ℕ) (t : Taken) (next : Option LogRecord) → ReadsBy a b n k (NextIn member h g) (BadIn member h) (Ok next) → next ≡ None → IsPast h g next
    → ReadsBy a b n k (ReadIn member keeps had h t g t) (DamagedIn member keeps had h t) (Ok false)
take_none a b n k member h g keeps had t next p is past =
    reads_to a b n k (NextIn member h g) (BadIn member h) next (ReadIn member keeps had h t g t) (DamagedIn member keeps had h t) (Ok false) p
    (λ c told read. goes_none (log_of c.logs member) keeps had h g t (λ of. subst (λ (o : Option LogRecord). IsNext (log_of c.logs member) h g o) is (told of)) (stays next h g is past) read)
    (λ m at e. absurd (no_error false m at e)) (λ e. no_failure false e)

pub take_some : PartsGoOn → (a b : Option Contents) (n k member : ℕ) (h g : HeadState) (keeps : ℕ → Bool) (had : ℕ) (old new : Taken) (next : Option LogRecord) (r : LogRecord)
    → ReadsBy a b n k (NextIn member h g) (BadIn member h) (Ok next) → next ≡ Some r → Adds keeps had old new r → ReadsBy a b n k (ReadIn member keeps had h old g new) (DamagedIn member keeps had h old) (Ok true)
take_some goes a b n k member h g keeps had old new next r p is adds =
    reads_to a b n k (NextIn member h g) (BadIn member h) next (ReadIn member keeps had h old g new) (DamagedIn member keeps had h old) (Ok true) p
    (λ c told read. goes_on goes (log_of c.logs member) keeps had h g r old new (λ of. subst (λ (o : Option LogRecord). IsNext (log_of c.logs member) h g o) is (told of)) adds read)
    (λ m at e. absurd (no_error true m at e)) (λ e. no_failure true e)

-- a field that isn't allowed
pub take_bad : {Y : Type 0} → PartsAreBad → (a b : Option Contents) (n k member : ℕ) (h g : HeadState) (keeps : ℕ → Bool) (had : ℕ) (t : Taken) (IsR : Y → Contents → Type 0) (f : LogsFault) (res : Result Y LogsFault)
    → IsErrAnd res (λ (z : LogsFault). z ≡ f) → ReadsBy a b n k (NextIn member h g) (BadIn member h) (Err f) → ReadsBy a b n k IsR (DamagedIn member keeps had h t) res
take_bad law a b n k member h g keeps had t IsR f res is p =
    reads_err a b n k (NextIn member h g) (BadIn member h) IsR (DamagedIn member keeps had h t) f res is p
    (λ m at c bad read. subst (λ (j : ℕ). HasDamage j at c) (sym bad.0) (damaged law (log_of c.logs member) keeps had h t at read (bad.1 read.of)))

-- ---- the whole log

-- nothing is read yet
pub read_starts : (a b : Option Contents) (n k member len : ℕ) (h : HeadState) (keeps : ℕ → Bool) (had : ℕ) (t : Taken) → ReadsBy a b n k (λ (x : ℕ) (c : Contents). x ≡ length (log_of c.logs member)) (λ m at c. ⊥) (Ok len)
    → h ≡ record { at = 0; hand = []; end = len } → ((keeps : ℕ → Bool) (had : ℕ) → HasTaken keeps had [] t)
    → ReadsBy a b n k (λ (more : Bool) c. (len ≡ length (log_of c.logs member)) × GoesTo (log_of c.logs member) keeps had h t more) (λ m at c. ⊥) (Ok true) × IsSound h
read_starts a b n k member len h keeps had t p is nothing =
    let start : HeadState = record { at = 0; hand = []; end = len } in
    let sound : IsSound start = record { within = omega arith; bytes = λ i. omega arith } in
    subst (λ (j : HeadState). ReadsBy a b n k (λ (more : Bool) c. (len ≡ length (log_of c.logs member)) × GoesTo (log_of c.logs member) keeps had j t more) (λ m at c. ⊥) (Ok true) × IsSound j) (sym is) (
      reads_to a b n k (λ (x : ℕ) c. x ≡ length (log_of c.logs member)) (λ m at c. ⊥) len (λ (more : Bool) c. (len ≡ length (log_of c.logs member)) × GoesTo (log_of c.logs member) keeps had start t more) (λ m at c. ⊥) (Ok true) p
          (λ c long. (long, record { read = nothing_read (log_of c.logs member) len keeps had t long (nothing keeps had); over = tt })) (λ m at e. absurd (no_error true m at e)) (λ e. no_failure true e),
      sound,
    )

-- one step more
pub read_goes : (a b e : Option Contents) (n k m member len : ℕ) (h g : HeadState) (keeps : ℕ → Bool) (had : ℕ) (old new : Taken) (more later : Bool)
    → ReadsBy a b n k (λ (x : Bool) (c : Contents). (len ≡ length (log_of c.logs member)) × GoesTo (log_of c.logs member) keeps had h old x) (λ m at c. ⊥) (Ok more)
    → ReadsBy b e k m (ReadIn member keeps had h old g new) (DamagedIn member keeps had h old) (Ok later)
    → ReadsBy a e n m (λ (x : Bool) c. (len ≡ length (log_of c.logs member)) × GoesTo (log_of c.logs member) keeps had g new x) (λ m at c. ⊥) (Ok later)
read_goes a b e n k m member len h g keeps had old new more later p q =
    let on : ReadsBy a e n m (λ (x : Bool) c. (len ≡ length (log_of c.logs member)) × GoesTo (log_of c.logs member) keeps had g new x) HasDamage (Ok later) =
    reads_on a b e n k m (λ (x : Bool) (c : Contents). (len ≡ length (log_of c.logs member)) × GoesTo (log_of c.logs member) keeps had h old x) (λ m at c. ⊥) more (ReadIn member keeps had h old g new)
    (λ (x : Bool) c. (len ≡ length (log_of c.logs member)) × GoesTo (log_of c.logs member) keeps had g new x) (DamagedIn member keeps had h old) HasDamage (Ok later) p q
    (λ x c was goes. (was.0, goes was.1.read)) (λ i at c was bad. bad was.1.read) in
    reads_to a e n m (λ (x : Bool) c. (len ≡ length (log_of c.logs member)) × GoesTo (log_of c.logs member) keeps had g new x) HasDamage later
    (λ (x : Bool) c. (len ≡ length (log_of c.logs member)) × GoesTo (log_of c.logs member) keeps had g new x) (λ m at c. ⊥) (Ok later) on (λ c is. is) (λ i at e. absurd (no_error later i at e)) (λ e. no_failure later e)

-- none is left
pub read_ends : PartsEnd → (a b : Option Contents) (n k member len : ℕ) (h : HeadState) (keeps : ℕ → Bool) (had : ℕ) (t : Taken) (more : Bool) (read : LogRead)
    → ReadsBy a b n k (λ (x : Bool) (c : Contents). (len ≡ length (log_of c.logs member)) × GoesTo (log_of c.logs member) keeps had h t x) (λ m at c. ⊥) (Ok more) → more ≡ false → read.taken ≡ t → read.tail ≡ len - h.at
    → ReadsBy a b n k (λ (x : LogRead) c. IsReadOf keeps had (log_of c.logs member) x) HasDamage (Ok read)
read_ends law a b n k member len h keeps had t more read p none taken tail =
    reads_to a b n k (λ (x : Bool) c. (len ≡ length (log_of c.logs member)) × GoesTo (log_of c.logs member) keeps had h t x) (λ m at c. ⊥) more (λ (x : LogRead) c. IsReadOf keeps had (log_of c.logs member) x) HasDamage (Ok read) p
    (λ c goes. log_found law (log_of c.logs member) keeps had h len read (subst (λ (s : Taken). IsReadTo (log_of c.logs member) keeps had h s) (sym taken) goes.1.read) (is_over (log_of c.logs member) h more none goes.1.over) goes.0 tail)
    (λ m at e. absurd (no_log_error m at e)) (λ e. no_log_failure e)
  where
    no_log_error : (m at : ℕ) → IsErrOf {T = LogRead} {E = LogsFault} (Ok read) (Damaged m at) → ⊥
    no_log_error m at e = cc

    no_log_failure : IsErrOf {T = LogRead} {E = LogsFault} (Ok read) Failed → ⊥
    no_log_failure e = cc
