-- The records that are kept beside the bytes in hand.
use Rattle.std.proofs.Common.{◌≡◌, ℕ, ◌+◌, ◌-◌, ◌<◌, ◌≤◌, ◌^◌, List, [], ◌∷◌, ◌++◌, length, take, drop, Option, Some, None, Result, Ok, Err, refl, sym, ap, subst, ◌∙◌, arith, append_assoc}
use Rattle.std.proofs.lemmas.List.{append-nil, drop-drop, length-drop, take_at}
use Rattle.log_record.specs.Given.{LogRecord}
use Rattle.log_record.specs.Reading.{record_in}
use Rattle.log_record.specs.Given.{record_limit}
use Rattle.log_record.specs.declared.fault.RecordFault.{RecordFault}
use Rattle.log_record.specs.declared.fault.RecordFault.TheVariants.{NotWhole, Bad, NoMemory}
use Rattle.std.specs.Prelude.{◌≢◌}
use Rattle.log_head.specs.declared.standing.Standing.TheVariants as standing
use Rattle.log_head.specs.Heads.{HeadState, standing_short, standing_by, standing_of, IsShort, Stops, AreRead, Keeps}
use Rattle.log_head.proofs.Fronts.{record_size, none_read}

-- one record further
pub read_more : (bytes : List ℕ) (at from n : ℕ) (r : LogRecord) (done : List (LogRecord × ℕ)) → record_in (drop from bytes) ≡ Ok (r, n)
    → ((more : List (LogRecord × ℕ)) (bad : Option ℕ) → AreRead (drop from bytes) (at + from) more bad → AreRead bytes at (done ++ more) bad)
    → (more : List (LogRecord × ℕ)) (bad : Option ℕ) → AreRead (drop (from + n) bytes) (at + (from + n)) more bad → AreRead bytes at ((done ++ (r, n) ∷ []) ++ more) bad
read_more bytes at from n r done e h more bad m =
    let here : AreRead (drop n (drop from bytes)) (at + from + n) more bad =
    subst (λ (t : List ℕ). AreRead t (at + from + n) more bad) (sym (drop-drop n from bytes)) (subst (λ (p : ℕ). AreRead (drop (from + n) bytes) p more bad) (omega arith) m) in
    subst (λ (l : List (LogRecord × ℕ)). AreRead bytes at l bad) (sym (append_assoc done ((r, n) ∷ []) more)) (h ((r, n) ∷ more) bad (e, here))

-- ---- what is in hand by the records that are kept

abbrev Read : Type 0
Read = Result (LogRecord × ℕ) RecordFault

-- what is a fault is no record
pub no_record : (f : Read) (e : RecordFault) → f ≡ Err e → (p : LogRecord × ℕ) → f ≡ Ok p → ⊥
no_record (Ok q) e is p read = absurd cc
no_record (Err d) e is p read = cc

short_read : (f : Read) (p : LogRecord × ℕ) → f ≡ Ok p → IsShort f → ⊥
short_read (Ok q) p e short = short
short_read (Err d) p e short = cc

stops_few : (f : Read) (long at : ℕ) (bad : Option ℕ) → Stops f long at bad → IsShort f → long ≤ record_limit
stops_few (Ok found) long at bad s short = absurd s
stops_few (Err NotWhole) long at bad s short = s.1
stops_few (Err (Bad field)) long at bad s short = absurd short
stops_few (Err NoMemory) long at bad s short = absurd s

-- where no whole record is in hand none is kept, and no more than a record's bytes are there
pub record IsNone (bytes : List ℕ) (at : ℕ) (records : List (LogRecord × ℕ)) (bad : Option ℕ) : Type 0 where
  pub none : records ≡ []
  pub few : length bytes ≤ record_limit
  pub read : AreRead bytes at [] bad

pub none_kept : (bytes : List ℕ) (at : ℕ) (records : List (LogRecord × ℕ)) (bad : Option ℕ) → AreRead bytes at records bad → IsShort (record_in bytes) → IsNone bytes at records bad
none_kept bytes at [] bad read short = record { none = refl; few = stops_few (record_in bytes) (length bytes) at bad read short; read = read }
none_kept bytes at (p ∷ ps) bad read short = absurd (short_read (record_in bytes) p read.0 short)

-- nothing is read yet
pub new_kept : (at end : ℕ) → at ≤ end → end < 2 ^ 64 → Keeps at end [] 0 [] None
new_kept at end le below = record {
  taken_in = omega arith;
  within = omega (arith, le);
  below = below;
  read = subst (λ (f : Read). Stops f 0 at None) (sym none_read) (refl, omega arith);
}

-- the first record is taken
pub record IsBehind (at end : ℕ) (bytes : List ℕ) (taken : ℕ) (r : LogRecord) (n : ℕ) (records : List (LogRecord × ℕ)) (bad : Option ℕ) : Type 0 where
  pub first : record_in (drop taken bytes) ≡ Ok (r, n)
  pub room : taken + n ≤ length bytes
  pub below : at + n ≤ end
  pub rest : drop n (drop taken bytes) ≡ drop (taken + n) bytes
  pub keeps : Keeps (at + n) end bytes (taken + n) records bad

pub first_kept : (at end : ℕ) (bytes : List ℕ) (taken : ℕ) (r : LogRecord) (n : ℕ) (records : List (LogRecord × ℕ)) (bad : Option ℕ) → Keeps at end bytes taken ((r, n) ∷ records) bad → IsBehind at end bytes taken r n records bad
first_kept at end bytes taken r n records bad k =
    let s = record_size (drop taken bytes) r n k.read.0 in
    let left = length-drop taken bytes in
    let rest : drop n (drop taken bytes) ≡ drop (taken + n) bytes = drop-drop n taken bytes in
    record {
      first = k.read.0;
      room = omega (arith, s.1, left, k.taken_in);
      below = omega (arith, s.1, left, k.within);
      rest = rest;
      keeps = record {
        taken_in = omega (arith, s.1, left, k.taken_in);
        within = omega (arith, s.1, left, k.within);
        below = k.below;
        read = subst (λ (t : List ℕ). AreRead t (at + n) records bad) rest k.read.1;
      };
    }

-- ---- how a head stands by the records that are kept

pub ready_stands : (block : ℕ) (h : HeadState) (p : LogRecord × ℕ) → record_in h.hand ≡ Ok p → standing_of block h ≡ standing.Ready
ready_stands block h p e = ap (standing_by block h) e

-- none is read
bad_by : (block : ℕ) (h : HeadState) (f : Read) (long b : ℕ) → Stops f long h.at (Some b) → standing_by block h f ≡ standing.Bad b
bad_by block h (Ok found) long b s = absurd s
bad_by block h (Err NotWhole) long b s = absurd (none_is s.0)
  where
    none_is : Some b ≡ None → ⊥
    none_is e = cc
bad_by block h (Err (Bad field)) long b s = same s
  where
    same : Some b ≡ Some (h.at + field) → standing.Bad (h.at + field) ≡ standing.Bad b
    same e = cc
bad_by block h (Err NoMemory) long b s = absurd s

short_by : (block : ℕ) (h : HeadState) (f : Read) (long : ℕ) → Stops f long h.at None → standing_by block h f ≡ standing_short block h
short_by block h (Ok found) long s = absurd s
short_by block h (Err NotWhole) long s = refl
short_by block h (Err (Bad field)) long s = absurd (some_is s)
  where
    some_is : None ≡ Some (h.at + field) → ⊥
    some_is e = cc
short_by block h (Err NoMemory) long s = absurd s

abbrev head_of : ℕ → ℕ → List ℕ → ℕ → HeadState
head_of at end bytes taken = record { at = at; hand = drop taken bytes; end = end }

pub stands_ready : (block at end : ℕ) (bytes : List ℕ) (taken : ℕ) (records : List (LogRecord × ℕ)) (bad : Option ℕ) → Keeps at end bytes taken records bad → records ≢ [] → standing_of block (head_of at end bytes taken) ≡ standing.Ready
stands_ready block at end bytes taken [] bad k some = absurd (some refl)
stands_ready block at end bytes taken (p ∷ ps) bad k some = ready_stands block (head_of at end bytes taken) p k.read.0

pub stands_bad : (block at end : ℕ) (bytes : List ℕ) (taken b : ℕ) → Keeps at end bytes taken [] (Some b) → standing_of block (head_of at end bytes taken) ≡ standing.Bad b
stands_bad block at end bytes taken b k = bad_by block (head_of at end bytes taken) (record_in (drop taken bytes)) (length (drop taken bytes)) b k.read

pub stands_short : (block at end : ℕ) (bytes : List ℕ) (taken : ℕ) → Keeps at end bytes taken [] None → standing_of block (head_of at end bytes taken) ≡ standing_short block (head_of at end bytes taken)
stands_short block at end bytes taken k = short_by block (head_of at end bytes taken) (record_in (drop taken bytes)) (length (drop taken bytes)) k.read

-- ---- bytes are put behind those in hand

-- none is kept where none is read, and those in hand aren't more than a record has
pub none_before : (at end : ℕ) (bytes : List ℕ) (taken : ℕ) (records : List (LogRecord × ℕ)) (bad : Option ℕ) (h : HeadState) → head_of at end bytes taken ≡ h → Keeps at end bytes taken records bad → IsShort (record_in h.hand)
    → IsNone (drop taken bytes) at records bad
none_before at end bytes taken records bad h is k short =
    none_kept (drop taken bytes) at records bad k.read (subst (λ (g : HeadState). IsShort (record_in g.hand)) (sym is) short)

-- where they can't be, the bytes are cut back
pub cut_back : (front back all t : List ℕ) (left : ℕ) → all ≡ front ++ back → left ≡ length front → t ≡ take left all → t ≡ front
cut_back front back all t left is size cut = cut ∙ ap (take left) is ∙ take_at front back left (sym size)

pub none_after : (at end : ℕ) (bytes : List ℕ) (taken : ℕ) (records kept : List (LogRecord × ℕ)) (bad : Option ℕ) (t : List ℕ) → Keeps at end bytes taken records bad → IsNone (drop taken bytes) at records bad
    → t ≡ drop taken bytes → kept ≡ [] → Keeps at end t 0 kept bad
none_after at end bytes taken records kept bad t k none is empty =
    let left = length-drop taken bytes in
    let long : length t ≡ length (drop taken bytes) = ap length is in
    record {
      taken_in = omega arith;
      within = omega (arith, k.within, left, long);
      below = k.below;
      read = subst (λ (rs : List (LogRecord × ℕ)). AreRead t at rs bad) (sym empty) (subst (λ (u : List ℕ). AreRead u at [] bad) (sym is) none.read);
    }
