-- The logs that a restart reads are those of the disk.
use Rattle.std.proofs.Common.{◌≡◌, ℕ, ◌+◌, ◌-◌, ◌<◌, ◌≤◌, true, false, List, [], ◌∷◌, ◌++◌, length, take, drop, Option, Some, None, sym, ap, subst, ◌∙◌, arith, lit<}
use Rattle.std.specs.Prelude.{min, ◌==◌, nat_le}
use Rattle.std.proofs.lemmas.Bool.{cond_both, eqb-true, leb-true}
use Rattle.std.proofs.lemmas.List.{length-drop, length_push}
use Rattle.log_record.specs.declared.log.Log.{Log}
use Rattle.log_reader.specs.Held.{grown}
use Rattle.log_reader.specs.Keeping.{AreBytes, IsOf, HasLastOf, NothingIsOf, KeepingIsOf, GrownIsOf, ReadIsLast}
use Rattle.log_reader.specs.Readers.{ReaderState, IsNew, IsLogRead, block_size, after_length, after_count, is_long, is_whole}
use Rattle.disk_restart.proofs.Cutting.{Logs, log_at, AreFrom, from_more}

abbrev pub TellsLength : Option ℕ → List ℕ → Type 0
TellsLength None bytes = Unit {0}
TellsLength (Some long) bytes = long ≡ length bytes

-- what reading comes to
pub record ReaderLaws : Type 0 where
  pub nothing : NothingIsOf
  pub keeping : KeepingIsOf
  pub grown : GrownIsOf
  pub last : ReadIsLast

-- what is kept is of these bytes, which are read so far
pub record IsReading (bytes : List ℕ) (r : ReaderState) : Type 0 where
  pub of : IsOf bytes r.held
  pub told : TellsLength r.length_told bytes

pub new_reading : ReaderLaws → (bytes : List ℕ) (r : ReaderState) (member : ℕ) → IsNew member r → IsReading bytes r
new_reading laws bytes r member is = record {
  of = subst (IsOf bytes) (sym is.nothing) (laws.nothing bytes false);
  told = subst (λ (o : Option ℕ). TellsLength o bytes) (sym is.length_unknown) tt;
}

least : (n size : ℕ) → n ≤ size → min n size ≡ n
least n size few = omega arith

bounded : (n left size rest : ℕ) → n ≡ min (min left size) rest → (n ≤ size) × (n ≤ rest)
bounded n left size rest e = (omega arith, omega arith)

-- none where none is left
all_told : (k whole long n size : ℕ) → k ≤ whole → long ≡ whole → 0 < size → n ≡ min (min (long - k) size) (whole - k) → n ≡ 0 → k ≡ whole
all_told k whole long n size le is some count none = omega arith

pub count_reading : ReaderLaws → (bytes : List ℕ) (r : ReaderState) (long n : ℕ) → IsReading bytes r → AreBytes r.block → long ≡ length bytes → n ≡ min (min (long - r.held.end) block_size) (length (drop r.held.end bytes))
    → take n r.block ≡ take n (drop r.held.end bytes) → IsReading bytes (after_count r n)
count_reading laws bytes r long n h are is count same =
    let le = h.of.within in
    let rest : length (drop r.held.end bytes) ≡ length bytes - r.held.end = length-drop r.held.end bytes in
    let few = bounded n (long - r.held.end) block_size (length (drop r.held.end bytes)) count in
    let ended : ReaderState = record { member = r.member; length_told = Some r.held.end; held = r.held; block = r.block } in
    let more : ReaderState = record { member = r.member; length_told = r.length_told; held = grown r.held (take (min n block_size) r.block); block = r.block } in
    let size : n ≡ min n block_size = sym (least n block_size few.0) in
    cond_both (n == 0) ended more (IsReading bytes)
    (λ e. record { of = h.of; told = all_told r.held.end (length bytes) long n block_size le is (lit< tt) (count ∙ ap (min (min (long - r.held.end) block_size)) rest) (eqb-true n 0 e) })
    (λ e. record { of = subst (λ (k : ℕ). IsOf bytes (grown r.held (take k r.block))) size (laws.grown bytes r.held r.block n h.of are (omega (arith, few.1, rest, le)) same); told = h.told })

pub length_reading : ReaderLaws → (bytes : List ℕ) (r : ReaderState) (long : ℕ) → IsReading bytes r → long ≡ length bytes → IsReading bytes (after_length r long)
length_reading laws bytes r long h is = record { of = laws.keeping bytes r.held (nat_le long block_size) h.of; told = is }

long_told : (o : Option ℕ) (n : ℕ) (bytes : List ℕ) → TellsLength o bytes → is_long n o ≡ true → length bytes ≤ n
long_told None n bytes is e = absurd cc
long_told (Some long) n bytes is e = omega (arith, leb-true long n e)

pub whole_read : (bytes : List ℕ) (r : ReaderState) → IsReading bytes r → is_whole r ≡ true → length bytes ≤ r.held.end
whole_read bytes r h e = long_told r.length_told r.held.end bytes h.told e

-- ---- all logs in turn

-- those of the first members are read, and the next one is being read
pub record Reads (o : Logs) (r : ReaderState) (logs : List Log) : Type 0 where
  pub member_is : r.member ≡ length logs + 1
  pub few : length logs < 32
  pub are : AreFrom 0 logs o
  pub reading : IsReading (log_at o (length logs)) r

pub first_reads : ReaderLaws → (o : Logs) (r : ReaderState) → IsNew 1 r → Reads o r []
first_reads laws o r is = record { member_is = is.member_is; few = lit< tt; are = tt; reading = new_reading laws (log_at o 0) r 1 is }

-- one log more
pub more_read : ReaderLaws → (o : Logs) (r : ReaderState) (logs : List Log) (log : Log) → Reads o r logs → is_whole r ≡ true → log.member ≡ r.member → IsLogRead r log → AreFrom 0 (logs ++ log ∷ []) o
more_read laws o r logs log h whole member is =
    let e : length logs ≡ 0 + length logs = omega arith in
    let its : HasLastOf (log_at o (length logs)) log = laws.last (log_at o (length logs)) r log h.reading.of (whole_read (log_at o (length logs)) r h.reading whole) is in
    from_more 0 logs log o h.are (omega (arith, member, h.member_is)) (subst (λ (k : ℕ). HasLastOf (log_at o k) log) e its)

pub next_reads : ReaderLaws → (o : Logs) (r next : ReaderState) (logs : List Log) (log : Log) → Reads o r logs → AreFrom 0 (logs ++ log ∷ []) o → r.member < 32 → IsNew (r.member + 1) next → Reads o next (logs ++ log ∷ [])
next_reads laws o r next logs log h are more is = record {
  member_is = omega (arith, is.member_is, h.member_is, length_push logs log);
  few = omega (arith, more, h.member_is, length_push logs log);
  are = are;
  reading = new_reading laws (log_at o (length (logs ++ log ∷ []))) next (r.member + 1) is;
}
