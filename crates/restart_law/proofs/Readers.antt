-- What a reply leaves of what is read of a log.
use Rattle.std.proofs.Common.{◌≡◌, ℕ, ◌+◌, ◌-◌, ◌≤◌, refl, sym, ◌∙◌, ap, subst, arith, Bool, true, false, List, [], ◌++◌, length, take, drop, Option, Some, None}
use Rattle.std.specs.Prelude.{◌==◌, ◌<◌, min, if◌then◌else◌, IfSome}
use Rattle.std.proofs.lemmas.Bool.{cond_both, eqb-true}
use Rattle.std.proofs.lemmas.List.{get_or-drop, take-append-le, take-take, take_all}
use Rattle.log_checkpoint.specs.declared.found.Found.{Found}
use Rattle.log_checkpoint.specs.declared.found.Found.TheVariants as found
use Rattle.log_checkpoint.specs.Backwards.{SearchState, filled, searched, told_of}
use Rattle.log_reader.specs.Held.{grown, held_from}
use Rattle.log_reader.specs.Keeping.{AreBytes, AreWhole}
use Rattle.log_reader.specs.Readers.{block_size}
use Rattle.log_reader.specs.Readers as reader
use Rattle.log_reader.specs.declared.calls.LogCall.{LogCall}
use Rattle.log_reader.specs.declared.calls.LogCall.TheVariants as call
use Rattle.log_reader.specs.declared.calls.LogReply.{LogReply}
use Rattle.log_reader.specs.declared.calls.LogReply.TheVariants as logged
use Rattle.checkpoint_reader.specs.declared.reader.Looking.{Looking}
use Rattle.checkpoint_reader.specs.Keeping.{HasRead, NothingStands, RepliesStand, Stands}
use Rattle.checkpoint_reader.specs.Lending.{with_block}
use Rattle.checkpoint_reader.specs.Readers.{ReaderState, after_by, after_forward, after_length, after_reply, after_wanted, are_wanted, call_by, led, led_by, looks_back, next_call, told_long, with_forward}
use Rattle.log_starts.specs.Starts.{AsksWithin, BeginsIn, RepliesBegin}
use Rattle.restart_law.specs.Reads.{IsKnown, NothingKnown, ReadsFront, WholeKnown}

pub record Laws : Type 0 where
  pub nothing : NothingStands
  pub replies : RepliesStand
  pub starts : RepliesBegin
  pub within : AsksWithin

-- ---- what was given

none_whole : AreWhole []
none_whole = record { records = []; spelled = refl; allowed = tt }

pub nothing_known : NothingKnown
nothing_known bytes s given = by s.own.reader given
  where
    by : (o : Option ReaderState) → IfSome o (λ (r : ReaderState). r.known ≡ 0) → IfSome o (IsKnown bytes)
    by None e = tt
    by (Some r) e = subst (λ (k : ℕ). AreWhole (take k bytes)) (sym e) none_whole

pub whole_known : WholeKnown
whole_known bytes more s whole given = by s.own.reader given
  where
    front : take (length bytes) (bytes ++ more) ≡ bytes
    front = take-append-le (length bytes) bytes more (omega arith) ∙ take_all (length bytes) bytes (omega arith)

    by : (o : Option ReaderState) → IfSome o (λ (r : ReaderState). r.known ≡ length bytes) → IfSome o (IsKnown (bytes ++ more))
    by None e = tt
    by (Some r) e = subst (λ (k : ℕ). AreWhole (take k (bytes ++ more))) (sym e) (subst AreWhole (sym front) whole)

-- ---- whose log it is, and up to where it is known

abbrev Beside : ReaderState → ReaderState → Type 0
Beside r q = (q.member ≡ r.member) × (q.known ≡ r.known)

led_beside : (r : ReaderState) (s : SearchState) (o : Option Found) → Beside r (led_by r s o)
led_beside r s None = (refl, refl)
led_beside r s (Some (found.Wants at count)) = (refl, refl)
led_beside r s (Some (found.At at offset)) = cond_both (at == offset) (record r { held = held_from at }) r (Beside r) (λ _. (refl, refl)) (λ _. (refl, refl))
led_beside r s (Some found.Missing) = (refl, refl)
led_beside r s (Some found.Broken) = (refl, refl)

length_beside : (r : ReaderState) (long : ℕ) → Beside r (after_length r long)
length_beside r long =
    let s : SearchState = record { block = block_size; low = r.known; hand = [] } in
    cond_both (looks_back r long) (led (told_long r long) s) (told_long r long) (Beside r) (λ _. led_beside (told_long r long) (searched s) (told_of (searched s))) (λ _. (refl, refl))

count_beside : (r : ReaderState) (n : ℕ) → Beside r (after_forward r (logged.Count n))
count_beside r n =
    cond_both (n == 0) (record { member = r.member; length_told = Some r.held.end; held = r.held; block = r.block }) (record { member = r.member; length_told = r.length_told; held = grown r.held (take (min n block_size) r.block); block = r.block })
    (λ (f : reader.ReaderState). Beside r (with_forward r f)) (λ _. (refl, refl)) (λ _. (refl, refl))

wanted_beside : (r : ReaderState) (s : SearchState) (n : ℕ) → Beside r (after_wanted r s n)
wanted_beside r s n =
    let t : SearchState = filled s (take n r.block) in
    cond_both (are_wanted (told_of s) n) (led r t) r (Beside r) (λ _. led_beside r (searched t) (told_of (searched t))) (λ _. (refl, refl))

beside_by : (r : ReaderState) (o : Option Looking) (x : LogReply) → Beside r (after_by r o x)
beside_by r None (logged.Length long) = length_beside r long
beside_by r None (logged.Count n) = count_beside r n
beside_by r (Some l) (logged.Length long) = (refl, refl)
beside_by r (Some l) (logged.Count n) = wanted_beside (record r { looking = None }) (searched l.search) n

-- ---- the length that was told

abbrev ToldIs : List ℕ → ReaderState → Type 0
ToldIs bytes q = IfSome q.length_told (λ long. long ≡ length bytes)

led_told : (bytes : List ℕ) (r : ReaderState) (s : SearchState) (o : Option Found) → ToldIs bytes r → ToldIs bytes (led_by r s o)
led_told bytes r s None told = told
led_told bytes r s (Some (found.Wants at count)) told = told
led_told bytes r s (Some (found.At at offset)) told = cond_both (at == offset) (record r { held = held_from at }) r (ToldIs bytes) (λ _. told) (λ _. told)
led_told bytes r s (Some found.Missing) told = told
led_told bytes r s (Some found.Broken) told = told

length_told_by : (bytes : List ℕ) (r : ReaderState) (o : Option Looking) → ToldIs bytes r → ToldIs bytes (after_by r o (logged.Length (length bytes)))
length_told_by bytes r None told =
    let s : SearchState = record { block = block_size; low = r.known; hand = [] } in
    cond_both (looks_back r (length bytes)) (led (told_long r (length bytes)) s) (told_long r (length bytes)) (ToldIs bytes) (λ _. led_told bytes (told_long r (length bytes)) (searched s) (told_of (searched s)) refl) (λ _. refl)
length_told_by bytes r (Some l) told = told

same_read : (at count from long : ℕ) → call.Read from (min (long - from) block_size) ≡ call.Read at count → (at ≡ from) × (count ≡ min (long - from) block_size)
same_read at count from long e = (cc, cc)

length_call : (at count : ℕ) → call.Length ≡ call.Read at count → ⊥
length_call at count e = cc

-- no bytes are read at the end alone
ended : (bytes : List ℕ) (at count from n : ℕ) (o : Option ℕ) → IfSome o (λ long. long ≡ length bytes) → reader.call_by from o ≡ call.Read at count → from ≤ length bytes → n ≡ min (min count block_size) (length bytes - at) → n ≡ 0 → from ≡ length bytes
ended bytes at count from n None told e within few none = absurd (length_call at count e)
ended bytes at count from n (Some long) told e within few none = let c = same_read at count from long e in omega (arith, c.0, c.1, told, within, few, none)

count_told_by : (bytes : List ℕ) (r : ReaderState) (at count n : ℕ) (o : Option Looking) → call_by o (reader.call_by r.held.end r.length_told) ≡ call.Read at count → r.held.end ≤ length bytes → n ≡ min (min count block_size) (length bytes - at) → ToldIs bytes r
    → ToldIs bytes (after_by r o (logged.Count n))
count_told_by bytes r at count n None e within few told =
    cond_both (n == 0) (record { member = r.member; length_told = Some r.held.end; held = r.held; block = r.block }) (record { member = r.member; length_told = r.length_told; held = grown r.held (take (min n block_size) r.block); block = r.block })
    (λ (f : reader.ReaderState). ToldIs bytes (with_forward r f)) (λ none. ended bytes at count r.held.end n r.length_told told e within few (eqb-true n 0 none)) (λ _. told)
count_told_by bytes r at count n (Some l) e within few told =
    let mid : ReaderState = record r { looking = None } in
    let s : SearchState = searched l.search in
    let t : SearchState = filled s (take n r.block) in
    cond_both (are_wanted (told_of s) n) (led mid t) mid (ToldIs bytes) (λ _. led_told bytes mid (searched t) (told_of (searched t)) told) (λ _. told)

-- ---- a block that begins with the same bytes

pub lent_stands : (bytes : List ℕ) (r : ReaderState) (block : List ℕ) → Stands bytes r → Stands bytes (with_block r block)
lent_stands bytes r block s = record { kept = s.kept; looks = s.looks }

led_same : (r : ReaderState) (b c : List ℕ) (s : SearchState) (o : Option Found) → led_by (with_block r b) s o ≡ with_block (led_by (with_block r c) s o) b
led_same r b c s None = refl
led_same r b c s (Some (found.Wants at count)) = refl
led_same r b c s (Some (found.At at offset)) = by (at == offset)
  where
    by : (z : Bool) → (if z then record (with_block r b) { held = held_from at } else with_block r b) ≡ with_block (if z then record (with_block r c) { held = held_from at } else with_block r c) b
    by true = refl
    by false = refl
led_same r b c s (Some found.Missing) = refl
led_same r b c s (Some found.Broken) = refl

fewer : (m n : ℕ) (xs ys : List ℕ) → m ≤ n → take n xs ≡ take n ys → take m xs ≡ take m ys
fewer m n xs ys le e = sym (take-take m n xs le) ∙ ap (take m) e ∙ take-take m n ys le

forward_same : (r : ReaderState) (b c : List ℕ) (n : ℕ) → take n b ≡ take n c → after_forward (with_block r b) (logged.Count n) ≡ with_block (after_forward (with_block r c) (logged.Count n)) b
forward_same r b c n e = by (n == 0)
  where
    ended_with : List ℕ → reader.ReaderState
    ended_with block = record { member = r.member; length_told = Some r.held.end; held = r.held; block = block }

    grown_by : List ℕ → List ℕ → reader.ReaderState
    grown_by more block = record { member = r.member; length_told = r.length_told; held = grown r.held more; block = block }

    le : min n block_size ≤ n
    le = omega arith

    more : take (min n block_size) b ≡ take (min n block_size) c
    more = fewer (min n block_size) n b c le e

    by : (z : Bool) → with_forward (with_block r b) (if z then record { member = r.member; length_told = Some r.held.end; held = r.held; block = b } else record { member = r.member; length_told = r.length_told; held = grown r.held (take (min n block_size) b); block = b })
        ≡ with_block (with_forward (with_block r c) (if z then record { member = r.member; length_told = Some r.held.end; held = r.held; block = c } else record { member = r.member; length_told = r.length_told; held = grown r.held (take (min n block_size) c); block = c })) b
    by true = refl
    by false = ap (λ (x : List ℕ). with_forward (with_block r b) (record { member = r.member; length_told = r.length_told; held = grown r.held x; block = b })) more

wanted_same : (r : ReaderState) (b c : List ℕ) (s : SearchState) (n : ℕ) → take n b ≡ take n c → after_wanted (with_block r b) s n ≡ with_block (after_wanted (with_block r c) s n) b
wanted_same r b c s n e = by (are_wanted (told_of s) n)
  where
    leads : led (with_block r b) (filled s (take n b)) ≡ with_block (led (with_block r c) (filled s (take n c))) b
    leads = ap (λ (x : List ℕ). led (with_block r b) (filled s x)) e ∙ led_same r b c (searched (filled s (take n c))) (told_of (searched (filled s (take n c))))

    by : (z : Bool) → (if z then led (with_block r b) (filled s (take n b)) else with_block r b) ≡ with_block (if z then led (with_block r c) (filled s (take n c)) else with_block r c) b
    by true = leads
    by false = refl

same_by : (r : ReaderState) (b c : List ℕ) (o : Option Looking) (n : ℕ) → take n b ≡ take n c → after_by (with_block r b) o (logged.Count n) ≡ with_block (after_by (with_block r c) o (logged.Count n)) b
same_by r b c None n e = forward_same r b c n e
same_by r b c (Some l) n e = wanted_same (record r { looking = None }) b c (searched l.search) n e

-- ---- a reply

pub front_length : Laws → (member : ℕ) (bytes : List ℕ) (r : ReaderState) → ReadsFront member bytes r → ReadsFront member bytes (after_reply r (logged.Length (length bytes)))
front_length laws member bytes r f =
    let beside : Beside r (after_reply r (logged.Length (length bytes))) = beside_by r r.looking (logged.Length (length bytes)) in
    record {
      own = beside.0 ∙ f.own;
      whole = subst (λ (k : ℕ). AreWhole (take k bytes)) (sym beside.1) f.whole;
      stands = laws.replies bytes r (logged.Length (length bytes)) f.whole refl f.stands;
      begins = laws.starts bytes r (logged.Length (length bytes)) refl f.stands f.begins;
      told = length_told_by bytes r r.looking f.told;
    }

drop_bytes : (k : ℕ) (bytes : List ℕ) → AreBytes bytes → AreBytes (drop k bytes)
drop_bytes k bytes h i = subst (λ (b : ℕ). b < 256) (sym (get_or-drop k bytes i 0)) (h (k + i))

pub front_count : Laws → (member : ℕ) (bytes : List ℕ) (r : ReaderState) (block : List ℕ) (n at count : ℕ) → AreBytes bytes → ReadsFront member bytes r → next_call r ≡ call.Read at count → n ≡ min (min count block_size) (length bytes - at)
    → take n block ≡ take n (drop at bytes) → ReadsFront member bytes (after_reply (with_block r block) (logged.Count n))
front_count laws member bytes r block n at count are f asked few same =
    let put : ReaderState = with_block r (drop at bytes) in
    let in_log : at ≤ length bytes = laws.within bytes r at count f.stands asked in
    let up_to : at + n ≤ length bytes = omega (arith, in_log, few) in
    let read : HasRead bytes (next_call r) n (drop at bytes) = subst (λ (c : LogCall). HasRead bytes c n (drop at bytes)) (sym asked) (up_to, refl, drop_bytes at bytes are) in
    let stands : Stands bytes (after_reply put (logged.Count n)) = laws.replies bytes put (logged.Count n) f.whole read (lent_stands bytes r (drop at bytes) f.stands) in
    let begins : BeginsIn bytes (after_reply put (logged.Count n)).held = laws.starts bytes put (logged.Count n) read (lent_stands bytes r (drop at bytes) f.stands) f.begins in
    let is : after_reply (with_block r block) (logged.Count n) ≡ with_block (after_reply put (logged.Count n)) block = same_by r block (drop at bytes) r.looking n same in
    let beside : Beside (with_block r block) (after_reply (with_block r block) (logged.Count n)) = beside_by (with_block r block) r.looking (logged.Count n) in
    record {
      own = beside.0 ∙ f.own;
      whole = subst (λ (k : ℕ). AreWhole (take k bytes)) (sym beside.1) f.whole;
      stands = subst (Stands bytes) (sym is) (lent_stands bytes (after_reply put (logged.Count n)) block stands);
      begins = subst (λ (q : ReaderState). BeginsIn bytes q.held) (sym is) begins;
      told = count_told_by bytes (with_block r block) at count n r.looking asked f.stands.kept.within few f.told;
    }
