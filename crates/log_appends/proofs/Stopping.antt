-- The last records of what an append has left.
use Rattle.std.proofs.Common.{◌≡◌, ℕ, ◌+◌, ◌-◌, ◌<◌, ◌≤◌, refl, sym, ◌∙◌, ap, subst, arith, Bool, true, false, inl, inr, List, [], ◌∷◌, ◌++◌, append_assoc, length, take, drop, Result, Ok, Err}
use Rattle.std.specs.Prelude.{◌⊎◌}
use Rattle.std.specs.List.{AllByRecursion}
use Rattle.std.proofs.lemmas.Bool.{cases_lt}
use Rattle.std.proofs.lemmas.List.{append-nil, drop_all, drop_at, length-take-le, take-append-drop, take_at}
use Rattle.ds_model.specs.Logs.{IsLog}
use Rattle.ds_model.specs.RecordBytes.{IsAllowed, log_bytes, record_bytes}
use Rattle.ds_model.specs.declared.log.LogRecord.{LogRecord}
use Rattle.log_record.specs.Logs.{Parts, parts_in}
use Rattle.log_record.specs.Reading.{record_in}
use Rattle.log_record.specs.declared.fault.RecordFault.TheVariants.{NotWhole}
use Rattle.log_head.specs.Laws.{NothingIsShort}
use Rattle.log_reader.specs.Held.{names}
use Rattle.log_reader.specs.Keeping.{AreWhole}
use Rattle.log_starts.specs.Starts.{MayBegin, NamesOwn}
use Rattle.log_appends.specs.Appends.{AllAreLast, AreBehind, AreLastFrom, LastAreBehind, LastSpell, NoneNames}
use Rattle.log_appends.proofs.Spelling.{Behind, Front, FrontIsCut, ReadAgain, back_all, begins_with, both_all, both_bytes, front_all, front_of, some_bytes, split_off, torn_short}

-- a log's whole records are read, with what is left behind them
abbrev pub LogIsRead : Type 0
LogIsRead = (bytes : List ℕ) (records : List LogRecord) → IsLog bytes records → parts_in bytes ≡ Ok (record { records = records; size = length (log_bytes records); tail = length bytes - length (log_bytes records) })

pub all_last : LogIsRead → AllAreLast
all_last sound log whole = record {
  whole = record { records = []; spelled = refl; allowed = tt };
  begins = inl refl;
  parts = record { records = whole.records; size = length (log_bytes whole.records); tail = length log - length (log_bytes whole.records) };
  told = sound log whole.records (record { tail = []; whole = whole.spelled ∙ sym (append-nil (log_bytes whole.records)); allowed = whole.allowed; torn = inl refl });
  are = refl;
}

-- ---- two ways to split a list
abbrev Longer : List LogRecord → List LogRecord → List LogRecord → List LogRecord → Type 0
Longer a b c d = (x : LogRecord) × (more : List LogRecord) × (c ≡ a ++ (x ∷ more)) × (b ≡ (x ∷ more) ++ d)

abbrev Shorter : List LogRecord → List LogRecord → List LogRecord → List LogRecord → Type 0
Shorter a b c d = (back : List LogRecord) × (a ≡ c ++ back) × (d ≡ back ++ b)

two_ways : (a b c d : List LogRecord) → a ++ b ≡ c ++ d → Shorter a b c d ⊎ Longer a b c d
two_ways a b [] d e = inl (a, refl, sym e)
two_ways [] b (x ∷ c) d e = inr (x, c, refl, e)
two_ways (y ∷ a) b (x ∷ c) d e = next (let q : y ≡ x = cc in q) (two_ways a b c d (let q : a ++ b ≡ c ++ d = cc in q))
  where
    next : y ≡ x → Shorter a b c d ⊎ Longer a b c d → Shorter (y ∷ a) b (x ∷ c) d ⊎ Longer (y ∷ a) b (x ∷ c) d
    next same (inl (back, p, q)) = inl (back, ap (λ (z : LogRecord). z ∷ a) same ∙ ap (λ (z : List LogRecord). x ∷ z) p, q)
    next same (inr (z, more, p, q)) = inr (z, more, ap (λ (k : LogRecord). k ∷ c) (sym same) ∙ ap (λ (k : List LogRecord). y ∷ k) p, q)

never_named : (a : Bool) → a ≡ true → a ≡ false → ⊥
never_named a p q = cc

same_parts : (x : Result Parts ℕ) (a b : Parts) → x ≡ Ok a → x ≡ Ok b → a ≡ b
same_parts x a b e f = cc

pub last_spell : ReadAgain → FrontIsCut → NothingIsShort → LogIsRead → LastSpell
last_spell again cut none sound log start back whole last =
    let split : Behind whole.records last.whole.records [] (drop start log) =
    split_off again cut none last.whole.records whole.records [] (drop start log) last.whole.allowed whole.allowed none
    (append-nil (log_bytes whole.records) ∙ sym whole.spelled ∙ sym (take-append-drop start log) ∙ ap (λ (z : List ℕ). z ++ drop start log) last.whole.spelled) in
    let allowed : AllByRecursion IsAllowed split.behind = back_all IsAllowed last.whole.records split.behind (subst (AllByRecursion IsAllowed) split.split whole.allowed) in
    let read = sound (drop start log) split.behind (record { tail = []; whole = split.bytes; allowed = allowed; torn = inl refl }) in
    let same : back ≡ split.behind =
    last.are ∙ ap (λ (p : Parts). p.records)
    (same_parts (parts_in (drop start log)) last.parts (record { records = split.behind; size = length (log_bytes split.behind); tail = length (drop start log) - length (log_bytes split.behind) }) last.told read) in
    sym (take-append-drop start log) ∙ ap (λ (z : List ℕ). take start log ++ z) (split.bytes ∙ append-nil (log_bytes split.behind) ∙ ap log_bytes (sym same))

module _ (again : ReadAgain) (cut : FrontIsCut) (none : NothingIsShort) (sound : LogIsRead) (log : List ℕ) (new : List LogRecord) (n start : ℕ) (records : List LogRecord)
    (whole : AreWhole log) (allowed : AllByRecursion IsAllowed new) (plain : NoneNames new) (last : AreLastFrom (log ++ take n (log_bytes new)) start records) (f : Front new n) where
  abbrev bytes : List ℕ
  bytes = log ++ take n (log_bytes new)

  abbrev old : List LogRecord
  old = whole.records

  abbrev first : List LogRecord
  first = last.whole.records

  allowed_front : AllByRecursion IsAllowed f.front
  allowed_front = front_all IsAllowed f.front f.rest (subst (AllByRecursion IsAllowed) f.split allowed)

  all_allowed : AllByRecursion IsAllowed (old ++ f.front)
  all_allowed = both_all IsAllowed old f.front whole.allowed allowed_front

  spelled : bytes ≡ log_bytes (old ++ f.front) ++ f.tail
  spelled = ap (λ (z : List ℕ). log ++ z) f.bytes ∙ sym (append_assoc log (log_bytes f.front) f.tail)
      ∙ ap (λ (z : List ℕ). z ++ f.tail) (ap (λ (z : List ℕ). z ++ log_bytes f.front) whole.spelled ∙ sym (both_bytes old f.front))

  short : record_in f.tail ≡ Err NotWhole
  short = torn_short cut none f.tail f.torn

  split : Behind (old ++ f.front) first f.tail (drop start bytes)
  split = split_off again cut none first (old ++ f.front) f.tail (drop start bytes) last.whole.allowed all_allowed short
      (sym spelled ∙ sym (take-append-drop start bytes) ∙ ap (λ (z : List ℕ). z ++ drop start bytes) last.whole.spelled)

  abbrev behind : List LogRecord
  behind = split.behind

  allowed_behind : AllByRecursion IsAllowed behind
  allowed_behind = back_all IsAllowed first behind (subst (AllByRecursion IsAllowed) split.split all_allowed)

  -- what is read are the records behind the first ones
  are_behind_first : records ≡ behind
  are_behind_first =
      let read = sound (drop start bytes) behind (record { tail = f.tail; whole = split.bytes; allowed = allowed_behind; torn = f.torn }) in
      last.are ∙ ap (λ (p : Parts). p.records)
      (same_parts (parts_in (drop start bytes)) last.parts (record { records = behind; size = length (log_bytes behind); tail = length (drop start bytes) - length (log_bytes behind) }) last.told read)

  -- none of the appended records names its place
  none_named : (records : List LogRecord) → ((more : List LogRecord) × (f.front ≡ more ++ records)) → NamesOwn start (log_bytes records ++ f.tail) → AllByRecursion IsAllowed records → ⊥
  none_named rs among own ok =
      let begun = begins_with again cut none rs f.tail own.made own.size ok short own.read in
      let front_plain : AllByRecursion (λ (r : LogRecord). names start r.body ≡ false) f.front =
      front_all (λ (r : LogRecord). names start r.body ≡ false) f.front f.rest (subst (AllByRecursion (λ (r : LogRecord). names start r.body ≡ false)) f.split (plain start)) in
      let own_plain : AllByRecursion (λ (r : LogRecord). names start r.body ≡ false) (own.made ∷ begun.0) =
      subst (AllByRecursion (λ (r : LogRecord). names start r.body ≡ false)) begun.1
      (back_all (λ (r : LogRecord). names start r.body ≡ false) among.0 rs (subst (AllByRecursion (λ (r : LogRecord). names start r.body ≡ false)) among.1 front_plain)) in
      never_named (names start own.made.body) own.own own_plain.0

  -- ---- reading doesn't begin behind the log's own records
  not_longer : Longer old f.front first behind → ⊥
  not_longer (x, more, p, q) = by last.begins
    where
      first_some : start ≡ 0 → ⊥
      first_some e =
          let none_there : log_bytes (old ++ (x ∷ more)) ≡ [] = ap log_bytes (sym p) ∙ sym last.whole.spelled ∙ ap (λ (k : ℕ). take k bytes) e in
          let x_ok : AllByRecursion IsAllowed (x ∷ more) = back_all IsAllowed old (x ∷ more) (subst (AllByRecursion IsAllowed) p last.whole.allowed) in
          let both : log_bytes old ++ log_bytes (x ∷ more) ≡ [] = sym (both_bytes old (x ∷ more)) ∙ none_there in
          some_bytes again cut none x more x_ok.0 (no_more (log_bytes old) (log_bytes (x ∷ more)) both)
        where
          no_more : (a b : List ℕ) → a ++ b ≡ [] → b ≡ []
          no_more [] b e = e
          no_more (y ∷ a) b e = absurd cc

      by : MayBegin start (drop start bytes) → ⊥
      by (inl e) = first_some e
      by (inr own) = none_named behind (x ∷ more, q) (subst (NamesOwn start) split.bytes own) allowed_behind

  -- ---- so they are last ones of the log, and those that were appended
  within : start ≤ length bytes
  within = elim (cases_lt (length bytes) start) [
    | inl past ↦ by last.begins past
    | inr le ↦ le
  ]
    where
      by : MayBegin start (drop start bytes) → length bytes < start → start ≤ length bytes
      by (inl e) past = absurd (omega (arith, e, past))
      by (inr own) past =
          let nothing : drop start bytes ≡ [] = drop_all start bytes (omega (arith, past)) in
          absurd (let never : Ok (own.made, own.size) ≡ Err NotWhole = sym own.read ∙ ap record_in nothing ∙ none in cc)

  here : Shorter old f.front first behind → AreBehind log new n start records
  here (back, p, q) = record {
    back = back;
    front = f.front;
    rest = f.rest;
    split = f.split;
    are = are_behind_first ∙ q;
    last = record {
      whole = record { records = first; spelled = taken; allowed = last.whole.allowed };
      begins = begins;
      parts = record { records = back; size = length (log_bytes back); tail = length (drop start log) - length (log_bytes back) };
      told = sound (drop start log) back (record { tail = []; whole = left ∙ sym (append-nil (log_bytes back)); allowed = back_ok; torn = inl refl });
      are = refl;
    };
    all = f.all;
  }
    where
      size : length (log_bytes first) ≡ start
      size = ap (λ (z : List ℕ). length z) (sym last.whole.spelled) ∙ length-take-le start bytes within

      log_is : log ≡ log_bytes first ++ log_bytes back
      log_is = whole.spelled ∙ ap log_bytes p ∙ both_bytes first back

      taken : take start log ≡ log_bytes first
      taken = ap (λ (z : List ℕ). take start z) log_is ∙ take_at (log_bytes first) (log_bytes back) start size

      left : drop start log ≡ log_bytes back
      left = ap (λ (z : List ℕ). drop start z) log_is ∙ drop_at (log_bytes first) (log_bytes back) start size

      back_ok : AllByRecursion IsAllowed back
      back_ok = back_all IsAllowed first back (subst (AllByRecursion IsAllowed) p whole.allowed)

      own_there : (rs : List LogRecord) → AllByRecursion IsAllowed rs → NamesOwn start (log_bytes (rs ++ f.front) ++ f.tail) → NamesOwn start (log_bytes rs)
      own_there [] ok own = absurd (none_named f.front ([], refl) own allowed_front)
      own_there (r ∷ rs) ok own =
          let begun = begins_with again cut none (r ∷ (rs ++ f.front)) f.tail own.made own.size (ok.0, both_all IsAllowed rs f.front ok.1 allowed_front) short own.read in
          let same : r ≡ own.made = (let e = begun.1 in cc) in
          record {
            made = r;
            size = length (record_bytes r);
            read = again r (log_bytes rs) ok.0;
            own = ap (λ (z : LogRecord). names start z.body) same ∙ own.own;
          }

      begins : MayBegin start (drop start log)
      begins = by last.begins
        where
          by : MayBegin start (drop start bytes) → MayBegin start (drop start log)
          by (inl e) = inl e
          by (inr own) = inr (subst (NamesOwn start) (sym left)
              (own_there back back_ok (subst (NamesOwn start) (split.bytes ∙ ap (λ (z : List LogRecord). log_bytes z ++ f.tail) q) own)))

  are_so : AreBehind log new n start records
  are_so = by (two_ways old f.front first behind split.split)
    where
      by : Shorter old f.front first behind ⊎ Longer old f.front first behind → AreBehind log new n start records
      by (inl short) = here short
      by (inr long) = absurd (not_longer long)

pub are_behind : ReadAgain → FrontIsCut → NothingIsShort → LogIsRead → LastAreBehind
are_behind again cut none sound log new n start records whole allowed plain last = are_so again cut none sound log new n start records whole allowed plain last (front_of new n allowed)
