-- The walk of clap over the words, for a command whose options have long names alone.
use Rattle.std.proofs.Common.{◌≡◌, ◌∙◌, ◌&&◌, ◌||◌, not, Bool, if◌then◌else◌, true, false, refl, sym, ap, List, [], ◌∷◌, ◌++◌, Option, Some, None, is_some, codes, append-nil}
use Rattle.std.specs.Str.{bytes_eq}
use Rattle.std.specs.List.{list_all}
use Rattle.std.proofs.lemmas.Slice.Eq.{bytes_eq-Decides}
use Rattle.clap.specs.Lexer.{long_of, short_of, strip_byte, is_long_word}
use Rattle.clap.specs.Kinds.{Kinds, or_else}
use Rattle.clap.specs.Values.{reading_of}
use Rattle.clap.specs.Walk.{Held, Waiting, idle, option, Row, Rule, Text, Walk, arg_by_id, arg_by_long, arg_by_index, at_row, has_row, more_values, settled, walked, with_values, without}
use Rattle.clap.specs.Simple.{Shape, new_shape, filled, with_index}
use Rattle.clap.specs.Faults.{repeat_fault, settle_fault, turn_fault}
use Rattle.clap.specs.declared.builder.value_parser.Reading.{Reading}
use Rattle.clap.specs.declared.builder.value_parser.ValueParser.TheVariants as vp
use Rattle.clap.specs.declared.parser.matches.ValueSource.TheVariants.{CommandLine}
use Rattle.group_words.specs.Parsed.{option_rule, flag_rule, is_well_formed}

abbrev pub trace : Text
trace = codes "trace"

abbrev pub built_option : Text → Rule
built_option name = with_index 1 (filled (option_rule name))

abbrev pub built_trace : Rule
built_trace = with_index 1 (filled (flag_rule trace))

-- the command as built, of options c
abbrev pub shape : List Rule → Shape
shape c = record (new_shape (codes "options")) { rules = c; no_binary_name = true; disable_help_flag = true; disable_help_subcommand = true; is_built = true }

-- ---- no fault, and then

abbrev pub gate : {X : Type 0} → Kinds → Option X → Option X
gate [] next = next
gate (k ∷ ks) next = None

gate_none : {X : Type 0} (f : Kinds) → gate {X = X} f None ≡ None
gate_none [] = refl
gate_none (k ∷ ks) = refl

pub gate_else : {X : Type 0} (f g : Kinds) (next : Option X) → gate (or_else f g) next ≡ gate f (gate g next)
gate_else [] g next = refl
gate_else (k ∷ ks) g next = refl

pub gate_two : {X : Type 0} (f g : Kinds) (next : Option X) → gate (or_else (or_else f (or_else g [])) []) next ≡ gate f (gate g next)
gate_two [] [] next = refl
gate_two [] (k ∷ ks) next = refl
gate_two (k ∷ ks) g next = refl

-- ---- rows

pub no_row_at : (id : Text) (change : Row → List Row) (missing rows : List Row) → has_row id rows ≡ false → at_row id change missing rows ≡ rows ++ missing
no_row_at id change missing [] e = refl
no_row_at id change missing (r ∷ rows) e = go (bytes_eq r.id id) refl (no_row_at id change missing rows)
  where
    go : (b : Bool) → bytes_eq r.id id ≡ b → (has_row id rows ≡ false → at_row id change missing rows ≡ rows ++ missing) → at_row id change missing (r ∷ rows) ≡ (r ∷ rows) ++ missing
    go true t more = let bad : true ≡ false = rw t at e in absurd cc
    go false t more =
        let rest : has_row id rows ≡ false = rw t at e in
        rw (t, more rest) refl

abbrev pub new_row : Text → Reading → List Text → Row
new_row name how values = record { id = name; values = values; count = None; source = Some CommandLine; reading = how }

used_new : (name : Text) (how : Reading) (values : List Text) (rows : List Row) → has_row name rows ≡ false → with_values name how CommandLine values (without name rows) ≡ rows ++ new_row name how values ∷ []
used_new name how values rows e = rw (no_row_at name (λ _. []) [] rows e, append-nil rows) (no_row_at name (more_values CommandLine values) (new_row name how values ∷ []) rows e)

abbrev pub row : Text → List Text → Row
row name values = new_row name (reading_of vp.String) values

abbrev pub flag_row : Row
flag_row = new_row trace (reading_of vp.Bool) (codes "true" ∷ [])

-- a new row, where there is none of its name, and then
abbrev pub put : {X : Type 0} → Row → List Row → (List Row → Option X) → Option X
put new rows next = if has_row new.id rows then None else next (rows ++ new ∷ [])

-- an option that stands already is refused
used_or_refused : {X : Type 0} (name : Text) (how : Reading) (values : List Text) (rows : List Row) (next : List Row → Option X) → gate (repeat_fault false name rows) (next (with_values name how CommandLine values (without name rows))) ≡ put (new_row name how values) rows next
used_or_refused name how values rows next = go (has_row name rows) refl
  where
    go : (b : Bool) → has_row name rows ≡ b → gate (repeat_fault false name rows) (next (with_values name how CommandLine values (without name rows))) ≡ put (new_row name how values) rows next
    go true t = rw t refl
    go false t = rw (t, used_new name how values rows t) refl

abbrev pub held : List Row → Option (Text × List Text) → Held
held rows pending = record { rows = rows; pending = pending; skip = 0 }

abbrev pub at : Held → Waiting → Walk
at h waiting = record { held = h; waiting = waiting; position = 1; is_trailing = false; stopped = None }

pub same_text : (name : Text) → bytes_eq name name ≡ true
same_text name = (bytes_eq-Decides name name).1 refl

-- ---- the same, read word by word

abbrev pub valued : {X : Type 0} → Text → Option Text → List Row → (List Row → Option Text → Option X) → Option X
valued name None rows next = next rows (Some name)
valued name (Some text) rows next = put (row name (text ∷ [])) rows (λ r. next r None)

abbrev pub flagged : {X : Type 0} → Option Text → List Row → (List Row → Option Text → Option X) → Option X
flagged None rows next = put flag_row rows (λ r. next r None)
flagged (Some text) rows next = None

-- a word that names an option
abbrev pub begun : {X : Type 0} → (Text → Bool) → Option (Text × Option Text) → List Row → (List Row → Option Text → Option X) → Option X
begun numbered None rows next = None
begun numbered (Some p) rows next = if numbered p.0 then valued p.0 p.1 rows next else if bytes_eq trace p.0 then flagged p.1 rows next else None

-- the rows behind the words, where an option may wait for its value
unfoldable pub read : (Text → Bool) → List Row → Option Text → List Text → Option (List Row)
read numbered rows None [] = Some rows
read numbered rows (Some name) [] = None
read numbered rows None (word ∷ words) = begun numbered (long_of word) rows (λ r waiting. read numbered r waiting words)
read numbered rows (Some name) (word ∷ words) = if is_long_word word then None else put (row name (word ∷ [])) rows (λ r. read numbered r None words)

-- ---- what words look like

long_no_dashes : (word : Text) (p : Text × Option Text) → long_of word ≡ Some p → bytes_eq word (codes "--") ≡ false
long_no_dashes word p is = go (bytes_eq word (codes "--")) refl
  where
    go : (b : Bool) → bytes_eq word (codes "--") ≡ b → bytes_eq word (codes "--") ≡ false
    go false e = e
    go true e =
        let same : word ≡ codes "--" = (bytes_eq-Decides word (codes "--")).0 e in
        let bad : None ≡ Some p = rw same at is in
        absurd cc

no_hyphen : (word : Text) (o : Option Text) → strip_byte 45 word ≡ o → (not (is_some o) || false) ≡ true → strip_byte 45 word ≡ None
no_hyphen word None is e = is
no_hyphen word (Some rest) is e = absurd cc

pub plain_hyphen : (word : Text) → is_well_formed word ≡ true → long_of word ≡ None → strip_byte 45 word ≡ None
plain_hyphen word formed is =
    let e : (not (is_some (strip_byte 45 word)) || false) ≡ true = rw is at formed in
    no_hyphen word (strip_byte 45 word) refl e

plain_word : (word : Text) → is_well_formed word ≡ true → long_of word ≡ None → (short_of word ≡ None) × (bytes_eq word (codes "--") ≡ false)
plain_word word formed is =
    let none : strip_byte 45 word ≡ None = plain_hyphen word formed is in
    (rw none refl, go none (bytes_eq word (codes "--")) refl)
  where
    go : strip_byte 45 word ≡ None → (b : Bool) → bytes_eq word (codes "--") ≡ b → bytes_eq word (codes "--") ≡ false
    go none false e = e
    go none true e =
        let same : word ≡ codes "--" = (bytes_eq-Decides word (codes "--")).0 e in
        let bad : Some (codes "-") ≡ None = rw same at none in
        absurd cc

both : (a b : Bool) → (a && b) ≡ true → (a ≡ true) × (b ≡ true)
both true b e = (refl, e)
both false b e = absurd cc

abbrev pub found_by : (Text → Bool) → Text → Option Rule
found_by numbered name = if numbered name then Some (built_option name) else if bytes_eq trace name then Some built_trace else None

module _ (c : List Rule) (numbered : Text → Bool) (by_long : (name : Text) → arg_by_long c name ≡ found_by numbered name)
    (by_id : (name : Text) → arg_by_id c name ≡ found_by numbered name) (by_index : arg_by_index c 1 ≡ None) where
  -- the rows after the words, where clap takes them
  unfoldable pub outcome : Walk → List Text → Option (List Row)
  outcome w [] = gate (settle_fault c false w.held) (Some (settled c w.held).rows)
  outcome w (word ∷ words) = gate (turn_fault (shape c) [] w word) (outcome (walked c [] w word) words)

  abbrev settle : List Row → Option (Text × List Text) → (List Row → Option (List Row)) → Option (List Row)
  settle rows pending next = gate (settle_fault c false (held rows pending)) (next (settled c (held rows pending)).rows)

  -- an option with its value in one word
  with_value : (rows : List Row) (pending : Option (Text × List Text)) (word name value : Text) (words : List Text) → bytes_eq word (codes "--") ≡ false → long_of word ≡ Some (name, Some value) → numbered name ≡ true
      → outcome (at (held rows pending) idle) (word ∷ words) ≡ settle rows pending (λ r. put (row name (value ∷ [])) r (λ next. outcome (at (held next None) idle) words))
  unfolding walked outcome
  with_value rows pending word name value words no_dashes is n =
      let sf = settle_fault c false (held rows pending) in
      let sr = (settled c (held rows pending)).rows in
      let next : Walk = at (held (with_values name (reading_of vp.String) CommandLine (value ∷ []) (without name sr)) None) idle in
      let fault : turn_fault (shape c) [] (at (held rows pending) idle) word ≡ or_else (or_else sf (or_else (repeat_fault false name sr) [])) [] = rw (no_dashes, is, by_long name, n) refl in
      let moved : walked c [] (at (held rows pending) idle) word ≡ next = rw (no_dashes, is, by_long name, n) refl in
      rw (fault, moved, gate_two sf (repeat_fault false name sr) (outcome next words))
      (ap (gate sf) (used_or_refused name (reading_of vp.String) (value ∷ []) sr (λ r. outcome (at (held r None) idle) words)))

  -- an option whose value is the next word
  without_value : (rows : List Row) (pending : Option (Text × List Text)) (word name : Text) (words : List Text) → bytes_eq word (codes "--") ≡ false → long_of word ≡ Some (name, None) → numbered name ≡ true
      → outcome (at (held rows pending) idle) (word ∷ words) ≡ settle rows pending (λ r. outcome (at (held r (Some (name, []))) (option name)) words)
  unfolding walked outcome
  without_value rows pending word name words no_dashes is n =
      let sf = settle_fault c false (held rows pending) in
      let next : Walk = at (held (settled c (held rows pending)).rows (Some (name, []))) (option name) in
      let fault : turn_fault (shape c) [] (at (held rows pending) idle) word ≡ or_else sf [] = rw (no_dashes, is, by_long name, n) refl in
      let moved : walked c [] (at (held rows pending) idle) word ≡ next = rw (no_dashes, is, by_long name, n) refl in
      rw (fault, moved) (gate_else sf [] (outcome next words))

  -- the option that takes no value
  flag : (rows : List Row) (pending : Option (Text × List Text)) (word name : Text) (words : List Text) → bytes_eq word (codes "--") ≡ false → long_of word ≡ Some (name, None) → numbered name ≡ false → bytes_eq trace name ≡ true
      → outcome (at (held rows pending) idle) (word ∷ words) ≡ settle rows pending (λ r. put flag_row r (λ next. outcome (at (held next None) idle) words))
  unfolding walked outcome
  flag rows pending word name words no_dashes is n t =
      let sf = settle_fault c false (held rows pending) in
      let sr = (settled c (held rows pending)).rows in
      let next : Walk = at (held (with_values trace (reading_of vp.Bool) CommandLine (codes "true" ∷ []) (without trace sr)) None) idle in
      let fault : turn_fault (shape c) [] (at (held rows pending) idle) word ≡ or_else (or_else sf (or_else (repeat_fault false trace sr) [])) [] = rw (no_dashes, is, by_long name, n, t) refl in
      let moved : walked c [] (at (held rows pending) idle) word ≡ next = rw (no_dashes, is, by_long name, n, t) refl in
      rw (fault, moved, gate_two sf (repeat_fault false trace sr) (outcome next words))
      (ap (gate sf) (used_or_refused trace (reading_of vp.Bool) (codes "true" ∷ []) sr (λ r. outcome (at (held r None) idle) words)))

  -- and the same with a value
  flag_with_value : (rows : List Row) (pending : Option (Text × List Text)) (word name value : Text) (words : List Text) → bytes_eq word (codes "--") ≡ false → long_of word ≡ Some (name, Some value) → numbered name ≡ false → bytes_eq trace name ≡ true
      → outcome (at (held rows pending) idle) (word ∷ words) ≡ None
  unfolding walked outcome
  flag_with_value rows pending word name value words no_dashes is n t = rw (no_dashes, is, by_long name, n, t) refl

  -- no option, in any state
  unknown : (rows : List Row) (pending : Option (Text × List Text)) (word name : Text) (value : Option Text) (words : List Text) → bytes_eq word (codes "--") ≡ false → long_of word ≡ Some (name, value) → numbered name ≡ false → bytes_eq trace name ≡ false
      → outcome (at (held rows pending) idle) (word ∷ words) ≡ None
  unfolding walked outcome
  unknown rows pending word name value words no_dashes is n t = rw (no_dashes, is, by_long name, n, t) refl

  -- a word that no option waits for
  stray : (rows : List Row) (pending : Option (Text × List Text)) (word : Text) (words : List Text) → bytes_eq word (codes "--") ≡ false → long_of word ≡ None → short_of word ≡ None
      → outcome (at (held rows pending) idle) (word ∷ words) ≡ None
  unfolding walked outcome
  stray rows pending word words no_dashes long short = rw (no_dashes, long, short, by_index) refl

  -- the value that an option waits for
  waited_for : (rows : List Row) (word name : Text) (words : List Text) → bytes_eq word (codes "--") ≡ false → long_of word ≡ None → short_of word ≡ None → numbered name ≡ true
      → outcome (at (held rows (Some (name, []))) (option name)) (word ∷ words) ≡ outcome (at (held rows (Some (name, word ∷ []))) idle) words
  unfolding walked outcome
  waited_for rows word name words no_dashes long short n = rw (no_dashes, long, short, by_id name, n, same_text name) refl

  -- an option still waits at the end
  lacks_value : (rows : List Row) (name : Text) → numbered name ≡ true → outcome (at (held rows (Some (name, []))) (option name)) [] ≡ None
  unfolding outcome
  lacks_value rows name n = rw (by_id name, n) refl

  -- an option where a value is waited for
  no_value : (rows : List Row) (word name other : Text) (given : Option Text) (words : List Text) → bytes_eq word (codes "--") ≡ false → long_of word ≡ Some (other, given) → numbered name ≡ true
      → outcome (at (held rows (Some (name, []))) (option name)) (word ∷ words) ≡ None
  unfolding walked outcome
  no_value rows word name other given words no_dashes is n = go (numbered other) refl (bytes_eq trace other) refl given refl
    where
      go : (b : Bool) → numbered other ≡ b → (t : Bool) → bytes_eq trace other ≡ t → (v : Option Text) → given ≡ v → outcome (at (held rows (Some (name, []))) (option name)) (word ∷ words) ≡ None
      go true e t f None v = rw (no_dashes, is, v, by_long other, e, by_id name, n) refl
      go true e t f (Some text) v = rw (no_dashes, is, v, by_long other, e, by_id name, n) refl
      go false e true f None v = rw (no_dashes, is, v, by_long other, e, f, by_id name, n) refl
      go false e true f (Some text) v = rw (no_dashes, is, v, by_long other, e, f) refl
      go false e false f v w = rw (no_dashes, is, by_long other, e, f) refl

  -- an option with its value is used where the next word, or the end, comes
  settles : {X : Type 0} (rows : List Row) (name text : Text) (next : List Row → Option X) → numbered name ≡ true
      → gate (settle_fault c false (held rows (Some (name, text ∷ [])))) (next (settled c (held rows (Some (name, text ∷ [])))).rows) ≡ put (row name (text ∷ [])) rows next
  settles rows name text next n =
      let fault : settle_fault c false (held rows (Some (name, text ∷ []))) ≡ or_else (repeat_fault false name rows) [] = rw (by_id name, n) refl in
      let moved : (settled c (held rows (Some (name, text ∷ [])))).rows ≡ with_values name (reading_of vp.String) CommandLine (text ∷ []) (without name rows) = rw (by_id name, n) refl in
      rw (fault, moved, gate_else (repeat_fault false name rows) [] (next (with_values name (reading_of vp.String) CommandLine (text ∷ []) (without name rows))))
      (used_or_refused name (reading_of vp.String) (text ∷ []) rows next)

  abbrev Reads : List Text → Type 0
  Reads words = ((rows : List Row) (pending : Option (Text × List Text)) → outcome (at (held rows pending) idle) words ≡ settle rows pending (λ r. read numbered r None words))
      × ((rows : List Row) (name : Text) → numbered name ≡ true → outcome (at (held rows (Some (name, []))) (option name)) words ≡ read numbered rows (Some name) words)

  reads_long : (word : Text) (words : List Text) → Reads words → (rows : List Row) (pending : Option (Text × List Text)) (name : Text) (value : Option Text) → long_of word ≡ Some (name, value) → (b : Bool) → numbered name ≡ b → (t : Bool) → bytes_eq trace name ≡ t
      → outcome (at (held rows pending) idle) (word ∷ words) ≡ settle rows pending (λ r. begun numbered (Some (name, value)) r (λ s waiting. read numbered s waiting words))
  reads_long word words more rows pending name (Some text) is true n t f =
      rw n (with_value rows pending word name text words (long_no_dashes word (name, Some text) is) is n ∙ (λ i. settle rows pending (λ r. put (row name (text ∷ [])) r (λ s. more.0 s None i))))
  reads_long word words more rows pending name None is true n t f =
      rw n (without_value rows pending word name words (long_no_dashes word (name, None) is) is n ∙ (λ i. settle rows pending (λ r. more.1 r name n i)))
  reads_long word words more rows pending name None is false n true f =
      rw (n, f) (flag rows pending word name words (long_no_dashes word (name, None) is) is n f ∙ (λ i. settle rows pending (λ r. put flag_row r (λ s. more.0 s None i))))
  reads_long word words more rows pending name (Some text) is false n true f =
      rw (n, f) (flag_with_value rows pending word name text words (long_no_dashes word (name, Some text) is) is n f ∙ sym (gate_none (settle_fault c false (held rows pending))))
  reads_long word words more rows pending name value is false n false f =
      rw (n, f) (unknown rows pending word name value words (long_no_dashes word (name, value) is) is n f ∙ sym (gate_none (settle_fault c false (held rows pending))))

  reads_idle : (word : Text) (words : List Text) → is_well_formed word ≡ true → Reads words → (rows : List Row) (pending : Option (Text × List Text)) (o : Option (Text × Option Text)) → long_of word ≡ o
      → outcome (at (held rows pending) idle) (word ∷ words) ≡ settle rows pending (λ r. begun numbered o r (λ s waiting. read numbered s waiting words))
  reads_idle word words formed more rows pending None is =
      let plain = plain_word word formed is in
      stray rows pending word words plain.1 is plain.0 ∙ sym (gate_none (settle_fault c false (held rows pending)))
  reads_idle word words formed more rows pending (Some p) is = reads_long word words more rows pending p.0 p.1 is (numbered p.0) refl (bytes_eq trace p.0) refl

  reads_waiting : (word : Text) (words : List Text) → is_well_formed word ≡ true → Reads words → (rows : List Row) (name : Text) → numbered name ≡ true → (o : Option (Text × Option Text)) → long_of word ≡ o
      → outcome (at (held rows (Some (name, []))) (option name)) (word ∷ words) ≡ read numbered rows (Some name) (word ∷ words)
  unfolding read
  reads_waiting word words formed more rows name n None is =
      let plain = plain_word word formed is in
      rw is (waited_for rows word name words plain.1 is plain.0 n ∙ more.0 rows (Some (name, word ∷ [])) ∙ settles rows name word (λ r. read numbered r None words) n)
  reads_waiting word words formed more rows name n (Some p) is =
      rw is (no_value rows word name p.0 p.1 words (long_no_dashes word p is) is n)

  -- what clap takes of well formed words is what `read` takes
  pub reads : (words : List Text) → list_all is_well_formed words ≡ true → Reads words
  unfolding outcome read
  reads [] formed = ((λ rows pending. refl), (λ rows name n. lacks_value rows name n))
  reads (word ∷ words) formed =
      let each = both _ _ formed in
      let more = reads words each.1 in
      ((λ rows pending. reads_idle word words each.0 more rows pending (long_of word) refl), (λ rows name n. reads_waiting word words each.0 more rows name n (long_of word) refl))
