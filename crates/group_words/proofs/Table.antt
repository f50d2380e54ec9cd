-- The options of the command: what clap finds by a name, and what the definition of options finds.
use Rattle.std.proofs.Common.{◌≡◌, ◌∙◌, Bool, true, false, refl, ap, List, [], ◌∷◌, ◌++◌, map, find, Option, Some, None, is_some}
use Rattle.std.specs.Str.{bytes_eq}
use Rattle.std.specs.List.{list_all, list_any, position}
use Rattle.std.proofs.lemmas.Slice.Eq.{bytes_eq-Decides}
use Rattle.clap.specs.Walk.{Row, Rule, Text, arg_by_id, arg_by_index, arg_by_long, has_row, with_default}
use Rattle.clap.specs.Simple.{built}
use Rattle.clap.specs.Faults.{defaults_fault}
use Rattle.group_words.specs.Parsed.{options_command, value_names}
use Rattle.group_words.specs.Options.{rule_of, setting_of}
use Rattle.group_words.specs.Options.{numbered as numbered_settings}
use Rattle.group_words.specs.declared.setting.Setting.{Setting}
use Rattle.group_words.proofs.Walked.{built_option, built_trace, found_by, shape, trace}

abbrev pub rules : List Rule
rules = map built_option value_names ++ built_trace ∷ []

-- the option of this name takes a number
abbrev pub numbered : Text → Bool
numbered name = list_any (λ v. bytes_eq v name) value_names

built_shape : (built options_command).top ≡ shape rules
built_shape = refl

pub by_index : arg_by_index rules 1 ≡ None
by_index = refl

same_name : (v name : Text) → bytes_eq v name ≡ true → v ≡ name
same_name v name e = (bytes_eq-Decides v name).0 e

long_among : (vs : List Text) (name : Text) → arg_by_long (map built_option vs ++ built_trace ∷ []) name ≡ found_by (λ n. list_any (λ v. bytes_eq v n) vs) name
long_among [] name = go (bytes_eq trace name) refl
  where
    go : (b : Bool) → bytes_eq trace name ≡ b → arg_by_long (built_trace ∷ []) name ≡ found_by (λ n. false) name
    go true e = rw e refl
    go false e = rw e refl
long_among (v ∷ vs) name = go (bytes_eq v name) refl (long_among vs name)
  where
    go : (b : Bool) → bytes_eq v name ≡ b → arg_by_long (map built_option vs ++ built_trace ∷ []) name ≡ found_by (λ n. list_any (λ v. bytes_eq v n) vs) name
        → arg_by_long (map built_option (v ∷ vs) ++ built_trace ∷ []) name ≡ found_by (λ n. list_any (λ v. bytes_eq v n) (v ∷ vs)) name
    go true e more = rw e (ap (λ n. Some (built_option n)) (same_name v name e))
    go false e more = rw e more

pub by_long : (name : Text) → arg_by_long rules name ≡ found_by numbered name
by_long = long_among value_names

id_among : (vs : List Text) (name : Text) → arg_by_id (map built_option vs ++ built_trace ∷ []) name ≡ found_by (λ n. list_any (λ v. bytes_eq v n) vs) name
id_among [] name = refl
id_among (v ∷ vs) name = go (bytes_eq v name) refl (id_among vs name)
  where
    go : (b : Bool) → bytes_eq v name ≡ b → arg_by_id (map built_option vs ++ built_trace ∷ []) name ≡ found_by (λ n. list_any (λ v. bytes_eq v n) vs) name
        → arg_by_id (map built_option (v ∷ vs) ++ built_trace ∷ []) name ≡ found_by (λ n. list_any (λ v. bytes_eq v n) (v ∷ vs)) name
    go true e more = rw e (ap (λ n. Some (built_option n)) (same_name v name e))
    go false e more = rw e more

pub by_id : (name : Text) → arg_by_id rules name ≡ found_by numbered name
by_id = id_among value_names

-- ---- defaults

keeps_rows : (rows : List Row) (v : Text) → with_default rows (built_option v) ≡ rows
keeps_rows rows v = go (has_row v rows) refl
  where
    go : (b : Bool) → has_row v rows ≡ b → with_default rows (built_option v) ≡ rows
    go true e = rw e refl
    go false e = rw e refl

pub defaults_among : (vs : List Text) (rows : List Row) → Rattle.std.specs.List.fold with_default rows (map built_option vs ++ built_trace ∷ []) ≡ with_default rows built_trace
defaults_among [] rows = refl
defaults_among (v ∷ vs) rows = ap (λ r. Rattle.std.specs.List.fold with_default r (map built_option vs ++ built_trace ∷ [])) (keeps_rows rows v) ∙ defaults_among vs rows

pub no_defaults_fault : (vs : List Text) (rows : List Row) → defaults_fault rows (map built_option vs ++ built_trace ∷ []) ≡ []
unfolding defaults_fault
no_defaults_fault [] rows = go (has_row trace rows) refl
  where
    go : (b : Bool) → has_row trace rows ≡ b → defaults_fault rows (built_trace ∷ []) ≡ []
    go true e = rw e refl
    go false e = rw e refl
no_defaults_fault (v ∷ vs) rows = go (has_row v rows) refl (no_defaults_fault vs rows)
  where
    go : (b : Bool) → has_row v rows ≡ b → defaults_fault rows (map built_option vs ++ built_trace ∷ []) ≡ [] → defaults_fault rows (map built_option (v ∷ vs) ++ built_trace ∷ []) ≡ []
    go true e more = rw e more
    go false e more = rw e more

-- ---- the settings of names

found_any : {X : Type 0} (p : X → Bool) (xs : List X) → is_some (find p xs) ≡ list_any p xs
found_any p [] = refl
found_any p (x ∷ xs) = go (p x) refl (found_any p xs)
  where
    go : (b : Bool) → p x ≡ b → is_some (find p xs) ≡ list_any p xs → is_some (find p (x ∷ xs)) ≡ list_any p (x ∷ xs)
    go true e more = rw e refl
    go false e more = rw e more

abbrev pub named : Text → Option Setting
named name = setting_of (45 ∷ 45 ∷ name)

pub named_numbered : (name : Text) → is_some (named name) ≡ numbered name
named_numbered name = found_any (λ s. bytes_eq (rule_of s).name (45 ∷ 45 ∷ name)) numbered_settings
