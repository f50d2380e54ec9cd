-- What is read is in range.
use Rattle.std.proofs.Common.{◌≡◌, ℕ, ◌≤◌, ◌^◌, ◌-◌, ◌==◌, codes, Bool, true, false, if◌then◌else◌, List, [], ◌∷◌, Option, None, Some, Result, Ok, Err, IfOk, refl, sym, ap, subst, arith}
use Rattle.std.specs.Str.{bytes_eq}
use Rattle.ds_base.specs.Ids.{IsTable}
use Rattle.ds_base.specs.Values.{IsValue}
use Rattle.ds_model.specs.declared.script.Op.{Op}
use Rattle.ds_model.specs.declared.script.Op.TheVariants as op
use Rattle.ds_model.specs.declared.script.FailAt.{FailAt}
use Rattle.ds_model.specs.declared.script.FailAt.TheVariants as fail_at
use Rattle.ds_model.specs.declared.script.FaultKind.{FaultKind}
use Rattle.ds_model.specs.declared.script.FaultKind.TheVariants as fault
use Rattle.ds_model.specs.Scripts.{IsOp, IsName, IsFlag, IsKey, IsCount, FailIsAllowed}
use Rattle.number_text.specs.Numbers.{number_of}
use Rattle.script_line.specs.declared.line.Keyword.{Keyword}
use Rattle.script_line.specs.declared.line.Keyword.TheVariants as keyword
use Rattle.script_line.specs.declared.line.Line.{Line}
use Rattle.script_line.specs.declared.line.Line.TheVariants as line
use Rattle.script_line.specs.Canonical.{IsLine, keyword_for}
use Rattle.script_line.specs.Lines.{table_in, key_in, flag_in, count_in, spot_op, put_op, scan_op, flag_op, bare_op, op_line, bare, member_line, fail_at_in, fail_line, tran_as, tran_line, line_under, line_behind, line_of_words, line_in, keyword_of, keyword_of_words, keyword_in}
use Rattle.script_line.specs.Words.{is_between, between, member_in, is_name, name_in, is_value, value_of, value_in, and_then, mapped, words_of, is_ascii}
use Rattle.script_line.proofs.Ranges.{between_Decides, name_Decides, value_Decides}

-- ---- facts of what was read, if it was

abbrev Said : {A : Type 0} → (A → Type 0) → Result A FaultKind → Type 0
Said P r = IfOk r P

mapped_said : {A B : Type 0} (P : A → Type 0) (Q : B → Type 0) (f : A → B) → ((a : A) → P a → Q (f a)) → (r : Result A FaultKind) → Said P r → Said Q (mapped f r)
mapped_said P Q f w (Ok a) h = w a h
mapped_said P Q f w (Err kind) h = h

then_said : {A B : Type 0} (P : A → Type 0) (Q : B → Type 0) (f : A → Result B FaultKind) → ((a : A) → P a → Said Q (f a)) → (r : Result A FaultKind) → Said P r → Said Q (and_then f r)
then_said P Q f w (Ok a) h = w a h
then_said P Q f w (Err kind) h = h

weaker_said : {A : Type 0} (P Q : A → Type 0) → ((a : A) → P a → Q a) → (r : Result A FaultKind) → Said P r → Said Q r
weaker_said P Q w (Ok a) h = w a h
weaker_said P Q w (Err kind) h = h

one_of : {A : Type 0} (P : A → Type 0) (b : Bool) (r s : Result A FaultKind) → Said P r → Said P s → Said P (if b then r else s)
one_of P true r s h k = h
one_of P false r s h k = k

tested : {A : Type 0} (P : A → Type 0) (kind : FaultKind) (a : A) (b : Bool) → (b ≡ true → P a) → Said P (if b then Ok a else Err kind)
tested P kind a true h = h refl
tested P kind a false h = tt

-- ---- words

between_said : (kind : FaultKind) (least greatest : ℕ) (found : Option ℕ) → Said (λ n. (least ≤ n) × (n ≤ greatest)) (between kind least greatest found)
between_said kind least greatest None = tt
between_said kind least greatest (Some n) = tested (λ n. (least ≤ n) × (n ≤ greatest)) kind n (is_between least greatest n) (between_Decides least greatest n).0

table_said : (word : List ℕ) → Said IsTable (table_in word)
table_said word = between_said fault.Number 1 64 (number_of word)

flag_said : (word : List ℕ) → Said IsFlag (flag_in word)
flag_said word = between_said fault.Number 1 64 (number_of word)

key_said : (word : List ℕ) → Said IsKey (key_in word)
key_said word = weaker_said (λ n. (0 ≤ n) × (n ≤ 2 ^ 64 - 1)) IsKey (λ n h. omega (arith, h.1)) (key_in word) (between_said fault.Number 0 (2 ^ 64 - 1) (number_of word))

count_said : (word : List ℕ) → Said IsCount (count_in word)
count_said word = weaker_said (λ n. (1 ≤ n) × (n ≤ 2 ^ 32 - 1)) IsCount (λ n h. (h.0, omega (arith, h.1))) (count_in word) (between_said fault.Number 1 (2 ^ 32 - 1) (number_of word))

name_said : (word : List ℕ) → Said IsName (name_in word)
name_said word = tested IsName fault.Name word (is_name word) (name_Decides word).0

value_said : (word : List ℕ) → Said IsValue (value_in word)
value_said [] = tt
value_said (b ∷ bytes) = one_of IsValue (b == 61) (value_of bytes) (Err fault.Value) (tested IsValue fault.Value bytes (is_value bytes) (value_Decides bytes).0) tt

-- ---- operations

spot_said : (make : ℕ → ℕ → Op) → ((t k : ℕ) → IsTable t → IsKey k → IsOp (make t k)) → (words : List (List ℕ)) → Said IsOp (spot_op make words)
spot_said make w [] = tt
spot_said make w (a ∷ []) = tt
spot_said make w (a ∷ b ∷ []) = then_said IsTable IsOp (λ t. mapped (make t) (key_in b)) (λ t h. mapped_said IsKey IsOp (make t) (λ k i. w t k h i) (key_in b) (key_said b)) (table_in a) (table_said a)
spot_said make w (a ∷ b ∷ c ∷ words) = tt

put_said : (words : List (List ℕ)) → Said IsOp (put_op words)
put_said [] = tt
put_said (a ∷ []) = tt
put_said (a ∷ b ∷ []) = tt
put_said (a ∷ b ∷ c ∷ []) =
    then_said IsTable IsOp (λ t. and_then (λ k. mapped (op.Put t k) (value_in c)) (key_in b)) (λ t h.
    then_said IsKey IsOp (λ k. mapped (op.Put t k) (value_in c)) (λ k i.
    mapped_said IsValue IsOp (op.Put t k) (λ v j. (h, i, j)) (value_in c) (value_said c)) (key_in b) (key_said b)) (table_in a) (table_said a)
put_said (a ∷ b ∷ c ∷ d ∷ words) = tt

scan_said : (words : List (List ℕ)) → Said IsOp (scan_op words)
scan_said [] = tt
scan_said (a ∷ []) = tt
scan_said (a ∷ b ∷ []) = tt
scan_said (a ∷ b ∷ c ∷ []) =
    then_said IsTable IsOp (λ t. and_then (λ l. mapped (op.Scan t l) (key_in c)) (key_in b)) (λ t h.
    then_said IsKey IsOp (λ l. mapped (op.Scan t l) (key_in c)) (λ l i.
    mapped_said IsKey IsOp (op.Scan t l) (λ k j. (h, i, j)) (key_in c) (key_said c)) (key_in b) (key_said b)) (table_in a) (table_said a)
scan_said (a ∷ b ∷ c ∷ d ∷ words) = tt

flagged_said : (make : ℕ → Op) → ((flag : ℕ) → IsFlag flag → IsOp (make flag)) → (words : List (List ℕ)) → Said IsOp (flag_op make words)
flagged_said make w [] = tt
flagged_said make w (a ∷ []) = mapped_said IsFlag IsOp make w (flag_in a) (flag_said a)
flagged_said make w (a ∷ b ∷ words) = tt

bare_op_said : (o : Op) → IsOp o → (words : List (List ℕ)) → Said IsOp (bare_op o words)
bare_op_said o h [] = h
bare_op_said o h (a ∷ words) = tt

op_said : (first : List ℕ) (words : List (List ℕ)) → Said IsOp (op_line first words)
op_said first words =
    one_of IsOp (bytes_eq first (codes "get")) _ _ (spot_said op.Get (λ t k h i. (h, i)) words)
    (one_of IsOp (bytes_eq first (codes "getu")) _ _ (spot_said op.Getu (λ t k h i. (h, i)) words)
    (one_of IsOp (bytes_eq first (codes "put")) _ _ (put_said words)
    (one_of IsOp (bytes_eq first (codes "del")) _ _ (spot_said op.Del (λ t k h i. (h, i)) words)
    (one_of IsOp (bytes_eq first (codes "scan")) _ _ (scan_said words)
    (one_of IsOp (bytes_eq first (codes "raise")) _ _ (flagged_said op.Raise (λ flag h. h) words)
    (one_of IsOp (bytes_eq first (codes "await")) _ _ (flagged_said op.Await (λ flag h. h) words)
    (one_of IsOp (bytes_eq first (codes "losecache")) _ _ (bare_op_said op.LoseCache tt words) (bare_op_said op.Abort tt words))))))))

-- ---- lines of a kind

-- in range, and of this kind
abbrev As : ℕ → Keyword → Line → Type 0
As members k l = IsLine members l × (keyword_for l ≡ k)

bare_said : (members : ℕ) (k : Keyword) (l : Line) → As members k l → (words : List (List ℕ)) → Said (As members k) (bare l words)
bare_said members k l h [] = h
bare_said members k l h (a ∷ words) = tt

member_said : (members : ℕ) (words : List (List ℕ)) → Said (As members keyword.Member) (member_line members words)
member_said members [] = tt
member_said members (a ∷ []) = mapped_said (λ n. (1 ≤ n) × (n ≤ members)) (As members keyword.Member) line.Member (λ n h. (h, refl)) (member_in members a) (between_said fault.Member 1 members (number_of a))
member_said members (a ∷ b ∷ words) = tt

abbrev IsAllowed : FailAt → Type 0
IsAllowed at = FailIsAllowed (Some at)

fail_at_said : (kind word : List ℕ) → Said IsAllowed (fail_at_in kind word)
fail_at_said kind word =
    one_of IsAllowed (bytes_eq kind (codes "command")) _ _ (mapped_said IsCount IsAllowed fail_at.Command (λ n h. h) (count_in word) (count_said word))
    (one_of IsAllowed (bytes_eq kind (codes "commit")) _ _ (mapped_said IsCount IsAllowed fail_at.Commit (λ n h. h) (count_in word) (count_said word))
    (one_of IsAllowed (bytes_eq kind (codes "committed")) _ _ (mapped_said IsCount IsAllowed fail_at.Committed (λ n h. h) (count_in word) (count_said word))
    (one_of IsAllowed (bytes_eq kind (codes "raise")) _ _ (mapped_said IsFlag IsAllowed fail_at.Raise (λ n h. h) (flag_in word) (flag_said word)) tt)))

fail_said : (members : ℕ) (words : List (List ℕ)) → Said (As members keyword.Fail) (fail_line words)
fail_said members [] = tt
fail_said members (a ∷ []) = tt
fail_said members (a ∷ b ∷ []) = mapped_said IsAllowed (As members keyword.Fail) line.Fail (λ at h. (h, refl)) (fail_at_in a b) (fail_at_said a b)
fail_said members (a ∷ b ∷ c ∷ words) = tt

tran_as_said : (members : ℕ) (wait : Bool) (word : List ℕ) → Said (As members keyword.Tran) (tran_as wait word)
tran_as_said members wait word = mapped_said IsName (As members keyword.Tran) (λ (name : List ℕ). line.Tran name wait) (λ name h. (h, refl)) (name_in word) (name_said word)

tran_said : (members : ℕ) (words : List (List ℕ)) → Said (As members keyword.Tran) (tran_line words)
tran_said members [] = tt
tran_said members (a ∷ []) = tran_as_said members true a
tran_said members (a ∷ b ∷ []) = one_of (As members keyword.Tran) (bytes_eq b (codes "nowait")) _ _ (tran_as_said members false a) tt
tran_said members (a ∷ b ∷ c ∷ words) = tt

under_said : (members : ℕ) (k : Keyword) (first : List ℕ) (words : List (List ℕ)) → Said (As members k) (line_under members k first words)
under_said members keyword.GroupFail first words = bare_said members keyword.GroupFail line.GroupFail (tt, refl) words
under_said members keyword.Phase first words = bare_said members keyword.Phase line.Phase (tt, refl) words
under_said members keyword.Member first words = member_said members words
under_said members keyword.Restart first words = bare_said members keyword.Restart line.Restart (tt, refl) words
under_said members keyword.Fail first words = fail_said members words
under_said members keyword.Tran first words = tran_said members words
under_said members keyword.Operation first words = mapped_said IsOp (As members keyword.Operation) line.Operation (λ o h. (h, refl)) (op_line first words) (op_said first words)
under_said members keyword.End first words = bare_said members keyword.End line.End (tt, refl) words

-- ---- all lines

-- in range, and of the kind that was found
abbrev Found : ℕ → Option Keyword → Line → Type 0
Found members found l = IsLine members l × (found ≡ Some (keyword_for l))

behind_said : (members : ℕ) (found : Option Keyword) (first : List ℕ) (words : List (List ℕ)) → Said (Found members found) (line_behind members found first words)
behind_said members None first words = tt
behind_said members (Some k) first words = weaker_said (As members k) (Found members (Some k)) (λ l h. (h.0, ap (λ (x : Keyword). Some x) (sym h.1))) (line_under members k first words) (under_said members k first words)

words_said : (members : ℕ) (words : List (List ℕ)) → Said (Found members (keyword_of_words words)) (line_of_words members words)
words_said members [] = tt
words_said members (first ∷ words) = behind_said members (keyword_of first) first words

line_said : (members : ℕ) (bytes : List ℕ) → Said (Found members (keyword_in bytes)) (line_in members bytes)
unfolding line_in keyword_in
line_said members bytes = one_of (Found members (keyword_of_words (words_of bytes))) (is_ascii bytes) (line_of_words members (words_of bytes)) (Err fault.Word) (words_said members (words_of bytes)) tt

-- whatever was read
read_is : (members : ℕ) (bytes : List ℕ) (l : Line) → line_in members bytes ≡ Ok l → Found members (keyword_in bytes) l
read_is members bytes l e = let P : Result Line FaultKind → Type 0 = λ r. Said (Found members (keyword_in bytes)) r in subst P e (line_said members bytes)

pub read_is_in_range : (members : ℕ) (bytes : List ℕ) (l : Line) → line_in members bytes ≡ Ok l → IsLine members l
read_is_in_range members bytes l e = (read_is members bytes l e).0

pub read_has_its_keyword : (members : ℕ) (bytes : List ℕ) (l : Line) → line_in members bytes ≡ Ok l → keyword_in bytes ≡ Some (keyword_for l)
read_has_its_keyword members bytes l e = (read_is members bytes l e).1
