-- What a line says by itself, for a group with so many members.
use Rattle.std.specs.Prelude.{◌≡◌, ℕ, ◌-◌, ◌^◌, Bool, true, false, if◌then◌else◌, List, [], ◌∷◌, Option, Some, None, Result, Ok, Err, codes}
use Rattle.std.specs.Str.{bytes_eq}
use Rattle.ds_model.specs.declared.script.Op.{Op}
use Rattle.ds_model.specs.declared.script.Op.TheVariants as op
use Rattle.ds_model.specs.declared.script.FailAt.{FailAt}
use Rattle.ds_model.specs.declared.script.FailAt.TheVariants as fail_at
use Rattle.ds_model.specs.declared.script.FaultKind.{FaultKind}
use Rattle.ds_model.specs.declared.script.FaultKind.TheVariants as fault
use Rattle.script_line.specs.declared.line.Keyword.{Keyword}
use Rattle.script_line.specs.declared.line.Keyword.TheVariants as keyword
use Rattle.script_line.specs.declared.line.Line.{Line}
use Rattle.script_line.specs.declared.line.Line.TheVariants as line
use Rattle.script_line.specs.declared.line.LineError.{LineError}
use Rattle.script_line.specs.declared.line.LineError.TheVariants as error
use Rattle.script_line.specs.Words.{words_of, are_skipped, is_ascii, and_then, mapped, number_in, member_in, name_in, value_in}

-- ---- the first word

abbrev pub is_operation : List ℕ → Bool
is_operation word =
    if bytes_eq word (codes "get") then true
    else if bytes_eq word (codes "getu") then true
    else if bytes_eq word (codes "put") then true
    else if bytes_eq word (codes "del") then true
    else if bytes_eq word (codes "scan") then true
    else if bytes_eq word (codes "raise") then true
    else if bytes_eq word (codes "await") then true
    else if bytes_eq word (codes "losecache") then true
    else bytes_eq word (codes "abort")

abbrev pub keyword_of : List ℕ → Option Keyword
keyword_of word =
    if bytes_eq word (codes "groupfail") then Some keyword.GroupFail
    else if bytes_eq word (codes "phase") then Some keyword.Phase
    else if bytes_eq word (codes "member") then Some keyword.Member
    else if bytes_eq word (codes "restart") then Some keyword.Restart
    else if bytes_eq word (codes "fail") then Some keyword.Fail
    else if bytes_eq word (codes "tran") then Some keyword.Tran
    else if bytes_eq word (codes "end") then Some keyword.End
    else if is_operation word then Some keyword.Operation
    else None

-- ---- the words behind it, by their number and form, and then each by what it may be

abbrev pub bare : Line → List (List ℕ) → Result Line FaultKind
bare l [] = Ok l
bare l (word ∷ words) = Err fault.Word

abbrev pub member_line : ℕ → List (List ℕ) → Result Line FaultKind
member_line members (word ∷ []) = mapped line.Member (member_in members word)
member_line members _ = Err fault.Word

abbrev pub count_in : List ℕ → Result ℕ FaultKind
count_in word = number_in 1 (2 ^ 32 - 1) word

abbrev pub flag_in : List ℕ → Result ℕ FaultKind
flag_in word = number_in 1 64 word

abbrev pub fail_at_in : List ℕ → List ℕ → Result FailAt FaultKind
fail_at_in kind word =
    if bytes_eq kind (codes "command") then mapped fail_at.Command (count_in word)
    else if bytes_eq kind (codes "commit") then mapped fail_at.Commit (count_in word)
    else if bytes_eq kind (codes "committed") then mapped fail_at.Committed (count_in word)
    else if bytes_eq kind (codes "raise") then mapped fail_at.Raise (flag_in word)
    else Err fault.Word

abbrev pub fail_line : List (List ℕ) → Result Line FaultKind
fail_line (kind ∷ word ∷ []) = mapped line.Fail (fail_at_in kind word)
fail_line _ = Err fault.Word

abbrev pub tran_as : Bool → List ℕ → Result Line FaultKind
tran_as wait word = mapped (λ name. line.Tran name wait) (name_in word)

abbrev pub tran_line : List (List ℕ) → Result Line FaultKind
tran_line (word ∷ []) = tran_as true word
tran_line (word ∷ last ∷ []) = if bytes_eq last (codes "nowait") then tran_as false word else Err fault.Word
tran_line _ = Err fault.Word

abbrev pub table_in : List ℕ → Result ℕ FaultKind
table_in word = number_in 1 64 word

abbrev pub key_in : List ℕ → Result ℕ FaultKind
key_in word = number_in 0 (2 ^ 64 - 1) word

-- an operation of a table and a key
abbrev pub spot_op : (ℕ → ℕ → Op) → List (List ℕ) → Result Op FaultKind
spot_op make (table ∷ key ∷ []) = and_then (λ t. mapped (make t) (key_in key)) (table_in table)
spot_op make _ = Err fault.Word

abbrev pub put_op : List (List ℕ) → Result Op FaultKind
put_op (table ∷ key ∷ value ∷ []) = and_then (λ t. and_then (λ k. mapped (op.Put t k) (value_in value)) (key_in key)) (table_in table)
put_op _ = Err fault.Word

abbrev pub scan_op : List (List ℕ) → Result Op FaultKind
scan_op (table ∷ low ∷ high ∷ []) = and_then (λ t. and_then (λ l. mapped (op.Scan t l) (key_in high)) (key_in low)) (table_in table)
scan_op _ = Err fault.Word

abbrev pub flag_op : (ℕ → Op) → List (List ℕ) → Result Op FaultKind
flag_op make (word ∷ []) = mapped make (flag_in word)
flag_op make _ = Err fault.Word

abbrev pub bare_op : Op → List (List ℕ) → Result Op FaultKind
bare_op o [] = Ok o
bare_op o (word ∷ words) = Err fault.Word

abbrev pub op_line : List ℕ → List (List ℕ) → Result Op FaultKind
op_line first words =
    if bytes_eq first (codes "get") then spot_op op.Get words
    else if bytes_eq first (codes "getu") then spot_op op.Getu words
    else if bytes_eq first (codes "put") then put_op words
    else if bytes_eq first (codes "del") then spot_op op.Del words
    else if bytes_eq first (codes "scan") then scan_op words
    else if bytes_eq first (codes "raise") then flag_op op.Raise words
    else if bytes_eq first (codes "await") then flag_op op.Await words
    else if bytes_eq first (codes "losecache") then bare_op op.LoseCache words
    else bare_op op.Abort words

abbrev pub line_under : ℕ → Keyword → List ℕ → List (List ℕ) → Result Line FaultKind
line_under members keyword.GroupFail first words = bare line.GroupFail words
line_under members keyword.Phase first words = bare line.Phase words
line_under members keyword.Member first words = member_line members words
line_under members keyword.Restart first words = bare line.Restart words
line_under members keyword.Fail first words = fail_line words
line_under members keyword.Tran first words = tran_line words
line_under members keyword.Operation first words = mapped line.Operation (op_line first words)
line_under members keyword.End first words = bare line.End words

abbrev pub line_behind : ℕ → Option Keyword → List ℕ → List (List ℕ) → Result Line FaultKind
line_behind members None first words = Err fault.Word
line_behind members (Some k) first words = line_under members k first words

abbrev pub line_of_words : ℕ → List (List ℕ) → Result Line FaultKind
line_of_words members [] = Err fault.Word
line_of_words members (first ∷ words) = line_behind members (keyword_of first) first words

abbrev pub keyword_of_words : List (List ℕ) → Option Keyword
keyword_of_words [] = None
keyword_of_words (first ∷ words) = keyword_of first

-- ---- a line's bytes, without what ends it

abbrev pub is_skipped : List ℕ → Bool
is_skipped bytes = are_skipped (words_of bytes)

-- what the first word says that the line is
unfoldable pub keyword_in : List ℕ → Option Keyword
keyword_in bytes = keyword_of_words (words_of bytes)

-- what a line that isn't skipped says, or its first fault of those that show in the line alone
unfoldable pub line_in : ℕ → List ℕ → Result Line FaultKind
line_in members bytes = if is_ascii bytes then line_of_words members (words_of bytes) else Err fault.Word

-- ---- what a reader answers that may want memory

-- the line is that of a transaction
abbrev pub is_of_tran : Result Line FaultKind → Bool
is_of_tran (Ok (line.Tran name wait)) = true
is_of_tran said = false

-- it gives what the line says: the line or its fault. It wants memory only for the name of a transaction
abbrev pub Gives : Result Line FaultKind → Result Line LineError → Type 0
Gives said (Ok l) = said ≡ Ok l
Gives said (Err (error.Fault kind)) = said ≡ Err kind
Gives said (Err error.NoMemory) = is_of_tran said ≡ true
