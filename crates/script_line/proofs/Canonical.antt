-- The canonical text of a line is read as that line.
use Rattle.std.proofs.Common.{◌≡◌, ℕ, ◌≤◌, Bool, true, false, List, [], ◌∷◌, ◌++◌, Some, Ok, refl, ap, ◌∙◌, arith, append_assoc, append-nil, codes, All}
use Rattle.std.specs.Fmt.{decimal}
use Rattle.std.specs.List.{list_all}
use Rattle.std.proofs.lemmas.List.Elements.{All-weaker}
use Rattle.std.proofs.lemmas.List.Sums.{AllPass-from_list_all}
use Rattle.ds_model.specs.declared.script.Op.{Op}
use Rattle.ds_model.specs.declared.script.Op.TheVariants as op
use Rattle.ds_model.specs.declared.script.FailAt.{FailAt}
use Rattle.ds_model.specs.declared.script.FailAt.TheVariants as fail_at
use Rattle.ds_model.specs.Scripts.{IsOp, FailIsAllowed}
use Rattle.script_line.specs.declared.line.Line.{Line}
use Rattle.script_line.specs.declared.line.Line.TheVariants as line
use Rattle.script_line.specs.Canonical.{IsLine, IsPrinted, keyword_for, op_line_text, fail_line_text, text_of}
use Rattle.script_line.specs.Lines.{table_in, key_in, spot_op, put_op, scan_op, op_line, fail_line, line_in, line_of_words, keyword_in, keyword_of_words}
use Rattle.script_line.specs.Words.{words_of, is_ascii, and_then, mapped, value_in}
use Rattle.script_line.proofs.LineOfWords.{by_words}
use Rattle.script_line.proofs.Numbers.{member_is, table_is, key_is, flag_is, count_is}
use Rattle.script_line.proofs.Ranges.{between_Decides, name_is, value_is}
use Rattle.script_line.proofs.Texts.{is_seen_word, is_printed, spaced, words_of_spaced, printed_spaced, ascii_spaced, seen_number, seen_name, seen_value}

-- ---- the words of a line

abbrev op_first : Op → List ℕ
op_first (op.Get table key) = codes "get"
op_first (op.Getu table key) = codes "getu"
op_first (op.Put table key value) = codes "put"
op_first (op.Del table key) = codes "del"
op_first (op.Scan table low high) = codes "scan"
op_first (op.Raise flag) = codes "raise"
op_first (op.Await flag) = codes "await"
op_first op.LoseCache = codes "losecache"
op_first op.Abort = codes "abort"

abbrev op_rest : Op → List (List ℕ)
op_rest (op.Get table key) = decimal table ∷ decimal key ∷ []
op_rest (op.Getu table key) = decimal table ∷ decimal key ∷ []
op_rest (op.Put table key value) = decimal table ∷ decimal key ∷ (61 ∷ value) ∷ []
op_rest (op.Del table key) = decimal table ∷ decimal key ∷ []
op_rest (op.Scan table low high) = decimal table ∷ decimal low ∷ decimal high ∷ []
op_rest (op.Raise flag) = decimal flag ∷ []
op_rest (op.Await flag) = decimal flag ∷ []
op_rest op.LoseCache = []
op_rest op.Abort = []

abbrev fail_words : FailAt → List (List ℕ)
fail_words (fail_at.Command n) = codes "command" ∷ decimal n ∷ []
fail_words (fail_at.Commit n) = codes "commit" ∷ decimal n ∷ []
fail_words (fail_at.Committed n) = codes "committed" ∷ decimal n ∷ []
fail_words (fail_at.Raise flag) = codes "raise" ∷ decimal flag ∷ []

abbrev wait_words : Bool → List (List ℕ)
wait_words true = []
wait_words false = codes "nowait" ∷ []

abbrev words_in : Line → List (List ℕ)
words_in line.GroupFail = codes "groupfail" ∷ []
words_in line.Phase = codes "phase" ∷ []
words_in (line.Member m) = codes "member" ∷ decimal m ∷ []
words_in line.Restart = codes "restart" ∷ []
words_in (line.Fail at) = codes "fail" ∷ fail_words at
words_in (line.Tran name wait) = codes "tran" ∷ name ∷ wait_words wait
words_in (line.Operation o) = op_first o ∷ op_rest o
words_in line.End = codes "end" ∷ []

-- ---- the text is made of them

two : (a b : List ℕ) → (a ++ 32 ∷ []) ++ b ≡ a ++ 32 ∷ b
two a b = simp append_assoc

three : (a b c : List ℕ) → (((a ++ 32 ∷ []) ++ b) ++ 32 ∷ []) ++ c ≡ a ++ 32 ∷ (b ++ 32 ∷ c)
three a b c = simp append_assoc

four : (a b c d : List ℕ) → (((((a ++ 32 ∷ []) ++ b) ++ 32 ∷ []) ++ c) ++ 32 ∷ []) ++ d ≡ a ++ 32 ∷ (b ++ 32 ∷ (c ++ 32 ∷ d))
four a b c d = simp append_assoc

four_put : (a b c d : List ℕ) → (((((a ++ 32 ∷ []) ++ b) ++ 32 ∷ []) ++ c) ++ 32 ∷ 61 ∷ []) ++ d ≡ a ++ 32 ∷ (b ++ 32 ∷ (c ++ 32 ∷ 61 ∷ d))
four_put a b c d = simp append_assoc

text_of_op : (o : Op) → op_line_text o ≡ spaced (op_first o ∷ op_rest o)
text_of_op (op.Get table key) = three (codes "get") (decimal table) (decimal key)
text_of_op (op.Getu table key) = three (codes "getu") (decimal table) (decimal key)
text_of_op (op.Put table key value) = four_put (codes "put") (decimal table) (decimal key) value
text_of_op (op.Del table key) = three (codes "del") (decimal table) (decimal key)
text_of_op (op.Scan table low high) = four (codes "scan") (decimal table) (decimal low) (decimal high)
text_of_op (op.Raise flag) = refl
text_of_op (op.Await flag) = refl
text_of_op op.LoseCache = refl
text_of_op op.Abort = refl

text_of_fail : (at : FailAt) → fail_line_text at ≡ spaced (codes "fail" ∷ fail_words at)
text_of_fail (fail_at.Command n) = refl
text_of_fail (fail_at.Commit n) = refl
text_of_fail (fail_at.Committed n) = refl
text_of_fail (fail_at.Raise flag) = refl

text_is : (l : Line) → text_of l ≡ spaced (words_in l)
text_is line.GroupFail = refl
text_is line.Phase = refl
text_is (line.Member m) = refl
text_is line.Restart = refl
text_is (line.Fail at) = text_of_fail at
text_is (line.Tran name true) = append-nil (codes "tran " ++ name)
text_is (line.Tran name false) = refl
text_is (line.Operation o) = text_of_op o
text_is line.End = refl

-- ---- each of them is seen

seen_op : (o : Op) → IsOp o → list_all is_seen_word (op_first o ∷ op_rest o) ≡ true
seen_op (op.Get table key) h = rw (seen_number table (omega arith), seen_number key h.1) refl
seen_op (op.Getu table key) h = rw (seen_number table (omega arith), seen_number key h.1) refl
seen_op (op.Put table key value) h = rw (seen_number table (omega arith), seen_number key h.1, seen_value value h.2) refl
seen_op (op.Del table key) h = rw (seen_number table (omega arith), seen_number key h.1) refl
seen_op (op.Scan table low high) h = rw (seen_number table (omega arith), seen_number low h.1, seen_number high h.2) refl
seen_op (op.Raise flag) h = rw (seen_number flag (omega arith)) refl
seen_op (op.Await flag) h = rw (seen_number flag (omega arith)) refl
seen_op op.LoseCache h = refl
seen_op op.Abort h = refl

seen_fail : (at : FailAt) → FailIsAllowed (Some at) → list_all is_seen_word (codes "fail" ∷ fail_words at) ≡ true
seen_fail (fail_at.Command n) h = rw (seen_number n (omega arith)) refl
seen_fail (fail_at.Commit n) h = rw (seen_number n (omega arith)) refl
seen_fail (fail_at.Committed n) h = rw (seen_number n (omega arith)) refl
seen_fail (fail_at.Raise flag) h = rw (seen_number flag (omega arith)) refl

pub seen_line : (members : ℕ) (l : Line) → members ≤ 32 → IsLine members l → list_all is_seen_word (words_in l) ≡ true
seen_line members line.GroupFail few h = refl
seen_line members line.Phase few h = refl
seen_line members (line.Member m) few h = rw (seen_number m (omega arith)) refl
seen_line members line.Restart few h = refl
seen_line members (line.Fail at) few h = seen_fail at h
seen_line members (line.Tran name true) few h = rw (seen_name name h) refl
seen_line members (line.Tran name false) few h = rw (seen_name name h) refl
seen_line members (line.Operation o) few h = seen_op o h
seen_line members line.End few h = refl

-- ---- and they say the line

spot_said : (make : ℕ → ℕ → Op) (w v : List ℕ) (t k : ℕ) → table_in w ≡ Ok t → key_in v ≡ Ok k → spot_op make (w ∷ v ∷ []) ≡ Ok (make t k)
spot_said make w v t k e f = ap (and_then (λ n. mapped (make n) (key_in v))) e ∙ ap (mapped (make t)) f

put_said : (w v u value : List ℕ) (t k : ℕ) → table_in w ≡ Ok t → key_in v ≡ Ok k → value_in u ≡ Ok value → put_op (w ∷ v ∷ u ∷ []) ≡ Ok (op.Put t k value)
put_said w v u value t k e f g = ap (and_then (λ n. and_then (λ m. mapped (op.Put n m) (value_in u)) (key_in v))) e ∙ ap (and_then (λ m. mapped (op.Put t m) (value_in u))) f ∙ ap (mapped (op.Put t k)) g

scan_said : (w v u : List ℕ) (t l k : ℕ) → table_in w ≡ Ok t → key_in v ≡ Ok l → key_in u ≡ Ok k → scan_op (w ∷ v ∷ u ∷ []) ≡ Ok (op.Scan t l k)
scan_said w v u t l k e f g = ap (and_then (λ n. and_then (λ m. mapped (op.Scan n m) (key_in u)) (key_in v))) e ∙ ap (and_then (λ m. mapped (op.Scan t m) (key_in u))) f ∙ ap (mapped (op.Scan t l)) g

op_said : (o : Op) → IsOp o → op_line (op_first o) (op_rest o) ≡ Ok o
op_said (op.Get table key) h = spot_said op.Get (decimal table) (decimal key) table key (table_is table h.0) (key_is key h.1)
op_said (op.Getu table key) h = spot_said op.Getu (decimal table) (decimal key) table key (table_is table h.0) (key_is key h.1)
op_said (op.Put table key value) h = put_said (decimal table) (decimal key) (61 ∷ value) value table key (table_is table h.0) (key_is key h.1) (value_is value h.2)
op_said (op.Del table key) h = spot_said op.Del (decimal table) (decimal key) table key (table_is table h.0) (key_is key h.1)
op_said (op.Scan table low high) h = scan_said (decimal table) (decimal low) (decimal high) table low high (table_is table h.0) (key_is low h.1) (key_is high h.2)
op_said (op.Raise flag) h = ap (mapped op.Raise) (flag_is flag h)
op_said (op.Await flag) h = ap (mapped op.Await) (flag_is flag h)
op_said op.LoseCache h = refl
op_said op.Abort h = refl

fail_said : (at : FailAt) → FailIsAllowed (Some at) → fail_line (fail_words at) ≡ Ok (line.Fail at)
fail_said (fail_at.Command n) h = ap (λ r. mapped line.Fail (mapped fail_at.Command r)) (count_is n h)
fail_said (fail_at.Commit n) h = ap (λ r. mapped line.Fail (mapped fail_at.Commit r)) (count_is n h)
fail_said (fail_at.Committed n) h = ap (λ r. mapped line.Fail (mapped fail_at.Committed r)) (count_is n h)
fail_said (fail_at.Raise flag) h = ap (λ r. mapped line.Fail (mapped fail_at.Raise r)) (flag_is flag h)

operation_as : (members : ℕ) (o : Op) → line_of_words members (op_first o ∷ op_rest o) ≡ mapped line.Operation (op_line (op_first o) (op_rest o))
operation_as members (op.Get table key) = refl
operation_as members (op.Getu table key) = refl
operation_as members (op.Put table key value) = refl
operation_as members (op.Del table key) = refl
operation_as members (op.Scan table low high) = refl
operation_as members (op.Raise flag) = refl
operation_as members (op.Await flag) = refl
operation_as members op.LoseCache = refl
operation_as members op.Abort = refl

pub line_said : (members : ℕ) (l : Line) → members ≤ 32 → IsLine members l → line_of_words members (words_in l) ≡ Ok l
line_said members line.GroupFail few h = refl
line_said members line.Phase few h = refl
line_said members (line.Member m) few h = ap (mapped line.Member) (member_is members m few h.0 h.1)
line_said members line.Restart few h = refl
line_said members (line.Fail at) few h = fail_said at h
line_said members (line.Tran name true) few h = ap (mapped (λ (n : List ℕ). line.Tran n true)) (name_is name h)
line_said members (line.Tran name false) few h = ap (mapped (λ (n : List ℕ). line.Tran n false)) (name_is name h)
line_said members (line.Operation o) few h = operation_as members o ∙ ap (mapped line.Operation) (op_said o h)
line_said members line.End few h = refl

keyword_said : (l : Line) → keyword_of_words (words_in l) ≡ Some (keyword_for l)
keyword_said line.GroupFail = refl
keyword_said line.Phase = refl
keyword_said (line.Member m) = refl
keyword_said line.Restart = refl
keyword_said (line.Fail at) = refl
keyword_said (line.Tran name wait) = refl
keyword_said (line.Operation (op.Get table key)) = refl
keyword_said (line.Operation (op.Getu table key)) = refl
keyword_said (line.Operation (op.Put table key value)) = refl
keyword_said (line.Operation (op.Del table key)) = refl
keyword_said (line.Operation (op.Scan table low high)) = refl
keyword_said (line.Operation (op.Raise flag)) = refl
keyword_said (line.Operation (op.Await flag)) = refl
keyword_said (line.Operation op.LoseCache) = refl
keyword_said (line.Operation op.Abort) = refl
keyword_said line.End = refl

-- ---- so the text does

words_of_text : (members : ℕ) (l : Line) → members ≤ 32 → IsLine members l → words_of (text_of l) ≡ words_in l
words_of_text members l few h = ap words_of (text_is l) ∙ words_of_spaced (words_in l) (seen_line members l few h)

pub text_is_read : (members : ℕ) (l : Line) → members ≤ 32 → IsLine members l → line_in members (text_of l) ≡ Ok l
text_is_read members l few h =
    by_words members (text_of l) (ap is_ascii (text_is l) ∙ ascii_spaced (words_in l) (seen_line members l few h))
    ∙ ap (line_of_words members) (words_of_text members l few h) ∙ line_said members l few h

pub keyword_of_text : (members : ℕ) (l : Line) → members ≤ 32 → IsLine members l → keyword_in (text_of l) ≡ Some (keyword_for l)
unfolding keyword_in
keyword_of_text members l few h = ap keyword_of_words (words_of_text members l few h) ∙ keyword_said l

pub text_is_printed : (members : ℕ) (l : Line) → members ≤ 32 → IsLine members l → All IsPrinted (text_of l)
text_is_printed members l few h =
    All-weaker (λ b. is_printed b ≡ true) IsPrinted (λ b. (between_Decides 0x20 0x7e b).0) (text_of l)
    (AllPass-from_list_all is_printed (text_of l) (ap (list_all is_printed) (text_is l) ∙ printed_spaced (words_in l) (seen_line members l few h)))
