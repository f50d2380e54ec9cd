-- What the words of a line say is the line.
use Rattle.std.proofs.Common.{◌≡◌, ℕ, ◌-◌, ◌^◌, ◌<◌, Bool, true, false, ◌&&◌, ◌==◌, nat_le, List, [], ◌∷◌, ◌++◌, length, drop, Option, Some, None, refl, ap, sym, ◌∙◌, subst, arith, decimal, codes}
use Rattle.std.proofs.lemmas.Bool.Decides.{nat_tests}
use Rattle.std.specs.List.{slice_index_or}
use Rattle.std.specs.Str.{bytes_eq}
use Rattle.ds_model.specs.declared.lock.Name.{Name}
use Rattle.ds_model.specs.declared.lock.Name.TheVariants as lock
use Rattle.ds_model.specs.declared.report.ToldRefusal.{ToldRefusal}
use Rattle.ds_model.specs.declared.report.ToldRefusal.TheVariants as refusal
use Rattle.ds_model.specs.ScriptText.{line}
use Rattle.report_line.specs.declared.line.ReportLine.{ReportLine}
use Rattle.report_line.specs.declared.line.ReportLine.TheVariants as lines
use Rattle.report_line.specs.Lines.{is_between, is_name, is_value, is_member, is_table, has_bits, is_command, is_reply, is_told_value, is_lock, is_refusal, is_who, is_line}
use Rattle.report_line.specs.Bodies.{member_word, lock_words, refusal_words, line_words, line_body}
use Rattle.report_line.specs.Reading.{words_of, word, number, wide_number, number_at, wide_number_at, member_at, by_place, lock_said, refusal_said, line_said, kept, is_spelled, line_in}
use Rattle.report_line.proofs.Tests.{and_left, and_right, and_true}
use Rattle.report_line.proofs.Numbers.{number_again, wide_number_again}
use Rattle.report_line.proofs.Plain.{words_again}
use Rattle.report_line.proofs.Whole.{below_key, below_lrsn, below_count, below_short, below_byte, below_table, below_member, below_group, below_place, words_plain}
use Rattle.report_line.proofs.Again.{by_words}

at : (text : List ℕ) (ws : List (List ℕ)) (i : ℕ) → words_of text ≡ ws → word text i ≡ slice_index_or ws i []
unfolding word
at text ws i e = ap (λ (found : List (List ℕ)). slice_index_or found i []) e

number_in : (text : List ℕ) (ws : List (List ℕ)) (i n : ℕ) → words_of text ≡ ws → slice_index_or ws i [] ≡ decimal n → n < 2 ^ 64 → number_at text i ≡ n
number_in text ws i n e is h = ap number (at text ws i e ∙ is) ∙ number_again n h

wide_number_in : (text : List ℕ) (ws : List (List ℕ)) (i n : ℕ) → words_of text ≡ ws → slice_index_or ws i [] ≡ decimal n → n < 2 ^ 80 → wide_number_at text i ≡ n
wide_number_in text ws i n e is h = ap wide_number (at text ws i e ∙ is) ∙ wide_number_again n h

member_in : (text : List ℕ) (ws : List (List ℕ)) (i n : ℕ) → words_of text ≡ ws → slice_index_or ws i [] ≡ member_word n → n < 2 ^ 64 → member_at text i ≡ n
member_in text ws i n e is h = ap (λ (w : List ℕ). number (drop 1 w)) (at text ws i e ∙ is) ∙ number_again n h

-- ---- locks

said_lock : (text a b c d : List ℕ) (name : Name) (more : List (List ℕ)) → words_of text ≡ a ∷ b ∷ c ∷ d ∷ (lock_words name ++ more) → is_lock name ≡ true → lock_said text ≡ name
unfolding lock_said
said_lock text a b c d (lock.Space table) more e h =
    let k = at text _ 4 e in
    let t = number_in text _ 5 table e refl (below_table table h) in
    rw (k, t) refl
said_lock text a b c d (lock.Row table key) more e h =
    let k = at text _ 4 e in
    let t = number_in text _ 5 table e refl (below_table table (and_left (is_table table) (has_bits 64 key) h)) in
    let n = number_in text _ 6 key e refl (below_key key (and_right (is_table table) (has_bits 64 key) h)) in
    rw (k, t, n) refl
said_lock text a b c d (lock.Page page) more e h =
    let k = at text _ 4 e in
    let t = number_in text _ 5 page.set e refl (below_short page.set (and_left (has_bits 16 page.set) (has_bits 32 page.number) h)) in
    let n = number_in text _ 6 page.number e refl (below_count page.number (and_right (has_bits 16 page.set) (has_bits 32 page.number) h)) in
    rw (k, t, n) refl
said_lock text a b c d (lock.Set set) more e h =
    let k = at text _ 4 e in
    let t = number_in text _ 5 set e refl (below_short set h) in
    rw (k, t) refl

by_word : (text a b c d : List ℕ) (name : Name) (by : List ℕ) → words_of text ≡ a ∷ b ∷ c ∷ d ∷ (lock_words name ++ codes "by" ∷ by ∷ []) → word text (by_place text) ≡ by
by_word text a b c d (lock.Space table) by e = let k = at text _ 4 e in rw k (at text _ 7 e)
by_word text a b c d (lock.Row table key) by e = let k = at text _ 4 e in rw k (at text _ 8 e)
by_word text a b c d (lock.Page page) by e = let k = at text _ 4 e in rw k (at text _ 8 e)
by_word text a b c d (lock.Set set) by e = let k = at text _ 4 e in rw k (at text _ 7 e)

-- ---- refusals

said_refusal : (text a b c : List ℕ) (r : ToldRefusal) → words_of text ≡ a ∷ b ∷ c ∷ refusal_words r → is_refusal r ≡ true → refusal_said text ≡ r
unfolding refusal_said
said_refusal text a b c (refusal.Held name by) e h =
    let k = at text _ 3 e in
    let n = said_lock text a b c (codes "held") name (codes "by" ∷ by ∷ []) e (and_left (is_lock name) (is_name by) h) in
    let w = by_word text a b c (codes "held") name by e in
    rw (k, n, w) refl
said_refusal text a b c (refusal.Retained name by) e h =
    let k = at text _ 3 e in
    let n = said_lock text a b c (codes "retained") name (codes "by" ∷ member_word by ∷ []) e (and_left (is_lock name) (is_member by) h) in
    let w = by_word text a b c (codes "retained") name (member_word by) e in
    let m = number_again by (below_member by (and_right (is_lock name) (is_member by) h)) in
    rw (k, n, w, m) refl
said_refusal text a b c (refusal.Deadlock cycle) e h =
    let k = at text _ 3 e in
    rw (k, e) refl
said_refusal text a b c (refusal.SpaceFull table pages) e h =
    let k = at text _ 3 e in
    let t = number_in text _ 4 table e refl (below_table table (and_left (is_table table) (has_bits 32 pages) h)) in
    let n = number_in text _ 5 pages e refl (below_count pages (and_right (is_table table) (has_bits 32 pages) h)) in
    rw (k, t, n) refl
said_refusal text a b c (refusal.RecordsFull limit) e h =
    let k = at text _ 3 e in
    let n = number_in text _ 4 limit e refl (below_count limit h) in
    rw (k, n) refl
said_refusal text a b c (refusal.LrsnEnd at_) e h =
    let k = at text _ 3 e in
    let n = wide_number_in text _ 4 at_ e refl (below_lrsn at_ h) in
    rw (k, n) refl
said_refusal text a b c refusal.Memory e h = let k = at text _ 3 e in rw k refl
said_refusal text a b c refusal.Aborted e h = let k = at text _ 3 e in rw k refl

-- ---- lines

said_who : (text kind name : List ℕ) (member : ℕ) (more : List (List ℕ)) → words_of text ≡ kind ∷ name ∷ member_word member ∷ more → is_who name member ≡ true → (word text 0 ≡ kind) × (word text 1 ≡ name) × (member_at text 2 ≡ member)
said_who text kind name member more e h = (at text _ 0 e, at text _ 1 e, member_in text _ 2 member e refl (below_member member (and_right (is_name name) (is_member member) h)))

said_committed : (text name : List ℕ) (member : ℕ) (answered : Bool) → words_of text ≡ line_words (lines.Committed name member answered) → is_who name member ≡ true → line_said text ≡ lines.Committed name member answered
unfolding line_said
said_committed text name member true e h =
    let (k, n, m) = said_who text (codes "committed") name member (codes "answered" ∷ []) e h in
    let a = at text _ 3 e in
    rw (k, n, m, a) refl
said_committed text name member false e h =
    let (k, n, m) = said_who text (codes "committed") name member (codes "unanswered" ∷ []) e h in
    let a = at text _ 3 e in
    rw (k, n, m, a) refl

said_refused : (text name : List ℕ) (member : ℕ) (r : ToldRefusal) → words_of text ≡ line_words (lines.Refused name member r) → is_who name member ≡ true → is_refusal r ≡ true → line_said text ≡ lines.Refused name member r
unfolding line_said
said_refused text name member r e h q =
    let (k, n, m) = said_who text (codes "refused") name member (refusal_words r) e h in
    let why = said_refusal text (codes "refused") name (member_word member) r e q in
    rw (k, n, m, why) refl

said_stopped : (text name : List ℕ) (member : ℕ) → words_of text ≡ line_words (lines.Stopped name member) → is_who name member ≡ true → line_said text ≡ lines.Stopped name member
unfolding line_said
said_stopped text name member e h =
    let (k, n, m) = said_who text (codes "stopped") name member [] e h in
    rw (k, n, m) refl

said_read : (text : List ℕ) (table key : ℕ) (value : Option (List ℕ)) → words_of text ≡ line_words (lines.Read table key value) → table < 2 ^ 64 → key < 2 ^ 64 → line_said text ≡ lines.Read table key value
unfolding line_said
said_read text table key None e t n =
    let k = at text _ 0 e in
    let a = number_in text _ 1 table e refl t in
    let b = number_in text _ 2 key e refl n in
    let v = at text _ 3 e in
    rw (k, a, b, v) refl
said_read text table key (Some value) e t n =
    let k = at text _ 0 e in
    let a = number_in text _ 1 table e refl t in
    let b = number_in text _ 2 key e refl n in
    let v = at text _ 3 e in
    rw (k, a, b, v) refl

said_scan : (text : List ℕ) (table low high count : ℕ) → words_of text ≡ line_words (lines.Scan table low high count) → table < 2 ^ 64 → low < 2 ^ 64 → high < 2 ^ 64 → count < 2 ^ 64 → line_said text ≡ lines.Scan table low high count
unfolding line_said
said_scan text table low high count e t l u n =
    let k = at text _ 0 e in
    let a = number_in text _ 1 table e refl t in
    let b = number_in text _ 2 low e refl l in
    let c = number_in text _ 3 high e refl u in
    let d = number_in text _ 4 count e refl n in
    rw (k, a, b, c, d) refl

said_cause : (text name : List ℕ) (place : ℕ) → words_of text ≡ line_words (lines.Cause (record { name = name; place = place })) → place < 2 ^ 64 → line_said text ≡ lines.Cause (record { name = name; place = place })
unfolding line_said
said_cause text name place e p =
    let k = at text _ 0 e in
    let n = at text _ 1 e in
    let b = number_in text _ 2 place e refl p in
    rw (k, n, b) refl

said_event : (text : List ℕ) (place member choice : ℕ) (command reply : List ℕ) → words_of text ≡ codes "event" ∷ decimal place ∷ decimal member ∷ decimal choice ∷ command ∷ reply ∷ [] → place < 2 ^ 64 → member < 2 ^ 64 → choice < 2 ^ 64
    → line_said text ≡ lines.Event (record { place = place; member = member; choice = choice; command = command; reply = reply })
unfolding line_said
said_event text place member choice command reply e p m c =
    let k = at text _ 0 e in
    let a = number_in text _ 1 place e refl p in
    let b = number_in text _ 2 member e refl m in
    let d = number_in text _ 3 choice e refl c in
    let w = at text _ 4 e in
    let r = at text _ 5 e in
    rw (k, a, b, d, w, r) refl

said_rows : (text : List ℕ) (count : ℕ) → words_of text ≡ line_words (lines.Rows count) → count < 2 ^ 64 → line_said text ≡ lines.Rows count
unfolding line_said
said_rows text count e n =
    let k = at text _ 0 e in
    let a = number_in text _ 1 count e refl n in
    rw (k, a) refl

said_row : (text : List ℕ) (table key : ℕ) (value : List ℕ) → words_of text ≡ codes "row" ∷ decimal table ∷ decimal key ∷ (61 ∷ value) ∷ [] → table < 2 ^ 64 → key < 2 ^ 64 → line_said text ≡ lines.Row (record { table = table; key = key; value = value })
unfolding line_said
said_row text table key value e t n =
    let k = at text _ 0 e in
    let a = number_in text _ 1 table e refl t in
    let b = number_in text _ 2 key e refl n in
    let v = at text _ 3 e in
    rw (k, a, b, v) refl

said_end : (text : List ℕ) (status : ℕ) → words_of text ≡ line_words (lines.End status) → status < 2 ^ 64 → line_said text ≡ lines.End status
unfolding line_said
said_end text status e n =
    let k = at text _ 0 e in
    let a = number_in text _ 1 status e refl n in
    rw (k, a) refl

said_opening : (text : List ℕ) → words_of text ≡ line_words lines.Opening → line_said text ≡ lines.Opening
unfolding line_said
said_opening text e = let k = at text _ 0 e in rw k refl

said_again : (text : List ℕ) (l : ReportLine) → words_of text ≡ line_words l → is_line l ≡ true → line_said text ≡ l
said_again text lines.Opening e h = said_opening text e
said_again text (lines.Committed name member answered) e h = said_committed text name member answered e h
said_again text (lines.Refused name member r) e h = said_refused text name member r e (and_left (is_who name member) (is_refusal r) h) (and_right (is_who name member) (is_refusal r) h)
said_again text (lines.Stopped name member) e h = said_stopped text name member e h
said_again text (lines.Read table key value) e h =
    let two = and_left (is_table table && has_bits 64 key) (is_told_value value) h in
    said_read text table key value e (below_table table (and_left (is_table table) (has_bits 64 key) two)) (below_key key (and_right (is_table table) (has_bits 64 key) two))
said_again text (lines.Scan table low high count) e h =
    let three = and_left (is_table table && has_bits 64 low && has_bits 64 high) (has_bits 64 count) h in
    let two = and_left (is_table table && has_bits 64 low) (has_bits 64 high) three in
    said_scan text table low high count e (below_table table (and_left (is_table table) (has_bits 64 low) two)) (below_key low (and_right (is_table table) (has_bits 64 low) two))
    (below_key high (and_right (is_table table && has_bits 64 low) (has_bits 64 high) three)) (below_key count (and_right (is_table table && has_bits 64 low && has_bits 64 high) (has_bits 64 count) h))
said_again text (lines.Cause c) e h = said_cause text c.name c.place e (below_place c.place (and_right (is_name c.name) (is_between 1 (2 ^ 64 - 1) c.place) h))
said_again text (lines.Event v) e h =
    let four = and_left (has_bits 64 v.place && nat_le v.member 32 && has_bits 64 v.choice && is_command v.command) (is_reply v.reply) h in
    let three = and_left (has_bits 64 v.place && nat_le v.member 32 && has_bits 64 v.choice) (is_command v.command) four in
    let two = and_left (has_bits 64 v.place && nat_le v.member 32) (has_bits 64 v.choice) three in
    said_event text v.place v.member v.choice v.command v.reply e (below_key v.place (and_left (has_bits 64 v.place) (nat_le v.member 32) two)) (below_group v.member (and_right (has_bits 64 v.place) (nat_le v.member 32) two))
    (below_key v.choice (and_right (has_bits 64 v.place && nat_le v.member 32) (has_bits 64 v.choice) three))
said_again text (lines.Rows count) e h = said_rows text count e (below_key count h)
said_again text (lines.Row r) e h =
    let two = and_left (is_table r.table && has_bits 64 r.key) (is_value r.value) h in
    said_row text r.table r.key r.value e (below_table r.table (and_left (is_table r.table) (has_bits 64 r.key) two)) (below_key r.key (and_right (is_table r.table) (has_bits 64 r.key) two))
said_again text (lines.End status) e h = said_end text status e (below_byte status h)

-- ---- and is read

some_words : (l : ReportLine) → 0 < length (line_words l)
some_words lines.Opening = omega arith
some_words (lines.Committed name member answered) = omega arith
some_words (lines.Refused name member r) = omega arith
some_words (lines.Stopped name member) = omega arith
some_words (lines.Read table key value) = omega arith
some_words (lines.Scan table low high count) = omega arith
some_words (lines.Cause c) = omega arith
some_words (lines.Event e) = omega arith
some_words (lines.Rows count) = omega arith
some_words (lines.Row r) = omega arith
some_words (lines.End status) = omega arith

equal_bytes : (xs : List ℕ) → bytes_eq xs xs ≡ true
equal_bytes [] = refl
equal_bytes (x ∷ xs) = and_true (x == x) (bytes_eq xs xs) (grind (arith, nat_tests)) (equal_bytes xs)

keeps : (b : Bool) (l : ReportLine) → b ≡ true → kept b l ≡ Some l
keeps true l h = refl
keeps false l h = cc

pub read_again : (l : ReportLine) → is_line l ≡ true → line_in (line_body l) ≡ Some l
unfolding line_in
read_again l h =
    let said = said_again (line_body l) l (words_again (line_words l) (some_words l) (words_plain l h)) h in
    let spelled : is_spelled l (line_body l) ≡ true = subst (λ (t : List ℕ). bytes_eq t (line (line_body l)) ≡ true) (sym (by_words l)) (equal_bytes (line (line_body l))) in
    subst (λ (q : ReportLine). kept (is_line q && is_spelled q (line_body l)) q ≡ Some l) (sym said) (keeps (is_line l && is_spelled l (line_body l)) l (and_true (is_line l) (is_spelled l (line_body l)) h spelled))
