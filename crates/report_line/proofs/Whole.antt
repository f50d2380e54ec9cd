-- The words of a line that may stand in a report are plain.
use Rattle.std.proofs.Common.{◌≡◌, ℕ, ◌-◌, ◌^◌, ◌<◌, ◌≤◌, Bool, true, false, not, ◌&&◌, ◌==◌, nat_lt, nat_le, List, [], ◌∷◌, ◌++◌, length, Option, Some, None, refl, ap, arith, decimal, codes}
use Rattle.std.proofs.lemmas.Bool.Decides.{nat_tests}
use Rattle.std.specs.List.{list_all, join_with_byte}
use Rattle.ds_model.specs.declared.lock.Name.{Name}
use Rattle.ds_model.specs.declared.lock.Name.TheVariants as lock
use Rattle.ds_model.specs.declared.report.ToldRefusal.{ToldRefusal}
use Rattle.ds_model.specs.declared.report.ToldRefusal.TheVariants as refusal
use Rattle.report_line.specs.declared.line.ReportLine.{ReportLine}
use Rattle.report_line.specs.declared.line.ReportLine.TheVariants as lines
use Rattle.report_line.specs.Lines.{is_between, is_name, is_value, is_member, is_table, has_bits, is_command, is_reply, is_told_value, is_lock, is_refusal, is_who, is_line}
use Rattle.report_line.specs.Bodies.{member_word, answered_word, told_value_word, lock_words, refusal_words, line_words, line_body, is_inner_byte}
use Rattle.report_line.proofs.Tests.{and_left, and_right, and_true}
use Rattle.report_line.proofs.Numbers.{is_plain_byte, is_plain, decimal_digits}
use Rattle.report_line.proofs.Plain.{are_plain, name_plain, value_plain, command_plain, reply_plain}

-- ---- ranges

pub below_key : (n : ℕ) → has_bits 64 n ≡ true → n < 2 ^ 64
below_key n h = grind (arith, nat_tests)

pub below_lrsn : (n : ℕ) → has_bits 80 n ≡ true → n < 2 ^ 80
below_lrsn n h = grind (arith, nat_tests)

pub below_count : (n : ℕ) → has_bits 32 n ≡ true → n < 2 ^ 64
below_count n h = let low : n < 2 ^ 32 = grind (arith, nat_tests) in omega arith

pub below_short : (n : ℕ) → has_bits 16 n ≡ true → n < 2 ^ 64
below_short n h = let low : n < 2 ^ 16 = grind (arith, nat_tests) in omega arith

pub below_byte : (n : ℕ) → has_bits 8 n ≡ true → n < 2 ^ 64
below_byte n h = let low : n < 2 ^ 8 = grind (arith, nat_tests) in omega arith

pub below_table : (n : ℕ) → is_table n ≡ true → n < 2 ^ 64
below_table n h = let test = and_right (nat_le 1 n) (nat_le n 64) h in let low : n ≤ 64 = grind (arith, nat_tests) in omega arith

pub below_member : (n : ℕ) → is_member n ≡ true → n < 2 ^ 64
below_member n h = let test = and_right (nat_le 1 n) (nat_le n 32) h in let low : n ≤ 32 = grind (arith, nat_tests) in omega arith

pub below_group : (n : ℕ) → nat_le n 32 ≡ true → n < 2 ^ 64
below_group n h = let low : n ≤ 32 = grind (arith, nat_tests) in omega arith

pub below_place : (n : ℕ) → is_between 1 (2 ^ 64 - 1) n ≡ true → n < 2 ^ 64
below_place n h = let test = and_right (nat_le 1 n) (nat_le n (2 ^ 64 - 1)) h in let low : n ≤ 2 ^ 64 - 1 = grind (arith, nat_tests) in omega arith

-- ---- words

digits_plain : (n : ℕ) → n < 2 ^ 64 → is_plain (decimal n) ≡ true
digits_plain n h = (decimal_digits n (omega arith)).plain

lrsn_plain : (n : ℕ) → n < 2 ^ 80 → is_plain (decimal n) ≡ true
lrsn_plain n h = (decimal_digits n (omega arith)).plain

then : (w : List ℕ) (ws : List (List ℕ)) → is_plain w ≡ true → are_plain ws ≡ true → are_plain (w ∷ ws) ≡ true
then w ws h k = and_true (is_plain w) (are_plain ws) h k

answered_plain : (answered : Bool) → is_plain (answered_word answered) ≡ true
answered_plain true = refl
answered_plain false = refl

told_value_plain : (value : Option (List ℕ)) → is_told_value value ≡ true → is_plain (told_value_word value) ≡ true
told_value_plain None h = refl
told_value_plain (Some value) h = value_plain value h

names_plain : (names : List (List ℕ)) → list_all is_name names ≡ true → are_plain names ≡ true
names_plain [] h = refl
names_plain (name ∷ names) h = then name names (name_plain name (and_left (is_name name) (list_all is_name names) h)) (names_plain names (and_right (is_name name) (list_all is_name names) h))

lock_plain : (name : Name) (ws : List (List ℕ)) → is_lock name ≡ true → are_plain ws ≡ true → are_plain (lock_words name ++ ws) ≡ true
lock_plain (lock.Space table) ws h k = then (decimal table) ws (digits_plain table (below_table table h)) k
lock_plain (lock.Row table key) ws h k =
    then (decimal table) (decimal key ∷ ws) (digits_plain table (below_table table (and_left (is_table table) (has_bits 64 key) h)))
    (then (decimal key) ws (digits_plain key (below_key key (and_right (is_table table) (has_bits 64 key) h))) k)
lock_plain (lock.Page page) ws h k =
    then (decimal page.set) (decimal page.number ∷ ws) (digits_plain page.set (below_short page.set (and_left (has_bits 16 page.set) (has_bits 32 page.number) h)))
    (then (decimal page.number) ws (digits_plain page.number (below_count page.number (and_right (has_bits 16 page.set) (has_bits 32 page.number) h))) k)
lock_plain (lock.Set set) ws h k = then (decimal set) ws (digits_plain set (below_short set h)) k

refusal_plain : (r : ToldRefusal) → is_refusal r ≡ true → are_plain (refusal_words r) ≡ true
refusal_plain (refusal.Held name by) h = lock_plain name (codes "by" ∷ by ∷ []) (and_left (is_lock name) (is_name by) h) (then by [] (name_plain by (and_right (is_lock name) (is_name by) h)) refl)
refusal_plain (refusal.Retained name by) h =
    lock_plain name (codes "by" ∷ member_word by ∷ []) (and_left (is_lock name) (is_member by) h) (then (member_word by) [] (digits_plain by (below_member by (and_right (is_lock name) (is_member by) h))) refl)
refusal_plain (refusal.Deadlock cycle) h = names_plain cycle (and_right (nat_lt 0 (length cycle)) (list_all is_name cycle) h)
refusal_plain (refusal.SpaceFull table pages) h =
    then (decimal table) (decimal pages ∷ []) (digits_plain table (below_table table (and_left (is_table table) (has_bits 32 pages) h)))
    (then (decimal pages) [] (digits_plain pages (below_count pages (and_right (is_table table) (has_bits 32 pages) h))) refl)
refusal_plain (refusal.RecordsFull limit) h = then (decimal limit) [] (digits_plain limit (below_count limit h)) refl
refusal_plain (refusal.LrsnEnd at) h = then (decimal at) [] (lrsn_plain at (below_lrsn at h)) refl
refusal_plain refusal.Memory h = refl
refusal_plain refusal.Aborted h = refl

who_plain : (name : List ℕ) (member : ℕ) (ws : List (List ℕ)) → is_who name member ≡ true → are_plain ws ≡ true → are_plain (name ∷ member_word member ∷ ws) ≡ true
who_plain name member ws h k =
    then name (member_word member ∷ ws) (name_plain name (and_left (is_name name) (is_member member) h)) (then (member_word member) ws (digits_plain member (below_member member (and_right (is_name name) (is_member member) h))) k)

scan_plain : (table low high count : ℕ) → is_line (lines.Scan table low high count) ≡ true → are_plain (line_words (lines.Scan table low high count)) ≡ true
scan_plain table low high count h =
    let three = and_left (is_table table && has_bits 64 low && has_bits 64 high) (has_bits 64 count) h in
    let two = and_left (is_table table && has_bits 64 low) (has_bits 64 high) three in
    then (decimal table) (decimal low ∷ decimal high ∷ decimal count ∷ []) (digits_plain table (below_table table (and_left (is_table table) (has_bits 64 low) two)))
    (then (decimal low) (decimal high ∷ decimal count ∷ []) (digits_plain low (below_key low (and_right (is_table table) (has_bits 64 low) two)))
    (then (decimal high) (decimal count ∷ []) (digits_plain high (below_key high (and_right (is_table table && has_bits 64 low) (has_bits 64 high) three)))
    (then (decimal count) [] (digits_plain count (below_key count (and_right (is_table table && has_bits 64 low && has_bits 64 high) (has_bits 64 count) h))) refl)))

event_plain : (place member choice : ℕ) (command reply : List ℕ) → has_bits 64 place ≡ true → nat_le member 32 ≡ true → has_bits 64 choice ≡ true → is_command command ≡ true → is_reply reply ≡ true
    → are_plain (codes "event" ∷ decimal place ∷ decimal member ∷ decimal choice ∷ command ∷ reply ∷ []) ≡ true
event_plain place member choice command reply p m c w r =
    then (decimal place) (decimal member ∷ decimal choice ∷ command ∷ reply ∷ []) (digits_plain place (below_key place p))
    (then (decimal member) (decimal choice ∷ command ∷ reply ∷ []) (digits_plain member (below_group member m))
    (then (decimal choice) (command ∷ reply ∷ []) (digits_plain choice (below_key choice c))
    (then command (reply ∷ []) (command_plain command w) (then reply [] (reply_plain reply r) refl))))

pub words_plain : (l : ReportLine) → is_line l ≡ true → are_plain (line_words l) ≡ true
words_plain lines.Opening h = refl
words_plain (lines.Committed name member answered) h = who_plain name member (answered_word answered ∷ []) h (then (answered_word answered) [] (answered_plain answered) refl)
words_plain (lines.Refused name member refusal) h = who_plain name member (refusal_words refusal) (and_left (is_who name member) (is_refusal refusal) h) (refusal_plain refusal (and_right (is_who name member) (is_refusal refusal) h))
words_plain (lines.Stopped name member) h = who_plain name member [] h refl
words_plain (lines.Read table key value) h =
    let two = and_left (is_table table && has_bits 64 key) (is_told_value value) h in
    then (decimal table) (decimal key ∷ told_value_word value ∷ []) (digits_plain table (below_table table (and_left (is_table table) (has_bits 64 key) two)))
    (then (decimal key) (told_value_word value ∷ []) (digits_plain key (below_key key (and_right (is_table table) (has_bits 64 key) two)))
    (then (told_value_word value) [] (told_value_plain value (and_right (is_table table && has_bits 64 key) (is_told_value value) h)) refl))
words_plain (lines.Scan table low high count) h = scan_plain table low high count h
words_plain (lines.Cause c) h =
    then c.name (decimal c.place ∷ []) (name_plain c.name (and_left (is_name c.name) (is_between 1 (2 ^ 64 - 1) c.place) h))
    (then (decimal c.place) [] (digits_plain c.place (below_place c.place (and_right (is_name c.name) (is_between 1 (2 ^ 64 - 1) c.place) h))) refl)
words_plain (lines.Event e) h =
    let four = and_left (has_bits 64 e.place && nat_le e.member 32 && has_bits 64 e.choice && is_command e.command) (is_reply e.reply) h in
    let three = and_left (has_bits 64 e.place && nat_le e.member 32 && has_bits 64 e.choice) (is_command e.command) four in
    let two = and_left (has_bits 64 e.place && nat_le e.member 32) (has_bits 64 e.choice) three in
    event_plain e.place e.member e.choice e.command e.reply (and_left (has_bits 64 e.place) (nat_le e.member 32) two) (and_right (has_bits 64 e.place) (nat_le e.member 32) two)
    (and_right (has_bits 64 e.place && nat_le e.member 32) (has_bits 64 e.choice) three) (and_right (has_bits 64 e.place && nat_le e.member 32 && has_bits 64 e.choice) (is_command e.command) four)
    (and_right (has_bits 64 e.place && nat_le e.member 32 && has_bits 64 e.choice && is_command e.command) (is_reply e.reply) h)
words_plain (lines.Rows count) h = then (decimal count) [] (digits_plain count (below_key count h)) refl
words_plain (lines.Row r) h =
    let two = and_left (is_table r.table && has_bits 64 r.key) (is_value r.value) h in
    then (decimal r.table) (decimal r.key ∷ told_value_word (Some r.value) ∷ []) (digits_plain r.table (below_table r.table (and_left (is_table r.table) (has_bits 64 r.key) two)))
    (then (decimal r.key) (told_value_word (Some r.value) ∷ []) (digits_plain r.key (below_key r.key (and_right (is_table r.table) (has_bits 64 r.key) two)))
    (then (told_value_word (Some r.value)) [] (value_plain r.value (and_right (is_table r.table && has_bits 64 r.key) (is_value r.value) h)) refl))
words_plain (lines.End status) h = then (decimal status) [] (digits_plain status (below_byte status h)) refl

-- ---- no line feed

plain_inner : (b : ℕ) → is_plain_byte b ≡ true → is_inner_byte b ≡ true
plain_inner b h = let other : (b == 10) ≡ false = grind (arith, nat_tests) in ap not other

word_inner : (w rest : List ℕ) → is_plain w ≡ true → list_all is_inner_byte rest ≡ true → list_all is_inner_byte (w ++ rest) ≡ true
word_inner [] rest h k = k
word_inner (b ∷ w) rest h k = and_true (is_inner_byte b) (list_all is_inner_byte (w ++ rest)) (plain_inner b (and_left (is_plain_byte b) (is_plain w) h)) (word_inner w rest (and_right (is_plain_byte b) (is_plain w) h) k)

last_inner : (w : List ℕ) → is_plain w ≡ true → list_all is_inner_byte w ≡ true
last_inner [] h = refl
last_inner (b ∷ w) h = and_true (is_inner_byte b) (list_all is_inner_byte w) (plain_inner b (and_left (is_plain_byte b) (is_plain w) h)) (last_inner w (and_right (is_plain_byte b) (is_plain w) h))

joined_inner : (ws : List (List ℕ)) → are_plain ws ≡ true → list_all is_inner_byte (join_with_byte 32 ws) ≡ true
joined_inner [] h = refl
joined_inner (w ∷ []) h = last_inner w (and_left (is_plain w) true h)
joined_inner (w ∷ v ∷ ws) h = word_inner w (32 ∷ join_with_byte 32 (v ∷ ws)) (and_left (is_plain w) (are_plain (v ∷ ws)) h) (joined_inner (v ∷ ws) (and_right (is_plain w) (are_plain (v ∷ ws)) h))

pub body_inner : (l : ReportLine) → is_line l ≡ true → list_all is_inner_byte (line_body l) ≡ true
body_inner l h = joined_inner (line_words l) (words_plain l h)
