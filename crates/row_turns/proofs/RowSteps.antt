-- What is known of one row, behind one record more.
use Rattle.std.proofs.Common.{◌≡◌, ℕ, zero, suc, ◌+◌, ◌-◌, ◌≤◌, Bool, true, false, cond, List, [], ◌∷◌, ◌++◌, length, Option, Some, None, is_some, refl, sym, ap, subst, ◌∙◌, arith}
use Rattle.std.specs.Prelude.{◌==◌, nat_lt, not, ◌&&◌, ◌||◌, filter}
use Rattle.std.specs.List.{list_any, list_all}
use Rattle.std.proofs.lemmas.Bool.Decides.{nat_tests}
use Rattle.ds_model.specs.declared.log.LogRecord.{LogRecord}
use Rattle.ds_model.specs.declared.log.RowChange.{RowChange}
use Rattle.ds_model.specs.declared.log.Body.{Body}
use Rattle.ds_model.specs.declared.log.Body.TheVariants as body
use Rattle.ds_model.specs.Logs.{is_commit, has_commit}
use Rattle.sound_disk.specs.Settled.{is_row_change, takes_back, is_settled, is_open}
use Rattle.sound_disk.specs.Turns.{changes_row}
use Rattle.row_turns.specs.declared.row.RowTurn.{RowTurn}
use Rattle.row_turns.specs.Orders.{is_compensation, has_undone, is_taken_back, TakesBackOne}
use Rattle.row_turns.specs.States.{Waiting, left_by, may_change, changed_by, taken_by}
use Rattle.row_turns.specs.Scans.{is_of, changes_at, row_left_with, row_left, is_untaken, is_others, IsRow, IsRowOr, is_fair}
use Rattle.row_turns.proofs.Tallies.{and_left, and_right, and_both, or_false, or_left, or_right, by_bool, clash, any_push, all_push, count_zero, count_none, count_same, count_end, all_less, all_two, none_all}
use Rattle.row_turns.proofs.Behind.{same, itself, commit_more, taken_more, undone_more, commit_kept, taken_kept, undone_kept, IsPlain, settled_kept, settled_more, count_next, one_less, row_at, row_is_at, at_other, left_push, left_agree, left_kept, left_none}
use Rattle.row_turns.proofs.Holding.{others_of, taken_if, untaken_of, Waits, Apart, At, Free, free_if, left_is}

-- ---- tests

every_one : (rs : List LogRecord) → list_all (λ (s : LogRecord). true) rs ≡ true
every_one [] = refl
every_one (r ∷ rs) = every_one rs

either_settled : (a b c : Bool) → (b ≡ true → c ≡ true) → (a || b) ≡ true → (a || c) ≡ true
either_settled true b c f h = refl
either_settled false b c f h = f h

never_untaken : (ch tr tk : Bool) → (ch ≡ true → tr ≡ true → tk ≡ true) → (ch && (tr && not tk)) ≡ false
never_untaken true true true f = refl
never_untaken true true false f = absurd (clash false (f refl refl) refl)
never_untaken true false tk f = refl
never_untaken false tr tk f = refl

none_before : (n : ℕ) (b : Bool) → b ≡ false → cond b 1 0 + n ≡ n
none_before n true h = absurd (clash true refl h)
none_before n false h = omega arith

less_by_one : (a n : ℕ) (b : Bool) → b ≡ true → a ≡ cond b 1 0 + n → a - 1 ≡ n
less_by_one a n true h e = omega (arith, e)
less_by_one a n false h e = absurd (clash false h refl)

-- ---- others

others_next : (table key tran : ℕ) (rs : List LogRecord) (r : LogRecord) → list_all (is_others table key tran rs) rs ≡ true → is_others table key tran (rs ++ r ∷ []) r ≡ true → list_all (is_others table key tran (rs ++ r ∷ [])) (rs ++ r ∷ []) ≡ true
others_next table key tran rs r before here =
    all_push (is_others table key tran (rs ++ r ∷ [])) rs r
    ∙ and_both (list_all (is_others table key tran (rs ++ r ∷ [])) rs) (is_others table key tran (rs ++ r ∷ []) r)
    (all_less (is_others table key tran rs) (is_others table key tran (rs ++ r ∷ [])) rs before
    (λ s o. either_settled (not (At table key s) || (s.tran == tran)) (is_settled rs s) (is_settled (rs ++ r ∷ []) s) (settled_more rs r s) o))
    here

elsewhere : (table key tran : ℕ) (rs : List LogRecord) (r : LogRecord) → At table key r ≡ false → is_others table key tran rs r ≡ true
elsewhere table key tran rs r h = others_of (At table key r) (r.tran == tran) (is_settled rs r) (λ at _. absurd (clash (At table key r) at h))

its_own : (table key tran : ℕ) (rs : List LogRecord) (r : LogRecord) → r.tran ≡ tran → is_others table key tran rs r ≡ true
its_own table key tran rs r h =
    others_of (At table key r) (r.tran == tran) (is_settled rs r) (λ _ other. absurd (clash (r.tran == tran) (ap (λ (n : ℕ). n == tran) h ∙ itself tran) other))

-- ---- tallies of changes that aren't taken back

untaken_next : (table key tran : ℕ) (rs : List LogRecord) (r : LogRecord) → IsPlain r.body
    → length (filter (is_untaken table key tran (rs ++ r ∷ [])) (rs ++ r ∷ [])) ≡ length (filter (is_untaken table key tran rs) rs) + cond (is_untaken table key tran (rs ++ r ∷ []) r) 1 0
untaken_next table key tran rs r plain =
    count_next (λ (l : List LogRecord) (s : LogRecord). is_untaken table key tran l s) rs r
    (λ s. ap (λ (b : Bool). At table key s && ((s.tran == tran) && not b)) (taken_kept rs r s.lrsn (plain.takes s.lrsn)))

no_change : (table key tran : ℕ) (rs : List LogRecord) (r : LogRecord) → At table key r ≡ false → is_untaken table key tran rs r ≡ false
no_change table key tran rs r h = ap (λ (b : Bool). b && ((r.tran == tran) && not (is_taken_back rs r.lrsn))) h

nothing_more : (n : ℕ) (b : Bool) → b ≡ false → n + cond b 1 0 ≡ n
nothing_more n true h = absurd (clash true refl h)
nothing_more n false h = omega arith

one_more : (n : ℕ) (b : Bool) → b ≡ true → n + cond b 1 0 ≡ n + 1
one_more n true h = refl
one_more n false h = absurd (clash false h refl)

-- ---- a record that doesn't concern the row, nor a transaction's end

pub row_plain : (table key : ℕ) (rs : List LogRecord) (r : LogRecord) (o : Option RowTurn) → IsPlain r.body → At table key r ≡ false → IsRowOr table key rs o → IsRowOr table key (rs ++ r ∷ []) o
row_plain table key rs r None plain off h = any_push (At table key) rs r ∙ ap (λ (b : Bool). list_any (At table key) rs || b) off ∙ or_false (list_any (At table key) rs) ∙ h
row_plain table key rs r (Some h) plain off row = record {
  others = others_next table key h.tran rs r row.others (elsewhere table key h.tran (rs ++ r ∷ []) r off);
  untaken_is = λ e.
      row.untaken_is (sym (commit_kept rs r h.tran plain.commit) ∙ e)
      ∙ sym (untaken_next table key h.tran rs r plain ∙ nothing_more (length (filter (is_untaken table key h.tran rs) rs)) (is_untaken table key h.tran (rs ++ r ∷ []) r) (no_change table key h.tran (rs ++ r ∷ []) r off));
  undone = λ e. undone_kept rs r h.tran plain.comp ∙ row.undone e;
  there = λ keeps k. left_kept table key keeps rs r off ∙ row.there keeps k;
  was = λ e.
      left_kept table key (has_commit (rs ++ r ∷ [])) rs r off
      ∙ left_agree (λ (s : LogRecord). true) table key (has_commit (rs ++ r ∷ [])) (has_commit rs) false rs (every_one rs) (λ s _ _. commit_kept rs r s.tran plain.commit)
      ∙ row.was (sym (commit_kept rs r h.tran plain.commit) ∙ e);
}

-- ---- a change of the row

-- what the record is
pub record Changes (table key : ℕ) (rs : List LogRecord) (r : LogRecord) (there : Bool) : Type 0 where
  pub plain : IsPlain r.body
  pub at : At table key r ≡ true
  pub fresh : is_taken_back rs r.lrsn ≡ false
  pub leaves : (keeps : ℕ → Bool) (b : Bool) → row_left_with table key keeps b r.tran r.body ≡ cond (keeps r.tran) there b

its_untaken : (table key : ℕ) (rs : List LogRecord) (r : LogRecord) (there : Bool) → Changes table key rs r there → is_untaken table key r.tran (rs ++ r ∷ []) r ≡ true
its_untaken table key rs r there c = untaken_of (At table key r) (r.tran == r.tran) (is_taken_back (rs ++ r ∷ []) r.lrsn) c.at (itself r.tran) (taken_kept rs r r.lrsn (c.plain.takes r.lrsn) ∙ c.fresh)

chosen_there : (k x b : Bool) → k ≡ true → cond k x b ≡ x
chosen_there true x b h = refl
chosen_there false x b h = absurd (clash false h refl)

chosen_else : (k x b : Bool) → k ≡ false → cond k x b ≡ b
chosen_else true x b h = absurd (clash true refl h)
chosen_else false x b h = refl

now_there : (table key : ℕ) (rs : List LogRecord) (r : LogRecord) (there : Bool) → Changes table key rs r there → (keeps : ℕ → Bool) → keeps r.tran ≡ true → row_left table key keeps (rs ++ r ∷ []) ≡ there
now_there table key rs r there c keeps k = left_push table key keeps false rs r ∙ c.leaves keeps (row_left table key keeps rs) ∙ chosen_there (keeps r.tran) there (row_left table key keeps rs) k

still_left : (table key : ℕ) (rs : List LogRecord) (r : LogRecord) (there : Bool) → Changes table key rs r there → has_commit (rs ++ r ∷ []) r.tran ≡ false → row_left table key (has_commit (rs ++ r ∷ [])) (rs ++ r ∷ []) ≡ row_left table key (has_commit rs) rs
still_left table key rs r there c e =
    left_push table key (has_commit (rs ++ r ∷ [])) false rs r
    ∙ c.leaves (has_commit (rs ++ r ∷ [])) (row_left table key (has_commit (rs ++ r ∷ [])) rs)
    ∙ chosen_else (has_commit (rs ++ r ∷ []) r.tran) there (row_left table key (has_commit (rs ++ r ∷ [])) rs) e
    ∙ left_agree (λ (s : LogRecord). true) table key (has_commit (rs ++ r ∷ [])) (has_commit rs) false rs (every_one rs) (λ s _ _. commit_kept rs r s.tran c.plain.commit)

first_change : (table key : ℕ) (rs : List LogRecord) (r : LogRecord) (there : Bool) → Changes table key rs r there → list_any (At table key) rs ≡ false
    → IsRow table key (rs ++ r ∷ []) (record { tran = r.tran; untaken = 1; is_there = there; was_there = false })
first_change table key rs r there c none = record {
  others = others_next table key r.tran rs r (none_all (At table key) (is_others table key r.tran rs) rs none (λ s h. elsewhere table key r.tran rs s h)) (its_own table key r.tran (rs ++ r ∷ []) r refl);
  untaken_is = λ e.
      let before : length (filter (is_untaken table key r.tran rs) rs) ≡ 0 = count_none (At table key) (is_untaken table key r.tran rs) rs none (λ s h. no_change table key r.tran rs s h) in
      let next : length (filter (is_untaken table key r.tran (rs ++ r ∷ [])) (rs ++ r ∷ [])) ≡ length (filter (is_untaken table key r.tran rs) rs) + 1 =
      untaken_next table key r.tran rs r c.plain ∙ one_more (length (filter (is_untaken table key r.tran rs) rs)) (is_untaken table key r.tran (rs ++ r ∷ []) r) (its_untaken table key rs r there c) in
      omega (arith, before, next);
  undone = λ e. absurd (omega (arith, e));
  there = λ keeps k. now_there table key rs r there c keeps k;
  was = λ e. still_left table key rs r there c e ∙ left_none table key (has_commit rs) false rs none;
}

changed_again : (table key : ℕ) (rs : List LogRecord) (r : LogRecord) (there : Bool) (h : RowTurn) → Changes table key rs r there → IsRow table key rs h → h.tran ≡ r.tran
    → IsRow table key (rs ++ r ∷ []) (record { tran = r.tran; untaken = h.untaken + 1; is_there = there; was_there = h.was_there })
changed_again table key rs r there h c row its = record {
  others = others_next table key r.tran rs r (subst (λ (t : ℕ). list_all (is_others table key t rs) rs ≡ true) its row.others) (its_own table key r.tran (rs ++ r ∷ []) r refl);
  untaken_is = λ e.
      let uncommitted : has_commit rs h.tran ≡ false = ap (λ (t : ℕ). has_commit rs t) its ∙ sym (commit_kept rs r r.tran c.plain.commit) ∙ e in
      let before : h.untaken ≡ length (filter (is_untaken table key r.tran rs) rs) = row.untaken_is uncommitted ∙ ap (λ (t : ℕ). length (filter (is_untaken table key t rs) rs)) its in
      let next : length (filter (is_untaken table key r.tran (rs ++ r ∷ [])) (rs ++ r ∷ [])) ≡ length (filter (is_untaken table key r.tran rs) rs) + 1 =
      untaken_next table key r.tran rs r c.plain ∙ one_more (length (filter (is_untaken table key r.tran rs) rs)) (is_untaken table key r.tran (rs ++ r ∷ []) r) (its_untaken table key rs r there c) in
      omega (arith, before, next);
  undone = λ e. absurd (omega (arith, e));
  there = λ keeps k. now_there table key rs r there c keeps k;
  was = λ e. still_left table key rs r there c e ∙ row.was (ap (λ (t : ℕ). has_commit rs t) its ∙ sym (commit_kept rs r r.tran c.plain.commit) ∙ e);
}

free_part : (ch st : Bool) → (not ch || false || st) ≡ true → ch ≡ true → st ≡ true
free_part true st h c = h
free_part false st h c = absurd (clash false c refl)

-- another transaction changes it
changed_over : (has : ℕ → Bool) (table key : ℕ) (rs : List LogRecord) (r : LogRecord) (there : Bool) (waiting : Waiting) (h : RowTurn) → has table ≡ true → Waits has rs waiting → Apart rs → Changes table key rs r there → IsRow table key rs h → Free table key rs
    → IsRow table key (rs ++ r ∷ []) (record { tran = r.tran; untaken = 1; is_there = there; was_there = left_by waiting h })
changed_over has table key rs r there waiting h own w apart c row free = record {
  others = others_next table key r.tran rs r
      (all_less (λ (s : LogRecord). not (At table key s) || false || is_settled rs s) (is_others table key r.tran rs) rs free
      (λ s f. others_of (At table key s) (s.tran == r.tran) (is_settled rs s) (λ at _. free_part (At table key s) (is_settled rs s) f at)))
      (its_own table key r.tran (rs ++ r ∷ []) r refl);
  untaken_is = λ e.
      let uncommitted : has_commit rs r.tran ≡ false = sym (commit_kept rs r r.tran c.plain.commit) ∙ e in
      let before : length (filter (is_untaken table key r.tran rs) rs) ≡ 0 =
      count_zero (λ (s : LogRecord). not (At table key s) || false || is_settled rs s) (is_untaken table key r.tran rs) rs free
      (λ s f. never_untaken (At table key s) (s.tran == r.tran) (is_taken_back rs s.lrsn) (λ at e2.
      taken_if (has_commit rs s.tran) (is_taken_back rs s.lrsn) (free_part (At table key s) (is_settled rs s) f at) (ap (λ (t : ℕ). has_commit rs t) (same s.tran r.tran e2) ∙ uncommitted))) in
      let next : length (filter (is_untaken table key r.tran (rs ++ r ∷ [])) (rs ++ r ∷ [])) ≡ length (filter (is_untaken table key r.tran rs) rs) + 1 =
      untaken_next table key r.tran rs r c.plain ∙ one_more (length (filter (is_untaken table key r.tran rs) rs)) (is_untaken table key r.tran (rs ++ r ∷ []) r) (its_untaken table key rs r there c) in
      omega (arith, before, next);
  undone = λ e. absurd (omega (arith, e));
  there = λ keeps k. now_there table key rs r there c keeps k;
  was = λ e. still_left table key rs r there c e ∙ left_is has table key rs waiting h own w apart row;
}

rest_of3 : (a b c : Bool) → (a || b || c) ≡ true → a ≡ false → (b || c) ≡ true
rest_of3 true b c h e = absurd (clash true refl e)
rest_of3 false b c h e = h

changed_when : (has : ℕ → Bool) (table key : ℕ) (rs : List LogRecord) (r : LogRecord) (there : Bool) (waiting : Waiting) (h : RowTurn) → has table ≡ true → Waits has rs waiting → Apart rs → Changes table key rs r there → IsRow table key rs h
    → may_change waiting (Some h) r.tran ≡ true → (b : Bool) → (h.tran == r.tran) ≡ b
    → IsRow table key (rs ++ r ∷ []) (cond b (record { tran = r.tran; untaken = h.untaken + 1; is_there = there; was_there = h.was_there }) (record { tran = r.tran; untaken = 1; is_there = there; was_there = left_by waiting h }))
changed_when has table key rs r there waiting h own w apart c row may true e = changed_again table key rs r there h c row (same h.tran r.tran e)
changed_when has table key rs r there waiting h own w apart c row may false e =
    changed_over has table key rs r there waiting h own w apart c row (free_if has table key rs waiting h own w apart row (rest_of3 (h.tran == r.tran) (h.untaken == 0) _ may e))

pub row_changed_is : (has : ℕ → Bool) (table key : ℕ) (rs : List LogRecord) (r : LogRecord) (there : Bool) (waiting : Waiting) (o : Option RowTurn) → has table ≡ true → Waits has rs waiting → Apart rs → Changes table key rs r there → IsRowOr table key rs o
    → may_change waiting o r.tran ≡ true → IsRow table key (rs ++ r ∷ []) (changed_by waiting o r.tran there)
row_changed_is has table key rs r there waiting None own w apart c none may = first_change table key rs r there c none
row_changed_is has table key rs r there waiting (Some h) own w apart c row may = changed_when has table key rs r there waiting h own w apart c row may (h.tran == r.tran) refl

-- ---- a Commit

-- what the record is
pub record Commits (rs : List LogRecord) (r : LogRecord) : Type 0 where
  pub is : is_commit r.body ≡ true
  pub takes : (lrsn : ℕ) → takes_back lrsn r.body ≡ false
  pub comp : is_compensation r.body ≡ false
  pub row : is_row_change r.body ≡ false
  pub off : (table key : ℕ) → At table key r ≡ false
  pub none_undone : has_undone rs r.tran ≡ false

pub commit_now : (rs : List LogRecord) (r : LogRecord) (tran : ℕ) → Commits rs r → has_commit (rs ++ r ∷ []) tran ≡ (has_commit rs tran || (r.tran == tran))
commit_now rs r tran c = commit_more rs r tran ∙ ap (λ (b : Bool). has_commit rs tran || (b && (r.tran == tran))) c.is

or_none : (a b : Bool) → (a || b) ≡ false → a ≡ false
or_none true b h = absurd (clash true refl h)
or_none false b h = refl

or_none_right : (a b : Bool) → (a || b) ≡ false → b ≡ false
or_none_right true b h = absurd (clash true refl h)
or_none_right false b h = h

-- a change of the row by another than its last transaction, which doesn't commit now
committed_same : (co m ch tr tk un row : Bool) → (not ch || tr || (co || tk)) ≡ true → (not row || not tk || un) ≡ true → ch ≡ true → row ≡ true → (m ≡ true → tr ≡ false) → (m ≡ true → un ≡ false) → (co || m) ≡ co
committed_same true m ch tr tk un row h k c w f g = refl
committed_same false false ch tr tk un row h k c w f g = refl
committed_same false true true true tk un row h k c w f g = absurd (clash true refl (f refl))
committed_same false true true false true true true h k c w f g = absurd (clash true refl (g refl))
committed_same false true true false true false true h k c w f g = absurd (clash false k refl)
committed_same false true true false true un false h k c w f g = absurd (clash false w refl)
committed_same false true true false false un row h k c w f g = absurd (clash false h refl)
committed_same false true false tr tk un row h k c w f g = absurd (clash false c refl)

pub row_committed : (table key : ℕ) (rs : List LogRecord) (r : LogRecord) (o : Option RowTurn) → Commits rs r → list_all (is_fair rs) rs ≡ true → IsRowOr table key rs o → IsRowOr table key (rs ++ r ∷ []) o
row_committed table key rs r None c fair h = any_push (At table key) rs r ∙ ap (λ (b : Bool). list_any (At table key) rs || b) (c.off table key) ∙ or_false (list_any (At table key) rs) ∙ h
row_committed table key rs r (Some h) c fair row = record {
  others = others_next table key h.tran rs r row.others (elsewhere table key h.tran (rs ++ r ∷ []) r (c.off table key));
  untaken_is = λ e.
      let uncommitted : has_commit rs h.tran ≡ false = or_none (has_commit rs h.tran) (r.tran == h.tran) (sym (commit_now rs r h.tran c) ∙ e) in
      row.untaken_is uncommitted
      ∙ sym (count_next (λ (l : List LogRecord) (s : LogRecord). is_untaken table key h.tran l s) rs r (λ s. ap (λ (b : Bool). At table key s && ((s.tran == h.tran) && not b)) (taken_kept rs r s.lrsn (c.takes s.lrsn)))
      ∙ nothing_more (length (filter (is_untaken table key h.tran rs) rs)) (is_untaken table key h.tran (rs ++ r ∷ []) r) (no_change table key h.tran (rs ++ r ∷ []) r (c.off table key)));
  undone = λ e. undone_kept rs r h.tran c.comp ∙ row.undone e;
  there = λ keeps k. left_kept table key keeps rs r (c.off table key) ∙ row.there keeps k;
  was = λ e.
      let apart : (r.tran == h.tran) ≡ false = or_none_right (has_commit rs h.tran) (r.tran == h.tran) (sym (commit_now rs r h.tran c) ∙ e) in
      let uncommitted : has_commit rs h.tran ≡ false = or_none (has_commit rs h.tran) (r.tran == h.tran) (sym (commit_now rs r h.tran c) ∙ e) in
      left_kept table key (has_commit (rs ++ r ∷ [])) rs r (c.off table key)
      ∙ left_agree (λ (s : LogRecord). is_others table key h.tran rs s && is_fair rs s) table key (has_commit (rs ++ r ∷ [])) (has_commit rs) false rs (all_two (is_others table key h.tran rs) (is_fair rs) rs row.others fair)
      (λ s both at.
      commit_now rs r s.tran c
      ∙ committed_same (has_commit rs s.tran) (r.tran == s.tran) (At table key s) (s.tran == h.tran) (is_taken_back rs s.lrsn) (has_undone rs s.tran) (is_row_change s.body)
      (and_left (is_others table key h.tran rs s) (is_fair rs s) both) (and_right (is_others table key h.tran rs s) (is_fair rs s) both) at (row_at table key s.body at)
      (λ m. ap (λ (n : ℕ). n == h.tran) (sym (same r.tran s.tran m)) ∙ apart)
      (λ m. ap (λ (n : ℕ). has_undone rs n) (sym (same r.tran s.tran m)) ∙ c.none_undone))
      ∙ row.was uncommitted;
}

-- ---- a compensation

-- what the record is
pub record Undoes (rs : List LogRecord) (r : LogRecord) (c : RowChange) (undone : ℕ) : Type 0 where
  pub takes : (lrsn : ℕ) → takes_back lrsn r.body ≡ (undone == lrsn)
  pub commit : is_commit r.body ≡ false
  pub comp : is_compensation r.body ≡ true
  pub row : is_row_change r.body ≡ false
  pub off : (table key : ℕ) → At table key r ≡ false
  pub one : TakesBackOne rs r.tran c undone

pub taken_now : (rs : List LogRecord) (r : LogRecord) (c : RowChange) (undone lrsn : ℕ) → Undoes rs r c undone → is_taken_back (rs ++ r ∷ []) lrsn ≡ (is_taken_back rs lrsn || (undone == lrsn))
taken_now rs r c undone lrsn u = taken_more rs r lrsn ∙ ap (λ (b : Bool). is_taken_back rs lrsn || b) (u.takes lrsn)

pub undone_now : (rs : List LogRecord) (r : LogRecord) (c : RowChange) (undone tran : ℕ) → Undoes rs r c undone → has_undone (rs ++ r ∷ []) tran ≡ (has_undone rs tran || (r.tran == tran))
undone_now rs r c undone tran u = undone_more rs r tran ∙ ap (λ (b : Bool). has_undone rs tran || (b && (r.tran == tran))) u.comp

untaken_less : (ch tr tk e : Bool) → (ch && (tr && not (tk || e))) ≡ ((ch && (tr && not tk)) && not e)
untaken_less true true true e = refl
untaken_less true true false e = refl
untaken_less true false tk e = refl
untaken_less false tr tk e = refl

-- with the change that is taken back there were as many
untaken_now : (table key tran : ℕ) (rs : List LogRecord) (r : LogRecord) (c : RowChange) (undone : ℕ) → (u : Undoes rs r c undone)
    → length (filter (is_untaken table key tran rs) rs) ≡ cond (is_untaken table key tran rs u.one.it) 1 0 + length (filter (is_untaken table key tran (rs ++ r ∷ [])) (rs ++ r ∷ []))
untaken_now table key tran rs r c undone u =
    one_less rs r.tran c undone u.one (is_untaken table key tran rs) (λ s h. row_at table key s.body (and_left (At table key s) _ h))
    ∙ ap (λ (n : ℕ). cond (is_untaken table key tran rs u.one.it) 1 0 + n)
    (sym (count_end (is_untaken table key tran (rs ++ r ∷ [])) rs r
    ∙ nothing_more (length (filter (is_untaken table key tran (rs ++ r ∷ [])) rs)) (is_untaken table key tran (rs ++ r ∷ []) r) (no_change table key tran (rs ++ r ∷ []) r (u.off table key))
    ∙ count_same (is_untaken table key tran (rs ++ r ∷ [])) (λ (s : LogRecord). is_untaken table key tran rs s && not (undone == s.lrsn))
    (λ s. ap (λ (b : Bool). At table key s && ((s.tran == tran) && not b)) (taken_now rs r c undone s.lrsn u) ∙ untaken_less (At table key s) (s.tran == tran) (is_taken_back rs s.lrsn) (undone == s.lrsn)) rs))

left_undone : (table key : ℕ) (rs : List LogRecord) (r : LogRecord) (c : RowChange) (undone : ℕ) → Undoes rs r c undone → row_left table key (has_commit (rs ++ r ∷ [])) (rs ++ r ∷ []) ≡ row_left table key (has_commit rs) rs
left_undone table key rs r c undone u =
    left_kept table key (has_commit (rs ++ r ∷ [])) rs r (u.off table key)
    ∙ left_agree (λ (s : LogRecord). true) table key (has_commit (rs ++ r ∷ [])) (has_commit rs) false rs (every_one rs) (λ s _ _. commit_kept rs r s.tran u.commit)

it_is_at : (table key : ℕ) (rs : List LogRecord) (r : LogRecord) (c : RowChange) (undone : ℕ) → (u : Undoes rs r c undone) → At table key u.one.it ≡ ((table == c.table) && (key == c.key))
it_is_at table key rs r c undone u = at_other table key c u.one.it.body u.one.row_is

-- of another row
pub row_elsewhere : (table key : ℕ) (rs : List LogRecord) (r : LogRecord) (c : RowChange) (undone : ℕ) (o : Option RowTurn) → Undoes rs r c undone → ((table == c.table) && (key == c.key)) ≡ false → IsRowOr table key rs o → IsRowOr table key (rs ++ r ∷ []) o
row_elsewhere table key rs r c undone None u other h = any_push (At table key) rs r ∙ ap (λ (b : Bool). list_any (At table key) rs || b) (u.off table key) ∙ or_false (list_any (At table key) rs) ∙ h
row_elsewhere table key rs r c undone (Some h) u other row = record {
  others = others_next table key h.tran rs r row.others (elsewhere table key h.tran (rs ++ r ∷ []) r (u.off table key));
  untaken_is = λ e.
      row.untaken_is (sym (commit_kept rs r h.tran u.commit) ∙ e)
      ∙ untaken_now table key h.tran rs r c undone u
      ∙ none_before (length (filter (is_untaken table key h.tran (rs ++ r ∷ [])) (rs ++ r ∷ []))) (is_untaken table key h.tran rs u.one.it) (no_change table key h.tran rs u.one.it (it_is_at table key rs r c undone u ∙ other));
  undone = λ e. undone_now rs r c undone h.tran u ∙ or_left (has_undone rs h.tran) (r.tran == h.tran) (row.undone e);
  there = λ keeps k. left_kept table key keeps rs r (u.off table key) ∙ row.there keeps k;
  was = λ e. left_undone table key rs r c undone u ∙ row.was (sym (commit_kept rs r h.tran u.commit) ∙ e);
}

-- one of the records passes what all pass
one_passes : (f : LogRecord → Bool) (front : List LogRecord) (it : LogRecord) (rest : List LogRecord) → list_all f (front ++ it ∷ rest) ≡ true → f it ≡ true
one_passes f [] it rest h = and_left (f it) (list_all f rest) h
one_passes f (x ∷ xs) it rest h = one_passes f xs it rest (and_right (f x) (list_all f (xs ++ it ∷ rest)) h)

one_counts : (f : LogRecord → Bool) (front : List LogRecord) (it : LogRecord) (rest : List LogRecord) → f it ≡ true → list_any f (front ++ it ∷ rest) ≡ true
one_counts f [] it rest h = or_left (f it) (list_any f rest) h
one_counts f (x ∷ xs) it rest h = or_right (f x) (list_any f (xs ++ it ∷ rest)) (one_counts f xs it rest h)

its_tran : (ch tr co tk : Bool) → (not ch || tr || (co || tk)) ≡ true → ch ≡ true → co ≡ false → tk ≡ false → tr ≡ true
its_tran true true co tk h a b c = refl
its_tran true false true tk h a b c = absurd (clash true refl b)
its_tran true false false true h a b c = absurd (clash true refl c)
its_tran true false false false h a b c = absurd (clash false h refl)
its_tran false tr co tk h a b c = absurd (clash false a refl)

-- the transaction changed the row last
holds_it : (table key : ℕ) (rs : List LogRecord) (r : LogRecord) (c : RowChange) (undone : ℕ) (h : RowTurn) → (u : Undoes rs r c undone) → At table key u.one.it ≡ true → IsRow table key rs h → r.tran ≡ h.tran
holds_it table key rs r c undone h u at row =
    let others : is_others table key h.tran rs u.one.it ≡ true = one_passes (is_others table key h.tran rs) u.one.front u.one.it u.one.rest (subst (λ (l : List LogRecord). list_all (is_others table key h.tran rs) l ≡ true) u.one.split row.others) in
    sym u.one.tran_is
    ∙ same u.one.it.tran h.tran (its_tran (At table key u.one.it) (u.one.it.tran == h.tran) (has_commit rs u.one.it.tran) (is_taken_back rs u.one.it.lrsn) others at
    (ap (λ (n : ℕ). has_commit rs n) u.one.tran_is ∙ u.one.uncommitted) (ap (λ (n : ℕ). is_taken_back rs n) u.one.number_is ∙ u.one.untaken))

pub row_taken : (table key : ℕ) (rs : List LogRecord) (r : LogRecord) (c : RowChange) (undone : ℕ) (h : RowTurn) → Undoes rs r c undone → ((table == c.table) && (key == c.key)) ≡ true → IsRow table key rs h → IsRow table key (rs ++ r ∷ []) (taken_by h)
row_taken table key rs r c undone h u here row =
    let at : At table key u.one.it ≡ true = it_is_at table key rs r c undone u ∙ here in
    let its : r.tran ≡ h.tran = holds_it table key rs r c undone h u at row in record {
      others = others_next table key h.tran rs r row.others (elsewhere table key h.tran (rs ++ r ∷ []) r (u.off table key));
      untaken_is = λ e.
          let one : is_untaken table key h.tran rs u.one.it ≡ true =
          untaken_of (At table key u.one.it) (u.one.it.tran == h.tran) (is_taken_back rs u.one.it.lrsn) at (ap (λ (n : ℕ). n == h.tran) (u.one.tran_is ∙ its) ∙ itself h.tran) (ap (λ (n : ℕ). is_taken_back rs n) u.one.number_is ∙ u.one.untaken) in
          less_by_one h.untaken (length (filter (is_untaken table key h.tran (rs ++ r ∷ [])) (rs ++ r ∷ []))) (is_untaken table key h.tran rs u.one.it) one
          (row.untaken_is (sym (commit_kept rs r h.tran u.commit) ∙ e) ∙ untaken_now table key h.tran rs r c undone u);
      undone = λ e. undone_now rs r c undone h.tran u ∙ or_right (has_undone rs h.tran) (r.tran == h.tran) (ap (λ (n : ℕ). n == h.tran) its ∙ itself h.tran);
      there = λ keeps k. left_kept table key keeps rs r (u.off table key) ∙ row.there keeps k;
      was = λ e. left_undone table key rs r c undone u ∙ row.was (sym (commit_kept rs r h.tran u.commit) ∙ e);
    }

-- a row that was never changed has no change to be taken back
pub row_was_changed : (table key : ℕ) (rs : List LogRecord) (r : LogRecord) (c : RowChange) (undone : ℕ) → Undoes rs r c undone → ((table == c.table) && (key == c.key)) ≡ true → list_any (At table key) rs ≡ true
row_was_changed table key rs r c undone u here =
    ap (list_any (At table key)) u.one.split ∙ one_counts (At table key) u.one.front u.one.it u.one.rest (it_is_at table key rs r c undone u ∙ here)
