-- What a change of the marks leaves closed.
use Rattle.std.proofs.Common.{◌≡◌, ℕ, refl, sym, ◌∙◌, ap, subst, Bool, true, false, List, [], ◌∷◌, ◌++◌, append_assoc}
use Rattle.std.specs.Prelude.{◌==◌, ◌&&◌, ◌||◌, if◌then◌else◌}
use Rattle.std.proofs.lemmas.Bool.{cond_both}
use Rattle.std.proofs.lemmas.List.{append-nil}
use Rattle.std.proofs.lemmas.List.Concat.{flat_map-append}
use Rattle.ds_model.specs.RecordBytes.{log_bytes, record_bytes}
use Rattle.ds_model.specs.Rows.{Spot}
use Rattle.log_rows.specs.Rows.{has_changed, is_change_of}
use Rattle.ds_model.specs.declared.log.LogRecord.{LogRecord}
use Rattle.lock_manager.specs.Managers.{Book}
use Rattle.member_log.specs.Buffers.{LogBuffer, after_put}
use Rattle.member_pool.specs.Heads.{HeadState}
use Rattle.member_trans.specs.Trans.{TransState}
use Rattle.member_marks.specs.Names.{NameSet}
use Rattle.member_marks.specs.State.{MarksState, with_heads, with_kept, with_locks, with_trans}
use Rattle.member_effects.specs.Puts.{both_if, one_if}
use Rattle.closing_law.specs.Closing.{AllStand, ArePlain, Closes, is_checkpoint}
use Rattle.closing_law.proofs.Trans.{same_lists}

-- ---- no record is put
pub record Stays (s t : MarksState) : Type 0 where
  pub member : t.member ≡ s.member
  pub closes : (disk pend : List LogRecord) → Closes disk pend s → Closes disk pend t

pub stays_itself : (s : MarksState) → Stays s s
stays_itself s = record { member = refl; closes = λ disk pend c. c }

pub stays_as : (s t u : MarksState) → t ≡ u → Stays s u → Stays s t
stays_as s t u e k = subst (λ z. Stays s z) (sym e) k

pub stays_on : (s t u : MarksState) → Stays s t → Stays t u → Stays s u
stays_on s t u a b = record { member = b.member ∙ a.member; closes = λ disk pend c. b.closes disk pend (a.closes disk pend c) }

pub stays_if : (s x y : MarksState) (b : Bool) → (b ≡ true → Stays s x) → (b ≡ false → Stays s y) → Stays s (if b then x else y)
stays_if s x y b p q = cond_both b x y (λ z. Stays s z) p q

-- ---- these records are put behind those of the buffer, and change no rows
pub record Adds (s t : MarksState) (new : List LogRecord) : Type 0 where
  pub member : t.member ≡ s.member
  pub plain : ArePlain new
  pub quiet : (id : ℕ) (x : Spot) → has_changed new id x ≡ false
  pub closes : (disk pend : List LogRecord) → Closes disk pend s → Closes disk (pend ++ new) t

pub adds_as : (s t u : MarksState) (new : List LogRecord) → t ≡ u → Adds s u new → Adds s t new
adds_as s t u new e k = subst (λ (z : MarksState). Adds s z new) (sym e) k

pub adds_these : (s t : MarksState) (a b : List LogRecord) → a ≡ b → Adds s t a → Adds s t b
adds_these s t a b e k = subst (λ (z : List LogRecord). Adds s t z) e k

pub adds_after : (s t u : MarksState) (new : List LogRecord) → Stays s t → Adds t u new → Adds s u new
adds_after s t u new a b = record { member = b.member ∙ a.member; plain = b.plain; quiet = b.quiet; closes = λ disk pend c. b.closes disk pend (a.closes disk pend c) }

-- none is put
abbrev pub Kept : MarksState → MarksState → Type 0
Kept s t = Adds s t []

pub kept_stays : (s t : MarksState) → Stays s t → Kept s t
kept_stays s t k = record { member = k.member; plain = tt; quiet = λ id x. refl; closes = λ disk pend c. subst (λ (z : List LogRecord). Closes disk z t) (sym (append-nil pend)) (k.closes disk pend c) }

pub kept_itself : (s : MarksState) → Kept s s
kept_itself s = kept_stays s s (stays_itself s)

pub kept_as : (s t u : MarksState) → t ≡ u → Kept s u → Kept s t
kept_as s t u e k = adds_as s t u [] e k

pub kept_after : (s t u : MarksState) → Stays s t → Kept t u → Kept s u
kept_after s t u a b = adds_after s t u [] a b

pub kept_if : (s x y : MarksState) (b : Bool) → (b ≡ true → Kept s x) → (b ≡ false → Kept s y) → Kept s (if b then x else y)
kept_if s x y b p q = cond_both b x y (λ (z : MarksState). Kept s z) p q

-- where they are put, one, or two, or the first of the two
pub adds_one : (s x : MarksState) (b : Bool) (r : LogRecord) → (b ≡ true → Adds s x (r ∷ [])) → Adds s (if b then x else s) (one_if b r)
adds_one s x true r k = k refl
adds_one s x false r k = kept_itself s

pub adds_both : (s x : MarksState) (fit is_last : Bool) (r q : LogRecord) → (fit ≡ true → Adds s x (both_if true is_last r q)) → Adds s (if fit then x else s) (both_if fit is_last r q)
adds_both s x true is_last r q k = k refl
adds_both s x false is_last r q k = kept_itself s

pub adds_may : (s x : MarksState) (may fit is_last : Bool) (r q : LogRecord) → (may ≡ true → Adds s x (both_if fit is_last r q)) → Adds s (if may then x else s) (both_if (may && fit) is_last r q)
adds_may s x true fit is_last r q k = k refl
adds_may s x false fit is_last r q k = kept_itself s

-- ---- they may change rows, of which this holds
pub record PutsRows (G : ℕ → Spot → Type 0) (s t : MarksState) (new : List LogRecord) : Type 0 where
  pub member : t.member ≡ s.member
  pub plain : ArePlain new
  pub rows : (id : ℕ) (x : Spot) → has_changed new id x ≡ true → G id x
  pub closes : (disk pend : List LogRecord) → Closes disk pend s → Closes disk (pend ++ new) t

both_ways : (b : Bool) → b ≡ false → b ≡ true → ⊥
both_ways b p q = cc

pub puts_adds : (G : ℕ → Spot → Type 0) (s t : MarksState) (new : List LogRecord) → Adds s t new → PutsRows G s t new
puts_adds G s t new k = record { member = k.member; plain = k.plain; rows = λ id x h. absurd (both_ways (has_changed new id x) (k.quiet id x) h); closes = k.closes }

pub puts_kept : (G : ℕ → Spot → Type 0) (s t : MarksState) → Kept s t → PutsRows G s t []
puts_kept G s t k = puts_adds G s t [] k

pub puts_as : (G : ℕ → Spot → Type 0) (s t u : MarksState) (new : List LogRecord) → t ≡ u → PutsRows G s u new → PutsRows G s t new
puts_as G s t u new e k = subst (λ (z : MarksState). PutsRows G s z new) (sym e) k

pub puts_these : (G : ℕ → Spot → Type 0) (s t : MarksState) (a b : List LogRecord) → a ≡ b → PutsRows G s t a → PutsRows G s t b
puts_these G s t a b e k = subst (λ (z : List LogRecord). PutsRows G s t z) e k

pub puts_after : (G : ℕ → Spot → Type 0) (s t u : MarksState) (new : List LogRecord) → Stays s t → PutsRows G t u new → PutsRows G s u new
puts_after G s t u new a b = record { member = b.member ∙ a.member; plain = b.plain; rows = b.rows; closes = λ disk pend c. b.closes disk pend (a.closes disk pend c) }

-- ---- where log and transactions stay
pub record Same (s t : MarksState) : Type 0 where
  pub log : t.log ≡ s.log
  pub trans : t.trans ≡ s.trans
  pub member : t.member ≡ s.member

pub same_itself : (s : MarksState) → Same s s
same_itself s = record { log = refl; trans = refl; member = refl }

pub same_on : (s t u : MarksState) → Same s t → Same t u → Same s u
same_on s t u a b = record { log = b.log ∙ a.log; trans = b.trans ∙ a.trans; member = b.member ∙ a.member }

pub same_if : (s x y : MarksState) (b : Bool) → Same s x → Same s y → Same s (if b then x else y)
same_if s x y b p q = cond_both b x y (λ z. Same s z) (λ e. p) (λ e. q)

pub stays_same : (s t : MarksState) → Same s t → Stays s t
stays_same s t h = record {
  member = h.member;
  closes = λ disk pend c. record {
    spelled = ap (λ (z : LogBuffer). z.pending) h.log ∙ c.spelled;
    all = subst (λ (z : TransState). AllStand disk pend t.log.stable z) (sym h.trans) (subst (λ (z : LogBuffer). AllStand disk pend z.stable s.trans) (sym h.log) c.all);
  };
}

pub kept_same : (s t : MarksState) → Same s t → Kept s t
kept_same s t h = kept_stays s t (stays_same s t h)

pub stays_heads : (s : MarksState) (h : HeadState) → Stays s (with_heads s h)
stays_heads s h = stays_same s (with_heads s h) (record { log = refl; trans = refl; member = refl })

pub kept_heads : (s : MarksState) (h : HeadState) → Kept s (with_heads s h)
kept_heads s h = kept_stays s (with_heads s h) (stays_heads s h)

pub kept_names : (s : MarksState) (k : NameSet) → Kept s (with_kept s k)
kept_names s k = kept_same s (with_kept s k) (record { log = refl; trans = refl; member = refl })

pub stays_locks : (s : MarksState) (b : Book) → Stays s (with_locks s b)
stays_locks s b = stays_same s (with_locks s b) (record { log = refl; trans = refl; member = refl })

pub kept_locks : (s : MarksState) (b : Book) → Kept s (with_locks s b)
kept_locks s b = kept_stays s (with_locks s b) (stays_locks s b)

-- ---- where the transactions change, and the log stays
abbrev pub Leaves : MarksState → TransState → Type 0
Leaves s t = (disk pend : List LogRecord) → AllStand disk pend s.log.stable s.trans → AllStand disk pend s.log.stable t

pub stays_left : (s t : MarksState) → t.log ≡ s.log → t.member ≡ s.member → Leaves s t.trans → Stays s t
stays_left s t log member left = record {
  member = member;
  closes = λ disk pend c. record {
    spelled = ap (λ (z : LogBuffer). z.pending) log ∙ c.spelled;
    all = subst (λ (z : LogBuffer). AllStand disk pend z.stable t.trans) (sym log) (left disk pend c.all);
  };
}

pub kept_left : (s t : MarksState) → t.log ≡ s.log → t.member ≡ s.member → Leaves s t.trans → Kept s t
kept_left s t log member left = kept_stays s t (stays_left s t log member left)

pub stays_trans : (s : MarksState) (t : TransState) → Leaves s t → Stays s (with_trans s t)
stays_trans s t left = stays_left s (with_trans s t) refl refl left

pub kept_trans : (s : MarksState) (t : TransState) → Leaves s t → Kept s (with_trans s t)
kept_trans s t left = kept_stays s (with_trans s t) (stays_trans s t left)

-- their lists stay
pub stays_lists : (s t : MarksState) → t.log ≡ s.log → t.member ≡ s.member → t.trans.slots ≡ s.trans.slots → t.trans.rollbacks ≡ s.trans.rollbacks → t.trans.commits ≡ s.trans.commits → Stays s t
stays_lists s t log member slots rollbacks commits = stays_left s t log member (λ disk pend h. same_lists disk pend s.log.stable s.trans t.trans slots rollbacks commits h)

pub kept_lists : (s t : MarksState) → t.log ≡ s.log → t.member ≡ s.member → t.trans.slots ≡ s.trans.slots → t.trans.rollbacks ≡ s.trans.rollbacks → t.trans.commits ≡ s.trans.commits → Kept s t
kept_lists s t log member slots rollbacks commits = kept_stays s t (stays_lists s t log member slots rollbacks commits)

-- ---- a record is put
abbrev pub LeavesWith : MarksState → List LogRecord → TransState → Type 0
LeavesWith s q t = (disk pend : List LogRecord) → AllStand disk pend s.log.stable s.trans → AllStand disk (pend ++ q) s.log.stable t

one_more : (bytes : List ℕ) (pend : List LogRecord) (r : LogRecord) → bytes ≡ log_bytes pend → bytes ++ record_bytes r ≡ log_bytes (pend ++ r ∷ [])
one_more bytes pend r e = ap (λ (z : List ℕ). z ++ record_bytes r) e ∙ (ap (λ (z : List ℕ). log_bytes pend ++ z) (sym (append-nil (record_bytes r))) ∙ sym (flat_map-append record_bytes pend (r ∷ [])))

two_apart : (p : List LogRecord) (r q : LogRecord) → (p ++ r ∷ []) ++ q ∷ [] ≡ p ++ r ∷ q ∷ []
two_apart [] r q = refl
two_apart (x ∷ xs) r q = ap (λ (z : List LogRecord). x ∷ z) (two_apart xs r q)

-- it changes no row
and_none : (a : Bool) → ((a && false) || false) ≡ false
and_none true = refl
and_none false = refl

pub no_row : (r : LogRecord) → ((x : Spot) → is_change_of x r.body ≡ false) → (id : ℕ) (x : Spot) → has_changed (r ∷ []) id x ≡ false
no_row r none id x = ap (λ (b : Bool). ((r.tran == id) && b) || false) (none x) ∙ and_none (r.tran == id)

no_rows : (r q : LogRecord) → ((x : Spot) → is_change_of x r.body ≡ false) → ((x : Spot) → is_change_of x q.body ≡ false) → (id : ℕ) (x : Spot) → has_changed (r ∷ q ∷ []) id x ≡ false
no_rows r q none last id x = ap (λ (b : Bool). ((r.tran == id) && b) || has_changed (q ∷ []) id x) (none x) ∙ (ap (λ (b : Bool). ((r.tran == id) && false) || b) (no_row q last id x) ∙ and_none (r.tran == id))

pub adds_put : (s : MarksState) (r : LogRecord) (t : TransState) → is_checkpoint r.body ≡ false → ((x : Spot) → is_change_of x r.body ≡ false) → LeavesWith s (r ∷ []) t → Adds s (record s { log = after_put s.log r; trans = t }) (r ∷ [])
adds_put s r t plain none left = record {
  member = refl;
  plain = (plain, tt);
  quiet = no_row r none;
  closes = λ disk pend c. record { spelled = one_more s.log.pending pend r c.spelled; all = left disk pend c.all };
}

pub adds_put_both : (s : MarksState) (r q : LogRecord) (t : TransState) → is_checkpoint r.body ≡ false → is_checkpoint q.body ≡ false → ((x : Spot) → is_change_of x r.body ≡ false) → ((x : Spot) → is_change_of x q.body ≡ false) → LeavesWith s (r ∷ q ∷ []) t → Adds s (record s { log = after_put (after_put s.log r) q; trans = t }) (r ∷ q ∷ [])
adds_put_both s r q t plain ends none last left = record {
  member = refl;
  plain = (plain, (ends, tt));
  quiet = no_rows r q none last;
  closes = λ disk pend c. record {
    spelled = one_more (s.log.pending ++ record_bytes r) (pend ++ r ∷ []) q (one_more s.log.pending pend r c.spelled) ∙ ap (λ (z : List LogRecord). log_bytes z) (two_apart pend r q);
    all = left disk pend c.all;
  };
}

pub puts_row : (G : ℕ → Spot → Type 0) (s : MarksState) (r : LogRecord) (t : TransState) → is_checkpoint r.body ≡ false → ((id : ℕ) (x : Spot) → has_changed (r ∷ []) id x ≡ true → G id x) → LeavesWith s (r ∷ []) t → PutsRows G s (record s { log = after_put s.log r; trans = t }) (r ∷ [])
puts_row G s r t plain rows left = record {
  member = refl;
  plain = (plain, tt);
  rows = rows;
  closes = λ disk pend c. record { spelled = one_more s.log.pending pend r c.spelled; all = left disk pend c.all };
}

pub puts_one : (G : ℕ → Spot → Type 0) (s x : MarksState) (b : Bool) (r : LogRecord) → (b ≡ true → PutsRows G s x (r ∷ [])) → PutsRows G s (if b then x else s) (one_if b r)
puts_one G s x true r k = k refl
puts_one G s x false r k = puts_kept G s s (kept_itself s)
