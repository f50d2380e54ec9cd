-- Redo by the logs of a rebuild, of a member's restart and of a group's restart.
use Rattle.std.proofs.Common.{◌≡◌, ℕ, zero, suc, ◌+◌, ◌<◌, ◌≤◌, Bool, true, false, cond, List, [], ◌∷◌, ◌++◌, refl, sym, ap, ◌∙◌, subst, arith, inl, inr, Some, Ok}
use Rattle.std.specs.Prelude.{filter, nat_le, nat_lt, ◌==◌, ◌&&◌, ◌≢◌}
use Rattle.std.specs.List.{AllByRecursion, list_any}
use Rattle.std.proofs.lemmas.Bool.{cases_Bool, cases_eq, cases_lt, cond-true, cond-false, eqb-true, eq-eqb, ne_eqb, lt-ltb, ltb-true, le-ltb, le-leb, and_from, and_left, and_right, and_parts, both_ways}
use Rattle.ds_base.specs.declared.names.PageId.{PageId}
use Rattle.ds_base.specs.Pages.{same_page}
use Rattle.ds_model.specs.declared.log.LogRecord.{LogRecord}
use Rattle.ds_model.specs.declared.log.Body.{Body}
use Rattle.ds_model.specs.declared.log.Body.TheVariants as body
use Rattle.ds_model.specs.RecordBytes.{IsAllowed}
use Rattle.page_format.specs.Fields.{lrsn_of}
use Rattle.page_format.specs.declared.patch.Patch.{Patch}
use Rattle.page_images.specs.Images.{zeros}
use Rattle.log_record.specs.declared.log.Log.{Log}
use Rattle.log_record.specs.Changes.{is_drawn}
use Rattle.log_merge.specs.Merging.{all_records, in_order}
use Rattle.page_chain.specs.Chains.{changes_of, touches, redo, BearsItsNumber, LeavesOthers}
use Rattle.page_redo.specs.Forward.{brought_forward, IsRedo}
use Rattle.page_protocol.specs.Page.{Page, Group, AllStable, copy_before}
use Rattle.page_protocol.specs.Moves.{World, IsRead, IsWritten}
use Rattle.page_protocol.specs.Coherent.{Coherent}
use Rattle.page_protocol.specs.Down.{Grounded}
use Rattle.page_protocol.specs.Always.{Good, Stands}
use Rattle.log_tells.specs.Told.{Told, IsDrawn, IsTold, HaveParts, LogsTell, chain_of, drawn_in, is_between, is_of, part_of, records_of}
use Rattle.log_tells.specs.Keeps.{is_within}
use Rattle.log_tells.specs.Leads.{AreThose, IsCovered, RedoLeads, MergedAre, RebuildLeads, RebuildBrings, RestartLeads, ShowsWritten, GroupRestartLeads, NumbersStand, TopsFit, RestartBrings, GroupRestartBrings, is_in, is_used, records_by}
use Rattle.log_tells.proofs.Lists.{all_both, all_filter, filter-records, filter-swap, filter-within}
use Rattle.log_tells.proofs.Moving.{coherent}
use Rattle.log_tells.proofs.Numbers.{Picked, all_passes, are_allowed, number_above, number_at, number_shown, pick}
use Rattle.log_tells.proofs.Redoing.{redo_own}

-- ---- redo by those of all records that a test passes

-- those of them that change a page
pub touching_told : (id : PageId) (used : ℕ → ℕ → Bool) (told : List Told) → filter (touches id) (records_of (filter (is_used used) told)) ≡ records_of (filter (is_used used) (chain_of id told))
touching_told id used told = filter-records (touches id) (filter (is_used used) told) ∙ ap records_of (filter-swap (λ (u : Told). touches id u.it) (is_used used) told)

by_told : LeavesOthers → RedoLeads → (name : ℕ → PageId) (w : World) (content : ℕ → ℕ → List ℕ) (told : List Told) (used : ℕ → ℕ → Bool) (n d v : ℕ)
    → Good w → IsTold name w content told → AreThose (w.pages n) used d v → redo (name n) (content n d) (records_of (filter (is_used used) told)) ≡ content n v
by_told leaves leads name w content told used n d v good t those =
    redo_own leaves (name n) (content n d) (records_of (filter (is_used used) told))
    ∙ ap (redo (name n) (content n d)) (touching_told (name n) used told)
    ∙ leads name w content told used n d v good t those

-- ---- the logs of all members

abbrev pub within : (ℕ → ℕ) → (ℕ → ℕ) → ℕ → ℕ → Bool
within from to m place = nat_le (from m) place && nat_lt place (to m)

within_true : (from to : ℕ → ℕ) (m place : ℕ) → from m ≤ place → place < to m → within from to m place ≡ true
within_true from to m place low high = and_from (nat_le (from m) place) (nat_lt place (to m)) (le-leb (from m) place low) (lt-ltb place (to m) high)

within_false : (from to : ℕ → ℕ) (m place : ℕ) → to m ≤ place → within from to m place ≡ false
within_false from to m place le = and_right (nat_le (from m) place) (nat_lt place (to m)) (le-ltb place (to m) le)

-- what was read is no earlier than the disk's page
pub disk_read : (g : Group) (p : Page) (v : ℕ) → Coherent g p → g.lost ≡ true → IsRead g p v → p.disk ≤ v
disk_read g p v s lost has = elim (cases_lt v p.disk) [ inl lt ↦ absurd (never lt) | inr ge ↦ ge ]
  where
    never : v < p.disk → ⊥
    never lt =
        let old = s.disk_old in
        let in_it = s.within in
        let one = has.no_more v (omega arith) (omega (arith, lt, old, in_it)) in
        let two = s.read_shared v lost (omega (arith, lt, old)) in
        omega (arith, one, two)

pub rebuild_those : (w : World) (from : ℕ → ℕ) (n v : ℕ) → Good w → w.down ≡ false → w.group.lost ≡ true → IsCovered (w.pages n) from (w.pages n).disk → IsRead w.group (w.pages n) v
    → AreThose (w.pages n) (within from w.group.read) (w.pages n).disk v
rebuild_those w from n v good up lost covered has = record {
  older = disk_read w.group (w.pages n) v (coherent w good up n) lost has;
  there = has.short;
  has = λ i low high. within_true from w.group.read ((w.pages n).author i) ((w.pages n).place i) (covered i low (less i high)) (has.has i high);
  no_more = λ i low high. within_false from w.group.read ((w.pages n).author i) ((w.pages n).place i) (has.no_more i low high);
}
  where
    less : (i : ℕ) → i < v → i < (w.pages n).last
    less i lt = let s = has.short in omega (arith, lt, s)

pub rebuilds : LeavesOthers → RedoLeads → MergedAre → RebuildLeads
rebuilds leaves leads merged name w content told from logs n v good t up lost h covered has =
    ap (redo (name n) (content n (w.pages n).disk)) (merged name w content told from w.group.read logs t h)
    ∙ by_told leaves leads name w content told (within from w.group.read) n (w.pages n).disk v good t (rebuild_those w from n v good up lost covered has)

pub brings : IsRedo → MergedAre → RebuildLeads → RebuildBrings
brings is_redo merged leads name w content told from logs n v applied good t up lost h covered has e =
    is_redo (name n) (content n (w.pages n).disk) (in_order (all_records logs)) applied
    (subst (AllByRecursion IsAllowed) (sym (merged name w content told from w.group.read logs t h))
    (are_allowed w.group.counter (filter (is_in from w.group.read) told) (all_filter (IsDrawn w.group.counter) (is_in from w.group.read) told t.each)))
    e
    ∙ leads name w content told from logs n v good t up lost h covered has

no_later : (p : Page) (i : ℕ) → p.last ≤ i → i < p.last → ⊥
no_later p i a b = omega (arith, a, b)

pub group_those : (w : World) (from : ℕ → ℕ) (n d : ℕ) → Good w → w.down ≡ true → IsCovered (w.pages n) from d → d ≤ (w.pages n).last → AreThose (w.pages n) (within from w.group.stable) d (w.pages n).last
group_those w from n d good down covered le = record {
  older = le;
  there = omega arith;
  has = λ i low high. within_true from w.group.stable ((w.pages n).author i) ((w.pages n).place i) (covered i low high) (grounded.all_stable i high);
  no_more = λ i low high. absurd (no_later (w.pages n) i low high);
}
  where
    grounded : Grounded w.group (w.pages n)
    grounded = subst (λ b. Stands b w.group (w.pages n)) down (good.stands n)

pub group_restarts : LeavesOthers → RedoLeads → MergedAre → GroupRestartLeads
group_restarts leaves leads merged name w content told from logs n d good t down h covered le =
    ap (redo (name n) (content n d)) (merged name w content told from w.group.stable logs t h)
    ∙ by_told leaves leads name w content told (within from w.group.stable) n d (w.pages n).last good t (group_those w from n d good down covered le)

-- ---- the log of one member

touched_body : (id : PageId) (b : Body) → list_any (λ (p : Patch). same_page p.page id) (changes_of b) ≡ true → is_drawn b ≡ true
touched_body id (body.RowChange change) e = refl
touched_body id (body.Compensation change undone) e = refl
touched_body id (body.System patches) e = refl
touched_body id body.Commit e = refl
touched_body id body.Ended e = cc
touched_body id (body.Checkpoint offset) e = cc
touched_body id body.RestartEnd e = cc

-- the records of a log that draw no number change no page
pub own_drawn : (id : PageId) (own : List LogRecord) → filter (touches id) own ≡ filter (touches id) (drawn_in own)
own_drawn id own = sym (filter-within (touches id) (λ (r : LogRecord). is_drawn r.body) own (λ r e. touched_body id r.body e))

abbrev pub of_member : (ℕ → ℕ) → ℕ → ℕ → ℕ → ℕ → Bool
of_member from m to k place = (k == m) && (nat_le (from m) place && nat_lt place to)

of_member_true : (from : ℕ → ℕ) (m to k place : ℕ) → k ≡ m → from m ≤ place → place < to → of_member from m to k place ≡ true
of_member_true from m to k place e low high = and_from (k == m) (nat_le (from m) place && nat_lt place to) (eq-eqb k m e) (and_from (nat_le (from m) place) (nat_lt place to) (le-leb (from m) place low) (lt-ltb place to high))

-- changes behind the group's copy are the owner's
owners : (g : Group) (p : Page) (m i : ℕ) → Coherent g p → p.owner ≡ Some m → copy_before g p ≤ i → i < p.last → p.author i ≡ m
owners g p m i s own low high = same (p.author i) m (sym (by g.lost refl low) ∙ own)
  where
    same : (a b : ℕ) → Some a ≡ Some b → a ≡ b
    same a b e = cc

    by : (b : Bool) → g.lost ≡ b → cond b p.at_loss p.shared ≤ i → p.owner ≡ Some (p.author i)
    by true e le = s.lost_own i e le high
    by false e le = s.own i le high

pub restart_those : (w : World) (from : ℕ → ℕ) (m n d : ℕ) → Good w → w.down ≡ false → (w.pages n).owner ≡ Some m → AllStable w.group (w.pages n) (w.pages n).last → IsCovered (w.pages n) from d → copy_before w.group (w.pages n) ≤ d → d ≤ (w.pages n).last
    → AreThose (w.pages n) (of_member from m (w.group.stable m)) d (w.pages n).last
restart_those w from m n d good up owner stable covered low le = record {
  older = le;
  there = omega arith;
  has = λ i a b. let mine = owners w.group (w.pages n) m i (coherent w good up n) owner (later i a) b in
      of_member_true from m (w.group.stable m) ((w.pages n).author i) ((w.pages n).place i) mine (subst (λ k. from k ≤ (w.pages n).place i) mine (covered i a b)) (subst (λ k. (w.pages n).place i < w.group.stable k) mine (stable i b));
  no_more = λ i a b. absurd (no_later (w.pages n) i a b);
}
  where
    later : (i : ℕ) → d ≤ i → copy_before w.group (w.pages n) ≤ i
    later i a = omega (arith, a, low)

pub restarts : LeavesOthers → RedoLeads → RestartLeads
restarts leaves leads name w content told from own m n d good t up owner stable h covered low le =
    redo_own leaves (name n) (content n d) own
    ∙ ap (redo (name n) (content n d)) (own_drawn (name n) own ∙ ap (filter (touches (name n))) h)
    ∙ sym (redo_own leaves (name n) (content n d) (part_of m (from m) (w.group.stable m) told))
    ∙ by_told leaves leads name w content told (of_member from m (w.group.stable m)) n d (w.pages n).last good t (restart_those w from m n d good up owner stable covered low le)

-- ---- what holds of each record of a log

abbrev When : (Told → Bool) → (LogRecord → Type 0) → Told → Type 0
When p P t = p t ≡ true → P t.it

all_told : (P : LogRecord → Type 0) (p : Told → Bool) (ts : List Told) → AllByRecursion P (records_of (filter p ts)) → AllByRecursion (When p P) ts
all_told P p [] h = tt
all_told P p (t ∷ ts) h = let both = split (p t) refl h in (both.0, all_told P p ts both.1)
  where
    split : (b : Bool) → p t ≡ b → AllByRecursion P (records_of (cond b (t ∷ filter p ts) (filter p ts))) → (p t ≡ true → P t.it) × AllByRecursion P (records_of (filter p ts))
    split true e k = ((λ x. k.0), k.1)
    split false e k = ((λ x. absurd (both_ways (p t) e x)), k)

in_part : (from to : ℕ) (m : ℕ) (t : Told) → t.member ≡ m → from ≤ t.place → t.place < to → (is_of m t && is_between from to t) ≡ true
in_part from to m t e low high = and_from (is_of m t) (is_between from to t) (eq-eqb t.member m e) (and_from (nat_le from t.place) (nat_lt t.place to) (le-leb from t.place low) (lt-ltb t.place to high))

-- of a change that such a part of its author's log has
of_change : (name : ℕ → PageId) (w : World) (content : ℕ → ℕ → List ℕ) (told : List Told) (P : LogRecord → Type 0) (from to n i : ℕ) (own : List LogRecord)
    → IsTold name w content told → i < (w.pages n).last → drawn_in own ≡ part_of ((w.pages n).author i) from to told → AllByRecursion P own → from ≤ (w.pages n).place i → (w.pages n).place i < to
    → (r : LogRecord) × (r.lrsn ≡ (w.pages n).lrsn i) × (touches (name n) r ≡ true) × P r
of_change name w content told P from to n i own t lt h all low high = (
  s.t.it,
  s.lrsn,
  s.holds.0,
  s.holds.1 (in_part from to m s.t s.member (subst (λ x. from ≤ x) (sym s.place) low) (subst (λ x. x < to) (sym s.place) high)),
)
  where
    m : ℕ
    m = (w.pages n).author i

    test : Told → Bool
    test u = is_of m u && is_between from to u

    Both : Told → Type 0
    Both u = (touches (name n) u.it ≡ true) × When test P u

    s : Picked (w.pages n) i i (chain_of (name n) told) Both
    s = pick (w.pages n) 0 i i (chain_of (name n) told) Both (t.chains n) (omega arith) lt
        (all_both (λ (u : Told). touches (name n) u.it ≡ true) (When test P) (chain_of (name n) told) (all_passes (λ (u : Told). touches (name n) u.it) told)
        (all_filter (When test P) (λ (u : Told). touches (name n) u.it) told
        (all_told P test told (subst (AllByRecursion P) h (all_filter P (λ (r : LogRecord). is_drawn r.body) own all)))))

pub shows_written : BearsItsNumber → lrsn_of zeros ≡ 0 → ShowsWritten
shows_written bears none name w content told from own m n d good t up h covered low le all i above lt is = never
    (of_change name w content told (λ (r : LogRecord). touches (name n) r ≡ true → r.lrsn ≤ lrsn_of (content n d)) (from m) (w.group.written m) n i own t lt
    (subst (λ k. drawn_in own ≡ part_of k (from m) (w.group.written m) told) (sym is) h) all
    (subst (λ k. from k ≤ (w.pages n).place i) is (covered i (omega (arith, low, above)) lt))
    (subst (λ k. (w.pages n).place i < w.group.written k) is ((coherent w good up n).written i lt)))
  where
    never : (r : LogRecord) × (r.lrsn ≡ (w.pages n).lrsn i) × (touches (name n) r ≡ true) × (touches (name n) r ≡ true → r.lrsn ≤ lrsn_of (content n d)) → ⊥
    never x =
        let number = x.1 in
        let top = x.3 x.2 in
        let shown = number_shown bears none name w content told n d t le in
        let more = number_above w.group (w.pages n) d i (good.numbered n) (omega (arith, low, above)) lt in
        omega (arith, number, top, shown, more)

pub numbers_stand : NumbersStand
numbers_stand name w content told logs top t all n i lt stable =
    let x = of_change name w content told (λ (r : LogRecord). r.lrsn ≤ top) 0 (w.group.stable ((w.pages n).author i)) n i (logs ((w.pages n).author i)) t.drawn lt (t.disk ((w.pages n).author i)) (all ((w.pages n).author i)) (omega arith) stable in
    let number = x.1 in
    let le = x.3 in
    omega (arith, number, le)

-- ---- all that stands on disk

each_within : (P : LogRecord → Type 0) (stable : ℕ → ℕ) (ts : List Told) → ((m : ℕ) → AllByRecursion (When (λ (t : Told). is_of m t && is_between 0 (stable m) t) P) ts) → AllByRecursion (λ (t : Told). P t.it) (filter (is_within stable) ts)
each_within P stable [] f = tt
each_within P stable (t ∷ ts) f = all_when (is_within stable t) refl (each_within P stable ts (λ m. (f m).1))
  where
    all_when : (b : Bool) → is_within stable t ≡ b → AllByRecursion (λ (u : Told). P u.it) (filter (is_within stable) ts) → AllByRecursion (λ (u : Told). P u.it) (cond b (t ∷ filter (is_within stable) ts) (filter (is_within stable) ts))
    all_when true e rest = ((f t.member).0 (in_part 0 (stable t.member) t.member t refl (omega arith) (ltb-true t.place (stable t.member) e)), rest)
    all_when false e rest = rest

pub tops_fit : TopsFit
tops_fit name w content told logs top t all =
    each_within (λ (r : LogRecord). r.lrsn ≤ top) w.group.stable told (λ m.
    all_told (λ (r : LogRecord). r.lrsn ≤ top) (λ (u : Told). is_of m u && is_between 0 (w.group.stable m) u) told
    (subst (AllByRecursion (λ (r : LogRecord). r.lrsn ≤ top)) (t.disk m) (all_filter (λ (r : LogRecord). r.lrsn ≤ top) (λ (r : LogRecord). is_drawn r.body) (logs m) (all m))))

-- ---- as a page is brought forward

pub restart_brings : IsRedo → RestartLeads → RestartBrings
restart_brings is_redo leads name w content told from own m n d applied good t up owner stable h allowed covered low le e =
    is_redo (name n) (content n d) own applied allowed e ∙ leads name w content told from own m n d good t up owner stable h covered low le

pub group_brings : IsRedo → MergedAre → GroupRestartLeads → GroupRestartBrings
group_brings is_redo merged leads name w content told from logs n d applied good t down h covered le e =
    is_redo (name n) (content n d) (in_order (all_records logs)) applied
    (subst (AllByRecursion IsAllowed) (sym (merged name w content told from w.group.stable logs t h))
    (are_allowed w.group.counter (filter (is_in from w.group.stable) told) (all_filter (IsDrawn w.group.counter) (is_in from w.group.stable) told t.each)))
    e
    ∙ leads name w content told from logs n d good t down h covered le
