-- Chains without a fault, through moves, and redo that meets none.
use Rattle.std.proofs.Common.{◌≡◌, ℕ, zero, suc, ◌+◌, ◌<◌, ◌≤◌, Bool, true, false, cond, List, [], ◌∷◌, ◌++◌, length, take, Option, Some, None, Result, Ok, Err, refl, sym, ap, ◌∙◌, subst, arith, inl, inr}
use Rattle.std.specs.Prelude.{filter, ◌==◌, ◌||◌, ◌&&◌, ◌⊎◌, nat_le, nat_lt}
use Rattle.std.specs.List.{AllByRecursion, list_any}
use Rattle.std.proofs.lemmas.Bool.{cases_Bool, cases_eq, cases_lt, cond-true, cond-false, false≢true, le-leb, le-ltb, lt-ltb}
use Rattle.std.proofs.lemmas.List.{length-append, length-take, take_all}
use Rattle.ds_base.specs.declared.names.PageId.{PageId}
use Rattle.ds_base.specs.Pages.{same_page}
use Rattle.ds_model.specs.declared.log.LogRecord.{LogRecord}
use Rattle.ds_model.specs.declared.log.Body.{Body}
use Rattle.ds_model.specs.declared.log.Body.TheVariants as body
use Rattle.ds_model.specs.declared.log.Version.{Version}
use Rattle.ds_model.specs.RecordBytes.{IsAllowed, BodyIsAllowed, PatchIsAllowed}
use Rattle.page_format.specs.Fields.{lrsn_of, page_size}
use Rattle.page_format.specs.Header.{header_of}
use Rattle.page_format.specs.declared.header.Header.{Header}
use Rattle.page_format.specs.declared.header.NotAPage.{NotAPage}
use Rattle.page_format.specs.declared.patch.Patch.{Patch}
use Rattle.heap_space.specs.Written.{written}
use Rattle.page_images.specs.Images.{zeros}
use Rattle.log_record.specs.declared.log.Log.{Log}
use Rattle.log_merge.specs.Merging.{all_records, in_order}
use Rattle.page_chain.specs.Chains.{changes_of, touches, after_record, BearsItsNumber}
use Rattle.page_redo.specs.declared.fault.FieldFault.{FieldFault}
use Rattle.page_redo.specs.Forward.{Forward, NeedsItsOwn, after_one, body_fault, brought_forward, forward_from, go_on, has_patch, headed, lies_in_page, patches_of, unless}
use Rattle.page_protocol.specs.Page.{Page, Group, fail, all_fail}
use Rattle.page_protocol.specs.Moves.{World, Move, At, Draw, Force, TakeSet, YieldSet, PurgeSet, Lose, ReadLog, Rebuilt, Fail, Restart, Open, GroupFail, Forward as Forwards, Compensate, Append, Rise as RiseUp, Step, failed, all_failed}
use Rattle.page_protocol.specs.Always.{Good, Numbered}
use Rattle.log_tells.specs.Told.{Told, IsDrawn, IsTold, AreChanges, chain_of, records_of}
use Rattle.log_tells.specs.Keeps.{Fits, GoesOn, changed_by, is_within, told_after, told_at}
use Rattle.log_tells.specs.Leads.{AreThose, MergedAre, is_used}
use Rattle.log_tells.specs.Clear.{AreClear, GroupRestartIsClear, IsBrought, IsClear, IsClearNext, RebuildIsClear, RestartIsClear, StaysClear, is_header}
use Rattle.log_tells.proofs.Chains.{chain_length, chain_more, chain_other, changes_none, changes_up}
use Rattle.log_tells.proofs.Leading.{group_those, of_member, own_drawn, rebuild_those, restart_those, touching_told, within}
use Rattle.log_tells.proofs.Lists.{all_both, all_filter, all_weaker}
use Rattle.log_tells.proofs.Moving.{chain_cut, fails_in, group_fails_in, stays}
use Rattle.log_tells.proofs.Numbers.{all_passes, number_above, number_below, number_shown}
use Rattle.log_tells.proofs.Redoing.{Makes, Redoing, makes, use_of}

-- ---- the patches of a record that may stand in a log are all made

all_lie : (ps : List Patch) → AllByRecursion PatchIsAllowed ps → filter lies_in_page ps ≡ ps
all_lie [] h = refl
all_lie (p ∷ ps) h =
    cond-true (lies_in_page p) (p ∷ filter lies_in_page ps) (filter lies_in_page ps) (le-leb (p.offset + length p.bytes) page_size h.0.within)
    ∙ ap (λ (qs : List Patch). p ∷ qs) (all_lie ps h.1)

made : (v : Version) (b : Body) → BodyIsAllowed v b → patches_of b ≡ changes_of b
made v (body.RowChange c) h = refl
made v (body.Compensation c undone) h = refl
made v (body.System ps) h = all_lie ps h.each
made v body.Commit h = refl
made v body.Ended h = refl
made v (body.Checkpoint offset) h = refl
made v body.RestartEnd h = refl

-- ---- one record

-- whether it comes to an end, with this page
record Comes (f : Forward) (last : List ℕ) : Type 0 where
  applied : Bool
  outcome : f.outcome ≡ Ok applied
  page_is : f.page ≡ last

passed : (id : PageId) (page : List ℕ) (r : LogRecord) → r.lrsn ≤ lrsn_of page → Comes (after_one id page r) page
passed id page r le = subst (λ b. Comes (cond (b && has_patch id (patches_of r.body)) (unless (body_fault id page r.body) id page r) (record { page = page; outcome = Ok false })) page)
    (sym (le-ltb (lrsn_of page) r.lrsn le)) (record { applied = false; outcome = refl; page_is = refl })

applied_one : (id : PageId) (page : List ℕ) (r : LogRecord) → lrsn_of page < r.lrsn → IsAllowed r → touches id r ≡ true → body_fault id page r.body ≡ None → Comes (after_one id page r) (after_record id page r)
applied_one id page r lt allowed e none =
    subst (λ b. Comes (cond (b && has_patch id (patches_of r.body)) (unless (body_fault id page r.body) id page r) (record { page = page; outcome = Ok false })) (after_record id page r)) (sym (lt-ltb (lrsn_of page) r.lrsn lt))
    (subst (λ b. Comes (cond b (unless (body_fault id page r.body) id page r) (record { page = page; outcome = Ok false })) (after_record id page r)) (sym (ap (has_patch id) (made r.version r.body allowed.body_is) ∙ e))
    (subst (λ o. Comes (unless o id page r) (after_record id page r)) (sym none)
    (record { applied = true; outcome = refl; page_is = ap (λ ps. written id r.lrsn ps page) (made r.version r.body allowed.body_is) })))

-- and then the others
goes_on : (id : PageId) (rs : List LogRecord) (f : Forward) (applied : Bool) (page last : List ℕ) → Comes f page → ((b : Bool) → Comes (forward_from id page b rs) last) → Comes (go_on (λ p b. forward_from id p b rs) applied f.page f.outcome) last
goes_on id rs f applied page last c rest =
    subst (λ o. Comes (go_on (λ p b. forward_from id p b rs) applied f.page o) last) (sym c.outcome) (subst (λ p. Comes (forward_from id p (applied || c.applied) rs) last) (sym c.page_is) (rest (applied || c.applied)))

-- ---- the records of a chain

-- what is known of each change
abbrev IsOne : PageId → Told → Type 0
IsOne id t = IsAllowed t.it × (touches id t.it ≡ true)

ends : (id : PageId) (page last : List ℕ) (applied : Bool) → page ≡ last → Comes (forward_from id page applied []) last
ends id page last applied e = record { applied = applied; outcome = refl; page_is = e }

applies : (id : PageId) (g : Group) (p : Page) (content : ℕ → List ℕ) (used : ℕ → ℕ → Bool) (d v i : ℕ) (ts : List Told) (applied : Bool) → Redoing id g p content used d v → AreChanges p i ts → Makes id content i ts → AreClear id content i ts
    → AllByRecursion (IsOne id) ts → d ≤ i → i ≤ v → Comes (forward_from id (content i) applied (records_of (filter (is_used used) ts))) (content v)
applies id g p content used d v i [] applied a h s c one low high = let le = a.those.there in let e : i ≡ v = omega (arith, h, high, le) in ends id (content i) (content v) applied (ap content e)
applies id g p content used d v i (t ∷ ts) applied a h s c one low high = elim (cases_lt i v) [
  | inl lt ↦
      subst (λ us. Comes (forward_from id (content i) applied (records_of us)) (content v)) (sym (cond-true (is_used used t) (t ∷ filter (is_used used) ts) (filter (is_used used) ts) (use_of used p i t true h.0 h.1 (a.those.has i low lt))))
      (goes_on id (records_of (filter (is_used used) ts)) (after_one id (content i) t.it) applied (after_record id (content i) t.it) (content v) (applied_one id (content i) t.it (above lt) one.0.0 one.0.1 c.0)
      (λ b. subst (λ x. Comes (forward_from id x b (records_of (filter (is_used used) ts))) (content v)) (sym s.0) (applies id g p content used d v (i + 1) ts b a h.3 s.1 c.1 one.1 (omega (arith, low)) (omega (arith, lt)))))
  | inr ge ↦
      subst (λ us. Comes (forward_from id (content i) applied (records_of us)) (content v)) (sym (changes_none used p i (t ∷ ts) h (λ j x y. a.those.no_more j (omega (arith, x, ge)) y)))
      (ends id (content i) (content v) applied (same ge))
]
  where
    same : v ≤ i → content i ≡ content v
    same ge = let e : i ≡ v = omega (arith, high, ge) in ap content e

    above : i < v → lrsn_of (content i) < t.it.lrsn
    above lt =
        let le = a.those.there in
        let e = a.shown i (omega (arith, lt, le)) in
        let n = number_above g p i i a.order (omega arith) (omega (arith, lt, le)) in
        let is = h.2 in
        omega (arith, e, n, is)

passes : (id : PageId) (g : Group) (p : Page) (content : ℕ → List ℕ) (used : ℕ → ℕ → Bool) (d v i : ℕ) (ts : List Told) (applied : Bool) → Redoing id g p content used d v → AreChanges p i ts → Makes id content i ts → AreClear id content i ts
    → AllByRecursion (IsOne id) ts → i ≤ d → Comes (forward_from id (content d) applied (records_of (filter (is_used used) ts))) (content v)
passes id g p content used d v i [] applied a h s c one le =
    let low = a.those.older in
    let high = a.those.there in
    let e : d ≡ v = omega (arith, h, low, high, le) in
    ends id (content d) (content v) applied (ap content e)
passes id g p content used d v i (t ∷ ts) applied a h s c one le = elim (cases_lt i d) [
  | inl lt ↦ skip (is_used used t) lt (λ b. passes id g p content used d v (i + 1) ts b a h.3 s.1 c.1 one.1 (omega (arith, lt)))
  | inr ge ↦
      let e : d ≡ i = omega (arith, le, ge) in
      let low = a.those.older in
      subst (λ x. Comes (forward_from id (content x) applied (records_of (filter (is_used used) (t ∷ ts)))) (content v)) (sym e) (applies id g p content used d v i (t ∷ ts) applied a h s c one ge (omega (arith, low, le, ge)))
]
  where
    below : i < d → t.it.lrsn ≤ lrsn_of (content d)
    below lt =
        let low = a.those.older in
        let high = a.those.there in
        let e = a.shown d (omega (arith, low, high)) in
        let n = number_below g p d i a.order lt (omega (arith, low, high)) in
        let is = h.2 in
        omega (arith, e, n, is)

    skip : (b : Bool) → i < d → ((x : Bool) → Comes (forward_from id (content d) x (records_of (filter (is_used used) ts))) (content v)) → Comes (forward_from id (content d) applied (records_of (cond b (t ∷ filter (is_used used) ts) (filter (is_used used) ts)))) (content v)
    skip true lt rest = goes_on id (records_of (filter (is_used used) ts)) (after_one id (content d) t.it) applied (content d) (content v) (passed id (content d) t.it (below lt)) rest
    skip false lt rest = rest applied

-- ---- the page

headed_so : (id : PageId) (page : List ℕ) (rs : List LogRecord) (x : Result Header NotAPage) → is_header x ≡ true → headed id page rs x ≡ forward_from id page false rs
headed_so id page rs (Ok x) e = refl
headed_so id page rs (Err x) e = cc

pub brought : NeedsItsOwn → BearsItsNumber → lrsn_of zeros ≡ 0 → (name : ℕ → PageId) (w : World) (content : ℕ → ℕ → List ℕ) (told : List Told) (used : ℕ → ℕ → Bool) (n d v : ℕ) (rs : List LogRecord)
    → Good w → IsTold name w content told → IsClear name w content told → AreThose (w.pages n) used d v → filter (touches (name n)) rs ≡ records_of (filter (is_used used) (chain_of (name n) told))
    → IsBrought (name n) (content n d) rs (content n v)
brought own bears none name w content told used n d v rs good t clear those e =
    let c : Comes (brought_forward (name n) (content n d) rs) (content n v) = subst (λ f. Comes f (content n v)) (sym is) comes in
    record { applied = c.applied; outcome = c.outcome; page_is = c.page_is }
  where
    there : d ≤ (w.pages n).last
    there = let a = those.older in let b = those.there in omega (arith, a, b)

    is : brought_forward (name n) (content n d) rs ≡ forward_from (name n) (content n d) false (records_of (filter (is_used used) (chain_of (name n) told)))
    is = sym (own (name n) (content n d) rs) ∙ ap (brought_forward (name n) (content n d)) e
        ∙ headed_so (name n) (content n d) (records_of (filter (is_used used) (chain_of (name n) told))) (header_of (content n d) (name n)) (clear.headers n d there)

    comes : Comes (forward_from (name n) (content n d) false (records_of (filter (is_used used) (chain_of (name n) told)))) (content n v)
    comes = passes (name n) w.group (w.pages n) (content n) used d v 0 (chain_of (name n) told) false
        (record { shown = λ j le. number_shown bears none name w content told n j t le; order = good.numbered n; those = those })
        (t.chains n)
        (makes (name n) (content n) zeros 0 (chain_of (name n) told) (λ k le. ap (content n) (omega arith) ∙ t.versions n k (subst (λ x. k ≤ x) (chain_length (w.pages n) (chain_of (name n) told) (t.chains n)) le)))
        (clear.chains n)
        (all_both (λ (u : Told). IsAllowed u.it) (λ (u : Told). touches (name n) u.it ≡ true) (chain_of (name n) told)
        (all_weaker (IsDrawn w.group.counter) (λ (u : Told). IsAllowed u.it) (chain_of (name n) told) (λ u h. h.allowed) (all_filter (IsDrawn w.group.counter) (λ (u : Told). touches (name n) u.it) told t.each))
        (all_passes (λ (u : Told). touches (name n) u.it) told))
        (omega arith)

pub rebuild_is_clear : NeedsItsOwn → BearsItsNumber → lrsn_of zeros ≡ 0 → MergedAre → RebuildIsClear
rebuild_is_clear own bears none merged name w content told from logs n v good t clear up lost h covered has =
    brought own bears none name w content told (within from w.group.read) n (w.pages n).disk v (in_order (all_records logs)) good t clear (rebuild_those w from n v good up lost covered has)
    (ap (filter (touches (name n))) (merged name w content told from w.group.read logs t h) ∙ touching_told (name n) (within from w.group.read) told)

pub restart_is_clear : NeedsItsOwn → BearsItsNumber → lrsn_of zeros ≡ 0 → RestartIsClear
restart_is_clear needs bears none name w content told from own m n d good t clear up owner stable h covered low le =
    brought needs bears none name w content told (of_member from m (w.group.stable m)) n d (w.pages n).last own good t clear (restart_those w from m n d good up owner stable covered low le)
    (own_drawn (name n) own ∙ ap (filter (touches (name n))) h ∙ touching_told (name n) (of_member from m (w.group.stable m)) told)

pub group_restart_is_clear : NeedsItsOwn → BearsItsNumber → lrsn_of zeros ≡ 0 → MergedAre → GroupRestartIsClear
group_restart_is_clear own bears none merged name w content told from logs n d good t clear down h covered le =
    brought own bears none name w content told (within from w.group.stable) n d (w.pages n).last (in_order (all_records logs)) good t clear (group_those w from n d good down covered le)
    (ap (filter (touches (name n))) (merged name w content told from w.group.stable logs t h) ∙ touching_told (name n) (within from w.group.stable) told)

-- ---- through moves

clear_same : (id : PageId) (content after : ℕ → List ℕ) (p : Page) (i : ℕ) (ts : List Told) → AreChanges p i ts → ((j : ℕ) → j ≤ p.last → after j ≡ content j) → AreClear id content i ts → AreClear id after i ts
clear_same id content after p i [] h same c = tt
clear_same id content after p i (t ∷ ts) h same c =
    let up = changes_up p (i + 1) ts h.3 in
    (subst (λ x. body_fault id x t.it.body ≡ None) (sym (same i (omega (arith, up)))) c.0, clear_same id content after p (i + 1) ts h.3 same c.1)

clear_take : (id : PageId) (content : ℕ → List ℕ) (i k : ℕ) (ts : List Told) → AreClear id content i ts → AreClear id content i (take k ts)
clear_take id content i zero [] c = tt
clear_take id content i (suc k) [] c = tt
clear_take id content i zero (t ∷ ts) c = tt
clear_take id content i (suc k) (t ∷ ts) c = (c.0, clear_take id content (i + 1) k ts c.1)

clear_more : (id : PageId) (content : ℕ → List ℕ) (p : Page) (i : ℕ) (ts : List Told) (t : Told) → AreChanges p i ts → AreClear id content i ts → body_fault id (content p.last) t.it.body ≡ None → AreClear id content i (ts ++ t ∷ [])
clear_more id content p i [] t h c e = (subst (λ j. body_fault id (content j) t.it.body ≡ None) (sym h) e, tt)
clear_more id content p i (u ∷ us) t h c e = (c.0, clear_more id content p (i + 1) us t h.3 c.1 e)

-- the chain is cut, or has the record of the move behind it
abbrev ChainGoes : (ℕ → PageId) → World → Move → LogRecord → List Told → ℕ → Type 0
ChainGoes name w e r told n =
    ((k : ℕ) × (chain_of (name n) (told_after w e r told) ≡ take k (chain_of (name n) told)))
    ⊎ ((t : Told) × (t.it ≡ r) × (changed_by e n ≡ true) × (chain_of (name n) (told_after w e r told) ≡ chain_of (name n) told ++ t ∷ []))

whole : (ts : List Told) → ts ≡ take (length ts) ts
whole ts = sym (take_all (length ts) ts (omega arith))

one_more : (id : PageId) (told : List Told) (t : Told) (b : Bool) → touches id t.it ≡ b
    → ((k : ℕ) × (chain_of id (told ++ t ∷ []) ≡ take k (chain_of id told))) ⊎ ((u : Told) × (u.it ≡ t.it) × (b ≡ true) × (chain_of id (told ++ t ∷ []) ≡ chain_of id told ++ u ∷ []))
one_more id told t true e = inr (t, refl, refl, chain_more id told t e)
one_more id told t false e = inl (length (chain_of id told), chain_other id told t e ∙ whole (chain_of id told))

chain_goes : (name : ℕ → PageId) (set : ℕ → ℕ) (w v : World) (e : Move) (r : LogRecord) (content : ℕ → ℕ → List ℕ) (told : List Told) (n : ℕ) → Good w → IsTold name w content told → Step set w e v → Fits name w e r told → ChainGoes name w e r told n
chain_goes name set w v (At k e) r content told n good t st f = inl (length (chain_of (name n) told), whole (chain_of (name n) told))
chain_goes name set w v (Draw m touched) r content told n good t st f = one_more (name n) told (told_at m (w.group.written m) r) (touched n) (f.changes n)
chain_goes name set w v (Force m k) r content told n good t st f = inl (length (chain_of (name n) told), whole (chain_of (name n) told))
chain_goes name set w v (TakeSet s m) r content told n good t st f = inl (length (chain_of (name n) told), whole (chain_of (name n) told))
chain_goes name set w v (YieldSet s m) r content told n good t st f = inl (length (chain_of (name n) told), whole (chain_of (name n) told))
chain_goes name set w v (PurgeSet s m) r content told n good t st f = inl (length (chain_of (name n) told), whole (chain_of (name n) told))
chain_goes name set w v Lose r content told n good t st f = inl (length (chain_of (name n) told), whole (chain_of (name n) told))
chain_goes name set w v (ReadLog m) r content told n good t st f = inl (length (chain_of (name n) told), whole (chain_of (name n) told))
chain_goes name set w v Rebuilt r content told n good t st f = inl (length (chain_of (name n) told), whole (chain_of (name n) told))
chain_goes name set w v (Fail m cut) r content told n good t st f =
    inl (cut n, chain_cut name w (record { down = false; group = failed w.group m; pages = λ k. fail (w.pages k) m (cut k) }) content told (failed w.group m).written t (fails_in w m cut good st.0 st.1) n)
chain_goes name set w v (Restart m) r content told n good t st f = inl (length (chain_of (name n) told), whole (chain_of (name n) told))
chain_goes name set w v (Open m) r content told n good t st f = inl (length (chain_of (name n) told), whole (chain_of (name n) told))
chain_goes name set w v (GroupFail cut counter) r content told n good t st f =
    inl (cut n, chain_cut name w (record { down = true; group = all_failed w.group counter; pages = λ k. all_fail (w.pages k) (cut k) }) content told w.group.stable t (group_fails_in w cut counter good st.0) n)
chain_goes name set w v (Forwards k i) r content told n good t st f = inl (length (chain_of (name n) told), whole (chain_of (name n) told))
chain_goes name set w v (Compensate k m) r content told n good t st f = one_more (name n) told (told_at m (w.group.stable m) r) (n == k) (f.changes n)
chain_goes name set w v (Append m) r content told n good t st f = one_more (name n) told (told_at m (w.group.stable m) r) false (f.changes n)
chain_goes name set w v RiseUp r content told n good t st f = inl (length (chain_of (name n) told), whole (chain_of (name n) told))

pub stays_clear : StaysClear
stays_clear name set w v e r content after told good t st f go clear next = record {
  headers = λ n i le. elim (cases_lt (w.pages n).last i) [ inl lt ↦ new n i le lt (goes n) | inr low ↦ subst (λ page. is_header (header_of page (name n)) ≡ true) (sym (go.kept n i low)) (clear.headers n i low) ];
  chains = λ n. chain_clear n (goes n);
}
  where
    told_there : IsTold name v after (told_after w e r told)
    told_there = stays name set w v e r content after told good t st f go

    goes : (n : ℕ) → ChainGoes name w e r told n
    goes n = chain_goes name set w v e r content told n good t st f

    old : (n : ℕ) → AreClear (name n) (after n) 0 (chain_of (name n) told)
    old n = clear_same (name n) (content n) (after n) (w.pages n) 0 (chain_of (name n) told) (t.chains n) (go.kept n) (clear.chains n)

    chain_clear : (n : ℕ) → ChainGoes name w e r told n → AreClear (name n) (after n) 0 (chain_of (name n) (told_after w e r told))
    chain_clear n (inl (k, is)) = subst (AreClear (name n) (after n) 0) (sym is) (clear_take (name n) (after n) 0 k (chain_of (name n) told) (old n))
    chain_clear n (inr (u, it, changed, is)) = subst (AreClear (name n) (after n) 0) (sym is)
        (clear_more (name n) (after n) (w.pages n) 0 (chain_of (name n) told) u (t.chains n) (old n)
        (subst (λ x. body_fault (name n) (after n (w.pages n).last) x.body ≡ None) (sym it) (subst (λ page. body_fault (name n) page r.body ≡ None) (sym (go.kept n (w.pages n).last (omega arith))) (next.fault n changed))))

    last_is : (n : ℕ) → length (chain_of (name n) told) ≡ (w.pages n).last
    last_is n = chain_length (w.pages n) (chain_of (name n) told) (t.chains n)

    length_is : (n : ℕ) → length (chain_of (name n) (told_after w e r told)) ≡ (v.pages n).last
    length_is n = chain_length (v.pages n) (chain_of (name n) (told_after w e r told)) (told_there.chains n)

    new : (n i : ℕ) → i ≤ (v.pages n).last → (w.pages n).last < i → ChainGoes name w e r told n → is_header (header_of (after n i) (name n)) ≡ true
    new n i le lt (inl (k, is)) =
        let a = length_is n in
        let b = last_is n in
        let c : length (chain_of (name n) (told_after w e r told)) ≡ length (take k (chain_of (name n) told)) = ap (λ (us : List Told). length us) is in
        let d = length-take k (chain_of (name n) told) in
        absurd (omega (arith, a, b, c, d, le, lt))
    new n i le lt (inr (u, it, changed, is)) =
        let a = length_is n in
        let b = last_is n in
        let c : length (chain_of (name n) (told_after w e r told)) ≡ length (chain_of (name n) told ++ u ∷ []) = ap (λ (us : List Told). length us) is in
        let d : length (chain_of (name n) told ++ u ∷ []) ≡ length (chain_of (name n) told) + 1 = length-append (chain_of (name n) told) (u ∷ []) in
        let e : i ≡ (w.pages n).last + 1 = omega (arith, a, b, c, d, le, lt) in
        subst (λ x. is_header (header_of (after n x) (name n)) ≡ true) (sym e) (next.header n changed)
