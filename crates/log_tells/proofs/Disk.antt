-- The logs on disk, through each move of the world of pages.
use Rattle.std.proofs.Common.{◌≡◌, ℕ, zero, suc, ◌+◌, ◌-◌, ◌<◌, ◌≤◌, Bool, true, false, cond, List, [], ◌∷◌, ◌++◌, length, take, map, refl, sym, ap, ◌∙◌, subst, arith, inl, inr}
use Rattle.std.specs.Prelude.{filter, ◌==◌, ◌&&◌, nat_le, nat_lt}
use Rattle.std.proofs.lemmas.Bool.{cases_Bool, cases_eq, cases_lt, cond-true, cond-false, eqb-true, eq-eqb, ne_eqb, lt-ltb, ltb-true, and_from, and_parts, and_left, and_right, lt-leb}
use Rattle.std.proofs.lemmas.List.{append-nil, map-append, take-map, take_at, length-append, length-map}
use Rattle.std.proofs.lemmas.List.Elements.{filter-append}
use Rattle.ds_base.specs.declared.names.PageId.{PageId}
use Rattle.ds_model.specs.declared.log.LogRecord.{LogRecord}
use Rattle.log_record.specs.Changes.{is_drawn}
use Rattle.page_protocol.specs.Page.{put}
use Rattle.page_protocol.specs.Moves.{World, Move, At, Draw, Force, TakeSet, YieldSet, PurgeSet, Lose, ReadLog, Rebuilt, Fail, Restart, Open, GroupFail, Forward, Compensate, Append, Rise as RiseUp, Step, failed}
use Rattle.page_protocol.specs.Always.{Good}
use Rattle.log_tells.specs.Told.{Told, IsTold, LogsTell, HaveParts, Fill, drawn_in, is_between, is_of, part_of, records_of}
use Rattle.log_tells.specs.Keeps.{told_at, told_after, is_within, Fits, GoesOn, appended, logs_after, IsAppended, LogsGoOn, OthersStand, IsFront, FrontsAreParts, PartsStay}
use Rattle.log_tells.proofs.Lists.{filter-within}
use Rattle.log_tells.proofs.Places.{before, behind, between, fill_all, fill_join, fill_none, fill_take, fill_up, part_is}
use Rattle.log_tells.proofs.Moving.{forced_of, put_here, put_there, stays}

-- ---- parts

abbrev pub in_part : ℕ → ℕ → ℕ → Told → Bool
in_part m from to t = is_of m t && is_between from to t

pub part_grows : (m from to : ℕ) (told : List Told) (t : Told) → part_of m from to (told ++ t ∷ []) ≡ part_of m from to told ++ records_of (filter (in_part m from to) (t ∷ []))
part_grows m from to told t = ap records_of (filter-append (in_part m from to) told (t ∷ [])) ∙ map-append (λ (u : Told). u.it) (filter (in_part m from to) told) (filter (in_part m from to) (t ∷ []))

-- a record behind the part, or of another log
part_stays : (m from to : ℕ) (told : List Told) (t : Told) → in_part m from to t ≡ false → part_of m from to (told ++ t ∷ []) ≡ part_of m from to told
part_stays m from to told t e =
    part_grows m from to told t ∙ ap (λ us. part_of m from to told ++ records_of us) (cond-false (in_part m from to t) (t ∷ []) [] e) ∙ append-nil (part_of m from to told)

beyond : (k place : ℕ) (r : LogRecord) (m from to : ℕ) → (k ≡ m → to ≤ place) → in_part m from to (told_at k place r) ≡ false
beyond k place r m from to le = elim (cases_eq k m) [
  | inl e ↦ and_right (k == m) (is_between from to (told_at k place r)) (behind from to (told_at k place r) (le e))
  | inr ne ↦ and_left (k == m) (is_between from to (told_at k place r)) (ne_eqb k m ne)
]

-- and what a cut leaves
part_cut : (lengths : ℕ → ℕ) (m from to : ℕ) (told : List Told) → to ≤ lengths m → part_of m from to (filter (is_within lengths) told) ≡ part_of m from to told
part_cut lengths m from to told le = ap records_of (filter-within (in_part m from to) (is_within lengths) told in_it)
  where
    low : (place : ℕ) → place < to → place < lengths m
    low place lt = omega (arith, lt, le)

    in_it : (t : Told) → in_part m from to t ≡ true → is_within lengths t ≡ true
    in_it t e =
        let both = and_parts (is_of m t) (is_between from to t) e in
        let places = and_parts (nat_le from t.place) (nat_lt t.place to) both.1 in
        subst (λ k. nat_lt t.place (lengths k) ≡ true) (sym (eqb-true t.member m both.0)) (lt-ltb t.place (lengths m) (low t.place (ltb-true t.place to places.1)))

pub part_join : (m a b c to : ℕ) (told : List Told) → Fill 0 to (filter (is_of m) told) → a ≤ b → b ≤ c → part_of m a b told ++ part_of m b c told ≡ part_of m a c told
part_join m a b c to told h low high =
    ap (λ xs. xs ++ part_of m b c told) (part_is m a b told)
    ∙ ap (λ xs. records_of (filter (is_between a b) (filter (is_of m) told)) ++ xs) (part_is m b c told)
    ∙ sym (map-append (λ (u : Told). u.it) (filter (is_between a b) (filter (is_of m) told)) (filter (is_between b c) (filter (is_of m) told)))
    ∙ ap records_of (fill_join 0 to a b c (filter (is_of m) told) h low high)
    ∙ sym (part_is m a c told)

-- a part that ends where the log does is no longer with a later end
pub part_ends : (m from a b to : ℕ) (told : List Told) → Fill 0 to (filter (is_of m) told) → from ≤ a → to ≤ a → a ≤ b → part_of m from a told ≡ part_of m from b told
part_ends m from a b to told h start low high = sym (append-nil (part_of m from a told)) ∙ ap (λ xs. part_of m from a told ++ xs) (sym none) ∙ part_join m from a b to told h start high
  where
    past : (lo : ℕ) (ts : List Told) → Fill lo to ts → filter (is_between a b) ts ≡ []
    past lo [] k = refl
    past lo (t ∷ ts) k = cond-false (is_between a b t) (t ∷ filter (is_between a b) ts) (filter (is_between a b) ts) (and_left (nat_le a t.place) (nat_lt t.place b) (early lo t ts k)) ∙ past (lo + 1) ts k.1
      where
        early : (lo : ℕ) (t : Told) (ts : List Told) → Fill lo to (t ∷ ts) → nat_le a t.place ≡ false
        early lo t ts k = let at = k.0 in let up = fill_up (lo + 1) to ts k.1 in lt-leb a t.place (omega (arith, at, up, low))

    none : part_of m a b told ≡ []
    none = part_is m a b told ∙ ap records_of (past 0 (filter (is_of m) told) h)

-- ---- what was read stays

pub parts : PartsStay
parts name set w v content told (At n e) r m from to good t st le = refl
parts name set w v content told (Draw k touched) r m from to good t st le = part_stays m from to told (told_at k (w.group.written k) r) (beyond k (w.group.written k) r m from to later)
  where
    later : k ≡ m → to ≤ w.group.written k
    later e = subst (λ j. to ≤ w.group.written j) (sym e) (let f = forced_of w good m in omega (arith, f, le))
parts name set w v content told (Force k j) r m from to good t st le = refl
parts name set w v content told (TakeSet s k) r m from to good t st le = refl
parts name set w v content told (YieldSet s k) r m from to good t st le = refl
parts name set w v content told (PurgeSet s k) r m from to good t st le = refl
parts name set w v content told Lose r m from to good t st le = refl
parts name set w v content told (ReadLog k) r m from to good t st le = refl
parts name set w v content told Rebuilt r m from to good t st le = refl
parts name set w v content told (Fail k cut) r m from to good t st le = part_cut (failed w.group k).written m from to told (elim (cases_eq m k) [
  | inl e ↦ subst (λ j. to ≤ put w.group.written k (w.group.stable k) j) (sym e) (subst (λ x. to ≤ x) (sym (put_here w.group.written k (w.group.stable k))) (subst (λ j. to ≤ w.group.stable j) e le))
  | inr ne ↦ subst (λ x. to ≤ x) (sym (put_there w.group.written k m (w.group.stable k) ne)) (let f = forced_of w good m in omega (arith, f, le))
])
parts name set w v content told (Restart k) r m from to good t st le = refl
parts name set w v content told (Open k) r m from to good t st le = refl
parts name set w v content told (GroupFail cut counter) r m from to good t st le = part_cut w.group.stable m from to told le
parts name set w v content told (Forward n k) r m from to good t st le = refl
parts name set w v content told (Compensate n k) r m from to good t st le = part_stays m from to told (told_at k (w.group.stable k) r) (beyond k (w.group.stable k) r m from to (λ e. subst (λ j. to ≤ w.group.stable j) (sym e) le))
parts name set w v content told (Append k) r m from to good t st le = part_stays m from to told (told_at k (w.group.stable k) r) (beyond k (w.group.stable k) r m from to (λ e. subst (λ j. to ≤ w.group.stable j) (sym e) le))
parts name set w v content told RiseUp r m from to good t st le = refl

-- ---- the logs on disk

pub drawn-append : (xs ys : List LogRecord) → drawn_in (xs ++ ys) ≡ drawn_in xs ++ drawn_in ys
drawn-append xs ys = filter-append (λ (r : LogRecord). is_drawn r.body) xs ys

-- what stands in one log, and in the others
abbrev HasPart : List Told → ℕ → ℕ → List LogRecord → Type 0
HasPart told m to records = drawn_in records ≡ part_of m 0 to told

one_log : (told more : List Told) (stable : ℕ → ℕ) (logs : ℕ → List LogRecord) (m to : ℕ) (records : List LogRecord) → HasPart more m to records → ((k : ℕ) → (k ≡ m → ⊥) → HasPart more k (stable k) (logs k))
    → HaveParts more (λ k. 0) (put stable m to) (put logs m records)
one_log told more stable logs m to records own others k = elim (cases_eq k m) [
  | inl e ↦ subst (λ j. HasPart more j (put stable m to j) (put logs m records j)) (sym e)
      (subst (λ x. HasPart more m x (put logs m records m)) (sym (put_here stable m to)) (subst (HasPart more m to) (sym (put_here logs m records)) own))
  | inr ne ↦ subst (λ x. HasPart more k x (put logs m records k)) (sym (put_there stable m k to ne)) (subst (HasPart more k (stable k)) (sym (put_there logs m k records ne)) (others k ne))
]

-- an append of what was pending
forces : (told : List Told) (logs : ℕ → List LogRecord) (m s k to : ℕ) (records : List LogRecord) → Fill 0 to (filter (is_of m) told) → s ≤ k → HasPart told m s (logs m) → drawn_in records ≡ part_of m s k told
    → HasPart told m k (logs m ++ records)
forces told logs m s k to records h le old new =
    drawn-append (logs m) records ∙ ap (λ xs. xs ++ drawn_in records) old ∙ ap (λ xs. part_of m 0 s told ++ xs) new ∙ part_join m 0 s k to told h (omega arith) le

-- a record that is drawn and stable at once
stands : (told : List Told) (logs : ℕ → List LogRecord) (m s : ℕ) (r : LogRecord) (records : List LogRecord) → Fill 0 s (filter (is_of m) told) → HasPart told m s (logs m) → drawn_in records ≡ r ∷ []
    → HasPart (told ++ told_at m s r ∷ []) m (s + 1) (logs m ++ records)
stands told logs m s r records h old new =
    drawn-append (logs m) records
    ∙ ap (λ xs. xs ++ drawn_in records) (old ∙ part_ends m 0 s (s + 1) s told h (omega arith) (omega arith) (omega arith))
    ∙ ap (λ xs. part_of m 0 (s + 1) told ++ xs) (new ∙ sym (ap records_of (cond-true (in_part m 0 (s + 1) (told_at m s r)) (told_at m s r ∷ []) [] here)))
    ∙ sym (part_grows m 0 (s + 1) told (told_at m s r))
  where
    here : in_part m 0 (s + 1) (told_at m s r) ≡ true
    here = and_from (m == m) (is_between 0 (s + 1) (told_at m s r)) (eq-eqb m m refl) (between 0 (s + 1) (told_at m s r) (omega arith) (omega arith))

pub quiet : (name : ℕ → PageId) (set : ℕ → ℕ) (w v : World) (e : Move) (r : LogRecord) (content : ℕ → ℕ → List ℕ) (told : List Told) (logs : ℕ → List LogRecord)
    → Good w → LogsTell name w content told logs → Step set w e v → (k : ℕ) → HasPart (told_after w e r told) k (w.group.stable k) (logs k)
quiet name set w v e r content told logs good t st k = t.disk k ∙ sym (parts name set w v content told e r k 0 (w.group.stable k) good t.drawn st (omega arith))

on_disk : (name : ℕ → PageId) (set : ℕ → ℕ) (w v : World) (e : Move) (r : LogRecord) (records : List LogRecord) (content : ℕ → ℕ → List ℕ) (told : List Told) (logs : ℕ → List LogRecord)
    → Good w → LogsTell name w content told logs → Step set w e v → IsAppended w e r records told → HaveParts (told_after w e r told) (λ m. 0) v.group.stable (logs_after e records logs)
on_disk name set w v (At n e) r records content told logs good t st a = subst (λ (z : World). HaveParts told (λ m. 0) z.group.stable logs) (sym st.1.2) t.disk
on_disk name set w v (Draw m touched) r records content told logs good t st a =
    subst (λ (z : World). HaveParts (told_after w (Draw m touched) r told) (λ k. 0) z.group.stable logs) (sym st.2) (quiet name set w v (Draw m touched) r content told logs good t st)
on_disk name set w v (Force m k) r records content told logs good t st a =
    subst (λ (z : World). HaveParts told (λ j. 0) z.group.stable (appended logs m records)) (sym st.3)
    (one_log told told w.group.stable logs m k (logs m ++ records) (forces told logs m (w.group.stable m) k (w.group.written m) records (t.drawn.logs m) st.1 (t.disk m) a) (λ j ne. t.disk j))
on_disk name set w v (TakeSet s m) r records content told logs good t st a = subst (λ (z : World). HaveParts told (λ k. 0) z.group.stable logs) (sym st.3) t.disk
on_disk name set w v (YieldSet s m) r records content told logs good t st a = subst (λ (z : World). HaveParts told (λ k. 0) z.group.stable logs) (sym st.2) t.disk
on_disk name set w v (PurgeSet s m) r records content told logs good t st a = subst (λ (z : World). HaveParts told (λ k. 0) z.group.stable logs) (sym st.2) t.disk
on_disk name set w v Lose r records content told logs good t st a = subst (λ (z : World). HaveParts told (λ k. 0) z.group.stable logs) (sym st.2) t.disk
on_disk name set w v (ReadLog m) r records content told logs good t st a = subst (λ (z : World). HaveParts told (λ k. 0) z.group.stable logs) (sym st.2) t.disk
on_disk name set w v Rebuilt r records content told logs good t st a = subst (λ (z : World). HaveParts told (λ k. 0) z.group.stable logs) (sym st.3) t.disk
on_disk name set w v (Fail m cut) r records content told logs good t st a =
    subst (λ (z : World). HaveParts (told_after w (Fail m cut) r told) (λ k. 0) z.group.stable logs) (sym st.2) (quiet name set w v (Fail m cut) r content told logs good t st)
on_disk name set w v (Restart m) r records content told logs good t st a = subst (λ (z : World). HaveParts told (λ k. 0) z.group.stable logs) (sym st.2) t.disk
on_disk name set w v (Open m) r records content told logs good t st a = subst (λ (z : World). HaveParts told (λ k. 0) z.group.stable logs) (sym st.3) t.disk
on_disk name set w v (GroupFail cut counter) r records content told logs good t st a =
    subst (λ (z : World). HaveParts (told_after w (GroupFail cut counter) r told) (λ k. 0) z.group.stable logs) (sym st.2) (quiet name set w v (GroupFail cut counter) r content told logs good t st)
on_disk name set w v (Forward n k) r records content told logs good t st a = subst (λ (z : World). HaveParts told (λ j. 0) z.group.stable logs) (sym st.3) t.disk
on_disk name set w v (Compensate n m) r records content told logs good t st a =
    subst (λ (z : World). HaveParts (told_after w (Compensate n m) r told) (λ k. 0) z.group.stable (appended logs m records)) (sym st.1)
    (one_log told (told_after w (Compensate n m) r told) w.group.stable logs m (w.group.stable m + 1) (logs m ++ records)
    (stands told logs m (w.group.stable m) r records (subst (λ x. Fill 0 x (filter (is_of m) told)) (t.drawn.level m st.0) (t.drawn.logs m)) (t.disk m) a)
    (λ k ne. quiet name set w v (Compensate n m) r content told logs good t st k))
on_disk name set w v (Append m) r records content told logs good t st a =
    subst (λ (z : World). HaveParts (told_after w (Append m) r told) (λ k. 0) z.group.stable (appended logs m records)) (sym st.1)
    (one_log told (told_after w (Append m) r told) w.group.stable logs m (w.group.stable m + 1) (logs m ++ records)
    (stands told logs m (w.group.stable m) r records (subst (λ x. Fill 0 x (filter (is_of m) told)) (t.drawn.level m st.0) (t.drawn.logs m)) (t.disk m) a)
    (λ k ne. quiet name set w v (Append m) r content told logs good t st k))
on_disk name set w v RiseUp r records content told logs good t st a = subst (λ (z : World). HaveParts told (λ k. 0) z.group.stable logs) (sym st.2) t.disk

pub goes_on : LogsGoOn
goes_on name set w v e r records content after told logs good t st f go a = record {
  drawn = stays name set w v e r content after told good t.drawn st f go;
  disk = on_disk name set w v e r records content told logs good t st a;
}

pub others : OthersStand
others name w content told logs m records t none = record {
  drawn = t.drawn;
  disk = λ k. elim (cases_eq k m) [
    | inl e ↦ subst (λ j. HasPart told j (w.group.stable j) (appended logs m records j)) (sym e)
        (subst (HasPart told m (w.group.stable m)) (sym (put_here logs m (logs m ++ records)))
        (drawn-append (logs m) records ∙ ap (λ xs. drawn_in (logs m) ++ xs) none ∙ append-nil (drawn_in (logs m)) ∙ t.disk m))
    | inr ne ↦ subst (HasPart told k (w.group.stable k)) (sym (put_there logs m k (logs m ++ records) ne)) (t.disk k)
  ];
}

-- ---- an append that was cut short

-- so many records of a part, from its first place on
first_ones : (from to a k : ℕ) (ts : List Told) → Fill from to ts → from ≤ a → filter (is_between a (a + k)) ts ≡ take k (filter (is_between a to) ts)
first_ones from to a zero [] h le = refl
first_ones from to a (suc k) [] h le = refl
first_ones from to a k (t ∷ ts) h le = elim (cases_lt from a) [
  | inl lt ↦
      skips (a + k) lt ∙ first_ones (from + 1) to a k ts h.1 (omega (arith, lt)) ∙ ap (take k) (sym (skips to lt))
  | inr ge ↦
      subst (λ x. filter (is_between x (x + k)) (t ∷ ts) ≡ take k (filter (is_between x to) (t ∷ ts))) (equal le ge)
      (fill_take from to from k (t ∷ ts) h (omega arith) ∙ ap (take k) (sym (fill_all from to from to (t ∷ ts) h (omega arith) (omega arith))))
]
  where
    equal : from ≤ a → a ≤ from → from ≡ a
    equal low high = omega (arith, low, high)

    skips : (b : ℕ) → from < a → filter (is_between a b) (t ∷ ts) ≡ filter (is_between a b) ts
    skips b lt = let at = h.0 in cond-false (is_between a b t) (t ∷ filter (is_between a b) ts) (filter (is_between a b) ts) (before a b t (omega (arith, at, lt)))

part_first : (m from k to : ℕ) (told : List Told) → Fill 0 to (filter (is_of m) told) → part_of m from (from + k) told ≡ take k (part_of m from to told)
part_first m from k to told h =
    part_is m from (from + k) told
    ∙ ap records_of (first_ones 0 to from k (filter (is_of m) told) h (omega arith))
    ∙ sym (take-map (λ (u : Told). u.it) k (filter (is_between from to) (filter (is_of m) told)))
    ∙ ap (take k) (sym (part_is m from to told))

-- a part has as many records as places
part_long : (m from to : ℕ) (told : List Told) → Fill 0 to (filter (is_of m) told) → from ≤ to → from + length (part_of m from to told) ≡ to
part_long m from to told h le = ap (λ (xs : List LogRecord). from + length xs) (part_is m from to told) ∙ ap (λ x. from + x) (length-map (filter (is_between from to) (filter (is_of m) told)) (λ (u : Told). u.it)) ∙ count 0 (filter (is_of m) told) h (omega arith)
  where
    count : (lo : ℕ) (ts : List Told) → Fill lo to ts → lo ≤ from → from + length (filter (is_between from to) ts) ≡ to
    count lo [] k low = omega (arith, k, low, le)
    count lo (t ∷ ts) k low = elim (cases_lt lo from) [
      | inl lt ↦
          ap (λ (us : List Told). from + length us) (cond-false (is_between from to t) (t ∷ filter (is_between from to) ts) (filter (is_between from to) ts) (before from to t (at_first lt))) ∙ count (lo + 1) ts k.1 (omega (arith, lt))
      | inr ge ↦ ap (λ (us : List Told). from + length us) (fill_all lo to from to (t ∷ ts) k ge (omega arith)) ∙ whole ge
    ]
      where
        at_first : lo < from → t.place < from
        at_first lt = let at = k.0 in omega (arith, at, lt)

        whole : from ≤ lo → from + length (t ∷ ts) ≡ to
        whole ge = let up = fill_up lo to (t ∷ ts) k in omega (arith, up, ge, low)

pub fronts : FrontsAreParts
fronts name w content told m front rest good t e = record {
  place = w.group.stable m + length (drawn_in front);
  from = omega arith;
  to = short (length (drawn_in front)) (length (drawn_in rest)) (length (part_of m (w.group.stable m) (w.group.written m) told)) (sym (length-append (drawn_in front) (drawn_in rest)) ∙ ap (λ (xs : List LogRecord). length xs) both)
      (part_long m (w.group.stable m) (w.group.written m) told (t.logs m) (forced_of w good m));
  part = sym (take_at (drawn_in front) (drawn_in rest) (length (drawn_in front)) refl) ∙ ap (take (length (drawn_in front))) both ∙ sym (part_first m (w.group.stable m) (length (drawn_in front)) (w.group.written m) told (t.logs m));
}
  where
    both : drawn_in front ++ drawn_in rest ≡ part_of m (w.group.stable m) (w.group.written m) told
    both = sym (drawn-append front rest) ∙ e

    short : (a b c : ℕ) → a + b ≡ c → w.group.stable m + c ≡ w.group.written m → w.group.stable m + a ≤ w.group.written m
    short a b c x y = omega (arith, x, y)
