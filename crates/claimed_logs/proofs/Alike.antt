-- A log that leaves the same open wherever reading may begin, behind records that are put behind it.
use Rattle.std.proofs.Common.{◌≡◌, ℕ, ◌≤◌, refl, sym, ◌∙◌, ap, subst, arith, Bool, true, false, inl, inr, List, [], ◌∷◌, ◌++◌, append_assoc, length, take}
use Rattle.std.specs.Prelude.{◌≢◌, ◌⊎◌, ◌==◌, ◌&&◌, ◌||◌}
use Rattle.std.specs.List.{AllByRecursion}
use Rattle.std.proofs.lemmas.Bool.{and_parts, cases_Bool, eqb-true, or_cases, or_left, or_right}
use Rattle.std.proofs.lemmas.List.{append-nil, take_all}
use Rattle.std.proofs.lemmas.List.Concat.{flat_map-append}
use Rattle.ds_model.specs.RecordBytes.{IsAllowed, log_bytes, record_bytes}
use Rattle.ds_model.specs.Rows.{Spot}
use Rattle.ds_model.specs.declared.log.Body.{Body}
use Rattle.ds_model.specs.declared.log.Body.TheVariants as body
use Rattle.ds_model.specs.declared.log.LogRecord.{LogRecord}
use Rattle.log_appends.specs.Appends.{AppendsAreWhole, AreBehind, AreLastFrom, LastAreBehind, NoneNames}
use Rattle.log_appends.specs.Rests.{AppendsLeave, LeavesRest}
use Rattle.log_opens.specs.Opens.{OpensAreAll, has_opened}
use Rattle.log_reader.specs.Held.{names}
use Rattle.log_reader.specs.Keeping.{AreWhole}
use Rattle.log_rows.specs.Rows.{BothTell, IsOpenIn, OpenTell, has_changed, is_closed, touches}
use Rattle.log_trans.specs.Courses.{open_trans}
use Rattle.log_trans.specs.declared.opened.OpenTran.{OpenTran}
use Rattle.restart_closing.specs.Closing.{OpensAlike}
use Rattle.failed_logs.specs.Given.{ArePlain, is_checkpoint}
use Rattle.claimed_logs.specs.Commits.{commits_last}
use Rattle.claimed_logs.specs.Courses.{LeavesAlike, StandsAlike}
use Rattle.claimed_logs.specs.Logs.{FrontsAlike}
use Rattle.claimed_logs.proofs.Commits.{both_last, front_last}

pub record Facts : Type 0 where
  pub both : BothTell
  pub tell : OpenTell
  pub all : OpensAreAll
  pub last : LastAreBehind
  pub whole : AppendsAreWhole
  pub leave : AppendsLeave

never : false ≡ true → ⊥
never e = cc

-- ---- what records leave open is open in them
record OpenedIn (records : List LogRecord) (id : ℕ) (spot : Spot) : Type 0 where
  unclosed : is_closed records id ≡ false
  changed : has_changed records id spot ≡ true

opened_in : (records : List LogRecord) (id : ℕ) (spot : Spot) (ts : List OpenTran) → AllByRecursion (IsOpenIn records) ts → has_opened ts id spot ≡ true → OpenedIn records id spot
opened_in records id spot [] h e = absurd (never e)
opened_in records id spot (t ∷ ts) h e = by (opened_in records id spot ts h.1) (or_cases ((t.id == id) && touches t spot) (has_opened ts id spot) e)
  where
    by : (has_opened ts id spot ≡ true → OpenedIn records id spot) → (((t.id == id) && touches t spot) ≡ true) ⊎ (has_opened ts id spot ≡ true) → OpenedIn records id spot
    by rest (inl m) =
        let p = and_parts (t.id == id) (touches t spot) m in
        let same : t.id ≡ id = eqb-true t.id id p.0 in
        record { unclosed = subst (λ (z : ℕ). is_closed records z ≡ false) same h.0.unclosed; changed = subst (λ (z : ℕ). has_changed records z spot ≡ true) same (h.0.changed spot p.1) }
    by rest (inr x) = rest x

neither : (a b : Bool) → a ≡ false → b ≡ false → (a || b) ≡ false
neither true b p q = absurd (never (sym p))
neither false b p q = q

-- ---- lists of records
split_front : (xs ys front rest : List LogRecord) → xs ++ ys ≡ front ++ rest → ((r : List LogRecord) × (xs ≡ front ++ r)) ⊎ ((f : List LogRecord) × (front ≡ xs ++ f) × (ys ≡ f ++ rest))
split_front [] ys front rest e = inr (front, refl, e)
split_front (x ∷ xs) ys [] rest e = inl (x ∷ xs, refl)
split_front (x ∷ xs) ys (z ∷ front) rest e = by (split_front xs ys front rest tails)
  where
    heads : x ≡ z
    heads = cc

    tails : xs ++ ys ≡ front ++ rest
    tails = cc

    by : ((r : List LogRecord) × (xs ≡ front ++ r)) ⊎ ((f : List LogRecord) × (front ≡ xs ++ f) × (ys ≡ f ++ rest))
        → ((r : List LogRecord) × (x ∷ xs ≡ (z ∷ front) ++ r)) ⊎ ((f : List LogRecord) × (z ∷ front ≡ (x ∷ xs) ++ f) × (ys ≡ f ++ rest))
    by (inl (r, is)) = inl (r, ap (λ (q : LogRecord). q ∷ xs) heads ∙ ap (λ (q : List LogRecord). z ∷ q) is)
    by (inr (f, is, rests)) = inr (f, ap (λ (q : LogRecord). q ∷ front) (sym heads) ∙ ap (λ (q : List LogRecord). x ∷ q) is, rests)

front_all : (P : LogRecord → Type 0) (xs ys : List LogRecord) → AllByRecursion P (xs ++ ys) → AllByRecursion P xs
front_all P [] ys h = tt
front_all P (x ∷ xs) ys h = (h.0, front_all P xs ys h.1)

front_none : (front rest : List LogRecord) → [] ≡ front ++ rest → front ≡ []
front_none [] rest e = refl
front_none (x ∷ front) rest e = absurd cc

plain_names : (place : ℕ) (b : Body) → is_checkpoint b ≡ false → names place b ≡ false
plain_names place (body.RowChange c) e = refl
plain_names place (body.Compensation c undone) e = refl
plain_names place (body.System patches) e = refl
plain_names place body.Commit e = refl
plain_names place body.Ended e = refl
plain_names place (body.Checkpoint offset) e = absurd cc
plain_names place body.RestartEnd e = refl

pub none_names : (records : List LogRecord) → ArePlain records → NoneNames records
none_names [] plain place = tt
none_names (r ∷ rs) plain place = (plain_names place r.body plain.0, none_names rs plain.1 place)

-- last records of a log behind which these are
pub record Back (log : List ℕ) (new : List LogRecord) (start : ℕ) (records : List LogRecord) : Type 0 where
  pub back : List LogRecord
  pub are : records ≡ back ++ new
  pub last : AreLastFrom log start back

module _ (facts : Facts) where
  -- ---- two readings of a log, behind which the same records stand
  still_open : (records new : List LogRecord) (id : ℕ) (spot : Spot) → id ≢ 0 → is_closed records id ≡ false → is_closed new id ≡ false → has_changed (records ++ new) id spot ≡ true → has_opened (open_trans (records ++ new)) id spot ≡ true
  still_open records new id spot some before behind changed = facts.all (records ++ new) id spot some changed (facts.both.closed records new id ∙ neither (is_closed records id) (is_closed new id) before behind)

  opens_more : (back other new : List LogRecord) → ((id : ℕ) (spot : Spot) → id ≢ 0 → has_changed new id spot ≡ true → is_closed back id ≡ false)
      → ((id : ℕ) (spot : Spot) → id ≢ 0 → has_changed other id spot ≡ true → (is_closed other id ≡ true) ⊎ (has_opened (open_trans back) id spot ≡ true))
      → (id : ℕ) (spot : Spot) → id ≢ 0 → has_changed (other ++ new) id spot ≡ true → (is_closed (other ++ new) id ≡ true) ⊎ (has_opened (open_trans (back ++ new)) id spot ≡ true)
  opens_more back other new unclosed alike id spot some changed = elim (cases_Bool (is_closed new id)) [
    | inl closed ↦ inl (facts.both.closed other new id ∙ or_right (is_closed other id) (is_closed new id) closed)
    | inr open_still ↦ by open_still (or_cases (has_changed other id spot) (has_changed new id spot) (sym (facts.both.changed other new id spot) ∙ changed))
  ]
    where
      by : is_closed new id ≡ false → (has_changed other id spot ≡ true) ⊎ (has_changed new id spot ≡ true) → (is_closed (other ++ new) id ≡ true) ⊎ (has_opened (open_trans (back ++ new)) id spot ≡ true)
      by none (inr e) = inr (still_open back new id spot some (unclosed id spot some e) none (facts.both.changed back new id spot ∙ or_right (has_changed back id spot) (has_changed new id spot) e))
      by none (inl e) = was (alike id spot some e)
        where
          was : (is_closed other id ≡ true) ⊎ (has_opened (open_trans back) id spot ≡ true) → (is_closed (other ++ new) id ≡ true) ⊎ (has_opened (open_trans (back ++ new)) id spot ≡ true)
          was (inl closed) = inl (facts.both.closed other new id ∙ or_left (is_closed other id) (is_closed new id) closed)
          was (inr opened) =
              let there : OpenedIn back id spot = opened_in back id spot (open_trans back) (facts.tell back) opened in
              inr (still_open back new id spot some there.unclosed none (facts.both.changed back new id spot ∙ or_left (has_changed back id spot) (has_changed new id spot) there.changed))

  -- ---- a log
  pub back_of : (log : List ℕ) (new : List LogRecord) (start : ℕ) (records : List LogRecord) → AreWhole log → AllByRecursion IsAllowed new → NoneNames new → AreLastFrom (log ++ log_bytes new) start records → Back log new start records
  back_of log new start records whole allowed none last = record { back = are.back; are = are.are ∙ ap (λ (z : List LogRecord). are.back ++ z) (are.all (omega arith)); last = are.last }
    where
      are : AreBehind log new (length (log_bytes new)) start records
      are = facts.last log new (length (log_bytes new)) start records whole allowed none (subst (λ (z : List ℕ). AreLastFrom (log ++ z) start records) (sym (take_all (length (log_bytes new)) (log_bytes new) (omega arith))) last)

  -- so it is behind records of which none changes a row for a transaction that the log closes
  opens_behind : (log : List ℕ) (new : List LogRecord) → AreWhole log → AllByRecursion IsAllowed new → NoneNames new
      → ((start : ℕ) (back : List LogRecord) → AreLastFrom log start back → (id : ℕ) (spot : Spot) → id ≢ 0 → has_changed new id spot ≡ true → is_closed back id ≡ false)
      → OpensAlike log → OpensAlike (log ++ log_bytes new)
  opens_behind log new whole allowed none unclosed alike start records last begin others also id spot some changed =
      subst (λ (z : List LogRecord). (is_closed others id ≡ true) ⊎ (has_opened (open_trans z) id spot ≡ true)) (sym one.are)
      (subst (λ (z : List LogRecord). (is_closed z id ≡ true) ⊎ (has_opened (open_trans (one.back ++ new)) id spot ≡ true)) (sym two.are)
      (opens_more one.back two.back new (unclosed start one.back one.last) (alike start one.back one.last begin two.back two.last) id spot some
      (subst (λ (z : List LogRecord). has_changed z id spot ≡ true) two.are changed)))
    where
      one : Back log new start records
      one = back_of log new start records whole allowed none last

      two : Back log new begin others
      two = back_of log new begin others whole allowed none also

  pub alike_more : (log : List ℕ) (new : List LogRecord) → AreWhole log → AllByRecursion IsAllowed new → NoneNames new → commits_last new ≡ true
      → ((start : ℕ) (back : List LogRecord) → AreLastFrom log start back → (id : ℕ) (spot : Spot) → id ≢ 0 → has_changed new id spot ≡ true → is_closed back id ≡ false)
      → StandsAlike log → StandsAlike (log ++ log_bytes new)
  alike_more log new whole allowed none ordered unclosed alike = record {
    opens = opens_behind log new whole allowed none unclosed alike.opens;
    commits = λ start records last.
        let one : Back log new start records = back_of log new start records whole allowed none last in
        subst (λ (z : List LogRecord). commits_last z ≡ true) (sym one.are) (both_last one.back new allowed (unclosed start one.back one.last) (alike.commits start one.back one.last) ordered);
  }

  -- ---- whatever front of the log buffer is behind it
  pub fronts_begin : (log : List ℕ) → StandsAlike log → FrontsAlike log []
  fronts_begin log alike front rest e = subst (λ (z : List LogRecord). StandsAlike (log ++ log_bytes z)) (sym (front_none front rest e)) (subst StandsAlike (sym (append-nil log)) alike)

  pub fronts_forced : (log : List ℕ) (pend : List LogRecord) → FrontsAlike log pend → FrontsAlike (log ++ log_bytes pend) []
  fronts_forced log pend alike = fronts_begin (log ++ log_bytes pend) (alike pend [] (sym (append-nil pend)))

  pub fronts_more : (log : List ℕ) (pend new : List LogRecord) → AreWhole log → AllByRecursion IsAllowed pend → AllByRecursion IsAllowed new → ArePlain pend → ArePlain new → commits_last new ≡ true
      → ((start : ℕ) (back : List LogRecord) → AreLastFrom log start back → (id : ℕ) (spot : Spot) → id ≢ 0 → has_changed new id spot ≡ true → is_closed (back ++ pend) id ≡ false)
      → FrontsAlike log pend → FrontsAlike log (pend ++ new)
  fronts_more log pend new whole allowed fresh plain clear ordered unclosed alike front rest e = by (split_front pend new front rest e)
    where
      behind : (f : List LogRecord) → new ≡ f ++ rest → StandsAlike ((log ++ log_bytes pend) ++ log_bytes f)
      behind f is = alike_more (log ++ log_bytes pend) f (facts.whole log pend whole allowed) (front_all IsAllowed f rest (subst (λ (z : List LogRecord). AllByRecursion IsAllowed z) is fresh))
          (none_names f (front_all (λ (r : LogRecord). is_checkpoint r.body ≡ false) f rest (subst ArePlain is clear))) (front_last f rest (subst (λ (z : List LogRecord). commits_last z ≡ true) is ordered)) unclosed_f (alike pend [] (sym (append-nil pend)))
        where
          unclosed_f : (start : ℕ) (back : List LogRecord) → AreLastFrom (log ++ log_bytes pend) start back → (id : ℕ) (spot : Spot) → id ≢ 0 → has_changed f id spot ≡ true → is_closed back id ≡ false
          unclosed_f start back last id spot some changed =
              let one : Back log pend start back = back_of log pend start back whole allowed (none_names pend plain) last in
              subst (λ (z : List LogRecord). is_closed z id ≡ false) (sym one.are)
              (unclosed start one.back one.last id spot some
              (subst (λ (z : List LogRecord). has_changed z id spot ≡ true) (sym is) (facts.both.changed f rest id spot ∙ or_left (has_changed f id spot) (has_changed rest id spot) changed)))

      by : ((r : List LogRecord) × (pend ≡ front ++ r)) ⊎ ((f : List LogRecord) × (front ≡ pend ++ f) × (new ≡ f ++ rest)) → StandsAlike (log ++ log_bytes front)
      by (inl (r, is)) = alike front r is
      by (inr (f, is, rests)) = subst (λ (z : List LogRecord). StandsAlike (log ++ log_bytes z)) (sym is)
          (subst (λ (z : List ℕ). StandsAlike (log ++ z)) (sym (flat_map-append record_bytes pend f)) (subst StandsAlike (append_assoc log (log_bytes pend) (log_bytes f)) (behind f rests)))

  -- ---- what is left of such a log where so many bytes of the records are behind it
  pub leaves_front : (log : List ℕ) (pend : List LogRecord) (n : ℕ) → AreWhole log → AllByRecursion IsAllowed pend → FrontsAlike log pend → LeavesAlike (log ++ take n (log_bytes pend))
  leaves_front log pend n whole allowed alike = record {
    whole = log ++ log_bytes left.front;
    rest = left.rest;
    is = ap (λ (z : List ℕ). log ++ z) left.bytes ∙ sym (append_assoc log (log_bytes left.front) left.rest);
    are = facts.whole log left.front whole (front_all IsAllowed left.front left.left (subst (λ (z : List LogRecord). AllByRecursion IsAllowed z) left.split allowed));
    is_rest = left.is_rest;
    alike = alike left.front left.left left.split;
  }
    where
      left : LeavesRest pend n
      left = facts.leave pend n allowed
