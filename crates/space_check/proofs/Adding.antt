-- What is told of the tables of one range more.
use Rattle.std.proofs.Common.{◌≡◌, ℕ, ◌+◌, ◌-◌, ◌*◌, ◌<◌, ◌≤◌, Bool, true, false, List, [], Option, Some, None, Result, Ok, Err, inl, inr, refl, sym, ap, subst, ◌∙◌, arith}
use Rattle.std.specs.Prelude.{◌⊎◌, nat_le, ◌&&◌, ◌||◌, IfOk}
use Rattle.std.proofs.lemmas.Bool.Decides.{nat_tests}
use Rattle.ds_base.specs.Ids.{IsTable}
use Rattle.ds_base.specs.Pages.{heap_set, index_set}
use Rattle.ds_base.specs.declared.names.PageId.{PageId}
use Rattle.ds_disk.specs.Contents.{Contents, WhenTold, Becomes, Same}
use Rattle.ds_disk.specs.Pages.{page_at}
use Rattle.ds_model.specs.declared.log.LogRecord.{LogRecord}
use Rattle.page_images.specs.Images.{Images}
use Rattle.page_chain.specs.Chains.{images_of}
use Rattle.sound_disk.specs.Tables.{IsWholeTable}
use Rattle.sound_disk.specs.Versions.{merged}
use Rattle.disk_walk.proofs.Reading.{told_before, told_all, told_by, told_by_both}
use Rattle.disk_versions.specs.Met.{AreMet}
use Rattle.disk_versions.specs.Ranged.{sets_before, sets_up_to, IsRangeTold as ArePlacedIn, NoneUnplaced}
use Rattle.disk_versions.specs.Placing.{AreInSets, IsFirstInSets}
use Rattle.disk_versions.specs.Told.{page_sets}
use Rattle.disk_versions.specs.declared.set.Placing.{Placing}
use Rattle.disk_versions.specs.declared.set.Placing.TheVariants as placing
use Rattle.index_places.specs.Whole.{IsFirstUnwhole, IsFirstUnwholeOf, IsRangeTold}
use Rattle.redone_pages.specs.declared.range.TableRange.{TableRange}
use Rattle.redone_pages.specs.Redone.{Redone}
use Rattle.redone_pages.specs.Ranges.{has_table, has_page}
use Rattle.stood_rows.specs.declared.unstood.Unstood.{Unstood}
use Rattle.stood_rows.specs.Found.{AreFound, sooner}
use Rattle.stood_rows.specs.Laws.{NoneAreFound, BothAreFound}
use Rattle.row_turns.specs.declared.told.Told.{Told}
use Rattle.row_turns.specs.Ranges.{AreApart}
use Rattle.row_turns.specs.Orders.{AreOrderly}
use Rattle.row_turns.specs.Scans.{AreTurnsTold, IsTurning}
use Rattle.heap_rows.specs.Left.{AreRowsOf}
use Rattle.space_check.specs.declared.scan.TableScan.{TableScan}
use Rattle.space_check.specs.declared.told.TablesTold.{TablesTold}
use Rattle.space_check.specs.declared.told.RangeFound.{RangeFound}
use Rattle.space_check.specs.declared.told.RangeFound.TheVariants as found
use Rattle.space_check.specs.Scans.{IsScan, IsScanned, IsScanOf}
use Rattle.space_check.specs.Tables.{AreWholeUpTo, AreStoodUpTo, AreTurnsUpTo, AreTablesTold, IsNothingTold, AddsScan, TellsMore, TellsRange, TellsUpTo, IsAllTold, TellsAll}

pub decide : (b : Bool) (P : Type 0) → (b ≡ true → P) → (b ≡ false → P) → P
decide true P f g = f refl
decide false P f g = g refl

le_of : (m n : ℕ) → nat_le m n ≡ true → m ≤ n
le_of m n h = grind (arith, nat_tests)

above : (m n : ℕ) → nat_le m n ≡ false → n < m
above m n h = grind (arith, nat_tests)

is_le : (m n : ℕ) → m ≤ n → nat_le m n ≡ true
is_le m n h = grind (arith, nat_tests)

and_both : (a b : Bool) → a ≡ true → b ≡ true → (a && b) ≡ true
and_both true b h k = k
and_both false b h k = h

and_left : (a b : Bool) → (a && b) ≡ true → a ≡ true
and_left true b h = refl
and_left false b h = h

and_right : (a b : Bool) → (a && b) ≡ true → b ≡ true
and_right true b h = h
and_right false b h = absurd cc

or_first : (a b : Bool) → a ≡ true → (a || b) ≡ true
or_first true b h = refl
or_first false b h = absurd cc

or_second : (a b : Bool) → b ≡ true → (a || b) ≡ true
or_second true b h = refl
or_second false b h = h

or_either : (a b : Bool) → (a || b) ≡ true → (a ≡ true) ⊎ (b ≡ true)
or_either true b h = inl refl
or_either false b h = inr h

-- ---- the ranges

-- a page set behind those of the first tables, up to the last of the range, is one of the range
set_in : (range : TableRange) (n set : ℕ) → range.first ≡ n + 1 → nat_le set (2 * n) ≡ false → set ≤ 2 * range.last → (nat_le (heap_set range.first) set && nat_le set (index_set range.last)) ≡ true
set_in range n set first up to =
    let behind : 2 * n < set = above set (2 * n) up in
    and_both (nat_le (heap_set range.first) set) (nat_le set (index_set range.last)) (is_le (heap_set range.first) set (omega (arith, first, behind))) (is_le set (index_set range.last) to)

table_in : (range : TableRange) (n table : ℕ) → range.first ≡ n + 1 → nat_le table n ≡ false → table ≤ range.last → has_table range table ≡ true
table_in range n table first up to =
    let behind : n < table = above table n up in
    and_both (nat_le range.first table) (nat_le table range.last) (is_le range.first table (omega (arith, first, behind))) (is_le table range.last to)

before_sets : (range : TableRange) (n : ℕ) → range.first ≡ n + 1 → 2 * n ≡ sets_before range
before_sets range n first = omega (arith, first)

-- ---- nothing is told yet

none_stood : NoneAreFound → (records : List LogRecord) → AreStoodUpTo records 0 None
none_stood law records = record { has = λ id. false; passes = λ id from to. absurd (omega (arith, from, to)); found = law records }

none_turned : (records : List LogRecord) (t : Told) → AreTurnsTold (λ table. false) records t → AreTurnsUpTo records 0 t
none_turned records t told = record { has = λ table. false; passes = λ k from to. absurd (omega (arith, from, to)); only = λ k h. absurd cc; told = told }

pub nothing : NoneUnplaced → NoneAreFound → (t : TablesTold) → t.pages ≡ 0 → t.unwhole ≡ None → t.unstood ≡ None → ((records : List LogRecord) → AreTurnsTold (λ table. false) records t.turns) → IsNothingTold t
nothing placed stood t pages unwhole unstood turns = λ at records renews behind. record {
  placed = subst (λ (n : ℕ). AreInSets at records renews behind 0 n) (sym pages) (placed at records renews behind);
  whole = subst (λ (o : Option PageId). AreWholeUpTo (images_of records) records 0 o) (sym unwhole) (λ k from to. absurd (omega (arith, from, to)));
  stood = subst (λ (o : Option Unstood). AreStoodUpTo records 0 o) (sym unstood) (none_stood stood records);
  turns = none_turned records t.turns (turns records);
}

-- ---- tables that are whole

whole_on : (at : Images) (records : List LogRecord) (n : ℕ) (range : TableRange) (found : Option PageId) → range.first ≡ n + 1 → AreWholeUpTo at records n None → IsRangeTold at records range found → AreWholeUpTo at records range.last found
whole_on at records n range None first before told = λ k from to.
    decide (nat_le k n) (IsWholeTable at records k)
    (λ e. before k from (le_of k n e))
    (λ e. let up = above k n e in told k (omega (arith, up, first), to))
whole_on at records n range (Some id) first before told = record {
  table = told.table;
  is_table = told.is_table;
  unwhole = told.unwhole;
  before = λ k from to.
      decide (nat_le k n) (IsWholeTable at records k)
      (λ e. before k from (le_of k n e))
      (λ e. let up = above k n e in told.before k (omega (arith, up, first)) to);
  page = told.page;
}

pub whole_more : (at : Images) (records : List LogRecord) (n : ℕ) (range : TableRange) (old found : Option PageId) → range.first ≡ n + 1 → old ≡ None → IsRangeTold at records range found → AreWholeUpTo at records n old → AreWholeUpTo at records range.last found
whole_more at records n range old found first none told before = whole_on at records n range found first (subst (λ (o : Option PageId). AreWholeUpTo at records n o) none before) told

pub unwhole_stays : (at : Images) (records : List LogRecord) (n m : ℕ) (old : Option PageId) (id : PageId) → old ≡ Some id → AreWholeUpTo at records n old → AreWholeUpTo at records m (Some id)
unwhole_stays at records n m old id is before = subst (λ (o : Option PageId). AreWholeUpTo at records n o) is before

-- ---- changes that stood

pub stood_more : BothAreFound → (records : List LogRecord) (n : ℕ) (range : TableRange) (old first_in : Option Unstood) → range.first ≡ n + 1 → AreFound (has_page range) records first_in → AreStoodUpTo records n old → AreStoodUpTo records range.last (sooner old first_in)
stood_more law records n range old first_in first told before = record {
  has = λ id. before.has id || has_page range id;
  passes = λ id from to.
      decide (nat_le id.set (2 * n)) ((before.has id || has_page range id) ≡ true)
      (λ e. or_first (before.has id) (has_page range id) (before.passes id from (le_of id.set (2 * n) e)))
      (λ e. or_second (before.has id) (has_page range id) (set_in range n id.set first e to));
  found = law before.has (has_page range) records old first_in before.found told;
}

-- ---- changes in turn

apart_from : (range : TableRange) (n : ℕ) (has : ℕ → Bool) → range.first ≡ n + 1 → ((k : ℕ) → has k ≡ true → k ≤ n) → AreApart has (has_table range)
apart_from range n has first only = λ k h.
    decide (has_table range k) (has_table range k ≡ false)
    (λ e.
    let low : k ≤ n = only k h in
    let up : range.first ≤ k = le_of range.first k (and_left (nat_le range.first k) (nat_le k range.last) e) in
    absurd (omega (arith, first, low, up)))
    (λ e. e)

pub turns_more : (records : List LogRecord) (n : ℕ) (range : TableRange) (old one both : Told) → range.first ≡ n + 1 → range.first ≤ range.last
    → ((p q : ℕ → Bool) (rs : List LogRecord) → AreApart p q → AreTurnsTold p rs old → AreTurnsTold q rs one → AreTurnsTold (λ table. p table || q table) rs both)
    → AreTurnsTold (has_table range) records one → AreTurnsUpTo records n old → AreTurnsUpTo records range.last both
turns_more records n range old one both first some law told before = record {
  has = λ k. before.has k || has_table range k;
  passes = λ k from to.
      decide (nat_le k n) ((before.has k || has_table range k) ≡ true)
      (λ e. or_first (before.has k) (has_table range k) (before.passes k from (le_of k n e)))
      (λ e. or_second (before.has k) (has_table range k) (table_in range n k first e to));
  only = λ k h. elim (or_either (before.has k) (has_table range k) h) [
    | inl e ↦ (let low = before.only k e in omega (arith, first, some, low))
    | inr e ↦ (le_of k range.last (and_right (nat_le range.first k) (nat_le k range.last) e))
  ];
  told = law before.has (has_table range) records (apart_from range n before.has first before.only) before.told told;
}

-- ---- a range

abbrev InSetsUpTo : Images → List LogRecord → Bool → ℕ → ℕ → ℕ → Type 0
InSetsUpTo at records renews behind sets pages = AreInSets at records renews behind sets pages

told_more : (at : Images) (records : List LogRecord) (renews : Bool) (behind n : ℕ) (range : TableRange) (early : Bool) (more : ℕ) (made : Redone) (old new : TablesTold) → range.first ≡ n + 1 → made.records ≡ records → made.range ≡ range
    → ArePlacedIn at made renews behind (placing.All more) → AreOrderly early [] records → AddsScan range early records more old new → AreTablesTold at records renews behind n old → AreTablesTold at records renews behind range.last new
told_more at records renews behind n range early more made old new first records_are range_is placed orderly adds before = record {
  placed =
      subst (λ (m : ℕ). AreInSets at records renews behind (2 * range.last) m) (sym adds.pages_are)
      (subst (λ (r : TableRange). AreInSets at records renews behind (sets_up_to r) (old.pages + more)) range_is
      (subst (λ (rs : List LogRecord). AreInSets at rs renews behind (sets_up_to made.range) (old.pages + more)) records_are
      (placed old.pages
      (subst (λ (r : TableRange). AreInSets at made.records renews behind (sets_before r) old.pages) (sym range_is)
      (subst (λ (s : ℕ). AreInSets at made.records renews behind s old.pages) (before_sets range n first)
      (subst (λ (rs : List LogRecord). AreInSets at rs renews behind (2 * n) old.pages) (sym records_are) before.placed))))));
  whole = adds.whole n first before.whole;
  stood = adds.stood n first before.stood;
  turns = adds.turns n first orderly before.turns;
}

told_wrong : (at : Images) (records : List LogRecord) (renews : Bool) (behind n : ℕ) (range : TableRange) (id : PageId) (made : Redone) (old : TablesTold) → range.first ≡ n + 1 → made.records ≡ records → made.range ≡ range
    → ArePlacedIn at made renews behind (placing.Unplaced id) → AreTablesTold at records renews behind n old → IsFirstInSets at records renews behind page_sets id
told_wrong at records renews behind n range id made old first records_are range_is placed before =
    subst (λ (rs : List LogRecord). IsFirstInSets at rs renews behind page_sets id) records_are
    (placed old.pages
    (subst (λ (r : TableRange). AreInSets at made.records renews behind (sets_before r) old.pages) (sym range_is)
    (subst (λ (s : ℕ). AreInSets at made.records renews behind s old.pages) (before_sets range n first)
    (subst (λ (rs : List LogRecord). AreInSets at rs renews behind (2 * n) old.pages) (sym records_are) before.placed))))

-- ---- over what the disk told

abbrev PlacedAt : Redone → Bool → ℕ → Placing → Contents → Type 0
PlacedAt made renews behind found c = ArePlacedIn (page_at c.pages) made renews behind found

abbrev pub MetAt : TableScan → Bool → ℕ → Placing → Contents → Type 0
MetAt s renews behind placed c = AreMet (page_at c.pages) s.met → ArePlacedIn (page_at c.pages) s.met.made renews behind placed

pub range_told : (a b : Option Contents) (early : Bool) (ends : List ℕ) (renews : Bool) (behind : ℕ) (range : TableRange) (s : TableScan) (placed : Placing) (more : ℕ) (old new : TablesTold) → placed ≡ placing.All more → s.met.made.range ≡ range
    → AddsScan range early s.met.made.records more old new → WhenTold a (IsScanOf ends s) → Becomes a b Same → WhenTold b (MetAt s renews behind placed) → WhenTold a (TellsRange early ends renews behind range old (found.Told new))
range_told a b early ends renews behind range s placed more old new is range_is adds scanned same met =
    told_by_both a (IsScanOf ends s) (MetAt s renews behind placed) (TellsRange early ends renews behind range old (found.Told new))
    (λ c scan in_sets logs whole ends_are orderly n first before.
    let it = scan logs whole ends_are in
    told_more (page_at c.pages) (merged logs) renews behind n range early more s.met.made old new first it.records_are range_is
    (subst (λ (p : Placing). ArePlacedIn (page_at c.pages) s.met.made renews behind p) is (in_sets it.met)) orderly
    (subst (λ (rs : List LogRecord). AddsScan range early rs more old new) it.records_are adds) before)
    scanned (told_before a b (MetAt s renews behind placed) same met)

pub range_wrong : (a b : Option Contents) (early : Bool) (ends : List ℕ) (renews : Bool) (behind : ℕ) (range : TableRange) (s : TableScan) (placed : Placing) (id : PageId) (old : TablesTold) → placed ≡ placing.Unplaced id → s.met.made.range ≡ range
    → WhenTold a (IsScanOf ends s) → Becomes a b Same → WhenTold b (MetAt s renews behind placed) → WhenTold a (TellsRange early ends renews behind range old (found.Unplaced id))
range_wrong a b early ends renews behind range s placed id old is range_is scanned same met =
    told_by_both a (IsScanOf ends s) (MetAt s renews behind placed) (TellsRange early ends renews behind range old (found.Unplaced id))
    (λ c scan in_sets logs whole ends_are orderly n first before.
    let it = scan logs whole ends_are in
    told_wrong (page_at c.pages) (merged logs) renews behind n range id s.met.made old first it.records_are range_is
    (subst (λ (p : Placing). ArePlacedIn (page_at c.pages) s.met.made renews behind p) is (in_sets it.met)) before)
    scanned (told_before a b (MetAt s renews behind placed) same met)

-- ---- all ranges

pub start_told : (a : Option Contents) (early : Bool) (ends : List ℕ) (renews : Bool) (behind : ℕ) (t : TablesTold) → IsNothingTold t → WhenTold a (TellsUpTo early ends renews behind 0 t)
start_told a early ends renews behind t none = told_all a (TellsUpTo early ends renews behind 0 t) (λ c logs whole ends_are orderly. none (page_at c.pages) (merged logs) renews behind)

pub more_told : (a b : Option Contents) (early : Bool) (ends : List ℕ) (renews : Bool) (behind n last : ℕ) (range : TableRange) (old new : TablesTold) (its : RangeFound) → range.first ≡ n + 1 → last ≡ range.last → its ≡ found.Told new
    → WhenTold a (TellsUpTo early ends renews behind n old) → Becomes a b Same → WhenTold b (TellsRange early ends renews behind range old its) → WhenTold a (TellsUpTo early ends renews behind last new)
more_told a b early ends renews behind n last range old new its first last_is is before same told =
    told_by_both a (TellsUpTo early ends renews behind n old) (TellsRange early ends renews behind range old its) (TellsUpTo early ends renews behind last new)
    (λ c up_to more logs whole ends_are orderly.
    subst (λ (k : ℕ). AreTablesTold (page_at c.pages) (merged logs) renews behind k new) (sym last_is)
    (subst (λ (f : RangeFound). TellsMore (page_at c.pages) (merged logs) renews behind range old f) is (more logs whole ends_are orderly) n first (up_to logs whole ends_are orderly)))
    before (told_before a b (TellsRange early ends renews behind range old its) same told)

pub wrong_told : (a b : Option Contents) (early : Bool) (ends : List ℕ) (renews : Bool) (behind n : ℕ) (range : TableRange) (old : TablesTold) (id : PageId) (its : RangeFound) → range.first ≡ n + 1 → its ≡ found.Unplaced id
    → WhenTold a (TellsUpTo early ends renews behind n old) → Becomes a b Same → WhenTold b (TellsRange early ends renews behind range old its) → WhenTold a (TellsAll early ends renews behind (found.Unplaced id))
wrong_told a b early ends renews behind n range old id its first is before same told =
    told_by_both a (TellsUpTo early ends renews behind n old) (TellsRange early ends renews behind range old its) (TellsAll early ends renews behind (found.Unplaced id))
    (λ c up_to more logs whole ends_are orderly.
    subst (λ (f : RangeFound). TellsMore (page_at c.pages) (merged logs) renews behind range old f) is (more logs whole ends_are orderly) n first (up_to logs whole ends_are orderly))
    before (told_before a b (TellsRange early ends renews behind range old its) same told)

pub all_told : (a : Option Contents) (early : Bool) (ends : List ℕ) (renews : Bool) (behind n : ℕ) (t : TablesTold) → n ≡ 64 → WhenTold a (TellsUpTo early ends renews behind n t) → WhenTold a (TellsAll early ends renews behind (found.Told t))
all_told a early ends renews behind n t is told = subst (λ (k : ℕ). WhenTold a (TellsUpTo early ends renews behind k t)) is told

-- ---- from a scan

pub rows_of_scan : (range : TableRange) (early : Bool) (s : TableScan) → IsScan range early s → AreRowsOf (has_table s.met.made.range) s.met.made.records s.standing.rows.rows
rows_of_scan range early s is = subst (λ (r : TableRange). AreRowsOf (has_table r) s.met.made.records s.standing.rows.rows) (is.rows_of ∙ sym is.range_is) is.standing.left

pub whole_found : {E : Type 0} (s : TableScan) (before : Option PageId) (result : Result (Option PageId) E) → before ≡ None → IfOk result (λ x. IsRangeTold (images_of s.met.made.records) s.met.made.records s.met.made.range x)
    → IfOk result (λ x. (n : ℕ) → s.met.made.range.first ≡ n + 1 → AreWholeUpTo (images_of s.met.made.records) s.met.made.records n before → AreWholeUpTo (images_of s.met.made.records) s.met.made.records s.met.made.range.last x)
whole_found s before (Ok x) none told = λ n first held. whole_more (images_of s.met.made.records) s.met.made.records n s.met.made.range before x first none told held
whole_found s before (Err e) none told = tt

pub stood_of_scan : BothAreFound → (range : TableRange) (early : Bool) (s : TableScan) (n : ℕ) (old both : Option Unstood) → both ≡ sooner old s.standing.first → range.first ≡ n + 1 → IsScan range early s → AreStoodUpTo s.met.made.records n old → AreStoodUpTo s.met.made.records range.last both
stood_of_scan law range early s n old both is first scan before =
    subst (λ (o : Option Unstood). AreStoodUpTo s.met.made.records range.last o) (sym is)
    (stood_more law s.met.made.records n range old s.standing.first first
    (subst (λ (r : TableRange). AreFound (has_page r) s.met.made.records s.standing.first) scan.rows_of scan.standing.found) before)

pub turns_of_scan : (range : TableRange) (s : TableScan) (n : ℕ) (old one both : Told) → range.first ≡ n + 1 → range.first ≤ range.last → IsScan range s.turns.is_early s
    → ((rs : List LogRecord) → IsTurning rs s.turns → AreOrderly s.turns.is_early [] rs → AreTurnsTold (has_table s.turns.range) rs one)
    → ((p q : ℕ → Bool) (rs : List LogRecord) → AreApart p q → AreTurnsTold p rs old → AreTurnsTold q rs one → AreTurnsTold (λ table. p table || q table) rs both)
    → AreOrderly s.turns.is_early [] s.met.made.records → AreTurnsUpTo s.met.made.records n old → AreTurnsUpTo s.met.made.records range.last both
turns_of_scan range s n old one both first some scan tells adds orderly before =
    turns_more s.met.made.records n range old one both first some adds
    (subst (λ (r : TableRange). AreTurnsTold (has_table r) s.met.made.records one) scan.turns_of (tells s.met.made.records scan.turns orderly)) before

-- a scan by its own range
pub scan_itself : (range : TableRange) (early : Bool) (s : TableScan) → IsScan range early s → IsScan s.met.made.range s.turns.is_early s
scan_itself range early s is = subst (λ (b : Bool). IsScan s.met.made.range b s) (sym is.early_is) (subst (λ (r : TableRange). IsScan r early s) (sym is.range_is) is)

pub adds_early : (range : TableRange) (early : Bool) (s : TableScan) (pages : ℕ) (old new : TablesTold) → IsScan range early s → AddsScan s.met.made.range s.turns.is_early s.met.made.records pages old new → AddsScan range early s.met.made.records pages old new
adds_early range early s pages old new is adds =
    subst (λ (b : Bool). AddsScan range b s.met.made.records pages old new) is.early_is (subst (λ (r : TableRange). AddsScan r s.turns.is_early s.met.made.records pages old new) is.range_is adds)
