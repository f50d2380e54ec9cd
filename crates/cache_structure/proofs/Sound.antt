-- Each command keeps the entries apart, and no more of them than there is room for.
use Rattle.std.proofs.Common.{◌≡◌, ℕ, ◌+◌, ◌<◌, ◌≤◌, Bool, true, false, cond, not, List, [], ◌∷◌, ◌++◌, map, length, Option, Some, None, refl, sym, ap, subst, ◌∙◌, arith}
use Rattle.std.specs.Prelude.{find, IfSome, if◌then◌else◌}
use Rattle.std.specs.List.{IsDistinct, AllByRecursion}
use Rattle.std.specs.Option.{option_map, option_map_or}
use Rattle.std.proofs.lemmas.List.{length-append, length-map}
use Rattle.ds_base.specs.declared.names.PageId.{PageId}
use Rattle.ds_base.specs.Pages.{same_page}
use Rattle.cache_structure.specs.Entries.{Entry, fresh, is_of, is_idle, entry_of, without, newest, at_entry, written_with, locked_by, cast_out, is_locked_by, freed_of}
use Rattle.cache_structure.specs.Directory.{Directory, empty_directory, has_free_place, reclaimable, reclaimed, with_newest, made, with_entry, registers, written_by, is_taken, holds_castout, after_read, after_write, after_unregister, after_castout_read, after_castout_done, after_fail, after_lose, after_rebuilt}
use Rattle.cache_structure.specs.Sound.{IsSound, are_of_one_page}
use Rattle.page_index.proofs.CallerLemmas.{own}

abbrev Apart : List Entry → Type 0
Apart es = IsDistinct are_of_one_page es

-- the entry is of no page of these
abbrev Away : Entry → List Entry → Type 0
Away x es = AllByRecursion (λ e. are_of_one_page x e ≡ false) es

-- ---- each entry changes, and stays one of its page

away_map : (g : Entry → Entry) → ((e : Entry) → (g e).page ≡ e.page) → (x : Entry) (es : List Entry) → Away x es → Away (g x) (map g es)
away_map g keeps x [] a = tt
away_map g keeps x (e ∷ es) a = ((λ i. same_page (keeps x i) (keeps e i)) ∙ a.0, away_map g keeps x es a.1)

apart_map : (g : Entry → Entry) → ((e : Entry) → (g e).page ≡ e.page) → (es : List Entry) → Apart es → Apart (map g es)
unfolding IsDistinct
apart_map g keeps [] d = tt
apart_map g keeps (e ∷ es) d = (away_map g keeps e es d.0, apart_map g keeps es d.1)

sound_map : (d v : Directory) (g : Entry → Entry) → ((e : Entry) → (g e).page ≡ e.page) → v.entries ≡ map g d.entries → v.size ≡ d.size → IsSound d → IsSound v
sound_map d v g keeps is size s =
    let long = ap length is ∙ length-map d.entries g in
    let few = s.few in
    record { distinct = subst Apart (sym is) (apart_map g keeps d.entries s.distinct); few = omega (arith, long, size, few) }

at_keeps : (id : PageId) (change : Entry → Entry) → ((e : Entry) → (change e).page ≡ e.page) → (e : Entry) → (cond (is_of id e) (change e) e).page ≡ e.page
at_keeps id change keeps e = by (is_of id e)
  where
    by : (b : Bool) → (cond b (change e) e).page ≡ e.page
    by true = keeps e
    by false = refl

-- ---- the entry of a page leaves

away_without : (p : PageId) (x : Entry) (es : List Entry) → Away x es → Away x (without p es)
away_without p x [] a = tt
away_without p x (e ∷ es) a = by (is_of p e) (away_without p x es a.1)
  where
    by : (b : Bool) → Away x (without p es) → Away x (cond (not b) (e ∷ without p es) (without p es))
    by true ih = ih
    by false ih = (a.0, ih)

apart_without : (p : PageId) (es : List Entry) → Apart es → Apart (without p es)
unfolding IsDistinct
apart_without p [] d = tt
apart_without p (e ∷ es) d = by (is_of p e) (apart_without p es d.1)
  where
    by : (b : Bool) → Apart (without p es) → Apart (cond (not b) (e ∷ without p es) (without p es))
    by true ih = ih
    by false ih = (away_without p e es d.0, ih)

-- none of the page is left
none_left : (x : Entry) (es : List Entry) → Away x (without x.page es)
none_left x [] = tt
none_left x (e ∷ es) = by (is_of x.page e) refl (none_left x es)
  where
    by : (b : Bool) → is_of x.page e ≡ b → Away x (without x.page es) → Away x (cond (not b) (e ∷ without x.page es) (without x.page es))
    by true h ih = ih
    by false h ih = (h, ih)

no_more : (p : PageId) (es : List Entry) → length (without p es) ≤ length es
no_more p [] = omega arith
no_more p (e ∷ es) = let ih = no_more p es in by (is_of p e) ih
  where
    by : (b : Bool) → length (without p es) ≤ length es → length (cond (not b) (e ∷ without p es) (without p es)) ≤ length (e ∷ es)
    by true ih = omega (arith, ih)
    by false ih = omega (arith, ih)

one_less : (test : Entry → Bool) (e : Entry) (es : List Entry) → find test es ≡ Some e → length (without e.page es) + 1 ≤ length es
one_less test e [] is = absurd (no is)
  where
    no : None ≡ Some e → ⊥
    no is = grind arith
one_less test e (x ∷ es) is = by (test x) (is_of e.page x) refl refl (one_less test e es)
  where
    by : (b c : Bool) → test x ≡ b → is_of e.page x ≡ c → (find test es ≡ Some e → length (without e.page es) + 1 ≤ length es) → length (without e.page (x ∷ es)) + 1 ≤ length (x ∷ es)
    by b true t o less =
        let rest = no_more e.page es in
        let long = ap (λ c. length (cond (not c) (x ∷ without e.page es) (without e.page es))) o in
        omega (arith, rest, long)
    by true false t o less =
        let same : Some x ≡ Some e = sym (ap (λ b. cond b (Some x) (find test es)) t) ∙ is in
        absurd (apart same)
      where
        apart : Some x ≡ Some e → ⊥
        apart same = let h = own e.page in grind (arith, h, o)
    by false false t o less =
        let ih = less (sym (ap (λ b. cond b (Some x) (find test es)) t) ∙ is) in
        let long = ap (λ c. length (cond (not c) (x ∷ without e.page es) (without e.page es))) o in
        omega (arith, ih, long)

-- ---- one more entry

flip : (a b : PageId) → same_page a b ≡ same_page b a
flip a b = grind arith

away_more : (y x : Entry) (es : List Entry) → Away y es → are_of_one_page y x ≡ false → Away y (es ++ x ∷ [])
away_more y x [] a h = (h, tt)
away_more y x (e ∷ es) a h = (a.0, away_more y x es a.1 h)

apart_more : (x : Entry) (es : List Entry) → Apart es → Away x es → Apart (es ++ x ∷ [])
unfolding IsDistinct
apart_more x [] d a = (tt, tt)
apart_more x (e ∷ es) d a = (away_more e x es d.0 (flip e.page x.page ∙ a.0), apart_more x es d.1 a.1)

apart_newest : (e : Entry) (es : List Entry) → Apart es → Apart (newest e es)
apart_newest e es d = apart_more e (without e.page es) (apart_without e.page es d) (none_left e es)

length_newest : (e : Entry) (es : List Entry) → length (newest e es) ≡ length (without e.page es) + 1
length_newest e es = length-append (without e.page es) (e ∷ [])

-- ---- an entry for a page

sound_made : (d : Directory) (id : PageId) → IsSound d → IfSome (made d id) IsSound
sound_made d id s = by (has_free_place d) (reclaimable d) refl refl
  where
    by : (b : Bool) (o : Option Entry) → has_free_place d ≡ b → reclaimable d ≡ o
        → IfSome (if b then Some (with_newest d (fresh id)) else option_map (λ e. with_newest (reclaimed d e) (fresh id)) o) IsSound
    by true o free is =
        let rest = no_more id d.entries in
        let long = length_newest (fresh id) d.entries in
        let lt : length d.entries < d.size = grind arith in
        record { distinct = apart_newest (fresh id) d.entries s.distinct; few = omega (arith, rest, long, lt) }
    by false None free is = tt
    by false (Some e) free is =
        let left = without e.page d.entries in
        let rest = no_more id left in
        let long = length_newest (fresh id) left in
        let less = one_less is_idle e d.entries is in
        let few = s.few in
        record { distinct = apart_newest (fresh id) left (apart_without e.page d.entries s.distinct); few = omega (arith, rest, long, less, few) }

sound_entry : (d : Directory) (id : PageId) → IsSound d → IfSome (with_entry d id) IsSound
sound_entry d id s = by (entry_of d.entries id) refl
  where
    by : (o : Option Entry) → entry_of d.entries id ≡ o → IfSome (option_map_or (λ e. Some (with_newest d e)) o (made d id)) IsSound
    by None is = sound_made d id s
    by (Some e) is =
        let long = length_newest e d.entries in
        let less = one_less (is_of id) e d.entries is in
        let few = s.few in
        record { distinct = apart_newest e d.entries s.distinct; few = omega (arith, long, less, few) }

-- ---- the commands

-- one way or the other
either : (b : Bool) (x y : Directory) → IsSound x → IsSound y → IsSound (if b then x else y)
either true x y p q = p
either false x y p q = q

pub empty : (size frames : ℕ) → IsSound (empty_directory size frames)
unfolding IsDistinct
empty size frames = record { distinct = tt; few = omega arith }

registered : (d : Directory) (member : ℕ) (id : PageId) (index : ℕ) → IsSound d → IsSound (registers d member id index)
registered d member id index s = record { distinct = s.distinct; few = s.few }

written : (d : Directory) (member : ℕ) (id : PageId) (bytes : List ℕ) → IsSound d → IsSound (written_by d member id bytes)
written d member id bytes s = sound_map d (written_by d member id bytes) _ (at_keeps id (written_with bytes) (λ e. refl)) refl refl s

pub read : (d : Directory) (member : ℕ) (id : PageId) (index : ℕ) → IsSound d → IsSound (after_read d member id index)
read d member id index s = either d.lost _ _ s (by (with_entry d id) (sound_entry d id s))
  where
    by : (o : Option Directory) → IfSome o IsSound → IsSound (option_map_or (λ made. registers made member id index) o d)
    by None h = s
    by (Some made) h = registered made member id index h

pub write : (d : Directory) (member : ℕ) (id : PageId) (index : ℕ) (bytes : List ℕ) → IsSound d → IsSound (after_write d member id index bytes)
write d member id index bytes s = either d.lost _ _ s (by (with_entry d id) (sound_entry d id s))
  where
    by : (o : Option Directory) → IfSome o IsSound → IsSound (option_map_or (λ made. registers (written_by made member id bytes) member id index) o d)
    by None h = s
    by (Some made) h = registered (written_by made member id bytes) member id index (written made member id bytes h)

pub unregister : (d : Directory) (member index : ℕ) → IsSound d → IsSound (after_unregister d member index)
unregister d member index s = record { distinct = s.distinct; few = s.few }

pub castout_read : (d : Directory) (member : ℕ) (id : PageId) → IsSound d → IsSound (after_castout_read d member id)
castout_read d member id s =
    either d.lost _ _ s
    (either (is_taken d member id) _ _ (sound_map d (record d { entries = at_entry id (locked_by member) d.entries }) _ (at_keeps id (locked_by member) (λ e. refl)) refl refl s) s)

pub castout_done : (d : Directory) (member : ℕ) (id : PageId) → IsSound d → IsSound (after_castout_done d member id)
castout_done d member id s =
    either d.lost _ _ s
    (either (holds_castout d member id) _ _ (sound_map d (record d { entries = at_entry id cast_out d.entries }) _ (at_keeps id cast_out (λ e. refl)) refl refl s) s)

pub fail : (d : Directory) (member : ℕ) → IsSound d → IsSound (after_fail d member)
fail d member s = sound_map d (after_fail d member) (freed_of member) keeps refl refl s
  where
    keeps : (e : Entry) → (freed_of member e).page ≡ e.page
    keeps e = by (is_locked_by member e)
      where
        by : (b : Bool) → (cond b (record e { castout = None }) e).page ≡ e.page
        by true = refl
        by false = refl

pub lose : (d : Directory) → IsSound d → IsSound (after_lose d)
unfolding IsDistinct
lose d s = record { distinct = tt; few = omega arith }

pub rebuilt : (d : Directory) → IsSound d → IsSound (after_rebuilt d)
rebuilt d s = record { distinct = s.distinct; few = s.few }
