-- A restart that has listed all retained records of its member knows each retained page.
use Rattle.std.proofs.Common.{◌≡◌, ◌≢◌, ℕ, zero, suc, ◌+◌, ◌<◌, ◌≤◌, refl, sym, ◌∙◌, ap, subst, arith, Bool, true, false, inl, inr, List, [], ◌∷◌, length, Option, Some, None}
use Rattle.std.specs.Prelude.{◌==◌, ◌&&◌, ◌^◌, ◌-◌, min, if◌then◌else◌, is_some, slice_get}
use Rattle.std.proofs.lemmas.Bool.{and_from, and_parts, both_ways, cases_Bool, cases_eq, cond-false, cond-true}
use Rattle.std.proofs.lemmas.Option.{none-some, same_Some}
use Rattle.ds_base.specs.declared.names.PageId.{PageId}
use Rattle.lock_names.specs.Given.{Name}
use Rattle.lock_names.specs.Given.name_variants as name
use Rattle.lock_names.specs.declared.mode.Mode.{Mode}
use Rattle.lock_names.specs.Names.{same_name}
use Rattle.lock_structure.specs.declared.chain.Held.{Held as HeldRecord}
use Rattle.lock_structure.specs.Locks.{record_of, retained_in}
use Rattle.lock_structure.specs.Records.{is_of, is_retained, names_of, record_in, retained_of}
use Rattle.facility.specs.LockCommands.{retained_reply}
use Rattle.facility.specs.States.{Held as Facility}
use Rattle.restart_records.specs.declared.queue.TurnKey.{TurnKey}
use Rattle.restart_records.specs.Queue.{key_by_name, put_in}
use Rattle.restart_marks.specs.Listing.{entered_name, page_freed, record_after}
use Rattle.restart_marks.specs.Moves.{is_same}
use Rattle.restart_marks.specs.State.{RestartState}
use Rattle.restart_owners.specs.Listing.{IsListing, ListingBegins, ListingStays, is_among}
use Rattle.restart_owners.proofs.Following.{Follows}
use Rattle.restart_owners.proofs.Keys.{among_left, among_new, among_put, named_page, same_page}

-- ---- a retained page stands in the list of retained names
same_names : (a : Name) (p : PageId) → same_name a (name.Page p) ≡ true → a ≡ name.Page p
unfolding same_name
same_names (name.Space t) p e = absurd (both_ways false refl e)
same_names (name.Row t k) p e = absurd (both_ways false refl e)
same_names (name.Page q) p e = ap name.Page (same_page q p e)
same_names (name.Set s) p e = absurd (both_ways false refl e)

record Stands (names : List Name) (p : PageId) : Type 0 where
  pub at : ℕ
  pub below : at < length names
  pub is : slice_get names at ≡ Some (name.Page p)

stands_first : (n : Name) (names : List Name) (p : PageId) → n ≡ name.Page p → Stands (n ∷ names) p
stands_first n names p e = record { at = 0; below = omega arith; is = ap Some e }

stands_next : (n : Name) (names : List Name) (p : PageId) → Stands names p → Stands (n ∷ names) p
stands_next n names p s = record { at = suc s.at; below = (let e = s.below in omega (arith, e)); is = s.is }

stands_in : (m : ℕ) (p : PageId) (hs : List HeldRecord) → is_retained (record_in hs m (name.Page p)) ≡ true → Stands (names_of (retained_of m hs)) p
stands_in m p [] e = absurd (both_ways false refl e)
stands_in m p (h ∷ hs) e = by (is_of m (name.Page p) h) refl (stands_in m p hs)
  where
    on : (b : Bool) → Stands (names_of (retained_of m hs)) p → Stands (names_of (if b then (h.name, h.lock.mode) ∷ retained_of m hs else retained_of m hs)) p
    on true s = stands_next h.name (names_of (retained_of m hs)) p s
    on false s = s

    by : (c : Bool) → is_of m (name.Page p) h ≡ c → (is_retained (record_in hs m (name.Page p)) ≡ true → Stands (names_of (retained_of m hs)) p)
        → Stands (names_of (if (h.member == m) && h.lock.retained then (h.name, h.lock.mode) ∷ retained_of m hs else retained_of m hs)) p
    by true its ih =
        let both = and_parts (h.member == m) (same_name h.name (name.Page p)) its in
        let retained : h.lock.retained ≡ true = ap is_retained (sym (cond-true (is_of m (name.Page p) h) (Some h.lock) (record_in hs m (name.Page p)) its)) ∙ e in
        subst (λ z. Stands (names_of (if z then (h.name, h.lock.mode) ∷ retained_of m hs else retained_of m hs)) p) (sym (and_from (h.member == m) h.lock.retained both.0 retained))
        (stands_first h.name (names_of (retained_of m hs)) p (same_names h.name p both.1))
    by false other ih = on ((h.member == m) && h.lock.retained) (ih (ap is_retained (sym (cond-false (is_of m (name.Page p) h) (Some h.lock) (record_in hs m (name.Page p)) other)) ∙ e))

-- ---- the list of names
named : (xs : List (Name × Mode)) (i : ℕ) (x : Name × Mode) → slice_get xs i ≡ Some x → slice_get (names_of xs) i ≡ Some x.0
named [] i x e = absurd (none-some x e)
named (y ∷ xs) zero x e = ap (λ (z : Name × Mode). Some z.0) (same_Some y x e)
named (y ∷ xs) (suc i) x e = named xs i x e

ended : (xs : List (Name × Mode)) (i : ℕ) → slice_get xs i ≡ None → length (names_of xs) ≤ i
ended [] i e = omega arith
ended (y ∷ xs) zero e = absurd (none-some y (sym e))
ended (y ∷ xs) (suc i) e = let ih = ended xs i e in omega (arith, ih)

-- ---- behind a part of an event that frees no page record
pub record Spares (f g : Facility) (m : ℕ) : Type 0 where
  pub names : names_of (retained_in g.locks m) ≡ names_of (retained_in f.locks m)
  pub retained : (n : Name) → is_retained (record_of g.locks m n) ≡ true → is_retained (record_of f.locks m n) ≡ true

pub spares_same : (f g : Facility) (m : ℕ) → g ≡ f → Spares f g m
spares_same f g m e = record { names = ap (λ (z : Facility). names_of (retained_in z.locks m)) e; retained = λ n r. ap (λ (z : Facility). is_retained (record_of z.locks m n)) (sym e) ∙ r }

pub goes_near : (f g : Facility) (s t : RestartState) (claim : Option PageId) → Spares f g s.member → Follows s t claim → IsListing f s → IsListing g t
goes_near f g s t claim spares near l = record {
  known = λ i p unlisted below is. near.pages p l.hand
      (l.known i p (sym near.is_listed ∙ unlisted) (subst (λ z. i < z) near.listed below) (ap (λ (z : List Name). slice_get z i) (sym (ap (λ z. names_of (retained_in g.locks z)) near.member ∙ spares.names)) ∙ is));
  all = λ p listed r. near.pages p l.hand (l.all p (sym near.is_listed ∙ listed) (spares.retained (name.Page p) (ap (λ z. is_retained (record_of g.locks z (name.Page p))) (sym near.member) ∙ r)));
  hand = near.hand l.hand;
}

-- all are listed already
pub goes_listed : (f g : Facility) (s t : RestartState) (claim : Option PageId) → s.is_listed ≡ true → ((n : Name) → is_retained (record_of g.locks s.member n) ≡ true → is_retained (record_of f.locks s.member n) ≡ true) → Follows s t claim → IsListing f s → IsListing g t
goes_listed f g s t claim listed retained near l = record {
  known = λ i p unlisted below is. absurd (both_ways t.is_listed unlisted (near.is_listed ∙ listed));
  all = λ p on r. near.pages p l.hand (l.all p listed (retained (name.Page p) (ap (λ z. is_retained (record_of g.locks z (name.Page p))) (sym near.member) ∙ r)));
  hand = near.hand l.hand;
}

-- ---- one more record is known, or there are no more
pub entered_pages : (s : RestartState) (n : Name) (p : PageId) → is_among s.pages p ≡ true → is_among (entered_name s n).pages p ≡ true
entered_pages s (name.Space t) p e = e
entered_pages s (name.Row t k) p e = e
entered_pages s (name.Page q) p e = among_put s.pages (key_by_name q) p e
entered_pages s (name.Set n) p e = e

entered_new : (s : RestartState) (n : Name) (p : PageId) → n ≡ name.Page p → is_among (entered_name s n).pages p ≡ true
entered_new s n p e =
    subst (λ (z : Name). is_among (entered_name s z).pages p ≡ true) (sym e) (subst (λ (z : PageId). is_among (put_in s.pages (key_by_name p)) z ≡ true) (named_page p) (among_new s.pages (key_by_name p)))

pub record Entered (s t : RestartState) : Type 0 where
  pub member : t.member ≡ s.member
  pub claim : t.claim ≡ s.claim
  pub listed : t.listed ≡ s.listed
  pub is_listed : t.is_listed ≡ s.is_listed
  pub key : t.hand.key ≡ s.hand.key
  pub page : t.hand.page ≡ s.hand.page

pub entered_rest : (s : RestartState) (n : Name) → Entered s (entered_name s n)
entered_rest s (name.Space t) = record { member = refl; claim = refl; listed = refl; is_listed = refl; key = refl; page = refl }
entered_rest s (name.Row t k) = record { member = refl; claim = refl; listed = refl; is_listed = refl; key = refl; page = refl }
entered_rest s (name.Page q) = record { member = refl; claim = refl; listed = refl; is_listed = refl; key = refl; page = refl }
entered_rest s (name.Set n) = record { member = refl; claim = refl; listed = refl; is_listed = refl; key = refl; page = refl }

near_end : (k n most i : ℕ) → k ≡ n → i < min (k + 1) most → i ≢ n → i < n
near_end k n most i same below ne = omega (arith, same, below, ne)

pub lists_next : (f g : Facility) (s t : RestartState) → s.is_listed ≡ false → g ≡ f → t ≡ record_after s (retained_reply (slice_get (retained_in f.locks s.member) s.listed)) → IsListing f s → IsListing g t
lists_next f g s t unlisted same is l = subst (λ (z : Facility). IsListing z t) (sym same) (subst (λ (z : RestartState). IsListing f z) (sym is) (by (slice_get (retained_in f.locks s.member) s.listed) refl))
  where
    by : (o : Option (Name × Mode)) → slice_get (retained_in f.locks s.member) s.listed ≡ o → IsListing f (record_after s (retained_reply o))
    by None none = record {
      known = λ i p never below here. absurd (both_ways true never refl);
      all = λ p _ r. (let place = stands_in s.member p f.locks.book.held r in let least = ended (retained_in f.locks s.member) s.listed none in let below = place.below in
          l.known place.at p unlisted (omega (arith, least, below)) place.is);
      hand = l.hand;
    }
    by (Some x) some =
        let e = entered_rest s x.0 in
        record {
          known = λ i p _ below here. known e i p below here;
          all = λ p listed r. absurd (both_ways s.is_listed unlisted (sym e.is_listed ∙ listed));
          hand = λ key k. e.page ∙ l.hand key (sym e.key ∙ k);
        }
      where
        known : Entered s (entered_name s x.0) → (i : ℕ) (p : PageId) → i < min ((entered_name s x.0).listed + 1) (2 ^ 32 - 1) → slice_get (names_of (retained_in f.locks (entered_name s x.0).member)) i ≡ Some (name.Page p) → is_among (entered_name s x.0).pages p ≡ true
        known e i p below here =
            let there : slice_get (names_of (retained_in f.locks s.member)) i ≡ Some (name.Page p) = ap (λ z. slice_get (names_of (retained_in f.locks z)) i) (sym e.member) ∙ here in
            elim (cases_eq i s.listed) [
              | inl at ↦ entered_new s x.0 p (same_Some x.0 (name.Page p) (sym (named (retained_in f.locks s.member) s.listed x some) ∙ ap (slice_get (names_of (retained_in f.locks s.member))) (sym at) ∙ there))
              | inr ne ↦ entered_pages s x.0 p (l.known i p unlisted (lower e.listed i below ne) there)
            ]
          where
            lower : (entered_name s x.0).listed ≡ s.listed → (i : ℕ) → i < min ((entered_name s x.0).listed + 1) (2 ^ 32 - 1) → i ≢ s.listed → i < s.listed
            lower same i below ne = near_end (entered_name s x.0).listed s.listed (2 ^ 32 - 1) i same below ne

-- ---- the record of the page in hand is freed
pub frees_hand : (f g : Facility) (s : RestartState) (p : PageId) (o : Option TurnKey) → s.hand.key ≡ o → is_some o ≡ true → s.hand.page ≡ Some p → s.is_listed ≡ true
    → ((n : Name) → is_retained (record_of g.locks s.member n) ≡ true → is_retained (record_of f.locks s.member n) ≡ true) → is_retained (record_of g.locks s.member (name.Page p)) ≡ false → IsListing f s → IsListing g (page_freed s o)
frees_hand f g s p None key some placed listed retained freed l = absurd (both_ways false refl some)
frees_hand f g s p (Some key) is some placed listed retained freed l = record {
  known = λ i q unlisted below here. absurd (both_ways s.is_listed unlisted listed);
  all = λ q on r. among_left s.pages key q (other q r) (l.all q listed (retained (name.Page q) r));
  hand = λ k e. absurd (none-some k e);
}
  where
    own : p ≡ key.page
    own = same_Some p key.page (sym placed ∙ l.hand key is)

    other : (q : PageId) → is_retained (record_of g.locks s.member (name.Page q)) ≡ true → is_same key.page q ≡ false
    other q r = elim (cases_Bool (is_same key.page q)) [
      | inl same ↦ absurd (both_ways (is_retained (record_of g.locks s.member (name.Page q))) (subst (λ (z : PageId). is_retained (record_of g.locks s.member (name.Page z)) ≡ false) (own ∙ same_page key.page q same) freed) r)
      | inr e ↦ e
    ]

-- ---- the begin, and the events of others
pub listing_begins : ListingBegins
listing_begins f m s fresh = record {
  known = λ i p _ below is. absurd (none_below i (subst (λ z. i < z) (ap (λ (z : RestartState). z.listed) fresh.rest) below));
  all = λ p listed r. absurd (both_ways s.is_listed (ap (λ (z : RestartState). z.is_listed) fresh.rest) listed);
  hand = λ key e. absurd (none-some key (sym (ap (λ (z : RestartState). z.hand.key) fresh.rest) ∙ e));
}
  where
    none_below : (i : ℕ) → i < 0 → ⊥
    none_below i l = omega (arith, l)

pub listing_stays : ListingStays
listing_stays f g m s spares ne l = record {
  known = λ i p unlisted below is. l.known i p unlisted below (ap (λ (z : List Name). slice_get z i) (sym (spares.names s.member ne)) ∙ is);
  all = λ p listed r. l.all p listed (ap is_retained (sym (spares.records s.member (name.Page p) ne)) ∙ r);
  hand = l.hand;
}
