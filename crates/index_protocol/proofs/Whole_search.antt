-- A search ends at a leaf, after no more steps than low keys allow.
use Rattle.std.proofs.Common.{◌≡◌, ℕ, zero, suc, ◌+◌, ◌<◌, ◌≤◌, refl, sym, ◌∙◌, arith, Option, Some, None, true, false, inl, inr}
use Rattle.std.specs.Prelude.{◌≢◌}
use Rattle.std.proofs.lemmas.Bool.{cases_eq}
use Rattle.index_protocol.specs.Index.{Rest, World, Kind, Unmade, Leaf, Branch}
use Rattle.index_protocol.specs.Search.{Go, Right, Down, Here, Nowhere, Reached, IsKnown, Leads, Later}
use Rattle.index_protocol.specs.Whole_search.{Found, on, search_from, Allowed, IsFound, IsPlace, SearchEnds, SearchFinds, ClaimFinds}
use Rattle.index_protocol.proofs.Search.{leads, begins, answers, known_begins}

-- steps enough
record Room (g : Rest) (k n f : ℕ) : Type 0 where
  leaf : g.kind n ≡ Leaf → k < g.low n + f
  branch : g.kind n ≡ Branch → k + k + 1 < g.low n + f

room_right : (w v : World) (s k n m f : ℕ) → Later s w v → Reached w.rest s k m → w.rest.kind m ≡ w.rest.kind n → w.rest.low n < w.rest.low m → Room w.rest k n (suc f) → Room v.rest k m f
room_right w v s k n m f l r same up room = let kind = l.kind k m r in let low = l.low k m r in record {
  leaf = λ e. let a = room.leaf (sym same ∙ sym kind ∙ e) in omega (arith, a, low, up);
  branch = λ e. let a = room.branch (sym same ∙ sym kind ∙ e) in omega (arith, a, low, up);
}

room_down : (w v : World) (s k n m f : ℕ) → Later s w v → Reached w.rest s k n → Reached w.rest s k m → w.rest.kind n ≡ Branch → w.rest.kind m ≡ Leaf → Room w.rest k n (suc f) → Room v.rest k m f
room_down w v s k n m f l rn r at to room = let kind = l.kind k m r in let low = l.low k m r in record {
  leaf = λ e. let a = room.branch at in omega (arith, a, low, rn.low);
  branch = λ e. absurd (let b = sym kind ∙ e in cc);
}

ends_on : (worlds : ℕ → World) (s : ℕ) (copy : ℕ → ℕ → ℕ) (f i n k : ℕ) (go : Go) → Allowed worlds s copy → Reached (worlds i).rest s k n → Room (worlds i).rest k n (suc f)
    → Leads (worlds i).rest ((worlds i).pages n) s k n (copy i n) go
    → ((m : ℕ) → Reached (worlds (suc i)).rest s k m → Room (worlds (suc i)).rest k m f → IsFound worlds s copy k (search_from worlds copy f (suc i) m k))
    → IsFound worlds s copy k (on go (λ m. search_from worlds copy f (suc i) m k) (record { step = i; page = n; version = copy i n }))
ends_on worlds s copy f i n k (Right m) ok r room led ih = ih m ((ok.later i).reached k m led.0) (room_right (worlds i) (worlds (suc i)) s k n m f (ok.later i) led.0 led.1 led.2 room)
ends_on worlds s copy f i n k (Down m) ok r room led ih = ih m ((ok.later i).reached k m led.0) (room_down (worlds i) (worlds (suc i)) s k n m f (ok.later i) r led.0 led.1 led.2 room)
ends_on worlds s copy f i n k Here ok r room led ih = (r, led.0, led.1, refl, led.2)
ends_on worlds s copy f i n k Nowhere ok r room led ih = led

no_room : (g : Rest) (s k n : ℕ) (kind : Kind) → g.kind n ≡ kind → Reached g s k n → Room g k n 0 → ⊥
no_room g s k n Unmade is r room = r.made is
no_room g s k n Leaf is r room = let a = room.leaf is in omega (arith, a, r.low)
no_room g s k n Branch is r room = let a = room.branch is in omega (arith, a, r.low)

ends_from : (worlds : ℕ → World) (s : ℕ) (copy : ℕ → ℕ → ℕ) (f i n k : ℕ) → Allowed worlds s copy → Reached (worlds i).rest s k n → Room (worlds i).rest k n f → IsFound worlds s copy k (search_from worlds copy f i n k)
unfolding search_from
ends_from worlds s copy zero i n k ok r room = absurd (no_room (worlds i).rest s k n ((worlds i).rest.kind n) refl r room)
ends_from worlds s copy (suc f) i n k ok r room = ends_on worlds s copy f i n k _ ok r room
    (leads (worlds i) s k n (copy i n) (ok.whole i) r (ok.copies i n))
    (λ m r' room'. ends_from worlds s copy f (suc i) m k ok r' room')

pub ends : SearchEnds
ends worlds s copy k ok there = ends_from worlds s copy (k + k + 3) 0 1 k ok (begins (worlds 0) s k (ok.whole 0) there) (record {
  leaf = λ e. let b = (ok.whole 0).roots.root_kind in absurd cc;
  branch = λ e. omega arith;
})

-- ---- a key that is known when the search begins
known : (worlds : ℕ → World) (s : ℕ) (copy : ℕ → ℕ → ℕ) (k x i : ℕ) → Allowed worlds s copy → IsKnown (worlds 0).rest s k x → IsKnown (worlds i).rest s k x
known worlds s copy k x zero ok h = h
known worlds s copy k x (suc i) ok h = (ok.later i).known k x (known worlds s copy k x i ok h)

place_of : (worlds : ℕ → World) (s : ℕ) (copy : ℕ → ℕ → ℕ) (k x : ℕ) (o : Option Found) → Allowed worlds s copy → IsKnown (worlds 0).rest s k x → IsFound worlds s copy k o → IsPlace worlds k x o
place_of worlds s copy k x None ok h f = f
place_of worlds s copy k x (Some y) ok h f =
    let c = Rattle.std.proofs.Common.subst (λ z. Rattle.index_protocol.specs.Search.IsCopy (worlds y.step).rest s y.page ((worlds y.step).pages y.page) z) (sym f.3) (ok.copies y.step y.page) in
    (answers (worlds y.step) s k y.page y.version (ok.whole y.step) f.1 f.0.low f.2 c f.4).finds x (known worlds s copy k x y.step ok h)

pub finds : SearchFinds
finds worlds s copy k x ok h = place_of worlds s copy k x _ ok h (ends worlds s copy k ok (known_begins (worlds 0) s k x (ok.whole 0) h))

pub claim_finds : ClaimFinds
claim_finds worlds s copy keeps k x ok claims mine is = finds worlds s copy k x ok (record { given = is; free = λ o e. own o (claims k o e) (mine o) })
  where
    own : (o : ℕ) → keeps o k ≡ true → (o ≢ s → keeps o k ≡ false) → o ≡ s
    own o a b = elim (cases_eq o s) [ inl e ↦ e | inr ne ↦ absurd (let c = b ne in cc) ]
