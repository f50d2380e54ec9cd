-- Frames by index keep what the bits by page say.
use Rattle.std.proofs.Common.{◌≡◌, ℕ, refl, sym, ap, ◌∙◌, subst, arith, Bool, true, false, inl, inr, Option, Some, None}
use Rattle.std.specs.Prelude.{◌≢◌, ◌==◌, ◌&&◌, if◌then◌else◌}
use Rattle.std.proofs.lemmas.Bool.{cases_eq, cases_Bool, both_ways, eq-eqb, cond-true, cond-false}
use Rattle.page_protocol.specs.Frames.{Frames, is_page, is_set, bit_at, bit_of, ArePlaced, put2, placed_in, taken_out, registered, unregistered, without, dropped, emptied, TestTells, Places, TakesOut, Registers, Unregisters, FindsClear, Drops, Empties}

tells : (m n i : ℕ) (f : Frames) (o : Option ℕ) → ArePlaced f → f.at m n ≡ Some i → f.noted m i ≡ true → f.bound m i ≡ o → is_set o ≡ (f.noted m i && is_page o n)
tells m n i f None s at noted e = grind (arith, noted)
tells m n i f (Some k) s at noted e = let same : k ≡ n = s.once m k n i (s.placed m k i noted e) at in let is : (k == n) ≡ true = eq-eqb k n same in grind (arith, noted, is)

pub test_tells : TestTells
test_tells f m n i s at noted = tells m n i f (f.bound m i) s at noted refl ∙ sym (ap (λ o. bit_at (f.noted m) (f.bound m) o n) at)

-- what is done to a frame changes no bit of a page that isn't in that frame
off : (f : Frames) (m i k a : ℕ) (o x : Option ℕ) (b : Bool) → (a ≡ m → o ≢ Some i) → bit_at (put2 f.noted m i b a) (put2 f.bound m i x a) o k ≡ bit_at (f.noted a) (f.bound a) o k
off f m i k a None x b ne = refl
off f m i k a (Some j) x b ne = grind (arith, ne)

off_noted : (f : Frames) (m i k a : ℕ) (o : Option ℕ) (b : Bool) → (a ≡ m → o ≢ Some i) → bit_at (put2 f.noted m i b a) (f.bound a) o k ≡ bit_at (f.noted a) (f.bound a) o k
off_noted f m i k a None b ne = refl
off_noted f m i k a (Some j) b ne = grind (arith, ne)

elsewhere : (f : Frames) (m n i k a : ℕ) → ArePlaced f → f.at m n ≡ Some i → (a ≡ m → k ≢ n) → a ≡ m → f.at a k ≢ Some i
elsewhere f m n i k a s at ne e h = ne e (sym (s.once m n k i at (subst (λ x. f.at x k ≡ Some i) e h)))

both : (k n a m : ℕ) → k ≡ n → a ≡ m → ((k == n) && (a == m)) ≡ true
both k n a m e f = grind (arith, e, f)

not_both : (k n a m : ℕ) → ((k == n) && (a == m)) ≡ false → a ≡ m → k ≢ n
not_both k n a m h g e = both_ways _ h (both k n a m e g)

-- one page's bit is altered: the others were not in its frame
altered : (f h : Frames) (m n k a : ℕ) (x : Bool) → bit_of h n m ≡ x → ((a ≡ m → k ≢ n) → bit_of h k a ≡ bit_of f k a) → bit_of h k a ≡ (if (k == n) && (a == m) then x else bit_of f k a)
altered f h m n k a x here there = elim (cases_Bool ((k == n) && (a == m))) [
  | inl t ↦ let e : k ≡ n = grind (arith, t) in let g : a ≡ m = grind (arith, t) in subst (λ k'. bit_of h k' a ≡ x) (sym e) (subst (λ a'. bit_of h n a' ≡ x) (sym g) here) ∙ sym (cond-true ((k == n) && (a == m)) x (bit_of f k a) t)
  | inr t ↦ there (not_both k n a m t) ∙ sym (cond-false ((k == n) && (a == m)) x (bit_of f k a) t)
]

places_keeps : (f : Frames) (m n i : ℕ) → ArePlaced f → f.at m n ≡ None → ((k : ℕ) → f.at m k ≢ Some i) → ArePlaced (placed_in f m n i)
places_keeps f m n i s none free = record { once = λ a b c d x y. let u = s.once a b c d in let v = free b in let w = free c in grind (arith, u, v, w, x, y); placed = λ a b c t x. let u = s.placed a b c in grind (arith, u, t, x, none) }

places_here : (f : Frames) (m n i : ℕ) (o : Option ℕ) → o ≡ Some i → bit_at (put2 f.noted m i false m) (f.bound m) o n ≡ false
places_here f m n i o e = grind (arith, e)

nowhere : (f : Frames) (m n : ℕ) → f.at m n ≡ None → bit_of f n m ≡ false
nowhere f m n none = ap (λ o. bit_at (f.noted m) (f.bound m) o n) none

put_here : (f : ℕ → ℕ → Option ℕ) (m n : ℕ) (x : Option ℕ) → put2 f m n x m n ≡ x
put_here f m n x = grind arith

put_other : (f : ℕ → ℕ → Option ℕ) (m n a k : ℕ) (x : Option ℕ) → (a ≡ m → k ≢ n) → put2 f m n x a k ≡ f a k
put_other f m n a k x ne = grind (arith, ne)

places_bits : (f : Frames) (m n i k a : ℕ) → ArePlaced f → f.at m n ≡ None → ((k : ℕ) → f.at m k ≢ Some i) → bit_of (placed_in f m n i) k a ≡ bit_of f k a
places_bits f m n i k a s none free = elim (cases_Bool ((k == n) && (a == m))) [
  | inl t ↦ let e : k ≡ n = grind (arith, t) in let g : a ≡ m = grind (arith, t) in subst (λ k'. bit_of (placed_in f m n i) k' a ≡ bit_of f k' a) (sym e) (subst (λ a'. bit_of (placed_in f m n i) n a' ≡ bit_of f n a') (sym g) (places_here f m n i _ (put_here f.at m n (Some i)) ∙ sym (nowhere f m n none)))
  | inr t ↦ ap (λ o. bit_at (put2 f.noted m i false a) (f.bound a) o k) (put_other f.at m n a k (Some i) (not_both k n a m t)) ∙ off_noted f m i k a (f.at a k) false (λ e h. free k (subst (λ x. f.at x k ≡ Some i) e h))
]

pub places : Places
places = record { keeps = places_keeps; bits = places_bits }

takes_keeps : (f : Frames) (m n i : ℕ) → ArePlaced f → f.at m n ≡ Some i → ArePlaced (taken_out f m n i)
takes_keeps f m n i s at = record { once = λ a b c d x y. let u = s.once a b c d in grind (arith, u, x, y); placed = λ a b c t x. let u = s.placed a b c in grind (arith, u, t, x, at) }

takes_bits : (f : Frames) (m n i k a : ℕ) → ArePlaced f → f.at m n ≡ Some i → bit_of (taken_out f m n i) k a ≡ (if (k == n) && (a == m) then false else bit_of f k a)
takes_bits f m n i k a s at = altered f (taken_out f m n i) m n k a false (ap (λ o. bit_at (put2 f.noted m i false m) (f.bound m) o n) (put_here f.at m n None))
    (λ ne. ap (λ o. bit_at (put2 f.noted m i false a) (f.bound a) o k) (put_other f.at m n a k None ne) ∙ off_noted f m i k a (f.at a k) false (elsewhere f m n i k a s at ne))

pub takes_out : TakesOut
takes_out = record { keeps = takes_keeps; bits = takes_bits }

registers_keeps : (f : Frames) (m n i : ℕ) → ArePlaced f → f.at m n ≡ Some i → ArePlaced (registered f m n i)
registers_keeps f m n i s at = record { once = s.once; placed = λ a b c t x. let u = s.placed a b c in grind (arith, u, t, x, at) }

reg_here : (f : Frames) (m n i : ℕ) (o x : Option ℕ) (b : Bool) → o ≡ Some i → bit_at (put2 f.noted m i b m) (put2 f.bound m i x m) o n ≡ (b && is_page x n)
reg_here f m n i o x b e = grind (arith, e)

is_same : (n : ℕ) → is_page (Some n) n ≡ true
is_same n = eq-eqb n n refl

registers_bits : (f : Frames) (m n i k a : ℕ) → ArePlaced f → f.at m n ≡ Some i → bit_of (registered f m n i) k a ≡ (if (k == n) && (a == m) then true else bit_of f k a)
registers_bits f m n i k a s at = altered f (registered f m n i) m n k a true (reg_here f m n i (f.at m n) (Some n) true at ∙ is_same n)
    (λ ne. off f m i k a (f.at a k) (Some n) true (elsewhere f m n i k a s at ne))

pub registers : Registers
registers = record { keeps = registers_keeps; bits = registers_bits }

unregisters_keeps : (f : Frames) (m n i : ℕ) → ArePlaced f → f.at m n ≡ Some i → ArePlaced (unregistered f m i)
unregisters_keeps f m n i s at = record { once = s.once; placed = λ a b c t x. let u = s.placed a b c in grind (arith, u, t, x, at) }

unregisters_bits : (f : Frames) (m n i k a : ℕ) → ArePlaced f → f.at m n ≡ Some i → bit_of (unregistered f m i) k a ≡ (if (k == n) && (a == m) then false else bit_of f k a)
unregisters_bits f m n i k a s at = altered f (unregistered f m i) m n k a false (reg_here f m n i (f.at m n) None false at)
    (λ ne. off f m i k a (f.at a k) None false (elsewhere f m n i k a s at ne))

pub unregisters : Unregisters
unregisters = record { keeps = unregisters_keeps; bits = unregisters_bits }

clear_at : (f : Frames) (m i k a : ℕ) (o : Option ℕ) → f.bound m i ≡ None → bit_at (put2 f.noted m i false a) (f.bound a) o k ≡ bit_at (f.noted a) (f.bound a) o k
clear_at f m i k a None none = refl
clear_at f m i k a (Some j) none = grind (arith, none)

pub finds_clear : FindsClear
finds_clear = record {
  keeps = λ f m i s. record { once = s.once; placed = λ a b c t x. let u = s.placed a b c in grind (arith, u, t, x) };
  bits = λ f m i k a none. clear_at f m i k a (f.at a k) none;
}

without_some : (keep : Bool) (o : Option ℕ) (n k : ℕ) → without keep o n ≡ Some k → o ≡ Some k
without_some keep None n k e = e
without_some true (Some j) n k e = e
without_some false (Some j) n k e = grind (arith, e)

without_page : (b keep : Bool) (o : Option ℕ) (n k : ℕ) → (b && is_page (without keep o n) k) ≡ (if k == n then keep && (b && is_page o k) else (b && is_page o k))
without_page true true None n k = grind arith
without_page true false None n k = grind arith
without_page false true None n k = grind arith
without_page false false None n k = grind arith
without_page true true (Some j) n k = grind arith
without_page true false (Some j) n k = grind arith
without_page false true (Some j) n k = grind arith
without_page false false (Some j) n k = grind arith

drops_at : (f : Frames) (n : ℕ) (keep : ℕ → Bool) (k a : ℕ) (o : Option ℕ) → bit_at (f.noted a) ((dropped f n keep).bound a) o k ≡ (if k == n then keep a && bit_at (f.noted a) (f.bound a) o k else bit_at (f.noted a) (f.bound a) o k)
drops_at f n keep k a None = grind arith
drops_at f n keep k a (Some i) = without_page (f.noted a i) (keep a) (f.bound a i) n k

pub drops : Drops
drops = record {
  keeps = λ f n keep s. record { once = s.once; placed = λ a b c t x. s.placed a b c t (without_some (keep a) (f.bound a c) n b x) };
  bits = λ f n keep k a s. drops_at f n keep k a (f.at a k);
}

empties_keeps : (f : Frames) (m : ℕ) → ArePlaced f → ArePlaced (emptied f m)
empties_keeps f m s = record { once = λ a b c d x y. let u = s.once a b c d in grind (arith, u, x, y); placed = λ a b c t x. let u = s.placed a b c in grind (arith, u, t, x) }

empties_bits : (f : Frames) (m k a : ℕ) → bit_of (emptied f m) k a ≡ (if a == m then false else bit_of f k a)
empties_bits f m k a = elim (cases_eq a m) [ inl e ↦ grind (arith, e) | inr e ↦ grind (arith, e) ]

pub empties : Empties
empties = record { keeps = empties_keeps; bits = empties_bits }
