-- A move leaves a search of another member, or of its own, where it was.
use Rattle.std.proofs.Common.{◌≡◌, ℕ, ◌<◌, ◌≤◌, refl, sym, ◌∙◌, subst, arith, Bool, Some, None, inl, inr}
use Rattle.std.specs.Prelude.{◌≢◌}
use Rattle.std.proofs.lemmas.Bool.{cases_eq, cases_lt}
use Rattle.index_protocol.specs.Index.{Rest, Page, Give, Split, BranchEntry, Write, End, Fail, GroupRestart, Unmade, given_rest, split_rest, entered_rest, written_rest, ended_rest, failed_rest, MayChange, MayFail}
use Rattle.index_protocol.specs.Whole.{Leaves}
use Rattle.index_protocol.specs.Search.{Reached, IsKnown, Later, MovesKeep}
use Rattle.index_protocol.proofs.Runs.{ungiven}

-- a page that is changed, and that is not wholly shown, was its member's before
enter_reached : (g : Rest) (m o n : ℕ) (p : Page) (k q : ℕ) → (g.shown n < p.last → g.writer n ≡ o) → 1 ≤ p.last → (g.kind q ≢ Unmade → g.parted_at q n ≤ p.last) → Reached g m k q → Reached (entered_rest g o n) m k q
enter_reached g m o n p k q alone made path r = let path' = path r.made in record { made = r.made; low = r.low; there = grind (arith, alone, made, r.there); opens = grind (arith, alone, path', r.opens) }

give_reached : (g : Rest) (m o n : ℕ) (p : Page) (j x k q : ℕ) → Reached (entered_rest g o n) m k q → Reached (given_rest g o n p j x) m k q
give_reached g m o n p j x k q r = record { made = r.made; low = r.low; there = r.there; opens = r.opens }

split_reached : (g : Rest) (m o n : ℕ) (p : Page) (new low k q : ℕ) → (g.shown n < p.last → g.writer n ≡ o) → 1 ≤ p.last → g.kind new ≡ Unmade → (g.kind q ≢ Unmade → g.parted_at q n ≤ p.last) → (g.kind q ≢ Unmade → g.parted_at q new ≡ 0) → Reached g m k q → Reached (split_rest g o n p new low) m k q
split_reached g m o n p new low k q alone made fresh path hid r =
    let path' = path r.made in let hid' = hid r.made in
    let ne : q ≢ new = λ e. r.made (subst (λ z. g.kind z ≡ Unmade) (sym e) fresh) in
    record { made = grind (arith, ne, r.made); low = grind (arith, ne, r.low); there = grind (arith, ne, alone, made, r.there); opens = grind (arith, ne, alone, path', hid', r.opens) }

write_reached : (g : Rest) (m n v k q : ℕ) → g.shown n ≤ v → Reached g m k q → Reached (written_rest g n v) m k q
write_reached g m n v k q le r = record { made = r.made; low = r.low; there = grind (arith, le, r.there); opens = grind (arith, le, r.opens) }

fail_stays : (g : Rest) (m f : ℕ) (c : ℕ → ℕ) (n k : ℕ) (p : Page) → f ≢ m → MayFail g f c n p → (g.kind n ≢ Unmade → 1 ≤ p.last) → Reached g m k n → 1 ≤ c n
fail_stays g m f c n k p ne may made r = let some = made r.made in plain may.kept may.others r.there some
  where
    plain : g.shown n ≤ c n → (g.writer n ≢ f → c n ≡ p.last) → (g.shown n ≡ 0 → g.writer n ≡ m) → 1 ≤ p.last → 1 ≤ c n
    plain kept others there some = grind arith

fail_reached : (g : Rest) (m k n : ℕ) (c : ℕ → ℕ) → 1 ≤ c n → Reached g m k n → Reached (failed_rest g c) m k n
fail_reached g m k n c some r = record { made = grind (arith, some, r.made); low = r.low; there = r.there; opens = r.opens }

fail_known : (g : Rest) (m f : ℕ) (c : ℕ → ℕ) (k x : ℕ) (p : Page) → f ≢ m → Leaves g (g.given_in k) p → MayFail g f c (g.given_in k) p → IsKnown g m k x → IsKnown (failed_rest g c) m k x
fail_known g m f c k x p ne s may known = record { given = plain; free = known.free }
  where
    kept : g.given_at k ≤ c (g.given_in k)
    kept = elim (cases_lt (c (g.given_in k)) (g.given_at k)) [
      | inl lt ↦ elim (cases_eq (g.writer (g.given_in k)) f) [
        | inl e ↦ (let seen = may.kept in absurd (ne (sym e ∙ known.free (g.writer (g.given_in k)) (s.unshown k x known.given refl (omega (arith, lt, seen))))))
        | inr off ↦ (let all = may.others off in let last = s.given_last k x known.given refl in omega (arith, all, last))
      ]
      | inr ge ↦ ge
    ]

    plain : (failed_rest g c).given k ≡ Some x
    plain = let is = known.given in let le = kept in grind (arith, is, le)

give_known : (g : Rest) (m o n : ℕ) (p : Page) (j y k x : ℕ) → g.given j ≡ None → IsKnown g m k x → IsKnown (given_rest g o n p j y) m k x
give_known g m o n p j y k x none r = record { given = grind (arith, none, r.given); free = grind (arith, none, r.given, r.free) }

end_known : (g : Rest) (m k x : ℕ) (keys : ℕ → Bool) → IsKnown g m k x → IsKnown (ended_rest g keys) m k x
end_known g m k x keys r = record { given = r.given; free = grind (arith, r.free) }

split_kind : (g : Rest) (o n : ℕ) (p : Page) (new low q : ℕ) → g.kind new ≡ Unmade → g.kind q ≢ Unmade → ((split_rest g o n p new low).kind q ≡ g.kind q) × ((split_rest g o n p new low).low q ≡ g.low q)
split_kind g o n p new low q fresh made = let ne : q ≢ new = λ e. made (subst (λ z. g.kind z ≡ Unmade) (sym e) fresh) in (grind (arith, ne), grind (arith, ne))

alone_of : (g : Rest) (o n : ℕ) (p : Page) → MayChange g o n p → g.shown n < p.last → g.writer n ≡ o
alone_of g o n p alone = grind (arith, alone)

pub moves_keep : MovesKeep
moves_keep m w v (Give o n j y) s st lives = subst (Later m w) (sym st.4) (record {
  reached = λ k q r. give_reached w.rest m o n (w.pages n) j y k q (enter_reached w.rest m o n (w.pages n) k q (alone_of w.rest o n (w.pages n) st.1) ((s.shape n).made (λ e. (let l = st.0.leaf in cc))) (s.paths.made q n) r);
  kind = λ k q r. refl;
  low = λ k q r. refl;
  known = λ k x r. give_known w.rest m o n (w.pages n) j y k x (ungiven w n j s st.0) r;
})
moves_keep m w v (Split o n new low) s st lives = subst (Later m w) (sym st.2) (record {
  reached = λ k q r. split_reached w.rest m o n (w.pages n) new low k q (alone_of w.rest o n (w.pages n) st.1) ((s.shape n).made st.0.made) st.0.fresh (s.paths.made q n) (λ made. (let a = s.paths.made q new made in let b = (s.shape new).unmade st.0.fresh in omega (arith, a, b))) r;
  kind = λ k q r. (split_kind w.rest o n (w.pages n) new low q st.0.fresh r.made).0;
  low = λ k q r. (split_kind w.rest o n (w.pages n) new low q st.0.fresh r.made).1;
  known = λ k x r. record { given = r.given; free = r.free };
})
moves_keep m w v (BranchEntry o n j c) s st lives = subst (Later m w) (sym st.3) (record {
  reached = λ k q r. enter_reached w.rest m o n (w.pages n) k q (alone_of w.rest o n (w.pages n) st.1) ((s.shape n).made (λ e. (let l = st.0.branch in cc))) (s.paths.made q n) r;
  kind = λ k q r. refl;
  low = λ k q r. refl;
  known = λ k x r. record { given = r.given; free = r.free };
})
moves_keep m w v (Write n u) s st lives = subst (Later m w) (sym st.1) (record {
  reached = λ k q r. write_reached w.rest m n u k q st.0.grows r;
  kind = λ k q r. refl;
  low = λ k q r. refl;
  known = λ k x r. record { given = r.given; free = r.free };
})
moves_keep m w v (End o keys) s st lives = subst (Later m w) (sym st.1) (record {
  reached = λ k q r. record { made = r.made; low = r.low; there = r.there; opens = r.opens };
  kind = λ k q r. refl;
  low = λ k q r. refl;
  known = λ k x r. end_known w.rest m k x keys r;
})
moves_keep m w v GroupRestart s st lives = absurd lives
moves_keep m w v (Fail f c) s st lives = subst (Later m w) (sym st.1) (record {
  reached = λ k q r. fail_reached w.rest m k q c (fail_stays w.rest m f c q k (w.pages q) lives (st.0 q) (s.shape q).made r) r;
  kind = λ k q r. (let some = fail_stays w.rest m f c q k (w.pages q) lives (st.0 q) (s.shape q).made r in fail_kind q some);
  low = λ k q r. refl;
  known = λ k x r. fail_known w.rest m f c k x (w.pages (w.rest.given_in k)) lives (s.leaves (w.rest.given_in k)) (st.0 (w.rest.given_in k)) r;
})
  where
    fail_kind : (q : ℕ) → 1 ≤ c q → (failed_rest w.rest c).kind q ≡ w.rest.kind q
    fail_kind q some = grind (arith, some)
