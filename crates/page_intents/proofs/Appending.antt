-- The log buffer is appended to the log.
use Rattle.std.proofs.Common.{◌≡◌, ◌≢◌, ℕ, ◌<◌, ◌≤◌, refl, sym, ap, subst, ◌∙◌, false, inl, inr, List, [], ◌∷◌, arith}
use Rattle.std.specs.Prelude.{◌==◌}
use Rattle.std.proofs.lemmas.Bool.{cond-true, cond-false, cases_eq, eq-eqb, ne_eqb}
use Rattle.page_protocol.specs.Page.{put}
use Rattle.page_protocol.specs.Moves.{World, Force, forced as group_forced}
use Rattle.page_world.specs.Owners.{ForcesMoves}
use Rattle.page_intents.specs.Numbers.{AreNumbered}
use Rattle.page_intents.specs.Logs.{AppendGoes}
use Rattle.page_intents.proofs.Writing.{coherent}

put_here : {A : Type 0} → (f : ℕ → A) (m j : ℕ) (x : A) → j ≡ m → put f m x j ≡ x
put_here f m j x e = cond-true (j == m) x (f j) (eq-eqb j m e)

put_there : {A : Type 0} → (f : ℕ → A) (m j : ℕ) (x : A) → j ≢ m → put f m x j ≡ f j
put_there f m j x ne = cond-false (j == m) x (f j) (ne_eqb j m ne)

-- the world behind a force to the end of what was written
numbered_forced : (w : World) (content : ℕ → ℕ → List ℕ) (forced : ℕ → ℕ) (m k last : ℕ) → AreNumbered w content forced → w.group.written m ≡ k → last ≤ w.group.counter
    → ((n i : ℕ) → i < (w.pages n).last → (w.pages n).place i < w.group.written ((w.pages n).author i))
    → AreNumbered (record { down = false; group = group_forced w.group m k; pages = w.pages }) content (put forced m last)
numbered_forced w content forced m k last t all drawn written = record {
  shown = t.shown;
  stable = λ n i l. by n i l;
  drawn = λ j. elim (cases_eq j m) [
    | inl e ↦ subst (λ z. z ≤ w.group.counter) (sym (put_here forced m j last e)) drawn
    | inr ne ↦ subst (λ z. z ≤ w.group.counter) (sym (put_there forced m j last ne)) (t.drawn j)
  ];
}
  where
    by : (n i : ℕ) → i < (w.pages n).last → (w.pages n).lrsn i ≤ put forced m last ((w.pages n).author i) → (w.pages n).place i < put w.group.stable m k ((w.pages n).author i)
    by n i l le = elim (cases_eq ((w.pages n).author i) m) [
      | inl e ↦ subst (λ z. (w.pages n).place i < z) (sym (put_here w.group.stable m ((w.pages n).author i) k e)) (subst (λ z. (w.pages n).place i < z) (ap w.group.written e ∙ all) (written n i l))
      | inr ne ↦ subst (λ z. (w.pages n).place i < z) (sym (put_there w.group.stable m ((w.pages n).author i) k ne)) (t.stable n i l (subst (λ z. (w.pages n).lrsn i ≤ z) (put_there forced m ((w.pages n).author i) last ne) le))
    ]

pub append_goes : ForcesMoves → AppendGoes
append_goes law w g content forced k out b lawful =
    let m = k.marks.member in
    let up = b.up in
    let least : g.stable m ≤ g.written m = (let e = up.pending.counted in omega (arith, e)) in
    let most : g.written m ≤ g.written m = omega arith in
    let moved = law w g content m (g.written m) b.tied least most in
    let numbered = numbered_forced w content forced m (g.written m) k.marks.log.last b.numbered (b.tied.written m) (subst (λ z. k.marks.log.last ≤ z) (sym b.tied.counter) up.last)
    (λ n. (coherent w w.group (w.pages n) w.down b.tied.running (b.good.stands n)).written) in
    record {
      moves = Force m (g.written m) ∷ [];
      moved = moved;
      plain = (refl, tt);
      numbered = subst (λ z. AreNumbered z content (put forced m k.marks.log.last)) (sym (moved.run.2 ∙ moved.run.1.3)) numbered;
      same = refl;
      stands = record {
        least = up.least;
        among = up.among;
        up = up.up;
        log = put_here forced m m k.marks.log.last refl;
        last = up.last;
        pending = record { records = []; spelled = refl; counted = (let e = put_here g.stable m m (g.written m) refl in omega (arith, e)) };
        apart = up.apart;
        each = up.each;
        copies = up.copies;
        owns = up.owns;
        no_more = up.no_more;
      };
    }
