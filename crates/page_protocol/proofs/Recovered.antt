-- What a rebuild and group restart leave.
use Rattle.std.proofs.Common.{◌≡◌, ℕ, ◌≤◌, refl, sym, ◌∙◌, ap, subst, true}
use Rattle.std.specs.Prelude.{unwrap_or}
use Rattle.page_protocol.specs.Page.{Page, Group, Up, group_copy, risen}
use Rattle.page_protocol.specs.Moves.{World, all_up}
use Rattle.page_protocol.specs.Coherent.{Coherent}
use Rattle.page_protocol.specs.Down.{Grounded}
use Rattle.page_protocol.specs.Words.{IsWhole, IsRecovered, AfterRebuild, AfterGroupRestart}
use Rattle.page_protocol.proofs.Whole.{all_read}
use Rattle.page_protocol.proofs.Runs.{all_running, all_fallen}

rebuilt_copy : (g : Group) (p : Page) → Coherent g p → g.lost ≡ true → p.disk ≡ p.shared → (p.at_loss ≤ group_copy p) × (group_copy p ≡ p.disk)
rebuilt_copy g p s lost done =
    let is : group_copy p ≡ p.disk = ap (λ b. unwrap_or b p.disk) (s.lost_bytes lost) in
    (subst (λ x. p.at_loss ≤ x) (sym (is ∙ done)) (s.lost_copy lost), is)

pub after_rebuild : AfterRebuild
after_rebuild set w v s st = subst (λ (x : World). IsWhole x × ((n : ℕ) → ((w.pages n).at_loss ≤ group_copy (x.pages n)) × (group_copy (x.pages n) ≡ (x.pages n).disk))) (sym st.3)
    ((refl, refl), λ n. rebuilt_copy w.group (w.pages n) (all_running w st.0 s n) st.1 (all_read w.group (w.pages n) (all_running w st.0 s n) st.1 (st.2 n)))

recovered : (g : Group) (p : Page) → Grounded g p → p.disk ≡ p.last → IsRecovered (all_up g) (risen p)
recovered g p s done = record {
  disk = done;
  copy = ap (λ b. unwrap_or b p.disk) s.no_bytes ∙ done;
  stable = s.all_stable;
  free = s.no_owner;
  no_frames = s.no_frames;
  no_bits = s.no_bits;
}

pub after_group_restart : AfterGroupRestart
after_group_restart set w v s st = subst (λ (x : World). IsWhole x × ((m : ℕ) → x.group.status m ≡ Up) × ((n : ℕ) → IsRecovered x.group (x.pages n))) (sym st.2)
    ((refl, refl), (λ m. refl), λ n. recovered w.group (w.pages n) (all_fallen w st.0 s n) (st.1 n))
