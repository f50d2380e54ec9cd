-- One page set more.
use Rattle.std.proofs.Common.{◌≡◌, ℕ, ◌+◌, ◌*◌, ◌^◌, ◌<◌, ◌≤◌, Bool, true, false, List, Option, sym, ap, subst, ◌∙◌, arith, add-one}
use Rattle.std.specs.Prelude.{nat_le}
use Rattle.std.proofs.lemmas.Bool.Decides.{nat_tests}
use Rattle.ds_base.specs.declared.names.PageId.{PageId}
use Rattle.ds_disk.specs.Contents.{Contents, WhenTold, Becomes, Same}
use Rattle.ds_disk.specs.Pages.{page_at}
use Rattle.ds_model.specs.declared.log.LogRecord.{LogRecord}
use Rattle.page_images.specs.Images.{Images}
use Rattle.page_versions.specs.Fronts.{IsPlaced}
use Rattle.disk_versions.specs.Ends.{page_of, pages_read}
use Rattle.disk_versions.specs.Placing.{written_in, written_through, AreInSet, IsFirstInSet, IsSetTold, IsCountUpTo, AreInSets, IsFirstInSets}
use Rattle.disk_versions.specs.declared.set.Placing.{Placing}
use Rattle.disk_versions.specs.declared.set.Placing.TheVariants as placing
use Rattle.disk_versions.proofs.Reading.{told_before, told_by_both}
use Rattle.disk_versions.proofs.Pages.{decide}

within : (s n : ℕ) → nat_le s n ≡ true → s ≤ n
within s n h = grind (arith, nat_tests)

last_of : (s n : ℕ) → s ≤ n + 1 → nat_le s n ≡ false → s ≡ n + 1
last_of s n le h = grind (arith, nat_tests)

placed_in : (at : Images) (records : List LogRecord) (renews : Bool) (behind set pages : ℕ) (id : PageId) → id.set ≡ set → id.number < pages_read at records behind id.set
    → AreInSet at records renews set (pages_read at records behind set) pages → IsPlaced id records renews (at id)
placed_in at records renews behind set pages id e lt h =
    subst (λ (s : ℕ). IsPlaced (page_of s id.number) records renews (at (page_of s id.number))) (sym e)
    (h.each id.number (subst (λ (s : ℕ). id.number < pages_read at records behind s) e lt))

pub set_more : (at : Images) (records : List LogRecord) (renews : Bool) (behind n pages more : ℕ) → AreInSets at records renews behind n pages
    → AreInSet at records renews (n + 1) (pages_read at records behind (n + 1)) more → AreInSets at records renews behind (n + 1) (pages + more)
set_more at records renews behind n pages more h k = record {
  each = λ id r.
      decide (nat_le id.set n) (IsPlaced id records renews (at id))
      (λ e. h.each id (record { set_from = r.set_from; set_to = within id.set n e; number_in = r.number_in }))
      (λ e. placed_in at records renews behind (n + 1) more id (last_of id.set n r.set_to e) r.number_in k);
  count =
      ap (λ (m : ℕ). m + more) h.count
      ∙ ap (λ (m : ℕ). written_through at records behind n + m) k.count
      ∙ ap (λ (m : ℕ). written_through at records behind n + written_in at m (pages_read at records behind m)) (add-one n)
      ∙ ap (λ (m : ℕ). written_through at records behind m) (sym (add-one n));
}

pub set_wrong : (at : Images) (records : List LogRecord) (renews : Bool) (behind n sets pages : ℕ) (id : PageId) → n < sets → AreInSets at records renews behind n pages
    → IsFirstInSet at records renews (n + 1) (pages_read at records behind (n + 1)) id → IsFirstInSets at records renews behind sets id
set_wrong at records renews behind n sets pages id lt h k = record {
  read = record {
    set_from = omega (arith, k.set_is);
    set_to = omega (arith, k.set_is, lt);
    number_in = subst (λ (s : ℕ). id.number < pages_read at records behind s) (sym k.set_is) k.number_in;
  };
  wrong = k.wrong;
  before = λ m less. subst (λ (s : ℕ). IsPlaced (page_of s m) records renews (at (page_of s m))) (sym k.set_is) (k.before m less);
  sets_before = λ other less r. h.each other (record { set_from = r.set_from; set_to = omega (arith, k.set_is, less); number_in = r.number_in });
}

count_in : (most more : ℕ) (found : Placing) → found ≡ placing.All more → IsCountUpTo most found → more ≤ most
count_in most more found e h = subst (λ (f : Placing). IsCountUpTo most f) e h

pub count_on : (n pages more : ℕ) (found : Placing) → found ≡ placing.All more → IsCountUpTo (2 ^ 32) found → pages ≤ n * 2 ^ 32 → pages + more ≤ (n + 1) * 2 ^ 32
count_on n pages more found e h le = let m = count_in (2 ^ 32) more found e h in omega (arith, le, m)
