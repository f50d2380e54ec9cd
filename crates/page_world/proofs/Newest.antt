-- A valid copy is the group's, and what isn't changed is on disk.
use Rattle.std.proofs.Common.{◌≡◌, ℕ, refl, sym, ◌∙◌, ap, Bool, true, false, List, Option, Some, None}
use Rattle.std.specs.Prelude.{◌&&◌, unwrap_or}
use Rattle.std.proofs.lemmas.Bool.{both_ways}
use Rattle.cache_structure.specs.Frames.{is_page}
use Rattle.cache_structure.specs.Directory.{bit, bytes_of}
use Rattle.page_world.specs.Numbers.{page_at}
use Rattle.page_world.specs.Tied.{content_of}
use Rattle.page_world.specs.Newest.{ValidIsNewest, CleanIsOnDisk}
use Rattle.page_world.proofs.Reading.{coherent}

-- the group's copy in bytes
copy_bytes : (content : ℕ → List ℕ) (b : Option (List ℕ)) (o : Option ℕ) (disk : ℕ) (d : List ℕ) → b ≡ content_of content o → d ≡ content disk → content (unwrap_or o disk) ≡ unwrap_or b d
copy_bytes content b None disk d e f = sym (ap (λ x. unwrap_or x d) e ∙ f)
copy_bytes content b (Some v) disk d e f = sym (ap (λ x. unwrap_or x d) e)

all_set : (x y z : Bool) → x ≡ true → y ≡ true → z ≡ true → (x && (y && z)) ≡ true
all_set true true z a b c = c
all_set true false z a b c = b
all_set false y z a b c = a

pub valid_newest : ValidIsNewest
valid_newest w g content m n index good t at noted filled clean valid =
    let p = w.pages n in
    let tp = t.pages n in
    let co = coherent w g content good t n in
    let c = g.copies m n in
    let bound = is_page (page_at n) (g.facility.directory.registered m c.index) in
    let set : bit g.facility.directory m c.index ≡ true = ap (bit g.facility.directory m) at.at ∙ valid in
    let held : p.bit m ≡ true = sym (tp.bit m) ∙ all_set c.placed c.noted bound at.placed noted (tp.own m at.placed noted set) in
    let full = sym (tp.filled m) ∙ filled in
    let version = co.valid m full held (sym (tp.marked m) ∙ clean) in
    tp.same m full ∙ ap (content n) (version ∙ sym (co.group (there w.group.lost refl (co.lost_bits m) held))) ∙ copy_bytes (content n) (bytes_of g.facility.directory (page_at n)) p.bytes p.disk (g.disk n) tp.bytes tp.disk
  where
    there : (b : Bool) → w.group.lost ≡ b → (w.group.lost ≡ true → (w.pages n).bit m ≡ false) → (w.pages n).bit m ≡ true → w.group.lost ≡ false
    there true e none held = absurd (both_ways ((w.pages n).bit m) (none e) held)
    there false e none held = e

pub clean_on_disk : CleanIsOnDisk
clean_on_disk w g content n good t clean =
    sym (copy_bytes (content n) (bytes_of g.facility.directory (page_at n)) (w.pages n).bytes (w.pages n).disk (g.disk n) (t.pages n).bytes (t.pages n).disk) ∙ ap (content n) (by (w.pages n).bytes refl) ∙ sym (t.pages n).disk
  where
    by : (o : Option ℕ) → (w.pages n).bytes ≡ o → unwrap_or (w.pages n).bytes (w.pages n).disk ≡ (w.pages n).disk
    by None e = ap (λ x. unwrap_or x (w.pages n).disk) e
    by (Some v) e = ap (λ x. unwrap_or x (w.pages n).disk) e ∙ (coherent w g content good t n).clean v e (sym (t.pages n).changed ∙ clean)
