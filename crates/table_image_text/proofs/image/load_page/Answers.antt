use Rattle.std.proofs.Common.{◌≡◌, ℕ, ◌+◌, ◌-◌, take, drop, ap, ◌∙◌, arith}
use Rattle.page_format.specs.Fields.{page_size}
use Rattle.table_image_text.specs.Image.{place_of}
use Rattle.table_image_text.proofs.image.load_page.Goals as goal

pub returns : goal.returns
returns c =
    let e : place_of c.args.n + page_size - place_of c.args.n ≡ page_size = omega arith in
    c.copy_from_slice.ensures.after
    ∙ ap (λ (a : ℕ). take (a + page_size - a) (drop a c.args.bytes.now)) c.place_of-at.ensures.exact
    ∙ ap (λ (k : ℕ). take k (drop (place_of c.args.n) c.args.bytes.now)) e
