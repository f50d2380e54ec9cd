use Rattle.std.proofs.Common.{◌≡◌, ℕ, sym, ap, ◌∙◌}
use Rattle.ds_base.specs.declared.names.PageId.{PageId}
use Rattle.table_image_text.specs.Image.{heap_in, page_name}
use Rattle.copy_recover.specs.Recovered.{taken_from}
use Rattle.copy_recover.proofs.Held.{held_is}
use Rattle.copy_recover.proofs.pages.load_held.Goals as goal

pub returns : goal.returns
returns c =
    let image = c.args.image.now in
    let name : c.page_name.result ≡ page_name c.args.table (heap_in image) c.args.n = c.page_name.ensures ∙ ap (λ (m : ℕ). page_name c.args.table m c.args.n) c.heap_pages-heap.ensures in
    record {
      name = name;
      page = c.load_page.ensures ∙ sym (ap (λ (p : PageId). taken_from image c.args.table p) name ∙ held_is image c.args.table c.args.n c.number-number.ensures.range.0 c.requires.below);
    }
