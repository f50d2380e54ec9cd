use Rattle.std.proofs.Common.{◌≡◌, drop, true}
use Rattle.ds_disk.specs.Pages.{put_pages}
use Rattle.ds_disk.specs.Written.{have_bytes}
use Rattle.ds_disk.proofs.page_map.PageMap.write_all.Given as goal

abbrev pub invariant-loop-id : goal.invariant-loop-id
invariant-loop-id l =
    record {
      put : put_pages l.self (drop l.id-index l.pages) ≡ put_pages l.fn.self l.pages;
      bytes : have_bytes l.fn.self ≡ true → have_bytes l.self ≡ true;
    }
