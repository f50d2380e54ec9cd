use Rattle.sound_tables.proofs.Pages_behind.{Known}
use Rattle.sound_tables.proofs.Places.{in_place, made_found}
use Rattle.sound_tables.proofs.place_laws.Goals as goal

pub returns-clause-stay : goal.returns-clause-stay
returns-clause-stay c =
    let k : Known = record {
      merged = c.page_laws.ensures.merged;
      behind = c.turn_laws.ensures.behind;
      grows = c.chain_laws.ensures.grows;
      page = record {
        whole = c.part_laws.ensures.whole;
        put = c.part_laws.ensures.put;
        kept = c.part_laws.ensures.kept;
        number = c.part_laws.ensures.number;
        stamp = c.part_laws.ensures.stamp;
        reads = c.image_laws.ensures.read;
        allows = c.image_laws.ensures.allowed;
      };
      blank = c.header_laws.ensures.zeros.1;
      heaps = c.name_laws.ensures.heaps;
      numbers = c.name_laws.ensures.heap_numbers;
      indexes = c.name_laws.ensures.heap_or_index;
    } in
    λ bytes logs w h t. in_place k bytes logs w h t

pub returns-clause-found : goal.returns-clause-found
returns-clause-found c =
    let k : Known = record {
      merged = c.page_laws.ensures.merged;
      behind = c.turn_laws.ensures.behind;
      grows = c.chain_laws.ensures.grows;
      page = record {
        whole = c.part_laws.ensures.whole;
        put = c.part_laws.ensures.put;
        kept = c.part_laws.ensures.kept;
        number = c.part_laws.ensures.number;
        stamp = c.part_laws.ensures.stamp;
        reads = c.image_laws.ensures.read;
        allows = c.image_laws.ensures.allowed;
      };
      blank = c.header_laws.ensures.zeros.1;
      heaps = c.name_laws.ensures.heaps;
      numbers = c.name_laws.ensures.heap_numbers;
      indexes = c.name_laws.ensures.heap_or_index;
    } in
    made_found k
