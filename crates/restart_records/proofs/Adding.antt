-- One more behind those that were added.
use Rattle.std.proofs.Common.{◌≡◌, List, [], ◌∷◌, ◌++◌, refl}
use Rattle.log_trans.specs.declared.opened.OpenTran.{OpenTran}
use Rattle.page_records.specs.declared.places.PageRecords.{PageRecords}
use Rattle.restart_records.specs.Maps.{PagePlaces, with_places}
use Rattle.restart_records.specs.Own.{all_put}
use Rattle.restart_records.specs.Trans.{TransState, added, all_added}

pub added_last : (t : TransState) (os : List OpenTran) (o : OpenTran) → all_added t (os ++ o ∷ []) ≡ added (all_added t os) o
added_last t [] o = refl
added_last t (x ∷ os) o = added_last (added t x) os o

pub put_last : (places : PagePlaces) (ps : List PageRecords) (p : PageRecords) → all_put places (ps ++ p ∷ []) ≡ with_places (all_put places ps) p.page p.places
put_last places [] p = refl
put_last places (x ∷ ps) p = put_last (with_places places x.page x.places) ps p
