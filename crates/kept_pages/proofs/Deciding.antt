-- Where the seventh clause of a sound disk holds, and where it doesn't.
use Rattle.std.proofs.Common.{◌≡◌, Bool, true, false, List, [], ◌∷◌, Option, None, Some, inl, inr}
use Rattle.ds_base.specs.declared.names.PageId.{PageId}
use Rattle.disk_spots.specs.declared.spot.Spot.{Spot}
use Rattle.log_record.specs.declared.log.Log.{Log}
use Rattle.page_images.specs.Images.{Images}
use Rattle.sound_disk.specs.Checkpoints.{AreCheckpointed}
use Rattle.kept_checkpoints.specs.Needs.{needs_of, NeedsAreMet, NeedsTell}
use Rattle.kept_checkpoints.specs.Offsets.{OffsetsFit, bad_spot}
use Rattle.kept_pages.specs.Unmet.{has_unmet, AreJudged}
use Rattle.kept_pages.specs.Unkept.{page_spot, AreKept}
use Rattle.kept_pages.proofs.Judged.{none_unmet}

offsets_of : (at : Images) (logs : List Log) → AreCheckpointed at logs → OffsetsFit logs
offsets_of at [] h = tt
offsets_of at (l ∷ ls) h = (h.0.offsets, offsets_of at ls h.1)

not_both : (b : Bool) → b ≡ true → b ≡ false → ⊥
not_both true h k = absurd cc
not_both false h k = absurd cc

pub are_kept : NeedsAreMet → NeedsTell → (at : Images) (logs : List Log) (found : Option PageId) → OffsetsFit logs → AreJudged at (needs_of logs) found → AreKept at logs (page_spot found)
are_kept met tell at logs None o h = tell at logs o h
are_kept met tell at logs (Some id) o h = record {
  lacking = λ k. not_both (has_unmet at (needs_of logs) id) h.unmet (none_unmet at (needs_of logs) id (met at logs k));
  spot_is = inr (o, h);
}

pub bad_kept : (at : Images) (logs : List Log) (s : Spot) → bad_spot logs ≡ Some s → (OffsetsFit logs → ⊥) → AreKept at logs (Some s)
bad_kept at logs s e misfit = record { lacking = λ k. misfit (offsets_of at logs k); spot_is = inl e }
