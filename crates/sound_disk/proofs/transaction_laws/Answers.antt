use Rattle.sound_disk.proofs.Pages.{all_rise}
use Rattle.sound_disk.proofs.Undamaged.{undamaged}
use Rattle.sound_disk.proofs.transaction_laws.Goals as goal

pub returns : goal.returns
returns c = λ bytes logs h t. undamaged logs (all_rise 1 bytes logs h) t
