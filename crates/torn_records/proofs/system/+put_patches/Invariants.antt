use Rattle.torn_records.proofs.system.+put_patches.Given as goal

abbrev pub decreases-put_patches : goal.decreases-put_patches
decreases-put_patches l = l.count
