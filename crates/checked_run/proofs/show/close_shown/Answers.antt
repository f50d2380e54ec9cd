use Rattle.std.proofs.Common.{◌≡◌}
use Rattle.group_core.specs.declared.fault.RunFault.TheVariants as fault
use Rattle.checked_run.specs.declared.ended.Ended.TheVariants as ended
use Rattle.checked_run.proofs.Restarting.{closed, restarted_as, shown_whole, unopened}
use Rattle.checked_run.proofs.show.close_shown.Goals as goal

pub returns-in-None-clause-restarts : goal.returns-in-None-clause-restarts
returns-in-None-clause-restarts g c =
    closed g.D.Disk.alive g.D.Disk.contents c.args.disk.now c.restart.new.disk (λ v at. c.told_rows.result ≡ ended.Damaged v at) c.in-None.ensures.ends (shown_whole c.args.rows.now 0 c.told_rows.result c.told_rows.ensures)

pub returns-in-Some-Failed-clause-restarts : goal.returns-in-Some-Failed-clause-restarts
returns-in-Some-Failed-clause-restarts g c =
    let why = c.in-Some-Failed.field-0 in
    let out = c.told_rows-in-Some-Failed.result in
    restarted_as g.D.Disk.alive g.D.Disk.contents c.args.disk.now c.restart.new.disk (λ v at. why ≡ fault.Damaged v at) (λ v at. out ≡ ended.Damaged v at) (λ v at e. absurd (shown_whole c.args.rows.now 5 out c.told_rows-in-Some-Failed.ensures v at e))
    (unopened g.D.Disk.alive g.D.Disk.contents c.args.disk.now c.restart.new.disk why c.in-Some-Failed.ensures.ends)

pub returns-in-Some-Damaged-clause-restarts : goal.returns-in-Some-Damaged-clause-restarts
returns-in-Some-Damaged-clause-restarts g c =
    let why = c.in-Some-Damaged.field-0 in
    let its = c.in-Some-Damaged.field-0-is in
    restarted_as g.D.Disk.alive g.D.Disk.contents c.args.disk.now c.restart.new.disk (λ v at. why ≡ fault.Damaged v at) (λ v at. ended.Damaged c.in-Some-Damaged.volume c.in-Some-Damaged.at ≡ ended.Damaged v at)
    (λ v at e. let same : ended.Damaged c.in-Some-Damaged.volume c.in-Some-Damaged.at ≡ ended.Damaged v at = e in cc)
    (unopened g.D.Disk.alive g.D.Disk.contents c.args.disk.now c.restart.new.disk why c.in-Some-Damaged.ensures.ends)

pub returns-in-Some-NoMemory-clause-restarts : goal.returns-in-Some-NoMemory-clause-restarts
returns-in-Some-NoMemory-clause-restarts g c =
    let why = c.in-Some-NoMemory.field-0 in
    restarted_as g.D.Disk.alive g.D.Disk.contents c.args.disk.now c.restart.new.disk (λ v at. why ≡ fault.Damaged v at) (λ v at. ended.NoMemory ≡ ended.Damaged v at) (λ v at e. let clash : ended.NoMemory ≡ ended.Damaged v at = e in cc)
    (unopened g.D.Disk.alive g.D.Disk.contents c.args.disk.now c.restart.new.disk why c.in-Some-NoMemory.ensures.ends)
