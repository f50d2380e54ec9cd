use Rattle.std.proofs.Common.{◌≡◌, ℕ, List, Err, sym, ap, subst, inl, inr}
use Rattle.ds_disk.specs.Contents.{Becomes}
use Rattle.table_copy.specs.declared.fault.CopyFault.TheVariants as fault
use Rattle.copy_recover.specs.Writing.{MayBePut}
use Rattle.copy_recover.proofs.Page_steps.{put_failed, put_wanting}
use Rattle.copy_recover.proofs.pages.put.Goals as goal

pub returns-in-Err-Failed : goal.returns-in-Err-Failed
returns-in-Err-Failed g c =
    let d0 = g.D.Disk.contents c.args.disk.now in
    let d1 = g.D.Disk.contents c.write_page.new.self in
    let is = ap Err c.in-Err-Failed.field-0-is in
    record {
      ok = tt;
      begun = subst (λ (p : List ℕ). Becomes d0 d1 (MayBePut c.args.id p)) c.bytes.ensures.value (put_failed d0 d1 _ _ c.args.id c.bytes.result.now (c.in-Err-Failed.ensures.answers.failed is));
      only = λ f e. inl ((let same : fault.Disk ≡ f = cc in sym same), c.in-Err-Failed.ensures.cause.failed is);
      later = c.in-Err-Failed.ensures.cause.later;
    }

pub returns-in-Err-NoMemory : goal.returns-in-Err-NoMemory
returns-in-Err-NoMemory g c =
    let d0 = g.D.Disk.contents c.args.disk.now in
    let d1 = g.D.Disk.contents c.write_page.new.self in
    let found = c.in-Err-NoMemory.ensures.answers.no_memory (ap Err c.in-Err-NoMemory.field-0-is) in
    record {
      ok = tt;
      begun = subst (λ (p : List ℕ). Becomes d0 d1 (MayBePut c.args.id p)) c.bytes.ensures.value (put_wanting d0 d1 c.args.id c.bytes.result.now found.2);
      only = λ f e. inr (let same : fault.NoMemory ≡ f = cc in sym same);
      later = c.in-Err-NoMemory.ensures.cause.later;
    }
