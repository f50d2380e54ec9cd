-- What a call of the disk leaves of the pages that it tells.
use Rattle.std.proofs.Common.{◌≡◌, ◌⊎◌, ℕ, refl, ◌∙◌, ap, subst, Bool, inl, inr, List, Option, Some, None, Ok, Err}
use Rattle.std.proofs.lemmas.Option.{none-some}
use Rattle.ds_disk.specs.Answers.{Answers}
use Rattle.ds_disk.specs.Contents.{Becomes, Contents, Same}
use Rattle.ds_disk.specs.Pages.{Pages}
use Rattle.ds_disk.specs.Pages as disk
use Rattle.ds_disk.specs.declared.disk.DiskError.TheVariants as failures
use Rattle.group_restart.specs.declared.reply.Reply.{Reply}
use Rattle.page_world.specs.Numbers.{page_at}
use Rattle.page_recoveries.specs.Given.{Drive, Shows}

becomes_told : (o p : Option Contents) (c : Contents) (P : Contents → Contents → Type 0) → o ≡ Some c → Becomes o p P → (x : Contents) × (p ≡ Some x) × P c x
becomes_told None p c P e b = absurd (none-some c e)
becomes_told (Some a) None c P e b = absurd b
becomes_told (Some a) (Some x) c P e b = (let same : a ≡ c = cc in (x, refl, subst (λ (z : Contents). P z x) same b))

module _ {was now : Bool} {before after : Option Contents} {Done : Reply → Contents → Contents → Type 0} {Torn : Contents → Contents → Type 0} (c : Contents) (told : before ≡ Some c) where
  -- behind one that was done
  pub done_told : (r : Reply) → Answers was now before after (Ok r) Done Torn → (x : Contents) × (after ≡ Some x) × Done r c x
  done_told r a = becomes_told before after c (Done r) told a.ok.2

  -- and behind one that has failed, wholly or in part
  pub failed_told : Answers was now before after (Err failures.Failed) Done Torn → (x : Contents) × (after ≡ Some x) × ((x ≡ c) ⊎ Torn c x)
  failed_told a = elim (a.failed refl) [
    | inl h ↦ (let t : (x : Contents) × (after ≡ Some x) × (x ≡ c) = becomes_told before after c Same told h.1 in (t.0, t.1, inl t.2))
    | inr h ↦ (let t : (x : Contents) × (after ≡ Some x) × Torn c x = becomes_told before after c Torn told h.1 in (t.0, t.1, inr t.2))
  ]

-- it shows the same pages
pub shows_same : (d e : Drive) (pages : ℕ → List ℕ) (s : Shows d pages) (x : Contents) → e.contents ≡ Some x → x.pages ≡ s.contents.pages → Shows e pages
shows_same d e pages s x told same = record { contents = x; told = told; each = λ n. ap (λ (z : Pages). disk.page_at z (page_at n)) same ∙ s.each n }
