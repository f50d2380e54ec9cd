-- A read or a write that is refused changes nothing.
use Rattle.std.proofs.Common.{◌≡◌, ℕ, refl, sym, ◌∙◌, ap, Bool, true, false, inl, inr, List, Option, Some, None}
use Rattle.std.specs.Prelude.{◌⊎◌, if◌then◌else◌, is_some, is_none, unwrap_or}
use Rattle.std.specs.Option.{option_map_or}
use Rattle.std.proofs.lemmas.Bool.{cond-true, cond-false}
use Rattle.ds_base.specs.declared.names.PageId.{PageId}
use Rattle.cache_structure.specs.declared.face.ReadReply.TheVariants as read
use Rattle.cache_structure.specs.declared.face.WriteReply.TheVariants as write
use Rattle.cache_structure.specs.Entries.{Entry, entry_of}
use Rattle.cache_structure.specs.Directory.{Directory, bytes_of, made, with_newest, with_entry, registers, written_by, after_read, after_write}
use Rattle.cache_structure.specs.Replies.{read_into}
use Rattle.facility.specs.declared.command.Reply.{Reply}
use Rattle.facility.specs.declared.command.Reply.TheVariants as reply
use Rattle.facility.specs.CacheCommands.{reply_to_read, reply_to_write}
use Rattle.page_world.specs.Refusals.{ReadRefused, WriteRefused}

-- no entry is found or made where none can be had, or the cache is lost
abbrev IsRefused : Directory → PageId → Type 0
IsRefused d id = (d.lost ≡ true) ⊎ ((d.lost ≡ false) × (with_entry d id ≡ None))

read_refused : (d : Directory) (id : PageId) (answer : Reply) (l b : Bool) (o : Option Directory) → d.lost ≡ l → with_entry d id ≡ o → (answer ≡ reply.CacheFull) ⊎ (answer ≡ reply.Lost)
    → answer ≡ reply_to_read (if l then read.Lost else if is_none o then read.CacheFull else if b then read.Found else read.NoData) → IsRefused d id
read_refused d id answer true b o x y which e = inl x
read_refused d id answer false b None x y which e = inr (x, y)
read_refused d id answer false true (Some made) x y (inl f) e = absurd (let both : reply.CacheFull ≡ reply.Found = sym f ∙ e in cc both)
read_refused d id answer false true (Some made) x y (inr f) e = absurd (let both : reply.Lost ≡ reply.Found = sym f ∙ e in cc both)
read_refused d id answer false false (Some made) x y (inl f) e = absurd (let both : reply.CacheFull ≡ reply.NoData = sym f ∙ e in cc both)
read_refused d id answer false false (Some made) x y (inr f) e = absurd (let both : reply.Lost ≡ reply.NoData = sym f ∙ e in cc both)

write_refused : (d : Directory) (id : PageId) (answer : Reply) (l : Bool) (o : Option Directory) → d.lost ≡ l → with_entry d id ≡ o → (answer ≡ reply.CacheFull) ⊎ (answer ≡ reply.Lost)
    → answer ≡ reply_to_write (if l then write.Lost else if is_none o then write.CacheFull else write.Written) → IsRefused d id
write_refused d id answer true o x y which e = inl x
write_refused d id answer false None x y which e = inr (x, y)
write_refused d id answer false (Some made) x y (inl f) e = absurd (let both : reply.CacheFull ≡ reply.Written = sym f ∙ e in cc both)
write_refused d id answer false (Some made) x y (inr f) e = absurd (let both : reply.Lost ≡ reply.Written = sym f ∙ e in cc both)

-- the page has no entry then, and so no bytes
no_entry : (d : Directory) (id : PageId) (o : Option Entry) → option_map_or (λ e. Some (with_newest d e)) o (made d id) ≡ None → o ≡ None
no_entry d id None h = refl
no_entry d id (Some e) h = absurd (cc h)

same_bytes : (d : Directory) (id : PageId) (page : List ℕ) → IsRefused d id → read_into d id page ≡ page
same_bytes d id page (inl lost) = cond-true d.lost page (unwrap_or (bytes_of d id) page) lost
same_bytes d id page (inr r) =
    cond-false d.lost page (unwrap_or (bytes_of d id) page) r.0 ∙ ap (λ o. unwrap_or (option_map_or (λ (e : Entry). e.bytes) o None) page) (no_entry d id (entry_of d.entries id) r.1)

same_read : (d : Directory) (m : ℕ) (id : PageId) (index : ℕ) → IsRefused d id → after_read d m id index ≡ d
same_read d m id index (inl lost) = cond-true d.lost d (option_map_or (λ x. registers x m id index) (with_entry d id) d) lost
same_read d m id index (inr r) = cond-false d.lost d (option_map_or (λ x. registers x m id index) (with_entry d id) d) r.0 ∙ ap (λ o. option_map_or (λ x. registers x m id index) o d) r.1

same_write : (d : Directory) (m : ℕ) (id : PageId) (index : ℕ) (page : List ℕ) → IsRefused d id → after_write d m id index page ≡ d
same_write d m id index page (inl lost) = cond-true d.lost d (option_map_or (λ x. registers (written_by x m id page) m id index) (with_entry d id) d) lost
same_write d m id index page (inr r) =
    cond-false d.lost d (option_map_or (λ x. registers (written_by x m id page) m id index) (with_entry d id) d) r.0 ∙ ap (λ o. option_map_or (λ x. registers (written_by x m id page) m id index) o d) r.1

pub reads_nothing : ReadRefused
reads_nothing f v m index id page bytes answer which r =
    let it = read_refused f.directory id answer f.directory.lost (is_some (bytes_of f.directory id)) (with_entry f.directory id) refl refl which r.0 in
    (r.1 ∙ ap (λ (d : Directory). record f { directory = d }) (same_read f.directory m id index it), r.2 ∙ same_bytes f.directory id page it)

pub writes_nothing : WriteRefused
writes_nothing f v m index id page answer which r =
    let it = write_refused f.directory id answer f.directory.lost (with_entry f.directory id) refl refl which r.0 in
    r.1 ∙ ap (λ (d : Directory). record f { directory = d }) (same_write f.directory m id index page it)
