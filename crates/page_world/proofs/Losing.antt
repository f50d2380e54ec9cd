-- A loss of the cache structure, its rebuild, and events that the world of pages doesn't see.
use Rattle.std.proofs.Common.{◌≡◌, ℕ, refl, sym, ◌∙◌, ap, subst, Bool, true, false, List, [], ◌∷◌, Option, Some, None}
use Rattle.std.specs.Prelude.{◌≢◌, if◌then◌else◌, is_some}
use Rattle.std.proofs.lemmas.Bool.{both_ways}
use Rattle.cache_structure.specs.Directory.{Directory, after_lose, after_rebuilt}
use Rattle.facility.specs.States.{Held, ring}
use Rattle.page_protocol.specs.Page.{Page, Group, put, lose, rebuild}
use Rattle.page_protocol.specs.Moves.{World, Lose, Rebuild, Rebuilt, without_cache, with_cache, log_read}
use Rattle.page_protocol.specs.Coherent.{Coherent}
use Rattle.page_world.specs.Holdings.{Holdings, held_of, KeepsPages, with_facility, with_directory}
use Rattle.page_world.specs.Tied.{PageTied, content_of, Tied, Moved}
use Rattle.page_world.specs.Losses.{StaysTied, LosesMoves, ReadsLogMoves, RebuildsMoves, RebuiltMoves}
use Rattle.page_world.proofs.Slices.{Alike, Beside, alike_tied, none_moved, all_alike, one_moved}
use Rattle.page_world.proofs.Entering.{no_bit}
use Rattle.page_world.proofs.Copies.{put_here, put_there}
use Rattle.page_world.proofs.Reading.{coherent}

-- ---- the pages beside another facility with the same directory
pub same_directory : (g : Holdings) (v : Held) (n : ℕ) → v.directory ≡ g.facility.directory → Alike (held_of g n) (held_of (with_facility g v) n)
same_directory g v n e = subst (λ (d : Directory). Alike (held_of g n) (held_of (with_facility g (record v { directory = d })) n)) (sym e)
    (record { bytes = refl; changed = refl; castout = refl; written = refl; disk = refl; bound = λ k x y. refl; set = λ k x y z. z; copies = λ k. refl; casts = λ k. refl; owner = refl })

pub keeps_beside : (w : World) (g : Holdings) (content : ℕ → ℕ → List ℕ) (v : Held) → Tied w g content → KeepsPages g.facility v → Beside g (with_facility g v)
keeps_beside w g content v t s = record {
  lost = ap (λ (d : Directory). d.lost) s.directory;
  counter = s.counter;
  members = s.members;
  statuses = s.statuses;
  stable = λ m. refl;
  written = λ m. refl;
  apart = t.apart;
}

pub stays : StaysTied
stays w g content v t s = none_moved w g (with_facility g v) content t (keeps_beside w g content v t s) (all_alike w g (with_facility g v) content t (λ n. same_directory g v n s.directory))

-- ---- a loss
lost_page : (g : Holdings) (p : Page) (content : ℕ → List ℕ) (n : ℕ) → PageTied (held_of g n) p content → PageTied (held_of (with_directory g (after_lose g.facility.directory)) n) (lose p) content
lost_page g p content n t = record {
  bytes = refl;
  changed = refl;
  there = λ e. absurd (both_ways false refl e);
  castout = refl;
  written = λ m e. absurd (none_held m e);
  disk = t.disk;
  bit = λ m. no_bit (g.copies m n) false refl;
  own = λ m x y z. absurd (both_ways false refl z);
  filled = t.filled;
  marked = t.marked;
  same = t.same;
  indirect = t.indirect;
  buffer = λ m x e. absurd (none_held m e);
  sent = λ m x e. absurd (none_held m e);
  owner = t.owner;
  part = t.part;
}
  where
    none_held : (m : ℕ) → ◌≡◌ {A = Option ℕ} None (Some m) → ⊥
    none_held m e = cc e

-- a page that was lost
clean_lost : (b : Bool) (o : Option ℕ) → (b ≡ true → is_some o ≡ true) → o ≡ None → false ≡ b
clean_lost false o h e = refl
clean_lost true o h e = absurd (both_ways (is_some o) (ap is_some e) (h refl))

lost_again : (g : Holdings) (h : Group) (p : Page) (content : ℕ → List ℕ) (n : ℕ) → h.lost ≡ true → Coherent h p → PageTied (held_of g n) p content → PageTied (held_of (with_directory g (after_lose g.facility.directory)) n) p content
lost_again g h p content n lost co t = record {
  bytes = sym (ap (content_of content) (co.lost_bytes lost));
  changed = clean_lost p.changed p.bytes t.there (co.lost_bytes lost);
  there = t.there;
  castout = sym (co.lost_castout lost);
  written = λ m e. absurd (none_held m e);
  disk = t.disk;
  bit = λ m. no_bit (g.copies m n) false refl ∙ sym (co.lost_bits m lost);
  own = λ m x y z. absurd (both_ways false refl z);
  filled = t.filled;
  marked = t.marked;
  same = t.same;
  indirect = t.indirect;
  buffer = λ m x e. absurd (none_held m e);
  sent = λ m x e. absurd (none_held m e);
  owner = t.owner;
  part = t.part;
}
  where
    none_held : (m : ℕ) → p.castout ≡ Some m → ⊥
    none_held m e = let both : ◌≡◌ {A = Option ℕ} None (Some m) = sym (co.lost_castout lost) ∙ e in cc both

pub loses : LosesMoves
loses w g content answer v good t r =
    subst (λ (x : Held). Moved w (if g.facility.directory.lost then [] else Lose ∷ []) (with_facility g x) content) (sym r.1) (by g.facility.directory.lost refl)
  where
    after : Holdings
    after = with_directory g (after_lose g.facility.directory)

    by : (b : Bool) → g.facility.directory.lost ≡ b → Moved w (if b then [] else Lose ∷ []) after content
    by true lost = none_moved w g after content t
        (record { lost = sym lost; counter = refl; members = refl; statuses = refl; stable = λ m. refl; written = λ m. refl; apart = t.apart })
        (λ n. lost_again g w.group (w.pages n) (content n) n (t.lost ∙ lost) (coherent w g content good t n) (t.pages n))
    by false there = record {
      world = record { down = false; group = without_cache w.group; pages = λ n. lose (w.pages n) };
      run = (record { down = false; group = without_cache w.group; pages = λ n. lose (w.pages n) }, (t.running, t.lost ∙ there, refl), refl);
      tied = record {
        running = refl;
        lost = refl;
        counter = t.counter;
        status = t.status;
        stable = t.stable;
        written = t.written;
        apart = t.apart;
        pages = λ n. lost_page g (w.pages n) (content n) n (t.pages n);
      };
    }

-- ---- a rebuild
pub reads_log : ReadsLogMoves
reads_log w g content m t lost = record {
  world = record { down = false; group = log_read w.group m; pages = w.pages };
  run = (record { down = false; group = log_read w.group m; pages = w.pages }, (t.running, t.lost ∙ lost, refl), refl);
  tied = record { running = refl; lost = t.lost; counter = t.counter; status = t.status; stable = t.stable; written = t.written; apart = t.apart; pages = t.pages };
}

-- another page on disk
disk_beside : (g : Holdings) (n j : ℕ) (bytes : List ℕ) → j ≢ n → Alike (held_of g j) (held_of (record g { disk = put g.disk n bytes }) j)
disk_beside g n j bytes ne = record { bytes = refl; changed = refl; castout = refl; written = refl; disk = put_there g.disk n j bytes ne; bound = λ k x y. refl; set = λ k x y z. z; copies = λ k. refl; casts = λ k. refl; owner = refl }

pub rebuilds : RebuildsMoves
rebuilds w g content n version t lost read =
    let tp = t.pages n in
    one_moved w g (record g { disk = put g.disk n (content n version) }) content n (Rebuild version) (rebuild (w.pages n) version) t
    (record { lost = refl; counter = refl; members = refl; statuses = refl; stable = λ m. refl; written = λ m. refl; apart = t.apart })
    (t.lost ∙ lost, read, refl)
    (record {
      bytes = tp.bytes;
      changed = tp.changed;
      there = tp.there;
      castout = tp.castout;
      written = tp.written;
      disk = put_here g.disk n (content n version);
      bit = tp.bit;
      own = tp.own;
      filled = tp.filled;
      marked = tp.marked;
      same = tp.same;
      indirect = tp.indirect;
      buffer = tp.buffer;
      sent = tp.sent;
      owner = tp.owner;
      part = tp.part;
    })
    (λ j ne. disk_beside g n j (content n version) ne)

-- the directory isn't lost any more
there_alike : (g : Holdings) (n : ℕ) → Alike (held_of g n) (held_of (record g { facility = record g.facility { directory = after_rebuilt g.facility.directory; lists = ring g.facility.lists } }) n)
there_alike g n = record { bytes = refl; changed = refl; castout = refl; written = refl; disk = refl; bound = λ k x y. refl; set = λ k x y z. z; copies = λ k. refl; casts = λ k. refl; owner = refl }

pub rebuilt : RebuiltMoves
rebuilt w g content answer v t read r =
    subst (λ (x : Held). Moved w (if g.facility.directory.lost then Rebuilt ∷ [] else []) (with_facility g x) content) (sym r.1) (by g.facility.directory.lost refl)
  where
    after : Holdings
    after = record g { facility = record g.facility { directory = after_rebuilt g.facility.directory; lists = ring g.facility.lists } }

    each : (n : ℕ) → PageTied (held_of after n) (w.pages n) (content n)
    each n = alike_tied (held_of g n) (held_of after n) (w.pages n) (content n) (there_alike g n) (t.pages n)

    by : (b : Bool) → g.facility.directory.lost ≡ b → Moved w (if b then Rebuilt ∷ [] else []) after content
    by false there = none_moved w g after content t (record { lost = sym there; counter = refl; members = refl; statuses = refl; stable = λ m. refl; written = λ m. refl; apart = t.apart }) each
    by true lost = record {
      world = record { down = false; group = with_cache w.group; pages = w.pages };
      run = (record { down = false; group = with_cache w.group; pages = w.pages }, (t.running, t.lost ∙ lost, read lost, refl), refl);
      tied = record { running = refl; lost = refl; counter = t.counter; status = t.status; stable = t.stable; written = t.written; apart = t.apart; pages = each };
    }
