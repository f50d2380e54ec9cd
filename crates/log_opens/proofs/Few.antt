-- What is left open behind records that change no row.
use Rattle.std.proofs.Common.{◌≡◌, ℕ, refl, sym, ◌∙◌, ap, Bool, true, false, List, [], ◌∷◌, ◌++◌}
use Rattle.std.specs.Prelude.{◌||◌}
use Rattle.std.specs.List.{AllByRecursion}
use Rattle.ds_model.specs.Rows.{Spot}
use Rattle.ds_model.specs.declared.log.LogRecord.{LogRecord}
use Rattle.log_rows.specs.Rows.{BothTell, IsOpenIn, OpenTell, has_changed, is_closed, touches}
use Rattle.log_trans.specs.declared.opened.OpenTran.{OpenTran}
use Rattle.log_trans.specs.Courses.{open_trans}
use Rattle.log_opens.specs.Opens.{OpensAreAll, has_opened}
use Rattle.log_opens.specs.Puts.{ChangeNone, OpensStayFew}

each : {A : Type 0} → (P Q : A → Type 0) → ((x : A) → P x → Q x) → (xs : List A) → AllByRecursion P xs → AllByRecursion Q xs
each P Q go [] h = tt
each P Q go (x ∷ xs) h = (go x h.0, each P Q go xs h.1)

or_none : (a b : Bool) → b ≡ false → (a || b) ≡ true → a ≡ true
or_none true b none h = refl
or_none false b none h = sym none ∙ h ∙ refl

or_first : (a b : Bool) → (a || b) ≡ false → a ≡ false
or_first true b h = h
or_first false b h = refl

abbrev StaysOpen : List LogRecord → OpenTran → Type 0
StaysOpen records t = (s : Spot) → touches t s ≡ true → has_opened (open_trans records) t.id s ≡ true

pub opens_stay_few : BothTell → OpenTell → OpensAreAll → OpensStayFew
opens_stay_few law opens all records more none = each (IsOpenIn (records ++ more)) (StaysOpen records) stays (open_trans (records ++ more)) (opens (records ++ more))
  where
    stays : (t : OpenTran) → IsOpenIn (records ++ more) t → StaysOpen records t
    stays t is s touched =
        let changed : has_changed records t.id s ≡ true =
        or_none (has_changed records t.id s) (has_changed more t.id s) (none t.id s) (sym (law.changed records more t.id s) ∙ is.changed s touched) in
        let unclosed : is_closed records t.id ≡ false =
        or_first (is_closed records t.id) (is_closed more t.id) (sym (law.closed records more t.id) ∙ is.unclosed) in
        all records t.id s is.numbered changed unclosed
