-- The one spelling of a picture. Titles and labels are names and words, in which nothing has to be escaped.
use Rattle.std.specs.Prelude.{ℕ, Bool, true, false, if◌then◌else◌, ◌==◌, List, [], ◌∷◌, ◌++◌, length, codes, decimal}
use Rattle.std.specs.List.{flat_map}
use Rattle.picture_text.specs.declared.picture.Kind.{Kind}
use Rattle.picture_text.specs.declared.picture.Kind.TheVariants as kind
use Rattle.picture_text.specs.declared.picture.Spot.{Spot}
use Rattle.picture_text.specs.declared.picture.Shape.{Shape}
use Rattle.picture_text.specs.declared.picture.Picture.{Picture}

abbrev pub kind_word : Kind → List ℕ
kind_word kind.Lane = codes "lane"
kind_word kind.Phase = codes "phase"
kind_word kind.Answered = codes "answered"
kind_word kind.Unanswered = codes "unanswered"
kind_word kind.Refused = codes "refused"
kind_word kind.Stopped = codes "stopped"
kind_word kind.Wait = codes "wait"
kind_word kind.Rung = codes "rung"
kind_word kind.Event = codes "event"
kind_word kind.Page = codes "page"
kind_word kind.Failure = codes "failure"
kind_word kind.Mended = codes "mended"
kind_word kind.Cause = codes "cause"

abbrev pub is_area : Kind → Bool
is_area kind.Lane = true
is_area kind.Answered = true
is_area kind.Unanswered = true
is_area kind.Refused = true
is_area kind.Stopped = true
is_area kind.Wait = true
is_area _ = false

abbrev pub line : List ℕ → List ℕ
line text = text ++ 10 ∷ []

-- a number behind a text
unfoldable pub counted : List ℕ → ℕ → List ℕ
counted text n = text ++ decimal n

-- the sides of an area, back to its first corner
unfoldable pub sides : Spot → Spot → List ℕ
sides from to = counted (codes "H") to.across ++ (counted (codes "V") to.down ++ (counted (codes "H") from.across ++ codes "Z"))

unfoldable pub spot_text : List ℕ → Spot → List ℕ
spot_text text s = counted text s.across ++ counted (codes " ") s.down

abbrev pub rest_of_path : Kind → Spot → Spot → List ℕ
rest_of_path k from to = if is_area k then sides from to else spot_text (codes "L") to

unfoldable pub path_text : Shape → List ℕ
path_text s = spot_text (codes "<path d='M") s.from ++ (rest_of_path s.kind s.from s.to ++ codes "'/>")

unfoldable pub label_opening : List ℕ
label_opening = codes "<text dx='5' dy='13' x='"

unfoldable pub label_place : Spot → List ℕ
label_place at = counted label_opening at.across ++ counted (codes "' y='") at.down

unfoldable pub label_at : Spot → List ℕ → List ℕ
label_at at label = label_place at ++ (codes "'>" ++ (label ++ codes "</text>"))

abbrev pub label_text : Spot → List ℕ → List ℕ
label_text at label = if length label == 0 then [] else label_at at label

unfoldable pub title_text : Kind → List ℕ → List ℕ
title_text k title = codes "<g class='" ++ (kind_word k ++ (codes "'><title>" ++ (title ++ codes "</title>")))

unfoldable pub shape_text : Shape → List ℕ
shape_text s = title_text s.kind s.title ++ (path_text s ++ (label_text s.from s.label ++ line (codes "</g>")))

abbrev pub shapes_text : List Shape → List ℕ
shapes_text shapes = flat_map shape_text shapes

unfoldable pub width_text : List ℕ
width_text = codes "<svg viewBox='0 0 1400 "

unfoldable pub opening : ℕ → List ℕ
opening height = counted width_text height ++ codes "' "

-- those on which the others stand, then what the run did, then what is over it
unfoldable pub lower : Picture → List ℕ
lower p = shapes_text p.lanes ++ (shapes_text p.phases ++ (shapes_text p.bars ++ shapes_text p.waits))

unfoldable pub upper : Picture → List ℕ
upper p = shapes_text p.events ++ (shapes_text p.pages ++ (shapes_text p.marks ++ shapes_text p.causes))

-- the style stands behind the opening
unfoldable pub picture_text : List ℕ → Picture → List ℕ
picture_text style p = opening p.height ++ (style ++ (lower p ++ (upper p ++ line (codes "</svg>"))))
