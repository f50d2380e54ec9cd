-- What is ready may be found again, which is nothing to what a crew is, holds and knows.
use Rattle.std.proofs.Common.{◌≡◌, ℕ, refl, sym, ◌∙◌, ap, List, [], ◌∷◌}
use Rattle.std.specs.Prelude.{map}
use Rattle.cache_structure.specs.Directory.{Directory}
use Rattle.group_member.specs.Members.{Member, member_of}
use Rattle.group_core.specs.declared.group.Group.{Group}
use Rattle.group_core.specs.Fresh.{IsLooked}
use Rattle.group_core.specs.Given.{Crew, crew_state, known_by, unlooked}
use Rattle.group_core.specs.Takes.{MemberPart}

from_unlooked : {P : Type 0} → (parts : List (MemberPart P)) → map member_of (map unlooked parts) ≡ map member_of parts
from_unlooked [] = refl
from_unlooked (p ∷ parts) = ap (λ (ms : List Member). member_of p ∷ ms) (from_unlooked parts)

known_unlooked : {P : Type 0} → (parts : List (MemberPart P)) → map known_by (map unlooked parts) ≡ map known_by parts
known_unlooked [] = refl
known_unlooked (p ∷ parts) = ap (λ (ks : List (List ℕ)). p.known ∷ ks) (known_unlooked parts)

pub looked_state : {C D P : Type 0} → (directory : C → Directory) (old new : Group D C P) → IsLooked old new → crew_state directory new.crew ≡ crew_state directory old.crew
looked_state {C} {D} {P} directory old new l =
    let members : map member_of new.crew.parts.items ≡ map member_of old.crew.parts.items =
    sym (from_unlooked new.crew.parts.items) ∙ ap (λ (ps : List (MemberPart P)). map member_of ps) l.crew.parts ∙ from_unlooked old.crew.parts.items in
    let known : map known_by new.crew.parts.items ≡ map known_by old.crew.parts.items =
    sym (known_unlooked new.crew.parts.items) ∙ ap (λ (ps : List (MemberPart P)). map known_by ps) l.crew.parts ∙ known_unlooked old.crew.parts.items in
    ap (λ (z : Crew C P). crew_state directory z) l.crew.rest ∙ (λ i. record (crew_state directory old.crew) { members = members i; known = known i })
