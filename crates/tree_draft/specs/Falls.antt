-- The kids' names of a changed node, of which some have fallen away. Only private functions and proofs cite this.
use Rattle.std.specs.Prelude.{◌≤◌, ◌+◌, ◌∷◌, [], ℕ, Bool, List, nat_le, if◌then◌else◌, ◌++◌}
use Rattle.std.specs.Map.{lookup}
use Rattle.std.specs.Option.{option_map_or}
use Rattle.std.specs.Str.{bytes_eq}
use Rattle.sp_base.specs.Texts.{Text}

-- names, each with how long the list was when it last fell away: the list keeps the names that fall away, so they count
abbrev pub NameFalls : Type 0
NameFalls = List (List ℕ × ℕ)

-- how long the list was when a name last fell away
abbrev pub fall_of : NameFalls → List ℕ → ℕ
fall_of falls name = option_map_or (λ n. n) (lookup (bytes_eq name) falls) 0

-- whether a name at a place of the list stands: it came after the name's last fall
abbrev pub stands : NameFalls → ℕ → List ℕ → Bool
stands falls place name = nat_le (fall_of falls name) place

-- the name after others, where it stands at a place of the list
abbrev pub with_standing : NameFalls → ℕ → Text → List Text → List Text
with_standing falls place name names = if stands falls place name then names ++ name ∷ [] else names

-- the names that stand in a list whose first name has the place
unfoldable pub standing_names : NameFalls → ℕ → List Text → List Text
standing_names falls place [] = []
standing_names falls place (name ∷ names) = if stands falls place name then name ∷ standing_names falls (place + 1) names else standing_names falls (place + 1) names

-- each name fell away when the list was no longer than this
abbrev pub FellWithin : ℕ → NameFalls → Type 0
FellWithin size falls = (name : List ℕ) → fall_of falls name ≤ size
