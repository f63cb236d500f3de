-- Marks of places of which none is on.
use Rattle.std.specs.Prelude.{◌≡◌, Bool, false, List, [], ◌∷◌, ⊤}

-- none of the marks is on
abbrev pub AreOff : List Bool → Type 0
AreOff [] = ⊤
AreOff (mark ∷ marks) = (mark ≡ false) × AreOff marks
