-- How often the last of some places stands.
use Rattle.std.proofs.Common.{◌≡◌, List, [], ◌∷◌, ◌++◌, Option, Some, None, refl, ap, ◌∙◌}
use Rattle.regex_rules.specs.declared.repeat.Repeat.{Repeat}
use Rattle.regex_rules.specs.declared.place.PatternPlace.{PatternPlace}
use Rattle.regex_rules.specs.Reading.{repeated_place, then_place, before_place, with_repeat}

abbrev put : List PatternPlace → Option PatternPlace → Option (List PatternPlace)
put rest None = None
put rest (Some place) = Some (rest ++ place ∷ [])

before_put : (p : PatternPlace) (rest : List PatternPlace) (o : Option PatternPlace) → before_place p (put rest o) ≡ put (p ∷ rest) o
before_put p rest None = refl
before_put p rest (Some place) = refl

put_none : (o : Option PatternPlace) → then_place [] o ≡ put [] o
put_none None = refl
put_none (Some place) = refl

at_last : (repeat : Repeat) (rest : List PatternPlace) (last : PatternPlace) → with_repeat repeat (rest ++ last ∷ []) ≡ put rest (repeated_place repeat last)
unfolding with_repeat
at_last repeat [] last = put_none (repeated_place repeat last)
at_last repeat (p ∷ []) last = ap (before_place p) (at_last repeat [] last) ∙ before_put p [] (repeated_place repeat last)
at_last repeat (p ∷ q ∷ rest) last = ap (before_place p) (at_last repeat (q ∷ rest) last) ∙ before_put p (q ∷ rest) (repeated_place repeat last)

pub nothing_last : (repeat : Repeat) (places : List PatternPlace) → places ≡ [] → with_repeat repeat places ≡ None
unfolding with_repeat
nothing_last repeat places e = ap (with_repeat repeat) e

pub none_last : (repeat : Repeat) (places rest : List PatternPlace) (last : PatternPlace) → places ≡ rest ++ last ∷ [] → repeated_place repeat last ≡ None → with_repeat repeat places ≡ None
none_last repeat places rest last e f = ap (with_repeat repeat) e ∙ at_last repeat rest last ∙ ap (put rest) f

pub some_last : (repeat : Repeat) (places rest : List PatternPlace) (last place : PatternPlace) → places ≡ rest ++ last ∷ [] → repeated_place repeat last ≡ Some place → with_repeat repeat places ≡ Some (rest ++ place ∷ [])
some_last repeat places rest last place e f = ap (with_repeat repeat) e ∙ at_last repeat rest last ∙ ap (put rest) f
