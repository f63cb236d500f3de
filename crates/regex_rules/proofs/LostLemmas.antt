-- A text that reaches no place, and isn't empty, is the beginning of none in the language.
use Rattle.std.proofs.Common.{◌≡◌, ℕ, Bool, true, false, ◌&&◌, ◌||◌, List, [], ◌∷◌, refl, ap, sym, ◌∙◌, subst}
use Rattle.std.specs.Prelude.{set, replicate, length, IfOk, Result, Ok, Err, ⊤}
use Rattle.std.proofs.lemmas.Bool.{and_right, or_from, true≢false}
use Rattle.regex_rules.specs.declared.place.PatternPlace.{PatternPlace}
use Rattle.regex_rules.specs.declared.place.PatternPlace.TheVariants.{One, Open, Bar, Close}
use Rattle.regex_rules.specs.declared.level.Level.{Level}
use Rattle.regex_rules.specs.declared.level.Frame.{Frame}
use Rattle.regex_rules.specs.declared.walk.Walk.{Walk}
use Rattle.regex_rules.specs.Trees.{tree_of, places_of}
use Rattle.regex_rules.specs.Languages.{InLanguage, is_one, may_lack, may_go_on}
use Rattle.regex_rules.specs.Walks.{walked, at, begun, walk_answer, takes_nothing, past_place, past_piece}
use Rattle.regex_rules.specs.Off.{AreOff}
use Rattle.regex_rules.proofs.TextLemmas.{Says, says_false}
use Rattle.regex_rules.proofs.OffLemmas.{off_append, off_set}
use Rattle.regex_rules.proofs.MatchLemmas.{Matched, begin_matched, more_matched, end_matched}

-- ---- a walk that reaches nothing

-- rows that the text doesn't reach
record Still (level : Level) : Type 0 where
  pub enters : level.enters ≡ false
  pub here : level.here ≡ false
  pub arrives : level.arrives ≡ false
  pub earlier : level.earlier_arrives ≡ false

abbrev AllStill : List Frame → Type 0
AllStill [] = ⊤
AllStill (frame ∷ around) = Still frame.level × AllStill around

record Lost (level : Level) (around : List Frame) (marks : List Bool) : Type 0 where
  pub still : Still level
  pub all : AllStill around
  pub off : AreOff marks

abbrev IsLost : Walk → Type 0
IsLost walk = Lost walk.level walk.around walk.marks

none_takes : (here again fits : Bool) → here ≡ false → ((here || (again && false)) && fits) ≡ false
none_takes false true fits e = refl
none_takes false false fits e = refl
none_takes true again fits e = absurd cc

none_past : (b lacks more : Bool) → b ≡ false → more ≡ false → ((b && lacks) || more) ≡ false
none_past false lacks more e f = f
none_past true lacks more e f = absurd cc

still_begun : (enters : Bool) → enters ≡ false → Still (begun enters)
still_begun enters e = record { enters = e; here = e; arrives = refl; earlier = refl }

still_past : (level : Level) (lacks arrives : Bool) → Still level → arrives ≡ false → Still (past_piece level lacks false arrives)
still_past level lacks arrives s e = record {
  enters = s.enters;
  here = none_past level.here lacks false s.here refl;
  arrives = none_past level.arrives lacks arrives s.arrives e;
  earlier = s.earlier;
}

lost_place : (c : ℕ) (place : PatternPlace) (level : Level) (around : List Frame) (marks : List Bool) → Lost level around marks → IsLost (past_place c place false (at level around marks))
lost_place c (One one repeat) level around marks lost =
    let none = none_takes level.here (may_go_on repeat) (is_one one c) lost.still.here in
    record { still = still_past level (may_lack repeat) ((level.here || (may_go_on repeat && false)) && is_one one c) lost.still none; all = lost.all; off = off_append marks ((level.here || (may_go_on repeat && false)) && is_one one c) lost.off none }
lost_place c Open level around marks lost = record {
  still = still_begun (level.here || false) (or_from level.here false lost.still.here refl);
  all = (lost.still, lost.all);
  off = off_append marks false lost.off refl;
}
lost_place c Bar level around marks lost = record {
  still = record { enters = lost.still.enters; here = lost.still.enters; arrives = refl; earlier = or_from level.earlier_arrives level.arrives lost.still.earlier lost.still.arrives };
  all = lost.all;
  off = off_append marks false lost.off refl;
}
lost_place c (Close repeat) level [] marks lost = lost
lost_place c (Close repeat) level (frame ∷ around) marks lost =
    let none = or_from level.earlier_arrives level.arrives lost.still.earlier lost.still.arrives in
    record {
      still = still_past frame.level (may_lack repeat || (level.earlier_lacks || level.lacks)) (level.earlier_arrives || level.arrives) lost.all.0 none;
      all = lost.all.1;
      off = off_append (set marks frame.slot (may_go_on repeat && (level.earlier_arrives || level.arrives))) (level.earlier_arrives || level.arrives)
          (off_set marks frame.slot (may_go_on repeat && (level.earlier_arrives || level.arrives)) lost.off (and_right (may_go_on repeat) (level.earlier_arrives || level.arrives) none)) none;
    }

lost_walked : (c : ℕ) (places : List PatternPlace) (olds : List Bool) (walk : Walk) → AreOff olds → IsLost walk → IsLost (walked c places olds walk)
unfolding walked
lost_walked c [] olds walk off lost = lost
lost_walked c (place ∷ places) [] walk off lost = lost
lost_walked c (place ∷ places) (old ∷ olds) walk off lost =
    lost_walked c places olds (past_place c place old walk) off.1
    (subst (λ (b : Bool). IsLost (past_place c place b walk)) (sym off.0) (lost_place c place walk.level walk.around walk.marks lost))

lost_step : (c : ℕ) (places : List PatternPlace) (olds : List Bool) → AreOff olds → IsLost (walked c places olds (at (begun false) [] []))
lost_step c places olds off = lost_walked c places olds (at (begun false) [] []) off (record { still = still_begun false refl; all = tt; off = tt })

-- ---- the rest of the text

pub lost_matched : (places : List PatternPlace) (olds : List Bool) (answer : Bool) (text rest : List ℕ) (c : ℕ) → places_of (tree_of places) ≡ places → AreOff olds
    → Matched places olds answer false text (c ∷ rest) → InLanguage (tree_of places) text → ⊥
lost_matched places olds answer text [] c held off m inside =
    let walk = walked c places olds (at (begun false) [] []) in
    let lost = lost_step c places olds off in
    let yes : walk_answer walk ≡ true = (end_matched places walk.marks (walk_answer walk) false text (more_matched places olds answer false text [] c held m)).1 inside in
    true≢false (sym yes ∙ or_from walk.level.earlier_arrives walk.level.arrives lost.still.earlier lost.still.arrives)
lost_matched places olds answer text (d ∷ rest) c held off m inside =
    let walk = walked c places olds (at (begun false) [] []) in
    lost_matched places walk.marks (walk_answer walk) text rest d held (lost_step c places olds off).off (more_matched places olds answer false text (d ∷ rest) c held m) inside

-- the same where the rest begins with a character
pub none_goes_on : (places : List PatternPlace) (olds : List Bool) (answer : Bool) (text rest later : List ℕ) (c : ℕ) → places_of (tree_of places) ≡ places → AreOff olds
    → Matched places olds answer false text rest → rest ≡ c ∷ later → Says false (InLanguage (tree_of places) text)
none_goes_on places olds answer text rest later c held off m is =
    says_false (lost_matched places olds answer text later c held off (subst (λ (l : List ℕ). Matched places olds answer false text l) is m))

-- ---- the beginning

pub nothing_matched : {E : Type 0} (places : List PatternPlace) (olds : List Bool) (text : List ℕ) (result : Result Bool E) → places_of (tree_of places) ≡ places → olds ≡ replicate (length places) false → text ≡ []
    → IfOk result (λ answer. answer ≡ takes_nothing (walked 0 places olds (at (begun true) [] []))) → IfOk result (λ answer. Says answer (InLanguage (tree_of places) text))
nothing_matched places olds text (Ok answer) held off none is =
    let walk = walked 0 places (replicate (length places) false) (at (begun true) [] []) in
    let first : answer ≡ takes_nothing walk = is ∙ ap (λ (o : List Bool). takes_nothing (walked 0 places o (at (begun true) [] []))) off in
    let m = begin_matched places text held in
    subst (λ (b : Bool). Says b (InLanguage (tree_of places) text)) (sym first)
    (end_matched places (replicate (length places) false) (takes_nothing walk) true text (subst (λ (l : List ℕ). Matched places (replicate (length places) false) (takes_nothing walk) true text l) none m))
nothing_matched places olds text (Err e) held off none is = tt

pub begins_with : (places : List PatternPlace) (olds news : List Bool) (answer : Bool) (text rest : List ℕ) (c : ℕ) → places_of (tree_of places) ≡ places → olds ≡ replicate (length places) false → text ≡ c ∷ rest
    → news ≡ (walked c places olds (at (begun true) [] [])).marks → answer ≡ walk_answer (walked c places olds (at (begun true) [] [])) → Matched places news answer false text rest
begins_with places olds news answer text rest c held off some marks is =
    let none = replicate (length places) false in
    let first = takes_nothing (walked 0 places none (at (begun true) [] [])) in
    let walk = walked c places none (at (begun true) [] []) in
    let m = more_matched places none first true text rest c held (subst (λ (l : List ℕ). Matched places none first true text l) some (begin_matched places text held)) in
    subst (λ (o : List Bool). Matched places o answer false text rest) (sym (marks ∙ ap (λ (o : List Bool). (walked c places o (at (begun true) [] [])).marks) off))
    (subst (λ (b : Bool). Matched places walk.marks b false text rest) (sym (is ∙ ap (λ (o : List Bool). walk_answer (walked c places o (at (begun true) [] []))) off)) m)
