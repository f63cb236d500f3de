-- What the marks of a pattern's places mean, and that a walk keeps it.
use Rattle.std.proofs.Common.{◌≡◌, ◌⊎◌, inl, inr, ℕ, Bool, true, false, ◌&&◌, ◌||◌, List, [], ◌∷◌, ◌++◌, length, refl, ap, sym, ◌∙◌, append_assoc}
use Rattle.std.specs.Prelude.{set}
use Rattle.std.proofs.lemmas.List.{append-nil, set_at}
use Rattle.regex_rules.specs.declared.character.OneChar.{OneChar}
use Rattle.regex_rules.specs.declared.repeat.Repeat.{Repeat}
use Rattle.regex_rules.specs.declared.place.PatternPlace.{PatternPlace}
use Rattle.regex_rules.specs.declared.place.PatternPlace.TheVariants.{One, Open, Bar, Close}
use Rattle.regex_rules.specs.declared.level.Level.{Level}
use Rattle.regex_rules.specs.declared.level.Frame.{Frame}
use Rattle.regex_rules.specs.Trees.{PatternTree, Empty, Char, Bracket, Or, places_of}
use Rattle.regex_rules.specs.Languages.{Texts, Cut, Repeated, IsOne, is_one, may_lack, may_go_on, Last, Earlier, InRow, InLanguage}
use Rattle.regex_rules.specs.Walks.{walked, at, begun, past_piece, next_row}
use Rattle.regex_rules.proofs.TextLemmas.{Reach, Inside, Says, says_or, says_and, says_iff, says_true, says_false, iff_then, cut_step, reach_step, cut_empty, repeated_empty, reach_inside, enters_inside, one_end, reach_whole, cut_whole, reach_or}
use Rattle.regex_rules.proofs.WalkLemmas.{one_walked}

-- where the next piece of the last row begins
abbrev pub Next : Texts → PatternTree → Texts
Next P rows = Cut P (InRow Last rows)

-- The marks of the places of rows, which begin after a text of this set, say what this text reaches.
abbrev pub Right : Texts → PatternTree → List Bool → List ℕ → Type 0
Right P Empty marks w = marks ≡ []
Right P (Char rows one repeat) marks w =
    (olds : List Bool) × (mark : Bool) × Right P rows olds w × Says mark (Reach (Next P rows) (Repeated repeat (IsOne one)) w) × (marks ≡ olds ++ mark ∷ [])
Right P (Bracket rows inner repeat) marks w =
    (olds : List Bool) × (again : Bool) × (insides : List Bool) × (mark : Bool) × Right P rows olds w
    × Says again ((may_go_on repeat ≡ true) × Reach (Next P rows) (Repeated repeat (InLanguage inner)) w)
    × Right (Inside (Next P rows) repeat (InLanguage inner)) inner insides w
    × Says mark (Reach (Next P rows) (Repeated repeat (InLanguage inner)) w) × (marks ≡ olds ++ (again ∷ insides ++ (mark ∷ [])))
Right P (Or rows) marks w = (olds : List Bool) × (mark : Bool) × Right P rows olds w × (marks ≡ olds ++ mark ∷ [])

-- what a level past rows says
pub record Knows (P : Texts) (rows : PatternTree) (w : List ℕ) (c : ℕ) (level : Level) : Type 0 where
  pub enters : Says level.enters (P w)
  pub here : Says level.here (Cut P (InRow Last rows) w)
  pub arrives : Says level.arrives (Reach P (InRow Last rows) (w ++ c ∷ []))
  pub lacks : Says level.lacks (InRow Last rows [])
  pub earlier_arrives : Says level.earlier_arrives (Reach P (InRow Earlier rows) (w ++ c ∷ []))
  pub earlier_lacks : Says level.earlier_lacks (InRow Earlier rows [])

-- a walk over rows
pub record Steps (P : Texts) (rows : PatternTree) (w : List ℕ) (c : ℕ) (enters : Bool) (olds : List Bool) : Type 0 where
  pub level : Level
  pub news : List Bool
  pub knows : Knows P rows w c level
  pub right : Right P rows news (w ++ c ∷ [])
  pub walks : (places : List PatternPlace) (later : List Bool) (around : List Frame) (marks : List Bool)
      → walked c (places_of rows ++ places) (olds ++ later) (at (begun enters) around marks) ≡ walked c places later (at level around (marks ++ news))

-- ---- one more piece

here_past : (P L : Texts) (rows : PatternTree) (w : List ℕ) (here lacks old : Bool) → Says here (Cut P (InRow Last rows) w) → Says lacks (L []) → Says old (Reach (Next P rows) L w)
    → Says ((here && lacks) || old) (Cut P (Cut (InRow Last rows) L) w)
here_past P L rows w here lacks old sh sl so = says_iff _ (says_or (here && lacks) old (says_and here lacks sh sl) so) (cut_step P (InRow Last rows) L w)

arrives_past : (P L : Texts) (rows : PatternTree) (v : List ℕ) (arrived lacks arrives : Bool) → Says arrived (Reach P (InRow Last rows) v) → Says lacks (L []) → Says arrives (Reach (Next P rows) L v)
    → Says ((arrived && lacks) || arrives) (Reach P (Cut (InRow Last rows) L) v)
arrives_past P L rows v arrived lacks arrives sh sl sa = says_iff _ (says_or (arrived && lacks) arrives (says_and arrived lacks sh sl) sa) (reach_step P (InRow Last rows) L v)

pub lacks_past : (L : Texts) (rows : PatternTree) (lacked lacks : Bool) → Says lacked (InRow Last rows []) → Says lacks (L []) → Says (lacked && lacks) (Cut (InRow Last rows) L [])
lacks_past L rows lacked lacks sr sl = says_iff _ (says_and lacked lacks sr sl) (cut_empty (InRow Last rows) L)

pub says_itself : (b : Bool) → Says b (b ≡ true)
says_itself b = (λ e. e, λ e. e)

one_lacks : (one : OneChar) (repeat : Repeat) → Says (may_lack repeat) (Repeated repeat (IsOne one) [])
one_lacks one repeat = (λ e. (repeated_empty repeat (IsOne one)).0 (inl e), λ r. back ((repeated_empty repeat (IsOne one)).1 r))
  where
    back : (may_lack repeat ≡ true) ⊎ IsOne one [] → may_lack repeat ≡ true
    back (inl e) = e
    back (inr (c, fits, e)) = absurd cc

-- where the inside of a piece begins
begins_inside : (Q A : Texts) (repeat : Repeat) (w : List ℕ) (here mark : Bool) → Says here (Q w) → Says mark (Reach Q (Repeated repeat A) w)
    → Says (here || (may_go_on repeat && mark)) (Inside Q repeat A w)
begins_inside Q A repeat w here mark sh sm =
    says_iff _ (says_or here (may_go_on repeat && mark) sh (says_and (may_go_on repeat) mark (says_itself (may_go_on repeat)) sm)) (enters_inside Q repeat A w)

takes_one : (Q : Texts) (one : OneChar) (repeat : Repeat) (w : List ℕ) (c : ℕ) (here mark : Bool) → Says here (Q w) → Says mark (Reach Q (Repeated repeat (IsOne one)) w)
    → Says ((here || (may_go_on repeat && mark)) && is_one one c) (Reach Q (Repeated repeat (IsOne one)) (w ++ c ∷ []))
takes_one Q one repeat w c here mark sh sm =
    says_iff _ (says_and (here || (may_go_on repeat && mark)) (is_one one c) (begins_inside Q (IsOne one) repeat w here mark sh sm) (says_itself (is_one one c)))
    (iff_then (one_end (Inside Q repeat (IsOne one)) one w c) (reach_inside Q repeat (IsOne one) (w ++ c ∷ [])))

-- ---- the walk over each kind of rows

no_earlier : (P : Texts) (v : List ℕ) → Reach P (InRow Earlier Empty) v → ⊥
no_earlier P v (xs, ys, p, l, some, e) = l

over_empty : (P : Texts) (w : List ℕ) (c : ℕ) (enters : Bool) (olds : List Bool) → olds ≡ [] → Says enters (P w) → Steps P Empty w c enters olds
over_empty P w c enters olds none says = record {
  level = begun enters;
  news = [];
  knows = record {
    enters = says;
    here = says_iff enters says (cut_whole P w);
    arrives = says_false (reach_whole P (w ++ c ∷ []));
    lacks = says_true refl;
    earlier_arrives = says_false (no_earlier P (w ++ c ∷ []));
    earlier_lacks = says_false (λ x. x);
  };
  right = refl;
  walks = λ places later around marks.
      ap (λ (o : List Bool). walked c places (o ++ later) (at (begun enters) around marks)) none
      ∙ ap (λ (m : List Bool). walked c places later (at (begun enters) around m)) (sym (append-nil marks));
}

over_char : (P : Texts) (rows : PatternTree) (one : OneChar) (repeat : Repeat) (w : List ℕ) (c : ℕ) (enters mark : Bool) (before olds : List Bool) → Steps P rows w c enters before
    → Says mark (Reach (Next P rows) (Repeated repeat (IsOne one)) w) → olds ≡ before ++ mark ∷ [] → Steps P (Char rows one repeat) w c enters olds
over_char P rows one repeat w c enters mark before olds s says e =
    let takes : Bool = (s.level.here || (may_go_on repeat && mark)) && is_one one c in
    let arrives = takes_one (Next P rows) one repeat w c s.level.here mark s.knows.here says in
    record {
      level = past_piece s.level (may_lack repeat) mark takes;
      news = s.news ++ takes ∷ [];
      knows = record {
        enters = s.knows.enters;
        here = here_past P (Repeated repeat (IsOne one)) rows w s.level.here (may_lack repeat) mark s.knows.here (one_lacks one repeat) says;
        arrives = arrives_past P (Repeated repeat (IsOne one)) rows (w ++ c ∷ []) s.level.arrives (may_lack repeat) takes s.knows.arrives (one_lacks one repeat) arrives;
        lacks = lacks_past (Repeated repeat (IsOne one)) rows s.level.lacks (may_lack repeat) s.knows.lacks (one_lacks one repeat);
        earlier_arrives = s.knows.earlier_arrives;
        earlier_lacks = s.knows.earlier_lacks;
      };
      right = (s.news, takes, s.right, arrives, refl);
      walks = λ places later around marks.
          ap (λ (o : List Bool). walked c (places_of rows ++ One one repeat ∷ [] ++ places) (o ++ later) (at (begun enters) around marks)) e
          ∙ ap (λ (ps : List PatternPlace). walked c ps (before ++ mark ∷ [] ++ later) (at (begun enters) around marks)) (append_assoc (places_of rows) (One one repeat ∷ []) places)
          ∙ ap (λ (o : List Bool). walked c (places_of rows ++ (One one repeat ∷ places)) o (at (begun enters) around marks)) (append_assoc before (mark ∷ []) later)
          ∙ s.walks (One one repeat ∷ places) (mark ∷ later) around marks
          ∙ one_walked c (One one repeat) places mark later (at s.level around (marks ++ s.news))
          ∙ ap (λ (m : List Bool). walked c places later (at (past_piece s.level (may_lack repeat) mark takes) around m)) (append_assoc marks s.news (takes ∷ []));
    }

over_bar : (P : Texts) (rows : PatternTree) (w : List ℕ) (c : ℕ) (enters mark : Bool) (before olds : List Bool) → Steps P rows w c enters before
    → olds ≡ before ++ mark ∷ [] → Steps P (Or rows) w c enters olds
over_bar P rows w c enters mark before olds s e = record {
  level = next_row s.level;
  news = s.news ++ false ∷ [];
  knows = record {
    enters = s.knows.enters;
    here = says_iff s.level.enters s.knows.enters (cut_whole P w);
    arrives = says_false (reach_whole P (w ++ c ∷ []));
    lacks = says_true refl;
    earlier_arrives = says_iff _ (says_or s.level.earlier_arrives s.level.arrives s.knows.earlier_arrives s.knows.arrives) (reach_or P (InRow Earlier rows) (InRow Last rows) (w ++ c ∷ []));
    earlier_lacks = says_or s.level.earlier_lacks s.level.lacks s.knows.earlier_lacks s.knows.lacks;
  };
  right = (s.news, false, s.right, refl);
  walks = λ places later around marks.
      ap (λ (o : List Bool). walked c (places_of rows ++ Bar ∷ [] ++ places) (o ++ later) (at (begun enters) around marks)) e
      ∙ ap (λ (ps : List PatternPlace). walked c ps (before ++ mark ∷ [] ++ later) (at (begun enters) around marks)) (append_assoc (places_of rows) (Bar ∷ []) places)
      ∙ ap (λ (o : List Bool). walked c (places_of rows ++ (Bar ∷ places)) o (at (begun enters) around marks)) (append_assoc before (mark ∷ []) later)
      ∙ s.walks (Bar ∷ places) (mark ∷ later) around marks
      ∙ one_walked c Bar places mark later (at s.level around (marks ++ s.news))
      ∙ ap (λ (m : List Bool). walked c places later (at (next_row s.level) around m)) (append_assoc marks s.news (false ∷ []));
}

-- a list around a bracket
inside_assoc : {A : Type 0} (xs ys zs : List A) (x y : A) → xs ++ (x ∷ ys ++ (y ∷ [])) ++ zs ≡ xs ++ (x ∷ (ys ++ (y ∷ zs)))
inside_assoc xs ys zs x y = append_assoc xs (x ∷ ys ++ (y ∷ [])) zs ∙ ap (λ l. xs ++ (x ∷ l)) (append_assoc ys (y ∷ []) zs)

-- the marks past a bracket
marks_past : (marks news insides : List Bool) (again mark : Bool)
    → set (marks ++ news ++ false ∷ [] ++ insides) (length (marks ++ news)) again ++ mark ∷ [] ≡ marks ++ (news ++ (again ∷ insides ++ (mark ∷ [])))
marks_past marks news insides again mark =
    ap (λ (l : List Bool). set l (length (marks ++ news)) again ++ mark ∷ []) (append_assoc (marks ++ news) (false ∷ []) insides)
    ∙ ap (λ (l : List Bool). l ++ mark ∷ []) (set_at (marks ++ news) false insides again (length (marks ++ news)) refl)
    ∙ append_assoc (marks ++ news) (again ∷ insides) (mark ∷ [])
    ∙ append_assoc marks news (again ∷ insides ++ (mark ∷ []))

over_bracket : (P : Texts) (rows inner : PatternTree) (repeat : Repeat) (w : List ℕ) (c : ℕ) (enters again mark : Bool) (before insides olds : List Bool) (s : Steps P rows w c enters before)
    → Says again ((may_go_on repeat ≡ true) × Reach (Next P rows) (Repeated repeat (InLanguage inner)) w)
    → Says mark (Reach (Next P rows) (Repeated repeat (InLanguage inner)) w) → olds ≡ before ++ (again ∷ insides ++ (mark ∷ []))
    → Steps (Inside (Next P rows) repeat (InLanguage inner)) inner w c (s.level.here || again) insides → Steps P (Bracket rows inner repeat) w c enters olds
over_bracket P rows inner repeat w c enters again mark before insides olds s says_again says e t =
    let L : Texts = Repeated repeat (InLanguage inner) in
    let arrives : Bool = t.level.earlier_arrives || t.level.arrives in
    let lacks : Bool = may_lack repeat || (t.level.earlier_lacks || t.level.lacks) in
    let says_arrives : Says arrives (Reach (Next P rows) L (w ++ c ∷ [])) =
    says_iff arrives (says_or t.level.earlier_arrives t.level.arrives t.knows.earlier_arrives t.knows.arrives)
    (iff_then (reach_or (Inside (Next P rows) repeat (InLanguage inner)) (InRow Earlier inner) (InRow Last inner) (w ++ c ∷ [])) (reach_inside (Next P rows) repeat (InLanguage inner) (w ++ c ∷ [])))
    in
    let says_lacks : Says lacks (L []) =
    says_iff lacks (says_or (may_lack repeat) (t.level.earlier_lacks || t.level.lacks) (says_itself (may_lack repeat)) (says_or t.level.earlier_lacks t.level.lacks t.knows.earlier_lacks t.knows.lacks))
    (repeated_empty repeat (InLanguage inner))
    in
    record {
      level = past_piece s.level lacks mark arrives;
      news = s.news ++ ((may_go_on repeat && arrives) ∷ t.news ++ (arrives ∷ []));
      knows = record {
        enters = s.knows.enters;
        here = here_past P L rows w s.level.here lacks mark s.knows.here says_lacks says;
        arrives = arrives_past P L rows (w ++ c ∷ []) s.level.arrives lacks arrives s.knows.arrives says_lacks says_arrives;
        lacks = lacks_past L rows s.level.lacks lacks s.knows.lacks says_lacks;
        earlier_arrives = s.knows.earlier_arrives;
        earlier_lacks = s.knows.earlier_lacks;
      };
      right = (s.news, may_go_on repeat && arrives, t.news, arrives, s.right, says_and (may_go_on repeat) arrives (says_itself (may_go_on repeat)) says_arrives, t.right, says_arrives, refl);
      walks = λ places later around marks.
          ap (λ (o : List Bool). walked c (places_of rows ++ (Open ∷ places_of inner ++ (Close repeat ∷ [])) ++ places) (o ++ later) (at (begun enters) around marks)) e
          ∙ ap (λ (ps : List PatternPlace). walked c ps (before ++ (again ∷ insides ++ (mark ∷ [])) ++ later) (at (begun enters) around marks)) (inside_assoc (places_of rows) (places_of inner) places Open (Close repeat))
          ∙ ap (λ (o : List Bool). walked c (places_of rows ++ (Open ∷ (places_of inner ++ (Close repeat ∷ places)))) o (at (begun enters) around marks)) (inside_assoc before insides later again mark)
          ∙ s.walks (Open ∷ (places_of inner ++ (Close repeat ∷ places))) (again ∷ (insides ++ (mark ∷ later))) around marks
          ∙ one_walked c Open (places_of inner ++ (Close repeat ∷ places)) again (insides ++ (mark ∷ later)) (at s.level around (marks ++ s.news))
          ∙ t.walks (Close repeat ∷ places) (mark ∷ later) (record { level = s.level; slot = length (marks ++ s.news) } ∷ around) (marks ++ s.news ++ false ∷ [])
          ∙ one_walked c (Close repeat) places mark later (at t.level (record { level = s.level; slot = length (marks ++ s.news) } ∷ around) (marks ++ s.news ++ false ∷ [] ++ t.news))
          ∙ ap (λ (m : List Bool). walked c places later (at (past_piece s.level lacks mark arrives) around m)) (marks_past marks s.news t.news (may_go_on repeat && arrives) arrives);
    }

-- A walk keeps what the marks say.
pub steps : (rows : PatternTree) (P : Texts) (w : List ℕ) (c : ℕ) (enters : Bool) (olds : List Bool) → Right P rows olds w → Says enters (P w) → Steps P rows w c enters olds
steps Empty P w c enters olds right says = over_empty P w c enters olds right says
steps (Char rows one repeat) P w c enters olds (before, mark, right, says_mark, e) says =
    over_char P rows one repeat w c enters mark before olds (steps rows P w c enters before right says) says_mark e
steps (Bracket rows inner repeat) P w c enters olds (before, again, insides, mark, right, says_again, right_inside, says_mark, e) says =
    let s = steps rows P w c enters before right says in
    let begins : Says (s.level.here || again) (Inside (Next P rows) repeat (InLanguage inner) w) =
    says_iff _ (says_or s.level.here again s.knows.here says_again) (enters_inside (Next P rows) repeat (InLanguage inner) w)
    in
    over_bracket P rows inner repeat w c enters again mark before insides olds s says_again says_mark e
    (steps inner (Inside (Next P rows) repeat (InLanguage inner)) w c (s.level.here || again) insides right_inside begins)
steps (Or rows) P w c enters olds (before, mark, right, e) says = over_bar P rows w c enters mark before olds (steps rows P w c enters before right says) e
