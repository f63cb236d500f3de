-- A text has one reading, and one line where it is refused.
use Rattle.std.proofs.Common.{◌≡◌, ◌≢◌, ◌+◌, ◌≤◌, ◌++◌, ⊎_elim, ℕ, zero, suc, List, [], ◌∷◌, Option, Some, None, codes, map, length, take, sym, ◌∙◌, ap, subst, refl, arith}
use Rattle.std.proofs.lemmas.List.{take_all}
use Rattle.std.proofs.lemmas.Bool.{cases_eq}
use Rattle.replay_text.specs.Lines.{text_of_lines, AreLines}
use Rattle.replay_text.specs.Languages.{IsPrefixIn, IsRefusedBy}
use Rattle.replay_text.specs.Scenario.{AreActs, HaveNoDot, IsBlock, IsFarm, act_lines, SpellsScenario, IsScenario}
use Rattle.replay_text.specs.EventLines.{line_of}
use Rattle.replay_text.specs.declared.event_line.EventLine.{EventLine}
use Rattle.replay_text.specs.declared.scenario.Scenario.{Scenario}
use Rattle.replay_text.proofs.LineLaws.{one_first_line}
use Rattle.replay_text.proofs.EventLaws.{newlines-line_of, one_event, event_is_not_end, event_is_not_farm}
use Rattle.replay_text.proofs.TailLaws.{dotted}
use Rattle.replay_text.proofs.BodyLaws.{before_first, before_content, some_body}

-- A text is refused at one line: the definition leaves no choice.
not_not_leading : (Text Leading : List ℕ → Type 0) (bytes : List ℕ) (n m : ℕ) → IsRefusedBy Text Leading bytes n → IsRefusedBy Text Leading bytes m
    → n ≢ m → Leading [] → (k : ℕ) → k ≤ length bytes → (Leading (take k bytes) → ⊥) → ⊥
not_not_leading Text Leading bytes n m p q apart start zero le not = not start
not_not_leading Text Leading bytes n m p q apart start (suc k) le not =
    not_not_leading Text Leading bytes n m p q apart start k (omega arith) (λ here.
    let next : k + 1 ≡ suc k = omega arith in
    let no : Leading (take (k + 1) bytes) → ⊥ = λ h. not (subst (λ j. Leading (take j bytes)) next h) in
    apart (sym (p.first k (omega arith) here no) ∙ q.first k (omega arith) here no))

pub refused_once : (Text Leading : List ℕ → Type 0) (bytes : List ℕ) (n m : ℕ) → Leading [] → IsRefusedBy Text Leading bytes n
    → IsRefusedBy Text Leading bytes m → n ≡ m
refused_once Text Leading bytes n m start p q = ⊎_elim
    (λ (same : n ≡ m). same)
    (λ (apart : n ≢ m). absurd (not_not_leading Text Leading bytes n m p q apart start (length bytes) (omega arith) (λ here.
    let all = subst Leading (take_all (length bytes) bytes (omega arith)) here in
    apart (sym (p.early all) ∙ q.early all))))
    (cases_eq n m)

-- A text spells one scenario.
one_act_list : (xs ys : List EventLine) → AreActs xs → AreActs ys → text_of_lines (act_lines xs) ≡ text_of_lines (act_lines ys) → xs ≡ ys
one_act_list [] [] p q e = refl
one_act_list [] (y ∷ ys) p q e =
    absurd (event_is_not_end y (sym (one_first_line (codes "end") (line_of y) [] (text_of_lines (act_lines ys)) refl (newlines-line_of y q.0) e).0))
one_act_list (x ∷ xs) [] p q e =
    absurd (event_is_not_end x (one_first_line (line_of x) (codes "end") (text_of_lines (act_lines xs)) [] (newlines-line_of x p.0) refl e).0)
one_act_list (x ∷ xs) (y ∷ ys) p q e =
    let same = one_first_line (line_of x) (line_of y) (text_of_lines (act_lines xs)) (text_of_lines (act_lines ys)) (newlines-line_of x p.0) (newlines-line_of y q.0) e in
    let heads = one_event x y p.0 q.0 same.0 in
    let tails = one_act_list xs ys p.1 q.1 same.1 in
    cc (heads, tails)

one_block : (b d u v : List (List ℕ)) → AreLines b → AreLines d → HaveNoDot b → HaveNoDot d
    → text_of_lines (b ++ codes "." ∷ u) ≡ text_of_lines (d ++ codes "." ∷ v) → (b ≡ d) × (text_of_lines u ≡ text_of_lines v)
one_block [] [] u v lb ld nb nd e = (refl, (one_first_line (codes ".") (codes ".") (text_of_lines u) (text_of_lines v) refl refl e).1)
one_block [] (l ∷ d) u v lb ld nb nd e =
    absurd (nd.0 (sym (one_first_line (codes ".") l (text_of_lines u) (text_of_lines (d ++ codes "." ∷ v)) refl ld.0 e).0))
one_block (l ∷ b) [] u v lb ld nb nd e =
    absurd (nb.0 (one_first_line l (codes ".") (text_of_lines (b ++ codes "." ∷ u)) (text_of_lines v) lb.0 refl e).0)
one_block (l ∷ b) (k ∷ d) u v lb ld nb nd e =
    let same = one_first_line l k (text_of_lines (b ++ codes "." ∷ u)) (text_of_lines (d ++ codes "." ∷ v)) lb.0 ld.0 e in
    let rest = one_block b d u v lb.1 ld.1 nb.1 nd.1 same.1 in
    (cc (same.0, rest.0), rest.1)

same_bytes : (x y : List ℕ) (b d : List (List ℕ)) → IsBlock x b → IsBlock y d → b ≡ d → x ≡ y
same_bytes x y b d p q e = p.bytes_are ∙ ap text_of_lines e ∙ sym q.bytes_are

-- what follows the content's dot is told by its text
farm_is_no_act : (acts : List EventLine) (r : List ℕ) → AreActs acts → text_of_lines (act_lines acts) ≡ codes "farm" ++ 10 ∷ r → ⊥
farm_is_no_act [] r p e = cc
farm_is_no_act (a ∷ acts) r p e =
    event_is_not_farm a (one_first_line (line_of a) (codes "farm") (text_of_lines (act_lines acts)) r (newlines-line_of a p.0) refl e).0

one_tail : (f g : Option (List ℕ)) (x y : List (List ℕ)) (xs ys : List EventLine) → IsFarm f x → IsFarm g y → AreActs xs → AreActs ys
    → text_of_lines (x ++ act_lines xs) ≡ text_of_lines (y ++ act_lines ys) → (f ≡ g) × (xs ≡ ys)
one_tail None None x y xs ys p q oks others e =
    (refl, one_act_list xs ys oks others (sym (ap (λ l. text_of_lines (l ++ act_lines xs)) p) ∙ e ∙ ap (λ l. text_of_lines (l ++ act_lines ys)) q))
one_tail None (Some bytes) x y xs ys p (d, q, k) oks others e =
    absurd (farm_is_no_act xs (text_of_lines ((d ++ codes "." ∷ []) ++ act_lines ys)) oks
    (sym (ap (λ l. text_of_lines (l ++ act_lines xs)) p) ∙ e ∙ ap (λ l. text_of_lines (l ++ act_lines ys)) k))
one_tail (Some bytes) None x y xs ys (b, p, k) q oks others e =
    absurd (farm_is_no_act ys (text_of_lines ((b ++ codes "." ∷ []) ++ act_lines xs)) others
    (sym (ap (λ l. text_of_lines (l ++ act_lines ys)) q) ∙ sym e ∙ ap (λ l. text_of_lines (l ++ act_lines xs)) k))
one_tail (Some bytes) (Some others) x y xs ys (b, p, k) (d, q, j) oks goods e =
    let u = act_lines xs in
    let v = act_lines ys in
    let lines : codes "farm" ++ 10 ∷ text_of_lines ((b ++ codes "." ∷ []) ++ u) ≡ codes "farm" ++ 10 ∷ text_of_lines ((d ++ codes "." ∷ []) ++ v)
    = sym (ap (λ l. text_of_lines (l ++ u)) k) ∙ e ∙ ap (λ l. text_of_lines (l ++ v)) j in
    let rest = (one_first_line (codes "farm") (codes "farm") (text_of_lines ((b ++ codes "." ∷ []) ++ u)) (text_of_lines ((d ++ codes "." ∷ []) ++ v)) refl refl lines).1 in
    let same = one_block b d u v p.are q.are p.no_dot q.no_dot (sym (ap text_of_lines (dotted b u)) ∙ rest ∙ ap text_of_lines (dotted d v)) in
    (ap Some (same_bytes bytes others b d p q same.0), one_act_list xs ys oks goods same.1)

same_scenario : (s t : Scenario) → s.content ≡ t.content → s.farm ≡ t.farm → s.acts ≡ t.acts → s ≡ t
same_scenario s t e f k =
    let make : List ℕ → Option (List ℕ) → List ℕ → Scenario = λ content farm acts. record { content = content; farm = farm; acts = acts } in
    ap (λ content. make content s.farm s.acts) e ∙ ap (λ farm. make t.content farm s.acts) f ∙ ap (λ acts. make t.content t.farm acts) k

pub one_reading : (text : List ℕ) (s t : Scenario) → SpellsScenario text s → SpellsScenario text t → s ≡ t
one_reading text s t p q =
    let u = p.farm_lines ++ act_lines p.acts in
    let v = q.farm_lines ++ act_lines q.acts in
    let lines = sym p.text_is ∙ q.text_is in
    let second = (one_first_line (codes "scenario 1") (codes "scenario 1") (codes "content" ++ 10 ∷ text_of_lines (p.block ++ codes "." ∷ u))
    (codes "content" ++ 10 ∷ text_of_lines (q.block ++ codes "." ∷ v)) refl refl lines).1 in
    let third = (one_first_line (codes "content") (codes "content") (text_of_lines (p.block ++ codes "." ∷ u))
    (text_of_lines (q.block ++ codes "." ∷ v)) refl refl second).1 in
    let same = one_block p.block q.block u v p.content.are q.content.are p.content.no_dot q.content.no_dot third in
    let tail = one_tail s.farm t.farm p.farm_lines q.farm_lines p.acts q.acts p.farm q.farm p.acts_are.are q.acts_are.are same.1 in
    same_scenario s t (same_bytes s.content t.content p.block q.block p.content q.content same.0) tail.0
    (p.acts_are.bytes_are ∙ ap (λ acts. text_of_lines (map line_of acts)) tail.1 ∙ sym q.acts_are.bytes_are)

pub some_scenario : IsPrefixIn IsScenario []
some_scenario = (
  codes "scenario 1" ++ 10 ∷ (codes "content" ++ 10 ∷ text_of_lines (codes "." ∷ act_lines [])),
  before_first (codes "content" ++ 10 ∷ text_of_lines (codes "." ∷ act_lines [])) (before_content (text_of_lines (codes "." ∷ act_lines [])) some_body),
)
