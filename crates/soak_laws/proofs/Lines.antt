-- A draft is the head of a scenario, and lines of acts that can be asked for.
use Rattle.std.proofs.Common.{◌≡◌, ◌≤◌, ◌+◌, ◌*◌, ◌++◌, ◌∙◌, ℕ, List, [], ◌∷◌, length, map, ap, sym, arith, append_assoc, append-nil, length-append}
use Rattle.std.specs.Fmt.{decimal}
use Rattle.replay_text.specs.EventLines.{line_of, IsEventLine}
use Rattle.replay_text.specs.Lines.{text_of_lines}
use Rattle.replay_text.specs.Scenario.{AreActs}
use Rattle.replay_text.specs.declared.event_line.EventLine.{EventLine}
use Rattle.replay_text.proofs.ReadingActs.{acts_push, lines_of_acts_push}
use Rattle.soak_scenarios.specs.Drafts.{ScenarioDraft, ScenarioPiece, Words, Draw, drawn, given, with_draw, with_text, written}
use Rattle.soak_scenarios.specs.Soaks.{scenario_head}

-- the text is the head and these acts' lines, of which there are at most so many, none longer than 127 bytes
pub record Drafted (lines : ℕ) (d : ScenarioDraft) : Type 0 where
  pub acts : List EventLine
  pub are : AreActs acts
  pub text_is : d.text ≡ scenario_head ++ text_of_lines (map line_of acts)
  pub short : length d.text ≤ length scenario_head + 128 * lines

-- one line more
pub line_more : (lines : ℕ) (d e : ScenarioDraft) (act : EventLine) → Drafted lines d → IsEventLine act → length (line_of act) ≤ 127 → e.text ≡ d.text ++ (line_of act ++ 10 ∷ []) → Drafted (lines + 1) e
line_more lines d e act p is short told = record {
  acts = p.acts ++ act ∷ [];
  are = acts_push p.acts act p.are is;
  text_is = told ∙ ap (λ t. t ++ (line_of act ++ 10 ∷ [])) p.text_is ∙ append_assoc scenario_head (text_of_lines (map line_of p.acts)) (line_of act ++ 10 ∷ [])
      ∙ ap (λ t. scenario_head ++ t) (sym (lines_of_acts_push p.acts act));
  short = omega (arith, p.short, short, ap length told, length-append d.text (line_of act ++ 10 ∷ []), length-append (line_of act) (10 ∷ []));
}

-- fewer lines than that
pub lines_room : (lines more : ℕ) (d : ScenarioDraft) → lines ≤ more → Drafted lines d → Drafted more d
lines_room lines more d le p = record { acts = p.acts; are = p.are; text_is = p.text_is; short = omega (arith, p.short, le) }

-- another draft of the same text
pub same_text : (lines : ℕ) (d e : ScenarioDraft) → e.text ≡ d.text → Drafted lines d → Drafted lines e
same_text lines d e told p = record { acts = p.acts; are = p.are; text_is = told ∙ p.text_is; short = omega (arith, p.short, ap length told) }

-- ---- pieces

-- what pieces add to a draft
abbrev pub added : List ScenarioPiece → ScenarioDraft → List ℕ
added [] d = []
added (Words text ∷ pieces) d = text ++ added pieces (with_text text d)
added (Draw below ∷ pieces) d = decimal (given (drawn d) below) ++ added pieces (with_draw below d)

pub pieces_add : (pieces : List ScenarioPiece) (d : ScenarioDraft) → (written pieces d).text ≡ d.text ++ added pieces d
pieces_add [] d = sym (append-nil d.text)
pieces_add (Words text ∷ pieces) d = pieces_add pieces (with_text text d) ∙ append_assoc d.text text (added pieces (with_text text d))
pieces_add (Draw below ∷ pieces) d =
    pieces_add pieces (with_draw below d) ∙ append_assoc d.text (decimal (given (drawn d) below)) (added pieces (with_draw below d))
