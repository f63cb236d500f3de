-- A scenario has one text.
use Rattle.std.proofs.Common.{◌≡◌, ◌++◌, ◌∙◌, ℕ, List, [], ◌∷◌, Option, Some, None, codes, map, ap, sym}
use Rattle.replay_text.specs.Lines.{text_of_lines}
use Rattle.replay_text.specs.EventLines.{line_of}
use Rattle.replay_text.specs.Scenario.{IsFarm, SpellsScenario, act_lines}
use Rattle.replay_text.specs.Written.{farm_part, scenario_text}
use Rattle.replay_text.specs.declared.scenario.Scenario.{Scenario}
use Rattle.replay_text.proofs.LineLaws.{text_of_lines-append}

farm_lines-text : (farm : Option (List ℕ)) (lines : List (List ℕ)) → IsFarm farm lines → text_of_lines lines ≡ farm_part farm
farm_lines-text None lines e = ap text_of_lines e
farm_lines-text (Some bytes) lines (block, is, e) =
    ap text_of_lines e ∙ ap (λ t. codes "farm\n" ++ t) (text_of_lines-append block (codes "." ∷ []) ∙ ap (λ t. t ++ codes ".\n") (sym is.bytes_are))

pub one_text : (text : List ℕ) (s : Scenario) → SpellsScenario text s → text ≡ scenario_text s
one_text text s p =
    let acts : text_of_lines (act_lines p.acts) ≡ s.acts ++ codes "end\n" = text_of_lines-append (map line_of p.acts) (codes "end" ∷ []) ∙ ap (λ t. t ++ codes "end\n") (sym p.acts_are.bytes_are) in
    let tail : text_of_lines (p.farm_lines ++ act_lines p.acts) ≡ farm_part s.farm ++ (s.acts ++ codes "end\n") = text_of_lines-append p.farm_lines (act_lines p.acts)
    ∙ ap (λ t. t ++ text_of_lines (act_lines p.acts)) (farm_lines-text s.farm p.farm_lines p.farm) ∙ ap (λ t. farm_part s.farm ++ t) acts in
    let body : text_of_lines (p.block ++ codes "." ∷ (p.farm_lines ++ act_lines p.acts)) ≡ s.content ++ (codes ".\n" ++ (farm_part s.farm ++ (s.acts ++ codes "end\n")))
    = text_of_lines-append p.block (codes "." ∷ (p.farm_lines ++ act_lines p.acts)) ∙ ap (λ t. t ++ (codes ".\n" ++ text_of_lines (p.farm_lines ++ act_lines p.acts))) (sym p.content.bytes_are)
    ∙ ap (λ t. s.content ++ (codes ".\n" ++ t)) tail in
    p.text_is ∙ ap (λ t. codes "scenario 1\ncontent\n" ++ t) body
