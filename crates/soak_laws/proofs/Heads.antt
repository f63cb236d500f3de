-- The head of a scenario that is made from a number: its content is one line, and its farm a block.
use Rattle.std.proofs.Common.{◌≡◌, ◌≢◌, ◌≤◌, ◌+◌, ◌*◌, ◌++◌, ◌==◌, ◌∙◌, ℕ, true, Some, List, [], ◌∷◌, length, map, codes, ap, sym, refl, arith, append_assoc, append-nil, length-append}
use Rattle.std.specs.Prelude.{nat_le}
use Rattle.std.specs.Fmt.{digits}
use Rattle.std.specs.List.{list_all}
use Rattle.std.proofs.lemmas.Bool.{and_parts, leb-true}
use Rattle.sp_base.proofs.NatLemmas.{zero_from_test}
use Rattle.replay_text.specs.EventLines.{line_of}
use Rattle.replay_text.specs.Languages.{IsRefusedWithin}
use Rattle.replay_text.specs.Lines.{AreLines, newlines, text_of_lines}
use Rattle.replay_text.specs.Scenario.{HaveNoDot, IsBlock, IsScenario, ReadsScenario, SpellsScenario, act_lines, longest_scenario}
use Rattle.replay_text.specs.declared.event_line.EventLine.{EventLine}
use Rattle.replay_text.specs.declared.scenario.Scenario.{Scenario}
use Rattle.soak_scenarios.specs.Drafts.{ScenarioDraft, begun_draft, with_text}
use Rattle.soak_scenarios.specs.Sites.{apps_member, content_line, farm_lines, folder_members, page_members, pages_order}
use Rattle.soak_scenarios.specs.Soaks.{generated_text, scenario_head, with_drawn_blocks}
use Rattle.soak_laws.proofs.Lines.{Drafted}
use Rattle.soak_laws.proofs.Rounds.{blocks_drafted}

are_lines : (block : List (List ℕ)) → list_all (λ line. newlines line == 0) block ≡ true → AreLines block
are_lines [] e = tt
are_lines (line ∷ block) e =
    let parts = and_parts (newlines line == 0) (list_all (λ l. newlines l == 0) block) e in (zero_from_test (newlines line) parts.0, are_lines block parts.1)

no_dot : (line : List ℕ) → 2 ≤ length line → line ≢ codes "."
no_dot line long e = absurd (omega (arith, ap length e, long))

no_dots : (block : List (List ℕ)) → list_all (λ line. nat_le 2 (length line)) block ≡ true → HaveNoDot block
no_dots [] e = tt
no_dots (line ∷ block) e =
    let parts = and_parts (nat_le 2 (length line)) (list_all (λ l. nat_le 2 (length l)) block) e in (no_dot line (leb-true 2 (length line) parts.0), no_dots block parts.1)

-- ---- the content

abbrev pub content_text : List ℕ
content_text =
    codes "{\":order\":[\"apps\",\"content\"],"
    ++ (apps_member ++ (codes ",\"content\":{\":order\":[\"site\"],\"site\":{\":order\":[\"a0\",\"a1\",\"a2\",\"a3\"]" ++ (folder_members ++ codes "}}}")))

content_ends : content_text ++ 10 ∷ [] ≡ content_line
unfolding content_line
content_ends =
    ap (λ t. codes "{\":order\":[\"apps\",\"content\"]," ++ t)
    (append_assoc apps_member (codes ",\"content\":{\":order\":[\"site\"],\"site\":{\":order\":[\"a0\",\"a1\",\"a2\",\"a3\"]" ++ (folder_members ++ codes "}}}")) (10 ∷ [])
    ∙ ap (λ t. apps_member ++ (codes ",\"content\":{\":order\":[\"site\"],\"site\":{\":order\":[\"a0\",\"a1\",\"a2\",\"a3\"]" ++ t)) (append_assoc folder_members (codes "}}}") (10 ∷ [])))

content_is_lines : list_all (λ line. newlines line == 0) (content_text ∷ []) ≡ true
unfolding apps_member folder_members page_members pages_order digits
content_is_lines = refl

content_has_no_dot : list_all (λ line. nat_le 2 (length line)) (content_text ∷ []) ≡ true
unfolding apps_member folder_members page_members pages_order digits
content_has_no_dot = refl

content_block : IsBlock (content_text ++ 10 ∷ []) (content_text ∷ [])
content_block = record { are = are_lines (content_text ∷ []) content_is_lines; no_dot = no_dots (content_text ∷ []) content_has_no_dot; bytes_are = refl }

-- ---- the farm

abbrev pub farm_block : List (List ℕ)
farm_block =
    codes "# site farm" ∷ codes "/name \"dispatcher\"" ∷ codes "/farms { /site {" ∷ codes "  /clientheaders { \"*\" }"
    ∷ codes "  /virtualhosts { \"www.example.com\" \"localhost\" }" ∷ codes "  /renders { /rend01 { /hostname \"127.0.0.1\" /port \"4503\" } }"
    ∷ codes "  /filter {" ∷ codes "    /0001 { /type \"deny\" /glob \"*\" }" ∷ codes "    /0010 { /type \"allow\" /method \"GET\" /url \"/content/*\" }"
    ∷ codes "    /0011 { /type \"allow\" /method \"POST\" /url \"/content/*\" }" ∷ codes "    /0020 { /type \"deny\" /selectors \"infinity\" /extension \"json\" }" ∷ codes "  }"
    ∷ codes "  /cache {" ∷ codes "    /docroot \"/var/www/html\"" ∷ codes "    /statfileslevel \"3\"" ∷ codes "    /allowAuthorized \"0\""
    ∷ codes "    /rules { /0000 { /glob \"*\" /type \"allow\" } /0001 { /glob \"*.json\" /type \"deny\" } }"
    ∷ codes "    /invalidate { /0000 { /glob \"*\" /type \"deny\" } /0001 { /glob \"*.html\" /type \"allow\" } }"
    ∷ codes "    /allowedClients { /0000 { /glob \"*\" /type \"deny\" } /0001 { /glob \"127.0.0.1\" /type \"allow\" } }" ∷ codes "  }" ∷ codes "} }" ∷ []

farm_is : farm_lines ≡ text_of_lines farm_block
unfolding farm_lines
farm_is = refl

farm_is_block : IsBlock (text_of_lines farm_block) farm_block
farm_is_block = record { are = are_lines farm_block refl; no_dot = no_dots farm_block refl; bytes_are = refl }

-- ---- the whole text

lines_then : (a b : List (List ℕ)) → text_of_lines ((a ++ codes "." ∷ []) ++ b) ≡ text_of_lines a ++ (codes ".\n" ++ text_of_lines b)
lines_then [] b = refl
lines_then (line ∷ a) b = ap (λ t. line ++ 10 ∷ t) (lines_then a b) ∙ sym (append_assoc line (10 ∷ text_of_lines a) (codes ".\n" ++ text_of_lines b))

lines_end : (a : List (List ℕ)) → text_of_lines (a ++ codes "end" ∷ []) ≡ text_of_lines a ++ codes "end\n"
lines_end [] = refl
lines_end (line ∷ a) = ap (λ t. line ++ 10 ∷ t) (lines_end a) ∙ sym (append_assoc line (10 ∷ text_of_lines a) (codes "end\n"))

head_then : (rest : List ℕ) → scenario_head ++ rest ≡ codes "scenario 1\ncontent\n" ++ (content_text ++ 10 ∷ (codes ".\nfarm\n" ++ (text_of_lines farm_block ++ (codes ".\n" ++ rest))))
unfolding scenario_head
head_then rest =
    ap (λ t. codes "scenario 1\ncontent\n" ++ t) (append_assoc content_line (codes ".\nfarm\n" ++ (farm_lines ++ codes ".\n")) rest
    ∙ ap (λ t. content_line ++ (codes ".\nfarm\n" ++ t)) (append_assoc farm_lines (codes ".\n") rest)
    ∙ ap (λ c. c ++ (codes ".\nfarm\n" ++ (farm_lines ++ (codes ".\n" ++ rest)))) (sym content_ends)
    ∙ append_assoc content_text (10 ∷ []) (codes ".\nfarm\n" ++ (farm_lines ++ (codes ".\n" ++ rest)))
    ∙ ap (λ f. content_text ++ 10 ∷ (codes ".\nfarm\n" ++ (f ++ (codes ".\n" ++ rest)))) farm_is)

head_short : length scenario_head ≤ 100000
unfolding scenario_head content_line apps_member folder_members page_members pages_order farm_lines digits
head_short = leb-true (length scenario_head) 100000 refl

-- the scenario of these acts
abbrev pub scenario_of_acts : List EventLine → Scenario
scenario_of_acts acts = record { content = content_text ++ 10 ∷ []; farm = Some (text_of_lines farm_block); acts = text_of_lines (map line_of acts) }

drafted_spells : (lines : ℕ) (d : ScenarioDraft) (p : Drafted lines d) → SpellsScenario (d.text ++ codes "end\n") (scenario_of_acts p.acts)
drafted_spells lines d p = record {
  block = content_text ∷ [];
  content = content_block;
  farm_lines = codes "farm" ∷ (farm_block ++ codes "." ∷ []);
  farm = (farm_block, farm_is_block, refl);
  acts = p.acts;
  acts_are = record { are = p.are; bytes_are = refl };
  text_is = ap (λ t. t ++ codes "end\n") p.text_is ∙ append_assoc scenario_head (text_of_lines (map line_of p.acts)) (codes "end\n")
      ∙ head_then (text_of_lines (map line_of p.acts) ++ codes "end\n")
      ∙ ap (λ t. codes "scenario 1\ncontent\n" ++ (content_text ++ 10 ∷ (codes ".\nfarm\n" ++ t)))
      (ap (λ t. text_of_lines farm_block ++ (codes ".\n" ++ t)) (sym (lines_end (map line_of p.acts))) ∙ sym (lines_then farm_block (act_lines p.acts)));
}

begun_drafted : (number : ℕ) → Drafted 0 (with_text scenario_head (begun_draft number))
begun_drafted number = record { acts = []; are = tt; text_is = sym (append-nil scenario_head); short = omega arith }

pub text_is_scenario : (number : ℕ) → (s : Scenario) × ReadsScenario (generated_text number) s
unfolding generated_text
text_is_scenario number =
    let d = with_drawn_blocks 625 (with_text scenario_head (begun_draft number)) in
    let p = blocks_drafted 625 (with_text scenario_head (begun_draft number)) (omega arith) (begun_drafted number) in
    (scenario_of_acts p.acts, (drafted_spells (66 * 625) d p, omega (arith, p.short, head_short, length-append d.text (codes "end\n"))))

-- so it is refused at no line
pub text_is_accepted : (number before : ℕ) → IsRefusedWithin longest_scenario IsScenario (generated_text number) before → ⊥
text_is_accepted number before refused = let read = text_is_scenario number in refused.none ((read.0, read.1.0), read.1.1)
