-- The scenario of a number: its site, and blocks of events that are drawn from the number.
use Rattle.std.specs.Prelude.{◌++◌, ◌==◌, ℕ, zero, suc, nat_le, if◌then◌else◌, List, [], ◌∷◌, codes}
use Rattle.std.specs.Fmt.{decimal}
use Rattle.soak_scenarios.specs.Drafts.{ScenarioDraft, ScenarioPiece, Words, Draw, begun_draft, drawn, given, with_text, written}
use Rattle.soak_scenarios.specs.Sites.{content_line, farm_lines}

-- the connection of a block opens
abbrev pub opening_text : ℕ → List ℕ
opening_text block = codes "open " ++ (decimal block ++ codes " 127.0.0.1\n")

-- it closes
abbrev pub closing_line : ℕ → List ℕ
closing_line block = codes "close " ++ (decimal block ++ codes "\n")

-- a word, the connection of the block, and what follows, with the path of a page of the site that is drawn, its folder first
abbrev pub on_page : List ℕ → ℕ → List ℕ → List ScenarioPiece → List ScenarioPiece
on_page word block before after = Words word ∷ Words (decimal block) ∷ Words before ∷ Words (codes "/content/site/a") ∷ Draw 4 ∷ Words (codes "/p") ∷ Draw 16 ∷ after

-- a page is asked for
abbrev pub get_line : ℕ → List ScenarioPiece
get_line block = on_page (codes "get ") block (codes " ") (Words (codes ".html\n") ∷ [])

-- the number of a page is changed to one that is drawn
abbrev pub post_line : ℕ → List ScenarioPiece
post_line block = on_page (codes "post ") block (codes " ") (Words (codes " \"n=") ∷ Draw 1000 ∷ Words (codes "&n@TypeHint=Long\"\n") ∷ [])

-- a page is said to have changed
abbrev pub flush_line : ℕ → List ScenarioPiece
flush_line block = on_page (codes "flush ") block (codes " Activate ") (Words (codes "\n") ∷ [])

-- what comes seldom: of 64 draws one is a restart, after which the connection opens again, and one plans that a call of the disk fails;
-- the others give a flush its slice
abbrev pub seldom_line : ℕ → ℕ → List ScenarioPiece
seldom_line block draw =
    if draw == 0 then Words (codes "restart\n") ∷ Words (opening_text block) ∷ []
    else (if draw == 1 then Words (codes "fail 2 new\n") ∷ [] else Words (codes "purge\n") ∷ [])

-- the line of a draw below 15
abbrev pub usual_line : ℕ → ℕ → List ScenarioPiece
usual_line block draw =
    if nat_le draw 3 then get_line block
    else (if nat_le draw 7 then Words (codes "render first\n") ∷ []
    else (if nat_le draw 11 then Words (codes "deliver first\n") ∷ []
    else (if draw == 12 then Words (codes "lose first\n") ∷ []
    else (if draw == 13 then post_line block else flush_line block))))

-- a line that comes seldom is drawn and written
abbrev pub with_seldom_line : ℕ → ScenarioDraft → ScenarioDraft
with_seldom_line block draft = written (seldom_line block (given (drawn draft) 64)) (drawn draft)

-- the line of a draw below 16 is written
abbrev pub draft_with_line : ℕ → ℕ → ScenarioDraft → ScenarioDraft
draft_with_line block draw draft = if draw == 15 then with_seldom_line block draft else written (usual_line block draw) draft

-- a round of a block: a draw, and its line
abbrev pub with_drawn_round : ℕ → ScenarioDraft → ScenarioDraft
with_drawn_round block draft = draft_with_line block (given (drawn draft) 16) (drawn draft)

-- so many rounds of a block
unfoldable pub with_rounds : ℕ → ℕ → ScenarioDraft → ScenarioDraft
with_rounds block zero draft = draft
with_rounds block (suc n) draft = with_drawn_round block (with_rounds block n draft)

-- a block: its connection opens, has 32 rounds, and closes
abbrev pub with_block : ℕ → ScenarioDraft → ScenarioDraft
with_block block draft = with_text (closing_line block) (with_rounds block 32 (with_text (opening_text block) draft))

-- so many blocks, numbered from 1
unfoldable pub with_drawn_blocks : ℕ → ScenarioDraft → ScenarioDraft
with_drawn_blocks zero draft = draft
with_drawn_blocks (suc n) draft = with_block (suc n) (with_drawn_blocks n draft)

-- the lines before the first block
unfoldable pub scenario_head : List ℕ
scenario_head = codes "scenario 1\ncontent\n" ++ (content_line ++ (codes ".\nfarm\n" ++ (farm_lines ++ codes ".\n")))

-- the scenario of a number, which is the first seed: the site, 625 blocks, and the end
unfoldable pub generated_text : ℕ → List ℕ
generated_text number = (with_drawn_blocks 625 (with_text scenario_head (begun_draft number))).text ++ codes "end\n"
