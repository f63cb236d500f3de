-- Each round of a block writes lines of acts that can be asked for.
use Rattle.std.proofs.Common.{◌≡◌, ◌≤◌, ◌<◌, ◌+◌, ◌*◌, ◌++◌, ◌==◌, ◌∙◌, ℕ, zero, suc, Bool, true, false, if◌then◌else◌, List, [], ◌∷◌, length, codes, ap, sym, refl, arith, append_assoc, length-append}
use Rattle.std.specs.Prelude.{nat_le}
use Rattle.std.specs.Fmt.{decimal, digits}
use Rattle.std.specs.List.{list_all}
use Rattle.std.proofs.lemmas.Bool.{leb-true}
use Rattle.std.proofs.lemmas.Fmt.{length-decimal-le}
use Rattle.std.proofs.lemmas.Nat.{mod_below}
use Rattle.sp_base.specs.Bytes.{AreBytes, is_visible_ascii}
use Rattle.sp_base.proofs.NatLemmas.{not_zero}
use Rattle.sp_base.proofs.TextBytes.{both_are_bytes as bytes-append}
use Rattle.cover_rules.specs.declared.invalidation.Action.TheVariants.{Activate}
use Rattle.sp_outside.specs.declared.mem_disk.Way.TheVariants.{New}
use Rattle.replay_text.specs.EventLines.{is_visible_text, line_of, IsEventLine}
use Rattle.replay_text.specs.Transcript.{quotation}
use Rattle.replay_text.specs.declared.event_line.EventLine.{EventLine}
use Rattle.replay_text.specs.declared.event_line.EventLine.TheVariants.{Open, Close, Get, Post, Flush, Render, Deliver, Lose, Purge, Restart, Fail}
use Rattle.replay_text.specs.declared.event_line.NamedFlight.TheVariants.{First}
use Rattle.soak_scenarios.specs.Drafts.{ScenarioDraft, ScenarioPiece, Words, drawn, given, with_draw, with_text, written}
use Rattle.soak_scenarios.specs.Soaks.{closing_line, flush_line, get_line, opening_text, post_line, seldom_line, usual_line, with_block, with_drawn_blocks, with_drawn_round, with_rounds, with_seldom_line}
use Rattle.soak_laws.proofs.Bytes.{bytes_by, bytes_of_digits, decimal_has_digits, quoted_around, visible-append, visible_digits}
use Rattle.soak_laws.proofs.Lines.{Drafted, added, line_more, lines_room, pieces_add, same_text}

-- ---- what is drawn

given_below : (d : ScenarioDraft) (n : ℕ) → 0 < n → given d n < n
unfolding given
given_below d n some = mod_below _ n some

-- ---- paths of pages

-- the path of a page, and what follows it
abbrev pub page_path : ℕ → ℕ → List ℕ → List ℕ
page_path i j tail = codes "/content/site/a" ++ (decimal i ++ (codes "/p" ++ (decimal j ++ tail)))

path_then : (i j : ℕ) (tail rest : List ℕ) → page_path i j tail ++ rest ≡ page_path i j (tail ++ rest)
path_then i j tail rest =
    ap (λ t. codes "/content/site/a" ++ t)
    (append_assoc (decimal i) (codes "/p" ++ (decimal j ++ tail)) rest ∙ ap (λ t. decimal i ++ (codes "/p" ++ t)) (append_assoc (decimal j) tail rest))

path_length : (i j : ℕ) (tail : List ℕ) → i < 4 → j < 16 → (length (page_path i j tail) ≤ 20 + length tail) × (0 < length (page_path i j tail))
path_length i j tail low few =
    let a = length-append (codes "/content/site/a") (decimal i ++ (codes "/p" ++ (decimal j ++ tail))) in
    let b = length-append (decimal i) (codes "/p" ++ (decimal j ++ tail)) in
    let c = length-append (codes "/p") (decimal j ++ tail) in
    let d = length-append (decimal j) tail in
    let begins : length (codes "/content/site/a") ≡ 15 = refl in
    let names : length (codes "/p") ≡ 2 = refl in
    let one = length-decimal-le 1 i (omega arith) (omega (arith, low)) (omega (arith, low)) in
    let two = length-decimal-le 2 j (omega arith) (omega (arith, few)) (omega (arith, few)) in
    (omega (arith, a, b, c, d, one, two, begins, names), omega (arith, a, begins))

path_visible : (i j : ℕ) (tail : List ℕ) → i < 4 → j < 16 → list_all is_visible_ascii tail ≡ true → list_all is_visible_ascii (page_path i j tail) ≡ true
path_visible i j tail low few seen =
    visible-append (codes "/content/site/a") (decimal i ++ (codes "/p" ++ (decimal j ++ tail))) refl
    (visible-append (decimal i) (codes "/p" ++ (decimal j ++ tail)) (visible_digits (decimal i) (decimal_has_digits i (omega (arith, low))))
    (visible-append (codes "/p") (decimal j ++ tail) refl
    (visible-append (decimal j) tail (visible_digits (decimal j) (decimal_has_digits j (omega (arith, few)))) seen)))

path_is_visible_text : (i j : ℕ) (tail : List ℕ) → i < 4 → j < 16 → list_all is_visible_ascii tail ≡ true → is_visible_text (page_path i j tail) ≡ true
path_is_visible_text i j tail low few seen =
    let some = not_zero (length (page_path i j tail)) (path_length i j tail low few).1 in rw some (path_visible i j tail low few seen)

-- ---- lines

-- pieces that add one line
one_line : (lines : ℕ) (d : ScenarioDraft) (pieces : List ScenarioPiece) (act : EventLine) → Drafted lines d → IsEventLine act → length (line_of act) ≤ 127 → added pieces d ≡ line_of act ++ 10 ∷ []
    → Drafted (lines + 2) (written pieces d)
one_line lines d pieces act p is short told =
    lines_room (lines + 1) (lines + 2) (written pieces d) (omega arith) (line_more lines d (written pieces d) act p is short (pieces_add pieces d ∙ ap (λ t. d.text ++ t) told))

block_length : (block : ℕ) → block < 1000 → length (decimal block) ≤ 3
block_length block low = length-decimal-le 3 block (omega arith) (omega (arith, low)) (omega (arith, low))

get_drafted : (lines block : ℕ) (d : ScenarioDraft) → block < 1000 → Drafted lines d → Drafted (lines + 2) (written (get_line block) d)
get_drafted lines block d low p =
    let before = with_text (codes "/content/site/a") (with_text (codes " ") (with_text (decimal block) (with_text (codes "get ") d))) in
    let i = given (drawn before) 4 in
    let after = with_text (codes "/p") (with_draw 4 before) in
    let j = given (drawn after) 16 in
    let below = given_below (drawn before) 4 (omega arith) in
    let under = given_below (drawn after) 16 (omega arith) in
    let target = page_path i j (codes ".html") in
    let long = path_length i j (codes ".html") below under in
    let word : length (codes "get ") ≡ 4 = refl in
    let ending : length (codes ".html") ≡ 5 = refl in
    one_line lines d (get_line block) (Get block target) p (omega (arith, low), path_is_visible_text i j (codes ".html") below under refl)
    (omega (arith, long.0, word, ending, block_length block low, length-append (codes "get ") (decimal block ++ 32 ∷ target), length-append (decimal block) (32 ∷ target)))
    (sym (ap (λ t. codes "get " ++ t) (append_assoc (decimal block) (32 ∷ target) (10 ∷ []) ∙ ap (λ t. decimal block ++ 32 ∷ t) (path_then i j (codes ".html") (10 ∷ [])))))

flush_drafted : (lines block : ℕ) (d : ScenarioDraft) → block < 1000 → Drafted lines d → Drafted (lines + 2) (written (flush_line block) d)
flush_drafted lines block d low p =
    let before = with_text (codes "/content/site/a") (with_text (codes " Activate ") (with_text (decimal block) (with_text (codes "flush ") d))) in
    let i = given (drawn before) 4 in
    let after = with_text (codes "/p") (with_draw 4 before) in
    let j = given (drawn after) 16 in
    let below = given_below (drawn before) 4 (omega arith) in
    let under = given_below (drawn after) 16 (omega arith) in
    let handle = page_path i j [] in
    let asked : List ℕ = codes "Activate" ++ 32 ∷ (handle ++ []) in
    let long = path_length i j [] below under in
    let whole = length-append (codes "Activate") (32 ∷ (handle ++ [])) in
    let word : length (codes "flush ") ≡ 6 = refl in
    let action : length (codes "Activate") ≡ 8 = refl in
    one_line lines d (flush_line block) (Flush block Activate handle false) p (omega (arith, low), path_is_visible_text i j [] below under refl)
    (omega (arith, long.0, word, action, block_length block low, length-append (codes "flush ") (decimal block ++ 32 ∷ asked), length-append (decimal block) (32 ∷ asked), whole, length-append handle []))
    (sym (ap (λ t. codes "flush " ++ t) (append_assoc (decimal block) (32 ∷ asked) (10 ∷ [])
    ∙ ap (λ t. decimal block ++ (codes " Activate " ++ t)) (append_assoc handle [] (10 ∷ []) ∙ path_then i j [] (10 ∷ [])))))

-- what a form says: a page's number
abbrev pub form_of : ℕ → List ℕ
form_of k = codes "n=" ++ (decimal k ++ codes "&n@TypeHint=Long")

form_quoted : (k : ℕ) → k < 1000 → quotation (form_of k) ≡ 34 ∷ (codes "n=" ++ (decimal k ++ codes "&n@TypeHint=Long\""))
form_quoted k low =
    let plain = quoted_around (codes "n=") (decimal k) (codes "&n@TypeHint=Long") refl (decimal_has_digits k (omega (arith, low))) refl in
    ap (λ t. 34 ∷ (t ++ 34 ∷ [])) plain ∙ ap (λ t. 34 ∷ (codes "n=" ++ t)) (append_assoc (decimal k) (codes "&n@TypeHint=Long") (34 ∷ []))

form_bytes : (k : ℕ) → k < 1000 → AreBytes (form_of k)
form_bytes k low =
    let ending = bytes_by (codes "&n@TypeHint=Long") refl in
    let beginning = bytes_by (codes "n=") refl in
    bytes-append (codes "n=") (decimal k ++ codes "&n@TypeHint=Long") beginning
    (bytes-append (decimal k) (codes "&n@TypeHint=Long") (bytes_of_digits (decimal k) (decimal_has_digits k (omega (arith, low)))) ending)

post_drafted : (lines block : ℕ) (d : ScenarioDraft) → block < 1000 → Drafted lines d → Drafted (lines + 2) (written (post_line block) d)
post_drafted lines block d low p =
    let before = with_text (codes "/content/site/a") (with_text (codes " ") (with_text (decimal block) (with_text (codes "post ") d))) in
    let i = given (drawn before) 4 in
    let after = with_text (codes "/p") (with_draw 4 before) in
    let j = given (drawn after) 16 in
    let last = with_text (codes " \"n=") (with_draw 16 after) in
    let k = given (drawn last) 1000 in
    let below = given_below (drawn before) 4 (omega arith) in
    let under = given_below (drawn after) 16 (omega arith) in
    let within = given_below (drawn last) 1000 (omega arith) in
    let target = page_path i j [] in
    let quoted = form_quoted k within in
    let tail : List ℕ = target ++ 32 ∷ quotation (form_of k) in
    let long = path_length i j [] below under in
    let three = block_length k within in
    let size = ap length quoted in
    let inner = length-append (codes "n=") (decimal k ++ codes "&n@TypeHint=Long\"") in
    let digits = length-append (decimal k) (codes "&n@TypeHint=Long\"") in
    let word : length (codes "post ") ≡ 5 = refl in
    let name : length (codes "n=") ≡ 2 = refl in
    let kind : length (codes "&n@TypeHint=Long\"") ≡ 17 = refl in
    one_line lines d (post_line block) (Post block target (form_of k)) p (omega (arith, low), path_is_visible_text i j [] below under refl, form_bytes k within)
    (omega (
      arith,
      long.0,
      word,
      name,
      kind,
      block_length block low,
      length-append (codes "post ") (decimal block ++ 32 ∷ tail),
      length-append (decimal block) (32 ∷ tail),
      length-append target (32 ∷ quotation (form_of k)),
      size,
      inner,
      digits,
      three,
    ))
    (sym (ap (λ t. codes "post " ++ t) (append_assoc (decimal block) (32 ∷ tail) (10 ∷ [])
    ∙ ap (λ t. decimal block ++ 32 ∷ t) (append_assoc target (32 ∷ quotation (form_of k)) (10 ∷ []) ∙ path_then i j [] (32 ∷ (quotation (form_of k) ++ 10 ∷ []))
    ∙ ap (λ q. page_path i j (32 ∷ (q ++ 10 ∷ []))) quoted ∙ ap (λ t. page_path i j (codes " \"n=" ++ t)) (append_assoc (decimal k) (codes "&n@TypeHint=Long\"") (10 ∷ []))))))

open_more : (lines block : ℕ) (d : ScenarioDraft) → block < 1000 → Drafted lines d → Drafted (lines + 1) (with_text (opening_text block) d)
open_more lines block d low p =
    let word : length (codes "open ") ≡ 5 = refl in
    let peer : length (codes "127.0.0.1") ≡ 9 = refl in
    line_more lines d (with_text (opening_text block) d) (Open block (codes "127.0.0.1")) p (omega (arith, low), refl)
    (omega (arith, word, peer, block_length block low, length-append (codes "open ") (decimal block ++ 32 ∷ codes "127.0.0.1"), length-append (decimal block) (32 ∷ codes "127.0.0.1")))
    (ap (λ t. d.text ++ (codes "open " ++ t)) (sym (append_assoc (decimal block) (32 ∷ codes "127.0.0.1") (10 ∷ []))))

close_more : (lines block : ℕ) (d : ScenarioDraft) → block < 1000 → Drafted lines d → Drafted (lines + 1) (with_text (closing_line block) d)
close_more lines block d low p =
    let word : length (codes "close ") ≡ 6 = refl in
    line_more lines d (with_text (closing_line block) d) (Close block) p (omega (arith, low)) (omega (arith, word, block_length block low, length-append (codes "close ") (decimal block))) refl

-- ---- rounds

if_either : {A : Type 0} (P : A → Type 0) (b : Bool) (x y : A) → P x → P y → P (if b then x else y)
if_either P true x y p q = p
if_either P false x y p q = q

-- pieces write at most two lines to a draft that has so many
abbrev pub WritesTo : ℕ → ScenarioDraft → List ScenarioPiece → Type 0
WritesTo lines d pieces = Drafted (lines + 2) (written pieces d)

usual_drafted : (lines block draw : ℕ) (d : ScenarioDraft) → block < 1000 → Drafted lines d → Drafted (lines + 2) (written (usual_line block draw) d)
usual_drafted lines block draw d low p =
    if_either (WritesTo lines d) (nat_le draw 3) _ _ (get_drafted lines block d low p)
    (if_either (WritesTo lines d) (nat_le draw 7) _ _ (one_line lines d (Words (codes "render first\n") ∷ []) (Render First) p tt (leb-true (length (line_of (Render First))) 127 refl) refl)
    (if_either (WritesTo lines d) (nat_le draw 11) _ _ (one_line lines d (Words (codes "deliver first\n") ∷ []) (Deliver First) p tt (leb-true (length (line_of (Deliver First))) 127 refl) refl)
    (if_either (WritesTo lines d) (draw == 12) _ _ (one_line lines d (Words (codes "lose first\n") ∷ []) (Lose First) p tt (leb-true (length (line_of (Lose First))) 127 refl) refl)
    (if_either (WritesTo lines d) (draw == 13) _ _ (post_drafted lines block d low p) (flush_drafted lines block d low p)))))

seldom_drafted : (lines block draw : ℕ) (d : ScenarioDraft) → block < 1000 → Drafted lines d → Drafted (lines + 2) (written (seldom_line block draw) d)
unfolding digits
seldom_drafted lines block draw d low p =
    let restarted = with_text (codes "restart\n") d in
    let two = open_more (lines + 1) block restarted low (line_more lines d restarted Restart p tt (leb-true (length (line_of Restart)) 127 refl) refl) in
    if_either (WritesTo lines d) (draw == 0) _ _ (lines_room (lines + 1 + 1) (lines + 2) (with_text (opening_text block) restarted) (omega arith) two)
    (if_either (WritesTo lines d) (draw == 1) _ _ (one_line lines d (Words (codes "fail 2 new\n") ∷ []) (Fail 2 New) p (omega arith, omega arith) (leb-true (length (line_of (Fail 2 New))) 127 refl) refl)
    (one_line lines d (Words (codes "purge\n") ∷ []) Purge p tt (leb-true (length (line_of Purge)) 127 refl) refl))

round_drafted : (lines block : ℕ) (d : ScenarioDraft) → block < 1000 → Drafted lines d → Drafted (lines + 2) (with_drawn_round block d)
round_drafted lines block d low p =
    let first = same_text lines d (drawn d) refl p in
    let draw = given (drawn d) 16 in
    let seldom = drawn (drawn d) in
    if_either (λ (e : ScenarioDraft). Drafted (lines + 2) e) (draw == 15) (with_seldom_line block (drawn d)) (written (usual_line block draw) (drawn d))
    (seldom_drafted lines block (given seldom 64) seldom low (same_text lines (drawn d) seldom refl first)) (usual_drafted lines block draw (drawn d) low first)

rounds_drafted : (n lines block : ℕ) (d : ScenarioDraft) → block < 1000 → Drafted lines d → Drafted (lines + 2 * n) (with_rounds block n d)
unfolding with_rounds
rounds_drafted zero lines block d low p = lines_room lines (lines + 2 * zero) d (omega arith) p
rounds_drafted (suc n) lines block d low p =
    lines_room (lines + 2 * n + 2) (lines + 2 * suc n) (with_drawn_round block (with_rounds block n d)) (omega arith) (round_drafted (lines + 2 * n) block (with_rounds block n d) low (rounds_drafted n lines block d low p))

block_drafted : (lines block : ℕ) (d : ScenarioDraft) → block < 1000 → Drafted lines d → Drafted (lines + 66) (with_block block d)
block_drafted lines block d low p =
    let opened = with_text (opening_text block) d in
    let played = with_rounds block 32 opened in
    lines_room (lines + 1 + 2 * 32 + 1) (lines + 66) (with_text (closing_line block) played) (omega arith)
    (close_more (lines + 1 + 2 * 32) block played low (rounds_drafted 32 (lines + 1) block opened low (open_more lines block d low p)))

pub blocks_drafted : (n : ℕ) (d : ScenarioDraft) → n < 1000 → Drafted 0 d → Drafted (66 * n) (with_drawn_blocks n d)
unfolding with_drawn_blocks
blocks_drafted zero d low p = lines_room 0 (66 * zero) d (omega arith) p
blocks_drafted (suc n) d low p =
    lines_room (66 * n + 66) (66 * suc n) (with_block (suc n) (with_drawn_blocks n d)) (omega arith) (block_drafted (66 * n) (suc n) (with_drawn_blocks n d) low (blocks_drafted n d (omega (arith, low)) p))
