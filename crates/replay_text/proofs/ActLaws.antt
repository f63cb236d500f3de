-- Lines of acts and the acts that they tell, one act more or less.
use Rattle.std.proofs.Common.{◌≡◌, ◌≢◌, ◌++◌, ℕ, List, [], ◌∷◌, codes, map, length, length-append, sym, ◌∙◌, ap, refl, arith}
use Rattle.replay_text.specs.Lines.{newlines, text_of_lines}
use Rattle.replay_text.specs.Scenario.{IsActs, act_lines}
use Rattle.replay_text.specs.EventLines.{line_of, IsEventLine}
use Rattle.replay_text.specs.Reading.{Acts}
use Rattle.replay_text.specs.declared.event_line.EventLine.{EventLine}
use Rattle.replay_text.proofs.LineLaws.{newlines-append, one_first_line}
use Rattle.replay_text.proofs.EventLaws.{newlines-line_of, event_is_not_end, one_event}

-- after an act come acts
pub after_act : (act : EventLine) → IsEventLine act → (r : List ℕ) → Acts (line_of act ++ 10 ∷ r) → Acts r
after_act act ok r ([], oks, e) =
    absurd (event_is_not_end act (one_first_line (line_of act) (codes "end") r [] (newlines-line_of act ok) refl e).0)
after_act act ok r (a ∷ acts, oks, e) =
    let same = one_first_line (line_of act) (line_of a) r (text_of_lines (act_lines acts)) (newlines-line_of act ok) (newlines-line_of a oks.0) e in
    (acts, oks.1, same.1)

pub before_acts : (act : EventLine) → IsEventLine act → (r : List ℕ) → Acts r → Acts (line_of act ++ 10 ∷ r)
before_acts act ok r (acts, oks, e) = (act ∷ acts, (ok, oks), ap (λ t. line_of act ++ 10 ∷ t) e)

pub no_acts : Acts (text_of_lines (act_lines []))
no_acts = ([], tt, refl)

pub after_end : (r : List ℕ) → Acts (codes "end" ++ 10 ∷ r) → r ≡ []
after_end r ([], oks, e) = cc
after_end r (a ∷ acts, oks, e) =
    absurd (event_is_not_end a (sym (one_first_line (codes "end") (line_of a) r (text_of_lines (act_lines acts)) refl (newlines-line_of a oks.0) e).0))

pub before_end : (r : List ℕ) → r ≡ [] → Acts (codes "end" ++ 10 ∷ r)
before_end r e = ([], tt, ap (λ t. codes "end" ++ 10 ∷ t) e)

-- lines tell their acts
pub first_told : (lines rest : List ℕ) (acts : List EventLine) (act : EventLine) → IsActs lines acts → IsEventLine act → lines ≡ line_of act ++ 10 ∷ rest
    → (left : List EventLine) × (acts ≡ act ∷ left) × IsActs rest left
first_told lines rest [] act a ok e =
    let h = ap length (sym a.bytes_are ∙ e) in
    absurd (omega (arith, h, length-append (line_of act) (10 ∷ rest)))
first_told lines rest (x ∷ acts) act a ok e =
    let same = one_first_line (line_of x) (line_of act) (text_of_lines (map line_of acts)) rest (newlines-line_of x a.are.0) (newlines-line_of act ok) (sym a.bytes_are ∙ e) in
    let head = one_event x act a.are.0 ok same.0 in
    (acts, ap (λ y. y ∷ acts) head, record { are = a.are.1; bytes_are = sym same.1 })

pub none_told : (lines : List ℕ) (acts : List EventLine) → IsActs lines acts → ((act : EventLine) (rest : List ℕ) → IsEventLine act → lines ≢ line_of act ++ 10 ∷ rest) → acts ≡ []
none_told lines [] a none = refl
none_told lines (x ∷ acts) a none = absurd (none x (text_of_lines (map line_of acts)) a.are.0 a.bytes_are)

pub neither_act_nor_end : (line : List ℕ) → newlines line ≡ 0 → ((act : EventLine) → IsEventLine act → line ≢ line_of act) → line ≢ codes "end"
    → (r : List ℕ) → Acts (line ++ 10 ∷ r) → ⊥
neither_act_nor_end line one no_act no_end r ([], oks, e) = no_end (one_first_line line (codes "end") r [] one refl e).0
neither_act_nor_end line one no_act no_end r (a ∷ acts, oks, e) =
    no_act a oks.0 (one_first_line line (line_of a) r (text_of_lines (act_lines acts)) one (newlines-line_of a oks.0) e).0

pub acts_have_newline : (text : List ℕ) → newlines text ≡ 0 → Acts text → ⊥
acts_have_newline text one ([], oks, e) = let h : 1 ≡ 0 = sym (ap newlines e) ∙ one in cc
acts_have_newline text one (a ∷ acts, oks, e) =
    let h = ap newlines e in
    let k = newlines-append (line_of a) (10 ∷ text_of_lines (act_lines acts)) in
    absurd (omega (arith, h, k, one))
