-- How far a reader of acts has come, and the line where it refuses.
use Rattle.std.proofs.Common.{◌≡◌, ◌≢◌, ◌+◌, ◌≤◌, ◌++◌, ℕ, List, [], ◌∷◌, codes, map, take, sym, ◌∙◌, ap, subst, refl, arith, length, append_assoc, length-append}
use Rattle.std.proofs.lemmas.List.{take_at}
use Rattle.replay_text.specs.Lines.{newlines, text_of_lines}
use Rattle.replay_text.specs.Languages.{IsRefusedAt}
use Rattle.replay_text.specs.Scenario.{AreActs, act_lines}
use Rattle.replay_text.specs.EventLines.{line_of, IsEventLine}
use Rattle.replay_text.specs.Reading.{FirstLine, Acts, SpellsActs}
use Rattle.replay_text.specs.declared.event_line.EventLine.{EventLine}
use Rattle.replay_text.proofs.LineLaws.{newlines-append, text_of_lines-append}
use Rattle.replay_text.proofs.Refusals.{refused_after, refused_line, refused_end, refused_more, IsNothing}
use Rattle.replay_text.proofs.ActLaws.{after_act, before_acts, no_acts, after_end, before_end, neither_act_nor_end, acts_have_newline}

-- the reader has before some lines, which are those of acts
pub record Passed (text rest : List ℕ) (before : ℕ) : Type 0 where
  pub acts : List EventLine
  pub are : AreActs acts
  pub text_is : text ≡ text_of_lines (map line_of acts) ++ rest
  pub refused : (n : ℕ) → IsRefusedAt Acts rest n → IsRefusedAt Acts text (before + n)
  pub small : before + length rest ≤ length text

pub passed_none : (text : List ℕ) → Passed text text 0
passed_none text = record {
  acts = [];
  are = tt;
  text_is = refl;
  refused = λ n r. let count : n ≡ 0 + n = omega arith in subst (λ k. IsRefusedAt Acts text k) count r;
  small = omega arith;
}

-- a text is refused one line later than what stands after its first line
pub after_line : (A B : List ℕ → Type 0) (line rest : List ℕ) (n : ℕ) → newlines line ≡ 0
    → ((r : List ℕ) → A (line ++ 10 ∷ r) → B r) → ((r : List ℕ) → B r → A (line ++ 10 ∷ r)) → (w : List ℕ) → B w
    → IsRefusedAt B rest n → IsRefusedAt A (line ++ 10 ∷ rest) (1 + n)
after_line A B line rest n one to from w b refused =
    let leading = line ++ 10 ∷ [] in
    let whole : (r : List ℕ) → leading ++ r ≡ line ++ 10 ∷ r = λ r. append_assoc line (10 ∷ []) r in
    let r0 : IsRefusedAt A (leading ++ rest) (newlines leading + n) = refused_after A B leading rest n
    (λ r h. to r (subst A (whole r) h)) (λ r h. subst A (sym (whole r)) (from r h)) w b refused in
    let count : newlines leading + n ≡ 1 + n = omega (arith, newlines-append line (10 ∷ [])) in
    subst (λ t. IsRefusedAt A t (1 + n)) (whole rest) (subst (λ k. IsRefusedAt A (leading ++ rest) k) count r0)

pub acts_push : (acts : List EventLine) (act : EventLine) → AreActs acts → IsEventLine act → AreActs (acts ++ act ∷ [])
acts_push [] act oks ok = (ok, tt)
acts_push (a ∷ acts) act oks ok = (oks.0, acts_push acts act oks.1 ok)

pub lines_of_acts_push : (acts : List EventLine) (act : EventLine) → text_of_lines (map line_of (acts ++ act ∷ [])) ≡ text_of_lines (map line_of acts) ++ (line_of act ++ 10 ∷ [])
lines_of_acts_push [] act = refl
lines_of_acts_push (a ∷ acts) act =
    ap (λ t. line_of a ++ 10 ∷ t) (lines_of_acts_push acts act) ∙ sym (append_assoc (line_of a) (10 ∷ text_of_lines (map line_of acts)) (line_of act ++ 10 ∷ []))

pub passed_act : (text rest line after : List ℕ) (act : EventLine) (before : ℕ) → Passed text rest before
    → FirstLine rest line after → IsEventLine act → line ≡ line_of act → Passed text after (before + 1)
passed_act text rest line after act before p f ok e =
    let here : rest ≡ line_of act ++ 10 ∷ after = f.is ∙ ap (λ l. l ++ 10 ∷ after) e in
    let one : newlines (line_of act) ≡ 0 = sym (ap newlines e) ∙ f.one in
    let leading = text_of_lines (map line_of p.acts) in
    record {
      acts = p.acts ++ act ∷ [];
      are = acts_push p.acts act p.are ok;
      text_is = p.text_is ∙ ap (λ t. leading ++ t) (here ∙ sym (append_assoc (line_of act) (10 ∷ []) after))
          ∙ sym (append_assoc leading (line_of act ++ 10 ∷ []) after) ∙ ap (λ t. t ++ after) (sym (lines_of_acts_push p.acts act));
      refused = λ n h.
          let r = after_line Acts Acts (line_of act) after n one (after_act act ok) (before_acts act ok) (text_of_lines (act_lines [])) no_acts h in
          let r1 : IsRefusedAt Acts text (before + (1 + n)) = p.refused (1 + n) (subst (λ t. IsRefusedAt Acts t (1 + n)) (sym here) r) in
          let count : before + (1 + n) ≡ before + 1 + n = omega arith in
          subst (λ k. IsRefusedAt Acts text k) count r1;
      small =
          let size = ap length here in
          let parts = length-append (line_of act) (10 ∷ after) in
          omega (arith, size, parts, p.small);
    }

-- the end was before, and nothing follows
pub passed_all : (text rest line after : List ℕ) (before at : ℕ) → Passed text rest before
    → FirstLine rest line after → line ≡ 101 ∷ 110 ∷ 100 ∷ [] → after ≡ [] → at + length rest ≡ length text → (at ≤ length text) × SpellsActs text (take at text)
passed_all text rest line after before at p f e none size =
    let leading = text_of_lines (map line_of p.acts) in
    let end : rest ≡ text_of_lines (codes "end" ∷ []) = f.is ∙ ap (λ l. l ++ 10 ∷ after) e ∙ ap (λ t. 101 ∷ 110 ∷ 100 ∷ 10 ∷ t) none in
    let long : length leading ≡ at = omega (arith, ap length p.text_is, length-append leading rest, size) in (
      omega (arith, size),
      record {
        acts = p.acts;
        acts_are = record { are = p.are; bytes_are = ap (take at) p.text_is ∙ take_at leading rest at long };
        text_is = p.text_is ∙ ap (λ t. leading ++ t) end ∙ sym (text_of_lines-append (map line_of p.acts) (codes "end" ∷ []));
      },
    )

pub refused_past_end : (text rest line after : List ℕ) (before : ℕ) → Passed text rest before
    → FirstLine rest line after → line ≡ 101 ∷ 110 ∷ 100 ∷ [] → after ≢ [] → IsRefusedAt Acts text (before + 1)
refused_past_end text rest line after before p f e some =
    let here : rest ≡ 101 ∷ 110 ∷ 100 ∷ 10 ∷ after = f.is ∙ ap (λ l. l ++ 10 ∷ after) e in
    let r = after_line Acts IsNothing (101 ∷ 110 ∷ 100 ∷ []) after 0 refl after_end before_end [] refl (refused_more after some) in
    p.refused 1 (subst (λ t. IsRefusedAt Acts t 1) (sym here) r)

pub refused_at_line : (text rest line after : List ℕ) (before : ℕ) → Passed text rest before
    → FirstLine rest line after → ((act : EventLine) → IsEventLine act → line ≢ line_of act) → line ≢ 101 ∷ 110 ∷ 100 ∷ []
    → IsRefusedAt Acts text before
refused_at_line text rest line after before p f no_act no_end =
    let r = refused_line Acts line after f.one (neither_act_nor_end line f.one no_act no_end) in
    let count : before + 0 ≡ before = omega arith in
    subst (λ k. IsRefusedAt Acts text k) count (p.refused 0 (subst (λ t. IsRefusedAt Acts t 0) (sym f.is) r))

pub refused_at_end : (text rest : List ℕ) (before : ℕ) → Passed text rest before → newlines rest ≡ 0
    → IsRefusedAt Acts text before
refused_at_end text rest before p one =
    let count : before + 0 ≡ before = omega arith in
    subst (λ k. IsRefusedAt Acts text k) count (p.refused 0 (refused_end Acts rest one (acts_have_newline rest one)))

pub passed_within : (text rest : List ℕ) (before : ℕ) → Passed text rest before → before ≤ length text
passed_within text rest before p = omega (arith, p.small)

pub passed_one_more : (text rest line after : List ℕ) (before : ℕ) → Passed text rest before
    → FirstLine rest line after → before + 1 ≤ length text
passed_one_more text rest line after before p f =
    let size = ap length f.is in
    omega (arith, size, length-append line (10 ∷ after), p.small)
