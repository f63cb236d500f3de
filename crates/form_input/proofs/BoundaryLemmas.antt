-- The sections of a body, line by line.
use Rattle.std.proofs.Common.{◌≡◌, ◌≤◌, ◌+◌, ◌-◌, ℕ, suc, Bool, true, false, cond, List, [], ◌∷◌, ◌++◌, Option, Some, None, take, length, refl, ap, sym, ◌∙◌, arith, append_assoc, length-append, inl, inr, nat_lt, subst, Bor, IfSome, option_copied}
use Rattle.std.proofs.Math.Seq.{take-append_seam}
use Rattle.std.proofs.lemmas.List.{append-nil}
use Rattle.form_input.specs.Lines.{lines, lines_left}
use Rattle.form_input.specs.Multipart.{Sections, line_form, is_plain_line, is_closing_line, with_line, sections}
use Rattle.form_input.specs.Boundaries.{sections_left, with_lines, prefix_of, IsEnded, ArePartsPassed}
use Rattle.std.proofs.lemmas.Bool.Decides.{nat_tests}
use Rattle.form_input.proofs.LineLemmas.{lines_append}

pub passed_nothing : (dash : List ℕ) (end : ℕ) (whole : List ℕ) → ArePartsPassed dash end whole whole
passed_nothing dash end whole = record { prefix = []; done = []; parts = refl; ended = inl (refl, refl); same = refl }

-- the sections from a line on
first_line : (dash : List ℕ) (end : ℕ) (rest line : List ℕ) (more : List (List ℕ)) → lines rest ≡ line ∷ more
    → sections_left dash end (Some rest) ≡ with_line (line_form dash line) (end - length rest) line (sections dash (end - length rest + length line + 2) more)
unfolding sections
first_line dash end rest line more e = rw e refl

plain_line : (plain : Bool) (closing : Bool) (at : ℕ) (line : List ℕ) (s : Sections) → plain ≡ true
    → cond plain (record { before = line ∷ s.before; later = s.later }) (record { before = []; later = record { place = at; closing = closing; content = s.before } ∷ s.later }) ≡ with_lines (line ∷ []) s
plain_line true closing at line s e = refl
plain_line false closing at line s e = absurd cc

twice : (done : List (List ℕ)) (line : List ℕ) (s : Sections) → with_lines done (with_lines (line ∷ []) s) ≡ with_lines (done ++ line ∷ []) s
twice done line s = ap (λ (b : List (List ℕ)). record { before = b; later = s.later }) (sym (append_assoc done (line ∷ []) s.before))

ended_more : (prefix line : List ℕ) (done : List (List ℕ)) → lines line ≡ line ∷ [] → IsEnded prefix done → IsEnded (prefix ++ (line ++ 13 ∷ 10 ∷ [])) (done ++ line ∷ [])
ended_more prefix line done alone e = elim e as (λ _. IsEnded (prefix ++ (line ++ 13 ∷ 10 ∷ [])) (done ++ line ∷ [])) [
  | inl none ↦ inr (line, rw none.0 refl, rw none.1 (sym alone))
  | inr some ↦ inr (some.0 ++ 13 ∷ 10 ∷ line, rw (some.1, append_assoc, append_assoc) refl, rw some.2 (sym (lines_append some.0 line ∙ ap (λ (ls : List (List ℕ)). lines some.0 ++ ls) alone)))
]

-- one more line was read
pub passed_line : (dash : List ℕ) (end : ℕ) (whole rest line more : List ℕ) → lines rest ≡ line ∷ lines more → lines line ≡ line ∷ [] → rest ≡ line ++ 13 ∷ 10 ∷ more
    → is_plain_line (line_form dash line) ≡ true → length whole ≤ end → ArePartsPassed dash end whole rest → ArePartsPassed dash end whole more
passed_line dash end whole rest line more first alone parts plain within p =
    let size : length rest ≡ length line + suc (suc (length more)) = rw parts (rw length-append refl) in
    let whole_size : length whole ≡ length p.prefix + length rest = rw p.parts (length-append p.prefix rest) in
    let at : end - length rest + length line + 2 ≡ end - length more = omega (arith, size, whole_size, within) in
    record {
      prefix = p.prefix ++ (line ++ 13 ∷ 10 ∷ []);
      done = p.done ++ line ∷ [];
      parts = p.parts ∙ rw (parts, append_assoc, append_assoc) refl;
      ended = ended_more p.prefix line p.done alone p.ended;
      same = p.same ∙ ap (with_lines p.done) (first_line dash end rest line (lines more) first ∙ plain_line (is_plain_line (line_form dash line)) (is_closing_line (line_form dash line)) (end - length rest) line _ plain ∙ rw at refl) ∙ twice p.done line _;
    }

mark_line : (kind : Bool) (closing : Bool) (at : ℕ) (line : List ℕ) (s : Sections) → kind ≡ false
    → ◌≡◌ {A = Sections} (cond kind (record { before = line ∷ s.before; later = s.later }) (record { before = []; later = record { place = at; closing = closing; content = s.before } ∷ s.later })) (record { before = []; later = record { place = at; closing = closing; content = s.before } ∷ s.later })
mark_line true closing at line s e = absurd cc
mark_line false closing at line s e = refl

-- what follows a line
pub left_after : (dash : List ℕ) (end : ℕ) (rest line : List ℕ) (after : Option (List ℕ)) → length rest ≤ end → ((more : List ℕ) → after ≡ Some more → rest ≡ line ++ 13 ∷ 10 ∷ more)
    → sections dash (end - length rest + length line + 2) (lines_left after) ≡ sections_left dash end after
unfolding sections
left_after dash end rest line None within parts = refl
left_after dash end rest line (Some more) within parts =
    let e = parts more refl in
    let size : length rest ≡ length line + suc (suc (length more)) = rw e (rw length-append refl) in
    let at : end - length rest + length line + 2 ≡ end - length more = omega (arith, size, within) in
    rw at refl

not_less : (n : ℕ) → nat_lt (suc (suc n)) 2 ≡ false
not_less n = grind (arith, nat_tests)

prefix_lines : (prefix rest : List ℕ) (done : List (List ℕ)) → IsEnded prefix done → lines_left (prefix_of (prefix ++ rest) (length rest)) ≡ done
prefix_lines prefix rest done e = elim e as (λ _. lines_left (prefix_of (prefix ++ rest) (length rest)) ≡ done) [
  | inl none ↦ let size : length (prefix ++ rest) - length rest ≡ 0 = rw none.0 (omega arith) in rw (size, none.1) refl
  | inr some ↦
      let long : length prefix ≡ length some.0 + 2 = rw some.1 (length-append some.0 (13 ∷ 10 ∷ [])) in
      let all : length (prefix ++ rest) ≡ length prefix + length rest = length-append prefix rest in
      let size : length (prefix ++ rest) - length rest ≡ suc (suc (length some.0)) = omega (arith, long, all) in
      let less : suc (suc (length some.0)) - 2 ≡ length some.0 = omega arith in
      let more : nat_lt (suc (suc (length some.0))) 2 ≡ false = not_less (length some.0) in
      let same : prefix ++ rest ≡ some.0 ++ (13 ∷ 10 ∷ rest) = rw (some.1, append_assoc) refl in
      let cut : take (length some.0) (prefix ++ rest) ≡ some.0 = rw same (take-append_seam some.0 (13 ∷ 10 ∷ rest)) in
      rw (size, more, less) (ap lines cut ∙ sym some.2)
]

-- the boundary line that was reached, and the lines before it
pub record Reached (dash : List ℕ) (end : ℕ) (whole : List ℕ) (prefix after : Option (List ℕ)) (place : ℕ) (closing : Bool) : Type 0 where
  pub before : (sections_left dash end (Some whole)).before ≡ lines_left prefix
  pub later : (sections_left dash end (Some whole)).later ≡ record { place = place; closing = closing; content = (sections_left dash end after).before } ∷ (sections_left dash end after).later

pub reached : (dash : List ℕ) (end : ℕ) (whole rest line : List ℕ) (after : Option (List ℕ)) → lines rest ≡ line ∷ lines_left after → ((more : List ℕ) → after ≡ Some more → rest ≡ line ++ 13 ∷ 10 ∷ more)
    → is_plain_line (line_form dash line) ≡ false → length whole ≤ end → ArePartsPassed dash end whole rest
    → Reached dash end whole (prefix_of whole (length rest)) after (end - length rest) (is_closing_line (line_form dash line))
reached dash end whole rest line after first parts plain within p =
    let whole_size : length whole ≡ length p.prefix + length rest = rw p.parts (length-append p.prefix rest) in
    let here = first_line dash end rest line (lines_left after) first
    ∙ mark_line (is_plain_line (line_form dash line)) (is_closing_line (line_form dash line)) (end - length rest) line (sections dash (end - length rest + length line + 2) (lines_left after)) plain
    ∙ ap (λ (s : Sections). record { before = []; later = record { place = end - length rest; closing = is_closing_line (line_form dash line); content = s.before } ∷ s.later }) (left_after dash end rest line after (omega (arith, whole_size, within)) parts) in
    let all = p.same ∙ ap (with_lines p.done) here in
    record {
      before = ap (λ (s : Sections). s.before) all ∙ append-nil p.done ∙ sym (rw p.parts (prefix_lines p.prefix rest p.done p.ended));
      later = ap (λ (s : Sections). s.later) all;
    }

-- no boundary line is left
pub none_left : (dash : List ℕ) (end : ℕ) (whole rest line : List ℕ) → lines rest ≡ line ∷ [] → is_plain_line (line_form dash line) ≡ true → ArePartsPassed dash end whole rest → (sections_left dash end (Some whole)).later ≡ []
unfolding sections
none_left dash end whole rest line first plain p =
    ap (λ (s : Sections). s.later) (p.same ∙ ap (with_lines p.done) (first_line dash end rest line [] first ∙ plain_line (is_plain_line (line_form dash line)) (is_closing_line (line_form dash line)) (end - length rest) line (sections dash (end - length rest + length line + 2) []) plain))

-- what holds of what a reference points to
pub copied : (P : List ℕ → Type 0) (o : Option (Bor (List ℕ))) → IfSome o (λ r. P r.now) → (more : List ℕ) → option_copied o ≡ Some more → P more
copied P None h more e = absurd cc
copied P (Some r) h more e = let same : r.now ≡ more = cc in subst P same h
