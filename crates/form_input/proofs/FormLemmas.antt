-- Pairs, one part after another.
use Rattle.std.proofs.Common.{◌≡◌, ◌<◌, ◌≤◌, ◌+◌, ℕ, suc, true, false, eqb, List, [], ◌∷◌, ◌++◌, Option, Some, None, Result, Ok, Err, length, refl, ap, sym, ◌∙◌, arith, append_assoc, IfSome, option_copied, Bor, ◌-◌, length-append}
use Rattle.std.proofs.lemmas.Bool.Decides.{nat_tests}
use Rattle.std.proofs.lemmas.List.{append-nil}
use Rattle.form_input.specs.declared.boundary.BoundaryLine.{BoundaryLine}
use Rattle.form_input.specs.Boundaries.{from_mark, sections_left, IsMark}
use Rattle.form_input.specs.Lines.{lines, lines_left}
use Rattle.form_input.specs.declared.fault.FormFault.{FormFault}
use Rattle.form_input.specs.declared.fault.FormFault.TheVariants.{BadPart, TooMany}
use Rattle.form_input.specs.Multipart.{Section, Sections, sections, pair_of, before_all, with_part, pairs_of, dash_boundary, multipart_of}

abbrev pub Pairs : Type 0
Pairs = List (List ℕ × List ℕ)

pub before_more : (ps : Pairs) (p : List ℕ × List ℕ) (r : Result Pairs FormFault) → before_all ps (before_all (p ∷ []) r) ≡ before_all (ps ++ p ∷ []) r
before_more ps p (Ok more) = ap Ok (sym (append_assoc ps (p ∷ []) more))
before_more ps p (Err e) = refl

pub end_of_sections : (end n : ℕ) → pairs_of end n [] ≡ Err (BadPart end)
unfolding pairs_of
end_of_sections end n = refl

pub last_section : (end n : ℕ) (s : Section) → s.closing ≡ false → pairs_of end n (s ∷ []) ≡ Err (BadPart end)
unfolding pairs_of
last_section end n s e = rw e refl

pub closing_section : (end n : ℕ) (s : Section) (more : List Section) → s.closing ≡ true → pairs_of end n (s ∷ more) ≡ Ok []
unfolding pairs_of
closing_section end n s [] e = rw e refl
closing_section end n s (next ∷ more) e = rw e refl

pub part_section : (end n : ℕ) (s next : Section) (more : List Section) → s.closing ≡ false → pairs_of end n (s ∷ next ∷ more) ≡ with_part n s.place (pair_of s.content) (pairs_of end (n + 1) (next ∷ more))
unfolding pairs_of
part_section end n s next more e = rw e refl

abbrev pub left : Option (List ℕ) → ℕ
left None = 0
left (Some text) = suc (length text)

-- the pairs up to a boundary line were read
pub record IsReadTo (dash : List ℕ) (end : ℕ) (first : BoundaryLine) (form : Pairs) (mark : BoundaryLine) : Type 0 where
  pub same : before_all form (pairs_of end (length form) (from_mark dash end mark)) ≡ pairs_of end 0 (from_mark dash end first)
  pub few : length form ≤ 1000
  pub within : IfSome mark.after (λ rest. length rest.now ≤ end)

-- no boundary line follows
pub no_end : (dash : List ℕ) (end : ℕ) (first : BoundaryLine) (form : Pairs) (mark : BoundaryLine) → IsReadTo dash end first form mark → mark.closing ≡ false → (sections_left dash end (option_copied mark.after)).later ≡ []
    → pairs_of end 0 (from_mark dash end first) ≡ Err (BadPart end)
no_end dash end first form mark inv opening none =
    sym inv.same
    ∙ ap (λ (more : List Section). before_all form (pairs_of end (length form) (record { place = mark.place; closing = mark.closing; content = (sections_left dash end (option_copied mark.after)).before } ∷ more))) none
    ∙ ap (before_all form) (last_section end (length form) (record { place = mark.place; closing = mark.closing; content = (sections_left dash end (option_copied mark.after)).before }) opening)

pub nothing_left : (dash : List ℕ) (end : ℕ) (o : Option (List ℕ)) → o ≡ None → (sections_left dash end o).later ≡ []
unfolding sections
nothing_left dash end None e = refl
nothing_left dash end (Some t) e = absurd cc

-- the part up to the next boundary line, and the rest
pub read_on : (dash : List ℕ) (end : ℕ) (first : BoundaryLine) (form : Pairs) (mark next : BoundaryLine) (text : List ℕ) → IsReadTo dash end first form mark → mark.closing ≡ false → option_copied mark.after ≡ Some text → IsMark dash end text next
    → before_all form (with_part (length form) mark.place (pair_of (lines_left (option_copied next.before))) (pairs_of end (length form + 1) (from_mark dash end next))) ≡ pairs_of end 0 (from_mark dash end first)
read_on dash end first form mark next text inv opening after m =
    let content : (sections_left dash end (option_copied mark.after)).before ≡ lines_left (option_copied next.before) = ap (λ (o : Option (List ℕ)). (sections_left dash end o).before) after ∙ m.before in
    let later : (sections_left dash end (option_copied mark.after)).later ≡ from_mark dash end next = ap (λ (o : Option (List ℕ)). (sections_left dash end o).later) after ∙ m.later in
    let here : pairs_of end (length form) (from_mark dash end mark) ≡ with_part (length form) mark.place (pair_of (lines_left (option_copied next.before))) (pairs_of end (length form + 1) (from_mark dash end next)) =
    ap (λ (ls : List (List ℕ)). pairs_of end (length form) (record { place = mark.place; closing = mark.closing; content = ls } ∷ (sections_left dash end (option_copied mark.after)).later)) content
    ∙ ap (λ (more : List Section). pairs_of end (length form) (record { place = mark.place; closing = mark.closing; content = lines_left (option_copied next.before) } ∷ more)) later
    ∙ part_section end (length form) (record { place = mark.place; closing = mark.closing; content = lines_left (option_copied next.before) }) _ _ opening in
    sym (ap (before_all form) here) ∙ inv.same

pub bad_part : (n place : ℕ) (form : Pairs) (o : Option (List ℕ × List ℕ)) (r all : Result Pairs FormFault) → o ≡ None → before_all form (with_part n place o r) ≡ all → all ≡ Err (BadPart place)
bad_part n place form None r all e same = sym same
bad_part n place form (Some pair) r all e same = absurd cc

pub too_many : (n place : ℕ) (form : Pairs) (o : Option (List ℕ × List ℕ)) (pair : List ℕ × List ℕ) (r all : Result Pairs FormFault) → o ≡ Some pair → n ≡ 1000 → before_all form (with_part n place o r) ≡ all → all ≡ Err TooMany
too_many n place form None pair r all e full same = absurd cc
too_many n place form (Some p) pair r all e full same = sym same ∙ rw full refl

one_more : (n place : ℕ) (form : Pairs) (o : Option (List ℕ × List ℕ)) (pair : List ℕ × List ℕ) (r all : Result Pairs FormFault) → o ≡ Some pair → eqb n 1000 ≡ false → before_all form (with_part n place o r) ≡ all → before_all (form ++ pair ∷ []) r ≡ all
one_more n place form None pair r all e few same = absurd cc
one_more n place form (Some p) pair r all e few same =
    let is : p ≡ pair = cc in
    sym (before_more form pair r) ∙ rw (← is) (sym (ap (before_all form) (rw few refl)) ∙ same)

within_end : (o : Option (Bor (List ℕ))) (n end : ℕ) → IfSome o (λ r. length r.now < n) → n ≤ end → IfSome o (λ r. length r.now ≤ end)
within_end None n end h le = tt
within_end (Some r) n end h le = omega (arith, h, le)

not_full : (n : ℕ) → (n ≡ 1000 → ⊥) → eqb n 1000 ≡ false
not_full n other = grind (arith, nat_tests)

pub pushed : (dash : List ℕ) (end : ℕ) (first : BoundaryLine) (form more : Pairs) (mark next : BoundaryLine) (after : Bor (List ℕ)) (o : Option (List ℕ × List ℕ)) (pair : List ℕ × List ℕ) → IsReadTo dash end first form mark → mark.closing ≡ false → mark.after ≡ Some after → IsMark dash end after.now next
    → IfSome next.after (λ r. length r.now < length after.now) → o ≡ pair_of (lines_left (option_copied next.before)) → o ≡ Some pair → (length form ≡ 1000 → ⊥) → more ≡ form ++ pair ∷ [] → IsReadTo dash end first more next
pushed dash end first form more mark next after o pair inv opening is m shorter eo some other em =
    let on = read_on dash end first form mark next after.now inv opening (ap option_copied is) m in
    let size : length form + 1 ≡ length (form ++ pair ∷ []) = rw length-append refl in
    let few = inv.few in
    let inside : length after.now ≤ end = rw is at inv.within in
    record {
      same = rw em (ap (λ (n : ℕ). before_all (form ++ pair ∷ []) (pairs_of end n (from_mark dash end next))) (sym size)
          ∙ one_more (length form) mark.place form (pair_of (lines_left (option_copied next.before))) pair (pairs_of end (length form + 1) (from_mark dash end next)) _ (sym eo ∙ some) (not_full (length form) other) on);
      few = rw em (rw (← size) (omega (arith, few, other)));
      within = within_end next.after (length after.now) end shorter inside;
    }

pub all_read : (dash : List ℕ) (end : ℕ) (first : BoundaryLine) (form : Pairs) (mark : BoundaryLine) → IsReadTo dash end first form mark → mark.closing ≡ true → pairs_of end 0 (from_mark dash end first) ≡ Ok form
all_read dash end first form mark inv closed =
    sym inv.same ∙ ap (before_all form) (closing_section end (length form) (record { place = mark.place; closing = mark.closing; content = (sections_left dash end (option_copied mark.after)).before }) (sections_left dash end (option_copied mark.after)).later closed) ∙ ap Ok (append-nil form)

-- a body is read from its first boundary line on
whole : (dash boundary body : List ℕ) → dash ≡ dash_boundary boundary → sections_left dash (length body) (Some body) ≡ sections (dash_boundary boundary) 0 (lines body)
whole dash boundary body e = let none : length body - length body ≡ 0 = omega arith in rw (e, none) refl

pub body_without_end : (dash boundary body : List ℕ) → dash ≡ dash_boundary boundary → (sections_left dash (length body) (Some body)).later ≡ [] → multipart_of boundary body ≡ Err (BadPart (length body))
body_without_end dash boundary body e none =
    let same : (sections (dash_boundary boundary) 0 (lines body)).later ≡ [] = sym (ap (λ (s : Sections). s.later) (whole dash boundary body e)) ∙ none in
    ap (pairs_of (length body) 0) same ∙ end_of_sections (length body) 0
