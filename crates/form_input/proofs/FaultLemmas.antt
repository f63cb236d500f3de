-- A body with a fault of the relation is refused for that fault.
use Rattle.std.proofs.Common.{◌≡◌, ◌<◌, ◌≤◌, ◌+◌, inl, inr, ℕ, true, false, not, eqb, List, [], ◌∷◌, ◌++◌, Option, Some, None, Result, Err, map, length, refl, ap, sym, ◌∙◌, arith, append_assoc}
use Rattle.std.specs.List.{list_all}
use Rattle.std.proofs.lemmas.Bool.Decides.{nat_tests}
use Rattle.std.proofs.lemmas.List.{append-nil}
use Rattle.sp_base.proofs.BoolLemmas.{and_first, and_second}
use Rattle.form_input.specs.declared.fault.FormFault.{FormFault}
use Rattle.form_input.specs.declared.fault.FormFault.TheVariants.{WrongKind, NoBoundary, BadPart, TooMany, NoMemory}
use Rattle.form_input.specs.declared.boundary.LineForm.{LineForm}
use Rattle.form_input.specs.declared.boundary.LineForm.TheVariants.{Opening, Closing, Plain}
use Rattle.form_input.specs.Multipart.{Sections, line_form, is_plain_line, is_closing_line, sections, pair_of, with_part, pairs_of, dash_boundary, multipart_of}
use Rattle.form_input.specs.Lines.{lines}
use Rattle.form_input.specs.Bodies.{BodyPart, part_lines, are_plain, is_body_part}
use Rattle.form_input.specs.BodyFaults.{bytes_of_lines, is_boundary_line, HasNoPart, LacksEnd, HasBadPart, HasTooMany, IsBodyFault}
use Rattle.form_input.proofs.FormLemmas.{Pairs, part_section, end_of_sections, last_section}
use Rattle.form_input.proofs.BodyLemmas.{opening_form, opening_line, closing_line, place_after, plain_lines, no_lines, Begins}

module _ (dash : List ℕ) where
  place_append : (at : ℕ) (prefix rest : List (List ℕ)) → place_after dash at (prefix ++ rest) ≡ place_after dash (place_after dash at prefix) rest
  unfolding place_after
  place_append at [] rest = refl
  place_append at (line ∷ prefix) rest = place_append (at + length line + 2) prefix rest

  place_is : (at : ℕ) (ls : List (List ℕ)) → place_after dash at ls ≡ at + bytes_of_lines ls
  unfolding place_after bytes_of_lines
  place_is at [] = omega arith
  place_is at (line ∷ more) = let ih = place_is (at + length line + 2) more in omega (arith, ih)

  bounded : (at : ℕ) (line : List ℕ) (more : List (List ℕ)) → is_boundary_line dash line ≡ true → Begins dash at (line ∷ more)
  bounded at line more b = go (line_form dash line) refl b
    where
      go : (k : LineForm) → line_form dash line ≡ k → not (is_plain_line k) ≡ true → Begins dash at (line ∷ more)
      go Opening k b = let e = opening_line dash at line more k in record { first = _; more = _; before = ap (λ (s : Sections). s.before) e; later = ap (λ (s : Sections). s.later) e }
      go Closing k b = let e = closing_line dash at line more k in record { first = _; more = _; before = ap (λ (s : Sections). s.before) e; later = ap (λ (s : Sections). s.later) e }
      go Plain k b = absurd cc

  part_form : (p : BodyPart) → is_body_part dash p ≡ true → line_form dash p.line ≡ Opening
  part_form p here = opening_form (line_form dash p.line) (and_first _ _ here) (and_first _ _ (and_second (not (is_plain_line (line_form dash p.line))) _ here))

  part_plain : (p : BodyPart) → is_body_part dash p ≡ true → are_plain dash p.content ≡ true
  part_plain p here = and_second (not (is_closing_line (line_form dash p.line))) _ (and_second (not (is_plain_line (line_form dash p.line))) _ here)

  begins : (at : ℕ) (parts : List BodyPart) (tail : List (List ℕ)) → list_all (is_body_part dash) parts ≡ true → ((a : ℕ) → Begins dash a tail) → Begins dash at (part_lines parts ++ tail)
  begins at [] tail opened tails = tails at
  begins at (p ∷ parts) tail opened tails =
      let e = opening_line dash at p.line ((p.content ++ part_lines parts) ++ tail) (part_form p (and_first (is_body_part dash p) _ opened)) in
      record { first = _; more = _; before = ap (λ (s : Sections). s.before) e; later = ap (λ (s : Sections). s.later) e }

  -- a part and what begins with a boundary line
  one_part : (end n at : ℕ) (p : BodyPart) (rest : List (List ℕ)) → is_body_part dash p ≡ true → ((a : ℕ) → Begins dash a rest)
      → pairs_of end n (sections dash at (p.line ∷ (p.content ++ rest))).later ≡ with_part n at (pair_of p.content) (pairs_of end (n + 1) (sections dash (place_after dash (at + length p.line + 2) p.content) rest).later)
  one_part end n at p rest here rests =
      let after = place_after dash (at + length p.line + 2) p.content in
      let b = rests after in
      let inner = plain_lines dash (at + length p.line + 2) p.content rest (part_plain p here) in
      let content : (sections dash (at + length p.line + 2) (p.content ++ rest)).before ≡ p.content = ap (λ (s : Sections). s.before) inner ∙ ap (λ (ls : List (List ℕ)). p.content ++ ls) b.before ∙ append-nil p.content in
      let later : (sections dash (at + length p.line + 2) (p.content ++ rest)).later ≡ (sections dash after rest).later = ap (λ (s : Sections). s.later) inner in
      ap (λ (s : Sections). pairs_of end n s.later) (opening_line dash at p.line (p.content ++ rest) (part_form p here))
      ∙ rw (content, later, b.later) (part_section end n _ b.first b.more refl)

  fault_later : (n place : ℕ) (o : Option (List ℕ × List ℕ)) (q : List ℕ × List ℕ) (r : Result Pairs FormFault) (f : FormFault) → o ≡ Some q → n < 1000 → r ≡ Err f → with_part n place o r ≡ Err f
  fault_later n place o q r f has low e = let other : eqb n 1000 ≡ false = grind (arith, nat_tests) in rw (has, e, other) refl

  one_too_many : (n place : ℕ) (o : Option (List ℕ × List ℕ)) (q : List ℕ × List ℕ) (r : Result Pairs FormFault) → o ≡ Some q → n ≡ 1000 → with_part n place o r ≡ Err TooMany
  one_too_many n place o q r has full = rw (has, full) refl

  -- parts with pairs before a fault
  read_fault : (end n at : ℕ) (parts : List BodyPart) (pairs : Pairs) (tail : List (List ℕ)) (f : FormFault) → list_all (is_body_part dash) parts ≡ true → ((a : ℕ) → Begins dash a tail)
      → map (λ (p : BodyPart). pair_of p.content) parts ≡ map Some pairs → n + length pairs ≤ 1000
      → ((m : ℕ) → pairs_of end m (sections dash (place_after dash at (part_lines parts)) tail).later ≡ Err f) → pairs_of end n (sections dash at (part_lines parts ++ tail)).later ≡ Err f
  unfolding place_after
  read_fault end n at [] [] tail f opened tails each few fault = fault n
  read_fault end n at [] (q ∷ pairs) tail f opened tails each few fault = absurd cc
  read_fault end n at (p ∷ parts) [] tail f opened tails each few fault = absurd cc
  read_fault end n at (p ∷ parts) (q ∷ pairs) tail f opened tails each few fault =
      let here = and_first (is_body_part dash p) _ opened in
      let others = and_second (is_body_part dash p) _ opened in
      let after = place_after dash (at + length p.line + 2) p.content in
      let pair : pair_of p.content ≡ Some q = cc in
      let later : map (λ (p : BodyPart). pair_of p.content) parts ≡ map Some pairs = cc in
      let same = place_append (at + length p.line + 2) p.content (part_lines parts) in
      let ih = read_fault end (n + 1) after parts pairs tail f others tails later (omega (arith, few)) (λ m. ap (λ (a : ℕ). pairs_of end m (sections dash a tail).later) (sym same) ∙ fault m) in
      ap (λ (ls : List (List ℕ)). pairs_of end n (sections dash at (p.line ∷ ls)).later) (append_assoc p.content (part_lines parts) tail)
      ∙ one_part end n at p (part_lines parts ++ tail) here (λ a. begins a parts tail others tails)
      ∙ fault_later n at (pair_of p.content) q _ f pair (omega (arith, few)) ih

  -- one part more than a form may have
  read_full : (end n at : ℕ) (parts : List BodyPart) (pairs : Pairs) (tail : List (List ℕ)) → list_all (is_body_part dash) parts ≡ true → ((a : ℕ) → Begins dash a tail)
      → map (λ (p : BodyPart). pair_of p.content) parts ≡ map Some pairs → n ≤ 1000 → n + length pairs ≡ 1001 → pairs_of end n (sections dash at (part_lines parts ++ tail)).later ≡ Err TooMany
  read_full end n at [] [] tail opened tails each low many = absurd (omega (arith, low, many))
  read_full end n at [] (q ∷ pairs) tail opened tails each low many = absurd cc
  read_full end n at (p ∷ parts) [] tail opened tails each low many = absurd cc
  read_full end n at (p ∷ parts) (q ∷ []) tail opened tails each low many =
      let here = and_first (is_body_part dash p) _ opened in
      let others = and_second (is_body_part dash p) _ opened in
      let pair : pair_of p.content ≡ Some q = cc in
      ap (λ (ls : List (List ℕ)). pairs_of end n (sections dash at (p.line ∷ ls)).later) (append_assoc p.content (part_lines parts) tail)
      ∙ one_part end n at p (part_lines parts ++ tail) here (λ a. begins a parts tail others tails)
      ∙ one_too_many n at (pair_of p.content) q _ pair (omega (arith, many))
  read_full end n at (p ∷ parts) (q ∷ next ∷ pairs) tail opened tails each low many =
      let here = and_first (is_body_part dash p) _ opened in
      let others = and_second (is_body_part dash p) _ opened in
      let pair : pair_of p.content ≡ Some q = cc in
      let later : map (λ (p : BodyPart). pair_of p.content) parts ≡ map Some (next ∷ pairs) = cc in
      let ih = read_full end (n + 1) (place_after dash (at + length p.line + 2) p.content) parts (next ∷ pairs) tail others tails later (omega (arith, many)) (omega (arith, many)) in
      ap (λ (ls : List (List ℕ)). pairs_of end n (sections dash at (p.line ∷ ls)).later) (append_assoc p.content (part_lines parts) tail)
      ∙ one_part end n at p (part_lines parts ++ tail) here (λ a. begins a parts tail others tails)
      ∙ fault_later n at (pair_of p.content) q _ TooMany pair (omega (arith, many)) ih

  -- a part that no boundary line ends
  last_part : (end m at : ℕ) (p : BodyPart) → is_body_part dash p ≡ true → pairs_of end m (sections dash at (p.line ∷ p.content)).later ≡ Err (BadPart end)
  last_part end m at p here =
      let inner = plain_lines dash (at + length p.line + 2) p.content [] (part_plain p here) in
      let later : (sections dash (at + length p.line + 2) p.content).later ≡ [] = ap (λ (ls : List (List ℕ)). (sections dash (at + length p.line + 2) ls).later) (sym (append-nil p.content)) ∙ ap (λ (s : Sections). s.later) inner ∙ no_lines dash _ in
      ap (λ (s : Sections). pairs_of end m s.later) (opening_line dash at p.line p.content (part_form p here))
      ∙ rw later (last_section end m _ refl)

  -- a part without a pair
  bad_part : (end m at : ℕ) (p : BodyPart) (next : List ℕ) (more : List (List ℕ)) → is_body_part dash p ≡ true → is_boundary_line dash next ≡ true → pair_of p.content ≡ None
      → pairs_of end m (sections dash at (p.line ∷ (p.content ++ next ∷ more))).later ≡ Err (BadPart at)
  bad_part end m at p next more here ended none = one_part end m at p (next ∷ more) here (λ a. bounded a next more ended) ∙ rw none refl

  opens : (p : BodyPart) → is_body_part dash p ≡ true → is_boundary_line dash p.line ≡ true
  opens p here = and_first (not (is_plain_line (line_form dash p.line))) _ here

module _ (boundary body : List ℕ) where
  abbrev dash : List ℕ
  dash = dash_boundary boundary

  -- what the lines after a preamble read as
  after_preamble : (preamble rest : List (List ℕ)) → lines body ≡ preamble ++ rest → are_plain dash preamble ≡ true → multipart_of boundary body ≡ pairs_of (length body) 0 (sections dash (place_after dash 0 preamble) rest).later
  after_preamble preamble rest spells plain =
      ap (λ (ls : List (List ℕ)). pairs_of (length body) 0 (sections dash 0 ls).later) spells
      ∙ ap (λ (s : Sections). pairs_of (length body) 0 s.later) (plain_lines dash 0 preamble rest plain)

  no_part : HasNoPart boundary body → multipart_of boundary body ≡ Err (BadPart (length body))
  no_part plain = after_preamble (lines body) [] (sym (append-nil (lines body))) plain ∙ ap (pairs_of (length body) 0) (no_lines dash _) ∙ end_of_sections (length body) 0

  no_end : LacksEnd boundary body → multipart_of boundary body ≡ Err (BadPart (length body))
  no_end h =
      let b = h.begins in
      let few = h.few in
      let at = place_after dash 0 b.preamble in
      after_preamble b.preamble (part_lines b.parts ++ h.last.line ∷ h.last.content) b.spells b.before
      ∙ read_fault dash (length body) 0 at b.parts h.pairs (h.last.line ∷ h.last.content) (BadPart (length body)) b.opened (λ a. bounded dash a h.last.line h.last.content (opens dash h.last h.opened)) b.each (omega (arith, few))
      (λ m. last_part dash (length body) m (place_after dash at (part_lines b.parts)) h.last h.opened)

  a_bad_part : (place : ℕ) → HasBadPart boundary body place → multipart_of boundary body ≡ Err (BadPart place)
  a_bad_part place h =
      let b = h.begins in
      let few = h.few in
      let at = place_after dash 0 b.preamble in
      let here = place_after dash at (part_lines b.parts) in
      let tail = h.bad.line ∷ (h.bad.content ++ h.next ∷ h.more) in
      let past = place_append dash 0 b.preamble (part_lines b.parts) in
      let bytes = place_is dash 0 (b.preamble ++ part_lines b.parts) in
      let told = h.at in
      let same : here ≡ place = omega (arith, past, bytes, told) in
      after_preamble b.preamble (part_lines b.parts ++ tail) b.spells b.before
      ∙ read_fault dash (length body) 0 at b.parts h.pairs tail (BadPart place) b.opened (λ a. bounded dash a h.bad.line (h.bad.content ++ h.next ∷ h.more) (opens dash h.bad h.opened)) b.each (omega (arith, few))
      (λ m. bad_part dash (length body) m here h.bad h.next h.more h.opened h.ended h.nameless ∙ ap (λ (n : ℕ). Err (BadPart n)) same)

  too_many : HasTooMany boundary body → multipart_of boundary body ≡ Err TooMany
  too_many h =
      let b = h.begins in
      let many = h.many in
      after_preamble b.preamble (part_lines b.parts ++ h.next ∷ h.more) b.spells b.before
      ∙ read_full dash (length body) 0 (place_after dash 0 b.preamble) b.parts h.pairs (h.next ∷ h.more) b.opened (λ a. bounded dash a h.next h.more h.ended) b.each (omega arith) (omega (arith, many))

  pub refused : (f : FormFault) → IsBodyFault boundary body f → multipart_of boundary body ≡ Err f
  refused WrongKind h = absurd h
  refused NoBoundary h = absurd h
  refused (BadPart place) (inl (at, inl none)) = no_part none ∙ ap (λ (n : ℕ). Err (BadPart n)) (sym at)
  refused (BadPart place) (inl (at, inr lacks)) = no_end lacks ∙ ap (λ (n : ℕ). Err (BadPart n)) (sym at)
  refused (BadPart place) (inr bad) = a_bad_part place bad
  refused TooMany h = too_many h
  refused NoMemory h = absurd h
