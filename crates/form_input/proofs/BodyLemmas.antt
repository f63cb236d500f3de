-- The reading line by line is the relation on whole bodies.
use Rattle.std.proofs.Common.{◌≡◌, ◌<◌, ◌≤◌, ◌+◌, ℕ, Bool, true, false, cond, not, eqb, List, [], ◌∷◌, ◌++◌, Option, Some, None, Result, Ok, Err, map, length, refl, ap, sym, ◌∙◌, arith, append_assoc}
use Rattle.std.specs.List.{list_all}
use Rattle.std.proofs.lemmas.Bool.Decides.{nat_tests}
use Rattle.std.proofs.lemmas.List.{append-nil}
use Rattle.sp_base.proofs.BoolLemmas.{and_first, and_second}
use Rattle.form_input.specs.declared.fault.FormFault.{FormFault}
use Rattle.form_input.specs.declared.fault.FormFault.TheVariants.{TooMany}
use Rattle.form_input.specs.declared.boundary.LineForm.{LineForm}
use Rattle.form_input.specs.declared.boundary.LineForm.TheVariants.{Opening, Closing, Plain}
use Rattle.form_input.specs.Multipart.{Section, Sections, line_form, is_plain_line, is_closing_line, sections, pair_of, before_all, with_part, pairs_of, dash_boundary, multipart_of}
use Rattle.form_input.specs.Lines.{lines}
use Rattle.form_input.specs.Bodies.{BodyPart, part_lines, are_plain, is_body_part, HasPairs}
use Rattle.form_input.proofs.FormLemmas.{Pairs, closing_section, part_section, end_of_sections, last_section}

plain_form : (k : LineForm) → is_plain_line k ≡ true → k ≡ Plain
plain_form Opening e = absurd cc
plain_form Closing e = absurd cc
plain_form Plain e = refl

closing_form : (k : LineForm) → is_closing_line k ≡ true → k ≡ Closing
closing_form Opening e = absurd cc
closing_form Closing e = refl
closing_form Plain e = absurd cc

pub opening_form : (k : LineForm) → not (is_plain_line k) ≡ true → not (is_closing_line k) ≡ true → k ≡ Opening
opening_form Opening e f = refl
opening_form Closing e f = absurd cc
opening_form Plain e f = absurd cc

module _ (dash : List ℕ) where
  plain_line : (at : ℕ) (line : List ℕ) (more : List (List ℕ)) → line_form dash line ≡ Plain
      → ◌≡◌ {A = Sections} (sections dash at (line ∷ more)) (record { before = line ∷ (sections dash (at + length line + 2) more).before; later = (sections dash (at + length line + 2) more).later })
  unfolding sections
  plain_line at line more e = rw e refl

  pub opening_line : (at : ℕ) (line : List ℕ) (more : List (List ℕ)) → line_form dash line ≡ Opening
      → ◌≡◌ {A = Sections} (sections dash at (line ∷ more)) (record { before = []; later = record { place = at; closing = false; content = (sections dash (at + length line + 2) more).before } ∷ (sections dash (at + length line + 2) more).later })
  unfolding sections
  opening_line at line more e = rw e refl

  pub closing_line : (at : ℕ) (line : List ℕ) (more : List (List ℕ)) → line_form dash line ≡ Closing
      → ◌≡◌ {A = Sections} (sections dash at (line ∷ more)) (record { before = []; later = record { place = at; closing = true; content = (sections dash (at + length line + 2) more).before } ∷ (sections dash (at + length line + 2) more).later })
  unfolding sections
  closing_line at line more e = rw e refl

  -- the place after lines
  unfoldable pub place_after : ℕ → List (List ℕ) → ℕ
  place_after at [] = at
  place_after at (line ∷ more) = place_after (at + length line + 2) more

  -- lines that are no boundary lines stand before the sections of the rest
  pub plain_lines : (at : ℕ) (prefix rest : List (List ℕ)) → are_plain dash prefix ≡ true
      → ◌≡◌ {A = Sections} (sections dash at (prefix ++ rest)) (record { before = prefix ++ (sections dash (place_after at prefix) rest).before; later = (sections dash (place_after at prefix) rest).later })
  unfolding place_after
  plain_lines at [] rest e = refl
  plain_lines at (line ∷ prefix) rest e =
      let ih = plain_lines (at + length line + 2) prefix rest (and_second (is_plain_line (line_form dash line)) _ e) in
      plain_line at line (prefix ++ rest) (plain_form (line_form dash line) (and_first (is_plain_line (line_form dash line)) _ e))
      ∙ ap (λ (s : Sections). record { before = line ∷ s.before; later = s.later }) ih

  -- the sections of parts and a closing line begin with a boundary line
  pub record Begins (at : ℕ) (ls : List (List ℕ)) : Type 0 where
    pub first : Section
    pub more : List Section
    pub before : (sections dash at ls).before ≡ []
    pub later : (sections dash at ls).later ≡ first ∷ more

  begins : (at : ℕ) (parts : List BodyPart) (closing : List ℕ) (epilogue : List (List ℕ)) → list_all (is_body_part dash) parts ≡ true → is_closing_line (line_form dash closing) ≡ true
      → Begins at (part_lines parts ++ closing ∷ epilogue)
  begins at [] closing epilogue opened closed =
      let e = closing_line at closing epilogue (closing_form (line_form dash closing) closed) in
      record { first = _; more = _; before = ap (λ (s : Sections). s.before) e; later = ap (λ (s : Sections). s.later) e }
  begins at (p ∷ parts) closing epilogue opened closed =
      let here = and_first (is_body_part dash p) _ opened in
      let form = opening_form (line_form dash p.line) (and_first _ _ here) (and_first _ _ (and_second (not (is_plain_line (line_form dash p.line))) _ here)) in
      let e = opening_line at p.line ((p.content ++ part_lines parts) ++ closing ∷ epilogue) form in
      record { first = _; more = _; before = ap (λ (s : Sections). s.before) e; later = ap (λ (s : Sections). s.later) e }

  few_more : (end n : ℕ) (place : ℕ) (pair : List ℕ × List ℕ) (rest : Pairs) → n < 1000 → with_part n place (Some pair) (Ok rest) ≡ Ok (pair ∷ rest)
  few_more end n place pair rest low = let other : eqb n 1000 ≡ false = grind (arith, nat_tests) in rw other refl

  -- parts and a closing line read as their pairs
  read_parts : (end n at : ℕ) (parts : List BodyPart) (pairs : Pairs) (closing : List ℕ) (epilogue : List (List ℕ)) → list_all (is_body_part dash) parts ≡ true → is_closing_line (line_form dash closing) ≡ true
      → map (λ (p : BodyPart). pair_of p.content) parts ≡ map Some pairs → n + length pairs ≤ 1000 → pairs_of end n (sections dash at (part_lines parts ++ closing ∷ epilogue)).later ≡ Ok pairs
  read_parts end n at [] [] closing epilogue opened closed each few =
      ap (λ (s : Sections). pairs_of end n s.later) (closing_line at closing epilogue (closing_form (line_form dash closing) closed)) ∙ closing_section end n _ _ refl
  read_parts end n at [] (q ∷ pairs) closing epilogue opened closed each few = absurd cc
  read_parts end n at (p ∷ parts) [] closing epilogue opened closed each few = absurd cc
  read_parts end n at (p ∷ parts) (q ∷ pairs) closing epilogue opened closed each few =
      let here = and_first (is_body_part dash p) _ opened in
      let rest = and_second (not (is_plain_line (line_form dash p.line))) _ here in
      let form = opening_form (line_form dash p.line) (and_first _ _ here) (and_first _ _ rest) in
      let tail = part_lines parts ++ closing ∷ epilogue in
      let after = place_after (at + length p.line + 2) p.content in
      let b = begins after parts closing epilogue (and_second (is_body_part dash p) _ opened) closed in
      let inner = ap (sections dash (at + length p.line + 2)) (append_assoc p.content (part_lines parts) (closing ∷ epilogue)) ∙ plain_lines (at + length p.line + 2) p.content tail (and_second (not (is_closing_line (line_form dash p.line))) _ rest) in
      let content : (sections dash (at + length p.line + 2) ((p.content ++ part_lines parts) ++ closing ∷ epilogue)).before ≡ p.content = ap (λ (s : Sections). s.before) inner ∙ ap (λ (ls : List (List ℕ)). p.content ++ ls) b.before ∙ append-nil p.content in
      let later : (sections dash (at + length p.line + 2) ((p.content ++ part_lines parts) ++ closing ∷ epilogue)).later ≡ (sections dash after tail).later = ap (λ (s : Sections). s.later) inner in
      let pair : pair_of p.content ≡ Some q = cc in
      let others : map (λ (p : BodyPart). pair_of p.content) parts ≡ map Some pairs = cc in
      let ih = read_parts end (n + 1) after parts pairs closing epilogue (and_second (is_body_part dash p) _ opened) closed others (omega (arith, few)) in
      ap (λ (s : Sections). pairs_of end n s.later) (opening_line at p.line ((p.content ++ part_lines parts) ++ closing ∷ epilogue) form)
      ∙ rw (content, later, b.later) (part_section end n _ b.first b.more refl ∙ rw (pair, ← b.later, ih) (few_more end n at q pairs (omega (arith, few))))

  -- lines that read as pairs are spelled by parts
  record Spelled (n at : ℕ) (ls : List (List ℕ)) (pairs : Pairs) : Type 0 where
    preamble : List (List ℕ)
    parts : List BodyPart
    closing : List ℕ
    epilogue : List (List ℕ)
    spells : ls ≡ preamble ++ (part_lines parts ++ closing ∷ epilogue)
    plain : are_plain dash preamble ≡ true
    opened : list_all (is_body_part dash) parts ≡ true
    closed : is_closing_line (line_form dash closing) ≡ true
    prefix : (sections dash at ls).before ≡ preamble
    each : map (λ (p : BodyPart). pair_of p.content) parts ≡ map Some pairs
    few : n + length pairs ≤ 1000

  record PartRead (n : ℕ) (o : Option (List ℕ × List ℕ)) (r : Result Pairs FormFault) (pairs : Pairs) : Type 0 where
    pair : List ℕ × List ℕ
    rest : Pairs
    has : o ≡ Some pair
    later : r ≡ Ok rest
    all : pairs ≡ pair ∷ rest
    other : eqb n 1000 ≡ false

  part_read : (n place : ℕ) (o : Option (List ℕ × List ℕ)) (r : Result Pairs FormFault) (pairs : Pairs) → with_part n place o r ≡ Ok pairs → PartRead n o r pairs
  part_read n place None r pairs e = absurd cc
  part_read n place (Some pair) r pairs e = go (eqb n 1000) refl r e
    where
      go : (x : Bool) → eqb n 1000 ≡ x → (r : Result Pairs FormFault) → cond x (Err TooMany) (before_all (pair ∷ []) r) ≡ Ok pairs → PartRead n (Some pair) r pairs
      go true x r e = absurd cc
      go false x (Err f) e = absurd cc
      go false x (Ok rest) e = record { pair = pair; rest = rest; has = refl; later = refl; all = cc; other = x }

  pub no_lines : (at : ℕ) → (sections dash at []).later ≡ []
  unfolding sections
  no_lines at = refl

  opened_part : (line : List ℕ) (content : List (List ℕ)) (parts : List BodyPart) → line_form dash line ≡ Opening → are_plain dash content ≡ true → list_all (is_body_part dash) parts ≡ true
      → list_all (is_body_part dash) (record { line = line; content = content } ∷ parts) ≡ true
  opened_part line content parts k plain opened = rw (k, plain) opened

  each_part : (line : List ℕ) (content : List (List ℕ)) (parts : List BodyPart) (pair : List ℕ × List ℕ) (rest pairs : Pairs) → pair_of content ≡ Some pair → map (λ (p : BodyPart). pair_of p.content) parts ≡ map Some rest → pairs ≡ pair ∷ rest
      → map (λ (p : BodyPart). pair_of p.content) (record { line = line; content = content } ∷ parts) ≡ map Some pairs
  each_part line content parts pair rest pairs has each all = rw all (ap (λ (o : Option (List ℕ × List ℕ)). o ∷ map (λ (p : BodyPart). pair_of p.content) parts) has ∙ ap (λ (os : List (Option (List ℕ × List ℕ))). Some pair ∷ os) each)

  few_part : (n : ℕ) (pair : List ℕ × List ℕ) (rest pairs : Pairs) → pairs ≡ pair ∷ rest → n + 1 + length rest ≤ 1000 → n + length pairs ≤ 1000
  few_part n pair rest pairs all few = rw all (omega (arith, few))

  not_full : (n : ℕ) → n ≤ 1000 → eqb n 1000 ≡ false → n + 1 ≤ 1000
  not_full n small other = grind (arith, nat_tests)

  spelled : (end n at : ℕ) (ls : List (List ℕ)) (pairs : Pairs) → n ≤ 1000 → pairs_of end n (sections dash at ls).later ≡ Ok pairs → Spelled n at ls pairs
  spelled end n at [] pairs small e =
      let none = end_of_sections end n in
      let nil = no_lines at in
      absurd (let f : pairs_of end n [] ≡ Ok pairs = sym (ap (pairs_of end n) nil) ∙ e in cc)
  spelled end n at (line ∷ more) pairs small e = go (line_form dash line) refl (λ m qs low f. spelled end m (at + length line + 2) more qs low f)
    where
      go : (k : LineForm) → line_form dash line ≡ k → ((m : ℕ) (qs : Pairs) → m ≤ 1000 → pairs_of end m (sections dash (at + length line + 2) more).later ≡ Ok qs → Spelled m (at + length line + 2) more qs) → Spelled n at (line ∷ more) pairs
      go Plain k ih =
          let here = plain_line at line more k in
          let w = ih n pairs small (sym (ap (λ (s : Sections). pairs_of end n s.later) here) ∙ e) in
          record {
            preamble = line ∷ w.preamble;
            parts = w.parts;
            closing = w.closing;
            epilogue = w.epilogue;
            spells = ap (λ (ls : List (List ℕ)). line ∷ ls) w.spells;
            plain = rw k w.plain;
            opened = w.opened;
            closed = w.closed;
            prefix = ap (λ (s : Sections). s.before) here ∙ ap (λ (ls : List (List ℕ)). line ∷ ls) w.prefix;
            each = w.each;
            few = w.few;
          }
      go Closing k ih =
          let here = closing_line at line more k in
          let read = sym (ap (λ (s : Sections). pairs_of end n s.later) here) ∙ e in
          let none = closing_section end n (record { place = at; closing = true; content = (sections dash (at + length line + 2) more).before }) (sections dash (at + length line + 2) more).later refl in
          let nil : pairs ≡ [] = cc in
          record {
            preamble = [];
            parts = [];
            closing = line;
            epilogue = more;
            spells = refl;
            plain = refl;
            opened = refl;
            closed = rw k refl;
            prefix = ap (λ (s : Sections). s.before) here;
            each = rw nil refl;
            few = rw nil (omega (arith, small));
          }
      go Opening k ih = split (sections dash (at + length line + 2) more).later refl
        where
          here : ◌≡◌ {A = Sections} (sections dash at (line ∷ more)) (record { before = []; later = record { place = at; closing = false; content = (sections dash (at + length line + 2) more).before } ∷ (sections dash (at + length line + 2) more).later })
          here = opening_line at line more k

          read : pairs_of end n (record { place = at; closing = false; content = (sections dash (at + length line + 2) more).before } ∷ (sections dash (at + length line + 2) more).later) ≡ Ok pairs
          read = sym (ap (λ (s : Sections). pairs_of end n s.later) here) ∙ e

          split : (later : List Section) → (sections dash (at + length line + 2) more).later ≡ later → Spelled n at (line ∷ more) pairs
          split [] none =
              let last = last_section end n (record { place = at; closing = false; content = (sections dash (at + length line + 2) more).before }) refl in
              let f : pairs_of end n (record { place = at; closing = false; content = (sections dash (at + length line + 2) more).before } ∷ []) ≡ Ok pairs = sym (ap (λ (later : List Section). pairs_of end n (record { place = at; closing = false; content = (sections dash (at + length line + 2) more).before } ∷ later)) none) ∙ read in
              absurd cc
          split (next ∷ tail) some =
              let f : pairs_of end n (record { place = at; closing = false; content = (sections dash (at + length line + 2) more).before } ∷ next ∷ tail) ≡ Ok pairs = sym (ap (λ (later : List Section). pairs_of end n (record { place = at; closing = false; content = (sections dash (at + length line + 2) more).before } ∷ later)) some) ∙ read in
              let p : PartRead n (pair_of (sections dash (at + length line + 2) more).before) (pairs_of end (n + 1) (next ∷ tail)) pairs = part_read n at (pair_of (sections dash (at + length line + 2) more).before) (pairs_of end (n + 1) (next ∷ tail)) pairs (sym (part_section end n (record { place = at; closing = false; content = (sections dash (at + length line + 2) more).before }) next tail refl) ∙ f) in
              let w : Spelled (n + 1) (at + length line + 2) more p.rest = ih (n + 1) p.rest (not_full n small p.other) (ap (pairs_of end (n + 1)) some ∙ p.later) in
              record {
                preamble = [];
                parts = record { line = line; content = w.preamble } ∷ w.parts;
                closing = w.closing;
                epilogue = w.epilogue;
                spells = ap (λ (ls : List (List ℕ)). line ∷ ls) (w.spells ∙ sym (append_assoc w.preamble (part_lines w.parts) (w.closing ∷ w.epilogue)));
                plain = refl;
                opened = opened_part line w.preamble w.parts k w.plain w.opened;
                closed = w.closed;
                prefix = ap (λ (s : Sections). s.before) here;
                each = each_part line w.preamble w.parts p.pair p.rest pairs (ap pair_of (sym w.prefix) ∙ p.has) w.each p.all;
                few = few_part n p.pair p.rest pairs p.all w.few;
              }

pub found : (boundary body : List ℕ) (pairs : Pairs) → multipart_of boundary body ≡ Ok pairs → HasPairs boundary body pairs
found boundary body pairs e =
    let w = spelled (dash_boundary boundary) (length body) 0 0 (lines body) pairs (omega arith) e in
    record {
      parts = w.parts;
      is = record { preamble = w.preamble; closing = w.closing; epilogue = w.epilogue; spells = w.spells; before = w.plain; opened = w.opened; closed = w.closed };
      each = w.each;
      few = let some = w.few in omega (arith, some);
    }

pub only : (boundary body : List ℕ) (pairs : Pairs) → HasPairs boundary body pairs → multipart_of boundary body ≡ Ok pairs
only boundary body pairs h =
    let m = h.is in
    let some = h.few in
    let few : 0 + length pairs ≤ 1000 = omega (arith, some) in
    ap (λ (ls : List (List ℕ)). pairs_of (length body) 0 (sections (dash_boundary boundary) 0 ls).later) m.spells
    ∙ ap (λ (s : Sections). pairs_of (length body) 0 s.later) (plain_lines (dash_boundary boundary) 0 m.preamble (part_lines h.parts ++ m.closing ∷ m.epilogue) m.before)
    ∙ read_parts (dash_boundary boundary) (length body) 0 (place_after (dash_boundary boundary) 0 m.preamble) h.parts pairs m.closing m.epilogue m.opened m.closed h.each few
