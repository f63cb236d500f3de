-- Lines are those of a body with pairs, or of one with a fault; so a refused body has its fault.
use Rattle.std.proofs.Common.{◌≡◌, ◌≤◌, ◌+◌, ◌⊎◌, inl, inr, ℕ, Bool, true, false, ◌&&◌, eqb, List, [], ◌∷◌, ◌++◌, Option, Some, None, Result, Ok, Err, map, length, refl, ap, sym, ◌∙◌, subst, arith, append_assoc}
use Rattle.std.specs.List.{list_all}
use Rattle.std.proofs.lemmas.Bool.Decides.{nat_tests}
use Rattle.form_input.specs.declared.fault.FormFault.{FormFault}
use Rattle.form_input.specs.declared.fault.FormFault.TheVariants.{BadPart, TooMany}
use Rattle.form_input.specs.declared.boundary.LineForm.{LineForm}
use Rattle.form_input.specs.declared.boundary.LineForm.TheVariants.{Opening, Closing, Plain}
use Rattle.form_input.specs.Multipart.{line_form, is_closing_line, pair_of, dash_boundary, multipart_of}
use Rattle.form_input.specs.Lines.{lines}
use Rattle.form_input.specs.Bodies.{BodyPart, part_lines, are_plain, is_body_part}
use Rattle.form_input.specs.BodyFaults.{bytes_of_lines, is_boundary_line, BeginsWithPairs, IsBodyFault}
use Rattle.form_input.proofs.FormLemmas.{Pairs}
use Rattle.form_input.proofs.BodyLemmas.{only}
use Rattle.form_input.proofs.FaultLemmas.{refused}

module _ (dash : List ℕ) where
  -- lines are parts with pairs, and others
  record Parted (ls : List (List ℕ)) (pairs : Pairs) (left : List (List ℕ)) : Type 0 where
    parts : List BodyPart
    spells : ls ≡ part_lines parts ++ left
    opened : list_all (is_body_part dash) parts ≡ true
    each : map (λ (p : BodyPart). pair_of p.content) parts ≡ map Some pairs

  -- the end of a body after n pairs
  record Ends (n : ℕ) (ls : List (List ℕ)) : Type 0 where
    pairs : Pairs
    closing : List ℕ
    epilogue : List (List ℕ)
    parted : Parted ls pairs (closing ∷ epilogue)
    closed : is_closing_line (line_form dash closing) ≡ true
    few : n + length pairs ≤ 1000

  record Lacks (n : ℕ) (ls : List (List ℕ)) : Type 0 where
    pairs : Pairs
    last : BodyPart
    parted : Parted ls pairs (last.line ∷ last.content)
    opened : is_body_part dash last ≡ true
    few : n + length pairs ≤ 1000

  record Fails (n : ℕ) (ls : List (List ℕ)) : Type 0 where
    pairs : Pairs
    bad : BodyPart
    next : List ℕ
    more : List (List ℕ)
    parted : Parted ls pairs (bad.line ∷ (bad.content ++ next ∷ more))
    opened : is_body_part dash bad ≡ true
    ended : is_boundary_line dash next ≡ true
    nameless : pair_of bad.content ≡ None
    few : n + length pairs ≤ 1000

  record Exceeds (n : ℕ) (ls : List (List ℕ)) : Type 0 where
    pairs : Pairs
    next : List ℕ
    more : List (List ℕ)
    parted : Parted ls pairs (next ∷ more)
    ended : is_boundary_line dash next ≡ true
    many : n + length pairs ≡ 1001

  abbrev Tail : ℕ → List (List ℕ) → Type 0
  Tail n ls = Ends n ls ⊎ (Lacks n ls ⊎ (Fails n ls ⊎ Exceeds n ls))

  no_parts : (ls : List (List ℕ)) → Parted ls [] ls
  no_parts ls = record { parts = []; spells = refl; opened = refl; each = refl }

  and_true : (a b : Bool) → a ≡ true → b ≡ true → (a && b) ≡ true
  and_true a b e f = rw (e, f) refl

  part_more : (p : BodyPart) (q : List ℕ × List ℕ) (ls : List (List ℕ)) (pairs : Pairs) (left : List (List ℕ)) → is_body_part dash p ≡ true → pair_of p.content ≡ Some q → Parted ls pairs left → Parted (p.line ∷ (p.content ++ ls)) (q ∷ pairs) left
  part_more p q ls pairs left here has w = record {
    parts = p ∷ w.parts;
    spells = ap (λ (l : List (List ℕ)). p.line ∷ l) (ap (λ (l : List (List ℕ)). p.content ++ l) w.spells ∙ sym (append_assoc p.content (part_lines w.parts) left));
    opened = and_true (is_body_part dash p) (list_all (is_body_part dash) w.parts) here w.opened;
    each = ap (λ (o : Option (List ℕ × List ℕ)). o ∷ map (λ (p : BodyPart). pair_of p.content) w.parts) has ∙ ap (λ (os : List (Option (List ℕ × List ℕ))). Some q ∷ os) w.each;
  }

  tail_more : (n : ℕ) (p : BodyPart) (q : List ℕ × List ℕ) (ls : List (List ℕ)) → is_body_part dash p ≡ true → pair_of p.content ≡ Some q → Tail (n + 1) ls → Tail n (p.line ∷ (p.content ++ ls))
  tail_more n p q ls here has (inl w) = let few = w.few in inl (record { pairs = q ∷ w.pairs; closing = w.closing; epilogue = w.epilogue; parted = part_more p q ls w.pairs _ here has w.parted; closed = w.closed; few = omega (arith, few) })
  tail_more n p q ls here has (inr (inl w)) = let few = w.few in inr (inl (record { pairs = q ∷ w.pairs; last = w.last; parted = part_more p q ls w.pairs _ here has w.parted; opened = w.opened; few = omega (arith, few) }))
  tail_more n p q ls here has (inr (inr (inl w))) =
      let few = w.few in
      inr (inr (inl (record { pairs = q ∷ w.pairs; bad = w.bad; next = w.next; more = w.more; parted = part_more p q ls w.pairs _ here has w.parted; opened = w.opened; ended = w.ended; nameless = w.nameless; few = omega (arith, few) })))
  tail_more n p q ls here has (inr (inr (inr w))) =
      let many = w.many in
      inr (inr (inr (record { pairs = q ∷ w.pairs; next = w.next; more = w.more; parted = part_more p q ls w.pairs _ here has w.parted; ended = w.ended; many = omega (arith, many) })))

  -- lines that are no boundary lines, and then a boundary line
  record Bounded (n : ℕ) (ls : List (List ℕ)) : Type 0 where
    preamble : List (List ℕ)
    next : List ℕ
    more : List (List ℕ)
    spells : ls ≡ preamble ++ next ∷ more
    plain : are_plain dash preamble ≡ true
    ended : is_boundary_line dash next ≡ true
    tail : Tail n (next ∷ more)

  abbrev Reading : ℕ → List (List ℕ) → Type 0
  Reading n ls = (are_plain dash ls ≡ true) ⊎ Bounded n ls

  opening : (line : List ℕ) (content : List (List ℕ)) → line_form dash line ≡ Opening → are_plain dash content ≡ true → is_body_part dash (record { line = line; content = content }) ≡ true
  opening line content k plain = rw (k, plain) refl

  -- an opening line, and lines that are read after it
  opened_by : (n : ℕ) (line : List ℕ) (more : List (List ℕ)) → n ≤ 1000 → line_form dash line ≡ Opening → ((m : ℕ) → m ≤ 1000 → Reading m more) → Bounded n (line ∷ more)
  opened_by n line more small k readings = record { preamble = []; next = line; more = more; spells = refl; plain = refl; ended = rw k refl; tail = by_count (eqb n 1000) refl }
    where
      lacks : are_plain dash more ≡ true → Tail n (line ∷ more)
      lacks plain = inr (inl (record { pairs = []; last = record { line = line; content = more }; parted = no_parts (line ∷ more); opened = opening line more k plain; few = omega (arith, small) }))

      fails : (m : ℕ) (b : Bounded m more) → pair_of b.preamble ≡ None → Tail n (line ∷ more)
      fails m b none = inr (inr (inl (record {
        pairs = [];
        bad = record { line = line; content = b.preamble };
        next = b.next;
        more = b.more;
        parted = record { parts = []; spells = ap (λ (l : List (List ℕ)). line ∷ l) b.spells; opened = refl; each = refl };
        opened = opening line b.preamble k b.plain;
        ended = b.ended;
        nameless = none;
        few = omega (arith, small);
      })))

      exceeds : (m : ℕ) (b : Bounded m more) (q : List ℕ × List ℕ) → n ≡ 1000 → pair_of b.preamble ≡ Some q → Tail n (line ∷ more)
      exceeds m b q full has =
          let p : BodyPart = record { line = line; content = b.preamble } in
          inr (inr (inr (record {
            pairs = q ∷ [];
            next = b.next;
            more = b.more;
            parted = subst (λ (l : List (List ℕ)). Parted (line ∷ l) (q ∷ []) (b.next ∷ b.more)) (sym b.spells) (part_more p q (b.next ∷ b.more) [] (b.next ∷ b.more) (opening line b.preamble k b.plain) has (no_parts (b.next ∷ b.more)));
            ended = b.ended;
            many = omega (arith, full);
          })))

      full : n ≡ 1000 → Reading 0 more → Tail n (line ∷ more)
      full e (inl plain) = lacks plain
      full e (inr b) = go (pair_of b.preamble) refl
        where
          go : (o : Option (List ℕ × List ℕ)) → pair_of b.preamble ≡ o → Tail n (line ∷ more)
          go None none = fails 0 b none
          go (Some q) has = exceeds 0 b q e has

      others : Reading (n + 1) more → Tail n (line ∷ more)
      others (inl plain) = lacks plain
      others (inr b) = go (pair_of b.preamble) refl
        where
          go : (o : Option (List ℕ × List ℕ)) → pair_of b.preamble ≡ o → Tail n (line ∷ more)
          go None none = fails (n + 1) b none
          go (Some q) has = subst (λ (l : List (List ℕ)). Tail n (line ∷ l)) (sym b.spells) (tail_more n (record { line = line; content = b.preamble }) q (b.next ∷ b.more) (opening line b.preamble k b.plain) has b.tail)

      by_count : (b : Bool) → eqb n 1000 ≡ b → Tail n (line ∷ more)
      by_count true e = full (grind (arith, nat_tests)) (readings 0 (omega arith))
      by_count false e = others (readings (n + 1) (grind (arith, nat_tests)))

  plain_before : (n : ℕ) (line : List ℕ) (more : List (List ℕ)) → line_form dash line ≡ Plain → Reading n more → Reading n (line ∷ more)
  plain_before n line more k (inl plain) = inl (rw k plain)
  plain_before n line more k (inr b) = inr (record { preamble = line ∷ b.preamble; next = b.next; more = b.more; spells = ap (λ (l : List (List ℕ)). line ∷ l) b.spells; plain = rw k b.plain; ended = b.ended; tail = b.tail })

  reading : (n : ℕ) (ls : List (List ℕ)) → n ≤ 1000 → Reading n ls
  reading n [] small = inl refl
  reading n (line ∷ more) small = go (line_form dash line) refl (λ m low. reading m more low)
    where
      go : (k : LineForm) → line_form dash line ≡ k → ((m : ℕ) → m ≤ 1000 → Reading m more) → Reading n (line ∷ more)
      go Plain k ih = plain_before n line more k (ih n small)
      go Closing k ih = inr (record {
        preamble = [];
        next = line;
        more = more;
        spells = refl;
        plain = refl;
        ended = rw k refl;
        tail = inl (record { pairs = []; closing = line; epilogue = more; parted = no_parts (line ∷ more); closed = rw k refl; few = omega (arith, small) });
      })
      go Opening k ih = inr (opened_by n line more small k ih)

module _ (boundary body : List ℕ) where
  abbrev dash : List ℕ
  dash = dash_boundary boundary

  same_fault : (f g : FormFault) → multipart_of boundary body ≡ Err f → IsBodyFault boundary body g → IsBodyFault boundary body f
  same_fault f g e h =
      let both : ◌≡◌ {A = Result Pairs FormFault} (Err g) (Err f) = sym (refused boundary body g h) ∙ e in
      let same : g ≡ f = cc in
      subst (λ (x : FormFault). IsBodyFault boundary body x) same h

  whole : (preamble : List (List ℕ)) (next : List ℕ) (more : List (List ℕ)) (pairs : Pairs) (left : List (List ℕ)) → lines body ≡ preamble ++ next ∷ more → are_plain dash preamble ≡ true → Parted dash (next ∷ more) pairs left → BeginsWithPairs boundary (lines body) pairs left
  whole preamble next more pairs left spells plain w = record { preamble = preamble; parts = w.parts; spells = spells ∙ ap (λ (l : List (List ℕ)). preamble ++ l) w.spells; before = plain; opened = w.opened; each = w.each }

  pub cause : (f : FormFault) → multipart_of boundary body ≡ Err f → IsBodyFault boundary body f
  unfolding whole
  cause f e = go (reading dash 0 (lines body) (omega arith))
    where
      go : Reading dash 0 (lines body) → IsBodyFault boundary body f
      go (inl plain) = same_fault f (BadPart (length body)) e (inl (refl, inl plain))
      go (inr b) = by_tail b.tail
        where
          by_tail : Tail dash 0 (b.next ∷ b.more) → IsBodyFault boundary body f
          by_tail (inl w) =
              let whole_is = whole b.preamble b.next b.more w.pairs (w.closing ∷ w.epilogue) b.spells b.plain w.parted in
              let few = w.few in
              let read : multipart_of boundary body ≡ Ok w.pairs = only boundary body w.pairs (record {
                parts = w.parted.parts;
                is = record { preamble = b.preamble; closing = w.closing; epilogue = w.epilogue; spells = whole_is.spells; before = b.plain; opened = w.parted.opened; closed = w.closed };
                each = w.parted.each;
                few = omega (arith, few);
              }) in
              let both : ◌≡◌ {A = Result Pairs FormFault} (Ok w.pairs) (Err f) = sym read ∙ e in
              absurd cc
          by_tail (inr (inl w)) = let few = w.few in
              same_fault f (BadPart (length body)) e (inl (refl, inr (record { pairs = w.pairs; last = w.last; begins = whole b.preamble b.next b.more w.pairs (w.last.line ∷ w.last.content) b.spells b.plain w.parted; few = omega (arith, few); opened = w.opened })))
          by_tail (inr (inr (inl w))) = let few = w.few in
              same_fault f (BadPart (bytes_of_lines (b.preamble ++ part_lines w.parted.parts))) e (inr (record {
                pairs = w.pairs;
                bad = w.bad;
                next = w.next;
                more = w.more;
                begins = whole b.preamble b.next b.more w.pairs (w.bad.line ∷ (w.bad.content ++ w.next ∷ w.more)) b.spells b.plain w.parted;
                few = omega (arith, few);
                opened = w.opened;
                ended = w.ended;
                nameless = w.nameless;
                at = refl;
              }))
          by_tail (inr (inr (inr w))) = let many = w.many in
              same_fault f TooMany e (record { pairs = w.pairs; next = w.next; more = w.more; begins = whole b.preamble b.next b.more w.pairs (w.next ∷ w.more) b.spells b.plain w.parted; ended = w.ended; many = omega (arith, many) })
