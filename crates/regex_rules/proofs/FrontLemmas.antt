-- The last place of a text up to which it is in a pattern's language.
use Rattle.std.proofs.Common.{◌≡◌, ◌≤◌, ◌<◌, ◌+◌, ◌-◌, ℕ, Bool, true, false, cond, List, [], ◌∷◌, ◌++◌, Option, Some, None, length, take, drop, get_or, refl, ap, sym, ◌∙◌, subst, arith, ⊎_elim, length-append, length-drop}
use Rattle.std.specs.Prelude.{◌&&◌, ◌||◌, ◌==◌, nat_le, encode_utf8, replicate}
use Rattle.std.specs.Str.{chars, IsUtf8}
use Rattle.std.proofs.lemmas.Bool.{cases_Bool, true≢false, and_parts, and_from, cases_lt, eqb-true, leb-true}
use Rattle.std.proofs.lemmas.Bool.Decides.{nat_tests}
use Rattle.std.proofs.lemmas.List.{append-nil, append_cancel_right, take-append-drop, drop-drop, drop_at, get_or-drop}
use Rattle.std.proofs.Math.Seq.{drop-cons, take-add, take-append-add, take-append_seam}
use Rattle.std.proofs.lemmas.Str.{inside_one, IsUtf8-take, IsUtf8-past_char, IsCharBoundary-from_drop, chars-append, chars_past_char, length-encode, len_utf8_ascii}
use Rattle.regex_rules.specs.declared.place.PatternPlace.{PatternPlace}
use Rattle.regex_rules.specs.Trees.{PatternTree, tree_of, places_of}
use Rattle.regex_rules.specs.Languages.{InLanguage}
use Rattle.regex_rules.specs.Fronts.{IsFront, IsLastFront, may_cut}
use Rattle.regex_rules.specs.Off.{AreOff}
use Rattle.regex_rules.specs.Walks.{walked, at, begun, walk_answer, takes_nothing}
use Rattle.regex_rules.proofs.TextLemmas.{Says}
use Rattle.regex_rules.proofs.MatchLemmas.{Matched, begin_matched, more_matched}
use Rattle.regex_rules.proofs.LostLemmas.{lost_matched}

-- the last front before a place
abbrev pub IsLastBefore : PatternTree → List ℕ → ℕ → ℕ → Option ℕ → Type 0
IsLastBefore tree text from place (Some last) = IsFront tree text from last × ((k : ℕ) → k < place → IsFront tree text from k → k ≤ last)
IsLastBefore tree text from place None = (k : ℕ) → k < place → IsFront tree text from k → ⊥

-- what is known where the rest of a text is still to be walked over, and the last front before it
pub record Walked (places : List PatternPlace) (olds : List Bool) (answer enters : Bool) (text rest : List ℕ) (from : ℕ) (last : Option ℕ) : Type 0 where
  pub matched : Matched places olds answer enters (chars text) (chars rest)
  pub within : length rest ≤ length text
  pub rest_is : rest ≡ drop (length text - length rest) text
  pub utf8 : IsUtf8 rest
  pub before : IsLastBefore (tree_of places) text from (length text - length rest) last

-- ---- a place where a text may be cut begins a character

separator_below : (b : ℕ) → (b == 46 || b == 47) ≡ true → b < 128
separator_below b cut = ⊎_elim
    (λ (dot : (b == 46) ≡ true). let is : b ≡ 46 = eqb-true b 46 dot in omega (arith, is))
    (λ (other : (b == 46) ≡ false). let is : b ≡ 47 = eqb-true b 47 (sym (ap (λ x. x || b == 47) other) ∙ cut) in omega (arith, is))
    (cases_Bool (b == 46))

cut_below : (text : List ℕ) (k : ℕ) → k < length text → may_cut (drop k text) ≡ true → get_or text k 0 < 128
cut_below text k lt cut = separator_below (get_or text k 0) (sym (ap may_cut (drop-cons text k 0 lt)) ∙ cut)

between_characters : (text rest left : List ℕ) (c place k : ℕ) → rest ≡ drop place text → rest ≡ encode_utf8 c ++ left → place ≤ length text → place < k → k < place + length (encode_utf8 c) → may_cut (drop k text) ≡ true → ⊥
between_characters text rest left c place k is parts within low high cut =
    let size : length rest ≡ length (encode_utf8 c) + length left = ap length parts ∙ length-append (encode_utf8 c) left in
    let whole : length rest ≡ length text - place = ap length is ∙ length-drop place text in
    let inside : k < length text = omega (arith, size, whole, within, high) in
    let small : get_or text k 0 < 128 = cut_below text k inside cut in
    let there : place + (k - place) ≡ k = omega (arith, low) in
    let byte : get_or rest (k - place) 0 ≡ get_or text k 0 = ap (λ l. get_or l (k - place) 0) is ∙ get_or-drop place text (k - place) 0 ∙ ap (λ n. get_or text n 0) there in
    let below : get_or rest (k - place) 0 < 128 = omega (arith, byte, small) in
    let same : c ≡ get_or rest (k - place) 0 = inside_one c left rest (k - place) parts (omega (arith, low, high)) below in
    let one : length (encode_utf8 c) ≡ 1 = length-encode c ∙ len_utf8_ascii c (omega (arith, same, below)) in
    omega (arith, one, low, high)

-- ---- one place, and past one character

module _ (tree : PatternTree) (text : List ℕ) (from : ℕ) where
  upto : (place : ℕ) (last : Option ℕ) → (IsFront tree text from place → ⊥) → IsLastBefore tree text from place last → IsLastBefore tree text from (place + 1) last
  upto place None none before = λ k lt front. ⊎_elim
      (λ (less : k < place). before k less front)
      (λ (more : place ≤ k). let same : k ≡ place = omega (arith, lt, more) in none (subst (λ n. IsFront tree text from n) same front))
      (cases_lt k place)
  upto place (Some last) none before = (
    before.0,
    λ k lt front. ⊎_elim
        (λ (less : k < place). before.1 k less front)
        (λ (more : place ≤ k). let same : k ≡ place = omega (arith, lt, more) in absurd (none (subst (λ n. IsFront tree text from n) same front)))
        (cases_lt k place),
  )

  pub here : (answer : Bool) (place : ℕ) (rest : List ℕ) (last : Option ℕ) → place ≤ length text → rest ≡ drop place text → Says answer (InLanguage tree (chars (take place text))) → IsLastBefore tree text from place last
      → IsLastBefore tree text from (place + 1) (cond ((answer && nat_le from place) && may_cut rest) (Some place) last)
  here answer place rest last within is says before = ⊎_elim
      (λ (yes : ((answer && nat_le from place) && may_cut rest) ≡ true).
      let outer = and_parts (answer && nat_le from place) (may_cut rest) yes in
      let inner = and_parts answer (nat_le from place) outer.0 in
      let front : IsFront tree text from place = record { after = leb-true from place inner.1; within = within; cut = ap may_cut (sym is) ∙ outer.1; matches = says.0 inner.0 } in
      subst (λ b. IsLastBefore tree text from (place + 1) (cond b (Some place) last)) (sym yes) (front, λ k lt other. omega (arith, lt)))
      (λ (no : ((answer && nat_le from place) && may_cut rest) ≡ false).
      subst (λ b. IsLastBefore tree text from (place + 1) (cond b (Some place) last)) (sym no)
      (upto place last
      (λ front. true≢false (sym (and_from (answer && nat_le from place) (may_cut rest) (and_from answer (nat_le from place) (says.1 front.matches) (let le = front.after in grind (arith, nat_tests))) (ap may_cut is ∙ front.cut)) ∙ no))
      before))
      (cases_Bool ((answer && nat_le from place) && may_cut rest))

  pub past : (place c : ℕ) (rest left : List ℕ) (last : Option ℕ) → rest ≡ drop place text → rest ≡ encode_utf8 c ++ left → place ≤ length text → IsLastBefore tree text from (place + 1) last
      → IsLastBefore tree text from (place + length (encode_utf8 c)) last
  past place c rest left None is parts within before = λ k lt front. ⊎_elim
      (λ (less : k < place + 1). before k less front)
      (λ (more : place + 1 ≤ k). between_characters text rest left c place k is parts within (omega (arith, more)) lt front.cut)
      (cases_lt k (place + 1))
  past place c rest left (Some last) is parts within before = (
    before.0,
    λ k lt front. ⊎_elim
        (λ (less : k < place + 1). before.1 k less front)
        (λ (more : place + 1 ≤ k). absurd (between_characters text rest left c place k is parts within (omega (arith, more)) lt front.cut))
        (cases_lt k (place + 1)),
  )

  pub over : (last : Option ℕ) → IsLastBefore tree text from (length text + 1) last → IsLastFront tree text from last
  over None before = λ k front. before k (let le = front.within in omega (arith, le)) front
  over (Some last) before = (before.0, λ k front. before.1 k (let le = front.within in omega (arith, le)) front)

-- ---- the walk

-- the text before the rest is what was matched
matched_is : (text rest w : List ℕ) (place : ℕ) → IsUtf8 text → IsUtf8 rest → place ≤ length text → rest ≡ drop place text → chars text ≡ w ++ chars rest → w ≡ chars (take place text)
matched_is text rest w place whole utf8 within is parts =
    let front = IsUtf8-take text place whole (IsCharBoundary-from_drop text place within (subst IsUtf8 is utf8)) in
    append_cancel_right w (chars (take place text)) (chars rest)
    (sym parts ∙ ap chars (sym (take-append-drop place text)) ∙ chars-append (take place text) (drop place text) front ∙ ap (λ l. chars (take place text) ++ chars l) (sym is))

begins_none : (tree : PatternTree) (text : List ℕ) (from : ℕ) → IsLastBefore tree text from 0 None
begins_none tree text from = λ k lt front. omega (arith, lt)

pub begin_walked : (places : List PatternPlace) (olds : List Bool) (answer : Bool) (text : List ℕ) (from : ℕ) → IsUtf8 text → Matched places olds answer true (chars text) (chars text) → Walked places olds answer true text text from None
begin_walked places olds answer text from utf8 matched =
    let none : length text - length text ≡ 0 = omega arith in
    record {
      matched = matched;
      within = omega arith;
      rest_is = ap (λ n. drop n text) (sym none);
      utf8 = utf8;
      before = subst (λ n. IsLastBefore (tree_of places) text from n None) (sym none) (begins_none (tree_of places) text from);
    }

pub start_walked : (places : List PatternPlace) (first olds : List Bool) (answer : Bool) (text : List ℕ) (from : ℕ) → IsUtf8 text → places_of (tree_of places) ≡ places → first ≡ replicate (length places) false → olds ≡ first
    → answer ≡ takes_nothing (walked 0 places first (at (begun true) [] [])) → Walked places olds answer true text text from None
start_walked places first olds answer text from utf8 held off same is =
    begin_walked places olds answer text from utf8
    (subst (λ (o : List Bool). Matched places o answer true (chars text) (chars text)) (sym (same ∙ off))
    (subst (λ (b : Bool). Matched places (replicate (length places) false) b true (chars text) (chars text)) (sym (is ∙ ap (λ (o : List Bool). takes_nothing (walked 0 places o (at (begun true) [] []))) off))
    (begin_matched places (chars text) held)))

module _ (places : List PatternPlace) (olds : List Bool) (answer enters : Bool) (text rest : List ℕ) (from : ℕ) (last : Option ℕ) (utf8 : IsUtf8 text) (w : Walked places olds answer enters text rest from last) where
  -- the place that the rest begins at is looked at
  looked : IsLastBefore (tree_of places) text from (length text - length rest + 1) (cond ((answer && nat_le from (length text - length rest)) && may_cut rest) (Some (length text - length rest)) last)
  looked =
      let place = length text - length rest in
      let says : Says answer (InLanguage (tree_of places) (chars (take place text))) =
      subst (λ cs. Says answer (InLanguage (tree_of places) cs)) (matched_is text rest w.matched.w place utf8 w.utf8 (omega arith) w.rest_is w.matched.parts) w.matched.answers in
      here (tree_of places) text from answer place rest last (omega arith) w.rest_is says w.before

  pub end_walked : (found : Option ℕ) → rest ≡ [] → found ≡ cond ((answer && nat_le from (length text - length rest)) && may_cut rest) (Some (length text - length rest)) last → IsLastFront (tree_of places) text from found
  end_walked found none is =
      let place : length text - length rest ≡ length text = omega (arith, ap length none) in
      over (tree_of places) text from found (subst (λ n. IsLastBefore (tree_of places) text from (n + 1) found) place (subst (λ f. IsLastBefore (tree_of places) text from (length text - length rest + 1) f) (sym is) looked))

  pub more_walked : (c : ℕ) (left : List ℕ) (found : Option ℕ) → places_of (tree_of places) ≡ places → rest ≡ encode_utf8 c ++ left → chars rest ≡ c ∷ chars left
      → found ≡ cond ((answer && nat_le from (length text - length rest)) && may_cut rest) (Some (length text - length rest)) last
      → (next_olds : List Bool) (next_answer : Bool) → next_olds ≡ (walked c places olds (at (begun enters) [] [])).marks → next_answer ≡ walk_answer (walked c places olds (at (begun enters) [] []))
      → Walked places next_olds next_answer false text left from found
  more_walked c left found held parts more is next_olds next_answer olds_are answer_is =
      let place = length text - length rest in
      let size : length rest ≡ length (encode_utf8 c) + length left = ap length parts ∙ length-append (encode_utf8 c) left in
      let within = w.within in
      let next : place + length (encode_utf8 c) ≡ length text - length left = omega (arith, size, within) in
      let seen = past (tree_of places) text from place c rest left found w.rest_is parts (omega arith) (subst (λ f. IsLastBefore (tree_of places) text from (place + 1) f) (sym is) looked) in
      record {
        matched = subst (λ (o : List Bool). Matched places o next_answer false (chars text) (chars left)) (sym olds_are)
            (subst (λ (b : Bool). Matched places (walked c places olds (at (begun enters) [] [])).marks b false (chars text) (chars left)) (sym answer_is)
            (more_matched places olds answer enters (chars text) (chars left) c held (subst (λ cs. Matched places olds answer enters (chars text) cs) more w.matched)));
        within = omega (arith, size, within);
        rest_is = sym (drop_at (encode_utf8 c) left (length (encode_utf8 c)) refl) ∙ ap (drop (length (encode_utf8 c))) (sym parts ∙ w.rest_is) ∙ drop-drop (length (encode_utf8 c)) place text ∙ ap (λ n. drop n text) next;
        utf8 = IsUtf8-past_char rest left c w.utf8 parts;
        before = subst (λ n. IsLastBefore (tree_of places) text from n found) next seen;
      }

-- ---- where the text so far reaches no place

-- what a character and more begins with
one_and_more : (rest left : List ℕ) (c n : ℕ) → IsUtf8 rest → rest ≡ encode_utf8 c ++ left → length (encode_utf8 c) ≤ n → (more : List ℕ) × (chars (take n rest) ≡ c ∷ more)
one_and_more rest left c n utf8 parts le =
    let one = encode_utf8 c in
    let size : length rest ≡ length one + length left = ap length parts ∙ length-append one left in
    let after : left ≡ drop (length one) rest = sym (ap (drop (length one)) parts ∙ drop_at one left (length one) refl) in
    let place = IsCharBoundary-from_drop rest (length one) (omega (arith, size)) (subst IsUtf8 after (IsUtf8-past_char rest left c utf8 parts)) in
    let alone : IsUtf8 one = subst IsUtf8 (ap (take (length one)) parts ∙ take-append_seam one left) (IsUtf8-take rest (length one) utf8 place) in
    let beyond = take (n - length one) left in
    let number : n ≡ length one + (n - length one) = omega (arith, le) in
    let cut : take n rest ≡ one ++ beyond = ap (take n) parts ∙ ap (λ m. take m (one ++ left)) number ∙ take-append-add one left (n - length one) in
    (chars [] ++ chars beyond, ap chars cut ∙ chars-append one beyond alone ∙ ap (λ l. l ++ chars beyond) (chars_past_char one [] c alone (sym (append-nil one))))

none_beyond : (tree : PatternTree) (text : List ℕ) (from place : ℕ) (last : Option ℕ) → IsLastBefore tree text from place last → ((k : ℕ) → place ≤ k → IsFront tree text from k → ⊥) → IsLastFront tree text from last
none_beyond tree text from place None before none = λ k front. ⊎_elim (λ (less : k < place). before k less front) (λ (more : place ≤ k). none k more front) (cases_lt k place)
none_beyond tree text from place (Some last) before none = (
  before.0,
  λ k front. ⊎_elim (λ (less : k < place). before.1 k less front) (λ (more : place ≤ k). absurd (none k more front)) (cases_lt k place),
)

-- no later beginning is in the language
pub lost_walked : (places : List PatternPlace) (olds : List Bool) (answer : Bool) (text rest left : List ℕ) (from c : ℕ) (last found : Option ℕ) → IsUtf8 text → places_of (tree_of places) ≡ places → AreOff olds
    → Walked places olds answer false text rest from last → rest ≡ encode_utf8 c ++ left
    → found ≡ cond ((answer && nat_le from (length text - length rest)) && may_cut rest) (Some (length text - length rest)) last → IsLastFront (tree_of places) text from found
lost_walked places olds answer text rest left from c last found utf8 held off w parts is =
    let tree = tree_of places in
    let place = length text - length rest in
    let one = encode_utf8 c in
    let within : place ≤ length text = omega arith in
    let seen = past tree text from place c rest left found w.rest_is parts within
    (subst (λ f. IsLastBefore tree text from (place + 1) f) (sym is) (looked places olds answer false text rest from last utf8 w)) in
    none_beyond tree text from (place + length one) found seen
    (λ k more front.
    let n = k - place in
    let on = one_and_more rest left c n w.utf8 parts (omega (arith, more)) in
    let number : k ≡ place + n = omega (arith, more) in
    let two : take k text ≡ take place text ++ take n rest = ap (λ m. take m text) number ∙ take-add place n text ∙ ap (λ l. take place text ++ take n l) (sym w.rest_is) in
    let before = IsUtf8-take text place utf8 (IsCharBoundary-from_drop text place within (subst IsUtf8 w.rest_is w.utf8)) in
    let read : w.matched.w ≡ chars (take place text) = matched_is text rest w.matched.w place utf8 w.utf8 within w.rest_is w.matched.parts in
    let whole : chars (take k text) ≡ w.matched.w ++ (c ∷ on.0) =
    ap chars two ∙ chars-append (take place text) (take n rest) before ∙ ap (λ l. chars (take place text) ++ l) on.1 ∙ ap (λ l. l ++ (c ∷ on.0)) (sym read) in
    let matched : Matched places olds answer false (chars (take k text)) (c ∷ on.0) = record { w = w.matched.w; parts = whole; right = w.matched.right; answers = w.matched.answers; begins = w.matched.begins } in
    lost_matched places olds answer (chars (take k text)) on.0 c held off matched front.matches)
