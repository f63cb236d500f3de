-- A text split at its first block tag, and the element that begins there.
use Rattle.std.proofs.Common.{◌⊎◌, ◌≡◌, ◌<◌, ◌≤◌, ◌+◌, ◌-◌, ℕ, zero, suc, Bool, true, false, cond, eqb, nat_eq, List, [], ◌∷◌, ◌++◌, take, drop, length, Option, Some, None, Result, Ok, Err, refl, ap, sym, subst, ◌∙◌, arith, append_assoc, length-append, inl, inr}
use Rattle.std.specs.List.{starts_with}
use Rattle.std.proofs.lemmas.Bool.{eqb-true}
use Rattle.sp_base.specs.Bytes.{begins_with_byte}
use Rattle.sp_base.proofs.BoolLemmas.{and_first, and_second}
use Rattle.htl_syntax.specs.Tokens.{begins}
use Rattle.htl_blocks.specs.declared.quoting.Quoting.{Quoting}
use Rattle.htl_blocks.specs.declared.quoting.Quoting.TheVariants.{Outside}
use Rattle.htl_blocks.specs.declared.fault.BlockFault.{BlockFault}
use Rattle.htl_blocks.specs.declared.fault.BlockFault.TheVariants as fault
use Rattle.htl_blocks.specs.ElementText.{ElementText}
use Rattle.htl_blocks.specs.Markup.{markup_quoting_step, ends_tag, tag_end, ended_len, tag_len, is_ended, begins_tag, part_len, parts, parts_after, tag_name, has_no_content, inside_len}
use Rattle.htl_blocks.specs.Attributes.{is_block_tag}
use Rattle.htl_blocks.specs.Reading.{text_run_len, run_of, after_text_run, cut_at, cut_after, element_cut}
use Rattle.htl_blocks.specs.Laws.{HasNoBlock, bytes_of}
use Rattle.htl_blocks.specs.Laws as laws
use Rattle.htl_blocks.specs.Spelling.{whole_text, FirstTag, Closed, Element}
use Rattle.htl_blocks.specs.Spelling as spelling
use Rattle.htl_blocks.proofs.Tags.{tag_end_at}
use Rattle.htl_blocks.proofs.Parts.{parts_step}
use Rattle.htl_blocks.proofs.Plain.{parts_whole}
use Rattle.htl_blocks.proofs.Balance.{found_is_balanced, balanced_is_found}

-- ---- texts and their parts

-- a text that begins with another goes on after it
pub begins_with : (a b : List ℕ) → starts_with nat_eq a b ≡ true → (rest : List ℕ) × (a ≡ b ++ rest)
begins_with a [] e = (a, refl)
begins_with [] (d ∷ b) e = absurd cc
begins_with (c ∷ a) (d ∷ b) e =
    let more = begins_with a b (and_second (eqb d c) (starts_with nat_eq a b) e) in
    (more.0, ap (λ (t : List ℕ). c ∷ t) more.1 ∙ ap (λ (n : ℕ). n ∷ (b ++ more.0)) (sym (eqb-true d c (and_first (eqb d c) (starts_with nat_eq a b) e))))

pub take_front : (a b : List ℕ) → take (length a) (a ++ b) ≡ a
take_front [] b = refl
take_front (c ∷ a) b = ap (λ (t : List ℕ). c ∷ t) (take_front a b)

pub drop_front : (a b : List ℕ) → drop (length a) (a ++ b) ≡ b
drop_front [] b = refl
drop_front (c ∷ a) b = drop_front a b

pub text_of_both : (a b : List (List ℕ)) → whole_text (a ++ b) ≡ whole_text a ++ whole_text b
text_of_both [] b = refl
text_of_both (p ∷ a) b = ap (λ (t : List ℕ). p ++ t) (text_of_both a b) ∙ sym (append_assoc p (whole_text a) (whole_text b))

pub length_text : (ps : List (List ℕ)) → length (whole_text ps) ≡ bytes_of ps
length_text [] = refl
length_text (p ∷ ps) = length-append p (whole_text ps) ∙ ap (λ (n : ℕ). length p + n) (length_text ps)

pub parts_none : parts [] ≡ []
unfolding parts_after
parts_none = refl

-- the first part is there
pub head_part : (u p : List ℕ) (qs : List (List ℕ)) → parts u ≡ p ∷ qs → (0 < length u) × (p ≡ take (part_len u) u) × (parts (drop (part_len u) u) ≡ qs)
head_part [] p qs e = absurd (let none = parts_none in cc)
head_part (c ∷ t) p qs e = let first = parts_step (c ∷ t) (omega arith) in (omega arith, cc, cc)

-- the parts from a place on are those of the text from there on
pub parts_suffix : (ps qs : List (List ℕ)) (t : List ℕ) → parts t ≡ ps ++ qs → parts (whole_text qs) ≡ qs
parts_suffix [] qs t e = ap parts (ap whole_text (sym e) ∙ parts_whole t) ∙ e
parts_suffix (p ∷ ps) qs t e = parts_suffix ps qs (drop (part_len t) t) (head_part t p (ps ++ qs) e).2

pub text_split : (ps qs : List (List ℕ)) (t : List ℕ) → parts t ≡ ps ++ qs → t ≡ whole_text ps ++ whole_text qs
text_split ps qs t e = sym (parts_whole t) ∙ ap whole_text e ∙ text_of_both ps qs

pub take_parts : (ps qs : List (List ℕ)) (t : List ℕ) → parts t ≡ ps ++ qs → take (bytes_of ps) t ≡ whole_text ps
take_parts ps qs t e = ap (take (bytes_of ps)) (text_split ps qs t e) ∙ ap (λ (n : ℕ). take n (whole_text ps ++ whole_text qs)) (sym (length_text ps)) ∙ take_front (whole_text ps) (whole_text qs)

pub drop_parts : (ps qs : List (List ℕ)) (t : List ℕ) → parts t ≡ ps ++ qs → drop (bytes_of ps) t ≡ whole_text qs
drop_parts ps qs t e = ap (drop (bytes_of ps)) (text_split ps qs t e) ∙ ap (λ (n : ℕ). drop n (whole_text ps ++ whole_text qs)) (sym (length_text ps)) ∙ drop_front (whole_text ps) (whole_text qs)

pub length_parts : (ps qs : List (List ℕ)) (t : List ℕ) → parts t ≡ ps ++ qs → length t ≡ bytes_of ps + bytes_of qs
length_parts ps qs t e = ap length (text_split ps qs t e) ∙ length-append (whole_text ps) (whole_text qs) ∙ ap (λ (n : ℕ). n + length (whole_text qs)) (length_text ps) ∙ ap (λ (n : ℕ). bytes_of ps + n) (length_text qs)

-- ---- the first block tag

run_all : (ps : List (List ℕ)) → HasNoBlock ps → text_run_len ps ≡ bytes_of ps
unfolding text_run_len
run_all _ laws.none = refl
run_all _ (laws.part {p = p} {more = ps} e x) = rw e (ap (λ (n : ℕ). length p + n) (run_all ps x))

run_to : (ps : List (List ℕ)) (tag : List ℕ) (rest : List (List ℕ)) → HasNoBlock ps → is_block_tag tag ≡ true → text_run_len (ps ++ tag ∷ rest) ≡ bytes_of ps
unfolding text_run_len
run_to _ tag rest laws.none b = rw b refl
run_to _ tag rest (laws.part {p = p} {more = ps} e x) b = rw e (ap (λ (n : ℕ). length p + n) (run_to ps tag rest x b))

pub run_plain : (t : List ℕ) → HasNoBlock (parts t) → (run_of t ≡ t) × (after_text_run t ≡ [])
unfolding run_of after_text_run
run_plain t x =
    let all = run_all (parts t) x in
    let size : length t ≡ bytes_of (parts t) = sym (ap length (parts_whole t)) ∙ length_text (parts t) in
    let e : text_run_len (parts t) ≡ length t = all ∙ sym size in
    let whole : t ++ [] ≡ t = append_none t in
    (rw e (ap (take (length t)) (sym whole) ∙ take_front t []), rw e (ap (drop (length t)) (sym whole) ∙ drop_front t []))
  where
    append_none : (a : List ℕ) → a ++ [] ≡ a
    append_none [] = refl
    append_none (c ∷ a) = ap (λ (b : List ℕ). c ∷ b) (append_none a)

pub run_tag : (t : List ℕ) (x : FirstTag t) → (run_of t ≡ whole_text x.before) × (after_text_run t ≡ whole_text (x.tag ∷ x.rest))
unfolding run_of after_text_run
run_tag t x =
    let e : text_run_len (parts t) ≡ bytes_of x.before = ap text_run_len x.split ∙ run_to x.before x.tag x.rest x.no_block x.block in
    (rw e (take_parts x.before (x.tag ∷ x.rest) t x.split), rw e (drop_parts x.before (x.tag ∷ x.rest) t x.split))

-- parts have a block tag, or none
first_of : (ps : List (List ℕ)) → HasNoBlock ps ⊎ ((before : List (List ℕ)) × (tag : List ℕ) × (rest : List (List ℕ)) × (ps ≡ before ++ tag ∷ rest) × HasNoBlock before × (is_block_tag tag ≡ true))
first_of [] = inl laws.none
first_of (p ∷ ps) = go (is_block_tag p) refl (first_of ps)
  where
    go : (b : Bool) → is_block_tag p ≡ b → HasNoBlock ps ⊎ ((before : List (List ℕ)) × (tag : List ℕ) × (rest : List (List ℕ)) × (ps ≡ before ++ tag ∷ rest) × HasNoBlock before × (is_block_tag tag ≡ true)) → HasNoBlock (p ∷ ps) ⊎ ((before : List (List ℕ)) × (tag : List ℕ) × (rest : List (List ℕ)) × (p ∷ ps ≡ before ++ tag ∷ rest) × HasNoBlock before × (is_block_tag tag ≡ true))
    go true e later = inr ([], p, ps, refl, laws.none, e)
    go false e (inl plain) = inl (laws.part e plain)
    go false e (inr x) = inr (p ∷ x.0, x.1, x.2, ap (λ (qs : List (List ℕ)). p ∷ qs) x.3, laws.part e x.4, x.5)

pub first_tag : (t : List ℕ) → HasNoBlock (parts t) ⊎ FirstTag t
first_tag t = go (first_of (parts t))
  where
    go : HasNoBlock (parts t) ⊎ ((before : List (List ℕ)) × (tag : List ℕ) × (rest : List (List ℕ)) × (parts t ≡ before ++ tag ∷ rest) × HasNoBlock before × (is_block_tag tag ≡ true)) → HasNoBlock (parts t) ⊎ FirstTag t
    go (inl plain) = inl plain
    go (inr x) = inr (record { before = x.0; tag = x.1; rest = x.2; split = x.3; no_block = x.4; block = x.5 })

-- ---- the element at a block tag

-- a tag begins where its beginning does
prefix_begins : (n : ℕ) (u : List ℕ) → begins_tag (take n u) ≡ true → begins_tag u ≡ true
unfolding begins_tag begins_with_byte begins
prefix_begins zero u h = absurd cc
prefix_begins (suc n) [] h = absurd cc
prefix_begins (suc zero) (c ∷ u) h = absurd (let x = and_second (eqb c 60) false h in cc)
prefix_begins (suc (suc n)) (c ∷ []) h = absurd (let x = and_second (eqb c 60) false h in cc)
prefix_begins (suc (suc n)) (c ∷ d ∷ u) h = h

block_begins : (tag : List ℕ) → is_block_tag tag ≡ true → begins_tag tag ≡ true
unfolding is_block_tag
block_begins tag h = and_first _ _ h

pub part_is_tag : (u : List ℕ) → begins_tag u ≡ true → part_len u ≡ tag_len u
unfolding part_len
part_is_tag u h = rw h refl

-- the ">" of a tag is in the tag
end_within : (quoting : Quoting) (n : ℕ) (t : List ℕ) (m : ℕ) → tag_end quoting n t ≡ Some m → tag_end quoting n (take (suc (m - n)) t) ≡ Some m
unfolding tag_end
end_within quoting n [] m h = absurd cc
end_within quoting n (c ∷ t) m h = go (ends_tag quoting c) refl h (end_within (markup_quoting_step quoting c) (n + 1) t m)
  where
    later : n + 1 ≤ m → tag_end (markup_quoting_step quoting c) (n + 1) (take (suc (m - (n + 1))) t) ≡ Some m → tag_end (markup_quoting_step quoting c) (n + 1) (take (m - n) t) ≡ Some m
    later le x = let same : m - n ≡ suc (m - (n + 1)) = omega (arith, le) in rw same x

    go : (b : Bool) → ends_tag quoting c ≡ b → cond b (Some n) (tag_end (markup_quoting_step quoting c) (n + 1) t) ≡ Some m
        → (tag_end (markup_quoting_step quoting c) (n + 1) t ≡ Some m → tag_end (markup_quoting_step quoting c) (n + 1) (take (suc (m - (n + 1))) t) ≡ Some m)
        → cond (ends_tag quoting c) (Some n) (tag_end (markup_quoting_step quoting c) (n + 1) (take (m - n) t)) ≡ Some m
    go true e x ih = rw e x
    go false e x ih = rw e (later (tag_end_at (markup_quoting_step quoting c) (n + 1) t m x).0 (ih x))

pub take_all : (t : List ℕ) → take (length t) t ≡ t
take_all [] = refl
take_all (c ∷ t) = ap (λ (u : List ℕ). c ∷ u) (take_all t)

ended_some : (t : List ℕ) (n : ℕ) → tag_end Outside 0 t ≡ Some n → is_ended t ≡ true
unfolding is_ended
ended_some t n e = rw e refl

pub ended_same : (u : List ℕ) → is_ended (take (tag_len u) u) ≡ is_ended u
unfolding is_ended tag_len
ended_same u = go (tag_end Outside 0 u) refl
  where
    go : (o : Option ℕ) → tag_end Outside 0 u ≡ o → is_ended (take (ended_len u (tag_end Outside 0 u)) u) ≡ is_ended u
    go None e = ap (λ (o : Option ℕ). is_ended (take (ended_len u o) u)) e ∙ ap is_ended (take_all u)
    go (Some m) e =
        let same : m + 1 ≡ suc (m - 0) = omega arith in
        ap (λ (o : Option ℕ). is_ended (take (ended_len u o) u)) e ∙ ap (λ (n : ℕ). is_ended (take n u)) same ∙ ended_some (take (suc (m - 0)) u) m (end_within Outside 0 u m e) ∙ sym (ended_some u m e)

-- the tag that is the first part of a text
pub record IsTag (u tag : List ℕ) (rest : List (List ℕ)) : Type 0 where
  pub some : 0 < length u
  pub tag_is : take (tag_len u) u ≡ tag
  pub rest_is : drop (tag_len u) u ≡ whole_text rest
  pub rest_parts : parts (whole_text rest) ≡ rest
  pub ended : is_ended u ≡ is_ended tag

pub tag_of_parts : (u tag : List ℕ) (rest : List (List ℕ)) → parts u ≡ tag ∷ rest → is_block_tag tag ≡ true → IsTag u tag rest
tag_of_parts u tag rest e b =
    let h = head_part u tag rest e in
    let begins_here = prefix_begins (part_len u) u (ap begins_tag (sym h.1) ∙ block_begins tag b) in
    let len = part_is_tag u begins_here in
    let front : take (tag_len u) u ≡ tag = ap (λ (n : ℕ). take n u) (sym len) ∙ sym h.1 in
    record {
      some = h.0;
      tag_is = front;
      rest_is = ap (λ (n : ℕ). drop n u) (sym len) ∙ sym (parts_whole (drop (part_len u) u)) ∙ ap whole_text h.2;
      rest_parts = parts_suffix (tag ∷ []) rest u e;
      ended = sym (ended_same u) ∙ ap is_ended front;
    }

-- an element's parts as texts
abbrev pub cut_of : (tag : List ℕ) (rest : List (List ℕ)) → Element tag rest → ElementText
cut_of tag rest y = record { tag = tag; inside = whole_text y.inner; end_tag = y.end_tag; rest = whole_text y.after }

cut_open : (place : ℕ) (tag : List ℕ) (r : List ℕ) (n : ℕ) (inner more : List (List ℕ)) (end_tag : List ℕ) → parts r ≡ inner ++ end_tag ∷ more → bytes_of inner ≡ n
    → cut_at place tag r (Some n) ≡ Ok (record { tag = tag; inside = whole_text inner; end_tag = end_tag; rest = whole_text more })
cut_open place tag r n inner more end_tag e size =
    let before : take n r ≡ whole_text inner = ap (λ (k : ℕ). take k r) (sym size) ∙ take_parts inner (end_tag ∷ more) r e in
    let behind : drop n r ≡ whole_text (end_tag ∷ more) = ap (λ (k : ℕ). drop k r) (sym size) ∙ drop_parts inner (end_tag ∷ more) r e in
    let h = head_part (whole_text (end_tag ∷ more)) end_tag more (parts_suffix inner (end_tag ∷ more) r e) in
    let left : drop (part_len (whole_text (end_tag ∷ more))) (whole_text (end_tag ∷ more)) ≡ whole_text more = sym (parts_whole (drop (part_len (whole_text (end_tag ∷ more))) (whole_text (end_tag ∷ more)))) ∙ ap whole_text h.2 in
    let end_is = h.1 in
    rw (before, behind, ← end_is, left) refl

closed_cut : (place : ℕ) (tag r : List ℕ) (rest inner after : List (List ℕ)) (end_tag : List ℕ) → parts r ≡ rest → Closed tag rest inner end_tag after
    → cut_after place tag r ≡ Ok (record { tag = tag; inside = whole_text inner; end_tag = end_tag; rest = whole_text after })
closed_cut place tag r rest _ _ _ e (spelling.without_content h) = let same : r ≡ whole_text rest = sym (parts_whole r) ∙ ap whole_text e in rw (h, same) refl
closed_cut place tag r _ _ _ _ e (spelling.by_end_tag {inner = inner} {after = after} {end_tag = end_tag} h b c) =
    let found = balanced_is_found (tag_name tag) (parts r) (bytes_of inner) (record { inner = inner; end_tag = end_tag; more = after; split = e; balanced = b; closed = c; place = refl }) in
    rw (h, found) (cut_open place tag r (bytes_of inner) inner after end_tag e refl)

-- an element is cut where it begins
pub cut_only : (place : ℕ) (u tag : List ℕ) (rest : List (List ℕ)) → parts u ≡ tag ∷ rest → is_block_tag tag ≡ true → (y : Element tag rest) → element_cut place u ≡ Ok (cut_of tag rest y)
unfolding element_cut
cut_only place u tag rest e b y =
    let x = tag_of_parts u tag rest e b in
    let is_whole : is_ended u ≡ true = x.ended ∙ y.ended in
    rw (is_whole, x.tag_is, x.rest_is) (closed_cut place tag (whole_text rest) rest y.inner y.after y.end_tag x.rest_parts y.closed)

-- what was cut, or why nothing was
abbrev pub Cuts : ℕ → List ℕ → List (List ℕ) → Result ElementText BlockFault → Type 0
Cuts place tag rest (Ok cut) = (y : Element tag rest) × (cut ≡ cut_of tag rest y)
Cuts place tag rest (Err f) = (f ≡ fault.OpenTag place) × (Element tag rest → ⊥)

cut_found : (place : ℕ) (tag r : List ℕ) (rest : List (List ℕ)) → parts r ≡ rest → is_ended tag ≡ true → Cuts place tag rest (cut_after place tag r)
cut_found place tag r rest e ended = go (has_no_content tag) refl (inside_len (tag_name tag) 0 0 (parts r)) refl
  where
    none_closed : (inner after : List (List ℕ)) (end_tag : List ℕ) (all : List (List ℕ)) → has_no_content tag ≡ false → parts r ≡ all → inside_len (tag_name tag) 0 0 (parts r) ≡ None → Closed tag all inner end_tag after → ⊥
    none_closed _ _ _ all h q n (spelling.without_content c) = cc
    none_closed _ _ _ _ h q n (spelling.by_end_tag {inner = inner} {after = after} {end_tag = end_tag} g b c) =
        let found = balanced_is_found (tag_name tag) (parts r) (bytes_of inner) (record { inner = inner; end_tag = end_tag; more = after; split = q; balanced = b; closed = c; place = refl }) in cc

    go : (b : Bool) → has_no_content tag ≡ b → (o : Option ℕ) → inside_len (tag_name tag) 0 0 (parts r) ≡ o → Cuts place tag rest (cond b (Ok (record { tag = tag; inside = []; end_tag = []; rest = r })) (cut_at place tag r o))
    go true h o n =
        let same : r ≡ whole_text rest = sym (parts_whole r) ∙ ap whole_text e in
        (record { inner = []; end_tag = []; after = rest; ended = ended; closed = spelling.without_content h }, rw same refl)
    go false h None n = (refl, λ y. none_closed y.inner y.after y.end_tag rest h e n y.closed)
    go false h (Some m) n =
        let x = found_is_balanced (tag_name tag) (parts r) m n in
        let split : x.inner ++ x.end_tag ∷ x.more ≡ rest = sym x.split ∙ e in
        let y : Element tag rest = record { inner = x.inner; end_tag = x.end_tag; after = x.more; ended = ended; closed = subst (λ (all : List (List ℕ)). Closed tag all x.inner x.end_tag x.more) split (spelling.by_end_tag h x.balanced x.closed) } in
        subst (λ (read : Result ElementText BlockFault). Cuts place tag rest read) (sym (cut_open place tag r m x.inner x.more x.end_tag x.split x.place)) (y, refl)

-- what is cut is an element, and where nothing is cut there is none
pub cut_says : (place : ℕ) (u tag : List ℕ) (rest : List (List ℕ)) → parts u ≡ tag ∷ rest → is_block_tag tag ≡ true → Cuts place tag rest (element_cut place u)
unfolding element_cut
cut_says place u tag rest e b = go (is_ended u) refl
  where
    x : IsTag u tag rest
    x = tag_of_parts u tag rest e b

    go : (a : Bool) → is_ended u ≡ a → Cuts place tag rest (cond a (cut_after place (take (tag_len u) u) (drop (tag_len u) u)) (Err (fault.OpenTag place)))
    go true h = rw (x.tag_is, x.rest_is) (cut_found place tag (whole_text rest) rest x.rest_parts (sym x.ended ∙ h))
    go false h = (refl, λ y. let ended = y.ended in let same = x.ended in absurd cc)
