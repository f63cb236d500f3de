-- The parts of a text are of the kinds, and nothing else is.
use Rattle.std.proofs.Common.{◌≡◌, ◌<◌, ◌≤◌, ◌+◌, ◌-◌, ℕ, zero, suc, Bool, true, false, cond, not, ◌&&◌, List, [], ◌∷◌, ◌++◌, take, drop, length, Option, Some, None, refl, ap, sym, subst, ◌∙◌, arith, append-nil, append_assoc, length-append}
use Rattle.std.proofs.lemmas.Bool.{and_parts, eqb-true}
use Rattle.std.proofs.lemmas.List.{length-drop, take-append-drop}
use Rattle.std.specs.List.{list_all}
use Rattle.sp_base.specs.Bytes.{begins_with_byte}
use Rattle.sp_base.specs.Texts.{Text}
use Rattle.htl_syntax.specs.Tokens.{begins, is_letter}
use Rattle.htl_blocks.specs.declared.byte_run.ByteRun.TheVariants as run
use Rattle.htl_blocks.specs.declared.quoting.Quoting.{Quoting}
use Rattle.htl_blocks.specs.declared.quoting.Quoting.TheVariants.{Outside, Within}
use Rattle.htl_blocks.specs.Markup.{begins_end_tag, begins_tag, ended_len, ends_run, ends_after_name, ends_tag, is_name_byte, tag_name_len, part_len, parts, parts_after, markup_quoting_step, run_bytes, tag_end, tag_len}
use Rattle.htl_blocks.specs.Spelling.{whole_text}
use Rattle.htl_blocks.proofs.Parts.{parts_after_skipped}
use Rattle.htl_blocks.proofs.Split.{part_is_tag, parts_none, take_all}
use Rattle.htl_blocks.proofs.Plain.{drop_all}
use Rattle.block_laws.specs.PartKinds.{quoting_after, HoldsOfNone, ends_tag_before, IsTagName, end_tag_of, BeginsNoEndTag, IsPart, AreParts}
use Rattle.block_laws.proofs.Scans.{cut_behind, scan, Finds, scan_finds, scan_is, scan_none, Run, run_found, run_is}

-- ---- tags

tag_end_scans : (quoting : Quoting) (n : ℕ) (t : Text) → tag_end quoting n t ≡ scan ends_tag_before quoting n t
unfolding tag_end
tag_end_scans quoting n [] = refl
tag_end_scans quoting n (c ∷ t) = ap (λ (o : Option ℕ). cond (ends_tag quoting c) (Some n) o) (tag_end_scans (markup_quoting_step quoting c) (n + 1) t)

end_is : (quoting : Quoting) (c : ℕ) → ends_tag quoting c ≡ true → (quoting ≡ Outside) × (c ≡ 62)
end_is Outside c e = (refl, eqb-true c 62 e)
end_is (Within mark) c e = absurd cc

tag_found : (t : Text) → begins_tag t ≡ true → IsPart (take (tag_len t) t) (drop (tag_len t) t)
unfolding tag_len
tag_found t b = go (tag_end Outside 0 t) (subst (Finds ends_tag_before Outside 0 t) (sym (tag_end_scans Outside 0 t)) (scan_finds ends_tag_before Outside 0 t))
  where
    go : (o : Option ℕ) → Finds ends_tag_before Outside 0 t o → IsPart (take (ended_len t o) t) (drop (ended_len t o) t)
    go None none = rw (take_all t, drop_all t) (IsPart.TagWithoutEnd refl b none)
    go (Some m) x =
        let end = end_is (quoting_after Outside x.before) x.byte x.holds in
        let is_end : x.before ++ x.byte ∷ [] ≡ x.before ++ 62 ∷ [] = ap (λ (d : ℕ). x.before ++ d ∷ []) end.1 in
        let at = x.place in
        let size = length-append x.before (x.byte ∷ []) in
        let len : m + 1 ≡ length (x.before ++ x.byte ∷ []) = omega (arith, at, size) in
        let whole : t ≡ (x.before ++ x.byte ∷ []) ++ x.later = x.whole ∙ sym (append_assoc x.before (x.byte ∷ []) x.later) in
        let cut = cut_behind (x.before ++ x.byte ∷ []) x.later t (m + 1) whole len in
        let none = subst (λ (d : ℕ). HoldsOfNone ends_tag_before Outside x.before (d ∷ x.later)) end.1 x.none in
        rw (cut.0, cut.1) (IsPart.Tag x.before is_end (ap begins_tag (sym whole) ∙ b) none end.0)

tag_len_is : (inside later : Text) → HoldsOfNone ends_tag_before Outside inside (62 ∷ later) → quoting_after Outside inside ≡ Outside → tag_len (inside ++ 62 ∷ later) ≡ length inside + 1
unfolding tag_len
tag_len_is inside later none out =
    let ends_here : ends_tag_before (quoting_after Outside inside) 62 later ≡ true = ap (λ (q : Quoting). ends_tag q 62) out in
    let found = tag_end_scans Outside 0 (inside ++ 62 ∷ later) ∙ scan_is ends_tag_before Outside 0 inside 62 later none ends_here in
    let same : (0 + length inside) + 1 ≡ length inside + 1 = omega arith in
    rw found same

open_len_is : (t : Text) → HoldsOfNone ends_tag_before Outside t [] → tag_len t ≡ length t
unfolding tag_len
open_len_is t none = rw (tag_end_scans Outside 0 t ∙ scan_none ends_tag_before Outside 0 t none) refl

-- ---- end tags

name_is : (c : ℕ) → ends_run run.Name c ≡ not (is_name_byte c)
name_is c = refl

name_found : (t : Text) → Run is_name_byte (tag_name_len t) t
unfolding run_bytes
name_found t = run_found (ends_run run.Name) is_name_byte name_is t

name_len_is : (name later : Text) → list_all is_name_byte name ≡ true → tag_name_len (name ++ 62 ∷ later) ≡ length name
unfolding run_bytes
name_len_is name later all = run_is (ends_run run.Name) is_name_byte name_is name (62 ∷ later) all refl

begins_name : (name later : Text) → begins is_letter (name ++ 62 ∷ later) ≡ true → begins is_letter name ≡ true
unfolding begins
begins_name [] later e = absurd cc
begins_name (c ∷ name) later e = e

name_begins : (name later : Text) → begins is_letter name ≡ true → begins is_letter (name ++ later) ≡ true
unfolding begins
name_begins [] later e = absurd cc
name_begins (c ∷ name) later e = e

byte_first : (c : ℕ) (t : Text) → begins_with_byte c t ≡ true → (more : Text) × (t ≡ c ∷ more)
unfolding begins_with_byte
byte_first c [] e = absurd cc
byte_first c (d ∷ t) e = (t, ap (λ (b : ℕ). b ∷ t) (eqb-true d c e))

-- a text that an end tag begins
record EndTagAt (t : Text) : Type 0 where
  name : Text
  later : Text
  named : IsTagName name
  whole : t ≡ end_tag_of name ++ later
  len : tag_name_len (drop 2 t) ≡ length name

after_name : (u : Text) → ends_after_name u ≡ true → (name : Text) × (later : Text) × IsTagName name × (u ≡ name ++ 62 ∷ later) × (tag_name_len u ≡ length name)
after_name u h =
    let both = and_parts (begins is_letter u) (begins_with_byte 62 (drop (tag_name_len u) u)) h in
    let x = name_found u in
    let cut = cut_behind x.run x.later u (tag_name_len u) x.whole x.len in
    let end = byte_first 62 x.later (ap (begins_with_byte 62) (sym cut.1) ∙ both.1) in
    let whole : u ≡ x.run ++ 62 ∷ end.0 = x.whole ∙ ap (λ (v : Text). x.run ++ v) end.1 in
    (x.run, end.0, (begins_name x.run end.0 (ap (begins is_letter) (sym whole) ∙ both.0), x.all), whole, x.len)

end_tag_found : (t : Text) → begins_end_tag t ≡ true → EndTagAt t
unfolding begins_end_tag
end_tag_found t h =
    let one = and_parts (begins_with_byte 60 t) (begins_with_byte 47 (drop 1 t) && ends_after_name (drop 2 t)) h in
    let two = and_parts (begins_with_byte 47 (drop 1 t)) (ends_after_name (drop 2 t)) one.1 in
    let first = byte_first 60 t one.0 in
    let second = byte_first 47 first.0 (ap (λ (u : Text). begins_with_byte 47 (drop 1 u)) (sym first.1) ∙ two.0) in
    let both : t ≡ 60 ∷ 47 ∷ second.0 = first.1 ∙ ap (λ (u : Text). 60 ∷ u) second.1 in
    let x = after_name (drop 2 t) two.1 in
    let rest : drop 2 t ≡ second.0 = ap (drop 2) both in
    let inner : second.0 ≡ (x.0 ++ 62 ∷ []) ++ x.1 = sym rest ∙ x.3 ∙ sym (append_assoc x.0 (62 ∷ []) x.1) in
    record { name = x.0; later = x.1; named = x.2; whole = both ∙ ap (λ (u : Text). 60 ∷ 47 ∷ u) inner; len = x.4 }

end_tag_begins : (name later : Text) → IsTagName name → begins_end_tag (end_tag_of name ++ later) ≡ true
unfolding begins_end_tag begins_with_byte
end_tag_begins name later named =
    let whole = append_assoc name (62 ∷ []) later in
    let len = name_len_is name later named.1 in
    let cut = cut_behind name (62 ∷ later) (name ++ 62 ∷ later) (tag_name_len (name ++ 62 ∷ later)) refl len in
    let letter = name_begins name (62 ∷ later) named.0 in
    rw (whole, letter, cut.1) refl

end_tag_no_tag : (name later : Text) → begins_tag (end_tag_of name ++ later) ≡ false
unfolding begins_tag begins_with_byte begins
end_tag_no_tag name later = refl

end_tag_size : (name : Text) → length (end_tag_of name) ≡ length name + 3
end_tag_size name = let size = length-append name (62 ∷ []) in omega (arith, size)

-- ---- one part

part_of_end_tag : (t : Text) → begins_tag t ≡ false → begins_end_tag t ≡ true → part_len t ≡ tag_name_len (drop 2 t) + 3
unfolding part_len
part_of_end_tag t b e = rw (b, e) refl

part_of_byte : (t : Text) → begins_tag t ≡ false → begins_end_tag t ≡ false → part_len t ≡ 1
unfolding part_len
part_of_byte t b e = rw (b, e) refl

no_end_tag : (t : Text) → begins_end_tag t ≡ false → BeginsNoEndTag t
no_end_tag t e name later named is = let there : true ≡ false = sym (end_tag_begins name later named) ∙ ap begins_end_tag (sym is) ∙ e in absurd cc

-- the first part of a text is of a kind
found_part : (c : ℕ) (t : Text) → IsPart (take (part_len (c ∷ t)) (c ∷ t)) (drop (part_len (c ∷ t)) (c ∷ t))
found_part c t = go (begins_tag (c ∷ t)) refl (begins_end_tag (c ∷ t)) refl
  where
    go : (a : Bool) → begins_tag (c ∷ t) ≡ a → (b : Bool) → begins_end_tag (c ∷ t) ≡ b → IsPart (take (part_len (c ∷ t)) (c ∷ t)) (drop (part_len (c ∷ t)) (c ∷ t))
    go true ea b eb = rw (part_is_tag (c ∷ t) ea) (tag_found (c ∷ t) ea)
    go false ea true eb =
        let x = end_tag_found (c ∷ t) eb in
        let some = x.len in
        let size = end_tag_size x.name in
        let len : part_len (c ∷ t) ≡ length (end_tag_of x.name) = part_of_end_tag (c ∷ t) ea eb ∙ omega (arith, some, size) in
        let cut = cut_behind (end_tag_of x.name) x.later (c ∷ t) (part_len (c ∷ t)) x.whole len in
        rw (cut.0, cut.1) (IsPart.EndTag x.name x.named refl)
    go false ea false eb = rw (part_of_byte (c ∷ t) ea eb) (IsPart.Byte c refl ea (no_end_tag (c ∷ t) eb))

no_tag_in_none : begins_tag [] ≡ true → ⊥
unfolding begins_tag begins_with_byte
no_tag_in_none e = absurd cc

some_in_tag : (t : Text) → begins_tag t ≡ true → 0 < length t
some_in_tag [] b = absurd (no_tag_in_none b)
some_in_tag (c ∷ t) b = omega arith

byte_is_part : (c : ℕ) (later : Text) → begins_tag (c ∷ later) ≡ false → BeginsNoEndTag (c ∷ later) → part_len (c ∷ later) ≡ 1
byte_is_part c later b none = go (begins_end_tag (c ∷ later)) refl
  where
    go : (e : Bool) → begins_end_tag (c ∷ later) ≡ e → part_len (c ∷ later) ≡ 1
    go true e = let x = end_tag_found (c ∷ later) e in absurd (none x.name x.later x.named x.whole)
    go false e = part_of_byte (c ∷ later) b e

-- what is of a kind is the first part, and isn't empty
is_part : (part later : Text) → IsPart part later → (part_len (part ++ later) ≡ length part) × (0 < length part)
is_part part later (IsPart.Tag inside is b none out) =
    let whole : part ++ later ≡ inside ++ 62 ∷ later = ap (λ (p : Text). p ++ later) is ∙ append_assoc inside (62 ∷ []) later in
    let size : length part ≡ length inside + 1 = ap length is ∙ length-append inside (62 ∷ []) in
    (part_is_tag (part ++ later) b ∙ ap tag_len whole ∙ tag_len_is inside later none out ∙ sym size, omega (arith, size))
is_part part later (IsPart.TagWithoutEnd end b none) =
    let whole : part ++ later ≡ part = ap (λ (t : Text). part ++ t) end ∙ append-nil part in
    (ap part_len whole ∙ part_is_tag part b ∙ open_len_is part none, some_in_tag part b)
is_part part later (IsPart.EndTag name named is) =
    let whole : part ++ later ≡ end_tag_of name ++ later = ap (λ (p : Text). p ++ later) is in
    let size : length part ≡ length name + 3 = ap length is ∙ end_tag_size name in
    let inner = ap tag_name_len (append_assoc name (62 ∷ []) later) ∙ name_len_is name later named.1 in
    let len : part_len (end_tag_of name ++ later) ≡ length name + 3 = part_of_end_tag (end_tag_of name ++ later) (end_tag_no_tag name later) (end_tag_begins name later named) ∙ ap (λ (n : ℕ). n + 3) inner in
    (ap part_len whole ∙ len ∙ sym size, omega (arith, size))
is_part part later (IsPart.Byte c is b none) =
    let whole : part ++ later ≡ c ∷ later = ap (λ (p : Text). p ++ later) is in
    let size : length part ≡ 1 = ap length is in
    (ap part_len whole ∙ byte_is_part c later b none ∙ sym size, omega (arith, size))

-- ---- all parts

nonzero : (n : ℕ) (t : Text) → 0 < length (take n t) → 1 ≤ n
nonzero zero t some = absurd (omega (arith, some))
nonzero (suc n) t some = omega arith

-- the first part, and the parts of what follows it
parts_step : (c : ℕ) (t : Text) → 1 ≤ part_len (c ∷ t) → parts (c ∷ t) ≡ take (part_len (c ∷ t)) (c ∷ t) ∷ parts (drop (part_len (c ∷ t)) (c ∷ t))
unfolding parts_after
parts_step c t some = ap (λ (more : List Text). take (part_len (c ∷ t)) (c ∷ t) ∷ more) (go (part_len (c ∷ t)) some)
  where
    go : (n : ℕ) → 1 ≤ n → parts_after (n - 1) t ≡ parts_after 0 (drop n (c ∷ t))
    go zero h = absurd (omega (arith, h))
    go (suc k) h = let same : suc k - 1 ≡ k = omega arith in rw same (parts_after_skipped k t)

each_within : (n : ℕ) (t : Text) → length t ≤ n → (whole_text (parts t) ≡ t) × AreParts (parts t)
each_within n [] h = subst (λ (ps : List Text). (whole_text ps ≡ []) × AreParts ps) (sym parts_none) (refl, tt)
each_within zero (c ∷ t) h = absurd (omega (arith, h))
each_within (suc n) (c ∷ t) h =
    let k = part_len (c ∷ t) in
    let first = found_part c t in
    let one = nonzero k (c ∷ t) (is_part (take k (c ∷ t)) (drop k (c ∷ t)) first).1 in
    let left = length-drop k (c ∷ t) in
    let ih = each_within n (drop k (c ∷ t)) (omega (arith, h, one, left)) in
    subst (λ (ps : List Text). (whole_text ps ≡ c ∷ t) × AreParts ps) (sym (parts_step c t one))
    (ap (λ (u : Text). take k (c ∷ t) ++ u) ih.0 ∙ take-append-drop k (c ∷ t), (subst (IsPart (take k (c ∷ t))) (sym ih.0) first, ih.1))

-- each part of a text is of a kind
pub each_part : (t : Text) → AreParts (parts t)
each_part t = (each_within (length t) t (omega arith)).1

step_with : (t later part : Text) → t ≡ part ++ later → part_len t ≡ length part → 0 < length part → parts t ≡ part ∷ parts later
step_with [] later part whole len some = let size = ap length whole ∙ length-append part later in absurd (omega (arith, size, some))
step_with (c ∷ t) later part whole len some =
    let cut = cut_behind part later (c ∷ t) (part_len (c ∷ t)) whole len in
    parts_step c t (omega (arith, len, some)) ∙ ap (λ (p : Text). p ∷ parts (drop (part_len (c ∷ t)) (c ∷ t))) cut.0 ∙ ap (λ (u : Text). part ∷ parts u) cut.1

-- parts of the kinds are those of their text
pub only_parts : (ps : List Text) → AreParts ps → parts (whole_text ps) ≡ ps
only_parts [] x = parts_none
only_parts (part ∷ ps) x =
    let k = is_part part (whole_text ps) x.0 in
    step_with (part ++ whole_text ps) (whole_text ps) part refl k.0 k.1 ∙ ap (λ (more : List Text). part ∷ more) (only_parts ps x.1)
