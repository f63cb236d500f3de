-- The last segment of a path's text, and how a path and its text give each other.
use Rattle.std.proofs.Common.{◌≡◌, ◌≢◌, ◌<◌, ◌-◌, ◌+◌, ◌==◌, ◌||◌, ◌++◌, ◌∷◌, [], List, ℕ, zero, suc, Bool, true, false, cond, T, Option, Some, None, Ok, Err, Bor, IfSome, length, length-append, take, drop, get_or, slice_get, option_copied, refl, sym, ⊎_elim, ◌∙◌, ap, arith, ◌&&◌}
use Rattle.std.proofs.Math.Seq.{drop-cons, get_or-append_seam}
use Rattle.std.proofs.lemmas.Bool.{cases_Bool, eqb-true, true≢false}
use Rattle.std.proofs.lemmas.Bool.Decides.{nat_tests}
use Rattle.std.proofs.lemmas.List.{take-append-drop, get_or-drop}
use Rattle.std.proofs.lemmas.List.Folds.{list_all_at}
use Rattle.std.proofs.lemmas.List.Splits.{length-slice_split}
use Rattle.std.proofs.lemmas.Option.{get_or_from_slice_get, slice_get-get_or, slice_get_within}
use Rattle.std.specs.Prelude.{IsTrue}
use Rattle.std.specs.List.{list_all, onto_first}
use Rattle.sp_base.specs.declared.path.PathFault.{PathFault}
use Rattle.sp_base.specs.declared.path.PathFault.TheVariants.{NotAbsolute}
use Rattle.sp_base.specs.Paths.{has_slash, is_empty, pieces, seg_ok, is_path, path_of, text_of, path_or_fault, unless_fault, fault_of, path_or_none}
use Rattle.sp_base.specs.PathTexts.{segs_in, spelling_of}
use Rattle.sp_base.proofs.BoolLemmas.{T_second, and_first}
use Rattle.sp_base.proofs.NatLemmas.{suc_is_not_zero}
use Rattle.sp_base.proofs.PathLemmas.{lacks_slash, pieces_whole, pieces_lack, path_from, path_pieces, path_ok, no_fault, small_back, true_test, path_made_is}
use Rattle.sp_base.proofs.PathText.{pieces-spelled, spelled-pieces}
use Rattle.sp_base.proofs.TextLemmas.{not_slash}

-- ---- the last segment

none_slash : (w : List ℕ) → ((i : ℕ) → i < length w → get_or w i 0 ≢ 47) → has_slash w ≡ false
none_slash [] h = refl
none_slash (b ∷ w) h = ap (λ t. t || has_slash w) (not_slash b (h 0 (omega arith))) ∙ none_slash w (λ i lt. h (suc i) (omega (arith, lt)))

onto_end : (b : ℕ) (ps qs : List (List ℕ)) → 0 < length ps → onto_first b (ps ++ qs) ≡ onto_first b ps ++ qs
onto_end b [] qs h = absurd (omega (arith, h))
onto_end b (p ∷ ps) qs h = refl

some_piece : (text : List ℕ) → 0 < length (pieces text)
some_piece text = omega (arith, length-slice_split (λ b. b == 47) text)

pieces_step : (t : Bool) (b : ℕ) (ps qs : List (List ℕ)) → 0 < length ps → cond t ([] ∷ ps ++ qs) (onto_first b (ps ++ qs)) ≡ cond t ([] ∷ ps) (onto_first b ps) ++ qs
pieces_step true b ps qs h = refl
pieces_step false b ps qs h = onto_end b ps qs h

-- what follows a last slash is the last piece
pieces_end : (a w : List ℕ) → has_slash w ≡ false → pieces (a ++ 47 ∷ w) ≡ pieces a ++ w ∷ []
pieces_end [] w h = ap (λ ps. [] ∷ ps) (pieces_whole w h)
pieces_end (b ∷ a) w h =
    ap (λ ps. cond (b == 47) ([] ∷ ps) (onto_first b ps)) (pieces_end a w h) ∙ pieces_step (b == 47) b (pieces a) (w ∷ []) (some_piece a)

last_of_more : (ps : List (List ℕ)) (w : List ℕ) → 0 < length ps → Some w ≡ slice_get (drop 1 (ps ++ w ∷ [])) (length (drop 1 (ps ++ w ∷ [])) - 1)
last_of_more [] w h = absurd (omega (arith, h))
last_of_more (p ∷ ps) w h =
    let n : length (ps ++ w ∷ []) - 1 ≡ length ps = omega (arith, length-append ps (w ∷ [])) in
    sym (ap (slice_get (ps ++ w ∷ [])) n ∙ slice_get-get_or (ps ++ w ∷ []) (length ps) [] (omega (arith, length-append ps (w ∷ []))) ∙ ap Some (get_or-append_seam ps w [] []))

in_text : (text : List ℕ) (n i : ℕ) → i < length (drop n text) → n + i < length text
in_text [] zero i h = absurd (omega (arith, h))
in_text [] (suc n) i h = absurd (omega (arith, h))
in_text (b ∷ text) zero i h = omega (arith, h)
in_text (b ∷ text) (suc n) i h = let more = in_text text n i h in omega (arith, more)

pub last_found : (text : List ℕ) (at : ℕ) → at < length text → get_or text at 0 ≡ 47 → ((i : ℕ) → at < i → i < length text → get_or text i 0 ≢ 47)
    → Some (drop (at + 1) text) ≡ slice_get (segs_in text) (length (segs_in text) - 1)
unfolding segs_in
last_found text at within here after =
    let w = drop (suc at) text in
    let whole : text ≡ take at text ++ 47 ∷ w =
    sym (take-append-drop at text) ∙ ap (λ more. take at text ++ more) (drop-cons text at 0 within ∙ ap (λ b. b ∷ w) here) in
    let lacks : has_slash w ≡ false = none_slash w (λ i lt e. after (suc at + i) (omega arith) (in_text text (suc at) i lt) (sym (get_or-drop (suc at) text i 0) ∙ e)) in
    let parts : pieces text ≡ pieces (take at text) ++ w ∷ [] = ap pieces whole ∙ pieces_end (take at text) w lacks in
    let next : at + 1 ≡ suc at = omega arith in
    ap (λ n. Some (drop n text)) next ∙ last_of_more (pieces (take at text)) w (some_piece (take at text)) ∙ ap (λ ps. slice_get (drop 1 ps) (length (drop 1 ps) - 1)) (sym parts)

pub last_lacking : (text : List ℕ) → ((i : ℕ) → i < length text → get_or text i 0 ≢ 47) → None ≡ slice_get (segs_in text) (length (segs_in text) - 1)
unfolding segs_in
last_lacking text none = ap (λ ps. slice_get (drop 1 ps) (length (drop 1 ps) - 1)) (sym (pieces_whole text (none_slash text none)))

-- each segment of a path is one that a path may have
segment_ok : (path : List (List ℕ)) (n : ℕ) (name : List ℕ) → IsTrue (is_path path) → Some name ≡ slice_get path n → IsTrue (seg_ok name)
segment_ok path n name valid at =
    let there = sym at in
    ⊎_elim
    (λ yes. yes)
    (λ no. absurd (true≢false (sym (and_first (list_all seg_ok path) _ valid) ∙ list_all_at seg_ok path n [] (slice_get_within path n name there) (ap seg_ok (get_or_from_slice_get path n name [] there) ∙ no))))
    (cases_Bool (seg_ok name))

pub last_ok : (o : Option (Bor (List ℕ))) (path : List (List ℕ)) (n : ℕ) → IsTrue (is_path path) → option_copied o ≡ slice_get path n → IfSome o (λ name. IsTrue (seg_ok name.now))
last_ok None path n valid at = tt
last_ok (Some name) path n valid at = segment_ok path n name.now valid at

-- ---- paths and their texts

-- the pieces of a path are without a fault
pub checked_path : (segs : List (List ℕ)) → is_path segs ≡ true → path_or_fault segs ≡ Ok segs
checked_path segs h = ap (λ fault. unless_fault fault segs) (no_fault segs (path_ok segs h) (small_back (length segs) (T_second _ _ (true_test (is_path segs) h))))

read_full : (seg : List ℕ) (segs : List (List ℕ)) → seg_ok seg ≡ true → is_path (seg ∷ segs) ≡ true → cond (is_empty (seg ++ spelling_of segs)) (Ok []) (path_or_fault (pieces (seg ++ spelling_of segs))) ≡ Ok (seg ∷ segs)
read_full [] segs ok h = absurd (true_test _ ok)
read_full (b ∷ seg) segs ok h =
    let some : is_empty (b ∷ seg ++ spelling_of segs) ≡ false = suc_is_not_zero (length (seg ++ spelling_of segs)) in
    ap (λ t. cond t (Ok []) (path_or_fault (pieces (b ∷ seg ++ spelling_of segs)))) some ∙ ap path_or_fault (ap (drop 1) (pieces-spelled ((b ∷ seg) ∷ segs) (path_pieces ((b ∷ seg) ∷ segs) h))) ∙ checked_path ((b ∷ seg) ∷ segs) h

head_ok : (a b : Bool) → T (a && b) → a ≡ true
head_ok true b h = refl
head_ok false b h = absurd h

pub read_back : (path : List (List ℕ)) → is_path path ≡ true → path_of (text_of path) ≡ Ok path
read_back [] h = refl
read_back (seg ∷ segs) h = read_full seg segs (head_ok (seg_ok seg) (list_all seg_ok segs) (path_ok (seg ∷ segs) h)) h

made_text : (fault : Option PathFault) (segs path : List (List ℕ)) (text : List ℕ) → unless_fault fault segs ≡ Ok path → text_of segs ≡ text → text_of path ≡ text
made_text fault segs path text e h = ap text_of (path_made_is fault segs path e) ∙ h

full_text : (ps : List (List ℕ)) (text : List ℕ) → 0 < length ps → spelling_of ps ≡ text → text_of ps ≡ text
full_text [] text h e = absurd (omega (arith, h))
full_text (p ∷ ps) text h e = e

spells_rest : (empty : Bool) (rest : List ℕ) (path : List (List ℕ)) → is_empty rest ≡ empty → cond empty (Ok []) (path_or_fault (pieces rest)) ≡ Ok path → text_of path ≡ 47 ∷ rest
spells_rest true [] path is e = ap text_of (path_made_is None [] path e)
spells_rest true (b ∷ rest) path is e = absurd (grind (arith, nat_tests))
spells_rest false rest path is e = made_text (fault_of (pieces rest)) (pieces rest) path (47 ∷ rest) e (full_text (pieces rest) (47 ∷ rest) (some_piece rest) (spelled-pieces rest))

pub spells_its_text : (text : List ℕ) (path : List (List ℕ)) → path_of text ≡ Ok path → text_of path ≡ text
spells_its_text [] path e = absurd (cc e)
spells_its_text (b ∷ rest) path e =
    elim (b == 47) as (λ t. (b == 47) ≡ t → cond t (cond (is_empty rest) (Ok []) (path_or_fault (pieces rest))) (Err NotAbsolute) ≡ Ok path → text_of path ≡ b ∷ rest) [
      | true ↦ λ is h. spells_rest (is_empty rest) rest path refl h ∙ ap (λ n. n ∷ rest) (sym (eqb-true b 47 is))
      | false ↦ λ is h. absurd (cc h)
    ] refl e

valid_made : (fault : Option PathFault) (segs path : List (List ℕ)) → fault_of segs ≡ fault → T (list_all lacks_slash segs) → unless_fault fault segs ≡ Ok path → is_path path ≡ true
valid_made None segs path none lacks e = ap is_path (path_made_is None segs path e) ∙ path_from segs lacks none
valid_made (Some fault) segs path none lacks e = absurd (cc e)

valid_rest : (empty : Bool) (rest : List ℕ) (path : List (List ℕ)) → cond empty (Ok []) (path_or_fault (pieces rest)) ≡ Ok path → is_path path ≡ true
valid_rest true rest path e = ap is_path (path_made_is None [] path e)
valid_rest false rest path e = valid_made (fault_of (pieces rest)) (pieces rest) path refl (pieces_lack rest) e

pub reads_valid : (text : List ℕ) (path : List (List ℕ)) → path_of text ≡ Ok path → is_path path ≡ true
reads_valid [] path e = absurd (cc e)
reads_valid (b ∷ rest) path e =
    elim (b == 47) as (λ t. cond t (cond (is_empty rest) (Ok []) (path_or_fault (pieces rest))) (Err NotAbsolute) ≡ Ok path → is_path path ≡ true) [
      | true ↦ λ h. valid_rest (is_empty rest) rest path h
      | false ↦ λ h. absurd (cc h)
    ] e

-- what has a fault is no path
ok_err : (segs : List (List ℕ)) (e : PathFault) → Ok segs ≡ Err e → ⊥
ok_err segs e h = cc h

fault_left : (b : Bool) (segs : List (List ℕ)) (e : PathFault) → is_path segs ≡ b → path_or_fault segs ≡ Err e → None ≡ cond b (Some segs) None
fault_left true segs e is h = absurd (ok_err segs e (sym (checked_path segs is) ∙ h))
fault_left false segs e is h = refl

pub no_path : (segs : List (List ℕ)) (e : PathFault) → path_or_fault segs ≡ Err e → None ≡ path_or_none segs
no_path segs e h = fault_left (is_path segs) segs e refl h
