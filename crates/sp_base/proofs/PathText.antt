-- A path's text and its segments give each other back.
use Rattle.std.proofs.Common.{ℕ, Bool, true, false, cond, T, List, [], ◌∷◌, ◌++◌, ◌==◌, length, drop, map, Bor, append_assoc, refl, sym, ◌∙◌, ap, subst, ◌≡◌, ◌≢◌, arith}
use Rattle.std.proofs.lemmas.Bool.{eqb-true}
use Rattle.std.proofs.lemmas.List.{flat_map_more, map-append}
use Rattle.std.proofs.lemmas.List.Concat.{flat_map-append}
use Rattle.std.proofs.lemmas.List.Splits.{length-slice_split}
use Rattle.std.specs.List.{list_all, onto_first, count_by}
use Rattle.sp_base.specs.Paths.{has_slash, pieces, is_path, unmangled_segs, unmangled_seg}
use Rattle.sp_base.specs.PathTexts.{spelling_of, segs_in, IsPathText}
use Rattle.sp_base.proofs.BoolLemmas.{T_first, T_second, false_from_T_not, or_first, or_second}
use Rattle.sp_base.proofs.PathLemmas.{lacks_slash, path_pieces, pieces_lack, all-append}

-- a slash before each piece of a text is a slash and the text
spelled-onto : (b : ℕ) (parts : List (List ℕ)) (text : List ℕ) → spelling_of parts ≡ 47 ∷ text → spelling_of (onto_first b parts) ≡ 47 ∷ b ∷ text
spelled-onto b [] text e = absurd (cc (e))
spelled-onto b (part ∷ parts) text e =
    let rest : part ++ spelling_of parts ≡ text = cc (e) in
    ap (λ more. 47 ∷ b ∷ more) rest

pub spelled-pieces : (text : List ℕ) → spelling_of (pieces text) ≡ 47 ∷ text
spelled-pieces [] = refl
spelled-pieces (b ∷ text) =
    elim (b == 47) as (λ t. (b == 47) ≡ t → spelling_of (cond t ([] ∷ pieces text) (onto_first b (pieces text))) ≡ 47 ∷ b ∷ text) [
      | true ↦ λ e. ap (λ more. 47 ∷ more) (spelled-pieces text) ∙ ap (λ n. 47 ∷ n ∷ text) (sym (eqb-true b 47 e))
      | false ↦ λ e. spelled-onto b (pieces text) text (spelled-pieces text)
    ] refl

-- and segments that are spelled are the pieces after the first slash
pub prefix_piece : (seg rest : List ℕ) (parts : List (List ℕ)) → has_slash seg ≡ false → pieces rest ≡ [] ∷ parts → pieces (seg ++ rest) ≡ seg ∷ parts
prefix_piece [] rest parts h e = e
prefix_piece (b ∷ seg) rest parts h e =
    ap (λ t. cond t ([] ∷ pieces (seg ++ rest)) (onto_first b (pieces (seg ++ rest)))) (or_first _ _ h) ∙ ap (onto_first b) (prefix_piece seg rest parts (or_second _ _ h) e)

pub pieces-spelled : (segs : List (List ℕ)) → T (list_all lacks_slash segs) → pieces (spelling_of segs) ≡ [] ∷ segs
pieces-spelled [] h = refl
pieces-spelled (seg ∷ segs) h =
    ap (λ parts. [] ∷ parts) (prefix_piece seg (spelling_of segs) segs (false_from_T_not _ (T_first (lacks_slash seg) _ h)) (pieces-spelled segs (T_second (lacks_slash seg) _ h)))

pub segs_in-spelled : (segs : List (List ℕ)) → is_path segs ≡ true → segs_in (spelling_of segs) ≡ segs
unfolding segs_in
segs_in-spelled segs h = ap (drop 1) (pieces-spelled segs (path_pieces segs h))

all-drop : (p : List ℕ → Bool) (parts : List (List ℕ)) → T (list_all p parts) → T (list_all p (drop 1 parts))
all-drop p [] h = tt
all-drop p (part ∷ parts) h = T_second (p part) _ h

pub segs_lack : (text : List ℕ) → T (list_all lacks_slash (segs_in text))
unfolding segs_in
segs_lack text = all-drop lacks_slash (pieces text) (pieces_lack text)

-- a text that spells a path keeps what the type promises
pub segs_of : (text : List ℕ) (segs : List (List ℕ)) → text ≡ spelling_of segs → is_path segs ≡ true → segs_in text ≡ segs
segs_of text segs e h = ap segs_in e ∙ segs_in-spelled segs h

pub spells : (text : List ℕ) (segs : List (List ℕ)) → text ≡ spelling_of segs → is_path segs ≡ true → IsPathText text
spells text segs e h =
    let same = segs_of text segs e h in
    record { valid = ap is_path same ∙ h; whole = ap spelling_of same ∙ sym e }

-- a path's text begins with a slash, if it is not empty
begins : (segs : List (List ℕ)) → pieces (spelling_of segs) ≡ [] ∷ segs_in (spelling_of segs)
unfolding segs_in
begins [] = refl
begins (seg ∷ segs) = refl

pub pieces_of : (text : List ℕ) → spelling_of (segs_in text) ≡ text → pieces text ≡ [] ∷ segs_in text
pieces_of text e = subst (λ t. pieces t ≡ [] ∷ segs_in t) e (begins (segs_in text))

pub none_in : segs_in [] ≡ []
unfolding segs_in
none_in = refl

pub segs_after : (text rest : List ℕ) → text ≡ 47 ∷ rest → segs_in text ≡ pieces rest
unfolding segs_in
segs_after text rest e = ap segs_in e

root_or_slash : (segs : List (List ℕ)) (text : List ℕ) → spelling_of segs ≡ text → ((rest : List ℕ) → text ≢ 47 ∷ rest) → text ≡ []
root_or_slash [] text e none = sym e
root_or_slash (seg ∷ segs) text e none = absurd (none (seg ++ spelling_of segs) (sym e))

pub is_root : (text : List ℕ) → spelling_of (segs_in text) ≡ text → ((rest : List ℕ) → text ≢ 47 ∷ rest) → text ≡ []
is_root text e none = root_or_slash (segs_in text) text e none

pub root_segs : (text : List ℕ) → spelling_of (segs_in text) ≡ text → ((rest : List ℕ) → text ≢ 47 ∷ rest) → segs_in text ≡ []
unfolding segs_in
root_segs text e none = ap segs_in (is_root text e none)

-- as many segments as slashes
pub length-segs_in : (text : List ℕ) → spelling_of (segs_in text) ≡ text → count_by (λ b. b == 47) text ≡ length (segs_in text)
length-segs_in text e = omega (arith, length-slice_split (λ b. b == 47) text, ap length (pieces_of text e))

-- texts that are made
pub slash_then : (text : List ℕ) → spelling_of (segs_in (47 ∷ text)) ≡ 47 ∷ text
unfolding segs_in
slash_then text = spelled-pieces text

spelled-join : (segs more : List (List ℕ)) (text : List ℕ) → T (list_all lacks_slash segs) → T (list_all lacks_slash more) → text ≡ spelling_of segs ++ spelling_of more → (segs_in text ≡ segs ++ more) × (spelling_of (segs_in text) ≡ text)
unfolding segs_in
spelled-join segs more text h k e =
    let whole : text ≡ spelling_of (segs ++ more) = e ∙ sym (flat_map-append (λ s. 47 ∷ s) segs more) in
    let same : segs_in text ≡ segs ++ more = ap segs_in whole ∙ ap (drop 1) (pieces-spelled (segs ++ more) (all-append lacks_slash segs more h k)) in
    (same, ap spelling_of same ∙ sym whole)

-- a path's text, a slash and a name
pub child_text : (own name text : List ℕ) → is_path (segs_in own) ≡ true → spelling_of (segs_in own) ≡ own → text ≡ own ++ 47 ∷ name
    → (segs_in text ≡ segs_in own ++ pieces name) × (spelling_of (segs_in text) ≡ text)
child_text own name text h e is =
    spelled-join (segs_in own) (pieces name) text (path_pieces (segs_in own) h) (pieces_lack name)
    (is ∙ ap (λ leading. leading ++ 47 ∷ name) (sym e) ∙ ap (λ more. spelling_of (segs_in own) ++ more) (sym (spelled-pieces name)))

-- one path's text after another's
pub joined_text : (own rest text : List ℕ) → is_path (segs_in own) ≡ true → is_path (segs_in rest) ≡ true → spelling_of (segs_in own) ≡ own → spelling_of (segs_in rest) ≡ rest → text ≡ own ++ rest
    → (segs_in text ≡ segs_in own ++ segs_in rest) × (spelling_of (segs_in text) ≡ text)
joined_text own rest text h k e f is =
    spelled-join (segs_in own) (segs_in rest) text (path_pieces (segs_in own) h) (path_pieces (segs_in rest) k)
    (is ∙ ap (λ leading. leading ++ rest) (sym e) ∙ ap (λ more. spelling_of (segs_in own) ++ more) (sym f))

-- one segment more
pub spelled-more : (segs : List (List ℕ)) (seg : List ℕ) → spelling_of (segs ++ seg ∷ []) ≡ (spelling_of segs ++ 47 ∷ []) ++ seg
spelled-more segs seg = sym (flat_map_more (λ s. 47 ∷ s) [] segs seg) ∙ sym (append_assoc (spelling_of segs) (47 ∷ []) seg)

pub spelled-push : (seen : List (Bor (List ℕ))) (piece : Bor (List ℕ)) (text more : List ℕ) → text ≡ spelling_of (map (λ s. s.now) seen) → more ≡ (text ++ 47 ∷ []) ++ piece.now
    → more ≡ spelling_of (map (λ s. s.now) (seen ++ piece ∷ []))
spelled-push seen piece text more e is =
    is ∙ ap (λ leading. (leading ++ 47 ∷ []) ++ piece.now) e ∙ sym (spelled-more (map (λ s. s.now) seen) piece.now) ∙ ap spelling_of (sym (map-append (λ s. s.now) seen (piece ∷ [])))

pub unmangled-push : (seen : List (Bor (List ℕ))) (piece : Bor (List ℕ)) (text more : List ℕ) → text ≡ spelling_of (unmangled_segs (map (λ s. s.now) seen)) → more ≡ (text ++ 47 ∷ []) ++ unmangled_seg piece.now
    → more ≡ spelling_of (unmangled_segs (map (λ s. s.now) (seen ++ piece ∷ [])))
unmangled-push seen piece text more e is =
    let segs = map (λ s. s.now) seen in
    is ∙ ap (λ leading. (leading ++ 47 ∷ []) ++ unmangled_seg piece.now) e ∙ sym (spelled-more (unmangled_segs segs) (unmangled_seg piece.now))
    ∙ ap spelling_of (sym (ap unmangled_segs (map-append (λ s. s.now) seen (piece ∷ [])) ∙ map-append unmangled_seg segs (piece.now ∷ [])))
