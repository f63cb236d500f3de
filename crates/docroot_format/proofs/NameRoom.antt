-- Names grow piece by piece.
use Rattle.std.proofs.Common.{◌≡◌, ◌++◌, ◌∷◌, ℕ, List, [], map, flat_map, sym, ◌∙◌, ap}
use Rattle.std.specs.Borrow.{Bor}
use Rattle.std.proofs.lemmas.Grind.{flat_map-append}
use Rattle.std.proofs.lemmas.List.{append-nil, map-append}
use Rattle.sp_base.specs.Paths.{mangled_segs, mangled_seg}
use Rattle.cover_rules.specs.Names.{file_byte, file_name}
use Rattle.docroot_format.specs.Names.{folder_name}
use Rattle.docroot_format.proofs.NameLemmas.{append_both}

-- a mangled segment's file name is that of its two parts
both_parts : (mark rest seg : List ℕ) → mark ++ rest ≡ seg → file_name mark ++ file_name rest ≡ file_name seg
unfolding file_name
both_parts mark rest seg is = sym (flat_map-append file_byte mark rest) ∙ ap (flat_map file_byte) is

named_more : (segs : List (List ℕ)) (seg : List ℕ) → folder_name (segs ++ seg ∷ []) ≡ folder_name segs ++ (file_name seg ++ 47 ∷ [])
named_more segs seg = flat_map-append (λ s. file_name s ++ 47 ∷ []) segs (seg ∷ []) ∙ ap (λ rest. folder_name segs ++ rest) (append-nil (file_name seg ++ 47 ∷ []))

-- one segment more
pub folder_more : (seen : List (Bor (List ℕ))) (seg : Bor (List ℕ)) → folder_name (map (λ s. s.now) (seen ++ seg ∷ [])) ≡ folder_name (map (λ s. s.now) seen) ++ (file_name seg.now ++ 47 ∷ [])
folder_more seen seg =
    let before = map (λ (s : Bor (List ℕ)). s.now) seen in
    ap folder_name (map-append (λ (s : Bor (List ℕ)). s.now) seen (seg ∷ [])) ∙ named_more before seg.now

pub mangled_more : (seen : List (Bor (List ℕ))) (seg : Bor (List ℕ))
    → folder_name (mangled_segs (map (λ s. s.now) (seen ++ seg ∷ []))) ≡ folder_name (mangled_segs (map (λ s. s.now) seen)) ++ (file_name (mangled_seg seg.now) ++ 47 ∷ [])
mangled_more seen seg =
    let before = map (λ (s : Bor (List ℕ)). s.now) seen in
    ap (λ (l : List (List ℕ)). folder_name (mangled_segs l)) (map-append (λ (s : Bor (List ℕ)). s.now) seen (seg ∷ []))
    ∙ ap folder_name (map-append mangled_seg before (seg.now ∷ [])) ∙ named_more (mangled_segs before) (mangled_seg seg.now)

-- a name that grew by both parts of a mangled segment, and a slash
pub mangled_whole : (old mid new mark rest seg : List ℕ) → mark ++ rest ≡ seg → mid ≡ old ++ file_name mark → new ≡ mid ++ (file_name rest ++ 47 ∷ []) → new ≡ old ++ (file_name seg ++ 47 ∷ [])
mangled_whole old mid new mark rest seg is first second =
    second ∙ ap (λ (t : List ℕ). t ++ (file_name rest ++ 47 ∷ [])) first ∙ sym (append_both old (file_name mark) (file_name rest ++ 47 ∷ []))
    ∙ ap (λ (t : List ℕ). old ++ t) (append_both (file_name mark) (file_name rest) (47 ∷ []) ∙ ap (λ (t : List ℕ). t ++ 47 ∷ []) (both_parts mark rest seg is))
