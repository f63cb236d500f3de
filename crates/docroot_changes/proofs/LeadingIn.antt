-- No call that the cache may make leads out of the folder of a disk.
use Rattle.std.proofs.Common.{◌≡◌, ◌-◌, ◌⊎◌, inl, inr, ⊎_elim, zero, suc, Bool, true, false, cond, not, ◌++◌, List, [], ◌∷◌, IsTrue, codes, length, map, refl, sym, ◌∙◌, ap, arith}
use Rattle.std.specs.Prelude.{Contains}
use Rattle.std.specs.List.{list_all}
use Rattle.std.proofs.lemmas.Bool.{and_from}
use Rattle.std.proofs.lemmas.List.{append-nil}
use Rattle.std.proofs.lemmas.List.Folds.{list_all-append, list_all-map}
use Rattle.sp_base.specs.Paths.{is_dots, is_empty, is_path, mangled_segs, name_of, parent_of}
use Rattle.sp_base.specs.Texts.{Segments, Text}
use Rattle.sp_base.proofs.BoolLemmas.{and_first, and_first_two, and_second}
use Rattle.sp_base.proofs.PathPrefixes.{parent_of_push}
use Rattle.sp_outside.specs.FileNames.{is_inner}
use Rattle.cover_rules.specs.Coverage.{handle_of, takes_below}
use Rattle.cover_rules.specs.Names.{file_name}
use Rattle.docroot_format.specs.Deletions.{rendering_prefixes}
use Rattle.docroot_format.specs.Names.{body_name, folder_name, is_file_name_byte}
use Rattle.docroot_format.proofs.Apart.{pieces_body}
use Rattle.docroot_format.proofs.Inside.{bytes_ok, is_segment, stat_inside}
use Rattle.docroot_format.proofs.NameLemmas.{append_both}
use Rattle.docroot_format.proofs.PagePlaces.{all_taken}
use Rattle.docroot_changes.specs.DocrootCalls.{IsListedPrefix, leads_in}

-- ---- pieces

segment_inner : (piece : Text) → is_segment piece ≡ true → is_inner piece ≡ true
segment_inner piece ok = and_first_two (not (is_empty piece)) (not (is_dots piece)) (list_all is_file_name_byte piece) ok

-- the segment has a file name that leads into a folder
abbrev is_entered : Text → Bool
is_entered seg = is_segment (file_name seg)

inner_names : (segs : Segments) → list_all is_entered segs ≡ true → list_all is_inner (map file_name segs) ≡ true
inner_names [] ok = refl
inner_names (seg ∷ segs) ok = and_from (is_inner (file_name seg)) (list_all is_inner (map file_name segs)) (segment_inner (file_name seg) (and_first (is_entered seg) (list_all is_entered segs) ok)) (inner_names segs (and_second (is_entered seg) (list_all is_entered segs) ok))

-- a beginning of names that ends after a folder's, with a piece of bytes that names have
folder_leads : (folder : Segments) (last : Text) → list_all is_file_name_byte last ≡ true → list_all is_entered folder ≡ true → leads_in (folder_name folder ++ last) ≡ true
folder_leads folder last bytes ok =
    ap (λ (parts : List Text). list_all is_inner (parent_of parts)) (pieces_body folder last bytes) ∙ ap (list_all is_inner) (parent_of_push (map file_name folder) last) ∙ inner_names folder ok

-- each segment of a path, mangled, is such a one
path_entered : (path : Segments) → IsTrue (is_path path) → list_all is_entered (mangled_segs path) ≡ true
path_entered path ok =
    let all = sym (ap (list_all is_segment) (pieces_body (mangled_segs path) (codes ".stat") refl)) ∙ stat_inside path ok in
    sym (list_all-map is_segment file_name (mangled_segs path))
    ∙ and_first (list_all is_segment (map file_name (mangled_segs path))) (list_all is_segment (codes ".stat" ∷ [])) (sym (list_all-append is_segment (map file_name (mangled_segs path)) (codes ".stat" ∷ [])) ∙ all)

content_entered : is_entered (codes "_jcr_content") ≡ true
unfolding file_name
content_entered = refl

deleted_entered : (below : Bool) (handle : Segments) → list_all is_entered handle ≡ true → list_all is_entered (cond below handle (handle ++ codes "_jcr_content" ∷ [])) ≡ true
deleted_entered true handle ok = ok
deleted_entered false handle ok =
    list_all-append is_entered handle (codes "_jcr_content" ∷ [])
    ∙ and_from (list_all is_entered handle) (list_all is_entered (codes "_jcr_content" ∷ [])) ok (and_from (is_entered (codes "_jcr_content")) true content_entered refl)

-- ---- what names begin with that an invalidation deletes

below_leads : (below : Bool) (handle : Segments) → list_all is_entered handle ≡ true → leads_in (folder_name (cond below handle (handle ++ codes "_jcr_content" ∷ []))) ≡ true
below_leads below handle ok =
    let folder = cond below handle (handle ++ codes "_jcr_content" ∷ []) in
    ap leads_in (sym (append-nil (folder_name folder))) ∙ folder_leads folder [] refl (deleted_entered below handle ok)

rendering_leads : (handle : Segments) → list_all is_entered handle ≡ true → leads_in (body_name (parent_of handle) (name_of handle) ++ codes ".") ≡ true
rendering_leads handle ok =
    let name = file_name (name_of handle) in
    ap leads_in (sym (append_both (folder_name (parent_of handle)) name (codes ".")))
    ∙ folder_leads (parent_of handle) (name ++ codes ".")
    (list_all-append is_file_name_byte name (codes ".") ∙ and_from (list_all is_file_name_byte name) true (bytes_ok (name_of handle)) refl)
    (all_taken is_entered handle (length handle - 1) ok)

one_of : (x prefix : Text) → Contains (x ∷ []) prefix → x ≡ prefix
one_of x prefix (zero, lt, e) = e
one_of x prefix (suc n, lt, e) = absurd (omega (arith, lt))

two_of : (x y prefix : Text) → Contains (x ∷ y ∷ []) prefix → (x ≡ prefix) ⊎ (y ≡ prefix)
two_of x y prefix (zero, lt, e) = inl e
two_of x y prefix (suc zero, lt, e) = inr e
two_of x y prefix (suc (suc n), lt, e) = absurd (omega (arith, lt))

all_lead : (below : Bool) (handle : Segments) (prefix : Text) → list_all is_entered handle ≡ true → Contains (rendering_prefixes handle ++ folder_name (cond below handle (handle ++ codes "_jcr_content" ∷ [])) ∷ []) prefix → leads_in prefix ≡ true
all_lead below [] prefix ok has = ap leads_in (sym (one_of _ prefix has)) ∙ below_leads below [] ok
all_lead below (seg ∷ segs) prefix ok has = ⊎_elim (λ e. ap leads_in (sym e) ∙ rendering_leads (seg ∷ segs) ok) (λ e. ap leads_in (sym e) ∙ below_leads below (seg ∷ segs) ok) (two_of _ _ prefix has)

pub listed_leads : (prefix : Text) → IsListedPrefix prefix → IsTrue (leads_in prefix)
listed_leads prefix listed = ⊎_elim (λ e. ap leads_in e)
    (λ w. all_lead (takes_below w.0.action) (handle_of w.0) prefix (path_entered w.0.handle w.1.0) w.1.1) listed
