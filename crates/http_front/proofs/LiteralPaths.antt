-- Paths that stand for themselves, without an escape or a mark of mangling, and what a target says of its path.
use Rattle.std.proofs.Common.{◌≡◌, ◌∙◌, ℕ, Bool, true, false, cond, List, [], ◌∷◌, Option, Some, None, length, take, ap, sym, refl, arith}
use Rattle.std.specs.Prelude.{◌&&◌, nat_eq, nat_lt, codes, option_and_then}
use Rattle.std.specs.List.{list_any}
use Rattle.std.specs.Option.{option_map}
use Rattle.std.specs.Str.{is_utf8, IsUtf8}
use Rattle.std.specs.Cmp.Lexicographic.{pointwise}
use Rattle.std.proofs.lemmas.Bool.{or_parts, eqb-false}
use Rattle.std.proofs.lemmas.Bool.Decides.{nat_tests}
use Rattle.std.proofs.lemmas.List.Folds.{list_any-append}
use Rattle.percent_encoding.specs.Percent.{percent_decode}
use Rattle.percent_encoding.proofs.PercentLemmas.{percent_decode-nil, percent_decode_not_percent}
use Rattle.sp_base.specs.Paths.{path_in, is_mangled, unmangled_by, unmangled_seg, unmangled_segs}
use Rattle.sp_base.specs.PathTexts.{spelling_of}
use Rattle.http_front.specs.declared.target.Target.{Target}
use Rattle.http_front.specs.PathReading.{is_percent, is_underscore, path_and_slash}
use Rattle.http_front.specs.Targets.{path_bytes, ends_in_slash, without_slash, utf8_text, path_of_bytes, query_of, with_path, begins_with_slash, target_of}
use Rattle.http_front.proofs.TargetLemmas.{is_text, is_no_text}

-- bytes without a `%` stand for themselves
pub no_escape : (bytes : List ℕ) → list_any is_percent bytes ≡ false → percent_decode bytes ≡ bytes
no_escape [] e = percent_decode-nil
no_escape (b ∷ bytes) e =
    let parts = or_parts (is_percent b) (list_any is_percent bytes) e in
    percent_decode_not_percent b bytes (eqb-false b 37 parts.0) ∙ ap (λ rest. b ∷ rest) (no_escape bytes parts.1)

-- a mark that begins with an underscore begins no segment that begins otherwise
unmarked : (mark : List ℕ) (b : ℕ) (seg : List ℕ) → nat_eq 95 b ≡ false → is_mangled (95 ∷ mark) (b ∷ seg) ≡ false
unmarked mark b seg e = ap (λ t. (t && pointwise nat_eq mark (take (length mark) seg)) && nat_lt (length (95 ∷ mark)) (length (b ∷ seg))) e

literal_seg : (seg : List ℕ) → list_any is_underscore seg ≡ false → unmangled_seg seg ≡ seg
literal_seg [] e = refl
literal_seg (b ∷ seg) e =
    let parts = or_parts (is_underscore b) (list_any is_underscore seg) e in
    let first : nat_eq 95 b ≡ false = grind (arith, nat_tests) in
    ap (λ t. cond t (unmangled_by (codes "_jcr_") (codes "jcr:") (b ∷ seg))
    (cond (is_mangled (codes "_sling_") (b ∷ seg)) (unmangled_by (codes "_sling_") (codes "sling:") (b ∷ seg))
    (cond (is_mangled (codes "_nt_") (b ∷ seg)) (unmangled_by (codes "_nt_") (codes "nt:") (b ∷ seg))
    (cond (is_mangled (codes "_cq_") (b ∷ seg)) (unmangled_by (codes "_cq_") (codes "cq:") (b ∷ seg)) (b ∷ seg))))) (unmarked (codes "jcr_") b seg first)
    ∙ ap (λ t. cond t (unmangled_by (codes "_sling_") (codes "sling:") (b ∷ seg))
    (cond (is_mangled (codes "_nt_") (b ∷ seg)) (unmangled_by (codes "_nt_") (codes "nt:") (b ∷ seg))
    (cond (is_mangled (codes "_cq_") (b ∷ seg)) (unmangled_by (codes "_cq_") (codes "cq:") (b ∷ seg)) (b ∷ seg)))) (unmarked (codes "sling_") b seg first)
    ∙ ap (λ t. cond t (unmangled_by (codes "_nt_") (codes "nt:") (b ∷ seg))
    (cond (is_mangled (codes "_cq_") (b ∷ seg)) (unmangled_by (codes "_cq_") (codes "cq:") (b ∷ seg)) (b ∷ seg))) (unmarked (codes "nt_") b seg first)
    ∙ ap (λ t. cond t (unmangled_by (codes "_cq_") (codes "cq:") (b ∷ seg)) (b ∷ seg)) (unmarked (codes "cq_") b seg first)

-- a path without an underscore has no mark
pub literal_path : (segs : List (List ℕ)) → list_any is_underscore (spelling_of segs) ≡ false → unmangled_segs segs ≡ segs
literal_path [] e = refl
literal_path (seg ∷ segs) e =
    let parts = or_parts (list_any is_underscore (47 ∷ seg)) (list_any is_underscore (spelling_of segs)) (sym (list_any-append is_underscore (47 ∷ seg) (spelling_of segs)) ∙ e) in
    ap (λ s. s ∷ unmangled_segs segs) (literal_seg seg parts.0) ∙ ap (λ rest. seg ∷ rest) (literal_path segs parts.1)

-- a text says the path that its bytes spell, and bytes that are no text say none
pub text_says : (text bytes : List ℕ) → text ≡ bytes → IsUtf8 bytes → path_and_slash text ≡ option_and_then path_and_slash (utf8_text bytes)
text_says text bytes same h = ap path_and_slash same ∙ ap (option_and_then path_and_slash) (is_text bytes h)

pub no_text_says : (bytes : List ℕ) → (IsUtf8 bytes → ⊥) → None ≡ option_and_then path_and_slash (utf8_text bytes)
no_text_says bytes other = ap (option_and_then path_and_slash) (is_no_text bytes other)

-- a target with this path and slash, and a query
abbrev pub with_query : Option (List ℕ) → List (List ℕ) × Bool → Target
with_query query read = record { path = read.0; slash = read.1; query = query }

same_parts : (o : Option (List (List ℕ))) (slash : Bool) (query : Option (List ℕ)) → option_map (with_query query) (option_map (λ path. (unmangled_segs path, slash)) o) ≡ option_map (λ path. with_query query (unmangled_segs path, slash)) o
same_parts None slash query = refl
same_parts (Some path) slash query = refl

told : (b : Bool) (bytes : List ℕ) (query : Option (List ℕ)) → option_map (with_query query) (option_and_then path_and_slash (cond b (Some bytes) None)) ≡ option_map (λ path. with_query query (unmangled_segs path, ends_in_slash bytes)) (option_and_then (λ text. path_in (without_slash text)) (cond b (Some bytes) None))
told true bytes query = same_parts (path_in (without_slash bytes)) (ends_in_slash bytes) query
told false bytes query = refl

-- a target that begins with a slash says the path that its bytes spell
pub target_told : (target : List ℕ) → begins_with_slash target ≡ true → option_map (with_query (query_of target)) (option_and_then path_and_slash (utf8_text (path_bytes target))) ≡ target_of target
target_told target e =
    told (is_utf8 (path_bytes target)) (path_bytes target) (query_of target)
    ∙ ap (λ b. cond b (option_map (with_path target) (path_of_bytes (path_bytes target))) None) (sym e)
