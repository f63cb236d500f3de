-- What follows the first dot of a text.
use Rattle.std.proofs.Common.{◌≡◌, ◌+◌, ◌-◌, ℕ, zero, suc, Bool, List, [], ◌∷◌, length, drop, take, filter, arith, refl, sym, ap, ◌∙◌}
use Rattle.std.proofs.Math.Seq.{drop-nil}
use Rattle.std.specs.Prelude.{slice_get, unwrap_or, slice_index_or}
use Rattle.std.specs.List.{slice_split, before_first}
use Rattle.sp_base.specs.Bytes.{is_dot, is_slash, is_full, dotted_text}
use Rattle.url_split.specs.declared.decompose.Parts.{Parts}
use Rattle.url_split.specs.Split.{IsSplit, selectors_of, extension_of, suffix_of}
use Rattle.dispatch_rules.specs.UrlParts.{stem, after_dot}
use Rattle.sling_dispatch.specs.FilterParts.{SeesParts}

one_more : (n : ℕ) (text : List ℕ) → drop (n + 1) text ≡ drop 1 (drop n text)
one_more zero text = refl
one_more (suc n) [] = drop-nil (suc n + 1) ∙ sym (ap (drop 1) (drop-nil (suc n)))
one_more (suc n) (b ∷ text) =
    let e : suc n + 1 ≡ suc (n + 1) = omega arith in
    ap (λ k. drop k (b ∷ text)) e ∙ one_more n text

-- the parts of what follows a dot
abbrev ending_of : List ℕ → List (List ℕ)
ending_of rest = slice_split is_dot (before_first is_slash rest)

last_piece : (pieces : List (List ℕ)) (n : ℕ) → unwrap_or (slice_get pieces n) [] ≡ slice_index_or pieces n []
last_piece [] n = refl
last_piece (piece ∷ pieces) zero = refl
last_piece (piece ∷ pieces) (suc n) = last_piece pieces n

selectors_at : (rest : List ℕ) → drop 1 (dotted_text (filter is_full (take (length (ending_of (drop 1 rest)) - 1) (ending_of (drop 1 rest))))) ≡ drop 1 (dotted_text (selectors_of rest))
selectors_at [] = refl
selectors_at (dot ∷ rest) = refl

extension_at : (rest : List ℕ) → unwrap_or (slice_get (ending_of (drop 1 rest)) (length (ending_of (drop 1 rest)) - 1)) [] ≡ extension_of rest
extension_at [] = refl
extension_at (dot ∷ rest) = last_piece (ending_of rest) (length (ending_of rest) - 1)

suffix_at : (rest : List ℕ) → drop (length (before_first is_slash (drop 1 rest))) (drop 1 rest) ≡ suffix_of rest
suffix_at [] = refl
suffix_at (dot ∷ rest) = refl

pub sees : (known : List (List ℕ) → Bool) (text : List ℕ) (parts : Parts) (split : IsSplit known text parts) → split.at ≡ length (stem text) → SeesParts text parts
sees known text parts split at = record {
  selectors_are = ap (λ t. drop 1 (dotted_text (filter is_full (take (length (ending_of t) - 1) (ending_of t))))) after ∙ selectors_at rest ∙ ap (λ l. drop 1 (dotted_text l)) (sym (split.selectors ∙ ap (λ n. selectors_of (drop n text)) at));
  extension_is = ap (λ t. unwrap_or (slice_get (ending_of t) (length (ending_of t) - 1)) []) after ∙ extension_at rest ∙ sym (split.extension ∙ ap (λ n. extension_of (drop n text)) at);
  suffix_is = ap (λ t. drop (length (before_first is_slash t)) t) after ∙ suffix_at rest ∙ sym (split.suffix ∙ ap (λ n. suffix_of (drop n text)) at);
}
  where
    rest : List ℕ
    rest = drop (length (stem text)) text

    after : after_dot text ≡ drop 1 rest
    after = one_more (length (stem text)) text
