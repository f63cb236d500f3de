use lib.Utf8.{encode}
use Rattle.std.proofs.Common.{take, get_or, ◌-◌, ◌≡◌, ◌==◌, List, ℕ, Some, lit<, map, not, filter, length, vec_len, sym, ◌∙◌, ap, arith}
use Rattle.std.specs.List.{slice_split}
use Rattle.std.proofs.lemmas.Str.Pattern.{strip_prefix_char}
use Rattle.sp_base.specs.Bytes.{is_dot}
use Rattle.url_split.specs.Split.{selectors_of, extension_of, suffix_of, but_last, last_of}
use Rattle.url_split.proofs.SplitLemmas.{after_none, but_last-map, last-map, some_piece}
use Rattle.url_split.proofs.decompose.parts_after.Goals as goal

pub returns-in_default-clause-selectors : goal.returns-in_default-clause-selectors
unfolding encode
returns-in_default-clause-selectors c = c.new.ensures ∙ ap selectors_of (sym (after_none c.args.rest.now c.requires c.in_default.ensures.cases))

pub returns-in_default-clause-extension : goal.returns-in_default-clause-extension
unfolding encode
returns-in_default-clause-extension c = c.in_ok-of.ensures ∙ ap extension_of (sym (after_none c.args.rest.now c.requires c.in_default.ensures.cases))

pub returns-in_default-clause-suffix : goal.returns-in_default-clause-suffix
unfolding encode
returns-in_default-clause-suffix c = c.in_ok-of-2.ensures ∙ ap suffix_of (sym (after_none c.args.rest.now c.requires c.in_default.ensures.cases))

pub returns-clause-selectors : goal.returns-clause-selectors
returns-clause-selectors c =
    let dotted = strip_prefix_char 46 c.args.rest.now (Some c.in-Some.rest) c.in-Some.ensures.cases (lit< tt) in
    let full : List (List ℕ) → List (List ℕ) = λ pieces. filter (λ piece. not (length piece == 0)) pieces in
    let items = c.in_ok-pieces.pieces.items in
    let count : vec_len c.in_ok-pieces.pieces ≡ length items = omega (arith, c.in_ok-pieces.pieces.ok) in
    c.in_ok-full_pieces.ensures
    ∙ ap (λ refs. full (map (λ piece. piece.now) refs)) (c.deref.ensures.value ∙ c.pop.ensures.rest ∙ ap (λ n. take (n - 1) items) count)
    ∙ ap full (but_last-map (λ piece. piece.now) items ∙ ap but_last (c.in_ok-pieces.ensures ∙ ap (slice_split is_dot) c.cut_at_slash.ensures.prefix))
    ∙ ap selectors_of (sym dotted)

pub returns-clause-extension : goal.returns-clause-extension
returns-clause-extension c =
    let dotted = strip_prefix_char 46 c.args.rest.now (Some c.in-Some.rest) c.in-Some.ensures.cases (lit< tt) in
    let items = c.in_ok-pieces.pieces.items in
    let some = some_piece (λ piece. piece.now) items c.cut_at_slash.result.0.now c.in_ok-pieces.ensures in
    let count : vec_len c.in_ok-pieces.pieces ≡ length items = omega (arith, c.in_ok-pieces.pieces.ok) in
    let last = c.pop.ensures.value c.unwrap_or-extension.result (omega (arith, count, some)) in
    let same = rw last at c.unwrap_or-extension.ensures in
    c.in_ok-of-3.ensures ∙ ap (λ piece. piece.now) (same ∙ ap (λ n. get_or items (n - 1) c.unwrap_or-extension.result) count)
    ∙ last-map (λ piece. piece.now) items c.unwrap_or-extension.result some
    ∙ ap last_of (c.in_ok-pieces.ensures ∙ ap (slice_split is_dot) c.cut_at_slash.ensures.prefix) ∙ ap extension_of (sym dotted)
