use Rattle.std.proofs.Common.{◌≡◌, ◌<◌, ◌-◌, Some, None, map, take, lit<, subst, ap, ◌∙◌, arith}
use Rattle.std.proofs.lemmas.Str.Pattern.{strip_prefix_char}
use Rattle.sp_base.specs.Paths.{path_of, pieces}
use Rattle.url_split.specs.Walk.{IsFitEnd}
use Rattle.url_split.proofs.StartLemmas.{prefix_is, prefix_slash, prefix_within, none_fit, one_path, parents_of_none, parents_of_pieces}
use Rattle.url_split.proofs.start.first_pieces.Goals as goal

pub returns-in_default : goal.returns-in_default
returns-in_default c = parents_of_none c.args.text.now c.root.result (strip_prefix_char 47 c.args.text.now None c.in_default.ensures.cases (lit< tt))

pub returns-then-end-eq0 : goal.returns-then-end-eq0
returns-then-end-eq0 c =
    let text = c.args.text.now in
    let rest = c.in-Some.rest.now in
    let end = c.fit_end-end.result in
    let fit : IsFitEnd (pieces rest) end = subst (λ parts. IsFitEnd parts end) (ap (map (λ piece. piece.now)) c.deref.ensures.value ∙ c.in_ok-pieces.ensures) c.fit_end-end.ensures in
    parents_of_pieces text rest c.root-then-end-eq0.result end (strip_prefix_char 47 text (Some c.in-Some.rest) c.in-Some.ensures.cases (lit< tt)) fit (c.root-then-end-eq0.ensures ∙ none_fit (pieces rest) end fit c.if-end-eq0.true)
    c.a_path_and_its_text.ensures.valid

pub range-requires-clause-end_boundary : goal.range-requires-clause-end_boundary
range-requires-clause-end_boundary c =
    let text = c.args.text.now in
    let rest = c.in-Some.rest.now in
    let end = c.fit_end-end.result in
    let is = strip_prefix_char 47 text (Some c.in-Some.rest) c.in-Some.ensures.cases (lit< tt) in
    let fit : IsFitEnd (pieces rest) end = subst (λ parts. IsFitEnd parts end) (ap (map (λ piece. piece.now)) c.deref.ensures.value ∙ c.in_ok-pieces.ensures) c.fit_end-end.ensures in
    let some : 0 < end = omega (arith, c.if-end-eq0.false) in
    let law = c.the_prefixes_of_a_path.ensures in
    let spells = c.segments_and_their_spelling.ensures.spelled rest in (
      prefix_within text rest end is spells law.first fit some,
      λ less high. absurd (omega (arith, high, prefix_slash text rest end is spells law.slash fit some less)),
    )

pub spelled_path-requires : goal.spelled_path-requires
spelled_path-requires c =
    let text = c.args.text.now in
    let rest = c.in-Some.rest.now in
    let end = c.fit_end-end.result in
    let is = strip_prefix_char 47 text (Some c.in-Some.rest) c.in-Some.ensures.cases (lit< tt) in
    let fit : IsFitEnd (pieces rest) end = subst (λ parts. IsFitEnd parts end) (ap (map (λ piece. piece.now)) c.deref.ensures.value ∙ c.in_ok-pieces.ensures) c.fit_end-end.ensures in
    let some : 0 < end = omega (arith, c.if-end-eq0.false) in
    let zero_off : end - 0 ≡ end = omega arith in
    let leading : c.range.result.now ≡ take end text = c.range.ensures.value ∙ ap (λ n. take n text) zero_off in
    let whole = prefix_is text rest end is (c.segments_and_their_spelling.ensures.spelled rest) c.the_prefixes_of_a_path.ensures.first fit some in
    (take fit.many (pieces rest), ap path_of (leading ∙ whole) ∙ c.a_path_and_its_text.ensures.read (take fit.many (pieces rest)) fit.fit)

pub returns : goal.returns
returns c =
    let text = c.args.text.now in
    let rest = c.in-Some.rest.now in
    let end = c.fit_end-end.result in
    let is = strip_prefix_char 47 text (Some c.in-Some.rest) c.in-Some.ensures.cases (lit< tt) in
    let fit : IsFitEnd (pieces rest) end = subst (λ parts. IsFitEnd parts end) (ap (map (λ piece. piece.now)) c.deref.ensures.value ∙ c.in_ok-pieces.ensures) c.fit_end-end.ensures in
    let some : 0 < end = omega (arith, c.if-end-eq0.false) in
    let zero_off : end - 0 ≡ end = omega arith in
    let leading : c.range.result.now ≡ take end text = c.range.ensures.value ∙ ap (λ n. take n text) zero_off in
    let whole = prefix_is text rest end is (c.segments_and_their_spelling.ensures.spelled rest) c.the_prefixes_of_a_path.ensures.first fit some in
    let reads = ap path_of (leading ∙ whole) ∙ c.a_path_and_its_text.ensures.read (take fit.many (pieces rest)) fit.fit in
    let path = c.in_ok-spelled_path.field-0 in
    parents_of_pieces text rest path end is fit (one_path path (take fit.many (pieces rest)) (path_of c.range.result.now) c.in_ok-spelled_path.ensures reads) c.a_path_and_its_text.ensures.valid
