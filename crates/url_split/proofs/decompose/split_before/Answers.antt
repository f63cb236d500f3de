use Rattle.std.proofs.Common.{◌≡◌, ◌-◌, ◌<◌, Some, None, lit<, take, length, sym, ◌∙◌, ap, subst, arith, ℕ, List}
use Rattle.std.proofs.lemmas.List.{take-take, length-take}
use Rattle.std.proofs.lemmas.Str.Pattern.{rfind_char}
use Rattle.sp_base.proofs.TextLemmas.{prefix_fits}
use Rattle.url_split.specs.Split.{IsCut, selectors_of, extension_of, suffix_of}
use Rattle.url_split.specs.Walk.{IsReading}
use Rattle.url_split.proofs.SplitLemmas.{next_cut}
use Rattle.url_split.proofs.WalkLemmas.{passed_to, passed_dot, passed_all, split_here}
use Rattle.url_split.proofs.ValueLemmas.{split_value, lost_value}
use Rattle.url_split.proofs.decompose.split_before.Goals as goal

-- the prefix up to the dot
shorter : (text prefix short : List ℕ) (at : ℕ) → prefix ≡ take (length prefix) text → at < length prefix → short ≡ take (at - 0) prefix → (length short ≡ at) × (short ≡ take (length short) text)
shorter text prefix short at is less e =
    let zero_off : at - 0 ≡ at = omega arith in
    let cut : short ≡ take at prefix = e ∙ ap (λ n. take n prefix) zero_off in
    let size : length short ≡ at = omega (arith, ap length cut, length-take at prefix, less) in
    (size, cut ∙ ap (take at) is ∙ take-take at (length prefix) text (omega (arith, less)) ∙ ap (λ n. take n text) (sym size))

pub loop-at-preserved : goal.loop-at-preserved
loop-at-preserved g c =
    let known = g.K.Known.known c.args.known.now in
    let text = c.args.text.now in
    let prefix = c.loop-at.prefix.now in
    let inv = c.loop-at.invariant in
    let at = c.in-Some.at in
    let h = rfind_char 46 prefix (Some at) c.in-Some.ensures.cases (lit< tt) in
    let cut = shorter text prefix c.range-prefix.result.now at inv.prefix h.0 c.range-prefix.ensures.value in
    let none = subst (IsReading known c.range-prefix.result.now) c.in_default.is c.in_ok-path.ensures in
    let after = passed_to known text prefix at inv.prefix inv.passed h.2 in
    record {
      text = c.range-prefix.utf8;
      prefix = cut.1;
      passed = passed_dot known text c.range-prefix.result.now cut.1 none (λ k path less leads. after k path (omega (arith, cut.0, less)) leads);
    }

pub returns-in-Some-2-clause-some : goal.returns-in-Some-2-clause-some
returns-in-Some-2-clause-some g c =
    let known = g.K.Known.known c.args.known.now in
    let text = c.args.text.now in
    let prefix = c.loop-at.prefix.now in
    let inv = c.loop-at.invariant in
    let at = c.in-Some.at in
    let h = rfind_char 46 prefix (Some at) c.in-Some.ensures.cases (lit< tt) in
    let short = c.range-prefix.result.now in
    let cut = shorter text prefix short at inv.prefix h.0 c.range-prefix.ensures.value in
    let here = next_cut known text prefix at inv.prefix (prefix_fits text prefix inv.prefix) h.0 h.1 in
    let after = passed_to known text prefix at inv.prefix inv.passed h.2 in
    let parts = c.in_ok-parts_after in
    split_here known text short c.in-Some-2.path parts.field-0 cut.1 (subst (IsCut text) (sym cut.0) here) (λ k path less leads. after k path (omega (arith, cut.0, less)) leads)
    (subst (IsReading known short) c.in-Some-2.is c.in_ok-path.ensures) parts.ensures.path
    (parts.ensures.selectors ∙ ap selectors_of c.range_from.ensures.value)
    (parts.ensures.extension ∙ ap extension_of c.range_from.ensures.value)
    (parts.ensures.suffix ∙ ap suffix_of c.range_from.ensures.value)

pub returns-in-Some-2-clause-value : goal.returns-in-Some-2-clause-value
returns-in-Some-2-clause-value g c = split_value (g.K.Known.known c.args.known.now) c.args.text.now c.in_ok-parts_after.field-0 (returns-in-Some-2-clause-some g c)

pub returns-in-None-clause-none : goal.returns-in-None-clause-none
returns-in-None-clause-none g c =
    let inv = c.loop-at.invariant in
    passed_all (g.K.Known.known c.args.known.now) c.args.text.now c.loop-at.prefix.now inv.prefix inv.passed (rfind_char 46 c.loop-at.prefix.now None c.in-None.ensures.cases (lit< tt))

pub returns-in-None-clause-value : goal.returns-in-None-clause-value
returns-in-None-clause-value g c = lost_value (g.K.Known.known c.args.known.now) c.args.text.now (returns-in-None-clause-none g c)
