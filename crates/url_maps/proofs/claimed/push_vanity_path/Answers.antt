use Rattle.std.proofs.Common.{◌≡◌, ◌∙◌, true, false, ap, sym}
use Rattle.std.specs.Prelude.{◌||◌, is_some}
use Rattle.std.specs.List.{list_any}
use Rattle.std.specs.Str.{bytes_eq}
use Rattle.sp_base.specs.Paths.{path_in}
use Rattle.sp_base.proofs.BoolLemmas.{or_false}
use Rattle.url_maps.specs.VanityPaths.{with_slash}
use Rattle.url_maps.proofs.ClaimLemmas.{pushed_any}
use Rattle.url_maps.proofs.PathLemmas.{vanity_spelled, vanity_unspelled}
use Rattle.url_maps.proofs.claimed.push_vanity_path.Goals as goal

pub returns-then-not-branch : goal.returns-then-not-branch
returns-then-not-branch c = λ t.
    let whole = with_slash c.args.word.now in
    let bad : is_some (path_in whole) ≡ false = ap (λ t. is_some (path_in t)) (sym (c.text-2.ensures ∙ c.in_ok-text.ensures)) ∙ sym c.in_ok-reads.ensures ∙ c.if-not-branch.true in
    sym (ap (λ b. list_any (bytes_eq t) c.args.claimed.now || b) (vanity_unspelled whole t bad) ∙ or_false (list_any (bytes_eq t) c.args.claimed.now))

pub returns : goal.returns
returns c = λ t.
    let whole = with_slash c.args.word.now in
    let ok : is_some (path_in whole) ≡ true = ap (λ t. is_some (path_in t)) (sym (c.text-2.ensures ∙ c.in_ok-text.ensures)) ∙ sym c.in_ok-reads.ensures ∙ c.if-not-branch.false in
    ap (list_any (bytes_eq t)) c.in_ok-push.ensures.ok ∙ pushed_any t c.args.claimed.now c.in_ok-text.text
    ∙ ap (λ b. list_any (bytes_eq t) c.args.claimed.now || b) (ap (bytes_eq t) c.in_ok-text.ensures ∙ sym (vanity_spelled whole t ok))
