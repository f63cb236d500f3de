use Rattle.std.proofs.Common.{◌≡◌, ◌∙◌, false, length, sym, arith}
use Rattle.std.proofs.lemmas.Bool.Decides.{nat_tests}
use Rattle.std.proofs.lemmas.Str.Pattern.{strip_suffix_char}
use Rattle.http_front.specs.Targets.{ends_in_slash}
use Rattle.http_front.proofs.TargetLemmas.{ends_otherwise, slash_alone, stays}
use Rattle.http_front.proofs.target.without_slash.Goals as goal
use Rattle.http_front.proofs.target.without_slash.Goals.{in_default-via-in-Some+else-not-is_empty, in_default-via-in_default}

kept : (c : goal.After-text-1) → ends_in_slash c.args.text.now ≡ false
kept c =
    let cut = strip_suffix_char 47 c.args.text.now c.strip_suffix.result c.strip_suffix.ensures.cases (omega arith) in
    elim c.in_default.branch [
      | in_default-via-in-Some+else-not-is_empty w ↦
          let empty = sym w.is_empty.ensures ∙ w.if-not-is_empty.false in
          let none : length w.in-Some.path.now ≡ 0 = grind (arith, nat_tests) in
          slash_alone c.args.text.now w.in-Some.path.now (rw w.in-Some.is at cut) none
      | in_default-via-in_default w ↦ ends_otherwise c.args.text.now (rw w.in_default.is at cut)
    ]

pub returns-in_default-clause-text : goal.returns-in_default-clause-text
returns-in_default-clause-text c = stays c.args.text.now (kept c)

pub returns-in_default-clause-slash : goal.returns-in_default-clause-slash
returns-in_default-clause-slash c = sym (kept c)
