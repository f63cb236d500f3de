use Rattle.std.proofs.Common.{◌≡◌, ◌++◌, rules}
use Rattle.std.specs.Prelude.{encode_utf8}
use Rattle.std.proofs.lemmas.Str.{chars_past_char}
use Rattle.regex_rules.proofs.chars.first_char.Goals as goal

pub returns-in-Some-clause-value : goal.returns-in-Some-clause-value
returns-in-Some-clause-value c =
    let parts : c.args.text.now ≡ encode_utf8 c.in-Some.c ++ c.as_str.result.now = search rules in
    chars_past_char c.args.text.now c.as_str.result.now c.in-Some.c c.utf8.text parts
