use Rattle.std.proofs.Common.{ap, sym, ◌∙◌, subst, take, IsUtf8, ℕ}
use Rattle.any_config.proofs.TokenLemmas.{plain_utf8}
use Rattle.any_config.proofs.tokens.unquoted_word.Goals as goal

pub text_of-requires : goal.text_of-requires
text_of-requires c = subst IsUtf8 (sym (c.split_at.ensures.front ∙ ap (λ (n : ℕ). take n c.args.text.now) c.run_len-len.ensures.value)) (plain_utf8 c.args.text.now)
