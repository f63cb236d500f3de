use Rattle.std.proofs.Common.{ap, sym, ◌∙◌, subst, take, IsUtf8, ℕ}
use Rattle.any_config.proofs.TokenLemmas.{name_utf8}
use Rattle.any_config.proofs.tokens.name.Goals as goal

pub text_of-requires : goal.text_of-requires
text_of-requires c = subst IsUtf8 (sym (c.split_at.ensures.front ∙ ap (λ (n : ℕ). take n c.tail-remainder.result.now) c.run_len-len.ensures.value)) (name_utf8 c.tail-remainder.result.now)
