use lib.Utf8.{encode}
use Rattle.std.proofs.Common.{◌∙◌}
use Rattle.sp_base.proofs.TypedLemmas.{number_is, not_plus}
use Rattle.sp_base.proofs.typed.number.Goals as goal

pub returns : goal.returns
unfolding encode
returns c = c.ok.ensures.value ∙ number_is c.args.word.now c.parse.result c.parse.ensures.value.0 (not_plus c.args.word.now c.if-starts_with.ensures.cases)
