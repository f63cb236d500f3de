use Rattle.std.proofs.Common.{◌∙◌, ◌+◌, ◌==◌, ap, sym}
use Rattle.std.proofs.lemmas.List.Splits.{length-slice_split}
use Rattle.sp_base.proofs.segments.count.Goals as goal

pub returns : goal.returns
returns c = ap (λ n. n + 1) c.slashes.ensures ∙ sym (length-slice_split (λ b. b == 47) c.args.text.now)
