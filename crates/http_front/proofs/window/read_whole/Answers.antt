use Rattle.std.proofs.Common.{◌∙◌, subst}
use Rattle.std.specs.Prelude.{IfOk}
use Rattle.http_front.specs.StreamBeginnings.{IsWindowStart}
use Rattle.http_front.proofs.window.read_whole.Goals as goal

pub returns-in_ok-all-in-Crowded : goal.returns-in_ok-all-in-Crowded
returns-in_ok-all-in-Crowded c =
    let h = c.as_mut_slice.ensures.len in let g = c.in_ok-all-in-Crowded.ensures.len in let k = c.read_window-in-Crowded.ensures in
    subst (λ room. IfOk c.read_window-in-Crowded.result (IsWindowStart c.args.bytes.now room)) (h ∙ g) k
