use Rattle.replay_text.proofs.Texts.{visible_is_text}
use Rattle.replay_text.proofs.targets.visible_text.Goals as goal

pub unreachable-requires : goal.unreachable-requires
unreachable-requires c = absurd (c.in-Err.ensures.cases.0 (visible_is_text c.args.bytes.now c.requires))
