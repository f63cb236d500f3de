use Rattle.std.proofs.Common.{None, sym, ◌∙◌, ap}
use Rattle.publisher.specs.SeenAlone.{answer_seen}
use Rattle.publisher.proofs.SeenAloneLemmas.{alone-shown, alone-unmerged, answer-as}
use Rattle.publisher.proofs.representations.default_answer_there.Goals as goal

pub returns-then-not-is_merged_path : goal.returns-then-not-is_merged_path
returns-then-not-is_merged_path c =
    let outside = sym c.is_merged_path.ensures ∙ c.if-not-is_merged_path.true in
    answer-as _ _ _ (sym (ap (answer_seen None c.args.tree.now c.args.parts.now) (alone-unmerged c.args.tree.now c.args.parts.now.path c.args.res.now outside c.requires))) c.default_answer.ensures

pub returns-then-shows_no_kid : goal.returns-then-shows_no_kid
returns-then-shows_no_kid c =
    answer-as _ _ _ (alone-shown c.args.tree.now c.args.parts.now c.args.res.now c.requires (sym c.shows_no_kid.ensures ∙ c.if-shows_no_kid.true)) c.default_answer-then-shows_no_kid.ensures
