use Rattle.std.proofs.Common.{sym, subst}
use Rattle.serde_json.specs.Data.{put}
use Rattle.content_json.specs.Parts.{AreMemberParts}
use Rattle.content_json.proofs.PartLemmas.{parts-insert}
use Rattle.content_json.proofs.open_object.OpenObject.put.Goals as goal

pub returns : goal.returns
returns c levels path d ms is held =
    subst (λ es. AreMemberParts levels path es (put c.args.name.now d ms)) (sym c.in_ok-insert.ensures.entries) (parts-insert levels path c.args.name c.args.part d c.args.self.now.members.entries ms is held)
