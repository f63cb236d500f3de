use Rattle.std.proofs.Common.{◌∙◌, ap, sym}
use Rattle.url_maps.specs.Siblings.{is_aliased}
use Rattle.url_maps.proofs.NamedLemmas.{named_is, unnamed}
use Rattle.url_maps.proofs.named_kids.is_named_kid.Goals as goal

pub returns-in-Some : goal.returns-in-Some
returns-in-Some c = c.is_named.ensures ∙ ap is_aliased c.node.ensures ∙ named_is c.args.tree.now c.args.path.now c.args.name.now c.in-Some.kid (sym c.in_ok-kid.ensures ∙ c.in-Some.is)

pub returns-in-None : goal.returns-in-None
returns-in-None c = sym (unnamed c.args.tree.now c.args.path.now c.args.name.now (sym c.in_ok-kid.ensures ∙ c.in-None.is))
