use Rattle.std.proofs.Common.{refl}
use Rattle.serde_json.proofs.Views.{view-lookup}
use Rattle.content_json.proofs.names.is_kid.Goals as goal

pub returns-in-Some : goal.returns-in-Some
returns-in-Some c = rw (← view-lookup c.args.name.now c.args.members.now.entries, ← c.in-Some.ensures.value) c.is_object.ensures

pub returns-in-None : goal.returns-in-None
returns-in-None c = rw (← view-lookup c.args.name.now c.args.members.now.entries, ← c.in-None.ensures.value) refl
