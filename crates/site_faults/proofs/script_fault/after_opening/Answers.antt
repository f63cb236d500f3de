use Rattle.site_faults.proofs.Openings.{opening_boundary}
use Rattle.site_faults.proofs.script_fault.after_opening.Goals as goal

pub split_at-requires : goal.split_at-requires
split_at-requires c = opening_boundary c.args.text.now c.args.position c.utf8.text c.requires
