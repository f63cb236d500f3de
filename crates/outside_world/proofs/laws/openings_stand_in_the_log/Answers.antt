use Rattle.outside_world.proofs.Opened.{has_opening, is_connected-from_opening}
use Rattle.outside_world.proofs.laws.openings_stand_in_the_log.Goals as goal

pub returns : goal.returns
returns c log conn = (has_opening log conn, is_connected-from_opening log conn)
