use Rattle.std.proofs.Common.{ap, option_map}
use Rattle.std.specs.FinMap.{get-empty}
use Rattle.sp_base.specs.Names.{by_name}
use Rattle.docroot_format.specs.Names.{stat_name}
use Rattle.stat_files.specs.Stamps.{stamp_in}
use Rattle.stat_files.proofs.laws.empty_files_hold_no_stamp.Goals as goal

pub returns : goal.returns
returns c = λ folder. ap (option_map stamp_in) (get-empty by_name (stat_name folder))
