-- The kid under a name, from the path that was made.
use Rattle.std.proofs.Common.{◌≡◌, ◌≢◌, ℕ, List, Result, Ok, Err, IfOk, IfErr, refl, ap}
use Rattle.std.specs.Prelude.{option_map, option_and_then}
use Rattle.sp_base.specs.declared.path.PathFault.{PathFault}
use Rattle.sp_base.specs.declared.path.PathFault.TheVariants.{NoMemory}
use Rattle.resource_tree.specs.Seen.{Seen}
use Rattle.get_servlet.specs.Rendering.{make_kid, kid_seen}
use Rattle.std.specs.Result.{result_ok}

-- a path that is made, unless memory lacks, is the path that there is
pub made_is : (made there : Result (List (List ℕ)) PathFault) → IfOk made (λ p. there ≡ Ok p) → IfErr made (λ e. e ≢ NoMemory → there ≡ Err e) → made ≢ Err NoMemory
    → result_ok there ≡ result_ok made
made_is (Ok p) there ok err told = ap result_ok ok
made_is (Err e) there ok err told = ap result_ok (err (λ is. told (ap Err is)))

pub kid_is : (seen : Seen) (there : Result (List (List ℕ)) PathFault) → kid_seen seen there ≡ option_and_then (λ path. option_map (make_kid path) (seen path)) (result_ok there)
kid_is seen (Err fault) = refl
kid_is seen (Ok path) = refl
