-- The path of a member, by its name.
use Rattle.std.proofs.Common.{◌≡◌, ℕ, List, ◌++◌, Ok}
use Rattle.sp_base.specs.Paths.{join_of}
use Rattle.sp_base.proofs.PathLemmas.{path_made_is}

pub join_of-is : (segs rest path : List (List ℕ)) → join_of segs rest ≡ Ok path → path ≡ segs ++ rest
join_of-is segs rest path is = path_made_is _ _ path is
