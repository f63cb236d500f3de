use Rattle.std.proofs.Common.{inl, refl}
use Rattle.cache_log.proofs.laws.what_is_kept_is_owed.Goals as goal

pub returns : goal.returns
returns c = λ farm under log flight key given may. inl (refl, refl, may.1.1)
