use Rattle.std.proofs.Common.{inl, refl}
use Rattle.url_maps.specs.Turns.{IsMapped}
use Rattle.url_maps.proofs.laws.a_text_without_a_pair_is_mapped_to_itself.Goals as goal

pub returns : goal.returns
unfolding IsMapped
returns c = λ tree host port text none. inl (none, refl)
