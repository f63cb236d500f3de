-- How the path of a target is read: what stands for itself, and the path together with its slash. Private functions and proofs alone
-- speak of this.
use Rattle.std.specs.Prelude.{◌==◌, ℕ, Bool, List, Option}
use Rattle.std.specs.Option.{option_map}
use Rattle.sp_base.specs.Texts.{Segments}
use Rattle.sp_base.specs.Paths.{path_in, unmangled_segs}
use Rattle.http_front.specs.Targets.{ends_in_slash, without_slash}

-- a `%` begins an escape
abbrev pub is_percent : ℕ → Bool
is_percent b = b == 37

-- a `_` begins each mark of mangling
abbrev pub is_underscore : ℕ → Bool
is_underscore b = b == 95

-- the path that a text spells, unmangled, and whether a slash at its end was dropped, where it spells one
abbrev pub path_and_slash : List ℕ → Option (Segments × Bool)
path_and_slash text = option_map (λ path. (unmangled_segs path, ends_in_slash text)) (path_in (without_slash text))
