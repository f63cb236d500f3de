use Rattle.std.proofs.Common.{◌≡◌, map, string_bytes}
use Rattle.sp_base.specs.Paths.{mangled_segs}
use Rattle.docroot_format.specs.Names.{folder_name}
use Rattle.docroot_format.proofs.names.mangled_folder_name.Given as goal

abbrev pub invariant-loop-seg : goal.invariant-loop-seg
invariant-loop-seg l = string_bytes l.name ≡ folder_name (mangled_segs (map (λ seg. seg.now) l.yielded))
