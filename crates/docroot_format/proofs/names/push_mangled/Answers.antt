use Rattle.std.proofs.Common.{string_bytes}
use Rattle.sp_base.specs.Paths.{mangled_seg}
use Rattle.docroot_format.proofs.NameRoom.{mangled_whole}
use Rattle.docroot_format.proofs.names.push_mangled.Goals as goal

pub returns : goal.returns
returns c = mangled_whole (string_bytes c.args.name.now) (string_bytes c.push_segment.new.name) (string_bytes c.push_piece.new.name) c.mangled_parts.result.0.now c.mangled_parts.result.1.now
    (mangled_seg c.args.seg.now) c.mangled_parts.ensures c.in_ok-push_segment.ensures c.in_ok-push_piece.ensures
