use Rattle.std.proofs.Common.{◌∙◌, ap, sym}
use Rattle.std.specs.List.{list_any}
use Rattle.http_front.specs.PathReading.{is_underscore}
use Rattle.http_front.proofs.LiteralPaths.{literal_path}
use Rattle.http_front.proofs.target.unmangled.Goals as goal

pub returns-else-has_underscore : goal.returns-else-has_underscore
returns-else-has_underscore c =
    sym (literal_path c.args.path (ap (list_any is_underscore) (sym c.spelling.ensures.spelled) ∙ sym c.has_underscore.ensures ∙ c.if-has_underscore.false))
