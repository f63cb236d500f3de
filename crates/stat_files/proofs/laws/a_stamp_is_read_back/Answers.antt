use Rattle.std.proofs.Common.{Some, ◌∙◌, ap}
use Rattle.std.specs.Prelude.{option_map}
use Rattle.docroot_format.specs.Names.{stat_name}
use Rattle.docroot_format.specs.Texts.{stat_text}
use Rattle.stat_files.specs.Stamps.{stamp_in, stamp_or_greatest}
use Rattle.stat_files.proofs.laws.a_stamp_is_read_back.Goals as goal

pub returns : goal.returns
returns c = λ files folder stamp epoch count.
    ap (option_map stamp_in) (c.files_have_names.ensures.written files (stat_name folder) (stat_text stamp))
    ∙ ap (λ read. Some (stamp_or_greatest read)) (c.texts_are_read_back.ensures.stat stamp epoch count)
