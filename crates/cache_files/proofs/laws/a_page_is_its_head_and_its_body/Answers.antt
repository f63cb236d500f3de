use Rattle.std.proofs.Common.{◌≡◌, Option, Some, None, List, ℕ, refl, option_map}
use Rattle.std.specs.Prelude.{option_and_then}
use Rattle.sp_outside.specs.Files.{file_at}
use Rattle.docroot_format.specs.Readings.{HeadLine, head_of}
use Rattle.cache_files.specs.Pages.{note_of, page_body_name, page_head_name, page_under, stored_page}
use Rattle.cache_files.proofs.laws.a_page_is_its_head_and_its_body.Goals as goal

by_head : (line : Option HeadLine) (body : Option (List ℕ))
    → option_and_then (λ head. option_and_then (stored_page head) body) line ≡ option_and_then (λ head. option_and_then (page_under head) body) (option_map note_of line)
by_head None body = refl
by_head (Some line) body = refl

pub returns : goal.returns
returns c = λ files key. by_head (option_and_then head_of (file_at files (page_head_name key))) (file_at files (page_body_name key))
