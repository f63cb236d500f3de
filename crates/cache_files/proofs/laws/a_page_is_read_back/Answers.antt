use Rattle.std.proofs.Common.{◌≡◌, Some, length, refl, ◌∙◌, ap, option_map}
use Rattle.std.specs.Prelude.{option_and_then}
use Rattle.sp_base.proofs.NatLemmas.{nat_eq_itself}
use Rattle.sp_outside.specs.Files.{file_at, with_file, without_file}
use Rattle.docroot_format.specs.Readings.{head_of}
use Rattle.cache_files.specs.Pages.{note_of, page_body_name, page_head_name, page_head_text, stored_page}
use Rattle.cache_files.proofs.PageFiles.{head_apart, head_from}
use Rattle.cache_files.proofs.laws.a_page_is_read_back.Goals as goal

pub returns : goal.returns
returns c = λ files key stamp answer put.
    let head = page_head_name key in
    let body = page_body_name key in
    let text = page_head_text stamp answer in
    let named = c.files_have_names.ensures in
    let before = with_file (without_file files head) body answer.body in
    let read = c.texts_are_read_back.ensures.head stamp (length answer.body) answer.kind put.epoch put.count put.size put.storable.kind in
    let found_head : file_at (with_file before head text) head ≡ Some text = named.written before head text in
    let found_body : file_at (with_file before head text) body ≡ Some answer.body =
    named.beside before head body text (head_apart body) ∙ named.written (without_file files head) body answer.body in
    record {
      page = ap (λ found. option_and_then (λ line. option_and_then (stored_page line) (file_at (with_file before head text) body)) (option_and_then head_of found)) found_head
          ∙ ap (option_and_then (λ line. option_and_then (stored_page line) (file_at (with_file before head text) body))) read
          ∙ ap (option_and_then (stored_page (record { stamp = stamp; size = length answer.body; kind = answer.kind }))) found_body
          ∙ rw (nat_eq_itself (length answer.body)) refl;
      head = ap head_from found_head ∙ ap (option_map note_of) read;
    }
