-- What is noted: of a page's key its head or that there is none, and maybe its body; of a folder its stamp or that there is none.
use Rattle.std.specs.Prelude.{◌+◌, ℕ, Option, length, option_and_then, option_map}
use Rattle.std.specs.Map.{lookup}
use Rattle.std.specs.Option.{option_or}
use Rattle.sp_base.specs.Texts.{Segments}
use Rattle.cover_rules.specs.declared.page.PageKey.{PageKey}
use Rattle.cover_rules.specs.declared.stamp.Stamp.{Stamp}
use Rattle.cache_files.specs.Pages.{page_under}
use Rattle.cache_files.specs.declared.head_note.HeadNote.{HeadNote}
use Rattle.cache_files.specs.declared.page.Page.{Page}
use Rattle.page_index.specs.Held.{HeldStamps, bytes_kept, held_note, place_of_key, same_folder}
use Rattle.page_index.specs.declared.index.PageIndex.{PageIndex}
use Rattle.page_index.specs.declared.page_note.PageNote.{PageNote}

-- the note of a key's page: that of the younger generation, else that of the older one
abbrev pub page_noted : PageIndex → PageKey → Option PageNote
page_noted index key = option_or (held_note index.young (place_of_key key) key) (held_note index.older (place_of_key key) key)

-- what is noted of the head of a key's page: the head, or that there is none
abbrev pub head_noted : PageIndex → PageKey → Option (Option HeadNote)
head_noted index key = option_map (λ note. note.head) (page_noted index key)

-- the page that the head and the body of a note make
abbrev pub page_from : PageNote → Option Page
page_from note = option_and_then (λ head. option_and_then (page_under head) note.body) note.head

-- the page of a key, where both its head and its body are noted
abbrev pub known_page : PageIndex → PageKey → Option Page
known_page index key = option_and_then page_from (page_noted index key)

-- the stamp that is held for a folder
abbrev pub held_stamp : HeldStamps → Segments → Option (Option Stamp)
held_stamp held folder = option_or (lookup (same_folder folder) held.young) (lookup (same_folder folder) held.older)

-- what is noted of a folder's stamp: the stamp, or that there is none
abbrev pub stamp_noted : PageIndex → Segments → Option (Option Stamp)
stamp_noted index folder = held_stamp index.stamps folder

-- how many notes of pages there are
abbrev pub pages_noted : PageIndex → ℕ
pages_noted index = length index.young.notes + length index.older.notes

-- how many notes of stamps there are
abbrev pub stamps_noted : PageIndex → ℕ
stamps_noted index = length index.stamps.young + length index.stamps.older

-- how many bytes of bodies there are
abbrev pub bytes_noted : PageIndex → ℕ
bytes_noted index = bytes_kept index.young.notes + bytes_kept index.older.notes
