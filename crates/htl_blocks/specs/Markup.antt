-- The tags of a script, its end tags, and the bytes between them (HTML Living Standard, 13.1.2 "Elements"). `parts_after` is needed by `parts` and proofs alone.
use Rattle.std.specs.Prelude.{ℕ, zero, suc, ◌+◌, ◌-◌, Bool, false, not, nat_le, ◌||◌, ◌&&◌, ◌==◌, if◌then◌else◌, List, [], ◌∷◌, length, take, drop, codes, slice_index, Option, Some, None, is_none, ◌≡◌, true}
use Rattle.std.specs.List.{position_or_len}
use Rattle.std.specs.Str.{str_eq_ignore_ascii_case}
use Rattle.sp_base.specs.Texts.{Text}
use Rattle.sp_base.specs.Bytes.{begins_with_byte, is_digit}
use Rattle.htl_syntax.specs.Tokens.{begins, is_letter, is_blank, is_quote}
use Rattle.htl_blocks.specs.declared.byte_run.ByteRun.{ByteRun}
use Rattle.htl_blocks.specs.declared.byte_run.ByteRun.TheVariants as run
use Rattle.htl_blocks.specs.declared.quoting.Quoting.{Quoting}
use Rattle.htl_blocks.specs.declared.quoting.Quoting.TheVariants.{Outside, Within}

-- a tag's name is of letters, digits and "-"
abbrev pub is_name_byte : ℕ → Bool
is_name_byte c = is_letter c || (is_digit c || c == 45)

-- a blank, a quote mark, "=", ">" or "/" ends the name of an attribute
abbrev pub ends_key : ℕ → Bool
ends_key c = is_blank c || (is_quote c || (c == 61 || (c == 62 || c == 47)))

-- the byte that ends a run: of a tag's name, of an attribute's name, of what stands in quotes, of blanks
abbrev pub ends_run : ByteRun → ℕ → Bool
ends_run run.Name c = not (is_name_byte c)
ends_run run.Key c = ends_key c
ends_run (run.Quoted mark) c = c == mark
ends_run run.Blanks c = not (is_blank c)

-- how many of the first bytes belong to a run
unfoldable pub run_bytes : ByteRun → List ℕ → ℕ
run_bytes kind t = position_or_len (ends_run kind) t

-- names are compared without case
abbrev pub same_name : List ℕ → List ℕ → Bool
same_name a b = str_eq_ignore_ascii_case a b

-- a tag begins: "<" and a letter
unfoldable pub begins_tag : List ℕ → Bool
begins_tag t = begins_with_byte 60 t && begins is_letter (drop 1 t)

-- where the next byte of a tag stands: a quote mark opens quotes, and the same mark closes them
abbrev pub markup_quoting_step : Quoting → ℕ → Quoting
markup_quoting_step Outside c = if is_quote c then Within c else Outside
markup_quoting_step (Within mark) c = if c == mark then Outside else Within mark

-- a ">" outside quotes ends a tag
abbrev pub ends_tag : Quoting → ℕ → Bool
ends_tag Outside c = c == 62
ends_tag (Within mark) c = false

-- the place of the first byte that ends a tag, where this text begins at place n
unfoldable pub tag_end : Quoting → ℕ → List ℕ → Option ℕ
tag_end quoting n [] = None
tag_end quoting n (c ∷ t) = if ends_tag quoting c then Some n else tag_end (markup_quoting_step quoting c) (n + 1) t

-- the bytes up to and with the ">" at a place; all of them, where there is none
abbrev pub ended_len : List ℕ → Option ℕ → ℕ
ended_len t None = length t
ended_len t (Some n) = n + 1

-- how many bytes the tag at the beginning of a text has; a tag without its ">" reaches to the end
unfoldable pub tag_len : List ℕ → ℕ
tag_len t = ended_len t (tag_end Outside 0 t)

-- the tag at the beginning has its ">"
unfoldable pub is_ended : List ℕ → Bool
is_ended t = not (is_none (tag_end Outside 0 t))

-- how many bytes at the beginning belong to a name
abbrev pub tag_name_len : List ℕ → ℕ
tag_name_len t = run_bytes run.Name t

-- the name that a tag has after its "<"
unfoldable pub tag_name : List ℕ → List ℕ
tag_name t = take (tag_name_len (drop 1 t)) (drop 1 t)

-- the name that an end tag has after its "</"
unfoldable pub end_tag_name : List ℕ → List ℕ
end_tag_name t = take (tag_name_len (drop 2 t)) (drop 2 t)

-- a name, and ">" right after it
abbrev pub ends_after_name : List ℕ → Bool
ends_after_name t = begins is_letter t && begins_with_byte 62 (drop (tag_name_len t) t)

-- an end tag stands at the beginning: "</", a name, and ">" right after it
unfoldable pub begins_end_tag : List ℕ → Bool
begins_end_tag t = begins_with_byte 60 t && (begins_with_byte 47 (drop 1 t) && ends_after_name (drop 2 t))

-- how many bytes the first part of a text has: a tag, an end tag, or one byte
unfoldable pub part_len : List ℕ → ℕ
part_len t = if begins_tag t then tag_len t else (if begins_end_tag t then tag_name_len (drop 2 t) + 3 else 1)

-- the parts of a text after the first `skip` bytes, which belong to the part before
unfoldable pub parts_after : ℕ → List ℕ → List Text
parts_after skip [] = []
parts_after (suc skip) (c ∷ t) = parts_after skip t
parts_after zero (c ∷ t) = take (part_len (c ∷ t)) (c ∷ t) ∷ parts_after (part_len (c ∷ t) - 1) t

-- a text as its tags and end tags, each as a whole, and the bytes between them, each alone
abbrev pub parts : List ℕ → List Text
parts t = parts_after 0 t

-- the elements that never have content
abbrev pub is_void : List ℕ → Bool
is_void name = same_name name (codes "area") || (same_name name (codes "br") || (same_name name (codes "hr") || (same_name name (codes "img") || (same_name name (codes "input") || (same_name name (codes "link") || same_name name (codes "meta"))))))

-- a tag that ends in "/>"
unfoldable pub is_self_closed : List ℕ → Bool
is_self_closed tag = nat_le 2 (length tag) && slice_index tag (length tag - 2) == 47

-- a tag whose element has no content, and so no end tag
abbrev pub has_no_content : List ℕ → Bool
has_no_content tag = is_void (tag_name tag) || is_self_closed tag

-- ---- the end tag that closes a tag

-- a tag of this name that waits for its end tag
unfoldable pub opens : List ℕ → List ℕ → Bool
opens name part = begins_tag part && (same_name (tag_name part) name && not (is_self_closed part))

-- an end tag of this name
unfoldable pub closes : List ℕ → List ℕ → Bool
closes name part = begins_end_tag part && same_name (end_tag_name part) name

-- how many tags of this name wait for their end tags after a part
abbrev pub waiting_after : List ℕ → ℕ → List ℕ → ℕ
waiting_after name waiting part = if closes name part then waiting - 1 else (if opens name part then waiting + 1 else waiting)

-- How many bytes stand before the end tag that closes an element of this name: the first that closes none of the tags of this name between.
-- So many of them are waiting, and n bytes are passed.
unfoldable pub inside_len : List ℕ → ℕ → ℕ → List Text → Option ℕ
inside_len name waiting n [] = None
inside_len name waiting n (part ∷ more) =
    if waiting == 0 && closes name part then Some n else inside_len name (waiting_after name waiting part) (n + length part) more

-- the tag at the beginning has its ">", and this is it, and that what comes after it
abbrev pub SplitsTag : List ℕ → List ℕ → List ℕ → Type 0
SplitsTag text tag rest = (is_ended text ≡ true) × (tag ≡ take (tag_len text) text) × (rest ≡ drop (tag_len text) text)
