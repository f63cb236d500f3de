-- A script read as blocks, from left to right (HTML Template Language specification 1.4, "Block Statements"). `start_fault` is needed by a private function alone.
use Rattle.std.specs.Prelude.{ℕ, zero, suc, ◌+◌, ◌-◌, ◌==◌, if◌then◌else◌, List, [], ◌∷◌, ◌++◌, length, take, drop, Option, Some, None, Result, Ok, Err}
use Rattle.sp_base.specs.Texts.{Text}
use Rattle.htl_text.specs.declared.piece.TemplatePiece.{TemplatePiece}
use Rattle.htl_text.specs.declared.fault.TextFault.{TextFault}
use Rattle.htl_text.specs.declared.fault.TextFault.TheVariants as text
use Rattle.htl_text.specs.Template.{template_of, template_at}
use Rattle.htl_blocks.specs.declared.fault.BlockFault.{BlockFault}
use Rattle.htl_blocks.specs.declared.fault.BlockFault.TheVariants as fault
use Rattle.htl_blocks.specs.declared.attribute.Attributes.{Attributes}
use Rattle.htl_blocks.specs.declared.block.Tag.{Tag}
use Rattle.htl_blocks.specs.declared.block.Block.{Block}
use Rattle.htl_blocks.specs.declared.block.Block.TheVariants as block
use Rattle.htl_blocks.specs.ElementText.{ElementText}
use Rattle.htl_blocks.specs.Markup.{is_ended, tag_len, tag_name, has_no_content, part_len, parts, inside_len}
use Rattle.htl_blocks.specs.Attributes.{is_block_tag, tag_attributes}

-- how deep blocks may nest
abbrev pub most_nested_blocks : ℕ
most_nested_blocks = 32

infixl 10 ◌then◌
-- a step, and the next one with what the first gave
abbrev pub ◌then◌ : {A B : Type 0} → Result A BlockFault → (A → Result B BlockFault) → Result B BlockFault
(Ok x) then f = f x
(Err e) then f = Err e

-- how many bytes stand before the first block tag
unfoldable pub text_run_len : List Text → ℕ
text_run_len [] = 0
text_run_len (part ∷ more) = if is_block_tag part then 0 else length part + text_run_len more

-- the text before the first block tag
unfoldable pub run_of : List ℕ → List ℕ
run_of t = take (text_run_len (parts t)) t

-- the text from the first block tag on
unfoldable pub after_text_run : List ℕ → List ℕ
after_text_run t = drop (text_run_len (parts t)) t

-- a template's fault, told at this place
abbrev pub told_at : ℕ → TextFault → TextFault
told_at place (text.Unclosed n) = text.Unclosed place
told_at place (text.BadExpr n) = text.BadExpr place
told_at place text.NoMemory = text.NoMemory

-- a text that was read as a template
abbrev pub text_block : Result (List TemplatePiece) TextFault → Result (List Block) BlockFault
text_block (Ok ps) = Ok (block.Text ps ∷ [])
text_block (Err f) = Err (fault.Text f)

-- the text between block elements, which begins at a place of the whole; an empty one is none
unfoldable pub run_blocks : ℕ → List ℕ → Result (List Block) BlockFault
run_blocks place [] = Ok []
run_blocks place (c ∷ t) = text_block (template_at place (c ∷ t))

-- blocks after others
abbrev pub with_blocks : List Block → Result (List Block) BlockFault → Result (List Block) BlockFault
with_blocks found (Ok more) = Ok (found ++ more)
with_blocks found (Err f) = Err f

-- the parts of an element whose content has this many bytes
abbrev pub cut_at : ℕ → List ℕ → List ℕ → Option ℕ → Result ElementText BlockFault
cut_at place tag r None = Err (fault.OpenTag place)
cut_at place tag r (Some n) = Ok (record { tag = tag; inside = take n r; end_tag = take (part_len (drop n r)) (drop n r); rest = drop (part_len (drop n r)) (drop n r) })

-- the parts of an element with this tag, before this rest
abbrev pub cut_after : ℕ → List ℕ → List ℕ → Result ElementText BlockFault
cut_after place tag r = if has_no_content tag then Ok (record { tag = tag; inside = []; end_tag = []; rest = r }) else cut_at place tag r (inside_len (tag_name tag) 0 0 (parts r))

-- the parts of the element at the beginning: its tag, its content, its end tag, and what follows
unfoldable pub element_cut : ℕ → List ℕ → Result ElementText BlockFault
element_cut place t = if is_ended t then cut_after place (take (tag_len t) t) (drop (tag_len t) t) else Err (fault.OpenTag place)

-- the fault of a start tag's template, told at the tag
abbrev pub start_fault : ℕ → Result (List TemplatePiece) TextFault → Option BlockFault
start_fault place (Ok ps) = None
start_fault place (Err f) = Some (fault.Text (told_at place f))

-- an element's tag, where its template has a reading
abbrev pub start_tag : ℕ → Attributes → Result (List TemplatePiece) TextFault → Result Tag BlockFault
start_tag place a (Ok ps) = Ok (record { attributes = a; start = ps })
start_tag place a (Err f) = Err (fault.Text (told_at place f))

-- an element's tag: BadBlock, TooDeep and the template's fault in this order
abbrev pub known_tag : ℕ → ℕ → Option (Attributes × List ℕ) → Result Tag BlockFault
known_tag levels place None = Err (fault.BadBlock place)
known_tag levels place (Some x) = if levels == 0 then Err (fault.TooDeep place) else start_tag place x.0 (template_of x.1)

-- the tag of an element, where so many levels may nest
unfoldable pub tag_of : ℕ → ℕ → List ℕ → Result Tag BlockFault
tag_of levels place tag = known_tag levels place (tag_attributes tag)

-- The element at the beginning of a text that ends at a place of the whole, and what follows it. Its content is read by `inner`.
unfoldable pub element : ℕ → (ℕ → List ℕ → Result (List Block) BlockFault) → ℕ → List ℕ → Result (Block × List ℕ) BlockFault
element levels inner end t =
    element_cut (end - length t) t then λ cut.
    tag_of levels (end - length t) cut.tag then λ tag.
    inner ((end - length cut.rest) - length cut.end_tag) cut.inside then λ content.
    Ok (block.Element tag content cut.end_tag, cut.rest)

-- on with an element, where there is one
abbrev pub to_element : (List ℕ → Result (Block × List ℕ) BlockFault) → (List Block → List ℕ → Result (List Block) BlockFault) → List Block → List ℕ → Result (List Block) BlockFault
to_element one more found [] = Ok found
to_element one more found (c ∷ t) = one (c ∷ t) then λ x. more (found ++ x.0 ∷ []) x.1

-- The blocks of a text that ends at a place of the whole, after those that were found. Each turn takes a byte at least, so the count of bytes is enough.
unfoldable pub blocks_read : (List ℕ → Result (Block × List ℕ) BlockFault) → ℕ → ℕ → List Block → List ℕ → Result (List Block) BlockFault
blocks_read one end zero found t = Ok found
blocks_read one end (suc turns) found t =
    with_blocks found (run_blocks (end - length t) (run_of t)) then λ found_too.
    to_element one (blocks_read one end turns) found_too (after_text_run t)

-- What is read inside an element where so many levels may nest, its own among them. Where none may, the element is too deep, and nothing inside it is read.
unfoldable pub content_within : ℕ → ℕ → List ℕ → Result (List Block) BlockFault
content_within zero end t = Ok []
content_within (suc levels) end t = blocks_read (element levels (content_within levels) end) end (length t) [] t

-- the blocks of a text that ends at a place of the whole, where so many levels may nest
abbrev pub blocks_within : ℕ → ℕ → List ℕ → Result (List Block) BlockFault
blocks_within levels end t = content_within (suc levels) end t

-- the element at the beginning of a text, where so many levels may nest
abbrev pub element_within : ℕ → ℕ → List ℕ → Result (Block × List ℕ) BlockFault
element_within levels end t = element levels (content_within levels) end t

-- what a script is read as: its blocks, or its first fault
abbrev pub blocks_of : List ℕ → Result (List Block) BlockFault
blocks_of t = blocks_within most_nested_blocks (length t) t
