-- The attributes of a tag that are block statements (HTML Template Language specification 1.4, "Block Statements").
use Rattle.std.specs.Prelude.{ℕ, zero, suc, ◌+◌, Bool, true, false, not, nat_eq, ◌&&◌, ◌==◌, if◌then◌else◌, List, [], ◌∷◌, ◌++◌, length, take, drop, codes, Option, Some, None, is_none, Result, Ok, Err}
use Rattle.std.specs.List.{starts_with, list_all}
use Rattle.std.specs.Cmp.Lexicographic.{pointwise}
use Rattle.sp_base.specs.Bytes.{begins_with_byte}
use Rattle.htl_syntax.specs.Tokens.{begins, is_blank, is_quote, is_first, is_word_byte}
use Rattle.htl_text.specs.declared.piece.TemplatePiece.{TemplatePiece}
use Rattle.htl_text.specs.declared.fault.TextFault.{TextFault}
use Rattle.htl_text.specs.Template.{template_of}
use Rattle.htl_blocks.specs.declared.quoting.Quoting.{Quoting}
use Rattle.htl_blocks.specs.declared.quoting.Quoting.TheVariants.{Outside, Within}
use Rattle.htl_blocks.specs.declared.attribute.Attributes.{Attributes}
use Rattle.htl_blocks.specs.declared.attribute.Attribute.{Attribute}
use Rattle.htl_blocks.specs.declared.attribute.Attribute.TheVariants as attribute
use Rattle.htl_blocks.specs.declared.attribute.Body.TheVariants as body
use Rattle.htl_blocks.specs.declared.attribute.Unwrap.TheVariants as unwrap
use Rattle.htl_blocks.specs.declared.statement.Statement.{Statement}
use Rattle.htl_blocks.specs.declared.statement.Statement.TheVariants as statement
use Rattle.htl_blocks.specs.Markup.{begins_tag, markup_quoting_step, run_bytes}
use Rattle.htl_blocks.specs.declared.byte_run.ByteRun.TheVariants as run

-- what the names of block statements begin with
abbrev pub statement_prefix : List ℕ
statement_prefix = codes "data-sly-"

-- outside quotes, a blank and then the prefix begin a block statement
unfoldable pub begins_statement : Quoting → ℕ → List ℕ → Bool
begins_statement Outside c t = is_blank c && starts_with nat_eq t statement_prefix
begins_statement (Within mark) c t = false

-- the place of the blank before the first block statement of a tag, where this text begins at place n
unfoldable pub statement_place : Quoting → ℕ → List ℕ → Option ℕ
statement_place quoting n [] = None
statement_place quoting n (c ∷ t) = if begins_statement quoting c t then Some n else statement_place (markup_quoting_step quoting c) (n + 1) t

-- a part of a script that is a tag with a block statement
unfoldable pub is_block_tag : List ℕ → Bool
is_block_tag part = begins_tag part && not (is_none (statement_place Outside 0 part))

-- how many bytes an attribute's name has
abbrev pub key_len : List ℕ → ℕ
key_len t = run_bytes run.Key t

-- how many bytes stand before the next quote mark of this kind
abbrev pub quoted_len : ℕ → List ℕ → ℕ
quoted_len mark t = run_bytes (run.Quoted mark) t

-- a text without the blanks at its end
unfoldable pub end_trimmed : List ℕ → List ℕ
end_trimmed [] = []
end_trimmed (c ∷ t) = if is_blank c && length (end_trimmed t) == 0 then [] else c ∷ end_trimmed t

-- how many bytes stand before the blanks at the end
abbrev pub trimmed_len : List ℕ → ℕ
trimmed_len t = length (end_trimmed t)

-- the text of an attribute's value
pub data ValueText : Type 0 where
  none : ValueText
  unquoted : ValueText
  quoted : List ℕ → ValueText

-- the quote mark that begins a text
abbrev pub mark_at : List ℕ → Option ℕ
mark_at [] = None
mark_at (c ∷ t) = if is_quote c then Some c else None

-- the text between quote marks, of which the first was read, and what follows the second
abbrev pub quoted_at : ℕ → List ℕ → ValueText × List ℕ
quoted_at mark t = (quoted (take (quoted_len mark t) t), drop (quoted_len mark t + 1) t)

-- the value after its first quote mark, where there is one
abbrev pub value_at_mark : Option ℕ → List ℕ → ValueText × List ℕ
value_at_mark None t = (unquoted, t)
value_at_mark (Some mark) t = quoted_at mark (drop 1 t)

-- the value after "=", and what follows it
abbrev pub value_after : List ℕ → ValueText × List ℕ
value_after t = value_at_mark (mark_at t) t

-- a text without the blanks at its beginning
abbrev pub start_trimmed : List ℕ → List ℕ
start_trimmed t = drop (run_bytes run.Blanks t) t

-- the value after an attribute's name, and what follows it; blanks may stand before and after "="
unfoldable pub value_read : List ℕ → ValueText × List ℕ
value_read t = if begins_with_byte 61 (start_trimmed t) then value_after (start_trimmed (drop 1 (start_trimmed t))) else (none, t)

-- one piece at most
abbrev pub at_most_one : List TemplatePiece → Option (List TemplatePiece)
at_most_one [] = Some []
at_most_one (p ∷ []) = Some (p ∷ [])
at_most_one (p ∷ q ∷ ps) = None

-- the same of a template that may have no reading
abbrev pub one_piece : Result (List TemplatePiece) TextFault → Option (List TemplatePiece)
one_piece (Ok ps) = at_most_one ps
one_piece (Err f) = None

-- a value is one expression or plain text
abbrev pub value_of : List ℕ → Option (List TemplatePiece)
value_of v = one_piece (template_of v)

-- the names of variables: a letter or "_", then letters, digits and "_"
unfoldable pub is_variable : List ℕ → Bool
is_variable name = begins is_first name && list_all is_word_byte name

-- a list with the variable that has its items
abbrev pub list_statement : List ℕ → Option Statement
list_statement name = if is_variable name then Some (statement.List name) else None

-- the statement that an attribute's name stands for
unfoldable pub statement_of : List ℕ → Option Statement
statement_of name =
    if pointwise nat_eq name (codes "data-sly-test") then Some statement.Test
    else (if pointwise nat_eq name (codes "data-sly-text") then Some statement.Text
    else (if pointwise nat_eq name (codes "data-sly-unwrap") then Some statement.Unwrap
    else (if pointwise nat_eq name (codes "data-sly-include") then Some statement.Include
    else (if pointwise nat_eq name (codes "data-sly-resource") then Some statement.Resource
    else (if pointwise nat_eq name (codes "data-sly-list") then Some (statement.List (codes "item"))
    else (if starts_with nat_eq name (codes "data-sly-list.") then list_statement (drop 14 name) else None))))))

-- a statement with its value
abbrev pub attribute_with : Statement → List TemplatePiece → Attribute
attribute_with statement.Test v = attribute.Test v
attribute_with (statement.List name) v = attribute.List name v
attribute_with statement.Text v = attribute.Body (body.Text v)
attribute_with statement.Include v = attribute.Body (body.Include v)
attribute_with statement.Resource v = attribute.Body (body.Resource v)
attribute_with statement.Unwrap v = attribute.Unwrap (unwrap.Where v)

-- where its value has a reading
abbrev pub with_read_value : Statement → Option (List TemplatePiece) → Option Attribute
with_read_value s None = None
with_read_value s (Some v) = Some (attribute_with s v)

-- without a value, or with an empty one, only unwrap stands
abbrev pub attribute_without : Statement → Option Attribute
attribute_without statement.Unwrap = Some (attribute.Unwrap unwrap.Always)
attribute_without _ = None

-- whether a statement is unwrap
abbrev pub unwraps : Statement → Bool
unwraps statement.Unwrap = true
unwraps _ = false

-- a statement with a value in quotes; unwrap with an empty one has none
abbrev pub quoted_attribute : Statement → List ℕ → Option Attribute
quoted_attribute s v = if length v == 0 && unwraps s then Some (attribute.Unwrap unwrap.Always) else with_read_value s (value_of v)

-- a statement as an attribute
abbrev pub statement_attribute : Statement → ValueText → Option Attribute
statement_attribute s none = attribute_without s
statement_attribute s unquoted = None
statement_attribute s (quoted v) = quoted_attribute s v

-- a name and its value as an attribute
abbrev pub known_attribute : Option Statement → ValueText → Option Attribute
known_attribute None v = None
known_attribute (Some s) v = statement_attribute s v

-- the attribute of a block statement, where it is one: its name begins the text
unfoldable pub attribute_of : List ℕ → Option Attribute
attribute_of t = known_attribute (statement_of (take (key_len t) t)) (value_read (drop (key_len t) t)).0

-- no statement
abbrev pub no_attributes : Attributes
no_attributes = record { test = None; list = None; body = None; unwrap = None }

-- one statement more, where there is none like it: of text, include and resource one stands at most
abbrev pub with_attribute : Attributes → Attribute → Option Attributes
with_attribute a (attribute.Test v) = if is_none a.test then Some (record a { test = Some v }) else None
with_attribute a (attribute.List name v) = if is_none a.list then Some (record a { list = Some (name, v) }) else None
with_attribute a (attribute.Body b) = if is_none a.body then Some (record a { body = Some b }) else None
with_attribute a (attribute.Unwrap u) = if is_none a.unwrap then Some (record a { unwrap = Some u }) else None

-- the same of what may be no attribute
abbrev pub with_known : Attributes → Option Attribute → Option Attributes
with_known a None = None
with_known a (Some b) = with_attribute a b

-- the text after the attribute at the beginning
unfoldable pub after_attribute : List ℕ → List ℕ
after_attribute t = (value_read (drop (key_len t) t)).1

-- on with what was found, unless there is a fault
abbrev pub added : (Attributes → List ℕ → Option (Attributes × List ℕ)) → List ℕ → Option Attributes → Option (Attributes × List ℕ)
added more t None = None
added more t (Some found) = more found t

-- the text before the blanks at a place, and what follows the last of them
abbrev pub split_at_blank : List ℕ → Option ℕ → Option (List ℕ × List ℕ)
split_at_blank t None = None
split_at_blank t (Some n) = Some (end_trimmed (take n t), drop (n + 1) t)

-- the text of a tag before its next statement, and the statement with what follows it
unfoldable pub statement_split : List ℕ → Option (List ℕ × List ℕ)
statement_split t = split_at_blank t (statement_place Outside 0 t)

-- the next statement is added; where there is none, the rest of the text is kept
abbrev pub to_statement : (Attributes → List ℕ → List ℕ → Option (Attributes × List ℕ)) → Attributes → List ℕ → List ℕ → Option (List ℕ × List ℕ) → Option (Attributes × List ℕ)
to_statement more found kept t None = Some (found, kept ++ t)
to_statement more found kept t (Some x) = added (λ found_too rest. more found_too (kept ++ x.0) rest) (after_attribute x.1) (with_known found (attribute_of x.1))

-- A tag's statements, and its text without them and without the blanks directly before each; nothing, where one is no attribute.
-- Each turn takes a byte at least, so the count of bytes is enough.
unfoldable pub attributes_read : ℕ → Attributes → List ℕ → List ℕ → Option (Attributes × List ℕ)
attributes_read zero found kept t = Some (found, kept ++ t)
attributes_read (suc turns) found kept t = to_statement (attributes_read turns) found kept t (statement_split t)

-- what a tag says
abbrev pub tag_attributes : List ℕ → Option (Attributes × List ℕ)
tag_attributes tag = attributes_read (length tag) no_attributes [] tag
