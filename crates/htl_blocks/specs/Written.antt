-- What the blocks of a script write for a resource and variables (HTML Template Language specification 1.4, "Block Statements").
use Rattle.std.specs.Prelude.{ℕ, Bool, true, false, not, nat_lt, if◌then◌else◌, List, [], ◌∷◌, ◌++◌, length, Option, Some, None}
use Rattle.std.specs.List.{flat_map}
use Rattle.sp_base.specs.Limits.{most_rendered_bytes}
use Rattle.sp_base.specs.Texts.{Pairs, Text}
use Rattle.htl_expr.specs.Bindings.{Bindings, with_vars}
use Rattle.htl_expr.specs.declared.out.Out.{Out}
use Rattle.htl_expr.specs.declared.out.Out.TheVariants as out
use Rattle.htl_expr.specs.Value.{expr_value, is_true, list_in, unescaped_text}
use Rattle.htl_text.specs.declared.piece.TemplatePiece.{TemplatePiece}
use Rattle.htl_text.specs.declared.piece.TemplatePiece.TheVariants as piece
use Rattle.htl_text.specs.Template.{template_output}
use Rattle.htl_blocks.specs.declared.attribute.Body.{Body}
use Rattle.htl_blocks.specs.declared.attribute.Body.TheVariants as body
use Rattle.htl_blocks.specs.declared.attribute.Unwrap.{Unwrap}
use Rattle.htl_blocks.specs.declared.attribute.Unwrap.TheVariants as unwrap
use Rattle.htl_blocks.specs.declared.block.Tag.{Tag}
use Rattle.htl_blocks.specs.declared.block.Block.{Block, fold-Block}
use Rattle.htl_blocks.specs.declared.block.Block.TheOpen.{Block-F}
use Rattle.htl_blocks.specs.Parts.{Part, Round, Script, Resource, text_parts}

-- what a statement's value gives: its expression's value, or its text; the reading lets one piece through at most
abbrev pub statement_value : Bindings → List TemplatePiece → Out
statement_value scope [] = out.Text []
statement_value scope (piece.Plain t ∷ ps) = out.Text t
statement_value scope (piece.Value e ∷ ps) = expr_value scope e

-- the same as a text without escapes
abbrev pub statement_text : Bindings → List TemplatePiece → List ℕ
statement_text scope [] = []
statement_text scope (piece.Plain t ∷ ps) = t
statement_text scope (piece.Value e ∷ ps) = unescaped_text scope e

-- how many bytes the text of a path has at most: 64 segments of 200 bytes, each after a slash
abbrev pub longest_name : ℕ
longest_name = 12864

-- a text as the name of a script or a resource; one that is longer than any path is the empty name, which names nothing
abbrev pub name_in : List ℕ → List ℕ
name_in text = if nat_lt longest_name (length text) then [] else text

-- the name that a statement's value gives
abbrev pub statement_name : Bindings → List TemplatePiece → List ℕ
statement_name scope value = name_in (statement_text scope value)

-- a variable over the others
abbrev pub with_variable : Bindings → List ℕ → List ℕ → Bindings
with_variable scope name text = with_vars scope ((name, text) ∷ scope.vars)

-- whether an element stands: where it has a test, the value isn't false
abbrev pub passes : Bindings → Option (List TemplatePiece) → Bool
passes scope None = true
passes scope (Some test) = is_true (statement_value scope test)

-- whether an element's tags stand: unwrap without a value, or with one that isn't false, leaves them out
abbrev pub keeps_tags : Bindings → Option Unwrap → Bool
keeps_tags scope None = true
keeps_tags scope (Some unwrap.Always) = false
keeps_tags scope (Some (unwrap.Where value)) = not (is_true (statement_value scope value))

-- what stands in an element: its content, or in its place the printed value, the text of a script or the text of a resource
abbrev pub body_parts : Option Body → (Bindings → List Part) → Bindings → List Part
body_parts None content scope = content scope
body_parts (Some (body.Text value)) content scope = text_parts (template_output scope value)
body_parts (Some (body.Include value)) content scope = Script (statement_name scope value) scope.vars ∷ []
body_parts (Some (body.Resource value)) content scope = Resource (statement_name scope value) ∷ []

-- the names and the texts of variables, one after another
abbrev pub text_of_vars : Pairs → List ℕ
text_of_vars vars = flat_map (λ var. var.0 ++ var.1) vars

-- What stands in a setting with these variables. Where they have together more bytes than a text may have, they themselves stand there: so the
-- text is too long, and nobody sees them.
abbrev pub within_room : (Bindings → List Part) → Bindings → List Part
within_room inside scope = if nat_lt most_rendered_bytes (length (text_of_vars scope.vars)) then text_parts (text_of_vars scope.vars) else inside scope

-- what stands in an element for one item of its list, which is a variable
abbrev pub round_parts : List ℕ → (Bindings → List Part) → Bindings → List ℕ → List Part
round_parts name inside scope item = Round ∷ within_room inside (with_variable scope name item)

-- what stands in an element once for each item; without items the element is nothing
abbrev pub repeated : List ℕ → (Bindings → List Part) → Bindings → Option (List Text) → Option (List Part)
repeated name inside scope None = None
repeated name inside scope (Some []) = None
repeated name inside scope (Some (item ∷ items)) = Some (flat_map (round_parts name inside scope) (item ∷ items))

-- the same, where the element has a list; else it stands once
abbrev pub listed : Option (List ℕ × List TemplatePiece) → (Bindings → List Part) → Bindings → Option (List Part)
listed None inside scope = Some (inside scope)
listed (Some list) inside scope = repeated list.0 inside scope (list_in (statement_value scope list.1))

-- a tag, where the tags stand
abbrev pub tag_parts : Bool → List ℕ → List Part
tag_parts keeps t = if keeps then text_parts t else []

-- what stands in an element between its tags; of the start tag what is left of it without statements
abbrev pub between_tags : Tag → List ℕ → Bindings → Option (List Part) → List Part
between_tags tag end_tag scope None = []
between_tags tag end_tag scope (Some inside) = tag_parts (keeps_tags scope tag.attributes.unwrap) (template_output scope tag.start) ++ (inside ++ tag_parts (keeps_tags scope tag.attributes.unwrap) end_tag)

-- an element with its start tag, its content and its end tag: test, list, text, include, resource and unwrap in this order
abbrev pub element_parts : Tag → (Bindings → List Part) → List ℕ → Bindings → List Part
element_parts tag content end_tag scope =
    if passes scope tag.attributes.test then between_tags tag end_tag scope (listed tag.attributes.list (body_parts tag.attributes.body content) scope) else []

-- one after another
abbrev pub all_parts : List (Bindings → List Part) → Bindings → List Part
all_parts each scope = flat_map (λ parts. parts scope) each

-- a block, with what the blocks in it write
abbrev pub block_step : Block-F (Bindings → List Part) → Bindings → List Part
block_step (Block-F.Text pieces) = λ scope. text_parts (template_output scope pieces)
block_step (Block-F.Element tag content end_tag) = element_parts tag (all_parts content) end_tag

-- what a block writes
abbrev pub block_parts : Block → Bindings → List Part
block_parts = fold-Block (Bindings → List Part) block_step

-- what blocks write, one after another
abbrev pub blocks_parts : Bindings → List Block → List Part
blocks_parts scope blocks = flat_map (λ block. block_parts block scope) blocks
