-- A script's blocks as a relation between whole texts and trees, and the faults that stand in a text, beside the reading from left to right
-- (HTML Template Language specification 1.4, "Block Statements").
use Rattle.std.specs.Prelude.{◌⊎◌, ◌≡◌, ◌≤◌, ◌<◌, ℕ, zero, suc, ◌+◌, true, false, List, [], ◌∷◌, ◌++◌, length, Some, None, Ok, Err}
use Rattle.std.specs.List.{flat_map}
use Rattle.sp_base.specs.Texts.{Text}
use Rattle.htl_text.specs.declared.piece.TemplatePiece.{TemplatePiece}
use Rattle.htl_text.specs.declared.fault.TextFault.{TextFault}
use Rattle.htl_text.specs.declared.fault.TextFault.TheVariants as text_fault
use Rattle.htl_text.specs.Template.{template_of, template_at}
use Rattle.htl_blocks.specs.declared.fault.BlockFault.{BlockFault}
use Rattle.htl_blocks.specs.declared.fault.BlockFault.TheVariants as fault
use Rattle.htl_blocks.specs.declared.attribute.Attributes.{Attributes}
use Rattle.htl_blocks.specs.declared.block.Block.{Block}
use Rattle.htl_blocks.specs.declared.block.Block.TheVariants as block
use Rattle.htl_blocks.specs.Markup.{parts, is_ended, tag_name, has_no_content, closes}
use Rattle.htl_blocks.specs.Attributes.{is_block_tag, tag_attributes}
use Rattle.htl_blocks.specs.Reading.{told_at}
use Rattle.htl_blocks.specs.Laws.{HasNoBlock, Balanced, bytes_of}

-- the text that parts are together
abbrev pub whole_text : List Text → List ℕ
whole_text ps = flat_map (λ (p : List ℕ). p) ps

-- the first block tag of a text, with the parts before it and those after it
pub record FirstTag (t : List ℕ) : Type 0 where
  pub before : List Text
  pub tag : List ℕ
  pub rest : List Text
  pub split : parts t ≡ before ++ tag ∷ rest
  pub no_block : HasNoBlock before
  pub block : is_block_tag tag ≡ true

-- what follows a tag, as its content, its end tag and the parts after the element; an element without content has no end tag
pub data Closed (tag : List ℕ) : List Text → List Text → List ℕ → List Text → Type 0 where
  without_content : {after : List Text} → has_no_content tag ≡ true → Closed tag after [] [] after
  by_end_tag : {inner after : List Text} {end_tag : List ℕ} → has_no_content tag ≡ false → Balanced (tag_name tag) inner → closes (tag_name tag) end_tag ≡ true → Closed tag (inner ++ end_tag ∷ after) inner end_tag after

-- the element that a tag with its ">" begins, by the parts that follow the tag
pub record Element (tag : List ℕ) (rest : List Text) : Type 0 where
  pub inner : List Text
  pub end_tag : List ℕ
  pub after : List Text
  pub ended : is_ended tag ≡ true
  pub closed : Closed tag rest inner end_tag after

-- a text without a block tag: a template, or nothing where it is empty
pub data SpellsText : List ℕ → List Block → Type 0 where
  no_text : SpellsText [] []
  template : {c : ℕ} {t : List ℕ} {ps : List TemplatePiece} → template_of (c ∷ t) ≡ Ok ps → SpellsText (c ∷ t) (block.Text ps ∷ [])

-- the blocks that a text spells, where elements may nest so deep
pub data SpellsBlocks : ℕ → List ℕ → List Block → Type 0 where
  no_element : {levels : ℕ} {t : List ℕ} {bs : List Block} → HasNoBlock (parts t) → SpellsText t bs → SpellsBlocks levels t bs
  element : {levels : ℕ} {t kept : List ℕ} {words content more : List Block} {a : Attributes} {start : List TemplatePiece} (x : FirstTag t) (y : Element x.tag x.rest)
      → SpellsText (whole_text x.before) words
      → tag_attributes x.tag ≡ Some (a, kept)
      → template_of kept ≡ Ok start
      → SpellsBlocks levels (whole_text y.inner) content
      → SpellsBlocks (suc levels) (whole_text y.after) more
      → SpellsBlocks (suc levels) t (words ++ block.Element (record { attributes = a; start = start }) content y.end_tag ∷ more)

-- ---- faults

-- the faults that stand in a text, whichever is told, where elements may nest so deep; the text begins at a place of the whole
pub data FaultIn : ℕ → ℕ → List ℕ → BlockFault → Type 0 where
  of_text : {levels place : ℕ} {t : List ℕ} {f : TextFault} → HasNoBlock (parts t) → template_at place t ≡ Err f → FaultIn levels place t (fault.Text f)
  of_leading_text : {levels place : ℕ} {t : List ℕ} {f : TextFault} (x : FirstTag t) → template_at place (whole_text x.before) ≡ Err f → FaultIn levels place t (fault.Text f)
  open_tag : {levels place : ℕ} {t : List ℕ} (x : FirstTag t) → (Element x.tag x.rest → ⊥) → FaultIn levels place t (fault.OpenTag (place + bytes_of x.before))
  bad_block : {levels place : ℕ} {t : List ℕ} (x : FirstTag t) → tag_attributes x.tag ≡ None → FaultIn levels place t (fault.BadBlock (place + bytes_of x.before))
  too_deep : {place : ℕ} {t : List ℕ} (x : FirstTag t) → FaultIn zero place t (fault.TooDeep (place + bytes_of x.before))
  of_start_tag : {levels place : ℕ} {t kept : List ℕ} {a : Attributes} {f : TextFault} (x : FirstTag t) → tag_attributes x.tag ≡ Some (a, kept) → template_of kept ≡ Err f → FaultIn levels place t (fault.Text (told_at (place + bytes_of x.before) f))
  in_content : {levels place : ℕ} {t : List ℕ} {f : BlockFault} (x : FirstTag t) (y : Element x.tag x.rest) → FaultIn levels ((place + bytes_of x.before) + length x.tag) (whole_text y.inner) f → FaultIn (suc levels) place t f
  after_element : {levels place : ℕ} {t : List ℕ} {f : BlockFault} (x : FirstTag t) (y : Element x.tag x.rest) → FaultIn levels ((((place + bytes_of x.before) + length x.tag) + bytes_of y.inner) + length y.end_tag) (whole_text y.after) f → FaultIn levels place t f

-- the place of a template's fault
abbrev pub text_fault_place : TextFault → ℕ
text_fault_place (text_fault.Unclosed n) = n
text_fault_place (text_fault.BadExpr n) = n
text_fault_place text_fault.NoMemory = 0

-- the place of a fault
abbrev pub block_fault_place : BlockFault → ℕ
block_fault_place (fault.OpenTag n) = n
block_fault_place (fault.BadBlock n) = n
block_fault_place (fault.TooDeep n) = n
block_fault_place (fault.Text f) = text_fault_place f
block_fault_place fault.NoMemory = 0

-- the kinds of a template's fault, of which one text has one alone
abbrev pub text_fault_kind : TextFault → ℕ
text_fault_kind (text_fault.Unclosed n) = 3
text_fault_kind (text_fault.BadExpr n) = 4
text_fault_kind text_fault.NoMemory = 5

-- the kinds in the order in which those of one tag are told: OpenTag, BadBlock, TooDeep, Text
abbrev pub fault_kind : BlockFault → ℕ
fault_kind (fault.OpenTag n) = 0
fault_kind (fault.BadBlock n) = 1
fault_kind (fault.TooDeep n) = 2
fault_kind (fault.Text f) = text_fault_kind f
fault_kind fault.NoMemory = 6

-- a fault stands at an earlier place than another, or at the same place and no later in the order of kinds
abbrev pub ComesFirst : BlockFault → BlockFault → Type 0
ComesFirst f g = (block_fault_place f < block_fault_place g) ⊎ ((block_fault_place f ≡ block_fault_place g) × (fault_kind f ≤ fault_kind g))

-- the fault of a text that comes before all others in it
pub record IsFirstFault (levels : ℕ) (t : List ℕ) (f : BlockFault) : Type 0 where
  pub there : FaultIn levels 0 t f
  pub first : (g : BlockFault) → FaultIn levels 0 t g → ComesFirst f g
