-- What an element writes, step by step: its start tag, what stands in it, and its end tag.
use Rattle.std.proofs.Common.{◌≡◌, ◌≢◌, Bool, true, false, ℕ, List, [], ◌∷◌, length, Option, Some, None, Result, refl, ap, sym, subst, ◌∙◌, arith}
use Rattle.std.specs.List.{flat_map}
use Rattle.htl_expr.specs.Bindings.{Bindings, with_vars}
use Rattle.htl_text.specs.declared.piece.TemplatePiece.{TemplatePiece}
use Rattle.htl_text.specs.Template.{template_output}
use Rattle.htl_blocks.specs.declared.block.Tag.{Tag}
use Rattle.htl_blocks.specs.declared.block.Block.{Block}
use Rattle.htl_blocks.specs.declared.block.Block.TheVariants.{Text, Element}
use Rattle.htl_blocks.specs.declared.run_fault.RunFault.{RunFault}
use Rattle.htl_blocks.specs.Parts.{Part, text_parts}
use Rattle.htl_blocks.specs.Sheets.{SheetText, with_parts, Stops, WroteParts}
use Rattle.htl_blocks.specs.Written.{between_tags, block_parts, blocks_parts, body_parts, element_parts, keeps_tags, listed, passes, repeated, round_parts, tag_parts}
use Rattle.htl_blocks.proofs.SheetLemmas.{with_none}
use Rattle.htl_blocks.proofs.ElementLemmas.{text_is, element_is, left_out}
use Rattle.htl_blocks.proofs.WrittenLemmas.{in_tags, start_stops, inside_stops}

-- ---- what stands for the items

pub repeated_some : (name : List ℕ) (inside : Bindings → List Part) (scope : Bindings) (items : List (List ℕ)) → length items ≢ 0 → repeated name inside scope (Some items) ≡ Some (flat_map (round_parts name inside scope) items)
repeated_some name inside scope [] h = absurd (h refl)
repeated_some name inside scope (x ∷ xs) h = refl

pub repeated_none : (name : List ℕ) (inside : Bindings → List Part) (scope : Bindings) (items : List (List ℕ)) → length items ≡ 0 → repeated name inside scope (Some items) ≡ None
repeated_none name inside scope [] h = refl
repeated_none name inside scope (x ∷ xs) h = absurd (omega (arith, h))

-- ---- between the tags

-- nothing stands between them
pub nothing_between : (s : SheetText) (tag : Tag) (end_tag : List ℕ) (scope : Bindings) (inside : Option (List Part)) → inside ≡ None → s ≡ with_parts s (between_tags tag end_tag scope inside)
nothing_between s tag end_tag scope inside none = sym (with_none s) ∙ ap (λ (i : Option (List Part)). with_parts s (between_tags tag end_tag scope i)) (sym none)

-- the tags and what stands between them
pub tags_written : {A : Type 0} (r : Result A RunFault) (s0 s1 s2 s3 s4 : SheetText) (vars : List (List ℕ × List ℕ)) (keeps : Bool) (tag : Tag) (end_tag : List ℕ) (b : Bindings → List Part) (inside : Option (List Part))
    → s1 ≡ s0 → keeps ≡ keeps_tags (with_vars s0.scope vars) tag.attributes.unwrap → s2 ≡ with_parts s1 (tag_parts keeps (template_output (with_vars s1.scope vars) tag.start))
    → s3 ≡ with_parts s2 (b (with_vars s2.scope vars)) → inside ≡ Some (b (with_vars s0.scope vars)) → WroteParts r s3 s4 (tag_parts keeps end_tag) → WroteParts r s0 s4 (between_tags tag end_tag (with_vars s0.scope vars) inside)
tags_written r s0 s1 s2 s3 s4 vars keeps tag end_tag b inside same is opened filled some closed =
    subst (λ (i : Option (List Part)). WroteParts r s0 s4 (between_tags tag end_tag (with_vars s0.scope vars) i)) (sym some)
    (in_tags r s0 s1 s2 s3 s4 vars keeps (λ (s : Bindings). keeps_tags s tag.attributes.unwrap) (λ (s : Bindings). template_output s tag.start) end_tag b same is opened filled closed)

-- the start tag isn't written
pub tags_stop : (f : RunFault) (s0 s1 s2 : SheetText) (vars : List (List ℕ × List ℕ)) (keeps : Bool) (tag : Tag) (end_tag : List ℕ) (b : Bindings → List Part) (inside : Option (List Part))
    → s1 ≡ s0 → keeps ≡ keeps_tags (with_vars s0.scope vars) tag.attributes.unwrap → inside ≡ Some (b (with_vars s0.scope vars)) → Stops f s1 (tag_parts keeps (template_output (with_vars s1.scope vars) tag.start))
    → Stops f s0 (between_tags tag end_tag (with_vars s0.scope vars) inside)
tags_stop f s0 s1 s2 vars keeps tag end_tag b inside same is some opened =
    subst (λ (i : Option (List Part)). Stops f s0 (between_tags tag end_tag (with_vars s0.scope vars) i)) (sym some)
    (start_stops f s0 s1 s2 vars keeps (λ (s : Bindings). keeps_tags s tag.attributes.unwrap) (λ (s : Bindings). template_output s tag.start) end_tag b same is opened)

-- what stands between them isn't written
pub between_stops : (f : RunFault) (s0 s1 s2 s3 : SheetText) (vars : List (List ℕ × List ℕ)) (keeps : Bool) (tag : Tag) (end_tag : List ℕ) (b : Bindings → List Part) (inside : Option (List Part))
    → s1 ≡ s0 → keeps ≡ keeps_tags (with_vars s0.scope vars) tag.attributes.unwrap → s2 ≡ with_parts s1 (tag_parts keeps (template_output (with_vars s1.scope vars) tag.start))
    → inside ≡ Some (b (with_vars s0.scope vars)) → Stops f s2 (b (with_vars s2.scope vars)) → Stops f s0 (between_tags tag end_tag (with_vars s0.scope vars) inside)
between_stops f s0 s1 s2 s3 vars keeps tag end_tag b inside same is opened some filled =
    subst (λ (i : Option (List Part)). Stops f s0 (between_tags tag end_tag (with_vars s0.scope vars) i)) (sym some)
    (inside_stops f s0 s1 s2 s3 vars keeps (λ (s : Bindings). keeps_tags s tag.attributes.unwrap) (λ (s : Bindings). template_output s tag.start) end_tag b same is opened filled)

-- ---- elements and blocks

-- an element that is left out
pub element_left_out : (s0 s1 : SheetText) (tag : Tag) (content : Bindings → List Part) (end_tag : List ℕ) (scope : Bindings) → s1 ≡ s0 → passes scope tag.attributes.test ≡ false → s1 ≡ with_parts s0 (element_parts tag content end_tag scope)
element_left_out s0 s1 tag content end_tag scope same fails = same ∙ sym (with_none s0) ∙ ap (with_parts s0) (sym (left_out tag content end_tag scope fails))

-- an element that stands
pub element_stands : {A : Type 0} (r : Result A RunFault) (s0 s1 s2 : SheetText) (vars : List (List ℕ × List ℕ)) (tag : Tag) (content : Bindings → List Part) (end_tag : List ℕ) (list : Option (List ℕ × List TemplatePiece))
    → s1 ≡ s0 → passes (with_vars s0.scope vars) tag.attributes.test ≡ true → tag.attributes.list ≡ list
    → WroteParts r s1 s2 (between_tags tag end_tag (with_vars s1.scope vars) (listed list (body_parts tag.attributes.body content) (with_vars s1.scope vars))) → WroteParts r s0 s2 (element_parts tag content end_tag (with_vars s0.scope vars))
element_stands r s0 s1 s2 vars tag content end_tag list same passed is w =
    let scope0 = with_vars s0.scope vars in
    let here = subst (λ (s : SheetText). WroteParts r s s2 (between_tags tag end_tag (with_vars s.scope vars) (listed list (body_parts tag.attributes.body content) (with_vars s.scope vars)))) same w in
    let there = subst (λ (l : Option (List ℕ × List TemplatePiece)). WroteParts r s0 s2 (between_tags tag end_tag scope0 (listed l (body_parts tag.attributes.body content) scope0))) (sym is) here in
    subst (λ (ps : List Part). WroteParts r s0 s2 ps) (sym (stands_is passed)) there
  where
    stands_is : passes (with_vars s0.scope vars) tag.attributes.test ≡ true
        → element_parts tag content end_tag (with_vars s0.scope vars) ≡ between_tags tag end_tag (with_vars s0.scope vars) (listed tag.attributes.list (body_parts tag.attributes.body content) (with_vars s0.scope vars))
    stands_is h = rw h refl

pub block_text : {A : Type 0} (r : Result A RunFault) (old new : SheetText) (one : Block) (pieces : List TemplatePiece) (scope : Bindings) → one ≡ Text pieces → WroteParts r old new (text_parts (template_output scope pieces)) → WroteParts r old new (block_parts one scope)
block_text r old new one pieces scope is w = subst (λ (ps : List Part). WroteParts r old new ps) (sym (ap (λ (b : Block). block_parts b scope) is ∙ text_is pieces scope)) w

pub block_element : {A : Type 0} (r : Result A RunFault) (old new : SheetText) (one : Block) (tag : Tag) (content : List Block) (end_tag : List ℕ) (scope : Bindings) → one ≡ Element tag content end_tag
    → WroteParts r old new (element_parts tag (λ (s : Bindings). blocks_parts s content) end_tag scope) → WroteParts r old new (block_parts one scope)
block_element r old new one tag content end_tag scope is w = subst (λ (ps : List Part). WroteParts r old new ps) (sym (ap (λ (b : Block). block_parts b scope) is ∙ element_is tag content end_tag scope)) w
