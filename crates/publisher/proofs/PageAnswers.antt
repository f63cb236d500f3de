-- The answer of a page, from what was gathered.
use Rattle.std.proofs.Common.{◌≡◌, ◌⊎◌, ◌≤◌, ◌<◌, inl, inr, ℕ, Bool, true, false, List, [], length, refl, ap, sym, subst, ◌∙◌}
use Rattle.std.specs.Prelude.{if◌then◌else◌}
use Rattle.sp_base.specs.Limits.{most_rendered_bytes}
use Rattle.sp_base.specs.Texts.{Pairs, Properties, Segments}
use Rattle.sp_base.specs.declared.answer.Mark.{Mark}
use Rattle.resource_tree.specs.Content.{Content}
use Rattle.resource_tree.specs.Seen.{Resource}
use Rattle.htl_blocks.specs.declared.block.Block.{Block}
use Rattle.htl_blocks.specs.Refused.{most_inclusions, most_rounds}
use Rattle.htl_blocks.specs.Written.{blocks_parts}
use Rattle.error_answers.specs.Errors.{error_answer}
use Rattle.publisher.specs.Errors.{answer_with_body}
use Rattle.publisher.specs.Gathering.{IsPassed}
use Rattle.publisher.specs.declared.waiting.Waiting.{Waiting}
use Rattle.publisher.specs.Waits.{nothing}
use Rattle.publisher.specs.Pages.{GatheredPage, ScriptSetting, bindings_at, blank, inclusion, is_over, joined, most_levels, page_of, parts_page, setting_for}
use Rattle.publisher.specs.Rendering.{html_kind, page_answer, representation_of}
use Rattle.publisher.proofs.PageLemmas.{blank_joined, not_over, over_or_long, too_long}

-- what is gathered in the setting of a resource, without variables, is its page
pub page_is : (tree : Content) (res : Resource) (script path : Segments) (props : Properties) (vars : Pairs) (blocks : List Block) (setting : ScriptSetting) → setting ≡ record { script = script; path = path; props = props } → path ≡ res.path → props ≡ res.props → vars ≡ []
    → parts_page (inclusion tree most_levels setting) (blocks_parts (bindings_at setting vars) blocks) ≡ page_of tree (setting_for script res) blocks
page_is tree res script path props vars blocks setting here path_is props_is none =
    let there : setting ≡ setting_for script res = here ∙ (λ i. record { script = script; path = path_is i; props = props_is i }) in
    λ i. parts_page (inclusion tree most_levels (there i)) (blocks_parts (bindings_at (there i) (none i)) blocks)

gathered_whole : (old new page : GatheredPage) → old ≡ blank → new ≡ joined old page → new ≡ page
gathered_whole old new page none is = is ∙ ap (λ (p : GatheredPage). joined p page) none ∙ blank_joined page

-- within its limits it is its text
pub within_limits : (mark : Mark) (old new page : GatheredPage) (body : List ℕ) → old ≡ blank → new ≡ joined old page → body ≡ new.text → new.inclusions ≤ most_inclusions → new.rounds ≤ most_rounds → new.is_deep ≡ false
    → representation_of html_kind mark body ≡ page_answer mark page
within_limits mark old new page body none is text included repeated deep =
    let whole : new ≡ page = gathered_whole old new page none is in
    ap (representation_of html_kind mark) text
    ∙ sym (ap (λ (b : Bool). if b then error_answer 500 else representation_of html_kind mark new.text) (not_over new included repeated deep))
    ∙ ap (page_answer mark) whole

too_long_answer : (over : Bool) (mark : Mark) (text : List ℕ) → most_rendered_bytes < length text → (if over then error_answer 500 else representation_of html_kind mark text) ≡ error_answer 500
too_long_answer true mark text long = refl
too_long_answer false mark text long = ap (λ (b : Bool). if b then answer_with_body 200 html_kind mark text else error_answer 500) (too_long most_rendered_bytes (length text) long)

-- over them it is an error
pub over_limits : (mark : Mark) (waiting : Waiting) (old page : GatheredPage) → waiting ≡ nothing → old ≡ blank → IsPassed waiting (joined old page) → error_answer 500 ≡ page_answer mark page
over_limits mark waiting old page empty none passed =
    by_limit (over_or_long page (subst (λ (w : Waiting). IsPassed w page) empty (subst (IsPassed waiting) (ap (λ (p : GatheredPage). joined p page) none ∙ blank_joined page) passed)))
  where
    by_limit : (is_over page ≡ true) ⊎ (most_rendered_bytes < length page.text) → error_answer 500 ≡ page_answer mark page
    by_limit (inl over) = sym (ap (λ (b : Bool). if b then error_answer 500 else representation_of html_kind mark page.text) over)
    by_limit (inr long) = sym (too_long_answer (is_over page) mark page.text long)
