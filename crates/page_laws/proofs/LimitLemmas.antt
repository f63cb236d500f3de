-- Which pages are refused.
use Rattle.std.proofs.Common.{◌≡◌, ◌↔◌, ◌⊎◌, inl, inr, ◌<◌, nat_le, nat_lt, Bool, true, false, cond, ◌||◌, List, [], length, refl, ap, sym, ◌∙◌, arith}
use Rattle.std.proofs.lemmas.Bool.{leb-false, lt-leb, lt-ltb, ltb-true, or_cases, or_left, or_right}
use Rattle.sp_base.specs.Limits.{most_rendered_bytes}
use Rattle.sp_base.specs.declared.answer.Answer.{Answer}
use Rattle.sp_base.specs.declared.answer.Mark.{Mark}
use Rattle.resource_tree.specs.Content.{Content}
use Rattle.htl_blocks.specs.declared.block.Block.{Block}
use Rattle.htl_blocks.specs.Refused.{most_inclusions, most_rounds}
use Rattle.htl_blocks.specs.Written.{blocks_parts}
use Rattle.error_answers.specs.Errors.{error_answer}
use Rattle.publisher.specs.Errors.{answer_with_body}
use Rattle.publisher.specs.Pages.{GatheredPage, ScriptSetting, bindings_at, is_over, most_levels, page_of}
use Rattle.publisher.specs.Rendering.{html_kind, page_answer}
use Rattle.page_laws.specs.Limits.{PassesALimit}
use Rattle.page_laws.proofs.DepthLemmas.{deep_nests, nests_deep}

-- ---- the status of a page

status_of : (over small : Bool) (mark : Mark) (page : GatheredPage) → (cond over (error_answer 500) (cond small (answer_with_body 200 html_kind mark page.text) (error_answer 500))).status ≡ 500 → (over ≡ true) ⊎ (small ≡ false)
unfolding error_answer
status_of true small mark page e = inl refl
status_of false true mark page e = absurd (omega (arith, e))
status_of false false mark page e = inr refl

is_refused : (over small : Bool) (mark : Mark) (page : GatheredPage) → (over ≡ true) ⊎ (small ≡ false) → (cond over (error_answer 500) (cond small (answer_with_body 200 html_kind mark page.text) (error_answer 500))).status ≡ 500
unfolding error_answer
is_refused true small mark page e = refl
is_refused false true mark page (inl e) = absurd cc
is_refused false true mark page (inr e) = absurd cc
is_refused false false mark page e = refl

-- ---- the limits

-- what makes a page over
over_means : (page : GatheredPage) → is_over page ≡ true → (page.is_deep ≡ true) ⊎ ((most_inclusions < page.inclusions) ⊎ (most_rounds < page.rounds))
over_means page e = go (or_cases page.is_deep (nat_lt most_inclusions page.inclusions || nat_lt most_rounds page.rounds) e)
  where
    counted : (nat_lt most_inclusions page.inclusions ≡ true) ⊎ (nat_lt most_rounds page.rounds ≡ true) → (page.is_deep ≡ true) ⊎ ((most_inclusions < page.inclusions) ⊎ (most_rounds < page.rounds))
    counted (inl f) = inr (inl (ltb-true most_inclusions page.inclusions f))
    counted (inr f) = inr (inr (ltb-true most_rounds page.rounds f))

    go : (page.is_deep ≡ true) ⊎ ((nat_lt most_inclusions page.inclusions || nat_lt most_rounds page.rounds) ≡ true) → (page.is_deep ≡ true) ⊎ ((most_inclusions < page.inclusions) ⊎ (most_rounds < page.rounds))
    go (inl f) = inl f
    go (inr f) = counted (or_cases (nat_lt most_inclusions page.inclusions) (nat_lt most_rounds page.rounds) f)

means_over : (page : GatheredPage) → (page.is_deep ≡ true) ⊎ ((most_inclusions < page.inclusions) ⊎ (most_rounds < page.rounds)) → is_over page ≡ true
means_over page (inl deep) = or_left page.is_deep (nat_lt most_inclusions page.inclusions || nat_lt most_rounds page.rounds) deep
means_over page (inr (inl more)) =
    or_right page.is_deep (nat_lt most_inclusions page.inclusions || nat_lt most_rounds page.rounds) (or_left (nat_lt most_inclusions page.inclusions) (nat_lt most_rounds page.rounds) (lt-ltb most_inclusions page.inclusions more))
means_over page (inr (inr more)) =
    or_right page.is_deep (nat_lt most_inclusions page.inclusions || nat_lt most_rounds page.rounds) (or_right (nat_lt most_inclusions page.inclusions) (nat_lt most_rounds page.rounds) (lt-ltb most_rounds page.rounds more))

over_passes : (tree : Content) (setting : ScriptSetting) (blocks : List Block) → is_over (page_of tree setting blocks) ≡ true → PassesALimit tree setting blocks
over_passes tree setting blocks e = go (over_means (page_of tree setting blocks) e)
  where
    go : ((page_of tree setting blocks).is_deep ≡ true) ⊎ ((most_inclusions < (page_of tree setting blocks).inclusions) ⊎ (most_rounds < (page_of tree setting blocks).rounds)) → PassesALimit tree setting blocks
    go (inl deep) = PassesALimit.TooDeep (deep_nests tree most_levels setting (blocks_parts (bindings_at setting []) blocks) deep)
    go (inr (inl more)) = PassesALimit.TooMuchPutIn more
    go (inr (inr more)) = PassesALimit.TooManyRounds more

-- a page that passes a limit is over, or too long
passes_over : (tree : Content) (setting : ScriptSetting) (blocks : List Block) → PassesALimit tree setting blocks
    → (is_over (page_of tree setting blocks) ≡ true) ⊎ (nat_le (length (page_of tree setting blocks).text) most_rendered_bytes ≡ false)
passes_over tree setting blocks (PassesALimit.TooLong more) = inr (lt-leb (length (page_of tree setting blocks).text) most_rendered_bytes more)
passes_over tree setting blocks (PassesALimit.TooMuchPutIn more) = inl (means_over (page_of tree setting blocks) (inr (inl more)))
passes_over tree setting blocks (PassesALimit.TooManyRounds more) = inl (means_over (page_of tree setting blocks) (inr (inr more)))
passes_over tree setting blocks (PassesALimit.TooDeep nests) = inl (means_over (page_of tree setting blocks) (inl (nests_deep tree most_levels setting (blocks_parts (bindings_at setting []) blocks) nests)))

refused_passes : (tree : Content) (setting : ScriptSetting) (blocks : List Block) → (is_over (page_of tree setting blocks) ≡ true) ⊎ (nat_le (length (page_of tree setting blocks).text) most_rendered_bytes ≡ false) → PassesALimit tree setting blocks
refused_passes tree setting blocks (inl over) = over_passes tree setting blocks over
refused_passes tree setting blocks (inr long) = PassesALimit.TooLong (leb-false (length (page_of tree setting blocks).text) most_rendered_bytes long)

pub refused_is : (tree : Content) (mark : Mark) (setting : ScriptSetting) (blocks : List Block) (answer : Answer) → answer ≡ page_answer mark (page_of tree setting blocks) → (answer.status ≡ 500) ↔ PassesALimit tree setting blocks
refused_is tree mark setting blocks answer is =
    let page = page_of tree setting blocks in
    let over = is_over page in
    let small = nat_le (length page.text) most_rendered_bytes in
    (λ e. refused_passes tree setting blocks (status_of over small mark page (sym (ap (λ (a : Answer). a.status) is) ∙ e)), λ x. ap (λ (a : Answer). a.status) is ∙ is_refused over small mark page (passes_over tree setting blocks x))
