use Rattle.std.proofs.Common.{◌∙◌, ◌++◌, ◌∷◌, [], sym, ap, List, ℕ, append_assoc}
use Rattle.sp_base.specs.PathTexts.{spelling_of}
use Rattle.cover_rules.proofs.PageLemmas.{page_text_is}
use Rattle.cover_rules.proofs.page.PageKey.text.Goals as goal

pub returns : goal.returns
returns c =
    let key = c.args.self.now in
    let folder = c.spelling-folder.result.now in
    let file = c.text-file.result.now in
    c.from.ensures ∙ c.in_ok-push_str-3.ensures.bytes
    ∙ ap (λ (t : List ℕ). t ++ file) (c.in_ok-push_str-2.ensures.bytes ∙ ap (λ (t : List ℕ). t ++ 47 ∷ []) (c.in_ok-push_str.ensures.bytes ∙ ap (λ (t : List ℕ). t ++ folder) c.in_ok-text.ensures.bytes))
    ∙ append_assoc folder (47 ∷ []) file
    ∙ ap (λ (t : List ℕ). t ++ 47 ∷ file) c.spelling-folder.ensures.spelled ∙ ap (λ (t : List ℕ). spelling_of key.folder ++ 47 ∷ t) c.text-file.ensures
    ∙ sym (page_text_is key (c.segments_and_their_spelling.ensures.spelled key.file))
