use Rattle.std.proofs.Common.{◌≡◌, ◌∙◌, Some, sym, ap, List, ℕ}
use Rattle.sp_base.specs.Paths.{name_of, parent_of}
use Rattle.sp_base.specs.PathTexts.{spelling_of}
use Rattle.cover_rules.specs.Pages.{has_dot, is_file}
use Rattle.cover_rules.proofs.PageLemmas.{no_key, a_key, no_file, no_names, dotted_folder, a_page}
use Rattle.cover_rules.proofs.page.key_at.Goals as goal

pub returns-then-not-is_file : goal.returns-then-not-is_file
returns-then-not-is_file c =
    sym (no_key c.args.path.now (no_file c.args.path.now (ap is_file (sym c.name-file.ensures.name) ∙ sym c.if-not-is_file.ensures)))

pub returns-then-not-have_names : goal.returns-then-not-have_names
returns-then-not-have_names c = sym (no_key c.args.path.now (no_names c.args.path.now (sym c.if-not-have_names.ensures)))

pub returns-then-has_dot : goal.returns-then-has_dot
returns-then-has_dot c =
    let folder = c.spelling.ensures.spelled ∙ ap spelling_of c.in_ok-folder.ensures in
    sym (no_key c.args.path.now (dotted_folder c.args.path.now (ap has_dot (sym folder) ∙ sym c.if-has_dot.ensures)))

pub returns : goal.returns
returns c =
    let folder = c.spelling.ensures.spelled ∙ ap spelling_of c.in_ok-folder.ensures in
    let page = a_page c.args.path.now (ap is_file (sym c.name-file.ensures.name) ∙ sym c.if-not-is_file.ensures) (sym c.if-not-have_names.ensures)
    (ap has_dot (sym folder) ∙ sym c.if-has_dot.ensures) in
    let file : c.in_ok-file.file ≡ name_of c.args.path.now = c.in_ok-file.ensures ∙ c.name-file.ensures.name in
    ap (λ (folder : List (List ℕ)). Some (record { folder = folder; file = c.in_ok-file.file })) c.in_ok-folder.ensures
    ∙ ap (λ (file : List ℕ). Some (record { folder = parent_of c.args.path.now; file = file })) file ∙ sym (a_key c.args.path.now page)
