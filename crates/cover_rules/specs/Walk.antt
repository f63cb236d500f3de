-- What is left of a page's path after a handle's. Only proofs and private functions need this.
use Rattle.std.specs.Prelude.{◌≡◌, ◌≢◌, ◌<◌, ◌++◌, ◌∷◌, [], ℕ, List, length, ◌==◌, ◌&&◌, ◌||◌, Bool, codes, nat_eq, not}
use Rattle.std.specs.List.{starts_with}
use Rattle.sp_base.specs.PathTexts.{spelling_of, text_under}
use Rattle.cover_rules.specs.declared.page.PageKey.{PageKey}
use Rattle.cover_rules.specs.declared.walk.Rest.{Rest}
use Rattle.cover_rules.specs.declared.walk.Rest.TheVariants.{Folder, File}

-- a page's path with a slash before each segment
abbrev pub page_spelling : PageKey → List ℕ
page_spelling key = spelling_of key.folder ++ 47 ∷ key.file

-- the text that is left
abbrev pub left_text : List ℕ → Rest → List ℕ
left_text file (Folder text) = text.now ++ 47 ∷ file
left_text file (File text) = text.now

-- a page's path begins with a prefix, which ends in its folder, or which goes on into its file
abbrev pub Leaves : PageKey → List ℕ → Rest → Type 0
Leaves key prefix (Folder text) = spelling_of key.folder ≡ prefix ++ text.now
Leaves key prefix (File text) = (page_spelling key ≡ prefix ++ text.now) × (length (spelling_of key.folder) < length prefix)

-- it doesn't begin with the prefix
abbrev pub Lacks : PageKey → List ℕ → Type 0
Lacks key prefix = (more : List ℕ) → page_spelling key ≢ prefix ++ more

-- one segment more
abbrev pub LeavesNext : List ℕ → List ℕ → Rest → Rest → Type 0
LeavesNext file beginning (Folder text) (Folder more) = text.now ≡ beginning ++ more.now
LeavesNext file beginning (Folder text) (File more) = (text.now ≡ []) × (47 ∷ file ≡ beginning ++ more.now)
LeavesNext file beginning (File text) (File more) = text.now ≡ beginning ++ more.now
LeavesNext file beginning (File text) (Folder more) = ⊥

-- by what is left of the page's folder: whether the page has the handle's name and an extension, is of a part of its content, or lies below it
abbrev pub deletes_by_folder : ℕ → Bool → List ℕ → Bool
deletes_by_folder depth below rest = not (depth == 0) && starts_with nat_eq rest (codes ".") || (text_under rest (codes "/_jcr_content") || below && text_under rest [])
