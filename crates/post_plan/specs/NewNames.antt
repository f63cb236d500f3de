-- The name of a node that a POST makes (Apache Sling, "SlingPostServlet", "Algorithm for node name creation").
use Rattle.std.specs.Prelude.{◌==◌, ℕ, Bool, true, false, not, if◌then◌else◌, List, [], ◌∷◌, Option, Some, None, unwrap_or, codes, length, take}
use Rattle.std.specs.List.{find}
use Rattle.std.specs.Char.{is_ascii_alphanumeric, to_ascii_lowercase}
use Rattle.sp_base.specs.Texts.{Text, Pairs}
use Rattle.post_plan.specs.declared.operation.NameWish.{NameWish}
use Rattle.post_plan.specs.declared.operation.NameWish.TheVariants.{Exact, Hint}
use Rattle.post_plan.specs.Parameters.{first_word, words_of}

-- ASCII letters in lower case and digits; each run of other bytes is one `_`
unfoldable pub name_bytes : Bool → List ℕ → List ℕ
name_bytes run [] = []
name_bytes run (b ∷ text) = if is_ascii_alphanumeric b then to_ascii_lowercase b ∷ name_bytes false text
    else (if run then name_bytes true text else 95 ∷ name_bytes true text)

-- the most bytes of a made name
abbrev pub longest_made : ℕ
longest_made = 20

-- a name, or `node` where it is empty
abbrev pub or_node : List ℕ → List ℕ
or_node name = if length name == 0 then codes "node" else name

-- the name that is made from a word
abbrev pub made_name : List ℕ → List ℕ
made_name word = or_node (take longest_made (name_bytes false word))

-- the parameters whose words a name is made from
abbrev pub sources : List Text
sources = codes "title" ∷ codes "jcr:title" ∷ codes "name" ∷ codes "description" ∷ codes "jcr:description" ∷ codes "abstract" ∷ codes "text" ∷ codes "jcr:text" ∷ []

-- the first word of a name that isn't empty
abbrev pub full_word : List ℕ → Pairs → Option (List ℕ)
full_word name pairs = find (λ word. not (length word == 0)) (words_of name pairs)

-- the first word, not empty, of the first of these names that has one
unfoldable pub source_in : List Text → Pairs → List ℕ
source_in [] pairs = []
source_in (name ∷ names) pairs = unwrap_or (full_word name pairs) (source_in names pairs)

-- the word that a name is made from where no hint of it is given
abbrev pub first_source : Pairs → List ℕ
first_source pairs = source_in sources pairs

-- the name made from the hint, where one is given, else from the sources
abbrev pub hinted_wish : Option (List ℕ) → Pairs → NameWish
hinted_wish (Some word) pairs = Hint (made_name word)
hinted_wish None pairs = Hint (made_name (first_source pairs))

-- the name itself, where it is given, else one that is made
abbrev pub name_wish : Option (List ℕ) → Pairs → NameWish
name_wish (Some word) pairs = Exact word
name_wish None pairs = hinted_wish (first_word (codes ":nameHint") pairs) pairs

-- the name of a new node: `:name`, else one made from `:nameHint`, else from the first word, not empty, of the sources
abbrev pub wish_of : Pairs → NameWish
wish_of pairs = name_wish (first_word (codes ":name") pairs) pairs

-- the text of a wished name, be it given or made
abbrev pub wished_name : NameWish → List ℕ
wished_name (Exact name) = name
wished_name (Hint name) = name
