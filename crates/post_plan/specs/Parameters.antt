-- The parameters of a POST by their names (Apache Sling, "SlingPostServlet").
use Rattle.std.specs.Prelude.{◌==◌, ◌&&◌, ◌||◌, ℕ, Bool, not, nat_eq, if◌then◌else◌, List, [], ◌∷◌, Option, Some, None, codes, map, filter}
use Rattle.std.specs.List.{list_any, starts_with, before_last, after_last}
use Rattle.std.specs.Str.{bytes_eq}
use Rattle.sp_base.specs.Texts.{Text, Pairs}
use Rattle.post_plan.specs.declared.suffix.Suffix.{Suffix}
use Rattle.post_plan.specs.declared.suffix.Suffix.TheVariants.{Plain, TypeHint, DefaultValue, Delete, MoveFrom, CopyFrom, ValueFrom, IgnoreBlanks}

-- the word of the first parameter of this name
abbrev pub first_word : List ℕ → Pairs → Option (List ℕ)
first_word name [] = None
first_word name (p ∷ more) = if bytes_eq p.0 name then Some p.1 else first_word name more

-- all words of the parameters of this name
abbrev pub words_of : List ℕ → Pairs → List Text
words_of name pairs = map (λ p. p.1) (filter (λ p. bytes_eq p.0 name) pairs)

-- a parameter that steers the operation and is no content
abbrev pub is_control : List ℕ → Bool
is_control name = starts_with nat_eq name (codes ":") || bytes_eq name (codes "_charset_")

-- a name relative to the target and marked as content
abbrev pub is_marked : List ℕ → Bool
is_marked name = starts_with nat_eq name (codes "./")

-- whether any parameter's name is marked
abbrev pub any_marked : Pairs → Bool
any_marked pairs = list_any (λ p. is_marked p.0) pairs

-- where any name is marked, only names that are marked, climb or are absolute are content
abbrev pub is_content : Bool → List ℕ → Bool
is_content marked name = not (is_control name) && (not marked || (is_marked name || (starts_with nat_eq name (codes "../") || starts_with nat_eq name (codes "/"))))

-- the parameters that are content, where some are marked or none is
abbrev pub content_where : Bool → Pairs → Pairs
content_where marked pairs = filter (λ p. is_content marked p.0) pairs

-- the byte `@`, which begins a suffix
abbrev pub is_at_sign : ℕ → Bool
is_at_sign b = b == 64

-- the path in a name: what stands before its last `@`, or all of it
abbrev pub path_text : List ℕ → List ℕ
path_text name = if list_any is_at_sign name then before_last is_at_sign name else name

-- the suffix of this name
abbrev pub suffix_named : List ℕ → Option Suffix
suffix_named s = if bytes_eq s (codes "TypeHint") then Some TypeHint
    else (if bytes_eq s (codes "DefaultValue") then Some DefaultValue
    else (if bytes_eq s (codes "Delete") then Some Delete
    else (if bytes_eq s (codes "MoveFrom") then Some MoveFrom
    else (if bytes_eq s (codes "CopyFrom") then Some CopyFrom
    else (if bytes_eq s (codes "ValueFrom") then Some ValueFrom
    else (if bytes_eq s (codes "IgnoreBlanks") then Some IgnoreBlanks else None))))))

-- the suffix of a name, where it has none or one that is known
abbrev pub parameter_suffix : List ℕ → Option Suffix
parameter_suffix name = if list_any is_at_sign name then suffix_named (after_last is_at_sign name) else Some Plain
