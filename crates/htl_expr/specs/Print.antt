-- How a value is printed. `reference_place` and `first_reference` are needed by proofs and private functions alone.
use Rattle.std.specs.Prelude.{◌≡◌, ℕ, suc, is_some, ◌==◌, ◌||◌, Bool, true, not, if◌then◌else◌, List, [], ◌∷◌, ◌++◌, Option, Some, None, codes, flat_map, unwrap_or, ℤ, map}
use Rattle.std.specs.List.{list_all}
use Rattle.std.specs.Fmt.{signed_decimal}
use Rattle.sp_base.specs.Texts.{Text}
use Rattle.htl_expr.specs.declared.out.Out.{Out}
use Rattle.htl_expr.specs.declared.out.Out.TheVariants as out
use Rattle.htl_syntax.specs.declared.expression.Context.{Context}
use Rattle.htl_syntax.specs.declared.expression.Context.TheVariants as context

-- a truth as it is printed
abbrev pub truth_text : Bool → List ℕ
truth_text b = if b then codes "true" else codes "false"

-- texts with a join text between each two
abbrev pub concatenation : List ℕ → List Text → List ℕ
concatenation join [] = []
concatenation join (text ∷ texts) = text ++ flat_map (λ next. join ++ next) texts

-- the text of a value before it is escaped: nothing is empty, and a number is in decimal
abbrev pub plain : List ℕ → Out → List ℕ
plain join out.Nothing = []
plain join (out.Truth b) = truth_text b
plain join (out.Long n) = signed_decimal n
plain join (out.Text text) = text
plain join (out.List texts) = concatenation join texts

-- the five characters that mean something in HTML, each with its character reference
abbrev pub reference : ℕ → Option (List ℕ)
reference c =
    if c == 38 then Some (codes "&amp;")
    else (if c == 60 then Some (codes "&lt;")
    else (if c == 62 then Some (codes "&gt;")
    else (if c == 34 then Some (codes "&#34;")
    else (if c == 39 then Some (codes "&#39;")
    else None))))

-- a byte as it is written: its reference, or the byte
abbrev pub html_escape : ℕ → List ℕ
html_escape c = unwrap_or (reference c) (c ∷ [])

-- how many bytes stand before the first that has a reference
unfoldable pub reference_place : List ℕ → ℕ
reference_place [] = 0
reference_place (c ∷ t) = if is_some (reference c) then 0 else suc (reference_place t)

-- the reference of the first byte
unfoldable pub first_reference : List ℕ → Option (List ℕ)
first_reference [] = None
first_reference (c ∷ t) = reference c

-- the text that stands between the items of a list: the option `join`, or a comma (HTL specification 1.4, "Array Join")
abbrev pub join_text : Option (List ℕ) → List ℕ
join_text None = codes ","
join_text (Some text) = text

-- escaped, unless the option `context` is 'unsafe' (HTL specification 1.4, "Display Context")
abbrev pub in_context : Option Context → List ℕ → List ℕ
in_context None text = flat_map html_escape text
in_context (Some context.Text) text = flat_map html_escape text
in_context (Some context.Unsafe) text = text

-- no character that begins or ends a tag, or ends the value of an attribute in quotes
abbrev pub is_inert : ℕ → Bool
is_inert c = not (c == 60 || (c == 62 || (c == 34 || c == 39)))

-- what is written begins no tag and ends no value in quotes, unless the option `context` is 'unsafe'
abbrev pub IsInert : Option Context → List ℕ → Type 0
IsInert None text = list_all is_inert text ≡ true
IsInert (Some context.Text) text = list_all is_inert text ≡ true
IsInert (Some context.Unsafe) text = Unit {0}

-- numbers in decimal, with a join text between each two
abbrev pub joined_numbers : List ℕ → List ℤ → List ℕ
joined_numbers join numbers = concatenation join (map signed_decimal numbers)
