-- What a tree maps a text to: turn by turn, the pair that decides puts its target in the place of its prefix (Apache Sling, "Mappings for
-- resource resolution"; the limit of turns is this project's own).
use Rattle.std.specs.Prelude.{◌≡◌, ◌⊎◌, ◌++◌, ℕ, zero, suc, List, [], ◌∷◌, Option, Some, None, codes, drop}
use Rattle.resource_tree.specs.Content.{Content}
use Rattle.url_maps.specs.declared.answer.MapAnswer.{MapAnswer}
use Rattle.url_maps.specs.declared.answer.MapAnswer.TheVariants.{Inside, Away}
use Rattle.url_maps.specs.declared.pairs.Pair.{Pair}
use Rattle.url_maps.specs.declared.pairs.PairKind.{PairKind}
use Rattle.url_maps.specs.declared.pairs.PairKind.TheVariants.{VanityPath}
use Rattle.url_maps.specs.Patterns.{Asked, asked_for}
use Rattle.url_maps.specs.Pairs.{Decides, HasNoPair}
use Rattle.sp_base.specs.Texts.{Text}

-- what follows the target: what followed the prefix, after a vanity path's target at least `.html`
abbrev pub target_ending : PairKind → List ℕ → List ℕ
target_ending VanityPath [] = codes ".html"
target_ending kind rest = rest

-- the text after a turn
abbrev pub text_after : Pair → ℕ → List ℕ → List ℕ
text_after pair at text = pair.target ++ target_ending pair.kind (drop at text)

-- a pair ends the turns by leading away
abbrev pub leads : Option ℕ → List ℕ → (MapAnswer → Type 0) → MapAnswer → Type 0
leads (Some status) text further answer = answer ≡ Away status text
leads None text further answer = further answer

-- a turn in which a pair decides
pub record MappingTurn (tree : Content) (asked : Option Asked) (text : List ℕ) (further : List ℕ → MapAnswer → Type 0) (answer : MapAnswer) : Type 0 where
  pub at : ℕ
  pub pair : Pair
  pub decides : Decides tree asked text at pair
  pub outcome : leads pair.away (text_after pair at text) (further (text_after pair at text)) answer

-- What n turns make of a text, the first of them with the mappings that are asked for: they end where no pair applies, where a pair leads away, or after the
-- last.
abbrev pub Turns : Content → ℕ → Option Asked → List ℕ → MapAnswer → Type 0
Turns tree zero asked text answer = answer ≡ Inside text
Turns tree (suc n) asked text answer = (HasNoPair tree asked text × (answer ≡ Inside text)) ⊎ MappingTurn tree asked text (Turns tree n None) answer

-- the most turns (`docs/DECISIONS.md`, "Mappings")
abbrev pub most_turns : ℕ
most_turns = 16

-- The tree maps the text to the answer, for a host and a port: mappings count in the first turn alone.
unfoldable pub IsMapped : Content → List ℕ → ℕ → List ℕ → MapAnswer → Type 0
IsMapped tree host port text answer = Turns tree most_turns (Some (asked_for host port text)) text answer

-- no pair applies to the text in the first turn
abbrev pub HasNoPairFor : Content → Text → ℕ → Text → Type 0
HasNoPairFor tree host port text = HasNoPair tree (Some (asked_for host port text)) text

-- answers to which a text is mapped are one
abbrev pub AreOneIfMapped : Content → Text → ℕ → Text → MapAnswer → MapAnswer → Type 0
AreOneIfMapped tree host port text answer other = IsMapped tree host port text answer → IsMapped tree host port text other → answer ≡ other
