-- What lists stand for.
use Rattle.std.specs.Prelude.{ℕ, List}
use Rattle.sp_base.specs.declared.value.Value.{Value}

-- a text, as its bytes
abbrev pub Text : Type 0
Text = List ℕ

-- a path, as its segments; the root has none
abbrev pub Segments : Type 0
Segments = List Text

-- a path's text: a slash before each segment, nothing for the root
abbrev pub PathText : Type 0
PathText = Text

-- names and what stands under each, in their order, of texts
abbrev pub Pairs : Type 0
Pairs = List (Text × Text)

-- the properties of a node, by name
abbrev pub Properties : Type 0
Properties = List (Text × Value)
