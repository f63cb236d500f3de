-- What a script writes where it stands: bytes, and the texts that are put in there from elsewhere.
use Rattle.std.specs.Prelude.{ℕ, Bool, true, false, List, [], ◌∷◌, map}
use Rattle.std.specs.List.{flat_map, count_by}
use Rattle.sp_base.specs.Texts.{Pairs}

-- a byte; a round, in which the content of a list stands for one item, and which writes nothing by itself; the text of the script of this
-- name, with the variables of the setting; the text of the resource of this name
pub data Part : Type 0 where
  Byte : ℕ → Part
  Round : Part
  Script : List ℕ → Pairs → Part
  Resource : List ℕ → Part

-- the bytes of a text
abbrev pub text_parts : List ℕ → List Part
text_parts t = map Byte t

-- the byte that a part is
abbrev pub part_text : Part → List ℕ
part_text (Byte c) = c ∷ []
part_text _ = []

-- the text that is written beside what is put in
abbrev pub text_of_parts : List Part → List ℕ
text_of_parts ps = flat_map part_text ps

-- whether a part is put in from elsewhere
abbrev pub is_inclusion : Part → Bool
is_inclusion (Byte c) = false
is_inclusion Round = false
is_inclusion (Script name vars) = true
is_inclusion (Resource name) = true

-- how many scripts and resources are put in
abbrev pub inclusions : List Part → ℕ
inclusions ps = count_by is_inclusion ps

-- whether a part is a round
abbrev pub is_round : Part → Bool
is_round Round = true
is_round _ = false

-- how often the contents of lists stand
abbrev pub rounds : List Part → ℕ
rounds ps = count_by is_round ps

-- what of a part is seen
abbrev pub seen_part : Part → List Part
seen_part (Byte c) = Byte c ∷ []
seen_part Round = []
seen_part (Script name vars) = Script name vars ∷ []
seen_part (Resource name) = Resource name ∷ []

-- parts without the rounds
abbrev pub seen : List Part → List Part
seen ps = flat_map seen_part ps
