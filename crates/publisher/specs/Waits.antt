-- How much of parts waits to be written, while a page is put together. Only proofs and private functions need this.
use Rattle.std.specs.Prelude.{◌≡◌, ◌≤◌, List, length}
use Rattle.htl_blocks.specs.Parts.{Part, inclusions, text_of_parts}
use Rattle.publisher.specs.declared.waiting.Waiting.{Waiting}

-- nothing waits
abbrev pub nothing : Waiting
nothing = record { text = 0; inclusions = 0 }

-- so much stands in parts, whatever they put in
abbrev pub IsSizeOf : Waiting → List Part → Type 0
IsSizeOf waiting ps = (waiting.text ≡ length (text_of_parts ps)) × (waiting.inclusions ≡ inclusions ps)

-- so much stands in parts at least
abbrev pub IsLeastOf : Waiting → List Part → Type 0
IsLeastOf waiting ps = (waiting.text ≤ length (text_of_parts ps)) × (waiting.inclusions ≤ inclusions ps)
